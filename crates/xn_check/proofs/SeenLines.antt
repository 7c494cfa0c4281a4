-- The drawing of a text, whatever its graph, is judged line by line.
use Rattle.std.proofs.Common.{◌≡◌, ℕ, Bool, List, ◌∷◌, Ok, Err}
use Rattle.xn_draw.specs.declared.results.Seen.{Seen}
use Rattle.xn_text.specs.Pieces.{lines_of}
use Rattle.xn_proof.specs.Forms.{Reached}
use Rattle.xn_proof.specs.declared.flaw.AnswerErr.{AnswerErr}
use Rattle.xn_check.specs.FrontFits.{FrontStands}
use Rattle.xn_check.specs.FrontSaid.{FrontSeen}
use Rattle.xn_check.specs.Gives.{RefusesText}
use Rattle.xn_check.specs.Judging.{Took}
use Rattle.xn_check.specs.Verdict.{front_rules}
use Rattle.xn_check.proofs.Folds.{Leads, stops, took}

-- ---- all lines

-- so far each line means what it must
pub record Seeing (text : List ℕ) (kept : Reached × FrontSeen) (left : ℕ × List ℕ) : Type 0 where
  pub ready : FrontStands kept.0.1 kept.1.front
  pub leads : Leads front_rules text kept.0 kept.1 left

module _ (text : List ℕ) (kept : Reached × FrontSeen) (left : ℕ × List ℕ) (seeing : Seeing text kept left) where
  module _ (after : ℕ × List ℕ) (line : ℕ × List ℕ × Bool) (more : Reached × FrontSeen) (taken : lines_of left ≡ line ∷ lines_of after) where
    -- one line more
    pub line_on : Took front_rules kept.0 kept.1 (line.1, line.2) more.0 more.1 (Ok tt) → FrontStands more.0.1 more.1.front → Seeing text more after
    line_on t ready =
        record { ready = ready; leads = took front_rules text kept.0 more.0 kept.1 more.1 left after line taken t seeing.leads }

    -- a line that is refused
    pub line_stops : (e : AnswerErr) → Took front_rules kept.0 kept.1 (line.1, line.2) more.0 more.1 (Err e) → RefusesText front_rules text e
    line_stops e t = stops front_rules text e kept.0 more.0 kept.1 more.1 left after line taken t seeing.leads
