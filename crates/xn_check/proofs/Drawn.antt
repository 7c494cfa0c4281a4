-- The drawing of a text is judged line by line.
use Rattle.std.proofs.Common.{◌≡◌, ℕ, Bool, List, ◌∷◌, Ok, Err, sym, subst}
use Rattle.xn_model.specs.Graph.{Graph}
use Rattle.xn_kinds.specs.declared.drawings.Drawing.{Drawing}
use Rattle.xn_text.specs.Pieces.{lines_of}
use Rattle.xn_proof.specs.Forms.{Line, Reached, next_at}
use Rattle.xn_proof.specs.declared.flaw.AnswerErr.{AnswerErr}
use Rattle.xn_proof.specs.declared.item.Item.{Item}
use Rattle.xn_check.specs.FrontFits.{FrontFits, FrontStands}
use Rattle.xn_check.specs.FrontSaid.{FrontSaid, front_said}
use Rattle.xn_check.specs.Gives.{RefusesText}
use Rattle.xn_check.specs.Judging.{Took}
use Rattle.xn_check.specs.Verdict.{draw_rules}
use Rattle.xn_check.proofs.Folds.{Leads, stops, took}
use Rattle.xn_check.proofs.FrontPlaces.{line_ready}

-- ---- one line

module _ (at later : Reached) (f : FrontSaid) (line : Line) (x : Item) (is : next_at at line ≡ Ok (x, later)) (ready : FrontStands at.1 f) where
  pub front_fits : FrontFits f x
  front_fits = (line_ready f at line (x, later) is ready).0

  pub stands_on : (h : FrontSaid) → h ≡ front_said f x → FrontStands later.1 h
  stands_on h said = subst (FrontStands later.1) (sym said) (line_ready f at line (x, later) is ready).1

-- ---- all lines

-- so far each line means what it must
pub record Drawn (g : Graph) (loops : ℕ) (text : List ℕ) (kept : Reached × FrontSaid) (left : ℕ × List ℕ) : Type 0 where
  pub ready : FrontStands kept.0.1 kept.1
  pub leads : Leads (draw_rules g loops) text kept.0 kept.1 left

module _ (g : Graph) (loops : ℕ) (text : List ℕ) (kept : Reached × FrontSaid) (left : ℕ × List ℕ) (drawn : Drawn g loops text kept left) where
  module _ (after : ℕ × List ℕ) (line : ℕ × List ℕ × Bool) (more : Reached × FrontSaid) (taken : lines_of left ≡ line ∷ lines_of after) where
    -- one line more
    pub line_on : Took (draw_rules g loops) kept.0 kept.1 (line.1, line.2) more.0 more.1 (Ok tt) → FrontStands more.0.1 more.1 → Drawn g loops text more after
    line_on t ready =
        record { ready = ready; leads = took (draw_rules g loops) text kept.0 more.0 kept.1 more.1 left after line taken t drawn.leads }

    -- a line that is refused
    pub line_stops : (e : AnswerErr) → Took (draw_rules g loops) kept.0 kept.1 (line.1, line.2) more.0 more.1 (Err e) → RefusesText (draw_rules g loops) text e
    line_stops e t = stops (draw_rules g loops) text e kept.0 more.0 kept.1 more.1 left after line taken t drawn.leads
