-- A text is judged line by line: what comes of the lines that are left comes of the text.
use Rattle.std.proofs.Common.{◌≡◌, ℕ, inl, inr, Bool, List, ◌∷◌, map, Result, Ok, Err, refl, sym, subst, ap}
use Rattle.xn_kinds.specs.declared.flaws.Flaw.{Flaw}
use Rattle.xn_text.specs.Pieces.{lines_of}
use Rattle.xn_proof.specs.Forms.{Line, Reached, next_at}
use Rattle.xn_proof.specs.declared.flaw.AnswerErr.{AnswerErr}
use Rattle.xn_proof.specs.declared.flaw.AnswerErr.TheVariants as errors
use Rattle.xn_proof.specs.declared.item.Item.{Item}
use Rattle.xn_check.specs.Gives.{RefusesText}
use Rattle.xn_check.specs.Judging.{Judges, JudgesTo, KeepsRules, OnLine, Rules, StopsAt, Took}

-- the lines that are left
abbrev pub lines_left : ℕ × List ℕ → List Line
lines_left left = map (λ l. (l.1, l.2)) (lines_of left)

module _ {S A : Type 0} (rules : Rules S A) (text : List ℕ) where
  -- where lines led to a state and said this, what comes of those that are left comes of the text
  abbrev pub Leads : Reached → S → ℕ × List ℕ → Type 0
  Leads at s left = (o : Result A Flaw) → Judges rules at s (lines_left left) o → JudgesTo rules text o

  -- the next line is judged
  by_line : (at : Reached) (s : S) (left after : ℕ × List ℕ) (line : ℕ × List ℕ × Bool) (r : Result (Item × Reached) Flaw) (o : Result A Flaw) →
      lines_of left ≡ line ∷ lines_of after → next_at at (line.1, line.2) ≡ r → Leads at s left →
      OnLine rules s at.0 r (λ later said. Judges rules later said (lines_left after) o) o → JudgesTo rules text o
  by_line at s left after line r o taken is leads judged =
      let Rest = λ (later : Reached) (said : S). Judges rules later said (lines_left after) o in
      let first = subst (λ (x : Result (Item × Reached) Flaw). OnLine rules s at.0 x Rest o) (sym is) judged in
      leads o (subst (λ (ls : List (ℕ × List ℕ × Bool)). Judges rules at s (map (λ l. (l.1, l.2)) ls) o) (sym taken) first)

  pub goes_on : (at : Reached) (s t : S) (left after : ℕ × List ℕ) (line : ℕ × List ℕ × Bool) (next : Item × Reached) →
      lines_of left ≡ line ∷ lines_of after → next_at at (line.1, line.2) ≡ Ok next → rules.agrees s next.0 → t ≡ rules.more s next.0 →
      Leads at s left → Leads next.1 t after
  goes_on at s t left after line next taken is agrees same leads =
      λ o comes. by_line at s left after line (Ok next) o taken is leads
      (inl (agrees, subst (λ (u : S). Judges rules next.1 u (lines_left after) o) same comes))

  -- a line was judged and kept
  pub took : (at later : Reached) (s t : S) (left after : ℕ × List ℕ) (line : ℕ × List ℕ × Bool) → lines_of left ≡ line ∷ lines_of after →
      Took rules at s (line.1, line.2) later t (Ok tt) → Leads at s left → Leads later t after
  took at later s t left after line taken kept leads = by (next_at at (line.1, line.2)) refl kept
    where
      by : (r : Result (Item × Reached) Flaw) → next_at at (line.1, line.2) ≡ r → KeepsRules rules s r later t → Leads later t after
      by (Err flaw) is h = absurd h
      by (Ok next) is h =
          subst (λ (l : Reached). Leads l t after) (sym h.1) (goes_on at s t left after line next taken is h.0 h.2 leads)

  -- a line was refused
  pub stops : (e : AnswerErr) (at later : Reached) (s t : S) (left after : ℕ × List ℕ) (line : ℕ × List ℕ × Bool) → lines_of left ≡ line ∷ lines_of after →
      Took rules at s (line.1, line.2) later t (Err e) → Leads at s left → RefusesText rules text e
  stops errors.Memory at later s t left after line taken refused leads = tt
  stops (errors.Refused flaw) at later s t left after line taken refused leads = by (next_at at (line.1, line.2)) refl refused
    where
      by : (r : Result (Item × Reached) Flaw) → next_at at (line.1, line.2) ≡ r → StopsAt rules s at.0 r (errors.Refused flaw) → JudgesTo rules text (Err flaw)
      by (Err broken) is h = by_line at s left after line (Err broken) (Err flaw) taken is leads (ap (λ (f : Flaw). Err f) (sym h))
      by (Ok next) is h =
          by_line at s left after line (Ok next) (Err flaw) taken is leads
          (inr (flaw.kind, h.0, ap (λ (n : ℕ). Err (record { line = n; kind = flaw.kind })) h.1))
