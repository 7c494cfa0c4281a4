-- A text that has come to a state holds no flaw.
use Rattle.std.proofs.Common.{◌≡◌, ℕ, ◌<◌, true, inl, inr, List, [], ◌∷◌, ◌++◌, length, Result, Ok, Err, refl, sym, subst, ap, ◌∙◌, append_assoc, arith}
use Rattle.std.proofs.lemmas.List.Elements.{All-head, All-tail}
use Rattle.std.specs.Prelude.{All}
use Rattle.xn_kinds.specs.declared.flaws.Flaw.{Flaw}
use Rattle.xn_kinds.specs.declared.flaws.FlawKind.{FlawKind}
use Rattle.xn_text.specs.Pieces.{Lacks}
use Rattle.xn_proof.specs.Forms.{Reached, is_end, next_at, start_state}
use Rattle.xn_proof.specs.declared.flaw.AnswerErr.TheVariants as errors
use Rattle.xn_proof.specs.declared.item.Item.{Item}
use Rattle.xn_check.specs.Judging.{Rules, StopsAt}
use Rattle.xn_check.specs.Verdict.{check_rules}
use Rattle.xn_check.proofs.OneOutcome.{all_apart, one_verdict}
use Rattle.xn_stream.specs.Laws.{ComesWithoutFlaw, FlawsStay, HoldsOneFlaw}
use Rattle.xn_stream.specs.Pieces.{FailsNext, OnKept, HasCome, HoldsFlaw, LeadTo, whole_lines}
use Rattle.xn_stream.proofs.Come.{behind_end, flaw_comes, flaw_stays}
use Rattle.xn_stream.proofs.TextLines.{none_ended, one_first}

module _ {S A : Type 0} (rules : Rules S A) (clear : (s : S) (x : Item) (kind : FlawKind) → rules.agrees s x → rules.fails s x kind → ⊥) where
  stops_not : (s : S) (number : ℕ) (r : Result (Item × Reached) Flaw) (P : Reached → S → Type 0) (flaw : Flaw) → OnKept rules s r P →
      StopsAt rules s number r (errors.Refused flaw) → ⊥
  stops_not s number (Ok next) P flaw goes stops = clear s next.0 flaw.kind goes.0 stops.0
  stops_not s number (Err broken) P flaw goes stops = goes

  both_go : (s : S) (r : Result (Item × Reached) Flaw) (P Q : Reached → S → Type 0) → OnKept rules s r P → OnKept rules s r Q →
      ((a : Reached) (t : S) → P a t → Q a t → ⊥) → ⊥
  both_go s (Ok next) P Q first second none = none next.1 (rules.more s next.0) first.1 second.1
  both_go s (Err broken) P Q first second none = first

  -- nothing but a begun line is left
  open_fails : (at : Reached) (s : S) (begun rest : List ℕ) (flaw : Flaw) → Lacks 10 begun → (is_end at.1 ≡ true → begun ≡ []) → begun ≡ rest →
      FailsNext rules at s rest flaw → ⊥
  open_fails at s begun rest flaw lacks none is fails = elim fails [
    | inl end ↦ (let empty : rest ≡ [] = sym is ∙ none end.0 in absurd (let short = ap (λ (l : List ℕ). length l) empty in omega (arith, short, end.1)))
    | inr line ↦ none_ended begun line.0 line.1 lacks (is ∙ line.2)
  ]

  -- a line that goes on comes first
  kept_fails : (at : Reached) (s : S) (line more rest : List ℕ) (P : Reached → S → Type 0) (flaw : Flaw) → Lacks 10 line → OnKept rules s (next_at at (line, true)) P →
      line ++ 10 ∷ more ≡ rest → FailsNext rules at s rest flaw → ⊥
  kept_fails at s line more rest P flaw lacks goes is fails = elim fails [
    | inl end ↦ subst (λ (r : Result (Item × Reached) Flaw). OnKept rules s r P) (behind_end at (line, true) end.0) goes
    | inr other ↦
        let same = one_first line other.0 more other.1 lacks other.3 (is ∙ other.2) in
        stops_not s at.0 (next_at at (line, true)) P flaw goes
        (subst (λ (l : List ℕ). StopsAt rules s at.0 (next_at at (l, true)) (errors.Refused flaw)) (sym same.0) other.4)
  ]

  not_both : (lines others : List (List ℕ)) (a at by : Reached) (u s t : S) (begun rest : List ℕ) (flaw : Flaw) → All (Lacks 10) lines → All (Lacks 10) others →
      LeadTo rules a u lines at s → LeadTo rules a u others by t → Lacks 10 begun → (is_end at.1 ≡ true → begun ≡ []) →
      whole_lines lines ++ begun ≡ whole_lines others ++ rest → FailsNext rules by t rest flaw → ⊥
  not_both [] [] a at by u s t begun rest flaw lack lacks lead leads lacks_ten none same fails =
      let at_is : at ≡ by = lead.0 ∙ sym leads.0 in
      open_fails by t begun rest flaw lacks_ten (subst (λ (b : Reached). is_end b.1 ≡ true → begun ≡ []) at_is none) same fails
  not_both [] (o ∷ others) a at by u s t begun rest flaw lack lacks lead leads lacks_ten none same fails =
      none_ended begun o (whole_lines others ++ rest) lacks_ten (same ∙ append_assoc o (10 ∷ whole_lines others) rest)
  not_both (l ∷ lines) [] a at by u s t begun rest flaw lack lacks lead leads lacks_ten none same fails =
      let here : FailsNext rules a u rest flaw =
      subst (λ (b : Reached). FailsNext rules b u rest flaw) leads.0 (subst (λ (v : S). FailsNext rules by v rest flaw) leads.1 fails) in
      kept_fails a u l (whole_lines lines ++ begun) rest (λ b v. LeadTo rules b v lines at s) flaw (All-head (Lacks 10) l lines lack) lead
      (sym (append_assoc l (10 ∷ whole_lines lines) begun) ∙ same) here
  not_both (l ∷ lines) (o ∷ others) a at by u s t begun rest flaw lack lacks lead leads lacks_ten none same fails =
      let first = one_first l o (whole_lines lines ++ begun) (whole_lines others ++ rest) (All-head (Lacks 10) l lines lack) (All-head (Lacks 10) o others lacks)
      (sym (append_assoc l (10 ∷ whole_lines lines) begun) ∙ same ∙ append_assoc o (10 ∷ whole_lines others) rest) in
      let second = subst (λ (x : List ℕ). OnKept rules u (next_at a (x, true)) (λ b v. LeadTo rules b v others by t)) (sym first.0) leads in
      both_go u (next_at a (l, true)) (λ b v. LeadTo rules b v lines at s) (λ b v. LeadTo rules b v others by t) lead second
      (λ b v p q. not_both lines others b at by v s t begun rest flaw (All-tail (Lacks 10) l lines lack) (All-tail (Lacks 10) o others lacks) p q lacks_ten none first.1 fails)

  pub no_flaw : (text begun : List ℕ) (at : Reached) (s : S) (flaw : Flaw) → HasCome rules text at s begun → HoldsFlaw rules text flaw → ⊥
  no_flaw text begun at s flaw come h =
      not_both come.lines.lines h.lines.lines start_state at h.at rules.start s h.said begun h.rest flaw come.lines.lack h.lines.lack come.lines.lead h.lines.lead
      come.lacks come.none_behind
      (sym (come.text_is ∙ ap (λ (w : List ℕ). w ++ begun) come.lines.bytes_are) ∙ h.text_is ∙ ap (λ (w : List ℕ). w ++ h.rest) h.lines.bytes_are) h.fails

-- ---- the laws

pub comes_without_flaw : ComesWithoutFlaw
comes_without_flaw g loops text begun at s flaw come h = no_flaw (check_rules g loops) (all_apart g loops) text begun at s flaw come h

pub flaws_stay : FlawsStay
flaws_stay g loops text more flaw h = flaw_comes (check_rules g loops) (text ++ more) flaw (flaw_stays (check_rules g loops) text more flaw h)

pub holds_one_flaw : HoldsOneFlaw
holds_one_flaw g loops text flaw other h k =
    let same = one_verdict g loops text (Err flaw) (Err other) (flaw_comes (check_rules g loops) text flaw h) (flaw_comes (check_rules g loops) text other k) in
    cc
