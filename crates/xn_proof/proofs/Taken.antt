-- A line more after those that were taken.
use Rattle.std.proofs.Common.{◌≡◌, List, [], ◌∷◌, ◌++◌, Result, Ok, refl, sym, ap, ◌∙◌, subst}
use Rattle.xn_kinds.specs.declared.flaws.Flaw.{Flaw}
use Rattle.xn_proof.specs.declared.item.Item.{Item}
use Rattle.xn_proof.specs.Forms.{Line, Reached, lines_at, next_at}
use Rattle.xn_proof.specs.Reading.{◌>>=◌}
use Rattle.xn_proof.proofs.Steps.{bind_ok, ok, ok_is}

pub one_more_line : (s mid t : Reached) (lines : List Line) (items : List Item) (line : Line) (x : Item) → lines_at s lines ≡ Ok (items, mid) → next_at mid line ≡ Ok (x, t) →
    lines_at s (lines ++ line ∷ []) ≡ Ok (items ++ x ∷ [], t)
one_more_line s mid t [] items line x taken next =
    let P : List Item × Reached → Type 0 = λ p. next_at p.1 line ≡ Ok (x, t) → lines_at s (line ∷ []) ≡ Ok (p.0 ++ x ∷ [], t) in
    subst P (ok_is ([], s) (items, mid) taken) (λ h. rw h refl) next
one_more_line s mid t (l ∷ lines) items line x taken next =
    let a = bind_ok (next_at s l) (λ first. lines_at first.1 lines >>= λ others. Ok (first.0 ∷ others.0, others.1)) (items, mid) taken in
    let b = bind_ok (lines_at a.0.1 lines) (λ others. Ok (a.0.0 ∷ others.0, others.1)) (items, mid) a.2 in
    let e : (a.0.0 ∷ b.0.0, b.0.1) ≡ (items, mid) = ok_is (a.0.0 ∷ b.0.0, b.0.1) (items, mid) b.2 in
    let there : next_at b.0.1 line ≡ Ok (x, t) = subst (λ (m : Reached). next_at m line ≡ Ok (x, t)) (sym (ap (λ (p : List Item × Reached). p.1) e)) next in
    let on : lines_at a.0.1 (lines ++ line ∷ []) ≡ Ok (b.0.0 ++ x ∷ [], t) = one_more_line a.0.1 b.0.1 t lines b.0.0 line x b.1 there in
    let one : lines_at s (l ∷ (lines ++ line ∷ [])) ≡ Ok (a.0.0 ∷ (b.0.0 ++ x ∷ []), t) =
    ap (λ (r : Result (Item × Reached) Flaw). r >>= λ first. lines_at first.1 (lines ++ line ∷ []) >>= λ others. Ok (first.0 ∷ others.0, others.1)) a.1
    ∙ ap (λ (r : Result (List Item × Reached) Flaw). r >>= λ others. Ok (a.0.0 ∷ others.0, others.1)) on in
    one ∙ ap (λ (p : List Item × Reached). ok (p.0 ++ x ∷ [], t)) e
