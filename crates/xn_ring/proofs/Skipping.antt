-- With several numbers taken out, each of the others leads to the next that is left.
use Rattle.std.proofs.Common.{◌≡◌, ◌≢◌, ℕ, suc, ◌+◌, ◌-◌, ◌<◌, inl, inr, Bool, true, false, not, ◌||◌, eqb, List, [], ◌∷◌, refl, sym, ◌∙◌, ap, arith}
use Rattle.std.proofs.lemmas.Bool.{cases_eq, cases_lt, eq-eqb, eqb-true, ne_eqb, or_cases, both_ways}
use Rattle.xn_model.specs.Lists.{has}
use Rattle.xn_model.specs.Permutation.{Permutes, iterate, without}
use Rattle.xn_model.proofs.Tests.{neither, not_true}
use Rattle.xn_ring.proofs.Agreeing.{Permutes-agrees}
use Rattle.xn_ring.proofs.Orbits.{iterate-add}
use Rattle.xn_ring.proofs.Without.{Permutes-without, without-at, without-before, without-other}
use Rattle.xn_ring.specs.Removals.{IsAllTakenOut, IsNextKept, without_all}

listed : (x y : Bool) → x ≡ true → not (x || y) ≡ false
listed true y here = refl
listed false y here = absurd (both_ways false refl here)

listed_later : (x y : Bool) → not y ≡ false → not (x || y) ≡ false
listed_later true y later = refl
listed_later false y later = later

kept_by_both : (x y : Bool) → x ≡ false → not y ≡ true → not (x || y) ≡ true
kept_by_both false y one two = two
kept_by_both true y one two = absurd (both_ways true one refl)

module _ (n : ℕ) (f : ℕ → ℕ) (permutes : Permutes n f) where
  pub Permutes-without_all : (xs : List ℕ) → Permutes n (without_all xs f)
  Permutes-without_all [] = permutes
  Permutes-without_all (x ∷ xs) =
      let g = without_all xs f in
      let rest = Permutes-without_all xs in
      elim (cases_lt x n) [
        | inl x_in ↦ Permutes-without n x g rest x_in
        | inr high ↦ Permutes-agrees n g (without x g) rest (λ d d_in.
            let to = rest.below d d_in in
            without-other x g d (λ same. omega (arith, same, high)) (λ leads. omega (arith, leads, to, high)))
      ]

  -- what is listed is alone
  alone_if_listed : (xs : List ℕ) (x : ℕ) → has xs x ≡ true → without_all xs f x ≡ x
  alone_if_listed [] x among = absurd (both_ways false refl among)
  alone_if_listed (y ∷ ys) x among =
      let g = without_all ys f in
      elim (cases_eq x y) [
        | inl here ↦ ap (without y g) here ∙ without-at y g ∙ sym here
        | inr other ↦ elim (or_cases (eqb y x) (has ys x) among) [
          | inl first ↦ absurd (other (sym (eqb-true y x first)))
          | inr later ↦
              let stays = alone_if_listed ys x later in
              without-other y g x other (λ leads. other (sym stays ∙ leads)) ∙ stays
        ]
      ]

  pub next_kept : (xs : List ℕ) (d : ℕ) → d < n → has xs d ≡ false → IsNextKept f (λ y. not (has xs y)) d (without_all xs f d)
  next_kept [] d d_in free = record { steps = 0; there = refl; kept = refl; passed = λ i none. absurd (omega arith) }
  next_kept (x ∷ xs) d d_in free =
      let g = without_all xs f in
      let g_permutes = Permutes-without_all xs in
      let frees = neither (eqb x d) (has xs d) free in
      let d_other : d ≢ x = λ e. both_ways (eqb x d) frees.0 (eq-eqb x d (sym e)) in
      let one = next_kept xs d d_in frees.1 in
      elim (cases_eq (g d) x) [
        | inr passes ↦
            let same : without x g d ≡ g d = without-other x g d d_other passes in
            record {
              steps = one.steps;
              there = one.there ∙ sym same;
              kept = ap (λ z. not (eqb x z || has xs z)) same ∙ kept_by_both (eqb x (g d)) (has xs (g d)) (ne_eqb x (g d) (λ e. passes (sym e))) one.kept;
              passed = λ i early. listed_later (eqb x (iterate f (suc i) d)) (has xs (iterate f (suc i) d)) (one.passed i early);
            }
        | inl meets ↦
            let x_in : x < n = omega (arith, g_permutes.below d d_in, meets) in
            let x_free : has xs x ≡ false = ap (has xs) (sym meets) ∙ not_true (has xs (g d)) one.kept in
            let two = next_kept xs x x_in x_free in
            let same : without x g d ≡ g x = without-before x g d d_other meets in
            let not_x : g x ≢ x = λ e. d_other (g_permutes.apart d x d_in x_in (meets ∙ sym e)) in
            let at_x : iterate f (suc one.steps) d ≡ x = one.there ∙ meets in
            record {
              steps = two.steps + suc one.steps;
              there =
                  let size : suc (two.steps + suc one.steps) ≡ suc two.steps + suc one.steps = omega arith in
                  ap (λ k. iterate f k d) size ∙ iterate-add f (suc two.steps) (suc one.steps) d ∙ ap (iterate f (suc two.steps)) at_x ∙ two.there ∙ sym same;
              kept = ap (λ z. not (eqb x z || has xs z)) same ∙ kept_by_both (eqb x (g x)) (has xs (g x)) (ne_eqb x (g x) (λ e. not_x (sym e))) two.kept;
              passed = λ i early. elim (cases_lt i one.steps) [
                | inl first ↦ listed_later (eqb x (iterate f (suc i) d)) (has xs (iterate f (suc i) d)) (one.passed i first)
                | inr not_first ↦ elim (cases_eq i one.steps) [
                  | inl here ↦
                      let is_x : iterate f (suc i) d ≡ x = ap (λ k. iterate f (suc k) d) here ∙ at_x in
                      listed (eqb x (iterate f (suc i) d)) (has xs (iterate f (suc i) d)) (eq-eqb _ _ (sym is_x))
                  | inr later ↦
                      let k = i - suc one.steps in
                      let size : suc i ≡ suc k + suc one.steps = omega (arith, not_first, later) in
                      let is : iterate f (suc i) d ≡ iterate f (suc k) x =
                      ap (λ m. iterate f m d) size ∙ iterate-add f (suc k) (suc one.steps) d ∙ ap (iterate f (suc k)) at_x in
                      listed_later (eqb x (iterate f (suc i) d)) (has xs (iterate f (suc i) d))
                      (ap (λ z. not (has xs z)) is ∙ two.passed k (omega (arith, early, not_first, later)))
                ]
              ];
            }
      ]

  pub all_taken_out : (xs : List ℕ) → IsAllTakenOut n xs f (without_all xs f)
  all_taken_out xs = record {
    permutes = Permutes-without_all xs;
    alone = alone_if_listed xs;
    others = next_kept xs;
  }
