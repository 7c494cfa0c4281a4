-- Where numbers stand in a list.
use Rattle.std.proofs.Common.{◌≡◌, ℕ, zero, suc, ◌<◌, inl, inr, true, false, eqb, List, [], ◌∷◌, length, map, refl, sym, ap, arith}
use Rattle.std.specs.List.{IsDistinct}
use Rattle.std.specs.Prelude.{nat_eq}
use Rattle.std.proofs.lemmas.Bool.{both_ways, or_cases, or_left, or_right, eqb-true, eq-eqb}
use Rattle.xn_model.specs.Lists.{at, has}
pub use Rattle.xn_model.proofs.Has.{all_not, has-at, place_of}

pub has-mapped : (f : ℕ → ℕ) (xs : List ℕ) (x : ℕ) → has xs x ≡ true → has (map f xs) (f x) ≡ true
has-mapped f [] x h = absurd (both_ways false refl h)
has-mapped f (y ∷ ys) x h = elim (or_cases (eqb y x) (has ys x) h) [
  | inl here ↦ or_left (eqb (f y) (f x)) _ (eq-eqb _ _ (ap f (eqb-true y x here)))
  | inr later ↦ or_right (eqb (f y) (f x)) _ (has-mapped f ys x later)
]

-- in a list without repeats each number stands once
pub positions_apart : (xs : List ℕ) → IsDistinct nat_eq xs → (i j : ℕ) → i < length xs → j < length xs → at xs i ≡ at xs j → i ≡ j
unfolding IsDistinct
positions_apart [] d i j i_in j_in same = absurd (omega arith)
positions_apart (x ∷ xs) d zero zero i_in j_in same = refl
positions_apart (x ∷ xs) d zero (suc j) i_in j_in same = absurd (all_not x xs d.0 (at xs j) (has-at xs j (omega arith)) same)
positions_apart (x ∷ xs) d (suc i) zero i_in j_in same = absurd (all_not x xs d.0 (at xs i) (has-at xs i (omega arith)) (sym same))
positions_apart (x ∷ xs) d (suc i) (suc j) i_in j_in same = ap suc (positions_apart xs d.1 i j (omega arith) (omega arith) same)
