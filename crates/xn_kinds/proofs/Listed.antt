-- Orders that are written out list by list.
use Rattle.std.proofs.Common.{◌≡◌, ℕ, ◌+◌, ◌≤◌, inl, inr, true, false, eqb, List, [], ◌∷◌, length, refl, subst, arith}
use Rattle.std.specs.List.{AllByRecursion, IsDistinct, range_with_len}
use Rattle.std.specs.Prelude.{nat_eq, All}
use Rattle.std.proofs.lemmas.Bool.{both_ways, cases_Bool, eqb-true}
use Rattle.std.proofs.lemmas.List.Elements.{All-cons, All-nil}
use Rattle.std.proofs.lemmas.List.FromFn.{length-range_with_len, get_or-range_with_len}
use Rattle.xn_model.specs.Graph.{Independent}
use Rattle.xn_model.specs.Lists.{has}
use Rattle.xn_model.specs.Orders.{IsEdgeList, IsOrders, order_at}
use Rattle.xn_model.proofs.Has.{all_of}

-- P holds of each edge and each entry of its list
abbrev pub EachEntry : (ℕ → ℕ → Type 0) → List ℕ → List (List ℕ) → Type 0
EachEntry P [] lists = Unit {0}
EachEntry P (x ∷ xs) [] = Unit {0}
EachEntry P (x ∷ xs) (l ∷ ls) = AllByRecursion (P x) l × EachEntry P xs ls

-- what holds of each element, one by one
pub All-from_recursion : {X : Type 0} (P : X → Type 0) (xs : List X) → AllByRecursion P xs → All P xs
All-from_recursion P [] each = All-nil P
All-from_recursion P (x ∷ xs) each = All-cons P x xs each.0 (All-from_recursion P xs each.1)

-- each list has no repeats
abbrev pub EachDistinct : List (List ℕ) → Type 0
EachDistinct [] = Unit {0}
EachDistinct (l ∷ ls) = IsDistinct nat_eq l × EachDistinct ls

pub of_entries : (P : ℕ → ℕ → Type 0) (edges : List ℕ) (lists : List (List ℕ)) → EachEntry P edges lists →
    (e f : ℕ) → has (order_at edges lists e) f ≡ true → P e f
of_entries P [] lists each e f h = absurd (both_ways false refl h)
of_entries P (x ∷ xs) [] each e f h = absurd (both_ways false refl h)
of_entries P (x ∷ xs) (l ∷ ls) each e f h = elim (cases_Bool (eqb x e)) [
  | inl here ↦ all_of (P e) l (subst (λ v. AllByRecursion (P v) l) (eqb-true x e here) each.0) f (rw here at h)
  | inr later ↦ of_entries P xs ls each.1 e f (rw later at h)
]

pub distinct_at : (edges : List ℕ) (lists : List (List ℕ)) → EachDistinct lists → (e : ℕ) → IsDistinct nat_eq (order_at edges lists e)
unfolding IsDistinct
distinct_at [] lists each e = tt
distinct_at (x ∷ xs) [] each e = tt
distinct_at (x ∷ xs) (l ∷ ls) each e = elim (cases_Bool (eqb x e)) [
  | inl here ↦ rw here each.0
  | inr later ↦ rw later (distinct_at xs ls each.1 e)
]

-- the first n edges of count
first_edges : (n count : ℕ) → n ≤ count → IsEdgeList count (range_with_len 0 n)
first_edges n count few = record {
  rise = λ k low.
      let long = length-range_with_len 0 n in
      let here = get_or-range_with_len 0 n k 0 (omega (arith, low, long)) in
      let next = get_or-range_with_len 0 n (k + 1) 0 (omega (arith, low, long)) in
      omega (arith, here, next);
  below = λ i d low.
      let long = length-range_with_len 0 n in
      let here = get_or-range_with_len 0 n i d (omega (arith, low, long)) in
      omega (arith, here, low, long);
}

-- lists that are written out are orders of the first n edges
pub listed_orders : (ends : List (ℕ × ℕ)) (n : ℕ) (lists : List (List ℕ)) → n ≤ length ends → EachDistinct lists →
    EachEntry (λ e f. has (range_with_len 0 n) e ≡ true) (range_with_len 0 n) lists →
    EachEntry (Independent ends) (range_with_len 0 n) lists →
    EachEntry (λ e f. has (order_at (range_with_len 0 n) lists f) e ≡ true) (range_with_len 0 n) lists →
    IsOrders ends (range_with_len 0 n) (order_at (range_with_len 0 n) lists)
listed_orders ends n lists few distinct within apart both_ways = record {
  edge_list = first_edges n (length ends) few;
  within = of_entries _ _ lists within;
  no_repeats = distinct_at _ lists distinct;
  independent = of_entries _ _ lists apart;
  both_ways = of_entries _ _ lists both_ways;
}
