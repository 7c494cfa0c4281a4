-- Ranges of numbers, as the list of all edges is one.
use Rattle.std.proofs.Common.{◌≡◌, ℕ, zero, suc, ◌+◌, ◌≤◌, false, eqb, List, [], ◌∷◌, ◌++◌, refl, sym, ◌∙◌, ap, arith}
use Rattle.std.specs.List.{range_with_len}
use Rattle.std.proofs.lemmas.Bool.{ne_eqb}
use Rattle.std.proofs.lemmas.List.{map-id}
use Rattle.std.proofs.lemmas.List.FromFn.{length-range_with_len, get_or-range_with_len, map-range_with_len_more}
use Rattle.xn_model.specs.Lists.{has}
use Rattle.xn_model.specs.Orders.{IsEdgeList, order_at}
use Rattle.xn_model.proofs.Tests.{neither}

pub edge_list : (count : ℕ) → IsEdgeList count (range_with_len 0 count)
edge_list count = record {
  rise = λ k low.
      let long = length-range_with_len 0 count in
      let here = get_or-range_with_len 0 count k 0 (omega (arith, low, long)) in
      let next = get_or-range_with_len 0 count (k + 1) 0 (omega (arith, low, long)) in
      omega (arith, here, next);
  below = λ i d low.
      let long = length-range_with_len 0 count in
      let here = get_or-range_with_len 0 count i d (omega (arith, low, long)) in
      omega (arith, here, low, long);
}

-- a number past the range isn't in it
pub has-range_past : (a n e : ℕ) → a + n ≤ e → has (range_with_len a n) e ≡ false
has-range_past a zero e past = refl
has-range_past a (suc n) e past =
    let apart : eqb a e ≡ false = ne_eqb a e (λ same. omega (arith, same, past)) in
    rw apart (has-range_past (a + 1) n e (omega (arith, past)))

-- one number more
pub range-push : (n : ℕ) → range_with_len 0 (n + 1) ≡ range_with_len 0 n ++ n ∷ []
range-push n =
    let same : ℕ → ℕ = λ x. x in
    sym (map-id (range_with_len 0 (n + 1))) ∙ map-range_with_len_more same 0 n n (omega arith) ∙ ap (λ (l : List ℕ). l ++ n ∷ []) (map-id (range_with_len 0 n))

-- an edge that isn't listed has no crossers
pub order_at_outside : (edges : List ℕ) (lists : List (List ℕ)) (e : ℕ) → has edges e ≡ false → order_at edges lists e ≡ []
order_at_outside [] lists e out = refl
order_at_outside (x ∷ xs) [] e out = refl
order_at_outside (x ∷ xs) (l ∷ ls) e out =
    let parts : (eqb x e ≡ false) × (has xs e ≡ false) = neither (eqb x e) (has xs e) out in
    rw parts.0 (order_at_outside xs ls e parts.1)
