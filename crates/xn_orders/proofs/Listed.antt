-- The lists of the edges, which stand in the order of the edges.
use Rattle.std.proofs.Common.{◌≡◌, ℕ, zero, suc, ◌+◌, ◌<◌, false, eqb, List, [], ◌∷◌, ◌++◌, length, get_or, take, refl, ◌∙◌, ap, arith}
use Rattle.std.specs.List.{flat_map}
use Rattle.std.specs.List.Sorted.{IsStrictlyIncreasing, IsStrictlySortedBy}
use Rattle.std.specs.Ordering.{nat_cmp}
use Rattle.std.proofs.lemmas.Bool.{eq-eqb, ne_eqb}
use Rattle.std.proofs.lemmas.List.{append-nil, take_more}
use Rattle.std.proofs.lemmas.List.Concat.{flat_map-append}
use Rattle.std.proofs.lemmas.Map.Keys.{below_from_sorted, sorted_from_strictly_increasing, sorted_tail}
use Rattle.xn_model.specs.Orders.{order_at}

at_place : (edges : List ℕ) (lists : List (List ℕ)) (i d : ℕ) → IsStrictlySortedBy nat_cmp edges → length lists ≡ length edges → i < length edges →
    order_at edges lists (get_or edges i d) ≡ get_or lists i []
at_place [] lists i d rise fits low = absurd (omega (arith, low))
at_place (x ∷ xs) [] i d rise fits low = absurd (omega (arith, fits))
at_place (x ∷ xs) (l ∷ ls) zero d rise fits low = rw (eq-eqb x x refl) refl
at_place (x ∷ xs) (l ∷ ls) (suc i) d rise fits low =
    let later : x < get_or xs i d = below_from_sorted (x ∷ xs) 0 (suc i) d rise (omega arith) low in
    let other : eqb x (get_or xs i d) ≡ false = ne_eqb _ _ (λ same. omega (arith, same, later)) in
    rw other (at_place xs ls i d (sorted_tail nat_cmp x xs rise) (omega (arith, fits)) (omega (arith, low)))

-- the list of an edge stands at the place of the edge
pub order_at-place : (edges : List ℕ) (lists : List (List ℕ)) (i d : ℕ) → IsStrictlyIncreasing edges → length lists ≡ length edges → i < length edges →
    order_at edges lists (get_or edges i d) ≡ get_or lists i []
order_at-place edges lists i d rise fits low = at_place edges lists i d (sorted_from_strictly_increasing edges rise) fits low

-- what one more element gives is appended
pub flat_map-take_more : {X A : Type 0} (f : X → List A) (xs : List X) (i : ℕ) (d : X) → i < length xs →
    flat_map f (take (i + 1) xs) ≡ flat_map f (take i xs) ++ f (get_or xs i d)
flat_map-take_more f xs i d low =
    ap (flat_map f) (take_more xs i d low)
    ∙ flat_map-append f (take i xs) (get_or xs i d ∷ [])
    ∙ ap (λ ys. flat_map f (take i xs) ++ ys) (append-nil (f (get_or xs i d)))
