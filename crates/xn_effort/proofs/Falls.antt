-- A node that opens a state takes at least one from its potential.
use Rattle.std.proofs.Common.{◌≡◌, ℕ, zero, suc, ◌+◌, ◌-◌, ◌*◌, ◌<◌, ◌≤◌, true, false, List, [], ◌∷◌, length, map, refl, ◌∙◌, ap, arith}
use Rattle.std.specs.List.{range_with_len}
use Rattle.xn_model.specs.Graph.{edges_of, pair_count_of, pairs_of}
use Rattle.xn_model.specs.Lists.{total}
use Rattle.xn_kinds.specs.State.{State, decide, empty_state, place}
use Rattle.xn_kinds.specs.Tree.{children}
use Rattle.xn_kinds.specs.declared.trees.Node.TheVariants.{Pair, Place, Leaf}
use Rattle.xn_effort.specs.Laws.{OpeningLowers, RootIsLimit}
use Rattle.xn_effort.specs.Potential.{ones_in, undecided_in, potential, potential_of, unplaced_in}
use Rattle.xn_effort.proofs.Changed.{ones-decide, undecided-decide, unplaced-decide, unplaced-place}
use Rattle.xn_effort.proofs.Powers.{pair_falls, place_falls, potential_positive, potential_rises}
use Rattle.xn_effort.proofs.Room.{placed_few}

-- ---- the root

each_one : (ps : List (ℕ × ℕ)) → total (λ p. 1) ps ≡ length ps
each_one [] = refl
each_one (p ∷ ps) = omega (arith, each_one ps)

each_none : (ps : List (ℕ × ℕ)) → total (λ p. 0) ps ≡ 0
each_none [] = refl
each_none (p ∷ ps) = omega (arith, each_none ps)

-- the same numbers, written otherwise
potential_alike : (t u r q v m n : ℕ) → u ≡ v → r ≡ m → q ≡ n → potential_of t u r q ≡ potential_of t v m n
potential_alike t u r q v m n pairs ones places =
    ap (λ x. potential_of t x r q) pairs ∙ ap (λ x. potential_of t v x q) ones ∙ ap (potential_of t v m) places

pub root_is_limit : RootIsLimit
root_is_limit g t =
    let ps = pairs_of g.ends (edges_of g) in
    let ones : ones_in g empty_state ≡ 0 = each_none ps in
    let places : unplaced_in g empty_state ≡ 0 = each_none ps in
    potential_alike t (undecided_in g empty_state) (t - ones_in g empty_state) (unplaced_in g empty_state + 2 * (t - ones_in g empty_state)) (pair_count_of g) t (2 * t)
    (each_one ps) (omega (arith, ones)) (omega (arith, ones, places))

-- ---- a pair

-- the state has u pairs, o ones and n places; its children one pair less
pair_step : (t u o n zu zo zn wu wo wn : ℕ) → 1 ≤ t → o < t → zu + 1 ≡ u → zo ≡ o + 0 → zn ≤ n + 2 * 0 → wu + 1 ≡ u → wo ≡ o + 1 → wn ≤ n + 2 * 1 →
    suc (potential_of t zu (t - zo) (zn + 2 * (t - zo)) + (potential_of t wu (t - wo) (wn + 2 * (t - wo)) + 0)) ≤ potential_of t u (t - o) (n + 2 * (t - o))
pair_step t u o n zu zo zn wu wo wn positive few z_pairs z_ones z_places w_pairs w_ones w_places =
    let r = t - suc o in
    let q = n + 2 * (t - o) in
    let whole = potential_alike t u (t - o) q (suc zu) (suc r) q (omega (arith, z_pairs)) (omega (arith, few)) refl in
    let zero_ = potential_alike t zu (t - zo) (zn + 2 * (t - zo)) zu (suc r) (zn + 2 * (t - zo)) refl (omega (arith, few, z_ones)) refl in
    let rises = potential_rises t zu (suc r) (zn + 2 * (t - zo)) q positive (omega (arith, z_ones, z_places)) in
    let one = potential_alike t wu (t - wo) (wn + 2 * (t - wo)) zu r (wn + 2 * (t - wo)) (omega (arith, z_pairs, w_pairs)) (omega (arith, few, w_ones)) refl in
    let falls = pair_falls t zu r (wn + 2 * (t - wo)) q positive (omega (arith, few, w_ones, w_places)) in
    omega (arith, whole, zero_, rises, one, falls)

-- ---- a place

total-same : (f : State → ℕ) (h : ℕ → State) (n : ℕ) → ((i : ℕ) → f (h i) ≡ n) → (is : List ℕ) → total f (map h is) ≡ length is * n
total-same f h n same [] = omega arith
total-same f h n same (i ∷ is) = omega (arith, same i, total-same f h n same is)

length-range : (a n : ℕ) → length (range_with_len a n) ≡ n
length-range a zero = refl
length-range a (suc n) = ap suc (length-range (a + 1) n)

pub opening_lowers : OpeningLowers
opening_lowers g t rows s (Pair e f) positive is_state searches =
    let keeps = searches.0 in
    pair_step t (undecided_in g s) (ones_in g s) (unplaced_in g s)
    (undecided_in g (decide s e f false)) (ones_in g (decide s e f false)) (unplaced_in g (decide s e f false))
    (undecided_in g (decide s e f true)) (ones_in g (decide s e f true)) (unplaced_in g (decide s e f true))
    positive searches.1
    (undecided-decide g s e f false keeps.0 keeps.1 keeps.2 keeps.3) (ones-decide g s e f false keeps.0 keeps.1 keeps.2 keeps.3) (unplaced-decide g s e f false keeps.0 keeps.1 keeps.2 keeps.3)
    (undecided-decide g s e f true keeps.0 keeps.1 keeps.2 keeps.3) (ones-decide g s e f true keeps.0 keeps.1 keeps.2 keeps.3) (unplaced-decide g s e f true keeps.0 keeps.1 keeps.2 keeps.3)
opening_lowers g t rows s (Place e f) positive is_state searches =
    let keeps = searches.0 in
    let count = suc (length (s.placed e)) in
    let r = t - ones_in g s in
    let q = unplaced_in g (place s e f 0) + 2 * r in
    let u = undecided_in g s in
    let each : (i : ℕ) → potential g t (place s e f i) ≡ potential_of t u r q = λ i.
    potential_alike t u r (unplaced_in g (place s e f i) + 2 * r) u r q refl refl
    (omega (arith, unplaced-place g s is_state e f i keeps.1 keeps.0, unplaced-place g s is_state e f 0 keeps.1 keeps.0)) in
    let sum : total (potential g t) (children s (Place e f)) ≡ length (range_with_len 0 count) * potential_of t u r q =
    total-same (potential g t) (place s e f) (potential_of t u r q) each (range_with_len 0 count) in
    let counted : length (range_with_len 0 count) * potential_of t u r q ≡ count * potential_of t u r q = ap (λ n. n * potential_of t u r q) (length-range 0 count) in
    let few = placed_few g s is_state e f keeps.0 keeps.1 in
    let falls = place_falls t u r q count positive (omega (arith, few, searches.1)) in
    let whole : potential g t s ≡ potential_of t u r (suc q) =
    potential_alike t u r (unplaced_in g s + 2 * r) u r (suc q) refl refl (omega (arith, unplaced-place g s is_state e f 0 keeps.1 keeps.0)) in
    omega (arith, sum, counted, falls, whole)
opening_lowers g t rows s (Leaf d parts) positive is_state searches =
    potential_positive t (undecided_in g s) (t - ones_in g s) (unplaced_in g s + 2 * (t - ones_in g s)) positive
