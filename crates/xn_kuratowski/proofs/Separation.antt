-- Webs that don't fall apart without a few nodes, and the test for it.
use Rattle.std.proofs.Common.{◌≡◌, ◌≢◌, ℕ, ◌<◌, inl, inr, Bool, true, false, not, ◌&&◌, eqb, List, [], ◌∷◌, length}
use Rattle.std.proofs.lemmas.Bool.{both_ways, cases_eq, eqb-false, ne_eqb, and_parts, and_from, not-true, not_from_false}
use Rattle.xn_model.specs.Graph.{EndsIn, HasNoLoop, ends_at}
use Rattle.xn_model.specs.Lists.{at, has}
use Rattle.xn_model.specs.Map.{Joined, component_labels}
use Rattle.xn_model.proofs.ComponentWalks.{joined_from_label, label_from_joined}
use Rattle.xn_genus.proofs.Tests.{some_below, some_below-from, some_below-to}
use Rattle.xn_kuratowski.specs.Reduction.{away}
use Rattle.xn_kuratowski.proofs.Aways.{EndsIn-away}

-- each two other nodes are joined by a walk that meets none of these
abbrev pub StaysWhole : ℕ → List (ℕ × ℕ) → List ℕ → Type 0
StaysWhole nodes ends avoid =
    (u v : ℕ) → u < nodes → v < nodes → has avoid u ≡ false → has avoid v ≡ false → Joined (away avoid ends) u v

-- no two nodes separate others: nor does one, taken twice
abbrev pub NoTwoSeparate : ℕ → List (ℕ × ℕ) → Type 0
NoTwoSeparate nodes ends = (a b : ℕ) → a < nodes → b < nodes → StaysWhole nodes ends (a ∷ b ∷ [])

-- without the two ends of s no node separates others
abbrev pub IsFirm : ℕ → List (ℕ × ℕ) → ℕ → Type 0
IsFirm nodes ends s = (w : ℕ) → w < nodes → StaysWhole nodes ends ((ends_at ends s).0 ∷ (ends_at ends s).1 ∷ w ∷ [])

-- where no two nodes separate others, a segment is such that its two ends and any third node don't
abbrev pub SomeSegmentIsFirm : Type 0
SomeSegmentIsFirm =
    (nodes : ℕ) (ends : List (ℕ × ℕ)) → EndsIn nodes ends → HasNoLoop ends → NoTwoSeparate nodes ends → 0 < length ends →
    (s : ℕ) × (s < length ends) × IsFirm nodes ends s

-- ---- tests over several numbers

abbrev pub some_two : ℕ → (ℕ → ℕ → Bool) → Bool
some_two n p = some_below n (λ a. some_below n (p a))

pub some_two-to : (n : ℕ) (p : ℕ → ℕ → Bool) → some_two n p ≡ true → (a b : ℕ) × (a < n) × (b < n) × (p a b ≡ true)
some_two-to n p h =
    let first = some_below-to n (λ a. some_below n (p a)) h in
    let second = some_below-to n (p first.0) first.2 in
    (first.0, second.0, first.1, second.1, second.2)

pub some_two-from : (n : ℕ) (p : ℕ → ℕ → Bool) (a b : ℕ) → a < n → b < n → p a b ≡ true → some_two n p ≡ true
some_two-from n p a b a_in b_in h = some_below-from n (λ x. some_below n (p x)) a a_in (some_below-from n (p a) b b_in h)

-- ---- a web away from some nodes

-- two nodes are told apart by their labels
abbrev pub are_apart : ℕ → List (ℕ × ℕ) → List ℕ → ℕ → ℕ → Bool
are_apart nodes ends avoid u v =
    not (has avoid u) && (not (has avoid v) && not (eqb (at (component_labels nodes (away avoid ends)) u) (at (component_labels nodes (away avoid ends)) v)))

pub stays_whole : (nodes : ℕ) (ends : List (ℕ × ℕ)) (avoid : List ℕ) → EndsIn nodes ends → some_two nodes (are_apart nodes ends avoid) ≡ false → StaysWhole nodes ends avoid
stays_whole nodes ends avoid ends_in none u v u_in v_in u_out v_out =
    let labels = component_labels nodes (away avoid ends) in
    elim (cases_eq (at labels u) (at labels v)) [
      | inl same ↦ joined_from_label nodes (away avoid ends) (EndsIn-away nodes avoid ends ends_in) u v u_in v_in same
      | inr other ↦ absurd (both_ways _ none (some_two-from nodes (are_apart nodes ends avoid) u v u_in v_in
          (and_from _ _ (not_from_false _ u_out) (and_from _ _ (not_from_false _ v_out) (not_from_false _ (ne_eqb _ _ other))))))
    ]

pub falls_apart : (nodes : ℕ) (ends : List (ℕ × ℕ)) (avoid : List ℕ) → EndsIn nodes ends → some_two nodes (are_apart nodes ends avoid) ≡ true →
    (u v : ℕ) × (u < nodes) × (v < nodes) × (has avoid u ≡ false) × (has avoid v ≡ false) × ¬ Joined (away avoid ends) u v
falls_apart nodes ends avoid ends_in some =
    let labels = component_labels nodes (away avoid ends) in
    let found = some_two-to nodes (are_apart nodes ends avoid) some in
    let one : (not (has avoid found.0) ≡ true) × ((not (has avoid found.1) && not (eqb (at labels found.0) (at labels found.1))) ≡ true) = and_parts _ _ found.4 in
    let two : (not (has avoid found.1) ≡ true) × (not (eqb (at labels found.0) (at labels found.1)) ≡ true) = and_parts _ _ one.1 in
    let other : at labels found.0 ≢ at labels found.1 = eqb-false _ _ (not-true _ two.1) in (
      found.0,
      found.1,
      found.2,
      found.3,
      not-true _ one.0,
      not-true _ two.0,
      λ joined. other (label_from_joined nodes (away avoid ends) (EndsIn-away nodes avoid ends ends_in) found.0 found.1 joined),
    )
