-- The segments that are kept, and their components whatever their order.
use Rattle.std.proofs.Common.{◌≡◌, ℕ, zero, suc, ◌+◌, ◌*◌, ◌/◌, ◌<◌, ◌≤◌, ◌⊎◌, inl, inr, Bool, true, false, eqb, leb, List, [], ◌∷◌, length, min, refl, sym, ◌∙◌, ap, subst, arith}
use Rattle.std.specs.List.{fold, list_any}
use Rattle.std.proofs.lemmas.Bool.{cases_Bool, both_ways, or_cases, or_left, or_right, cond-true, cond-false, not-true, not-false, eqb-true, eq-eqb, leb-true, leb-false}
use Rattle.std.proofs.lemmas.List.FromFn.{get_or-range_with_len}
use Rattle.xn_model.specs.Graph.{ends_at, touches, EndsIn}
use Rattle.xn_model.specs.Lists.{at}
use Rattle.xn_model.specs.Map.{is_lone, join_components, component_count, component_labels, tail_of}
use Rattle.xn_genus.specs.Live.{kept}
use Rattle.xn_model.proofs.Components.{IsLabelling, IsLabelling-join, IsLabelling-components, IsLabelling-start, at-join_components, cases_relabel, joined_after, kept_joined}
use Rattle.xn_model.proofs.Darts.{cases_dart, tail-even, tail-odd}
use Rattle.xn_ring.proofs.Counting.{count-same}

-- m is the same at the two ends of each segment
abbrev pub Along : (ℕ → ℕ) → List (ℕ × ℕ) → Type 0
Along m [] = Unit {0}
Along m (p ∷ ends) = (m p.0 ≡ m p.1) × Along m ends

kept_yes : (live : ℕ → Bool) (p : ℕ × ℕ) (ends : List (ℕ × ℕ)) → live 0 ≡ true → kept live (p ∷ ends) ≡ p ∷ kept (λ i. live (suc i)) ends
kept_yes live p ends h = cond-true _ _ _ h

kept_no : (live : ℕ → Bool) (p : ℕ × ℕ) (ends : List (ℕ × ℕ)) → live 0 ≡ false → kept live (p ∷ ends) ≡ kept (λ i. live (suc i)) ends
kept_no live p ends h = cond-false _ _ _ h

pub any_kept_to : (t : ℕ × ℕ → Bool) (live : ℕ → Bool) (ends : List (ℕ × ℕ)) → list_any t (kept live ends) ≡ true → (j : ℕ) × (j < length ends) × (live j ≡ true) × (t (ends_at ends j) ≡ true)
any_kept_to t live [] h = absurd (both_ways false refl h)
any_kept_to t live (p ∷ ends) h = elim (cases_Bool (live 0)) [
  | inl keeps ↦ elim (or_cases (t p) (list_any t (kept (λ i. live (suc i)) ends)) (ap (list_any t) (sym (kept_yes live p ends keeps)) ∙ h)) [
    | inl here ↦ (0, omega arith, keeps, here)
    | inr later ↦ let found = any_kept_to t (λ i. live (suc i)) ends later in (suc found.0, omega (arith, found.1), found.2, found.3)
  ]
  | inr drops ↦
      let found = any_kept_to t (λ i. live (suc i)) ends (ap (list_any t) (sym (kept_no live p ends drops)) ∙ h) in
      (suc found.0, omega (arith, found.1), found.2, found.3)
]

pub any_kept_from : (t : ℕ × ℕ → Bool) (live : ℕ → Bool) (ends : List (ℕ × ℕ)) (j : ℕ) → j < length ends → live j ≡ true → t (ends_at ends j) ≡ true → list_any t (kept live ends) ≡ true
any_kept_from t live [] j below l h = absurd (omega arith)
any_kept_from t live (p ∷ ends) zero below l h = ap (list_any t) (kept_yes live p ends l) ∙ or_left (t p) _ h
any_kept_from t live (p ∷ ends) (suc j) below l h =
    let rest = any_kept_from t (λ i. live (suc i)) ends j (omega arith) l h in
    elim (cases_Bool (live 0)) [
      | inl keeps ↦ ap (list_any t) (kept_yes live p ends keeps) ∙ or_right (t p) _ rest
      | inr drops ↦ ap (list_any t) (kept_no live p ends drops) ∙ rest
    ]

pub along_kept_to : (m : ℕ → ℕ) (live : ℕ → Bool) (ends : List (ℕ × ℕ)) → Along m (kept live ends) → (j : ℕ) → j < length ends → live j ≡ true → m (ends_at ends j).0 ≡ m (ends_at ends j).1
along_kept_to m live [] h j below l = absurd (omega arith)
along_kept_to m live (p ∷ ends) h zero below l = (subst (Along m) (kept_yes live p ends l) h).0
along_kept_to m live (p ∷ ends) h (suc j) below l = elim (cases_Bool (live 0)) [
  | inl keeps ↦ along_kept_to m (λ i. live (suc i)) ends (subst (Along m) (kept_yes live p ends keeps) h).1 j (omega arith) l
  | inr drops ↦ along_kept_to m (λ i. live (suc i)) ends (subst (Along m) (kept_no live p ends drops) h) j (omega arith) l
]

pub along_kept_from : (m : ℕ → ℕ) (live : ℕ → Bool) (ends : List (ℕ × ℕ)) → ((j : ℕ) → j < length ends → live j ≡ true → m (ends_at ends j).0 ≡ m (ends_at ends j).1) → Along m (kept live ends)
along_kept_from m live [] each = tt
along_kept_from m live (p ∷ ends) each =
    let rest = along_kept_from m (λ i. live (suc i)) ends (λ j below l. each (suc j) (omega arith) l) in
    elim (cases_Bool (live 0)) [
      | inl keeps ↦ subst (Along m) (sym (kept_yes live p ends keeps)) (each 0 (omega arith) keeps, rest)
      | inr drops ↦ subst (Along m) (sym (kept_no live p ends drops)) rest
    ]

pub EndsIn-kept : (nodes : ℕ) (live : ℕ → Bool) (ends : List (ℕ × ℕ)) → EndsIn nodes ends → EndsIn nodes (kept live ends)
EndsIn-kept nodes live [] h = tt
EndsIn-kept nodes live (p ∷ ends) h =
    let rest = EndsIn-kept nodes (λ i. live (suc i)) ends h.2 in
    elim (cases_Bool (live 0)) [
      | inl keeps ↦ subst (EndsIn nodes) (sym (kept_yes live p ends keeps)) (h.0, h.1, rest)
      | inr drops ↦ subst (EndsIn nodes) (sym (kept_no live p ends drops)) rest
    ]

pub EndsIn_at : (nodes : ℕ) (ends : List (ℕ × ℕ)) → EndsIn nodes ends → (s : ℕ) → s < length ends → ((ends_at ends s).0 < nodes) × ((ends_at ends s).1 < nodes)
EndsIn_at nodes [] h s below = absurd (omega arith)
EndsIn_at nodes (p ∷ ends) h zero below = (h.0, h.1)
EndsIn_at nodes (p ∷ ends) h (suc s) below = EndsIn_at nodes ends h.2 s (omega arith)

-- live darts at a node
pub live_dart_if_not_lone : (ends : List (ℕ × ℕ)) (live : ℕ → Bool) (w : ℕ) → is_lone (kept live ends) w ≡ false → (x : ℕ) × (x < 2 * length ends) × (live (x / 2) ≡ true) × (tail_of ends x ≡ w)
live_dart_if_not_lone ends live w h =
    let found = any_kept_to (λ p. touches p w) live ends (not-false _ h) in
    let half_even : (2 * found.0) / 2 ≡ found.0 = omega arith in
    let half_odd : (2 * found.0 + 1) / 2 ≡ found.0 = omega arith in
    elim (or_cases (eqb (ends_at ends found.0).0 w) (eqb (ends_at ends found.0).1 w) found.3) [
      | inl one ↦ (2 * found.0, omega (arith, found.1), ap live half_even ∙ found.2, tail-even ends found.0 ∙ eqb-true _ _ one)
      | inr two ↦ (2 * found.0 + 1, omega (arith, found.1), ap live half_odd ∙ found.2, tail-odd ends found.0 ∙ eqb-true _ _ two)
    ]

pub no_live_dart_if_lone : (ends : List (ℕ × ℕ)) (live : ℕ → Bool) (w : ℕ) → is_lone (kept live ends) w ≡ true → (x : ℕ) → x < 2 * length ends → live (x / 2) ≡ true → tail_of ends x ≡ w → ⊥
no_live_dart_if_lone ends live w h x x_in l at_w =
    let c = cases_dart x in
    let half : x / 2 ≡ c.0 = omega (arith, c.1) in
    let s_in : c.0 < length ends = omega (arith, c.1) in
    let touch : touches (ends_at ends c.0) w ≡ true = elim c.1 [
      | inl even ↦ or_left _ _ (eq-eqb _ _ (sym (tail-even ends c.0) ∙ ap (tail_of ends) (sym even) ∙ at_w))
      | inr odd ↦ or_right _ _ (eq-eqb _ _ (sym (tail-odd ends c.0) ∙ ap (tail_of ends) (sym odd) ∙ at_w))
    ] in
    both_ways _ (not-true _ h) (any_kept_from (λ p. touches p w) live ends c.0 s_in (ap live (sym half) ∙ l) touch)

-- a map that is the same along each segment is the same at a node and at its label
universal_fold : (nodes : ℕ) (m : ℕ → ℕ) (ends : List (ℕ × ℕ)) (labels : List ℕ) → EndsIn nodes ends → IsLabelling nodes labels → Along m ends →
    ((v : ℕ) → v < nodes → m (at labels v) ≡ m v) → (v : ℕ) → v < nodes → m (at (fold join_components labels ends) v) ≡ m v
universal_fold nodes m [] labels h old along same = same
universal_fold nodes m (p ∷ ends) labels h old along same =
    universal_fold nodes m ends (join_components labels p) h.2 (IsLabelling-join nodes labels old p h.0 h.1) along.1 (λ v v_in.
    let a = at labels p.0 in
    let b = at labels p.1 in
    let new = at-join_components labels p v (omega (arith, old.len)) in
    let ab : m a ≡ m b = same p.0 h.0 ∙ along.0 ∙ sym (same p.1 h.1) in
    elim (cases_relabel a b (at labels v)) [
      | inr other ↦ ap m (new ∙ other.1) ∙ same v v_in
      | inl moved ↦ elim (cases_le a b) [
        | inl low ↦
            let is_min : min a b ≡ a = omega arith in
            let is_max : at labels v ≡ b = omega (arith, moved.0) in
            ap m (new ∙ moved.1 ∙ is_min) ∙ ab ∙ ap m (sym is_max) ∙ same v v_in
        | inr high ↦
            let is_min : min a b ≡ b = omega arith in
            let is_max : at labels v ≡ a = omega (arith, moved.0) in
            ap m (new ∙ moved.1 ∙ is_min) ∙ sym ab ∙ ap m (sym is_max) ∙ same v v_in
      ]
    ])
  where
    cases_le : (a b : ℕ) → (a ≤ b) ⊎ (b ≤ a)
    cases_le a b = elim (cases_Bool (leb a b)) [ inl t ↦ inl (leb-true a b t) | inr t ↦ let low : b < a = leb-false a b t in inr (omega arith) ]

pub universal : (nodes : ℕ) (m : ℕ → ℕ) (ends : List (ℕ × ℕ)) → EndsIn nodes ends → Along m ends → (v : ℕ) → v < nodes → m (at (component_labels nodes ends) v) ≡ m v
universal nodes m ends h along =
    universal_fold nodes m ends _ h (IsLabelling-start nodes) along (λ v v_in. ap m (get_or-range_with_len 0 nodes v 0 v_in ∙ omega arith))

-- the labels are the same along each segment
along_fold : (nodes : ℕ) (ends : List (ℕ × ℕ)) (labels : List ℕ) → EndsIn nodes ends → IsLabelling nodes labels → (rest : List (ℕ × ℕ)) → EndsIn nodes rest →
    Along (at labels) rest → Along (at (fold join_components labels ends)) rest
along_fold nodes ends labels h old [] r along = tt
along_fold nodes ends labels h old (q ∷ rest) r along =
    (kept_joined nodes ends labels h old q.0 q.1 r.0 r.1 along.0, along_fold nodes ends labels h old rest r.2 along.1)

along_labels_fold : (nodes : ℕ) (ends : List (ℕ × ℕ)) (labels : List ℕ) → EndsIn nodes ends → IsLabelling nodes labels → Along (at (fold join_components labels ends)) ends
along_labels_fold nodes [] labels h old = tt
along_labels_fold nodes (p ∷ ends) labels h old =
    let new = IsLabelling-join nodes labels old p h.0 h.1 in (
      kept_joined nodes ends (join_components labels p) h.2 new p.0 p.1 h.0 h.1 (joined_after nodes labels old p h.0 h.1),
      along_labels_fold nodes ends (join_components labels p) h.2 new,
    )

pub along_labels : (nodes : ℕ) (ends : List (ℕ × ℕ)) → EndsIn nodes ends → Along (at (component_labels nodes ends)) ends
along_labels nodes ends h = along_labels_fold nodes ends _ h (IsLabelling-start nodes)

-- the components hang on which segments there are, and not on their order
pub same_components : (nodes : ℕ) (xs ys : List (ℕ × ℕ)) → EndsIn nodes xs → EndsIn nodes ys → ((m : ℕ → ℕ) → Along m xs → Along m ys) → ((m : ℕ → ℕ) → Along m ys → Along m xs) →
    (v : ℕ) → v < nodes → at (component_labels nodes xs) v ≡ at (component_labels nodes ys) v
same_components nodes xs ys x_in y_in there back v v_in =
    let a = component_labels nodes xs in
    let b = component_labels nodes ys in
    let a_is = IsLabelling-components nodes xs x_in in
    let b_is = IsLabelling-components nodes ys y_in in
    let one = universal nodes (at b) xs x_in (back (at b) (along_labels nodes ys y_in)) v v_in in
    let two = universal nodes (at a) ys y_in (there (at a) (along_labels nodes xs x_in)) v v_in in
    let low_a = a_is.low v v_in in
    let low_b = b_is.low v v_in in
    omega (arith, one, two, b_is.low (at a v) (omega arith), a_is.low (at b v) (omega arith))

pub component_count-same : (nodes : ℕ) (xs ys : List (ℕ × ℕ)) → EndsIn nodes xs → EndsIn nodes ys → ((m : ℕ → ℕ) → Along m xs → Along m ys) → ((m : ℕ → ℕ) → Along m ys → Along m xs) →
    component_count nodes xs ≡ component_count nodes ys
component_count-same nodes xs ys x_in y_in there back = count-same nodes _ _ (λ v v_in. ap (λ x. eqb x v) (same_components nodes xs ys x_in y_in there back v v_in))
