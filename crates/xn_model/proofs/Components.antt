-- The labels of components, segment by segment.
use Rattle.std.proofs.Common.{◌≡◌, ◌≢◌, ℕ, zero, suc, ◌*◌, ◌<◌, ◌≤◌, ◌⊎◌, inl, inr, List, [], ◌∷◌, ◌++◌, length, map, max, min, sym, ◌∙◌, ap, arith}
use Rattle.std.specs.List.{fold, range_with_len}
use Rattle.std.proofs.lemmas.Bool.{cases_eq, cond-true, cond-false, eq-eqb, ne_eqb}
use Rattle.std.proofs.lemmas.List.FromFn.{length-range_with_len, get_or-range_with_len}
use Rattle.std.proofs.lemmas.List.{get_or_default, length-map}
use Rattle.std.proofs.Math.ListN.{get_or-map}
use Rattle.xn_model.specs.Graph.{EndsIn, ends_at}
use Rattle.xn_model.specs.Lists.{at}
use Rattle.xn_model.specs.Map.{component_labels, join_components, relabel, reverse_of, tail_of}
use Rattle.xn_model.proofs.Darts.{cases_dart, reverse-even, reverse-odd, tail-even, tail-odd}

-- what a new label is
pub cases_relabel : (a b v : ℕ) → ((v ≡ max a b) × (relabel a b v ≡ min a b)) ⊎ ((v ≢ max a b) × (relabel a b v ≡ v))
cases_relabel a b v = elim (cases_eq v (max a b)) [
  | inl same ↦ inl (same, cond-true _ _ _ (eq-eqb _ _ same))
  | inr other ↦ inr (other, cond-false _ _ _ (ne_eqb _ _ other))
]

-- each label is the least node of a component
pub record IsLabelling (nodes : ℕ) (labels : List ℕ) : Type 0 where
  pub len : length labels ≡ nodes
  pub low : (v : ℕ) → v < nodes → at labels v ≤ v
  pub again : (v : ℕ) → v < nodes → at labels (at labels v) ≡ at labels v

pub at-join_components : (labels : List ℕ) (p : ℕ × ℕ) (v : ℕ) → v < length labels → at (join_components labels p) v ≡ relabel (at labels p.0) (at labels p.1) (at labels v)
at-join_components labels p v below =
    let f = relabel (at labels p.0) (at labels p.1) in
    get_or_default (map f labels) v 0 (f 0) (omega (arith, length-map labels f)) ∙ get_or-map f labels v 0

pub IsLabelling-start : (nodes : ℕ) → IsLabelling nodes (range_with_len 0 nodes)
IsLabelling-start nodes =
    let is : (v : ℕ) → v < nodes → at (range_with_len 0 nodes) v ≡ v = λ v below. get_or-range_with_len 0 nodes v 0 below ∙ omega arith in
    record {
      len = length-range_with_len 0 nodes;
      low = λ v below. omega (arith, is v below);
      again = λ v below. ap (at (range_with_len 0 nodes)) (is v below);
    }

module _ (nodes : ℕ) (labels : List ℕ) (old : IsLabelling nodes labels) (p : ℕ × ℕ) (u_in : p.0 < nodes) (v_in : p.1 < nodes) where
  pub new_label : (w : ℕ) → w < nodes → at (join_components labels p) w ≡ relabel (at labels p.0) (at labels p.1) (at labels w)
  new_label w below = at-join_components labels p w (omega (arith, old.len))

  pub IsLabelling-join : IsLabelling nodes (join_components labels p)
  IsLabelling-join =
      let a = at labels p.0 in
      let b = at labels p.1 in
      let a_again = old.again p.0 u_in in
      let b_again = old.again p.1 v_in in
      record {
        len = length-map labels (relabel a b) ∙ old.len;
        low = λ w below. omega (arith, new_label w below, cases_relabel a b (at labels w), old.low w below);
        again = λ w below.
            let x = at (join_components labels p) w in
            let x_in : x < nodes = omega (arith, new_label w below, cases_relabel a b (at labels w), old.low w below) in
            grind (arith, new_label w below, new_label x x_in, cases_relabel a b (at labels w), cases_relabel a b (at labels x), old.again w below, a_again, b_again);
      }

  -- the ends are in one component afterwards
  pub joined_after : at (join_components labels p) p.0 ≡ at (join_components labels p) p.1
  joined_after =
      let a = at labels p.0 in
      let b = at labels p.1 in
      omega (arith, new_label p.0 u_in, new_label p.1 v_in, cases_relabel a b a, cases_relabel a b b)

pub EndsIn-front : (nodes : ℕ) (ends : List (ℕ × ℕ)) (p : ℕ × ℕ) → EndsIn nodes (ends ++ p ∷ []) → EndsIn nodes ends × (p.0 < nodes) × (p.1 < nodes)
EndsIn-front nodes [] p h = (tt, h.0, h.1)
EndsIn-front nodes (q ∷ ends) p h = let rest = EndsIn-front nodes ends p h.2 in ((h.0, h.1, rest.0), rest.1, rest.2)

IsLabelling-fold : (nodes : ℕ) (ends : List (ℕ × ℕ)) (labels : List ℕ) → EndsIn nodes ends → IsLabelling nodes labels → IsLabelling nodes (fold join_components labels ends)
IsLabelling-fold nodes [] labels h old = old
IsLabelling-fold nodes (p ∷ ends) labels h old = IsLabelling-fold nodes ends (join_components labels p) h.2 (IsLabelling-join nodes labels old p h.0 h.1)

pub IsLabelling-components : (nodes : ℕ) (ends : List (ℕ × ℕ)) → EndsIn nodes ends → IsLabelling nodes (component_labels nodes ends)
IsLabelling-components nodes ends h = IsLabelling-fold nodes ends _ h (IsLabelling-start nodes)

-- what is in one component stays in one component
pub kept_joined : (nodes : ℕ) (ends : List (ℕ × ℕ)) (labels : List ℕ) → EndsIn nodes ends → IsLabelling nodes labels → (x y : ℕ) → x < nodes → y < nodes →
    at labels x ≡ at labels y → at (fold join_components labels ends) x ≡ at (fold join_components labels ends) y
kept_joined nodes [] labels h old x y x_in y_in same = same
kept_joined nodes (p ∷ ends) labels h old x y x_in y_in same =
    let f = relabel (at labels p.0) (at labels p.1) in
    kept_joined nodes ends (join_components labels p) h.2 (IsLabelling-join nodes labels old p h.0 h.1) x y x_in y_in
    (at-join_components labels p x (omega (arith, old.len)) ∙ ap f same ∙ sym (at-join_components labels p y (omega (arith, old.len))))

ends_joined : (nodes : ℕ) (ends : List (ℕ × ℕ)) (labels : List ℕ) → EndsIn nodes ends → IsLabelling nodes labels → (s : ℕ) → s < length ends →
    at (fold join_components labels ends) (ends_at ends s).0 ≡ at (fold join_components labels ends) (ends_at ends s).1
ends_joined nodes [] labels h old s s_in = absurd (omega arith)
ends_joined nodes (p ∷ ends) labels h old zero s_in =
    kept_joined nodes ends (join_components labels p) h.2 (IsLabelling-join nodes labels old p h.0 h.1) p.0 p.1 h.0 h.1 (joined_after nodes labels old p h.0 h.1)
ends_joined nodes (p ∷ ends) labels h old (suc s) s_in =
    ends_joined nodes ends (join_components labels p) h.2 (IsLabelling-join nodes labels old p h.0 h.1) s (omega arith)

-- the two ends of a segment have one label
pub components_joined : (nodes : ℕ) (ends : List (ℕ × ℕ)) → EndsIn nodes ends → (s : ℕ) → s < length ends →
    at (component_labels nodes ends) (ends_at ends s).0 ≡ at (component_labels nodes ends) (ends_at ends s).1
components_joined nodes ends h = ends_joined nodes ends _ h (IsLabelling-start nodes)

-- the label at a dart's reverse is that at the dart
pub components_reverse : (nodes : ℕ) (ends : List (ℕ × ℕ)) → EndsIn nodes ends → (x : ℕ) → x < 2 * length ends →
    at (component_labels nodes ends) (tail_of ends (reverse_of x)) ≡ at (component_labels nodes ends) (tail_of ends x)
components_reverse nodes ends h x x_in =
    let label = λ (v : ℕ). at (component_labels nodes ends) v in
    let c = cases_dart x in
    let joined = components_joined nodes ends h c.0 (omega (arith, c.1)) in
    elim c.1 [
      | inl even ↦ ap (λ y. label (tail_of ends y)) (ap reverse_of even ∙ reverse-even c.0) ∙ ap label (tail-odd ends c.0) ∙ sym joined ∙ ap label (sym (tail-even ends c.0)) ∙ ap (λ y. label (tail_of ends y)) (sym even)
      | inr odd ↦ ap (λ y. label (tail_of ends y)) (ap reverse_of odd ∙ reverse-odd c.0) ∙ ap label (tail-even ends c.0) ∙ joined ∙ ap label (sym (tail-odd ends c.0)) ∙ ap (λ y. label (tail_of ends y)) (sym odd)
    ]
