-- What one more segment does to the components.
use Rattle.std.proofs.Common.{◌≡◌, ◌≢◌, ℕ, suc, ◌<◌, inl, inr, eqb, List, [], ◌∷◌, ◌++◌, max, sym, ◌∙◌, ap, arith}
use Rattle.std.specs.List.{range_with_len}
use Rattle.std.proofs.lemmas.Bool.{cases_eq, cases_lt, eq-eqb, ne_eqb}
use Rattle.std.proofs.lemmas.List.Sums.{fold_push}
use Rattle.xn_model.specs.Graph.{EndsIn}
use Rattle.xn_model.specs.Lists.{at}
use Rattle.xn_model.specs.Map.{join_components, component_count, component_labels}
use Rattle.xn_model.specs.Permutation.{count_below}
use Rattle.xn_model.proofs.Components.{IsLabelling, IsLabelling-components, cases_relabel, new_label}
use Rattle.xn_ring.proofs.Counting.{count-differs, count-same}

module _ (nodes : ℕ) (labels : List ℕ) (old : IsLabelling nodes labels) (p : ℕ × ℕ) (u_in : p.0 < nodes) (v_in : p.1 < nodes) where
  label_in : (w : ℕ) → w < nodes → at labels w < nodes
  label_in w below = omega (arith, old.low w below)

  -- a segment within one component changes no label
  pub same_labels : at labels p.0 ≡ at labels p.1 → (w : ℕ) → w < nodes → at (join_components labels p) w ≡ at labels w
  same_labels same w below = omega (arith, new_label nodes labels old p u_in v_in w below, cases_relabel (at labels p.0) (at labels p.1) (at labels w))

  pub count_joined_same : at labels p.0 ≡ at labels p.1 → count_below nodes (λ w. eqb (at (join_components labels p) w) w) ≡ count_below nodes (λ w. eqb (at labels w) w)
  count_joined_same same = count-same nodes _ _ (λ w below. ap (λ x. eqb x w) (same_labels same w below))

  -- a segment between two components makes one of them
  pub count_joined_apart : at labels p.0 ≢ at labels p.1 → count_below nodes (λ w. eqb (at labels w) w) ≡ suc (count_below nodes (λ w. eqb (at (join_components labels p) w) w))
  count_joined_apart differ =
      let a = at labels p.0 in
      let b = at labels p.1 in
      let m = max a b in
      let a_in = label_in p.0 u_in in
      let b_in = label_in p.1 v_in in
      let m_in : m < nodes = omega arith in
      let m_again : at labels m ≡ m = elim (cases_lt a b) [
        | inl low ↦ let e : m ≡ b = omega arith in ap (at labels) e ∙ old.again p.1 v_in ∙ sym e
        | inr high ↦ let e : m ≡ a = omega arith in ap (at labels) e ∙ old.again p.0 u_in ∙ sym e
      ] in
      count-differs nodes _ _ m m_in (eq-eqb _ _ m_again)
      (ne_eqb _ _ (λ e. omega (arith, e, new_label nodes labels old p u_in v_in m m_in, cases_relabel a b (at labels m), m_again)))
      (λ w below other. elim (cases_eq (at labels w) w) [
        | inl least ↦ eq-eqb _ _ least ∙ sym (eq-eqb _ _ (omega (arith, new_label nodes labels old p u_in v_in w below, cases_relabel a b (at labels w), least)))
        | inr not_least ↦ ne_eqb _ _ not_least ∙ sym (ne_eqb _ _ (λ e. not_least (omega (arith, e, new_label nodes labels old p u_in v_in w below, cases_relabel a b (at labels w), old.low w below))))
      ])

-- one segment more
pub component_count-push_same : (nodes : ℕ) (ends : List (ℕ × ℕ)) (p : ℕ × ℕ) → EndsIn nodes ends → p.0 < nodes → p.1 < nodes →
    at (component_labels nodes ends) p.0 ≡ at (component_labels nodes ends) p.1 → component_count nodes (ends ++ p ∷ []) ≡ component_count nodes ends
component_count-push_same nodes ends p h u_in v_in same =
    ap (λ labels. count_below nodes (λ w. eqb (at labels w) w)) (fold_push join_components (range_with_len 0 nodes) ends p)
    ∙ count_joined_same nodes (component_labels nodes ends) (IsLabelling-components nodes ends h) p u_in v_in same

pub component_count-push_apart : (nodes : ℕ) (ends : List (ℕ × ℕ)) (p : ℕ × ℕ) → EndsIn nodes ends → p.0 < nodes → p.1 < nodes →
    at (component_labels nodes ends) p.0 ≢ at (component_labels nodes ends) p.1 → component_count nodes ends ≡ suc (component_count nodes (ends ++ p ∷ []))
component_count-push_apart nodes ends p h u_in v_in differ =
    count_joined_apart nodes (component_labels nodes ends) (IsLabelling-components nodes ends h) p u_in v_in differ
    ∙ ap (λ labels. suc (count_below nodes (λ w. eqb (at labels w) w))) (sym (fold_push join_components (range_with_len 0 nodes) ends p))
