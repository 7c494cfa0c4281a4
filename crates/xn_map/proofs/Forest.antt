-- The roots of a forest.
use Rattle.std.proofs.Common.{◌≡◌, ◌≢◌, ℕ, zero, suc, ◌+◌, ◌-◌, ◌<◌, ◌≤◌, ◌⊎◌, inl, inr, List, [], ◌∷◌, ◌++◌, length, max, min, set, refl, sym, ◌∙◌, ap, arith}
use Rattle.std.specs.List.{fold, range_with_len}
use Rattle.std.specs.Prelude.{◌==◌}
use Rattle.std.proofs.lemmas.Bool.{cases_eq, cases_lt, eq-eqb, eqb-true}
use Rattle.std.proofs.lemmas.List.{get_or-set_same, get_or-set_other, length-map, length-set}
use Rattle.std.proofs.lemmas.List.FromFn.{length-range_with_len, get_or-range_with_len}
use Rattle.std.proofs.lemmas.List.Sums.{fold_push}
use Rattle.xn_model.specs.Graph.{Graph}
use Rattle.xn_model.specs.Lists.{at}
use Rattle.xn_model.specs.Map.{component_count, component_labels, join_components, relabel}
use Rattle.xn_model.specs.Permutation.{count_below, iterate}
use Rattle.xn_model.proofs.Components.{at-join_components, cases_relabel}
use Rattle.xn_model.proofs.Tests.{same_tests}
use Rattle.xn_model.proofs.Decide.{iterate-step}
use Rattle.xn_map.specs.Forest.{HoldsComponents, IsForest, root_of}
use Rattle.xn_ring.proofs.Counting.{count-same}
use Rattle.xn_ring.proofs.Orbits.{iterate-add}

cases_min : (a b : ℕ) → (min a b ≡ a) ⊎ (min a b ≡ b)
cases_min a b = elim (cases_lt a b) [ inl low ↦ inl (omega arith) | inr high ↦ inr (omega arith) ]

cases_max : (a b : ℕ) → (max a b ≡ a) ⊎ (max a b ≡ b)
cases_max a b = elim (cases_lt a b) [ inl low ↦ inr (omega arith) | inr high ↦ inl (omega arith) ]

module _ (parents : List ℕ) (forest : IsForest parents) where
  -- k steps up end at a root, or fall by k at least
  falls : (k v : ℕ) → v < length parents → (at parents (iterate (at parents) k v) ≡ iterate (at parents) k v) ⊎ (iterate (at parents) k v + k ≤ v)
  falls zero v v_in = inr (omega arith)
  falls (suc k) v v_in = elim (falls k v v_in) [
    | inl own ↦ inl (ap (at parents) own)
    | inr low ↦
        let x = iterate (at parents) k v in
        elim (cases_eq (at parents x) x) [
          | inl own ↦ inl (ap (at parents) own)
          | inr up ↦ inr (omega (arith, forest x (omega arith)))
        ]
  ]

  pub root_own : (v : ℕ) → v < length parents → at parents (root_of parents v) ≡ root_of parents v
  root_own v v_in = elim (falls v v v_in) [
    | inl own ↦ own
    | inr low ↦
        let none : root_of parents v ≡ 0 = omega arith in
        omega (arith, none, ap (at parents) none, forest 0 (omega arith))
  ]

  stays : (j r : ℕ) → at parents r ≡ r → iterate (at parents) j r ≡ r
  stays zero r own = refl
  stays (suc j) r own = ap (at parents) (stays j r own) ∙ own

  pub root_of-own : (r : ℕ) → at parents r ≡ r → root_of parents r ≡ r
  root_of-own r own = stays r r own

  pub root_of-parent : (v : ℕ) → v < length parents → root_of parents (at parents v) ≡ root_of parents v
  root_of-parent v v_in =
      let p = at parents v in
      let low = forest v v_in in
      let p_in : p < length parents = omega arith in
      let whole : (v - p) + p ≡ v = omega arith in
      sym (stays (v - p) (root_of parents p) (root_own p p_in))
      ∙ sym (iterate-add (at parents) (v - p) p p) ∙ ap (λ k. iterate (at parents) k p) whole
      ∙ iterate-step (at parents) v v ∙ root_own v v_in

  -- what is the same along the way to the root, and is the root at a root, is the root
  module _ (label : ℕ → ℕ) (along : (w : ℕ) → w < length parents → label (at parents w) ≡ label w) (own : (w : ℕ) → w < length parents → at parents w ≡ w → label w ≡ w) where
    all_along : (k v : ℕ) → v < length parents → (iterate (at parents) k v ≤ v) × (label (iterate (at parents) k v) ≡ label v)
    all_along zero v v_in = (omega arith, refl)
    all_along (suc k) v v_in =
        let before = all_along k v v_in in
        let x = iterate (at parents) k v in
        let x_in : x < length parents = omega (arith, before.0) in
        (omega (arith, before.0, forest x x_in), along x x_in ∙ before.1)

    pub root_of-unique : (v : ℕ) → v < length parents → root_of parents v ≡ label v
    root_of-unique v v_in =
        let way = all_along v v v_in in
        sym (own (root_of parents v) (omega (arith, way.0)) (root_own v v_in)) ∙ way.1

-- a write into a forest
module _ (parents : List ℕ) (forest : IsForest parents) (w to : ℕ) (w_in : w < length parents) (low : to ≤ w) where
  pub IsForest-set : IsForest (set parents w to)
  IsForest-set v v_in =
      let v_old : v < length parents = omega (arith, length-set parents w to) in
      elim (cases_eq v w) [
        | inl same ↦ omega (arith, same, ap (at (set parents w to)) same, get_or-set_same parents w to 0 w_in)
        | inr other ↦ omega (arith, forest v v_old, get_or-set_other parents w v to 0 other)
      ]

  -- the parents after the write
  pub at-set : (v : ℕ) → ((v ≡ w) × (at (set parents w to) v ≡ to)) ⊎ ((v ≢ w) × (at (set parents w to) v ≡ at parents v))
  at-set v = elim (cases_eq v w) [
    | inl same ↦ inl (same, ap (at (set parents w to)) same ∙ get_or-set_same parents w to 0 w_in)
    | inr other ↦ inr (other, get_or-set_other parents w v to 0 other)
  ]

  -- the roots are the labels, where the labels suit the write
  pub root_of-set : (label : ℕ → ℕ) → label to ≡ label w → (to ≡ w → label w ≡ w) →
      ((v : ℕ) → v < length parents → v ≢ w → label (at parents v) ≡ label v) →
      ((v : ℕ) → v < length parents → v ≢ w → at parents v ≡ v → label v ≡ v) →
      (v : ℕ) → v < length parents → root_of (set parents w to) v ≡ label v
  root_of-set label to_is own_is along own v v_in =
      let new = set parents w to in
      root_of-unique new IsForest-set label
      (λ x x_in. elim (at-set x) [
        | inl here ↦ ap label here.1 ∙ to_is ∙ ap label (sym here.0)
        | inr there ↦ ap label there.1 ∙ along x (omega (arith, length-set parents w to)) there.0
      ])
      (λ x x_in is. elim (at-set x) [
        | inl here ↦ ap label here.0 ∙ own_is (sym here.1 ∙ is ∙ here.0) ∙ sym here.0
        | inr there ↦ own x (omega (arith, length-set parents w to)) there.0 (sym there.1 ∙ is)
      ])
      v (omega (arith, length-set parents w to))

module _ (parents : List ℕ) (forest : IsForest parents) where
  -- a node hung under its grandparent keeps its root
  pub root_of-halved : (w : ℕ) → w < length parents → (v : ℕ) → v < length parents → root_of (set parents w (at parents (at parents w))) v ≡ root_of parents v
  root_of-halved w w_in v v_in =
      let p = at parents w in
      let low = forest w w_in in
      let lower = forest p (omega arith) in
      root_of-set parents forest w (at parents p) w_in (omega arith) (root_of parents)
      (root_of-parent parents forest p (omega arith) ∙ root_of-parent parents forest w w_in)
      (λ same. root_of-own parents forest w (omega arith))
      (λ x x_in other. root_of-parent parents forest x x_in)
      (λ x x_in other own. root_of-own parents forest x own)
      v v_in

  -- the greater of two roots hung under the lesser joins their trees
  pub root_of-joined : (a b : ℕ) → a < length parents → b < length parents → at parents a ≡ a → at parents b ≡ b → (v : ℕ) → v < length parents →
      root_of (set parents (max a b) (min a b)) v ≡ relabel a b (root_of parents v)
  root_of-joined a b a_in b_in a_own b_own v v_in =
      let label = λ (x : ℕ). relabel a b (root_of parents x) in
      let high = max a b in
      let low = min a b in
      let low_own : at parents low ≡ low = elim (cases_min a b) [
        | inl at_a ↦ ap (at parents) at_a ∙ a_own ∙ sym at_a
        | inr at_b ↦ ap (at parents) at_b ∙ b_own ∙ sym at_b
      ] in
      let high_own : at parents high ≡ high = elim (cases_max a b) [
        | inl at_a ↦ ap (at parents) at_a ∙ a_own ∙ sym at_a
        | inr at_b ↦ ap (at parents) at_b ∙ b_own ∙ sym at_b
      ] in
      let low_root = root_of-own parents forest low low_own in
      let high_root = root_of-own parents forest high high_own in
      let at_low = ap (relabel a b) low_root in
      let at_high = ap (relabel a b) high_root in
      root_of-set parents forest high low (omega arith) (omega arith) label
      (omega (arith, at_low, at_high, cases_relabel a b low, cases_relabel a b high))
      (λ same. omega (arith, same, at_high, cases_relabel a b high))
      (λ x x_in other. ap (relabel a b) (root_of-parent parents forest x x_in))
      (λ x x_in other own. omega (arith, ap (relabel a b) (root_of-own parents forest x own), cases_relabel a b x))
      v v_in

length-fold_join : (labels : List ℕ) (ends : List (ℕ × ℕ)) → length (fold join_components labels ends) ≡ length labels
length-fold_join labels [] = refl
length-fold_join labels (p ∷ ends) =
    length-fold_join (join_components labels p) ends ∙ length-map labels (relabel (at labels p.0) (at labels p.1))

pub length-component_labels : (nodes : ℕ) (ends : List (ℕ × ℕ)) → length (component_labels nodes ends) ≡ nodes
length-component_labels nodes ends = length-fold_join (range_with_len 0 nodes) ends ∙ length-range_with_len 0 nodes

-- without segments each node is a root
pub HoldsComponents-start : (nodes : ℕ) → HoldsComponents (range_with_len 0 nodes) (record { nodes = nodes; ends = [] })
HoldsComponents-start nodes =
    let all = range_with_len 0 nodes in
    let len = length-range_with_len 0 nodes in
    let own : (v : ℕ) → v < nodes → at all v ≡ v = λ v v_in. get_or-range_with_len 0 nodes v 0 v_in ∙ omega arith in
    let is_forest : IsForest all = λ v v_in. omega (arith, own v (omega arith)) in
    record {
      forest = is_forest;
      len = len;
      roots = λ v v_in. root_of-own all is_forest v (own v v_in) ∙ sym (own v v_in);
    }

-- one segment more
pub HoldsComponents-join : (nodes : ℕ) (done : List (ℕ × ℕ)) (p : ℕ × ℕ) (parents new : List ℕ) → HoldsComponents parents (record { nodes = nodes; ends = done }) →
    p.0 < nodes → p.1 < nodes → IsForest new → length new ≡ length parents →
    ((w : ℕ) → w < length parents → root_of new w ≡ relabel (root_of parents p.0) (root_of parents p.1) (root_of parents w)) →
    HoldsComponents new (record { nodes = nodes; ends = done ++ p ∷ [] })
HoldsComponents-join nodes done p parents new old u_in v_in is_forest same_length joined =
    let labels = component_labels nodes done in
    record {
      forest = is_forest;
      len = same_length ∙ old.len;
      roots = λ w w_in.
          joined w (omega (arith, w_in, old.len)) ∙ ap (relabel (root_of parents p.0) (root_of parents p.1)) (old.roots w w_in)
          ∙ ap (λ a. relabel a (root_of parents p.1) (at labels w)) (old.roots p.0 u_in)
          ∙ ap (λ b. relabel (at labels p.0) b (at labels w)) (old.roots p.1 v_in)
          ∙ sym (at-join_components labels p w (omega (arith, w_in, length-component_labels nodes done)))
          ∙ ap (λ l. at l w) (sym (fold_push join_components (range_with_len 0 nodes) done p));
    }

-- the roots are the nodes that are their own labels
pub count-roots : (web : Graph) (parents : List ℕ) → HoldsComponents parents web → count_below (length parents) (λ v. at parents v == v) ≡ component_count web.nodes web.ends
count-roots web parents held =
    ap (λ n. count_below n (λ v. at parents v == v)) held.len
    ∙ count-same web.nodes _ _ (λ v v_in. same_tests _ _
    (λ t. eq-eqb _ _ (sym (held.roots v v_in) ∙ root_of-own parents held.forest v (eqb-true _ _ t)))
    (λ t.
    let root : root_of parents v ≡ v = held.roots v v_in ∙ eqb-true _ _ t in
    eq-eqb _ _ (ap (at parents) (sym root) ∙ root_own parents held.forest v (omega (arith, v_in, held.len)) ∙ root)))
