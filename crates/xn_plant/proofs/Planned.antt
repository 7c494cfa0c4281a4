-- The crossings of a state among some edges are orders over them.
use Rattle.std.proofs.Common.{◌≡◌, ◌≢◌, ℕ, inl, inr, Bool, true, false, ◌&&◌, eqb, not, List, [], ◌∷◌, length, map, refl, sym, ◌∙◌, ap, ap₂, subst, arith}
use Rattle.std.specs.Prelude.{Option, Some, None, filter, max, min, nat_eq}
use Rattle.std.specs.List.{IsDistinct}
use Rattle.std.proofs.lemmas.Bool.{and_from, and_parts, both_ways, cases_Bool, cases_eq, cases_lt, eq-eqb, ne_eqb, not-true}
use Rattle.xn_model.specs.Graph.{Graph, Independent}
use Rattle.xn_model.specs.Lists.{has, stands_before}
use Rattle.xn_model.specs.Orders.{IsEdgeList, IsOrders, order_at}
use Rattle.xn_model.proofs.Ranges.{order_at_outside}
use Rattle.xn_kinds.specs.State.{State, Crosses, IsState}
use Rattle.xn_effort.specs.Potential.{is_one}
use Rattle.xn_tree.specs.Steps.{value_in}
use Rattle.xn_tree.proofs.Edges.{rising_distinct}
use Rattle.xn_tree.proofs.Kept.{independent-flip}
use Rattle.xn_fewer.proofs.Has.{has-append, has-kept, has-left, has-picked, has-right}
use Rattle.xn_plant.specs.Listed.{is_loose_on, is_planted, planted_list, planted_lists}
use Rattle.xn_plant.proofs.Lists.{distinct-append, distinct-filter}
use Rattle.xn_plant.proofs.Standing.{stood_before}

none_distinct : IsDistinct nat_eq []
unfolding IsDistinct
none_distinct = tt

-- ---- the list of an edge

-- where an edge is listed it has the list made for it
listed-is : (f : ℕ → List ℕ) (edges : List ℕ) (e : ℕ) → has edges e ≡ true → order_at edges (map f edges) e ≡ f e
listed-is f [] e e_in = absurd (both_ways false refl e_in)
listed-is f (x ∷ xs) e e_in = elim (cases_eq x e) [
  | inl here ↦ rw (eq-eqb x e here) (ap f here)
  | inr past ↦ rw (ne_eqb x e past) (listed-is f xs e (rw (ne_eqb x e past) at e_in))
]

pub one_is : (o : Option Bool) → is_one o ≡ true → o ≡ Some true
one_is None one = absurd (both_ways false refl one)
one_is (Some x) one = ap Some one

module _ (g : Graph) (s : State) (state : IsState g s) where
  -- a pair that is decided 1, given in either order
  planted_crosses : (e f : ℕ) → is_planted s e f ≡ true → Crosses s e f
  planted_crosses e f planted =
      let decided : value_in s e f ≡ Some true = one_is (value_in s e f) (and_parts (not (eqb e f)) (is_one (value_in s e f)) planted).1 in
      elim (cases_lt e f) [
        | inl less ↦
            let low : min e f ≡ e = omega (arith, less) in
            let high : max e f ≡ f = omega (arith, less) in
            inl (ap₂ (λ (a b : ℕ). s.decided a b) (sym low) (sym high) ∙ decided)
        | inr more ↦
            let low : min e f ≡ f = omega (arith, more) in
            let high : max e f ≡ e = omega (arith, more) in
            inr (ap₂ (λ (a b : ℕ). s.decided a b) (sym low) (sym high) ∙ decided)
      ]

  -- the edges are different
  apart : (e f : ℕ) → Crosses s e f → e ≢ f
  apart e f (inl here) same = omega (arith, state.rises e f true here, same)
  apart e f (inr there) same = omega (arith, state.rises f e true there, same)

  crosses_planted : (e f : ℕ) → Crosses s e f → is_planted s e f ≡ true
  crosses_planted e f crosses = and_from (not (eqb e f)) (is_one (value_in s e f)) (ap not (ne_eqb e f (apart e f crosses))) (ap is_one (decided crosses))
    where
      decided : Crosses s e f → value_in s e f ≡ Some true
      decided (inl here) =
          let less = state.rises e f true here in
          let low : min e f ≡ e = omega (arith, less) in
          let high : max e f ≡ f = omega (arith, less) in
          ap₂ (λ (a b : ℕ). s.decided a b) low high ∙ here
      decided (inr there) =
          let less = state.rises f e true there in
          let low : min e f ≡ f = omega (arith, less) in
          let high : max e f ≡ e = omega (arith, less) in
          ap₂ (λ (a b : ℕ). s.decided a b) low high ∙ there

  turned : (e f : ℕ) → Crosses s e f → Crosses s f e
  turned e f (inl here) = inr here
  turned e f (inr there) = inl there

  crossing_independent : (e f : ℕ) → Crosses s e f → Independent g.ends e f
  crossing_independent e f (inl here) = state.independent e f true here
  crossing_independent e f (inr there) = independent-flip g.ends f e (state.independent f e true there)

  module _ (edges : List ℕ) (edge_list : IsEdgeList (length g.ends) edges) where
    -- what stands in a list is one of the edges and crosses
    listed_crosses : (e f : ℕ) → has (planted_list s edges e) f ≡ true → (has edges f ≡ true) × Crosses s e f
    listed_crosses e f f_in = elim (has-append (filter (has edges) (s.placed e)) (filter (is_loose_on s e) edges) f f_in) [
      | inl placed ↦ let both = has-picked (has edges) (s.placed e) f placed in (both.1, state.crosses e f both.0)
      | inr loose ↦
          let both = has-picked (is_loose_on s e) edges f loose in
          (both.0, planted_crosses e f (and_parts (is_planted s e f) (not (has (s.placed e) f)) both.1).0)
    ]

    crosses_listed : (e f : ℕ) → has edges f ≡ true → Crosses s e f → has (planted_list s edges e) f ≡ true
    crosses_listed e f f_in crosses = elim (cases_Bool (has (s.placed e) f)) [
      | inl placed ↦ has-left (filter (has edges) (s.placed e)) (filter (is_loose_on s e) edges) f (has-kept (has edges) (s.placed e) f placed f_in)
      | inr loose ↦
          has-right (filter (has edges) (s.placed e)) (filter (is_loose_on s e) edges) f
          (has-kept (is_loose_on s e) edges f f_in (and_from (is_planted s e f) (not (has (s.placed e) f)) (crosses_planted e f crosses) (ap not loose)))
    ]

    pub order-is : (e : ℕ) → has edges e ≡ true → order_at edges (planted_lists s edges) e ≡ planted_list s edges e
    order-is e e_in = listed-is (planted_list s edges) edges e e_in

    -- an edge that isn't listed has no list
    pub within : (e f : ℕ) → has (order_at edges (planted_lists s edges) e) f ≡ true → has edges e ≡ true
    within e f f_in = elim (cases_Bool (has edges e)) [
      | inl e_in ↦ e_in
      | inr e_out ↦ absurd (both_ways false refl (ap (λ xs. has xs f) (sym (order_at_outside edges (planted_lists s edges) e e_out)) ∙ f_in))
    ]

    pub order_crosses : (e f : ℕ) → has (order_at edges (planted_lists s edges) e) f ≡ true → (has edges f ≡ true) × Crosses s e f
    order_crosses e f f_in = listed_crosses e f (ap (λ xs. has xs f) (sym (order-is e (within e f f_in))) ∙ f_in)

    pub crosses_order : (e f : ℕ) → has edges e ≡ true → has edges f ≡ true → Crosses s e f → has (order_at edges (planted_lists s edges) e) f ≡ true
    crosses_order e f e_in f_in crosses = ap (λ xs. has xs f) (order-is e e_in) ∙ crosses_listed e f f_in crosses

    list_distinct : (e : ℕ) → IsDistinct nat_eq (planted_list s edges e)
    list_distinct e =
        distinct-append (filter (has edges) (s.placed e)) (filter (is_loose_on s e) edges)
        (distinct-filter (has edges) (s.placed e) (state.no_repeats e))
        (distinct-filter (is_loose_on s e) edges (rising_distinct edges edge_list.rise))
        (λ x one two.
        let placed = (has-picked (has edges) (s.placed e) x one).0 in
        let loose = not-true (has (s.placed e) x) (and_parts (is_planted s e x) (not (has (s.placed e) x)) (has-picked (is_loose_on s e) edges x two).1).1 in
        both_ways (has (s.placed e) x) loose placed)

    order_distinct : (e : ℕ) → IsDistinct nat_eq (order_at edges (planted_lists s edges) e)
    order_distinct e = elim (cases_Bool (has edges e)) [
      | inl e_in ↦ subst (IsDistinct nat_eq) (sym (order-is e e_in)) (list_distinct e)
      | inr e_out ↦ subst (IsDistinct nat_eq) (sym (order_at_outside edges (planted_lists s edges) e e_out)) none_distinct
    ]

    pub are_orders : IsOrders g.ends edges (order_at edges (planted_lists s edges))
    are_orders = record {
      edge_list = edge_list;
      within = within;
      no_repeats = order_distinct;
      independent = λ e f f_in. crossing_independent e f (order_crosses e f f_in).1;
      both_ways = λ e f f_in. let there = order_crosses e f f_in in crosses_order f e there.0 (within e f f_in) (turned e f there.1);
    }

    -- placed edges stand along an edge as they were placed
    pub placed_before : (e f h : ℕ) → stands_before (order_at edges (planted_lists s edges) e) f h ≡ true → has (s.placed e) f ≡ true → has (s.placed e) h ≡ true →
        stands_before (s.placed e) f h ≡ true
    placed_before e f h before f_placed h_placed =
        let tests : (has (order_at edges (planted_lists s edges) e) f && has (order_at edges (planted_lists s edges) e) h) ≡ true = (and_parts _ _ before).0 in
        let both : (has (order_at edges (planted_lists s edges) e) f ≡ true) × (has (order_at edges (planted_lists s edges) e) h ≡ true) = and_parts _ _ tests in
        let f_in = (order_crosses e f both.0).0 in
        let h_in = (order_crosses e h both.1).0 in
        let here : stands_before (planted_list s edges e) f h ≡ true = ap (λ xs. stands_before xs f h) (sym (order-is e (within e f both.0))) ∙ before in
        stood_before (has edges) (s.placed e) (filter (is_loose_on s e) edges) f h f_in h_in f_placed h_placed
        (has-kept (has edges) (s.placed e) f f_placed f_in) (has-kept (has edges) (s.placed e) h h_placed h_in) here
