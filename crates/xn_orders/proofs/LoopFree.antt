-- The web of orders has no loop: an edge meets no crossing twice.
use Rattle.std.proofs.Common.{◌≡◌, ◌≢◌, ℕ, zero, suc, ◌<◌, inl, inr, true, false, ◌&&◌, eqb, ltb, List, [], ◌∷◌, length, map, refl, sym, ◌∙◌, ap, arith}
use Rattle.std.specs.Prelude.{nat_eq}
use Rattle.std.specs.List.{AllByRecursion, IsDistinct, flat_map}
use Rattle.std.proofs.lemmas.Bool.{both_ways, cases_Bool, cond-true, cond-false, eq-eqb, or_cases, or_left, or_right}
use Rattle.std.proofs.lemmas.List.Elements.{recursion_from_All}
use Rattle.std.proofs.lemmas.Map.Keys.{IsDistinct-tail, apart_from_distinct}
use Rattle.xn_model.specs.Graph.{Graph, HasNoLoop, IsGraph, ends_at}
use Rattle.xn_model.specs.Lists.{has}
use Rattle.xn_model.specs.Orders.{IsOrders, crossings_of}
use Rattle.xn_model.specs.Web.{crossing_node, crossing_number_in, segments_of, segments_through, web_of}
use Rattle.xn_graph.proofs.Ends.{EndsIn-at}
use Rattle.xn_orders.specs.Crossed.{crosses_in}
use Rattle.xn_orders.specs.Pairs.{has_pair}
use Rattle.xn_orders.proofs.Numbered.{crosses_in-entry}
use Rattle.xn_orders.proofs.PairOrder.{same_from_tests}
use Rattle.xn_orders.proofs.Rising.{each_append}

-- ---- two crossings have two numbers

same_number : (ps : List (ℕ × ℕ)) (a b c d : ℕ) → has_pair ps a b ≡ true → has_pair ps c d ≡ true → crossing_number_in ps a b ≡ crossing_number_in ps c d → (a ≡ c) × (b ≡ d)
same_number [] a b c d first second same = absurd (both_ways false refl first)
same_number (p ∷ ps) a b c d first second same = elim (cases_Bool (eqb p.0 a && eqb p.1 b)) [
  | inl here ↦ elim (cases_Bool (eqb p.0 c && eqb p.1 d)) [
    | inl there ↦
        let one = same_from_tests p a b here in
        let two = same_from_tests p c d there in
        let both = sym one ∙ two in
        (ap (λ q. q.0) both, ap (λ q. q.1) both)
    | inr away ↦ let impossible = rw (here, away) at same in absurd (omega (arith, impossible))
  ]
  | inr away ↦ elim (cases_Bool (eqb p.0 c && eqb p.1 d)) [
    | inl there ↦ let impossible = rw (away, there) at same in absurd (omega (arith, impossible))
    | inr beyond ↦
        let less = rw (away, beyond) at same in
        same_number ps a b c d (later a b away first) (later c d beyond second) (omega (arith, less))
  ]
]
  where
    later : (x y : ℕ) → (eqb p.0 x && eqb p.1 y) ≡ false → has_pair (p ∷ ps) x y ≡ true → has_pair ps x y ≡ true
    later x y other h = elim (or_cases (eqb p.0 x && eqb p.1 y) (has_pair ps x y) h) [
      | inl here ↦ absurd (both_ways _ other here)
      | inr found ↦ found
    ]

-- the crossers of an edge are told apart by their nodes
same_node : (nodes : ℕ) (pairs : List (ℕ × ℕ)) (e f h : ℕ) → crosses_in pairs e f ≡ true → crosses_in pairs e h ≡ true → crossing_node nodes pairs e f ≡ crossing_node nodes pairs e h → f ≡ h
same_node nodes pairs e f h first second same = elim (cases_Bool (ltb e f)) [
  | inl low ↦ elim (cases_Bool (ltb e h)) [
    | inl low_too ↦
        let number = rw (low, low_too) at same in
        (same_number pairs e f e h (sym (cond-true _ _ _ low) ∙ first) (sym (cond-true _ _ _ low_too) ∙ second) (omega (arith, number))).1
    | inr high ↦
        let number = rw (low, high) at same in
        let both = same_number pairs e f h e (sym (cond-true _ _ _ low) ∙ first) (sym (cond-false _ _ _ high) ∙ second) (omega (arith, number)) in
        both.1 ∙ both.0
  ]
  | inr high ↦ elim (cases_Bool (ltb e h)) [
    | inl low ↦
        let number = rw (high, low) at same in
        let both = same_number pairs f e e h (sym (cond-false _ _ _ high) ∙ first) (sym (cond-true _ _ _ low) ∙ second) (omega (arith, number)) in
        both.0 ∙ both.1
    | inr high_too ↦
        let number = rw (high, high_too) at same in
        (same_number pairs f e h e (sym (cond-false _ _ _ high) ∙ first) (sym (cond-false _ _ _ high_too) ∙ second) (omega (arith, number))).0
  ]
]

-- ---- segments

-- the ends differ
abbrev Differ : ℕ × ℕ → Type 0
Differ p = p.0 ≢ p.1

no_loop_each : (ends : List (ℕ × ℕ)) → AllByRecursion Differ ends → HasNoLoop ends
no_loop_each [] each s low = absurd (omega (arith, low))
no_loop_each (p ∷ ps) each zero low = each.0
no_loop_each (p ∷ ps) each (suc s) low = no_loop_each ps each.1 s (omega (arith, low))

module _ (nodes : ℕ) (pairs : List (ℕ × ℕ)) (e v : ℕ) (v_in : v < nodes) where
  abbrev node : ℕ → ℕ
  node f = crossing_node nodes pairs e f

  -- from a crossing on
  from_crossing : (f : ℕ) (fs : List ℕ) → IsDistinct nat_eq (f ∷ fs) → ((x : ℕ) → has (f ∷ fs) x ≡ true → crosses_in pairs e x ≡ true) → AllByRecursion Differ (segments_through (node f) (map node fs) v)
  from_crossing f [] distinct crosses = (λ same. omega (arith, same, v_in), tt)
  from_crossing f (h ∷ fs) distinct crosses =
      let apart : eqb f h ≡ false = apart_from_distinct nat_eq (f ∷ h ∷ fs) 0 1 0 distinct (omega arith) (omega arith) in
      let first = crosses f (or_left (eqb f f) (has (h ∷ fs) f) (eq-eqb f f refl)) in
      let second = crosses h (or_right (eqb f h) (has (h ∷ fs) h) (or_left (eqb h h) (has fs h) (eq-eqb h h refl))) in (
        λ same. both_ways _ apart (eq-eqb f h (same_node nodes pairs e f h first second same)),
        from_crossing h fs (IsDistinct-tail nat_eq f (h ∷ fs) distinct) (λ x x_in. crosses x (or_right (eqb f x) (has (h ∷ fs) x) x_in)),
      )

  from_end : (u : ℕ) (fs : List ℕ) → u < nodes → u ≢ v → IsDistinct nat_eq fs → ((x : ℕ) → has fs x ≡ true → crosses_in pairs e x ≡ true) → AllByRecursion Differ (segments_through u (map node fs) v)
  from_end u [] u_in differ distinct crosses = (differ, tt)
  from_end u (f ∷ fs) u_in differ distinct crosses = (λ same. omega (arith, same, u_in), from_crossing f fs distinct crosses)

module _ (g : Graph) (edges : List ℕ) (ord : ℕ → List ℕ) (is_graph : IsGraph g) (orders : IsOrders g.ends edges ord) where
  each_of : (es : List ℕ) → AllByRecursion (λ e. e < length g.ends) es → AllByRecursion Differ (flat_map (segments_of g (crossings_of edges ord) ord) es)
  each_of [] below = tt
  each_of (e ∷ es) below =
      let pairs = crossings_of edges ord in
      let ends = EndsIn-at g.nodes g.ends is_graph.ends_in e below.0 in
      let through = from_end g.nodes pairs e (ends_at g.ends e).1 ends.1 (ends_at g.ends e).0 (ord e) ends.0 (is_graph.no_loop e below.0) (orders.no_repeats e) (crosses_in-entry g.ends edges ord orders e) in
      each_append Differ (segments_of g pairs ord e) (flat_map (segments_of g pairs ord) es) through (each_of es below.1)

  pub no_loop : HasNoLoop (web_of g edges ord).ends
  no_loop = no_loop_each _ (each_of edges (recursion_from_All (λ e. e < length g.ends) edges orders.edge_list.below))
