-- The tests of orders and crossings say what a drawing is.
use Rattle.std.proofs.Common.{◌≡◌, ℕ, ◌+◌, ◌<◌, inl, inr, Bool, true, false, not, ◌&&◌, ◌||◌, eqb, List, [], ◌∷◌, length, refl, sym, ap, ◌∙◌, subst, arith, get_or, ◌≤◌}
use Rattle.std.specs.List.{AllByRecursion, IsDistinct, flat_map, list_all, list_any, range_with_len}
use Rattle.std.specs.Prelude.{nat_eq, nat_lt}
use Rattle.std.proofs.lemmas.Bool.{and_parts, and_from, both_ways, cases_Bool, cases_lt, eq-eqb, eqb-true, le-ltb, lt-ltb, or_cases}
use Rattle.std.proofs.lemmas.List.{get_or_default}
use Rattle.std.proofs.lemmas.Map.Steps.{length-le_from_distinct_below}
use Rattle.xn_model.specs.Drawing.{CrossesAt, IsListedDrawing, order_of}
use Rattle.xn_model.specs.Graph.{Graph, edges_of, independent}
use Rattle.xn_model.specs.Lists.{at, has}
use Rattle.xn_model.specs.Orders.{IsOrders, crossings_of}
use Rattle.xn_model.specs.Web.{segments_of, web_of}
use Rattle.xn_graph.specs.Limits.{graph_of}
use Rattle.xn_model.proofs.Ranges.{edge_list, has-range_past, order_at_outside}
use Rattle.xn_model.proofs.Tests.{eqb-flip, not_true}
use Rattle.xn_model.proofs.Has.{has-first, unlike_each}
use Rattle.xn_brute.proofs.OrdersAt.{order_of-at}
use Rattle.xn_brute.specs.Drawings.{AllCross, AreOrders, AreShort, IsListedFlatMap, crosses_at, is_distinct, is_entry}

-- ---- words on lists

all_has : (p : ℕ → Bool) (xs : List ℕ) → list_all p xs ≡ true → (x : ℕ) → has xs x ≡ true → p x ≡ true
all_has p [] all x h = absurd (both_ways false refl h)
all_has p (y ∷ ys) all x h =
    let parts : (p y ≡ true) × (list_all p ys ≡ true) = and_parts _ _ all in
    elim (or_cases (eqb y x) (has ys x) h) [
      | inl here ↦ ap p (sym (eqb-true y x here)) ∙ parts.0
      | inr later ↦ all_has p ys parts.1 x later
    ]

pub has-later : (y x : ℕ) (xs : List ℕ) → has xs x ≡ true → has (y ∷ xs) x ≡ true
has-later y x xs h = elim (cases_Bool (eqb y x)) [ inl here ↦ rw here refl | inr other ↦ rw other h ]

all_from_has : (p : ℕ → Bool) (xs : List ℕ) → ((x : ℕ) → has xs x ≡ true → p x ≡ true) → list_all p xs ≡ true
all_from_has p [] each = refl
all_from_has p (y ∷ ys) each = and_from _ _ (each y (has-first y ys)) (all_from_has p ys (λ x h. each x (has-later y x ys h)))

out_of_unlike : (x : ℕ) (xs : List ℕ) → AllByRecursion (λ y. nat_eq x y ≡ false) xs → has xs x ≡ false
out_of_unlike x [] each = refl
out_of_unlike x (y ∷ ys) each =
    let differ : eqb y x ≡ false = eqb-flip y x ∙ each.0 in rw differ (out_of_unlike x ys each.1)

distinct_from_test : (xs : List ℕ) → is_distinct xs ≡ true → IsDistinct nat_eq xs
unfolding IsDistinct
distinct_from_test [] h = tt
distinct_from_test (x ∷ xs) h =
    let parts : (not (has xs x) ≡ true) × (is_distinct xs ≡ true) = and_parts _ _ h in
    (unlike_each x xs (not_true _ parts.0), distinct_from_test xs parts.1)

pub test_from_distinct : (xs : List ℕ) → IsDistinct nat_eq xs → is_distinct xs ≡ true
unfolding IsDistinct
test_from_distinct [] distinct = refl
test_from_distinct (x ∷ xs) distinct = and_from _ _ (ap not (out_of_unlike x xs distinct.0)) (test_from_distinct xs distinct.1)

-- ---- orders

pub edge_below : (n e : ℕ) → has (range_with_len 0 n) e ≡ true → e < n
edge_below n e h = elim (cases_lt e n) [
  | inl low ↦ low
  | inr high ↦ absurd (both_ways _ (has-range_past 0 n e (omega (arith, high))) h)
]

module _ (g : Graph) (lists : List (List ℕ)) where
  within : (e f : ℕ) → has (order_of g lists e) f ≡ true → has (edges_of g) e ≡ true
  within e f h = elim (cases_Bool (has (edges_of g) e)) [
    | inl edge ↦ edge
    | inr outside ↦ absurd (both_ways false refl (rw (order_at_outside (edges_of g) lists e outside) at h))
  ]

  pub low_edge : (e f : ℕ) → has (order_of g lists e) f ≡ true → e < length g.ends
  low_edge e f h = edge_below (length g.ends) e (within e f h)

  entry : AreOrders g (order_of g lists) → (e f : ℕ) → has (order_of g lists e) f ≡ true → (independent g.ends e f ≡ true) × (has (order_of g lists f) e ≡ true)
  entry are e f h =
      let order : (is_distinct (order_of g lists e) ≡ true) × (list_all (is_entry g (order_of g lists) e) (order_of g lists e) ≡ true) = and_parts _ _ (are e (low_edge e f h)) in
      let whole : (nat_lt f (length g.ends) ≡ true) × ((independent g.ends e f && has (order_of g lists f) e) ≡ true) =
      and_parts _ _ (all_has (is_entry g (order_of g lists) e) (order_of g lists e) order.1 f h) in
      and_parts _ _ whole.1

  no_repeats : AreOrders g (order_of g lists) → (e : ℕ) → IsDistinct nat_eq (order_of g lists e)
  unfolding IsDistinct
  no_repeats are e = elim (cases_Bool (has (edges_of g) e)) [
    | inl edge ↦
        let order : (is_distinct (order_of g lists e) ≡ true) × (list_all (is_entry g (order_of g lists) e) (order_of g lists e) ≡ true) = and_parts _ _ (are e (edge_below (length g.ends) e edge)) in
        distinct_from_test _ order.0
    | inr outside ↦ rw (order_at_outside (edges_of g) lists e outside) tt
  ]

  pub orders_from_test : AreOrders g (order_of g lists) → IsOrders g.ends (edges_of g) (order_of g lists)
  orders_from_test are = record {
    edge_list = edge_list (length g.ends);
    within = within;
    no_repeats = no_repeats are;
    independent = λ e f h. (entry are e f h).0;
    both_ways = λ e f h. (entry are e f h).1;
  }

  pub test_from_orders : IsOrders g.ends (edges_of g) (order_of g lists) → AreOrders g (order_of g lists)
  test_from_orders orders e low =
      and_from _ _ (test_from_distinct (order_of g lists e) (orders.no_repeats e))
      (all_from_has (is_entry g (order_of g lists) e) (order_of g lists e) (λ f h.
      let back = orders.both_ways e f h in
      and_from _ _ (lt-ltb f (length g.ends) (low_edge f e back)) (and_from _ _ (orders.independent e f h) back)))

  -- ---- crossings

  pub crosses_from_test : (next : ℕ → ℕ) → AllCross g (order_of g lists) next → (e f : ℕ) → e < f → has (order_of g lists e) f ≡ true → CrossesAt (edges_of g) (order_of g lists) next e f
  crosses_from_test next all e f less h =
      let test = all_has (λ x. not (nat_lt e x) || crosses_at (edges_of g) (order_of g lists) next e x) (order_of g lists e) (all e (low_edge e f h)) f h in
      elim (or_cases (not (nat_lt e f)) (crosses_at (edges_of g) (order_of g lists) next e f) test) [
        | inl never ↦ absurd (both_ways (nat_lt e f) (not_true _ never) (lt-ltb e f less))
        | inr crosses ↦ eqb-true _ _ crosses
      ]

  pub test_from_crosses : (next : ℕ → ℕ) → ((e f : ℕ) → e < f → has (order_of g lists e) f ≡ true → CrossesAt (edges_of g) (order_of g lists) next e f) → AllCross g (order_of g lists) next
  test_from_crosses next crosses e low = all_from_has (λ x. not (nat_lt e x) || crosses_at (edges_of g) (order_of g lists) next e x) (order_of g lists e) (λ f h.
      elim (cases_lt e f) [
        | inl less ↦
            let lt : nat_lt e f ≡ true = lt-ltb e f less in
            let cross : crosses_at (edges_of g) (order_of g lists) next e f ≡ true = eq-eqb _ _ (crosses e f less h) in
            rw (lt, cross) refl
        | inr more ↦ let ge : nat_lt e f ≡ false = le-ltb e f more in rw ge refl
      ])

  -- ---- drawings

  pub drawing_from_tests : (next : List ℕ) → length lists ≡ length g.ends → AreOrders g (order_of g lists) → AllCross g (order_of g lists) (at next) → IsListedFlatMap (web_of g (edges_of g) (order_of g lists)) next → IsListedDrawing g lists next
  drawing_from_tests next fit are all flat = record {
    lists_fit = fit;
    next_fits = flat.0;
    drawing = record { orders = orders_from_test are; is_flat_map = flat.1; crosses = crosses_from_test (at next) all };
  }

  pub flat_of_drawing : (next : List ℕ) → IsListedDrawing g lists next → IsListedFlatMap (web_of g (edges_of g) (order_of g lists)) next
  flat_of_drawing next drawn = (drawn.next_fits, drawn.drawing.is_flat_map)

-- the web that is made is the planarised graph
pub web_is : (g : Graph) (ord : ℕ → List ℕ) (edges : List ℕ) (pairs ends : List (ℕ × ℕ)) (n : ℕ) → edges ≡ edges_of g → pairs ≡ crossings_of edges ord →
    ends ≡ flat_map (segments_of g pairs ord) edges → n ≡ g.nodes + length pairs → graph_of n ends ≡ web_of g (edges_of g) ord
web_is g ord edges pairs ends n edges_are pairs_are ends_are n_is =
    let all = edges_of g in
    let crossings : pairs ≡ crossings_of all ord = pairs_are ∙ ap (λ es. crossings_of es ord) edges_are in
    let segments : ends ≡ flat_map (segments_of g (crossings_of all ord) ord) all =
    ends_are ∙ ap (λ ps. flat_map (segments_of g ps ord) edges) crossings ∙ ap (flat_map (segments_of g (crossings_of all ord) ord)) edges_are in
    let nodes : n ≡ g.nodes + length (crossings_of all ord) = n_is ∙ ap (λ ps. g.nodes + length ps) crossings in
    ap (λ m. graph_of m ends) nodes ∙ ap (graph_of (g.nodes + length (crossings_of all ord))) segments

pub flat_same : (web other : Graph) (next turns : List ℕ) → web ≡ other → next ≡ turns → IsListedFlatMap web next → IsListedFlatMap other turns
flat_same web other next turns webs lists flat = subst (IsListedFlatMap other) lists (subst (λ w. IsListedFlatMap w next) webs flat)

-- ---- the length of a list

has_of_any : (q : ℕ) (xs : List ℕ) → list_any (eqb q) xs ≡ true → has xs q ≡ true
has_of_any q [] h = h
has_of_any q (x ∷ xs) h = elim (or_cases (eqb q x) (list_any (eqb q) xs) h) [
  | inl here ↦ let same : eqb x q ≡ true = eqb-flip x q ∙ here in rw same refl
  | inr later ↦ has-later x q xs (has_of_any q xs later)
]

-- no list of a drawing of a graph of at most 1,000 edges has more entries
pub short_of_drawing : (g : Graph) (lists : List (List ℕ)) (next : List ℕ) → length g.ends ≤ 1000 → IsListedDrawing g lists next → AreShort lists
short_of_drawing g lists next few drawn i d low =
    let n = length g.ends in
    let orders = drawn.drawing.orders in
    let edge : i < n = omega (arith, low, drawn.lists_fit) in
    let list = order_of g lists i in
    let is : get_or lists i d ≡ list = get_or_default lists i d [] low ∙ sym (order_of-at n lists i edge) in
    let below : (q : ℕ) → list_any (eqb q) list ≡ true → q < n = λ q h. low_edge g lists q i (orders.both_ways i q (has_of_any q list h)) in
    let long = length-le_from_distinct_below list n (orders.no_repeats i) below in
    omega (arith, long, few, ap length is)
