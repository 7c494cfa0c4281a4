-- The worked examples.
use Rattle.std.proofs.Common.{◌≡◌, ◌≢◌, ℕ, zero, suc, ◌*◌, ◌<◌, ◌≤◌, inl, inr, true, false, eqb, List, [], ◌∷◌, length, refl, sym, ap, subst, arith, rules}
use Rattle.std.specs.Prelude.{◌==◌, nat_eq}
use Rattle.std.specs.List.{IsDistinct, flat_map}
use Rattle.std.proofs.lemmas.Bool.{both_ways, cases_eq, cases_lt, or_cases, eqb-true}
use Rattle.std.proofs.lemmas.Map.Made.{IsDistinct-from_count}
use Rattle.std.specs.Cmp.{nat_eq_equiv}
use Rattle.xn_model.specs.Examples.{k4, k4_turns, K4IsFlat, K4OnTorus, k5, k5_orders, k5_walks, k5_web, k5_turns, K5WithOneCrossing, one_edge, curled_web, curled_turns, CurledEdge, parted_web, parted_turns, PartedNodes, SmallCycles, nothing, LimitOfNothing}
use Rattle.xn_model.specs.Cycles.{IsCycle}
use Rattle.xn_model.specs.Drawing.{CrossesAt, HasDrawingWith, IsDrawing, IsSimpleDrawing, order_of}
use Rattle.xn_model.specs.Graph.{HasNoLoop, Independent, edges_of, ends_at, pair_count_of}
use Rattle.xn_model.specs.Limit.{node_limit}
use Rattle.xn_model.specs.Lists.{has, at}
use Rattle.xn_model.specs.Loose.{GoesStraight, MeetsOnce, dart_count, times_walked}
use Rattle.xn_model.specs.Map.{WalksTo, tail_of}
use Rattle.xn_model.specs.Orders.{IsOrders}
use Rattle.xn_model.specs.Permutation.{count_below}
use Rattle.xn_model.proofs.Decide.{map_of_test}
use Rattle.xn_model.proofs.Ranges.{edge_list, has-range_past, order_at_outside}

pub k4_is_flat : K4IsFlat
k4_is_flat = record {
  faces = refl;
  components = refl;
  flat_map = record { is_map = map_of_test k4 (at k4_turns) refl; flat = refl };
  pairs = refl;
}

pub k4_on_torus : K4OnTorus
k4_on_torus = record {
  faces = refl;
  not_flat = λ h. omega (arith, h);
}

-- ---- K5 with one crossing

abbrev ord : ℕ → List ℕ
ord = order_of k5 k5_orders

only : (x y : ℕ) → has (x ∷ []) y ≡ true → x ≡ y
only x y h = elim (or_cases (eqb x y) false h) [ inl here ↦ eqb-true x y here | inr none ↦ absurd (both_ways false refl none) ]

past : (n : ℕ) → ord (suc (suc (suc (suc (suc (suc (suc (suc (suc (suc n)))))))))) ≡ []
past n = order_at_outside (edges_of k5) k5_orders (suc (suc (suc (suc (suc (suc (suc (suc (suc (suc n)))))))))) (has-range_past 0 10 (suc (suc (suc (suc (suc (suc (suc (suc (suc (suc n)))))))))) (omega arith))

-- the edges 0 and 9 cross each other, and no others cross
by_pair : (P : ℕ → ℕ → Type 0) → P 0 9 → P 9 0 → (e f : ℕ) → has (ord e) f ≡ true → P e f
by_pair P p q zero f h = subst (λ x. P 0 x) (only 9 f h) p
by_pair P p q (suc zero) f h = absurd (both_ways false refl h)
by_pair P p q (suc (suc zero)) f h = absurd (both_ways false refl h)
by_pair P p q (suc (suc (suc zero))) f h = absurd (both_ways false refl h)
by_pair P p q (suc (suc (suc (suc zero)))) f h = absurd (both_ways false refl h)
by_pair P p q (suc (suc (suc (suc (suc zero))))) f h = absurd (both_ways false refl h)
by_pair P p q (suc (suc (suc (suc (suc (suc zero)))))) f h = absurd (both_ways false refl h)
by_pair P p q (suc (suc (suc (suc (suc (suc (suc zero))))))) f h = absurd (both_ways false refl h)
by_pair P p q (suc (suc (suc (suc (suc (suc (suc (suc zero)))))))) f h = absurd (both_ways false refl h)
by_pair P p q (suc (suc (suc (suc (suc (suc (suc (suc (suc zero))))))))) f h = subst (λ x. P 9 x) (only 0 f h) q
by_pair P p q (suc (suc (suc (suc (suc (suc (suc (suc (suc (suc n)))))))))) f h = absurd (both_ways false refl (rw (past n) at h))

once : (e : ℕ) → IsDistinct nat_eq (ord e)
unfolding IsDistinct
once zero = (tt, tt)
once (suc zero) = tt
once (suc (suc zero)) = tt
once (suc (suc (suc zero))) = tt
once (suc (suc (suc (suc zero)))) = tt
once (suc (suc (suc (suc (suc zero))))) = tt
once (suc (suc (suc (suc (suc (suc zero)))))) = tt
once (suc (suc (suc (suc (suc (suc (suc zero))))))) = tt
once (suc (suc (suc (suc (suc (suc (suc (suc zero)))))))) = tt
once (suc (suc (suc (suc (suc (suc (suc (suc (suc zero))))))))) = (tt, tt)
once (suc (suc (suc (suc (suc (suc (suc (suc (suc (suc n)))))))))) = rw (past n) tt

orders : IsOrders k5.ends (edges_of k5) ord
orders = record {
  edge_list = edge_list 10;
  within = by_pair (λ e f. has (edges_of k5) e ≡ true) refl refl;
  no_repeats = once;
  independent = by_pair (λ e f. Independent k5.ends e f) refl refl;
  both_ways = by_pair (λ e f. has (ord f) e ≡ true) refl refl;
}

simple_drawing : IsSimpleDrawing k5 ord (at k5_turns)
simple_drawing = record {
  orders = orders;
  is_flat_map = record { is_map = map_of_test k5_web (at k5_turns) refl; flat = refl };
  crosses = λ e f less h. by_pair (λ x y. x < y → CrossesAt (edges_of k5) ord (at k5_turns) x y) (λ l. refl) (λ l. absurd (omega (arith, l))) e f h less;
}

-- ---- the same as a loose drawing

by_edge : (P : ℕ → Type 0) → P 0 → P 1 → P 2 → P 3 → P 4 → P 5 → P 6 → P 7 → P 8 → P 9 → (e : ℕ) → e < 10 → P e
by_edge P p0 p1 p2 p3 p4 p5 p6 p7 p8 p9 zero low = p0
by_edge P p0 p1 p2 p3 p4 p5 p6 p7 p8 p9 (suc zero) low = p1
by_edge P p0 p1 p2 p3 p4 p5 p6 p7 p8 p9 (suc (suc zero)) low = p2
by_edge P p0 p1 p2 p3 p4 p5 p6 p7 p8 p9 (suc (suc (suc zero))) low = p3
by_edge P p0 p1 p2 p3 p4 p5 p6 p7 p8 p9 (suc (suc (suc (suc zero)))) low = p4
by_edge P p0 p1 p2 p3 p4 p5 p6 p7 p8 p9 (suc (suc (suc (suc (suc zero))))) low = p5
by_edge P p0 p1 p2 p3 p4 p5 p6 p7 p8 p9 (suc (suc (suc (suc (suc (suc zero)))))) low = p6
by_edge P p0 p1 p2 p3 p4 p5 p6 p7 p8 p9 (suc (suc (suc (suc (suc (suc (suc zero))))))) low = p7
by_edge P p0 p1 p2 p3 p4 p5 p6 p7 p8 p9 (suc (suc (suc (suc (suc (suc (suc (suc zero)))))))) low = p8
by_edge P p0 p1 p2 p3 p4 p5 p6 p7 p8 p9 (suc (suc (suc (suc (suc (suc (suc (suc (suc zero))))))))) low = p9
by_edge P p0 p1 p2 p3 p4 p5 p6 p7 p8 p9 (suc (suc (suc (suc (suc (suc (suc (suc (suc (suc e)))))))))) low = absurd (omega (arith, low))

below_twelve : (P : ℕ → Type 0) → P 0 → P 1 → P 2 → P 3 → P 4 → P 5 → P 6 → P 7 → P 8 → P 9 → P 10 → P 11 → (s : ℕ) → s < 12 → P s
below_twelve P p0 p1 p2 p3 p4 p5 p6 p7 p8 p9 p10 p11 zero low = p0
below_twelve P p0 p1 p2 p3 p4 p5 p6 p7 p8 p9 p10 p11 (suc zero) low = p1
below_twelve P p0 p1 p2 p3 p4 p5 p6 p7 p8 p9 p10 p11 (suc (suc zero)) low = p2
below_twelve P p0 p1 p2 p3 p4 p5 p6 p7 p8 p9 p10 p11 (suc (suc (suc zero))) low = p3
below_twelve P p0 p1 p2 p3 p4 p5 p6 p7 p8 p9 p10 p11 (suc (suc (suc (suc zero)))) low = p4
below_twelve P p0 p1 p2 p3 p4 p5 p6 p7 p8 p9 p10 p11 (suc (suc (suc (suc (suc zero))))) low = p5
below_twelve P p0 p1 p2 p3 p4 p5 p6 p7 p8 p9 p10 p11 (suc (suc (suc (suc (suc (suc zero)))))) low = p6
below_twelve P p0 p1 p2 p3 p4 p5 p6 p7 p8 p9 p10 p11 (suc (suc (suc (suc (suc (suc (suc zero))))))) low = p7
below_twelve P p0 p1 p2 p3 p4 p5 p6 p7 p8 p9 p10 p11 (suc (suc (suc (suc (suc (suc (suc (suc zero)))))))) low = p8
below_twelve P p0 p1 p2 p3 p4 p5 p6 p7 p8 p9 p10 p11 (suc (suc (suc (suc (suc (suc (suc (suc (suc zero))))))))) low = p9
below_twelve P p0 p1 p2 p3 p4 p5 p6 p7 p8 p9 p10 p11 (suc (suc (suc (suc (suc (suc (suc (suc (suc (suc zero)))))))))) low = p10
below_twelve P p0 p1 p2 p3 p4 p5 p6 p7 p8 p9 p10 p11 (suc (suc (suc (suc (suc (suc (suc (suc (suc (suc (suc zero))))))))))) low = p11
below_twelve P p0 p1 p2 p3 p4 p5 p6 p7 p8 p9 p10 p11 (suc (suc (suc (suc (suc (suc (suc (suc (suc (suc (suc (suc s)))))))))))) low = absurd (omega (arith, low))

edge_low : (e : ℕ) → has (edges_of k5) e ≡ true → e < 10
edge_low e h = elim (cases_lt e 10) [
  | inl low ↦ low
  | inr past ↦ absurd (both_ways _ (has-range_past 0 10 e (omega (arith, past))) h)
]

walks_to : (e : ℕ) → has (edges_of k5) e ≡ true → WalksTo k5_web.ends (ends_at k5.ends e).0 (k5_walks e) (ends_at k5.ends e).1
walks_to e h = by_edge (λ x. WalksTo k5_web.ends (ends_at k5.ends x).0 (k5_walks x) (ends_at k5.ends x).1)
    (omega arith, refl, (omega arith, refl, refl)) (omega arith, refl, refl) (omega arith, refl, refl) (omega arith, refl, refl) (omega arith, refl, refl)
    (omega arith, refl, refl) (omega arith, refl, refl) (omega arith, refl, refl) (omega arith, refl, refl) (omega arith, refl, (omega arith, refl, refl))
    e (edge_low e h)

goes_straight : (e : ℕ) → has (edges_of k5) e ≡ true → GoesStraight 5 k5_web.ends (at k5_turns) (k5_walks e)
goes_straight e h = by_edge (λ x. GoesStraight 5 k5_web.ends (at k5_turns) (k5_walks x))
    (omega arith, refl, tt) tt tt tt tt tt tt tt tt (omega arith, refl, tt) e (edge_low e h)

five_alone : (v : ℕ) → 5 ≤ v → v < 6 → dart_count k5_web.ends v ≡ 4
five_alone v low high = let is : 5 ≡ v = omega (arith, low, high) in subst (λ w. dart_count k5_web.ends w ≡ 4) is refl

k5_has_no_loop : HasNoLoop k5.ends
k5_has_no_loop e low = by_edge (λ x. (ends_at k5.ends x).0 ≢ (ends_at k5.ends x).1)
    (λ h. omega (arith, h)) (λ h. omega (arith, h)) (λ h. omega (arith, h)) (λ h. omega (arith, h)) (λ h. omega (arith, h))
    (λ h. omega (arith, h)) (λ h. omega (arith, h)) (λ h. omega (arith, h)) (λ h. omega (arith, h)) (λ h. omega (arith, h))
    e low

drawing : IsDrawing k5 1 k5_web (at k5_turns) k5_walks
drawing = record {
  is_graph = record { ends_in = search (rules, arith); no_loop = k5_has_no_loop };
  edge_list = edge_list 10;
  nodes = refl;
  is_flat_map = record { is_map = map_of_test k5_web (at k5_turns) refl; flat = refl };
  lead = walks_to;
  straight = goes_straight;
  once = below_twelve (λ s. times_walked s (flat_map k5_walks (edges_of k5)) ≡ 1) refl refl refl refl refl refl refl refl refl refl refl refl;
  four = five_alone;
}

pub k5_with_one_crossing : K5WithOneCrossing
k5_with_one_crossing = record {
  nodes = refl;
  segments = refl;
  pairs = refl;
  faces = refl;
  flat_map = record { is_map = map_of_test k5_web (at k5_turns) refl; flat = refl };
  crosses = refl;
  touches = λ h. omega (arith, h);
  count = refl;
  simple_drawing = record { lists_fit = refl; next_fits = refl; drawing = simple_drawing };
  simply_at_most_one = (1, (ord, at k5_turns, simple_drawing, refl), omega arith);
  drawing = drawing;
  at_most_one = (1, (k5_web, at k5_turns, k5_walks, drawing), omega arith);
  limit = refl;
}

-- ---- an edge that crosses itself

walked_once : (s : ℕ) → s < 3 → times_walked s (0 ∷ 2 ∷ 4 ∷ []) ≡ 1
walked_once zero low = refl
walked_once (suc zero) low = refl
walked_once (suc (suc zero)) low = refl
walked_once (suc (suc (suc s))) low = absurd (omega (arith, low))

four_darts : (v : ℕ) → 2 ≤ v → v < 3 → dart_count curled_web.ends v ≡ 4
four_darts zero low high = absurd (omega (arith, low))
four_darts (suc zero) low high = absurd (omega (arith, low))
four_darts (suc (suc zero)) low high = refl
four_darts (suc (suc (suc v))) low high = absurd (omega (arith, high))

leads : WalksTo curled_web.ends 0 (0 ∷ 2 ∷ 4 ∷ []) 1
leads = (omega arith, refl, (omega arith, refl, (omega arith, refl, refl)))

twice : ¬ (MeetsOnce curled_web.ends (0 ∷ 2 ∷ 4 ∷ []))
unfolding IsDistinct
twice h = both_ways true h.1.0.0 refl

one_edge_has_two : HasNoLoop one_edge.ends
one_edge_has_two zero low same = omega (arith, same)
one_edge_has_two (suc e) low same = absurd (omega (arith, low))

curled : IsDrawing one_edge 1 curled_web (at curled_turns) (λ e. 0 ∷ 2 ∷ 4 ∷ [])
curled = record {
  is_graph = record { ends_in = search (rules, arith); no_loop = one_edge_has_two };
  edge_list = edge_list 1;
  nodes = refl;
  is_flat_map = record { is_map = map_of_test curled_web (at curled_turns) refl; flat = refl };
  lead = λ e h. subst (λ x. WalksTo curled_web.ends (ends_at one_edge.ends x).0 (0 ∷ 2 ∷ 4 ∷ []) (ends_at one_edge.ends x).1) (only 0 e h) leads;
  straight = λ e h. (omega arith, refl, (omega arith, refl, tt));
  once = walked_once;
  four = four_darts;
}

pub curled_edge : CurledEdge
curled_edge = record {
  loose = curled;
  drawing = (curled_web, at curled_turns, (λ e. 0 ∷ 2 ∷ 4 ∷ []), curled);
  twice = twice;
  left_out = λ l. omega (arith, l.once 1 (omega arith));
  touching = λ l. omega (arith, (l.straight 0 refl).1);
}

pub parted_nodes : PartedNodes
parted_nodes = record {
  flat_map = record { is_map = map_of_test parted_web (at parted_turns) refl; flat = refl };
  route = (7, omega arith, refl, (omega arith, (1, refl), (9, omega arith, refl, (4, refl))));
}

triangle : IsCycle parted_web.ends (0 ∷ 2 ∷ 4 ∷ [])
triangle = record { two = omega arith; closed = search (rules, arith); segments_once = IsDistinct-from_count nat_eq_equiv _ refl; nodes_once = IsDistinct-from_count nat_eq_equiv _ refl }

parallel : IsCycle ((0, 1) ∷ (0, 1) ∷ []) (0 ∷ 3 ∷ [])
parallel = record { two = omega arith; closed = search (rules, arith); segments_once = IsDistinct-from_count nat_eq_equiv _ refl; nodes_once = IsDistinct-from_count nat_eq_equiv _ refl }

no_way_back : ¬ (IsCycle parted_web.ends (6 ∷ 7 ∷ []))
unfolding IsDistinct
no_way_back c = both_ways true c.segments_once.0.0 refl

pub small_cycles : SmallCycles
small_cycles = record { triangle = triangle; parallel = parallel; no_way_back = no_way_back }

-- ---- no node at all

nothing_drawn : IsDrawing nothing 0 nothing (λ d. d) (λ e. [])
nothing_drawn = record {
  is_graph = record { ends_in = search (rules, arith); no_loop = λ e low. absurd (omega (arith, low)) };
  edge_list = edge_list 0;
  nodes = refl;
  is_flat_map = record { is_map = map_of_test nothing (λ d. d) refl; flat = refl };
  lead = λ e h. absurd (both_ways false refl h);
  straight = λ e h. absurd (both_ways false refl h);
  once = λ s low. absurd (omega (arith, low));
  four = λ v low high. absurd (omega (arith, high));
}

-- a further node would have darts, whose segments no edge walks
nothing_crosses : (c : ℕ) → HasDrawingWith nothing c → c ≡ 0
nothing_crosses zero drawn = refl
nothing_crosses (suc c) drawn =
    let web = drawn.0 in
    let loose = drawn.3 in
    elim (cases_eq (length web.ends) 0) [
      | inl none ↦
          let four = loose.four 0 (omega arith) (let is = loose.nodes in omega (arith, is)) in
          let no_dart : dart_count web.ends 0 ≡ 0 = ap (λ n. count_below (2 * n) (λ d. tail_of web.ends d == 0)) none in
          omega (arith, four, no_dart)
      | inr some ↦ omega (arith, loose.once 0 (omega (arith, some)))
    ]

pub limit_of_nothing : LimitOfNothing
limit_of_nothing = record {
  limit = refl;
  below = λ c d. subst (λ x. 2 < node_limit (pair_count_of nothing) x) (sym (nothing_crosses c d)) (omega arith);
  not_below = λ h. omega (arith, h 0 (nothing, (λ d. d), (λ e. []), nothing_drawn));
}
