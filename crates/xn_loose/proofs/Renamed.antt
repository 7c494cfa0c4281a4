-- A drawing of some edges as one of their graph.
use Rattle.std.proofs.Common.{◌≡◌, ℕ, zero, suc, ◌+◌, ◌*◌, ◌<◌, ◌≤◌, inl, inr, Bool, true, false, not, ◌&&◌, cond, eqb, ltb, List, [], ◌∷◌, ◌++◌, length, map, refl, sym, ◌∙◌, ap, ap₂, subst, arith}
use Rattle.std.specs.List.{IsDistinct, flat_map, range_with_len}
use Rattle.std.specs.Prelude.{filter, nat_eq}
use Rattle.std.proofs.lemmas.Bool.{both_ways, cases_Bool, cases_eq, cases_lt, cond-true, cond-false, eq-eqb, eqb-true, le-ltb, lt-ltb, ne_eqb}
use Rattle.std.proofs.lemmas.List.{get_or_default, length-map}
use Rattle.std.proofs.lemmas.List.FromFn.{length-range_with_len, get_or-range_with_len}
use Rattle.std.proofs.lemmas.List.Folds.{flat_map-map}
use Rattle.std.proofs.Math.ListN.{get_or-map}
use Rattle.xn_model.specs.Drawing.{CrossesAt, IsSimpleDrawing}
use Rattle.xn_model.specs.Graph.{EndsIn, Graph, each_two, ends_at, touches}
use Rattle.xn_model.specs.Lists.{at, has, position_in}
use Rattle.xn_model.specs.Map.{IsFlat}
use Rattle.xn_model.specs.Orders.{IsOrders, crossings_of}
use Rattle.xn_model.specs.Web.{crossing_node, crossing_number_in, first_segment, segments_of, segments_through, web_of}
use Rattle.xn_model.proofs.Ranges.{edge_list, has-range_past}
use Rattle.xn_ring.proofs.Counting.{same_tests}
use Rattle.xn_surgery.proofs.OverlayComponents.{EndsIn-both}
use Rattle.xn_fewer.proofs.Has.{has-first, has-later, has-map}
use Rattle.xn_fewer.proofs.Rising.{Rising, all_made, all_of, distinct-rising, rising-from_increasing}
use Rattle.xn_loose.specs.Renaming.{DrawingsOfEdgesAreDrawings, subgraph_of, renumbered}
use Rattle.xn_track.specs.Tidying.{IsDrawingOfEdges}
use Rattle.xn_track.proofs.Places.{all_not, has-at, has-mapped, positions_apart}
use Rattle.xn_general.proofs.InWeb.{at-map, at_position}
use Rattle.xn_track.proofs.RunsOfAll.{has-range, map-map}

abbrev both : (ℕ → ℕ) → ℕ × ℕ → ℕ × ℕ
both f p = (f p.0, f p.1)

-- ---- lists

list_same : (xs ys : List ℕ) → length xs ≡ length ys → ((i : ℕ) → i < length xs → at xs i ≡ at ys i) → xs ≡ ys
list_same [] [] size each = refl
list_same [] (y ∷ ys) size each = absurd (omega (arith, size))
list_same (x ∷ xs) [] size each = absurd (omega (arith, size))
list_same (x ∷ xs) (y ∷ ys) size each = ap₂ (λ a l. a ∷ l) (each 0 (omega arith)) (list_same xs ys (omega (arith, size)) (λ i i_in. each (suc i) (omega (arith, i_in))))

map-append : (f : ℕ → ℕ) (ps qs : List (ℕ × ℕ)) → map (both f) (ps ++ qs) ≡ map (both f) ps ++ map (both f) qs
map-append f [] qs = refl
map-append f (p ∷ ps) qs = ap (λ l. both f p ∷ l) (map-append f ps qs)

each_two-map : (f : ℕ → ℕ) (ys : List ℕ) → each_two (map f ys) ≡ map (both f) (each_two ys)
each_two-map f [] = refl
each_two-map f (y ∷ ys) = ap₂ ◌++◌ (with_first ys) (each_two-map f ys) ∙ sym (map-append f (map (λ z. (y, z)) ys) (each_two ys))
  where
    with_first : (zs : List ℕ) → map (λ z. (f y, z)) (map f zs) ≡ map (both f) (map (λ z. (y, z)) zs)
    with_first [] = refl
    with_first (z ∷ zs) = ap (λ l. (f y, f z) ∷ l) (with_first zs)

filter-map : (t : ℕ × ℕ → Bool) (f : ℕ → ℕ) (ps : List (ℕ × ℕ)) → filter t (map (both f) ps) ≡ map (both f) (filter (λ p. t (both f p)) ps)
filter-map t f [] = refl
filter-map t f (p ∷ ps) = elim (cases_Bool (t (both f p))) [
  | inl passes ↦ rw passes (ap (λ l. both f p ∷ l) (filter-map t f ps))
  | inr fails ↦ rw fails (filter-map t f ps)
]

filter-same : (t u : ℕ × ℕ → Bool) (k : ℕ) (ps : List (ℕ × ℕ)) → EndsIn k ps → ((p : ℕ × ℕ) → p.0 < k → p.1 < k → t p ≡ u p) → filter t ps ≡ filter u ps
filter-same t u k [] low same = refl
filter-same t u k (p ∷ ps) low same =
    let rest = filter-same t u k ps low.2 same in
    let here = same p low.0 low.1 in
    elim (cases_Bool (u p)) [
      | inl passes ↦ let t_passes : t p ≡ true = here ∙ passes in rw (t_passes, passes) (ap (λ l. p ∷ l) rest)
      | inr fails ↦ let t_fails : t p ≡ false = here ∙ fails in rw (t_fails, fails) rest
    ]

ends-filter : (t : ℕ × ℕ → Bool) (k : ℕ) (ps : List (ℕ × ℕ)) → EndsIn k ps → EndsIn k (filter t ps)
ends-filter t k [] low = tt
ends-filter t k (p ∷ ps) low = elim (cases_Bool (t p)) [
  | inl passes ↦ rw passes (low.0, low.1, ends-filter t k ps low.2)
  | inr fails ↦ rw fails (ends-filter t k ps low.2)
]

two_below : (k : ℕ) (ys : List ℕ) → ((y : ℕ) → has ys y ≡ true → y < k) → EndsIn k (each_two ys)
two_below k [] low = tt
two_below k (y ∷ ys) low =
    EndsIn-both k (map (λ z. (y, z)) ys) (each_two ys) (with_first ys (λ z z_in. low z (has-later y ys z z_in))) (two_below k ys (λ z z_in. low z (has-later y ys z z_in)))
  where
    with_first : (zs : List ℕ) → ((z : ℕ) → has zs z ≡ true → z < k) → EndsIn k (map (λ z. (y, z)) zs)
    with_first [] l = tt
    with_first (z ∷ zs) l = (low y (has-first y ys), l z (has-first z zs), with_first zs (λ w w_in. l w (has-later z zs w w_in)))

map-same : (a b : ℕ → ℕ) (xs : List ℕ) → ((x : ℕ) → has xs x ≡ true → a x ≡ b x) → map a xs ≡ map b xs
map-same a b [] same = refl
map-same a b (x ∷ xs) same = ap₂ (λ y l. y ∷ l) (same x (has-first x xs)) (map-same a b xs (λ y y_in. same y (has-later x xs y y_in)))

flat_map-same : (a b : ℕ → List (ℕ × ℕ)) (xs : List ℕ) → ((x : ℕ) → has xs x ≡ true → a x ≡ b x) → flat_map a xs ≡ flat_map b xs
flat_map-same a b [] same = refl
flat_map-same a b (x ∷ xs) same = ap₂ ◌++◌ (same x (has-first x xs)) (flat_map-same a b xs (λ y y_in. same y (has-later x xs y y_in)))

distinct-mapped : (f : ℕ → ℕ) (xs : List ℕ) → IsDistinct nat_eq xs → ((x y : ℕ) → has xs x ≡ true → has xs y ≡ true → f x ≡ f y → x ≡ y) → IsDistinct nat_eq (map f xs)
unfolding IsDistinct
distinct-mapped f [] distinct apart = tt
distinct-mapped f (x ∷ xs) distinct apart = (
  all_made (λ y. nat_eq (f x) y ≡ false) (map f xs) (λ y y_in. ne_eqb (f x) y (λ same.
      let z = has-map f xs y y_in in
      all_not x xs distinct.0 z.0 z.1 (apart x z.0 (has-first x xs) (has-later x xs z.0 z.1) (same ∙ sym z.2)))),
  distinct-mapped f xs distinct.1 (λ y z y_in z_in. apart y z (has-later x xs y y_in) (has-later x xs z z_in)),
)

rising_at : (xs : List ℕ) → Rising xs → (i j : ℕ) → i < j → j < length xs → at xs i < at xs j
rising_at [] rises i j low j_in = absurd (omega (arith, j_in))
rising_at (x ∷ xs) rises i zero low j_in = absurd (omega (arith, low))
rising_at (x ∷ xs) rises zero (suc j) low j_in = all_of (λ y. x < y) xs rises.0 (at xs j) (has-at xs j (omega (arith, j_in)))
rising_at (x ∷ xs) rises (suc i) (suc j) low j_in = rising_at xs rises.1 i j (omega (arith, low)) (omega (arith, j_in))

module _ (g : Graph) (edges : List ℕ) (ord : ℕ → List ℕ) (next : ℕ → ℕ) (drawing : IsDrawingOfEdges g edges ord next) where
  orders : IsOrders g.ends edges ord
  orders = drawing.orders

  abbrev h : Graph
  h = subgraph_of g edges

  abbrev k : ℕ
  k = length h.ends

  size : k ≡ length edges
  size = length-map edges (ends_at g.ends)

  abbrev R : List ℕ
  R = range_with_len 0 (length h.ends)

  abbrev less : ℕ → List ℕ
  less = renumbered edges ord

  abbrev f : ℕ → ℕ
  f = at edges

  abbrev pos : ℕ → ℕ
  pos = position_in edges

  rise : Rising edges
  rise = rising-from_increasing edges orders.edge_list.rise

  distinct : IsDistinct nat_eq edges
  distinct = distinct-rising edges rise

  f_in : (i : ℕ) → i < k → has edges (f i) ≡ true
  f_in i i_in = has-at edges i (omega (arith, i_in, size))

  pos_in : (x : ℕ) → has edges x ≡ true → (pos x < k) × (f (pos x) ≡ x)
  pos_in x x_in = let p = at_position edges x x_in in (omega (arith, p.0, size), p.1)

  pos_f : (i : ℕ) → i < k → pos (f i) ≡ i
  pos_f i i_in =
      let p = at_position edges (f i) (f_in i i_in) in
      positions_apart edges distinct (pos (f i)) i p.0 (omega (arith, i_in, size)) p.1

  f_apart : (i j : ℕ) → i < k → j < k → f i ≡ f j → i ≡ j
  f_apart i j i_in j_in same = sym (pos_f i i_in) ∙ ap pos same ∙ pos_f j j_in

  same_eq : (i j : ℕ) → i < k → j < k → eqb (f i) (f j) ≡ eqb i j
  same_eq i j i_in j_in = same_tests (eqb (f i) (f j)) (eqb i j) (λ t. eq-eqb i j (f_apart i j i_in j_in (eqb-true _ _ t))) (λ t. eq-eqb (f i) (f j) (ap f (eqb-true i j t)))

  f_rises : (i j : ℕ) → i < j → j < k → f i < f j
  f_rises i j low j_in = rising_at edges rise i j low (omega (arith, j_in, size))

  same_lt : (i j : ℕ) → i < k → j < k → ltb (f i) (f j) ≡ ltb i j
  same_lt i j i_in j_in = elim (cases_lt i j) [
    | inl low ↦ lt-ltb (f i) (f j) (f_rises i j low j_in) ∙ sym (lt-ltb i j low)
    | inr high ↦
        let past : f j ≤ f i = elim (cases_eq i j) [
          | inl same ↦ let e = ap f same in omega (arith, e)
          | inr other ↦ let up = f_rises j i (omega (arith, high, other)) i_in in omega (arith, up)
        ] in
        le-ltb (f i) (f j) past ∙ sym (le-ltb i j high)
  ]

  range_low : (i : ℕ) → has R i ≡ true → i < k
  range_low i i_in = elim (cases_lt i k) [ inl low ↦ low | inr past ↦ absurd (both_ways _ (has-range_past 0 k i (omega (arith, past))) i_in) ]

  listed : map f R ≡ edges
  listed =
      let long = length-range_with_len 0 k in
      let more = length-map R f in
      list_same (map f R) edges (omega (arith, long, more, size)) (λ i i_in.
      let i_low : i < k = omega (arith, i_in, long, more) in
      let z : 0 + i ≡ i = omega arith in
      at-map f R i (omega (arith, i_low, long)) ∙ ap f (get_or-range_with_len 0 k i 0 i_low ∙ z))

  crosser_in : (x y : ℕ) → has (ord x) y ≡ true → has edges y ≡ true
  crosser_in x y t = orders.within y x (orders.both_ways x y t)

  less_is : (i : ℕ) → i < k → less i ≡ map pos (ord (f i))
  less_is i i_in = cond-true _ _ _ (lt-ltb i (length edges) (omega (arith, i_in, size)))

  less_out : (i : ℕ) → k ≤ i → less i ≡ []
  less_out i past = cond-false _ _ _ (le-ltb i (length edges) (omega (arith, past, size)))

  -- the same edges cross
  to_less : (i j : ℕ) → i < k → j < k → has (ord (f i)) (f j) ≡ true → has (less i) j ≡ true
  to_less i j i_in j_in t =
      let there = has-mapped pos (ord (f i)) (f j) t in
      ap (λ l. has l j) (less_is i i_in) ∙ subst (λ x. has (map pos (ord (f i))) x ≡ true) (pos_f j j_in) there

  from_less : (i j : ℕ) → has (less i) j ≡ true → (i < k) × (j < k) × (has (ord (f i)) (f j) ≡ true)
  from_less i j t = elim (cases_lt i k) [
    | inr past ↦ absurd (both_ways false refl (ap (λ l. has l j) (sym (less_out i past)) ∙ t))
    | inl low ↦
        let x = has-map pos (ord (f i)) j (ap (λ l. has l j) (sym (less_is i low)) ∙ t) in
        let x_in = crosser_in (f i) x.0 x.1 in
        let p = pos_in x.0 x_in in
        let j_is : f j ≡ x.0 = ap f (sym x.2) ∙ p.1 in
        (low, omega (arith, p.0, x.2), ap (has (ord (f i))) j_is ∙ x.1)
  ]

  same_test : (i j : ℕ) → i < k → j < k → has (ord (f i)) (f j) ≡ has (less i) j
  same_test i j i_in j_in = same_tests (has (ord (f i)) (f j)) (has (less i) j) (to_less i j i_in j_in) (λ t. (from_less i j t).2)

  abbrev C : List (ℕ × ℕ)
  C = crossings_of R less

  C_low : EndsIn k C
  C_low = ends-filter (λ p. has (less p.0) p.1) k (each_two R) (two_below k R range_low)

  crossings : crossings_of edges ord ≡ map (both f) C
  crossings =
      ap (λ l. crossings_of l ord) (sym listed)
      ∙ ap (filter (λ p. has (ord p.0) p.1)) (each_two-map f R)
      ∙ filter-map (λ p. has (ord p.0) p.1) f (each_two R)
      ∙ ap (map (both f)) (filter-same (λ p. has (ord (f p.0)) (f p.1)) (λ p. has (less p.0) p.1) k (each_two R) (two_below k R range_low) (λ p a b. same_test p.0 p.1 a b))

  -- with the same numbers
  number : (ps : List (ℕ × ℕ)) → EndsIn k ps → (i j : ℕ) → i < k → j < k → crossing_number_in (map (both f) ps) (f i) (f j) ≡ crossing_number_in ps i j
  number [] low i j i_in j_in = refl
  number (p ∷ ps) low i j i_in j_in =
      let test : (eqb (f p.0) (f i) && eqb (f p.1) (f j)) ≡ (eqb p.0 i && eqb p.1 j) = ap₂ ◌&&◌ (same_eq p.0 i low.0 i_in) (same_eq p.1 j low.1 j_in) in
      ap₂ (λ b m. cond b 0 (suc m)) test (number ps low.2 i j i_in j_in)

  node_is : (i j : ℕ) → i < k → j < k → crossing_node g.nodes (crossings_of edges ord) (f i) (f j) ≡ crossing_node g.nodes C i j
  node_is i j i_in j_in =
      ap (λ ps. crossing_node g.nodes ps (f i) (f j)) crossings
      ∙ ap (λ b. g.nodes + cond b (crossing_number_in (map (both f) C) (f i) (f j)) (crossing_number_in (map (both f) C) (f j) (f i))) (same_lt i j i_in j_in)
      ∙ ap₂ (λ x y. g.nodes + cond (ltb i j) x y) (number C C_low i j i_in j_in) (number C C_low j i j_in i_in)

  ends_is : (i : ℕ) → i < k → ends_at h.ends i ≡ ends_at g.ends (f i)
  ends_is i i_in = get_or_default (map (ends_at g.ends) edges) i (0, 0) (ends_at g.ends 0) (omega (arith, i_in)) ∙ get_or-map (ends_at g.ends) edges i 0

  segments : (i : ℕ) → i < k → segments_of g (crossings_of edges ord) ord (f i) ≡ segments_of h C less i
  segments i i_in =
      let mids : map (crossing_node g.nodes (crossings_of edges ord) (f i)) (ord (f i)) ≡ map (crossing_node g.nodes C i) (less i) =
      map-same (crossing_node g.nodes (crossings_of edges ord) (f i)) (λ x. crossing_node g.nodes C i (pos x)) (ord (f i))
      (λ x x_in.
      let p = pos_in x (crosser_in (f i) x x_in) in
      ap (crossing_node g.nodes (crossings_of edges ord) (f i)) (sym p.1) ∙ node_is i (pos x) i_in p.0)
      ∙ sym (map-map (crossing_node g.nodes C i) pos (ord (f i))) ∙ ap (map (crossing_node g.nodes C i)) (sym (less_is i i_in)) in
      ap (λ ws. segments_through (ends_at g.ends (f i)).0 ws (ends_at g.ends (f i)).1) mids
      ∙ ap (λ p. segments_through p.0 (map (crossing_node g.nodes C i) (less i)) p.1) (sym (ends_is i i_in))

  same_web : web_of g edges ord ≡ web_of h R less
  same_web =
      let nodes : g.nodes + length (crossings_of edges ord) ≡ g.nodes + length C = ap (λ l. g.nodes + length l) crossings ∙ ap (λ m. g.nodes + m) (length-map C (both f)) in
      let segs : flat_map (segments_of g (crossings_of edges ord) ord) edges ≡ flat_map (segments_of h C less) R =
      ap (flat_map (segments_of g (crossings_of edges ord) ord)) (sym listed)
      ∙ flat_map-map (segments_of g (crossings_of edges ord) ord) f R
      ∙ flat_map-same (λ i. segments_of g (crossings_of edges ord) ord (f i)) (segments_of h C less) R (λ i i_in. segments i (range_low i i_in)) in
      let P : ℕ → List (ℕ × ℕ) → Graph = λ a b. record { nodes = a; ends = b } in
      ap₂ P nodes segs

  -- ---- places

  first_is : (ys : List ℕ) → ((y : ℕ) → has ys y ≡ true → y < k) → (i : ℕ) → i < k → first_segment (map f ys) ord (f i) ≡ first_segment ys less i
  first_is [] low i i_in = refl
  first_is (y ∷ ys) low i i_in =
      let y_in = low y (has-first y ys) in
      let long : length (ord (f y)) ≡ length (less y) = sym (length-map (ord (f y)) pos) ∙ ap length (sym (less_is y y_in)) in
      let rest = first_is ys (λ z z_in. low z (has-later y ys z z_in)) i i_in in
      ap₂ (λ b m. cond b 0 m) (same_eq y i y_in i_in) (ap₂ (λ a b. suc a + b) long rest)

  same_pos : (x y : ℕ) → has edges x ≡ true → has edges y ≡ true → eqb (pos x) (pos y) ≡ eqb x y
  same_pos x y x_in y_in = same_tests (eqb (pos x) (pos y)) (eqb x y)
      (λ t. eq-eqb x y (sym (pos_in x x_in).1 ∙ ap f (eqb-true _ _ t) ∙ (pos_in y y_in).1)) (λ t. eq-eqb (pos x) (pos y) (ap pos (eqb-true x y t)))

  position_is : (xs : List ℕ) → ((x : ℕ) → has xs x ≡ true → has edges x ≡ true) → (y : ℕ) → has edges y ≡ true → position_in (map pos xs) (pos y) ≡ position_in xs y
  position_is [] low y y_in = refl
  position_is (x ∷ xs) low y y_in =
      ap₂ (λ b m. cond b 0 (suc m)) (same_pos x y (low x (has-first x xs)) y_in) (position_is xs (λ z z_in. low z (has-later x xs z z_in)) y y_in)

  crosses : (i j : ℕ) → i < j → has (less i) j ≡ true → CrossesAt R less next i j
  crosses i j low t =
      let is = from_less i j t in
      let there = drawing.crosses (f i) (f j) (f_rises i j low is.1) is.2 in
      let one : first_segment edges ord (f i) ≡ first_segment R less i = ap (λ l. first_segment l ord (f i)) (sym listed) ∙ first_is R range_low i is.0 in
      let two : position_in (ord (f i)) (f j) ≡ position_in (less i) j =
      sym (position_is (ord (f i)) (λ x x_in. crosser_in (f i) x x_in) (f j) (f_in j is.1)) ∙ ap (position_in (map pos (ord (f i)))) (pos_f j is.1) ∙ ap (λ l. position_in l j) (sym (less_is i is.0)) in
      let before : first_segment edges ord (f i) + position_in (ord (f i)) (f j) ≡ first_segment R less i + position_in (less i) j = ap₂ ◌+◌ one two in
      let P : ℕ → Type 0 = λ m. next (next (2 * m + 1)) ≡ 2 * (m + 1) in
      subst P before there

  no_repeats : (i : ℕ) → IsDistinct nat_eq (less i)
  unfolding IsDistinct
  no_repeats i = elim (cases_lt i k) [
    | inr past ↦ subst (λ l. IsDistinct nat_eq l) (sym (less_out i past)) tt
    | inl low ↦ subst (λ l. IsDistinct nat_eq l) (sym (less_is i low)) (distinct-mapped pos (ord (f i)) (orders.no_repeats (f i))
        (λ x y x_in y_in same. sym (pos_in x (crosser_in (f i) x x_in)).1 ∙ ap f same ∙ (pos_in y (crosser_in (f i) y y_in)).1))
  ]

  less_orders : IsOrders h.ends R less
  less_orders = record {
    edge_list = edge_list k;
    within = λ i j t. has-range k i (from_less i j t).0;
    no_repeats = no_repeats;
    independent = λ i j t.
        let is = from_less i j t in
        ap₂ (λ p q. not (touches p q.0) && not (touches p q.1)) (ends_is i is.0) (ends_is j is.1) ∙ orders.independent (f i) (f j) is.2;
    both_ways = λ i j t. let is = from_less i j t in to_less j i is.1 is.0 (orders.both_ways (f i) (f j) is.2);
  }

  pub own_drawing : IsSimpleDrawing h less next
  own_drawing = record {
    orders = less_orders;
    is_flat_map = subst (λ w. IsFlat w next) same_web drawing.is_flat_map;
    crosses = crosses;
  }

  pub as_many : length C ≡ length (crossings_of edges ord)
  as_many = sym (ap length crossings ∙ length-map C (both f))

pub drawings_of_edges_are_drawings : DrawingsOfEdgesAreDrawings
drawings_of_edges_are_drawings g edges ord next drawing = (own_drawing g edges ord next drawing, as_many g edges ord next drawing)
