-- A simple drawing with at most k crossings, whose orders and rotation are functions, is one with lists.
use Rattle.std.proofs.Common.{◌≡◌, ℕ, suc, ◌+◌, ◌*◌, ◌<◌, ◌≤◌, ◌↔◌, IsTrue, inl, inr, Bool, true, false, eqb, List, [], ◌∷◌, length, map, refl, sym, ap, ◌∙◌, subst, arith, length-append}
use Rattle.std.specs.List.{flat_map, range_with_len}
use Rattle.std.proofs.lemmas.Bool.{both_ways, cases_Bool, cases_lt, eqb-true}
use Rattle.std.proofs.lemmas.List.{length-map}
use Rattle.std.proofs.lemmas.List.FromFn.{get_or-map-range_with_len, length-range_with_len}
use Rattle.xn_model.specs.Drawing.{IsSimplyAtLeast, IsSimplyAtMost, IsSimpleDrawing, order_of}
use Rattle.xn_model.specs.Graph.{Graph, IsGraph, edges_of, ends_at}
use Rattle.xn_model.specs.Lists.{at, has, position_in, total}
use Rattle.xn_model.specs.Map.{IsFlat, face_count, face_step, is_lone, reverse_of, tail_of}
use Rattle.xn_model.specs.Orders.{IsOrders, crossing_count, crossings_of}
use Rattle.xn_model.specs.Permutation.{count_below}
use Rattle.xn_model.specs.Web.{crossing_node, first_segment, segments_of, segments_through, web_of}
use Rattle.xn_model.proofs.Darts.{reverse_below}
use Rattle.xn_model.proofs.Ranges.{has-range_past, order_at_outside}
use Rattle.xn_ring.proofs.Agreeing.{Permutes-agrees, cycle_count-agrees, iterate-agrees}
use Rattle.xn_genus.proofs.Counts.{Permutes-face}
use Rattle.xn_model.proofs.Has.{has-first, position_below}
use Rattle.xn_general.specs.Bounds.{LeastIsOfAllDrawings, MostIsOfAllDrawings}
use Rattle.xn_brute.specs.Found.{CanList, SaysWithin}
use Rattle.xn_brute.proofs.Doubled.{entries-le}
use Rattle.xn_brute.proofs.OrdersAt.{order_of-at}

-- ---- orders

empty_list : (l : List ℕ) → ((x : ℕ) → has l x ≡ true → ⊥) → l ≡ []
empty_list [] none = refl
empty_list (y ∷ ys) none = absurd (none y (has-first y ys))

module _ (g : Graph) (ord : ℕ → List ℕ) (orders : IsOrders g.ends (edges_of g) ord) where
  listed_at : (e : ℕ) → order_of g (map ord (edges_of g)) e ≡ ord e
  listed_at e =
      let n = length g.ends in
      elim (cases_lt e n) [
        | inl low ↦ order_of-at n (map ord (edges_of g)) e low ∙ get_or-map-range_with_len ord 0 n e e [] low (omega arith)
        | inr high ↦
            let outside : has (edges_of g) e ≡ false = has-range_past 0 n e (omega (arith, high)) in
            order_at_outside (edges_of g) (map ord (edges_of g)) e outside
            ∙ sym (empty_list (ord e) (λ x h. both_ways _ outside (orders.within e x h)))
      ]

  -- the lists of orders are those orders
  pub listed_orders : order_of g (map ord (edges_of g)) ≡ ord
  listed_orders = λ i e. listed_at e i

total-map : (ord : ℕ → List ℕ) (es : List ℕ) → total length (map ord es) ≡ total (λ e. length (ord e)) es
total-map ord [] = refl
total-map ord (e ∷ es) = ap (λ n. length (ord e) + n) (total-map ord es)

-- ---- where a crossing stands

length-through : (u : ℕ) (ws : List ℕ) (v : ℕ) → length (segments_through u ws v) ≡ suc (length ws)
length-through u [] v = refl
length-through u (w ∷ ws) v = ap suc (length-through w ws v)

length-segments : (g : Graph) (pairs : List (ℕ × ℕ)) (ord : ℕ → List ℕ) (e : ℕ) → length (segments_of g pairs ord e) ≡ length (ord e) + 1
length-segments g pairs ord e = omega (
  arith,
  length-through (ends_at g.ends e).0 (map (crossing_node g.nodes pairs e) (ord e)) (ends_at g.ends e).1,
  length-map (ord e) (crossing_node g.nodes pairs e),
)

segment_below : (g : Graph) (pairs : List (ℕ × ℕ)) (ord : ℕ → List ℕ) (es : List ℕ) (e : ℕ) → has es e ≡ true →
    first_segment es ord e + length (ord e) < length (flat_map (segments_of g pairs ord) es)
segment_below g pairs ord [] e h = absurd (both_ways false refl h)
segment_below g pairs ord (x ∷ xs) e h =
    let long = length-append (segments_of g pairs ord x) (flat_map (segments_of g pairs ord) xs) in
    let first = length-segments g pairs ord x in
    elim (cases_Bool (eqb x e)) [
      | inl here ↦ let same = ap (λ z. length (ord z)) (eqb-true x e here) in rw here (omega (arith, long, first, same))
      | inr other ↦
          let later : has xs e ≡ true = rw other at h in
          let low = segment_below g pairs ord xs e later in
          rw other (omega (arith, long, first, low))
    ]

-- ---- rotations

-- a rotation as a list
abbrev pub turns_of : ℕ → (ℕ → ℕ) → List ℕ
turns_of n next = map next (range_with_len 0 n)

turns-at : (n : ℕ) (next : ℕ → ℕ) (d : ℕ) → d < n → at (turns_of n next) d ≡ next d
turns-at n next d low = get_or-map-range_with_len next 0 n d d 0 low (omega arith)

length-turns : (n : ℕ) (next : ℕ → ℕ) → length (turns_of n next) ≡ n
length-turns n next = length-map (range_with_len 0 n) next ∙ length-range_with_len 0 n

module _ (web : Graph) (next turns : ℕ → ℕ) (same : (d : ℕ) → d < 2 * length web.ends → turns d ≡ next d) (flat : IsFlat web next) where
  faces_same : face_count web.nodes web.ends turns ≡ face_count web.nodes web.ends next
  faces_same =
      let m = length web.ends in
      ap (λ n. n + count_below web.nodes (is_lone web.ends))
      (cycle_count-agrees (2 * m) (face_step next) (face_step turns) (Permutes-face m next flat.is_map.permutes) (λ d low. same (reverse_of d) (reverse_below m d low)))

  pub flat_from_same : IsFlat web turns
  flat_from_same =
      let n = 2 * length web.ends in
      let map_is = flat.is_map in
      record {
        is_map = record {
          ends_in = map_is.ends_in;
          permutes = Permutes-agrees n next turns map_is.permutes same;
          same_node = λ d low. ap (tail_of web.ends) (same d low) ∙ map_is.same_node d low;
          one_ring = λ d e d_low e_low tails.
              let reached = map_is.one_ring d e d_low e_low tails in (reached.0, iterate-agrees n next turns map_is.permutes same d reached.0 d_low ∙ reached.1);
        };
        flat = omega (arith, faces_same, flat.flat);
      }

-- the same drawing, whose rotation is a list
listed_rotation : (g : Graph) (ord : ℕ → List ℕ) (next : ℕ → ℕ) → IsSimpleDrawing g ord next →
    IsSimpleDrawing g ord (at (turns_of (2 * length (web_of g (edges_of g) ord).ends) next))
listed_rotation g ord next drawn =
    let es = edges_of g in
    let web = web_of g es ord in
    let n = 2 * length web.ends in
    let turns = at (turns_of n next) in
    let same : (d : ℕ) → d < n → turns d ≡ next d = turns-at n next in
    record {
      orders = drawn.orders;
      is_flat_map = flat_from_same web next turns same drawn.is_flat_map;
      crosses = λ e f less h.
          let before : ℕ = first_segment es ord e + position_in (ord e) f in
          let inside = segment_below g (crossings_of es ord) ord es e (drawn.orders.within e f h) in
          let d : ℕ = 2 * before + 1 in
          let low : d < n = omega (arith, inside, position_below (ord e) f h) in
          let below = drawn.is_flat_map.is_map.permutes.below d low in
          ap turns (same d low) ∙ same (next d) below ∙ drawn.crosses e f less h;
    }

-- ---- drawings with at most k crossings

pub lists_from_at_most : (g : Graph) (k : ℕ) → IsSimplyAtMost g k → CanList g k (2 * k) []
lists_from_at_most g k drawing =
    let ord = drawing.1.0 in
    let es = edges_of g in
    let drawn = drawing.1.2 in
    let few : crossing_count g ord ≤ k = omega (arith, drawing.1.3, drawing.2) in
    let lists = map ord es in
    let same : order_of g lists ≡ ord = listed_orders g ord drawn.orders in
    let n : ℕ = 2 * length (web_of g es ord).ends in
    let turns = turns_of n drawing.1.1 in
    record {
      rest = lists;
      few = omega (arith, total-map ord es, entries-le g ord drawn.orders, few);
      drawn = record {
        next = turns;
        drawing = record {
          lists_fit = length-map es ord ∙ length-range_with_len 0 (length g.ends);
          next_fits = length-turns n drawing.1.1 ∙ ap (λ (o : ℕ → List ℕ). 2 * length (web_of g es o).ends) (sym same);
          drawing = subst (λ (o : ℕ → List ℕ). IsSimpleDrawing g o (at turns)) (sym same) (listed_rotation g ord drawing.1.1 drawn);
        };
        few = subst (λ (o : ℕ → List ℕ). crossing_count g o ≤ k) (sym same) few;
      };
    }

pub at_most_from_lists : (g : Graph) (k left : ℕ) → CanList g k left [] → IsSimplyAtMost g k
at_most_from_lists g k left can = (_, (order_of g can.rest, at can.drawn.next, can.drawn.drawing.drawing, refl), can.drawn.few)

pub least_from_none : (g : Graph) (k : ℕ) → (CanList g k (2 * k) [] → ⊥) → IsSimplyAtLeast g (k + 1)
least_from_none g k none c drawn = elim (cases_lt k c) [
  | inl more ↦ omega (arith, more)
  | inr few ↦ absurd (none (lists_from_at_most g k (c, drawn, few)))
]

-- the search answers for all drawings
pub says_within : LeastIsOfAllDrawings → MostIsOfAllDrawings → (g : Graph) → IsGraph g → (k left : ℕ) (lists : List (List ℕ)) → left ≡ 2 * k → lists ≡ [] → (yes : Bool) → IsTrue yes ↔ CanList g k left lists → SaysWithin g k yes
says_within least most g is_graph k left lists all none true found =
    (most g k is_graph).0 (at_most_from_lists g k left (subst (CanList g k left) none (found.0 refl)))
says_within least most g is_graph k left lists all none false found =
    (least g (k + 1) is_graph).0 (least_from_none g k (λ can. both_ways false refl (found.1 (subst (CanList g k left) (sym none) (subst (λ m. CanList g k m []) (sym all) can)))))
