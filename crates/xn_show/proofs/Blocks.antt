-- The nodes and edges that blocks say.
use Rattle.std.proofs.Common.{◌≡◌, ◌≢◌, ℕ, ℤ, pos, negsuc, zero, suc, ◌+◌, ◌<◌, ◌≤◌, ◌==◌, inl, inr, true, false, List, [], ◌∷◌, ◌++◌, length, map, take, Some, None, Ok, refl, sym, ap, ◌∙◌, arith}
use Rattle.std.specs.List.{range_with_len}
use Rattle.std.specs.Map.{lookup}
use Rattle.std.specs.Ordering.{int_eq}
use Rattle.std.proofs.lemmas.Bool.{cases_Bool, eqb-false, eqb-true, false_from_ne_true, lt-ltb, ne_eqb}
use Rattle.std.proofs.lemmas.Bool.Decides.{Decides-int_eq}
use Rattle.std.proofs.lemmas.List.{length-map, length-take-le, take_more}
use Rattle.std.proofs.lemmas.List.FromFn.{length-range_with_len}
use Rattle.xn_model.specs.Graph.{EndsIn, HasNoLoop, ends_at}
use Rattle.xn_graph.proofs.Ends.{EndsIn-at}
use Rattle.xn_gml.specs.declared.pair.Pair.{Pair}
use Rattle.xn_gml.specs.declared.token.Key.TheVariants as key
use Rattle.xn_gml.specs.Meaning.{Edges, edges_from, ids_from, new_id, nodes_of, number_of, values_of, with_block, with_edge}
use Rattle.xn_model.proofs.Ranges.{range-push}
use Rattle.xn_show.specs.Laws.{numbered}
use Rattle.xn_show.proofs.Shapes.{EachPair, HasEnds, HasInteger}

-- ---- ids

same_id : (m : ℕ) → int_eq (pos m) (pos m) ≡ true
same_id m = (Decides-int_eq (pos m) (pos m)).1 refl

other_id : (m n : ℕ) → m ≢ n → int_eq (pos m) (pos n) ≡ false
other_id m n differ = false_from_ne_true _ (λ same. differ (pos_same m n ((Decides-int_eq (pos m) (pos n)).0 same)))
  where
    size : ℤ → ℕ
    size (pos n) = n
    size (negsuc n) = n

    pos_same : (m n : ℕ) → pos m ≡ pos n → m ≡ n
    pos_same m n e = ap size e

abbrev pair_of : ℕ → ℤ × ℕ
pair_of v = (pos v, v)

no_node : (a n m : ℕ) → a + n ≤ m → lookup (int_eq (pos m)) (map pair_of (range_with_len a n)) ≡ None
no_node a zero m above = refl
no_node a (suc n) m above = rw (other_id m a (λ same. omega (arith, same))) (no_node (a + 1) n m (omega arith))

some_node : (a n m : ℕ) → a ≤ m → m < a + n → lookup (int_eq (pos m)) (map pair_of (range_with_len a n)) ≡ Some m
some_node a zero m above below = absurd (omega arith)
some_node a (suc n) m above below = elim (cases_Bool (a == m)) [
  | inl here ↦
      let same : a ≡ m = eqb-true a m here in
      let found : int_eq (pos m) (pos a) ≡ true = ap (λ (k : ℕ). int_eq (pos m) (pos k)) same ∙ same_id m in
      rw found (ap (λ (k : ℕ). Some k) same)
  | inr away ↦
      let differ : a ≢ m = eqb-false a m away in
      let other : int_eq (pos m) (pos a) ≡ false = other_id m a (λ same. differ (sym same)) in
      rw other (some_node (a + 1) n m (omega arith) (omega arith))
]

pub length-numbered : (n : ℕ) → length (numbered n) ≡ n
length-numbered n = length-map (range_with_len 0 n) pair_of ∙ length-range_with_len 0 n

map_push : (ns : List ℕ) (n : ℕ) → map pair_of (ns ++ n ∷ []) ≡ map pair_of ns ++ pair_of n ∷ []
map_push [] n = refl
map_push (m ∷ ns) n = ap (λ (ps : List (ℤ × ℕ)). pair_of m ∷ ps) (map_push ns n)

numbered_more : (n : ℕ) → numbered n ++ (pos n, length (numbered n)) ∷ [] ≡ numbered (n + 1)
numbered_more n =
    ap (λ (k : ℕ). numbered n ++ (pos n, k) ∷ []) (length-numbered n)
    ∙ sym (ap (map pair_of) (range-push n) ∙ map_push (range_with_len 0 n) n)

new_id_is : (n : ℕ) (p : Pair) → HasInteger key.Id p n → number_of (numbered n) (pos n) ≡ None → new_id (numbered n) p ≡ Ok (pos n)
unfolding new_id
new_id_is n p has none = rw (has.found, has.is, none) refl

ids_step : (most : ℕ) (ids : List (ℤ × ℕ)) (block : Pair) (blocks : List Pair) (id : ℤ) → length ids < most → new_id ids block ≡ Ok id →
    ids_from most ids (block ∷ blocks) ≡ ids_from most (ids ++ (id, length ids) ∷ []) blocks
unfolding ids_from
ids_step most ids block blocks id few new = rw (lt-ltb (length ids) most few, new) refl

ids_done : (most : ℕ) (ids : List (ℤ × ℕ)) → ids_from most ids [] ≡ Ok ids
unfolding ids_from
ids_done most ids = refl

-- node blocks with the numbers from a on
pub ids_found : (most a n : ℕ) (ps : List Pair) → a + n ≤ most → EachPair (λ v p. HasInteger key.Id p v) (range_with_len a n) ps → ids_from most (numbered a) ps ≡ Ok (numbered (a + n))
ids_found most a zero [] room each =
    let all : a ≡ a + 0 = omega arith in
    ids_done most (numbered a) ∙ ap (λ (k : ℕ). Ok (numbered k)) all
ids_found most a zero (p ∷ ps) room each = absurd each
ids_found most a (suc n) [] room each = absurd each
ids_found most a (suc n) (p ∷ ps) room each =
    let on : a + 1 + n ≡ a + suc n = omega arith in
    ids_step most (numbered a) p ps (pos a) (omega (arith, length-numbered a, room)) (new_id_is a p each.0 (no_node 0 a a (omega arith)))
    ∙ ap (λ (ids : List (ℤ × ℕ)). ids_from most ids ps) (numbered_more a)
    ∙ ids_found most (a + 1) n ps (omega arith) each.1
    ∙ ap (λ (k : ℕ). Ok (numbered k)) on

-- ---- edges

abbrev pub edges_so : List (ℕ × ℕ) → Edges
edges_so ends = record { ends = ends; loops = 0 }

values_are : (p : Pair) (ends : ℕ × ℕ) (has : HasEnds p ends) → values_of p ≡ Ok (has.0.value, has.1.value)
unfolding values_of
values_are p ends has = rw (has.0.found, has.1.found) refl

nodes_are : (ids : List (ℤ × ℕ)) (p : Pair) (ends : ℕ × ℕ) (has : HasEnds p ends) → number_of ids (pos ends.0) ≡ Some ends.0 → number_of ids (pos ends.1) ≡ Some ends.1 →
    nodes_of ids (has.0.value, has.1.value) ≡ Ok ends
unfolding nodes_of
nodes_are ids p ends has first second = rw (has.0.is, has.1.is, first, second) refl

with_edge_is : (most : ℕ) (so_far : List (ℕ × ℕ)) (ends : ℕ × ℕ) → ends.0 ≢ ends.1 → length so_far < most → with_edge most (edges_so so_far) ends ≡ Ok (edges_so (so_far ++ ends ∷ []))
unfolding with_edge
with_edge_is most so_far ends differ few = rw (ne_eqb ends.0 ends.1 differ, lt-ltb (length so_far) most few) refl

module _ (most : ℕ) (ids : List (ℤ × ℕ)) (p : Pair) (ps : List Pair) (so_far : List (ℕ × ℕ)) (ends : ℕ × ℕ) where
  edges_step : (has : HasEnds p ends) → number_of ids (pos ends.0) ≡ Some ends.0 → number_of ids (pos ends.1) ≡ Some ends.1 → ends.0 ≢ ends.1 → length so_far < most →
      edges_from most ids (edges_so so_far) (p ∷ ps) ≡ edges_from most ids (edges_so (so_far ++ ends ∷ [])) ps
  unfolding edges_from with_block
  edges_step has first second differ few =
      rw (values_are p ends has, nodes_are ids p ends has first second, with_edge_is most so_far ends differ few) refl

edges_done : (most : ℕ) (ids : List (ℤ × ℕ)) (edges : Edges) → edges_from most ids edges [] ≡ Ok edges
unfolding edges_from
edges_done most ids edges = refl

module _ (most nodes : ℕ) (ends : List (ℕ × ℕ)) (inside : EndsIn nodes ends) (no_loop : HasNoLoop ends) (room : length ends ≤ most) where
  -- edge blocks with the ends from place a on
  pub edges_found : (a n : ℕ) (ps : List Pair) → a + n ≤ length ends → EachPair (λ s p. HasEnds p (ends_at ends s)) (range_with_len a n) ps →
      edges_from most (numbered nodes) (edges_so (take a ends)) ps ≡ Ok (edges_so (take (a + n) ends))
  edges_found a zero [] low each =
      let all : a ≡ a + 0 = omega arith in
      edges_done most (numbered nodes) (edges_so (take a ends)) ∙ ap (λ (k : ℕ). Ok (edges_so (take k ends))) all
  edges_found a zero (p ∷ ps) low each = absurd each
  edges_found a (suc n) [] low each = absurd each
  edges_found a (suc n) (p ∷ ps) low each =
      let on : a + 1 + n ≡ a + suc n = omega arith in
      let here : a < length ends = omega arith in
      let node = EndsIn-at nodes ends inside a here in
      let q = ends_at ends a in
      edges_step most (numbered nodes) p ps (take a ends) q each.0 (some_node 0 nodes q.0 (omega arith) (omega (arith, node.0))) (some_node 0 nodes q.1 (omega arith) (omega (arith, node.1))) (no_loop a here)
      (omega (arith, length-take-le a ends (omega (arith, here)), here, room))
      ∙ ap (λ (so_far : List (ℕ × ℕ)). edges_from most (numbered nodes) (edges_so so_far) ps) (sym (take_more ends a (0, 0) here))
      ∙ edges_found (a + 1) n ps (omega arith) each.1
      ∙ ap (λ (k : ℕ). Ok (edges_so (take k ends))) on
