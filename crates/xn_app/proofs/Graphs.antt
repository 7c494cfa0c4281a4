-- The graph of a text is a graph within the limits, with one id for each node.
use Rattle.std.proofs.Common.{◌≡◌, ◌≢◌, ℕ, ℤ, ◌+◌, ◌<◌, ◌≤◌, Bool, true, false, cond, eqb, ltb, List, [], ◌∷◌, ◌++◌, length, All, Option, None, Some, IfSome, Result, Ok, Err, refl, subst, arith, eq-eqb}
use Rattle.std.proofs.lemmas.Bool.{both_ways, ltb-true}
use Rattle.std.proofs.lemmas.List.{length_push}
use Rattle.std.proofs.lemmas.List.Elements.{All-push}
use Rattle.std.proofs.lemmas.Map.Views.{IfSome-lookup_from_All}
use Rattle.std.specs.Map.{values_of}
use Rattle.std.specs.Ordering.{int_eq}
use Rattle.xn_graph.specs.Limits.{HasNodes, IsEdge, IsLimitedGraph}
use Rattle.xn_graph.proofs.Ends.{IsGraph-from_each}
use Rattle.xn_gml.specs.Meaning.{Edges, Found, edges_from, found, graph_in, graph_of_text, graph_within, ids_from, integer_at, known, list_of, new_id, no_edges, nodes_of, number_of, values_of as ends_of, with_block, with_edge}
use Rattle.xn_gml.specs.Reading.{◌>>=◌}
use Rattle.xn_gml.specs.Lists.{lists_of}
use Rattle.xn_gml.specs.declared.errors.GmlErr.{GmlErr}
use Rattle.xn_gml.specs.declared.errors.GmlErr.TheVariants as gml
use Rattle.xn_gml.specs.declared.pair.Pair.{Pair}
use Rattle.xn_gml.specs.declared.token.Key.TheVariants as key
use Rattle.xn_gml.specs.declared.token.Token.{Token}
use Rattle.xn_gml.proofs.BlockSteps.{numbered_push}

-- a step that is passed, and what is made of its value
bind_ok : {A B : Type 0} (r : Result A GmlErr) (f : A → Result B GmlErr) (b : B) → r >>= f ≡ Ok b → (a : A) × (r ≡ Ok a) × (f a ≡ Ok b)
bind_ok (Ok a) f b e = (a, refl, e)
bind_ok (Err x) f b e = absurd cc

ok_is : {A : Type 0} (a b : A) → Path (Result A GmlErr) (Ok a) (Ok b) → a ≡ b
ok_is a b e = cc

-- the parts of which a graph was made
record Parts (f : Found) : Type 0 where
  list : List Token
  ids : List (ℤ × ℕ)
  edges : Edges
  ids_are : ids_from 1000 [] (lists_of key.Node list) ≡ Ok ids
  edges_are : edges_from 1000 ids no_edges (lists_of key.Edge list) ≡ Ok edges
  made : found ids edges ≡ f

parts : (text : List ℕ) (f : Found) → graph_of_text text ≡ Ok f → Parts f
unfolding graph_within graph_in
parts text f e =
    let l = bind_ok (list_of text) (graph_in 1000) f e in
    let i = bind_ok (ids_from 1000 [] (lists_of key.Node l.0)) (λ ids. edges_from 1000 ids no_edges (lists_of key.Edge l.0) >>= λ edges. Ok (found ids edges)) f l.2 in
    let m = bind_ok (edges_from 1000 i.0 no_edges (lists_of key.Edge l.0)) (λ edges. Ok (found i.0 edges)) f i.2 in
    record { list = l.0; ids = i.0; edges = m.0; ids_are = i.1; edges_are = m.1; made = ok_is (found i.0 m.0) f m.2 }

-- ---- nodes

-- numbers are below how many there are
abbrev AreNumbered : List (ℤ × ℕ) → Type 0
AreNumbered ids = All (λ m. m < length ids) (values_of ids)

ids_numbered : (blocks : List Pair) (ids all : List (ℤ × ℕ)) → AreNumbered ids → ids_from 1000 ids blocks ≡ Ok all → AreNumbered all
unfolding ids_from
ids_numbered [] ids all numbered e = subst AreNumbered (ok_is ids all e) numbered
ids_numbered (block ∷ blocks) ids all numbered e =
    let b = bind_ok (cond (ltb (length ids) 1000) (new_id ids block) (Err gml.TooManyNodes)) (λ id. ids_from 1000 (ids ++ (id, length ids) ∷ []) blocks) all e in
    let more = ids ++ (b.0, length ids) ∷ [] in
    ids_numbered blocks more all (numbered_push ids more b.0 (length ids) refl refl numbered) b.2

ids_few : (blocks : List Pair) (ids all : List (ℤ × ℕ)) → length ids ≤ 1000 → ids_from 1000 ids blocks ≡ Ok all → length all ≤ 1000
unfolding ids_from
ids_few [] ids all few e = subst (λ (xs : List (ℤ × ℕ)). length xs ≤ 1000) (ok_is ids all e) few
ids_few (block ∷ blocks) ids all few e =
    let b = bind_ok (cond (ltb (length ids) 1000) (new_id ids block) (Err gml.TooManyNodes)) (λ id. ids_from 1000 (ids ++ (id, length ids) ∷ []) blocks) all e in
    let longer = length_push ids (b.0, length ids) in
    let room = has_room (ltb (length ids) 1000) (new_id ids block) b.0 b.1 in
    let low = ltb-true (length ids) 1000 room in
    ids_few blocks (ids ++ (b.0, length ids) ∷ []) all (omega (arith, longer, low)) b.2
  where
    has_room : (few : Bool) (id : Result ℤ GmlErr) (x : ℤ) → cond few id (Err gml.TooManyNodes) ≡ Ok x → few ≡ true
    has_room true id x is = refl
    has_room false id x is = absurd cc

known_below : (at : ℕ) (number : Option ℕ) (k n : ℕ) → IfSome number (λ m. m < k) → known at number ≡ Ok n → n < k
known_below at None k n below e = absurd cc
known_below at (Some m) k n below e = subst (λ (x : ℕ). x < k) (ok_is m n e) below

-- ends that are found are nodes
ends_inside : (ids : List (ℤ × ℕ)) (values : Token × Token) (p : ℕ × ℕ) → AreNumbered ids → nodes_of ids values ≡ Ok p → HasNodes (length ids) p
unfolding nodes_of
ends_inside ids values p numbered e =
    let s = bind_ok (integer_at values.0) (λ source. integer_at values.1 >>= λ target. known values.0.at (number_of ids source) >>= λ u. known values.1.at (number_of ids target) >>= λ v. Ok (u, v)) p e in
    let t = bind_ok (integer_at values.1) (λ target. known values.0.at (number_of ids s.0) >>= λ u. known values.1.at (number_of ids target) >>= λ v. Ok (u, v)) p s.2 in
    let u = bind_ok (known values.0.at (number_of ids s.0)) (λ u. known values.1.at (number_of ids t.0) >>= λ v. Ok (u, v)) p t.2 in
    let v = bind_ok (known values.1.at (number_of ids t.0)) (λ v. Ok (u.0, v)) p u.2 in
    let first = known_below values.0.at (number_of ids s.0) (length ids) u.0 (IfSome-lookup_from_All (λ m. m < length ids) (int_eq s.0) ids numbered) u.1 in
    let second = known_below values.1.at (number_of ids t.0) (length ids) v.0 (IfSome-lookup_from_All (λ m. m < length ids) (int_eq t.0) ids numbered) v.1 in
    subst (HasNodes (length ids)) {x = (u.0, v.0)} (ok_is (u.0, v.0) p v.2) (first, second)

-- ---- edges

-- each is an edge of k nodes, and they are no more than a graph may have
pub record AreEdges (k : ℕ) (es : List (ℕ × ℕ)) : Type 0 where
  pub each : All (IsEdge k) es
  pub few : length es ≤ 1000

no_edge : (k : ℕ) → AreEdges k []
no_edge k = record { each = λ i d low. absurd (omega (arith, low)); few = omega arith }

loop_or_edge : (k : ℕ) (edges more : Edges) (p : ℕ × ℕ) (same few : Bool) → (same ≡ false → p.0 ≢ p.1) → (few ≡ true → length edges.ends < 1000) →
    HasNodes k p → AreEdges k edges.ends →
    cond same (Ok (record { ends = edges.ends; loops = edges.loops + 1 })) (cond few (Ok (record { ends = edges.ends ++ p ∷ []; loops = edges.loops })) (Err gml.TooManyEdges)) ≡ Ok more →
    AreEdges k more.ends
loop_or_edge k edges more p true few apart room inside all e =
    subst (λ (x : Edges). AreEdges k x.ends) (ok_is (record { ends = edges.ends; loops = edges.loops + 1 }) more e) all
loop_or_edge k edges more p false true apart room inside all e =
    let longer = length_push edges.ends p in
    let low = room refl in
    subst (λ (x : Edges). AreEdges k x.ends) (ok_is (record { ends = edges.ends ++ p ∷ []; loops = edges.loops }) more e)
    (record { each = All-push (IsEdge k) edges.ends p all.each (inside.0, inside.1, apart refl); few = omega (arith, longer, low) })
loop_or_edge k edges more p false false apart room inside all e = absurd cc

edge_inside : (k : ℕ) (edges more : Edges) (p : ℕ × ℕ) → HasNodes k p → AreEdges k edges.ends → with_edge 1000 edges p ≡ Ok more → AreEdges k more.ends
unfolding with_edge
edge_inside k edges more p inside all e =
    loop_or_edge k edges more p (eqb p.0 p.1) (ltb (length edges.ends) 1000) (λ test is. both_ways (eqb p.0 p.1) test (eq-eqb p.0 p.1 is))
    (ltb-true (length edges.ends) 1000) inside all e

block_inside : (ids : List (ℤ × ℕ)) (edges more : Edges) (block : Pair) → AreNumbered ids → AreEdges (length ids) edges.ends → with_block 1000 ids edges block ≡ Ok more → AreEdges (length ids) more.ends
unfolding with_block
block_inside ids edges more block numbered all e =
    let v = bind_ok (ends_of block) (λ values. nodes_of ids values >>= λ p. with_edge 1000 edges p) more e in
    let p = bind_ok (nodes_of ids v.0) (with_edge 1000 edges) more v.2 in
    edge_inside (length ids) edges more p.0 (ends_inside ids v.0 p.0 numbered p.1) all p.2

edges_inside : (blocks : List Pair) (ids : List (ℤ × ℕ)) (edges more : Edges) → AreNumbered ids → AreEdges (length ids) edges.ends → edges_from 1000 ids edges blocks ≡ Ok more → AreEdges (length ids) more.ends
unfolding edges_from
edges_inside [] ids edges more numbered all e = subst (λ (x : Edges). AreEdges (length ids) x.ends) (ok_is edges more e) all
edges_inside (block ∷ blocks) ids edges more numbered all e =
    let b = bind_ok (with_block 1000 ids edges block) (λ next. edges_from 1000 ids next blocks) more e in
    edges_inside blocks ids b.0 more numbered (block_inside ids edges b.0 block numbered all b.1) b.2

-- ---- the whole

pub limited : (text : List ℕ) (f : Found) → graph_of_text text ≡ Ok f → IsLimitedGraph f.graph
limited text f e =
    let p = parts text f e in
    let numbered = ids_numbered (lists_of key.Node p.list) [] p.ids (λ i d low. absurd (omega (arith, low))) p.ids_are in
    let few = ids_few (lists_of key.Node p.list) [] p.ids (omega arith) p.ids_are in
    let inside = edges_inside (lists_of key.Edge p.list) p.ids no_edges p.edges numbered (no_edge (length p.ids)) p.edges_are in
    subst (λ (x : Found). IsLimitedGraph x.graph) p.made (record {
      is_graph = IsGraph-from_each (length p.ids) p.edges.ends (λ i below. inside.each i (0, 0) below);
      few_nodes = few;
      few_edges = inside.few;
    })

-- there are as many ids as nodes
pub ids_fit : (text : List ℕ) (f : Found) → graph_of_text text ≡ Ok f → length f.ids ≡ f.graph.nodes
ids_fit text f e = subst (λ (x : Found). length x.ids ≡ x.graph.nodes) (parts text f e).made refl
