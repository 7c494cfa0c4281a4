-- Blocks, one after another, and their refusals.
use Rattle.std.proofs.Common.{◌≡◌, ℕ, ℤ, ◌+◌, ◌<◌, ◌≤◌, List, [], ◌∷◌, ◌++◌, length, All, Result, Ok, Err, refl, ap, arith, length-append}
use Rattle.std.proofs.lemmas.Bool.{lt-ltb, le-ltb}
use Rattle.std.proofs.lemmas.List.Elements.{All-push}
use Rattle.std.specs.Map.{values_of}
use Rattle.xn_graph.specs.Limits.{IsEdge, IsLimitedGraph, graph_of}
use Rattle.xn_graph.proofs.Ends.{IsGraph-from_each}
use Rattle.xn_gml.specs.declared.errors.GmlErr.{GmlErr}
use Rattle.xn_gml.specs.declared.errors.GmlErr.TheVariants as errors
use Rattle.xn_gml.specs.declared.pair.Pair.{Pair}
use Rattle.xn_gml.specs.Meaning.{Edges, new_id, ids_from, with_block, edges_from}
use Rattle.xn_gml.specs.Reading.{◌>>=◌, Fails}

-- a refusal that reading gives
pub fails_is : {Y : Type 0} (e : GmlErr) (r : Result Y GmlErr) → r ≡ Err e → Fails e r
fails_is errors.Memory r h = tt
fails_is (errors.Syntax at) r h = h
fails_is (errors.Deep at) r h = h
fails_is errors.NoGraph r h = h
fails_is (errors.SecondGraph at) r h = h
fails_is (errors.NoId at) r h = h
fails_is (errors.Repeated at) r h = h
fails_is (errors.Unknown at) r h = h
fails_is (errors.Range at) r h = h
fails_is errors.TooManyNodes r h = h
fails_is errors.TooManyEdges r h = h

-- a refusal of the first step is one of the whole
pub fails_first : {A B : Type 0} (e : GmlErr) (r : Result A GmlErr) (f : A → Result B GmlErr) → Fails e r → Fails e (r >>= f)
fails_first errors.Memory r f h = tt
fails_first (errors.Syntax at) r f h = ap (λ x. x >>= f) h
fails_first (errors.Deep at) r f h = ap (λ x. x >>= f) h
fails_first errors.NoGraph r f h = ap (λ x. x >>= f) h
fails_first (errors.SecondGraph at) r f h = ap (λ x. x >>= f) h
fails_first (errors.NoId at) r f h = ap (λ x. x >>= f) h
fails_first (errors.Repeated at) r f h = ap (λ x. x >>= f) h
fails_first (errors.Unknown at) r f h = ap (λ x. x >>= f) h
fails_first (errors.Range at) r f h = ap (λ x. x >>= f) h
fails_first errors.TooManyNodes r f h = ap (λ x. x >>= f) h
fails_first errors.TooManyEdges r f h = ap (λ x. x >>= f) h

module _ (ids : List (ℤ × ℕ)) (block : Pair) (blocks : List Pair) where
  -- a block after 1,000 nodes
  pub ids_full : 1000 ≤ length ids → ids_from 1000 ids (block ∷ blocks) ≡ Err errors.TooManyNodes
  unfolding ids_from
  ids_full full = rw (le-ltb (length ids) 1000 full) refl

  -- a node block that is refused
  pub ids_stop : (e : GmlErr) → length ids < 1000 → new_id ids block ≡ Err e → ids_from 1000 ids (block ∷ blocks) ≡ Err e
  unfolding ids_from
  ids_stop e few stop = rw (lt-ltb (length ids) 1000 few, stop) refl

  -- a node more
  pub ids_more : (id : ℤ) → length ids < 1000 → new_id ids block ≡ Ok id → ids_from 1000 ids (block ∷ blocks) ≡ ids_from 1000 (ids ++ (id, length ids) ∷ []) blocks
  unfolding ids_from
  ids_more id few more = rw (lt-ltb (length ids) 1000 few, more) refl

-- no block more
pub ids_done : (ids : List (ℤ × ℕ)) → ids_from 1000 ids [] ≡ Ok ids
unfolding ids_from
ids_done ids = refl

values_push : (ids : List (ℤ × ℕ)) (p : ℤ × ℕ) → values_of (ids ++ p ∷ []) ≡ values_of ids ++ p.1 ∷ []
values_push [] p = refl
values_push (q ∷ ids) p = ap (λ (ns : List ℕ). q.1 ∷ ns) (values_push ids p)

-- numbers stay below how many there are
pub numbered_push : (ids new : List (ℤ × ℕ)) (id : ℤ) (n : ℕ) → n ≡ length ids → new ≡ ids ++ (id, n) ∷ [] →
    All (λ m. m < length ids) (values_of ids) → All (λ m. m < length new) (values_of new)
numbered_push ids new id n count e numbered =
    let more : length new ≡ length ids + 1 = omega (arith, length-append {A = ℤ × ℕ}, ap length e) in
    let all : All (λ m. m < length new) (values_of ids ++ n ∷ []) =
    All-push (λ m. m < length new) (values_of ids) n (λ k d below. omega (arith, numbered k d below)) (omega arith) in
    rw (ap values_of e, values_push ids (id, n)) all

module _ (ids : List (ℤ × ℕ)) (edges : Edges) (block : Pair) (blocks : List Pair) where
  -- an edge block that is refused
  pub edges_stop : (e : GmlErr) → Fails e (with_block 1000 ids edges block) → Fails e (edges_from 1000 ids edges (block ∷ blocks))
  unfolding edges_from
  edges_stop e stop = fails_first e (with_block 1000 ids edges block) (λ more. edges_from 1000 ids more blocks) stop

  -- an edge block more
  pub edges_more : (more : Edges) → with_block 1000 ids edges block ≡ Ok more → edges_from 1000 ids edges (block ∷ blocks) ≡ edges_from 1000 ids more blocks
  unfolding edges_from
  edges_more more e = rw e refl

-- no block more
pub edges_done : (ids : List (ℤ × ℕ)) (edges : Edges) → edges_from 1000 ids edges [] ≡ Ok edges
unfolding edges_from
edges_done ids edges = refl

-- few edges of few nodes are a graph within the limits
pub limited : (nodes : ℕ) (ends : List (ℕ × ℕ)) → nodes ≤ 1000 → length ends ≤ 1000 → All (IsEdge nodes) ends → IsLimitedGraph (graph_of nodes ends)
limited nodes ends few_nodes few_edges inside = record {
  is_graph = IsGraph-from_each nodes ends (λ e below. inside e (0, 0) below);
  few_nodes = few_nodes;
  few_edges = few_edges;
}
