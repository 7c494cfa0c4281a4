-- The graph of a text.
use Rattle.std.specs.Prelude.{ℕ, ℤ, ◌+◌, ◌==◌, nat_lt, List, [], ◌∷◌, ◌++◌, length, Option, None, Some, is_some, Result, Ok, Err, if◌then◌else◌}
use Rattle.std.specs.Map.{lookup}
use Rattle.std.specs.Ordering.{int_eq}
use Rattle.xn_model.specs.Graph.{Graph}
use Rattle.xn_graph.specs.Limits.{graph_of}
use Rattle.xn_gml.specs.declared.errors.GmlErr.{GmlErr}
use Rattle.xn_gml.specs.declared.errors.GmlErr.TheVariants.{NoGraph, SecondGraph, NoId, Repeated, Unknown, Range, TooManyNodes, TooManyEdges}
use Rattle.xn_gml.specs.declared.pair.Pair.{Pair}
use Rattle.xn_gml.specs.declared.token.Key.{Key}
use Rattle.xn_gml.specs.declared.token.Key.TheVariants as key
use Rattle.xn_gml.specs.declared.token.Kind.{Kind}
use Rattle.xn_gml.specs.declared.token.Kind.TheVariants.{Number}
use Rattle.xn_gml.specs.declared.token.Token.{Token}
use Rattle.xn_gml.specs.Grammar.{grammar_of}
use Rattle.xn_gml.specs.Lists.{first_of, lists_of}
use Rattle.xn_gml.specs.Reading.{◌>>=◌}
use Rattle.xn_gml.specs.Tokens.{tokens_of}

-- the list of the one graph
abbrev pub one_of : List Pair → Result (List Token) GmlErr
one_of [] = Err NoGraph
one_of (g ∷ []) = Ok g.list
one_of (g ∷ second ∷ others) = Err (SecondGraph second.at)

-- ---- values

-- a value that a block must have; the block's `[` stands at an offset
abbrev pub required : ℕ → Option Token → Result Token GmlErr
required at None = Err (NoId at)
required at (Some value) = Ok value

-- the first value of this key in a block
unfoldable pub value_in : Key → Pair → Result Token GmlErr
value_in key block = required block.value.at (first_of key block.list)

-- the integer that a token is
abbrev pub fitting : ℕ → Option ℤ → Result ℤ GmlErr
fitting at (Some n) = Ok n
fitting at None = Err (Range at)

abbrev pub integer_by : ℕ → Kind → Result ℤ GmlErr
integer_by at (Number value) = fitting at value
integer_by at kind = Err (Range at)

unfoldable pub integer_at : Token → Result ℤ GmlErr
integer_at value = integer_by value.at value.kind

-- ---- nodes

-- the number of the node with an id, where there is one
abbrev pub number_of : List (ℤ × ℕ) → ℤ → Option ℕ
number_of ids id = lookup (int_eq id) ids

-- the id of a node block that follows these ids
unfoldable pub new_id : List (ℤ × ℕ) → Pair → Result ℤ GmlErr
new_id ids block = do
  value ← value_in key.Id block
  id ← integer_at value
  if is_some (number_of ids id) then Err (Repeated value.at) else Ok id

-- these ids, and those of node blocks, numbered in order; so many at most
unfoldable pub ids_from : ℕ → List (ℤ × ℕ) → List Pair → Result (List (ℤ × ℕ)) GmlErr
ids_from most ids [] = Ok ids
ids_from most ids (block ∷ blocks) = do
  id ← if nat_lt (length ids) most then new_id ids block else Err TooManyNodes
  ids_from most (ids ++ (id, length ids) ∷ []) blocks

-- ---- edges

abbrev pub known : ℕ → Option ℕ → Result ℕ GmlErr
known at (Some n) = Ok n
known at None = Err (Unknown at)

-- the source and the target of an edge block
unfoldable pub values_of : Pair → Result (Token × Token) GmlErr
values_of block = do
  source ← value_in key.Source block
  target ← value_in key.Target block
  Ok (source, target)

-- the nodes that the two values name
unfoldable pub nodes_of : List (ℤ × ℕ) → Token × Token → Result (ℕ × ℕ) GmlErr
nodes_of ids ends = do
  source ← integer_at ends.0
  target ← integer_at ends.1
  u ← known ends.0.at (number_of ids source)
  v ← known ends.1.at (number_of ids target)
  Ok (u, v)

-- edges, and how many loops were left aside
pub record Edges : Type 0 where
  pub ends : List (ℕ × ℕ)
  pub loops : ℕ

-- one edge more, or one loop; so many edges at most
unfoldable pub with_edge : ℕ → Edges → ℕ × ℕ → Result Edges GmlErr
with_edge most edges e =
    if e.0 == e.1 then Ok (record { ends = edges.ends; loops = edges.loops + 1 }) else
    (if nat_lt (length edges.ends) most then Ok (record { ends = edges.ends ++ e ∷ []; loops = edges.loops }) else Err TooManyEdges)

-- these edges, and those of an edge block
unfoldable pub with_block : ℕ → List (ℤ × ℕ) → Edges → Pair → Result Edges GmlErr
with_block most ids edges block = do
  values ← values_of block
  e ← nodes_of ids values
  with_edge most edges e

-- these edges, and those of edge blocks
unfoldable pub edges_from : ℕ → List (ℤ × ℕ) → Edges → List Pair → Result Edges GmlErr
edges_from most ids edges [] = Ok edges
edges_from most ids edges (block ∷ blocks) = do
  more ← with_block most ids edges block
  edges_from most ids more blocks

abbrev pub no_edges : Edges
no_edges = record { ends = []; loops = 0 }

-- ---- the whole

-- a graph, the number of the node of each id, and how many loops were left aside
pub record Found : Type 0 where
  pub graph : Graph
  pub ids : List (ℤ × ℕ)
  pub loops : ℕ

abbrev pub found : List (ℤ × ℕ) → Edges → Found
found ids edges = record { graph = graph_of (length ids) edges.ends; ids = ids; loops = edges.loops }

-- the graph of a list, with at most so many nodes, and at most so many edges
unfoldable pub graph_in : ℕ → List Token → Result Found GmlErr
graph_in most list = do
  ids ← ids_from most [] (lists_of key.Node list)
  edges ← edges_from most ids no_edges (lists_of key.Edge list)
  Ok (found ids edges)

-- the list of the graph of a text, where the text keeps the grammar
unfoldable pub list_of : List ℕ → Result (List Token) GmlErr
list_of text = do
  kept ← grammar_of text
  one_of (lists_of key.Graph (tokens_of text))

-- the graph of a text, or its first refusal, with at most so many nodes, and at most so many edges
unfoldable pub graph_within : ℕ → List ℕ → Result Found GmlErr
graph_within most text = do
  list ← list_of text
  graph_in most list

-- the graph of a text, or its first refusal
abbrev pub graph_of_text : List ℕ → Result Found GmlErr
graph_of_text text = graph_within 1000 text
