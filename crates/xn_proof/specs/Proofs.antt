-- The lines after `drawn`: rows, the tree, and the end.
use Rattle.std.specs.Prelude.{ℕ, zero, suc, ◌==◌, List, [], ◌∷◌, length, map, Option, Some, None, Result, Ok, Err, if◌then◌else◌, codes}
use Rattle.xn_kinds.specs.declared.answers.Answer.{Answer}
use Rattle.xn_kinds.specs.declared.flaws.Flaw.{Flaw}
use Rattle.xn_kinds.specs.declared.rows.Evidence.{Evidence}
use Rattle.xn_kinds.specs.declared.rows.Evidence.TheVariants.{Five, ThreeThree, Extension}
use Rattle.xn_kinds.specs.declared.rows.Row.{Row}
use Rattle.xn_kinds.specs.declared.trees.Node.{Node}
use Rattle.xn_kinds.specs.declared.trees.Node.TheVariants.{Pair, Place, Leaf}
use Rattle.xn_text.specs.Pieces.{words_of}
use Rattle.xn_proof.specs.Fronts.{front_at}
use Rattle.xn_proof.specs.Ranges.{edges_form, leaf_form, list_form, no_form, nodes_form, one_form, over_form}
use Rattle.xn_proof.specs.Reading.{◌>>=◌, Left, form_at, has_key, keyed_form, line_at, many_at, syntax, trailing}
use Rattle.xn_proof.specs.declared.evidence.Start.{Start}
use Rattle.xn_proof.specs.declared.evidence.Start.TheVariants as start

-- an edge of a row, and those that cross it, along it
abbrev pub over_at : ℕ → Left → Result ((ℕ × List ℕ) × Left) Flaw
over_at j s = form_at (codes "over") over_form s

-- the segments of a path
abbrev pub path_at : ℕ → Left → Result (List ℕ × Left) Flaw
path_at j s = form_at (codes "path") (list_form 1000000) s

abbrev pub five_of : ℕ → List (List ℕ) → Result Start Flaw
five_of i words = keyed_form (codes "five") (nodes_form 5) i words >>= λ branch. Ok (start.Five branch)

abbrev pub three_of : ℕ → List (List ℕ) → Result Start Flaw
three_of i words = keyed_form (codes "three") (nodes_form 6) i words >>= λ branch. Ok (start.ThreeThree branch)

abbrev pub extension_of : ℕ → List (List ℕ) → Result Start Flaw
extension_of i words = keyed_form (codes "extension") (list_form 1000000) i words >>= λ list. Ok (start.Extension list)

-- how an evidence begins: five or six branch nodes, or a list of segments
unfoldable pub start_of : ℕ → List (List ℕ) → Result Start Flaw
start_of i words =
    if has_key (codes "five") words then five_of i words
    else if has_key (codes "three") words then three_of i words
    else extension_of i words

-- the rest of an evidence that begins so
abbrev pub paths_of : Start → Left → Result (Evidence × Left) Flaw
paths_of (start.Five branch) s = many_at path_at 0 10 s >>= λ paths. Ok (Five branch paths.0, paths.1)
paths_of (start.ThreeThree branch) s = many_at path_at 0 9 s >>= λ paths. Ok (ThreeThree branch paths.0, paths.1)
paths_of (start.Extension list) s = Ok (Extension list, s)

unfoldable pub evidence_at : Left → Result (Evidence × Left) Flaw
evidence_at s = do
  line ← line_at s
  start ← start_of line.0.0 (words_of line.0.1)
  paths_of start line.1

-- the edges of a row, and for each those that cross it, along it
unfoldable pub overs_at : ℕ → Left → Result ((List ℕ × List (List ℕ)) × Left) Flaw
overs_at count s = do
  over ← many_at over_at 0 count s
  Ok ((map (λ o. o.0) over.0, map (λ o. o.1) over.0), over.1)

-- a row of a graph of m edges
unfoldable pub row_at : ℕ → ℕ → Left → Result (Row × Left) Flaw
row_at m j s = do
  count ← form_at (codes "row") (one_form m) s
  over ← overs_at count.0 count.1
  evidence ← evidence_at over.1
  Ok (record { edges = over.0.0; orders = over.0.1; evidence = evidence.0 }, evidence.1)

abbrev pub pair_of : ℕ → ℕ → List (List ℕ) → Result (Option Node) Flaw
pair_of m i words = keyed_form (codes "pair") (edges_form m) i words >>= λ p. Ok (Some (Pair p.0 p.1))

abbrev pub place_of : ℕ → ℕ → List (List ℕ) → Result (Option Node) Flaw
place_of m i words = keyed_form (codes "place") (edges_form m) i words >>= λ p. Ok (Some (Place p.0 p.1))

abbrev pub leaf_of : ℕ → ℕ → List (List ℕ) → Result (Option Node) Flaw
leaf_of rows i words = keyed_form (codes "leaf") (leaf_form rows) i words >>= λ l. Ok (Some (Leaf l.0 l.1))

abbrev pub end_of : ℕ → List (List ℕ) → Result (Option Node) Flaw
end_of i words = keyed_form (codes "end") no_form i words >>= λ u. Ok None

-- a node of a tree over m edges and so many rows, or none at the end
unfoldable pub node_of : ℕ → ℕ → ℕ → List (List ℕ) → Result (Option Node) Flaw
node_of m rows i words =
    if has_key (codes "pair") words then pair_of m i words
    else if has_key (codes "place") words then place_of m i words
    else if has_key (codes "leaf") words then leaf_of rows i words
    else end_of i words

-- a node in front of the rest, or no node and no rest
abbrev pub after_node : Option Node → Left → Result (List Node × Left) Flaw → Result (List Node × Left) Flaw
after_node None s rest = Ok ([], s)
after_node (Some node) s rest = rest >>= λ nodes. Ok (node ∷ nodes.0, nodes.1)

-- the nodes up to the line `end`; there are no more lines than bytes, of which there are at most k
unfoldable pub nodes_at : ℕ → ℕ → ℕ → Left → Result (List Node × Left) Flaw
nodes_at m rows zero s = Err (syntax s.0)
nodes_at m rows (suc k) s = do
  line ← line_at s
  node ← node_of m rows line.0.0 (words_of line.0.1)
  after_node node line.1 (nodes_at m rows k line.1)

-- nothing stands behind the end
abbrev pub nothing_at : Left → Result (Unit {0}) Flaw
nothing_at s = if length s.1 == 0 then Ok tt else Err (trailing s.0)

-- the rows and the tree of a graph of m edges
unfoldable pub proof_at : ℕ → Left → Result (List Row × List Node) Flaw
proof_at m s = do
  count ← form_at (codes "rows") (one_form 1048576) s
  rows ← many_at (row_at m) 0 count.0 count.1
  tree ← form_at (codes "tree") no_form rows.1
  nodes ← nodes_at m count.0 (length tree.1.1) tree.1
  nothing ← nothing_at nodes.1
  Ok (rows.0, nodes.0)

-- what a text says, or the first of its lines that fails
unfoldable pub answer_of : List ℕ → Result Answer Flaw
answer_of text = do
  front ← front_at (1, text)
  proof ← proof_at (length front.0.graph.ends) front.1
  Ok (record {
    graph = front.0.graph;
    loops = front.0.loops;
    lower = front.0.lower;
    upper = front.0.upper;
    spent = front.0.spent;
    budget = front.0.budget;
    drawing = front.0.drawing;
    rows = proof.0;
    tree = proof.1;
  })
