-- What the text that shows a drawing means.
use Rattle.std.specs.Prelude.{◌≡◌, ℕ, ℤ, pos, ◌≤◌, All, FitsSigned, List, length, map, Ok}
use Rattle.std.specs.Int.{w64}
use Rattle.std.specs.List.{range_with_len}
use Rattle.xn_model.specs.Drawing.{IsListedDrawing, drawn_web}
use Rattle.xn_model.specs.Graph.{Graph}
use Rattle.xn_model.specs.Map.{IsMap}
use Rattle.xn_graph.specs.Limits.{IsLimitedGraph}
use Rattle.xn_gml.specs.Meaning.{Found, graph_within}
use Rattle.xn_kinds.specs.declared.drawings.Drawing.{Drawing}
use Rattle.xn_show.specs.Text.{show_text}
use Rattle.xn_show.specs.Turns.{HasDartsOnce, turn_of}

-- the nodes, each with its number as its id
abbrev pub numbered : ℕ → List (ℤ × ℕ)
numbered nodes = map (λ v. (pos v, v)) (range_with_len 0 nodes)

-- a web, read from a text in which each node has its number as its id, with no loop left aside
abbrev pub found_web : Graph → Found
found_web web = record { graph = web; ids = numbered web.nodes; loops = 0 }

-- with room for its nodes and segments, the graph of the text is the web of the drawing
abbrev pub GraphIsWeb : Type 0
GraphIsWeb =
    (g : Graph) (ids : List ℤ) (d : Drawing) (most : ℕ) → IsLimitedGraph g → All (FitsSigned w64) ids →
    IsListedDrawing g d.orders d.next → (drawn_web g d.orders).nodes ≤ most → length (drawn_web g d.orders).ends ≤ most →
    graph_within most (show_text g ids d) ≡ Ok (found_web (drawn_web g d.orders))

-- in a map the turn of a node has each of its darts, once, and the least one first
abbrev pub TurnsGoRound : Type 0
TurnsGoRound =
    (nodes : ℕ) (ends : List (ℕ × ℕ)) (next : ℕ → ℕ) (v : ℕ) → IsMap nodes ends next → HasDartsOnce ends v (turn_of ends next v)
