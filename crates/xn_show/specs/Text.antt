-- The text that shows a drawing, line by line.
use Rattle.std.specs.Prelude.{ℕ, ℤ, pos, suc, List, ◌++◌, length, map, nat_lt, replicate, slice_index_or, if◌then◌else◌, decimal, codes}
use Rattle.std.specs.Fmt.{signed_decimal}
use Rattle.std.specs.List.{flat_map, join_with_byte, range_with_len}
use Rattle.xn_model.specs.Drawing.{drawn_web, order_of}
use Rattle.xn_model.specs.Graph.{Graph, edges_of, ends_at}
use Rattle.xn_model.specs.Lists.{at}
use Rattle.xn_kinds.specs.declared.drawings.Drawing.{Drawing}
use Rattle.xn_show.specs.Turns.{turn_of}

-- numbers, each in its one spelling, with one space between each two
abbrev pub spaced : List ℕ → List ℕ
spaced numbers = join_with_byte 32 (map decimal numbers)

-- what the line of a node of the graph says of it
abbrev pub input_text : ℤ → List ℕ
input_text id = codes " label \"" ++ (signed_decimal id ++ codes "\" kind \"input\"")

-- what the line of a crossing says of it
abbrev pub crossing_text : List ℕ
crossing_text = codes " kind \"crossing\""

-- what the line of a node says of it: the first nodes have ids, and the others are crossings
abbrev pub kind_text : List ℤ → ℕ → List ℕ
kind_text ids v = if nat_lt v (length ids) then input_text (slice_index_or ids v (pos 0)) else crossing_text

-- the end of the line of a node
abbrev pub turn_text : List ℕ → List ℕ
turn_text darts = codes " turn \"" ++ (spaced darts ++ codes "\" ]\n")

-- the line of a node with these darts
abbrev pub node_line : List ℤ → ℕ → List ℕ → List ℕ
node_line ids v darts = codes "  node [ id " ++ (decimal v ++ (kind_text ids v ++ turn_text darts))

-- the line of a segment, a part of the edge e
abbrev pub segment_line : ℕ → ℕ × ℕ → ℕ → List ℕ
segment_line s ends e =
    codes "  edge [ id " ++ (decimal s
    ++ (codes " source " ++ (decimal ends.0
    ++ (codes " target " ++ (decimal ends.1
    ++ (codes " of " ++ (decimal e ++ codes " ]\n")))))))

-- the lines of the nodes of a web, in order
abbrev pub nodes_text : List ℤ → Graph → (ℕ → ℕ) → List ℕ
nodes_text ids web next = flat_map (λ v. node_line ids v (turn_of web.ends next v)) (range_with_len 0 web.nodes)

-- the lines of the segments of a web, in order; of is the edge of each
abbrev pub segments_text : List (ℕ × ℕ) → List ℕ → List ℕ
segments_text ends of = flat_map (λ s. segment_line s (ends_at ends s) (at of s)) (range_with_len 0 (length ends))

-- the edge of each segment: each edge in turn has one segment more than crossings
abbrev pub segment_edges : List ℕ → (ℕ → List ℕ) → List ℕ
segment_edges edges ord = flat_map (λ e. replicate (suc (length (ord e))) e) edges

-- the text that shows a drawing of a graph whose nodes have these ids
abbrev pub show_text : Graph → List ℤ → Drawing → List ℕ
show_text g ids d =
    codes "graph [\n  directed 0\n"
    ++ (nodes_text ids (drawn_web g d.orders) (at d.next)
    ++ (segments_text (drawn_web g d.orders).ends (segment_edges (edges_of g) (order_of g d.orders)) ++ codes "]\n"))
