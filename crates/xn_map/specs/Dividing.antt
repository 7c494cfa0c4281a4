-- What it leaves to put a new node on a segment.
use Rattle.std.specs.Prelude.{◌≡◌, ℕ, ◌+◌, [], ◌∷◌, ◌++◌, set}
use Rattle.xn_model.specs.Graph.{Graph, ends_at}
use Rattle.xn_model.specs.Lists.{at}
use Rattle.xn_graph.specs.Limits.{graph_of}
use Rattle.xn_surgery.specs.Subdivision.{IsSubdivision}
use Rattle.xn_map.specs.Listed.{ListedMap}

-- the web in which s leads to a new node, and one segment more from there to where s led
abbrev pub divided : Graph → ℕ → Graph
divided web s =
    let p = ends_at web.ends s in
    graph_of (web.nodes + 1) (set web.ends s (p.0, web.nodes) ++ (web.nodes, p.1) ∷ [])

-- one node more, the last, on the segment s, whose second part is the last segment
abbrev pub Subdivides : ListedMap → ℕ → ListedMap → Type 0
Subdivides old s new =
    (new.web.nodes ≡ old.web.nodes + 1)
    × IsSubdivision old.web.nodes old.web.ends (at old.next) s new.web.ends (at new.next)
