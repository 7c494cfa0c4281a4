-- Drawings without crossings.
use Rattle.std.specs.Prelude.{◌↔◌}
use Rattle.xn_model.specs.Drawing.{HasDrawingWith}
use Rattle.xn_model.specs.Graph.{Graph, IsGraph}
use Rattle.xn_fewer.specs.Flat.{HasFlat}

-- a graph has one exactly where it has a flat map
abbrev pub FlatWhereCrossless : Type 0
FlatWhereCrossless = (g : Graph) → IsGraph g → HasDrawingWith g 0 ↔ HasFlat g.nodes g.ends
