-- Drawings and simple drawings have the same bounds.
use Rattle.std.specs.Prelude.{◌↔◌, ℕ}
use Rattle.xn_model.specs.Drawing.{HasDrawingWith, HasSimpleDrawingWith, IsAtLeast, IsAtMost, IsSimplyAtLeast, IsSimplyAtMost}
use Rattle.xn_model.specs.Graph.{Graph, IsGraph}

-- a simple drawing is a drawing, with as many crossings
abbrev pub SimpleDrawingsAreDrawings : Type 0
SimpleDrawingsAreDrawings = (g : Graph) (c : ℕ) → IsGraph g → HasSimpleDrawingWith g c → HasDrawingWith g c

-- every drawing gives a simple one with no more crossings
abbrev pub DrawingsGiveSimpleOnes : Type 0
DrawingsGiveSimpleOnes = (g : Graph) (c : ℕ) → HasDrawingWith g c → IsSimplyAtMost g c

-- so what bounds the simple drawings from below bounds all
abbrev pub LeastIsOfAllDrawings : Type 0
LeastIsOfAllDrawings = (g : Graph) (k : ℕ) → IsGraph g → IsSimplyAtLeast g k ↔ IsAtLeast g k

-- and some drawing has at most k crossings exactly where some simple one has
abbrev pub MostIsOfAllDrawings : Type 0
MostIsOfAllDrawings = (g : Graph) (k : ℕ) → IsGraph g → IsSimplyAtMost g k ↔ IsAtMost g k
