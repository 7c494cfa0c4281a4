-- Bounds of the simple drawings are bounds of all.
use Rattle.std.proofs.Common.{subst, arith}
use Rattle.xn_model.specs.Drawing.{HasDrawingWith}
use Rattle.xn_model.specs.Graph.{edges_of}
use Rattle.xn_track.proofs.Simplify.{loose_drawings_give_simple_ones}
use Rattle.xn_general.specs.Bounds.{DrawingsGiveSimpleOnes, LeastIsOfAllDrawings, MostIsOfAllDrawings, SimpleDrawingsAreDrawings}
use Rattle.xn_general.proofs.Webs.{drawings_are_loose}

pub simple_drawings_are_drawings : SimpleDrawingsAreDrawings
simple_drawings_are_drawings g c is_graph d =
    let drawing = d.2 in
    let loose = drawings_are_loose g (edges_of g) d.0 d.1 is_graph (record { orders = drawing.orders; is_flat_map = drawing.is_flat_map; crosses = drawing.crosses }) in
    subst (HasDrawingWith g) d.3 (_, d.1, _, loose)

pub drawings_give_simple_ones : DrawingsGiveSimpleOnes
drawings_give_simple_ones g c d = loose_drawings_give_simple_ones g c d.0 d.1 d.2 d.3

pub least_is_of_all_drawings : LeastIsOfAllDrawings
least_is_of_all_drawings g k is_graph = (
  λ least c d.
      let simple = drawings_give_simple_ones g c d in
      let low = least simple.0 simple.1 in
      let few = simple.2 in
      omega (arith, low, few),
  λ least c d. least c (simple_drawings_are_drawings g c is_graph d),
)

pub most_is_of_all_drawings : MostIsOfAllDrawings
most_is_of_all_drawings g k is_graph = (
  λ most. (most.0, simple_drawings_are_drawings g most.0 is_graph most.1, most.2),
  λ most.
      let simple = drawings_give_simple_ones g most.0 most.1 in
      let few = simple.2 in
      let less = most.2 in
      (simple.0, simple.1, omega (arith, few, less)),
)
