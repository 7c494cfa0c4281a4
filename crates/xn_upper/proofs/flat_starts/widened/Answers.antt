use Rattle.std.proofs.Common.{List, Option, ℕ, length, sym, ◌∙◌, ap, subst, arith}
use Rattle.std.specs.Prelude.{IfSome}
use Rattle.xn_model.specs.Orders.{IsEdgeList}
use Rattle.xn_components.specs.Listing.{IsFlatMapOf}
use Rattle.xn_map.specs.Listed.{ListedMap}
use Rattle.xn_map.specs.Marks.{is_marked}
use Rattle.xn_upper.specs.Upper.{bare_web}
use Rattle.xn_upper.proofs.Bare.{as_long, edge_list-filter}
use Rattle.xn_upper.proofs.flat_starts.widened.Goals as goal

pub flat_map_of-requires : goal.flat_map_of-requires
flat_map_of-requires c =
    let n = length c.args.graph.now.ends in
    subst (IsEdgeList n) (sym (c.deref-3.ensures.value ∙ c.in_ok-edges.ensures)) (edge_list-filter n (is_marked c.deref-2.result.now))

pub returns-in-Some : goal.returns-in-Some
returns-in-Some c =
    let g = c.args.graph.now in
    let n = length g.ends in
    let map = c.in-Some.map in
    let found = subst (λ (o : Option ListedMap). IfSome o (IsFlatMapOf (bare_web g c.deref-3.result.now))) c.in-Some.is c.in_ok-map.ensures in
    let read = ap length c.deref.ensures.value in
    let copied = ap length c.in_ok-marks.ensures.items in
    let lent = ap length c.as_mut_slice.ensures.value in
    let fits = c.requires.fits in
    record {
      fits = as_long c.in_ok-marks.marks.len n c.set_each.new.marks c.in_ok-marks.marks.items (omega (arith, c.in_ok-marks.marks.ok.0, read, copied, fits)) (omega (arith, read, copied, fits))
          (omega (arith, c.set_each.ensures, read, copied, lent, fits));
      edge_list = subst (IsEdgeList n) (sym c.in_ok-edges.ensures) (edge_list-filter n (is_marked c.deref-2.result.now));
      flat = subst (λ (es : List ℕ). IsFlatMapOf (bare_web g es) map) c.deref-3.ensures.value found;
    }
