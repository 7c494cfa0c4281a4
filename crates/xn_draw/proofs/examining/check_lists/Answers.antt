use Rattle.std.proofs.Common.{◌∙◌, ap, length, refl, sym}
use Rattle.std.specs.Prelude.{None, Some}
use Rattle.std.proofs.lemmas.List.FromFn.{length-range_with_len}
use Rattle.xn_model.specs.Graph.{edges_of}
use Rattle.xn_model.proofs.Ranges.{edge_list}
use Rattle.xn_orders.specs.declared.flaws.OrdersFlaw.TheVariants.{Dependent}
use Rattle.xn_orders.proofs.Flawed.{found_of_copy}
use Rattle.xn_draw.proofs.examining.check_lists.Goals as goal

pub orders_flaw-requires-clause-lists : goal.orders_flaw-requires-clause-lists
orders_flaw-requires-clause-lists c =
    let lengths = (rw c.as_slice.ensures at c.if-not-has_lengths.ensures).0 refl in
    lengths.lists_fit ∙ sym (ap length c.requires ∙ length-range_with_len 0 (length c.args.graph.now.ends))

pub orders_flaw-requires-clause-edges : goal.orders_flaw-requires-clause-edges
orders_flaw-requires-clause-edges c = rw c.requires (edge_list (length c.args.graph.now.ends))

pub returns-in-None : goal.returns-in-None
returns-in-None c =
    let g = c.args.graph.now in
    let lengths = (rw c.as_slice.ensures at c.if-not-has_lengths.ensures).0 refl in
    record {
      lengths = lengths;
      orders = found_of_copy g.ends c.args.drawing.now.orders c.args.edges.now (edges_of g) c.requires _ None c.in-None.is c.in_ok-orders_flaw.ensures;
    }

pub returns-in-Some-Stray : goal.returns-in-Some-Stray
returns-in-Some-Stray c =
    let g = c.args.graph.now in
    let lengths = (rw c.as_slice.ensures at c.if-not-has_lengths.ensures).0 refl in
    let is = c.in-Some-Stray.is ∙ ap Some c.in-Some-Stray.field-0-is in
    (lengths, found_of_copy g.ends c.args.drawing.now.orders c.args.edges.now (edges_of g) c.requires _ _ is c.in_ok-orders_flaw.ensures)

pub returns-in-Some-Dependent : goal.returns-in-Some-Dependent
returns-in-Some-Dependent c =
    let g = c.args.graph.now in
    let lengths = (rw c.as_slice.ensures at c.if-not-has_lengths.ensures).0 refl in
    let is = c.in-Some-Dependent.is ∙ ap Some c.in-Some-Dependent.field-0-is in
    let flaw = found_of_copy g.ends c.args.drawing.now.orders c.args.edges.now (edges_of g) c.requires _ (Some (Dependent c.in-Some-Dependent.e c.in-Some-Dependent.f)) is c.in_ok-orders_flaw.ensures in
    (record { lengths = lengths; order = flaw.0 }, flaw.1)
