use Rattle.std.proofs.Common.{◌∙◌, ap, arith, length, sym, Err}
use Rattle.std.proofs.lemmas.List.FromFn.{length-range_with_len}
use Rattle.xn_model.specs.Orders.{order_at}
use Rattle.xn_model.specs.Web.{web_of}
use Rattle.xn_draw.proofs.Totals.{segment_count}
use Rattle.xn_draw.proofs.examining.map_of.Goals as goal

pub planarise-requires-clause-lists : goal.planarise-requires-clause-lists
planarise-requires-clause-lists c =
    c.requires.orders.lengths.lists_fit ∙ sym (ap length c.requires.edges ∙ length-range_with_len 0 (length c.args.graph.now.ends))

pub returns-in-Err-Length-clause-map : goal.returns-in-Err-Length-clause-map
returns-in-Err-Length-clause-map c lengths =
    let g = c.args.graph.now in
    let lists = c.args.drawing.now.orders in
    let web = c.in_ok-web.ensures.web ∙ ap (λ es. web_of g es (order_at es lists)) c.requires.edges in
    let differ = c.in-Err-Length.ensures.length.0 (ap Err c.in-Err-Length.field-0-is) in
    let segments = ap (λ w. length w.ends) web ∙ segment_count g lists c.requires.orders.lengths.lists_fit in
    differ (omega (arith, ap length c.as_slice.ensures, segments, c.requires.orders.lengths.next_fits))

pub returns-in-Err-Rotation-clause-map : goal.returns-in-Err-Rotation-clause-map
returns-in-Err-Rotation-clause-map c =
    let g = c.args.graph.now in
    let lists = c.args.drawing.now.orders in
    let web = c.in_ok-web.ensures.web ∙ ap (λ es. web_of g es (order_at es lists)) c.requires.edges in
    let flaw = (c.in-Err-Rotation.ensures.rotation c.in-Err-Rotation.d (ap Err c.in-Err-Rotation.field-0-is)).1 in
    (c.requires.orders, rw (web, c.as_slice.ensures) at flaw)
