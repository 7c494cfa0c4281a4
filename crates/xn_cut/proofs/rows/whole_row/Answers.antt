use Rattle.std.proofs.Common.{List, ℕ, length, ◌∙◌, ap, sym}
use Rattle.std.proofs.lemmas.List.FromFn.{length-range_with_len}
use Rattle.xn_cut.proofs.Answered.{whole_answer, whole_orders}
use Rattle.xn_cut.proofs.rows.whole_row.Goals as goal

pub judged-requires-clause-lists : goal.judged-requires-clause-lists
judged-requires-clause-lists c =
    ap (length {A = List ℕ}) c.in_ok-lists.ensures ∙ c.requires.lists
    ∙ sym (ap (length {A = ℕ}) c.in_ok-edges.ensures ∙ length-range_with_len 0 (length c.args.graph.now.ends))

pub judged-requires-clause-orders : goal.judged-requires-clause-orders
judged-requires-clause-orders c =
    whole_orders c.args.graph.now c.args.orders.now c.in_ok-edges.edges.items c.in_ok-lists.lists c.requires.orders c.in_ok-edges.ensures c.in_ok-lists.ensures

pub returns : goal.returns
returns c =
    whole_answer c.args.graph.now c.args.orders.now c.requires.orders c.in_ok-edges.edges.items c.in_ok-lists.lists c.in_ok-edges.ensures c.in_ok-lists.ensures c.in_ok-found.found c.in_ok-found.ensures
