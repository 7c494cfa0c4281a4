use Rattle.std.proofs.Common.{◌∙◌, ap, length, sym}
use Rattle.std.proofs.lemmas.List.FromFn.{length-range_with_len}
use Rattle.xn_show.proofs.text.drawn_web.Goals as goal

pub planarise-requires-clause-lists : goal.planarise-requires-clause-lists
planarise-requires-clause-lists c =
    c.requires.lists_fit ∙ sym (ap length (c.deref.ensures.value ∙ c.in_ok-edges.ensures) ∙ length-range_with_len 0 (length c.args.graph.now.ends))

pub planarise-requires-clause-orders : goal.planarise-requires-clause-orders
planarise-requires-clause-orders c = rw (c.deref.ensures.value, c.in_ok-edges.ensures) c.requires.drawing.orders

pub returns : goal.returns
returns c = rw (c.deref.ensures.value, c.in_ok-edges.ensures) at c.planarise.ensures.web
