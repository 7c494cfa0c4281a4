use Rattle.std.proofs.Common.{◌∙◌, ℕ, ap, length, sym}
use Rattle.std.proofs.lemmas.List.FromFn.{length-range_with_len}
use Rattle.xn_solve.proofs.answering.crossings.Goals as goal

pub planarise-requires-clause-lists : goal.planarise-requires-clause-lists
planarise-requires-clause-lists c =
    c.requires.lists_fit
    ∙ sym (ap (length {A = ℕ}) (c.as_slice.ensures.value ∙ c.in_ok-edges.ensures) ∙ length-range_with_len 0 (length c.args.graph.now.ends))
