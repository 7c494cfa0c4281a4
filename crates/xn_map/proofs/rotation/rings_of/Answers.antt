use Rattle.std.proofs.Common.{length, ap, ◌∙◌}
use Rattle.std.proofs.lemmas.List.FromFn.{length-range_with_len}
use Rattle.xn_map.proofs.rotation.rings_of.Goals as goal

pub link-requires-clause-same_length : goal.link-requires-clause-same_length
link-requires-clause-same_length c = ap length c.in_ok-rings.ensures ∙ length-range_with_len 0 (length c.args.next.now)
