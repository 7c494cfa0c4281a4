use Rattle.std.proofs.Common.{◌≡◌, ◌∙◌, length, ap, arith}
use Rattle.xn_kura.proofs.UsedPaths.{used_in}
use Rattle.xn_kura.proofs.evidence.judge.Goals as goal

pub repeated_segment-requires-clause-within : goal.repeated_segment-requires-clause-within
repeated_segment-requires-clause-within c s used =
    let s_in = used_in c.args.web.now.ends c.args.branch.now c.args.pairs.now c.args.paths.now c.in_ok-lead.ensures.ok s used in
    let sized : length c.as_mut_slice.result.now ≡ length c.args.web.now.ends = ap length c.as_mut_slice.ensures.value ∙ ap (λ p. p.1) c.marks.view_is ∙ ap (λ p. p.1) c.requires.sized in
    omega (arith, s_in, sized)
