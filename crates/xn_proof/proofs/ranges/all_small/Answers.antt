use Rattle.std.proofs.Common.{◌-◌, ◌^◌}
use Rattle.std.proofs.lemmas.Result.{err_from_is_err_and}
use Rattle.xn_proof.specs.Ranges.{at_most, small_of}
use Rattle.xn_proof.proofs.Tested.{each_ends, each_fails, each_leads, small_is}
use Rattle.xn_proof.proofs.ranges.all_small.Goals as goal

pub returns-in_err-small : goal.returns-in_err-small
returns-in_err-small c =
    let p = err_from_is_err_and c.from_residual.result c.from_residual.ensures.1 in
    rw (p.1, p.2) (each_fails (at_most c.args.number (2 ^ 32 - 1)) small_of c.in_err-small.field-0.0 c.loop-value.rest c.in-Some.value c.next.new.self c.args.values.now c.in-Some.ensures.some c.in_err-small.ensures.read c.loop-value.invariant)

pub loop-value-preserved : goal.loop-value-preserved
loop-value-preserved c =
    each_leads (at_most c.args.number (2 ^ 32 - 1)) small_of c.loop-value.rest c.in-Some.value c.next.new.self c.args.values.now c.in-Some.ensures.some (small_is c.args.number c.in-Some.value c.in_ok-small.field-0 c.in_ok-small.ensures.read) c.loop-value.invariant

pub returns : goal.returns
returns c = each_ends (at_most c.args.number (2 ^ 32 - 1)) small_of c.loop-value.rest c.args.values.now c.in_default.ensures.none.0 c.loop-value.invariant
