use Rattle.std.proofs.Common.{◌<◌, false, length, arith}
use Rattle.std.proofs.lemmas.List.{get_or_read}
use Rattle.xn_simple.specs.Tangle.{lists_in}
use Rattle.xn_simple.proofs.Within.{named_read}
use Rattle.xn_simple.proofs.tangle.Tangle.is_named.Goals as goal

pub returns : goal.returns
returns c =
    let t = lists_in c.args.self.now in
    let v = c.tail-v.result in
    let four = c.args.self.now.four.items in
    let v_in : v < length four = omega (arith, c.tail-v.ensures.node, c.requires.tangle.1.marks) in
    named_read t c.requires.tangle c.args.e c.args.i c.requires.place c.leaving.result v c.index.result.now c.leaving.ensures.value c.tail-v.ensures.value
    (get_or_read four v c.index.result.now v_in c.index.ensures false)
