use Rattle.std.proofs.Common.{codes, FitsSigned, rules, arith}
use Rattle.std.specs.Fmt.{signed_decimal}
use Rattle.std.specs.Int.{w64, w128}
use Rattle.std.proofs.lemmas.Int.{to_z-of_z}
use Rattle.xn_show.proofs.Appended.{then_three}
use Rattle.xn_show.proofs.writing.put_input.Goals as goal

pub returns : goal.returns
returns c =
    let fits : FitsSigned w64 c.args.id = search rules in
    let wide : FitsSigned w128 c.args.id = search (rules, arith) in
    then_three c.args.to.now.items (codes " label \"") c.extend_from_slice.new.self.items (signed_decimal c.args.id) c.put_i128.new.to.items (codes "\" kind \"input\"") c.extend_from_slice-2.new.self.items
    (rw c.as_slice.ensures at c.in_ok-extend_from_slice.ensures.items) (rw (c.from.ensures, to_z-of_z w64 c.args.id fits, to_z-of_z w128 c.args.id wide) at c.in_ok-put_i128.ensures.ok) (rw c.as_slice-2.ensures at c.in_ok-extend_from_slice-2.ensures.items)
