use Rattle.std.proofs.Common.{length, arith, ap}
use Rattle.xn_check.proofs.Leaves.{few_parts, rows_of_parts}
use Rattle.xn_check.proofs.tree_part.TreePart.leaf_bound.Goals as goal

pub bound-requires-clause-few : goal.bound-requires-clause-few
bound-requires-clause-few c =
    omega (arith, few_parts (length c.args.rows.now) c.args.parts.now c.requires.rise c.requires.range.2, c.requires.range.4)

pub bound-requires-clause-rows : goal.bound-requires-clause-rows
bound-requires-clause-rows c =
    rw (c.graph.ensures, ap (λ v. v.walk.graph) c.self.view_is) (rows_of_parts c.args.self.now.walk.graph c.args.rows.now c.args.parts.now c.requires.hold c.requires.range.2)
