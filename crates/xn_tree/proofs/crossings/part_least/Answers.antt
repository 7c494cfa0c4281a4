use Rattle.std.proofs.Common.{FitsSigned, rules, ◌∙◌, sym}
use Rattle.std.specs.Int.{w128}
use Rattle.std.proofs.lemmas.Int.{to_z-of_z}
use Rattle.xn_tree.specs.Leaf.{state_in}
use Rattle.xn_tree.proofs.Pairs.{adds_none, adds_pair}
use Rattle.xn_tree.proofs.crossings.part_least.Goals as goal

pub returns-then-independent-clause-least : goal.returns-then-independent-clause-least
returns-then-independent-clause-least c =
    let leaf = c.args.leaf.now in
    let fits : FitsSigned w128 c.pair_least.result = search rules in
    rw (to_z-of_z w128 c.pair_least.result fits) (λ rest ignores.
    adds_pair leaf.graph.now leaf.rows.now leaf.parts.now leaf.d (state_in leaf) c.args.e c.args.f c.requires.below rest ignores
    c.pair_least.result (sym c.independent.ensures ∙ c.if-independent.true) c.pair_least.ensures.least)

pub returns-else-independent-clause-least : goal.returns-else-independent-clause-least
returns-else-independent-clause-least c =
    let leaf = c.args.leaf.now in
    λ rest ignores.
    adds_none leaf.graph.now leaf.rows.now leaf.parts.now leaf.d (state_in leaf) c.args.e c.args.f c.requires.below rest ignores
    (sym c.independent.ensures ∙ c.if-independent.false)
