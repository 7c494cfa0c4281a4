use Rattle.std.proofs.Common.{◌≡◌, arith, length, subst, take}
use Rattle.std.specs.List.{AllByRecursion}
use Rattle.std.proofs.lemmas.Int.{ints}
use Rattle.std.proofs.lemmas.List.{take_all}
use Rattle.xn_kinds.specs.Bound.{row_at}
use Rattle.xn_tree.specs.Given.{state_of}
use Rattle.xn_tree.specs.Leaf.{IsRowOf}
use Rattle.xn_tree.proofs.Additions.{each_taken}
use Rattle.xn_tree.proofs.Split.{bound_of_both}
use Rattle.xn_tree.proofs.bounds.bound.Goals as goal

pub returns : goal.returns
returns c =
    let g = c.args.graph.now in
    let rows = c.args.rows.now in
    let parts = c.args.parts.now in
    let all : take (length parts) parts ≡ parts = take_all (length parts) parts (omega arith) in
    let each : AllByRecursion (λ p. IsRowOf g (row_at rows p.0)) parts =
    subst (AllByRecursion (λ p. IsRowOf g (row_at rows p.0))) all (each_taken (λ p. IsRowOf g (row_at rows p.0)) parts (length parts) c.requires.rows) in
    bound_of_both g rows (state_of c.args.given.now) c.args.d parts each _ _ _ c.crosses_least.ensures.least c.turns_least.ensures.least
    (omega (arith, ints, c.crosses_least.ensures.small, c.turns_least.ensures.small))
