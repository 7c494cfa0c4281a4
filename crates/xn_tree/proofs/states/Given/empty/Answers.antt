use Rattle.std.proofs.Common.{◌≡◌, ◌*◌, rules}
use Rattle.std.specs.Prelude.{None, replicate}
use Rattle.xn_tree.proofs.Changed.{empty_given}
use Rattle.xn_tree.proofs.states.Given.empty.Goals as goal

pub invariant_of-result : goal.invariant_of-result
invariant_of-result c =
    let n = c.edges-edges.result in
    let pairs : c.in_ok-pairs.pairs.items ≡ replicate (n * n) None = c.in_ok-pairs.ensures.items_if_clones_equal (search rules) in
    rw (pairs, c.in_ok-empty_lists.ensures, c.in_ok-copy.ensures) (empty_given c.args.graph.now n c.edges-edges.ensures.value).0

pub returns-clause-state : goal.returns-clause-state
returns-clause-state c =
    let n = c.edges-edges.result in
    let pairs : c.in_ok-pairs.pairs.items ≡ replicate (n * n) None = c.in_ok-pairs.ensures.items_if_clones_equal (search rules) in
    rw (pairs, c.in_ok-empty_lists.ensures, c.in_ok-copy.ensures) (empty_given c.args.graph.now n c.edges-edges.ensures.value).1
