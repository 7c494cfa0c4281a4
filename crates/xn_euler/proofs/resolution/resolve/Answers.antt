use Rattle.std.proofs.Common.{ℕ, sym, subst}
use Rattle.xn_map.specs.Passing.{HasTwoDarts, Smooths}
use Rattle.xn_euler.specs.Resolving.{Resolves}
use Rattle.xn_euler.proofs.Resolving.{new_two, old_two, resolved_flat, resolves}
use Rattle.xn_euler.proofs.Rounds.{cut_allowed}
use Rattle.xn_euler.proofs.resolution.resolve.Goals as goal
use Rattle.xn_euler.proofs.resolution.resolve.Goals.{After-pass_node-2}

pub cut_node-requires-clause-b_in : goal.cut_node-requires-clause-b_in
cut_node-requires-clause-b_in c =
    (cut_allowed c.args.map.now c.cut-from.ensures.map c.args.v c.args.how c.cut-from.result.0 c.cut-from.result.1 c.cut-from.ensures.cut).second_in

pub cut_node-requires-clause-one_node : goal.cut_node-requires-clause-one_node
cut_node-requires-clause-one_node c =
    (cut_allowed c.args.map.now c.cut-from.ensures.map c.args.v c.args.how c.cut-from.result.0 c.cut-from.result.1 c.cut-from.ensures.cut).one_node

pub pass_node-requires : goal.pass_node-requires
pass_node-requires c =
    let H : ℕ → Type 0 = λ u. HasTwoDarts c.cut_node.new.self u in
    subst H (sym c.in_ok-new.ensures.node)
    (new_two c.args.map.now c.cut-from.ensures.map c.args.v c.args.how c.cut-from.result.0 c.cut-from.result.1 c.cut-from.ensures.cut c.cut_node.new.self c.in_ok-new.ensures.ok)

pub pass_node-requires-2 : goal.pass_node-requires-2
pass_node-requires-2 c =
    let S : ℕ → Type 0 = λ u. Smooths c.cut_node.new.self u c.pass_node.new.self in
    old_two c.args.map.now c.cut-from.ensures.map c.args.v c.args.how c.cut-from.result.0 c.cut-from.result.1 c.cut-from.ensures.cut c.cut_node.new.self c.in_ok-new.ensures.ok
    c.pass_node.ensures.map c.pass_node.new.self (subst S c.in_ok-new.ensures.node c.pass_node.ensures.smoothed)

done : (c : After-pass_node-2) → Resolves c.args.map.now c.args.v c.args.how c.pass_node-2.new.self
done c =
    let S : ℕ → Type 0 = λ u. Smooths c.cut_node.new.self u c.pass_node.new.self in
    resolves c.args.map.now c.cut-from.ensures.map c.args.v c.args.how c.cut-from.result.0 c.cut-from.result.1 c.cut-from.ensures.cut c.cut_node.new.self c.in_ok-new.ensures.ok
    c.pass_node.new.self (subst S c.in_ok-new.ensures.node c.pass_node.ensures.smoothed) c.pass_node-2.new.self c.pass_node-2.ensures.smoothed

pub returns-clause-ok : goal.returns-clause-ok
returns-clause-ok c = done c

pub returns-clause-flat : goal.returns-clause-flat
returns-clause-flat c = resolved_flat c.args.map.now c.cut-from.ensures.map c.args.v c.args.how c.pass_node-2.new.self (done c)
