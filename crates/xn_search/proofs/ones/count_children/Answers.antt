use Rattle.std.proofs.Common.{◌≡◌, ◌-◌, ◌∷◌, ◌++◌, ◌∙◌, List, arith, length}
use Rattle.xn_kinds.specs.State.{State}
use Rattle.xn_kinds.specs.Tree.{children}
use Rattle.xn_tree.specs.Given.{state_of}
use Rattle.xn_effort.specs.Potential.{ones_in}
use Rattle.xn_search.specs.Ones.{ones_of, with_children}
use Rattle.xn_search.proofs.Pushed.{last_number, ok_map, opened_counted, others}
use Rattle.xn_search.proofs.ones.count_children.Goals as goal

pub push_children-requires-clause-first : goal.push_children-requires-clause-first
push_children-requires-clause-first c =
    c.index-first.ensures
    ∙ last_number c.args.ones.now.items (ones_in c.args.claim.now.graph.now (state_of c.args.given.now)) (c.len-last.result - 1) c.index-first.result.now c.requires.counted
    (omega (arith, c.len-last.ensures, c.args.ones.now.ok.0))

pub returns : goal.returns
returns c =
    let g = c.args.claim.now.graph.now in
    let s = state_of c.args.given.now in
    let old = c.args.ones.now.items in
    let place_is : c.len-last.result - 1 ≡ length old - 1 = omega (arith, c.len-last.ensures, c.args.ones.now.ok.0) in
    let first_is = c.index-first.ensures ∙ last_number old (ones_in g s) (c.len-last.result - 1) c.index-first.result.now c.requires.counted place_is in
    ok_map c.push_children.result (c.push_children.new.ones.items ≡ with_children c.truncate.new.self.items c.index-first.result.now s c.args.node.now)
    ((left : List State) → old ≡ ones_of g (s ∷ left) → c.push_children.new.ones.items ≡ ones_of g (children s c.args.node.now ++ left))
    (λ pushed. opened_counted g s c.args.node.now old c.truncate.new.self.items c.push_children.new.ones.items c.index-first.result.now c.requires.fits first_is pushed
    (λ left told. c.truncate.ensures.items ∙ others old (ones_of g left) (ones_in g s) (c.len-last.result - 1) told place_is))
    c.push_children.ensures
