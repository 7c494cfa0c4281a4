use Rattle.std.proofs.Common.{◌∙◌, ap, refl, sym}
use Rattle.std.specs.Prelude.{reverse}
use Rattle.xn_tree.specs.Given.{state_of}
use Rattle.xn_tree.specs.Walk.{owed}
use Rattle.xn_tree.proofs.Paths.{top_is, top_of}
use Rattle.xn_tree.proofs.walks.go_on.Goals as goal

pub take_back-requires : goal.take_back-requires
take_back-requires c =
    let loop = c.loop-choice in (
      reverse c.pop.new.self.items,
      top_of loop.given.graph (state_of loop.given) loop.path.items c.pop.new.self.items c.pop.result c.in-Some.choice _ loop.invariant.leads c.pop.ensures.items c.in-Some.is refl,
    )

pub loop-choice-preserved : goal.loop-choice-preserved
loop-choice-preserved c =
    let loop = c.loop-choice in
    let rest = reverse c.pop.new.self.items in
    let was = top_is loop.path.items c.pop.new.self.items c.pop.result c.in-Some.choice c.in-Some.choice c.pop.ensures.items c.in-Some.is refl in
    let top = top_of loop.given.graph (state_of loop.given) loop.path.items c.pop.new.self.items c.pop.result c.in-Some.choice c.in-Some.choice loop.invariant.leads c.pop.ensures.items c.in-Some.is refl in
    let next = c.in_default-take_back.ensures.path rest top in
    record {
      same_graph = c.take_back.ensures.graph ∙ loop.invariant.same_graph;
      leads = next.0;
      still_owed = sym next.1 ∙ ap owed (sym was) ∙ loop.invariant.still_owed;
    }
