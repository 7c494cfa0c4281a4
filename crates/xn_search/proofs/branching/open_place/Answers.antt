use Rattle.std.proofs.Common.{inl, inr, arith}
use Rattle.std.proofs.lemmas.Bool.{cases_eq}
use Rattle.xn_tree.specs.Given.{state_of}
use Rattle.xn_search.proofs.Asked.{no_place_open, place_asked, placed_here}
use Rattle.xn_search.proofs.branching.open_place.Goals as goal

pub returns-in-Some-clause-some : goal.returns-in-Some-clause-some
returns-in-Some-clause-some c =
    place_asked c.args.row.now (state_of c.args.given.now) c.requires.edges.rise c.requires.lists_fit c.loop-i.i c.at-e.result.now c.at.result.now
    (omega (arith, c.loop-i-test.true, c.len-i-end.ensures)) c.at-e.ensures c.at.ensures c.requires.of_state c.in-Some.f c.in-Some.ensures.some

pub loop-i-preserved : goal.loop-i-preserved
loop-i-preserved c = λ a f low long f_in. elim (cases_eq a c.loop-i.i) [
  | inl here ↦
      placed_here c.args.row.now (state_of c.args.given.now) c.requires.edges.rise c.requires.lists_fit c.loop-i.i c.at-e.result.now c.at.result.now
      (omega (arith, c.loop-i-test.true, c.len-i-end.ensures)) c.at-e.ensures c.at.ensures c.in_default.ensures.none a f here long f_in
  | inr before ↦ c.loop-i.invariant a f (omega (arith, low, before)) long f_in
]

pub returns-clause-none : goal.returns-clause-none
returns-clause-none c =
    no_place_open c.args.row.now (state_of c.args.given.now) c.requires.edges.rise c.requires.lists_fit
    (λ a f small. c.loop-i.invariant a f (omega (arith, small, c.loop-i-test.false, c.len-i-end.ensures)))
