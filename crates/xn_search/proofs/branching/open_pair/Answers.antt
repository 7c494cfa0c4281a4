use Rattle.std.proofs.Common.{inl, inr, arith, subst, sym}
use Rattle.std.proofs.lemmas.Bool.{cases_eq}
use Rattle.xn_tree.specs.Given.{state_of}
use Rattle.xn_search.proofs.Asked.{Settled, none_open}
use Rattle.xn_search.proofs.branching.open_pair.Goals as goal

pub loop-i-preserved : goal.loop-i-preserved
loop-i-preserved c = λ a b low less small apart. elim (cases_eq a c.loop-i.i) [
  | inl here ↦
      subst (λ x. Settled c.args.graph.now (state_of c.args.given.now) c.args.edges.now x b) (sym here) (c.in_default.ensures.none b (omega (arith, here, less)) small) apart
  | inr before ↦ c.loop-i.invariant a b (omega (arith, low, before)) less small apart
]

pub returns-clause-none : goal.returns-clause-none
returns-clause-none c =
    none_open c.args.graph.now (state_of c.args.given.now) c.args.edges.now (λ i j less small. c.loop-i.invariant i j (omega (arith, less, small, c.loop-i-test.false)) less small)
