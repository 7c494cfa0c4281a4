use Rattle.std.proofs.Common.{inl, inr, arith, subst, sym}
use Rattle.std.specs.Prelude.{slice_index}
use Rattle.std.proofs.lemmas.Bool.{cases_eq}
use Rattle.xn_tree.specs.Given.{state_of}
use Rattle.xn_search.proofs.Asked.{Settled, rising_at, settled_unless}
use Rattle.xn_search.proofs.branching.open_partner.Goals as goal

pub is_open-requires-clause-rises : goal.is_open-requires-clause-rises
is_open-requires-clause-rises c = rising_at c.args.edges.now c.requires.edges.rise c.args.i c.loop-j.j c.loop-j.invariant.from c.loop-j-test.true

pub loop-j-preserved : goal.loop-j-preserved
loop-j-preserved c =
    let g = c.args.graph.now in
    let s = state_of c.args.given.now in
    let edges = c.args.edges.now in
    record {
      from = omega (arith, c.loop-j.invariant.from);
      none = λ b low high apart. elim (cases_eq b c.loop-j.j) [
        | inl here ↦
            subst (Settled g s edges c.args.i) (sym here)
            (settled_unless g s (slice_index edges c.args.i) (slice_index edges c.loop-j.j)
            (rising_at edges c.requires.edges.rise c.args.i c.loop-j.j c.loop-j.invariant.from c.loop-j-test.true) (omega (arith, c.requires.edges.below c.loop-j.j 0 c.loop-j-test.true))
            c.is_open.result c.is_open.ensures c.if-is_open.false)
            apart
        | inr before ↦ c.loop-j.invariant.none b low (omega (arith, high, before)) apart
      ];
    }
