use Rattle.std.proofs.Common.{Option, sym, subst, arith}
use Rattle.std.specs.Prelude.{IfSome}
use Rattle.xn_upper.specs.Upper.{AreKept}
use Rattle.xn_upper.specs.declared.flat_starts.Kept.{Kept}
use Rattle.xn_upper.proofs.flat_starts.keep_front.Goals.{in-Some, in-None}
use Rattle.xn_upper.proofs.flat_starts.keep_front.Goals as goal

pub loop-low-preserved : goal.loop-low-preserved
loop-low-preserved c =
    let P : Kept → Type 0 = λ k. AreKept c.args.graph.now k.marks.items k.edges.items k.map in
    let was = c.loop-low.invariant in
    elim c.match-branch-2.branch [
      | in-Some w ↦ record {
        kept = subst P (sym w.kept-is) (subst (λ (o : Option Kept). IfSome o P) w.in-Some.is c.in_ok-wider.ensures);
        order = omega (arith, c.min.ensures, w.low-is, w.high-is, was.order);
        within = omega (arith, w.high-is, was.within);
        some = c.next_step-step.ensures;
      }
      | in-None w ↦ record {
        kept = subst P (sym w.kept-is) was.kept;
        order = omega (arith, c.min.ensures, w.low-is, w.high-is, was.order, was.some, c.loop-low-test.true);
        within = omega (arith, c.min.ensures, w.high-is, was.within, was.order);
        some = c.next_step-step.ensures;
      }
    ]
