use Rattle.std.proofs.Common.{sym, subst}
use Rattle.xn_euler.specs.Resolving.{CanResolve, IsCutBetween}
use Rattle.xn_euler.specs.declared.resolution.Way.{Way}
use Rattle.xn_euler.proofs.Rounds.{cut_is}
use Rattle.xn_euler.proofs.resolution.cut.Goals as goal

pub returns-in-First-clause-cut : goal.returns-in-First-clause-cut
returns-in-First-clause-cut c =
    let C : Way → Type 0 = λ how. CanResolve c.args.map.now c.args.v how in
    let P : Way → Type 0 = λ how. IsCutBetween c.args.map.now c.args.v how c.least_dart-a.result c.next-c.result in
    let a = c.least_dart-a.ensures in
    subst P (sym c.in-First.is)
    (cut_is c.args.map.now a.map c.args.v _ (subst C c.in-First.is c.requires) c.least_dart-a.result c.next-b.result c.next-c.result a.dart a.node a.least c.next-b.ensures.value c.next-c.ensures.value)

pub returns-in-Second-clause-cut : goal.returns-in-Second-clause-cut
returns-in-Second-clause-cut c =
    let C : Way → Type 0 = λ how. CanResolve c.args.map.now c.args.v how in
    let P : Way → Type 0 = λ how. IsCutBetween c.args.map.now c.args.v how c.next-b.result c.next.result in
    let a = c.least_dart-a.ensures in
    subst P (sym c.in-Second.is)
    (rw c.next.ensures.value
    (cut_is c.args.map.now a.map c.args.v _ (subst C c.in-Second.is c.requires) c.least_dart-a.result c.next-b.result c.next-c.result a.dart a.node a.least c.next-b.ensures.value c.next-c.ensures.value))
