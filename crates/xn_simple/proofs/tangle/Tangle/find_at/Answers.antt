use Rattle.std.proofs.Common.{ℕ, suc, min, Some, refl, sym, subst, arith}
use Rattle.xn_model.specs.Lists.{at}
use Rattle.xn_simple.specs.Tangle.{lists_in}
use Rattle.xn_simple.specs.Untangling.{GoesOnWith}
use Rattle.xn_simple.specs.declared.finding.Step.TheVariants.{Closed}
use Rattle.xn_simple.proofs.Found.{begins, closes, no_other, once, twice}
use Rattle.xn_simple.proofs.Within.{edge_below, walked_below}
use Rattle.xn_simple.proofs.tangle.Tangle.find_at.Goals as goal

pub returns-then-pass-e : goal.returns-then-pass-e
returns-then-pass-e c =
    let g = c.args.graph.now in
    let t = lists_in c.args.self.now in
    let e = c.args.e in
    let i = c.args.i in
    let met = c.args.met.now in
    let p = c.in-Some.pass in
    let P : ℕ → ℕ → Type 0 = λ x y. GoesOnWith g t e i met (Some (Closed x y)) in
    subst (λ x. P x c.max.result) (sym c.min.ensures) (subst (P (min i p.place)) (sym c.max.ensures)
    (closes g t e i met c.requires.so_far p c.in-Some.ensures c.if-pass-e.true))

pub common_end-requires-clause-e_in : goal.common_end-requires-clause-e_in
common_end-requires-clause-e_in c = edge_below c.args.graph.now (lists_in c.args.self.now) c.requires.tangle c.args.e c.requires.edge

pub common_end-requires-clause-f_in : goal.common_end-requires-clause-f_in
common_end-requires-clause-f_in c =
    let p = c.in-Some.pass in
    walked_below c.args.graph.now (lists_in c.args.self.now) c.requires.tangle p.edge (suc p.place) (c.in-Some.ensures.meets p refl).two_in

pub returns-in-Some-common_end : goal.returns-in-Some-common_end
returns-in-Some-common_end c =
    begins c.args.graph.now (lists_in c.args.self.now) c.args.e c.args.i c.args.met.now c.requires.so_far c.in-Some.pass c.in-Some.ensures
    (λ same. c.if-pass-e.false (sym same)) c.in-Some-common_end.s c.in-Some-common_end.t c.in-Some-common_end.ensures

pub bounds-met-pass : goal.bounds-met-pass
bounds-met-pass c =
    let p = c.in-Some.pass in
    let low = walked_below c.args.graph.now (lists_in c.args.self.now) c.requires.tangle p.edge (suc p.place) (c.in-Some.ensures.meets p refl).two_in in
    omega (arith, low, c.requires.so_far.fits)

pub bounds-met-pass-in-Some : goal.bounds-met-pass-in-Some
bounds-met-pass-in-Some c =
    let p = c.in-Some.pass in
    let low = walked_below c.args.graph.now (lists_in c.args.self.now) c.requires.tangle p.edge (suc p.place) (c.in-Some.ensures.meets p refl).two_in in
    omega (arith, low, c.requires.so_far.fits)

pub returns-in-None : goal.returns-in-None
returns-in-None c = no_other c.args.graph.now (lists_in c.args.self.now) c.args.e c.args.i c.args.met.now c.requires.so_far c.in-None.ensures

pub returns-in-Some-met_before : goal.returns-in-Some-met_before
returns-in-Some-met_before c =
    let met = c.args.met.now in
    let p = c.in-Some.pass in
    let before = c.in-Some-met_before.before in
    twice c.args.graph.now (lists_in c.args.self.now) c.args.e c.args.i met c.requires.so_far p c.in-Some.ensures
    (λ same. c.if-pass-e.false (sym same)) (at met p.edge) before (c.in-Some-met_before.ensures.some before refl)

pub returns-in-None-met_before : goal.returns-in-None-met_before
returns-in-None-met_before c =
    let g = c.args.graph.now in
    let t = lists_in c.args.self.now in
    let p = c.in-Some.pass in
    let f_in = walked_below g t c.requires.tangle p.edge (suc p.place) (c.in-Some.ensures.meets p refl).two_in in
    once g t c.args.e c.args.i c.args.met.now c.requires.so_far p c.in-Some.ensures (λ same. c.if-pass-e.false (sym same)) c.in_default.ensures f_in c.in-None-met_before.ensures
