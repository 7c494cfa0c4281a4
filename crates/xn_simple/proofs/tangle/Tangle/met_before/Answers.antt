use Rattle.std.proofs.Common.{sym, ◌∙◌, arith}
use Rattle.xn_simple.specs.Tangle.{lists_in}
use Rattle.xn_simple.proofs.Found.{another_met, met_there, never_before, never_named, never_passed}
use Rattle.xn_simple.proofs.tangle.Tangle.met_before.Goals as goal
use Rattle.xn_simple.proofs.tangle.Tangle.met_before.Goals.{then-first-i-via-then-first-i, then-first-i-via-else-first-i+then-not-is_named}

pub is_named-requires-clause-place : goal.is_named-requires-clause-place
is_named-requires-clause-place c = omega (arith, c.requires.place, c.if-first-i.false)

pub returns-then-first-i : goal.returns-then-first-i
returns-then-first-i c =
    let g = c.requires.tangle.0 in
    let t = lists_in c.args.self.now in
    elim c.then-first-i.branch [
      | then-first-i-via-then-first-i w ↦ never_before g t c.args.e c.args.first c.args.i c.args.f w.if-first-i.true
      | then-first-i-via-else-first-i+then-not-is_named w ↦
          never_named g t c.args.e c.args.first c.args.i c.args.f (sym w.is_named.ensures ∙ w.if-not-is_named.true)
    ]

pub other_pass-requires-clause-place : goal.other_pass-requires-clause-place
other_pass-requires-clause-place c = omega (arith, c.requires.place, c.if-first-i.false)

pub other_pass-requires-clause-holds : goal.other_pass-requires-clause-holds
other_pass-requires-clause-holds c = sym c.is_named.ensures ∙ c.if-not-is_named.false

pub returns-then-pass-f : goal.returns-then-pass-f
returns-then-pass-f c =
    met_there c.requires.tangle.0 (lists_in c.args.self.now) c.args.e c.args.first c.args.i c.args.f c.in-Some.pass c.if-first-i.false c.in-Some.ensures c.if-pass-f.true

pub returns-else-pass-f : goal.returns-else-pass-f
returns-else-pass-f c =
    another_met c.requires.tangle.0 (lists_in c.args.self.now) c.args.e c.args.first c.args.i c.args.f c.in-Some.pass c.in-Some.ensures c.if-pass-f.false

pub returns-in-None : goal.returns-in-None
returns-in-None c = never_passed c.requires.tangle.0 (lists_in c.args.self.now) c.args.e c.args.first c.args.i c.args.f c.in-None.ensures
