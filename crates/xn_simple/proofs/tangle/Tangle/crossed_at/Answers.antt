use Rattle.std.proofs.Common.{sym, ◌∙◌}
use Rattle.xn_simple.specs.Tangle.{lists_in}
use Rattle.xn_simple.proofs.Read.{crosses_no_other, crosses_none, crosses_other}
use Rattle.xn_simple.proofs.tangle.Tangle.crossed_at.Goals as goal

pub is_named-requires-clause-tangle : goal.is_named-requires-clause-tangle
is_named-requires-clause-tangle c = let r = c.requires.tangle in (r.0, r.1.tangle)

pub other_pass-requires-clause-tangle : goal.other_pass-requires-clause-tangle
other_pass-requires-clause-tangle c = let r = c.requires.tangle in (r.0, r.1.tangle)

pub returns-then-not-is_named : goal.returns-then-not-is_named
returns-then-not-is_named c =
    let r = c.requires.tangle in
    sym (crosses_none r.0 (lists_in c.args.self.now) r.1 c.args.e c.args.i c.requires.place (sym c.is_named.ensures ∙ c.if-not-is_named.true))

pub returns-in-Some : goal.returns-in-Some
returns-in-Some c =
    let r = c.requires.tangle in
    sym (crosses_other r.0 (lists_in c.args.self.now) r.1 c.args.e c.args.i c.requires.place (sym c.is_named.ensures ∙ c.if-not-is_named.false) c.in-Some.pass c.in-Some.ensures)

pub returns-in-None : goal.returns-in-None
returns-in-None c =
    let r = c.requires.tangle in
    sym (crosses_no_other r.0 (lists_in c.args.self.now) r.1 c.args.e c.args.i c.requires.place (sym c.is_named.ensures ∙ c.if-not-is_named.false) c.in-None.ensures)
