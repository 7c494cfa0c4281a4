use Rattle.std.proofs.Common.{◌≡◌, ◌+◌, ◌-◌, ℕ, suc, List, length, refl, sym, ◌∙◌, ap, subst, arith}
use Rattle.xn_simple.specs.Tangle.{lists_in}
use Rattle.xn_simple.specs.Untangling.{MeetsSoFar}
use Rattle.xn_simple.proofs.Found.{meets_well, none_met, not_named}
use Rattle.xn_simple.proofs.Within.{edge_given, vec_read}
use Rattle.xn_simple.proofs.tangle.Tangle.find.Goals as goal
use Rattle.xn_simple.proofs.tangle.Tangle.find.Goals.{then-is_named+in_default, else-is_named}

pub index-requires : goal.index-requires
index-requires c =
    let low = edge_given c.args.graph.now (lists_in c.args.self.now) c.requires.tangle c.args.self.now.walks.items refl c.args.e c.requires.edge in
    omega (arith, low, c.args.self.now.walks.ok.0)

pub loop-i-init : goal.loop-i-init
loop-i-init c = none_met c.args.graph.now (lists_in c.args.self.now) c.args.e c.args.met.now c.requires.met

pub is_named-requires-clause-tangle : goal.is_named-requires-clause-tangle
is_named-requires-clause-tangle c = (c.args.graph.now, c.requires.tangle)

pub is_named-requires-clause-place : goal.is_named-requires-clause-place
is_named-requires-clause-place c =
    let vecs = c.args.self.now.walks.items in
    let e_in = edge_given c.args.graph.now (lists_in c.args.self.now) c.requires.tangle vecs refl c.args.e c.requires.edge in
    let is = vec_read vecs c.args.e c.index.result.now e_in c.index.ensures in
    omega (arith, c.loop-i.auto.i, c.loop-i-test.true, c.len-i-end.ensures, c.index.result.now.ok.0, ap length is)

pub find_at-requires-clause-place : goal.find_at-requires-clause-place
find_at-requires-clause-place c =
    let vecs = c.args.self.now.walks.items in
    let e_in = edge_given c.args.graph.now (lists_in c.args.self.now) c.requires.tangle vecs refl c.args.e c.requires.edge in
    let is = vec_read vecs c.args.e c.index.result.now e_in c.index.ensures in
    omega (arith, c.loop-i.auto.i, c.loop-i-test.true, c.len-i-end.ensures, c.index.result.now.ok.0, ap length is)

pub find_at-requires-clause-holds : goal.find_at-requires-clause-holds
find_at-requires-clause-holds c = sym c.is_named.ensures ∙ c.if-is_named.true

pub find_at-requires-clause-so_far : goal.find_at-requires-clause-so_far
find_at-requires-clause-so_far c =
    let i = c.loop-i.i in
    let P : ℕ → Type 0 = λ k. MeetsSoFar c.args.graph.now (lists_in c.args.self.now) c.args.e k c.loop-i.met in
    let back : i ≡ suc (i - 1) = omega (arith, c.loop-i.auto.i) in
    subst P back c.loop-i.invariant

pub returns-in-Some-clause-met : goal.returns-in-Some-clause-met
returns-in-Some-clause-met c = c.find_at.ensures.fits

pub returns-in-Some-clause-some : goal.returns-in-Some-clause-some
returns-in-Some-clause-some c = c.find_at.ensures.some c.in-Some.step c.in-Some.is

pub loop-i-preserved : goal.loop-i-preserved
loop-i-preserved c =
    let g = c.args.graph.now in
    let t = lists_in c.args.self.now in
    let e = c.args.e in
    let i = c.loop-i.i in
    let P : ℕ → List ℕ → Type 0 = λ k met. MeetsSoFar g t e k met in
    let back : i ≡ suc (i - 1) = omega (arith, c.loop-i.auto.i) in
    let on : suc (suc (i - 1)) ≡ i + 1 = omega (arith, c.loop-i.auto.i) in
    subst (λ k. P k c.if-is_named.met) on (elim c.if-is_named.branch [
      | then-is_named+in_default w ↦ subst (P (suc (suc (i - 1)))) (sym w.met-is) (w.find_at.ensures.none w.in_default.is)
      | else-is_named w ↦
          subst (P (suc (suc (i - 1)))) (sym w.met-is)
          (not_named g t e (i - 1) c.loop-i.met (sym c.is_named.ensures ∙ w.if-is_named.false) (subst (λ k. P k c.loop-i.met) back c.loop-i.invariant))
    ])

pub returns-clause-met : goal.returns-clause-met
returns-clause-met c = c.loop-i.invariant.fits

pub returns-clause-none : goal.returns-clause-none
returns-clause-none c =
    let vecs = c.args.self.now.walks.items in
    let t = lists_in c.args.self.now in
    let e_in = edge_given c.args.graph.now t c.requires.tangle vecs refl c.args.e c.requires.edge in
    let is = vec_read vecs c.args.e c.index.result.now e_in c.index.ensures in
    meets_well c.args.graph.now t c.args.e c.loop-i.i c.loop-i.met (omega (arith, c.loop-i-test.false, c.len-i-end.ensures, c.index.result.now.ok.0, ap length is)) c.loop-i.invariant
