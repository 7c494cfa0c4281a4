use Rattle.std.proofs.Common.{◌≡◌, ℕ, ◌/◌, ◌<◌, length, refl, sym, ◌∙◌, ap, arith}
use Rattle.xn_model.specs.Lists.{at}
use Rattle.xn_graph.specs.Stars.{darts_of}
use Rattle.xn_graph.proofs.DartsOf.{darts_of-at}
use Rattle.xn_blocks.proofs.CutNodes.{cut_from, no_cut}
use Rattle.xn_blocks.proofs.cuts.is_cut.Goals as goal

pub key_of-requires : goal.key_of-requires
key_of-requires c =
    let ends = c.args.stars.now.ends in
    let i = c.loop-d.d-index in
    let dart = darts_of-at ends c.args.v i (omega (arith, c.loop-d-test.true, ap length c.at-star.ensures)) in
    omega (arith, dart.0, ap (λ l. at l i) c.at-star.ensures, c.requires.names.size)

pub key_of-requires-in-loop-d : goal.key_of-requires-in-loop-d
key_of-requires-in-loop-d c =
    let ends = c.args.stars.now.ends in
    let dart = darts_of-at ends c.args.v 0 (omega (arith, c.loop-d-test.true, ap length c.at-star.ensures)) in
    omega (arith, dart.0, ap (λ l. at l 0) c.at-star.ensures, c.requires.names.size)

pub returns-then-key_of : goal.returns-then-key_of
returns-then-key_of c =
    let web = c.args.stars.now in
    let keys = c.args.keys.now in
    let v = c.args.v in
    let i = c.loop-d.d-index in
    let i_in : i < length (darts_of web.ends v) = omega (arith, c.loop-d-test.true, ap length c.at-star.ensures) in
    let at_i = ap (λ l. at keys (at l i / 2)) c.at-star.ensures in
    let at_0 = ap (λ l. at keys (at l 0 / 2)) c.at-star.ensures in
    let other : at keys (at (darts_of web.ends v) i / 2) ≡ at keys (at (darts_of web.ends v) 0 / 2) → ⊥ =
    λ same. c.if-key_of.true (c.key_of.ensures ∙ at_i ∙ same ∙ sym at_0 ∙ sym c.key_of-in-loop-d.ensures) in
    ((λ _. cut_from web keys c.requires.names v i 0 i_in (omega (arith, i_in)) other), (λ _. refl))

pub returns : goal.returns
returns c =
    let web = c.args.stars.now in
    let keys = c.args.keys.now in
    let v = c.args.v in
    let same : (j : ℕ) → j < length (darts_of web.ends v) → at keys (at (darts_of web.ends v) j / 2) ≡ at keys (at (darts_of web.ends v) 0 / 2) = λ j j_in.
    let at_j = ap (λ l. at keys (at l j / 2)) c.at-star.ensures in
    let at_0 = ap (λ l. at keys (at l 0 / 2)) c.at-star.ensures in
    sym at_j ∙ c.loop-d.invariant j (omega (arith, j_in, c.loop-d-test.false, ap length c.at-star.ensures)) ∙ at_0 in
    ((λ e. absurd (cc)), (λ cut. absurd (no_cut web keys c.requires.names v same cut)))
