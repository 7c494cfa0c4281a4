use Rattle.std.proofs.Common.{◌≡◌, ℕ, ◌+◌, ◌-◌, ◌<◌, ◌≤◌, true, length, sym, ap, ◌∙◌, arith}
use Rattle.xn_model.specs.Graph.{Graph}
use Rattle.xn_model.specs.Lists.{at}
use Rattle.xn_map.specs.Marks.{is_marked}
use Rattle.xn_dmp.proofs.Placing.{few_more}
use Rattle.xn_dmp.proofs.Turning.{all_placed, embeds_next, embeds_start, next_at}
use Rattle.xn_dmp.proofs.embedding.embed.Goals as goal

pub loop-i-init : goal.loop-i-init
loop-i-init c = embeds_start c.args.web.now c.args.list.now c.in_ok-growth.growth c.in_ok-growth.ensures

pub turn-requires : goal.turn-requires
turn-requires c =
    next_at c.args.web.now c.args.list.now c.loop-i.growth c.loop-i.i c.loop-i.invariant c.requires.grows c.loop-i-test.true (sym c.is_free.ensures.value ∙ c.if-is_free.true)

pub loop-i-smaller-in_default : goal.loop-i-smaller-in_default
loop-i-smaller-in_default c =
    let old = c.loop-i.growth in
    let new = c.turn.new.growth in
    let free : is_marked old.free (at c.args.list.now c.loop-i.i) ≡ true = sym c.is_free.ensures.value ∙ c.if-is_free.true in
    let few : length old.placed + 1 ≤ length old.web.ends = few_more old c.is_free.ensures.grown (at c.args.list.now c.loop-i.i) free in
    let more : length old.placed < length new.placed = rw c.in_default.is at c.in_ok-fragment.ensures.placed in
    let same : length new.web.ends ≡ length old.web.ends = ap (λ (w : Graph). length w.ends) c.in_ok-fragment.ensures.keeps.same_web in
    let less : (length c.args.list.now - c.loop-i.i) + (length new.web.ends - length new.placed) < (length c.args.list.now - c.loop-i.i) + (length old.web.ends - length old.placed) =
    omega (arith, few, more, same) in
    less

pub loop-i-preserved : goal.loop-i-preserved
loop-i-preserved c = embeds_next c.args.web.now c.args.list.now c.loop-i.growth c.loop-i.i c.loop-i.invariant (sym c.is_free.ensures.value ∙ c.if-is_free.false)

pub returns : goal.returns
returns c = all_placed c.args.web.now c.args.list.now c.loop-i.growth c.loop-i.i c.loop-i.invariant c.requires.grows c.loop-i-test.false
