use Rattle.std.proofs.Common.{◌-◌, ◌<◌, length, map, vec_items, ap, arith}
use Rattle.std.proofs.lemmas.List.{length-map}
use Rattle.xn_model.specs.Lists.{at}
use Rattle.xn_simple.specs.Tangle.{lists_in, node_in, walk_in}
use Rattle.xn_simple.specs.Untangling.{order_in}
use Rattle.xn_simple.proofs.Noted.{walk_read}
use Rattle.xn_simple.proofs.ReadOff.{crossed_in, list_none, list_some, walk_long}
use Rattle.xn_simple.proofs.Taken.{list_in}
use Rattle.xn_simple.proofs.tangle.Tangle.list_along.Goals.{in-Some+in_ok-push, in_default}
use Rattle.xn_simple.proofs.tangle.Tangle.list_along.Goals as goal

pub index-requires : goal.index-requires
index-requires c =
    let r = c.requires.tangle in
    let low = list_in r.0 (lists_in c.args.self.now) r.1.tangle c.args.e c.requires.edge in
    let size = length-map c.args.self.now.walks.items vec_items in
    omega (arith, low, size, c.args.self.now.walks.ok.0)

pub crossed_at-requires-clause-place : goal.crossed_at-requires-clause-place
crossed_at-requires-clause-place c =
    let t = lists_in c.args.self.now in
    let r = c.requires.tangle in
    let long = walk_long r.0 t r.1 c.args.e c.requires.edge in
    let size = ap length (walk_read c.args.self.now.walks.items c.args.e 0 c.index.result.now long c.index.ensures) in
    omega (arith, size, c.index.result.now.ok.0, c.len-i-end.ensures, c.loop-i-test.true, c.loop-i.auto.i)

pub bounds-numbers-f : goal.bounds-numbers-f
bounds-numbers-f c =
    let t = lists_in c.args.self.now in
    let r = c.requires.tangle in
    let low = crossed_in r.0 t r.1 c.args.e (node_in t c.args.e (c.loop-i.i - 1)) c.in-Some.f c.in-Some.ensures in
    omega (arith, low, r.2)

pub loop-i-preserved : goal.loop-i-preserved
loop-i-preserved c =
    let t = lists_in c.args.self.now in
    let r = c.requires.tangle in
    let e = c.args.e in
    let i = c.loop-i.i in
    let numbers = c.args.numbers.now in
    let long = walk_long r.0 t r.1 e c.requires.edge in
    let size = ap length (walk_read c.args.self.now.walks.items e 0 c.index.result.now long c.index.ensures) in
    let i_in : i < length (walk_in t e) = omega (arith, size, c.index.result.now.ok.0, c.len-i-end.ensures, c.loop-i-test.true) in
    elim c.match-crossed_at.branch [
      | in-Some+in_ok-push w ↦
          rw (w.list-is, w.in_ok-push.ensures.items)
          (list_some r.0 t r.1 e c.requires.edge numbers c.loop-i.list.items (map (at numbers) (order_in t e)) i w.in-Some.f (omega (arith, c.loop-i.auto.i)) i_in w.in-Some.ensures c.loop-i.invariant)
      | in_default w ↦
          rw w.list-is
          (list_none r.0 t r.1 e c.requires.edge numbers c.loop-i.list.items (map (at numbers) (order_in t e)) i (omega (arith, c.loop-i.auto.i)) i_in w.in_default.ensures c.loop-i.invariant)
    ]
