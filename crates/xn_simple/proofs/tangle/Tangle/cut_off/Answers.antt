use Rattle.std.proofs.Common.{◌≡◌, suc, sym, ◌∙◌, ap, ap₂, subst, arith}
use Rattle.xn_model.specs.Map.{tail_of}
use Rattle.xn_track.specs.Steps.{crossing_over}
use Rattle.xn_simple.specs.Tangle.{IsWalkPut, lists_in, node_in, unmarked}
use Rattle.xn_simple.proofs.Changed.{MayPut, cut_leaves, cut_may, dart_at, dart_low}
use Rattle.xn_simple.proofs.Noted.{walk_read}
use Rattle.xn_simple.proofs.tangle.Tangle.cut_off.Goals as goal

pub tail-v-requires : goal.tail-v-requires
tail-v-requires c =
    let t = lists_in c.args.self.now in
    let r = c.requires in
    let m = r.2.1 in
    let walk_is = walk_read c.args.self.now.walks.items c.args.e (suc c.args.i) c.index-walk.result.now m.one_in c.index-walk.ensures in
    let is = dart_at r.0 t r.1 c.args.e c.args.i m.one_in c.index-walk.result.now.items walk_is c.index.result.now c.index.ensures in
    let low = dart_low r.0 t r.1 c.args.e (suc c.args.i) m.one_in in
    omega (arith, is, low)

pub put-requires-clause-owners : goal.put-requires-clause-owners
put-requires-clause-owners c =
    let t = lists_in c.args.self.now in
    let r = c.requires in
    let m = r.2.1 in
    let mid = lists_in c.unmark.new.self in
    let walk_is = walk_read c.args.self.now.walks.items c.args.e (suc c.args.i) c.index-walk.result.now m.one_in c.index-walk.ensures in
    let dart = dart_at r.0 t r.1 c.args.e c.args.i m.one_in c.index-walk.result.now.items walk_is c.index.result.now c.index.ensures in
    let mid_is : mid ≡ unmarked t (node_in t c.args.e c.args.i) = c.unmark.ensures ∙ ap (unmarked t) (c.tail-v.ensures.value ∙ ap (tail_of t.map.web.ends) dart) in
    let walk = c.in_ok-shorter.ensures ∙ ap₂ (λ xs ys. crossing_over xs c.args.i ys c.args.j) (c.deref.ensures.value ∙ walk_is) (c.deref-2.ensures.value ∙ walk_is) in
    let may = subst (λ w. MayPut c.args.e w mid) (sym walk) (cut_may r.0 t r.1 c.args.e c.args.i c.args.j r.2 mid mid_is) in
    may.owners

pub put-requires-clause-apart : goal.put-requires-clause-apart
put-requires-clause-apart c =
    let t = lists_in c.args.self.now in
    let r = c.requires in
    let m = r.2.1 in
    let mid = lists_in c.unmark.new.self in
    let walk_is = walk_read c.args.self.now.walks.items c.args.e (suc c.args.i) c.index-walk.result.now m.one_in c.index-walk.ensures in
    let dart = dart_at r.0 t r.1 c.args.e c.args.i m.one_in c.index-walk.result.now.items walk_is c.index.result.now c.index.ensures in
    let mid_is : mid ≡ unmarked t (node_in t c.args.e c.args.i) = c.unmark.ensures ∙ ap (unmarked t) (c.tail-v.ensures.value ∙ ap (tail_of t.map.web.ends) dart) in
    let walk = c.in_ok-shorter.ensures ∙ ap₂ (λ xs ys. crossing_over xs c.args.i ys c.args.j) (c.deref.ensures.value ∙ walk_is) (c.deref-2.ensures.value ∙ walk_is) in
    let may = subst (λ w. MayPut c.args.e w mid) (sym walk) (cut_may r.0 t r.1 c.args.e c.args.i c.args.j r.2 mid mid_is) in
    may.apart

pub returns : goal.returns
returns c = λ g tangle step.
    let t = lists_in c.args.self.now in
    let m = step.1 in
    let mid = lists_in c.unmark.new.self in
    let walk_is = walk_read c.args.self.now.walks.items c.args.e (suc c.args.i) c.index-walk.result.now m.one_in c.index-walk.ensures in
    let dart = dart_at g t tangle c.args.e c.args.i m.one_in c.index-walk.result.now.items walk_is c.index.result.now c.index.ensures in
    let mid_is : mid ≡ unmarked t (node_in t c.args.e c.args.i) = c.unmark.ensures ∙ ap (unmarked t) (c.tail-v.ensures.value ∙ ap (tail_of t.map.web.ends) dart) in
    let walk = c.in_ok-shorter.ensures ∙ ap₂ (λ xs ys. crossing_over xs c.args.i ys c.args.j) (c.deref.ensures.value ∙ walk_is) (c.deref-2.ensures.value ∙ walk_is) in
    cut_leaves g t tangle c.args.e c.args.i c.args.j step mid mid_is (lists_in c.put.new.self)
    (subst (λ w. IsWalkPut c.args.e w mid (lists_in c.put.new.self)) walk c.put.ensures)
