use Rattle.std.proofs.Common.{◌≡◌, ◌+◌, ◌-◌, suc, length, vec_items, ltb, ◌∙◌, ap, arith}
use Rattle.std.proofs.lemmas.Bool.{ltb-false, ltb-true}
use Rattle.std.proofs.lemmas.List.{length-map}
use Rattle.xn_model.specs.Map.{tail_of}
use Rattle.xn_track.specs.Steps.{crossing_over, turned_walk}
use Rattle.xn_simple.specs.Tangle.{lists_in, node_in, unmarked, walk_in}
use Rattle.xn_simple.specs.Untangling.{place_turned}
use Rattle.xn_simple.proofs.Changed.{dart_at, dart_low, exchanged_as, may_two_are, middles_order, middles_two}
use Rattle.xn_simple.proofs.Noted.{walk_read}
use Rattle.xn_simple.proofs.Turned.{length-turned}
use Rattle.xn_simple.proofs.tangle.Tangle.change_middles.Goals as goal

pub place_in_turned-j-requires : goal.place_in_turned-j-requires
place_in_turned-j-requires c =
    let s = c.args.self.now in
    let t = lists_in s in
    let r = c.requires in
    let twice = r.2 in
    let e = c.args.e in
    let f = c.args.f in
    let i = c.args.at_e.0 in
    let k = c.args.at_e.1 in
    let turn = ltb c.args.at_f.1 c.args.at_f.0 in
    let two_is = walk_read s.walks.items f (suc c.args.at_f.0) c.index.result.now twice.first.two_in c.index.ensures in
    let two = c.in_ok-two.ensures ∙ ap (turned_walk turn) (c.deref.ensures.value ∙ two_is) in
    let two_size = ap length two ∙ length-turned turn (walk_in t f) in
    let size : c.len.result ≡ length (walk_in t f) = omega (arith, c.len.ensures, c.in_ok-two.two.ok.0, two_size) in
    omega (arith, size, twice.first.two_in)

pub place_in_turned-l-requires : goal.place_in_turned-l-requires
place_in_turned-l-requires c =
    let s = c.args.self.now in
    let t = lists_in s in
    let r = c.requires in
    let twice = r.2 in
    let e = c.args.e in
    let f = c.args.f in
    let i = c.args.at_e.0 in
    let k = c.args.at_e.1 in
    let turn = ltb c.args.at_f.1 c.args.at_f.0 in
    let two_is = walk_read s.walks.items f (suc c.args.at_f.0) c.index.result.now twice.first.two_in c.index.ensures in
    let two = c.in_ok-two.ensures ∙ ap (turned_walk turn) (c.deref.ensures.value ∙ two_is) in
    let two_size = ap length two ∙ length-turned turn (walk_in t f) in
    let size_two : c.len-2.result ≡ length (walk_in t f) = omega (arith, c.len-2.ensures, c.in_ok-two.two.ok.0, two_size) in
    omega (arith, size_two, twice.second.two_in)

pub tail-u-requires : goal.tail-u-requires
tail-u-requires c =
    let s = c.args.self.now in
    let t = lists_in s in
    let r = c.requires in
    let twice = r.2 in
    let e = c.args.e in
    let f = c.args.f in
    let i = c.args.at_e.0 in
    let k = c.args.at_e.1 in
    let turn = ltb c.args.at_f.1 c.args.at_f.0 in
    let one_is = walk_read s.walks.items e (suc k) c.index-one.result.now twice.second.one_in c.index-one.ensures in
    let dart_u = dart_at r.0 t r.1 e i twice.first.one_in c.index-one.result.now.items one_is c.index-2.result.now c.index-2.ensures in
    let low = dart_low r.0 t r.1 e (suc i) twice.first.one_in in
    omega (arith, dart_u, low)

pub tail-v-requires : goal.tail-v-requires
tail-v-requires c =
    let s = c.args.self.now in
    let t = lists_in s in
    let r = c.requires in
    let twice = r.2 in
    let e = c.args.e in
    let f = c.args.f in
    let i = c.args.at_e.0 in
    let k = c.args.at_e.1 in
    let turn = ltb c.args.at_f.1 c.args.at_f.0 in
    let one_is = walk_read s.walks.items e (suc k) c.index-one.result.now twice.second.one_in c.index-one.ensures in
    let dart_v = dart_at r.0 t r.1 e k twice.second.one_in c.index-one.result.now.items one_is c.index-3.result.now c.index-3.ensures in
    let low = dart_low r.0 t r.1 e (suc k) twice.second.one_in in
    omega (arith, dart_v, low)

pub exchanged-requires-clause-one_in : goal.exchanged-requires-clause-one_in
exchanged-requires-clause-one_in c =
    let s = c.args.self.now in
    let t = lists_in s in
    let r = c.requires in
    let twice = r.2 in
    let e = c.args.e in
    let f = c.args.f in
    let i = c.args.at_e.0 in
    let k = c.args.at_e.1 in
    let turn = ltb c.args.at_f.1 c.args.at_f.0 in
    let one_is = walk_read s.walks.items e (suc k) c.index-one.result.now twice.second.one_in c.index-one.ensures in
    let is = ap length (c.deref-2.ensures.value ∙ one_is) in
    (twice.order, omega (arith, is, twice.second.one_in))

pub exchanged-requires-clause-two_in : goal.exchanged-requires-clause-two_in
exchanged-requires-clause-two_in c =
    let s = c.args.self.now in
    let t = lists_in s in
    let r = c.requires in
    let twice = r.2 in
    let e = c.args.e in
    let f = c.args.f in
    let i = c.args.at_e.0 in
    let k = c.args.at_e.1 in
    let turn = ltb c.args.at_f.1 c.args.at_f.0 in
    let two_is = walk_read s.walks.items f (suc c.args.at_f.0) c.index.result.now twice.first.two_in c.index.ensures in
    let two = c.in_ok-two.ensures ∙ ap (turned_walk turn) (c.deref.ensures.value ∙ two_is) in
    let two_size = ap length two ∙ length-turned turn (walk_in t f) in
    let size : c.len.result ≡ length (walk_in t f) = omega (arith, c.len.ensures, c.in_ok-two.two.ok.0, two_size) in
    let j_is = c.place_in_turned-j.ensures ∙ ap (λ n. place_turned turn n c.args.at_f.0) size in
    let size_two : c.len-2.result ≡ length (walk_in t f) = omega (arith, c.len-2.ensures, c.in_ok-two.two.ok.0, two_size) in
    let l_is = c.place_in_turned-l.ensures ∙ ap (λ n. place_turned turn n c.args.at_f.1) size_two in
    let back = ltb-true c.args.at_f.1 c.args.at_f.0 in
    let forth = ltb-false c.args.at_f.1 c.args.at_f.0 in
    let order = middles_order r.0 t r.1 e i k f c.args.at_f.0 c.args.at_f.1 turn twice back forth in
    let is = ap length (c.deref-3.ensures.value ∙ two) in
    (omega (arith, j_is, l_is, order.0), omega (arith, l_is, order.1, is))

pub put-requires-clause-owners : goal.put-requires-clause-owners
put-requires-clause-owners c =
    let s = c.args.self.now in
    let t = lists_in s in
    let r = c.requires in
    let twice = r.2 in
    let e = c.args.e in
    let f = c.args.f in
    let i = c.args.at_e.0 in
    let k = c.args.at_e.1 in
    let turn = ltb c.args.at_f.1 c.args.at_f.0 in
    let two_is = walk_read s.walks.items f (suc c.args.at_f.0) c.index.result.now twice.first.two_in c.index.ensures in
    let two = c.in_ok-two.ensures ∙ ap (turned_walk turn) (c.deref.ensures.value ∙ two_is) in
    let two_size = ap length two ∙ length-turned turn (walk_in t f) in
    let size : c.len.result ≡ length (walk_in t f) = omega (arith, c.len.ensures, c.in_ok-two.two.ok.0, two_size) in
    let j_is = c.place_in_turned-j.ensures ∙ ap (λ n. place_turned turn n c.args.at_f.0) size in
    let size_two : c.len-2.result ≡ length (walk_in t f) = omega (arith, c.len-2.ensures, c.in_ok-two.two.ok.0, two_size) in
    let l_is = c.place_in_turned-l.ensures ∙ ap (λ n. place_turned turn n c.args.at_f.1) size_two in
    let back = ltb-true c.args.at_f.1 c.args.at_f.0 in
    let forth = ltb-false c.args.at_f.1 c.args.at_f.0 in
    let order = middles_order r.0 t r.1 e i k f c.args.at_f.0 c.args.at_f.1 turn twice back forth in
    let one_is = walk_read s.walks.items e (suc k) c.index-one.result.now twice.second.one_in c.index-one.ensures in
    let dart_u = dart_at r.0 t r.1 e i twice.first.one_in c.index-one.result.now.items one_is c.index-2.result.now c.index-2.ensures in
    let dart_v = dart_at r.0 t r.1 e k twice.second.one_in c.index-one.result.now.items one_is c.index-3.result.now c.index-3.ensures in
    let j_now = place_turned turn (length (walk_in t f)) c.args.at_f.0 in
    let l_now = place_turned turn (length (walk_in t f)) c.args.at_f.1 in
    let one_walk = walk_in t e in
    let two_walk = turned_walk turn (walk_in t f) in
    let same = exchanged_as c.deref-2.result.now one_walk c.deref-3.result.now two_walk i k c.place_in_turned-j.result j_now c.place_in_turned-l.result l_now c.in_ok-walk.walk.items c.in_ok-walk.back.items
    (c.deref-2.ensures.value ∙ one_is) (c.deref-3.ensures.value ∙ two) j_is l_is c.in_ok-walk.ensures in
    let other = c.in_ok-other.ensures ∙ ap (turned_walk turn) (c.deref-4.ensures.value ∙ same.back_is) in
    let half = lists_in c.unmark.new.self in
    let mid = lists_in c.unmark-2.new.self in
    let half_is : half ≡ unmarked t (node_in t e i) = c.unmark.ensures ∙ ap (unmarked t) (c.tail-u.ensures.value ∙ ap (tail_of t.map.web.ends) dart_u) in
    let mid_is : mid ≡ unmarked half (node_in t e k) = c.unmark-2.ensures ∙ ap (unmarked half) (c.tail-v.ensures.value ∙ ap (tail_of t.map.web.ends) dart_v) in
    let over_one = crossing_over one_walk i two_walk j_now in
    let over_two = crossing_over two_walk j_now one_walk i in
    let may = may_two_are r.0 t e f (crossing_over over_one (i + (l_now - j_now)) over_two (j_now + (k - i))) (turned_walk turn (crossing_over over_two (j_now + (k - i)) over_one (i + (l_now - j_now)))) c.in_ok-walk.walk.items c.in_ok-other.other.items mid same.walk_is other (middles_two r.0 t r.1 e i k f c.args.at_f.0 c.args.at_f.1 turn twice back forth half mid half_is mid_is) in
    may.first.owners

pub put-requires-clause-apart : goal.put-requires-clause-apart
put-requires-clause-apart c =
    let s = c.args.self.now in
    let t = lists_in s in
    let r = c.requires in
    let twice = r.2 in
    let e = c.args.e in
    let f = c.args.f in
    let i = c.args.at_e.0 in
    let k = c.args.at_e.1 in
    let turn = ltb c.args.at_f.1 c.args.at_f.0 in
    let two_is = walk_read s.walks.items f (suc c.args.at_f.0) c.index.result.now twice.first.two_in c.index.ensures in
    let two = c.in_ok-two.ensures ∙ ap (turned_walk turn) (c.deref.ensures.value ∙ two_is) in
    let two_size = ap length two ∙ length-turned turn (walk_in t f) in
    let size : c.len.result ≡ length (walk_in t f) = omega (arith, c.len.ensures, c.in_ok-two.two.ok.0, two_size) in
    let j_is = c.place_in_turned-j.ensures ∙ ap (λ n. place_turned turn n c.args.at_f.0) size in
    let size_two : c.len-2.result ≡ length (walk_in t f) = omega (arith, c.len-2.ensures, c.in_ok-two.two.ok.0, two_size) in
    let l_is = c.place_in_turned-l.ensures ∙ ap (λ n. place_turned turn n c.args.at_f.1) size_two in
    let back = ltb-true c.args.at_f.1 c.args.at_f.0 in
    let forth = ltb-false c.args.at_f.1 c.args.at_f.0 in
    let order = middles_order r.0 t r.1 e i k f c.args.at_f.0 c.args.at_f.1 turn twice back forth in
    let one_is = walk_read s.walks.items e (suc k) c.index-one.result.now twice.second.one_in c.index-one.ensures in
    let dart_u = dart_at r.0 t r.1 e i twice.first.one_in c.index-one.result.now.items one_is c.index-2.result.now c.index-2.ensures in
    let dart_v = dart_at r.0 t r.1 e k twice.second.one_in c.index-one.result.now.items one_is c.index-3.result.now c.index-3.ensures in
    let j_now = place_turned turn (length (walk_in t f)) c.args.at_f.0 in
    let l_now = place_turned turn (length (walk_in t f)) c.args.at_f.1 in
    let one_walk = walk_in t e in
    let two_walk = turned_walk turn (walk_in t f) in
    let same = exchanged_as c.deref-2.result.now one_walk c.deref-3.result.now two_walk i k c.place_in_turned-j.result j_now c.place_in_turned-l.result l_now c.in_ok-walk.walk.items c.in_ok-walk.back.items
    (c.deref-2.ensures.value ∙ one_is) (c.deref-3.ensures.value ∙ two) j_is l_is c.in_ok-walk.ensures in
    let other = c.in_ok-other.ensures ∙ ap (turned_walk turn) (c.deref-4.ensures.value ∙ same.back_is) in
    let half = lists_in c.unmark.new.self in
    let mid = lists_in c.unmark-2.new.self in
    let half_is : half ≡ unmarked t (node_in t e i) = c.unmark.ensures ∙ ap (unmarked t) (c.tail-u.ensures.value ∙ ap (tail_of t.map.web.ends) dart_u) in
    let mid_is : mid ≡ unmarked half (node_in t e k) = c.unmark-2.ensures ∙ ap (unmarked half) (c.tail-v.ensures.value ∙ ap (tail_of t.map.web.ends) dart_v) in
    let over_one = crossing_over one_walk i two_walk j_now in
    let over_two = crossing_over two_walk j_now one_walk i in
    let may = may_two_are r.0 t e f (crossing_over over_one (i + (l_now - j_now)) over_two (j_now + (k - i))) (turned_walk turn (crossing_over over_two (j_now + (k - i)) over_one (i + (l_now - j_now)))) c.in_ok-walk.walk.items c.in_ok-other.other.items mid same.walk_is other (middles_two r.0 t r.1 e i k f c.args.at_f.0 c.args.at_f.1 turn twice back forth half mid half_is mid_is) in
    may.first.apart

pub put-requires-2-clause-edge : goal.put-requires-2-clause-edge
put-requires-2-clause-edge c =
    let s = c.args.self.now in
    let t = lists_in s in
    let r = c.requires in
    let twice = r.2 in
    let e = c.args.e in
    let f = c.args.f in
    let i = c.args.at_e.0 in
    let k = c.args.at_e.1 in
    let turn = ltb c.args.at_f.1 c.args.at_f.0 in
    let two_is = walk_read s.walks.items f (suc c.args.at_f.0) c.index.result.now twice.first.two_in c.index.ensures in
    let two = c.in_ok-two.ensures ∙ ap (turned_walk turn) (c.deref.ensures.value ∙ two_is) in
    let two_size = ap length two ∙ length-turned turn (walk_in t f) in
    let size : c.len.result ≡ length (walk_in t f) = omega (arith, c.len.ensures, c.in_ok-two.two.ok.0, two_size) in
    let j_is = c.place_in_turned-j.ensures ∙ ap (λ n. place_turned turn n c.args.at_f.0) size in
    let size_two : c.len-2.result ≡ length (walk_in t f) = omega (arith, c.len-2.ensures, c.in_ok-two.two.ok.0, two_size) in
    let l_is = c.place_in_turned-l.ensures ∙ ap (λ n. place_turned turn n c.args.at_f.1) size_two in
    let back = ltb-true c.args.at_f.1 c.args.at_f.0 in
    let forth = ltb-false c.args.at_f.1 c.args.at_f.0 in
    let order = middles_order r.0 t r.1 e i k f c.args.at_f.0 c.args.at_f.1 turn twice back forth in
    let one_is = walk_read s.walks.items e (suc k) c.index-one.result.now twice.second.one_in c.index-one.ensures in
    let dart_u = dart_at r.0 t r.1 e i twice.first.one_in c.index-one.result.now.items one_is c.index-2.result.now c.index-2.ensures in
    let dart_v = dart_at r.0 t r.1 e k twice.second.one_in c.index-one.result.now.items one_is c.index-3.result.now c.index-3.ensures in
    let j_now = place_turned turn (length (walk_in t f)) c.args.at_f.0 in
    let l_now = place_turned turn (length (walk_in t f)) c.args.at_f.1 in
    let one_walk = walk_in t e in
    let two_walk = turned_walk turn (walk_in t f) in
    let same = exchanged_as c.deref-2.result.now one_walk c.deref-3.result.now two_walk i k c.place_in_turned-j.result j_now c.place_in_turned-l.result l_now c.in_ok-walk.walk.items c.in_ok-walk.back.items
    (c.deref-2.ensures.value ∙ one_is) (c.deref-3.ensures.value ∙ two) j_is l_is c.in_ok-walk.ensures in
    let other = c.in_ok-other.ensures ∙ ap (turned_walk turn) (c.deref-4.ensures.value ∙ same.back_is) in
    let half = lists_in c.unmark.new.self in
    let mid = lists_in c.unmark-2.new.self in
    let half_is : half ≡ unmarked t (node_in t e i) = c.unmark.ensures ∙ ap (unmarked t) (c.tail-u.ensures.value ∙ ap (tail_of t.map.web.ends) dart_u) in
    let mid_is : mid ≡ unmarked half (node_in t e k) = c.unmark-2.ensures ∙ ap (unmarked half) (c.tail-v.ensures.value ∙ ap (tail_of t.map.web.ends) dart_v) in
    let over_one = crossing_over one_walk i two_walk j_now in
    let over_two = crossing_over two_walk j_now one_walk i in
    let may = may_two_are r.0 t e f (crossing_over over_one (i + (l_now - j_now)) over_two (j_now + (k - i))) (turned_walk turn (crossing_over over_two (j_now + (k - i)) over_one (i + (l_now - j_now)))) c.in_ok-walk.walk.items c.in_ok-other.other.items mid same.walk_is other (middles_two r.0 t r.1 e i k f c.args.at_f.0 c.args.at_f.1 turn twice back forth half mid half_is mid_is) in
    let edge = (may.second (lists_in c.put.new.self) c.put.ensures).edge in
    let count = length-map c.put.new.self.walks.items vec_items in
    omega (arith, edge, count)

pub put-requires-2-clause-owners : goal.put-requires-2-clause-owners
put-requires-2-clause-owners c =
    let s = c.args.self.now in
    let t = lists_in s in
    let r = c.requires in
    let twice = r.2 in
    let e = c.args.e in
    let f = c.args.f in
    let i = c.args.at_e.0 in
    let k = c.args.at_e.1 in
    let turn = ltb c.args.at_f.1 c.args.at_f.0 in
    let two_is = walk_read s.walks.items f (suc c.args.at_f.0) c.index.result.now twice.first.two_in c.index.ensures in
    let two = c.in_ok-two.ensures ∙ ap (turned_walk turn) (c.deref.ensures.value ∙ two_is) in
    let two_size = ap length two ∙ length-turned turn (walk_in t f) in
    let size : c.len.result ≡ length (walk_in t f) = omega (arith, c.len.ensures, c.in_ok-two.two.ok.0, two_size) in
    let j_is = c.place_in_turned-j.ensures ∙ ap (λ n. place_turned turn n c.args.at_f.0) size in
    let size_two : c.len-2.result ≡ length (walk_in t f) = omega (arith, c.len-2.ensures, c.in_ok-two.two.ok.0, two_size) in
    let l_is = c.place_in_turned-l.ensures ∙ ap (λ n. place_turned turn n c.args.at_f.1) size_two in
    let back = ltb-true c.args.at_f.1 c.args.at_f.0 in
    let forth = ltb-false c.args.at_f.1 c.args.at_f.0 in
    let order = middles_order r.0 t r.1 e i k f c.args.at_f.0 c.args.at_f.1 turn twice back forth in
    let one_is = walk_read s.walks.items e (suc k) c.index-one.result.now twice.second.one_in c.index-one.ensures in
    let dart_u = dart_at r.0 t r.1 e i twice.first.one_in c.index-one.result.now.items one_is c.index-2.result.now c.index-2.ensures in
    let dart_v = dart_at r.0 t r.1 e k twice.second.one_in c.index-one.result.now.items one_is c.index-3.result.now c.index-3.ensures in
    let j_now = place_turned turn (length (walk_in t f)) c.args.at_f.0 in
    let l_now = place_turned turn (length (walk_in t f)) c.args.at_f.1 in
    let one_walk = walk_in t e in
    let two_walk = turned_walk turn (walk_in t f) in
    let same = exchanged_as c.deref-2.result.now one_walk c.deref-3.result.now two_walk i k c.place_in_turned-j.result j_now c.place_in_turned-l.result l_now c.in_ok-walk.walk.items c.in_ok-walk.back.items
    (c.deref-2.ensures.value ∙ one_is) (c.deref-3.ensures.value ∙ two) j_is l_is c.in_ok-walk.ensures in
    let other = c.in_ok-other.ensures ∙ ap (turned_walk turn) (c.deref-4.ensures.value ∙ same.back_is) in
    let half = lists_in c.unmark.new.self in
    let mid = lists_in c.unmark-2.new.self in
    let half_is : half ≡ unmarked t (node_in t e i) = c.unmark.ensures ∙ ap (unmarked t) (c.tail-u.ensures.value ∙ ap (tail_of t.map.web.ends) dart_u) in
    let mid_is : mid ≡ unmarked half (node_in t e k) = c.unmark-2.ensures ∙ ap (unmarked half) (c.tail-v.ensures.value ∙ ap (tail_of t.map.web.ends) dart_v) in
    let over_one = crossing_over one_walk i two_walk j_now in
    let over_two = crossing_over two_walk j_now one_walk i in
    let may = may_two_are r.0 t e f (crossing_over over_one (i + (l_now - j_now)) over_two (j_now + (k - i))) (turned_walk turn (crossing_over over_two (j_now + (k - i)) over_one (i + (l_now - j_now)))) c.in_ok-walk.walk.items c.in_ok-other.other.items mid same.walk_is other (middles_two r.0 t r.1 e i k f c.args.at_f.0 c.args.at_f.1 turn twice back forth half mid half_is mid_is) in
    (may.second (lists_in c.put.new.self) c.put.ensures).owners

pub put-requires-2-clause-apart : goal.put-requires-2-clause-apart
put-requires-2-clause-apart c =
    let s = c.args.self.now in
    let t = lists_in s in
    let r = c.requires in
    let twice = r.2 in
    let e = c.args.e in
    let f = c.args.f in
    let i = c.args.at_e.0 in
    let k = c.args.at_e.1 in
    let turn = ltb c.args.at_f.1 c.args.at_f.0 in
    let two_is = walk_read s.walks.items f (suc c.args.at_f.0) c.index.result.now twice.first.two_in c.index.ensures in
    let two = c.in_ok-two.ensures ∙ ap (turned_walk turn) (c.deref.ensures.value ∙ two_is) in
    let two_size = ap length two ∙ length-turned turn (walk_in t f) in
    let size : c.len.result ≡ length (walk_in t f) = omega (arith, c.len.ensures, c.in_ok-two.two.ok.0, two_size) in
    let j_is = c.place_in_turned-j.ensures ∙ ap (λ n. place_turned turn n c.args.at_f.0) size in
    let size_two : c.len-2.result ≡ length (walk_in t f) = omega (arith, c.len-2.ensures, c.in_ok-two.two.ok.0, two_size) in
    let l_is = c.place_in_turned-l.ensures ∙ ap (λ n. place_turned turn n c.args.at_f.1) size_two in
    let back = ltb-true c.args.at_f.1 c.args.at_f.0 in
    let forth = ltb-false c.args.at_f.1 c.args.at_f.0 in
    let order = middles_order r.0 t r.1 e i k f c.args.at_f.0 c.args.at_f.1 turn twice back forth in
    let one_is = walk_read s.walks.items e (suc k) c.index-one.result.now twice.second.one_in c.index-one.ensures in
    let dart_u = dart_at r.0 t r.1 e i twice.first.one_in c.index-one.result.now.items one_is c.index-2.result.now c.index-2.ensures in
    let dart_v = dart_at r.0 t r.1 e k twice.second.one_in c.index-one.result.now.items one_is c.index-3.result.now c.index-3.ensures in
    let j_now = place_turned turn (length (walk_in t f)) c.args.at_f.0 in
    let l_now = place_turned turn (length (walk_in t f)) c.args.at_f.1 in
    let one_walk = walk_in t e in
    let two_walk = turned_walk turn (walk_in t f) in
    let same = exchanged_as c.deref-2.result.now one_walk c.deref-3.result.now two_walk i k c.place_in_turned-j.result j_now c.place_in_turned-l.result l_now c.in_ok-walk.walk.items c.in_ok-walk.back.items
    (c.deref-2.ensures.value ∙ one_is) (c.deref-3.ensures.value ∙ two) j_is l_is c.in_ok-walk.ensures in
    let other = c.in_ok-other.ensures ∙ ap (turned_walk turn) (c.deref-4.ensures.value ∙ same.back_is) in
    let half = lists_in c.unmark.new.self in
    let mid = lists_in c.unmark-2.new.self in
    let half_is : half ≡ unmarked t (node_in t e i) = c.unmark.ensures ∙ ap (unmarked t) (c.tail-u.ensures.value ∙ ap (tail_of t.map.web.ends) dart_u) in
    let mid_is : mid ≡ unmarked half (node_in t e k) = c.unmark-2.ensures ∙ ap (unmarked half) (c.tail-v.ensures.value ∙ ap (tail_of t.map.web.ends) dart_v) in
    let over_one = crossing_over one_walk i two_walk j_now in
    let over_two = crossing_over two_walk j_now one_walk i in
    let may = may_two_are r.0 t e f (crossing_over over_one (i + (l_now - j_now)) over_two (j_now + (k - i))) (turned_walk turn (crossing_over over_two (j_now + (k - i)) over_one (i + (l_now - j_now)))) c.in_ok-walk.walk.items c.in_ok-other.other.items mid same.walk_is other (middles_two r.0 t r.1 e i k f c.args.at_f.0 c.args.at_f.1 turn twice back forth half mid half_is mid_is) in
    (may.second (lists_in c.put.new.self) c.put.ensures).apart

pub returns : goal.returns
returns c = λ g tangle twice.
    let s = c.args.self.now in
    let t = lists_in s in
    let e = c.args.e in
    let f = c.args.f in
    let i = c.args.at_e.0 in
    let k = c.args.at_e.1 in
    let turn = ltb c.args.at_f.1 c.args.at_f.0 in
    let two_is = walk_read s.walks.items f (suc c.args.at_f.0) c.index.result.now twice.first.two_in c.index.ensures in
    let two = c.in_ok-two.ensures ∙ ap (turned_walk turn) (c.deref.ensures.value ∙ two_is) in
    let two_size = ap length two ∙ length-turned turn (walk_in t f) in
    let size : c.len.result ≡ length (walk_in t f) = omega (arith, c.len.ensures, c.in_ok-two.two.ok.0, two_size) in
    let j_is = c.place_in_turned-j.ensures ∙ ap (λ n. place_turned turn n c.args.at_f.0) size in
    let size_two : c.len-2.result ≡ length (walk_in t f) = omega (arith, c.len-2.ensures, c.in_ok-two.two.ok.0, two_size) in
    let l_is = c.place_in_turned-l.ensures ∙ ap (λ n. place_turned turn n c.args.at_f.1) size_two in
    let back = ltb-true c.args.at_f.1 c.args.at_f.0 in
    let forth = ltb-false c.args.at_f.1 c.args.at_f.0 in
    let order = middles_order g t tangle e i k f c.args.at_f.0 c.args.at_f.1 turn twice back forth in
    let one_is = walk_read s.walks.items e (suc k) c.index-one.result.now twice.second.one_in c.index-one.ensures in
    let dart_u = dart_at g t tangle e i twice.first.one_in c.index-one.result.now.items one_is c.index-2.result.now c.index-2.ensures in
    let dart_v = dart_at g t tangle e k twice.second.one_in c.index-one.result.now.items one_is c.index-3.result.now c.index-3.ensures in
    let j_now = place_turned turn (length (walk_in t f)) c.args.at_f.0 in
    let l_now = place_turned turn (length (walk_in t f)) c.args.at_f.1 in
    let one_walk = walk_in t e in
    let two_walk = turned_walk turn (walk_in t f) in
    let same = exchanged_as c.deref-2.result.now one_walk c.deref-3.result.now two_walk i k c.place_in_turned-j.result j_now c.place_in_turned-l.result l_now c.in_ok-walk.walk.items c.in_ok-walk.back.items
    (c.deref-2.ensures.value ∙ one_is) (c.deref-3.ensures.value ∙ two) j_is l_is c.in_ok-walk.ensures in
    let other = c.in_ok-other.ensures ∙ ap (turned_walk turn) (c.deref-4.ensures.value ∙ same.back_is) in
    let half = lists_in c.unmark.new.self in
    let mid = lists_in c.unmark-2.new.self in
    let half_is : half ≡ unmarked t (node_in t e i) = c.unmark.ensures ∙ ap (unmarked t) (c.tail-u.ensures.value ∙ ap (tail_of t.map.web.ends) dart_u) in
    let mid_is : mid ≡ unmarked half (node_in t e k) = c.unmark-2.ensures ∙ ap (unmarked half) (c.tail-v.ensures.value ∙ ap (tail_of t.map.web.ends) dart_v) in
    let over_one = crossing_over one_walk i two_walk j_now in
    let over_two = crossing_over two_walk j_now one_walk i in
    let may = may_two_are g t e f (crossing_over over_one (i + (l_now - j_now)) over_two (j_now + (k - i))) (turned_walk turn (crossing_over over_two (j_now + (k - i)) over_one (i + (l_now - j_now)))) c.in_ok-walk.walk.items c.in_ok-other.other.items mid same.walk_is other (middles_two g t tangle e i k f c.args.at_f.0 c.args.at_f.1 turn twice back forth half mid half_is mid_is) in
    may.leaves (lists_in c.put.new.self) (lists_in c.put-2.new.self) c.put.ensures c.put-2.ensures
