use Rattle.std.proofs.Common.{◌≡◌, suc, length, vec_items, ◌∙◌, ap, arith}
use Rattle.std.proofs.lemmas.List.{length-map}
use Rattle.xn_model.specs.Map.{tail_of}
use Rattle.xn_track.specs.Steps.{crossing_over, turned_walk}
use Rattle.xn_simple.specs.Tangle.{lists_in, node_in, unmarked, walk_in}
use Rattle.xn_simple.specs.Untangling.{place_turned}
use Rattle.xn_simple.proofs.Changed.{begins_first, begins_second, begins_two, crossing_same, may_two_are, read_at, turned_low}
use Rattle.xn_simple.proofs.Noted.{walk_read}
use Rattle.xn_simple.proofs.Turned.{length-turned}
use Rattle.xn_simple.proofs.tangle.Tangle.change_beginnings.Goals as goal

pub place_in_turned-i-requires : goal.place_in_turned-i-requires
place_in_turned-i-requires c =
    let s = c.args.self.now in
    let t = lists_in s in
    let r = c.requires in
    let m = r.2.1 in
    let one = c.args.one in
    let two = c.args.two in
    let one_is = walk_read s.walks.items one.edge (suc one.place) c.index.result.now m.one_in c.index.ensures in
    let first = c.in_ok-first.ensures ∙ ap (turned_walk c.args.s) (c.deref.ensures.value ∙ one_is) in
    let size : c.len.result ≡ length (walk_in t one.edge) = let is = ap length first ∙ length-turned c.args.s (walk_in t one.edge) in omega (arith, c.len.ensures, c.in_ok-first.first.ok.0, is) in
    omega (arith, size, m.one_in)

pub place_in_turned-j-requires : goal.place_in_turned-j-requires
place_in_turned-j-requires c =
    let s = c.args.self.now in
    let t = lists_in s in
    let r = c.requires in
    let m = r.2.1 in
    let one = c.args.one in
    let two = c.args.two in
    let two_is = walk_read s.walks.items two.edge (suc two.place) c.index-2.result.now m.two_in c.index-2.ensures in
    let second = c.in_ok-second.ensures ∙ ap (turned_walk c.args.t) (c.deref-2.ensures.value ∙ two_is) in
    let size_two : c.len-2.result ≡ length (walk_in t two.edge) = let is = ap length second ∙ length-turned c.args.t (walk_in t two.edge) in omega (arith, c.len-2.ensures, c.in_ok-second.second.ok.0, is) in
    omega (arith, size_two, m.two_in)

pub overflow_add-i : goal.overflow_add-i
overflow_add-i c =
    let s = c.args.self.now in
    let t = lists_in s in
    let r = c.requires in
    let m = r.2.1 in
    let one = c.args.one in
    let two = c.args.two in
    let one_is = walk_read s.walks.items one.edge (suc one.place) c.index.result.now m.one_in c.index.ensures in
    let first = c.in_ok-first.ensures ∙ ap (turned_walk c.args.s) (c.deref.ensures.value ∙ one_is) in
    let size : c.len.result ≡ length (walk_in t one.edge) = let is = ap length first ∙ length-turned c.args.s (walk_in t one.edge) in omega (arith, c.len.ensures, c.in_ok-first.first.ok.0, is) in
    let i_is = c.place_in_turned-i.ensures ∙ ap (λ n. place_turned c.args.s n one.place) size in
    let begins = begins_first r.0 t r.1 one.edge one.place two c.args.s c.args.t r.2 in
    let is = length-turned c.args.s (walk_in t one.edge) in
    omega (arith, size, i_is, begins.0, is)

pub index-requires-3 : goal.index-requires-3
index-requires-3 c =
    let s = c.args.self.now in
    let t = lists_in s in
    let r = c.requires in
    let m = r.2.1 in
    let one = c.args.one in
    let two = c.args.two in
    let one_is = walk_read s.walks.items one.edge (suc one.place) c.index.result.now m.one_in c.index.ensures in
    let first = c.in_ok-first.ensures ∙ ap (turned_walk c.args.s) (c.deref.ensures.value ∙ one_is) in
    let size : c.len.result ≡ length (walk_in t one.edge) = let is = ap length first ∙ length-turned c.args.s (walk_in t one.edge) in omega (arith, c.len.ensures, c.in_ok-first.first.ok.0, is) in
    let i_is = c.place_in_turned-i.ensures ∙ ap (λ n. place_turned c.args.s n one.place) size in
    let begins = begins_first r.0 t r.1 one.edge one.place two c.args.s c.args.t r.2 in
    let is = length-turned c.args.s (walk_in t one.edge) in
    omega (arith, size, i_is, begins.0, is, c.len.ensures)

pub tail-v-requires : goal.tail-v-requires
tail-v-requires c =
    let s = c.args.self.now in
    let t = lists_in s in
    let r = c.requires in
    let m = r.2.1 in
    let one = c.args.one in
    let two = c.args.two in
    let one_is = walk_read s.walks.items one.edge (suc one.place) c.index.result.now m.one_in c.index.ensures in
    let first = c.in_ok-first.ensures ∙ ap (turned_walk c.args.s) (c.deref.ensures.value ∙ one_is) in
    let size : c.len.result ≡ length (walk_in t one.edge) = let is = ap length first ∙ length-turned c.args.s (walk_in t one.edge) in omega (arith, c.len.ensures, c.in_ok-first.first.ok.0, is) in
    let i_is = c.place_in_turned-i.ensures ∙ ap (λ n. place_turned c.args.s n one.place) size in
    let begins = begins_first r.0 t r.1 one.edge one.place two c.args.s c.args.t r.2 in
    let first_place = place_turned c.args.s (length (walk_in t one.edge)) one.place in
    let dart = read_at c.in_ok-first.first.items (turned_walk c.args.s (walk_in t one.edge)) c.place_in_turned-i.result first_place c.index-3.result.now first i_is begins.0 c.index-3.ensures in
    let low = turned_low r.0 t r.1 c.args.s one.edge (suc first_place) begins.0 in
    omega (arith, dart, low)

pub crossed_over-requires-clause-i_in : goal.crossed_over-requires-clause-i_in
crossed_over-requires-clause-i_in c =
    let s = c.args.self.now in
    let t = lists_in s in
    let r = c.requires in
    let m = r.2.1 in
    let one = c.args.one in
    let two = c.args.two in
    let two_is = walk_read s.walks.items two.edge (suc two.place) c.index-2.result.now m.two_in c.index-2.ensures in
    let second = c.in_ok-second.ensures ∙ ap (turned_walk c.args.t) (c.deref-2.ensures.value ∙ two_is) in
    let size_two : c.len-2.result ≡ length (walk_in t two.edge) = let is = ap length second ∙ length-turned c.args.t (walk_in t two.edge) in omega (arith, c.len-2.ensures, c.in_ok-second.second.ok.0, is) in
    let j_is = c.place_in_turned-j.ensures ∙ ap (λ n. place_turned c.args.t n two.place) size_two in
    let begins_two_in = begins_second r.0 t r.1 one.edge one.place two c.args.s c.args.t r.2 in
    let is = ap length (c.deref-3.ensures.value ∙ second) in
    omega (arith, j_is, begins_two_in, is)

pub crossed_over-requires-clause-j_in : goal.crossed_over-requires-clause-j_in
crossed_over-requires-clause-j_in c =
    let s = c.args.self.now in
    let t = lists_in s in
    let r = c.requires in
    let m = r.2.1 in
    let one = c.args.one in
    let two = c.args.two in
    let one_is = walk_read s.walks.items one.edge (suc one.place) c.index.result.now m.one_in c.index.ensures in
    let first = c.in_ok-first.ensures ∙ ap (turned_walk c.args.s) (c.deref.ensures.value ∙ one_is) in
    let size : c.len.result ≡ length (walk_in t one.edge) = let is = ap length first ∙ length-turned c.args.s (walk_in t one.edge) in omega (arith, c.len.ensures, c.in_ok-first.first.ok.0, is) in
    let i_is = c.place_in_turned-i.ensures ∙ ap (λ n. place_turned c.args.s n one.place) size in
    let begins = begins_first r.0 t r.1 one.edge one.place two c.args.s c.args.t r.2 in
    let is = ap length (c.deref-4.ensures.value ∙ first) in
    omega (arith, i_is, begins.0, is)

pub crossed_over-requires-2-clause-i_in : goal.crossed_over-requires-2-clause-i_in
crossed_over-requires-2-clause-i_in c =
    let s = c.args.self.now in
    let t = lists_in s in
    let r = c.requires in
    let m = r.2.1 in
    let one = c.args.one in
    let two = c.args.two in
    let one_is = walk_read s.walks.items one.edge (suc one.place) c.index.result.now m.one_in c.index.ensures in
    let first = c.in_ok-first.ensures ∙ ap (turned_walk c.args.s) (c.deref.ensures.value ∙ one_is) in
    let size : c.len.result ≡ length (walk_in t one.edge) = let is = ap length first ∙ length-turned c.args.s (walk_in t one.edge) in omega (arith, c.len.ensures, c.in_ok-first.first.ok.0, is) in
    let i_is = c.place_in_turned-i.ensures ∙ ap (λ n. place_turned c.args.s n one.place) size in
    let begins = begins_first r.0 t r.1 one.edge one.place two c.args.s c.args.t r.2 in
    let is = ap length (c.deref-5.ensures.value ∙ first) in
    omega (arith, i_is, begins.0, is)

pub crossed_over-requires-2-clause-j_in : goal.crossed_over-requires-2-clause-j_in
crossed_over-requires-2-clause-j_in c =
    let s = c.args.self.now in
    let t = lists_in s in
    let r = c.requires in
    let m = r.2.1 in
    let one = c.args.one in
    let two = c.args.two in
    let two_is = walk_read s.walks.items two.edge (suc two.place) c.index-2.result.now m.two_in c.index-2.ensures in
    let second = c.in_ok-second.ensures ∙ ap (turned_walk c.args.t) (c.deref-2.ensures.value ∙ two_is) in
    let size_two : c.len-2.result ≡ length (walk_in t two.edge) = let is = ap length second ∙ length-turned c.args.t (walk_in t two.edge) in omega (arith, c.len-2.ensures, c.in_ok-second.second.ok.0, is) in
    let j_is = c.place_in_turned-j.ensures ∙ ap (λ n. place_turned c.args.t n two.place) size_two in
    let begins_two_in = begins_second r.0 t r.1 one.edge one.place two c.args.s c.args.t r.2 in
    let is = ap length (c.deref-6.ensures.value ∙ second) in
    omega (arith, j_is, begins_two_in, is)

pub put-requires-clause-owners : goal.put-requires-clause-owners
put-requires-clause-owners c =
    let s = c.args.self.now in
    let t = lists_in s in
    let r = c.requires in
    let m = r.2.1 in
    let one = c.args.one in
    let two = c.args.two in
    let one_is = walk_read s.walks.items one.edge (suc one.place) c.index.result.now m.one_in c.index.ensures in
    let first = c.in_ok-first.ensures ∙ ap (turned_walk c.args.s) (c.deref.ensures.value ∙ one_is) in
    let two_is = walk_read s.walks.items two.edge (suc two.place) c.index-2.result.now m.two_in c.index-2.ensures in
    let second = c.in_ok-second.ensures ∙ ap (turned_walk c.args.t) (c.deref-2.ensures.value ∙ two_is) in
    let size : c.len.result ≡ length (walk_in t one.edge) = let is = ap length first ∙ length-turned c.args.s (walk_in t one.edge) in omega (arith, c.len.ensures, c.in_ok-first.first.ok.0, is) in
    let i_is = c.place_in_turned-i.ensures ∙ ap (λ n. place_turned c.args.s n one.place) size in
    let size_two : c.len-2.result ≡ length (walk_in t two.edge) = let is = ap length second ∙ length-turned c.args.t (walk_in t two.edge) in omega (arith, c.len-2.ensures, c.in_ok-second.second.ok.0, is) in
    let j_is = c.place_in_turned-j.ensures ∙ ap (λ n. place_turned c.args.t n two.place) size_two in
    let begins = begins_first r.0 t r.1 one.edge one.place two c.args.s c.args.t r.2 in
    let first_place = place_turned c.args.s (length (walk_in t one.edge)) one.place in
    let dart = read_at c.in_ok-first.first.items (turned_walk c.args.s (walk_in t one.edge)) c.place_in_turned-i.result first_place c.index-3.result.now first i_is begins.0 c.index-3.ensures in
    let second_place = place_turned c.args.t (length (walk_in t two.edge)) two.place in
    let first_walk = turned_walk c.args.s (walk_in t one.edge) in
    let second_walk = turned_walk c.args.t (walk_in t two.edge) in
    let over_two = c.in_ok-over_second.ensures ∙ crossing_same c.deref-3.result.now second_walk c.deref-4.result.now first_walk c.place_in_turned-j.result second_place c.place_in_turned-i.result first_place (c.deref-3.ensures.value ∙ second) j_is (c.deref-4.ensures.value ∙ first) i_is in
    let over_one = c.in_ok-over_first.ensures ∙ crossing_same c.deref-5.result.now first_walk c.deref-6.result.now second_walk c.place_in_turned-i.result first_place c.place_in_turned-j.result second_place (c.deref-5.ensures.value ∙ first) i_is (c.deref-6.ensures.value ∙ second) j_is in
    let walk = c.in_ok-walk.ensures ∙ ap (turned_walk c.args.s) (c.deref-7.ensures.value ∙ over_two) in
    let other = c.in_ok-other.ensures ∙ ap (turned_walk c.args.t) (c.deref-8.ensures.value ∙ over_one) in
    let mid = lists_in c.unmark.new.self in
    let mid_is : mid ≡ unmarked t (node_in t one.edge one.place) = c.unmark.ensures ∙ ap (unmarked t) (c.tail-v.ensures.value ∙ ap (tail_of t.map.web.ends) dart ∙ begins.1) in
    let may = may_two_are r.0 t one.edge two.edge (turned_walk c.args.s (crossing_over second_walk second_place first_walk first_place)) (turned_walk c.args.t (crossing_over first_walk first_place second_walk second_place)) c.in_ok-walk.walk.items c.in_ok-other.other.items mid walk other (begins_two r.0 t r.1 one.edge one.place two c.args.s c.args.t r.2 mid mid_is) in
    may.first.owners

pub put-requires-clause-apart : goal.put-requires-clause-apart
put-requires-clause-apart c =
    let s = c.args.self.now in
    let t = lists_in s in
    let r = c.requires in
    let m = r.2.1 in
    let one = c.args.one in
    let two = c.args.two in
    let one_is = walk_read s.walks.items one.edge (suc one.place) c.index.result.now m.one_in c.index.ensures in
    let first = c.in_ok-first.ensures ∙ ap (turned_walk c.args.s) (c.deref.ensures.value ∙ one_is) in
    let two_is = walk_read s.walks.items two.edge (suc two.place) c.index-2.result.now m.two_in c.index-2.ensures in
    let second = c.in_ok-second.ensures ∙ ap (turned_walk c.args.t) (c.deref-2.ensures.value ∙ two_is) in
    let size : c.len.result ≡ length (walk_in t one.edge) = let is = ap length first ∙ length-turned c.args.s (walk_in t one.edge) in omega (arith, c.len.ensures, c.in_ok-first.first.ok.0, is) in
    let i_is = c.place_in_turned-i.ensures ∙ ap (λ n. place_turned c.args.s n one.place) size in
    let size_two : c.len-2.result ≡ length (walk_in t two.edge) = let is = ap length second ∙ length-turned c.args.t (walk_in t two.edge) in omega (arith, c.len-2.ensures, c.in_ok-second.second.ok.0, is) in
    let j_is = c.place_in_turned-j.ensures ∙ ap (λ n. place_turned c.args.t n two.place) size_two in
    let begins = begins_first r.0 t r.1 one.edge one.place two c.args.s c.args.t r.2 in
    let first_place = place_turned c.args.s (length (walk_in t one.edge)) one.place in
    let dart = read_at c.in_ok-first.first.items (turned_walk c.args.s (walk_in t one.edge)) c.place_in_turned-i.result first_place c.index-3.result.now first i_is begins.0 c.index-3.ensures in
    let second_place = place_turned c.args.t (length (walk_in t two.edge)) two.place in
    let first_walk = turned_walk c.args.s (walk_in t one.edge) in
    let second_walk = turned_walk c.args.t (walk_in t two.edge) in
    let over_two = c.in_ok-over_second.ensures ∙ crossing_same c.deref-3.result.now second_walk c.deref-4.result.now first_walk c.place_in_turned-j.result second_place c.place_in_turned-i.result first_place (c.deref-3.ensures.value ∙ second) j_is (c.deref-4.ensures.value ∙ first) i_is in
    let over_one = c.in_ok-over_first.ensures ∙ crossing_same c.deref-5.result.now first_walk c.deref-6.result.now second_walk c.place_in_turned-i.result first_place c.place_in_turned-j.result second_place (c.deref-5.ensures.value ∙ first) i_is (c.deref-6.ensures.value ∙ second) j_is in
    let walk = c.in_ok-walk.ensures ∙ ap (turned_walk c.args.s) (c.deref-7.ensures.value ∙ over_two) in
    let other = c.in_ok-other.ensures ∙ ap (turned_walk c.args.t) (c.deref-8.ensures.value ∙ over_one) in
    let mid = lists_in c.unmark.new.self in
    let mid_is : mid ≡ unmarked t (node_in t one.edge one.place) = c.unmark.ensures ∙ ap (unmarked t) (c.tail-v.ensures.value ∙ ap (tail_of t.map.web.ends) dart ∙ begins.1) in
    let may = may_two_are r.0 t one.edge two.edge (turned_walk c.args.s (crossing_over second_walk second_place first_walk first_place)) (turned_walk c.args.t (crossing_over first_walk first_place second_walk second_place)) c.in_ok-walk.walk.items c.in_ok-other.other.items mid walk other (begins_two r.0 t r.1 one.edge one.place two c.args.s c.args.t r.2 mid mid_is) in
    may.first.apart

pub put-requires-2-clause-edge : goal.put-requires-2-clause-edge
put-requires-2-clause-edge c =
    let s = c.args.self.now in
    let t = lists_in s in
    let r = c.requires in
    let m = r.2.1 in
    let one = c.args.one in
    let two = c.args.two in
    let one_is = walk_read s.walks.items one.edge (suc one.place) c.index.result.now m.one_in c.index.ensures in
    let first = c.in_ok-first.ensures ∙ ap (turned_walk c.args.s) (c.deref.ensures.value ∙ one_is) in
    let two_is = walk_read s.walks.items two.edge (suc two.place) c.index-2.result.now m.two_in c.index-2.ensures in
    let second = c.in_ok-second.ensures ∙ ap (turned_walk c.args.t) (c.deref-2.ensures.value ∙ two_is) in
    let size : c.len.result ≡ length (walk_in t one.edge) = let is = ap length first ∙ length-turned c.args.s (walk_in t one.edge) in omega (arith, c.len.ensures, c.in_ok-first.first.ok.0, is) in
    let i_is = c.place_in_turned-i.ensures ∙ ap (λ n. place_turned c.args.s n one.place) size in
    let size_two : c.len-2.result ≡ length (walk_in t two.edge) = let is = ap length second ∙ length-turned c.args.t (walk_in t two.edge) in omega (arith, c.len-2.ensures, c.in_ok-second.second.ok.0, is) in
    let j_is = c.place_in_turned-j.ensures ∙ ap (λ n. place_turned c.args.t n two.place) size_two in
    let begins = begins_first r.0 t r.1 one.edge one.place two c.args.s c.args.t r.2 in
    let first_place = place_turned c.args.s (length (walk_in t one.edge)) one.place in
    let dart = read_at c.in_ok-first.first.items (turned_walk c.args.s (walk_in t one.edge)) c.place_in_turned-i.result first_place c.index-3.result.now first i_is begins.0 c.index-3.ensures in
    let second_place = place_turned c.args.t (length (walk_in t two.edge)) two.place in
    let first_walk = turned_walk c.args.s (walk_in t one.edge) in
    let second_walk = turned_walk c.args.t (walk_in t two.edge) in
    let over_two = c.in_ok-over_second.ensures ∙ crossing_same c.deref-3.result.now second_walk c.deref-4.result.now first_walk c.place_in_turned-j.result second_place c.place_in_turned-i.result first_place (c.deref-3.ensures.value ∙ second) j_is (c.deref-4.ensures.value ∙ first) i_is in
    let over_one = c.in_ok-over_first.ensures ∙ crossing_same c.deref-5.result.now first_walk c.deref-6.result.now second_walk c.place_in_turned-i.result first_place c.place_in_turned-j.result second_place (c.deref-5.ensures.value ∙ first) i_is (c.deref-6.ensures.value ∙ second) j_is in
    let walk = c.in_ok-walk.ensures ∙ ap (turned_walk c.args.s) (c.deref-7.ensures.value ∙ over_two) in
    let other = c.in_ok-other.ensures ∙ ap (turned_walk c.args.t) (c.deref-8.ensures.value ∙ over_one) in
    let mid = lists_in c.unmark.new.self in
    let mid_is : mid ≡ unmarked t (node_in t one.edge one.place) = c.unmark.ensures ∙ ap (unmarked t) (c.tail-v.ensures.value ∙ ap (tail_of t.map.web.ends) dart ∙ begins.1) in
    let may = may_two_are r.0 t one.edge two.edge (turned_walk c.args.s (crossing_over second_walk second_place first_walk first_place)) (turned_walk c.args.t (crossing_over first_walk first_place second_walk second_place)) c.in_ok-walk.walk.items c.in_ok-other.other.items mid walk other (begins_two r.0 t r.1 one.edge one.place two c.args.s c.args.t r.2 mid mid_is) in
    let edge = (may.second (lists_in c.put.new.self) c.put.ensures).edge in
    let count = length-map c.put.new.self.walks.items vec_items in
    omega (arith, edge, count)

pub put-requires-2-clause-owners : goal.put-requires-2-clause-owners
put-requires-2-clause-owners c =
    let s = c.args.self.now in
    let t = lists_in s in
    let r = c.requires in
    let m = r.2.1 in
    let one = c.args.one in
    let two = c.args.two in
    let one_is = walk_read s.walks.items one.edge (suc one.place) c.index.result.now m.one_in c.index.ensures in
    let first = c.in_ok-first.ensures ∙ ap (turned_walk c.args.s) (c.deref.ensures.value ∙ one_is) in
    let two_is = walk_read s.walks.items two.edge (suc two.place) c.index-2.result.now m.two_in c.index-2.ensures in
    let second = c.in_ok-second.ensures ∙ ap (turned_walk c.args.t) (c.deref-2.ensures.value ∙ two_is) in
    let size : c.len.result ≡ length (walk_in t one.edge) = let is = ap length first ∙ length-turned c.args.s (walk_in t one.edge) in omega (arith, c.len.ensures, c.in_ok-first.first.ok.0, is) in
    let i_is = c.place_in_turned-i.ensures ∙ ap (λ n. place_turned c.args.s n one.place) size in
    let size_two : c.len-2.result ≡ length (walk_in t two.edge) = let is = ap length second ∙ length-turned c.args.t (walk_in t two.edge) in omega (arith, c.len-2.ensures, c.in_ok-second.second.ok.0, is) in
    let j_is = c.place_in_turned-j.ensures ∙ ap (λ n. place_turned c.args.t n two.place) size_two in
    let begins = begins_first r.0 t r.1 one.edge one.place two c.args.s c.args.t r.2 in
    let first_place = place_turned c.args.s (length (walk_in t one.edge)) one.place in
    let dart = read_at c.in_ok-first.first.items (turned_walk c.args.s (walk_in t one.edge)) c.place_in_turned-i.result first_place c.index-3.result.now first i_is begins.0 c.index-3.ensures in
    let second_place = place_turned c.args.t (length (walk_in t two.edge)) two.place in
    let first_walk = turned_walk c.args.s (walk_in t one.edge) in
    let second_walk = turned_walk c.args.t (walk_in t two.edge) in
    let over_two = c.in_ok-over_second.ensures ∙ crossing_same c.deref-3.result.now second_walk c.deref-4.result.now first_walk c.place_in_turned-j.result second_place c.place_in_turned-i.result first_place (c.deref-3.ensures.value ∙ second) j_is (c.deref-4.ensures.value ∙ first) i_is in
    let over_one = c.in_ok-over_first.ensures ∙ crossing_same c.deref-5.result.now first_walk c.deref-6.result.now second_walk c.place_in_turned-i.result first_place c.place_in_turned-j.result second_place (c.deref-5.ensures.value ∙ first) i_is (c.deref-6.ensures.value ∙ second) j_is in
    let walk = c.in_ok-walk.ensures ∙ ap (turned_walk c.args.s) (c.deref-7.ensures.value ∙ over_two) in
    let other = c.in_ok-other.ensures ∙ ap (turned_walk c.args.t) (c.deref-8.ensures.value ∙ over_one) in
    let mid = lists_in c.unmark.new.self in
    let mid_is : mid ≡ unmarked t (node_in t one.edge one.place) = c.unmark.ensures ∙ ap (unmarked t) (c.tail-v.ensures.value ∙ ap (tail_of t.map.web.ends) dart ∙ begins.1) in
    let may = may_two_are r.0 t one.edge two.edge (turned_walk c.args.s (crossing_over second_walk second_place first_walk first_place)) (turned_walk c.args.t (crossing_over first_walk first_place second_walk second_place)) c.in_ok-walk.walk.items c.in_ok-other.other.items mid walk other (begins_two r.0 t r.1 one.edge one.place two c.args.s c.args.t r.2 mid mid_is) in
    (may.second (lists_in c.put.new.self) c.put.ensures).owners

pub put-requires-2-clause-apart : goal.put-requires-2-clause-apart
put-requires-2-clause-apart c =
    let s = c.args.self.now in
    let t = lists_in s in
    let r = c.requires in
    let m = r.2.1 in
    let one = c.args.one in
    let two = c.args.two in
    let one_is = walk_read s.walks.items one.edge (suc one.place) c.index.result.now m.one_in c.index.ensures in
    let first = c.in_ok-first.ensures ∙ ap (turned_walk c.args.s) (c.deref.ensures.value ∙ one_is) in
    let two_is = walk_read s.walks.items two.edge (suc two.place) c.index-2.result.now m.two_in c.index-2.ensures in
    let second = c.in_ok-second.ensures ∙ ap (turned_walk c.args.t) (c.deref-2.ensures.value ∙ two_is) in
    let size : c.len.result ≡ length (walk_in t one.edge) = let is = ap length first ∙ length-turned c.args.s (walk_in t one.edge) in omega (arith, c.len.ensures, c.in_ok-first.first.ok.0, is) in
    let i_is = c.place_in_turned-i.ensures ∙ ap (λ n. place_turned c.args.s n one.place) size in
    let size_two : c.len-2.result ≡ length (walk_in t two.edge) = let is = ap length second ∙ length-turned c.args.t (walk_in t two.edge) in omega (arith, c.len-2.ensures, c.in_ok-second.second.ok.0, is) in
    let j_is = c.place_in_turned-j.ensures ∙ ap (λ n. place_turned c.args.t n two.place) size_two in
    let begins = begins_first r.0 t r.1 one.edge one.place two c.args.s c.args.t r.2 in
    let first_place = place_turned c.args.s (length (walk_in t one.edge)) one.place in
    let dart = read_at c.in_ok-first.first.items (turned_walk c.args.s (walk_in t one.edge)) c.place_in_turned-i.result first_place c.index-3.result.now first i_is begins.0 c.index-3.ensures in
    let second_place = place_turned c.args.t (length (walk_in t two.edge)) two.place in
    let first_walk = turned_walk c.args.s (walk_in t one.edge) in
    let second_walk = turned_walk c.args.t (walk_in t two.edge) in
    let over_two = c.in_ok-over_second.ensures ∙ crossing_same c.deref-3.result.now second_walk c.deref-4.result.now first_walk c.place_in_turned-j.result second_place c.place_in_turned-i.result first_place (c.deref-3.ensures.value ∙ second) j_is (c.deref-4.ensures.value ∙ first) i_is in
    let over_one = c.in_ok-over_first.ensures ∙ crossing_same c.deref-5.result.now first_walk c.deref-6.result.now second_walk c.place_in_turned-i.result first_place c.place_in_turned-j.result second_place (c.deref-5.ensures.value ∙ first) i_is (c.deref-6.ensures.value ∙ second) j_is in
    let walk = c.in_ok-walk.ensures ∙ ap (turned_walk c.args.s) (c.deref-7.ensures.value ∙ over_two) in
    let other = c.in_ok-other.ensures ∙ ap (turned_walk c.args.t) (c.deref-8.ensures.value ∙ over_one) in
    let mid = lists_in c.unmark.new.self in
    let mid_is : mid ≡ unmarked t (node_in t one.edge one.place) = c.unmark.ensures ∙ ap (unmarked t) (c.tail-v.ensures.value ∙ ap (tail_of t.map.web.ends) dart ∙ begins.1) in
    let may = may_two_are r.0 t one.edge two.edge (turned_walk c.args.s (crossing_over second_walk second_place first_walk first_place)) (turned_walk c.args.t (crossing_over first_walk first_place second_walk second_place)) c.in_ok-walk.walk.items c.in_ok-other.other.items mid walk other (begins_two r.0 t r.1 one.edge one.place two c.args.s c.args.t r.2 mid mid_is) in
    (may.second (lists_in c.put.new.self) c.put.ensures).apart

pub returns : goal.returns
returns c = λ g tangle step.
    let s = c.args.self.now in
    let t = lists_in s in
    let m = step.1 in
    let one = c.args.one in
    let two = c.args.two in
    let one_is = walk_read s.walks.items one.edge (suc one.place) c.index.result.now m.one_in c.index.ensures in
    let first = c.in_ok-first.ensures ∙ ap (turned_walk c.args.s) (c.deref.ensures.value ∙ one_is) in
    let two_is = walk_read s.walks.items two.edge (suc two.place) c.index-2.result.now m.two_in c.index-2.ensures in
    let second = c.in_ok-second.ensures ∙ ap (turned_walk c.args.t) (c.deref-2.ensures.value ∙ two_is) in
    let size : c.len.result ≡ length (walk_in t one.edge) = let is = ap length first ∙ length-turned c.args.s (walk_in t one.edge) in omega (arith, c.len.ensures, c.in_ok-first.first.ok.0, is) in
    let i_is = c.place_in_turned-i.ensures ∙ ap (λ n. place_turned c.args.s n one.place) size in
    let size_two : c.len-2.result ≡ length (walk_in t two.edge) = let is = ap length second ∙ length-turned c.args.t (walk_in t two.edge) in omega (arith, c.len-2.ensures, c.in_ok-second.second.ok.0, is) in
    let j_is = c.place_in_turned-j.ensures ∙ ap (λ n. place_turned c.args.t n two.place) size_two in
    let begins = begins_first g t tangle one.edge one.place two c.args.s c.args.t step in
    let first_place = place_turned c.args.s (length (walk_in t one.edge)) one.place in
    let dart = read_at c.in_ok-first.first.items (turned_walk c.args.s (walk_in t one.edge)) c.place_in_turned-i.result first_place c.index-3.result.now first i_is begins.0 c.index-3.ensures in
    let second_place = place_turned c.args.t (length (walk_in t two.edge)) two.place in
    let first_walk = turned_walk c.args.s (walk_in t one.edge) in
    let second_walk = turned_walk c.args.t (walk_in t two.edge) in
    let over_two = c.in_ok-over_second.ensures ∙ crossing_same c.deref-3.result.now second_walk c.deref-4.result.now first_walk c.place_in_turned-j.result second_place c.place_in_turned-i.result first_place (c.deref-3.ensures.value ∙ second) j_is (c.deref-4.ensures.value ∙ first) i_is in
    let over_one = c.in_ok-over_first.ensures ∙ crossing_same c.deref-5.result.now first_walk c.deref-6.result.now second_walk c.place_in_turned-i.result first_place c.place_in_turned-j.result second_place (c.deref-5.ensures.value ∙ first) i_is (c.deref-6.ensures.value ∙ second) j_is in
    let walk = c.in_ok-walk.ensures ∙ ap (turned_walk c.args.s) (c.deref-7.ensures.value ∙ over_two) in
    let other = c.in_ok-other.ensures ∙ ap (turned_walk c.args.t) (c.deref-8.ensures.value ∙ over_one) in
    let mid = lists_in c.unmark.new.self in
    let mid_is : mid ≡ unmarked t (node_in t one.edge one.place) = c.unmark.ensures ∙ ap (unmarked t) (c.tail-v.ensures.value ∙ ap (tail_of t.map.web.ends) dart ∙ begins.1) in
    let may = may_two_are g t one.edge two.edge (turned_walk c.args.s (crossing_over second_walk second_place first_walk first_place)) (turned_walk c.args.t (crossing_over first_walk first_place second_walk second_place)) c.in_ok-walk.walk.items c.in_ok-other.other.items mid walk other (begins_two g t tangle one.edge one.place two c.args.s c.args.t step mid mid_is) in
    may.leaves (lists_in c.put.new.self) (lists_in c.put-2.new.self) c.put.ensures c.put-2.ensures
