use Rattle.std.proofs.Common.{◌≡◌, ◌++◌, ◌∷◌, [], ◌-◌, ◌<◌, ◌≤◌, length, vec_items, sym, ◌∙◌, ap, arith}
use Rattle.std.proofs.lemmas.List.{length-map}
use Rattle.xn_model.specs.Lists.{at}
use Rattle.xn_model.specs.Map.{reverse_of}
use Rattle.xn_simple.specs.Tangle.{lists_in, named, node_in, walk_in}
use Rattle.xn_simple.specs.Tidied.{is_crossed}
use Rattle.xn_simple.specs.Untangling.{starts_in_walk}
use Rattle.xn_simple.proofs.Noted.{walk_read}
use Rattle.xn_simple.proofs.ReadOff.{crossed_test, read_is, starts_begin, starts_end, starts_none, starts_some, walk_long}
use Rattle.xn_simple.proofs.Taken.{list_in}
use Rattle.xn_simple.proofs.tangle.Tangle.push_starts.Goals.{then-is_some+in_ok-push-2+in_ok-push-3, else-is_some}
use Rattle.xn_simple.proofs.tangle.Tangle.push_starts.Goals as goal

pub index-walk-requires : goal.index-walk-requires
index-walk-requires c =
    let r = c.requires.tangle in
    let low = list_in r.0 (lists_in c.args.self.now) r.1.tangle c.args.e c.requires.edge in
    let size = length-map c.args.self.now.walks.items vec_items in
    omega (arith, low, size, c.args.self.now.walks.ok.0)

pub index-requires : goal.index-requires
index-requires c =
    let t = lists_in c.args.self.now in
    let r = c.requires.tangle in
    let long = walk_long r.0 t r.1 c.args.e c.requires.edge in
    let size = ap length (walk_read c.args.self.now.walks.items c.args.e 0 c.index-walk.result.now long c.index-walk.ensures) in
    omega (arith, size, long, c.index-walk.result.now.ok.0)

pub loop-i-init : goal.loop-i-init
loop-i-init c =
    let t = lists_in c.args.self.now in
    let r = c.requires.tangle in
    let long = walk_long r.0 t r.1 c.args.e c.requires.edge in
    let is = walk_read c.args.self.now.walks.items c.args.e 0 c.index-walk.result.now long c.index-walk.ensures in
    let first = read_is c.index-walk.result.now.items (walk_in t c.args.e) 0 c.index.result.now is long c.index.ensures in
    let items = c.in_ok-push.ensures.items ∙ ap (λ x. c.args.starts.now.items ++ x ∷ []) first in
    rw items (starts_begin r.0 t r.1 c.args.e c.requires.edge c.args.starts.now.items)

pub crossed_at-requires-clause-place : goal.crossed_at-requires-clause-place
crossed_at-requires-clause-place c =
    let t = lists_in c.args.self.now in
    let r = c.requires.tangle in
    let long = walk_long r.0 t r.1 c.args.e c.requires.edge in
    let size = ap length (walk_read c.args.self.now.walks.items c.args.e 0 c.index-walk.result.now long c.index-walk.ensures) in
    omega (arith, size, c.index-walk.result.now.ok.0, c.len-i-end.ensures, c.loop-i-test.true, c.loop-i.auto.i)

pub loop-i-preserved : goal.loop-i-preserved
loop-i-preserved c =
    let t = lists_in c.args.self.now in
    let r = c.requires.tangle in
    let e = c.args.e in
    let i = c.loop-i.i in
    let v = node_in t e (i - 1) in
    let all = c.args.starts.now.items ++ starts_in_walk t e in
    let long = walk_long r.0 t r.1 e c.requires.edge in
    let is = walk_read c.args.self.now.walks.items e 0 c.index-walk.result.now long c.index-walk.ensures in
    let size = ap length is in
    let i_in : i < length (walk_in t e) = omega (arith, size, c.index-walk.result.now.ok.0, c.len-i-end.ensures, c.loop-i-test.true) in
    let low : 1 ≤ i = omega (arith, c.loop-i.auto.i) in
    let test : c.is_some.result ≡ is_crossed t.edges t.map.web.ends (named t) (walk_in t) e v = c.is_some.ensures ∙ crossed_test r.0 t r.1 e v c.crossed_at.result c.crossed_at.ensures in
    elim c.if-is_some.branch [
      | then-is_some+in_ok-push-2+in_ok-push-3 w ↦
          let one = read_is c.index-walk.result.now.items (walk_in t e) (i - 1) w.index-then-is_some.result.now is (omega (arith, i_in)) w.index-then-is_some.ensures in
          let two = read_is c.index-walk.result.now.items (walk_in t e) i w.index-then-is_some-2.result.now is i_in w.index-then-is_some-2.ensures in
          let items =
          w.in_ok-push-3.ensures.items ∙ ap (λ x. w.push-then-is_some.new.self.items ++ x ∷ []) two
          ∙ ap (λ xs. xs ++ at (walk_in t e) i ∷ []) (w.in_ok-push-2.ensures.items ∙ ap (λ x. c.loop-i.starts.items ++ reverse_of x ∷ []) one) in
          rw (w.starts-is, items) (starts_some r.0 t r.1 e c.requires.edge c.loop-i.starts.items all i low i_in (sym test ∙ w.if-is_some.true) c.loop-i.invariant)
      | else-is_some w ↦
          rw w.starts-is (starts_none r.0 t r.1 e c.requires.edge c.loop-i.starts.items all i low i_in (sym test ∙ w.if-is_some.false) c.loop-i.invariant)
    ]

pub overflow_sub-len : goal.overflow_sub-len
overflow_sub-len c =
    let t = lists_in c.args.self.now in
    let r = c.requires.tangle in
    let long = walk_long r.0 t r.1 c.args.e c.requires.edge in
    let size = ap length (walk_read c.args.self.now.walks.items c.args.e 0 c.index-walk.result.now long c.index-walk.ensures) in
    omega (arith, size, long, c.index-walk.result.now.ok.0, c.len.ensures)

pub index-requires-2 : goal.index-requires-2
index-requires-2 c =
    let t = lists_in c.args.self.now in
    let r = c.requires.tangle in
    let long = walk_long r.0 t r.1 c.args.e c.requires.edge in
    let size = ap length (walk_read c.args.self.now.walks.items c.args.e 0 c.index-walk.result.now long c.index-walk.ensures) in
    omega (arith, size, long, c.index-walk.result.now.ok.0, c.len.ensures)

pub returns : goal.returns
returns c =
    let t = lists_in c.args.self.now in
    let r = c.requires.tangle in
    let e = c.args.e in
    let i = c.loop-i.i in
    let all = c.args.starts.now.items ++ starts_in_walk t e in
    let long = walk_long r.0 t r.1 e c.requires.edge in
    let is = walk_read c.args.self.now.walks.items e 0 c.index-walk.result.now long c.index-walk.ensures in
    let size = ap length is in
    let last : c.len.result ≡ i = omega (arith, size, long, c.index-walk.result.now.ok.0, c.len.ensures, c.len-i-end.ensures, c.loop-i-test.false, c.loop-i.auto.i-end) in
    let whole : length (walk_in t e) ≡ i = omega (arith, size, c.index-walk.result.now.ok.0, c.len.ensures, last) in
    let dart = read_is c.index-walk.result.now.items (walk_in t e) (c.len.result - 1) c.index-2.result.now is (omega (arith, whole, long, last)) c.index-2.ensures in
    c.in_ok-push-4.ensures.items ∙ ap (λ x. c.loop-i.starts.items ++ reverse_of x ∷ []) (dart ∙ ap (λ k. at (walk_in t e) (k - 1)) last)
    ∙ starts_end r.0 t r.1 e c.requires.edge c.loop-i.starts.items all i (omega (arith, whole)) c.loop-i.invariant
