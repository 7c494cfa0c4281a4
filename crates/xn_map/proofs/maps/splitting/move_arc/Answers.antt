use Rattle.std.proofs.Common.{◌*◌, ◌<◌, ℕ, arith, length, refl, subst, sym}
use Rattle.xn_model.specs.Lists.{at, position_in}
use Rattle.xn_model.specs.Permutation.{iterate, walk}
use Rattle.xn_ring.proofs.Orbits.{iterate_below}
use Rattle.xn_map.proofs.Arcs.{arc_more, nearer, stays_behind}
use Rattle.xn_map.proofs.maps.splitting.move_arc.Goals as goal

pub loop-d-init : goal.loop-d-init
loop-d-init c = record {
  dart = c.requires.a_in;
  so_far = record {
    same_nodes = refl;
    same_length = refl;
    comes = c.requires.comes;
    steps = 0;
    walked = refl;
    unmet = λ l l_in. absurd (omega arith);
    moved = λ l l_in. absurd (omega arith);
    stayed = λ x x_in apart. refl;
  };
}

pub loop-d-smaller : goal.loop-d-smaller
loop-d-smaller c =
    let next = at c.args.rings.now in
    let n = length c.args.rings.now in
    let b = c.args.b in
    let d = c.loop-d.d in
    let old = c.loop-d.invariant in
    let P : ℕ → Type 0 = λ e. position_in (walk next n e) b < position_in (walk next n d) b in
    subst P (sym c.next-d.ensures.next) (nearer n next c.requires.permutes d b old.dart old.so_far.comes c.loop-d-test.true)

pub loop-d-preserved : goal.loop-d-preserved
loop-d-preserved c =
    let next = at c.args.rings.now in
    let a = c.args.a in
    let old = c.loop-d.invariant in
    let within : (l : ℕ) → iterate next l a < 2 * length c.args.web.now.ends = λ l.
    let low = iterate_below (length c.args.rings.now) next c.requires.permutes l a c.requires.a_in in omega (arith, low, c.requires.darts) in
    record {
      dart = c.next-d.ensures.below;
      so_far = arc_more next a c.args.b c.args.v c.loop-d.d c.next-d.result c.args.web.now c.loop-d.web c.move_dart.new.self within old.so_far c.loop-d-test.true
          c.move_dart.ensures.moved c.next-d.ensures.next;
    }

pub move_dart-requires-clause-other : goal.move_dart-requires-clause-other
move_dart-requires-clause-other c =
    stays_behind (length c.args.rings.now) (at c.args.rings.now) c.args.a c.args.b c.args.v c.loop-d.d c.args.web.now c.loop-d.web c.requires.darts c.requires.permutes c.requires.stays
    c.loop-d.invariant.dart c.loop-d.invariant.so_far c.loop-d-test.true
