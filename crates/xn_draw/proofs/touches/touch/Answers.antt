use Rattle.std.proofs.Common.{ℕ, ◌+◌, arith, ap, below_more, length, subst}
use Rattle.xn_model.specs.Lists.{at}
use Rattle.xn_orders.specs.Entries.{list_of}
use Rattle.xn_draw.specs.Touches.{NoTouchIn, NoTouchOf}
use Rattle.xn_draw.proofs.Totals.{first_of-is, total-take-le, total-take_more}
use Rattle.xn_draw.proofs.touches.touch.Goals as goal

pub touched_by-requires-clause-darts : goal.touched_by-requires-clause-darts
touched_by-requires-clause-darts c =
    let lists = c.args.orders.now in
    let e = c.loop-e.e in
    omega (arith, c.requires.darts, c.loop-e.invariant.begins, first_of-is lists e (omega arith), total-take_more lists e (omega arith), total-take-le lists (e + 1))

pub overflow_cast-first : goal.overflow_cast-first
overflow_cast-first c =
    let lists = c.args.orders.now in
    let e = c.loop-e.e in
    omega (arith, c.requires.few, c.requires.darts, ap length c.at.ensures, total-take_more lists e (omega arith), total-take-le lists (e + 1))

pub overflow_add-first : goal.overflow_add-first
overflow_add-first c =
    let lists = c.args.orders.now in
    let e = c.loop-e.e in
    omega (arith, c.requires.few, c.requires.darts, ap length c.at.ensures, total-take_more lists e (omega arith), total-take-le lists (e + 1))

pub overflow_add-first-in-loop-e : goal.overflow_add-first-in-loop-e
overflow_add-first-in-loop-e c =
    let lists = c.args.orders.now in
    let e = c.loop-e.e in
    omega (arith, c.requires.few, c.requires.darts, ap length c.at.ensures, c.loop-e.invariant.begins, first_of-is lists e (omega arith), total-take_more lists e (omega arith), total-take-le lists (e + 1))

pub loop-e-preserved : goal.loop-e-preserved
loop-e-preserved c =
    let lists = c.args.orders.now in
    let next = at c.args.map.now.next in
    let e = c.loop-e.e in
    let at_first : ℕ → Type 0 = λ first. NoTouchIn (list_of lists e) next e first (length (list_of lists e)) in
    record {
      none = below_more (NoTouchOf lists next) e c.loop-e.invariant.none (subst at_first c.loop-e.invariant.begins c.in_default.ensures);
      begins = omega (arith, ap length c.at.ensures, c.loop-e.invariant.begins, first_of-is lists e (omega arith), first_of-is lists (e + 1) (omega arith), total-take_more lists e (omega arith));
    }
