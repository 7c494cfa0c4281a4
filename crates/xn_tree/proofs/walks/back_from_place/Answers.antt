use Rattle.std.proofs.Common.{◌≡◌, ◌+◌, ◌<◌, arith, length}
use Rattle.xn_tree.specs.Given.{state_of}
use Rattle.xn_tree.proofs.Paths.{next_place, position_in, taken_back_place}
use Rattle.xn_tree.proofs.walks.back_from_place.Goals as goal

pub overflow_add-at : goal.overflow_add-at
overflow_add-at c =
    let v = c.args.given.now in
    omega (arith, position_in v.graph (state_of v) c.args.e c.args.f c.args.at c.requires.0 c.requires.1, c.places-count.ensures, c.places-count.type_inv)

pub returns-then-at-count-clause-path : goal.returns-then-at-count-clause-path
returns-then-at-count-clause-path c rest top =
    let v = c.args.given.now in
    let w = c.unplace.new.self in
    let last : c.args.at + 1 ≡ length ((state_of v).placed c.args.e) = omega (arith, c.if-at-count.true, c.places-count.ensures) in
    taken_back_place v.graph w.graph (state_of v) (state_of w) c.args.e c.args.f c.args.at rest top c.unplace.ensures.graph last c.unplace.ensures.state

pub shift-requires : goal.shift-requires
shift-requires c =
    let v = c.args.given.now in
    omega (arith, position_in v.graph (state_of v) c.args.e c.args.f c.args.at c.requires.0 c.requires.1, c.places-count.ensures, c.if-at-count.false)

pub overflow_add-result : goal.overflow_add-result
overflow_add-result c =
    let v = c.args.given.now in
    omega (arith, position_in v.graph (state_of v) c.args.e c.args.f c.args.at c.requires.0 c.requires.1, c.places-count.ensures, c.places-count.type_inv)

pub returns-clause-path : goal.returns-clause-path
returns-clause-path c rest top =
    let v = c.args.given.now in
    let w = c.shift.new.self in
    let more : c.args.at + 1 < length ((state_of v).placed c.args.e) =
    omega (arith, position_in v.graph (state_of v) c.args.e c.args.f c.args.at rest top, c.places-count.ensures, c.if-at-count.false) in
    next_place v.graph w.graph (state_of v) (state_of w) c.args.e c.args.f c.args.at rest top c.shift.ensures.graph more c.shift.ensures.state
