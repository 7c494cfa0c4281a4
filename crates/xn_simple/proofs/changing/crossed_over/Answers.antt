use Rattle.std.proofs.Common.{◌++◌, ◌+◌, ◌-◌, drop, length, take, ◌∙◌, ap}
use Rattle.xn_simple.proofs.Changed.{crossing_parts}
use Rattle.xn_simple.proofs.changing.crossed_over.Goals as goal

pub returns : goal.returns
returns c =
    let one = c.args.one.now in
    let two = c.args.two.now in
    c.in_ok-extend_from_slice.ensures.items
    ∙ ap (λ xs. xs ++ take (length two - (c.args.j + 1)) (drop (c.args.j + 1) two)) c.in_ok-walk.ensures.items
    ∙ crossing_parts one two c.args.i c.args.j
