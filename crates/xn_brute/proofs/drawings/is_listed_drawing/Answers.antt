use Rattle.std.proofs.Common.{◌≤◌, ap, arith, false, length, refl}
use Rattle.std.proofs.lemmas.Bool.{both_ways}
use Rattle.std.proofs.lemmas.List.FromFn.{length-range_with_len}
use Rattle.xn_brute.proofs.Drawn.{short_of_drawing}
use Rattle.xn_brute.proofs.drawings.is_listed_drawing.Goals as goal

pub returns-then-not-are_short : goal.returns-then-not-are_short
returns-then-not-are_short c = (
  λ no. absurd (both_ways false refl no),
  λ drawn.
      let n = length c.args.graph.now.ends in
      let few : n ≤ 1000 = omega (arith, ap length c.in_ok-edges.ensures.edges, length-range_with_len 0 n, c.in_ok-edges.ensures.few) in
      absurd (both_ways _ c.if-not-are_short.true (c.are_short.ensures.1 (short_of_drawing c.args.graph.now c.args.drawing.now.orders c.args.drawing.now.next few drawn))),
)
