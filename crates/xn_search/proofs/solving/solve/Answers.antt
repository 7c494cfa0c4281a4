use Rattle.std.proofs.Common.{◌≡◌, arith}
use Rattle.xn_search.proofs.solving.solve.Goals as goal

pub returns-clause-flat : goal.returns-clause-flat
returns-clause-flat g c = λ free.
    let none = c.in_ok-drawing.ensures.flat free in
    let first : c.in_ok-first.first.crossings ≡ 0 = omega (arith, none, c.in_ok-first.ensures.count) in
    record {
      lower = omega (arith, c.in_ok-solved.ensures.solved.at_most, c.in_ok-solved.ensures.no_more, first);
      crossings = omega (arith, c.in_ok-solved.ensures.no_more, first);
      spent = c.in_ok-solved.ensures.flat first;
    }
