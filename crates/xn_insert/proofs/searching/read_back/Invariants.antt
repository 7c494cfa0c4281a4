use Rattle.std.proofs.Common.{◌≡◌, ◌++◌, ◌-◌, ℕ, List, length}
use Rattle.xn_insert.specs.Search.{ChainEnds, IsChain, Over}
use Rattle.xn_insert.proofs.searching.read_back.Given as goal

-- what leads on from here leads on from the first face, after the darts so far
abbrev pub invariant-loop : goal.invariant-loop
invariant-loop l = record {
  size : length l.darts.items ≡ l.counter;
  chain : IsChain l.names l.by (l.steps - l.counter) l.x;
  over : (ds : List ℕ) (y : ℕ) → Over l.names l.x ds y → Over l.names l.face (l.darts.items ++ ds) y;
  ends : (y : ℕ) → ChainEnds l.names l.by (l.steps - l.counter) l.x y → ChainEnds l.names l.by l.steps l.face y;
}
