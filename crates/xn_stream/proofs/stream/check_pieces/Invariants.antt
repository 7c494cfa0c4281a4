use Rattle.std.proofs.Common.{◌≡◌, take}
use Rattle.std.specs.List.{flat_map}
use Rattle.xn_check.specs.Judge.{graph_kept}
use Rattle.xn_stream.specs.Stream.{StandsForText}
use Rattle.xn_stream.proofs.stream.check_pieces.Given as goal

-- it stands for the pieces so far
abbrev pub invariant-loop-piece : goal.invariant-loop-piece
invariant-loop-piece l = record {
  graph : graph_kept l.stream.judge ≡ l.fn.graph;
  loops : l.stream.judge.loops ≡ l.fn.loops;
  stands : StandsForText l.stream (flat_map (λ p. p.items) (take l.piece-index l.pieces));
}
