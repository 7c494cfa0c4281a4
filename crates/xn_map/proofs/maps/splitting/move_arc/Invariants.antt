use Rattle.std.proofs.Common.{◌<◌, length}
use Rattle.xn_model.specs.Lists.{at, position_in}
use Rattle.xn_model.specs.Permutation.{walk}
use Rattle.xn_map.proofs.Arcs.{ArcSoFar}
use Rattle.xn_map.proofs.maps.splitting.move_arc.Given as goal

abbrev pub invariant-loop-d : goal.invariant-loop-d
invariant-loop-d l = record {
  dart : l.d < length l.rings;
  so_far : ArcSoFar (at l.rings) l.a l.b l.v l.d l.initial.web l.web;
}

-- the steps from here to b
abbrev pub decreases-loop-d : goal.decreases-loop-d
decreases-loop-d l = position_in (walk (at l.rings) (length l.rings) l.d) l.b
