use Rattle.xn_dmp.specs.Fragments.{Gathers}
use Rattle.xn_dmp.proofs.Finding.{IsAt, darts_left}
use Rattle.xn_dmp.proofs.fragments.gather.Given as goal

abbrev pub invariant-loop-dart : goal.invariant-loop-dart
invariant-loop-dart l = record {
  found : Gathers l.growth l.fn.segments.items l.segments.items;
  here : IsAt l.growth.web.ends l.v l.dart;
}

abbrev pub decreases-loop-dart : goal.decreases-loop-dart
decreases-loop-dart l = darts_left l.dart
