use Rattle.xn_components.proofs.Meeting.{MeetsSome, darts_left}
use Rattle.xn_components.proofs.flood.meet.Given as goal

abbrev pub invariant-loop-dart : goal.invariant-loop-dart
invariant-loop-dart l = MeetsSome l.web.ends l.v l.fn.marks l.fn.met l.fn.list.items l.marks l.list.items l.dart

abbrev pub decreases-loop-dart : goal.decreases-loop-dart
decreases-loop-dart l = darts_left l.dart
