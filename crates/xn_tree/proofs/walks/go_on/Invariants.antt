use Rattle.std.proofs.Common.{length}
use Rattle.xn_tree.proofs.Paths.{Came}
use Rattle.xn_tree.proofs.walks.go_on.Given as goal

abbrev pub invariant-loop-choice : goal.invariant-loop-choice
invariant-loop-choice l = Came l.fn.given.graph l.fn.path.items l.given l.path.items

abbrev pub decreases-loop-choice : goal.decreases-loop-choice
decreases-loop-choice l = length l.path.items
