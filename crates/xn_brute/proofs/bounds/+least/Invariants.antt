use Rattle.xn_brute.specs.Known.{known_in, state_of}
use Rattle.xn_brute.proofs.Unknown.{unknown_count}
use Rattle.xn_brute.proofs.bounds.+least.Given as goal

abbrev pub decreases-least : goal.decreases-least
decreases-least l = unknown_count (known_in (state_of l.given.now) l.tried.now)
