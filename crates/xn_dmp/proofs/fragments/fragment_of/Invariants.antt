use Rattle.xn_dmp.specs.Fragments.{IsFound}
use Rattle.xn_dmp.proofs.fragments.fragment_of.Given as goal

abbrev pub invariant-loop-i : goal.invariant-loop-i
invariant-loop-i l = IsFound l.growth l.segments.items l.contacts.items
