use Rattle.xn_frac.proofs.Signs.{back}
use Rattle.xn_frac.proofs.Wholes.{sum_refused}
use Rattle.xn_lp.proofs.whole.Whole.plus.Goals as goal

pub invariant_of-result-in-None : goal.invariant_of-result-in-None
invariant_of-result-in-None c =
    let large = rw (back c.self.inside.value c.self.invariant, back c.other.inside.value c.other.invariant) at c.in-None.ensures in
    rw (c.to_frac.ensures, c.to_frac-in-None.ensures, ← c.self.view_is, ← c.other.view_is) (record { refused = sum_refused c.self.inside.value c.other.inside.value large })
