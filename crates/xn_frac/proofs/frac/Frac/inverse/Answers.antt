use Rattle.std.proofs.Common.{ap, ◌∙◌, sym}
use Rattle.xn_frac.specs.Ratio.{Ratio}
use Rattle.xn_frac.proofs.Signs.{back}
use Rattle.xn_frac.proofs.Products.{inverse_frac}
use Rattle.xn_frac.proofs.frac.Frac.inverse.Goals as goal

pub invariant_of-result : goal.invariant_of-result
invariant_of-result c =
    let read = back c.self.inside.num c.self.invariant.num_in_range in
    let frac = inverse_frac _ c.self.invariant (λ e. c.requires (sym (ap (λ (p : Ratio). p.num) c.self.view_is) ∙ e)) in
    let num = rw read at c.with_sign.ensures in
    let den = rw read at c.unsigned_abs.ensures.value in
    rw (num, den, back _ frac.num_in_range) frac
