use Rattle.std.proofs.Common.{◌≡◌, length, arith, rules, refl}
use Rattle.std.specs.Prelude.{pos, ◌<ℤ◌}
use Rattle.std.specs.Int.{w128}
use Rattle.std.specs.Int.RustNames.{FitsSigned}
use Rattle.std.proofs.lemmas.Int.{to_z-of_z, ints}
use Rattle.xn_lp.proofs.Certificates.{ray_from}
use Rattle.xn_lp.proofs.checks.is_ray.Goals as goal

pub returns : goal.returns
returns c t =
    let len_ray : length c.args.ray.now ≡ length c.args.lp.now.rows = omega arith in
    let fits : FitsSigned w128 c.value.result = search rules in
    let test = rw (to_z-of_z w128 c.value.result fits, c.value.ensures.value) at t in
    let above : pos 0 <ℤ c.in_ok-least.least = omega (arith, ints) in
    let natural = rw c.as_slice.ensures.value at (c.if-not-are_natural.ensures refl) in
    let least = rw (c.new.ensures, c.as_slice-2.ensures.value) at c.in_ok-least.ensures in
    (len_ray, ray_from c.args.lp.now c.args.ray.now c.in_ok-ray.ray.numbers.items c.in_ok-ray.ray.over c.in_ok-least.least c.requires len_ray c.in_ok-ray.ensures natural least above)
