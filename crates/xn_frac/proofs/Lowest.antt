-- A fraction without its common divisor.
use Rattle.std.proofs.Common.{◌≡◌, ℕ, ◌*◌, ◌/◌, ◌<◌, ◌^◌, Bool, arith, ap, sym, ◌∙◌, subst}
use Rattle.std.specs.Prelude.{ℤ, pos, unsigned_abs}
use Rattle.std.specs.Int.{IsGcd, is_negative, ◌∣◌}
use Rattle.std.proofs.Math.Nat.{pos_of_dvd_of_pos, div-mul_cancel, dvd-mul_right}
use Rattle.xn_frac.specs.Ratio.{IsFracOf, ratio_of, signed}
use Rattle.xn_frac.proofs.Signs.{as_signed, abs-signed, signed-mul}
use Rattle.xn_frac.proofs.Coprime.{coprime_quotients}

pub gcd_above : (a b g : ℕ) → 0 < b → IsGcd a b g → 0 < g
gcd_above a b g above is = pos_of_dvd_of_pos is.1 above

pub above_quotient : (d g : ℕ) → 0 < d → 0 < g → g ∣ d → 0 < d / g
above_quotient d g above _ divides = pos_of_dvd_of_pos (subst (λ n. d / g ∣ n) (div-mul_cancel g divides) (dvd-mul_right (d / g) g)) above

exchanged : (m d g : ℕ) → g ∣ m → g ∣ d → m / g * d ≡ m * (d / g)
exchanged m d g in_m in_d =
    let x : m ≡ m / g * g = sym (div-mul_cancel g in_m) in
    let y : d ≡ d / g * g = sym (div-mul_cancel g in_d) in
    omega (arith, ap (λ t. m / g * t) y, ap (λ t. t * (d / g)) x)

-- -m/d or m/d, without the common divisor g
lowest_of_size : (s : Bool) (m d g : ℕ) → 0 < d → IsGcd m d g → m < 2 ^ 127 → d < 2 ^ 127 →
    IsFracOf (ratio_of (signed s m) (pos d)) (record { num = signed s (m / g); den = d / g })
lowest_of_size s m d g above is small small_d = record {
  frac = record {
    positive = above_quotient d g above (gcd_above m d g above is) is.1;
    lowest = subst (λ n. IsGcd n (d / g) 1) (sym (abs-signed s (m / g))) (coprime_quotients m d g (gcd_above m d g above is) is);
    num_in_range = subst (λ n. n < 2 ^ 127) (sym (abs-signed s (m / g))) (omega arith);
    den_in_range = omega arith;
  };
  same = signed-mul s (m / g) d ∙ ap (signed s) (exchanged m d g is.0 is.1) ∙ sym (signed-mul s m (d / g));
}

pub lowest_is : (n : ℤ) (d g : ℕ) → 0 < d → IsGcd (unsigned_abs n) d g → unsigned_abs n < 2 ^ 127 → d < 2 ^ 127 →
    IsFracOf (ratio_of n (pos d)) (record { num = signed (is_negative n) (unsigned_abs n / g); den = d / g })
lowest_is n d g above is small small_d =
    subst (λ z. IsFracOf (ratio_of z (pos d)) (record { num = signed (is_negative n) (unsigned_abs n / g); den = d / g }))
    (sym (as_signed n)) (lowest_of_size (is_negative n) (unsigned_abs n) d g above is small small_d)
