-- Edges with a common end, and edges without.
use Rattle.std.proofs.Common.{◌≡◌, ◌≢◌, ℕ, true, false, not, ◌||◌, eqb, List, sym, ap, ap₂}
use Rattle.std.proofs.lemmas.Bool.{and_from, and_parts, eqb-false, ne_eqb, not-true}
use Rattle.xn_model.specs.Graph.{Independent, ends_at, touches}
use Rattle.xn_model.proofs.Tests.{neither}

-- the four ends are apart
pub record AreEndsApart (ends : List (ℕ × ℕ)) (e f : ℕ) : Type 0 where
  pub ac : (ends_at ends e).0 ≢ (ends_at ends f).0
  pub ad : (ends_at ends e).0 ≢ (ends_at ends f).1
  pub bc : (ends_at ends e).1 ≢ (ends_at ends f).0
  pub bd : (ends_at ends e).1 ≢ (ends_at ends f).1

pub independent_from : (ends : List (ℕ × ℕ)) (e f : ℕ) → AreEndsApart ends e f → Independent ends e f
independent_from ends e f apart =
    let p = ends_at ends e in
    let q = ends_at ends f in
    let one : touches p q.0 ≡ false = ap₂ (λ x y. x || y) (ne_eqb p.0 q.0 apart.ac) (ne_eqb p.1 q.0 apart.bc) in
    let two : touches p q.1 ≡ false = ap₂ (λ x y. x || y) (ne_eqb p.0 q.1 apart.ad) (ne_eqb p.1 q.1 apart.bd) in
    and_from _ _ (ap not one) (ap not two)

ends_apart : (ends : List (ℕ × ℕ)) (e f : ℕ) → Independent ends e f → AreEndsApart ends e f
ends_apart ends e f free =
    let p = ends_at ends e in
    let q = ends_at ends f in
    let both : (not (touches p q.0) ≡ true) × (not (touches p q.1) ≡ true) = and_parts _ _ free in
    let one : (eqb p.0 q.0 ≡ false) × (eqb p.1 q.0 ≡ false) = neither (eqb p.0 q.0) (eqb p.1 q.0) (not-true _ both.0) in
    let two : (eqb p.0 q.1 ≡ false) × (eqb p.1 q.1 ≡ false) = neither (eqb p.0 q.1) (eqb p.1 q.1) (not-true _ both.1) in
    record { ac = eqb-false p.0 q.0 one.0; ad = eqb-false p.0 q.1 two.0; bc = eqb-false p.1 q.0 one.1; bd = eqb-false p.1 q.1 two.1 }

pub independent_turned : (ends : List (ℕ × ℕ)) (e f : ℕ) → Independent ends e f → Independent ends f e
independent_turned ends e f free =
    let apart = ends_apart ends e f free in
    independent_from ends f e (record {
      ac = λ same. apart.ac (sym same);
      ad = λ same. apart.bc (sym same);
      bc = λ same. apart.ad (sym same);
      bd = λ same. apart.bd (sym same);
    })
