-- Two lists of successors after each other, and the map that they are.
use Rattle.std.proofs.Common.{◌≡◌, ◌≢◌, ℕ, ◌+◌, ◌*◌, ◌/◌, ◌<◌, ◌≤◌, ◌⊎◌, inl, inr, Bool, true, false, eqb, List, [], ◌∷◌, ◌++◌, length, refl, sym, ap, subst, ◌∙◌, arith}
use Rattle.std.proofs.lemmas.Bool.{both_ways, cases_eq, cases_lt, eq-eqb, eqb-true, false_from_ne_true, or_left, or_right}
use Rattle.std.proofs.lemmas.List.{get_or_append_left, length-append, length-map, map-append}
use Rattle.std.proofs.Math.Seq.{get_or-append_seam}
use Rattle.xn_model.specs.Graph.{Graph, ends_at, touches}
use Rattle.xn_model.specs.Lists.{at, has}
use Rattle.xn_components.specs.Listing.{AreBeside}

-- the first d entries of the second list are there
pub record BesideUpTo (first second both : List ℕ) (d : ℕ) : Type 0 where
  pub size : length both ≡ length first + d
  pub low : (x : ℕ) → x < length first → at both x ≡ at first x
  pub high : (x : ℕ) → x < d → at both (length first + x) ≡ length first + at second x

pub beside_start : (first second : List ℕ) → BesideUpTo first second first 0
beside_start first second = record {
  size = omega arith;
  low = λ x below. refl;
  high = λ x below. absurd (omega (arith, below));
}

pub beside_more : (first second both : List ℕ) (d y : ℕ) → BesideUpTo first second both d → y ≡ length first + at second d → BesideUpTo first second (both ++ y ∷ []) (d + 1)
beside_more first second both d y old is =
    let more : List ℕ = both ++ y ∷ [] in
    let at_old : (x : ℕ) → x < length both → at more x ≡ at both x = λ x low. get_or_append_left both (y ∷ []) 0 x low in
    let at_new : at more (length both) ≡ y = get_or-append_seam both y [] 0 in
    record {
      size = omega (arith, length-append both (y ∷ []), old.size);
      low = λ x below. at_old x (omega (arith, below, old.size)) ∙ old.low x below;
      high = λ x below. elim (cases_eq x d) [
        | inl here ↦
            let place : length first + x ≡ length both = omega (arith, here, old.size) in
            ap (at more) place ∙ at_new ∙ is ∙ ap (λ z. length first + at second z) (sym here)
        | inr other ↦ at_old (length first + x) (omega (arith, below, other, old.size)) ∙ old.high x (omega (arith, below, other))
      ];
    }

pub beside_all : (first second both : List ℕ) (d : ℕ) → BesideUpTo first second both d → d ≡ length second → AreBeside first second both
beside_all first second both d old all = record {
  size = omega (arith, old.size, all);
  low = old.low;
  high = λ x below. old.high x (omega (arith, below, all));
}
