-- Each live face has so many marked darts, so there are not many faces.
use Rattle.std.proofs.Common.{◌≡◌, ℕ, zero, suc, ◌+◌, ◌*◌, ◌/◌, ◌<◌, ◌≤◌, inl, inr, Bool, true, false, not, ◌&&◌, List, length, refl, sym, ◌∙◌, ap, arith}
use Rattle.std.proofs.lemmas.Bool.{and_parts, cases_Bool, not-true, false_from_ne_true}
use Rattle.xn_model.specs.Lists.{one_if}
use Rattle.xn_model.specs.Map.{face_step, reverse_of}
use Rattle.xn_model.specs.Permutation.{Permutes, count_below, cycle_count, is_least}
use Rattle.xn_model.proofs.Darts.{reverse-odd, reverse_below}
use Rattle.xn_ring.proofs.Marked.{cycle_count_with-closed, parts_add_up}
use Rattle.xn_ring.proofs.Orbits.{IsLeast-from_test}
use Rattle.xn_ring.specs.Parts.{cycle_count_with}
use Rattle.xn_genus.proofs.Compress.{half_reverse}
use Rattle.xn_genus.proofs.Counts.{Permutes-face}
use Rattle.xn_genus.specs.Live.{IsMapOn}
use Rattle.xn_kura.proofs.Turns.{next_live}

-- a test of even numbers alone
count-even : (k : ℕ) (p : ℕ → Bool) (q : ℕ → Bool) → ((s : ℕ) → s < k → p (2 * s) ≡ true → q s ≡ true) → ((s : ℕ) → s < k → p (2 * s + 1) ≡ false) → count_below (2 * k) p ≤ count_below k q
count-even zero p q even odd = omega arith
count-even (suc k) p q even odd =
    let more : 2 * suc k ≡ suc (suc (2 * k)) = omega arith in
    let unfold_it : count_below (2 * suc k) p ≡ count_below (2 * k) p + one_if (p (2 * k)) + one_if (p (suc (2 * k))) = ap (λ n. count_below n p) more in
    let next_is : 2 * k + 1 ≡ suc (2 * k) = omega arith in
    let none : one_if (p (suc (2 * k))) ≡ 0 = ap one_if (ap p (sym next_is) ∙ odd k (omega arith)) in
    let top : one_if (p (2 * k)) ≤ one_if (q k) = le_bits _ _ (even k (omega arith)) in
    omega (arith, count-even k p q (λ s s_in. even s (omega arith)) (λ s s_in. odd s (omega arith)), unfold_it, none, top)
  where
    le_bits : (a b : Bool) → (a ≡ true → b ≡ true) → one_if a ≤ one_if b
    le_bits true b h = let e : one_if b ≡ 1 = ap one_if (h refl) in omega arith
    le_bits false b h = omega arith

module _ (ends : List (ℕ × ℕ)) (live : ℕ → Bool) (next : ℕ → ℕ) (map : IsMapOn ends live next) where
  abbrev n : ℕ
  n = 2 * length ends

  abbrev face : ℕ → ℕ
  face = face_step next

  abbrev lives : ℕ → Bool
  lives d = live (d / 2)

  pub face_permutes : Permutes n face
  face_permutes = Permutes-face (length ends) next map.permutes

  -- a face is live or dead as a whole
  stays_alive : (d : ℕ) → d < n → lives (face d) ≡ lives d
  stays_alive d d_in =
      let r = reverse_of d in
      let r_in = reverse_below (length ends) d d_in in
      let half = half_reverse d in
      elim (cases_Bool (lives d)) [
        | inl alive ↦ next_live ends live next map r r_in (ap live half ∙ alive) ∙ sym alive
        | inr dead ↦ ap lives (map.dead r r_in (ap live half ∙ dead)) ∙ ap live half
      ]

  -- the dead segments are faces of their own
  pub cycles_bound : cycle_count n face ≤ cycle_count_with n face lives + count_below (length ends) (λ s. not (live s))
  cycles_bound =
      let split = parts_add_up n face lives face_permutes stays_alive in
      let closed = cycle_count_with-closed n face (λ d. not (lives d)) face_permutes (λ d d_in. ap not (stays_alive d d_in)) in
      let even : count_below n (λ d. is_least n face d && not (lives d)) ≤ count_below (length ends) (λ s. not (live s)) =
      count-even (length ends) (λ d. is_least n face d && not (lives d)) (λ s. not (live s))
      (λ s s_in t. let half : (2 * s) / 2 ≡ s = omega arith in ap (λ x. not (live x)) (sym half) ∙ (and_parts _ _ t).1)
      (λ s s_in. false_from_ne_true _ (λ t.
      let parts : (is_least n face (2 * s + 1) ≡ true) × (not (live ((2 * s + 1) / 2)) ≡ true) = and_parts _ _ t in
      let half_odd : (2 * s + 1) / 2 ≡ s = omega arith in
      let half_even : (2 * s) / 2 ≡ s = omega arith in
      let dead : live ((2 * s) / 2) ≡ false = ap live (half_even ∙ sym half_odd) ∙ not-true _ parts.1 in
      let step : face (2 * s + 1) ≡ 2 * s = ap next (reverse-odd s) ∙ map.dead (2 * s) (omega arith) dead in
      let low = IsLeast-from_test n face face_permutes (2 * s + 1) (omega arith) parts.0 1 in
      omega (arith, low, step))) in
      omega (arith, split, closed, even)
