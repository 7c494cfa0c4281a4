-- Branch nodes: distinct nodes of the web.
use Rattle.std.proofs.Common.{◌≡◌, ◌≢◌, ℕ, zero, suc, ◌<◌, inl, inr, Bool, true, false, not, ◌||◌, eqb, ltb, take, List, [], ◌∷◌, length, refl, sym, ◌∙◌, ap, arith, length-take}
use Rattle.std.specs.Prelude.{All, slice_index}
use Rattle.std.specs.List.{AllByRecursion, IsDistinct}
use Rattle.std.proofs.lemmas.Bool.{both_ways, eqb-true, eq-eqb, ltb-true, lt-ltb, ne_eqb, or_cases, or_left, or_right, false_from_ne_true}
use Rattle.std.proofs.lemmas.List.{get_or-take}
use Rattle.std.proofs.lemmas.List.Elements.{All-from_get_or}
use Rattle.xn_model.specs.Lists.{has}
use Rattle.xn_kura.proofs.Distinct.{positions_apart}
use Rattle.xn_kura.specs.Flaws.{AreBranches}

-- an element stands at a place
pub place_of : (xs : List ℕ) (x : ℕ) → has xs x ≡ true → (i : ℕ) × (i < length xs) × (slice_index xs i ≡ x)
place_of [] x h = absurd (both_ways false refl h)
place_of (y ∷ xs) x h = elim (or_cases (eqb y x) (has xs x) h) [
  | inl here ↦ (0, omega arith, eqb-true y x here)
  | inr later ↦ let found = place_of xs x later in (suc found.0, omega (arith, found.1), found.2)
]

-- an element before a place stands among the first
taken : (xs : List ℕ) (i j : ℕ) → i < j → j < length xs → has (take j xs) (slice_index xs i) ≡ true
taken [] i j before j_in = absurd (omega (arith, j_in))
taken (x ∷ xs) i zero before j_in = absurd (omega (arith, before))
taken (x ∷ xs) zero (suc j) before j_in = or_left (eqb x x) (has (take j xs) x) (eq-eqb x x refl)
taken (x ∷ xs) (suc i) (suc j) before j_in = or_right (eqb x (slice_index xs i)) (has (take j xs) (slice_index xs i)) (taken xs i j (omega (arith, before)) (omega (arith, j_in)))

-- a list is without repeats where its places differ
distinct_from : (xs : List ℕ) → ((i j : ℕ) → i < j → j < length xs → slice_index xs i ≢ slice_index xs j) → IsDistinct eqb xs
unfolding IsDistinct
distinct_from [] apart = tt
distinct_from (x ∷ xs) apart = (others xs (λ j j_in. apart 0 (suc j) (omega arith) (omega (arith, j_in))), distinct_from xs (λ i j before j_in. apart (suc i) (suc j) (omega (arith, before)) (omega (arith, j_in))))
  where
    others : (ys : List ℕ) → ((j : ℕ) → j < length ys → x ≢ slice_index ys j) → AllByRecursion (λ y. eqb x y ≡ false) ys
    others [] apart = tt
    others (y ∷ ys) apart = (ne_eqb x y (apart 0 (omega arith)), others ys (λ j j_in. apart (suc j) (omega (arith, j_in))))

neither : (a b : Bool) → (not a || b) ≡ false → (a ≡ true) × (b ≡ false)
neither true b h = (refl, h)
neither false b h = absurd (both_ways true h refl)

module _ (nodes : ℕ) (branch : List ℕ) where
  right_at : AreBranches nodes branch → (i : ℕ) → i < length branch → (slice_index branch i < nodes) × (has (take i branch) (slice_index branch i) ≡ false)
  right_at are i i_in =
      let parts : (ltb (slice_index branch i) nodes ≡ true) × (has (take i branch) (slice_index branch i) ≡ false) = neither _ _ (are i i_in) in
      (ltb-true _ _ parts.0, parts.1)

  pub branches_below : AreBranches nodes branch → All (λ v. v < nodes) branch
  branches_below are = All-from_get_or (λ v. v < nodes) branch 0 (λ i i_in. (right_at are i i_in).0)

  pub branches_distinct : AreBranches nodes branch → IsDistinct eqb branch
  branches_distinct are = distinct_from branch (λ i j before j_in same.
      both_ways _ (right_at are j j_in).1 (ap (has (take j branch)) (sym same) ∙ taken branch i j before j_in))

  pub branches_from : All (λ v. v < nodes) branch → IsDistinct eqb branch → AreBranches nodes branch
  branches_from below distinct i i_in =
      let v = slice_index branch i in
      right (ltb v nodes) (has (take i branch) v) (lt-ltb v nodes (below i 0 i_in)) (false_from_ne_true _ (λ h.
      let found = place_of (take i branch) v h in
      let j_before : found.0 < i = omega (arith, found.1, length-take i branch, i_in) in
      let there : slice_index branch found.0 ≡ v = sym (get_or-take i branch found.0 0 j_before) ∙ found.2 in
      let same : found.0 ≡ i = positions_apart branch distinct found.0 i (omega (arith, j_before, i_in)) i_in there in
      omega (arith, same, j_before)))
    where
      right : (a b : Bool) → a ≡ true → b ≡ false → (not a || b) ≡ false
      right true b one two = two
      right false b one two = absurd (both_ways false refl one)
