-- The nodes of the segments that are in.
use Rattle.std.proofs.Common.{◌≡◌, ℕ, ◌*◌, ◌/◌, ◌<◌, inl, inr, true, false, ◌||◌, eqb, List, [], ◌∷◌, length, refl, sym, ◌∙◌, ap, arith}
use Rattle.std.proofs.lemmas.Bool.{both_ways, eq-eqb, eqb-true, or_cases, or_left, or_right}
use Rattle.xn_genus.proofs.Lone.{touched_dart}
use Rattle.xn_model.proofs.Darts.{cases_dart, tail-even, tail-odd}
use Rattle.xn_model.specs.Graph.{ends_at, touches}
use Rattle.xn_model.specs.Insertion.{IsOldCorner, is_old}
use Rattle.xn_model.specs.Lists.{has}
use Rattle.xn_model.specs.Map.{tail_of}
use Rattle.xn_model.proofs.Has.{any_from, any_to}

-- each segment that is in is one of the web
abbrev pub AreIn : List (ℕ × ℕ) → List ℕ → Type 0
AreIn ends done = (j : ℕ) → has done j ≡ true → j < length ends

-- an old node has a dart of a segment that is in
pub old_dart : (ends : List (ℕ × ℕ)) (done : List ℕ) → AreIn ends done → (w : ℕ) → is_old ends done w ≡ true →
    (x : ℕ) × (x < 2 * length ends) × (has done (x / 2) ≡ true) × (tail_of ends x ≡ w)
old_dart ends done are_in w old =
    let found = any_to (λ s. touches (ends_at ends s) w) done old in
    let dart = touched_dart ends w found.0 (are_in found.0 found.1) found.2 in
    let half : dart.0 / 2 ≡ found.0 = omega (arith, dart.3) in
    (dart.0, dart.1, ap (has done) half ∙ found.1, dart.2)

pub old_from_dart : (ends : List (ℕ × ℕ)) (done : List ℕ) (x : ℕ) → has done (x / 2) ≡ true → is_old ends done (tail_of ends x) ≡ true
old_from_dart ends done x is =
    let c = cases_dart x in
    let half : x / 2 ≡ c.0 = omega (arith, c.1) in
    let w = tail_of ends x in
    let p = ends_at ends c.0 in
    let touch : touches p w ≡ true = elim c.1 [
      | inl even ↦ or_left (eqb p.0 w) (eqb p.1 w) (eq-eqb p.0 w (sym (tail-even ends c.0) ∙ ap (tail_of ends) (sym even)))
      | inr odd ↦ or_right (eqb p.0 w) (eqb p.1 w) (eq-eqb p.1 w (sym (tail-odd ends c.0) ∙ ap (tail_of ends) (sym odd)))
    ] in
    any_from (λ s. touches (ends_at ends s) w) done c.0 (ap (has done) (sym half) ∙ is) touch

pub corner_in : (ends : List (ℕ × ℕ)) (done : List ℕ) → AreIn ends done → (d c : ℕ) → IsOldCorner ends done d c → c < 2 * length ends
corner_in ends done are_in d c is = let half = are_in (c / 2) is.in_map in omega (arith, half)

-- what is the same along each segment that is in is the same at all old nodes
abbrev pub AreTied : List (ℕ × ℕ) → List ℕ → Type 0
AreTied ends done =
    (m : ℕ → ℕ) → ((j : ℕ) → has done j ≡ true → m (ends_at ends j).0 ≡ m (ends_at ends j).1) →
    (value : ℕ) × ((v : ℕ) → is_old ends done v ≡ true → m v ≡ value)

-- the segments that are in are segments of the web, in one component
pub record IsGrown (ends : List (ℕ × ℕ)) (done : List ℕ) : Type 0 where
  pub are_in : AreIn ends done
  pub tied : AreTied ends done

touched_end : (m : ℕ → ℕ) (p : ℕ × ℕ) (v : ℕ) → m p.0 ≡ m p.1 → touches p v ≡ true → m v ≡ m p.0
touched_end m p v along touch = elim (or_cases (eqb p.0 v) (eqb p.1 v) touch) [
  | inl first ↦ ap m (sym (eqb-true p.0 v first))
  | inr second ↦ ap m (sym (eqb-true p.1 v second)) ∙ sym along
]

are_in-more : (ends : List (ℕ × ℕ)) (done : List ℕ) (s : ℕ) → s < length ends → AreIn ends done → AreIn ends (s ∷ done)
are_in-more ends done s s_in are_in j is = elim (or_cases (eqb s j) (has done j) is) [
  | inl here ↦ let same : s ≡ j = eqb-true s j here in omega (arith, same, s_in)
  | inr later ↦ are_in j later
]

pub IsGrown-first : (ends : List (ℕ × ℕ)) (s : ℕ) → s < length ends → IsGrown ends (s ∷ [])
IsGrown-first ends s s_in = record {
  are_in = are_in-more ends [] s s_in (λ j is. absurd (both_ways false refl is));
  tied = λ m along.
      let p = ends_at ends s in
      let here : m p.0 ≡ m p.1 = along s (or_left (eqb s s) false (eq-eqb s s refl)) in (
        m p.0,
        λ v old. elim (or_cases (touches p v) false old) [
          | inl touch ↦ touched_end m p v here touch
          | inr none ↦ absurd (both_ways false refl none)
        ],
      );
}

pub IsGrown-more : (ends : List (ℕ × ℕ)) (done : List ℕ) (s : ℕ) → s < length ends →
    (is_old ends done (ends_at ends s).0 || is_old ends done (ends_at ends s).1) ≡ true → IsGrown ends done → IsGrown ends (s ∷ done)
IsGrown-more ends done s s_in shares grown = record {
  are_in = are_in-more ends done s s_in grown.are_in;
  tied = λ m along.
      let p = ends_at ends s in
      let here : m p.0 ≡ m p.1 = along s (or_left (eqb s s) (has done s) (eq-eqb s s refl)) in
      let so_far = grown.tied m (λ j is. along j (or_right (eqb s j) (has done j) is)) in
      let value : m p.0 ≡ so_far.0 = elim (or_cases (is_old ends done p.0) (is_old ends done p.1) shares) [
        | inl first ↦ so_far.1 p.0 first
        | inr second ↦ here ∙ so_far.1 p.1 second
      ] in (
        so_far.0,
        λ v old. elim (or_cases (touches p v) (is_old ends done v) old) [
          | inl touch ↦ touched_end m p v here touch ∙ value
          | inr was ↦ so_far.1 v was
        ],
      );
}
