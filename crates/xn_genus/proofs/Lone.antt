-- Nodes without darts.
use Rattle.std.proofs.Common.{◌≡◌, ℕ, suc, ◌+◌, ◌*◌, ◌<◌, ◌⊎◌, inl, inr, Bool, true, false, not, ◌&&◌, ◌||◌, eqb, List, [], ◌∷◌, ◌++◌, length, refl, sym, ◌∙◌, ap, arith}
use Rattle.std.specs.List.{list_any}
use Rattle.std.proofs.lemmas.Bool.{eqb-true, eq-eqb, or_cases, or_left, or_right, not-true, not-false, both_ways}
use Rattle.std.proofs.lemmas.List.Folds.{list_any_at, list_any-append}
use Rattle.xn_model.specs.Graph.{ends_at, touches}
use Rattle.xn_model.specs.Lists.{one_if}
use Rattle.xn_model.specs.Map.{is_lone, tail_of}
use Rattle.xn_model.specs.Permutation.{count_below}
use Rattle.xn_model.proofs.Darts.{cases_dart, tail-even, tail-odd}
use Rattle.xn_ring.proofs.Counting.{count-same}
use Rattle.xn_genus.proofs.Counts.{count_below-drop}

-- some segment touches w, so some dart has it as its tail
pub touched_dart : (ends : List (ℕ × ℕ)) (w s : ℕ) → s < length ends → touches (ends_at ends s) w ≡ true → (x : ℕ) × (x < 2 * length ends) × (tail_of ends x ≡ w) × ((x ≡ 2 * s) ⊎ (x ≡ 2 * s + 1))
touched_dart ends w s s_in t = elim (or_cases _ _ t) [
  | inl first ↦ (2 * s, omega arith, tail-even ends s ∙ eqb-true _ _ first, inl refl)
  | inr second ↦ (2 * s + 1, omega arith, tail-odd ends s ∙ eqb-true _ _ second, inr refl)
]

pub find_touch : (ends : List (ℕ × ℕ)) (w : ℕ) → list_any (λ p. touches p w) ends ≡ true → (s : ℕ) × (s < length ends) × (touches (ends_at ends s) w ≡ true)
find_touch [] w t = absurd (both_ways false refl t)
find_touch (p ∷ ends) w t = elim (or_cases _ _ t) [
  | inl here ↦ (0, omega arith, here)
  | inr later ↦ let found = find_touch ends w later in (suc found.0, omega (arith, found.1), found.2)
]

pub dart_if_not_lone : (ends : List (ℕ × ℕ)) (w : ℕ) → is_lone ends w ≡ false → (x : ℕ) × (x < 2 * length ends) × (tail_of ends x ≡ w)
dart_if_not_lone ends w t =
    let found = find_touch ends w (not-false _ t) in
    let dart = touched_dart ends w found.0 found.1 found.2 in
    (dart.0, dart.1, dart.2)

pub no_dart_if_lone : (ends : List (ℕ × ℕ)) (w : ℕ) → is_lone ends w ≡ true → (x : ℕ) → x < 2 * length ends → tail_of ends x ≡ w → ⊥
no_dart_if_lone ends w t x x_in at_w =
    let c = cases_dart x in
    let s_in : c.0 < length ends = omega (arith, c.1) in
    let touch : touches (ends_at ends c.0) w ≡ true = elim c.1 [
      | inl even ↦ or_left _ _ (eq-eqb _ _ (sym (tail-even ends c.0) ∙ ap (tail_of ends) (sym even) ∙ at_w))
      | inr odd ↦ or_right _ _ (eq-eqb _ _ (sym (tail-odd ends c.0) ∙ ap (tail_of ends) (sym odd) ∙ at_w))
    ] in
    both_ways _ (not-true _ t) (list_any_at (λ p. touches p w) ends c.0 (0, 0) s_in touch)

-- the nodes that are lone before a segment comes
pub lone_count-push : (nodes : ℕ) (ends : List (ℕ × ℕ)) (p : ℕ × ℕ) → p.0 < nodes → p.1 < nodes →
    count_below nodes (is_lone ends) ≡ count_below nodes (is_lone (ends ++ p ∷ [])) + one_if (is_lone ends p.0 && not (eqb p.1 p.0)) + one_if (is_lone ends p.1)
lone_count-push nodes ends p u_in v_in =
    let one = count_below-drop nodes (is_lone ends) p.1 v_in in
    let two = count_below-drop nodes (λ w. is_lone ends w && not (eqb p.1 w)) p.0 u_in in
    let same : count_below nodes (is_lone (ends ++ p ∷ [])) ≡ count_below nodes (λ w. (is_lone ends w && not (eqb p.1 w)) && not (eqb p.0 w)) = count-same nodes _ _ (λ w w_in.
    ap not (list_any-append (λ q. touches q w) ends (p ∷ [])) ∙ tests (list_any (λ q. touches q w) ends) (eqb p.0 w) (eqb p.1 w)) in
    omega (arith, one, two, same)
  where
    tests : (a b c : Bool) → not (a || ((b || c) || false)) ≡ ((not a && not c) && not b)
    tests true b c = refl
    tests false true true = refl
    tests false true false = refl
    tests false false true = refl
    tests false false false = refl
