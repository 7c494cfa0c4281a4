-- The turn of a node of a map has each of its darts, once.
use Rattle.std.proofs.Common.{◌≡◌, ℕ, zero, suc, ◌+◌, ◌-◌, ◌*◌, ◌<◌, ◌≤◌, ◌==◌, inl, inr, Bool, true, false, cond, eqb, List, [], length, get_or, refl, sym, ap, ◌∙◌, subst, arith}
use Rattle.std.specs.Prelude.{nat_eq}
use Rattle.std.specs.List.{IsDistinct, list_any}
use Rattle.std.proofs.lemmas.Bool.{both_ways, cases_Bool, cases_eq, eq-eqb, eqb-true, ne_eqb}
use Rattle.std.proofs.lemmas.Map.Keys.{IsDistinct-from_apart}
use Rattle.xn_model.specs.Lists.{at, has}
use Rattle.xn_model.specs.Map.{IsMap, tail_of}
use Rattle.xn_model.specs.Permutation.{Permutes, iterate, walk}
use Rattle.xn_ring.proofs.Counting.{count-none}
use Rattle.xn_ring.proofs.Marked.{any_walk_at, any_walk_from}
use Rattle.xn_ring.proofs.Marks.{count_marks}
use Rattle.xn_ring.proofs.Orbits.{comes_back, first_below, iterate-add, iterate_apart, iterate_below, within_round}
use Rattle.xn_map.proofs.Arcs.{tail_walk}
use Rattle.xn_model.proofs.Decide.{iterate-step, length-walk}
use Rattle.xn_show.specs.Laws.{TurnsGoRound}
use Rattle.xn_graph.specs.Stars.{darts_of}
use Rattle.xn_graph.proofs.DartsOf.{darts_of-at, darts_of-least, darts_of-place, length-darts_of}
use Rattle.xn_show.specs.Turns.{HasDartsOnce, turn_of}

-- ---- a walk that comes back

get_or-walk : (f : ℕ → ℕ) (k d i x : ℕ) → i < k → get_or (walk f k d) i x ≡ iterate f i d
get_or-walk f zero d i x low = absurd (omega arith)
get_or-walk f (suc k) d zero x low = refl
get_or-walk f (suc k) d (suc i) x low = get_or-walk f k (f d) i x (omega arith) ∙ iterate-step f i d

-- the walk comes back to d after m steps more than one, and not before
record ComesRound (f : ℕ → ℕ) (d m : ℕ) : Type 0 where
  back : iterate f (suc m) d ≡ d
  away : (k : ℕ) → k < m → iterate f (suc k) d ≡ d → ⊥

module _ (n : ℕ) (f : ℕ → ℕ) (permutes : Permutes n f) (d : ℕ) (d_in : d < n) where
  round : (m : ℕ) × ComesRound f d m
  round = elim (first_below n (λ j. iterate f (suc j) d == d)) [
    | inl found ↦ (found.0, record { back = eqb-true _ _ found.2; away = λ k low same. both_ways _ (found.3 k low) (eq-eqb _ _ same) })
    | inr none ↦
        let some = comes_back n f permutes d d_in in
        absurd (both_ways _ (none some.0 some.1) (eq-eqb _ _ some.2))
  ]

  distinct : (m : ℕ) → ComesRound f d m → IsDistinct nat_eq (walk f (suc m) d)
  distinct m comes = IsDistinct-from_apart nat_eq (walk f (suc m) d) apart
    where
      meets : (i j : ℕ) → i < j → j ≤ m → iterate f i d ≡ iterate f j d → ⊥
      meets i j low high same =
          let k : (k : ℕ) × (i + suc k ≡ j) = (j - suc i, omega arith) in
          let shifted = same ∙ ap (λ (l : ℕ). iterate f l d) (sym k.1) ∙ iterate-add f i (suc k.0) d in
          let first = iterate_apart n f permutes i d (iterate f (suc k.0) d) d_in (iterate_below n f permutes (suc k.0) d d_in) shifted in
          comes.away k.0 (omega (arith, k.1)) (sym first)

      apart : (i j x : ℕ) → i < j → j < length (walk f (suc m) d) → nat_eq (get_or (walk f (suc m) d) i x) (get_or (walk f (suc m) d) j x) ≡ false
      apart i j x low high =
          let high_in : j < suc m = omega (arith, high, length-walk f (suc m) d) in
          ne_eqb _ _ (λ same. meets i j low (omega arith) (sym (get_or-walk f (suc m) d i x (omega arith)) ∙ same ∙ get_or-walk f (suc m) d j x high_in))

no_two : IsDistinct nat_eq []
unfolding IsDistinct
no_two = tt

-- ---- the darts of a node

module _ (nodes : ℕ) (ends : List (ℕ × ℕ)) (next : ℕ → ℕ) (v : ℕ) (is_map : IsMap nodes ends next) where
  abbrev n : ℕ
  n = 2 * length ends

  abbrev at_v : ℕ → Bool
  at_v d = tail_of ends d == v

  abbrev count : ℕ
  count = length (darts_of ends v)

  module _ (d : ℕ) (d_in : d < n) (d_at : tail_of ends d ≡ v) (m : ℕ) (comes : ComesRound next d m) where
    listed_at : (e j : ℕ) → iterate next j d ≡ e → (e < n) × (tail_of ends e ≡ v)
    listed_at e j is = (
      (let below = iterate_below n next is_map.permutes j d d_in in omega (arith, below, is)),
      ap (tail_of ends) (sym is) ∙ tail_walk n ends next is_map.permutes is_map.same_node d d_in j ∙ d_at,
    )

    place : (e : ℕ) → e < n → tail_of ends e ≡ v → (j : ℕ) × (j < suc m) × (iterate next j d ≡ e)
    place e e_in e_at =
        let reached = is_map.one_ring d e d_in e_in (d_at ∙ sym e_at) in
        let found = within_round n next is_map.permutes d m comes.back reached.0 in
        (found.0, omega (arith, found.1), found.2 ∙ reached.1)

    -- the walk has as many steps as the node has darts
    steps : count ≡ suc m
    steps =
        let marks = count_marks n at_v (walk next (suc m) d) (distinct n next is_map.permutes d d_in m comes) (λ t h. (
        let step = any_walk_at (eqb t) next (suc m) d h in
        let there = listed_at t step.0 (sym (eqb-true _ _ step.2)) in
        (there.0, eq-eqb _ _ there.1)
        )) in
        let left = count-none n (λ x. cond (list_any (eqb x) (walk next (suc m) d)) false (at_v x)) (λ e e_in. elim (cases_Bool (at_v e)) [
          | inl here ↦ (
              let step = place e e_in (eqb-true _ _ here) in
              rw (any_walk_from (eqb e) next (suc m) d step.0 step.1 (eq-eqb _ _ (sym step.2))) refl
              )
          | inr other ↦ elim (cases_Bool (list_any (eqb e) (walk next (suc m) d))) [ inl listed ↦ rw listed refl | inr unlisted ↦ rw (unlisted, other) refl ]
        ]) in
        omega (arith, length-darts_of ends v, marks, left, length-walk next (suc m) d)

    -- where it begins with the least dart
    goes_round : ((e : ℕ) → e < n → tail_of ends e ≡ v → d ≤ e) → HasDartsOnce ends v (walk next (suc m) d)
    goes_round least =
        let there : (e : ℕ) → has (walk next (suc m) d) e ≡ true → (e < n) × (tail_of ends e ≡ v) = λ e h. (
        let step = any_walk_at (λ y. y == e) next (suc m) d h in
        listed_at e step.0 (eqb-true _ _ step.2)
        ) in
        let here : (e : ℕ) → (e < n) × (tail_of ends e ≡ v) → has (walk next (suc m) d) e ≡ true = λ e p. (
        let step = place e p.0 p.1 in
        any_walk_from (λ y. y == e) next (suc m) d step.0 step.1 (eq-eqb _ _ step.2)
        ) in
        record {
          each = λ e. (there e, here e);
          once = distinct n next is_map.permutes d d_in m comes;
          least = λ e h. (let p = there e h in least e p.0 p.1);
        }

  abbrev first : ℕ
  first = at (darts_of ends v) 0

  no_turn : count ≡ 0 → HasDartsOnce ends v []
  no_turn none = record {
    each = λ e. (
      λ h. absurd (both_ways false refl h),
      λ p. (let place = darts_of-place ends v e p.0 p.1 in absurd (omega (arith, place.1, none))),
    );
    once = no_two;
    least = λ e h. absurd (both_ways false refl h);
  }

  turn_round : HasDartsOnce ends v (turn_of ends next v)
  turn_round =
      let P : ℕ → Type 0 = λ k. HasDartsOnce ends v (walk next k first) in
      elim (cases_eq count 0) [
        | inl none ↦ subst P (sym none) (no_turn none)
        | inr some ↦
            let some_dart : 0 < count = omega (arith, some) in
            let there = darts_of-at ends v 0 some_dart in
            let first_in = there.0 in
            let first_at = there.1 in
            let comes = round n next is_map.permutes first first_in in
            subst P (sym (steps first first_in first_at comes.0 comes.1))
            (goes_round first first_in first_at comes.0 comes.1 (λ e e_in e_at. darts_of-least ends v e e_in e_at))
      ]

pub turns_go_round : TurnsGoRound
turns_go_round nodes ends next v is_map = turn_round nodes ends next v is_map
