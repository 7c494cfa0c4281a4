-- A state stays one of the graph where a pair is decided or taken back, and where an edge is placed or taken away.
use Rattle.std.proofs.Common.{◌≡◌, ℕ, ◌+◌, ◌<◌, inl, inr, Bool, true, false, ◌&&◌, ◌||◌, eqb, List, [], ◌∷◌, length, refl, sym, subst, ap, ◌∙◌, arith, get_or}
use Rattle.std.specs.Prelude.{Option, Some, None, insert, nat_eq, not, swap}
use Rattle.std.specs.List.{AllByRecursion, IsDistinct, remove}
use Rattle.std.specs.List.Sorted.{IsPermutation}
use Rattle.std.proofs.lemmas.Bool.{both_ways, cases_Bool, cases_eq, cond-false, eq-eqb, eqb-true, ne_eqb, and_parts, or_cases}
use Rattle.std.proofs.lemmas.List.{get_or_default}
use Rattle.std.proofs.lemmas.List.Sorted.{IsPermutation-insert, IsPermutation-remove, IsPermutation-swap, list_any-IsPermutation}
use Rattle.std.proofs.lemmas.Map.Keys.{IsDistinct-cons, IsDistinct-IsPermutation, IsDistinct-tail}
use Rattle.xn_model.specs.Graph.{Graph, Independent, ends_at, touches}
use Rattle.xn_model.specs.Lists.{has}
use Rattle.xn_kinds.specs.State.{State, Crosses, IsState, empty_state, place}
use Rattle.xn_tree.specs.Steps.{shift, unplace, with_entry}
use Rattle.xn_tree.proofs.Table.{with_list}

-- an edge isn't independent of itself
pub not_itself : (ends : List (ℕ × ℕ)) (e : ℕ) → Independent ends e e → ⊥
not_itself ends e h =
    let p = ends_at ends e in
    let parts : (not (touches p p.0) ≡ true) × (not (touches p p.1) ≡ true) = and_parts _ _ h in
    let meets : touches p p.0 ≡ true = let same : eqb p.0 p.0 ≡ true = eq-eqb p.0 p.0 refl in rw same refl in
    both_ways _ (rw meets refl) parts.0

-- which of them share an end, asked from either side
turned : (p q r s : Bool) → (not (p || q) && not (r || s)) ≡ true → (not (p || r) && not (q || s)) ≡ true
turned true q r s h = absurd (both_ways false refl h)
turned false true r s h = absurd (both_ways false refl h)
turned false false true s h = absurd (both_ways false refl h)
turned false false false true h = absurd (both_ways false refl h)
turned false false false false h = refl

pub eqb-flip : (x y : ℕ) → eqb x y ≡ eqb y x
eqb-flip x y = elim (cases_eq x y) [
  | inl same ↦ eq-eqb x y same ∙ sym (eq-eqb y x (sym same))
  | inr differ ↦ ne_eqb x y differ ∙ sym (ne_eqb y x (λ same. differ (sym same)))
]

-- independence goes both ways
pub independent-flip : (ends : List (ℕ × ℕ)) (e f : ℕ) → Independent ends e f → Independent ends f e
independent-flip ends e f h =
    let p = ends_at ends e in
    let q = ends_at ends f in
    rw (eqb-flip q.0 p.0, eqb-flip q.1 p.0, eqb-flip q.0 p.1, eqb-flip q.1 p.1) (turned (eqb p.0 q.0) (eqb p.1 q.0) (eqb p.0 q.1) (eqb p.1 q.1) h)

-- the state in which nothing is given is one of each graph
pub empty_is_state : (g : Graph) → IsState g empty_state
unfolding IsDistinct
empty_is_state g = record {
  rises = λ e f x is. cc;
  below = λ e f x is. cc;
  independent = λ e f x is. cc;
  no_repeats = λ e. tt;
  crosses = λ e f h. absurd (both_ways false refl h);
}

-- ---- pairs

module _ (g : Graph) (s : State) (is_state : IsState g s) (e f : ℕ) (entry : Option Bool) where
  -- what holds of the pair and of each decided one holds of each that is decided then
  told : (P : ℕ → ℕ → Type 0) → P e f → ((a b : ℕ) (y : Bool) → s.decided a b ≡ Some y → P a b) →
      (a b : ℕ) (y : Bool) → (with_entry s e f entry).decided a b ≡ Some y → P a b
  told P here before a b y is = elim (cases_Bool (eqb a e && eqb b f)) [
    | inl same ↦
        let parts : (eqb a e ≡ true) × (eqb b f ≡ true) = and_parts _ _ same in
        subst (λ v. P v b) (sym (eqb-true a e parts.0)) (subst (λ v. P e v) (sym (eqb-true b f parts.1)) here)
    | inr other ↦ before a b y (sym (cond-false _ _ _ other) ∙ is)
  ]

  -- another pair stays decided
  stays : (a b : ℕ) → (a ≡ e → b ≡ f → ⊥) → s.decided a b ≡ Some true → (with_entry s e f entry).decided a b ≡ Some true
  stays a b apart is = elim (cases_Bool (eqb a e && eqb b f)) [
    | inl same ↦
        let parts : (eqb a e ≡ true) × (eqb b f ≡ true) = and_parts _ _ same in
        absurd (apart (eqb-true a e parts.0) (eqb-true b f parts.1))
    | inr other ↦ cond-false _ _ _ other ∙ is
  ]

  entry_state : e < f → f < length g.ends → Independent g.ends e f →
      ((a b : ℕ) → has (s.placed a) b ≡ true → Crosses (with_entry s e f entry) a b) → IsState g (with_entry s e f entry)
  entry_state rises below apart crosses = record {
    rises = told (λ a b. a < b) rises is_state.rises;
    below = told (λ a b. b < length g.ends) below is_state.below;
    independent = told (Independent g.ends) apart is_state.independent;
    no_repeats = is_state.no_repeats;
    crosses = crosses;
  }

  pub decided_state : e < f → f < length g.ends → Independent g.ends e f → s.decided e f ≡ None → IsState g (with_entry s e f entry)
  decided_state rises below apart open_pair = entry_state rises below apart (λ a b placed.
      elim (is_state.crosses a b placed) [
        | inl is ↦ inl (stays a b (λ ae bf. none_here a b ae bf is) is)
        | inr is ↦ inr (stays b a (λ be af. none_here b a be af is) is)
      ])
    where
      none_here : (a b : ℕ) → a ≡ e → b ≡ f → s.decided a b ≡ Some true → ⊥
      none_here a b ae bf is =
          let none : s.decided a b ≡ None = ap (λ x. s.decided x b) ae ∙ ap (s.decided e) bf ∙ open_pair in
          cc

  pub undecided_state : e < f → f < length g.ends → Independent g.ends e f → has (s.placed e) f ≡ false → has (s.placed f) e ≡ false →
      IsState g (with_entry s e f entry)
  undecided_state rises below apart off_e off_f = entry_state rises below apart (λ a b placed.
      elim (is_state.crosses a b placed) [
        | inl is ↦ inl (stays a b (λ ae bf. both_ways (has (s.placed a) b) (ap (λ x. has (s.placed x) b) ae ∙ ap (has (s.placed e)) bf ∙ off_e) placed) is)
        | inr is ↦ inr (stays b a (λ be af. both_ways (has (s.placed a) b) (ap (λ x. has (s.placed x) b) af ∙ ap (has (s.placed f)) be ∙ off_f) placed) is)
      ])

-- ---- placed edges

neither : (a b : Bool) → (a || b) ≡ false → (a ≡ false) × (b ≡ false)
neither true b h = absurd (both_ways true h refl)
neither false b h = (refl, h)

later : (a b : Bool) → b ≡ true → (a || b) ≡ true
later true b h = refl
later false b h = h

-- a number that isn't in the list is none of its elements
unlike_each : (f : ℕ) (xs : List ℕ) → has xs f ≡ false → AllByRecursion (λ y. nat_eq f y ≡ false) xs
unlike_each f [] out = tt
unlike_each f (x ∷ xs) out =
    let parts : (eqb x f ≡ false) × (has xs f ≡ false) = neither _ _ out in
    (eqb-flip f x ∙ parts.0, unlike_each f xs parts.1)

module _ (g : Graph) (s : State) (is_state : IsState g s) (e : ℕ) (xs : List ℕ) where
  list_state : IsDistinct nat_eq xs → ((b : ℕ) → has xs b ≡ true → Crosses s e b) → IsState g (with_list s e xs)
  list_state distinct crosses = record {
    rises = is_state.rises;
    below = is_state.below;
    independent = is_state.independent;
    no_repeats = λ a. elim (cases_Bool (eqb a e)) [
      | inl same ↦ rw same distinct
      | inr other ↦ rw other (is_state.no_repeats a)
    ];
    crosses = λ a b h. elim (cases_Bool (eqb a e)) [
      | inl same ↦ subst (λ v. Crosses s v b) (sym (eqb-true a e same)) (crosses b (rw same at h))
      | inr other ↦ is_state.crosses a b (rw other at h)
    ];
  }

module _ (g : Graph) (s : State) (is_state : IsState g s) (e : ℕ) where
  pub placed_state : (f i : ℕ) → Crosses s e f → has (s.placed e) f ≡ false → IsState g (place s e f i)
  placed_state f i crosses out =
      let moved = IsPermutation-insert (s.placed e) i f in
      list_state g s is_state e (insert (s.placed e) i f)
      (IsDistinct-IsPermutation nat_eq eqb-flip (f ∷ s.placed e) (insert (s.placed e) i f) moved
      (IsDistinct-cons nat_eq f (s.placed e) (unlike_each f (s.placed e) out) (is_state.no_repeats e)))
      (λ b h.
      let first : has (f ∷ s.placed e) b ≡ true = list_any-IsPermutation (λ y. eqb y b) _ _ moved ∙ h in
      elim (or_cases (eqb f b) (has (s.placed e) b) first) [
        | inl here ↦ subst (Crosses s e) (eqb-true f b here) crosses
        | inr in_list ↦ is_state.crosses e b in_list
      ])

  pub unplaced_state : (i : ℕ) → i < length (s.placed e) → IsState g (unplace s e i)
  unplaced_state i within =
      let out = get_or (s.placed e) i 0 in
      let moved : IsPermutation (s.placed e) (out ∷ remove (s.placed e) i) = IsPermutation-remove (s.placed e) i out within (get_or_default (s.placed e) i 0 out within) in
      list_state g s is_state e (remove (s.placed e) i)
      (IsDistinct-tail nat_eq out (remove (s.placed e) i) (IsDistinct-IsPermutation nat_eq eqb-flip (s.placed e) (out ∷ remove (s.placed e) i) moved (is_state.no_repeats e)))
      (λ b h. is_state.crosses e b (list_any-IsPermutation (λ y. eqb y b) _ _ moved ∙ later (eqb out b) (has (remove (s.placed e) i) b) h))

  pub shifted_state : (i : ℕ) → i + 1 < length (s.placed e) → IsState g (shift s e i)
  shifted_state i within =
      let ys = swap (s.placed e) i (i + 1) in
      let moved : IsPermutation (s.placed e) ys = IsPermutation-swap (s.placed e) ys i (i + 1) (omega (arith, within)) within refl in
      list_state g s is_state e ys (IsDistinct-IsPermutation nat_eq eqb-flip (s.placed e) ys moved (is_state.no_repeats e))
      (λ b h. is_state.crosses e b (list_any-IsPermutation (λ y. eqb y b) _ _ moved ∙ h))
