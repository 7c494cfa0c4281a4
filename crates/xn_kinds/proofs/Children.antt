-- The children of a node that keeps its rule have states of the graph.
use Rattle.std.proofs.Common.{◌≡◌, ℕ, suc, ◌<◌, inl, inr, Bool, true, false, ◌&&◌, eqb, List, [], ◌∷◌, length, refl, sym, subst, ap, ◌∙◌}
use Rattle.std.specs.Prelude.{Some, None, insert, nat_eq}
use Rattle.std.specs.List.{IsDistinct, range_with_len}
use Rattle.std.proofs.lemmas.Bool.{both_ways, cases_Bool, cond-false, eqb-true, or_cases, and_parts}
use Rattle.std.proofs.lemmas.List.Elements.{All-cons, All-map, All-nil}
use Rattle.std.proofs.lemmas.List.Sorted.{IsPermutation-insert, list_any-IsPermutation}
use Rattle.std.proofs.lemmas.Map.Keys.{IsDistinct-cons, IsDistinct-IsPermutation}
use Rattle.xn_model.specs.Graph.{Graph, Independent}
use Rattle.xn_model.specs.Lists.{has}
use Rattle.xn_model.proofs.Tests.{eqb-flip}
use Rattle.xn_model.proofs.Has.{unlike_each}
use Rattle.xn_kinds.specs.Laws.{ChildrenAreStates, EmptyIsState}
use Rattle.xn_kinds.specs.State.{State, Crosses, IsState, decide, place}
use Rattle.xn_kinds.specs.declared.trees.Node.TheVariants.{Pair, Place, Leaf}

pub empty_is_state : EmptyIsState
unfolding IsDistinct
empty_is_state g = record {
  rises = λ e f x is. cc;
  below = λ e f x is. cc;
  independent = λ e f x is. cc;
  no_repeats = λ e. tt;
  crosses = λ e f h. absurd (both_ways false refl h);
}

-- ---- a pair is decided

module _ (g : Graph) (s : State) (is_state : IsState g s) (e f : ℕ) (x : Bool) (open_pair : s.decided e f ≡ None) where
  -- what holds of the pair and of each decided one holds of each decided one afterwards
  told : (P : ℕ → ℕ → Type 0) → P e f → ((a b : ℕ) (y : Bool) → s.decided a b ≡ Some y → P a b) →
      (a b : ℕ) (y : Bool) → (decide s e f x).decided a b ≡ Some y → P a b
  told P here before a b y is = elim (cases_Bool (eqb a e && eqb b f)) [
    | inl same ↦
        let parts : (eqb a e ≡ true) × (eqb b f ≡ true) = and_parts _ _ same in
        subst (λ v. P v b) (sym (eqb-true a e parts.0)) (subst (λ v. P e v) (sym (eqb-true b f parts.1)) here)
    | inr other ↦ before a b y (sym (cond-false _ _ _ other) ∙ is)
  ]

  -- a decided pair stays as it is
  stays : (a b : ℕ) (y : Bool) → s.decided a b ≡ Some y → (decide s e f x).decided a b ≡ Some y
  stays a b y is = elim (cases_Bool (eqb a e && eqb b f)) [
    | inl same ↦
        let parts : (eqb a e ≡ true) × (eqb b f ≡ true) = and_parts _ _ same in
        let both : s.decided a b ≡ None = ap (λ v. s.decided v b) (eqb-true a e parts.0) ∙ ap (s.decided e) (eqb-true b f parts.1) ∙ open_pair in
        cc
    | inr other ↦ cond-false _ _ _ other ∙ is
  ]

  crosses_stays : (a b : ℕ) → Crosses s a b → Crosses (decide s e f x) a b
  crosses_stays a b h = elim h [ inl is ↦ inl (stays a b true is) | inr is ↦ inr (stays b a true is) ]

  decided_state : e < f → f < length g.ends → Independent g.ends e f → IsState g (decide s e f x)
  decided_state rises below apart = record {
    rises = told (λ a b. a < b) rises is_state.rises;
    below = told (λ a b. b < length g.ends) below is_state.below;
    independent = told (Independent g.ends) apart is_state.independent;
    no_repeats = is_state.no_repeats;
    crosses = λ a b h. crosses_stays a b (is_state.crosses a b h);
  }

-- ---- an edge is placed

-- a number that isn't in the list may be put in anywhere
IsDistinct-insert : (xs : List ℕ) (i f : ℕ) → has xs f ≡ false → IsDistinct nat_eq xs → IsDistinct nat_eq (insert xs i f)
IsDistinct-insert xs i f out distinct =
    IsDistinct-IsPermutation nat_eq eqb-flip (f ∷ xs) (insert xs i f) (IsPermutation-insert xs i f)
    (IsDistinct-cons nat_eq f xs (unlike_each f xs out) distinct)

module _ (g : Graph) (s : State) (is_state : IsState g s) (e f i : ℕ) (crosses : Crosses s e f) (out : has (s.placed e) f ≡ false) where
  -- what is placed along e now crosses it
  inserted_crosses : (b : ℕ) → has (insert (s.placed e) i f) b ≡ true → Crosses s e b
  inserted_crosses b h =
      let first : has (f ∷ s.placed e) b ≡ true = list_any-IsPermutation (λ y. eqb y b) _ _ (IsPermutation-insert (s.placed e) i f) ∙ h in
      elim (or_cases (eqb f b) (has (s.placed e) b) first) [
        | inl here ↦ subst (Crosses s e) (eqb-true f b here) crosses
        | inr later ↦ is_state.crosses e b later
      ]

  placed_state : IsState g (place s e f i)
  placed_state = record {
    rises = is_state.rises;
    below = is_state.below;
    independent = is_state.independent;
    no_repeats = λ a. elim (cases_Bool (eqb a e)) [
      | inl same ↦ rw same (IsDistinct-insert (s.placed e) i f out (is_state.no_repeats e))
      | inr other ↦ rw other (is_state.no_repeats a)
    ];
    crosses = λ a b h. elim (cases_Bool (eqb a e)) [
      | inl same ↦ subst (λ v. Crosses s v b) (sym (eqb-true a e same)) (inserted_crosses b (rw same at h))
      | inr other ↦ is_state.crosses a b (rw other at h)
    ];
  }

pub children_are_states : ChildrenAreStates
children_are_states g k rows s (Pair e f) is_state keeps =
    let child : (x : Bool) → IsState g (decide s e f x) = λ x. decided_state g s is_state e f x keeps.3 keeps.0 keeps.1 keeps.2 in
    All-cons (IsState g) _ (decide s e f true ∷ []) (child false) (All-cons (IsState g) _ [] (child true) (All-nil (IsState g)))
children_are_states g k rows s (Place e f) is_state keeps =
    All-map (IsState g) (place s e f) (range_with_len 0 (suc (length (s.placed e)))) (λ j d below. placed_state g s is_state e f _ keeps.0 keeps.1)
children_are_states g k rows s (Leaf d parts) is_state keeps = All-nil (IsState g)
