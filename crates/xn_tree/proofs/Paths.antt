-- What the last choice of a path says of its state, and what comes after it.
use Rattle.std.proofs.Common.{◌≡◌, ℕ, zero, suc, ◌+◌, ◌-◌, ◌<◌, ◌≤◌, inl, inr, Bool, true, false, ◌&&◌, eqb, List, [], ◌∷◌, ◌++◌, length, map, refl, sym, subst, ap, ◌∙◌, arith, get_or, rules, set}
use Rattle.std.specs.Prelude.{Option, Some, None, IsSome, insert, max, min, option_to_list, reverse, swap}
use Rattle.std.specs.List.{list_any, range_with_len, remove}
use Rattle.std.proofs.lemmas.Bool.{and_parts, cases_Bool, eq-eqb, eqb-true}
use Rattle.std.proofs.lemmas.List.{reverse-append}
use Rattle.std.proofs.lemmas.List.Edits.{length-insert, swap_is}
use Rattle.std.proofs.lemmas.Map.Steps.{length-le_from_distinct_below}
use Rattle.xn_model.specs.Graph.{Graph}
use Rattle.xn_model.specs.Lists.{has}
use Rattle.xn_kinds.specs.State.{State, Crosses, IsState, decide, place}
use Rattle.xn_tree.specs.Given.{Situation, state_of}
use Rattle.xn_tree.specs.Steps.{shift, undecide, unplace, value_in}
use Rattle.xn_tree.specs.Walk.{IsNextChoice, IsPath, MayAll, owed, state_after}
use Rattle.xn_tree.specs.declared.walks.Choice.{Choice}
use Rattle.xn_tree.specs.declared.walks.Choice.TheVariants.{Decided, Placed}
use Rattle.xn_tree.proofs.Kept.{decided_state, empty_is_state, eqb-flip, placed_state}

-- the state after a path is one of the graph
pub path_is_state : (g : Graph) (path : List Choice) → MayAll g path → IsState g (state_after path)
path_is_state g [] may = empty_is_state g
path_is_state g (Decided e f x ∷ path) may =
    decided_state g (state_after path) (path_is_state g path may.1) e f (Some x) may.0.0 may.0.1 may.0.2 may.0.3
path_is_state g (Placed e f i ∷ path) may =
    placed_state g (state_after path) (path_is_state g path may.1) e f i may.0.0.0 may.0.0.1

-- one choice less
pub below_top : (g h : Graph) (s t : State) (choice : Choice) (rest : List Choice) → IsPath g s (choice ∷ rest) → h ≡ g → t ≡ state_after rest → IsPath h t rest
below_top g h s t choice rest top same is = subst (λ k. IsPath k t rest) (sym same) (record { state = is; may = top.may.1 })

-- ---- a decided pair

decided_none : (b : State) (e f a c : ℕ) → b.decided e f ≡ None → (eqb a e && eqb c f) ≡ true → None ≡ b.decided a c
decided_none b e f a c none same =
    let parts : (eqb a e ≡ true) × (eqb c f ≡ true) = and_parts _ _ same in
    let first : b.decided a c ≡ b.decided e c = ap (λ v. b.decided v c) (eqb-true a e parts.0) in
    let second : b.decided e c ≡ b.decided e f = ap (b.decided e) (eqb-true c f parts.1) in
    sym (first ∙ second ∙ none)

-- a pair that is decided and taken back
undecide-decide : (b : State) (e f : ℕ) (x : Bool) → b.decided e f ≡ None → undecide (decide b e f x) e f ≡ b
undecide-decide b e f x none =
    let entry : (a c : ℕ) → (undecide (decide b e f x) e f).decided a c ≡ b.decided a c = λ a c. elim (cases_Bool (eqb a e && eqb c f)) [
      | inl same ↦ rw same (decided_none b e f a c none same)
      | inr other ↦ rw other refl
    ] in
    λ i. record { decided = λ a c. entry a c i; placed = b.placed }

module _ (g : Graph) (s : State) (e f : ℕ) (x : Bool) (rest : List Choice) (top : IsPath g s (Decided e f x ∷ rest)) where
  crosses_not : Crosses (state_after rest) e f → ⊥
  crosses_not h =
      let b = state_after rest in
      let none : b.decided e f ≡ None = top.may.0.3 in
      elim h [
        | inl is ↦ cc
        | inr is ↦ absurd (omega (arith, (path_is_state g rest top.may.1).rises f e true is, top.may.0.0))
      ]

  off : (a c : ℕ) → (Crosses (state_after rest) a c → ⊥) → has (s.placed a) c ≡ false
  off a c not_crossing = elim (cases_Bool (has (s.placed a) c)) [
    | inl on ↦ absurd (not_crossing ((path_is_state g rest top.may.1).crosses a c (subst (λ t. has (t.placed a) c ≡ true) top.state on)))
    | inr out ↦ out
  ]

  pub off_e : has (s.placed e) f ≡ false
  off_e = off e f crosses_not

  pub off_f : has (s.placed f) e ≡ false
  off_f = off f e (λ h. crosses_not (elim h [ inl is ↦ inr is | inr is ↦ inl is ]))

  low : min e f ≡ e
  low = omega (arith, top.may.0.0)

  high : max e f ≡ f
  high = omega (arith, top.may.0.0)

  pub is_decided : IsSome (value_in s e f)
  is_decided =
      let b = state_after rest in
      let here : (decide b e f x).decided e f ≡ Some x = rw (eq-eqb e e refl, eq-eqb f f refl) refl in
      subst (λ t. IsSome (value_in t e f)) (sym top.state) (rw (low, high, here) (search rules))

  pub undecided_is : undecide s (min e f) (max e f) ≡ state_after rest
  undecided_is =
      let b = state_after rest in
      rw (low, high) (ap (λ t. undecide t e f) top.state ∙ undecide-decide b e f x top.may.0.3)

  pub is_open : value_in (state_after rest) e f ≡ None
  is_open = ap (λ v. (state_after rest).decided v (max e f)) low ∙ ap ((state_after rest).decided e) high ∙ top.may.0.3

-- the other value of the pair
pub decided_next : (g : Graph) (s : State) (e f : ℕ) (rest : List Choice) → IsPath g s (Decided e f false ∷ rest) →
    (t : State) → t ≡ decide (state_after rest) (min e f) (max e f) true → IsPath g t (Decided e f true ∷ rest)
decided_next g s e f rest top t is =
    let low : min e f ≡ e = omega (arith, top.may.0.0) in
    let high : max e f ≡ f = omega (arith, top.may.0.0) in
    record { state = rw (low, high) at is; may = top.may }

-- after 0 comes 1, and after 1 none
pub taken_back_pair : (g h : Graph) (s t : State) (e f : ℕ) (rest : List Choice) → IsPath g s (Decided e f true ∷ rest) → h ≡ g → t ≡ undecide s (min e f) (max e f) →
    IsNextChoice h t (Decided e f true) rest None
taken_back_pair g h s t e f rest top same is = (below_top g h s t _ rest top same (is ∙ undecided_is g s e f true rest top), refl)

pub next_pair : (g h : Graph) (s t : State) (e f : ℕ) (rest : List Choice) → IsPath g s (Decided e f false ∷ rest) → h ≡ g →
    t ≡ decide (undecide s (min e f) (max e f)) (min e f) (max e f) true → IsNextChoice h t (Decided e f false) rest (Some (Decided e f true))
next_pair g h s t e f rest top same is =
    let back = ap (λ (u : State). decide u (min e f) (max e f) true) (undecided_is g s e f false rest top) in
    (subst (λ k. IsPath k t (Decided e f true ∷ rest)) (sym same) (decided_next g s e f rest top t (is ∙ back)), refl)

-- ---- a placed edge

remove-insert : (xs : List ℕ) (i f : ℕ) → i ≤ length xs → remove (insert xs i f) i ≡ xs
remove-insert xs zero f within = refl
remove-insert [] (suc i) f within = absurd (omega (arith, within))
remove-insert (x ∷ xs) (suc i) f within = ap (λ ys. x ∷ ys) (remove-insert xs i f (omega (arith, within)))

set-insert : (xs : List ℕ) (i f : ℕ) → i < length xs →
    set (set (insert xs i f) i (get_or (insert xs i f) (suc i) 0)) (suc i) (get_or (insert xs i f) i 0) ≡ insert xs (suc i) f
set-insert [] i f within = absurd (omega (arith, within))
set-insert (x ∷ xs) zero f within = refl
set-insert (x ∷ xs) (suc i) f within = ap (λ ys. x ∷ ys) (set-insert xs i f (omega (arith, within)))

swap-insert : (xs : List ℕ) (i j f : ℕ) → i < length xs → j ≡ suc i → swap (insert xs i f) i j ≡ insert xs j f
swap-insert xs i j f within is =
    let n = length-insert xs i f (omega (arith, within)) in
    subst (λ k. swap (insert xs i f) i k ≡ insert xs k f) (sym is)
    (sym (swap_is (insert xs i f) i (suc i) 0 (omega (arith, n, within)) (omega (arith, n, within))) ∙ set-insert xs i f within)

placed_at : (b : State) (e f i : ℕ) → (place b e f i).placed e ≡ insert (b.placed e) i f
placed_at b e f i = rw (eq-eqb e e refl) refl

unplace-place : (b : State) (e f i : ℕ) → i ≤ length (b.placed e) → unplace (place b e f i) e i ≡ b
unplace-place b e f i within =
    let list : (a : ℕ) → (unplace (place b e f i) e i).placed a ≡ b.placed a = λ a. elim (cases_Bool (eqb a e)) [
      | inl same ↦ rw (same, placed_at b e f i) (remove-insert (b.placed e) i f within ∙ ap b.placed (sym (eqb-true a e same)))
      | inr other ↦ rw other refl
    ] in
    λ j. record { decided = b.decided; placed = λ a. list a j }

shift-place : (b : State) (e f i : ℕ) → i < length (b.placed e) → shift (place b e f i) e i ≡ place b e f (i + 1)
shift-place b e f i within =
    let list : (a : ℕ) → (shift (place b e f i) e i).placed a ≡ (place b e f (i + 1)).placed a = λ a. elim (cases_Bool (eqb a e)) [
      | inl same ↦ rw (same, placed_at b e f i) (swap-insert (b.placed e) i (i + 1) f within (omega arith))
      | inr other ↦ rw other refl
    ] in
    λ j. record { decided = b.decided; placed = λ a. list a j }

module _ (g : Graph) (s : State) (e f i : ℕ) (rest : List Choice) (top : IsPath g s (Placed e f i ∷ rest)) where
  pub edge_in : e < length g.ends
  edge_in =
      let is_state = path_is_state g rest top.may.1 in
      elim top.may.0.0.0 [
        | inl is ↦ omega (arith, is_state.rises e f true is, is_state.below e f true is)
        | inr is ↦ is_state.below f e true is
      ]

  pub placed_length : length (s.placed e) ≡ length ((state_after rest).placed e) + 1
  placed_length =
      let b = state_after rest in
      ap (λ t. length (t.placed e)) top.state ∙ ap length (placed_at b e f i) ∙ length-insert (b.placed e) i f top.may.0.1

  pub position_in : i < length (s.placed e)
  position_in = omega (arith, placed_length, top.may.0.1)

  pub unplaced_is : unplace s e i ≡ state_after rest
  unplaced_is = ap (λ t. unplace t e i) top.state ∙ unplace-place (state_after rest) e f i top.may.0.1

  pub placed_next : i + 1 < length (s.placed e) → (t : State) → t ≡ shift s e i → IsPath g t (Placed e f (i + 1) ∷ rest)
  placed_next more t is = record {
    state = is ∙ ap (λ u. shift u e i) top.state ∙ shift-place (state_after rest) e f i (omega (arith, placed_length, more));
    may = ((top.may.0.0, omega (arith, placed_length, more)), top.may.1);
  }

  pub owed_next : i + 1 < length (s.placed e) → owed (Placed e f i ∷ rest) ≡ state_after (Placed e f (i + 1) ∷ rest) ∷ owed (Placed e f (i + 1) ∷ rest)
  owed_next more =
      let b = state_after rest in
      let n = length (b.placed e) in
      let left : n - i ≡ suc (n - (i + 1)) = omega (arith, placed_length, more) in
      ap (λ m. map (place b e f) (range_with_len (i + 1) m) ++ owed rest) left

  pub owed_none : (i + 1 < length (s.placed e) → ⊥) → owed (Placed e f i ∷ rest) ≡ owed rest
  owed_none last =
      let b = state_after rest in
      let left : length (b.placed e) - i ≡ 0 = omega (arith, placed_length, last) in
      ap (λ m. map (place b e f) (range_with_len (i + 1) m) ++ owed rest) left

-- after each position comes the next, and after the last none
pub taken_back_place : (g h : Graph) (s t : State) (e f i : ℕ) (rest : List Choice) → IsPath g s (Placed e f i ∷ rest) → h ≡ g → i + 1 ≡ length (s.placed e) → t ≡ unplace s e i →
    IsNextChoice h t (Placed e f i) rest None
taken_back_place g h s t e f i rest top same last is = (
  below_top g h s t _ rest top same (is ∙ unplaced_is g s e f i rest top),
  owed_none g s e f i rest top (λ more. omega (arith, more, last)),
)

pub next_place : (g h : Graph) (s t : State) (e f i : ℕ) (rest : List Choice) → IsPath g s (Placed e f i ∷ rest) → h ≡ g → i + 1 < length (s.placed e) → t ≡ shift s e i →
    IsNextChoice h t (Placed e f i) rest (Some (Placed e f (i + 1)))
next_place g h s t e f i rest top same more is = (
  subst (λ k. IsPath k t (Placed e f (i + 1) ∷ rest)) (sym same) (placed_next g s e f i rest top more t is),
  owed_next g s e f i rest top more,
)

-- ---- steps of the walk

-- the walk came from one path to another
pub record Came (g : Graph) (from : List Choice) (v : Situation) (path : List Choice) : Type 0 where
  pub same_graph : v.graph ≡ g
  pub leads : IsPath v.graph (state_of v) (reverse path)
  pub still_owed : owed (reverse path) ≡ owed (reverse from)

-- the last choice of a path
pub reversed : (xs ys : List Choice) (choice : Choice) → xs ≡ ys ++ choice ∷ [] → reverse xs ≡ choice ∷ reverse ys
reversed xs ys choice whole = ap reverse whole ∙ reverse-append ys (choice ∷ [])

pub top_is : (xs ys : List Choice) (o : Option Choice) (choice known : Choice) → xs ≡ ys ++ option_to_list o → o ≡ Some choice → choice ≡ known →
    reverse xs ≡ known ∷ reverse ys
top_is xs ys o choice known whole is kind = reversed xs ys known (whole ∙ ap (λ p. ys ++ option_to_list p) (is ∙ ap Some kind))

pub top_of : (g : Graph) (s : State) (xs ys : List Choice) (o : Option Choice) (choice known : Choice) → IsPath g s (reverse xs) →
    xs ≡ ys ++ option_to_list o → o ≡ Some choice → choice ≡ known → IsPath g s (known ∷ reverse ys)
top_of g s xs ys o choice known leads whole is kind = subst (IsPath g s) (top_is xs ys o choice known whole is kind) leads

-- one choice more
pub pushed : (g h : Graph) (t : State) (zs ys : List Choice) (choice : Choice) → h ≡ g → IsPath g t (choice ∷ reverse ys) → zs ≡ ys ++ choice ∷ [] →
    IsPath h t (reverse zs)
pushed g h t zs ys choice same leads whole =
    subst (λ k. IsPath k t (reverse zs)) (sym same) (subst (IsPath g t) (sym (reversed zs ys choice whole)) leads)

-- ---- the number of placed edges is one of 32 bits

pub few_placed : (g : Graph) (s : State) → IsState g s → (e : ℕ) → length (s.placed e) ≤ length g.ends
few_placed g s is_state e =
    length-le_from_distinct_below (s.placed e) (length g.ends) (is_state.no_repeats e) (λ q on. below q (is_state.crosses e q (flipped (s.placed e) q ∙ on)))
  where
    below : (q : ℕ) → Crosses s e q → q < length g.ends
    below q h = elim h [
      | inl is ↦ is_state.below e q true is
      | inr is ↦ omega (arith, is_state.rises q e true is, is_state.below q e true is)
    ]

    flipped : (xs : List ℕ) (q : ℕ) → has xs q ≡ list_any (eqb q) xs
    flipped [] q = refl
    flipped (x ∷ xs) q = rw (eqb-flip x q, flipped xs q) refl
