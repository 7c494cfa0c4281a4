-- How the counts of a state change where a pair is decided, and where an edge is placed.
use Rattle.std.proofs.Common.{◌≡◌, ◌≢◌, ℕ, ◌+◌, ◌*◌, ◌<◌, ◌≤◌, inl, inr, Bool, true, false, ◌&&◌, ◌||◌, eqb, List, length, refl, sym, ◌∙◌, ap, arith}
use Rattle.std.specs.Prelude.{is_none, Option, Some, None, cond, insert, not}
use Rattle.std.proofs.lemmas.Bool.{both_ways, cases_Bool, and_parts, cond-true, cond-false, eqb-true, eq-eqb, ne_eqb}
use Rattle.std.proofs.lemmas.List.Sorted.{IsPermutation-insert, list_any-IsPermutation}
use Rattle.xn_model.specs.Graph.{Graph, Independent, edges_of, pairs_of}
use Rattle.xn_model.specs.Lists.{has, one_if}
use Rattle.xn_kinds.specs.State.{State, Crosses, IsState, decide, place}
use Rattle.xn_effort.specs.Potential.{is_one, ones_in, undecided_in, unplaced_at, unplaced_in}
use Rattle.xn_effort.proofs.Sums.{is_pair, pair_once, same_pair, total_one}

pub one_if-le : (b : Bool) → one_if b ≤ 1
one_if-le true = omega arith
one_if-le false = omega arith

pub eqb-same : (e : ℕ) → eqb e e ≡ true
eqb-same e = eq-eqb e e refl

-- ---- a pair is decided

module _ (g : Graph) (s : State) (e f : ℕ) (x : Bool) (rises : e < f) (below : f < length g.ends) (apart : Independent g.ends e f) (was_open : s.decided e f ≡ None) where
  abbrev pub after : State
  after = decide s e f x

  decided_here : after.decided e f ≡ Some x
  decided_here = cond-true _ _ _ (same_pair e f)

  decided_else : (p : ℕ × ℕ) → is_pair e f p ≡ false → after.decided p.0 p.1 ≡ s.decided p.0 p.1
  decided_else p other = cond-false _ _ _ other

  -- one pair less is open
  pub undecided-decide : undecided_in g after + 1 ≡ undecided_in g s
  undecided-decide =
      let moved = total_one e f (λ p. one_if (is_none (after.decided p.0 p.1))) (λ p. one_if (is_none (s.decided p.0 p.1)))
      (λ p other. ap (λ o. one_if (is_none o)) (decided_else p other)) (pairs_of g.ends (edges_of g)) (pair_once g e f rises below apart) in
      omega (arith, moved, ap (λ o. one_if (is_none o)) decided_here, ap (λ o. one_if (is_none o)) was_open)

  -- one more is a one, if it crosses
  pub ones-decide : ones_in g after ≡ ones_in g s + one_if x
  ones-decide =
      let moved = total_one e f (λ p. one_if (is_one (after.decided p.0 p.1))) (λ p. one_if (is_one (s.decided p.0 p.1)))
      (λ p other. ap (λ o. one_if (is_one o)) (decided_else p other)) (pairs_of g.ends (edges_of g)) (pair_once g e f rises below apart) in
      omega (arith, moved, ap (λ o. one_if (is_one o)) decided_here, ap (λ o. one_if (is_one o)) was_open)

  -- and then at most two more places are open
  pub unplaced-decide : unplaced_in g after ≤ unplaced_in g s + 2 * one_if x
  unplaced-decide =
      let two : ℕ → ℕ → ℕ = λ a b. one_if (not (has (s.placed a) b)) + one_if (not (has (s.placed b) a)) in
      let moved = total_one e f (unplaced_at after) (unplaced_at s)
      (λ p other. ap (λ o. cond (is_one o) (two p.0 p.1) 0) (decided_else p other)) (pairs_of g.ends (edges_of g)) (pair_once g e f rises below apart) in
      let there : unplaced_at after (e, f) ≡ cond x (two e f) 0 = ap (λ o. cond (is_one o) (two e f) 0) decided_here in
      let before : unplaced_at s (e, f) ≡ 0 = ap (λ o. cond (is_one o) (two e f) 0) was_open in
      omega (arith, moved, there, before, few x (two e f) (omega (arith, one_if-le (not (has (s.placed e) f)), one_if-le (not (has (s.placed f) e)))))
    where
      few : (b : Bool) (n : ℕ) → n ≤ 2 → cond b n 0 ≤ 2 * one_if b
      few true n small = omega (arith, small)
      few false n small = omega arith

-- ---- an edge is placed

-- what stands in a list with f put in
has-insert : (xs : List ℕ) (i f y : ℕ) → has (insert xs i f) y ≡ (eqb f y || has xs y)
has-insert xs i f y = sym (list_any-IsPermutation (λ z. eqb z y) _ _ (IsPermutation-insert xs i f))

module _ (g : Graph) (s : State) (is_state : IsState g s) (e f i : ℕ) (out : has (s.placed e) f ≡ false) where
  abbrev pub with_place : State
  with_place = place s e f i

  -- f stands along e now
  has_here : has (with_place.placed e) f ≡ true
  has_here =
      let list : with_place.placed e ≡ insert (s.placed e) i f = cond-true _ _ _ (eqb-same e) in
      ap (λ xs. has xs f) list ∙ has-insert (s.placed e) i f f ∙ ap (λ b. b || has (s.placed e) f) (eqb-same f)

  -- nothing else changes
  has_else : (a b : ℕ) → (eqb a e && eqb b f) ≡ false → has (with_place.placed a) b ≡ has (s.placed a) b
  has_else a b other = elim (cases_Bool (eqb a e)) [
    | inr elsewhere ↦ ap (λ xs. has xs b) (cond-false _ _ _ elsewhere)
    | inl here ↦
        let past : eqb b f ≡ false = elim (cases_Bool (eqb b f)) [
          | inl yes_f ↦ absurd (both_ways false refl (let both : (eqb a e && eqb b f) ≡ true = rw (here, yes_f) refl in sym other ∙ both))
          | inr not_f ↦ not_f
        ] in
        let flipped : eqb f b ≡ false = ne_eqb f b (λ same. both_ways (eqb b f) past (eq-eqb b f (sym same))) in
        let at_e : s.placed a ≡ s.placed e = ap s.placed (eqb-true a e here) in
        ap (λ xs. has xs b) (cond-true _ _ _ here) ∙ has-insert (s.placed e) i f b ∙ ap (λ c. c || has (s.placed e) b) flipped ∙ ap (λ xs. has xs b) (sym at_e)
  ]

  abbrev two_after : ℕ → ℕ → ℕ
  two_after a b = one_if (not (has (with_place.placed a) b)) + one_if (not (has (with_place.placed b) a))

  abbrev two_before : ℕ → ℕ → ℕ
  two_before a b = one_if (not (has (s.placed a) b)) + one_if (not (has (s.placed b) a))

  -- so only the pair of e and f has another number of open places
  two_else : (a b : ℕ) → is_pair e f (a, b) ≡ false → is_pair f e (a, b) ≡ false → two_after a b ≡ two_before a b
  two_else a b other flipped =
      let back : (eqb b e && eqb a f) ≡ false = elim (cases_Bool (eqb b e && eqb a f)) [
        | inl both ↦
            let parts : (eqb b e ≡ true) × (eqb a f ≡ true) = and_parts _ _ both in
            let here : is_pair f e (a, b) ≡ true = rw (parts.0, parts.1) refl in
            absurd (both_ways _ flipped here)
        | inr past ↦ past
      ] in
      omega (arith, ap (λ c. one_if (not c)) (has_else a b other), ap (λ c. one_if (not c)) (has_else b a back))

  -- a pair that is decided 1 isn't decided the other way round
  other_way : (a b c d : ℕ) → s.decided a b ≡ Some true → is_pair b a (c, d) ≡ true → is_one (s.decided c d) ≡ false
  other_way a b c d is here = elim (cases_Bool (is_one (s.decided c d))) [
    | inr zero_ ↦ zero_
    | inl one ↦
        let parts : (eqb c b ≡ true) × (eqb d a ≡ true) = and_parts _ _ here in
        let told : s.decided c d ≡ Some true = from_one (s.decided c d) one in
        let up = is_state.rises a b true is in
        let down = is_state.rises c d true told in
        absurd (omega (arith, up, down, eqb-true c b parts.0, eqb-true d a parts.1))
  ]
    where
      from_one : (o : Option Bool) → is_one o ≡ true → o ≡ Some true
      from_one None one = absurd (both_ways false refl one)
      from_one (Some true) one = refl
      from_one (Some false) one = absurd (both_ways false refl one)

  module _ (x y : ℕ) (is : s.decided x y ≡ Some true) (same : (p : ℕ × ℕ) → is_pair x y p ≡ false → is_pair y x p ≡ false → two_after p.0 p.1 ≡ two_before p.0 p.1)
      (falls : two_after x y + 1 ≡ two_before x y) where
    unplaced_else : (p : ℕ × ℕ) → is_pair x y p ≡ false → unplaced_at with_place p ≡ unplaced_at s p
    unplaced_else p other = elim (cases_Bool (is_pair y x p)) [
      | inl here ↦ rw (other_way x y p.0 p.1 is here) refl
      | inr past ↦ ap (λ n. cond (is_one (s.decided p.0 p.1)) n 0) (same p other past)
    ]

    unplaced_falls : unplaced_in g with_place + 1 ≡ unplaced_in g s
    unplaced_falls =
        let moved = total_one x y (unplaced_at with_place) (unplaced_at s) unplaced_else (pairs_of g.ends (edges_of g))
        (pair_once g x y (is_state.rises x y true is) (is_state.below x y true is) (is_state.independent x y true is)) in
        let after_ : unplaced_at with_place (x, y) ≡ two_after x y = ap (λ o. cond (is_one o) (two_after x y) 0) is in
        let before_ : unplaced_at s (x, y) ≡ two_before x y = ap (λ o. cond (is_one o) (two_before x y) 0) is in
        omega (arith, moved, after_, before_, falls)

  -- one place less is open
  pub unplaced-place : Crosses s e f → unplaced_in g with_place + 1 ≡ unplaced_in g s
  unplaced-place crosses =
      let here : one_if (not (has (with_place.placed e) f)) ≡ 0 = ap (λ c. one_if (not c)) has_here in
      let was : one_if (not (has (s.placed e) f)) ≡ 1 = ap (λ c. one_if (not c)) out in
      let other : e ≢ f → one_if (not (has (with_place.placed f) e)) ≡ one_if (not (has (s.placed f) e)) = λ differ.
      ap (λ c. one_if (not c)) (has_else f e (let past : eqb f e ≡ false = ne_eqb f e (λ back. differ (sym back)) in rw past refl)) in
      elim crosses [
        | inl is ↦
            let up = is_state.rises e f true is in
            unplaced_falls e f is (λ p one two. two_else p.0 p.1 one two) (omega (arith, here, was, other (λ e_f. omega (arith, up, e_f))))
        | inr is ↦
            let up = is_state.rises f e true is in
            unplaced_falls f e is (λ p one two. two_else p.0 p.1 two one) (omega (arith, here, was, other (λ e_f. omega (arith, up, e_f))))
      ]
