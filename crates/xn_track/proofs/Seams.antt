-- Two passes of one node by walks that walk no segment twice: the node has four darts, and no other pass.
use Rattle.std.proofs.Common.{◌≡◌, ◌≢◌, ℕ, zero, suc, ◌/◌, ◌<◌, ◌⊎◌, inl, inr, Bool, true, List, length, refl, sym, ◌∙◌, ap, subst, arith}
use Rattle.std.proofs.lemmas.Bool.{cases_Bool, cond-true, cond-false}
use Rattle.xn_model.specs.Graph.{Graph}
use Rattle.xn_model.specs.Lists.{at}
use Rattle.xn_model.specs.Map.{reverse_of, tail_of}
use Rattle.xn_model.specs.Permutation.{iterate}
use Rattle.xn_model.proofs.Darts.{reverse_apart}
use Rattle.xn_genus.proofs.Compress.{half_reverse}
pub use Rattle.xn_model.proofs.Darts.{reverse_other}
use Rattle.xn_track.specs.Relinking.{IsRelinked, PassesTo, MayBeRelinked}
use Rattle.xn_track.specs.Track.{IsGround}
use Rattle.xn_track.proofs.Relink.{at_node}

-- the walks ds, of which the positions p and q pass one node
pub record TwoPasses (nodes : ℕ) (web : Graph) (next : ℕ → ℕ) (four : ℕ → Bool) (ds : List ℕ) (p q : ℕ) : Type 0 where
  pub apart : (i j : ℕ) → i < length ds → j < length ds → at ds i / 2 ≡ at ds j / 2 → i ≡ j
  pub p_in : suc p < length ds
  pub q_in : suc q < length ds
  pub differ : p ≢ q
  pub first : PassesTo nodes web next four (reverse_of (at ds p)) (at ds (suc p))
  pub second : PassesTo nodes web next four (reverse_of (at ds q)) (at ds (suc q))
  pub one_node : tail_of web.ends (at ds (suc p)) ≡ tail_of web.ends (at ds (suc q))

module _ (nodes : ℕ) (web : Graph) (next : ℕ → ℕ) (four : ℕ → Bool) (ground : IsGround nodes web next four) (ds : List ℕ) (p q : ℕ)
    (two : TwoPasses nodes web next four ds p q) where
  abbrev a : ℕ
  a = reverse_of (at ds p)

  abbrev a' : ℕ
  a' = at ds (suc p)

  abbrev b : ℕ
  b = reverse_of (at ds q)

  abbrev b' : ℕ
  b' = at ds (suc q)

  both_back : (i j : ℕ) → i < length ds → j < length ds → reverse_of (at ds i) ≡ reverse_of (at ds j) → i ≡ j
  both_back i j i_in j_in same = two.apart i j i_in j_in (ap (λ x. x / 2) (reverse_apart _ _ same))

  never_back : (i j : ℕ) → i < length ds → j < length ds → reverse_of (at ds i) ≡ at ds j → ⊥
  never_back i j i_in j_in same =
      let one = two.apart i j i_in j_in (sym (half_reverse (at ds i)) ∙ ap (λ x. x / 2) same) in
      reverse_other (at ds i) (same ∙ ap (at ds) (sym one))

  p_low : p < length ds
  p_low = let low = two.p_in in omega (arith, low)

  q_low : q < length ds
  q_low = let low = two.q_in in omega (arith, low)

  not_ab : a ≢ b
  not_ab same = two.differ (both_back p q p_low q_low same)

  not_a'b : a' ≢ b
  not_a'b same = never_back q (suc p) q_low two.p_in (sym same)

  at_b : tail_of web.ends a ≡ tail_of web.ends b
  at_b = sym two.first.one_node ∙ two.one_node ∙ two.second.one_node

  pub crossed : four (tail_of web.ends a) ≡ true
  crossed = elim (cases_Bool (four (tail_of web.ends a))) [
    | inl holds ↦ holds
    | inr fails ↦
        let on : next a ≡ a' = sym (cond-false _ _ _ fails) ∙ two.first.goes in
        let back : next a' ≡ a = ap next (sym on) ∙ (ground.bend a two.first.x_in two.first.high fails).1 in
        let there = ground.is_flat_map.is_map.one_ring a b two.first.x_in two.second.x_in at_b in
        absurd (elim (orbit on back there.0) [ inl is ↦ not_ab (sym is ∙ there.1) | inr is ↦ not_a'b (sym is ∙ there.1) ])
  ]
    where
      orbit : next a ≡ a' → next a' ≡ a → (k : ℕ) → (iterate next k a ≡ a) ⊎ (iterate next k a ≡ a')
      orbit on back zero = inl refl
      orbit on back (suc k) = elim (orbit on back k) [ inl is ↦ inr (ap next is ∙ on) | inr is ↦ inl (ap next is ∙ back) ]

  a_on : next (next a) ≡ a'
  a_on = sym (cond-true _ _ _ crossed) ∙ two.first.goes

  pub b_on : next (next b) ≡ b'
  b_on = sym (cond-true _ _ _ (ap four (sym at_b) ∙ crossed)) ∙ two.second.goes

  pub may : MayBeRelinked web next four a b
  may = record { a_in = two.first.x_in; b_in = two.second.x_in; one_node = at_b; holds = crossed; differ = not_ab; other = λ same. not_a'b (sym a_on ∙ same) }

  -- another pass is elsewhere
  pub elsewhere : (i : ℕ) → suc i < length ds → i ≢ p → i ≢ q → PassesTo nodes web next four (reverse_of (at ds i)) (at ds (suc i)) → tail_of web.ends (reverse_of (at ds i)) ≢ tail_of web.ends a
  elsewhere i i_in not_p not_q l at_v =
      let i_low : i < length ds = omega (arith, i_in) in
      let x = reverse_of (at ds i) in
      let not_a : x ≢ a = λ same. not_p (both_back i p i_low p_low same) in
      let not_a' : x ≢ a' = λ same. never_back i (suc p) i_low two.p_in same in
      let not_b : x ≢ b = λ same. not_q (both_back i q i_low q_low same) in
      let not_b' : x ≢ b' = λ same. never_back i (suc q) i_low two.q_in same in
      let last = (ground.crossing a two.first.x_in crossed).1 in
      elim (at_node nodes web next four ground a two.first.x_in crossed b two.second.x_in (sym at_b)) [
        | inl is ↦ not_ab (sym is)
        | inr (inr (inl is)) ↦ not_a'b (sym (is ∙ a_on))
        | inr (inl is) ↦
            let opposite : next (next (next a)) ≡ b' = ap (λ z. next (next z)) (sym is) ∙ b_on in
            elim (at_node nodes web next four ground a two.first.x_in crossed x l.x_in at_v) [
              | inl here ↦ not_a here
              | inr (inl here) ↦ not_b (here ∙ sym is)
              | inr (inr (inl here)) ↦ not_a' (here ∙ a_on)
              | inr (inr (inr here)) ↦ not_b' (here ∙ opposite)
            ]
        | inr (inr (inr is)) ↦
            let opposite : next a ≡ b' = ap next (sym last) ∙ ap (λ z. next (next z)) (sym is) ∙ b_on in
            elim (at_node nodes web next four ground a two.first.x_in crossed x l.x_in at_v) [
              | inl here ↦ not_a here
              | inr (inl here) ↦ not_b' (here ∙ opposite)
              | inr (inr (inl here)) ↦ not_a' (here ∙ a_on)
              | inr (inr (inr here)) ↦ not_b (here ∙ sym is)
            ]
      ]

  -- once relinked, the passes have changed their ends, and the others stay
  module _ (more : Graph) (after : ℕ → ℕ) (fewer : ℕ → Bool) (is : IsRelinked nodes web next four a b more after fewer) where
    pub first_to_second : PassesTo nodes more after fewer a b'
    first_to_second = let P : ℕ → Type 0 = λ z. PassesTo nodes more after fewer a z in subst P b_on is.from_a

    pub second_to_first : PassesTo nodes more after fewer b a'
    second_to_first = let P : ℕ → Type 0 = λ z. PassesTo nodes more after fewer b z in subst P a_on is.from_b

    pub stays : (i : ℕ) → suc i < length ds → i ≢ p → i ≢ q → PassesTo nodes web next four (reverse_of (at ds i)) (at ds (suc i)) →
        PassesTo nodes more after fewer (reverse_of (at ds i)) (at ds (suc i))
    stays i i_in not_p not_q l = is.others (reverse_of (at ds i)) (at ds (suc i)) l (elsewhere i i_in not_p not_q l)
