-- A ring is cut before a and before b: what a leads to then is one ring, and the rest is another.
use Rattle.std.proofs.Common.{◌≡◌, ◌≢◌, ℕ, zero, suc, ◌<◌, inl, inr, refl, sym, ◌∙◌, ap, subst, arith}
use Rattle.std.proofs.lemmas.Bool.{cases_eq}
use Rattle.xn_model.specs.Permutation.{IsSplice, Permutes, Reaches, iterate}
use Rattle.xn_ring.proofs.Orbits.{iterate_below, reaches_back, reaches_trans, within_round}
use Rattle.xn_ring.proofs.Splice.{Permutes-splice, apart_after, merged, splice_undone}
use Rattle.xn_ring.specs.Swaps.{CutsRing}

-- c leads to a and e to b
module _ (n a b c e : ℕ) (f g : ℕ → ℕ) (permutes : Permutes n f) (s : IsSplice n c e f g) (a_in : a < n) (b_in : b < n) (c_in : c < n) (e_in : e < n)
    (c_to_a : f c ≡ a) (e_to_b : f e ≡ b) (differ : a ≢ b) (one_ring : Reaches f a b) where
  g_permutes : Permutes n g
  g_permutes = Permutes-splice n c e f g permutes s c_in e_in

  pub c_to_b : g c ≡ b
  c_to_b = s.first ∙ e_to_b

  pub e_to_a : g e ≡ a
  e_to_a = s.second ∙ c_to_a

  c_not_e : c ≢ e
  c_not_e same = differ (sym c_to_a ∙ ap f same ∙ e_to_b)

  c_to_e : Reaches f c e
  c_to_e = reaches_trans f c a e (1, c_to_a) (reaches_trans f a b e one_ring (reaches_back n f permutes e b e_in (1, e_to_b)))

  pub now_apart : Reaches g c e → ⊥
  now_apart = apart_after n c e f g permutes s c_in e_in c_not_e c_to_e

  -- a reaches what the dart before b reaches
  from_e : (d : ℕ) → Reaches g e d → Reaches g a d
  from_e d there = reaches_trans g a e d (reaches_back n g g_permutes e a e_in (1, e_to_a)) there

  to_e : (d : ℕ) → d < n → Reaches g d e → Reaches g a d
  to_e d d_in there = from_e d (reaches_back n g g_permutes d e d_in there)

  -- of the old ring, what a doesn't reach now is one ring
  pub rest_is_one : (d x : ℕ) → d < n → Reaches f d x → (Reaches g a d → ⊥) → (Reaches g a x → ⊥) → Reaches g d x
  rest_is_one d x d_in there d_free x_free =
      let P : ℕ → Type 0 = λ z. Reaches g d z in
      let Q : ℕ → Type 0 = λ z. Reaches g e z in
      elim (merged n c e g f g_permutes permutes (splice_undone n c e f g s) c_in e_in now_apart d d_in there.0) [
        | inl stays ↦ subst P there.1 stays
        | inr (inl pair) ↦ absurd (x_free (from_e x (subst Q there.1 pair.1)))
        | inr (inr pair) ↦ absurd (d_free (to_e d d_in pair.0))
      ]

  -- b is in the rest
  pub b_stays : Reaches g a b → ⊥
  b_stays there =
      let e_to_b_now = reaches_trans g e a b (1, e_to_a) there in
      now_apart (reaches_trans g c b e (1, c_to_b) (reaches_back n g g_permutes e b e_in e_to_b_now))

  -- what a reaches now are the darts from a on, up to the one before b
  pub arc : (k : ℕ) → ((i : ℕ) → i < k → iterate f i a ≡ e → ⊥) → iterate g k a ≡ iterate f k a
  arc zero free = refl
  arc (suc k) free =
      let x = iterate f k a in
      let x_in = iterate_below n f permutes k a a_in in
      let same = arc k (λ i low. free i (omega (arith, low))) in
      let not_c : x ≢ c = λ at_c.
      let now : Reaches g a c = (k, same ∙ at_c) in
      b_stays (reaches_trans g a c b now (1, c_to_b)) in
      ap g same ∙ s.others x x_in not_c (free k (omega arith))

  module _ (j : ℕ) (comes : iterate f j a ≡ b) (first : (i : ℕ) → i < j → iterate f i a ≢ b) where
    -- before b the walks are one
    same_way : (k : ℕ) → k < j → iterate g k a ≡ iterate f k a
    same_way k early = arc k (λ i low at_e. first (suc i) (omega (arith, low, early)) (ap f at_e ∙ e_to_b))

    -- and the new one turns back there
    turns_back : (m : ℕ) × (j ≡ suc m) × (iterate g (suc m) a ≡ a)
    turns_back = elim (cases_eq j 0) [
      | inl none ↦ absurd (differ (sym (ap (λ k. iterate f k a) none) ∙ comes))
      | inr some ↦ last j refl some
    ]
      where
        last : (k : ℕ) → j ≡ k → j ≢ 0 → (m : ℕ) × (j ≡ suc m) × (iterate g (suc m) a ≡ a)
        last zero is some = absurd (some is)
        last (suc m) is some =
            let x = iterate f m a in
            let x_in : x < n = iterate_below n f permutes m a a_in in
            let to_b : f x ≡ b = ap (λ k. iterate f k a) (sym is) ∙ comes in
            let at_e : x ≡ e = permutes.apart x e x_in e_in (to_b ∙ sym e_to_b) in
            let before : m < j = omega (arith, is) in
            (m, is, ap g (same_way m before ∙ at_e) ∙ e_to_a)

    arc_there : (d : ℕ) → Reaches g a d → (i : ℕ) × (i < j) × (iterate f i a ≡ d)
    arc_there d there =
        let turn = turns_back in
        let found = within_round n g g_permutes a turn.0 turn.2 there.0 in
        let early : found.0 < j = omega (arith, found.1, turn.1) in
        (found.0, early, sym (same_way found.0 early) ∙ found.2 ∙ there.1)

  pub cuts_ring : CutsRing n a b f g
  cuts_ring = record {
    apart = b_stays;
    rest = λ d d_in there away. rest_is_one b d b_in (reaches_trans f b a d (reaches_back n f permutes a b a_in one_ring) there) b_stays away;
    arc = λ j comes first d. (arc_there j comes first d, λ found. (found.0, same_way j comes first found.0 found.1 ∙ found.2));
  }
