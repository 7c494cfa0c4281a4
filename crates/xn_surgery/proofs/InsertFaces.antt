-- What a new segment between two corners does to the number of faces.
use Rattle.std.proofs.Common.{◌≡◌, ℕ, suc, ◌+◌, ◌*◌, ◌<◌, ◌≤◌, inl, inr, sym, ◌∙◌, ap, subst, arith}
use Rattle.xn_model.specs.Map.{face_step, reverse_of}
use Rattle.xn_model.specs.Permutation.{Permutes, cycle_count, Reaches, IsSplice}
use Rattle.xn_model.proofs.Darts.{reverse-even, reverse-odd, reverse_below}
use Rattle.xn_ring.proofs.Orbits.{iterate_below, reaches_back, reaches_trans}
use Rattle.xn_ring.proofs.Splice.{Permutes-splice, cycle_count-joined, cycle_count-split, joined, kept_to, merged}
use Rattle.xn_genus.proofs.Counts.{Permutes-front, cycle_count-front, IsSplice-face, Permutes-face}

-- the rotation f has the two new darts alone; the first goes after a, then the second after b
module _ (m a b : ℕ) (f mid g : ℕ → ℕ) (permutes : Permutes (2 * suc m) f) (first_alone : f (2 * m) ≡ 2 * m) (second_alone : f (2 * m + 1) ≡ 2 * m + 1)
    (a_in : a < 2 * m) (b_in : b < 2 * m) (one : IsSplice (2 * suc m) a (2 * m) f mid) (two : IsSplice (2 * suc m) b (2 * m + 1) mid g) where
  abbrev n : ℕ
  n = 2 * suc m

  abbrev x : ℕ
  x = 2 * m

  abbrev y : ℕ
  y = 2 * m + 1

  abbrev old : ℕ → ℕ
  old = face_step f

  abbrev between : ℕ → ℕ
  between = face_step mid

  abbrev new : ℕ → ℕ
  new = face_step g

  x_to_y : old x ≡ y
  x_to_y = ap f (reverse-even m) ∙ second_alone

  y_to_x : old y ≡ x
  y_to_x = ap f (reverse-odd m) ∙ first_alone

  size : n ≡ suc (suc x)
  size = omega arith

  old_permutes : Permutes n old
  old_permutes = Permutes-face (suc m) f permutes

  wide : Permutes (suc (suc x)) old
  wide = let P : ℕ → Type 0 = λ k. Permutes k old in subst P size old_permutes

  y_is : y ≡ suc x
  y_is = omega arith

  front : Permutes x old
  front = Permutes-front x old wide (x_to_y ∙ y_is) (ap old (sym y_is) ∙ y_to_x)

  count_old : cycle_count n old ≡ suc (cycle_count x old)
  count_old = ap (λ k. cycle_count k old) size ∙ cycle_count-front x old wide (x_to_y ∙ y_is) (ap old (sym y_is) ∙ y_to_x)

  -- an old walk meets no new dart
  stays_old : (d e : ℕ) → d < x → x ≤ e → Reaches old d e → ⊥
  stays_old d e d_in new_e there =
      let low = iterate_below x old front there.0 d d_in in
      omega (arith, low, there.1)

  ra_in : reverse_of a < x
  ra_in = reverse_below m a a_in

  rb_in : reverse_of b < x
  rb_in = reverse_below m b b_in

  mid_permutes : Permutes n mid
  mid_permutes = Permutes-splice n a x f mid permutes one (omega arith) (omega arith)

  between_permutes : Permutes n between
  between_permutes = Permutes-face (suc m) mid mid_permutes

  splice_one : IsSplice n (reverse_of a) y old between
  splice_one = let P : ℕ → Type 0 = λ k. IsSplice n (reverse_of a) k old between in subst P (reverse-even m) (IsSplice-face (suc m) a x f mid one)

  splice_two : IsSplice n (reverse_of b) x between new
  splice_two = let P : ℕ → Type 0 = λ k. IsSplice n (reverse_of b) k between new in subst P (reverse-odd m) (IsSplice-face (suc m) b y mid g two)

  far : Reaches old (reverse_of a) y → ⊥
  far = stays_old (reverse_of a) y ra_in (omega arith)

  count_between : cycle_count n old ≡ suc (cycle_count n between)
  count_between = cycle_count-joined n (reverse_of a) y old between old_permutes splice_one (omega (arith, ra_in)) (omega arith) far

  -- the corners lie in one face: one face more
  pub cycle_count-same_face : Reaches old (reverse_of a) (reverse_of b) → cycle_count n new ≡ suc (cycle_count x old)
  cycle_count-same_face same =
      let ra : reverse_of a < n = omega (arith, ra_in) in
      let rb : reverse_of b < n = omega (arith, rb_in) in
      let y_in : y < n = omega arith in
      let keep = kept_to n (reverse_of a) y old between old_permutes between_permutes splice_one ra y_in far in
      let b_to_a = keep (reverse_of b) (reverse_of a) rb (reaches_back n old old_permutes (reverse_of a) (reverse_of b) ra same) in
      let a_to_y = joined n (reverse_of a) y old between old_permutes between_permutes splice_one ra y_in far in
      let y_to = keep y x y_in (1, y_to_x) in
      let all = reaches_trans between (reverse_of b) (reverse_of a) x b_to_a (reaches_trans between (reverse_of a) y x a_to_y y_to) in
      let split = cycle_count-split n (reverse_of b) x between new between_permutes splice_two rb (omega arith) (λ e. omega (arith, e, rb_in)) all in
      omega (arith, split, count_between, count_old)

  -- they lie in two: one face less
  pub cycle_count-two_faces : (Reaches old (reverse_of a) (reverse_of b) → ⊥) → cycle_count x old ≡ suc (cycle_count n new)
  cycle_count-two_faces apart =
      let ra : reverse_of a < n = omega (arith, ra_in) in
      let rb : reverse_of b < n = omega (arith, rb_in) in
      let y_in : y < n = omega arith in
      let P : ℕ → Type 0 = λ e. Reaches old (reverse_of b) e in
      let away : Reaches between (reverse_of b) x → ⊥ = λ there.
      elim (merged n (reverse_of a) y old between old_permutes between_permutes splice_one ra y_in far (reverse_of b) rb there.0) [
        | inl within ↦ stays_old (reverse_of b) x rb_in (omega arith) (subst P there.1 within)
        | inr (inl pair) ↦ apart (reaches_back n old old_permutes (reverse_of b) (reverse_of a) rb pair.0)
        | inr (inr pair) ↦ stays_old (reverse_of b) y rb_in (omega arith) pair.0
      ] in
      let join = cycle_count-joined n (reverse_of b) x between new between_permutes splice_two rb (omega arith) away in
      omega (arith, join, count_between, count_old)
