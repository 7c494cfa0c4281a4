-- A permutation and its inverse, listed, after a swap of successors, with darts added at the end and with darts taken away there.
use Rattle.std.proofs.Common.{◌≡◌, ◌≢◌, ℕ, zero, suc, ◌+◌, ◌<◌, ◌≤◌, ◌⊎◌, inl, inr, List, [], ◌∷◌, ◌++◌, length, take, slice_set, refl, sym, ◌∙◌, ap, arith}
use Rattle.std.specs.List.{range_with_len, swap}
use Rattle.std.proofs.lemmas.Bool.{cases_eq, cases_lt}
use Rattle.std.proofs.lemmas.Grind.{common_steps}
use Rattle.std.proofs.lemmas.List.{length-append, length-take-le, get_or-take, get_or_append_left, get_or-append_right}
use Rattle.std.proofs.lemmas.List.Edits.{length-swap, swap_is}
use Rattle.std.proofs.lemmas.List.FromFn.{length-range_with_len, get_or-range_with_len}
use Rattle.xn_model.specs.Lists.{at}
use Rattle.xn_ring.specs.Rings.{AreInverse}

-- what two writes leave at d
at-two_writes : (xs : List ℕ) (i j u v d : ℕ) → d < length xs →
    ((d ≡ j) × (at (slice_set (slice_set xs i u) j v) d ≡ v))
    ⊎ (((d ≢ j) × (d ≡ i) × (at (slice_set (slice_set xs i u) j v) d ≡ u))
    ⊎ ((d ≢ j) × (d ≢ i) × (at (slice_set (slice_set xs i u) j v) d ≡ at xs d)))
at-two_writes xs i j u v d below = elim (cases_eq d j) [
  | inl last ↦ inl (last, grind (arith, common_steps))
  | inr not_last ↦ elim (cases_eq d i) [
    | inl first ↦ inr (inl (not_last, first, grind (arith, common_steps)))
    | inr neither ↦ inr (inr (not_last, neither, grind (arith, common_steps)))
  ]
]

-- what stands at d once the elements at i and j are swapped
pub at-swap : (xs : List ℕ) (i j d : ℕ) → i < length xs → j < length xs → d < length xs →
    ((d ≡ j) × (at (swap xs i j) d ≡ at xs i))
    ⊎ (((d ≢ j) × (d ≡ i) × (at (swap xs i j) d ≡ at xs j))
    ⊎ ((d ≢ j) × (d ≢ i) × (at (swap xs i j) d ≡ at xs d)))
at-swap xs i j d i_in j_in below =
    let is : at (swap xs i j) d ≡ at (slice_set (slice_set xs i (at xs j)) j (at xs i)) d = ap (λ ys. at ys d) (sym (swap_is xs i j 0 i_in j_in)) in
    elim (at-two_writes xs i j (at xs j) (at xs i) d below) [
      | inl last ↦ inl (last.0, is ∙ last.1)
      | inr (inl first) ↦ inr (inl (first.0, first.1, is ∙ first.2))
      | inr (inr neither) ↦ inr (inr (neither.0, neither.1, is ∙ neither.2))
    ]

-- the successors of a and b, which are x and y, swapped in both lists
pub AreInverse-swap : (next prev : List ℕ) (a b x y : ℕ) → x ≡ at next a → y ≡ at next b → AreInverse next prev → a < length next → b < length next →
    AreInverse (swap next a b) (swap prev x y)
AreInverse-swap next prev a b x y x_is y_is old a_in b_in =
    let x_in : x < length prev = omega (arith, x_is, old.next_below a a_in, old.same_length) in
    let y_in : y < length prev = omega (arith, y_is, old.next_below b b_in, old.same_length) in
    let new_next = swap next a b in
    let new_prev = swap prev x y in
    let length_next : length new_next ≡ length next = length-swap next a b in
    let length_prev : length new_prev ≡ length prev = length-swap prev x y in
    let back_a : at prev x ≡ a = ap (at prev) x_is ∙ old.prev_next a a_in in
    let back_b : at prev y ≡ b = ap (at prev) y_is ∙ old.prev_next b b_in in
    record {
      same_length = length_prev ∙ old.same_length ∙ sym length_next;
      next_below = λ d below. omega (arith, at-swap next a b d a_in b_in (omega arith), old.next_below d (omega arith), x_in, y_in, x_is, y_is, old.same_length);
      prev_below = λ d below. omega (arith, at-swap prev x y d x_in y_in (omega (arith, old.same_length)), old.prev_below d (omega arith), back_a, back_b);
      prev_next = λ d below.
          let d_in : d < length next = omega arith in
          let write = at-swap next a b d a_in b_in d_in in
          let r = at new_next d in
          let r_in : r < length prev = omega (arith, write, old.next_below d d_in, x_in, y_in, x_is, y_is, old.same_length) in
          grind (arith, write, at-swap prev x y r x_in y_in r_in, old.prev_next d d_in);
      next_prev = λ d below.
          let d_in : d < length next = omega arith in
          let write = at-swap prev x y d x_in y_in (omega (arith, old.same_length)) in
          let r = at new_prev d in
          let r_in : r < length next = omega (arith, write, old.prev_below d d_in, back_a, back_b) in
          grind (arith, write, at-swap next a b r a_in b_in r_in, old.next_prev d d_in);
    }

-- one more number at the end
pub range_with_len-more : (a n : ℕ) → range_with_len a (n + 1) ≡ range_with_len a n ++ (a + n) ∷ []
range_with_len-more a n =
    let e : n + 1 ≡ suc n = omega arith in ap (range_with_len a) e ∙ by_suc a n
  where
    by_suc : (a n : ℕ) → range_with_len a (suc n) ≡ range_with_len a n ++ (a + n) ∷ []
    by_suc a zero = let e : a ≡ a + 0 = omega arith in ap (λ x. x ∷ []) e
    by_suc a (suc n) =
        let e : (a + 1) + n ≡ a + suc n = omega arith in
        ap (λ xs. a ∷ xs) (by_suc (a + 1) n ∙ ap (λ x. range_with_len (a + 1) n ++ x ∷ []) e)

-- without the last darts, each alone
pub AreInverse-take : (next prev : List ℕ) (m : ℕ) → AreInverse next prev → m ≤ length next →
    ((d : ℕ) → m ≤ d → d < length next → at next d ≡ d) → AreInverse (take m next) (take m prev)
AreInverse-take next prev m old fewer alone =
    let length_next : length (take m next) ≡ m = length-take-le m next fewer in
    let length_prev : length (take m prev) ≡ m = length-take-le m prev (omega (arith, old.same_length)) in
    let next_in : (d : ℕ) → d < m → at next d < m = λ d below. elim (cases_lt (at next d) m) [
      | inl low ↦ low
      | inr high ↦
          let e = at next d in
          let e_in = old.next_below d (omega arith) in
          let stays : at next e ≡ e = alone e high e_in in
          let same : e ≡ d = sym (old.prev_next e e_in) ∙ ap (at prev) stays ∙ old.prev_next d (omega arith) in
          absurd (omega (arith, same))
    ] in
    let prev_in : (d : ℕ) → d < m → at prev d < m = λ d below. elim (cases_lt (at prev d) m) [
      | inl low ↦ low
      | inr high ↦
          let same : at prev d ≡ d = sym (alone (at prev d) high (old.prev_below d (omega arith))) ∙ old.next_prev d (omega arith) in
          absurd (omega (arith, same))
    ] in
    let at_next : (d : ℕ) → d < m → at (take m next) d ≡ at next d = λ d below. get_or-take m next d 0 below in
    let at_prev : (d : ℕ) → d < m → at (take m prev) d ≡ at prev d = λ d below. get_or-take m prev d 0 below in
    record {
      same_length = length_prev ∙ sym length_next;
      next_below = λ d below. let d_in : d < m = omega arith in omega (arith, at_next d d_in, next_in d d_in);
      prev_below = λ d below. let d_in : d < m = omega arith in omega (arith, at_prev d d_in, prev_in d d_in);
      prev_next = λ d below. let d_in : d < m = omega arith in
          ap (at (take m prev)) (at_next d d_in) ∙ at_prev (at next d) (next_in d d_in) ∙ old.prev_next d (omega arith);
      next_prev = λ d below. let d_in : d < m = omega arith in
          ap (at (take m next)) (at_prev d d_in) ∙ at_next (at prev d) (prev_in d d_in) ∙ old.next_prev d (omega arith);
    }

-- what stands in a list with n numbers appended, each its own place
pub at-append_range : (xs : List ℕ) (n d : ℕ) → d < length xs + n →
    ((d < length xs) × (at (xs ++ range_with_len (length xs) n) d ≡ at xs d))
    ⊎ ((length xs ≤ d) × (at (xs ++ range_with_len (length xs) n) d ≡ d))
at-append_range xs n d below = elim (cases_lt d (length xs)) [
  | inl old ↦ inl (old, get_or_append_left xs _ 0 d old)
  | inr new ↦ inr (
    new,
    get_or-append_right xs (range_with_len (length xs) n) (length xs) d 0 refl new
        ∙ get_or-range_with_len (length xs) n _ 0 (omega arith) ∙ omega arith,
  )
]

pub length-append_range : (xs : List ℕ) (n : ℕ) → length (xs ++ range_with_len (length xs) n) ≡ length xs + n
length-append_range xs n = length-append xs _ ∙ ap (λ k. length xs + k) (length-range_with_len (length xs) n)

-- with n darts added, each alone
pub AreInverse-append_range : (next prev : List ℕ) (n : ℕ) → AreInverse next prev →
    AreInverse (next ++ range_with_len (length next) n) (prev ++ range_with_len (length prev) n)
AreInverse-append_range next prev n old =
    let new_next = next ++ range_with_len (length next) n in
    let new_prev = prev ++ range_with_len (length prev) n in
    let length_next : length new_next ≡ length next + n = length-append_range next n in
    let length_prev : length new_prev ≡ length prev + n = length-append_range prev n in
    let same = old.same_length in
    record {
      same_length = omega arith;
      next_below = λ d below. grind (arith, at-append_range next n d (omega arith), old.next_below d);
      prev_below = λ d below. grind (arith, at-append_range prev n d (omega arith), old.prev_below d);
      prev_next = λ d below.
          let write = at-append_range next n d (omega arith) in
          let r = at new_next d in
          let r_in : r < length prev + n = grind (arith, write, old.next_below d) in
          grind (arith, write, at-append_range prev n r r_in, old.next_below d, old.prev_next d);
      next_prev = λ d below.
          let write = at-append_range prev n d (omega arith) in
          let r = at new_prev d in
          let r_in : r < length next + n = grind (arith, write, old.prev_below d) in
          grind (arith, write, at-append_range next n r r_in, old.prev_below d, old.next_prev d);
    }
