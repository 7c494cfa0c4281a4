-- Where each cycle holds m marks, m times the number of cycles is at most the number of marks.
use Rattle.std.proofs.Common.{◌≡◌, ℕ, zero, suc, ◌+◌, ◌*◌, ◌<◌, ◌≤◌, inl, inr, Bool, true, false, cond, ◌&&◌, ◌||◌, eqb, List, [], ◌∷◌, length, refl, sym, ◌∙◌, ap, subst, arith}
use Rattle.std.specs.List.{AllByRecursion, Contains, IsDistinct, list_any}
use Rattle.std.proofs.lemmas.Bool.{and_parts, cases_Bool, cond-false, cond-true, eq-eqb, eqb-true, ne_eqb, or_left, or_right}
use Rattle.std.proofs.lemmas.Map.Keys.{IsDistinct-head, IsDistinct-tail}
use Rattle.std.proofs.lemmas.Map.Views.{Contains-from_any}
use Rattle.xn_model.specs.Lists.{one_if}
use Rattle.xn_model.specs.Permutation.{Permutes, Reaches, count_below, is_least, walk}
use Rattle.xn_ring.proofs.Counting.{count-differs, count-same}
use Rattle.xn_ring.proofs.Marked.{held-from_test}
use Rattle.xn_ring.proofs.Orbits.{IsLeast-from_test, least_unique, reaches_back, reaches_below, reaches_trans}
use Rattle.xn_ring.specs.Parts.{HoldsMarks, cycle_count_with}

-- q, but not what is listed
abbrev but_all : List ℕ → (ℕ → Bool) → ℕ → Bool
but_all ts q x = cond (list_any (eqb x) ts) false (q x)

-- what differs from each number of a list is not listed
none_same : (t : ℕ) (us : List ℕ) → AllByRecursion (λ y. eqb t y ≡ false) us → list_any (eqb t) us ≡ false
none_same t [] h = refl
none_same t (u ∷ us) h = ap (λ x. x || list_any (eqb t) us) h.0 ∙ none_same t us h.1

not_after_head : (t : ℕ) (ts : List ℕ) → IsDistinct eqb (t ∷ ts) → list_any (eqb t) ts ≡ false
not_after_head t ts distinct = none_same t ts (IsDistinct-head eqb t ts distinct)

pub count_marks : (b : ℕ) (q : ℕ → Bool) (ts : List ℕ) → IsDistinct eqb ts → ((t : ℕ) → list_any (eqb t) ts ≡ true → (t < b) × (q t ≡ true)) → count_below b q ≡ length ts + count_below b (but_all ts q)
count_marks b q [] distinct marks =
    let same : count_below b q ≡ count_below b (but_all [] q) = count-same b q (but_all [] q) (λ d below. refl) in
    omega (arith, same)
count_marks b q (t ∷ ts) distinct marks =
    let here : list_any (eqb t) (t ∷ ts) ≡ true = or_left _ _ (eq-eqb t t refl) in
    let rest = count_marks b q ts (IsDistinct-tail eqb t ts distinct) (λ u among. marks u (or_right _ _ among)) in
    let away = not_after_head t ts distinct in
    let one : count_below b (but_all ts q) ≡ suc (count_below b (but_all (t ∷ ts) q)) =
    count-differs b (but_all ts q) (but_all (t ∷ ts) q) t (marks t here).0
    (cond-false _ _ _ away ∙ (marks t here).1)
    (cond-true _ _ _ here)
    (λ d below other. ap (λ x. cond (x || list_any (eqb d) ts) false (q d)) (sym (ne_eqb d t other))) in
    omega (arith, rest, one)

pub marked_bound : (n b m : ℕ) (p q : ℕ → Bool) (M : ℕ → ℕ → Type 0)
    → ((d : ℕ) → d < n → p d ≡ true → (ts : List ℕ) × (length ts ≡ m) × IsDistinct eqb ts × ((t : ℕ) → list_any (eqb t) ts ≡ true → (t < b) × (q t ≡ true) × M d t))
    → ((d e t : ℕ) → d < n → e < n → M d t → M e t → d ≡ e)
    → m * count_below n p ≤ count_below b q
marked_bound zero b m p q M into apart = omega arith
marked_bound (suc n) b m p q M into apart = elim (cases_Bool (p n)) [
  | inl passes_n ↦
      let to = into n (omega arith) passes_n in
      let ts = to.0 in
      let some = count_marks b q ts to.2 (λ t among. let x = to.3 t among in (x.0, x.1)) in
      let rest : m * count_below n p ≤ count_below b (but_all ts q) = marked_bound n b m p (but_all ts q) M
      (λ d below passes.
      let there = into d (omega arith) passes in (
        there.0,
        there.1,
        there.2,
        λ t among.
            let x = there.3 t among in (
              x.0,
              elim (cases_Bool (list_any (eqb t) ts)) [
                | inl both ↦ let e : d ≡ n = apart d n t (omega arith) (omega arith) x.2 (to.3 t both).2 in absurd (omega (arith, e))
                | inr free ↦ cond-false _ _ _ free ∙ x.1
              ],
              x.2,
            ),
      ))
      (λ d e s d_in e_in. apart d e s (omega arith) (omega arith)) in
      let last : one_if (p n) ≡ 1 = ap one_if passes_n in
      let whole : m * (count_below n p + 1) ≡ m * count_below n p + m = omega arith in
      let same : m * (count_below n p + one_if (p n)) ≡ m * (count_below n p + 1) = ap (λ x. m * (count_below n p + x)) last in
      omega (arith, some, to.1, rest, whole, same)
  | inr fails_n ↦
      let rest : m * count_below n p ≤ count_below b q = marked_bound n b m p q M (λ d below. into d (omega arith)) (λ d e s d_in e_in. apart d e s (omega arith) (omega arith)) in
      let same : m * (count_below n p + one_if (p n)) ≡ m * (count_below n p + 0) = ap (λ x. m * (count_below n p + x)) (ap one_if fails_n) in
      let whole : m * (count_below n p + 0) ≡ m * count_below n p = omega arith in
      omega (arith, rest, same, whole)
]

-- the marks on a cycle are its own
pub marks_are_many : (n b m : ℕ) (f place : ℕ → ℕ) (p marked : ℕ → Bool) → Permutes n f → ((d : ℕ) → d < n → p d ≡ true → HoldsMarks b m marked place f d) → m * cycle_count_with n f p ≤ count_below b marked
marks_are_many n b m f place p marked permutes holds =
    marked_bound n b m (λ d. is_least n f d && list_any p (walk f n d)) marked (λ d t. (is_least n f d ≡ true) × Reaches f d (place t))
    (λ d d_in passes.
    let both = and_parts (is_least n f d) (list_any p (walk f n d)) passes in
    let held = held-from_test p n f d both.1 in
    let e_in = reaches_below n f permutes d held.0 d_in held.1 in
    let h = holds held.0 e_in held.2 in (
      h.marks,
      h.enough,
      h.different,
      λ t among.
          let at : Contains h.marks t = Contains-from_any eqb-true t h.marks among in
          let P : ℕ → Type 0 = λ x. (x < b) × (marked x ≡ true) × Reaches f held.0 (place x) in
          let is : P t = subst P at.2 (h.there at.0 t at.1) in
          (is.0, is.1, (both.0, reaches_trans f d held.0 (place t) held.1 is.2)),
    ))
    (λ d e t d_in e_in one two.
    least_unique n f permutes d e d_in (reaches_trans f d (place t) e one.1 (reaches_back n f permutes e (place t) e_in two.1))
    (IsLeast-from_test n f permutes d d_in one.0) (IsLeast-from_test n f permutes e e_in two.0))
