-- How many numbers below a bound pass a test.
use Rattle.std.proofs.Common.{◌≡◌, ℕ, zero, suc, ◌+◌, Bool, true, false, cond, [], ◌∷◌, ◌++◌, refl, ◌∙◌, ap, arith}
use Rattle.std.specs.List.{count_by, range_with_len}
use Rattle.std.proofs.lemmas.List.Sums.{sum_by-append}
use Rattle.xn_model.specs.Lists.{one_if}
use Rattle.xn_model.specs.Permutation.{count_below}

pub count_below-yes : (d : ℕ) (p : ℕ → Bool) → p d ≡ true → count_below (d + 1) p ≡ count_below d p + 1
count_below-yes d p passes =
    let e : d + 1 ≡ suc d = omega arith in
    let one : one_if (p d) ≡ 1 = ap one_if passes in
    ap (λ n. count_below n p) e ∙ ap (λ x. count_below d p + x) one

pub count_below-no : (d : ℕ) (p : ℕ → Bool) → p d ≡ false → count_below (d + 1) p ≡ count_below d p
count_below-no d p fails =
    let e : d + 1 ≡ suc d = omega arith in
    let none : one_if (p d) ≡ 0 = ap one_if fails in
    ap (λ n. count_below n p) e ∙ ap (λ x. count_below d p + x) none ∙ omega arith

-- one more number at the end
range_with_len-suc : (a n : ℕ) → range_with_len a (suc n) ≡ range_with_len a n ++ (a + n) ∷ []
range_with_len-suc a zero = let e : a ≡ a + 0 = omega arith in ap (λ x. x ∷ []) e
range_with_len-suc a (suc n) =
    let e : (a + 1) + n ≡ a + suc n = omega arith in
    ap (λ xs. a ∷ xs) (range_with_len-suc (a + 1) n ∙ ap (λ x. range_with_len (a + 1) n ++ x ∷ []) e)

-- counted along the list of the numbers
pub count_by-range : (n : ℕ) (p : ℕ → Bool) → count_by p (range_with_len 0 n) ≡ count_below n p
count_by-range zero p = refl
count_by-range (suc n) p =
    let e : 0 + n ≡ n = omega arith in
    let one : cond (p n) 1 0 + 0 ≡ one_if (p n) = elim (p n) as (λ b. cond b 1 0 + 0 ≡ one_if b) [ true ↦ omega arith | false ↦ omega arith ] in
    ap (count_by p) (range_with_len-suc 0 n ∙ ap (λ x. range_with_len 0 n ++ x ∷ []) e)
    ∙ sum_by-append (λ x. cond (p x) 1 0) (range_with_len 0 n) (n ∷ []) ∙ omega (arith, count_by-range n p, one)
