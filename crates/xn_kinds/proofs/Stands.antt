-- Which of two numbers stands before the other in what a test leaves of a list.
use Rattle.std.proofs.Common.{◌≡◌, ℕ, suc, inl, inr, Bool, true, false, ◌||◌, cond, eqb, ltb, List, [], ◌∷◌, refl, sym, ◌∙◌, ap, arith}
use Rattle.std.specs.Prelude.{filter}
use Rattle.std.proofs.lemmas.Bool.{both_ways, cases_Bool, cases_lt, ne_eqb, lt-ltb, le-ltb}
use Rattle.xn_model.specs.Lists.{has, position_in, stands_before}

-- successors compare as the numbers do
ltb-suc : (a b : ℕ) → ltb (suc a) (suc b) ≡ ltb a b
ltb-suc a b = elim (cases_lt a b) [
  | inl low ↦ lt-ltb (suc a) (suc b) (omega arith) ∙ sym (lt-ltb a b low)
  | inr high ↦ le-ltb (suc a) (suc b) (omega arith) ∙ sym (le-ltb a b high)
]

-- a number that fails is none that passes
unlike : (t : ℕ → Bool) (x f : ℕ) → t x ≡ false → t f ≡ true → eqb x f ≡ false
unlike t x f fails passes = ne_eqb x f (λ same. both_ways (t f) (ap t (sym same) ∙ fails) passes)

-- a number that passes stands in what is left exactly where it stood in the list
has-filter : (t : ℕ → Bool) (xs : List ℕ) (f : ℕ) → t f ≡ true → has (filter t xs) f ≡ has xs f
has-filter t [] f passes = refl
has-filter t (x ∷ xs) f passes = elim (cases_Bool (t x)) [
  | inl kept ↦ rw kept (ap (λ b. eqb x f || b) (has-filter t xs f passes))
  | inr gone ↦ rw (gone, unlike t x f gone passes) (has-filter t xs f passes)
]

-- two positions compare as they did, one element further
lt-cons : (b c : Bool) (m n i j : ℕ) → ltb m n ≡ ltb i j → ltb (cond b 0 (suc m)) (cond c 0 (suc n)) ≡ ltb (cond b 0 (suc i)) (cond c 0 (suc j))
lt-cons true true m n i j same = refl
lt-cons true false m n i j same = lt-ltb 0 (suc n) (omega arith) ∙ sym (lt-ltb 0 (suc j) (omega arith))
lt-cons false true m n i j same = le-ltb (suc m) 0 (omega arith) ∙ sym (le-ltb (suc i) 0 (omega arith))
lt-cons false false m n i j same = ltb-suc m n ∙ same ∙ sym (ltb-suc i j)

-- two numbers that pass stand in what is left as they stood in the list
lt-filter : (t : ℕ → Bool) (xs : List ℕ) (f g : ℕ) → t f ≡ true → t g ≡ true →
    ltb (position_in (filter t xs) f) (position_in (filter t xs) g) ≡ ltb (position_in xs f) (position_in xs g)
lt-filter t [] f g f_passes g_passes = refl
lt-filter t (x ∷ xs) f g f_passes g_passes = elim (cases_Bool (t x)) [
  | inl kept ↦ rw kept (lt-cons (eqb x f) (eqb x g) _ _ _ _ (lt-filter t xs f g f_passes g_passes))
  | inr gone ↦ rw (gone, unlike t x f gone f_passes, unlike t x g gone g_passes) (lt-filter t xs f g f_passes g_passes ∙ sym (ltb-suc _ _))
]

-- so one of them stands before the other in what is left exactly where it did in the list
pub stands_before-filter : (t : ℕ → Bool) (xs : List ℕ) (f g : ℕ) → t f ≡ true → t g ≡ true → stands_before (filter t xs) f g ≡ stands_before xs f g
stands_before-filter t xs f g f_passes g_passes =
    rw (has-filter t xs f f_passes, has-filter t xs g g_passes, lt-filter t xs f g f_passes g_passes) refl
