-- Which of two numbers stands before the other in what a test leaves of a list, and in front of other numbers.
use Rattle.std.proofs.Common.{◌≡◌, ℕ, suc, ◌<◌, ◌⊎◌, inl, inr, Bool, true, false, ◌&&◌, eqb, ltb, List, [], ◌∷◌, ◌++◌, refl, sym, ◌∙◌, ap, arith}
use Rattle.std.specs.Prelude.{filter}
use Rattle.std.proofs.lemmas.Bool.{and_from, and_parts, both_ways, cases_Bool, cases_eq, cond-true, cond-false, eq-eqb, eqb-true, ne_eqb, lt-ltb, ltb-true, or_cases}
use Rattle.xn_model.specs.Lists.{has, position_in, stands_before}

-- what stands in a list keeps its position in a longer one
position-longer : (xs ys : List ℕ) (y : ℕ) → has xs y ≡ true → position_in (xs ++ ys) y ≡ position_in xs y
position-longer [] ys y h = absurd (both_ways false refl h)
position-longer (x ∷ xs) ys y h = elim (cases_eq x y) [
  | inl here ↦ cond-true _ _ _ (eq-eqb x y here) ∙ sym (cond-true _ _ _ (eq-eqb x y here))
  | inr past ↦
      let rest = position-longer xs ys y (elim (or_cases (eqb x y) (has xs y) h) [ inl here ↦ absurd (past (eqb-true x y here)) | inr later ↦ later ]) in
      cond-false _ _ _ (ne_eqb x y past) ∙ ap suc rest ∙ sym (cond-false _ _ _ (ne_eqb x y past))
]

-- the positions of what is kept compare as they did
kept-before : (t : ℕ → Bool) (xs : List ℕ) (f h : ℕ) → t f ≡ true → t h ≡ true → position_in (filter t xs) f < position_in (filter t xs) h → position_in xs f < position_in xs h
kept-before t [] f h f_kept h_kept less = less
kept-before t (x ∷ xs) f h f_kept h_kept less = elim (cases_Bool (t x)) [
  | inl kept ↦ both (λ l. kept-before t xs f h f_kept h_kept l) (cases_eq x f) (cases_eq x h) (rw kept at less)
  | inr gone ↦
      let not_f : eqb x f ≡ false = ne_eqb x f (λ same. both_ways (t f) (ap t (sym same) ∙ gone) f_kept) in
      let not_h : eqb x h ≡ false = ne_eqb x h (λ same. both_ways (t h) (ap t (sym same) ∙ gone) h_kept) in
      let rest = kept-before t xs f h f_kept h_kept (rw gone at less) in
      rw (not_f, not_h) (omega (arith, rest))
]
  where
    both : (position_in (filter t xs) f < position_in (filter t xs) h → position_in xs f < position_in xs h) →
        (x ≡ f) ⊎ (x ≡ f → ⊥) → (x ≡ h) ⊎ (x ≡ h → ⊥) → position_in (x ∷ filter t xs) f < position_in (x ∷ filter t xs) h → position_in (x ∷ xs) f < position_in (x ∷ xs) h
    both again (inl a) (inl b) l =
        let h_is : position_in (x ∷ filter t xs) h ≡ 0 = cond-true _ _ _ (eq-eqb x h b) in
        absurd (omega (arith, l, h_is))
    both again (inl a) (inr b) l =
        let f_is : position_in (x ∷ xs) f ≡ 0 = cond-true _ _ _ (eq-eqb x f a) in
        let h_is : position_in (x ∷ xs) h ≡ suc (position_in xs h) = cond-false _ _ _ (ne_eqb x h b) in
        omega (arith, f_is, h_is)
    both again (inr a) (inl b) l =
        let h_is : position_in (x ∷ filter t xs) h ≡ 0 = cond-true _ _ _ (eq-eqb x h b) in
        absurd (omega (arith, l, h_is))
    both again (inr a) (inr b) l =
        let f_was : position_in (x ∷ filter t xs) f ≡ suc (position_in (filter t xs) f) = cond-false _ _ _ (ne_eqb x f a) in
        let h_was : position_in (x ∷ filter t xs) h ≡ suc (position_in (filter t xs) h) = cond-false _ _ _ (ne_eqb x h b) in
        let f_is : position_in (x ∷ xs) f ≡ suc (position_in xs f) = cond-false _ _ _ (ne_eqb x f a) in
        let h_is : position_in (x ∷ xs) h ≡ suc (position_in xs h) = cond-false _ _ _ (ne_eqb x h b) in
        omega (arith, again (omega (arith, l, f_was, h_was)), f_is, h_is)

-- what stands before another in what is kept of a list, and then others, stood before it in the list
pub stood_before : (t : ℕ → Bool) (xs ys : List ℕ) (f h : ℕ) → t f ≡ true → t h ≡ true → has xs f ≡ true → has xs h ≡ true → has (filter t xs) f ≡ true → has (filter t xs) h ≡ true →
    stands_before (filter t xs ++ ys) f h ≡ true → stands_before xs f h ≡ true
stood_before t xs ys f h f_kept h_kept f_in h_in f_there h_there before =
    let last : ltb (position_in (filter t xs ++ ys) f) (position_in (filter t xs ++ ys) h) ≡ true = (and_parts (has (filter t xs ++ ys) f && has (filter t xs ++ ys) h) _ before).1 in
    let less : position_in (filter t xs) f < position_in (filter t xs) h =
    omega (arith, ltb-true _ _ last, position-longer (filter t xs) ys f f_there, position-longer (filter t xs) ys h h_there) in
    and_from (has xs f && has xs h) _ (and_from (has xs f) (has xs h) f_in h_in) (lt-ltb _ _ (kept-before t xs f h f_kept h_kept less))
