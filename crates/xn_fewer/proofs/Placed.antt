-- One more element of a list among those that a test picks from it.
use Rattle.std.proofs.Common.{◌≡◌, ℕ, suc, ◌≤◌, inl, inr, Bool, true, false, ◌||◌, eqb, List, [], ◌∷◌, length, refl, sym, ◌∙◌, ap, ap₂, arith}
use Rattle.std.specs.List.{IsDistinct}
use Rattle.std.specs.Prelude.{filter, insert, nat_eq}
use Rattle.std.proofs.lemmas.Bool.{both_ways, cases_Bool, cases_eq, or_cases, eqb-true, eq-eqb, ne_eqb}
use Rattle.std.proofs.lemmas.List.Sorted.{IsPermutation-insert, list_any-IsPermutation}
use Rattle.xn_model.specs.Lists.{has}
use Rattle.xn_model.proofs.Has.{all_not}

-- tests that agree pick the same
pub filter-congr : (p q : ℕ → Bool) (xs : List ℕ) → ((x : ℕ) → has xs x ≡ true → p x ≡ q x) → filter p xs ≡ filter q xs
filter-congr p q [] same = refl
filter-congr p q (x ∷ xs) same =
    let here : p x ≡ q x = same x (rw (eq-eqb x x refl) refl) in
    let rest : filter p xs ≡ filter q xs = filter-congr p q xs (λ y y_in. same y (later (eqb x y) (has xs y) y_in)) in
    elim (cases_Bool (q x)) [
      | inl keeps ↦ rw (here, keeps) (ap (λ ys. x ∷ ys) rest)
      | inr drops ↦ rw (here, drops) rest
    ]
  where
    later : (a b : Bool) → b ≡ true → (a || b) ≡ true
    later true b h = refl
    later false b h = h

-- f besides: it stands at some position among what was picked
pub picked_more : (t : ℕ → Bool) (f : ℕ) (xs : List ℕ) → IsDistinct nat_eq xs → has xs f ≡ true → t f ≡ false →
    (i : ℕ) × (i ≤ length (filter t xs)) × (filter (λ y. eqb f y || t y) xs ≡ insert (filter t xs) i f)
unfolding IsDistinct
picked_more t f [] distinct f_in out = absurd (both_ways false refl f_in)
picked_more t f (x ∷ xs) distinct f_in out = elim (cases_eq x f) [
  | inl here ↦
      let fails : t x ≡ false = ap t here ∙ out in
      let first : eqb f x ≡ true = eq-eqb f x (sym here) in
      let rest : filter (λ y. eqb f y || t y) xs ≡ filter t xs = filter-congr (λ y. eqb f y || t y) t xs (λ y y_in.
      let other : eqb f y ≡ false = ne_eqb f y (λ same. all_not x xs distinct.0 y y_in (here ∙ same)) in
      rw other refl) in
      (0, omega arith, rw (first, fails) (ap₂ (λ h l. h ∷ l) here rest))
  | inr past ↦
      let not_first : eqb f x ≡ false = ne_eqb f x (λ same. past (sym same)) in
      let f_later : has xs f ≡ true = elim (or_cases (eqb x f) (has xs f) f_in) [ inl same ↦ absurd (past (eqb-true x f same)) | inr more ↦ more ] in
      let rest = picked_more t f xs distinct.1 f_later out in
      elim (cases_Bool (t x)) [
        | inl keeps ↦
            let longer : length (filter t (x ∷ xs)) ≡ suc (length (filter t xs)) = rw keeps refl in
            (suc rest.0, omega (arith, rest.1, longer), rw (not_first, keeps) (ap (λ l. x ∷ l) rest.2))
        | inr drops ↦
            let as_long : length (filter t (x ∷ xs)) ≡ length (filter t xs) = rw drops refl in
            (rest.0, omega (arith, rest.1, as_long), rw (not_first, drops) rest.2)
      ]
]

-- what stands in a list with f put in
has-insert : (xs : List ℕ) (i f y : ℕ) → has (insert xs i f) y ≡ (eqb f y || has xs y)
has-insert xs i f y = sym (list_any-IsPermutation (λ z. eqb z y) _ _ (IsPermutation-insert xs i f))

-- a list that is picked by its elements, with f put in where it stands
pub placed_more : (placed xs : List ℕ) (f : ℕ) → IsDistinct nat_eq xs → has xs f ≡ true → has placed f ≡ false → filter (has placed) xs ≡ placed →
    (i : ℕ) × (i ≤ length placed) × (filter (has (insert placed i f)) xs ≡ insert placed i f)
placed_more placed xs f distinct f_in out picks =
    let more = picked_more (has placed) f xs distinct f_in out in
    let same = filter-congr (has (insert placed more.0 f)) (λ y. eqb f y || has placed y) xs (λ y y_in. has-insert placed more.0 f y) in
    (more.0, omega (arith, more.1, ap length picks), same ∙ more.2 ∙ ap (λ l. insert l more.0 f) picks)
