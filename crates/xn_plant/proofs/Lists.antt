-- Words on lists: what is distinct, and what is taken from each two.
use Rattle.std.proofs.Common.{◌≡◌, ℕ, zero, suc, ◌<◌, inl, inr, Bool, true, false, ◌&&◌, eqb, List, [], ◌∷◌, ◌++◌, length, get_or, map, refl, sym, ◌∙◌, ap, subst, arith}
use Rattle.std.specs.Prelude.{All, filter, nat_eq}
use Rattle.std.specs.List.{IsDistinct}
use Rattle.std.proofs.lemmas.Bool.{cases_Bool, eq-eqb, ne_eqb, or_left, or_right}
use Rattle.std.proofs.lemmas.List.Elements.{All-append, All-head, All-map, All-nil, All-tail}
use Rattle.xn_model.specs.Graph.{each_two}
use Rattle.xn_model.specs.Lists.{has, one_if, total}
use Rattle.xn_fewer.proofs.Has.{has-append, has-first, has-later, has-picked}
use Rattle.xn_fewer.proofs.Rising.{Rising, all_made, all_of}

-- an entry stands in its list
pub has-get_or : (xs : List ℕ) (k d : ℕ) → k < length xs → has xs (get_or xs k d) ≡ true
has-get_or [] k d low = absurd (omega (arith, low))
has-get_or (x ∷ xs) zero d low = or_left (eqb x x) (has xs x) (eq-eqb x x refl)
has-get_or (x ∷ xs) (suc k) d low = or_right (eqb x (get_or xs k d)) (has xs (get_or xs k d)) (has-get_or xs k d (omega (arith, low)))

-- ---- different elements

pub distinct-append : (xs ys : List ℕ) → IsDistinct nat_eq xs → IsDistinct nat_eq ys → ((x : ℕ) → has xs x ≡ true → has ys x ≡ true → ⊥) → IsDistinct nat_eq (xs ++ ys)
unfolding IsDistinct
distinct-append [] ys one two apart = two
distinct-append (x ∷ xs) ys one two apart = (
  all_made (λ y. nat_eq x y ≡ false) (xs ++ ys) (λ y y_in. elim (has-append xs ys y y_in) [
    | inl a ↦ all_of (λ z. nat_eq x z ≡ false) xs one.0 y a
    | inr b ↦ ne_eqb x y (λ same. apart x (has-first x xs) (subst (λ z. has ys z ≡ true) (sym same) b))
  ]),
  distinct-append xs ys one.1 two (λ z a b. apart z (has-later x xs z a) b),
)

pub distinct-filter : (p : ℕ → Bool) (xs : List ℕ) → IsDistinct nat_eq xs → IsDistinct nat_eq (filter p xs)
unfolding IsDistinct
distinct-filter p [] one = tt
distinct-filter p (x ∷ xs) one = elim (cases_Bool (p x)) [
  | inl kept ↦ rw kept (all_made (λ y. nat_eq x y ≡ false) (filter p xs) (λ y y_in. all_of (λ z. nat_eq x z ≡ false) xs one.0 y (has-picked p xs y y_in).0), distinct-filter p xs one.1)
  | inr gone ↦ rw gone (distinct-filter p xs one.1)
]

-- ---- each two

pub two_all : (P : ℕ × ℕ → Type 0) (xs : List ℕ) → Rising xs → ((e f : ℕ) → has xs e ≡ true → has xs f ≡ true → e < f → P (e, f)) → All P (each_two xs)
two_all P [] rise each = All-nil P
two_all P (x ∷ xs) rise each =
    All-append P (map (λ y. (x, y)) xs) (each_two xs)
    (All-map P (λ (y : ℕ). (x, y)) xs (λ k d small.
    let there = has-get_or xs k d small in
    each x (get_or xs k d) (has-first x xs) (has-later x xs (get_or xs k d) there) (all_of (λ y. x < y) xs rise.0 (get_or xs k d) there)))
    (two_all P xs rise.1 (λ e f e_in f_in less. each e f (has-later x xs e e_in) (has-later x xs f f_in) less))

-- to take out by one test and to count by another is to take out by both
pub count_both : (t u v : ℕ × ℕ → Bool) (ps : List (ℕ × ℕ)) → All (λ p. t p ≡ (u p && v p)) ps → length (filter t ps) ≡ total (λ p. one_if (v p)) (filter u ps)
count_both t u v [] both = refl
count_both t u v (p ∷ ps) both =
    let here : t p ≡ (u p && v p) = All-head (λ q. t q ≡ (u q && v q)) p ps both in
    let rest = count_both t u v ps (All-tail (λ q. t q ≡ (u q && v q)) p ps both) in
    one (u p) (v p) (t p) refl refl refl here rest
  where
    one : (a b c : Bool) → u p ≡ a → v p ≡ b → t p ≡ c → t p ≡ (u p && v p) → length (filter t ps) ≡ total (λ q. one_if (v q)) (filter u ps) →
        length (filter t (p ∷ ps)) ≡ total (λ q. one_if (v q)) (filter u (p ∷ ps))
    one true true true u_is v_is t_is here rest = rw (t_is, u_is) (omega (arith, rest, ap one_if v_is))
    one true false false u_is v_is t_is here rest = rw (t_is, u_is) (omega (arith, rest, ap one_if v_is))
    one false b false u_is v_is t_is here rest = rw (t_is, u_is) rest
    one true true false u_is v_is t_is here rest = absurd (let both_sides : false ≡ true = sym t_is ∙ here ∙ rw (u_is, v_is) refl in cc)
    one true false true u_is v_is t_is here rest = absurd (let both_sides : true ≡ false = sym t_is ∙ here ∙ rw (u_is, v_is) refl in cc)
    one false b true u_is v_is t_is here rest = absurd (let both_sides : true ≡ false = sym t_is ∙ here ∙ rw u_is refl in cc)
