-- The segments of a web under other names, and of two lists.
use Rattle.std.proofs.Common.{◌≡◌, ◌≢◌, ℕ, zero, suc, ◌+◌, ◌*◌, ◌<◌, ◌⊎◌, inl, inr, true, cond, eqb, List, [], ◌∷◌, ◌++◌, length, map, refl, sym, ◌∙◌, ap, ap₂, arith}
use Rattle.std.proofs.lemmas.Bool.{cases_eq, cond-true, cond-false, eq-eqb, ne_eqb}
use Rattle.std.proofs.lemmas.List.{get_or_append_left, get_or_at}
use Rattle.xn_model.specs.Graph.{ends_at}
use Rattle.xn_model.specs.Map.{is_lone, tail_of}
use Rattle.xn_model.proofs.Darts.{cases_dart, tail-even, tail-odd}
use Rattle.xn_genus.proofs.Lone.{no_dart_if_lone}
use Rattle.xn_fewer.specs.Flat.{both, called, merged}

-- ---- other names

pub length-both : (m : ℕ → ℕ) (ends : List (ℕ × ℕ)) → length (map (both m) ends) ≡ length ends
length-both m [] = refl
length-both m (p ∷ ends) = ap suc (length-both m ends)

pub at_both : (m : ℕ → ℕ) (ends : List (ℕ × ℕ)) (i : ℕ) → i < length ends → ends_at (map (both m) ends) i ≡ both m (ends_at ends i)
at_both m [] i i_in = absurd (omega arith)
at_both m (p ∷ ends) zero i_in = refl
at_both m (p ∷ ends) (suc i) i_in = at_both m ends i (omega (arith, i_in))

pub both-append : (m : ℕ → ℕ) (xs ys : List (ℕ × ℕ)) → map (both m) (xs ++ ys) ≡ map (both m) xs ++ map (both m) ys
both-append m [] ys = refl
both-append m (x ∷ xs) ys = ap (λ zs. both m x ∷ zs) (both-append m xs ys)

-- names that agree on the ends
pub both-same : (m k : ℕ → ℕ) (ends : List (ℕ × ℕ)) → ((s : ℕ) → s < length ends → (m (ends_at ends s).0 ≡ k (ends_at ends s).0) × (m (ends_at ends s).1 ≡ k (ends_at ends s).1)) →
    map (both m) ends ≡ map (both k) ends
both-same m k [] same = refl
both-same m k (p ∷ ends) same =
    let here = same 0 (omega arith) in
    ap₂ (λ q qs. q ∷ qs) (ap₂ (λ a b. (a, b)) here.0 here.1) (both-same m k ends (λ s s_in. same (suc s) (omega (arith, s_in))))

pub both-none : (ends : List (ℕ × ℕ)) → map (both (λ v. v)) ends ≡ ends
both-none [] = refl
both-none (p ∷ ends) = ap (λ qs. p ∷ qs) (both-none ends)

-- one name after another
pub map-map : (m k : ℕ → ℕ) (ends : List (ℕ × ℕ)) → map (both k) (map (both m) ends) ≡ map (both (λ v. k (m v))) ends
map-map m k [] = refl
map-map m k (e ∷ ends) = ap (λ es. both (λ v. k (m v)) e ∷ es) (map-map m k ends)

pub tail_both : (m : ℕ → ℕ) (ends : List (ℕ × ℕ)) (d : ℕ) → d < 2 * length ends → tail_of (map (both m) ends) d ≡ m (tail_of ends d)
tail_both m ends d d_in =
    let c = cases_dart d in
    let same = at_both m ends c.0 (omega (arith, c.1, d_in)) in
    elim c.1 [
      | inl even ↦
          ap (tail_of (map (both m) ends)) even ∙ tail-even (map (both m) ends) c.0 ∙ ap (λ p. p.0) same ∙ ap m (sym (tail-even ends c.0) ∙ ap (tail_of ends) (sym even))
      | inr odd ↦
          ap (tail_of (map (both m) ends)) odd ∙ tail-odd (map (both m) ends) c.0 ∙ ap (λ p. p.1) same ∙ ap m (sym (tail-odd ends c.0) ∙ ap (tail_of ends) (sym odd))
    ]

-- ---- one node called another

pub called-at : (x y v : ℕ) → v ≡ y → called x y v ≡ x
called-at x y v same = cond-true _ _ _ (eq-eqb v y same)

pub called-other : (x y v : ℕ) → v ≢ y → called x y v ≡ v
called-other x y v other = cond-false _ _ _ (ne_eqb v y other)

pub cases_called : (x y v : ℕ) → ((v ≡ y) × (called x y v ≡ x)) ⊎ ((v ≢ y) × (called x y v ≡ v))
cases_called x y v = elim (cases_eq v y) [
  | inl same ↦ inl (same, called-at x y v same)
  | inr other ↦ inr (other, called-other x y v other)
]

-- ---- two nodes change their names

abbrev pub exchanged : ℕ → ℕ → ℕ → ℕ
exchanged v w x = cond (eqb x w) v (cond (eqb x v) w x)

pub cases_exchanged : (v w x : ℕ) → ((x ≡ w) × (exchanged v w x ≡ v)) ⊎ (((x ≢ w) × (x ≡ v) × (exchanged v w x ≡ w)) ⊎ ((x ≢ w) × (x ≢ v) × (exchanged v w x ≡ x)))
cases_exchanged v w x = elim (cases_eq x w) [
  | inl first ↦ inl (first, cond-true _ _ _ (eq-eqb x w first))
  | inr not_first ↦ elim (cases_eq x v) [
    | inl second ↦ inr (inl (not_first, second, cond-false _ _ _ (ne_eqb x w not_first) ∙ cond-true _ _ _ (eq-eqb x v second)))
    | inr neither ↦ inr (inr (not_first, neither, cond-false _ _ _ (ne_eqb x w not_first) ∙ cond-false _ _ _ (ne_eqb x v neither)))
  ]
]

pub exchanged_apart : (v w x z : ℕ) → exchanged v w x ≡ exchanged v w z → x ≡ z
exchanged_apart v w x z same = omega (arith, same, cases_exchanged v w x, cases_exchanged v w z)

pub as_called : (v w x : ℕ) → x ≢ v → called v w x ≡ exchanged v w x
as_called v w x other = omega (arith, other, cases_called v w x, cases_exchanged v w x)

-- ---- ends of segments

-- a lone node is no end
pub lone_ends : (ends : List (ℕ × ℕ)) (w : ℕ) → is_lone ends w ≡ true → (s : ℕ) → s < length ends → ((ends_at ends s).0 ≢ w) × ((ends_at ends s).1 ≢ w)
lone_ends ends w alone s s_in =
    let no = no_dart_if_lone ends w alone in (
      λ same. no (2 * s) (omega arith) (tail-even ends s ∙ same),
      λ same. no (2 * s + 1) (omega arith) (tail-odd ends s ∙ same),
    )

-- where y is lone nothing changes its name
pub merged-lone : (x y : ℕ) (ends : List (ℕ × ℕ)) → is_lone ends y ≡ true → merged x y ends ≡ ends
merged-lone x y ends alone =
    both-same (called x y) (λ v. v) ends (λ s s_in. let no = lone_ends ends y alone s s_in in (called-other x y _ no.0, called-other x y _ no.1)) ∙ both-none ends

-- ---- segments of two lists

pub at_front : (xs ys : List (ℕ × ℕ)) (i : ℕ) → i < length xs → ends_at (xs ++ ys) i ≡ ends_at xs i
at_front xs ys i i_in = get_or_append_left xs ys (0, 0) i i_in

pub at_last : (xs : List (ℕ × ℕ)) (p : ℕ × ℕ) → ends_at (xs ++ p ∷ []) (length xs) ≡ p
at_last xs p = get_or_at xs p [] (0, 0) (length xs) refl

pub at_back : (xs ys : List (ℕ × ℕ)) (i : ℕ) → ends_at (xs ++ ys) (length xs + i) ≡ ends_at ys i
at_back [] ys i = ap (ends_at ys) (omega arith)
at_back (x ∷ xs) ys i =
    let on : length (x ∷ xs) + i ≡ suc (length xs + i) = omega arith in
    ap (ends_at (x ∷ xs ++ ys)) on ∙ at_back xs ys i
