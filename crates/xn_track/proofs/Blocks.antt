-- Lists of edges laid end to end.
use Rattle.std.proofs.Common.{◌≡◌, ◌≢◌, ℕ, suc, ◌+◌, ◌-◌, ◌<◌, inl, inr, true, false, cond, eqb, List, [], ◌∷◌, ◌++◌, length, refl, sym, ◌∙◌, ap, arith, length-append}
use Rattle.std.specs.List.{IsDistinct, flat_map}
use Rattle.std.specs.Prelude.{nat_eq, slice_index_or}
use Rattle.std.proofs.lemmas.Bool.{both_ways, cases_eq, cases_lt, cond-true, cond-false, eq-eqb, ne_eqb, or_cases, eqb-true}
use Rattle.std.proofs.lemmas.List.{get_or_append_left}
use Rattle.xn_model.specs.Lists.{has}
use Rattle.xn_model.specs.Web.{first_segment}
use Rattle.xn_model.proofs.Has.{all_not, has-first, has-later}

-- where the list of e begins
abbrev pub place : (ℕ → ℕ) → List ℕ → ℕ → ℕ
place size [] e = 0
place size (x ∷ xs) e = cond (eqb x e) 0 (size x + place size xs e)

pub place_here : (size : ℕ → ℕ) (x : ℕ) (xs : List ℕ) (e : ℕ) → x ≡ e → place size (x ∷ xs) e ≡ 0
place_here size x xs e same = cond-true _ _ _ (eq-eqb x e same)

pub place_past : (size : ℕ → ℕ) (x : ℕ) (xs : List ℕ) (e : ℕ) → x ≢ e → place size (x ∷ xs) e ≡ size x + place size xs e
place_past size x xs e other = cond-false _ _ _ (ne_eqb x e other)

-- an edge that isn't the first stands later
pub later_in : (x : ℕ) (xs : List ℕ) (e : ℕ) → has (x ∷ xs) e ≡ true → x ≢ e → has xs e ≡ true
later_in x xs e e_in other = elim (or_cases (eqb x e) (has xs e) e_in) [ inl here ↦ absurd (other (eqb-true x e here)) | inr later ↦ later ]

pub at_after : {A : Type 0} (xs ys : List A) (i : ℕ) (d : A) → slice_index_or (xs ++ ys) (length xs + i) d ≡ slice_index_or ys i d
at_after [] ys i d = let e : 0 + i ≡ i = omega arith in ap (λ k. slice_index_or ys k d) e
at_after (x ∷ xs) ys i d =
    let on : length (x ∷ xs) + i ≡ suc (length xs + i) = omega arith in
    ap (λ k. slice_index_or (x ∷ xs ++ ys) k d) on ∙ at_after xs ys i d

abbrev pub size_of : {A : Type 0} → (ℕ → List A) → ℕ → ℕ
size_of f x = length (f x)

pub at_place : {A : Type 0} (f : ℕ → List A) (edges : List ℕ) (e i : ℕ) (d : A) → has edges e ≡ true → i < length (f e) →
    slice_index_or (flat_map f edges) (place (size_of f) edges e + i) d ≡ slice_index_or (f e) i d
at_place f [] e i d e_in i_in = absurd (both_ways false refl e_in)
at_place f (x ∷ xs) e i d e_in i_in = elim (cases_eq x e) [
  | inl here ↦
      let at_it : place (size_of f) (x ∷ xs) e + i ≡ i = let p = place_here (size_of f) x xs e here in omega (arith, p) in
      let same : f x ≡ f e = ap f here in
      ap (λ k. slice_index_or (f x ++ flat_map f xs) k d) at_it ∙ get_or_append_left (f x) (flat_map f xs) d i (omega (arith, i_in, ap length same)) ∙ ap (λ l. slice_index_or l i d) same
  | inr past ↦
      let at_it : place (size_of f) (x ∷ xs) e + i ≡ length (f x) + (place (size_of f) xs e + i) = let p = place_past (size_of f) x xs e past in omega (arith, p) in
      ap (λ k. slice_index_or (f x ++ flat_map f xs) k d) at_it ∙ at_after (f x) (flat_map f xs) (place (size_of f) xs e + i) d ∙ at_place f xs e i d (later_in x xs e e_in past) i_in
]

pub place_in : {A : Type 0} (f : ℕ → List A) (edges : List ℕ) (e i : ℕ) → has edges e ≡ true → i < length (f e) → place (size_of f) edges e + i < length (flat_map f edges)
place_in f [] e i e_in i_in = absurd (both_ways false refl e_in)
place_in f (x ∷ xs) e i e_in i_in =
    let size = length-append (f x) (flat_map f xs) in
    elim (cases_eq x e) [
      | inl here ↦
          let p = place_here (size_of f) x xs e here in
          let same : length (f x) ≡ length (f e) = ap (λ y. length (f y)) here in
          omega (arith, p, i_in, size, same)
      | inr past ↦
          let p = place_past (size_of f) x xs e past in
          let rest = place_in f xs e i (later_in x xs e e_in past) i_in in
          omega (arith, p, rest, size)
    ]

pub found_at : {A : Type 0} (f : ℕ → List A) (edges : List ℕ) → IsDistinct nat_eq edges → (s : ℕ) → s < length (flat_map f edges) →
    (e : ℕ) × (has edges e ≡ true) × (i : ℕ) × (i < length (f e)) × (s ≡ place (size_of f) edges e + i)
unfolding IsDistinct
found_at f [] distinct s s_in = absurd (omega arith)
found_at f (x ∷ xs) distinct s s_in = elim (cases_lt s (length (f x))) [
  | inl low ↦ let p = place_here (size_of f) x xs x refl in (x, has-first x xs, s, low, omega (arith, p))
  | inr high ↦
      let size = length-append (f x) (flat_map f xs) in
      let rest = found_at f xs distinct.1 (s - length (f x)) (omega (arith, high, s_in, size)) in
      let p = place_past (size_of f) x xs rest.0 (all_not x xs distinct.0 rest.0 rest.1) in
      (rest.0, has-later x xs rest.0 rest.1, rest.2, rest.3, omega (arith, p, rest.4, high))
]

pub blocks_apart : {A : Type 0} (f : ℕ → List A) (edges : List ℕ) (e g i j : ℕ) → has edges e ≡ true → has edges g ≡ true → i < length (f e) → j < length (f g) →
    place (size_of f) edges e + i ≡ place (size_of f) edges g + j → e ≡ g
blocks_apart f [] e g i j e_in g_in i_in j_in same = absurd (both_ways false refl e_in)
blocks_apart f (x ∷ xs) e g i j e_in g_in i_in j_in same = elim (cases_eq x e) [
  | inl e_here ↦ elim (cases_eq x g) [
    | inl g_here ↦ sym e_here ∙ g_here
    | inr g_past ↦
        let p = place_here (size_of f) x xs e e_here in
        let q = place_past (size_of f) x xs g g_past in
        let l : length (f x) ≡ length (f e) = ap (λ y. length (f y)) e_here in
        absurd (omega (arith, p, q, l, i_in, same))
  ]
  | inr e_past ↦ elim (cases_eq x g) [
    | inl g_here ↦
        let p = place_here (size_of f) x xs g g_here in
        let q = place_past (size_of f) x xs e e_past in
        let l : length (f x) ≡ length (f g) = ap (λ y. length (f y)) g_here in
        absurd (omega (arith, p, q, l, j_in, same))
    | inr g_past ↦
        let p = place_past (size_of f) x xs e e_past in
        let q = place_past (size_of f) x xs g g_past in
        blocks_apart f xs e g i j (later_in x xs e e_in e_past) (later_in x xs g g_in g_past) i_in j_in (omega (arith, p, q, same))
  ]
]

-- lists of the same lengths begin at the same places
pub place-same : (size more : ℕ → ℕ) (edges : List ℕ) (e : ℕ) → ((x : ℕ) → has edges x ≡ true → size x ≡ more x) → place size edges e ≡ place more edges e
place-same size more [] e same = refl
place-same size more (x ∷ xs) e same = elim (cases_eq x e) [
  | inl here ↦ place_here size x xs e here ∙ sym (place_here more x xs e here)
  | inr past ↦
      let rest = place-same size more xs e (λ y y_in. same y (has-later x xs y y_in)) in
      let p = place_past size x xs e past in
      let q = place_past more x xs e past in
      omega (arith, p, q, rest, same x (has-first x xs))
]

pub place-first_segment : (ord : ℕ → List ℕ) (edges : List ℕ) (e : ℕ) → place (λ x. suc (length (ord x))) edges e ≡ first_segment edges ord e
place-first_segment ord [] e = refl
place-first_segment ord (x ∷ xs) e = ap (λ k. cond (eqb x e) 0 (suc (length (ord x)) + k)) (place-first_segment ord xs e)
