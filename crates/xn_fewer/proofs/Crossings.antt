-- Crossings of orders, their numbers and their nodes.
use Rattle.std.proofs.Common.{◌≡◌, ◌≢◌, ℕ, zero, suc, ◌+◌, ◌<◌, ◌≤◌, ◌⊎◌, inl, inr, Bool, true, false, not, ◌&&◌, eqb, List, [], ◌∷◌, ◌++◌, length, map, refl, sym, ◌∙◌, ap, ap₂, subst, arith}
use Rattle.std.specs.List.{list_any}
use Rattle.std.specs.Prelude.{filter}
use Rattle.std.proofs.lemmas.Bool.{cases_order, cases_Bool, both_ways, and_from, and_parts, false_from_ne_true, or_cases, or_left, or_right, eqb-true, eq-eqb, lt-ltb, le-ltb, cond-true, cond-false, not-true}
use Rattle.xn_model.specs.Graph.{Independent, each_two, ends_at, independent, touches}
use Rattle.xn_model.specs.Lists.{has}
use Rattle.xn_model.specs.Orders.{crossings_of}
use Rattle.xn_model.specs.Web.{crossing_node, crossing_number_in}
use Rattle.xn_model.proofs.Has.{all_of, has-first, has-later}
use Rattle.xn_fewer.proofs.Rising.{Rising}

-- an edge isn't independent of itself
pub not_of_itself : (ends : List (ℕ × ℕ)) (e f : ℕ) → Independent ends e f → e ≢ f
not_of_itself ends e f free same =
    let own : independent ends f f ≡ true = ap (λ x. independent ends x f) (sym same) ∙ free in
    let parts : (not (touches (ends_at ends f) (ends_at ends f).0) ≡ true) × (not (touches (ends_at ends f) (ends_at ends f).1) ≡ true) = and_parts _ _ own in
    both_ways _ (not-true _ parts.0) (or_left _ _ (eq-eqb (ends_at ends f).0 (ends_at ends f).0 refl))

-- ---- pairs in a list

abbrev pub is_pair : ℕ → ℕ → ℕ × ℕ → Bool
is_pair e f p = eqb p.0 e && eqb p.1 f

abbrev pub has_pair : List (ℕ × ℕ) → ℕ → ℕ → Bool
has_pair ps e f = list_any (is_pair e f) ps

is_pair-parts : (e f : ℕ) (p : ℕ × ℕ) → is_pair e f p ≡ true → (p.0 ≡ e) × (p.1 ≡ f)
is_pair-parts e f p h =
    let parts : (eqb p.0 e ≡ true) × (eqb p.1 f ≡ true) = and_parts _ _ h in
    (eqb-true _ _ parts.0, eqb-true _ _ parts.1)

is_pair-from : (e f : ℕ) (p : ℕ × ℕ) → p.0 ≡ e → p.1 ≡ f → is_pair e f p ≡ true
is_pair-from e f p one two = and_from _ _ (eq-eqb _ _ one) (eq-eqb _ _ two)

-- what stands at the number of a pair
numbered : (ps : List (ℕ × ℕ)) (e f : ℕ) → has_pair ps e f ≡ true →
    (crossing_number_in ps e f < length ps) × ((ends_at ps (crossing_number_in ps e f)).0 ≡ e) × ((ends_at ps (crossing_number_in ps e f)).1 ≡ f)
numbered [] e f h = absurd (both_ways false refl h)
numbered (p ∷ ps) e f h = elim (cases_Bool (is_pair e f p)) [
  | inl here ↦
      let parts = is_pair-parts e f p here in
      let zero_it : crossing_number_in (p ∷ ps) e f ≡ 0 = cond-true _ _ _ here in
      (omega (arith, zero_it), ap (λ i. (ends_at (p ∷ ps) i).0) zero_it ∙ parts.0, ap (λ i. (ends_at (p ∷ ps) i).1) zero_it ∙ parts.1)
  | inr past ↦
      let more : crossing_number_in (p ∷ ps) e f ≡ suc (crossing_number_in ps e f) = cond-false _ _ _ past in
      let rest = numbered ps e f (elim (or_cases (is_pair e f p) (has_pair ps e f) h) [ inl here ↦ absurd (both_ways _ past here) | inr later ↦ later ]) in
      (omega (arith, more, rest.0), ap (λ i. (ends_at (p ∷ ps) i).0) more ∙ rest.1, ap (λ i. (ends_at (p ∷ ps) i).1) more ∙ rest.2)
]

pair_at : (ps : List (ℕ × ℕ)) (i : ℕ) → i < length ps → has_pair ps (ends_at ps i).0 (ends_at ps i).1 ≡ true
pair_at [] i i_in = absurd (omega arith)
pair_at (p ∷ ps) zero i_in = or_left (is_pair p.0 p.1 p) _ (is_pair-from p.0 p.1 p refl refl)
pair_at (p ∷ ps) (suc i) i_in = or_right (is_pair (ends_at ps i).0 (ends_at ps i).1 p) _ (pair_at ps i (omega arith))

any_left : (t : ℕ × ℕ → Bool) (xs ys : List (ℕ × ℕ)) → list_any t xs ≡ true → list_any t (xs ++ ys) ≡ true
any_left t [] ys h = absurd (both_ways false refl h)
any_left t (x ∷ xs) ys h = elim (or_cases (t x) (list_any t xs) h) [ inl here ↦ or_left (t x) _ here | inr later ↦ or_right (t x) _ (any_left t xs ys later) ]

any_right : (t : ℕ × ℕ → Bool) (xs ys : List (ℕ × ℕ)) → list_any t ys ≡ true → list_any t (xs ++ ys) ≡ true
any_right t [] ys h = h
any_right t (x ∷ xs) ys h = or_right (t x) _ (any_right t xs ys h)

any_split : (t : ℕ × ℕ → Bool) (xs ys : List (ℕ × ℕ)) → list_any t (xs ++ ys) ≡ true → (list_any t xs ≡ true) ⊎ (list_any t ys ≡ true)
any_split t [] ys h = inr h
any_split t (x ∷ xs) ys h = elim (or_cases (t x) (list_any t (xs ++ ys)) h) [
  | inl here ↦ inl (or_left (t x) (list_any t xs) here)
  | inr later ↦ elim (any_split t xs ys later) [ inl a ↦ inl (or_right (t x) (list_any t xs) a) | inr b ↦ inr b ]
]

-- the pairs of x with each of a list
with_x : (x e f : ℕ) (ys : List ℕ) → x ≡ e → has ys f ≡ true → has_pair (map (λ y. (x, y)) ys) e f ≡ true
with_x x e f [] same h = absurd (both_ways false refl h)
with_x x e f (y ∷ ys) same h = elim (or_cases (eqb y f) (has ys f) h) [
  | inl is ↦ or_left (is_pair e f (x, y)) _ (is_pair-from e f (x, y) same (eqb-true y f is))
  | inr later ↦ or_right (is_pair e f (x, y)) _ (with_x x e f ys same later)
]

of_x : (x e f : ℕ) (ys : List ℕ) → has_pair (map (λ y. (x, y)) ys) e f ≡ true → (x ≡ e) × (has ys f ≡ true)
of_x x e f [] h = absurd (both_ways false refl h)
of_x x e f (y ∷ ys) h = elim (or_cases (is_pair e f (x, y)) (has_pair (map (λ z. (x, z)) ys) e f) h) [
  | inl here ↦ let parts = is_pair-parts e f (x, y) here in (parts.0, subst (λ z. has (y ∷ ys) z ≡ true) parts.1 (has-first y ys))
  | inr later ↦ let rest = of_x x e f ys later in (rest.0, has-later y ys f rest.1)
]

-- ---- each two of a rising list

pub two_in : (xs : List ℕ) → Rising xs → (e f : ℕ) → has xs e ≡ true → has xs f ≡ true → e < f → has_pair (each_two xs) e f ≡ true
two_in [] rises e f e_in f_in order = absurd (both_ways false refl e_in)
two_in (x ∷ xs) rises e f e_in f_in order =
    let later : x ≤ e → has xs f ≡ true = λ low. elim (or_cases (eqb x f) (has xs f) f_in) [
      | inl also ↦ let same : x ≡ f = eqb-true x f also in absurd (omega arith)
      | inr more ↦ more
    ] in
    elim (or_cases (eqb x e) (has xs e) e_in) [
      | inl here ↦
          let same : x ≡ e = eqb-true x e here in
          any_left (is_pair e f) (map (λ y. (x, y)) xs) (each_two xs) (with_x x e f xs same (later (omega arith)))
      | inr deeper ↦
          let low = all_of (λ y. x < y) xs rises.0 e deeper in
          any_right (is_pair e f) (map (λ y. (x, y)) xs) (each_two xs) (two_in xs rises.1 e f deeper (later (omega arith)) order)
    ]

two_of : (xs : List ℕ) → Rising xs → (e f : ℕ) → has_pair (each_two xs) e f ≡ true → (has xs e ≡ true) × (has xs f ≡ true) × (e < f)
two_of [] rises e f h = absurd (both_ways false refl h)
two_of (x ∷ xs) rises e f h = elim (any_split (is_pair e f) (map (λ y. (x, y)) xs) (each_two xs) h) [
  | inl first ↦
      let parts = of_x x e f xs first in
      let low = all_of (λ y. x < y) xs rises.0 f parts.1 in
      (subst (λ z. has (x ∷ xs) z ≡ true) parts.0 (has-first x xs), has-later x xs f parts.1, omega (arith, low, parts.0))
  | inr deeper ↦
      let rest = two_of xs rises.1 e f deeper in
      (has-later x xs e rest.0, has-later x xs f rest.1, rest.2)
]

-- ---- lists of different pairs

abbrev AreDifferent : List (ℕ × ℕ) → Type 0
AreDifferent [] = Unit {0}
AreDifferent (p ∷ ps) = (has_pair ps p.0 p.1 ≡ false) × AreDifferent ps

different-append : (ps qs : List (ℕ × ℕ)) → AreDifferent ps → AreDifferent qs → ((e f : ℕ) → has_pair ps e f ≡ true → has_pair qs e f ≡ true → ⊥) → AreDifferent (ps ++ qs)
different-append [] qs one two apart = two
different-append (p ∷ ps) qs one two apart = (
  false_from_ne_true _ (λ h. elim (any_split (is_pair p.0 p.1) ps qs h) [
    | inl left ↦ both_ways _ one.0 left
    | inr right ↦ apart p.0 p.1 (or_left (is_pair p.0 p.1 p) _ (is_pair-from p.0 p.1 p refl refl)) right
  ]),
  different-append ps qs one.1 two (λ e f h. apart e f (or_right (is_pair e f p) _ h)),
)

different-with : (x : ℕ) (ys : List ℕ) → Rising ys → AreDifferent (map (λ y. (x, y)) ys)
different-with x [] rises = tt
different-with x (y ∷ ys) rises = (
  false_from_ne_true _ (λ h. let low = all_of (λ z. y < z) ys rises.0 y (of_x x x y ys h).1 in omega (arith, low)),
  different-with x ys rises.1,
)

different-two : (xs : List ℕ) → Rising xs → AreDifferent (each_two xs)
different-two [] rises = tt
different-two (x ∷ xs) rises =
    different-append (map (λ y. (x, y)) xs) (each_two xs) (different-with x xs rises.1) (different-two xs rises.1) (λ e f first deeper.
    let low = all_of (λ y. x < y) xs rises.0 e (two_of xs rises.1 e f deeper).0 in omega (arith, low, (of_x x e f xs first).0))

-- what a test leaves of a list of pairs
pub left_pair : (t : ℕ → ℕ → Bool) (ps : List (ℕ × ℕ)) (e f : ℕ) → has_pair ps e f ≡ true → t e f ≡ true → has_pair (filter (λ p. t p.0 p.1) ps) e f ≡ true
left_pair t [] e f h passes = h
left_pair t (p ∷ ps) e f h passes = elim (or_cases (is_pair e f p) (has_pair ps e f) h) [
  | inl here ↦
      let parts = is_pair-parts e f p here in
      let keeps : t p.0 p.1 ≡ true = ap₂ t parts.0 parts.1 ∙ passes in
      rw keeps (or_left (is_pair e f p) _ here)
  | inr later ↦
      let rest = left_pair t ps e f later passes in
      elim (cases_Bool (t p.0 p.1)) [
        | inl keeps ↦ rw keeps (or_right (is_pair e f p) _ rest)
        | inr drops ↦ rw drops rest
      ]
]

pair_left : (t : ℕ → ℕ → Bool) (ps : List (ℕ × ℕ)) (e f : ℕ) → has_pair (filter (λ p. t p.0 p.1) ps) e f ≡ true → (has_pair ps e f ≡ true) × (t e f ≡ true)
pair_left t [] e f h = absurd (both_ways false refl h)
pair_left t (p ∷ ps) e f h = elim (cases_Bool (t p.0 p.1)) [
  | inl keeps ↦ elim (or_cases (is_pair e f p) (has_pair (filter (λ q. t q.0 q.1) ps) e f) (rw keeps at h)) [
    | inl here ↦ let parts = is_pair-parts e f p here in (or_left (is_pair e f p) _ here, ap₂ t (sym parts.0) (sym parts.1) ∙ keeps)
    | inr later ↦ let rest = pair_left t ps e f later in (or_right (is_pair e f p) _ rest.0, rest.1)
  ]
  | inr drops ↦ let rest = pair_left t ps e f (rw drops at h) in (or_right (is_pair e f p) _ rest.0, rest.1)
]

different-left : (t : ℕ → ℕ → Bool) (ps : List (ℕ × ℕ)) → AreDifferent ps → AreDifferent (filter (λ p. t p.0 p.1) ps)
different-left t [] different = tt
different-left t (p ∷ ps) different =
    let rest = different-left t ps different.1 in
    elim (cases_Bool (t p.0 p.1)) [
      | inl keeps ↦ rw keeps (false_from_ne_true _ (λ h. both_ways _ different.0 (pair_left t ps p.0 p.1 h).0), rest)
      | inr drops ↦ rw drops rest
    ]

-- in a list of different pairs the pair at i has the number i
number_at : (ps : List (ℕ × ℕ)) → AreDifferent ps → (i : ℕ) → i < length ps → crossing_number_in ps (ends_at ps i).0 (ends_at ps i).1 ≡ i
number_at [] different i i_in = absurd (omega arith)
number_at (p ∷ ps) different zero i_in = cond-true _ _ _ (is_pair-from p.0 p.1 p refl refl)
number_at (p ∷ ps) different (suc i) i_in =
    let q = ends_at ps i in
    let there = pair_at ps i (omega arith) in
    let other : is_pair q.0 q.1 p ≡ false = false_from_ne_true _ (λ here.
    let parts = is_pair-parts q.0 q.1 p here in
    both_ways (has_pair ps p.0 p.1) different.0 (ap₂ (has_pair ps) parts.0 parts.1 ∙ there)) in
    cond-false _ _ _ other ∙ ap suc (number_at ps different.1 i (omega arith))

-- ---- the nodes of crossings

module _ (nodes : ℕ) (xs : List ℕ) (rises : Rising xs) (ord : ℕ → List ℕ) (both : (e f : ℕ) → has (ord e) f ≡ true → has (ord f) e ≡ true) where
  pub record IsCross (e f : ℕ) : Type 0 where
    pub e_in : has xs e ≡ true
    pub f_in : has xs f ≡ true
    pub crosses : has (ord e) f ≡ true
    pub differ : e ≢ f

  abbrev pairs : List (ℕ × ℕ)
  pairs = crossings_of xs ord

  abbrev pub node : ℕ → ℕ → ℕ
  node e f = crossing_node nodes pairs e f

  pub node_low : (e f : ℕ) → e < f → node e f ≡ nodes + crossing_number_in pairs e f
  node_low e f low = ap (λ x. nodes + x) (cond-true _ _ _ (lt-ltb e f low))

  pub node_high : (e f : ℕ) → f < e → node e f ≡ nodes + crossing_number_in pairs f e
  node_high e f high = ap (λ x. nodes + x) (cond-false _ _ _ (le-ltb e f (omega arith)))

  -- two edges have one node
  pub node_turned : (e f : ℕ) → e ≢ f → node e f ≡ node f e
  node_turned e f differ = elim (cases_order e f) [
    | inl same ↦ absurd (differ same)
    | inr (inl low) ↦ node_low e f low ∙ sym (node_high f e low)
    | inr (inr high) ↦ node_high e f high ∙ sym (node_low f e high)
  ]

  -- the number of a crossing, and what stands there
  pub node_facts : (e f : ℕ) → IsCross e f →
      (i : ℕ) × (i < length pairs) × (node e f ≡ nodes + i) × ((((ends_at pairs i).0 ≡ e) × ((ends_at pairs i).1 ≡ f)) ⊎ (((ends_at pairs i).0 ≡ f) × ((ends_at pairs i).1 ≡ e)))
  node_facts e f c = elim (cases_order e f) [
    | inl same ↦ absurd (c.differ same)
    | inr (inl low) ↦
        let there = numbered pairs e f (left_pair (λ x y. has (ord x) y) (each_two xs) e f (two_in xs rises e f c.e_in c.f_in low) c.crosses) in
        (crossing_number_in pairs e f, there.0, node_low e f low, inl (there.1, there.2))
    | inr (inr high) ↦
        let there = numbered pairs f e (left_pair (λ x y. has (ord x) y) (each_two xs) f e (two_in xs rises f e c.f_in c.e_in high) (both e f c.crosses)) in
        (crossing_number_in pairs f e, there.0, node_high e f high, inr (there.1, there.2))
  ]

  -- two edges cross at one node, and no other two
  pub node_apart : (e f e' f' : ℕ) → IsCross e f → IsCross e' f' → node e f ≡ node e' f' → ((e ≡ e') × (f ≡ f')) ⊎ ((e ≡ f') × (f ≡ e'))
  node_apart e f e' f' c c' same =
      let one = node_facts e f c in
      let two = node_facts e' f' c' in
      let i : one.0 ≡ two.0 = omega (arith, same, one.2, two.2) in
      let fst : (ends_at pairs one.0).0 ≡ (ends_at pairs two.0).0 = ap (λ j. (ends_at pairs j).0) i in
      let snd : (ends_at pairs one.0).1 ≡ (ends_at pairs two.0).1 = ap (λ j. (ends_at pairs j).1) i in
      elim one.3 [
        | inl a ↦ elim two.3 [
          | inl b ↦ inl (sym a.0 ∙ fst ∙ b.0, sym a.1 ∙ snd ∙ b.1)
          | inr b ↦ inr (sym a.0 ∙ fst ∙ b.0, sym a.1 ∙ snd ∙ b.1)
        ]
        | inr a ↦ elim two.3 [
          | inl b ↦ inr (sym a.1 ∙ snd ∙ b.1, sym a.0 ∙ fst ∙ b.0)
          | inr b ↦ inl (sym a.1 ∙ snd ∙ b.1, sym a.0 ∙ fst ∙ b.0)
        ]
      ]

  -- the crossing of the number i
  pub crossing_at : (i : ℕ) → i < length pairs → IsCross (ends_at pairs i).0 (ends_at pairs i).1 × ((ends_at pairs i).0 < (ends_at pairs i).1)
  crossing_at i i_in =
      let left = pair_left (λ x y. has (ord x) y) (each_two xs) (ends_at pairs i).0 (ends_at pairs i).1 (pair_at pairs i i_in) in
      let two = two_of xs rises (ends_at pairs i).0 (ends_at pairs i).1 left.0 in
      (record { e_in = two.0; f_in = two.1; crosses = left.1; differ = λ same. omega (arith, same, two.2) }, two.2)

  -- crossings of two numbers are two
  pub crossings_apart : (i j : ℕ) → i < length pairs → j < length pairs → (ends_at pairs i).0 ≡ (ends_at pairs j).0 → (ends_at pairs i).1 ≡ (ends_at pairs j).1 → i ≡ j
  crossings_apart i j i_in j_in one two =
      let different = different-left (λ x y. has (ord x) y) (each_two xs) (different-two xs rises) in
      sym (number_at pairs different i i_in) ∙ ap₂ (crossing_number_in pairs) one two ∙ number_at pairs different j j_in
