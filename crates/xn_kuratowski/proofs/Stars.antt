-- A web with a star at each of two nodes, and the same with the two made one.
use Rattle.std.proofs.Common.{◌≡◌, ◌≢◌, ℕ, zero, suc, ◌+◌, ◌-◌, ◌*◌, ◌<◌, ◌⊎◌, inl, inr, true, List, [], ◌∷◌, ◌++◌, length, refl, sym, ◌∙◌, ap, ap₂, arith, length-append, append_assoc}
use Rattle.std.proofs.lemmas.Bool.{cases_lt}
use Rattle.xn_model.specs.Graph.{EndsIn, HasNoLoop, ends_at}
use Rattle.xn_model.specs.Lists.{at}
use Rattle.xn_model.specs.Map.{is_lone, tail_of}
use Rattle.xn_model.proofs.Darts.{EndsIn-both, cases_dart, tail-even, tail-odd}
use Rattle.xn_genus.proofs.Nodes.{lone_from}
use Rattle.xn_fewer.specs.Flat.{both, called, merged}
use Rattle.xn_fewer.proofs.Lists.{at_back, at_front, both-append, called-at, called-other, lone_ends, merged-lone}
use Rattle.xn_kuratowski.proofs.Rim.{AreStars, star, web_of_stars, web_merged}

-- ---- lists of segments

pub no_loop-append : (xs ys : List (ℕ × ℕ)) → HasNoLoop xs → HasNoLoop ys → HasNoLoop (xs ++ ys)
no_loop-append [] ys none_x none_y s s_in = none_y s s_in
no_loop-append (p ∷ xs) ys none_x none_y zero s_in = none_x 0 (omega arith)
no_loop-append (p ∷ xs) ys none_x none_y (suc s) s_in =
    no_loop-append xs ys (λ t t_in. none_x (suc t) (omega (arith, t_in))) none_y s (omega (arith, s_in))

-- heads of a star, without their being different
abbrev pub AreOthers : ℕ → ℕ → List ℕ → Type 0
AreOthers nodes x heads = (k : ℕ) → k < length heads → (at heads k < nodes) × (at heads k ≢ x)

pub EndsIn-star : (nodes x : ℕ) (heads : List ℕ) → x < nodes → AreOthers nodes x heads → EndsIn nodes (star x heads)
EndsIn-star nodes x [] x_in are = tt
EndsIn-star nodes x (v ∷ heads) x_in are = (x_in, (are 0 (omega arith)).0, EndsIn-star nodes x heads x_in (λ k k_in. are (suc k) (omega (arith, k_in))))

pub no_loop-star : (nodes x : ℕ) (heads : List ℕ) → AreOthers nodes x heads → HasNoLoop (star x heads)
no_loop-star nodes x [] are s s_in = absurd (omega arith)
no_loop-star nodes x (v ∷ heads) are zero s_in = λ same. (are 0 (omega arith)).1 (sym same)
no_loop-star nodes x (v ∷ heads) are (suc s) s_in = no_loop-star nodes x heads (λ k k_in. are (suc k) (omega (arith, k_in))) s (omega (arith, s_in))

pub length-star : (x : ℕ) (heads : List ℕ) → length (star x heads) ≡ length heads
length-star x [] = refl
length-star x (v ∷ heads) = ap suc (length-star x heads)

-- a star under another name of its node
pub merged-star : (x y : ℕ) (heads : List ℕ) → ((k : ℕ) → k < length heads → at heads k ≢ y) → (z w : ℕ) → called x y z ≡ w → merged x y (star z heads) ≡ star w heads
merged-star x y [] other z w is = refl
merged-star x y (v ∷ heads) other z w is =
    let here : both (called x y) (z, v) ≡ (w, v) = ap₂ (λ a b. (a, b)) is (called-other x y v (other 0 (omega arith))) in
    ap₂ (λ q qs. q ∷ qs) here (merged-star x y heads (λ k k_in. other (suc k) (omega (arith, k_in))) z w is)

module _ (nodes : ℕ) (rest : List (ℕ × ℕ)) (x y : ℕ) (xs ys : List ℕ) (is : AreStars nodes rest x y xs ys) where
  pub x_others : AreOthers nodes x xs
  x_others k k_in = let low = is.x_heads.below k 0 k_in in (low.0, low.1)

  pub y_others : AreOthers nodes x ys
  y_others k k_in = let low = is.y_heads.below k 0 k_in in (low.0, low.1)

  y_heads_others : AreOthers nodes y ys
  y_heads_others k k_in = let low = is.y_heads.below k 0 k_in in (low.0, low.2)

  pub ends_in_merged : EndsIn nodes (web_merged rest x xs ys)
  ends_in_merged = EndsIn-both nodes rest _ is.ends_in (EndsIn-both nodes (star x xs) _ (EndsIn-star nodes x xs is.x_in x_others) (EndsIn-star nodes x ys is.x_in y_others))

  pub no_loop_merged : HasNoLoop (web_merged rest x xs ys)
  no_loop_merged = no_loop-append rest _ is.no_loop (no_loop-append (star x xs) _ (no_loop-star nodes x xs x_others) (no_loop-star nodes x ys y_others))

  pub size_merged : length (web_merged rest x xs ys) ≡ length rest + (length xs + length ys)
  size_merged =
      length-append rest (star x xs ++ star x ys) ∙ ap (λ k. length rest + k) (length-append (star x xs) (star x ys) ∙ ap₂ (λ a b. a + b) (length-star x xs) (length-star x ys))

  pub size_of_stars : length (web_of_stars rest x y xs ys) ≡ length rest + (length xs + (length ys + 1))
  size_of_stars =
      length-append rest (star x xs ++ (star y ys ++ (x, y) ∷ []))
      ∙ ap (λ k. length rest + k) (length-append (star x xs) (star y ys ++ (x, y) ∷ []) ∙ ap₂ (λ a b. a + b) (length-star x xs)
      (length-append (star y ys) ((x, y) ∷ []) ∙ ap (λ a. a + 1) (length-star y ys)))

  pub ends_in_beside : EndsIn nodes (web_of_stars rest x y xs ys)
  ends_in_beside =
      EndsIn-both nodes rest _ is.ends_in
      (EndsIn-both nodes (star x xs) _ (EndsIn-star nodes x xs is.x_in x_others) (EndsIn-both nodes (star y ys) _ (EndsIn-star nodes y ys is.y_in y_heads_others) (is.x_in, is.y_in, tt)))

  -- the web without the segment between x and y
  abbrev pub open_web : List (ℕ × ℕ)
  open_web = rest ++ (star x xs ++ star y ys)

  pub closed : open_web ++ (x, y) ∷ [] ≡ web_of_stars rest x y xs ys
  closed = append_assoc rest (star x xs ++ star y ys) ((x, y) ∷ []) ∙ ap (λ zs. rest ++ zs) (append_assoc (star x xs) (star y ys) ((x, y) ∷ []))

  pub merged_is : merged x y open_web ≡ web_merged rest x xs ys
  merged_is =
      both-append (called x y) rest (star x xs ++ star y ys)
      ∙ ap₂ (λ a b. a ++ b) (merged-lone x y rest is.y_lone)
      (both-append (called x y) (star x xs) (star y ys)
      ∙ ap₂ (λ a b. a ++ b) (merged-star x y xs (λ k k_in. (is.x_heads.below k 0 k_in).2) x x (called-other x y x is.two_ends))
      (merged-star x y ys (λ k k_in. (is.y_heads.below k 0 k_in).2) y x (called-at x y y refl)))

-- ---- segment by segment

pub same_webs : (xs ys : List (ℕ × ℕ)) → length xs ≡ length ys → ((i : ℕ) → i < length xs → ends_at xs i ≡ ends_at ys i) → xs ≡ ys
same_webs [] [] size same = refl
same_webs [] (y ∷ ys) size same = absurd (omega (arith, size))
same_webs (x ∷ xs) [] size same = absurd (omega (arith, size))
same_webs (x ∷ xs) (y ∷ ys) size same =
    ap₂ (λ z zs. z ∷ zs) (same 0 (omega arith)) (same_webs xs ys (omega (arith, size)) (λ i i_in. same (suc i) (omega (arith, i_in))))

pub at_star : (x : ℕ) (heads : List ℕ) (k : ℕ) → k < length heads → ends_at (star x heads) k ≡ (x, at heads k)
at_star x [] k k_in = absurd (omega (arith, k_in))
at_star x (v ∷ heads) zero k_in = refl
at_star x (v ∷ heads) (suc k) k_in = at_star x heads k (omega (arith, k_in))

-- a segment of three lists and what follows
module _ (rest : List (ℕ × ℕ)) (x z : ℕ) (xs ys : List ℕ) (more : List (ℕ × ℕ)) where
  abbrev pub in_three : List (ℕ × ℕ)
  in_three = rest ++ (star x xs ++ (star z ys ++ more))

  pub at_rest : (i : ℕ) → i < length rest → ends_at in_three i ≡ ends_at rest i
  at_rest i i_in = at_front rest (star x xs ++ (star z ys ++ more)) i i_in

  pub at_first : (k : ℕ) → k < length xs → ends_at in_three (length rest + k) ≡ (x, at xs k)
  at_first k k_in =
      at_back rest (star x xs ++ (star z ys ++ more)) k ∙ at_front (star x xs) (star z ys ++ more) k (omega (arith, k_in, length-star x xs)) ∙ at_star x xs k k_in

  pub at_second : (k : ℕ) → k < length ys → ends_at in_three (length rest + (length xs + k)) ≡ (z, at ys k)
  at_second k k_in =
      at_back rest (star x xs ++ (star z ys ++ more)) (length xs + k)
      ∙ ap (λ j. ends_at (star x xs ++ (star z ys ++ more)) (j + k)) (sym (length-star x xs))
      ∙ at_back (star x xs) (star z ys ++ more) k ∙ at_front (star z ys) more k (omega (arith, k_in, length-star z ys)) ∙ at_star z ys k k_in

  pub at_more : (k : ℕ) → ends_at in_three (length rest + (length xs + (length ys + k))) ≡ ends_at more k
  at_more k =
      at_back rest (star x xs ++ (star z ys ++ more)) (length xs + (length ys + k))
      ∙ ap (λ j. ends_at (star x xs ++ (star z ys ++ more)) (j + (length ys + k))) (sym (length-star x xs))
      ∙ at_back (star x xs) (star z ys ++ more) (length ys + k)
      ∙ ap (λ j. ends_at (star z ys ++ more) (j + k)) (sym (length-star z ys))
      ∙ at_back (star z ys) more k

pub append_none : (ys : List (ℕ × ℕ)) → ys ++ [] ≡ ys
append_none [] = refl
append_none (y ∷ ys) = ap (λ zs. y ∷ zs) (append_none ys)

-- the place of a segment
pub places : (r p q i : ℕ) → i < r + (p + q) → (i < r) ⊎ (((k : ℕ) × (k < p) × (i ≡ r + k)) ⊎ ((k : ℕ) × (k < q) × (i ≡ r + (p + k))))
places r p q i i_in = elim (cases_lt i r) [
  | inl low ↦ inl low
  | inr high ↦ elim (cases_lt (i - r) p) [
    | inl first ↦ inr (inl (i - r, first, omega (arith, high)))
    | inr second ↦ inr (inr (i - r - p, omega (arith, high, second, i_in), omega (arith, high, second)))
  ]
]

-- ---- the segments of the merged web

module _ (nodes : ℕ) (rest : List (ℕ × ℕ)) (x y : ℕ) (xs ys : List ℕ) (is : AreStars nodes rest x y xs ys) where
  abbrev pub web : List (ℕ × ℕ)
  web = web_merged rest x xs ys

  web_is : in_three rest x x xs ys [] ≡ web
  web_is = ap (λ zs. rest ++ (star x xs ++ zs)) (append_none (star x ys))

  pub web_rest : (i : ℕ) → i < length rest → ends_at web i ≡ ends_at rest i
  web_rest i i_in = ap (λ es. ends_at es i) (sym web_is) ∙ at_rest rest x x xs ys [] i i_in

  pub web_first : (k : ℕ) → k < length xs → ends_at web (length rest + k) ≡ (x, at xs k)
  web_first k k_in = ap (λ es. ends_at es (length rest + k)) (sym web_is) ∙ at_first rest x x xs ys [] k k_in

  pub web_second : (k : ℕ) → k < length ys → ends_at web (length rest + (length xs + k)) ≡ (x, at ys k)
  web_second k k_in = ap (λ es. ends_at es (length rest + (length xs + k))) (sym web_is) ∙ at_second rest x x xs ys [] k k_in

  -- the darts at x lead to the heads
  pub dart_at_x : (d : ℕ) → d < 2 * length web → tail_of web d ≡ x → (k : ℕ) × (k < length xs + length ys) × (d ≡ 2 * (length rest + k))
  dart_at_x d d_in at =
      let c = cases_dart d in
      let s_in : c.0 < length rest + (length xs + length ys) = omega (arith, c.1, d_in, size_merged nodes rest x y xs ys is) in
      let ends_are : ((ends_at web c.0).0 ≡ x) ⊎ ((ends_at web c.0).1 ≡ x) = elim c.1 [
        | inl even ↦ inl (sym (tail-even web c.0) ∙ ap (tail_of web) (sym even) ∙ at)
        | inr odd ↦ inr (sym (tail-odd web c.0) ∙ ap (tail_of web) (sym odd) ∙ at)
      ] in
      let at_odd : d ≡ 2 * c.0 + 1 → (ends_at web c.0).1 ≡ x = λ odd. sym (tail-odd web c.0) ∙ ap (tail_of web) (sym odd) ∙ at in
      elim (places (length rest) (length xs) (length ys) c.0 s_in) [
        | inl low ↦
            let never = lone_ends rest x is.x_lone c.0 low in
            absurd (elim ends_are [
              | inl one ↦ never.0 (ap (λ p. p.0) (sym (web_rest c.0 low)) ∙ one)
              | inr two ↦ never.1 (ap (λ p. p.1) (sym (web_rest c.0 low)) ∙ two)
            ])
        | inr (inl first) ↦ elim c.1 [
          | inl even ↦ (first.0, omega (arith, first.1), even ∙ ap (λ s. 2 * s) first.2)
          | inr odd ↦ absurd ((x_others nodes rest x y xs ys is first.0 first.1).1
              (ap (λ p. p.1) (sym (web_first first.0 first.1)) ∙ ap (λ s. (ends_at web s).1) (sym first.2) ∙ at_odd odd))
        ]
        | inr (inr second) ↦ elim c.1 [
          | inl even ↦ (length xs + second.0, omega (arith, second.1), even ∙ ap (λ s. 2 * s) second.2)
          | inr odd ↦ absurd ((y_others nodes rest x y xs ys is second.0 second.1).1
              (ap (λ p. p.1) (sym (web_second second.0 second.1)) ∙ ap (λ s. (ends_at web s).1) (sym second.2) ∙ at_odd odd))
        ]
      ]

  -- and those darts are at x
  pub first_at_x : (k : ℕ) → k < length xs → tail_of web (2 * (length rest + k)) ≡ x
  first_at_x k k_in = tail-even web (length rest + k) ∙ ap (λ p. p.0) (web_first k k_in)

  pub second_at_x : (k : ℕ) → k < length ys → tail_of web (2 * (length rest + (length xs + k))) ≡ x
  second_at_x k k_in = tail-even web (length rest + (length xs + k)) ∙ ap (λ p. p.0) (web_second k k_in)

  -- y has no dart
  pub y_lone_merged : is_lone web y ≡ true
  y_lone_merged = lone_from web y (λ d d_in here.
      let c = cases_dart d in
      let s_in : c.0 < length rest + (length xs + length ys) = omega (arith, c.1, d_in, size_merged nodes rest x y xs ys is) in
      let ends_are : ((ends_at web c.0).0 ≡ y) ⊎ ((ends_at web c.0).1 ≡ y) = elim c.1 [
        | inl even ↦ inl (sym (tail-even web c.0) ∙ ap (tail_of web) (sym even) ∙ here)
        | inr odd ↦ inr (sym (tail-odd web c.0) ∙ ap (tail_of web) (sym odd) ∙ here)
      ] in
      elim (places (length rest) (length xs) (length ys) c.0 s_in) [
        | inl low ↦
            let never = lone_ends rest y is.y_lone c.0 low in
            elim ends_are [
              | inl one ↦ never.0 (ap (λ p. p.0) (sym (web_rest c.0 low)) ∙ one)
              | inr two ↦ never.1 (ap (λ p. p.1) (sym (web_rest c.0 low)) ∙ two)
            ]
        | inr (inl first) ↦
            let e : ends_at web c.0 ≡ (x, at xs first.0) = ap (ends_at web) first.2 ∙ web_first first.0 first.1 in
            elim ends_are [
              | inl one ↦ is.two_ends (ap (λ p. p.0) (sym e) ∙ one)
              | inr two ↦ (is.x_heads.below first.0 0 first.1).2 (ap (λ p. p.1) (sym e) ∙ two)
            ]
        | inr (inr second) ↦
            let e : ends_at web c.0 ≡ (x, at ys second.0) = ap (ends_at web) second.2 ∙ web_second second.0 second.1 in
            elim ends_are [
              | inl one ↦ is.two_ends (ap (λ p. p.0) (sym e) ∙ one)
              | inr two ↦ (is.y_heads.below second.0 0 second.1).2 (ap (λ p. p.1) (sym e) ∙ two)
            ]
      ])
