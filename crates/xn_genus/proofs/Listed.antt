-- Listed darts and listed segments make a part of a web.
use Rattle.std.proofs.Common.{◌≡◌, ◌≢◌, ℕ, ◌+◌, ◌*◌, ◌/◌, ◌%◌, ◌<◌, ◌⊎◌, inl, inr, List, length, map, sym, ◌∙◌, ap, arith}
use Rattle.std.proofs.lemmas.Bool.{cond-true, cond-false, eq-eqb, ne_eqb}
use Rattle.std.proofs.lemmas.List.{get_or_default, length-map}
use Rattle.std.proofs.Math.ListN.{get_or-map}
use Rattle.xn_model.specs.Graph.{ends_at}
use Rattle.xn_model.specs.Lists.{at}
use Rattle.xn_model.specs.Map.{reverse_of, tail_of}
use Rattle.xn_genus.specs.Part.{AreDartsApart, AreSegmentsApart, IsPart, dart_along, dart_listed, ends_along, ends_listed}
use Rattle.xn_model.proofs.Darts.{cases_dart, reverse-even, reverse-odd, reverse-reverse, reverse_below, reverse_other, tail-even, tail-odd}
use Rattle.xn_genus.proofs.Compress.{half_reverse}

ends_at-map : (f : ℕ → ℕ × ℕ) (xs : List ℕ) (i : ℕ) → i < length xs → ends_at (map f xs) i ≡ f (at xs i)
ends_at-map f xs i i_in = get_or_default (map f xs) i (0, 0) (f 0) (omega (arith, i_in, length-map xs f)) ∙ get_or-map f xs i 0

module _ (ends : List (ℕ × ℕ)) (darts : List ℕ) (is : AreDartsApart ends darts) where
  abbrev e : ℕ → ℕ
  e = dart_along darts

  abbrev part : List (ℕ × ℕ)
  part = ends_along ends darts

  e_even : (i : ℕ) → e (2 * i) ≡ at darts i
  e_even i =
      let bit : (2 * i) % 2 ≡ 0 = omega arith in
      let half : (2 * i) / 2 ≡ i = omega arith in
      cond-true _ _ _ (eq-eqb _ _ bit) ∙ ap (at darts) half

  e_odd : (i : ℕ) → e (2 * i + 1) ≡ reverse_of (at darts i)
  e_odd i =
      let bit : (2 * i + 1) % 2 ≢ 0 = λ same. omega (arith, same) in
      let half : (2 * i + 1) / 2 ≡ i = omega arith in
      cond-false _ _ _ (ne_eqb _ _ bit) ∙ ap (λ k. reverse_of (at darts k)) half

  size : length part ≡ length darts
  size = length-map darts (λ d. (tail_of ends d, tail_of ends (reverse_of d)))

  -- the i-th listed dart, or its reverse
  cases_e : (j : ℕ) → (i : ℕ) × (((j ≡ 2 * i) × (e j ≡ at darts i)) ⊎ ((j ≡ 2 * i + 1) × (e j ≡ reverse_of (at darts i))))
  cases_e j = let c = cases_dart j in (
    c.0,
    elim c.1 [
      | inl even ↦ inl (even, ap e even ∙ e_even c.0)
      | inr odd ↦ inr (odd, ap e odd ∙ e_odd c.0)
    ],
  )

  e_half : (j : ℕ) → e j / 2 ≡ at darts (j / 2) / 2
  e_half j =
      let c = cases_e j in
      elim c.1 [
        | inl even ↦ let half : j / 2 ≡ c.0 = omega (arith, even.0) in ap (λ x. x / 2) even.1 ∙ ap (λ i. at darts i / 2) (sym half)
        | inr odd ↦ let half : j / 2 ≡ c.0 = omega (arith, odd.0) in ap (λ x. x / 2) odd.1 ∙ half_reverse (at darts c.0) ∙ ap (λ i. at darts i / 2) (sym half)
      ]

  e_apart : (i j : ℕ) → i < 2 * length part → j < 2 * length part → e i ≡ e j → i ≡ j
  e_apart i j i_in j_in same =
      let ci = cases_e i in
      let cj = cases_e j in
      let halves : i / 2 ≡ j / 2 = is.segments_apart (i / 2) (j / 2) (omega (arith, i_in, size)) (omega (arith, j_in, size)) (sym (e_half i) ∙ ap (λ x. x / 2) same ∙ e_half j) in
      elim ci.1 [
        | inl even_i ↦ elim cj.1 [
          | inl even_j ↦ omega (arith, halves, even_i.0, even_j.0)
          | inr odd_j ↦
              let one : ci.0 ≡ cj.0 = omega (arith, halves, even_i.0, odd_j.0) in
              absurd (reverse_other (at darts cj.0) (sym odd_j.1 ∙ sym same ∙ even_i.1 ∙ ap (at darts) one))
        ]
        | inr odd_i ↦ elim cj.1 [
          | inl even_j ↦
              let one : cj.0 ≡ ci.0 = omega (arith, halves, odd_i.0, even_j.0) in
              absurd (reverse_other (at darts ci.0) (sym odd_i.1 ∙ same ∙ even_j.1 ∙ ap (at darts) one))
          | inr odd_j ↦ omega (arith, halves, odd_i.0, odd_j.0)
        ]
      ]

  pub part_along : IsPart ends part e
  part_along = record {
    below = λ j j_in.
        let c = cases_e j in
        let low = λ (i : ℕ) (i_in : i < length darts). is.darts_in i i_in in
        elim c.1 [
          | inl even ↦ let d_in = low c.0 (omega (arith, j_in, size, even.0)) in omega (arith, even.1, d_in)
          | inr odd ↦ let d_in = reverse_below (length ends) _ (low c.0 (omega (arith, j_in, size, odd.0))) in omega (arith, odd.1, d_in)
        ];
    apart = e_apart;
    reverses = λ j j_in.
        let c = cases_e j in
        elim c.1 [
          | inl even ↦ ap (λ k. e (reverse_of k)) even.0 ∙ ap e (reverse-even c.0) ∙ e_odd c.0 ∙ ap reverse_of (sym even.1)
          | inr odd ↦ ap (λ k. e (reverse_of k)) odd.0 ∙ ap e (reverse-odd c.0) ∙ e_even c.0 ∙ sym (ap reverse_of odd.1 ∙ reverse-reverse (at darts c.0))
        ];
    tails = λ j j_in.
        let c = cases_e j in
        elim c.1 [
          | inl even ↦
              ap (tail_of part) even.0 ∙ tail-even part c.0 ∙ ap (λ p. p.0) (ends_at-map _ darts c.0 (omega (arith, j_in, size, even.0))) ∙ ap (tail_of ends) (sym even.1)
          | inr odd ↦
              ap (tail_of part) odd.0 ∙ tail-odd part c.0 ∙ ap (λ p. p.1) (ends_at-map _ darts c.0 (omega (arith, j_in, size, odd.0))) ∙ ap (tail_of ends) (sym odd.1)
        ];
  }

module _ (ends : List (ℕ × ℕ)) (segments : List ℕ) (is : AreSegmentsApart ends segments) where
  abbrev f : ℕ → ℕ
  f = dart_listed segments

  abbrev listed : List (ℕ × ℕ)
  listed = ends_listed ends segments

  f_even : (i : ℕ) → f (2 * i) ≡ 2 * at segments i
  f_even i =
      let half : (2 * i) / 2 ≡ i = omega arith in
      let bit : (2 * i) % 2 ≡ 0 = omega arith in
      omega (arith, bit, ap (at segments) half)

  f_odd : (i : ℕ) → f (2 * i + 1) ≡ 2 * at segments i + 1
  f_odd i =
      let half : (2 * i + 1) / 2 ≡ i = omega arith in
      let bit : (2 * i + 1) % 2 ≡ 1 = omega arith in
      omega (arith, bit, ap (at segments) half)

  listed_size : length listed ≡ length segments
  listed_size = length-map segments (ends_at ends)

  pub part_listed : IsPart ends listed f
  part_listed = record {
    below = λ j j_in. let low = is.segments_in (j / 2) (omega (arith, j_in, listed_size)) in omega (arith, low);
    apart = λ i j i_in j_in same.
        let one = is.apart (i / 2) (j / 2) (omega (arith, i_in, listed_size)) (omega (arith, j_in, listed_size)) (omega (arith, same)) in
        omega (arith, same, one, ap (at segments) one);
    reverses = λ j j_in.
        let c = cases_dart j in
        elim c.1 [
          | inl even ↦ ap (λ k. f (reverse_of k)) even ∙ ap f (reverse-even c.0) ∙ f_odd c.0 ∙ sym (ap (λ k. reverse_of (f k)) even ∙ ap reverse_of (f_even c.0) ∙ reverse-even _)
          | inr odd ↦ ap (λ k. f (reverse_of k)) odd ∙ ap f (reverse-odd c.0) ∙ f_even c.0 ∙ sym (ap (λ k. reverse_of (f k)) odd ∙ ap reverse_of (f_odd c.0) ∙ reverse-odd _)
        ];
    tails = λ j j_in.
        let c = cases_dart j in
        elim c.1 [
          | inl even ↦
              ap (tail_of listed) even ∙ tail-even listed c.0 ∙ ap (λ p. p.0) (ends_at-map (ends_at ends) segments c.0 (omega (arith, j_in, listed_size, even)))
              ∙ sym (ap (λ k. tail_of ends (f k)) even ∙ ap (tail_of ends) (f_even c.0) ∙ tail-even ends _)
          | inr odd ↦
              ap (tail_of listed) odd ∙ tail-odd listed c.0 ∙ ap (λ p. p.1) (ends_at-map (ends_at ends) segments c.0 (omega (arith, j_in, listed_size, odd)))
              ∙ sym (ap (λ k. tail_of ends (f k)) odd ∙ ap (tail_of ends) (f_odd c.0) ∙ tail-odd ends _)
        ];
  }
