-- A rim on which all neighbours of one node lie between two next neighbours of the other: in some flat map their darts stand side by side.
use Rattle.std.proofs.Common.{◌≡◌, ◌≢◌, ℕ, zero, suc, ◌+◌, ◌-◌, ◌*◌, ◌/◌, ◌%◌, ◌<◌, ◌≤◌, ◌⊎◌, inl, inr, Bool, true, false, cond, eqb, List, length, refl, sym, ◌∙◌, ap, arith}
use Rattle.std.proofs.lemmas.Bool.{both_ways, cases_Bool, cases_eq, cases_lt, cond-true, cond-false, eq-eqb, ne_eqb, le-leb, leb-true, false_from_ne_true}
use Rattle.xn_model.specs.Graph.{ends_at}
use Rattle.xn_model.specs.Lists.{at}
use Rattle.xn_model.specs.Map.{MeetsEuler, IsFlat, IsMap, reverse_of, tail_of}
use Rattle.xn_model.specs.Permutation.{iterate}
use Rattle.xn_model.proofs.Darts.{cases_dart, reverse-even, reverse-odd, tail-even, tail-odd}
use Rattle.xn_genus.specs.Part.{IsPart}
use Rattle.xn_genus.proofs.Part.{components_renumbered, faces_renumbered, map_renumbered}
use Rattle.xn_surgery.specs.Splitting.{InArc}
use Rattle.xn_kuratowski.proofs.Rim.{HasArcs, AreStars, is_second, web_merged}
use Rattle.xn_kuratowski.proofs.RimMinors.{IsHead}
use Rattle.xn_kuratowski.proofs.Stars.{dart_at_x, first_at_x, second_at_x, size_merged, web_first, web_second}

-- ---- two segments with the same ends change their names

module _ (ends : List (ℕ × ℕ)) (s t : ℕ) (s_in : s < length ends) (t_in : t < length ends) (same : ends_at ends s ≡ ends_at ends t) (other : s ≢ t) where
  abbrev pub swapped : ℕ → ℕ
  swapped d = cond (eqb (d / 2) s) (2 * t + d % 2) (cond (eqb (d / 2) t) (2 * s + d % 2) d)

  pub cases_swapped : (d : ℕ) → ((d / 2 ≡ s) × (swapped d ≡ 2 * t + d % 2)) ⊎ (((d / 2 ≡ t) × (swapped d ≡ 2 * s + d % 2)) ⊎ ((d / 2 ≢ s) × (d / 2 ≢ t) × (swapped d ≡ d)))
  cases_swapped d = elim (cases_eq (d / 2) s) [
    | inl first ↦ inl (first, cond-true _ _ _ (eq-eqb _ _ first))
    | inr not_first ↦ elim (cases_eq (d / 2) t) [
      | inl second ↦ inr (inl (second, cond-false _ _ _ (ne_eqb _ _ not_first) ∙ cond-true _ _ _ (eq-eqb _ _ second)))
      | inr neither ↦ inr (inr (not_first, neither, cond-false _ _ _ (ne_eqb _ _ not_first) ∙ cond-false _ _ _ (ne_eqb _ _ neither)))
    ]
  ]

  pub swapped_in : (d : ℕ) → d < 2 * length ends → swapped d < 2 * length ends
  swapped_in d d_in = omega (arith, d_in, s_in, t_in, cases_swapped d)

  pub swapped_twice : (d : ℕ) → swapped (swapped d) ≡ d
  swapped_twice d = omega (arith, other, cases_swapped d, cases_swapped (swapped d))

  swapped_reverse : (d : ℕ) → swapped (reverse_of d) ≡ reverse_of (swapped d)
  swapped_reverse d =
      let c = cases_dart d in
      let one = cases_swapped d in
      elim c.1 [
        | inl even ↦
            let r : reverse_of d ≡ 2 * c.0 + 1 = ap reverse_of even ∙ reverse-even c.0 in
            let two = cases_swapped (reverse_of d) in
            let m = swapped d / 2 in
            let m_is : swapped d ≡ 2 * m = omega (arith, one, even) in
            let back = ap reverse_of m_is ∙ reverse-even m in
            omega (arith, one, two, even, r, m_is, back, other)
        | inr odd ↦
            let r : reverse_of d ≡ 2 * c.0 = ap reverse_of odd ∙ reverse-odd c.0 in
            let two = cases_swapped (reverse_of d) in
            let m = swapped d / 2 in
            let m_is : swapped d ≡ 2 * m + 1 = omega (arith, one, odd) in
            let back = ap reverse_of m_is ∙ reverse-odd m in
            omega (arith, one, two, odd, r, m_is, back, other)
      ]

  pub swapped_tail : (d : ℕ) → tail_of ends d ≡ tail_of ends (swapped d)
  swapped_tail d =
      let c = cases_dart d in
      let one = cases_swapped d in
      let tails : (a b : ℕ) → ends_at ends a ≡ ends_at ends b → (e : ℕ) → (d ≡ 2 * a) ⊎ (d ≡ 2 * a + 1) → swapped d ≡ 2 * b + d % 2 →
      tail_of ends d ≡ tail_of ends (swapped d) = λ a b alike e which is. elim which [
        | inl even ↦
            let there : swapped d ≡ 2 * b = omega (arith, even, is) in
            ap (tail_of ends) even ∙ tail-even ends a ∙ ap (λ p. p.0) alike ∙ sym (tail-even ends b) ∙ ap (tail_of ends) (sym there)
        | inr odd ↦
            let there : swapped d ≡ 2 * b + 1 = omega (arith, odd, is) in
            ap (tail_of ends) odd ∙ tail-odd ends a ∙ ap (λ p. p.1) alike ∙ sym (tail-odd ends b) ∙ ap (tail_of ends) (sym there)
      ] in
      elim one [
        | inl first ↦ tails s t same d (elim c.1 [ inl even ↦ inl (omega (arith, even, first.0)) | inr odd ↦ inr (omega (arith, odd, first.0)) ]) first.1
        | inr (inl second) ↦ tails t s (sym same) d (elim c.1 [ inl even ↦ inl (omega (arith, even, second.0)) | inr odd ↦ inr (omega (arith, odd, second.0)) ]) second.1
        | inr (inr neither) ↦ ap (tail_of ends) (sym neither.2)
      ]

  module _ (nodes : ℕ) (next : ℕ → ℕ) (map : IsMap nodes ends next) (flat : MeetsEuler nodes ends next) where
    abbrev pub renamed : ℕ → ℕ
    renamed d = swapped (next (swapped d))

    part : IsPart ends ends swapped
    part = record {
      below = swapped_in;
      apart = λ i j i_in j_in equal. sym (swapped_twice i) ∙ ap swapped equal ∙ swapped_twice j;
      reverses = λ j j_in. swapped_reverse j;
      tails = λ j j_in. swapped_tail j;
    }

    below : (j : ℕ) → j < 2 * length ends → renamed j < 2 * length ends
    below j j_in = swapped_in _ (map.permutes.below _ (swapped_in j j_in))

    turns : (j : ℕ) → j < 2 * length ends → swapped (renamed j) ≡ next (swapped j)
    turns j j_in = swapped_twice (next (swapped j))

    pub renamed_map : IsMap nodes ends renamed
    renamed_map = map_renumbered nodes ends ends swapped next renamed map part refl below turns

    pub renamed_flat : MeetsEuler nodes ends renamed
    renamed_flat =
        omega (arith, flat, faces_renumbered nodes ends ends swapped next renamed map part refl below turns, components_renumbered nodes ends ends swapped next renamed map part refl below turns)

-- ---- the darts round a node

pub record IsRing (ends : List (ℕ × ℕ)) (next : ℕ → ℕ) (x n : ℕ) (spokes : ℕ → ℕ) : Type 0 where
  pub some : 0 < n
  pub inside : (i : ℕ) → (spokes i < 2 * length ends) × (tail_of ends (spokes i) ≡ x)
  pub once : (i j : ℕ) → i < n → j < n → spokes i ≡ spokes j → i ≡ j
  pub one_ring : (i : ℕ) → spokes (i + n) ≡ spokes i
  pub all : (d : ℕ) → d < 2 * length ends → tail_of ends d ≡ x → (i : ℕ) × (i < n) × (spokes i ≡ d)
  pub turn : (i : ℕ) → next (spokes (suc i)) ≡ spokes i

-- from the last on
pub ring_from_last : (ends : List (ℕ × ℕ)) (next : ℕ → ℕ) (x n : ℕ) (spokes : ℕ → ℕ) → IsRing ends next x n spokes → IsRing ends next x n (λ i. spokes (i + (n - 1)))
ring_from_last ends next x n spokes ring = record {
  some = ring.some;
  inside = λ i. ring.inside (i + (n - 1));
  once = λ i j i_in j_in same.
      let one = lowered i i_in in
      let two = lowered j j_in in
      let e = ring.once one.0 two.0 one.1 two.1 (one.2 ∙ same ∙ sym two.2) in
      omega (arith, e, one.3, two.3, i_in, j_in);
  one_ring = λ i.
      let sum : i + n + (n - 1) ≡ i + (n - 1) + n = omega arith in
      ap spokes sum ∙ ring.one_ring (i + (n - 1));
  all = λ d d_in d_at.
      let found = ring.all d d_in d_at in
      elim (cases_eq found.0 (n - 1)) [
        | inl last ↦ let sum : 0 + (n - 1) ≡ found.0 = omega (arith, last) in (0, ring.some, ap spokes sum ∙ found.2)
        | inr before ↦
            let i = suc found.0 in
            let sum : i + (n - 1) ≡ found.0 + n = let some = ring.some in omega (arith, some) in
            (i, omega (arith, found.1, before), ap spokes sum ∙ ring.one_ring found.0 ∙ found.2)
      ];
  turn = λ i. let sum : suc i + (n - 1) ≡ suc (i + (n - 1)) = omega arith in ap (λ t. next (spokes t)) sum ∙ ring.turn (i + (n - 1));
}
  where
    lowered : (i : ℕ) → i < n → (k : ℕ) × (k < n) × (spokes k ≡ spokes (i + (n - 1))) × (((i ≡ 0) × (k ≡ n - 1)) ⊎ (i ≡ suc k))
    lowered zero i_in = let sum : n - 1 ≡ 0 + (n - 1) = omega arith in (n - 1, omega (arith, i_in), ap spokes sum, inl (refl, refl))
    lowered (suc k) i_in = let sum : k + n ≡ suc k + (n - 1) = omega (arith, i_in) in (k, omega (arith, i_in), sym (ring.one_ring k) ∙ ap spokes sum, inr refl)

-- with two names changed
pub ring_renamed : (ends : List (ℕ × ℕ)) (next : ℕ → ℕ) (x n : ℕ) (spokes : ℕ → ℕ) → IsRing ends next x n spokes → (s t : ℕ) (s_in : s < length ends) (t_in : t < length ends)
    (same : ends_at ends s ≡ ends_at ends t) (other : s ≢ t) → IsRing ends (λ d. swapped ends s t s_in t_in same other (next (swapped ends s t s_in t_in same other d))) x n
    (λ i. swapped ends s t s_in t_in same other (spokes i))
ring_renamed ends next x n spokes ring s t s_in t_in same other =
    let τ = swapped ends s t s_in t_in same other in
    let twice = swapped_twice ends s t s_in t_in same other in
    record {
      some = ring.some;
      inside = λ i. let one = ring.inside i in (swapped_in ends s t s_in t_in same other _ one.0, sym (swapped_tail ends s t s_in t_in same other (spokes i)) ∙ one.1);
      once = λ i j i_in j_in equal. ring.once i j i_in j_in (sym (twice (spokes i)) ∙ ap τ equal ∙ twice (spokes j));
      one_ring = λ i. ap τ (ring.one_ring i);
      all = λ d d_in d_at.
          let found = ring.all (τ d) (swapped_in ends s t s_in t_in same other d d_in) (sym (swapped_tail ends s t s_in t_in same other d) ∙ d_at) in
          (found.0, found.1, ap τ found.2 ∙ twice d);
      turn = λ i. ap (λ e. τ (next e)) (twice (spokes (suc i))) ∙ ap τ (ring.turn i);
    }

-- where the darts of the second star are those from the first place on, they are an arc
module _ (nodes : ℕ) (rest : List (ℕ × ℕ)) (x : ℕ) (xs ys : List ℕ) (next : ℕ → ℕ) (n : ℕ) (spokes : ℕ → ℕ) (ring : IsRing (web_merged rest x xs ys) next x n spokes)
    (flat_map : IsFlat (record { nodes = nodes; ends = web_merged rest x xs ys }) next) (hi : ℕ) (hi_some : 1 < hi) (hi_in : hi ≤ n)
    (start : is_second rest xs (spokes 0) ≡ false) (second : (i : ℕ) → 0 < i → i < hi → is_second rest xs (spokes i) ≡ true)
    (rest_first : (i : ℕ) → hi ≤ i → i < n → is_second rest xs (spokes i) ≡ false) where
  abbrev last : ℕ
  last = hi - 1

  -- going on from the last
  down : (k : ℕ) → k ≤ last → iterate next k (spokes last) ≡ spokes (last - k)
  down zero low = ap spokes (let z : last ≡ last - 0 = omega arith in z)
  down (suc k) low =
      let before = down k (omega (arith, low)) in
      let on : last - k ≡ suc (last - suc k) = omega (arith, low) in
      ap next (before ∙ ap spokes on) ∙ ring.turn (last - suc k)

  pub ring_arcs : HasArcs nodes rest x xs ys
  ring_arcs = (
    next,
    flat_map,
    (
      spokes last,
      spokes 0,
      record {
        first_in = (ring.inside last).0;
        second_in = (ring.inside 0).0;
        first_at = (ring.inside last).1;
        second_at = (ring.inside 0).1;
        differ = λ same. let e = ring.once last 0 (omega (arith, hi_in, hi_some)) ring.some same in omega (arith, e, hi_some);
        arc = λ d d_in d_at. (arc_to d, arc_from d d_in d_at);
      },
    ),
  )
    where
      arc_to : (d : ℕ) → InArc next (spokes last) (spokes 0) d → is_second rest xs d ≡ true
      arc_to d arc = elim (cases_lt arc.0 last) [
        | inl low ↦
            let is = down arc.0 (omega (arith, low)) in
            ap (is_second rest xs) (sym arc.1 ∙ is) ∙ second (last - arc.0) (omega (arith, low)) (omega (arith, low, hi_some))
        | inr high ↦
            let z : last - last ≡ 0 = omega arith in
            absurd (arc.2 last high (down last (omega arith) ∙ ap spokes z))
      ]

      arc_from : (d : ℕ) → d < 2 * length (web_merged rest x xs ys) → tail_of (web_merged rest x xs ys) d ≡ x → is_second rest xs d ≡ true → InArc next (spokes last) (spokes 0) d
      arc_from d d_in d_at on =
          let found = ring.all d d_in d_at in
          let i = found.0 in
          let label : is_second rest xs (spokes i) ≡ true = ap (is_second rest xs) found.2 ∙ on in
          let some : 0 < i = elim (cases_eq i 0) [
            | inl none ↦ absurd (both_ways _ start (ap (λ t. is_second rest xs (spokes t)) (sym none) ∙ label))
            | inr more ↦ omega (arith, more)
          ] in
          let low : i < hi = elim (cases_lt i hi) [
            | inl less ↦ less
            | inr high ↦ absurd (both_ways _ (rest_first i high found.1) label)
          ] in
          let k = last - i in
          let back : last - k ≡ i = omega (arith, low) in (
            k,
            down k (omega arith) ∙ ap spokes back ∙ found.2,
            λ j j_low same.
                let there = down j (omega (arith, j_low)) in
                let e = ring.once (last - j) 0 (omega (arith, hi_in, hi_some)) ring.some (sym there ∙ same) in
                omega (arith, e, j_low, some, low),
          )

-- ---- a rim with all of one between two of the other

module _ (nodes : ℕ) (rest : List (ℕ × ℕ)) (x y : ℕ) (xs ys : List ℕ) (is : AreStars nodes rest x y xs ys) where
  abbrev ends : List (ℕ × ℕ)
  ends = web_merged rest x xs ys

  abbrev head : ℕ → ℕ
  head d = tail_of ends (reverse_of d)

  abbrev is_y : ℕ → Bool
  is_y d = is_second rest xs d

  size : length ends ≡ length rest + (length xs + length ys)
  size = size_merged nodes rest x y xs ys is

  -- what a dart at x is
  pub kind : (d : ℕ) → d < 2 * length ends → tail_of ends d ≡ x →
      ((k : ℕ) × (k < length xs) × (d ≡ 2 * (length rest + k)) × (head d ≡ at xs k) × (is_y d ≡ false))
      ⊎ ((k : ℕ) × (k < length ys) × (d ≡ 2 * (length rest + (length xs + k))) × (head d ≡ at ys k) × (is_y d ≡ true))
  kind d d_in d_at =
      let k = dart_at_x nodes rest x y xs ys is d d_in d_at in
      elim (cases_lt k.0 (length xs)) [
        | inl low ↦
            let s = length rest + k.0 in
            inl (
              k.0,
              low,
              k.2,
              ap (tail_of ends) (ap reverse_of k.2 ∙ reverse-even s) ∙ tail-odd ends s ∙ ap (λ p. p.1) (web_first nodes rest x y xs ys is k.0 low),
              false_from_ne_true _ (λ h. let high = leb-true _ _ h in omega (arith, high, k.2, low)),
            )
        | inr high ↦
            let j = k.0 - length xs in
            let j_in : j < length ys = omega (arith, k.1, high) in
            let s = length rest + (length xs + j) in
            let d_is : d ≡ 2 * s = omega (arith, k.2, high) in
            inr (
              j,
              j_in,
              d_is,
              ap (tail_of ends) (ap reverse_of d_is ∙ reverse-even s) ∙ tail-odd ends s ∙ ap (λ p. p.1) (web_second nodes rest x y xs ys is j j_in),
              le-leb _ _ (omega (arith, d_is)),
            )
      ]

  -- darts of one kind to one node are one
  pub one_dart : (d e : ℕ) → d < 2 * length ends → e < 2 * length ends → tail_of ends d ≡ x → tail_of ends e ≡ x → is_y d ≡ is_y e → head d ≡ head e → d ≡ e
  one_dart d e d_in e_in d_at e_at alike heads = elim (kind d d_in d_at) [
    | inl a ↦ elim (kind e e_in e_at) [
      | inl b ↦ let k = is.x_heads.once a.0 b.0 a.1 b.1 (sym a.3 ∙ heads ∙ b.3) in omega (arith, a.2, b.2, k)
      | inr b ↦ absurd (both_ways _ a.4 (alike ∙ b.4))
    ]
    | inr a ↦ elim (kind e e_in e_at) [
      | inl b ↦ absurd (both_ways _ b.4 (sym alike ∙ a.4))
      | inr b ↦ let k = is.y_heads.once a.0 b.0 a.1 b.1 (sym a.3 ∙ heads ∙ b.3) in omega (arith, a.2, b.2, k)
    ]
  ]

  pub x_head : (d : ℕ) → d < 2 * length ends → tail_of ends d ≡ x → is_y d ≡ false → IsHead xs (head d)
  x_head d d_in d_at label = elim (kind d d_in d_at) [ inl a ↦ (a.0, a.1, sym a.3) | inr b ↦ absurd (both_ways _ label b.4) ]

  pub y_head : (d : ℕ) → d < 2 * length ends → tail_of ends d ≡ x → is_y d ≡ true → IsHead ys (head d)
  y_head d d_in d_at label = elim (kind d d_in d_at) [ inl a ↦ absurd (both_ways _ a.4 label) | inr b ↦ (b.0, b.1, sym b.3) ]

  -- the dart to a head
  pub x_dart : (k : ℕ) → k < length xs → (d : ℕ) × (d < 2 * length ends) × (tail_of ends d ≡ x) × (is_y d ≡ false) × (head d ≡ at xs k)
  x_dart k k_in =
      let s = length rest + k in
      let d = 2 * s in
      let d_in : d < 2 * length ends = omega (arith, k_in, size) in
      let d_at = first_at_x nodes rest x y xs ys is k k_in in
      elim (kind d d_in d_at) [
        | inl a ↦ let k_is : a.0 ≡ k = omega (arith, a.2) in (d, d_in, d_at, a.4, a.3 ∙ ap (at xs) k_is)
        | inr b ↦ absurd (omega (arith, b.2, k_in))
      ]

  pub y_dart : (k : ℕ) → k < length ys → (d : ℕ) × (d < 2 * length ends) × (tail_of ends d ≡ x) × (is_y d ≡ true) × (head d ≡ at ys k)
  y_dart k k_in =
      let s = length rest + (length xs + k) in
      let d = 2 * s in
      let d_in : d < 2 * length ends = omega (arith, k_in, size) in
      let d_at = second_at_x nodes rest x y xs ys is k k_in in
      elim (kind d d_in d_at) [
        | inl a ↦ absurd (omega (arith, a.1, a.2))
        | inr b ↦ let k_is : b.0 ≡ k = omega (arith, b.2) in (d, d_in, d_at, b.4, b.3 ∙ ap (at ys) k_is)
      ]

  -- a dart of each kind to one node: their names may change
  pub pair_ends : (d e : ℕ) → d < 2 * length ends → e < 2 * length ends → tail_of ends d ≡ x → tail_of ends e ≡ x → is_y d ≡ false → is_y e ≡ true → head d ≡ head e →
      (d / 2 < length ends) × (e / 2 < length ends) × (ends_at ends (d / 2) ≡ ends_at ends (e / 2)) × (d / 2 ≢ e / 2) × (d ≡ 2 * (d / 2)) × (e ≡ 2 * (e / 2))
  pair_ends d e d_in e_in d_at e_at d_x e_y heads = elim (kind d d_in d_at) [
    | inr a ↦ absurd (both_ways _ d_x a.4)
    | inl a ↦ elim (kind e e_in e_at) [
      | inl b ↦ absurd (both_ways _ b.4 e_y)
      | inr b ↦
          let half_d : d / 2 ≡ length rest + a.0 = omega (arith, a.2) in
          let half_e : e / 2 ≡ length rest + (length xs + b.0) = omega (arith, b.2) in (
            omega (arith, d_in),
            omega (arith, e_in),
            ap (ends_at ends) half_d ∙ web_first nodes rest x y xs ys is a.0 a.1 ∙ ap (λ v. (x, v)) (sym a.3 ∙ heads ∙ b.3) ∙ sym
                (web_second nodes rest x y xs ys is b.0 b.1) ∙ ap (ends_at ends) (sym half_e),
            λ same. omega (arith, same, half_d, half_e, a.1),
            omega (arith, a.2),
            omega (arith, b.2),
          )
    ]
  ]

  -- a ring in which the second star's darts follow the start, but that the last may be one too, beside the first
  module _ (next : ℕ → ℕ) (n : ℕ) (spokes : ℕ → ℕ) (ring : IsRing ends next x n spokes) (flat_map : IsFlat (record { nodes = nodes; ends = ends }) next) (hi : ℕ) (hi_some : 1 < hi) (hi_in : hi ≤ n)
      (start : is_y (spokes 0) ≡ false) (second : (i : ℕ) → 0 < i → i < hi → is_y (spokes i) ≡ true) (rest_first : (i : ℕ) → hi ≤ i → suc i < n → is_y (spokes i) ≡ false)
      (last : hi < n → is_y (spokes (n - 1)) ≡ true → head (spokes (n - 1)) ≡ head (spokes 0)) where
    arcs_up_to : is_y (spokes (n - 1)) ≡ false ⊎ (hi ≡ n) → HasArcs nodes rest x xs ys
    arcs_up_to which = ring_arcs nodes rest x xs ys next n spokes ring flat_map hi hi_some hi_in start second (λ i high i_in. elim (cases_eq (suc i) n) [
      | inr before ↦ rest_first i high (omega (arith, i_in, before))
      | inl at_last ↦ elim which [
        | inl first ↦ let e : i ≡ n - 1 = omega (arith, at_last) in ap (λ t. is_y (spokes t)) e ∙ first
        | inr whole ↦ absurd (omega (arith, whole, high, i_in))
      ]
    ])

    -- the last one changes its name with the first, and the ring begins there
    arcs_round : hi < n → is_y (spokes (n - 1)) ≡ true → HasArcs nodes rest x xs ys
    arcs_round less label =
        let d = spokes 0 in
        let e = spokes (n - 1) in
        let d_is = ring.inside 0 in
        let e_is = ring.inside (n - 1) in
        let p = pair_ends d e d_is.0 e_is.0 d_is.1 e_is.1 start label (sym (last less label)) in
        let s = d / 2 in
        let t = e / 2 in
        let τ = swapped ends s t p.0 p.1 p.2 p.3 in
        let cases = cases_swapped ends s t p.0 p.1 p.2 p.3 in
        let renamed_ring = ring_renamed ends next x n spokes ring s t p.0 p.1 p.2 p.3 in
        let from_last = ring_from_last ends (λ c. τ (next (τ c))) x n (λ i. τ (spokes i)) renamed_ring in
        let flat' : IsFlat (record { nodes = nodes; ends = ends }) (λ c. τ (next (τ c))) = record {
          is_map = renamed_map ends s t p.0 p.1 p.2 p.3 nodes next flat_map.is_map flat_map.flat;
          flat = renamed_flat ends s t p.0 p.1 p.2 p.3 nodes next flat_map.is_map flat_map.flat;
        } in
        let e_to : τ e ≡ d = omega (arith, cases e, p.4, p.5, p.3) in
        let d_to : τ d ≡ e = omega (arith, cases d, p.4, p.5, p.3) in
        -- others keep their names
        let kept : (i : ℕ) → 0 < i → suc i < n → τ (spokes i) ≡ spokes i = λ i some i_in.
        let c = spokes i in
        let c_is = ring.inside i in
        let not_d : c ≢ d = λ same. omega (arith, ring.once i 0 (omega (arith, i_in)) ring.some same, some) in
        let not_e : c ≢ e = λ same. omega (arith, ring.once i (n - 1) (omega (arith, i_in)) (omega (arith, i_in)) same, i_in) in
        let even = dart_at_x nodes rest x y xs ys is c c_is.0 c_is.1 in
        omega (arith, cases c, p.4, p.5, not_d, not_e, even.2) in
        let place : (i : ℕ) → 0 < i → i < n → τ (spokes (i + (n - 1))) ≡ τ (spokes (i - 1)) = λ i some i_in.
        let sum : i + (n - 1) ≡ i - 1 + n = omega (arith, some, i_in) in
        ap τ (ap spokes sum ∙ ring.one_ring (i - 1)) in
        ring_arcs nodes rest x xs ys (λ c. τ (next (τ c))) n (λ i. τ (spokes (i + (n - 1)))) from_last flat' (suc hi) (omega (arith, hi_some)) (omega (arith, less))
        (let sum : 0 + (n - 1) ≡ n - 1 = omega arith in ap (λ i. is_y (τ (spokes i))) sum ∙ ap is_y e_to ∙ start)
        (λ i some low. ap is_y (place i some (omega (arith, low, less))) ∙ elim (cases_eq (i - 1) 0) [
          | inl none ↦ ap (λ j. is_y (τ (spokes j))) none ∙ ap is_y d_to ∙ label
          | inr more ↦ ap is_y (kept (i - 1) (omega (arith, more)) (omega (arith, low, less, some))) ∙ second (i - 1) (omega (arith, more)) (omega (arith, low, some))
        ])
        (λ i high i_in. ap is_y (place i (omega (arith, high)) i_in) ∙ ap is_y (kept (i - 1) (omega (arith, high, hi_some)) (omega (arith, i_in, high))) ∙ rest_first (i - 1)
        (omega (arith, high)) (omega (arith, i_in, high)))

    pub arcs_of_ring : HasArcs nodes rest x xs ys
    arcs_of_ring = elim (cases_eq hi n) [
      | inl whole ↦ arcs_up_to (inr whole)
      | inr part ↦ elim (cases_Bool (is_y (spokes (n - 1)))) [
        | inr first ↦ arcs_up_to (inl first)
        | inl label ↦ arcs_round (omega (arith, part, hi_in)) label
      ]
    ]
