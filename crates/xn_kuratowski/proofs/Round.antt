-- Round a contracted segment: the faces at its node follow each other along one face of the rest.
use Rattle.std.proofs.Common.{◌≡◌, ◌≢◌, ℕ, zero, suc, ◌+◌, ◌-◌, ◌*◌, ◌<◌, ◌≤◌, inl, inr, Bool, eqb, ltb, List, length, refl, sym, ◌∙◌, ap, ap₂, subst, arith}
use Rattle.std.proofs.lemmas.Bool.{both_ways, cases_eq, cases_lt, cases_order, eq-eqb, eqb-true, eqb-false, ltb-true, lt-ltb}
use Rattle.xn_model.specs.Lists.{at}
use Rattle.xn_model.specs.Map.{IsFlat, IsMap, face_step, reverse_of, tail_of}
use Rattle.xn_model.specs.Permutation.{Permutes, Reaches, iterate}
use Rattle.xn_model.proofs.Darts.{cases_dart, reverse-even, reverse-odd, reverse_below, tail-even, tail-odd}
use Rattle.xn_ring.proofs.Orbits.{comes_back, first_below, iterate-add, iterate_apart, iterate_below, reaches_back, reaches_trans, within_round}
use Rattle.xn_ring.proofs.Renumbering.{Permutes-inverse, inverse_there, is_inverse}
use Rattle.xn_kuratowski.proofs.FacesAtNode.{different, first_on, first_own, first_tail, first_unique, inside, inside_is, last_is, long as face_long, long_some, low_tail, next_first, phi_permutes, psi_permutes, rest_map, rim_apart, size, spoke_reverse, spokes_apart, turn as rest_turn}
use Rattle.xn_kuratowski.proofs.Rim.{Adjacent, ContractedWebsHaveRims, AreStars, IsRim, web_merged}
use Rattle.xn_kuratowski.proofs.Smallest.{smallest, smallest_is}
use Rattle.xn_kuratowski.proofs.Stars.{second_at_x, web_second}

module _ (nodes : ℕ) (rest : List (ℕ × ℕ)) (x y : ℕ) (xs ys : List ℕ) (next : ℕ → ℕ) (is : AreStars nodes rest x y xs ys)
    (flat_map : IsFlat (record { nodes = nodes; ends = web_merged rest x xs ys }) next) (several : 1 < length ys) where
  abbrev ends : List (ℕ × ℕ)
  ends = web_merged rest x xs ys

  abbrev n : ℕ
  n = 2 * length ends

  abbrev R : ℕ
  R = 2 * length rest

  abbrev map : IsMap nodes ends next
  map = flat_map.is_map

  abbrev phi : ℕ → ℕ
  phi = face_step next

  abbrev turn : ℕ → ℕ
  turn = rest_turn nodes rest x y xs ys next is flat_map several

  abbrev psi : ℕ → ℕ
  psi = face_step turn

  abbrev FirstRest : ℕ → ℕ → Type 0
  FirstRest e z = (k : ℕ) × (iterate next k e ≡ z) × (z < R) × ((i : ℕ) → i < k → R ≤ iterate next i e)

  abbrev long : ℕ → ℕ
  long d = face_long nodes rest x y xs ys next is flat_map several d

  -- ---- from dart to dart round x

  inverse : (g : ℕ → ℕ) × ((d : ℕ) → d < n → g (next d) ≡ d)
  inverse = inverse_there n next map.permutes

  abbrev back : ℕ → ℕ
  back = inverse.0

  back_permutes : Permutes n back
  back_permutes = Permutes-inverse n next back map.permutes inverse.1

  undone : (d : ℕ) → d < n → next (back d) ≡ d
  undone = (is_inverse n next back map.permutes inverse.1).undone

  module _ (s : ℕ) (s_in : s < n) (s_at : tail_of ends s ≡ x) where
    abbrev spoke : ℕ → ℕ
    spoke i = iterate back i s

    spoke_in : (i : ℕ) → (spoke i < n) × (tail_of ends (spoke i) ≡ x)
    spoke_in zero = (s_in, s_at)
    spoke_in (suc i) =
        let one = spoke_in i in
        let below = back_permutes.below (spoke i) one.0 in
        (below, sym (map.same_node (back (spoke i)) below) ∙ ap (tail_of ends) (undone (spoke i) one.0) ∙ one.1)

    spoke_turn : (i : ℕ) → next (spoke (suc i)) ≡ spoke i
    spoke_turn i = undone (spoke i) (spoke_in i).0

    -- the first time that they come round
    abbrev comes_round : ℕ → Bool
    comes_round j = eqb (iterate back (suc j) s) s

    abbrev count : ℕ
    count = suc (smallest n comes_round)

    round_is : (iterate back count s ≡ s) × ((i : ℕ) → suc i < count → iterate back (suc i) s ≢ s)
    round_is =
        let round = comes_back n back back_permutes s s_in in
        let found = smallest_is n comes_round round.0 round.1 (eq-eqb _ _ round.2) in
        (eqb-true _ _ found.0, λ i low. eqb-false _ _ (found.1 i (omega (arith, low))))

    spoke_round : (i : ℕ) → spoke (i + count) ≡ spoke i
    spoke_round i = iterate-add back i count s ∙ ap (iterate back i) round_is.0

    spoke_once : (i j : ℕ) → i < count → j < count → spoke i ≡ spoke j → i ≡ j
    spoke_once i j i_in j_in same = elim (cases_order i j) [
      | inl equal ↦ equal
      | inr (inl less) ↦ absurd (never i j less j_in same)
      | inr (inr more) ↦ absurd (never j i more i_in (sym same))
    ]
      where
        never : (i j : ℕ) → i < j → j < count → spoke i ≡ spoke j → ⊥
        never i j less j_in same =
            let k = j - suc i in
            let sum : j ≡ i + suc k = omega (arith, less) in
            let home' : s ≡ iterate back (suc k) s = iterate_apart n back back_permutes i s (iterate back (suc k) s) s_in (iterate_below n back back_permutes (suc k) s s_in)
            (same ∙ ap (λ t. iterate back t s) sum ∙ iterate-add back i (suc k) s) in
            round_is.1 k (omega (arith, j_in, less)) (sym home')

    spoke_all : (d : ℕ) → d < n → tail_of ends d ≡ x → (i : ℕ) × (i < count) × (spoke i ≡ d)
    spoke_all d d_in d_at =
        let there = ((is_inverse n next back map.permutes inverse.1).walks s d s_in d_in).1 (map.one_ring s d s_in d_in (s_at ∙ sym d_at)) in
        let found = within_round n back back_permutes s (smallest n comes_round) round_is.0 there.0 in
        (found.0, omega (arith, found.1), found.2 ∙ there.1)

    -- ---- places

    abbrev gap : ℕ → ℕ
    gap i = long (spoke i) - 1

    abbrev place : ℕ → ℕ
    place zero = 0
    place (suc i) = place i + gap i

    gap_long : (i : ℕ) → suc (gap i) ≡ long (spoke i)
    gap_long i = let one = spoke_in i in let some = (long_some nodes rest x y xs ys next is flat_map several) (spoke i) one.0 one.1 in omega (arith, some)

    place_round : (i : ℕ) → place (i + count) ≡ place i + place count
    place_round zero = let z : 0 + count ≡ count = omega arith in let one : place count ≡ 0 + place count = omega arith in ap place z ∙ one
    place_round (suc i) =
        let on : suc i + count ≡ suc (i + count) = omega arith in
        let same : gap (i + count) ≡ gap i = ap (λ d. long d - 1) (spoke_round i) in
        let before = place_round i in
        ap place on ∙ omega (arith, before, same)

    place_rise : (i j : ℕ) → i ≤ j → place i ≤ place j
    place_rise i zero low = let z : i ≡ 0 = omega (arith, low) in let e = ap place z in omega (arith, e)
    place_rise i (suc j) low = elim (cases_eq i (suc j)) [
      | inl same ↦ let e = ap place same in omega (arith, e)
      | inr other ↦ let before = place_rise i j (omega (arith, low, other)) in omega (arith, before)
    ]

    -- the spoke in whose gap a place is
    owner : (m j : ℕ) → j < place m → (i : ℕ) × (i < m) × (place i ≤ j) × (j < place (suc i))
    owner zero j low = absurd (omega (arith, low))
    owner (suc m) j low = elim (cases_lt j (place m)) [
      | inl before ↦ let found = owner m j before in (found.0, omega (arith, found.1), found.2, found.3)
      | inr here ↦ (m, omega arith, here, low)
    ]

    module _ (z : ℕ) (first : FirstRest (reverse_of s) z) where
      abbrev dart : ℕ → ℕ
      dart j = iterate psi j z

      dart_low : (j : ℕ) → dart j < R
      dart_low j = iterate_below R psi (psi_permutes nodes rest x y xs ys next is flat_map several) j z first.2

      -- the dart at the place of each spoke
      at_place : (i : ℕ) → FirstRest (reverse_of (spoke i)) (dart (place i))
      at_place zero = first
      at_place (suc i) =
          let one = spoke_in i in
          let two = spoke_in (suc i) in
          let there = (next_first nodes rest x y xs ys next is flat_map several) (spoke i) one.0 one.1 (dart (place i)) (spoke (suc i)) two.0 (spoke_turn i) (at_place i) in
          let sum : gap i + place i ≡ place i + gap i = omega arith in
          let P : ℕ → Type 0 = λ t. FirstRest (reverse_of (spoke (suc i))) t in
          subst P (sym (iterate-add psi (gap i) (place i) z) ∙ ap (λ t. iterate psi t z) sum) there

      -- the darts in its gap are of its face
      in_gap : (i j : ℕ) → place i ≤ j → j < place (suc i) → dart j ≡ iterate phi (suc (j - place i)) (spoke i)
      in_gap i j low high =
          let one = spoke_in i in
          let k = j - place i in
          let sum : j ≡ k + place i = omega (arith, low) in
          let less : suc k < long (spoke i) = let g = gap_long i in omega (arith, g, low, high) in
          ap (λ t. iterate psi t z) sum ∙ iterate-add psi k (place i) z ∙ (inside_is nodes rest x y xs ys next is flat_map several) (spoke i) one.0 one.1 (dart (place i)) (at_place i) k less

      abbrev l : ℕ
      l = place count

      once_dart : (i j : ℕ) → i < l → j < l → dart i ≡ dart j → i ≡ j
      once_dart i j i_in j_in same =
          let a = owner count i i_in in
          let b = owner count j j_in in
          let one = in_gap a.0 i a.2 a.3 in
          let two = in_gap b.0 j b.2 b.3 in
          let a_at = spoke_in a.0 in
          let b_at = spoke_in b.0 in
          let da = spoke a.0 in
          let db = spoke b.0 in
          let ea = iterate phi (suc (i - place a.0)) da in
          let eb = iterate phi (suc (j - place b.0)) db in
          let meet : ea ≡ eb = sym one ∙ same ∙ two in
          let faces : Reaches phi da db = reaches_trans phi da eb db (suc (i - place a.0), meet)
          (reaches_back n phi (phi_permutes nodes rest x y xs ys next is flat_map several) db eb b_at.0 (suc (j - place b.0), refl)) in
          let spokes_same = (spokes_apart nodes rest x y xs ys next is flat_map several) da db a_at.0 b_at.0 a_at.1 b_at.1 faces in
          let owners : a.0 ≡ b.0 = spoke_once a.0 b.0 a.1 b.1 spokes_same in
          let starts : place a.0 ≡ place b.0 = ap place owners in
          let g = gap_long a.0 in
          let ends_a : place (suc a.0) ≡ place (suc b.0) = ap (λ t. place (suc t)) owners in
          elim (cases_order i j) [
            | inl equal ↦ equal
            | inr (inl less) ↦
                absurd ((different nodes rest x y xs ys next is flat_map several) da a_at.0 a_at.1 (i - place a.0) (j - place a.0) (omega (arith, less, a.2))
                (omega (arith, g, b.3, ends_a, starts, a.2, less))
                (meet ∙ ap (λ t. iterate phi (suc (j - place b.0)) t) (sym spokes_same) ∙ ap (λ t. iterate phi (suc (j - t)) da) (sym starts)))
            | inr (inr more) ↦
                absurd ((different nodes rest x y xs ys next is flat_map several) da a_at.0 a_at.1 (j - place a.0) (i - place a.0) (omega (arith, more, b.2, starts)) (omega (arith, g, a.3, a.2, more))
                (sym (meet ∙ ap (λ t. iterate phi (suc (j - place b.0)) t) (sym spokes_same) ∙ ap (λ t. iterate phi (suc (j - t)) da) (sym starts))))
          ]

      dart_reaches : (i j : ℕ) → i ≤ j → Reaches psi (dart i) (dart j)
      dart_reaches i j low =
          let sum : j - i + i ≡ j = omega (arith, low) in
          (j - i, sym (iterate-add psi (j - i) i z) ∙ ap (λ t. iterate psi t z) sum)

      abbrev rim : ℕ → ℕ
      rim j = tail_of rest (dart j)

      rim_once : (i j : ℕ) → i < l → j < l → rim i ≡ rim j → i ≡ j
      rim_once i j i_in j_in same = elim (cases_lt i j) [
        | inl less ↦ once_dart i j i_in j_in ((rim_apart nodes rest x y xs ys next is flat_map several) (dart i) (dart j) (dart_low i) (dart_low j) same (dart_reaches i j (omega (arith, less))))
        | inr more ↦ sym (once_dart j i j_in i_in ((rim_apart nodes rest x y xs ys next is flat_map several) (dart j) (dart i) (dart_low j) (dart_low i) (sym same) (dart_reaches j i more)))
      ]

      dart_round : dart l ≡ z
      dart_round =
          let there = at_place count in
          let P : ℕ → Type 0 = λ e. FirstRest (reverse_of e) (dart l) in
          (first_unique nodes rest x y xs ys next is flat_map several) (reverse_of s) (dart l) z (subst P round_is.0 there) first

      rim_follow : (j : ℕ) → Adjacent rest (rim j) (rim (suc j))
      rim_follow j =
          let e = dart j in
          let e_low = dart_low j in
          let head : tail_of rest (psi e) ≡ tail_of rest (reverse_of e) = (rest_map nodes rest x y xs ys next is flat_map several).same_node (reverse_of e) (reverse_below (length rest) e e_low) in
          let c = cases_dart e in
          let s_low : c.0 < length rest = omega (arith, c.1, e_low) in (
            c.0,
            s_low,
            elim c.1 [
              | inl even ↦ inl (ap₂ (λ a b. (a, b)) (sym (tail-even rest c.0) ∙ ap (tail_of rest) (sym even))
                  (sym (tail-odd rest c.0) ∙ ap (tail_of rest) (sym (ap reverse_of even ∙ reverse-even c.0)) ∙ sym head))
              | inr odd ↦ inr (ap₂ (λ a b. (a, b)) (sym (tail-even rest c.0) ∙ ap (tail_of rest) (sym (ap reverse_of odd ∙ reverse-odd c.0)) ∙ sym head)
                  (sym (tail-odd rest c.0) ∙ ap (tail_of rest) (sym odd)))
            ],
          )

      place_head : (i : ℕ) → rim (place i) ≡ tail_of ends (reverse_of (spoke i))
      place_head i =
          let one = spoke_in i in
          let far = (spoke_reverse nodes rest x y xs ys next is flat_map several) (spoke i) one.0 one.1 in
          (low_tail nodes rest x y xs ys next is flat_map several) (dart (place i)) (dart_low (place i)) ∙ (first_tail nodes rest x y xs ys next is flat_map several)
          (reverse_of (spoke i)) (dart (place i)) far.1 (at_place i)

      rim_is : 0 < l → IsRim rest ends next x l count rim spoke place
      rim_is some = record {
        some = some;
        once = rim_once;
        rim_round = λ j. ap (tail_of rest) (iterate-add psi j l z ∙ ap (iterate psi j) dart_round);
        follow = rim_follow;
        spokes_some = omega arith;
        spokes_in = spoke_in;
        spokes_once = spoke_once;
        spokes_round = spoke_round;
        all = spoke_all;
        turn = spoke_turn;
        places = place_head;
        rise = λ i. omega arith;
        place_round = place_round;
      }

    -- ---- some gap isn't empty, so there is a first dart

    -- with an empty gap two spokes lead to one node
    empty_gap : (i : ℕ) → gap i ≡ 0 → tail_of ends (reverse_of (spoke (suc i))) ≡ tail_of ends (reverse_of (spoke i))
    empty_gap i none =
        let one = spoke_in i in
        let two = spoke_in (suc i) in
        let far = (spoke_reverse nodes rest x y xs ys next is flat_map several) (spoke i) one.0 one.1 in
        let single : long (spoke i) ≡ 1 = let g = gap_long i in omega (arith, g, none) in
        let last = (last_is nodes rest x y xs ys next is flat_map several) (spoke i) one.0 one.1 (spoke (suc i)) two.0 (spoke_turn i) in
        ap (tail_of ends) (sym last ∙ ap (λ k. iterate phi k (spoke i)) single) ∙ map.same_node (reverse_of (spoke i)) far.1

    -- two heads differ
    two_heads : ((i : ℕ) → i < count → gap i ≡ 0) → ⊥
    two_heads none =
        let e = λ (k : ℕ). 2 * (length rest + (length xs + k)) in
        let head : (k : ℕ) → k < length ys → tail_of ends (reverse_of (e k)) ≡ at ys k = λ k k_in.
        ap (tail_of ends) (reverse-even (length rest + (length xs + k))) ∙ tail-odd ends (length rest + (length xs + k)) ∙ ap (λ p. p.1) (web_second nodes rest x y xs ys is k k_in) in
        let one = spoke_all (e 0) (omega (arith, (size nodes rest x y xs ys next is flat_map several), several)) (second_at_x nodes rest x y xs ys is 0 (omega (arith, several))) in
        let two = spoke_all (e 1) (omega (arith, (size nodes rest x y xs ys next is flat_map several), several)) (second_at_x nodes rest x y xs ys is 1 several) in
        let first_of : (i : ℕ) → i < count → tail_of ends (reverse_of (spoke i)) ≡ tail_of ends (reverse_of s) = λ i i_in. all_same i i_in in
        let same : at ys 0 ≡ at ys 1 =
        sym (head 0 (omega (arith, several))) ∙ ap (λ t. tail_of ends (reverse_of t)) (sym one.2) ∙ first_of one.0 one.1 ∙ sym (first_of two.0 two.1) ∙ ap
        (λ t. tail_of ends (reverse_of t)) two.2 ∙ head 1 several in
        let e' = is.y_heads.once 0 1 (omega (arith, several)) several same in
        omega (arith, e')
      where
        all_same : (i : ℕ) → i < count → tail_of ends (reverse_of (spoke i)) ≡ tail_of ends (reverse_of s)
        all_same zero i_in = refl
        all_same (suc i) i_in = empty_gap i (none i (omega (arith, i_in))) ∙ all_same i (omega (arith, i_in))

    some_gap : (i : ℕ) × (i < count) × (0 < gap i)
    some_gap = elim (first_below count (λ i. ltb 0 (gap i))) [
      | inl found ↦ (found.0, found.1, ltb-true _ _ found.2)
      | inr none ↦ absurd (two_heads (λ i i_in. elim (cases_eq (gap i) 0) [
        | inl empty ↦ empty
        | inr some ↦ absurd (both_ways _ (none i i_in) (lt-ltb 0 (gap i) (omega (arith, some))))
      ]))
    ]

    long_round : 0 < place count
    long_round =
        let g = some_gap in
        let up = place_rise (suc g.0) count (omega (arith, g.1)) in
        omega (arith, up, g.2)

    -- from a full gap the first darts go on, round to s
    first_from : (i : ℕ) → 0 < gap i → (j : ℕ) → (z : ℕ) × FirstRest (reverse_of (spoke (suc (i + j)))) z
    first_from i some zero =
        let d = spoke i in
        let one = spoke_in i in
        let two = spoke_in (suc i) in
        let g = gap_long i in
        let z = phi d in
        let z_low : z < R = (inside nodes rest x y xs ys next is flat_map several) d one.0 one.1 0 (omega (arith, g, some)) in
        let far = (spoke_reverse nodes rest x y xs ys next is flat_map several) d one.0 one.1 in
        let there = (next_first nodes rest x y xs ys next is flat_map several) d one.0 one.1 z (spoke (suc i)) two.0 (spoke_turn i)
        ((first_on nodes rest x y xs ys next is flat_map several) (reverse_of d) z far.0 ((first_own nodes rest x y xs ys next is flat_map several) z z_low)) in
        let P : ℕ → Type 0 = λ t. (w : ℕ) × FirstRest (reverse_of (spoke (suc t))) w in
        let sum : i ≡ i + 0 = omega arith in
        subst P sum (iterate psi (long d - 1) z, there)
    first_from i some (suc j) =
        let before = first_from i some j in
        let k = suc (i + j) in
        let one = spoke_in k in
        let two = spoke_in (suc k) in
        let there = (next_first nodes rest x y xs ys next is flat_map several) (spoke k) one.0 one.1 before.0 (spoke (suc k)) two.0 (spoke_turn k) before.1 in
        let P : ℕ → Type 0 = λ t. (w : ℕ) × FirstRest (reverse_of (spoke (suc t))) w in
        let sum : k ≡ i + suc j = omega arith in
        subst P sum (iterate psi (long (spoke k) - 1) before.0, there)

    first_at_s : (z : ℕ) × FirstRest (reverse_of s) z
    first_at_s =
        let g = some_gap in
        let j = count - suc g.0 in
        let found = first_from g.0 g.2 j in
        let sum : suc (g.0 + j) ≡ count = omega (arith, g.1) in
        let P : ℕ → Type 0 = λ e. FirstRest (reverse_of e) found.0 in
        (found.0, subst P (ap (λ t. iterate back t s) sum ∙ round_is.0) found.1)

pub have_rims : ContractedWebsHaveRims
have_rims nodes rest x y xs ys next is flat_map several s s_in s_at =
    let first = first_at_s nodes rest x y xs ys next is flat_map several s s_in s_at in (
      place nodes rest x y xs ys next is flat_map several s s_in s_at (count nodes rest x y xs ys next is flat_map several s s_in s_at),
      count nodes rest x y xs ys next is flat_map several s s_in s_at,
      rim nodes rest x y xs ys next is flat_map several s s_in s_at first.0 first.1,
      spoke nodes rest x y xs ys next is flat_map several s s_in s_at,
      place nodes rest x y xs ys next is flat_map several s s_in s_at,
      rim_is nodes rest x y xs ys next is flat_map several s s_in s_at first.0 first.1 (long_round nodes rest x y xs ys next is flat_map several s s_in s_at),
      refl,
      refl,
    )
