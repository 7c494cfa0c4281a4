-- At the node of a contracted segment: each of its darts has a face of its own, along which a face of the rest goes on.
use Rattle.std.proofs.Common.{◌≡◌, ◌≢◌, ℕ, zero, suc, ◌+◌, ◌-◌, ◌*◌, ◌<◌, ◌≤◌, ◌⊎◌, inl, inr, Bool, true, false, eqb, List, [], ◌∷◌, length, refl, sym, ◌∙◌, ap, subst, arith}
use Rattle.std.proofs.lemmas.Bool.{both_ways, cases_eq, cases_lt, cases_order, eq-eqb, eqb-true, eqb-false, ne_eqb, or_from}
use Rattle.xn_model.specs.Graph.{EndsIn, ends_at}
use Rattle.xn_model.specs.Lists.{has}
use Rattle.xn_model.specs.Map.{MeetsEuler, IsFlat, IsMap, Joined, face_step, is_lone, reverse_of, tail_of}
use Rattle.xn_model.specs.Permutation.{Permutes, Reaches, iterate}
use Rattle.xn_model.proofs.Darts.{cases_dart, reverse-even, reverse-odd, reverse-reverse, reverse_below, tail-even, tail-odd}
use Rattle.xn_ring.proofs.Orbits.{comes_back, iterate-add, iterate_apart, iterate_below}
use Rattle.xn_genus.specs.Part.{IsPart, PassesOver}
use Rattle.xn_genus.proofs.Compress.{tail_in}
use Rattle.xn_genus.proofs.Counts.{Permutes-face}
use Rattle.xn_genus.proofs.Lone.{dart_if_not_lone}
use Rattle.xn_genus.proofs.Part.{flat_of_part, map_of_part, passes_over}
use Rattle.xn_fewer.proofs.Lists.{lone_ends}
use Rattle.xn_fewer.proofs.Walks.{filter_to, joined_within}
use Rattle.xn_model.proofs.Decide.{iterate-step}
use Rattle.xn_kuratowski.specs.Reduction.{away, is_clear}
use Rattle.xn_kuratowski.proofs.Aways.{clear_to, joined_away, out_three, three_out}
use Rattle.xn_kuratowski.proofs.Rim.{AreStars, web_merged}
use Rattle.xn_kuratowski.proofs.Smallest.{smallest, smallest_is}
use Rattle.xn_kuratowski.proofs.Splits.{faces_meet_once}
use Rattle.xn_kuratowski.proofs.Stars.{dart_at_x, no_loop_merged, size_merged, web_first, web_rest, web_second, y_lone_merged}

module _ (nodes : ℕ) (rest : List (ℕ × ℕ)) (x y : ℕ) (xs ys : List ℕ) (next : ℕ → ℕ) (is : AreStars nodes rest x y xs ys)
    (flat_map : IsFlat (record { nodes = nodes; ends = web_merged rest x xs ys }) next) (several : 1 < length ys) where
  abbrev pub ends : List (ℕ × ℕ)
  ends = web_merged rest x xs ys

  abbrev pub n : ℕ
  n = 2 * length ends

  abbrev pub R : ℕ
  R = 2 * length rest

  abbrev pub map : IsMap nodes ends next
  map = flat_map.is_map

  pub size : length ends ≡ length rest + (length xs + length ys)
  size = size_merged nodes rest x y xs ys is

  low_in : (d : ℕ) → d < R → d < n
  low_in d d_low = omega (arith, d_low, size)

  pub low_tail : (d : ℕ) → d < R → tail_of rest d ≡ tail_of ends d
  low_tail d d_low =
      let c = cases_dart d in
      let s_in : c.0 < length rest = omega (arith, c.1, d_low) in
      let e = web_rest nodes rest x y xs ys is c.0 s_in in
      elim c.1 [
        | inl even ↦ ap (tail_of rest) even ∙ tail-even rest c.0 ∙ ap (λ p. p.0) (sym e) ∙ sym (tail-even ends c.0) ∙ ap (tail_of ends) (sym even)
        | inr odd ↦ ap (tail_of rest) odd ∙ tail-odd rest c.0 ∙ ap (λ p. p.1) (sym e) ∙ sym (tail-odd ends c.0) ∙ ap (tail_of ends) (sym odd)
      ]

  low_not_x : (d : ℕ) → d < R → tail_of ends d ≢ x
  low_not_x d d_low at_x =
      let c = cases_dart d in
      let s_in : c.0 < length rest = omega (arith, c.1, d_low) in
      let never = lone_ends rest x is.x_lone c.0 s_in in
      let there = low_tail d d_low ∙ at_x in
      elim c.1 [
        | inl even ↦ never.0 (sym (tail-even rest c.0) ∙ ap (tail_of rest) (sym even) ∙ there)
        | inr odd ↦ never.1 (sym (tail-odd rest c.0) ∙ ap (tail_of rest) (sym odd) ∙ there)
      ]

  -- a dart of a star is at x, or its reverse is
  star_dart : (d : ℕ) → d < n → R ≤ d → (tail_of ends d ≡ x) ⊎ (tail_of ends (reverse_of d) ≡ x)
  star_dart d d_in high =
      let c = cases_dart d in
      let k = c.0 - length rest in
      let s_is : c.0 ≡ length rest + k = omega (arith, c.1, high) in
      let first : tail_of ends (2 * c.0) ≡ x = ap (λ s. tail_of ends (2 * s)) s_is ∙ (elim (cases_lt k (length xs)) [
        | inl one ↦ tail-even ends (length rest + k) ∙ ap (λ p. p.0) (web_first nodes rest x y xs ys is k one)
        | inr two ↦
            let j = k - length xs in
            let j_in : j < length ys = omega (arith, c.1, d_in, size, s_is, two) in
            let k_is : length rest + k ≡ length rest + (length xs + j) = omega (arith, two) in
            ap (λ s. tail_of ends (2 * s)) k_is ∙ tail-even ends (length rest + (length xs + j)) ∙ ap (λ p. p.0) (web_second nodes rest x y xs ys is j j_in)
      ]) in
      elim c.1 [
        | inl even ↦ inl (ap (tail_of ends) even ∙ first)
        | inr odd ↦ inr (ap (tail_of ends) (ap reverse_of odd ∙ reverse-odd c.0) ∙ first)
      ]

  -- the reverse of a dart at x is of a star, and not at x
  pub spoke_reverse : (d : ℕ) → d < n → tail_of ends d ≡ x → (R ≤ reverse_of d) × (reverse_of d < n) × (tail_of ends (reverse_of d) ≢ x)
  spoke_reverse d d_in at_x =
      let k = dart_at_x nodes rest x y xs ys is d d_in at_x in
      let s = length rest + k.0 in
      let r : reverse_of d ≡ 2 * s + 1 = ap reverse_of k.2 ∙ reverse-even s in (
        omega (arith, r),
        reverse_below (length ends) d d_in,
        λ same. no_loop_merged nodes rest x y xs ys is s (omega (arith, k.1, size))
            (sym (tail-even ends s) ∙ ap (tail_of ends) (sym k.2) ∙ at_x ∙ sym same ∙ ap (tail_of ends) r ∙ tail-odd ends s),
      )

  -- ---- faces meet nodes once

  abbrev pub phi : ℕ → ℕ
  phi = face_step next

  pub phi_permutes : Permutes n phi
  phi_permutes = Permutes-face (length ends) next map.permutes

  -- a walk of the rest away from x, y and w
  others_joined : (w : ℕ) → w < nodes → (u v : ℕ) → u < nodes → v < nodes → u ≢ x → u ≢ y → u ≢ w → v ≢ x → v ≢ y → v ≢ w → Joined (away (x ∷ y ∷ w ∷ []) rest) u v
  others_joined w w_in u v u_in v_in u_x u_y u_w v_x v_y v_w = is.firm w w_in u v u_in v_in (three_out x y w u u_x u_y u_w) (three_out x y w v v_x v_y v_w)

  node_in : (es : List (ℕ × ℕ)) → EndsIn nodes es → (u : ℕ) → is_lone es u ≡ false → u < nodes
  node_in es es_in u used =
      let d = dart_if_not_lone es u used in
      let low = tail_in nodes es es_in d.0 d.1 in omega (arith, low, d.2)

  pub spokes_apart : (d e : ℕ) → d < n → e < n → tail_of ends d ≡ x → tail_of ends e ≡ x → Reaches phi d e → d ≡ e
  spokes_apart d e d_in e_in d_at e_at face =
      faces_meet_once (record { nodes = nodes; ends = ends }) next flat_map (no_loop_merged nodes rest x y xs ys is) x
      (λ u v u_x v_x u_used v_used.
      let not_y : (z : ℕ) → is_lone ends z ≡ false → z ≢ y = λ z used same. both_ways _ used (ap (is_lone ends) same ∙ y_lone_merged nodes rest x y xs ys is) in
      let there = others_joined x is.x_in u v (node_in ends map.ends_in u u_used) (node_in ends map.ends_in v v_used) u_x (not_y u u_used) u_x v_x (not_y v v_used) v_x in
      joined_within (away (x ∷ y ∷ x ∷ []) rest) (away (x ∷ []) ends) (λ s s_in.
      let found = filter_to (is_clear (x ∷ y ∷ x ∷ [])) rest s s_in in
      let clear = clear_to (x ∷ y ∷ x ∷ []) (ends_at rest found.0) found.3 in
      let one = out_three x y x _ clear.0 in
      let two = out_three x y x _ clear.1 in
      let out : (z : ℕ) → z ≢ x → has (x ∷ []) z ≡ false = λ z other.
      or_from (eqb x z) false (ne_eqb x z (λ same. other (sym same))) refl in
      let e' = web_rest nodes rest x y xs ys is found.0 found.1 in
      let P : ℕ × ℕ → Type 0 = λ p. Joined (away (x ∷ []) ends) p.0 p.1 in
      subst P (e' ∙ sym found.2)
      (joined_away (x ∷ []) ends found.0 (omega (arith, found.1, size)) (ap (λ p. has (x ∷ []) p.0) e' ∙ out _ one.0) (ap (λ p. has (x ∷ []) p.1) e' ∙ out _ two.0))) u v there)
      d e d_in e_in d_at e_at face

  -- the map of the rest
  part : IsPart ends rest (λ j. j)
  part = record {
    below = low_in;
    apart = λ i j i_in j_in same. same;
    reverses = λ j j_in. refl;
    tails = low_tail;
  }

  pub over : (after : ℕ → ℕ) × PassesOver R (λ j. j) next after
  over = passes_over nodes ends rest (λ j. j) next map part

  abbrev pub turn : ℕ → ℕ
  turn = over.0

  pub rest_map : IsMap nodes rest turn
  rest_map = map_of_part nodes ends rest (λ j. j) next map part turn over.1

  rest_flat : MeetsEuler nodes rest turn
  rest_flat = flat_of_part nodes ends rest (λ j. j) next map part turn over.1 flat_map.flat

  abbrev pub psi : ℕ → ℕ
  psi = face_step turn

  pub psi_permutes : Permutes R psi
  psi_permutes = Permutes-face (length rest) turn rest_map.permutes

  pub rim_apart : (d e : ℕ) → d < R → e < R → tail_of rest d ≡ tail_of rest e → Reaches psi d e → d ≡ e
  rim_apart d e d_in e_in same face =
      let w = tail_of rest d in
      let w_in = tail_in nodes rest is.ends_in d d_in in
      faces_meet_once (record { nodes = nodes; ends = rest }) turn (record { is_map = rest_map; flat = rest_flat }) is.no_loop w
      (λ u v u_w v_w u_used v_used.
      let not_at : (z t : ℕ) → is_lone rest t ≡ true → is_lone rest z ≡ false → z ≢ t = λ z t alone used same'. both_ways _ used (ap (is_lone rest) same' ∙ alone) in
      let there = others_joined w w_in u v (node_in rest is.ends_in u u_used) (node_in rest is.ends_in v v_used) (not_at u x is.x_lone u_used) (not_at u y is.y_lone u_used) u_w
      (not_at v x is.x_lone v_used) (not_at v y is.y_lone v_used) v_w in
      joined_within (away (x ∷ y ∷ w ∷ []) rest) (away (w ∷ []) rest) (λ s s_in.
      let found = filter_to (is_clear (x ∷ y ∷ w ∷ [])) rest s s_in in
      let clear = clear_to (x ∷ y ∷ w ∷ []) (ends_at rest found.0) found.3 in
      let one = out_three x y w _ clear.0 in
      let two = out_three x y w _ clear.1 in
      let out : (z : ℕ) → z ≢ w → has (w ∷ []) z ≡ false = λ z other.
      or_from (eqb w z) false (ne_eqb w z (λ same'. other (sym same'))) refl in
      let P : ℕ × ℕ → Type 0 = λ p. Joined (away (w ∷ []) rest) p.0 p.1 in
      subst P (sym found.2) (joined_away (w ∷ []) rest found.0 found.1 (out _ one.2) (out _ two.2))) u v there)
      d e d_in e_in refl (sym same) face

  -- ---- the first dart of the rest from a dart on

  abbrev pub FirstRest : ℕ → ℕ → Type 0
  FirstRest e z = (k : ℕ) × (iterate next k e ≡ z) × (z < R) × ((i : ℕ) → i < k → R ≤ iterate next i e)

  pub first_own : (e : ℕ) → e < R → FirstRest e e
  first_own e e_low = (0, refl, e_low, λ i low. absurd (omega (arith, low)))

  pub first_unique : (e z z' : ℕ) → FirstRest e z → FirstRest e z' → z ≡ z'
  first_unique e z z' one two = elim (cases_order one.0 two.0) [
    | inl same ↦ sym one.1 ∙ ap (λ k. iterate next k e) same ∙ two.1
    | inr (inl less) ↦ absurd (omega (arith, two.3 one.0 less, one.1, one.2))
    | inr (inr more) ↦ absurd (omega (arith, one.3 two.0 more, two.1, two.2))
  ]

  pub first_on : (e z : ℕ) → R ≤ e → FirstRest (next e) z → FirstRest e z
  first_on e z high there = (
    suc there.0,
    sym (iterate-step next there.0 e) ∙ there.1,
    there.2,
    λ i low. earlier i low,
  )
    where
      earlier : (i : ℕ) → i < suc there.0 → R ≤ iterate next i e
      earlier zero low = high
      earlier (suc i) low = let one = there.3 i (omega (arith, low)) in let same = iterate-step next i e in omega (arith, one, same)

  pub first_tail : (e z : ℕ) → e < n → FirstRest e z → tail_of ends z ≡ tail_of ends e
  first_tail e z e_in there = ap (tail_of ends) (sym there.1) ∙ (along there.0).1
    where
      along : (k : ℕ) → (iterate next k e < n) × (tail_of ends (iterate next k e) ≡ tail_of ends e)
      along zero = (e_in, refl)
      along (suc k) = let one = along k in (map.permutes.below _ one.0, map.same_node _ one.0 ∙ one.1)

  -- a step of a face of the rest
  first_step : (d : ℕ) → d < R → FirstRest (phi d) (psi d)
  first_step d d_low =
      let r = reverse_of d in
      let r_in = reverse_below (length rest) d d_low in
      let one = over.1.first r r_in in (
        one.steps,
        iterate-step next one.steps r ∙ one.there,
        over.1.below r r_in,
        λ i low. elim (cases_lt (iterate next i (next r)) R) [
          | inr high ↦ high
          | inl found ↦ absurd (one.between i (iterate next i (next r)) low found (sym (iterate-step next i r)))
        ],
      )

  -- ---- the face of a dart at x

  abbrev pub is_end : ℕ → ℕ → Bool
  is_end d j = eqb (tail_of ends (iterate phi (suc j) d)) x

  -- so many darts come before the face is back at x
  abbrev pub long : ℕ → ℕ
  long d = smallest n (is_end d)

  module _ (d : ℕ) (d_in : d < n) (d_at : tail_of ends d ≡ x) where
    comes : (is_end d (long d) ≡ true) × ((i : ℕ) → i < long d → is_end d i ≡ false) × (long d < n)
    comes =
        let round = comes_back n phi phi_permutes d d_in in
        let found = smallest_is n (is_end d) round.0 round.1 (eq-eqb _ _ (ap (tail_of ends) round.2 ∙ d_at)) in
        (found.0, found.1, omega (arith, found.2, round.1))

    walk_in : (k : ℕ) → iterate phi k d < n
    walk_in k = iterate_below n phi phi_permutes k d d_in

    -- and it comes back to d
    home : iterate phi (suc (long d)) d ≡ d
    home = sym (spokes_apart d (iterate phi (suc (long d)) d) d_in (walk_in (suc (long d))) d_at (eqb-true _ _ comes.0) (suc (long d), refl))

    between : (i : ℕ) → i < long d → tail_of ends (iterate phi (suc i) d) ≢ x
    between i low = eqb-false _ _ (comes.1 i low)

    first_not_x : tail_of ends (phi d) ≢ x
    first_not_x same =
        let far = spoke_reverse d d_in d_at in
        far.2 (sym (map.same_node (reverse_of d) far.1) ∙ same)

    pub long_some : 0 < long d
    long_some = elim (cases_eq (long d) 0) [
      | inr some ↦ omega (arith, some)
      | inl none ↦ absurd (first_not_x (ap (λ k. tail_of ends (iterate phi (suc k) d)) (sym none) ∙ eqb-true _ _ comes.0))
    ]

    -- the last of them is the reverse of the dart before d
    pub last_is : (before : ℕ) → before < n → next before ≡ d → iterate phi (long d) d ≡ reverse_of before
    last_is before before_in leads =
        let e = iterate phi (long d) d in
        let e_in = walk_in (long d) in
        let same : reverse_of e ≡ before = map.permutes.apart (reverse_of e) before (reverse_below (length ends) e e_in) before_in (home ∙ sym leads) in
        sym (reverse-reverse e) ∙ ap reverse_of same

    -- those before it are of the rest
    pub inside : (i : ℕ) → suc i < long d → iterate phi (suc i) d < R
    inside i low =
        let e = iterate phi (suc i) d in
        elim (cases_lt e R) [
          | inl rest_dart ↦ rest_dart
          | inr high ↦ elim (star_dart e (walk_in (suc i)) high) [
            | inl at_x ↦ absurd (between i (omega (arith, low)) at_x)
            | inr back_at ↦
                let on : tail_of ends (iterate phi (suc (suc i)) d) ≡ x = map.same_node (reverse_of e) (reverse_below (length ends) e (walk_in (suc i))) ∙ back_at in
                absurd (between (suc i) low on)
          ]
        ]

    -- along them the faces of the rest go on
    along : (z : ℕ) → FirstRest (reverse_of d) z → (i : ℕ) → suc i ≤ long d → FirstRest (iterate phi (suc i) d) (iterate psi i z)
    along z first zero low =
        let far = spoke_reverse d d_in d_at in
        shifted first.0 first.1 first.2 first.3 far.0
      where
        shifted : (k : ℕ) → iterate next k (reverse_of d) ≡ z → z < R → ((i : ℕ) → i < k → R ≤ iterate next i (reverse_of d)) → R ≤ reverse_of d → FirstRest (next (reverse_of d)) z
        shifted zero meets z_low early high = absurd (omega (arith, meets, z_low, high))
        shifted (suc k) meets z_low early high = (
          k,
          iterate-step next k (reverse_of d) ∙ meets,
          z_low,
          λ i low. let one = early (suc i)
              (omega (arith, low)) in let same = iterate-step next i (reverse_of d) in omega (arith, one, same),
        )
    along z first (suc i) low =
        let e = iterate phi (suc i) d in
        let e_low = inside i (omega (arith, low)) in
        let before = along z first i (omega (arith, low)) in
        let same : iterate psi i z ≡ e = first_unique e (iterate psi i z) e before (first_own e e_low) in
        let P : ℕ → Type 0 = λ t. FirstRest (phi e) (psi t) in
        subst P (sym same) (first_step e e_low)

    -- up to the dart before d
    pub next_first : (z before : ℕ) → before < n → next before ≡ d → FirstRest (reverse_of d) z → FirstRest (reverse_of before) (iterate psi (long d - 1) z)
    next_first z before before_in leads first =
        let k = long d - 1 in
        let some = long_some in
        let is_long : suc k ≡ long d = omega (arith, some) in
        let there = along z first k (omega (arith, is_long)) in
        let P : ℕ → Type 0 = λ e. FirstRest e (iterate psi k z) in
        subst P (ap (λ j. iterate phi j d) is_long ∙ last_is before before_in leads) there

    -- a dart between them stands where the face of the rest is
    pub inside_is : (z : ℕ) → FirstRest (reverse_of d) z → (i : ℕ) → suc i < long d → iterate psi i z ≡ iterate phi (suc i) d
    inside_is z first i low =
        let e = iterate phi (suc i) d in
        first_unique e (iterate psi i z) e (along z first i (omega (arith, low))) (first_own e (inside i low))

    -- they are different
    pub different : (i j : ℕ) → i < j → j < long d → iterate phi (suc i) d ≢ iterate phi (suc j) d
    different i j less low same =
        let k = j - suc i in
        let sum : suc j ≡ suc i + suc k = omega (arith, less) in
        let back : d ≡ iterate phi (suc k) d = iterate_apart n phi phi_permutes (suc i) d (iterate phi (suc k) d) d_in (walk_in (suc k))
        (same ∙ ap (λ t. iterate phi t d) sum ∙ iterate-add phi (suc i) (suc k) d) in
        between k (omega (arith, low, less)) (ap (tail_of ends) (sym back) ∙ d_at)
