-- Stars with no dart or one come apart.
use Rattle.std.proofs.Common.{◌≡◌, ◌≢◌, ℕ, suc, ◌+◌, ◌-◌, ◌*◌, ◌<◌, ◌⊎◌, inl, inr, true, eqb, List, [], ◌∷◌, ◌++◌, length, map, refl, sym, ◌∙◌, ap, ap₂, subst, arith, length-append}
use Rattle.std.proofs.lemmas.Bool.{cases_eq, cases_lt, eqb-true, eqb-false, le-leb, leb-true}
use Rattle.xn_model.specs.Graph.{ends_at}
use Rattle.xn_model.specs.Lists.{at}
use Rattle.xn_model.specs.Map.{IsFlat, Joined, is_lone, tail_of}
use Rattle.xn_model.specs.Permutation.{iterate}
use Rattle.xn_model.proofs.ComponentWalks.{joined_sym}
use Rattle.xn_model.proofs.Darts.{cases_dart, tail-even, tail-odd}
use Rattle.xn_ring.proofs.Orbits.{first_below, iterate-add, within}
use Rattle.xn_genus.proofs.Counts.{stays_alone}
use Rattle.xn_genus.proofs.Nodes.{lone_from}
use Rattle.xn_surgery.specs.Splitting.{InArc}
use Rattle.xn_surgery.proofs.InsertFlat.{lone_apart}
use Rattle.xn_fewer.specs.Flat.{HasFlat, both}
use Rattle.xn_fewer.proofs.Flats.{Permutes-exchanged, bridge_flat, named_flat}
use Rattle.xn_fewer.proofs.Lists.{at_back, at_both, at_front, cases_exchanged, exchanged, length-both, lone_ends}
use Rattle.xn_kuratowski.proofs.Rim.{HasArcs, AreStars, SmallStarsComeApart, star, web_of_stars, web_merged}
use Rattle.xn_kuratowski.proofs.Stars.{at_star, closed, dart_at_x, first_at_x, length-star, same_webs, second_at_x, size_merged, y_lone_merged}
use Rattle.xn_kuratowski.proofs.Apart.{exchanged-other, arcs_come_apart}

-- a flat map with a dart before which the second star's darts end
module _ (nodes : ℕ) (rest : List (ℕ × ℕ)) (x y : ℕ) (xs ys : List ℕ) (is : AreStars nodes rest x y xs ys) (has : HasFlat nodes (web_merged rest x xs ys)) where
  abbrev ends' : List (ℕ × ℕ)
  ends' = web_merged rest x xs ys

  abbrev turn' : ℕ → ℕ
  turn' = has.next

  abbrev n' : ℕ
  n' = 2 * length ends'

  is_flat_map : IsFlat (record { nodes = nodes; ends = ends' }) turn'
  is_flat_map = record { is_map = has.is_map; flat = has.flat }

  size' : length ends' ≡ length rest + (length xs + length ys)
  size' = size_merged nodes rest x y xs ys is

  -- a dart that isn't alone at x moves
  moves : (c d : ℕ) → c < n' → d < n' → tail_of ends' c ≡ x → tail_of ends' d ≡ x → c ≢ d → turn' c ≢ c
  moves c d c_in d_in c_at d_at differ alone =
      let there = has.is_map.one_ring c d c_in d_in (c_at ∙ sym d_at) in
      differ (sym (stays_alone turn' c alone there.0) ∙ there.1)

  -- the second star has one dart, the first some
  one_second : length ys ≡ 1 → 0 < length xs → HasArcs nodes rest x xs ys
  one_second single some =
      let a = 2 * (length rest + (length xs + 0)) in
      let a_in : a < n' = omega (arith, size', single) in
      let a_at = second_at_x nodes rest x y xs ys is 0 (omega (arith, single)) in
      let other = 2 * (length rest + 0) in
      let other_in : other < n' = omega (arith, size', some) in
      let other_at = first_at_x nodes rest x y xs ys is 0 some in
      let b = turn' a in
      let b_in = has.is_map.permutes.below a a_in in
      let differ : a ≢ b = λ same. moves a other a_in other_in a_at other_at (λ e. omega (arith, e, some)) (sym same) in (
        turn',
        is_flat_map,
        (
          a,
          b,
          record {
            first_in = a_in;
            second_in = b_in;
            first_at = a_at;
            second_at = has.is_map.same_node a a_in ∙ a_at;
            differ = differ;
            arc = λ d d_in d_at. (
              λ arc. elim (cases_eq arc.0 0) [
                | inl zero_steps ↦
                    let e : a ≡ d = ap (λ k. iterate turn' k a) (sym zero_steps) ∙ arc.1 in
                    le-leb _ _ (omega (arith, e))
                | inr some_steps ↦ absurd (arc.2 1 (omega (arith, some_steps)) refl)
              ],
              λ second.
                  let high = leb-true _ _ second in
                  let k = dart_at_x nodes rest x y xs ys is d d_in d_at in
                  let e : a ≡ d = omega (arith, k.1, k.2, high, single) in
                  (0, e, λ l low same. differ (ap (λ j. iterate turn' j a) (let z : 0 ≡ l = omega (arith, low) in z) ∙ same)),
            );
          },
        ),
      )

  -- the first star has one dart, the second some
  one_first : length xs ≡ 1 → 0 < length ys → HasArcs nodes rest x xs ys
  one_first single some =
      let b = 2 * (length rest + 0) in
      let b_in : b < n' = omega (arith, size', single) in
      let b_at = first_at_x nodes rest x y xs ys is 0 (omega (arith, single)) in
      let other = 2 * (length rest + (length xs + 0)) in
      let other_in : other < n' = omega (arith, size', some) in
      let other_at = second_at_x nodes rest x y xs ys is 0 some in
      let a = turn' b in
      let a_in = has.is_map.permutes.below b b_in in
      let a_at : tail_of ends' a ≡ x = has.is_map.same_node b b_in ∙ b_at in
      let differ : a ≢ b = λ same. moves b other b_in other_in b_at other_at (λ e. omega (arith, e, single)) same in (
        turn',
        is_flat_map,
        (
          a,
          b,
          record {
            first_in = a_in;
            second_in = b_in;
            first_at = a_at;
            second_at = b_at;
            differ = differ;
            arc = λ d d_in d_at.
                let k = dart_at_x nodes rest x y xs ys is d d_in d_at in (
                  λ arc.
                      let not_b : d ≢ b = λ same. arc.2 arc.0 (omega arith) (arc.1 ∙ same) in
                      le-leb _ _ (omega (arith, k.2, not_b, single)),
                  λ second.
                      let high = leb-true _ _ second in
                      all_but b b_in d d_in d_at b_at (λ same. omega (arith, same, high, single)),
                );
          },
        ),
      )
    where
      all_but : (b : ℕ) → b < n' → (d : ℕ) → d < n' → tail_of ends' d ≡ x → tail_of ends' b ≡ x → d ≢ b → InArc turn' (turn' b) b d
      all_but b b_in d d_in d_at b_at other =
          let a = turn' b in
          let a_in = has.is_map.permutes.below b b_in in
          let there = has.is_map.one_ring a d a_in d_in (has.is_map.same_node b b_in ∙ b_at ∙ sym d_at) in
          let near = within n' turn' has.is_map.permutes a a_in there.0 in
          elim (first_below n' (λ k. eqb (iterate turn' k a) d)) [
            | inr none ↦ absurd (eqb-false _ _ (none near.0 near.1) (near.2 ∙ there.1))
            | inl found ↦
                let k = found.0 in
                let last : iterate turn' k a ≡ d = eqb-true _ _ found.2 in (
                  k,
                  last,
                  λ l low at_b.
                      let not_k : l ≢ k = λ same. other (sym last ∙ ap (λ j. iterate turn' j a) (sym same) ∙ at_b) in
                      let j = k - suc l in
                      let back : j + suc l ≡ k = omega (arith, low, not_k) in
                      let round : iterate turn' (suc l) a ≡ a = ap turn' at_b in
                      eqb-false _ _ (found.3 j (omega (arith, low, not_k)))
                      (ap (iterate turn' j) (sym round) ∙ sym (iterate-add turn' j (suc l) a) ∙ ap (λ i. iterate turn' i a) back ∙ last),
                )
          ]

-- no dart in the second star
none_second : (nodes : ℕ) (rest : List (ℕ × ℕ)) (x y : ℕ) (xs : List ℕ) → AreStars nodes rest x y xs [] → HasFlat nodes (web_merged rest x xs []) → HasFlat nodes (web_of_stars rest x y xs [])
none_second nodes rest x y xs is has =
    let web_now = web_merged rest x xs [] in
    let apart : Joined web_now x y → ⊥ = λ joined.
    lone_apart web_now y x (y_lone_merged nodes rest x y xs [] is) (λ same. is.two_ends (sym same)) (joined_sym web_now x y joined) in
    subst (HasFlat nodes) (closed nodes rest x y xs [] is) (bridge_flat nodes x y web_now is.x_in is.y_in apart has)

-- no dart in the first
none_first : (nodes : ℕ) (rest : List (ℕ × ℕ)) (x y : ℕ) (ys : List ℕ) → AreStars nodes rest x y [] ys → HasFlat nodes (web_merged rest x [] ys) → HasFlat nodes (web_of_stars rest x y [] ys)
none_first nodes rest x y ys is has =
    let web_now = rest ++ star x ys in
    let web_new = rest ++ star y ys in
    let names = exchanged x y in
    let size_now : length web_now ≡ length rest + length ys = length-append rest (star x ys) ∙ ap (λ k. length rest + k) (length-star x ys) in
    let size_new : length web_new ≡ length rest + length ys = length-append rest (star y ys) ∙ ap (λ k. length rest + k) (length-star y ys) in
    let each : (i : ℕ) → i < length web_now → both names (ends_at web_now i) ≡ ends_at web_new i = λ i i_in. elim (cases_lt i (length rest)) [
      | inl low ↦
          let not_x = lone_ends rest x is.x_lone i low in
          let not_y = lone_ends rest y is.y_lone i low in
          ap (both names) (at_front rest (star x ys) i low)
          ∙ ap₂ (λ u v. (u, v)) (exchanged-other x y _ not_x.0 not_y.0) (exchanged-other x y _ not_x.1 not_y.1) ∙ sym (at_front rest (star y ys) i low)
      | inr high ↦
          let k = i - length rest in
          let k_in : k < length ys = omega (arith, i_in, size_now, high) in
          let e : i ≡ length rest + k = omega (arith, high) in
          let head = is.y_heads.below k 0 k_in in
          let first : names x ≡ y = omega (arith, cases_exchanged x y x) in
          ap (λ j. both names (ends_at web_now j)) e ∙ ap (both names) (at_back rest (star x ys) k ∙ at_star x ys k k_in)
          ∙ ap₂ (λ u v. (u, v)) first (exchanged-other x y _ head.1 head.2) ∙ sym (ap (ends_at web_new) e ∙ at_back rest (star y ys) k ∙ at_star y ys k k_in)
    ] in
    let same : map (both names) web_now ≡ web_new = same_webs (map (both names) web_now) web_new (length-both names web_now ∙ size_now ∙ sym size_new)
    (λ i i_in. let i_low : i < length web_now = omega (arith, i_in, length-both names web_now) in at_both names web_now i i_low ∙ each i i_low) in
    let renamed = subst (HasFlat nodes) same (named_flat nodes web_now names (Permutes-exchanged nodes x y is.x_in is.y_in) has) in
    let alone : is_lone web_new x ≡ true = lone_from web_new x (λ d d_in met.
    let c = cases_dart d in
    let s_in : c.0 < length web_new = omega (arith, c.1, d_in) in
    let ends_are : ((ends_at web_new c.0).0 ≡ x) ⊎ ((ends_at web_new c.0).1 ≡ x) = elim c.1 [
      | inl even ↦ inl (sym (tail-even web_new c.0) ∙ ap (tail_of web_new) (sym even) ∙ met)
      | inr odd ↦ inr (sym (tail-odd web_new c.0) ∙ ap (tail_of web_new) (sym odd) ∙ met)
    ] in
    elim (cases_lt c.0 (length rest)) [
      | inl low ↦
          let never = lone_ends rest x is.x_lone c.0 low in
          let e = at_front rest (star y ys) c.0 low in
          elim ends_are [ inl one ↦ never.0 (ap (λ z. z.0) (sym e) ∙ one) | inr two ↦ never.1 (ap (λ z. z.1) (sym e) ∙ two) ]
      | inr high ↦
          let k = c.0 - length rest in
          let k_in : k < length ys = omega (arith, s_in, size_new, high) in
          let here : c.0 ≡ length rest + k = omega (arith, high) in
          let e : ends_at web_new c.0 ≡ (y, at ys k) = ap (ends_at web_new) here ∙ at_back rest (star y ys) k ∙ at_star y ys k k_in in
          elim ends_are [
            | inl one ↦ is.two_ends (sym (ap (λ z. z.0) (sym e) ∙ one))
            | inr two ↦ (is.y_heads.below k 0 k_in).1 (ap (λ z. z.1) (sym e) ∙ two)
          ]
    ]) in
    subst (HasFlat nodes) (closed nodes rest x y [] ys is) (bridge_flat nodes x y web_new is.x_in is.y_in (lone_apart web_new x y alone is.two_ends) renamed)

pub small_stars : SmallStarsComeApart
small_stars nodes rest x y [] ys is small has = none_first nodes rest x y ys is has
small_stars nodes rest x y (u ∷ xs) [] is small has = none_second nodes rest x y (u ∷ xs) is has
small_stars nodes rest x y (u ∷ xs) (v ∷ ys) is small has =
    arcs_come_apart nodes rest x y (u ∷ xs) (v ∷ ys) is (elim small [
      | inl few ↦ one_first nodes rest x y (u ∷ xs) (v ∷ ys) is has (omega (arith, few)) (omega arith)
      | inr few ↦ one_second nodes rest x y (u ∷ xs) (v ∷ ys) is has (omega (arith, few)) (omega arith)
    ])
