-- A web with a firm segment is one with a star at each of its ends.
use Rattle.std.proofs.Common.{◌≡◌, ◌≢◌, ℕ, zero, suc, ◌+◌, ◌<◌, ◌⊎◌, inl, inr, Bool, true, false, not, ◌&&◌, cond, eqb, List, [], ◌∷◌, ◌++◌, length, refl, sym, ◌∙◌, ap, subst, arith, length-append}
use Rattle.std.specs.Prelude.{slice_index_or}
use Rattle.std.proofs.lemmas.Bool.{and_from, and_parts, cases_Bool, cases_eq, cond-true, cond-false, eqb-false, ne_eqb, not-true, not_from_false}
use Rattle.std.proofs.lemmas.List.{get_or_default}
use Rattle.xn_model.specs.Graph.{EndsIn, HasNoLoop, ends_at}
use Rattle.xn_model.specs.Lists.{at, has}
use Rattle.xn_model.specs.Map.{Joined, is_lone, tail_of}
use Rattle.xn_model.proofs.Darts.{cases_dart, tail-even, tail-odd}
use Rattle.xn_genus.proofs.Kept.{EndsIn_at}
use Rattle.xn_genus.proofs.Nodes.{lone_from}
use Rattle.xn_genus.proofs.Tests.{some_below, some_below-from, some_below-to}
use Rattle.xn_fewer.specs.Flat.{IsSelection, SameEnds}
use Rattle.xn_fewer.proofs.Walks.{filter_from, filter_to, joined_within}
use Rattle.xn_kuratowski.specs.Reduction.{HasNoParallels, away, is_clear}
use Rattle.xn_kuratowski.proofs.Aways.{EndsIn-away, clear_from, clear_to, joined_away, out_three, out_two, two_out}
use Rattle.xn_kuratowski.proofs.Choices.{AreAmong, AreDifferent, are_same, are_same-from, are_same-to, choice_among, different_append, different_filter, different_from, part_no_longer, same_is, same_sym, same_trans, split_place}
use Rattle.xn_kuratowski.proofs.Rim.{AreApart, FirmSegmentsHaveStars, AreStars, star, web_of_stars}
use Rattle.xn_kuratowski.proofs.Separation.{IsFirm, StaysWhole}
use Rattle.xn_kuratowski.proofs.Stars.{at_first, at_more, at_rest, at_second, at_star, length-star}

-- ---- the numbers below n that pass, from the greatest on

abbrev pub passing : ℕ → (ℕ → Bool) → List ℕ
passing zero t = []
passing (suc n) t = cond (t n) (n ∷ passing n t) (passing n t)

passing-on : (n : ℕ) (t : ℕ → Bool) → t n ≡ true → passing (suc n) t ≡ n ∷ passing n t
passing-on n t h = cond-true _ _ _ h

passing-off : (n : ℕ) (t : ℕ → Bool) → t n ≡ false → passing (suc n) t ≡ passing n t
passing-off n t h = cond-false _ _ _ h

first_or_later : (P : ℕ → Type 0) (x : ℕ) (xs : List ℕ) → P x → ((k : ℕ) → k < length xs → P (at xs k)) → (k : ℕ) → k < length (x ∷ xs) → P (at (x ∷ xs) k)
first_or_later P x xs one rest zero k_in = one
first_or_later P x xs one rest (suc k) k_in = rest k (omega (arith, k_in))

pub passing_to : (n : ℕ) (t : ℕ → Bool) (k : ℕ) → k < length (passing n t) → (at (passing n t) k < n) × (t (at (passing n t) k) ≡ true)
passing_to zero t k k_in = absurd (omega (arith, k_in))
passing_to (suc n) t k k_in =
    let P : ℕ → Type 0 = λ v. (v < suc n) × (t v ≡ true) in
    let rest : (j : ℕ) → j < length (passing n t) → P (at (passing n t) j) = λ j j_in. let one = passing_to n t j j_in in (omega (arith, one.0), one.1) in
    elim (cases_Bool (t n)) [
      | inl on ↦
          let is = passing-on n t on in
          let Q : List ℕ → Type 0 = λ xs. (k < length xs → P (at xs k)) in
          subst Q (sym is) (first_or_later P n (passing n t) (omega arith, on) rest k) k_in
      | inr off ↦
          let is = passing-off n t off in
          let Q : List ℕ → Type 0 = λ xs. (k < length xs → P (at xs k)) in
          subst Q (sym is) (rest k) k_in
    ]

pub passing_from : (n : ℕ) (t : ℕ → Bool) (v : ℕ) → v < n → t v ≡ true → (k : ℕ) × (k < length (passing n t)) × (at (passing n t) k ≡ v)
passing_from zero t v v_in h = absurd (omega (arith, v_in))
passing_from (suc n) t v v_in h =
    let Q : List ℕ → Type 0 = λ xs. (k : ℕ) × (k < length xs) × (at xs k ≡ v) in
    elim (cases_eq v n) [
      | inl here ↦ subst Q (sym (passing-on n t (ap t (sym here) ∙ h))) (0, omega arith, sym here)
      | inr before ↦
          let rest = passing_from n t v (omega (arith, v_in, before)) h in
          elim (cases_Bool (t n)) [
            | inl on ↦ subst Q (sym (passing-on n t on)) (suc rest.0, omega (arith, rest.1), rest.2)
            | inr off ↦ subst Q (sym (passing-off n t off)) rest
          ]
    ]

-- they are different
pub passing_apart : (n : ℕ) (t : ℕ → Bool) → AreApart (passing n t)
passing_apart zero t i j i_in j_in same = absurd (omega (arith, i_in))
passing_apart (suc n) t i j i_in j_in same = elim (cases_Bool (t n)) [
  | inr off ↦
      let Q : List ℕ → Type 0 = λ xs. (i < length xs → j < length xs → at xs i ≡ at xs j → i ≡ j) in
      subst Q (sym (passing-off n t off)) (λ a b c. passing_apart n t i j a b c) i_in j_in same
  | inl on ↦
      let Q : List ℕ → Type 0 = λ xs. (i < length xs → j < length xs → at xs i ≡ at xs j → i ≡ j) in
      subst Q (sym (passing-on n t on)) (split_cases i j (λ a b. passing_apart n t a b)) i_in j_in same
]
  where
    split_cases : (a b : ℕ) → ((a b : ℕ) → a < length (passing n t) → b < length (passing n t) → at (passing n t) a ≡ at (passing n t) b → a ≡ b) →
        a < length (n ∷ passing n t) → b < length (n ∷ passing n t) → at (n ∷ passing n t) a ≡ at (n ∷ passing n t) b → a ≡ b
    split_cases zero zero rest a_in b_in same = refl
    split_cases zero (suc b) rest a_in b_in same = let low = passing_to n t b (omega (arith, b_in)) in absurd (omega (arith, low.0, same))
    split_cases (suc a) zero rest a_in b_in same = let low = passing_to n t a (omega (arith, a_in)) in absurd (omega (arith, low.0, same))
    split_cases (suc a) (suc b) rest a_in b_in same = ap suc (rest a b (omega (arith, a_in)) (omega (arith, b_in)) same)

-- ---- the neighbours of x, but for y

module _ (nodes s : ℕ) (ends : List (ℕ × ℕ)) (ends_in : EndsIn nodes ends) (no_loop : HasNoLoop ends) (single : HasNoParallels ends) (s_in : s < length ends) (firm : IsFirm nodes ends s) where
  abbrev x : ℕ
  x = (ends_at ends s).0

  abbrev y : ℕ
  y = (ends_at ends s).1

  abbrev beside : ℕ → ℕ → ℕ → Bool
  beside a b v = some_below (length ends) (λ t. are_same (ends_at ends t) (a, v)) && not (eqb v b)

  abbrev heads : ℕ → ℕ → List ℕ
  heads a b = passing nodes (beside a b)

  -- a head has a segment
  head_of : (a b k : ℕ) → k < length (heads a b) →
      (at (heads a b) k < nodes) × (at (heads a b) k ≢ a) × (at (heads a b) k ≢ b) × ((t : ℕ) × (t < length ends) × SameEnds (ends_at ends t) (a, at (heads a b) k))
  head_of a b k k_in =
      let one = passing_to nodes (beside a b) k k_in in
      let v = at (heads a b) k in
      let two : (some_below (length ends) (λ t. are_same (ends_at ends t) (a, v)) ≡ true) × (not (eqb v b) ≡ true) = and_parts _ _ one.1 in
      let found = some_below-to (length ends) (λ t. are_same (ends_at ends t) (a, v)) two.0 in
      let same = are_same-to _ _ found.2 in
      let none = no_loop found.0 found.1 in (
        one.0,
        λ e. none (elim same [ inl straight ↦ straight.0 ∙ sym e ∙ sym straight.1 | inr turned ↦ turned.0 ∙ e ∙ sym turned.1 ]),
        eqb-false _ _ (not-true _ two.1),
        (found.0, found.1, same),
      )

  -- and a segment a head
  head_at : (a b v t : ℕ) → t < length ends → SameEnds (ends_at ends t) (a, v) → v ≢ b → (k : ℕ) × (k < length (heads a b)) × (at (heads a b) k ≡ v)
  head_at a b v t t_in same other =
      let low = EndsIn_at nodes ends ends_in t t_in in
      let v_in : v < nodes = elim same [ inl straight ↦ subst (λ z. z < nodes) straight.1 low.1 | inr turned ↦ subst (λ z. z < nodes) turned.0 low.0 ] in
      passing_from nodes (beside a b) v v_in
      (and_from _ _ (some_below-from (length ends) (λ i. are_same (ends_at ends i) (a, v)) t t_in (are_same-from _ _ same)) (not_from_false _ (ne_eqb v b other)))

  abbrev xs : List ℕ
  xs = heads x y

  abbrev ys : List ℕ
  ys = heads y x

  abbrev rest : List (ℕ × ℕ)
  rest = away (x ∷ y ∷ []) ends

  two_ends : x ≢ y
  two_ends = no_loop s s_in

  rest_clear : (i : ℕ) → i < length rest → (t : ℕ) × (t < length ends) × (ends_at rest i ≡ ends_at ends t) × (((ends_at ends t).0 ≢ x) × ((ends_at ends t).0 ≢ y)) ×
      (((ends_at ends t).1 ≢ x) × ((ends_at ends t).1 ≢ y))
  rest_clear i i_in =
      let found = filter_to (is_clear (x ∷ y ∷ [])) ends i i_in in
      let clear = clear_to (x ∷ y ∷ []) (ends_at ends found.0) found.3 in
      (found.0, found.1, found.2, out_two x y _ clear.0, out_two x y _ clear.1)

  lone_in_rest : (z : ℕ) → (z ≡ x) ⊎ (z ≡ y) → is_lone rest z ≡ true
  lone_in_rest z which = lone_from rest z (λ d d_in met.
      let c = cases_dart d in
      let one = rest_clear c.0 (omega (arith, c.1, d_in)) in
      elim c.1 [
        | inl even ↦
            let e : (ends_at ends one.0).0 ≡ z = ap (λ p. p.0) (sym one.2) ∙ sym (tail-even rest c.0) ∙ ap (tail_of rest) (sym even) ∙ met in
            elim which [ inl at_x ↦ one.3.0 (e ∙ at_x) | inr at_y ↦ one.3.1 (e ∙ at_y) ]
        | inr odd ↦
            let e : (ends_at ends one.0).1 ≡ z = ap (λ p. p.1) (sym one.2) ∙ sym (tail-odd rest c.0) ∙ ap (tail_of rest) (sym odd) ∙ met in
            elim which [ inl at_x ↦ one.4.0 (e ∙ at_x) | inr at_y ↦ one.4.1 (e ∙ at_y) ]
      ])

  firm_rest : (w : ℕ) → w < nodes → StaysWhole nodes rest (x ∷ y ∷ w ∷ [])
  firm_rest w w_in u v u_in v_in u_out v_out =
      let S = x ∷ y ∷ w ∷ [] in
      joined_within (away S ends) (away S rest) (λ i i_in.
      let found = filter_to (is_clear S) ends i i_in in
      let clear = clear_to S (ends_at ends found.0) found.3 in
      let one = out_three x y w _ clear.0 in
      let two = out_three x y w _ clear.1 in
      let again = filter_from (is_clear (x ∷ y ∷ [])) ends found.0 found.1 (clear_from (x ∷ y ∷ []) _ (two_out x y _ one.0 one.1) (two_out x y _ two.0 two.1)) in
      let P : ℕ × ℕ → Type 0 = λ p. Joined (away S rest) p.0 p.1 in
      subst P (again.2 ∙ sym found.2) (joined_away S rest again.0 again.1 (ap (λ p. has S p.0) again.2 ∙ clear.0) (ap (λ p. has S p.1) again.2 ∙ clear.1)))
      u v (firm w w_in u v u_in v_in u_out v_out)

  is_beside : AreStars nodes rest x y xs ys
  is_beside =
      let low = EndsIn_at nodes ends ends_in s s_in in
      record {
        x_in = low.0;
        y_in = low.1;
        two_ends = two_ends;
        ends_in = EndsIn-away nodes (x ∷ y ∷ []) ends ends_in;
        no_loop = λ i i_in same. let one = rest_clear i i_in in no_loop one.0 one.1 (ap (λ p. p.0) (sym one.2) ∙ same ∙ ap (λ p. p.1) one.2);
        x_lone = lone_in_rest x (inl refl);
        y_lone = lone_in_rest y (inr refl);
        x_heads = record { below = λ k d k_in. let one = head_of x y k (k_in) in heads_default xs k d k_in (one.0, one.1, one.2); once = passing_apart nodes (beside x y) };
        y_heads = record { below = λ k d k_in. let one = head_of y x k (k_in) in heads_default ys k d k_in (one.0, one.2, one.1); once = passing_apart nodes (beside y x) };
        firm = firm_rest;
      }
    where
      heads_default : (ks : List ℕ) (k d : ℕ) → k < length ks → (at ks k < nodes) × (at ks k ≢ x) × (at ks k ≢ y) →
          (slice_index_or ks k d < nodes) × (slice_index_or ks k d ≢ x) × (slice_index_or ks k d ≢ y)
      heads_default ks k d k_in h =
          let P : ℕ → Type 0 = λ v. (v < nodes) × (v ≢ x) × (v ≢ y) in
          subst P (get_or_default ks k 0 d k_in) h

  abbrev web : List (ℕ × ℕ)
  web = web_of_stars rest x y xs ys

  abbrev last : List (ℕ × ℕ)
  last = (x, y) ∷ []

  web_size : length web ≡ length rest + (length xs + (length ys + 1))
  web_size =
      let one = length-append rest (star x xs ++ (star y ys ++ last)) in
      let two = length-append (star x xs) (star y ys ++ last) in
      let three = length-append (star y ys) last in
      omega (arith, one, two, three, length-star x xs, length-star y ys)

  -- each segment of the one is one of the other
  there : AreAmong web ends
  there i i_in = elim (split_place rest (star x xs ++ (star y ys ++ last)) i i_in) [
    | inl in_rest ↦ let one = rest_clear i in_rest.0 in (one.0, one.1, same_is _ _ (in_rest.1 ∙ one.2))
    | inr more ↦ elim (split_place (star x xs) (star y ys ++ last) more.0 more.1) [
      | inl first ↦
          let k_in : more.0 < length xs = omega (arith, first.0, length-star x xs) in
          let head = head_of x y more.0 k_in in
          (head.3.0, head.3.1, same_trans _ _ _ (same_is _ _ (more.2 ∙ first.1 ∙ at_star x xs more.0 k_in)) (same_sym _ _ head.3.2))
      | inr further ↦ elim (split_place (star y ys) last further.0 further.1) [
        | inl second ↦
            let k_in : further.0 < length ys = omega (arith, second.0, length-star y ys) in
            let head = head_of y x further.0 k_in in
            (head.3.0, head.3.1, same_trans _ _ _ (same_is _ _ (more.2 ∙ further.2 ∙ second.1 ∙ at_star y ys further.0 k_in)) (same_sym _ _ head.3.2))
        | inr end ↦
            let zero_place : end.0 ≡ 0 = omega (arith, end.1) in
            (s, s_in, same_is _ _ (more.2 ∙ further.2 ∙ end.2 ∙ ap (ends_at last) zero_place))
      ]
    ]
  ]

  back : AreAmong ends web
  back t t_in =
      let p = ends_at ends t in
      elim (cases_eq p.0 x) [
        | inl first_x ↦ at_x p.1 (inl (first_x, refl))
        | inr first_not_x ↦ elim (cases_eq p.1 x) [
          | inl second_x ↦ at_x p.0 (inr (refl, second_x))
          | inr second_not_x ↦ elim (cases_eq p.0 y) [
            | inl first_y ↦ at_y p.1 (inl (first_y, refl)) second_not_x
            | inr first_not_y ↦ elim (cases_eq p.1 y) [
              | inl second_y ↦ at_y p.0 (inr (refl, second_y)) first_not_x
              | inr second_not_y ↦
                  let found = filter_from (is_clear (x ∷ y ∷ [])) ends t t_in (clear_from (x ∷ y ∷ []) p (two_out x y _ first_not_x first_not_y) (two_out x y _ second_not_x second_not_y)) in
                  (found.0, omega (arith, found.1, web_size), same_is _ _ (sym (at_rest rest x y xs ys last found.0 found.1 ∙ found.2)))
            ]
          ]
        ]
      ]
    where
      at_x : (v : ℕ) → SameEnds (ends_at ends t) (x, v) → (i : ℕ) × (i < length web) × SameEnds (ends_at ends t) (ends_at web i)
      at_x v same = elim (cases_eq v y) [
        | inl is_y ↦
            let i = length rest + (length xs + (length ys + 0)) in
            (i, omega (arith, web_size), same_trans _ _ _ same (same_is _ _ (ap (λ z. (x, z)) is_y ∙ sym (at_more rest x y xs ys last 0))))
        | inr other ↦
            let k = head_at x y v t t_in same other in
            (length rest + k.0, omega (arith, k.1, web_size), same_trans _ _ _ same (same_is _ _ (ap (λ z. (x, z)) (sym k.2) ∙ sym (at_first rest x y xs ys last k.0 k.1))))
      ]

      at_y : (v : ℕ) → SameEnds (ends_at ends t) (y, v) → v ≢ x → (i : ℕ) × (i < length web) × SameEnds (ends_at ends t) (ends_at web i)
      at_y v same other =
          let k = head_at y x v t t_in same other in
          (length rest + (length xs + k.0), omega (arith, k.1, web_size), same_trans _ _ _ same (same_is _ _ (ap (λ z. (y, z)) (sym k.2) ∙ sym (at_second rest x y xs ys last k.0 k.1))))

  different_star : (a b : ℕ) → AreDifferent (star a (heads a b))
  different_star a b i j i_in j_in same =
      let i_low : i < length (heads a b) = omega (arith, i_in, length-star a (heads a b)) in
      let j_low : j < length (heads a b) = omega (arith, j_in, length-star a (heads a b)) in
      let one = at_star a (heads a b) i i_low in
      let two = at_star a (heads a b) j j_low in
      elim same [
        | inl straight ↦ passing_apart nodes (beside a b) i j i_low j_low (ap (λ p. p.1) (sym one) ∙ straight.1 ∙ ap (λ p. p.1) two)
        | inr turned ↦ absurd ((head_of a b j j_low).1 (sym (ap (λ p. p.0) (sym one) ∙ turned.0 ∙ ap (λ p. p.1) two)))
      ]

  different_last : AreDifferent last
  different_last i j i_in j_in same = omega (arith, i_in, j_in)

  different_web : AreDifferent web
  different_web =
      different_append rest _ (different_filter (is_clear (x ∷ y ∷ [])) ends (different_from ends single))
      (different_append (star x xs) _ (different_star x y) (different_append (star y ys) last (different_star y x) different_last second_last) first_later) rest_later
    where
      at_last_place : (j : ℕ) → j < length last → ends_at last j ≡ (x, y)
      at_last_place j j_in = let zero_place : j ≡ 0 = omega (arith, j_in) in ap (ends_at last) zero_place

      -- a segment of the second star
      second_at : (j : ℕ) → j < length (star y ys) → (v : ℕ) × (ends_at (star y ys) j ≡ (y, v)) × (v ≢ y) × (v ≢ x)
      second_at j j_in =
          let j_low : j < length ys = omega (arith, j_in, length-star y ys) in
          let head = head_of y x j j_low in
          (at ys j, at_star y ys j j_low, head.1, head.2)

      first_at : (j : ℕ) → j < length (star x xs) → (v : ℕ) × (ends_at (star x xs) j ≡ (x, v)) × (v ≢ x) × (v ≢ y)
      first_at j j_in =
          let j_low : j < length xs = omega (arith, j_in, length-star x xs) in
          let head = head_of x y j j_low in
          (at xs j, at_star x xs j j_low, head.1, head.2)

      second_last : (i j : ℕ) → i < length (star y ys) → j < length last → SameEnds (ends_at (star y ys) i) (ends_at last j) → ⊥
      second_last i j i_in j_in same =
          let one = second_at i i_in in
          let e = at_last_place j j_in in
          elim same [
            | inl straight ↦ two_ends (sym (ap (λ p. p.0) (sym one.1) ∙ straight.0 ∙ ap (λ p. p.0) e))
            | inr turned ↦ one.3 (ap (λ p. p.1) (sym one.1) ∙ turned.1 ∙ ap (λ p. p.0) e)
          ]

      first_later : (i j : ℕ) → i < length (star x xs) → j < length (star y ys ++ last) → SameEnds (ends_at (star x xs) i) (ends_at (star y ys ++ last) j) → ⊥
      first_later i j i_in j_in same =
          let one = first_at i i_in in
          elim (split_place (star y ys) last j j_in) [
            | inl second ↦
                let two = second_at j second.0 in
                let e = second.1 ∙ two.1 in
                elim same [
                  | inl straight ↦ two_ends (ap (λ p. p.0) (sym one.1) ∙ straight.0 ∙ ap (λ p. p.0) e)
                  | inr turned ↦ two.3 (sym (ap (λ p. p.0) (sym one.1) ∙ turned.0 ∙ ap (λ p. p.1) e))
                ]
            | inr end ↦
                let e = end.2 ∙ at_last_place end.0 end.1 in
                elim same [
                  | inl straight ↦ one.3 (ap (λ p. p.1) (sym one.1) ∙ straight.1 ∙ ap (λ p. p.1) e)
                  | inr turned ↦ two_ends (ap (λ p. p.0) (sym one.1) ∙ turned.0 ∙ ap (λ p. p.1) e)
                ]
          ]

      -- a later segment has x or y as its first end
      later : (j : ℕ) → j < length (star x xs ++ (star y ys ++ last)) → ((ends_at (star x xs ++ (star y ys ++ last)) j).0 ≡ x) ⊎ ((ends_at (star x xs ++ (star y ys ++ last)) j).0 ≡ y)
      later j j_in = elim (split_place (star x xs) (star y ys ++ last) j j_in) [
        | inl first ↦ inl (ap (λ p. p.0) (first.1 ∙ (first_at j first.0).1))
        | inr more ↦ elim (split_place (star y ys) last more.0 more.1) [
          | inl second ↦ inr (ap (λ p. p.0) (more.2 ∙ second.1 ∙ (second_at more.0 second.0).1))
          | inr end ↦ inl (ap (λ p. p.0) (more.2 ∙ end.2 ∙ at_last_place end.0 end.1))
        ]
      ]

      rest_later : (i j : ℕ) → i < length rest → j < length (star x xs ++ (star y ys ++ last)) → SameEnds (ends_at rest i) (ends_at (star x xs ++ (star y ys ++ last)) j) → ⊥
      rest_later i j i_in j_in same =
          let one = rest_clear i i_in in
          let first : (ends_at rest i).0 ≡ (ends_at ends one.0).0 = ap (λ p. p.0) one.2 in
          let second : (ends_at rest i).1 ≡ (ends_at ends one.0).1 = ap (λ p. p.1) one.2 in
          elim (later j j_in) [
            | inl at_x ↦ elim same [
              | inl straight ↦ one.3.0 (sym first ∙ straight.0 ∙ at_x)
              | inr turned ↦ one.4.0 (sym second ∙ turned.1 ∙ at_x)
            ]
            | inr at_y ↦ elim same [
              | inl straight ↦ one.3.1 (sym first ∙ straight.0 ∙ at_y)
              | inr turned ↦ one.4.1 (sym second ∙ turned.1 ∙ at_y)
            ]
          ]

  with_stars : (rest : List (ℕ × ℕ)) × (xs ys : List ℕ) × (σ τ : ℕ → ℕ)
      × AreStars nodes rest (ends_at ends s).0 (ends_at ends s).1 xs ys × (length (web_of_stars rest (ends_at ends s).0 (ends_at ends s).1 xs ys) ≡ length ends)
      × IsSelection ends (web_of_stars rest (ends_at ends s).0 (ends_at ends s).1 xs ys) σ × IsSelection (web_of_stars rest (ends_at ends s).0 (ends_at ends s).1 xs ys) ends τ
  with_stars =
      let one = choice_among web ends different_web there in
      let two = choice_among ends web (different_from ends single) back in
      let low = part_no_longer web ends one.0 one.1 in
      let high = part_no_longer ends web two.0 two.1 in
      (rest, xs, ys, one.0, two.0, is_beside, omega (arith, low, high), one.1, two.1)

pub firm_segments_have_stars : FirmSegmentsHaveStars
firm_segments_have_stars nodes s ends ends_in no_loop single s_in firm = with_stars nodes s ends ends_in no_loop single s_in firm
