-- Faces have names, and a segment within a face leaves the others as they are.
use Rattle.std.proofs.Common.{◌≡◌, ◌≢◌, ℕ, zero, suc, ◌+◌, ◌*◌, ◌<◌, ◌⊎◌, inl, inr, Bool, true, false, not, ◌&&◌, cond, eqb, List, [], ◌∷◌, ◌++◌, length, refl, sym, ◌∙◌, ap, subst, arith, length-append}
use Rattle.std.specs.List.{list_any}
use Rattle.std.proofs.lemmas.Bool.{and_parts, both_ways, cases_eq, cond-true, cond-false, eq-eqb, eqb-false, eqb-true, ne_eqb, not-true, or_cases, or_left, or_right}
use Rattle.xn_model.specs.Lists.{one_if}
use Rattle.xn_model.specs.Map.{MeetsEuler, IsMap, face_step, reverse_of, tail_of}
use Rattle.xn_model.specs.Permutation.{Permutes, Reaches, iterate, walk}
use Rattle.xn_model.proofs.Darts.{reverse-even, reverse-odd, reverse_below, tail-push, tail-push_even, tail-push_odd}
use Rattle.xn_ring.proofs.Counting.{same_tests}
use Rattle.xn_ring.proofs.Orbits.{iterate-step, reaches_back, reaches_trans, source_of, within}
use Rattle.xn_genus.proofs.Counts.{Permutes-face}
use Rattle.xn_genus.proofs.Part.{index, index_is}
use Rattle.xn_surgery.specs.Corners.{after, stand_at}
use Rattle.xn_surgery.specs.Insertion.{IsInsertion}
use Rattle.xn_surgery.proofs.Insert.{map_more}
use Rattle.xn_surgery.proofs.InsertFlat.{insertion_flat}
use Rattle.xn_surgery.proofs.Stand.{stand_at_dart, stand_new, stand_other}
use Rattle.xn_loose.specs.Routes.{AreFaceNames, FacesHaveNames, IsWithin, StepsWithin}

-- ---- names

module _ (n : ℕ) (f : ℕ → ℕ) (permutes : Permutes n f) where
  -- the walk from d comes to j
  abbrev meets : ℕ → ℕ → Bool
  meets d j = list_any (λ x. eqb x j) (walk f n d)

  walk_to : (k d j : ℕ) → list_any (λ x. eqb x j) (walk f k d) ≡ true → Reaches f d j
  walk_to zero d j h = absurd (both_ways false refl h)
  walk_to (suc k) d j h = elim (or_cases (eqb d j) (list_any (λ x. eqb x j) (walk f k (f d))) h) [
    | inl here ↦ (0, eqb-true d j here)
    | inr later ↦ let r = walk_to k (f d) j later in (suc r.0, sym (iterate-step f r.0 d) ∙ r.1)
  ]

  walk_from : (k d j i : ℕ) → i < k → iterate f i d ≡ j → list_any (λ x. eqb x j) (walk f k d) ≡ true
  walk_from zero d j i i_in at = absurd (omega (arith, i_in))
  walk_from (suc k) d j zero i_in at = or_left (eqb d j) _ (eq-eqb d j at)
  walk_from (suc k) d j (suc i) i_in at = or_right (eqb d j) _ (walk_from k (f d) j i (omega (arith, i_in)) (iterate-step f i d ∙ at))

  meets_to : (d j : ℕ) → meets d j ≡ true → Reaches f d j
  meets_to d j h = walk_to n d j h

  meets_from : (d j : ℕ) → d < n → Reaches f d j → meets d j ≡ true
  meets_from d j d_in there = let early = within n f permutes d d_in there.0 in walk_from n d j early.0 early.1 (early.2 ∙ there.1)

  abbrev pub name_of : ℕ → ℕ
  name_of d = index n (λ j. one_if (meets d j)) 1

  name_there : (d : ℕ) → d < n → Reaches f d (name_of d)
  name_there d d_in =
      let own : one_if (meets d d) ≡ 1 = ap one_if (meets_from d d d_in (0, refl)) in
      let is = index_is n (λ j. one_if (meets d j)) 1 d d_in own in
      meets_to d (name_of d) (from_one (meets d (name_of d)) is.1)
    where
      from_one : (b : Bool) → one_if b ≡ 1 → b ≡ true
      from_one true e = refl
      from_one false e = absurd (omega (arith, e))

  pub name_same : (d e : ℕ) → d < n → e < n → Reaches f d e → name_of d ≡ name_of e
  name_same d e d_in e_in there =
      let back = reaches_back n f permutes d e d_in there in
      let same : (j : ℕ) → one_if (meets d j) ≡ one_if (meets e j) = λ j. ap one_if (same_tests (meets d j) (meets e j)
      (λ h. meets_from e j e_in (reaches_trans f e d j back (meets_to d j h)))
      (λ h. meets_from d j d_in (reaches_trans f d e j there (meets_to e j h)))) in
      let g : (λ j. one_if (meets d j)) ≡ (λ j. one_if (meets e j)) = λ i j. same j i in
      ap (λ t. index n t 1) g

  pub name_one : (d e : ℕ) → d < n → e < n → name_of d ≡ name_of e → Reaches f d e
  name_one d e d_in e_in same =
      let there = name_there d d_in in
      let back = reaches_back n f permutes e (name_of e) e_in (name_there e e_in) in
      let P : ℕ → Type 0 = λ x. Reaches f d x in
      reaches_trans f d (name_of e) e (subst P same there) back

pub faces_have_names : FacesHaveNames
faces_have_names nodes ends next map =
    let n = 2 * length ends in
    let f = face_step next in
    let permutes = Permutes-face (length ends) next map.permutes in (
      name_of n f permutes,
      record {
        keeps = λ d d_in. sym (name_same n f permutes d (f d) d_in (permutes.below d d_in) (1, refl));
        one = λ d e d_in e_in h same. name_one n f permutes d e d_in e_in same;
      },
    )

-- ---- a segment within a face

module _ (nodes : ℕ) (ends : List (ℕ × ℕ)) (next name : ℕ → ℕ) (whole : ℕ → Bool) (map : IsMap nodes ends next) (flat : MeetsEuler nodes ends next)
    (faces : AreFaceNames ends next name whole) (y z : ℕ) (y_in : y < 2 * length ends) (z_in : z < 2 * length ends) (is_whole : whole (name y) ≡ true)
    (one_name : name y ≡ name z) (two_nodes : tail_of ends y ≢ tail_of ends z) (c p : ℕ) (c_in : c < 2 * length ends) (p_in : p < 2 * length ends)
    (c_to_y : next c ≡ y) (p_to_z : next p ≡ z) (ends2 : List (ℕ × ℕ)) (turn2 : ℕ → ℕ) (comes : IsInsertion nodes ends next (after c) (after p) ends2 turn2) where
  tail_c : tail_of ends c ≡ tail_of ends y
  tail_c = sym (map.same_node c c_in) ∙ ap (tail_of ends) c_to_y

  tail_p : tail_of ends p ≡ tail_of ends z
  tail_p = sym (map.same_node p p_in) ∙ ap (tail_of ends) p_to_z

  c_p : c ≢ p
  c_p same = two_nodes (sym tail_c ∙ ap (tail_of ends) same ∙ tail_p)

  abbrev a : ℕ
  a = 2 * length ends

  abbrev b : ℕ
  b = 2 * length ends + 1

  abbrev inner : ℕ → ℕ
  inner = stand_at (after p) b next

  one_face : Reaches (face_step next) (next c) (next p)
  one_face =
      let there = faces.one y z y_in z_in is_whole one_name in
      (there.0, ap (iterate (face_step next) there.0) c_to_y ∙ there.1 ∙ sym p_to_z)

  size2 : length ends2 ≡ suc (length ends)
  size2 = let sum = length-append ends ((tail_of ends c, tail_of ends p) ∷ []) in let is = ap length comes.ends_more in omega (arith, sum, is)

  c_low : c < 2 * length ends
  c_low = c_in

  p_low : p < 2 * length ends
  p_low = p_in

  turn_is : (x : ℕ) → x < 2 * length ends2 → turn2 x ≡ stand_at (after c) a inner x
  turn_is x x_in = comes.turns x (omega (arith, x_in, size2))

  turn_c : turn2 c ≡ a
  turn_c = turn_is c (omega (arith, c_low, size2)) ∙ stand_at_dart c a inner

  turn_a : turn2 a ≡ y
  turn_a = turn_is a (omega (arith, size2)) ∙ stand_new c a inner (λ e. omega (arith, e, c_low)) ∙ stand_other p b next c c_p (λ e. omega (arith, e, c_low)) ∙ c_to_y

  turn_else : (x : ℕ) → x < 2 * length ends → x ≢ c → x ≢ p → turn2 x ≡ next x
  turn_else x x_in not_c not_p =
      turn_is x (omega (arith, x_in, size2)) ∙ stand_other c a inner x not_c (λ e. omega (arith, e, x_in)) ∙ stand_other p b next x not_p (λ e. omega (arith, e, x_in))

  turn_p : turn2 p ≡ b
  turn_p = turn_is p (omega (arith, p_low, size2)) ∙ stand_other c a inner p (λ e. c_p (sym e)) (λ e. omega (arith, e, p_low)) ∙ stand_at_dart p b next

  turn_b : turn2 b ≡ z
  turn_b = turn_is b (omega (arith, size2)) ∙ stand_other c a inner b (λ e. omega (arith, e, c_low)) (λ e. omega (arith, e))
      ∙ stand_new p b next (λ e. omega (arith, e, p_low)) ∙ p_to_z

  abbrev pub names2 : ℕ → ℕ
  names2 x = cond (eqb x a) (name y) (cond (eqb x b) (name y) (name x))

  names_a : names2 a ≡ name y
  names_a = cond-true _ _ _ (eq-eqb a a refl)

  names_b : names2 b ≡ name y
  names_b = cond-false _ _ _ (ne_eqb b a (λ e. omega (arith, e))) ∙ cond-true _ _ _ (eq-eqb b b refl)

  names_low : (x : ℕ) → x < 2 * length ends → names2 x ≡ name x
  names_low x x_in = cond-false _ _ _ (ne_eqb x a (λ e. omega (arith, e, x_in))) ∙ cond-false _ _ _ (ne_eqb x b (λ e. omega (arith, e, x_in)))

  names_at : (x : ℕ) → x < 2 * length ends → (reverse_of x ≡ c) ⊎ (reverse_of x ≡ p) → name x ≡ name y
  names_at x x_in (inl is) = sym (faces.keeps x x_in) ∙ ap (λ k. name (next k)) is ∙ ap name c_to_y
  names_at x x_in (inr is) = sym (faces.keeps x x_in) ∙ ap (λ k. name (next k)) is ∙ ap name p_to_z ∙ sym one_name

  keeps_low : (x : ℕ) → x < 2 * length ends → names2 (turn2 (reverse_of x)) ≡ names2 x
  keeps_low x x_in =
      let r_in = reverse_below (length ends) x x_in in
      elim (cases_eq (reverse_of x) c) [
        | inl is ↦ ap (λ k. names2 (turn2 k)) is ∙ ap names2 turn_c ∙ names_a ∙ sym (names_at x x_in (inl is)) ∙ sym (names_low x x_in)
        | inr not_c ↦ elim (cases_eq (reverse_of x) p) [
          | inl is ↦ ap (λ k. names2 (turn2 k)) is ∙ ap names2 turn_p ∙ names_b ∙ sym (names_at x x_in (inr is)) ∙ sym (names_low x x_in)
          | inr not_p ↦ ap names2 (turn_else (reverse_of x) r_in not_c not_p) ∙ names_low (next (reverse_of x)) (map.permutes.below (reverse_of x) r_in) ∙ faces.keeps x x_in ∙ sym (names_low x x_in)
        ]
      ]

  keeps_all : (x : ℕ) → x < 2 * length ends2 → names2 (face_step turn2 x) ≡ names2 x
  keeps_all x x_in = elim (cases_eq x a) [
    | inl e ↦ ap (λ k. names2 (turn2 (reverse_of k))) e ∙ ap (λ k. names2 (turn2 k)) (reverse-even (length ends)) ∙ ap names2 turn_b ∙ names_low z z_in ∙ sym one_name ∙ sym names_a ∙ ap names2 (sym e)
    | inr not_a ↦ elim (cases_eq x b) [
      | inl e ↦ ap (λ k. names2 (turn2 (reverse_of k))) e ∙ ap (λ k. names2 (turn2 k)) (reverse-odd (length ends)) ∙ ap names2 turn_a ∙ names_low y y_in ∙ sym names_b ∙ ap names2 (sym e)
      | inr not_b ↦ keeps_low x (omega (arith, x_in, size2, not_a, not_b))
    ]
  ]

  other_low : (x : ℕ) → x < 2 * length ends2 → names2 x ≢ name y → (x < 2 * length ends) × (name x ≢ name y)
  other_low x x_in other =
      let not_a : x ≢ a = λ e. other (ap names2 e ∙ names_a) in
      let not_b : x ≢ b = λ e. other (ap names2 e ∙ names_b) in
      let low : x < 2 * length ends = omega (arith, x_in, size2, not_a, not_b) in
      (low, λ same. other (names_low x low ∙ same))

  walk_on : (k x : ℕ) → x < 2 * length ends → name x ≢ name y → (iterate (face_step turn2) k x ≡ iterate (face_step next) k x) × (iterate (face_step next) k x < 2 * length ends)
      × (name (iterate (face_step next) k x) ≡ name x)
  walk_on zero x x_in other = (refl, x_in, refl)
  walk_on (suc k) x x_in other =
      let so_far = walk_on k x x_in other in
      let u = iterate (face_step next) k x in
      let r_in = reverse_below (length ends) u so_far.1 in
      let not_y : name u ≢ name y = λ same. other (sym so_far.2 ∙ same) in (
        ap (face_step turn2) so_far.0 ∙ turn_else (reverse_of u) r_in (λ is. not_y (names_at u so_far.1 (inl is))) (λ is. not_y (names_at u so_far.1 (inr is))),
        map.permutes.below (reverse_of u) r_in,
        faces.keeps u so_far.1 ∙ so_far.2,
      )

  faces2 : AreFaceNames ends2 turn2 names2 (λ k. whole k && not (eqb k (name y)))
  faces2 = record {
    keeps = keeps_all;
    one = λ u e u_in e_in h same.
        let parts : (whole (names2 u) ≡ true) × (not (eqb (names2 u) (name y)) ≡ true) = and_parts _ _ h in
        let other : names2 u ≢ name y = eqb-false _ _ (not-true _ parts.1) in
        let u_low = other_low u u_in other in
        let e_low = other_low e e_in (λ at. other (same ∙ at)) in
        let u_name = names_low u u_low.0 in
        let e_name = names_low e e_low.0 in
        let there = faces.one u e u_low.0 e_low.0 (ap whole (sym u_name) ∙ parts.0) (sym u_name ∙ same ∙ e_name) in
        (there.0, (walk_on there.0 u u_low.0 u_low.1).0 ∙ there.1);
  }

  pub is_within : IsWithin nodes ends next name whole y z ends2 turn2 names2
  is_within = record {
    is_map = map_more nodes ends ends2 (after c) (after p) next turn2 map comes;
    flat = insertion_flat nodes ends ends2 (after c) (after p) next turn2 map comes (inl one_face) flat;
    size = size2;
    tails = λ x x_in. ap (λ l. tail_of l x) comes.ends_more ∙ tail-push ends _ x x_in;
    tail_from = ap (λ l. tail_of l a) comes.ends_more ∙ tail-push_even ends (tail_of ends c, tail_of ends p) ∙ tail_c;
    tail_to = ap (λ l. tail_of l b) comes.ends_more ∙ tail-push_odd ends (tail_of ends c, tail_of ends p) ∙ tail_p;
    turns = λ x x_in not_y not_z. turn_else x x_in (λ e. not_y (ap next e ∙ c_to_y)) (λ e. not_z (ap next e ∙ p_to_z));
    turns_in = λ x x_in is. let e : x ≡ c = map.permutes.apart x c x_in c_low (is ∙ sym c_to_y) in ap turn2 e ∙ turn_c;
    turns_from = turn_a;
    turns_back = λ x x_in is. let e : x ≡ p = map.permutes.apart x p x_in p_low (is ∙ sym p_to_z) in ap turn2 e ∙ turn_p;
    turns_to = turn_b;
    faces = faces2;
    names_kept = names_low;
  }

pub steps_within : StepsWithin
steps_within nodes ends next name whole map flat faces y z y_in z_in is_whole same apart =
    let c = source_of (2 * length ends) next map.permutes y y_in in
    let p = source_of (2 * length ends) next map.permutes z z_in in
    let more = ends ++ (tail_of ends c.0, tail_of ends p.0) ∷ [] in
    let turn = stand_at (after c.0) (2 * length ends) (stand_at (after p.0) (2 * length ends + 1) next) in
    let at_c : tail_of ends c.0 ≡ tail_of ends y = sym (map.same_node c.0 c.1) ∙ ap (tail_of ends) c.2 in
    let at_p : tail_of ends p.0 ≡ tail_of ends z = sym (map.same_node p.0 p.1) ∙ ap (tail_of ends) p.2 in
    let comes : IsInsertion nodes ends next (after c.0) (after p.0) more turn = record {
      first = c.1;
      second = p.1;
      two_nodes = λ one. apart (sym at_c ∙ one ∙ at_p);
      ends_more = refl;
      turns = λ x x_in. refl;
    } in (
      more,
      turn,
      names2 nodes ends next name whole map flat faces y z y_in z_in is_whole same apart c.0 p.0 c.1 p.1 c.2 p.2 more turn comes,
      is_within nodes ends next name whole map flat faces y z y_in z_in is_whole same apart c.0 p.0 c.1 p.1 c.2 p.2 more turn comes,
    )
