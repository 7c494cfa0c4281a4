-- A step of a new edge across a segment: the segment is divided, and a segment leads there within the face.
use Rattle.std.proofs.Common.{◌≡◌, ◌≢◌, ℕ, zero, suc, ◌+◌, ◌*◌, ◌/◌, ◌%◌, ◌<◌, ◌⊎◌, inl, inr, Bool, true, not, ◌&&◌, cond, eqb, List, [], ◌∷◌, ◌++◌, length, refl, sym, ◌∙◌, ap, arith, length-append}
use Rattle.std.proofs.lemmas.Bool.{and_parts, cases_eq, cond-true, cond-false, eq-eqb, eqb-false, ne_eqb, not-true}
use Rattle.xn_model.specs.Map.{MeetsEuler, IsMap, face_step, reverse_of, tail_of}
use Rattle.xn_model.specs.Permutation.{Reaches, iterate}
use Rattle.xn_surgery.specs.Subdivision.{IsSubdivision, dart_now}
use Rattle.xn_model.proofs.Darts.{reverse-even, reverse-odd, reverse_below, tail-push, tail-push_even, tail-push_odd}
use Rattle.xn_ring.proofs.Orbits.{source_of}
use Rattle.xn_genus.proofs.Compress.{tail_in}
use Rattle.xn_surgery.specs.Corners.{after, stand_at}
use Rattle.xn_surgery.specs.Insertion.{IsInsertion}
use Rattle.xn_surgery.proofs.Insert.{map_more}
use Rattle.xn_surgery.proofs.InsertFlat.{insertion_flat}
use Rattle.xn_surgery.proofs.Stand.{stand_at_dart, stand_new, stand_other}
use Rattle.xn_loose.specs.Routes.{AreFaceNames, IsAcross, StepsAcross, dart_back, dart_on}
use Rattle.xn_loose.proofs.Divide as divide
use Rattle.xn_loose.proofs.SomeDivision.{some_division}

module _ (nodes : ℕ) (ends : List (ℕ × ℕ)) (next name : ℕ → ℕ) (whole : ℕ → Bool) (map : IsMap nodes ends next) (flat : MeetsEuler nodes ends next)
    (faces : AreFaceNames ends next name whole) (y d : ℕ) (y_in : y < 2 * length ends) (d_in : d < 2 * length ends) (is_whole : whole (name y) ≡ true)
    (one_name : name y ≡ name d) (ends1 : List (ℕ × ℕ)) (turn1 : ℕ → ℕ) (divides : IsSubdivision nodes ends next (d / 2) ends1 turn1) where
  abbrev pub last : ℕ
  last = length ends

  abbrev pub s : ℕ
  s = d / 2

  pub s_in : s < length ends
  s_in = omega (arith, d_in)

  abbrev pub now : ℕ → ℕ
  now = dart_now (d / 2) (length ends)

  abbrev pub names1 : ℕ → ℕ
  names1 = divide.names nodes ends next name whole map flat faces s s_in ends1 turn1 divides

  map1 : IsMap (suc nodes) ends1 turn1
  map1 = divide.divided_map nodes ends next name whole map flat faces s s_in ends1 turn1 divides

  faces1 : AreFaceNames ends1 turn1 names1 whole
  faces1 = divide.divided_faces nodes ends next name whole map flat faces s s_in ends1 turn1 divides

  size1 : length ends1 ≡ suc last
  size1 = divide.size nodes ends next name whole map flat faces s s_in ends1 turn1 divides

  abbrev pub q : ℕ
  q = dart_on last d

  abbrev pub p : ℕ
  p = dart_back last d

  sides : ((d ≡ 2 * s) × (q ≡ 2 * last) × (p ≡ 2 * s + 1)) ⊎ ((d ≡ 2 * s + 1) × (q ≡ 2 * s + 1) × (p ≡ 2 * last))
  sides = elim (cases_eq (d % 2) 0) [
    | inl even ↦ inl (omega (arith, even), cond-true _ _ _ (eq-eqb _ _ even), cond-true _ _ _ (eq-eqb _ _ even))
    | inr odd ↦ inr (omega (arith, odd), cond-false _ _ _ (ne_eqb _ _ odd), cond-false _ _ _ (ne_eqb _ _ odd))
  ]

  mid_last : turn1 (2 * s + 1) ≡ 2 * last
  mid_last = divide.after_mid nodes ends next name whole map flat faces s s_in ends1 turn1 divides

  last_mid : turn1 (2 * last) ≡ 2 * s + 1
  last_mid = divide.after_last nodes ends next name whole map flat faces s s_in ends1 turn1 divides

  p_q : turn1 p ≡ q
  p_q = elim sides [ inl e ↦ ap turn1 e.2 ∙ mid_last ∙ sym e.1 | inr e ↦ ap turn1 e.2 ∙ last_mid ∙ sym e.1 ]

  q_p : turn1 q ≡ p
  q_p = elim sides [ inl e ↦ ap turn1 e.1 ∙ last_mid ∙ sym e.2 | inr e ↦ ap turn1 e.1 ∙ mid_last ∙ sym e.2 ]

  tail_mid : tail_of ends1 (2 * s + 1) ≡ nodes
  tail_mid = divide.tail_mid nodes ends next name whole map flat faces s s_in ends1 turn1 divides

  tail_last : tail_of ends1 (2 * last) ≡ nodes
  tail_last = divide.tail_last nodes ends next name whole map flat faces s s_in ends1 turn1 divides

  tail_p : tail_of ends1 p ≡ nodes
  tail_p = elim sides [ inl e ↦ ap (tail_of ends1) e.2 ∙ tail_mid | inr e ↦ ap (tail_of ends1) e.2 ∙ tail_last ]

  tail_q : tail_of ends1 q ≡ nodes
  tail_q = elim sides [ inl e ↦ ap (tail_of ends1) e.1 ∙ tail_last | inr e ↦ ap (tail_of ends1) e.1 ∙ tail_mid ]

  pub p_in : p < 2 * length ends1
  p_in = omega (arith, sides, size1, s_in)

  q_in : q < 2 * length ends1
  q_in = omega (arith, sides, size1, s_in)

  pub now_in : (x : ℕ) → x < 2 * last → now x < 2 * length ends1
  now_in x x_in = let c = divide.now_cases nodes ends next name whole map flat faces s s_in ends1 turn1 divides x in omega (arith, c, x_in, size1)

  now_tail : (x : ℕ) → x < 2 * last → tail_of ends1 (now x) ≡ tail_of ends x
  now_tail = divide.tails nodes ends next name whole map flat faces s s_in ends1 turn1 divides

  old_low : (x : ℕ) → x < 2 * last → tail_of ends x < nodes
  old_low x x_in = tail_in nodes ends map.ends_in x x_in

  pub now_turn : (x : ℕ) → x < 2 * last → turn1 (now x) ≡ now (next x)
  now_turn = divide.after_now nodes ends next name whole map flat faces s s_in ends1 turn1 divides

  names_q : names1 q ≡ name y
  names_q = elim sides [
    | inl e ↦ ap names1 e.1 ∙ divide.names_last nodes ends next name whole map flat faces s s_in ends1 turn1 divides ∙ ap name (sym e.0) ∙ sym one_name
    | inr e ↦ ap names1 e.1 ∙ divide.names_old nodes ends next name whole map flat faces s s_in ends1 turn1 divides (2 * s + 1) (omega (arith, s_in)) ∙ ap name (sym e.0) ∙ sym one_name
  ]

  names_p : names1 p ≡ name (reverse_of d)
  names_p = elim sides [
    | inl e ↦ ap names1 e.2 ∙ divide.names_old nodes ends next name whole map flat faces s s_in ends1 turn1 divides (2 * s + 1) (omega (arith, s_in)) ∙ ap name (sym (reverse-even s) ∙ ap reverse_of (sym e.0))
    | inr e ↦ ap names1 e.2 ∙ divide.names_last nodes ends next name whole map flat faces s s_in ends1 turn1 divides ∙ ap name (sym (reverse-odd s) ∙ ap reverse_of (sym e.0))
  ]

  names_y : names1 (now y) ≡ name y
  names_y = divide.names_now nodes ends next name whole map flat faces s s_in ends1 turn1 divides y y_in

  -- the corner before y is in one face with that at the new node
  pub one_face_before : (c : ℕ) → c < 2 * length ends1 → turn1 c ≡ now y → Reaches (face_step turn1) (turn1 c) (turn1 p)
  one_face_before c c_in c_to_y =
      let there = faces1.one (now y) q (now_in y y_in) q_in (ap whole names_y ∙ is_whole) (names_y ∙ sym names_q) in
      (there.0, ap (iterate (face_step turn1) there.0) c_to_y ∙ there.1 ∙ sym p_q)

  -- the dart before the corner is at another node than the new one
  pub tail_before : (c : ℕ) → c < 2 * length ends1 → turn1 c ≡ now y → tail_of ends1 c ≡ tail_of ends y
  tail_before c c_in c_to_y = sym (map1.same_node c c_in) ∙ ap (tail_of ends1) c_to_y ∙ now_tail y y_in

  pub corners_apart : (c : ℕ) → c < 2 * length ends1 → turn1 c ≡ now y → tail_of ends1 c ≢ tail_of ends1 p
  corners_apart c c_in c_to_y same = let low = old_low y y_in in let at = sym (tail_before c c_in c_to_y) ∙ same ∙ tail_p in omega (arith, low, at)

  module _ (c : ℕ) (c_in : c < 2 * length ends1) (c_to_y : turn1 c ≡ dart_now (d / 2) (length ends) y) (ends2 : List (ℕ × ℕ)) (turn2 : ℕ → ℕ)
      (comes : IsInsertion (suc nodes) ends1 turn1 (after c) (after (dart_back (length ends) d)) ends2 turn2) where
    tail_c : tail_of ends1 c ≡ tail_of ends y
    tail_c = tail_before c c_in c_to_y

    c_p : c ≢ p
    c_p same = let low = old_low y y_in in let at = sym tail_c ∙ ap (tail_of ends1) same ∙ tail_p in omega (arith, low, at)

    c_q : c ≢ q
    c_q same = let low = old_low y y_in in let at = sym tail_c ∙ ap (tail_of ends1) same ∙ tail_q in omega (arith, low, at)

    p_not_q : p ≢ q
    p_not_q same = omega (arith, same, sides, s_in)

    abbrev a : ℕ
    a = 2 * length ends1

    abbrev b : ℕ
    b = 2 * length ends1 + 1

    abbrev inner : ℕ → ℕ
    inner = stand_at (after p) b turn1

    one_face : Reaches (face_step turn1) (turn1 c) (turn1 p)
    one_face = one_face_before c c_in c_to_y

    map2 : IsMap (suc nodes) ends2 turn2
    map2 = map_more (suc nodes) ends1 ends2 (after c) (after p) turn1 turn2 map1 comes

    flat2 : MeetsEuler (suc nodes) ends2 turn2
    flat2 = insertion_flat (suc nodes) ends1 ends2 (after c) (after p) turn1 turn2 map1 comes (inl one_face) (divide.divided_flat nodes ends next name whole map flat faces s s_in ends1 turn1 divides)

    size2 : length ends2 ≡ suc (length ends1)
    size2 = let sum = length-append ends1 ((tail_of ends1 c, tail_of ends1 p) ∷ []) in let is = ap length comes.ends_more in omega (arith, sum, is)

    -- the tails
    tail_old : (x : ℕ) → x < 2 * length ends1 → tail_of ends2 x ≡ tail_of ends1 x
    tail_old x x_in = ap (λ l. tail_of l x) comes.ends_more ∙ tail-push ends1 _ x x_in

    tail_a : tail_of ends2 a ≡ tail_of ends1 c
    tail_a = ap (λ l. tail_of l a) comes.ends_more ∙ tail-push_even ends1 (tail_of ends1 c, tail_of ends1 p)

    tail_b : tail_of ends2 b ≡ tail_of ends1 p
    tail_b = ap (λ l. tail_of l b) comes.ends_more ∙ tail-push_odd ends1 (tail_of ends1 c, tail_of ends1 p)

    -- ---- the turns

    c_low : c < 2 * length ends1
    c_low = c_in

    turn_is : (x : ℕ) → x < 2 * length ends2 → turn2 x ≡ stand_at (after c) a inner x
    turn_is x x_in = comes.turns x (omega (arith, x_in, size2))

    turn_c : turn2 c ≡ a
    turn_c = turn_is c (omega (arith, c_low, size2)) ∙ stand_at_dart c a inner

    turn_a : turn2 a ≡ now y
    turn_a = turn_is a (omega (arith, size2)) ∙ stand_new c a inner (λ e. omega (arith, e, c_low)) ∙ stand_other p b turn1 c c_p (λ e. omega (arith, e, c_low)) ∙ c_to_y

    turn_else : (x : ℕ) → x < 2 * length ends1 → x ≢ c → x ≢ p → turn2 x ≡ turn1 x
    turn_else x x_in not_c not_p =
        turn_is x (omega (arith, x_in, size2)) ∙ stand_other c a inner x not_c (λ e. omega (arith, e, x_in)) ∙ stand_other p b turn1 x not_p (λ e. omega (arith, e, x_in))

    turn_p : turn2 p ≡ b
    turn_p = turn_is p (omega (arith, p_in, size2)) ∙ stand_other c a inner p (λ e. c_p (sym e)) (λ e. omega (arith, e, p_in)) ∙ stand_at_dart p b turn1

    turn_b : turn2 b ≡ q
    turn_b = turn_is b (omega (arith, size2)) ∙ stand_other c a inner b (λ e. omega (arith, e, c_low)) (λ e. omega (arith, e))
        ∙ stand_new p b turn1 (λ e. omega (arith, e, p_in)) ∙ p_q

    turn_q : turn2 q ≡ p
    turn_q = turn_else q q_in (λ e. c_q (sym e)) (λ e. p_not_q (sym e)) ∙ q_p

    now_not_p : (x : ℕ) → x < 2 * last → now x ≢ p
    now_not_p x x_in same = let low = old_low x x_in in let at = sym (now_tail x x_in) ∙ ap (tail_of ends1) same ∙ tail_p in omega (arith, low, at)

    now_apart : (x z : ℕ) → x < 2 * last → z < 2 * last → now x ≡ now z → x ≡ z
    now_apart x z x_in z_in same =
        let one = divide.now_cases nodes ends next name whole map flat faces s s_in ends1 turn1 divides x in
        let two = divide.now_cases nodes ends next name whole map flat faces s s_in ends1 turn1 divides z in
        omega (arith, one, two, same, x_in, z_in)

    -- ---- the names of the faces

    abbrev pub names2 : ℕ → ℕ
    names2 x = cond (eqb x a) (name y) (cond (eqb x b) (name y) (names1 x))

    names_a : names2 a ≡ name y
    names_a = cond-true _ _ _ (eq-eqb a a refl)

    names_b : names2 b ≡ name y
    names_b = cond-false _ _ _ (ne_eqb b a (λ e. omega (arith, e))) ∙ cond-true _ _ _ (eq-eqb b b refl)

    names_low : (x : ℕ) → x < 2 * length ends1 → names2 x ≡ names1 x
    names_low x x_in = cond-false _ _ _ (ne_eqb x a (λ e. omega (arith, e, x_in))) ∙ cond-false _ _ _ (ne_eqb x b (λ e. omega (arith, e, x_in)))

    -- the faces of these darts have the name of y
    names_at : (z : ℕ) → z < 2 * length ends1 → (reverse_of z ≡ c) ⊎ (reverse_of z ≡ p) → names1 z ≡ name y
    names_at z z_in (inl is) = sym (faces1.keeps z z_in) ∙ ap (λ k. names1 (turn1 k)) is ∙ ap names1 c_to_y ∙ names_y
    names_at z z_in (inr is) = sym (faces1.keeps z z_in) ∙ ap (λ k. names1 (turn1 k)) is ∙ ap names1 p_q ∙ names_q

    keeps_low : (z : ℕ) → z < 2 * length ends1 → names2 (turn2 (reverse_of z)) ≡ names2 z
    keeps_low z z_in =
        let r_in = reverse_below (length ends1) z z_in in
        elim (cases_eq (reverse_of z) c) [
          | inl is ↦ ap (λ k. names2 (turn2 k)) is ∙ ap names2 turn_c ∙ names_a ∙ sym (names_at z z_in (inl is)) ∙ sym (names_low z z_in)
          | inr not_c ↦ elim (cases_eq (reverse_of z) p) [
            | inl is ↦ ap (λ k. names2 (turn2 k)) is ∙ ap names2 turn_p ∙ names_b ∙ sym (names_at z z_in (inr is)) ∙ sym (names_low z z_in)
            | inr not_p ↦
                ap names2 (turn_else (reverse_of z) r_in not_c not_p) ∙ names_low (turn1 (reverse_of z)) (map1.permutes.below (reverse_of z) r_in) ∙ faces1.keeps z z_in ∙ sym (names_low z z_in)
          ]
        ]

    keeps_all : (z : ℕ) → z < 2 * length ends2 → names2 (face_step turn2 z) ≡ names2 z
    keeps_all z z_in = elim (cases_eq z a) [
      | inl e ↦ ap (λ k. names2 (turn2 (reverse_of k))) e ∙ ap (λ k. names2 (turn2 k)) (reverse-even (length ends1)) ∙ ap names2 turn_b ∙ names_low q q_in ∙ names_q ∙ sym names_a ∙ ap names2 (sym e)
      | inr not_a ↦ elim (cases_eq z b) [
        | inl e ↦
            ap (λ k. names2 (turn2 (reverse_of k))) e ∙ ap (λ k. names2 (turn2 k)) (reverse-odd (length ends1)) ∙ ap names2 turn_a ∙ names_low (now y) (now_in y y_in) ∙ names_y
            ∙ sym names_b ∙ ap names2 (sym e)
        | inr not_b ↦ keeps_low z (omega (arith, z_in, size2, not_a, not_b))
      ]
    ]

    -- a dart of another name is an old one, and its face is as it was
    other_low : (z : ℕ) → z < 2 * length ends2 → names2 z ≢ name y → (z < 2 * length ends1) × (names1 z ≢ name y)
    other_low z z_in other =
        let not_a : z ≢ a = λ e. other (ap names2 e ∙ names_a) in
        let not_b : z ≢ b = λ e. other (ap names2 e ∙ names_b) in
        let low : z < 2 * length ends1 = omega (arith, z_in, size2, not_a, not_b) in
        (low, λ same. other (names_low z low ∙ same))

    walk_on : (k z : ℕ) → z < 2 * length ends1 → names1 z ≢ name y → (iterate (face_step turn2) k z ≡ iterate (face_step turn1) k z) × (iterate (face_step turn1) k z < 2 * length ends1)
        × (names1 (iterate (face_step turn1) k z) ≡ names1 z)
    walk_on zero z z_in other = (refl, z_in, refl)
    walk_on (suc k) z z_in other =
        let so_far = walk_on k z z_in other in
        let x = iterate (face_step turn1) k z in
        let r_in = reverse_below (length ends1) x so_far.1 in
        let not_y : names1 x ≢ name y = λ same. other (sym so_far.2 ∙ same) in (
          ap (face_step turn2) so_far.0 ∙ turn_else (reverse_of x) r_in (λ is. not_y (names_at x so_far.1 (inl is))) (λ is. not_y (names_at x so_far.1 (inr is))),
          map1.permutes.below (reverse_of x) r_in,
          faces1.keeps x so_far.1 ∙ so_far.2,
        )

    faces2 : AreFaceNames ends2 turn2 names2 (λ k. whole k && not (eqb k (name y)))
    faces2 = record {
      keeps = keeps_all;
      one = λ z e z_in e_in h same.
          let parts : (whole (names2 z) ≡ true) × (not (eqb (names2 z) (name y)) ≡ true) = and_parts _ _ h in
          let other : names2 z ≢ name y = eqb-false _ _ (not-true _ parts.1) in
          let z_low = other_low z z_in other in
          let e_low = other_low e e_in (λ at. other (same ∙ at)) in
          let z_name = names_low z z_low.0 in
          let e_name = names_low e e_low.0 in
          let there = faces1.one z e z_low.0 e_low.0 (ap whole (sym z_name) ∙ parts.0) (sym z_name ∙ same ∙ e_name) in
          (there.0, (walk_on there.0 z z_low.0 z_low.1).0 ∙ there.1);
    }

    a_is : a ≡ 2 * suc last
    a_is = omega (arith, size1)

    b_is : b ≡ 2 * suc last + 1
    b_is = omega (arith, size1)

    pub across : IsAcross nodes ends next name whole y d ends2 turn2 names2
    across = record {
      is_map = map2;
      flat = flat2;
      size = omega (arith, size1, size2);
      tails = λ x x_in. tail_old (now x) (now_in x x_in) ∙ now_tail x x_in;
      tail_on = tail_old q q_in ∙ tail_q;
      tail_back = tail_old p p_in ∙ tail_p;
      tail_from = ap (tail_of ends2) (sym a_is) ∙ tail_a ∙ tail_c;
      tail_to = ap (tail_of ends2) (sym b_is) ∙ tail_b ∙ tail_p;
      turns = λ x x_in other. turn_else (now x) (now_in x x_in)
          (λ e. other (now_apart (next x) y (map.permutes.below x x_in) y_in (sym (now_turn x x_in) ∙ ap turn1 e ∙ c_to_y))) (now_not_p x x_in) ∙ now_turn x x_in;
      turns_in = λ x x_in is.
          let e : now x ≡ c = map1.permutes.apart (now x) c (now_in x x_in) c_low (now_turn x x_in ∙ ap now is ∙ sym c_to_y) in
          ap turn2 e ∙ turn_c ∙ a_is;
      turns_from = ap turn2 (sym a_is) ∙ turn_a;
      turns_back = turn_p ∙ b_is;
      turns_to = ap turn2 (sym b_is) ∙ turn_b;
      turns_on = turn_q;
      faces = faces2;
      names_kept = λ x x_in. names_low x (omega (arith, x_in, size1)) ∙ divide.names_old nodes ends next name whole map flat faces s s_in ends1 turn1 divides x x_in;
      names_now = λ x x_in. names_low (now x) (now_in x x_in) ∙ divide.names_now nodes ends next name whole map flat faces s s_in ends1 turn1 divides x x_in;
      name_back = names_low p p_in ∙ names_p;
      name_from = ap names2 (sym a_is) ∙ names_a;
      name_to = ap names2 (sym b_is) ∙ names_b;
    }

pub steps_across : StepsAcross
steps_across nodes ends next name whole map flat faces y d y_in d_in is_whole same =
    let last = length ends in
    let some = some_division nodes ends next (d / 2) (omega (arith, d_in)) in
    let ends1 = some.0 in
    let turn1 = some.1 in
    let map1 = divide.divided_map nodes ends next name whole map flat faces (d / 2) (omega (arith, d_in)) ends1 turn1 some.2 in
    let now_y = dart_now (d / 2) last y in
    let y_now = divide.now_cases nodes ends next name whole map flat faces (d / 2) (omega (arith, d_in)) ends1 turn1 some.2 y in
    let size1 = some.2.longer in
    let c = source_of (2 * length ends1) turn1 map1.permutes now_y (omega (arith, y_now, y_in, size1)) in
    let p = dart_back last d in
    let more = ends1 ++ (tail_of ends1 c.0, tail_of ends1 p) ∷ [] in
    let turn = stand_at (after c.0) (2 * length ends1) (stand_at (after p) (2 * length ends1 + 1) turn1) in
    let comes : IsInsertion (suc nodes) ends1 turn1 (after c.0) (after p) more turn = record {
      first = c.1;
      second = p_in nodes ends next name whole map flat faces y d y_in d_in is_whole same ends1 turn1 some.2;
      two_nodes = corners_apart nodes ends next name whole map flat faces y d y_in d_in is_whole same ends1 turn1 some.2 c.0 c.1 c.2;
      ends_more = refl;
      turns = λ x x_in. refl;
    } in (
      more,
      turn,
      names2 nodes ends next name whole map flat faces y d y_in d_in is_whole same ends1 turn1 some.2 c.0 c.1 c.2 more turn comes,
      across nodes ends next name whole map flat faces y d y_in d_in is_whole same ends1 turn1 some.2 c.0 c.1 c.2 more turn comes,
    )
