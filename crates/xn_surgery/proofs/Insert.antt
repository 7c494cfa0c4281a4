-- A segment comes into a map.
use Rattle.std.proofs.Common.{◌≡◌, ◌≢◌, ℕ, suc, ◌+◌, ◌*◌, ◌/◌, ◌%◌, ◌<◌, ◌≤◌, ◌⊎◌, inl, inr, cond, eqb, List, [], ◌∷◌, length, refl, sym, ◌∙◌, ap, subst, arith, length-append}
use Rattle.std.proofs.lemmas.Bool.{cases_eq, cases_lt, cond-true, cond-false, eq-eqb, ne_eqb}
use Rattle.std.proofs.lemmas.List.{get_or_append_left, get_or_at}
use Rattle.xn_model.specs.Graph.{ends_at}
use Rattle.xn_model.specs.Lists.{at}
use Rattle.xn_model.specs.Map.{IsMap, Joined, component_count, face_count, face_step, tail_of}
use Rattle.xn_model.specs.Permutation.{Permutes, Reaches, without}
use Rattle.xn_surgery.specs.Corners.{Corner, after, lone, IsCornerOf, node_of, stand_at}
use Rattle.xn_genus.specs.Deletion.{IsDeletion}
use Rattle.xn_surgery.specs.Insertion.{IsInsertion}
use Rattle.xn_model.proofs.Darts.{tail-push, tail-push_even, tail-push_odd}
use Rattle.xn_ring.proofs.Orbits.{reaches_back, reaches_trans, cases_reaches}
use Rattle.xn_ring.proofs.Without.{without-before, without-other}
use Rattle.xn_ring.proofs.Agreeing.{Permutes-agrees}
use Rattle.xn_genus.proofs.Compress.{EndsIn_tails, tail_in}
use Rattle.xn_genus.proofs.Counts.{Permutes-face}
use Rattle.xn_genus.proofs.Delete.{joins_faces, keeps_components, splits_a_component, splits_a_face}
use Rattle.xn_genus.proofs.Lone.{no_dart_if_lone}
use Rattle.xn_surgery.proofs.Stand.{AtDart, Stood, reaches-agrees, stand-agree, stand_at_dart, stand_new, stand_other, alone_new, stand_undone, stood}

pub without-agree : (x : ℕ) (f g : ℕ → ℕ) (p : ℕ) → g p ≡ f p → g x ≡ f x → without x g p ≡ without x f p
without-agree x f g p same same_x = elim (cases_eq p x) [
  | inl here ↦ cond-true _ _ _ (eq-eqb p x here) ∙ sym (cond-true _ _ _ (eq-eqb p x here))
  | inr other ↦ elim (cases_eq (f p) x) [
    | inl leads ↦ without-before x g p other (same ∙ leads) ∙ same_x ∙ sym (without-before x f p other leads)
    | inr passes ↦ without-other x g p other (λ e. passes (sym same ∙ e)) ∙ same ∙ sym (without-other x f p other passes)
  ]
]

module _ (nodes : ℕ) (ends more : List (ℕ × ℕ)) (a b : Corner) (next turn : ℕ → ℕ) (map : IsMap nodes ends next) (comes : IsInsertion nodes ends next a b more turn) where
  abbrev m : ℕ
  m = length ends

  abbrev n : ℕ
  n = 2 * suc m

  abbrev x : ℕ
  x = 2 * m

  abbrev y : ℕ
  y = 2 * m + 1

  abbrev u : ℕ
  u = node_of ends a

  abbrev v : ℕ
  v = node_of ends b

  abbrev tail : ℕ → ℕ
  tail = tail_of more

  pub size : length more ≡ suc m
  size = ap length comes.ends_more ∙ length-append ends ((u, v) ∷ []) ∙ omega arith

  tail_old : (d : ℕ) → d < x → tail d ≡ tail_of ends d
  tail_old d d_in = ap (λ xs. tail_of xs d) comes.ends_more ∙ tail-push ends (u, v) d d_in

  tail_x : tail x ≡ u
  tail_x = ap (λ xs. tail_of xs x) comes.ends_more ∙ tail-push_even ends (u, v)

  tail_y : tail y ≡ v
  tail_y = ap (λ xs. tail_of xs y) comes.ends_more ∙ tail-push_odd ends (u, v)

  -- the corners, with their darts
  is_corner : (c : Corner) → IsCornerOf nodes ends c → (node_of ends c < nodes) × AtDart c (λ d. (d < x) × (tail_of ends d ≡ node_of ends c))
  is_corner (after d) h = (tail_in nodes ends map.ends_in d h, (h, refl))
  is_corner (lone w) h = (h.0, tt)

  pub u_in : u < nodes
  u_in = (is_corner a comes.first).0

  pub v_in : v < nodes
  v_in = (is_corner b comes.second).0

  -- the rotation with the new darts alone
  abbrev pub base : ℕ → ℕ
  base d = cond (eqb d x) x (cond (eqb d y) y (next d))

  pub base_x : base x ≡ x
  base_x = cond-true _ _ _ (eq-eqb x x refl)

  pub base_y : base y ≡ y
  base_y = cond-false _ _ _ (ne_eqb y x (λ e. omega arith)) ∙ cond-true _ _ _ (eq-eqb y y refl)

  pub base_old : (d : ℕ) → d < x → base d ≡ next d
  base_old d d_in = cond-false _ _ _ (ne_eqb d x (λ e. omega (arith, e, d_in))) ∙ cond-false _ _ _ (ne_eqb d y (λ e. omega (arith, e, d_in)))

  cases_base : (d : ℕ) → d < n → ((d < x) × (base d ≡ next d) × (next d < x)) ⊎ (((d ≡ x) × (base d ≡ x)) ⊎ ((d ≡ y) × (base d ≡ y)))
  cases_base d d_in = elim (cases_lt d x) [
    | inl low ↦ inl (low, base_old d low, map.permutes.below d low)
    | inr high ↦ elim (cases_eq d x) [
      | inl first ↦ inr (inl (first, ap base first ∙ base_x))
      | inr other ↦ let second : d ≡ y = omega (arith, d_in, high, other) in inr (inr (second, ap base second ∙ base_y))
    ]
  ]

  pub base_permutes : Permutes n base
  base_permutes = record {
    below = λ d d_in. omega (arith, cases_base d d_in);
    apart = λ d e d_in e_in same. elim (cases_base d d_in) [
      | inl old_d ↦ elim (cases_base e e_in) [
        | inl old_e ↦ map.permutes.apart d e old_d.0 old_e.0 (sym old_d.1 ∙ same ∙ old_e.1)
        | inr new_e ↦ absurd (omega (arith, old_d, new_e, same))
      ]
      | inr new_d ↦ omega (arith, new_d, cases_base e e_in, same)
    ];
  }

  -- the second dart in its corner, and then the first
  abbrev pub one : ℕ → ℕ
  one = stand_at b y base

  abbrev pub two : ℕ → ℕ
  two = stand_at a x one

  x_in : x < n
  x_in = omega arith

  y_in : y < n
  y_in = omega arith

  dart_free : (c : Corner) (z : ℕ) → x ≤ z → IsCornerOf nodes ends c → AtDart c (λ d. (d < n) × (d ≢ z))
  dart_free (after d) z high h = (omega (arith, h), λ e. omega (arith, h, e, high))
  dart_free (lone w) z high h = tt

  one_stood : Stood n y b base
  one_stood = stood n y b base base_permutes y_in base_y (dart_free b y (omega arith) comes.second)

  old_dart_other : (c : Corner) → IsCornerOf nodes ends c → (d : ℕ) → d ≡ x → AtDart c (λ e. d ≢ e)
  old_dart_other (after e) h d at = λ same. omega (arith, h, at, same)
  old_dart_other (lone w) h d at = tt

  stand_same : (c : Corner) (z : ℕ) (f : ℕ → ℕ) (d : ℕ) → AtDart c (λ e. d ≢ e) → d ≢ z → stand_at c z f d ≡ f d
  stand_same (after e) z f d other not_z = stand_other e z f d other not_z
  stand_same (lone w) z f d other not_z = cond-false _ _ _ (ne_eqb d z not_z)

  pub one_x : one x ≡ x
  one_x = stand_same b y base x (old_dart_other b comes.second x refl) (λ e. omega (arith, e)) ∙ base_x

  two_stood : Stood n x a one
  two_stood = stood n x a one one_stood.permutes x_in one_x (dart_free a x (omega arith) comes.first)

  agree_dart : (c : Corner) → IsCornerOf nodes ends c → (f g : ℕ → ℕ) → ((d : ℕ) → d < x → f d ≡ g d) → AtDart c (λ d. f d ≡ g d)
  agree_dart (after d) h f g same = same d h
  agree_dart (lone w) h f g same = tt

  half : (d : ℕ) → d < n → d ≢ x → stand_at b y next d ≡ one d
  half d d_in not_x = stand-agree b y next base d (agree_dart b comes.second next base (λ e low. sym (base_old e low)))
      (λ not_y. sym (base_old d (omega (arith, d_in, not_x, not_y))))

  pub turn_is : (d : ℕ) → d < n → turn d ≡ two d
  turn_is d d_in =
      comes.turns d d_in
      ∙ stand-agree a x (stand_at b y next) one d (agree_dart a comes.first (stand_at b y next) one (λ e low. half e (omega (arith, low)) (λ same. omega (arith, low, same))))
      (half d d_in)

  turn_permutes : Permutes n turn
  turn_permutes = Permutes-agrees n two turn two_stood.permutes turn_is

  -- a walk among the old darts goes on
  from_next : (p q : ℕ) → p < x → q < x → Reaches next p q → Reaches base p q
  from_next p q p_in q_in there = reaches-agrees x next base map.permutes base_old p q p_in there

  from_base : (p q : ℕ) → p < n → q < n → Reaches base p q → Reaches turn p q
  from_base p q p_in q_in there =
      reaches-agrees n two turn two_stood.permutes turn_is p q p_in (two_stood.kept p q p_in q_in (one_stood.kept p q p_in q_in there))

  from_one : (p q : ℕ) → p < n → q < n → Reaches one p q → Reaches turn p q
  from_one p q p_in q_in there = reaches-agrees n two turn two_stood.permutes turn_is p q p_in (two_stood.kept p q p_in q_in there)

  -- a dart of the node of a corner comes to the dart that stands there
  comes_to : (c : Corner) → IsCornerOf nodes ends c → (z : ℕ) → z < n → AtDart c (λ d. Reaches turn d z) → (p : ℕ) → p < x → tail_of ends p ≡ node_of ends c → Reaches turn p z
  comes_to (after d) h z z_in there p p_in same =
      reaches_trans turn p d z (from_base p d (omega (arith, p_in)) (omega (arith, h)) (from_next p d p_in h (map.one_ring p d p_in h same))) there
  comes_to (lone w) h z z_in there p p_in same = absurd (no_dart_if_lone ends w h.1 p p_in same)

  at_first : (c : Corner) → IsCornerOf nodes ends c → AtDart c (λ d. Reaches (stand_at c x one) d x) → ((p q : ℕ) → p < n → Reaches (stand_at c x one) p q → Reaches turn p q) → AtDart c (λ d. Reaches turn d x)
  at_first (after d) h there on = on d x (omega (arith, h)) there
  at_first (lone w) h there on = tt

  at_second : (c : Corner) → IsCornerOf nodes ends c → AtDart c (λ d. Reaches (stand_at c y base) d y) → ((p q : ℕ) → p < n → q < n → Reaches (stand_at c y base) p q → Reaches turn p q) → AtDart c (λ d. Reaches turn d y)
  at_second (after d) h there on = on d y (omega (arith, h)) y_in there
  at_second (lone w) h there on = tt

  to_x : (p : ℕ) → p < x → tail_of ends p ≡ u → Reaches turn p x
  to_x = comes_to a comes.first x x_in (at_first a comes.first two_stood.joins (λ p q p_in there. reaches-agrees n two turn two_stood.permutes turn_is p q p_in there))

  to_y : (p : ℕ) → p < x → tail_of ends p ≡ v → Reaches turn p y
  to_y = comes_to b comes.second y y_in (at_second b comes.second one_stood.joins from_one)

  cases_new : (d : ℕ) → d < n → (d < x) ⊎ ((d ≡ x) ⊎ (d ≡ y))
  cases_new d d_in = elim (cases_lt d x) [
    | inl low ↦ inl low
    | inr high ↦ elim (cases_eq d x) [ inl first ↦ inr (inl first) | inr other ↦ inr (inr (omega (arith, d_in, high, other))) ]
  ]

  to_same : (p q : ℕ) → p ≡ q → Reaches turn p q
  to_same p q same = (0, same)

  back : (p q : ℕ) → p < n → Reaches turn p q → Reaches turn q p
  back p q p_in there = reaches_back n turn turn_permutes p q p_in there

  -- from a new dart on
  round_from_old : (p q : ℕ) → p < x → q < n → tail p ≡ tail q → Reaches turn p q
  round_from_old p q p_in q_in same = elim (cases_new q q_in) [
    | inl old ↦ from_base p q (omega (arith, p_in)) q_in (from_next p q p_in old (map.one_ring p q p_in old (sym (tail_old p p_in) ∙ same ∙ tail_old q old)))
    | inr (inl first) ↦
        let P : ℕ → Type 0 = λ z. Reaches turn p z in
        subst P (sym first) (to_x p p_in (sym (tail_old p p_in) ∙ same ∙ ap tail first ∙ tail_x))
    | inr (inr second) ↦
        let P : ℕ → Type 0 = λ z. Reaches turn p z in
        subst P (sym second) (to_y p p_in (sym (tail_old p p_in) ∙ same ∙ ap tail second ∙ tail_y))
  ]

  round : (p q : ℕ) → p < n → q < n → tail p ≡ tail q → Reaches turn p q
  round p q p_in q_in same = elim (cases_new p p_in) [
    | inl old ↦ round_from_old p q old q_in same
    | inr new_p ↦ elim (cases_new q q_in) [
      | inl old ↦ back q p q_in (round_from_old q p old p_in (sym same))
      | inr new_q ↦ elim new_p [
        | inl p_first ↦ elim new_q [
          | inl q_first ↦ to_same p q (p_first ∙ sym q_first)
          | inr q_second ↦ absurd (comes.two_nodes (sym tail_x ∙ ap tail (sym p_first) ∙ same ∙ ap tail q_second ∙ tail_y))
        ]
        | inr p_second ↦ elim new_q [
          | inl q_first ↦ absurd (comes.two_nodes (sym tail_x ∙ ap tail (sym q_first) ∙ sym same ∙ ap tail p_second ∙ tail_y))
          | inr q_second ↦ to_same p q (p_second ∙ sym q_second)
        ]
      ]
    ]
  ]

  -- tails stay
  stays_at : (c : Corner) (z : ℕ) (f : ℕ → ℕ) → IsCornerOf nodes ends c → x ≤ z → tail z ≡ node_of ends c → f z ≡ z → ((d : ℕ) → d < n → tail (f d) ≡ tail d) → (d : ℕ) → d < n → tail (stand_at c z f d) ≡ tail d
  stays_at (after e) z f h high at_z alone stays d d_in = elim (cases_eq d e) [
    | inl here ↦ ap (λ k. tail (stand_at (after e) z f k)) here ∙ ap tail (stand_at_dart e z f) ∙ at_z ∙ sym (tail_old e h) ∙ ap tail (sym here)
    | inr not_e ↦ elim (cases_eq d z) [
      | inl new ↦ ap (λ k. tail (stand_at (after e) z f k)) new ∙ ap tail (stand_new e z f (λ same. omega (arith, h, same, high))) ∙ stays e (omega (arith, h)) ∙ tail_old e h ∙ sym at_z ∙ ap tail (sym new)
      | inr not_z ↦ ap tail (stand_other e z f d not_e not_z) ∙ stays d d_in
    ]
  ]
  stays_at (lone w) z f h high at_z alone stays d d_in = elim (cases_eq d z) [
    | inl new ↦ ap (λ k. tail (stand_at (lone w) z f k)) new ∙ ap tail (alone_new w z f) ∙ ap tail (sym new)
    | inr not_z ↦ ap tail (cond-false _ _ _ (ne_eqb d z not_z)) ∙ stays d d_in
  ]

  base_stays : (d : ℕ) → d < n → tail (base d) ≡ tail d
  base_stays d d_in = elim (cases_base d d_in) [
    | inl old ↦ ap tail old.1 ∙ tail_old (next d) old.2 ∙ map.same_node d old.0 ∙ sym (tail_old d old.0)
    | inr (inl first) ↦ ap tail (first.1 ∙ sym first.0)
    | inr (inr second) ↦ ap tail (second.1 ∙ sym second.0)
  ]

  two_stays : (d : ℕ) → d < n → tail (two d) ≡ tail d
  two_stays = stays_at a x one comes.first (omega arith) tail_x one_x (stays_at b y base comes.second (omega arith) tail_y base_y base_stays)

  wide : (d : ℕ) → d < 2 * length more → d < n
  wide d d_in = omega (arith, d_in, size)

  pub map_more : IsMap nodes more turn
  map_more = record {
    ends_in = EndsIn_tails nodes more (λ d d_in. elim (cases_new d (wide d d_in)) [
      | inl old ↦ let low = tail_in nodes ends map.ends_in d old in omega (arith, low, tail_old d old)
      | inr (inl first) ↦ omega (arith, ap tail first, tail_x, u_in)
      | inr (inr second) ↦ omega (arith, ap tail second, tail_y, v_in)
    ]);
    permutes = let P : ℕ → Type 0 = λ k. Permutes (2 * k) turn in subst P (sym size) turn_permutes;
    same_node = λ d d_in. ap tail (turn_is d (wide d d_in)) ∙ two_stays d (wide d d_in);
    one_ring = λ p q p_in q_in same. round p q (wide p p_in) (wide q q_in) same;
  }

  -- the new segment out again
  free : (c : Corner) (z : ℕ) → x ≤ z → IsCornerOf nodes ends c → AtDart c (λ d. d ≢ z)
  free (after d) z high h = λ e. omega (arith, h, e, high)
  free (lone w) z high h = tt

  once : (p : ℕ) → p < n → p ≢ x → without x turn p ≡ one p
  once p p_in not_x =
      without-agree x two turn p (turn_is p p_in) (turn_is x x_in)
      ∙ stand_undone a x one p (free a x (omega arith) comes.first) not_x
      (λ e. not_x (one_stood.permutes.apart p x p_in x_in (e ∙ sym one_x)))

  undone : (p : ℕ) → p < x → without y (without x turn) p ≡ next p
  undone p p_in =
      let low = map.permutes.below p p_in in
      without-agree y one (without x turn) p (once p (omega (arith, p_in)) (λ e. omega (arith, e, p_in))) (once y y_in (λ e. omega (arith, e)))
      ∙ stand_undone b y base p (free b y (omega arith) comes.second) (λ e. omega (arith, e, p_in)) (λ e. omega (arith, e, base_old p p_in, low))
      ∙ base_old p p_in

  front : (i : ℕ) → i < m → ends_at ends i ≡ ends_at more i
  front i i_in = sym (ap (λ xs. ends_at xs i) comes.ends_more ∙ get_or_append_left ends ((u, v) ∷ []) (0, 0) i i_in)

  last_ends : ends_at more m ≡ (u, v)
  last_ends = ap (λ xs. ends_at xs m) comes.ends_more ∙ get_or_at ends (u, v) [] (0, 0) m refl

  IsDeletion-undone : IsDeletion more turn m ends next
  IsDeletion-undone =
      let same : (d : ℕ) → d < x → cond (eqb (d / 2) m) (2 * m + d % 2) d ≡ d = λ d d_in. cond-false _ _ _ (ne_eqb (d / 2) m (λ e. omega (arith, e, d_in))) in
      record {
        is_there = omega (arith, size);
        fewer = size;
        ends_left = λ i i_in. front i i_in ∙ ap (ends_at more) (sym (cond-false _ _ _ (ne_eqb i m (λ e. omega (arith, e, i_in)))));
        below = map.permutes.below;
        turns = λ d d_in.
            same (next d) (map.permutes.below d d_in) ∙ sym (undone d d_in) ∙ ap (λ k. without y (without x turn) k) (sym (same d d_in));
      }

  -- components
  pub components_stay : Joined ends u v → component_count nodes more ≡ component_count nodes ends
  components_stay there =
      let P : ℕ × ℕ → Type 0 = λ q. Joined ends q.0 q.1 in
      sym (keeps_components nodes m more ends turn next map_more IsDeletion-undone (subst P (sym last_ends) there))

  pub components_join : (Joined ends u v → ⊥) → component_count nodes more + 1 ≡ component_count nodes ends
  components_join apart =
      let P : ℕ × ℕ → Type 0 = λ q. Joined ends q.0 q.1 in
      sym (splits_a_component nodes m more ends turn next map_more IsDeletion-undone (λ there. apart (subst P last_ends there)))

  -- between two components the new segment has one face on both sides
  pub faces_of_bridge : (Joined ends u v → ⊥) → face_count nodes more turn + 1 ≡ face_count nodes ends next
  faces_of_bridge apart =
      let P : ℕ × ℕ → Type 0 = λ q. Joined ends q.0 q.1 in
      elim (cases_reaches (2 * length more) (face_step turn) (Permutes-face (length more) turn map_more.permutes) (2 * m) (2 * m + 1) (omega (arith, size))) [
        | inl one_face ↦ sym (splits_a_face nodes m more ends turn next map_more IsDeletion-undone one_face)
        | inr two_faces ↦ absurd (apart (subst P last_ends (joins_faces nodes m more ends turn next map_more IsDeletion-undone two_faces).1))
      ]
