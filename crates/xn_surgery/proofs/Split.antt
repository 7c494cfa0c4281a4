-- A node is split: what it does to a map.
use Rattle.std.proofs.Common.{◌≡◌, ◌≢◌, ℕ, zero, suc, ◌+◌, ◌*◌, ◌<◌, ◌≤◌, ◌⊎◌, inl, inr, eqb, List, [], ◌∷◌, ◌++◌, length, refl, sym, ◌∙◌, ap, subst, arith}
use Rattle.std.proofs.lemmas.Bool.{cases_eq, cases_lt, cond-true, cond-false, eq-eqb, eqb-true, eqb-false, ne_eqb, false_from_ne_true}
use Rattle.xn_model.specs.Graph.{EndsIn}
use Rattle.xn_model.specs.Lists.{one_if}
use Rattle.xn_model.specs.Map.{MeetsEuler, IsMap, Joined, component_count, face_count, face_step, is_lone, reverse_of, tail_of}
use Rattle.xn_model.specs.Permutation.{IsSplice, Permutes, Reaches, count_below, cycle_count, iterate}
use Rattle.xn_ring.specs.Swaps.{CutsRing}
use Rattle.xn_model.proofs.Tests.{same_tests}
use Rattle.xn_surgery.specs.Splitting.{InArc, IsSplit}
use Rattle.xn_model.proofs.Darts.{reverse-reverse, reverse_apart, reverse_below}
use Rattle.xn_ring.proofs.Counting.{count-same}
use Rattle.xn_ring.proofs.Orbits.{cases_reaches, first_below, reaches_back, reaches_step, reaches_trans, within}
use Rattle.xn_ring.proofs.Splice.{Permutes-splice, cycle_count-joined, cycle_count-split, walk-others}
use Rattle.xn_ring.proofs.SplitRing.{cuts_ring}
use Rattle.xn_ring.proofs.Without.{before}
use Rattle.xn_genus.proofs.Compress.{EndsIn_tails, tail_in}
use Rattle.xn_genus.proofs.Counts.{IsSplice-face, Permutes-face}
use Rattle.xn_genus.proofs.Euler.{euler}
use Rattle.xn_genus.proofs.Lone.{no_dart_if_lone}
use Rattle.xn_genus.proofs.Nodes.{lone_from}
use Rattle.xn_surgery.proofs.SplitComponents.{component_count-split_apart, component_count-split_joined}
use Rattle.xn_surgery.proofs.SplitGenus.{split_genus}

pub EndsIn-push : (nodes : ℕ) (ends : List (ℕ × ℕ)) (p : ℕ × ℕ) → EndsIn nodes ends → p.0 < nodes → p.1 < nodes → EndsIn nodes (ends ++ p ∷ [])
EndsIn-push nodes [] p h u_in v_in = (u_in, v_in, tt)
EndsIn-push nodes (q ∷ ends) p h u_in v_in = (h.0, h.1, EndsIn-push nodes ends p h.2 u_in v_in)

module _ (nodes a b : ℕ) (ends split : List (ℕ × ℕ)) (next after : ℕ → ℕ) (map : IsMap nodes ends next) (is : IsSplit nodes ends next a b split after) where
  abbrev n : ℕ
  n = 2 * length ends

  abbrev v : ℕ
  v = tail_of ends a

  abbrev tail : ℕ → ℕ
  tail = tail_of split

  v_in : v < nodes
  v_in = tail_in nodes ends map.ends_in a is.first_in

  -- what leads to a and to b
  to_a : (c : ℕ) × (c < n) × (next c ≡ a)
  to_a = before n a next map.permutes is.first_in

  to_b : (e : ℕ) × (e < n) × (next e ≡ b)
  to_b = before n b next map.permutes is.second_in

  abbrev c : ℕ
  c = to_a.0

  abbrev e : ℕ
  e = to_b.0

  turn_a : (d : ℕ) → d < n → next d ≡ a → after d ≡ b
  turn_a d d_in at = is.turns d d_in ∙ cond-true _ _ _ (eq-eqb _ _ at)

  turn_b : (d : ℕ) → d < n → next d ≡ b → after d ≡ a
  turn_b d d_in at =
      is.turns d d_in ∙ cond-false _ _ _ (ne_eqb _ _ (λ same. is.differ (sym same ∙ at))) ∙ cond-true _ _ _ (eq-eqb _ _ at)

  turn_other : (d : ℕ) → d < n → next d ≢ a → next d ≢ b → after d ≡ next d
  turn_other d d_in not_a not_b = is.turns d d_in ∙ cond-false _ _ _ (ne_eqb _ _ not_a) ∙ cond-false _ _ _ (ne_eqb _ _ not_b)

  splice : IsSplice n c e next after
  splice = record {
    first = turn_a c to_a.1 to_a.2 ∙ sym to_b.2;
    second = turn_b e to_b.1 to_b.2 ∙ sym to_a.2;
    others = λ d d_in not_c not_e. turn_other d d_in
        (λ at. not_c (map.permutes.apart d c d_in to_a.1 (at ∙ sym to_a.2)))
        (λ at. not_e (map.permutes.apart d e d_in to_b.1 (at ∙ sym to_b.2)));
  }

  permutes : Permutes n after
  permutes = Permutes-splice n c e next after map.permutes splice to_a.1 to_b.1

  ring : Reaches next a b
  ring = map.one_ring a b is.first_in is.second_in is.one_node

  cuts : CutsRing n a b next after
  cuts = cuts_ring n a b c e next after map.permutes splice is.first_in is.second_in to_a.1 to_b.1 to_a.2 to_b.2 is.differ ring

  -- the first time that the walk from a comes to b
  first : (j : ℕ) × (iterate next j a ≡ b) × ((i : ℕ) → i < j → iterate next i a ≢ b)
  first =
      let some = within n next map.permutes a is.first_in ring.0 in
      elim (first_below n (λ k. eqb (iterate next k a) b)) [
        | inl found ↦ (found.0, eqb-true _ _ found.2, λ i early. eqb-false _ _ (found.3 i early))
        | inr none ↦ absurd (eqb-false _ _ (none some.0 some.1) (some.2 ∙ ring.1))
      ]

  arc_from : (d : ℕ) → Reaches after a d → InArc next a b d
  arc_from d there =
      let found = (cuts.arc first.0 first.1 first.2 d).0 there in
      (found.0, found.2, λ l low. first.2 l (omega (arith, low, found.1)))

  arc_to : (d : ℕ) → InArc next a b d → Reaches after a d
  arc_to d arc = (cuts.arc first.0 first.1 first.2 d).1 (arc.0, early arc.0 arc.2, arc.1)
    where
      early : (i : ℕ) → ((l : ℕ) → l ≤ i → iterate next l a ≢ b) → i < first.0
      early i none = elim (cases_lt i first.0) [ inl low ↦ low | inr high ↦ absurd (none first.0 high first.1) ]

  -- darts of one node
  tail_along : (d : ℕ) → d < n → (k : ℕ) → (iterate next k d < n) × (tail_of ends (iterate next k d) ≡ tail_of ends d)
  tail_along d d_in zero = (d_in, refl)
  tail_along d d_in (suc k) =
      let so_far = tail_along d d_in k in
      (map.permutes.below _ so_far.0, map.same_node _ so_far.0 ∙ so_far.1)

  tail_reaches : (d f : ℕ) → d < n → Reaches next d f → tail_of ends f ≡ tail_of ends d
  tail_reaches d f d_in there = ap (tail_of ends) (sym there.1) ∙ (tail_along d d_in there.0).1

  cases_tail : (d : ℕ) → d < n → (Reaches after a d × (tail_of ends d ≡ v) × (tail d ≡ nodes)) ⊎ ((Reaches after a d → ⊥) × (tail d ≡ tail_of ends d))
  cases_tail d d_in = elim (cases_reaches n after permutes a d is.first_in) [
    | inl there ↦
        let arc = arc_from d there in
        inl (there, tail_reaches a d is.first_in (arc.0, arc.1), is.moved d d_in arc)
    | inr away ↦ inr (away, is.stayed d d_in (λ arc. away (arc_to d arc)))
  ]

  tail_c : tail_of ends c ≡ v
  tail_c = sym (map.same_node c to_a.1) ∙ ap (tail_of ends) to_a.2

  tail_e : tail_of ends e ≡ v
  tail_e = sym (map.same_node e to_b.1) ∙ ap (tail_of ends) to_b.2 ∙ sym is.one_node

  c_away : Reaches after a c → ⊥
  c_away there = cuts.apart (reaches_trans after a c b there (1, turn_a c to_a.1 to_a.2))

  e_there : Reaches after a e
  e_there = reaches_back n after permutes e a to_b.1 (1, turn_b e to_b.1 to_b.2)

  old_stays : (d : ℕ) → d < n → tail_of ends (after d) ≡ tail_of ends d
  old_stays d d_in = elim (cases_eq (next d) a) [
    | inl at_a ↦ ap (tail_of ends) (turn_a d d_in at_a) ∙ sym is.one_node ∙ ap (tail_of ends) (sym at_a) ∙ map.same_node d d_in
    | inr not_a ↦ elim (cases_eq (next d) b) [
      | inl at_b ↦ ap (tail_of ends) (turn_b d d_in at_b) ∙ is.one_node ∙ ap (tail_of ends) (sym at_b) ∙ map.same_node d d_in
      | inr not_b ↦ ap (tail_of ends) (turn_other d d_in not_a not_b) ∙ map.same_node d d_in
    ]
  ]

  stays : (d : ℕ) → d < n → tail (after d) ≡ tail d
  stays d d_in =
      let on_in = permutes.below d d_in in
      elim (cases_tail d d_in) [
        | inl there ↦ is.moved (after d) on_in (arc_from (after d) (reaches_step after a d there.0)) ∙ sym there.2
        | inr away ↦ elim (cases_tail (after d) on_in) [
          | inl there ↦ absurd (away.0 (reaches_trans after a (after d) d there.0 (reaches_back n after permutes d (after d) d_in (1, refl))))
          | inr both ↦ both.1 ∙ old_stays d d_in ∙ sym away.1
        ]
      ]

  tail_low : (d : ℕ) → d < n → tail_of ends d < nodes
  tail_low = tail_in nodes ends map.ends_in

  round : (d f : ℕ) → d < n → f < n → tail d ≡ tail f → Reaches after d f
  round d f d_in f_in same = elim (cases_tail d d_in) [
    | inl there ↦ elim (cases_tail f f_in) [
      | inl both ↦ reaches_trans after d a f (reaches_back n after permutes a d is.first_in there.0) both.0
      | inr away ↦ let low = tail_low f f_in in absurd (omega (arith, same, there.2, away.1, low))
    ]
    | inr away ↦ elim (cases_tail f f_in) [
      | inl there ↦ let low = tail_low d d_in in absurd (omega (arith, same, there.2, away.1, low))
      | inr both ↦
          let old : tail_of ends d ≡ tail_of ends f = sym away.1 ∙ same ∙ both.1 in
          elim (cases_eq (tail_of ends d) v) [
            | inl at_v ↦
                let to_d = cuts.rest d d_in (map.one_ring a d is.first_in d_in (sym at_v)) away.0 in
                let to_f = cuts.rest f f_in (map.one_ring a f is.first_in f_in (sym at_v ∙ old)) both.0 in
                reaches_trans after d b f (reaches_back n after permutes b d is.second_in to_d) to_f
            | inr elsewhere ↦
                let there = map.one_ring d f d_in f_in old in
                let free = walk-others n c e next after map.permutes splice d d_in
                (λ to_c. elsewhere (sym (tail_reaches d c d_in to_c) ∙ tail_c)) (λ to_e. elsewhere (sym (tail_reaches d e d_in to_e) ∙ tail_e)) in
                (there.0, free there.0 ∙ there.1)
          ]
    ]
  ]

  old_in : (d : ℕ) → d < 2 * length split → d < n
  old_in d d_in = omega (arith, d_in, is.all)

  pub split_in : EndsIn (suc nodes) split
  split_in = EndsIn_tails (suc nodes) split (λ d d_in.
      let low = tail_low d (old_in d d_in) in
      omega (arith, low, cases_tail d (old_in d d_in)))

  pub map_split : IsMap (suc nodes) split after
  map_split = record {
    ends_in = split_in;
    permutes = let P : ℕ → Type 0 = λ k. Permutes (2 * k) after in subst P (sym is.all) permutes;
    same_node = λ d d_in. stays d (old_in d d_in);
    one_ring = λ d f d_in f_in same. round d f (old_in d d_in) (old_in f f_in) same;
  }

  both_in : EndsIn (suc nodes) (split ++ (v, nodes) ∷ [])
  both_in = EndsIn-push (suc nodes) split (v, nodes) split_in (omega (arith, v_in)) (omega arith)

  moves : (d : ℕ) → d < n → (tail d ≡ tail_of ends d) ⊎ ((tail_of ends d ≡ v) × (tail d ≡ nodes))
  moves d d_in = elim (cases_tail d d_in) [ inl there ↦ inr (there.1, there.2) | inr away ↦ inl away.1 ]

  -- no other node gets or loses all its darts
  lone_new : one_if (is_lone split nodes) ≡ 0
  lone_new = ap one_if (false_from_ne_true _ (λ alone.
      no_dart_if_lone split nodes alone a (omega (arith, is.first_in, is.all)) (is.moved a is.first_in (arc_from a (0, refl)))))

  lone_old : (w : ℕ) → w < nodes → is_lone split w ≡ is_lone ends w
  lone_old w w_in = same_tests _ _
      (λ alone. lone_from ends w (λ d d_in at. elim (cases_tail d d_in) [
        | inl there ↦ no_dart_if_lone split w alone c (omega (arith, to_a.1, is.all)) (is.stayed c to_a.1 (λ arc. c_away (arc_to c arc)) ∙ tail_c ∙ sym there.1 ∙ at)
        | inr away ↦ no_dart_if_lone split w alone d (omega (arith, d_in, is.all)) (away.1 ∙ at)
      ]))
      (λ alone. lone_from split w (λ d d_in at. elim (cases_tail d (old_in d d_in)) [
        | inl there ↦ omega (arith, there.2, at, w_in)
        | inr away ↦ no_dart_if_lone ends w alone d (old_in d d_in) (sym away.1 ∙ at)
      ]))

  lone_split : count_below (suc nodes) (is_lone split) ≡ count_below nodes (is_lone ends)
  lone_split = omega (arith, lone_new, count-same nodes (is_lone split) (is_lone ends) lone_old)

  cycles_split : cycle_count (2 * length split) (face_step after) ≡ cycle_count n (face_step after)
  cycles_split = ap (λ k. cycle_count (2 * k) (face_step after)) is.all

  -- faces
  face_permutes : Permutes n (face_step next)
  face_permutes = Permutes-face (length ends) next map.permutes

  faces : IsSplice n (reverse_of c) (reverse_of e) (face_step next) (face_step after)
  faces = IsSplice-face (length ends) c e next after splice

  rc_in : reverse_of c < n
  rc_in = reverse_below (length ends) c to_a.1

  re_in : reverse_of e < n
  re_in = reverse_below (length ends) e to_b.1

  c_step : face_step next (reverse_of c) ≡ a
  c_step = ap next (reverse-reverse c) ∙ to_a.2

  e_step : face_step next (reverse_of e) ≡ b
  e_step = ap next (reverse-reverse e) ∙ to_b.2

  c_not_e : c ≢ e
  c_not_e same = is.differ (sym to_a.2 ∙ ap next same ∙ to_b.2)

  pub splits_a_face : Reaches (face_step next) a b → face_count (suc nodes) split after ≡ face_count nodes ends next + 1
  splits_a_face there =
      let on = reaches_trans (face_step next) (reverse_of c) a b (1, c_step) there in
      let back = reaches_back n (face_step next) face_permutes (reverse_of e) b re_in (1, e_step) in
      let count = cycle_count-split n (reverse_of c) (reverse_of e) (face_step next) (face_step after) face_permutes faces rc_in re_in (λ same. c_not_e (reverse_apart c e same))
      (reaches_trans (face_step next) (reverse_of c) b (reverse_of e) on back) in
      omega (arith, count, lone_split, cycles_split)

  pub joins_faces : (Reaches (face_step next) a b → ⊥) → face_count (suc nodes) split after + 1 ≡ face_count nodes ends next
  joins_faces apart =
      let count = cycle_count-joined n (reverse_of c) (reverse_of e) (face_step next) (face_step after) face_permutes faces rc_in re_in (λ there.
      let from = reaches_back n (face_step next) face_permutes (reverse_of c) a rc_in (1, c_step) in
      apart (reaches_trans (face_step next) a (reverse_of e) b (reaches_trans (face_step next) a (reverse_of c) (reverse_of e) from there) (1, e_step))) in
      omega (arith, count, lone_split, cycles_split)

  pub keeps_components : Joined split v nodes → component_count (suc nodes) split ≡ component_count nodes ends
  keeps_components = component_count-split_joined nodes v ends split map.ends_in split_in both_in v_in is.all tail_low moves

  pub splits_a_component : (Joined split v nodes → ⊥) → component_count (suc nodes) split ≡ component_count nodes ends + 1
  splits_a_component apart =
      let more = component_count-split_apart nodes v ends split map.ends_in split_in both_in v_in is.all tail_low moves apart in
      omega (arith, more)

  pub flat_split : MeetsEuler nodes ends next → MeetsEuler (suc nodes) split after
  flat_split flat =
      let genus = split_genus nodes v c e ends split next after map.ends_in split_in both_in v_in is.all tail_low moves map.permutes to_a.1 to_b.1 c_not_e splice
      (λ d d_in. stays d (old_in d d_in)) (is.stayed c to_a.1 (λ arc. c_away (arc_to c arc)) ∙ tail_c) (is.moved e to_b.1 (arc_from e e_there)) in
      let low = euler (suc nodes) split after map_split in
      omega (arith, flat, genus, low, lone_split, cycles_split, is.all)
