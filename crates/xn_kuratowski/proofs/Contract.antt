-- A segment between different nodes is contracted: a flat map stays flat.
use Rattle.std.proofs.Common.{◌≡◌, ◌≢◌, ℕ, zero, suc, ◌+◌, ◌-◌, ◌*◌, ◌/◌, ◌<◌, ◌≤◌, inl, inr, cond, eqb, List, [], ◌∷◌, ◌++◌, length, map, refl, sym, ◌∙◌, ap, subst, arith, length-append}
use Rattle.std.proofs.lemmas.Bool.{cases_eq, cond-true, cond-false, eq-eqb, ne_eqb, eqb-true, eqb-false}
use Rattle.xn_model.specs.Graph.{ends_at}
use Rattle.xn_model.specs.Map.{MeetsEuler, IsMap, Joined, face_step, tail_of}
use Rattle.xn_model.specs.Permutation.{IsSplice, Permutes, Reaches, iterate, without}
use Rattle.xn_model.proofs.ComponentWalks.{joined_last}
use Rattle.xn_model.proofs.Darts.{reverse-even, reverse-odd, tail-push_even, tail-push_odd}
use Rattle.xn_ring.specs.Swaps.{JoinsCycles}
use Rattle.xn_ring.proofs.Orbits.{cases_reaches, first_below, iterate-add, reaches_back, reaches_trans, within}
use Rattle.xn_ring.proofs.Splice.{JoinsCycles-splice, Permutes-splice}
use Rattle.xn_ring.proofs.Without.{Permutes-without}
use Rattle.xn_genus.specs.Deletion.{IsDeletion, dart_before}
use Rattle.xn_genus.specs.Live.{without_segment}
use Rattle.xn_genus.proofs.Compress.{EndsIn_tails, tail_in}
use Rattle.xn_genus.proofs.Counts.{Permutes-face}
use Rattle.xn_genus.proofs.Delete.{joins_faces as deletion_joins, keeps_components as deletion_keeps, map_left, splits_a_face as deletion_splits}
use Rattle.xn_surgery.specs.Splitting.{InArc, IsSplit}
use Rattle.xn_surgery.proofs.Split.{joins_faces, keeps_components, splits_a_face}
use Rattle.xn_fewer.specs.Flat.{HasFlat, both, called, merged}
use Rattle.xn_fewer.proofs.Flats.{Permutes-exchanged, more_flat, named_flat}
use Rattle.xn_fewer.proofs.Lists.{at_both, at_front, at_last, both-append, both-same, called-at, called-other, cases_called, cases_exchanged, exchanged, length-both, map-map, tail_both}
use Rattle.xn_kuratowski.specs.Flat.{ContractionStaysFlat}

-- the last segment leads from x to the last node
module _ (rest x : ℕ) (ends : List (ℕ × ℕ)) (x_in : x < rest) (has : HasFlat (suc rest) (ends ++ (x, rest) ∷ [])) where
  abbrev whole : List (ℕ × ℕ)
  whole = ends ++ (x, rest) ∷ []

  abbrev m : ℕ
  m = length ends

  abbrev n : ℕ
  n = 2 * length whole

  size : length whole ≡ suc m
  size = let one = length-append ends ((x, rest) ∷ []) in omega (arith, one)

  abbrev next : ℕ → ℕ
  next = has.next

  -- its darts
  abbrev p : ℕ
  p = 2 * m

  abbrev q : ℕ
  q = 2 * m + 1

  p_in : p < n
  p_in = omega (arith, size)

  q_in : q < n
  q_in = omega (arith, size)

  tail_p : tail_of whole p ≡ x
  tail_p = tail-push_even ends (x, rest)

  tail_q : tail_of whole q ≡ rest
  tail_q = tail-push_odd ends (x, rest)

  -- the web with the last node called x
  abbrev loop : List (ℕ × ℕ)
  loop = merged x rest whole

  loop_size : length loop ≡ length whole
  loop_size = length-both (called x rest) whole

  tail_loop : (d : ℕ) → d < n → tail_of loop d ≡ called x rest (tail_of whole d)
  tail_loop d d_in = tail_both (called x rest) whole d d_in

  -- and the two rings made one
  abbrev turn : ℕ → ℕ
  turn d = cond (eqb d p) (next q) (cond (eqb d q) (next p) (next d))

  turn_p : turn p ≡ next q
  turn_p = cond-true _ _ _ (eq-eqb p p refl)

  q_not_p : q ≢ p
  q_not_p same = omega (arith, same)

  turn_q : turn q ≡ next p
  turn_q = cond-false _ _ _ (ne_eqb q p q_not_p) ∙ cond-true _ _ _ (eq-eqb q q refl)

  turn_other : (d : ℕ) → d ≢ p → d ≢ q → turn d ≡ next d
  turn_other d not_p not_q = cond-false _ _ _ (ne_eqb d p not_p) ∙ cond-false _ _ _ (ne_eqb d q not_q)

  splice : IsSplice n p q next turn
  splice = record { first = turn_p; second = turn_q; others = λ d d_in not_p not_q. turn_other d not_p not_q }

  turn_permutes : Permutes n turn
  turn_permutes = Permutes-splice n p q next turn has.is_map.permutes splice p_in q_in

  -- the walk stays at its node
  tail_walk : (d e : ℕ) → d < n → Reaches next d e → tail_of whole e ≡ tail_of whole d
  tail_walk d e d_in there = ap (tail_of whole) (sym there.1) ∙ (along there.0).1
    where
      along : (k : ℕ) → (iterate next k d < n) × (tail_of whole (iterate next k d) ≡ tail_of whole d)
      along zero = (d_in, refl)
      along (suc k) = let one = along k in (has.is_map.permutes.below _ one.0, has.is_map.same_node _ one.0 ∙ one.1)

  two_rings : Reaches next p q → ⊥
  two_rings there = let same = tail_walk p q p_in there in omega (arith, sym tail_q ∙ same ∙ tail_p, x_in)

  joins : JoinsCycles n p q next turn
  joins = JoinsCycles-splice n p q next turn has.is_map.permutes splice p_in q_in two_rings

  tail_next : (d : ℕ) → d < n → tail_of whole (next d) ≡ tail_of whole d
  tail_next = has.is_map.same_node

  loop_stays : (d : ℕ) → d < n → tail_of loop (turn d) ≡ tail_of loop d
  loop_stays d d_in =
      let low = turn_permutes.below d d_in in
      elim (cases_eq d p) [
        | inl at_p ↦
            tail_loop (turn d) low ∙ ap (λ z. called x rest (tail_of whole (turn z))) at_p ∙ ap (λ z. called x rest (tail_of whole z)) turn_p
            ∙ ap (called x rest) (tail_next q q_in ∙ tail_q) ∙ called-at x rest rest refl ∙ sym (called-other x rest x (λ same. omega (arith, same, x_in)))
            ∙ ap (called x rest) (sym tail_p) ∙ ap (λ z. called x rest (tail_of whole z)) (sym at_p) ∙ sym (tail_loop d d_in)
        | inr not_p ↦ elim (cases_eq d q) [
          | inl at_q ↦
              tail_loop (turn d) low ∙ ap (λ z. called x rest (tail_of whole (turn z))) at_q ∙ ap (λ z. called x rest (tail_of whole z)) turn_q
              ∙ ap (called x rest) (tail_next p p_in ∙ tail_p) ∙ called-other x rest x (λ same. omega (arith, same, x_in)) ∙ sym (called-at x rest rest refl)
              ∙ ap (called x rest) (sym tail_q) ∙ ap (λ z. called x rest (tail_of whole z)) (sym at_q) ∙ sym (tail_loop d d_in)
          | inr not_q ↦
              tail_loop (turn d) low ∙ ap (λ z. called x rest (tail_of whole z)) (turn_other d not_p not_q) ∙ ap (called x rest) (tail_next d d_in) ∙ sym (tail_loop d d_in)
        ]
      ]

  loop_round : (d e : ℕ) → d < n → e < n → tail_of loop d ≡ tail_of loop e → Reaches turn d e
  loop_round d e d_in e_in same =
      let names : called x rest (tail_of whole d) ≡ called x rest (tail_of whole e) = sym (tail_loop d d_in) ∙ same ∙ tail_loop e e_in in
      let one = cases_called x rest (tail_of whole d) in
      let two = cases_called x rest (tail_of whole e) in
      let way = (joins.walks d e d_in e_in).1 in
      elim (cases_eq (tail_of whole d) (tail_of whole e)) [
        | inl alike ↦ way (inl (has.is_map.one_ring d e d_in e_in alike))
        | inr unlike ↦ elim one [
          | inl at_rest ↦
              let e_at : tail_of whole e ≡ x = omega (arith, at_rest, two, names, unlike) in
              way (inr (inr (has.is_map.one_ring d q d_in q_in (at_rest.0 ∙ sym tail_q), has.is_map.one_ring p e p_in e_in (tail_p ∙ sym e_at))))
          | inr not_rest ↦
              let e_at : tail_of whole e ≡ rest = omega (arith, not_rest, two, names, unlike) in
              let d_at : tail_of whole d ≡ x = omega (arith, not_rest, two, names, unlike) in
              way (inr (inl (has.is_map.one_ring d p d_in p_in (d_at ∙ sym tail_p), has.is_map.one_ring q e q_in e_in (tail_q ∙ sym e_at))))
        ]
      ]

  loop_map : IsMap rest loop turn
  loop_map =
      let wide : (d : ℕ) → d < 2 * length loop → d < n = λ d d_in. omega (arith, d_in, loop_size) in
      let P : ℕ → Type 0 = λ k. Permutes (2 * k) turn in
      record {
        ends_in = EndsIn_tails rest loop (λ d d_in.
            let low = tail_in (suc rest) whole has.is_map.ends_in d (wide d d_in) in
            omega (arith, tail_loop d (wide d d_in), low, x_in, cases_called x rest (tail_of whole d)));
        permutes = subst P (sym loop_size) turn_permutes;
        same_node = λ d d_in. loop_stays d (wide d d_in);
        one_ring = λ d e d_in e_in. loop_round d e (wide d d_in) (wide e e_in);
      }

  -- the map is a split of that
  abbrev a : ℕ
  a = next q

  abbrev b : ℕ
  b = next p

  a_in : a < n
  a_in = has.is_map.permutes.below q q_in

  b_in : b < n
  b_in = has.is_map.permutes.below p p_in

  tail_a : tail_of whole a ≡ rest
  tail_a = tail_next q q_in ∙ tail_q

  tail_b : tail_of whole b ≡ x
  tail_b = tail_next p p_in ∙ tail_p

  -- as long as the walk from a doesn't come to b it stays at the last node
  arc_tail : (i : ℕ) → ((l : ℕ) → l ≤ i → iterate turn l a ≢ b) → (iterate turn i a < n) × (tail_of whole (iterate turn i a) ≡ rest)
  arc_tail zero none = (a_in, tail_a)
  arc_tail (suc i) none =
      let e = iterate turn i a in
      let before = arc_tail i (λ l low. none l (omega (arith, low))) in
      let not_p : e ≢ p = λ same. omega (arith, sym before.1 ∙ ap (tail_of whole) same ∙ tail_p, x_in) in
      let not_q : e ≢ q = λ same. none (suc i) (omega arith) (ap turn same ∙ turn_q) in
      let is : iterate turn (suc i) a ≡ next e = turn_other e not_p not_q in (
        turn_permutes.below e before.0,
        ap (tail_of whole) is ∙ tail_next e before.0 ∙ before.1,
      )

  -- the walk along the ring, up to the first time that it comes to d
  same_walk : (d k : ℕ) → ((i : ℕ) → i < k → iterate next i a ≢ d) → iterate next k a ≡ d → (i : ℕ) → i ≤ k →
      (iterate turn i a ≡ iterate next i a) × (tail_of whole (iterate next i a) ≡ rest) × (iterate next i a < n)
  same_walk d k early last zero low = (refl, tail_a, a_in)
  same_walk d k early last (suc i) low =
      let before = same_walk d k early last i (omega (arith, low)) in
      let e = iterate next i a in
      let not_p : e ≢ p = λ same. omega (arith, sym before.1 ∙ ap (tail_of whole) same ∙ tail_p, x_in) in
      let j = k - suc i in
      let back : j + suc i ≡ k = omega (arith, low) in
      let not_q : e ≢ q = λ same.
      let round : iterate next (suc i) a ≡ a = ap next same in
      early j (omega (arith, low)) (ap (iterate next j) (sym round) ∙ sym (iterate-add next j (suc i) a) ∙ ap (λ z. iterate next z a) back ∙ last) in (
        ap turn before.0 ∙ turn_other e not_p not_q,
        tail_next e before.2 ∙ before.1,
        has.is_map.permutes.below e before.2,
      )

  arc_of : (d : ℕ) → d < n → tail_of whole d ≡ rest → InArc turn a b d
  arc_of d d_in at_rest =
      let there = has.is_map.one_ring a d a_in d_in (tail_a ∙ sym at_rest) in
      let near = within n next has.is_map.permutes a a_in there.0 in
      elim (first_below n (λ k. eqb (iterate next k a) d)) [
        | inr none ↦ absurd (eqb-false _ _ (none near.0 near.1) (near.2 ∙ there.1))
        | inl found ↦
            let early : (i : ℕ) → i < found.0 → iterate next i a ≢ d = λ i low. eqb-false _ _ (found.3 i low) in
            let last : iterate next found.0 a ≡ d = eqb-true _ _ found.2 in
            let way = same_walk d found.0 early last in (
              found.0,
              (way found.0 (omega arith)).0 ∙ last,
              λ l low same. let one = way l low in omega (arith, sym one.1 ∙ ap (tail_of whole) (sym one.0 ∙ same) ∙ tail_b, x_in),
            )
      ]

  a_not_b : a ≢ b
  a_not_b same = omega (arith, sym tail_a ∙ ap (tail_of whole) same ∙ tail_b, x_in)

  is_split : IsSplit rest loop turn a b whole next
  is_split =
      let wide : (d : ℕ) → d < 2 * length loop → d < n = λ d d_in. omega (arith, d_in, loop_size) in
      let slim : (d : ℕ) → d < n → d < 2 * length loop = λ d d_in. omega (arith, d_in, loop_size) in
      record {
        first_in = slim a a_in;
        second_in = slim b b_in;
        differ = a_not_b;
        one_node =
            tail_loop a a_in ∙ ap (called x rest) tail_a ∙ called-at x rest rest refl ∙ sym (called-other x rest x (λ same. omega (arith, same, x_in)))
            ∙ ap (called x rest) (sym tail_b) ∙ sym (tail_loop b b_in);
        all = sym loop_size;
        moved = λ d d_in arc. ap (tail_of whole) (sym arc.1) ∙ (arc_tail arc.0 arc.2).1;
        stayed = λ d d_in no. elim (cases_eq (tail_of whole d) rest) [
          | inl at_rest ↦ absurd (no (arc_of d (wide d d_in) at_rest))
          | inr other ↦ sym (called-other x rest _ other) ∙ sym (tail_loop d (wide d d_in))
        ];
        turns = λ d d_in. turns_back d (wide d d_in);
      }
    where
      turns_back : (d : ℕ) → d < n → next d ≡ cond (eqb (turn d) a) b (cond (eqb (turn d) b) a (turn d))
      turns_back d d_in = elim (cases_eq d p) [
        | inl at_p ↦ let is : turn d ≡ a = ap turn at_p ∙ turn_p in ap next at_p ∙ sym (cond-true _ _ _ (eq-eqb _ _ is))
        | inr not_p ↦ elim (cases_eq d q) [
          | inl at_q ↦
              let is : turn d ≡ b = ap turn at_q ∙ turn_q in
              ap next at_q ∙ sym (cond-false _ _ _ (ne_eqb _ _ (λ same. a_not_b (sym same ∙ is))) ∙ cond-true _ _ _ (eq-eqb _ _ is))
          | inr not_q ↦
              let is : turn d ≡ next d = turn_other d not_p not_q in
              let not_a : turn d ≢ a = λ same. not_q (has.is_map.permutes.apart d q d_in q_in (sym is ∙ same)) in
              let not_b : turn d ≢ b = λ same. not_p (has.is_map.permutes.apart d p d_in p_in (sym is ∙ same)) in
              sym (cond-false _ _ _ (ne_eqb _ _ not_a) ∙ cond-false _ _ _ (ne_eqb _ _ not_b) ∙ is)
        ]
      ]

  -- what is left without the loop
  abbrev left : List (ℕ × ℕ)
  left = merged x rest ends

  left_size : length left ≡ m
  left_size = length-both (called x rest) ends

  loop_is : loop ≡ left ++ both (called x rest) (x, rest) ∷ []
  loop_is = both-append (called x rest) ends ((x, rest) ∷ [])

  abbrev gone : ℕ → ℕ
  gone = without_segment m turn

  gone_permutes : Permutes n gone
  gone_permutes = Permutes-without n q _ (Permutes-without n p turn turn_permutes p_in) q_in

  fixed_q : gone q ≡ q
  fixed_q = cond-true _ _ _ (eq-eqb q q refl)

  fixed_p : gone p ≡ p
  fixed_p =
      let inner : without p turn p ≡ p = cond-true _ _ _ (eq-eqb p p refl) in
      cond-false _ _ _ (ne_eqb p q (λ same. q_not_p (sym same))) ∙ cond-false _ _ _ (ne_eqb _ _ (λ same. q_not_p (sym same ∙ inner))) ∙ inner

  goes : IsDeletion loop turn m left gone
  goes =
      let low : (d : ℕ) → d < 2 * length left → gone d < 2 * length left = λ d d_in.
      let d_low : d < n = omega (arith, d_in, left_size, size) in
      let high = gone_permutes.below d d_low in
      let not_p : gone d ≢ p = λ same. omega (arith, gone_permutes.apart d p d_low p_in (same ∙ sym fixed_p), d_in, left_size) in
      let not_q : gone d ≢ q = λ same. omega (arith, gone_permutes.apart d q d_low q_in (same ∙ sym fixed_q), d_in, left_size) in
      omega (arith, high, not_p, not_q, size, left_size) in
      let same : (d : ℕ) → d < 2 * length left → dart_before m (length left) d ≡ d = λ d d_in. cond-false _ _ _ (ne_eqb (d / 2) m (λ at. omega (arith, at, d_in, left_size))) in
      record {
        is_there = omega (arith, loop_size, size);
        fewer = omega (arith, loop_size, size, left_size);
        ends_left = λ i i_in.
            let other : cond (eqb i m) (length left) i ≡ i = cond-false _ _ _ (ne_eqb i m (λ at. omega (arith, at, i_in, left_size))) in
            sym (at_front left (both (called x rest) (x, rest) ∷ []) i i_in) ∙ ap (λ es. ends_at es i) (sym loop_is) ∙ ap (ends_at loop) (sym other);
        below = low;
        turns = λ d d_in. same (gone d) (low d d_in) ∙ ap gone (sym (same d d_in));
      }

  left_flat : MeetsEuler rest left gone
  left_flat =
      let face = face_step turn in
      let p_to : face p ≡ b = ap turn (reverse-even m) ∙ turn_q in
      let q_to : face q ≡ a = ap turn (reverse-odd m) ∙ turn_p in
      let whole_components = keeps_components rest a b loop whole turn next loop_map is_split
      (let P : ℕ → Type 0 = λ z. Joined whole z rest in
      subst P (sym (tail_loop a a_in ∙ ap (called x rest) tail_a ∙ called-at x rest rest refl)) (joined_last ends (x, rest))) in
      let loop_ends : (ends_at loop m).0 ≡ (ends_at loop m).1 =
      let is = at_both (called x rest) whole m (omega (arith, size)) in
      let last : ends_at whole m ≡ (x, rest) = at_last ends (x, rest) in
      ap (λ z. z.0) is ∙ ap (λ z. called x rest z.0) last ∙ called-other x rest x (λ same. omega (arith, same, x_in)) ∙ sym (called-at x rest rest refl)
      ∙ ap (λ z. called x rest z.1) (sym last) ∙ ap (λ z. z.1) (sym is) in
      let left_components = deletion_keeps rest m loop left turn gone loop_map goes ([], loop_ends) in
      let face_permutes = Permutes-face (length loop) turn loop_map.permutes in
      let wide : 2 * length loop ≡ n = ap (λ k. 2 * k) loop_size in
      elim (cases_reaches (2 * length loop) face face_permutes a b (omega (arith, a_in, wide))) [
        | inl one ↦
            let faces = splits_a_face rest a b loop whole turn next loop_map is_split one in
            let p_to_q : Reaches face p q =
            reaches_trans face p b q (1, p_to)
            (reaches_trans face b a q (reaches_back (2 * length loop) face face_permutes a b (omega (arith, a_in, wide)) one)
            (reaches_back (2 * length loop) face face_permutes q a (omega (arith, q_in, wide)) (1, q_to))) in
            let fewer = deletion_splits rest m loop left turn gone loop_map goes p_to_q in
            omega (arith, has.flat, faces, fewer, whole_components, left_components, size, left_size)
        | inr two ↦
            let faces = joins_faces rest a b loop whole turn next loop_map is_split two in
            let apart : Reaches face p q → ⊥ = λ there. two
            (reaches_trans face a p b (reaches_trans face a q p (reaches_back (2 * length loop) face face_permutes q a (omega (arith, q_in, wide)) (1, q_to))
            (reaches_back (2 * length loop) face face_permutes p q (omega (arith, p_in, wide)) there)) (1, p_to)) in
            let fewer = deletion_joins rest m loop left turn gone loop_map goes apart in
            omega (arith, has.flat, faces, fewer.0, whole_components, left_components, size, left_size)
      ]

  pub contracted_last : HasFlat rest (merged x rest ends)
  contracted_last = record { next = gone; is_map = map_left rest m loop left turn gone loop_map goes; flat = left_flat }

-- ---- any segment

renamed_contracted : (rest x y : ℕ) (ends : List (ℕ × ℕ)) → x ≢ y → x < suc rest → y < suc rest → HasFlat (suc rest) (ends ++ (x, y) ∷ []) → HasFlat (suc rest) (merged x y ends)
renamed_contracted rest x y ends other x_in y_in has =
    let swap = exchanged y rest in
    let x' = swap x in
    let names = named_flat (suc rest) (ends ++ (x, y) ∷ []) swap (Permutes-exchanged (suc rest) y rest y_in (omega arith)) has in
    let y_is : swap y ≡ rest = omega (arith, cases_exchanged y rest y) in
    let x'_in : x' < rest = omega (arith, cases_exchanged y rest x, other, x_in, y_in) in
    let split : map (both swap) (ends ++ (x, y) ∷ []) ≡ map (both swap) ends ++ (x', rest) ∷ [] =
    both-append swap ends ((x, y) ∷ []) ∙ ap (λ z. map (both swap) ends ++ (x', z) ∷ []) y_is in
    let small = contracted_last rest x' (map (both swap) ends) x'_in (subst (HasFlat (suc rest)) split names) in
    let back = named_flat (suc rest) (merged x' rest (map (both swap) ends)) swap (Permutes-exchanged (suc rest) y rest y_in (omega arith)) (more_flat rest _ small) in
    let each : (v : ℕ) → swap (called x' rest (swap v)) ≡ called x y v = λ v.
    let again : swap x' ≡ x = omega (arith, cases_exchanged y rest x, cases_exchanged y rest x') in
    elim (cases_eq v y) [
      | inl at_y ↦ ap swap (called-at x' rest (swap v) (ap swap at_y ∙ y_is)) ∙ again ∙ sym (called-at x y v at_y)
      | inr not_y ↦
          let moved : swap v ≢ rest = λ same. omega (arith, same, cases_exchanged y rest v, not_y) in
          let round : swap (swap v) ≡ v = omega (arith, cases_exchanged y rest v, cases_exchanged y rest (swap v)) in
          ap swap (called-other x' rest (swap v) moved) ∙ round ∙ sym (called-other x y v not_y)
    ] in
    let is : map (both swap) (merged x' rest (map (both swap) ends)) ≡ merged x y ends =
    ap (map (both swap)) (map-map swap (called x' rest) ends) ∙ map-map (λ v. called x' rest (swap v)) swap ends
    ∙ both-same (λ v. swap (called x' rest (swap v))) (called x y) ends (λ s s_in. (each _, each _)) in
    subst (HasFlat (suc rest)) is back

pub contracted_flat : ContractionStaysFlat
contracted_flat zero x y ends other has =
    let low = tail_in 0 (ends ++ (x, y) ∷ []) has.is_map.ends_in (2 * length ends) (omega (arith, length-append ends ((x, y) ∷ []))) in absurd (omega (arith, low))
contracted_flat (suc rest) x y ends other has =
    let size = length-append ends ((x, y) ∷ []) in
    let first = tail_in (suc rest) (ends ++ (x, y) ∷ []) has.is_map.ends_in (2 * length ends) (omega (arith, size)) in
    let second = tail_in (suc rest) (ends ++ (x, y) ∷ []) has.is_map.ends_in (2 * length ends + 1) (omega (arith, size)) in
    renamed_contracted rest x y ends other (omega (arith, first, tail-push_even ends (x, y))) (omega (arith, second, tail-push_odd ends (x, y))) has
