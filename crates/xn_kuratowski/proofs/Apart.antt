-- A contracted segment comes back: where the darts of each star stand side by side, the node falls into two.
use Rattle.std.proofs.Common.{◌≡◌, ◌≢◌, ℕ, suc, ◌+◌, ◌*◌, ◌/◌, ◌<◌, ◌⊎◌, inl, inr, List, [], ◌∷◌, ◌++◌, length, map, refl, sym, ◌∙◌, ap, ap₂, subst, arith, length-append}
use Rattle.std.proofs.lemmas.Bool.{cases_lt, cond-true, cond-false, eq-eqb, ne_eqb, le-leb, leb-true}
use Rattle.xn_model.specs.Graph.{ends_at}
use Rattle.xn_model.specs.Lists.{at}
use Rattle.xn_model.specs.Map.{MeetsEuler, IsFlat, IsMap, Joined, face_step, reverse_of, tail_of}
use Rattle.xn_model.specs.Permutation.{IsSplice, Reaches, iterate}
use Rattle.xn_model.proofs.Darts.{reverse-reverse, reverse_below, tail-even, tail-odd}
use Rattle.xn_ring.proofs.Orbits.{cases_reaches, reaches_back, reaches_trans, source_of}
use Rattle.xn_ring.proofs.Splice.{JoinsCycles-splice}
use Rattle.xn_genus.proofs.Counts.{IsSplice-face, Permutes-face}
use Rattle.xn_genus.proofs.Kept.{EndsIn_at}
use Rattle.xn_surgery.specs.Corners.{after}
use Rattle.xn_surgery.specs.Splitting.{IsSplit}
use Rattle.xn_surgery.proofs.Split.{flat_split, keeps_components, map_split, splits_a_face}
use Rattle.xn_fewer.specs.Flat.{HasFlat, both}
use Rattle.xn_fewer.proofs.Flats.{Permutes-exchanged, fewer_flat, inserted_flat, named_flat}
use Rattle.xn_fewer.proofs.Lists.{at_both, at_front, at_last, cases_exchanged, exchanged, length-both, lone_ends}
use Rattle.xn_kuratowski.proofs.Rim.{ArcsComeApart, AreArcs, AreStars, web_of_stars, web_merged}
use Rattle.xn_kuratowski.proofs.Splits.{arc_tail, split_turn, split_web, splits}
use Rattle.xn_kuratowski.proofs.Stars.{at_first, at_more, at_rest, at_second, ends_in_beside, first_at_x, places, same_webs, second_at_x, size_of_stars, size_merged, web_first, web_rest, web_second, x_others, y_others}

-- a node that isn't one of two keeps its number
pub exchanged-other : (v w x : ℕ) → x ≢ v → x ≢ w → exchanged v w x ≡ x
exchanged-other v w x not_v not_w = omega (arith, not_v, not_w, cases_exchanged v w x)

exchanged-second : (v w : ℕ) → exchanged v w w ≡ v
exchanged-second v w = omega (arith, cases_exchanged v w w)

module _ (nodes : ℕ) (rest : List (ℕ × ℕ)) (x y : ℕ) (xs ys : List ℕ) (is : AreStars nodes rest x y xs ys) (next : ℕ → ℕ)
    (flat_map : IsFlat (record { nodes = nodes; ends = web_merged rest x xs ys }) next) (a b : ℕ) (arcs : AreArcs rest (web_merged rest x xs ys) x xs next a b) where
  abbrev ends : List (ℕ × ℕ)
  ends = web_merged rest x xs ys

  abbrev n : ℕ
  n = 2 * length ends

  is_map : IsMap nodes ends next
  is_map = flat_map.is_map

  one_node : tail_of ends a ≡ tail_of ends b
  one_node = arcs.first_at ∙ sym arcs.second_at

  abbrev split : List (ℕ × ℕ)
  split = split_web nodes a b ends next is_map arcs.first_in arcs.second_in arcs.differ one_node

  abbrev turn : ℕ → ℕ
  turn = split_turn nodes a b ends next is_map arcs.first_in arcs.second_in arcs.differ one_node

  cut : IsSplit nodes ends next a b split turn
  cut = splits nodes a b ends next is_map arcs.first_in arcs.second_in arcs.differ one_node

  split_map : IsMap (suc nodes) split turn
  split_map = map_split nodes a b ends split next turn is_map cut

  split_flat : MeetsEuler (suc nodes) split turn
  split_flat = flat_split nodes a b ends split next turn is_map cut flat_map.flat

  -- what led to a and to b
  to_a : (c : ℕ) × (c < n) × (next c ≡ a)
  to_a = source_of n next is_map.permutes a arcs.first_in

  to_b : (e : ℕ) × (e < n) × (next e ≡ b)
  to_b = source_of n next is_map.permutes b arcs.second_in

  turn_a : turn to_a.0 ≡ b
  turn_a = cond-true _ _ _ (eq-eqb _ _ to_a.2)

  turn_b : turn to_b.0 ≡ a
  turn_b = cond-false _ _ _ (ne_eqb _ _ (λ same. arcs.differ (sym same ∙ to_b.2))) ∙ cond-true _ _ _ (eq-eqb _ _ to_b.2)

  wide : (d : ℕ) → d < n → d < 2 * length split
  wide d d_in = omega (arith, d_in, cut.all)

  tail_a : tail_of split a ≡ nodes
  tail_a = cut.moved a arcs.first_in (0, refl, λ l low same. arcs.differ (ap (λ k. iterate next k a) (let z : 0 ≡ l = omega (arith, low) in z) ∙ same))

  tail_b : tail_of split b ≡ x
  tail_b = cut.stayed b arcs.second_in (λ arc. arc.2 arc.0 (omega arith) arc.1) ∙ arcs.second_at

  corner_a : tail_of split to_a.0 ≡ x
  corner_a = sym (split_map.same_node to_a.0 (wide to_a.0 to_a.1)) ∙ ap (tail_of split) turn_a ∙ tail_b

  corner_b : tail_of split to_b.0 ≡ nodes
  corner_b = sym (split_map.same_node to_b.0 (wide to_b.0 to_b.1)) ∙ ap (tail_of split) turn_b ∙ tail_a

  x_not_new : x ≢ nodes
  x_not_new same = omega (arith, same, is.x_in)

  -- the two nodes have corners in one face, or aren't joined
  where_to : Reaches (face_step turn) (turn to_a.0) (turn to_b.0) ⊎ (Joined split x nodes → ⊥)
  where_to =
      let c = to_a.0 in
      let e = to_b.0 in
      let face = face_step next in
      let face' = face_step turn in
      let permutes = Permutes-face (length ends) next is_map.permutes in
      let splice : IsSplice n c e next turn = record {
        first = turn_a ∙ sym to_b.2;
        second = turn_b ∙ sym to_a.2;
        others = λ d d_in not_c not_e.
            cond-false _ _ _ (ne_eqb _ _ (λ at. not_c (is_map.permutes.apart d c d_in to_a.1 (at ∙ sym to_a.2))))
            ∙ cond-false _ _ _ (ne_eqb _ _ (λ at. not_e (is_map.permutes.apart d e d_in to_b.1 (at ∙ sym to_b.2))));
      } in
      let rc_in = reverse_below (length ends) c to_a.1 in
      let re_in = reverse_below (length ends) e to_b.1 in
      let c_to : face (reverse_of c) ≡ a = ap next (reverse-reverse c) ∙ to_a.2 in
      let e_to : face (reverse_of e) ≡ b = ap next (reverse-reverse e) ∙ to_b.2 in
      elim (cases_reaches n face permutes a b arcs.first_in) [
        | inl one ↦
            let faces = splits_a_face nodes a b ends split next turn is_map cut one in
            inr (λ joined.
            let P : ℕ → Type 0 = λ z. Joined split z nodes in
            let components = keeps_components nodes a b ends split next turn is_map cut (subst P (sym arcs.first_at) joined) in
            omega (arith, flat_map.flat, split_flat, faces, components, cut.all))
        | inr two ↦
            let apart : Reaches face (reverse_of c) (reverse_of e) → ⊥ = λ there. two
            (reaches_trans face a (reverse_of c) b (reaches_back n face permutes (reverse_of c) a rc_in (1, c_to)) (reaches_trans face (reverse_of c) (reverse_of e) b there (1, e_to))) in
            let joins = JoinsCycles-splice n (reverse_of c) (reverse_of e) face face' permutes (IsSplice-face (length ends) c e next turn splice) rc_in re_in apart in
            let m = length split in
            let permutes' = Permutes-face m turn split_map.permutes in
            let c_now : face' (reverse_of c) ≡ turn c = ap turn (reverse-reverse c) in
            let e_now : face' (reverse_of e) ≡ turn e = ap turn (reverse-reverse e) in
            inl (reaches_trans face' (turn c) (reverse_of c) (turn e) (reaches_back (2 * m) face' permutes' (reverse_of c) (turn c) (wide _ rc_in) (1, c_now))
            (reaches_trans face' (reverse_of c) (reverse_of e) (turn e) joins.one (1, e_now)))
      ]

  abbrev opened : List (ℕ × ℕ)
  opened = split ++ (x, nodes) ∷ []

  opened_flat : HasFlat (suc nodes) opened
  opened_flat =
      inserted_flat (suc nodes) split turn (after to_a.0) (after to_b.0) x nodes split_map split_flat (wide to_a.0 to_a.1) (wide to_b.0 to_b.1) corner_a corner_b x_not_new where_to

  -- ---- with the new node called y, this is the web

  abbrev r : ℕ
  r = length rest

  abbrev p : ℕ
  p = length xs

  abbrev q : ℕ
  q = length ys

  split_size : length split ≡ r + (p + q)
  split_size = cut.all ∙ size_merged nodes rest x y xs ys is

  -- a dart that isn't at x, or isn't of the second star, keeps its node
  stays_at : (d : ℕ) → d < n → tail_of ends d ≢ x → tail_of split d ≡ tail_of ends d
  stays_at d d_in other = cut.stayed d d_in (λ arc. other (arc_tail nodes a b ends next is_map arcs.first_in d arc ∙ arcs.first_at))

  split_ends : (s : ℕ) → ends_at split s ≡ (tail_of split (2 * s), tail_of split (2 * s + 1))
  split_ends s = ap₂ (λ u v. (u, v)) (sym (tail-even split s)) (sym (tail-odd split s))

  segment_in : (s : ℕ) → s < r + (p + q) → (2 * s < n) × (2 * s + 1 < n)
  segment_in s s_in = let size = size_merged nodes rest x y xs ys is in (omega (arith, s_in, size), omega (arith, s_in, size))

  split_rest : (i : ℕ) → i < r → ends_at split i ≡ ends_at rest i
  split_rest i i_in =
      let never = lone_ends rest x is.x_lone i i_in in
      let low = segment_in i (omega (arith, i_in)) in
      let e = web_rest nodes rest x y xs ys is i i_in in
      let first : tail_of ends (2 * i) ≡ (ends_at rest i).0 = tail-even ends i ∙ ap (λ z. z.0) e in
      let second : tail_of ends (2 * i + 1) ≡ (ends_at rest i).1 = tail-odd ends i ∙ ap (λ z. z.1) e in
      split_ends i ∙ ap₂ (λ u v. (u, v)) (stays_at (2 * i) low.0 (λ at. never.0 (sym first ∙ at)) ∙ first) (stays_at (2 * i + 1) low.1 (λ at. never.1 (sym second ∙ at)) ∙ second)

  split_first : (k : ℕ) → k < p → ends_at split (r + k) ≡ (x, at xs k)
  split_first k k_in =
      let low = segment_in (r + k) (omega (arith, k_in)) in
      let e = web_first nodes rest x y xs ys is k k_in in
      let d = 2 * (r + k) in
      let at_x = first_at_x nodes rest x y xs ys is k k_in in
      let head : tail_of ends (d + 1) ≡ at xs k = tail-odd ends (r + k) ∙ ap (λ z. z.1) e in
      let half : d / 2 ≡ r + k = omega arith in
      let stays : tail_of split d ≡ x = cut.stayed d low.0 (λ arc.
      let second = leb-true _ _ ((arcs.arc d low.0 at_x).0 arc) in
      omega (arith, second, half, k_in)) ∙ at_x in
      split_ends (r + k) ∙ ap₂ (λ u v. (u, v)) stays (stays_at (d + 1) low.1 (λ at. (x_others nodes rest x y xs ys is k k_in).1 (sym head ∙ at)) ∙ head)

  split_second : (k : ℕ) → k < q → ends_at split (r + (p + k)) ≡ (nodes, at ys k)
  split_second k k_in =
      let low = segment_in (r + (p + k)) (omega (arith, k_in)) in
      let e = web_second nodes rest x y xs ys is k k_in in
      let d = 2 * (r + (p + k)) in
      let at_x = second_at_x nodes rest x y xs ys is k k_in in
      let head : tail_of ends (d + 1) ≡ at ys k = tail-odd ends (r + (p + k)) ∙ ap (λ z. z.1) e in
      let half : d / 2 ≡ r + (p + k) = omega arith in
      let moves : tail_of split d ≡ nodes = cut.moved d low.0 ((arcs.arc d low.0 at_x).1 (le-leb _ _ (omega (arith, half)))) in
      split_ends (r + (p + k)) ∙ ap₂ (λ u v. (u, v)) moves (stays_at (d + 1) low.1 (λ at. (y_others nodes rest x y xs ys is k k_in).1 (sym head ∙ at)) ∙ head)

  abbrev beside : List (ℕ × ℕ)
  beside = web_of_stars rest x y xs ys

  abbrev names : ℕ → ℕ
  names = exchanged y nodes

  old_name : (v : ℕ) → v < nodes → v ≢ y → names v ≡ v
  old_name v v_in other = exchanged-other y nodes v other (λ same. omega (arith, same, v_in))

  opened_size : length opened ≡ r + (p + (q + 1))
  opened_size = let one = length-append split ((x, nodes) ∷ []) in omega (arith, one, split_size)

  is_web : map (both names) opened ≡ beside
  is_web = same_webs (map (both names) opened) beside
      (length-both names opened ∙ opened_size ∙ sym (size_of_stars nodes rest x y xs ys is))
      (λ i i_in. let i_low : i < length opened = omega (arith, i_in, length-both names opened) in at_both names opened i i_low ∙ each i (omega (arith, i_low, opened_size)))
    where
      front : (i : ℕ) → i < r + (p + q) → ends_at opened i ≡ ends_at split i
      front i i_in = at_front split ((x, nodes) ∷ []) i (omega (arith, i_in, split_size))

      each : (i : ℕ) → i < r + (p + (q + 1)) → both names (ends_at opened i) ≡ ends_at beside i
      each i i_in = elim (cases_lt i (r + (p + q))) [
        | inr last ↦
            let here : i ≡ length split = omega (arith, last, i_in, split_size) in
            let there : i ≡ r + (p + (q + 0)) = omega (arith, last, i_in) in
            ap (λ j. both names (ends_at opened j)) here ∙ ap (both names) (at_last split (x, nodes))
            ∙ ap₂ (λ u v. (u, v)) (old_name x is.x_in is.two_ends) (exchanged-second y nodes)
            ∙ sym (ap (ends_at beside) there ∙ at_more rest x y xs ys ((x, y) ∷ []) 0)
        | inl low ↦ ap (both names) (front i low) ∙ elim (places r p q i low) [
          | inl in_rest ↦
              let never = lone_ends rest y is.y_lone i in_rest in
              let below = EndsIn_at nodes rest is.ends_in i in_rest in
              ap (both names) (split_rest i in_rest) ∙ ap₂ (λ u v. (u, v)) (old_name _ below.0 never.0) (old_name _ below.1 never.1)
              ∙ sym (at_rest rest x y xs ys ((x, y) ∷ []) i in_rest)
          | inr (inl one) ↦
              let head = is.x_heads.below one.0 0 one.1 in
              ap (λ j. both names (ends_at split j)) one.2 ∙ ap (both names) (split_first one.0 one.1)
              ∙ ap₂ (λ u v. (u, v)) (old_name x is.x_in is.two_ends) (old_name _ head.0 head.2)
              ∙ sym (ap (ends_at beside) one.2 ∙ at_first rest x y xs ys ((x, y) ∷ []) one.0 one.1)
          | inr (inr two) ↦
              let head = is.y_heads.below two.0 0 two.1 in
              ap (λ j. both names (ends_at split j)) two.2 ∙ ap (both names) (split_second two.0 two.1)
              ∙ ap₂ (λ u v. (u, v)) (exchanged-second y nodes) (old_name _ head.0 head.2)
              ∙ sym (ap (ends_at beside) two.2 ∙ at_second rest x y xs ys ((x, y) ∷ []) two.0 two.1)
        ]
      ]

  come_apart : HasFlat nodes beside
  come_apart =
      fewer_flat nodes beside (ends_in_beside nodes rest x y xs ys is)
      (subst (HasFlat (suc nodes)) is_web (named_flat (suc nodes) opened names (Permutes-exchanged (suc nodes) y nodes (omega (arith, is.y_in)) (omega arith)) opened_flat))

pub arcs_come_apart : ArcsComeApart
arcs_come_apart nodes rest x y xs ys is has = come_apart nodes rest x y xs ys is has.0 has.1 has.2.0 has.2.1 has.2.2
