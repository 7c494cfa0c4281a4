-- Chains of segments become one segment each: faces, components and flatness stay.
use Rattle.std.proofs.Common.{◌≡◌, ℕ, zero, suc, ◌+◌, ◌*◌, ◌<◌, ◌≤◌, inl, inr, true, List, [], ◌∷◌, length, refl, sym, ◌∙◌, ap, subst, arith}
use Rattle.std.proofs.lemmas.Bool.{cases_Bool, cases_eq, eq-eqb, eqb-true}
use Rattle.xn_model.specs.Lists.{at}
use Rattle.xn_model.specs.Map.{IsMap, Joined, WalksTo, component_count, component_labels, face_count, face_step, is_lone, reverse_of, tail_of}
use Rattle.xn_model.specs.Permutation.{Permutes, Reaches, count_below, cycle_count, is_least, iterate}
use Rattle.xn_surgery.specs.Contraction.{IsContraction, along_chain}
use Rattle.xn_model.proofs.ComponentWalks.{joined_dart, joined_sym, joined_to_label, joined_trans, label_from_joined}
use Rattle.xn_model.proofs.Components.{IsLabelling-components}
use Rattle.xn_model.proofs.Darts.{reverse-reverse, reverse_apart, reverse_below}
use Rattle.xn_ring.proofs.Counting.{count_injects}
use Rattle.xn_ring.proofs.Orbits.{IsLeast-from_test, iterate_below, least_of, least_unique, reaches_back, reaches_below, reaches_step, reaches_trans, test-from_IsLeast}
use Rattle.xn_genus.proofs.Compress.{tail_in}
use Rattle.xn_genus.proofs.Counts.{Permutes-face}
use Rattle.xn_surgery.proofs.FaceWalk.{joined_along_face}
use Rattle.xn_genus.proofs.Lone.{dart_if_not_lone, no_dart_if_lone}
use Rattle.xn_genus.proofs.Nodes.{alone_walk, lone_from}

module _ (nodes left_nodes : ℕ) (ends left : List (ℕ × ℕ)) (next after start steps node : ℕ → ℕ) (map : IsMap nodes ends next)
    (is : IsContraction nodes ends next left_nodes left after start steps node) where
  abbrev n : ℕ
  n = 2 * length ends

  abbrev k : ℕ
  k = 2 * length left

  abbrev face : ℕ → ℕ
  face = face_step next

  abbrev left_face : ℕ → ℕ
  left_face = face_step after

  abbrev chain : ℕ → ℕ → ℕ
  chain = along_chain next start

  start_apart : (i j : ℕ) → i < k → j < k → start i ≡ start j → i ≡ j
  start_apart i j i_in j_in same = (is.apart i j 0 i_in j_in (omega arith) (sym same)).0

  tail_left_in : (j : ℕ) → j < k → tail_of left j < left_nodes
  tail_left_in = tail_in left_nodes left is.ends_in

  walks_on : (i j : ℕ) → j < k → (iterate after i j < k) × (start (iterate after i j) ≡ iterate next i (start j))
  walks_on zero j j_in = (j_in, refl)
  walks_on (suc i) j j_in =
      let before = walks_on i j j_in in
      (is.below _ before.0, is.turns _ before.0 ∙ ap next before.1)

  pub map_left : IsMap left_nodes left after
  map_left = record {
    ends_in = is.ends_in;
    permutes = record {
      below = is.below;
      apart = λ i j i_in j_in same.
          start_apart i j i_in j_in (map.permutes.apart _ _ (is.starts_in i i_in) (is.starts_in j j_in) (sym (is.turns i i_in) ∙ ap start same ∙ is.turns j j_in));
    };
    same_node = λ j j_in. is.nodes_apart _ _ (tail_left_in (after j) (is.below j j_in)) (tail_left_in j j_in)
        (sym (is.tails (after j) (is.below j j_in)) ∙ ap (tail_of ends) (is.turns j j_in) ∙ map.same_node (start j) (is.starts_in j j_in) ∙ is.tails j j_in);
    one_ring = λ i j i_in j_in same.
        let there = map.one_ring (start i) (start j) (is.starts_in i i_in) (is.starts_in j j_in) (is.tails i i_in ∙ ap node same ∙ sym (is.tails j j_in)) in
        let along = walks_on there.0 i i_in in
        (there.0, start_apart _ j along.0 j_in (along.1 ∙ there.1));
  }

  -- faces
  face_permutes : Permutes n face
  face_permutes = Permutes-face (length ends) next map.permutes

  left_face_permutes : Permutes k left_face
  left_face_permutes = Permutes-face (length left) after map_left.permutes

  -- past the end of a chain the next one starts
  at_end : (j : ℕ) → j < k → face (chain j (steps j)) ≡ start (left_face j)
  at_end j j_in =
      let r_in = reverse_below (length left) j j_in in
      ap face (is.arrives j j_in) ∙ ap next (reverse-reverse (start (reverse_of j))) ∙ sym (is.turns (reverse_of j) r_in)

  one_face_on : (j : ℕ) → j < k → Reaches face (start j) (start (left_face j))
  one_face_on j j_in = (suc (steps j), at_end j j_in)

  faces_on : (i j : ℕ) → j < k → Reaches face (start j) (start (iterate left_face i j))
  faces_on zero j j_in = (0, refl)
  faces_on (suc i) j j_in =
      reaches_trans face (start j) (start (iterate left_face i j)) (start (iterate left_face (suc i) j)) (faces_on i j j_in)
      (one_face_on (iterate left_face i j) (iterate_below k left_face left_face_permutes i j j_in))

  start_reaches : (i j : ℕ) → i < k → Reaches left_face i j → Reaches face (start i) (start j)
  start_reaches i j i_in there =
      let P : ℕ → Type 0 = λ x. Reaches face (start i) (start x) in
      subst P there.1 (faces_on there.0 i i_in)

  -- a walk along a face of the map passes along chains of one face of what is left
  passes : (l i : ℕ) → i < k → (j : ℕ) × (j < k) × Reaches left_face i j × (s : ℕ) × (s ≤ steps j) × (chain j s ≡ iterate face l (start i))
  passes zero i i_in = (i, i_in, (0, refl), 0, omega arith, refl)
  passes (suc l) i i_in =
      let so_far = passes l i i_in in
      let j = so_far.0 in
      let s = so_far.3 in
      elim (cases_eq s (steps j)) [
        | inr before ↦ (j, so_far.1, so_far.2, suc s, omega (arith, so_far.4, before), ap face so_far.5)
        | inl last ↦ (
          left_face j,
          left_face_permutes.below j so_far.1,
          reaches_step left_face i j so_far.2,
          0,
          omega arith,
          sym (at_end j so_far.1) ∙ ap (λ x. face (chain j x)) (sym last) ∙ ap face so_far.5,
        )
      ]

  reaches_left : (i j : ℕ) → i < k → j < k → Reaches face (start i) (start j) → Reaches left_face i j
  reaches_left i j i_in j_in there =
      let on = passes there.0 i i_in in
      let same = (is.apart j on.0 on.3 j_in on.1 on.4 (on.5 ∙ there.1)).0 in
      let P : ℕ → Type 0 = λ x. Reaches left_face i x in
      subst P (sym same) on.2

  cycles_to : cycle_count n face ≤ cycle_count k left_face
  cycles_to = count_injects n k (is_least n face) (is_least k left_face) (λ d t. (t < k) × (is_least n face d ≡ true) × Reaches face d (start t))
      (λ d d_in h.
      let j = is.covers d d_in in
      let m = least_of k left_face left_face_permutes j.0 j.1 in
      let m_in = reaches_below k left_face left_face_permutes j.0 m.0 j.1 m.1 in
      let back = reaches_back n face face_permutes (start j.0) d (is.starts_in j.0 j.1) (j.2, j.4) in
      (m.0, m_in, test-from_IsLeast k left_face left_face_permutes m.0 m.2, (m_in, h, reaches_trans face d (start j.0) (start m.0) back (start_reaches j.0 m.0 j.1 m.1))))
      (λ d f t d_in f_in x y.
      least_unique n face face_permutes d f d_in
      (reaches_trans face d (start t) f x.2 (reaches_back n face face_permutes f (start t) f_in y.2))
      (IsLeast-from_test n face face_permutes d d_in x.1) (IsLeast-from_test n face face_permutes f f_in y.1))

  cycles_from : cycle_count k left_face ≤ cycle_count n face
  cycles_from = count_injects k n (is_least k left_face) (is_least n face) (λ t d. (is_least k left_face t ≡ true) × Reaches face (start t) d)
      (λ t t_in h.
      let m = least_of n face face_permutes (start t) (is.starts_in t t_in) in
      let m_in = reaches_below n face face_permutes (start t) m.0 (is.starts_in t t_in) m.1 in
      (m.0, m_in, test-from_IsLeast n face face_permutes m.0 m.2, (h, m.1)))
      (λ t u d t_in u_in x y.
      let there = reaches_trans face (start t) d (start u) x.1 (reaches_back n face face_permutes (start u) d (is.starts_in u u_in) y.1) in
      least_unique k left_face left_face_permutes t u t_in (reaches_left t u t_in u_in there)
      (IsLeast-from_test k left_face left_face_permutes t t_in x.0) (IsLeast-from_test k left_face left_face_permutes u u_in y.0))

  -- nodes without darts
  at_start : (d w : ℕ) → d < n → w < left_nodes → tail_of ends d ≡ node w → (j : ℕ) × (j < k) × (start j ≡ d) × (tail_of left j ≡ w)
  at_start d w d_in w_in at_w =
      let c = is.covers d d_in in
      go c.0 c.1 c.2 c.3 c.4
    where
      go : (j : ℕ) → j < k → (i : ℕ) → i ≤ steps j → chain j i ≡ d → (j : ℕ) × (j < k) × (start j ≡ d) × (tail_of left j ≡ w)
      go j j_in zero i_in at = (j, j_in, at, is.nodes_apart _ _ (tail_left_in j j_in) w_in (sym (is.tails j j_in) ∙ ap (tail_of ends) at ∙ at_w))
      go j j_in (suc i) i_in at = absurd (is.inner j i w j_in (omega arith) w_in (ap (tail_of ends) at ∙ at_w))

  lone_there : (w : ℕ) → w < left_nodes → is_lone left w ≡ true → is_lone ends (node w) ≡ true
  lone_there w w_in h = lone_from ends (node w) (λ d d_in at_w.
      let j = at_start d w d_in w_in at_w in
      no_dart_if_lone left w h j.0 j.1 j.3)

  lone_back : (w : ℕ) → w < left_nodes → is_lone ends (node w) ≡ true → is_lone left w ≡ true
  lone_back w w_in h = lone_from left w (λ j j_in at_w. no_dart_if_lone ends (node w) h (start j) (is.starts_in j j_in) (is.tails j j_in ∙ ap node at_w))

  lone_left : count_below left_nodes (is_lone left) ≡ count_below nodes (is_lone ends)
  lone_left =
      let there = count_injects left_nodes nodes (is_lone left) (is_lone ends) (λ w t. node w ≡ t)
      (λ w w_in h. (node w, is.nodes_in w w_in, lone_there w w_in h, refl))
      (λ w x t w_in x_in one two. is.nodes_apart w x w_in x_in (one ∙ sym two)) in
      let back = count_injects nodes left_nodes (is_lone ends) (is_lone left) (λ t w. node w ≡ t)
      (λ t t_in h.
      let w = is.lone t t_in h in
      (w.0, w.1, lone_back w.0 w.1 (ap (is_lone ends) w.2 ∙ h), w.2))
      (λ t x w t_in x_in one two. sym one ∙ two) in
      omega (arith, there, back)

  pub faces_left : face_count left_nodes left after ≡ face_count nodes ends next
  faces_left = omega (arith, cycles_to, cycles_from, lone_left)

  -- the chain of a dart's reverse
  turned : (j : ℕ) → j < k → (i l : ℕ) → i + l ≡ steps j → (s : ℕ) × (s ≤ steps (reverse_of j)) × (chain (reverse_of j) s ≡ reverse_of (chain j i))
  turned j j_in i zero sum =
      let e : i ≡ steps j = omega (arith, sum) in
      (0, omega arith, sym (reverse-reverse (start (reverse_of j))) ∙ ap reverse_of (sym (is.arrives j j_in)) ∙ ap (λ x. reverse_of (chain j x)) (sym e))
  turned j j_in i (suc l) sum =
      let r = reverse_of j in
      let r_in = reverse_below (length left) j j_in in
      let before = turned j j_in (suc i) l (omega (arith, sum)) in
      let step : face (chain r before.0) ≡ reverse_of (chain j i) =
      ap face before.2 ∙ ap next (reverse-reverse (chain j (suc i))) ∙ is.two_darts j i j_in (omega (arith, sum)) in
      elim (cases_eq before.0 (steps r)) [
        | inr more ↦ (suc before.0, omega (arith, before.1, more), step)
        | inl last ↦
            let back : start (reverse_of r) ≡ start j = ap start (reverse-reverse j) in
            let is_start : chain j (suc i) ≡ start j = reverse_apart _ _ (sym before.2 ∙ ap (chain r) last ∙ is.arrives r r_in ∙ ap reverse_of back) in
            let none = (is.apart j j (suc i) j_in j_in (omega (arith, sum)) is_start).1 in
            absurd (omega (arith, none))
      ]

  -- d lies on a chain of the component of a
  abbrev Near : ℕ → ℕ → Type 0
  Near a d = (j : ℕ) × (j < k) × (i : ℕ) × (i ≤ steps j) × (chain j i ≡ d) × Joined left (tail_of left j) a

  near_reverse : (a d : ℕ) → Near a d → Near a (reverse_of d)
  near_reverse a d near =
      let j = near.0 in
      let r = reverse_of j in
      let split = rest near.2 (steps j) near.3 in
      let there = turned j near.1 near.2 split.0 split.1 in
      let r_in = reverse_below (length left) j near.1 in (
        r,
        r_in,
        there.0,
        there.1,
        there.2 ∙ ap reverse_of near.4,
        joined_trans left (tail_of left r) (tail_of left j) a (joined_sym left (tail_of left j) (tail_of left r) (joined_dart left j near.1)) near.5,
      )
    where
      rest : (i s : ℕ) → i ≤ s → (l : ℕ) × (i + l ≡ s)
      rest zero s i_in = (s, omega arith)
      rest (suc i) zero i_in = absurd (omega arith)
      rest (suc i) (suc s) i_in = let l = rest i s (omega arith) in (l.0, omega (arith, l.1))

  near_next : (a d : ℕ) → Near a d → Near a (next d)
  near_next a d near = go near.0 near.1 near.2 near.3 near.4 near.5
    where
      go : (j : ℕ) → j < k → (i : ℕ) → i ≤ steps j → chain j i ≡ d → Joined left (tail_of left j) a → Near a (next d)
      go j j_in zero i_in at there =
          let P : ℕ → Type 0 = λ x. Joined left x a in
          (after j, is.below j j_in, 0, omega arith, is.turns j j_in ∙ ap next at, subst P (sym (map_left.same_node j j_in)) there)
      go j j_in (suc i) i_in at there =
          let before : Near a (chain j i) = (j, j_in, i, omega arith, refl, there) in
          let P : ℕ → Type 0 = λ x. Near a x in
          subst P (sym (is.two_darts j i j_in (omega arith)) ∙ ap next at) (near_reverse a (chain j i) before)

  near_reaches : (a d : ℕ) → Near a d → (l : ℕ) → Near a (iterate next l d)
  near_reaches a d near zero = near
  near_reaches a d near (suc l) = near_next a (iterate next l d) (near_reaches a d near l)

  -- along a walk of the map
  near_walk : (a u v : ℕ) (darts : List ℕ) → (e : ℕ) → e < n → tail_of ends e ≡ u → Near a e → WalksTo ends u darts v → (f : ℕ) × (f < n) × (tail_of ends f ≡ v) × Near a f
  near_walk a u v [] e e_in at_u near walk = (e, e_in, at_u ∙ walk, near)
  near_walk a u v (d ∷ darts) e e_in at_u near walk =
      let there = map.one_ring e d e_in walk.0 (at_u ∙ sym walk.1) in
      let P : ℕ → Type 0 = λ x. Near a x in
      let at_d = subst P there.1 (near_reaches a e near there.0) in
      near_walk a (tail_of ends (reverse_of d)) v darts (reverse_of d) (reverse_below (length ends) d walk.0) refl (near_reverse a d at_d) walk.2

  -- a dart of the node b that lies on such a chain starts one
  near_at : (a b f : ℕ) → b < left_nodes → f < n → tail_of ends f ≡ node b → Near a f → Joined left a b
  near_at a b f b_in f_in at_node near = go (at_start f b f_in b_in at_node) near
    where
      go : (j : ℕ) × (j < k) × (start j ≡ f) × (tail_of left j ≡ b) → Near a f → Joined left a b
      go j near =
          let same = (is.apart j.0 near.0 near.2 j.1 near.1 near.3 (near.4 ∙ sym j.2)).0 in
          let P : ℕ → Type 0 = λ x. Joined left x a in
          joined_sym left b a (subst P (ap (tail_of left) (sym same) ∙ j.3) near.5)

  joined_left : (a b : ℕ) → a < left_nodes → b < left_nodes → Joined ends (node a) (node b) → Joined left a b
  joined_left a b a_in b_in there = elim (cases_Bool (is_lone left a)) [
    | inl alone ↦
        let same = alone_walk ends (node a) (node b) there.0 (no_dart_if_lone ends (node a) (lone_there a a_in alone)) there.1 in
        ([], is.nodes_apart a b a_in b_in same)
    | inr busy ↦
        let j = dart_if_not_lone left a busy in
        let P : ℕ → Type 0 = λ x. Joined left x a in
        let near : Near a (start j.0) = (j.0, j.1, 0, omega arith, refl, subst P (sym j.2) ([], refl)) in
        let f = near_walk a (node a) (node b) there.0 (start j.0) (is.starts_in j.0 j.1) (is.tails j.0 j.1 ∙ ap node j.2) near there.1 in
        near_at a b f.0 b_in f.1 f.2 f.3
  ]

  -- and back
  start_joined : (j i : ℕ) → j < k → Joined ends (node (tail_of left j)) (tail_of ends (chain j i))
  start_joined j i j_in =
      let P : ℕ → Type 0 = λ x. Joined ends x (tail_of ends (chain j i)) in
      subst P (is.tails j j_in) (joined_along_face ends next map.permutes map.same_node (start j) (chain j i) (is.starts_in j j_in) (i, refl))

  one_joined : (j : ℕ) → j < k → Joined ends (node (tail_of left j)) (node (tail_of left (reverse_of j)))
  one_joined j j_in =
      let r = reverse_of j in
      let r_in = reverse_below (length left) j j_in in
      let last = chain j (steps j) in
      let last_in = iterate_below n face face_permutes (steps j) (start j) (is.starts_in j j_in) in
      let head : tail_of ends (reverse_of last) ≡ node (tail_of left r) = ap (λ x. tail_of ends (reverse_of x)) (is.arrives j j_in) ∙ ap (tail_of ends) (reverse-reverse (start r)) ∙ is.tails r r_in in
      let P : ℕ → Type 0 = λ x. Joined ends (node (tail_of left j)) x in
      subst P head (joined_trans ends _ (tail_of ends last) _ (start_joined j (steps j) j_in) (joined_dart ends last last_in))

  node_walk : (u v : ℕ) (darts : List ℕ) → WalksTo left u darts v → Joined ends (node u) (node v)
  node_walk u v [] walk = ([], ap node walk)
  node_walk u v (d ∷ darts) walk =
      let head = tail_of left (reverse_of d) in
      let P : ℕ → Type 0 = λ x. Joined ends (node x) (node head) in
      joined_trans ends (node u) (node head) (node v) (subst P walk.1 (one_joined d walk.0)) (node_walk head v darts walk.2)

  -- each node is joined to one that is left
  near_node : (w : ℕ) → w < nodes → (v : ℕ) × (v < left_nodes) × Joined ends w (node v)
  near_node w w_in = elim (cases_Bool (is_lone ends w)) [
    | inl alone ↦ let v = is.lone w w_in alone in (v.0, v.1, ([], sym v.2))
    | inr busy ↦
        let d = dart_if_not_lone ends w busy in
        let c = is.covers d.0 d.1 in
        let P : ℕ → Type 0 = λ x. Joined ends (node (tail_of left c.0)) x in
        (tail_of left c.0, tail_left_in c.0 c.1, joined_sym ends _ w (subst P (ap (tail_of ends) c.4 ∙ d.2) (start_joined c.0 c.2 c.1)))
  ]

  abbrev label : ℕ → ℕ
  label w = at (component_labels nodes ends) w

  abbrev left_label : ℕ → ℕ
  left_label w = at (component_labels left_nodes left) w

  same_label : (u v : ℕ) → Joined ends u v → label u ≡ label v
  same_label = label_from_joined nodes ends map.ends_in

  components_to : component_count nodes ends ≤ component_count left_nodes left
  components_to = count_injects nodes left_nodes _ _ (λ w t. (label w ≡ w) × Joined ends w (node t))
      (λ w w_in own.
      let v = near_node w w_in in
      let labels = IsLabelling-components left_nodes left is.ends_in in
      let t = left_label v.0 in
      let low = labels.low v.0 v.1 in
      let walk = joined_to_label left_nodes left is.ends_in v.0 v.1 in
      let there = joined_trans ends w (node v.0) (node t) v.2 (node_walk v.0 t walk.0 walk.1) in
      (t, omega (arith, low, v.1), eq-eqb _ _ (labels.again v.0 v.1), (eqb-true (label w) w own, there)))
      (λ w x t w_in x_in one two. sym one.0 ∙ same_label w x (joined_trans ends w (node t) x one.1 (joined_sym ends x (node t) two.1)) ∙ two.0)

  components_from : component_count left_nodes left ≤ component_count nodes ends
  components_from = count_injects left_nodes nodes _ _ (λ t w. (left_label t ≡ t) × Joined ends (node t) w)
      (λ t t_in own.
      let labels = IsLabelling-components nodes ends map.ends_in in
      let low = labels.low (node t) (is.nodes_in t t_in) in
      let t_node = is.nodes_in t t_in in
      (label (node t), omega (arith, low, t_node), eq-eqb _ _ (labels.again (node t) t_node), (eqb-true (left_label t) t own, joined_to_label nodes ends map.ends_in (node t) t_node)))
      (λ t u w t_in u_in one two.
      let there = joined_left t u t_in u_in (joined_trans ends (node t) w (node u) one.1 (joined_sym ends (node u) w two.1)) in
      sym one.0 ∙ label_from_joined left_nodes left is.ends_in t u there ∙ two.0)

  pub components_left : component_count left_nodes left ≡ component_count nodes ends
  components_left = omega (arith, components_to, components_from)
