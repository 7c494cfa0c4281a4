-- Nodes under other numbers, and nodes without darts.
use Rattle.std.proofs.Common.{◌≡◌, ◌≢◌, ℕ, suc, ◌+◌, ◌*◌, ◌<◌, ◌⊎◌, inl, inr, true, cond, eqb, List, [], ◌∷◌, length, refl, sym, ◌∙◌, ap, subst, arith}
use Rattle.std.proofs.lemmas.Bool.{cases_eq, cond-true, cond-false, eq-eqb, ne_eqb, true_from_ne_false}
use Rattle.xn_model.specs.Graph.{EndsIn}
use Rattle.xn_model.specs.Lists.{at, one_if}
use Rattle.xn_model.specs.Map.{IsMap, Joined, WalksTo, component_count, component_labels, face_count, face_step, is_lone, reverse_of, tail_of}
use Rattle.xn_model.specs.Permutation.{Permutes, count_below, cycle_count}
use Rattle.xn_genus.specs.Renumbering.{IsNodeRemoval, IsNodeRenumbering}
use Rattle.xn_model.proofs.ComponentWalks.{joined_dart, joined_to_label, label_from_joined}
use Rattle.xn_model.proofs.Components.{IsLabelling-components}
use Rattle.xn_model.proofs.Darts.{reverse_below}
use Rattle.xn_ring.proofs.Counting.{count-same, count_injects}
use Rattle.xn_ring.proofs.Without.{before}
use Rattle.xn_genus.proofs.Compress.{EndsIn_tails, tail_in}
use Rattle.xn_genus.proofs.Lone.{dart_if_not_lone, no_dart_if_lone}
use Rattle.xn_genus.proofs.Part.{index, index_is}
use Rattle.xn_genus.proofs.ComponentTransfer.{component_count-transfer}

pub lone_from : (ends : List (ℕ × ℕ)) (w : ℕ) → ((d : ℕ) → d < 2 * length ends → tail_of ends d ≢ w) → is_lone ends w ≡ true
lone_from ends w none = true_from_ne_false _ (λ t. let dart = dart_if_not_lone ends w t in none dart.0 dart.1 dart.2)

module _ (nodes : ℕ) (ends renumbered : List (ℕ × ℕ)) (k next : ℕ → ℕ) (map : IsMap nodes ends next) (is : IsNodeRenumbering nodes ends renumbered k) where
  old : (d : ℕ) → d < 2 * length renumbered → d < 2 * length ends
  old d d_in = omega (arith, d_in, is.all)

  tail_below : (d : ℕ) → d < 2 * length ends → tail_of ends d < nodes
  tail_below = tail_in nodes ends map.ends_in

  same_tails : (d e : ℕ) → d < 2 * length ends → e < 2 * length ends → tail_of renumbered d ≡ tail_of renumbered e → tail_of ends d ≡ tail_of ends e
  same_tails d e d_in e_in same =
      is.numbers.apart _ _ (tail_below d d_in) (tail_below e e_in) (sym (is.tails d d_in) ∙ same ∙ is.tails e e_in)

  pub map_of_nodes : IsMap nodes renumbered next
  map_of_nodes = record {
    ends_in = EndsIn_tails nodes renumbered (λ d d_in.
        let low = is.numbers.below _ (tail_below d (old d d_in)) in omega (arith, low, is.tails d (old d d_in)));
    permutes = let P : ℕ → Type 0 = λ x. Permutes (2 * x) next in subst P (sym is.all) map.permutes;
    same_node = λ d d_in. is.tails (next d) (map.permutes.below d (old d d_in)) ∙ ap k (map.same_node d (old d d_in)) ∙ sym (is.tails d (old d d_in));
    one_ring = λ d e d_in e_in same. map.one_ring d e (old d d_in) (old e e_in) (same_tails d e (old d d_in) (old e e_in) same);
  }

  lone_there : (w : ℕ) → w < nodes → is_lone ends w ≡ true → is_lone renumbered (k w) ≡ true
  lone_there w w_in h = lone_from renumbered (k w) (λ d d_in same.
      no_dart_if_lone ends w h d (old d d_in) (is.numbers.apart _ _ (tail_below d (old d d_in)) w_in (sym (is.tails d (old d d_in)) ∙ same)))

  lone_back : (w : ℕ) → is_lone renumbered (k w) ≡ true → is_lone ends w ≡ true
  lone_back w h = lone_from ends w (λ d d_in same. no_dart_if_lone renumbered (k w) h d (omega (arith, d_in, is.all)) (is.tails d d_in ∙ ap k same))

  lone_of_nodes : count_below nodes (is_lone renumbered) ≡ count_below nodes (is_lone ends)
  lone_of_nodes =
      let there = count_injects nodes nodes (is_lone ends) (is_lone renumbered) (λ w t. k w ≡ t)
      (λ w w_in h. (k w, is.numbers.below w w_in, lone_there w w_in h, refl))
      (λ w x t w_in x_in one two. is.numbers.apart w x w_in x_in (one ∙ sym two)) in
      let back = count_injects nodes nodes (is_lone renumbered) (is_lone ends) (λ t w. k w ≡ t)
      (λ t t_in h.
      let w = before nodes t k is.numbers t_in in
      (w.0, w.1, lone_back w.0 (ap (is_lone renumbered) w.2 ∙ h), w.2))
      (λ t x w t_in x_in one two. sym one ∙ two) in
      omega (arith, there, back)

  pub faces_of_nodes : face_count nodes renumbered next ≡ face_count nodes ends next
  faces_of_nodes =
      let cycles : cycle_count (2 * length renumbered) (face_step next) ≡ cycle_count (2 * length ends) (face_step next) = ap (λ x. cycle_count (2 * x) (face_step next)) is.all in
      omega (arith, cycles, lone_of_nodes)

  abbrev home : ℕ → ℕ
  home = index nodes k

  home_is : (w : ℕ) → w < nodes → (home w < nodes) × (k (home w) ≡ w)
  home_is w w_in = let b = before nodes w k is.numbers w_in in index_is nodes k w b.0 b.1 b.2

  home_k : (w : ℕ) → w < nodes → home (k w) ≡ w
  home_k w w_in = let h = home_is (k w) (is.numbers.below w w_in) in is.numbers.apart _ _ h.0 w_in h.1

  pub components_of_nodes : component_count nodes renumbered ≡ component_count nodes ends
  components_of_nodes = sym (component_count-transfer nodes nodes ends renumbered k home map.ends_in map_of_nodes.ends_in is.numbers.below (λ w w_in. (home_is w w_in).0)
      (λ d d_in.
      let new : d < 2 * length renumbered = omega (arith, d_in, is.all) in
      let r_in = reverse_below (length ends) d d_in in
      let P : ℕ → Type 0 = λ x. Joined renumbered x (k (tail_of ends (reverse_of d))) in
      let Q : ℕ → Type 0 = λ x. Joined renumbered (tail_of renumbered d) x in
      subst P (is.tails d d_in) (subst Q (is.tails (reverse_of d) r_in) (joined_dart renumbered d new)))
      (λ d d_in.
      let d_old = old d d_in in
      let r_in = reverse_below (length ends) d d_old in
      let one : home (tail_of renumbered d) ≡ tail_of ends d = ap home (is.tails d d_old) ∙ home_k _ (tail_below d d_old) in
      let two : home (tail_of renumbered (reverse_of d)) ≡ tail_of ends (reverse_of d) = ap home (is.tails (reverse_of d) r_in) ∙ home_k _ (tail_below (reverse_of d) r_in) in
      let P : ℕ → Type 0 = λ x. Joined ends x (home (tail_of renumbered (reverse_of d))) in
      let Q : ℕ → Type 0 = λ x. Joined ends (tail_of ends d) x in
      subst P (sym one) (subst Q (sym two) (joined_dart ends d d_old)))
      (λ w w_in. ([], sym (home_k w w_in)))
      (λ w w_in. ([], sym (home_is w w_in).1)))

-- a node more
pub EndsIn-more : (nodes : ℕ) (ends : List (ℕ × ℕ)) → EndsIn nodes ends → EndsIn (suc nodes) ends
EndsIn-more nodes [] h = tt
EndsIn-more nodes (p ∷ ends) h = (omega (arith, h.0), omega (arith, h.1), EndsIn-more nodes ends h.2)

-- a node without darts leads nowhere
pub alone_walk : (ends : List (ℕ × ℕ)) (u v : ℕ) (darts : List ℕ) → ((d : ℕ) → d < 2 * length ends → tail_of ends d ≢ u) → WalksTo ends u darts v → u ≡ v
alone_walk ends u v [] none walk = walk
alone_walk ends u v (d ∷ darts) none walk = absurd (none d walk.0 walk.1)

module _ (nodes : ℕ) (ends : List (ℕ × ℕ)) (ends_in : EndsIn nodes ends) where
  more_in : EndsIn (suc nodes) ends
  more_in = EndsIn-more nodes ends ends_in

  none_new : (d : ℕ) → d < 2 * length ends → tail_of ends d ≢ nodes
  none_new d d_in same = let low = tail_in nodes ends ends_in d d_in in omega (arith, low, same)

  new_label : at (component_labels (suc nodes) ends) nodes ≡ nodes
  new_label = let walk = joined_to_label (suc nodes) ends more_in nodes (omega arith) in sym (alone_walk ends nodes _ walk.0 none_new walk.1)

  old_label : (v : ℕ) → v < nodes → at (component_labels (suc nodes) ends) v ≡ at (component_labels nodes ends) v
  old_label v v_in =
      let wide = component_labels (suc nodes) ends in
      let slim = component_labels nodes ends in
      let wide_low = (IsLabelling-components (suc nodes) ends more_in).low in
      let slim_low = (IsLabelling-components nodes ends ends_in).low in
      let one = wide_low v (omega (arith, v_in)) in
      let a_in : at wide v < nodes = omega (arith, one, v_in) in
      let to_wide = label_from_joined nodes ends ends_in v (at wide v) (joined_to_label (suc nodes) ends more_in v (omega (arith, v_in))) in
      let two = slim_low v v_in in
      let b_in : at slim v < nodes = omega (arith, two, v_in) in
      let to_slim = label_from_joined (suc nodes) ends more_in v (at slim v) (joined_to_label nodes ends ends_in v v_in) in
      omega (arith, to_wide, slim_low (at wide v) a_in, to_slim, wide_low (at slim v) (omega (arith, b_in)))

  pub components_more : component_count (suc nodes) ends ≡ component_count nodes ends + 1
  components_more =
      let low : count_below nodes (λ v. eqb (at (component_labels (suc nodes) ends) v) v) ≡ component_count nodes ends =
      count-same nodes _ _ (λ v v_in. ap (λ x. eqb x v) (old_label v v_in)) in
      let top : one_if (eqb (at (component_labels (suc nodes) ends) nodes) nodes) ≡ 1 = ap one_if (eq-eqb _ _ new_label) in
      omega (arith, low, top)

  pub lone_more : count_below (suc nodes) (is_lone ends) ≡ count_below nodes (is_lone ends) + 1
  lone_more =
      let top : one_if (is_lone ends nodes) ≡ 1 = ap one_if (lone_from ends nodes none_new) in
      omega (arith, top)

  pub map_more : (next : ℕ → ℕ) → IsMap nodes ends next → IsMap (suc nodes) ends next
  map_more next map = record { ends_in = more_in; permutes = map.permutes; same_node = map.same_node; one_ring = map.one_ring }

-- a node without darts goes
module _ (rest v : ℕ) (ends left : List (ℕ × ℕ)) (next : ℕ → ℕ) (map : IsMap (suc rest) ends next) (goes : IsNodeRemoval rest v ends left) where
  -- v and the last node change places
  abbrev swap : ℕ → ℕ
  swap w = cond (eqb w v) rest (cond (eqb w rest) v w)

  swap_v : swap v ≡ rest
  swap_v = cond-true _ _ _ (eq-eqb v v refl)

  swap_other : (w : ℕ) → w ≢ v → swap w ≡ cond (eqb w rest) v w
  swap_other w other = cond-false _ _ _ (ne_eqb w v other)

  cases_swap : (w : ℕ) → ((w ≡ v) × (swap w ≡ rest)) ⊎ (((w ≢ v) × (w ≡ rest) × (swap w ≡ v)) ⊎ ((w ≢ v) × (w ≢ rest) × (swap w ≡ w)))
  cases_swap w = elim (cases_eq w v) [
    | inl at_v ↦ inl (at_v, cond-true _ _ _ (eq-eqb w v at_v))
    | inr not_v ↦ elim (cases_eq w rest) [
      | inl at_rest ↦ inr (inl (not_v, at_rest, swap_other w not_v ∙ cond-true _ _ _ (eq-eqb w rest at_rest)))
      | inr not_rest ↦ inr (inr (not_v, not_rest, swap_other w not_v ∙ cond-false _ _ _ (ne_eqb w rest not_rest)))
    ]
  ]

  is_renumbering : IsNodeRenumbering (suc rest) ends left swap
  is_renumbering = record {
    numbers = record {
      below = λ w w_in. omega (arith, w_in, goes.is_there, cases_swap w);
      apart = λ w x w_in x_in same. omega (arith, same, cases_swap w, cases_swap x);
    };
    all = goes.all;
    tails = λ d d_in. goes.tails d d_in ∙ sym (swap_other _ (no_dart_if_lone ends v goes.lone d d_in));
  }

  wide : IsMap (suc rest) left next
  wide = map_of_nodes (suc rest) ends left swap next map is_renumbering

  left_in : EndsIn rest left
  left_in = EndsIn_tails rest left (λ d d_in.
      let d_old : d < 2 * length ends = omega (arith, d_in, goes.all) in
      let low = tail_in (suc rest) left wide.ends_in d d_in in
      let not_v = no_dart_if_lone ends v goes.lone d d_old in
      let is = is_renumbering.tails d d_old in
      omega (arith, low, is, cases_swap (tail_of ends d), not_v, goes.is_there))

  pub map_fewer : IsMap rest left next
  map_fewer = record { ends_in = left_in; permutes = wide.permutes; same_node = wide.same_node; one_ring = wide.one_ring }

  pub faces_fewer : face_count (suc rest) ends next ≡ face_count rest left next + 1
  faces_fewer = omega (arith, faces_of_nodes (suc rest) ends left swap next map is_renumbering, lone_more rest left left_in)

  pub components_fewer : component_count (suc rest) ends ≡ component_count rest left + 1
  components_fewer = sym (components_of_nodes (suc rest) ends left swap next map is_renumbering) ∙ components_more rest left left_in
