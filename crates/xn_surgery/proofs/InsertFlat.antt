-- The faces once a segment has come into a map: within one face one more, else one less.
use Rattle.std.proofs.Common.{◌≡◌, ◌≢◌, ℕ, suc, ◌+◌, ◌*◌, ◌<◌, ◌⊎◌, inl, inr, true, false, not, ◌&&◌, eqb, List, [], ◌∷◌, ◌++◌, length, refl, sym, ◌∙◌, ap, subst, arith}
use Rattle.std.proofs.lemmas.Bool.{false_from_ne_true}
use Rattle.xn_model.specs.Lists.{one_if}
use Rattle.xn_model.specs.Map.{MeetsEuler, IsMap, Joined, face_count, face_step, is_lone, reverse_of, tail_of}
use Rattle.xn_model.specs.Permutation.{IsSplice, Permutes, Reaches, count_below, cycle_count}
use Rattle.xn_surgery.specs.Corners.{Corner, after, lone, InOneFace, node_of, stand_at}
use Rattle.xn_surgery.specs.Insertion.{IsInsertion}
use Rattle.xn_model.proofs.ComponentWalks.{joined_sym}
use Rattle.xn_model.proofs.Darts.{reverse-reverse, reverse_below}
use Rattle.xn_ring.proofs.Agreeing.{Permutes-agrees}
use Rattle.xn_ring.proofs.Orbits.{reaches_back, reaches_trans}
use Rattle.xn_genus.proofs.Counts.{cycle_count-congr}
use Rattle.xn_genus.proofs.Compress.{tail_in}
use Rattle.xn_genus.proofs.Counts.{Permutes-face}
use Rattle.xn_surgery.proofs.FaceWalk.{joined_along_face}
use Rattle.xn_surgery.proofs.Insert.{base, base_old, base_permutes, base_x, base_y, components_join, components_stay, faces_of_bridge, one, size, turn_is}
use Rattle.xn_surgery.proofs.InsertFaces.{cycle_count-same_face, cycle_count-two_faces}
use Rattle.xn_genus.proofs.Lone.{lone_count-push, no_dart_if_lone}
use Rattle.xn_genus.proofs.Nodes.{alone_walk}
use Rattle.xn_surgery.proofs.Stand.{reaches-agrees, splice_stand, stand-agree, stand_at_dart, stand_new, stand_other}

-- between two darts' corners
module _ (nodes : ℕ) (ends more : List (ℕ × ℕ)) (d e : ℕ) (next turn : ℕ → ℕ) (map : IsMap nodes ends next) (comes : IsInsertion nodes ends next (after d) (after e) more turn) where
  abbrev m : ℕ
  m = length ends

  abbrev x : ℕ
  x = 2 * m

  abbrev y : ℕ
  y = 2 * m + 1

  abbrev n : ℕ
  n = 2 * suc m

  abbrev alone : ℕ → ℕ
  alone = base nodes ends more (after d) (after e) next turn map comes

  abbrev second : ℕ → ℕ
  second = one nodes ends more (after d) (after e) next turn map comes

  -- the rotation with the first dart alone in its corner
  abbrev mid : ℕ → ℕ
  mid = stand_at (after d) x alone

  alone_x : alone x ≡ x
  alone_x = base_x nodes ends more (after d) (after e) next turn map comes

  alone_y : alone y ≡ y
  alone_y = base_y nodes ends more (after d) (after e) next turn map comes

  alone_old : (c : ℕ) → c < x → alone c ≡ next c
  alone_old = base_old nodes ends more (after d) (after e) next turn map comes

  alone_permutes : Permutes n alone
  alone_permutes = base_permutes nodes ends more (after d) (after e) next turn map comes

  is : (c : ℕ) → c < n → turn c ≡ stand_at (after d) x second c
  is = turn_is nodes ends more (after d) (after e) next turn map comes

  d_in : d < x
  d_in = comes.first

  e_in : e < x
  e_in = comes.second

  other : d ≢ e
  other same = comes.two_nodes (ap (tail_of ends) same)

  first_splice : IsSplice n d x alone mid
  first_splice = splice_stand n d x alone alone_x (λ same. omega (arith, same, d_in))

  second_splice : IsSplice n e y mid turn
  second_splice =
      let e_not_d : e ≢ d = λ same. other (sym same) in
      let e_not_x : e ≢ x = λ same. omega (arith, same, e_in) in
      let e_not_y : e ≢ y = λ same. omega (arith, same, e_in) in
      let d_not_y : d ≢ y = λ same. omega (arith, same, d_in) in
      let y_not_d : y ≢ d = λ same. d_not_y (sym same) in
      let y_not_x : y ≢ x = λ same. omega (arith, same) in
      record {
        first = is e (omega (arith, e_in)) ∙ stand_other d x second e e_not_d e_not_x ∙ stand_at_dart e y alone ∙ sym (stand_other d x alone y y_not_d y_not_x ∙ alone_y);
        second = is y (omega arith) ∙ stand_other d x second y y_not_d y_not_x ∙ stand_new e y alone e_not_y ∙ sym (stand_other d x alone e e_not_d e_not_x);
        others = λ w w_in not_e not_y. is w w_in ∙ stand-agree (after d) x second alone w (stand_other e y alone d other d_not_y) (λ not_x. stand_other e y alone w not_e not_y);
      }

  face_old : (c : ℕ) → c < x → face_step alone c ≡ face_step next c
  face_old c c_in = alone_old (reverse_of c) (reverse_below m c c_in)

  face_permutes : Permutes x (face_step next)
  face_permutes = Permutes-face m next map.permutes

  rd_in : reverse_of d < x
  rd_in = reverse_below m d d_in

  re_in : reverse_of e < x
  re_in = reverse_below m e e_in

  step : (c : ℕ) → face_step next (reverse_of c) ≡ next c
  step c = ap next (reverse-reverse c)

  -- from the darts that follow to those that lead there
  there : Reaches (face_step next) (next d) (next e) → Reaches (face_step alone) (reverse_of d) (reverse_of e)
  there same =
      let from = reaches_trans (face_step next) (reverse_of d) (next d) (next e) (1, step d) same in
      let to = reaches_back x (face_step next) face_permutes (reverse_of e) (next e) re_in (1, step e) in
      reaches-agrees x (face_step next) (face_step alone) face_permutes face_old (reverse_of d) (reverse_of e) rd_in
      (reaches_trans (face_step next) (reverse_of d) (next e) (reverse_of e) from to)

  back : Reaches (face_step alone) (reverse_of d) (reverse_of e) → Reaches (face_step next) (next d) (next e)
  back same =
      let alone_permutes = Permutes-agrees x (face_step next) (face_step alone) face_permutes face_old in
      let walk = reaches-agrees x (face_step alone) (face_step next) alone_permutes (λ c c_in. sym (face_old c c_in)) (reverse_of d) (reverse_of e) rd_in same in
      let from = reaches_back x (face_step next) face_permutes (reverse_of d) (next d) rd_in (1, step d) in
      reaches_trans (face_step next) (next d) (reverse_of e) (next e) (reaches_trans (face_step next) (next d) (reverse_of d) (reverse_of e) from walk) (1, step e)

  cycles_old : cycle_count x (face_step next) ≡ cycle_count x (face_step alone)
  cycles_old = cycle_count-congr x (face_step next) (face_step alone) face_permutes face_old

  cycles_new : cycle_count (2 * length more) (face_step turn) ≡ cycle_count n (face_step turn)
  cycles_new = ap (λ k. cycle_count (2 * k) (face_step turn)) (size nodes ends more (after d) (after e) next turn map comes)

  lone_new : count_below nodes (is_lone more) ≡ count_below nodes (is_lone ends)
  lone_new =
      let u = tail_of ends d in
      let v = tail_of ends e in
      let used : (c : ℕ) → c < x → is_lone ends (tail_of ends c) ≡ false = λ c c_in. false_from_ne_true _ (λ h. no_dart_if_lone ends (tail_of ends c) h c c_in refl) in
      let push = lone_count-push nodes ends (u, v) (tail_in nodes ends map.ends_in d d_in) (tail_in nodes ends map.ends_in e e_in) in
      let first : one_if (is_lone ends u && not (eqb v u)) ≡ 0 = ap (λ b. one_if (b && not (eqb v u))) (used d d_in) in
      let second : one_if (is_lone ends v) ≡ 0 = ap one_if (used e e_in) in
      let same : count_below nodes (is_lone more) ≡ count_below nodes (is_lone (ends ++ (u, v) ∷ [])) = ap (λ xs. count_below nodes (is_lone xs)) comes.ends_more in
      omega (arith, push, first, second, same)

  faces_split : Reaches (face_step next) (next d) (next e) → face_count nodes more turn ≡ face_count nodes ends next + 1
  faces_split same =
      let count = cycle_count-same_face m d e alone mid turn alone_permutes alone_x alone_y d_in e_in first_splice second_splice (there same) in
      omega (arith, count, cycles_old, cycles_new, lone_new)

  faces_join : (Reaches (face_step next) (next d) (next e) → ⊥) → face_count nodes more turn + 1 ≡ face_count nodes ends next
  faces_join apart =
      let count = cycle_count-two_faces m d e alone mid turn alone_permutes alone_x alone_y d_in e_in first_splice second_splice (λ same. apart (back same)) in
      omega (arith, count, cycles_old, cycles_new, lone_new)

  face_joins : Reaches (face_step next) (next d) (next e) → Joined ends (tail_of ends d) (tail_of ends e)
  face_joins same =
      let walk = joined_along_face ends next map.permutes map.same_node (next d) (next e) (map.permutes.below d d_in) same in
      let P : ℕ → Type 0 = λ z. Joined ends z (tail_of ends (next e)) in
      let Q : ℕ → Type 0 = λ z. Joined ends (tail_of ends d) z in
      subst Q (map.same_node e e_in) (subst P (map.same_node d d_in) walk)

pub insertion_splits : (nodes : ℕ) (ends more : List (ℕ × ℕ)) (a b : Corner) (next turn : ℕ → ℕ) → IsMap nodes ends next → IsInsertion nodes ends next a b more turn →
    InOneFace next a b → (face_count nodes more turn ≡ face_count nodes ends next + 1) × Joined ends (node_of ends a) (node_of ends b)
insertion_splits nodes ends more (after d) (after e) next turn map comes same =
    (faces_split nodes ends more d e next turn map comes same, face_joins nodes ends more d e next turn map comes same)
insertion_splits nodes ends more (after d) (lone v) next turn map comes same = absurd same
insertion_splits nodes ends more (lone u) (after e) next turn map comes same = absurd same
insertion_splits nodes ends more (lone u) (lone v) next turn map comes same = absurd (comes.two_nodes same)

-- a node without darts is joined to no other
pub lone_apart : (ends : List (ℕ × ℕ)) (u v : ℕ) → is_lone ends u ≡ true → u ≢ v → Joined ends u v → ⊥
lone_apart ends u v h other there = other (alone_walk ends u v there.0 (no_dart_if_lone ends u h) there.1)

pub insertion_joins : (nodes : ℕ) (ends more : List (ℕ × ℕ)) (a b : Corner) (next turn : ℕ → ℕ) → IsMap nodes ends next → IsInsertion nodes ends next a b more turn →
    (InOneFace next a b → ⊥) → face_count nodes more turn + 1 ≡ face_count nodes ends next
insertion_joins nodes ends more (after d) (after e) next turn map comes apart = faces_join nodes ends more d e next turn map comes apart
insertion_joins nodes ends more (lone u) b next turn map comes apart =
    faces_of_bridge nodes ends more (lone u) b next turn map comes (lone_apart ends u (node_of ends b) comes.first.1 comes.two_nodes)
insertion_joins nodes ends more (after d) (lone v) next turn map comes apart =
    faces_of_bridge nodes ends more (after d) (lone v) next turn map comes
    (λ there. lone_apart ends v (tail_of ends d) comes.second.1 (λ same. comes.two_nodes (sym same)) (joined_sym ends (tail_of ends d) v there))

pub insertion_flat : (nodes : ℕ) (ends more : List (ℕ × ℕ)) (a b : Corner) (next turn : ℕ → ℕ) → IsMap nodes ends next → IsInsertion nodes ends next a b more turn →
    (InOneFace next a b ⊎ (Joined ends (node_of ends a) (node_of ends b) → ⊥)) → MeetsEuler nodes ends next → MeetsEuler nodes more turn
insertion_flat nodes ends more a b next turn map comes (inl same) flat =
    let split = insertion_splits nodes ends more a b next turn map comes same in
    let components = components_stay nodes ends more a b next turn map comes split.1 in
    omega (arith, flat, split.0, components, size nodes ends more a b next turn map comes)
insertion_flat nodes ends more a b next turn map comes (inr apart) flat =
    let faces = faces_of_bridge nodes ends more a b next turn map comes apart in
    let components = components_join nodes ends more a b next turn map comes apart in
    omega (arith, flat, faces, components, size nodes ends more a b next turn map comes)

pub insertion_not_flat : (nodes : ℕ) (ends more : List (ℕ × ℕ)) (a b : Corner) (next turn : ℕ → ℕ) → IsMap nodes ends next → IsInsertion nodes ends next a b more turn →
    (InOneFace next a b → ⊥) → Joined ends (node_of ends a) (node_of ends b) → MeetsEuler nodes ends next → MeetsEuler nodes more turn → ⊥
insertion_not_flat nodes ends more a b next turn map comes apart there flat now =
    omega (arith, flat, now, insertion_joins nodes ends more a b next turn map comes apart, components_stay nodes ends more a b next turn map comes there, size nodes ends more a b next turn map comes)
