-- A split of a node never raises the genus.
use Rattle.std.proofs.Common.{◌≡◌, ◌≢◌, ℕ, suc, ◌+◌, ◌*◌, ◌<◌, ◌≤◌, ◌⊎◌, inl, inr, List, [], ◌∷◌, ◌++◌, length, sym, subst, arith}
use Rattle.std.proofs.lemmas.Bool.{cases_eq}
use Rattle.xn_model.specs.Graph.{EndsIn}
use Rattle.xn_model.specs.Lists.{at}
use Rattle.xn_model.specs.Map.{face_step, component_count, component_labels, reverse_of, tail_of, Joined}
use Rattle.xn_model.specs.Permutation.{Permutes, cycle_count, Reaches, IsSplice}
use Rattle.xn_model.proofs.ComponentWalks.{joined_sym, joined_trans, joined_dart, joined_from_label, label_from_joined}
use Rattle.xn_model.proofs.Darts.{reverse_below, reverse_apart}
use Rattle.xn_ring.proofs.Orbits.{cases_reaches}
use Rattle.xn_ring.proofs.Splice.{Permutes-splice, splice_undone, cycle_count-joined, cycle_count-split}
use Rattle.xn_surgery.proofs.FaceWalk.{joined_along_face}
use Rattle.xn_genus.proofs.Counts.{IsSplice-face, Permutes-face}
use Rattle.xn_surgery.proofs.SplitComponents.{component_count-split_joined, component_count-split_apart}

-- the darts that lead to a and to b change their successors, and the arc from a goes to the new node
module _ (nodes v c e : ℕ) (ends ends' : List (ℕ × ℕ)) (next next' : ℕ → ℕ) (ends_in : EndsIn nodes ends) (ends_in' : EndsIn (suc nodes) ends') (both_in : EndsIn (suc nodes) (ends' ++ (v, nodes) ∷ []))
    (v_in : v < nodes) (same_length : length ends' ≡ length ends) (tail_in : (d : ℕ) → d < 2 * length ends → tail_of ends d < nodes)
    (moves : (d : ℕ) → d < 2 * length ends → (tail_of ends' d ≡ tail_of ends d) ⊎ ((tail_of ends d ≡ v) × (tail_of ends' d ≡ nodes)))
    (permutes : Permutes (2 * length ends) next) (c_in : c < 2 * length ends) (e_in : e < 2 * length ends) (differ : c ≢ e)
    (splice : IsSplice (2 * length ends) c e next next')
    (stays' : (d : ℕ) → d < 2 * length ends' → tail_of ends' (next' d) ≡ tail_of ends' d) (c_now : tail_of ends' c ≡ v) (e_now : tail_of ends' e ≡ nodes) where
  abbrev n : ℕ
  n = 2 * length ends

  abbrev before : ℕ
  before = cycle_count n (face_step next)

  abbrev after : ℕ
  after = cycle_count n (face_step next')

  rc_in : reverse_of c < n
  rc_in = reverse_below (length ends) c c_in

  re_in : reverse_of e < n
  re_in = reverse_below (length ends) e e_in

  permutes' : Permutes n next'
  permutes' = Permutes-splice n c e next next' permutes splice c_in e_in

  faces : IsSplice n (reverse_of c) (reverse_of e) (face_step next) (face_step next')
  faces = IsSplice-face (length ends) c e next next' splice

  -- one face after the split: the two nodes are joined
  one_face : Reaches (face_step next') (reverse_of c) (reverse_of e) → Joined ends' v nodes
  one_face there =
      let P : ℕ → Type 0 = λ k. Permutes (2 * k) next' in
      let wide : (d : ℕ) → d < n → d < 2 * length ends' = λ d d_in. omega (arith, d_in, same_length) in
      let walk = joined_along_face ends' next' (subst P (sym same_length) permutes') stays' (reverse_of c) (reverse_of e) (wide (reverse_of c) rc_in) there in
      let first = joined_dart ends' c (wide c c_in) in
      let last = joined_dart ends' e (wide e e_in) in
      let whole = joined_trans ends' (tail_of ends' c) (tail_of ends' (reverse_of c)) (tail_of ends' e) first
      (joined_trans ends' (tail_of ends' (reverse_of c)) (tail_of ends' (reverse_of e)) (tail_of ends' e) walk (joined_sym ends' (tail_of ends' e) (tail_of ends' (reverse_of e)) last)) in
      let Q : ℕ → Type 0 = λ z. Joined ends' z (tail_of ends' e) in
      let R : ℕ → Type 0 = λ z. Joined ends' v z in
      subst R e_now (subst Q c_now whole)

  -- the genus doesn't rise: 2 C - F - V is no more than before
  pub split_genus : 2 * component_count (suc nodes) ends' + before ≤ 2 * component_count nodes ends + after + 1
  split_genus =
      let labels = component_labels (suc nodes) ends' in
      let face_permutes = Permutes-face (length ends) next permutes in
      let face_permutes' = Permutes-face (length ends) next' permutes' in
      let other : reverse_of c ≢ reverse_of e = λ same. differ (reverse_apart c e same) in
      elim (cases_eq (at labels v) (at labels nodes)) [
        | inl same ↦
            let joined = joined_from_label (suc nodes) ends' ends_in' v nodes (omega (arith, v_in)) (omega arith) same in
            let components = component_count-split_joined nodes v ends ends' ends_in ends_in' both_in v_in same_length tail_in moves joined in
            elim (cases_reaches n (face_step next) face_permutes (reverse_of c) (reverse_of e) rc_in) [
              | inl there ↦
                  let split = cycle_count-split n (reverse_of c) (reverse_of e) (face_step next) (face_step next') face_permutes faces rc_in re_in other there in
                  omega (arith, components, split)
              | inr away ↦
                  let join = cycle_count-joined n (reverse_of c) (reverse_of e) (face_step next) (face_step next') face_permutes faces rc_in re_in away in
                  omega (arith, components, join)
            ]
        | inr not_same ↦
            let apart : Joined ends' v nodes → ⊥ = λ joined. not_same (label_from_joined (suc nodes) ends' ends_in' v nodes joined) in
            let components = component_count-split_apart nodes v ends ends' ends_in ends_in' both_in v_in same_length tail_in moves apart in
            let join = cycle_count-joined n (reverse_of c) (reverse_of e) (face_step next') (face_step next) face_permutes'
            (splice_undone n (reverse_of c) (reverse_of e) (face_step next) (face_step next') faces) rc_in re_in (λ there. apart (one_face there)) in
            omega (arith, components, join)
      ]
