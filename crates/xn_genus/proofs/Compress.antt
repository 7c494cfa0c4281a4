-- A map on live segments, and the map of these segments under numbers of their own.
use Rattle.std.proofs.Common.{◌≡◌, ◌≢◌, ℕ, zero, suc, ◌+◌, ◌*◌, ◌/◌, ◌%◌, ◌<◌, ◌≤◌, ◌⊎◌, inl, inr, Bool, true, false, not, ◌&&◌, eqb, List, [], ◌∷◌, length, refl, sym, ◌∙◌, ap, subst, arith}
use Rattle.std.proofs.lemmas.Bool.{and_from, and_parts, cases_eq, eq-eqb, eqb-true, not-true, or_left, or_right}
use Rattle.std.proofs.lemmas.List.Folds.{list_any_at}
use Rattle.xn_model.specs.Graph.{EndsIn, ends_at, touches}
use Rattle.xn_model.specs.Lists.{at}
use Rattle.xn_model.specs.Map.{MeetsEuler, IsMap, component_count, component_labels, face_count, face_step, is_lone, reverse_of, tail_of}
use Rattle.xn_model.specs.Permutation.{Permutes, Reaches, count_below, cycle_count, is_least, iterate}
use Rattle.xn_model.proofs.Tests.{same_tests}
use Rattle.xn_genus.specs.Live.{IsFlatOn, IsMapOn, faces_on, kept}
use Rattle.xn_genus.specs.Part.{IsPart}
use Rattle.xn_model.proofs.Darts.{cases_dart, reverse-even, reverse-odd, reverse_below, tail-even, tail-odd}
use Rattle.xn_ring.proofs.Orbits.{IsLeast, IsLeast-from_test, least_of, least_unique, reaches_back, reaches_below, reaches_trans, test-from_IsLeast}
use Rattle.xn_ring.proofs.Counting.{count-same, count_injects, count-all, count-parts}
use Rattle.xn_genus.proofs.Counts.{Permutes-face}
use Rattle.xn_genus.proofs.Kept.{Along, EndsIn-kept, EndsIn_at, along_kept_from, along_kept_to, any_kept_from, any_kept_to, component_count-same, same_components}
use Rattle.xn_genus.proofs.Lone.{find_touch, touched_dart}
use Rattle.xn_genus.proofs.Tests.{count_below-darts}

pub EndsIn_from : (nodes : ℕ) (ends : List (ℕ × ℕ)) → ((s : ℕ) → s < length ends → ((ends_at ends s).0 < nodes) × ((ends_at ends s).1 < nodes)) → EndsIn nodes ends
EndsIn_from nodes [] each = tt
EndsIn_from nodes (p ∷ ends) each =
    let here = each 0 (omega arith) in
    (here.0, here.1, EndsIn_from nodes ends (λ s below. each (suc s) (omega arith)))

pub tail_in : (nodes : ℕ) (ends : List (ℕ × ℕ)) → EndsIn nodes ends → (d : ℕ) → d < 2 * length ends → tail_of ends d < nodes
tail_in nodes ends h d d_in =
    let c = cases_dart d in
    let both = EndsIn_at nodes ends h c.0 (omega (arith, c.1)) in
    elim c.1 [
      | inl even ↦ let is : tail_of ends d ≡ (ends_at ends c.0).0 = ap (tail_of ends) even ∙ tail-even ends c.0 in omega (arith, is, both.0)
      | inr odd ↦ let is : tail_of ends d ≡ (ends_at ends c.0).1 = ap (tail_of ends) odd ∙ tail-odd ends c.0 in omega (arith, is, both.1)
    ]

-- each tail is a node
pub EndsIn_tails : (nodes : ℕ) (ends : List (ℕ × ℕ)) → ((d : ℕ) → d < 2 * length ends → tail_of ends d < nodes) → EndsIn nodes ends
EndsIn_tails nodes ends each = EndsIn_from nodes ends (λ s s_in.
    let first = each (2 * s) (omega arith) in
    let second = each (2 * s + 1) (omega arith) in
    (omega (arith, first, tail-even ends s), omega (arith, second, tail-odd ends s)))

pub half_reverse : (d : ℕ) → reverse_of d / 2 ≡ d / 2
half_reverse d = let c = cases_dart d in elim c.1 [
  | inl even ↦ let r : reverse_of d ≡ 2 * c.0 + 1 = ap reverse_of even ∙ reverse-even c.0 in omega (arith, r, even)
  | inr odd ↦ let r : reverse_of d ≡ 2 * c.0 = ap reverse_of odd ∙ reverse-odd c.0 in omega (arith, r, odd)
]

module _ (nodes : ℕ) (ends part : List (ℕ × ℕ)) (e : ℕ → ℕ) (is : IsPart ends part e) (keep : ℕ → Bool)
    (keeps : (j : ℕ) → j < 2 * length part → keep (e j / 2) ≡ true)
    (found : (d : ℕ) → d < 2 * length ends → keep (d / 2) ≡ true → (j : ℕ) × (j < 2 * length part) × (e j ≡ d))
    (on after : ℕ → ℕ) (map : IsMapOn ends keep on) (ends_in : EndsIn nodes ends)
    (after_in : (j : ℕ) → j < 2 * length part → after j < 2 * length part)
    (step : (j : ℕ) → j < 2 * length part → e (after j) ≡ on (e j)) where
  abbrev n : ℕ
  n = 2 * length ends

  abbrev k : ℕ
  k = 2 * length part

  -- a walk of the part is one of the web
  walks_on : (i j : ℕ) → j < k → (iterate after i j < k) × (e (iterate after i j) ≡ iterate on i (e j))
  walks_on zero j j_in = (j_in, refl)
  walks_on (suc i) j j_in =
      let before = walks_on i j j_in in
      (after_in _ before.0, step _ before.0 ∙ ap on before.1)

  after_permutes : Permutes k after
  after_permutes = record {
    below = after_in;
    apart = λ i j i_in j_in same.
        is.apart i j i_in j_in (map.permutes.apart (e i) (e j) (is.below i i_in) (is.below j j_in) (sym (step i i_in) ∙ ap e same ∙ step j j_in));
  }

  pub IsMap-part : IsMap nodes part after
  IsMap-part = record {
    ends_in = EndsIn_tails nodes part (λ j j_in. let low = tail_in nodes ends ends_in (e j) (is.below j j_in) in omega (arith, low, is.tails j j_in));
    permutes = after_permutes;
    same_node = λ j j_in.
        is.tails (after j) (after_in j j_in) ∙ ap (tail_of ends) (step j j_in) ∙ map.same_node (e j) (is.below j j_in) ∙ sym (is.tails j j_in);
    one_ring = λ i j i_in j_in same.
        let there = map.one_ring (e i) (e j) (is.below i i_in) (is.below j j_in) (keeps i i_in) (keeps j j_in) (sym (is.tails i i_in) ∙ same ∙ is.tails j j_in) in
        let along = walks_on there.0 i i_in in
        (there.0, is.apart _ j along.0 j_in (along.1 ∙ there.1));
  }

  -- faces
  abbrev face : ℕ → ℕ
  face = face_step on

  abbrev part_face : ℕ → ℕ
  part_face = face_step after

  face_permutes : Permutes n face
  face_permutes = Permutes-face (length ends) on map.permutes

  part_face_permutes : Permutes k part_face
  part_face_permutes = Permutes-face (length part) after after_permutes

  face_step_is : (j : ℕ) → j < k → e (part_face j) ≡ face (e j)
  face_step_is j j_in = step (reverse_of j) (reverse_below (length part) j j_in) ∙ ap on (is.reverses j j_in)

  faces_on_walk : (i j : ℕ) → j < k → (iterate part_face i j < k) × (e (iterate part_face i j) ≡ iterate face i (e j))
  faces_on_walk zero j j_in = (j_in, refl)
  faces_on_walk (suc i) j j_in =
      let before = faces_on_walk i j j_in in
      (part_face_permutes.below _ before.0, face_step_is _ before.0 ∙ ap face before.1)

  part_reaches : (i j : ℕ) → i < k → j < k → Reaches face (e i) (e j) → Reaches part_face i j
  part_reaches i j i_in j_in there =
      let along = faces_on_walk there.0 i i_in in
      (there.0, is.apart _ j along.0 j_in (along.1 ∙ there.1))

  reaches_part : (i j : ℕ) → i < k → Reaches part_face i j → Reaches face (e i) (e j)
  reaches_part i j i_in there = (there.0, sym (faces_on_walk there.0 i i_in).1 ∙ ap e there.1)

  abbrev leads : ℕ → Bool
  leads d = is_least n face d && keep (d / 2)

  -- the least darts of the faces with live darts
  to_part : count_below n leads ≤ cycle_count k part_face
  to_part = count_injects n k leads (is_least k part_face) (λ d t. (t < k) × (leads d ≡ true) × Reaches face d (e t))
      (λ d d_in h.
      let parts : (is_least n face d ≡ true) × (keep (d / 2) ≡ true) = and_parts _ _ h in
      let j = found d d_in parts.1 in
      let m = least_of k part_face part_face_permutes j.0 j.1 in
      let m_in = reaches_below k part_face part_face_permutes j.0 m.0 j.1 m.1 in
      let P : ℕ → Type 0 = λ x. Reaches face x (e m.0) in
      (m.0, m_in, test-from_IsLeast k part_face part_face_permutes m.0 m.2, (m_in, h, subst P j.2 (reaches_part j.0 m.0 j.1 m.1))))
      (λ d f t d_in f_in x y.
      let dx : (is_least n face d ≡ true) × (keep (d / 2) ≡ true) = and_parts _ _ x.1 in
      let fy : (is_least n face f ≡ true) × (keep (f / 2) ≡ true) = and_parts _ _ y.1 in
      least_unique n face face_permutes d f d_in
      (reaches_trans face d (e t) f x.2 (reaches_back n face face_permutes f (e t) f_in y.2))
      (IsLeast-from_test n face face_permutes d d_in dx.0) (IsLeast-from_test n face face_permutes f f_in fy.0))

  from_part : cycle_count k part_face ≤ count_below n leads
  from_part = count_injects k n (is_least k part_face) leads (λ t d. (is_least k part_face t ≡ true) × Reaches face (e t) d)
      (λ t t_in h.
      let m = least_of n face face_permutes (e t) (is.below t t_in) in
      let m_in = reaches_below n face face_permutes (e t) m.0 (is.below t t_in) m.1 in
      let along = faces_on_walk m.1.0 t t_in in
      let is_m : e (iterate part_face m.1.0 t) ≡ m.0 = along.1 ∙ m.1.1 in
      let lives : keep (m.0 / 2) ≡ true = ap (λ x. keep (x / 2)) (sym is_m) ∙ keeps _ along.0 in
      (m.0, m_in, and_from _ _ (test-from_IsLeast n face face_permutes m.0 m.2) lives, (h, m.1)))
      (λ t u d t_in u_in x y.
      let there = reaches_trans face (e t) d (e u) x.1 (reaches_back n face face_permutes (e u) d (is.below u u_in) y.1) in
      least_unique k part_face part_face_permutes t u t_in (part_reaches t u t_in u_in there)
      (IsLeast-from_test k part_face part_face_permutes t t_in x.0) (IsLeast-from_test k part_face part_face_permutes u u_in y.0))

  -- a dead segment is a face of its own
  dead_step : (s : ℕ) → s < length ends → keep s ≡ false → (face (2 * s) ≡ 2 * s + 1) × (face (2 * s + 1) ≡ 2 * s)
  dead_step s s_in dead =
      let half_even : (2 * s) / 2 ≡ s = omega arith in
      let half_odd : (2 * s + 1) / 2 ≡ s = omega arith in (
        ap on (reverse-even s) ∙ map.dead (2 * s + 1) (omega (arith, s_in)) (ap keep half_odd ∙ dead),
        ap on (reverse-odd s) ∙ map.dead (2 * s) (omega (arith, s_in)) (ap keep half_even ∙ dead),
      )

  swings : (s : ℕ) → s < length ends → keep s ≡ false → (i : ℕ) → (iterate face i (2 * s) ≡ 2 * s) ⊎ (iterate face i (2 * s) ≡ 2 * s + 1)
  swings s s_in dead zero = inl refl
  swings s s_in dead (suc i) = elim (swings s s_in dead i) [
    | inl first ↦ inr (ap face first ∙ (dead_step s s_in dead).0)
    | inr second ↦ inl (ap face second ∙ (dead_step s s_in dead).1)
  ]

  dead_leads : (d : ℕ) → d < n → (is_least n face d && not (keep (d / 2))) ≡ (eqb (d % 2) 0 && not (keep (d / 2)))
  dead_leads d d_in =
      let c = cases_dart d in
      same_tests _ _
      (λ h.
      let parts : (is_least n face d ≡ true) × (not (keep (d / 2)) ≡ true) = and_parts _ _ h in
      let dead : keep (d / 2) ≡ false = not-true _ parts.1 in
      elim c.1 [
        | inl even ↦ let e0 : d % 2 ≡ 0 = omega (arith, even) in and_from _ _ (eq-eqb _ _ e0) parts.1
        | inr odd ↦
            let half : d / 2 ≡ c.0 = omega (arith, odd) in
            let there : face d ≡ 2 * c.0 = ap face odd ∙ (dead_step c.0 (omega (arith, odd, d_in)) (ap keep (sym half) ∙ dead)).1 in
            let low : d ≤ face d = IsLeast-from_test n face face_permutes d d_in parts.0 1 in
            absurd (omega (arith, low, there, odd))
      ])
      (λ h.
      let parts : (eqb (d % 2) 0 ≡ true) × (not (keep (d / 2)) ≡ true) = and_parts _ _ h in
      let dead : keep (d / 2) ≡ false = not-true _ parts.1 in
      let zero_is : d % 2 ≡ 0 = eqb-true _ _ parts.0 in
      let s = d / 2 in
      let d_is : 2 * s ≡ d = omega (arith, zero_is) in
      let low : IsLeast face d = λ i.
      let at = swings s (omega (arith, d_in)) dead i in
      let same : iterate face i (2 * s) ≡ iterate face i d = ap (iterate face i) d_is in
      omega (arith, at, same, d_is) in
      and_from _ _ (test-from_IsLeast n face face_permutes d low) parts.1)

  -- as many segments live as the part has
  segments_to : count_below (length ends) keep ≤ count_below (length part) (λ i. true)
  segments_to = count_injects (length ends) (length part) keep (λ i. true) (λ s i. e (2 * i) / 2 ≡ s)
      (λ s s_in h.
      let half : (2 * s) / 2 ≡ s = omega arith in
      let j = found (2 * s) (omega (arith, s_in)) (ap keep half ∙ h) in
      let c = cases_dart j.0 in
      let at : e (2 * c.0) / 2 ≡ s = elim c.1 [
        | inl even ↦ ap (λ x. e x / 2) (sym even) ∙ ap (λ x. x / 2) j.2 ∙ half
        | inr odd ↦
            let back : reverse_of j.0 ≡ 2 * c.0 = ap reverse_of odd ∙ reverse-odd c.0 in
            ap (λ x. e x / 2) (sym back) ∙ ap (λ x. x / 2) (is.reverses j.0 j.1 ∙ ap reverse_of j.2) ∙ half_reverse (2 * s) ∙ half
      ] in
      (c.0, omega (arith, c.1, j.1), refl, at))
      (λ s t i s_in t_in x y. sym x ∙ y)

  segments_from : count_below (length part) (λ i. true) ≤ count_below (length ends) keep
  segments_from = count_injects (length part) (length ends) (λ i. true) keep (λ i s. e (2 * i) / 2 ≡ s)
      (λ i i_in h.
      let low = is.below (2 * i) (omega (arith, i_in)) in
      (e (2 * i) / 2, omega (arith, low), keeps (2 * i) (omega (arith, i_in)), refl))
      (λ i j s i_in j_in x y.
      let first_i : 2 * i < k = omega (arith, i_in) in
      let first_j : 2 * j < k = omega (arith, j_in) in
      elim (cases_eq (e (2 * i)) (e (2 * j))) [
        | inl same ↦ let one = is.apart (2 * i) (2 * j) first_i first_j same in omega (arith, one)
        | inr other ↦
            let turned : e (2 * j) ≡ reverse_of (e (2 * i)) = other_dart (e (2 * i)) (e (2 * j)) (x ∙ sym y) other in
            let one = is.apart (2 * j) (2 * i + 1) first_j (omega (arith, i_in)) (turned ∙ sym (is.reverses (2 * i) first_i) ∙ ap e (reverse-even i)) in
            absurd (omega (arith, one))
      ])
    where
      other_dart : (a b : ℕ) → a / 2 ≡ b / 2 → a ≢ b → b ≡ reverse_of a
      other_dart a b half other = let c = cases_dart a in elim c.1 [
        | inl even ↦ let r : reverse_of a ≡ 2 * c.0 + 1 = ap reverse_of even ∙ reverse-even c.0 in omega (arith, r, even, half, other)
        | inr odd ↦ let r : reverse_of a ≡ 2 * c.0 = ap reverse_of odd ∙ reverse-odd c.0 in omega (arith, r, odd, half, other)
      ]

  -- the faces: each dead segment has one of its own
  pub cycles_of_part : cycle_count n face + length part ≡ cycle_count k part_face + length ends
  cycles_of_part =
      let all = count-parts n (is_least n face) (λ d. keep (d / 2)) in
      let dead = count-same n _ _ dead_leads ∙ count_below-darts (length ends) (λ s. not (keep s)) in
      let segments = count-parts (length ends) (λ s. true) keep in
      omega (arith, all, dead, segments, to_part, from_part, segments_to, segments_from, count-all (length ends), count-all (length part))

  -- the two ends of each segment
  part_ends : (m : ℕ → ℕ) → Along m (kept keep ends) → (j : ℕ) → j < k → m (tail_of part j) ≡ m (tail_of part (reverse_of j))
  part_ends m along j j_in =
      let r_in = reverse_below (length part) j j_in in
      let c = cases_dart (e j) in
      let low = is.below j j_in in
      let half : e j / 2 ≡ c.0 = omega (arith, c.1) in
      let same = along_kept_to m keep ends along c.0 (omega (arith, c.1, low)) (ap keep (sym half) ∙ keeps j j_in) in
      let here = ap m (is.tails j j_in) in
      let there = ap m (is.tails (reverse_of j) r_in ∙ ap (tail_of ends) (is.reverses j j_in)) in
      elim c.1 [
        | inl even ↦
            here ∙ ap (λ x. m (tail_of ends x)) even ∙ ap m (tail-even ends c.0) ∙ same ∙ ap m (sym (tail-odd ends c.0))
            ∙ ap (λ x. m (tail_of ends x)) (sym (ap reverse_of even ∙ reverse-even c.0)) ∙ sym there
        | inr odd ↦
            here ∙ ap (λ x. m (tail_of ends x)) odd ∙ ap m (tail-odd ends c.0) ∙ sym same ∙ ap m (sym (tail-even ends c.0))
            ∙ ap (λ x. m (tail_of ends x)) (sym (ap reverse_of odd ∙ reverse-odd c.0)) ∙ sym there
      ]

  web_ends : (m : ℕ → ℕ) → ((j : ℕ) → j < k → m (tail_of part j) ≡ m (tail_of part (reverse_of j))) → (s : ℕ) → s < length ends → keep s ≡ true →
      m (ends_at ends s).0 ≡ m (ends_at ends s).1
  web_ends m each s s_in h =
      let half : (2 * s) / 2 ≡ s = omega arith in
      let j = found (2 * s) (omega (arith, s_in)) (ap keep half ∙ h) in
      let r_in = reverse_below (length part) j.0 j.1 in
      let here : tail_of part j.0 ≡ (ends_at ends s).0 = is.tails j.0 j.1 ∙ ap (tail_of ends) j.2 ∙ tail-even ends s in
      let there : tail_of part (reverse_of j.0) ≡ (ends_at ends s).1 =
      is.tails _ r_in ∙ ap (tail_of ends) (is.reverses j.0 j.1 ∙ ap reverse_of j.2 ∙ reverse-even s) ∙ tail-odd ends s in
      ap m (sym here) ∙ each j.0 j.1 ∙ ap m there

  along_part : (m : ℕ → ℕ) (xs : List (ℕ × ℕ)) → ((s : ℕ) → s < length xs → m (ends_at xs s).0 ≡ m (ends_at xs s).1) → Along m xs
  along_part m [] each = tt
  along_part m (p ∷ xs) each = (each 0 (omega arith), along_part m xs (λ s below. each (suc s) (omega arith)))

  part_along : (m : ℕ → ℕ) (xs : List (ℕ × ℕ)) → Along m xs → (s : ℕ) → s < length xs → m (ends_at xs s).0 ≡ m (ends_at xs s).1
  part_along m [] along s below = absurd (omega arith)
  part_along m (p ∷ xs) along zero below = along.0
  part_along m (p ∷ xs) along (suc s) below = part_along m xs along.1 s (omega arith)

  there : (m : ℕ → ℕ) → Along m part → Along m (kept keep ends)
  there m along = along_kept_from m keep ends (web_ends m (λ j j_in.
      let c = cases_dart j in
      let same = part_along m part along c.0 (omega (arith, c.1, j_in)) in
      elim c.1 [
        | inl even ↦ ap (λ x. m (tail_of part x)) even ∙ ap m (tail-even part c.0) ∙ same ∙ ap m (sym (tail-odd part c.0)) ∙ ap (λ x. m (tail_of part x)) (sym (ap reverse_of even ∙ reverse-even c.0))
        | inr odd ↦ ap (λ x. m (tail_of part x)) odd ∙ ap m (tail-odd part c.0) ∙ sym same ∙ ap m (sym (tail-even part c.0)) ∙ ap (λ x. m (tail_of part x)) (sym (ap reverse_of odd ∙ reverse-odd c.0))
      ]))

  back : (m : ℕ → ℕ) → Along m (kept keep ends) → Along m part
  back m along = along_part m part (λ s s_in.
      ap m (sym (tail-even part s)) ∙ part_ends m along (2 * s) (omega arith) ∙ ap (λ x. m (tail_of part x)) (reverse-even s) ∙ ap m (tail-odd part s))

  pub labels_of_part : (v : ℕ) → v < nodes → at (component_labels nodes part) v ≡ at (component_labels nodes (kept keep ends)) v
  labels_of_part = same_components nodes part (kept keep ends) IsMap-part.ends_in (EndsIn-kept nodes keep ends ends_in) there back

  pub components_of_part : component_count nodes part ≡ component_count nodes (kept keep ends)
  components_of_part = component_count-same nodes part (kept keep ends) IsMap-part.ends_in (EndsIn-kept nodes keep ends ends_in) there back

  -- a node is lone in the part where it is in the live web
  lone_in_part : (w : ℕ) → is_lone part w ≡ is_lone (kept keep ends) w
  lone_in_part w = ap not (same_tests _ _
      (λ h.
      let s = find_touch part w h in
      let dart = touched_dart part w s.0 s.1 s.2 in
      let low = is.below dart.0 dart.1 in
      let c = cases_dart (e dart.0) in
      let half : e dart.0 / 2 ≡ c.0 = omega (arith, c.1) in
      let at : tail_of ends (e dart.0) ≡ w = sym (is.tails dart.0 dart.1) ∙ dart.2 in
      let touch : touches (ends_at ends c.0) w ≡ true = elim c.1 [
        | inl even ↦ or_left _ _ (eq-eqb _ _ (sym (tail-even ends c.0) ∙ ap (tail_of ends) (sym even) ∙ at))
        | inr odd ↦ or_right _ _ (eq-eqb _ _ (sym (tail-odd ends c.0) ∙ ap (tail_of ends) (sym odd) ∙ at))
      ] in
      any_kept_from (λ p. touches p w) keep ends c.0 (omega (arith, c.1, low)) (ap keep (sym half) ∙ keeps dart.0 dart.1) touch)
      (λ h.
      let s = any_kept_to (λ p. touches p w) keep ends h in
      let dart = touched_dart ends w s.0 s.1 s.3 in
      let half = dart_half s.0 dart.0 dart.3 in
      let j = found dart.0 dart.1 (ap keep half ∙ s.2) in
      let c = cases_dart j.0 in
      let at : tail_of part j.0 ≡ w = is.tails j.0 j.1 ∙ ap (tail_of ends) j.2 ∙ dart.2 in
      let touch : touches (ends_at part c.0) w ≡ true = elim c.1 [
        | inl even ↦ or_left _ _ (eq-eqb _ _ (sym (tail-even part c.0) ∙ ap (tail_of part) (sym even) ∙ at))
        | inr odd ↦ or_right _ _ (eq-eqb _ _ (sym (tail-odd part c.0) ∙ ap (tail_of part) (sym odd) ∙ at))
      ] in
      list_any_at (λ p. touches p w) part c.0 (0, 0) (omega (arith, c.1, j.1)) touch))
    where
      dart_half : (s d : ℕ) → (d ≡ 2 * s) ⊎ (d ≡ 2 * s + 1) → d / 2 ≡ s
      dart_half s d (inl even) = omega arith
      dart_half s d (inr odd) = omega arith

  pub lone_of_part : count_below nodes (is_lone part) ≡ count_below nodes (is_lone (kept keep ends))
  lone_of_part = count-same nodes _ _ (λ w w_in. lone_in_part w)

  pub faces_of_part : faces_on nodes ends keep on + length part ≡ face_count nodes part after + length ends
  faces_of_part = omega (arith, cycles_of_part, lone_of_part)

  pub flat_part : IsFlatOn nodes ends keep on → MeetsEuler nodes part after
  flat_part flat = omega (arith, flat, faces_of_part, components_of_part)
