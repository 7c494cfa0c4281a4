-- What it does to a map on live segments that one of them dies.
use Rattle.std.proofs.Common.{◌≡◌, ◌≢◌, ℕ, zero, suc, ◌+◌, ◌*◌, ◌/◌, ◌<◌, ◌≤◌, ◌⊎◌, inl, inr, Bool, true, false, not, ◌&&◌, eqb, List, [], ◌∷◌, ◌++◌, length, refl, sym, ◌∙◌, ap, arith}
use Rattle.std.proofs.lemmas.Bool.{cases_eq, cases_Bool, and_parts, and_from, and_cases, or_cases, or_left, or_right, eqb-true, eqb-false, ne_eqb, both_ways, not-true, not-false, not_from_false, true_from_ne_false, false_from_ne_true}
use Rattle.std.specs.List.{list_any}
use Rattle.std.proofs.lemmas.List.Folds.{list_any-append}
use Rattle.xn_model.specs.Graph.{EndsIn, ends_at, touches}
use Rattle.xn_model.specs.Lists.{at, one_if}
use Rattle.xn_model.specs.Map.{face_step, is_lone, component_count, component_labels, reverse_of, tail_of}
use Rattle.xn_model.specs.Permutation.{Permutes, iterate, cycle_count, count_below, Reaches, IsSplice, without}
use Rattle.xn_model.proofs.Tests.{same_tests}
use Rattle.xn_genus.specs.Live.{IsMapOn, kept}
use Rattle.xn_model.proofs.Darts.{reverse-even, reverse-odd, reverse-reverse, reverse_below, cases_dart, tail-even, tail-odd}
use Rattle.xn_ring.proofs.Orbits.{comes_back, iterate_below, reaches_back, reaches_trans, cases_reaches}
use Rattle.xn_ring.proofs.Counting.{count-same}
use Rattle.xn_ring.proofs.Splice.{Permutes-splice, cycle_count-joined, cycle_count-split}
use Rattle.xn_ring.proofs.Without.{without-at, without-before, without-other, before, IsSplice-without, reaches-without}
use Rattle.xn_genus.proofs.Counts.{stays_alone, cycle_count-alone, IsSplice-face, Permutes-face}
use Rattle.xn_genus.proofs.Kept.{Along, EndsIn-kept, EndsIn_at, along_kept_from, along_kept_to, along_labels, any_kept_from, any_kept_to, live_dart_if_not_lone, no_live_dart_if_lone, component_count-same}
use Rattle.xn_genus.proofs.Lone.{lone_count-push}
use Rattle.xn_genus.proofs.Pushed.{component_count-push_same, component_count-push_apart}

module _ (nodes : ℕ) (ends : List (ℕ × ℕ)) (live : ℕ → Bool) (next : ℕ → ℕ) (map : IsMapOn ends live next) (ends_in : EndsIn nodes ends)
    (s : ℕ) (s_in : s < length ends) (s_live : live s ≡ true) where
  -- the ends of the segment, and the segments that stay live
  abbrev p : ℕ × ℕ
  p = ends_at ends s

  abbrev pub rest : ℕ → Bool
  rest i = live i && not (eqb i s)

  abbrev pub left : List (ℕ × ℕ)
  left = kept rest ends

  abbrev half : ℕ
  half = length ends

  abbrev first : ℕ
  first = 2 * s

  abbrev second : ℕ
  second = 2 * s + 1

  abbrev tail : ℕ → ℕ
  tail = tail_of ends

  abbrev permutes : Permutes (2 * half) next
  permutes = map.permutes

  first_in : first < 2 * half
  first_in = omega arith

  second_in : second < 2 * half
  second_in = omega arith

  tail_first : tail first ≡ p.0
  tail_first = tail-even ends s

  tail_second : tail second ≡ p.1
  tail_second = tail-odd ends s

  live_first : live (first / 2) ≡ true
  live_first = let e : first / 2 ≡ s = omega arith in ap live e ∙ s_live

  live_second : live (second / 2) ≡ true
  live_second = let e : second / 2 ≡ s = omega arith in ap live e ∙ s_live

  -- a dart that stays live
  rest_live : (x : ℕ) → rest (x / 2) ≡ true → (live (x / 2) ≡ true) × (x ≢ first) × (x ≢ second)
  rest_live x h =
      let parts : (live (x / 2) ≡ true) × (not (eqb (x / 2) s) ≡ true) = and_parts _ _ h in
      let other : x / 2 ≢ s = eqb-false _ _ (not-true _ parts.1) in
      (parts.0, (λ e. other (omega arith)), (λ e. other (omega arith)))

  live_rest : (x : ℕ) → live (x / 2) ≡ true → x ≢ first → x ≢ second → rest (x / 2) ≡ true
  live_rest x l not_first not_second = and_from _ _ l (not_from_false _ (ne_eqb _ _ (λ e. let c = cases_dart x in omega (arith, c.1, not_first, not_second))))

  -- a dart that dies, or was dead
  rest_dead : (x : ℕ) → rest (x / 2) ≡ false → (live (x / 2) ≡ false) ⊎ ((x ≡ first) ⊎ (x ≡ second))
  rest_dead x h = elim (and_cases _ _ h) [
    | inl dead ↦ inl dead
    | inr same ↦
        let e : x / 2 ≡ s = eqb-true _ _ (not-false _ same) in
        let c = cases_dart x in
        inr (elim c.1 [ inl even ↦ inl (omega arith) | inr odd ↦ inr (omega arith) ])
  ]

  -- the map with the one dart out, and then the other
  abbrev once : ℕ → ℕ
  once = without first next

  abbrev pub deleted : ℕ → ℕ
  deleted = without second once

  splice_once : IsSplice (2 * half) (before (2 * half) first next permutes first_in).0 first next once
  splice_once = IsSplice-without (2 * half) first next permutes first_in

  once_permutes : Permutes (2 * half) once
  once_permutes = Permutes-splice (2 * half) _ first next once permutes splice_once (before (2 * half) first next permutes first_in).1 first_in

  splice_twice : IsSplice (2 * half) (before (2 * half) second once once_permutes second_in).0 second once deleted
  splice_twice = IsSplice-without (2 * half) second once once_permutes second_in

  deleted_permutes : Permutes (2 * half) deleted
  deleted_permutes = Permutes-splice (2 * half) _ second once deleted once_permutes splice_twice (before (2 * half) second once once_permutes second_in).1 second_in

  once_first : once first ≡ first
  once_first = without-at first next

  deleted_first : deleted first ≡ first
  deleted_first = without-other second once first (omega arith) (λ e. omega (arith, sym once_first ∙ e)) ∙ once_first

  deleted_second : deleted second ≡ second
  deleted_second = without-at second once

  once_stays : (x : ℕ) → x < 2 * half → tail (once x) ≡ tail x
  once_stays x x_in = elim (cases_eq x first) [
    | inl at_first ↦ ap (λ y. tail (once y)) at_first ∙ ap tail once_first ∙ ap tail (sym at_first)
    | inr other ↦ elim (cases_eq (next x) first) [
      | inl leads ↦ ap tail (without-before first next x other leads) ∙ map.same_node first first_in ∙ ap tail (sym leads) ∙ map.same_node x x_in
      | inr passes ↦ ap tail (without-other first next x other passes) ∙ map.same_node x x_in
    ]
  ]

  deleted_stays : (x : ℕ) → x < 2 * half → tail (deleted x) ≡ tail x
  deleted_stays x x_in = elim (cases_eq x second) [
    | inl at_second ↦ ap (λ y. tail (deleted y)) at_second ∙ ap tail deleted_second ∙ ap tail (sym at_second)
    | inr other ↦ elim (cases_eq (once x) second) [
      | inl leads ↦ ap tail (without-before second once x other leads) ∙ once_stays second second_in ∙ ap tail (sym leads) ∙ once_stays x x_in
      | inr passes ↦ ap tail (without-other second once x other passes) ∙ once_stays x x_in
    ]
  ]

  -- two live darts of one node, neither the first of the segment
  once_round : (x y : ℕ) → x < 2 * half → y < 2 * half → live (x / 2) ≡ true → live (y / 2) ≡ true → x ≢ first → y ≢ first → tail x ≡ tail y → Reaches once x y
  once_round x y x_in y_in x_live y_live x_other y_other same =
      let there = map.one_ring x y x_in y_in x_live y_live same in
      let on = (reaches-without first next x x_other there.0).0 (λ e. y_other (sym there.1 ∙ e)) in
      (on.0, on.1 ∙ there.1)

  -- the map that is left
  pub IsMapOn-deleted : IsMapOn ends rest deleted
  IsMapOn-deleted = record {
    permutes = deleted_permutes;
    same_node = deleted_stays;
    dead = λ x x_in h. elim (rest_dead x h) [
      | inl was ↦
          let alone = map.dead x x_in was in
          let not_first : x ≢ first = λ e. both_ways _ was (ap (λ y. live (y / 2)) e ∙ live_first) in
          let not_second : x ≢ second = λ e. both_ways _ was (ap (λ y. live (y / 2)) e ∙ live_second) in
          let one : once x ≡ x = without-other first next x not_first (λ e. not_first (sym alone ∙ e)) ∙ alone in
          without-other second once x not_second (λ e. not_second (sym one ∙ e)) ∙ one
      | inr (inl at_first) ↦ ap deleted at_first ∙ deleted_first ∙ sym at_first
      | inr (inr at_second) ↦ ap deleted at_second ∙ deleted_second ∙ sym at_second
    ];
    one_ring = λ x y x_in y_in x_live y_live same.
        let xs = rest_live x x_live in
        let ys = rest_live y y_live in
        let there = once_round x y x_in y_in xs.0 ys.0 xs.1 ys.1 same in
        let on = (reaches-without second once x xs.2 there.0).0 (λ e. ys.2 (sym there.1 ∙ e)) in
        (on.0, on.1 ∙ there.1);
  }

  -- whether a dart is alone at its node
  alone_first : next first ≡ first → (is_lone left p.0 && not (eqb p.1 p.0)) ≡ true
  alone_first alone =
      and_from _ _
      (true_from_ne_false _ (λ t.
      let other = live_dart_if_not_lone ends rest p.0 t in
      let facts = rest_live other.0 other.2 in
      let there = map.one_ring first other.0 first_in other.1 live_first facts.0 (tail_first ∙ sym other.3) in
      facts.1 (sym there.1 ∙ stays_alone next first alone there.0)))
      (not_from_false _ (ne_eqb _ _ (λ e.
      let there = map.one_ring first second first_in second_in live_first live_second (tail_first ∙ sym e ∙ sym tail_second) in
      omega (arith, there.1, stays_alone next first alone there.0))))

  alone_first_back : (is_lone left p.0 && not (eqb p.1 p.0)) ≡ true → next first ≡ first
  alone_first_back t =
      let parts : (is_lone left p.0 ≡ true) × (not (eqb p.1 p.0) ≡ true) = and_parts _ _ t in
      let y = next first in
      let y_in = permutes.below first first_in in
      let at_y = map.same_node first first_in in
      elim (cases_eq y first) [
        | inl same ↦ same
        | inr not_first ↦ elim (cases_eq y second) [
          | inl is_second ↦ absurd (eqb-false _ _ (not-true _ parts.1) (sym tail_second ∙ ap tail (sym is_second) ∙ at_y ∙ tail_first))
          | inr not_second ↦ elim (cases_Bool (live (y / 2))) [
            | inl y_live ↦ absurd (no_live_dart_if_lone ends rest p.0 parts.0 y y_in (live_rest y y_live not_first not_second) (at_y ∙ tail_first))
            | inr y_dead ↦ absurd (not_first (permutes.apart y first y_in first_in (map.dead y y_in y_dead)))
          ]
        ]
      ]

  alone_second : once second ≡ second → is_lone left p.1 ≡ true
  alone_second alone = true_from_ne_false _ (λ t.
      let other = live_dart_if_not_lone ends rest p.1 t in
      let facts = rest_live other.0 other.2 in
      let there = once_round second other.0 second_in other.1 live_second facts.0 (omega arith) facts.1 (tail_second ∙ sym other.3) in
      facts.2 (sym there.1 ∙ stays_alone once second alone there.0))

  alone_second_back : is_lone left p.1 ≡ true → once second ≡ second
  alone_second_back t =
      let y = once second in
      let y_in = once_permutes.below second second_in in
      let at_y = once_stays second second_in in
      elim (cases_eq y second) [
        | inl same ↦ same
        | inr not_second ↦ elim (cases_eq y first) [
          | inl is_first ↦ let e : second ≡ first = once_permutes.apart second first second_in first_in (is_first ∙ sym once_first) in absurd (omega (arith, e))
          | inr not_first ↦ elim (cases_Bool (live (y / 2))) [
            | inl y_live ↦ absurd (no_live_dart_if_lone ends rest p.1 t y y_in (live_rest y y_live not_first not_second) (at_y ∙ tail_second))
            | inr y_dead ↦
                let alone = map.dead y y_in y_dead in
                let once_alone : once y ≡ y = without-other first next y not_first (λ e. not_first (sym alone ∙ e)) ∙ alone in
                absurd (not_second (once_permutes.apart y second y_in second_in once_alone))
          ]
        ]
      ]

  -- the faces after each step
  face_permutes : Permutes (2 * half) (face_step next)
  face_permutes = Permutes-face half next permutes

  face_once_permutes : Permutes (2 * half) (face_step once)
  face_once_permutes = Permutes-face half once once_permutes

  -- the second dart out: a face is split, unless it was alone
  second_step : cycle_count (2 * half) (face_step deleted) + one_if (is_lone left p.1) ≡ suc (cycle_count (2 * half) (face_step once))
  second_step =
      let b = before (2 * half) second once once_permutes second_in in
      let swap = IsSplice-face half b.0 second once deleted splice_twice in
      let b_in = reverse_below half b.0 b.1 in
      let rev : reverse_of second ≡ first = reverse-odd s in
      let rev_in : reverse_of second < 2 * half = omega (arith, rev) in
      elim (cases_eq b.0 second) [
        | inl same ↦
            let alone : once second ≡ second = ap once (sym same) ∙ b.2 in
            let count = cycle_count-alone (2 * half) _ _ (face_step once) (face_step deleted) face_once_permutes swap (ap reverse_of same) in
            let one : one_if (is_lone left p.1) ≡ 1 = ap one_if (alone_second alone) in
            omega (arith, count, one)
        | inr differ ↦
            let none : one_if (is_lone left p.1) ≡ 0 = ap one_if (false_from_ne_true _ (λ t.
            differ (once_permutes.apart b.0 second b.1 second_in (b.2 ∙ sym (alone_second_back t))))) in
            let step_one : face_step once (reverse_of b.0) ≡ second = ap once (reverse-reverse b.0) ∙ b.2 in
            let step_two : face_step once second ≡ first = ap once rev ∙ once_first in
            let count = cycle_count-split (2 * half) _ _ (face_step once) (face_step deleted) face_once_permutes swap b_in rev_in
            (λ e. differ (sym (reverse-reverse b.0) ∙ ap reverse_of e ∙ reverse-reverse second))
            (2, ap (face_step once) step_one ∙ step_two ∙ sym rev) in
            omega (arith, count, none)
      ]

  -- the first dart out: two faces are joined, or one is split, unless it was alone
  first_step_same : Reaches (face_step next) first second →
      cycle_count (2 * half) (face_step once) + one_if (is_lone left p.0 && not (eqb p.1 p.0)) ≡ suc (cycle_count (2 * half) (face_step next))
  first_step_same one_face =
      let b = before (2 * half) first next permutes first_in in
      let swap = IsSplice-face half b.0 first next once splice_once in
      let b_in = reverse_below half b.0 b.1 in
      let rev : reverse_of first ≡ second = reverse-even s in
      let rev_in : reverse_of first < 2 * half = omega (arith, rev) in
      elim (cases_eq b.0 first) [
        | inl same ↦
            let alone : next first ≡ first = ap next (sym same) ∙ b.2 in
            let count = cycle_count-alone (2 * half) _ _ (face_step next) (face_step once) face_permutes swap (ap reverse_of same) in
            let one : one_if (is_lone left p.0 && not (eqb p.1 p.0)) ≡ 1 = ap one_if (alone_first alone) in
            omega (arith, count, one)
        | inr differ ↦
            let none : one_if (is_lone left p.0 && not (eqb p.1 p.0)) ≡ 0 = ap one_if (false_from_ne_true _ (λ t.
            differ (permutes.apart b.0 first b.1 first_in (b.2 ∙ sym (alone_first_back t))))) in
            let step_one : face_step next (reverse_of b.0) ≡ first = ap next (reverse-reverse b.0) ∙ b.2 in
            let there = reaches_trans (face_step next) (reverse_of b.0) first second (1, step_one) one_face in
            let count = cycle_count-split (2 * half) _ _ (face_step next) (face_step once) face_permutes swap b_in rev_in
            (λ e. differ (sym (reverse-reverse b.0) ∙ ap reverse_of e ∙ reverse-reverse first))
            (there.0, there.1 ∙ sym rev) in
            omega (arith, count, none)
      ]

  first_step_apart : (Reaches (face_step next) first second → ⊥) →
      (cycle_count (2 * half) (face_step next) ≡ suc (cycle_count (2 * half) (face_step once))) × (one_if (is_lone left p.0 && not (eqb p.1 p.0)) ≡ 0)
  first_step_apart two_faces =
      let b = before (2 * half) first next permutes first_in in
      let swap = IsSplice-face half b.0 first next once splice_once in
      let b_in = reverse_below half b.0 b.1 in
      let rev : reverse_of first ≡ second = reverse-even s in
      let rev_in : reverse_of first < 2 * half = omega (arith, rev) in
      let step_one : face_step next (reverse_of b.0) ≡ first = ap next (reverse-reverse b.0) ∙ b.2 in
      let back_one = reaches_back (2 * half) (face_step next) face_permutes (reverse_of b.0) first b_in (1, step_one) in (
        cycle_count-joined (2 * half) _ _ (face_step next) (face_step once) face_permutes swap b_in rev_in (λ there.
            two_faces (reaches_trans (face_step next) first (reverse_of b.0) second back_one (there.0, there.1 ∙ rev))),
        ap one_if (false_from_ne_true _ (λ t.
            let alone = alone_first_back t in
            let from_second : face_step next second ≡ first = ap next (reverse-odd s) ∙ alone in
            two_faces (reaches_back (2 * half) (face_step next) face_permutes second first second_in (1, from_second)))),
      )

  -- the live segments are those that are left and this one
  push_lone : (w : ℕ) → is_lone (left ++ p ∷ []) w ≡ is_lone (kept live ends) w
  push_lone w =
      let t = λ (q : ℕ × ℕ). touches q w in
      ap not (list_any-append t left (p ∷ []) ∙ same_tests _ _
      (λ h. elim (or_cases (list_any t left) _ h) [
        | inl later ↦
            let found = any_kept_to t rest ends later in
            let l : live found.0 ≡ true = (and_parts _ _ found.2).0 in
            any_kept_from t live ends found.0 found.1 l found.3
        | inr here ↦ elim (or_cases (t p) false here) [
          | inl touch ↦ any_kept_from t live ends s s_in s_live touch
          | inr none ↦ absurd (both_ways false refl none)
        ]
      ])
      (λ h.
      let found = any_kept_to t live ends h in
      elim (cases_eq found.0 s) [
        | inl same ↦ or_right (list_any t left) _ (or_left (t p) false (ap (λ i. t (ends_at ends i)) (sym same) ∙ found.3))
        | inr other ↦ or_left (list_any t left) _ (any_kept_from t rest ends found.0 found.1 (and_from _ _ found.2 (not_from_false _ (ne_eqb _ _ other))) found.3)
      ]))

  left_in : EndsIn nodes left
  left_in = EndsIn-kept nodes rest ends ends_in

  pub u_in : p.0 < nodes
  u_in = (EndsIn_at nodes ends ends_in s s_in).0

  pub v_in : p.1 < nodes
  v_in = (EndsIn_at nodes ends ends_in s s_in).1

  lone_counts : count_below nodes (is_lone left) ≡ count_below nodes (is_lone (kept live ends)) + one_if (is_lone left p.0 && not (eqb p.1 p.0)) + one_if (is_lone left p.1)
  lone_counts =
      let same : count_below nodes (is_lone (left ++ p ∷ [])) ≡ count_below nodes (is_lone (kept live ends)) = count-same nodes _ _ (λ w w_in. push_lone w) in
      omega (arith, same, lone_count-push nodes left p u_in v_in)

  along_push : (m : ℕ → ℕ) (xs : List (ℕ × ℕ)) → Along m xs → m p.0 ≡ m p.1 → Along m (xs ++ p ∷ [])
  along_push m [] along same = (same, tt)
  along_push m (x ∷ xs) along same = (along.0, along_push m xs along.1 same)

  along_front : (m : ℕ → ℕ) (xs : List (ℕ × ℕ)) → Along m (xs ++ p ∷ []) → Along m xs × (m p.0 ≡ m p.1)
  along_front m [] along = (tt, along.0)
  along_front m (x ∷ xs) along = let more = along_front m xs along.1 in ((along.0, more.0), more.1)

  ends_push : (xs : List (ℕ × ℕ)) → EndsIn nodes xs → EndsIn nodes (xs ++ p ∷ [])
  ends_push [] h = (u_in, v_in, tt)
  ends_push (x ∷ xs) h = (h.0, h.1, ends_push xs h.2)

  pub components_push : component_count nodes (left ++ p ∷ []) ≡ component_count nodes (kept live ends)
  components_push = component_count-same nodes _ _ (ends_push left left_in) (EndsIn-kept nodes live ends ends_in)
      (λ m along. let parts = along_front m left along in along_kept_from m live ends (λ j below l. elim (cases_eq j s) [
        | inl same ↦ ap (λ i. m (ends_at ends i).0) same ∙ parts.1 ∙ ap (λ i. m (ends_at ends i).1) (sym same)
        | inr other ↦ along_kept_to m rest ends parts.0 j below (and_from _ _ l (not_from_false _ (ne_eqb _ _ other)))
      ]))
      (λ m along. along_push m left
      (along_kept_from m rest ends (λ j below r. along_kept_to m live ends along j below (and_parts _ _ r).0))
      (along_kept_to m live ends along s s_in s_live))

  abbrev faces_before : ℕ
  faces_before = cycle_count (2 * half) (face_step next) + count_below nodes (is_lone (kept live ends))

  abbrev faces_after : ℕ
  faces_after = cycle_count (2 * half) (face_step deleted) + count_below nodes (is_lone left)

  -- with the dead segment's own two-dart face counted
  pub faces_rise : Reaches (face_step next) first second → faces_after ≡ faces_before + 2
  faces_rise one_face = omega (arith, second_step, first_step_same one_face, lone_counts)

  pub faces_stay : (Reaches (face_step next) first second → ⊥) → faces_after ≡ faces_before
  faces_stay two_faces =
      let step = first_step_apart two_faces in
      omega (arith, second_step, step.0, step.1, lone_counts)

  abbrev pub label : ℕ → ℕ
  label v = at (component_labels nodes left) v

  label_reverse : (z : ℕ) → z < 2 * half → rest (z / 2) ≡ true → label (tail (reverse_of z)) ≡ label (tail z)
  label_reverse z z_in z_live =
      let c = cases_dart z in
      let is_half : z / 2 ≡ c.0 = omega (arith, c.1) in
      let joined = along_kept_to label rest ends (along_labels nodes left left_in) c.0 (omega (arith, c.1)) (ap rest (sym is_half) ∙ z_live) in
      elim c.1 [
        | inl even ↦ ap (λ y. label (tail y)) (ap reverse_of even ∙ reverse-even c.0) ∙ ap label (tail-odd ends c.0) ∙ sym joined ∙ ap label (sym (tail-even ends c.0)) ∙ ap (λ y. label (tail y)) (sym even)
        | inr odd ↦ ap (λ y. label (tail y)) (ap reverse_of odd ∙ reverse-odd c.0) ∙ ap label (tail-even ends c.0) ∙ joined ∙ ap label (sym (tail-odd ends c.0)) ∙ ap (λ y. label (tail y)) (sym odd)
      ]

  -- a dart of the segment's face is live, since a dead one is a face of its own with its reverse
  face_live : (k : ℕ) → live (iterate (face_step next) k first / 2) ≡ true
  face_live zero = live_first
  face_live (suc k) =
      let z = iterate (face_step next) k first in
      let z_in = iterate_below (2 * half) (face_step next) face_permutes k first first_in in
      let r = reverse_of z in
      let r_in = reverse_below half z z_in in
      let y = next r in
      let y_in = permutes.below r r_in in
      let halves : r / 2 ≡ z / 2 = half_reverse z in
      elim (cases_Bool (live (y / 2))) [
        | inl y_live ↦ y_live
        | inr y_dead ↦
            let same : y ≡ r = permutes.apart y r y_in r_in (map.dead y y_in y_dead) in
            ap (λ x. live (x / 2)) same ∙ ap live halves ∙ face_live k
      ]
    where
      half_reverse : (z : ℕ) → reverse_of z / 2 ≡ z / 2
      half_reverse z = let c = cases_dart z in elim c.1 [
        | inl even ↦ let e : reverse_of z ≡ 2 * c.0 + 1 = ap reverse_of even ∙ reverse-even c.0 in omega arith
        | inr odd ↦ let e : reverse_of z ≡ 2 * c.0 = ap reverse_of odd ∙ reverse-odd c.0 in omega arith
      ]

  face_walk : (k : ℕ) → Reaches (face_step next) first second ⊎ (label (tail (iterate (face_step next) (suc k) first)) ≡ label p.1)
  face_walk zero = inr (ap label (ap (λ x. tail (next x)) (reverse-even s) ∙ map.same_node second second_in ∙ tail_second))
  face_walk (suc k) =
      let z = iterate (face_step next) (suc k) first in
      let z_in = iterate_below (2 * half) (face_step next) face_permutes (suc k) first first_in in
      elim (face_walk k) [
        | inl there ↦ inl there
        | inr so_far ↦ elim (cases_eq z second) [
          | inl there ↦ inl (suc k, there)
          | inr not_second ↦ elim (cases_eq z first) [
            | inl again ↦ inr (ap label (ap (λ x. tail (face_step next x)) again ∙ ap (λ x. tail (next x)) (reverse-even s) ∙ map.same_node second second_in ∙ tail_second))
            | inr not_first ↦
                inr (ap label (map.same_node (reverse_of z) (reverse_below half z z_in))
                ∙ label_reverse z z_in (live_rest z (face_live (suc k)) not_first not_second) ∙ so_far)
          ]
        ]
      ]

  pub one_component : (Reaches (face_step next) first second → ⊥) → label p.0 ≡ label p.1
  one_component two_faces =
      let home = comes_back (2 * half) (face_step next) face_permutes first first_in in
      elim (face_walk home.0) [
        | inl there ↦ absurd (two_faces there)
        | inr same ↦ ap label (sym tail_first ∙ ap tail (sym home.2)) ∙ same
      ]

  -- the genus does not rise
  pub genus_on_falls : faces_before + 2 * component_count nodes left ≤ faces_after + 2 * component_count nodes (kept live ends)
  genus_on_falls = elim (cases_reaches (2 * half) (face_step next) face_permutes first second first_in) [
    | inl one_face ↦ elim (cases_eq (label p.0) (label p.1)) [
      | inl same ↦ omega (arith, faces_rise one_face, components_push, component_count-push_same nodes left p left_in u_in v_in same)
      | inr differ ↦ omega (arith, faces_rise one_face, components_push, component_count-push_apart nodes left p left_in u_in v_in differ)
    ]
    | inr two_faces ↦ omega (arith, faces_stay two_faces, components_push, component_count-push_same nodes left p left_in u_in v_in (one_component two_faces))
  ]

  pub components_stay : label p.0 ≡ label p.1 → component_count nodes left ≡ component_count nodes (kept live ends)
  components_stay same = sym (component_count-push_same nodes left p left_in u_in v_in same) ∙ components_push

  pub components_rise : label p.0 ≢ label p.1 → component_count nodes left ≡ component_count nodes (kept live ends) + 1
  components_rise differ = omega (arith, components_push, component_count-push_apart nodes left p left_in u_in v_in differ)
