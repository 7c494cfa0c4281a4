-- The segments that pass a test, and the others, where they share one node or two.
use Rattle.std.proofs.Common.{◌≡◌, ◌≢◌, ℕ, ◌+◌, ◌<◌, ◌⊎◌, inl, inr, Bool, true, false, not, eqb, List, [], ◌∷◌, ◌++◌, length, refl, sym, ◌∙◌, ap, subst, arith, length-append}
use Rattle.std.specs.Prelude.{filter}
use Rattle.std.proofs.lemmas.Bool.{both_ways, cases_Bool, cases_lt, eq-eqb, eqb-true, ne_eqb, not-true, not_from_false}
use Rattle.xn_model.specs.Graph.{EndsIn, HasNoLoop, ends_at}
use Rattle.xn_model.specs.Map.{Joined, is_lone, tail_of}
use Rattle.xn_model.proofs.ComponentWalks.{joined_sym}
use Rattle.xn_model.proofs.Darts.{EndsIn-both, cases_dart, tail-even, tail-odd}
use Rattle.xn_genus.proofs.Compress.{EndsIn_from}
use Rattle.xn_genus.proofs.Kept.{EndsIn_at}
use Rattle.xn_genus.proofs.Lone.{dart_if_not_lone}
use Rattle.xn_genus.proofs.Nodes.{lone_from}
use Rattle.xn_fewer.proofs.Flats.{some_flat}
use Rattle.xn_fewer.proofs.Lists.{at_back, at_front}
use Rattle.xn_fewer.proofs.Walks.{filter_from, filter_to, walk_leaves}
use Rattle.xn_kuratowski.specs.Flat.{ShareOnlyTwo}
use Rattle.xn_kuratowski.specs.Reduction.{HasNoParallels, HoldsBelow, IsFlatOrHasMinor}
use Rattle.xn_kuratowski.proofs.Choices.{AreAmong, AreDifferent, choice_among, different_append, different_filter, different_from, part_no_longer, same_is, same_trans, split_place}
use Rattle.xn_kuratowski.proofs.Minors.{minor_among}
use Rattle.xn_kuratowski.proofs.Stars.{no_loop-append}
use Rattle.xn_kuratowski.proofs.Unions.{union_at_node, union_at_segment}
use Rattle.xn_kuratowski.proofs.Virtual.{minors_with_virtual}

-- a node of some segment
pub segment_of : (ends : List (ℕ × ℕ)) (v : ℕ) → is_lone ends v ≡ false → (s : ℕ) × (s < length ends) × (((ends_at ends s).0 ≡ v) ⊎ ((ends_at ends s).1 ≡ v))
segment_of ends v used =
    let d = dart_if_not_lone ends v used in
    let c = cases_dart d.0 in (
      c.0,
      omega (arith, c.1, d.1),
      elim c.1 [
        | inl even ↦ inl (sym (tail-even ends c.0) ∙ ap (tail_of ends) (sym even) ∙ d.2)
        | inr odd ↦ inr (sym (tail-odd ends c.0) ∙ ap (tail_of ends) (sym odd) ∙ d.2)
      ],
    )

-- a node that is no end is lone
pub lone_if : (ends : List (ℕ × ℕ)) (v : ℕ) → ((s : ℕ) → s < length ends → ((ends_at ends s).0 ≢ v) × ((ends_at ends s).1 ≢ v)) → is_lone ends v ≡ true
lone_if ends v never = lone_from ends v (λ d d_in met.
    let c = cases_dart d in
    let no = never c.0 (omega (arith, c.1, d_in)) in
    elim c.1 [
      | inl even ↦ no.0 (sym (tail-even ends c.0) ∙ ap (tail_of ends) (sym even) ∙ met)
      | inr odd ↦ no.1 (sym (tail-odd ends c.0) ∙ ap (tail_of ends) (sym odd) ∙ met)
    ])

-- ---- the segments that pass, and the others

module _ (nodes : ℕ) (ends : List (ℕ × ℕ)) (ends_in : EndsIn nodes ends) (no_loop : HasNoLoop ends) (single : HasNoParallels ends) (holds : HoldsBelow (nodes + length ends)) (t : ℕ × ℕ → Bool) where
  abbrev pub these : List (ℕ × ℕ)
  these = filter t ends

  abbrev pub others : List (ℕ × ℕ)
  others = filter (λ p. not (t p)) ends

  pub filtered_in : (q : ℕ × ℕ → Bool) → EndsIn nodes (filter q ends) × HasNoLoop (filter q ends)
  filtered_in q = (
    EndsIn_from nodes (filter q ends) (λ s s_in.
        let found = filter_to q ends s s_in in
        let P : ℕ × ℕ → Type 0 = λ p. (p.0 < nodes) × (p.1 < nodes) in
        subst P (sym found.2) (EndsIn_at nodes ends ends_in found.0 found.1)),
    λ s s_in same. let found = filter_to q ends s s_in in no_loop found.0 found.1 (ap (λ p. p.0) (sym found.2) ∙ same ∙ ap (λ p. p.1) found.2),
  )

  there : AreAmong (these ++ others) ends
  there i i_in = elim (split_place these others i i_in) [
    | inl front ↦ let found = filter_to t ends i front.0 in (found.0, found.1, same_is _ _ (front.1 ∙ found.2))
    | inr back ↦ let found = filter_to (λ p. not (t p)) ends back.0 back.1 in (found.0, found.1, same_is _ _ (back.2 ∙ found.2))
  ]

  back : AreAmong ends (these ++ others)
  back i i_in =
      let size = length-append these others in
      elim (cases_Bool (t (ends_at ends i))) [
        | inl on ↦
            let found = filter_from t ends i i_in on in
            (found.0, omega (arith, found.1, size), same_is _ _ (sym (at_front these others found.0 found.1 ∙ found.2)))
        | inr off ↦
            let found = filter_from (λ p. not (t p)) ends i i_in (not_from_false _ off) in
            (length these + found.0, omega (arith, found.1, size), same_is _ _ (sym (at_back these others found.0 ∙ found.2)))
      ]

  different : AreDifferent (these ++ others)
  different =
      let whole = different_from ends single in
      different_append these others (different_filter t ends whole) (different_filter (λ p. not (t p)) ends whole) (λ i j i_in j_in same.
      let one = filter_to t ends i i_in in
      let two = filter_to (λ p. not (t p)) ends j j_in in
      let e = whole one.0 two.0 one.1 two.1 (same_trans _ _ _ (same_is _ _ (sym one.2)) (same_trans _ _ _ same (same_is _ _ two.2))) in
      both_ways _ (not-true _ two.3) (ap (λ k. t (ends_at ends k)) (sym e) ∙ one.3))

  pub sizes : length these + length others ≡ length ends
  sizes =
      let one = choice_among (these ++ others) ends different there in
      let two = choice_among ends (these ++ others) (different_from ends single) back in
      omega (arith, part_no_longer (these ++ others) ends one.0 one.1, part_no_longer ends (these ++ others) two.0 two.1, length-append these others)

  pub whole_again : IsFlatOrHasMinor nodes (these ++ others) → IsFlatOrHasMinor nodes ends
  whole_again (inl flat) =
      let two = choice_among ends (these ++ others) (different_from ends single) back in
      inl (some_flat nodes (these ++ others) ends two.0 two.1 flat)
  whole_again (inr minor) = inr (minor_among (these ++ others) ends there minor)

  -- they share one node at most
  pub at_a_node : (u : ℕ) → 0 < length these → 0 < length others → ShareOnlyTwo these others u u → IsFlatOrHasMinor nodes ends
  at_a_node u some also share =
      let one = filtered_in t in
      let two = filtered_in (λ p. not (t p)) in
      elim (holds nodes these one.0 one.1 (omega (arith, sizes, also))) [
        | inr minor ↦ whole_again (inr (minor_among these (these ++ others) (λ i i_in.
            (i, omega (arith, i_in, length-append these others), same_is _ _ (sym (at_front these others i i_in)))) minor))
        | inl flat ↦ elim (holds nodes others two.0 two.1 (omega (arith, sizes, some))) [
          | inr minor ↦ whole_again (inr (minor_among others (these ++ others) (λ i i_in.
              (length these + i, omega (arith, i_in, length-append these others), same_is _ _ (sym (at_back these others i)))) minor))
          | inl also_flat ↦ whole_again (inl (union_at_node nodes u these others share flat also_flat))
        ]
      ]

  with_last : (u v : ℕ) (list : List (ℕ × ℕ)) → EndsIn nodes list → HasNoLoop list → u < nodes → v < nodes → u ≢ v → EndsIn nodes (list ++ (u, v) ∷ []) × HasNoLoop (list ++ (u, v) ∷ [])
  with_last u v list list_in list_none u_in v_in other = (
    EndsIn-both nodes list ((u, v) ∷ []) list_in (u_in, v_in, tt),
    no_loop-append list ((u, v) ∷ []) list_none (λ s s_in same. let zero_place : s ≡ 0 = omega (arith, s_in) in
        let e = ap (ends_at ((u, v) ∷ [])) zero_place in other (ap (λ p. p.0) (sym e) ∙ same ∙ ap (λ p. p.1) e)),
  )

  turned_share : (u v : ℕ) → ShareOnlyTwo these others u v → ShareOnlyTwo others these u v
  turned_share u v share w not_u not_v = elim (share w not_u not_v) [ inl one ↦ inr one | inr two ↦ inl two ]

  -- they share two nodes, which each of them joins
  pub at_two_nodes : (u v : ℕ) → u < nodes → v < nodes → u ≢ v → 1 < length these → 1 < length others → ShareOnlyTwo these others u v → Joined these u v → Joined others u v →
      IsFlatOrHasMinor nodes ends
  at_two_nodes u v u_in v_in other some also share one_way two_way =
      let one = filtered_in t in
      let two = filtered_in (λ p. not (t p)) in
      let one_last = with_last u v these one.0 one.1 u_in v_in other in
      let two_last = with_last u v others two.0 two.1 u_in v_in other in
      let one_size = length-append these ((u, v) ∷ []) in
      let two_size = length-append others ((u, v) ∷ []) in
      elim (holds nodes (these ++ (u, v) ∷ []) one_last.0 one_last.1 (omega (arith, sizes, also, one_size))) [
        | inr minor ↦ whole_again (inr (minors_with_virtual nodes u v these others one.0 two.0 u_in v_in other share two_way minor))
        | inl flat ↦ elim (holds nodes (others ++ (u, v) ∷ []) two_last.0 two_last.1 (omega (arith, sizes, some, two_size))) [
          | inr minor ↦
              let turned = minors_with_virtual nodes u v others these two.0 one.0 u_in v_in other (turned_share u v share) one_way minor in
              whole_again (inr (minor_among (others ++ these) (these ++ others) (λ i i_in. elim (split_place others these i i_in) [
                | inl front ↦ (length these + i, omega (arith, front.0, length-append these others), same_is _ _ (front.1 ∙ sym (at_back these others i)))
                | inr rear ↦ (rear.0, omega (arith, rear.1, length-append these others), same_is _ _ (rear.2 ∙ sym (at_front these others rear.0 rear.1)))
              ]) turned))
          | inl also_flat ↦ whole_again (inl (union_at_segment nodes u v these others other share flat also_flat))
        ]
      ]

-- ---- a web that joins two nodes and has a segment at a third has two segments

pub two_segments : (ends : List (ℕ × ℕ)) (a b w s : ℕ) → a ≢ b → w ≢ a → w ≢ b → s < length ends → ((ends_at ends s).0 ≡ w) ⊎ ((ends_at ends s).1 ≡ w) → Joined ends a b → 1 < length ends
two_segments ends a b w s other not_a not_b s_in at_w joined =
    let from_a = walk_leaves ends (λ z. eqb z a) a b joined (eq-eqb a a refl) (ne_eqb b a (λ same. other (sym same))) in
    let to_b = walk_leaves ends (λ z. eqb z b) b a (joined_sym ends a b joined) (eq-eqb b b refl) (ne_eqb a b other) in
    elim (cases_lt 1 (length ends)) [
      | inl more ↦ more
      | inr few ↦
          let one : from_a.0 ≡ s = omega (arith, from_a.1, s_in, few) in
          let two : to_b.0 ≡ s = omega (arith, to_b.1, s_in, few) in
          let c_is : from_a.2 ≡ a = eqb-true _ _ from_a.4 in
          let d_is : to_b.2 ≡ b = eqb-true _ _ to_b.4 in
          let has_a : ((ends_at ends s).0 ≡ a) ⊎ ((ends_at ends s).1 ≡ a) = elim from_a.6 [
            | inl e ↦ inl (ap (λ i. (ends_at ends i).0) (sym one) ∙ ap (λ p. p.0) e ∙ c_is)
            | inr e ↦ inr (ap (λ i. (ends_at ends i).1) (sym one) ∙ ap (λ p. p.1) e ∙ c_is)
          ] in
          let has_b : ((ends_at ends s).0 ≡ b) ⊎ ((ends_at ends s).1 ≡ b) = elim to_b.6 [
            | inl e ↦ inl (ap (λ i. (ends_at ends i).0) (sym two) ∙ ap (λ p. p.0) e ∙ d_is)
            | inr e ↦ inr (ap (λ i. (ends_at ends i).1) (sym two) ∙ ap (λ p. p.1) e ∙ d_is)
          ] in
          absurd (omega (arith, has_a, has_b, at_w, other, not_a, not_b))
    ]
