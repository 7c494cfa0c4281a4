-- Every web without loops has a flat map, or K5 or K3,3 as a minor: by induction on the number of nodes and segments.
use Rattle.std.proofs.Common.{◌≡◌, ℕ, zero, suc, ◌+◌, ◌<◌, inl, inr, Bool, true, false, not, ◌&&◌, eqb, List, [], ◌∷◌, length, refl, sym, subst, arith}
use Rattle.std.proofs.lemmas.Bool.{both_ways, cases_Bool, cases_eq, eqb-false, ne_eqb, and_parts, and_from, not-true, not_from_false, false_from_ne_true}
use Rattle.xn_model.specs.Graph.{EndsIn, Graph, HasNoLoop, ends_at, touches}
use Rattle.xn_model.specs.Map.{IsFlat, is_lone}
use Rattle.xn_genus.proofs.Tests.{some_below, some_below-from, some_below-to}
use Rattle.xn_kura.specs.Laws.{FiveExcludesFlat, ThreeThreeExcludesFlat}
use Rattle.xn_fewer.specs.Flat.{HasFlat}
use Rattle.xn_fewer.proofs.Flats.{some_flat}
use Rattle.xn_kuratowski.specs.Minor.{HasMinor}
use Rattle.xn_kuratowski.specs.Reduction.{HasNoParallels, HoldsBelow, IsFlatOrHasMinor}
use Rattle.xn_kuratowski.specs.Theorem.{FlatOrEvidence, FlatOrMinor, FlatWhereNoEvidence, HasEvidence}
use Rattle.xn_kuratowski.proofs.Rim.{web_of_stars, web_merged}
use Rattle.xn_kuratowski.proofs.Separation.{NoTwoSeparate, are_apart, falls_apart, some_two, some_two-from, some_two-to, stays_whole}
use Rattle.xn_kuratowski.proofs.Stars.{closed, ends_in_merged, merged_is, no_loop_merged, open_web, size_of_stars, size_merged}
use Rattle.xn_kuratowski.proofs.FirmStars.{firm_segments_have_stars}
use Rattle.xn_kuratowski.proofs.Crosses.{minors_give_evidence}
use Rattle.xn_kuratowski.proofs.Cuts.{cut_webs_go}
use Rattle.xn_kuratowski.proofs.Decide.{contracted_webs_decide}
use Rattle.xn_kuratowski.proofs.Firm.{some_segment_is_firm}
use Rattle.xn_kuratowski.proofs.Minors.{minors_of_contraction, minors_of_some}
use Rattle.xn_kuratowski.proofs.Reduced.{lone_nodes_go, parallels_go}

-- ---- parallel segments

abbrev are_parallel : List (ℕ × ℕ) → ℕ → ℕ → Bool
are_parallel ends s t = not (eqb s t) && (touches (ends_at ends s) (ends_at ends t).0 && touches (ends_at ends s) (ends_at ends t).1)

no_parallels : (ends : List (ℕ × ℕ)) → some_two (length ends) (are_parallel ends) ≡ false → HasNoParallels ends
no_parallels ends none s t s_in t_in first second = elim (cases_eq s t) [
  | inl same ↦ same
  | inr other ↦ absurd (both_ways _ none (some_two-from (length ends) (are_parallel ends) s t s_in t_in (and_from _ _ (not_from_false _ (ne_eqb _ _ other)) (and_from _ _ first second))))
]

-- ---- a web without nodes

nothing_flat : HasFlat 0 []
nothing_flat = record {
  next = λ d. d;
  is_map = record {
    ends_in = tt;
    permutes = record { below = λ d d_in. d_in; apart = λ d e d_in e_in same. same };
    same_node = λ d d_in. refl;
    one_ring = λ d e d_in e_in same. absurd (omega (arith, d_in));
  };
  flat = refl;
}

-- ---- the induction

-- a web that is whole without each two nodes, with a segment
firm_step : (nodes : ℕ) (ends : List (ℕ × ℕ)) → EndsIn nodes ends → HasNoLoop ends → HoldsBelow (nodes + length ends) → HasNoParallels ends → NoTwoSeparate nodes ends →
    0 < length ends → IsFlatOrHasMinor nodes ends
firm_step nodes ends ends_in no_loop holds single whole some =
    let firm = some_segment_is_firm nodes ends ends_in no_loop whole some in
    let p = ends_at ends firm.0 in
    let x = p.0 in
    let y = p.1 in
    let stars = firm_segments_have_stars nodes firm.0 ends ends_in no_loop single firm.1 firm.2 in
    let rest = stars.0 in
    let xs = stars.1 in
    let ys = stars.2 in
    let is = stars.5 in
    let less : nodes + length (web_merged rest x xs ys) < nodes + length ends =
    omega (arith, stars.6, size_merged nodes rest x y xs ys is, size_of_stars nodes rest x y xs ys is) in
    let back : IsFlatOrHasMinor nodes (web_of_stars rest x y xs ys) → IsFlatOrHasMinor nodes ends = λ h. elim h [
      | inl flat ↦ inl (some_flat nodes (web_of_stars rest x y xs ys) ends stars.4 stars.8 flat)
      | inr minor ↦ inr (minors_of_some ends (web_of_stars rest x y xs ys) stars.3 stars.7 minor)
    ] in
    elim (holds nodes (web_merged rest x xs ys) (ends_in_merged nodes rest x y xs ys is) (no_loop_merged nodes rest x y xs ys is) less) [
      | inl flat ↦ back (contracted_webs_decide nodes rest x y xs ys is flat)
      | inr minor ↦ back (inr (subst HasMinor (closed nodes rest x y xs ys is)
          (minors_of_contraction x y (open_web nodes rest x y xs ys is) is.two_ends (subst HasMinor (sym (merged_is nodes rest x y xs ys is)) minor))))
    ]

no_segment : (nodes : ℕ) (ends : List (ℕ × ℕ)) → ((w : ℕ) → w < nodes → is_lone ends w ≡ false) → length ends ≡ 0 → IsFlatOrHasMinor nodes ends
no_segment zero [] none size = inl nothing_flat
no_segment (suc n) [] none size = absurd (both_ways _ (none 0 (omega arith)) refl)
no_segment nodes (p ∷ ends) none size = absurd (omega (arith, size))

step : (nodes : ℕ) (ends : List (ℕ × ℕ)) → EndsIn nodes ends → HasNoLoop ends → HoldsBelow (nodes + length ends) → IsFlatOrHasMinor nodes ends
step nodes ends ends_in no_loop holds = elim (cases_Bool (some_below nodes (is_lone ends))) [
  | inl lone ↦
      let found = some_below-to nodes (is_lone ends) lone in
      lone_nodes_go nodes found.0 ends ends_in no_loop holds found.1 found.2
  | inr none ↦ elim (cases_Bool (some_two (length ends) (are_parallel ends))) [
    | inl two ↦
        let found = some_two-to (length ends) (are_parallel ends) two in
        let one : (not (eqb found.0 found.1) ≡ true) × ((touches (ends_at ends found.0) (ends_at ends found.1).0 && touches (ends_at ends found.0)
        (ends_at ends found.1).1) ≡ true) = and_parts _ _ found.4 in
        let both_touch : (touches (ends_at ends found.0) (ends_at ends found.1).0 ≡ true) × (touches (ends_at ends found.0) (ends_at ends found.1).1 ≡ true) = and_parts _ _ one.1 in
        parallels_go nodes found.0 found.1 ends ends_in no_loop holds found.2 found.3 (eqb-false _ _ (not-true _ one.0)) both_touch.0 both_touch.1
    | inr single ↦
        let each : (w : ℕ) → w < nodes → is_lone ends w ≡ false = λ w w_in. false_from_ne_true _ (λ lone. both_ways _ none (some_below-from nodes (is_lone ends) w w_in lone)) in
        let test : ℕ → ℕ → Bool = λ a b. some_two nodes (are_apart nodes ends (a ∷ b ∷ [])) in
        elim (cases_Bool (some_two nodes test)) [
          | inl cut ↦
              let found = some_two-to nodes test cut in
              let two = falls_apart nodes ends (found.0 ∷ found.1 ∷ []) ends_in found.4 in
              cut_webs_go nodes found.0 found.1 two.0 two.1 ends ends_in no_loop holds each (no_parallels ends single) found.2 found.3 two.2 two.3 two.4 two.5 two.6
          | inr firm ↦
              let whole : NoTwoSeparate nodes ends = λ a b a_in b_in.
              stays_whole nodes ends (a ∷ b ∷ []) ends_in (false_from_ne_true _ (λ h. both_ways _ firm (some_two-from nodes test a b a_in b_in h))) in
              elim (cases_eq (length ends) 0) [
                | inl empty ↦ no_segment nodes ends each empty
                | inr some ↦ firm_step nodes ends ends_in no_loop holds (no_parallels ends single) whole (omega (arith, some))
              ]
        ]
  ]
]

below : (size : ℕ) → HoldsBelow size
below zero nodes ends ends_in no_loop less = absurd (omega (arith, less))
below (suc size) nodes ends ends_in no_loop less =
    step nodes ends ends_in no_loop (λ n es es_in none low. below size n es es_in none (omega (arith, low, less)))

pub flat_or_minor : FlatOrMinor
flat_or_minor nodes ends ends_in no_loop = below (suc (nodes + length ends)) nodes ends ends_in no_loop (omega arith)

pub flat_or_evidence : FlatOrEvidence
flat_or_evidence web ends_in no_loop = elim (flat_or_minor web.nodes web.ends ends_in no_loop) [
  | inl flat ↦ inl (flat.next, record { is_map = flat.is_map; flat = flat.flat })
  | inr minor ↦ inr (minors_give_evidence web ends_in no_loop minor)
]

-- an evidence that holds shows that no map of the web is flat
pub excludes : FiveExcludesFlat → ThreeThreeExcludesFlat → (web : Graph) → HasEvidence web → (next : ℕ → ℕ) → ¬ IsFlat web next
excludes five three web evidence next flat = elim evidence.2 [
  | inl is ↦ five web evidence.0 evidence.1 is next flat
  | inr is ↦ three web evidence.0 evidence.1 is next flat
]

pub flat_where_no_evidence : FiveExcludesFlat → ThreeThreeExcludesFlat → FlatWhereNoEvidence
flat_where_no_evidence five three web ends_in no_loop = (
  λ flat evidence. excludes five three web evidence flat.0 flat.1,
  λ none. elim (flat_or_evidence web ends_in no_loop) [ inl flat ↦ flat | inr evidence ↦ absurd (none evidence) ],
)
