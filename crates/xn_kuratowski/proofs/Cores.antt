-- Cores: an evidence that leaves a segment unused is one of the web without it.
use Rattle.std.proofs.Common.{◌≡◌, ◌≢◌, ℕ, suc, ◌-◌, ◌<◌, ◌≤◌, ◌⊎◌, inl, inr, true, false, cond, eqb, ltb, List, [], ◌∷◌, ◌++◌, length, map, refl, sym, ◌∙◌, ap, ap₂, subst, arith}
use Rattle.std.specs.List.{IsDistinct, concat}
use Rattle.std.specs.Prelude.{None, Some, nat_eq, slice_index}
use Rattle.std.proofs.lemmas.Bool.{both_ways, cases_Bool, cases_lt, cond-true, cond-false, eq-eqb, eqb-true, le-ltb, lt-ltb, or_cases, or_left, or_right}
use Rattle.xn_model.specs.Evidence.{IsFive, IsPathSystem, IsThreeThree, LeadAll, LeadsTo, all_inner, far_end, five_pairs, inner_nodes, three_pairs}
use Rattle.xn_model.specs.Graph.{Graph, ends_at, touches}
use Rattle.xn_model.specs.Lists.{has}
use Rattle.xn_kinds.specs.declared.rows.Evidence.{Evidence}
use Rattle.xn_kinds.specs.declared.rows.Evidence.TheVariants.{Five, ThreeThree}
use Rattle.xn_kura.specs.Kinds.{IsWhole}
use Rattle.xn_kura.specs.Laws.{FiveExcludesFlat, ThreeThreeExcludesFlat}
use Rattle.xn_model.proofs.Has.{has-left, has-right}
use Rattle.xn_kura.proofs.Turned.{length-lead}
use Rattle.xn_kuratowski.specs.Core.{CoresAreFound, CoresAreSubdivisions, IsCore, left_without}
use Rattle.xn_kuratowski.specs.Theorem.{HasEvidence}
use Rattle.xn_kuratowski.proofs.Reduced.{at_left_high, at_left_low, length-left}
use Rattle.xn_kuratowski.proofs.Theorem.{excludes, flat_or_evidence}
use Rattle.xn_kuratowski.proofs.Strands.{distinct_cons, distinct_head, distinct_none, distinct_tail}

-- an evidence that doesn't use a segment holds for the web without it, under other numbers
abbrev pub EvidenceWithoutASegment : Type 0
EvidenceWithoutASegment =
    (web : Graph) (s : ℕ) (branch : List ℕ) (paths : List (List ℕ)) → s < length web.ends → IsFive web branch paths ⊎ IsThreeThree web branch paths →
    ¬ (has (concat paths) s ≡ true) → HasEvidence (record { nodes = web.nodes; ends = left_without s web.ends })

module _ (ends : List (ℕ × ℕ)) (s : ℕ) (s_in : s < length ends) where
  abbrev left : List (ℕ × ℕ)
  left = left_without s ends

  -- the new number of another segment
  abbrev lower : ℕ → ℕ
  lower t = cond (ltb t s) t (t - 1)

  cases_lower : (t : ℕ) → ((t < s) × (lower t ≡ t)) ⊎ ((s ≤ t) × (lower t ≡ t - 1))
  cases_lower t = elim (cases_lt t s) [ inl low ↦ inl (low, cond-true _ _ _ (lt-ltb t s low)) | inr high ↦ inr (high, cond-false _ _ _ (le-ltb t s high)) ]

  lower_at : (t : ℕ) → t < length ends → t ≢ s → (lower t < length left) × (ends_at left (lower t) ≡ ends_at ends t)
  lower_at t t_in other =
      let size = length-left s ends s_in in
      elim (cases_lower t) [
        | inl low ↦ (omega (arith, low.0, low.1, size, s_in), ap (ends_at left) low.1 ∙ at_left_low s ends t low.0 t_in)
        | inr high ↦
            let on : suc (t - 1) ≡ t = omega (arith, high.0, other) in
            (omega (arith, high.1, size, t_in, on), ap (ends_at left) high.1 ∙ at_left_high s ends (t - 1) (omega (arith, high.0, other)) s_in ∙ ap (ends_at ends) on)
      ]

  lower_once : (t u : ℕ) → t ≢ s → u ≢ s → lower t ≡ lower u → t ≡ u
  lower_once t u t_other u_other same = omega (arith, same, t_other, u_other, cases_lower t, cases_lower u)

  -- s isn't in the list
  abbrev Unused : List ℕ → Type 0
  Unused path = has path s ≡ true → ⊥

  first_other : (t : ℕ) (path : List ℕ) → Unused (t ∷ path) → t ≢ s
  first_other t path none same = none (or_left (eqb t s) (has path s) (eq-eqb t s same))

  rest_unused : (t : ℕ) (path : List ℕ) → Unused (t ∷ path) → Unused path
  rest_unused t path none h = none (or_right (eqb t s) (has path s) h)

  leads_left : (u v : ℕ) (path : List ℕ) → Unused path → LeadsTo ends u path v → LeadsTo left u (map lower path) v
  leads_left u v [] none walk = walk
  leads_left u v (t ∷ path) none walk =
      let there = lower_at t walk.0 (first_other t path none) in
      let P : ℕ × ℕ → Type 0 = λ p. touches p u ≡ true in
      let Q : ℕ × ℕ → Type 0 = λ p. LeadsTo left (far_end p u) (map lower path) v in
      (there.0, subst P (sym there.1) walk.1, subst Q (sym there.1) (leads_left (far_end (ends_at ends t) u) v path (rest_unused t path none) walk.2))

  inner_left : (u v : ℕ) (path : List ℕ) → Unused path → LeadsTo ends u path v → inner_nodes left u (map lower path) ≡ inner_nodes ends u path
  inner_left u v [] none walk = refl
  inner_left u v (t ∷ []) none walk = refl
  inner_left u v (t ∷ r ∷ path) none walk =
      let there = lower_at t walk.0 (first_other t (r ∷ path) none) in
      let far : far_end (ends_at left (lower t)) u ≡ far_end (ends_at ends t) u = ap (λ p. far_end p u) there.1 in
      let w = far_end (ends_at ends t) u in
      let P : ℕ → List ℕ = λ z. z ∷ inner_nodes left z (map lower (r ∷ path)) in
      ap P far ∙ ap (λ zs. w ∷ zs) (inner_left w v (r ∷ path) (rest_unused t (r ∷ path) none) walk.2)

  abbrev lowered : List (List ℕ) → List (List ℕ)
  lowered paths = map (map lower) paths

  lead_all_left : (branch : List ℕ) (pairs : List (ℕ × ℕ)) (paths : List (List ℕ)) → Unused (concat paths) → LeadAll ends branch pairs paths → LeadAll left branch pairs (lowered paths)
  lead_all_left branch [] [] none lead = tt
  lead_all_left branch [] (path ∷ paths) none lead = absurd lead
  lead_all_left branch (p ∷ pairs) [] none lead = absurd lead
  lead_all_left branch (p ∷ pairs) (path ∷ paths) none lead = (
    leads_left (slice_index branch p.0) (slice_index branch p.1) path (λ h. none (has-left path (concat paths) s h)) lead.0,
    lead_all_left branch pairs paths (λ h. none (has-right path (concat paths) s h)) lead.1,
  )

  all_inner_left : (branch : List ℕ) (pairs : List (ℕ × ℕ)) (paths : List (List ℕ)) → Unused (concat paths) → LeadAll ends branch pairs paths →
      all_inner left branch pairs (lowered paths) ≡ all_inner ends branch pairs paths
  all_inner_left branch [] paths none lead = refl
  all_inner_left branch (p ∷ pairs) [] none lead = refl
  all_inner_left branch (p ∷ pairs) (path ∷ paths) none lead =
      ap₂ (λ xs ys. xs ++ ys) (inner_left (slice_index branch p.0) (slice_index branch p.1) path (λ h. none (has-left path (concat paths) s h)) lead.0)
      (all_inner_left branch pairs paths (λ h. none (has-right path (concat paths) s h)) lead.1)

  map-append : (xs ys : List ℕ) → map lower (xs ++ ys) ≡ map lower xs ++ map lower ys
  map-append [] ys = refl
  map-append (x ∷ xs) ys = ap (λ zs. lower x ∷ zs) (map-append xs ys)

  concat-lowered : (paths : List (List ℕ)) → concat (lowered paths) ≡ map lower (concat paths)
  concat-lowered [] = refl
  concat-lowered (path ∷ paths) = ap (λ zs. map lower path ++ zs) (concat-lowered paths) ∙ sym (map-append path (concat paths))

  has_lowered : (xs : List ℕ) (z : ℕ) → has (map lower xs) z ≡ true → (x : ℕ) × (has xs x ≡ true) × (lower x ≡ z)
  has_lowered [] z h = absurd (both_ways false refl h)
  has_lowered (x ∷ xs) z h = elim (or_cases (eqb (lower x) z) (has (map lower xs) z) h) [
    | inl here ↦ (x, or_left (eqb x x) (has xs x) (eq-eqb x x refl), eqb-true (lower x) z here)
    | inr later ↦ let found = has_lowered xs z later in (found.0, or_right (eqb x found.0) (has xs found.0) found.1, found.2)
  ]

  distinct_lowered : (xs : List ℕ) → Unused xs → IsDistinct nat_eq xs → IsDistinct nat_eq (map lower xs)
  distinct_lowered [] none distinct = distinct_none
  distinct_lowered (x ∷ xs) none distinct =
      distinct_cons (lower x) (map lower xs) (λ z h same.
      let found = has_lowered xs z h in
      let not_s : found.0 ≢ s = λ at. rest_unused x xs none (subst (λ t. has xs t ≡ true) at found.1) in
      distinct_head x xs distinct found.0 found.1 (lower_once x found.0 (first_other x xs none) not_s (same ∙ sym found.2)))
      (distinct_lowered xs (rest_unused x xs none) (distinct_tail x xs distinct))

  subdivision_left : (nodes : ℕ) (pairs : List (ℕ × ℕ)) (branch : List ℕ) (paths : List (List ℕ)) → Unused (concat paths) → IsPathSystem (record { nodes = nodes; ends = ends }) pairs branch paths →
      IsPathSystem (record { nodes = nodes; ends = left }) pairs branch (lowered paths)
  subdivision_left nodes pairs branch paths none is = record {
    below = is.below;
    lead = lead_all_left branch pairs paths none is.lead;
    once = let P : List ℕ → Type 0 = λ xs. IsDistinct nat_eq xs in subst P (sym (concat-lowered paths)) (distinct_lowered (concat paths) none is.once);
    no_node_twice = let P : List ℕ → Type 0 = λ xs. IsDistinct nat_eq (branch ++ xs) in subst P (sym (all_inner_left branch pairs paths none is.lead)) is.no_node_twice;
  }

pub evidence_without : EvidenceWithoutASegment
evidence_without web s branch paths s_in (inl five) none = (branch, lowered web.ends s s_in paths, inl (five.0, subdivision_left web.ends s s_in web.nodes five_pairs branch paths none five.1))
evidence_without web s branch paths s_in (inr three) none = (branch, lowered web.ends s s_in paths, inr (three.0, subdivision_left web.ends s s_in web.nodes three_pairs branch paths none three.1))

pub cores_are_subdivisions : FiveExcludesFlat → ThreeThreeExcludesFlat → CoresAreSubdivisions
cores_are_subdivisions five three web core = elim (flat_or_evidence web core.ends_in core.no_loop) [
  | inl flat ↦ absurd (core.not_flat flat.0 flat.1)
  | inr evidence ↦ (
    evidence.0,
    evidence.1,
    evidence.2,
    λ s s_in. elim (cases_Bool (has (concat evidence.1) s)) [
      | inl used ↦ used
      | inr unused ↦
          let less = evidence_without web s evidence.0 evidence.1 s_in evidence.2 (λ h. both_ways _ unused h) in
          let flat = core.flat_without s s_in in
          absurd (excludes five three (record { nodes = web.nodes; ends = left_without s web.ends }) less flat.next (record { is_map = flat.is_map; flat = flat.flat }))
    ],
  )
]

-- ---- as the search for the kind has it

-- for every core an evidence of one of the two kinds holds that uses each of its segments
cores_are_whole : CoresAreSubdivisions → (web : Graph) → IsCore web → (evidence : Evidence) × IsWhole web evidence
cores_are_whole subdivisions web core =
    let found = subdivisions web core in
    elim found.2 [
      | inl five ↦ (
        Five found.0 found.1,
        record { kind = (five.0, length-lead web.ends found.0 five_pairs found.1 five.1.lead); holds = five; all = found.3 },
      )
      | inr three ↦ (
        ThreeThree found.0 found.1,
        record { kind = (three.0, length-lead web.ends found.0 three_pairs found.1 three.1.lead); holds = three; all = found.3 },
      )
    ]

pub cores_are_found : CoresAreSubdivisions → CoresAreFound
cores_are_found subdivisions web None core is = let evidence = cores_are_whole subdivisions web core in absurd (is evidence.0 evidence.1)
cores_are_found subdivisions web (Some evidence) core is = (evidence, refl, is)
