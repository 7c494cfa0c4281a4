-- Evidence that holds is in the ranges of an answer's lines.
use Rattle.std.proofs.Common.{◌≡◌, ℕ, ◌<◌, ◌≤◌, ◌^◌, inl, inr, true, false, eqb, List, [], ◌∷◌, length, refl, subst, arith, length-append}
use Rattle.std.specs.List.{IsDistinct, concat}
use Rattle.std.specs.Prelude.{All, slice_index}
use Rattle.std.proofs.lemmas.Bool.{both_ways, cases_Bool, eqb-true, or_cases}
use Rattle.std.proofs.lemmas.List.Elements.{All-cons, All-nil}
use Rattle.xn_model.specs.Evidence.{IsPathSystem, LeadAll, LeadsTo, far_end, five_pairs, three_pairs}
use Rattle.xn_model.specs.Graph.{Graph, ends_at}
use Rattle.xn_model.specs.Insertion.{Follow, GrowsFromFirst}
use Rattle.xn_model.specs.Lists.{has}
use Rattle.xn_model.proofs.Has.{has-append, has-first, unlike_each}
use Rattle.xn_model.proofs.Tests.{neither}
use Rattle.xn_kinds.specs.Row.{EvidenceHolds}
use Rattle.xn_kinds.specs.declared.rows.Evidence.{Evidence}
use Rattle.xn_kinds.specs.declared.rows.Evidence.TheVariants.{Five, ThreeThree, Extension}
use Rattle.xn_proof.specs.WellFormed.{AreNodes, IsEvidenceText, IsList}
use Rattle.xn_answers.proofs.Crossers.{all_there, distinct_few}

-- ---- paths

module _ (ends : List (ℕ × ℕ)) (few : length ends ≤ 1000000) where
  leads_below : (u : ℕ) (path : List ℕ) (v : ℕ) → LeadsTo ends u path v → (s : ℕ) → has path s ≡ true → s < length ends
  leads_below u [] v lead s there = absurd (both_ways false refl there)
  leads_below u (t ∷ path) v lead s there = elim (or_cases (eqb t s) (has path s) there) [
    | inl here ↦ subst (λ x. x < length ends) (eqb-true t s here) lead.0
    | inr later ↦ leads_below (far_end (ends_at ends t) u) path v lead.2 s later
  ]

  all_below : (branch : List ℕ) (pairs : List (ℕ × ℕ)) (paths : List (List ℕ)) → LeadAll ends branch pairs paths → (s : ℕ) → has (concat paths) s ≡ true → s < length ends
  all_below branch [] [] lead s there = absurd (both_ways false refl there)
  all_below branch [] (path ∷ paths) lead s there = absurd lead
  all_below branch (p ∷ pairs) [] lead s there = absurd lead
  all_below branch (p ∷ pairs) (path ∷ paths) lead s there = elim (has-append path (concat paths) s there) [
    | inl here ↦ leads_below (slice_index branch p.0) path (slice_index branch p.1) lead.0 s here
    | inr later ↦ all_below branch pairs paths lead.1 s later
  ]

  each_path : (branch : List ℕ) (pairs : List (ℕ × ℕ)) (paths : List (List ℕ)) → LeadAll ends branch pairs paths → length (concat paths) ≤ 1000000 → All (IsList 1000000) paths
  each_path branch [] [] lead short = All-nil (IsList 1000000)
  each_path branch [] (path ∷ paths) lead short = absurd lead
  each_path branch (p ∷ pairs) [] lead short = absurd lead
  each_path branch (p ∷ pairs) (path ∷ paths) lead short =
      let both = length-append path (concat paths) in
      let below = leads_below (slice_index branch p.0) path (slice_index branch p.1) lead.0 in
      All-cons (IsList 1000000) path paths
      (omega (arith, short, both), all_there (λ s. s < 2 ^ 32) path (λ s there. omega (arith, few, below s there)))
      (each_path branch pairs paths lead.1 (omega (arith, short, both)))

  paths_fit : (branch : List ℕ) (pairs : List (ℕ × ℕ)) (paths : List (List ℕ)) → LeadAll ends branch pairs paths → length paths ≡ length pairs
  paths_fit branch [] [] lead = refl
  paths_fit branch [] (path ∷ paths) lead = absurd lead
  paths_fit branch (p ∷ pairs) [] lead = absurd lead
  paths_fit branch (p ∷ pairs) (path ∷ paths) lead = omega (arith, paths_fit branch pairs paths lead.1)

  -- ---- lists that grow

  -- what follows isn't in yet
  new_later : (done rest : List ℕ) → Follow ends done rest → (x : ℕ) → has rest x ≡ true → (x < length ends) × (has done x ≡ false)
  new_later done [] follow x there = absurd (both_ways false refl there)
  new_later done (s ∷ rest) follow x there = elim (or_cases (eqb s x) (has rest x) there) [
    | inl here ↦ subst (λ y. (y < length ends) × (has done y ≡ false)) (eqb-true s x here) (follow.0, follow.1)
    | inr later ↦
        let rest_new = new_later (s ∷ done) rest follow.3 x later in
        (rest_new.0, (neither (eqb s x) (has done x) rest_new.1).1)
  ]

  not_again : (s : ℕ) (done rest : List ℕ) → Follow ends (s ∷ done) rest → has rest s ≡ false
  not_again s done rest follow = elim (cases_Bool (has rest s)) [
    | inl there ↦ absurd (both_ways _ (new_later (s ∷ done) rest follow s there).1 (has-first s done))
    | inr out ↦ out
  ]

  follow_distinct : (done rest : List ℕ) → Follow ends done rest → IsDistinct eqb rest
  unfolding IsDistinct
  follow_distinct done [] follow = tt
  follow_distinct done (s ∷ rest) follow = (unlike_each s rest (not_again s done rest follow.3), follow_distinct (s ∷ done) rest follow.3)

  grown_distinct : (s : ℕ) (rest : List ℕ) → Follow ends (s ∷ []) rest → IsDistinct eqb (s ∷ rest)
  unfolding IsDistinct
  grown_distinct s rest follow = (unlike_each s rest (not_again s [] rest follow), follow_distinct (s ∷ []) rest follow)

  grown_text : (list : List ℕ) → GrowsFromFirst ends list → IsList 1000000 list
  grown_text [] grows = absurd grows
  grown_text (s ∷ rest) grows =
      let below : (x : ℕ) → has (s ∷ rest) x ≡ true → x < length ends = λ x there. elim (or_cases (eqb s x) (has rest x) there) [
        | inl here ↦ subst (λ y. y < length ends) (eqb-true s x here) grows.0
        | inr later ↦ (new_later (s ∷ []) rest grows.1 x later).0
      ] in (
        omega (arith, few, distinct_few (length ends) (s ∷ rest) (grown_distinct s rest grows.1) below),
        all_there (λ x. x < 2 ^ 32) (s ∷ rest) (λ x there. omega (arith, few, below x there)),
      )

-- ---- evidence

module _ (web : Graph) (few_nodes : web.nodes ≤ 2 ^ 30) (few : length web.ends ≤ 1000000) where
  branch_text : (count : ℕ) (branch : List ℕ) → length branch ≡ count → All (λ v. v < web.nodes) branch → AreNodes count branch
  branch_text count branch size below = (size, λ k d low. omega (arith, few_nodes, below k d low))

  system_paths : (pairs : List (ℕ × ℕ)) (branch : List ℕ) (paths : List (List ℕ)) → IsPathSystem web pairs branch paths → All (IsList 1000000) paths
  system_paths pairs branch paths is =
      let short = distinct_few (length web.ends) (concat paths) is.once (all_below web.ends few branch pairs paths is.lead) in
      each_path web.ends few branch pairs paths is.lead (omega (arith, short, few))

  pub evidence_text : (evidence : Evidence) → EvidenceHolds web evidence → IsEvidenceText evidence
  evidence_text (Five branch paths) holds = (
    branch_text 5 branch holds.0 holds.1.below,
    paths_fit web.ends few branch five_pairs paths holds.1.lead,
    system_paths five_pairs branch paths holds.1,
  )
  evidence_text (ThreeThree branch paths) holds = (
    branch_text 6 branch holds.0 holds.1.below,
    paths_fit web.ends few branch three_pairs paths holds.1.lead,
    system_paths three_pairs branch paths holds.1,
  )
  evidence_text (Extension list) holds = grown_text web.ends few list holds.grows
