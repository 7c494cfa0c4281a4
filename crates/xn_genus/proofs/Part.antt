-- A part of a map under numbers of its own is a map, and flat where the map is.
use Rattle.std.proofs.Common.{◌≡◌, ℕ, zero, suc, ◌+◌, ◌*◌, ◌/◌, ◌<◌, ◌⊎◌, inl, inr, Bool, true, cond, eqb, List, length, refl, sym, ◌∙◌, ap, arith}
use Rattle.std.proofs.lemmas.Bool.{both_ways, cases_eq, cases_order, cond-true, cond-false, eq-eqb, eqb-true, ne_eqb}
use Rattle.xn_model.specs.Map.{MeetsEuler, IsMap, component_count, face_count, is_lone, reverse_of}
use Rattle.xn_model.specs.Permutation.{Permutes, count_below, iterate}
use Rattle.xn_ring.specs.Removals.{IsNextKept}
use Rattle.xn_genus.specs.Live.{kept, passing_over}
use Rattle.xn_genus.specs.Part.{IsPart, PassesOver}
use Rattle.xn_model.proofs.Darts.{cases_dart, reverse-even, reverse-odd, reverse_below}
use Rattle.xn_ring.proofs.Without.{before}
use Rattle.xn_genus.proofs.Compress.{IsMap-part, components_of_part, faces_of_part, flat_part}
use Rattle.xn_genus.proofs.Euler.{kept-all, whole}
use Rattle.xn_genus.proofs.Restrict.{lives, restricted_flat, restricted_leads, restricted_map}
use Rattle.xn_genus.proofs.Tests.{some_below, some_below-from, some_below-to}

-- the number below n that e sends to d, where there is one
abbrev pub index : ℕ → (ℕ → ℕ) → ℕ → ℕ
index zero e d = 0
index (suc n) e d = cond (eqb (e n) d) n (index n e d)

pub index_is : (n : ℕ) (e : ℕ → ℕ) (d j : ℕ) → j < n → e j ≡ d → (index n e d < n) × (e (index n e d) ≡ d)
index_is zero e d j below same = absurd (omega arith)
index_is (suc n) e d j below same = elim (cases_eq (e n) d) [
  | inl here ↦ let is : index (suc n) e d ≡ n = cond-true _ _ _ (eq-eqb _ _ here) in (omega (arith, is), ap e is ∙ here)
  | inr other ↦
      let is : index (suc n) e d ≡ index n e d = cond-false _ _ _ (ne_eqb _ _ other) in
      let before = index_is n e d j (elim (cases_eq j n) [ inl last ↦ absurd (other (ap e (sym last) ∙ same)) | inr not_last ↦ omega (arith, below, not_last) ]) same in
      (omega (arith, is, before.0), ap e is ∙ before.1)
]

same_segment : (a b : ℕ) → a / 2 ≡ b / 2 → (a ≡ b) ⊎ (reverse_of a ≡ b)
same_segment a b half = elim (cases_eq a b) [
  | inl same ↦ inl same
  | inr other ↦ let c = cases_dart a in inr (elim c.1 [
    | inl even ↦ let r : reverse_of a ≡ 2 * c.0 + 1 = ap reverse_of even ∙ reverse-even c.0 in omega (arith, r, even, half, other)
    | inr odd ↦ let r : reverse_of a ≡ 2 * c.0 = ap reverse_of odd ∙ reverse-odd c.0 in omega (arith, r, odd, half, other)
  ])
]

module _ (nodes : ℕ) (ends part : List (ℕ × ℕ)) (e next : ℕ → ℕ) (map : IsMap nodes ends next) (is : IsPart ends part e) where
  abbrev n : ℕ
  n = 2 * length ends

  abbrev k : ℕ
  k = 2 * length part

  -- the segments of the part
  abbrev keep : ℕ → Bool
  keep s = some_below k (λ j. eqb (e j / 2) s)

  keeps : (j : ℕ) → j < k → keep (e j / 2) ≡ true
  keeps j j_in = some_below-from k (λ i. eqb (e i / 2) (e j / 2)) j j_in (eq-eqb _ _ refl)

  found : (d : ℕ) → d < n → keep (d / 2) ≡ true → (j : ℕ) × (j < k) × (e j ≡ d)
  found d d_in h =
      let some = some_below-to k (λ j. eqb (e j / 2) (d / 2)) h in
      elim (same_segment (e some.0) d (eqb-true _ _ some.2)) [
        | inl same ↦ (some.0, some.1, same)
        | inr turned ↦ (reverse_of some.0, reverse_below (length part) some.0 some.1, is.reverses some.0 some.1 ∙ turned)
      ]

  abbrev on : ℕ → ℕ
  on = passing_over keep (length ends) next

  on_first : (j : ℕ) → j < k → IsNextKept next (lives keep) (e j) (on (e j))
  on_first j j_in = restricted_leads nodes ends next map keep (e j) (is.below j j_in) (keeps j j_in)

  on_in : (j : ℕ) → j < k → on (e j) < n
  on_in j j_in = (restricted_map nodes ends next map keep).permutes.below (e j) (is.below j j_in)

  -- there is a rotation that passes over
  pub passes_over : (after : ℕ → ℕ) × PassesOver k e next after
  passes_over =
      let after = λ (j : ℕ). index k e (on (e j)) in
      let right : (j : ℕ) → j < k → (after j < k) × (e (after j) ≡ on (e j)) = λ j j_in.
      let there = found (on (e j)) (on_in j j_in) (on_first j j_in).kept in
      index_is k e (on (e j)) there.0 there.1 there.2 in (
        after,
        record {
          below = λ j j_in. (right j j_in).0;
          first = λ j j_in.
              let one = on_first j j_in in
              record {
                steps = one.steps;
                there = one.there ∙ sym (right j j_in).1;
                between = λ i l early l_in same. both_ways _ (one.passed i early) (ap (λ x. keep (x / 2)) same ∙ keeps l l_in);
              };
        },
      )

  module _ (after : ℕ → ℕ) (passes : PassesOver k e next after) where
    -- and only one
    step : (j : ℕ) → j < k → e (after j) ≡ on (e j)
    step j j_in =
        let one = passes.first j j_in in
        let two = on_first j j_in in
        elim (cases_order one.steps two.steps) [
          | inr (inl less) ↦ absurd (both_ways _ (two.passed one.steps less) (ap (λ x. keep (x / 2)) one.there ∙ keeps (after j) (passes.below j j_in)))
          | inl same ↦ sym one.there ∙ ap (λ i. iterate next (suc i) (e j)) same ∙ two.there
          | inr (inr more) ↦
              let there = found (on (e j)) (on_in j j_in) two.kept in
              absurd (one.between two.steps there.0 more there.1 (two.there ∙ sym there.2))
        ]

    pub map_of_part : IsMap nodes part after
    map_of_part = IsMap-part nodes ends part e is keep keeps found on after (restricted_map nodes ends next map keep) map.ends_in passes.below step

    pub flat_of_part : MeetsEuler nodes ends next → MeetsEuler nodes part after
    flat_of_part flat =
        flat_part nodes ends part e is keep keeps found on after (restricted_map nodes ends next map keep) map.ends_in passes.below step
        (restricted_flat nodes ends next map keep flat)

-- all segments under other numbers
module _ (nodes : ℕ) (ends part : List (ℕ × ℕ)) (e next after : ℕ → ℕ) (map : IsMap nodes ends next) (is : IsPart ends part e) (all : length part ≡ length ends)
    (below : (j : ℕ) → j < 2 * length part → after j < 2 * length part) (step : (j : ℕ) → j < 2 * length part → e (after j) ≡ next (e j)) where
  e_permutes : Permutes (2 * length part) e
  e_permutes = record { below = λ j j_in. let low = is.below j j_in in omega (arith, low, all); apart = is.apart }

  every : (d : ℕ) → d < 2 * length ends → true ≡ true → (j : ℕ) × (j < 2 * length part) × (e j ≡ d)
  every d d_in h = before (2 * length part) d e e_permutes (omega (arith, d_in, all))

  pub map_renumbered : IsMap nodes part after
  map_renumbered = IsMap-part nodes ends part e is (λ s. true) (λ j j_in. refl) every next after (whole nodes ends next map) map.ends_in below step

  pub faces_renumbered : face_count nodes part after ≡ face_count nodes ends next
  faces_renumbered =
      let faces = faces_of_part nodes ends part e is (λ s. true) (λ j j_in. refl) every next after (whole nodes ends next map) map.ends_in below step in
      let lone : count_below nodes (is_lone (kept (λ s. true) ends)) ≡ count_below nodes (is_lone ends) = ap (λ xs. count_below nodes (is_lone xs)) (kept-all ends) in
      omega (arith, faces, lone, all)

  pub components_renumbered : component_count nodes part ≡ component_count nodes ends
  components_renumbered =
      components_of_part nodes ends part e is (λ s. true) (λ j j_in. refl) every next after (whole nodes ends next map) map.ends_in below step
      ∙ ap (component_count nodes) (kept-all ends)
