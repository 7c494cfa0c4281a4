-- A web with a subdivision of K5 or of K3,3 has no flat map: each face meets too many branch nodes.
use Rattle.std.proofs.Common.{◌≡◌, ℕ, ◌+◌, ◌*◌, ◌/◌, ◌<◌, ◌≤◌, Bool, true, false, not, ltb, List, ◌++◌, length, refl, sym, ◌∙◌, ap, subst, arith, length-append}
use Rattle.std.specs.List.{concat}
use Rattle.std.proofs.lemmas.Bool.{both_ways, not-true, false_from_ne_true}
use Rattle.xn_model.specs.Evidence.{IsFive, IsPathSystem, IsThreeThree, all_inner, five_pairs, three_pairs}
use Rattle.xn_model.specs.Graph.{Graph, ends_at}
use Rattle.xn_model.specs.Lists.{has}
use Rattle.xn_model.specs.Map.{IsFlat, face_step, is_lone, tail_of}
use Rattle.xn_ring.proofs.Marks.{marks_are_many}
use Rattle.xn_ring.specs.Parts.{cycle_count_with}
use Rattle.xn_genus.proofs.Compress.{tail_in}
use Rattle.xn_genus.proofs.Kept.{EndsIn-kept, live_dart_if_not_lone, no_live_dart_if_lone}
use Rattle.xn_genus.proofs.Restrict.{restricted_flat, restricted_map}
use Rattle.xn_genus.specs.Live.{IsMapOn, kept, passing_over}
use Rattle.xn_kinds.specs.Row.{EvidenceHolds}
use Rattle.xn_kinds.specs.declared.rows.Evidence.{Evidence}
use Rattle.xn_kinds.specs.declared.rows.Evidence.TheVariants.{Extension, Five, ThreeThree}
use Rattle.xn_model.proofs.Counts.{count-not}
use Rattle.xn_kura.specs.Flaws.{HasAKind}
use Rattle.xn_kura.proofs.Bound.{cycles_bound, face_permutes}
use Rattle.xn_kura.proofs.Faces.{four_in_each, inner_length, live_node, marked_few, some_live, three_in_each}
use Rattle.xn_kura.proofs.LoneComponents.{lone-lt_components}
use Rattle.xn_kura.proofs.Pairs.{ArePairs, all_below_at, pairs_by_test}
use Rattle.xn_kura.proofs.Tally.{count-le_cover, distinct-le}
use Rattle.xn_kura.proofs.UsedPaths.{used_in}

module _ (web : Graph) (branch : List ℕ) (pairs : List (ℕ × ℕ)) (paths : List (List ℕ)) (are : ArePairs (length branch) pairs)
    (some_pair : 0 < length pairs) (is : IsPathSystem web pairs branch paths) (next : ℕ → ℕ) (flat : IsFlat web next) where
  abbrev n : ℕ
  n = 2 * length web.ends

  abbrev live : ℕ → Bool
  live = has (concat paths)

  abbrev left : List (ℕ × ℕ)
  left = kept live web.ends

  abbrev inner : List ℕ
  inner = all_inner web.ends branch pairs paths

  abbrev after : ℕ → ℕ
  after = passing_over live (length web.ends) next

  abbrev pub faces : ℕ
  faces = cycle_count_with n (face_step after) (λ d. live (d / 2))

  map : IsMapOn web.ends live after
  map = restricted_map web.nodes web.ends next flat.is_map live

  -- by Euler's formula the used segments alone have many faces
  pub many_faces : 2 + length pairs ≤ length branch + faces
  many_faces =
      let flat_left = restricted_flat web.nodes web.ends next flat.is_map live flat.flat in
      let cycles = cycles_bound web.ends live after map in
      let used = distinct-le (length web.ends) live (concat paths) is.once (λ s s_in. (used_in web.ends branch pairs paths is.lead s s_in, s_in)) in
      let dead = count-not (length web.ends) live in
      let lone = count-not web.nodes (is_lone left) in
      let touched = count-le_cover web.nodes (λ w. not (is_lone left w)) (branch ++ inner) (λ w w_in t.
      let dart = live_dart_if_not_lone web.ends live w (not-true _ t) in
      ap (has (branch ++ inner)) (sym dart.3) ∙ live_node web.ends branch pairs paths are is.lead is.once is.no_node_twice after map dart.0 dart.2) in
      let nodes_length = length-append branch inner in
      let inner_is = inner_length web.ends branch pairs paths are is.lead is.once is.no_node_twice after map in
      let dart = some_live web.ends branch pairs paths are is.lead is.once is.no_node_twice after map some_pair in
      let components = lone-lt_components web.nodes left (EndsIn-kept web.nodes live web.ends flat.is_map.ends_in) (tail_of web.ends dart.0)
      (tail_in web.nodes web.ends flat.is_map.ends_in dart.0 dart.1)
      (false_from_ne_true _ (λ t. no_live_dart_if_lone web.ends live (tail_of web.ends dart.0) t dart.0 dart.1 dart.2 refl)) in
      omega (arith, cycles, used, dead, lone, touched, nodes_length, inner_is, components, flat_left)

  -- but each has three darts of which each leaves a branch node along a path
  pub three_a_face : 3 * faces ≤ 2 * length pairs
  three_a_face = omega (
    arith,
    marks_are_many n n 3 (face_step after) (λ t. t) (λ d. live (d / 2)) _ (face_permutes web.ends live after map)
        (three_in_each web.ends branch pairs paths are is.lead is.once is.no_node_twice after map),
    marked_few web.ends branch pairs paths are is.lead is.once is.no_node_twice after map,
  )

  -- and four where the pairs go from one side to the other
  pub four_a_face : (side : ℕ → Bool) → ((q : ℕ) → q < length pairs → side (ends_at pairs q).1 ≡ not (side (ends_at pairs q).0)) → 4 * faces ≤ 2 * length pairs
  four_a_face side crosses = omega (
    arith,
    marks_are_many n n 4 (face_step after) (λ t. t) (λ d. live (d / 2)) _ (face_permutes web.ends live after map)
        (four_in_each web.ends branch pairs paths are is.lead is.once is.no_node_twice after map side crosses),
    marked_few web.ends branch pairs paths are is.lead is.once is.no_node_twice after map,
  )

pub no_flat_five : (web : Graph) (branch : List ℕ) (paths : List (List ℕ)) → IsFive web branch paths → (next : ℕ → ℕ) → IsFlat web next → ⊥
no_flat_five web branch paths is next flat =
    let P : ℕ → Type 0 = λ count. ArePairs count five_pairs in
    let are : ArePairs (length branch) five_pairs = subst P (sym is.0) (pairs_by_test 5 five_pairs refl) in
    let many = many_faces web branch five_pairs paths are (omega arith) is.1 next flat in
    let few = three_a_face web branch five_pairs paths are (omega arith) is.1 next flat in
    omega (arith, many, few, is.0)

-- the pairs of K3,3 go from the first three nodes to the last three
crosses : (q : ℕ) → q < 9 → ltb (ends_at three_pairs q).1 3 ≡ not (ltb (ends_at three_pairs q).0 3)
crosses q q_in = same_bits _ _ (all_below_at 9 (λ x. same_bit (ltb (ends_at three_pairs x).1 3) (not (ltb (ends_at three_pairs x).0 3))) refl q q_in)
  where
    same_bit : Bool → Bool → Bool
    same_bit true b = b
    same_bit false b = not b

    same_bits : (a b : Bool) → same_bit a b ≡ true → a ≡ b
    same_bits true true h = refl
    same_bits true false h = absurd (both_ways false refl h)
    same_bits false true h = absurd (both_ways false refl h)
    same_bits false false h = refl

pub no_flat_three_three : (web : Graph) (branch : List ℕ) (paths : List (List ℕ)) → IsThreeThree web branch paths → (next : ℕ → ℕ) → IsFlat web next → ⊥
no_flat_three_three web branch paths is next flat =
    let P : ℕ → Type 0 = λ count. ArePairs count three_pairs in
    let are : ArePairs (length branch) three_pairs = subst P (sym is.0) (pairs_by_test 6 three_pairs refl) in
    let many = many_faces web branch three_pairs paths are (omega arith) is.1 next flat in
    let few = four_a_face web branch three_pairs paths are (omega arith) is.1 next flat (λ i. ltb i 3) crosses in
    omega (arith, many, few, is.0)

pub no_flat : (web : Graph) (evidence : Evidence) → HasAKind evidence → EvidenceHolds web evidence → (next : ℕ → ℕ) → IsFlat web next → ⊥
no_flat web (Five branch paths) kind holds next flat = no_flat_five web branch paths holds next flat
no_flat web (ThreeThree branch paths) kind holds next flat = no_flat_three_three web branch paths holds next flat
no_flat web (Extension list) kind holds next flat = kind
