-- A segment goes out of a map, and the last segment takes its number.
use Rattle.std.proofs.Common.{◌≡◌, ◌≢◌, ℕ, ◌+◌, ◌*◌, ◌/◌, ◌%◌, ◌<◌, ◌⊎◌, inl, inr, Bool, true, cond, eqb, List, length, refl, sym, ◌∙◌, ap, arith}
use Rattle.std.proofs.lemmas.Bool.{cases_eq, cond-true, cond-false, eq-eqb, ne_eqb, eqb-false, not-true, not_from_false}
use Rattle.xn_model.specs.Graph.{ends_at}
use Rattle.xn_model.specs.Lists.{at}
use Rattle.xn_model.specs.Map.{MeetsEuler, IsMap, Joined, component_count, component_labels, face_count, face_step, is_lone, reverse_of, tail_of}
use Rattle.xn_model.specs.Permutation.{Reaches, count_below, cycle_count}
use Rattle.xn_genus.specs.Deletion.{IsDeletion, dart_before}
use Rattle.xn_genus.specs.Live.{IsMapOn, faces_on, kept, without_segment}
use Rattle.xn_genus.specs.Part.{IsPart}
use Rattle.xn_model.proofs.ComponentWalks.{joined_from_label, label_from_joined}
use Rattle.xn_model.proofs.Darts.{cases_dart, reverse-even, reverse-odd, tail-even, tail-odd}
use Rattle.xn_genus.proofs.Compress.{IsMap-part, components_of_part, faces_of_part, flat_part, labels_of_part}
use Rattle.xn_genus.proofs.Dies.{IsMapOn-deleted, components_rise, components_stay, faces_rise, faces_stay, one_component, u_in, v_in}
use Rattle.xn_genus.proofs.Euler.{dies, flat_dies, kept-all, whole}

module _ (nodes s : ℕ) (ends left : List (ℕ × ℕ)) (next after : ℕ → ℕ) (map : IsMap nodes ends next) (goes : IsDeletion ends next s left after) where
  abbrev last : ℕ
  last = length left

  abbrev e : ℕ → ℕ
  e = dart_before s last

  abbrev keep : ℕ → Bool
  keep = dies s (λ i. true)

  keep_other : (i : ℕ) → i ≢ s → keep i ≡ true
  keep_other i other = not_from_false _ (ne_eqb i s other)

  keep_is : (i : ℕ) → keep i ≡ true → i ≢ s
  keep_is i h = eqb-false i s (not-true _ h)

  -- the two kinds of darts
  at_s : (d : ℕ) → d / 2 ≡ s → e d ≡ 2 * last + d % 2
  at_s d here = cond-true _ _ _ (eq-eqb _ _ here)

  not_s : (d : ℕ) → d / 2 ≢ s → e d ≡ d
  not_s d other = cond-false _ _ _ (ne_eqb _ _ other)

  cases_e : (d : ℕ) → ((d / 2 ≡ s) × (e d ≡ 2 * last + d % 2)) ⊎ ((d / 2 ≢ s) × (e d ≡ d))
  cases_e d = elim (cases_eq (d / 2) s) [ inl here ↦ inl (here, at_s d here) | inr other ↦ inr (other, not_s d other) ]

  e_segment : (i r : ℕ) → r < 2 → e (2 * i + r) ≡ 2 * cond (eqb i s) last i + r
  e_segment i r small =
      let half : (2 * i + r) / 2 ≡ i = omega (arith, small) in
      let rest : (2 * i + r) % 2 ≡ r = omega (arith, small) in
      elim (cases_eq i s) [
        | inl here ↦
            let c : cond (eqb i s) last i ≡ last = cond-true _ _ _ (eq-eqb _ _ here) in
            omega (arith, at_s (2 * i + r) (half ∙ here), rest, c)
        | inr other ↦
            let c : cond (eqb i s) last i ≡ i = cond-false _ _ _ (ne_eqb _ _ other) in
            omega (arith, not_s (2 * i + r) (λ same. other (sym half ∙ same)), c)
      ]

  e_even : (i : ℕ) → e (2 * i) ≡ 2 * cond (eqb i s) last i
  e_even i = let one = e_segment i 0 (omega arith) in let z : 2 * i + 0 ≡ 2 * i = omega arith in omega (arith, one, ap e z)

  e_odd : (i : ℕ) → e (2 * i + 1) ≡ 2 * cond (eqb i s) last i + 1
  e_odd i = e_segment i 1 (omega arith)

  IsPart-left : IsPart ends left e
  IsPart-left = record {
    below = λ d d_in. omega (arith, cases_e d, d_in, goes.fewer);
    apart = λ c d c_in d_in same. omega (arith, cases_e c, cases_e d, same, c_in, d_in);
    reverses = λ d d_in. let c = cases_dart d in elim c.1 [
      | inl even ↦ ap (λ x. e (reverse_of x)) even ∙ ap e (reverse-even c.0) ∙ e_odd c.0 ∙ sym (reverse-even _) ∙ ap reverse_of (sym (e_even c.0)) ∙ ap (λ x. reverse_of (e x)) (sym even)
      | inr odd ↦ ap (λ x. e (reverse_of x)) odd ∙ ap e (reverse-odd c.0) ∙ e_even c.0 ∙ sym (reverse-odd _) ∙ ap reverse_of (sym (e_odd c.0)) ∙ ap (λ x. reverse_of (e x)) (sym odd)
    ];
    tails = λ d d_in.
        let c = cases_dart d in
        let same = goes.ends_left c.0 (omega (arith, c.1, d_in)) in
        elim c.1 [
          | inl even ↦ ap (tail_of left) even ∙ tail-even left c.0 ∙ ap (λ p. p.0) same ∙ sym (tail-even ends _) ∙ ap (tail_of ends) (sym (e_even c.0)) ∙ ap (λ x. tail_of ends (e x)) (sym even)
          | inr odd ↦ ap (tail_of left) odd ∙ tail-odd left c.0 ∙ ap (λ p. p.1) same ∙ sym (tail-odd ends _) ∙ ap (tail_of ends) (sym (e_odd c.0)) ∙ ap (λ x. tail_of ends (e x)) (sym odd)
        ];
  }

  keeps : (d : ℕ) → d < 2 * length left → keep (e d / 2) ≡ true
  keeps d d_in = keep_other _ (λ at. omega (arith, at, cases_e d, d_in, goes.is_there, goes.fewer))

  found : (d : ℕ) → d < 2 * length ends → keep (d / 2) ≡ true → (j : ℕ) × (j < 2 * length left) × (e j ≡ d)
  found d d_in h =
      let other = keep_is (d / 2) h in
      elim (cases_eq (d / 2) last) [
        | inl at_last ↦
            let j = 2 * s + d % 2 in
            let half : j / 2 ≡ s = omega arith in
            let rest : j % 2 ≡ d % 2 = omega arith in
            (j, omega (arith, goes.is_there, goes.fewer, other, at_last), omega (arith, at_s j half, rest, at_last))
        | inr before ↦ (d, omega (arith, d_in, goes.fewer, before), not_s d other)
      ]

  abbrev on : ℕ → ℕ
  on = without_segment s next

  is_whole : IsMapOn ends (λ i. true) next
  is_whole = whole nodes ends next map

  on_is : IsMapOn ends keep on
  on_is = IsMapOn-deleted nodes ends (λ i. true) next is_whole map.ends_in s goes.is_there refl

  pub map_left : IsMap nodes left after
  map_left = IsMap-part nodes ends left e IsPart-left keep keeps found on after on_is map.ends_in goes.below goes.turns

  faces_left : faces_on nodes ends keep on + length left ≡ face_count nodes left after + length ends
  faces_left = faces_of_part nodes ends left e IsPart-left keep keeps found on after on_is map.ends_in goes.below goes.turns

  faces_all : faces_on nodes ends (λ i. true) next ≡ face_count nodes ends next
  faces_all = ap (λ xs. cycle_count (2 * length ends) (face_step next) + count_below nodes (is_lone xs)) (kept-all ends)

  components_all : component_count nodes (kept (λ i. true) ends) ≡ component_count nodes ends
  components_all = ap (component_count nodes) (kept-all ends)

  components_left : component_count nodes left ≡ component_count nodes (kept keep ends)
  components_left = components_of_part nodes ends left e IsPart-left keep keeps found on after on_is map.ends_in goes.below goes.turns

  abbrev u : ℕ
  u = (ends_at ends s).0

  abbrev v : ℕ
  v = (ends_at ends s).1

  u_below : u < nodes
  u_below = u_in nodes ends (λ i. true) next is_whole map.ends_in s goes.is_there refl

  v_below : v < nodes
  v_below = v_in nodes ends (λ i. true) next is_whole map.ends_in s goes.is_there refl

  label_left : (w : ℕ) → w < nodes → at (component_labels nodes left) w ≡ at (component_labels nodes (kept keep ends)) w
  label_left = labels_of_part nodes ends left e IsPart-left keep keeps found on after on_is map.ends_in goes.below goes.turns

  pub splits_a_face : Reaches (face_step next) (2 * s) (2 * s + 1) → face_count nodes left after ≡ face_count nodes ends next + 1
  splits_a_face same =
      let more = faces_rise nodes ends (λ i. true) next is_whole map.ends_in s goes.is_there refl same in
      omega (arith, more, faces_left, faces_all, goes.fewer)

  pub joins_faces : (Reaches (face_step next) (2 * s) (2 * s + 1) → ⊥) → (face_count nodes left after + 1 ≡ face_count nodes ends next) × Joined left u v
  joins_faces two =
      let more = faces_stay nodes ends (λ i. true) next is_whole map.ends_in s goes.is_there refl two in
      let one = one_component nodes ends (λ i. true) next is_whole map.ends_in s goes.is_there refl two in (
        omega (arith, more, faces_left, faces_all, goes.fewer),
        joined_from_label nodes left map_left.ends_in u v u_below v_below (label_left u u_below ∙ one ∙ sym (label_left v v_below)),
      )

  pub keeps_components : Joined left u v → component_count nodes left ≡ component_count nodes ends
  keeps_components there =
      let same = label_from_joined nodes left map_left.ends_in u v there in
      components_left
      ∙ components_stay nodes ends (λ i. true) next is_whole map.ends_in s goes.is_there refl (sym (label_left u u_below) ∙ same ∙ label_left v v_below)
      ∙ components_all

  pub splits_a_component : (Joined left u v → ⊥) → component_count nodes left ≡ component_count nodes ends + 1
  splits_a_component apart =
      let more = components_rise nodes ends (λ i. true) next is_whole map.ends_in s goes.is_there refl
      (λ same. apart (joined_from_label nodes left map_left.ends_in u v u_below v_below (label_left u u_below ∙ same ∙ sym (label_left v v_below)))) in
      omega (arith, more, components_left, components_all)

  pub flat_left : MeetsEuler nodes ends next → MeetsEuler nodes left after
  flat_left flat =
      let live : nodes + faces_on nodes ends (λ i. true) next ≡ 2 * component_count nodes (kept (λ i. true) ends) + length ends = omega (arith, flat, faces_all, components_all) in
      flat_part nodes ends left e IsPart-left keep keeps found on after on_is map.ends_in goes.below goes.turns
      (flat_dies nodes ends map.ends_in (λ i. true) next is_whole s goes.is_there refl live)
