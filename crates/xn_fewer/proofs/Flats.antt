-- Flat maps of webs that are left, named otherwise, or have a segment more.
use Rattle.std.proofs.Common.{◌≡◌, ◌≢◌, ℕ, suc, ◌+◌, ◌-◌, ◌*◌, ◌/◌, ◌%◌, ◌<◌, ◌⊎◌, inl, inr, Bool, true, ◌&&◌, cond, eqb, List, [], ◌∷◌, ◌++◌, length, map, refl, sym, ◌∙◌, ap, ap₂, subst, arith}
use Rattle.std.proofs.lemmas.Bool.{and_from, and_parts, both_ways, cases_Bool, cases_eq, eqb-true, cond-true, cond-false, eq-eqb, ne_eqb}
use Rattle.xn_model.specs.Graph.{EndsIn, ends_at}
use Rattle.xn_model.specs.Map.{MeetsEuler, IsMap, Joined, face_step, is_lone, reverse_of, tail_of}
use Rattle.xn_model.specs.Permutation.{Permutes, Reaches}
use Rattle.xn_model.proofs.Darts.{cases_dart, reverse-even, reverse-odd, tail-even, tail-odd}
use Rattle.xn_ring.proofs.Orbits.{reaches_back, source_of}
use Rattle.xn_genus.specs.Part.{IsPart}
use Rattle.xn_genus.specs.Renumbering.{IsNodeRemoval, IsNodeRenumbering}
use Rattle.xn_genus.proofs.Compress.{tail_in}
use Rattle.xn_genus.proofs.Counts.{Permutes-face}
use Rattle.xn_genus.proofs.Lone.{dart_if_not_lone, no_dart_if_lone}
use Rattle.xn_genus.proofs.Nodes.{components_fewer, components_more, components_of_nodes, faces_fewer, faces_of_nodes, lone_from, lone_more, map_fewer, map_of_nodes}
use Rattle.xn_genus.proofs.Nodes.{map_more as map_more_nodes}
use Rattle.xn_genus.proofs.Part.{flat_of_part, map_of_part, passes_over}
use Rattle.xn_surgery.specs.Corners.{Corner, InOneFace, IsCornerOf, after, lone, node_of, stand_at}
use Rattle.xn_surgery.specs.Insertion.{IsInsertion}
use Rattle.xn_surgery.proofs.Insert.{map_more}
use Rattle.xn_surgery.proofs.InsertFlat.{insertion_flat}
use Rattle.xn_fewer.specs.Flat.{BridgeStaysFlat, HasFlat, IsSelection, LoneNodeComesFlat, OtherNamesStayFlat, ParallelStaysFlat, SomeSegmentsStayFlat, both, called, merged}
use Rattle.xn_fewer.proofs.Lists.{cases_called, cases_exchanged, exchanged, length-both, tail_both}

-- ---- some segments

-- a part with any numbers
pub part_flat : (nodes : ℕ) (ends part : List (ℕ × ℕ)) (e : ℕ → ℕ) → IsPart ends part e → HasFlat nodes ends → HasFlat nodes part
part_flat nodes ends part e is has =
    let over = passes_over nodes ends part e has.next has.is_map is in
    record {
      next = over.0;
      is_map = map_of_part nodes ends part e has.next has.is_map is over.0 over.1;
      flat = flat_of_part nodes ends part e has.next has.is_map is over.0 over.1 has.flat;
    }

-- the darts of a choice: where a segment is turned, its darts change places
module _ (ends part : List (ℕ × ℕ)) (σ : ℕ → ℕ) (is : IsSelection ends part σ) where
  abbrev straight : ℕ → Bool
  straight i = eqb (ends_at part i).0 (ends_at ends (σ i)).0 && eqb (ends_at part i).1 (ends_at ends (σ i)).1

  abbrev bit : ℕ → ℕ → ℕ
  bit i b = cond (straight i) b (1 - b)

  abbrev dart : ℕ → ℕ
  dart j = 2 * σ (j / 2) + bit (j / 2) (j % 2)

  cases_bit : (i : ℕ) → i < length part →
      ((((ends_at part i).0 ≡ (ends_at ends (σ i)).0) × ((ends_at part i).1 ≡ (ends_at ends (σ i)).1)) × ((b : ℕ) → bit i b ≡ b))
      ⊎ ((((ends_at part i).0 ≡ (ends_at ends (σ i)).1) × ((ends_at part i).1 ≡ (ends_at ends (σ i)).0)) × ((b : ℕ) → bit i b ≡ 1 - b))
  cases_bit i i_in = elim (cases_Bool (straight i)) [
    | inl aligned ↦
        let two : (eqb (ends_at part i).0 (ends_at ends (σ i)).0 ≡ true) × (eqb (ends_at part i).1 (ends_at ends (σ i)).1 ≡ true) = and_parts _ _ aligned in
        inl ((eqb-true _ _ two.0, eqb-true _ _ two.1), λ b. cond-true _ _ _ aligned)
    | inr turned ↦ elim (is.same i i_in) [
      | inl same ↦ absurd (both_ways _ turned (and_from _ _ (eq-eqb _ _ same.0) (eq-eqb _ _ same.1)))
      | inr other ↦ inr (other, λ b. cond-false _ _ _ turned)
    ]
  ]

  even_dart : (i : ℕ) → dart (2 * i) ≡ 2 * σ i + bit i 0
  even_dart i =
      let half : (2 * i) / 2 ≡ i = omega arith in
      let rest : (2 * i) % 2 ≡ 0 = omega arith in
      ap (λ k. 2 * σ k + bit k ((2 * i) % 2)) half ∙ ap (λ b. 2 * σ i + bit i b) rest

  odd_dart : (i : ℕ) → dart (2 * i + 1) ≡ 2 * σ i + bit i 1
  odd_dart i =
      let half : (2 * i + 1) / 2 ≡ i = omega arith in
      let rest : (2 * i + 1) % 2 ≡ 1 = omega arith in
      ap (λ k. 2 * σ k + bit k ((2 * i + 1) % 2)) half ∙ ap (λ b. 2 * σ i + bit i b) rest

  -- the number of a dart: twice its segment, and 0 or 1
  number : (j : ℕ) → j < 2 * length part → (b : ℕ) × (b < 2) × (dart j ≡ 2 * σ (j / 2) + b)
  number j j_in =
      let c = cases_dart j in
      let i_in : c.0 < length part = omega (arith, c.1, j_in) in
      let half : j / 2 ≡ c.0 = omega (arith, c.1) in
      elim (cases_bit (j / 2) (omega (arith, j_in))) [
        | inl as_is ↦ (j % 2, omega arith, ap (λ b. 2 * σ (j / 2) + b) (as_is.1 (j % 2)))
        | inr turned ↦ (1 - j % 2, omega arith, ap (λ b. 2 * σ (j / 2) + b) (turned.1 (j % 2)))
      ]

  both_numbers : (i : ℕ) → i < length part → ((dart (2 * i) ≡ 2 * σ i) × (dart (2 * i + 1) ≡ 2 * σ i + 1) × ((ends_at part i).0 ≡ (ends_at ends (σ i)).0) ×
      ((ends_at part i).1 ≡ (ends_at ends (σ i)).1))
      ⊎ ((dart (2 * i) ≡ 2 * σ i + 1) × (dart (2 * i + 1) ≡ 2 * σ i) × ((ends_at part i).0 ≡ (ends_at ends (σ i)).1) × ((ends_at part i).1 ≡ (ends_at ends (σ i)).0))
  both_numbers i i_in = elim (cases_bit i i_in) [
    | inl as_is ↦ inl (omega (arith, even_dart i, as_is.1 0), omega (arith, odd_dart i, as_is.1 1), as_is.0.0, as_is.0.1)
    | inr turned ↦ inr (omega (arith, even_dart i, turned.1 0), omega (arith, odd_dart i, turned.1 1), turned.0.0, turned.0.1)
  ]

  dart_reverse : (j : ℕ) → j < 2 * length part → dart (reverse_of j) ≡ reverse_of (dart j)
  dart_reverse j j_in =
      let c = cases_dart j in
      let i_in : c.0 < length part = omega (arith, c.1, j_in) in
      let t = σ c.0 in
      elim c.1 [
        | inl even ↦ ap dart (ap reverse_of even ∙ reverse-even c.0) ∙ elim (both_numbers c.0 i_in) [
          | inl as_is ↦ as_is.1 ∙ sym (reverse-even t) ∙ ap reverse_of (sym (ap dart even ∙ as_is.0))
          | inr turned ↦ turned.1 ∙ sym (reverse-odd t) ∙ ap reverse_of (sym (ap dart even ∙ turned.0))
        ]
        | inr odd ↦ ap dart (ap reverse_of odd ∙ reverse-odd c.0) ∙ elim (both_numbers c.0 i_in) [
          | inl as_is ↦ as_is.0 ∙ sym (reverse-odd t) ∙ ap reverse_of (sym (ap dart odd ∙ as_is.1))
          | inr turned ↦ turned.0 ∙ sym (reverse-even t) ∙ ap reverse_of (sym (ap dart odd ∙ turned.1))
        ]
      ]

  dart_tail : (j : ℕ) → j < 2 * length part → tail_of part j ≡ tail_of ends (dart j)
  dart_tail j j_in =
      let c = cases_dart j in
      let i_in : c.0 < length part = omega (arith, c.1, j_in) in
      let t = σ c.0 in
      elim c.1 [
        | inl even ↦ ap (tail_of part) even ∙ tail-even part c.0 ∙ elim (both_numbers c.0 i_in) [
          | inl as_is ↦ as_is.2 ∙ sym (tail-even ends t) ∙ ap (tail_of ends) (sym (ap dart even ∙ as_is.0))
          | inr turned ↦ turned.2 ∙ sym (tail-odd ends t) ∙ ap (tail_of ends) (sym (ap dart even ∙ turned.0))
        ]
        | inr odd ↦ ap (tail_of part) odd ∙ tail-odd part c.0 ∙ elim (both_numbers c.0 i_in) [
          | inl as_is ↦ as_is.3 ∙ sym (tail-odd ends t) ∙ ap (tail_of ends) (sym (ap dart odd ∙ as_is.1))
          | inr turned ↦ turned.3 ∙ sym (tail-even ends t) ∙ ap (tail_of ends) (sym (ap dart odd ∙ turned.1))
        ]
      ]

  is_part : IsPart ends part dart
  is_part = record {
    below = λ j j_in. let low = is.below (j / 2) (omega (arith, j_in)) in let one = number j j_in in omega (arith, low, one.1, one.2);
    apart = λ i j i_in j_in same.
        let one = number i i_in in
        let two = number j j_in in
        let segments : σ (i / 2) ≡ σ (j / 2) = omega (arith, same, one.1, one.2, two.1, two.2) in
        let halves : i / 2 ≡ j / 2 = is.apart (i / 2) (j / 2) (omega (arith, i_in)) (omega (arith, j_in)) segments in
        alike i j i_in j_in halves same;
    reverses = dart_reverse;
    tails = dart_tail;
  }
    where
      alike : (i j : ℕ) → i < 2 * length part → j < 2 * length part → i / 2 ≡ j / 2 → dart i ≡ dart j → i ≡ j
      alike i j i_in j_in halves same =
          let c = cases_dart i in
          let k_in : c.0 < length part = omega (arith, c.1, i_in) in
          let e = cases_dart j in
          let k_same : e.0 ≡ c.0 = omega (arith, c.1, e.1, halves) in
          elim (cases_eq i j) [
            | inl equal ↦ equal
            | inr other ↦
                let two : ((i ≡ 2 * c.0) × (j ≡ 2 * c.0 + 1)) ⊎ ((i ≡ 2 * c.0 + 1) × (j ≡ 2 * c.0)) = elim c.1 [
                  | inl even ↦ inl (even, omega (arith, even, e.1, k_same, other))
                  | inr odd ↦ inr (odd, omega (arith, odd, e.1, k_same, other))
                ] in
                absurd (elim two [
                  | inl up ↦ omega (arith, both_numbers c.0 k_in, sym (ap dart up.0) ∙ same ∙ ap dart up.1)
                  | inr down ↦ omega (arith, both_numbers c.0 k_in, sym (ap dart down.1) ∙ sym same ∙ ap dart down.0)
                ])
          ]

pub some_flat : SomeSegmentsStayFlat
some_flat nodes ends part σ is has = part_flat nodes ends part (dart ends part σ is) (is_part ends part σ is) has

-- segments that aren't turned
pub record IsPicked (ends part : List (ℕ × ℕ)) (σ : ℕ → ℕ) : Type 0 where
  pub below : (i : ℕ) → i < length part → σ i < length ends
  pub apart : (i j : ℕ) → i < length part → j < length part → σ i ≡ σ j → i ≡ j
  pub same : (i : ℕ) → i < length part → ends_at part i ≡ ends_at ends (σ i)

pub picked_flat : (ends part : List (ℕ × ℕ)) (σ : ℕ → ℕ) → IsPicked ends part σ → (nodes : ℕ) → HasFlat nodes ends → HasFlat nodes part
picked_flat ends part σ is nodes has =
    some_flat nodes ends part σ (record { below = is.below; apart = is.apart; same = λ i i_in. let e = is.same i i_in in inl (ap (λ p. p.0) e, ap (λ p. p.1) e) }) has

-- ---- other names

renumbered_flat : (nodes : ℕ) (ends renumbered : List (ℕ × ℕ)) (k : ℕ → ℕ) → IsNodeRenumbering nodes ends renumbered k → HasFlat nodes ends → HasFlat nodes renumbered
renumbered_flat nodes ends renumbered k is has = record {
  next = has.next;
  is_map = map_of_nodes nodes ends renumbered k has.next has.is_map is;
  flat = omega (arith, has.flat, is.all, faces_of_nodes nodes ends renumbered k has.next has.is_map is, components_of_nodes nodes ends renumbered k has.next has.is_map is);
}

pub named_flat : OtherNamesStayFlat
named_flat nodes ends m permutes has =
    renumbered_flat nodes ends (map (both m) ends) m (record { numbers = permutes; all = length-both m ends; tails = tail_both m ends }) has

pub Permutes-exchanged : (nodes v w : ℕ) → v < nodes → w < nodes → Permutes nodes (exchanged v w)
Permutes-exchanged nodes v w v_in w_in = record {
  below = λ x x_in. omega (arith, x_in, v_in, w_in, cases_exchanged v w x);
  apart = λ x y x_in y_in same. omega (arith, same, cases_exchanged v w x, cases_exchanged v w y);
}

-- ---- nodes without darts

pub more_flat : (nodes : ℕ) (ends : List (ℕ × ℕ)) → HasFlat nodes ends → HasFlat (suc nodes) ends
more_flat nodes ends has = record {
  next = has.next;
  is_map = map_more_nodes nodes ends has.is_map.ends_in has.next has.is_map;
  flat = omega (arith, has.flat, lone_more nodes ends has.is_map.ends_in, components_more nodes ends has.is_map.ends_in);
}

-- the last node is lone and goes
pub fewer_flat : (nodes : ℕ) (ends : List (ℕ × ℕ)) → EndsIn nodes ends → HasFlat (suc nodes) ends → HasFlat nodes ends
fewer_flat nodes ends ends_in has =
    let not_last : (d : ℕ) → d < 2 * length ends → tail_of ends d ≢ nodes = λ d d_in at. let low = tail_in nodes ends ends_in d d_in in omega (arith, low, at) in
    let goes : IsNodeRemoval nodes nodes ends ends = record {
      is_there = omega arith;
      lone = lone_from ends nodes not_last;
      all = refl;
      tails = λ d d_in. sym (cond-false _ _ _ (ne_eqb (tail_of ends d) nodes (not_last d d_in)));
    } in
    record {
      next = has.next;
      is_map = map_fewer nodes nodes ends ends has.next has.is_map goes;
      flat = omega (arith, has.flat, faces_fewer nodes nodes ends ends has.next has.is_map goes, components_fewer nodes nodes ends ends has.next has.is_map goes);
    }

pub lone_comes_flat : LoneNodeComesFlat
lone_comes_flat rest v ends low ends_in alone has =
    let old = merged v rest ends in
    renumbered_flat (suc rest) old ends (exchanged v rest) (record {
      numbers = Permutes-exchanged (suc rest) v rest (omega (arith, low)) (omega arith);
      all = sym (length-both (called v rest) ends);
      tails = λ d d_in.
          let d_old : d < 2 * length ends = omega (arith, d_in, length-both (called v rest) ends) in
          let is = tail_both (called v rest) ends d d_old in
          let other = no_dart_if_lone ends v alone d d_old in
          omega (arith, is, other, cases_called v rest (tail_of ends d), cases_exchanged v rest (tail_of old d));
    }) (more_flat rest old has)

-- ---- a segment more

-- some corner of the node
corner_at : (nodes : ℕ) (ends : List (ℕ × ℕ)) (v : ℕ) → v < nodes → (c : Corner) × IsCornerOf nodes ends c × (node_of ends c ≡ v)
corner_at nodes ends v v_in = elim (cases_Bool (is_lone ends v)) [
  | inl alone ↦ (lone v, (v_in, alone), refl)
  | inr some ↦ let d = dart_if_not_lone ends v some in (after d.0, d.1, d.2)
]

pub inserted_flat : (nodes : ℕ) (ends : List (ℕ × ℕ)) (next : ℕ → ℕ) (a b : Corner) (u v : ℕ) → IsMap nodes ends next → MeetsEuler nodes ends next → IsCornerOf nodes ends a → IsCornerOf nodes ends b →
    node_of ends a ≡ u → node_of ends b ≡ v → u ≢ v →
    (InOneFace next a b ⊎ (Joined ends u v → ⊥)) → HasFlat nodes (ends ++ (u, v) ∷ [])
inserted_flat nodes ends next a b u v is_map flat a_in b_in a_at b_at other where_to =
    let more = ends ++ (u, v) ∷ [] in
    let turns = λ (y : ℕ). stand_at a (2 * length ends) (stand_at b (2 * length ends + 1) next) y in
    let comes : IsInsertion nodes ends next a b more turns = record {
      first = a_in;
      second = b_in;
      two_nodes = λ same. other (sym a_at ∙ same ∙ b_at);
      ends_more = ap₂ (λ x y. ends ++ (x, y) ∷ []) (sym a_at) (sym b_at);
      turns = λ y y_in. refl;
    } in
    record {
      next = turns;
      is_map = map_more nodes ends more a b next turns is_map comes;
      flat = insertion_flat nodes ends more a b next turns is_map comes (elim where_to [
        | inl face ↦ inl face
        | inr apart ↦ inr (λ joined.
            let P : ℕ → Type 0 = λ x. Joined ends x v in
            let Q : ℕ → Type 0 = λ y. Joined ends (node_of ends a) y in
            apart (subst P a_at (subst Q b_at joined)))
      ]) flat;
    }

pub bridge_flat : BridgeStaysFlat
bridge_flat nodes x y ends x_in y_in apart has =
    let a = corner_at nodes ends x x_in in
    let b = corner_at nodes ends y y_in in
    inserted_flat nodes ends has.next a.0 b.0 x y has.is_map has.flat a.1 b.1 a.2 b.2 (λ same. apart ([], same)) (inr apart)

pub parallel_flat : ParallelStaysFlat
parallel_flat nodes s ends s_in other has =
    let n = 2 * length ends in
    let d = 2 * s in
    let r = 2 * s + 1 in
    let d_in : d < n = omega (arith, s_in) in
    let r_in : r < n = omega (arith, s_in) in
    let before = source_of n has.next has.is_map.permutes r r_in in
    let one : face_step has.next r ≡ has.next d = ap has.next (reverse-odd s) in
    let face : Reaches (face_step has.next) (has.next d) (has.next before.0) =
    subst (Reaches (face_step has.next) (has.next d)) (sym before.2) (reaches_back n (face_step has.next) (Permutes-face (length ends) has.next has.is_map.permutes) r (has.next d) r_in (1, one)) in
    inserted_flat nodes ends has.next (after d) (after before.0) (ends_at ends s).0 (ends_at ends s).1 has.is_map has.flat d_in before.1 (tail-even ends s)
    (sym (has.is_map.same_node before.0 before.1) ∙ ap (tail_of ends) before.2 ∙ tail-odd ends s) other (inl face)
