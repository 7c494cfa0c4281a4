-- A flat map of listed segments under their own numbers, and under those of the web with each other dart alone.
use Rattle.std.proofs.Common.{◌≡◌, ℕ, zero, suc, ◌*◌, ◌+◌, ◌/◌, ◌%◌, ◌==◌, ◌<◌, ◌≤◌, ◌⊎◌, inl, inr, true, false, map, List, length, refl, sym, ap, ◌∙◌, arith}
use Rattle.std.specs.List.{range_with_len}
use Rattle.std.proofs.lemmas.Bool.{both_ways, cases_Bool, cases_lt, eq-eqb, eqb-true}
use Rattle.std.proofs.lemmas.List.{get_or_default, length-map}
use Rattle.std.proofs.lemmas.List.Folds.{list_any_at}
use Rattle.std.proofs.lemmas.List.FromFn.{get_or-range_with_len, length-range_with_len}
use Rattle.std.proofs.Math.ListN.{get_or-map}
use Rattle.xn_model.specs.Graph.{EndsIn, Graph, HasNoLoop}
use Rattle.xn_model.specs.Insertion.{GrowsFromFirst}
use Rattle.xn_model.specs.Lists.{at, has}
use Rattle.xn_model.specs.Map.{IsMap, MeetsEuler, tail_of}
use Rattle.xn_model.specs.Permutation.{Permutes, iterate}
use Rattle.xn_genus.specs.Live.{IsFlatOn, IsMapOn}
use Rattle.xn_genus.specs.Part.{AreSegmentsApart, IsPart, dart_listed, ends_listed}
use Rattle.xn_genus.proofs.Compress.{IsMap-part, components_of_part, faces_of_part, flat_part}
use Rattle.xn_genus.proofs.Listed.{part_listed}
use Rattle.xn_fewer.specs.Flat.{HasFlat}
use Rattle.xn_extend.proofs.Corners.{e_half, size_listed}
use Rattle.xn_extend.proofs.Ending.{apart_from_grows}
use Rattle.xn_extend.proofs.Misfits.{any_at}
use Rattle.xn_extend.proofs.Shown.{Shows, lift, lift_shows}

module _ (web : Graph) (list : List ℕ) (no_loop : HasNoLoop web.ends) (grows : GrowsFromFirst web.ends list) (ends_in : EndsIn web.nodes web.ends) where
  abbrev listed : List (ℕ × ℕ)
  listed = ends_listed web.ends list

  abbrev e : ℕ → ℕ
  e = dart_listed list

  abbrev n : ℕ
  n = 2 * length web.ends

  abbrev m : ℕ
  m = 2 * length listed

  apart : AreSegmentsApart web.ends list
  apart = apart_from_grows web.ends list grows

  size : length listed ≡ length list
  size = size_listed web.ends list apart

  part : IsPart web.ends listed e
  part = part_listed web.ends list apart

  live_dart : (j : ℕ) → j < m → has list (e j / 2) ≡ true
  live_dart j j_in = list_any_at (λ y. y == (e j / 2)) list (j / 2) 0 (omega (arith, j_in, size)) (eq-eqb _ _ (sym (e_half web.ends list apart j)))

  dart_of_live : (d : ℕ) → d < n → has list (d / 2) ≡ true → (j : ℕ) × (j < m) × (e j ≡ d)
  dart_of_live d d_in live =
      let at_i = any_at (λ y. y == (d / 2)) list live in
      let j : ℕ = 2 * at_i.0 + d % 2 in
      let half : j / 2 ≡ at_i.0 = omega arith in
      let bit : j % 2 ≡ d % 2 = omega arith in
      (j, omega (arith, at_i.1, size), omega (arith, ap (at list) half, bit, eqb-true _ _ at_i.2))

  -- ---- from the numbers of the list to those of the web

  module _ (g : ℕ → ℕ) (is : IsMap web.nodes listed g) where
    turns : List ℕ
    turns = map g (range_with_len 0 m)

    at_turns : (j : ℕ) → j < m → at turns j ≡ g j
    unfolding turns
    at_turns j j_in =
        let size : j < length turns = omega (arith, j_in, length-map (range_with_len 0 m) g, length-range_with_len 0 m) in
        let here : at (range_with_len 0 m) j ≡ j = omega (arith, get_or-range_with_len 0 m j 0 j_in) in
        get_or_default turns j 0 (g 0) size ∙ get_or-map g (range_with_len 0 m) j 0 ∙ ap g here

    -- each listed dart leads where it led, and each other dart to itself
    pub carried : ℕ → ℕ
    carried = lift web.ends list apart turns

    shows : Shows web.ends list carried turns
    unfolding carried
    shows = lift_shows web.ends list apart turns

    pub carried_inside : (j : ℕ) → j < m → carried (e j) ≡ e (g j)
    carried_inside j j_in = shows.inside j j_in ∙ ap e (at_turns j j_in)

    alone : (d : ℕ) → d < n → has list (d / 2) ≡ false → carried d ≡ d
    alone d d_in dead = shows.outside d d_in (λ j j_in same. both_ways _ dead (ap (λ x. has list (x / 2)) (sym same) ∙ live_dart j j_in))

    g_in : (j : ℕ) → j < m → g j < m
    g_in = is.permutes.below

    -- a dart is listed, or alone
    abbrev Stands : ℕ → Type 0
    Stands d = ((j : ℕ) × (j < m) × (e j ≡ d)) ⊎ (has list (d / 2) ≡ false)

    stands : (d : ℕ) → d < n → Stands d
    stands d d_in = elim (cases_Bool (has list (d / 2))) [ inl live ↦ inl (dart_of_live d d_in live) | inr dead ↦ inr dead ]

    leads : (d j : ℕ) → j < m → e j ≡ d → carried d ≡ e (g j)
    leads d j j_in same = ap carried (sym same) ∙ carried_inside j j_in

    -- no listed dart leads to one that is alone
    never : (d j : ℕ) → j < m → has list (d / 2) ≡ false → e j ≡ d → ⊥
    never d j j_in dead same = both_ways _ dead (ap (λ x. has list (x / 2)) (sym same) ∙ live_dart j j_in)

    carried_permutes : Permutes n carried
    carried_permutes = record {
      below = λ d d_in. elim (stands d d_in) [
        | inl listed_dart ↦ let low = part.below (g listed_dart.0) (g_in listed_dart.0 listed_dart.1) in omega (arith, low, leads d listed_dart.0 listed_dart.1 listed_dart.2)
        | inr dead ↦ omega (arith, d_in, alone d d_in dead)
      ];
      apart = λ c d c_in d_in same. elim (stands c c_in) [
        | inl first ↦
            let i = first.0 in
            let from = leads c i first.1 first.2 in
            elim (stands d d_in) [
              | inl second ↦
                  let j = second.0 in
                  let one : g i ≡ g j = part.apart (g i) (g j) (g_in i first.1) (g_in j second.1) (sym from ∙ same ∙ leads d j second.1 second.2) in
                  sym first.2 ∙ ap e (is.permutes.apart i j first.1 second.1 one) ∙ second.2
              | inr dead ↦ absurd (never d (g i) (g_in i first.1) dead (sym from ∙ same ∙ alone d d_in dead))
            ]
        | inr dead ↦ elim (stands d d_in) [
          | inl second ↦ absurd (never c (g second.0) (g_in second.0 second.1) dead (sym (leads d second.0 second.1 second.2) ∙ sym same ∙ alone c c_in dead))
          | inr too ↦ sym (alone c c_in dead) ∙ same ∙ alone d d_in too
        ]
      ];
    }

    walks : (k i : ℕ) → i < m → (iterate g k i < m) × (iterate carried k (e i) ≡ e (iterate g k i))
    walks zero i i_in = (i_in, refl)
    walks (suc k) i i_in =
        let before = walks k i i_in in
        (g_in (iterate g k i) before.0, ap carried before.1 ∙ carried_inside (iterate g k i) before.0)

    tail_is : (d j : ℕ) → j < m → e j ≡ d → tail_of listed j ≡ tail_of web.ends d
    tail_is d j j_in same = part.tails j j_in ∙ ap (tail_of web.ends) same

    pub carried_map : IsMapOn web.ends (has list) carried
    carried_map = record {
      permutes = carried_permutes;
      same_node = λ d d_in. elim (stands d d_in) [
        | inl listed_dart ↦
            let j = listed_dart.0 in
            ap (tail_of web.ends) (leads d j listed_dart.1 listed_dart.2) ∙ sym (part.tails (g j) (g_in j listed_dart.1)) ∙ is.same_node j listed_dart.1
            ∙ tail_is d j listed_dart.1 listed_dart.2
        | inr dead ↦ ap (tail_of web.ends) (alone d d_in dead)
      ];
      dead = alone;
      one_ring = λ c d c_in d_in c_live d_live tails.
          let first = dart_of_live c c_in c_live in
          let second = dart_of_live d d_in d_live in
          let there = is.one_ring first.0 second.0 first.1 second.1 (tail_is c first.0 first.1 first.2 ∙ tails ∙ sym (tail_is d second.0 second.1 second.2)) in
          (there.0, ap (iterate carried there.0) (sym first.2) ∙ (walks there.0 first.0 first.1).1 ∙ ap e there.1 ∙ second.2);
    }

    pub carried_flat : MeetsEuler web.nodes listed g → IsFlatOn web.nodes web.ends (has list) carried
    carried_flat flat =
        let step : (j : ℕ) → j < m → e (g j) ≡ carried (e j) = λ j j_in. sym (carried_inside j j_in) in
        let faces = faces_of_part web.nodes web.ends listed e part (has list) live_dart dart_of_live carried g carried_map ends_in g_in step in
        let parts = components_of_part web.nodes web.ends listed e part (has list) live_dart dart_of_live carried g carried_map ends_in g_in step in
        omega (arith, flat, faces, parts)

  -- ---- from the numbers of the web to those of the list

  module _ (last : ℕ → ℕ) (on : IsMapOn web.ends (has list) last) where
    stays_live : (d : ℕ) → d < n → has list (d / 2) ≡ true → has list (last d / 2) ≡ true
    stays_live d d_in live = elim (cases_Bool (has list (last d / 2))) [
      | inl still ↦ still
      | inr dead ↦
          let low = on.permutes.below d d_in in
          let same : last d ≡ d = on.permutes.apart (last d) d low d_in (on.dead (last d) low dead) in
          absurd (both_ways _ (ap (λ x. has list (x / 2)) (sym same) ∙ dead) live)
    ]

    -- the place of what follows the dart at a place
    Follows : ℕ → ℕ → Type 0
    Follows j i = (i < m) × (e i ≡ last (e j))

    follower : (j : ℕ) → j < m → (i : ℕ) × Follows j i
    unfolding Follows
    follower j j_in =
        let d_in = part.below j j_in in
        let there = dart_of_live (last (e j)) (on.permutes.below (e j) d_in) (stays_live (e j) d_in (live_dart j j_in)) in
        (there.0, (there.1, there.2))

    own_by : (j : ℕ) → (j < m) ⊎ (m ≤ j) → ℕ
    own_by j (inl below) = (follower j below).0
    own_by j (inr past) = 0

    own : ℕ → ℕ
    own j = own_by j (cases_lt j m)

    own_by_follows : (j : ℕ) (h : (j < m) ⊎ (m ≤ j)) → j < m → Follows j (own_by j h)
    unfolding own_by
    own_by_follows j (inl below) j_in = (follower j below).1
    own_by_follows j (inr past) j_in = absurd (omega (arith, past, j_in))

    own_follows : (j : ℕ) → j < m → Follows j (own j)
    unfolding own
    own_follows j j_in = own_by_follows j (cases_lt j m) j_in

    own_in : (j : ℕ) → j < m → own j < m
    unfolding Follows
    own_in j j_in = (own_follows j j_in).0

    own_step : (j : ℕ) → j < m → e (own j) ≡ last (e j)
    unfolding Follows
    own_step j j_in = (own_follows j j_in).1

    pub own_flat : IsFlatOn web.nodes web.ends (has list) last → HasFlat web.nodes listed
    own_flat flat = record {
      next = own;
      is_map = IsMap-part web.nodes web.ends listed e part (has list) live_dart dart_of_live last own on ends_in own_in own_step;
      flat = flat_part web.nodes web.ends listed e part (has list) live_dart dart_of_live last own on ends_in own_in own_step flat;
    }
