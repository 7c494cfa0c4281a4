-- A route between joined nodes that meets no face twice.
use Rattle.std.proofs.Common.{◌≡◌, ◌≢◌, ℕ, zero, suc, ◌*◌, ◌<◌, ◌≤◌, ◌⊎◌, inl, inr, Bool, true, false, not, ◌&&◌, eqb, List, [], ◌∷◌, ◌++◌, length, refl, sym, ◌∙◌, ap, subst, arith}
use Rattle.std.specs.Prelude.{All}
use Rattle.std.proofs.lemmas.Bool.{both_ways, cases_eq, eq-eqb, ne_eqb}
use Rattle.xn_model.specs.Map.{IsMap, WalksTo, face_step, reverse_of, tail_of}
use Rattle.xn_model.specs.Permutation.{iterate}
use Rattle.xn_model.proofs.Darts.{reverse-reverse, reverse_below}
use Rattle.xn_ring.proofs.Orbits.{iterate-step}
use Rattle.xn_loose.specs.Routes.{AreFaceNames, IsSimpleRoute, RouteOf}
use Rattle.xn_loose.specs.Shortest.{RoutesAreThere}

abbrev pub but : (ℕ → Bool) → ℕ → ℕ → Bool
but whole c k = whole k && not (eqb k c)

pub but_other : (whole : ℕ → Bool) (c k : ℕ) → whole k ≡ true → k ≢ c → but whole c k ≡ true
but_other whole c k h other = rw (h, ne_eqb k c other) refl

but_here : (whole : ℕ → Bool) (c : ℕ) → but whole c c ≡ false
but_here whole c = rw (eq-eqb c c refl) (falls (whole c))
  where
    falls : (b : Bool) → (b && false) ≡ false
    falls true = refl
    falls false = refl

module _ (nodes : ℕ) (ends : List (ℕ × ℕ)) (next name : ℕ → ℕ) (map : IsMap nodes ends next) (faces : AreFaceNames ends next name (λ c. true)) where
  abbrev m : ℕ
  m = 2 * length ends

  -- over faces that are whole, perhaps often over one
  abbrev pub Route : (ℕ → Bool) → ℕ → List ℕ → ℕ → Type 0
  Route whole c [] z = (whole c ≡ true) × (name z ≡ c)
  Route whole c (d ∷ ds) z = (whole c ≡ true) × (d < m) × (name d ≡ c) × Route whole (name (reverse_of d)) ds z

  route_then : (c : ℕ) (ds es : List ℕ) (y z : ℕ) → Route (λ k. true) c ds y → Route (λ k. true) (name y) es z → Route (λ k. true) c (ds ++ es) z
  route_then c [] es y z one two = let P : ℕ → Type 0 = λ k. Route (λ w. true) k es z in subst P one.1 two
  route_then c (d ∷ ds) es y z one two = (refl, one.1, one.2, route_then (name (reverse_of d)) ds es y z one.3 two)

  -- round a node each dart is one step further
  name_next : (d : ℕ) → d < m → name (next d) ≡ name (reverse_of d)
  name_next d d_in = ap (λ k. name (next k)) (sym (reverse-reverse d)) ∙ faces.keeps (reverse_of d) (reverse_below (length ends) d d_in)

  round_node : (k a : ℕ) → a < m → (ds : List ℕ) × Route (λ c. true) (name a) ds (iterate next k a)
  round_node zero a a_in = ([], (refl, refl))
  round_node (suc k) a a_in =
      let rest = round_node k (next a) (map.permutes.below a a_in) in
      let P : ℕ → Type 0 = λ c. Route (λ w. true) c rest.0 (iterate next k (next a)) in
      let Q : ℕ → Type 0 = λ w. Route (λ c. true) (name a) (a ∷ rest.0) w in
      (a ∷ rest.0, subst Q (iterate-step next k a) (refl, a_in, refl, subst P (name_next a a_in) rest.1))

  any_route : (darts : List ℕ) (u v a : ℕ) → a < m → tail_of ends a ≡ u → WalksTo ends u darts v → (z : ℕ) × (z < m) × (tail_of ends z ≡ v) × (ds : List ℕ) × Route (λ c. true) (name a) ds z
  any_route [] u v a a_in at walk = (a, a_in, at ∙ walk, [], (refl, refl))
  any_route (d ∷ darts) u v a a_in at walk =
      let there = map.one_ring a d a_in walk.0 (at ∙ sym walk.1) in
      let around = round_node there.0 a a_in in
      let P : ℕ → Type 0 = λ k. Route (λ c. true) (name a) around.0 k in
      let to_d = subst P there.1 around.1 in
      let b = face_step next d in
      let r_in = reverse_below (length ends) d walk.0 in
      let b_in = map.permutes.below (reverse_of d) r_in in
      let rest = any_route darts (tail_of ends (reverse_of d)) v b b_in (map.same_node (reverse_of d) r_in) walk.2 in
      let Q : ℕ → Type 0 = λ c. Route (λ w. true) c rest.3 rest.0 in
      (rest.0, rest.1, rest.2, around.0 ++ rest.3, route_then (name a) around.0 rest.3 d rest.0 to_d (subst Q (faces.keeps d walk.0) rest.4))

  -- from the last time in the face c
  pub record FromLast (whole : ℕ → Bool) (c z : ℕ) (bound : ℕ) : Type 0 where
    pub dart : ℕ
    pub dart_in : dart < m
    pub named : name dart ≡ c
    pub rest : List ℕ
    pub shorter : length rest < bound
    pub route : Route (but whole c) (name (reverse_of dart)) rest z

  last_time : (whole : ℕ → Bool) (c z : ℕ) (ds : List ℕ) (c0 : ℕ) → Route whole c0 ds z → Route (but whole c) c0 ds z ⊎ ((name z ≡ c) ⊎ FromLast whole c z (length ds))
  last_time whole c z [] c0 r = elim (cases_eq c0 c) [
    | inl is ↦ inr (inl (r.1 ∙ is))
    | inr other ↦ inl (but_other whole c c0 r.0 other, r.1)
  ]
  last_time whole c z (d ∷ ds) c0 r = elim (last_time whole c z ds (name (reverse_of d)) r.3) [
    | inr (inl at) ↦ inr (inl at)
    | inr (inr found) ↦ inr (inr (record { dart = found.dart; dart_in = found.dart_in; named = found.named; rest = found.rest; shorter = let low = found.shorter in omega (arith, low); route = found.route }))
    | inl never ↦ elim (cases_eq c0 c) [
      | inl is ↦ inr (inr (record { dart = d; dart_in = r.1; named = r.2 ∙ is; rest = ds; shorter = omega arith; route = never }))
      | inr other ↦ inl (but_other whole c c0 r.0 other, r.1, r.2, never)
    ]
  ]

  abbrev pub Low : List ℕ → Type 0
  Low [] = Unit {0}
  Low (d ∷ ds) = (d < m) × Low ds

  never_there : (whole : ℕ → Bool) (c : ℕ) (ds : List ℕ) (z : ℕ) → Route (but whole c) c ds z → ⊥
  never_there whole c [] z r = both_ways _ (but_here whole c) r.0
  never_there whole c (d ∷ ds) z r = both_ways _ (but_here whole c) r.0

  start_whole : (whole : ℕ → Bool) (c : ℕ) (ds : List ℕ) (z : ℕ) → Route whole c ds z → whole c ≡ true
  start_whole whole c [] z r = r.0
  start_whole whole c (d ∷ ds) z r = r.0

  pub once_each : (fuel : ℕ) (whole : ℕ → Bool) (c z : ℕ) (ds : List ℕ) → length ds ≤ fuel → Route whole c ds z → (es : List ℕ) × Low es × RouteOf name whole c es z × (length es ≤ length ds)
  once_each zero whole c z [] room r = ([], tt, (r.0, r.1), omega arith)
  once_each zero whole c z (d ∷ ds) room r = absurd (omega (arith, room))
  once_each (suc fuel) whole c z ds room r = elim (last_time whole c z ds c r) [
    | inl never ↦ absurd (never_there whole c ds z never)
    | inr (inl at) ↦ ([], tt, (start_whole whole c ds z r, at), omega arith)
    | inr (inr found) ↦
        let low = found.shorter in
        let rest = once_each fuel (but whole c) (name (reverse_of found.dart)) z found.rest (omega (arith, low, room)) found.route in
        let few = rest.3 in
        (found.dart ∷ rest.0, (found.dart_in, rest.1), (start_whole whole c ds z r, found.named, rest.2), omega (arith, few, low))
  ]

  pub all_low : (ds : List ℕ) → Low ds → All (λ d. d < m) ds
  all_low [] low i k i_in = absurd (omega (arith, i_in))
  all_low (d ∷ ds) low zero k i_in = low.0
  all_low (d ∷ ds) low (suc i) k i_in = all_low ds low.1 i k (omega (arith, i_in))

pub routes_are_there : RoutesAreThere
routes_are_there nodes ends next name map faces u v differ joined = go joined.0 joined.1
  where
    go : (darts : List ℕ) → WalksTo ends u darts v → (ds : List ℕ) × IsSimpleRoute ends name u ds v
    go [] walk = absurd (differ walk)
    go (d ∷ darts) walk =
        let r = any_route nodes ends next name map faces (d ∷ darts) u v d walk.0 walk.1 walk in
        let s = once_each nodes ends next name map faces (length r.3) (λ c. true) (name d) r.0 r.3 (omega arith) r.4 in
        (s.0, record { from = d; to = r.0; from_in = walk.0; to_in = r.1; darts_in = all_low nodes ends next name map faces s.0 s.1; at_from = walk.1; at_to = r.2; over = s.2 })
