-- Routes by names are routes, a least one meets no face twice, and joined nodes have one.
use Rattle.std.proofs.Common.{◌≡◌, ℕ, zero, suc, ◌*◌, ◌+◌, ◌<◌, ◌≤◌, inl, inr, Bool, true, not, ◌&&◌, eqb, List, [], ◌∷◌, length, refl, sym, ◌∙◌, ap, subst, arith}
use Rattle.std.specs.Prelude.{All}
use Rattle.std.proofs.lemmas.Bool.{and_from, and_parts, both_ways, cases_lt, eq-eqb, eqb-true}
use Rattle.xn_model.specs.Loose.{CrossesTo, IsLoose, IsRoute, IsRouteLength}
use Rattle.xn_model.specs.Map.{IsMap, face_step, reverse_of, tail_of}
use Rattle.xn_model.specs.Permutation.{Reaches, iterate}
use Rattle.xn_model.proofs.Darts.{reverse_below}
use Rattle.xn_ring.proofs.Orbits.{first_below}
use Rattle.xn_genus.proofs.Tests.{some_below, some_below-from, some_below-to}
use Rattle.xn_loose.specs.Routes.{AreFaceNames, IsSimpleRoute, RouteOf}
use Rattle.xn_loose.specs.Shortest.{EdgesComeInByLeastRoutes, LeastRoutesAreSimple, RouteLengthsAreThere, RoutesBecomeSimple, SimpleRoutesAreRoutes}
use Rattle.xn_loose.proofs.IntoLoose.{edges_come_into_loose_drawings}
use Rattle.xn_loose.proofs.RoutesThere.{Low, Route, all_low, but, but_other, once_each, routes_are_there}
use Rattle.xn_loose.proofs.Within.{faces_have_names}

module _ (nodes : ℕ) (ends : List (ℕ × ℕ)) (next name : ℕ → ℕ) (map : IsMap nodes ends next) (faces : AreFaceNames ends next name (λ c. true)) where
  abbrev m : ℕ
  m = 2 * length ends

  abbrev R : (ℕ → Bool) → ℕ → List ℕ → ℕ → Type 0
  R = Route nodes ends next name map faces

  -- ---- routes by faces and by their names

  pub name_along : (k a : ℕ) → a < m → (iterate (face_step next) k a < m) × (name (iterate (face_step next) k a) ≡ name a)
  name_along zero a a_in = (a_in, refl)
  name_along (suc k) a a_in =
      let rest = name_along k a a_in in
      let b = iterate (face_step next) k a in
      (map.permutes.below (reverse_of b) (reverse_below (length ends) b rest.0), faces.keeps b rest.0 ∙ rest.1)

  pub same_name : (a d : ℕ) → a < m → Reaches (face_step next) a d → name d ≡ name a
  same_name a d a_in there = ap name (sym there.1) ∙ (name_along there.0 a a_in).1

  pub crosses_by_names : (ds : List ℕ) (a v : ℕ) → a < m → CrossesTo ends next a ds v → (z : ℕ) × (z < m) × (tail_of ends z ≡ v) × R (λ c. true) (name a) ds z
  crosses_by_names [] a v a_in c = (c.0, c.1, c.2, (refl, same_name a c.0 a_in c.3))
  crosses_by_names (d ∷ ds) a v a_in c =
      let rest = crosses_by_names ds (reverse_of d) v (reverse_below (length ends) d c.0) c.2 in
      (rest.0, rest.1, rest.2, (refl, c.0, same_name a d a_in c.1, rest.3))

  pub by_names_crosses : (ds : List ℕ) (a c z v : ℕ) → a < m → z < m → tail_of ends z ≡ v → name a ≡ c → R (λ k. true) c ds z → CrossesTo ends next a ds v
  by_names_crosses [] a c z v a_in z_in at named r = (z, z_in, at, faces.one a z a_in z_in refl (named ∙ sym r.1))
  by_names_crosses (d ∷ ds) a c z v a_in z_in at named r = (
    r.1,
    faces.one a d a_in r.1 refl (named ∙ sym r.2),
    by_names_crosses ds (reverse_of d) (name (reverse_of d)) z v (reverse_below (length ends) d r.1) z_in at refl r.3,
  )

  plain : (ds : List ℕ) (whole : ℕ → Bool) (c z : ℕ) → All (λ d. d < m) ds → RouteOf name whole c ds z → R (λ k. true) c ds z
  plain [] whole c z low r = (refl, r.1)
  plain (d ∷ ds) whole c z low r =
      (refl, low 0 d (omega arith), r.1, plain ds (λ k. whole k && not (eqb k c)) (name (reverse_of d)) z (λ i k i_in. low (suc i) k (omega (arith, i_in))) r.2)

  pub simple_crosses : (u v : ℕ) (ds : List ℕ) → IsSimpleRoute ends name u ds v → IsRoute ends next u ds v
  simple_crosses u v ds s =
      (s.from, s.from_in, s.at_from, by_names_crosses ds s.from (name s.from) s.to v s.from_in s.to_in s.at_to refl (plain ds (λ c. true) (name s.from) s.to s.darts_in s.over))

  -- ---- a least route

  any_faces : (whole : ℕ → Bool) (ds : List ℕ) (c z : ℕ) → R whole c ds z → R (λ k. true) c ds z
  any_faces whole [] c z r = (refl, r.1)
  any_faces whole (d ∷ ds) c z r = (refl, r.1, r.2, any_faces whole ds (name (reverse_of d)) z r.3)

  -- where no route from the face k is as short, the route doesn't meet it
  avoids : (whole : ℕ → Bool) (k z : ℕ) (ds : List ℕ) (c : ℕ) → R whole c ds z → ((es : List ℕ) → length es ≤ length ds → R (λ w. true) k es z → ⊥) → R (but whole k) c ds z
  avoids whole k z [] c r none = (but_other whole k c r.0 (λ same. none [] (omega arith) (refl, r.1 ∙ same)), r.1)
  avoids whole k z (d ∷ ds) c r none = (
    but_other whole k c r.0 (λ same. none (d ∷ ds) (omega arith) (refl, r.1, r.2 ∙ same, any_faces whole ds (name (reverse_of d)) z r.3)),
    r.1,
    r.2,
    avoids whole k z ds (name (reverse_of d)) r.3 (λ es low route. none es (omega (arith, low)) route),
  )

  pub least_once : (whole : ℕ → Bool) (c z : ℕ) (ds : List ℕ) → R whole c ds z → ((es : List ℕ) → R (λ w. true) c es z → length ds ≤ length es) → RouteOf name whole c ds z
  least_once whole c z [] r least = (r.0, r.1)
  least_once whole c z (d ∷ ds) r least = (
    r.0,
    r.2,
    least_once (but whole c) (name (reverse_of d)) z ds (avoids whole c z ds (name (reverse_of d)) r.3 (λ es low route. let long = least es route in omega (arith, low, long)))
        (λ es route. let long = least (d ∷ es) (refl, r.1, r.2, route) in omega (arith, long)),
  )

  pub route_low : (whole : ℕ → Bool) (ds : List ℕ) (c z : ℕ) → R whole c ds z → Low nodes ends next name map faces ds
  route_low whole [] c z r = tt
  route_low whole (d ∷ ds) c z r = (r.1, route_low whole ds (name (reverse_of d)) z r.3)

  pub least_simple : (u v r : ℕ) (ds : List ℕ) → IsRouteLength ends next u v r → IsRoute ends next u ds v → length ds ≡ r → IsSimpleRoute ends name u ds v
  least_simple u v r ds least route long =
      let c = crosses_by_names ds route.0 v route.1 route.3 in
      record {
        from = route.0;
        to = c.0;
        from_in = route.1;
        to_in = c.1;
        darts_in = all_low nodes ends next name map faces ds (route_low (λ k. true) ds (name route.0) c.0 c.3);
        at_from = route.2;
        at_to = c.2;
        over = least_once (λ k. true) (name route.0) c.0 ds c.3 (λ es other.
            let low = least.least es (route.0, route.1, route.2, by_names_crosses es route.0 (name route.0) c.0 v route.1 c.1 c.2 refl other) in
            omega (arith, low, long));
      }

  pub shortened : (u v : ℕ) (ds : List ℕ) → IsRoute ends next u ds v → (es : List ℕ) × IsSimpleRoute ends name u es v × (length es ≤ length ds)
  shortened u v ds r =
      let c = crosses_by_names ds r.0 v r.1 r.3 in
      let s = once_each nodes ends next name map faces (length ds) (λ k. true) (name r.0) c.0 ds (omega arith) c.3 in (
        s.0,
        record { from = r.0; to = c.0; from_in = r.1; to_in = c.1; darts_in = all_low nodes ends next name map faces s.0 s.1; at_from = r.2; at_to = c.2; over = s.2 },
        s.3,
      )

  -- ---- the least length

  module _ (u v : ℕ) where
    -- from the face of d over k segments to a face with a corner of v
    abbrev near : ℕ → ℕ → Bool
    near zero d = some_below (2 * length ends) (λ z. eqb (tail_of ends z) v && eqb (name z) (name d))
    near (suc k) d = some_below (2 * length ends) (λ x. eqb (name x) (name d) && near k (reverse_of x))

    near_to : (k d : ℕ) → near k d ≡ true → (ds : List ℕ) × (z : ℕ) × (length ds ≡ k) × (z < m) × (tail_of ends z ≡ v) × R (λ c. true) (name d) ds z
    near_to zero d h =
        let f = some_below-to (2 * length ends) (λ z. eqb (tail_of ends z) v && eqb (name z) (name d)) h in
        let both : (eqb (tail_of ends f.0) v ≡ true) × (eqb (name f.0) (name d) ≡ true) = and_parts _ _ f.2 in
        ([], f.0, refl, f.1, eqb-true _ _ both.0, (refl, eqb-true _ _ both.1))
    near_to (suc k) d h =
        let f = some_below-to (2 * length ends) (λ x. eqb (name x) (name d) && near k (reverse_of x)) h in
        let both : (eqb (name f.0) (name d) ≡ true) × (near k (reverse_of f.0) ≡ true) = and_parts _ _ f.2 in
        let rest = near_to k (reverse_of f.0) both.1 in
        (f.0 ∷ rest.0, rest.1, ap suc rest.2, rest.3, rest.4, (refl, f.1, eqb-true _ _ both.0, rest.5))

    near_from : (ds : List ℕ) (d z : ℕ) → z < m → tail_of ends z ≡ v → R (λ c. true) (name d) ds z → near (length ds) d ≡ true
    near_from [] d z z_in at r =
        some_below-from (2 * length ends) (λ z. eqb (tail_of ends z) v && eqb (name z) (name d)) z z_in (and_from _ _ (eq-eqb _ _ at) (eq-eqb _ _ r.1))
    near_from (e ∷ ds) d z z_in at r =
        some_below-from (2 * length ends) (λ x. eqb (name x) (name d) && near (length ds) (reverse_of x)) e r.1
        (and_from _ _ (eq-eqb _ _ r.2) (near_from ds (reverse_of e) z z_in at r.3))

    abbrev has_route : ℕ → Bool
    has_route k = some_below (2 * length ends) (λ y. eqb (tail_of ends y) u && near k y)

    route_to : (k : ℕ) → has_route k ≡ true → (ds : List ℕ) × IsRoute ends next u ds v × (length ds ≡ k)
    route_to k h =
        let f = some_below-to (2 * length ends) (λ y. eqb (tail_of ends y) u && near k y) h in
        let both : (eqb (tail_of ends f.0) u ≡ true) × (near k f.0 ≡ true) = and_parts _ _ f.2 in
        let d = near_to k f.0 both.1 in
        (d.0, (f.0, f.1, eqb-true _ _ both.0, by_names_crosses d.0 f.0 (name f.0) d.1 v f.1 d.3 d.4 refl d.5), d.2)

    route_from : (ds : List ℕ) → IsRoute ends next u ds v → has_route (length ds) ≡ true
    route_from ds r =
        let c = crosses_by_names ds r.0 v r.1 r.3 in
        some_below-from (2 * length ends) (λ y. eqb (tail_of ends y) u && near (length ds) y) r.0 r.1 (and_from _ _ (eq-eqb _ _ r.2) (near_from ds r.0 c.0 c.1 c.2 c.3))

    pub shortest : (ds : List ℕ) → IsRoute ends next u ds v → (r : ℕ) × IsRouteLength ends next u v r
    shortest ds route = elim (first_below (suc (length ds)) has_route) [
      | inr none ↦ absurd (both_ways _ (none (length ds) (omega arith)) (route_from ds route))
      | inl found ↦ (
        found.0,
        record {
          route = route_to found.0 found.2;
          least = λ es other. elim (cases_lt (length es) found.0) [
            | inl low ↦ absurd (both_ways _ (found.3 (length es) low) (route_from es other))
            | inr high ↦ high
          ];
        },
      )
    ]

pub simple_routes_are_routes : SimpleRoutesAreRoutes
simple_routes_are_routes nodes ends next name map faces u v ds s = simple_crosses nodes ends next name map faces u v ds s

pub routes_become_simple : RoutesBecomeSimple
routes_become_simple nodes ends next name map faces u v ds r = shortened nodes ends next name map faces u v ds r

pub least_routes_are_simple : LeastRoutesAreSimple
least_routes_are_simple nodes ends next name map faces u v r ds least route long = least_simple nodes ends next name map faces u v r ds least route long

pub route_lengths_are_there : RouteLengthsAreThere
route_lengths_are_there nodes ends next map u v differ joined =
    let names = faces_have_names nodes ends next map in
    let some = routes_are_there nodes ends next names.0 map names.1 u v differ joined in
    shortest nodes ends next names.0 map names.1 u v some.0 (simple_crosses nodes ends next names.0 map names.1 u v some.0 some.1)

pub edges_come_in_by_least_routes : EdgesComeInByLeastRoutes
edges_come_in_by_least_routes g edges all e further r web next walks loose more_edges least =
    let map = loose.is_flat_map.is_map in
    let names = faces_have_names web.nodes web.ends next map in
    let some = least.route in
    let simple = least_simple web.nodes web.ends next names.0 map names.1 _ _ r some.0 least some.1 some.2 in
    let d = edges_come_into_loose_drawings g edges all e further web next walks loose more_edges names.0 names.1 some.0 simple in
    (d.0, d.1, d.2, subst (λ k. IsLoose g all (further + k) d.0 d.1 d.2) some.2 d.3, d.4)
