-- The nearest start gives a least route.
use Rattle.std.proofs.Common.{◌≡◌, ℕ, zero, suc, ◌*◌, ◌<◌, ◌≤◌, inl, inr, true, List, [], ◌∷◌, length, refl, sym, ◌∙◌, ap, subst, arith}
use Rattle.std.specs.Prelude.{IfNone, IfSome, None, Option, Some}
use Rattle.xn_model.specs.Lists.{at}
use Rattle.xn_model.specs.Loose.{CrossesTo}
use Rattle.xn_model.specs.Map.{IsMap, reverse_of, tail_of}
use Rattle.xn_model.proofs.Darts.{reverse_below}
use Rattle.xn_ring.proofs.Orbits.{source_of}
use Rattle.xn_map.specs.Listed.{IsListedMap, ListedMap}
use Rattle.xn_loose.specs.Routes.{RouteOf}
use Rattle.xn_loose.proofs.RoutesThere.{Route}
use Rattle.xn_loose.proofs.Shortest.{by_names_crosses, least_once, same_name}
use Rattle.xn_insert.specs.Routed.{HasNoRoute, IsCornerIn, IsLeastRoute, MarkCorners, NamesFaces}
use Rattle.xn_insert.specs.Search.{IsFound, IsFoundRoute, IsMarked, IsNear, IsReadBack, NoneFound, Over}

-- a mark is a dart or the number of darts
pub marks_low : (m : ListedMap) (names : List ℕ) (v c : ℕ) (marks : List ℕ) → MarkCorners m names v c marks → (x : ℕ) → x < length m.next → at marks x ≤ length m.next
marks_low m names v c marks mark x low = elim (mark.sound x low) [
  | inl none ↦ omega (arith, none)
  | inr some ↦ let dart = some.0 in omega (arith, dart)
]

module _ (m : ListedMap) (is : IsListedMap m) (names : List ℕ) (known : NamesFaces m names) (u v : ℕ) (starts goals : List ℕ)
    (at_u : MarkCorners m names u (length m.next) starts) (at_v : MarkCorners m names v (length m.next) goals) where
  abbrev ends : List (ℕ × ℕ)
  ends = m.web.ends

  abbrev next : ℕ → ℕ
  next = at m.next

  map : IsMap m.web.nodes ends next
  map = is.is_map

  abbrev n : ℕ
  n = length m.next

  dart_in : (d : ℕ) → d < 2 * length ends → d < n
  dart_in d low = let fits = is.fits in omega (arith, low, fits)

  dart_out : (d : ℕ) → d < n → d < 2 * length ends
  dart_out d low = let fits = is.fits in omega (arith, low, fits)

  name_low : (d : ℕ) → d < n → at names d < length names
  name_low d low = let size = known.size in let b = known.below d low in omega (arith, size, b)

  -- a corner of a node is marked in its face
  marked : (w : ℕ) (marks : List ℕ) → MarkCorners m names w n marks → (z : ℕ) → z < 2 * length ends → tail_of ends z ≡ w → IsMarked names marks (at names z)
  marked w marks mark z z_in at_w =
      let c = source_of (2 * length ends) next map.permutes z z_in in
      let there = mark.all c.0 (dart_in c.0 c.1) (sym (map.same_node c.0 c.1) ∙ ap (tail_of ends) c.2 ∙ at_w) in
      let named : at names (next c.0) ≡ at names z = ap (at names) c.2 in
      let same = ap (at marks) named in
      let size = known.size in
      omega (arith, there, same, size)

  corner : (w : ℕ) (marks : List ℕ) → MarkCorners m names w n marks → (x : ℕ) → x < n → IsMarked names marks x → IsCornerIn m names w x (at marks x)
  corner w marks mark x x_in met = elim (mark.sound x x_in) [
    | inl none ↦ let size = known.size in absurd (omega (arith, none, met, size))
    | inr some ↦ some
  ]

  -- a route comes near
  near_by : (ds : List ℕ) (a : ℕ) → a < 2 * length ends → CrossesTo ends next a ds v → IsNear names goals (length ds) (at names a)
  near_by [] a a_in c =
      let same = same_name m.web.nodes ends next (at names) map known.faces a c.0 a_in c.3 in
      (name_low a (dart_in a a_in), subst (IsMarked names goals) same (marked v goals at_v c.0 c.1 c.2))
  near_by (d ∷ ds) a a_in c =
      let same = same_name m.web.nodes ends next (at names) map known.faces a d a_in c.1 in
      let size = known.size in
      let d_in = dart_in d c.0 in
      (d, omega (arith, d_in, size), same, near_by ds (reverse_of d) (reverse_below (length ends) d c.0) c.2)

  pub no_route : NoneFound names goals starts → HasNoRoute m u v
  no_route none ds r =
      let near = near_by ds r.0 r.1 r.3 in
      let there = marked u starts at_u r.0 r.1 r.2 in
      let far = none (length ds) (at names r.0) near in
      omega (arith, there, far)

  -- ---- what was found

  -- by the names of faces, over the darts to the corner after c
  route_over : (ds : List ℕ) (x y z : ℕ) → Over names x ds y → at names z ≡ y → Route m.web.nodes ends next (at names) map known.faces (λ k. true) x ds z
  route_over [] x y z over named = (refl, named ∙ sym over)
  route_over (d ∷ ds) x y z over named =
      let size = known.size in
      let d_in = over.0 in
      (refl, dart_out d (omega (arith, d_in, size)), over.1, route_over ds (at names (reverse_of d)) y z over.2 named)

  darts_low : (ds : List ℕ) (x y : ℕ) → Over names x ds y → (i : ℕ) → i < length ds → at ds i < n
  darts_low [] x y over i low = absurd (omega (arith, low))
  darts_low (d ∷ ds) x y over zero low = let size = known.size in let d_in = over.0 in omega (arith, d_in, size)
  darts_low (d ∷ ds) x y over (suc i) low = darts_low ds (at names (reverse_of d)) y over.2 i (omega (arith, low))

  pub least_route : (by : List ℕ) (x r : ℕ) → IsFound names goals starts by x r → (ds : List ℕ) (y : ℕ) → IsReadBack names by r x ds y → IsLeastRoute m u v (at starts x) ds (at by y)
  least_route by x r found ds y back =
      let size = known.size in
      let x_in : x < n = let low = found.inside in omega (arith, low, size) in
      let y_in : y < n = let low = back.inside in omega (arith, low, size) in
      let leads = found.leads.1 y back.ends in
      let from = corner u starts at_u x x_in found.start in
      let to = corner v goals at_v y y_in leads.0 in
      let to_is = leads.1 in
      let z = next (at goals y) in
      let a = next (at starts x) in
      let a_in = map.permutes.below (at starts x) (dart_out (at starts x) from.0) in
      let z_in = map.permutes.below (at goals y) (dart_out (at goals y) to.0) in
      let at_a : tail_of ends a ≡ u = map.same_node (at starts x) (dart_out (at starts x) from.0) ∙ from.1 in
      let at_z : tail_of ends z ≡ v = map.same_node (at goals y) (dart_out (at goals y) to.0) ∙ to.1 in
      let R = route_over ds x y z back.over to.2 in
      let R' = subst (λ k. Route m.web.nodes ends next (at names) map known.faces (λ w. true) k ds z) (sym from.2) R in
      let long = back.size in
      let any : (es : List ℕ) (w : ℕ) → w < 2 * length ends → tail_of ends w ≡ u → CrossesTo ends next w es v → length ds ≤ length es = λ es w w_in at_w c.
      let least = found.least (length es) (at names w) (near_by es w w_in c) (marked u starts at_u w w_in at_w) in omega (arith, least, long) in
      let over = least_once m.web.nodes ends next (at names) map known.faces (λ k. true) (at names a) z ds R' (λ es other.
      any es a a_in at_a (by_names_crosses m.web.nodes ends next (at names) map known.faces es a (at names a) z v a_in z_in at_z refl other)) in
      record {
        name = at names;
        faces = known.faces;
        from_in = from.0;
        to_in = let low = to.0 in omega (arith, low, to_is);
        at_from = from.1;
        at_to = ap (tail_of ends) to_is ∙ to.1;
        over = subst (λ c. RouteOf (at names) (λ k. true) (at names a) ds (next c)) (sym to_is) over;
        darts_in = darts_low ds x y back.over;
        least = record {
          route = (ds, (a, a_in, at_a, by_names_crosses m.web.nodes ends next (at names) map known.faces ds a (at names a) z v a_in z_in at_z refl R'), refl);
          least = λ es route. any es route.0 route.1 route.2 route.3;
        };
        few = let few = found.few in omega (arith, few, long, size);
      }

  -- what a search by names answers
  pub least_if : {X : Type 0} (route : Option X) (from to : X → ℕ) (darts : X → List ℕ) → IfSome route (λ r. IsFoundRoute names goals starts (from r) (darts r) (to r)) →
      IfSome route (λ r. IsLeastRoute m u v (from r) (darts r) (to r))
  least_if None from to darts some = tt
  least_if (Some r) from to darts some =
      let is_least = least_route some.by some.first some.steps some.found (darts r) some.last some.back in
      subst (λ a. IsLeastRoute m u v a (darts r) (to r)) (sym some.from_is) (subst (λ b. IsLeastRoute m u v (at starts some.first) (darts r) b) (sym some.to_is) is_least)

  pub none_if : {X : Type 0} (route : Option X) → IfNone route (NoneFound names goals starts) → IfNone route (HasNoRoute m u v)
  none_if None none = no_route none
  none_if (Some r) none = tt
