-- What the calls on a map need for a step: the two corners are in one face, at two nodes.
use Rattle.std.proofs.Common.{◌≡◌, ◌≢◌, ℕ, ◌*◌, ◌/◌, ◌<◌, true, length, refl, sym, ◌∙◌, ap, subst, arith}
use Rattle.xn_model.specs.Lists.{at}
use Rattle.xn_model.specs.Map.{IsMap, MeetsEuler, face_step, tail_of}
use Rattle.xn_model.specs.Permutation.{Reaches}
use Rattle.xn_surgery.specs.Subdivision.{IsSubdivision, dart_now}
use Rattle.xn_map.specs.Changes.{Inserts, node_of}
use Rattle.xn_map.specs.Corners.{InOneFace, IsCorner}
use Rattle.xn_map.specs.Dividing.{Subdivides}
use Rattle.xn_map.specs.Listed.{IsListedMap, ListedMap}
use Rattle.xn_map.specs.declared.corners.Corner.TheVariants.{After}
use Rattle.xn_loose.specs.Routes.{AreFaceNames, dart_back}
use Rattle.xn_loose.proofs.Across as across
use Rattle.xn_loose.proofs.Shortest.{same_name}
use Rattle.xn_loose.proofs.Within.{faces_have_names}
use Rattle.xn_insert.specs.Cuts.{StepsOver}

-- the corners after a and b are those between which the last segment of a step over d goes
pub record AreCorners (old : ListedMap) (c d : ℕ) (mid : ListedMap) (a b : ℕ) : Type 0 where
  pub first : IsCorner mid (After a)
  pub second : IsCorner mid (After b)
  pub two_nodes : node_of mid (After a) ≢ node_of mid (After b)
  pub one_face : InOneFace (at mid.next) (After a) (After b)
  pub steps : (new : ListedMap) → Inserts mid (After a) (After b) new → StepsOver old c d new

module _ (old : ListedMap) (listed : IsListedMap old) (flat : MeetsEuler old.web.nodes old.web.ends (at old.next)) (c d : ℕ) (c_in : c < 2 * length old.web.ends) (d_in : d < 2 * length old.web.ends)
    (one_face : Reaches (face_step (at old.next)) (at old.next c) d) (mid : ListedMap) (divided : Subdivides old (d / 2) mid) where
  map : IsMap old.web.nodes old.web.ends (at old.next)
  map = listed.is_map

  names : (name : ℕ → ℕ) × AreFaceNames old.web.ends (at old.next) name (λ k. true)
  names = faces_have_names old.web.nodes old.web.ends (at old.next) map

  y_in : at old.next c < 2 * length old.web.ends
  y_in = map.permutes.below c c_in

  one_name : names.0 (at old.next c) ≡ names.0 d
  one_name = sym (same_name old.web.nodes old.web.ends (at old.next) names.0 map names.1 (at old.next c) d y_in one_face)

  divides : IsSubdivision old.web.nodes old.web.ends (at old.next) (d / 2) mid.web.ends (at mid.next)
  divides = divided.1

  pub from_in : dart_now (d / 2) (length old.web.ends) c < 2 * length mid.web.ends
  from_in = across.now_in old.web.nodes old.web.ends (at old.next) names.0 (λ k. true) map flat names.1 (at old.next c) d y_in d_in refl one_name mid.web.ends (at mid.next) divides c c_in

  pub back_in : dart_back (length old.web.ends) d < 2 * length mid.web.ends
  back_in = across.p_in old.web.nodes old.web.ends (at old.next) names.0 (λ k. true) map flat names.1 (at old.next c) d y_in d_in refl one_name mid.web.ends (at mid.next) divides

  turned : at mid.next (dart_now (d / 2) (length old.web.ends) c) ≡ dart_now (d / 2) (length old.web.ends) (at old.next c)
  turned = across.now_turn old.web.nodes old.web.ends (at old.next) names.0 (λ k. true) map flat names.1 (at old.next c) d y_in d_in refl one_name mid.web.ends (at mid.next) divides c c_in

  pub two_nodes : tail_of mid.web.ends (dart_now (d / 2) (length old.web.ends) c) ≢ tail_of mid.web.ends (dart_back (length old.web.ends) d)
  two_nodes = across.corners_apart old.web.nodes old.web.ends (at old.next) names.0 (λ k. true) map flat names.1 (at old.next c) d y_in d_in refl one_name mid.web.ends (at mid.next) divides
      (dart_now (d / 2) (length old.web.ends) c) from_in turned

  pub in_face : Reaches (face_step (at mid.next)) (at mid.next (dart_now (d / 2) (length old.web.ends) c)) (at mid.next (dart_back (length old.web.ends) d))
  in_face = across.one_face_before old.web.nodes old.web.ends (at old.next) names.0 (λ k. true) map flat names.1 (at old.next c) d y_in d_in refl one_name mid.web.ends (at mid.next) divides
      (dart_now (d / 2) (length old.web.ends) c) from_in turned

  -- the corners as the code names them
  pub corners : (last a b : ℕ) → last ≡ length old.web.ends → a ≡ dart_now (d / 2) last c → b ≡ dart_back last d → IsListedMap mid → AreCorners old c d mid a b
  corners last a b last_is a_is b_is is =
      let a_now : a ≡ dart_now (d / 2) (length old.web.ends) c = a_is ∙ ap (λ k. dart_now (d / 2) k c) last_is in
      let b_back : b ≡ dart_back (length old.web.ends) d = b_is ∙ ap (λ k. dart_back k d) last_is in
      let fits = is.fits in
      let a_low = from_in in
      let b_low = back_in in
      let R : ℕ → ℕ → Type 0 = λ x y. Reaches (face_step (at mid.next)) (at mid.next x) (at mid.next y) in
      record {
        first = omega (arith, fits, a_low, a_now);
        second = omega (arith, fits, b_low, b_back);
        two_nodes = λ same. two_nodes (ap (tail_of mid.web.ends) (sym a_now) ∙ same ∙ ap (tail_of mid.web.ends) b_back);
        one_face = subst (λ x. R x b) (sym a_now) (subst (R (dart_now (d / 2) (length old.web.ends) c)) (sym b_back) in_face);
        steps = λ new inserts.
            let I : ℕ → ℕ → Type 0 = λ x y. Inserts mid (After x) (After y) new in
            record {
              mid = mid;
              divides = divided;
              inserts = subst (λ x. I x (dart_back (length old.web.ends) d)) a_now (subst (I a) b_back inserts);
            };
      }
