-- Faces by names, and a step of a new edge across a segment.
use Rattle.std.specs.Prelude.{◌≡◌, ◌≢◌, ℕ, suc, ◌+◌, ◌*◌, ◌/◌, ◌%◌, ◌<◌, ◌==◌, ◌&&◌, Bool, true, not, List, [], ◌∷◌, length, if◌then◌else◌, All}
use Rattle.xn_model.specs.Map.{MeetsEuler, IsMap, face_step, reverse_of, tail_of}
use Rattle.xn_model.specs.Permutation.{Reaches}
use Rattle.xn_surgery.specs.Subdivision.{dart_now}

-- all darts of a face have one name, and a name that is whole is that of one face alone
pub record AreFaceNames (ends : List (ℕ × ℕ)) (next name : ℕ → ℕ) (whole : ℕ → Bool) : Type 0 where
  pub keeps : (d : ℕ) → d < 2 * length ends → name (face_step next d) ≡ name d
  pub one : (d e : ℕ) → d < 2 * length ends → e < 2 * length ends → whole (name d) ≡ true → name d ≡ name e → Reaches (face_step next) d e

-- from the face named c over the listed darts to that of z, each time to a face that is still whole, which it then no longer is
abbrev pub RouteOf : (ℕ → ℕ) → (ℕ → Bool) → ℕ → List ℕ → ℕ → Type 0
RouteOf name whole c [] z = (whole c ≡ true) × (name z ≡ c)
RouteOf name whole c (d ∷ ds) z = (whole c ≡ true) × (name d ≡ c) × RouteOf name (λ k. whole k && not (k == c)) (name (reverse_of d)) ds z

-- a route from u over the listed darts to v that meets no face twice, by the names of faces
pub record IsSimpleRoute (ends : List (ℕ × ℕ)) (name : ℕ → ℕ) (u : ℕ) (ds : List ℕ) (v : ℕ) : Type 0 where
  pub from : ℕ
  pub to : ℕ
  pub from_in : from < 2 * length ends
  pub to_in : to < 2 * length ends
  pub darts_in : All (λ d. d < 2 * length ends) ds
  pub at_from : tail_of ends from ≡ u
  pub at_to : tail_of ends to ≡ v
  pub over : RouteOf name (λ c. true) (name from) ds to

-- the dart that goes on in the direction of d at the node that divides its segment, and the one that leads back
abbrev pub dart_on : ℕ → ℕ → ℕ
dart_on last d = if d % 2 == 0 then 2 * last else 2 * (d / 2) + 1

abbrev pub dart_back : ℕ → ℕ → ℕ
dart_back last d = if d % 2 == 0 then 2 * (d / 2) + 1 else 2 * last

-- the segment of d is divided at a new node, and a segment leads there from the corner before y, within the face of y and d;
-- on the other side of d the corner before the dart that leads back is free
pub record IsAcross (nodes : ℕ) (ends : List (ℕ × ℕ)) (next name : ℕ → ℕ) (whole : ℕ → Bool) (y d : ℕ) (more : List (ℕ × ℕ))
    (after names : ℕ → ℕ) : Type 0 where
  pub is_map : IsMap (suc nodes) more after
  pub flat : MeetsEuler (suc nodes) more after
  pub size : length more ≡ suc (suc (length ends))
  pub tails : (x : ℕ) → x < 2 * length ends → tail_of more (dart_now (d / 2) (length ends) x) ≡ tail_of ends x
  pub tail_on : tail_of more (dart_on (length ends) d) ≡ nodes
  pub tail_back : tail_of more (dart_back (length ends) d) ≡ nodes
  pub tail_from : tail_of more (2 * suc (length ends)) ≡ tail_of ends y
  pub tail_to : tail_of more (2 * suc (length ends) + 1) ≡ nodes
  pub turns : (x : ℕ) → x < 2 * length ends → next x ≢ y → after (dart_now (d / 2) (length ends) x) ≡ dart_now (d / 2) (length ends) (next x)
  pub turns_in : (x : ℕ) → x < 2 * length ends → next x ≡ y → after (dart_now (d / 2) (length ends) x) ≡ 2 * suc (length ends)
  pub turns_from : after (2 * suc (length ends)) ≡ dart_now (d / 2) (length ends) y
  pub turns_back : after (dart_back (length ends) d) ≡ 2 * suc (length ends) + 1
  pub turns_to : after (2 * suc (length ends) + 1) ≡ dart_on (length ends) d
  pub turns_on : after (dart_on (length ends) d) ≡ dart_back (length ends) d
  pub faces : AreFaceNames more after names (λ c. whole c && not (c == name y))
  pub names_kept : (x : ℕ) → x < 2 * length ends → names x ≡ name x
  pub names_now : (x : ℕ) → x < 2 * length ends → names (dart_now (d / 2) (length ends) x) ≡ name x
  pub name_back : names (dart_back (length ends) d) ≡ name (reverse_of d)
  pub name_from : names (2 * suc (length ends)) ≡ name y
  pub name_to : names (2 * suc (length ends) + 1) ≡ name y

-- there is such a step where the face is whole
abbrev pub StepsAcross : Type 0
StepsAcross =
    (nodes : ℕ) (ends : List (ℕ × ℕ)) (next name : ℕ → ℕ) (whole : ℕ → Bool) → IsMap nodes ends next → MeetsEuler nodes ends next →
    AreFaceNames ends next name whole →
    (y d : ℕ) → y < 2 * length ends → d < 2 * length ends → whole (name y) ≡ true → name y ≡ name d →
    (more : List (ℕ × ℕ)) × (after : ℕ → ℕ) × (names : ℕ → ℕ) × IsAcross nodes ends next name whole y d more after names

-- each map has such names, all of them whole
abbrev pub FacesHaveNames : Type 0
FacesHaveNames =
    (nodes : ℕ) (ends : List (ℕ × ℕ)) (next : ℕ → ℕ) → IsMap nodes ends next → (name : ℕ → ℕ) × AreFaceNames ends next name (λ c. true)

-- a segment leads from the corner before y to the corner before z, at another node of the same face
pub record IsWithin (nodes : ℕ) (ends : List (ℕ × ℕ)) (next name : ℕ → ℕ) (whole : ℕ → Bool) (y z : ℕ) (more : List (ℕ × ℕ))
    (after names : ℕ → ℕ) : Type 0 where
  pub is_map : IsMap nodes more after
  pub flat : MeetsEuler nodes more after
  pub size : length more ≡ suc (length ends)
  pub tails : (x : ℕ) → x < 2 * length ends → tail_of more x ≡ tail_of ends x
  pub tail_from : tail_of more (2 * length ends) ≡ tail_of ends y
  pub tail_to : tail_of more (2 * length ends + 1) ≡ tail_of ends z
  pub turns : (x : ℕ) → x < 2 * length ends → next x ≢ y → next x ≢ z → after x ≡ next x
  pub turns_in : (x : ℕ) → x < 2 * length ends → next x ≡ y → after x ≡ 2 * length ends
  pub turns_from : after (2 * length ends) ≡ y
  pub turns_back : (x : ℕ) → x < 2 * length ends → next x ≡ z → after x ≡ 2 * length ends + 1
  pub turns_to : after (2 * length ends + 1) ≡ z
  pub faces : AreFaceNames more after names (λ c. whole c && not (c == name y))
  pub names_kept : (x : ℕ) → x < 2 * length ends → names x ≡ name x

abbrev pub StepsWithin : Type 0
StepsWithin =
    (nodes : ℕ) (ends : List (ℕ × ℕ)) (next name : ℕ → ℕ) (whole : ℕ → Bool) → IsMap nodes ends next → MeetsEuler nodes ends next →
    AreFaceNames ends next name whole →
    (y z : ℕ) → y < 2 * length ends → z < 2 * length ends → whole (name y) ≡ true → name y ≡ name z → tail_of ends y ≢ tail_of ends z →
    (more : List (ℕ × ℕ)) × (after : ℕ → ℕ) × (names : ℕ → ℕ) × IsWithin nodes ends next name whole y z more after names
