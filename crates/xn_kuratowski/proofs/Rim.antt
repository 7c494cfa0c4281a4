-- Around a contracted segment: the rest of the web has a face that meets its neighbours in turn.
use Rattle.std.specs.Prelude.{nat_le, ◌≡◌, ◌≢◌, ℕ, suc, ◌+◌, ◌*◌, ◌/◌, ◌<◌, ◌≤◌, ◌⊎◌, ◌↔◌, Bool, true, false, List, [], ◌∷◌, ◌++◌, length, map, All}
use Rattle.xn_model.specs.Graph.{EndsIn, Graph, HasNoLoop, ends_at}
use Rattle.xn_model.specs.Lists.{at}
use Rattle.xn_model.specs.Map.{IsFlat, Joined, face_step, is_lone, reverse_of, tail_of}
use Rattle.xn_model.specs.Permutation.{Reaches}
use Rattle.xn_surgery.specs.Splitting.{InArc}
use Rattle.xn_fewer.specs.Flat.{HasFlat, IsSelection}
use Rattle.xn_kuratowski.specs.Minor.{HasMinor}
use Rattle.xn_kuratowski.specs.Reduction.{HasNoParallels, IsFlatOrHasMinor, away}
use Rattle.xn_kuratowski.proofs.Separation.{IsFirm, StaysWhole}

-- a segment from x to each of the nodes
abbrev pub star : ℕ → List ℕ → List (ℕ × ℕ)
star x heads = map (λ v. (x, v)) heads

-- different numbers
abbrev pub AreApart : List ℕ → Type 0
AreApart ks = (i j : ℕ) → i < length ks → j < length ks → at ks i ≡ at ks j → i ≡ j

-- different nodes of the web, neither x nor y
pub record AreHeads (nodes x y : ℕ) (heads : List ℕ) : Type 0 where
  pub below : All (λ v. (v < nodes) × (v ≢ x) × (v ≢ y)) heads
  pub once : AreApart heads

-- the web is rest, a star at x, a star at y, and a segment from x to y; no node separates others in rest
pub record AreStars (nodes : ℕ) (rest : List (ℕ × ℕ)) (x y : ℕ) (xs ys : List ℕ) : Type 0 where
  pub x_in : x < nodes
  pub y_in : y < nodes
  pub two_ends : x ≢ y
  pub ends_in : EndsIn nodes rest
  pub no_loop : HasNoLoop rest
  pub x_lone : is_lone rest x ≡ true
  pub y_lone : is_lone rest y ≡ true
  pub x_heads : AreHeads nodes x y xs
  pub y_heads : AreHeads nodes x y ys
  pub firm : (w : ℕ) → w < nodes → StaysWhole nodes rest (x ∷ y ∷ w ∷ [])

-- that web
abbrev pub web_of_stars : List (ℕ × ℕ) → ℕ → ℕ → List ℕ → List ℕ → List (ℕ × ℕ)
web_of_stars rest x y xs ys = rest ++ (star x xs ++ (star y ys ++ (x, y) ∷ []))

-- and the same with x and y one node
abbrev pub web_merged : List (ℕ × ℕ) → ℕ → List ℕ → List ℕ → List (ℕ × ℕ)
web_merged rest x xs ys = rest ++ (star x xs ++ star x ys)

-- a flat map of the contracted web gives one of the web, or the web has a minor
abbrev pub ContractedWebsDecide : Type 0
ContractedWebsDecide =
    (nodes : ℕ) (rest : List (ℕ × ℕ)) (x y : ℕ) (xs ys : List ℕ) → AreStars nodes rest x y xs ys → HasFlat nodes (web_merged rest x xs ys) →
    IsFlatOrHasMinor nodes (web_of_stars rest x y xs ys)

-- ---- its parts

-- in a flat map, a node without which the others are still joined meets each face once
abbrev pub FacesMeetANodeOnce : Type 0
FacesMeetANodeOnce =
    (web : Graph) (next : ℕ → ℕ) → IsFlat web next → HasNoLoop web.ends → (x : ℕ) →
    ((u v : ℕ) → u ≢ x → v ≢ x → is_lone web.ends u ≡ false → is_lone web.ends v ≡ false → Joined (away (x ∷ []) web.ends) u v) →
    (d e : ℕ) → d < 2 * length web.ends → e < 2 * length web.ends → tail_of web.ends d ≡ x → tail_of web.ends e ≡ x →
    Reaches (face_step next) d e → d ≡ e

-- a segment joins u and v
abbrev pub Adjacent : List (ℕ × ℕ) → ℕ → ℕ → Type 0
Adjacent ends u v = (s : ℕ) × (s < length ends) × ((ends_at ends s ≡ (u, v)) ⊎ (ends_at ends s ≡ (v, u)))

-- the nodes of rim lie round a cycle of the rest, again and again; spokes are the darts at x in turn, and place says where on the rim each leads
pub record IsRim (rest ends : List (ℕ × ℕ)) (next : ℕ → ℕ) (x l n : ℕ) (rim spokes place : ℕ → ℕ) : Type 0 where
  pub some : 0 < l
  pub once : (i j : ℕ) → i < l → j < l → rim i ≡ rim j → i ≡ j
  pub rim_round : (j : ℕ) → rim (j + l) ≡ rim j
  pub follow : (j : ℕ) → Adjacent rest (rim j) (rim (suc j))
  pub spokes_some : 0 < n
  pub spokes_in : (i : ℕ) → (spokes i < 2 * length ends) × (tail_of ends (spokes i) ≡ x)
  pub spokes_once : (i j : ℕ) → i < n → j < n → spokes i ≡ spokes j → i ≡ j
  pub spokes_round : (i : ℕ) → spokes (i + n) ≡ spokes i
  pub all : (d : ℕ) → d < 2 * length ends → tail_of ends d ≡ x → (i : ℕ) × (i < n) × (spokes i ≡ d)
  pub turn : (i : ℕ) → next (spokes (suc i)) ≡ spokes i
  pub places : (i : ℕ) → rim (place i) ≡ tail_of ends (reverse_of (spokes i))
  pub rise : (i : ℕ) → place i ≤ place (suc i)
  pub place_round : (i : ℕ) → place (i + n) ≡ place i + l

-- where x has darts to different nodes, a flat map of the contracted web has a rim that begins at any dart of x
abbrev pub ContractedWebsHaveRims : Type 0
ContractedWebsHaveRims =
    (nodes : ℕ) (rest : List (ℕ × ℕ)) (x y : ℕ) (xs ys : List ℕ) (next : ℕ → ℕ) → AreStars nodes rest x y xs ys →
    IsFlat (record { nodes = nodes; ends = web_merged rest x xs ys }) next → 1 < length ys →
    (s : ℕ) → s < 2 * length (web_merged rest x xs ys) → tail_of (web_merged rest x xs ys) s ≡ x →
    (l n : ℕ) × (rim spokes place : ℕ → ℕ) × IsRim rest (web_merged rest x xs ys) next x l n rim spokes place × (spokes 0 ≡ s) × (place 0 ≡ 0)

-- the dart is one of the second star
abbrev pub is_second : List (ℕ × ℕ) → List ℕ → ℕ → Bool
is_second rest xs d = nat_le (length rest + length xs) (d / 2)

-- in the turn at x, the darts of the second star are those from a up to the one before b
pub record AreArcs (rest ends : List (ℕ × ℕ)) (x : ℕ) (xs : List ℕ) (next : ℕ → ℕ) (a b : ℕ) : Type 0 where
  pub first_in : a < 2 * length ends
  pub second_in : b < 2 * length ends
  pub first_at : tail_of ends a ≡ x
  pub second_at : tail_of ends b ≡ x
  pub differ : a ≢ b
  pub arc : (d : ℕ) → d < 2 * length ends → tail_of ends d ≡ x → InArc next a b d ↔ (is_second rest xs d ≡ true)

-- some flat map of the contracted web has the darts of each star side by side
abbrev pub HasArcs : ℕ → List (ℕ × ℕ) → ℕ → List ℕ → List ℕ → Type 0
HasArcs nodes rest x xs ys =
    (next : ℕ → ℕ) × IsFlat (record { nodes = nodes; ends = web_merged rest x xs ys }) next
    × ((a b : ℕ) × AreArcs rest (web_merged rest x xs ys) x xs next a b)

-- a rim gives a minor, or a flat map in which they are
abbrev pub RimsDecide : Type 0
RimsDecide =
    (nodes : ℕ) (rest : List (ℕ × ℕ)) (x y : ℕ) (xs ys : List ℕ) (next : ℕ → ℕ) (l n : ℕ) (rim spokes place : ℕ → ℕ) → AreStars nodes rest x y xs ys →
    IsFlat (record { nodes = nodes; ends = web_merged rest x xs ys }) next → IsRim rest (web_merged rest x xs ys) next x l n rim spokes place →
    place 0 ≡ 0 → 1 < length xs → 1 < length ys → HasMinor (web_of_stars rest x y xs ys) ⊎ HasArcs nodes rest x xs ys

-- where they are, x falls into x and y
abbrev pub ArcsComeApart : Type 0
ArcsComeApart =
    (nodes : ℕ) (rest : List (ℕ × ℕ)) (x y : ℕ) (xs ys : List ℕ) → AreStars nodes rest x y xs ys → HasArcs nodes rest x xs ys →
    HasFlat nodes (web_of_stars rest x y xs ys)

-- a star with no dart or one stands by itself
abbrev pub SmallStarsComeApart : Type 0
SmallStarsComeApart =
    (nodes : ℕ) (rest : List (ℕ × ℕ)) (x y : ℕ) (xs ys : List ℕ) → AreStars nodes rest x y xs ys → (length xs < 2) ⊎ (length ys < 2) →
    HasFlat nodes (web_merged rest x xs ys) → HasFlat nodes (web_of_stars rest x y xs ys)

-- a web with a firm segment, and no two segments beside each other, is one with a star at each end: in some order, some turned
abbrev pub FirmSegmentsHaveStars : Type 0
FirmSegmentsHaveStars =
    (nodes s : ℕ) (ends : List (ℕ × ℕ)) → EndsIn nodes ends → HasNoLoop ends → HasNoParallels ends → s < length ends → IsFirm nodes ends s →
    (rest : List (ℕ × ℕ)) × (xs ys : List ℕ) × (σ τ : ℕ → ℕ)
    × AreStars nodes rest (ends_at ends s).0 (ends_at ends s).1 xs ys
    × (length (web_of_stars rest (ends_at ends s).0 (ends_at ends s).1 xs ys) ≡ length ends)
    × IsSelection ends (web_of_stars rest (ends_at ends s).0 (ends_at ends s).1 xs ys) σ
    × IsSelection (web_of_stars rest (ends_at ends s).0 (ends_at ends s).1 xs ys) ends τ
