-- A search from face to face, by rounds, over faces that have names.
use Rattle.std.specs.Prelude.{◌≡◌, ◌⊎◌, ◌↔◌, ℕ, zero, suc, ◌+◌, ◌<◌, ◌≤◌, ◌==◌, true, List, [], ◌∷◌, length, take}
use Rattle.xn_model.specs.Lists.{at, has, one_if, total}
use Rattle.xn_model.specs.Map.{reverse_of}

-- the face is marked in this list, where the number of names stands for no mark
abbrev pub IsMarked : List ℕ → List ℕ → ℕ → Type 0
IsMarked names marks x = at marks x < length names

-- exactly the marked faces are listed
abbrev pub ListsMarked : List ℕ → List ℕ → Type 0
ListsMarked marks front = (x : ℕ) → (has front x ≡ true) ↔ ((x < length marks) × IsMarked marks marks x)

-- over the listed darts one comes from the face x to the face y
abbrev pub Over : List ℕ → ℕ → List ℕ → ℕ → Type 0
Over names x [] y = x ≡ y
Over names x (d ∷ ds) y = (d < length names) × (at names d ≡ x) × Over names (at names (reverse_of d)) ds y

-- over k segments one comes from the face x to a goal
abbrev pub IsNear : List ℕ → List ℕ → ℕ → ℕ → Type 0
IsNear names goals zero x = (x < length names) × IsMarked names goals x
IsNear names goals (suc k) x = (d : ℕ) × (d < length names) × (at names d ≡ x) × IsNear names goals k (at names (reverse_of d))

-- k times the dart that is noted for a face leads on
abbrev pub IsChain : List ℕ → List ℕ → ℕ → ℕ → Type 0
IsChain names by zero x = x < length names
IsChain names by (suc k) x = (x < length names) × IsMarked names by x × (at names (at by x) ≡ x) × IsChain names by k (at names (reverse_of (at by x)))

-- to the face y
abbrev pub ChainEnds : List ℕ → List ℕ → ℕ → ℕ → ℕ → Type 0
ChainEnds names by zero x y = x ≡ y
ChainEnds names by (suc k) x y = ChainEnds names by k (at names (reverse_of (at by x))) y

-- the darts of a chain, and the face at its end
pub record IsReadBack (names by : List ℕ) (k x : ℕ) (darts : List ℕ) (y : ℕ) : Type 0 where
  pub size : length darts ≡ k
  pub over : Over names x darts y
  pub ends : ChainEnds names by k x y
  pub inside : y < length names

-- the faces beyond the segments of the face x are met
abbrev pub AreNextMet : List ℕ → List ℕ → ℕ → Type 0
AreNextMet names by x = (d : ℕ) → d < length names → at names d ≡ x → IsMarked names by (at names (reverse_of d))

-- the face is no start, and the faces beyond its segments are met
abbrev pub IsPassed : List ℕ → List ℕ → List ℕ → ℕ → Type 0
IsPassed names starts by x = (length names ≤ at starts x) × AreNextMet names by x

-- how many faces aren't met
abbrev pub unmet : ℕ → List ℕ → ℕ
unmet n by = total (λ c. one_if (c == n)) by

-- the face leads in k steps to a goal, of which the mark is kept
abbrev pub LeadsBy : List ℕ → List ℕ → List ℕ → ℕ → ℕ → Type 0
LeadsBy names goals by k x = IsChain names by k x × ((y : ℕ) → ChainEnds names by k x y → IsMarked names goals y × (at by y ≡ at goals y))

-- after r rounds from the goals: those of the front were met in the last one
pub record IsSearched (names goals starts by front : List ℕ) (r : ℕ) : Type 0 where
  pub size : length by ≡ length names
  pub bound : (x : ℕ) → x < length names → at by x ≤ length names
  pub front_leads : (x : ℕ) → has front x ≡ true → LeadsBy names goals by r x
  pub near : (k x : ℕ) → k ≤ r → IsNear names goals k x → IsMarked names by x
  pub passed : (x : ℕ) → x < length names → IsMarked names by x → (has front x ≡ true) ⊎ IsPassed names starts by x
  pub early : (k x : ℕ) → k < r → IsNear names goals k x → IsPassed names starts by x
  pub few : (front ≡ []) ⊎ (r + unmet (length names) by ≤ length names)

-- the first i faces of the front, and j of the listed darts of the next, are passed over: what is met besides stands in next
pub record IsRound (names old front : List ℕ) (i : ℕ) (darts : List ℕ) (j : ℕ) (by next : List ℕ) : Type 0 where
  pub size : length by ≡ length names
  pub bound : (x : ℕ) → x < length names → at by x ≤ length names
  pub kept : (x : ℕ) → IsMarked names old x → at by x ≡ at old x
  pub fresh : (x : ℕ) → has next x ≡ true → (x < length names) × (at old x ≡ length names) × IsMarked names by x × (at names (at by x) ≡ x)
      × (has front (at names (reverse_of (at by x))) ≡ true)
  pub only : (x : ℕ) → x < length names → IsMarked names by x → IsMarked names old x ⊎ (has next x ≡ true)
  pub over : (x : ℕ) → has (take i front) x ≡ true → AreNextMet names by x
  pub along : (k : ℕ) → k < j → IsMarked names by (at names (reverse_of (at darts k)))
  pub fewer : unmet (length names) by + length next ≤ unmet (length names) old

-- no start is near
abbrev pub NoneFound : List ℕ → List ℕ → List ℕ → Type 0
NoneFound names goals starts = (k x : ℕ) → IsNear names goals k x → length names ≤ at starts x

-- the start x leads to a goal in r steps, and none is nearer
pub record IsFound (names goals starts by : List ℕ) (x r : ℕ) : Type 0 where
  pub inside : x < length names
  pub start : IsMarked names starts x
  pub leads : LeadsBy names goals by r x
  pub least : (k y : ℕ) → IsNear names goals k y → IsMarked names starts y → r ≤ k
  pub few : r ≤ length names

-- a start with the dart of its mark, the darts that lead from there to a goal, and the dart of that goal's mark
pub record IsFoundRoute (names goals starts : List ℕ) (from : ℕ) (darts : List ℕ) (to : ℕ) : Type 0 where
  pub by : List ℕ
  pub first : ℕ
  pub steps : ℕ
  pub last : ℕ
  pub found : IsFound names goals starts by first steps
  pub back : IsReadBack names by steps first darts last
  pub from_is : from ≡ at starts first
  pub to_is : to ≡ at by last
