-- Marks of numbers, a place for each.
use Rattle.std.specs.Prelude.{◌≡◌, ℕ, ◌++◌, ◌∷◌, Bool, true, false, List, length, nat_eq, slice_index_or}
use Rattle.std.specs.List.{IsDistinct}
use Rattle.xn_model.specs.Graph.{Graph}
use Rattle.xn_model.specs.Lists.{has}

-- the numbers of nodes and of segments
abbrev pub sizes_of : Graph → ℕ × ℕ
sizes_of web = (web.nodes, length web.ends)

abbrev pub is_marked : List Bool → ℕ → Bool
is_marked marks x = slice_index_or marks x false

-- exactly the listed numbers are marked
abbrev pub MarksExactly : List ℕ → List Bool → Type 0
MarksExactly xs marks = (x : ℕ) → is_marked marks x ≡ has xs x

-- none but listed numbers are marked
abbrev pub MarksWithin : List ℕ → List Bool → Type 0
MarksWithin xs marks = (x : ℕ) → is_marked marks x ≡ true → has xs x ≡ true

-- the list is marked besides, and none of it was marked or stands in it twice
abbrev pub MarksMore : List Bool → List ℕ → List Bool → Type 0
MarksMore old xs new =
    (done : List ℕ) → MarksExactly done old → IsDistinct nat_eq done → MarksExactly (done ++ xs) new × IsDistinct nat_eq (done ++ xs)

-- the list is marked besides up to x, which is marked already
abbrev pub StopsAt : List Bool → List ℕ → ℕ → List Bool → Type 0
StopsAt old xs x new =
    (before : List ℕ) × (after : List ℕ) × (xs ≡ before ++ x ∷ after) × MarksMore old before new
    × ((done : List ℕ) → MarksExactly done old → IsDistinct nat_eq done → has (done ++ before) x ≡ true)

-- the list isn't marked any more
abbrev pub Clears : List Bool → List ℕ → List Bool → Type 0
Clears old xs new = (rest : List ℕ) → MarksWithin (xs ++ rest) old → MarksWithin rest new
