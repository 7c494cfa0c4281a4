-- The edges that cross an edge and don't touch it, and the darts at which the segments begin that are left.
use Rattle.std.specs.Prelude.{ℕ, suc, ◌+◌, ◌*◌, ◌==◌, Bool, List, [], ◌∷◌, ◌++◌, length, if◌then◌else◌}
use Rattle.xn_model.specs.Web.{first_segment}

-- from the end of the segment two turns lead to the next segment
abbrev pub runs_straight : (ℕ → ℕ) → ℕ → Bool
runs_straight next s = next (next (2 * s + 1)) == 2 * suc s

-- those of the listed edges that cross an edge whose segments begin with s
abbrev pub crossed_from : (ℕ → ℕ) → ℕ → List ℕ → List ℕ
crossed_from next s [] = []
crossed_from next s (f ∷ fs) = if runs_straight next s then f ∷ crossed_from next (suc s) fs else crossed_from next (suc s) fs

-- for each edge those that cross it, and don't touch
abbrev pub crossed_order : List ℕ → (ℕ → List ℕ) → (ℕ → ℕ) → ℕ → List ℕ
crossed_order edges ord next e = crossed_from next (first_segment edges ord e) (ord e)

-- the same for lists, of which the first is that of the edge whose segments begin with s
abbrev pub crossed_lists : (ℕ → ℕ) → ℕ → List (List ℕ) → List (List ℕ)
crossed_lists next s [] = []
crossed_lists next s (l ∷ ls) = crossed_from next s l ∷ crossed_lists next (s + suc (length l)) ls

-- along an edge, from the end of its segment s on: both darts at each crossing, and the last dart
abbrev pub starts_after : (ℕ → ℕ) → ℕ → List ℕ → List ℕ
starts_after next s [] = (2 * s + 1) ∷ []
starts_after next s (f ∷ fs) =
    if runs_straight next s then (2 * s + 1) ∷ (2 * suc s) ∷ starts_after next (suc s) fs else starts_after next (suc s) fs

-- the darts of an edge whose segments begin with s, at its ends and its crossings
abbrev pub starts_along : (ℕ → ℕ) → ℕ → List ℕ → List ℕ
starts_along next s list = (2 * s) ∷ starts_after next s list

-- those of all edges with these lists
abbrev pub starts_of : (ℕ → ℕ) → ℕ → List (List ℕ) → List ℕ
starts_of next s [] = []
starts_of next s (l ∷ ls) = starts_along next s l ++ starts_of next (s + suc (length l)) ls
