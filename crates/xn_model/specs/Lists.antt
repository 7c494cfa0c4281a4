-- Words on lists that compute by cases. The like words of std are folds, which give no step of an induction.
use Rattle.std.specs.Prelude.{ℕ, suc, ◌+◌, ◌==◌, ◌&&◌, Bool, true, false, List, [], ◌∷◌, if◌then◌else◌, nat_lt, slice_index}
use Rattle.std.specs.List.{list_any}

-- 1 where the test holds, else 0
abbrev pub one_if : Bool → ℕ
one_if true = 1
one_if false = 0

-- x stands in the list
abbrev pub has : List ℕ → ℕ → Bool
has xs x = list_any (λ y. y == x) xs

-- the first position of x, or the length where x isn't in the list
abbrev pub position_in : List ℕ → ℕ → ℕ
position_in [] x = 0
position_in (y ∷ ys) x = if y == x then 0 else suc (position_in ys x)

-- both stand in the list, x before y
abbrev pub stands_before : List ℕ → ℕ → ℕ → Bool
stands_before xs x y = has xs x && has xs y && nat_lt (position_in xs x) (position_in xs y)

-- the sum of what f says of each element
abbrev pub total : {A : Type 0} → (A → ℕ) → List A → ℕ
total f [] = 0
total f (x ∷ xs) = f x + total f xs

-- each two neighbours of a list, in order
abbrev pub neighbours : List ℕ → List (ℕ × ℕ)
neighbours [] = []
neighbours (x ∷ []) = []
neighbours (x ∷ y ∷ ys) = (x, y) ∷ neighbours (y ∷ ys)

-- a list as a function
abbrev pub at : List ℕ → ℕ → ℕ
at xs d = slice_index xs d
