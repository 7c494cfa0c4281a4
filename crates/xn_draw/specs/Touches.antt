-- Where edges touch at a crossing, by the places in their lists.
use Rattle.std.specs.Prelude.{◌≡◌, ℕ, ◌+◌, ◌*◌, ◌<◌, ◌≤◌, List, MatchOption, Option, length}
use Rattle.std.specs.List.{range_with_len}
use Rattle.xn_model.specs.Lists.{at}
use Rattle.xn_model.specs.Web.{first_segment}
use Rattle.xn_orders.specs.Entries.{list_of}

-- from the end of the segment two turns lead to the next segment
abbrev pub TurnsOn : (ℕ → ℕ) → ℕ → Type 0
TurnsOn next s = next (next (2 * s + 1)) ≡ 2 * (s + 1)

-- entry i of the list of e, whose segments begin with first, is a later edge, and they touch
abbrev pub TouchesAt : List ℕ → (ℕ → ℕ) → ℕ → ℕ → ℕ → Type 0
TouchesAt list next e first i = (e < at list i) × ¬ (TurnsOn next (first + i))

-- among the first n entries of its list e touches no later edge
abbrev pub NoTouchIn : List ℕ → (ℕ → ℕ) → ℕ → ℕ → ℕ → Type 0
NoTouchIn list next e first n = (i : ℕ) → i < n → ¬ (TouchesAt list next e first i)

-- among them the least later edge that e touches is f
abbrev pub TouchesLeast : List ℕ → (ℕ → ℕ) → ℕ → ℕ → ℕ → ℕ → Type 0
TouchesLeast list next e first n f =
    ((i : ℕ) × (i < n) × TouchesAt list next e first i × (at list i ≡ f)) × ((i : ℕ) → i < n → TouchesAt list next e first i → f ≤ at list i)

-- the least later edge that e touches among them, if there is one
abbrev pub IsLeastTouch : List ℕ → (ℕ → ℕ) → ℕ → ℕ → ℕ → Option ℕ → Type 0
IsLeastTouch list next e first n least = MatchOption least (NoTouchIn list next e first n) (TouchesLeast list next e first n)

-- the number of the first segment of e
abbrev pub first_of : List (List ℕ) → ℕ → ℕ
first_of lists e = first_segment (range_with_len 0 (length lists)) (list_of lists) e

-- e touches no later edge
abbrev pub NoTouchOf : List (List ℕ) → (ℕ → ℕ) → ℕ → Type 0
NoTouchOf lists next e = NoTouchIn (list_of lists e) next e (first_of lists e) (length (list_of lists e))

-- no two edges touch
abbrev pub NoTouch : List (List ℕ) → (ℕ → ℕ) → Type 0
NoTouch lists next = (e : ℕ) → NoTouchOf lists next e

-- the first that touch are e and f: e touches f and no smaller later edge, and a smaller edge than e touches none
abbrev pub TouchesFirst : List (List ℕ) → (ℕ → ℕ) → ℕ → ℕ → Type 0
TouchesFirst lists next e f =
    TouchesLeast (list_of lists e) next e (first_of lists e) (length (list_of lists e)) f × ((d : ℕ) → d < e → NoTouchOf lists next d)
