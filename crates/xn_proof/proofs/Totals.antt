-- How many entries lists have together.
use Rattle.std.proofs.Common.{◌≡◌, ℕ, ◌+◌, List, [], ◌∷◌, ◌++◌, Vec, vec_items, length, ap, ◌∙◌, arith}
use Rattle.std.proofs.lemmas.List.{map-append}
use Rattle.std.specs.Global.{Global}
use Rattle.xn_list.specs.Lists.{lists_of}
use Rattle.xn_model.specs.Lists.{total}

total_push : {X : Type 0} (f : X → ℕ) (xs : List X) (x : X) → total f (xs ++ x ∷ []) ≡ total f xs + f x
total_push f [] x = omega arith
total_push f (y ∷ ys) x = let rest = total_push f ys x in omega (arith, rest)

-- one list more
pub entries_push : (lists : List (Vec ℕ Global)) (v : Vec ℕ Global) → total length (lists_of (lists ++ v ∷ [])) ≡ total length (lists_of lists) + length (vec_items v)
entries_push lists v = ap (total length) (map-append vec_items lists (v ∷ [])) ∙ total_push length (lists_of lists) (vec_items v)
