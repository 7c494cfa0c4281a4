-- Lists of lists, where the code has vectors of vectors.
use Rattle.std.specs.Prelude.{ℕ, List, Vec, map, vec_items}
use Rattle.std.specs.Global.{Global}

-- the lists that the vectors hold
abbrev pub lists_of : List (Vec ℕ Global) → List (List ℕ)
lists_of vectors = map vec_items vectors
