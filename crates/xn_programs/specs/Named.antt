-- Points whose variables are named in rising order.
use Rattle.std.specs.Prelude.{ℕ, ◌+◌, ◌*◌, ◌<◌, ◌^◌, List, map, All}
use Rattle.std.specs.List.{AllByRecursion, IsDistinct}
use Rattle.xn_model.specs.Graph.{Graph}
use Rattle.xn_kinds.specs.declared.trees.Var.{Var}
use Rattle.xn_kinds.specs.declared.trees.Var.TheVariants.{Cross, Before}
use Rattle.xn_frac.specs.Ratio.{Ratio}
use Rattle.xn_cutter.specs.Point.{IsVar, is_same_var}

-- the place of a variable among all: pairs come before orders
abbrev pub place_in : Var → ℕ
place_in (Cross e f) = e * 2 ^ 32 + f
place_in (Before e f h) = (e + 1) * 2 ^ 64 + f * 2 ^ 32 + h

-- a point that names different variables of the graph, with places below n
pub record Named (g : Graph) (point : List (Var × Ratio)) (n : ℕ) : Type 0 where
  pub of_graph : All (λ p. IsVar g p.0) point
  pub below : AllByRecursion (λ v. place_in v < n) (map (λ p. p.0) point)
  pub once : IsDistinct is_same_var (map (λ p. p.0) point)
