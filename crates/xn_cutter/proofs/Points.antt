-- The point at which all is 0.
use Rattle.std.proofs.Common.{[]}
use Rattle.std.specs.List.{IsDistinct}
use Rattle.std.proofs.lemmas.List.Elements.{All-nil}
use Rattle.xn_model.specs.Graph.{Graph}
use Rattle.xn_kinds.specs.declared.trees.Var.{Var}
use Rattle.xn_frac.specs.Ratio.{Ratio}
use Rattle.xn_cutter.specs.Point.{IsPoint, IsVar, is_same_var}

none_twice : IsDistinct is_same_var []
unfolding IsDistinct
none_twice = tt

pub no_variables : (g : Graph) → IsPoint g []
no_variables g = record { of_graph = All-nil (λ (p : Var × Ratio). IsVar g p.0); once = none_twice }
