-- Laws on the flaws of rows.
use Rattle.std.specs.Prelude.{◌≡◌, ◌↔◌}
use Rattle.xn_model.specs.Graph.{Graph, IsGraph}
use Rattle.xn_kinds.specs.Row.{RowHolds}
use Rattle.xn_kinds.specs.declared.flaws.RowFlaw.{RowFlaw}
use Rattle.xn_kinds.specs.declared.rows.Row.{Row}
use Rattle.xn_rows.specs.Holding.{HasSizes, IsRowFlaw}

-- a row holds exactly where it has no flaw
abbrev pub HoldsWhereFlawless : Type 0
HoldsWhereFlawless =
    (g : Graph) (row : Row) → IsGraph g → HasSizes row → RowHolds g row ↔ ((x : RowFlaw) → ¬ (IsRowFlaw g row x))

-- there is at most one flaw
abbrev pub OneRowFlaw : Type 0
OneRowFlaw = (g : Graph) (row : Row) (x y : RowFlaw) → IsRowFlaw g row x → IsRowFlaw g row y → x ≡ y
