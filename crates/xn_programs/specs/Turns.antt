-- What turns come to.
use Rattle.std.specs.Prelude.{ℕ, ◌≤◌, Bool, false, true, List, length, max, All}
use Rattle.xn_model.specs.Graph.{Graph}
use Rattle.xn_kinds.specs.Row.{RowHolds}
use Rattle.xn_kinds.specs.State.{State}
use Rattle.xn_kinds.specs.Tree.{MayOpen}
use Rattle.xn_kinds.specs.declared.rows.Evidence.{Evidence}
use Rattle.xn_kinds.specs.declared.rows.Evidence.TheVariants.{Five, ThreeThree, Extension}
use Rattle.xn_kinds.specs.declared.rows.Row.{Row}
use Rattle.xn_search.specs.Choice.{GrowsTo, HaveKinds}
use Rattle.xn_programs.specs.declared.leaves.Turn.{Turn}
use Rattle.xn_programs.specs.declared.leaves.Turn.TheVariants.{Closed, Open, Lost}

-- a leaf keeps its rule in a proof of t
abbrev pub IsTurn : Graph → ℕ → List Row → State → Turn → Type 0
IsTurn g t rows s (Closed leaf) = MayOpen g t rows s leaf
IsTurn g t rows s Open = Unit {0}
IsTurn g t rows s Lost = Unit {0}

-- the evidence is an extension
abbrev pub is_extension : Evidence → Bool
is_extension (Five branch paths) = false
is_extension (ThreeThree branch paths) = false
is_extension (Extension list) = true

-- rows that hold and have no extension came behind the known ones, while fewer than 800,000 were known
pub record IsGrown (g : Graph) (rows longer : List Row) : Type 0 where
  pub more : GrowsTo rows longer
  pub hold : All (RowHolds g) longer
  pub kinds : HaveKinds rows → HaveKinds longer
  pub few : length longer ≤ max (length rows) 800000
