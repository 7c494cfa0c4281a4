-- The nodes and darts of a web that shrinks.
use Rattle.std.specs.Prelude.{ℕ, ◌*◌, ◌^◌, ◌<◌, ◌≤◌, List, length, All}
use Rattle.xn_hint.specs.declared.darts.Dart.{Dart}
use Rattle.xn_hint.specs.declared.darts.Node.{Node}

-- a node leads to darts
abbrev pub LeadsToDarts : ℕ → Node → Type 0
LeadsToDarts darts v = (v.last < darts) × (v.met < darts)

-- a dart leads to a node and to darts
abbrev pub LeadsInside : ℕ → ℕ → Dart → Type 0
LeadsInside nodes darts d = (d.node < nodes) × (d.before < darts) × (d.mate < darts)

-- nodes and darts lead to each other; there are two darts for each segment
pub record AreInside (nodes : List Node) (darts : List Dart) (segments : ℕ) : Type 0 where
  pub at_nodes : All (LeadsToDarts (length darts)) nodes
  pub at_darts : All (LeadsInside (length nodes) (length darts)) darts
  pub few : 2 * segments ≤ length darts
  pub few_nodes : length nodes ≤ 2 ^ 30
  pub few_darts : length darts ≤ 2 ^ 31
