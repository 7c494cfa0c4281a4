-- Whether a web has a flat map.
use Rattle.std.specs.Prelude.{ℕ, List, Bool, true, false, Option, Some, None}
use Rattle.xn_model.specs.Graph.{Graph}
use Rattle.xn_model.specs.Map.{IsFlat}
use Rattle.xn_kinds.specs.Row.{EvidenceHolds}
use Rattle.xn_kinds.specs.declared.rows.Evidence.{Evidence}
use Rattle.xn_extend.specs.Extended.{listed_web}
use Rattle.xn_components.specs.Listing.{IsFlatMapOf}
use Rattle.xn_fewer.specs.Flat.{HasFlat}
use Rattle.xn_kura.specs.Flaws.{HasAKind}
use Rattle.xn_kuratowski.specs.Core.{IsCore}
use Rattle.xn_planar.specs.declared.deciding.Decision.{Decision}
use Rattle.xn_planar.specs.declared.deciding.Decision.TheVariants as decision
use Rattle.xn_planar.specs.declared.planarity.Planarity.{Planarity}
use Rattle.xn_planar.specs.declared.planarity.Planarity.TheVariants as planarity

-- no map of the web is flat
abbrev pub HasNoFlatMap : Graph → Type 0
HasNoFlatMap web = (next : ℕ → ℕ) → ¬ (IsFlat web next)

-- the evidence is a subdivision of K5 or of K3,3 that holds, and there is no flat map
pub record Refutes (web : Graph) (evidence : Evidence) : Type 0 where
  pub kind : HasAKind evidence
  pub holds : EvidenceHolds web evidence
  pub none : HasNoFlatMap web

-- a flat map, or evidence that holds where there is none
abbrev pub IsPlanarity : Graph → Planarity → Type 0
IsPlanarity web (planarity.Flat map) = IsFlatMapOf web map
IsPlanarity web (planarity.Not evidence) = Refutes web evidence

-- the same, or the bare fact that there is none
abbrev pub IsDecision : Graph → Decision → Type 0
IsDecision web (decision.Flat map) = IsFlatMapOf web map
IsDecision web (decision.Refuted evidence) = Refutes web evidence
IsDecision web decision.NoMap = HasNoFlatMap web

-- the answer tells whether there is one
abbrev pub TellsWhetherFlat : Graph → Bool → Type 0
TellsWhetherFlat web true = HasFlat web.nodes web.ends
TellsWhetherFlat web false = HasNoFlatMap web

-- evidence for the web, if the listed segments are a core
abbrev pub IsEvidenceWithin : Graph → List ℕ → Option Evidence → Type 0
IsEvidenceWithin web list (Some evidence) = Refutes web evidence
IsEvidenceWithin web list None = ¬ (IsCore (listed_web web list))
