-- What holds of blocks.
use Rattle.std.specs.Prelude.{◌≡◌, ℕ, ◌<◌, List, length}
use Rattle.xn_model.specs.Cycles.{AreInOneBlock}
use Rattle.xn_model.specs.Graph.{Graph, HasNoLoop}
use Rattle.xn_blocks.specs.Blocks.{ListedBlocks, AreBlocks, StandsIn}

-- R is an equivalence
pub record IsEquivalence (R : ℕ → ℕ → Type 0) : Type 0 where
  pub reflexive : (s : ℕ) → R s s
  pub symmetric : (s t : ℕ) → R s t → R t s
  pub transitive : (r s t : ℕ) → R r s → R s t → R r t

-- to be equal or on a common cycle is an equivalence
abbrev pub BlocksAreClasses : Type 0
BlocksAreClasses = (ends : List (ℕ × ℕ)) → HasNoLoop ends → IsEquivalence (AreInOneBlock ends)

-- the number of the one list that has s
pub record IsInOne (lists : List (List ℕ)) (s : ℕ) : Type 0 where
  pub list : ℕ
  pub there : StandsIn lists list s
  pub only : (i : ℕ) → StandsIn lists i s → i ≡ list

-- each segment stands in one block and in no other
abbrev pub BlocksPartSegments : Type 0
BlocksPartSegments = (web : Graph) (blocks : ListedBlocks) → AreBlocks web blocks → (s : ℕ) → s < length web.ends → IsInOne blocks.lists s
