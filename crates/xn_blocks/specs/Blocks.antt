-- The blocks of a web and its cut nodes, as lists.
use Rattle.std.specs.Prelude.{◌≡◌, ℕ, ◌<◌, ◌↔◌, true, List, [], Vec, length, slice_index_or}
use Rattle.std.specs.Global.{Global}
use Rattle.std.specs.List.Sorted.{IsStrictlyIncreasing}
use Rattle.xn_model.specs.Cycles.{AreInOneBlock, IsCut}
use Rattle.xn_model.specs.Graph.{Graph}
use Rattle.xn_model.specs.Lists.{at, has}
use Rattle.xn_list.specs.Lists.{lists_of}

-- lists of segments, and nodes
pub record ListedBlocks : Type 0 where
  pub lists : List (List ℕ)
  pub cuts : List ℕ

-- the lists of vectors, and the cut nodes
abbrev pub listed_blocks : List (Vec ℕ Global) → List ℕ → ListedBlocks
listed_blocks lists cuts = record { lists = lists_of lists; cuts = cuts }

abbrev pub list_at : List (List ℕ) → ℕ → List ℕ
list_at lists i = slice_index_or lists i []

abbrev pub block_at : ListedBlocks → ℕ → List ℕ
block_at blocks i = list_at blocks.lists i

-- the segment stands in the list i
abbrev pub StandsIn : List (List ℕ) → ℕ → ℕ → Type 0
StandsIn lists i s = (i < length lists) × (has (list_at lists i) s ≡ true)

-- the numbers below n are parted into lists that aren't empty and rise, in the order of their least;
-- two stand in one list exactly where they belong together
pub record IsPartition (n : ℕ) (Together : ℕ → ℕ → Type 0) (lists : List (List ℕ)) : Type 0 where
  pub some : (i : ℕ) → i < length lists → 0 < length (list_at lists i)
  pub rise : (i : ℕ) → i < length lists → IsStrictlyIncreasing (list_at lists i)
  pub in_order : (i j : ℕ) → i < j → j < length lists → at (list_at lists i) 0 < at (list_at lists j) 0
  pub within : (i s : ℕ) → StandsIn lists i s → s < n
  pub each : (s : ℕ) → s < n → (i : ℕ) × StandsIn lists i s
  pub together : (i j s t : ℕ) → StandsIn lists i s → StandsIn lists j t → (i ≡ j) ↔ Together s t

-- the list rises, and has exactly the numbers below n of which this is so
pub record ListsAll (n : ℕ) (P : ℕ → Type 0) (list : List ℕ) : Type 0 where
  pub rise : IsStrictlyIncreasing list
  pub within : (v : ℕ) → has list v ≡ true → v < n
  pub exactly : (v : ℕ) → v < n → (has list v ≡ true) ↔ P v

-- the lists are the blocks of the web, and the nodes its cut nodes
pub record AreBlocks (web : Graph) (blocks : ListedBlocks) : Type 0 where
  pub parts : IsPartition (length web.ends) (AreInOneBlock web.ends) blocks.lists
  pub cuts : ListsAll web.nodes (IsCut web.ends) blocks.cuts
