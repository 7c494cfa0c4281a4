-- Worked examples of rows, bounds and proof trees.
use Rattle.std.specs.Prelude.{◌^◌, pos, ◌-ℤ◌, ◌*ℤ◌, false, List, [], ◌∷◌, ◌++◌, take, replicate}
use Rattle.std.specs.List.{range_with_len}
use Rattle.xn_model.specs.Examples.{k5}
use Rattle.xn_model.specs.Graph.{Graph}
use Rattle.xn_kinds.specs.Bound.{IsBound, IsStrong}
use Rattle.xn_kinds.specs.Row.{RowHolds}
use Rattle.xn_kinds.specs.State.{decide, empty_state}
use Rattle.xn_kinds.specs.Tree.{Accepts, BeginsProof, Proves}
use Rattle.xn_kinds.specs.declared.rows.Evidence.{Evidence}
use Rattle.xn_kinds.specs.declared.rows.Evidence.TheVariants.{Five}
use Rattle.xn_kinds.specs.declared.rows.Row.{Row}
use Rattle.xn_kinds.specs.declared.trees.Node.{Node}
use Rattle.xn_kinds.specs.declared.trees.Node.TheVariants.{Pair, Place, Leaf}

-- the edges of K5 join each two of its nodes
abbrev pub k5_evidence : Evidence
k5_evidence =
    Five (0 ∷ 1 ∷ 2 ∷ 3 ∷ 4 ∷ [])
    ((0 ∷ []) ∷ (1 ∷ []) ∷ (2 ∷ []) ∷ (3 ∷ []) ∷ (4 ∷ []) ∷ (5 ∷ []) ∷ (6 ∷ []) ∷ (7 ∷ []) ∷ (8 ∷ []) ∷ (9 ∷ []) ∷ [])

-- no two of the edges 0 to 9 cross
abbrev pub k5_row : Row
k5_row = record { edges = range_with_len 0 10; orders = replicate 10 []; evidence = k5_evidence }

-- the leaf that takes the first row once
abbrev pub one_row : Node
one_row = Leaf 1 ((0, 1) ∷ [])

-- the row holds, its bounds once and twice, and the proof of one crossing that it gives
pub record OneRowOfK5 : Type 0 where
  pub holds : RowHolds k5 k5_row
  pub once : IsBound k5 (k5_row ∷ []) empty_state 1 ((0, 1) ∷ []) (pos 1)
  pub twice : IsBound k5 (k5_row ∷ []) empty_state 1 ((0, 2) ∷ []) (pos 2 -ℤ pos 15)
  pub accepted : Accepts k5 1 (k5_row ∷ []) (one_row ∷ [])
  pub not_two : ¬ (Proves k5 2 (k5_row ∷ []) empty_state (one_row ∷ []))

-- K5 and two edges apart from it
abbrev pub k5_and_two : Graph
k5_and_two = record { nodes = 9; ends = k5.ends ++ (5, 6) ∷ (7, 8) ∷ [] }

-- of all its edges only the two far ones cross
abbrev pub crossed_row : Row
crossed_row = record { edges = range_with_len 0 12; orders = replicate 10 [] ++ (11 ∷ []) ∷ (10 ∷ []) ∷ []; evidence = k5_evidence }

-- the row with the greatest multiplier, where the far edges don't cross: a weak leaf
pub record WeakLeaf : Type 0 where
  pub holds : RowHolds k5_and_two crossed_row
  pub bound : IsBound k5_and_two (crossed_row ∷ []) (decide empty_state 10 11 false) 1 ((0, 9223372036854775807) ∷ []) (pos 35 *ℤ (pos 2 -ℤ pos (2 ^ 63)))
  pub weak : ¬ (IsStrong k5_and_two 1 (crossed_row ∷ []) (decide empty_state 10 11 false) 1 ((0, 9223372036854775807) ∷ []))

-- a tree that decides two pairs and places two edges
abbrev pub branched : List Node
branched = Pair 10 11 ∷ one_row ∷ Pair 0 10 ∷ one_row ∷ Place 10 11 ∷ Place 10 0 ∷ one_row ∷ one_row ∷ []

-- it proves one crossing, and without its last leaf it only begins such a proof
pub record BranchedTree : Type 0 where
  pub accepted : Accepts k5_and_two 1 (k5_row ∷ []) branched
  pub begins : BeginsProof k5_and_two 1 (k5_row ∷ []) (take 7 branched)
  pub not_yet : ¬ (Proves k5_and_two 1 (k5_row ∷ []) empty_state (take 7 branched))
