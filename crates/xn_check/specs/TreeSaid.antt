-- What the lines of an answer said of its tree so far.
use Rattle.std.specs.Prelude.{ℕ, ◌+◌, ◌-◌, ◌^◌, List, [], ◌∷◌, min}
use Rattle.xn_kinds.specs.State.{State, empty_state}
use Rattle.xn_proof.specs.declared.item.Item.{Item}
use Rattle.xn_proof.specs.declared.item.Item.TheVariants as item
use Rattle.xn_tree.specs.Walk.{after}

pub record TreeSaid : Type 0 where
  -- the states that the tree has still to prove, and how many nodes it has: the count stays at 2^64 - 1
  pub pending : List State
  pub nodes : ℕ

-- before the first line
abbrev pub no_tree : TreeSaid
no_tree = record { pending = empty_state ∷ []; nodes = 0 }

-- what is said with one line more
abbrev pub tree_said : TreeSaid → Item → TreeSaid
tree_said s (item.Step node) = record { pending = after s.pending node; nodes = min (s.nodes + 1) (2 ^ 64 - 1) }
tree_said s line = s
