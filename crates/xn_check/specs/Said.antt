-- What the lines of an answer said so far, as far as later lines are judged by it.
use Rattle.xn_proof.specs.declared.item.Item.{Item}
use Rattle.xn_check.specs.FrontSaid.{FrontSaid, front_said, no_front}
use Rattle.xn_proof.specs.RowsSaid.{RowsSaid, no_rows, rows_said}
use Rattle.xn_check.specs.TreeSaid.{TreeSaid, no_tree, tree_said}

pub record Said : Type 0 where
  pub front : FrontSaid
  pub rows : RowsSaid
  pub tree : TreeSaid

-- before the first line
abbrev pub nothing_said : Said
nothing_said = record { front = no_front; rows = no_rows; tree = no_tree }

-- what is said with one line more
abbrev pub said : Said → Item → Said
said s line = record { front = front_said s.front line; rows = rows_said s.rows line; tree = tree_said s.tree line }
