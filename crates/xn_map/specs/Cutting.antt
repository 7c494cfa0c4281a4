-- What it leaves to split a node.
use Rattle.std.specs.Prelude.{◌≡◌, ℕ, ◌+◌, ◌*◌, ◌<◌, ◌==◌, length, if◌then◌else◌}
use Rattle.xn_model.specs.Graph.{Graph}
use Rattle.xn_model.specs.Lists.{at}
use Rattle.xn_model.specs.Map.{tail_of}
use Rattle.xn_surgery.specs.Splitting.{InArc, IsSplit}
use Rattle.xn_map.specs.Listed.{ListedMap}

-- one node more, the last, which has the darts from a up to the one before b
abbrev pub Splits : ListedMap → ℕ → ℕ → ListedMap → Type 0
Splits old a b new =
    (new.web.nodes ≡ old.web.nodes + 1)
    × IsSplit old.web.nodes old.web.ends (at old.next) a b new.web.ends (at new.next)

-- the dart d is at the node v, and no other has moved
pub record MovesDart (d v : ℕ) (old new : Graph) : Type 0 where
  pub same_nodes : new.nodes ≡ old.nodes
  pub same_length : length new.ends ≡ length old.ends
  pub tails : (x : ℕ) → x < 2 * length old.ends → tail_of new.ends x ≡ (if x == d then v else tail_of old.ends x)

-- the darts from a up to the one before b are at the node v, and no other has moved
pub record MovesArc (next : ℕ → ℕ) (a b v : ℕ) (old new : Graph) : Type 0 where
  pub same_nodes : new.nodes ≡ old.nodes
  pub same_length : length new.ends ≡ length old.ends
  pub moved : (x : ℕ) → x < 2 * length old.ends → InArc next a b x → tail_of new.ends x ≡ v
  pub stayed : (x : ℕ) → x < 2 * length old.ends → (InArc next a b x → ⊥) → tail_of new.ends x ≡ tail_of old.ends x
