-- A node with two darts that the map passes over.
use Rattle.std.specs.Prelude.{◌≡◌, ◌≢◌, ℕ, suc, ◌*◌, ◌/◌, ◌<◌, ◌==◌, List, length, if◌then◌else◌}
use Rattle.xn_model.specs.Graph.{Graph}
use Rattle.xn_model.specs.Lists.{at}
use Rattle.xn_model.specs.Map.{reverse_of, tail_of}
use Rattle.xn_surgery.specs.Smoothing.{IsSmoothing, dart_smoothed}
use Rattle.xn_map.specs.Changes.{new_name}
use Rattle.xn_map.specs.Listed.{ListedMap}

-- p and q are the darts of v, of two segments, and that of p has the smaller number
pub record AreTwoDarts (m : ListedMap) (v p q : ℕ) : Type 0 where
  pub first_in : p < 2 * length m.web.ends
  pub second_in : q < 2 * length m.web.ends
  pub at_node : tail_of m.web.ends p ≡ v
  pub to_second : at m.next p ≡ q
  pub to_first : at m.next q ≡ p
  pub smaller : p / 2 < q / 2

-- v has just two darts, of two segments
abbrev pub HasTwoDarts : ListedMap → ℕ → Type 0
HasTwoDarts m v = (p : ℕ) × (q : ℕ) × AreTwoDarts m v p q

-- v, of two darts, is gone: the segment of the first runs on to the far end of the second's, whose number the last segment
-- has, and the last node has v's
pub record Smooths (old : ListedMap) (v : ℕ) (new : ListedMap) : Type 0 where
  pub first : ℕ
  pub second : ℕ
  pub at_node : tail_of old.web.ends first ≡ v
  pub fewer : old.web.nodes ≡ suc new.web.nodes
  pub smoothed : IsSmoothing new.web.nodes old.web.ends (at old.next) first second new.web.ends (at new.next)

-- the dart in whose place d stands once p has gone to the far end of q
abbrev pub dart_run : ℕ → ℕ → ℕ → ℕ
dart_run p q d = if d == p then reverse_of q else d

-- p, which was in a ring with q alone, has the place of the reverse of q, and these two are alone
pub record RunsOn (p q : ℕ) (old new : List ℕ) : Type 0 where
  pub same_length : length new ≡ length old
  pub second_alone : at new q ≡ q
  pub far_alone : at new (reverse_of q) ≡ reverse_of q
  pub turns : (d : ℕ) → d < length old → d ≢ q → d ≢ reverse_of q → dart_run p q (at new d) ≡ at old (dart_run p q d)

-- what was at u is at v now
pub record MovesNode (u v : ℕ) (old new : Graph) : Type 0 where
  pub same_nodes : new.nodes ≡ old.nodes
  pub same_length : length new.ends ≡ length old.ends
  pub tails : (x : ℕ) → x < 2 * length old.ends → tail_of new.ends x ≡ new_name u v (tail_of old.ends x)

-- v, which had no dart, is gone, and the last node has its number
pub record LosesNode (v : ℕ) (old new : Graph) : Type 0 where
  pub fewer : old.nodes ≡ suc new.nodes
  pub same_length : length new.ends ≡ length old.ends
  pub tails : (x : ℕ) → x < 2 * length old.ends → tail_of new.ends x ≡ new_name new.nodes v (tail_of old.ends x)

-- the segment of p leads to the far end of q's, which is gone
pub record LeadsOn (p q : ℕ) (old new : Graph) : Type 0 where
  pub same_nodes : new.nodes ≡ old.nodes
  pub fewer : length old.ends ≡ suc (length new.ends)
  pub tails : (j : ℕ) → j < 2 * length new.ends → tail_of new.ends j ≡ tail_of old.ends (dart_smoothed p q (length new.ends) j)
