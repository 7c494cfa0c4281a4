-- The two lists that hold a `Rings`.
use Rattle.std.specs.Prelude.{◌≡◌, ℕ, ◌^◌, ◌<◌, ◌≤◌, List, length}
use Rattle.xn_model.specs.Lists.{at}

-- each of two lists of one length undoes the other
pub record AreInverse (next prev : List ℕ) : Type 0 where
  pub same_length : length prev ≡ length next
  pub next_below : (d : ℕ) → d < length next → at next d < length next
  pub prev_below : (d : ℕ) → d < length next → at prev d < length next
  pub prev_next : (d : ℕ) → d < length next → at prev (at next d) ≡ d
  pub next_prev : (d : ℕ) → d < length next → at next (at prev d) ≡ d

-- the successors and what leads to each, of at most 2^31 darts
pub record AreRings (next prev : List ℕ) : Type 0 where
  pub inverse : AreInverse next prev
  pub small : length next ≤ 2 ^ 31
