use Rattle.std.proofs.Common.{◌≡◌, ℕ, ◌<◌, length}
use Rattle.xn_model.specs.Lists.{at}
use Rattle.xn_simple.proofs.turning.fill_places.Given as goal

-- the first darts have their places
abbrev pub invariant-loop-x : goal.invariant-loop-x
invariant-loop-x l = record {
  size : length l.places ≡ length l.initial.places;
  held : (y : ℕ) → y < l.x → at l.places (at l.starts y) ≡ y;
}
