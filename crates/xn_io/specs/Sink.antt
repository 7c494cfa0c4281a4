-- What a sink takes of the pieces that come.
use Rattle.std.specs.Prelude.{◌≡◌, ℕ, ◌<◌, List, length, take, Option, Result, IfOk}
use Rattle.std.specs.Io.KnownBytes.{Appends}
use Rattle.xn_io.specs.Causes.{Rose}

-- a write that takes nothing of a piece that isn't empty raises the count of faults
abbrev pub CountsStuck : {E : Type 0} → ℕ → ℕ → Result ℕ E → List ℕ → Type 0
CountsStuck before now result piece = IfOk result (λ n. n ≡ 0 → 0 < length piece → Rose before now)

-- some of the bytes were taken, from the front, and not all
abbrev pub TakesPart : Option (List ℕ) → Option (List ℕ) → List ℕ → Type 0
TakesPart old new bytes = (n : ℕ) × (n < length bytes) × Appends old new (take n bytes)
