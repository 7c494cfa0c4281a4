-- An input in memory, with calls that fail.
use Rattle.std.specs.Prelude.{◌≡◌, ℕ, List, Bool, ◌⊎◌, IsNone, min, length}
use Rattle.xn_io.specs.Calls.{IsFailing, Passes}
use Rattle.xn_io.specs.Input.{entry_of}
use Rattle.xn_io.specs.Shelf.{files_of, left_of}
use Rattle.xn_io.specs.declared.calls.Calls.{Calls}
use Rattle.xn_io.specs.declared.mem_input.MemInput.{MemInput}
use Rattle.xn_io.specs.declared.shelf.Shelf.{Shelf}

-- its files, and what of them is read
abbrev pub shelf_of : MemInput → Shelf
shelf_of input = input.shelf

-- its calls
abbrev pub calls_of : MemInput → Calls
calls_of input = input.calls

-- how many bytes a read gives at most
abbrev pub step_of : MemInput → ℕ
step_of input = input.step

-- how often a call failed
abbrev pub faults_of : MemInput → ℕ
faults_of input = input.faults

-- whether a call failed since the name was begun
abbrev pub has_failed : MemInput → Bool
has_failed input = input.failed

-- a begin fails where its number is one of those that fail, and where the name isn't listed
abbrev pub FailsToBegin : MemInput → List ℕ → Type 0
FailsToBegin input name = IsFailing (calls_of input) ⊎ IsNone (entry_of (files_of (shelf_of input)) name)

-- how many bytes a read gives: no more than a step, than the buffer takes, and than is left
abbrev pub amount_of : MemInput → List ℕ → ℕ
amount_of input buf = min (length buf) (min (step_of input) (length (left_of (shelf_of input))))

-- one call is numbered, and what the input was made with stays
pub record NumbersCall (old new : MemInput) : Type 0 where
  pub calls : Passes (calls_of old) (calls_of new)
  pub step : step_of new ≡ step_of old
