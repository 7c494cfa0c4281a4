-- A sink in memory, with a room, a step and writes that fail.
use Rattle.std.specs.Prelude.{◌≡◌, ℕ, ◌-◌, ◌<◌, List, Option, Some, ◌⊎◌, min, length}
use Rattle.xn_io.specs.Calls.{IsFailing, Passes}
use Rattle.xn_io.specs.declared.calls.Calls.{Calls}
use Rattle.xn_io.specs.declared.mem_sink.MemSink.{MemSink}

-- the bytes that it took, all of which it tells
abbrev pub taken_by : MemSink → Option (List ℕ)
taken_by sink = Some sink.taken.items

-- how often a write failed
abbrev pub faults_of : MemSink → ℕ
faults_of sink = sink.faults

-- its writes
abbrev pub writes_of : MemSink → Calls
writes_of sink = sink.writes

-- how many bytes it takes in all
abbrev pub room_of : MemSink → ℕ
room_of sink = sink.room

-- how many bytes more it takes
abbrev pub left_in : MemSink → ℕ
left_in sink = room_of sink - length sink.taken.items

-- how many bytes a write takes at most
abbrev pub step_of : MemSink → ℕ
step_of sink = sink.step

-- a write fails where its number is one of those that fail, and where bytes come and no room is left
abbrev pub FailsToWrite : MemSink → List ℕ → Type 0
FailsToWrite sink piece = IsFailing (writes_of sink) ⊎ ((0 < length piece) × (left_in sink ≡ 0))

-- how many bytes a write takes: no more than a step, than come, and than there is room
abbrev pub amount_of : MemSink → List ℕ → ℕ
amount_of sink piece = min (length piece) (min (step_of sink) (left_in sink))

-- one write is numbered, and what the sink was made with stays
pub record NumbersWrite (old new : MemSink) : Type 0 where
  pub writes : Passes (writes_of old) (writes_of new)
  pub room : room_of new ≡ room_of old
  pub step : step_of new ≡ step_of old
