-- The codes of the ends, and at which what is written.
use Rattle.std.specs.Prelude.{ℕ}
use Rattle.xn_io.specs.declared.reading.ReadErr.{ReadErr}
use Rattle.xn_io.specs.declared.reading.ReadErr.TheVariants as reading
use Rattle.xn_app.specs.declared.status.Limit.TheVariants.{Bytes}
use Rattle.xn_app.specs.declared.status.Status as status
use Rattle.xn_app.specs.declared.status.Status.TheVariants.{Done, Refused, Words, Graph, Limit as Limited, Read, Undecided, Write, Memory}

abbrev pub code_of : status.Status → ℕ
code_of Done = 0
code_of (Refused flaw) = 1
code_of Words = 2
code_of (Graph e) = 3
code_of (Limited limit) = 4
code_of (Undecided lower upper spent) = 5
code_of Read = 6
code_of Write = 7
code_of Memory = 8

-- an end at which the sink is untouched
abbrev pub IsSilent : status.Status → Type 0
IsSilent Done = ⊥
IsSilent (Refused flaw) = ⊥
IsSilent (Undecided lower upper spent) = ⊥
IsSilent Write = ⊥
IsSilent end = Unit {0}

-- an end to which a verdict or a search leads
abbrev pub IsVerdictEnd : status.Status → Type 0
IsVerdictEnd Done = Unit {0}
IsVerdictEnd (Refused flaw) = Unit {0}
IsVerdictEnd (Undecided lower upper spent) = Unit {0}
IsVerdictEnd end = ⊥

-- an end to which a search leads
abbrev pub IsSearchEnd : status.Status → Type 0
IsSearchEnd Done = Unit {0}
IsSearchEnd (Undecided lower upper spent) = Unit {0}
IsSearchEnd end = ⊥

-- an end at which the command's last file was judged, or its graph searched
abbrev pub IsJudgedEnd : status.Status → Type 0
IsJudgedEnd Done = Unit {0}
IsJudgedEnd (Refused flaw) = Unit {0}
IsJudgedEnd (Undecided lower upper spent) = Unit {0}
IsJudgedEnd Write = Unit {0}
IsJudgedEnd end = ⊥

-- an end after a file of the command was begun
abbrev pub IsStarted : status.Status → Type 0
IsStarted Words = ⊥
IsStarted Memory = ⊥
IsStarted end = Unit {0}

-- an end before an answer was judged, where there was a command
abbrev pub IsEarly : status.Status → Type 0
IsEarly (Graph e) = Unit {0}
IsEarly (Limited limit) = Unit {0}
IsEarly Read = Unit {0}
IsEarly Memory = Unit {0}
IsEarly end = ⊥

-- an end that says nothing of the files: a fault, want of memory, or a file of too many bytes
abbrev pub IsAside : status.Status → Type 0
IsAside (Limited Bytes) = Unit {0}
IsAside Read = Unit {0}
IsAside Write = Unit {0}
IsAside Memory = Unit {0}
IsAside end = ⊥

-- the end where a file wasn't read
abbrev pub status_of_read : ReadErr → status.Status
status_of_read reading.Fault = Read
status_of_read reading.TooLong = Limited Bytes
status_of_read reading.Memory = Memory
