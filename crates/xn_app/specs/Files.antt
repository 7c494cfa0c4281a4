-- Reading the files of a command, and what the input shows at an end.
use Rattle.std.specs.Prelude.{◌≡◌, ◌⊎◌, ℕ, ◌^◌, ◌<◌, ◌≤◌, Bool, true, false, List, Option, Some, IfSome, Result, Ok, Err, IsOk}
use Rattle.xn_gml.specs.Meaning.{Found, graph_of_text}
use Rattle.xn_gml.specs.declared.errors.GmlErr.{GmlErr}
use Rattle.xn_io.specs.Causes.{Rose}
use Rattle.xn_io.specs.Input.{Files, IsLonger, bytes_of}
use Rattle.xn_command.specs.Request.{Request, check, draw, examine, sample, solve}
use Rattle.xn_app.specs.Outcome.{refused_graph}
use Rattle.xn_app.specs.declared.status.Limit.TheVariants.{Bytes}
use Rattle.xn_app.specs.declared.status.Status.{Status}
use Rattle.xn_app.specs.declared.status.Status.TheVariants.{Words, Limit, Read, Memory}

-- ---- names

-- this holds where what is asked has a file
abbrev pub WithFile : Request → Type 0 → Type 0
WithFile (sample nodes budget) P = Unit {0}
WithFile asked P = P

-- this holds where it has none
abbrev pub WithoutFile : Request → Type 0 → Type 0
WithoutFile (sample nodes budget) P = P
WithoutFile asked P = Unit {0}

-- the name begun last is that of the file that is read last, if there is one: the answer that is judged, or the graph that is
-- searched
abbrev pub IsLast : Option (List ℕ) → Request → Type 0
IsLast begun (solve graph budget) = begun ≡ Some graph
IsLast begun (sample nodes budget) = Unit {0}
IsLast begun (examine answer) = begun ≡ Some answer
IsLast begun (check graph answer) = begun ≡ Some answer
IsLast begun (draw graph answer) = begun ≡ Some answer

-- of two files the first was begun last, or the second once the text of the first has a graph
abbrev pub IsOneBegun : Option Files → Option (List ℕ) → List ℕ → List ℕ → Type 0
IsOneBegun told begun graph answer =
    (begun ≡ Some graph) ⊎ ((begun ≡ Some answer) × IfSome told (λ files. IsOk (graph_of_text (bytes_of files graph))))

-- the name begun last is that of the first file, if there is one, or of the second, if its turn came
abbrev pub IsLastBegun : Option Files → Option (List ℕ) → Request → Type 0
IsLastBegun told begun (solve graph budget) = begun ≡ Some graph
IsLastBegun told begun (sample nodes budget) = Unit {0}
IsLastBegun told begun (examine answer) = begun ≡ Some answer
IsLastBegun told begun (check graph answer) = IsOneBegun told begun graph answer
IsLastBegun told begun (draw graph answer) = IsOneBegun told begun graph answer

-- ---- what the input shows

-- no call failed since the last begin, and not too many bytes were given
pub record IsFine (failed : Bool) (got : ℕ) : Type 0 where
  pub no_fault : failed ≡ false
  pub few : got ≤ 2 ^ 62

-- the last call failed, and the count of faults rose
pub record HasFault (before after : ℕ) (failed : Bool) (got : ℕ) : Type 0 where
  pub rose : Rose before after
  pub fault : failed ≡ true
  pub few : got ≤ 2 ^ 62

-- of the name begun last too many bytes were given, and where it is told, it has them
pub record IsTooLong (told : Option Files) (begun : Option (List ℕ)) (failed : Bool) (got : ℕ) : Type 0 where
  pub no_fault : failed ≡ false
  pub many : 2 ^ 62 < got
  pub longer : IfSome begun (λ name. IsLonger told name (2 ^ 62))

-- what an input shows at an end: what it tells, the name begun last, the counts of faults before and after, and whether a
-- call failed and how many bytes were given since that begin
abbrev pub Shows : Option Files → Option (List ℕ) → ℕ → ℕ → Bool → ℕ → Status → Type 0
Shows told begun before after failed got Words = Unit {0}
Shows told begun before after failed got Memory = Unit {0}
Shows told begun before after failed got Read = HasFault before after failed got
Shows told begun before after failed got (Limit Bytes) = IsTooLong told begun failed got
Shows told begun before after failed got end = IsFine failed got

-- ---- ends without an answer's text

-- an end where a file wasn't read
abbrev pub EndsReading : Status → Type 0
EndsReading Memory = Unit {0}
EndsReading Read = Unit {0}
EndsReading (Limit Bytes) = Unit {0}
EndsReading end = ⊥

-- an end where a text has no graph
abbrev pub EndsWithout : Result Found GmlErr → Status → Type 0
EndsWithout (Ok found) end = ⊥
EndsWithout (Err e) end = end ≡ refused_graph e

-- an end where a graph's file or the answer's wasn't read, or the first has no graph
abbrev pub StopsReading : Option Files → List ℕ → Status → Type 0
StopsReading told graph end = EndsReading end ⊎ IfSome told (λ files. EndsWithout (graph_of_text (bytes_of files graph)) end)

-- the graph and the answer's text are those of the files
pub record AreRead (files : Files) (graph answer : List ℕ) (found : Found) (text : List ℕ) : Type 0 where
  pub graph_is : graph_of_text (bytes_of files graph) ≡ Ok found
  pub text_is : text ≡ bytes_of files answer
