-- Files by their names, and what the calls of an input do to the bytes that are left.
use Rattle.std.specs.Prelude.{◌≡◌, ℕ, ◌<◌, List, [], ◌∷◌, length, take, if◌then◌else◌, Option, None, Some, unwrap_or, Result, OnOk, IfOk, IfSome, Vec, String}
use Rattle.std.specs.String.{string_bytes}
use Rattle.std.specs.declared.alloc.Global.{Global}
use Rattle.std.specs.Str.{bytes_eq}
use Rattle.std.specs.Io.KnownBytes.{Consumes, IsAtEnd}

-- names with their bytes
abbrev pub Files : Type 0
Files = List (List ℕ × List ℕ)

-- the bytes of the first entry with this name, if there is one
abbrev pub entry_of : Files → List ℕ → Option (List ℕ)
entry_of [] name = None
entry_of (file ∷ files) name = if bytes_eq name file.0 then Some file.1 else entry_of files name

-- a name has the bytes of its first entry, and none without one
abbrev pub bytes_of : Files → List ℕ → List ℕ
bytes_of files name = unwrap_or (entry_of files name) []

-- where the files are told, a begun name has all its bytes left
abbrev pub BeginsFile : {E : Type 0} → Option Files → List ℕ → Option (List ℕ) → Result Unit E → Type 0
BeginsFile told name left result = OnOk result (IfSome told (λ files. left ≡ Some (bytes_of files name)))

-- a read put the first bytes that were left into the front of the buffer, and none only at the end
abbrev pub Gives : {E : Type 0} → Option (List ℕ) → Option (List ℕ) → Result ℕ E → List ℕ → Type 0
Gives old new result buf = IfOk result (λ n. Consumes old new (take n buf) × (n ≡ 0 → 0 < length buf → IsAtEnd new))

-- the names and bytes that files in memory have
abbrev pub entries : List (String Global × Vec ℕ Global) → Files
entries [] = []
entries (file ∷ files) = (string_bytes file.0, file.1.items) ∷ entries files

-- these are all the bytes of the name, where the files are told
abbrev pub AreAllOf : Option Files → List ℕ → List ℕ → Type 0
AreAllOf told name bytes = IfSome told (λ files. bytes ≡ bytes_of files name)

-- the name has more bytes than the limit, where the files are told
abbrev pub IsLonger : Option Files → List ℕ → ℕ → Type 0
IsLonger told name limit = IfSome told (λ files. limit < length (bytes_of files name))
