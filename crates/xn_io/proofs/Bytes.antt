-- What is known of bytes as they are read and written a piece at a time.
use Rattle.std.proofs.Common.{◌≡◌, ℕ, ◌+◌, List, ◌++◌, Option, None, Some, take, drop}
use Rattle.std.proofs.Math.Seq.{take-add}
use Rattle.std.proofs.KnownBytes.{Appends-trans}
use Rattle.std.specs.Io.KnownBytes.{Appends}
use Rattle.xn_io.specs.Input.{Files, bytes_of}

-- where the files are told, these bytes of the name were read, and the others are left
abbrev pub HasRead : Option Files → List ℕ → List ℕ → Option (List ℕ) → Type 0
HasRead None name bytes left = Unit {0}
HasRead (Some files) name bytes None = ⊥
HasRead (Some files) name bytes (Some rest) = bytes_of files name ≡ bytes ++ rest

-- the first n bytes, and then m more
pub Appends-take : (a b c : Option (List ℕ)) (bs : List ℕ) (n m : ℕ) → Appends a b (take n bs) → Appends b c (take m (drop n bs)) → Appends a c (take (n + m) bs)
Appends-take a b c bs n m p q = rw (take-add n m bs) (Appends-trans a b c (take n bs) (take m (drop n bs)) p q)
