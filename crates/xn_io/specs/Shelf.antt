-- Files in memory, of which one is read.
use Rattle.std.specs.Prelude.{◌≡◌, ℕ, ◌+◌, List, [], ◌++◌, Option, None, Some, drop, take}
use Rattle.std.specs.Option.{option_map}
use Rattle.std.specs.String.{string_bytes}
use Rattle.xn_io.specs.Input.{Files, entries, bytes_of}
use Rattle.xn_io.specs.declared.shelf.Shelf.{Shelf}

-- the names and bytes of the files
abbrev pub files_of : Shelf → Files
files_of shelf = entries shelf.files.items

-- the name that was begun last
abbrev pub name_of : Shelf → Option (List ℕ)
name_of shelf = option_map string_bytes shelf.name

-- how many bytes of it were read
abbrev pub got_of : Shelf → ℕ
got_of shelf = shelf.got

-- the bytes of the name that was begun, and none without one
abbrev pub begun_bytes : Files → Option (List ℕ) → List ℕ
begun_bytes files None = []
begun_bytes files (Some name) = bytes_of files name

-- the bytes of the begun name that aren't read yet
abbrev pub left_of : Shelf → List ℕ
left_of shelf = drop (got_of shelf) (begun_bytes (files_of shelf) (name_of shelf))

-- a name is begun, and all its bytes are left
pub record BeginsName (old new : Shelf) (file : List ℕ) : Type 0 where
  pub name : name_of new ≡ Some file
  pub got : got_of new ≡ 0
  pub left : left_of new ≡ bytes_of (files_of old) file
  pub files : files_of new ≡ files_of old

-- the first bytes that were left are read into the front of a buffer
pub record ReadsBytes (old new : Shelf) (count : ℕ) (buf : List ℕ) : Type 0 where
  pub bytes : left_of old ≡ take count buf ++ left_of new
  pub got : got_of new ≡ got_of old + count
  pub name : name_of new ≡ name_of old
  pub files : files_of new ≡ files_of old
