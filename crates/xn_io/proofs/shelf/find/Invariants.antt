use Rattle.std.proofs.Common.{◌≡◌, drop}
use Rattle.xn_io.specs.Input.{entries, entry_of}
use Rattle.xn_io.proofs.shelf.find.Given as goal

abbrev pub invariant-loop-file : goal.invariant-loop-file
invariant-loop-file l = entry_of (entries l.files) l.name ≡ entry_of (entries (drop l.file-index l.files)) l.name
