use Rattle.std.proofs.Common.{drop, refl, sym, take-append-drop}
use Rattle.std.proofs.lemmas.List.{drop-drop}
use Rattle.xn_io.specs.Shelf.{files_of, name_of, got_of, begun_bytes}
use Rattle.xn_io.proofs.shelf.Shelf.read.Goals as goal

-- the bytes that were read stand before those that are left
pub returns-clause-reads : goal.returns-clause-reads
returns-clause-reads c =
    let bytes = begun_bytes (files_of c.args.self.now) (name_of c.args.self.now) in
    let got = got_of c.args.self.now in
    let count = c.copy_front-count.result in
    record {
      bytes = rw (c.copy_front-count.ensures.bytes, c.left.ensures.left, ← drop-drop count got bytes) (sym (take-append-drop count (drop got bytes)));
      got = refl;
      name = refl;
      files = refl;
    }
