use Rattle.std.proofs.Common.{List, ℕ, refl, subst}
use Rattle.xn_simple.specs.Tangle.{IsNoted}
use Rattle.xn_simple.proofs.Within.{vec_set}
use Rattle.xn_simple.proofs.tangle.Tangle.put.Goals as goal

pub returns : goal.returns
returns c =
    let old = c.args.self.now in
    let new = c.note.new.self in
    let P : List ℕ → Type 0 = λ w. IsNoted c.args.e w old.notes.owners.items old.notes.places.items new.owners.items new.places.items in
    record {
      same_map = refl;
      same_edges = refl;
      same_marks = refl;
      walks = vec_set old.walks.items c.args.e c.args.walk;
      noted = subst P c.deref.ensures.value c.note.ensures;
    }
