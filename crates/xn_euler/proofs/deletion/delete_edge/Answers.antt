use Rattle.std.proofs.Common.{ℕ, subst, sym}
use Rattle.xn_model.specs.Lists.{at}
use Rattle.xn_model.specs.Map.{MeetsEuler}
use Rattle.xn_genus.proofs.Delete.{flat_left}
use Rattle.xn_euler.proofs.deletion.delete_edge.Goals as goal

pub returns-clause-flat : goal.returns-clause-flat
returns-clause-flat c = λ flat.
    let old = c.args.map.now in
    let new = c.remove_edge.new.self in
    let deleted = c.remove_edge.ensures.deleted in
    let P : ℕ → Type 0 = λ k. MeetsEuler k new.web.ends (at new.next) in
    subst P (sym deleted.0) (flat_left old.web.nodes c.args.s old.web.ends new.web.ends (at old.next) (at new.next) c.remove_edge.ensures.map.is_map deleted.1 flat)
