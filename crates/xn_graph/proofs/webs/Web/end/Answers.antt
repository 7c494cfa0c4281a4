use Rattle.std.proofs.Common.{ℕ, ◌<◌, sym, subst, length}
use Rattle.std.proofs.lemmas.List.{get_or_read}
use Rattle.xn_graph.specs.Limits.{HasNodes}
use Rattle.xn_graph.proofs.Ends.{EndsIn-at}
use Rattle.xn_graph.proofs.webs.Web.end.Goals as goal

pub returns-clause-nodes : goal.returns-clause-nodes
returns-clause-nodes c =
    let w = c.self.inside in
    let below : c.args.s < length w.ends.items = rw (← c.self.view_is) at c.requires in
    let P : ℕ × ℕ → Type 0 = HasNodes w.nodes in
    rw (← c.self.view_is) (subst P (sym (get_or_read w.ends.items _ _ below c.index.ensures (0, 0)))
    (EndsIn-at w.nodes w.ends.items c.self.invariant.ends_in c.args.s below))
