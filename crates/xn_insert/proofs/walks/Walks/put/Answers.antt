use Rattle.std.proofs.Common.{set, ap, ◌∙◌}
use Rattle.std.specs.Vec.{vec_items}
use Rattle.std.proofs.lemmas.List.{map-set}
use Rattle.xn_insert.proofs.walks.Walks.put.Goals as goal

pub returns : goal.returns
returns c = map-set vec_items c.self.inside.lists.items c.args.e c.args.list ∙ ap (λ ls. set ls c.args.e c.args.list.items) c.self.view_is
