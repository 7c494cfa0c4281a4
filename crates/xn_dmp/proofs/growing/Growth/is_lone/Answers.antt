use Rattle.std.proofs.Common.{◌≡◌, ◌<◌, true, ap, subst, arith}
use Rattle.xn_model.specs.Graph.{Graph}
use Rattle.xn_model.specs.Map.{is_lone}
use Rattle.xn_genus.proofs.Nodes.{lone_from}
use Rattle.xn_dmp.specs.Growing.{Grown}
use Rattle.xn_dmp.proofs.growing.Growth.is_lone.Goals as goal

pub returns-in-None : goal.returns-in-None
returns-in-None c =
    let P : Grown → Type 0 = λ x. (c.args.v < x.map.web.nodes) × (is_lone x.map.web.ends c.args.v ≡ true) in
    let below : c.args.v < c.self.inside.map.web.nodes = omega (arith, c.if-v-nodes.false, c.nodes.ensures.value, ap (λ (w : Graph). w.nodes) c.web.ensures.value) in
    subst P c.self.view_is (below, lone_from c.self.inside.map.web.ends c.args.v c.in-None.ensures.none)
