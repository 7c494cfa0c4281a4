use Rattle.std.proofs.Common.{◌∙◌, List, ℕ, ap, subst}
use Rattle.xn_model.specs.Graph.{Graph}
use Rattle.xn_model.specs.Lists.{at}
use Rattle.xn_model.specs.Map.{IsFlat}
use Rattle.xn_model.specs.Orders.{order_at}
use Rattle.xn_model.specs.Web.{web_of}
use Rattle.xn_planar.specs.Planar.{IsPlanarity}
use Rattle.xn_cut.proofs.judging.judged.Goals as goal

pub returns-in-Flat : goal.returns-in-Flat
returns-in-Flat c =
    let graph = c.args.graph.now in
    let next = c.in-Flat.field-0.next in
    let web = c.in_ok-web.ensures.web ∙ ap (λ (es : List ℕ). web_of graph es (order_at es c.args.orders)) c.as_slice.ensures.value in
    let tested = subst (IsPlanarity c.in_ok-web.web) c.in-Flat.is c.in_ok-planar.ensures in
    (at next, subst (λ (w : Graph). IsFlat w (at next)) web tested.flat)
