use Rattle.std.proofs.Common.{◌∙◌, ap}
use Rattle.xn_model.specs.Lists.{has}
use Rattle.xn_tree.proofs.Edges.{is_found}
use Rattle.xn_tree.proofs.lists.is_edge.Goals as goal

pub returns : goal.returns
returns c =
    c.is_ok.ensures.value
    ∙ is_found c.as_slice.result.now c.args.e (rw (← c.as_slice.ensures) at c.requires) c.binary_search.result c.binary_search.ensures.position
    ∙ ap (λ xs. has xs c.args.e) c.as_slice.ensures
