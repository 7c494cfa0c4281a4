use Rattle.std.proofs.Common.{◌∙◌, sym}
use Rattle.xn_model.specs.Web.{web_of}
use Rattle.xn_kinds.specs.Row.{orders_of}
use Rattle.xn_programs.proofs.Grown.{kind_of_held}
use Rattle.xn_programs.proofs.turns.keep.Goals as goal

pub push_row-requires-clause-kind : goal.push_row-requires-clause-kind
push_row-requires-clause-kind c =
    let row = c.args.row in
    kind_of_held (web_of c.args.graph.now row.edges (orders_of row)) row.evidence c.requires.row.evidence (sym c.has_extension.ensures ∙ c.if-has_extension.false)
