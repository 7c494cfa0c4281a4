use Rattle.std.proofs.Common.{ap, sym, ◌∙◌, arith}
use Rattle.std.proofs.lemmas.Result.{err_from_is_err_and}
use Rattle.xn_gml.specs.EdgeView.{edges_kept}
use Rattle.xn_gml.specs.Meaning.{edges_from}
use Rattle.xn_gml.proofs.BlockSteps.{edges_stop, edges_more, edges_done}
use Rattle.xn_gml.proofs.edges.edge_list.Goals as goal

pub returns-in_err-edges-clause-read : goal.returns-in_err-edges-clause-read
returns-in_err-edges-clause-read c =
    let p = err_from_is_err_and c.from_residual.result c.from_residual.ensures.1 in
    rw (p.1, p.2, ← c.loop-block.invariant.read, c.in-Some.ensures.some)
    (edges_stop c.args.ids.now.entries (edges_kept c.loop-block.edges) c.in-Some.block _ c.in_err-edges.field-0.0 c.in_err-edges.ensures.read)

pub loop-block-preserved : goal.loop-block-preserved
loop-block-preserved c = record {
  read = sym (sym c.loop-block.invariant.read ∙ ap (edges_from 1000 c.args.ids.now.entries (edges_kept c.loop-block.edges)) c.in-Some.ensures.some
      ∙ edges_more c.args.ids.now.entries (edges_kept c.loop-block.edges) c.in-Some.block _ (edges_kept c.in_ok-edges.edges) c.in_ok-edges.ensures.read);
  loops = omega (arith, c.in_ok-edges.ensures.loops, c.in-Some.ensures.shorter);
  few = c.in_ok-edges.ensures.few;
  inside = c.in_ok-edges.ensures.inside;
}

pub returns-clause-read : goal.returns-clause-read
returns-clause-read c =
    sym c.loop-block.invariant.read ∙ ap (edges_from 1000 c.args.ids.now.entries (edges_kept c.loop-block.edges)) c.in_default.ensures.none
    ∙ edges_done c.args.ids.now.entries (edges_kept c.loop-block.edges)
