use Rattle.std.proofs.Common.{refl}
use Rattle.std.proofs.lemmas.Result.{err_from_is_err_and}
use Rattle.xn_check.specs.Judge.{graph_kept, kept_of, said_of}
use Rattle.xn_check.proofs.Lines.{extension_judged, front_refused}
use Rattle.xn_check.proofs.judge.Judge.item.Goals as goal

pub returns-in_err-test-in_default : goal.returns-in_err-test-in_default
returns-in_err-test-in_default c =
    let k = kept_of c.self.inside.forms c.self.inside.loops c.self.inside.front c.self.inside.rows c.self.inside.tree in
    let p = err_from_is_err_and c.from_residual-in_err-test-in_default.result c.from_residual-in_err-test-in_default.ensures.1 in
    let d = c.in_default in
    rw (← c.self.view_is, p.1, p.2) (record {
      at = refl;
      task = record { graph = refl; loops = refl };
      judged =
          front_refused (graph_kept k) c.graph-graph.result.now c.self.inside.loops c.args.number (said_of k) c.args.item
          d.not-Over d.not-Branch d.not-Path d.not-Extension d.not-Step d.not-End c.in_err-test-in_default.field-0.0 c.graph-graph.ensures c.in_err-test-in_default.ensures;
    })

pub returns-in-Extension-clause-judged : goal.returns-in-Extension-clause-judged
returns-in-Extension-clause-judged c =
    let k = kept_of c.self.inside.forms c.self.inside.loops c.self.inside.front c.self.inside.rows c.self.inside.tree in
    rw (← c.self.view_is, c.in-Extension.is)
    (extension_judged (graph_kept k) c.graph-graph.result.now c.self.inside.loops c.args.number (said_of k)
    c.in-Extension.list c.extension.new.self c.extension.result c.graph-graph.ensures c.extension.ensures.said c.extension.ensures.judged)
