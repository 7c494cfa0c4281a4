use Rattle.xn_simple.specs.Tangle.{lists_in}
use Rattle.xn_simple.proofs.LaidOut.{laid_kept}
use Rattle.xn_simple.proofs.taking_out.laid.Goals as goal

pub returns : goal.returns
returns c = laid_kept c.args.graph.now (lists_in c.args.tangle) (lists_in c.untangle.new.self) c.in_ok-laid.laid c.in_ok-untangle.ensures.0 c.in_ok-laid.ensures
