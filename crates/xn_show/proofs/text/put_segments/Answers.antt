use Rattle.xn_model.specs.Graph.{ends_at}
use Rattle.xn_model.specs.Lists.{at}
use Rattle.xn_show.specs.Text.{segment_line}
use Rattle.xn_show.proofs.Appended.{each_more}
use Rattle.xn_show.proofs.text.put_segments.Goals as goal

pub loop-s-preserved : goal.loop-s-preserved
loop-s-preserved c =
    each_more (λ s. segment_line s (ends_at c.args.web.now.ends s) (at c.args.of.now s)) c.loop-s.s c.args.to.now.items c.loop-s.to.items c.put_segment.new.to.items c.loop-s.invariant
    (rw c.end.ensures.value at c.in_ok-put_segment.ensures)
