use Rattle.xn_check.proofs.Ends.{accepted_text_bounds}
use Rattle.xn_check.proofs.laws.accepted_bounds.Goals as goal

pub returns : goal.returns
returns c = accepted_text_bounds c.accepted_proofs.ensures c.all_drawings.ensures.drawings
