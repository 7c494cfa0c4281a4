use Rattle.xn_answers.proofs.Formed.{well_formed}
use Rattle.xn_answers.proofs.laws.answers.Goals as goal

pub returns : goal.returns
returns c =
    well_formed c.trees_go_through_states.ensures.empty c.trees_go_through_states.ensures.children c.all_drawings.ensures.drawings
    c.accepted_proofs.ensures
