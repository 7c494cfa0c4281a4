use Rattle.xn_general.proofs.Bounds.{drawings_give_simple_ones, least_is_of_all_drawings, most_is_of_all_drawings, simple_drawings_are_drawings}
use Rattle.xn_general.proofs.laws.all_drawings.Goals as goal

pub returns-clause-drawings : goal.returns-clause-drawings
returns-clause-drawings c = simple_drawings_are_drawings

pub returns-clause-simple : goal.returns-clause-simple
returns-clause-simple c = drawings_give_simple_ones

pub returns-clause-least : goal.returns-clause-least
returns-clause-least c = least_is_of_all_drawings

pub returns-clause-most : goal.returns-clause-most
returns-clause-most c = most_is_of_all_drawings
