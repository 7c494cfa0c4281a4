use Rattle.xn_reach.proofs.Reached.{flat_where_end_is_reached, stuck_where_not_flat}
use Rattle.xn_reach.proofs.laws.listed_webs.Goals as goal

pub returns-clause-reached : goal.returns-clause-reached
returns-clause-reached c = flat_where_end_is_reached

pub returns-clause-stuck : goal.returns-clause-stuck
returns-clause-stuck c = stuck_where_not_flat
