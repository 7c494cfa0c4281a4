use Rattle.xn_track.proofs.Relink.{every_split_relinks, passes_can_be_relinked}
use Rattle.xn_track.proofs.laws.relinking.Goals as goal

pub returns-clause-every : goal.returns-clause-every
returns-clause-every c = every_split_relinks

pub returns-clause-there : goal.returns-clause-there
returns-clause-there c = passes_can_be_relinked
