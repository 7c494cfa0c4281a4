use Rattle.xn_show.proofs.TurnsRound.{turns_go_round}
use Rattle.xn_show.proofs.laws.shown_turns.Goals as goal

pub returns : goal.returns
returns c = turns_go_round
