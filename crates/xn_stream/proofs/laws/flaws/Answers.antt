use Rattle.xn_stream.proofs.Apart.{comes_without_flaw, flaws_stay, holds_one_flaw}
use Rattle.xn_stream.proofs.laws.flaws.Goals as goal

pub returns-clause-stay : goal.returns-clause-stay
returns-clause-stay c = flaws_stay

pub returns-clause-one : goal.returns-clause-one
returns-clause-one c = holds_one_flaw

pub returns-clause-none : goal.returns-clause-none
returns-clause-none c = comes_without_flaw
