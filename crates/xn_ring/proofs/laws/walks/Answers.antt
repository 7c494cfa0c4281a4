use Rattle.xn_ring.proofs.Agreeing.{goes_the_same_ways}
use Rattle.xn_ring.proofs.Orbits.{cases_reaches, comes_back, reaches_back, reaches_below, reaches_trans, source_of}
use Rattle.xn_ring.proofs.laws.walks.Goals as goal

pub returns-clause-come_back : goal.returns-clause-come_back
returns-clause-come_back c = comes_back

pub returns-clause-lead_back : goal.returns-clause-lead_back
returns-clause-lead_back c = λ n f permutes d e d_in there. (reaches_below n f permutes d e d_in there, reaches_back n f permutes d e d_in there)

pub returns-clause-go_on : goal.returns-clause-go_on
returns-clause-go_on c = reaches_trans

pub returns-clause-decided : goal.returns-clause-decided
returns-clause-decided c = cases_reaches

pub returns-clause-led_to : goal.returns-clause-led_to
returns-clause-led_to c = source_of

pub returns-clause-agreeing : goal.returns-clause-agreeing
returns-clause-agreeing c = goes_the_same_ways
