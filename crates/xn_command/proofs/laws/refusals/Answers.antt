use Rattle.xn_command.proofs.Refusals.{refused_exactly}
use Rattle.xn_command.proofs.laws.refusals.Goals as goal

pub returns : goal.returns
returns c = refused_exactly
