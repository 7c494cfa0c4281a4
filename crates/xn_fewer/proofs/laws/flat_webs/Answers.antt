use Rattle.xn_fewer.proofs.Flats.{bridge_flat, lone_comes_flat, named_flat, parallel_flat, some_flat}
use Rattle.xn_fewer.proofs.laws.flat_webs.Goals as goal

pub returns-clause-some : goal.returns-clause-some
returns-clause-some c = some_flat

pub returns-clause-renamed : goal.returns-clause-renamed
returns-clause-renamed c = named_flat

pub returns-clause-lone : goal.returns-clause-lone
returns-clause-lone c = lone_comes_flat

pub returns-clause-bridge : goal.returns-clause-bridge
returns-clause-bridge c = bridge_flat

pub returns-clause-parallel : goal.returns-clause-parallel
returns-clause-parallel c = parallel_flat
