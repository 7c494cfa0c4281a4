use Rattle.std.proofs.Common.{subst}
use Rattle.std.specs.Prelude.{MatchOption}
use Rattle.xn_insert.specs.Search.{IsFound, NoneFound}
use Rattle.xn_insert.proofs.routes.route_between.Goals as goal

pub read_back-requires-clause-chain : goal.read_back-requires-clause-chain
read_back-requires-clause-chain c =
    let names = c.args.names.now in
    let goals = c.args.by.now in
    let starts = c.args.starts.now in
    let found = subst (λ o. MatchOption o (NoneFound names goals starts) (λ p. IsFound names goals starts c.nearest.new.by p.0 p.1)) c.in-Some.is c.in_ok-face.ensures in
    found.leads.0
