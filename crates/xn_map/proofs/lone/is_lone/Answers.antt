use Rattle.xn_map.proofs.DartFound.{is_none-lone}
use Rattle.xn_map.proofs.lone.is_lone.Goals as goal

pub returns : goal.returns
returns c = is_none-lone c.args.web.now.ends c.args.v c.dart_of.result c.is_none.result c.is_none.ensures c.dart_of.ensures.some c.dart_of.ensures.none
