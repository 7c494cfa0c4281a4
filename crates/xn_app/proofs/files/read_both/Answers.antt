use Rattle.xn_gml.specs.ReadView.{found_in}
use Rattle.xn_app.proofs.Graphs.{ids_fit}
use Rattle.xn_app.proofs.files.read_both.Goals as goal

pub returns-clause-ids : goal.returns-clause-ids
returns-clause-ids g c = ids_fit c.deref.result.now (found_in c.in_ok-read.read) c.in_ok-read.ensures.read
