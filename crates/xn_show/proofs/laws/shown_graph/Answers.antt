use Rattle.xn_show.proofs.Shown.{shown_graph}
use Rattle.xn_show.proofs.laws.shown_graph.Goals as goal

pub returns : goal.returns
returns c = λ g ids d most limited ids_fit drawing nodes_room ends_room. shown_graph g ids d limited ids_fit drawing most nodes_room ends_room
