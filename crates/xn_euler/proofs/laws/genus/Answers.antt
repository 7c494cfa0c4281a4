use Rattle.xn_genus.proofs.Delete.{flat_left}
use Rattle.xn_genus.proofs.Euler.{euler}
use Rattle.xn_surgery.proofs.Resolve.{resolution_flat}
use Rattle.xn_surgery.proofs.Smooth.{smoothing_flat}
use Rattle.xn_surgery.proofs.Split.{flat_split}
use Rattle.xn_euler.proofs.laws.genus.Goals as goal

pub returns-clause-euler : goal.returns-clause-euler
returns-clause-euler c = euler

pub returns-clause-delete_edge : goal.returns-clause-delete_edge
returns-clause-delete_edge c = flat_left

pub returns-clause-split_node : goal.returns-clause-split_node
returns-clause-split_node c = flat_split

pub returns-clause-smooth : goal.returns-clause-smooth
returns-clause-smooth c = smoothing_flat

pub returns-clause-resolve : goal.returns-clause-resolve
returns-clause-resolve c = resolution_flat
