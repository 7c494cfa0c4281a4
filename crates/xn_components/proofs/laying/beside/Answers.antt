use Rattle.std.proofs.Common.{◌+◌, ◌∷◌, ◌++◌, [], List, ℕ, length, ap, subst, arith}
use Rattle.xn_components.proofs.Beside.{BesideUpTo, beside_all, beside_more, beside_start}
use Rattle.xn_components.proofs.laying.beside.Goals as goal

pub loop-d-init : goal.loop-d-init
loop-d-init c = beside_start c.args.next.items c.args.map.now.next
