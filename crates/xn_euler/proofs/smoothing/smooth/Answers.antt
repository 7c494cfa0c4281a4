use Rattle.std.proofs.Common.{ℕ, subst}
use Rattle.xn_model.specs.Lists.{at}
use Rattle.xn_model.specs.Map.{MeetsEuler, IsMap}
use Rattle.xn_surgery.proofs.Smooth.{smoothing_flat}
use Rattle.xn_euler.proofs.smoothing.smooth.Goals as goal

pub returns-clause-flat : goal.returns-clause-flat
returns-clause-flat c = λ flat.
    let old = c.args.map.now in
    let new = c.pass_node.new.self in
    let smooths = c.pass_node.ensures.smoothed in
    let M : ℕ → Type 0 = λ k. IsMap k old.web.ends (at old.next) in
    let F : ℕ → Type 0 = λ k. MeetsEuler k old.web.ends (at old.next) in
    (smoothing_flat new.web.nodes smooths.first smooths.second old.web.ends new.web.ends (at old.next) (at new.next)
    (subst M smooths.fewer c.pass_node.ensures.map.is_map) smooths.smoothed).0 (subst F smooths.fewer flat)
