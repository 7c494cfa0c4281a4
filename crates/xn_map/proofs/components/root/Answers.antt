use Rattle.std.proofs.Common.{◌<◌, ◌≤◌, length, ◌∙◌, sym, arith, length-set}
use Rattle.xn_model.specs.Lists.{at}
use Rattle.xn_map.proofs.Forest.{IsForest-set, root_of-halved, root_of-own, root_of-parent}
use Rattle.xn_map.proofs.components.root.Goals as goal

pub loop-parents-preserved : goal.loop-parents-preserved
loop-parents-preserved c =
    let parents = c.loop-parents.parents in
    let w = c.loop-parents.w in
    let old = c.loop-parents.invariant in
    let p = at parents w in
    let low : p ≤ w = old.forest w old.node in
    let lower : at parents p ≤ p = old.forest p (omega (arith, old.node)) in
    let same_root = root_of-halved parents old.forest w old.node in
    let up = at parents p in
    let up_in : up < length parents = omega (arith, old.node) in
    record {
      forest = IsForest-set parents old.forest w up old.node (omega arith);
      node = omega (arith, up_in, length-set parents w up);
      root =
          same_root up up_in ∙ root_of-parent parents old.forest p (omega (arith, old.node))
          ∙ root_of-parent parents old.forest w old.node ∙ old.root;
      kept = λ x x_in. same_root x (omega (arith, x_in, c.loop-parents.auto.parents)) ∙ old.kept x x_in;
    }

pub returns-clause-root : goal.returns-clause-root
returns-clause-root c =
    let old = c.loop-parents.invariant in
    sym (root_of-own c.loop-parents.parents old.forest c.loop-parents.w c.loop-parents-test.false) ∙ old.root
