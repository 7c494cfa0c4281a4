use Rattle.std.proofs.Common.{◌≡◌, ◌<◌, ◌∙◌, length, ap, sym, arith}
use Rattle.xn_model.specs.Lists.{at}
use Rattle.xn_map.specs.Forest.{root_of}
use Rattle.xn_map.proofs.Forest.{root_own, root_of-joined, root_of-own}
use Rattle.xn_map.proofs.components.join.Goals as goal

pub returns-clause-joined : goal.returns-clause-joined
returns-clause-joined c = λ w w_in.
    let first = c.root-a.new.parents in
    let second = c.root-b.new.parents in
    let a = c.root-a.result in
    let b = c.root-b.result in
    let a_in : a < length first = omega (arith, c.root-a.ensures.within, c.root-a.auto.parents) in
    let a_root : root_of second a ≡ a = c.root-b.ensures.kept a a_in ∙ root_of-own first c.root-a.ensures.forest a c.root-a.ensures.own in
    let a_own : at second a ≡ a = ap (at second) (sym a_root) ∙ root_own second c.root-b.ensures.forest a (omega (arith, a_in, c.root-b.auto.parents)) ∙ a_root in
    let w_root : root_of second w ≡ root_of c.args.parents.now w = c.root-b.ensures.kept w (omega (arith, w_in, c.root-a.auto.parents)) ∙ c.root-a.ensures.kept w w_in in
    let v_root : b ≡ root_of c.args.parents.now c.args.v = c.root-b.ensures.root ∙ c.root-a.ensures.kept c.args.v c.requires.v_in in
    let all = root_of-joined second c.root-b.ensures.forest a b (omega (arith, a_in, c.root-b.auto.parents)) (omega (arith, c.root-b.ensures.within, c.root-b.auto.parents)) a_own c.root-b.ensures.own w (omega (arith, w_in, c.root-a.auto.parents, c.root-b.auto.parents)) in
    rw (c.max.ensures, c.min.ensures, ← w_root, ← v_root, ← c.root-a.ensures.root) all
