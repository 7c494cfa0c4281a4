use Rattle.std.proofs.Common.{◌≡◌, ◌+◌, ◌-◌, ◌∙◌, ◌&&◌, false, eqb, suc, ap, arith, drop, get_or, length-drop, sym, subst}
use Rattle.xn_tree.specs.Leaf.{meets}
use Rattle.xn_tree.proofs.Neighbours.{meets-next, meets-short}
use Rattle.xn_tree.proofs.turns.meets.Goals as goal

pub loop-i-preserved : goal.loop-i-preserved
loop-i-preserved c = record {
  within = omega arith;
  rest =
      let list = c.args.list.now in
      let i = c.loop-i.i in
      let is : i ≡ suc (i - 1) = omega arith in
      let next : i + 1 - 1 ≡ suc (i - 1) = omega arith in
      let other : (eqb (get_or list (i - 1) 0) c.args.f && eqb (get_or list (suc (i - 1)) 0) c.args.g) ≡ false =
      subst (λ k. (eqb (get_or list (i - 1) 0) c.args.f && eqb (get_or list k 0) c.args.g) ≡ false) is (sym c.is_pair.ensures ∙ c.if-is_pair.false) in
      ap (λ k. meets (drop k list) c.args.f c.args.g) next
      ∙ meets-next list (i - 1) c.args.f c.args.g (omega arith) other
      ∙ c.loop-i.invariant.rest;
}

pub returns : goal.returns
returns c =
    let list = c.args.list.now in
    let i = c.loop-i.i in
    sym (meets-short (drop (i - 1) list) c.args.f c.args.g (omega (arith, length-drop (i - 1) list))) ∙ c.loop-i.invariant.rest
