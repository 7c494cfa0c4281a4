use Rattle.std.proofs.Common.{◌≡◌, ℕ, ◌+◌, ◌<◌, inl, inr, sym, ap, subst, arith}
use Rattle.std.proofs.lemmas.Bool.{cases_eq}
use Rattle.xn_model.specs.Lists.{at}
use Rattle.xn_dmp.specs.Sharing.{HasCornerAt}
use Rattle.xn_dmp.proofs.sharing.has_corners.Goals as goal

pub loop-v-preserved : goal.loop-v-preserved
loop-v-preserved c = λ i low. elim (cases_eq i c.loop-v.v-index) [
  | inl here ↦
      let P : ℕ → Type 0 = λ j. HasCornerAt c.args.map.now c.args.d (at c.args.nodes.now j) in
      subst P (sym here) (c.in-Some.field-0, c.in-Some.ensures.some)
  | inr other ↦ c.loop-v.invariant i (omega (arith, low, other))
]
