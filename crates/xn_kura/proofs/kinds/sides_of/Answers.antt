use Rattle.std.proofs.Common.{◌<◌, ◌+◌, ℕ, List, [], take, length, sym, ◌∙◌, subst, arith}
use Rattle.std.specs.Prelude.{Vec}
use Rattle.std.specs.Global.{Global}
use Rattle.xn_model.specs.Lists.{at}
use Rattle.xn_kura.proofs.Proposals.{parted-far, parted-near, parted-start}
use Rattle.xn_kura.specs.Kinds.{ArePartedBy}
use Rattle.xn_kura.proofs.kinds.sides_of.Goals as goal
use Rattle.xn_kura.proofs.kinds.sides_of.Goals.{then-is_some+in_ok-push, else-is_some+in_ok-push-2}

pub loop-v-init : goal.loop-v-init
loop-v-init c =
    let ends = c.args.web.now.ends in
    let u = at c.args.nodes.now 0 in
    let P : List ℕ → Type 0 = λ xs. ArePartedBy ends u [] xs [] in
    let Q : List ℕ → Type 0 = λ ys. ArePartedBy ends u [] c.new-near.result.items ys in
    subst Q (sym c.new-far.ensures.items) (subst P (sym c.new-near.ensures.items) (parted-start ends u))

pub loop-v-preserved : goal.loop-v-preserved
loop-v-preserved c =
    let ends = c.args.web.now.ends in
    let nodes = c.args.nodes.now in
    let u = at nodes 0 in
    let i = c.loop-v.v-index in
    let i_in : i < length nodes = omega (arith, c.loop-v-test.true) in
    let near = c.loop-v.near.items in
    let far = c.loop-v.far.items in
    let found = c.in_ok-path_between.field-0 in
    let between = c.in_ok-path_between.ensures in
    let front = take (i + 1) nodes in
    let P : Vec ℕ Global → Type 0 = λ x. ArePartedBy ends u front x.items c.if-is_some.far.items in
    elim c.if-is_some.branch [
      | then-is_some+in_ok-push w ↦
          let Q : Vec ℕ Global → Type 0 = λ y. ArePartedBy ends u front near y.items in
          let R : List ℕ → Type 0 = λ ys. ArePartedBy ends u front near ys in
          subst P (sym w.near-is) (subst Q (sym w.far-is) (subst R (sym w.in_ok-push.ensures.items)
          (parted-far ends u nodes c.requires.once i i_in near far c.loop-v.invariant found between (sym c.is_some.ensures ∙ w.if-is_some.true))))
      | else-is_some+in_ok-push-2 w ↦
          let S : Vec ℕ Global → Type 0 = λ y. ArePartedBy ends u front w.push-else-is_some.new.self.items y.items in
          let R : List ℕ → Type 0 = λ xs. ArePartedBy ends u front xs far in
          subst P (sym w.near-is) (subst S (sym w.far-is) (subst R (sym w.in_ok-push-2.ensures.items)
          (parted-near ends u nodes c.requires.once i i_in near far c.loop-v.invariant found between (sym c.is_some.ensures ∙ w.if-is_some.false))))
    ]
