use Rattle.std.proofs.Common.{◌≡◌, ◌+◌, ◌∙◌, ℕ, List, length, sym, subst}
use Rattle.std.specs.Prelude.{Vec}
use Rattle.std.specs.Global.{Global}
use Rattle.xn_kura.proofs.Proposals.{nodes-push, nodes-skip, nodes-start}
use Rattle.xn_kura.proofs.Tracing.{star_count}
use Rattle.xn_kura.specs.Kinds.{AreNodesWith}
use Rattle.xn_model.specs.Loose.{dart_count}
use Rattle.xn_kura.proofs.kinds.nodes_with.Goals as goal
use Rattle.xn_kura.proofs.kinds.nodes_with.Goals.{then-at-count+in_ok-push, else-at-count}

pub loop-v-init : goal.loop-v-init
loop-v-init c =
    let P : List ℕ → Type 0 = λ xs. AreNodesWith c.args.web.now.ends 0 c.args.count xs in
    subst P (sym c.new-nodes.ensures.items) (nodes-start c.args.web.now.ends c.args.count)

pub loop-v-preserved : goal.loop-v-preserved
loop-v-preserved c =
    let ends = c.args.web.now.ends in
    let v = c.loop-v.v in
    let counted : dart_count ends v ≡ length c.at.result.now = sym (star_count c.args.web.now c.args.stars.now v c.at.result.now c.requires.stars c.at.ensures) in
    let P : List ℕ → Type 0 = λ xs. AreNodesWith ends (v + 1) c.args.count xs in
    let Q : Vec ℕ Global → Type 0 = λ x. AreNodesWith ends (v + 1) c.args.count x.items in
    elim c.if-at-count.branch [
      | then-at-count+in_ok-push w ↦
          subst Q (sym w.nodes-is) (subst P (sym w.in_ok-push.ensures.items) (nodes-push ends v c.args.count c.loop-v.nodes.items c.loop-v.invariant (counted ∙ w.if-at-count.true)))
      | else-at-count w ↦ subst Q (sym w.nodes-is) (nodes-skip ends v c.args.count c.loop-v.nodes.items c.loop-v.invariant (λ e. w.if-at-count.false (sym counted ∙ e)))
    ]
