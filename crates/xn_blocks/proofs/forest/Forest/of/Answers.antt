use Rattle.std.proofs.Common.{◌≡◌, ◌<◌, arith}
use Rattle.std.proofs.lemmas.List.{get_or_read}
use Rattle.xn_model.specs.Lists.{at}
use Rattle.xn_blocks.specs.Growth.{IsFound, lists_in}
use Rattle.xn_blocks.proofs.SearchSteps.{all_and}
use Rattle.xn_blocks.proofs.forest.Forest.of.Goals.{then-index-nodes+in_ok-explore, else-index-nodes}
use Rattle.xn_blocks.proofs.forest.Forest.of.Goals as goal

pub loop-root-preserved : goal.loop-root-preserved
loop-root-preserved c =
    let web = c.args.web.now in
    let root = c.loop-root.root in
    let s = lists_in c.loop-root.forest in
    let old = c.loop-root.invariant in
    let root_in : root < web.nodes = omega (arith, c.loop-root-test.true, c.nodes-root-end.ensures.value) in
    elim c.if-index-nodes.branch [
      | then-index-nodes+in_ok-explore w ↦
          let t = lists_in w.explore.new.self in
          let ex = w.in_ok-explore.ensures in
          rw w.forest-is (record { found = ex.over.found; done = ex.over.done; all = all_and web t root (λ v low. ex.over.keeps v (old.all v low)) ex.root_found })
      | else-index-nodes w ↦
          let num : c.index.result.now ≡ at s.number root = get_or_read s.number root _ (omega (arith, root_in, old.found.numbers)) c.index.ensures 0 in
          let here : IsFound web s root = (root_in, omega (arith, num, w.if-index-nodes.false, c.nodes.ensures.value)) in
          rw w.forest-is (record { found = old.found; done = old.done; all = all_and web s root old.all here })
    ]
