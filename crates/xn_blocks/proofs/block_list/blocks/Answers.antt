use Rattle.std.proofs.Common.{length, subst}
use Rattle.xn_list.specs.Lists.{lists_of}
use Rattle.xn_model.specs.Cycles.{AreInOneBlock, IsCut}
use Rattle.xn_blocks.specs.Blocks.{IsPartition, ListsAll}
use Rattle.xn_blocks.specs.Parted.{HaveOneKey}
use Rattle.xn_blocks.proofs.Parting.{partition_by}
use Rattle.xn_blocks.proofs.block_list.blocks.Goals as goal

pub returns : goal.returns
returns c =
    let web = c.args.web.now in
    let keys = c.in_ok-keys.keys.items in
    let names = c.in_ok-keys.ensures in
    let lists = lists_of c.in_ok-lists.lists.items in
    let by_slice = subst (λ l. IsPartition (length l) (HaveOneKey l) lists) c.as_slice.ensures.value c.in_ok-lists.ensures in
    let by_keys = subst (λ n. IsPartition n (HaveOneKey keys) lists) names.size by_slice in
    record {
      parts = partition_by (length web.ends) (HaveOneKey keys) (AreInOneBlock web.ends) lists names.one_block by_keys;
      cuts = subst (λ g. ListsAll g.nodes (IsCut g.ends) c.in_ok-cuts.cuts.items) c.in_ok-stars.ensures c.in_ok-cuts.ensures;
    }
