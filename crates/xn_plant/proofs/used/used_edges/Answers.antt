use Rattle.std.proofs.lemmas.List.Filters.{dedup_is}
use Rattle.xn_plant.proofs.Shown.{sorted_some}
use Rattle.xn_plant.proofs.used.used_edges.Goals as goal

pub returns : goal.returns
returns c =
    sorted_some c.args.row.now.edges c.in_ok-by_segment.by_segment.items c.as_slice.result.now c.push_evidence.new.used.items c.sort.new.self.items c.dedup.new.self.items
    c.in_ok-by_segment.ensures c.as_slice.ensures.value c.in_ok-push_evidence.ensures c.sort.ensures.permutation c.in_ok-sort.ensures.sorted (dedup_is _ _ _ c.dedup.ensures.filtered)
