use Rattle.std.proofs.Common.{◌≡◌, ◌<◌, ◌≤◌, [], length, All}
use Rattle.indexmap.specs.IndexMap.{index_map_len, values}
use Rattle.xn_gml.specs.declared.token.Key.TheVariants.{Node}
use Rattle.xn_gml.specs.Lists.{lists_of}
use Rattle.xn_gml.specs.Meaning.{ids_from}
use Rattle.xn_gml.proofs.nodes.node_ids.Given as goal

abbrev pub invariant-loop-block : goal.invariant-loop-block
invariant-loop-block l = record {
  read : ids_from 1000 l.ids.entries (lists_of Node l.tokens) ≡ ids_from 1000 [] (lists_of Node l.list);
  few : index_map_len l.ids ≤ 1000;
  numbered : All (λ n. n < index_map_len l.ids) (values l.ids);
}

abbrev pub decreases-loop-block : goal.decreases-loop-block
decreases-loop-block l = length l.tokens
