-- In every drawing the value of a row that holds is at least 1.
use Rattle.std.proofs.Common.{◌<◌, inl, inr, length, sym, arith}
use Rattle.std.proofs.lemmas.Bool.{cases_eq}
use Rattle.xn_model.specs.Graph.{edges_of}
use Rattle.xn_extend.specs.Laws.{StuckMeansNoFlatMap}
use Rattle.xn_kinds.specs.Row.{orders_of, value_of, values_in}
use Rattle.xn_kinds.specs.declared.rows.Evidence.TheVariants.{Five, ThreeThree, Extension}
use Rattle.xn_kura.specs.Laws.{FiveExcludesFlat, ThreeThreeExcludesFlat}
use Rattle.xn_fewer.specs.Laws.{FewerEdgesStayFlat}
use Rattle.xn_model.proofs.Has.{has-all, has-range}
use Rattle.xn_sound.specs.Laws.{EvidenceExcludesFlatMaps, RowsAreMet, ZeroMeansTheRowsOrders}
use Rattle.xn_fewer.proofs.Rising.{rising-from_increasing}
use Rattle.xn_sound.proofs.Same.{less_is}

pub zero_means_the_rows_orders : ZeroMeansTheRowsOrders
zero_means_the_rows_orders g row ord some all none = record {
  inside = λ e e_in.
      let low = has-all (λ x. x < length g.ends) row.edges some.edge_list.below e e_in in
      has-range 0 (length g.ends) e (omega arith) (omega (arith, low));
  kept = λ e e_in.
      let small_rises = rising-from_increasing row.edges some.edge_list.rise in
      sym (less_is g.ends (edges_of g) row.edges small_rises ord (orders_of row) all some (omega (arith, none)) (omega (arith, none)) e e_in);
}

pub evidence_excludes_flat_maps : FiveExcludesFlat → ThreeThreeExcludesFlat → StuckMeansNoFlatMap → EvidenceExcludesFlatMaps
evidence_excludes_flat_maps five three stuck web (Five branch paths) holds next flat = five web branch paths holds next flat
evidence_excludes_flat_maps five three stuck web (ThreeThree branch paths) holds next flat = three web branch paths holds next flat
evidence_excludes_flat_maps five three stuck web (Extension list) holds next flat = stuck web list holds next flat

pub rows_are_met : FewerEdgesStayFlat → ZeroMeansTheRowsOrders → EvidenceExcludesFlatMaps → RowsAreMet
rows_are_met fewer zeros excludes g row is_graph holds ord next drawing = elim (cases_eq (value_of g row (values_in ord)) 0) [
  | inr more ↦ omega (arith, more)
  | inl none ↦
      let part = zeros g row ord holds.orders drawing.orders none in
      let flat = fewer g (edges_of g) row.edges ord (orders_of row) next is_graph drawing.orders holds.orders part drawing.is_flat_map in
      absurd (excludes _ row.evidence holds.evidence flat.0 flat.1)
]
