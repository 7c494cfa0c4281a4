-- Flat insertions reach the end of a list exactly where the web of its segments has a flat map.
use Rattle.std.proofs.Common.{ℕ, List, sym, subst, arith}
use Rattle.xn_model.specs.Graph.{EndsIn, Graph, HasNoLoop}
use Rattle.xn_model.specs.Insertion.{GrowsFromFirst, ReachesEnd}
use Rattle.xn_model.specs.Lists.{at}
use Rattle.xn_model.specs.Map.{IsFlat, IsMap, MeetsEuler}
use Rattle.xn_genus.specs.Part.{ends_listed}
use Rattle.xn_map.specs.Listed.{ListedMap}
use Rattle.xn_extend.specs.Extended.{IsEndMap, listed_web}
use Rattle.xn_extend.proofs.Corners.{size_listed}
use Rattle.xn_extend.proofs.Ending.{apart_from_grows}
use Rattle.xn_extend.proofs.Reach.{flat_maps_are_reached, reached_maps_are_flat}
use Rattle.xn_components.specs.Listing.{IsFlatMapOf}
use Rattle.xn_fewer.specs.Flat.{HasFlat}
use Rattle.xn_planar.specs.Planar.{HasNoFlatMap}
use Rattle.xn_reach.specs.Laws.{FlatWhereEndIsReached, StuckWhereNotFlat}
use Rattle.xn_reach.proofs.Carried.{carried, carried_flat, carried_inside, carried_map, own_flat}

module _ (web : Graph) (list : List ℕ) (ends_in : EndsIn web.nodes web.ends) (no_loop : HasNoLoop web.ends) (grows : GrowsFromFirst web.ends list) where
  reaches : (g : ℕ → ℕ) (is : IsMap web.nodes (ends_listed web.ends list) g) → MeetsEuler web.nodes (ends_listed web.ends list) g →
      ReachesEnd web.ends list (carried web list no_loop grows ends_in g is)
  reaches g is flat =
      flat_maps_are_reached web.nodes web.ends list (carried web list no_loop grows ends_in g is) ends_in no_loop grows
      (carried_map web list no_loop grows ends_in g is) (carried_flat web list no_loop grows ends_in g is flat)

  flat_from : (last : ℕ → ℕ) → ReachesEnd web.ends list last → HasFlat web.nodes (ends_listed web.ends list)
  flat_from last reached =
      let on = reached_maps_are_flat web.nodes web.ends list last ends_in no_loop grows reached in
      own_flat web list no_loop grows ends_in last on.0 on.1

  -- a flat map of the listed segments is that of an end
  pub end_of : (map : ListedMap) → IsFlatMapOf (listed_web web list) map → IsEndMap web list map
  end_of map is =
      let g = at map.next in
      let size = size_listed web.ends list (apart_from_grows web.ends list grows) in
      record {
        web_is = is.web_is;
        flat = subst (λ (w : Graph). IsFlat w g) (sym is.web_is) is.flat;
        last = carried web list no_loop grows ends_in g is.flat.is_map;
        reached = reaches g is.flat.is_map is.flat.flat;
        turns = λ j j_in. sym (carried_inside web list no_loop grows ends_in g is.flat.is_map j (omega (arith, j_in, size)));
      }

  -- where the listed segments have no flat map, no end is reached
  pub no_end : HasNoFlatMap (listed_web web list) → (last : ℕ → ℕ) → ¬ (ReachesEnd web.ends list last)
  no_end none last reached =
      let flat = flat_from last reached in
      none flat.next (record { is_map = flat.is_map; flat = flat.flat })

pub flat_where_end_is_reached : FlatWhereEndIsReached
flat_where_end_is_reached web list ends_in no_loop grows = (
  λ reached. flat_from web list ends_in no_loop grows reached.0 reached.1,
  λ flat. (carried web list no_loop grows ends_in flat.next flat.is_map, reaches web list ends_in no_loop grows flat.next flat.is_map flat.flat),
)

pub stuck_where_not_flat : StuckWhereNotFlat
stuck_where_not_flat web list ends_in no_loop grows = (
  λ is flat. is.stuck (carried web list no_loop grows ends_in flat.next flat.is_map) (reaches web list ends_in no_loop grows flat.next flat.is_map flat.flat),
  λ none. record {
    no_loop = no_loop;
    grows = grows;
    stuck = λ last reached. none (flat_from web list ends_in no_loop grows last reached);
  },
)
