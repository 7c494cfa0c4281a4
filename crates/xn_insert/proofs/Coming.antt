-- What an edge needs that comes in along its route: the numbers are few, and the calls of each step may be made.
use Rattle.std.proofs.Common.{◌≡◌, ◌≢◌, ℕ, zero, suc, ◌+◌, ◌*◌, ◌/◌, ◌^◌, ◌<◌, ◌≤◌, false, List, [], ◌∷◌, ◌++◌, drop, get_or, length, replicate, set, sym, ◌∙◌, ap, subst, arith}
use Rattle.std.specs.List.{range_with_len}
use Rattle.std.proofs.Math.ListN.{drop_of_length-le}
use Rattle.std.proofs.Math.Seq.{drop-cons}
use Rattle.std.proofs.lemmas.List.FromFn.{length-range_with_len}
use Rattle.std.proofs.lemmas.List.Sums.{count_by-le-length, length-filter}
use Rattle.xn_model.specs.Graph.{Graph, ends_at}
use Rattle.xn_model.specs.Lists.{at, has}
use Rattle.xn_model.specs.Loose.{IsRouteLength}
use Rattle.xn_model.specs.Map.{MeetsEuler, face_step, tail_of}
use Rattle.xn_model.specs.Permutation.{Reaches}
use Rattle.xn_surgery.specs.Subdivision.{dart_now}
use Rattle.xn_graph.specs.Limits.{IsLimitedGraph}
use Rattle.xn_map.specs.Changes.{Inserts}
use Rattle.xn_map.specs.Listed.{IsListedMap, ListedMap}
use Rattle.xn_map.specs.declared.corners.Corner.TheVariants.{After}
use Rattle.xn_loose.specs.Routes.{dart_on}
use Rattle.xn_insert.specs.Calls.{IsInserted}
use Rattle.xn_insert.specs.Cuts.{AreCut, StepsOver}
use Rattle.xn_insert.specs.ListedLoose.{AreWithin, IsLooseOf, ListedLoose, edges_in, has_dart, loose_of, walk_of}
use Rattle.xn_insert.specs.Routed.{IsLeastRoute}
use Rattle.xn_insert.proofs.Counted.{few_segments}
use Rattle.xn_insert.proofs.CutWalks.{AreBelow}
use Rattle.xn_insert.proofs.Ended.{grown_inserted, last_face}
use Rattle.xn_insert.proofs.Grown.{GrownTo, apart, grown_begun, walks_below}
use Rattle.xn_insert.proofs.GrownMore.{d_in, d_low, grown_more, step_face, step_flat}

below_at : (m : ℕ) (ds : List ℕ) (i : ℕ) → AreBelow m ds → i < length ds → at ds i < m
below_at m [] i below low = absurd (omega (arith, low))
below_at m (d ∷ ds) zero below low = below.0
below_at m (d ∷ ds) (suc i) below low = below_at m ds i below.1 (omega (arith, low))

-- a loose drawing of few edges with few crossings has few segments
module _ (g : Graph) (l : ListedLoose) (is : IsLooseOf g l) (walks : length l.walks ≤ 1000) (few : l.map.web.nodes ≤ l.nodes + 2 ^ 24) where
  few_edges : length (edges_in l) ≤ 1000
  few_edges =
      let kept = length-filter (λ e. has_dart (walk_of l.walks e)) (range_with_len 0 (length l.walks)) in
      let most = count_by-le-length (λ e. has_dart (walk_of l.walks e)) (range_with_len 0 (length l.walks)) in
      let long = length-range_with_len 0 (length l.walks) in
      omega (arith, kept, most, long, walks)

  pub segments_few : length l.map.web.ends ≤ 2 ^ 25 + 1000
  segments_few =
      let most = few_segments g (edges_in l) is.further l.map.web (at l.map.next) (walk_of l.walks) is.loose in
      let edges = few_edges in
      let nodes = is.loose.nodes in
      let own = is.nodes in
      omega (arith, most, edges, nodes, own, few)

-- an edge may come in along this route
pub record MayCome (g : Graph) (l : ListedLoose) (e start : ℕ) (darts : List ℕ) (goal : ℕ) : Type 0 where
  pub is : IsLooseOf g l
  pub low : e < length g.ends
  pub new : has (edges_in l) e ≡ false
  pub limited : IsLimitedGraph g
  pub walks : length l.walks ≤ 1000
  pub few : l.map.web.nodes ≤ l.nodes + 2 ^ 24
  pub listed : IsListedMap l.map
  pub route : IsLeastRoute l.map (ends_at g.ends e).0 (ends_at g.ends e).1 start darts goal

-- a step over the segment of d may be made
pub record MayStep (m : ListedMap) (from d : ℕ) (cuts : List ℕ) : Type 0 where
  pub d_in : d < 2 * length m.web.ends
  pub cut_in : d / 2 < length cuts
  pub one_face : Reaches (face_step (at m.next)) (at m.next from) d
  pub flat : MeetsEuler m.web.nodes m.web.ends (at m.next)
  pub few_nodes : m.web.nodes < 2 ^ 30
  pub few_segments : length m.web.ends + 2 ≤ 2 ^ 30

-- the last segment may be put in, and the walks may be cut
pub record MayEnd (m : ListedMap) (from to : ℕ) (cuts : List ℕ) : Type 0 where
  pub from_in : from < length m.next
  pub to_in : to < length m.next
  pub two_nodes : tail_of m.web.ends from ≢ tail_of m.web.ends to
  pub one_face : Reaches (face_step (at m.next)) (at m.next from) (at m.next to)
  pub few_segments : length m.web.ends < 2 ^ 30
  pub cuts_few : (s : ℕ) → at cuts s < 2 ^ 30

module _ (g : Graph) (l : ListedLoose) (e start : ℕ) (darts : List ℕ) (goal : ℕ) (may : MayCome g l e start darts goal) where
  few_then : (m : ListedMap) (i : ℕ) → i ≤ length darts → length m.web.ends ≡ length l.map.web.ends + 2 * i → m.web.nodes ≡ l.map.web.nodes + i →
      (m.web.nodes < 2 ^ 30) × (length m.web.ends + 2 ≤ 2 ^ 30)
  few_then m i low segments nodes =
      let first = segments_few g l may.is may.walks may.few in
      let fits = may.listed.fits in
      let most = may.route.few in
      let few = may.few in
      let own = may.is.nodes in
      let limit = may.limited.few_nodes in
      (omega (arith, first, fits, most, few, own, limit, low, nodes), omega (arith, first, fits, most, low, segments))

  pub begun : (cuts : List ℕ) → cuts ≡ replicate (length l.map.web.ends) 0 → GrownTo g l e l.map start goal cuts [] darts 0
  begun cuts none = grown_begun g l may.is e may.low may.new start goal darts may.listed may.route cuts none

  module _ (m : ListedMap) (from to : ℕ) (cuts own : List ℕ) (i : ℕ) (was : GrownTo g l e m from to cuts own (drop i darts) i) where
    -- the next dart of its route
    module _ (items : List ℕ) (same : items ≡ darts) (low : i < length items) where
      abbrev d : ℕ
      d = get_or items i 0

      abbrev left : List ℕ
      left = drop (suc i) items

      st : GrownTo g l e m from to cuts own (d ∷ left) i
      st = subst (λ xs. GrownTo g l e m from to cuts own xs i) (ap (drop i) (sym same) ∙ drop-cons items i 0 low) was

      pub may_step : MayStep m from d cuts
      may_step =
          let long = ap length same in
          let few = few_then m i (omega (arith, low, long)) was.segments was.nodes in
          let d_first = d_low g l may.is e may.low may.new m from to cuts own d left i st in
          let size = was.cuts_size in
          record {
            d_in = d_in g l may.is e may.low may.new m from to cuts own d left i st;
            cut_in = omega (arith, d_first, size);
            one_face = step_face g l may.is e may.low may.new m from to cuts own d left i st;
            flat = step_flat g l may.is e may.low may.new m from to cuts own d left i st;
            few_nodes = few.0;
            few_segments = few.1;
          }

      -- where one more segment is crossed the edge has come on
      pub stepped : (new : ListedMap) → StepsOver m from d new → (last : ℕ) → last ≡ length m.web.ends → (from' to' : ℕ) (cuts' own' : List ℕ) → from' ≡ dart_on last d → to' ≡ dart_now (d / 2) last to →
          cuts' ≡ set cuts (d / 2) last → own' ≡ own ++ (2 * last + 2) ∷ [] → GrownTo g l e new from' to' cuts' own' (drop (i + 1) darts) (i + 1)
      stepped new over last last_is from' to' cuts' own' from_is to_is cuts_are own_is =
          let more = grown_more g l may.is e may.low may.new m from to cuts own d left i st new over in
          let on : suc i ≡ i + 1 = omega arith in
          let rest : left ≡ drop (i + 1) darts = ap (λ k. drop k items) on ∙ ap (drop (i + 1)) same in
          let A : ℕ → Type 0 = λ k. GrownTo g l e new (dart_on k d) (dart_now (d / 2) k to) (set cuts (d / 2) k) (own ++ (2 * k + 2) ∷ []) left (i + 1) in
          let B : ℕ → Type 0 = λ x. GrownTo g l e new x (dart_now (d / 2) last to) (set cuts (d / 2) last) (own ++ (2 * last + 2) ∷ []) left (i + 1) in
          let C : ℕ → Type 0 = λ x. GrownTo g l e new from' x (set cuts (d / 2) last) (own ++ (2 * last + 2) ∷ []) left (i + 1) in
          let D : List ℕ → Type 0 = λ xs. GrownTo g l e new from' to' xs (own ++ (2 * last + 2) ∷ []) left (i + 1) in
          let E : List ℕ → Type 0 = λ xs. GrownTo g l e new from' to' cuts' xs left (i + 1) in
          let F : List ℕ → Type 0 = λ xs. GrownTo g l e new from' to' cuts' own' xs (i + 1) in
          subst F rest (subst E (sym own_is) (subst D (sym cuts_are) (subst C (sym to_is) (subst B (sym from_is) (subst A (sym last_is) more)))))

    module _ (all : i ≡ length darts) where
      done : GrownTo g l e m from to cuts own [] i
      done = subst (λ left. GrownTo g l e m from to cuts own left i) (drop_of_length-le darts (omega (arith, all))) was

      pub may_end : IsListedMap m → MayEnd m from to cuts
      unfolding done
      may_end listed =
          let few = few_then m i (omega (arith, all)) was.segments was.nodes in
          let fits = listed.fits in
          let from_in = was.from_in in
          let to_in = was.to_in in
          let at_from = ap (tail_of m.web.ends) (sym was.to_y) ∙ listed.is_map.same_node from from_in in
          let at_to = ap (tail_of m.web.ends) (sym was.to_z) ∙ listed.is_map.same_node to to_in in
          record {
            from_in = omega (arith, from_in, fits);
            to_in = omega (arith, to_in, fits);
            two_nodes = λ same. apart g l may.is e may.low may.new m from to cuts own [] i done (at_from ∙ same ∙ sym at_to);
            one_face = last_face g l may.is e may.low may.new m from to cuts own i done;
            few_segments = let low = few.1 in omega (arith, low);
            cuts_few = λ s. let cut = was.cuts_few s in let low = few.1 in omega (arith, cut, low);
          }

      pub ended : (new : ListedMap) → Inserts m (After from) (After to) new → (walks : List (List ℕ)) → AreCut cuts e (own ++ (2 * length m.web.ends) ∷ []) l.walks walks →
          IsInserted g e l (loose_of l.nodes new walks)
      ended new inserts walks are =
          let least : IsRouteLength l.map.web.ends (at l.map.next) (ends_at g.ends e).0 (ends_at g.ends e).1 i =
          subst (IsRouteLength l.map.web.ends (at l.map.next) (ends_at g.ends e).0 (ends_at g.ends e).1) (sym all) may.route.least in
          grown_inserted g l may.is e may.low may.new m from to cuts own i done new inserts least walks are

    -- the walks are over the segments that have a place in the list
    pub walks_within : AreWithin l.walks (2 * length cuts)
    walks_within x j low =
        let below = below_at (2 * length l.map.web.ends) (walk_of l.walks x) j (walks_below g l may.is e may.low may.new x) low in
        let size = was.cuts_size in
        omega (arith, below, size)
