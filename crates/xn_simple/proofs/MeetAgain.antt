-- Walks that meet simply at the nodes that are still named do so once the others have come apart, and give the same orders.
use Rattle.std.proofs.Common.{◌≡◌, ◌≢◌, ℕ, suc, ◌+◌, ◌*◌, ◌<◌, ◌≤◌, inl, inr, Bool, true, not, ◌&&◌, eqb, List, [], ◌∷◌, length, refl, sym, ◌∙◌, ap, subst, arith}
use Rattle.std.proofs.lemmas.Bool.{and_from, and_parts, cases_Bool, cases_eq, cond-true, cond-false}
use Rattle.std.proofs.lemmas.List.{length-map}
use Rattle.xn_model.specs.Graph.{Graph, IsGraph}
use Rattle.xn_model.specs.Lists.{at, has}
use Rattle.xn_model.specs.Map.{IsMap, tail_of}
use Rattle.xn_ring.proofs.Counting.{same_tests}
use Rattle.xn_track.specs.Tidying.{is_met, is_other, order_along, other_at}
use Rattle.xn_track.specs.Track.{IsTrack, MeetSimply, passed}
use Rattle.xn_track.proofs.Blocks.{blocks_apart}
use Rattle.xn_track.proofs.OrdersAlong.{other_meets}
use Rattle.xn_track.proofs.Passes.{Gap, begin, passed_at, size_is, two_gaps, walk_in}
use Rattle.xn_track.proofs.Places.{has-at, place_of}
use Rattle.xn_simple.specs.Loosened.{ComesFrom, IsLoosened}
use Rattle.xn_simple.specs.Tidied.{MeetSimplyAt, is_crossed, order_by_walks}
use Rattle.xn_simple.proofs.Apart.{named, named_from}
use Rattle.xn_simple.proofs.Lists.{distinct_by_places}
use Rattle.xn_simple.proofs.Picked.{any-same, first_passing-same, picked-same}

module _ (g : Graph) (edges : List ℕ) (web : Graph) (next : ℕ → ℕ) (four : ℕ → Bool) (walks : ℕ → List ℕ) (is_graph : IsGraph g)
    (nodes_in : g.nodes ≤ web.nodes) (old_map : IsMap web.nodes web.ends next) (state : IsLoosened g edges web next four walks)
    (meet : MeetSimplyAt g edges web.ends four walks) where
  abbrev more : Graph
  more = state.more

  abbrev after : ℕ → ℕ
  after = state.after

  abbrev kept : ComesFrom g.nodes web next more after four
  kept = state.comes

  abbrev track : IsTrack g edges more after four walks
  track = state.track

  abbrev inner : ℕ → List ℕ
  inner e = passed web.ends (walks e)

  abbrev spots : ℕ → List ℕ
  spots e = passed more.ends (walks e)

  pub dart_in : (e i : ℕ) → has edges e ≡ true → i < length (walks e) → at (walks e) i < 2 * length web.ends
  dart_in e i e_in i_in =
      let low = walk_in more.ends _ _ (walks e) (track.lead e e_in) i i_in in
      let size = kept.size in
      omega (arith, low, size)

  pub walk_size : (e : ℕ) → has edges e ≡ true → length (walks e) ≡ suc (length (spots e))
  walk_size e e_in = size_is g edges more after four walks is_graph track e e_in

  same_size : (e : ℕ) → length (inner e) ≡ length (spots e)
  same_size e = go (walks e)
    where
      go : (ds : List ℕ) → length (passed web.ends ds) ≡ length (passed more.ends ds)
      go [] = refl
      go (d ∷ ds) = length-map ds (tail_of web.ends) ∙ sym (length-map ds (tail_of more.ends))

  pub spot_at : (e i : ℕ) → has edges e ≡ true → i < length (spots e) → at (spots e) i ≡ tail_of more.ends (at (walks e) (suc i))
  spot_at e i e_in i_in = let size = walk_size e e_in in passed_at more.ends (walks e) i (omega (arith, size, i_in))

  pub inner_at : (e i : ℕ) → has edges e ≡ true → i < length (spots e) → at (inner e) i ≡ tail_of web.ends (at (walks e) (suc i))
  inner_at e i e_in i_in = let size = walk_size e e_in in passed_at web.ends (walks e) i (omega (arith, size, i_in))

  -- at a named node the two agree
  to_inner : (e i v : ℕ) → has edges e ≡ true → i < length (spots e) → four v ≡ true → at (spots e) i ≡ v → at (inner e) i ≡ v
  to_inner e i v e_in i_in holds at_v =
      let size = walk_size e e_in in
      inner_at e i e_in i_in ∙ named g.nodes web next more after four kept (at (walks e) (suc i)) v (dart_in e (suc i) e_in (omega (arith, size, i_in))) holds (sym (spot_at e i e_in i_in) ∙ at_v)

  pub to_spot : (e i v : ℕ) → has edges e ≡ true → i < length (spots e) → four v ≡ true → at (inner e) i ≡ v → at (spots e) i ≡ v
  to_spot e i v e_in i_in holds at_v =
      let size = walk_size e e_in in
      spot_at e i e_in i_in ∙ named_from g.nodes web next more after four kept (at (walks e) (suc i)) v (dart_in e (suc i) e_in (omega (arith, size, i_in))) holds (sym (inner_at e i e_in i_in) ∙ at_v)

  has_inner : (e v : ℕ) → has edges e ≡ true → four v ≡ true → has (spots e) v ≡ true → has (inner e) v ≡ true
  has_inner e v e_in holds h =
      let p = place_of (spots e) v h in
      let size = same_size e in
      subst (λ u. has (inner e) u ≡ true) (to_inner e p.0 v e_in p.1 holds p.2) (has-at (inner e) p.0 (let l = p.1 in omega (arith, size, l)))

  has_spot : (e v : ℕ) → has edges e ≡ true → four v ≡ true → has (inner e) v ≡ true → has (spots e) v ≡ true
  has_spot e v e_in holds h =
      let p = place_of (inner e) v h in
      let size = same_size e in
      let p_in : p.0 < length (spots e) = let l = p.1 in omega (arith, size, l) in
      subst (λ u. has (spots e) u ≡ true) (to_spot e p.0 v e_in p_in holds p.2) (has-at (spots e) p.0 p_in)

  -- ---- the walks meet simply once the nodes that aren't named have come apart

  gap : (e i v : ℕ) → has edges e ≡ true → i < length (spots e) → at (spots e) i ≡ v → Gap g edges more after four walks is_graph track (begin g edges more after four walks is_graph track e + i) v
  gap e i v e_in i_in at_v = record { edge = e; edge_is = e_in; i = i; i_in = i_in; x_is = refl; node = at_v }

  both_named : (e i f j v : ℕ) → has edges e ≡ true → i < length (spots e) → has edges f ≡ true → j < length (spots f) → at (spots e) i ≡ v → at (spots f) j ≡ v →
      begin g edges more after four walks is_graph track e + i ≢ begin g edges more after four walks is_graph track f + j → four v ≡ true
  both_named e i f j v e_in i_in f_in j_in at_i at_j other =
      (two_gaps g edges more after four walks is_graph track _ _ v (gap e i v e_in i_in at_i) (gap f j v f_in j_in at_j) other).four_is

  both_have : (e f v : ℕ) → has edges e ≡ true → has edges f ≡ true → e ≢ f → has (spots e) v ≡ true → has (spots f) v ≡ true → four v ≡ true
  both_have e f v e_in f_in differ one two =
      let p = place_of (spots e) v one in
      let q = place_of (spots f) v two in
      let size_e = walk_size e e_in in
      let size_f = walk_size f f_in in
      both_named e p.0 f q.0 v e_in p.1 f_in q.1 p.2 q.2
      (λ same. differ (blocks_apart walks edges e f p.0 q.0 e_in f_in (let l = p.1 in omega (arith, size_e, l)) (let l = q.1 in omega (arith, size_f, l)) same))

  pub simply : MeetSimply g edges more.ends walks
  simply = record {
    itself = λ e e_in. distinct_by_places (spots e) (λ i j i_in j_in same. elim (cases_eq i j) [
      | inl is ↦ is
      | inr other ↦
          let v = at (spots e) j in
          let holds = both_named e i e j v e_in i_in e_in j_in same refl (λ eq. other (omega (arith, eq))) in
          let size = same_size e in
          let one = to_inner e i v e_in i_in holds same in
          let two = to_inner e j v e_in j_in holds refl in
          meet.itself e i j e_in (omega (arith, size, i_in)) (omega (arith, size, j_in)) (ap four one ∙ holds) (one ∙ sym two)
    ]);
    apart = λ e f v e_in f_in differ one two.
        let holds = both_have e f v e_in f_in differ one two in
        meet.apart e f v e_in f_in differ holds (has_inner e v e_in holds one) (has_inner f v f_in holds two);
    one = λ e f u v e_in f_in differ a b c d.
        let four_u = both_have e f u e_in f_in differ a b in
        let four_v = both_have e f v e_in f_in differ c d in
        meet.one e f u v e_in f_in differ four_u four_v (has_inner e u e_in four_u a) (has_inner f u f_in four_u b) (has_inner e v e_in four_v c) (has_inner f v f_in four_v d);
  }

  -- ---- the orders along the walks

  abbrev met_spot : ℕ → ℕ → Bool
  met_spot = is_met edges more.ends walks

  abbrev crossed : ℕ → ℕ → Bool
  crossed = is_crossed edges web.ends four walks

  has_same : (f v : ℕ) → has edges f ≡ true → four v ≡ true → has (spots f) v ≡ has (inner f) v
  has_same f v f_in holds = same_tests (has (spots f) v) (has (inner f) v) (has_inner f v f_in holds) (has_spot f v f_in holds)

  other_same : (e v f : ℕ) → has edges f ≡ true → four v ≡ true → is_other more.ends walks e v f ≡ is_other web.ends walks e v f
  other_same e v f f_in holds = ap (λ b. not (eqb f e) && b) (has_same f v f_in holds)

  met_same : (e v : ℕ) → four v ≡ true → met_spot e v ≡ is_met edges web.ends walks e v
  met_same e v holds = any-same (is_other more.ends walks e v) (is_other web.ends walks e v) edges (λ f f_in. other_same e v f f_in holds)

  -- a node of the walk at which it is met is named, and is its node in the old web
  met_named : (e i : ℕ) → has edges e ≡ true → i < length (spots e) → met_spot e (at (spots e) i) ≡ true → four (at (spots e) i) ≡ true
  met_named e i e_in i_in h =
      let m = other_meets g edges more after four walks is_graph track simply e (at (spots e) i) e_in (has-at (spots e) i i_in) h in
      both_have e (other_at edges more.ends walks e (at (spots e) i)) (at (spots e) i) e_in m.f_in m.differ m.one m.two

  pub test_is : (e i : ℕ) → has edges e ≡ true → i < length (spots e) → met_spot e (at (spots e) i) ≡ crossed e (at (inner e) i)
  test_is e i e_in i_in = same_tests (met_spot e (at (spots e) i)) (crossed e (at (inner e) i))
      (λ h.
      let holds = met_named e i e_in i_in h in
      let is = to_inner e i (at (spots e) i) e_in i_in holds refl in
      ap (crossed e) is ∙ and_from (four (at (spots e) i)) (is_met edges web.ends walks e (at (spots e) i)) holds (sym (met_same e (at (spots e) i) holds) ∙ h))
      (λ h.
      let parts : (four (at (inner e) i) ≡ true) × (is_met edges web.ends walks e (at (inner e) i) ≡ true) = and_parts _ _ h in
      let is = to_spot e i (at (inner e) i) e_in i_in parts.0 refl in
      ap (met_spot e) is ∙ met_same e (at (inner e) i) parts.0 ∙ parts.1)

  name_is : (e i : ℕ) → has edges e ≡ true → i < length (spots e) → crossed e (at (inner e) i) ≡ true →
      other_at edges more.ends walks e (at (spots e) i) ≡ other_at edges web.ends walks e (at (inner e) i)
  name_is e i e_in i_in h =
      let v = at (inner e) i in
      let parts : (four v ≡ true) × (is_met edges web.ends walks e v ≡ true) = and_parts _ _ h in
      ap (other_at edges more.ends walks e) (to_spot e i v e_in i_in parts.0 refl)
      ∙ first_passing-same (is_other more.ends walks e v) (is_other web.ends walks e v) edges (λ f f_in. other_same e v f f_in parts.0)

  pub order_same : order_along edges more.ends walks ≡ order_by_walks edges web.ends four walks
  order_same = λ i e. order_is e i
    where
      order_is : (e : ℕ) → order_along edges more.ends walks e ≡ order_by_walks edges web.ends four walks e
      order_is e = elim (cases_Bool (has edges e)) [
        | inr out ↦ cond-false _ _ _ out ∙ sym (cond-false _ _ _ out)
        | inl e_in ↦
            let size = same_size e in
            cond-true _ _ _ e_in
            ∙ picked-same (met_spot e) (crossed e) (other_at edges more.ends walks e) (other_at edges web.ends walks e) (spots e) (inner e) (sym size)
            (λ i i_in. test_is e i e_in (omega (arith, size, i_in))) (λ i i_in h. name_is e i e_in (omega (arith, size, i_in)) h)
            ∙ sym (cond-true _ _ _ e_in)
      ]
