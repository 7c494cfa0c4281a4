-- The walks of listed edges in their planarised graph: no walk meets a node twice.
use Rattle.std.proofs.Common.{◌≡◌, ◌≢◌, ℕ, zero, suc, ◌+◌, ◌*◌, ◌<◌, ◌≤◌, inl, inr, true, false, List, [], ◌∷◌, length, map, refl, sym, ◌∙◌, ap, arith}
use Rattle.std.specs.List.{AllByRecursion, IsDistinct}
use Rattle.std.specs.Prelude.{nat_eq}
use Rattle.std.proofs.lemmas.Bool.{ne_eqb}
use Rattle.std.proofs.lemmas.List.{length-map}
use Rattle.xn_model.specs.Graph.{Graph, IsGraph, ends_at}
use Rattle.xn_model.specs.Lists.{at, has}
use Rattle.xn_model.specs.Map.{tail_of}
use Rattle.xn_model.specs.Orders.{IsOrders, crossings_of}
use Rattle.xn_model.specs.Web.{crossing_node, first_segment, segments_of, web_of}
use Rattle.xn_model.proofs.Darts.{tail-even}
use Rattle.xn_genus.proofs.Kept.{EndsIn_at}
use Rattle.xn_fewer.proofs.Crossings.{IsCross, node_apart, node_facts, not_of_itself}
use Rattle.xn_fewer.proofs.Rising.{Rising, has-all, rising-from_increasing}
use Rattle.xn_track.proofs.Blocks.{at_place, place, place-first_segment, place-same, size_of}
use Rattle.xn_track.proofs.Places.{has-at, positions_apart}
use Rattle.xn_loose.specs.Inserting.{EachMeetsOnce}
use Rattle.xn_general.specs.Webs.{walk_in_web}
use Rattle.xn_general.proofs.InWeb.{at-map, darts-length, darts_at, through-length, through_first, through_mid}

-- a list whose places are told apart by their numbers has no repeats
pub distinct_by_places : (xs : List ℕ) → ((i j : ℕ) → i < length xs → j < length xs → at xs i ≡ at xs j → i ≡ j) → IsDistinct nat_eq xs
unfolding IsDistinct
distinct_by_places [] apart = tt
distinct_by_places (x ∷ xs) apart = (
  others xs (λ j j_in same. let e = apart 0 (suc j) (omega arith) (omega (arith, j_in)) same in omega (arith, e)),
  distinct_by_places xs (λ i j i_in j_in same. let e = apart (suc i) (suc j) (omega (arith, i_in)) (omega (arith, j_in)) same in omega (arith, e)),
)
  where
    others : (ys : List ℕ) → ((j : ℕ) → j < length ys → x ≢ at ys j) → AllByRecursion (λ y. nat_eq x y ≡ false) ys
    others [] far = tt
    others (y ∷ ys) far = (ne_eqb x y (far 0 (omega arith)), others ys (λ j j_in. far (suc j) (omega (arith, j_in))))

module _ (g : Graph) (edges : List ℕ) (ord : ℕ → List ℕ) (is_graph : IsGraph g) (orders : IsOrders g.ends edges ord) where
  abbrev n : ℕ
  n = g.nodes

  abbrev pairs : List (ℕ × ℕ)
  pairs = crossings_of edges ord

  abbrev web : Graph
  web = web_of g edges ord

  abbrev segs : ℕ → List (ℕ × ℕ)
  segs = segments_of g pairs ord

  abbrev F : ℕ → ℕ
  F = first_segment edges ord

  abbrev W : ℕ → List ℕ
  W = walk_in_web edges ord

  abbrev node : ℕ → ℕ → ℕ
  node = crossing_node n pairs

  rise : Rising edges
  rise = rising-from_increasing edges orders.edge_list.rise

  mids-length : (e : ℕ) → length (map (node e) (ord e)) ≡ length (ord e)
  mids-length e = length-map (ord e) (node e)

  segs-length : (e : ℕ) → length (segs e) ≡ suc (length (ord e))
  segs-length e = through-length (ends_at g.ends e).0 (map (node e) (ord e)) (ends_at g.ends e).1 ∙ ap suc (mids-length e)

  segs_place : (e : ℕ) → place (size_of segs) edges e ≡ F e
  segs_place e = place-same (size_of segs) (λ x. suc (length (ord x))) edges e (λ x x_in. segs-length x) ∙ place-first_segment ord edges e

  seg_at : (e i : ℕ) → has edges e ≡ true → i ≤ length (ord e) → ends_at web.ends (F e + i) ≡ ends_at (segs e) i
  seg_at e i e_in i_in =
      let size = segs-length e in
      ap (λ k. ends_at web.ends (k + i)) (sym (segs_place e)) ∙ at_place segs edges e i (0, 0) e_in (omega (arith, size, i_in))

  first_tail : (e : ℕ) → has edges e ≡ true → tail_of web.ends (2 * (F e + 0)) ≡ (ends_at g.ends e).0
  first_tail e e_in =
      tail-even web.ends (F e + 0) ∙ ap (λ p. p.0) (seg_at e 0 e_in (omega arith)) ∙ through_first (ends_at g.ends e).0 (map (node e) (ord e)) (ends_at g.ends e).1

  seam_tail : (e i : ℕ) → has edges e ≡ true → i < length (ord e) → tail_of web.ends (2 * (F e + suc i)) ≡ node e (at (ord e) i)
  seam_tail e i e_in i_in =
      let mid = through_mid (ends_at g.ends e).0 (map (node e) (ord e)) (ends_at g.ends e).1 i (let size = mids-length e in omega (arith, size, i_in)) in
      tail-even web.ends (F e + suc i) ∙ ap (λ p. p.0) (seg_at e (suc i) e_in (omega (arith, i_in))) ∙ mid.1 ∙ at-map (node e) (ord e) i i_in

  W-length : (e : ℕ) → length (W e) ≡ suc (length (ord e))
  W-length e = darts-length (F e) (length (ord e))

  tail_at : (e i : ℕ) → i ≤ length (ord e) → at (map (tail_of web.ends) (W e)) i ≡ tail_of web.ends (2 * (F e + i))
  tail_at e i i_in =
      let size = W-length e in
      at-map (tail_of web.ends) (W e) i (omega (arith, size, i_in)) ∙ ap (tail_of web.ends) (darts_at (F e) (length (ord e)) i i_in)

  cross : (e f : ℕ) → has (ord e) f ≡ true → IsCross n edges rise ord orders.both_ways e f
  cross e f h = record { e_in = orders.within e f h; f_in = orders.within f e (orders.both_ways e f h); crosses = h; differ = not_of_itself g.ends e f (orders.independent e f h) }

  node_high : (e f : ℕ) → has (ord e) f ≡ true → n ≤ node e f
  node_high e f h = let facts = node_facts n edges rise ord orders.both_ways e f (cross e f h) in omega (arith, facts.2)

  first_low : (e : ℕ) → has edges e ≡ true → (ends_at g.ends e).0 < n
  first_low e e_in = (EndsIn_at n g.ends is_graph.ends_in e (has-all (λ k. k < length g.ends) edges orders.edge_list.below e e_in)).0

  -- the crossings of an edge are at nodes of their own
  seams_apart : (e i j : ℕ) → i < length (ord e) → j < length (ord e) → node e (at (ord e) i) ≡ node e (at (ord e) j) → i ≡ j
  seams_apart e i j i_in j_in same =
      let f = at (ord e) i in
      let h = at (ord e) j in
      let f_in = has-at (ord e) i i_in in
      let h_in = has-at (ord e) j j_in in
      elim (node_apart n edges rise ord orders.both_ways e f e h (cross e f f_in) (cross e h h_in) same) [
        | inl straight ↦ positions_apart (ord e) (orders.no_repeats e) i j i_in j_in straight.1
        | inr turned ↦ absurd ((cross e h h_in).differ turned.0)
      ]

  not_first : (e i : ℕ) → has edges e ≡ true → i < length (ord e) → (ends_at g.ends e).0 ≢ node e (at (ord e) i)
  not_first e i e_in i_in same =
      let low = first_low e e_in in
      let high = node_high e (at (ord e) i) (has-at (ord e) i i_in) in
      omega (arith, low, high, same)

  places : (e i j : ℕ) → has edges e ≡ true → i ≤ length (ord e) → j ≤ length (ord e) → tail_of web.ends (2 * (F e + i)) ≡ tail_of web.ends (2 * (F e + j)) → i ≡ j
  places e zero zero e_in i_in j_in same = refl
  places e zero (suc j) e_in i_in j_in same =
      absurd (not_first e j e_in (omega (arith, j_in)) (sym (first_tail e e_in) ∙ same ∙ seam_tail e j e_in (omega (arith, j_in))))
  places e (suc i) zero e_in i_in j_in same =
      absurd (not_first e i e_in (omega (arith, i_in)) (sym (first_tail e e_in) ∙ sym same ∙ seam_tail e i e_in (omega (arith, i_in))))
  places e (suc i) (suc j) e_in i_in j_in same =
      ap suc (seams_apart e i j (omega (arith, i_in)) (omega (arith, j_in)) (sym (seam_tail e i e_in (omega (arith, i_in))) ∙ same ∙ seam_tail e j e_in (omega (arith, j_in))))

  pub walks_meet_once : EachMeetsOnce edges web.ends W
  walks_meet_once e e_in =
      let tails = map (tail_of web.ends) (W e) in
      let size : length tails ≡ suc (length (ord e)) = length-map (W e) (tail_of web.ends) ∙ W-length e in
      distinct_by_places tails (λ i j i_in j_in same.
      let i_low : i ≤ length (ord e) = omega (arith, i_in, size) in
      let j_low : j ≤ length (ord e) = omega (arith, j_in, size) in
      places e i j e_in i_low j_low (sym (tail_at e i i_low) ∙ same ∙ tail_at e j j_low))
