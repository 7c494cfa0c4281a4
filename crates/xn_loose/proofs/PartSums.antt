-- Parts without a common edge: their crossings add up to no more than those of all.
use Rattle.std.proofs.Common.{◌≡◌, ℕ, zero, suc, ◌+◌, ◌*◌, ◌<◌, ◌≤◌, inl, inr, Bool, true, eqb, ltb, List, [], ◌∷◌, ◌++◌, length, map, refl, sym, ap, subst, arith}
use Rattle.std.specs.List.{flat_map}
use Rattle.std.specs.Prelude.{All}
use Rattle.std.proofs.lemmas.Bool.{cases_Bool, ltb-true}
use Rattle.xn_model.specs.Drawing.{IsAtLeast}
use Rattle.xn_model.specs.Graph.{EndsIn, Graph, HasNoLoop, IsGraph, edges_of, ends_at}
use Rattle.xn_model.specs.Lists.{has, one_if, total}
use Rattle.xn_model.specs.Loose.{IsLoose}
use Rattle.xn_model.specs.Orders.{IsEdgeList, crossings_of}
use Rattle.xn_model.specs.Permutation.{count_below}
use Rattle.xn_genus.proofs.Kept.{EndsIn_at}
use Rattle.xn_fewer.proofs.Has.{has-left, has-right}
use Rattle.xn_fewer.proofs.Rising.{distinct-rising, rising-from_increasing}
use Rattle.xn_track.specs.Track.{IsTrack, passed}
use Rattle.xn_track.proofs.Loose.{loose_drawings_are_tracks}
use Rattle.xn_loose.specs.Parts.{ArePartsOf, BoundsAddUp, CrossingsAddUp, all_passed, passed_twice}
use Rattle.xn_loose.specs.Renaming.{subgraph_of}
use Rattle.xn_loose.proofs.OneMore.{within_total}
use Rattle.xn_loose.proofs.OnlyWalked.{at_most_two, count_of, none_low, parts_give_drawings}
use Rattle.xn_loose.proofs.Renamed.{drawings_of_edges_are_drawings}
use Rattle.xn_general.proofs.Bounds.{simple_drawings_are_drawings}

-- ---- sums

total-append : (h : ℕ → ℕ) (xs ys : List ℕ) → total h (xs ++ ys) ≡ total h xs + total h ys
total-append h [] ys = omega arith
total-append h (x ∷ xs) ys = let rest = total-append h xs ys in omega (arith, rest)

total-parts : (h : ℕ → ℕ) (parts : List (List ℕ)) → total h (flat_map (λ part. part) parts) ≡ total (λ part. total h part) parts
total-parts h [] = refl
total-parts h (part ∷ parts) = let rest = total-parts h parts in let sum = total-append h part (flat_map (λ p. p) parts) in omega (arith, rest, sum)

total-plus : (f h : List ℕ → ℕ) (parts : List (List ℕ)) → total (λ part. f part + h part) parts ≡ total f parts + total h parts
total-plus f h [] = refl
total-plus f h (part ∷ parts) = let rest = total-plus f h parts in omega (arith, rest)

total-none : (f : List ℕ → ℕ) (parts : List (List ℕ)) → ((part : List ℕ) → f part ≡ 0) → total f parts ≡ 0
total-none f [] none = refl
total-none f (part ∷ parts) none = let here = none part in let rest = total-none f parts none in omega (arith, here, rest)

count-flat : (v : ℕ) (f : ℕ → List ℕ) (es : List ℕ) → count_of v (flat_map f es) ≡ total (λ e. count_of v (f e)) es
count-flat v f [] = refl
count-flat v f (e ∷ es) =
    let sum = total-append (λ w. one_if (eqb w v)) (f e) (flat_map f es) in
    let rest = count-flat v f es in
    omega (arith, sum, rest)

-- what counts twice at least is at least two
half : (n : ℕ) → 2 * one_if (ltb 1 n) ≤ n
half n = elim (cases_Bool (ltb 1 n)) [
  | inl h ↦ let low = ltb-true 1 n h in let one : one_if (ltb 1 n) ≡ 1 = ap one_if h in omega (arith, low, one)
  | inr fails ↦ let none : one_if (ltb 1 n) ≡ 0 = ap one_if fails in omega (arith, none)
]

module _ (g : Graph) (all : List ℕ) (web : Graph) (next : ℕ → ℕ) (four : ℕ → Bool) (walks : ℕ → List ℕ) (is_graph : IsGraph g) (track : IsTrack g all web next four walks)
    (parts : List (List ℕ)) (are : ArePartsOf (length g.ends) all parts) where
  abbrev twice : ℕ → List ℕ → ℕ
  twice v part = one_if (passed_twice part web.ends walks v)

  abbrev times : ℕ → ℕ → ℕ
  times v e = count_of v (passed web.ends (walks e))

  doubled : (v : ℕ) (ps : List (List ℕ)) → 2 * total (twice v) ps ≤ total (λ part. total (times v) part) ps
  doubled v [] = omega arith
  doubled v (part ∷ ps) =
      let here = half (count_of v (all_passed part web.ends walks)) in
      let same = count-flat v (λ e. passed web.ends (walks e)) part in
      let rest = doubled v ps in
      omega (arith, here, same, rest)

  -- the parts together pass a node no more often than all edges do
  within_all : (v : ℕ) → 2 * total (twice v) parts ≤ count_of v (all_passed all web.ends walks)
  within_all v =
      let two = doubled v parts in
      let joined = total-parts (times v) parts in
      let distinct = distinct-rising all (rising-from_increasing all track.edge_list.rise) in
      let few = within_total (flat_map (λ part. part) parts) (times v) all are.no_edge_twice distinct (λ e e_in. inr (are.within e e_in)) in
      let sum = count-flat v (λ e. passed web.ends (walks e)) all in
      omega (arith, two, joined, few, sum)

  low_sum : (n : ℕ) → n ≤ g.nodes → total (λ part. count_below n (passed_twice part web.ends walks)) parts ≡ 0
  low_sum zero low = total-none (λ part. 0) parts (λ part. refl)
  low_sum (suc n) low =
      let rest = low_sum n (omega (arith, low)) in
      let sum = total-plus (λ part. count_below n (passed_twice part web.ends walks)) (twice n) parts in
      let most = within_all n in
      let none = none_low g all web next four walks is_graph track n (omega (arith, low)) in
      omega (arith, rest, sum, most, none)

  high_sum : (k : ℕ) → total (λ part. count_below (g.nodes + k) (passed_twice part web.ends walks)) parts ≤ k
  high_sum zero =
      let e : g.nodes + 0 ≡ g.nodes = omega arith in
      let none = low_sum g.nodes (omega arith) in
      let same : total (λ part. count_below (g.nodes + 0) (passed_twice part web.ends walks)) parts ≡ total (λ part. count_below g.nodes (passed_twice part web.ends walks)) parts =
      ap (λ n. total (λ part. count_below n (passed_twice part web.ends walks)) parts) e in
      omega (arith, none, same)
  high_sum (suc k) =
      let e : g.nodes + suc k ≡ suc (g.nodes + k) = omega arith in
      let rest = high_sum k in
      let sum = total-plus (λ part. count_below (g.nodes + k) (passed_twice part web.ends walks)) (twice (g.nodes + k)) parts in
      let most = within_all (g.nodes + k) in
      let two = at_most_two g all web next four walks is_graph track (g.nodes + k) in
      let same : total (λ part. count_below (g.nodes + suc k) (passed_twice part web.ends walks)) parts
      ≡ total (λ part. count_below (g.nodes + k) (passed_twice part web.ends walks) + twice (g.nodes + k) part) parts =
      ap (λ n. total (λ part. count_below n (passed_twice part web.ends walks)) parts) e in
      omega (arith, rest, sum, most, two, same)

pub crossings_add_up : CrossingsAddUp
crossings_add_up g all further web next walks loose parts are =
    let t = loose_drawings_are_tracks g all further web next walks loose in
    subst (λ n. total (λ part. count_below n (passed_twice part web.ends walks)) parts ≤ further) (sym loose.nodes)
    (high_sum g all web next t.0 walks loose.is_graph t.1 parts are further)

-- ---- the graph of a part

ends_in_again : (nodes : ℕ) (ends : List (ℕ × ℕ)) → EndsIn nodes ends → (edges : List ℕ) → All (λ e. e < length ends) edges → EndsIn nodes (map (ends_at ends) edges)
ends_in_again nodes ends ends_in [] low = tt
ends_in_again nodes ends ends_in (e ∷ edges) low =
    let here = EndsIn_at nodes ends ends_in e (low 0 e (omega arith)) in
    (here.0, here.1, ends_in_again nodes ends ends_in edges (λ i d i_in. low (suc i) d (omega (arith, i_in))))

no_loop_again : (ends : List (ℕ × ℕ)) → HasNoLoop ends → (edges : List ℕ) → All (λ e. e < length ends) edges → HasNoLoop (map (ends_at ends) edges)
no_loop_again ends none [] low i i_in = absurd (omega (arith, i_in))
no_loop_again ends none (e ∷ edges) low zero i_in = none e (low 0 e (omega arith))
no_loop_again ends none (e ∷ edges) low (suc i) i_in = no_loop_again ends none edges (λ j d j_in. low (suc j) d (omega (arith, j_in))) i (omega (arith, i_in))

pub subgraph_is_graph : (g : Graph) → IsGraph g → (edges : List ℕ) → All (λ e. e < length g.ends) edges → IsGraph (subgraph_of g edges)
subgraph_is_graph g is_graph edges low =
    record { ends_in = ends_in_again g.nodes g.ends is_graph.ends_in edges low; no_loop = no_loop_again g.ends is_graph.no_loop edges low }

-- each part's bound holds of the nodes that its walks pass twice
bounds_below : (g : Graph) (all : List ℕ) (further : ℕ) (web : Graph) (next : ℕ → ℕ) (walks : ℕ → List ℕ) → IsLoose g all further web next walks → (low : List ℕ → ℕ) (parts : List (List ℕ)) →
    All (IsEdgeList (length g.ends)) parts → ((e : ℕ) → has (flat_map (λ part. part) parts) e ≡ true → has all e ≡ true) → All (λ part. IsAtLeast (subgraph_of g part) (low part)) parts →
    total low parts ≤ total (λ part. count_below web.nodes (passed_twice part web.ends walks)) parts
bounds_below g all further web next walks loose low [] lists within bounds = omega arith
bounds_below g all further web next walks loose low (part ∷ parts) lists within bounds =
    let drawn = parts_give_drawings g all part further web next walks loose (lists 0 part (omega arith)) (λ e e_in. within e (has-left part (flat_map (λ p. p) parts) e e_in)) in
    let own = drawings_of_edges_are_drawings g part drawn.0 drawn.1 drawn.2 in
    let own_graph = subgraph_is_graph g loose.is_graph part (lists 0 part (omega arith)).below in
    let as_drawing = simple_drawings_are_drawings (subgraph_of g part) (length (crossings_of part drawn.0)) own_graph (_, drawn.1, own.0, own.1) in
    let here = bounds 0 part (omega arith) (length (crossings_of part drawn.0)) as_drawing in
    let few = drawn.3 in
    let rest = bounds_below g all further web next walks loose low parts (λ i p i_in. lists (suc i) p (omega (arith, i_in)))
    (λ e e_in. within e (has-right part (flat_map (λ p. p) parts) e e_in)) (λ i p i_in. bounds (suc i) p (omega (arith, i_in))) in
    omega (arith, here, few, rest)

pub bounds_add_up : BoundsAddUp
bounds_add_up g parts low is_graph are bounds c d =
    let below = bounds_below g (edges_of g) c d.0 d.1 d.2 d.3 low parts are.edge_lists are.within bounds in
    let most = crossings_add_up g (edges_of g) c d.0 d.1 d.2 d.3 parts are in
    omega (arith, below, most)
