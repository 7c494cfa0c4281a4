-- An edge joins two components of a loose drawing.
use Rattle.std.proofs.Common.{◌≡◌, ◌≢◌, ℕ, suc, ◌+◌, ◌*◌, ◌/◌, ◌<◌, ◌≤◌, inl, inr, Bool, true, eqb, List, [], ◌∷◌, ◌++◌, length, map, refl, sym, ◌∙◌, ap, ap₂, subst, arith, length-append}
use Rattle.std.specs.List.{IsDistinct, flat_map}
use Rattle.std.specs.Prelude.{nat_eq}
use Rattle.std.proofs.lemmas.Bool.{both_ways, cases_Bool, cases_eq, cond-true, cond-false, eq-eqb, ne_eqb}
use Rattle.xn_model.specs.Graph.{Graph, ends_at}
use Rattle.xn_model.specs.Lists.{has, one_if, total}
use Rattle.xn_model.specs.Loose.{GoesStraight, IsLoose, MeetsOnce, dart_count, times_walked}
use Rattle.xn_model.specs.Map.{IsMap, Joined, WalksTo, is_lone, reverse_of, tail_of}
use Rattle.xn_model.specs.Permutation.{count_below}
use Rattle.xn_model.proofs.Darts.{reverse-even, reverse_below, tail-push, tail-push_even, tail-push_odd}
use Rattle.xn_ring.proofs.Counting.{count-same}
use Rattle.xn_genus.proofs.Kept.{EndsIn_at}
use Rattle.xn_genus.proofs.Lone.{dart_if_not_lone}
use Rattle.xn_surgery.specs.Corners.{Corner, IsCornerOf, after, lone, node_of, stand_at}
use Rattle.xn_surgery.specs.Insertion.{IsInsertion}
use Rattle.xn_surgery.proofs.Insert.{map_more}
use Rattle.xn_surgery.proofs.InsertFlat.{insertion_flat}
use Rattle.xn_surgery.proofs.Stand.{alone_other, stand_other}
use Rattle.xn_fewer.proofs.Rising.{distinct-rising, rising-from_increasing}
use Rattle.xn_loose.specs.Inserting.{EachMeetsOnce, EdgesJoinComponents, IsOneMore}
use Rattle.xn_track.specs.Steps.{with_walk}
use Rattle.xn_loose.proofs.MeetOnce.{distinct_if_once, one_if-most}
use Rattle.xn_loose.proofs.OneMore.{one_more_low, within_total}
use Rattle.xn_track.proofs.Loose.{not_walked}
use Rattle.xn_track.proofs.Tally.{but, but_there, same_total, times-flat_map, total-le, total-out}

-- a corner of each node
corner_at : (nodes : ℕ) (ends : List (ℕ × ℕ)) (w : ℕ) → w < nodes → (k : Corner) × IsCornerOf nodes ends k × (node_of ends k ≡ w)
corner_at nodes ends w w_in = elim (cases_Bool (is_lone ends w)) [
  | inl alone ↦ (lone w, (w_in, alone), refl)
  | inr busy ↦ let d = dart_if_not_lone ends w busy in (after d.0, d.1, d.2)
]

-- a dart elsewhere turns as before
stand_far : (k : Corner) (ends : List (ℕ × ℕ)) (z : ℕ) (f : ℕ → ℕ) (x : ℕ) → tail_of ends x ≢ node_of ends k → x ≢ z → stand_at k z f x ≡ f x
stand_far (after d) ends z f x far not_z = stand_other d z f x (λ same. far (ap (tail_of ends) same)) not_z
stand_far (lone w) ends z f x far not_z = alone_other w z f x not_z

walk_push : (ends : List (ℕ × ℕ)) (p : ℕ × ℕ) (u v : ℕ) (ds : List ℕ) → WalksTo ends u ds v → WalksTo (ends ++ p ∷ []) u ds v
walk_push ends p u v [] walk = walk
walk_push ends p u v (d ∷ ds) walk =
    let size = length-append ends (p ∷ []) in
    let low = walk.0 in
    let rest = walk_push ends p (tail_of ends (reverse_of d)) v ds walk.2 in
    let P : ℕ → Type 0 = λ k. WalksTo (ends ++ p ∷ []) k ds v in
    (omega (arith, low, size), tail-push ends p d walk.0 ∙ walk.1, subst P (sym (tail-push ends p (reverse_of d) (reverse_below (length ends) d walk.0))) rest)

straight_push : (n : ℕ) (ends : List (ℕ × ℕ)) (p : ℕ × ℕ) (next turn : ℕ → ℕ) →
    ((x : ℕ) → x < 2 * length ends → n ≤ tail_of ends x → (turn x ≡ next x) × (next x < 2 * length ends) × (n ≤ tail_of ends (next x))) → (u v : ℕ) (ds : List ℕ) → WalksTo ends u ds v →
    GoesStraight n ends next ds → GoesStraight n (ends ++ p ∷ []) turn ds
straight_push n ends p next turn same u v [] walk goes = tt
straight_push n ends p next turn same u v (d ∷ []) walk goes = tt
straight_push n ends p next turn same u v (d ∷ d' ∷ ds) walk goes =
    let r_in = reverse_below (length ends) d walk.0 in
    let tail = tail-push ends p d' walk.2.0 in
    let one = same (reverse_of d) r_in (let high = goes.0 in let eq = walk.2.1 in omega (arith, high, eq)) in
    let two = same (next (reverse_of d)) one.1 one.2 in
    (let high = goes.0 in omega (arith, high, tail), ap turn one.0 ∙ two.0 ∙ goes.1, straight_push n ends p next turn same (tail_of ends (reverse_of d)) v (d' ∷ ds) walk.2 goes.2)

tails_push : (ends : List (ℕ × ℕ)) (p : ℕ × ℕ) (u v : ℕ) (ds : List ℕ) → WalksTo ends u ds v → map (tail_of (ends ++ p ∷ [])) ds ≡ map (tail_of ends) ds
tails_push ends p u v [] walk = refl
tails_push ends p u v (d ∷ ds) walk = ap₂ ◌∷◌ (tail-push ends p d walk.0) (tails_push ends p (tail_of ends (reverse_of d)) v ds walk.2)

module _ (g : Graph) (edges all : List ℕ) (e further : ℕ) (web : Graph) (next : ℕ → ℕ) (walks : ℕ → List ℕ) (loose : IsLoose g edges further web next walks)
    (more_edges : IsOneMore (length g.ends) edges e all) (e_low : e < length g.ends) (apart : Joined web.ends (ends_at g.ends e).0 (ends_at g.ends e).1 → ⊥)
    (from : (k : Corner) × IsCornerOf web.nodes web.ends k × (node_of web.ends k ≡ (ends_at g.ends e).0))
    (to : (k : Corner) × IsCornerOf web.nodes web.ends k × (node_of web.ends k ≡ (ends_at g.ends e).1)) where
  abbrev n : ℕ
  n = g.nodes

  abbrev last : ℕ
  last = length web.ends

  the_map : IsMap web.nodes web.ends next
  the_map = loose.is_flat_map.is_map

  e_ends : ((ends_at g.ends e).0 < n) × ((ends_at g.ends e).1 < n)
  e_ends = EndsIn_at n g.ends loose.is_graph.ends_in e e_low

  abbrev pair : ℕ × ℕ
  pair = (node_of web.ends from.0, node_of web.ends to.0)

  abbrev pub web' : Graph
  web' = record { nodes = web.nodes; ends = web.ends ++ (node_of web.ends from.0, node_of web.ends to.0) ∷ [] }

  abbrev pub turn : ℕ → ℕ
  turn x = stand_at from.0 (2 * length web.ends) (stand_at to.0 (2 * length web.ends + 1) next) x

  abbrev pub walks' : ℕ → List ℕ
  walks' = with_walk walks e (2 * length web.ends ∷ [])

  comes : IsInsertion web.nodes web.ends next from.0 to.0 web'.ends turn
  comes = record {
    first = from.1;
    second = to.1;
    two_nodes = λ same. loose.is_graph.no_loop e e_low (sym from.2 ∙ same ∙ to.2);
    ends_more = refl;
    turns = λ x x_in. refl;
  }

  size' : length web'.ends ≡ suc last
  size' = let sum = length-append web.ends (pair ∷ []) in omega (arith, sum)

  not_joined : Joined web.ends (node_of web.ends from.0) (node_of web.ends to.0) → ⊥
  not_joined there =
      let P : ℕ → Type 0 = λ x. Joined web.ends x (node_of web.ends to.0) in
      let Q : ℕ → Type 0 = λ x. Joined web.ends (ends_at g.ends e).0 x in
      apart (subst Q to.2 (subst P from.2 there))

  same_turn : (x : ℕ) → x < 2 * last → n ≤ tail_of web.ends x → (turn x ≡ next x) × (next x < 2 * last) × (n ≤ tail_of web.ends (next x))
  same_turn x x_in high =
      let low = e_ends in
      let on = the_map.same_node x x_in in (
        stand_far from.0 web.ends (2 * last) (stand_at to.0 (2 * last + 1) next) x (λ same. omega (arith, same, from.2, low, high)) (λ same. omega (arith, same, x_in))
            ∙ stand_far to.0 web.ends (2 * last + 1) next x (λ same. omega (arith, same, to.2, low, high)) (λ same. omega (arith, same, x_in)),
        the_map.permutes.below x x_in,
        omega (arith, on, high),
      )

  here : (x : ℕ) → x ≡ e → walks' x ≡ 2 * last ∷ []
  here x is = cond-true _ _ _ (eq-eqb x e is)

  elsewhere : (x : ℕ) → x ≢ e → walks' x ≡ walks x
  elsewhere x other = cond-false _ _ _ (ne_eqb x e other)

  not_e : (x : ℕ) → has edges x ≡ true → x ≢ e
  not_e x x_in is = both_ways _ more_edges.new (ap (has edges) (sym is) ∙ x_in)

  old : (x : ℕ) → has all x ≡ true → x ≢ e → has edges x ≡ true
  old x x_in other = elim (more_edges.only x x_in) [ inl is ↦ absurd (other is) | inr o ↦ o ]

  once' : (t : ℕ) → t < length web'.ends → times_walked t (flat_map walks' all) ≡ 1
  once' t t_in =
      let k : ℕ → ℕ = λ x. times_walked t (walks' x) in
      let h : ℕ → ℕ = λ x. times_walked t (walks x) in
      let all_distinct = distinct-rising all (rising-from_increasing all more_edges.edge_list.rise) in
      let edges_distinct = distinct-rising edges (rising-from_increasing edges loose.edge_list.rise) in
      let sum = times-flat_map t walks' all in
      let old_sum = times-flat_map t walks edges in
      let out = total-out k all e all_distinct more_edges.there in
      let up = within_total edges (but e k) all edges_distinct all_distinct (λ x x_in. inr (more_edges.kept x x_in)) in
      let down = within_total all (but e k) edges all_distinct edges_distinct (λ x x_in. elim (cases_eq x e) [
        | inl is ↦ inl (cond-true _ _ _ (eq-eqb x e is))
        | inr other ↦ inr (old x x_in other)
      ]) in
      let same = same_total (but e k) h edges (λ x x_in. but_there e k x (not_e x x_in) ∙ ap (times_walked t) (elsewhere x (not_e x x_in))) in
      let own : k e ≡ times_walked t (2 * last ∷ []) = ap (times_walked t) (here e refl) in
      let half : (2 * last) / 2 ≡ last = omega arith in
      elim (cases_eq t last) [
        | inl is ↦
            let some : one_if (eqb ((2 * last) / 2) t) ≡ 1 = ap one_if (eq-eqb ((2 * last) / 2) t (half ∙ sym is)) in
            let none = total-le h (λ x. 0) edges (λ x x_in. not_walked web.ends (ends_at g.ends x).0 (ends_at g.ends x).1 (walks x) (loose.lead x x_in) t (omega (arith, is))) in
            let zero_sum = no_terms edges in
            omega (arith, sum, out, up, down, same, own, some, none, zero_sum)
        | inr other ↦
            let none : one_if (eqb ((2 * last) / 2) t) ≡ 0 = ap one_if (ne_eqb ((2 * last) / 2) t (λ f. other (sym f ∙ half))) in
            let was = loose.once t (omega (arith, t_in, size', other)) in
            omega (arith, sum, old_sum, out, up, down, same, own, none, was)
      ]
    where
      no_terms : (es : List ℕ) → total (λ x. 0) es ≡ 0
      no_terms [] = refl
      no_terms (x ∷ xs) = let rest = no_terms xs in omega (arith, rest)

  four' : (v : ℕ) → n ≤ v → v < web.nodes → dart_count web'.ends v ≡ 4
  four' v high v_in =
      let was = loose.four v high v_in in
      let t : ℕ → Bool = λ x. eqb (tail_of web'.ends x) v in
      let two : 2 * length web'.ends ≡ suc (suc (2 * last)) = omega (arith, size') in
      let split : count_below (2 * length web'.ends) t ≡ count_below (2 * last) t + one_if (t (2 * last)) + one_if (t (suc (2 * last))) = ap (λ m. count_below m t) two in
      let same = count-same (2 * last) t (λ x. eqb (tail_of web.ends x) v) (λ x x_in. ap (λ k. eqb k v) (tail-push web.ends pair x x_in)) in
      let low = e_ends in
      let first : one_if (t (2 * last)) ≡ 0 = ap one_if (ne_eqb (tail_of web'.ends (2 * last)) v (λ is. let at = tail-push_even web.ends pair in omega (arith, is, at, from.2, low, high))) in
      let odd : suc (2 * last) ≡ 2 * last + 1 = omega arith in
      let second : one_if (t (suc (2 * last))) ≡ 0 = ap (λ k. one_if (t k)) odd ∙ ap one_if (ne_eqb (tail_of web'.ends (2 * last + 1)) v (λ is. let at = tail-push_odd web.ends pair in omega (arith, is, at, to.2, low, high))) in
      omega (arith, was, split, same, first, second)

  pub joined_loose : IsLoose g all further web' turn walks'
  joined_loose =
      let P : ℕ → List ℕ → Type 0 = λ x ds. WalksTo web'.ends (ends_at g.ends x).0 ds (ends_at g.ends x).1 × GoesStraight n web'.ends turn ds in
      let own : P e (2 * last ∷ []) = (
        (omega (arith, size'), tail-push_even web.ends pair ∙ from.2, ap (tail_of web'.ends) (reverse-even last) ∙ tail-push_odd web.ends pair ∙ to.2),
        tt,
      ) in
      let walk : (x : ℕ) → has all x ≡ true → P x (walks' x) = λ x x_in. elim (cases_eq x e) [
        | inl is ↦ subst (λ ds. P x ds) (sym (here x is)) (subst (λ k. P k (2 * last ∷ [])) (sym is) own)
        | inr other ↦
            let o = old x x_in other in
            let w = loose.lead x o in
            subst (λ ds. P x ds) (sym (elsewhere x other)) (
              walk_push web.ends pair (ends_at g.ends x).0 (ends_at g.ends x).1 (walks x) w,
              straight_push n web.ends pair next turn same_turn (ends_at g.ends x).0 (ends_at g.ends x).1 (walks x) w (loose.straight x o),
            )
      ] in
      record {
        is_graph = loose.is_graph;
        edge_list = more_edges.edge_list;
        nodes = loose.nodes;
        is_flat_map = record {
          is_map = map_more web.nodes web.ends web'.ends from.0 to.0 next turn the_map comes;
          flat = insertion_flat web.nodes web.ends web'.ends from.0 to.0 next turn the_map comes (inr not_joined) loose.is_flat_map.flat;
        };
        lead = λ x x_in. (walk x x_in).0;
        straight = λ x x_in. (walk x x_in).1;
        once = once';
        four = four';
      }

  pub joined_once : EachMeetsOnce edges web.ends walks → EachMeetsOnce all web'.ends walks'
  joined_once once x x_in = elim (cases_eq x e) [
    | inl is ↦ subst (MeetsOnce web'.ends) (sym (here x is)) (distinct_if_once web'.ends (2 * last ∷ []) (λ v. let most = one_if-most (eqb (tail_of web'.ends (2 * last)) v) in omega (arith, most)))
    | inr other ↦
        let o = old x x_in other in
        let same = tails_push web.ends pair (ends_at g.ends x).0 (ends_at g.ends x).1 (walks x) (loose.lead x o) in
        subst (MeetsOnce web'.ends) (sym (elsewhere x other)) (subst (IsDistinct nat_eq) (sym same) (once x o))
  ]

pub edges_join_components : EdgesJoinComponents
edges_join_components g edges all e further web next walks loose more_edges apart =
    let e_low = one_more_low (length g.ends) edges all e more_edges in
    let ends_e = EndsIn_at g.nodes g.ends loose.is_graph.ends_in e e_low in
    let all_nodes = loose.nodes in
    let from = corner_at web.nodes web.ends (ends_at g.ends e).0 (let low = ends_e.0 in omega (arith, low, all_nodes)) in
    let to = corner_at web.nodes web.ends (ends_at g.ends e).1 (let low = ends_e.1 in omega (arith, low, all_nodes)) in (
      web' g edges all e further web next walks loose more_edges e_low apart from to,
      turn g edges all e further web next walks loose more_edges e_low apart from to,
      walks' g edges all e further web next walks loose more_edges e_low apart from to,
      joined_loose g edges all e further web next walks loose more_edges e_low apart from to,
      joined_once g edges all e further web next walks loose more_edges e_low apart from to,
    )
