-- The lists of orders, and the segments of their web, are in the ranges of an answer's lines.
use Rattle.std.proofs.Common.{◌≡◌, ℕ, ◌*◌, ◌<◌, ◌≤◌, ◌^◌, inl, inr, true, false, eqb, List, [], ◌∷◌, length, get_or, refl, sym, ◌∙◌, ap, subst, arith, length-append}
use Rattle.std.specs.List.{IsDistinct, flat_map, list_any}
use Rattle.std.specs.Prelude.{All}
use Rattle.std.proofs.lemmas.Bool.{both_ways, cases_Bool, eq-eqb, eqb-true, or_cases, or_left, or_right}
use Rattle.std.proofs.lemmas.List.{get_or_default}
use Rattle.std.proofs.lemmas.Map.Steps.{length-le_from_distinct_below}
use Rattle.xn_model.specs.Graph.{Graph}
use Rattle.xn_model.specs.Lists.{has}
use Rattle.xn_model.specs.Orders.{IsOrders, crossings_of, order_at}
use Rattle.xn_model.specs.Web.{segments_of, web_of}
use Rattle.xn_model.proofs.Has.{has-all, has-first, unlike_each}
use Rattle.xn_graph.specs.Limits.{IsLimitedGraph}
use Rattle.xn_orders.proofs.Limits.{edges_few, length-segments_of}
use Rattle.xn_orders.proofs.Listed.{order_at-place}
use Rattle.xn_orders.proofs.Numbered.{has-get_or, not_itself}
use Rattle.xn_proof.specs.WellFormed.{IsList}

-- ---- lists without repeats

has_either : (xs : List ℕ) (x : ℕ) → list_any (eqb x) xs ≡ true → has xs x ≡ true
has_either [] x h = absurd (both_ways false refl h)
has_either (y ∷ ys) x h = elim (or_cases (eqb x y) (list_any (eqb x) ys) h) [
  | inl here ↦ or_left (eqb y x) (has ys x) (eq-eqb y x (sym (eqb-true x y here)))
  | inr later ↦ or_right (eqb y x) (has ys x) (has_either ys x later)
]

-- a list without repeats of numbers below n has at most n of them
pub distinct_few : (n : ℕ) (xs : List ℕ) → IsDistinct eqb xs → ((x : ℕ) → has xs x ≡ true → x < n) → length xs ≤ n
distinct_few n xs distinct below = length-le_from_distinct_below xs n distinct (λ x there. below x (has_either xs x there))

-- what holds of each number in the list
pub all_there : (P : ℕ → Type 0) (xs : List ℕ) → ((x : ℕ) → has xs x ≡ true → P x) → All P xs
all_there P xs each k d low = each (get_or xs k d) (has-get_or xs k d low)

-- ---- the lists of orders

module _ (g : Graph) (edges : List ℕ) (ord : ℕ → List ℕ) (limited : IsLimitedGraph g) (orders : IsOrders g.ends edges ord) where
  pub edge_below : (e : ℕ) → has edges e ≡ true → e < length g.ends
  edge_below e there = has-all (λ x. x < length g.ends) edges orders.edge_list.below e there

  entry_below : (e f : ℕ) → has (ord e) f ≡ true → f < length g.ends
  entry_below e f there = edge_below f (orders.within f e (orders.both_ways e f there))

  not_own : (e : ℕ) → has (ord e) e ≡ false
  not_own e = elim (cases_Bool (has (ord e) e)) [
    | inl there ↦ absurd (not_itself g.ends e e (orders.independent e e there) refl)
    | inr out ↦ out
  ]

  own_distinct : (e : ℕ) → IsDistinct eqb (e ∷ ord e)
  unfolding IsDistinct
  own_distinct e = (unlike_each e (ord e) (not_own e), orders.no_repeats e)

  own_below : (e : ℕ) → e < length g.ends → (x : ℕ) → has (e ∷ ord e) x ≡ true → x < length g.ends
  own_below e e_in x there = elim (or_cases (eqb e x) (has (ord e) x) there) [
    | inl here ↦ subst (λ y. y < length g.ends) (eqb-true e x here) e_in
    | inr later ↦ entry_below e x later
  ]

  list_few : (e : ℕ) (xs : List ℕ) → xs ≡ ord e → length xs ≤ 999
  list_few e [] is = omega arith
  list_few e (f ∷ fs) is =
      let there : has (ord e) f ≡ true = subst (λ xs. has xs f ≡ true) is (has-first f fs) in
      let e_in = edge_below e (orders.within e f there) in
      omega (arith, distinct_few (length g.ends) (e ∷ ord e) (own_distinct e) (own_below e e_in), ap (length {A = ℕ}) is, limited.few_edges)

  -- the list of an edge has at most 999 entries
  pub crossers_few : (e : ℕ) → length (ord e) ≤ 999
  crossers_few e = list_few e (ord e) refl

  pub crossers_text : (e : ℕ) → IsList 999 (ord e)
  crossers_text e = (crossers_few e, all_there (λ n. n < 2 ^ 32) (ord e) (λ f there. omega (arith, entry_below e f there, limited.few_edges)))

  -- ---- the segments

  segments_up_to : (es : List ℕ) → length (flat_map (segments_of g (crossings_of edges ord) ord) es) ≤ length es * 1000
  segments_up_to [] = omega arith
  segments_up_to (e ∷ es) =
      let f = segments_of g (crossings_of edges ord) ord in
      omega (arith, length-append (f e) (flat_map f es), length-segments_of g (crossings_of edges ord) ord e, crossers_few e, segments_up_to es)

  -- there are at most a million
  pub segments_few : length (web_of g edges ord).ends ≤ 1000000
  segments_few = omega (arith, segments_up_to edges, edges_few (length g.ends) edges orders.edge_list, limited.few_edges)

-- ---- the lists that are written out

pub lists_text : (g : Graph) (edges : List ℕ) (lists : List (List ℕ)) → IsLimitedGraph g → length lists ≡ length edges →
    IsOrders g.ends edges (order_at edges lists) → All (IsList 999) lists
lists_text g edges lists limited fits orders k d low =
    let low_edge : k < length edges = omega (arith, low, fits) in
    let is = order_at-place edges lists k 0 orders.edge_list.rise fits low_edge ∙ get_or_default lists k [] d low in
    subst (IsList 999) is (crossers_text g edges (order_at edges lists) limited orders (get_or edges k 0))
