-- What orders of all edges are on the marked ones.
use Rattle.std.proofs.Common.{◌≡◌, ℕ, ◌<◌, inl, inr, Bool, true, false, ◌&&◌, List, [], ◌∷◌, length, map, refl, sym, ◌∙◌, ap, subst}
use Rattle.std.specs.Prelude.{All, filter, nat_eq}
use Rattle.std.specs.List.{AllByRecursion, IsDistinct}
use Rattle.std.proofs.lemmas.Bool.{and_from, and_parts, both_ways, cases_Bool, cases_eq, eq-eqb, false_from_ne_true, ne_eqb}
use Rattle.std.proofs.lemmas.List.{length-map}
use Rattle.std.proofs.lemmas.List.Elements.{All-filter}
use Rattle.std.proofs.lemmas.List.Kept.{IsStrictlyIncreasing-filter}
use Rattle.xn_model.specs.Drawing.{order_of}
use Rattle.xn_model.specs.Graph.{Graph, edges_of}
use Rattle.xn_model.specs.Lists.{has}
use Rattle.xn_model.specs.Orders.{IsOrders, order_at}
use Rattle.xn_model.proofs.Has.{all_not, has-filter, unlike_each}
use Rattle.xn_model.proofs.Ranges.{edge_list, order_at_outside}
use Rattle.xn_orders.proofs.AllEdges.{order_of-at}
use Rattle.xn_orders.proofs.Entered.{listed}
use Rattle.xn_cut.specs.Kept.{IsPart, edges_kept, is_kept, list_kept, lists_kept}
use Rattle.xn_cut.proofs.Named.{none_distinct}

-- where an edge is listed it has the list made for it
made-at : (f : ℕ → List ℕ) (edges : List ℕ) (e : ℕ) → has edges e ≡ true → order_at edges (map f edges) e ≡ f e
made-at f [] e e_in = absurd (both_ways false refl e_in)
made-at f (x ∷ xs) e e_in = elim (cases_eq x e) [
  | inl here ↦ rw (eq-eqb x e here) (ap f here)
  | inr past ↦ rw (ne_eqb x e past) (made-at f xs e (rw (ne_eqb x e past) at e_in))
]

-- what isn't in a list isn't in what is left of it
still_out : (p : ℕ → Bool) (x : ℕ) (xs : List ℕ) → AllByRecursion (λ y. nat_eq x y ≡ false) xs → has (filter p xs) x ≡ false
still_out p x xs apart = false_from_ne_true (has (filter p xs) x) (λ x_in.
    let both = and_parts (p x) (has xs x) (sym (has-filter p xs x) ∙ x_in) in
    all_not x xs apart x both.1 refl)

-- what a test leaves of different elements
left_distinct : (p : ℕ → Bool) (xs : List ℕ) → IsDistinct nat_eq xs → IsDistinct nat_eq (filter p xs)
unfolding IsDistinct
left_distinct p [] apart = tt
left_distinct p (x ∷ xs) apart = elim (cases_Bool (p x)) [
  | inl kept ↦ rw kept (unlike_each x (filter p xs) (still_out p x xs apart.0), left_distinct p xs apart.1)
  | inr gone ↦ rw gone (left_distinct p xs apart.1)
]

module _ (g : Graph) (orders : List (List ℕ)) (kept : List Bool) (fits : length orders ≡ length g.ends) (are : IsOrders g.ends (edges_of g) (order_of g orders)) where
  edge-kept : (e : ℕ) → has (edges_kept g kept) e ≡ true → is_kept kept e ≡ true
  edge-kept e e_in = (and_parts (is_kept kept e) (has (edges_of g) e) (sym (has-filter (is_kept kept) (edges_of g) e) ∙ e_in)).0

  order-is : (e : ℕ) → has (edges_kept g kept) e ≡ true → order_at (edges_kept g kept) (lists_kept orders kept (edges_kept g kept)) e ≡ filter (is_kept kept) (order_of g orders e)
  order-is e e_in = made-at (list_kept orders kept) (edges_kept g kept) e e_in ∙ ap (filter (is_kept kept)) (sym (order_of-at g orders fits e))

  entry-is : (e f : ℕ) → has (edges_kept g kept) e ≡ true → has (order_at (edges_kept g kept) (lists_kept orders kept (edges_kept g kept)) e) f ≡ (is_kept kept f && has (order_of g orders e) f)
  entry-is e f e_in = ap (λ xs. has xs f) (order-is e e_in) ∙ has-filter (is_kept kept) (order_of g orders e) f

  -- an entry of a list is a marked edge, and crosses
  entry : (e f : ℕ) → has (order_at (edges_kept g kept) (lists_kept orders kept (edges_kept g kept)) e) f ≡ true → (has (edges_kept g kept) e ≡ true) × (is_kept kept f ≡ true) × (has (order_of g orders e) f ≡ true)
  entry e f f_in =
      let e_in = listed (edges_kept g kept) (lists_kept orders kept (edges_kept g kept)) e f f_in in
      let both = and_parts (is_kept kept f) (has (order_of g orders e) f) (sym (entry-is e f e_in) ∙ f_in) in
      (e_in, both.0, both.1)

  back : (e f : ℕ) → has (order_at (edges_kept g kept) (lists_kept orders kept (edges_kept g kept)) e) f ≡ true → has (order_at (edges_kept g kept) (lists_kept orders kept (edges_kept g kept)) f) e ≡ true
  back e f f_in =
      let there = entry e f f_in in
      let e_there : has (order_of g orders f) e ≡ true = are.both_ways e f there.2 in
      let f_listed : has (edges_kept g kept) f ≡ true =
      has-filter (is_kept kept) (edges_of g) f ∙ and_from (is_kept kept f) (has (edges_of g) f) there.1 (are.within f e e_there) in
      entry-is f e f_listed ∙ and_from (is_kept kept e) (has (order_of g orders f) e) (edge-kept e there.0) e_there

  distinct : (e : ℕ) → IsDistinct nat_eq (order_at (edges_kept g kept) (lists_kept orders kept (edges_kept g kept)) e)
  distinct e = elim (cases_Bool (has (edges_kept g kept) e)) [
    | inl e_in ↦ subst (IsDistinct nat_eq) (sym (order-is e e_in)) (left_distinct (is_kept kept) (order_of g orders e) (are.no_repeats e))
    | inr e_out ↦ subst (IsDistinct nat_eq) (sym (order_at_outside (edges_kept g kept) (lists_kept orders kept (edges_kept g kept)) e e_out)) none_distinct
  ]

  kept_part : IsPart g orders (edges_kept g kept) (lists_kept orders kept (edges_kept g kept))
  kept_part = record {
    lists_fit = length-map (edges_kept g kept) _;
    are_orders = record {
      edge_list = record {
        rise = IsStrictlyIncreasing-filter (is_kept kept) (edges_of g) (edge_list (length g.ends)).rise;
        below = All-filter (is_kept kept) (λ e. e < length g.ends) (edges_of g) (edge_list (length g.ends)).below;
      };
      within = λ e f f_in. (entry e f f_in).0;
      no_repeats = distinct;
      independent = λ e f f_in. are.independent e f (entry e f f_in).2;
      both_ways = back;
    };
    crosses = λ e f e_in f_in. entry-is e f e_in ∙ ap (λ b. b && has (order_of g orders e) f) (edge-kept f f_in);
  }

  -- the marked edges with what is marked of their lists
  pub part_is : (edges : List ℕ) (lists : List (List ℕ)) → edges ≡ edges_kept g kept → lists ≡ lists_kept orders kept edges → IsPart g orders edges lists
  part_is edges lists edges_are lists_are =
      subst (λ (ls : List (List ℕ)). IsPart g orders edges ls) (sym lists_are)
      (subst (λ (es : List ℕ). IsPart g orders es (lists_kept orders kept es)) (sym edges_are) kept_part)

-- the marked edges are edges
pub kept_below : (g : Graph) (orders : List (List ℕ)) (kept : List Bool) (edges : List ℕ) → length orders ≡ length g.ends → edges ≡ edges_kept g kept → All (λ e. e < length orders) edges
kept_below g orders kept edges fits are =
    subst (All (λ e. e < length orders)) (sym are)
    (subst (λ (n : ℕ). All (λ e. e < n) (edges_kept g kept)) (sym fits) (All-filter (is_kept kept) (λ e. e < length g.ends) (edges_of g) (edge_list (length g.ends)).below))
