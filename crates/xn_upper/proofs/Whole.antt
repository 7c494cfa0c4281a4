-- Which edges are in, and when all are.
use Rattle.std.proofs.Common.{◌≡◌, ℕ, ◌+◌, ◌-◌, ◌<◌, true, false, not, ◌&&◌, ◌||◌, ◌⊎◌, inl, inr, eqb, List, [], ◌∷◌, ◌++◌, length, take, drop, get_or, refl, sym, ◌∙◌, ap, subst, arith, length-drop}
use Rattle.std.specs.List.{range_with_len}
use Rattle.std.specs.Prelude.{IsPermutation, filter}
use Rattle.std.proofs.lemmas.Bool.{and_parts, both_ways, cases_Bool, eq-eqb, eqb-true}
use Rattle.std.proofs.lemmas.List.{append-nil, drop_all, get_or-drop, take_all, take_more}
use Rattle.std.proofs.lemmas.List.FromFn.{fill_by_all, length-range_with_len}
use Rattle.std.proofs.lemmas.List.Sorted.{IsPermutation-trans, length_permutation, list_any-IsPermutation}
use Rattle.xn_model.specs.Graph.{Graph, edges_of, ends_at}
use Rattle.xn_model.specs.Lists.{at, has}
use Rattle.xn_model.proofs.Has.{has-append, has-at, has-filter, has-range}
use Rattle.xn_loose.specs.Renaming.{subgraph_of}
use Rattle.xn_insert.specs.ListedLoose.{IsLooseOf, ListedLoose, edges_in, has_dart, walk_of}
use Rattle.xn_insert.proofs.Started.{all_in, below_range}
use Rattle.xn_upper.specs.Upper.{HasBeside, IsOrderOfAll, IsWholeOf}

-- an edge that is in has a walk
has_walk : (l : ListedLoose) (e : ℕ) → has (edges_in l) e ≡ true → has_dart (walk_of l.walks e) ≡ true
has_walk l e there = (and_parts _ _ (sym (has-filter (λ x. has_dart (walk_of l.walks x)) (range_with_len 0 (length l.walks)) e) ∙ there)).0

no_dart : (ds : List ℕ) → length ds ≡ 0 → has_dart ds ≡ true → ⊥
no_dart [] none some = both_ways false refl some
no_dart (d ∷ ds) none some = omega (arith, none)

some_dart : (ds : List ℕ) → 0 < length ds → has_dart ds ≡ true
some_dart [] some = absurd (omega (arith, some))
some_dart (d ∷ ds) some = refl

-- one that has none isn't
pub is_out : (l : ListedLoose) (e : ℕ) → length (walk_of l.walks e) ≡ 0 → has (edges_in l) e ≡ false
is_out l e none = elim (cases_Bool (has (edges_in l) e)) [
  | inl there ↦ absurd (no_dart (walk_of l.walks e) none (has_walk l e there))
  | inr out ↦ out
]

-- and one that has one is
pub is_in : (l : ListedLoose) (e : ℕ) → e < length l.walks → 0 < length (walk_of l.walks e) → has (edges_in l) e ≡ true
is_in l e low some =
    let n = length l.walks in
    has-filter (λ x. has_dart (walk_of l.walks x)) (range_with_len 0 n) e
    ∙ ap (λ b. b && has (range_with_len 0 n) e) (some_dart (walk_of l.walks e) some) ∙ has-range 0 n e (omega arith) (omega (arith, low))

-- where each edge is in, all are
pub whole : (g : Graph) (l : ListedLoose) → IsLooseOf g l → ((x : ℕ) → x < length g.ends → has (edges_in l) x ≡ true) → IsWholeOf g l
whole g l loose each = record {
  loose = loose;
  all = all_in l (λ x low. has_walk l x (each x (omega (arith, low, loose.lists)))) ∙ ap (range_with_len 0) loose.lists;
}

-- each edge of the graph is one, and no other number
pub edge_in : (g : Graph) (x : ℕ) → x < length g.ends → has (edges_of g) x ≡ true
edge_in g x low = has-range 0 (length g.ends) x (omega arith) (omega (arith, low))

pub edge_below : (g : Graph) (x : ℕ) → has (edges_of g) x ≡ true → x < length g.ends
edge_below g x there = let low = below_range 0 (length g.ends) x there in omega (arith, low)

-- an order has just the edges
same_in : (g : Graph) (order : List ℕ) → IsOrderOfAll g order → (x : ℕ) → has (edges_of g) x ≡ has order x
same_in g order is x = list_any-IsPermutation (λ y. eqb y x) (edges_of g) order is

pub ordered_below : (g : Graph) (order : List ℕ) → IsOrderOfAll g order → (i : ℕ) → i < length order → at order i < length g.ends
ordered_below g order is i low = edge_below g (at order i) (same_in g order is (at order i) ∙ has-at order i low)

-- also those from a place on
pub front_below : (g : Graph) (order : List ℕ) → IsOrderOfAll g order → (i k : ℕ) → k ≡ length order - i → (j : ℕ) → j < length (take k (drop i order)) → at (take k (drop i order)) j < length g.ends
front_below g order is i k k_is j low =
    let long = length-drop i order in
    let all : take k (drop i order) ≡ drop i order = take_all k (drop i order) (omega (arith, long, k_is)) in
    let size = ap length all in
    let there : i + j < length order = omega (arith, low, size, long) in
    let here = ap (λ l. at l j) all ∙ get_or-drop i order j 0 in
    let below = ordered_below g order is (i + j) there in
    omega (arith, here, below)

pub order_long : (g : Graph) (order : List ℕ) → IsOrderOfAll g order → length order ≡ length g.ends
order_long g order is = length_permutation (edges_of g) order is ∙ length-range_with_len 0 (length g.ends)

-- a vector with an order of which the slice was shuffled
pub shuffled : (g : Graph) (k : ℕ) (old lent new : List ℕ) → IsOrderOfAll g old → lent ≡ old → k ≡ length old → IsPermutation lent new → IsOrderOfAll g (take k (new ++ drop (length new) old))
shuffled g k old lent new is lent_is k_is moved =
    let by = subst (λ l. IsPermutation l new) lent_is moved in
    let long = length_permutation old new by in
    let back =
    ap (λ r. take k (new ++ r)) (drop_all (length new) old (omega (arith, long))) ∙ ap (take k) (append-nil new) ∙ take_all k new (omega (arith, long, k_is)) in
    subst (IsPermutation (edges_of g)) (sym back) (IsPermutation-trans (edges_of g) old new is by)

-- the graph of all edges is the graph
pub subgraph_of_all : (g : Graph) → subgraph_of g (edges_of g) ≡ g
subgraph_of_all g = ap (λ ends. record { nodes = g.nodes; ends = ends }) (sym (fill_by_all (ends_at g.ends) g.ends (length g.ends) (0, 0) refl (λ k low. refl)))

-- ---- edges come in one after another

-- the first edges of an order are in
pub record AreIn (g : Graph) (order : List ℕ) (i : ℕ) (l : ListedLoose) : Type 0 where
  pub loose : IsLooseOf g l
  pub there : (x : ℕ) → has (take i order) x ≡ true → has (edges_in l) x ≡ true

pub none_needed : (g : Graph) (order : List ℕ) (l : ListedLoose) → IsLooseOf g l → AreIn g order 0 l
none_needed g order l loose = record { loose = loose; there = λ x there. absurd (both_ways false refl there) }

first_or : (order : List ℕ) (i e : ℕ) → i < length order → e ≡ get_or order i 0 → (x : ℕ) → has (take (i + 1) order) x ≡ true → (has (take i order) x ≡ true) ⊎ (e ≡ x)
first_or order i e low is x there =
    elim (has-append (take i order) (get_or order i 0 ∷ []) x (sym (ap (λ l. has l x) (take_more order i 0 low)) ∙ there)) [
      | inl before ↦ inl before
      | inr here ↦ elim (cases_Bool (eqb (get_or order i 0) x)) [
        | inl same ↦ inr (is ∙ eqb-true _ _ same)
        | inr apart ↦ absurd (both_ways false refl (sym (ap (λ b. b || false) apart) ∙ here))
      ]
    ]

-- an edge that is in already
pub one_there : (g : Graph) (order : List ℕ) (i e : ℕ) (l : ListedLoose) → i < length order → e ≡ get_or order i 0 → AreIn g order i l → has (edges_in l) e ≡ true → AreIn g order (i + 1) l
one_there g order i e l low is so_far here = record {
  loose = so_far.loose;
  there = λ x there. elim (first_or order i e low is x there) [
    | inl before ↦ so_far.there x before
    | inr same ↦ subst (λ y. has (edges_in l) y ≡ true) same here
  ];
}

-- an edge that comes in
pub one_more : (g : Graph) (order : List ℕ) (i e : ℕ) (l more : ListedLoose) → i < length order → e ≡ get_or order i 0 → AreIn g order i l → HasBeside g (edges_in l) e more → AreIn g order (i + 1) more
one_more g order i e l more low is so_far beside = record {
  loose = beside.loose;
  there = λ x there. elim (first_or order i e low is x there) [
    | inl before ↦ beside.kept x (so_far.there x before)
    | inr same ↦ subst (λ y. has (edges_in more) y ≡ true) same beside.there
  ];
}

pub all_there : (g : Graph) (order : List ℕ) (l : ListedLoose) → IsOrderOfAll g order → AreIn g order (length order) l → IsWholeOf g l
all_there g order l is are =
    whole g l are.loose (λ x low. are.there x (ap (λ xs. has xs x) (take_all (length order) order (omega arith)) ∙ sym (same_in g order is x) ∙ edge_in g x low))

-- ---- an edge is taken out and comes in again

-- all edges but e, and e besides, are all
pub again_all : (g : Graph) (e : ℕ) (l rest more : ListedLoose) → IsWholeOf g l → edges_in rest ≡ filter (λ x. not (eqb x e)) (edges_in l) → HasBeside g (edges_in rest) e more → IsWholeOf g more
again_all g e l rest more is left beside =
    whole g more beside.loose (λ x low. elim (cases_Bool (eqb x e)) [
      | inl same ↦ subst (λ y. has (edges_in more) y ≡ true) (sym (eqb-true x e same)) beside.there
      | inr apart ↦ beside.kept x (ap (λ es. has es x) left ∙ has-filter (λ y. not (eqb y e)) (edges_in l) x ∙ ap (λ b. not b && has (edges_in l) x) apart ∙ ap (λ es. has es x) is.all ∙ edge_in g x low)
    ])

-- the edge that was taken out isn't in
pub taken_out : (e : ℕ) (edges : List ℕ) → has (filter (λ x. not (eqb x e)) edges) e ≡ false
taken_out e edges = has-filter (λ y. not (eqb y e)) edges e ∙ ap (λ b. not b && has edges e) (eq-eqb e e refl)
