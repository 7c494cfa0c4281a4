-- Orders whose lists have what planted pairs make cross are orders over all edges, and cross exactly there.
use Rattle.std.proofs.Common.{◌≡◌, ℕ, ◌<◌, ◌≤◌, ◌⊎◌, inl, inr, Bool, true, false, ◌&&◌, ◌||◌, eqb, List, [], ◌∷◌, ◌++◌, length, map, refl, sym, ◌∙◌, ap, ap₂, subst, arith}
use Rattle.std.specs.Prelude.{All, IsPermutation, nat_eq}
use Rattle.std.specs.List.{AllByRecursion, IsDistinct, flat_map}
use Rattle.std.proofs.lemmas.Bool.{and_from, and_parts, and_right, both_ways, cases_Bool, cases_eq, cases_lt, eq-eqb, eqb-true, false_from_ne_true, ne_eqb, or_cases}
use Rattle.std.proofs.lemmas.List.Concat.{flat_map-append}
use Rattle.std.proofs.lemmas.List.Elements.{All-head, All-tail}
use Rattle.std.proofs.lemmas.List.Folds.{list_any-append}
use Rattle.std.proofs.lemmas.List.Sorted.{list_any-IsPermutation}
use Rattle.std.proofs.lemmas.Map.Keys.{IsDistinct-IsPermutation, IsDistinct-cons, IsDistinct-head, IsDistinct-tail}
use Rattle.xn_model.specs.Drawing.{order_of}
use Rattle.xn_model.specs.Graph.{Graph, Independent, edges_of, independent}
use Rattle.xn_model.specs.Lists.{has}
use Rattle.xn_model.proofs.Has.{has-first, has-range, unlike_each}
use Rattle.xn_model.proofs.Ranges.{edge_list, has-range_past, order_at_outside}
use Rattle.xn_model.proofs.Tests.{eqb-flip}
use Rattle.xn_kinds.specs.declared.trees.Var.{Var}
use Rattle.xn_kinds.specs.declared.trees.Var.TheVariants.{Cross, Before}
use Rattle.xn_tree.proofs.Kept.{independent-flip}
use Rattle.xn_frac.specs.Ratio.{Ratio}
use Rattle.xn_orders.proofs.AllEdges.{order_of-at}
use Rattle.xn_cutter.specs.Point.{IsPoint, IsVar, is_same_var}
use Rattle.xn_cut.specs.Planted.{AreShuffled, CrossWhere, crossers, crossing_of, is_pair, is_planted, pair_of, pairs_in, partner}

pub none_distinct : IsDistinct nat_eq []
unfolding IsDistinct
none_distinct = tt

-- ---- tests

first_alone : (x y : Bool) → (x || false) ≡ (x || (y && false))
first_alone true y = refl
first_alone false true = refl
first_alone false false = refl

second_alone : (x y : Bool) → (y || false) ≡ ((false && x) || (y && true))
second_alone x true = refl
second_alone x false = refl

none_alone : (x y : Bool) → false ≡ ((false && x) || (y && false))
none_alone x true = refl
none_alone x false = refl

or-flip : (x y : Bool) → (x || y) ≡ (y || x)
or-flip true true = refl
or-flip true false = refl
or-flip false true = refl
or-flip false false = refl

and-yes : (x : Bool) → x ≡ (x && true)
and-yes true = refl
and-yes false = refl

-- ---- one variable

-- what an edge has of the pair of a variable is the other edge of it
pair-is : (g : Graph) (v : Var) (e f : ℕ) → IsVar g v → has (flat_map (partner e) (crossing_of v)) f ≡ is_pair v e f
pair-is g (Before a b c) e f is = refl
pair-is g (Cross a b) e f is = elim (cases_eq a e) [
  | inl a_is ↦
      let b_not : eqb b e ≡ false = ne_eqb b e (λ same. omega (arith, is.0, a_is, same)) in
      rw (eq-eqb a e a_is, b_not) (first_alone (eqb b f) (eqb a f))
  | inr a_not ↦ elim (cases_eq b e) [
    | inl b_is ↦ rw (ne_eqb a e a_not, eq-eqb b e b_is) (second_alone (eqb b f) (eqb a f))
    | inr b_not ↦ rw (ne_eqb a e a_not, ne_eqb b e b_not) (none_alone (eqb b f) (eqb a f))
  ]
]

partner-is : (g : Graph) (test : Ratio → Bool) (p : Var × Ratio) (e f : ℕ) → IsVar g p.0 → has (flat_map (partner e) (pair_of test p)) f ≡ (is_pair p.0 e f && test p.1)
partner-is g test p e f is = elim (cases_Bool (test p.1)) [
  | inl taken ↦ rw taken (pair-is g p.0 e f is ∙ and-yes (is_pair p.0 e f))
  | inr left ↦ rw left (sym (and_right (is_pair p.0 e f) false refl))
]

-- the two edges of a pair
edges-of : (a b e f : ℕ) → is_pair (Cross a b) e f ≡ true → ((a ≡ e) × (b ≡ f)) ⊎ ((a ≡ f) × (b ≡ e))
edges-of a b e f is = elim (or_cases (eqb a e && eqb b f) (eqb a f && eqb b e) is) [
  | inl here ↦ let both = and_parts (eqb a e) (eqb b f) here in inl (eqb-true a e both.0, eqb-true b f both.1)
  | inr there ↦ let both = and_parts (eqb a f) (eqb b e) there in inr (eqb-true a f both.0, eqb-true b e both.1)
]

pair-edges : (g : Graph) (v : Var) (e f : ℕ) → IsVar g v → is_pair v e f ≡ true → (e < length g.ends) × (f < length g.ends) × Independent g.ends e f
pair-edges g (Before a b c) e f is pair = absurd (both_ways false refl pair)
pair-edges g (Cross a b) e f is pair = elim (edges-of a b e f pair) [
  | inl here ↦ (
    omega (arith, is.0, is.1, here.0, here.1),
    omega (arith, is.0, is.1, here.0, here.1),
    ap₂ (λ (x y : ℕ). independent g.ends x y) (sym here.0) (sym here.1) ∙ is.2,
  )
  | inr there ↦ (
    omega (arith, is.0, is.1, there.0, there.1),
    omega (arith, is.0, is.1, there.0, there.1),
    independent-flip g.ends f e (ap₂ (λ (x y : ℕ). independent g.ends x y) (sym there.0) (sym there.1) ∙ is.2),
  )
]

pair-flip : (v : Var) (e f : ℕ) → is_pair v e f ≡ is_pair v f e
pair-flip (Before a b c) e f = refl
pair-flip (Cross a b) e f = or-flip (eqb a e && eqb b f) (eqb a f && eqb b e)

-- two variables of one pair are one
one_var : (g : Graph) (v w : Var) (e f : ℕ) → IsVar g v → IsVar g w → is_pair v e f ≡ true → is_pair w e f ≡ true → is_same_var v w ≡ true
one_var g (Before a b c) w e f v_is w_is first second = absurd (both_ways false refl first)
one_var g (Cross a b) (Before c d h) e f v_is w_is first second = absurd (both_ways false refl second)
one_var g (Cross a b) (Cross c d) e f v_is w_is first second = joined (edges-of a b e f first) (edges-of c d e f second)
  where
    joined : ((a ≡ e) × (b ≡ f)) ⊎ ((a ≡ f) × (b ≡ e)) → ((c ≡ e) × (d ≡ f)) ⊎ ((c ≡ f) × (d ≡ e)) → is_same_var (Cross a b) (Cross c d) ≡ true
    joined (inl one) (inl two) = and_from (eqb a c) (eqb b d) (eq-eqb a c (one.0 ∙ sym two.0)) (eq-eqb b d (one.1 ∙ sym two.1))
    joined (inr one) (inr two) = and_from (eqb a c) (eqb b d) (eq-eqb a c (one.0 ∙ sym two.0)) (eq-eqb b d (one.1 ∙ sym two.1))
    joined (inl one) (inr two) = absurd (omega (arith, v_is.0, w_is.0, one.0, one.1, two.0, two.1))
    joined (inr one) (inl two) = absurd (omega (arith, v_is.0, w_is.0, one.0, one.1, two.0, two.1))

-- ---- all variables of a point

module _ (g : Graph) (test : Ratio → Bool) where
  planted-is : (point : List (Var × Ratio)) (e f : ℕ) → All (λ p. IsVar g p.0) point → has (crossers (pairs_in test point) e) f ≡ is_planted test point e f
  planted-is [] e f are = refl
  planted-is (p ∷ ps) e f are =
      ap (λ xs. has xs f) (flat_map-append (partner e) (pair_of test p) (pairs_in test ps))
      ∙ list_any-append (λ y. eqb y f) (flat_map (partner e) (pair_of test p)) (crossers (pairs_in test ps) e)
      ∙ ap₂ (λ (a b : Bool). a || b) (partner-is g test p e f (All-head (λ (q : Var × Ratio). IsVar g q.0) p ps are)) (planted-is ps e f (All-tail (λ (q : Var × Ratio). IsVar g q.0) p ps are))

  planted-edges : (point : List (Var × Ratio)) (e f : ℕ) → All (λ p. IsVar g p.0) point → is_planted test point e f ≡ true → (e < length g.ends) × (f < length g.ends) × Independent g.ends e f
  planted-edges [] e f are planted = absurd (both_ways false refl planted)
  planted-edges (p ∷ ps) e f are planted = elim (or_cases (is_pair p.0 e f && test p.1) (is_planted test ps e f) planted) [
    | inl here ↦ pair-edges g p.0 e f (All-head (λ (q : Var × Ratio). IsVar g q.0) p ps are) (and_parts (is_pair p.0 e f) (test p.1) here).0
    | inr later ↦ planted-edges ps e f (All-tail (λ (q : Var × Ratio). IsVar g q.0) p ps are) later
  ]

  planted-flip : (point : List (Var × Ratio)) (e f : ℕ) → is_planted test point e f ≡ is_planted test point f e
  planted-flip [] e f = refl
  planted-flip (p ∷ ps) e f = ap₂ (λ (a b : Bool). a || b) (ap (λ a. a && test p.1) (pair-flip p.0 e f)) (planted-flip ps e f)

  -- a pair that one variable names is named by none of the others
  named_once : (v : Var) (point : List (Var × Ratio)) (e f : ℕ) → IsVar g v → is_pair v e f ≡ true → All (λ p. IsVar g p.0) point →
      AllByRecursion (λ w. is_same_var v w ≡ false) (map (λ p. p.0) point) → is_planted test point e f ≡ true → ⊥
  named_once v [] e f is pair are unlike planted = both_ways false refl planted
  named_once v (p ∷ ps) e f is pair are unlike planted = elim (or_cases (is_pair p.0 e f && test p.1) (is_planted test ps e f) planted) [
    | inl here ↦
        let p_is = All-head (λ (q : Var × Ratio). IsVar g q.0) p ps are in
        both_ways (is_same_var v p.0) unlike.0 (one_var g v p.0 e f is p_is pair (and_parts (is_pair p.0 e f) (test p.1) here).0)
    | inr later ↦ named_once v ps e f is pair (All-tail (λ (q : Var × Ratio). IsVar g q.0) p ps are) unlike.1 later
  ]

  -- what an edge has of one variable
  one_or_none : (p : Var × Ratio) (e : ℕ) → (flat_map (partner e) (pair_of test p) ≡ []) ⊎ ((x : ℕ) × (flat_map (partner e) (pair_of test p) ≡ x ∷ []))
  one_or_none p e = elim (cases_Bool (test p.1)) [
    | inl taken ↦ rw taken (of_var p.0)
    | inr left ↦ rw left (inl refl)
  ]
    where
      of_var : (v : Var) → (flat_map (partner e) (crossing_of v) ≡ []) ⊎ ((x : ℕ) × (flat_map (partner e) (crossing_of v) ≡ x ∷ []))
      of_var (Before a b c) = inl refl
      of_var (Cross a b) = elim (cases_Bool (eqb a e)) [
        | inl first ↦ rw first (inr (b, refl))
        | inr not_first ↦ elim (cases_Bool (eqb b e)) [
          | inl second ↦ rw (not_first, second) (inr (a, refl))
          | inr neither ↦ rw (not_first, neither) (inl refl)
        ]
      ]

  -- what an edge has of one variable comes before what it has of others
  first_distinct : (p : Var × Ratio) (ps : List (Var × Ratio)) (e : ℕ) → IsVar g p.0 → All (λ q. IsVar g q.0) ps → AllByRecursion (λ w. is_same_var p.0 w ≡ false) (map (λ q. q.0) ps) →
      IsDistinct nat_eq (crossers (pairs_in test ps) e) → IsDistinct nat_eq (flat_map (partner e) (pair_of test p) ++ crossers (pairs_in test ps) e)
  first_distinct p ps e p_is ps_are unlike rest = joined (one_or_none p e)
    where
      joined : (flat_map (partner e) (pair_of test p) ≡ []) ⊎ ((x : ℕ) × (flat_map (partner e) (pair_of test p) ≡ x ∷ [])) →
          IsDistinct nat_eq (flat_map (partner e) (pair_of test p) ++ crossers (pairs_in test ps) e)
      joined (inl none) = subst (λ xs. IsDistinct nat_eq (xs ++ crossers (pairs_in test ps) e)) (sym none) rest
      joined (inr some) =
          let pair : is_pair p.0 e some.0 ≡ true =
          (and_parts (is_pair p.0 e some.0) (test p.1) (sym (partner-is g test p e some.0 p_is) ∙ ap (λ xs. has xs some.0) some.1 ∙ has-first some.0 [])).0 in
          let new : has (crossers (pairs_in test ps) e) some.0 ≡ false = false_from_ne_true (has (crossers (pairs_in test ps) e) some.0) (λ old.
          named_once p.0 ps e some.0 p_is pair ps_are unlike (sym (planted-is ps e some.0 ps_are) ∙ old)) in
          subst (λ xs. IsDistinct nat_eq (xs ++ crossers (pairs_in test ps) e)) (sym some.1)
          (IsDistinct-cons nat_eq some.0 (crossers (pairs_in test ps) e) (unlike_each some.0 (crossers (pairs_in test ps) e) new) rest)

  crossers-distinct : (point : List (Var × Ratio)) (e : ℕ) → All (λ p. IsVar g p.0) point → IsDistinct is_same_var (map (λ p. p.0) point) → IsDistinct nat_eq (crossers (pairs_in test point) e)
  crossers-distinct [] e are once = none_distinct
  crossers-distinct (p ∷ ps) e are once =
      let ps_are : All (λ (q : Var × Ratio). IsVar g q.0) ps = All-tail (λ (q : Var × Ratio). IsVar g q.0) p ps are in
      subst (IsDistinct nat_eq) (sym (flat_map-append (partner e) (pair_of test p) (pairs_in test ps)))
      (first_distinct p ps e (All-head (λ (q : Var × Ratio). IsVar g q.0) p ps are) ps_are (IsDistinct-head is_same_var p.0 (map (λ (q : Var × Ratio). q.0) ps) once)
      (crossers-distinct ps e ps_are (IsDistinct-tail is_same_var p.0 (map (λ (q : Var × Ratio). q.0) ps) once)))

  -- ---- the orders

  module _ (point : List (Var × Ratio)) (lists : List (List ℕ)) (is_point : IsPoint g point) (fits : length lists ≡ length g.ends) (shuffled : AreShuffled (pairs_in test point) lists) where
    list-within : (e : ℕ) → e < length g.ends → IsPermutation (crossers (pairs_in test point) e) (order_of g lists e)
    list-within e low = subst (IsPermutation (crossers (pairs_in test point) e)) (sym (order_of-at g lists fits e)) (shuffled e (omega (arith, low, fits)))

    list-past : (e : ℕ) → length g.ends ≤ e → order_of g lists e ≡ []
    list-past e past = order_at_outside (edges_of g) lists e (has-range_past 0 (length g.ends) e (omega (arith, past)))

    list-crosses : (e f : ℕ) → has (order_of g lists e) f ≡ is_planted test point e f
    list-crosses e f = elim (cases_lt e (length g.ends)) [
      | inl low ↦ sym (list_any-IsPermutation (λ y. eqb y f) (crossers (pairs_in test point) e) (order_of g lists e) (list-within e low)) ∙ planted-is point e f is_point.of_graph
      | inr past ↦
          ap (λ xs. has xs f) (list-past e past)
          ∙ sym (false_from_ne_true (is_planted test point e f) (λ planted. omega (arith, past, (planted-edges point e f is_point.of_graph planted).0)))
    ]

    list-distinct : (e : ℕ) → IsDistinct nat_eq (order_of g lists e)
    list-distinct e = elim (cases_lt e (length g.ends)) [
      | inl low ↦ IsDistinct-IsPermutation nat_eq eqb-flip (crossers (pairs_in test point) e) (order_of g lists e) (list-within e low) (crossers-distinct point e is_point.of_graph is_point.once)
      | inr past ↦ subst (IsDistinct nat_eq) (sym (list-past e past)) none_distinct
    ]

    list-edges : (e f : ℕ) → has (order_of g lists e) f ≡ true → (e < length g.ends) × (f < length g.ends) × Independent g.ends e f
    list-edges e f f_in = planted-edges point e f is_point.of_graph (sym (list-crosses e f) ∙ f_in)

    pub cross_where : CrossWhere g (is_planted test point) lists
    cross_where = record {
      lists_fit = fits;
      are_orders = record {
        edge_list = edge_list (length g.ends);
        within = λ e f f_in. has-range 0 (length g.ends) e (omega arith) (omega (arith, (list-edges e f f_in).0));
        no_repeats = list-distinct;
        independent = λ e f f_in. (list-edges e f f_in).2;
        both_ways = λ e f f_in. list-crosses f e ∙ planted-flip point f e ∙ sym (list-crosses e f) ∙ f_in;
      };
      crosses = list-crosses;
    }
