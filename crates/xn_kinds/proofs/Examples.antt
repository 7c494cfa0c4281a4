-- The worked examples.
use Rattle.std.proofs.Common.{ℕ, ◌<◌, ◌≤◌, ◌^◌, inl, inr, true, false, List, [], ◌∷◌, ◌++◌, refl, arith, rules}
use Rattle.std.specs.Prelude.{pos, ◌-ℤ◌, replicate}
use Rattle.std.specs.Cmp.{nat_eq_equiv}
use Rattle.std.specs.List.{IsDistinct}
use Rattle.std.proofs.lemmas.Int.{ints}
use Rattle.std.proofs.lemmas.Map.Made.{IsDistinct-from_count}
use Rattle.xn_model.specs.Evidence.{IsFive}
use Rattle.xn_model.specs.Examples.{k5}
use Rattle.xn_model.specs.Graph.{Graph}
use Rattle.xn_kinds.specs.Bound.{IsBound, PartsFit}
use Rattle.xn_kinds.specs.Examples.{OneRowOfK5, WeakLeaf, BranchedTree, k5_row, k5_and_two, crossed_row, one_row}
use Rattle.xn_kinds.specs.Row.{RowHolds}
use Rattle.xn_kinds.specs.State.{State, InBox, decide, empty_state, place}
use Rattle.xn_kinds.specs.Tree.{MayOpen}
use Rattle.xn_kinds.specs.declared.rows.Row.{Row}
use Rattle.xn_kinds.specs.declared.trees.Node.TheVariants.{Pair, Place}
use Rattle.xn_kinds.proofs.Given.{given_in_box, given_or}
use Rattle.xn_kinds.proofs.Listed.{All-from_recursion, listed_orders}

-- ---- the evidence: the first ten segments are K5

module _ (nodes : ℕ) (enough : 5 ≤ nodes) (rest : List (ℕ × ℕ)) where
  abbrev web : Graph
  web = record { nodes = nodes; ends = k5.ends ++ rest }

  k5_joins : IsFive web (0 ∷ 1 ∷ 2 ∷ 3 ∷ 4 ∷ []) ((0 ∷ []) ∷ (1 ∷ []) ∷ (2 ∷ []) ∷ (3 ∷ []) ∷ (4 ∷ []) ∷ (5 ∷ []) ∷ (6 ∷ []) ∷ (7 ∷ []) ∷ (8 ∷ []) ∷ (9 ∷ []) ∷ [])
  k5_joins = (
    refl,
    record {
      below = All-from_recursion (λ v. v < nodes) (0 ∷ 1 ∷ 2 ∷ 3 ∷ 4 ∷ []) (omega arith, (omega arith, (omega arith, (omega arith, (omega arith, tt)))));
      lead = search (rules, arith);
      once = IsDistinct-from_count nat_eq_equiv _ refl;
      no_node_twice = IsDistinct-from_count nat_eq_equiv _ refl;
    },
  )

-- ---- the rows

k5_row_holds : RowHolds k5 k5_row
unfolding IsDistinct
k5_row_holds = record {
  lists_fit = refl;
  orders = listed_orders k5.ends 10 (replicate 10 []) (omega arith) (search rules) (search rules) (search rules) (search rules);
  evidence = k5_joins 5 (omega arith) [];
}

far_row_holds : RowHolds k5_and_two k5_row
unfolding IsDistinct
far_row_holds = record {
  lists_fit = refl;
  orders = listed_orders k5_and_two.ends 10 (replicate 10 []) (omega arith) (search rules) (search rules) (search rules) (search rules);
  evidence = k5_joins 9 (omega arith) [];
}

crossed_row_holds : RowHolds k5_and_two crossed_row
unfolding IsDistinct
crossed_row_holds = record {
  lists_fit = refl;
  orders = listed_orders k5_and_two.ends 12 crossed_row.orders (omega arith) (search rules) (search rules) (search rules) (search rules);
  evidence = k5_joins 10 (omega arith) ((5, 9) ∷ (9, 6) ∷ (7, 9) ∷ (9, 8) ∷ []);
}

-- ---- one row of K5

-- one row with this multiplier
one_part : (m : ℕ) → 1 ≤ m → m < 2 ^ 63 → PartsFit 1 ((0, m) ∷ [])
one_part m low high = record {
  rise = λ k next. absurd (omega (arith, next));
  below = All-from_recursion (λ p. p.0 < 1) ((0, m) ∷ []) (omega arith, tt);
  multipliers = All-from_recursion (λ p. (1 ≤ p.1) × (p.1 < 2 ^ 63)) ((0, m) ∷ []) ((low, high), tt);
}

-- the given values, with 0 and with 1 elsewhere
low_values : (s : State) → InBox s (given_or 0 s)
low_values s = given_in_box 0 (omega arith) s

high_values : (s : State) → InBox s (given_or 1 s)
high_values s = given_in_box 1 (omega arith) s

once : IsBound k5 (k5_row ∷ []) empty_state 1 ((0, 1) ∷ []) (pos 1)
once = record {
  below_all = λ v box. omega (arith, ints);
  met = (given_or 0 empty_state, low_values empty_state, refl);
}

twice : IsBound k5 (k5_row ∷ []) empty_state 1 ((0, 2) ∷ []) (pos 2 -ℤ pos 15)
twice = record {
  below_all = λ v box. omega (arith, ints, box.crosses_small);
  met = (given_or 1 empty_state, high_values empty_state, refl);
}

pub one_row_of_k5 : OneRowOfK5
one_row_of_k5 = record {
  holds = k5_row_holds;
  once = once;
  twice = twice;
  accepted = record {
    rows_hold = All-from_recursion (RowHolds k5) (k5_row ∷ []) (k5_row_holds, tt);
    tree = ((omega arith, omega arith, one_part 1 (omega arith) (omega arith), (pos 1, once, omega (arith, ints))), tt);
  };
  not_two = λ h.
      let strong = h.0.3 in
      omega (arith, ints, strong.1.below_all (given_or 0 empty_state) (low_values empty_state), strong.2);
}

-- ---- K5 and two far edges

abbrev apart_state : State
apart_state = decide empty_state 10 11 false

pub weak_leaf : WeakLeaf
weak_leaf = record {
  holds = crossed_row_holds;
  bound = record {
    below_all = λ v box. omega (arith, ints, box.crosses_small, box.decided 10 11 false refl);
    met = (given_or 1 apart_state, high_values apart_state, refl);
  };
  weak = λ strong. omega (arith, ints, strong.1.below_all (given_or 1 apart_state) (high_values apart_state), strong.2);
}

abbrev rows : List Row
rows = k5_row ∷ []

-- a leaf with the one row closes a state in which its bound is above 0
closes : (s : State) (b : ℕ) → 0 < b → IsBound k5_and_two rows s 1 ((0, 1) ∷ []) (pos b) → MayOpen k5_and_two 1 rows s one_row
closes s b above bound = (omega arith, omega arith, one_part 1 (omega arith) (omega arith), (pos b, bound, omega (arith, ints)))

abbrev crossed_state : State
crossed_state = decide empty_state 10 11 true

abbrev once_crossed : State
once_crossed = decide crossed_state 0 10 false

abbrev twice_crossed : State
twice_crossed = decide crossed_state 0 10 true

abbrev placed_once : State
placed_once = place twice_crossed 10 11 0

abbrev placed_twice : ℕ → State
placed_twice i = place placed_once 10 0 i

apart_closes : MayOpen k5_and_two 1 rows apart_state one_row
apart_closes = closes apart_state 1 (omega arith) (record {
  below_all = λ v box. omega (arith, ints);
  met = (given_or 0 apart_state, low_values apart_state, refl);
})

once_closes : MayOpen k5_and_two 1 rows once_crossed one_row
once_closes = closes once_crossed 2 (omega arith) (record {
  below_all = λ v box. omega (arith, ints, box.decided 10 11 true refl);
  met = (given_or 0 once_crossed, low_values once_crossed, refl);
})

twice_closes : (i : ℕ) → MayOpen k5_and_two 1 rows (placed_twice i) one_row
twice_closes i = closes (placed_twice i) 3 (omega arith) (record {
  below_all = λ v box. omega (arith, ints, box.decided 10 11 true refl, box.decided 0 10 true refl);
  met = (given_or 0 (placed_twice i), low_values (placed_twice i), refl);
})

-- the pairs and places of the tree
pairs_keep : MayOpen k5_and_two 1 rows empty_state (Pair 10 11)
pairs_keep = (omega arith, omega arith, refl, refl)

second_keeps : MayOpen k5_and_two 1 rows crossed_state (Pair 0 10)
second_keeps = (omega arith, omega arith, refl, refl)

third_keeps : MayOpen k5_and_two 1 rows twice_crossed (Place 10 11)
third_keeps = (inl refl, refl)

fourth_keeps : MayOpen k5_and_two 1 rows placed_once (Place 10 0)
fourth_keeps = (inr refl, refl)

pub branched_tree : BranchedTree
branched_tree = record {
  accepted = record {
    rows_hold = All-from_recursion (RowHolds k5_and_two) rows (far_row_holds, tt);
    tree = (pairs_keep, (apart_closes, (second_keeps, (once_closes, (third_keeps, (fourth_keeps, (twice_closes 0, (twice_closes 1, tt))))))));
  };
  begins = (pairs_keep, (apart_closes, (second_keeps, (once_closes, (third_keeps, (fourth_keeps, (twice_closes 0, tt)))))));
  not_yet = λ h. h.1.1.1.1.1.1.1;
}
