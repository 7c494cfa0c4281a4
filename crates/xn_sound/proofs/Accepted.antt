-- A proof that is accepted shows its bound of every drawing.
use Rattle.std.proofs.Common.{◌≡◌, ℕ, zero, suc, false, eqb, List, [], ◌∷◌, ◌≤◌, subst, arith, rules}
use Rattle.std.proofs.lemmas.Bool.{eqb-false}
use Rattle.xn_model.specs.Examples.{k33, k5}
use Rattle.xn_model.specs.Graph.{HasNoLoop, IsGraph}
use Rattle.xn_kinds.specs.Examples.{OneRowOfK5, BranchedTree, k5_and_two}
use Rattle.xn_kinds.specs.Laws.{AllLieInEmpty}
use Rattle.xn_model.proofs.Examples.{k5_with_one_crossing}
use Rattle.xn_general.specs.Bounds.{LeastIsOfAllDrawings}
use Rattle.xn_kura.specs.Laws.{KuratowskiGraphs}
use Rattle.xn_sound.specs.Laws.{AcceptedProofsBound, ExamplesAreBounded, KuratowskiGraphsCross, RowsAreMet, TreesProve}
use Rattle.xn_kinds.specs.State.{empty_state}

pub accepted_proofs_bound : LeastIsOfAllDrawings → RowsAreMet → TreesProve → AllLieInEmpty → AcceptedProofsBound
accepted_proofs_bound all met prove lie g k rows nodes is_graph accepts = (all g k is_graph).0 (λ c drawing.
    subst (λ n. k ≤ n) drawing.3
    (prove g k rows empty_state nodes (λ i d i_in. met g _ is_graph (accepts.rows_hold i d i_in)) accepts.tree drawing.0 drawing.1 drawing.2 (lie drawing.0)))

-- ---- the examples

-- the ends of each edge are two, by a test
EachHasTwo : List (ℕ × ℕ) → Type 0
EachHasTwo [] = Unit {0}
EachHasTwo (p ∷ ends) = (eqb p.0 p.1 ≡ false) × EachHasTwo ends

no_loop-by_test : (ends : List (ℕ × ℕ)) → EachHasTwo ends → HasNoLoop ends
unfolding EachHasTwo
no_loop-by_test [] each e e_in = absurd (omega arith)
no_loop-by_test (p ∷ ends) each zero e_in = eqb-false p.0 p.1 each.0
no_loop-by_test (p ∷ ends) each (suc e) e_in = no_loop-by_test ends each.1 e (omega arith)

k5_is_graph : IsGraph k5
unfolding EachHasTwo
k5_is_graph = record { ends_in = search (rules, arith); no_loop = no_loop-by_test k5.ends (search rules) }

far_is_graph : IsGraph k5_and_two
unfolding EachHasTwo
far_is_graph = record { ends_in = search (rules, arith); no_loop = no_loop-by_test k5_and_two.ends (search rules) }

pub examples_are_bounded : AcceptedProofsBound → OneRowOfK5 → BranchedTree → ExamplesAreBounded
examples_are_bounded bound one branched = record {
  k5_crosses = bound k5 1 _ _ k5_is_graph one.accepted;
  far_edges = bound k5_and_two 1 _ _ far_is_graph branched.accepted;
}

k33_is_graph : IsGraph k33
unfolding EachHasTwo
k33_is_graph = record { ends_in = search (rules, arith); no_loop = no_loop-by_test k33.ends (search rules) }

pub kuratowski_graphs_cross : LeastIsOfAllDrawings → KuratowskiGraphs → KuratowskiGraphsCross
kuratowski_graphs_cross all known = record {
  k33_crosses = (all k33 1 k33_is_graph).0 known.k33_crosses;
  k5_number = record { least = (all k5 1 k5_is_graph).0 known.k5_crosses; at_most = k5_with_one_crossing.at_most_one };
}
