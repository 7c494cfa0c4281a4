use Rattle.std.proofs.Common.{ℕ, ◌<◌, ◌≤◌, ◌^◌, List, [], ◌∷◌, arith}
use Rattle.std.specs.Prelude.{All}
use Rattle.std.proofs.lemmas.List.Elements.{All-cons, All-nil}
use Rattle.xn_model.specs.Graph.{Graph}
use Rattle.xn_kinds.specs.Bound.{PartsFit, row_at}
use Rattle.xn_kinds.specs.Row.{RowHolds}
use Rattle.xn_kinds.specs.declared.rows.Row.{Row}
use Rattle.xn_tree.specs.Leaf.{IsRowOf}
use Rattle.xn_rows.proofs.tests.leaves.bound_with.Goals as goal

-- a row that holds is one of the graph
one_row : (g : Graph) (row : Row) (m : ℕ) → RowHolds g row → All {X = ℕ × ℕ} (λ p. IsRowOf g (row_at (row ∷ []) p.0)) ((0, m) ∷ [])
one_row g row m holds =
    let P : ℕ × ℕ → Type 0 = λ p. IsRowOf g (row_at (row ∷ []) p.0) in
    All-cons P (0, m) [] (record { lists_fit = holds.lists_fit; orders = holds.orders }) (All-nil P)

-- one part fits one row
one_part : (m : ℕ) → 1 ≤ m → m < 2 ^ 63 → PartsFit 1 ((0, m) ∷ [])
one_part m least most =
    let B : ℕ × ℕ → Type 0 = λ p. p.0 < 1 in
    let M : ℕ × ℕ → Type 0 = λ p. (1 ≤ p.1) × (p.1 < 2 ^ 63) in
    record {
      rise = λ k more. absurd (omega (arith, more));
      below = All-cons B (0, m) [] (omega arith) (All-nil B);
      multipliers = All-cons M (0, m) [] (least, most) (All-nil M);
    }

pub bound-requires-clause-parts : goal.bound-requires-clause-parts
bound-requires-clause-parts c = rw c.from_ref.ensures.len (one_part c.args.m c.requires.m.0 c.requires.m.1)

pub bound-requires-clause-rows : goal.bound-requires-clause-rows
bound-requires-clause-rows c =
    rw c.from_ref.ensures.value (one_row c.args.graph.now c.args.row.now c.args.m c.in_ok-row_holds.ensures)
