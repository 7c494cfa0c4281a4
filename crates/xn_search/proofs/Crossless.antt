-- Where a drawing has no crossing, no row of the empty state holds.
use Rattle.std.proofs.Common.{◌≡◌, ℕ, ◌-◌, ◌<◌, inl, inr, Bool, true, false, List, [], ◌∷◌, length, refl, sym, ◌∙◌, ap, ap₂, arith, cond, eqb}
use Rattle.std.specs.Prelude.{Some, None, filter}
use Rattle.std.proofs.lemmas.Bool.{and_parts, both_ways, cases_Bool, cases_order, eqb-true, or_cases}
use Rattle.xn_model.specs.Drawing.{HasDrawingWith, IsSimpleDrawing}
use Rattle.xn_model.specs.Graph.{Graph, IsGraph, each_two, edges_of, pairs_of}
use Rattle.xn_model.specs.Lists.{has, neighbours, one_if, total}
use Rattle.xn_model.specs.Orders.{crossing_count}
use Rattle.xn_model.proofs.Ranges.{edge_list}
use Rattle.xn_kinds.specs.Row.{literal, orders_of, pairs_value, turns_value, value_of, values_in}
use Rattle.xn_kinds.specs.State.{empty_state}
use Rattle.xn_kinds.specs.declared.rows.Row.{Row}
use Rattle.xn_fewer.proofs.Crossings.{has_pair, is_pair, not_of_itself, two_in}
use Rattle.xn_fewer.proofs.Has.{has-first}
use Rattle.xn_fewer.proofs.Rising.{rising-from_increasing}
use Rattle.xn_general.specs.Bounds.{DrawingsGiveSimpleOnes}
use Rattle.xn_sound.specs.Laws.{RowsAreMet}
use Rattle.xn_plant.specs.Planting.{IsRowOfState}

total_zero : {A : Type 0} (f : A → ℕ) (xs : List A) → ((x : A) → f x ≡ 0) → total f xs ≡ 0
total_zero f [] zeros = refl
total_zero f (x ∷ xs) zeros = omega (arith, zeros x, total_zero f xs zeros)

empty_list : (xs : List ℕ) → ((x : ℕ) → has xs x ≡ true → ⊥) → xs ≡ []
empty_list [] none = refl
empty_list (x ∷ xs) none = absurd (none x (has-first x xs))

-- what a test takes out of a list without an element isn't in the list
none_kept : (p : ℕ × ℕ → Bool) (ps : List (ℕ × ℕ)) → length (filter p ps) ≡ 0 → (e f : ℕ) → has_pair ps e f ≡ true → p (e, f) ≡ true → ⊥
none_kept p [] none e f there kept = both_ways false refl there
none_kept p (q ∷ ps) none e f there kept = elim (cases_Bool (p q)) [
  | inl passes ↦ omega (arith, rw passes at none)
  | inr fails ↦ elim (or_cases (is_pair e f q) (has_pair ps e f) there) [
    | inl here ↦
        let parts : (eqb q.0 e ≡ true) × (eqb q.1 f ≡ true) = and_parts _ _ here in
        let same : q ≡ (e, f) = ap₂ (λ (a b : ℕ). (a, b)) (eqb-true q.0 e parts.0) (eqb-true q.1 f parts.1) in
        both_ways (p (e, f)) (ap p (sym same) ∙ fails) kept
    | inr later ↦ none_kept p ps (rw fails at none) e f later kept
  ]
]

module _ (g : Graph) (ord : ℕ → List ℕ) (next : ℕ → ℕ) (drawing : IsSimpleDrawing g ord next) (none : crossing_count g ord ≡ 0) where
  ordered : (e f : ℕ) → e < f → has (ord e) f ≡ true → ⊥
  ordered e f less there =
      let e_in = drawing.orders.within e f there in
      let f_in = drawing.orders.within f e (drawing.orders.both_ways e f there) in
      none_kept (λ p. has (ord p.0) p.1) (each_two (edges_of g)) none e f
      (two_in (edges_of g) (rising-from_increasing (edges_of g) (edge_list (length g.ends)).rise) e f e_in f_in less) there

  no_crossing : (e f : ℕ) → has (ord e) f ≡ true → ⊥
  no_crossing e f there = elim (cases_order e f) [
    | inl same ↦ not_of_itself g.ends e f (drawing.orders.independent e f there) same
    | inr other ↦ elim other [ inl less ↦ ordered e f less there | inr more ↦ ordered f e more (drawing.orders.both_ways e f there) ]
  ]

  crosses_none : (e f : ℕ) → has (ord e) f ≡ false
  crosses_none e f = elim (cases_Bool (has (ord e) f)) [ inl there ↦ absurd (no_crossing e f there) | inr no_there ↦ no_there ]

  module _ (row : Row) (is : IsRowOfState g empty_state row) where
    row_none : (e f : ℕ) → has (orders_of row e) f ≡ true → ⊥
    row_none e f there = elim (is.of_state.crosses e f there) [ inl a ↦ let both : None ≡ Some true = a in absurd cc | inr b ↦ let both : None ≡ Some true = b in absurd cc ]

    row_false : (e f : ℕ) → has (orders_of row e) f ≡ false
    row_false e f = elim (cases_Bool (has (orders_of row e) f)) [ inl there ↦ absurd (row_none e f there) | inr no_there ↦ no_there ]

    pairs_zero : pairs_value g row (values_in ord) ≡ 0
    pairs_zero = total_zero (λ p. cond (has (orders_of row p.0) p.1) (1 - one_if (has (ord p.0) p.1)) (one_if (has (ord p.0) p.1))) (pairs_of g.ends row.edges)
        (λ p. rw (row_false p.0 p.1, crosses_none p.0 p.1) refl)

    turns_zero : turns_value row (values_in ord) ≡ 0
    turns_zero = total_zero (λ e. total (λ p. 1 - literal (values_in ord) e p.0 p.1) (neighbours (orders_of row e))) row.edges
        (λ e. ap (λ xs. total (λ p. 1 - literal (values_in ord) e p.0 p.1) (neighbours xs)) (empty_list (orders_of row e) (λ f. row_none e f)))

    value_zero : value_of g row (values_in ord) ≡ 0
    value_zero = omega (arith, pairs_zero, turns_zero)

pub no_row_without_crossings : DrawingsGiveSimpleOnes → RowsAreMet → (g : Graph) → IsGraph g → (row : Row) → IsRowOfState g empty_state row → HasDrawingWith g 0 → ⊥
no_row_without_crossings simple met g is_graph row is drawn =
    let s = simple g 0 drawn in
    let d = s.1 in
    let few = s.2 in
    let none : crossing_count g d.0 ≡ 0 = let count = d.3 in omega (arith, few, count) in
    let some = met g row is_graph is.holds d.0 d.1 d.2 in
    let zero_ = value_zero g d.0 d.1 d.2 none row is in
    omega (arith, some, zero_)
