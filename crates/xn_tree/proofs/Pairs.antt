-- The sums over pairs of edges, pair by pair.
use Rattle.std.proofs.Common.{◌≡◌, ℕ, zero, suc, ◌+◌, ◌-◌, ◌<◌, ◌≤◌, true, false, eqb, List, [], ◌∷◌, length, refl, subst, ap, arith}
use Rattle.std.specs.Prelude.{ℤ, pos, ◌+ℤ◌, cond}
use Rattle.std.specs.List.{range_with_len}
use Rattle.std.proofs.lemmas.Bool.{and_left, and_right, cond-true, cond-false, ne_eqb, or_parts}
use Rattle.std.proofs.lemmas.Int.{ints}
use Rattle.xn_model.specs.Graph.{Graph, independent}
use Rattle.xn_model.specs.Lists.{has}
use Rattle.xn_kinds.specs.Bound.{total_ℤ, IsLeastOver}
use Rattle.xn_kinds.specs.Row.{Values}
use Rattle.xn_kinds.specs.State.{State, InBox}
use Rattle.xn_kinds.specs.declared.rows.Row.{Row}
use Rattle.xn_tree.specs.Leaf.{IgnoresPairs, cross_value, crosses_from, crosses_with, each_pair, edges_from, pair_value}
use Rattle.xn_tree.specs.Least.{IsLesser, Moves, with_cross}
use Rattle.xn_tree.proofs.Least.{crosses_variable, least_none, least_same, moves_by}

-- the edges from e on begin with e
pub edges_from-first : (g : Graph) (e : ℕ) → e < length g.ends → edges_from g e ≡ e ∷ edges_from g (e + 1)
edges_from-first g e below =
    let longer : length g.ends - e ≡ suc (length g.ends - (e + 1)) = omega (arith, below) in
    ap (range_with_len e) longer

pub edges_from-none : (g : Graph) (e : ℕ) → length g.ends ≤ e → edges_from g e ≡ []
edges_from-none g e past =
    let none : length g.ends - e ≡ 0 = omega (arith, past) in
    ap (range_with_len e) none

-- a number before the range isn't in it
has-range_before : (a n e : ℕ) → e < a → has (range_with_len a n) e ≡ false
has-range_before a zero e before = refl
has-range_before a (suc n) e before =
    let apart : eqb a e ≡ false = ne_eqb a e (λ same. omega (arith, same, before)) in
    rw apart (has-range_before (a + 1) n e (omega (arith, before)))

module _ (g : Graph) (rows : List Row) (parts : List (ℕ × ℕ)) (d : ℕ) where
  -- another value for one pair changes no sum without that pair
  total-ignores : (v : Values) (e f n : ℕ) (fs : List ℕ) → has fs f ≡ false →
      total_ℤ (cross_value g rows parts d (with_cross v e f n) e) fs ≡ total_ℤ (cross_value g rows parts d v e) fs
  total-ignores v e f n [] out = refl
  total-ignores v e f n (x ∷ fs) out =
      let apart : (eqb x f ≡ false) × (has fs f ≡ false) = or_parts (eqb x f) (has fs f) out in
      let same : (with_cross v e f n).crosses e x ≡ v.crosses e x = cond-false _ _ _ (and_right (eqb e e) (eqb x f) apart.0) in
      let here : cross_value g rows parts d (with_cross v e f n) e x ≡ cross_value g rows parts d v e x =
      ap (λ (c : ℕ). cond (independent g.ends e x) (pair_value rows parts d e x c) (pos 0)) same in
      rw (here, total-ignores v e f n fs apart.1) refl

  total-ignores_edge : (v : Values) (e f n a : ℕ) (fs : List ℕ) → eqb a e ≡ false →
      total_ℤ (cross_value g rows parts d (with_cross v e f n) a) fs ≡ total_ℤ (cross_value g rows parts d v a) fs
  total-ignores_edge v e f n a [] other = refl
  total-ignores_edge v e f n a (x ∷ fs) other =
      let same : (with_cross v e f n).crosses a x ≡ v.crosses a x = cond-false _ _ _ (and_left (eqb a e) (eqb x f) other) in
      let here : cross_value g rows parts d (with_cross v e f n) a x ≡ cross_value g rows parts d v a x =
      ap (λ (c : ℕ). cond (independent g.ends a x) (pair_value rows parts d a x c) (pos 0)) same in
      rw (here, total-ignores_edge v e f n a fs other) refl

  each-ignores : (v : Values) (e f n : ℕ) (es : List ℕ) → has es e ≡ false →
      each_pair (cross_value g rows parts d (with_cross v e f n)) es ≡ each_pair (cross_value g rows parts d v) es
  each-ignores v e f n [] out = refl
  each-ignores v e f n (x ∷ es) out =
      let apart : (eqb x e ≡ false) × (has es e ≡ false) = or_parts (eqb x e) (has es e) out in
      rw (total-ignores_edge v e f n x es apart.0, each-ignores v e f n es apart.1) refl

  pub crosses_from-ignores : (e : ℕ) → IgnoresPairs e (crosses_from g rows parts d (e + 1))
  crosses_from-ignores e v f n = each-ignores v e f n (edges_from g (e + 1)) (has-range_before (e + 1) (length g.ends - (e + 1)) e (omega arith))

  pub crosses_with-first : (e f : ℕ) (v : Values) → f < length g.ends →
      crosses_with g rows parts d e f v ≡ cross_value g rows parts d v e f +ℤ crosses_with g rows parts d e (f + 1) v
  crosses_with-first e f v below = ap (total_ℤ (cross_value g rows parts d v e)) (edges_from-first g f below)

  pub crosses_from-first : (e : ℕ) (v : Values) → e < length g.ends →
      crosses_from g rows parts d e v ≡ crosses_with g rows parts d e (e + 1) v +ℤ crosses_from g rows parts d (e + 1) v
  crosses_from-first e v below = ap (each_pair (cross_value g rows parts d v)) (edges_from-first g e below)

  module _ (s : State) (e f : ℕ) (below : f < length g.ends) (rest : Values → ℤ) (ignores : IgnoresPairs e rest) where
    pub adds_pair : (r : ℤ) → independent g.ends e f ≡ true →
        IsLesser (s.decided e f) (pair_value rows parts d e f 0) (pair_value rows parts d e f 1) r →
        Moves s (λ v. crosses_with g rows parts d e (f + 1) v +ℤ rest v) (λ v. crosses_with g rows parts d e f v +ℤ rest v) r
    adds_pair r apart least =
        moves_by s (s.decided e f) (λ v. v.crosses e f) (λ v n. with_cross v e f n) (crosses_variable s e f)
        (λ v. crosses_with g rows parts d e (f + 1) v +ℤ rest v) (λ v. crosses_with g rows parts d e f v +ℤ rest v)
        (λ n. pos 0) (pair_value rows parts d e f)
        (record {
          moved = λ v n box allows. omega (
            arith,
            ints,
            total-ignores v e f n (edges_from g (f + 1)) (has-range_before (f + 1) (length g.ends - (f + 1)) f (omega arith)),
            ignores v f n,
          );
        })
        (λ v box.
        let here : cross_value g rows parts d v e f ≡ pair_value rows parts d e f (v.crosses e f) = cond-true _ _ _ apart in
        omega (arith, ints, crosses_with-first e f v below, here))
        (pos 0) r r (least_none (s.decided e f)) least (omega (arith, ints))

    pub adds_none : independent g.ends e f ≡ false →
        Moves s (λ v. crosses_with g rows parts d e (f + 1) v +ℤ rest v) (λ v. crosses_with g rows parts d e f v +ℤ rest v) (pos 0)
    adds_none meet = λ b least.
        let none : b ≡ b +ℤ pos 0 = omega (arith, ints) in
        subst (IsLeastOver (InBox s) (λ v. crosses_with g rows parts d e f v +ℤ rest v)) none
        (least_same s (λ v. crosses_with g rows parts d e (f + 1) v +ℤ rest v) (λ v. crosses_with g rows parts d e f v +ℤ rest v) b
        (λ v.
        let here : cross_value g rows parts d v e f ≡ pos 0 = cond-false _ _ _ meet in
        omega (arith, ints, crosses_with-first e f v below, here))
        least)
