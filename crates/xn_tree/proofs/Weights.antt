-- How much the orders on an edge weigh in what the rows give.
use Rattle.std.proofs.Common.{◌≡◌, ℕ, zero, suc, ◌+◌, ◌-◌, ◌*◌, ◌<◌, ◌≤◌, inl, inr, Bool, true, false, ◌||◌, cond, eqb, List, [], ◌∷◌, refl, sym, ap, ◌∙◌, arith}
use Rattle.std.specs.Prelude.{ℤ, pos, ◌+ℤ◌, ◌-ℤ◌, nat_eq}
use Rattle.std.specs.List.{AllByRecursion, IsDistinct}
use Rattle.std.proofs.lemmas.Bool.{both_ways, cases_Bool, eqb-true, lt-ltb, le-ltb, or_parts}
use Rattle.std.proofs.lemmas.Int.{ints}
use Rattle.std.proofs.lemmas.Map.Keys.{IsDistinct-tail}
use Rattle.xn_model.specs.Graph.{Graph}
use Rattle.xn_model.specs.Lists.{has, total}
use Rattle.xn_model.proofs.Ranges.{order_at_outside}
use Rattle.xn_kinds.specs.Bound.{row_at}
use Rattle.xn_kinds.specs.Row.{Values, literal, orders_of, turns_value}
use Rattle.xn_kinds.specs.State.{State}
use Rattle.xn_kinds.specs.declared.rows.Row.{Row}
use Rattle.xn_tree.specs.Leaf.{AllWeigh, IsRowOf, WeighsAs, turn_loss, turn_term, turns_along, turns_sum}
use Rattle.xn_tree.specs.Least.{IsChange, Moves, order_given, with_before}
use Rattle.xn_tree.proofs.Edges.{rising_distinct}
use Rattle.xn_tree.proofs.Least.{allows_small, before_variable, moves_by, moves_to}
use Rattle.xn_tree.proofs.Neighbours.{head_out, turns-edge, turns-moved}

less_ahead : (m x : ℕ) → x ≤ 1 → cond (eqb x 0) m 0 ≡ m * (1 - x)
less_ahead m zero small = omega arith
less_ahead m (suc zero) small = omega arith
less_ahead m (suc (suc x)) small = absurd (omega (arith, small))

less_behind : (m x : ℕ) → x ≤ 1 → cond (eqb x 0) 0 m ≡ m * (1 - (1 - x))
less_behind m zero small = omega arith
less_behind m (suc zero) small = omega arith
less_behind m (suc (suc x)) small = absurd (omega (arith, small))

module _ (s : State) (rows : List Row) (parts : List (ℕ × ℕ)) (e : ℕ) where
  pub adds_order : (f g : ℕ) (number : Values → ℤ) → WeighsAs s rows parts e f g number → (for_zero for_one : ℕ) (r : ℤ) →
      IsChange (order_given (s.placed e) f g) (turn_loss rows parts e f g 0) (turn_loss rows parts e f g 1) for_zero for_one r →
      Moves s number (λ v. number v -ℤ pos (cond (eqb (v.before e f g) 0) for_zero for_one)) r
  adds_order f g number weighs for_zero for_one r change =
      moves_by s (order_given (s.placed e) f g) (λ v. v.before e f g) (λ v n. with_before v e f g n) (before_variable s e f g)
      number (λ v. number v -ℤ pos (cond (eqb (v.before e f g) 0) for_zero for_one))
      (turn_loss rows parts e f g) (λ x. turn_loss rows parts e f g x -ℤ pos (cond (eqb x 0) for_zero for_one)) weighs
      (λ v box. omega (arith, ints))
      change.before change.after r change.is_before change.is_after change.gap

  pub adds_ahead : (f g m : ℕ) → f < g → (number : Values → ℤ) (r : ℤ) →
      Moves s number (λ v. number v -ℤ pos (cond (eqb (v.before e f g) 0) m 0)) r → Moves s number (λ v. number v -ℤ pos (m * (1 - literal v e f g))) r
  adds_ahead f g m rises number r moves =
      moves_to s number (λ v. number v -ℤ pos (cond (eqb (v.before e f g) 0) m 0)) (λ v. number v -ℤ pos (m * (1 - literal v e f g))) r
      (λ v box.
      let is : literal v e f g ≡ v.before e f g = rw (lt-ltb f g rises) refl in
      let less : cond (eqb (v.before e f g) 0) m 0 ≡ m * (1 - literal v e f g) = less_ahead m (v.before e f g) (box.before_small e f g) ∙ ap (λ x. m * (1 - x)) (sym is) in
      ap (λ x. number v -ℤ pos x) less) moves

  pub adds_behind : (f g m : ℕ) → g < f → (number : Values → ℤ) (r : ℤ) →
      Moves s number (λ v. number v -ℤ pos (cond (eqb (v.before e g f) 0) 0 m)) r → Moves s number (λ v. number v -ℤ pos (m * (1 - literal v e f g))) r
  adds_behind f g m falls number r moves =
      moves_to s number (λ v. number v -ℤ pos (cond (eqb (v.before e g f) 0) 0 m)) (λ v. number v -ℤ pos (m * (1 - literal v e f g))) r
      (λ v box.
      let is : literal v e f g ≡ 1 - v.before e g f = rw (le-ltb f g (omega (arith, falls))) refl in
      let less : cond (eqb (v.before e g f) 0) 0 m ≡ m * (1 - literal v e f g) = less_behind m (v.before e g f) (box.before_small e g f) ∙ ap (λ x. m * (1 - x)) (sym is) in
      ap (λ x. number v -ℤ pos x) less) moves

-- ---- what the rows give

module _ (v : Values) (e a b n : ℕ) (ord : ℕ → List ℕ) where
  pub turns-others : (es : List ℕ) → has es e ≡ false → total (λ x. turns_along (with_before v e a b n) x (ord x)) es ≡ total (λ x. turns_along v x (ord x)) es
  turns-others [] out = refl
  turns-others (x ∷ es) out =
      let apart : (eqb x e ≡ false) × (has es e ≡ false) = or_parts (eqb x e) (has es e) out in
      let head = turns-edge v e a b n x (ord x) apart.0 in
      let tail = turns-others es apart.1 in
      omega (arith, head, tail)

  -- the orders of one row
  row-moved : (es : List ℕ) → IsDistinct nat_eq es → has es e ≡ true →
      turns_along (with_before v e a b n) e (ord e) + turn_term (ord e) a b (v.before e a b) ≡ turns_along v e (ord e) + turn_term (ord e) a b n →
      total (λ x. turns_along (with_before v e a b n) x (ord x)) es + turn_term (ord e) a b (v.before e a b) ≡ total (λ x. turns_along v x (ord x)) es + turn_term (ord e) a b n
  row-moved [] distinct in_row moved = absurd (both_ways false refl in_row)
  row-moved (x ∷ es) distinct in_row moved = elim (cases_Bool (eqb x e)) [
    | inl here ↦
        let same = eqb-true x e here in
        let out : has es e ≡ false = ap (has es) (sym same) ∙ head_out x es distinct in
        let first : turns_along (with_before v e a b n) x (ord x) ≡ turns_along (with_before v e a b n) e (ord e) = ap (λ y. turns_along (with_before v e a b n) y (ord y)) same in
        let before : turns_along v x (ord x) ≡ turns_along v e (ord e) = ap (λ y. turns_along v y (ord y)) same in
        row_sum _ _ _ _ _ _ _ _ first before (turns-others es out) moved
    | inr other ↦
        let later : has es e ≡ true = or_right_of (eqb x e) (has es e) other in_row in
        let head = turns-edge v e a b n x (ord x) other in
        row_sum_later _ _ _ _ _ _ head (row-moved es (IsDistinct-tail nat_eq x es distinct) later moved)
  ]
    where
      row_sum : (p q r t u w x y : ℕ) → p ≡ q → r ≡ t → u ≡ w → q + x ≡ t + y → p + u + x ≡ r + w + y
      row_sum p q r t u w x y one two three four = omega (arith, one, two, three, four)

      row_sum_later : (p r u w x y : ℕ) → p ≡ r → u + x ≡ w + y → p + u + x ≡ r + w + y
      row_sum_later p r u w x y one two = omega (arith, one, two)

      or_right_of : (p q : Bool) → p ≡ false → (p || q) ≡ true → q ≡ true
      or_right_of true q gone h = absurd (both_ways true gone refl)
      or_right_of false q gone h = h

module _ (g : Graph) (v : Values) (e a b n : ℕ) (rises : a < b) (small : n ≤ 1) (was_small : v.before e a b ≤ 1) where
  -- of a row of the graph
  value-moved : (row : Row) → IsRowOf g row →
      turns_value row (with_before v e a b n) + turn_term (orders_of row e) a b (v.before e a b) ≡ turns_value row v + turn_term (orders_of row e) a b n
  value-moved row is_row = elim (cases_Bool (has row.edges e)) [
    | inl in_row ↦
        row-moved v e a b n (orders_of row) row.edges (distinct_edges row is_row) in_row
        (turns-moved v e a b n rises small was_small (orders_of row e) (is_row.orders.no_repeats e))
    | inr out ↦
        let none : orders_of row e ≡ [] = order_at_outside row.edges row.orders e out in
        let term : (x : ℕ) → turn_term (orders_of row e) a b x ≡ 0 = λ x. ap (λ xs. turn_term xs a b x) none in
        omega (arith, turns-others v e a b n (orders_of row) row.edges out, term n, term (v.before e a b))
  ]
    where
      distinct_edges : (row : Row) → IsRowOf g row → IsDistinct nat_eq row.edges
      distinct_edges row is_row = rising_distinct row.edges is_row.orders.edge_list.rise

  -- of all parts
  parts-moved : (rows : List Row) (ps : List (ℕ × ℕ)) → AllByRecursion (λ p. IsRowOf g (row_at rows p.0)) ps →
      (turns_sum rows ps (with_before v e a b n) +ℤ turn_loss rows ps e a b (v.before e a b)) ≡ (turns_sum rows ps v +ℤ turn_loss rows ps e a b n)
  parts-moved rows [] each = refl
  parts-moved rows (p ∷ ps) each =
      let one = value-moved (row_at rows p.0) each.0 in
      let scaled = ap (λ x. p.1 * x) one in
      part_sum p.1 _ _ _ _ _ _ _ _ one (parts-moved rows ps each.1)
    where
      part_sum : (m t u x y w z : ℕ) (f h : ℤ) → t + x ≡ u + y → (f +ℤ (pos 0 -ℤ pos w)) ≡ (h +ℤ (pos 0 -ℤ pos z)) →
          (((pos m -ℤ pos (m * t)) +ℤ f) +ℤ (pos 0 -ℤ pos (m * x + w))) ≡ (((pos m -ℤ pos (m * u)) +ℤ h) +ℤ (pos 0 -ℤ pos (m * y + z)))
      part_sum m t u x y w z f h one rest = let scaled : m * (t + x) ≡ m * (u + y) = ap (λ k. m * k) one in omega (arith, ints, scaled, rest)

-- in what the parts give, the orders on each edge weigh as in the parts
pub all_weigh : (g : Graph) (s : State) (rows : List Row) (ps : List (ℕ × ℕ)) (e : ℕ) → AllByRecursion (λ p. IsRowOf g (row_at rows p.0)) ps →
    AllWeigh s rows ps e (turns_sum rows ps)
all_weigh g s rows ps e each f h rises = record {
  moved = λ v n box allows. parts-moved g v e f h n rises (allows_small (order_given (s.placed e) f h) n allows) (box.before_small e f h) rows ps each;
}
