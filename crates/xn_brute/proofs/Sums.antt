-- Sums and lists from a place on.
use Rattle.std.proofs.Common.{◌≡◌, ◌≢◌, ℕ, false, eqb, ◌+◌, ◌<◌, ◌≤◌, inl, inr, List, [], ◌∷◌, ◌++◌, length, map, drop, get_or, refl, sym, ap, ◌∙◌, arith, add-one, drop-cons}
use Rattle.std.specs.Prelude.{filter, ◌+ℤ◌, ℤ}
use Rattle.std.proofs.Math.ListN.{drop_of_length-le}
use Rattle.std.proofs.lemmas.Bool.{cases_Bool, cases_lt, ne_eqb}
use Rattle.std.proofs.lemmas.List.Elements.{filter-append}
use Rattle.xn_model.specs.Graph.{Graph, each_two, independent}
use Rattle.xn_model.specs.Lists.{neighbours, total}
use Rattle.xn_model.specs.Orders.{order_at}
use Rattle.xn_kinds.specs.Bound.{total_ℤ}
use Rattle.xn_kinds.specs.Row.{Values}
use Rattle.xn_kinds.specs.declared.rows.Row.{Row}
use Rattle.xn_brute.specs.Leaf.{independent_part, pair_part}

pub total_ℤ-drop : {A : Type 0} (f : A → ℤ) (xs : List A) (i : ℕ) (d : A) → i < length xs → total_ℤ f (drop i xs) ≡ f (get_or xs i d) +ℤ total_ℤ f (drop (i + 1) xs)
total_ℤ-drop f xs i d low = rw (add-one, drop-cons xs i d) refl

total-append : {A : Type 0} (f : A → ℕ) (xs ys : List A) → total f (xs ++ ys) ≡ total f xs + total f ys
total-append f [] ys = omega arith
total-append f (x ∷ xs) ys = omega (arith, total-append f xs ys)

-- the sum over each two elements, the earlier first
abbrev pub each_pair : (ℕ → ℕ → ℕ) → List ℕ → ℕ
each_pair h [] = 0
each_pair h (e ∷ es) = total (h e) es + each_pair h es

module _ (g : Graph) (row : Row) (v : Values) where
  of_one : (e : ℕ) (es : List ℕ) → total (pair_part row v) (filter (λ p. independent g.ends p.0 p.1) (map (λ f. (e, f)) es)) ≡ total (independent_part g row v e) es
  of_one e [] = refl
  of_one e (f ∷ es) = elim (cases_Bool (independent g.ends e f)) [
    | inl apart ↦ rw (apart, of_one e es) refl
    | inr meet ↦ rw (meet, of_one e es) (omega arith)
  ]

  -- over the independent pairs
  pub each_pair-is : (es : List ℕ) → total (pair_part row v) (filter (λ p. independent g.ends p.0 p.1) (each_two es)) ≡ each_pair (independent_part g row v) es
  each_pair-is [] = refl
  each_pair-is (e ∷ es) =
      ap (total (pair_part row v)) (filter-append (λ p. independent g.ends p.0 p.1) (map (λ f. (e, f)) es) (each_two es))
      ∙ total-append (pair_part row v) (filter (λ p. independent g.ends p.0 p.1) (map (λ f. (e, f)) es)) (filter (λ p. independent g.ends p.0 p.1) (each_two es))
      ∙ omega (arith, of_one e es, each_pair-is es)

order_at-none : (edges : List ℕ) (e : ℕ) → order_at edges [] e ≡ []
order_at-none [] e = refl
order_at-none (x ∷ xs) e = refl

pub order_at-next : (edges : List ℕ) (lists : List (List ℕ)) (e i : ℕ) → i < length edges → get_or edges i 0 ≢ e →
    order_at (drop (i + 1) edges) (drop (i + 1) lists) e ≡ order_at (drop i edges) (drop i lists) e
order_at-next edges lists e i low other =
    let differ : eqb (get_or edges i 0) e ≡ false = ne_eqb _ _ other in
    elim (cases_lt i (length lists)) [
      | inl within ↦ rw (add-one, drop-cons edges i 0, drop-cons lists i [], differ) refl
      | inr past ↦ rw (drop_of_length-le lists past, drop_of_length-le lists {i = i + 1} (omega (arith, past)), order_at-none) (sym (order_at-none (drop i edges) e))
    ]

pub neighbours-short : (xs : List ℕ) → length xs ≤ 1 → neighbours xs ≡ []
neighbours-short [] short = refl
neighbours-short (x ∷ []) short = refl
neighbours-short (x ∷ y ∷ xs) short = absurd (omega arith)
