-- Each crossing stands in two lists, so orders have twice as many entries as crossings.
use Rattle.std.proofs.Common.{◌≡◌, ℕ, ◌+◌, ◌*◌, ◌≤◌, inl, inr, Bool, true, false, not, eqb, List, [], ◌∷◌, length, map, refl, sym, ap, ◌∙◌, arith, length-append}
use Rattle.std.specs.Prelude.{filter}
use Rattle.std.proofs.lemmas.Bool.{and_parts, both_ways, cases_Bool, eq-eqb, eqb-true, or_cases}
use Rattle.std.proofs.lemmas.List.Elements.{filter-append}
use Rattle.xn_model.specs.Graph.{Graph, each_two, edges_of, ends_at, independent, touches}
use Rattle.xn_model.specs.Lists.{has, one_if, total}
use Rattle.xn_model.specs.Orders.{IsOrders, crossing_count, crossings_of}
use Rattle.xn_model.proofs.Tests.{not_true, same_tests}
use Rattle.xn_model.proofs.Has.{has-first}
use Rattle.xn_brute.specs.Drawings.{is_distinct}
use Rattle.xn_brute.proofs.Drawn.{has-later, test_from_distinct}

-- ---- sums

pub total-le : (f g : ℕ → ℕ) (xs : List ℕ) → ((x : ℕ) → f x ≤ g x) → total f xs ≤ total g xs
total-le f g [] less = omega arith
total-le f g (x ∷ xs) less = omega (arith, less x, total-le f g xs less)

total-same : (f g : ℕ → ℕ) (xs : List ℕ) → ((x : ℕ) → f x ≡ g x) → total f xs ≡ total g xs
total-same f g xs same = ap (λ (h : ℕ → ℕ). total h xs) (λ i x. same x i)

total-add : (f g : ℕ → ℕ) (xs : List ℕ) → total (λ x. f x + g x) xs ≡ total f xs + total g xs
total-add f g [] = refl
total-add f g (x ∷ xs) = omega (arith, total-add f g xs)

-- ---- the length of a list

-- how many of es stand in the list
abbrev pub met : List ℕ → List ℕ → ℕ
met l es = total (λ f. one_if (has l f)) es

more_met : (x : ℕ) (l es : List ℕ) → met l es ≤ met (x ∷ l) es
more_met x l es = total-le (λ f. one_if (has l f)) (λ f. one_if (has (x ∷ l) f)) es (λ f. elim (cases_Bool (eqb x f)) [
  | inl here ↦ elim (cases_Bool (has l f)) [ inl yes_in ↦ rw (here, yes_in) (omega arith) | inr no_in ↦ rw (here, no_in) (omega arith) ]
  | inr other ↦ rw other (omega arith)
])

one_more_met : (x : ℕ) (l es : List ℕ) → has l x ≡ false → has es x ≡ true → met l es + 1 ≤ met (x ∷ l) es
one_more_met x l [] out h = absurd (both_ways false refl h)
one_more_met x l (y ∷ es) out h = elim (or_cases (eqb y x) (has es x) h) [
  | inl here ↦
      let is : y ≡ x = eqb-true y x here in
      let old : one_if (has l y) ≡ 0 = ap (λ z. one_if (has l z)) is ∙ ap one_if out in
      let new : one_if (has (x ∷ l) y) ≡ 1 = let same : eqb x y ≡ true = eq-eqb x y (sym is) in rw same refl in
      omega (arith, old, new, more_met x l es)
  | inr later ↦
      let front : one_if (has l y) ≤ one_if (has (x ∷ l) y) = omega (arith, more_met x l (y ∷ [])) in
      omega (arith, front, one_more_met x l es out later)
]

length-le_met : (l es : List ℕ) → is_distinct l ≡ true → ((x : ℕ) → has l x ≡ true → has es x ≡ true) → length l ≤ met l es
length-le_met [] es distinct inside = omega arith
length-le_met (x ∷ l) es distinct inside =
    let parts : (not (has l x) ≡ true) × (is_distinct l ≡ true) = and_parts _ _ distinct in
    omega (arith, length-le_met l es parts.1 (λ y h. inside y (has-later x y l h)), one_more_met x l es (not_true _ parts.0) (inside x (has-first x l)))

-- ---- the number of crossings

met-filter : (ord : ℕ → List ℕ) (e : ℕ) (es : List ℕ) → length (filter {X = ℕ × ℕ} (λ p. has (ord p.0) p.1) (map (λ f. (e, f)) es)) ≡ met (ord e) es
met-filter ord e [] = refl
met-filter ord e (f ∷ es) = elim (cases_Bool (has (ord e) f)) [
  | inl crosses ↦ rw crosses (omega (arith, met-filter ord e es))
  | inr apart ↦ rw apart (omega (arith, met-filter ord e es))
]

crossings-front : (ord : ℕ → List ℕ) (e : ℕ) (es : List ℕ) → length (crossings_of (e ∷ es) ord) ≡ met (ord e) es + length (crossings_of es ord)
crossings-front ord e es =
    let test : ℕ × ℕ → Bool = λ p. has (ord p.0) p.1 in
    let row : List (ℕ × ℕ) = map (λ f. (e, f)) es in
    ap length (filter-append test row (each_two es)) ∙ length-append (filter test row) (filter test (each_two es))
    ∙ ap (λ n. n + length (filter test (each_two es))) (met-filter ord e es)

module _ (ord : ℕ → List ℕ) (mutual_tests : (e f : ℕ) → has (ord e) f ≡ has (ord f) e) (not_self : (e : ℕ) → has (ord e) e ≡ false) where
  doubled : (es : List ℕ) → total (λ e. met (ord e) es) es ≡ 2 * length (crossings_of es ord)
  doubled [] = refl
  doubled (e ∷ es) =
      let self : one_if (has (ord e) e) ≡ 0 = ap one_if (not_self e) in
      let split = total-add (λ x. one_if (has (ord x) e)) (λ x. met (ord x) es) es in
      let column : total (λ x. one_if (has (ord x) e)) es ≡ met (ord e) es = total-same (λ x. one_if (has (ord x) e)) (λ x. one_if (has (ord e) x)) es (λ x. ap one_if (mutual_tests x e)) in
      omega (arith, self, split, column, doubled es, crossings-front ord e es)

not_itself : (ends : List (ℕ × ℕ)) (e : ℕ) → independent ends e e ≡ true → ⊥
not_itself ends e h =
    let p = ends_at ends e in
    let parts : (not (touches p p.0) ≡ true) × (not (touches p p.1) ≡ true) = and_parts _ _ h in
    let meets : touches p p.0 ≡ true = let same : eqb p.0 p.0 ≡ true = eq-eqb p.0 p.0 refl in rw same refl in
    both_ways _ (not_true _ parts.0) meets

-- at most twice as many entries as crossings
pub entries-le : (g : Graph) (ord : ℕ → List ℕ) → IsOrders g.ends (edges_of g) ord → total (λ e. length (ord e)) (edges_of g) ≤ 2 * crossing_count g ord
entries-le g ord orders =
    let es = edges_of g in
    let fits : (e : ℕ) → length (ord e) ≤ met (ord e) es = λ e. length-le_met (ord e) es (test_from_distinct (ord e) (orders.no_repeats e)) (λ f h. orders.within f e (orders.both_ways e f h)) in
    let mutual_tests : (e f : ℕ) → has (ord e) f ≡ has (ord f) e = λ e f. same_tests _ _ (orders.both_ways e f) (orders.both_ways f e) in
    let not_self : (e : ℕ) → has (ord e) e ≡ false = λ e. elim (cases_Bool (has (ord e) e)) [
      | inl itself ↦ absurd (not_itself g.ends e (orders.independent e e itself))
      | inr other ↦ other
    ] in
    let less = total-le (λ e. length (ord e)) (λ e. met (ord e) es) es fits in
    omega (arith, less, doubled ord mutual_tests not_self es)
