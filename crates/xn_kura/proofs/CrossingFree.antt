-- A drawing without crossings is a flat map of its graph.
use Rattle.std.proofs.Common.{◌≡◌, ℕ, zero, suc, ◌+◌, ◌<◌, ◌≤◌, inl, inr, Bool, true, false, not, ◌&&◌, eqb, List, [], ◌∷◌, ◌++◌, length, map, refl, sym, ◌∙◌, ap, ap₂, subst, arith}
use Rattle.std.specs.List.{filter, flat_map, range_with_len}
use Rattle.std.proofs.lemmas.Bool.{cases_eq, cases_lt, cases_order, cases_Bool, both_ways, cond-true, cond-false, eq-eqb, or_left}
use Rattle.xn_model.specs.Drawing.{IsSimpleDrawing}
use Rattle.xn_model.specs.Graph.{Graph, each_two, edges_of, ends_at, independent, touches}
use Rattle.xn_model.specs.Lists.{has}
use Rattle.xn_model.specs.Map.{IsFlat}
use Rattle.xn_model.specs.Orders.{IsOrders, crossing_count, crossings_of}
use Rattle.xn_model.specs.Web.{crossing_node, segments_of, segments_through, web_of}
use Rattle.xn_model.proofs.Ranges.{has-range_past}

-- ---- where no pair of a list passes

none_passes : {A : Type 0} (p : A → Bool) (x : A) (xs : List A) → length (filter p (x ∷ xs)) ≡ 0 → (p x ≡ false) × (length (filter p xs) ≡ 0)
none_passes p x xs none = elim (cases_Bool (p x)) [
  | inl passes ↦
      let is : filter p (x ∷ xs) ≡ x ∷ filter p xs = cond-true _ _ _ passes in
      let long = ap length is in
      absurd (omega (arith, long, none))
  | inr fails ↦
      let is : filter p (x ∷ xs) ≡ filter p xs = cond-false _ _ _ fails in
      (fails, ap length (sym is) ∙ none)
]

none_passes-append : {A : Type 0} (p : A → Bool) (xs ys : List A) → length (filter p (xs ++ ys)) ≡ 0 → (length (filter p xs) ≡ 0) × (length (filter p ys) ≡ 0)
none_passes-append p [] ys none = (refl, none)
none_passes-append p (x ∷ xs) ys none =
    let here = none_passes p x (xs ++ ys) none in
    let rest = none_passes-append p xs ys here.1 in
    let is : filter p (x ∷ xs) ≡ filter p xs = cond-false _ _ _ here.0 in
    (ap length is ∙ rest.0, rest.1)

none_with : (p : ℕ × ℕ → Bool) (e a n f : ℕ) → length (filter p (map (λ x. (e, x)) (range_with_len a n))) ≡ 0 → a ≤ f → f < a + n → p (e, f) ≡ false
none_with p e a zero f none low high = absurd (omega (arith, low, high))
none_with p e a (suc n) f none low high =
    let here = none_passes p (e, a) (map (λ x. (e, x)) (range_with_len (a + 1) n)) none in
    elim (cases_eq f a) [
      | inl same ↦ ap (λ x. p (e, x)) same ∙ here.0
      | inr later ↦ none_with p e (a + 1) n f here.1 (omega (arith, low, later)) (omega (arith, high))
    ]

none_of_two : (p : ℕ × ℕ → Bool) (a n e f : ℕ) → length (filter p (each_two (range_with_len a n))) ≡ 0 → a ≤ e → e < f → f < a + n → p (e, f) ≡ false
none_of_two p a zero e f none low between high = absurd (omega (arith, low, between, high))
none_of_two p a (suc n) e f none low between high =
    let rest = range_with_len (a + 1) n in
    let parts = none_passes-append p (map (λ x. (a, x)) rest) (each_two rest) none in
    elim (cases_eq e a) [
      | inl same ↦ ap (λ x. p (x, f)) same ∙ none_with p a (a + 1) n f parts.0 (omega (arith, same, between)) (omega (arith, high))
      | inr later ↦ none_of_two p (a + 1) n e f parts.1 (omega (arith, low, later)) between (omega (arith, high))
    ]

-- ---- orders without crossings

module _ (g : Graph) (ord : ℕ → List ℕ) (orders : IsOrders g.ends (edges_of g) ord) (none : crossing_count g ord ≡ 0) where
  edge_below : (e : ℕ) → has (edges_of g) e ≡ true → e < length g.ends
  edge_below e listed = elim (cases_lt e (length g.ends)) [
    | inl below ↦ below
    | inr past ↦ absurd (both_ways _ (has-range_past 0 (length g.ends) e (omega (arith, past))) listed)
  ]

  rising : (e f : ℕ) → e < f → f < length g.ends → has (ord e) f ≡ false
  rising e f between high = none_of_two (λ p. has (ord p.0) p.1) 0 (length g.ends) e f none (omega arith) between (omega (arith, high))

  no_crosser : (e f : ℕ) → has (ord e) f ≡ false
  no_crosser e f = elim (cases_Bool (has (ord e) f)) [
    | inr out ↦ out
    | inl crosses ↦
        let back = orders.both_ways e f crosses in
        let e_in = edge_below e (orders.within e f crosses) in
        let f_in = edge_below f (orders.within f e back) in
        elim (cases_order e f) [
          | inl same ↦
              let own : independent g.ends e e ≡ true = ap (independent g.ends e) same ∙ orders.independent e f crosses in
              absurd (not_of_itself (ends_at g.ends e) own)
          | inr (inl below) ↦ rising e f below f_in
          | inr (inr above) ↦ absurd (both_ways _ (rising f e above e_in) back)
        ]
  ]
    where
      not_of_itself : (p : ℕ × ℕ) → (not (touches p p.0) && not (touches p p.1)) ≡ true → ⊥
      not_of_itself p own =
          let t : touches p p.0 ≡ true = or_left (eqb p.0 p.0) (eqb p.1 p.0) (eq-eqb p.0 p.0 refl) in
          both_ways true (sym own ∙ ap (λ x. not x && not (touches p p.1)) t) refl

  no_order : (e : ℕ) → ord e ≡ []
  no_order e = empty (ord e) (no_crosser e)
    where
      empty : (xs : List ℕ) → ((f : ℕ) → has xs f ≡ false) → xs ≡ []
      empty [] out = refl
      empty (x ∷ xs) out = absurd (both_ways _ (out x) (or_left (eqb x x) (has xs x) (eq-eqb x x refl)))

  -- each edge is one segment
  same_web : web_of g (edges_of g) ord ≡ g
  same_web = ap₂ (λ (n : ℕ) (xs : List (ℕ × ℕ)). let web : Graph = record { nodes = n; ends = xs } in web)
      (omega (arith, none))
      (ends_again (segments_of g (crossings_of (edges_of g) ord) ord) 0 g.ends (λ i i_in.
      let from : 0 + i ≡ i = omega arith in
      ap (segments_of g (crossings_of (edges_of g) ord) ord) from
      ∙ ap (λ xs. segments_through (ends_at g.ends i).0 (map (crossing_node g.nodes (crossings_of (edges_of g) ord) i) xs) (ends_at g.ends i).1) (no_order i)))
    where
      ends_again : (f : ℕ → List (ℕ × ℕ)) (a : ℕ) (xs : List (ℕ × ℕ)) → ((i : ℕ) → i < length xs → f (a + i) ≡ ends_at xs i ∷ []) → flat_map f (range_with_len a (length xs)) ≡ xs
      ends_again f a [] each = refl
      ends_again f a (x ∷ xs) each =
          let from : a + 0 ≡ a = omega arith in
          ap₂ ◌++◌ (ap f (sym from) ∙ each 0 (omega arith)) (ends_again f (a + 1) xs (λ i i_in.
          let on : a + 1 + i ≡ a + suc i = omega arith in
          ap f on ∙ each (suc i) (omega (arith, i_in))))

pub flat_where_none_cross : (g : Graph) (ord : ℕ → List ℕ) (next : ℕ → ℕ) → IsSimpleDrawing g ord next → crossing_count g ord ≡ 0 → IsFlat g next
flat_where_none_cross g ord next drawing none =
    let P : Graph → Type 0 = λ web. IsFlat web next in
    subst P (same_web g ord drawing.orders none) drawing.is_flat_map
