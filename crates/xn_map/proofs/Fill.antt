-- Darts that take the places of others.
use Rattle.std.proofs.Common.{◌≡◌, ◌≢◌, ℕ, suc, ◌+◌, ◌*◌, ◌/◌, ◌%◌, ◌<◌, ◌⊎◌, inl, inr, cond, eqb, List, length, refl, sym, ◌∙◌, ap, arith}
use Rattle.std.proofs.lemmas.Bool.{cases_eq, cond-true, cond-false, eq-eqb, ne_eqb}
use Rattle.xn_model.specs.Lists.{at}
use Rattle.xn_model.specs.Permutation.{IsSplice, Permutes}
use Rattle.xn_genus.specs.Deletion.{dart_before}
use Rattle.xn_map.specs.Changes.{IsFilled, IsOut, TakesPlace, new_name}

-- before is what leads to x: it leads to d, and d to where x led
module _ (n x d before : ℕ) (old mid new : ℕ → ℕ) (x_in : x < n) (d_in : d < n) (other : x ≢ d) (before_in : before < n) (leads : old before ≡ x) (alone : old d ≡ d) (permutes : Permutes n old)
    (one : IsSplice n before d old mid) (two : IsSplice n d x mid new) where
  abbrev goes_to : ℕ → ℕ
  goes_to y = cond (eqb y x) x (new_name x d (old (cond (eqb y d) x y)))

  name_x : new_name x d x ≡ d
  name_x = cond-true _ _ _ (eq-eqb x x refl)

  name_other : (z : ℕ) → z ≢ x → new_name x d z ≡ z
  name_other z not_x = cond-false _ _ _ (ne_eqb z x not_x)

  goes_x : goes_to x ≡ x
  goes_x = cond-true _ _ _ (eq-eqb x x refl)

  goes_d : goes_to d ≡ new_name x d (old x)
  goes_d = cond-false _ _ _ (ne_eqb d x (λ same. other (sym same))) ∙ ap (λ z. new_name x d (old z)) (cond-true _ _ _ (eq-eqb d d refl))

  goes_other : (y : ℕ) → y ≢ x → y ≢ d → goes_to y ≡ new_name x d (old y)
  goes_other y not_x not_d = cond-false _ _ _ (ne_eqb y x not_x) ∙ ap (λ z. new_name x d (old z)) (cond-false _ _ _ (ne_eqb y d not_d))

  before_other : before ≢ d
  before_other same = other (sym leads ∙ ap old same ∙ alone)

  mid_before : mid before ≡ d
  mid_before = one.first ∙ alone

  mid_d : mid d ≡ x
  mid_d = one.second ∙ leads

  pub place_taken : (y : ℕ) → y < n → new y ≡ goes_to y
  place_taken y y_in = elim (cases_eq y x) [
    | inl at_x ↦ ap new at_x ∙ two.second ∙ mid_d ∙ sym (ap goes_to at_x ∙ goes_x)
    | inr not_x ↦ elim (cases_eq y d) [
      | inl at_d ↦ ap new at_d ∙ two.first ∙ mid_x ∙ sym (ap goes_to at_d ∙ goes_d)
      | inr not_d ↦ two.others y y_in not_d not_x ∙ mid_other y y_in not_x not_d ∙ sym (goes_other y not_x not_d)
    ]
  ]
    where
      mid_x : mid x ≡ new_name x d (old x)
      mid_x = elim (cases_eq before x) [
        | inl ring ↦
            let round : old x ≡ x = ap old (sym ring) ∙ leads in
            ap mid (sym ring) ∙ mid_before ∙ sym (ap (new_name x d) round ∙ name_x)
        | inr away ↦
            let moves : old x ≢ x = λ same. away (permutes.apart before x before_in x_in (leads ∙ sym same)) in
            one.others x x_in (λ same. away (sym same)) other ∙ sym (name_other (old x) moves)
      ]

      mid_other : (y : ℕ) → y < n → y ≢ x → y ≢ d → mid y ≡ new_name x d (old y)
      mid_other y y_in not_x not_d = elim (cases_eq y before) [
        | inl at_before ↦ ap mid at_before ∙ mid_before ∙ sym (ap (λ z. new_name x d (old z)) at_before ∙ ap (new_name x d) leads ∙ name_x)
        | inr not_before ↦
            let moves : old y ≢ x = λ same. not_before (permutes.apart y before y_in before_in (same ∙ sym leads)) in
            one.others y y_in not_before not_d ∙ sym (name_other (old y) moves)
      ]

-- the two darts of the last segment take the places of those of s
module _ (s last : ℕ) (old half new : List ℕ) (out : IsOut s last old) (differ : s ≢ last)
    (one : TakesPlace (2 * last) (2 * s) old half) (two : TakesPlace (2 * last + 1) (2 * s + 1) half new) where
  abbrev x : ℕ
  x = 2 * last

  abbrev y : ℕ
  y = 2 * last + 1

  abbrev e : ℕ → ℕ
  e = dart_before s last

  low : s < last
  low = omega (arith, out.is_there, differ)

  half_in : (d : ℕ) → d < 2 * last + 2 → d < length old
  half_in d d_in = omega (arith, d_in, out.size)

  half_x : at half x ≡ x
  half_x = one.1 x (half_in x (omega arith)) ∙ cond-true _ _ _ (eq-eqb x x refl)

  half_d : at half (2 * s) ≡ new_name x (2 * s) (at old x)
  half_d =
      one.1 (2 * s) (half_in (2 * s) (omega (arith, low))) ∙ cond-false _ _ _ (ne_eqb (2 * s) x (λ same. omega (arith, same, low)))
      ∙ ap (λ z. new_name x (2 * s) (at old z)) (cond-true _ _ _ (eq-eqb (2 * s) (2 * s) refl))

  half_other : (d : ℕ) → d < 2 * last + 2 → d ≢ x → d ≢ 2 * s → at half d ≡ new_name x (2 * s) (at old d)
  half_other d d_in not_x not_d =
      one.1 d (half_in d d_in) ∙ cond-false _ _ _ (ne_eqb d x not_x) ∙ ap (λ z. new_name x (2 * s) (at old z)) (cond-false _ _ _ (ne_eqb d (2 * s) not_d))

  wide_in : (d : ℕ) → d < 2 * last + 2 → d < length half
  wide_in d d_in = omega (arith, d_in, out.size, one.0)

  new_y : at new y ≡ y
  new_y = two.1 y (wide_in y (omega arith)) ∙ cond-true _ _ _ (eq-eqb y y refl)

  new_second : at new (2 * s + 1) ≡ new_name y (2 * s + 1) (at half y)
  new_second =
      two.1 (2 * s + 1) (wide_in (2 * s + 1) (omega (arith, low))) ∙ cond-false _ _ _ (ne_eqb (2 * s + 1) y (λ same. omega (arith, same, low)))
      ∙ ap (λ z. new_name y (2 * s + 1) (at half z)) (cond-true _ _ _ (eq-eqb (2 * s + 1) (2 * s + 1) refl))

  new_other : (d : ℕ) → d < 2 * last + 2 → d ≢ y → d ≢ 2 * s + 1 → at new d ≡ new_name y (2 * s + 1) (at half d)
  new_other d d_in not_y not_d =
      two.1 d (wide_in d d_in) ∙ cond-false _ _ _ (ne_eqb d y not_y) ∙ ap (λ z. new_name y (2 * s + 1) (at half z)) (cond-false _ _ _ (ne_eqb d (2 * s + 1) not_d))

  cases_name : (a b z : ℕ) → ((z ≡ a) × (new_name a b z ≡ b)) ⊎ ((z ≢ a) × (new_name a b z ≡ z))
  cases_name a b z = elim (cases_eq z a) [
    | inl here ↦ inl (here, cond-true _ _ _ (eq-eqb z a here))
    | inr other ↦ inr (other, cond-false _ _ _ (ne_eqb z a other))
  ]

  cases_e : (d : ℕ) → ((d / 2 ≡ s) × (e d ≡ 2 * last + d % 2)) ⊎ ((d / 2 ≢ s) × (e d ≡ d))
  cases_e d = elim (cases_eq (d / 2) s) [
    | inl here ↦ inl (here, cond-true _ _ _ (eq-eqb _ _ here))
    | inr other ↦ inr (other, cond-false _ _ _ (ne_eqb _ _ other))
  ]

  e_in : (d : ℕ) → d < 2 * last → e d < 2 * last + 2
  e_in d d_in = omega (arith, cases_e d, d_in)

  -- where dart d goes
  abbrev named : ℕ → ℕ
  named z = new_name y (2 * s + 1) (new_name x (2 * s) z)

  new_is : (d : ℕ) → d < 2 * last → at new d ≡ named (at old (e d))
  new_is d d_in = elim (cases_eq d (2 * s + 1)) [
    | inl second ↦
        let here : e d ≡ y = omega (arith, cases_e d, second) in
        ap (at new) second ∙ new_second ∙ ap (new_name y (2 * s + 1)) (half_other y (omega arith) (λ same. omega (arith, same)) (λ same. omega (arith, same)))
        ∙ ap (λ z. named (at old z)) (sym here)
    | inr not_second ↦ elim (cases_eq d (2 * s)) [
      | inl first ↦
          let here : e d ≡ x = omega (arith, cases_e d, first) in
          new_other d (omega (arith, d_in)) (λ same. omega (arith, same, d_in)) not_second
          ∙ ap (new_name y (2 * s + 1)) (ap (at half) first ∙ half_d) ∙ ap (λ z. named (at old z)) (sym here)
      | inr not_first ↦
          let here : e d ≡ d = omega (arith, cases_e d, not_first, not_second) in
          new_other d (omega (arith, d_in)) (λ same. omega (arith, same, d_in)) not_second
          ∙ ap (new_name y (2 * s + 1)) (half_other d (omega (arith, d_in)) (λ same. omega (arith, same, d_in)) not_first) ∙ ap (λ z. named (at old z)) (sym here)
    ]
  ]

  -- it goes to no dart of s
  target : (d : ℕ) → d < 2 * last → (at old (e d) < 2 * last + 2) × (at old (e d) ≢ 2 * s) × (at old (e d) ≢ 2 * s + 1)
  target d d_in =
      let from = half_in (e d) (e_in d d_in) in
      let wide = out.permutes.below (e d) from in (
        omega (arith, wide, out.size),
        (λ hit. let one = out.permutes.apart (e d) (2 * s) from (omega (arith, out.size, low)) (hit ∙ sym out.first_alone) in omega (arith, one, cases_e d, d_in, low)),
        (λ hit. let one = out.permutes.apart (e d) (2 * s + 1) from (omega (arith, out.size, low)) (hit ∙ sym out.second_alone) in omega (arith, one, cases_e d, d_in, low)),
      )

  e_named : (z : ℕ) → z < 2 * last + 2 → z ≢ 2 * s → z ≢ 2 * s + 1 → (e (named z) ≡ z) × (named z < 2 * last)
  e_named z z_in not_first not_second =
      let inner = cases_name x (2 * s) z in
      let outer = cases_name y (2 * s + 1) (new_name x (2 * s) z) in
      let back = cases_e (named z) in (
        omega (arith, z_in, not_first, not_second, inner, outer, back, low),
        omega (arith, z_in, not_first, not_second, inner, outer, low),
      )

  pub filled : IsFilled s last old new
  filled = record {
    same_length = two.0 ∙ one.0;
    turns = λ d d_in. let t = target d d_in in ap e (new_is d d_in) ∙ (e_named (at old (e d)) t.0 t.1 t.2).0;
    below = λ d d_in. let t = target d d_in in let small = (e_named (at old (e d)) t.0 t.1 t.2).1 in omega (arith, new_is d d_in, small);
    first_alone =
        new_other x (omega arith) (λ same. omega (arith, same)) (λ same. omega (arith, same, low)) ∙ ap (new_name y (2 * s + 1)) half_x
        ∙ cond-false _ _ _ (ne_eqb x y (λ same. omega (arith, same)));
    second_alone = new_y;
  }

  -- the first exchange leaves a permutation
  pub half_second : at half (2 * s + 1) ≡ 2 * s + 1
  half_second =
      half_other (2 * s + 1) (omega (arith, low)) (λ same. omega (arith, same, low)) (λ same. omega (arith, same)) ∙ ap (new_name x (2 * s)) out.second_alone
      ∙ cond-false _ _ _ (ne_eqb (2 * s + 1) x (λ same. omega (arith, same)))

pub dart_before_in : (s last d : ℕ) → d < 2 * last → dart_before s last d < 2 * suc last
dart_before_in s last d d_in = elim (cases_eq (d / 2) s) [
  | inl here ↦ omega (arith, cond-true (eqb (d / 2) s) (2 * last + d % 2) d (eq-eqb _ _ here))
  | inr other ↦ omega (arith, cond-false (eqb (d / 2) s) (2 * last + d % 2) d (ne_eqb _ _ other), d_in)
]
