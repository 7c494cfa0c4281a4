-- The darts along a path of segments.
use Rattle.std.proofs.Common.{◌≡◌, ℕ, ◌+◌, ◌*◌, ◌/◌, ◌≤◌, ◌⊎◌, inl, inr, true, false, cond, eqb, List, [], ◌∷◌, refl, sym, ◌∙◌, ap, subst, arith}
use Rattle.std.proofs.lemmas.Bool.{cases_Bool, both_ways, or_cases, or_left, or_right, eqb-true, eq-eqb, cond-true, cond-false}
use Rattle.xn_model.specs.Evidence.{LeadsTo, far_end, inner_nodes}
use Rattle.xn_model.specs.Graph.{ends_at, touches}
use Rattle.xn_model.specs.Lists.{has, one_if}
use Rattle.xn_model.specs.Map.{face_step, reverse_of, tail_of}
use Rattle.xn_model.specs.Permutation.{Reaches}
use Rattle.xn_ring.proofs.Orbits.{reaches_trans}
use Rattle.xn_kura.proofs.Tally.{count_if}
use Rattle.xn_model.proofs.Darts.{cases_dart, reverse-even, reverse-odd, reverse-reverse, tail-even, tail-odd}

module _ (ends : List (ℕ × ℕ)) where
  -- the dart of s that leaves u, and the node that it leads to
  abbrev pub out : ℕ → ℕ → ℕ
  out u s = cond (eqb (ends_at ends s).0 u) (2 * s) (2 * s + 1)

  abbrev pub far : ℕ → ℕ → ℕ
  far u s = far_end (ends_at ends s) u

  pub out_facts : (u s : ℕ) → touches (ends_at ends s) u ≡ true →
      (tail_of ends (out u s) ≡ u) × (tail_of ends (reverse_of (out u s)) ≡ far u s) × (out u s / 2 ≡ s) × (reverse_of (out u s) / 2 ≡ s) × (out u s ≤ 2 * s + 1) × (reverse_of (out u s) ≤ 2 * s + 1)
  out_facts u s t = elim (cases_Bool (eqb (ends_at ends s).0 u)) [
    | inl at_first ↦
        let is : out u s ≡ 2 * s = cond-true _ _ _ at_first in
        let rev : reverse_of (out u s) ≡ 2 * s + 1 = ap reverse_of is ∙ reverse-even s in (
          ap (tail_of ends) is ∙ tail-even ends s ∙ eqb-true _ _ at_first,
          ap (tail_of ends) rev ∙ tail-odd ends s ∙ sym (cond-true _ _ _ at_first),
          omega arith,
          omega arith,
          omega arith,
          omega arith,
        )
    | inr not_first ↦
        let is : out u s ≡ 2 * s + 1 = cond-false _ _ _ not_first in
        let rev : reverse_of (out u s) ≡ 2 * s = ap reverse_of is ∙ reverse-odd s in
        let second : (ends_at ends s).1 ≡ u = elim (or_cases (eqb (ends_at ends s).0 u) (eqb (ends_at ends s).1 u) t) [
          | inl first ↦ absurd (both_ways _ not_first first)
          | inr at_second ↦ eqb-true _ _ at_second
        ] in (
          ap (tail_of ends) is ∙ tail-odd ends s ∙ second,
          ap (tail_of ends) rev ∙ tail-even ends s ∙ sym (cond-false _ _ _ not_first),
          omega arith,
          omega arith,
          omega arith,
          omega arith,
        )
  ]

  -- both darts of each segment of a path
  abbrev pub darts : ℕ → List ℕ → List ℕ
  darts u [] = []
  darts u (s ∷ path) = out u s ∷ reverse_of (out u s) ∷ darts (far u s) path

  abbrev pub start_of : ℕ → List ℕ → ℕ
  start_of u [] = 0
  start_of u (s ∷ path) = out u s

  abbrev pub last_of : ℕ → List ℕ → ℕ
  last_of u [] = 0
  last_of u (s ∷ []) = out u s
  last_of u (s ∷ t ∷ path) = last_of (far u s) (t ∷ path)

  pub last_tail : (u v s : ℕ) (path : List ℕ) → LeadsTo ends u (s ∷ path) v → tail_of ends (reverse_of (last_of u (s ∷ path))) ≡ v
  last_tail u v s [] leads = (out_facts u s leads.1).1 ∙ leads.2
  last_tail u v s (t ∷ path) leads = last_tail (far u s) v t path leads.2

  -- a dart of a segment of the path
  pub dart_on : (u v : ℕ) (path : List ℕ) → LeadsTo ends u path v → (z : ℕ) → has path (z / 2) ≡ true → has (darts u path) z ≡ true
  dart_on u v [] leads z h = absurd (both_ways false refl h)
  dart_on u v (s ∷ path) leads z h = elim (or_cases (eqb s (z / 2)) (has path (z / 2)) h) [
    | inl here ↦
        let same : s ≡ z / 2 = eqb-true _ _ here in
        let rest = has (darts (far u s) path) z in
        let c = cases_dart z in
        let first_or_second : (z ≡ 2 * s) ⊎ (z ≡ 2 * s + 1) = elim c.1 [ inl even ↦ inl (omega (arith, same, even)) | inr odd ↦ inr (omega (arith, same, odd)) ] in
        elim (cases_Bool (eqb (ends_at ends s).0 u)) [
          | inl at_first ↦
              let is : out u s ≡ 2 * s = cond-true _ _ _ at_first in
              elim first_or_second [
                | inl even ↦ or_left (eqb (out u s) z) _ (eq-eqb _ _ (is ∙ sym even))
                | inr odd ↦ or_right (eqb (out u s) z) _ (or_left (eqb (reverse_of (out u s)) z) rest (eq-eqb _ _ (ap reverse_of is ∙ reverse-even s ∙ sym odd)))
              ]
          | inr not_first ↦
              let is : out u s ≡ 2 * s + 1 = cond-false _ _ _ not_first in
              elim first_or_second [
                | inl even ↦ or_right (eqb (out u s) z) _ (or_left (eqb (reverse_of (out u s)) z) rest (eq-eqb _ _ (ap reverse_of is ∙ reverse-odd s ∙ sym even)))
                | inr odd ↦ or_left (eqb (out u s) z) _ (eq-eqb _ _ (is ∙ sym odd))
              ]
        ]
    | inr later ↦ or_right (eqb (out u s) z) _ (or_right (eqb (reverse_of (out u s)) z) _ (dart_on (far u s) v path leads.2 z later))
  ]

  -- how many darts of the path leave a node
  pub count_at : (w u v s : ℕ) (path : List ℕ) → LeadsTo ends u (s ∷ path) v →
      count_if (λ z. eqb (tail_of ends z) w) (darts u (s ∷ path)) ≡ one_if (eqb u w) + 2 * count_if (λ x. eqb x w) (inner_nodes ends u (s ∷ path)) + one_if (eqb v w)
  count_at w u v s [] leads =
      let facts = out_facts u s leads.1 in
      let first : one_if (eqb (tail_of ends (out u s)) w) ≡ one_if (eqb u w) = ap (λ x. one_if (eqb x w)) facts.0 in
      let second : one_if (eqb (tail_of ends (reverse_of (out u s))) w) ≡ one_if (eqb v w) = ap (λ x. one_if (eqb x w)) (facts.1 ∙ leads.2) in
      omega (arith, first, second)
  count_at w u v s (t ∷ path) leads =
      let facts = out_facts u s leads.1 in
      let first : one_if (eqb (tail_of ends (out u s)) w) ≡ one_if (eqb u w) = ap (λ x. one_if (eqb x w)) facts.0 in
      let second : one_if (eqb (tail_of ends (reverse_of (out u s))) w) ≡ one_if (eqb (far u s) w) = ap (λ x. one_if (eqb x w)) facts.1 in
      omega (arith, first, second, count_at w (far u s) v t path leads.2)

  -- a dart of the path leaves an end or an inner node
  pub dart_cases : (u v s : ℕ) (path : List ℕ) → LeadsTo ends u (s ∷ path) v → (z : ℕ) → has (darts u (s ∷ path)) z ≡ true →
      (z ≡ start_of u (s ∷ path)) ⊎ ((z ≡ reverse_of (last_of u (s ∷ path))) ⊎ (has (inner_nodes ends u (s ∷ path)) (tail_of ends z) ≡ true))
  dart_cases u v s [] leads z h = elim (or_cases (eqb (out u s) z) _ h) [
    | inl first ↦ inl (sym (eqb-true _ _ first))
    | inr more ↦ elim (or_cases (eqb (reverse_of (out u s)) z) false more) [
      | inl second ↦ inr (inl (sym (eqb-true _ _ second)))
      | inr none ↦ absurd (both_ways false refl none)
    ]
  ]
  dart_cases u v s (t ∷ path) leads z h =
      let facts = out_facts u s leads.1 in
      let w = far u s in
      let inside : tail_of ends z ≡ w → has (inner_nodes ends u (s ∷ t ∷ path)) (tail_of ends z) ≡ true = λ e. or_left (eqb w (tail_of ends z)) _ (eq-eqb _ _ (sym e)) in
      elim (or_cases (eqb (out u s) z) _ h) [
        | inl first ↦ inl (sym (eqb-true _ _ first))
        | inr more ↦ elim (or_cases (eqb (reverse_of (out u s)) z) (has (darts w (t ∷ path)) z) more) [
          | inl second ↦ inr (inr (inside (ap (tail_of ends) (sym (eqb-true _ _ second)) ∙ facts.1)))
          | inr later ↦ elim (dart_cases w v t path leads.2 z later) [
            | inl at_start ↦ inr (inr (inside (ap (tail_of ends) at_start ∙ (out_facts w t leads.2.1).0)))
            | inr (inl at_last) ↦ inr (inl at_last)
            | inr (inr at_inner) ↦ inr (inr (or_right (eqb w (tail_of ends z)) _ at_inner))
          ]
        ]
      ]

  -- at each inner node the map leads on along the path, both ways
  abbrev pub Turns : (ℕ → ℕ) → ℕ → List ℕ → Type 0
  Turns next u [] = Unit {0}
  Turns next u (s ∷ []) = Unit {0}
  Turns next u (s ∷ t ∷ path) =
      (next (reverse_of (out u s)) ≡ out (far u s) t) × (next (out (far u s) t) ≡ reverse_of (out u s)) × Turns next (far u s) (t ∷ path)

  module _ (next : ℕ → ℕ) where
    abbrev face : ℕ → ℕ
    face = face_step next

    pub goes : (u s : ℕ) (path : List ℕ) → Turns next u (s ∷ path) → Reaches face (out u s) (last_of u (s ∷ path))
    goes u s [] turns = (0, refl)
    goes u s (t ∷ path) turns = reaches_trans face (out u s) (out (far u s) t) _ (1, turns.0) (goes (far u s) t path turns.2)

    pub comes : (u s : ℕ) (path : List ℕ) → Turns next u (s ∷ path) → Reaches face (reverse_of (last_of u (s ∷ path))) (reverse_of (out u s))
    comes u s [] turns = (0, refl)
    comes u s (t ∷ path) turns =
        let step : face (reverse_of (out (far u s) t)) ≡ reverse_of (out u s) = ap next (reverse-reverse (out (far u s) t)) ∙ turns.1 in
        reaches_trans face _ (reverse_of (out (far u s) t)) _ (comes (far u s) t path turns.2) (1, step)

    pub from_any : (u s : ℕ) (path : List ℕ) → Turns next u (s ∷ path) → (z : ℕ) → has (darts u (s ∷ path)) z ≡ true →
        Reaches face z (last_of u (s ∷ path)) ⊎ Reaches face z (reverse_of (out u s))
    from_any u s [] turns z h = elim (or_cases (eqb (out u s) z) _ h) [
      | inl first ↦ inl (0, sym (eqb-true _ _ first))
      | inr more ↦ elim (or_cases (eqb (reverse_of (out u s)) z) false more) [
        | inl second ↦ inr (0, sym (eqb-true _ _ second))
        | inr none ↦ absurd (both_ways false refl none)
      ]
    ]
    from_any u s (t ∷ path) turns z h =
        let step : face (reverse_of (out (far u s) t)) ≡ reverse_of (out u s) = ap next (reverse-reverse (out (far u s) t)) ∙ turns.1 in
        elim (or_cases (eqb (out u s) z) _ h) [
          | inl first ↦ inl (let P : ℕ → Type 0 = λ x. Reaches face x (last_of u (s ∷ t ∷ path)) in subst P (eqb-true _ _ first) (goes u s (t ∷ path) turns))
          | inr more ↦ elim (or_cases (eqb (reverse_of (out u s)) z) (has (darts (far u s) (t ∷ path)) z) more) [
            | inl second ↦ inr (0, sym (eqb-true _ _ second))
            | inr later ↦ elim (from_any (far u s) t path turns.2 z later) [
              | inl on ↦ inl on
              | inr back ↦ inr (reaches_trans face z (reverse_of (out (far u s) t)) _ back (1, step))
            ]
          ]
        ]
