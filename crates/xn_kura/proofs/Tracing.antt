-- A trace goes along the straight path that it begins.
use Rattle.std.proofs.Common.{◌≡◌, ◌≢◌, ℕ, ◌+◌, ◌*◌, ◌/◌, ◌<◌, ◌≤◌, ◌||◌, ◌⊎◌, inl, inr, true, false, eqb, get_or, take, drop, List, [], ◌∷◌, ◌++◌, length, refl, sym, ◌∙◌, ap, subst, arith}
use Rattle.std.specs.List.{IsDistinct}
use Rattle.std.proofs.Math.ListN.{drop_of_length-le}
use Rattle.std.proofs.lemmas.Bool.{cases_eq, cases_lt, both_ways, eqb-true, eq-eqb, or_cases, or_left, or_right}
use Rattle.std.proofs.lemmas.List.{take_more, take_all}
use Rattle.xn_model.specs.Evidence.{LeadsTo, far_end, inner_nodes}
use Rattle.xn_model.specs.Graph.{Graph, ends_at, touches}
use Rattle.xn_model.specs.Lists.{at, has}
use Rattle.xn_model.specs.Map.{reverse_of, tail_of}
use Rattle.xn_model.proofs.Counts.{count-not}
use Rattle.xn_kura.proofs.Distinct.{positions_apart}
use Rattle.xn_kura.proofs.Path.{out, out_facts}
use Rattle.xn_kura.proofs.Tally.{distinct-le}
use Rattle.xn_kura.proofs.Walking.{inner_step, step}
use Rattle.xn_kura.specs.Straight.{IsStraight}
use Rattle.xn_model.specs.Loose.{dart_count}
use Rattle.xn_graph.specs.Stars.{darts_of}
use Rattle.xn_graph.proofs.DartsOf.{darts_of-at, darts_of-has, length-darts_of}

-- ---- the other dart

-- the darts at a node are as many as it has
pub star_count : (web stars : Graph) (v : ℕ) (star : List ℕ) → stars ≡ web → star ≡ darts_of stars.ends v → length star ≡ dart_count web.ends v
star_count web stars v star same is = ap length is ∙ ap (λ (g : Graph). length (darts_of g.ends v)) same ∙ length-darts_of web.ends v

pub star_two : (web stars : Graph) (v d : ℕ) (star : List ℕ) → stars ≡ web → v ≡ tail_of web.ends d → star ≡ darts_of stars.ends v → dart_count web.ends (tail_of web.ends d) ≡ 2 → length star ≡ 2
star_two web stars v d star same v_is is two = star_count web stars v star same is ∙ ap (dart_count web.ends) v_is ∙ two

-- and each is a dart
pub star_below : (web stars : Graph) (v : ℕ) (star : List ℕ) (k : ℕ) → stars ≡ web → star ≡ darts_of stars.ends v → k < length star → at star k < 2 * length web.ends
star_below web stars v star k same is low =
    let of : star ≡ darts_of web.ends v = is ∙ ap (λ (g : Graph). darts_of g.ends v) same in
    let there = darts_of-at web.ends v k (omega (arith, low, ap length of)) in
    omega (arith, there.0, ap (λ (l : List ℕ). at l k) of)

-- of two elements the one that is not d
other_of : (star : List ℕ) (d z : ℕ) → length star ≡ 2 → has star d ≡ true → has star z ≡ true → z ≢ d →
    ((at star 0 ≡ d) × (at star 1 ≡ z)) ⊎ ((at star 0 ≢ d) × (at star 0 ≡ z))
other_of [] d z two d_in z_in apart = absurd (omega (arith, two))
other_of (a ∷ []) d z two d_in z_in apart = absurd (omega (arith, two))
other_of (a ∷ b ∷ c ∷ xs) d z two d_in z_in apart = absurd (omega (arith, two))
other_of (a ∷ b ∷ []) d z two d_in z_in apart = elim (cases_eq a d) [
  | inl first ↦ inl (
    first,
    elim (or_cases (eqb a z) (eqb b z || false) z_in) [
      | inl same ↦ absurd (apart (sym (eqb-true a z same) ∙ first))
      | inr more ↦ elim (or_cases (eqb b z) false more) [ inl same ↦ eqb-true b z same | inr none ↦ absurd (both_ways false refl none) ]
    ],
  )
  | inr other ↦ inr (
    other,
    elim (or_cases (eqb a z) (eqb b z || false) z_in) [
      | inl same ↦ eqb-true a z same
      | inr more ↦ elim (or_cases (eqb b z) false more) [
        | inl same ↦ elim (or_cases (eqb a d) (eqb b d || false) d_in) [
          | inl here ↦ absurd (other (eqb-true a d here))
          | inr there ↦ elim (or_cases (eqb b d) false there) [
            | inl here ↦ absurd (apart (sym (eqb-true b z same) ∙ eqb-true b d here))
            | inr none ↦ absurd (both_ways false refl none)
          ]
        ]
        | inr none ↦ absurd (both_ways false refl none)
      ]
    ],
  )
]

pub other_at : (web stars : Graph) (v d z : ℕ) (star : List ℕ) → stars ≡ web → v ≡ tail_of web.ends d → star ≡ darts_of stars.ends v → dart_count web.ends (tail_of web.ends d) ≡ 2 →
    d < 2 * length web.ends → z < 2 * length web.ends → tail_of web.ends z ≡ tail_of web.ends d → z ≢ d →
    ((at star 0 ≡ d) × (at star 1 ≡ z)) ⊎ ((at star 0 ≢ d) × (at star 0 ≡ z))
other_at web stars v d z star same v_is is two d_in z_in z_at apart =
    let of : star ≡ darts_of web.ends (tail_of web.ends d) = is ∙ ap (λ (g : Graph). darts_of g.ends v) same ∙ ap (darts_of web.ends) v_is in
    other_of star d z (ap length of ∙ length-darts_of web.ends (tail_of web.ends d) ∙ two)
    (ap (λ (l : List ℕ). has l d) of ∙ darts_of-has web.ends (tail_of web.ends d) d d_in refl)
    (ap (λ (l : List ℕ). has l z) of ∙ darts_of-has web.ends (tail_of web.ends d) z z_in z_at) apart

-- ---- along the path

-- the dart stands at place k of the path to v, and what is before is done
pub record IsOnPath (ends : List (ℕ × ℕ)) (path : List ℕ) (v k dart : ℕ) (done : List ℕ) : Type 0 where
  pub node : ℕ
  pub before : k < length path
  pub passed : done ≡ take k path
  pub leads : LeadsTo ends node (drop k path) v
  pub here : dart ≡ out ends node (get_or path k 0)
  pub through : (w : ℕ) → has (inner_nodes ends node (drop k path)) w ≡ true → dart_count ends w ≡ 2

module _ (ends : List (ℕ × ℕ)) (path : List ℕ) (v k dart : ℕ) (done : List ℕ) (on : IsOnPath ends path v k dart done) where
  abbrev s : ℕ
  s = get_or path k 0

  abbrev w : ℕ
  w = far_end (ends_at ends s) on.node

  onward : (s < length ends) × (touches (ends_at ends s) on.node ≡ true) × LeadsTo ends w (drop (k + 1) path) v
  onward = step ends path k on.node on.before v on.leads

  facts : (tail_of ends (out ends on.node s) ≡ on.node) × (tail_of ends (reverse_of (out ends on.node s)) ≡ w) × (out ends on.node s / 2 ≡ s) × (reverse_of (out ends on.node s) / 2 ≡ s) × (out ends on.node s ≤ 2 * s + 1) × (reverse_of (out ends on.node s) ≤ 2 * s + 1)
  facts = out_facts ends on.node s onward.1

  -- the dart leads to the next node of the path
  pub next_node : tail_of ends (reverse_of dart) ≡ w
  next_node = ap (λ d. tail_of ends (reverse_of d)) on.here ∙ facts.1

  pub more_done : done ++ (dart / 2) ∷ [] ≡ take (k + 1) path
  more_done =
      let half : dart / 2 ≡ s = ap (λ d. d / 2) on.here ∙ facts.2 in
      ap (λ xs. xs ++ (dart / 2) ∷ []) on.passed ∙ ap (λ x. take k path ++ x ∷ []) half ∙ sym (take_more path k 0 on.before)

  next_inner : k + 1 < length path → dart_count ends w ≡ 2
  next_inner more =
      on.through w (ap (λ xs. has xs w) (inner_step ends path k on.node on.before more) ∙ or_left (eqb w w) (has (inner_nodes ends w (drop (k + 1) path)) w) (eq-eqb w w refl))

  -- where the next node has not two darts, the path ends there
  pub ends_here : dart_count ends w ≢ 2 → (w ≡ v) × (done ++ (dart / 2) ∷ [] ≡ path)
  ends_here stop = elim (cases_lt (k + 1) (length path)) [
    | inl more ↦ absurd (stop (next_inner more))
    | inr last ↦
        let none : drop (k + 1) path ≡ [] = drop_of_length-le path last in
        let P : List ℕ → Type 0 = λ xs. LeadsTo ends w xs v in
        (subst P none onward.2, more_done ∙ take_all (k + 1) path last)
  ]

  -- else it goes on by the other dart there
  pub goes_on : IsDistinct eqb path → dart_count ends v ≢ 2 → dart_count ends w ≡ 2 →
      (z : ℕ) × (z < 2 * length ends) × (tail_of ends z ≡ tail_of ends (reverse_of dart)) × (z ≢ reverse_of dart) × IsOnPath ends path v (k + 1) z (done ++ (dart / 2) ∷ [])
  goes_on once stops two = elim (cases_lt (k + 1) (length path)) [
    | inr last ↦
        let none : drop (k + 1) path ≡ [] = drop_of_length-le path last in
        let P : List ℕ → Type 0 = λ xs. LeadsTo ends w xs v in
        absurd (stops (ap (dart_count ends) (sym (subst P none onward.2)) ∙ two))
    | inl more ↦
        let t = get_or path (k + 1) 0 in
        let after = step ends path (k + 1) w more v onward.2 in
        let there = out_facts ends w t after.1 in
        let z = out ends w t in
        let apart : z ≢ reverse_of dart = λ same.
        let one : t ≡ s = sym there.2 ∙ ap (λ d. d / 2) same ∙ ap (λ d. reverse_of d / 2) on.here ∙ facts.3 in
        let place = positions_apart path once (k + 1) k more on.before one in
        omega (arith, place) in (
          z,
          omega (arith, there.4, after.0),
          there.0 ∙ sym next_node,
          apart,
          record {
            node = w;
            before = more;
            passed = more_done;
            leads = onward.2;
            here = refl;
            through = λ x x_in. on.through x (ap (λ xs. has xs x) (inner_step ends path k on.node on.before more) ∙ or_right (eqb w x) (has (inner_nodes ends w (drop (k + 1) path)) x) x_in);
          },
        )
  ]

-- a path is no longer than the web
pub straight_short : (ends : List (ℕ × ℕ)) (u : ℕ) (path : List ℕ) (v : ℕ) → IsStraight ends u path v → length path ≤ length ends
straight_short ends u path v straight =
    let few = distinct-le (length ends) (λ s. true) path straight.once (λ s s_in. (in_walk u v path straight.leads s s_in, refl)) in
    omega (arith, few, count-not (length ends) (λ s. true))
  where
    in_walk : (u v : ℕ) (path : List ℕ) → LeadsTo ends u path v → (s : ℕ) → has path s ≡ true → s < length ends
    in_walk u v [] leads s h = absurd (both_ways false refl h)
    in_walk u v (t ∷ path) leads s h = elim (or_cases (eqb t s) (has path s) h) [
      | inl here ↦ let same : t ≡ s = eqb-true t s here in omega (arith, leads.0, same)
      | inr later ↦ in_walk (far_end (ends_at ends t) u) v path leads.2 s later
    ]
