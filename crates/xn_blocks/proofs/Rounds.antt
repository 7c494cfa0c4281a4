-- Segments that lie on a common cycle.
use Rattle.std.proofs.Common.{◌≡◌, ℕ, ◌*◌, ◌<◌, inl, inr, List, [], ◌∷◌, ◌++◌, length, refl, sym, ◌∙◌, ap, subst, arith}
use Rattle.std.proofs.lemmas.Bool.{cases_eq}
use Rattle.xn_model.specs.Map.{WalksTo, tail_of}
use Rattle.xn_blocks.proofs.Members.{In, in_here, in_later, in_cases, in_none, decide_in, distinct_more, first_apart}
use Rattle.xn_blocks.proofs.Paths.{trail, IsPath}
use Rattle.xn_blocks.proofs.Arcs.{tails, head, trail_cases, start_in, rest_path, path_none}

module _ (ends : List (ℕ × ℕ)) where
  -- a path cut at a node
  pub path_split : (u : ℕ) (ds : List ℕ) (v x : ℕ) → IsPath ends u ds v → In x (trail ends ds v)
      → (fs gs : List ℕ) × (ds ≡ fs ++ gs) × IsPath ends u fs x × IsPath ends x gs v × ((y : ℕ) → In y (tails ends fs) → In y (trail ends gs v) → ⊥)
      × ((y : ℕ) → In y (trail ends fs x) → In y (trail ends ds v)) × ((y : ℕ) → In y (trail ends gs v) → In y (trail ends ds v))
  path_split u [] v x path there = elim (in_cases x v [] there) [
    | inr none ↦ absurd (in_none x none)
    | inl at_v ↦
        let P : ℕ → Type 0 = λ z. IsPath ends z [] x in
        let Q : ℕ → Type 0 = λ z. IsPath ends x [] z in (
          [],
          [],
          refl,
          subst P (at_v ∙ sym path.walks) (path_none ends x),
          subst Q at_v (path_none ends x),
          (λ y none. absurd (in_none y none)),
          (λ y here. elim (in_cases y x [] here) [ inl same ↦ in_here y v [] (same ∙ at_v) | inr none ↦ absurd (in_none y none) ]),
          (λ y here. here),
        )
  ]
  path_split u (d ∷ ds) v x path there =
      let t = tail_of ends d in
      elim (cases_eq x t) [
        | inl same ↦
            let P : ℕ → Type 0 = λ z. IsPath ends z [] x in (
              [],
              d ∷ ds,
              refl,
              subst P (same ∙ path.walks.1) (path_none ends x),
              record { walks = (path.walks.0, sym same, path.walks.2); distinct = path.distinct },
              (λ y none. absurd (in_none y none)),
              (λ y here. elim (in_cases y x [] here) [ inl at_x ↦ in_here y t (trail ends ds v) (at_x ∙ same) | inr none ↦ absurd (in_none y none) ]),
              (λ y here. here),
            )
        | inr other ↦
            let later : In x (trail ends ds v) = elim (in_cases x t (trail ends ds v) there) [ inl here ↦ absurd (other here) | inr on ↦ on ] in
            let rest = path_split (head ends d) ds v x (rest_path ends u d ds v path) later in
            let fs = rest.0 in
            let gs = rest.1 in
            let t_free : In t (trail ends ds v) → ⊥ = first_apart t (trail ends ds v) path.distinct in (
              d ∷ fs,
              gs,
              ap (λ zs. d ∷ zs) rest.2,
              record { walks = (path.walks.0, path.walks.1, rest.3.walks); distinct = distinct_more t (trail ends fs x) (λ here. t_free (rest.6 t here)) rest.3.distinct },
              rest.4,
              (λ y front back. elim (in_cases y t (tails ends fs) front) [
                | inl here ↦ let P : ℕ → Type 0 = λ z. In z (trail ends ds v) in t_free (subst P here (rest.7 y back))
                | inr on ↦ rest.5 y on back
              ]),
              (λ y here. elim (in_cases y t (trail ends fs x) here) [
                | inl first ↦ in_here y t (trail ends ds v) first
                | inr on ↦ in_later y t (trail ends ds v) (rest.6 y on)
              ]),
              (λ y here. in_later y t (trail ends ds v) (rest.7 y here)),
            )
      ]

  -- a path cut at its first node of a list
  pub first_hit : (u : ℕ) (ds : List ℕ) (v : ℕ) (goals : List ℕ) → IsPath ends u ds v → In v goals
      → (x : ℕ) × (fs : List ℕ) × IsPath ends u fs x × In x goals × ((y : ℕ) → In y (tails ends fs) → In y goals → ⊥) × ((y : ℕ) → In y (trail ends fs x) → In y (trail ends ds v))
  first_hit u [] v goals path there = (v, [], path, there, (λ y none. absurd (in_none y none)), (λ y here. here))
  first_hit u (d ∷ ds) v goals path there =
      let t = tail_of ends d in
      elim (decide_in t goals) [
        | inl hit ↦
            let P : ℕ → Type 0 = λ z. IsPath ends z [] t in (
              t,
              [],
              subst P path.walks.1 (path_none ends t),
              hit,
              (λ y none. absurd (in_none y none)),
              (λ y here. elim (in_cases y t [] here) [ inl same ↦ in_here y t (trail ends ds v) same | inr none ↦ absurd (in_none y none) ]),
            )
        | inr free ↦
            let rest = first_hit (head ends d) ds v goals (rest_path ends u d ds v path) there in
            let x = rest.0 in
            let fs = rest.1 in (
              x,
              d ∷ fs,
              record { walks = (path.walks.0, path.walks.1, rest.2.walks); distinct = distinct_more t (trail ends fs x) (λ here. first_apart t (trail ends ds v) path.distinct (rest.5 t here)) rest.2.distinct },
              rest.3,
              (λ y front goal. elim (in_cases y t (tails ends fs) front) [
                | inl here ↦ let P : ℕ → Type 0 = λ z. In z goals in free (subst P here goal)
                | inr on ↦ rest.4 y on goal
              ]),
              (λ y here. elim (in_cases y t (trail ends fs x) here) [
                | inl first ↦ in_here y t (trail ends ds v) first
                | inr on ↦ in_later y t (trail ends ds v) (rest.5 y on)
              ]),
            )
      ]

  -- the two nodes of a dart on a path
  pub dart_nodes : (u : ℕ) (ds : List ℕ) (v e : ℕ) → WalksTo ends u ds v → In e ds → In (tail_of ends e) (tails ends ds) × In (head ends e) (trail ends ds v)
  dart_nodes u [] v e walk there = absurd (in_none e there)
  dart_nodes u (d ∷ ds) v e walk there = elim (in_cases e d ds there) [
    | inl here ↦
        let P : ℕ → Type 0 = λ z. In (head ends z) (trail ends (d ∷ ds) v) in (
          in_here (tail_of ends e) (tail_of ends d) (tails ends ds) (ap (tail_of ends) here),
          subst P (sym here) (in_later (head ends d) (tail_of ends d) (trail ends ds v) (start_in ends (head ends d) ds v walk.2)),
        )
    | inr later ↦
        let rest = dart_nodes (head ends d) ds v e walk.2 later in
        (in_later (tail_of ends e) (tail_of ends d) (tails ends ds) rest.0, in_later (head ends e) (tail_of ends d) (trail ends ds v) rest.1)
  ]

  pub trail_later : (y : ℕ) (fs gs : List ℕ) (v : ℕ) → In y (trail ends gs v) → In y (trail ends (fs ++ gs) v)
  trail_later y [] gs v there = there
  trail_later y (a ∷ fs) gs v there = in_later y (tail_of ends a) (trail ends (fs ++ gs) v) (trail_later y fs gs v there)

  pub trail_front : (y : ℕ) (fs gs : List ℕ) (v : ℕ) → In y (tails ends fs) → In y (trail ends (fs ++ gs) v)
  trail_front y [] gs v there = absurd (in_none y there)
  trail_front y (a ∷ fs) gs v there = elim (in_cases y (tail_of ends a) (tails ends fs) there) [
    | inl here ↦ in_here y (tail_of ends a) (trail ends (fs ++ gs) v) here
    | inr on ↦ in_later y (tail_of ends a) (trail ends (fs ++ gs) v) (trail_front y fs gs v on)
  ]

  -- a path cut at a dart
  pub dart_split : (u : ℕ) (ds : List ℕ) (v e : ℕ) → IsPath ends u ds v → In e ds
      → (fs gs : List ℕ) × (ds ≡ fs ++ e ∷ gs) × IsPath ends u fs (tail_of ends e) × IsPath ends (head ends e) gs v
      × ((y : ℕ) → In y (tails ends fs) → In y (trail ends (e ∷ gs) v) → ⊥) × (In (tail_of ends e) (trail ends gs v) → ⊥) × (e < 2 * length ends)
  dart_split u [] v e path there = absurd (in_none e there)
  dart_split u (d ∷ ds) v e path there = elim (in_cases e d ds there) [
    | inl here ↦
        let P : ℕ → Type 0 = λ z. IsPath ends z [] (tail_of ends e) in
        let Q : ℕ → Type 0 = λ z. IsPath ends (head ends z) ds v in
        let R : ℕ → Type 0 = λ z. In (tail_of ends z) (trail ends ds v) in (
          [],
          ds,
          ap (λ z. z ∷ ds) (sym here),
          subst P (ap (tail_of ends) here ∙ path.walks.1) (path_none ends (tail_of ends e)),
          subst Q (sym here) (rest_path ends u d ds v path),
          (λ y none. absurd (in_none y none)),
          (λ on. first_apart (tail_of ends d) (trail ends ds v) path.distinct (subst R here on)),
          omega (arith, here, path.walks.0),
        )
    | inr later ↦
        let t = tail_of ends d in
        let rest = dart_split (head ends d) ds v e (rest_path ends u d ds v path) later in
        let fs = rest.0 in
        let gs = rest.1 in
        let t_free : In t (trail ends ds v) → ⊥ = first_apart t (trail ends ds v) path.distinct in
        let inside : (y : ℕ) → In y (trail ends (e ∷ gs) v) → In y (trail ends ds v) = λ y on.
        let P : List ℕ → Type 0 = λ zs. In y (trail ends zs v) in
        subst P (sym rest.2) (trail_later y fs (e ∷ gs) v on) in (
          d ∷ fs,
          gs,
          ap (λ zs. d ∷ zs) rest.2,
          record {
            walks = (path.walks.0, path.walks.1, rest.3.walks);
            distinct = distinct_more t (trail ends fs (tail_of ends e)) (λ on. elim (trail_cases ends t fs (tail_of ends e) on) [
              | inl front ↦
                  let P : List ℕ → Type 0 = λ zs. In t (trail ends zs v) in
                  t_free (subst P (sym rest.2) (trail_front t fs (e ∷ gs) v front))
              | inr at_e ↦ t_free (inside t (in_here t (tail_of ends e) (trail ends gs v) at_e))
            ]) rest.3.distinct;
          },
          rest.4,
          (λ y front back. elim (in_cases y t (tails ends fs) front) [
            | inl at_t ↦ let P : ℕ → Type 0 = λ z. In z (trail ends ds v) in t_free (subst P at_t (inside y back))
            | inr on ↦ rest.5 y on back
          ]),
          rest.6,
          rest.7,
        )
  ]
