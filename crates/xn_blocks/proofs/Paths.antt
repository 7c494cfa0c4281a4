-- From a walk to a path, which meets no node twice.
use Rattle.std.proofs.Common.{ℕ, inl, inr, eqb, List, [], ◌∷◌, sym, subst}
use Rattle.std.specs.List.{IsDistinct}
use Rattle.std.proofs.lemmas.Map.Keys.{IsDistinct-tail}
use Rattle.xn_model.specs.Map.{WalksTo, reverse_of, tail_of}
use Rattle.xn_blocks.proofs.Members.{In, in_here, in_later, in_cases, in_none, decide_in, distinct_more}

-- the nodes of a walk to v
abbrev pub trail : List (ℕ × ℕ) → List ℕ → ℕ → List ℕ
trail ends [] v = v ∷ []
trail ends (d ∷ ds) v = tail_of ends d ∷ trail ends ds v

-- each member of the one list is in the other
abbrev pub Among : List ℕ → List ℕ → Type 0
Among xs ys = (x : ℕ) → In x xs → In x ys

pub record IsPath (ends : List (ℕ × ℕ)) (u : ℕ) (ds : List ℕ) (v : ℕ) : Type 0 where
  pub walks : WalksTo ends u ds v
  pub distinct : IsDistinct eqb (trail ends ds v)

-- a path from one of its nodes on
path_from : (ends : List (ℕ × ℕ)) (w : ℕ) (es : List ℕ) (v x : ℕ) → IsPath ends w es v → In x (trail ends es v) → (fs : List ℕ) × IsPath ends x fs v × Among fs es
path_from ends w [] v x path there = elim (in_cases x v [] there) [
  | inl at_v ↦ ([], record { walks = at_v; distinct = path.distinct }, λ y among. among)
  | inr none ↦ absurd (in_none x none)
]
path_from ends w (e ∷ es) v x path there = elim (in_cases x (tail_of ends e) (trail ends es v) there) [
  | inl here ↦ (e ∷ es, record { walks = (path.walks.0, sym here, path.walks.2); distinct = path.distinct }, λ y among. among)
  | inr later ↦
      let rest = path_from ends (tail_of ends (reverse_of e)) es v x (record { walks = path.walks.2; distinct = IsDistinct-tail eqb _ _ path.distinct }) later in
      (rest.0, rest.1, λ y among. in_later y e es (rest.2 y among))
]

alone : (v : ℕ) → IsDistinct eqb (v ∷ [])
unfolding IsDistinct
alone v = (tt, tt)

-- a walk leaves a path behind
pub path_of : (ends : List (ℕ × ℕ)) (u : ℕ) (ds : List ℕ) (v : ℕ) → WalksTo ends u ds v → (es : List ℕ) × IsPath ends u es v × Among es ds
path_of ends u [] v walk = ([], record { walks = walk; distinct = alone v }, λ y among. among)
path_of ends u (d ∷ ds) v walk =
    let head = tail_of ends (reverse_of d) in
    let rest = path_of ends head ds v walk.2 in
    let es = rest.0 in
    let t = tail_of ends d in
    elim (decide_in t (trail ends es v)) [
      | inl met ↦
          let cut = path_from ends head es v t rest.1 met in
          let P : ℕ → Type 0 = λ x. IsPath ends x cut.0 v in
          (cut.0, subst P walk.1 cut.1, λ y among. in_later y d ds (rest.2 y (cut.2 y among)))
      | inr free ↦ (
        d ∷ es,
        record {
          walks = (walk.0, walk.1, rest.1.walks);
          distinct = distinct_more t (trail ends es v) free rest.1.distinct;
        },
        λ y among. elim (in_cases y d es among) [
          | inl here ↦ in_here y d ds here
          | inr later ↦ in_later y d ds (rest.2 y later)
        ],
      )
    ]
