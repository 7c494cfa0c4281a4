-- Paths put together, turned and cut.
use Rattle.std.proofs.Common.{◌≡◌, ◌≢◌, ℕ, ◌*◌, ◌<◌, ◌⊎◌, inl, inr, eqb, List, [], ◌∷◌, ◌++◌, length, map, refl, sym, ◌∙◌, ap, subst}
use Rattle.std.specs.List.{IsDistinct}
use Rattle.std.proofs.lemmas.Map.Keys.{IsDistinct-tail}
use Rattle.xn_model.specs.Map.{WalksTo, reverse_of, tail_of}
use Rattle.xn_model.proofs.Darts.{reverse-reverse, reverse_below}
use Rattle.xn_blocks.proofs.Members.{In, in_here, in_later, in_cases, in_none, in_front, in_back, in_parts, distinct_more, first_apart}
use Rattle.xn_blocks.proofs.Paths.{trail, IsPath}

pub one_distinct : (v : ℕ) → IsDistinct eqb (v ∷ [])
unfolding IsDistinct
one_distinct v = (tt, tt)

pub none_distinct : IsDistinct eqb []
unfolding IsDistinct
none_distinct = tt

module _ (ends : List (ℕ × ℕ)) where
  pub path_none : (v : ℕ) → IsPath ends v [] v
  path_none v = record { walks = refl; distinct = one_distinct v }

  abbrev pub tails : List ℕ → List ℕ
  tails ds = map (tail_of ends) ds

  abbrev pub head : ℕ → ℕ
  head d = tail_of ends (reverse_of d)

  pub tails_in : (y : ℕ) (ds : List ℕ) (v : ℕ) → In y (tails ds) → In y (trail ends ds v)
  tails_in y [] v there = absurd (in_none y there)
  tails_in y (d ∷ ds) v there = elim (in_cases y (tail_of ends d) (tails ds) there) [
    | inl here ↦ in_here y (tail_of ends d) (trail ends ds v) here
    | inr later ↦ in_later y (tail_of ends d) (trail ends ds v) (tails_in y ds v later)
  ]

  pub end_in : (ds : List ℕ) (v : ℕ) → In v (trail ends ds v)
  end_in [] v = in_here v v [] refl
  end_in (d ∷ ds) v = in_later v (tail_of ends d) (trail ends ds v) (end_in ds v)

  pub trail_cases : (y : ℕ) (ds : List ℕ) (v : ℕ) → In y (trail ends ds v) → In y (tails ds) ⊎ (y ≡ v)
  trail_cases y [] v there = elim (in_cases y v [] there) [ inl here ↦ inr here | inr none ↦ absurd (in_none y none) ]
  trail_cases y (d ∷ ds) v there = elim (in_cases y (tail_of ends d) (trail ends ds v) there) [
    | inl here ↦ inl (in_here y (tail_of ends d) (tails ds) here)
    | inr later ↦ elim (trail_cases y ds v later) [
      | inl inside ↦ inl (in_later y (tail_of ends d) (tails ds) inside)
      | inr last ↦ inr last
    ]
  ]

  pub end_apart : (ds : List ℕ) (v : ℕ) → IsDistinct eqb (trail ends ds v) → In v (tails ds) → ⊥
  end_apart [] v distinct there = in_none v there
  end_apart (d ∷ ds) v distinct there = elim (in_cases v (tail_of ends d) (tails ds) there) [
    | inl here ↦ let P : ℕ → Type 0 = λ x. In x (trail ends ds v) in first_apart (tail_of ends d) (trail ends ds v) distinct (subst P here (end_in ds v))
    | inr later ↦ end_apart ds v (IsDistinct-tail eqb _ _ distinct) later
  ]

  pub start_in : (u : ℕ) (ds : List ℕ) (v : ℕ) → WalksTo ends u ds v → In u (trail ends ds v)
  start_in u [] v walk = in_here u v [] walk
  start_in u (d ∷ ds) v walk = in_here u (tail_of ends d) (trail ends ds v) (sym walk.1)

  pub rest_path : (u d : ℕ) (ds : List ℕ) (v : ℕ) → IsPath ends u (d ∷ ds) v → IsPath ends (head d) ds v
  rest_path u d ds v path = record { walks = path.walks.2; distinct = IsDistinct-tail eqb _ _ path.distinct }

  pub trail_parts : (y : ℕ) (ds es : List ℕ) (v : ℕ) → In y (trail ends (ds ++ es) v) → In y (tails ds) ⊎ In y (trail ends es v)
  trail_parts y [] es v there = inr there
  trail_parts y (d ∷ ds) es v there = elim (in_cases y (tail_of ends d) (trail ends (ds ++ es) v) there) [
    | inl here ↦ inl (in_here y (tail_of ends d) (tails ds) here)
    | inr later ↦ elim (trail_parts y ds es v later) [
      | inl front ↦ inl (in_later y (tail_of ends d) (tails ds) front)
      | inr back ↦ inr back
    ]
  ]

  -- two paths, one after the other
  pub path_join : (u : ℕ) (ds : List ℕ) (x : ℕ) (es : List ℕ) (v : ℕ) → IsPath ends u ds x → IsPath ends x es v
      → ((y : ℕ) → In y (tails ds) → In y (trail ends es v) → ⊥) → IsPath ends u (ds ++ es) v
  path_join u [] x es v one two apart = let P : ℕ → Type 0 = λ y. IsPath ends y es v in subst P (sym one.walks) two
  path_join u (d ∷ ds) x es v one two apart =
      let t = tail_of ends d in
      let rest = path_join (head d) ds x es v (rest_path u d ds x one) two (λ y front. apart y (in_later y t (tails ds) front)) in
      let free : In t (trail ends (ds ++ es) v) → ⊥ = λ there. elim (trail_parts t ds es v there) [
        | inl front ↦ first_apart t (trail ends ds x) one.distinct (tails_in t ds x front)
        | inr back ↦ apart t (in_here t t (tails ds) refl) back
      ] in
      record { walks = (one.walks.0, one.walks.1, rest.walks); distinct = distinct_more t (trail ends (ds ++ es) v) free rest.distinct }

  -- a dart alone
  pub path_one : (d : ℕ) → d < 2 * length ends → tail_of ends d ≢ head d → IsPath ends (tail_of ends d) (d ∷ []) (head d)
  path_one d d_in other = record {
    walks = (d_in, refl, refl);
    distinct = distinct_more (tail_of ends d) (head d ∷ []) (λ there. elim (in_cases (tail_of ends d) (head d) [] there) [
      | inl same ↦ other same
      | inr none ↦ in_none (tail_of ends d) none
    ]) (one_distinct (head d));
  }

  -- e or its reverse is in the list
  abbrev pub Uses : ℕ → List ℕ → Type 0
  Uses e ds = In e ds ⊎ In (reverse_of e) ds

  -- a path turned round
  pub path_turned : (u : ℕ) (ds : List ℕ) (v : ℕ) → IsPath ends u ds v
      → (es : List ℕ) × IsPath ends v es u × ((y : ℕ) → In y (trail ends es u) → In y (trail ends ds v)) × ((e : ℕ) → In e ds → In (reverse_of e) es) × ((e : ℕ) → In e es → In (reverse_of e) ds)
  path_turned u [] v path =
      let P : ℕ → Type 0 = λ x. IsPath ends v [] x in
      let Q : ℕ → Type 0 = λ x. (y : ℕ) → In y (x ∷ []) → In y (v ∷ []) in
      ([], subst P (sym path.walks) (path_none v), subst Q (sym path.walks) (λ y there. there), (λ e none. absurd (in_none e none)), (λ e none. absurd (in_none e none)))
  path_turned u (d ∷ ds) v path =
      let t = tail_of ends d in
      let r = reverse_of d in
      let back : tail_of ends (reverse_of r) ≡ t = ap (tail_of ends) (reverse-reverse d) in
      let before = path_turned (head d) ds v (rest_path u d ds v path) in
      let es = before.0 in
      let r_in : r < 2 * length ends = reverse_below (length ends) d path.walks.0 in
      let t_free : In t (trail ends ds v) → ⊥ = first_apart t (trail ends ds v) path.distinct in
      let other : tail_of ends r ≢ head r = λ same.
      let P : ℕ → Type 0 = λ x. In x (trail ends ds v) in
      t_free (subst P (same ∙ back) (start_in (head d) ds v path.walks.2)) in
      let P : ℕ → Type 0 = λ x. IsPath ends (head d) (r ∷ []) x in
      let last : IsPath ends (head d) (r ∷ []) u = subst P (back ∙ path.walks.1) (path_one r r_in other) in
      let whole = path_join v es (head d) (r ∷ []) u before.1 last (λ y front there. elim (in_cases y (head d) (u ∷ []) there) [
        | inl at_head ↦ let Q : ℕ → Type 0 = λ x. In x (tails es) in end_apart es (head d) before.1.distinct (subst Q at_head front)
        | inr later ↦ elim (in_cases y u [] later) [
          | inl at_u ↦ let Q : ℕ → Type 0 = λ x. In x (trail ends ds v) in t_free (subst Q (at_u ∙ sym path.walks.1) (before.2 y (tails_in y es (head d) front)))
          | inr none ↦ in_none y none
        ]
      ]) in (
        es ++ r ∷ [],
        whole,
        (λ y there. elim (trail_parts y es (r ∷ []) u there) [
          | inl front ↦ in_later y t (trail ends ds v) (before.2 y (tails_in y es (head d) front))
          | inr later ↦ elim (in_cases y (head d) (u ∷ []) later) [
            | inl at_head ↦ let Q : ℕ → Type 0 = λ x. In x (trail ends ds v) in in_later y t (trail ends ds v) (subst Q (sym at_head) (start_in (head d) ds v path.walks.2))
            | inr last_one ↦ elim (in_cases y u [] last_one) [
              | inl at_u ↦ in_here y t (trail ends ds v) (at_u ∙ sym path.walks.1)
              | inr none ↦ absurd (in_none y none)
            ]
          ]
        ]),
        (λ e there. elim (in_cases e d ds there) [
          | inl here ↦ in_back (reverse_of e) es (r ∷ []) (in_here (reverse_of e) r [] (ap reverse_of here))
          | inr later ↦ in_front (reverse_of e) es (r ∷ []) (before.3 e later)
        ]),
        (λ e there. elim (in_parts e es (r ∷ []) there) [
          | inl front ↦ in_later (reverse_of e) d ds (before.4 e front)
          | inr later ↦ elim (in_cases e r [] later) [
            | inl here ↦ in_here (reverse_of e) d ds (ap reverse_of here ∙ reverse-reverse d)
            | inr none ↦ absurd (in_none e none)
          ]
        ]),
      )
