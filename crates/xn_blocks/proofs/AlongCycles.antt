-- What goes over to neighbours goes along each cycle; so cycles through a common segment give one through any two of theirs.
use Rattle.std.proofs.Common.{◌≡◌, ◌≢◌, ℕ, ◌*◌, ◌<◌, inl, inr, List, [], ◌∷◌, ◌++◌, length, refl, sym, ◌∙◌, ap, subst}
use Rattle.std.proofs.lemmas.List.{append_assoc, append-nil}
use Rattle.xn_model.specs.Map.{reverse_of, tail_of}
use Rattle.xn_model.proofs.Darts.{reverse-reverse}
use Rattle.xn_blocks.proofs.Members.{In, in_here, in_later, in_cases, in_none, in_back, in_parts, distinct_more, first_apart}
use Rattle.xn_blocks.proofs.Paths.{trail, IsPath}
use Rattle.xn_blocks.proofs.Arcs.{head, tails, tails_in, end_in, trail_cases, end_apart, start_in, rest_path, path_join, path_one, path_none}
use Rattle.xn_blocks.proofs.Rounds.{dart_nodes, trail_front, trail_later}
use Rattle.xn_blocks.proofs.Step.{IsRound, OnRound, round_at, step}
use Rattle.xn_blocks.proofs.Neighbours.{AreNeighbours, neighbour_before}

-- the last number of d, ds
abbrev pub last_of : ℕ → List ℕ → ℕ
last_of d [] = d
last_of d (x ∷ xs) = last_of x xs

last-append : (z : ℕ) (gs : List ℕ) (d : ℕ) (fs : List ℕ) → last_of z (gs ++ d ∷ fs) ≡ last_of d fs
last-append z [] d fs = refl
last-append z (g ∷ gs) d fs = last-append g gs d fs

by_push : (P : List ℕ → Type 0) → P [] → ((xs : List ℕ) (x : ℕ) → P xs → P (xs ++ x ∷ [])) → (xs ys : List ℕ) → P xs → P (xs ++ ys)
by_push P none more xs [] h = subst P (sym (append-nil xs)) h
by_push P none more xs (y ∷ ys) h = subst P (append_assoc xs (y ∷ []) ys) (by_push P none more (xs ++ y ∷ []) ys (more xs y h))

module _ (ends : List (ℕ × ℕ)) (no_loops : (d : ℕ) → d < 2 * length ends → tail_of ends d ≢ head ends d) where
  -- a path cut before a dart
  split_path : (u : ℕ) (fs : List ℕ) (e : ℕ) (gs : List ℕ) (v : ℕ) → IsPath ends u (fs ++ e ∷ gs) v
      → IsPath ends u fs (tail_of ends e) × IsPath ends (head ends e) gs v × ((y : ℕ) → In y (tails ends fs) → In y (trail ends (e ∷ gs) v) → ⊥) × (In (tail_of ends e) (trail ends gs v) → ⊥) × (e < 2 * length ends)
  split_path u [] e gs v path =
      let P : ℕ → Type 0 = λ z. IsPath ends z [] (tail_of ends e) in
      (subst P path.walks.1 (path_none ends (tail_of ends e)), rest_path ends u e gs v path, (λ y none. absurd (in_none y none)), first_apart (tail_of ends e) (trail ends gs v) path.distinct, path.walks.0)
  split_path u (f ∷ fs) e gs v path =
      let t = tail_of ends f in
      let all = fs ++ e ∷ gs in
      let rest = split_path (head ends f) fs e gs v (rest_path ends u f all v path) in
      let t_free : In t (trail ends all v) → ⊥ = first_apart t (trail ends all v) path.distinct in (
        record {
          walks = (path.walks.0, path.walks.1, rest.0.walks);
          distinct = distinct_more t (trail ends fs (tail_of ends e)) (λ there. elim (trail_cases ends t fs (tail_of ends e) there) [
            | inl front ↦ t_free (trail_front ends t fs (e ∷ gs) v front)
            | inr at_e ↦ t_free (trail_later ends t fs (e ∷ gs) v (in_here t (tail_of ends e) (trail ends gs v) at_e))
          ]) rest.0.distinct;
        },
        rest.1,
        (λ y front back. elim (in_cases y t (tails ends fs) front) [
          | inl here ↦ let P : ℕ → Type 0 = λ z. In z (trail ends all v) in t_free (subst P here (trail_later ends y fs (e ∷ gs) v back))
          | inr on ↦ rest.2 y on back
        ]),
        rest.3,
        rest.4,
      )

  -- the cycle, begun at a given place
  pub round_split : (d : ℕ) (fs : List ℕ) (e : ℕ) (gs : List ℕ) → IsRound ends no_loops d (fs ++ e ∷ gs) → IsRound ends no_loops e (gs ++ d ∷ fs)
  round_split d fs e gs round =
      let v = tail_of ends d in
      let t = tail_of ends e in
      let ds = fs ++ e ∷ gs in
      let there : In e ds = in_back e fs (e ∷ gs) (in_here e e gs refl) in
      let cut = split_path (head ends d) fs e gs v round.path in
      let v_in : In v (trail ends gs v) = end_in ends gs v in
      let e_here : In t (trail ends (e ∷ gs) v) = in_here t t (trail ends gs v) refl in
      let one : IsPath ends v (d ∷ []) (head ends d) = path_one ends d round.d_in (no_loops d round.d_in) in
      let two : IsPath ends v (d ∷ fs) t = path_join ends v (d ∷ []) (head ends d) fs t one cut.0 (λ y front back. elim (in_cases y v [] front) [
        | inr none ↦ in_none y none
        | inl at_v ↦
            let P : ℕ → Type 0 = λ z. In z (trail ends fs t) in
            elim (trail_cases ends v fs t (subst P at_v back)) [
              | inl inside ↦ cut.2 v inside (in_later v t (trail ends gs v) v_in)
              | inr at_t ↦ let Q : ℕ → Type 0 = λ z. In z (trail ends gs v) in cut.3 (subst Q at_t v_in)
            ]
      ]) in
      let whole : IsPath ends (head ends e) (gs ++ d ∷ fs) t = path_join ends (head ends e) gs v (d ∷ fs) t cut.1 two (λ y front back.
      elim (in_cases y v (trail ends fs t) back) [
        | inl at_v ↦ let P : ℕ → Type 0 = λ z. In z (tails ends gs) in end_apart ends gs v cut.1.distinct (subst P at_v front)
        | inr on ↦ elim (trail_cases ends y fs t on) [
          | inl inside ↦ cut.2 y inside (in_later y t (trail ends gs v) (tails_in ends y gs v front))
          | inr at_t ↦ let P : ℕ → Type 0 = λ z. In z (trail ends gs v) in cut.3 (subst P at_t (tails_in ends y gs v front))
        ]
      ]) in
      let In_ds : ℕ → Type 0 = λ z. In z ds in
      record {
        d_in = cut.4;
        path = whole;
        free = λ used. elim used [
          | inl on ↦ elim (in_parts e gs (d ∷ fs) on) [
            | inl front ↦ cut.3 (tails_in ends t gs v (dart_nodes ends (head ends e) gs v e cut.1.walks front).0)
            | inr back ↦ elim (in_cases e d fs back) [
              | inl here ↦ round.free (inl (subst In_ds here there))
              | inr later ↦ cut.2 t (dart_nodes ends (head ends d) fs t e cut.0.walks later).0 e_here
            ]
          ]
          | inr on ↦ elim (in_parts (reverse_of e) gs (d ∷ fs) on) [
            | inl front ↦
                let P : ℕ → Type 0 = λ z. In z (trail ends gs v) in
                cut.3 (subst P (ap (tail_of ends) (reverse-reverse e)) (dart_nodes ends (head ends e) gs v (reverse_of e) cut.1.walks front).1)
            | inr back ↦ elim (in_cases (reverse_of e) d fs back) [
              | inl here ↦ round.free (inr (subst In_ds (sym (reverse-reverse e) ∙ ap reverse_of here) there))
              | inr later ↦
                  cut.2 (head ends e) (dart_nodes ends (head ends d) fs t (reverse_of e) cut.0.walks later).0
                  (in_later (head ends e) t (trail ends gs v) (start_in ends (head ends e) gs v cut.1.walks))
            ]
          ]
        ];
      }

  module _ (Q : ℕ → Type 0) (turned : (d : ℕ) → Q d → Q (reverse_of d)) (near : (s t : ℕ) → AreNeighbours ends s t → Q s → Q t) where
    -- it goes on from the dart before
    from_before : (d : ℕ) (fs : List ℕ) (e : ℕ) (gs : List ℕ) → IsRound ends no_loops d (fs ++ e ∷ gs) → Q (last_of d fs) → Q e
    from_before d fs e gs round held =
        let before = neighbour_before ends no_loops e (gs ++ d ∷ fs) (round_split d fs e gs round) in
        let s = before.0 in
        let q = reverse_of s in
        let is_last : last_of d fs ≡ q = sym (last-append e gs d fs) ∙ ap (last_of e) before.3 ∙ last-append e before.2 q [] in
        near s e before.1 (subst Q (ap reverse_of is_last ∙ reverse-reverse s) (turned (last_of d fs) held))

    Good : ℕ → List ℕ → Type 0
    Good d fs = (gs : List ℕ) → IsRound ends no_loops d (fs ++ gs) → Q d → Q (last_of d fs) × ((e : ℕ) → In e fs → Q e)

    good : (d : ℕ) (fs : List ℕ) → Good d fs
    unfolding Good
    good d fs = by_push (Good d) (λ gs round held. (held, λ e none. absurd (in_none e none)))
        (λ xs x h gs round held.
        let P : List ℕ → Type 0 = λ zs. IsRound ends no_loops d zs in
        let round' : IsRound ends no_loops d (xs ++ x ∷ gs) = subst P (append_assoc xs (x ∷ []) gs) round in
        let so_far = h (x ∷ gs) round' held in
        let at_x : Q x = from_before d xs x gs round' so_far.0 in (
          subst Q (sym (last-append d xs x [])) at_x,
          λ e there. elim (in_parts e xs (x ∷ []) there) [
            | inl front ↦ so_far.1 e front
            | inr back ↦ elim (in_cases e x [] back) [ inl here ↦ subst Q (sym here) at_x | inr none ↦ absurd (in_none e none) ]
          ],
        ))
        [] fs (λ gs round held. (held, λ e none. absurd (in_none e none)))

    along : (d : ℕ) (ds : List ℕ) → IsRound ends no_loops d ds → Q d → (e : ℕ) → In e (d ∷ ds) → Q e
    unfolding Good
    along d ds round held e there = elim (in_cases e d ds there) [
      | inl here ↦ subst Q (sym here) held
      | inr on ↦ let P : List ℕ → Type 0 = λ zs. IsRound ends no_loops d zs in (good d ds [] (subst P (sym (append-nil ds)) round) held).1 e on
    ]

    -- what goes over to neighbours, and to the other dart of a segment, goes from one segment of a cycle to each other
    pub carried : (r t : ℕ) → OnRound ends no_loops r t → Q r → Q t
    carried r t on held =
        let begun = round_at ends no_loops on.first on.others r on.round on.has_one in
        elim (begun.2 t on.has_two) [
          | inl there ↦ along r begun.0 begun.1 held t there
          | inr there ↦ subst Q (reverse-reverse t) (turned (reverse_of t) (along r begun.0 begun.1 held (reverse_of t) there))
        ]

  -- a cycle with r and s, and one with s and t, give one with r and t
  pub rounds_join : (r s t : ℕ) → OnRound ends no_loops r s → OnRound ends no_loops s t → OnRound ends no_loops r t
  rounds_join r s t one two =
      carried (λ x. OnRound ends no_loops r x) (λ d on. round_of_turned r d on) (λ x y near on. round_of_neighbour r x y near on) s t two one
    where
      round_of_turned : (r d : ℕ) → OnRound ends no_loops r d → OnRound ends no_loops r (reverse_of d)
      round_of_turned r d on =
          let all = on.first ∷ on.others in
          record {
            first = on.first;
            others = on.others;
            round = on.round;
            has_one = on.has_one;
            has_two = elim on.has_two [
              | inl there ↦ let P : ℕ → Type 0 = λ z. In z all in inr (subst P (sym (reverse-reverse d)) there)
              | inr there ↦ inl there
            ];
          }

      round_of_neighbour : (r x y : ℕ) → AreNeighbours ends x y → OnRound ends no_loops r x → OnRound ends no_loops r y
      round_of_neighbour r x y near on =
          let begun = round_at ends no_loops on.first on.others x on.round on.has_two in
          step ends no_loops x y r begun.0 near.between near.t_in near.one_node near.differ near.differ_turned begun.1 (begun.2 r on.has_one) near.way near.away
