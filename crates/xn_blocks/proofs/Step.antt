-- Neighbours at a node: what lies on a cycle with the one lies on a cycle with the other.
use Rattle.std.proofs.Common.{◌≡◌, ◌≢◌, ℕ, ◌*◌, ◌<◌, inl, inr, List, [], ◌∷◌, ◌++◌, length, refl, sym, ◌∙◌, ap, subst}
use Rattle.xn_model.specs.Map.{reverse_of, tail_of}
use Rattle.xn_model.proofs.Darts.{reverse-reverse, reverse_below, reverse_apart}
use Rattle.xn_blocks.proofs.Members.{In, in_here, in_later, in_cases, in_none, decide_in, in_front, in_back, in_parts}
use Rattle.xn_blocks.proofs.Paths.{trail, IsPath}
use Rattle.xn_blocks.proofs.Arcs.{tails, head, tails_in, end_in, trail_cases, end_apart, start_in, trail_parts, path_join, path_one, Uses, path_turned}
use Rattle.xn_blocks.proofs.Rounds.{path_split, first_hit, dart_nodes, dart_split}

module _ (ends : List (ℕ × ℕ)) (no_loops : (d : ℕ) → d < 2 * length ends → tail_of ends d ≢ head ends d) where
  -- a cycle: the dart d, and a path back from its head that doesn't use its segment
  pub record IsRound (d : ℕ) (ds : List ℕ) : Type 0 where
    pub d_in : d < 2 * length ends
    pub path : IsPath ends (head ends d) ds (tail_of ends d)
    pub free : Uses ends d ds → ⊥

  -- the segments of r and t lie on one cycle
  pub record OnRound (r t : ℕ) : Type 0 where
    pub first : ℕ
    pub others : List ℕ
    pub round : IsRound first others
    pub has_one : Uses ends r (first ∷ others)
    pub has_two : Uses ends t (first ∷ others)

  head_turned : (d : ℕ) → head ends (reverse_of d) ≡ tail_of ends d
  head_turned d = ap (tail_of ends) (reverse-reverse d)

  -- the cycle, turned round
  pub round_turned : (d : ℕ) (ds : List ℕ) → IsRound d ds → (es : List ℕ) × IsRound (reverse_of d) es × ((r : ℕ) → Uses ends r (d ∷ ds) → Uses ends r (reverse_of d ∷ es))
  round_turned d ds round =
      let q = reverse_of d in
      let turned = path_turned ends (head ends d) ds (tail_of ends d) round.path in
      let es = turned.0 in
      let P : ℕ → Type 0 = λ z. IsPath ends z es (head ends d) in
      let In_ds : ℕ → Type 0 = λ z. In z ds in
      let In_es : ℕ → Type 0 = λ z. In z es in (
        es,
        record {
          d_in = reverse_below (length ends) d round.d_in;
          path = subst P (sym (head_turned d)) turned.1;
          free = λ used. elim used [
            | inl there ↦ round.free (inl (subst In_ds (reverse-reverse d) (turned.4 q there)))
            | inr there ↦ round.free (inr (subst In_ds (ap reverse_of (reverse-reverse d)) (turned.4 (reverse_of q) there)))
          ];
        },
        λ r used. elim used [
          | inl there ↦ elim (in_cases r d ds there) [
            | inl here ↦ inr (in_here (reverse_of r) q es (ap reverse_of here))
            | inr on ↦ inr (in_later (reverse_of r) q es (turned.3 r on))
          ]
          | inr there ↦ elim (in_cases (reverse_of r) d ds there) [
            | inl here ↦ inl (in_here r q es (sym (reverse-reverse r) ∙ ap reverse_of here))
            | inr on ↦ inl (in_later r q es (subst In_es (reverse-reverse r) (turned.3 (reverse_of r) on)))
          ]
        ],
      )

  -- the cycle, begun at another of its darts
  pub round_from : (d : ℕ) (ds : List ℕ) (e : ℕ) → IsRound d ds → In e ds → (es : List ℕ) × IsRound e es × ((x : ℕ) → In x (d ∷ ds) → In x (e ∷ es))
  round_from d ds e round there =
      let v = tail_of ends d in
      let t = tail_of ends e in
      let cut = dart_split ends (head ends d) ds v e round.path there in
      let fs = cut.0 in
      let gs = cut.1 in
      let v_in : In v (trail ends gs v) = end_in ends gs v in
      let e_here : In t (trail ends (e ∷ gs) v) = in_here t t (trail ends gs v) refl in
      let one : IsPath ends v (d ∷ []) (head ends d) = path_one ends d round.d_in (no_loops d round.d_in) in
      let two : IsPath ends v (d ∷ fs) t = path_join ends v (d ∷ []) (head ends d) fs t one cut.3 (λ y front back. elim (in_cases y v [] front) [
        | inr none ↦ in_none y none
        | inl at_v ↦
            let P : ℕ → Type 0 = λ z. In z (trail ends fs t) in
            elim (trail_cases ends v fs t (subst P at_v back)) [
              | inl inside ↦ cut.5 v inside (in_later v t (trail ends gs v) v_in)
              | inr at_t ↦ let Q : ℕ → Type 0 = λ z. In z (trail ends gs v) in cut.6 (subst Q at_t v_in)
            ]
      ]) in
      let whole : IsPath ends (head ends e) (gs ++ d ∷ fs) t = path_join ends (head ends e) gs v (d ∷ fs) t cut.4 two (λ y front back.
      elim (in_cases y v (trail ends fs t) back) [
        | inl at_v ↦ let P : ℕ → Type 0 = λ z. In z (tails ends gs) in end_apart ends gs v cut.4.distinct (subst P at_v front)
        | inr on ↦ elim (trail_cases ends y fs t on) [
          | inl inside ↦ cut.5 y inside (in_later y t (trail ends gs v) (tails_in ends y gs v front))
          | inr at_t ↦ let P : ℕ → Type 0 = λ z. In z (trail ends gs v) in cut.6 (subst P at_t (tails_in ends y gs v front))
        ]
      ]) in
      let In_ds : ℕ → Type 0 = λ z. In z ds in
      let free : Uses ends e (gs ++ d ∷ fs) → ⊥ = λ used. elim used [
        | inl on ↦ elim (in_parts e gs (d ∷ fs) on) [
          | inl front ↦ cut.6 (tails_in ends t gs v (dart_nodes ends (head ends e) gs v e cut.4.walks front).0)
          | inr back ↦ elim (in_cases e d fs back) [
            | inl here ↦ round.free (inl (subst In_ds here there))
            | inr later ↦ cut.5 t (dart_nodes ends (head ends d) fs t e cut.3.walks later).0 e_here
          ]
        ]
        | inr on ↦ elim (in_parts (reverse_of e) gs (d ∷ fs) on) [
          | inl front ↦
              let P : ℕ → Type 0 = λ z. In z (trail ends gs v) in
              cut.6 (subst P (head_turned e) (dart_nodes ends (head ends e) gs v (reverse_of e) cut.4.walks front).1)
          | inr back ↦ elim (in_cases (reverse_of e) d fs back) [
            | inl here ↦ round.free (inr (subst In_ds (sym (reverse-reverse e) ∙ ap reverse_of here) there))
            | inr later ↦
                cut.5 (head ends e) (dart_nodes ends (head ends d) fs t (reverse_of e) cut.3.walks later).0
                (in_later (head ends e) t (trail ends gs v) (start_in ends (head ends e) gs v cut.4.walks))
          ]
        ]
      ] in (
        gs ++ d ∷ fs,
        record { d_in = cut.7; path = whole; free = free },
        λ x on. elim (in_cases x d ds on) [
          | inl here ↦ in_later x e (gs ++ d ∷ fs) (in_back x gs (d ∷ fs) (in_here x d fs here))
          | inr later ↦
              let P : List ℕ → Type 0 = λ zs. In x zs in
              elim (in_parts x fs (e ∷ gs) (subst P cut.2 later)) [
                | inl front ↦ in_later x e (gs ++ d ∷ fs) (in_back x gs (d ∷ fs) (in_later x d fs front))
                | inr back ↦ elim (in_cases x e gs back) [
                  | inl at_e ↦ in_here x e (gs ++ d ∷ fs) at_e
                  | inr last ↦ in_later x e (gs ++ d ∷ fs) (in_front x gs (d ∷ fs) last)
                ]
              ]
        ],
      )

  -- the cycle, begun at any dart of one of its segments
  pub round_at : (d : ℕ) (ds : List ℕ) (s : ℕ) → IsRound d ds → Uses ends s (d ∷ ds) → (es : List ℕ) × IsRound s es × ((r : ℕ) → Uses ends r (d ∷ ds) → Uses ends r (s ∷ es))
  round_at d ds s round used = elim used [
    | inl there ↦ elim (in_cases s d ds there) [
      | inl here ↦
          let P : ℕ → Type 0 = λ z. IsRound z ds × ((r : ℕ) → Uses ends r (d ∷ ds) → Uses ends r (z ∷ ds)) in
          let moved = subst P (sym here) (round, λ r x. x) in
          (ds, moved.0, moved.1)
      | inr on ↦
          let from = round_from d ds s round on in
          (from.0, from.1, λ r x. elim x [ inl one ↦ inl (from.2 r one) | inr two ↦ inr (from.2 (reverse_of r) two) ])
    ]
    | inr there ↦ elim (in_cases (reverse_of s) d ds there) [
      | inl here ↦
          let turned = round_turned d ds round in
          let es = turned.0 in
          let P : ℕ → Type 0 = λ z. IsRound z es × ((r : ℕ) → Uses ends r (d ∷ ds) → Uses ends r (z ∷ es)) in
          let moved = subst P (ap reverse_of (sym here) ∙ reverse-reverse s) (turned.1, turned.2) in
          (es, moved.0, moved.1)
      | inr on ↦
          let from = round_from d ds (reverse_of s) round on in
          let turned = round_turned (reverse_of s) from.0 from.1 in
          let es = turned.0 in
          let keep : (r : ℕ) → Uses ends r (d ∷ ds) → Uses ends r (reverse_of (reverse_of s) ∷ es) =
          λ r x. turned.2 r (elim x [ inl one ↦ inl (from.2 r one) | inr two ↦ inr (from.2 (reverse_of r) two) ]) in
          let P : ℕ → Type 0 = λ z. IsRound z es × ((r : ℕ) → Uses ends r (d ∷ ds) → Uses ends r (z ∷ es)) in
          let moved = subst P (reverse-reverse s) (turned.1, keep) in
          (es, moved.0, moved.1)
    ]
  ]

  module _ (s t r : ℕ) (ps qs : List ℕ) (t_in : t < 2 * length ends) (one_node : tail_of ends t ≡ tail_of ends s) (differ : t ≢ s) (differ_turned : t ≢ reverse_of s)
      (round : IsRound s ps) (used : Uses ends r (s ∷ ps)) (way : IsPath ends (head ends t) qs (head ends s)) (away : In (tail_of ends s) (trail ends qs (head ends s)) → ⊥) where
    abbrev w : ℕ
    w = tail_of ends s

    own : Uses ends t ps → OnRound r t
    own on =
        let t_used : Uses ends t (s ∷ ps) = elim on [ inl one ↦ inl (in_later t s ps one) | inr two ↦ inr (in_later (reverse_of t) s ps two) ] in
        record { first = s; others = ps; round = round; has_one = used; has_two = t_used }

    pub step : OnRound r t
    step = elim (decide_in t ps) [
      | inl on ↦ own (inl on)
      | inr off ↦ elim (decide_in (reverse_of t) ps) [
        | inl on ↦ own (inr on)
        | inr off_turned ↦
            let hit = first_hit ends (head ends t) qs (head ends s) (trail ends ps w) way (start_in ends (head ends s) ps w round.path.walks) in
            let x = hit.0 in
            let ks = hit.1 in
            let cut = path_split ends (head ends s) ps w x round.path hit.3 in
            let fs = cut.0 in
            let gs = cut.1 in
            let x_other : x ≢ w = λ e.
            let P : ℕ → Type 0 = λ z. In z (trail ends qs (head ends s)) in
            away (subst P e (hit.5 x (end_in ends ks x))) in
            let ks_free : In t ks → ⊥ = λ on.
            let P : ℕ → Type 0 = λ z. In z (trail ends qs (head ends s)) in
            away (subst P one_node (hit.5 (tail_of ends t) (tails_in ends (tail_of ends t) ks x (dart_nodes ends (head ends t) ks x t hit.2.walks on).0))) in
            let ks_free_turned : In (reverse_of t) ks → ⊥ = λ on.
            let P : ℕ → Type 0 = λ z. In z (trail ends qs (head ends s)) in
            away (subst P (head_turned t ∙ one_node) (hit.5 (head ends (reverse_of t)) (dart_nodes ends (head ends t) ks x (reverse_of t) hit.2.walks on).1)) in
            let In_ps : ℕ → List ℕ → Type 0 = λ z zs. In z zs in
            let from_fs : (z : ℕ) → In z fs → In z ps = λ z on. let P : List ℕ → Type 0 = λ zs. In z zs in subst P (sym cut.2) (in_front z fs gs on) in
            let from_gs : (z : ℕ) → In z gs → In z ps = λ z on. let P : List ℕ → Type 0 = λ zs. In z zs in subst P (sym cut.2) (in_back z fs gs on) in
            let ended : (zs : List ℕ) → IsPath ends (head ends t) zs w → IsPath ends (head ends t) zs (tail_of ends t) = λ zs path.
            let P : ℕ → Type 0 = λ z. IsPath ends (head ends t) zs z in subst P (sym one_node) path in
            -- through the second part of the old cycle
            let straight = path_join ends (head ends t) ks x gs w hit.2 cut.4 (λ y front back. hit.4 y front (cut.7 y back)) in
            let straight_round : IsRound t (ks ++ gs) = record {
              d_in = t_in;
              path = ended (ks ++ gs) straight;
              free = λ on. elim on [
                | inl one ↦ elim (in_parts t ks gs one) [ inl front ↦ ks_free front | inr back ↦ off (from_gs t back) ]
                | inr two ↦ elim (in_parts (reverse_of t) ks gs two) [ inl front ↦ ks_free_turned front | inr back ↦ off_turned (from_gs (reverse_of t) back) ]
              ];
            } in
            -- back through the first part and the segment of s
            let turned = path_turned ends (head ends s) fs x cut.3 in
            let hs = turned.0 in
            let q = reverse_of s in
            let w_apart : In w (trail ends fs x) → ⊥ = λ on. elim (trail_cases ends w fs x on) [
              | inl inside ↦ cut.5 w inside (end_in ends gs w)
              | inr at_x ↦ x_other (sym at_x)
            ] in
            let q_in = reverse_below (length ends) s round.d_in in
            let last : IsPath ends (head ends s) (q ∷ []) w = let P : ℕ → Type 0 = λ z. IsPath ends (head ends s) (q ∷ []) z in subst P (head_turned s) (path_one ends q q_in (no_loops q q_in)) in
            let home = path_join ends x hs (head ends s) (q ∷ []) w turned.1 last (λ y front back. elim (in_cases y (head ends s) (w ∷ []) back) [
              | inl at_head ↦ let P : ℕ → Type 0 = λ z. In z (tails ends hs) in end_apart ends hs (head ends s) turned.1.distinct (subst P at_head front)
              | inr later ↦ elim (in_cases y w [] later) [
                | inl at_w ↦ let P : ℕ → Type 0 = λ z. In z (trail ends fs x) in w_apart (subst P at_w (turned.2 y (tails_in ends y hs (head ends s) front)))
                | inr none ↦ in_none y none
              ]
            ]) in
            let round_about = path_join ends (head ends t) ks x (hs ++ q ∷ []) w hit.2 home (λ y front back. elim (trail_parts ends y hs (q ∷ []) w back) [
              | inl inside ↦ hit.4 y front (cut.6 y (turned.2 y (tails_in ends y hs (head ends s) inside)))
              | inr later ↦ elim (in_cases y (head ends s) (w ∷ []) later) [
                | inl at_head ↦ let P : ℕ → Type 0 = λ z. In z (trail ends ps w) in hit.4 y front (subst P (sym at_head) (start_in ends (head ends s) ps w round.path.walks))
                | inr end ↦ elim (in_cases y w [] end) [
                  | inl at_w ↦ let P : ℕ → Type 0 = λ z. In z (trail ends ps w) in hit.4 y front (subst P (sym at_w) (end_in ends ps w))
                  | inr none ↦ in_none y none
                ]
              ]
            ]) in
            let about = ks ++ (hs ++ q ∷ []) in
            let about_round : IsRound t about = record {
              d_in = t_in;
              path = ended about round_about;
              free = λ on. elim on [
                | inl one ↦ elim (in_parts t ks (hs ++ q ∷ []) one) [
                  | inl front ↦ ks_free front
                  | inr back ↦ elim (in_parts t hs (q ∷ []) back) [
                    | inl inside ↦ off_turned (from_fs (reverse_of t) (turned.4 t inside))
                    | inr end ↦ elim (in_cases t q [] end) [ inl same ↦ differ_turned same | inr none ↦ in_none t none ]
                  ]
                ]
                | inr two ↦ elim (in_parts (reverse_of t) ks (hs ++ q ∷ []) two) [
                  | inl front ↦ ks_free_turned front
                  | inr back ↦ elim (in_parts (reverse_of t) hs (q ∷ []) back) [
                    | inl inside ↦ let P : ℕ → Type 0 = λ z. In z fs in off (from_fs t (subst P (reverse-reverse t) (turned.4 (reverse_of t) inside)))
                    | inr end ↦ elim (in_cases (reverse_of t) q [] end) [ inl same ↦ differ (reverse_apart t s same) | inr none ↦ in_none (reverse_of t) none ]
                  ]
                ]
              ];
            } in
            let t_used : (zs : List ℕ) → Uses ends t (t ∷ zs) = λ zs. inl (in_here t t zs refl) in
            let by_straight : Uses ends r gs → OnRound r t = λ on. record {
              first = t;
              others = ks ++ gs;
              round = straight_round;
              has_one = elim on [
                | inl one ↦ inl (in_later r t (ks ++ gs) (in_back r ks gs one))
                | inr two ↦ inr (in_later (reverse_of r) t (ks ++ gs) (in_back (reverse_of r) ks gs two))
              ];
              has_two = t_used (ks ++ gs);
            } in
            let by_about : Uses ends r (hs ++ q ∷ []) → OnRound r t = λ on. record {
              first = t;
              others = about;
              round = about_round;
              has_one = elim on [
                | inl one ↦ inl (in_later r t about (in_back r ks (hs ++ q ∷ []) one))
                | inr two ↦ inr (in_later (reverse_of r) t about (in_back (reverse_of r) ks (hs ++ q ∷ []) two))
              ];
              has_two = t_used about;
            } in
            elim used [
              | inl there ↦ elim (in_cases r s ps there) [
                | inl here ↦ by_about (inr (in_back (reverse_of r) hs (q ∷ []) (in_here (reverse_of r) q [] (ap reverse_of here))))
                | inr on ↦ let P : List ℕ → Type 0 = λ zs. In r zs in elim (in_parts r fs gs (subst P cut.2 on)) [
                  | inl front ↦ by_about (inr (in_front (reverse_of r) hs (q ∷ []) (turned.3 r front)))
                  | inr back ↦ by_straight (inl back)
                ]
              ]
              | inr there ↦ elim (in_cases (reverse_of r) s ps there) [
                | inl here ↦ by_about (inl (in_back r hs (q ∷ []) (in_here r q [] (sym (reverse-reverse r) ∙ ap reverse_of here))))
                | inr on ↦ let P : List ℕ → Type 0 = λ zs. In (reverse_of r) zs in elim (in_parts (reverse_of r) fs gs (subst P cut.2 on)) [
                  | inl front ↦ let Q : ℕ → Type 0 = λ z. In z hs in by_about (inl (in_front r hs (q ∷ []) (subst Q (reverse-reverse r) (turned.3 (reverse_of r) front))))
                  | inr back ↦ by_straight (inr back)
                ]
              ]
            ]
      ]
    ]
