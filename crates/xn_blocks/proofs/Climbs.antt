-- Ways up in a forest, and walks that avoid a node.
use Rattle.std.proofs.Common.{◌≡◌, ◌≢◌, ℕ, zero, suc, ◌+◌, ◌-◌, ◌*◌, ◌/◌, ◌<◌, ◌≤◌, ◌⊎◌, inl, inr, List, [], ◌∷◌, ◌++◌, length, refl, sym, ◌∙◌, ap, subst, arith}
use Rattle.std.proofs.lemmas.Bool.{cases_eq, cases_lt}
use Rattle.xn_model.specs.Cycles.{AreInOneBlock}
use Rattle.xn_model.specs.Graph.{Graph, HasNoLoop}
use Rattle.xn_model.specs.Map.{WalksTo, reverse_of, tail_of}
use Rattle.xn_model.specs.Permutation.{iterate}
use Rattle.xn_model.proofs.Darts.{reverse-reverse, reverse_below}
use Rattle.xn_ring.proofs.Orbits.{iterate-add, reaches_step}
use Rattle.xn_genus.proofs.Counts.{stays_alone}
use Rattle.xn_model.proofs.Decide.{iterate-step}
use Rattle.xn_genus.proofs.Compress.{half_reverse}
use Rattle.xn_blocks.specs.Search.{Above, IsSearchForest}
use Rattle.xn_blocks.proofs.Members.{In, in_here, in_later, in_cases, in_none}
use Rattle.xn_blocks.proofs.Paths.{path_of, trail}
use Rattle.xn_blocks.proofs.Arcs.{end_in, head, start_in, tails, tails_in, trail_cases, trail_parts}
use Rattle.xn_blocks.proofs.Neighbours.{AreNeighbours, round_of_neighbours}
use Rattle.xn_blocks.proofs.CycleRounds.{no_dart_loops, shared_of_round}

-- ---- ways up

module _ (parent : ℕ → ℕ) where
  -- two nodes above one are comparable
  pub both_above : (a b v : ℕ) → Above parent a v → Above parent b v → Above parent a b ⊎ Above parent b a
  both_above a b v one two =
      let j = one.0 in
      let k = two.0 in
      elim (cases_lt j k) [
        | inl less ↦
            let e : (k - j) + j ≡ k = omega arith in
            inr (k - j, ap (iterate parent (k - j)) (sym one.1) ∙ sym (iterate-add parent (k - j) j v) ∙ ap (λ m. iterate parent m v) e ∙ two.1)
        | inr more ↦
            let e : (j - k) + k ≡ j = omega arith in
            inl (j - k, ap (iterate parent (j - k)) (sym two.1) ∙ sym (iterate-add parent (j - k) k v) ∙ ap (λ m. iterate parent m v) e ∙ one.1)
      ]

  -- the first step of a way up
  pub first_step : (a v k : ℕ) → iterate parent k v ≡ a → (v ≡ a) ⊎ Above parent a (parent v)
  first_step a v zero e = inl e
  first_step a v (suc k) e = inr (k, iterate-step parent k v ∙ e)

  -- the child of w on the way from x
  pub child_towards : (w x k : ℕ) → iterate parent k x ≡ w → x ≢ w → (c : ℕ) × (parent c ≡ w) × (c ≢ w) × Above parent c x
  child_towards w x zero e other = absurd (other e)
  child_towards w x (suc k) e other = elim (cases_eq (iterate parent k x) w) [
    | inl same ↦ child_towards w x k same other
    | inr before ↦ (iterate parent k x, e, before, (k, refl))
  ]

module _ (web : Graph) (parent number : ℕ → ℕ) (forest : IsSearchForest web parent number) where
  pub above_in : (k v : ℕ) → v < web.nodes → iterate parent k v < web.nodes
  above_in zero v v_in = v_in
  above_in (suc k) v v_in = forest.within (iterate parent k v) (above_in k v v_in)

  up_or_same : (k v : ℕ) → v < web.nodes → (iterate parent k v ≡ v) ⊎ (number (iterate parent k v) < number v)
  up_or_same zero v v_in = inl refl
  up_or_same (suc k) v v_in =
      let c = iterate parent k v in
      elim (cases_eq (parent c) c) [
        | inl same ↦ elim (up_or_same k v v_in) [
          | inl e ↦ inl (same ∙ e)
          | inr less ↦ inr (omega (arith, less, ap number same))
        ]
        | inr up ↦
            let step = forest.earlier c (above_in k v v_in) up in
            elim (up_or_same k v v_in) [
              | inl e ↦ inr (omega (arith, step, ap number e))
              | inr less ↦ inr (omega (arith, step, less))
            ]
      ]

  -- what stands above has a smaller number
  pub above_less : (a v : ℕ) → v < web.nodes → Above parent a v → a ≢ v → number a < number v
  above_less a v v_in up other = elim (up_or_same up.0 v v_in) [
    | inl e ↦ absurd (other (sym up.1 ∙ e))
    | inr less ↦ omega (arith, less, ap number up.1)
  ]

  pub above_most : (a v : ℕ) → v < web.nodes → Above parent a v → number a ≤ number v
  above_most a v v_in up = elim (up_or_same up.0 v v_in) [
    | inl e ↦ omega (arith, ap number e, ap number up.1)
    | inr less ↦ omega (arith, less, ap number up.1)
  ]

  none_from_root : (w y : ℕ) → y ≢ w → parent y ≡ y → Above parent w y → ⊥
  none_from_root w y other root up = other (sym (stays_alone parent y root up.0) ∙ up.1)

  none_from : (w y : ℕ) → y ≢ w → (Above parent w (parent y) → ⊥) → Above parent w y → ⊥
  none_from w y other none up = elim (first_step parent w y up.0 up.1) [
    | inl same ↦ other same
    | inr further ↦ none further
  ]

  -- whether w stands above y
  pub decide_above : (m w y : ℕ) → y < web.nodes → number y ≤ m → Above parent w y ⊎ (Above parent w y → ⊥)
  decide_above zero w y y_in low = elim (cases_eq y w) [
    | inl same ↦ inl (0, same)
    | inr other ↦ elim (cases_eq (parent y) y) [
      | inl root ↦ inr (none_from_root w y other root)
      | inr up ↦ absurd (omega (arith, low, forest.earlier y y_in up))
    ]
  ]
  decide_above (suc m) w y y_in low = elim (cases_eq y w) [
    | inl same ↦ inl (0, same)
    | inr other ↦ elim (cases_eq (parent y) y) [
      | inl root ↦ inr (none_from_root w y other root)
      | inr up ↦ elim (decide_above m w (parent y) (forest.within y y_in) (omega (arith, low, forest.earlier y y_in up))) [
        | inl there ↦ inl (suc there.0, sym (iterate-step parent there.0 y) ∙ there.1)
        | inr none ↦ inr (none_from w y other none)
      ]
    ]
  ]

-- ---- walks that avoid a node

module _ (ends : List (ℕ × ℕ)) (w : ℕ) where
  -- a walk from x to y doesn't meet w
  abbrev pub GoesRound : ℕ → ℕ → Type 0
  GoesRound x y = (ds : List ℕ) × WalksTo ends x ds y × (In w (trail ends ds y) → ⊥)

  pub goes_nowhere : (x : ℕ) → x ≢ w → GoesRound x x
  goes_nowhere x other = ([], refl, λ there. elim (in_cases w x [] there) [ inl same ↦ other (sym same) | inr none ↦ in_none w none ])

  pub goes_along : (d : ℕ) → d < 2 * length ends → tail_of ends d ≢ w → head ends d ≢ w → GoesRound (tail_of ends d) (head ends d)
  goes_along d d_in one two = (
    d ∷ [],
    (d_in, refl, refl),
    λ there. elim (in_cases w (tail_of ends d) (head ends d ∷ []) there) [
      | inl same ↦ one (sym same)
      | inr later ↦ elim (in_cases w (head ends d) [] later) [ inl same ↦ two (sym same) | inr none ↦ in_none w none ]
    ],
  )

  walk_on : (x y z : ℕ) (ds es : List ℕ) → WalksTo ends x ds y → WalksTo ends y es z → WalksTo ends x (ds ++ es) z
  walk_on x y z [] es one two = let P : ℕ → Type 0 = λ u. WalksTo ends u es z in subst P (sym one) two
  walk_on x y z (d ∷ ds) es one two = (one.0, one.1, walk_on (head ends d) y z ds es one.2 two)

  pub goes_on : (x y z : ℕ) → GoesRound x y → GoesRound y z → GoesRound x z
  goes_on x y z one two = (
    one.0 ++ two.0,
    walk_on x y z one.0 two.0 one.1 two.1,
    λ there. elim (trail_parts ends w one.0 two.0 z there) [
      | inl front ↦ one.2 (tails_in ends w one.0 y front)
      | inr back ↦ two.2 back
    ],
  )

  back_from : (x : ℕ) (ds : List ℕ) (y : ℕ) → WalksTo ends x ds y → (In w (trail ends ds y) → ⊥) → GoesRound y x
  back_from x [] y walk free = let P : ℕ → Type 0 = λ u. GoesRound y u in subst P (sym walk) (goes_nowhere y (λ same. free (in_here w y [] (sym same))))
  back_from x (d ∷ ds) y walk free =
      let r = reverse_of d in
      let t = tail_of ends d in
      let h = head ends d in
      let back : head ends r ≡ t = ap (tail_of ends) (reverse-reverse d) in
      let rest_free : In w (trail ends ds y) → ⊥ = λ there. free (in_later w t (trail ends ds y) there) in
      let t_other : t ≢ w = λ same. free (in_here w t (trail ends ds y) (sym same)) in
      let P : ℕ → Type 0 = λ u. In u (trail ends ds y) in
      let h_other : h ≢ w = λ same. rest_free (subst P same (start_in ends h ds y walk.2)) in
      let Q : ℕ → Type 0 = λ u. GoesRound h u in
      let last : GoesRound h x = subst Q (back ∙ walk.1) (goes_along r (reverse_below (length ends) d walk.0) h_other (λ same. t_other (sym back ∙ same))) in
      goes_on y h x (back_from h ds y walk.2 rest_free) last

  pub goes_back : (x y : ℕ) → GoesRound x y → GoesRound y x
  goes_back x y there = back_from x there.0 y there.1 there.2

-- up the forest, where no node of the way is w
module _ (web : Graph) (parent number : ℕ → ℕ) (forest : IsSearchForest web parent number) (w : ℕ) where
  climb_steps : (k x : ℕ) → x < web.nodes → ((z : ℕ) → Above parent z x → Above parent (iterate parent k x) z → z ≢ w) → GoesRound web.ends w x (iterate parent k x)
  climb_steps zero x x_in avoids = goes_nowhere web.ends w x (avoids x (0, refl) (0, refl))
  climb_steps (suc k) x x_in avoids =
      let c = iterate parent k x in
      let so_far = climb_steps k x x_in (λ z below up. avoids z below (reaches_step parent z c up)) in
      elim (cases_eq (parent c) c) [
        | inl root ↦ let P : ℕ → Type 0 = λ u. GoesRound web.ends w x u in subst P (sym root) so_far
        | inr up ↦
            let link = forest.linked c (above_in web parent number forest k x x_in) up in
            let d = link.0 in
            let one : tail_of web.ends d ≢ w = λ same. avoids c (k, refl) (1, refl) (sym link.1.from ∙ same) in
            let two : head web.ends d ≢ w = λ same. avoids (parent c) (suc k, refl) (0, refl) (sym link.1.to ∙ same) in
            let P : ℕ → Type 0 = λ u. GoesRound web.ends w u (parent c) in
            let Q : ℕ → Type 0 = λ u. GoesRound web.ends w (tail_of web.ends d) u in
            goes_on web.ends w x c (parent c) so_far (subst P link.1.from (subst Q link.1.to (goes_along web.ends w d link.1.inside one two)))
      ]

  pub climb : (x y : ℕ) → x < web.nodes → Above parent y x → ((z : ℕ) → Above parent z x → Above parent y z → z ≢ w) → GoesRound web.ends w x y
  climb x y x_in up avoids =
      let P : ℕ → Type 0 = λ u. GoesRound web.ends w x u in
      let Q : ℕ → ℕ → Type 0 = λ z u. Above parent u z in
      subst P up.1 (climb_steps up.0 x x_in (λ z below above. avoids z below (subst (Q z) up.1 above)))

-- ---- two darts at a node whose far ends are joined without it

module _ (ends : List (ℕ × ℕ)) where
  tail_among : (y : ℕ) (ds : List ℕ) → In y (tails ends ds) → (e : ℕ) × In e ds × (tail_of ends e ≡ y)
  tail_among y [] there = absurd (in_none y there)
  tail_among y (d ∷ ds) there = elim (in_cases y (tail_of ends d) (tails ends ds) there) [
    | inl here ↦ (d, in_here d d ds refl, sym here)
    | inr later ↦ let rest = tail_among y ds later in (rest.0, in_later rest.0 d ds rest.1, rest.2)
  ]

  among_tails : (e : ℕ) (ds : List ℕ) → In e ds → In (tail_of ends e) (tails ends ds)
  among_tails e [] there = absurd (in_none e there)
  among_tails e (d ∷ ds) there = elim (in_cases e d ds there) [
    | inl here ↦ in_here (tail_of ends e) (tail_of ends d) (tails ends ds) (ap (tail_of ends) here)
    | inr later ↦ in_later (tail_of ends e) (tail_of ends d) (tails ends ds) (among_tails e ds later)
  ]

  pub are_neighbours : (d e : ℕ) → d < 2 * length ends → e < 2 * length ends → tail_of ends e ≡ tail_of ends d → d / 2 ≢ e / 2
      → GoesRound ends (tail_of ends d) (head ends e) (head ends d) → AreNeighbours ends d e
  are_neighbours d e d_in e_in one_node other round =
      let w = tail_of ends d in
      let y = head ends d in
      let cut = path_of ends (head ends e) round.0 y round.1 in
      record {
        s_in = d_in;
        t_in = e_in;
        one_node = one_node;
        differ = λ same. other (ap (λ x. x / 2) (sym same));
        differ_turned = λ same. other (sym (ap (λ x. x / 2) same ∙ half_reverse d));
        between = cut.0;
        way = cut.1;
        away = λ there. elim (trail_cases ends w cut.0 y there) [
          | inl inside ↦
              let found = tail_among w cut.0 inside in
              let P : ℕ → Type 0 = λ u. In u (tails ends round.0) in
              round.2 (tails_in ends w round.0 y (subst P found.2 (among_tails found.0 round.0 (cut.2 found.0 found.1))))
          | inr at_end ↦ let P : ℕ → Type 0 = λ u. In u (trail ends round.0 y) in round.2 (subst P (sym at_end) (end_in ends round.0 y))
        ];
      }

  pub in_block_at : HasNoLoop ends → (d e : ℕ) → d < 2 * length ends → e < 2 * length ends → tail_of ends e ≡ tail_of ends d
      → GoesRound ends (tail_of ends d) (head ends e) (head ends d) → AreInOneBlock ends (d / 2) (e / 2)
  in_block_at no_loop d e d_in e_in one_node round =
      let no_loops = no_dart_loops ends no_loop in
      elim (cases_eq (d / 2) (e / 2)) [
        | inl same ↦ inl same
        | inr other ↦ inr (shared_of_round ends no_loops d e (round_of_neighbours ends no_loops d e (are_neighbours d e d_in e_in one_node other round)))
      ]
