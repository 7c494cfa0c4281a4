-- The last segment of a flat map that grew has come by a flat insertion.
use Rattle.std.proofs.Common.{◌≡◌, ◌≢◌, ℕ, zero, suc, ◌+◌, ◌*◌, ◌/◌, ◌<◌, ◌⊎◌, inl, inr, Bool, true, false, ◌||◌, eqb, List, ◌∷◌, length, refl, sym, ◌∙◌, ap, arith}
use Rattle.std.proofs.lemmas.Bool.{both_ways, cases_Bool, cases_eq, eq-eqb, eqb-true, or_cases, or_left, or_right}
use Rattle.xn_model.proofs.Decide.{iterate-step}
use Rattle.xn_extend.proofs.Cut.{IsCut, IsCut-turned, IsCut-without}
use Rattle.xn_extend.proofs.Pair.{ArePair, ArePair-darts, ArePair-turned}
use Rattle.xn_extend.proofs.Old.{AreIn, IsGrown, old_dart, old_from_dart}
use Rattle.xn_genus.proofs.Counts.{Permutes-face, stays_alone}
use Rattle.xn_genus.proofs.Dies.{components_stay, faces_rise}
use Rattle.xn_genus.proofs.Euler.{dies, dies-other, flat_dies}
use Rattle.xn_genus.proofs.Kept.{EndsIn-kept, along_kept_to, along_labels}
use Rattle.xn_genus.specs.Live.{IsFlatOn, IsMapOn, kept, without_segment}
use Rattle.xn_model.proofs.Darts.{reverse-reverse, tail-even, tail-odd}
use Rattle.xn_model.specs.Graph.{EndsIn, HasNoLoop, ends_at}
use Rattle.xn_model.specs.Insertion.{CutsFace, FlatInsertion, HangsAt, IsOldCorner, is_old}
use Rattle.xn_model.specs.Lists.{at, has}
use Rattle.xn_model.specs.Map.{component_labels, face_step, reverse_of, tail_of}
use Rattle.xn_model.specs.Permutation.{Permutes, Reaches, iterate, without}
use Rattle.xn_ring.proofs.Orbits.{comes_back, reaches_back, reaches_step, source_of}
use Rattle.xn_ring.proofs.Without.{without-at, without-before, without-other}

-- what leads to d is a dart of a segment that is in
pub record HasCorner (ends : List (ℕ × ℕ)) (done : List ℕ) (after : ℕ → ℕ) (d e : ℕ) : Type 0 where
  pub corner : ℕ
  pub below : corner < 2 * length ends
  pub leads : after corner ≡ d
  pub not_first : corner ≢ d
  pub not_second : corner ≢ e
  pub is_corner : IsOldCorner ends done d corner

-- a map of the segments that are in and of s
pub record HasLast (ends : List (ℕ × ℕ)) (done : List ℕ) (s : ℕ) (after : ℕ → ℕ) : Type 0 where
  pub live : ℕ → Bool
  pub live_is : (i : ℕ) → live i ≡ has (s ∷ done) i
  pub map : IsMapOn ends live after
  pub are_in : AreIn ends done
  pub new : has done s ≡ false

module _ (ends : List (ℕ × ℕ)) (done : List ℕ) (s : ℕ) (after : ℕ → ℕ) (has_last : HasLast ends done s after) (d e : ℕ) (pair : ArePair ends s d e) where
  abbrev tail : ℕ → ℕ
  tail = tail_of ends

  abbrev map : IsMapOn ends has_last.live after
  map = has_last.map

  live_old : (x : ℕ) → has done (x / 2) ≡ true → has_last.live (x / 2) ≡ true
  live_old x is = has_last.live_is (x / 2) ∙ or_right (eqb s (x / 2)) (has done (x / 2)) is

  live_pair : (x : ℕ) → x / 2 ≡ s → has_last.live (x / 2) ≡ true
  live_pair x half = has_last.live_is (x / 2) ∙ or_left (eqb s (x / 2)) (has done (x / 2)) (eq-eqb s (x / 2) (sym half))

  old_live : (x : ℕ) → has_last.live (x / 2) ≡ true → x ≢ d → x ≢ e → has done (x / 2) ≡ true
  old_live x lives not_d not_e = elim (or_cases (eqb s (x / 2)) (has done (x / 2)) (sym (has_last.live_is (x / 2)) ∙ lives)) [
    | inl here ↦ elim (pair.only x (sym (eqb-true s (x / 2) here))) [ inl first ↦ absurd (not_d first) | inr second ↦ absurd (not_e second) ]
    | inr later ↦ later
  ]

  pub first_second : d ≢ e
  first_second same = pair.two_nodes (ap tail same)

  pub first_leads : after d ≢ e
  first_leads same = pair.two_nodes (sym (map.same_node d pair.first_in) ∙ ap tail same)

  -- at a new node the dart is alone
  pub alone : is_old ends done (tail d) ≡ false → after d ≡ d
  alone is_new = elim (cases_eq (after d) d) [
    | inl same ↦ same
    | inr other ↦
        let y = after d in
        let y_in = map.permutes.below d pair.first_in in
        elim (cases_Bool (has_last.live (y / 2))) [
          | inl lives ↦
              let old = old_from_dart ends done y (old_live y lives other first_leads) in
              absurd (both_ways (is_old ends done (tail d)) is_new (ap (is_old ends done) (sym (map.same_node d pair.first_in)) ∙ old))
          | inr dead ↦ absurd (other (map.permutes.apart y d y_in pair.first_in (map.dead y y_in dead)))
        ]
  ]

  -- at an old node something else leads to it
  pub corner_of : is_old ends done (tail d) ≡ true → HasCorner ends done after d e
  corner_of old =
      let c = source_of (2 * length ends) after map.permutes d pair.first_in in
      let tails : tail c.0 ≡ tail d = sym (map.same_node c.0 c.1) ∙ ap tail c.2 in
      let not_second : c.0 ≢ e = λ same. pair.two_nodes (sym tails ∙ ap tail same) in
      let not_first : c.0 ≢ d = λ same.
      let is_alone : after d ≡ d = ap after (sym same) ∙ c.2 in
      let x = old_dart ends done has_last.are_in (tail d) old in
      let there = map.one_ring d x.0 pair.first_in x.1 (live_pair d pair.first_half) (live_old x.0 x.2) (sym x.3) in
      let at_d : x.0 ≡ d = sym there.1 ∙ stays_alone after d is_alone there.0 in
      both_ways (has done s) has_last.new (ap (has done) (sym pair.first_half ∙ ap (λ z. z / 2) (sym at_d)) ∙ x.2)
      in
      let lives : has_last.live (c.0 / 2) ≡ true = elim (cases_Bool (has_last.live (c.0 / 2))) [
        | inl lives ↦ lives
        | inr dead ↦ absurd (not_first (sym (map.dead c.0 c.1 dead) ∙ c.2))
      ] in
      record {
        corner = c.0;
        below = c.1;
        leads = c.2;
        not_first = not_first;
        not_second = not_second;
        is_corner = record { in_map = old_live c.0 lives not_first not_second; same_node = tails };
      }

module _ (ends : List (ℕ × ℕ)) (done : List ℕ) (s : ℕ) (after : ℕ → ℕ) (has_last : HasLast ends done s after) (d e : ℕ) (pair : ArePair ends s d e)
    (before : ℕ → ℕ) (cut : IsCut d e before after) where
  abbrev n : ℕ
  n = 2 * length ends

  abbrev permutes : Permutes n after
  permutes = has_last.map.permutes

  abbrev turned : ArePair ends s e d
  turned = ArePair-turned ends s d e pair

  -- the second end is new
  pub hangs : is_old ends done (tail_of ends d) ≡ true → is_old ends done (tail_of ends e) ≡ false → HangsAt ends done d e before after
  hangs old is_new =
      let c = corner_of ends done s after has_last d e pair old in
      let lone = alone ends done s after has_last e d turned is_new in
      record {
        corner = c.corner;
        is_corner = c.is_corner;
        new_end = is_new;
        stands = record {
          follows = c.leads;
          leads_on = sym (cut.to_first c.corner c.not_first c.not_second c.leads);
          others = λ x x_in not_c not_d. elim (cases_eq x e) [
            | inl at_e ↦ ap after at_e ∙ lone ∙ sym cut.at_second ∙ ap before (sym at_e)
            | inr not_e ↦ sym (cut.others x not_d not_e
                (λ to_d. not_c (permutes.apart x c.corner x_in c.below (to_d ∙ sym c.leads)))
                (λ to_e. not_e (permutes.apart x e x_in pair.second_in (to_e ∙ sym lone))))
          ];
        };
      }

  module _ (two_faces : ¬ Reaches (face_step after) d e) where
    abbrev face : ℕ → ℕ
    face = face_step after

    face_permutes : Permutes n face
    face_permutes = Permutes-face (length ends) after permutes

    from_second : face e ≡ after d
    from_second = ap after pair.turns_back

    never_first : (k : ℕ) → iterate face k (after d) ≢ d
    never_first k at_d =
        two_faces (reaches_back n face face_permutes e d pair.second_in
        (suc k, sym (iterate-step face k e) ∙ ap (iterate face k) from_second ∙ at_d))

    -- along the face of the second dart, up to what led to it
    along : (k : ℕ) → Reaches (face_step before) (after d) (after e)
        ⊎ (Reaches (face_step before) (after d) (iterate face k (after d)) × (iterate face k (after d) ≢ e))
    along zero = inr ((0, refl), first_leads ends done s after has_last d e pair)
    along (suc k) = elim (along k) [
      | inl there ↦ inl there
      | inr so_far ↦
          let z = iterate face k (after d) in
          let r = reverse_of z in
          let on = reaches_step (face_step before) (after d) z so_far.0 in
          let not_d : r ≢ d = λ same. so_far.1 (sym (reverse-reverse z) ∙ ap reverse_of same ∙ pair.turns) in
          let not_e : r ≢ e = λ same. never_first k (sym (reverse-reverse z) ∙ ap reverse_of same ∙ pair.turns_back) in
          elim (cases_eq (after r) e) [
            | inl to_e ↦ inl (on.0, on.1 ∙ cut.to_second r not_d not_e to_e)
            | inr past_e ↦ inr ((on.0, on.1 ∙ cut.others r not_d not_e (never_first (suc k)) past_e), past_e)
          ]
    ]

    pub merged : Reaches (face_step before) (after d) (after e)
    merged =
        let home = comes_back n face face_permutes e pair.second_in in
        let at_e : iterate face home.0 (after d) ≡ e = ap (iterate face home.0) (sym from_second) ∙ iterate-step face home.0 e ∙ home.2 in
        elim (along home.0) [ inl there ↦ there | inr so_far ↦ absurd (so_far.1 at_e) ]

-- both ends are old
module _ (ends : List (ℕ × ℕ)) (done : List ℕ) (s : ℕ) (after : ℕ → ℕ) (has_last : HasLast ends done s after) (pair : ArePair ends s (2 * s) (2 * s + 1))
    (before : ℕ → ℕ) (cut : IsCut (2 * s) (2 * s + 1) before after) where
  pub cuts : ¬ Reaches (face_step after) (2 * s) (2 * s + 1) → is_old ends done (tail_of ends (2 * s)) ≡ true → is_old ends done (tail_of ends (2 * s + 1)) ≡ true →
      CutsFace ends done s before after
  cuts two_faces first_old second_old =
      let n = 2 * length ends in
      let d = 2 * s in
      let e = 2 * s + 1 in
      let turned = ArePair-turned ends s d e pair in
      let permutes = has_last.map.permutes in
      let a = corner_of ends done s after has_last d e pair first_old in
      let b = corner_of ends done s after has_last e d turned second_old in
      let apart : d ≢ e = first_second ends done s after has_last d e pair in
      let there : after d ≢ e = first_leads ends done s after has_last d e pair in
      let one = merged ends done s after has_last d e pair before cut two_faces in
      let to_a : before a.corner ≡ after d = cut.to_first a.corner a.not_first a.not_second a.leads in
      let to_b : before b.corner ≡ after e = cut.to_second b.corner b.not_second b.not_first b.leads in
      let between = without e after in
      record {
        first = a.corner;
        second = b.corner;
        is_first = a.is_corner;
        is_second = b.is_corner;
        one_face = (one.0, ap (iterate (face_step before) one.0) to_a ∙ one.1 ∙ sym to_b);
        between = between;
        first_stands = record {
          follows = without-other e after a.corner a.not_second (λ same. apart (sym a.leads ∙ same)) ∙ a.leads;
          leads_on = without-other e after d apart there ∙ sym to_a;
          others = λ x x_in not_a not_d. elim (cases_eq x e) [
            | inl at_e ↦ ap between at_e ∙ without-at e after ∙ sym cut.at_second ∙ ap before (sym at_e)
            | inr not_e ↦ elim (cases_eq (after x) e) [
              | inl to_e ↦ without-before e after x not_e to_e ∙ sym (cut.to_second x not_d not_e to_e)
              | inr past_e ↦ without-other e after x not_e past_e
                  ∙ sym (cut.others x not_d not_e (λ to_d. not_a (permutes.apart x a.corner x_in a.below (to_d ∙ sym a.leads))) past_e)
            ]
          ];
        };
        second_stands = record {
          follows = b.leads;
          leads_on = sym (without-before e after b.corner b.not_first b.leads);
          others = λ x x_in not_b not_e.
              sym (without-other e after x not_e (λ to_e. not_b (permutes.apart x b.corner x_in b.below (to_e ∙ sym b.leads))));
        };
      }

module _ (nodes : ℕ) (ends : List (ℕ × ℕ)) (ends_in : EndsIn nodes ends) (done : List ℕ) (s : ℕ) (s_in : s < length ends) (after : ℕ → ℕ) (has_last : HasLast ends done s after)
    (grown : IsGrown ends done) where
  abbrev live : ℕ → Bool
  live = has_last.live

  abbrev left : List (ℕ × ℕ)
  left = kept (dies s live) ends

  pub last_lives : live s ≡ true
  last_lives = has_last.live_is s ∙ or_left (eqb s s) (has done s) (eq-eqb s s refl)

  left_lives : (j : ℕ) → has done j ≡ true → dies s live j ≡ true
  left_lives j is =
      dies-other s live j (λ same. both_ways (has done s) has_last.new (ap (has done) (sym same) ∙ is))
      ∙ has_last.live_is j ∙ or_right (eqb s j) (has done j) is

  -- the old nodes are in one component
  pub one_label : (u v : ℕ) → is_old ends done u ≡ true → is_old ends done v ≡ true → at (component_labels nodes left) u ≡ at (component_labels nodes left) v
  one_label u v u_old v_old =
      let m = at (component_labels nodes left) in
      let t = grown.tied m (λ j is. along_kept_to m (dies s live) ends (along_labels nodes left (EndsIn-kept nodes (dies s live) ends ends_in))
      j (has_last.are_in j is) (left_lives j is)) in
      t.1 u u_old ∙ sym (t.1 v v_old)

  -- so a flat map has two faces at the segment
  two_faces : IsFlatOn nodes ends live after → is_old ends done (ends_at ends s).0 ≡ true → is_old ends done (ends_at ends s).1 ≡ true →
      ¬ Reaches (face_step after) (2 * s) (2 * s + 1)
  two_faces flat u_old v_old same =
      let rise = faces_rise nodes ends live after has_last.map ends_in s s_in last_lives same in
      let stay = components_stay nodes ends live after has_last.map ends_in s s_in last_lives
      (one_label (ends_at ends s).0 (ends_at ends s).1 u_old v_old) in
      let less = flat_dies nodes ends ends_in live after has_last.map s s_in last_lives flat in
      omega (arith, rise, stay, less, flat)

  pub last_is_inserted : HasNoLoop ends → (is_old ends done (ends_at ends s).0 || is_old ends done (ends_at ends s).1) ≡ true → IsFlatOn nodes ends live after →
      FlatInsertion ends done s (without_segment s after) after
  last_is_inserted no_loop shares flat =
      let u = (ends_at ends s).0 in
      let v = (ends_at ends s).1 in
      let d = 2 * s in
      let e = 2 * s + 1 in
      let pair = ArePair-darts ends s s_in (no_loop s s_in) in
      let turned = ArePair-turned ends s d e pair in
      let before = without_segment s after in
      let cut : IsCut d e before after = IsCut-without d e after (first_second ends done s after has_last d e pair)
      (first_leads ends done s after has_last d e pair) (first_leads ends done s after has_last e d turned) in
      let at_u : is_old ends done (tail_of ends d) ≡ is_old ends done u = ap (is_old ends done) (tail-even ends s) in
      let at_v : is_old ends done (tail_of ends e) ≡ is_old ends done v = ap (is_old ends done) (tail-odd ends s) in
      elim (cases_Bool (is_old ends done u)) [
        | inl u_old ↦ elim (cases_Bool (is_old ends done v)) [
          | inl v_old ↦ inr (inr (cuts ends done s after has_last pair before cut (two_faces flat u_old v_old) (at_u ∙ u_old) (at_v ∙ v_old)))
          | inr v_new ↦ inl (hangs ends done s after has_last d e pair before cut (at_u ∙ u_old) (at_v ∙ v_new))
        ]
        | inr u_new ↦ elim (or_cases (is_old ends done u) (is_old ends done v) shares) [
          | inl u_old ↦ absurd (both_ways (is_old ends done u) u_new u_old)
          | inr v_old ↦ inr (inl (hangs ends done s after has_last e d turned before (IsCut-turned d e before after cut) (at_v ∙ v_old) (at_u ∙ u_new)))
        ]
      ]
