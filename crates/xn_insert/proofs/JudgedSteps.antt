-- The steps by which walks are judged.
use Rattle.std.proofs.Common.{◌≡◌, ◌≢◌, ℕ, zero, suc, ◌+◌, ◌*◌, ◌/◌, ◌<◌, ◌≤◌, inl, inr, Bool, true, false, List, [], ◌∷◌, ◌++◌, eqb, length, take, set, replicate, min, refl, sym, ◌∙◌, ap, subst, arith}
use Rattle.std.specs.List.{flat_map, range_with_len}
use Rattle.std.proofs.lemmas.Bool.{both_ways, cases_Bool, cases_eq, cases_lt, eq-eqb, ne_eqb}
use Rattle.std.proofs.lemmas.List.{append-nil, get_or-replicate, get_or-set_other, get_or-set_same, length-replicate, length-set}
use Rattle.std.proofs.lemmas.List.Concat.{flat_map-append}
use Rattle.xn_model.specs.Graph.{Graph}
use Rattle.xn_model.specs.Lists.{at, one_if}
use Rattle.xn_model.specs.Loose.{times_walked}
use Rattle.xn_model.specs.Map.{reverse_of, tail_of}
use Rattle.xn_model.proofs.Ranges.{range-push}
use Rattle.xn_map.specs.Listed.{ListedMap}
use Rattle.xn_map.specs.Marks.{is_marked}
use Rattle.xn_map.proofs.Marking.{is_marked-set}
use Rattle.xn_track.proofs.Passes.{walk_in}
use Rattle.xn_insert.specs.Judged.{AreBends, AreTimes, BendsAt, HasTurns, HasWalks, IsCrossing, IsFirstFailing, IsUnmarkedFour, IsWalkedOnce, MarksBends, WalksOnce, darts_walked}
use Rattle.xn_insert.specs.ListedLoose.{walk_of}
use Rattle.xn_insert.proofs.Started.{total-take}

-- ---- how often segments are walked

pub times_none : (segments : ℕ) (darts : List ℕ) → AreTimes segments (take 0 darts) (replicate segments 0)
times_none segments darts = record { long = length-replicate segments 0; each = λ s s_in. get_or-replicate segments s 0 0 s_in }

pub times_more : (segments : ℕ) (darts times : List ℕ) (i s x : ℕ) → i < length darts → AreTimes segments (take i darts) times → s ≡ at darts i / 2 → s < segments → x ≡ min (at times s + 1) 2 →
    AreTimes segments (take (suc i) darts) (set times s x)
times_more segments darts times i s x i_in was s_is s_in x_is = record {
  long = length-set times s x ∙ was.long;
  each = λ t t_in.
      let more : times_walked t (take (suc i) darts) ≡ times_walked t (take i darts) + one_if (eqb (at darts i / 2) t) = total-take (λ d. one_if (eqb (d / 2) t)) darts i i_in in
      let old = was.each t t_in in
      let size = was.long in
      elim (cases_eq t s) [
        | inl same ↦
            let one : one_if (eqb (at darts i / 2) t) ≡ 1 = ap one_if (eq-eqb (at darts i / 2) t (sym s_is ∙ sym same)) in
            let here : at (set times s x) t ≡ x = ap (at (set times s x)) same ∙ get_or-set_same times s x 0 (omega (arith, s_in, size)) in
            let there : at times s ≡ at times t = ap (at times) (sym same) in
            omega (arith, more, old, one, here, there, x_is)
        | inr other ↦
            let none : one_if (eqb (at darts i / 2) t) ≡ 0 = ap one_if (ne_eqb (at darts i / 2) t (λ is. other (sym is ∙ sym s_is))) in
            let kept : at (set times s x) t ≡ at times t = get_or-set_other times s t x 0 other in
            omega (arith, more, old, none, kept)
      ];
}

-- a count up to two is one exactly where the segment is walked once
pub once_from : (n : ℕ) (x : ℕ) → x ≡ min n 2 → x ≡ 1 → n ≡ 1
once_from n x is one = omega (arith, is, one)

pub once_to : (n : ℕ) (x : ℕ) → x ≡ min n 2 → n ≡ 1 → x ≡ 1
once_to n x is one = omega (arith, is, one)

module _ (g : Graph) (m : ListedMap) (walks : List (List ℕ)) (is : HasWalks g m walks) (times : List ℕ) (counts : AreTimes (length m.web.ends) (darts_walked walks) times) where
  pub all_once : ((s : ℕ) → s < length times → at times s ≡ 1) → WalksOnce g m walks
  all_once each =
      let long = counts.long in
      record { has_walks = is; once = λ s s_in. once_from (times_walked s (darts_walked walks)) (at times s) (counts.each s s_in) (each s (omega (arith, s_in, long))) }

  pub not_once : (s : ℕ) → s < length times → IsFirstFailing 0 (λ t. at times t ≡ 1) s → (s < length m.web.ends) × IsFirstFailing 0 (IsWalkedOnce walks) s
  not_once s s_in first =
      let long = counts.long in
      let low : s < length m.web.ends = omega (arith, s_in, long) in (
        low,
        record {
          from = omega arith;
          fails = λ one. first.fails (once_to (times_walked s (darts_walked walks)) (at times s) (counts.each s low) one);
          before = λ t from less. once_from (times_walked t (darts_walked walks)) (at times t) (counts.each t (omega (arith, less, low))) (first.before t from less);
        },
      )

-- ---- the darts of all walks

pub joined_more : (walks : List (List ℕ)) (darts walk : List ℕ) (e : ℕ) → darts ≡ flat_map (walk_of walks) (range_with_len 0 e) → walk ≡ walk_of walks e →
    darts ++ walk ≡ flat_map (walk_of walks) (range_with_len 0 (e + 1))
joined_more walks darts walk e so_far walk_is =
    ap (λ l. l ++ walk) so_far
    ∙ ap (λ w. flat_map (walk_of walks) (range_with_len 0 e) ++ w) (walk_is ∙ sym (append-nil (walk_of walks e)))
    ∙ sym (flat_map-append (walk_of walks) (range_with_len 0 e) (e ∷ []))
    ∙ ap (flat_map (walk_of walks)) (sym (range-push e))

module _ (g : Graph) (m : ListedMap) (walks : List (List ℕ)) (is : HasWalks g m walks) where
  pub walk_low : (e i : ℕ) → i < length (walk_of walks e) → at (walk_of walks e) i < 2 * length m.web.ends
  walk_low e i i_in = elim (cases_lt e (length walks)) [
    | inl low ↦
        let size = is.sizes.one_each in
        walk_in m.web.ends _ _ (walk_of walks e) (is.lead e (omega (arith, low, size))).0 i i_in
    | inr past ↦ let none = ap length (past_all walks e (omega (arith, past))) in absurd (omega (arith, i_in, none))
  ]
    where
      past_all : (ws : List (List ℕ)) (x : ℕ) → length ws ≤ x → walk_of ws x ≡ []
      past_all [] x past = refl
      past_all (w ∷ ws) zero past = absurd (omega (arith, past))
      past_all (w ∷ ws) (suc x) past = past_all ws x (omega (arith, past))

  pub darts_low : (i : ℕ) → i < length (darts_walked walks) → at (darts_walked walks) i < 2 * length m.web.ends
  darts_low i i_in = flat_low (range_with_len 0 (length walks)) i i_in
    where
      joined_low : (bound : ℕ) (xs ys : List ℕ) → ((i : ℕ) → i < length xs → at xs i < bound) → ((i : ℕ) → i < length ys → at ys i < bound) → (i : ℕ) → i < length (xs ++ ys) → at (xs ++ ys) i < bound
      joined_low bound [] ys x_low y_low i i_in = y_low i i_in
      joined_low bound (x ∷ xs) ys x_low y_low zero i_in = x_low 0 (omega arith)
      joined_low bound (x ∷ xs) ys x_low y_low (suc i) i_in = joined_low bound xs ys (λ j j_in. x_low (suc j) (omega (arith, j_in))) y_low i (omega (arith, i_in))

      flat_low : (es : List ℕ) (i : ℕ) → i < length (flat_map (walk_of walks) es) → at (flat_map (walk_of walks) es) i < 2 * length m.web.ends
      flat_low [] i i_in = absurd (omega (arith, i_in))
      flat_low (e ∷ es) i i_in = joined_low (2 * length m.web.ends) (walk_of walks e) (flat_map (walk_of walks) es) (walk_low e) (flat_low es) i i_in

-- ---- where walks bend

pub bends_begun : (m : ListedMap) (walk : List ℕ) (marks : List Bool) → length marks ≡ m.web.nodes → MarksBends m walk 1 marks marks
bends_begun m walk marks size = record {
  long = size;
  marks = λ v v_in. (λ is. inl is, λ either. elim either [ inl is ↦ is | inr b ↦ absurd (let low = b.1 in omega (arith, low)) ]);
}

module _ (m : ListedMap) (walk : List ℕ) (j i : ℕ) (is : suc j ≡ i) (i_in : i < length walk) (old marks : List Bool) (was : MarksBends m walk i old marks) where
  earlier : (b : ℕ) → suc b < i + 1 → b ≢ j → suc b < i
  earlier b low other = omega (arith, low, other, is)

  -- the walk goes straight there
  pub bends_same : at m.next (at m.next (reverse_of (at walk j))) ≡ at walk i → MarksBends m walk (i + 1) old marks
  bends_same straight = record {
    long = was.long;
    marks = λ v v_in. (
      λ marked. elim ((was.marks v v_in).0 marked) [ inl before ↦ inl before | inr b ↦ inr (b.0, (let low = b.1 in omega (arith, low)), b.2) ],
      λ either. elim either [
        | inl before ↦ (was.marks v v_in).1 (inl before)
        | inr b ↦ elim (cases_eq b.0 j) [
          | inl here ↦
              absurd (b.2.bends (ap (λ k. at m.next (at m.next (reverse_of (at walk k)))) here ∙ straight ∙ ap (at walk) (sym is ∙ ap suc (sym here))))
          | inr other ↦ (was.marks v v_in).1 (inr (b.0, earlier b.0 b.1 other, b.2))
        ]
      ],
    );
  }

  -- it bends there
  pub bends_more : (w : ℕ) → w ≡ tail_of m.web.ends (at walk i) → w < m.web.nodes → at m.next (at m.next (reverse_of (at walk j))) ≢ at walk i →
      MarksBends m walk (i + 1) old (set marks w true)
  bends_more w w_is w_in bends =
      let long = was.long in
      record {
        long = length-set marks w true ∙ long;
        marks = λ v v_in. elim (is_marked-set marks w v (omega (arith, w_in, long))) [
          | inl here ↦
              let own : BendsAt m walk v j = record {
                goes_on = omega (arith, is, i_in);
                there = ap (λ k. tail_of m.web.ends (at walk k)) is ∙ sym w_is ∙ sym here.0;
                bends = λ same. bends (same ∙ ap (at walk) is);
              } in
              (λ marked. inr (j, (omega (arith, is)), own), λ either. here.1)
          | inr there ↦ (
            λ marked. elim ((was.marks v v_in).0 (sym there.1 ∙ marked)) [ inl before ↦ inl before | inr b ↦ inr (b.0, (let low = b.1 in omega (arith, low)), b.2) ],
            λ either. there.1 ∙ elim either [
              | inl before ↦ (was.marks v v_in).1 (inl before)
              | inr b ↦ elim (cases_eq b.0 j) [
                | inl last ↦ absurd (there.0 (sym b.2.there ∙ ap (λ k. tail_of m.web.ends (at walk (suc k))) last ∙ ap (λ k. tail_of m.web.ends (at walk k)) is ∙ sym w_is))
                | inr other ↦ (was.marks v v_in).1 (inr (b.0, earlier b.0 b.1 other, b.2))
              ]
            ],
          )
        ];
      }

-- all places are looked at
pub bends_done : (m : ListedMap) (walk : List ℕ) (n : ℕ) (old new : List Bool) → length walk ≤ n → MarksBends m walk n old new → MarksBends m walk (length walk) old new
bends_done m walk n old new past was = record {
  long = was.long;
  marks = λ v v_in. (
    λ marked. elim ((was.marks v v_in).0 marked) [ inl before ↦ inl before | inr b ↦ inr (b.0, b.2.goes_on, b.2) ],
    λ either. (was.marks v v_in).1 (elim either [ inl before ↦ inl before | inr b ↦ inr (b.0, (let low = b.1 in omega (arith, low, past)), b.2) ]),
  );
}

pub no_bends : (m : ListedMap) (walks : List (List ℕ)) → AreBends m walks 0 (replicate m.web.nodes false)
no_bends m walks = record {
  long = length-replicate m.web.nodes false;
  bent = λ v v_in. (
    λ is. absurd (both_ways _ (get_or-replicate m.web.nodes v false false v_in) is),
    λ b. absurd (let low = b.2 in omega (arith, low)),
  );
}

pub bends_of_one : (m : ListedMap) (walks : List (List ℕ)) (e : ℕ) (walk : List ℕ) (old new : List Bool) → walk ≡ walk_of walks e → AreBends m walks e old → MarksBends m walk (length walk) old new →
    AreBends m walks (e + 1) new
bends_of_one m walks e walk old new walk_is was more = record {
  long = more.long;
  bent = λ v v_in. (
    λ is. elim ((more.marks v v_in).0 is) [
      | inl before ↦ let b = (was.bent v v_in).0 before in (b.0, b.1, let low = b.2 in omega (arith, low), b.3)
      | inr b ↦ (e, b.0, omega arith, subst (λ w. BendsAt m w v b.0) walk_is b.2)
    ],
    λ b. elim (cases_eq b.0 e) [
      | inl here ↦
          let own : BendsAt m walk v b.1 = subst (λ w. BendsAt m w v b.1) (ap (walk_of walks) here ∙ sym walk_is) b.3 in
          (more.marks v v_in).1 (inr (b.1, own.goes_on, own))
      | inr other ↦ (more.marks v v_in).1 (inl ((was.bent v v_in).1 (b.0, b.1, let low = b.2 in omega (arith, low, other), b.3)))
    ],
  );
}

-- ---- crossings

module _ (g : Graph) (m : ListedMap) (walks : List (List ℕ)) (size : length walks ≡ length g.ends) (marks : List Bool) (bends : AreBends m walks (length walks) marks) where
  pub crossing_from : (v : ℕ) → v < m.web.nodes → IsUnmarkedFour m.web.ends marks v → IsCrossing m walks v
  crossing_from v v_in is = (
    is.0,
    λ b. elim (cases_lt b.0 (length walks)) [
      | inl low ↦ both_ways _ is.1 ((bends.bent v v_in).1 (b.0, b.1, low, b.2))
      | inr past ↦
          let none = ap length (past_all walks b.0 (omega (arith, past))) in
          let some = b.2.goes_on in
          omega (arith, none, some)
    ],
  )
    where
      past_all : (ws : List (List ℕ)) (x : ℕ) → length ws ≤ x → walk_of ws x ≡ []
      past_all [] x past = refl
      past_all (w ∷ ws) zero past = absurd (omega (arith, past))
      past_all (w ∷ ws) (suc x) past = past_all ws x (omega (arith, past))

  pub crossing_to : (v : ℕ) → v < m.web.nodes → IsCrossing m walks v → IsUnmarkedFour m.web.ends marks v
  crossing_to v v_in is = (
    is.0,
    elim (cases_Bool (is_marked marks v)) [
      | inr out ↦ out
      | inl marked ↦ let b = (bends.bent v v_in).0 marked in absurd (is.1 (b.0, b.1, b.3))
    ],
  )

  pub all_cross : WalksOnce g m walks → ((v : ℕ) → g.nodes ≤ v → v < m.web.nodes → IsUnmarkedFour m.web.ends marks v) → HasTurns g m walks
  all_cross once each = record { walked = once; crossings = λ v low high. crossing_from v high (each v low high) }

  pub first_failing : (v : ℕ) → v < m.web.nodes → IsFirstFailing g.nodes (IsUnmarkedFour m.web.ends marks) v → IsFirstFailing g.nodes (IsCrossing m walks) v
  first_failing v v_in first = record {
    from = first.from;
    fails = λ is. first.fails (crossing_to v v_in is);
    before = λ w low less. crossing_from w (omega (arith, less, v_in)) (first.before w low less);
  }
