-- A loose drawing is a track.
use Rattle.std.proofs.Common.{◌≡◌, ◌≢◌, ℕ, zero, suc, ◌+◌, ◌-◌, ◌*◌, ◌/◌, ◌<◌, ◌≤◌, inl, inr, Bool, true, false, ◌&&◌, eqb, leb, ltb, List, [], ◌∷◌, length, refl, sym, ◌∙◌, ap, arith}
use Rattle.std.proofs.lemmas.Bool.{and_from, and_parts, both_ways, cases_Bool, cases_lt, cases_order, cond-true, eq-eqb, eqb-false, eqb-true, le-leb, leb-true, lt-ltb, ltb-true, ne_eqb}
use Rattle.xn_model.specs.Graph.{ends_at}
use Rattle.xn_model.specs.Lists.{one_if, total}
use Rattle.xn_model.specs.Loose.{GoesStraight, dart_count, times_walked}
use Rattle.xn_model.specs.Map.{IsMap, WalksTo, reverse_of, tail_of}
use Rattle.xn_model.specs.Permutation.{count_below, iterate}
use Rattle.xn_ring.proofs.Counting.{count-all, count-none, count_injects}
use Rattle.xn_ring.proofs.Orbits.{comes_back, first_below, iterate-add, iterate_apart, iterate_below, within_round}
use Rattle.xn_genus.proofs.Compress.{tail_in}
use Rattle.xn_track.specs.Simplifying.{LooseDrawingsAreTracks}
use Rattle.xn_track.specs.Track.{GoesOn, straight_on}
use Rattle.xn_track.proofs.Tally.{times-flat_map, total-le}

-- ---- a node with four darts

module _ (nodes : ℕ) (ends : List (ℕ × ℕ)) (next : ℕ → ℕ) (map : IsMap nodes ends next) (d : ℕ) (d_in : d < 2 * length ends) where
  abbrev n : ℕ
  n = 2 * length ends

  same_node : (j : ℕ) → tail_of ends (iterate next j d) ≡ tail_of ends d
  same_node zero = refl
  same_node (suc j) = map.same_node (iterate next j d) (iterate_below n next map.permutes j d d_in) ∙ same_node j

  module _ (m : ℕ) (back : iterate next (suc m) d ≡ d) (least : (i : ℕ) → i < m → eqb (iterate next (suc i) d) d ≡ false) where
    few : count_below n (λ x. eqb (tail_of ends x) (tail_of ends d)) ≤ suc m
    few =
        let into = count_injects n (suc m) (λ x. eqb (tail_of ends x) (tail_of ends d)) (λ j. true) (λ x j. iterate next j d ≡ x)
        (λ x x_in h.
        let there = map.one_ring d x d_in x_in (sym (eqb-true _ _ h)) in
        let j = within_round n next map.permutes d m back there.0 in
        (j.0, omega (arith, j.1), refl, j.2 ∙ there.1))
        (λ x y j x_in y_in one two. sym one ∙ two) in
        omega (arith, into, count-all (suc m))

    no_sooner : (i j : ℕ) → j ≤ m → i < j → iterate next i d ≡ iterate next j d → ⊥
    no_sooner i j j_in low same =
        let k = j - i - 1 in
        let e : i + suc k ≡ j = omega (arith, low) in
        let again : iterate next i (iterate next (suc k) d) ≡ iterate next i d = sym (iterate-add next i (suc k) d) ∙ ap (λ x. iterate next x d) e ∙ sym same in
        eqb-false _ _ (least k (omega (arith, e, j_in, low))) (iterate_apart n next map.permutes i (iterate next (suc k) d) d (iterate_below n next map.permutes (suc k) d d_in) d_in again)

    many : suc m ≤ count_below n (λ x. eqb (tail_of ends x) (tail_of ends d))
    many =
        let into = count_injects (suc m) n (λ j. true) (λ x. eqb (tail_of ends x) (tail_of ends d)) (λ j x. (j ≤ m) × (iterate next j d ≡ x))
        (λ j j_in h. (iterate next j d, iterate_below n next map.permutes j d d_in, eq-eqb _ _ (same_node j), (omega (arith, j_in), refl)))
        (λ i j x i_in j_in one two. elim (cases_order i j) [
          | inl same ↦ same
          | inr (inl low) ↦ absurd (no_sooner i j two.0 low (one.1 ∙ sym two.1))
          | inr (inr high) ↦ absurd (no_sooner j i one.0 high (two.1 ∙ sym one.1))
        ]) in
        omega (arith, into, count-all (suc m))

    four_round : dart_count ends (tail_of ends d) ≡ 4 → (next (next d) ≢ d) × (next (next (next (next d))) ≡ d)
    four_round count =
        let three : m ≡ 3 = omega (arith, few, many, count) in
        (λ same. eqb-false _ _ (least 1 (omega (arith, three))) same, sym (ap (λ k. iterate next (suc k) d) three) ∙ back)

  pub crossing_by_count : dart_count ends (tail_of ends d) ≡ 4 → (next (next d) ≢ d) × (next (next (next (next d))) ≡ d)
  crossing_by_count count = elim (first_below n (λ j. eqb (iterate next (suc j) d) d)) [
    | inl found ↦ four_round found.0 (eqb-true _ _ found.2) found.3 count
    | inr none ↦ let round = comes_back n next map.permutes d d_in in absurd (eqb-false _ _ (none round.0 round.1) round.2)
  ]

-- ---- walks

goes_on : (nodes : ℕ) (ends : List (ℕ × ℕ)) (next : ℕ → ℕ) (four : ℕ → Bool) → ((d : ℕ) → d < 2 * length ends → nodes ≤ tail_of ends d → four (tail_of ends d) ≡ true) →
    (u v : ℕ) (ds : List ℕ) → WalksTo ends u ds v → GoesStraight nodes ends next ds → GoesOn nodes ends (straight_on ends four next) ds
goes_on nodes ends next four crosses u v [] walk goes = tt
goes_on nodes ends next four crosses u v (d ∷ []) walk goes = tt
goes_on nodes ends next four crosses u v (d ∷ e ∷ ds) walk goes =
    let here : four (tail_of ends (reverse_of d)) ≡ true = ap four (sym walk.2.1) ∙ crosses e walk.2.0 goes.0 in
    (goes.0, cond-true _ _ _ here ∙ goes.1, goes_on nodes ends next four crosses (tail_of ends (reverse_of d)) v (e ∷ ds) walk.2 goes.2)

pub not_walked : (ends : List (ℕ × ℕ)) (u v : ℕ) (ds : List ℕ) → WalksTo ends u ds v → (s : ℕ) → length ends ≤ s → times_walked s ds ≤ 0
not_walked ends u v [] walk s past = omega arith
not_walked ends u v (d ∷ ds) walk s past =
    let here : one_if (eqb (d / 2) s) ≡ 0 = let low = walk.0 in ap one_if (ne_eqb (d / 2) s (λ same. omega (arith, low, past, same))) in
    let rest = not_walked ends (tail_of ends (reverse_of d)) v ds walk.2 s past in
    omega (arith, here, rest)

pub none_below : (n c : ℕ) (p : ℕ → Bool) → ((v : ℕ) → v < n → p v ≡ false) → count_below (n + c) p ≤ c
none_below n zero p none =
    let e : n + 0 ≡ n = omega arith in
    let all = count-none n p none in
    let same : count_below (n + 0) p ≡ count_below n p = ap (λ k. count_below k p) e in
    omega (arith, all, same)
none_below n (suc c) p none =
    let e : n + suc c ≡ suc (n + c) = omega arith in
    let rest = none_below n c p none in
    let last = at_most (p (n + c)) in
    let same : count_below (n + suc c) p ≡ count_below (n + c) p + one_if (p (n + c)) = ap (λ k. count_below k p) e in
    omega (arith, rest, last, same)
  where
    at_most : (b : Bool) → one_if b ≤ 1
    at_most true = omega arith
    at_most false = omega arith

pub loose_drawings_are_tracks : LooseDrawingsAreTracks
loose_drawings_are_tracks g edges further web next walks loose =
    let four : ℕ → Bool = λ v. leb g.nodes v && ltb v web.nodes in
    let the_map = loose.is_flat_map.is_map in
    let crosses : (d : ℕ) → d < 2 * length web.ends → g.nodes ≤ tail_of web.ends d → four (tail_of web.ends d) ≡ true =
    λ d d_in high. and_from _ _ (le-leb _ _ high) (lt-ltb _ _ (tail_in web.nodes web.ends the_map.ends_in d d_in)) in
    let parts : (v : ℕ) → four v ≡ true → (g.nodes ≤ v) × (v < web.nodes) = λ v h.
    let both : (leb g.nodes v ≡ true) × (ltb v web.nodes ≡ true) = and_parts _ _ h in
    (leb-true _ _ both.0, ltb-true _ _ both.1) in (
      four,
      record {
        edge_list = loose.edge_list;
        ground = record {
          nodes_in = let all = loose.nodes in omega (arith, all);
          is_flat_map = loose.is_flat_map;
          further = parts;
          crossing = λ d d_in h.
              let v = parts (tail_of web.ends d) h in
              crossing_by_count web.nodes web.ends next the_map d d_in (loose.four (tail_of web.ends d) v.0 v.1);
          bend = λ d d_in high fails. absurd (both_ways _ fails (crosses d d_in high));
        };
        lead = loose.lead;
        straight = λ e e_in. goes_on g.nodes web.ends next four crosses (ends_at g.ends e).0 (ends_at g.ends e).1 (walks e) (loose.lead e e_in) (loose.straight e e_in);
        once = λ s. elim (cases_lt s (length web.ends)) [
          | inl low ↦ let one = loose.once s low in omega (arith, one)
          | inr past ↦
              let sum = times-flat_map s walks edges in
              let none = total-le (λ e. times_walked s (walks e)) (λ e. 0) edges (λ e e_in. not_walked web.ends (ends_at g.ends e).0 (ends_at g.ends e).1 (walks e) (loose.lead e e_in) s past) in
              let zero_sum = no_terms edges in
              omega (arith, sum, none, zero_sum)
        ];
      },
      (
          let few = none_below g.nodes further four (λ v low. elim (cases_Bool (four v)) [ inr fails ↦ fails | inl h ↦ let high = (parts v h).0 in absurd (omega (arith, high, low)) ]) in
          let same : count_below web.nodes four ≡ count_below (g.nodes + further) four = ap (λ k. count_below k four) loose.nodes in
          omega (arith, few, same)
          ),
    )
  where
    no_terms : (es : List ℕ) → total (λ e. 0) es ≡ 0
    no_terms [] = refl
    no_terms (e ∷ es) = let rest = no_terms es in omega (arith, rest)
