-- Runs of segments become one segment each: a contraction.
use Rattle.std.proofs.Common.{◌≡◌, ◌≢◌, ℕ, zero, suc, ◌+◌, ◌-◌, ◌*◌, ◌/◌, ◌%◌, ◌<◌, ◌≤◌, ◌⊎◌, inl, inr, Bool, true, false, not, eqb, List, length, refl, sym, ◌∙◌, ap, arith}
use Rattle.std.proofs.lemmas.Bool.{both_ways, cases_Bool, cases_eq, cond-true, cond-false, eq-eqb, eqb-true, ne_eqb, not-true}
use Rattle.xn_model.specs.Map.{MeetsEuler, IsMap, face_step, is_lone, reverse_of, tail_of}
use Rattle.xn_model.specs.Permutation.{count_below, iterate}
use Rattle.xn_surgery.specs.Contraction.{IsContraction, along_chain}
use Rattle.xn_model.proofs.Darts.{cases_dart, reverse-even, reverse-odd, reverse_below}
use Rattle.xn_ring.proofs.Counting.{count-all, count_injects}
use Rattle.xn_genus.proofs.Compress.{tail_in}
use Rattle.xn_genus.proofs.Lone.{dart_if_not_lone}
use Rattle.xn_genus.proofs.Part.{index, index_is}
use Rattle.xn_genus.proofs.Tests.{some_below, some_below-from, some_below-to}
use Rattle.xn_surgery.proofs.Contract.{components_left, faces_left, map_left}
use Rattle.xn_model.proofs.Counts.{count-not}
use Rattle.xn_track.specs.Cutting.{CuttingLeavesAMap, IsCutting, TurnsAsRuns, run_dart}

pub run_even : (first last : ℕ → ℕ) (j : ℕ) → run_dart first last (2 * j) ≡ 2 * first j
run_even first last j =
    let bit : (2 * j) % 2 ≡ 0 = omega arith in
    let half : (2 * j) / 2 ≡ j = omega arith in
    cond-true _ _ _ (eq-eqb _ _ bit) ∙ ap (λ i. 2 * first i) half

pub run_odd : (first last : ℕ → ℕ) (j : ℕ) → run_dart first last (2 * j + 1) ≡ 2 * last j + 1
run_odd first last j =
    let bit : (2 * j + 1) % 2 ≢ 0 = λ e. omega arith in
    let half : (2 * j + 1) / 2 ≡ j = omega arith in
    cond-false _ _ _ (ne_eqb _ _ bit) ∙ ap (λ i. 2 * last i + 1) half

module _ (nodes left_nodes : ℕ) (ends left : List (ℕ × ℕ)) (next first last node : ℕ → ℕ) (map : IsMap nodes ends next)
    (is : IsCutting nodes ends next left_nodes left first last node) where
  abbrev n : ℕ
  n = 2 * length ends

  abbrev m : ℕ
  m = length left

  abbrev k : ℕ
  k = 2 * length left

  abbrev face : ℕ → ℕ
  face = face_step next

  abbrev start : ℕ → ℕ
  start = run_dart first last

  abbrev steps : ℕ → ℕ
  steps x = last (x / 2) - first (x / 2)

  abbrev chain : ℕ → ℕ → ℕ
  chain = along_chain next start

  run_up : (j i : ℕ) → j < m → first j + i ≤ last j → iterate face i (2 * first j) ≡ 2 * (first j + i)
  run_up j zero j_in fits = omega arith
  run_up j (suc i) j_in fits =
      let before = run_up j i j_in (omega (arith, fits)) in
      let goes = is.inside j (first j + i) j_in (omega arith) (omega (arith, fits)) in
      let more : 2 * suc (first j + i) ≡ 2 * (first j + suc i) = omega arith in
      ap face before ∙ ap next (reverse-even (first j + i)) ∙ goes.0 ∙ more

  run_down : (j i h : ℕ) → j < m → h + i ≡ last j → first j ≤ h → iterate face i (2 * last j + 1) ≡ 2 * h + 1
  run_down j zero h j_in sum low = omega (arith, sum)
  run_down j (suc i) h j_in sum low =
      let before = run_down j i (suc h) j_in (omega (arith, sum)) (omega (arith, low)) in
      let goes = is.inside j h j_in low (omega (arith, sum)) in
      ap face before ∙ ap next (reverse-odd (suc h)) ∙ goes.1

  -- the dart i steps on along the run of dart x
  pub record Spot (x i : ℕ) : Type 0 where
    pub run : ℕ
    pub run_in : run < m
    pub place : ℕ
    pub low : first run ≤ place
    pub high : place ≤ last run
    pub steps_are : steps x ≡ last run - first run
    pub side : ((x ≡ 2 * run) × (chain x i ≡ 2 * place) × (place ≡ first run + i)) ⊎ ((x ≡ 2 * run + 1) × (chain x i ≡ 2 * place + 1) × (place + i ≡ last run))

  spot : (x i : ℕ) → x < k → i ≤ steps x → Spot x i
  spot x i x_in i_in =
      let c = cases_dart x in
      let j = c.0 in
      let j_in : j < m = omega (arith, x_in, c.1) in
      let half : x / 2 ≡ j = omega (arith, c.1) in
      let same : steps x ≡ last j - first j = ap (λ y. last y - first y) half in
      let up = is.rise j j_in in
      elim c.1 [
        | inl even ↦ record {
          run = j;
          run_in = j_in;
          place = first j + i;
          low = omega arith;
          high = omega (arith, i_in, same, up);
          steps_are = same;
          side = inl (even, ap (λ y. iterate face i (start y)) even ∙ ap (iterate face i) (run_even first last j) ∙ run_up j i j_in (omega (arith, i_in, same, up)), refl);
        }
        | inr odd ↦
            let h = last j - i in
            let sum : h + i ≡ last j = omega (arith, i_in, same, up) in
            let low : first j ≤ h = omega (arith, i_in, same, up) in
            record {
              run = j;
              run_in = j_in;
              place = h;
              low = low;
              high = omega (arith, sum);
              steps_are = same;
              side = inr (odd, ap (λ y. iterate face i (start y)) odd ∙ ap (iterate face i) (run_odd first last j) ∙ run_down j i h j_in sum low, sum);
            }
      ]

  starts_in : (x : ℕ) → x < k → start x < n
  starts_in x x_in =
      let s = spot x 0 x_in (omega arith) in
      let high = is.below s.run s.run_in in
      omega (arith, s.side, s.high, high)

  start_even : (x j : ℕ) → x ≡ 2 * j → start x ≡ 2 * first j
  start_even x j e = ap start e ∙ run_even first last j

  start_odd : (x j : ℕ) → x ≡ 2 * j + 1 → start x ≡ 2 * last j + 1
  start_odd x j e = ap start e ∙ run_odd first last j

  arrives : (x : ℕ) → x < k → chain x (steps x) ≡ reverse_of (start (reverse_of x))
  arrives x x_in =
      let s = spot x (steps x) x_in (omega arith) in
      let up = is.rise s.run s.run_in in
      elim s.side [
        | inl even ↦
            let place : 2 * s.place ≡ 2 * last s.run = omega (arith, even.2, s.steps_are, up) in
            even.1 ∙ place ∙ sym (ap reverse_of (start_odd (reverse_of x) s.run (ap reverse_of even.0 ∙ reverse-even s.run)) ∙ reverse-odd (last s.run))
        | inr odd ↦
            let place : 2 * s.place + 1 ≡ 2 * first s.run + 1 = omega (arith, odd.2, s.steps_are, up) in
            odd.1 ∙ place ∙ sym (ap reverse_of (start_even (reverse_of x) s.run (ap reverse_of odd.0 ∙ reverse-odd s.run)) ∙ reverse-even (first s.run))
      ]

  covers : (d : ℕ) → d < n → (x : ℕ) × (x < k) × (i : ℕ) × (i ≤ steps x) × (chain x i ≡ d)
  covers d d_in =
      let c = cases_dart d in
      let s = c.0 in
      let r = is.covers s (omega (arith, d_in, c.1)) in
      let j = r.0 in
      elim c.1 [
        | inl even ↦
            let half : (2 * j) / 2 ≡ j = omega arith in
            let same : steps (2 * j) ≡ last j - first j = ap (λ y. last y - first y) half in
            let sum : first j + (s - first j) ≡ s = omega (arith, r.2) in (
              2 * j,
              omega (arith, r.1),
              s - first j,
              omega (arith, same, r.2, r.3),
              ap (iterate face (s - first j)) (run_even first last j) ∙ run_up j (s - first j) r.1 (omega (arith, sum, r.3)) ∙ ap (λ y. 2 * y) sum ∙ sym even,
            )
        | inr odd ↦
            let half : (2 * j + 1) / 2 ≡ j = omega arith in
            let same : steps (2 * j + 1) ≡ last j - first j = ap (λ y. last y - first y) half in (
              2 * j + 1,
              omega (arith, r.1),
              last j - s,
              omega (arith, same, r.2, r.3),
              ap (iterate face (last j - s)) (run_odd first last j) ∙ run_down j (last j - s) s r.1 (omega (arith, r.3)) r.2 ∙ sym odd,
            )
      ]

  apart : (i x s : ℕ) → i < k → x < k → s ≤ steps x → chain x s ≡ start i → (i ≡ x) × (s ≡ 0)
  apart i x s i_in x_in s_in same =
      let p = spot x s x_in s_in in
      let q = spot i 0 i_in (omega arith) in
      let meets : p.run ≡ q.run → (i ≡ x) × (s ≡ 0) = λ one.
      let f = ap first one in
      let g = ap last one in
      (omega (arith, p.side, q.side, same, one), omega (arith, p.side, q.side, same, f, g)) in
      let place : p.place ≡ q.place = omega (arith, p.side, q.side, same) in
      meets (is.apart p.run q.run p.place p.run_in q.run_in p.low p.high (omega (arith, place, q.low)) (omega (arith, place, q.high)))

  two_darts : (x i : ℕ) → x < k → i < steps x → next (next (reverse_of (chain x i))) ≡ reverse_of (chain x i)
  two_darts x i x_in i_in =
      let s = spot x i x_in (omega (arith, i_in)) in
      let j = s.run in
      elim s.side [
        | inl even ↦
            let goes = is.inside j s.place s.run_in s.low (omega (arith, even.2, i_in, s.steps_are)) in
            let here : reverse_of (chain x i) ≡ 2 * s.place + 1 = ap reverse_of even.1 ∙ reverse-even s.place in
            ap (λ y. next (next y)) here ∙ ap next goes.0 ∙ goes.1 ∙ sym here
        | inr odd ↦
            let h = s.place - 1 in
            let up : s.place ≡ suc h = omega (arith, odd.2, i_in, s.steps_are) in
            let goes = is.inside j h s.run_in (omega (arith, odd.2, i_in, s.steps_are, up)) (omega (arith, up, s.high)) in
            let here : reverse_of (chain x i) ≡ 2 * suc h = ap reverse_of odd.1 ∙ reverse-odd s.place ∙ ap (λ y. 2 * y) up in
            ap (λ y. next (next y)) here ∙ ap next goes.1 ∙ goes.0 ∙ sym here
      ]

  -- inside a run both darts of a node have its tail
  same_tail : (j s : ℕ) → j < m → first j ≤ s → s < last j → tail_of ends (2 * suc s) ≡ tail_of ends (2 * s + 1)
  same_tail j s j_in low high =
      let in_range = is.below j j_in in
      let goes = is.inside j s j_in low high in
      ap (tail_of ends) (sym goes.0) ∙ map.same_node (2 * s + 1) (omega (arith, high, in_range))

  inner : (x i w : ℕ) → x < k → i < steps x → w < left_nodes → tail_of ends (chain x (suc i)) ≢ node w
  inner x i w x_in i_in w_in at =
      let s = spot x (suc i) x_in (omega (arith, i_in)) in
      let j = s.run in
      elim s.side [
        | inl even ↦
            let h = s.place - 1 in
            let up : s.place ≡ suc h = omega (arith, even.2) in
            let low : first j ≤ h = omega (arith, even.2, up) in
            let high : h < last j = omega (arith, up, s.high) in
            is.inner j h w s.run_in low high w_in (sym (ap (tail_of ends) even.1 ∙ ap (λ y. tail_of ends (2 * y)) up ∙ same_tail j h s.run_in low high) ∙ at)
        | inr odd ↦ is.inner j s.place w s.run_in s.low (omega (arith, odd.2)) w_in (sym (ap (tail_of ends) odd.1) ∙ at)
      ]

  -- inside a run no dart's reverse is a start
  never : (y i x : ℕ) → y < k → x < k → i < steps y → reverse_of (chain y i) ≡ start x → ⊥
  never y i x y_in x_in i_in same =
      let p = spot y i y_in (omega (arith, i_in)) in
      let q = spot x 0 x_in (omega arith) in
      let meets : p.place ≡ q.place → p.run ≡ q.run = λ place.
      is.apart p.run q.run p.place p.run_in q.run_in p.low p.high (omega (arith, place, q.low)) (omega (arith, place, q.high)) in
      let turned : ((y ≡ 2 * p.run) × (reverse_of (chain y i) ≡ 2 * p.place + 1)) ⊎ ((y ≡ 2 * p.run + 1) × (reverse_of (chain y i) ≡ 2 * p.place)) = elim p.side [
        | inl even ↦ inl (even.0, ap reverse_of even.1 ∙ reverse-even p.place)
        | inr odd ↦ inr (odd.0, ap reverse_of odd.1 ∙ reverse-odd p.place)
      ] in
      let place : p.place ≡ q.place = omega (arith, turned, same, q.side) in
      let one = meets place in
      omega (arith, p.side, q.side, turned, same, p.steps_are, i_in, place, one, ap first one, ap last one)

  chain_in : (y i : ℕ) → y < k → i ≤ steps y → chain y i < n
  chain_in y i y_in i_in =
      let s = spot y i y_in i_in in
      let high = is.below s.run s.run_in in
      omega (arith, s.side, s.high, high)

  -- next leads from start to start
  leads : (x : ℕ) → x < k → (y : ℕ) × (y < k) × (start y ≡ next (start x))
  leads x x_in = go (covers (next (start x)) (map.permutes.below _ (starts_in x x_in)))
    where
      go : (y : ℕ) × (y < k) × (i : ℕ) × (i ≤ steps y) × (chain y i ≡ next (start x)) → (y : ℕ) × (y < k) × (start y ≡ next (start x))
      go c = elim (cases_eq c.2 0) [
        | inl zero_it ↦ (c.0, c.1, ap (λ i. chain c.0 i) (sym zero_it) ∙ c.4)
        | inr more ↦
            let i = c.2 - 1 in
            let up : c.2 ≡ suc i = omega (arith, more) in
            let y = c.0 in
            let early : i < steps y = omega (arith, up, c.3) in
            let before_in : reverse_of (chain y i) < n = reverse_below (length ends) _ (chain_in y i c.1 (omega (arith, early))) in
            let same : reverse_of (chain y i) ≡ start x = map.permutes.apart _ _ before_in (starts_in x x_in) (ap (chain y) (sym up) ∙ c.4) in
            absurd (never y i x c.1 x_in early same)
      ]

  abbrev pub after : ℕ → ℕ
  after x = index k start (next (start x))

  after_is : (x : ℕ) → x < k → (after x < k) × (start (after x) ≡ next (start x))
  after_is x x_in = let there = leads x x_in in index_is k start (next (start x)) there.0 there.1 there.2

  start_apart : (x y : ℕ) → x < k → y < k → start x ≡ start y → x ≡ y
  start_apart x y x_in y_in same = (apart x y 0 x_in y_in (omega arith) (sym same)).0

  pub turns_as_runs : TurnsAsRuns next m first last after
  turns_as_runs = record {
    below = λ x x_in. (after_is x x_in).0;
    turns = λ x x_in. (after_is x x_in).1;
    from = λ x y x_in y_in goes. start_apart (after x) y (after_is x x_in).0 y_in ((after_is x x_in).1 ∙ goes);
  }

  tails : (x : ℕ) → x < k → tail_of ends (start x) ≡ node (tail_of left x)
  tails x x_in =
      let c = cases_dart x in
      let j = c.0 in
      let j_in : j < m = omega (arith, x_in, c.1) in
      elim c.1 [
        | inl even ↦ ap (tail_of ends) (start_even x j even) ∙ is.starts j j_in ∙ ap (λ y. node (tail_of left y)) (sym even)
        | inr odd ↦ ap (tail_of ends) (start_odd x j odd) ∙ is.stops j j_in ∙ ap (λ y. node (tail_of left y)) (sym odd)
      ]

  -- ---- numbers of nodes and of segments

  abbrev begins : ℕ → Bool
  begins s = some_below m (λ j. eqb (first j) s)

  abbrev kept : ℕ → Bool
  kept v = some_below left_nodes (λ w. eqb (node w) v)

  begins_from : (j s : ℕ) → j < m → first j ≡ s → begins s ≡ true
  begins_from j s j_in same = some_below-from m (λ i. eqb (first i) s) j j_in (eq-eqb _ _ same)

  begins_to : (s : ℕ) → begins s ≡ true → (j : ℕ) × (j < m) × (first j ≡ s)
  begins_to s h = let found = some_below-to m (λ i. eqb (first i) s) h in (found.0, found.1, eqb-true _ _ found.2)

  kept_from : (w v : ℕ) → w < left_nodes → node w ≡ v → kept v ≡ true
  kept_from w v w_in same = some_below-from left_nodes (λ i. eqb (node i) v) w w_in (eq-eqb _ _ same)

  kept_to : (v : ℕ) → kept v ≡ true → (w : ℕ) × (w < left_nodes) × (node w ≡ v)
  kept_to v h = let found = some_below-to left_nodes (λ i. eqb (node i) v) h in (found.0, found.1, eqb-true _ _ found.2)

  first_below : (j : ℕ) → j < m → first j < length ends
  first_below j j_in = let low = is.rise j j_in in let high = is.below j j_in in omega (arith, low, high)

  begin_count : count_below (length ends) begins ≡ m
  begin_count =
      let few = count_injects (length ends) m begins (λ j. true) (λ s j. first j ≡ s)
      (λ s s_in h. let found = begins_to s h in (found.0, found.1, refl, found.2))
      (λ s t j s_in t_in one two. sym one ∙ two) in
      let many = count_injects m (length ends) (λ j. true) begins (λ j s. (j < m) × (first j ≡ s))
      (λ j j_in h. (first j, first_below j j_in, begins_from j (first j) j_in refl, (j_in, refl)))
      (λ i j s i_in j_in one two.
      is.apart i j s one.0 two.0 (omega (arith, one.1)) (let up = is.rise i one.0 in omega (arith, one.1, up)) (omega (arith, two.1)) (let up = is.rise j two.0 in omega (arith, two.1, up))) in
      omega (arith, few, many, count-all m)

  kept_count : count_below nodes kept ≡ left_nodes
  kept_count =
      let few = count_injects nodes left_nodes kept (λ w. true) (λ v w. node w ≡ v)
      (λ v v_in h. let found = kept_to v h in (found.0, found.1, refl, found.2))
      (λ u v w u_in v_in one two. sym one ∙ two) in
      let many = count_injects left_nodes nodes (λ w. true) kept (λ w v. node w ≡ v)
      (λ w w_in h. (node w, is.nodes_in w w_in, kept_from w (node w) w_in refl, refl))
      (λ u w v u_in w_in one two. is.nodes_apart u w u_in w_in (one ∙ sym two)) in
      omega (arith, few, many, count-all left_nodes)

  -- a segment that doesn't begin a run follows one of its run
  follows : (s : ℕ) → s < length ends → begins s ≡ false → (j : ℕ) × (j < m) × (h : ℕ) × (first j ≤ h) × (h < last j) × (s ≡ suc h)
  follows s s_in h =
      let r = is.covers s s_in in
      let past : first r.0 ≢ s = λ same. both_ways _ h (begins_from r.0 s r.1 same) in
      (r.0, r.1, s - 1, omega (arith, r.2, past), omega (arith, r.2, r.3, past), omega (arith, r.2, past))

  not_kept_inside : (j h : ℕ) → j < m → first j ≤ h → h < last j → kept (tail_of ends (2 * h + 1)) ≡ false
  not_kept_inside j h j_in low high = elim (cases_Bool (kept (tail_of ends (2 * h + 1)))) [
    | inr fails ↦ fails
    | inl holds ↦ let w = kept_to _ holds in absurd (is.inner j h w.0 j_in low high w.1 (sym w.2))
  ]

  -- the two darts of an inner node
  two_of_node : (j h : ℕ) → j < m → first j ≤ h → h < last j → (i : ℕ) → (iterate next i (2 * suc h) ≡ 2 * suc h) ⊎ (iterate next i (2 * suc h) ≡ 2 * h + 1)
  two_of_node j h j_in low high zero = inl refl
  two_of_node j h j_in low high (suc i) =
      let goes = is.inside j h j_in low high in
      elim (two_of_node j h j_in low high i) [
        | inl one ↦ inr (ap next one ∙ goes.1)
        | inr two ↦ inl (ap next two ∙ goes.0)
      ]

  -- at a node that isn't kept a segment starts that doesn't begin a run
  inner_at : (v d : ℕ) → kept v ≡ false → d < n → tail_of ends d ≡ v → (s : ℕ) × (s < length ends) × (begins s ≡ false) × (tail_of ends (2 * s) ≡ v)
  inner_at v d drops d_in at =
      let c = cases_dart d in
      let s = c.0 in
      let s_in : s < length ends = omega (arith, d_in, c.1) in
      elim c.1 [
        | inl even ↦
            let here : tail_of ends (2 * s) ≡ v = ap (tail_of ends) (sym even) ∙ at in
            elim (cases_Bool (begins s)) [
              | inr fails ↦ (s, s_in, fails, here)
              | inl holds ↦
                  let j = begins_to s holds in
                  let low = tail_left (2 * j.0) (omega (arith, j.1)) in
                  absurd (both_ways _ drops (kept_from (tail_of left (2 * j.0)) v low (sym (is.starts j.0 j.1) ∙ ap (λ y. tail_of ends (2 * y)) j.2 ∙ here)))
            ]
        | inr odd ↦
            let here : tail_of ends (2 * s + 1) ≡ v = ap (tail_of ends) (sym odd) ∙ at in
            let r = is.covers s s_in in
            elim (cases_eq s (last r.0)) [
              | inl end ↦
                  let low = tail_left (2 * r.0 + 1) (omega (arith, r.1)) in
                  absurd (both_ways _ drops (kept_from (tail_of left (2 * r.0 + 1)) v low (sym (is.stops r.0 r.1) ∙ ap (λ y. tail_of ends (2 * y + 1)) (sym end) ∙ here)))
              | inr on ↦
                  let high : s < last r.0 = omega (arith, on, r.3) in
                  let in_range = is.below r.0 r.1 in (
                    suc s,
                    omega (arith, high, in_range),
                    elim (cases_Bool (begins (suc s))) [
                      | inr fails ↦ fails
                      | inl holds ↦
                          let j = begins_to (suc s) holds in
                          let up = is.rise j.0 j.1 in
                          let one = is.apart j.0 r.0 (suc s) j.1 r.1 (omega (arith, j.2)) (omega (arith, j.2, up)) (omega (arith, r.2)) (omega (arith, high)) in
                          absurd (omega (arith, j.2, ap first one, r.2))
                    ],
                    same_tail r.0 s r.1 r.2 high ∙ here,
                  )
            ]
      ]
    where
      tail_left : (x : ℕ) → x < k → tail_of left x < left_nodes
      tail_left = tail_in left_nodes left is.ends_in

  inner_count : count_below (length ends) (λ s. not (begins s)) ≡ count_below nodes (λ v. not (kept v))
  inner_count =
      let there = count_injects (length ends) nodes (λ s. not (begins s)) (λ v. not (kept v)) (λ s v. (begins s ≡ false) × (tail_of ends (2 * s) ≡ v))
      (λ s s_in h.
      let drops = not-true _ h in
      let f = follows s s_in drops in
      let e : tail_of ends (2 * s) ≡ tail_of ends (2 * f.2 + 1) = ap (λ y. tail_of ends (2 * y)) f.5 ∙ same_tail f.0 f.2 f.1 f.3 f.4 in
      (tail_of ends (2 * s), tail_in nodes ends map.ends_in (2 * s) (omega (arith, s_in)), ap not (ap kept e ∙ not_kept_inside f.0 f.2 f.1 f.3 f.4), (drops, refl)))
      (λ s t v s_in t_in one two.
      let f = follows s s_in one.0 in
      let g = follows t t_in two.0 in
      let round = map.one_ring (2 * s) (2 * t) (omega (arith, s_in)) (omega (arith, t_in)) (one.1 ∙ sym two.1) in
      let e : 2 * s ≡ 2 * suc f.2 = ap (λ y. 2 * y) f.5 in
      let on = two_of_node f.0 f.2 f.1 f.3 f.4 round.0 in
      let same : iterate next round.0 (2 * suc f.2) ≡ 2 * t = ap (iterate next round.0) (sym e) ∙ round.1 in
      omega (arith, on, same, e)) in
      let back = count_injects nodes (length ends) (λ v. not (kept v)) (λ s. not (begins s)) (λ v s. tail_of ends (2 * s) ≡ v)
      (λ v v_in h.
      let drops = not-true _ h in
      let busy : is_lone ends v ≡ false = elim (cases_Bool (is_lone ends v)) [
        | inr fails ↦ fails
        | inl alone ↦ let w = is.lone v v_in alone in absurd (both_ways _ drops (kept_from w.0 v w.1 w.2))
      ] in
      let d = dart_if_not_lone ends v busy in
      let s = inner_at v d.0 drops d.1 d.2 in
      (s.0, s.1, ap not s.2, s.3))
      (λ u v s u_in v_in one two. sym one ∙ two) in
      omega (arith, there, back)

  as_many : left_nodes + length ends ≡ nodes + m
  as_many =
      let segments = count-not (length ends) begins in
      let points = count-not nodes kept in
      omega (arith, segments, points, begin_count, kept_count, inner_count)

  contraction : IsContraction nodes ends next left_nodes left after start steps node
  contraction = record {
    ends_in = is.ends_in;
    starts_in = starts_in;
    below = λ x x_in. (after_is x x_in).0;
    turns = λ x x_in. (after_is x x_in).1;
    arrives = arrives;
    covers = covers;
    apart = apart;
    two_darts = two_darts;
    nodes_in = is.nodes_in;
    nodes_apart = is.nodes_apart;
    tails = tails;
    inner = inner;
    lone = is.lone;
    as_many = as_many;
  }

  pub map_cut : IsMap left_nodes left after
  map_cut = map_left nodes left_nodes ends left next after start steps node map contraction

  pub flat_cut : MeetsEuler nodes ends next → MeetsEuler left_nodes left after
  flat_cut flat =
      let faces = faces_left nodes left_nodes ends left next after start steps node map contraction in
      let components = components_left nodes left_nodes ends left next after start steps node map contraction in
      omega (arith, flat, faces, components, as_many)

pub cutting_leaves_a_map : CuttingLeavesAMap
cutting_leaves_a_map nodes left_nodes ends left next first last node map flat is = (
  after nodes left_nodes ends left next first last node map is,
  map_cut nodes left_nodes ends left next first last node map is,
  flat_cut nodes left_nodes ends left next first last node map is flat,
  turns_as_runs nodes left_nodes ends left next first last node map is,
)
