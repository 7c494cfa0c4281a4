-- Where the paths of a subdivision use every segment: how many darts each node has.
use Rattle.std.proofs.Common.{◌≡◌, ◌≢◌, ℕ, suc, ◌+◌, ◌*◌, ◌/◌, ◌<◌, ◌≤◌, inl, inr, Bool, true, false, not, ◌&&◌, eqb, List, [], ◌∷◌, length, refl, sym, ◌∙◌, ap, arith}
use Rattle.std.specs.Prelude.{slice_index}
use Rattle.std.specs.List.{IsDistinct, concat}
use Rattle.std.proofs.lemmas.Bool.{cases_eq, cases_Bool, both_ways, eqb-true, eq-eqb, false_from_ne_true, ne_eqb, or_cases, or_left, or_right}
use Rattle.xn_model.specs.Evidence.{IsPathSystem, LeadAll, LeadsTo, all_inner, far_end, inner_nodes}
use Rattle.xn_model.specs.Graph.{Graph, ends_at}
use Rattle.xn_model.specs.Lists.{has, one_if, total}
use Rattle.xn_model.specs.Map.{reverse_of, tail_of}
use Rattle.xn_model.specs.Permutation.{count_below}
use Rattle.xn_model.proofs.Darts.{cases_dart, reverse-even, reverse-odd}
use Rattle.xn_genus.proofs.Counts.{count_below-drop}
use Rattle.xn_model.proofs.Has.{all_not, has-append, has-at, has-left, has-right}
use Rattle.xn_kura.proofs.Distinct.{distinct-apart, distinct-count, distinct-left, distinct-right, positions_apart}
use Rattle.xn_kura.proofs.Pairs.{ArePairs}
use Rattle.xn_kura.proofs.Path.{count_at, darts, out, out_facts}
use Rattle.xn_kura.proofs.Tally.{count-le_count_if, count_if, count_if-append}
use Rattle.xn_kura.proofs.Turned.{distinct-append}
use Rattle.xn_kura.proofs.UsedPaths.{all_darts, count_all, has-all_darts, used_in}
use Rattle.xn_model.specs.Loose.{dart_count}

-- how many ends of the pairs are the node i
abbrev pub degree_in : List (ℕ × ℕ) → ℕ → ℕ
degree_in pairs i = total (λ p. one_if (eqb p.0 i) + one_if (eqb p.1 i)) pairs

-- a list without repeats has no more that passes than there is
count_if-le_count : (n : ℕ) (p : ℕ → Bool) (xs : List ℕ) → IsDistinct eqb xs → ((x : ℕ) → has xs x ≡ true → x < n) → count_if p xs ≤ count_below n p
unfolding IsDistinct
count_if-le_count n p [] distinct each = omega arith
count_if-le_count n p (x ∷ xs) distinct each =
    let x_in = each x (or_left (eqb x x) (has xs x) (eq-eqb x x refl)) in
    let drop = count_below-drop n p x x_in in
    let rest = count_if-le_count n (λ w. p w && not (eqb x w)) xs distinct.1 (λ y y_in. each y (or_right (eqb x y) (has xs y) y_in)) in
    let same = count_if-same xs (λ y y_in. ap (λ b. p y && not b) (ne_eqb x y (all_not x xs distinct.0 y y_in)) ∙ and-true (p y)) in
    omega (arith, drop, rest, same)
  where
    and-true : (b : Bool) → (b && true) ≡ b
    and-true true = refl
    and-true false = refl

    count_if-same : (ys : List ℕ) → ((y : ℕ) → has ys y ≡ true → (p y && not (eqb x y)) ≡ p y) → count_if (λ w. p w && not (eqb x w)) ys ≡ count_if p ys
    count_if-same [] same = refl
    count_if-same (y ∷ ys) same =
        let here = ap one_if (same y (or_left (eqb y y) (has ys y) (eq-eqb y y refl))) in
        let rest = count_if-same ys (λ z z_in. same z (or_right (eqb y z) (has ys z) z_in)) in
        omega (arith, here, rest)

count_if-has : (xs : List ℕ) (w : ℕ) → has xs w ≡ true → 1 ≤ count_if (λ x. eqb x w) xs
count_if-has [] w h = absurd (both_ways false refl h)
count_if-has (x ∷ xs) w h = elim (or_cases (eqb x w) (has xs w) h) [
  | inl here ↦ let one : one_if (eqb x w) ≡ 1 = ap one_if here in omega (arith, one)
  | inr later ↦ omega (arith, count_if-has xs w later)
]

count_if-none : (xs : List ℕ) (w : ℕ) → has xs w ≡ false → count_if (λ x. eqb x w) xs ≡ 0
count_if-none [] w out = refl
count_if-none (x ∷ xs) w out = elim (cases_Bool (eqb x w)) [
  | inl here ↦ absurd (both_ways _ out (or_left (eqb x w) (has xs w) here))
  | inr not_x ↦
      let none : one_if (eqb x w) ≡ 0 = ap one_if not_x in
      let rest = count_if-none xs w (false_from_ne_true _ (λ h. both_ways _ out (or_right (eqb x w) (has xs w) h))) in
      omega (arith, none, rest)
]

-- ---- all darts of the paths, once each

module _ (ends : List (ℕ × ℕ)) where
  dart_in : (u v : ℕ) (path : List ℕ) → LeadsTo ends u path v → (z : ℕ) → has (darts ends u path) z ≡ true → has path (z / 2) ≡ true
  dart_in u v [] leads z h = h
  dart_in u v (s ∷ path) leads z h =
      let facts = out_facts ends u s leads.1 in
      let w = far_end (ends_at ends s) u in
      let o = out ends u s in
      elim (or_cases (eqb o z) _ h) [
        | inl first ↦ or_left (eqb s (z / 2)) (has path (z / 2)) (eq-eqb _ _ (sym facts.2 ∙ ap (λ d. d / 2) (eqb-true o z first)))
        | inr more ↦ elim (or_cases (eqb (reverse_of o) z) (has (darts ends w path) z) more) [
          | inl second ↦ or_left (eqb s (z / 2)) (has path (z / 2)) (eq-eqb _ _ (sym facts.3 ∙ ap (λ d. d / 2) (eqb-true (reverse_of o) z second)))
          | inr later ↦ or_right (eqb s (z / 2)) (has path (z / 2)) (dart_in w v path leads.2 z later)
        ]
      ]

  darts_once : (u v : ℕ) (path : List ℕ) → LeadsTo ends u path v → IsDistinct eqb path → IsDistinct eqb (darts ends u path)
  unfolding IsDistinct
  darts_once u v [] leads distinct = tt
  darts_once u v (s ∷ path) leads distinct =
      let facts = out_facts ends u s leads.1 in
      let w = far_end (ends_at ends s) u in
      let o = out ends u s in
      let apart : (z : ℕ) → z / 2 ≡ s → has (darts ends w path) z ≡ true → ⊥ = λ z half h. all_not s path distinct.0 (z / 2) (dart_in w v path leads.2 z h) (sym half) in
      let differ : o ≢ reverse_of o = λ e. own_reverse o e in
      distinct-append (o ∷ reverse_of o ∷ []) (darts ends w path) ((ne_eqb _ _ differ, tt), (tt, tt)) (darts_once w v path leads.2 distinct.1) (λ z a b.
      elim (or_cases (eqb o z) _ a) [
        | inl first ↦ apart z (ap (λ d. d / 2) (sym (eqb-true o z first)) ∙ facts.2) b
        | inr more ↦ elim (or_cases (eqb (reverse_of o) z) false more) [
          | inl second ↦ apart z (ap (λ d. d / 2) (sym (eqb-true (reverse_of o) z second)) ∙ facts.3) b
          | inr none ↦ both_ways false refl none
        ]
      ])
    where
      own_reverse : (d : ℕ) → d ≡ reverse_of d → ⊥
      own_reverse d e = let c = cases_dart d in elim c.1 [
        | inl even ↦ let r = ap reverse_of even ∙ reverse-even c.0 in omega (arith, e, r, even)
        | inr odd ↦ let r = ap reverse_of odd ∙ reverse-odd c.0 in omega (arith, e, r, odd)
      ]

module _ (ends : List (ℕ × ℕ)) (branch : List ℕ) where
  abbrev b : ℕ → ℕ
  b i = slice_index branch i

  all_dart_in : (pairs : List (ℕ × ℕ)) (paths : List (List ℕ)) → LeadAll ends branch pairs paths → (z : ℕ) → has (all_darts ends branch pairs paths) z ≡ true → has (concat paths) (z / 2) ≡ true
  unfolding all_darts
  all_dart_in [] [] lead z h = h
  all_dart_in [] (path ∷ paths) lead z h = absurd lead
  all_dart_in (p ∷ pairs) [] lead z h = absurd lead
  all_dart_in (p ∷ pairs) (path ∷ paths) lead z h = elim (has-append (darts ends (b p.0) path) (all_darts ends branch pairs paths) z h) [
    | inl here ↦ has-left path (concat paths) (z / 2) (dart_in ends (b p.0) (b p.1) path lead.0 z here)
    | inr later ↦ has-right path (concat paths) (z / 2) (all_dart_in pairs paths lead.1 z later)
  ]

  all_darts_once : (pairs : List (ℕ × ℕ)) (paths : List (List ℕ)) → LeadAll ends branch pairs paths → IsDistinct eqb (concat paths) → IsDistinct eqb (all_darts ends branch pairs paths)
  unfolding all_darts IsDistinct
  all_darts_once [] [] lead once = tt
  all_darts_once [] (path ∷ paths) lead once = absurd lead
  all_darts_once (p ∷ pairs) [] lead once = absurd lead
  all_darts_once (p ∷ pairs) (path ∷ paths) lead once =
      distinct-append (darts ends (b p.0) path) (all_darts ends branch pairs paths)
      (darts_once ends (b p.0) (b p.1) path lead.0 (distinct-left path (concat paths) once)) (all_darts_once pairs paths lead.1 (distinct-right path (concat paths) once))
      (λ z a c. distinct-apart path (concat paths) once (z / 2) (dart_in ends (b p.0) (b p.1) path lead.0 z a) (all_dart_in pairs paths lead.1 z c))

  -- the darts at branch node i, pair by pair
  count_branch : (i : ℕ) → i < length branch → ((x y : ℕ) → x < length branch → y < length branch → b x ≡ b y → x ≡ y) →
      (pairs : List (ℕ × ℕ)) (paths : List (List ℕ)) → LeadAll ends branch pairs paths →
      ((q : ℕ) → q < length pairs → ((ends_at pairs q).0 < length branch) × ((ends_at pairs q).1 < length branch)) →
      ((q : ℕ) → q < length pairs → (ends_at pairs q).0 ≢ (ends_at pairs q).1) → has (all_inner ends branch pairs paths) (b i) ≡ false →
      count_if (λ z. eqb (tail_of ends z) (b i)) (all_darts ends branch pairs paths) ≡ degree_in pairs i
  unfolding all_darts
  count_branch i i_in apart [] [] lead inside loopless out = refl
  count_branch i i_in apart [] (path ∷ paths) lead inside loopless out = absurd lead
  count_branch i i_in apart (p ∷ pairs) [] lead inside loopless out = absurd lead
  count_branch i i_in apart (p ∷ pairs) (path ∷ paths) lead inside loopless out =
      let inner = inner_nodes ends (b p.0) path in
      let rest = count_branch i i_in apart pairs paths lead.1 (λ q q_in. inside (suc q) (omega (arith, q_in))) (λ q q_in. loopless (suc q) (omega (arith, q_in)))
      (false_from_ne_true _ (λ h. both_ways _ out (has-right inner (all_inner ends branch pairs paths) (b i) h))) in
      let none = count_if-none inner (b i) (false_from_ne_true _ (λ h. both_ways _ out (has-left inner (all_inner ends branch pairs paths) (b i) h))) in
      let ins = inside 0 (omega arith) in
      omega (
        arith,
        rest,
        here path lead.0 none,
        bit p.0 ins.0,
        bit p.1 ins.1,
        count_if-append (λ z. eqb (tail_of ends z) (b i)) (darts ends (b p.0) path) (all_darts ends branch pairs paths),
      )
    where
      bit : (j : ℕ) → j < length branch → one_if (eqb (b j) (b i)) ≡ one_if (eqb j i)
      bit j j_in = elim (cases_eq j i) [
        | inl same ↦ ap one_if (eq-eqb (b j) (b i) (ap b same)) ∙ sym (ap one_if (eq-eqb j i same))
        | inr other ↦ ap one_if (ne_eqb (b j) (b i) (λ e. other (apart j i j_in i_in e))) ∙ sym (ap one_if (ne_eqb j i other))
      ]

      here : (path : List ℕ) → LeadsTo ends (b p.0) path (b p.1) → count_if (λ x. eqb x (b i)) (inner_nodes ends (b p.0) path) ≡ 0 →
          count_if (λ z. eqb (tail_of ends z) (b i)) (darts ends (b p.0) path) ≡ one_if (eqb (b p.0) (b i)) + one_if (eqb (b p.1) (b i))
      here [] leads none = let ins = inside 0 (omega arith) in absurd (loopless 0 (omega arith) (apart p.0 p.1 ins.0 ins.1 leads))
      here (s ∷ path) leads none = omega (arith, none, count_at ends (b i) (b p.0) (b p.1) s path leads)

-- ---- the degrees

module _ (web : Graph) (pairs : List (ℕ × ℕ)) (branch : List ℕ) (paths : List (List ℕ)) (are : ArePairs (length branch) pairs)
    (is : IsPathSystem web pairs branch paths) (used : (s : ℕ) → s < length web.ends → has (concat paths) s ≡ true) where
  abbrev inner : List ℕ
  inner = all_inner web.ends branch pairs paths

  abbrev all : List ℕ
  all = all_darts web.ends branch pairs paths

  counted : (w : ℕ) → dart_count web.ends w ≡ count_if (λ z. eqb (tail_of web.ends z) w) all
  counted w =
      let p = λ (z : ℕ). eqb (tail_of web.ends z) w in
      let n = 2 * length web.ends in
      let low = count-le_count_if n p all (λ z z_in t. has-all_darts web.ends branch pairs paths is.lead z (used (z / 2) (omega (arith, z_in)))) in
      let high = count_if-le_count n p all (all_darts_once web.ends branch pairs paths is.lead is.once) (λ z h.
      let s_in = used_in web.ends branch pairs paths is.lead (z / 2) (all_dart_in web.ends branch pairs paths is.lead z h) in
      omega (arith, s_in)) in
      omega (arith, low, high)

  not_branch : (w : ℕ) → has inner w ≡ true → has branch w ≡ false
  not_branch w inside = false_from_ne_true _ (λ t. distinct-apart branch inner is.no_node_twice w t inside)

  pub inner_degree : (w : ℕ) → has inner w ≡ true → dart_count web.ends w ≡ 2
  inner_degree w inside = omega (
    arith,
    counted w,
    count_all web.ends branch w (not_branch w inside) pairs paths are.inside is.lead,
    distinct-count inner w (distinct-right branch inner is.no_node_twice),
    count_if-has inner w inside,
  )

  pub other_degree : (w : ℕ) → has inner w ≡ false → has branch w ≡ false → dart_count web.ends w ≡ 0
  other_degree w no_inner no_branch = omega (arith, counted w, count_all web.ends branch w no_branch pairs paths are.inside is.lead, count_if-none inner w no_inner)

  pub branch_degree : (i : ℕ) → i < length branch → dart_count web.ends (slice_index branch i) ≡ degree_in pairs i
  branch_degree i i_in =
      counted (slice_index branch i)
      ∙ count_branch web.ends branch i i_in (positions_apart branch (distinct-left branch inner is.no_node_twice)) pairs paths is.lead are.inside are.loopless
      (false_from_ne_true _ (λ t. distinct-apart branch inner is.no_node_twice (slice_index branch i) (has-at branch i i_in) t))
