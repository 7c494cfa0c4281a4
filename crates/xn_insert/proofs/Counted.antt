-- A loose drawing of k edges with c crossings has at most k + 2c segments.
use Rattle.std.proofs.Common.{◌≡◌, ℕ, zero, suc, ◌+◌, ◌*◌, ◌/◌, ◌^◌, ◌<◌, ◌≤◌, ◌⊎◌, inl, inr, Bool, true, false, ◌&&◌, cond, eqb, leb, ltb, List, [], ◌∷◌, ◌++◌, length, refl, sym, ◌∙◌, ap, arith, length-append}
use Rattle.std.specs.List.{flat_map, range_with_len}
use Rattle.std.proofs.lemmas.Bool.{and_from, and_parts, cases_Bool, cases_eq, cond-false, cond-true, eq-eqb, le-leb, leb-true, lt-ltb, ltb-true, ne_eqb}
use Rattle.std.proofs.lemmas.List.FromFn.{length-range_with_len}
use Rattle.std.proofs.lemmas.List.Sums.{count_by-le-length, length-filter}
use Rattle.xn_model.specs.Graph.{Graph, ends_at}
use Rattle.xn_model.specs.Lists.{at, has, one_if, total}
use Rattle.xn_model.specs.Loose.{GoesStraight, IsLoose, times_walked}
use Rattle.xn_model.specs.Map.{WalksTo, reverse_of, tail_of}
use Rattle.xn_model.specs.Permutation.{count_below}
use Rattle.xn_model.proofs.Darts.{cases_dart, reverse-even, reverse-odd}
use Rattle.xn_ring.proofs.Counting.{count-none}
use Rattle.xn_genus.proofs.Compress.{tail_in}
use Rattle.xn_fewer.proofs.Has.{has-first, has-later}
use Rattle.xn_insert.specs.ListedLoose.{IsLooseOf, ListedLoose, edges_in, has_dart, walk_of}
use Rattle.xn_insert.proofs.CutWalks.{AreBelow}

-- ---- sums over all segments

abbrev sum_to : ℕ → (ℕ → ℕ) → ℕ
sum_to zero f = 0
sum_to (suc n) f = sum_to n f + f n

sum-add : (n : ℕ) (f h : ℕ → ℕ) → sum_to n (λ s. f s + h s) ≡ sum_to n f + sum_to n h
sum-add zero f h = omega arith
sum-add (suc n) f h = let rest = sum-add n f h in omega (arith, rest)

sum-same : (n : ℕ) (f h : ℕ → ℕ) → ((s : ℕ) → s < n → f s ≡ h s) → sum_to n f ≡ sum_to n h
sum-same zero f h same = refl
sum-same (suc n) f h same =
    let rest = sum-same n f h (λ s low. same s (omega (arith, low))) in
    let here = same n (omega arith) in
    omega (arith, rest, here)

sum-none : (n : ℕ) → sum_to n (λ s. 0) ≡ 0
sum-none zero = refl
sum-none (suc n) = let rest = sum-none n in omega (arith, rest)

sum-one : (n : ℕ) → sum_to n (λ s. 1) ≡ n
sum-one zero = refl
sum-one (suc n) = let rest = sum-one n in omega (arith, rest)

-- f at k, and nothing elsewhere
abbrev picked : (ℕ → ℕ) → ℕ → ℕ → ℕ
picked f k s = cond (eqb k s) (f s) 0

picked_none : (n : ℕ) (f : ℕ → ℕ) (k : ℕ) → n ≤ k → sum_to n (picked f k) ≡ 0
picked_none zero f k high = refl
picked_none (suc n) f k high =
    let rest = picked_none n f k (omega (arith, high)) in
    let here : picked f k n ≡ 0 = cond-false _ _ _ (ne_eqb k n (λ same. omega (arith, same, high))) in
    omega (arith, rest, here)

sum-picked : (n : ℕ) (f : ℕ → ℕ) (k : ℕ) → k < n → sum_to n (picked f k) ≡ f k
sum-picked zero f k low = absurd (omega (arith, low))
sum-picked (suc n) f k low = elim (cases_eq k n) [
  | inl same ↦
      let none = picked_none n f k (omega (arith, same)) in
      let here : picked f k n ≡ f k = cond-true _ _ _ (eq-eqb k n same) ∙ ap f (sym same) in
      omega (arith, none, here)
  | inr other ↦
      let rest = sum-picked n f k (omega (arith, low, other)) in
      let none : picked f k n ≡ 0 = cond-false _ _ _ (ne_eqb k n other) in
      omega (arith, rest, none)
]

-- what the darts of a list have of f at the segment s
abbrev weight : (ℕ → ℕ) → List ℕ → ℕ → ℕ
weight f ds s = total (λ d. picked f (d / 2) s) ds

by_segments : (n : ℕ) (f : ℕ → ℕ) (ds : List ℕ) → AreBelow (2 * n) ds → total (λ d. f (d / 2)) ds ≡ sum_to n (weight f ds)
by_segments n f [] below = sym (sum-none n)
by_segments n f (d ∷ ds) below =
    let rest = by_segments n f ds below.1 in
    let low = below.0 in
    let sum = sum-add n (picked f (d / 2)) (weight f ds) in
    let here = sum-picked n f (d / 2) (omega (arith, low)) in
    let split : sum_to n (weight f (d ∷ ds)) ≡ sum_to n (λ s. picked f (d / 2) s + weight f ds s) = refl in
    omega (arith, rest, sum, here, split)

weight_none : (f : ℕ → ℕ) (ds : List ℕ) (s : ℕ) → times_walked s ds ≡ 0 → weight f ds s ≡ 0
weight_none f [] s none = refl
weight_none f (d ∷ ds) s none = elim (cases_eq (d / 2) s) [
  | inl same ↦ let one : one_if (eqb (d / 2) s) ≡ 1 = ap one_if (eq-eqb (d / 2) s same) in absurd (omega (arith, one, none))
  | inr other ↦
      let zero_it : one_if (eqb (d / 2) s) ≡ 0 = ap one_if (ne_eqb (d / 2) s other) in
      let rest = weight_none f ds s (omega (arith, none, zero_it)) in
      let here : picked f (d / 2) s ≡ 0 = cond-false _ _ _ (ne_eqb (d / 2) s other) in
      omega (arith, rest, here)
]

weight_one : (f : ℕ → ℕ) (ds : List ℕ) (s : ℕ) → times_walked s ds ≡ 1 → weight f ds s ≡ f s
weight_one f [] s one = absurd (omega (arith, one))
weight_one f (d ∷ ds) s one = elim (cases_eq (d / 2) s) [
  | inl same ↦
      let some : one_if (eqb (d / 2) s) ≡ 1 = ap one_if (eq-eqb (d / 2) s same) in
      let rest = weight_none f ds s (omega (arith, one, some)) in
      let here : picked f (d / 2) s ≡ f s = cond-true _ _ _ (eq-eqb (d / 2) s same) in
      omega (arith, rest, here)
  | inr other ↦
      let none : one_if (eqb (d / 2) s) ≡ 0 = ap one_if (ne_eqb (d / 2) s other) in
      let rest = weight_one f ds s (omega (arith, one, none)) in
      let here : picked f (d / 2) s ≡ 0 = cond-false _ _ _ (ne_eqb (d / 2) s other) in
      omega (arith, rest, here)
]

-- where each segment is walked once, the darts have what the segments have
once_each : (n : ℕ) (f : ℕ → ℕ) (ds : List ℕ) → AreBelow (2 * n) ds → ((s : ℕ) → s < n → times_walked s ds ≡ 1) → total (λ d. f (d / 2)) ds ≡ sum_to n f
once_each n f ds below once = by_segments n f ds below ∙ sum-same n (weight f ds) f (λ s low. weight_one f ds s (once s low))

total-length : (ds : List ℕ) → total (λ d. 1) ds ≡ length ds
total-length [] = refl
total-length (d ∷ ds) = let rest = total-length ds in omega (arith, rest)

total-append : (f : ℕ → ℕ) (xs ys : List ℕ) → total f (xs ++ ys) ≡ total f xs + total f ys
total-append f [] ys = omega arith
total-append f (x ∷ xs) ys = let rest = total-append f xs ys in omega (arith, rest)

-- ---- counts

count-two : (m : ℕ) (p q r : ℕ → Bool) → ((d : ℕ) → d < m → p d ≡ true → (q d ≡ true) ⊎ (r d ≡ true)) → count_below m p ≤ count_below m q + count_below m r
count-two zero p q r either = omega arith
count-two (suc m) p q r either =
    let rest = count-two m p q r (λ d low. either d (omega (arith, low))) in
    let here : one_if (p m) ≤ one_if (q m) + one_if (r m) = elim (cases_Bool (p m)) [
      | inr fails ↦ let none = ap one_if fails in omega (arith, none)
      | inl holds ↦
          let one = ap one_if holds in
          elim (either m (omega arith) holds) [
            | inl a ↦ let first = ap one_if a in omega (arith, one, first)
            | inr b ↦ let second = ap one_if b in omega (arith, one, second)
          ]
    ] in
    omega (arith, rest, here)

module _ (n m : ℕ) (t : ℕ → ℕ) where
  abbrev high : ℕ → Bool
  high d = leb n (t d)

  abbrev between : ℕ → ℕ → Bool
  between k d = high d && ltb (t d) (n + k)

  -- four at each of k nodes
  few_between : (k : ℕ) → ((i : ℕ) → i < k → count_below m (λ d. eqb (t d) (n + i)) ≡ 4) → count_below m (between k) ≤ 4 * k
  few_between zero four =
      let none = count-none m (between 0) (λ d low. elim (cases_Bool (between 0 d)) [
        | inr fails ↦ fails
        | inl holds ↦
            let p : (high d ≡ true) × (ltb (t d) (n + 0) ≡ true) = and_parts _ _ holds in
            let a = leb-true _ _ p.0 in
            let b = ltb-true _ _ p.1 in
            absurd (omega (arith, a, b))
      ]) in
      omega (arith, none)
  few_between (suc k) four =
      let rest = few_between k (λ i low. four i (omega (arith, low))) in
      let here = four k (omega arith) in
      let sum = count-two m (between (suc k)) (between k) (λ d. eqb (t d) (n + k)) (λ d low holds.
      let p : (high d ≡ true) × (ltb (t d) (n + suc k) ≡ true) = and_parts _ _ holds in
      let b = ltb-true _ _ p.1 in
      elim (cases_eq (t d) (n + k)) [
        | inl same ↦ inr (eq-eqb _ _ same)
        | inr other ↦ inl (and_from _ _ p.0 (lt-ltb _ _ (omega (arith, b, other))))
      ]) in
      omega (arith, rest, here, sum)

  few_high : (c : ℕ) → ((d : ℕ) → d < m → t d < n + c) → ((i : ℕ) → i < c → count_below m (λ d. eqb (t d) (n + i)) ≡ 4) → count_below m high ≤ 4 * c
  few_high c low four =
      let some = few_between c four in
      let none = count-none m (λ d. false) (λ d d_in. refl) in
      let all = count-two m high (between c) (λ d. false) (λ d d_in holds. inl (and_from _ _ holds (lt-ltb _ _ (low d d_in)))) in
      omega (arith, some, none, all)

  -- the darts by their segments
  both_sides : (k : ℕ) → sum_to k (λ s. one_if (high (2 * s)) + one_if (high (2 * s + 1))) ≡ count_below (2 * k) high
  both_sides zero = let e : 0 ≡ 2 * 0 = omega arith in ap (λ j. count_below j high) e
  both_sides (suc k) =
      let two : 2 * suc k ≡ suc (suc (2 * k)) = omega arith in
      let odd : suc (2 * k) ≡ 2 * k + 1 = omega arith in
      let split : count_below (2 * suc k) high ≡ count_below (2 * k) high + one_if (high (2 * k)) + one_if (high (suc (2 * k))) = ap (λ j. count_below j high) two in
      let second = ap (λ j. one_if (high j)) odd in
      let rest = both_sides k in
      omega (arith, rest, split, second)

-- ---- walks

module _ (n : ℕ) (ends : List (ℕ × ℕ)) (next : ℕ → ℕ) where
  abbrev hi : ℕ → ℕ
  hi d = one_if (leb n (tail_of ends d))

  abbrev both : ℕ → ℕ
  both d = hi d + hi (reverse_of d)

  is_high : (d : ℕ) → n ≤ tail_of ends d → hi d ≡ 1
  is_high d low = ap one_if (le-leb _ _ low)

  along : (u v d : ℕ) (ds : List ℕ) → WalksTo ends u (d ∷ ds) v → GoesStraight n ends next (d ∷ ds) → 2 * length ds + hi d ≤ total both (d ∷ ds)
  along u v d [] walk goes = omega arith
  along u v d (d' ∷ ds) walk goes =
      let rest = along (tail_of ends (reverse_of d)) v d' ds walk.2 goes.2 in
      let here = is_high d' goes.0 in
      let seam = walk.2.1 in
      let high = goes.0 in
      let before = is_high (reverse_of d) (omega (arith, seam, high)) in
      omega (arith, rest, here, before)

  walk_long : (u v : ℕ) (ds : List ℕ) → WalksTo ends u ds v → GoesStraight n ends next ds → 2 * length ds ≤ 2 + total both ds
  walk_long u v [] walk goes = omega arith
  walk_long u v (d ∷ ds) walk goes = let long = along u v d ds walk goes in omega (arith, long)

  walks_long : (walks : ℕ → List ℕ) (edges : List ℕ) → ((e : ℕ) → has edges e ≡ true → 2 * length (walks e) ≤ 2 + total both (walks e)) →
      2 * length (flat_map walks edges) ≤ 2 * length edges + total both (flat_map walks edges)
  walks_long walks [] each = omega arith
  walks_long walks (e ∷ es) each =
      let rest = walks_long walks es (λ x x_in. each x (has-later e es x x_in)) in
      let here = each e (has-first e es) in
      let sum = length-append (walks e) (flat_map walks es) in
      let all = total-append both (walks e) (flat_map walks es) in
      omega (arith, rest, here, sum, all)

walk_low : (ends : List (ℕ × ℕ)) (u v : ℕ) (ds : List ℕ) → WalksTo ends u ds v → AreBelow (2 * length ends) ds
walk_low ends u v [] walk = tt
walk_low ends u v (d ∷ ds) walk = (walk.0, walk_low ends (tail_of ends (reverse_of d)) v ds walk.2)

below_append : (m : ℕ) (xs ys : List ℕ) → AreBelow m xs → AreBelow m ys → AreBelow m (xs ++ ys)
below_append m [] ys one two = two
below_append m (x ∷ xs) ys one two = (one.0, below_append m xs ys one.1 two)

all_below : (m : ℕ) (walks : ℕ → List ℕ) (edges : List ℕ) → ((e : ℕ) → has edges e ≡ true → AreBelow m (walks e)) → AreBelow m (flat_map walks edges)
all_below m walks [] each = tt
all_below m walks (e ∷ es) each = below_append m (walks e) (flat_map walks es) (each e (has-first e es)) (all_below m walks es (λ x x_in. each x (has-later e es x x_in)))

total-same : (f h : ℕ → ℕ) (xs : List ℕ) → ((x : ℕ) → f x ≡ h x) → total f xs ≡ total h xs
total-same f h [] same = refl
total-same f h (x ∷ xs) same = let rest = total-same f h xs same in let here = same x in omega (arith, rest, here)

pub few_segments : (g : Graph) (edges : List ℕ) (further : ℕ) (web : Graph) (next : ℕ → ℕ) (walks : ℕ → List ℕ) → IsLoose g edges further web next walks →
    length web.ends ≤ length edges + 2 * further
few_segments g edges further web next walks loose =
    let n = g.nodes in
    let ends = web.ends in
    let E = length ends in
    let ds = flat_map walks edges in
    let t = tail_of ends in
    let low = all_below (2 * E) walks edges (λ e e_in. walk_low ends (ends_at g.ends e).0 (ends_at g.ends e).1 (walks e) (loose.lead e e_in)) in
    let long = walks_long n ends next walks edges (λ e e_in. walk_long n ends next (ends_at g.ends e).0 (ends_at g.ends e).1 (walks e) (loose.lead e e_in) (loose.straight e e_in)) in
    let f : ℕ → ℕ = λ s. one_if (high n (2 * E) t (2 * s)) + one_if (high n (2 * E) t (2 * s + 1)) in
    let sides = total-same (both n ends next) (λ d. f (d / 2)) ds (λ d. side d) in
    let by = once_each E f ds low loose.once in
    let all = both_sides n (2 * E) t E in
    let size = once_each E (λ s. 1) ds low loose.once in
    let number = total-length ds in
    let one = sum-one E in
    let nodes = loose.nodes in
    let few = few_high n (2 * E) t further (λ d d_in. let x = tail_in web.nodes ends loose.is_flat_map.is_map.ends_in d d_in in omega (arith, x, nodes)) (λ i i_in. loose.four (n + i) (omega arith) (omega (arith, i_in, nodes))) in
    omega (arith, long, sides, by, all, size, number, one, few)
  where
    side : (d : ℕ) → both g.nodes web.ends next d ≡ one_if (high g.nodes (2 * length web.ends) (tail_of web.ends) (2 * (d / 2))) + one_if (high g.nodes (2 * length web.ends) (tail_of web.ends) (2 * (d / 2) + 1))
    side d =
        let k : ℕ → ℕ = hi g.nodes web.ends next in
        let c = cases_dart d in
        elim c.1 [
          | inl even ↦
              let first : 2 * (d / 2) ≡ d = omega (arith, even) in
              let second : 2 * (d / 2) + 1 ≡ reverse_of d = (let e : 2 * (d / 2) + 1 ≡ 2 * c.0 + 1 = omega (arith, even) in e) ∙ sym (reverse-even c.0) ∙ ap reverse_of (sym even) in
              let a = ap k first in
              let b = ap k second in
              omega (arith, a, b)
          | inr odd ↦
              let second : 2 * (d / 2) + 1 ≡ d = omega (arith, odd) in
              let first : 2 * (d / 2) ≡ reverse_of d = (let e : 2 * (d / 2) ≡ 2 * c.0 = omega (arith, odd) in e) ∙ sym (reverse-odd c.0) ∙ ap reverse_of (sym odd) in
              let a = ap k first in
              let b = ap k second in
              omega (arith, a, b)
        ]

-- so a drawing of at most 1,000 edges with few crossings has few
pub few_of : (g : Graph) (l : ListedLoose) → IsLooseOf g l → length l.walks ≤ 1000 → l.map.web.nodes ≤ l.nodes + 2 ^ 24 → length l.map.web.ends ≤ 2 ^ 26
few_of g l is walks nodes =
    let most = few_segments g (edges_in l) is.further l.map.web (at l.map.next) (walk_of l.walks) is.loose in
    let edges = range_with_len 0 (length l.walks) in
    let kept = length-filter (λ e. has_dart (walk_of l.walks e)) edges in
    let fewer = count_by-le-length (λ e. has_dart (walk_of l.walks e)) edges in
    let all = length-range_with_len 0 (length l.walks) in
    let sum = is.loose.nodes in
    let same = is.nodes in
    omega (arith, most, kept, fewer, all, walks, nodes, sum, same)
