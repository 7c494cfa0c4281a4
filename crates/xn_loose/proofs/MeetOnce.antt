-- Where no walk meets a node twice, none does after a step of an edge that comes in.
use Rattle.std.proofs.Common.{◌≡◌, ◌≢◌, ℕ, suc, ◌+◌, ◌*◌, ◌/◌, ◌<◌, ◌≤◌, inl, inr, Bool, true, false, not, ◌&&◌, eqb, List, [], ◌∷◌, ◌++◌, length, map, refl, sym, ◌∙◌, ap, subst, arith}
use Rattle.std.specs.List.{AllByRecursion, IsDistinct}
use Rattle.std.specs.Prelude.{nat_eq}
use Rattle.std.proofs.lemmas.Bool.{both_ways, cases_eq, eq-eqb, ne_eqb}
use Rattle.xn_model.specs.Graph.{Graph}
use Rattle.xn_model.specs.Lists.{has, one_if, total}
use Rattle.xn_model.specs.Loose.{times_walked}
use Rattle.xn_model.specs.Map.{tail_of}
use Rattle.xn_surgery.specs.Subdivision.{dart_now}
use Rattle.xn_genus.proofs.Compress.{tail_in}
use Rattle.xn_loose.specs.Routes.{IsAcross, dart_back}
use Rattle.xn_track.proofs.Paths.{Path, times-append}
use Rattle.xn_track.proofs.Tally.{times-flat_map, total-one}
use Rattle.xn_loose.proofs.Growing.{State, ex, ex_cases, ex_one, now_here, now_there, own', own_times, tail_last, tail_mid, walks'}
use Rattle.xn_loose.proofs.Land.{Seam}

-- how often the darts start at a node
abbrev pub times_met : List (ℕ × ℕ) → ℕ → List ℕ → ℕ
times_met ends v ds = total (λ d. one_if (eqb (tail_of ends d) v)) ds

pub met-append : (ends : List (ℕ × ℕ)) (v : ℕ) (ds es : List ℕ) → times_met ends v (ds ++ es) ≡ times_met ends v ds + times_met ends v es
met-append ends v [] es = omega arith
met-append ends v (d ∷ ds) es = let rest = met-append ends v ds es in omega (arith, rest)

pub one_if-most : (b : Bool) → one_if b ≤ 1
one_if-most true = omega arith
one_if-most false = omega arith

-- ---- counts and lists without repeats

none_met : (ends : List (ℕ × ℕ)) (v : ℕ) (ds : List ℕ) → times_met ends v ds ≡ 0 → AllByRecursion (λ w. nat_eq v w ≡ false) (map (tail_of ends) ds)
none_met ends v [] none = tt
none_met ends v (d ∷ ds) none = elim (cases_eq (tail_of ends d) v) [
  | inl is ↦ let here : one_if (eqb (tail_of ends d) v) ≡ 1 = ap one_if (eq-eqb _ _ is) in absurd (omega (arith, none, here))
  | inr other ↦ (ne_eqb v (tail_of ends d) (λ same. other (sym same)), none_met ends v ds (omega (arith, none)))
]

met_none : (ends : List (ℕ × ℕ)) (v : ℕ) (ds : List ℕ) → AllByRecursion (λ w. nat_eq v w ≡ false) (map (tail_of ends) ds) → times_met ends v ds ≡ 0
met_none ends v [] all = refl
met_none ends v (d ∷ ds) all =
    let here : one_if (eqb (tail_of ends d) v) ≡ 0 = ap one_if (ne_eqb (tail_of ends d) v (λ same. both_ways _ all.0 (eq-eqb v (tail_of ends d) (sym same)))) in
    let rest = met_none ends v ds all.1 in
    omega (arith, here, rest)

pub distinct_if_once : (ends : List (ℕ × ℕ)) (ds : List ℕ) → ((v : ℕ) → times_met ends v ds ≤ 1) → IsDistinct nat_eq (map (tail_of ends) ds)
unfolding IsDistinct
distinct_if_once ends [] once = tt
distinct_if_once ends (d ∷ ds) once =
    let here : one_if (eqb (tail_of ends d) (tail_of ends d)) ≡ 1 = ap one_if (eq-eqb _ _ refl) in
    let first = once (tail_of ends d) in
    (none_met ends (tail_of ends d) ds (omega (arith, first, here)), distinct_if_once ends ds (λ v. let all = once v in omega (arith, all)))

pub once_if_distinct : (ends : List (ℕ × ℕ)) (ds : List ℕ) → IsDistinct nat_eq (map (tail_of ends) ds) → (v : ℕ) → times_met ends v ds ≤ 1
unfolding IsDistinct
once_if_distinct ends [] distinct v = omega arith
once_if_distinct ends (d ∷ ds) distinct v = elim (cases_eq (tail_of ends d) v) [
  | inl is ↦
      let most = one_if-most (eqb (tail_of ends d) v) in
      let none : times_met ends v ds ≡ 0 = ap (λ k. times_met ends k ds) (sym is) ∙ met_none ends (tail_of ends d) ds distinct.0 in
      omega (arith, most, none)
  | inr other ↦
      let none : one_if (eqb (tail_of ends d) v) ≡ 0 = ap one_if (ne_eqb _ _ other) in
      let rest = once_if_distinct ends ds distinct.1 v in
      omega (arith, none, rest)
]

-- darts whose tails stay meet what they met
pub met_same : (ends more : List (ℕ × ℕ)) (L : ℕ → ℕ → Type 0) (last : ℕ) → ((x : ℕ) → x < 2 * last → tail_of more x ≡ tail_of ends x) →
    (a z : ℕ) (ds : List ℕ) → Path last L a ds z → (v : ℕ) → times_met more v ds ≡ times_met ends v ds
met_same ends more L last tails a z [] p v = absurd p
met_same ends more L last tails a z (d ∷ []) p v = ap (λ k. one_if (eqb k v) + 0) (tails d p.0)
met_same ends more L last tails a z (d ∷ e ∷ ds) p v =
    let here : one_if (eqb (tail_of more d) v) ≡ one_if (eqb (tail_of ends d) v) = ap (λ k. one_if (eqb k v)) (tails d p.0) in
    let rest = met_same ends more L last tails e z (e ∷ ds) p.3 v in
    omega (arith, here, rest)

-- ---- a walk over a divided segment meets the new node as often as it walked the segment

pair_met : (x y w n v : ℕ) → x ≡ w → y ≡ n → w < n →
    (v ≢ n → one_if (eqb x v) + (one_if (eqb y v) + 0) ≡ one_if (eqb w v) + 0) × (one_if (eqb x n) + (one_if (eqb y n) + 0) ≡ 1)
pair_met x y w n v x_w y_n low = (
  λ other.
      let one : one_if (eqb x v) ≡ one_if (eqb w v) = ap (λ k. one_if (eqb k v)) x_w in
      let none : one_if (eqb y v) ≡ 0 = ap one_if (ne_eqb y v (λ same. other (sym same ∙ y_n))) in
      omega (arith, one, none),
  (
      let none : one_if (eqb x n) ≡ 0 = ap one_if (ne_eqb x n (λ same. omega (arith, same, x_w, low))) in
      let one : one_if (eqb y n) ≡ 1 = ap one_if (eq-eqb y n y_n) in
      omega (arith, none, one)
      ),
)

module _ (nodes s last : ℕ) (ends more : List (ℕ × ℕ)) (low : (x : ℕ) → x < 2 * last → tail_of ends x < nodes)
    (tails : (x : ℕ) → x < 2 * last → tail_of more (dart_now s last x) ≡ tail_of ends x) (mid : tail_of more (2 * s + 1) ≡ nodes) (end : tail_of more (2 * last) ≡ nodes) where
  one_met : (v d : ℕ) → d < 2 * last →
      (v ≢ nodes → times_met more v (ex_one s last d) ≡ times_met ends v (d ∷ [])) × (times_met more nodes (ex_one s last d) ≡ times_walked s (d ∷ []))
  one_met v d d_in = elim (ex_cases s last d) [
    | inl e ↦
        let here : tail_of more (2 * s) ≡ tail_of ends d = ap (tail_of more) (sym e.0 ∙ sym (now_there s last d (λ f. omega (arith, f, e.0)))) ∙ tails d d_in in
        let p = pair_met (tail_of more (2 * s)) (tail_of more (2 * last)) (tail_of ends d) nodes v here end (low d d_in) in
        (λ other. ap (times_met more v) e.1 ∙ p.0 other, ap (times_met more nodes) e.1 ∙ p.1 ∙ sym (walked (omega (arith, e.0))))
    | inr (inl e) ↦
        let here : tail_of more (2 * last + 1) ≡ tail_of ends d = ap (tail_of more) (sym (now_here s last d e.0)) ∙ tails d d_in in
        let p = pair_met (tail_of more (2 * last + 1)) (tail_of more (2 * s + 1)) (tail_of ends d) nodes v here mid (low d d_in) in
        (λ other. ap (times_met more v) e.1 ∙ p.0 other, ap (times_met more nodes) e.1 ∙ p.1 ∙ sym (walked (omega (arith, e.0))))
    | inr (inr e) ↦
        let here : tail_of more d ≡ tail_of ends d = ap (tail_of more) (sym (now_there s last d e.1)) ∙ tails d d_in in
        let far : one_if (eqb (tail_of more d) nodes) ≡ 0 = ap one_if (ne_eqb (tail_of more d) nodes (λ same. let l = low d d_in in omega (arith, l, same, here))) in
        let not_s : one_if (eqb (d / 2) s) ≡ 0 = ap one_if (ne_eqb (d / 2) s (λ same. omega (arith, same, e.0, e.1))) in
        (λ other. ap (times_met more v) e.2 ∙ ap (λ k. one_if (eqb k v) + 0) here, ap (times_met more nodes) e.2 ∙ ap (λ k. k + 0) (far ∙ sym not_s))
  ]
    where
      walked : d / 2 ≡ s → times_walked s (d ∷ []) ≡ 1
      walked half = ap (λ b. one_if b + 0) (eq-eqb (d / 2) s half)

  pub ex_met : (L : ℕ → ℕ → Type 0) (a z : ℕ) (ds : List ℕ) → Path last L a ds z → (v : ℕ) →
      (v ≢ nodes → times_met more v (ex s last ds) ≡ times_met ends v ds) × (times_met more nodes (ex s last ds) ≡ times_walked s ds)
  ex_met L a z [] p v = absurd p
  ex_met L a z (d ∷ []) p v = one_met v d p.0
  ex_met L a z (d ∷ e ∷ ds) p v =
      let one = one_met v d p.0 in
      let rest = ex_met L e z (e ∷ ds) p.3 v in
      let sum = met-append more v (ex_one s last d) (ex s last (e ∷ ds)) in
      let sum_new = met-append more nodes (ex_one s last d) (ex s last (e ∷ ds)) in
      (λ other. let x = one.0 other in let y = rest.0 other in omega (arith, sum, x, y), let x = one.1 in let y = rest.1 in omega (arith, sum_new, x, y))

-- ---- the state

-- no walk meets a node twice, the one that grows neither, and what it has walked borders on no face that is whole
pub record Single (edges : List ℕ) (web : Graph) (name : ℕ → ℕ) (whole : ℕ → Bool) (y : ℕ) (walks : ℕ → List ℕ) (own : List ℕ) : Type 0 where
  pub each : (x v : ℕ) → has edges x ≡ true → times_met web.ends v (walks x) ≤ 1
  pub own_once : (v : ℕ) → times_met web.ends v own + one_if (eqb (tail_of web.ends y) v) ≤ 1
  pub closed : (x : ℕ) → x < 2 * length web.ends → 1 ≤ times_walked (x / 2) own → whole (name x) ≡ false

module _ (g : Graph) (edges : List ℕ) (distinct : IsDistinct nat_eq edges) (u : ℕ) (web : Graph) (next : ℕ → ℕ) (four : ℕ → Bool) (name : ℕ → ℕ) (whole : ℕ → Bool) (y b q : ℕ)
    (walks : ℕ → List ℕ) (own : List ℕ) (st : State g edges u web next four name whole y b q walks own) (d : ℕ) (d_in : d < 2 * length web.ends) (more : List (ℕ × ℕ)) (after names : ℕ → ℕ)
    (A : IsAcross web.nodes web.ends next name whole y d more after names) (is_whole : whole (name y) ≡ true) (one_face : name y ≡ name d)
    (single : Single edges web name whole y walks own) where
  abbrev last : ℕ
  last = length web.ends

  abbrev s : ℕ
  s = d / 2

  abbrev a : ℕ
  a = 2 * suc (length web.ends)

  low_tail : (x : ℕ) → x < 2 * last → tail_of web.ends x < web.nodes
  low_tail x x_in = tail_in web.nodes web.ends st.is_flat_map.is_map.ends_in x x_in

  over : (from to : ℕ) (ds : List ℕ) → Path last (Seam g.nodes web next four y q) from ds to → (v : ℕ) →
      (v ≢ web.nodes → times_met more v (ex s last ds) ≡ times_met web.ends v ds) × (times_met more web.nodes (ex s last ds) ≡ times_walked s ds)
  over = λ from to ds path v. ex_met web.nodes s last web.ends more low_tail A.tails
      (tail_mid g edges u web next four name whole y b q walks own st d d_in more after names A)
      (tail_last g edges u web next four name whole y b q walks own st d d_in more after names A) (Seam g.nodes web next four y q) from to ds path v

  -- the route crosses no segment of the walk that grows
  not_own : times_walked s own ≡ 0
  not_own = elim (cases_eq (times_walked s own) 0) [
    | inl none ↦ none
    | inr some ↦ absurd (both_ways _ (single.closed d d_in (omega (arith, some))) (ap whole (sym one_face) ∙ is_whole))
  ]

  own_met : (v : ℕ) → (v ≢ web.nodes → times_met more v (ex s last own) ≡ times_met web.ends v own) × (times_met more web.nodes (ex s last own) ≡ times_walked s own)
  own_met v = elim st.cursor [
    | inl start ↦
        let P : List ℕ → Type 0 = λ l. (v ≢ web.nodes → times_met more v (ex s last l) ≡ times_met web.ends v l) × (times_met more web.nodes (ex s last l) ≡ times_walked s l) in
        subst P (sym start.2) (λ other. refl, refl)
    | inr old ↦ over old.from b own old.path v
  ]

  own_once' : (v : ℕ) → times_met more v (ex s last own ++ a ∷ []) + one_if (eqb (tail_of more (dart_back last d)) v) ≤ 1
  own_once' v =
      let sum = met-append more v (ex s last own) (a ∷ []) in
      let met = own_met v in
      elim (cases_eq v web.nodes) [
        | inl is ↦
            let low = low_tail y st.y_in in
            let from = A.tail_from in
            let old : times_met more v (ex s last own) ≡ 0 = ap (λ k. times_met more k (ex s last own)) is ∙ met.1 ∙ not_own in
            let first : one_if (eqb (tail_of more a) v) ≡ 0 = ap one_if (ne_eqb (tail_of more a) v (λ same. omega (arith, same, from, is, low))) in
            let most = one_if-most (eqb (tail_of more (dart_back last d)) v) in
            omega (arith, sum, old, first, most)
        | inr other ↦
            let was = single.own_once v in
            let old = met.0 other in
            let first : one_if (eqb (tail_of more a) v) ≡ one_if (eqb (tail_of web.ends y) v) = ap (λ k. one_if (eqb k v)) A.tail_from in
            let none : one_if (eqb (tail_of more (dart_back last d)) v) ≡ 0 = ap one_if (ne_eqb (tail_of more (dart_back last d)) v (λ same. other (sym same ∙ A.tail_back))) in
            omega (arith, sum, was, old, first, none)
      ]

  each' : (x v : ℕ) → has edges x ≡ true → times_met more v (ex s last (walks x)) ≤ 1
  each' x v x_in =
      let r = st.strands x x_in in
      let met = over r.from r.to (walks x) r.path v in
      elim (cases_eq v web.nodes) [
        | inl is ↦
            let new : times_met more v (ex s last (walks x)) ≡ times_walked s (walks x) = ap (λ k. times_met more k (ex s last (walks x))) is ∙ met.1 in
            let sum = times-flat_map s walks edges in
            let one = total-one (λ k. times_walked s (walks k)) edges x distinct x_in in
            let once = st.once s in
            omega (arith, new, sum, one, once)
        | inr other ↦ let same = met.0 other in let was = single.each x v x_in in omega (arith, same, was)
      ]

  falls : (c : Bool) → (c && false) ≡ false
  falls true = refl
  falls false = refl

  closed' : (x : ℕ) → x < 2 * length more → 1 ≤ times_walked (x / 2) (ex s last own ++ a ∷ []) → (whole (names x) && not (eqb (names x) (name y))) ≡ false
  closed' x x_in some =
      let size = A.size in
      let sum = times-append (x / 2) (ex s last own) (a ∷ []) in
      let half : a / 2 ≡ suc last = omega arith in
      let P : ℕ → Type 0 = λ k. (whole k && not (eqb k (name y))) ≡ false in
      let gone : P (name y) = rw (eq-eqb (name y) (name y) refl) (falls (whole (name y))) in
      elim (cases_eq x a) [
        | inl is ↦ subst P (sym (ap names is ∙ A.name_from)) gone
        | inr not_a ↦ elim (cases_eq x (2 * suc last + 1)) [
          | inl is ↦ subst P (sym (ap names is ∙ A.name_to)) gone
          | inr not_b ↦
              let none : one_if (eqb (a / 2) (x / 2)) ≡ 0 = ap one_if (ne_eqb (a / 2) (x / 2) (λ same. omega (arith, same, half, not_a, not_b))) in
              let times = own_times g edges u web next four name whole y b q walks own st d d_in more after names A (x / 2) in
              elim (cases_eq (x / 2) last) [
                | inl is ↦
                    let zero_it : times_walked (x / 2) (ex s last own) ≡ 0 = ap (λ k. times_walked k (ex s last own)) is ∙ times.1 ∙ not_own in
                    absurd (omega (arith, some, sum, none, zero_it))
                | inr other ↦
                    let same = times.0 other in
                    let low : x < 2 * last = omega (arith, x_in, size, not_a, not_b, other) in
                    let was = single.closed x low (omega (arith, some, sum, none, same)) in
                    subst P (sym (A.names_kept x low)) (rw was refl)
              ]
        ]
      ]

  pub single_stepped : Single edges (record { nodes = suc web.nodes; ends = more }) names (λ k. whole k && not (eqb k (name y))) (dart_back (length web.ends) d)
      (walks' g edges u web next four name whole y b q walks own st d d_in more after names A) (own' g edges u web next four name whole y b q walks own st d d_in more after names A)
  single_stepped = record { each = each'; own_once = own_once'; closed = closed' }
