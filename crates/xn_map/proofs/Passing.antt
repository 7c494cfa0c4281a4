-- The steps by which a node with two darts is passed over, and what they leave.
use Rattle.std.proofs.Common.{◌≡◌, ◌≢◌, ℕ, zero, suc, ◌+◌, ◌-◌, ◌*◌, ◌/◌, ◌%◌, ◌<◌, ◌≤◌, ◌⊎◌, inl, inr, List, length, take, refl, sym, ◌∙◌, ap, subst, arith}
use Rattle.std.specs.List.{swap_remove}
use Rattle.std.proofs.lemmas.Bool.{cases_eq, cond-true, cond-false, eq-eqb, ne_eqb}
use Rattle.std.proofs.lemmas.List.{get_or-take, length-take-le}
use Rattle.xn_model.specs.Graph.{Graph, EndsIn}
use Rattle.xn_model.specs.Lists.{at}
use Rattle.xn_model.specs.Map.{IsMap, reverse_of, tail_of}
use Rattle.xn_model.specs.Permutation.{Permutes, iterate}
use Rattle.xn_model.proofs.Darts.{cases_dart, reverse-even, reverse-odd, reverse_below, reverse_other}
use Rattle.xn_graph.specs.Limits.{graph_of}
use Rattle.xn_ring.proofs.Without.{without-before, without-other}
use Rattle.xn_genus.specs.Deletion.{dart_before}
use Rattle.xn_genus.proofs.Compress.{EndsIn_tails, half_reverse, tail_in}
use Rattle.xn_surgery.specs.Smoothing.{IsSmoothing, dart_smoothed, node_before}
use Rattle.xn_surgery.proofs.Smooth.{map_smoothed}
use Rattle.xn_map.specs.Anchored.{IsDartOf, OutlastsAt}
use Rattle.xn_map.specs.Changes.{IsFilled, TakesDartOut, TakesPlace, new_name}
use Rattle.xn_map.specs.Cutting.{MovesDart}
use Rattle.xn_map.specs.Listed.{IsListedMap, ListedMap, map_of}
use Rattle.xn_map.specs.Passing.{AreTwoDarts, HasTwoDarts, LeadsOn, LosesNode, MovesNode, RunsOn, Smooths, dart_run}
use Rattle.xn_map.proofs.Fill.{dart_before_in}
use Rattle.xn_map.proofs.Removal.{fewer, tail_before}

cases_name : (x d z : ℕ) → ((z ≡ x) × (new_name x d z ≡ d)) ⊎ ((z ≢ x) × (new_name x d z ≡ z))
cases_name x d z = elim (cases_eq z x) [
  | inl here ↦ inl (here, cond-true _ _ _ (eq-eqb z x here))
  | inr other ↦ inr (other, cond-false _ _ _ (ne_eqb z x other))
]

cases_run : (p q d : ℕ) → ((d ≡ p) × (dart_run p q d ≡ reverse_of q)) ⊎ ((d ≢ p) × (dart_run p q d ≡ d))
cases_run p q d = elim (cases_eq d p) [
  | inl here ↦ inl (here, cond-true _ _ _ (eq-eqb d p here))
  | inr other ↦ inr (other, cond-false _ _ _ (ne_eqb d p other))
]

-- p is taken out, and has the place of the reverse of q
module _ (p q : ℕ) (old half new : List ℕ) (p_in : p < length old) (q_in : q < length old) (r_in : reverse_of q < length old) (apart : p / 2 ≢ q / 2)
    (permutes : Permutes (length old) (at old)) (to_q : at old p ≡ q) (to_p : at old q ≡ p)
    (out : TakesDartOut p old half) (place : TakesPlace (reverse_of q) p half new) where
  abbrev r : ℕ
  r = reverse_of q

  q_other : q ≢ p
  q_other same = apart (ap (λ x. x / 2) (sym same))

  r_other : r ≢ p
  r_other same = apart (ap (λ x. x / 2) (sym same) ∙ half_reverse q)

  half_q : at half q ≡ q
  half_q = out.1 q q_in ∙ without-before p (at old) q q_other to_p ∙ to_q

  passes : (d : ℕ) → d < length old → d ≢ q → at old d ≢ p
  passes d d_in not_q leads = not_q (permutes.apart d q d_in q_in (leads ∙ sym to_p))

  half_other : (d : ℕ) → d < length old → d ≢ p → d ≢ q → at half d ≡ at old d
  half_other d d_in not_p not_q = out.1 d d_in ∙ without-other p (at old) d not_p (passes d d_in not_q)

  in_half : (d : ℕ) → d < length old → d < length half
  in_half d d_in = omega (arith, d_in, out.0)

  new_r : at new r ≡ r
  new_r = place.1 r (in_half r r_in) ∙ cond-true _ _ _ (eq-eqb r r refl)

  new_p : at new p ≡ new_name r p (at old r)
  new_p =
      place.1 p (in_half p p_in) ∙ cond-false _ _ _ (ne_eqb p r (λ same. r_other (sym same)))
      ∙ ap (λ z. new_name r p (at half z)) (cond-true _ _ _ (eq-eqb p p refl)) ∙ ap (new_name r p) (half_other r r_in r_other (reverse_other q))

  new_is : (d : ℕ) → d < length old → d ≢ r → d ≢ p → at new d ≡ new_name r p (at half d)
  new_is d d_in not_r not_p =
      place.1 d (in_half d d_in) ∙ cond-false _ _ _ (ne_eqb d r not_r) ∙ ap (λ z. new_name r p (at half z)) (cond-false _ _ _ (ne_eqb d p not_p))

  new_other : (d : ℕ) → d < length old → d ≢ r → d ≢ p → d ≢ q → at new d ≡ new_name r p (at old d)
  new_other d d_in not_r not_p not_q = new_is d d_in not_r not_p ∙ ap (new_name r p) (half_other d d_in not_p not_q)

  -- p, which nothing leads to, is named for r
  run_name : (z : ℕ) → z ≢ p → dart_run p q (new_name r p z) ≡ z
  run_name z not_p = elim (cases_name r p z) [
    | inl here ↦ ap (dart_run p q) here.1 ∙ cond-true _ _ _ (eq-eqb p p refl) ∙ sym here.0
    | inr other ↦ ap (dart_run p q) other.1 ∙ cond-false _ _ _ (ne_eqb z p not_p)
  ]

  pub runs_on : RunsOn p q old new
  runs_on = record {
    same_length = place.0 ∙ out.0;
    second_alone =
        new_is q q_in (λ same. reverse_other q (sym same)) q_other ∙ ap (new_name r p) half_q ∙ cond-false _ _ _ (ne_eqb q r (λ same. reverse_other q (sym same)));
    far_alone = new_r;
    turns = λ d d_in not_q not_r. elim (cases_eq d p) [
      | inl here ↦
          ap (λ x. dart_run p q (at new x)) here ∙ ap (dart_run p q) new_p ∙ run_name (at old r) (passes r r_in (reverse_other q))
          ∙ ap (at old) (sym (ap (dart_run p q) here ∙ cond-true _ _ _ (eq-eqb p p refl)))
      | inr other ↦
          ap (dart_run p q) (new_other d d_in not_r other not_q) ∙ run_name (at old d) (passes d d_in not_q)
          ∙ ap (at old) (sym (cond-false _ _ _ (ne_eqb d p other)))
    ];
  }

pub sides : (q d : ℕ) → d / 2 ≡ q / 2 → (d ≡ q) ⊎ (d ≡ reverse_of q)
sides q d half = let c = cases_dart q in elim (cases_eq d q) [
  | inl same ↦ inl same
  | inr other ↦ inr (elim c.1 [
    | inl even ↦ let odd : reverse_of q ≡ 2 * c.0 + 1 = ap reverse_of even ∙ reverse-even c.0 in omega (arith, half, even, odd, other)
    | inr odd ↦ let even : reverse_of q ≡ 2 * c.0 = ap reverse_of odd ∙ reverse-odd c.0 in omega (arith, half, odd, even, other)
  ])
]

-- once p is at the far end of q's segment it stays there, and the near end has no dart but q
pub outlasts : (p q far : ℕ) (old mid : Graph) → p < 2 * length old.ends → q < 2 * length old.ends → p / 2 ≢ q / 2 → tail_of old.ends q ≡ tail_of old.ends p →
    ((d : ℕ) → IsDartOf old.ends (tail_of old.ends p) d → (d ≡ p) ⊎ (d ≡ q)) → far ≡ tail_of old.ends (reverse_of q) → MovesDart p far old mid →
    (d : ℕ) → d / 2 ≡ q / 2 → OutlastsAt mid.ends (q / 2) d p
outlasts p q far old mid p_in q_in apart one_node only far_is move d half =
    let r = reverse_of q in
    let r_in = reverse_below (length old.ends) q q_in in
    let r_half = half_reverse q in
    let p_now : tail_of mid.ends p ≡ far = move.tails p p_in ∙ cond-true _ _ _ (eq-eqb p p refl) in
    let kept : (x : ℕ) → x < 2 * length old.ends → x ≢ p → tail_of mid.ends x ≡ tail_of old.ends x = λ x x_in other. move.tails x x_in ∙ cond-false _ _ _ (ne_eqb x p other) in
    let q_other : q ≢ p = λ same. apart (ap (λ x. x / 2) (sym same)) in
    let r_other : r ≢ p = λ same. apart (ap (λ x. x / 2) (sym same) ∙ r_half) in
    let r_far : tail_of old.ends r ≢ tail_of old.ends p = λ same. elim (only r (r_in, same)) [ inl first ↦ r_other first | inr second ↦ reverse_other q second ] in
    let P : ℕ → Type 0 = λ z. OutlastsAt mid.ends (q / 2) z p in
    elim (sides q d half) [
      | inl near ↦ subst P (sym near) (inr (λ x is.
          let x_in : x < 2 * length old.ends = omega (arith, is.0, move.same_length) in
          let at_v : tail_of mid.ends x ≡ tail_of old.ends p = is.1 ∙ kept q q_in q_other ∙ one_node in
          elim (cases_eq x p) [
            | inl same ↦ absurd (r_far (sym far_is ∙ sym p_now ∙ ap (tail_of mid.ends) (sym same) ∙ at_v))
            | inr other ↦ elim (only x (x_in, sym (kept x x_in other) ∙ at_v)) [ inl first ↦ absurd (other first) | inr second ↦ ap (λ z. z / 2) second ]
          ]))
      | inr away ↦ subst P (sym away) (inl ((omega (arith, p_in, move.same_length), p_now ∙ far_is ∙ sym (kept r r_in r_other)), apart))
    ]

-- the end of p's segment is moved, and q's segment goes
module _ (p q far : ℕ) (old mid new : Graph) (q_in : q < 2 * length old.ends) (far_is : far ≡ tail_of old.ends (reverse_of q))
    (move : MovesDart p far old mid) (new_is : new ≡ graph_of mid.nodes (swap_remove mid.ends (q / 2) (0, 0))) where
  s_in : q / 2 < length mid.ends
  s_in = omega (arith, q_in, move.same_length)

  fewer_mid : length mid.ends ≡ suc (length new.ends)
  fewer_mid = fewer (q / 2) mid new s_in new_is

  pub leads_on : LeadsOn p q old new
  leads_on = record {
    same_nodes = ap (λ w. w.nodes) new_is ∙ move.same_nodes;
    fewer = sym move.same_length ∙ fewer_mid;
    tails = λ j j_in.
        let z = dart_before (q / 2) (length new.ends) j in
        let z_low = dart_before_in (q / 2) (length new.ends) j j_in in
        let z_in : z < 2 * length old.ends = omega (arith, z_low, fewer_mid, move.same_length) in
        tail_before (q / 2) mid new s_in new_is j j_in ∙ move.tails z z_in ∙ elim (cases_eq z p) [
          | inl here ↦ cond-true _ _ _ (eq-eqb _ _ here) ∙ far_is ∙ ap (tail_of old.ends) (sym (cond-true _ _ _ (eq-eqb _ _ here)))
          | inr other ↦ cond-false _ _ _ (ne_eqb _ _ other) ∙ ap (tail_of old.ends) (sym (cond-false _ _ _ (ne_eqb _ _ other)))
        ];
  }

-- a walk in a ring of two
pub ring_of_two : (next : ℕ → ℕ) (p q : ℕ) → next p ≡ q → next q ≡ p → (k : ℕ) → (iterate next k p ≡ p) ⊎ (iterate next k p ≡ q)
ring_of_two next p q to_q to_p zero = inl refl
ring_of_two next p q to_q to_p (suc k) = elim (ring_of_two next p q to_q to_p k) [
  | inl first ↦ inr (ap next first ∙ to_q)
  | inr second ↦ inl (ap next second ∙ to_p)
]

-- a dart at v is one of its two
pub one_of_two : (m : ListedMap) → IsListedMap m → (v p q : ℕ) → AreTwoDarts m v p q → (d : ℕ) → d < 2 * length m.web.ends → tail_of m.web.ends d ≡ v → (d ≡ p) ⊎ (d ≡ q)
one_of_two m listed v p q two d d_in at_v =
    let walk = listed.is_map.one_ring p d two.first_in d_in (two.at_node ∙ sym at_v) in
    elim (ring_of_two (at m.next) p q two.to_second two.to_first walk.0) [
      | inl first ↦ inl (sym walk.1 ∙ first)
      | inr second ↦ inr (sym walk.1 ∙ second)
    ]

-- what is found at v is its two darts
pub found_two : (m : ListedMap) → IsListedMap m → (v : ℕ) → HasTwoDarts m v → (d e : ℕ) → d < 2 * length m.web.ends → tail_of m.web.ends d ≡ v → e ≡ at m.next d →
    (d < e → AreTwoDarts m v d e) × (e ≤ d → AreTwoDarts m v e d)
found_two m listed v (p, q, two) d e d_in at_v e_is =
    let P : ℕ → ℕ → Type 0 = λ x y. AreTwoDarts m v x y in
    elim (one_of_two m listed v p q two d d_in at_v) [
      | inl first ↦
          let second : e ≡ q = e_is ∙ ap (at m.next) first ∙ two.to_second in (
            (λ low. subst (λ (x : ℕ). P x e) (sym first) (subst (λ (y : ℕ). P p y) (sym second) two)),
            (λ high. absurd (omega (arith, high, first, second, two.smaller))),
          )
      | inr second ↦
          let first : e ≡ p = e_is ∙ ap (at m.next) second ∙ two.to_first in (
            (λ low. absurd (omega (arith, low, first, second, two.smaller))),
            (λ high. subst (λ (x : ℕ). P x d) (sym first) (subst (λ (y : ℕ). P p y) (sym second) two)),
          )
    ]

-- a node without darts goes
module _ (v last : ℕ) (old moved : Graph) (ends_in : EndsIn old.nodes old.ends) (v_in : v < old.nodes) (lone : (d : ℕ) → d < 2 * length old.ends → tail_of old.ends d ≢ v)
    (last_is : suc last ≡ old.nodes) (moves : MovesNode last v old moved) where
  pub lost_ends : EndsIn last moved.ends
  lost_ends = EndsIn_tails last moved.ends (λ d d_in.
      let d_old : d < 2 * length old.ends = omega (arith, d_in, moves.same_length) in
      let low = tail_in old.nodes old.ends ends_in d d_old in
      omega (arith, moves.tails d d_old, cases_name last v (tail_of old.ends d), lone d d_old, low, last_is, v_in))

  pub loses_node : (new : Graph) → moved ≡ graph_of (new.nodes + 1) new.ends → LosesNode v old new
  loses_node new is =
      let nodes = ap (λ w. w.nodes) is in
      let same : last ≡ new.nodes = omega (arith, nodes, moves.same_nodes, last_is) in
      record {
        fewer = omega (arith, same, last_is);
        same_length = sym (ap (λ w. length w.ends) is) ∙ moves.same_length;
        tails = λ x x_in. sym (ap (λ w. tail_of w.ends x) is) ∙ moves.tails x x_in ∙ ap (λ k. new_name k v (tail_of old.ends x)) same;
      }

-- the steps together, on the map m whose node v has the darts p and q
module _ (m : ListedMap) (listed : IsListedMap m) (v p q : ℕ) (two : AreTwoDarts m v p q) (last : ℕ) (last_is : suc last ≡ length m.web.ends) (led : Graph) (leads : LeadsOn p q m.web led) where
  abbrev n : ℕ
  n = 2 * length m.web.ends

  abbrev g : ℕ
  g = q / 2

  abbrev e : ℕ → ℕ
  e = dart_before g last

  cases_e : (j : ℕ) → ((j / 2 ≡ g) × (e j ≡ 2 * last + j % 2)) ⊎ ((j / 2 ≢ g) × (e j ≡ j))
  cases_e j = elim (cases_eq (j / 2) g) [
    | inl here ↦ inl (here, cond-true _ _ _ (eq-eqb _ _ here))
    | inr other ↦ inr (other, cond-false _ _ _ (ne_eqb _ _ other))
  ]

  -- no dart that is left stands in a place of q's segment
  e_other : (j : ℕ) → j < 2 * last → e j / 2 ≢ g
  e_other j j_in same = omega (arith, same, cases_e j, j_in, two.second_in, last_is)

  e_in : (j : ℕ) → j < 2 * last → e j < n
  e_in j j_in = omega (arith, cases_e j, j_in, last_is)

  -- nor at v
  start_in : (j : ℕ) → j < 2 * last → (dart_smoothed p q last j < n) × (tail_of m.web.ends (dart_smoothed p q last j) ≢ v)
  start_in j j_in =
      let z = dart_smoothed p q last j in
      let z_is = cases_run p q (e j) in
      let half = half_reverse q in
      let r_low = reverse_below (length m.web.ends) q two.second_in in
      let in_n : z < n = omega (arith, z_is, r_low, e_in j j_in) in
      let not_p : z ≢ p = λ same. omega (arith, z_is, same, half, two.smaller) in
      let not_q : z ≢ q = λ same. omega (arith, z_is, same, reverse_other q, e_other j j_in) in
      (in_n, λ at_v. elim (one_of_two m listed v p q two z in_n at_v) [ inl first ↦ not_p first | inr second ↦ not_q second ])

  led_size : length led.ends ≡ last
  led_size = omega (arith, last_is, leads.fewer)

  led_tail : (j : ℕ) → j < 2 * last → tail_of led.ends j ≡ tail_of m.web.ends (dart_smoothed p q last j)
  led_tail j j_in = leads.tails j (omega (arith, j_in, led_size)) ∙ ap (λ k. tail_of m.web.ends (dart_smoothed p q k j)) led_size

  left_alone : (d : ℕ) → d < 2 * length led.ends → tail_of led.ends d ≢ v
  left_alone d d_in at_v =
      let low : d < 2 * last = omega (arith, d_in, led_size) in
      (start_in d low).1 (sym (led_tail d low) ∙ at_v)

  module _ (turned filled next : List ℕ) (runs : RunsOn p q m.next turned) (fill : IsFilled (q / 2) last turned filled) (next_is : next ≡ take (length filled - 2) filled) where
    filled_size : length filled ≡ 2 * last + 2
    filled_size = omega (arith, fill.same_length, runs.same_length, listed.fits, last_is)

    next_at : (d : ℕ) → d < 2 * last → at next d ≡ at filled d
    next_at d d_in = ap (λ xs. at xs d) next_is ∙ get_or-take (length filled - 2) filled d 0 (omega (arith, d_in, filled_size))

    turns : (j : ℕ) → j < 2 * last → dart_smoothed p q last (at next j) ≡ at m.next (dart_smoothed p q last j)
    turns j j_in =
        let z = e j in
        let not_q : z ≢ q = λ same. e_other j j_in (ap (λ x. x / 2) same) in
        let not_r : z ≢ reverse_of q = λ same. e_other j j_in (ap (λ x. x / 2) same ∙ half_reverse q) in
        let z_in : z < length m.next = omega (arith, e_in j j_in, listed.fits) in
        ap (dart_smoothed p q last) (next_at j j_in) ∙ ap (dart_run p q) (fill.turns j j_in) ∙ runs.turns z z_in not_q not_r

    next_in : (j : ℕ) → j < 2 * last → at next j < 2 * last
    next_in j j_in = let small = fill.below j j_in in omega (arith, next_at j j_in, small)

    start_apart : (i j : ℕ) → i < 2 * last → j < 2 * last → dart_smoothed p q last i ≡ dart_smoothed p q last j → i ≡ j
    start_apart i j i_in j_in same =
        let half = half_reverse q in
        let one : e i ≡ e j = omega (arith, same, cases_run p q (e i), cases_run p q (e j), half, e_other i i_in, e_other j j_in) in
        omega (arith, one, cases_e i, cases_e j, i_in, j_in)

    walks : (k i : ℕ) → i < 2 * last → (iterate (at next) k i < 2 * last) × (dart_smoothed p q last (iterate (at next) k i) ≡ iterate (at m.next) k (dart_smoothed p q last i))
    walks zero i i_in = (i_in, refl)
    walks (suc k) i i_in =
        let so_far = walks k i i_in in
        (next_in (iterate (at next) k i) so_far.0, turns (iterate (at next) k i) so_far.0 ∙ ap (at m.next) so_far.1)

    -- the web is a map before v is taken away
    led_map : IsMap led.nodes led.ends (at next)
    led_map =
        let low : (j : ℕ) → j < 2 * length led.ends → j < 2 * last = λ j j_in. omega (arith, j_in, led_size) in
        record {
          ends_in = EndsIn_tails led.nodes led.ends (λ j j_in.
              let node = tail_in m.web.nodes m.web.ends listed.is_map.ends_in (dart_smoothed p q last j) (start_in j (low j j_in)).0 in
              omega (arith, led_tail j (low j j_in), node, leads.same_nodes));
          permutes = record {
            below = λ j j_in. omega (arith, next_in j (low j j_in), led_size);
            apart = λ i j i_in j_in same.
                let i_low = low i i_in in
                let j_low = low j j_in in
                let on : at m.next (dart_smoothed p q last i) ≡ at m.next (dart_smoothed p q last j) = sym (turns i i_low) ∙ ap (dart_smoothed p q last) same ∙ turns j j_low in
                start_apart i j i_low j_low
                (listed.is_map.permutes.apart (dart_smoothed p q last i) (dart_smoothed p q last j) (start_in i i_low).0 (start_in j j_low).0 on);
          };
          same_node = λ j j_in.
              let j_low = low j j_in in
              led_tail (at next j) (next_in j j_low) ∙ ap (tail_of m.web.ends) (turns j j_low) ∙ listed.is_map.same_node (dart_smoothed p q last j) (start_in j j_low).0
              ∙ sym (led_tail j j_low);
          one_ring = λ i j i_in j_in same.
              let i_low = low i i_in in
              let j_low = low j j_in in
              let walk = listed.is_map.one_ring (dart_smoothed p q last i) (dart_smoothed p q last j) (start_in i i_low).0 (start_in j j_low).0
              (sym (led_tail i i_low) ∙ same ∙ led_tail j j_low) in
              let w = walks walk.0 i i_low in
              (walk.0, start_apart (iterate (at next) walk.0 i) j w.0 j_low (w.1 ∙ walk.1));
        }

    module _ (web : Graph) (loses : LosesNode v led web) where
      abbrev top : ℕ
      top = web.nodes

      top_is : m.web.nodes ≡ suc top
      top_is = sym leads.same_nodes ∙ loses.fewer

      left_is : last ≡ length web.ends
      left_is = omega (arith, led_size, loses.same_length)

      new_tail : (j : ℕ) → j < 2 * last → tail_of web.ends j ≡ new_name top v (tail_of m.web.ends (dart_smoothed p q last j))
      new_tail j j_in = loses.tails j (omega (arith, j_in, led_size)) ∙ ap (new_name top v) (led_tail j j_in)

      -- the tail is below the last node, and was the tail before
      tail_is : (j : ℕ) → j < 2 * last → (tail_of web.ends j < top) × (node_before v top (tail_of web.ends j) ≡ tail_of m.web.ends (dart_smoothed p q last j))
      tail_is j j_in =
          let z = dart_smoothed p q last j in
          let t = tail_of m.web.ends z in
          let z_in = start_in j j_in in
          let low = tail_in m.web.nodes m.web.ends listed.is_map.ends_in z z_in.0 in
          let v_low = tail_in m.web.nodes m.web.ends listed.is_map.ends_in p two.first_in in
          let not_v : t ≢ v = z_in.1 in
          let now = new_tail j j_in in
          elim (cases_name top v t) [
            | inl here ↦
                let is_v : tail_of web.ends j ≡ v = now ∙ here.1 in
                (omega (arith, is_v, here.0, not_v, v_low, two.at_node, top_is), cond-true _ _ _ (eq-eqb _ _ is_v) ∙ sym here.0)
            | inr other ↦
                let is_t : tail_of web.ends j ≡ t = now ∙ other.1 in
                (omega (arith, is_t, other.0, low, top_is), cond-false _ _ _ (ne_eqb _ _ (λ same. not_v (sym is_t ∙ same))) ∙ is_t)
          ]

      smoothed : IsSmoothing top m.web.ends (at m.next) p q web.ends (at next)
      smoothed =
          let low : (j : ℕ) → j < 2 * length web.ends → j < 2 * last = λ j j_in. omega (arith, j_in, left_is) in
          let T : ℕ → Type 0 = λ k. (j : ℕ) → j < 2 * last → dart_smoothed p q k (at next j) ≡ at m.next (dart_smoothed p q k j) in
          let K : ℕ → Type 0 = λ k. (j : ℕ) → j < 2 * last → node_before v top (tail_of web.ends j) ≡ tail_of m.web.ends (dart_smoothed p q k j) in
          let N : ℕ → Type 0 = λ u. (j : ℕ) → j < 2 * last → node_before u top (tail_of web.ends j) ≡ tail_of m.web.ends (dart_smoothed p q (length web.ends) j) in
          record {
            first_in = two.first_in;
            second_in = two.second_in;
            to_second = two.to_second;
            to_first = two.to_first;
            smaller = two.smaller;
            fewer = omega (arith, left_is, last_is);
            ends_in = λ j j_in. (tail_is j (low j j_in)).0;
            tails = λ j j_in. subst N (sym two.at_node) (subst K left_is (λ i i_in. (tail_is i i_in).1)) j (low j j_in);
            below = λ j j_in. let small = fill.below j (low j j_in) in omega (arith, next_at j (low j j_in), small, left_is);
            turns = λ j j_in. subst T left_is turns j (low j j_in);
          }

      passed_map : IsMap top web.ends (at next)
      passed_map =
          let P : ℕ → Type 0 = λ k. IsMap k m.web.ends (at m.next) in
          map_smoothed top p q m.web.ends web.ends (at m.next) (at next) (subst P top_is listed.is_map) smoothed

      passed_listed : IsListedMap (map_of web next)
      passed_listed = record {
        fits = ap length next_is ∙ length-take-le (length filled - 2) filled (omega (arith, filled_size)) ∙ omega (arith, filled_size, left_is);
        is_map = passed_map;
      }

      smooths : Smooths m v (map_of web next)
      smooths = record { first = p; second = q; at_node = two.at_node; fewer = top_is; smoothed = smoothed }

-- v can be taken away once its darts are gone
pub record IsLeftAlone (v : ℕ) (led : Graph) (next : List ℕ) : Type 0 where
  pub node : v < led.nodes
  pub lone : (d : ℕ) → d < 2 * length led.ends → tail_of led.ends d ≢ v
  pub map : IsMap led.nodes led.ends (at next)

pub is_left_alone : (old now : ListedMap) → old ≡ now → IsListedMap old → (v p q : ℕ) → AreTwoDarts now v p q → (count : ℕ) →
    (turned filled next : List ℕ) → RunsOn p q old.next turned → count ≡ length turned → IsFilled (q / 2) (count / 2 - 1) turned filled → next ≡ take (length filled - 2) filled →
    (led : Graph) → LeadsOn p q old.web led → IsLeftAlone v led next
is_left_alone old now view listed v p q two count turned filled next runs count_is fill next_is led leads =
    let A : ListedMap → Type 0 = λ m. AreTwoDarts m v p q in
    let two_old = subst A (sym view) two in
    let low = tail_in old.web.nodes old.web.ends listed.is_map.ends_in p two_old.first_in in
    let last_is : suc (count / 2 - 1) ≡ length old.web.ends = omega (arith, count_is, runs.same_length, listed.fits, two_old.second_in) in
    record {
      node = omega (arith, low, two_old.at_node, leads.same_nodes);
      lone = left_alone old listed v p q two_old (count / 2 - 1) last_is led leads;
      map = led_map old listed v p q two_old (count / 2 - 1) last_is led leads turned filled next runs fill next_is;
    }

-- v has no other darts
pub only_two : (old now : ListedMap) → old ≡ now → IsListedMap old → (v p q : ℕ) → AreTwoDarts now v p q → (d : ℕ) → IsDartOf old.web.ends (tail_of old.web.ends p) d → (d ≡ p) ⊎ (d ≡ q)
only_two old now view listed v p q two d is =
    let A : ListedMap → Type 0 = λ m. AreTwoDarts m v p q in
    let two_old = subst A (sym view) two in
    one_of_two old listed v p q two_old d is.0 (is.1 ∙ two_old.at_node)

-- what pass_node leaves of the map now
pub record NodePassed (now : ListedMap) (v : ℕ) (new : ListedMap) : Type 0 where
  pub listed : IsListedMap new
  pub smooths : Smooths now v new

pub node_passed : (old now : ListedMap) → old ≡ now → IsListedMap old → (v p q : ℕ) → AreTwoDarts now v p q → (count : ℕ) →
    (turned filled next : List ℕ) → RunsOn p q old.next turned → count ≡ length turned → IsFilled (q / 2) (count / 2 - 1) turned filled → next ≡ take (length filled - 2) filled →
    (led web : Graph) → LeadsOn p q old.web led → LosesNode v led web → NodePassed now v (map_of web next)
node_passed old now view listed v p q two count turned filled next runs count_is fill next_is led web leads loses =
    let A : ListedMap → Type 0 = λ m. AreTwoDarts m v p q in
    let P : ListedMap → Type 0 = λ m. NodePassed m v (map_of web next) in
    let two_old = subst A (sym view) two in
    let last_is : suc (count / 2 - 1) ≡ length old.web.ends = omega (arith, count_is, runs.same_length, listed.fits, two_old.second_in) in
    subst P view record {
      listed = passed_listed old listed v p q two_old (count / 2 - 1) last_is led leads turned filled next runs fill next_is web loses;
      smooths = smooths old listed v p q two_old (count / 2 - 1) last_is led leads turned filled next runs fill next_is web loses;
    }
