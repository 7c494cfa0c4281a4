-- A node with four darts is split, and the two nodes are passed over.
use Rattle.std.proofs.Common.{◌≡◌, ◌≢◌, ℕ, zero, suc, ◌+◌, ◌*◌, ◌/◌, ◌%◌, ◌<◌, ◌≤◌, ◌⊎◌, inl, inr, length, refl, sym, ◌∙◌, ap, subst, arith}
use Rattle.std.proofs.lemmas.Bool.{cases_eq, cases_order, cond-true, cond-false, eq-eqb, ne_eqb}
use Rattle.xn_model.specs.Lists.{at}
use Rattle.xn_model.specs.Map.{MeetsEuler, IsMap, reverse_of, tail_of}
use Rattle.xn_model.specs.Permutation.{iterate}
use Rattle.xn_model.proofs.Darts.{cases_dart, reverse-even, reverse-odd}
use Rattle.xn_genus.specs.Deletion.{dart_before}
use Rattle.xn_genus.proofs.Compress.{half_reverse}
use Rattle.xn_surgery.specs.Resolution.{IsResolution}
use Rattle.xn_surgery.specs.Smoothing.{IsSmoothing, dart_smoothed, node_before}
use Rattle.xn_surgery.specs.Splitting.{InArc, IsSplit}
use Rattle.xn_surgery.proofs.Resolve.{resolution_flat}
use Rattle.xn_map.specs.Changes.{StaysFlat}
use Rattle.xn_map.specs.Cutting.{Splits}
use Rattle.xn_map.specs.Listed.{IsListedMap, ListedMap}
use Rattle.xn_map.specs.Passing.{AreTwoDarts, HasTwoDarts, Smooths}
use Rattle.xn_map.proofs.Passing.{one_of_two}
use Rattle.xn_euler.specs.Resolving.{CanPart, IsCutBetween, IsOfEither, Resolves, cut_at}
use Rattle.xn_euler.specs.declared.resolution.Way.{Way}
use Rattle.xn_euler.proofs.Rounds.{IsRound, parted, parted_at}

-- two darts that lead to each other, in any order
two_darts : (m : ListedMap) (v p q : ℕ) → p < 2 * length m.web.ends → q < 2 * length m.web.ends → tail_of m.web.ends p ≡ v → tail_of m.web.ends q ≡ v →
    at m.next p ≡ q → at m.next q ≡ p → p / 2 ≢ q / 2 → HasTwoDarts m v
two_darts m v p q p_in q_in p_at q_at to_q to_p apart = elim (cases_order (p / 2) (q / 2)) [
  | inl same ↦ absurd (apart same)
  | inr other ↦ elim other [
    | inl less ↦ (p, q, record { first_in = p_in; second_in = q_in; at_node = p_at; to_second = to_q; to_first = to_p; smaller = less })
    | inr more ↦ (q, p, record { first_in = q_in; second_in = p_in; at_node = q_at; to_second = to_p; to_first = to_q; smaller = more })
  ]
]

-- after the split: x and y are at the new node, z and w at v
module _ (m : ListedMap) (v x y z w : ℕ) (round : IsRound m v x y z w) (parts : CanPart x y z w) (split : ListedMap) (splits : Splits m x z split) where
  abbrev after : ℕ → ℕ
  after = at split.next

  turn_other : (d e : ℕ) → d < 2 * length m.web.ends → at m.next d ≡ e → e ≢ x → e ≢ z → after d ≡ e
  turn_other d e d_in leads not_x not_z =
      splits.1.turns d d_in ∙ cond-false _ _ _ (ne_eqb _ _ (λ same. not_x (sym leads ∙ same))) ∙ cond-false _ _ _ (ne_eqb _ _ (λ same. not_z (sym leads ∙ same))) ∙ leads

  after_x : after x ≡ y
  after_x = turn_other x y round.x_in round.to_y (λ same. round.x_not_y (sym same)) round.y_not_z

  after_z : after z ≡ w
  after_z = turn_other z w round.z_in round.to_w (λ same. round.x_not_w (sym same)) (λ same. round.z_not_w (sym same))

  after_y : after y ≡ x
  after_y =
      splits.1.turns y round.y_in ∙ cond-false _ _ _ (ne_eqb _ _ (λ same. round.x_not_z (sym same ∙ round.to_z))) ∙ cond-true _ _ _ (eq-eqb _ _ round.to_z)

  after_w : after w ≡ z
  after_w = splits.1.turns w round.w_in ∙ cond-true _ _ _ (eq-eqb _ _ round.to_x)

  passes_x : (l : ℕ) → l ≤ 0 → iterate (at m.next) l x ≢ z
  passes_x zero low = round.x_not_z
  passes_x (suc l) low = absurd (omega (arith, low))

  passes_y : (l : ℕ) → l ≤ 1 → iterate (at m.next) l x ≢ z
  passes_y zero low = round.x_not_z
  passes_y (suc zero) low = λ same. round.y_not_z (sym round.to_y ∙ same)
  passes_y (suc (suc l)) low = absurd (omega (arith, low))

  in_z : InArc (at m.next) x z z → ⊥
  in_z (i, there, passes) = passes i (omega arith) there

  in_w : InArc (at m.next) x z w → ⊥
  in_w (zero, there, passes) = round.x_not_w there
  in_w (suc zero, there, passes) = round.y_not_w (sym round.to_y ∙ there)
  in_w (suc (suc i), there, passes) = passes 2 (omega arith) (ap (at m.next) round.to_y ∙ round.to_z)

  x_moved : tail_of split.web.ends x ≡ m.web.nodes
  x_moved = splits.1.moved x round.x_in (0, refl, passes_x)

  y_moved : tail_of split.web.ends y ≡ m.web.nodes
  y_moved = splits.1.moved y round.y_in (1, round.to_y, passes_y)

  z_stays : tail_of split.web.ends z ≡ v
  z_stays = splits.1.stayed z round.z_in in_z ∙ round.z_at

  w_stays : tail_of split.web.ends w ≡ v
  w_stays = splits.1.stayed w round.w_in in_w ∙ round.w_at

  x_there : x < 2 * length split.web.ends
  x_there = omega (arith, round.x_in, splits.1.all)

  y_there : y < 2 * length split.web.ends
  y_there = omega (arith, round.y_in, splits.1.all)

  split_two : HasTwoDarts split m.web.nodes
  split_two = two_darts split m.web.nodes x y x_there y_there x_moved y_moved after_x after_y parts.first_two

  -- after the new node is gone
  module _ (listed : IsListedMap split) (once : ListedMap) (smooths : Smooths split m.web.nodes once) where
    abbrev p : ℕ
    p = smooths.first

    abbrev q : ℕ
    q = smooths.second

    abbrev r : ℕ
    r = reverse_of q

    abbrev last : ℕ
    last = length once.web.ends

    abbrev e : ℕ → ℕ
    e = dart_before (q / 2) last

    abbrev start : ℕ → ℕ
    start = dart_smoothed p q last

    two_new : AreTwoDarts split m.web.nodes p q
    two_new = record {
      first_in = smooths.smoothed.first_in;
      second_in = smooths.smoothed.second_in;
      at_node = smooths.at_node;
      to_second = smooths.smoothed.to_second;
      to_first = smooths.smoothed.to_first;
      smaller = smooths.smoothed.smaller;
    }

    -- they are x and y
    which : ((p ≡ x) × (q ≡ y)) ⊎ ((p ≡ y) × (q ≡ x))
    which = elim (one_of_two split listed m.web.nodes p q two_new x x_there x_moved) [
      | inl first ↦ inl (sym first, sym two_new.to_second ∙ ap after (sym first) ∙ after_x)
      | inr second ↦ inr (sym two_new.to_first ∙ ap after (sym second) ∙ after_x, sym second)
    ]

    size : length split.web.ends ≡ suc last
    size = smooths.smoothed.fewer

    cases_e : (j : ℕ) → ((j / 2 ≡ q / 2) × (e j ≡ 2 * last + j % 2)) ⊎ ((j / 2 ≢ q / 2) × (e j ≡ j))
    cases_e j = elim (cases_eq (j / 2) (q / 2)) [
      | inl here ↦ inl (here, cond-true _ _ _ (eq-eqb _ _ here))
      | inr other ↦ inr (other, cond-false _ _ _ (ne_eqb _ _ other))
    ]

    cases_start : (j : ℕ) → ((e j ≡ p) × (start j ≡ r)) ⊎ ((e j ≢ p) × (start j ≡ e j))
    cases_start j = elim (cases_eq (e j) p) [
      | inl here ↦ inl (here, cond-true _ _ _ (eq-eqb _ _ here))
      | inr other ↦ inr (other, cond-false _ _ _ (ne_eqb _ _ other))
    ]

    q_low : q / 2 < suc last
    q_low = omega (arith, two_new.second_in, size)

    e_other : (j : ℕ) → j < 2 * last → e j / 2 ≢ q / 2
    e_other j j_in same = omega (arith, same, cases_e j, j_in, q_low)

    e_apart : (i j : ℕ) → i < 2 * last → j < 2 * last → e i ≡ e j → i ≡ j
    e_apart i j i_in j_in same = omega (arith, same, cases_e i, cases_e j, i_in, j_in)

    e_half : (i j : ℕ) → i < 2 * last → j < 2 * last → i / 2 ≡ j / 2 → e i / 2 ≡ e j / 2
    e_half i j i_in j_in same = omega (arith, same, cases_e i, cases_e j, i_in, j_in)

    start_apart : (i j : ℕ) → i < 2 * last → j < 2 * last → start i ≡ start j → i ≡ j
    start_apart i j i_in j_in same =
        let half = half_reverse q in
        e_apart i j i_in j_in (omega (arith, same, cases_start i, cases_start j, half, e_other i i_in, e_other j j_in))

    -- the dart that stands for t now
    record IsNow (t j : ℕ) : Type 0 where
      below : j < 2 * last
      stands : start j ≡ t

    -- in the place of u, which isn't of q's segment
    comes_from : (u : ℕ) → u < 2 * suc last → u / 2 ≢ q / 2 → (j : ℕ) × (j < 2 * last) × (e j ≡ u)
    comes_from u u_in other = elim (cases_eq (u / 2) last) [
      | inl top ↦
          let j = 2 * (q / 2) + u % 2 in
          let j_half : j / 2 ≡ q / 2 = omega arith in
          let side : j % 2 ≡ u % 2 = omega arith in
          let low : q / 2 < last = omega (arith, q_low, other, top) in
          let there : e j ≡ 2 * last + j % 2 = cond-true _ _ _ (eq-eqb _ _ j_half) in
          (j, omega (arith, low, j_half), omega (arith, there, side, top))
      | inr not_top ↦ (u, omega (arith, u_in, not_top), cond-false _ _ _ (ne_eqb _ _ other))
    ]

    now : (t : ℕ) → t < 2 * suc last → t ≢ p → t ≢ q → (j : ℕ) × IsNow t j
    now t t_in not_p not_q = elim (cases_eq t r) [
      | inl far ↦
          let less : p / 2 ≢ q / 2 = omega (arith, two_new.smaller) in
          let from = comes_from p (omega (arith, two_new.first_in, size)) less in
          (from.0, record { below = from.1; stands = cond-true _ _ _ (eq-eqb _ _ from.2) ∙ sym far })
      | inr near ↦
          let from = comes_from t t_in (λ half. elim (sides t half) [ inl same ↦ not_q same | inr same ↦ near same ]) in
          (from.0, record { below = from.1; stands = cond-false _ _ _ (ne_eqb _ _ (λ same. not_p (sym from.2 ∙ same))) ∙ from.2 })
    ]
      where
        sides : (d : ℕ) → d / 2 ≡ q / 2 → (d ≡ q) ⊎ (d ≡ r)
        sides d half = let c = cases_dart q in elim (cases_eq d q) [
          | inl same ↦ inl same
          | inr other ↦ inr (elim c.1 [
            | inl even ↦ let odd : r ≡ 2 * c.0 + 1 = ap reverse_of even ∙ reverse-even c.0 in omega (arith, half, even, odd, other)
            | inr odd ↦ let even : r ≡ 2 * c.0 = ap reverse_of odd ∙ reverse-odd c.0 in omega (arith, half, odd, even, other)
          ])
        ]

    z_now : (j : ℕ) × IsNow z j
    z_now = now z (omega (arith, round.z_in, splits.1.all, size)) (λ same. omega (arith, same, which, round.x_not_z, round.y_not_z)) (λ same. omega (arith, same, which, round.x_not_z, round.y_not_z))

    w_now : (j : ℕ) × IsNow w j
    w_now = now w (omega (arith, round.w_in, splits.1.all, size)) (λ same. omega (arith, same, which, round.x_not_w, round.y_not_w)) (λ same. omega (arith, same, which, round.x_not_w, round.y_not_w))

    -- v has the number that it had, since the new node was the last
    tail_now : (t j : ℕ) → IsNow t j → tail_of split.web.ends t ≡ v → tail_of once.web.ends j ≡ v
    tail_now t j is at_v =
        let k = tail_of once.web.ends j in
        let u = tail_of split.web.ends p in
        let top : once.web.nodes ≡ u = omega (arith, smooths.fewer, splits.0, smooths.at_node) in
        let same : node_before u once.web.nodes k ≡ k = elim (cases_eq k u) [
          | inl here ↦ cond-true _ _ _ (eq-eqb _ _ here) ∙ top ∙ sym here
          | inr other ↦ cond-false _ _ _ (ne_eqb _ _ other)
        ] in
        sym same ∙ smooths.smoothed.tails j is.below ∙ ap (tail_of split.web.ends) is.stands ∙ at_v

    turn_now : (s t i j : ℕ) → IsNow s i → IsNow t j → after s ≡ t → at once.next i ≡ j
    turn_now s t i j s_now t_now leads =
        start_apart (at once.next i) j (smooths.smoothed.below i s_now.below) t_now.below
        (smooths.smoothed.turns i s_now.below ∙ ap after s_now.stands ∙ leads ∙ sym t_now.stands)

    -- their segments are still two
    still_apart : (i j : ℕ) → IsNow z i → IsNow w j → i / 2 ≢ j / 2
    still_apart i j z_is w_is same =
        let halves = e_half i j z_is.below w_is.below same in
        let half = half_reverse q in
        elim (cases_start i) [
          | inl z_far ↦ elim (cases_start j) [
            | inl w_far ↦ round.z_not_w (sym z_is.stands ∙ z_far.1 ∙ sym w_far.1 ∙ w_is.stands)
            | inr w_near ↦ parts.still_two
                (either z (omega (arith, z_is.stands, z_far.1, half)))
                (either_p w (omega (arith, w_is.stands, w_near.1, halves, z_far.0)))
          ]
          | inr z_near ↦ elim (cases_start j) [
            | inl w_far ↦ parts.still_two
                (either_p z (omega (arith, z_is.stands, z_near.1, halves, w_far.0)))
                (either w (omega (arith, w_is.stands, w_far.1, half)))
            | inr w_near ↦ parts.last_two (omega (arith, z_is.stands, w_is.stands, z_near.1, w_near.1, halves))
          ]
        ]
      where
        either : (t : ℕ) → t / 2 ≡ q / 2 → IsOfEither x y t
        either t h = elim which [ inl straight ↦ inr (h ∙ ap (λ k. k / 2) straight.1) | inr turned ↦ inl (h ∙ ap (λ k. k / 2) turned.1) ]

        either_p : (t : ℕ) → t / 2 ≡ p / 2 → IsOfEither x y t
        either_p t h = elim which [ inl straight ↦ inl (h ∙ ap (λ k. k / 2) straight.0) | inr turned ↦ inr (h ∙ ap (λ k. k / 2) turned.0) ]

    once_two : HasTwoDarts once v
    once_two = two_darts once v z_now.0 w_now.0 z_now.1.below w_now.1.below (tail_now z z_now.0 z_now.1 z_stays) (tail_now w w_now.0 w_now.1 w_stays)
        (turn_now z w z_now.0 w_now.0 z_now.1 w_now.1 after_z) (turn_now w z w_now.0 z_now.0 w_now.1 z_now.1 after_w)
        (still_apart z_now.0 w_now.0 z_now.1 w_now.1)

-- the new node has two darts of two segments
pub new_two : (m : ListedMap) → IsListedMap m → (v : ℕ) (how : Way) (x z : ℕ) → IsCutBetween m v how x z → (split : ListedMap) → Splits m x z split → HasTwoDarts split m.web.nodes
new_two m listed v how x z cut split splits =
    let parted = parted_at m listed v how x z cut in
    split_two m v x parted.y z parted.w parted.round parted.parts split splits

-- and v has two once it is gone
pub old_two : (m : ListedMap) → IsListedMap m → (v : ℕ) (how : Way) (x z : ℕ) → IsCutBetween m v how x z → (split : ListedMap) → Splits m x z split → IsListedMap split →
    (once : ListedMap) → Smooths split m.web.nodes once → HasTwoDarts once v
old_two m listed v how x z cut split splits split_listed once smooths =
    let parted = parted_at m listed v how x z cut in
    once_two m v x parted.y z parted.w parted.round parted.parts split splits split_listed once smooths

-- the three steps together
pub resolves : (m : ListedMap) → IsListedMap m → (v : ℕ) (how : Way) (x z : ℕ) → IsCutBetween m v how x z → (split : ListedMap) → Splits m x z split →
    (once : ListedMap) → Smooths split m.web.nodes once → (new : ListedMap) → Smooths once v new → Resolves m v how new
resolves m listed v how x z cut split splits once smooths new again =
    let rest = new.web.nodes in
    let first_cut = cut_at how cut.first cut.second in
    let second_cut = cut_at how cut.third cut.fourth in
    let nodes : m.web.nodes ≡ suc rest = omega (arith, splits.0, smooths.fewer, again.fewer) in
    let at_x : tail_of m.web.ends x ≡ v = (parted_at m listed v how x z cut).round.x_at in
    let R : ℕ → ℕ → Type 0 = λ s t. IsResolution rest m.web.ends (at m.next) s t new.web.ends (at new.next) in
    let S : ℕ → Type 0 = λ k. IsSplit k m.web.ends (at m.next) x z split.web.ends (at split.next) in
    let G : ℕ → Type 0 = λ k. IsSmoothing k split.web.ends (at split.next) smooths.first smooths.second once.web.ends (at once.next) in
    let here : R x z = record {
      split = split.web.ends;
      split_next = at split.next;
      is_split = subst S nodes splits.1;
      once = once.web.ends;
      once_next = at once.next;
      new_first = smooths.first;
      new_second = smooths.second;
      at_new = smooths.at_node ∙ nodes;
      new_goes = subst G again.fewer smooths.smoothed;
      old_first = again.first;
      old_second = again.second;
      at_old = again.at_node ∙ sym at_x;
      old_goes = again.smoothed;
    } in
    record {
      first = cut.first;
      second = cut.second;
      third = cut.third;
      fourth = cut.fourth;
      four = cut.four;
      fewer = nodes;
      resolved = subst (λ (s : ℕ). R s second_cut) cut.from_is (subst (λ (t : ℕ). R x t) cut.to_is here);
    }

pub resolved_flat : (m : ListedMap) → IsListedMap m → (v : ℕ) (how : Way) (new : ListedMap) → Resolves m v how new → StaysFlat m new
resolved_flat m listed v how new done flat =
    let M : ℕ → Type 0 = λ k. IsMap k m.web.ends (at m.next) in
    let F : ℕ → Type 0 = λ k. MeetsEuler k m.web.ends (at m.next) in
    resolution_flat new.web.nodes (cut_at how done.first done.second) (cut_at how done.third done.fourth) m.web.ends new.web.ends (at m.next) (at new.next)
    (subst M done.fewer listed.is_map) done.resolved (subst F done.fewer flat)
