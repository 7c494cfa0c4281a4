-- The four darts of a node in a round, and the two between which it is split.
use Rattle.std.proofs.Common.{◌≡◌, ◌≢◌, ℕ, zero, suc, ◌*◌, ◌<◌, ◌⊎◌, inl, inr, length, min, refl, sym, ◌∙◌, ap, subst, arith}
use Rattle.xn_model.specs.Lists.{at}
use Rattle.xn_model.specs.Map.{tail_of}
use Rattle.xn_model.specs.Permutation.{iterate}
use Rattle.xn_map.specs.Anchored.{IsDartOf}
use Rattle.xn_map.specs.Listed.{IsListedMap, ListedMap}
use Rattle.xn_euler.specs.Resolving.{AreFourDarts, CanPart, CanPartBy, CanResolve, IsCutBetween, cut_at}
use Rattle.xn_euler.specs.declared.resolution.Way.{Way}
use Rattle.xn_euler.specs.declared.resolution.Way.TheVariants.{First, Second}

-- a walk in a ring of four
ring_of_four : (next : ℕ → ℕ) (a b c d : ℕ) → next a ≡ b → next b ≡ c → next c ≡ d → next d ≡ a → (k : ℕ) →
    (iterate next k a ≡ a) ⊎ ((iterate next k a ≡ b) ⊎ ((iterate next k a ≡ c) ⊎ (iterate next k a ≡ d)))
ring_of_four next a b c d to_b to_c to_d to_a zero = inl refl
ring_of_four next a b c d to_b to_c to_d to_a (suc k) = elim (ring_of_four next a b c d to_b to_c to_d to_a k) [
  | inl at_a ↦ inr (inl (ap next at_a ∙ to_b))
  | inr on ↦ elim on [
    | inl at_b ↦ inr (inr (inl (ap next at_b ∙ to_c)))
    | inr more ↦ elim more [
      | inl at_c ↦ inr (inr (inr (ap next at_c ∙ to_d)))
      | inr at_d ↦ inl (ap next at_d ∙ to_a)
    ]
  ]
]

-- the least dart at v is the first of its four
first_is : (m : ListedMap) → IsListedMap m → (v a b c d : ℕ) → AreFourDarts m v a b c d → (e : ℕ) → e < length m.next → tail_of m.web.ends e ≡ v →
    ((x : ℕ) → x < e → tail_of m.web.ends x ≢ v) → e ≡ a
first_is m listed v a b c d four e e_in at_v least =
    let walk = listed.is_map.one_ring a e four.first_in (omega (arith, e_in, listed.fits)) (four.at_node ∙ sym at_v) in
    let spot = ring_of_four (at m.next) a b c d four.to_second four.to_third four.to_fourth four.to_first walk.0 in
    let low : ¬ (a < e) = λ less. least a less four.at_node in
    omega (arith, spot, walk.1, low, four.least.0, four.least.1, four.least.2)

-- the least of any four that follow each other at v is the first
least_is : (m : ListedMap) → IsListedMap m → (v a b c d : ℕ) → AreFourDarts m v a b c d → (s t u w : ℕ) → IsDartOf m.web.ends v s → t ≡ at m.next s → u ≡ at m.next t → w ≡ at m.next u →
    min (min (min s t) u) w ≡ a
least_is m listed v a b c d four s t u w is t_is u_is w_is =
    let f = at m.next in
    let walk = listed.is_map.one_ring a s four.first_in is.0 (four.at_node ∙ sym is.1) in
    let after : (x y z : ℕ) → z ≡ f y → y ≡ x → z ≡ f x = λ x y z z_is y_is. z_is ∙ ap f y_is in
    elim (ring_of_four f a b c d four.to_second four.to_third four.to_fourth four.to_first walk.0) [
      | inl at_a ↦
          let s_a : s ≡ a = sym walk.1 ∙ at_a in
          let t_b : t ≡ b = after a s t t_is s_a ∙ four.to_second in
          let u_c : u ≡ c = after b t u u_is t_b ∙ four.to_third in
          let w_d : w ≡ d = after c u w w_is u_c ∙ four.to_fourth in
          omega (arith, s_a, t_b, u_c, w_d, four.least.0, four.least.1, four.least.2)
      | inr on ↦ elim on [
        | inl at_b ↦
            let s_b : s ≡ b = sym walk.1 ∙ at_b in
            let t_c : t ≡ c = after b s t t_is s_b ∙ four.to_third in
            let u_d : u ≡ d = after c t u u_is t_c ∙ four.to_fourth in
            let w_a : w ≡ a = after d u w w_is u_d ∙ four.to_first in
            omega (arith, s_b, t_c, u_d, w_a, four.least.0, four.least.1, four.least.2)
        | inr more ↦ elim more [
          | inl at_c ↦
              let s_c : s ≡ c = sym walk.1 ∙ at_c in
              let t_d : t ≡ d = after c s t t_is s_c ∙ four.to_fourth in
              let u_a : u ≡ a = after d t u u_is t_d ∙ four.to_first in
              let w_b : w ≡ b = after a u w w_is u_a ∙ four.to_second in
              omega (arith, s_c, t_d, u_a, w_b, four.least.0, four.least.1, four.least.2)
          | inr at_d ↦
              let s_d : s ≡ d = sym walk.1 ∙ at_d in
              let t_a : t ≡ a = after d s t t_is s_d ∙ four.to_first in
              let u_b : u ≡ b = after a t u u_is t_a ∙ four.to_second in
              let w_c : w ≡ c = after b u w w_is u_b ∙ four.to_third in
              omega (arith, s_d, t_a, u_b, w_c, four.least.0, four.least.1, four.least.2)
        ]
      ]
    ]

-- what is found by looking at four darts
pub record IsLeastAt (m : ListedMap) (v e : ℕ) : Type 0 where
  pub dart : e < length m.next
  pub node : tail_of m.web.ends e ≡ v
  pub least : (d : ℕ) → d < e → tail_of m.web.ends d ≢ v

pub least_at : (m : ListedMap) → IsListedMap m → (v : ℕ) → ((a b c d : ℕ) × AreFourDarts m v a b c d) → (s t u w : ℕ) → IsDartOf m.web.ends v s → t ≡ at m.next s → u ≡ at m.next t → w ≡ at m.next u →
    IsLeastAt m v (min (min (min s t) u) w)
least_at m listed v (a, b, c, d, four) s t u w is t_is u_is w_is =
    let P : ℕ → Type 0 = λ e. IsLeastAt m v e in
    subst P (sym (least_is m listed v a b c d four s t u w is t_is u_is w_is)) record {
      dart = omega (arith, four.first_in, listed.fits);
      node = four.at_node;
      least = λ x low here.
          let walk = listed.is_map.one_ring a x four.first_in (omega (arith, low, four.first_in)) (four.at_node ∙ sym here) in
          let spot = ring_of_four (at m.next) a b c d four.to_second four.to_third four.to_fourth four.to_first walk.0 in
          omega (arith, spot, walk.1, low, four.least.0, four.least.1, four.least.2);
    }

-- where the calls that look for the cut come
pub cut_is : (m : ListedMap) → IsListedMap m → (v : ℕ) (how : Way) → CanResolve m v how → (a b c : ℕ) → a < length m.next → tail_of m.web.ends a ≡ v →
    ((x : ℕ) → x < a → tail_of m.web.ends x ≢ v) → b ≡ at m.next a → c ≡ at m.next b → IsCutBetween m v how (cut_at how a b) (cut_at how c (at m.next c))
cut_is m listed v how (a', b', c', d', four, parts) a b c a_in at_v least b_is c_is =
    let a_same : a ≡ a' = first_is m listed v a' b' c' d' four a a_in at_v least in
    let b_same : b ≡ b' = b_is ∙ ap (at m.next) a_same ∙ four.to_second in
    let c_same : c ≡ c' = c_is ∙ ap (at m.next) b_same ∙ four.to_third in
    let d_same : at m.next c ≡ d' = ap (at m.next) c_same ∙ four.to_fourth in
    record {
      first = a';
      second = b';
      third = c';
      fourth = d';
      four = four;
      parts = parts;
      from_is = ap (λ x. cut_at how x b) a_same ∙ ap (cut_at how a') b_same;
      to_is = ap (λ x. cut_at how x (at m.next c)) c_same ∙ ap (cut_at how c') d_same;
    }

-- x, y, z and w follow each other round v
pub record IsRound (m : ListedMap) (v x y z w : ℕ) : Type 0 where
  pub x_in : x < 2 * length m.web.ends
  pub y_in : y < 2 * length m.web.ends
  pub z_in : z < 2 * length m.web.ends
  pub w_in : w < 2 * length m.web.ends
  pub x_at : tail_of m.web.ends x ≡ v
  pub y_at : tail_of m.web.ends y ≡ v
  pub z_at : tail_of m.web.ends z ≡ v
  pub w_at : tail_of m.web.ends w ≡ v
  pub to_y : at m.next x ≡ y
  pub to_z : at m.next y ≡ z
  pub to_w : at m.next z ≡ w
  pub to_x : at m.next w ≡ x
  pub x_not_y : x ≢ y
  pub x_not_z : x ≢ z
  pub x_not_w : x ≢ w
  pub y_not_z : y ≢ z
  pub y_not_w : y ≢ w
  pub z_not_w : z ≢ w

round_from_four : (m : ListedMap) → IsListedMap m → (v a b c d : ℕ) → AreFourDarts m v a b c d → IsRound m v a b c d
round_from_four m listed v a b c d four =
    let map = listed.is_map in
    let n = 2 * length m.web.ends in
    let I : ℕ → Type 0 = λ x. x < n in
    let T : ℕ → Type 0 = λ x. tail_of m.web.ends x ≡ v in
    let b_in : b < n = subst I four.to_second (map.permutes.below a four.first_in) in
    let c_in : c < n = subst I four.to_third (map.permutes.below b b_in) in
    let d_in : d < n = subst I four.to_fourth (map.permutes.below c c_in) in
    let b_at : tail_of m.web.ends b ≡ v = subst T four.to_second (map.same_node a four.first_in ∙ four.at_node) in
    let c_at : tail_of m.web.ends c ≡ v = subst T four.to_third (map.same_node b b_in ∙ b_at) in
    let d_at : tail_of m.web.ends d ≡ v = subst T four.to_fourth (map.same_node c c_in ∙ c_at) in
    let a_not_b : a ≢ b = λ same. omega (arith, same, four.least.0) in
    let a_not_c : a ≢ c = λ same. omega (arith, same, four.least.1) in
    let a_not_d : a ≢ d = λ same. omega (arith, same, four.least.2) in
    let b_not_c : b ≢ c = λ same. a_not_b (map.permutes.apart a b four.first_in b_in (four.to_second ∙ same ∙ sym four.to_third)) in
    let c_not_d : c ≢ d = λ same. b_not_c (map.permutes.apart b c b_in c_in (four.to_third ∙ same ∙ sym four.to_fourth)) in
    let b_not_d : b ≢ d = λ same. a_not_c (map.permutes.apart a c four.first_in c_in (four.to_second ∙ same ∙ sym four.to_fourth)) in
    record {
      x_in = four.first_in;
      y_in = b_in;
      z_in = c_in;
      w_in = d_in;
      x_at = four.at_node;
      y_at = b_at;
      z_at = c_at;
      w_at = d_at;
      to_y = four.to_second;
      to_z = four.to_third;
      to_w = four.to_fourth;
      to_x = four.to_first;
      x_not_y = a_not_b;
      x_not_z = a_not_c;
      x_not_w = a_not_d;
      y_not_z = b_not_c;
      y_not_w = b_not_d;
      z_not_w = c_not_d;
    }

-- the round from the second dart on
turned_round : (m : ListedMap) (v x y z w : ℕ) → IsRound m v x y z w → IsRound m v y z w x
turned_round m v x y z w r = record {
  x_in = r.y_in;
  y_in = r.z_in;
  z_in = r.w_in;
  w_in = r.x_in;
  x_at = r.y_at;
  y_at = r.z_at;
  z_at = r.w_at;
  w_at = r.x_at;
  to_y = r.to_z;
  to_z = r.to_w;
  to_w = r.to_x;
  to_x = r.to_y;
  x_not_y = r.y_not_z;
  x_not_z = r.y_not_w;
  x_not_w = λ same. r.x_not_y (sym same);
  y_not_z = r.z_not_w;
  y_not_w = λ same. r.x_not_z (sym same);
  z_not_w = λ same. r.x_not_w (sym same);
}

-- the round of v from the cut on
pub record IsParted (m : ListedMap) (v x z : ℕ) : Type 0 where
  pub y : ℕ
  pub w : ℕ
  pub round : IsRound m v x y z w
  pub parts : CanPart x y z w

pub parted : (m : ListedMap) → IsListedMap m → (v a b c d : ℕ) (how : Way) → AreFourDarts m v a b c d → CanPartBy how a b c d → IsParted m v (cut_at how a b) (cut_at how c d)
parted m listed v a b c d First four parts = record { y = b; w = d; round = round_from_four m listed v a b c d four; parts = parts }
parted m listed v a b c d Second four parts =
    record { y = c; w = a; round = turned_round m v a b c d (round_from_four m listed v a b c d four); parts = parts }

pub parted_at : (m : ListedMap) → IsListedMap m → (v : ℕ) (how : Way) (x z : ℕ) → IsCutBetween m v how x z → IsParted m v x z
parted_at m listed v how x z cut =
    let P : ℕ → ℕ → Type 0 = λ s t. IsParted m v s t in
    let p = parted m listed v cut.first cut.second cut.third cut.fourth how cut.four cut.parts in
    subst (λ (s : ℕ). P s z) (sym cut.from_is) (subst (λ (t : ℕ). P (cut_at how cut.first cut.second) t) (sym cut.to_is) p)

-- what a cut asks
pub record IsCutAllowed (m : ListedMap) (x z : ℕ) : Type 0 where
  pub first_in : x < length m.next
  pub second_in : z < length m.next
  pub differ : x ≢ z
  pub one_node : tail_of m.web.ends x ≡ tail_of m.web.ends z

pub cut_allowed : (m : ListedMap) → IsListedMap m → (v : ℕ) (how : Way) (x z : ℕ) → IsCutBetween m v how x z → IsCutAllowed m x z
cut_allowed m listed v how x z cut =
    let round = (parted_at m listed v how x z cut).round in
    record {
      first_in = omega (arith, round.x_in, listed.fits);
      second_in = omega (arith, round.z_in, listed.fits);
      differ = round.x_not_z;
      one_node = round.x_at ∙ sym round.z_at;
    }
