-- K5 as a minor with a class that falls into two, each beside two of the other four: K3,3 is a minor.
use Rattle.std.proofs.Common.{◌≡◌, ◌≢◌, ℕ, zero, suc, ◌+◌, ◌-◌, ◌<◌, ◌≤◌, ◌⊎◌, inl, inr, Bool, true, ◌&&◌, ◌||◌, cond, eqb, leb, List, [], ◌∷◌, refl, sym, ◌∙◌, ap, subst, arith}
use Rattle.std.proofs.lemmas.Bool.{and_from, and_parts, cases_Bool, cases_eq, cases_lt, cond-true, cond-false, eq-eqb, eqb-true, false_from_ne_true, le-leb, leb-true, ne_eqb, or_cases, or_left, or_right}
use Rattle.std.proofs.lemmas.List.Elements.{All-cons, All-nil}
use Rattle.xn_model.specs.Evidence.{five_pairs, three_pairs}
use Rattle.xn_model.specs.Graph.{EndsIn, Graph}
use Rattle.xn_model.specs.Map.{Joined}
use Rattle.xn_model.proofs.ComponentWalks.{joined_sym, joined_trans}
use Rattle.xn_genus.proofs.Tests.{some_below, some_below-from, some_below-to}
use Rattle.xn_fewer.proofs.Walks.{filter_to, joined_same, joined_within}
use Rattle.xn_kura.proofs.Pairs.{all_below, all_below_at}
use Rattle.xn_kuratowski.specs.Minor.{Adjoin, IsMinor, inside, is_inside}
use Rattle.xn_kuratowski.proofs.Attached.{any_same, any_same-to, five_are_pairs, gate, gate_is}
use Rattle.xn_kuratowski.proofs.Legs.{Paired}
use Rattle.xn_kuratowski.proofs.Minors.{is_within, joined_inside}
use Rattle.xn_kuratowski.proofs.Rim.{Adjacent}

-- a stretch of nodes, each beside the next
pub record IsStretch (ends : List (ℕ × ℕ)) (class : ℕ → ℕ) (i lo hi : ℕ) (f : ℕ → ℕ) : Type 0 where
  pub steps : (t : ℕ) → lo ≤ t → t < hi → Adjacent ends (f t) (f (suc t))
  pub within : (t : ℕ) → lo ≤ t → t ≤ hi → class (f t) ≡ i

-- w is one of them
abbrev pub on_stretch : ℕ → ℕ → (ℕ → ℕ) → ℕ → Bool
on_stretch lo hi f w = some_below (suc hi) (λ t. leb lo t && eqb (f t) w)

pub on_to : (lo hi : ℕ) (f : ℕ → ℕ) (w : ℕ) → on_stretch lo hi f w ≡ true → (t : ℕ) × (lo ≤ t) × (t ≤ hi) × (f t ≡ w)
on_to lo hi f w h =
    let found = some_below-to (suc hi) (λ t. leb lo t && eqb (f t) w) h in
    let two : (leb lo found.0 ≡ true) × (eqb (f found.0) w ≡ true) = and_parts _ _ found.2 in
    (found.0, leb-true _ _ two.0, omega (arith, found.1), eqb-true _ _ two.1)

pub on_from : (lo hi : ℕ) (f : ℕ → ℕ) (t : ℕ) → lo ≤ t → t ≤ hi → on_stretch lo hi f (f t) ≡ true
on_from lo hi f t low high = some_below-from (suc hi) (λ s. leb lo s && eqb (f s) (f t)) t (omega (arith, high)) (and_from _ _ (le-leb lo t low) (eq-eqb _ _ refl))

-- two stretches with a common node
pub record IsUnion (ends : List (ℕ × ℕ)) (class : ℕ → ℕ) (i lo hi lo' hi' : ℕ) (f g : ℕ → ℕ) : Type 0 where
  pub first : IsStretch ends class i lo hi f
  pub second : IsStretch ends class i lo' hi' g
  pub hub : ℕ
  pub hub' : ℕ
  pub hub_in : (lo ≤ hub) × (hub ≤ hi)
  pub hub'_in : (lo' ≤ hub') × (hub' ≤ hi')
  pub meet : f hub ≡ g hub'

abbrev pub on_union : ℕ → ℕ → ℕ → ℕ → (ℕ → ℕ) → (ℕ → ℕ) → ℕ → Bool
on_union lo hi lo' hi' f g w = on_stretch lo hi f w || on_stretch lo' hi' g w

-- along a stretch in one new class
stretch_joined : (ends : List (ℕ × ℕ)) (class new : ℕ → ℕ) (i c lo hi : ℕ) (f : ℕ → ℕ) → IsStretch ends class i lo hi f → ((t : ℕ) → lo ≤ t → t ≤ hi → new (f t) ≡ c) →
    (a n : ℕ) → lo ≤ a → a + n ≤ hi → Joined (inside new c ends) (f a) (f (a + n))
stretch_joined ends class new i c lo hi f is all a zero low high = joined_same (inside new c ends) (f a) (f (a + 0)) (ap f (let z : a ≡ a + 0 = omega arith in z))
stretch_joined ends class new i c lo hi f is all a (suc n) low high =
    let before = stretch_joined ends class new i c lo hi f is all a n low (omega (arith, high)) in
    let t = a + n in
    let s = is.steps t (omega (arith, low)) (omega (arith, high)) in
    let one = all t (omega (arith, low)) (omega (arith, high)) in
    let two = all (suc t) (omega (arith, low)) (omega (arith, high)) in
    let on : Joined (inside new c ends) (f t) (f (suc t)) = elim s.2 [
      | inl e ↦
          let P : ℕ × ℕ → Type 0 = λ p. Joined (inside new c ends) p.0 p.1 in
          subst P e (joined_inside ends new c s.0 s.1 (ap (λ p. new p.0) e ∙ one) (ap (λ p. new p.1) e ∙ two))
      | inr e ↦
          let P : ℕ × ℕ → Type 0 = λ p. Joined (inside new c ends) p.1 p.0 in
          subst P e (joined_sym (inside new c ends) _ _ (joined_inside ends new c s.0 s.1 (ap (λ p. new p.0) e ∙ two) (ap (λ p. new p.1) e ∙ one)))
    ] in
    let sum : suc t ≡ a + suc n = omega arith in
    let P : ℕ → Type 0 = λ z. Joined (inside new c ends) (f t) (f z) in
    joined_trans (inside new c ends) (f a) (f t) (f (a + suc n)) before (subst P sum on)

stretch_both : (ends : List (ℕ × ℕ)) (class new : ℕ → ℕ) (i c lo hi : ℕ) (f : ℕ → ℕ) → IsStretch ends class i lo hi f → ((t : ℕ) → lo ≤ t → t ≤ hi → new (f t) ≡ c) →
    (a b : ℕ) → (lo ≤ a) × (a ≤ hi) → (lo ≤ b) × (b ≤ hi) → Joined (inside new c ends) (f a) (f b)
stretch_both ends class new i c lo hi f is all a b a_in b_in =
    let forward : (p q : ℕ) → lo ≤ p → p ≤ q → q ≤ hi → Joined (inside new c ends) (f p) (f q) = λ p q low up high.
    let sum : p + (q - p) ≡ q = omega (arith, up) in
    let P : ℕ → Type 0 = λ z. Joined (inside new c ends) (f p) (f z) in
    subst P sum (stretch_joined ends class new i c lo hi f is all p (q - p) low (omega (arith, sum, high))) in
    elim (cases_lt a b) [
      | inl less ↦ forward a b a_in.0 (omega (arith, less)) b_in.1
      | inr more ↦ joined_sym (inside new c ends) (f b) (f a) (forward b a b_in.0 more a_in.1)
    ]

-- all of a union is joined
union_joined : (ends : List (ℕ × ℕ)) (class new : ℕ → ℕ) (i c lo hi lo' hi' : ℕ) (f g : ℕ → ℕ) → IsUnion ends class i lo hi lo' hi' f g →
    ((w : ℕ) → on_union lo hi lo' hi' f g w ≡ true → new w ≡ c) → (u v : ℕ) → on_union lo hi lo' hi' f g u ≡ true → on_union lo hi lo' hi' f g v ≡ true → Joined (inside new c ends) u v
union_joined ends class new i c lo hi lo' hi' f g is all u v at_u at_v =
    let web = inside new c ends in
    let first : (t : ℕ) → lo ≤ t → t ≤ hi → new (f t) ≡ c = λ t low high. all (f t) (or_left _ _ (on_from lo hi f t low high)) in
    let second : (t : ℕ) → lo' ≤ t → t ≤ hi' → new (g t) ≡ c = λ t low high. all (g t) (or_right (on_stretch lo hi f (g t)) _ (on_from lo' hi' g t low high)) in
    let to_hub : (w : ℕ) → on_union lo hi lo' hi' f g w ≡ true → Joined web w (f is.hub) = λ w h. elim (or_cases (on_stretch lo hi f w) (on_stretch lo' hi' g w) h) [
      | inl a ↦
          let t = on_to lo hi f w a in
          let P : ℕ → Type 0 = λ z. Joined web z (f is.hub) in
          subst P t.3 (stretch_both ends class new i c lo hi f is.first first t.0 is.hub (t.1, t.2) is.hub_in)
      | inr b ↦
          let t = on_to lo' hi' g w b in
          let P : ℕ → Type 0 = λ z. Joined web z (f is.hub) in
          let Q : ℕ → Type 0 = λ z. Joined web (g t.0) z in
          subst P t.3 (subst Q (sym is.meet) (stretch_both ends class new i c lo' hi' g is.second second t.0 is.hub' (t.1, t.2) is.hub'_in))
    ] in
    joined_trans web u (f is.hub) v (to_hub u at_u) (joined_sym web v (f is.hub) (to_hub v at_v))

union_within : (ends : List (ℕ × ℕ)) (class : ℕ → ℕ) (i lo hi lo' hi' : ℕ) (f g : ℕ → ℕ) → IsUnion ends class i lo hi lo' hi' f g → (w : ℕ) → on_union lo hi lo' hi' f g w ≡ true → class w ≡ i
union_within ends class i lo hi lo' hi' f g is w h = elim (or_cases (on_stretch lo hi f w) (on_stretch lo' hi' g w) h) [
  | inl a ↦ let t = on_to lo hi f w a in ap class (sym t.3) ∙ is.first.within t.0 t.1 t.2
  | inr b ↦ let t = on_to lo' hi' g w b in ap class (sym t.3) ∙ is.second.within t.0 t.1 t.2
]

-- each two classes of five are a pair
pub any_paired : (i o : ℕ) → i < 5 → o < 5 → i ≢ o → Paired five_pairs i o
any_paired i o i_in o_in other =
    let h = all_below_at 5 (λ t. eqb i t || any_same (i, t) five_pairs) (all_below_at 5 (λ j. all_below 5 (λ t. eqb j t || any_same (j, t) five_pairs)) refl i i_in) o o_in in
    elim (or_cases (eqb i o) (any_same (i, o) five_pairs) h) [
      | inl same ↦ absurd (other (eqb-true _ _ same))
      | inr found ↦ any_same-to (i, o) five_pairs found
    ]

-- class i falls into S, beside p and q, and T, beside r and s
module _ (web : Graph) (ends_in : EndsIn web.nodes web.ends) (class : ℕ → ℕ) (is : IsMinor web.ends 5 five_pairs class) (i p q r s : ℕ) (i_in : i < 5) (p_in : p < 5)
    (q_in : q < 5) (r_in : r < 5) (s_in : s < 5)
    (apart_i : (i ≢ p) × (i ≢ q) × (i ≢ r) × (i ≢ s)) (apart : (p ≢ q) × (p ≢ r) × (p ≢ s) × (q ≢ r) × (q ≢ s) × (r ≢ s))
    (lo hi lo' hi' : ℕ) (f f' : ℕ → ℕ) (S : IsUnion web.ends class i lo hi lo' hi' f f') (mo mi mo' mi' : ℕ) (g g' : ℕ → ℕ) (T : IsUnion web.ends class i mo mi mo' mi' g g')
    (disjoint : (w : ℕ) → on_union lo hi lo' hi' f f' w ≡ true → on_union mo mi mo' mi' g g' w ≡ true → ⊥) where
  abbrev ends : List (ℕ × ℕ)
  ends = web.ends

  abbrev in_S : ℕ → Bool
  in_S w = on_union lo hi lo' hi' f f' w

  abbrev in_T : ℕ → Bool
  in_T w = on_union mo mi mo' mi' g g' w

  abbrev gt : ℕ → ℕ → ℕ
  gt = gate web ends_in 5 five_pairs class is five_are_pairs.pairs_in five_are_pairs.pairs_once

  gt_is : (a b : ℕ) → a < 5 → b < 5 → a ≢ b → (class (gt a b) ≡ a) × Adjacent ends (gt a b) (gt b a)
  gt_is a b a_in b_in other = gate_is web ends_in 5 five_pairs class is five_are_pairs.pairs_in five_are_pairs.pairs_once a b (any_paired a b a_in b_in other)

  abbrev label : ℕ → ℕ
  label c = cond (eqb c p) 4 (cond (eqb c q) 5 (cond (eqb c r) 1 (cond (eqb c s) 2 9)))

  cases_label : (c : ℕ) → ((c ≡ p) × (label c ≡ 4)) ⊎ (((c ≢ p) × (c ≡ q) × (label c ≡ 5)) ⊎ (((c ≢ p) × (c ≢ q) × (c ≡ r) × (label c ≡ 1)) ⊎ (((c ≢ p) × (c ≢ q) × (c ≢ r) × (c ≡ s) × (label c ≡ 2))
      ⊎ ((c ≢ p) × (c ≢ q) × (c ≢ r) × (c ≢ s) × (label c ≡ 9)))))
  cases_label c = elim (cases_eq c p) [
    | inl a ↦ inl (a, cond-true _ _ _ (eq-eqb c p a))
    | inr a ↦ elim (cases_eq c q) [
      | inl b ↦ inr (inl (a, b, cond-false _ _ _ (ne_eqb c p a) ∙ cond-true _ _ _ (eq-eqb c q b)))
      | inr b ↦ elim (cases_eq c r) [
        | inl d ↦ inr (inr (inl (a, b, d, cond-false _ _ _ (ne_eqb c p a) ∙ cond-false _ _ _ (ne_eqb c q b) ∙ cond-true _ _ _ (eq-eqb c r d))))
        | inr d ↦ elim (cases_eq c s) [
          | inl e ↦ inr (inr (inr (inl (a, b, d, e, cond-false _ _ _ (ne_eqb c p a) ∙ cond-false _ _ _ (ne_eqb c q b) ∙ cond-false _ _ _ (ne_eqb c r d) ∙ cond-true _ _ _ (eq-eqb c s e)))))
          | inr e ↦ inr (inr (inr (inr (a, b, d, e, cond-false _ _ _ (ne_eqb c p a) ∙ cond-false _ _ _ (ne_eqb c q b) ∙ cond-false _ _ _ (ne_eqb c r d) ∙ cond-false _ _ _ (ne_eqb c s e)))))
        ]
      ]
    ]
  ]

  abbrev new : ℕ → ℕ
  new w = cond (eqb (class w) i) (cond (in_S w) 0 (cond (in_T w) 3 9)) (label (class w))

  new_S : (w : ℕ) → in_S w ≡ true → new w ≡ 0
  new_S w h = cond-true _ _ _ (eq-eqb _ _ (union_within ends class i lo hi lo' hi' f f' S w h)) ∙ cond-true _ _ _ h

  new_T : (w : ℕ) → in_T w ≡ true → new w ≡ 3
  new_T w h =
      cond-true _ _ _ (eq-eqb _ _ (union_within ends class i mo mi mo' mi' g g' T w h)) ∙ cond-false _ _ _ (false_from_ne_true _ (λ also. disjoint w also h)) ∙ cond-true _ _ _ h

  new_other : (w : ℕ) → class w ≢ i → new w ≡ label (class w)
  new_other w other = cond-false _ _ _ (ne_eqb _ _ other)

  -- what is in a new class
  cases_new : (w : ℕ) → ((class w ≡ i) × (in_S w ≡ true) × (new w ≡ 0)) ⊎ (((class w ≡ i) × (in_T w ≡ true) × (new w ≡ 3)) ⊎
      (((class w ≡ i) × (new w ≡ 9)) ⊎ ((class w ≢ i) × (new w ≡ label (class w)))))
  cases_new w = elim (cases_eq (class w) i) [
    | inr other ↦ inr (inr (inr (other, new_other w other)))
    | inl here ↦ elim (cases_Bool (in_S w)) [
      | inl a ↦ inl (here, a, new_S w a)
      | inr not_a ↦ elim (cases_Bool (in_T w)) [
        | inl b ↦ inr (inl (here, b, new_T w b))
        | inr not_b ↦ inr (inr (inl (here, cond-true _ _ _ (eq-eqb _ _ here) ∙ cond-false _ _ _ not_a ∙ cond-false _ _ _ not_b)))
      ]
    ]
  ]

  -- an old class under its new name
  old_joined : (c o : ℕ) → o < 5 → o ≢ i → label o ≡ c → (u v : ℕ) → class u ≡ o → class v ≡ o → Joined (inside new c ends) u v
  old_joined c o o_in other named u v at_u at_v =
      joined_within (inside class o ends) (inside new c ends) (λ t t_in.
      let found = filter_to (is_inside class o) ends t t_in in
      let at = is_within class o _ found.3 in
      let named_at : (w : ℕ) → class w ≡ o → new w ≡ c = λ w h. new_other w (λ e. other (sym h ∙ e)) ∙ ap label h ∙ named in
      let P : ℕ × ℕ → Type 0 = λ e. Joined (inside new c ends) e.0 e.1 in
      subst P (sym found.2) (joined_inside ends new c found.0 found.1 (named_at _ at.0) (named_at _ at.1))) u v (is.joined o u v o_in at_u at_v)

  -- only the nodes of a class have its new name
  class_from : (c o : ℕ) → c ≢ 0 → c ≢ 3 → c ≢ 9 → ((w : ℕ) → label w ≡ c → w ≡ o) → (w : ℕ) → new w ≡ c → class w ≡ o
  class_from c o not_0 not_3 not_9 unnamed w named = elim (cases_new w) [
    | inl a ↦ absurd (not_0 (sym named ∙ a.2))
    | inr (inl b) ↦ absurd (not_3 (sym named ∙ b.2))
    | inr (inr (inl n)) ↦ absurd (not_9 (sym named ∙ n.1))
    | inr (inr (inr o')) ↦ unnamed (class w) (sym o'.1 ∙ named)
  ]

  label_p : label p ≡ 4
  label_p = omega (arith, cases_label p)

  label_q : label q ≡ 5
  label_q = omega (arith, cases_label q, apart.0)

  label_r : label r ≡ 1
  label_r = cond-false _ _ _ (ne_eqb r p (λ e. apart.1 (sym e))) ∙ cond-false _ _ _ (ne_eqb r q (λ e. apart.3 (sym e))) ∙ cond-true _ _ _ (eq-eqb r r refl)

  label_s : label s ≡ 2
  label_s =
      cond-false _ _ _ (ne_eqb s p (λ e. apart.2 (sym e))) ∙ cond-false _ _ _ (ne_eqb s q (λ e. apart.4 (sym e))) ∙ cond-false _ _ _ (ne_eqb s r (λ e. apart.5 (sym e)))
      ∙ cond-true _ _ _ (eq-eqb s s refl)

  all_joined : (c u v : ℕ) → c < 6 → new u ≡ c → new v ≡ c → Joined (inside new c ends) u v
  all_joined zero u v c_in at_u at_v =
      let S_of : (w : ℕ) → new w ≡ 0 → in_S w ≡ true = λ w h. elim (cases_new w) [
        | inl a ↦ a.1
        | inr (inl b) ↦ absurd (omega (arith, b.2, h))
        | inr (inr (inl n)) ↦ absurd (omega (arith, n.1, h))
        | inr (inr (inr o)) ↦ absurd (omega (arith, o.1, h, cases_label (class w)))
      ] in
      union_joined ends class new i 0 lo hi lo' hi' f f' S new_S u v (S_of u at_u) (S_of v at_v)
  all_joined (suc zero) u v c_in at_u at_v =
      let from = class_from 1 r (λ e. omega (arith, e)) (λ e. omega (arith, e)) (λ e. omega (arith, e)) (λ w h. omega (arith, h, cases_label w)) in
      old_joined 1 r r_in (λ e. apart_i.2 (sym e)) label_r u v (from u at_u) (from v at_v)
  all_joined (suc (suc zero)) u v c_in at_u at_v =
      let from = class_from 2 s (λ e. omega (arith, e)) (λ e. omega (arith, e)) (λ e. omega (arith, e)) (λ w h. omega (arith, h, cases_label w)) in
      old_joined 2 s s_in (λ e. apart_i.3 (sym e)) label_s u v (from u at_u) (from v at_v)
  all_joined (suc (suc (suc zero))) u v c_in at_u at_v =
      let T_of : (w : ℕ) → new w ≡ 3 → in_T w ≡ true = λ w h. elim (cases_new w) [
        | inl a ↦ absurd (omega (arith, a.2, h))
        | inr (inl b) ↦ b.1
        | inr (inr (inl n)) ↦ absurd (omega (arith, n.1, h))
        | inr (inr (inr o)) ↦ absurd (omega (arith, o.1, h, cases_label (class w)))
      ] in
      union_joined ends class new i 3 mo mi mo' mi' g g' T new_T u v (T_of u at_u) (T_of v at_v)
  all_joined (suc (suc (suc (suc zero)))) u v c_in at_u at_v =
      let from = class_from 4 p (λ e. omega (arith, e)) (λ e. omega (arith, e)) (λ e. omega (arith, e)) (λ w h. omega (arith, h, cases_label w)) in
      old_joined 4 p p_in (λ e. apart_i.0 (sym e)) label_p u v (from u at_u) (from v at_v)
  all_joined (suc (suc (suc (suc (suc zero))))) u v c_in at_u at_v =
      let from = class_from 5 q (λ e. omega (arith, e)) (λ e. omega (arith, e)) (λ e. omega (arith, e)) (λ w h. omega (arith, h, cases_label w)) in
      old_joined 5 q q_in (λ e. apart_i.1 (sym e)) label_q u v (from u at_u) (from v at_v)
  all_joined (suc (suc (suc (suc (suc (suc c)))))) u v c_in at_u at_v = absurd (omega (arith, c_in))

  adjoins : (c d u v : ℕ) → Adjacent ends u v → new u ≡ c → new v ≡ d → Adjoin ends new c d
  adjoins c d u v a at_u at_v = (
    a.0,
    a.1,
    elim a.2 [
      | inl e ↦ inl (ap (λ t. new t.0) e ∙ at_u, ap (λ t. new t.1) e ∙ at_v)
      | inr e ↦ inr (ap (λ t. new t.0) e ∙ at_v, ap (λ t. new t.1) e ∙ at_u)
    ],
  )

  named_gate : (a b c : ℕ) → a < 5 → b < 5 → a ≢ b → a ≢ i → label a ≡ c → new (gt a b) ≡ c
  named_gate a b c a_in b_in other not_i named =
      let at = (gt_is a b a_in b_in other).0 in
      new_other (gt a b) (λ e. not_i (sym at ∙ e)) ∙ ap label at ∙ named

  module _ (S_p : in_S (gt i p) ≡ true) (S_q : in_S (gt i q) ≡ true) (T_r : in_T (gt i r) ≡ true) (T_s : in_T (gt i s) ≡ true) (u v : ℕ) (S_u : in_S u ≡ true)
      (T_v : in_T v ≡ true) (over : Adjacent ends u v) where
    pub split_minor : IsMinor ends 6 three_pairs new
    split_minor =
        let A : ℕ × ℕ → Type 0 = λ e. Adjoin ends new e.0 e.1 in
        let swapped : (a b : ℕ) → a ≢ b → b ≢ a = λ a b other e. other (sym e) in
        record {
          joined = λ c u v c_in at_u at_v. all_joined c u v c_in at_u at_v;
          adjoin =
              All-cons A (0, 3) ((0, 4) ∷ (0, 5) ∷ (1, 3) ∷ (1, 4) ∷ (1, 5) ∷ (2, 3) ∷ (2, 4) ∷ (2, 5) ∷ []) (adjoins 0 3 u v over (new_S u S_u) (new_T v T_v))
              (All-cons A (0, 4) ((0, 5) ∷ (1, 3) ∷ (1, 4) ∷ (1, 5) ∷ (2, 3) ∷ (2, 4) ∷ (2, 5) ∷ [])
              (adjoins 0 4 (gt i p) (gt p i) (gt_is i p i_in p_in apart_i.0).1 (new_S _ S_p) (named_gate p i 4 p_in i_in (swapped i p apart_i.0) (swapped i p apart_i.0) label_p))
              (All-cons A (0, 5) ((1, 3) ∷ (1, 4) ∷ (1, 5) ∷ (2, 3) ∷ (2, 4) ∷ (2, 5) ∷ [])
              (adjoins 0 5 (gt i q) (gt q i) (gt_is i q i_in q_in apart_i.1).1 (new_S _ S_q) (named_gate q i 5 q_in i_in (swapped i q apart_i.1) (swapped i q apart_i.1) label_q))
              (All-cons A (1, 3) ((1, 4) ∷ (1, 5) ∷ (2, 3) ∷ (2, 4) ∷ (2, 5) ∷ [])
              (adjoins 1 3 (gt r i) (gt i r) (gt_is r i r_in i_in (swapped i r apart_i.2)).1 (named_gate r i 1 r_in i_in (swapped i r apart_i.2) (swapped i r apart_i.2) label_r) (new_T _ T_r))
              (All-cons A (1, 4) ((1, 5) ∷ (2, 3) ∷ (2, 4) ∷ (2, 5) ∷ [])
              (adjoins 1 4 (gt r p) (gt p r) (gt_is r p r_in p_in (swapped p r apart.1)).1 (named_gate r p 1 r_in p_in (swapped p r apart.1) (swapped i r apart_i.2) label_r)
              (named_gate p r 4 p_in r_in apart.1 (swapped i p apart_i.0) label_p))
              (All-cons A (1, 5) ((2, 3) ∷ (2, 4) ∷ (2, 5) ∷ [])
              (adjoins 1 5 (gt r q) (gt q r) (gt_is r q r_in q_in (swapped q r apart.3)).1 (named_gate r q 1 r_in q_in (swapped q r apart.3) (swapped i r apart_i.2) label_r)
              (named_gate q r 5 q_in r_in apart.3 (swapped i q apart_i.1) label_q))
              (All-cons A (2, 3) ((2, 4) ∷ (2, 5) ∷ [])
              (adjoins 2 3 (gt s i) (gt i s) (gt_is s i s_in i_in (swapped i s apart_i.3)).1 (named_gate s i 2 s_in i_in (swapped i s apart_i.3) (swapped i s apart_i.3) label_s) (new_T _ T_s))
              (All-cons A (2, 4) ((2, 5) ∷ [])
              (adjoins 2 4 (gt s p) (gt p s) (gt_is s p s_in p_in (swapped p s apart.2)).1 (named_gate s p 2 s_in p_in (swapped p s apart.2) (swapped i s apart_i.3) label_s)
              (named_gate p s 4 p_in s_in apart.2 (swapped i p apart_i.0) label_p))
              (All-cons A (2, 5) []
              (adjoins 2 5 (gt s q) (gt q s) (gt_is s q s_in q_in (swapped q s apart.4)).1 (named_gate s q 2 s_in q_in (swapped q s apart.4) (swapped i s apart_i.3) label_s)
              (named_gate q s 5 q_in s_in apart.4 (swapped i q apart_i.1) label_q))
              (All-nil A)))))))));
        }

    pub split_has : (c : ℕ → ℕ) × IsMinor ends 6 three_pairs c
    split_has = (new, split_minor)
