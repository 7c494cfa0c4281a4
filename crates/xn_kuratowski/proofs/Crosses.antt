-- Evidence from minors: each class of a K5 has a centre with four legs, or falls into two.
use Rattle.std.proofs.Common.{◌≡◌, ◌≢◌, ℕ, zero, suc, ◌+◌, ◌-◌, ◌<◌, ◌≤◌, ◌⊎◌, inl, inr, Bool, true, false, ◌||◌, eqb, ltb, List, refl, sym, ◌∙◌, ap, subst, arith}
use Rattle.std.proofs.lemmas.Bool.{both_ways, cases_eq, cases_lt, cases_order, cond-true, cond-false, eq-eqb, eqb-true, eqb-false, le-ltb, lt-ltb, ltb-true, or_cases, or_left, or_right, or_parts}
use Rattle.xn_model.specs.Evidence.{five_pairs, three_pairs}
use Rattle.xn_model.specs.Graph.{EndsIn, Graph}
use Rattle.xn_model.specs.Map.{Joined}
use Rattle.xn_genus.proofs.Tests.{some_below, some_below-from, some_below-to}
use Rattle.xn_kuratowski.specs.Minor.{IsMinor, inside}
use Rattle.xn_kuratowski.proofs.Attached.{five_are_pairs, five_back, five_other, five_paired, five_slot, gate, gate_is, stars_subdivide, three_evidence}
use Rattle.xn_kuratowski.proofs.FallingApart.{IsStretch, on_from, on_stretch, on_to, on_union, split_has}
use Rattle.xn_kuratowski.proofs.Legs.{IsStar}
use Rattle.xn_kuratowski.proofs.MinorSteps.{MinorsGiveEvidence}
use Rattle.xn_kuratowski.proofs.Rim.{Adjacent}
use Rattle.xn_kuratowski.proofs.Smallest.{smallest, smallest_is}
use Rattle.xn_kuratowski.proofs.Tripods.{InClass, at_f, back_step, class_path, forth_step, j as place_f, k as place_g, k_low, off_f, three_leg, three_long, three_stop, tripod}

stretch_of : (ends : List (ℕ × ℕ)) (class : ℕ → ℕ) (i u v l : ℕ) (f : ℕ → ℕ) → InClass ends class i u v l f → (lo hi : ℕ) → hi ≤ l → IsStretch ends class i lo hi f
stretch_of ends class i u v l f is lo hi low = record {
  steps = λ t from to. is.steps t (omega (arith, to, low));
  within = λ t from to. is.within t (omega (arith, to, low));
}

cases_other : (i s : ℕ) → ((s < i) × (five_other i s ≡ s)) ⊎ ((i ≤ s) × (five_other i s ≡ s + 1))
cases_other i s = elim (cases_lt s i) [ inl low ↦ inl (low, cond-true _ _ _ (lt-ltb s i low)) | inr high ↦ inr (high, cond-false _ _ _ (le-ltb s i high)) ]

module _ (web : Graph) (ends_in : EndsIn web.nodes web.ends) (class : ℕ → ℕ) (is : IsMinor web.ends 5 five_pairs class) (i : ℕ) (i_in : i < 5) where
  abbrev ends : List (ℕ × ℕ)
  ends = web.ends

  abbrev gt : ℕ → ℕ → ℕ
  gt = gate web ends_in 5 five_pairs class is five_are_pairs.pairs_in five_are_pairs.pairs_once

  -- the node of slot s
  abbrev T : ℕ → ℕ
  T s = gt i (five_other i s)

  T_in : (s : ℕ) → s < 4 → class (T s) ≡ i
  T_in s s_in = (gate_is web ends_in 5 five_pairs class is five_are_pairs.pairs_in five_are_pairs.pairs_once i (five_other i s) (five_paired i s i_in s_in)).0

  other_in : (s : ℕ) → s < 4 → five_other i s < 5
  other_in s s_in = omega (arith, i_in, s_in, cases_other i s)

  other_not : (s : ℕ) → i ≢ five_other i s
  other_not s same = omega (arith, same, cases_other i s)

  other_apart : (s t : ℕ) → s ≢ t → five_other i s ≢ five_other i t
  other_apart s t differ same = omega (arith, same, differ, cases_other i s, cases_other i t)

  abbrev Star : Type 0
  Star = (centre : ℕ) × (long stop : ℕ → ℕ) × (leg : ℕ → ℕ → ℕ) × IsStar ends class i 4 centre long stop leg × ((s : ℕ) → s < 4 → stop s ≡ gt i (five_other i s))

  abbrev Three : Type 0
  Three = (c : ℕ → ℕ) × IsMinor ends 6 three_pairs c

  module _ (l : ℕ) (f : ℕ → ℕ) (P : InClass ends class i (T 0) (T 1) l f) (l2 : ℕ) (g : ℕ → ℕ) (Q : InClass ends class i (T 2) (T 0) l2 g) (l3 : ℕ) (h : ℕ → ℕ)
      (Z : InClass ends class i (T 3) (T 0) l3 h) where
    abbrev k : ℕ
    k = place_g ends class i (T 0) (T 1) (T 2) l f P l2 g Q

    abbrev j : ℕ
    j = place_f ends class i (T 0) (T 1) (T 2) l f P l2 g Q

    g_low : k ≤ l2
    g_low = k_low ends class i (T 0) (T 1) (T 2) l f P l2 g Q

    f_at : (j ≤ l) × (f j ≡ g k)
    f_at = let found = at_f ends class i (T 0) (T 1) (T 2) l f P l2 g Q in (found.1, found.2)

    off : (m t : ℕ) → m < k → t ≤ l → f t ≢ g m
    off = off_f ends class i (T 0) (T 1) (T 2) l f P l2 g Q

    abbrev on_f : ℕ → Bool
    on_f v = some_below (suc l) (λ t. eqb (f t) v)

    abbrev on_g : ℕ → Bool
    on_g v = some_below k (λ m. eqb (g m) v)

    abbrev k3 : ℕ
    k3 = smallest (suc l3) (λ m. on_f (h m) || on_g (h m))

    met : ((on_f (h k3) || on_g (h k3)) ≡ true) × ((m : ℕ) → m < k3 → (on_f (h m) || on_g (h m)) ≡ false) × (k3 ≤ l3)
    met = smallest_is (suc l3) (λ m. on_f (h m) || on_g (h m)) l3 (omega arith) (or_left _ _ (some_below-from (suc l) (λ t. eqb (f t) (h l3)) 0 (omega arith) (eq-eqb _ _ (P.starts ∙ sym Z.stops))))

    off_h : (m t : ℕ) → m < k3 → t ≤ l → f t ≢ h m
    off_h m t low t_low same =
        let none : (on_f (h m) ≡ false) × (on_g (h m) ≡ false) = or_parts _ _ (met.1 m low) in
        both_ways _ none.0 (some_below-from (suc l) (λ z. eqb (f z) (h m)) t (omega (arith, t_low)) (eq-eqb _ _ same))

    off_gh : (m n : ℕ) → m < k3 → n < k → g n ≢ h m
    off_gh m n low n_low same =
        let none : (on_f (h m) ≡ false) × (on_g (h m) ≡ false) = or_parts _ _ (met.1 m low) in
        both_ways _ none.1 (some_below-from k (λ z. eqb (g z) (h m)) n n_low (eq-eqb _ _ same))

    -- ---- the fourth leg comes to the centre

    module _ (here : h k3 ≡ f j) where
      abbrev leg : ℕ → ℕ → ℕ
      leg zero m = three_leg ends class i (T 0) (T 1) (T 2) l f P l2 g Q 0 m
      leg (suc zero) m = three_leg ends class i (T 0) (T 1) (T 2) l f P l2 g Q 1 m
      leg (suc (suc zero)) m = three_leg ends class i (T 0) (T 1) (T 2) l f P l2 g Q 2 m
      leg (suc (suc (suc s))) m = h (k3 - m)

      abbrev long : ℕ → ℕ
      long zero = three_long ends class i (T 0) (T 1) (T 2) l f P l2 g Q 0
      long (suc zero) = three_long ends class i (T 0) (T 1) (T 2) l f P l2 g Q 1
      long (suc (suc zero)) = three_long ends class i (T 0) (T 1) (T 2) l f P l2 g Q 2
      long (suc (suc (suc s))) = k3

      abbrev stop : ℕ → ℕ
      stop zero = T 0
      stop (suc zero) = T 1
      stop (suc (suc zero)) = T 2
      stop (suc (suc (suc s))) = T 3

      three : IsStar ends class i 3 (f j) (three_long ends class i (T 0) (T 1) (T 2) l f P l2 g Q) (three_stop ends class i (T 0) (T 1) (T 2) l f P l2 g Q)
          (three_leg ends class i (T 0) (T 1) (T 2) l f P l2 g Q)
      three = tripod ends class i (T 0) (T 1) (T 2) l f P l2 g Q

      lt0 : 0 < 3
      lt0 = omega arith

      lt1 : 1 < 3
      lt1 = omega arith

      lt2 : 2 < 3
      lt2 = omega arith

      -- it meets the others there alone
      fourth_f : (m t : ℕ) → m ≤ k3 → t ≤ l → h (k3 - m) ≡ f t → (m ≡ 0) × (t ≡ j)
      fourth_f m t low t_low same = elim (cases_eq m 0) [
        | inl none ↦ (none, P.once t j t_low f_at.0 (sym same ∙ ap h (let z : k3 - m ≡ k3 = omega (arith, none) in z) ∙ here))
        | inr some ↦ absurd (off_h (k3 - m) t (omega (arith, some, low)) t_low (sym same))
      ]

      fourth_g : (m n : ℕ) → m ≤ k3 → n ≤ k → h (k3 - m) ≡ g (k - n) → (m ≡ 0) × (n ≡ 0)
      fourth_g m n low n_low same = elim (cases_eq n 0) [
        | inl none ↦ ((fourth_f m j low f_at.0 (same ∙ ap g (let z : k - n ≡ k = omega (arith, none) in z) ∙ sym f_at.1)).0, none)
        | inr some ↦ elim (cases_eq m 0) [
          | inl zero_m ↦ absurd (off (k - n) j (omega (arith, some, n_low)) f_at.0 (sym here ∙ ap h (let z : k3 ≡ k3 - m = omega (arith, zero_m) in z) ∙ same))
          | inr some_m ↦ absurd (off_gh (k3 - m) (k - n) (omega (arith, some_m, low)) (omega (arith, some, n_low)) (sym same))
        ]
      ]

      fourth : (s m n : ℕ) → s < 3 → m ≤ k3 → n ≤ long s → h (k3 - m) ≡ leg s n → (m ≡ 0) × (n ≡ 0)
      fourth zero m n s_in low n_low same = let e = fourth_f m (j - n) low (omega (arith, f_at.0)) same in (e.0, omega (arith, e.1, n_low))
      fourth (suc zero) m n s_in low n_low same = let e = fourth_f m (j + n) low (omega (arith, f_at.0, n_low)) same in (e.0, omega (arith, e.1))
      fourth (suc (suc zero)) m n s_in low n_low same = fourth_g m n low n_low same
      fourth (suc (suc (suc s))) m n s_in low n_low same = absurd (omega (arith, s_in))

      -- the first three legs are those of the tripod
      old : (s t m n : ℕ) → s < 3 → t < 3 → m ≤ long s → n ≤ long t → leg s m ≡ leg t n → ((m ≡ 0) × (n ≡ 0)) ⊎ ((s ≡ t) × (m ≡ n))
      old zero zero m n s_in t_in m_low n_low same = three.once 0 0 m n s_in t_in m_low n_low same
      old zero (suc zero) m n s_in t_in m_low n_low same = three.once 0 1 m n s_in t_in m_low n_low same
      old zero (suc (suc zero)) m n s_in t_in m_low n_low same = three.once 0 2 m n s_in t_in m_low n_low same
      old (suc zero) zero m n s_in t_in m_low n_low same = three.once 1 0 m n s_in t_in m_low n_low same
      old (suc zero) (suc zero) m n s_in t_in m_low n_low same = three.once 1 1 m n s_in t_in m_low n_low same
      old (suc zero) (suc (suc zero)) m n s_in t_in m_low n_low same = three.once 1 2 m n s_in t_in m_low n_low same
      old (suc (suc zero)) zero m n s_in t_in m_low n_low same = three.once 2 0 m n s_in t_in m_low n_low same
      old (suc (suc zero)) (suc zero) m n s_in t_in m_low n_low same = three.once 2 1 m n s_in t_in m_low n_low same
      old (suc (suc zero)) (suc (suc zero)) m n s_in t_in m_low n_low same = three.once 2 2 m n s_in t_in m_low n_low same
      old (suc (suc (suc s))) t m n s_in t_in m_low n_low same = absurd (omega (arith, s_in))
      old zero (suc (suc (suc t))) m n s_in t_in m_low n_low same = absurd (omega (arith, t_in))
      old (suc zero) (suc (suc (suc t))) m n s_in t_in m_low n_low same = absurd (omega (arith, t_in))
      old (suc (suc zero)) (suc (suc (suc t))) m n s_in t_in m_low n_low same = absurd (omega (arith, t_in))

      leg_three : (s m : ℕ) → s ≡ 3 → leg s m ≡ h (k3 - m)
      leg_three s m e = ap (λ t. leg t m) e

      long_three : (s : ℕ) → s ≡ 3 → long s ≡ k3
      long_three s e = ap long e

      once : (s t m n : ℕ) → s < 4 → t < 4 → m ≤ long s → n ≤ long t → leg s m ≡ leg t n → ((m ≡ 0) × (n ≡ 0)) ⊎ ((s ≡ t) × (m ≡ n))
      once s t m n s_in t_in m_low n_low same = elim (cases_lt s 3) [
        | inl s_old ↦ elim (cases_lt t 3) [
          | inl t_old ↦ old s t m n s_old t_old m_low n_low same
          | inr t_new ↦
              let t3 : t ≡ 3 = omega (arith, t_new, t_in) in
              let e = fourth s n m s_old (let b = long_three t t3 in omega (arith, n_low, b)) m_low (sym (leg_three t n t3) ∙ sym same) in
              inl (e.1, e.0)
        ]
        | inr s_new ↦
            let s3 : s ≡ 3 = omega (arith, s_new, s_in) in
            let b = long_three s s3 in
            elim (cases_lt t 3) [
              | inl t_old ↦ inl (fourth t m n t_old (omega (arith, m_low, b)) n_low (sym (leg_three s m s3) ∙ same))
              | inr t_new ↦
                  let t3 : t ≡ 3 = omega (arith, t_new, t_in) in
                  let c = long_three t t3 in
                  let e = Z.once (k3 - m) (k3 - n) (omega (arith, met.2)) (omega (arith, met.2)) (sym (leg_three s m s3) ∙ same ∙ leg_three t n t3) in
                  inr (omega (arith, s3, t3), omega (arith, e, m_low, n_low, b, c))
            ]
      ]

      within : (s m : ℕ) → s < 4 → m ≤ long s → class (leg s m) ≡ i
      within zero m s_in low = three.within 0 m lt0 low
      within (suc zero) m s_in low = three.within 1 m lt1 low
      within (suc (suc zero)) m s_in low = three.within 2 m lt2 low
      within (suc (suc (suc s))) m s_in low = Z.within (k3 - m) (omega (arith, met.2))

      starts : (s : ℕ) → s < 4 → leg s 0 ≡ f j
      starts zero s_in = three.starts 0 lt0
      starts (suc zero) s_in = three.starts 1 lt1
      starts (suc (suc zero)) s_in = three.starts 2 lt2
      starts (suc (suc (suc s))) s_in = ap h (let z : k3 - 0 ≡ k3 = omega arith in z) ∙ here

      stops : (s : ℕ) → s < 4 → leg s (long s) ≡ stop s
      stops zero s_in = three.stops 0 lt0
      stops (suc zero) s_in = three.stops 1 lt1
      stops (suc (suc zero)) s_in = three.stops 2 lt2
      stops (suc (suc (suc s))) s_in = ap h (let z : k3 - k3 ≡ 0 = omega arith in z) ∙ Z.starts

      steps : (s m : ℕ) → s < 4 → m < long s → Adjacent ends (leg s m) (leg s (suc m))
      steps zero m s_in low = three.steps 0 m lt0 low
      steps (suc zero) m s_in low = three.steps 1 m lt1 low
      steps (suc (suc zero)) m s_in low = three.steps 2 m lt2 low
      steps (suc (suc (suc s))) m s_in low = back_step ends class i (T 3) (T 0) l3 h Z (k3 - suc m) (k3 - m) (omega (arith, low)) (omega (arith, met.2))

      stop_is : (s : ℕ) → s < 4 → stop s ≡ T s
      stop_is zero s_in = refl
      stop_is (suc zero) s_in = refl
      stop_is (suc (suc zero)) s_in = refl
      stop_is (suc (suc (suc zero))) s_in = refl
      stop_is (suc (suc (suc (suc s)))) s_in = absurd (omega (arith, s_in))

      cross : Star
      cross = (f j, long, stop, leg, record { within = within; starts = starts; stops = stops; steps = steps; once = once; inside = P.within j f_at.0 }, stop_is)

    -- ---- it comes to the first path elsewhere, or to the second

    on_piece : (lo hi : ℕ) (f : ℕ → ℕ) (t w : ℕ) → lo ≤ t → t ≤ hi → f t ≡ w → on_stretch lo hi f w ≡ true
    on_piece lo hi f t w low high same = let B : ℕ → Type 0 = λ z. on_stretch lo hi f z ≡ true in subst B same (on_from lo hi f t low high)

    -- where a node of both is none of either pair of stretches, they are disjoint
    disjoint_from : (lo hi lo' hi' mo mi mo' mi' : ℕ) (p q r s : ℕ → ℕ) →
        ((a b : ℕ) → lo ≤ a → a ≤ hi → mo ≤ b → b ≤ mi → p a ≢ r b) → ((a b : ℕ) → lo ≤ a → a ≤ hi → mo' ≤ b → b ≤ mi' → p a ≢ s b) →
        ((a b : ℕ) → lo' ≤ a → a ≤ hi' → mo ≤ b → b ≤ mi → q a ≢ r b) → ((a b : ℕ) → lo' ≤ a → a ≤ hi' → mo' ≤ b → b ≤ mi' → q a ≢ s b) →
        (w : ℕ) → on_union lo hi lo' hi' p q w ≡ true → on_union mo mi mo' mi' r s w ≡ true → ⊥
    disjoint_from lo hi lo' hi' mo mi mo' mi' p q r s pr ps qr qs w one two = elim (or_cases (on_stretch lo hi p w) (on_stretch lo' hi' q w) one) [
      | inl a ↦
          let x = on_to lo hi p w a in
          elim (or_cases (on_stretch mo mi r w) (on_stretch mo' mi' s w) two) [
            | inl b ↦ let y = on_to mo mi r w b in pr x.0 y.0 x.1 x.2 y.1 y.2 (x.3 ∙ sym y.3)
            | inr b ↦ let y = on_to mo' mi' s w b in ps x.0 y.0 x.1 x.2 y.1 y.2 (x.3 ∙ sym y.3)
          ]
      | inr a ↦
          let x = on_to lo' hi' q w a in
          elim (or_cases (on_stretch mo mi r w) (on_stretch mo' mi' s w) two) [
            | inl b ↦ let y = on_to mo mi r w b in qr x.0 y.0 x.1 x.2 y.1 y.2 (x.3 ∙ sym y.3)
            | inr b ↦ let y = on_to mo' mi' s w b in qs x.0 y.0 x.1 x.2 y.1 y.2 (x.3 ∙ sym y.3)
          ]
    ]

    -- of the third path, only its end is on the first, and there f j'
    h_f : (j' : ℕ) → j' ≤ l → f j' ≡ h k3 → (t m : ℕ) → t ≤ l → m ≤ k3 → f t ≡ h m → t ≡ j'
    h_f j' j'_in at t m t_low m_low same = elim (cases_eq m k3) [
      | inl last ↦ P.once t j' t_low j'_in (same ∙ ap h last ∙ sym at)
      | inr before ↦ absurd (off_h m t (omega (arith, m_low, before)) t_low same)
    ]

    g_h : (j' : ℕ) → j' ≤ l → f j' ≡ h k3 → (n m : ℕ) → n ≤ k → m ≤ k3 → g n ≡ h m → j ≡ j'
    g_h j' j'_in at n m n_low m_low same = elim (cases_eq n k) [
      | inl last ↦ h_f j' j'_in at j m f_at.0 m_low (f_at.1 ∙ ap g (sym last) ∙ same)
      | inr before ↦ elim (cases_eq m k3) [
        | inl end ↦ absurd (off n j' (omega (arith, n_low, before)) j'_in (at ∙ ap h (sym end) ∙ sym same))
        | inr earlier ↦ absurd (off_gh m n (omega (arith, m_low, earlier)) (omega (arith, n_low, before)) same)
      ]
    ]

    g_f : (n t : ℕ) → n ≤ k → t ≤ l → g n ≡ f t → t ≡ j
    g_f n t n_low t_low same = elim (cases_eq n k) [
      | inl last ↦ P.once t j t_low f_at.0 (sym same ∙ ap g last ∙ sym f_at.1)
      | inr before ↦ absurd (off n t (omega (arith, n_low, before)) t_low (sym same))
    ]

    apart_of : (a b c d : ℕ) → a ≢ b → a ≢ c → a ≢ d → b ≢ c → b ≢ d → c ≢ d →
        (five_other i a ≢ five_other i b) × (five_other i a ≢ five_other i c) × (five_other i a ≢ five_other i d) × (five_other i b ≢ five_other i c) ×
        (five_other i b ≢ five_other i d) × (five_other i c ≢ five_other i d)
    apart_of a b c d ab ac ad bc bd cd = (other_apart a b ab, other_apart a c ac, other_apart a d ad, other_apart b c bc, other_apart b d bd, other_apart c d cd)

    num : (a b : ℕ) → ltb a b ≡ true → a < b
    num a b h = ltb-true a b h

    differ : (a b : ℕ) → eqb a b ≡ false → a ≢ b
    differ a b h = eqb-false a b h

    module _ (j' : ℕ) (j'_in : j' ≤ l) (at : f j' ≡ h k3) where
      -- nearer to the first end
      nearer : j' < j → Three
      nearer less =
          split_has web ends_in class is i (five_other i 1) (five_other i 2) (five_other i 0) (five_other i 3) i_in (other_in 1 (num 1 4 refl)) (other_in 2 (num 2 4 refl))
          (other_in 0 (num 0 4 refl)) (other_in 3 (num 3 4 refl))
          (other_not 1, other_not 2, other_not 0, other_not 3) (apart_of 1 2 0 3 (differ 1 2 refl) (differ 1 0 refl) (differ 1 3 refl) (differ 2 0 refl) (differ 2 3 refl) (differ 0 3 refl))
          j l 0 k f g (record {
            first = stretch_of ends class i (T 0) (T 1) l f P j l (omega arith);
            second = stretch_of ends class i (T 2) (T 0) l2 g Q 0 k g_low;
            hub = j;
            hub' = k;
            hub_in = (omega arith, f_at.0);
            hub'_in = (omega arith, omega arith);
            meet = f_at.1;
          })
          0 (j - 1) 0 k3 f h (record {
            first = stretch_of ends class i (T 0) (T 1) l f P 0 (j - 1) (let b = f_at.0 in omega (arith, b));
            second = stretch_of ends class i (T 3) (T 0) l3 h Z 0 k3 met.2;
            hub = j';
            hub' = k3;
            hub_in = (omega arith, omega (arith, less));
            hub'_in = (omega arith, omega arith);
            meet = at;
          })
          (disjoint_from j l 0 k 0 (j - 1) 0 k3 f g f h
          (λ a b a_low a_high b_low b_high same. let b_in = f_at.0 in let e = P.once a b a_high (omega (arith, b_high, b_in)) same in omega (arith, e, a_low, b_high, less))
          (λ a b a_low a_high b_low b_high same. let e = h_f j' j'_in at a b a_high b_high same in omega (arith, e, a_low, less))
          (λ a b a_low a_high b_low b_high same. let b_in = f_at.0 in let e = g_f a b a_high (omega (arith, b_high, b_in)) same in omega (arith, e, b_high, less))
          (λ a b a_low a_high b_low b_high same. let e = g_h j' j'_in at a b a_high b_high same in omega (arith, e, less)))
          (or_left _ _ (on_piece j l f l (T 1) f_at.0 (omega arith) P.stops))
          (or_right (on_stretch j l f (T 2)) _ (on_piece 0 k g 0 (T 2) (omega arith) (omega arith) Q.starts))
          (or_left _ _ (on_piece 0 (j - 1) f 0 (T 0) (omega arith) (omega arith) P.starts))
          (or_right (on_stretch 0 (j - 1) f (T 3)) _ (on_piece 0 k3 h 0 (T 3) (omega arith) (omega arith) Z.starts))
          (f j) (f (j - 1))
          (or_left _ _ (on_from j l f j (omega arith) f_at.0))
          (or_left _ _ (on_from 0 (j - 1) f (j - 1) (omega arith) (omega arith)))
          (back_step ends class i (T 0) (T 1) l f P (j - 1) j (omega (arith, less)) f_at.0)

      -- farther
      farther : j < j' → Three
      farther less =
          split_has web ends_in class is i (five_other i 0) (five_other i 2) (five_other i 1) (five_other i 3) i_in (other_in 0 (num 0 4 refl)) (other_in 2 (num 2 4 refl))
          (other_in 1 (num 1 4 refl)) (other_in 3 (num 3 4 refl))
          (other_not 0, other_not 2, other_not 1, other_not 3) (apart_of 0 2 1 3 (differ 0 2 refl) (differ 0 1 refl) (differ 0 3 refl) (differ 2 1 refl) (differ 2 3 refl) (differ 1 3 refl))
          0 j 0 k f g (record {
            first = stretch_of ends class i (T 0) (T 1) l f P 0 j f_at.0;
            second = stretch_of ends class i (T 2) (T 0) l2 g Q 0 k g_low;
            hub = j;
            hub' = k;
            hub_in = (omega arith, omega arith);
            hub'_in = (omega arith, omega arith);
            meet = f_at.1;
          })
          (suc j) l 0 k3 f h (record {
            first = stretch_of ends class i (T 0) (T 1) l f P (suc j) l (omega arith);
            second = stretch_of ends class i (T 3) (T 0) l3 h Z 0 k3 met.2;
            hub = j';
            hub' = k3;
            hub_in = (omega (arith, less), j'_in);
            hub'_in = (omega arith, omega arith);
            meet = at;
          })
          (disjoint_from 0 j 0 k (suc j) l 0 k3 f g f h
          (λ a b a_low a_high b_low b_high same. let a_in = f_at.0 in let e = P.once a b (omega (arith, a_high, a_in)) b_high same in omega (arith, e, a_high, b_low))
          (λ a b a_low a_high b_low b_high same. let a_in = f_at.0 in let e = h_f j' j'_in at a b (omega (arith, a_high, a_in)) b_high same in omega (arith, e, a_high, less))
          (λ a b a_low a_high b_low b_high same. let e = g_f a b a_high b_high same in omega (arith, e, b_low))
          (λ a b a_low a_high b_low b_high same. let e = g_h j' j'_in at a b a_high b_high same in omega (arith, e, less)))
          (or_left _ _ (on_piece 0 j f 0 (T 0) (omega arith) (omega arith) P.starts))
          (or_right (on_stretch 0 j f (T 2)) _ (on_piece 0 k g 0 (T 2) (omega arith) (omega arith) Q.starts))
          (or_left _ _ (on_piece (suc j) l f l (T 1) (omega (arith, less, j'_in)) (omega arith) P.stops))
          (or_right (on_stretch (suc j) l f (T 3)) _ (on_piece 0 k3 h 0 (T 3) (omega arith) (omega arith) Z.starts))
          (f j) (f (suc j))
          (or_left _ _ (on_from 0 j f j (omega arith) (omega arith)))
          (or_left _ _ (on_from (suc j) l f (suc j) (omega arith) (omega (arith, less, j'_in))))
          (forth_step ends class i (T 0) (T 1) l f P j (suc j) refl (omega (arith, less, j'_in)))

    -- on the second path
    second : (m : ℕ) → m < k → g m ≡ h k3 → Three
    second m m_low at =
        split_has web ends_in class is i (five_other i 0) (five_other i 1) (five_other i 2) (five_other i 3) i_in (other_in 0 (num 0 4 refl)) (other_in 1 (num 1 4 refl))
        (other_in 2 (num 2 4 refl)) (other_in 3 (num 3 4 refl))
        (other_not 0, other_not 1, other_not 2, other_not 3) (apart_of 0 1 2 3 (differ 0 1 refl) (differ 0 2 refl) (differ 0 3 refl) (differ 1 2 refl) (differ 1 3 refl) (differ 2 3 refl))
        0 l 0 l f f (record {
          first = stretch_of ends class i (T 0) (T 1) l f P 0 l (omega arith);
          second = stretch_of ends class i (T 0) (T 1) l f P 0 l (omega arith);
          hub = 0;
          hub' = 0;
          hub_in = (omega arith, omega arith);
          hub'_in = (omega arith, omega arith);
          meet = refl;
        })
        0 (k - 1) 0 k3 g h (record {
          first = stretch_of ends class i (T 2) (T 0) l2 g Q 0 (k - 1) (let b = g_low in omega (arith, b));
          second = stretch_of ends class i (T 3) (T 0) l3 h Z 0 k3 met.2;
          hub = m;
          hub' = k3;
          hub_in = (omega arith, omega (arith, m_low));
          hub'_in = (omega arith, omega arith);
          meet = at;
        })
        (disjoint_from 0 l 0 l 0 (k - 1) 0 k3 f f g h
        (λ a b a_low a_high b_low b_high same. off b a (omega (arith, b_high, m_low)) a_high same)
        (λ a b a_low a_high b_low b_high same. not_h a b a_high b_high same)
        (λ a b a_low a_high b_low b_high same. off b a (omega (arith, b_high, m_low)) a_high same)
        (λ a b a_low a_high b_low b_high same. not_h a b a_high b_high same))
        (or_left _ _ (on_piece 0 l f 0 (T 0) (omega arith) (omega arith) P.starts))
        (or_left _ _ (on_piece 0 l f l (T 1) (omega arith) (omega arith) P.stops))
        (or_left _ _ (on_piece 0 (k - 1) g 0 (T 2) (omega arith) (omega arith) Q.starts))
        (or_right (on_stretch 0 (k - 1) g (T 3)) _ (on_piece 0 k3 h 0 (T 3) (omega arith) (omega arith) Z.starts))
        (f j) (g (k - 1))
        (or_left _ _ (on_from 0 l f j (omega arith) f_at.0))
        (or_left _ _ (on_from 0 (k - 1) g (k - 1) (omega arith) (omega arith)))
        (let A : ℕ → Type 0 = λ z. Adjacent ends z (g (k - 1)) in subst A (sym f_at.1) (back_step ends class i (T 2) (T 0) l2 g Q (k - 1) k (omega (arith, m_low)) g_low))
      where
        not_h : (a b : ℕ) → a ≤ l → b ≤ k3 → f a ≢ h b
        not_h a b a_in b_in same = elim (cases_eq b k3) [
          | inl last ↦ off m a m_low a_in (same ∙ ap h last ∙ sym at)
          | inr before ↦ off_h b a (omega (arith, b_in, before)) a_in same
        ]

    star_or_three : Three ⊎ Star
    star_or_three = elim (or_cases (on_f (h k3)) (on_g (h k3)) met.0) [
      | inl first ↦
          let found = some_below-to (suc l) (λ t. eqb (f t) (h k3)) first in
          let j' = found.0 in
          let j'_in : j' ≤ l = omega (arith, found.1) in
          let at : f j' ≡ h k3 = eqb-true _ _ found.2 in
          elim (cases_order j' j) [
            | inl same ↦ inr (cross (sym at ∙ ap f same))
            | inr (inl less) ↦ inl (nearer j' j'_in at less)
            | inr (inr more) ↦ inl (farther j' j'_in at more)
          ]
      | inr on_second ↦
          let found = some_below-to k (λ m. eqb (g m) (h k3)) on_second in
          inl (second found.0 found.1 (eqb-true _ _ found.2))
    ]

  class_decides : Three ⊎ Star
  class_decides =
      let lt : (s : ℕ) → ltb s 4 ≡ true → s < 4 = λ s h. ltb-true s 4 h in
      let joined : (s t : ℕ) → s < 4 → t < 4 → Joined (inside class i ends) (T s) (T t) = λ s t s_in t_in. is.joined i (T s) (T t) i_in (T_in s s_in) (T_in t t_in) in
      let P = class_path ends class i (T 0) (T 1) (joined 0 1 (lt 0 refl) (lt 1 refl)) (T_in 0 (lt 0 refl)) in
      let Q = class_path ends class i (T 2) (T 0) (joined 2 0 (lt 2 refl) (lt 0 refl)) (T_in 2 (lt 2 refl)) in
      let Z = class_path ends class i (T 3) (T 0) (joined 3 0 (lt 3 refl) (lt 0 refl)) (T_in 3 (lt 3 refl)) in
      star_or_three P.0 P.1 P.2 Q.0 Q.1 Q.2 Z.0 Z.1 Z.2

-- ---- all classes

-- one way for some number, or the other for all
either_all : (n : ℕ) (A : Type 0) (B : ℕ → Type 0) → ((i : ℕ) → i < n → A ⊎ B i) → A ⊎ ((i : ℕ) → i < n → B i)
either_all zero A B each = inr (λ i i_in. absurd (omega (arith, i_in)))
either_all (suc n) A B each = elim (either_all n A B (λ i i_in. each i (omega (arith, i_in)))) [
  | inl a ↦ inl a
  | inr all ↦ elim (each n (omega arith)) [
    | inl a ↦ inl a
    | inr last ↦ inr (λ i i_in. elim (cases_eq i n) [ inl same ↦ subst B (sym same) last | inr before ↦ all i (omega (arith, i_in, before)) ])
  ]
]

pub minors_give_evidence : MinorsGiveEvidence
minors_give_evidence web ends_in no_loop (inr three) = let e = three_evidence web ends_in three.0 three.1 in (e.0, e.1, inr e.2)
minors_give_evidence web ends_in no_loop (inl five) =
    let class = five.0 in
    let is = five.1 in
    elim (either_all 5 (Three web ends_in class is 0 (omega arith)) (λ i. (centre : ℕ) × (long stop : ℕ → ℕ) × (leg : ℕ → ℕ → ℕ) × IsStar web.ends class i 4 centre long stop leg
    × ((s : ℕ) → s < 4 → stop s ≡ gate web ends_in 5 five_pairs class is five_are_pairs.pairs_in five_are_pairs.pairs_once i (five_other i s))) (λ i i_in. class_decides web ends_in class is i i_in)) [
      | inl three ↦ let e = three_evidence web ends_in three.0 three.1 in (e.0, e.1, inr e.2)
      | inr stars ↦
          let found = stars_subdivide web ends_in 5 five_pairs class is five_are_pairs.pairs_in five_are_pairs.pairs_once 4 five_slot five_other five_are_pairs
          (omega arith) five_paired five_back stars in
          (found.0, found.1, inl (found.2, found.3))
    ]
