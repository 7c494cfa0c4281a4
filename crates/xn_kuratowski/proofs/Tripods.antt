-- Paths within a class: three nodes are joined by legs from one centre, four too, or two of them to the other two by a bridge.
use Rattle.std.proofs.Common.{◌≡◌, ◌≢◌, ℕ, zero, suc, ◌+◌, ◌-◌, ◌<◌, ◌≤◌, ◌⊎◌, inl, inr, Bool, true, false, eqb, List, [], ◌∷◌, length, refl, sym, ◌∙◌, ap, ap₂, subst, arith}
use Rattle.std.proofs.lemmas.Bool.{both_ways, cases_Bool, cases_eq, eq-eqb, eqb-true}
use Rattle.xn_model.specs.Map.{Joined, WalksTo, reverse_of, tail_of}
use Rattle.xn_model.proofs.Darts.{cases_dart, reverse-even, reverse-odd, tail-even, tail-odd}
use Rattle.xn_genus.proofs.Tests.{some_below, some_below-from, some_below-to}
use Rattle.xn_fewer.proofs.Walks.{filter_to}
use Rattle.xn_kuratowski.specs.Minor.{inside, is_inside}
use Rattle.xn_kuratowski.proofs.Legs.{IsStar}
use Rattle.xn_kuratowski.proofs.Minors.{is_within}
use Rattle.xn_kuratowski.proofs.Rim.{Adjacent}
use Rattle.xn_kuratowski.proofs.Smallest.{smallest, smallest_is}

-- a path of l segments, which meets no node twice
pub record IsPath (ends : List (ℕ × ℕ)) (u v l : ℕ) (f : ℕ → ℕ) : Type 0 where
  pub starts : f 0 ≡ u
  pub stops : f l ≡ v
  pub steps : (k : ℕ) → k < l → Adjacent ends (f k) (f (suc k))
  pub once : (i j : ℕ) → i ≤ l → j ≤ l → f i ≡ f j → i ≡ j

-- one node before
abbrev before : ℕ → (ℕ → ℕ) → ℕ → ℕ
before u f zero = u
before u f (suc k) = f k

path_of : (ends : List (ℕ × ℕ)) (u v : ℕ) (darts : List ℕ) → WalksTo ends u darts v → (l : ℕ) × (f : ℕ → ℕ) × IsPath ends u v l f
path_of ends u v [] walk = (0, (λ k. u), record { starts = refl; stops = walk; steps = λ k k_in. absurd (omega (arith, k_in)); once = λ i j i_in j_in same. omega (arith, i_in, j_in) })
path_of ends u v (d ∷ darts) walk =
    let h = tail_of ends (reverse_of d) in
    let rest = path_of ends h v darts walk.2 in
    let l = rest.0 in
    let f = rest.1 in
    let is = rest.2 in
    let c = cases_dart d in
    let s_in : c.0 < length ends = omega (arith, c.1, walk.0) in
    let first : Adjacent ends u h = (
      c.0,
      s_in,
      elim c.1 [
        | inl even ↦ inl (ap₂ (λ a b. (a, b)) (sym (tail-even ends c.0) ∙ ap (tail_of ends) (sym even) ∙ walk.1)
            (sym (tail-odd ends c.0) ∙ ap (tail_of ends) (sym (ap reverse_of even ∙ reverse-even c.0))))
        | inr odd ↦ inr (ap₂ (λ a b. (a, b)) (sym (tail-even ends c.0) ∙ ap (tail_of ends) (sym (ap reverse_of odd ∙ reverse-odd c.0)))
            (sym (tail-odd ends c.0) ∙ ap (tail_of ends) (sym odd) ∙ walk.1))
      ],
    ) in
    elim (cases_Bool (some_below (suc l) (λ k. eqb (f k) u))) [
      | inl meets ↦
          let j = some_below-to (suc l) (λ k. eqb (f k) u) meets in
          let m = l - j.0 in
          let sum : j.0 + m ≡ l = omega (arith, j.1) in
          let z : j.0 + 0 ≡ j.0 = omega arith in (
            m,
            (λ k. f (j.0 + k)),
            record {
              starts = ap f z ∙ eqb-true _ _ j.2;
              stops = ap f sum ∙ is.stops;
              steps = λ k k_in.
                  let on : suc (j.0 + k) ≡ j.0 + suc k = omega arith in
                  let P : ℕ → Type 0 = λ t. Adjacent ends (f (j.0 + k)) (f t) in
                  subst P on (is.steps (j.0 + k) (omega (arith, k_in, sum)));
              once = λ a b a_in b_in same. let e = is.once (j.0 + a) (j.0 + b) (omega (arith, a_in, sum)) (omega (arith, b_in, sum)) same in omega (arith, e);
            },
          )
      | inr none ↦
          let never : (k : ℕ) → k ≤ l → f k ≢ u = λ k k_in same. both_ways _ none (some_below-from (suc l) (λ t. eqb (f t) u) k (omega (arith, k_in)) (eq-eqb _ _ same)) in (
            suc l,
            before u f,
            record { starts = refl; stops = is.stops; steps = steps f l first is.starts is.steps; once = once f l never is.once },
          )
    ]
  where
    steps : (f : ℕ → ℕ) (l : ℕ) → Adjacent ends u (tail_of ends (reverse_of d)) → f 0 ≡ tail_of ends (reverse_of d) → ((k : ℕ) → k < l → Adjacent ends (f k) (f (suc k))) →
        (k : ℕ) → k < suc l → Adjacent ends (before u f k) (before u f (suc k))
    steps f l first starts rest zero k_in = let P : ℕ → Type 0 = λ t. Adjacent ends u t in subst P (sym starts) first
    steps f l first starts rest (suc k) k_in = rest k (omega (arith, k_in))

    once : (f : ℕ → ℕ) (l : ℕ) → ((k : ℕ) → k ≤ l → f k ≢ u) → ((i j : ℕ) → i ≤ l → j ≤ l → f i ≡ f j → i ≡ j) → (i j : ℕ) → i ≤ suc l → j ≤ suc l → before u f i ≡ before u f j → i ≡ j
    once f l never rest zero zero i_in j_in same = refl
    once f l never rest zero (suc j) i_in j_in same = absurd (never j (omega (arith, j_in)) (sym same))
    once f l never rest (suc i) zero i_in j_in same = absurd (never i (omega (arith, i_in)) same)
    once f l never rest (suc i) (suc j) i_in j_in same = ap suc (rest i j (omega (arith, i_in)) (omega (arith, j_in)) same)

-- ---- within a class

module _ (ends : List (ℕ × ℕ)) (class : ℕ → ℕ) (i : ℕ) where
  abbrev web : List (ℕ × ℕ)
  web = inside class i ends

  -- a step within the class
  step_in : (u v : ℕ) → Adjacent web u v → Adjacent ends u v × (class u ≡ i) × (class v ≡ i)
  step_in u v a =
      let found = filter_to (is_inside class i) ends a.0 a.1 in
      let at = is_within class i _ found.3 in
      elim a.2 [
        | inl e ↦ ((found.0, found.1, inl (sym found.2 ∙ e)), ap (λ p. class p.0) (sym (sym found.2 ∙ e)) ∙ at.0, ap (λ p. class p.1) (sym (sym found.2 ∙ e)) ∙ at.1)
        | inr e ↦ ((found.0, found.1, inr (sym found.2 ∙ e)), ap (λ p. class p.1) (sym (sym found.2 ∙ e)) ∙ at.1, ap (λ p. class p.0) (sym (sym found.2 ∙ e)) ∙ at.0)
      ]

  pub adjacent_turned : (u v : ℕ) → Adjacent ends u v → Adjacent ends v u
  adjacent_turned u v a = (a.0, a.1, elim a.2 [ inl e ↦ inr e | inr e ↦ inl e ])

  -- the nodes of a path are of the class
  path_in : (u v l : ℕ) (f : ℕ → ℕ) → IsPath web u v l f → class u ≡ i → (k : ℕ) → k ≤ l → class (f k) ≡ i
  path_in u v l f is at_u zero low = ap class is.starts ∙ at_u
  path_in u v l f is at_u (suc k) low = (step_in (f k) (f (suc k)) (is.steps k (omega (arith, low)))).2

  -- a path of the class
  pub record InClass (u v l : ℕ) (f : ℕ → ℕ) : Type 0 where
    pub starts : f 0 ≡ u
    pub stops : f l ≡ v
    pub steps : (k : ℕ) → k < l → Adjacent ends (f k) (f (suc k))
    pub once : (a b : ℕ) → a ≤ l → b ≤ l → f a ≡ f b → a ≡ b
    pub within : (k : ℕ) → k ≤ l → class (f k) ≡ i

  pub class_path : (u v : ℕ) → Joined web u v → class u ≡ i → (l : ℕ) × (f : ℕ → ℕ) × InClass u v l f
  class_path u v there at_u =
      let found = path_of web u v there.0 there.1 in
      let is = found.2 in (
        found.0,
        found.1,
        record {
          starts = is.starts;
          stops = is.stops;
          steps = λ k k_in. (step_in _ _ (is.steps k k_in)).0;
          once = is.once;
          within = path_in u v found.0 found.1 is at_u;
        },
      )

  -- a step between two nodes that stand beside each other on a path
  pub back_step : (u v l : ℕ) (f : ℕ → ℕ) → InClass u v l f → (k j : ℕ) → suc k ≡ j → j ≤ l → Adjacent ends (f j) (f k)
  back_step u v l f is k j on low =
      let P : ℕ → Type 0 = λ t. Adjacent ends (f k) (f t) in
      adjacent_turned (f k) (f j) (subst P on (is.steps k (omega (arith, on, low))))

  pub forth_step : (u v l : ℕ) (f : ℕ → ℕ) → InClass u v l f → (k j : ℕ) → suc k ≡ j → j ≤ l → Adjacent ends (f k) (f j)
  forth_step u v l f is k j on low = let P : ℕ → Type 0 = λ t. Adjacent ends (f k) (f t) in subst P on (is.steps k (omega (arith, on, low)))

  -- ---- a path and one more that first meets it at its place k, there f j

  module _ (a b c : ℕ) (l : ℕ) (f : ℕ → ℕ) (P : InClass a b l f) (l2 : ℕ) (g : ℕ → ℕ) (Q : InClass c a l2 g) where
    abbrev on_f : ℕ → Bool
    on_f v = some_below (suc l) (λ j. eqb (f j) v)

    abbrev pub k : ℕ
    k = smallest (suc l2) (λ m. on_f (g m))

    met : (on_f (g k) ≡ true) × ((m : ℕ) → m < k → on_f (g m) ≡ false) × (k ≤ l2)
    met = smallest_is (suc l2) (λ m. on_f (g m)) l2 (omega arith) (some_below-from (suc l) (λ j. eqb (f j) (g l2)) 0 (omega arith) (eq-eqb _ _ (P.starts ∙ sym Q.stops)))

    pub k_low : k ≤ l2
    k_low = met.2

    pub at_f : (j : ℕ) × (j ≤ l) × (f j ≡ g k)
    at_f = let found = some_below-to (suc l) (λ j. eqb (f j) (g k)) met.0 in (found.0, omega (arith, found.1), eqb-true _ _ found.2)

    abbrev pub j : ℕ
    j = at_f.0

    pub off_f : (m t : ℕ) → m < k → t ≤ l → f t ≢ g m
    off_f m t low t_low same = both_ways _ (met.1 m low) (some_below-from (suc l) (λ z. eqb (f z) (g m)) t (omega (arith, t_low)) (eq-eqb _ _ same))

    -- three legs from f j
    abbrev pub three_leg : ℕ → ℕ → ℕ
    three_leg zero m = f (j - m)
    three_leg (suc zero) m = f (j + m)
    three_leg (suc (suc s)) m = g (k - m)

    abbrev pub three_long : ℕ → ℕ
    three_long zero = j
    three_long (suc zero) = l - j
    three_long (suc (suc s)) = k

    abbrev pub three_stop : ℕ → ℕ
    three_stop zero = a
    three_stop (suc zero) = b
    three_stop (suc (suc s)) = c

    pub tripod : IsStar ends class i 3 (f j) three_long three_stop three_leg
    tripod = record {
      within = within;
      starts = starts;
      stops = stops;
      steps = steps;
      once = once;
      inside = P.within j at_f.1;
    }
      where
        within : (s m : ℕ) → s < 3 → m ≤ three_long s → class (three_leg s m) ≡ i
        within zero m s_in low = P.within (j - m) (omega (arith, at_f.1))
        within (suc zero) m s_in low = P.within (j + m) (omega (arith, at_f.1, low))
        within (suc (suc s)) m s_in low = Q.within (k - m) (omega (arith, k_low))

        starts : (s : ℕ) → s < 3 → three_leg s 0 ≡ f j
        starts zero s_in = ap f (let z : j - 0 ≡ j = omega arith in z)
        starts (suc zero) s_in = ap f (let z : j + 0 ≡ j = omega arith in z)
        starts (suc (suc s)) s_in = ap g (let z : k - 0 ≡ k = omega arith in z) ∙ sym at_f.2

        stops : (s : ℕ) → s < 3 → three_leg s (three_long s) ≡ three_stop s
        stops zero s_in = ap f (let z : j - j ≡ 0 = omega arith in z) ∙ P.starts
        stops (suc zero) s_in = ap f (let z : j + (l - j) ≡ l = omega (arith, at_f.1) in z) ∙ P.stops
        stops (suc (suc s)) s_in = ap g (let z : k - k ≡ 0 = omega arith in z) ∙ Q.starts

        steps : (s m : ℕ) → s < 3 → m < three_long s → Adjacent ends (three_leg s m) (three_leg s (suc m))
        steps zero m s_in low = back_step a b l f P (j - suc m) (j - m) (omega (arith, low)) (omega (arith, at_f.1))
        steps (suc zero) m s_in low = forth_step a b l f P (j + m) (j + suc m) (omega arith) (omega (arith, low))
        steps (suc (suc s)) m s_in low = back_step c a l2 g Q (k - suc m) (k - m) (omega (arith, low)) (omega (arith, k_low))

        -- the third leg meets the others at the centre
        third : (m t : ℕ) → m ≤ k → t ≤ l → g (k - m) ≡ f t → (m ≡ 0) × (t ≡ j)
        third m t low t_low same = elim (cases_eq m 0) [
          | inl none ↦ (none, P.once t j t_low at_f.1 (sym same ∙ ap g (let z : k - m ≡ k = omega (arith, none) in z) ∙ sym at_f.2))
          | inr some ↦ absurd (off_f (k - m) t (omega (arith, some, low)) t_low (sym same))
        ]

        once : (s t m n : ℕ) → s < 3 → t < 3 → m ≤ three_long s → n ≤ three_long t → three_leg s m ≡ three_leg t n → ((m ≡ 0) × (n ≡ 0)) ⊎ ((s ≡ t) × (m ≡ n))
        once zero zero m n s_in t_in m_low n_low same = let e = P.once (j - m) (j - n) (omega (arith, at_f.1)) (omega (arith, at_f.1)) same in inr (refl, omega (arith, e, m_low, n_low))
        once zero (suc zero) m n s_in t_in m_low n_low same = let e = P.once (j - m) (j + n) (omega (arith, at_f.1)) (omega (arith, at_f.1, n_low)) same in inl
            (omega (arith, e, m_low), omega (arith, e, m_low))
        once zero (suc (suc t)) m n s_in t_in m_low n_low same = let e = third n (j - m) n_low (omega (arith, at_f.1)) (sym same) in inl (omega (arith, e.1, m_low), e.0)
        once (suc zero) zero m n s_in t_in m_low n_low same = let e = P.once (j + m) (j - n) (omega (arith, at_f.1, m_low)) (omega (arith, at_f.1)) same in inl
            (omega (arith, e, n_low), omega (arith, e, n_low))
        once (suc zero) (suc zero) m n s_in t_in m_low n_low same = let e = P.once (j + m) (j + n) (omega (arith, at_f.1, m_low)) (omega (arith, at_f.1, n_low)) same in inr (refl, omega (arith, e))
        once (suc zero) (suc (suc t)) m n s_in t_in m_low n_low same = let e = third n (j + m) n_low (omega (arith, at_f.1, m_low)) (sym same) in inl (omega (arith, e.1), e.0)
        once (suc (suc s)) zero m n s_in t_in m_low n_low same = let e = third m (j - n) m_low (omega (arith, at_f.1)) same in inl (e.0, omega (arith, e.1, n_low))
        once (suc (suc s)) (suc zero) m n s_in t_in m_low n_low same = let e = third m (j + n) m_low (omega (arith, at_f.1, n_low)) same in inl (e.0, omega (arith, e.1))
        once (suc (suc s)) (suc (suc t)) m n s_in t_in m_low n_low same =
            let e = Q.once (k - m) (k - n) (omega (arith, k_low)) (omega (arith, k_low)) same in inr (omega (arith, s_in, t_in), omega (arith, e, m_low, n_low))

  -- three nodes of the class have a star
  pub three_star : (a b c : ℕ) → class a ≡ i → class c ≡ i → Joined web a b → Joined web c a →
      (centre : ℕ) × (long stop : ℕ → ℕ) × (leg : ℕ → ℕ → ℕ) × IsStar ends class i 3 centre long stop leg × (stop 0 ≡ a) × (stop 1 ≡ b) × (stop 2 ≡ c)
  three_star a b c at_a at_c to_b to_a =
      let P = class_path a b to_b at_a in
      let Q = class_path c a to_a at_c in (
        P.1 (j a b c P.0 P.1 P.2 Q.0 Q.1 Q.2),
        three_long a b c P.0 P.1 P.2 Q.0 Q.1 Q.2,
        three_stop a b c P.0 P.1 P.2 Q.0 Q.1 Q.2,
        three_leg a b c P.0 P.1 P.2 Q.0 Q.1 Q.2,
        tripod a b c P.0 P.1 P.2 Q.0 Q.1 Q.2,
        refl,
        refl,
        refl,
      )
