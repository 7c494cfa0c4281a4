-- Relations with as many classes as each other, and permutations with as many cycles.
use Rattle.std.proofs.Common.{◌≡◌, ℕ, zero, suc, ◌<◌, ◌≤◌, ◌↔◌, Bool, true, refl, ◌∙◌, ap, arith}
use Rattle.xn_model.specs.Permutation.{Permutes, Reaches, count_below, cycle_count, is_least, iterate}
use Rattle.xn_ring.proofs.Counting.{count_injects}
use Rattle.xn_ring.proofs.Orbits.{IsLeast-from_test, iterate_below, least_of, least_unique, reaches_back, reaches_below, reaches_trans, test-from_IsLeast}
use Rattle.xn_ring.specs.Transfers.{IsTransfer}

-- p picks one number below n of each class of R
pub record PicksOne (n : ℕ) (R : ℕ → ℕ → Type 0) (p : ℕ → Bool) : Type 1 where
  pub turned : (a b : ℕ) → a < n → b < n → R a b → R b a
  pub further : (a b c : ℕ) → R a b → R b c → R a c
  pub pick : (d : ℕ) → d < n → (m : ℕ) × (m < n) × (p m ≡ true) × R d m
  pub single : (a b : ℕ) → a < n → b < n → p a ≡ true → p b ≡ true → R a b → a ≡ b

-- as many cycles as numbers that are least
pub PicksOne-cycles : (n : ℕ) (f : ℕ → ℕ) → Permutes n f → PicksOne n (Reaches f) (is_least n f)
PicksOne-cycles n f permutes = record {
  turned = λ a b a_in b_in. reaches_back n f permutes a b a_in;
  further = reaches_trans f;
  pick = λ d d_in.
      let m = least_of n f permutes d d_in in
      (m.0, reaches_below n f permutes d m.0 d_in m.1, test-from_IsLeast n f permutes m.0 m.2, m.1);
  single = λ a b a_in b_in a_least b_least there.
      least_unique n f permutes a b a_in there (IsLeast-from_test n f permutes a a_in a_least) (IsLeast-from_test n f permutes b b_in b_least);
}

-- classes sent to different classes are no more
pub classes_inject : (n k : ℕ) (R S : ℕ → ℕ → Type 0) (p q : ℕ → Bool) (g : ℕ → ℕ) → PicksOne n R p → PicksOne k S q
    → ((d : ℕ) → d < n → g d < k) → ((a b : ℕ) → a < n → b < n → S (g a) (g b) → R a b) → count_below n p ≤ count_below k q
classes_inject n k R S p q g one two g_in apart =
    count_injects n k p q (λ d t. (d < n) × (t < k) × (p d ≡ true) × S (g d) t)
    (λ d d_in passes. let m = two.pick (g d) (g_in d d_in) in (m.0, m.1, m.2, (d_in, m.1, passes, m.3)))
    (λ d e t d_in e_in x y. one.single d e d_in e_in x.2 y.2 (apart d e d_in e_in (two.further (g d) t (g e) x.3 (two.turned (g e) t (g_in e e_in) x.1 y.3))))

-- relations that go to and fro have as many classes as each other
pub classes_transfer : (n k : ℕ) (R S : ℕ → ℕ → Type 0) (p q : ℕ → Bool) (g h : ℕ → ℕ) → PicksOne n R p → PicksOne k S q
    → ((d : ℕ) → d < n → g d < k) → ((d : ℕ) → d < k → h d < n)
    → ((a b : ℕ) → a < n → b < n → R a b → S (g a) (g b)) → ((a b : ℕ) → a < k → b < k → S a b → R (h a) (h b))
    → ((a : ℕ) → a < n → R a (h (g a))) → ((b : ℕ) → b < k → S b (g (h b)))
    → count_below n p ≡ count_below k q
classes_transfer n k R S p q g h one two g_in h_in there back round_one round_two =
    let low = classes_inject n k R S p q g one two g_in (λ a b a_in b_in s.
    let to = one.further a (h (g a)) (h (g b)) (round_one a a_in) (back (g a) (g b) (g_in a a_in) (g_in b b_in) s) in
    one.further a (h (g b)) b to (one.turned b (h (g b)) b_in (h_in (g b) (g_in b b_in)) (round_one b b_in))) in
    let high = classes_inject k n S R q p h two one h_in (λ a b a_in b_in s.
    let to = two.further a (g (h a)) (g (h b)) (round_two a a_in) (there (h a) (h b) (h_in a a_in) (h_in b b_in) s) in
    two.further a (g (h b)) b to (two.turned b (g (h b)) b_in (g_in (h b) (h_in b b_in)) (round_two b b_in))) in
    omega (arith, low, high)

-- steps that become walks make walks walks
pub reaches_sent : (n : ℕ) (f f' g : ℕ → ℕ) → Permutes n f → ((d : ℕ) → d < n → Reaches f' (g d) (g (f d))) → (a : ℕ) → a < n → (k : ℕ) → Reaches f' (g a) (g (iterate f k a))
reaches_sent n f f' g permutes step a a_in zero = (0, refl)
reaches_sent n f f' g permutes step a a_in (suc k) =
    reaches_trans f' (g a) (g (iterate f k a)) (g (iterate f (suc k) a)) (reaches_sent n f f' g permutes step a a_in k) (step (iterate f k a) (iterate_below n f permutes k a a_in))

-- permutations whose steps become walks of each other have as many cycles as each other
pub cycle_count-transfer : (n k : ℕ) (f f' g h : ℕ → ℕ) → Permutes n f → Permutes k f'
    → ((d : ℕ) → d < n → g d < k) → ((d : ℕ) → d < k → h d < n)
    → ((d : ℕ) → d < n → Reaches f' (g d) (g (f d))) → ((d : ℕ) → d < k → Reaches f (h d) (h (f' d)))
    → ((a : ℕ) → a < n → Reaches f a (h (g a))) → ((b : ℕ) → b < k → Reaches f' b (g (h b)))
    → cycle_count n f ≡ cycle_count k f'
cycle_count-transfer n k f f' g h one two g_in h_in there back round_one round_two =
    classes_transfer n k (Reaches f) (Reaches f') (is_least n f) (is_least k f') g h (PicksOne-cycles n f one) (PicksOne-cycles k f' two) g_in h_in
    (λ a b a_in b_in r. let w = reaches_sent n f f' g one there a a_in r.0 in (w.0, w.1 ∙ ap g r.1))
    (λ a b a_in b_in r. let w = reaches_sent k f' f h two back a a_in r.0 in (w.0, w.1 ∙ ap h r.1))
    round_one round_two

-- with who reaches whom
pub transfers : (n k : ℕ) (f g there back : ℕ → ℕ) → Permutes n f → Permutes k g → IsTransfer n k f g there back
    → (cycle_count n f ≡ cycle_count k g) × ((d e : ℕ) → d < n → e < n → Reaches f d e ↔ Reaches g (there d) (there e))
transfers n k f g there back one two t = (
  cycle_count-transfer n k f g there back one two t.there_in t.back_in t.there_walks t.back_walks t.round_there t.round_back,
  λ d e d_in e_in. (sent d e d_in, sent_back d e d_in e_in),
)
  where
    sent : (d e : ℕ) → d < n → Reaches f d e → Reaches g (there d) (there e)
    sent d e d_in r = let w = reaches_sent n f g there one t.there_walks d d_in r.0 in (w.0, w.1 ∙ ap there r.1)

    sent_back : (d e : ℕ) → d < n → e < n → Reaches g (there d) (there e) → Reaches f d e
    sent_back d e d_in e_in r =
        let w = reaches_sent k g f back two t.back_walks (there d) (t.there_in d d_in) r.0 in
        let on : Reaches f (back (there d)) (back (there e)) = (w.0, w.1 ∙ ap back r.1) in
        let home = reaches_back n f one e (back (there e)) e_in (t.round_there e e_in) in
        reaches_trans f d (back (there d)) e (t.round_there d d_in) (reaches_trans f (back (there d)) (back (there e)) e on home)
