-- Sums of whole numbers.
use Rattle.std.proofs.Common.{◌≡◌, ◌≢◌, ℕ, zero, suc, ◌+◌, ◌<◌, List, length, arith, ap, sym, refl, ◌∙◌, inl, inr, add-one, set, get_or-set_other, get_or-set_same}
use Rattle.std.specs.Prelude.{ℤ, pos, ◌+ℤ◌, ◌-ℤ◌, ◌*ℤ◌, neg_ℤ, ◌≤ℤ◌}
use Rattle.std.proofs.Math.IntN.{zero-*ℤ, *ℤ-zero}
use Rattle.std.proofs.lemmas.Int.{ints}
use Rattle.std.proofs.lemmas.Bool.{cases_eq}
use Rattle.std.proofs.lemmas.List.{length-set}
use Rattle.xn_frac.proofs.Gaps.{gaps, gap-same, by_gap3, by_gap2}
use Rattle.xn_lp.specs.Program.{term_at}
use Rattle.xn_lp.specs.Whole.{total_to, number_at, weighted_total, terms_total}

-- ---- the ring of whole numbers
pub mul-add : (a b c : ℤ) → a *ℤ (b +ℤ c) ≡ a *ℤ b +ℤ a *ℤ c
mul-add a b c = by_gap3 (λ a b c. a *ℤ (b +ℤ c) ≡ a *ℤ b +ℤ a *ℤ c) (λ s t u v w x. simp gaps (gap-same _ _ _ _ (omega arith))) a b c

pub add-mul : (a b c : ℤ) → (a +ℤ b) *ℤ c ≡ a *ℤ c +ℤ b *ℤ c
add-mul a b c = by_gap3 (λ a b c. (a +ℤ b) *ℤ c ≡ a *ℤ c +ℤ b *ℤ c) (λ s t u v w x. simp gaps (gap-same _ _ _ _ (omega arith))) a b c

pub mul_assoc : (a b c : ℤ) → (a *ℤ b) *ℤ c ≡ a *ℤ (b *ℤ c)
mul_assoc a b c = by_gap3 (λ a b c. (a *ℤ b) *ℤ c ≡ a *ℤ (b *ℤ c)) (λ s t u v w x. simp gaps (gap-same _ _ _ _ (omega arith))) a b c

-- ---- sums
pub total-more : (f : ℕ → ℤ) (i : ℕ) → total_to (i + 1) f ≡ total_to i f +ℤ f i
total-more f i = ap (λ n. total_to n f) (add-one i)

pub total-same : (n : ℕ) (f g : ℕ → ℤ) → ((j : ℕ) → j < n → f j ≡ g j) → total_to n f ≡ total_to n g
total-same zero f g h = refl
total-same (suc n) f g h =
    let front : total_to n f ≡ total_to n g = total-same n f g (λ j l. h j (omega arith)) in
    let last : f n ≡ g n = h n (omega arith) in
    omega (arith, ints)

pub total-le : (n : ℕ) (f g : ℕ → ℤ) → ((j : ℕ) → j < n → f j ≤ℤ g j) → total_to n f ≤ℤ total_to n g
total-le zero f g h = omega (arith, ints)
total-le (suc n) f g h =
    let front : total_to n f ≤ℤ total_to n g = total-le n f g (λ j l. h j (omega arith)) in
    let last : f n ≤ℤ g n = h n (omega arith) in
    omega (arith, ints)

pub total-add : (n : ℕ) (f g : ℕ → ℤ) → total_to n (λ j. f j +ℤ g j) ≡ total_to n f +ℤ total_to n g
total-add zero f g = refl
total-add (suc n) f g =
    let front : total_to n (λ j. f j +ℤ g j) ≡ total_to n f +ℤ total_to n g = total-add n f g in
    omega (arith, ints)

pub neg-times : (a b : ℤ) → neg_ℤ a *ℤ b ≡ neg_ℤ (a *ℤ b)
neg-times a b = by_gap2 (λ a b. neg_ℤ a *ℤ b ≡ neg_ℤ (a *ℤ b)) (λ s t u v. simp gaps (gap-same _ _ _ _ (omega arith))) a b

pub total-neg : (n : ℕ) (f : ℕ → ℤ) → total_to n (λ j. neg_ℤ (f j)) ≡ neg_ℤ (total_to n f)
total-neg zero f = refl
total-neg (suc n) f = let front : total_to n (λ j. neg_ℤ (f j)) ≡ neg_ℤ (total_to n f) = total-neg n f in omega (arith, ints)

pub total-scale : (n : ℕ) (f : ℕ → ℤ) (d : ℤ) → total_to n (λ j. f j *ℤ d) ≡ total_to n f *ℤ d
total-scale zero f d = sym (zero-*ℤ d)
total-scale (suc n) f d = ap (λ t. t +ℤ f n *ℤ d) (total-scale n f d) ∙ sym (add-mul (total_to n f) (f n) d)

pub total-scale_left : (n : ℕ) (f : ℕ → ℤ) (d : ℤ) → total_to n (λ j. d *ℤ f j) ≡ d *ℤ total_to n f
total-scale_left zero f d = sym (*ℤ-zero d)
total-scale_left (suc n) f d = ap (λ t. t +ℤ d *ℤ f n) (total-scale_left n f d) ∙ sym (mul-add d (total_to n f) (f n))

-- a change of one term changes the sum by as much
pub total-change : (n i : ℕ) (f g : ℕ → ℤ) → i < n → ((j : ℕ) → j < n → j ≢ i → g j ≡ f j) → total_to n g ≡ total_to n f +ℤ (g i -ℤ f i)
total-change zero i f g l h = absurd (omega arith)
total-change (suc n) i f g l h = elim (cases_eq i n) [
  | inl here ↦
      let front : total_to n g ≡ total_to n f = total-same n g f (λ j m. h j (omega arith) (λ e. omega arith)) in
      let new : g n ≡ g i = ap g (sym here) in
      let old : f n ≡ f i = ap f (sym here) in
      omega (arith, ints)
  | inr before ↦
      let front : total_to n g ≡ total_to n f +ℤ (g i -ℤ f i) = total-change n i f g (omega arith) (λ j m. h j (omega arith)) in
      let last : g n ≡ f n = h n (omega arith) (λ e. before (sym e)) in
      omega (arith, ints)
]

write_step : (v p x : ℤ) → (v +ℤ neg_ℤ p -ℤ v) *ℤ x ≡ neg_ℤ (p *ℤ x)
write_step v p x = by_gap3 (λ v p x. (v +ℤ neg_ℤ p -ℤ v) *ℤ x ≡ neg_ℤ (p *ℤ x)) (λ s t u v w x. simp gaps (gap-same _ _ _ _ (omega arith))) v p x

diff_step : (a b x : ℤ) → a *ℤ x -ℤ b *ℤ x ≡ (a -ℤ b) *ℤ x
diff_step a b x = by_gap3 (λ a b x. a *ℤ x -ℤ b *ℤ x ≡ (a -ℤ b) *ℤ x) (λ s t u v w x. simp gaps (gap-same _ _ _ _ (omega arith))) a b x

-- a write of v - p for v takes p times its number
pub weighted-write : (xs : List ℤ) (i : ℕ) (p : ℤ) (u : ℕ → ℤ) → i < length xs →
    weighted_total (set xs i (number_at xs i +ℤ neg_ℤ p)) u ≡ weighted_total xs u -ℤ p *ℤ u i
weighted-write xs i p u l =
    let ys : List ℤ = set xs i (number_at xs i +ℤ neg_ℤ p) in
    let same_len : length ys ≡ length xs = length-set xs i (number_at xs i +ℤ neg_ℤ p) in
    let here : number_at ys i ≡ number_at xs i +ℤ neg_ℤ p = get_or-set_same xs i (number_at xs i +ℤ neg_ℤ p) (pos 0) l in
    let change : total_to (length xs) (λ j. number_at ys j *ℤ u j) ≡ weighted_total xs u +ℤ (number_at ys i *ℤ u i -ℤ number_at xs i *ℤ u i)
    = total-change (length xs) i (λ j. number_at xs j *ℤ u j) (λ j. number_at ys j *ℤ u j) l
    (λ j m ne. ap (λ t. t *ℤ u j) (get_or-set_other xs i j (number_at xs i +ℤ neg_ℤ p) (pos 0) ne)) in
    ap (λ n. total_to n (λ j. number_at ys j *ℤ u j)) same_len ∙ change
    ∙ ap (λ t. weighted_total xs u +ℤ t) (diff_step (number_at ys i) (number_at xs i) (u i) ∙ ap (λ t. (t -ℤ number_at xs i) *ℤ u i) here ∙ write_step (number_at xs i) p (u i))

-- a term's step: its column's number falls by m times the coefficient
pub take_step : (prices before : List ℤ) (terms : List (ℕ × ℤ)) (m : ℤ) (i : ℕ) (v : ℤ) → (term_at terms i).0 < length prices →
    v ≡ number_at prices (term_at terms i).0 +ℤ neg_ℤ (m *ℤ (term_at terms i).1) →
    ((u : ℕ → ℤ) → weighted_total prices u ≡ weighted_total before u -ℤ m *ℤ total_to i (λ k. (term_at terms k).1 *ℤ u (term_at terms k).0)) →
    (u : ℕ → ℤ) → weighted_total (set prices (term_at terms i).0 v) u ≡ weighted_total before u -ℤ m *ℤ total_to (i + 1) (λ k. (term_at terms k).1 *ℤ u (term_at terms k).0)
take_step prices before terms m i v l e kept u =
    let f : ℕ → ℤ = λ k. (term_at terms k).1 *ℤ u (term_at terms k).0 in
    let written : weighted_total (set prices (term_at terms i).0 v) u ≡ weighted_total prices u -ℤ (m *ℤ (term_at terms i).1) *ℤ u (term_at terms i).0
    = rw e (weighted-write prices (term_at terms i).0 (m *ℤ (term_at terms i).1) u l) in
    let here : weighted_total prices u ≡ weighted_total before u -ℤ m *ℤ total_to i f = kept u in
    let one : (m *ℤ (term_at terms i).1) *ℤ u (term_at terms i).0 ≡ m *ℤ f i = mul_assoc m (term_at terms i).1 (u (term_at terms i).0) in
    let more : m *ℤ total_to (i + 1) f ≡ m *ℤ total_to i f +ℤ m *ℤ f i = ap (λ t. m *ℤ t) (total-more f i) ∙ mul-add m (total_to i f) (f i) in
    joined _ _ _ _ _ _ _ written here one more
  where
    joined : (a b c p p' q q' : ℤ) → a ≡ b -ℤ p → b ≡ c -ℤ q → p ≡ p' → q' ≡ q +ℤ p' → a ≡ c -ℤ q'
    joined a b c p p' q q' e f g h = omega (arith, ints)

-- the first prices: w times each cost
pub first_prices : (prices cost : List ℤ) (w : ℤ) → length prices ≡ length cost → ((j : ℕ) → j < length cost → number_at prices j ≡ w *ℤ number_at cost j) →
    (u : ℕ → ℤ) → weighted_total prices u ≡ w *ℤ weighted_total cost u
first_prices prices cost w same_len each u =
    ap (λ n. total_to n (λ j. number_at prices j *ℤ u j)) same_len
    ∙ total-same (length cost) (λ j. number_at prices j *ℤ u j) (λ j. w *ℤ (number_at cost j *ℤ u j)) (λ j l. ap (λ t. t *ℤ u j) (each j l) ∙ mul_assoc w (number_at cost j) (u j))
    ∙ total-scale_left (length cost) (λ j. number_at cost j *ℤ u j) w

-- after the last term
pub last_weighted : (prices before : List ℤ) (terms : List (ℕ × ℤ)) (m : ℤ) (i : ℕ) → i ≡ length terms →
    ((u : ℕ → ℤ) → weighted_total prices u ≡ weighted_total before u -ℤ m *ℤ total_to i (λ k. (term_at terms k).1 *ℤ u (term_at terms k).0)) →
    (u : ℕ → ℤ) → weighted_total prices u ≡ weighted_total before u -ℤ m *ℤ terms_total terms u
last_weighted prices before terms m i e kept u = rw (← e) (kept u)

-- a row's step
pub row_step : (prices old before : ℤ) (f : ℕ → ℤ) (i : ℕ) → prices ≡ old -ℤ f i → old ≡ before -ℤ total_to i f → prices ≡ before -ℤ total_to (i + 1) f
row_step prices old before f i e h = let more : total_to (i + 1) f ≡ total_to i f +ℤ f i = total-more f i in omega (arith, ints)
