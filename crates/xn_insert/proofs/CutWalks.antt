-- Walks over segments that are divided one after the other.
use Rattle.std.proofs.Common.{◌≡◌, ◌≢◌, ℕ, suc, ◌+◌, ◌*◌, ◌/◌, ◌%◌, ◌<◌, ◌≤◌, ◌⊎◌, inl, inr, cond, eqb, List, [], ◌∷◌, ◌++◌, length, set, refl, sym, ◌∙◌, ap, ap₂, arith}
use Rattle.std.proofs.lemmas.Bool.{cases_eq, cond-false, cond-true, eq-eqb, ne_eqb}
use Rattle.std.proofs.lemmas.List.{append-nil, append_assoc, get_or-set_other, get_or-set_same}
use Rattle.xn_model.specs.Lists.{at}
use Rattle.xn_loose.proofs.Growing.{ex, ex_one}
use Rattle.xn_insert.specs.Cuts.{cut_darts, cut_one}
use Rattle.xn_insert.specs.ListedLoose.{has_dart}

-- all darts of a list are below m
abbrev pub AreBelow : ℕ → List ℕ → Type 0
AreBelow m [] = Unit {0}
AreBelow m (d ∷ ds) = (d < m) × AreBelow m ds

-- none is
abbrev pub AreBeyond : ℕ → List ℕ → Type 0
AreBeyond m [] = Unit {0}
AreBeyond m (d ∷ ds) = (m ≤ d) × AreBeyond m ds

pub beyond_more : (m d : ℕ) (ds : List ℕ) → AreBeyond m ds → m ≤ d → AreBeyond m (ds ++ d ∷ [])
beyond_more m d [] all low = (low, tt)
beyond_more m d (e ∷ ds) all low = (all.0, beyond_more m d ds all.1 low)

module _ (s last : ℕ) where
  ex-cons : (d : ℕ) (ds : List ℕ) → ex s last (d ∷ ds) ≡ ex_one s last d ++ ex s last ds
  ex-cons d [] = sym (append-nil (ex_one s last d))
  ex-cons d (e ∷ ds) = refl

  ex-append : (xs ys : List ℕ) → ex s last (xs ++ ys) ≡ ex s last xs ++ ex s last ys
  ex-append [] ys = refl
  ex-append (x ∷ xs) ys =
      ex-cons x (xs ++ ys) ∙ ap (λ l. ex_one s last x ++ l) (ex-append xs ys) ∙ sym (append_assoc (ex_one s last x) (ex s last xs) (ex s last ys))
      ∙ ap (λ l. l ++ ex s last ys) (sym (ex-cons x xs))

  ex_other : (d : ℕ) → d ≢ 2 * s → d ≢ 2 * s + 1 → ex_one s last d ≡ d ∷ []
  ex_other d not_first not_second = cond-false _ _ _ (ne_eqb d (2 * s) not_first) ∙ cond-false _ _ _ (ne_eqb d (2 * s + 1) not_second)

  ex_first : (d : ℕ) → d ≡ 2 * s → ex_one s last d ≡ 2 * s ∷ 2 * last ∷ []
  ex_first d is = cond-true _ _ _ (eq-eqb d (2 * s) is)

  ex_second : (d : ℕ) → d ≡ 2 * s + 1 → ex_one s last d ≡ (2 * last + 1) ∷ (2 * s + 1) ∷ []
  ex_second d is = cond-false _ _ _ (ne_eqb d (2 * s) (λ e. omega (arith, e, is))) ∙ cond-true _ _ _ (eq-eqb d (2 * s + 1) is)

  -- a walk over other segments stays
  pub ex_beyond : (ds : List ℕ) → AreBeyond (2 * suc s) ds → ex s last ds ≡ ds
  ex_beyond [] all = refl
  ex_beyond (d ∷ ds) all =
      let high = all.0 in
      ex-cons d ds ∙ ap₂ (λ x y. x ++ y) (ex_other d (λ e. omega (arith, e, high)) (λ e. omega (arith, e, high))) (ex_beyond ds all.1)

  module _ (m : ℕ) (cuts : List ℕ) (s_in : s < m) (size : length cuts ≡ m) (uncut : at cuts s ≡ 0) (high : (t : ℕ) → (at cuts t ≡ 0) ⊎ (m ≤ at cuts t)) (last_high : m ≤ last) where
    cut_free : (list : List ℕ) (d : ℕ) → at list (d / 2) ≡ 0 → cut_one list d ≡ d ∷ []
    cut_free list d none = cond-true _ _ _ (eq-eqb (at list (d / 2)) 0 none)

    cut_even : (list : List ℕ) (d k : ℕ) → at list (d / 2) ≡ k → k ≢ 0 → d % 2 ≡ 0 → cut_one list d ≡ d ∷ 2 * k ∷ []
    cut_even list d k is some even =
        cond-false _ _ _ (ne_eqb (at list (d / 2)) 0 (λ e. some (sym is ∙ e))) ∙ cond-true _ _ _ (eq-eqb (d % 2) 0 even) ∙ ap (λ j. d ∷ 2 * j ∷ []) is

    cut_odd : (list : List ℕ) (d k : ℕ) → at list (d / 2) ≡ k → k ≢ 0 → d % 2 ≢ 0 → cut_one list d ≡ (2 * k + 1) ∷ d ∷ []
    cut_odd list d k is some odd =
        cond-false _ _ _ (ne_eqb (at list (d / 2)) 0 (λ e. some (sym is ∙ e))) ∙ cond-false _ _ _ (ne_eqb (d % 2) 0 odd) ∙ ap (λ j. (2 * j + 1) ∷ d ∷ []) is

    some_last : last ≢ 0
    some_last e = omega (arith, e, last_high, s_in)

    one_more_cut : (d : ℕ) → cut_one (set cuts s last) d ≡ ex s last (cut_one cuts d)
    one_more_cut d = elim (cases_eq (d / 2) s) [
      | inl same ↦
          let now : at (set cuts s last) (d / 2) ≡ last = ap (at (set cuts s last)) same ∙ get_or-set_same cuts s last 0 (omega (arith, s_in, size)) in
          let was = cut_free cuts d (ap (at cuts) same ∙ uncut) in
          elim (cases_eq (d % 2) 0) [
            | inl even ↦
                let is : d ≡ 2 * s = omega (arith, same, even) in
                cut_even (set cuts s last) d last now some_last even ∙ ap (λ x. x ∷ 2 * last ∷ []) is ∙ sym (ap (ex s last) was ∙ ex_first d is)
            | inr odd ↦
                let is : d ≡ 2 * s + 1 = omega (arith, same, odd) in
                cut_odd (set cuts s last) d last now some_last odd ∙ ap (λ x. (2 * last + 1) ∷ x ∷ []) is ∙ sym (ap (ex s last) was ∙ ex_second d is)
          ]
      | inr other ↦
          let now : at (set cuts s last) (d / 2) ≡ at cuts (d / 2) = get_or-set_other cuts s (d / 2) last 0 other in
          let same_cut : cut_one (set cuts s last) d ≡ cut_one cuts d = ap (λ k. cut_by k d) now in
          let d_stays : ex_one s last d ≡ d ∷ [] = ex_other d (λ e. other (omega (arith, e))) (λ e. other (omega (arith, e))) in
          same_cut ∙ sym (elim (high (d / 2)) [
            | inl none ↦ ap (ex s last) (cut_free cuts d none) ∙ d_stays ∙ sym (cut_free cuts d none)
            | inr far ↦
                let k = at cuts (d / 2) in
                let some : k ≢ 0 = λ e. omega (arith, e, far, s_in) in
                elim (cases_eq (d % 2) 0) [
                  | inl even ↦
                      let k_stays = ex_other (2 * k) (λ e. omega (arith, e, far, s_in)) (λ e. omega (arith, e)) in
                      let is = cut_even cuts d k refl some even in
                      ap (ex s last) is ∙ ap₂ (λ x y. x ++ y) d_stays k_stays ∙ sym is
                  | inr odd ↦
                      let k_stays = ex_other (2 * k + 1) (λ e. omega (arith, e)) (λ e. omega (arith, e, far, s_in)) in
                      let is = cut_odd cuts d k refl some odd in
                      ap (ex s last) is ∙ ap₂ (λ x y. x ++ y) k_stays d_stays ∙ sym is
                ]
          ])
    ]
      where
        cut_by : ℕ → ℕ → List ℕ
        cut_by k x = cond (eqb k 0) (x ∷ []) (cond (eqb (x % 2) 0) (x ∷ 2 * k ∷ []) ((2 * k + 1) ∷ x ∷ []))

    pub cut_more : (ds : List ℕ) → cut_darts (set cuts s last) ds ≡ ex s last (cut_darts cuts ds)
    cut_more [] = refl
    cut_more (d ∷ ds) = ap₂ (λ x y. x ++ y) (one_more_cut d) (cut_more ds) ∙ sym (ex-append (cut_one cuts d) (cut_darts cuts ds))

-- a walk is as it was where nothing is cut
pub none_cut : (cuts : List ℕ) → ((t : ℕ) → at cuts t ≡ 0) → (ds : List ℕ) → cut_darts cuts ds ≡ ds
none_cut cuts none [] = refl
none_cut cuts none (d ∷ ds) = ap₂ (λ x y. x ++ y) (cond-true _ _ _ (eq-eqb (at cuts (d / 2)) 0 (none (d / 2)))) (none_cut cuts none ds)

-- a walk with a dart keeps one
pub has_dart-cut : (cuts ds : List ℕ) → has_dart (cut_darts cuts ds) ≡ has_dart ds
has_dart-cut cuts [] = refl
has_dart-cut cuts (d ∷ ds) = elim (cases_eq (at cuts (d / 2)) 0) [
  | inl none ↦ ap (λ l. has_dart (l ++ cut_darts cuts ds)) (cond-true _ _ _ (eq-eqb _ _ none))
  | inr some ↦ elim (cases_eq (d % 2) 0) [
    | inl even ↦ ap (λ l. has_dart (l ++ cut_darts cuts ds)) (cond-false _ _ _ (ne_eqb _ _ some) ∙ cond-true _ _ _ (eq-eqb _ _ even))
    | inr odd ↦ ap (λ l. has_dart (l ++ cut_darts cuts ds)) (cond-false _ _ _ (ne_eqb _ _ some) ∙ cond-false _ _ _ (ne_eqb _ _ odd))
  ]
]
