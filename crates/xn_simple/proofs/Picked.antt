-- Walks seen in two webs: what is picked along them, and the darts at which runs start.
use Rattle.std.proofs.Common.{◌≡◌, ℕ, zero, suc, ◌+◌, ◌*◌, ◌<◌, ◌≤◌, inl, inr, Bool, true, ◌||◌, List, [], ◌∷◌, ◌++◌, length, map, refl, sym, ◌∙◌, ap, ap₂, subst, arith}
use Rattle.std.specs.List.{flat_map, list_any}
use Rattle.std.specs.Prelude.{filter}
use Rattle.std.proofs.lemmas.Bool.{cases_Bool, cond-true, cond-false}
use Rattle.xn_model.specs.Lists.{at, has}
use Rattle.xn_model.specs.Map.{reverse_of, tail_of}
use Rattle.xn_fewer.proofs.Has.{has-first, has-later}
use Rattle.xn_track.specs.Tidying.{first_passing}
use Rattle.xn_track.proofs.Runs.{runs_from}
use Rattle.xn_simple.specs.Tidied.{starts_past}
use Rattle.xn_simple.proofs.Lists.{darts_of_runs, darts_of_runs-append}

-- tests that agree on the list pass the same first
pub first_passing-same : (p q : ℕ → Bool) (xs : List ℕ) → ((x : ℕ) → has xs x ≡ true → p x ≡ q x) → first_passing p xs ≡ first_passing q xs
first_passing-same p q [] same = refl
first_passing-same p q (x ∷ xs) same =
    let rest = first_passing-same p q xs (λ y y_in. same y (has-later x xs y y_in)) in
    let here = same x (has-first x xs) in
    elim (cases_Bool (q x)) [
      | inl passes ↦ cond-true _ _ _ (here ∙ passes) ∙ sym (cond-true _ _ _ passes)
      | inr fails ↦ cond-false _ _ _ (here ∙ fails) ∙ rest ∙ sym (cond-false _ _ _ fails)
    ]

pub any-same : (p q : ℕ → Bool) (xs : List ℕ) → ((x : ℕ) → has xs x ≡ true → p x ≡ q x) → list_any p xs ≡ list_any q xs
any-same p q [] same = refl
any-same p q (x ∷ xs) same = ap₂ (λ a b. a || b) (same x (has-first x xs)) (any-same p q xs (λ y y_in. same y (has-later x xs y y_in)))

-- lists whose places agree pick the same
pub picked-same : (p q : ℕ → Bool) (f h : ℕ → ℕ) (vs ws : List ℕ) → length vs ≡ length ws → ((i : ℕ) → i < length ws → p (at vs i) ≡ q (at ws i)) →
    ((i : ℕ) → i < length ws → q (at ws i) ≡ true → f (at vs i) ≡ h (at ws i)) → map f (filter p vs) ≡ map h (filter q ws)
picked-same p q f h [] [] size tests names = refl
picked-same p q f h [] (w ∷ ws) size tests names = absurd (omega (arith, size))
picked-same p q f h (v ∷ vs) [] size tests names = absurd (omega (arith, size))
picked-same p q f h (v ∷ vs) (w ∷ ws) size tests names =
    let here : p v ≡ q w = tests 0 (omega arith) in
    let rest = picked-same p q f h vs ws (omega (arith, size)) (λ i i_in. tests (suc i) (omega (arith, i_in))) (λ i i_in. names (suc i) (omega (arith, i_in))) in
    elim (cases_Bool (q w)) [
      | inl passes ↦ rw (here ∙ passes, passes) (ap₂ (λ x xs. x ∷ xs) (names 0 (omega arith) passes) rest)
      | inr fails ↦ rw (here ∙ fails, fails) rest
    ]

-- the darts of the runs of a walk, by the walk's own darts
module _ (spot : ℕ → ℕ) (ends : List (ℕ × ℕ)) (name : ℕ → ℕ) (stop test : ℕ → Bool) where
  pub runs_past : (b s d : ℕ) (ds : List ℕ) → ((j : ℕ) → j ≤ length ds → spot (2 * (s + j) + 1) ≡ reverse_of (at (d ∷ ds) j)) →
      ((j : ℕ) → j ≤ length ds → spot (2 * (s + j)) ≡ at (d ∷ ds) j) → ((j : ℕ) → j < length ds → stop (name (at ds j)) ≡ test (tail_of ends (at ds j))) →
      map spot (darts_of_runs (runs_from stop b s (map name ds))) ≡ spot (2 * b) ∷ starts_past ends test d ds
  runs_past b s d [] backs forths tests =
      let e : 2 * (s + 0) + 1 ≡ 2 * s + 1 = omega arith in
      ap (λ x. spot (2 * b) ∷ x ∷ []) (ap spot (sym e) ∙ backs 0 (omega arith))
  runs_past b s d (f ∷ ds) backs forths tests =
      let later_backs : (j : ℕ) → j ≤ length ds → spot (2 * (suc s + j) + 1) ≡ reverse_of (at (f ∷ ds) j) =
      λ j j_in. let e : 2 * (suc s + j) + 1 ≡ 2 * (s + suc j) + 1 = omega arith in ap spot e ∙ backs (suc j) (omega (arith, j_in)) in
      let later_forths : (j : ℕ) → j ≤ length ds → spot (2 * (suc s + j)) ≡ at (f ∷ ds) j =
      λ j j_in. let e : 2 * (suc s + j) ≡ 2 * (s + suc j) = omega arith in ap spot e ∙ forths (suc j) (omega (arith, j_in)) in
      let later_tests : (j : ℕ) → j < length ds → stop (name (at ds j)) ≡ test (tail_of ends (at ds j)) = λ j j_in. tests (suc j) (omega (arith, j_in)) in
      let here : stop (name f) ≡ test (tail_of ends f) = tests 0 (omega arith) in
      let e : 2 * (s + 0) + 1 ≡ 2 * s + 1 = omega arith in
      let first : spot (2 * s + 1) ≡ reverse_of d = ap spot (sym e) ∙ backs 0 (omega arith) in
      let second : spot (2 * suc s) ≡ f = let o : 2 * suc s ≡ 2 * (s + 1) = omega arith in ap spot o ∙ forths 1 (omega arith) in
      elim (cases_Bool (test (tail_of ends f))) [
        | inl passes ↦ rw (here ∙ passes, passes)
            (ap₂ (λ x xs. spot (2 * b) ∷ x ∷ xs) first
            (runs_past (suc s) (suc s) f ds later_backs later_forths later_tests ∙ ap (λ y. y ∷ starts_past ends test f ds) second))
        | inr fails ↦ rw (here ∙ fails, fails) (runs_past b (suc s) f ds later_backs later_forths later_tests)
      ]

-- what is said of the darts at the ends and at the nodes that pass the test is said of all
module _ (ends : List (ℕ × ℕ)) (test : ℕ → Bool) (P : ℕ → Type 0) where
  pub each_past : (d : ℕ) (ds : List ℕ) → ((j : ℕ) → j < length ds → test (tail_of ends (at ds j)) ≡ true → P (reverse_of (at (d ∷ ds) j)) × P (at ds j)) →
      P (reverse_of (at (d ∷ ds) (length ds))) → (x : ℕ) → x < length (starts_past ends test d ds) → P (at (starts_past ends test d ds) x)
  each_past d [] each last zero x_in = last
  each_past d [] each last (suc x) x_in = absurd (omega (arith, x_in))
  each_past d (f ∷ ds) each last x x_in =
      let rest = each_past f ds (λ j j_in passes. each (suc j) (omega (arith, j_in)) passes) last in
      elim (cases_Bool (test (tail_of ends f))) [
        | inr fails ↦ let low = rw fails at x_in in rw fails (rest x low)
        | inl passes ↦
            let here = each 0 (omega arith) passes in
            let low = rw passes at x_in in
            rw passes (both (starts_past ends test f ds) here.0 here.1 rest x low)
      ]
    where
      both : {a b : ℕ} (xs : List ℕ) → P a → P b → ((x : ℕ) → x < length xs → P (at xs x)) → (x : ℕ) → x < length (a ∷ b ∷ xs) → P (at (a ∷ b ∷ xs) x)
      both xs one two rest zero x_in = one
      both xs one two rest (suc zero) x_in = two
      both xs one two rest (suc (suc x)) x_in = rest x (omega (arith, x_in))

pub starts_past-length : (ends : List (ℕ × ℕ)) (test : ℕ → Bool) (d : ℕ) (ds : List ℕ) →
    length (starts_past ends test d ds) ≡ suc (2 * length (filter test (map (tail_of ends) ds)))
starts_past-length ends test d [] = refl
starts_past-length ends test d (f ∷ ds) =
    let rest = starts_past-length ends test f ds in
    elim (cases_Bool (test (tail_of ends f))) [
      | inl passes ↦ rw passes (omega (arith, rest))
      | inr fails ↦ rw fails rest
    ]

-- ---- the darts of runs are below those of the last walk

below-append : (most : ℕ) (xs ys : List ℕ) → ((x : ℕ) → x < length xs → at xs x < most) → ((x : ℕ) → x < length ys → at ys x < most) →
    (x : ℕ) → x < length (xs ++ ys) → at (xs ++ ys) x < most
below-append most [] ys one two x x_in = two x x_in
below-append most (z ∷ zs) ys one two zero x_in = one 0 (omega arith)
below-append most (z ∷ zs) ys one two (suc x) x_in = below-append most zs ys (λ y y_in. one (suc y) (omega (arith, y_in))) two x (omega (arith, x_in))

pub runs_below : (most : ℕ) (stop : ℕ → Bool) (vs : List ℕ) (b s : ℕ) → b ≤ s → 2 * (s + length vs) + 1 < most →
    (x : ℕ) → x < length (darts_of_runs (runs_from stop b s vs)) → at (darts_of_runs (runs_from stop b s vs)) x < most
runs_below most stop [] b s low high zero x_in = omega (arith, low, high)
runs_below most stop [] b s low high (suc zero) x_in = omega (arith, high)
runs_below most stop [] b s low high (suc (suc x)) x_in = absurd (omega (arith, x_in))
runs_below most stop (v ∷ vs) b s low high x x_in =
    let on : 2 * (suc s + length vs) + 1 < most = omega (arith, high) in
    elim (cases_Bool (stop v)) [
      | inl stops ↦
          let shorter = rw stops at x_in in
          rw stops (two_more (darts_of_runs (runs_from stop (suc s) (suc s) vs)) (omega (arith, low, high)) (omega (arith, high)) (runs_below most stop vs (suc s) (suc s) (omega arith) on) x shorter)
      | inr goes ↦
          let shorter = rw goes at x_in in
          rw goes (runs_below most stop vs b (suc s) (omega (arith, low)) on x shorter)
    ]
  where
    two_more : {most c d : ℕ} (ds : List ℕ) → c < most → d < most → ((x : ℕ) → x < length ds → at ds x < most) → (x : ℕ) → x < length (c ∷ d ∷ ds) → at (c ∷ d ∷ ds) x < most
    two_more ds one two rest zero x_in = one
    two_more ds one two rest (suc zero) x_in = two
    two_more ds one two rest (suc (suc x)) x_in = rest x (omega (arith, x_in))

pub all_runs_below : (most : ℕ) (f : ℕ → List (ℕ × ℕ)) (es : List ℕ) → ((e : ℕ) → has es e ≡ true → (x : ℕ) → x < length (darts_of_runs (f e)) → at (darts_of_runs (f e)) x < most) →
    (x : ℕ) → x < length (darts_of_runs (flat_map f es)) → at (darts_of_runs (flat_map f es)) x < most
all_runs_below most f [] each x x_in = absurd (omega (arith, x_in))
all_runs_below most f (e ∷ es) each x x_in =
    let parts = darts_of_runs-append (f e) (flat_map f es) in
    let P : List ℕ → Type 0 = λ ds. x < length ds → at ds x < most in
    subst P (sym parts) (below-append most (darts_of_runs (f e)) (darts_of_runs (flat_map f es)) (each e (has-first e es)) (all_runs_below most f es (λ y y_in. each y (has-later e es y y_in))) x) x_in
