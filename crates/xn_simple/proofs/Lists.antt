-- Lists of darts at crossings, and the lists of those that cross.
use Rattle.std.proofs.Common.{◌≡◌, ℕ, zero, suc, ◌+◌, ◌*◌, ◌<◌, inl, inr, Bool, true, false, List, [], ◌∷◌, ◌++◌, length, map, refl, sym, ◌∙◌, ap, ap₂, subst, arith}
use Rattle.std.specs.List.{IsDistinct, flat_map}
use Rattle.std.specs.Prelude.{filter, nat_eq}
use Rattle.std.proofs.lemmas.Bool.{cases_Bool, ne_eqb}
use Rattle.xn_model.specs.Graph.{ends_at}
use Rattle.xn_model.specs.Lists.{at, has}
use Rattle.xn_model.proofs.Darts.{cases_dart}
use Rattle.xn_fewer.proofs.Has.{has-first, has-later}
use Rattle.xn_fewer.proofs.Rising.{all_made}
use Rattle.xn_track.specs.Cutting.{run_dart}
use Rattle.xn_track.proofs.Cutting.{run_even, run_odd}
use Rattle.xn_track.proofs.Places.{place_of}
use Rattle.xn_track.proofs.Runs.{runs_from}
use Rattle.xn_simple.specs.Crossed.{crossed_from, runs_straight, starts_after, starts_along}

-- a list whose places have different numbers has no repeats
pub distinct_by_places : (xs : List ℕ) → ((i j : ℕ) → i < length xs → j < length xs → at xs i ≡ at xs j → i ≡ j) → IsDistinct nat_eq xs
unfolding IsDistinct
distinct_by_places [] apart = tt
distinct_by_places (x ∷ xs) apart = (
  all_made (λ y. nat_eq x y ≡ false) xs (λ y y_in. ne_eqb x y (λ same.
      let p = place_of xs y y_in in
      let e = apart 0 (suc p.0) (omega arith) (omega (arith, p.1)) (same ∙ sym p.2) in
      omega (arith, e))),
  distinct_by_places xs (λ i j i_in j_in same. let e = apart (suc i) (suc j) (omega (arith, i_in)) (omega (arith, j_in)) same in omega (arith, e)),
)

pub none_in : (xs : List ℕ) → ((x : ℕ) → has xs x ≡ true → ⊥) → xs ≡ []
none_in [] never = refl
none_in (x ∷ xs) never = absurd (never x (has-first x xs))

-- ---- those that cross

module _ (next : ℕ → ℕ) where
  -- they are picked by a test at the nodes, each of which names its edge
  pub picked_is : (test : ℕ → Bool) (name : ℕ → ℕ) (vs fs : List ℕ) (s : ℕ) → length vs ≡ length fs →
      ((i : ℕ) → i < length fs → test (at vs i) ≡ runs_straight next (s + i)) →
      ((i : ℕ) → i < length fs → test (at vs i) ≡ true → name (at vs i) ≡ at fs i) → map name (filter test vs) ≡ crossed_from next s fs
  picked_is test name [] [] s size tests names = refl
  picked_is test name [] (f ∷ fs) s size tests names = absurd (omega (arith, size))
  picked_is test name (v ∷ vs) [] s size tests names = absurd (omega (arith, size))
  picked_is test name (v ∷ vs) (f ∷ fs) s size tests names =
      let zero_s : s + 0 ≡ s = omega arith in
      let here : test v ≡ runs_straight next s = tests 0 (omega arith) ∙ ap (runs_straight next) zero_s in
      let rest = picked_is test name vs fs (suc s) (omega (arith, size))
      (λ i i_in. let on : s + suc i ≡ suc s + i = omega arith in tests (suc i) (omega (arith, i_in)) ∙ ap (runs_straight next) on)
      (λ i i_in. names (suc i) (omega (arith, i_in))) in
      elim (cases_Bool (test v)) [
        | inl passes ↦ rw (passes, sym here ∙ passes) (ap₂ (λ x xs. x ∷ xs) (names 0 (omega arith) passes) rest)
        | inr fails ↦ rw (fails, sym here ∙ fails) rest
      ]

  pub starts_after-length : (s : ℕ) (fs : List ℕ) → length (starts_after next s fs) ≡ suc (2 * length (crossed_from next s fs))
  starts_after-length s [] = refl
  starts_after-length s (f ∷ fs) =
      let rest = starts_after-length (suc s) fs in
      elim (cases_Bool (runs_straight next s)) [
        | inl crosses ↦ rw crosses (omega (arith, rest))
        | inr touches ↦ rw touches rest
      ]

  -- what is said of the darts at the ends and at the crossings is said of all
  pub each_after : (P : ℕ → Type 0) (s : ℕ) (fs : List ℕ) → ((i : ℕ) → i < length fs → runs_straight next (s + i) ≡ true → P (2 * (s + i) + 1) × P (2 * suc (s + i))) →
      P (2 * (s + length fs) + 1) → (x : ℕ) → x < length (starts_after next s fs) → P (at (starts_after next s fs) x)
  each_after P s [] each last zero x_in = let e : 2 * (s + 0) + 1 ≡ 2 * s + 1 = omega arith in subst P e last
  each_after P s [] each last (suc x) x_in = absurd (omega (arith, x_in))
  each_after P s (f ∷ fs) each last x x_in =
      let end : 2 * (s + suc (length fs)) + 1 ≡ 2 * (suc s + length fs) + 1 = omega arith in
      let rest = each_after P (suc s) fs
      (λ i i_in crosses.
      let on : s + suc i ≡ suc s + i = omega arith in
      let Q : ℕ → Type 0 = λ k. P (2 * k + 1) × P (2 * suc k) in
      subst Q on (each (suc i) (omega (arith, i_in)) (ap (runs_straight next) on ∙ crosses)))
      (subst P end last) in
      elim (cases_Bool (runs_straight next s)) [
        | inr touches ↦ let low = rw touches at x_in in rw touches (rest x low)
        | inl crosses ↦
            let zero_s : s + 0 ≡ s = omega arith in
            let Q : ℕ → Type 0 = λ k. P (2 * k + 1) × P (2 * suc k) in
            let here : P (2 * s + 1) × P (2 * suc s) = subst Q zero_s (each 0 (omega arith) (ap (runs_straight next) zero_s ∙ crosses)) in
            let low = rw crosses at x_in in
            rw crosses (both (starts_after next (suc s) fs) here.0 here.1 rest x low)
      ]
    where
      both : {d e : ℕ} (ds : List ℕ) → P d → P e → ((x : ℕ) → x < length ds → P (at ds x)) → (x : ℕ) → x < length (d ∷ e ∷ ds) → P (at (d ∷ e ∷ ds) x)
      both ds one two rest zero x_in = one
      both ds one two rest (suc zero) x_in = two
      both ds one two rest (suc (suc x)) x_in = rest x (omega (arith, x_in))

  pub each_along : (P : ℕ → Type 0) (s : ℕ) (fs : List ℕ) → P (2 * s) →
      ((i : ℕ) → i < length fs → runs_straight next (s + i) ≡ true → P (2 * (s + i) + 1) × P (2 * suc (s + i))) →
      P (2 * (s + length fs) + 1) → (x : ℕ) → x < length (starts_along next s fs) → P (at (starts_along next s fs) x)
  each_along P s fs first each last zero x_in = first
  each_along P s fs first each last (suc x) x_in = each_after P s fs each last x (omega (arith, x_in))

-- ---- the two darts of each run

abbrev pub darts_of_runs : List (ℕ × ℕ) → List ℕ
darts_of_runs [] = []
darts_of_runs (r ∷ rs) = (2 * r.0) ∷ (2 * r.1 + 1) ∷ darts_of_runs rs

pub darts_of_runs-append : (rs ss : List (ℕ × ℕ)) → darts_of_runs (rs ++ ss) ≡ darts_of_runs rs ++ darts_of_runs ss
darts_of_runs-append [] ss = refl
darts_of_runs-append (r ∷ rs) ss = ap (λ ds. (2 * r.0) ∷ (2 * r.1 + 1) ∷ ds) (darts_of_runs-append rs ss)

pub darts_of_all : (f : ℕ → List (ℕ × ℕ)) (h : ℕ → List ℕ) (es : List ℕ) → ((e : ℕ) → has es e ≡ true → darts_of_runs (f e) ≡ h e) → darts_of_runs (flat_map f es) ≡ flat_map h es
darts_of_all f h [] same = refl
darts_of_all f h (e ∷ es) same =
    darts_of_runs-append (f e) (flat_map f es)
    ∙ ap₂ (λ xs ys. xs ++ ys) (same e (has-first e es)) (darts_of_all f h es (λ x x_in. same x (has-later e es x x_in)))

run_even_at : (rs : List (ℕ × ℕ)) (j : ℕ) → at (darts_of_runs rs) (2 * j) ≡ 2 * (ends_at rs j).0
run_even_at [] j = refl
run_even_at (r ∷ rs) zero = refl
run_even_at (r ∷ rs) (suc j) = let e : 2 * suc j ≡ suc (suc (2 * j)) = omega arith in ap (at (darts_of_runs (r ∷ rs))) e ∙ run_even_at rs j

run_odd_at : (rs : List (ℕ × ℕ)) (j : ℕ) → 2 * j + 1 < length (darts_of_runs rs) → at (darts_of_runs rs) (2 * j + 1) ≡ 2 * (ends_at rs j).1 + 1
run_odd_at [] j j_in = absurd (omega (arith, j_in))
run_odd_at (r ∷ rs) zero j_in = refl
run_odd_at (r ∷ rs) (suc j) j_in =
    let e : 2 * suc j + 1 ≡ suc (suc (2 * j + 1)) = omega arith in
    ap (at (darts_of_runs (r ∷ rs))) e ∙ run_odd_at rs j (omega (arith, j_in))

pub run_at : (rs : List (ℕ × ℕ)) (x : ℕ) → x < length (darts_of_runs rs) → at (darts_of_runs rs) x ≡ run_dart (λ j. (ends_at rs j).0) (λ j. (ends_at rs j).1) x
run_at rs x x_in =
    let first : ℕ → ℕ = λ j. (ends_at rs j).0 in
    let last : ℕ → ℕ = λ j. (ends_at rs j).1 in
    let c = cases_dart x in
    elim c.1 [
      | inl even ↦ ap (at (darts_of_runs rs)) even ∙ run_even_at rs c.0 ∙ sym (run_even first last c.0) ∙ ap (run_dart first last) (sym even)
      | inr odd ↦ ap (at (darts_of_runs rs)) odd ∙ run_odd_at rs c.0 (omega (arith, x_in, odd)) ∙ sym (run_odd first last c.0) ∙ ap (run_dart first last) (sym odd)
    ]

-- the runs of an edge begin and end with the darts along it
pub runs_along : (next : ℕ → ℕ) (stop : ℕ → Bool) (vs fs : List ℕ) (b s : ℕ) → length vs ≡ length fs → ((i : ℕ) → i < length fs → stop (at vs i) ≡ runs_straight next (s + i)) →
    darts_of_runs (runs_from stop b s vs) ≡ (2 * b) ∷ starts_after next s fs
runs_along next stop [] [] b s size tests = refl
runs_along next stop [] (f ∷ fs) b s size tests = absurd (omega (arith, size))
runs_along next stop (v ∷ vs) [] b s size tests = absurd (omega (arith, size))
runs_along next stop (v ∷ vs) (f ∷ fs) b s size tests =
    let zero_s : s + 0 ≡ s = omega arith in
    let here : stop v ≡ runs_straight next s = tests 0 (omega arith) ∙ ap (runs_straight next) zero_s in
    let later : (i : ℕ) → i < length fs → stop (at vs i) ≡ runs_straight next (suc s + i) =
    λ i i_in. let on : s + suc i ≡ suc s + i = omega arith in tests (suc i) (omega (arith, i_in)) ∙ ap (runs_straight next) on in
    elim (cases_Bool (stop v)) [
      | inl stops ↦ rw (stops, sym here ∙ stops) (ap (λ ds. (2 * b) ∷ (2 * s + 1) ∷ ds) (runs_along next stop vs fs (suc s) (suc s) (omega (arith, size)) later))
      | inr goes ↦ rw (goes, sym here ∙ goes) (runs_along next stop vs fs b (suc s) (omega (arith, size)) later)
    ]
