-- Sums over edges in which one term or two change.
use Rattle.std.proofs.Common.{◌≡◌, ◌≢◌, ℕ, ◌+◌, ◌≤◌, inl, inr, true, false, cond, eqb, List, [], ◌∷◌, refl, sym, ◌∙◌, ap, ap₂, arith}
use Rattle.std.specs.List.{IsDistinct, flat_map}
use Rattle.std.specs.Prelude.{nat_eq}
use Rattle.std.proofs.lemmas.Bool.{both_ways, cases_eq, cond-true, cond-false, eq-eqb, ne_eqb}
use Rattle.xn_model.specs.Lists.{has, total}
use Rattle.xn_model.specs.Loose.{times_walked}
use Rattle.xn_model.proofs.Has.{all_not, has-first, has-later}
use Rattle.xn_track.proofs.Blocks.{later_in}
use Rattle.xn_track.proofs.Paths.{times-append}

pub times-flat_map : (s : ℕ) (walks : ℕ → List ℕ) (es : List ℕ) → times_walked s (flat_map walks es) ≡ total (λ e. times_walked s (walks e)) es
times-flat_map s walks [] = refl
times-flat_map s walks (e ∷ es) = times-append s (walks e) (flat_map walks es) ∙ ap (λ n. times_walked s (walks e) + n) (times-flat_map s walks es)

pub total-le : (h k : ℕ → ℕ) (es : List ℕ) → ((x : ℕ) → has es x ≡ true → h x ≤ k x) → total h es ≤ total k es
total-le h k [] each = omega arith
total-le h k (e ∷ es) each =
    let here = each e (has-first e es) in
    let rest = total-le h k es (λ x x_in. each x (has-later e es x x_in)) in
    omega (arith, here, rest)

-- all terms but that of e
abbrev pub but : ℕ → (ℕ → ℕ) → ℕ → ℕ
but e h x = cond (eqb x e) 0 (h x)

pub but_here : (e : ℕ) (h : ℕ → ℕ) (x : ℕ) → x ≡ e → but e h x ≡ 0
but_here e h x same = cond-true _ _ _ (eq-eqb x e same)

pub but_there : (e : ℕ) (h : ℕ → ℕ) (x : ℕ) → x ≢ e → but e h x ≡ h x
but_there e h x other = cond-false _ _ _ (ne_eqb x e other)

pub same_total : (h k : ℕ → ℕ) (es : List ℕ) → ((x : ℕ) → has es x ≡ true → h x ≡ k x) → total h es ≡ total k es
same_total h k [] each = refl
same_total h k (e ∷ es) each = ap₂ ◌+◌ (each e (has-first e es)) (same_total h k es (λ x x_in. each x (has-later e es x x_in)))

pub total-out : (h : ℕ → ℕ) (es : List ℕ) (e : ℕ) → IsDistinct nat_eq es → has es e ≡ true → total h es ≡ h e + total (but e h) es
unfolding IsDistinct
total-out h [] e distinct e_in = absurd (both_ways false refl e_in)
total-out h (x ∷ xs) e distinct e_in = elim (cases_eq x e) [
  | inl here ↦
      let none = but_here e h x here in
      let rest = same_total h (but e h) xs (λ y y_in. sym (but_there e h y (λ same. all_not x xs distinct.0 y y_in (here ∙ sym same)))) in
      let same : h x ≡ h e = ap h here in
      omega (arith, none, rest, same)
  | inr past ↦
      let rest = total-out h xs e distinct.1 (later_in x xs e e_in past) in
      let kept = but_there e h x past in
      omega (arith, rest, kept)
]

pub total-one : (h : ℕ → ℕ) (es : List ℕ) (e : ℕ) → IsDistinct nat_eq es → has es e ≡ true → h e ≤ total h es
total-one h es e distinct e_in = let out = total-out h es e distinct e_in in omega (arith, out)

pub total-two : (h : ℕ → ℕ) (es : List ℕ) (e f : ℕ) → IsDistinct nat_eq es → has es e ≡ true → has es f ≡ true → e ≢ f → h e + h f ≤ total h es
total-two h es e f distinct e_in f_in differ =
    let out = total-out h es e distinct e_in in
    let one = total-one (but e h) es f distinct f_in in
    let same = but_there e h f (λ eq. differ (sym eq)) in
    omega (arith, out, one, same)

pub total-three : (h : ℕ → ℕ) (es : List ℕ) (e f k : ℕ) → IsDistinct nat_eq es → has es e ≡ true → has es f ≡ true → has es k ≡ true → e ≢ f → k ≢ e → k ≢ f →
    h e + h f + h k ≤ total h es
total-three h es e f k distinct e_in f_in k_in differ not_e not_f =
    let out = total-out h es e distinct e_in in
    let two = total-two (but e h) es f k distinct f_in k_in (λ eq. not_f (sym eq)) in
    let f_same = but_there e h f (λ eq. differ (sym eq)) in
    let k_same = but_there e h k not_e in
    omega (arith, out, two, f_same, k_same)

-- two terms change, and their sum doesn't rise
pub total-exchange : (h k : ℕ → ℕ) (es : List ℕ) (e f : ℕ) → IsDistinct nat_eq es → has es e ≡ true → has es f ≡ true → e ≢ f → k e + k f ≤ h e + h f →
    ((x : ℕ) → x ≢ e → x ≢ f → k x ≡ h x) → total k es ≤ total h es
total-exchange h k es e f distinct e_in f_in differ sum others =
    let h_out = total-out h es e distinct e_in in
    let k_out = total-out k es e distinct e_in in
    let h_more = total-out (but e h) es f distinct f_in in
    let k_more = total-out (but e k) es f distinct f_in in
    let h_same = but_there e h f (λ eq. differ (sym eq)) in
    let k_same = but_there e k f (λ eq. differ (sym eq)) in
    let rest = total-le (but f (but e k)) (but f (but e h)) es (λ x x_in. elim (cases_eq x f) [
      | inl here ↦ let one = but_here f (but e k) x here in omega (arith, one)
      | inr not_f ↦ elim (cases_eq x e) [
        | inl here ↦ let one = but_there f (but e k) x not_f in let two = but_here e k x here in omega (arith, one, two)
        | inr not_e ↦
            let a = but_there f (but e k) x not_f in
            let b = but_there e k x not_e in
            let c = but_there f (but e h) x not_f in
            let d = but_there e h x not_e in
            let same = others x not_e not_f in
            omega (arith, a, b, c, d, same)
      ]
    ]) in
    omega (arith, sum, h_out, k_out, h_more, k_more, h_same, k_same, rest)
