-- Sums over the edges and one more.
use Rattle.std.proofs.Common.{◌≡◌, ◌≢◌, ℕ, ◌+◌, ◌<◌, ◌≤◌, ◌⊎◌, inl, inr, true, List, [], ◌∷◌, refl, sym, ◌∙◌, ap, arith}
use Rattle.std.specs.List.{IsDistinct}
use Rattle.std.specs.Prelude.{nat_eq}
use Rattle.std.proofs.lemmas.Bool.{both_ways, cases_Bool, cases_eq}
use Rattle.xn_model.specs.Lists.{has, total}
use Rattle.xn_fewer.proofs.Has.{has-first, has-later}
use Rattle.xn_fewer.proofs.Rising.{has-all}
use Rattle.xn_loose.specs.Inserting.{IsOneMore}
use Rattle.xn_track.proofs.Places.{all_not}
use Rattle.xn_track.proofs.Tally.{but, but_here, but_there, total-out}

-- the new edge is one of the graph's
pub one_more_low : (count : ℕ) (edges all : List ℕ) (e : ℕ) → IsOneMore count edges e all → e < count
one_more_low count edges all e more_edges = has-all (λ k. k < count) all more_edges.edge_list.below e more_edges.there

-- the terms of a list without repeats that stand in another one
pub within_total : (xs : List ℕ) (h : ℕ → ℕ) (ys : List ℕ) → IsDistinct nat_eq xs → IsDistinct nat_eq ys → ((x : ℕ) → has xs x ≡ true → (h x ≡ 0) ⊎ (has ys x ≡ true)) → total h xs ≤ total h ys
unfolding IsDistinct
within_total [] h ys one two each = omega arith
within_total (x ∷ xs) h ys one two each = elim (each x (has-first x xs)) [
  | inl none ↦ let rest = within_total xs h ys one.1 two (λ z z_in. each z (has-later x xs z z_in)) in omega (arith, none, rest)
  | inr there ↦
      let out = total-out h ys x two there in
      let rest = within_total xs (but x h) ys one.1 two (λ z z_in.
      let same = but_there x h z (λ e. all_not x xs one.0 z z_in (sym e)) in
      elim (each z (has-later x xs z z_in)) [ inl none ↦ inl (same ∙ none) | inr y_in ↦ inr y_in ]) in
      let kept = without x h xs (λ z z_in e. all_not x xs one.0 z z_in (sym e)) in
      omega (arith, out, rest, kept)
]
  where
    without : (x : ℕ) (h : ℕ → ℕ) (zs : List ℕ) → ((z : ℕ) → has zs z ≡ true → z ≢ x) → total (but x h) zs ≡ total h zs
    without x h [] other = refl
    without x h (z ∷ zs) other =
        let here = but_there x h z (other z (has-first z zs)) in
        let rest = without x h zs (λ w w_in. other w (has-later z zs w w_in)) in
        omega (arith, here, rest)

pub one_more_total : (k h : ℕ → ℕ) (all edges : List ℕ) (e : ℕ) → IsDistinct nat_eq all → IsDistinct nat_eq edges → ((x : ℕ) → has all x ≡ true → (x ≡ e) ⊎ (has edges x ≡ true)) →
    ((x : ℕ) → x ≢ e → k x ≡ h x) → total k all ≤ k e + total h edges
one_more_total k h all edges e one two only same =
    let rest = within_total all (but e k) edges one two (λ x x_in. elim (only x x_in) [ inl is ↦ inl (but_here e k x is) | inr old ↦ inr old ]) in
    let few = less edges in
    elim (cases_Bool (has all e)) [
      | inl e_in ↦ let out = total-out k all e one e_in in omega (arith, out, rest, few)
      | inr out ↦
          let same_all = kept all (λ x x_in is. both_ways _ out (ap (has all) (sym is) ∙ x_in)) in
          omega (arith, same_all, rest, few)
    ]
  where
    kept : (zs : List ℕ) → ((x : ℕ) → has zs x ≡ true → x ≢ e) → total (but e k) zs ≡ total k zs
    kept [] other = refl
    kept (z ∷ zs) other =
        let here = but_there e k z (other z (has-first z zs)) in
        let rest = kept zs (λ w w_in. other w (has-later z zs w w_in)) in
        omega (arith, here, rest)

    less : (zs : List ℕ) → total (but e k) zs ≤ total h zs
    less [] = omega arith
    less (z ∷ zs) =
        let rest = less zs in
        elim (cases_eq z e) [
          | inl is ↦ let none = but_here e k z is in omega (arith, none, rest)
          | inr other ↦ let here = but_there e k z other in let eq = same z other in omega (arith, here, eq, rest)
        ]
