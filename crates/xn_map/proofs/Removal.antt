-- The tails of darts once a segment is taken out of a web.
use Rattle.std.proofs.Common.{◌≡◌, ℕ, suc, ◌+◌, ◌-◌, ◌*◌, ◌/◌, ◌%◌, ◌<◌, inl, inr, cond, eqb, List, length, refl, sym, ◌∙◌, ap, arith}
use Rattle.std.specs.List.{swap_remove}
use Rattle.std.proofs.lemmas.Bool.{cases_eq, cond-true, cond-false, eq-eqb, ne_eqb}
use Rattle.xn_model.specs.Graph.{Graph, ends_at}
use Rattle.xn_model.specs.Map.{tail_of}
use Rattle.xn_graph.specs.Limits.{graph_of}
use Rattle.xn_graph.proofs.Ends.{ends_at-swap_remove, length-swap_remove}
use Rattle.xn_genus.specs.Deletion.{dart_before}

-- the tails of two darts on one side of equal segments
tail_agrees : (a b : List (ℕ × ℕ)) (x y : ℕ) → ends_at a (x / 2) ≡ ends_at b (y / 2) → x % 2 ≡ y % 2 → tail_of a x ≡ tail_of b y
tail_agrees a b x y same side = ap (λ e. cond (eqb (x % 2) 0) e.0 e.1) same ∙ ap (λ k. cond (eqb k 0) (ends_at b (y / 2)).0 (ends_at b (y / 2)).1) side

pub fewer : (s : ℕ) (old new : Graph) → s < length old.ends → new ≡ graph_of old.nodes (swap_remove old.ends s (0, 0)) → length old.ends ≡ suc (length new.ends)
fewer s old new s_in new_is =
    let less = ap (λ w. length w.ends) new_is ∙ length-swap_remove old.ends s (0, 0) in
    omega (arith, less, s_in)

-- each dart is where the dart was whose number it has
pub tail_before : (s : ℕ) (old new : Graph) → s < length old.ends → new ≡ graph_of old.nodes (swap_remove old.ends s (0, 0)) →
    (j : ℕ) → j < 2 * length new.ends → tail_of new.ends j ≡ tail_of old.ends (dart_before s (length new.ends) j)
tail_before s old new s_in new_is j j_in =
    let less = fewer s old new s_in new_is in
    let low : j / 2 < length old.ends - 1 = omega (arith, j_in, less) in
    let top : length old.ends - 1 ≡ length new.ends = omega (arith, less) in
    let moved = ap (λ w. ends_at w.ends (j / 2)) new_is ∙ ends_at-swap_remove old.ends s s_in (j / 2) low in
    elim (cases_eq (j / 2) s) [
      | inl here ↦
          let e = dart_before s (length new.ends) j in
          let e_is : e ≡ 2 * length new.ends + j % 2 = cond-true _ _ _ (eq-eqb _ _ here) in
          let half : length new.ends ≡ e / 2 = omega (arith, e_is) in
          let side : j % 2 ≡ e % 2 = omega (arith, e_is) in
          tail_agrees new.ends old.ends j e (moved ∙ ap (ends_at old.ends) (cond-true _ _ _ (eq-eqb _ _ here) ∙ top ∙ half)) side
      | inr other ↦
          tail_agrees new.ends old.ends j j (moved ∙ ap (ends_at old.ends) (cond-false _ _ _ (ne_eqb _ _ other))) refl
          ∙ ap (tail_of old.ends) (sym (cond-false _ _ _ (ne_eqb _ _ other)))
    ]
