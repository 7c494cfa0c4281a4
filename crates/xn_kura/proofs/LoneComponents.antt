-- Each lone node is a part of its own, and one more part has a segment.
use Rattle.std.proofs.Common.{◌≡◌, ℕ, zero, suc, ◌<◌, ◌≤◌, inl, inr, Bool, true, false, not, ◌&&◌, eqb, List, [], ◌∷◌, refl, sym, ◌∙◌, ap, arith}
use Rattle.std.specs.List.{list_any}
use Rattle.std.proofs.lemmas.Bool.{cases_eq, both_ways, and_from, or_parts, eq-eqb, ne_eqb, not-true, not_from_false, false_from_ne_true}
use Rattle.xn_model.specs.Graph.{EndsIn, touches}
use Rattle.xn_model.specs.Lists.{at, one_if}
use Rattle.xn_model.specs.Map.{is_lone, component_count, component_labels}
use Rattle.xn_model.specs.Permutation.{count_below}
use Rattle.xn_genus.proofs.Counts.{count_below-drop}
use Rattle.xn_genus.proofs.Kept.{Along, universal}
use Rattle.xn_model.proofs.Components.{IsLabelling-components}

-- 1 at w, 0 elsewhere
abbrev mark_at : ℕ → ℕ → ℕ
mark_at w v = one_if (eqb v w)

along_mark : (w : ℕ) (ends : List (ℕ × ℕ)) → list_any (λ p. touches p w) ends ≡ false → Along (mark_at w) ends
along_mark w [] none = tt
along_mark w (p ∷ ends) none =
    let parts : (touches p w ≡ false) × (list_any (λ q. touches q w) ends ≡ false) = or_parts _ _ none in
    let here : (eqb p.0 w ≡ false) × (eqb p.1 w ≡ false) = or_parts _ _ parts.0 in
    (ap one_if here.0 ∙ sym (ap one_if here.1), along_mark w ends parts.1)

module _ (nodes : ℕ) (ends : List (ℕ × ℕ)) (ends_in : EndsIn nodes ends) where
  abbrev label : ℕ → ℕ
  label v = at (component_labels nodes ends) v

  -- a label that is lone is the label of that node alone
  lone_label : (w v : ℕ) → v < nodes → is_lone ends w ≡ true → (label v ≡ w → v ≡ w) × (v ≡ w → label v ≡ w)
  lone_label w v v_in lone =
      let same : mark_at w (label v) ≡ mark_at w v = universal nodes (mark_at w) ends ends_in (along_mark w ends (not-true _ lone)) v v_in in (
        (λ e. elim (cases_eq v w) [
          | inl yes_w ↦ yes_w
          | inr not_w ↦
              let one : mark_at w (label v) ≡ 1 = ap one_if (eq-eqb _ _ e) in
              let none : mark_at w v ≡ 0 = ap one_if (ne_eqb _ _ not_w) in
              absurd (omega (arith, one, none, same))
        ]),
        (λ e. elim (cases_eq (label v) w) [
          | inl yes_w ↦ yes_w
          | inr not_w ↦
              let one : mark_at w v ≡ 1 = ap one_if (eq-eqb _ _ e) in
              let none : mark_at w (label v) ≡ 0 = ap one_if (ne_eqb _ _ not_w) in
              absurd (omega (arith, one, none, same))
        ]),
      )

  pub lone-lt_components : (b : ℕ) → b < nodes → is_lone ends b ≡ false → count_below nodes (is_lone ends) < component_count nodes ends
  lone-lt_components b b_in touched =
      let old = IsLabelling-components nodes ends ends_in in
      let c = label b in
      let c_in : c < nodes = omega (arith, old.low b b_in) in
      let own : label c ≡ c = old.again b b_in in
      let c_not_lone : is_lone ends c ≡ false = false_from_ne_true _ (λ t.
      let same = (lone_label c b b_in t).0 refl in
      both_ways _ touched (ap (is_lone ends) same ∙ t)) in
      let drop = count_below-drop nodes (λ v. eqb (label v) v) c c_in in
      let one : one_if (eqb (label c) c) ≡ 1 = ap one_if (eq-eqb _ _ own) in
      let less = count-le nodes (is_lone ends) (λ v. eqb (label v) v && not (eqb c v)) (λ v v_in t.
      and_from _ _ (eq-eqb _ _ ((lone_label v v v_in t).1 refl))
      (not_from_false _ (ne_eqb _ _ (λ e. both_ways _ c_not_lone (ap (is_lone ends) e ∙ t))))) in
      omega (arith, drop, one, less)
    where
      count-le : (n : ℕ) (p q : ℕ → Bool) → ((x : ℕ) → x < n → p x ≡ true → q x ≡ true) → count_below n p ≤ count_below n q
      count-le zero p q each = omega arith
      count-le (suc n) p q each =
          let low = count-le n p q (λ x x_in t. each x (omega arith) t) in
          let top : one_if (p n) ≤ one_if (q n) = le_bits _ _ (each n (omega arith)) in
          omega (arith, low, top)
        where
          le_bits : (a b : Bool) → (a ≡ true → b ≡ true) → one_if a ≤ one_if b
          le_bits true b h = let e : one_if b ≡ 1 = ap one_if (h refl) in omega arith
          le_bits false b h = omega arith
