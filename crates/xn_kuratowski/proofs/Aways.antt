-- The segments away from some nodes, and walks along them.
use Rattle.std.proofs.Common.{◌≡◌, ◌≢◌, ℕ, ◌<◌, ◌⊎◌, inl, inr, Bool, true, false, eqb, List, [], ◌∷◌, length, refl, sym, ◌∙◌, ap, subst, arith}
use Rattle.std.specs.List.{list_any}
use Rattle.std.proofs.lemmas.Bool.{both_ways, cases_Bool, eq-eqb, eqb-true, eqb-false, ne_eqb, not-true, not_from_false, or_from, or_parts, false_from_ne_true}
use Rattle.xn_model.specs.Graph.{EndsIn, ends_at, touches}
use Rattle.xn_model.specs.Lists.{at, has}
use Rattle.xn_model.specs.Map.{Joined, component_labels, is_lone, tail_of}
use Rattle.xn_model.proofs.ComponentWalks.{joined_from_label, joined_sym, label_from_joined}
use Rattle.xn_model.proofs.Darts.{cases_dart, tail-even, tail-odd}
use Rattle.xn_genus.proofs.Compress.{EndsIn_from}
use Rattle.xn_genus.proofs.Kept.{EndsIn_at}
use Rattle.xn_genus.proofs.Nodes.{lone_from}
use Rattle.xn_surgery.proofs.InsertFlat.{lone_apart}
use Rattle.xn_fewer.proofs.Walks.{filter_from, filter_to, joined_ends}
use Rattle.xn_kuratowski.specs.Reduction.{away, is_clear}

-- ---- clear segments

any_to : (p : ℕ × ℕ) (avoid : List ℕ) → list_any (λ v. touches p v) avoid ≡ false → (has avoid p.0 ≡ false) × (has avoid p.1 ≡ false)
any_to p [] h = (refl, refl)
any_to p (v ∷ avoid) h =
    let one : (touches p v ≡ false) × (list_any (λ w. touches p w) avoid ≡ false) = or_parts (touches p v) (list_any (λ w. touches p w) avoid) h in
    let two : (eqb p.0 v ≡ false) × (eqb p.1 v ≡ false) = or_parts (eqb p.0 v) (eqb p.1 v) one.0 in
    let rest = any_to p avoid one.1 in (
      or_from (eqb v p.0) (has avoid p.0) (ne_eqb v p.0 (λ same. eqb-false p.0 v two.0 (sym same))) rest.0,
      or_from (eqb v p.1) (has avoid p.1) (ne_eqb v p.1 (λ same. eqb-false p.1 v two.1 (sym same))) rest.1,
    )

any_from : (p : ℕ × ℕ) (avoid : List ℕ) → has avoid p.0 ≡ false → has avoid p.1 ≡ false → list_any (λ v. touches p v) avoid ≡ false
any_from p [] first second = refl
any_from p (v ∷ avoid) first second =
    let one : (eqb v p.0 ≡ false) × (has avoid p.0 ≡ false) = or_parts (eqb v p.0) (has avoid p.0) first in
    let two : (eqb v p.1 ≡ false) × (has avoid p.1 ≡ false) = or_parts (eqb v p.1) (has avoid p.1) second in
    or_from (touches p v) (list_any (λ w. touches p w) avoid)
    (or_from (eqb p.0 v) (eqb p.1 v) (ne_eqb p.0 v (λ same. eqb-false v p.0 one.0 (sym same))) (ne_eqb p.1 v (λ same. eqb-false v p.1 two.0 (sym same))))
    (any_from p avoid one.1 two.1)

pub clear_to : (avoid : List ℕ) (p : ℕ × ℕ) → is_clear avoid p ≡ true → (has avoid p.0 ≡ false) × (has avoid p.1 ≡ false)
clear_to avoid p h = any_to p avoid (not-true _ h)

pub clear_from : (avoid : List ℕ) (p : ℕ × ℕ) → has avoid p.0 ≡ false → has avoid p.1 ≡ false → is_clear avoid p ≡ true
clear_from avoid p first second = not_from_false _ (any_from p avoid first second)

-- two or three nodes
pub out_two : (a b z : ℕ) → has (a ∷ b ∷ []) z ≡ false → (z ≢ a) × (z ≢ b)
out_two a b z h =
    let one : (eqb a z ≡ false) × (has (b ∷ []) z ≡ false) = or_parts (eqb a z) (has (b ∷ []) z) h in
    let two : (eqb b z ≡ false) × (false ≡ false) = or_parts (eqb b z) false one.1 in
    (λ same. eqb-false a z one.0 (sym same), λ same. eqb-false b z two.0 (sym same))

pub two_out : (a b z : ℕ) → z ≢ a → z ≢ b → has (a ∷ b ∷ []) z ≡ false
two_out a b z not_a not_b =
    or_from (eqb a z) (has (b ∷ []) z) (ne_eqb a z (λ same. not_a (sym same))) (or_from (eqb b z) false (ne_eqb b z (λ same. not_b (sym same))) refl)

pub out_three : (a b c z : ℕ) → has (a ∷ b ∷ c ∷ []) z ≡ false → (z ≢ a) × (z ≢ b) × (z ≢ c)
out_three a b c z h =
    let one : (eqb a z ≡ false) × (has (b ∷ c ∷ []) z ≡ false) = or_parts (eqb a z) (has (b ∷ c ∷ []) z) h in
    let two = out_two b c z one.1 in
    (λ same. eqb-false a z one.0 (sym same), two.0, two.1)

pub three_out : (a b c z : ℕ) → z ≢ a → z ≢ b → z ≢ c → has (a ∷ b ∷ c ∷ []) z ≡ false
three_out a b c z not_a not_b not_c = or_from (eqb a z) (has (b ∷ c ∷ []) z) (ne_eqb a z (λ same. not_a (sym same))) (two_out b c z not_b not_c)

-- ---- walks

pub joined_away : (avoid : List ℕ) (ends : List (ℕ × ℕ)) (s : ℕ) → s < length ends → has avoid (ends_at ends s).0 ≡ false → has avoid (ends_at ends s).1 ≡ false →
    Joined (away avoid ends) (ends_at ends s).0 (ends_at ends s).1
joined_away avoid ends s s_in first second =
    let found = filter_from (is_clear avoid) ends s s_in (clear_from avoid (ends_at ends s) first second) in
    let P : ℕ × ℕ → Type 0 = λ p. Joined (away avoid ends) p.0 p.1 in
    subst P found.2 (joined_ends (away avoid ends) found.0 found.1)

-- a node that is avoided is joined to no other
pub avoided_alone : (avoid : List ℕ) (ends : List (ℕ × ℕ)) (u z : ℕ) → has avoid z ≡ true → u ≢ z → Joined (away avoid ends) u z → ⊥
avoided_alone avoid ends u z avoided other there =
    let web = away avoid ends in
    let alone : is_lone web z ≡ true = lone_from web z (λ d d_in at.
    let c = cases_dart d in
    let found = filter_to (is_clear avoid) ends c.0 (omega (arith, c.1, d_in)) in
    let clear = clear_to avoid (ends_at ends found.0) found.3 in
    elim c.1 [
      | inl even ↦
          let is : (ends_at ends found.0).0 ≡ z = ap (λ p. p.0) (sym found.2) ∙ sym (tail-even web c.0) ∙ ap (tail_of web) (sym even) ∙ at in
          both_ways _ clear.0 (ap (has avoid) is ∙ avoided)
      | inr odd ↦
          let is : (ends_at ends found.0).1 ≡ z = ap (λ p. p.1) (sym found.2) ∙ sym (tail-odd web c.0) ∙ ap (tail_of web) (sym odd) ∙ at in
          both_ways _ clear.1 (ap (has avoid) is ∙ avoided)
    ]) in
    lone_apart web z u alone (λ same. other (sym same)) (joined_sym web u z there)

pub EndsIn-away : (nodes : ℕ) (avoid : List ℕ) (ends : List (ℕ × ℕ)) → EndsIn nodes ends → EndsIn nodes (away avoid ends)
EndsIn-away nodes avoid ends ends_in = EndsIn_from nodes (away avoid ends) (λ s s_in.
    let found = filter_to (is_clear avoid) ends s s_in in
    let low = EndsIn_at nodes ends ends_in found.0 found.1 in
    let P : ℕ × ℕ → Type 0 = λ p. (p.0 < nodes) × (p.1 < nodes) in
    subst P (sym found.2) low)

-- ---- the component of a node, as a test

abbrev pub with_node : ℕ → List (ℕ × ℕ) → ℕ → ℕ → Bool
with_node nodes ends u t = eqb (at (component_labels nodes ends) u) (at (component_labels nodes ends) t)

pub with_from : (nodes : ℕ) (ends : List (ℕ × ℕ)) → EndsIn nodes ends → (u t : ℕ) → Joined ends u t → with_node nodes ends u t ≡ true
with_from nodes ends ends_in u t there = eq-eqb _ _ (label_from_joined nodes ends ends_in u t there)

pub with_to : (nodes : ℕ) (ends : List (ℕ × ℕ)) → EndsIn nodes ends → (u t : ℕ) → u < nodes → t < nodes → with_node nodes ends u t ≡ true → Joined ends u t
with_to nodes ends ends_in u t u_in t_in h = joined_from_label nodes ends ends_in u t u_in t_in (eqb-true _ _ h)

pub with_not : (nodes : ℕ) (ends : List (ℕ × ℕ)) → EndsIn nodes ends → (u t : ℕ) → u < nodes → t < nodes → (Joined ends u t → ⊥) → with_node nodes ends u t ≡ false
with_not nodes ends ends_in u t u_in t_in none = false_from_ne_true _ (λ h. none (with_to nodes ends ends_in u t u_in t_in h))

pub cases_joined : (nodes : ℕ) (ends : List (ℕ × ℕ)) → EndsIn nodes ends → (u t : ℕ) → u < nodes → t < nodes → Joined ends u t ⊎ (Joined ends u t → ⊥)
cases_joined nodes ends ends_in u t u_in t_in = elim (cases_Bool (with_node nodes ends u t)) [
  | inl h ↦ inl (with_to nodes ends ends_in u t u_in t_in h)
  | inr h ↦ inr (λ there. both_ways _ h (with_from nodes ends ends_in u t there))
]
