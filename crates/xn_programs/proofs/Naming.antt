-- A variable more in a point whose variables are named in rising order.
use Rattle.std.proofs.Common.{◌≡◌, ◌∙◌, ℕ, ◌<◌, ◌≤◌, ◌&&◌, eqb, Bool, true, false, inl, inr, List, [], ◌∷◌, ◌++◌, map, refl, sym, ap, subst, arith}
use Rattle.std.specs.Prelude.{All}
use Rattle.std.specs.List.{AllByRecursion, IsDistinct}
use Rattle.std.proofs.lemmas.Bool.{cases_eq, ne_eqb}
use Rattle.std.proofs.lemmas.List.{map-append}
use Rattle.std.proofs.lemmas.List.Elements.{All-push}
use Rattle.xn_model.specs.Graph.{Graph}
use Rattle.xn_kinds.specs.declared.trees.Var.{Var}
use Rattle.xn_kinds.specs.declared.trees.Var.TheVariants.{Cross, Before}
use Rattle.xn_frac.specs.Ratio.{Ratio}
use Rattle.xn_cutter.specs.Point.{IsPoint, IsVar, is_same_var}
use Rattle.xn_programs.specs.Named.{Named, place_in}

and_none : (b : Bool) → (b && false) ≡ false
and_none true = refl
and_none false = refl

-- variables with different places are different
other_place : (x y : Var) → place_in x < place_in y → is_same_var x y ≡ false
other_place (Cross a b) (Cross c d) less = elim (cases_eq a c) [
  | inl here ↦ elim (cases_eq b d) [
    | inl there ↦ absurd (omega (arith, less, here, there))
    | inr differ ↦ ap (λ t. eqb a c && t) (ne_eqb b d differ) ∙ and_none (eqb a c)
  ]
  | inr differ ↦ ap (λ t. t && eqb b d) (ne_eqb a c differ)
]
other_place (Cross a b) (Before d e f) less = refl
other_place (Before a b c) (Cross d e) less = refl
other_place (Before a b c) (Before d e f) less = elim (cases_eq a d) [
  | inl one ↦ elim (cases_eq b e) [
    | inl two ↦ elim (cases_eq c f) [
      | inl three ↦ absurd (omega (arith, less, one, two, three))
      | inr differ ↦ ap (λ t. eqb a d && eqb b e && t) (ne_eqb c f differ) ∙ and_none (eqb a d && eqb b e)
    ]
    | inr differ ↦ ap (λ t. eqb a d && t && eqb c f) (ne_eqb b e differ) ∙ ap (λ t. t && eqb c f) (and_none (eqb a d))
  ]
  | inr differ ↦ ap (λ t. t && eqb b e && eqb c f) (ne_eqb a d differ)
]

recursion_push : {X : Type 0} (P : X → Type 0) (xs : List X) (x : X) → AllByRecursion P xs → P x → AllByRecursion P (xs ++ x ∷ [])
recursion_push P [] x all holds = (holds, tt)
recursion_push P (y ∷ ys) x all holds = (all.0, recursion_push P ys x all.1 holds)

-- ---- a variable more, with a place from n on

below_push : (n m : ℕ) (vs : List Var) (v : Var) → n ≤ place_in v → place_in v < m → AllByRecursion (λ x. place_in x < n) vs →
    AllByRecursion (λ x. place_in x < m) (vs ++ v ∷ [])
below_push n m [] v low less below = (less, tt)
below_push n m (x ∷ vs) v low less below = (omega (arith, low, less, below.0), below_push n m vs v low less below.1)

once_push : (n : ℕ) (vs : List Var) (v : Var) → n ≤ place_in v → AllByRecursion (λ x. place_in x < n) vs → IsDistinct is_same_var vs →
    IsDistinct is_same_var (vs ++ v ∷ [])
unfolding IsDistinct
once_push n [] v low below once = (tt, tt)
once_push n (x ∷ vs) v low below once =
    (recursion_push (λ y. is_same_var x y ≡ false) vs v once.0 (other_place x v (omega (arith, low, below.0))), once_push n vs v low below.1 once.1)

pub named_none : (g : Graph) (n : ℕ) → Named g [] n
unfolding IsDistinct
named_none g n = record { of_graph = λ k d small. absurd (omega (arith, small)); below = tt; once = tt }

pub named_push : (g : Graph) (point longer : List (Var × Ratio)) (n m : ℕ) (v : Var) (q : Ratio) → longer ≡ point ++ (v, q) ∷ [] → IsVar g v →
    n ≤ place_in v → place_in v < m → Named g point n → Named g longer m
named_push g point longer n m v q is var low less named =
    let names : List (Var × Ratio) → List Var = map (λ p. p.0) in
    let more : names longer ≡ names point ++ v ∷ [] = ap names is ∙ map-append (λ p. p.0) point ((v, q) ∷ []) in
    record {
      of_graph = subst (All (λ p. IsVar g p.0)) (sym is) (All-push (λ p. IsVar g p.0) point (v, q) named.of_graph var);
      below = subst (AllByRecursion (λ x. place_in x < m)) (sym more) (below_push n m (names point) v low less named.below);
      once = subst (IsDistinct is_same_var) (sym more) (once_push n (names point) v low named.below named.once);
    }

pub is_point : (g : Graph) (point : List (Var × Ratio)) (n : ℕ) → Named g point n → IsPoint g point
is_point g point n named = record { of_graph = named.of_graph; once = named.once }
