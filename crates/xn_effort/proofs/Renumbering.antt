-- Trees whose rows have other numbers.
use Rattle.std.proofs.Common.{◌≡◌, ℕ, ◌<◌, ◌≤◌, List, [], ◌∷◌, ◌++◌, length, map, refl, sym, ◌∙◌, ap, subst}
use Rattle.std.specs.Prelude.{pos, ◌-ℤ◌, ◌*ℤ◌, ◌^◌, All, IsPermutation}
use Rattle.std.specs.List.Sorted.{IsStrictlyIncreasing}
use Rattle.std.proofs.lemmas.List.Elements.{All-map}
use Rattle.std.proofs.lemmas.List.Sorted.{All-permutation}
use Rattle.xn_model.specs.Graph.{Graph}
use Rattle.xn_kinds.specs.Bound.{PartsFit, part_value, total_ℤ}
use Rattle.xn_kinds.specs.Row.{Values, value_of}
use Rattle.xn_kinds.specs.State.{State}
use Rattle.xn_kinds.specs.Tree.{AreTrees, MayOpen, children}
use Rattle.xn_kinds.specs.declared.rows.Row.{Row}
use Rattle.xn_kinds.specs.declared.trees.Node.{Node}
use Rattle.xn_kinds.specs.declared.trees.Node.TheVariants.{Pair, Place, Leaf}
use Rattle.xn_effort.specs.Renumbered.{HaveOtherNumbers, IsNamed, HasOtherNumbers, RenumberedTreesProve}
use Rattle.xn_effort.proofs.Bounds.{strong_alike, total_ℤ-map, total_ℤ-permutation, total_ℤ-same}

module _ (g : Graph) (k : ℕ) (rows others : List Row) (name : ℕ → ℕ) where
  renamed : ℕ × ℕ → ℕ × ℕ
  renamed p = (name p.0, p.1)

  module _ (parts sorted : List (ℕ × ℕ)) (named : All (IsNamed rows others name) parts) (moved : IsPermutation (map (λ p. (name p.0, p.1)) parts) sorted) where
    same_sum : (v : Values) → total_ℤ (part_value g rows v) parts ≡ total_ℤ (part_value g others v) sorted
    same_sum v =
        total_ℤ-same (part_value g rows v) (λ p. part_value g others v (name p.0, p.1)) (IsNamed rows others name)
        (λ p is. ap (λ (row : Row). pos p.1 *ℤ (pos (value_of g row v) -ℤ pos 1)) (sym is.1)) parts named
        ∙ sym (total_ℤ-map (part_value g others v) (λ (p : ℕ × ℕ). (name p.0, p.1)) parts)
        ∙ sym (total_ℤ-permutation (part_value g others v) (map (λ p. (name p.0, p.1)) parts) sorted moved)

    fits : IsStrictlyIncreasing (map (λ p. p.0) sorted) → PartsFit (length rows) parts → PartsFit (length others) sorted
    fits rise fit = record {
      rise = rise;
      below = All-permutation (λ p. p.0 < length others) _ sorted moved (All-map (λ p. p.0 < length others) (λ (p : ℕ × ℕ). (name p.0, p.1)) parts (λ i p small. (named i p small).0));
      multipliers = All-permutation (λ p. (1 ≤ p.1) × (p.1 < 2 ^ 63)) _ sorted moved
          (All-map (λ p. (1 ≤ p.1) × (p.1 < 2 ^ 63)) (λ (p : ℕ × ℕ). (name p.0, p.1)) parts fit.multipliers);
    }

  -- the node keeps its rule with other numbers, and has the same children
  Same : State → Node → Node → Type 0
  Same s node x = MayOpen g k others s x × (children s x ≡ children s node)

  node_same : (s : State) (node x : Node) → HasOtherNumbers rows others name node x → MayOpen g k rows s node → Same s node x
  unfolding Same
  node_same s (Pair e f) x is keeps = subst (Same s (Pair e f)) (sym is) (keeps, refl)
  node_same s (Place e f) x is keeps = subst (Same s (Place e f)) (sym is) (keeps, refl)
  node_same s (Leaf d parts) x is keeps =
      subst (Same s (Leaf d parts)) (sym is.1)
      ((keeps.0, keeps.1, fits parts is.0 is.2 is.3 is.4 keeps.2, strong_alike g rows others s d parts is.0 (same_sum parts is.0 is.2 is.3) k keeps.3), refl)

  finish_same : (nodes xs : List Node) (pending : List State) → HaveOtherNumbers rows others name nodes xs →
      AreTrees (MayOpen g k rows) children pending nodes → AreTrees (MayOpen g k others) children pending xs
  unfolding Same
  finish_same [] [] [] are ends = tt
  finish_same [] [] (s ∷ pending) are ends = absurd ends
  finish_same [] (x ∷ xs) pending are ends = absurd are
  finish_same (node ∷ nodes) [] pending are ends = absurd are
  finish_same (node ∷ nodes) (x ∷ xs) [] are ends = absurd ends
  finish_same (node ∷ nodes) (x ∷ xs) (s ∷ pending) are ends =
      let same = node_same s node x are.0 ends.0 in
      let rest = finish_same nodes xs (children s node ++ pending) are.1 ends.1 in
      (same.0, subst (λ (cs : List State). AreTrees (MayOpen g k others) children (cs ++ pending) xs) (sym same.1) rest)

pub renumbered_trees_prove : RenumberedTreesProve
renumbered_trees_prove g k rows others name s nodes xs are proves = finish_same g k rows others name nodes xs (s ∷ []) are proves
