-- K5 and K3,3: no flat map, and no simple drawing without crossings.
use Rattle.std.proofs.Common.{ℕ, ◌<◌, ◌⊎◌, ◌∙◌, inl, inr, List, [], ◌∷◌, refl, arith, rules}
use Rattle.std.specs.Cmp.{nat_eq_equiv}
use Rattle.std.proofs.lemmas.Bool.{cases_eq}
use Rattle.std.proofs.lemmas.List.Elements.{All-from_recursion}
use Rattle.std.proofs.lemmas.Map.Made.{IsDistinct-from_count}
use Rattle.xn_model.specs.Drawing.{IsSimplyAtLeast}
use Rattle.xn_model.specs.Evidence.{IsFive, IsThreeThree}
use Rattle.xn_model.specs.Examples.{k33, k5}
use Rattle.xn_model.specs.Graph.{Graph}
use Rattle.xn_model.specs.Map.{IsFlat}
use Rattle.xn_kura.proofs.CrossingFree.{flat_where_none_cross}
use Rattle.xn_kura.proofs.Excludes.{no_flat_five, no_flat_three_three}
use Rattle.xn_kura.specs.Laws.{KuratowskiGraphs}

least_one : (g : Graph) → ((next : ℕ → ℕ) → ¬ IsFlat g next) → IsSimplyAtLeast g 1
least_one g never c drawing = elim (cases_eq c 0) [
  | inl none ↦ absurd (never drawing.1 (flat_where_none_cross g drawing.0 drawing.1 drawing.2 (drawing.3 ∙ none)))
  | inr some ↦ omega (arith, some)
]

pub least_by_evidence : (g : Graph) (branch : List ℕ) (paths : List (List ℕ)) → IsFive g branch paths ⊎ IsThreeThree g branch paths → IsSimplyAtLeast g 1
least_by_evidence g branch paths (inl is) = least_one g (no_flat_five g branch paths is)
least_by_evidence g branch paths (inr is) = least_one g (no_flat_three_three g branch paths is)

k5_is_five : IsFive k5 (0 ∷ 1 ∷ 2 ∷ 3 ∷ 4 ∷ []) ((0 ∷ []) ∷ (1 ∷ []) ∷ (2 ∷ []) ∷ (3 ∷ []) ∷ (4 ∷ []) ∷ (5 ∷ []) ∷ (6 ∷ []) ∷ (7 ∷ []) ∷ (8 ∷ []) ∷ (9 ∷ []) ∷ [])
k5_is_five = (
  refl,
  record {
    below = All-from_recursion (λ v. v < 5) (0 ∷ 1 ∷ 2 ∷ 3 ∷ 4 ∷ []) (omega arith, (omega arith, (omega arith, (omega arith, (omega arith, tt)))));
    lead = search (rules, arith);
    once = IsDistinct-from_count nat_eq_equiv _ refl;
    no_node_twice = IsDistinct-from_count nat_eq_equiv _ refl;
  },
)

k33_is_three_three : IsThreeThree k33 (0 ∷ 1 ∷ 2 ∷ 3 ∷ 4 ∷ 5 ∷ []) ((0 ∷ []) ∷ (1 ∷ []) ∷ (2 ∷ []) ∷ (3 ∷ []) ∷ (4 ∷ []) ∷ (5 ∷ []) ∷ (6 ∷ []) ∷ (7 ∷ []) ∷ (8 ∷ []) ∷ [])
k33_is_three_three = (
  refl,
  record {
    below = All-from_recursion (λ v. v < 6) (0 ∷ 1 ∷ 2 ∷ 3 ∷ 4 ∷ 5 ∷ []) (omega arith, (omega arith, (omega arith, (omega arith, (omega arith, (omega arith, tt))))));
    lead = search (rules, arith);
    once = IsDistinct-from_count nat_eq_equiv _ refl;
    no_node_twice = IsDistinct-from_count nat_eq_equiv _ refl;
  },
)

pub of_kuratowski : KuratowskiGraphs
of_kuratowski = record {
  k5_not_flat = no_flat_five k5 _ _ k5_is_five;
  k33_not_flat = no_flat_three_three k33 _ _ k33_is_three_three;
  k5_crosses = least_by_evidence k5 _ _ (inl k5_is_five);
  k33_crosses = least_by_evidence k33 _ _ (inr k33_is_three_three);
}
