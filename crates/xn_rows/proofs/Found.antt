-- Edges of which none is wrong rise in range.
use Rattle.std.proofs.Common.{◌≡◌, ℕ, ◌+◌, ◌-◌, ◌<◌, ◌≤◌, inl, inr, List, length, get_or, subst, arith}
use Rattle.std.proofs.lemmas.Bool.{cases_lt}
use Rattle.std.proofs.lemmas.List.{get_or_default}
use Rattle.xn_model.specs.Lists.{at}
use Rattle.xn_model.specs.Orders.{IsEdgeList}
use Rattle.xn_orders.specs.Entries.{NoneOf}
use Rattle.xn_rows.specs.Holding.{IsWrongEdge}

pub edge_list : (count : ℕ) (edges : List ℕ) → NoneOf edges (IsWrongEdge count edges) → IsEdgeList count edges
edge_list count edges none = record { rise = rise; below = below }
  where
    rise : (k : ℕ) → k + 1 < length edges → at edges k < at edges (k + 1)
    rise k low = elim (cases_lt (at edges k) (at edges (k + 1))) [
      | inl above ↦ above
      | inr falls ↦
          let before : k ≡ (k + 1) - 1 = omega arith in
          absurd (none (k + 1) low (inr (omega arith, subst (λ j. at edges (k + 1) ≤ at edges j) before falls)))
    ]

    below : (k d : ℕ) → k < length edges → get_or edges k d < count
    below k d low =
        let same : get_or edges k d ≡ at edges k = get_or_default edges k d 0 low in
        elim (cases_lt (at edges k) count) [
          | inl is ↦ omega (arith, same, is)
          | inr high ↦ absurd (none k low (inl high))
        ]
