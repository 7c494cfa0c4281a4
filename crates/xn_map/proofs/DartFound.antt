-- Nodes without darts, by whether a dart is found.
use Rattle.std.proofs.Common.{◌≡◌, ℕ, Bool, inl, inr, List, not, sym, ◌∙◌}
use Rattle.std.specs.Prelude.{Option, None, Some, IfNone, IfSome, is_some}
use Rattle.std.proofs.lemmas.Bool.{cases_Bool, not-false, not-true}
use Rattle.xn_model.specs.Map.{is_lone}
use Rattle.xn_genus.proofs.Lone.{dart_if_not_lone, no_dart_if_lone}
use Rattle.xn_map.specs.Anchored.{HasNoDart, IsDartOf}

pub is_none-lone : (ends : List (ℕ × ℕ)) (v : ℕ) (found : Option ℕ) (none : Bool) → is_some found ≡ not none → IfSome found (IsDartOf ends v) → IfNone found (HasNoDart ends v) → none ≡ is_lone ends v
is_none-lone ends v None none is dart no_dart = elim (cases_Bool (is_lone ends v)) [
  | inl lone ↦ not-false none (sym is) ∙ sym lone
  | inr other ↦ let there = dart_if_not_lone ends v other in absurd (no_dart there.0 there.1 there.2)
]
is_none-lone ends v (Some d) none is dart no_dart = elim (cases_Bool (is_lone ends v)) [
  | inl lone ↦ absurd (no_dart_if_lone ends v lone d dart.0 dart.1)
  | inr other ↦ not-true none (sym is) ∙ sym other
]
