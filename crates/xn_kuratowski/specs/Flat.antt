-- Webs with a segment contracted, and unions of webs, that have a flat map.
use Rattle.std.specs.Prelude.{◌≡◌, ◌≢◌, ℕ, ◌⊎◌, true, List, [], ◌∷◌, ◌++◌}
use Rattle.xn_model.specs.Map.{is_lone}
use Rattle.xn_fewer.specs.Flat.{HasFlat, merged}

-- a segment between different nodes is contracted: the second is left without darts
abbrev pub ContractionStaysFlat : Type 0
ContractionStaysFlat =
    (nodes x y : ℕ) (ends : List (ℕ × ℕ)) → x ≢ y → HasFlat nodes (ends ++ (x, y) ∷ []) → HasFlat nodes (merged x y ends)

-- no node but u and v has darts of both webs
abbrev pub ShareOnlyTwo : List (ℕ × ℕ) → List (ℕ × ℕ) → ℕ → ℕ → Type 0
ShareOnlyTwo first second u v = (w : ℕ) → w ≢ u → w ≢ v → (is_lone first w ≡ true) ⊎ (is_lone second w ≡ true)

-- two webs that share one node at most
abbrev pub UnionAtANodeStaysFlat : Type 0
UnionAtANodeStaysFlat =
    (nodes u : ℕ) (first second : List (ℕ × ℕ)) → ShareOnlyTwo first second u u →
    HasFlat nodes first → HasFlat nodes second → HasFlat nodes (first ++ second)

-- two webs that share two nodes, and a segment between these in both
abbrev pub UnionAtASegmentStaysFlat : Type 0
UnionAtASegmentStaysFlat =
    (nodes u v : ℕ) (first second : List (ℕ × ℕ)) → u ≢ v → ShareOnlyTwo first second u v →
    HasFlat nodes (first ++ (u, v) ∷ []) → HasFlat nodes (second ++ (u, v) ∷ []) → HasFlat nodes (first ++ second)
