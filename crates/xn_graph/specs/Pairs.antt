-- The independent pairs, edge by edge.
use Rattle.std.specs.Prelude.{ℕ, ◌+◌, ◌-◌, List, length, map, filter}
use Rattle.std.specs.List.{range_with_len}
use Rattle.xn_model.specs.Graph.{Graph, independent}

-- the later edges that are independent of e
abbrev pub partners_of : Graph → ℕ → List ℕ
partners_of g e = filter (independent g.ends e) (range_with_len (e + 1) (length g.ends - (e + 1)))

-- the pairs of e with later edges
abbrev pub pairs_from : Graph → ℕ → List (ℕ × ℕ)
pairs_from g e = map (λ f. (e, f)) (partners_of g e)
