-- Evidence that a web has no flat map: subdivisions of K5 and of K3,3 (Kuratowski 1930).
use Rattle.std.specs.Prelude.{◌≡◌, ℕ, ◌<◌, ◌==◌, true, List, [], ◌∷◌, ◌++◌, length, if◌then◌else◌, nat_eq, slice_index, All}
use Rattle.std.specs.List.{IsDistinct, concat}
use Rattle.xn_model.specs.Graph.{Graph, ends_at, touches}

-- the far end of a segment that touches u
abbrev pub far_end : ℕ × ℕ → ℕ → ℕ
far_end p u = if p.0 == u then p.1 else p.0

-- the walk from u along the segments ends at v
abbrev pub LeadsTo : List (ℕ × ℕ) → ℕ → List ℕ → ℕ → Type 0
LeadsTo ends u [] v = u ≡ v
LeadsTo ends u (s ∷ path) v =
    (s < length ends) × (touches (ends_at ends s) u ≡ true) × LeadsTo ends (far_end (ends_at ends s) u) path v

-- the nodes between the two ends of the walk
abbrev pub inner_nodes : List (ℕ × ℕ) → ℕ → List ℕ → List ℕ
inner_nodes ends u [] = []
inner_nodes ends u (s ∷ []) = []
inner_nodes ends u (s ∷ t ∷ path) = let w = far_end (ends_at ends s) u in w ∷ inner_nodes ends w (t ∷ path)

-- the path of each pair leads from the one branch node to the other
abbrev pub LeadAll : List (ℕ × ℕ) → List ℕ → List (ℕ × ℕ) → List (List ℕ) → Type 0
LeadAll ends branch [] [] = Unit {0}
LeadAll ends branch [] (l ∷ ls) = ⊥
LeadAll ends branch (p ∷ ps) [] = ⊥
LeadAll ends branch (p ∷ ps) (path ∷ paths) =
    LeadsTo ends (slice_index branch p.0) path (slice_index branch p.1) × LeadAll ends branch ps paths

-- the inner nodes of all paths
abbrev pub all_inner : List (ℕ × ℕ) → List ℕ → List (ℕ × ℕ) → List (List ℕ) → List ℕ
all_inner ends branch [] paths = []
all_inner ends branch (p ∷ ps) [] = []
all_inner ends branch (p ∷ ps) (path ∷ paths) = inner_nodes ends (slice_index branch p.0) path ++ all_inner ends branch ps paths

-- a path for each of these pairs of branch nodes; no segment is used twice, and no node is met twice
pub record IsPathSystem (web : Graph) (pairs : List (ℕ × ℕ)) (branch : List ℕ) (paths : List (List ℕ)) : Type 0 where
  pub below : All (λ v. v < web.nodes) branch
  pub lead : LeadAll web.ends branch pairs paths
  pub once : IsDistinct nat_eq (concat paths)
  pub no_node_twice : IsDistinct nat_eq (branch ++ all_inner web.ends branch pairs paths)

-- the pairs of five nodes
abbrev pub five_pairs : List (ℕ × ℕ)
five_pairs = (0, 1) ∷ (0, 2) ∷ (0, 3) ∷ (0, 4) ∷ (1, 2) ∷ (1, 3) ∷ (1, 4) ∷ (2, 3) ∷ (2, 4) ∷ (3, 4) ∷ []

-- the pairs of three nodes against three
abbrev pub three_pairs : List (ℕ × ℕ)
three_pairs = (0, 3) ∷ (0, 4) ∷ (0, 5) ∷ (1, 3) ∷ (1, 4) ∷ (1, 5) ∷ (2, 3) ∷ (2, 4) ∷ (2, 5) ∷ []

-- five branch nodes, each two joined by a path
abbrev pub IsFive : Graph → List ℕ → List (List ℕ) → Type 0
IsFive web branch paths = (length branch ≡ 5) × IsPathSystem web five_pairs branch paths

-- three branch nodes, each joined by a path to each of three others
abbrev pub IsThreeThree : Graph → List ℕ → List (List ℕ) → Type 0
IsThreeThree web branch paths = (length branch ≡ 6) × IsPathSystem web three_pairs branch paths
