-- The walks of edges in their planarised graph, as lists.
use Rattle.std.specs.Prelude.{◌≡◌, ℕ, suc, List, [], length, if◌then◌else◌, take}
use Rattle.xn_model.specs.Graph.{Graph}
use Rattle.xn_model.specs.Lists.{has, total}
use Rattle.xn_general.specs.Webs.{walk_in_web}
use Rattle.xn_insert.specs.ListedLoose.{walk_of}

-- the number of segments of the listed edges
abbrev pub segments_along : (ℕ → List ℕ) → List ℕ → ℕ
segments_along ord edges = total (λ e. suc (length (ord e))) edges

-- the walk of a listed edge, and none of another
abbrev pub walk_listed : List ℕ → (ℕ → List ℕ) → List ℕ → ℕ → List ℕ
walk_listed edges ord listed e = if has listed e then walk_in_web edges ord e else []

-- for each edge of g its walk in the planarised graph of the kept ones
pub record AreWalksInWeb (g : Graph) (kept : List ℕ) (ord : ℕ → List ℕ) (walks : List (List ℕ)) : Type 0 where
  pub size : length walks ≡ length g.ends
  pub each : (e : ℕ) → walk_of walks e ≡ walk_listed kept ord kept e

-- the same of the first kept edges, and the next segment is the one after theirs
pub record AreWalksUpTo (g : Graph) (kept : List ℕ) (ord : ℕ → List ℕ) (i first : ℕ) (walks : List (List ℕ)) : Type 0 where
  pub size : length walks ≡ length g.ends
  pub next : first ≡ segments_along ord (take i kept)
  pub each : (e : ℕ) → walk_of walks e ≡ walk_listed kept ord (take i kept) e
