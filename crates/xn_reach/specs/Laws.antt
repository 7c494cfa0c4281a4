-- Flat insertions in the order of a list, and the web of its segments.
use Rattle.std.specs.Prelude.{◌↔◌, ℕ, List}
use Rattle.xn_model.specs.Graph.{EndsIn, Graph, HasNoLoop}
use Rattle.xn_model.specs.Insertion.{GrowsFromFirst, IsStuck, ReachesEnd}
use Rattle.xn_genus.specs.Part.{ends_listed}
use Rattle.xn_fewer.specs.Flat.{HasFlat}

-- each prefix of the list is connected, so they reach the end exactly where the web of the listed segments has a flat map
abbrev pub FlatWhereEndIsReached : Type 0
FlatWhereEndIsReached =
    (web : Graph) (list : List ℕ) → EndsIn web.nodes web.ends → HasNoLoop web.ends → GrowsFromFirst web.ends list →
    ((last : ℕ → ℕ) × ReachesEnd web.ends list last) ↔ HasFlat web.nodes (ends_listed web.ends list)

-- and the list is stuck exactly where it has none
abbrev pub StuckWhereNotFlat : Type 0
StuckWhereNotFlat =
    (web : Graph) (list : List ℕ) → EndsIn web.nodes web.ends → HasNoLoop web.ends → GrowsFromFirst web.ends list →
    IsStuck web list ↔ (¬ HasFlat web.nodes (ends_listed web.ends list))
