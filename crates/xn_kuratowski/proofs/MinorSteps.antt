-- What is proved of minors on the way: those of what is left or comes are minors of the web, and a minor gives an evidence.
use Rattle.std.specs.Prelude.{◌≡◌, ◌≢◌, ℕ, suc, ◌<◌, ◌≤◌, true, List, [], ◌∷◌, ◌++◌, map}
use Rattle.xn_model.specs.Graph.{EndsIn, Graph, HasNoLoop}
use Rattle.xn_model.specs.Map.{Joined, is_lone}
use Rattle.xn_fewer.specs.Flat.{IsSelection, both, merged}
use Rattle.xn_kuratowski.specs.Flat.{ShareOnlyTwo}
use Rattle.xn_kuratowski.specs.Minor.{HasMinor}
use Rattle.xn_kuratowski.specs.Theorem.{HasEvidence}

-- of some segments, in any order, each perhaps turned
abbrev pub MinorsOfSomeSegments : Type 0
MinorsOfSomeSegments = (ends part : List (ℕ × ℕ)) (σ : ℕ → ℕ) → IsSelection ends part σ → HasMinor part → HasMinor ends

-- of a web with a segment contracted: its second end comes into the class of its first
abbrev pub MinorsOfAContraction : Type 0
MinorsOfAContraction = (x y : ℕ) (ends : List (ℕ × ℕ)) → x ≢ y → HasMinor (merged x y ends) → HasMinor (ends ++ (x, y) ∷ [])

-- of a web in which the nodes have other names
abbrev pub MinorsUnderOtherNames : Type 0
MinorsUnderOtherNames =
    (ends : List (ℕ × ℕ)) (m : ℕ → ℕ) → ((u v : ℕ) → m u ≡ m v → u ≡ v) → HasMinor (map (both m) ends) → HasMinor ends

-- of a web without the lone node v, whose number the last node has
abbrev pub MinorsWithoutANode : Type 0
MinorsWithoutANode =
    (rest v : ℕ) (ends : List (ℕ × ℕ)) → v ≤ rest → is_lone ends v ≡ true → EndsIn (suc rest) ends → HasMinor (merged v rest ends) → HasMinor ends

-- of the first web with a segment more, whose ends the second web joins
abbrev pub MinorsWithAVirtualSegment : Type 0
MinorsWithAVirtualSegment =
    (nodes u v : ℕ) (first second : List (ℕ × ℕ)) → EndsIn nodes first → EndsIn nodes second → u < nodes → v < nodes → u ≢ v →
    ShareOnlyTwo first second u v → Joined second u v → HasMinor (first ++ (u, v) ∷ []) → HasMinor (first ++ second)

-- a minor gives an evidence
abbrev pub MinorsGiveEvidence : Type 0
MinorsGiveEvidence = (web : Graph) → EndsIn web.nodes web.ends → HasNoLoop web.ends → HasMinor web.ends → HasEvidence web
