-- Webs that come of smaller ones: a flat map or a minor of those gives one of these.
use Rattle.std.specs.Prelude.{◌≡◌, ◌≢◌, ℕ, ◌+◌, ◌<◌, ◌⊎◌, Bool, true, false, not, List, [], ◌∷◌, length, filter}
use Rattle.std.specs.List.{list_any}
use Rattle.xn_model.specs.Graph.{EndsIn, HasNoLoop, ends_at, touches}
use Rattle.xn_model.specs.Lists.{has}
use Rattle.xn_model.specs.Map.{Joined, is_lone}
use Rattle.xn_fewer.specs.Flat.{HasFlat}
use Rattle.xn_kuratowski.specs.Minor.{HasMinor}

-- the segment touches none of the nodes
abbrev pub is_clear : List ℕ → ℕ × ℕ → Bool
is_clear avoid p = not (list_any (λ v. touches p v) avoid)

-- the segments that touch none of the nodes
abbrev pub away : List ℕ → List (ℕ × ℕ) → List (ℕ × ℕ)
away avoid ends = filter (is_clear avoid) ends

-- different segments have different pairs of ends, in either order
abbrev pub HasNoParallels : List (ℕ × ℕ) → Type 0
HasNoParallels ends =
    (s t : ℕ) → s < length ends → t < length ends →
    touches (ends_at ends s) (ends_at ends t).0 ≡ true → touches (ends_at ends s) (ends_at ends t).1 ≡ true → s ≡ t

-- a flat map, or a minor
abbrev pub IsFlatOrHasMinor : ℕ → List (ℕ × ℕ) → Type 0
IsFlatOrHasMinor nodes ends = HasFlat nodes ends ⊎ HasMinor ends

-- all webs with fewer nodes and segments together
abbrev pub HoldsBelow : ℕ → Type 0
HoldsBelow size = (nodes : ℕ) (ends : List (ℕ × ℕ)) → EndsIn nodes ends → HasNoLoop ends → nodes + length ends < size → IsFlatOrHasMinor nodes ends

-- a web with a lone node
abbrev pub LoneNodesGo : Type 0
LoneNodesGo =
    (nodes v : ℕ) (ends : List (ℕ × ℕ)) → EndsIn nodes ends → HasNoLoop ends → HoldsBelow (nodes + length ends) → v < nodes → is_lone ends v ≡ true →
    IsFlatOrHasMinor nodes ends

-- a web with two segments between two nodes
abbrev pub ParallelsGo : Type 0
ParallelsGo =
    (nodes s t : ℕ) (ends : List (ℕ × ℕ)) → EndsIn nodes ends → HasNoLoop ends → HoldsBelow (nodes + length ends) →
    s < length ends → t < length ends → s ≢ t →
    touches (ends_at ends s) (ends_at ends t).0 ≡ true → touches (ends_at ends s) (ends_at ends t).1 ≡ true → IsFlatOrHasMinor nodes ends

-- a web that falls apart without two nodes, or one
abbrev pub CutWebsGo : Type 0
CutWebsGo =
    (nodes a b u v : ℕ) (ends : List (ℕ × ℕ)) → EndsIn nodes ends → HasNoLoop ends → HoldsBelow (nodes + length ends) →
    ((w : ℕ) → w < nodes → is_lone ends w ≡ false) → HasNoParallels ends → a < nodes → b < nodes → u < nodes → v < nodes →
    has (a ∷ b ∷ []) u ≡ false → has (a ∷ b ∷ []) v ≡ false → ¬ Joined (away (a ∷ b ∷ []) ends) u v → IsFlatOrHasMinor nodes ends
