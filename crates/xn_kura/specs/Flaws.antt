-- What is wrong with an evidence, and what of it comes first.
use Rattle.std.specs.Prelude.{◌≡◌, ◌≢◌, ℕ, ◌<◌, ◌++◌, ◌∷◌, ◌||◌, Bool, true, false, not, List, [], length, nat_eq, nat_lt, slice_index, slice_index_or, take, All}
use Rattle.std.specs.List.{IsDistinct, concat}
use Rattle.xn_model.specs.Evidence.{LeadAll, LeadsTo, all_inner, five_pairs, three_pairs}
use Rattle.xn_model.specs.Graph.{Graph, ends_at}
use Rattle.xn_model.specs.Lists.{has}
use Rattle.xn_kinds.specs.declared.flaws.EvidenceFlaw.{EvidenceFlaw}
use Rattle.xn_kinds.specs.declared.flaws.EvidenceFlaw.TheVariants.{Branch, Broken, Ends, Twice, Inner}
use Rattle.xn_kinds.specs.declared.flaws.EvidenceFlaw.TheVariants.{List as ListFlaw}
use Rattle.xn_kinds.specs.declared.rows.Evidence.{Evidence}
use Rattle.xn_kinds.specs.declared.rows.Evidence.TheVariants.{Five, ThreeThree, Extension}

-- a Five with ten paths or a ThreeThree with nine
abbrev pub HasAKind : Evidence → Type 0
HasAKind (Five branch paths) = (length branch ≡ 5) × (length paths ≡ 10)
HasAKind (ThreeThree branch paths) = (length branch ≡ 6) × (length paths ≡ 9)
HasAKind (Extension list) = ⊥

-- ---- branch nodes

-- the branch node at place i is no node of the web, or stands at an earlier place too
abbrev pub wrong_branch : ℕ → List ℕ → ℕ → Bool
wrong_branch nodes branch i = let v = slice_index branch i in not (nat_lt v nodes) || has (take i branch) v

-- no branch node is wrong
abbrev pub AreBranches : ℕ → List ℕ → Type 0
AreBranches nodes branch = (i : ℕ) → i < length branch → wrong_branch nodes branch i ≡ false

-- i is the first place whose branch node is wrong
abbrev pub IsFirstWrong : ℕ → List ℕ → ℕ → Type 0
IsFirstWrong nodes branch i =
    (i < length branch) × (wrong_branch nodes branch i ≡ true) × ((j : ℕ) → j < i → wrong_branch nodes branch j ≡ false)

-- ---- paths

-- the pairs name branch nodes by their places
abbrev pub PairsWithin : ℕ → List (ℕ × ℕ) → Type 0
PairsWithin count pairs = All (λ p. (p.0 < count) × (p.1 < count)) pairs

-- the path at place q
abbrev pub path_at : List (List ℕ) → ℕ → List ℕ
path_at paths q = slice_index_or paths q []

-- the branch node that the path at place q begins at, and the one that it has to end at
abbrev pub begins_at : List (ℕ × ℕ) → List ℕ → ℕ → ℕ
begins_at pairs branch q = slice_index branch (ends_at pairs q).0

abbrev pub goes_to : List (ℕ × ℕ) → List ℕ → ℕ → ℕ
goes_to pairs branch q = slice_index branch (ends_at pairs q).1

-- an entry of the path is no segment, or doesn't touch the node that the walk has come to
abbrev pub IsBroken : List (ℕ × ℕ) → ℕ → List ℕ → Type 0
IsBroken ends u path = (v : ℕ) → ¬ LeadsTo ends u path v

-- the walk ends at another node than v
abbrev pub EndsElsewhere : List (ℕ × ℕ) → ℕ → List ℕ → ℕ → Type 0
EndsElsewhere ends u path v = (w : ℕ) × LeadsTo ends u path w × (w ≢ v)

-- each path before place q leads to its branch node
abbrev pub LeadBefore : List (ℕ × ℕ) → List (ℕ × ℕ) → List ℕ → List (List ℕ) → ℕ → Type 0
LeadBefore ends pairs branch paths q =
    (i : ℕ) → i < q → LeadsTo ends (begins_at pairs branch i) (path_at paths i) (goes_to pairs branch i)

-- ---- repeats

-- x is the first in the list that stood there before
abbrev pub IsFirstRepeat : List ℕ → ℕ → Type 0
IsFirstRepeat xs x =
    (before : List ℕ) × (after : List ℕ) × (xs ≡ before ++ x ∷ after) × IsDistinct nat_eq before × (has before x ≡ true)

-- ---- the first flaw

-- the first flaw, case by case: what is tested before it has none
abbrev pub IsFirstEvidenceFlaw : Graph → List (ℕ × ℕ) → List ℕ → List (List ℕ) → EvidenceFlaw → Type 0
IsFirstEvidenceFlaw web pairs branch paths (Branch i) = IsFirstWrong web.nodes branch i
IsFirstEvidenceFlaw web pairs branch paths (Broken q) =
    AreBranches web.nodes branch × (q < length pairs) × LeadBefore web.ends pairs branch paths q
    × IsBroken web.ends (begins_at pairs branch q) (path_at paths q)
IsFirstEvidenceFlaw web pairs branch paths (Ends q) =
    AreBranches web.nodes branch × (q < length pairs) × LeadBefore web.ends pairs branch paths q
    × EndsElsewhere web.ends (begins_at pairs branch q) (path_at paths q) (goes_to pairs branch q)
IsFirstEvidenceFlaw web pairs branch paths (Twice s) =
    AreBranches web.nodes branch × LeadAll web.ends branch pairs paths × IsFirstRepeat (concat paths) s
IsFirstEvidenceFlaw web pairs branch paths (Inner v) =
    AreBranches web.nodes branch × LeadAll web.ends branch pairs paths × IsDistinct nat_eq (concat paths)
    × IsFirstRepeat (branch ++ all_inner web.ends branch pairs paths) v
IsFirstEvidenceFlaw web pairs branch paths (ListFlaw i) = ⊥

-- the first flaw of an evidence of either kind
abbrev pub IsFirstFlawOf : Graph → Evidence → EvidenceFlaw → Type 0
IsFirstFlawOf web (Five branch paths) flaw = IsFirstEvidenceFlaw web five_pairs branch paths flaw
IsFirstFlawOf web (ThreeThree branch paths) flaw = IsFirstEvidenceFlaw web three_pairs branch paths flaw
IsFirstFlawOf web (Extension list) flaw = ⊥
