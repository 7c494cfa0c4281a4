-- Where a list of successors is first no rotation.
use Rattle.std.specs.Prelude.{◌≡◌, ◌≢◌, ℕ, ◌*◌, ◌<◌, ◌≤◌, ◌⊎◌, ◌↔◌, Bool, true, List, Option, MatchOption, length}
use Rattle.xn_model.specs.First.{IsFirst}
use Rattle.xn_model.specs.Graph.{Graph}
use Rattle.xn_model.specs.Map.{IsMap, tail_of}
use Rattle.xn_model.specs.Permutation.{Reaches}
use Rattle.xn_map.specs.Marks.{is_marked}

-- next leads d out of range, to another node, or where it leads a smaller dart
abbrev pub LeadsWrong : List (ℕ × ℕ) → (ℕ → ℕ) → ℕ → Type 0
LeadsWrong ends next d =
    (2 * length ends ≤ next d) ⊎ ((tail_of ends (next d) ≢ tail_of ends d) ⊎ ((e : ℕ) × (e < d) × (next e ≡ next d)))

-- next leads no dart wrong
abbrev pub LeadsRight : List (ℕ × ℕ) → (ℕ → ℕ) → Type 0
LeadsRight ends next = (d : ℕ) → d < 2 * length ends → ¬ (LeadsWrong ends next d)

-- d isn't in the ring of the least dart at its node
abbrev pub IsAstray : List (ℕ × ℕ) → (ℕ → ℕ) → ℕ → Type 0
IsAstray ends next d = (c : ℕ) × IsFirst (λ e. tail_of ends e ≡ tail_of ends d) c × ¬ (Reaches next c d)

-- the darts at each node are in one ring
abbrev pub AreTogether : List (ℕ × ℕ) → (ℕ → ℕ) → Type 0
AreTogether ends next = (d : ℕ) → d < 2 * length ends → ¬ (IsAstray ends next d)

-- d is the first dart that next leads wrong; if it leads none wrong, the first that is apart
abbrev pub IsRotationFlaw : List (ℕ × ℕ) → (ℕ → ℕ) → ℕ → Type 0
IsRotationFlaw ends next d =
    (d < 2 * length ends) × (IsFirst (LeadsWrong ends next) d ⊎ (LeadsRight ends next × IsFirst (IsAstray ends next) d))

-- the dart that is the flaw, if there is one; else a map
abbrev pub IsFlawOrMap : Graph → (ℕ → ℕ) → Option ℕ → Type 0
IsFlawOrMap web next flaw = MatchOption flaw (IsMap web.nodes web.ends next) (IsRotationFlaw web.ends next)

-- exactly the darts to which next leads a dart below d are marked
abbrev pub MarksTargets : ℕ → (ℕ → ℕ) → ℕ → List Bool → Type 0
MarksTargets n next d marks =
    (x : ℕ) → x < n → (is_marked marks x ≡ true) ↔ ((e : ℕ) × (e < d) × (next e ≡ x))

-- exactly the nodes of the darts below d are marked
abbrev pub MarksTails : List (ℕ × ℕ) → ℕ → List Bool → Type 0
MarksTails ends d marks =
    (v : ℕ) → v < length marks → (is_marked marks v ≡ true) ↔ ((e : ℕ) × (e < d) × (tail_of ends e ≡ v))

-- where there is a flaw there is no map
abbrev pub FlawsAreNoMaps : Type 0
FlawsAreNoMaps = (nodes : ℕ) (ends : List (ℕ × ℕ)) (next : ℕ → ℕ) (d : ℕ) → IsRotationFlaw ends next d → ¬ (IsMap nodes ends next)
