-- A walk through proof trees in preorder: the choices on the path to its state, and the states that are still to come.
use Rattle.std.specs.Prelude.{◌≡◌, ◌+◌, ◌-◌, ◌≤◌, Bool, true, false, List, [], ◌∷◌, ◌++◌, MatchBool, MatchResult, None, Option, Result, Some, length, map, if◌then◌else◌}
use Rattle.std.specs.List.{range_with_len}
use Rattle.xn_model.specs.Graph.{Graph}
use Rattle.xn_kinds.specs.State.{State, decide, empty_state, place}
use Rattle.xn_kinds.specs.Tree.{Fits, children}
use Rattle.xn_kinds.specs.declared.trees.Node.{Node}
use Rattle.xn_kinds.specs.declared.trees.Node.TheVariants.{Pair, Place}
use Rattle.xn_tree.specs.Given.{Situation, state_of}
use Rattle.xn_tree.specs.declared.walks.Choice.{Choice}
use Rattle.xn_tree.specs.declared.walks.Choice.TheVariants.{Decided, Placed}

-- ---- choices

-- the state that a choice makes of the one before it
abbrev pub chosen : State → Choice → State
chosen s (Decided e f x) = decide s e f x
chosen s (Placed e f i) = place s e f i

-- the states of the choices that come after it at its node
abbrev pub later : State → Choice → List State
later s (Decided e f true) = []
later s (Decided e f false) = decide s e f true ∷ []
later s (Placed e f i) = map (place s e f) (range_with_len (i + 1) (length (s.placed e) - i))

-- the choice may be made in the state
abbrev pub MayChoose : Graph → State → Choice → Type 0
MayChoose g s (Decided e f x) = Fits g s (Pair e f)
MayChoose g s (Placed e f i) = Fits g s (Place e f) × (i ≤ length (s.placed e))

-- ---- paths: the last choice comes first

-- the state after the choices
abbrev pub state_after : List Choice → State
state_after [] = empty_state
state_after (choice ∷ path) = chosen (state_after path) choice

-- the states that are still to come after it
abbrev pub owed : List Choice → List State
owed [] = []
owed (choice ∷ path) = later (state_after path) choice ++ owed path

-- each choice may be made after those before it
abbrev pub MayAll : Graph → List Choice → Type 0
MayAll g [] = Unit {0}
MayAll g (choice ∷ path) = MayChoose g (state_after path) choice × MayAll g path

-- the path leads to the state
pub record IsPath (g : Graph) (s : State) (path : List Choice) : Type 0 where
  pub state : s ≡ state_after path
  pub may : MayAll g path

-- the pending states: the one that the path leads to and those still to come; none where nothing is left
abbrev pub pending_at : Bool → List Choice → List State
pending_at live path = if live then state_after path ∷ owed path else []

-- the last choice before rest was taken back, and the next at its node was made, if there is one
abbrev pub IsNextChoice : Graph → State → Choice → List Choice → Option Choice → Type 0
IsNextChoice g s last rest None = IsPath g s rest × (owed (last ∷ rest) ≡ owed rest)
IsNextChoice g s last rest (Some next) = IsPath g s (next ∷ rest) × (owed (last ∷ rest) ≡ pending_at true (next ∷ rest))

-- the same of two given states, whatever path led to the last choice
abbrev pub GoesOn : Situation → Situation → Choice → Option Choice → Type 0
GoesOn old new last next =
    (rest : List Choice) → IsPath old.graph (state_of old) (last ∷ rest) → IsNextChoice new.graph (state_of new) last rest next

-- ---- walks

-- a graph, a path, and whether a state is left
pub record Position : Type 0 where
  pub graph : Graph
  pub path : List Choice
  pub live : Bool

abbrev pub position_of : Graph → List Choice → Bool → Position
position_of g path live = record { graph = g; path = path; live = live }

-- the states that are still to be proved, in order
abbrev pub pending_of : Position → List State
pending_of w = pending_at w.live w.path

-- there is a first pending state, and the node fits it
abbrev pub FitsFirst : Graph → List State → Node → Type 0
FitsFirst g [] node = ⊥
FitsFirst g (s ∷ pending) node = Fits g s node

-- the children of the first pending state stand in its place
abbrev pub after : List State → Node → List State
after [] node = []
after (s ∷ pending) node = children s node ++ pending

-- what opening the first pending state answers: true where the node fits it, and then its children stand in its place, and else
-- false; after false or want of memory the walk is as before
abbrev pub Opened : {E : Type 0} → Position → Position → Node → Result Bool E → Type 0
Opened old new node result =
    let fits = FitsFirst old.graph (pending_of old) node in
    MatchResult result
    (λ yes. MatchBool yes (fits × (pending_of new ≡ after (pending_of old) node)) ((¬ fits) × (new ≡ old)))
    (λ _. new ≡ old)
