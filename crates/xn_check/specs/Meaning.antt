-- What the lines of an answer have to mean, for a graph and the number of its input's loops.
use Rattle.std.specs.Prelude.{◌≡◌, ◌≢◌, ℕ, ◌⊎◌, ℤ, pos, ◌-ℤ◌, ◌*ℤ◌, ◌<ℤ◌, List, [], ◌∷◌, Option, Some, None, IfSome, length, map}
use Rattle.std.specs.List.Sorted.{IsStrictlyIncreasing}
use Rattle.xn_model.specs.Drawing.{IsListedDrawing, order_of}
use Rattle.xn_model.specs.Graph.{Graph, ends_at}
use Rattle.xn_model.specs.Orders.{crossing_count}
use Rattle.xn_kinds.specs.Bound.{IsBound}
use Rattle.xn_kinds.specs.Row.{RowHolds}
use Rattle.xn_kinds.specs.State.{State}
use Rattle.xn_kinds.specs.Tree.{MayOpen, Fits}
use Rattle.xn_kinds.specs.declared.flaws.DrawFlaw.{DrawFlaw}
use Rattle.xn_kinds.specs.declared.flaws.FlawKind.{FlawKind}
use Rattle.xn_kinds.specs.declared.flaws.FlawKind.TheVariants as kinds
use Rattle.xn_kinds.specs.declared.flaws.RowFlaw.{RowFlaw}
use Rattle.xn_kinds.specs.declared.rows.Row.{Row}
use Rattle.xn_kinds.specs.declared.trees.Node.{Node}
use Rattle.xn_kinds.specs.declared.trees.Node.TheVariants.{Leaf}
use Rattle.xn_draw.specs.Flaws.{IsFlaw}
use Rattle.xn_draw.specs.Seen.{seen_of}
use Rattle.xn_draw.specs.declared.results.Seen.{Seen}
use Rattle.xn_proof.specs.declared.item.Item.{Item}
use Rattle.xn_proof.specs.declared.item.Item.TheVariants as item
use Rattle.xn_rows.specs.Holding.{IsRowFlaw}
use Rattle.xn_check.specs.FrontSaid.{FrontSaid, graph_said}
use Rattle.xn_proof.specs.RowsSaid.{row_by_list, row_by_path}
use Rattle.xn_check.specs.Said.{Said}

-- ---- what has to be: lines up to `drawn`

-- the lists and turns are a simple drawing
abbrev pub HasDrawing : Graph → FrontSaid → Type 0
HasDrawing g f = IsListedDrawing g f.lists f.next

-- its number of crossings
abbrev pub crossings_said : Graph → FrontSaid → ℕ
crossings_said g f = crossing_count g (order_of g f.lists)

-- they are one with as many crossings as is said
abbrev pub IsDrawn : Graph → FrontSaid → Type 0
IsDrawn g f = HasDrawing g f × (f.upper ≡ crossings_said g f)

-- the same, and this is seen of it
abbrev pub IsSeenAs : Graph → FrontSaid → Seen → Type 0
IsSeenAs g f seen = IsDrawn g f × (seen ≡ seen_of g f.lists f.next)

-- the line means what it must by itself: the drawing is one of the graph that was said
abbrev pub FrontAgrees : FrontSaid → Item → Type 0
FrontAgrees f item.Drawn = IsDrawn (graph_said f) f
FrontAgrees f line = Unit {0}

-- the line means what it must for a graph and so many loops; a later line may mean anything
abbrev pub DrawAgrees : Graph → ℕ → FrontSaid → Item → Type 0
DrawAgrees g loops f (item.Graph nodes edges) = (nodes ≡ g.nodes) × (edges ≡ length g.ends)
DrawAgrees g loops f (item.Loops l) = l ≡ loops
DrawAgrees g loops f (item.Edge u v) = (u, v) ≡ ends_at g.ends (length f.ends)
DrawAgrees g loops f item.Drawn = IsDrawn g f
DrawAgrees g loops f line = Unit {0}

-- ---- what has to be: all lines

-- the node keeps its rule in the first pending state, of which there is one
abbrev pub MayOpenFirst : Graph → ℕ → List Row → List State → Node → Type 0
MayOpenFirst g k rows [] node = ⊥
MayOpenFirst g k rows (t ∷ pending) node = MayOpen g k rows t node

-- the line means what it must
abbrev pub Agrees : Graph → ℕ → Said → Item → Type 0
Agrees g loops s (item.Path path) = IfSome (row_by_path s.rows path) (RowHolds g)
Agrees g loops s (item.Extension list) = RowHolds g (row_by_list s.rows list)
Agrees g loops s (item.Step node) = MayOpenFirst g s.front.lower s.rows.whole s.tree.pending node
Agrees g loops s item.End = s.tree.pending ≡ []
Agrees g loops s line = DrawAgrees g loops s.front line

-- ---- what else is wrong, first: lines up to `drawn`

-- it is no simple drawing, or one with another number of crossings than is said
abbrev pub DrawnFails : Graph → FrontSaid → FlawKind → Type 0
DrawnFails g f kind =
    ((flaw : DrawFlaw) × IsFlaw g f.lists f.next flaw × (kind ≡ kinds.Draw flaw))
    ⊎ (HasDrawing g f × (f.upper ≢ crossings_said g f) × (kind ≡ kinds.Count f.upper (crossings_said g f)))

-- the line means something else, and this is wrong with it
abbrev pub FrontBreaks : FrontSaid → Item → FlawKind → Type 0
FrontBreaks f item.Drawn kind = DrawnFails (graph_said f) f kind
FrontBreaks f line kind = ⊥

-- the same for a graph and so many loops
abbrev pub DrawBreaks : Graph → ℕ → FrontSaid → Item → FlawKind → Type 0
DrawBreaks g loops f (item.Graph nodes edges) kind = (¬ ((nodes ≡ g.nodes) × (edges ≡ length g.ends))) × (kind ≡ kinds.SizeDiffers)
DrawBreaks g loops f (item.Loops l) kind = (l ≢ loops) × (kind ≡ kinds.SizeDiffers)
DrawBreaks g loops f (item.Edge u v) kind = ((u, v) ≢ ends_at g.ends (length f.ends)) × (kind ≡ kinds.GraphDiffers (length f.ends))
DrawBreaks g loops f item.Drawn kind = DrawnFails g f kind
DrawBreaks g loops f line kind = ⊥

-- ---- what else is wrong, first: all lines

-- row number i is none of the graph, or doesn't hold
abbrev pub RowFails : Graph → ℕ → Row → FlawKind → Type 0
RowFails g i row kind = (flaw : RowFlaw) × IsRowFlaw g row flaw × (kind ≡ kinds.Row i flaw)

-- the same, if a row is whole
abbrev pub PathFails : Graph → ℕ → Option Row → FlawKind → Type 0
PathFails g i None kind = ⊥
PathFails g i (Some row) kind = RowFails g i row kind

-- what the bound of a leaf has to pass
abbrev pub need_of : ℕ → ℕ → ℤ
need_of k d = pos d *ℤ (pos k -ℤ pos 1)

-- a leaf whose bound doesn't pass it
abbrev pub IsWeak : Graph → ℕ → List Row → State → ℕ → List (ℕ × ℕ) → FlawKind → Type 0
IsWeak g k rows t d parts kind =
    (b : ℤ) × IsBound g rows t d parts b × (¬ (need_of k d <ℤ b)) × (kind ≡ kinds.Weak b (need_of k d))

-- node number n breaks its rule in a state: a leaf by its row numbers, and then by its bound
abbrev pub NodeFails : Graph → ℕ → List Row → State → ℕ → Node → FlawKind → Type 0
NodeFails g k rows t n (Leaf d parts) kind =
    let Rise = IsStrictlyIncreasing (map (λ p. p.0) parts) in
    ((¬ Rise) × (kind ≡ kinds.TreeShape n)) ⊎ (Rise × IsWeak g k rows t d parts kind)
NodeFails g k rows t n node kind = (¬ (Fits g t node)) × (kind ≡ kinds.TreeShape n)

-- the same in the first pending state; there has to be one
abbrev pub StepFails : Graph → ℕ → List Row → List State → ℕ → Node → FlawKind → Type 0
StepFails g k rows [] n node kind = kind ≡ kinds.TreeShape n
StepFails g k rows (t ∷ pending) n node kind = NodeFails g k rows t n node kind

-- the line means something else, and this is wrong with it
abbrev pub Breaks : Graph → ℕ → Said → Item → FlawKind → Type 0
Breaks g loops s (item.Path path) kind = PathFails g (length s.rows.whole) (row_by_path s.rows path) kind
Breaks g loops s (item.Extension list) kind = RowFails g (length s.rows.whole) (row_by_list s.rows list) kind
Breaks g loops s (item.Step node) kind = StepFails g s.front.lower s.rows.whole s.tree.pending s.tree.nodes node kind
Breaks g loops s item.End kind = (s.tree.pending ≢ []) × (kind ≡ kinds.TreeShape s.tree.nodes)
Breaks g loops s line kind = DrawBreaks g loops s.front line kind
