-- One state more is opened in a round.
use Rattle.std.proofs.Common.{◌≡◌, ◌≢◌, ◌↔◌, IsTrue, ℕ, ◌+◌, ◌<◌, ◌≤◌, Bool, true, false, List, [], ◌∷◌, ◌++◌, length, refl, sym, ◌∙◌, ap, subst, arith, append_assoc, append-nil, length-append}
use Rattle.std.specs.Prelude.{All, MatchBool, max}
use Rattle.xn_model.specs.Graph.{Graph}
use Rattle.xn_kinds.specs.Row.{RowHolds}
use Rattle.xn_kinds.specs.State.{State, IsState, empty_state}
use Rattle.xn_kinds.specs.Tree.{Fits, MayOpen, children}
use Rattle.xn_kinds.specs.declared.rows.Row.{Row}
use Rattle.xn_kinds.specs.declared.trees.Node.{Node}
use Rattle.xn_kinds.specs.declared.trees.Node.TheVariants.{Pair, Place, Leaf}
use Rattle.xn_effort.specs.Laws.{MoreRowsKeepRounds, OneMoreIsOpened, PendingAreStates}
use Rattle.xn_effort.specs.LeafLaws.{OnesClose}
use Rattle.xn_effort.specs.Leads.{HasOpened, Searches}
use Rattle.xn_effort.specs.Potential.{ones_in}
use Rattle.xn_tree.specs.Walk.{FitsFirst, Position, after, pending_of}
use Rattle.xn_search.specs.Choice.{GrowsTo, IsRoundDecision, IsDecision, IsCountedDrawing}
use Rattle.xn_search.specs.Ones.{ones_of}
use Rattle.xn_search.specs.Rounds.{EndsAs, IsOpen}
use Rattle.xn_search.specs.declared.decisions.Decision.{Decision}
use Rattle.xn_search.specs.declared.decisions.Decision.TheVariants.{Open, Found}
use Rattle.xn_search.specs.declared.decisions.Drawn.{Drawn}
use Rattle.xn_search.specs.declared.round.End.TheVariants.{Proved, Spent}
use Rattle.xn_search.specs.declared.round.End.TheVariants.{Found as EndFound}
use Rattle.xn_search.proofs.Pushed.{no_ones}

-- a round that goes on: its walk, the ones of what is pending, its nodes, and the rows with what is known of them
pub record Goes (g : Graph) (t count : ℕ) (first rows : List Row) (walk : Position) (ones : List ℕ) (nodes : List Node) : Type 0 where
  pub same_graph : walk.graph ≡ g
  pub opened : HasOpened g t rows nodes (pending_of walk)
  pub some_left : pending_of walk ≢ []
  pub counted : ones ≡ ones_of g (pending_of walk)
  pub nodes_count : length nodes ≡ count
  pub more : GrowsTo first rows
  pub rows_hold : All (RowHolds g) rows
  pub few : length rows ≤ max (length first) 800000 + count

pub extends_more : (first rows longer : List Row) → GrowsTo first rows → GrowsTo rows longer → GrowsTo first longer
extends_more first rows longer one two = (one.0 ++ two.0, two.1 ∙ ap (λ xs. xs ++ two.0) one.1 ∙ append_assoc first one.0 two.0)

pub keeps_fits : (g : Graph) (k : ℕ) (rows : List Row) (s : State) (node : Node) → MayOpen g k rows s node → Fits g s node
keeps_fits g k rows s (Pair e f) keeps = keeps
keeps_fits g k rows s (Place e f) keeps = keeps
keeps_fits g k rows s (Leaf d parts) keeps = tt

-- a list that has a first
first_of : (pending : List State) → pending ≢ [] → (s : State) × (left : List State) × (pending ≡ s ∷ left)
first_of [] some = absurd (some refl)
first_of (s ∷ left) some = (s, left, refl)

-- a leaf without rows closes a state with enough ones
pub closed_by_ones : OnesClose → (g : Graph) (t : ℕ) (rows : List Row) (s : State) → t ≤ ones_in g s → IsRoundDecision g t rows s (Open (Leaf 1 []))
closed_by_ones ones g t rows s enough = (ones g t rows s enough, tt)

-- a node of a state with fewer ones
opened_well : (g : Graph) (t : ℕ) (rows : List Row) (s : State) (node : Node) → ones_in g s < t → MayOpen g t rows s node → Searches g t rows s node
opened_well g t rows s (Pair e f) low may = (may, low)
opened_well g t rows s (Place e f) low may = (may, low)
opened_well g t rows s (Leaf d parts) low may = (may, tt)

pub decided_well : (g : Graph) (t : ℕ) (rows : List Row) (s : State) (decision : Decision) → ones_in g s < t → IsDecision g t rows s decision → IsRoundDecision g t rows s decision
decided_well g t rows s (Open node) low is = opened_well g t rows s node low is
decided_well g t rows s (Found d) low is = is

pub extends_none : (rows : List Row) → GrowsTo rows rows
extends_none rows = ([], sym (append-nil rows))

-- the first pending state is one of the graph
pub state_first : PendingAreStates → (g : Graph) (t : ℕ) (rows : List Row) (nodes : List Node) (pending : List State) (s : State) → HasOpened g t rows nodes pending → pending ≢ [] →
    ((x : State) (rest : List State) → pending ≡ x ∷ rest → s ≡ x) → IsState g s
state_first states g t rows nodes [] s opened some is = absurd (some refl)
state_first states g t rows nodes (x ∷ rest) s opened some is = subst (IsState g) (sym (is x rest refl)) (states g t rows nodes x rest opened)

module _ (more_rows : MoreRowsKeepRounds) (one_more : OneMoreIsOpened) (g : Graph) (t : ℕ) (rows longer : List Row) (nodes : List Node) (extends : GrowsTo rows longer) where
  -- with more rows
  pub still_opened : (left : List State) → HasOpened g t rows nodes left → HasOpened g t longer nodes left
  still_opened left opened = subst (λ rs. HasOpened g t rs nodes left) (sym extends.1) (more_rows g t rows extends.0 nodes left opened)

  -- and with one node more
  next_opened : (pending : List State) (s : State) (node : Node) → HasOpened g t rows nodes pending → pending ≢ [] →
      ((x : State) (rest : List State) → pending ≡ x ∷ rest → s ≡ x) → Searches g t longer s node →
      FitsFirst g pending node × HasOpened g t longer (nodes ++ node ∷ []) (after pending node)
  next_opened [] s node opened some is searches = absurd (some refl)
  next_opened (x ∷ rest) s node opened some is searches =
      let here : Searches g t longer x node = subst (λ y. Searches g t longer y node) (is x rest refl) searches in
      (keeps_fits g t longer x node here.0, one_more g t longer nodes x rest node (still_opened (x ∷ rest) opened) here)

  -- so a call that opens it does
  pub moves : (walk next : Position) (s : State) (node : Node) (fitted : Bool) → walk.graph ≡ g → HasOpened g t rows nodes (pending_of walk) → pending_of walk ≢ [] →
      ((x : State) (rest : List State) → pending_of walk ≡ x ∷ rest → s ≡ x) → Searches g t longer s node →
      MatchBool fitted (FitsFirst walk.graph (pending_of walk) node × (pending_of next ≡ after (pending_of walk) node)) ((¬ (FitsFirst walk.graph (pending_of walk) node)) × (next ≡ walk)) →
      pending_of next ≡ after (pending_of walk) node
  moves walk next s node true same opened some is searches answer = answer.1
  moves walk next s node false same opened some is searches answer =
      absurd (answer.0 (subst (λ h. FitsFirst h (pending_of walk) node) (sym same) (next_opened (pending_of walk) s node opened some is searches).0))

  pub is_open : (walk : Position) → HasOpened g t rows nodes (pending_of walk) → pending_of walk ≢ [] → IsOpen g t longer nodes
  is_open walk opened some =
      let first = first_of (pending_of walk) some in
      (first.0, first.1, subst (HasOpened g t longer nodes) first.2 (still_opened (pending_of walk) opened))

-- what a test tells
pub not_where : (b : Bool) (P : Type 0) → IsTrue b ↔ P → b ≡ false → ¬ P
not_where true P is e = absurd cc
not_where false P is e = λ p. absurd (let is_true = is.1 p in cc)

-- ---- one state more

pub goes_first : (g : Graph) (t : ℕ) (rows : List Row) (walk : Position) (ones : List ℕ) (nodes : List Node) → All (RowHolds g) rows → walk.graph ≡ g → pending_of walk ≡ empty_state ∷ [] →
    ones ≡ 0 ∷ [] → nodes ≡ [] → Goes g t 0 rows rows walk ones nodes
goes_first g t rows walk ones nodes hold same pending zero_ none = record {
  same_graph = same;
  opened = subst (λ ns. HasOpened g t rows ns (pending_of walk)) (sym none) (sym pending);
  some_left = λ empty. let both : empty_state ∷ [] ≡ [] = sym pending ∙ empty in absurd (cc);
  counted = zero_ ∙ ap (λ (n : ℕ). n ∷ []) (sym (no_ones g)) ∙ ap (ones_of g) (sym pending);
  nodes_count = ap length none;
  more = extends_none rows;
  rows_hold = hold;
  few = omega arith;
}

module _ (more_rows : MoreRowsKeepRounds) (one_more : OneMoreIsOpened) (g : Graph) (t count : ℕ) (first rows longer : List Row) (walk : Position) (ones : List ℕ) (nodes : List Node)
    (goes : Goes g t count first rows walk ones nodes) (extends : GrowsTo rows longer) where
  pub few_rows : length longer ≤ max (length rows) 800000 + 1 → length longer ≤ max (length first) 800000 + (count + 1)
  few_rows few = omega (arith, few, goes.few)

  -- the state has a drawing
  pub found_ends : (budget : ℕ) (d : Drawn) → IsCountedDrawing g d → d.crossings < t → EndsAs g t budget longer nodes (count + 1) (EndFound d)
  found_ends budget d drawn fewer =
      (is_open more_rows one_more g t rows longer nodes extends walk goes.opened goes.some_left, omega (arith, goes.nodes_count), drawn, fewer)

  module _ (next : Position) (s : State) (node : Node) (fitted : Bool) (is : (x : State) (rest : List State) → pending_of walk ≡ x ∷ rest → s ≡ x) (searches : Searches g t longer s node)
      (answer : MatchBool fitted (FitsFirst walk.graph (pending_of walk) node × (pending_of next ≡ after (pending_of walk) node)) ((¬ (FitsFirst walk.graph (pending_of walk) node)) × (next ≡ walk)))
      (items : List Node) (pushed : items ≡ nodes ++ node ∷ []) where
    moved : pending_of next ≡ after (pending_of walk) node
    moved = moves more_rows one_more g t rows longer nodes extends walk next s node fitted goes.same_graph goes.opened goes.some_left is searches answer

    now_opened : HasOpened g t longer items (pending_of next)
    now_opened = subst (λ ns. HasOpened g t longer ns (pending_of next)) (sym pushed)
        (subst (λ p. HasOpened g t longer (nodes ++ node ∷ []) p) (sym moved)
        (next_opened more_rows one_more g t rows longer nodes extends (pending_of walk) s node goes.opened goes.some_left is searches).1)

    now_counted : (numbers : List ℕ) → ((left : List State) → ones ≡ ones_of g (s ∷ left) → numbers ≡ ones_of g (children s node ++ left)) → numbers ≡ ones_of g (pending_of next)
    now_counted numbers counting =
        let start = first_of (pending_of walk) goes.some_left in
        let same : start.0 ≡ s = sym (is start.0 start.1 start.2) in
        let here : pending_of walk ≡ s ∷ start.1 = start.2 ∙ ap (λ x. x ∷ start.1) same in
        counting start.1 (goes.counted ∙ ap (ones_of g) here) ∙ ap (ones_of g) (sym (moved ∙ ap (λ p. after p node) here))

    items_count : length items ≡ count + 1
    items_count = omega (arith, ap length pushed, length-append nodes (node ∷ []), goes.nodes_count)

    -- a proof
    pub proved_ends : (budget : ℕ) → pending_of next ≡ [] → EndsAs g t budget longer items (count + 1) Proved
    proved_ends budget none = (subst (HasOpened g t longer items) none now_opened, omega (arith, items_count))

    -- or it goes on
    pub goes_on : (numbers : List ℕ) → ((left : List State) → ones ≡ ones_of g (s ∷ left) → numbers ≡ ones_of g (children s node ++ left)) → next.graph ≡ walk.graph → pending_of next ≢ [] →
        All (RowHolds g) longer → length longer ≤ max (length rows) 800000 + 1 → Goes g t (count + 1) first longer next numbers items
    goes_on numbers counting same some hold few = record {
      same_graph = same ∙ goes.same_graph;
      opened = now_opened;
      some_left = some;
      counted = now_counted numbers counting;
      nodes_count = items_count;
      more = extends_more first rows longer goes.more extends;
      rows_hold = hold;
      few = few_rows few;
    }

-- the budget is spent
pub spent_ends : MoreRowsKeepRounds → OneMoreIsOpened → (g : Graph) (t count budget : ℕ) (first rows : List Row) (walk : Position) (ones : List ℕ) (nodes : List Node) → Goes g t count first rows walk ones nodes → count ≡ budget →
    EndsAs g t budget rows nodes budget Spent
spent_ends more_rows one_more g t count budget first rows walk ones nodes goes all =
    (is_open more_rows one_more g t rows rows nodes (extends_none rows) walk goes.opened goes.some_left, omega (arith, goes.nodes_count, all), refl)
