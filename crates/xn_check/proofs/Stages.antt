-- What is known of an answer at each place, where each line so far meant what it must.
use Rattle.std.proofs.Common.{◌≡◌, ℕ, zero, suc, ◌+◌, List, [], ◌∷◌, ◌++◌, Ok, sym, subst}
use Rattle.std.specs.Prelude.{All, IfSome, Option, Some, None}
use Rattle.std.proofs.lemmas.List.{append_assoc}
use Rattle.std.proofs.lemmas.List.Elements.{All-push}
use Rattle.xn_model.specs.Drawing.{IsListedDrawing, order_of}
use Rattle.xn_model.specs.Graph.{Graph}
use Rattle.xn_model.specs.Orders.{crossing_count}
use Rattle.xn_kinds.specs.Row.{RowHolds}
use Rattle.xn_kinds.specs.State.{State, empty_state}
use Rattle.xn_kinds.specs.Tree.{AreTrees, MayOpen, Proves, children}
use Rattle.xn_kinds.specs.declared.rows.Row.{Row}
use Rattle.xn_kinds.specs.declared.trees.Node.{Node}
use Rattle.xn_proof.specs.Forms.{alongs_from, edges_from, node_item, overs_from, paths_from, rows_from, start_item, start_paths, turns_from, words_at}
use Rattle.xn_proof.specs.declared.evidence.Start.{Start}
use Rattle.xn_proof.specs.declared.evidence.Start.TheVariants as start
use Rattle.xn_proof.specs.declared.item.Item.{Item}
use Rattle.xn_proof.specs.declared.item.Item.TheVariants as item
use Rattle.xn_proof.specs.declared.places.Block.{Block}
use Rattle.xn_proof.specs.declared.places.Place.{Place}
use Rattle.xn_proof.specs.declared.places.Place.TheVariants as place
use Rattle.xn_tree.specs.Walk.{after}
use Rattle.xn_check.specs.Meaning.{Agrees, MayOpenFirst}
use Rattle.xn_proof.specs.RowsSaid.{RowsSaid, row_by_list, row_by_path, with_row}
use Rattle.xn_check.specs.Said.{Said, said}
use Rattle.xn_check.proofs.Taken.{given}

-- ---- the stages

-- no row is known that doesn't hold, and no node
pub record Fresh (g : Graph) (rows : List Row) (pending : List State) : Type 0 where
  pub rows_hold : All (RowHolds g) rows
  pub start : pending ≡ empty_state ∷ []

-- there is a drawing with so many crossings
pub record Drawn (g : Graph) (lists : List (List ℕ)) (next : List ℕ) (upper : ℕ) : Type 0 where
  pub drawing : IsListedDrawing g lists next
  pub crossings : upper ≡ crossing_count g (order_of g lists)

-- nodes that end a proof of the pending states end a tree
abbrev pub LeadsTo : Graph → ℕ → List Row → List State → List Node → Type 0
LeadsTo g k rows pending tree =
    (more : List Node) → AreTrees (MayOpen g k rows) children pending more → Proves g k rows empty_state (tree ++ more)

pub record Growing (g : Graph) (k : ℕ) (rows : List Row) (pending : List State) : Type 0 where
  pub rows_hold : All (RowHolds g) rows
  pub tree : List Node
  pub leads : LeadsTo g k rows pending tree

pub record Grown (g : Graph) (k : ℕ) (rows : List Row) : Type 0 where
  pub rows_hold : All (RowHolds g) rows
  pub tree : List Node
  pub proves : Proves g k rows empty_state tree

-- between the drawing and the tree
abbrev pub Between : Graph → Said → Type 0
Between g s = Fresh g s.rows.whole s.tree.pending × Drawn g s.front.lists s.front.next s.front.upper

-- what is known where the next line has a place
abbrev pub Stage : Graph → Place → Said → Type 0
Stage g (place.Rows m) s = Between g s
Stage g (place.Row b) s = Between g s
Stage g (place.Over b more) s = Between g s
Stage g (place.Evidence b) s = Between g s
Stage g (place.Path b more) s = Between g s
Stage g (place.Tree m rows) s = Between g s
Stage g (place.Node m rows) s = Growing g s.front.lower s.rows.whole s.tree.pending × Drawn g s.front.lists s.front.next s.front.upper
Stage g place.Nothing s = Grown g s.front.lower s.rows.whole × Drawn g s.front.lists s.front.next s.front.upper
Stage g p s = Fresh g s.rows.whole s.tree.pending

-- ---- the places of lines that stand several times

module _ (g : Graph) (s : Said) where
  edges_stage : (nodes e count : ℕ) → Fresh g s.rows.whole s.tree.pending → Stage g (edges_from nodes e count) s
  edges_stage nodes e zero known = known
  edges_stage nodes e (suc more) known = known

  turns_stage : (m count : ℕ) → Fresh g s.rows.whole s.tree.pending → Stage g (turns_from m count) s
  turns_stage m zero known = known
  turns_stage m (suc more) known = known

  alongs_stage : (m segments count : ℕ) → Fresh g s.rows.whole s.tree.pending → Stage g (alongs_from m segments count) s
  alongs_stage m segments zero known = turns_stage m segments known
  alongs_stage m segments (suc more) known = known

  rows_stage : (m rows count : ℕ) → Between g s → Stage g (rows_from m rows count) s
  rows_stage m rows zero known = known
  rows_stage m rows (suc more) known = known

  overs_stage : (b : Block) (count : ℕ) → Between g s → Stage g (overs_from b count) s
  overs_stage b zero known = known
  overs_stage b (suc more) known = known

  paths_stage : (b : Block) (count : ℕ) → Between g s → Stage g (paths_from b count) s
  paths_stage b zero known = rows_stage b.edges b.rows b.more known
  paths_stage b (suc more) known = known

-- ---- rows and nodes

one_row : (g : Graph) (o : Option Row) (s : RowsSaid) (pending : List State) → IfSome o (RowHolds g) → Fresh g s.whole pending →
    Fresh g (with_row o s).whole pending
one_row g None s pending holds known = known
one_row g (Some row) s pending holds known =
    record { rows_hold = All-push (RowHolds g) s.whole row known.rows_hold holds; start = known.start }

grow : (g : Graph) (k : ℕ) (rows : List Row) (pending : List State) (node : Node) (tree : List Node) → LeadsTo g k rows pending tree →
    MayOpenFirst g k rows pending node → LeadsTo g k rows (after pending node) (tree ++ node ∷ [])
grow g k rows [] node tree leads keeps = absurd keeps
grow g k rows (t ∷ pending) node tree leads keeps =
    λ more ends. subst (Proves g k rows empty_state) (sym (append_assoc tree (node ∷ []) more)) (leads (node ∷ more) (keeps, ends))

-- ---- one line more

module _ (g : Graph) (loops : ℕ) (s : Said) where
  abbrev Next : Item × Place → Type 0
  Next y = Agrees g loops s y.0 → Stage g y.1 (said s y.0)

  evidence_next : (b : Block) (st : Start) → Between g s → Next (start_item st, paths_from b (start_paths st))
  evidence_next b (start.Five branch) known = λ agrees. known
  evidence_next b (start.ThreeThree branch) known = λ agrees. known
  evidence_next b (start.Extension list) known = λ agrees.
      let t = said s (item.Extension list) in
      paths_stage g t b 0 (one_row g (Some (row_by_list s.rows list)) s.rows s.tree.pending agrees known.0, known.1)

  node_next : (m rows : ℕ) (o : Option Node) → Growing g s.front.lower s.rows.whole s.tree.pending × Drawn g s.front.lists s.front.next s.front.upper → Next (node_item m rows o)
  node_next m rows (Some node) known = λ agrees. (
    record {
      rows_hold = known.0.rows_hold;
      tree = known.0.tree ++ node ∷ [];
      leads = grow g s.front.lower s.rows.whole s.tree.pending node known.0.tree known.0.leads agrees;
    },
    known.1,
  )
  node_next m rows None known = λ agrees. (
    record {
      rows_hold = known.0.rows_hold;
      tree = known.0.tree ++ [];
      proves = known.0.leads [] (subst (λ (p : List State). AreTrees (MayOpen g s.front.lower s.rows.whole) children p []) (sym agrees) tt);
    },
    known.1,
  )

  pub step : (p : Place) (i : ℕ) (words : List (List ℕ)) (y : Item × Place) → words_at p i words ≡ Ok y → Stage g p s → Next y
  step place.Header i words y e known = let r = given _ _ y e in subst Next r.1 (λ agrees. known)
  step place.Graph i words y e known = let r = given _ _ y e in subst Next r.1 (λ agrees. known)
  step (place.Loops nodes m) i words y e known = let r = given _ _ y e in subst Next r.1 (λ agrees. edges_stage g s nodes 0 m known)
  step (place.Edge nodes e more) i words y eq known =
      let r = given _ _ y eq in subst Next r.1 (λ agrees. edges_stage g (said s (item.Edge r.0.0 r.0.1)) nodes (e + 1) more known)
  step (place.Bounds m) i words y e known = let r = given _ _ y e in subst Next r.1 (λ agrees. known)
  step (place.Effort m) i words y e known = let r = given _ _ y e in subst Next r.1 (λ agrees. alongs_stage g s m m m known)
  step (place.Along m segments more) i words y e known =
      let r = given _ _ y e in subst Next r.1 (λ agrees. alongs_stage g (said s (item.Along r.0)) m _ more known)
  step (place.Turn m more) i words y e known =
      let r = given _ _ y e in subst Next r.1 (λ agrees. turns_stage g (said s (item.Turn r.0.0 r.0.1)) m more known)
  step (place.Drawn m) i words y e known =
      let r = given _ _ y e in subst Next r.1 (λ agrees. (known, record { drawing = agrees.0; crossings = agrees.1 }))
  step (place.Rows m) i words y e known = let r = given _ _ y e in subst Next r.1 (λ agrees. rows_stage g s m r.0 r.0 known)
  step (place.Row b) i words y e known = let r = given _ _ y e in subst Next r.1 (λ agrees. overs_stage g (said s (item.Row r.0)) b r.0 known)
  step (place.Over b more) i words y e known =
      let r = given _ _ y e in subst Next r.1 (λ agrees. overs_stage g (said s (item.Over r.0.0 r.0.1)) b more known)
  step (place.Evidence b) i words y e known = let r = given _ _ y e in subst Next r.1 (evidence_next b r.0 known)
  step (place.Path b more) i words y e known =
      let r = given _ _ y e in
      subst Next r.1 (λ agrees.
      let longer = record s.rows { paths = s.rows.paths ++ r.0 ∷ [] } in
      paths_stage g (said s (item.Path r.0)) b more (one_row g (row_by_path s.rows r.0) longer s.tree.pending agrees known.0, known.1))
  step (place.Tree m rows) i words y e known =
      let r = given _ _ y e in
      subst Next r.1 (λ agrees. (
        record {
          rows_hold = known.0.rows_hold;
          tree = [];
          leads = λ more ends. subst (λ (p : List State). AreTrees (MayOpen g s.front.lower s.rows.whole) children p more) known.0.start ends;
        },
        known.1,
      ))
  step (place.Node m rows) i words y e known = let r = given _ _ y e in subst Next r.1 (node_next m rows r.0 known)
  step place.Nothing i words y e known = absurd cc
