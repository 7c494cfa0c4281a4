-- What the items of an answer have to mean: those up to `drawn`, those of rows, those of the tree.
use Rattle.std.proofs.Common.{◌≡◌, ℕ, List, [], ◌∷◌, ◌++◌, map, refl, sym, subst, ap, ◌∙◌}
use Rattle.xn_model.specs.Graph.{Graph}
use Rattle.xn_kinds.specs.State.{State}
use Rattle.xn_kinds.specs.Tree.{AreTrees, MayOpen, children}
use Rattle.xn_kinds.specs.declared.rows.Row.{Row}
use Rattle.xn_kinds.specs.declared.trees.Node.{Node}
use Rattle.xn_proof.specs.declared.item.Item.{Item}
use Rattle.xn_proof.specs.declared.item.Item.TheVariants as item
use Rattle.xn_tree.specs.Walk.{after}
use Rattle.xn_check.specs.FrontSaid.{front_said}
use Rattle.xn_check.specs.Judging.{Rules}
use Rattle.xn_check.specs.Meaning.{Agrees, DrawAgrees, MayOpenFirst}
use Rattle.xn_proof.specs.RowsSaid.{rows_said}
use Rattle.xn_check.specs.Said.{Said, said}
use Rattle.xn_check.specs.Verdict.{check_rules, draw_rules}
use Rattle.xn_check.proofs.ItemKinds.{Each, IsFront, IsOfRows}
use Rattle.xn_check.proofs.Items.{AllAgree, agree_head, agree_tail, all_said}
use Rattle.xn_check.proofs.RowItems.{RowAgrees, row_rules}

module _ (g : Graph) (loops : ℕ) where
  abbrev R : Rules Said (ℕ × ℕ)
  R = check_rules g loops

  -- ---- what is said up to `drawn`

  pub front_of_said : (xs : List Item) (s : Said) → (all_said R s xs).front ≡ all_said (draw_rules g loops) s.front xs
  front_of_said [] s = refl
  front_of_said (x ∷ xs) s = front_of_said xs (said s x)

  draw_agrees : (s : Said) (x : Item) → Agrees g loops s x → DrawAgrees g loops s.front x
  draw_agrees s (item.Header n) a = tt
  draw_agrees s (item.Graph n m) a = a
  draw_agrees s (item.Loops l) a = a
  draw_agrees s (item.Edge u v) a = a
  draw_agrees s (item.Bounds l u) a = tt
  draw_agrees s (item.Effort n m) a = tt
  draw_agrees s (item.Along l) a = tt
  draw_agrees s (item.Turn n m) a = tt
  draw_agrees s item.Drawn a = a
  draw_agrees s (item.Rows n) a = tt
  draw_agrees s (item.Row n) a = tt
  draw_agrees s (item.Over e l) a = tt
  draw_agrees s (item.Branch b) a = tt
  draw_agrees s (item.Path p) a = tt
  draw_agrees s (item.Extension l) a = tt
  draw_agrees s item.Tree a = tt
  draw_agrees s (item.Step n) a = tt
  draw_agrees s item.End a = tt

  pub front_of_agree : (xs : List Item) (s : Said) → AllAgree R s xs → AllAgree (draw_rules g loops) s.front xs
  front_of_agree [] s all = tt
  front_of_agree (x ∷ xs) s all = (draw_agrees s x all.0, front_of_agree xs (said s x) all.1)

  -- an item up to `drawn` is judged by the rules of the drawing alone
  front_one : (x : Item) (s : Said) → IsFront x → (DrawAgrees g loops s.front x → Agrees g loops s x) × (said s x ≡ record s { front = front_said s.front x })
  front_one (item.Header n) s p = (λ a. a, refl)
  front_one (item.Graph n m) s p = (λ a. a, refl)
  front_one (item.Loops l) s p = (λ a. a, refl)
  front_one (item.Edge u v) s p = (λ a. a, refl)
  front_one (item.Bounds l u) s p = (λ a. a, refl)
  front_one (item.Effort n m) s p = (λ a. a, refl)
  front_one (item.Along l) s p = (λ a. a, refl)
  front_one (item.Turn n m) s p = (λ a. a, refl)
  front_one item.Drawn s p = (λ a. a, refl)
  front_one (item.Rows n) s p = absurd p
  front_one (item.Row n) s p = absurd p
  front_one (item.Over e l) s p = absurd p
  front_one (item.Branch b) s p = absurd p
  front_one (item.Path q) s p = absurd p
  front_one (item.Extension l) s p = absurd p
  front_one item.Tree s p = absurd p
  front_one (item.Step n) s p = absurd p
  front_one item.End s p = absurd p

  pub all_front : (xs : List Item) (s : Said) → Each IsFront xs →
      (AllAgree (draw_rules g loops) s.front xs → AllAgree R s xs) × (all_said R s xs ≡ record s { front = all_said (draw_rules g loops) s.front xs })
  all_front [] s p = (λ a. tt, refl)
  all_front (x ∷ xs) s p =
      let one = front_one x s p.0 in
      let rest = all_front xs (said s x) p.1 in
      let last = all_said (draw_rules g loops) (front_said s.front x) xs in
      (λ all. (one.0 all.0, rest.0 all.1), rest.1 ∙ ap (λ (t : Said). record t { front = last }) one.1)

  -- ---- rows

  row_one : (x : Item) (s : Said) → IsOfRows x →
      (Agrees g loops s x → RowAgrees g s.rows x) × (RowAgrees g s.rows x → Agrees g loops s x) × (said s x ≡ record s { rows = rows_said s.rows x })
  row_one (item.Header n) s p = absurd p
  row_one (item.Graph n m) s p = absurd p
  row_one (item.Loops l) s p = absurd p
  row_one (item.Edge u v) s p = absurd p
  row_one (item.Bounds l u) s p = absurd p
  row_one (item.Effort n m) s p = absurd p
  row_one (item.Along l) s p = absurd p
  row_one (item.Turn n m) s p = absurd p
  row_one item.Drawn s p = absurd p
  row_one (item.Rows n) s p = (λ a. a, λ a. a, refl)
  row_one (item.Row n) s p = (λ a. a, λ a. a, refl)
  row_one (item.Over e l) s p = (λ a. a, λ a. a, refl)
  row_one (item.Branch b) s p = (λ a. a, λ a. a, refl)
  row_one (item.Path q) s p = (λ a. a, λ a. a, refl)
  row_one (item.Extension l) s p = (λ a. a, λ a. a, refl)
  row_one item.Tree s p = absurd p
  row_one (item.Step n) s p = absurd p
  row_one item.End s p = absurd p

  pub all_of_rows : (xs : List Item) (s : Said) → Each IsOfRows xs →
      (AllAgree R s xs → AllAgree (row_rules g) s.rows xs) × (AllAgree (row_rules g) s.rows xs → AllAgree R s xs)
      × (all_said R s xs ≡ record s { rows = all_said (row_rules g) s.rows xs })
  all_of_rows [] s p = (λ a. tt, λ a. tt, refl)
  all_of_rows (x ∷ xs) s p =
      let one = row_one x s p.0 in
      let rest = all_of_rows xs (said s x) p.1 in
      let last = all_said (row_rules g) (rows_said s.rows x) xs in (
        λ all. (one.0 all.0, rest.0 all.1),
        λ all. (one.1 all.0, rest.1 all.1),
        rest.2 ∙ ap (λ (t : Said). record t { rows = last }) one.2,
      )

  -- ---- the tree

  finish_none : (k : ℕ) (rows : List Row) (pending : List State) → pending ≡ [] → AreTrees (MayOpen g k rows) children pending []
  finish_none k rows pending none = subst (λ (p : List State). AreTrees (MayOpen g k rows) children p []) (sym none) tt

  none_pending : (k : ℕ) (rows : List Row) (pending : List State) → AreTrees (MayOpen g k rows) children pending [] → pending ≡ []
  none_pending k rows [] ends = refl
  none_pending k rows (t ∷ pending) ends = absurd ends

  finish_more : (k : ℕ) (rows : List Row) (pending : List State) (node : Node) (tree : List Node) → MayOpenFirst g k rows pending node →
      AreTrees (MayOpen g k rows) children (after pending node) tree → AreTrees (MayOpen g k rows) children pending (node ∷ tree)
  finish_more k rows [] node tree keeps ends = absurd keeps
  finish_more k rows (t ∷ pending) node tree keeps ends = (keeps, ends)

  finish_apart : (k : ℕ) (rows : List Row) (pending : List State) (node : Node) (tree : List Node) →
      AreTrees (MayOpen g k rows) children pending (node ∷ tree) →
      MayOpenFirst g k rows pending node × AreTrees (MayOpen g k rows) children (after pending node) tree
  finish_apart k rows [] node tree ends = absurd ends
  finish_apart k rows (t ∷ pending) node tree ends = (ends.0, ends.1)

  pub tree_shows : (tree : List Node) (s : Said) → AllAgree R s (map (λ n. item.Step n) tree ++ item.End ∷ []) →
      AreTrees (MayOpen g s.front.lower s.rows.whole) children s.tree.pending tree
  tree_shows [] s all = finish_none s.front.lower s.rows.whole s.tree.pending all.0
  tree_shows (node ∷ tree) s all =
      let steps = map (λ n. item.Step n) tree ++ item.End ∷ [] in
      finish_more s.front.lower s.rows.whole s.tree.pending node tree (agree_head R s (item.Step node) steps all)
      (tree_shows tree (said s (item.Step node)) (agree_tail R s (item.Step node) steps all))

  pub tree_kept : (tree : List Node) (s : Said) → AreTrees (MayOpen g s.front.lower s.rows.whole) children s.tree.pending tree →
      AllAgree R s (map (λ n. item.Step n) tree ++ item.End ∷ [])
  tree_kept [] s ends = (none_pending s.front.lower s.rows.whole s.tree.pending ends, tt)
  tree_kept (node ∷ tree) s ends =
      let apart = finish_apart s.front.lower s.rows.whole s.tree.pending node tree ends in
      (apart.0, tree_kept tree (said s (item.Step node)) apart.1)
