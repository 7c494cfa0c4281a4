-- Which items of an answer belong where.
use Rattle.std.proofs.Common.{List, [], ◌∷◌, ◌++◌, map}
use Rattle.std.specs.List.{flat_map}
use Rattle.xn_kinds.specs.declared.rows.Evidence.{Evidence}
use Rattle.xn_kinds.specs.declared.rows.Evidence.TheVariants.{Five, ThreeThree, Extension}
use Rattle.xn_kinds.specs.declared.rows.Row.{Row}
use Rattle.xn_kinds.specs.declared.trees.Node.{Node}
use Rattle.xn_proof.specs.Forms.{evidence_items, row_items, rows_items, tree_items}
use Rattle.xn_proof.specs.Spelling.{overs_of}
use Rattle.xn_proof.specs.declared.item.Item.{Item}
use Rattle.xn_proof.specs.declared.item.Item.TheVariants as item

-- up to `drawn`
abbrev pub IsFront : Item → Type 0
IsFront (item.Rows n) = ⊥
IsFront (item.Row n) = ⊥
IsFront (item.Over e list) = ⊥
IsFront (item.Branch branch) = ⊥
IsFront (item.Path path) = ⊥
IsFront (item.Extension list) = ⊥
IsFront item.Tree = ⊥
IsFront (item.Step node) = ⊥
IsFront item.End = ⊥
IsFront line = Unit {0}

-- of the rows
abbrev pub IsOfRows : Item → Type 0
IsOfRows (item.Rows n) = Unit {0}
IsOfRows (item.Row n) = Unit {0}
IsOfRows (item.Over e list) = Unit {0}
IsOfRows (item.Branch branch) = Unit {0}
IsOfRows (item.Path path) = Unit {0}
IsOfRows (item.Extension list) = Unit {0}
IsOfRows line = ⊥

-- of which the drawing is not judged
abbrev pub Passes : Item → Type 0
Passes (item.Graph nodes edges) = ⊥
Passes (item.Loops l) = ⊥
Passes (item.Edge u v) = ⊥
Passes (item.Bounds lower upper) = ⊥
Passes (item.Along list) = ⊥
Passes (item.Turn a b) = ⊥
Passes item.Drawn = ⊥
Passes line = Unit {0}

-- ---- lists of items

abbrev pub Each : (Item → Type 0) → List Item → Type 0
Each P [] = Unit {0}
Each P (x ∷ xs) = P x × Each P xs

pub each_join : (P : Item → Type 0) (xs ys : List Item) → Each P xs → Each P ys → Each P (xs ++ ys)
each_join P [] ys first second = second
each_join P (x ∷ xs) ys first second = (first.0, each_join P xs ys first.1 second)

pub each_map : {X : Type 0} (P : Item → Type 0) (say : X → Item) → ((x : X) → P (say x)) → (xs : List X) → Each P (map say xs)
each_map P say each [] = tt
each_map P say each (x ∷ xs) = (each x, each_map P say each xs)

evidence_each : (e : Evidence) → Each IsOfRows (evidence_items e)
evidence_each (Five branch paths) = (tt, each_map IsOfRows (λ p. item.Path p) (λ p. tt) paths)
evidence_each (ThreeThree branch paths) = (tt, each_map IsOfRows (λ p. item.Path p) (λ p. tt) paths)
evidence_each (Extension list) = (tt, tt)

row_each : (row : Row) → Each IsOfRows (row_items row)
row_each row = (
  tt,
  each_join IsOfRows (map (λ o. item.Over o.0 o.1) (overs_of row.edges row.orders)) (evidence_items row.evidence)
      (each_map IsOfRows (λ o. item.Over o.0 o.1) (λ o. tt) (overs_of row.edges row.orders)) (evidence_each row.evidence),
)

flat_each : (rows : List Row) → Each IsOfRows (flat_map row_items rows)
flat_each [] = tt
flat_each (row ∷ rows) = each_join IsOfRows (row_items row) (flat_map row_items rows) (row_each row) (flat_each rows)

pub rows_each : (rows : List Row) → Each IsOfRows (rows_items rows)
rows_each rows = (tt, flat_each rows)

passes_of_rows : (x : Item) → IsOfRows x → Passes x
passes_of_rows (item.Rows n) p = tt
passes_of_rows (item.Row n) p = tt
passes_of_rows (item.Over e list) p = tt
passes_of_rows (item.Branch branch) p = tt
passes_of_rows (item.Path path) p = tt
passes_of_rows (item.Extension list) p = tt
passes_of_rows (item.Header n) p = absurd p
passes_of_rows (item.Graph nodes edges) p = absurd p
passes_of_rows (item.Loops l) p = absurd p
passes_of_rows (item.Edge u v) p = absurd p
passes_of_rows (item.Bounds lower upper) p = absurd p
passes_of_rows (item.Effort spent budget) p = absurd p
passes_of_rows (item.Along list) p = absurd p
passes_of_rows (item.Turn a b) p = absurd p
passes_of_rows item.Drawn p = absurd p
passes_of_rows item.Tree p = absurd p
passes_of_rows (item.Step node) p = absurd p
passes_of_rows item.End p = absurd p

each_passes : (xs : List Item) → Each IsOfRows xs → Each Passes xs
each_passes [] all = tt
each_passes (x ∷ xs) all = (passes_of_rows x all.0, each_passes xs all.1)

tree_passes : (tree : List Node) → Each Passes (tree_items tree)
tree_passes tree =
    (tt, each_join Passes (map (λ n. item.Step n) tree) (item.End ∷ []) (each_map Passes (λ n. item.Step n) (λ n. tt) tree) (tt, tt))

-- the items after `drawn`
pub proof_passes : (rows : List Row) (tree : List Node) → Each Passes (rows_items rows ++ tree_items tree)
proof_passes rows tree = each_join Passes (rows_items rows) (tree_items tree) (each_passes (rows_items rows) (rows_each rows)) (tree_passes tree)
