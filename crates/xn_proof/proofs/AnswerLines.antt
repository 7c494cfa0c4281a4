-- The lines of an answer, one by one.
use Rattle.std.proofs.Common.{◌≡◌, ℕ, zero, suc, ◌-◌, ◌^◌, ◌≤◌, ◌<◌, Bool, false, cond, eqb, ltb, inl, inr, List, [], ◌∷◌, ◌++◌, Option, Some, None, Result, Ok, Err, length, map, refl, sym, ap, ◌∙◌, append_assoc, arith}
use Rattle.std.proofs.lemmas.List.{append-nil}
use Rattle.std.proofs.lemmas.Bool.{cases_Bool, ne_eqb}
use Rattle.std.specs.Prelude.{codes}
use Rattle.std.specs.List.{flat_map, position_or_len}
use Rattle.xn_kinds.specs.declared.answers.Answer.{Answer}
use Rattle.xn_kinds.specs.declared.flaws.Flaw.{Flaw}
use Rattle.xn_kinds.specs.declared.rows.Evidence.{Evidence}
use Rattle.xn_kinds.specs.declared.rows.Evidence.TheVariants.{Five, ThreeThree}
use Rattle.xn_kinds.specs.declared.rows.Row.{Row}
use Rattle.xn_kinds.specs.declared.trees.Node.{Node}
use Rattle.xn_text.specs.Pieces.{is_line_end, lines_of, words_of}
use Rattle.xn_proof.specs.declared.evidence.Start.{Start}
use Rattle.xn_proof.specs.declared.evidence.Start.TheVariants as start
use Rattle.xn_proof.specs.declared.front.Front.{Front}
use Rattle.xn_proof.specs.declared.item.Item.{Item}
use Rattle.xn_proof.specs.declared.item.Item.TheVariants as item
use Rattle.xn_proof.specs.declared.places.Block.{Block}
use Rattle.xn_proof.specs.declared.places.Place.{Place}
use Rattle.xn_proof.specs.declared.places.Place.TheVariants as place
use Rattle.xn_proof.specs.Forms.{Line, LinesSayItsItems, bounds_items, drawing_items, evidence_items, graph_items, items_of, lines_at, node_item, overs_from, paths_from, row_items, rows_from, rows_items, start_item, start_paths, start_state, text_lines, tree_items, up_to_end}
use Rattle.xn_proof.specs.Fronts.{front_at}
use Rattle.xn_proof.specs.Proofs.{after_node, answer_of, evidence_at, node_of, nodes_at, nothing_at, over_at, overs_at, path_at, paths_of, proof_at, row_at, start_of}
use Rattle.xn_proof.specs.Ranges.{list_form, no_form, one_form, over_form}
use Rattle.xn_proof.specs.Reading.{◌>>=◌, Left, form_at, line_at, many_at, trailing}
use Rattle.xn_proof.specs.Spelling.{overs_of}
use Rattle.xn_proof.proofs.FrontLines.{front_items, front_says, three, two}
use Rattle.xn_proof.proofs.AnyNumber.{lines_any, said_any}
use Rattle.xn_proof.proofs.LineByLine.{Says, chain, ended, form_says, from, line_says, many_length, many_lines_say, many_says, numbers_agree, said, unended}
use Rattle.xn_proof.proofs.Nodes.{line_shortens, no_line}
use Rattle.xn_proof.proofs.Steps.{bind_ok, ok_is}

-- ---- rows

over_says : (b : Block) (j more : ℕ) → Says (place.Over b more) (over_at j) (λ x. overs_from b more) (λ x. item.Over x.0 x.1 ∷ [])
over_says b j more = form_says (place.Over b more) (codes "over") over_form (λ x. item.Over x.0 x.1) (λ x. overs_from b more) refl (λ i words. refl)

path_says : (b : Block) (j more : ℕ) → Says (place.Path b more) (path_at j) (λ l. paths_from b more) (λ l. item.Path l ∷ [])
path_says b j more = form_says (place.Path b more) (codes "path") (list_form 1000000) (λ l. item.Path l) (λ l. paths_from b more) refl (λ i words. refl)

row_line : (b : Block) → Says (place.Row b) (form_at (codes "row") (one_form b.edges)) (λ n. overs_from b n) (λ n. item.Row n ∷ [])
row_line b = form_says (place.Row b) (codes "row") (one_form b.edges) (λ n. item.Row n) (λ n. overs_from b n) refl (λ i words. refl)

paths_say : (b : Block) (count : ℕ) → Says (paths_from b count) (many_at path_at 0 count) (λ paths. rows_from b.edges b.rows b.more) (λ paths. map (λ p. item.Path p) paths)
paths_say b count = many_lines_say path_at (λ p. item.Path p) (λ t x. t) (λ j t k. paths_from b k) (λ j t k. path_says b j k) 0 0 count

overs_again : (overs : List (ℕ × List ℕ)) → overs ≡ overs_of (map (λ o. o.0) overs) (map (λ o. o.1) overs)
overs_again [] = refl
overs_again (o ∷ overs) = ap (λ (l : List (ℕ × List ℕ)). o ∷ l) (overs_again overs)

abbrev pub two_lists : List (ℕ × List ℕ) × Left → Result ((List ℕ × List (List ℕ)) × Left) Flaw
two_lists over = Ok ((map (λ o. o.0) over.0, map (λ o. o.1) over.0), over.1)

overs_say : (b : Block) (count : ℕ) → Says (overs_from b count) (overs_at count) (λ o. place.Evidence b) (λ o. map (λ x. item.Over x.0 x.1) (overs_of o.0 o.1))
unfolding overs_at
overs_say b count front s =
    let K : (List ℕ × List (List ℕ)) × Left → Result (List Item) Flaw = λ o. from (front ++ map (λ x. item.Over x.0 x.1) (overs_of o.0.0 o.0.1)) o.1 (place.Evidence b) in
    many_lines_say over_at (λ x. item.Over x.0 x.1) (λ t x. t) (λ j t k. overs_from b k) (λ j t k. over_says b j k) 0 0 count front s
    ∙ chain (many_at over_at 0 count s) _ two_lists K (λ a is_a. ap (λ (l : List (ℕ × List ℕ)). from (front ++ map (λ x. item.Over x.0 x.1) l) a.1 (place.Evidence b)) (overs_again a.0))

length-firsts : (overs : List (ℕ × List ℕ)) → length (map (λ o. o.0) overs) ≡ length overs
length-firsts [] = refl
length-firsts (o ∷ overs) = ap suc (length-firsts overs)

overs_length : (count : ℕ) (s : Left) (edges : List ℕ) (lists : List (List ℕ)) (t : Left) → overs_at count s ≡ Ok ((edges, lists), t) → length edges ≡ count
unfolding overs_at
overs_length count s edges lists t is =
    let a = bind_ok (many_at over_at 0 count s) two_lists ((edges, lists), t) is in
    let e : length (map (λ o. o.0) a.0.0) ≡ length edges = ap (λ (p : (List ℕ × List (List ℕ)) × Left). length p.0.0) (ok_is ((map (λ o. o.0) a.0.0, map (λ o. o.1) a.0.0), a.0.1) ((edges, lists), t) a.2) in
    sym e ∙ length-firsts a.0.0 ∙ many_length over_at 0 count s a.0.0 a.0.1 a.1

abbrev pub evidence_from : Block → List Item → Evidence × Left → Result (List Item) Flaw
evidence_from b front e = from (front ++ evidence_items e.0) e.1 (rows_from b.edges b.rows b.more)

abbrev pub as_start : Block → Start → Result (Item × Place) Flaw
as_start b s = Ok (start_item s, paths_from b (start_paths s))

start_says : (b : Block) (front : List Item) (t : Left) (read : Result Start Flaw) →
    ((read >>= as_start b) >>= λ x. from (front ++ x.0 ∷ []) t x.1) ≡ ((read >>= λ start. paths_of start t) >>= evidence_from b front)
start_says b front t (Err e) = refl
start_says b front t (Ok (start.Five branch)) =
    paths_say b 10 (front ++ item.Branch branch ∷ []) t
    ∙ chain (many_at path_at 0 10 t) _ (λ paths. Ok (Five branch paths.0, paths.1)) (evidence_from b front) (λ p is_p. ap (λ (l : List Item). from l p.1 (rows_from b.edges b.rows b.more)) (two front (item.Branch branch ∷ []) (map (λ x. item.Path x) p.0)))
start_says b front t (Ok (start.ThreeThree branch)) =
    paths_say b 9 (front ++ item.Branch branch ∷ []) t
    ∙ chain (many_at path_at 0 9 t) _ (λ paths. Ok (ThreeThree branch paths.0, paths.1)) (evidence_from b front) (λ p is_p. ap (λ (l : List Item). from l p.1 (rows_from b.edges b.rows b.more)) (two front (item.Branch branch ∷ []) (map (λ x. item.Path x) p.0)))
start_says b front t (Ok (start.Extension list)) = refl

abbrev pub after_line : (ℕ × List ℕ) × Left → Result (Evidence × Left) Flaw
after_line line = start_of line.0.0 (words_of line.0.1) >>= λ start. paths_of start line.1

evidence_says : (b : Block) → Says (place.Evidence b) evidence_at (λ e. rows_from b.edges b.rows b.more) evidence_items
unfolding evidence_at
evidence_says b front s =
    line_says (place.Evidence b) refl front s
    ∙ chain (line_at s) _ after_line (evidence_from b front) (λ l is_l. start_says b front l.1 (start_of l.0.0 (words_of l.0.1)))

abbrev pub with_evidence : List ℕ × List (List ℕ) → Evidence × Left → Result (Row × Left) Flaw
with_evidence over evidence = Ok (record { edges = over.0; orders = over.1; evidence = evidence.0 }, evidence.1)

abbrev pub after_overs : (List ℕ × List (List ℕ)) × Left → Result (Row × Left) Flaw
after_overs over = evidence_at over.1 >>= with_evidence over.0

abbrev pub after_row : ℕ × Left → Result (Row × Left) Flaw
after_row count = overs_at count.0 count.1 >>= after_overs

row_says : (b : Block) (j : ℕ) → Says (place.Row b) (row_at b.edges j) (λ x. rows_from b.edges b.rows b.more) row_items
unfolding row_at
row_says b j front s =
    let K : Row × Left → Result (List Item) Flaw = λ x. from (front ++ row_items x.0) x.1 (rows_from b.edges b.rows b.more) in
    row_line b front s ∙ chain (form_at (codes "row") (one_form b.edges) s) _ after_row K (λ n is_n.
    let f1 = front ++ item.Row n.0 ∷ [] in
    overs_say b n.0 f1 n.1 ∙ chain (overs_at n.0 n.1) _ after_overs K (λ o is_o.
    let overs = map (λ x. item.Over x.0 x.1) (overs_of o.0.0 o.0.1) in
    evidence_says b (f1 ++ overs) o.1 ∙ chain (evidence_at o.1) _ (with_evidence o.0) K (λ e is_e.
    ap (λ (l : List Item). from l e.1 (rows_from b.edges b.rows b.more)) (three front (item.Row n.0 ∷ []) overs (evidence_items e.0)
    ∙ ap (λ (k : ℕ). front ++ (item.Row k ∷ (overs ++ evidence_items e.0))) (sym (overs_length n.0 n.1 o.0.0 o.0.1 o.1 is_o))))))

rows_say : (m rows count : ℕ) → Says (rows_from m rows count) (many_at (row_at m) 0 count) (λ rs. place.Tree m rows) (λ rs. flat_map row_items rs)
rows_say m rows count =
    many_says (row_at m) row_items (λ t x. t) (λ j t k. rows_from m rows k) (λ j t k. row_says (record { edges = m; rows = rows; more = k }) j) 0 0 count

-- ---- the tree

abbrev pub nodes_from : List Item → List Node × Left → Result (List Item) Flaw
nodes_from front nodes = from (front ++ (map (λ n. item.Step n) nodes.0 ++ item.End ∷ [])) nodes.1 place.Nothing

more_nodes : (front : List Item) (n : Node) (read : Result (List Node × Left) Flaw) → (read >>= nodes_from (front ++ item.Step n ∷ [])) ≡ ((read >>= λ nodes. Ok (n ∷ nodes.0, nodes.1)) >>= nodes_from front)
more_nodes front n (Ok x) = ap (λ (l : List Item). from l x.1 place.Nothing) (append_assoc front (item.Step n ∷ []) (map (λ y. item.Step y) x.0 ++ item.End ∷ []))
more_nodes front n (Err e) = refl

abbrev pub as_node : ℕ → ℕ → Option Node → Result (Item × Place) Flaw
as_node m rows n = Ok (node_item m rows n)

node_says : (m rows : ℕ) (front : List Item) (t : Left) (others : Result (List Node × Left) Flaw) →
    ((again : List Item) → from again t (place.Node m rows) ≡ (others >>= nodes_from again)) → (read : Result (Option Node) Flaw) →
    ((read >>= as_node m rows) >>= λ x. from (front ++ x.0 ∷ []) t x.1) ≡ ((read >>= λ node. after_node node t others) >>= nodes_from front)
node_says m rows front t others go (Err e) = refl
node_says m rows front t others go (Ok None) = refl
node_says m rows front t others go (Ok (Some n)) = go (front ++ item.Step n ∷ []) ∙ more_nodes front n others

abbrev pub after_node_line : ℕ → ℕ → ℕ → (ℕ × List ℕ) × Left → Result (List Node × Left) Flaw
after_node_line m rows k line = node_of m rows line.0.0 (words_of line.0.1) >>= λ node. after_node node line.1 (nodes_at m rows k line.1)

nodes_say : (m rows k : ℕ) (front : List Item) (s : Left) → length s.1 ≤ k → from front s (place.Node m rows) ≡ (nodes_at m rows k s >>= nodes_from front)
unfolding nodes_at
nodes_say m rows zero front s few =
    line_says (place.Node m rows) refl front s
    ∙ ap (λ (r : Result ((ℕ × List ℕ) × Left) Flaw). r >>= λ l. (node_of m rows l.0.0 (words_of l.0.1) >>= as_node m rows) >>= λ x. from (front ++ x.0 ∷ []) l.1 x.1) (no_line s few)
nodes_say m rows (suc k) front s few =
    line_says (place.Node m rows) refl front s
    ∙ chain (line_at s) _ (after_node_line m rows k) (nodes_from front) (λ l is_l.
    node_says m rows front l.1 (nodes_at m rows k l.1) (λ again. nodes_say m rows k again l.1 (omega (arith, few, line_shortens s l.0 l.1 is_l))) (node_of m rows l.0.0 (words_of l.0.1)))

-- ---- the end

some_line : (i : ℕ) (b : ℕ) (text : List ℕ) → (l : ℕ × List ℕ × Bool) × (lines : List (ℕ × List ℕ × Bool)) × (lines_of (i, b ∷ text) ≡ l ∷ lines)
some_line i b text = elim (cases_Bool (ltb (position_or_len is_line_end (b ∷ text)) (length (b ∷ text)))) [
  | inl is ↦ (_, _, ended i (b ∷ text) is)
  | inr is ↦ (_, _, unended i (b ∷ text) is)
]

none_left : (front : List Item) (i : ℕ) (text : List ℕ) → from front (i, text) place.Nothing ≡ (nothing_at (i, text) >>= λ u. Ok front)
none_left front i [] = ap (λ (l : List Item). Ok l) (append-nil front)
none_left front i (b ∷ text) =
    let some = some_line i b text in
    let more : eqb (suc (length text)) 0 ≡ false = ne_eqb (suc (length text)) 0 (λ none. absurd (omega (arith, none))) in
    ap (λ (lines : List (ℕ × List ℕ × Bool)). said i place.Nothing lines >>= λ r. Ok (front ++ r)) some.2
    ∙ sym (ap (λ (b : Bool). cond b (Ok tt) (Err (trailing i)) >>= λ (u : Unit {0}). Ok front) more)

tree_line : (m rows : ℕ) → Says (place.Tree m rows) (form_at (codes "tree") no_form) (λ u. place.Node m rows) (λ u. item.Tree ∷ [])
tree_line m rows = form_says (place.Tree m rows) (codes "tree") no_form (λ u. item.Tree) (λ u. place.Node m rows) refl (λ i words. refl)

rows_line : (m : ℕ) → Says (place.Rows m) (form_at (codes "rows") (one_form 1048576)) (λ n. rows_from m n n) (λ n. item.Rows n ∷ [])
rows_line m = form_says (place.Rows m) (codes "rows") (one_form 1048576) (λ n. item.Rows n) (λ n. rows_from m n n) refl (λ i words. refl)

four_parts : (front a b c d : List Item) → (((front ++ a) ++ b) ++ c) ++ d ≡ front ++ ((a ++ b) ++ (c ++ d))
four_parts front a b c d = simp append_assoc

proof_end : (front : List Item) (count : ℕ) (rows : List Row) (nodes : List Node) → length rows ≡ count →
    (((front ++ item.Rows count ∷ []) ++ flat_map row_items rows) ++ item.Tree ∷ []) ++ (map (λ n. item.Step n) nodes ++ item.End ∷ []) ≡ front ++ (rows_items rows ++ tree_items nodes)
proof_end front count rows nodes is =
    four_parts front (item.Rows count ∷ []) (flat_map row_items rows) (item.Tree ∷ []) (map (λ n. item.Step n) nodes ++ item.End ∷ [])
    ∙ ap (λ (k : ℕ). front ++ ((item.Rows k ∷ flat_map row_items rows) ++ tree_items nodes)) (sym is)

abbrev pub both : List Row → List Node → Unit {0} → Result (List Row × List Node) Flaw
both rows nodes u = Ok (rows, nodes)

abbrev pub after_nodes : List Row → List Node × Left → Result (List Row × List Node) Flaw
after_nodes rows nodes = nothing_at nodes.1 >>= both rows nodes.0

abbrev pub after_tree : ℕ → ℕ → List Row → Unit {0} × Left → Result (List Row × List Node) Flaw
after_tree m count rows tree = nodes_at m count (length tree.1.1) tree.1 >>= after_nodes rows

abbrev pub after_rows : ℕ → ℕ → List Row × Left → Result (List Row × List Node) Flaw
after_rows m count rows = form_at (codes "tree") no_form rows.1 >>= after_tree m count rows.0

abbrev pub after_count : ℕ → ℕ × Left → Result (List Row × List Node) Flaw
after_count m count = many_at (row_at m) 0 count.0 count.1 >>= after_rows m count.0

pub proof_says : (m : ℕ) (front : List Item) (s : Left) → from front s (place.Rows m) ≡ (proof_at m s >>= λ p. Ok (front ++ (rows_items p.0 ++ tree_items p.1)))
unfolding proof_at
proof_says m front s =
    let K : List Row × List Node → Result (List Item) Flaw = λ p. Ok (front ++ (rows_items p.0 ++ tree_items p.1)) in
    rows_line m front s ∙ chain (form_at (codes "rows") (one_form 1048576) s) _ (after_count m) K (λ n is_n.
    let f1 = front ++ item.Rows n.0 ∷ [] in
    rows_say m n.0 n.0 f1 n.1 ∙ chain (many_at (row_at m) 0 n.0 n.1) _ (after_rows m n.0) K (λ r is_r.
    let f2 = f1 ++ flat_map row_items r.0 in
    tree_line m n.0 f2 r.1 ∙ chain (form_at (codes "tree") no_form r.1) _ (after_tree m n.0 r.0) K (λ t is_t.
    nodes_say m n.0 (length t.1.1) (f2 ++ item.Tree ∷ []) t.1 (omega arith) ∙ chain (nodes_at m n.0 (length t.1.1) t.1) _ (after_nodes r.0) K (λ x is_x.
    none_left ((f2 ++ item.Tree ∷ []) ++ (map (λ y. item.Step y) x.0 ++ item.End ∷ [])) x.1.0 x.1.1 ∙ chain (nothing_at x.1) _ (both r.0 x.0) K (λ u is_u.
    ap (λ (l : List Item). Ok l) (proof_end front n.0 r.0 x.0 (many_length (row_at m) 0 n.0 n.1 r.0 r.1 is_r)))))))

-- ---- the whole answer

nothing_before : (read : Result (List Item) Flaw) → read ≡ (read >>= λ r. Ok ([] ++ r))
nothing_before (Ok r) = refl
nothing_before (Err e) = refl

abbrev pub with_proof : Front → List Row × List Node → Result Answer Flaw
with_proof f proof = Ok (record {
  graph = f.graph;
  loops = f.loops;
  lower = f.lower;
  upper = f.upper;
  spent = f.spent;
  budget = f.budget;
  drawing = f.drawing;
  rows = proof.0;
  tree = proof.1;
})

abbrev pub after_front : Front × Left → Result Answer Flaw
after_front front = proof_at (length front.0.graph.ends) front.1 >>= with_proof front.0

regrouped : (a b c d e : List Item) → (a ++ (b ++ (c ++ d))) ++ e ≡ a ++ (b ++ (c ++ (d ++ e)))
regrouped a b c d e = simp append_assoc

answer_says : (text : List ℕ) → said 1 place.Header (lines_of (1, text)) ≡ (answer_of text >>= λ a. Ok (items_of a))
unfolding answer_of
answer_says text =
    let K : Answer → Result (List Item) Flaw = λ a. Ok (items_of a) in
    nothing_before (said 1 place.Header (lines_of (1, text)))
    ∙ front_says [] (1, text) ∙ chain (front_at (1, text)) _ after_front K (λ f is_f.
    proof_says (length f.0.graph.ends) (front_items f.0) f.1 ∙ chain (proof_at (length f.0.graph.ends) f.1) _ (with_proof f.0) K (λ p is_p.
    ap (λ (l : List Item). Ok l) (regrouped (graph_items f.0.graph f.0.loops) (bounds_items f.0.lower f.0.upper f.0.spent f.0.budget) (drawing_items f.0.drawing) (item.Drawn ∷ []) (rows_items p.0 ++ tree_items p.1))))

abbrev pub bare : ℕ × List ℕ × Bool → Line
bare l = (l.1, l.2)

length-map : (lines : List (ℕ × List ℕ × Bool)) → length (map bare lines) ≡ length lines
length-map [] = refl
length-map (l ∷ lines) = ap suc (length-map lines)

pub lines_say_the_answer : (text : List ℕ) → length (text_lines text) < 2 ^ 64 - 1 → up_to_end (lines_at start_state (text_lines text)) ≡ (answer_of text >>= λ a. Ok (items_of a))
lines_say_the_answer text few =
    let lines = lines_of (1, text) in
    numbers_agree 1 place.Header lines (omega (arith, few, length-map lines)) ∙ answer_says text

-- they say the same, however many they are
pub lines_say_its_items : LinesSayItsItems
lines_say_its_items text items =
    let lines = lines_of (1, text) in (
      λ e. sym (answer_says text) ∙ lines_any lines place.Header 1 1 items e,
      λ e. said_any lines place.Header 1 1 items (answer_says text ∙ e),
    )
