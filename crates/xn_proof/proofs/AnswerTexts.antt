-- The whole text of an answer is read exactly where it is spelled.
use Rattle.std.proofs.Common.{◌≡◌, ℕ, zero, suc, ◌+◌, ◌^◌, ◌<◌, ◌≤◌, eqb, true, cond, inl, inr, List, [], ◌∷◌, ◌++◌, length, map, decimal, Option, Some, None, Result, Ok, Err, refl, sym, ap, ◌∙◌, subst, append_assoc, arith}
use Rattle.std.proofs.lemmas.Bool.{eqb-true}
use Rattle.std.proofs.lemmas.List.{append-nil}
use Rattle.std.specs.Prelude.{codes}
use Rattle.std.specs.List.{All}
use Rattle.xn_text.specs.Pieces.{words_of}
use Rattle.xn_kinds.specs.declared.answers.Answer.{Answer}
use Rattle.xn_kinds.specs.declared.flaws.Flaw.{Flaw}
use Rattle.xn_kinds.specs.declared.rows.Row.{Row}
use Rattle.xn_kinds.specs.declared.trees.Node.{Node}
use Rattle.xn_kinds.specs.declared.trees.Node.TheVariants.{Pair, Place, Leaf}
use Rattle.xn_proof.specs.declared.front.Front.{Front}
use Rattle.xn_proof.specs.Fronts.{front_at}
use Rattle.xn_proof.specs.Proofs.{after_node, answer_of, end_of, leaf_of, node_of, nodes_at, nothing_at, pair_of, place_of, proof_at, row_at}
use Rattle.xn_proof.specs.Ranges.{edges_form, leaf_form, no_form, one_form}
use Rattle.xn_proof.specs.Reading.{◌>>=◌, Left, form_at, has_key, keyed_form, line_at, many_at, trailing}
use Rattle.xn_proof.specs.Spelling.{bounds_text, drawing_text, each, front_text, graph_text, line, node_key, node_line, node_numbers, proof_text, row_text, text_of}
use Rattle.xn_proof.specs.WellFormed.{IsFront, IsNodeText, IsRowText, WellFormed}
use Rattle.xn_proof.proofs.FrontTexts.{front_again, front_takes, regroup_three}
use Rattle.xn_proof.proofs.Keyed.{AreSmall, IsKey, lacks_tested, line_is_taken, line_spelled, line_takes}
use Rattle.xn_proof.proofs.Nodes.{line_shortens}
use Rattle.xn_proof.proofs.ProofTexts.{choose, row_item}
use Rattle.xn_proof.proofs.Shapes.{IsItem, form_item, keyed_form_again, keyed_form_takes, many_again, many_takes}
use Rattle.xn_proof.proofs.Steps.{bind_ok, guard, ok, ok_is, all_cons, all_first, all_none, all_rest}
use Rattle.xn_proof.proofs.Values.{IsLeaf, edges_is, leaf_is, leaf_numbers, no_is, one_is}

-- ---- nodes

abbrev BothBelow : ℕ → ℕ × ℕ → Type 0
BothBelow m p = (p.0 < m) × (p.1 < m)

abbrev node_words : Node → List (List ℕ)
node_words node = node_key node ∷ map decimal (node_numbers node)

-- the words of a node's line, or of the end
abbrev NodeRead : ℕ → ℕ → List (List ℕ) → Option Node → Type 0
NodeRead m rows words None = words ≡ codes "end" ∷ []
NodeRead m rows words (Some node) = (words ≡ node_words node) × IsNodeText m rows node

pair_takes : (m rows i : ℕ) (words : List (List ℕ)) (node : Option Node) → m ≤ 2 ^ 64 → pair_of m i words ≡ Ok node → NodeRead m rows words node
pair_takes m rows i words node few e =
    let k = bind_ok (keyed_form (codes "pair") (edges_form m) i words) (λ p. Ok (Some (Pair p.0 p.1))) node e in
    subst (NodeRead m rows words) (ok_is (Some (Pair k.0.0 k.0.1)) node k.2) (keyed_form_takes (codes "pair") (edges_form m) (λ p. p.0 ∷ p.1 ∷ []) (BothBelow m) (edges_is m few) i words k.0 k.1)

place_takes : (m rows i : ℕ) (words : List (List ℕ)) (node : Option Node) → m ≤ 2 ^ 64 → place_of m i words ≡ Ok node → NodeRead m rows words node
place_takes m rows i words node few e =
    let k = bind_ok (keyed_form (codes "place") (edges_form m) i words) (λ p. Ok (Some (Place p.0 p.1))) node e in
    subst (NodeRead m rows words) (ok_is (Some (Place k.0.0 k.0.1)) node k.2) (keyed_form_takes (codes "place") (edges_form m) (λ p. p.0 ∷ p.1 ∷ []) (BothBelow m) (edges_is m few) i words k.0 k.1)

leaf_takes : (m rows i : ℕ) (words : List (List ℕ)) (node : Option Node) → rows ≤ 2 ^ 64 → leaf_of rows i words ≡ Ok node → NodeRead m rows words node
leaf_takes m rows i words node few e =
    let k = bind_ok (keyed_form (codes "leaf") (leaf_form rows) i words) (λ l. Ok (Some (Leaf l.0 l.1))) node e in
    subst (NodeRead m rows words) (ok_is (Some (Leaf k.0.0 k.0.1)) node k.2) (keyed_form_takes (codes "leaf") (leaf_form rows) leaf_numbers (IsLeaf rows) (leaf_is rows few) i words k.0 k.1)

end_takes : (m rows i : ℕ) (words : List (List ℕ)) (node : Option Node) → end_of i words ≡ Ok node → NodeRead m rows words node
end_takes m rows i words node e =
    let k = bind_ok (keyed_form (codes "end") no_form i words) (λ u. Ok None) node e in
    let none : None ≡ node = ok_is None node k.2 in
    subst (NodeRead m rows words) none (keyed_form_takes (codes "end") no_form (λ u. []) (λ u. Unit {0}) no_is i words k.0 k.1).0

node_takes : (m rows i : ℕ) (words : List (List ℕ)) (node : Option Node) → m ≤ 2 ^ 64 → rows ≤ 2 ^ 64 → node_of m rows i words ≡ Ok node → NodeRead m rows words node
unfolding node_of
node_takes m rows i words node few_edges few_rows e = elim (choose (has_key (codes "pair") words) (pair_of m i words) (cond (has_key (codes "place") words) (place_of m i words) (cond (has_key (codes "leaf") words) (leaf_of rows i words) (end_of i words))) (Ok node) e) [
  | inl pair ↦ pair_takes m rows i words node few_edges pair
  | inr after_pair ↦ elim (choose (has_key (codes "place") words) (place_of m i words) (cond (has_key (codes "leaf") words) (leaf_of rows i words) (end_of i words)) (Ok node) after_pair) [
    | inl place ↦ place_takes m rows i words node few_edges place
    | inr after_place ↦ elim (choose (has_key (codes "leaf") words) (leaf_of rows i words) (end_of i words) (Ok node) after_place) [
      | inl leaf ↦ leaf_takes m rows i words node few_rows leaf
      | inr end ↦ end_takes m rows i words node end
    ]
  ]
]

node_again : (m rows i : ℕ) (node : Node) → m ≤ 2 ^ 64 → rows ≤ 2 ^ 64 → IsNodeText m rows node → node_of m rows i (node_words node) ≡ Ok (Some node)
unfolding node_of
node_again m rows i (Pair e f) few_edges few_rows fits = rw (keyed_form_again (codes "pair") (edges_form m) (λ p. p.0 ∷ p.1 ∷ []) (BothBelow m) (edges_is m few_edges) i (e, f) fits) refl
node_again m rows i (Place e f) few_edges few_rows fits = rw (keyed_form_again (codes "place") (edges_form m) (λ p. p.0 ∷ p.1 ∷ []) (BothBelow m) (edges_is m few_edges) i (e, f) fits) refl
node_again m rows i (Leaf d parts) few_edges few_rows fits = rw (keyed_form_again (codes "leaf") (leaf_form rows) leaf_numbers (IsLeaf rows) (leaf_is rows few_rows) i (d, parts) fits) refl

end_again : (m rows i : ℕ) → node_of m rows i (codes "end" ∷ []) ≡ Ok None
unfolding node_of
end_again m rows i = rw (keyed_form_again (codes "end") no_form (λ u. []) (λ u. Unit {0}) no_is i tt tt) refl

node_small : (m rows : ℕ) (node : Node) → m ≤ 2 ^ 64 → rows ≤ 2 ^ 64 → IsNodeText m rows node → AreSmall (node_numbers node)
node_small m rows (Pair e f) few_edges few_rows fits = (edges_is m few_edges).small (e, f) fits
node_small m rows (Place e f) few_edges few_rows fits = (edges_is m few_edges).small (e, f) fits
node_small m rows (Leaf d parts) few_edges few_rows fits = (leaf_is rows few_rows).small (d, parts) fits

node_is_key : (node : Node) → IsKey (node_key node)
node_is_key (Pair e f) = record { no_end = lacks_tested 10 (codes "pair") refl; no_space = lacks_tested 32 (codes "pair") refl }
node_is_key (Place e f) = record { no_end = lacks_tested 10 (codes "place") refl; no_space = lacks_tested 32 (codes "place") refl }
node_is_key (Leaf d parts) = record { no_end = lacks_tested 10 (codes "leaf") refl; no_space = lacks_tested 32 (codes "leaf") refl }

end_is_key : IsKey (codes "end")
end_is_key = record { no_end = lacks_tested 10 (codes "end") refl; no_space = lacks_tested 32 (codes "end") refl }

abbrev nodes_text : List Node → List ℕ
nodes_text nodes = each node_line nodes ++ line (codes "end") []

abbrev NodesAre : ℕ → ℕ → List ℕ → List Node → Left → Type 0
NodesAre m rows text nodes after = (text ≡ nodes_text nodes ++ after.1) × All (IsNodeText m rows) nodes

regroup_nodes : (a b c rest : List ℕ) → ((a ++ b) ++ c) ++ rest ≡ a ++ ((b ++ c) ++ rest)
regroup_nodes a b c rest = simp append_assoc

nodes_take : (m rows k : ℕ) → m ≤ 2 ^ 64 → rows ≤ 2 ^ 64 → (s : Left) (nodes : List Node) (after : Left) → nodes_at m rows k s ≡ Ok (nodes, after) → NodesAre m rows s.1 nodes after
unfolding nodes_at
nodes_take m rows zero few_edges few_rows s nodes after e = absurd cc
nodes_take m rows (suc k) few_edges few_rows s nodes after e =
    let l = bind_ok (line_at s) (λ l. node_of m rows l.0.0 (words_of l.0.1) >>= λ n. after_node n l.1 (nodes_at m rows k l.1)) (nodes, after) e in
    let n = bind_ok (node_of m rows l.0.0.0 (words_of l.0.0.1)) (λ n. after_node n l.0.1 (nodes_at m rows k l.0.1)) (nodes, after) l.2 in
    let first = line_takes s l.0.0 l.0.1 l.1 in
    goes (λ left ns then h. nodes_take m rows k few_edges few_rows left ns then h) l.0.0.1 l.0.1 n.0 (node_takes m rows l.0.0.0 (words_of l.0.0.1) n.0 few_edges few_rows n.1) first n.2
  where
    goes : ((left : Left) (ns : List Node) (then : Left) → nodes_at m rows k left ≡ Ok (ns, then) → NodesAre m rows left.1 ns then) → (bytes : List ℕ) (left : Left) (node : Option Node) → NodeRead m rows (words_of bytes) node → s.1 ≡ bytes ++ 10 ∷ left.1 → after_node node left (nodes_at m rows k left) ≡ Ok (nodes, after) → NodesAre m rows s.1 nodes after
    goes below bytes left None words first h =
        subst (λ (r : List Node × Left). NodesAre m rows s.1 r.0 r.1) (ok_is ([], left) (nodes, after) h)
        (first ∙ line_spelled (codes "end") bytes [] left.1 words, all_none (IsNodeText m rows))
    goes below bytes left (Some node) words first h =
        let r = bind_ok (nodes_at m rows k left) (λ ns. Ok (node ∷ ns.0, ns.1)) (nodes, after) h in
        let rest = below left r.0.0 r.0.1 r.1 in
        let line_is = first ∙ line_spelled (node_key node) bytes (node_numbers node) left.1 words.0 in
        subst (λ (r : List Node × Left). NodesAre m rows s.1 r.0 r.1) (ok_is (node ∷ r.0.0, r.0.1) (nodes, after) r.2)
        (line_is ∙ ap (λ (t : List ℕ). node_line node ++ t) rest.0 ∙ sym (regroup_nodes (node_line node) (each node_line r.0.0) (line (codes "end") []) r.0.1.1), all_cons (IsNodeText m rows) node r.0.0 words.1 rest.1)

-- a node is read, and then the others
one_more : (m rows k i : ℕ) (node : Node) (nodes : List Node) (others rest : List ℕ) (j : ℕ) (bytes : List ℕ) → line_at (i, node_line node ++ others) ≡ Ok ((i, bytes), (i + 1, others)) →
    node_of m rows i (words_of bytes) ≡ Ok (Some node) → nodes_at m rows k (i + 1, others) ≡ Ok (nodes, (j, rest)) → nodes_at m rows (suc k) (i, node_line node ++ others) ≡ Ok (node ∷ nodes, (j, rest))
unfolding nodes_at
one_more m rows k i node nodes others rest j bytes taken said tail = rw (taken, said, tail) refl

nodes_again : (m rows k : ℕ) → m ≤ 2 ^ 64 → rows ≤ 2 ^ 64 → (nodes : List Node) (i : ℕ) (rest : List ℕ) → All (IsNodeText m rows) nodes → length (nodes_text nodes ++ rest) ≤ k →
    (j : ℕ) × (nodes_at m rows k (i, nodes_text nodes ++ rest) ≡ Ok (nodes, (j, rest)))
unfolding nodes_at
nodes_again m rows zero few_edges few_rows [] i rest all enough =
    let first = line_is_taken (codes "end") [] i rest end_is_key (all_none (λ n. n < 2 ^ 64)) in
    let less = line_shortens (i, line (codes "end") [] ++ rest) (i, first.bytes) (i + 1, rest) first.taken in
    absurd (omega (arith, less, enough))
nodes_again m rows (suc k) few_edges few_rows [] i rest all enough =
    let first = line_is_taken (codes "end") [] i rest end_is_key (all_none (λ n. n < 2 ^ 64)) in
    (i + 1, rw (first.taken, first.words, end_again m rows i) refl)
nodes_again m rows zero few_edges few_rows (node ∷ nodes) i rest all enough =
    let others : List ℕ = nodes_text nodes ++ rest in
    let grouped = regroup_nodes (node_line node) (each node_line nodes) (line (codes "end") []) rest in
    let fits : IsNodeText m rows node = all_first (IsNodeText m rows) node nodes all in
    let first = line_is_taken (node_key node) (node_numbers node) i others (node_is_key node) (node_small m rows node few_edges few_rows fits) in
    let less = line_shortens (i, node_line node ++ others) (i, first.bytes) (i + 1, others) first.taken in
    absurd (omega (arith, less, enough, ap length grouped))
nodes_again m rows (suc k) few_edges few_rows (node ∷ nodes) i rest all enough =
    let others : List ℕ = nodes_text nodes ++ rest in
    let grouped = regroup_nodes (node_line node) (each node_line nodes) (line (codes "end") []) rest in
    let fits : IsNodeText m rows node = all_first (IsNodeText m rows) node nodes all in
    let first = line_is_taken (node_key node) (node_numbers node) i others (node_is_key node) (node_small m rows node few_edges few_rows fits) in
    let less = line_shortens (i, node_line node ++ others) (i, first.bytes) (i + 1, others) first.taken in
    let tail = nodes_again m rows k few_edges few_rows nodes (i + 1) rest (all_rest (IsNodeText m rows) node nodes all) (omega (arith, less, enough, ap length grouped)) in
    (tail.0, ap (λ (t : List ℕ). nodes_at m rows (suc k) (i, t)) grouped ∙ one_more m rows k i node nodes others rest tail.0 first.bytes first.taken (ap (node_of m rows i) first.words ∙ node_again m rows i node few_edges few_rows fits) tail.1)

-- ---- the proof

rows_item : IsItem (form_at (codes "rows") (one_form 1048576)) (λ n. line (codes "rows") (n ∷ [])) (λ n. n ≤ 1048576)
rows_item = form_item (codes "rows") (one_form 1048576) (λ n. n ∷ []) (λ n. n ≤ 1048576) (record { no_end = lacks_tested 10 (codes "rows") refl; no_space = lacks_tested 32 (codes "rows") refl }) (one_is 1048576 (omega arith))

tree_item : IsItem (form_at (codes "tree") no_form) (λ u. line (codes "tree") []) (λ u. Unit {0})
tree_item = form_item (codes "tree") no_form (λ u. []) (λ u. Unit {0}) (record { no_end = lacks_tested 10 (codes "tree") refl; no_space = lacks_tested 32 (codes "tree") refl }) no_is

-- rows and a tree over m edges
record IsProofText (m : ℕ) (rows : List Row) (tree : List Node) : Type 0 where
  few : length rows ≤ 1048576
  rows_fit : All (IsRowText m) rows
  tree_fits : All (IsNodeText m (length rows)) tree

empty_of : (e : List ℕ) → eqb (length e) 0 ≡ true → e ≡ []
empty_of [] h = refl
empty_of (x ∷ xs) h = absurd (omega (arith, eqb-true (length (x ∷ xs)) 0 h))

proof_takes : (m : ℕ) → m ≤ 1000 → (s : Left) (p : List Row × List Node) → proof_at m s ≡ Ok p → (s.1 ≡ proof_text p.0 p.1) × IsProofText m p.0 p.1
unfolding proof_at
proof_takes m few s p e =
    let last : List Row → List Node × Left → Result (List Row × List Node) Flaw = λ rows n. nothing_at n.1 >>= λ u. Ok (rows, n.0) in
    let c = bind_ok (form_at (codes "rows") (one_form 1048576) s) (λ c. many_at (row_at m) 0 c.0 c.1 >>= λ r. form_at (codes "tree") no_form r.1 >>= λ t. nodes_at m c.0 (length t.1.1) t.1 >>= last r.0) p e in
    let r = bind_ok (many_at (row_at m) 0 c.0.0 c.0.1) (λ r. form_at (codes "tree") no_form r.1 >>= λ t. nodes_at m c.0.0 (length t.1.1) t.1 >>= last r.0) p c.2 in
    let t = bind_ok (form_at (codes "tree") no_form r.0.1) (λ t. nodes_at m c.0.0 (length t.1.1) t.1 >>= last r.0.0) p r.2 in
    let n = bind_ok (nodes_at m c.0.0 (length t.0.1.1) t.0.1) (last r.0.0) p t.2 in
    let u = bind_ok (nothing_at n.0.1) (λ u. Ok (r.0.0, n.0.0)) p n.2 in
    let g = guard (eqb (length n.0.1.1) 0) (trailing n.0.1.0) (ok tt) u.0 u.1 in
    let none : n.0.1.1 ≡ [] = empty_of n.0.1.1 g.0 in
    let count = rows_item.takes s c.0.0 c.0.1 c.1 in
    let few_rows = count.1 in
    let rows = many_takes (row_at m) row_text (IsRowText m) (row_item m (omega (arith, few))) 0 c.0.0 c.0.1 r.0 r.1 in
    let long = rows.count in
    let tree = tree_item.takes r.0.1 t.0.0 t.0.1 t.1 in
    let nodes = nodes_take m c.0.0 (length t.0.1.1) (omega (arith, few)) (omega (arith, few_rows)) t.0.1 n.0.0 n.0.1 n.1 in
    let first : s.1 ≡ line (codes "rows") (length r.0.0 ∷ []) ++ c.0.1.1 = subst (λ k. s.1 ≡ line (codes "rows") (k ∷ []) ++ c.0.1.1) (sym long) count.0 in
    let end : t.0.1.1 ≡ nodes_text n.0.0 = nodes.0 ∙ ap (λ (l : List ℕ). nodes_text n.0.0 ++ l) none ∙ append-nil (nodes_text n.0.0) in
    let whole : s.1 ≡ proof_text r.0.0 n.0.0 = first ∙ ap (λ (l : List ℕ). line (codes "rows") (length r.0.0 ∷ []) ++ l) (rows.text_is ∙ ap (λ (l : List ℕ). each row_text r.0.0 ++ l) (tree.0 ∙ ap (λ (l : List ℕ). line (codes "tree") [] ++ l) end)) in
    subst (λ (q : List Row × List Node). (s.1 ≡ proof_text q.0 q.1) × IsProofText m q.0 q.1) (ok_is (r.0.0, n.0.0) p u.2) (
      whole,
      record {
        few = omega (arith, few_rows, long);
        rows_fit = rows.all;
        tree_fits = subst (λ k. All (IsNodeText m k) n.0.0) (sym long) nodes.1;
      },
    )

-- what follows the end decides
abbrev then_nothing : {A : Type 0} → ℕ → List ℕ → A → Result A Flaw
then_nothing j rest x = nothing_at (j, rest) >>= λ u. Ok x

regroup_proof : (a b c d rest : List ℕ) → (a ++ (b ++ (c ++ d))) ++ rest ≡ a ++ (b ++ (c ++ (d ++ rest)))
regroup_proof a b c d rest = simp append_assoc

proof_again : (m : ℕ) → m ≤ 1000 → (i : ℕ) (rows : List Row) (tree : List Node) (rest : List ℕ) → IsProofText m rows tree →
    (j : ℕ) × (proof_at m (i, proof_text rows tree ++ rest) ≡ then_nothing j rest (rows, tree))
unfolding proof_at
proof_again m few i rows tree rest fits =
    let rows_part : List ℕ = each row_text rows in
    let tree_line : List ℕ = line (codes "tree") [] in
    let nodes_part : List ℕ = nodes_text tree in
    let few_rows = fits.few in
    let count = rows_item.again i (length rows) (rows_part ++ (tree_line ++ (nodes_part ++ rest))) fits.few in
    let read = many_again (row_at m) row_text (IsRowText m) (row_item m (omega (arith, few))) rows 0 count.0 (tree_line ++ (nodes_part ++ rest)) fits.rows_fit in
    let header = tree_item.again read.0 tt (nodes_part ++ rest) tt in
    let nodes = nodes_again m (length rows) (length (nodes_part ++ rest)) (omega (arith, few)) (omega (arith, few_rows)) tree header.0 rest fits.tree_fits (omega arith) in
    (nodes.0, rw (regroup_proof (line (codes "rows") (length rows ∷ [])) rows_part tree_line nodes_part rest, count.1, read.1, header.1, nodes.1) refl)

-- ---- the whole

pub answer_takes : (text : List ℕ) (a : Answer) → answer_of text ≡ Ok a → WellFormed a × (text ≡ text_of a)
unfolding answer_of
answer_takes text a e =
    let made : Front → List Row × List Node → Answer = λ f p. record { graph = f.graph; loops = f.loops; lower = f.lower; upper = f.upper; spent = f.spent; budget = f.budget; drawing = f.drawing; rows = p.0; tree = p.1 } in
    let f = bind_ok (front_at (1, text)) (λ f. proof_at (length f.0.graph.ends) f.1 >>= λ p. Ok (made f.0 p)) a e in
    let p = bind_ok (proof_at (length f.0.0.graph.ends) f.0.1) (λ p. Ok (made f.0.0 p)) a f.2 in
    let g = f.0.0 in
    let front = front_takes (1, text) g f.0.1 f.1 in
    let is = front.is_front in
    let proof = proof_takes (length g.graph.ends) is.graph.few_edges f.0.1 p.0 p.1 in
    let fits = proof.1 in
    subst (λ (b : Answer). WellFormed b × (text ≡ text_of b)) (ok_is (made g p.0) a p.2) (
      record { graph = is.graph; loops = is.loops; bounds = is.bounds; drawing = is.drawing; few_rows = fits.few; rows = fits.rows_fit; tree = fits.tree_fits },
      front.text_is ∙ ap (λ (t : List ℕ). front_text g ++ t) proof.0 ∙ regroup_three (graph_text g.graph g.loops) (bounds_text g.lower g.upper g.spent g.budget) (drawing_text g.drawing) (proof_text p.0.0 p.0.1),
    )

regroup_answer : (a b c d rest : List ℕ) → (a ++ (b ++ (c ++ d))) ++ rest ≡ (a ++ (b ++ c)) ++ (d ++ rest)
regroup_answer a b c d rest = simp append_assoc

-- the answer with this proof
abbrev with_proof : Answer → List Row × List Node → Result Answer Flaw
with_proof a p = Ok (record { graph = a.graph; loops = a.loops; lower = a.lower; upper = a.upper; spent = a.spent; budget = a.budget; drawing = a.drawing; rows = p.0; tree = p.1 })

abbrev proof_of : Answer → Unit {0} → Result (List Row × List Node) Flaw
proof_of a u = Ok (a.rows, a.tree)

with_answer : (a : Answer) (r : Result (Unit {0}) Flaw) → ((r >>= proof_of a) >>= with_proof a) ≡ (r >>= λ u. Ok a)
with_answer a (Ok u) = refl
with_answer a (Err f) = refl

answer_again : (a : Answer) (rest : List ℕ) → WellFormed a → (j : ℕ) × (answer_of (text_of a ++ rest) ≡ then_nothing j rest a)
unfolding answer_of
answer_again a rest is =
    let front : Front = record { graph = a.graph; loops = a.loops; lower = a.lower; upper = a.upper; spent = a.spent; budget = a.budget; drawing = a.drawing; line = 0 } in
    let read = front_again 1 front (proof_text a.rows a.tree ++ rest) (record { graph = is.graph; loops = is.loops; bounds = is.bounds; drawing = is.drawing }) in
    let proof = proof_again (length a.graph.ends) is.graph.few_edges read.next a.rows a.tree rest (record { few = is.few_rows; rows_fit = is.rows; tree_fits = is.tree }) in
    (proof.0, rw (regroup_answer (graph_text a.graph a.loops) (bounds_text a.lower a.upper a.spent a.budget) (drawing_text a.drawing) (proof_text a.rows a.tree) rest, read.read, proof.1) (with_answer a (nothing_at (proof.0, rest))))

pub spelled_is_read : (a : Answer) → WellFormed a → answer_of (text_of a) ≡ Ok a
spelled_is_read a is = let read = answer_again a [] is in ap answer_of (sym (append-nil (text_of a))) ∙ read.1

pub none_begins_another : (a b : Answer) (rest : List ℕ) → WellFormed a → WellFormed b → text_of b ≡ text_of a ++ rest → (a ≡ b) × (rest ≡ [])
none_begins_another a b rest is_a is_b e =
    let read = answer_again a rest is_a in
    let same : then_nothing read.0 rest a ≡ Ok b = sym read.1 ∙ ap answer_of (sym e) ∙ spelled_is_read b is_b in
    let u = bind_ok (nothing_at (read.0, rest)) (λ u. Ok a) b same in
    let g = guard (eqb (length rest) 0) (trailing read.0) (ok tt) u.0 u.1 in
    (ok_is a b u.2, empty_of rest g.0)

pub one_answer : (a b : Answer) → WellFormed a → WellFormed b → text_of a ≡ text_of b → a ≡ b
one_answer a b is_a is_b e = (none_begins_another a b [] is_a is_b (sym e ∙ sym (append-nil (text_of a)))).0

pub front_is_spelled : (text : List ℕ) (f : Front) (number : ℕ) (rest : List ℕ) → front_at (1, text) ≡ Ok (f, (number, rest)) → IsFront f × (text ≡ front_text f ++ rest)
front_is_spelled text f number rest e = let front = front_takes (1, text) f (number, rest) e in (front.is_front, front.text_is)
