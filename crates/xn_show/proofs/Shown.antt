-- The graph of the text that shows a drawing.
use Rattle.std.proofs.Common.{◌≡◌, ℕ, ℤ, pos, zero, suc, ◌+◌, ◌*◌, ◌^◌, ◌<◌, ◌≤◌, false, List, [], ◌∷◌, ◌++◌, length, All, replicate, codes, ltb, Ok, FitsSigned, refl, sym, ap, ◌∙◌, subst, arith}
use Rattle.std.specs.Prelude.{filter, slice_index_or}
use Rattle.std.specs.Int.{w64}
use Rattle.std.specs.List.{AllByRecursion, flat_map, range_with_len}
use Rattle.std.proofs.lemmas.Bool.{ltb-true}
use Rattle.std.proofs.lemmas.Fmt.{decimal_digit}
use Rattle.std.proofs.lemmas.List.{append-nil, take_all}
use Rattle.xn_model.specs.Drawing.{IsListedDrawing, drawn_web, order_of}
use Rattle.xn_model.specs.Graph.{Graph, HasNoLoop, edges_of, ends_at}
use Rattle.xn_model.specs.Lists.{at}
use Rattle.xn_model.specs.Permutation.{walk}
use Rattle.xn_graph.specs.Limits.{IsLimitedGraph, IsLimitedWeb}
use Rattle.xn_graph.proofs.Ends.{EndsIn-at}
use Rattle.xn_gml.specs.declared.pair.Pair.{Pair}
use Rattle.xn_gml.specs.declared.token.Key.TheVariants as key
use Rattle.xn_gml.specs.declared.token.Kind.{Kind}
use Rattle.xn_gml.specs.declared.token.Kind.TheVariants.{Open, Close, Word}
use Rattle.xn_gml.specs.declared.token.Token.{Token}
use Rattle.xn_gml.specs.Grammar.{grammar_from}
use Rattle.xn_gml.specs.Lists.{is_list_of, lists_of, listed_pairs_from}
use Rattle.xn_gml.specs.Meaning.{edges_from, graph_in, graph_within, ids_from, list_of, no_edges}
use Rattle.xn_gml.specs.Tokens.{ends_run, token, tokens_from, tokens_of}
use Rattle.xn_kinds.specs.declared.drawings.Drawing.{Drawing}
use Rattle.xn_orders.proofs.Limits.{web_limited}
use Rattle.xn_orders.proofs.LoopFree.{no_loop}
use Rattle.xn_orders.proofs.Rising.{each_append}
use Rattle.xn_gml.proofs.TokenRules.{no_bytes}
use Rattle.xn_show.specs.Laws.{found_web, numbered}
use Rattle.xn_show.specs.Text.{node_line, segment_edges, segment_line, segments_text, show_text}
use Rattle.xn_graph.specs.Stars.{darts_of}
use Rattle.xn_graph.proofs.DartsOf.{darts_of-at}
use Rattle.xn_show.specs.Turns.{turn_of}
use Rattle.xn_show.proofs.Blocks.{edges_found, edges_so, ids_found, length-numbered}
use Rattle.xn_show.proofs.Lines.{directed_is, graph_is, lines_first, node_first, node_kinds, segment_first, segment_kinds}
use Rattle.xn_show.proofs.Numbers.{integer, number_first}
use Rattle.xn_show.proofs.TokenKinds.{Reads, close_first, lacks_tested, located, open_first, reads_none, run_first, separator_first, word_first}
use Rattle.xn_show.proofs.Shapes.{EachPair, HasEnds, HasInteger, close_has_none, close_inside, close_keeps, each_block, node_block, node_inside, node_is_no_edge, node_keeps, passes_all, segment_block, segment_inside, segment_is_no_node, segment_keeps, without_first}

-- ---- small numbers

walk_small : (f : ℕ → ℕ) (n : ℕ) → n < 10 ^ 64 → ((d : ℕ) → d < n → f d < n) → (k d : ℕ) → (0 < k → d < n) → AllByRecursion (λ m. m < 10 ^ 64) (walk f k d)
walk_small f n small inside zero d start = tt
walk_small f n small inside (suc k) d start =
    let here = start (omega arith) in
    (omega (arith, here, small), walk_small f n small inside k (f d) (λ some. inside d here))

replicate_below : (m e k : ℕ) → e < m → AllByRecursion (λ x. x < m) (replicate k e)
replicate_below m e zero below = tt
replicate_below m e (suc k) below = (below, replicate_below m e k below)

edges_below : (ord : ℕ → List ℕ) (m a n : ℕ) → a + n ≤ m → AllByRecursion (λ x. x < m) (segment_edges (range_with_len a n) ord)
edges_below ord m a zero room = tt
edges_below ord m a (suc n) room =
    each_append (λ x. x < m) (replicate (suc (length (ord a))) a) (segment_edges (range_with_len (a + 1) n) ord)
    (replicate_below m a (suc (length (ord a))) (omega arith)) (edges_below ord m (a + 1) n (omega arith))

at_below : (m : ℕ) (xs : List ℕ) (i : ℕ) → 0 < m → AllByRecursion (λ x. x < m) xs → at xs i < m
at_below m [] i some below = some
at_below m (x ∷ xs) zero some below = below.0
at_below m (x ∷ xs) (suc i) some below = at_below m xs i some below.1

-- ---- the first lines

abbrev all_kinds : List Kind → List Kind
all_kinds ks = Word key.Graph ∷ Open ∷ Word key.Other ∷ integer 0 ∷ ks

head_first : (rest end : List ℕ) (ks : List Kind) → Reads rest ks end → Reads (codes "graph [\n  directed 0\n" ++ rest) (all_kinds ks) end
head_first rest end ks after =
    let P : List ℕ → Type 0 = λ t. Reads (t ++ 10 ∷ rest) (integer 0 ∷ ks) end in
    let zero_first : Reads (48 ∷ 10 ∷ rest) (integer 0 ∷ ks) end = subst P (decimal_digit 0 (omega arith)) (number_first (separator_first after 10 refl) refl 0 (omega arith)) in
    let directed = word_first zero_first 100 (codes "irected") (Word key.Other) refl refl directed_is in
    run_first (separator_first (open_first (separator_first (separator_first directed 32 refl) 10 refl)) 32 refl) 103 (codes "raph") (Word key.Graph) refl
    (lacks_tested ends_run (codes "graph") refl) refl graph_is

head_keeps : (end : ℕ) (f : ℕ → ℕ) (ks : List Kind) → grammar_from end false 0 (located f (all_kinds ks)) ≡ grammar_from end false 1 (located (without_first 4 f) ks)
unfolding grammar_from
head_keeps end f ks = refl

-- the tokens of the list of the graph
abbrev inner : (ℕ → ℕ) → List Kind → List Token
inner f ks = located (without_first 2 f) (Word key.Other ∷ integer 0 ∷ ks)

abbrev graph_pair : (ℕ → ℕ) → List Kind → Pair
graph_pair f ks = record { key = key.Graph; at = f 0; value = token (f 1) Open; list = inner f ks }

head_is_graph : (f : ℕ → ℕ) (ks : List Kind) → listed_pairs_from 1 (located (without_first 4 f) ks) ≡ [] → lists_of key.Graph (located f (all_kinds ks)) ≡ graph_pair f ks ∷ []
unfolding listed_pairs_from
head_is_graph f ks none = ap (λ (ps : List Pair). graph_pair f ks ∷ filter (is_list_of key.Graph) ps) none

inner_nodes : (f : ℕ → ℕ) (ks : List Kind) → lists_of key.Node (inner f ks) ≡ lists_of key.Node (located (without_first 4 f) ks)
unfolding listed_pairs_from
inner_nodes f ks = refl

inner_edges : (f : ℕ → ℕ) (ks : List Kind) → lists_of key.Edge (inner f ks) ≡ lists_of key.Edge (located (without_first 4 f) ks)
unfolding listed_pairs_from
inner_edges f ks = refl

no_mark : (rest : List ℕ) → tokens_of (codes "graph [\n  directed 0\n" ++ rest) ≡ tokens_from 0 0 (codes "graph [\n  directed 0\n" ++ rest)
unfolding tokens_of
no_mark rest = refl

list_is : (text : List ℕ) (f : ℕ → ℕ) (ks : List Kind) → tokens_of text ≡ located f (all_kinds ks) → ((end : ℕ) → grammar_from end false 0 (located f (all_kinds ks)) ≡ Ok tt) →
    lists_of key.Graph (located f (all_kinds ks)) ≡ graph_pair f ks ∷ [] → list_of text ≡ Ok (inner f ks)
unfolding list_of
list_is text f ks tokens keeps graphs = rw (tokens, keeps (length text), graphs) refl

graph_is_found : (most : ℕ) (text : List ℕ) (list : List Token) (nodes : ℕ) (ends : List (ℕ × ℕ)) → list_of text ≡ Ok list → ids_from most [] (lists_of key.Node list) ≡ Ok (numbered nodes) →
    edges_from most (numbered nodes) no_edges (lists_of key.Edge list) ≡ Ok (edges_so ends) → graph_within most text ≡ Ok (found_web (record { nodes = nodes; ends = ends }))
unfolding graph_within graph_in
graph_is_found most text list nodes ends read ids edges =
    rw (read, ids, edges) (ap (λ (n : ℕ). Ok (record { graph = record { nodes = n; ends = ends }; ids = numbered nodes; loops = 0 })) (length-numbered nodes))

-- ---- the whole text

module _ (g : Graph) (ids : List ℤ) (d : Drawing) (limited : IsLimitedGraph g) (ids_fit : All (FitsSigned w64) ids) (drawing : IsListedDrawing g d.orders d.next) where
  abbrev web : Graph
  web = drawn_web g d.orders

  abbrev of : List ℕ
  of = segment_edges (edges_of g) (order_of g d.orders)

  abbrev nodes_kinds : ℕ → List Kind
  nodes_kinds v = node_kinds (ltb v (length ids)) v

  abbrev segments_kinds : ℕ → List Kind
  segments_kinds s = segment_kinds s (ends_at web.ends s) (at of s)

  web_small : IsLimitedWeb web
  web_small = web_limited g (edges_of g) (order_of g d.orders) limited drawing.drawing.orders

  turn_small : (v : ℕ) → AllByRecursion (λ m. m < 10 ^ 64) (turn_of web.ends (at d.next) v)
  turn_small v =
      walk_small (at d.next) (2 * length web.ends) (omega (arith, web_small.few_segments)) drawing.drawing.is_flat_map.is_map.permutes.below (length (darts_of web.ends v)) (at (darts_of web.ends v) 0)
      (λ some. (darts_of-at web.ends v 0 some).0)

  of_small : (s : ℕ) → at of s < 2 ^ 63
  of_small s =
      let below = at_below 1001 of s (omega arith) (edges_below (order_of g d.orders) 1001 0 (length g.ends) (omega (arith, limited.few_edges))) in
      omega (arith, below)

  abbrev lines : List Kind
  lines = flat_map nodes_kinds (range_with_len 0 web.nodes) ++ (flat_map segments_kinds (range_with_len 0 (length web.ends)) ++ Close ∷ [])

  reads_text : Reads (show_text g ids d) (all_kinds lines) []
  reads_text =
      let node : (v : ℕ) → v < 0 + web.nodes → (rest end : List ℕ) (ls : List Kind) → Reads rest ls end → Reads (node_line ids v (turn_of web.ends (at d.next) v) ++ rest) (nodes_kinds v ++ ls) end =
      λ v low rest end ls after. node_first after (turn_of web.ends (at d.next) v) (turn_small v) (ltb v (length ids)) (slice_index_or ids v (pos 0)) v
      (λ h. ids_fit v (pos 0) (ltb-true v (length ids) h)) (omega (arith, low, web_small.few_nodes)) in
      let segment : (s : ℕ) → s < 0 + length web.ends → (rest end : List ℕ) (ls : List Kind) → Reads rest ls end → Reads (segment_line s (ends_at web.ends s) (at of s) ++ rest) (segments_kinds s ++ ls) end =
      λ s low rest end ls after. (
      let ends = EndsIn-at web.nodes web.ends web_small.ends_in s (omega (arith, low)) in
      segment_first after s (ends_at web.ends s) (at of s) (omega (arith, low, web_small.few_segments)) (omega (arith, ends.0, web_small.few_nodes)) (omega (arith, ends.1, web_small.few_nodes)) (of_small s)
      ) in
      let last : Reads (codes "]\n") (Close ∷ []) [] = close_first (separator_first (reads_none []) 10 refl) in
      let segments = lines_first (λ s. segment_line s (ends_at web.ends s) (at of s)) segments_kinds 0 (length web.ends) segment (codes "]\n") [] (Close ∷ []) last in
      head_first _ [] lines
      (lines_first (λ v. node_line ids v (turn_of web.ends (at d.next) v)) nodes_kinds 0 web.nodes node (segments_text web.ends of ++ codes "]\n") [] (flat_map segments_kinds (range_with_len 0 (length web.ends)) ++ Close ∷ []) segments)

  -- the kinds of the lines of the segments, and `]`
  abbrev last_kinds : List Kind
  last_kinds = flat_map segments_kinds (range_with_len 0 (length web.ends)) ++ Close ∷ []

  keeps : (end : ℕ) (f : ℕ → ℕ) → grammar_from end false 1 (located f lines) ≡ Ok tt
  keeps end f =
      let nodes = passes_all (grammar_from end false 1) nodes_kinds (λ v. node_keeps end (ltb v (length ids)) v) (range_with_len 0 web.nodes) f last_kinds in
      let segments = passes_all (grammar_from end false 1) segments_kinds (λ s. segment_keeps end s (ends_at web.ends s) (at of s)) (range_with_len 0 (length web.ends)) nodes.0 (Close ∷ []) in
      nodes.1 ∙ segments.1 ∙ close_keeps end segments.0

  inside : (f : ℕ → ℕ) → listed_pairs_from 1 (located f lines) ≡ []
  inside f =
      let nodes = passes_all (listed_pairs_from 1) nodes_kinds (λ v. node_inside (ltb v (length ids)) v) (range_with_len 0 web.nodes) f last_kinds in
      let segments = passes_all (listed_pairs_from 1) segments_kinds (λ s. segment_inside s (ends_at web.ends s) (at of s)) (range_with_len 0 (length web.ends)) nodes.0 (Close ∷ []) in
      nodes.1 ∙ segments.1 ∙ close_inside segments.0

  node_blocks : (f : ℕ → ℕ) → EachPair (λ v p. HasInteger key.Id p v) (range_with_len 0 web.nodes) (lists_of key.Node (located f lines))
  node_blocks f =
      each_block key.Node nodes_kinds (λ v p. HasInteger key.Id p v) (λ v. node_block (ltb v (length ids)) v) (range_with_len 0 web.nodes) f last_kinds
      (λ h. (
      let segments = passes_all (lists_of key.Node) segments_kinds (λ s. segment_is_no_node s (ends_at web.ends s) (at of s)) (range_with_len 0 (length web.ends)) h (Close ∷ []) in
      segments.1 ∙ close_has_none key.Node segments.0
      ))

  edge_blocks : (f : ℕ → ℕ) → EachPair (λ s p. HasEnds p (ends_at web.ends s)) (range_with_len 0 (length web.ends)) (lists_of key.Edge (located f lines))
  edge_blocks f =
      let nodes = passes_all (lists_of key.Edge) nodes_kinds (λ v. node_is_no_edge (ltb v (length ids)) v) (range_with_len 0 web.nodes) f last_kinds in
      subst (EachPair (λ s p. HasEnds p (ends_at web.ends s)) (range_with_len 0 (length web.ends))) (sym nodes.1)
      (each_block key.Edge segments_kinds (λ s p. HasEnds p (ends_at web.ends s)) (λ s. segment_block s (ends_at web.ends s) (at of s)) (range_with_len 0 (length web.ends)) nodes.0 (Close ∷ []) (close_has_none key.Edge))

  pub shown_graph : (most : ℕ) → web.nodes ≤ most → length web.ends ≤ most → graph_within most (show_text g ids d) ≡ Ok (found_web web)
  shown_graph most nodes_room ends_room =
      let text = show_text g ids d in
      let read = reads_text 0 in
      let f = read.places in
      let tokens : tokens_of text ≡ located f (all_kinds lines) =
      no_mark _ ∙ read.tokens ∙ ap (λ (ts : List Token). located f (all_kinds lines) ++ ts) (no_bytes read.stop) ∙ append-nil (located f (all_kinds lines)) in
      let after = without_first 4 f in
      let list : list_of text ≡ Ok (inner f lines) =
      list_is text f lines tokens (λ end. head_keeps end f lines ∙ keeps end after) (head_is_graph f lines (inside after)) in
      let ids_are : ids_from most [] (lists_of key.Node (inner f lines)) ≡ Ok (numbered web.nodes) =
      ap (ids_from most []) (inner_nodes f lines) ∙ ids_found most 0 web.nodes (lists_of key.Node (located after lines)) (omega (arith, nodes_room)) (node_blocks after) ∙ ap (λ (n : ℕ). Ok (numbered n)) (omega arith) in
      let no_loops : HasNoLoop web.ends = no_loop g (edges_of g) (order_of g d.orders) limited.is_graph drawing.drawing.orders in
      let edges_are : edges_from most (numbered web.nodes) no_edges (lists_of key.Edge (inner f lines)) ≡ Ok (edges_so web.ends) =
      ap (edges_from most (numbered web.nodes) no_edges) (inner_edges f lines)
      ∙ edges_found most web.nodes web.ends web_small.ends_in no_loops ends_room 0 (length web.ends) (lists_of key.Edge (located after lines)) (omega arith) (edge_blocks after)
      ∙ ap (λ (es : List (ℕ × ℕ)). Ok (edges_so es)) (take_all (0 + length web.ends) web.ends (omega arith)) in
      graph_is_found most text (inner f lines) web.nodes web.ends list ids_are edges_are
