-- The lines up to `drawn`, one by one.
use Rattle.std.proofs.Common.{◌≡◌, ℕ, ◌+◌, ◌-◌, ◌^◌, List, [], ◌∷◌, ◌++◌, Result, Ok, length, map, refl, sym, ap, ◌∙◌, append_assoc, arith}
use Rattle.std.specs.Prelude.{codes}
use Rattle.xn_model.specs.Graph.{Graph}
use Rattle.xn_model.specs.Lists.{total}
use Rattle.xn_graph.specs.Limits.{graph_of}
use Rattle.xn_kinds.specs.declared.drawings.Drawing.{Drawing}
use Rattle.xn_kinds.specs.declared.flaws.Flaw.{Flaw}
use Rattle.xn_proof.specs.declared.front.Front.{Front}
use Rattle.xn_proof.specs.declared.item.Item.{Item}
use Rattle.xn_proof.specs.declared.item.Item.TheVariants as item
use Rattle.xn_proof.specs.declared.places.Place.{Place}
use Rattle.xn_proof.specs.declared.places.Place.TheVariants as place
use Rattle.xn_proof.specs.Forms.{alongs_from, bounds_items, drawing_items, edges_from, graph_items, turns_from}
use Rattle.xn_proof.specs.Fronts.{along_at, bounds_at, drawing_at, edge_at, front_at, graph_at, next_of, turn_at}
use Rattle.xn_proof.specs.Ranges.{edge_form, effort_form, just_form, list_form, no_form, one_form, two_form}
use Rattle.xn_proof.specs.Reading.{◌>>=◌, Left, form_at, many_at}
use Rattle.xn_proof.specs.Spelling.{turns_of}
use Rattle.xn_proof.proofs.LineByLine.{Says, chain, fold_counts, fold_on, form_says, from, many_length, many_lines_say}

-- the same items before the same place
pub from_same : (s : Left) (front again : List Item) (p q : Place) → front ≡ again → p ≡ q → from front s p ≡ from again s q
from_same s front again p q e f = ap (λ (l : List Item). from l s p) e ∙ ap (λ (r : Place). from again s r) f

pub two : (front a b : List Item) → (front ++ a) ++ b ≡ front ++ (a ++ b)
two front a b = append_assoc front a b

pub three : (front a b c : List Item) → ((front ++ a) ++ b) ++ c ≡ front ++ (a ++ (b ++ c))
three front a b c = simp append_assoc

pub four : (front a b c d : List Item) → (((front ++ a) ++ b) ++ c) ++ d ≡ front ++ (a ++ (b ++ (c ++ d)))
four front a b c d = simp append_assoc

-- ---- the graph

header_says : Says place.Header (form_at (codes "crossing-answer") (just_form 1)) (λ u. place.Graph) (λ u. item.Header 1 ∷ [])
header_says = form_says place.Header (codes "crossing-answer") (just_form 1) (λ u. item.Header 1) (λ u. place.Graph) refl (λ i words. refl)

size_says : Says place.Graph (form_at (codes "graph") (two_form 1000 1000)) (λ x. place.Loops x.0 x.1) (λ x. item.Graph x.0 x.1 ∷ [])
size_says = form_says place.Graph (codes "graph") (two_form 1000 1000) (λ x. item.Graph x.0 x.1) (λ x. place.Loops x.0 x.1) refl (λ i words. refl)

loops_say : (nodes m : ℕ) → Says (place.Loops nodes m) (form_at (codes "loops") (one_form (2 ^ 64 - 1))) (λ l. edges_from nodes 0 m) (λ l. item.Loops l ∷ [])
loops_say nodes m = form_says (place.Loops nodes m) (codes "loops") (one_form (2 ^ 64 - 1)) (λ l. item.Loops l) (λ l. edges_from nodes 0 m) refl (λ i words. refl)

edge_says : (nodes e more : ℕ) → Says (place.Edge nodes e more) (edge_at nodes e) (λ x. edges_from nodes (e + 1) more) (λ x. item.Edge x.0 x.1 ∷ [])
edge_says nodes e more = form_says (place.Edge nodes e more) (codes "edge") (edge_form nodes e) (λ x. item.Edge x.0 x.1) (λ x. edges_from nodes (e + 1) more) refl (λ i words. refl)

edges_say : (nodes m : ℕ) → Says (edges_from nodes 0 m) (many_at (edge_at nodes) 0 m) (λ ends. place.Bounds (fold_on (λ n x. n + 1) 0 ends)) (λ ends. map (λ e. item.Edge e.0 e.1) ends)
edges_say nodes m = many_lines_say (edge_at nodes) (λ e. item.Edge e.0 e.1) (λ t x. t) (λ j t k. edges_from nodes j k) (λ j t k. edge_says nodes j k) 0 0 m

graph_end : (front : List Item) (nodes m loops : ℕ) (ends : List (ℕ × ℕ)) (t : Left) → length ends ≡ m →
    from ((((front ++ item.Header 1 ∷ []) ++ item.Graph nodes m ∷ []) ++ item.Loops loops ∷ []) ++ map (λ e. item.Edge e.0 e.1) ends) t (place.Bounds (fold_on (λ n x. n + 1) 0 ends))
    ≡ from (front ++ graph_items (graph_of nodes ends) loops) t (place.Bounds (length ends))
graph_end front nodes m loops ends t is =
    let count : fold_on (λ n x. n + 1) 0 ends ≡ length ends = omega (arith, fold_counts 0 ends) in
    from_same t _ _ _ _ (four front (item.Header 1 ∷ []) (item.Graph nodes m ∷ []) (item.Loops loops ∷ []) (map (λ e. item.Edge e.0 e.1) ends)
    ∙ ap (λ (n : ℕ). front ++ (item.Header 1 ∷ item.Graph nodes n ∷ item.Loops loops ∷ map (λ e. item.Edge e.0 e.1) ends)) (sym is)) (ap (λ (n : ℕ). place.Bounds n) count)

-- the rest of the reading after each line
abbrev pub graph_of_ends : ℕ → ℕ → List (ℕ × ℕ) × Left → Result ((Graph × ℕ) × Left) Flaw
graph_of_ends nodes loops ends = Ok ((graph_of nodes ends.0, loops), ends.1)

abbrev pub after_loops : ℕ → ℕ → ℕ × Left → Result ((Graph × ℕ) × Left) Flaw
after_loops nodes m loops = many_at (edge_at nodes) 0 m loops.1 >>= graph_of_ends nodes loops.0

abbrev pub after_size : (ℕ × ℕ) × Left → Result ((Graph × ℕ) × Left) Flaw
after_size size = form_at (codes "loops") (one_form (2 ^ 64 - 1)) size.1 >>= after_loops size.0.0 size.0.1

abbrev pub after_header : Unit {0} × Left → Result ((Graph × ℕ) × Left) Flaw
after_header header = form_at (codes "graph") (two_form 1000 1000) header.1 >>= after_size

pub graph_says : Says place.Header graph_at (λ h. place.Bounds (length h.0.ends)) (λ h. graph_items h.0 h.1)
unfolding graph_at
graph_says front s =
    let K : (Graph × ℕ) × Left → Result (List Item) Flaw = λ h. from (front ++ graph_items h.0.0 h.0.1) h.1 (place.Bounds (length h.0.0.ends)) in
    let f1 = front ++ item.Header 1 ∷ [] in
    header_says front s ∙ chain (form_at (codes "crossing-answer") (just_form 1) s) _ after_header K (λ a is_a.
    size_says f1 a.1 ∙ chain (form_at (codes "graph") (two_form 1000 1000) a.1) _ after_size K (λ b is_b.
    loops_say b.0.0 b.0.1 (f1 ++ item.Graph b.0.0 b.0.1 ∷ []) b.1 ∙ chain (form_at (codes "loops") (one_form (2 ^ 64 - 1)) b.1) _ (after_loops b.0.0 b.0.1) K (λ c is_c.
    edges_say b.0.0 b.0.1 ((f1 ++ item.Graph b.0.0 b.0.1 ∷ []) ++ item.Loops c.0 ∷ []) c.1 ∙ chain (many_at (edge_at b.0.0) 0 b.0.1 c.1) _ (graph_of_ends b.0.0 c.0) K (λ d is_d.
    graph_end front b.0.0 b.0.1 c.0 d.0 d.1 (many_length (edge_at b.0.0) 0 b.0.1 c.1 d.0 d.1 is_d)))))

-- ---- the bounds

bounds_line : (m : ℕ) → Says (place.Bounds m) (form_at (codes "bounds") (two_form 499500 499500)) (λ x. place.Effort m) (λ x. item.Bounds x.0 x.1 ∷ [])
bounds_line m = form_says (place.Bounds m) (codes "bounds") (two_form 499500 499500) (λ x. item.Bounds x.0 x.1) (λ x. place.Effort m) refl (λ i words. refl)

effort_line : (m : ℕ) → Says (place.Effort m) (form_at (codes "effort") effort_form) (λ x. alongs_from m m m) (λ x. item.Effort x.0 x.1 ∷ [])
effort_line m = form_says (place.Effort m) (codes "effort") effort_form (λ x. item.Effort x.0 x.1) (λ x. alongs_from m m m) refl (λ i words. refl)

abbrev pub with_effort : ℕ × ℕ → (ℕ × ℕ) × Left → Result (((ℕ × ℕ) × (ℕ × ℕ)) × Left) Flaw
with_effort bounds effort = Ok ((bounds, effort.0), effort.1)

abbrev pub after_bounds : (ℕ × ℕ) × Left → Result (((ℕ × ℕ) × (ℕ × ℕ)) × Left) Flaw
after_bounds bounds = form_at (codes "effort") effort_form bounds.1 >>= with_effort bounds.0

pub bounds_say : (m : ℕ) → Says (place.Bounds m) bounds_at (λ b. alongs_from m m m) (λ b. bounds_items b.0.0 b.0.1 b.1.0 b.1.1)
unfolding bounds_at
bounds_say m front s =
    let K : ((ℕ × ℕ) × (ℕ × ℕ)) × Left → Result (List Item) Flaw = λ b. from (front ++ bounds_items b.0.0.0 b.0.0.1 b.0.1.0 b.0.1.1) b.1 (alongs_from m m m) in
    bounds_line m front s ∙ chain (form_at (codes "bounds") (two_form 499500 499500) s) _ after_bounds K (λ a is_a.
    effort_line m (front ++ item.Bounds a.0.0 a.0.1 ∷ []) a.1 ∙ chain (form_at (codes "effort") effort_form a.1) _ (with_effort a.0) K (λ b is_b.
    ap (λ (l : List Item). from l b.1 (alongs_from m m m)) (two front (item.Bounds a.0.0 a.0.1 ∷ []) (item.Effort b.0.0 b.0.1 ∷ []))))

-- ---- the drawing

along_says : (m segments j more : ℕ) → Says (place.Along m segments more) (along_at j) (λ l. alongs_from m (segments + length l) more) (λ l. item.Along l ∷ [])
along_says m segments j more = form_says (place.Along m segments more) (codes "along") (list_form 999) (λ l. item.Along l) (λ l. alongs_from m (segments + length l) more) refl (λ i words. refl)

turn_says : (m j more : ℕ) → Says (place.Turn m more) (turn_at j) (λ x. turns_from m more) (λ x. item.Turn x.0 x.1 ∷ [])
turn_says m j more = form_says (place.Turn m more) (codes "turn") (two_form (2 ^ 32 - 1) (2 ^ 32 - 1)) (λ x. item.Turn x.0 x.1) (λ x. turns_from m more) refl (λ i words. refl)

alongs_say : (m : ℕ) → Says (alongs_from m m m) (many_at along_at 0 m) (λ lists. turns_from m (fold_on (λ t x. t + length x) m lists)) (λ lists. map (λ l. item.Along l) lists)
alongs_say m = many_lines_say along_at (λ l. item.Along l) (λ t x. t + length x) (λ j t k. alongs_from m t k) (λ j t k. along_says m t j k) 0 m m

turns_say : (m count : ℕ) → Says (turns_from m count) (many_at turn_at 0 count) (λ turns. place.Drawn m) (λ turns. map (λ t. item.Turn t.0 t.1) turns)
turns_say m count = many_lines_say turn_at (λ t. item.Turn t.0 t.1) (λ t x. t) (λ j t k. turns_from m k) (λ j t k. turn_says m j k) 0 0 count

fold_total : (t : ℕ) (lists : List (List ℕ)) → fold_on (λ n x. n + length x) t lists ≡ t + total length lists
fold_total t [] = omega arith
fold_total t (x ∷ lists) = omega (arith, fold_total (t + length x) lists)

turns_again : (turns : List (ℕ × ℕ)) → turns ≡ turns_of (next_of turns)
turns_again [] = refl
turns_again (t ∷ turns) = ap (λ (l : List (ℕ × ℕ)). t ∷ l) (turns_again turns)

abbrev pub with_turns : List (List ℕ) → List (ℕ × ℕ) × Left → Result (Drawing × Left) Flaw
with_turns lists turns = Ok (record { orders = lists; next = next_of turns.0 }, turns.1)

abbrev pub after_alongs : ℕ → List (List ℕ) × Left → Result (Drawing × Left) Flaw
after_alongs m lists = many_at turn_at 0 (m + total length lists.0) lists.1 >>= with_turns lists.0

pub drawing_says : (m : ℕ) → Says (alongs_from m m m) (drawing_at m) (λ d. place.Drawn m) drawing_items
unfolding drawing_at
drawing_says m front s =
    let K : Drawing × Left → Result (List Item) Flaw = λ d. from (front ++ drawing_items d.0) d.1 (place.Drawn m) in
    alongs_say m front s ∙ chain (many_at along_at 0 m s) _ (after_alongs m) K (λ a is_a.
    let f1 = front ++ map (λ l. item.Along l) a.0 in
    ap (λ (n : ℕ). from f1 a.1 (turns_from m n)) (fold_total m a.0)
    ∙ turns_say m (m + total length a.0) f1 a.1 ∙ chain (many_at turn_at 0 (m + total length a.0) a.1) _ (with_turns a.0) K (λ b is_b.
    ap (λ (l : List Item). from l b.1 (place.Drawn m)) (two front (map (λ l. item.Along l) a.0) (map (λ t. item.Turn t.0 t.1) b.0)
    ∙ ap (λ (turns : List (ℕ × ℕ)). front ++ (map (λ l. item.Along l) a.0 ++ map (λ t. item.Turn t.0 t.1) turns)) (turns_again b.0))))

-- ---- up to `drawn`

drawn_says : (m : ℕ) → Says (place.Drawn m) (form_at (codes "drawn") no_form) (λ u. place.Rows m) (λ u. item.Drawn ∷ [])
drawn_says m = form_says (place.Drawn m) (codes "drawn") no_form (λ u. item.Drawn) (λ u. place.Rows m) refl (λ i words. refl)

abbrev pub front_items : Front → List Item
front_items f = graph_items f.graph f.loops ++ (bounds_items f.lower f.upper f.spent f.budget ++ (drawing_items f.drawing ++ item.Drawn ∷ []))

abbrev pub front_record : (Graph × ℕ) → (ℕ × ℕ) × (ℕ × ℕ) → Drawing × Left → Unit {0} × Left → Result (Front × Left) Flaw
front_record head bounds drawing drawn = Ok (
  record {
    graph = head.0;
    loops = head.1;
    lower = bounds.0.0;
    upper = bounds.0.1;
    spent = bounds.1.0;
    budget = bounds.1.1;
    drawing = drawing.0;
    line = drawing.1.0;
  },
  drawn.1,
)

abbrev pub after_drawing : (Graph × ℕ) → (ℕ × ℕ) × (ℕ × ℕ) → Drawing × Left → Result (Front × Left) Flaw
after_drawing head bounds drawing = form_at (codes "drawn") no_form drawing.1 >>= front_record head bounds drawing

abbrev pub after_bounds_of : (Graph × ℕ) → ((ℕ × ℕ) × (ℕ × ℕ)) × Left → Result (Front × Left) Flaw
after_bounds_of head bounds = drawing_at (length head.0.ends) bounds.1 >>= after_drawing head bounds.0

abbrev pub after_graph : (Graph × ℕ) × Left → Result (Front × Left) Flaw
after_graph head = bounds_at head.1 >>= after_bounds_of head.0

pub front_says : Says place.Header front_at (λ f. place.Rows (length f.graph.ends)) front_items
unfolding front_at
front_says front s =
    let K : Front × Left → Result (List Item) Flaw = λ f. from (front ++ front_items f.0) f.1 (place.Rows (length f.0.graph.ends)) in
    graph_says front s ∙ chain (graph_at s) _ after_graph K (λ a is_a.
    let m = length a.0.0.ends in
    let f1 = front ++ graph_items a.0.0 a.0.1 in
    bounds_say m f1 a.1 ∙ chain (bounds_at a.1) _ (after_bounds_of a.0) K (λ b is_b.
    let f2 = f1 ++ bounds_items b.0.0.0 b.0.0.1 b.0.1.0 b.0.1.1 in
    drawing_says m f2 b.1 ∙ chain (drawing_at m b.1) _ (after_drawing a.0 b.0) K (λ c is_c.
    drawn_says m (f2 ++ drawing_items c.0) c.1 ∙ chain (form_at (codes "drawn") no_form c.1) _ (front_record a.0 b.0 c) K (λ d is_d.
    ap (λ (l : List Item). from l d.1 (place.Rows m)) (four front (graph_items a.0.0 a.0.1) (bounds_items b.0.0.0 b.0.0.1 b.0.1.0 b.0.1.1) (drawing_items c.0) (item.Drawn ∷ []))))))
