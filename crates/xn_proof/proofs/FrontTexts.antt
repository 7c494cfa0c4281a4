-- The lines up to `drawn` are read exactly where they are spelled.
use Rattle.std.proofs.Common.{◌≡◌, ℕ, zero, suc, ◌+◌, ◌-◌, ◌*◌, ◌^◌, ◌<◌, ◌≤◌, List, [], ◌∷◌, ◌++◌, length, Result, Ok, refl, sym, ap, ◌∙◌, subst, append_assoc, arith}
use Rattle.std.proofs.lemmas.List.{get_or_default}
use Rattle.std.specs.Prelude.{codes}
use Rattle.std.specs.List.{All}
use Rattle.xn_graph.specs.Limits.{IsEdge, IsLimitedGraph, graph_of}
use Rattle.xn_graph.proofs.Ends.{IsEdge-at, IsGraph-from_each}
use Rattle.xn_model.specs.Graph.{Graph}
use Rattle.xn_model.specs.Lists.{total}
use Rattle.xn_kinds.specs.declared.drawings.Drawing.{Drawing}
use Rattle.xn_kinds.specs.declared.flaws.Flaw.{Flaw}
use Rattle.xn_proof.specs.declared.front.Front.{Front}
use Rattle.xn_proof.specs.Fronts.{along_at, bounds_at, drawing_at, edge_at, front_at, graph_at, next_of, turn_at}
use Rattle.xn_proof.specs.Ranges.{effort_form, just_form, no_form, one_form, two_form}
use Rattle.xn_proof.specs.Reading.{◌>>=◌, Left, form_at, many_at}
use Rattle.xn_proof.specs.Spelling.{along_line, bounds_text, each, edge_line, front_text, graph_text, line, turn_line, turns_of}
use Rattle.xn_proof.specs.WellFormed.{AreBounds, IsDrawingText, IsFront, IsList}
use Rattle.xn_proof.proofs.Keyed.{lacks_tested}
use Rattle.xn_proof.proofs.Shapes.{IsItem, form_item, many_again, many_takes}
use Rattle.xn_proof.proofs.Steps.{bind_ok, ok_is, all_cons, all_first, all_none, all_rest}
use Rattle.xn_proof.proofs.Values.{edge_is, effort_is, just_is, list_is, no_is, one_is, two_is}

-- ---- items

pub header_item : IsItem (form_at (codes "crossing-answer") (just_form 1)) (λ u. line (codes "crossing-answer") (1 ∷ [])) (λ u. Unit {0})
header_item = form_item (codes "crossing-answer") (just_form 1) (λ u. 1 ∷ []) (λ u. Unit {0}) (record { no_end = lacks_tested 10 (codes "crossing-answer") refl; no_space = lacks_tested 32 (codes "crossing-answer") refl }) (just_is 1 (omega arith))

abbrev BothAtMost : ℕ → ℕ × ℕ → Type 0
BothAtMost most p = (p.0 ≤ most) × (p.1 ≤ most)

pub size_item : IsItem (form_at (codes "graph") (two_form 1000 1000)) (λ p. line (codes "graph") (p.0 ∷ p.1 ∷ [])) (BothAtMost 1000)
size_item = form_item (codes "graph") (two_form 1000 1000) (λ p. p.0 ∷ p.1 ∷ []) (BothAtMost 1000) (record { no_end = lacks_tested 10 (codes "graph") refl; no_space = lacks_tested 32 (codes "graph") refl }) (two_is 1000 1000 (omega arith) (omega arith))

pub loops_item : IsItem (form_at (codes "loops") (one_form (2 ^ 64 - 1))) (λ n. line (codes "loops") (n ∷ [])) (λ n. n ≤ 2 ^ 64 - 1)
loops_item = form_item (codes "loops") (one_form (2 ^ 64 - 1)) (λ n. n ∷ []) (λ n. n ≤ 2 ^ 64 - 1) (record { no_end = lacks_tested 10 (codes "loops") refl; no_space = lacks_tested 32 (codes "loops") refl }) (one_is (2 ^ 64 - 1) (omega arith))

pub edge_item : (nodes : ℕ) → nodes ≤ 1000 → (e : ℕ) → IsItem (edge_at nodes e) edge_line (IsEdge nodes)
edge_item nodes few e = form_item (codes "edge") _ (λ p. p.0 ∷ p.1 ∷ []) (IsEdge nodes) (record { no_end = lacks_tested 10 (codes "edge") refl; no_space = lacks_tested 32 (codes "edge") refl }) (edge_is nodes e (omega (arith, few)))

pub bounds_item : IsItem (form_at (codes "bounds") (two_form 499500 499500)) (λ p. line (codes "bounds") (p.0 ∷ p.1 ∷ [])) (BothAtMost 499500)
bounds_item = form_item (codes "bounds") (two_form 499500 499500) (λ p. p.0 ∷ p.1 ∷ []) (BothAtMost 499500) (record { no_end = lacks_tested 10 (codes "bounds") refl; no_space = lacks_tested 32 (codes "bounds") refl }) (two_is 499500 499500 (omega arith) (omega arith))

abbrev IsEffort : ℕ × ℕ → Type 0
IsEffort p = (p.0 ≤ p.1) × (p.1 ≤ 200000)

pub effort_item : IsItem (form_at (codes "effort") effort_form) (λ p. line (codes "effort") (p.0 ∷ p.1 ∷ [])) IsEffort
effort_item = form_item (codes "effort") effort_form (λ p. p.0 ∷ p.1 ∷ []) IsEffort (record { no_end = lacks_tested 10 (codes "effort") refl; no_space = lacks_tested 32 (codes "effort") refl }) effort_is

pub along_item : (e : ℕ) → IsItem (along_at e) along_line (IsList 999)
along_item e = form_item (codes "along") _ (λ ns. length ns ∷ ns) (IsList 999) (record { no_end = lacks_tested 10 (codes "along") refl; no_space = lacks_tested 32 (codes "along") refl }) (list_is 999 (omega arith))

abbrev most_32 : ℕ
most_32 = 2 ^ 32 - 1

pub turn_item : (s : ℕ) → IsItem (turn_at s) turn_line (BothAtMost most_32)
turn_item s = form_item (codes "turn") _ (λ p. p.0 ∷ p.1 ∷ []) (BothAtMost most_32) (record { no_end = lacks_tested 10 (codes "turn") refl; no_space = lacks_tested 32 (codes "turn") refl }) (two_is most_32 most_32 (omega arith) (omega arith))

pub drawn_item : IsItem (form_at (codes "drawn") no_form) (λ u. line (codes "drawn") []) (λ u. Unit {0})
drawn_item = form_item (codes "drawn") no_form (λ u. []) (λ u. Unit {0}) (record { no_end = lacks_tested 10 (codes "drawn") refl; no_space = lacks_tested 32 (codes "drawn") refl }) no_is

-- ---- pieces of texts

pub two_pieces : (t a t1 b rest : List ℕ) → t ≡ a ++ t1 → t1 ≡ b ++ rest → t ≡ (a ++ b) ++ rest
two_pieces t a t1 b rest p q = p ∙ ap (λ (l : List ℕ). a ++ l) q ∙ sym (append_assoc a b rest)

pub three_pieces : (t a t1 b t2 c rest : List ℕ) → t ≡ a ++ t1 → t1 ≡ b ++ t2 → t2 ≡ c ++ rest → t ≡ (a ++ (b ++ c)) ++ rest
three_pieces t a t1 b t2 c rest p q r = two_pieces t a t1 (b ++ c) rest p (two_pieces t1 b t2 c rest q r)

pub four_pieces : (t a t1 b t2 c t3 d rest : List ℕ) → t ≡ a ++ t1 → t1 ≡ b ++ t2 → t2 ≡ c ++ t3 → t3 ≡ d ++ rest → t ≡ (a ++ (b ++ (c ++ d))) ++ rest
four_pieces t a t1 b t2 c t3 d rest p q r s = two_pieces t a t1 (b ++ (c ++ d)) rest p (three_pieces t1 b t2 c t3 d rest q r s)

pub regroup_two : (a b rest : List ℕ) → (a ++ b) ++ rest ≡ a ++ (b ++ rest)
regroup_two a b rest = append_assoc a b rest

pub regroup_three : (a b c rest : List ℕ) → (a ++ (b ++ c)) ++ rest ≡ a ++ (b ++ (c ++ rest))
regroup_three a b c rest = simp append_assoc

pub regroup_four : (a b c d rest : List ℕ) → (a ++ (b ++ (c ++ d))) ++ rest ≡ a ++ (b ++ (c ++ (d ++ rest)))
regroup_four a b c d rest = simp append_assoc

-- ---- the graph

abbrev IsGraphText : Graph × ℕ → Type 0
IsGraphText h = IsLimitedGraph h.0 × (h.1 < 2 ^ 64)

graph_takes : (s : Left) (h : Graph × ℕ) (after : Left) → graph_at s ≡ Ok (h, after) → (s.1 ≡ graph_text h.0 h.1 ++ after.1) × IsGraphText h
unfolding graph_at
graph_takes s h after e =
    let last : (ℕ × ℕ) × Left → ℕ × Left → Result ((Graph × ℕ) × Left) Flaw = λ g l. many_at (edge_at g.0.0) 0 g.0.1 l.1 >>= λ ends. Ok ((graph_of g.0.0 ends.0, l.0), ends.1) in
    let a = bind_ok (form_at (codes "crossing-answer") (just_form 1) s) (λ a. form_at (codes "graph") (two_form 1000 1000) a.1 >>= λ g. form_at (codes "loops") (one_form (2 ^ 64 - 1)) g.1 >>= last g) (h, after) e in
    let g = bind_ok (form_at (codes "graph") (two_form 1000 1000) a.0.1) (λ g. form_at (codes "loops") (one_form (2 ^ 64 - 1)) g.1 >>= last g) (h, after) a.2 in
    let l = bind_ok (form_at (codes "loops") (one_form (2 ^ 64 - 1)) g.0.1) (last g.0) (h, after) g.2 in
    let m = bind_ok (many_at (edge_at g.0.0.0) 0 g.0.0.1 l.0.1) (λ ends. Ok ((graph_of g.0.0.0 ends.0, l.0.0), ends.1)) (h, after) l.2 in
    let first = header_item.takes s a.0.0 a.0.1 a.1 in
    let second = size_item.takes a.0.1 g.0.0 g.0.1 g.1 in
    let third = loops_item.takes g.0.1 l.0.0 l.0.1 l.1 in
    let few : g.0.0.0 ≤ 1000 = second.1.0 in
    let few_edges : g.0.0.1 ≤ 1000 = second.1.1 in
    let fourth = many_takes (edge_at g.0.0.0) edge_line (IsEdge g.0.0.0) (edge_item g.0.0.0 few) 0 g.0.0.1 l.0.1 m.0 m.1 in
    let count = fourth.count in
    let loops = third.1 in
    let whole : s.1 ≡ (line (codes "crossing-answer") (1 ∷ []) ++ (line (codes "graph") (g.0.0.0 ∷ length m.0.0 ∷ []) ++ (line (codes "loops") (l.0.0 ∷ []) ++ each edge_line m.0.0))) ++ m.0.1.1 =
    subst (λ k. s.1 ≡ (line (codes "crossing-answer") (1 ∷ []) ++ (line (codes "graph") (g.0.0.0 ∷ k ∷ []) ++ (line (codes "loops") (l.0.0 ∷ []) ++ each edge_line m.0.0))) ++ m.0.1.1) (sym count)
    (four_pieces s.1 (line (codes "crossing-answer") (1 ∷ [])) a.0.1.1 (line (codes "graph") (g.0.0.0 ∷ g.0.0.1 ∷ [])) g.0.1.1 (line (codes "loops") (l.0.0 ∷ [])) l.0.1.1 (each edge_line m.0.0) m.0.1.1 first.0 second.0 third.0 fourth.text_is) in
    subst (λ (r : (Graph × ℕ) × Left). (s.1 ≡ graph_text r.0.0 r.0.1 ++ r.1.1) × IsGraphText r.0) (ok_is ((graph_of g.0.0.0 m.0.0, l.0.0), m.0.1) (h, after) m.2) (
      whole,
      (
        record {
          is_graph = IsGraph-from_each g.0.0.0 m.0.0 (λ e low. fourth.all e (0, 0) low);
          few_nodes = few;
          few_edges = omega (arith, few_edges, count);
        },
        omega (arith, loops),
      ),
    )

graph_again : (i : ℕ) (h : Graph × ℕ) (rest : List ℕ) → IsGraphText h → (j : ℕ) × (graph_at (i, graph_text h.0 h.1 ++ rest) ≡ Ok (h, (j, rest)))
unfolding graph_at
graph_again i h rest fits =
    let g = h.0 in
    let b : List ℕ = line (codes "graph") (g.nodes ∷ length g.ends ∷ []) in
    let c : List ℕ = line (codes "loops") (h.1 ∷ []) in
    let d : List ℕ = each edge_line g.ends in
    let low = fits.1 in
    let first = header_item.again i tt (b ++ (c ++ (d ++ rest))) tt in
    let second = size_item.again first.0 (g.nodes, length g.ends) (c ++ (d ++ rest)) (fits.0.few_nodes, fits.0.few_edges) in
    let third = loops_item.again second.0 h.1 (d ++ rest) (omega (arith, low)) in
    let fourth = many_again (edge_at g.nodes) edge_line (IsEdge g.nodes) (edge_item g.nodes fits.0.few_nodes) g.ends 0 third.0 rest (edges_each g fits.0) in
    (fourth.0, rw (regroup_four (line (codes "crossing-answer") (1 ∷ [])) b c d rest, first.1, second.1, third.1, fourth.1) refl)
  where
    edges_each : (g : Graph) → IsLimitedGraph g → All (IsEdge g.nodes) g.ends
    edges_each g limited = λ e d low. subst (IsEdge g.nodes) (get_or_default g.ends e (0, 0) d low) (IsEdge-at g limited.is_graph e low)

pub graph_item : IsItem graph_at (λ h. graph_text h.0 h.1) IsGraphText
graph_item = record { takes = graph_takes; again = graph_again }

-- ---- bounds and effort

abbrev BoundsFit : (ℕ × ℕ) × (ℕ × ℕ) → Type 0
BoundsFit b = AreBounds b.0.0 b.0.1 b.1.0 b.1.1

abbrev bounds_spelled : (ℕ × ℕ) × (ℕ × ℕ) → List ℕ
bounds_spelled b = bounds_text b.0.0 b.0.1 b.1.0 b.1.1

bounds_takes : (s : Left) (b : (ℕ × ℕ) × (ℕ × ℕ)) (after : Left) → bounds_at s ≡ Ok (b, after) → (s.1 ≡ bounds_spelled b ++ after.1) × BoundsFit b
unfolding bounds_at
bounds_takes s b after e =
    let l = bind_ok (form_at (codes "bounds") (two_form 499500 499500) s) (λ l. form_at (codes "effort") effort_form l.1 >>= λ m. Ok ((l.0, m.0), m.1)) (b, after) e in
    let m = bind_ok (form_at (codes "effort") effort_form l.0.1) (λ m. Ok ((l.0.0, m.0), m.1)) (b, after) l.2 in
    let first = bounds_item.takes s l.0.0 l.0.1 l.1 in
    let second = effort_item.takes l.0.1 m.0.0 m.0.1 m.1 in
    subst (λ (r : ((ℕ × ℕ) × (ℕ × ℕ)) × Left). (s.1 ≡ bounds_spelled r.0 ++ r.1.1) × BoundsFit r.0) (ok_is ((l.0.0, m.0.0), m.0.1) (b, after) m.2) (
      two_pieces s.1 (line (codes "bounds") (l.0.0.0 ∷ l.0.0.1 ∷ [])) l.0.1.1 (line (codes "effort") (m.0.0.0 ∷ m.0.0.1 ∷ [])) m.0.1.1 first.0 second.0,
      record { lower_small = first.1.0; upper_small = first.1.1; spent_small = second.1.0; budget_small = second.1.1 },
    )

bounds_again : (i : ℕ) (b : (ℕ × ℕ) × (ℕ × ℕ)) (rest : List ℕ) → BoundsFit b → (j : ℕ) × (bounds_at (i, bounds_spelled b ++ rest) ≡ Ok (b, (j, rest)))
unfolding bounds_at
bounds_again i b rest fits =
    let second_text : List ℕ = line (codes "effort") (b.1.0 ∷ b.1.1 ∷ []) in
    let first = bounds_item.again i b.0 (second_text ++ rest) (fits.lower_small, fits.upper_small) in
    let second = effort_item.again first.0 b.1 rest (fits.spent_small, fits.budget_small) in
    (second.0, rw (regroup_two (line (codes "bounds") (b.0.0 ∷ b.0.1 ∷ [])) second_text rest, first.1, second.1) refl)

pub bounds_items : IsItem bounds_at bounds_spelled BoundsFit
bounds_items = record { takes = bounds_takes; again = bounds_again }

-- ---- the drawing

-- turns in the order of the darts are cut into those of the segments
turns_of-next_of : (turns : List (ℕ × ℕ)) → turns_of (next_of turns) ≡ turns
turns_of-next_of [] = refl
turns_of-next_of (t ∷ ts) = ap (λ us. t ∷ us) (turns_of-next_of ts)

length-next_of : (turns : List (ℕ × ℕ)) → length (next_of turns) ≡ 2 * length turns
length-next_of [] = refl
length-next_of (t ∷ ts) = let rest = length-next_of ts in omega (arith, rest)

abbrev IsSmall : ℕ → Type 0
IsSmall n = n < 2 ^ 32

next_of_small : (turns : List (ℕ × ℕ)) → All (BothAtMost most_32) turns → All IsSmall (next_of turns)
next_of_small [] all = all_none IsSmall
next_of_small (t ∷ ts) all =
    let first : BothAtMost most_32 t = all_first (BothAtMost most_32) t ts all in
    let m = first.0 in
    let n = first.1 in
    all_cons IsSmall t.0 (t.1 ∷ next_of ts) (omega (arith, m)) (all_cons IsSmall t.1 (next_of ts) (omega (arith, n)) (next_of_small ts (all_rest (BothAtMost most_32) t ts all)))

-- an even number of turns is that of the segments
record IsEven (next : List ℕ) (k : ℕ) : Type 0 where
  same : next_of (turns_of next) ≡ next
  count : length (turns_of next) ≡ k
  small : All (BothAtMost most_32) (turns_of next)

is_even : (next : List ℕ) (k : ℕ) → length next ≡ 2 * k → All IsSmall next → IsEven next k
is_even [] zero long all = record { same = refl; count = refl; small = all_none (BothAtMost most_32) }
is_even [] (suc k) long all = absurd (omega arith)
is_even (a ∷ []) zero long all = absurd (omega arith)
is_even (a ∷ []) (suc k) long all = absurd (omega arith)
is_even (a ∷ b ∷ next) zero long all = absurd (omega arith)
is_even (a ∷ b ∷ next) (suc k) long all =
    let first : a < 2 ^ 32 = all_first IsSmall a (b ∷ next) all in
    let others : All IsSmall (b ∷ next) = all_rest IsSmall a (b ∷ next) all in
    let second : b < 2 ^ 32 = all_first IsSmall b next others in
    let rest = is_even next k (omega (arith, long)) (all_rest IsSmall b next others) in
    record {
      same = ap (λ ns. a ∷ b ∷ ns) rest.same;
      count = ap suc rest.count;
      small = all_cons (BothAtMost most_32) (a, b) (turns_of next) (omega (arith, first), omega (arith, second)) rest.small;
    }

drawing_takes : (m : ℕ) (s : Left) (d : Drawing) (after : Left) → drawing_at m s ≡ Ok (d, after) → (s.1 ≡ (each along_line d.orders ++ each turn_line (turns_of d.next)) ++ after.1) × IsDrawingText m d
unfolding drawing_at
drawing_takes m s d after e =
    let l = bind_ok (many_at along_at 0 m s) (λ l. many_at turn_at 0 (m + total length l.0) l.1 >>= λ t. Ok (record { orders = l.0; next = next_of t.0 }, t.1)) (d, after) e in
    let t = bind_ok (many_at turn_at 0 (m + total length l.0.0) l.0.1) (λ t. Ok (record { orders = l.0.0; next = next_of t.0 }, t.1)) (d, after) l.2 in
    let lists = many_takes along_at along_line (IsList 999) along_item 0 m s l.0 l.1 in
    let turns = many_takes turn_at turn_line (BothAtMost most_32) turn_item 0 (m + total length l.0.0) l.0.1 t.0 t.1 in
    let count = turns.count in
    let long = length-next_of t.0.0 in
    let found : Drawing = record { orders = l.0.0; next = next_of t.0.0 } in
    subst (λ (r : Drawing × Left). (s.1 ≡ (each along_line r.0.orders ++ each turn_line (turns_of r.0.next)) ++ r.1.1) × IsDrawingText m r.0) (ok_is (found, t.0.1) (d, after) t.2) (
      subst (λ us. s.1 ≡ (each along_line l.0.0 ++ each turn_line us) ++ t.0.1.1) (sym (turns_of-next_of t.0.0)) (two_pieces s.1 (each along_line l.0.0) l.0.1.1 (each turn_line t.0.0) t.0.1.1 lists.text_is turns.text_is),
      record {
        lists_fit = lists.count;
        lists = lists.all;
        next_fits = omega (arith, count, long);
        next_small = next_of_small t.0.0 turns.all;
      },
    )

drawing_again : (m i : ℕ) (d : Drawing) (rest : List ℕ) → IsDrawingText m d → (j : ℕ) × (drawing_at m (i, (each along_line d.orders ++ each turn_line (turns_of d.next)) ++ rest) ≡ Ok (d, (j, rest)))
unfolding drawing_at
drawing_again m i d rest fits =
    let turns_text : List ℕ = each turn_line (turns_of d.next) in
    let even = is_even d.next (m + total length d.orders) fits.next_fits fits.next_small in
    let lists = many_again along_at along_line (IsList 999) along_item d.orders 0 i (turns_text ++ rest) fits.lists in
    let turns = many_again turn_at turn_line (BothAtMost most_32) turn_item (turns_of d.next) 0 lists.0 rest even.small in
    let lists_read : many_at along_at 0 m (i, each along_line d.orders ++ (turns_text ++ rest)) ≡ Ok (d.orders, (lists.0, turns_text ++ rest)) =
    subst (λ k. many_at along_at 0 k (i, each along_line d.orders ++ (turns_text ++ rest)) ≡ Ok (d.orders, (lists.0, turns_text ++ rest))) fits.lists_fit lists.1 in
    let turns_read : many_at turn_at 0 (m + total length d.orders) (lists.0, turns_text ++ rest) ≡ Ok (turns_of d.next, (turns.0, rest)) =
    subst (λ k. many_at turn_at 0 k (lists.0, turns_text ++ rest) ≡ Ok (turns_of d.next, (turns.0, rest))) even.count turns.1 in
    let with_next : List ℕ → Result (Drawing × Left) Flaw = λ next. Ok (record { orders = d.orders; next = next }, (turns.0, rest)) in
    (turns.0, rw (regroup_two (each along_line d.orders) turns_text rest, lists_read, turns_read) (ap with_next even.same))

pub drawing_item : (m : ℕ) → IsItem (drawing_at m) (λ d. each along_line d.orders ++ each turn_line (turns_of d.next)) (IsDrawingText m)
drawing_item m = record { takes = drawing_takes m; again = drawing_again m }

-- ---- the whole front

pub record FrontIs (text : List ℕ) (f : Front) (after : Left) : Type 0 where
  pub is_front : IsFront f
  pub text_is : text ≡ front_text f ++ after.1

pub front_takes : (s : Left) (f : Front) (after : Left) → front_at s ≡ Ok (f, after) → FrontIs s.1 f after
unfolding front_at
front_takes s f after e =
    let made : Graph × ℕ → (ℕ × ℕ) × (ℕ × ℕ) → Drawing → ℕ → Front = λ h b d n. record { graph = h.0; loops = h.1; lower = b.0.0; upper = b.0.1; spent = b.1.0; budget = b.1.1; drawing = d; line = n } in
    let drawn : Graph × ℕ → (ℕ × ℕ) × (ℕ × ℕ) → Drawing × Left → Result (Front × Left) Flaw = λ h b d. form_at (codes "drawn") no_form d.1 >>= λ u. Ok (made h b d.0 d.1.0, u.1) in
    let h = bind_ok (graph_at s) (λ h. bounds_at h.1 >>= λ b. drawing_at (length h.0.0.ends) b.1 >>= drawn h.0 b.0) (f, after) e in
    let b = bind_ok (bounds_at h.0.1) (λ b. drawing_at (length h.0.0.0.ends) b.1 >>= drawn h.0.0 b.0) (f, after) h.2 in
    let d = bind_ok (drawing_at (length h.0.0.0.ends) b.0.1) (drawn h.0.0 b.0.0) (f, after) b.2 in
    let u = bind_ok (form_at (codes "drawn") no_form d.0.1) (λ u. Ok (made h.0.0 b.0.0 d.0.0 d.0.1.0, u.1)) (f, after) d.2 in
    let head = graph_item.takes s h.0.0 h.0.1 h.1 in
    let bounds = bounds_items.takes h.0.1 b.0.0 b.0.1 b.1 in
    let drawing = (drawing_item (length h.0.0.0.ends)).takes b.0.1 d.0.0 d.0.1 d.1 in
    let end = drawn_item.takes d.0.1 u.0.0 u.0.1 u.1 in
    let lists : List ℕ = each along_line d.0.0.orders in
    let turns : List ℕ = each turn_line (turns_of d.0.0.next) in
    let whole : b.0.1.1 ≡ (lists ++ (turns ++ line (codes "drawn") [])) ++ u.0.1.1 =
    two_pieces b.0.1.1 (lists ++ turns) d.0.1.1 (line (codes "drawn") []) u.0.1.1 drawing.0 end.0 ∙ ap (λ (t : List ℕ). t ++ u.0.1.1) (append_assoc lists turns (line (codes "drawn") [])) in
    subst (λ (r : Front × Left). FrontIs s.1 r.0 r.1) (ok_is (made h.0.0 b.0.0 d.0.0 d.0.1.0, u.0.1) (f, after) u.2) (record {
      is_front = record { graph = head.1.0; loops = head.1.1; bounds = bounds.1; drawing = drawing.1 };
      text_is = three_pieces s.1 (graph_text h.0.0.0 h.0.0.1) h.0.1.1 (bounds_spelled b.0.0) b.0.1.1 (lists ++ (turns ++ line (codes "drawn") [])) u.0.1.1 head.0 bounds.0 whole;
    })

-- a text that begins with the spelling is read so, up to the number of the line `drawn`
pub record FrontRead (i : ℕ) (f : Front) (rest : List ℕ) : Type 0 where
  pub number : ℕ
  pub next : ℕ
  pub read : front_at (i, front_text f ++ rest) ≡ Ok (record f { line = number }, (next, rest))

pub front_again : (i : ℕ) (f : Front) (rest : List ℕ) → IsFront f → FrontRead i f rest
unfolding front_at
front_again i f rest fits =
    let m : ℕ = length f.graph.ends in
    let lists : List ℕ = each along_line f.drawing.orders in
    let turns : List ℕ = each turn_line (turns_of f.drawing.next) in
    let last : List ℕ = line (codes "drawn") [] in
    let bounds_part : List ℕ = bounds_text f.lower f.upper f.spent f.budget in
    let grouped : (lists ++ (turns ++ last)) ++ rest ≡ (lists ++ turns) ++ (last ++ rest) = ap (λ (t : List ℕ). t ++ rest) (sym (append_assoc lists turns last)) ∙ append_assoc (lists ++ turns) last rest in
    let head = graph_item.again i (f.graph, f.loops) (bounds_part ++ ((lists ++ turns) ++ (last ++ rest))) (fits.graph, fits.loops) in
    let bounds = bounds_items.again head.0 ((f.lower, f.upper), (f.spent, f.budget)) ((lists ++ turns) ++ (last ++ rest)) fits.bounds in
    let drawing = (drawing_item m).again bounds.0 f.drawing (last ++ rest) fits.drawing in
    let end = drawn_item.again drawing.0 tt rest tt in
    record {
      number = drawing.0;
      next = end.0;
      read = rw (regroup_three (graph_text f.graph f.loops) bounds_part (lists ++ (turns ++ last)) rest, grouped, head.1, bounds.1, drawing.1, end.1) refl;
    }
