-- A drawing without crossings is a flat map of its graph: a simple one, and so any.
use Rattle.std.proofs.Common.{◌≡◌, ℕ, suc, ◌+◌, inl, inr, true, false, List, [], ◌∷◌, length, refl, sym, ◌∙◌, ap, ap₂, subst, arith}
use Rattle.std.specs.List.{IsDistinct, flat_map, range_with_len}
use Rattle.std.specs.Prelude.{filter, nat_lt}
use Rattle.std.proofs.lemmas.Bool.{both_ways, cases_Bool, cond-false, cond-true}
use Rattle.xn_model.specs.Drawing.{HasSimpleDrawingWith}
use Rattle.xn_model.specs.Graph.{Graph, each_two, edges_of, ends_at}
use Rattle.xn_model.specs.Lists.{has}
use Rattle.xn_model.specs.Orders.{IsOrders, crossings_of}
use Rattle.xn_model.specs.Web.{segments_of, web_of}
use Rattle.xn_model.proofs.Has.{has-first}
use Rattle.xn_model.proofs.Ranges.{edge_list}
use Rattle.xn_fewer.specs.Flat.{HasFlat}
use Rattle.xn_general.specs.Bounds.{DrawingsGiveSimpleOnes, SimpleDrawingsAreDrawings}
use Rattle.xn_orders.specs.Crossed.{crosses_in}
use Rattle.xn_orders.proofs.Numbered.{crosses_in-entry}
use Rattle.xn_answers.specs.Flat.{FlatWhereCrossless}

no_pairs : (ps : List (ℕ × ℕ)) → length ps ≡ 0 → ps ≡ []
no_pairs [] none = refl
no_pairs (p ∷ ps) none = absurd (omega (arith, none))

no_entries : (xs : List ℕ) → ((x : ℕ) → has xs x ≡ true → ⊥) → xs ≡ []
no_entries [] none = refl
no_entries (x ∷ xs) none = absurd (none x (has-first x xs))

-- nothing crosses
abbrev never : ℕ → List ℕ
never e = []

-- where the orders have no crossing, no list has an entry
crosses_none : (ends : List (ℕ × ℕ)) (edges : List ℕ) (ord : ℕ → List ℕ) → IsOrders ends edges ord → crossings_of edges ord ≡ [] → (e f : ℕ) → has (ord e) f ≡ true → ⊥
crosses_none ends edges ord orders none e f there =
    let found : crosses_in [] e f ≡ true = subst (λ ps. crosses_in ps e f ≡ true) none (crosses_in-entry ends edges ord orders e f there) in
    elim (cases_Bool (nat_lt e f)) [
      | inl below ↦ both_ways false refl (sym (cond-true _ _ _ below) ∙ found)
      | inr above ↦ both_ways false refl (sym (cond-false _ _ _ above) ∙ found)
    ]

-- ---- the web without crossings is the graph

never_crossings : (ps : List (ℕ × ℕ)) → filter (λ p. has (never p.0) p.1) ps ≡ []
never_crossings [] = refl
never_crossings (p ∷ ps) = never_crossings ps

-- the segments of edges that nothing crosses
abbrev alone : List (ℕ × ℕ) → ℕ → List (ℕ × ℕ)
alone ends e = ((ends_at ends e).0, (ends_at ends e).1) ∷ []

alone_all : (ends ps : List (ℕ × ℕ)) (a : ℕ) → ((k : ℕ) → ends_at ends (a + k) ≡ ends_at ps k) → flat_map (alone ends) (range_with_len a (length ps)) ≡ ps
alone_all ends [] a follows = refl
alone_all ends (p ∷ ps) a follows =
    let here : a + 0 ≡ a = omega arith in
    let first : ends_at ends a ≡ p = sym (ap (ends_at ends) here) ∙ follows 0 in
    let later = alone_all ends ps (a + 1) (λ k. let next : (a + 1) + k ≡ a + suc k = omega arith in ap (ends_at ends) next ∙ follows (suc k)) in
    ap₂ (λ (q : ℕ × ℕ) (qs : List (ℕ × ℕ)). (q.0, q.1) ∷ qs) first later

web_ends : (g : Graph) (pairs : List (ℕ × ℕ)) → flat_map (segments_of g pairs never) (edges_of g) ≡ g.ends
web_ends g pairs = alone_all g.ends g.ends 0 (λ k. let same : 0 + k ≡ k = omega arith in ap (ends_at g.ends) same)

web_nodes : (g : Graph) → g.nodes + length (crossings_of (edges_of g) never) ≡ g.nodes
web_nodes g = omega (arith, ap (length {A = ℕ × ℕ}) (never_crossings (each_two (edges_of g))))

-- ---- both ways

flat_of : (g : Graph) → HasSimpleDrawingWith g 0 → HasFlat g.nodes g.ends
flat_of g drawn =
    let ord = drawn.0 in
    let flat = drawn.2.is_flat_map in
    let none = no_pairs (crossings_of (edges_of g) ord) drawn.3 in
    let is_never : ord ≡ never = λ i e. no_entries (ord e) (crosses_none g.ends (edges_of g) ord drawn.2.orders none e) i in
    let web = subst (λ (o : ℕ → List ℕ). HasFlat (web_of g (edges_of g) o).nodes (web_of g (edges_of g) o).ends) is_never
    (record { next = drawn.1; is_map = flat.is_map; flat = flat.flat }) in
    subst (λ n. HasFlat n g.ends) (web_nodes g)
    (subst (λ ends. HasFlat (g.nodes + length (crossings_of (edges_of g) never)) ends) (web_ends g (crossings_of (edges_of g) never)) web)

never_orders : (g : Graph) → IsOrders g.ends (edges_of g) never
unfolding IsDistinct
never_orders g = record {
  edge_list = edge_list (length g.ends);
  within = λ e f there. absurd (both_ways false refl there);
  no_repeats = λ e. tt;
  independent = λ e f there. absurd (both_ways false refl there);
  both_ways = λ e f there. there;
}

drawing_of : (g : Graph) → HasFlat g.nodes g.ends → HasSimpleDrawingWith g 0
drawing_of g flat =
    let pairs = crossings_of (edges_of g) never in
    let graph = subst (λ n. HasFlat n (web_of g (edges_of g) never).ends) (sym (web_nodes g))
    (subst (λ ends. HasFlat g.nodes ends) (sym (web_ends g pairs)) flat) in (
      never,
      graph.next,
      record {
        orders = never_orders g;
        is_flat_map = record { is_map = graph.is_map; flat = graph.flat };
        crosses = λ e f below there. absurd (both_ways false refl there);
      },
      ap (length {A = ℕ × ℕ}) (never_crossings (each_two (edges_of g))),
    )

pub flat_where_crossless : SimpleDrawingsAreDrawings → DrawingsGiveSimpleOnes → FlatWhereCrossless
flat_where_crossless drawings simple g is_graph = (
  λ drawn.
      let s = simple g 0 drawn in
      let few = s.2 in
      let none : s.0 ≡ 0 = omega (arith, few) in
      flat_of g (subst (HasSimpleDrawingWith g) none s.1),
  λ flat. drawings g 0 is_graph (drawing_of g flat),
)
