-- Tests that compute whether lists are orders and whether edges cross.
use Rattle.std.specs.Prelude.{◌≡◌, ℕ, ◌+◌, ◌*◌, ◌<◌, ◌≤◌, ◌==◌, ◌&&◌, ◌||◌, Bool, true, not, List, [], ◌∷◌, All, filter, length, map, nat_lt}
use Rattle.std.specs.List.{flat_map, list_all}
use Rattle.xn_model.specs.Drawing.{IsListedDrawing, order_of}
use Rattle.xn_model.specs.Graph.{Graph, edges_of, ends_at, independent}
use Rattle.xn_model.specs.Lists.{at, has, position_in}
use Rattle.xn_model.specs.Map.{IsFlat}
use Rattle.xn_model.specs.Web.{crossing_node, first_segment, segments_of, segments_through}
use Rattle.xn_kinds.specs.declared.drawings.Drawing.{Drawing}

-- no number stands twice
abbrev pub is_distinct : List ℕ → Bool
is_distinct [] = true
is_distinct (x ∷ xs) = not (has xs x) && is_distinct xs

-- f is an edge, independent of e, and has e in its list
abbrev pub is_entry : Graph → (ℕ → List ℕ) → ℕ → ℕ → Bool
is_entry g ord e f = nat_lt f (length g.ends) && (independent g.ends e f && has (ord f) e)

-- the list of e has no repeats, and each entry may stand there
abbrev pub is_order : Graph → (ℕ → List ℕ) → ℕ → Bool
is_order g ord e = is_distinct (ord e) && list_all (is_entry g ord e) (ord e)

-- the list of each edge is right
abbrev pub AreOrders : Graph → (ℕ → List ℕ) → Type 0
AreOrders g ord = (e : ℕ) → e < length g.ends → is_order g ord e ≡ true

-- at the crossing of e and f two turns lead from the segment of e before it to the one after it
abbrev pub crosses_at : List ℕ → (ℕ → List ℕ) → (ℕ → ℕ) → ℕ → ℕ → Bool
crosses_at edges ord next e f =
    let before = first_segment edges ord e + position_in (ord e) f in
    next (next (2 * before + 1)) == 2 * (before + 1)

-- e crosses each later edge in its list
abbrev pub cross_along : List ℕ → (ℕ → List ℕ) → (ℕ → ℕ) → ℕ → Bool
cross_along edges ord next e = list_all (λ f. not (nat_lt e f) || crosses_at edges ord next e f) (ord e)

-- each edge crosses the later ones in its list
abbrev pub AllCross : Graph → (ℕ → List ℕ) → (ℕ → ℕ) → Type 0
AllCross g ord next = (e : ℕ) → e < length g.ends → cross_along (edges_of g) ord next e ≡ true

-- each list has at most 1,000 entries
abbrev pub AreShort : List (List ℕ) → Type 0
AreShort lists = All (λ l. length l ≤ 1000) lists

-- two turns for each segment, and they make a flat map
abbrev pub IsListedFlatMap : Graph → List ℕ → Type 0
IsListedFlatMap web next = (length next ≡ 2 * length web.ends) × IsFlat web (at next)

-- the segments of an edge whose list this is
abbrev pub through : Graph → List (ℕ × ℕ) → ℕ → List ℕ → List (ℕ × ℕ)
through g pairs e list = segments_through (ends_at g.ends e).0 (map (crossing_node g.nodes pairs e) list) (ends_at g.ends e).1

-- the pairs of e with those of the edges that stand in its list
abbrev pub crossings_with : ℕ → List ℕ → List ℕ → List (ℕ × ℕ)
crossings_with e list edges = filter (λ p. has list p.1) (map (λ f. (e, f)) edges)

-- the segments of these edges
abbrev pub segments_of_all : Graph → List (List ℕ) → List (ℕ × ℕ) → List ℕ → List (ℕ × ℕ)
segments_of_all g lists pairs edges = flat_map (segments_of g pairs (order_of g lists)) edges

-- the drawing is one of the graph
abbrev pub IsDrawingOf : Graph → Drawing → Type 0
IsDrawingOf g drawing = IsListedDrawing g drawing.orders drawing.next

-- the lists of a drawing as a function
abbrev pub orders_in : Graph → Drawing → ℕ → List ℕ
orders_in g drawing = order_of g drawing.orders
