-- What is first wrong with lists and turns that are said to be a simple drawing of a graph.
use Rattle.std.specs.Prelude.{◌≡◌, ℕ, ◌+◌, ◌*◌, ◌<◌, ◌⊎◌, ◌↔◌, true, List, length}
use Rattle.xn_model.specs.Drawing.{CrossesAt, IsListedDrawing, drawn_web, order_of}
use Rattle.xn_model.specs.Graph.{Graph, IsGraph, edges_of}
use Rattle.xn_model.specs.Lists.{at, has, total}
use Rattle.xn_model.specs.Map.{IsMap}
use Rattle.xn_model.specs.Orders.{IsOrders}
use Rattle.xn_graph.specs.Counts.{IsBalanced, euler_of}
use Rattle.xn_kinds.specs.declared.flaws.DrawFlaw.{DrawFlaw}
use Rattle.xn_kinds.specs.declared.flaws.DrawFlaw.TheVariants.{Length, Order, Dependent, Rotation, Touch, Genus}
use Rattle.xn_map.specs.Rotation.{IsRotationFlaw}
use Rattle.xn_orders.specs.Entries.{IsDependent, IsStray, NamesFirst, NoEntry}

-- one list for each edge, and two turns for each segment: an edge has one more than its list has entries
pub record HasLengths (g : Graph) (lists : List (List ℕ)) (next : List ℕ) : Type 0 where
  pub lists_fit : length lists ≡ length g.ends
  pub next_fits : length next ≡ 2 * (length g.ends + total length lists)

-- no entry of the lists is stray: each is an edge, without repeats, both ways
pub record HasOrder (g : Graph) (lists : List (List ℕ)) (next : List ℕ) : Type 0 where
  pub lengths : HasLengths g lists next
  pub order : NoEntry (order_of g lists) (IsStray (edges_of g) (order_of g lists))

-- the lists are orders
pub record HasOrders (g : Graph) (lists : List (List ℕ)) (next : List ℕ) : Type 0 where
  pub lengths : HasLengths g lists next
  pub orders : IsOrders g.ends (edges_of g) (order_of g lists)

-- the turns go round the nodes of the web
pub record HasMap (g : Graph) (lists : List (List ℕ)) (next : List ℕ) : Type 0 where
  pub has_orders : HasOrders g lists next
  pub is_map : IsMap (drawn_web g lists).nodes (drawn_web g lists).ends (at next)

-- the edges e < f meet, and don't cross there
abbrev pub IsTouch : Graph → List (List ℕ) → List ℕ → ℕ → ℕ → Type 0
IsTouch g lists next e f =
    (e < f) × (has (order_of g lists e) f ≡ true) × ¬ (CrossesAt (edges_of g) (order_of g lists) (at next) e f)

-- the first touch in lexicographic order
pub record IsFirstTouch (g : Graph) (lists : List (List ℕ)) (next : List ℕ) (e f : ℕ) : Type 0 where
  pub here : IsTouch g lists next e f
  pub before : (a b : ℕ) → ((a < e) ⊎ ((a ≡ e) × (b < f))) → ¬ (IsTouch g lists next a b)

-- edges that meet cross
pub record HasCrossings (g : Graph) (lists : List (List ℕ)) (next : List ℕ) : Type 0 where
  pub has_map : HasMap g lists next
  pub crosses : (e f : ℕ) → e < f → has (order_of g lists e) f ≡ true → CrossesAt (edges_of g) (order_of g lists) (at next) e f

-- this is the first flaw: what comes before it in this list is as in a simple drawing
abbrev pub IsFlaw : Graph → List (List ℕ) → List ℕ → DrawFlaw → Type 0
IsFlaw g lists next Length = ¬ (HasLengths g lists next)
IsFlaw g lists next (Order e f) =
    HasLengths g lists next × NamesFirst (order_of g lists) (IsStray (edges_of g) (order_of g lists)) e f
IsFlaw g lists next (Dependent e f) =
    HasOrder g lists next × NamesFirst (order_of g lists) (IsDependent g.ends (order_of g lists)) e f
IsFlaw g lists next (Rotation d) = HasOrders g lists next × IsRotationFlaw (drawn_web g lists).ends (at next) d
IsFlaw g lists next (Touch e f) = HasMap g lists next × IsFirstTouch g lists next e f
IsFlaw g lists next (Genus counts) =
    HasCrossings g lists next × (counts ≡ euler_of (drawn_web g lists) (at next)) × ¬ (IsBalanced counts)

-- lists and turns are a simple drawing, or have a flaw
abbrev pub DrawnOrFlawed : Type 0
DrawnOrFlawed =
    (g : Graph) (lists : List (List ℕ)) (next : List ℕ) → IsGraph g → IsListedDrawing g lists next ⊎ ((x : DrawFlaw) × IsFlaw g lists next x)

-- lists and turns are a simple drawing exactly where they have no flaw
abbrev pub DrawnWhereFlawless : Type 0
DrawnWhereFlawless =
    (g : Graph) (lists : List (List ℕ)) (next : List ℕ) → IsGraph g → IsListedDrawing g lists next ↔ ((x : DrawFlaw) → ¬ (IsFlaw g lists next x))

-- there is at most one flaw
abbrev pub OneFlaw : Type 0
OneFlaw = (g : Graph) (lists : List (List ℕ)) (next : List ℕ) (x y : DrawFlaw) → IsFlaw g lists next x → IsFlaw g lists next y → x ≡ y
