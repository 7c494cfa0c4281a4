-- Simple drawings, drawings of any kind, and the crossing number by all of them.
use Rattle.std.specs.Prelude.{◌≡◌, ℕ, ◌+◌, ◌*◌, ◌<◌, ◌≤◌, true, List, length}
use Rattle.xn_model.specs.Graph.{Graph, edges_of}
use Rattle.xn_model.specs.Lists.{has, position_in, at}
use Rattle.xn_model.specs.Loose.{IsLoose}
use Rattle.xn_model.specs.Map.{IsFlat}
use Rattle.xn_model.specs.Orders.{IsOrders, order_at, crossing_count}
use Rattle.xn_model.specs.Web.{web_of, first_segment}

-- e and f cross, and don't touch: at their crossing two turns lead from the segment of e before it to the one after it
abbrev pub CrossesAt : List ℕ → (ℕ → List ℕ) → (ℕ → ℕ) → ℕ → ℕ → Type 0
CrossesAt edges ord next e f =
    let before = first_segment edges ord e + position_in (ord e) f in
    next (next (2 * before + 1)) ≡ 2 * (before + 1)

-- a simple drawing: the map of the planarised graph is flat, and the edges cross at each crossing
pub record IsSimpleDrawing (g : Graph) (ord : ℕ → List ℕ) (next : ℕ → ℕ) : Type 0 where
  pub orders : IsOrders g.ends (edges_of g) ord
  pub is_flat_map : IsFlat (web_of g (edges_of g) ord) next
  pub crosses : (e f : ℕ) → e < f → has (ord e) f ≡ true → CrossesAt (edges_of g) ord next e f

-- the lists of all edges as a function
abbrev pub order_of : Graph → List (List ℕ) → ℕ → List ℕ
order_of g lists = order_at (edges_of g) lists

-- the planarised graph of the lists
abbrev pub drawn_web : Graph → List (List ℕ) → Graph
drawn_web g lists = web_of g (edges_of g) (order_of g lists)

-- one list for each edge and two turns for each segment, and they are a simple drawing
pub record IsListedDrawing (g : Graph) (lists : List (List ℕ)) (next : List ℕ) : Type 0 where
  pub lists_fit : length lists ≡ length g.ends
  pub next_fits : length next ≡ 2 * length (drawn_web g lists).ends
  pub drawing : IsSimpleDrawing g (order_of g lists) (at next)

-- ---- drawings, simple or not

-- a loose drawing of all edges, whose crossings are its c further nodes: edges may cross themselves, and each other anyhow
abbrev pub IsDrawing : Graph → ℕ → Graph → (ℕ → ℕ) → (ℕ → List ℕ) → Type 0
IsDrawing g c web next walks = IsLoose g (edges_of g) c web next walks

-- some drawing has c crossings
abbrev pub HasDrawingWith : Graph → ℕ → Type 0
HasDrawingWith g c = (web : Graph) × (next : ℕ → ℕ) × (walks : ℕ → List ℕ) × IsDrawing g c web next walks

-- every drawing has at least k crossings
abbrev pub IsAtLeast : Graph → ℕ → Type 0
IsAtLeast g k = (c : ℕ) → HasDrawingWith g c → k ≤ c

-- some drawing has at most k crossings
abbrev pub IsAtMost : Graph → ℕ → Type 0
IsAtMost g k = (c : ℕ) × HasDrawingWith g c × (c ≤ k)

-- k is the crossing number
pub record IsCrossingNumber (g : Graph) (k : ℕ) : Type 0 where
  pub least : IsAtLeast g k
  pub at_most : IsAtMost g k

-- ---- of simple drawings alone

-- some simple drawing has c crossings
abbrev pub HasSimpleDrawingWith : Graph → ℕ → Type 0
HasSimpleDrawingWith g c = (ord : ℕ → List ℕ) × (next : ℕ → ℕ) × IsSimpleDrawing g ord next × (crossing_count g ord ≡ c)

-- every simple drawing has at least k crossings
abbrev pub IsSimplyAtLeast : Graph → ℕ → Type 0
IsSimplyAtLeast g k = (c : ℕ) → HasSimpleDrawingWith g c → k ≤ c

-- some simple drawing has at most k crossings
abbrev pub IsSimplyAtMost : Graph → ℕ → Type 0
IsSimplyAtMost g k = (c : ℕ) × HasSimpleDrawingWith g c × (c ≤ k)
