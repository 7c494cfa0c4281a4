-- What the lines of an answer up to `drawn` said so far, as far as later lines are judged by it.
use Rattle.std.specs.Prelude.{ℕ, List, [], ◌∷◌, ◌++◌}
use Rattle.xn_model.specs.Graph.{Graph}
use Rattle.xn_draw.specs.Seen.{seen_of}
use Rattle.xn_draw.specs.declared.results.Seen.{Seen}
use Rattle.xn_kinds.specs.declared.drawings.Drawing.{Drawing}
use Rattle.xn_proof.specs.declared.item.Item.{Item}
use Rattle.xn_proof.specs.declared.item.Item.TheVariants as item

pub record FrontSaid : Type 0 where
  -- the number of nodes, and the ends of the edges
  pub nodes : ℕ
  pub ends : List (ℕ × ℕ)
  pub lower : ℕ
  pub upper : ℕ
  -- the order lists, and the turns in the order of the darts
  pub lists : List (List ℕ)
  pub next : List ℕ

-- before the first line
abbrev pub no_front : FrontSaid
no_front = record { nodes = 0; ends = []; lower = 0; upper = 0; lists = []; next = [] }

-- what is said with one line more
abbrev pub front_said : FrontSaid → Item → FrontSaid
front_said f (item.Graph nodes edges) = record f { nodes = nodes }
front_said f (item.Edge u v) = record f { ends = f.ends ++ (u, v) ∷ [] }
front_said f (item.Bounds lower upper) = record f { lower = lower; upper = upper }
front_said f (item.Along list) = record f { lists = f.lists ++ list ∷ [] }
front_said f (item.Turn a b) = record f { next = f.next ++ a ∷ b ∷ [] }
front_said f line = f

-- the graph and the drawing that are said
abbrev pub graph_said : FrontSaid → Graph
graph_said f = record { nodes = f.nodes; ends = f.ends }

abbrev pub drawing_said : FrontSaid → Drawing
drawing_said f = record { orders = f.lists; next = f.next }

-- what a part that keeps these says
abbrev pub front_kept : ℕ → List (ℕ × ℕ) → ℕ → ℕ → Drawing → FrontSaid
front_kept nodes ends lower upper drawing =
    record { nodes = nodes; ends = ends; lower = lower; upper = upper; lists = drawing.orders; next = drawing.next }

-- ---- with what is seen of the drawing

pub record FrontSeen : Type 0 where
  pub front : FrontSaid
  -- what is seen of the drawing, once it is drawn
  pub seen : Seen

abbrev pub seeing : FrontSaid → Seen → FrontSeen
seeing f seen = record { front = f; seen = seen }

-- before the line `drawn`
abbrev pub no_seen : Seen
no_seen = record { crossings = 0; euler = record { v = 0; e = 0; f = 0; c = 0 } }

-- what is seen with one line more: at `drawn` the drawing is that of the graph that was said
abbrev pub seen_at : FrontSeen → Item → Seen
seen_at s item.Drawn = seen_of (graph_said s.front) s.front.lists s.front.next
seen_at s line = s.seen

abbrev pub front_seen : FrontSeen → Item → FrontSeen
front_seen s line = record { front = front_said s.front line; seen = seen_at s line }
