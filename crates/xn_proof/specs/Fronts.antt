-- The lines up to `drawn`.
use Rattle.std.specs.Prelude.{ℕ, ◌+◌, ◌-◌, ◌^◌, List, [], ◌∷◌, length, Result, Ok, codes}
use Rattle.std.specs.List.{flat_map}
use Rattle.xn_model.specs.Graph.{Graph}
use Rattle.xn_model.specs.Lists.{total}
use Rattle.xn_graph.specs.Limits.{graph_of}
use Rattle.xn_kinds.specs.declared.drawings.Drawing.{Drawing}
use Rattle.xn_kinds.specs.declared.flaws.Flaw.{Flaw}
use Rattle.xn_proof.specs.declared.front.Front.{Front}
use Rattle.xn_proof.specs.Ranges.{edge_form, effort_form, just_form, list_form, no_form, one_form, two_form}
use Rattle.xn_proof.specs.Reading.{◌>>=◌, Left, form_at, many_at}

-- the line of edge e
abbrev pub edge_at : ℕ → ℕ → Left → Result ((ℕ × ℕ) × Left) Flaw
edge_at nodes e s = form_at (codes "edge") (edge_form nodes e) s

-- the edges that cross an edge, along it
abbrev pub along_at : ℕ → Left → Result (List ℕ × Left) Flaw
along_at e s = form_at (codes "along") (list_form 999) s

-- for a segment s the darts next(2s) and next(2s + 1)
abbrev pub turn_at : ℕ → Left → Result ((ℕ × ℕ) × Left) Flaw
turn_at j s = form_at (codes "turn") (two_form (2 ^ 32 - 1) (2 ^ 32 - 1)) s

-- the header, the graph and the loops that were left aside
unfoldable pub graph_at : Left → Result ((Graph × ℕ) × Left) Flaw
graph_at s = do
  header ← form_at (codes "crossing-answer") (just_form 1) s
  size ← form_at (codes "graph") (two_form 1000 1000) header.1
  loops ← form_at (codes "loops") (one_form (2 ^ 64 - 1)) size.1
  ends ← many_at (edge_at size.0.0) 0 size.0.1 loops.1
  Ok ((graph_of size.0.0 ends.0, loops.0), ends.1)

-- the bounds, lower and upper, and the effort, spent and budget
unfoldable pub bounds_at : Left → Result (((ℕ × ℕ) × (ℕ × ℕ)) × Left) Flaw
bounds_at s = do
  bounds ← form_at (codes "bounds") (two_form 499500 499500) s
  effort ← form_at (codes "effort") effort_form bounds.1
  Ok ((bounds.0, effort.0), effort.1)

-- the turns in the order of the darts: next(0), next(1) and so on
abbrev pub next_of : List (ℕ × ℕ) → List ℕ
next_of turns = flat_map (λ t. t.0 ∷ t.1 ∷ []) turns

-- the drawing of a graph of m edges: each has one more segment than its list has entries
unfoldable pub drawing_at : ℕ → Left → Result (Drawing × Left) Flaw
drawing_at m s = do
  lists ← many_at along_at 0 m s
  turns ← many_at turn_at 0 (m + total length lists.0) lists.1
  Ok (record { orders = lists.0; next = next_of turns.0 }, turns.1)

-- what the lines up to `drawn` say
unfoldable pub front_at : Left → Result (Front × Left) Flaw
front_at s = do
  head ← graph_at s
  bounds ← bounds_at head.1
  drawing ← drawing_at (length head.0.0.ends) bounds.1
  drawn ← form_at (codes "drawn") no_form drawing.1
  Ok (
    record {
      graph = head.0.0;
      loops = head.0.1;
      lower = bounds.0.0.0;
      upper = bounds.0.0.1;
      spent = bounds.0.1.0;
      budget = bounds.0.1.1;
      drawing = drawing.0;
      line = drawing.1.0;
    },
    drawn.1,
  )

-- what the front of a text says, alone
abbrev pub front_of : List ℕ → Result Front Flaw
front_of text = front_at (1, text) >>= λ front. Ok front.0
