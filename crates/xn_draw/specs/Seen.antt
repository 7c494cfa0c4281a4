-- What is seen of a simple drawing, and why lists and turns are refused.
use Rattle.std.specs.Prelude.{◌≡◌, ℕ, List}
use Rattle.xn_model.specs.Drawing.{IsListedDrawing, drawn_web, order_of}
use Rattle.xn_model.specs.Graph.{Graph}
use Rattle.xn_model.specs.Lists.{at}
use Rattle.xn_model.specs.Orders.{crossing_count}
use Rattle.xn_graph.specs.Counts.{euler_of}
use Rattle.xn_draw.specs.Flaws.{IsFlaw}
use Rattle.xn_draw.specs.declared.results.Seen.{Seen}
use Rattle.xn_draw.specs.declared.results.DrawErr.{DrawErr}
use Rattle.xn_draw.specs.declared.results.DrawErr.TheVariants.{Flaw, Memory}

-- the number of crossings, and the counts of the web with these turns
abbrev pub seen_of : Graph → List (List ℕ) → List ℕ → Seen
seen_of g lists next = record {
  crossings = crossing_count g (order_of g lists);
  euler = euler_of (drawn_web g lists) (at next);
}

-- what is seen of a simple drawing
abbrev pub IsSeen : Graph → List (List ℕ) → List ℕ → Seen → Type 0
IsSeen g lists next seen = IsListedDrawing g lists next × (seen ≡ seen_of g lists next)

-- a flaw is the first; want of memory needs no cause
abbrev pub IsCause : Graph → List (List ℕ) → List ℕ → DrawErr → Type 0
IsCause g lists next (Flaw x) = IsFlaw g lists next x
IsCause g lists next Memory = Unit {0}
