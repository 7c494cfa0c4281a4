-- The lines that are written.
use Rattle.std.specs.Prelude.{ℕ, List, ◌++◌, length, decimal, codes}
use Rattle.xn_draw.specs.declared.results.Seen.{Seen}
use Rattle.xn_model.specs.Graph.{Graph}

-- what is said of a drawing
abbrev pub seen_line : Seen → List ℕ
seen_line seen =
    codes "drawing crossings " ++ (decimal seen.crossings
    ++ (codes " nodes " ++ (decimal seen.euler.v
    ++ (codes " edges " ++ (decimal seen.euler.e
    ++ (codes " faces " ++ (decimal seen.euler.f
    ++ (codes " components " ++ (decimal seen.euler.c ++ codes "\n")))))))))

-- what is said of an answer that is accepted: its bounds, lower and upper
abbrev pub accepted_line : ℕ × ℕ → List ℕ
accepted_line bounds = codes "accepted " ++ (decimal bounds.0 ++ (codes " " ++ (decimal bounds.1 ++ codes "\n")))

-- what is said of a sample graph: its nodes and edges, the bounds of an answer for it, lower and upper, and what was spent
abbrev pub sample_line : Graph → ℕ × ℕ → ℕ → List ℕ
sample_line g bounds spent =
    codes "sample " ++ (decimal g.nodes
    ++ (codes " " ++ (decimal (length g.ends)
    ++ (codes " lower " ++ (decimal bounds.0
    ++ (codes " upper " ++ (decimal bounds.1
    ++ (codes " spent " ++ (decimal spent ++ codes "\n")))))))))
