-- The line that says where an answer is refused, and why.
use Rattle.std.specs.Prelude.{ℕ, List, ◌++◌, decimal, codes}
use Rattle.std.specs.Fmt.{signed_decimal}
use Rattle.xn_graph.specs.declared.counts.Euler.{Euler}
use Rattle.xn_kinds.specs.declared.flaws.DrawFlaw.{DrawFlaw}
use Rattle.xn_kinds.specs.declared.flaws.DrawFlaw.TheVariants.{Length, Order, Dependent, Rotation, Touch, Genus}
use Rattle.xn_kinds.specs.declared.flaws.EvidenceFlaw.{EvidenceFlaw}
use Rattle.xn_kinds.specs.declared.flaws.EvidenceFlaw.TheVariants.{Branch, Broken, Ends, Twice, Inner, List as Listed}
use Rattle.xn_kinds.specs.declared.flaws.Flaw.{Flaw}
use Rattle.xn_kinds.specs.declared.flaws.FlawKind.{FlawKind}
use Rattle.xn_kinds.specs.declared.flaws.FlawKind.TheVariants.{Syntax, Number, Loop, SizeDiffers, GraphDiffers, Draw, Count, Row, TreeShape, Weak, Trailing}
use Rattle.xn_kinds.specs.declared.flaws.RowFlaw.{RowFlaw}
use Rattle.xn_kinds.specs.declared.flaws.RowFlaw.TheVariants as row

-- a key and one number, a key and two numbers
abbrev pub one_word : List ℕ → ℕ → List ℕ
one_word key a = key ++ decimal a

abbrev pub two_words : List ℕ → ℕ → ℕ → List ℕ
two_words key a b = key ++ (decimal a ++ (codes " " ++ decimal b))

-- the words for counts that don't balance
abbrev pub genus_words : Euler → List ℕ
genus_words counts =
    codes "genus " ++ (decimal counts.v
    ++ (codes " " ++ (decimal counts.e
    ++ (codes " " ++ (decimal counts.f
    ++ (codes " " ++ decimal counts.c))))))

-- the words for a flaw of a drawing
abbrev pub draw_words : DrawFlaw → List ℕ
draw_words Length = codes "length"
draw_words (Order e f) = two_words (codes "order ") e f
draw_words (Dependent e f) = two_words (codes "dependent ") e f
draw_words (Rotation d) = one_word (codes "rotation ") d
draw_words (Touch e f) = two_words (codes "touch ") e f
draw_words (Genus counts) = genus_words counts

-- the words for a flaw of an evidence
abbrev pub evidence_words : EvidenceFlaw → List ℕ
evidence_words (Branch i) = one_word (codes "branch ") i
evidence_words (Broken i) = one_word (codes "broken ") i
evidence_words (Ends i) = one_word (codes "ends ") i
evidence_words (Twice s) = one_word (codes "twice ") s
evidence_words (Inner v) = one_word (codes "inner ") v
evidence_words (Listed i) = one_word (codes "list ") i

-- the words for a flaw of a row
abbrev pub row_words : RowFlaw → List ℕ
row_words (row.Edge e) = one_word (codes "edge ") e
row_words (row.Order e f) = two_words (codes "order ") e f
row_words (row.Dependent e f) = two_words (codes "dependent ") e f
row_words (row.Evidence flaw) = codes "evidence " ++ evidence_words flaw
row_words row.Extends = codes "extends"

-- the words for the flaw of a line
abbrev pub kind_words : FlawKind → List ℕ
kind_words Syntax = codes "syntax"
kind_words Number = codes "number"
kind_words (Loop e) = one_word (codes "loop ") e
kind_words SizeDiffers = codes "size-differs"
kind_words (GraphDiffers e) = one_word (codes "edge-differs ") e
kind_words (Draw flaw) = draw_words flaw
kind_words (Count said counted) = two_words (codes "count ") said counted
kind_words (Row i flaw) = codes "row " ++ (decimal i ++ (codes " " ++ row_words flaw))
kind_words (TreeShape n) = one_word (codes "tree ") n
kind_words (Weak bound need) = codes "weak " ++ (signed_decimal bound ++ (codes " " ++ signed_decimal need))
kind_words Trailing = codes "trailing"

-- the line for a flaw, with its end
abbrev pub flaw_line : Flaw → List ℕ
flaw_line flaw = codes "refused " ++ (decimal flaw.line ++ (codes " " ++ (kind_words flaw.kind ++ codes "\n")))
