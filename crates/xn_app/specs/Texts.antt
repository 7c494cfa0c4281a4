-- What is said of an end on standard error.
use Rattle.std.specs.Prelude.{ℕ, List, [], ◌∷◌, ◌++◌, Option, Some, None, codes, decimal}
use Rattle.xn_gml.specs.declared.errors.GmlErr.{GmlErr}
use Rattle.xn_gml.specs.declared.errors.GmlErr.TheVariants as gml
use Rattle.xn_app.specs.declared.status.Limit.TheVariants.{Bytes, Edges, Nodes}
use Rattle.xn_app.specs.declared.status.Status.{Status}
use Rattle.xn_app.specs.declared.status.Status.TheVariants.{Done, Refused, Words, Graph, Limit, Read, Undecided, Write, Memory}

-- why a text has no graph; where that has an offset, it follows
abbrev pub graph_text_of : GmlErr → List ℕ
graph_text_of (gml.Syntax at) = codes "xnum: graph text refused: syntax at "
graph_text_of (gml.Deep at) = codes "xnum: graph text refused: deep at "
graph_text_of gml.NoGraph = codes "xnum: graph text refused: no graph"
graph_text_of (gml.SecondGraph at) = codes "xnum: graph text refused: second graph at "
graph_text_of (gml.NoId at) = codes "xnum: graph text refused: no id at "
graph_text_of (gml.Repeated at) = codes "xnum: graph text refused: repeated at "
graph_text_of (gml.Unknown at) = codes "xnum: graph text refused: unknown at "
graph_text_of (gml.Range at) = codes "xnum: graph text refused: range at "
graph_text_of gml.TooManyNodes = codes "xnum: more than 1000 nodes"
graph_text_of gml.TooManyEdges = codes "xnum: more than 1000 edges"
graph_text_of gml.Memory = codes "xnum: no memory"

abbrev pub graph_offset_of : GmlErr → Option ℕ
graph_offset_of (gml.Syntax at) = Some at
graph_offset_of (gml.Deep at) = Some at
graph_offset_of (gml.SecondGraph at) = Some at
graph_offset_of (gml.NoId at) = Some at
graph_offset_of (gml.Repeated at) = Some at
graph_offset_of (gml.Unknown at) = Some at
graph_offset_of (gml.Range at) = Some at
graph_offset_of e = None

-- the text of an end, but for an offset; an end that is told on standard output has none
abbrev pub text_of : Status → List ℕ
text_of Done = []
text_of (Refused flaw) = []
text_of (Undecided lower upper spent) = []
text_of Words = codes "xnum: the words are not a command of this program"
text_of (Graph e) = graph_text_of e
text_of (Limit Nodes) = codes "xnum: more than 1000 nodes"
text_of (Limit Edges) = codes "xnum: more than 1000 edges"
text_of (Limit Bytes) = codes "xnum: too many bytes"
text_of Read = codes "xnum: a read failed"
text_of Write = codes "xnum: a write failed"
text_of Memory = codes "xnum: no memory"

abbrev pub offset_of : Status → Option ℕ
offset_of (Graph e) = graph_offset_of e
offset_of end = None

-- the digits of an offset, if there is one
abbrev pub digits_of : Option ℕ → List ℕ
digits_of None = []
digits_of (Some at) = decimal at

-- a line of a text and what follows it; an empty text has none
abbrev pub line_of : List ℕ → List ℕ → List ℕ
line_of [] more = []
line_of (c ∷ text) more = ((c ∷ text) ++ more) ++ codes "\n"

-- the line that says why a run ended so, on standard error; an end that is told on standard output has none
abbrev pub told_line : Status → List ℕ
told_line end = line_of (text_of end) (digits_of (offset_of end))
