-- What texts are that the verdicts accept.
use Rattle.std.specs.Prelude.{◌≡◌, ℕ, ◌↔◌, List, Result, Ok, Err}
use Rattle.xn_model.specs.Drawing.{IsAtMost, IsListedDrawing, IsAtLeast, order_of}
use Rattle.xn_model.specs.Graph.{Graph, IsGraph}
use Rattle.xn_model.specs.Orders.{crossing_count}
use Rattle.xn_draw.specs.Seen.{IsSeen}
use Rattle.xn_draw.specs.declared.results.Seen.{Seen}
use Rattle.xn_kinds.specs.Tree.{Accepts}
use Rattle.xn_kinds.specs.declared.answers.Answer.{Answer}
use Rattle.xn_kinds.specs.declared.drawings.Drawing.{Drawing}
use Rattle.xn_kinds.specs.declared.flaws.Flaw.{Flaw}
use Rattle.xn_kinds.specs.declared.rows.Row.{Row}
use Rattle.xn_kinds.specs.declared.trees.Node.{Node}
use Rattle.xn_proof.specs.Spelling.{text_of}
use Rattle.xn_proof.specs.WellFormed.{WellFormed}
use Rattle.xn_check.specs.Verdict.{DrawVerdict, FrontVerdict, Verdict}

-- the text is the one spelling of the answer, which is one for the graph and so many loops: it has a drawing of the graph with
-- `upper` crossings
pub record Spells (g : Graph) (loops : ℕ) (text : List ℕ) (a : Answer) : Type 0 where
  pub well_formed : WellFormed a
  pub text_is : text ≡ text_of a
  pub same_graph : a.graph ≡ g
  pub same_loops : a.loops ≡ loops
  pub drawing : IsListedDrawing g a.drawing.orders a.drawing.next
  pub crossings : a.upper ≡ crossing_count g (order_of g a.drawing.orders)

-- of an answer with this drawing
abbrev pub SpellsDrawing : Graph → ℕ → List ℕ → Drawing → Type 0
SpellsDrawing g loops text d = (a : Answer) × Spells g loops text a × (a.drawing ≡ d)

-- of an answer with these bounds, whose rows hold and whose tree proves `lower`
abbrev pub SpellsProof : Graph → ℕ → List ℕ → ℕ → ℕ → Type 0
SpellsProof g loops text lower upper =
    (a : Answer) × Spells g loops text a × (a.lower ≡ lower) × (a.upper ≡ upper) × Accepts g lower a.rows a.tree

-- the text is the one spelling of an answer whose drawing is one of its graph with `upper` crossings, and this is seen of it
pub record SpellsFront (text : List ℕ) (seen : Seen) : Type 0 where
  pub answer : Answer
  pub well_formed : WellFormed answer
  pub text_is : text ≡ text_of answer
  pub is_seen : IsSeen answer.graph answer.drawing.orders answer.drawing.next seen
  pub crossings : answer.upper ≡ seen.crossings

-- a text has at most one verdict
abbrev pub OneVerdict : Type 0
OneVerdict = (g : Graph) (loops : ℕ) (text : List ℕ) (o p : Result (ℕ × ℕ) Flaw) → Verdict g loops text o → Verdict g loops text p → o ≡ p

-- and at most one draw verdict
abbrev pub OneDrawVerdict : Type 0
OneDrawVerdict = (g : Graph) (loops : ℕ) (text : List ℕ) (o p : Result Drawing Flaw) → DrawVerdict g loops text o → DrawVerdict g loops text p → o ≡ p

-- and at most one front verdict
abbrev pub OneFrontVerdict : Type 0
OneFrontVerdict = (text : List ℕ) (o p : Result Seen Flaw) → FrontVerdict text o → FrontVerdict text p → o ≡ p

-- the front verdict gives what is seen exactly where the text spells an answer with such a drawing
abbrev pub SeenWhereSpelled : Type 0
SeenWhereSpelled = (text : List ℕ) (seen : Seen) → FrontVerdict text (Ok seen) ↔ SpellsFront text seen

-- the draw verdict gives a drawing exactly where the text spells an answer with this drawing
abbrev pub DrawnWhereSpelled : Type 0
DrawnWhereSpelled = (g : Graph) (loops : ℕ) (text : List ℕ) (d : Drawing) → DrawVerdict g loops text (Ok d) ↔ SpellsDrawing g loops text d

-- a text is accepted with its bounds exactly where it spells an answer with them and a proof
abbrev pub AcceptedWhereSpelled : Type 0
AcceptedWhereSpelled =
    (g : Graph) (loops : ℕ) (text : List ℕ) (lower upper : ℕ) →
    Verdict g loops text (Ok (lower, upper)) ↔ SpellsProof g loops text lower upper

-- no text that spells such an answer is refused: by the front verdict, the draw verdict, and the verdict
abbrev pub FrontsAreTaken : Type 0
FrontsAreTaken = (text : List ℕ) (seen : Seen) (flaw : Flaw) → SpellsFront text seen → ¬ (FrontVerdict text (Err flaw))

abbrev pub DrawingsAreTaken : Type 0
DrawingsAreTaken =
    (g : Graph) (loops : ℕ) (text : List ℕ) (d : Drawing) (flaw : Flaw) → SpellsDrawing g loops text d → ¬ (DrawVerdict g loops text (Err flaw))

abbrev pub ProofsAreTaken : Type 0
ProofsAreTaken =
    (g : Graph) (loops : ℕ) (text : List ℕ) (lower upper : ℕ) (flaw : Flaw) → SpellsProof g loops text lower upper →
    ¬ (Verdict g loops text (Err flaw))

-- the text has a drawing with upper crossings, and rows and a tree that prove lower
pub record HasProofOf (g : Graph) (lower upper : ℕ) : Type 0 where
  pub lists : List (List ℕ)
  pub next : List ℕ
  pub drawing : IsListedDrawing g lists next
  pub crossings : upper ≡ crossing_count g (order_of g lists)
  pub rows : List Row
  pub tree : List Node
  pub accepted : Accepts g lower rows tree

abbrev pub AcceptedHasProof : Type 0
AcceptedHasProof = (g : Graph) (loops : ℕ) (text : List ℕ) (lower upper : ℕ) → Verdict g loops text (Ok (lower, upper)) → HasProofOf g lower upper

-- a text that is accepted bounds the crossing number of its graph from both sides, over all drawings
abbrev pub AcceptedTextBounds : Type 0
AcceptedTextBounds =
    (g : Graph) (loops : ℕ) (text : List ℕ) (lower upper : ℕ) → IsGraph g → Verdict g loops text (Ok (lower, upper)) →
    IsAtLeast g lower × IsAtMost g upper
