-- What a search leads to, and what its ends say.
use Rattle.std.proofs.Common.{◌≡◌, ℕ, ◌<◌, ◌≤◌, inl, inr, List, length, Option, None, Some, IfSome, Result, Ok, Err, refl, sym, ap, ◌∙◌, subst, arith}
use Rattle.std.proofs.lemmas.Bool.{cases_lt}
use Rattle.xn_io.specs.Input.{Files, bytes_of}
use Rattle.xn_model.specs.Drawing.{IsAtLeast, IsAtMost, IsListedDrawing, order_of}
use Rattle.xn_model.specs.Graph.{Graph}
use Rattle.xn_model.specs.Orders.{crossing_count}
use Rattle.xn_kinds.specs.declared.answers.Answer.{Answer}
use Rattle.xn_proof.specs.Spelling.{text_of}
use Rattle.xn_proof.specs.WellFormed.{WellFormed}
use Rattle.xn_check.specs.Laws.{AcceptedTextBounds}
use Rattle.xn_check.specs.Verdict.{Verdict}
use Rattle.xn_gml.specs.Meaning.{Found, graph_of_text}
use Rattle.xn_gml.specs.declared.errors.GmlErr.{GmlErr}
use Rattle.xn_gml.specs.declared.errors.GmlErr.TheVariants as gml
use Rattle.xn_search.specs.Solved.{IsSolved}
use Rattle.xn_search.specs.declared.solved.Solved.{Solved}
use Rattle.xn_solve.specs.Answers.{answer_made}
use Rattle.xn_command.specs.Request.{Request, solve}
use Rattle.xn_app.specs.Ends.{Ran, SaysAnswer, SaysCrossingNumber, SaysUndecided, Wrote}
use Rattle.xn_app.specs.Outcome.{ComesTo, EndsSearch, IsAnswerFor, IsUndecided, OnGraph, Outcome, Searched, refused_graph}
use Rattle.xn_app.specs.Status.{IsSearchEnd}
use Rattle.xn_app.specs.declared.status.Status.{Status}
use Rattle.xn_app.specs.declared.status.Status.TheVariants.{Done, Refused, Words, Graph as NoGraph, Limit, Read, Undecided, Write, Memory}
use Rattle.xn_app.proofs.Graphs.{limited}
use Rattle.xn_app.proofs.Outcomes.{done_is_no_graph}

-- ---- the answer that was made

module _ (g : Graph) (loops budget : ℕ) (r : Solved) (solved : IsSolved g budget r) (a : Answer) (is : a ≡ answer_made g loops budget r) where
  -- it is one for the graph
  pub for_graph : WellFormed a → Verdict g loops (text_of a) (Ok (a.lower, a.upper)) → IsAnswerFor g loops budget (text_of a) a
  for_graph formed verdict = record {
    spelled = record {
      well_formed = formed;
      text_is = refl;
      same_graph = ap (λ (x : Answer). x.graph) is;
      same_loops = ap (λ (x : Answer). x.loops) is;
      drawing = subst (λ (x : Answer). IsListedDrawing g x.drawing.orders x.drawing.next) (sym is) solved.drawing;
      crossings = subst (λ (x : Answer). x.upper ≡ crossing_count g (order_of g x.drawing.orders)) (sym is) refl;
    };
    budget_is = ap (λ (x : Answer). x.budget) is;
    accepted = verdict;
    few_nodes = subst (λ (x : Answer). 1 ≤ x.lower → length x.tree ≤ x.spent) (sym is) solved.few_nodes;
  }

  apart : (a.lower ≡ a.upper → ⊥) → a.lower < a.upper
  apart differ = elim (cases_lt a.lower a.upper) [
    | inl below ↦ below
    | inr past ↦
        let at_most : a.lower ≤ a.upper = subst (λ (x : Answer). x.lower ≤ x.upper) (sym is) solved.at_most in
        let same : a.lower ≡ a.upper = omega (arith, at_most, past) in
        absurd (differ same)
  ]

  -- its bounds differ
  pub left_open : (a.lower ≡ a.upper → ⊥) → IsUndecided g budget a a.lower a.upper a.spent
  left_open differ =
      let low = apart differ in
      let unproved = solved.undecided (subst (λ (x : Answer). x.lower < x.upper) is low) in
      record {
        lower_is = refl;
        upper_is = refl;
        spent_is = refl;
        apart = low;
        whole = ap (λ (x : Answer). x.spent) is ∙ unproved.0;
        below = unproved.1;
      }

-- and this is its text
pub searched_by : (budget : ℕ) (found : Found) (end : Status) (a : Answer) (text : List ℕ) → IsAnswerFor found.graph found.loops budget (text_of a) a →
    EndsSearch found.graph budget a end → text ≡ text_of a → Searched budget found (end, text)
searched_by budget found end a text is_answer ends text_is = record {
  answer = a;
  is_answer = subst (λ (t : List ℕ). IsAnswerFor found.graph found.loops budget t a) (sym text_is) is_answer;
  ends = ends;
}

-- ---- the ends of a search

pub search_end : (g : Graph) (budget : ℕ) (a : Answer) (end : Status) → EndsSearch g budget a end → IsSearchEnd end
search_end g budget a Done ends = tt
search_end g budget a (Undecided lower upper spent) ends = tt
search_end g budget a (Refused flaw) ends = absurd ends
search_end g budget a Words ends = absurd ends
search_end g budget a (NoGraph e) ends = absurd ends
search_end g budget a (Limit l) ends = absurd ends
search_end g budget a Read ends = absurd ends
search_end g budget a Write ends = absurd ends
search_end g budget a Memory ends = absurd ends

-- two of them
pub both_searched : (budget : ℕ) (found : Found) (x y : Outcome) → Searched budget found x → Searched budget found y → IsSearchEnd x.0 × IsSearchEnd y.0
both_searched budget found x y first second =
    (search_end found.graph budget first.answer x.0 first.ends, search_end found.graph budget second.answer y.0 second.ends)

-- ---- what was written

module _ (law : AcceptedTextBounds) (graph_text : List ℕ) (budget : ℕ) (found : Found) (is : graph_of_text graph_text ≡ Ok found) (old new : Option (List ℕ)) where
  abbrev answered : (end : Status) → Wrote (OnGraph (Ok found) (Searched budget)) end old new → SaysAnswer graph_text budget old new
  answered end wrote = record {
    found = found;
    graph_is = is;
    is_graph = limited graph_text found is;
    text = wrote.output;
    answer = wrote.comes.answer;
    is_answer = wrote.comes.is_answer;
    written = wrote.written;
  }

  bounds : (text : List ℕ) (a : Answer) → IsAnswerFor found.graph found.loops budget text a → IsAtLeast found.graph a.lower × IsAtMost found.graph a.upper
  bounds text a is_answer = law found.graph found.loops text a.lower a.upper (limited graph_text found is).is_graph is_answer.accepted

  says_number : Wrote (OnGraph (Ok found) (Searched budget)) Done old new → SaysCrossingNumber graph_text budget old new
  says_number wrote =
      let shown = bounds wrote.output wrote.comes.answer wrote.comes.is_answer in
      record {
        says = answered Done wrote;
        decided = wrote.comes.ends;
        number = record { least = subst (IsAtLeast found.graph) wrote.comes.ends shown.0; at_most = shown.1 };
      }

  says_undecided : (lower upper spent : ℕ) → Wrote (OnGraph (Ok found) (Searched budget)) (Undecided lower upper spent) old new → SaysUndecided graph_text budget lower upper spent old new
  says_undecided lower upper spent wrote =
      let shown = bounds wrote.output wrote.comes.answer wrote.comes.is_answer in
      record {
        says = answered (Undecided lower upper spent) wrote;
        undecided = wrote.comes.ends;
        least = subst (IsAtLeast found.graph) (sym wrote.comes.ends.lower_is) shown.0;
        at_most = subst (IsAtMost found.graph) (sym wrote.comes.ends.upper_is) shown.1;
      }

number_by : (law : AcceptedTextBounds) (graph_text : List ℕ) (budget : ℕ) (read : Result Found GmlErr) (old new : Option (List ℕ)) → graph_of_text graph_text ≡ read →
    Wrote (OnGraph read (Searched budget)) Done old new → SaysCrossingNumber graph_text budget old new
number_by law graph_text budget (Ok found) old new is wrote = says_number law graph_text budget found is old new wrote
number_by law graph_text budget (Err e) old new is wrote = absurd (done_is_no_graph e wrote.output (Searched budget) wrote.comes)

-- Done where a graph is searched
pub solved_done : (law : AcceptedTextBounds) (told : Option Files) (graph : List ℕ) (budget : ℕ) (asked : Request) (end : Status) (old new : Option (List ℕ)) → asked ≡ solve graph budget → end ≡ Done →
    IfSome told (λ files. Ran (ComesTo files asked) end old new) →
    IfSome told (λ files. SaysCrossingNumber (bytes_of files graph) budget old new)
solved_done law None graph budget asked end old new is done ran = tt
solved_done law (Some files) graph budget asked end old new is done ran =
    let ran_done = subst (λ (r : Request). Ran (ComesTo files r) Done old new) is (subst (λ s. Ran (ComesTo files asked) s old new) done ran) in
    number_by law (bytes_of files graph) budget (graph_of_text (bytes_of files graph)) old new refl ran_done

not_undecided : (e : GmlErr) (lower upper spent : ℕ) → Undecided lower upper spent ≡ refused_graph e → ⊥
not_undecided gml.TooManyNodes lower upper spent d = cc
not_undecided gml.TooManyEdges lower upper spent d = cc
not_undecided gml.Memory lower upper spent d = cc
not_undecided (gml.Syntax at) lower upper spent d = cc
not_undecided (gml.Deep at) lower upper spent d = cc
not_undecided gml.NoGraph lower upper spent d = cc
not_undecided (gml.SecondGraph at) lower upper spent d = cc
not_undecided (gml.NoId at) lower upper spent d = cc
not_undecided (gml.Repeated at) lower upper spent d = cc
not_undecided (gml.Unknown at) lower upper spent d = cc
not_undecided (gml.Range at) lower upper spent d = cc

undecided_by : (law : AcceptedTextBounds) (graph_text : List ℕ) (budget lower upper spent : ℕ) (read : Result Found GmlErr) (old new : Option (List ℕ)) → graph_of_text graph_text ≡ read →
    Wrote (OnGraph read (Searched budget)) (Undecided lower upper spent) old new → SaysUndecided graph_text budget lower upper spent old new
undecided_by law graph_text budget lower upper spent (Ok found) old new is wrote = says_undecided law graph_text budget found is old new lower upper spent wrote
undecided_by law graph_text budget lower upper spent (Err e) old new is wrote = absurd (not_undecided e lower upper spent (ap (λ (o : Outcome). o.0) wrote.comes))

-- the search of a graph is undecided
pub solved_undecided : (law : AcceptedTextBounds) (told : Option Files) (graph : List ℕ) (budget lower upper spent : ℕ) (asked : Request) (end : Status) (old new : Option (List ℕ)) → asked ≡ solve graph budget →
    end ≡ Undecided lower upper spent → IfSome told (λ files. Ran (ComesTo files asked) end old new) →
    IfSome told (λ files. SaysUndecided (bytes_of files graph) budget lower upper spent old new)
solved_undecided law None graph budget lower upper spent asked end old new is ended ran = tt
solved_undecided law (Some files) graph budget lower upper spent asked end old new is ended ran =
    let ran_on = subst (λ (r : Request). Ran (ComesTo files r) (Undecided lower upper spent) old new) is (subst (λ s. Ran (ComesTo files asked) s old new) ended ran) in
    undecided_by law (bytes_of files graph) budget lower upper spent (graph_of_text (bytes_of files graph)) old new refl ran_on
