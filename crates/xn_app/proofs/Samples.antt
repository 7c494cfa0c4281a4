-- What the search of a sample graph leads to, and what its ends say.
use Rattle.std.proofs.Common.{◌≡◌, ◌⊎◌, ℕ, ◌≤◌, inl, inr, List, Option, Result, Ok, Err, sym, ◌∙◌, subst}
use Rattle.std.specs.Io.KnownBytes.{Appends}
use Rattle.xn_model.specs.Drawing.{IsAtLeast, IsAtMost}
use Rattle.xn_model.specs.Graph.{Graph}
use Rattle.xn_graph.specs.Limits.{IsLimitedGraph}
use Rattle.xn_kinds.specs.declared.answers.Answer.{Answer}
use Rattle.xn_kinds.specs.declared.flaws.Flaw.{Flaw}
use Rattle.xn_proof.specs.Spelling.{text_of}
use Rattle.xn_check.specs.Laws.{AcceptedTextBounds, OneVerdict}
use Rattle.xn_check.specs.Verdict.{Verdict}
use Rattle.xn_sample.specs.Sample.{sample_of}
use Rattle.xn_command.specs.Request.{Request, sample}
use Rattle.xn_app.specs.Ends.{Finishes, RanAlone, SaysSample, SaysSampleNumber, SaysSampleUndecided, Wrote}
use Rattle.xn_app.specs.Files.{WithoutFile}
use Rattle.xn_app.specs.Outcome.{ComesAlone, EndsSearch, IsAnswerFor, Outcome, Sampled}
use Rattle.xn_app.specs.Output.{sample_line}
use Rattle.xn_app.specs.Status.{IsSearchEnd}
use Rattle.xn_app.specs.declared.status.Status.{Status}
use Rattle.xn_app.specs.declared.status.Status.TheVariants.{Done, Refused, Words, Graph as NoGraph, Limit, Read, Undecided, Write, Memory}
use Rattle.xn_app.proofs.Searches.{search_end}

-- ---- the checker

-- an answer that is accepted isn't refused
pub never_refused : (law : OneVerdict) (g : Graph) (loops : ℕ) (text : List ℕ) (bounds : ℕ × ℕ) (flaw : Flaw) → Verdict g loops text (Ok bounds) → Verdict g loops text (Err flaw) → ⊥
never_refused law g loops text bounds flaw accepted refused = ok_is_no_err bounds flaw (law g loops text (Ok bounds) (Err flaw) accepted refused)
  where
    ok_is_no_err : (bounds : ℕ × ℕ) (flaw : Flaw) → Path (Result (ℕ × ℕ) Flaw) (Ok bounds) (Err flaw) → ⊥
    ok_is_no_err bounds flaw e = cc

-- and it is accepted with the same bounds
pub same_bounds : (law : OneVerdict) (g : Graph) (loops : ℕ) (text : List ℕ) (a b : ℕ × ℕ) → Verdict g loops text (Ok a) → Verdict g loops text (Ok b) → (a.0 ≡ b.0) × (a.1 ≡ b.1)
same_bounds law g loops text a b first second =
    let same = one_value a b (law g loops text (Ok a) (Ok b) first second) in
    ((λ i. (same i).0), (λ i. (same i).1))
  where
    one_value : (a b : ℕ × ℕ) → Path (Result (ℕ × ℕ) Flaw) (Ok a) (Ok b) → a ≡ b
    one_value a b e = cc

-- ---- the outcome

pub sampled_by : (budget nodes : ℕ) (g : Graph) (end : Status) (a : Answer) (lower upper : ℕ) (line : List ℕ) → g ≡ sample_of nodes → IsLimitedGraph g → IsAnswerFor g 0 budget (text_of a) a →
    EndsSearch g budget a end → lower ≡ a.lower → upper ≡ a.upper → line ≡ sample_line g (lower, upper) a.spent → Sampled budget nodes (end, line)
sampled_by budget nodes g end a lower upper line is limited is_answer ends low high line_is = record {
  is_graph = subst IsLimitedGraph is limited;
  answer = a;
  is_answer = subst (λ (h : Graph). IsAnswerFor h 0 budget (text_of a) a) is is_answer;
  ends = subst (λ (h : Graph). EndsSearch h budget a end) is ends;
  line_is = line_is ∙ (λ i. sample_line (is i) (low i, high i) a.spent);
}

-- two of them
pub both_sampled : (budget nodes : ℕ) (x y : Outcome) → Sampled budget nodes x → Sampled budget nodes y → IsSearchEnd x.0 × IsSearchEnd y.0
both_sampled budget nodes x y first second =
    (search_end (sample_of nodes) budget first.answer x.0 first.ends, search_end (sample_of nodes) budget second.answer y.0 second.ends)

-- ---- how a run ends

wrote_alone : (Comes : Outcome → Type 0) (end : Status) (output : List ℕ) (old new : Option (List ℕ)) → IsSearchEnd end → Comes (end, output) → Appends old new output → RanAlone Comes end old new
wrote_alone Comes Done output old new searched comes written = record { output = output; comes = comes; written = written }
wrote_alone Comes (Undecided lower upper spent) output old new searched comes written = record { output = output; comes = comes; written = written }
wrote_alone Comes (Refused flaw) output old new searched comes written = absurd searched
wrote_alone Comes Words output old new searched comes written = absurd searched
wrote_alone Comes (NoGraph e) output old new searched comes written = absurd searched
wrote_alone Comes (Limit l) output old new searched comes written = absurd searched
wrote_alone Comes Read output old new searched comes written = absurd searched
wrote_alone Comes Write output old new searched comes written = absurd searched
wrote_alone Comes Memory output old new searched comes written = absurd searched

-- a run whose line was made
pub finished_alone : (r : Request) (nodes budget : ℕ) (end : Status) (output : List ℕ) (old new : Option (List ℕ)) (before after : ℕ) (result : Status) → r ≡ sample nodes budget →
    ComesAlone r (end, output) → Finishes end output old new before after result → RanAlone (Sampled budget nodes) result old new
finished_alone r nodes budget end output old new before after result is comes finishes =
    let sampled : Sampled budget nodes (end, output) = subst (λ (s : Request). ComesAlone s (end, output)) is comes in
    ended sampled finishes
  where
    ended : Sampled budget nodes (end, output) → Finishes end output old new before after result → RanAlone (Sampled budget nodes) result old new
    ended sampled (inl all) =
        subst (λ s. RanAlone (Sampled budget nodes) s old new) (sym all.0)
        (wrote_alone (Sampled budget nodes) end output old new (search_end (sample_of nodes) budget sampled.answer end sampled.ends) sampled all.1)
    ended sampled (inr part) =
        subst (λ s. RanAlone (Sampled budget nodes) s old new) (sym part.0) (record { outcome = (end, output); comes = sampled; written = part.1 })

-- a run in which memory was wanting
pub wanting_alone : (r : Request) (nodes budget : ℕ) (end : Status) (old new : Option (List ℕ)) → r ≡ sample nodes budget → WithoutFile r (end ≡ Memory) → RanAlone (Sampled budget nodes) end old new
wanting_alone r nodes budget end old new is wanting =
    let memory = subst (λ (s : Request). WithoutFile s (end ≡ Memory)) is wanting in
    subst (λ s. RanAlone (Sampled budget nodes) s old new) (sym memory) tt

-- ---- what was written

module _ (law : AcceptedTextBounds) (nodes budget : ℕ) (old new : Option (List ℕ)) where
  abbrev said : (end : Status) → Wrote (Sampled budget nodes) end old new → SaysSample nodes budget old new
  said end wrote = record {
    is_graph = wrote.comes.is_graph;
    answer = wrote.comes.answer;
    is_answer = wrote.comes.is_answer;
    in_budget = subst (λ b. wrote.comes.answer.spent ≤ b) wrote.comes.is_answer.budget_is wrote.comes.is_answer.spelled.well_formed.bounds.spent_small;
    written = subst (λ (o : List ℕ). Appends old new o) wrote.comes.line_is wrote.written;
  }

  bounds : (a : Answer) → IsLimitedGraph (sample_of nodes) → IsAnswerFor (sample_of nodes) 0 budget (text_of a) a → IsAtLeast (sample_of nodes) a.lower × IsAtMost (sample_of nodes) a.upper
  bounds a limited is_answer = law (sample_of nodes) 0 (text_of a) a.lower a.upper limited.is_graph is_answer.accepted

  says_number : Wrote (Sampled budget nodes) Done old new → SaysSampleNumber nodes budget old new
  says_number wrote =
      let shown = bounds wrote.comes.answer wrote.comes.is_graph wrote.comes.is_answer in
      record {
        says = said Done wrote;
        decided = wrote.comes.ends;
        number = record { least = subst (IsAtLeast (sample_of nodes)) wrote.comes.ends shown.0; at_most = shown.1 };
      }

  says_undecided : (lower upper spent : ℕ) → Wrote (Sampled budget nodes) (Undecided lower upper spent) old new → SaysSampleUndecided nodes budget lower upper spent old new
  says_undecided lower upper spent wrote =
      let shown = bounds wrote.comes.answer wrote.comes.is_graph wrote.comes.is_answer in
      record {
        says = said (Undecided lower upper spent) wrote;
        undecided = wrote.comes.ends;
        least = subst (IsAtLeast (sample_of nodes)) (sym wrote.comes.ends.lower_is) shown.0;
        at_most = subst (IsAtMost (sample_of nodes)) (sym wrote.comes.ends.upper_is) shown.1;
      }

  -- the search is done
  pub sampled_done : (end : Status) → end ≡ Done → RanAlone (Sampled budget nodes) end old new → SaysSampleNumber nodes budget old new
  sampled_done end done ran = says_number (subst (λ s. RanAlone (Sampled budget nodes) s old new) done ran)

  -- it is undecided
  pub sampled_undecided : (lower upper spent : ℕ) (end : Status) → end ≡ Undecided lower upper spent → RanAlone (Sampled budget nodes) end old new → SaysSampleUndecided nodes budget lower upper spent old new
  sampled_undecided lower upper spent end ended ran = says_undecided lower upper spent (subst (λ s. RanAlone (Sampled budget nodes) s old new) ended ran)
