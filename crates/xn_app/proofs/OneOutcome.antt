-- What is asked comes to one outcome, and so a run ends so, faults and the like aside.
use Rattle.std.proofs.Common.{◌≡◌, ◌⊎◌, ℕ, inl, inr, List, [], Option, None, Some, IfSome, Result, Ok, Err, refl, sym, ap, ◌∙◌}
use Rattle.xn_check.specs.Laws.{OneDrawVerdict, OneFrontVerdict, OneVerdict}
use Rattle.xn_check.specs.Verdict.{DrawVerdict, FrontVerdict, Verdict}
use Rattle.xn_gml.specs.Meaning.{Found, graph_of_text}
use Rattle.xn_gml.specs.declared.errors.GmlErr.{GmlErr}
use Rattle.xn_io.specs.Input.{Files, bytes_of}
use Rattle.xn_kinds.specs.declared.flaws.Flaw.{Flaw}
use Rattle.xn_command.specs.Request.{Request, check, draw, examine, sample, solve}
use Rattle.xn_app.specs.Ends.{Quits, Ran, Wrote}
use Rattle.xn_app.specs.Outcome.{AreOneEnd, Checked, ComesTo, Drawn, IsByVerdict, OnGraph, Outcome, Searched, outcome_of}
use Rattle.xn_app.specs.Status.{IsAside, IsEarly, IsSearchEnd}
use Rattle.xn_app.specs.declared.status.Limit.TheVariants.{Bytes, Edges, Nodes}
use Rattle.xn_app.specs.declared.status.Status.{Status}
use Rattle.xn_app.specs.declared.status.Status.TheVariants.{Done, Refused, Words, Graph, Limit, Read, Undecided, Write, Memory}
use Rattle.xn_app.proofs.Samples.{both_sampled}
use Rattle.xn_app.proofs.Searches.{both_searched}

-- one verdict leads to one outcome
one_judged : {V : Type 0} (HasVerdict : Result V Flaw → Type 0) (text : V → List ℕ) → ((v w : Result V Flaw) → HasVerdict v → HasVerdict w → v ≡ w) → (x y : Outcome) → IsByVerdict HasVerdict text x → IsByVerdict HasVerdict text y → x ≡ y
one_judged HasVerdict text one x y first second =
    first.outcome_is ∙ ap (outcome_of text) (one first.verdict second.verdict first.holds second.holds) ∙ sym second.outcome_is

module _ (check_law : OneVerdict) (draw_law : OneDrawVerdict) (front_law : OneFrontVerdict) where
  one_on : (Rest : Found → Outcome → Type 0) → ((found : Found) (x y : Outcome) → Rest found x → Rest found y → x ≡ y) →
      (read : Result Found GmlErr) (x y : Outcome) → OnGraph read Rest x → OnGraph read Rest y → x ≡ y
  one_on Rest one (Ok found) x y first second = one found x y first second
  one_on Rest one (Err e) x y first second = first ∙ sym second

  -- the graph is searched, or there is none
  one_search : (budget : ℕ) (read : Result Found GmlErr) (x y : Outcome) → OnGraph read (Searched budget) x → OnGraph read (Searched budget) y →
      (IsSearchEnd x.0 × IsSearchEnd y.0) ⊎ (x.0 ≡ y.0)
  one_search budget (Ok found) x y first second = inl (both_searched budget found x y first second)
  one_search budget (Err e) x y first second = inr (ap (λ (o : Outcome). o.0) (first ∙ sym second))

  pub one_end : (files : Files) (asked : Request) (x y : Outcome) → ComesTo files asked x → ComesTo files asked y → AreOneEnd asked x.0 y.0
  one_end files (solve graph budget) x y first second = one_search budget (graph_of_text (bytes_of files graph)) x y first second
  one_end files (sample nodes budget) x y first second = both_sampled budget nodes x y first second
  one_end files (examine answer) x y first second =
      ap (λ (o : Outcome). o.0) (one_judged (FrontVerdict (bytes_of files answer)) _ (front_law (bytes_of files answer)) x y first second)
  one_end files (check graph answer) x y first second =
      let text = bytes_of files answer in
      ap (λ (o : Outcome). o.0) (one_on (Checked text)
      (λ found x y a b. one_judged (Verdict found.graph found.loops text) _ (check_law found.graph found.loops text) x y a b)
      (graph_of_text (bytes_of files graph)) x y first second)
  one_end files (draw graph answer) x y first second =
      let text = bytes_of files answer in
      ap (λ (o : Outcome). o.0) (one_on (Drawn text)
      (λ found x y a b. one_judged (DrawVerdict found.graph found.loops text) _ (draw_law found.graph found.loops text) x y a b)
      (graph_of_text (bytes_of files graph)) x y first second)

-- ---- the end is that of the outcome

-- whatever outcomes there are, their ends are one, as those of what is asked
abbrev Agree : (Outcome → Type 0) → Request → Type 0
Agree Comes asked = (x y : Outcome) → Comes x → Comes y → AreOneEnd asked x.0 y.0

same_end : (Comes : Outcome → Type 0) (asked : Request) (end : Status) (old new : Option (List ℕ)) (outcome : Outcome) → Agree Comes asked → Wrote Comes end old new → Comes outcome → IsAside end ⊎ AreOneEnd asked end outcome.0
same_end Comes asked end old new outcome one wrote comes = inr (one (end, wrote.output) outcome wrote.comes comes)

exact : (Comes : Outcome → Type 0) (asked : Request) (end : Status) (old new : Option (List ℕ)) (outcome : Outcome) → Agree Comes asked → (end ≡ Words → ⊥) → Ran Comes end old new → Comes outcome → IsAside end ⊎ AreOneEnd asked end outcome.0
exact Comes asked Write old new outcome one spoken ran comes = inl tt
exact Comes asked Read old new outcome one spoken ran comes = inl tt
exact Comes asked Memory old new outcome one spoken ran comes = inl tt
exact Comes asked (Limit Bytes) old new outcome one spoken ran comes = inl tt
exact Comes asked Words old new outcome one spoken ran comes = absurd (spoken refl)
exact Comes asked Done old new outcome one spoken ran comes = same_end Comes asked Done old new outcome one ran comes
exact Comes asked (Refused flaw) old new outcome one spoken ran comes = same_end Comes asked (Refused flaw) old new outcome one ran comes
exact Comes asked (Graph e) old new outcome one spoken ran comes = same_end Comes asked (Graph e) old new outcome one ran comes
exact Comes asked (Limit Nodes) old new outcome one spoken ran comes = same_end Comes asked (Limit Nodes) old new outcome one ran comes
exact Comes asked (Limit Edges) old new outcome one spoken ran comes = same_end Comes asked (Limit Edges) old new outcome one ran comes
exact Comes asked (Undecided lower upper spent) old new outcome one spoken ran comes = same_end Comes asked (Undecided lower upper spent) old new outcome one ran comes

-- a run with a command ends as the files lead to
pub exact_told : (check_law : OneVerdict) (draw_law : OneDrawVerdict) (front_law : OneFrontVerdict) (told : Option Files) (asked : Request) (end : Status) (old new : Option (List ℕ)) → (end ≡ Words → ⊥) → IfSome told (λ files. Ran (ComesTo files asked) end old new) → IfSome told (λ files. (outcome : Outcome) → ComesTo files asked outcome → IsAside end ⊎ AreOneEnd asked end outcome.0)
exact_told check_law draw_law front_law None asked end old new spoken ran = tt
exact_told check_law draw_law front_law (Some files) asked end old new spoken ran =
    λ outcome comes. exact (ComesTo files asked) asked end old new outcome (one_end check_law draw_law front_law files asked) spoken ran comes

-- so it does where it ends early
exact_early : (Comes : Outcome → Type 0) (asked : Request) (end : Status) (outcome : Outcome) → Agree Comes asked → IsEarly end → Quits Comes end → Comes outcome → IsAside end ⊎ AreOneEnd asked end outcome.0
exact_early Comes asked Read outcome one early quits comes = inl tt
exact_early Comes asked Memory outcome one early quits comes = inl tt
exact_early Comes asked (Limit Bytes) outcome one early quits comes = inl tt
exact_early Comes asked (Limit Nodes) outcome one early (inl unread) comes = absurd unread
exact_early Comes asked (Limit Nodes) outcome one early (inr quits) comes = inr (one (Limit Nodes, []) outcome quits comes)
exact_early Comes asked (Limit Edges) outcome one early (inl unread) comes = absurd unread
exact_early Comes asked (Limit Edges) outcome one early (inr quits) comes = inr (one (Limit Edges, []) outcome quits comes)
exact_early Comes asked (Graph e) outcome one early (inl unread) comes = absurd unread
exact_early Comes asked (Graph e) outcome one early (inr quits) comes = inr (one (Graph e, []) outcome quits comes)
exact_early Comes asked Done outcome one early quits comes = absurd early
exact_early Comes asked (Refused flaw) outcome one early quits comes = absurd early
exact_early Comes asked Words outcome one early quits comes = absurd early
exact_early Comes asked (Undecided lower upper spent) outcome one early quits comes = absurd early
exact_early Comes asked Write outcome one early quits comes = absurd early

pub early_told : (check_law : OneVerdict) (draw_law : OneDrawVerdict) (front_law : OneFrontVerdict) (told : Option Files) (asked : Request) (end : Status) → IsEarly end → IfSome told (λ files. Quits (ComesTo files asked) end) → IfSome told (λ files. (outcome : Outcome) → ComesTo files asked outcome → IsAside end ⊎ AreOneEnd asked end outcome.0)
early_told check_law draw_law front_law None asked end early quits = tt
early_told check_law draw_law front_law (Some files) asked end early quits =
    λ outcome comes. exact_early (ComesTo files asked) asked end outcome (one_end check_law draw_law front_law files asked) early quits comes
