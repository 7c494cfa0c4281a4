-- What a checker in pieces says of a text that it stands for.
use Rattle.std.proofs.Common.{◌≡◌, ℕ, zero, suc, ◌<◌, Bool, true, false, cond, List, [], ◌∷◌, ◌++◌, length, take, drop, get_or, Result, Ok, Err, refl, sym, subst, ap, ◌∙◌, append_assoc, arith}
use Rattle.std.specs.List.{flat_map}
use Rattle.std.specs.Prelude.{Option, Some, None}
use Rattle.xn_model.specs.Graph.{Graph}
use Rattle.xn_kinds.specs.declared.flaws.Flaw.{Flaw}
use Rattle.xn_proof.specs.Forms.{Reached, is_end}
use Rattle.xn_proof.specs.Reading.{syntax}
use Rattle.xn_proof.specs.declared.flaw.AnswerErr.{AnswerErr}
use Rattle.xn_proof.specs.declared.flaw.AnswerErr.TheVariants as errors
use Rattle.xn_check.specs.Gives.{GivesVerdict, RefusesText, bounds_in}
use Rattle.xn_check.specs.Judge.{graph_kept, said_of}
use Rattle.xn_check.specs.Judging.{AtEnd, Rules, at_end}
use Rattle.xn_check.specs.Said.{Said}
use Rattle.xn_check.specs.Verdict.{check_rules}
use Rattle.xn_check.specs.declared.verdicts.Accepted.{Accepted}
use Rattle.xn_check.proofs.OneOutcome.{all_apart}
use Rattle.xn_stream.specs.Pieces.{ComesOrFails, HasCome, HoldsFlaw, RefusesExactly}
use Rattle.xn_stream.specs.Stream.{IsKnownBy, StandsForText, Stream, rules_in}
use Rattle.xn_stream.proofs.Apart.{no_flaw}
use Rattle.xn_stream.proofs.Come.{comes_out, flaw_comes, flaw_stays}

-- ---- after a refusal

known_verdict : (v : Stream) (e : AnswerErr) (text : List ℕ) → IsKnownBy v (Some e) text → RefusesText (rules_in v) text e
known_verdict v errors.Memory text known = tt
known_verdict v (errors.Refused flaw) text known = flaw_comes (rules_in v) text flaw known

known_more : (v : Stream) (e : AnswerErr) (text piece : List ℕ) → IsKnownBy v (Some e) text → IsKnownBy v (Some e) (text ++ piece)
known_more v errors.Memory text piece known = absurd known
known_more v (errors.Refused flaw) text piece known = flaw_stays (rules_in v) text piece flaw known

known_exactly : (v : Stream) (e : AnswerErr) (text piece : List ℕ) → IsKnownBy v (Some e) text → RefusesExactly (rules_in v) (text ++ piece) (Err e)
known_exactly v errors.Memory text piece known = tt
known_exactly v (errors.Refused flaw) text piece known = flaw_stays (rules_in v) text piece flaw known

module _ (v : Stream) (e : AnswerErr) (refused : v.refused ≡ Some e) (text : List ℕ) (stands : StandsForText v text) where
  known : IsKnownBy v (Some e) text
  known = subst (λ (o : Option AnswerErr). IsKnownBy v o text) refused stands

  pub refused_verdict : RefusesText (rules_in v) text e
  refused_verdict = known_verdict v e text known

  pub refused_more : (piece : List ℕ) → StandsForText v (text ++ piece)
  refused_more piece = subst (λ (o : Option AnswerErr). IsKnownBy v o (text ++ piece)) (sym refused) (known_more v e text piece known)

  pub refused_exactly : (piece : List ℕ) → RefusesExactly (rules_in v) (text ++ piece) (Err e)
  refused_exactly piece = known_exactly v e text piece known

-- ---- before one

ends_so : (b : Bool) (rules : Rules Said (ℕ × ℕ)) (number : ℕ) (s : Said) (a : Accepted) (e : AnswerErr) →
    Ok (a.lower, a.upper) ≡ cond b (Ok (rules.answer s)) (Err e) → AtEnd rules b number s (Ok (a.lower, a.upper))
ends_so true rules number s a e is = cc
ends_so false rules number s a e is = absurd cc

stops_so : (b : Bool) (rules : Rules Said (ℕ × ℕ)) (number : ℕ) (s : Said) (out : ℕ × ℕ) (flaw : Flaw) →
    Err (errors.Refused flaw) ≡ cond b (Ok out) (Err (errors.Refused (syntax number))) → AtEnd rules b number s (Err flaw)
stops_so true rules number s out flaw is = absurd cc
stops_so false rules number s out flaw is = cc

module _ (v : Stream) (none : v.refused ≡ None) (text : List ℕ) (stands : StandsForText v text) where
  come : HasCome (rules_in v) text v.judge.at (said_of v.judge) v.begun
  come = subst (λ (o : Option AnswerErr). IsKnownBy v o text) none stands

  pub open_verdict : (r : Result Accepted AnswerErr) → bounds_in r ≡ at_end v.judge.at (v.judge.front.lower, v.judge.front.upper) →
      GivesVerdict (graph_kept v.judge) v.judge.loops text r
  open_verdict (Ok a) is =
      comes_out (rules_in v) text v.begun v.judge.at (said_of v.judge) (Ok (a.lower, a.upper)) come
      (ends_so (is_end v.judge.at.1) (rules_in v) v.judge.at.0 (said_of v.judge) a _ is)
  open_verdict (Err errors.Memory) is = tt
  open_verdict (Err (errors.Refused flaw)) is =
      comes_out (rules_in v) text v.begun v.judge.at (said_of v.judge) (Err flaw) come
      (stops_so (is_end v.judge.at.1) (rules_in v) v.judge.at.0 (said_of v.judge) _ flaw is)

  pub open_exactly : (piece : List ℕ) (at : Reached) (s : Said) (begun : List ℕ) (r : Result (Unit {0}) AnswerErr) →
      (HasCome (rules_in v) text v.judge.at (said_of v.judge) v.begun → ComesOrFails (rules_in v) (text ++ piece) at s begun r) →
      RefusesExactly (rules_in v) (text ++ piece) r
  open_exactly piece at s begun (Ok u) finds =
      λ flaw h. no_flaw (rules_in v) (all_apart (graph_kept v.judge) v.judge.loops) (text ++ piece) begun at s flaw (finds come) h
  open_exactly piece at s begun (Err errors.Memory) finds = tt
  open_exactly piece at s begun (Err (errors.Refused flaw)) finds = finds come

-- ---- pieces one after another

-- a piece in its list
pub flat_cut : {X : Type 0} (f : X → List ℕ) (xs : List X) (i : ℕ) (d : X) → i < length xs →
    flat_map f xs ≡ (flat_map f (take i xs) ++ f (get_or xs i d)) ++ flat_map f (drop (suc i) xs)
flat_cut f [] i d low = absurd (omega (arith, low))
flat_cut f (x ∷ xs) zero d low = refl
flat_cut f (x ∷ xs) (suc i) d low =
    ap (λ (l : List ℕ). f x ++ l) (flat_cut f xs i d (omega (arith, low)))
    ∙ sym (append_assoc (f x) (flat_map f (take i xs) ++ f (get_or xs i d)) (flat_map f (drop (suc i) xs)))
    ∙ ap (λ (l : List ℕ). l ++ flat_map f (drop (suc i) xs)) (sym (append_assoc (f x) (flat_map f (take i xs)) (f (get_or xs i d))))

-- what refuses a text so far refuses the whole
pub whole_refused : (rules : Rules Said (ℕ × ℕ)) (e : AnswerErr) (text more all : List ℕ) → RefusesExactly rules text (Err e) → all ≡ text ++ more →
    RefusesText rules all e
whole_refused rules errors.Memory text more all refuses is = tt
whole_refused rules (errors.Refused flaw) text more all refuses is =
    flaw_comes rules all flaw (subst (λ (t : List ℕ). HoldsFlaw rules t flaw) (sym is) (flaw_stays rules text more flaw refuses))

pub pieces_refused : {X : Type 0} (f : X → List ℕ) (xs : List X) (i : ℕ) (x : X) (piece : List ℕ) (g : Graph) (loops : ℕ) (v : Stream) (e : AnswerErr) →
    i < length xs → x ≡ get_or xs i x → piece ≡ f x → graph_kept v.judge ≡ g → v.judge.loops ≡ loops →
    RefusesExactly (rules_in v) (flat_map f (take i xs) ++ piece) (Err e) → RefusesText (check_rules g loops) (flat_map f xs) e
pieces_refused f xs i x piece g loops v e low here piece_is same_graph same_loops refuses =
    let so_far = flat_map f (take i xs) in
    let rest = flat_map f (drop (suc i) xs) in
    let same : rules_in v ≡ check_rules g loops =
    ap (λ (h : Graph). check_rules h v.judge.loops) same_graph ∙ ap (λ (l : ℕ). check_rules g l) same_loops in
    let all : flat_map f xs ≡ (so_far ++ piece) ++ rest =
    flat_cut f xs i x low ∙ ap (λ (b : List ℕ). (so_far ++ b) ++ rest) (sym (piece_is ∙ ap f here)) in
    whole_refused (check_rules g loops) e (so_far ++ piece) rest (flat_map f xs)
    (subst (λ (r : Rules Said (ℕ × ℕ)). RefusesExactly r (so_far ++ piece) (Err e)) same refuses) all
