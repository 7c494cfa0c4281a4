-- A piece is taken part by part.
use Rattle.std.proofs.Common.{◌≡◌, ℕ, ◌+◌, ◌<◌, Bool, true, false, List, [], ◌∷◌, ◌++◌, length, Result, Ok, Err, refl, sym, subst, ap, ◌∙◌, append_assoc, append-nil, arith, length-append}
use Rattle.std.specs.Prelude.{Option, Some, None}
use Rattle.xn_model.specs.Graph.{Graph}
use Rattle.xn_kinds.specs.declared.flaws.Flaw.{Flaw}
use Rattle.xn_text.specs.Pieces.{Lacks, TakesLine}
use Rattle.xn_text.proofs.Cuts.{ended_stands, last_stands}
use Rattle.xn_proof.specs.declared.flaw.AnswerErr.{AnswerErr}
use Rattle.xn_proof.specs.declared.flaw.AnswerErr.TheVariants as errors
use Rattle.xn_check.specs.Judge.{HaveOneTask, IsReady, Kept, graph_kept, rules_of, said_of}
use Rattle.xn_check.specs.Judging.{Rules}
use Rattle.xn_check.specs.Said.{Said}
use Rattle.xn_check.specs.Verdict.{check_rules}
use Rattle.xn_stream.specs.Pieces.{ComesOrFails, HasCome, HoldsFlaw, with_end}
use Rattle.xn_stream.specs.Stream.{LeadsOn}
use Rattle.xn_stream.proofs.Come.{flaw_stays}

-- a part of a line, and what is left
pub part_is : (left after : ℕ × List ℕ) (number : ℕ) (bytes : List ℕ) (ended : Bool) → TakesLine left after number bytes ended →
    Lacks 10 bytes × (left.1 ≡ with_end bytes ended ++ after.1) × (0 < length (with_end bytes ended))
part_is left after number bytes true t =
    let stands = ended_stands left after number bytes t in
    (stands.0, stands.1 ∙ sym (append_assoc bytes (10 ∷ []) after.1), (let long = length-append bytes (10 ∷ []) in omega (arith, long)))
part_is left after number bytes false t =
    let stands = last_stands left after number bytes t in
    let some : 0 < length bytes = subst (λ (l : List ℕ). 0 < length l) stands.1 t.some in
    (stands.0, stands.1 ∙ sym (append-nil bytes) ∙ ap (λ (r : List ℕ). bytes ++ r) (sym stands.2), some)

-- ---- rules of one task

pub same_rules : (new old : Kept) → HaveOneTask new old → rules_of new ≡ rules_of old
same_rules new old task = ap (λ (g : Graph). check_rules g new.loops) task.graph ∙ ap (λ (l : ℕ). check_rules (graph_kept old) l) task.loops

-- ---- the loop over the parts

-- what a text has come to is what it has come to with the parts so far
pub record IsTaken (old : Kept) (begun piece : List ℕ) (now : Kept) (part : List ℕ) (left : List ℕ) : Type 0 where
  pub ready : IsReady now
  pub task : HaveOneTask now old
  pub done : List ℕ
  pub cut : done ++ left ≡ piece
  pub comes : (text : List ℕ) → HasCome (rules_of old) text old.at (said_of old) begun → HasCome (rules_of old) (text ++ done) now.at (said_of now) part

abbrev pub FindsPart : Kept → List ℕ → List ℕ → Bool → Kept → List ℕ → Result (Unit {0}) AnswerErr → Type 0
FindsPart old begun bytes ended new after r = LeadsOn old begun (with_end bytes ended) new after r

module _ (old now new : Kept) (begun piece part after bytes : List ℕ) (ended : Bool) (left rest : List ℕ) (taken : IsTaken old begun piece now part left)
    (is : left ≡ with_end bytes ended ++ rest) where
  cut_on : (text : List ℕ) → (text ++ taken.done) ++ with_end bytes ended ≡ text ++ (taken.done ++ with_end bytes ended)
  cut_on text = append_assoc text taken.done (with_end bytes ended)

  all_on : (taken.done ++ with_end bytes ended) ++ rest ≡ piece
  all_on = append_assoc taken.done (with_end bytes ended) rest ∙ ap (λ (l : List ℕ). taken.done ++ l) (sym is) ∙ taken.cut

  found : (r : Result (Unit {0}) AnswerErr) → FindsPart now part bytes ended new after r → (text : List ℕ) → HasCome (rules_of old) text old.at (said_of old) begun →
      ComesOrFails (rules_of old) (text ++ (taken.done ++ with_end bytes ended)) new.at (said_of new) after r
  found r finds text come =
      let same = same_rules now old taken.task in
      let here = subst (λ (q : Rules Said (ℕ × ℕ)). HasCome q (text ++ taken.done) now.at (said_of now) part) (sym same) (taken.comes text come) in
      subst (λ (t : List ℕ). ComesOrFails (rules_of old) t new.at (said_of new) after r) (cut_on text)
      (subst (λ (q : Rules Said (ℕ × ℕ)). ComesOrFails q ((text ++ taken.done) ++ with_end bytes ended) new.at (said_of new) after r) same (finds (text ++ taken.done) here))

  pub part_on : FindsPart now part bytes ended new after (Ok tt) → HaveOneTask new now → IsReady new → IsTaken old begun piece new after rest
  part_on finds task ready = record {
    ready = ready;
    task = record { graph = task.graph ∙ taken.task.graph; loops = task.loops ∙ taken.task.loops };
    done = taken.done ++ with_end bytes ended;
    cut = all_on;
    comes = found (Ok tt) finds;
  }

  pub part_stops : (e : AnswerErr) → FindsPart now part bytes ended new after (Err e) → (text : List ℕ) → HasCome (rules_of old) text old.at (said_of old) begun →
      ComesOrFails (rules_of old) (text ++ piece) new.at (said_of new) after (Err e)
  part_stops errors.Memory finds text come = tt
  part_stops (errors.Refused flaw) finds text come =
      let whole : (text ++ (taken.done ++ with_end bytes ended)) ++ rest ≡ text ++ piece =
      append_assoc text (taken.done ++ with_end bytes ended) rest ∙ ap (λ (l : List ℕ). text ++ l) all_on in
      subst (λ (t : List ℕ). HoldsFlaw (rules_of old) t flaw) whole
      (flaw_stays (rules_of old) (text ++ (taken.done ++ with_end bytes ended)) rest flaw (found (Err (errors.Refused flaw)) finds text come))

-- before the first part
pub none_taken : (old : Kept) (begun piece : List ℕ) → IsReady old → IsTaken old begun piece old begun piece
none_taken old begun piece ready = record {
  ready = ready;
  task = record { graph = refl; loops = refl };
  done = [];
  cut = refl;
  comes = λ text come. subst (λ (t : List ℕ). HasCome (rules_of old) t old.at (said_of old) begun) (sym (append-nil text)) come;
}

-- behind the last
pub all_taken : (old now : Kept) (begun piece part left : List ℕ) → IsTaken old begun piece now part left → left ≡ [] → (text : List ℕ) →
    HasCome (rules_of old) text old.at (said_of old) begun → HasCome (rules_of old) (text ++ piece) now.at (said_of now) part
all_taken old now begun piece part left taken empty text come =
    let is : taken.done ≡ piece = sym (append-nil taken.done) ∙ ap (λ (l : List ℕ). taken.done ++ l) (sym empty) ∙ taken.cut in
    subst (λ (d : List ℕ). HasCome (rules_of old) (text ++ d) now.at (said_of now) part) is (taken.comes text come)

pub is_nil : (xs : List ℕ) → length xs ≡ 0 → xs ≡ []
is_nil [] none = refl
is_nil (x ∷ xs) none = absurd (omega (arith, none))
