-- What the parser's walk makes of a budget, and that nothing mends a second one or one without a value.
use Rattle.std.proofs.Common.{◌≡◌, ◌∙◌, ℕ, Bool, cond, true, false, List, [], ◌∷◌, Option, Some, refl, sym, ap, subst, bytes_eq, codes, IsUtf8}
use Rattle.clap.specs.Faults.{flag_word_fault, settle_fault, step_fault, use_fault, walk_fault, word_fault}
use Rattle.clap.specs.Lexer.{long_of}
use Rattle.clap.specs.Kinds.{Kinds, or_else}
use Rattle.clap.specs.Walk.{Row, Text, Waiting, Walk, idle, option, positional, settled_rows, walked, word_met}
use Rattle.clap.specs.declared.error.kind.ErrorKind.TheVariants.{UnknownArgument}
use Rattle.xn_command.proofs.App.{budget_rule, rules, shape}
use Rattle.xn_command.proofs.Steps.{Fails, IsValue, after, fails_first, place, run, run_step, state, turn, value_turn}
use Rattle.xn_command.proofs.Words.{HasBudget, IsPlain, IsStray, Kind, dashes, has, held, kind, plain, strays, wants}

-- every word is text
abbrev pub AreTexts : List Text → Type 0
AreTexts [] = Unit {0}
AreTexts (word ∷ words) = IsUtf8 word × AreTexts words

pub turn_fails : (w : Walk) (word : Text) (words : List Text) → Fails (turn w word) → Fails (run w (word ∷ words))
turn_fails w word words h = subst Fails (sym (run_step w word words)) (fails_first (turn w word) (run (after w word) words) h)

-- a word that passes leads on
pub turn_leads : (w to : Walk) (word : Text) (words : List Text) → turn w word ≡ [] → after w word ≡ to → run w (word ∷ words) ≡ run to words
turn_leads w to word words passes leads =
    run_step w word words ∙ ap (λ k. or_else k (run (after w word) words)) passes ∙ ap (λ v. run v words) leads

pub run_fails : (w to : Walk) (word : Text) (words : List Text) → turn w word ≡ [] → after w word ≡ to → Fails (run to words) → Fails (run w (word ∷ words))
run_fails w to word words passes leads h = subst Fails (sym (turn_leads w to word words passes leads)) h

pub run_ends : (w : Walk) → run w [] ≡ settle_fault rules false w.held
unfolding walk_fault
run_ends w = refl

-- ---- words of each kind, where an option's values are awaited or not

pub plain_value : (position : ℕ) (rows : List Row) (pending : Option (Text × List Text)) (word : Text) → IsPlain word → IsValue idle position rows pending false word
plain_value position rows pending word k = record {
  met = rw (k.other.dashes, k.long, k.short) refl;
  passes = rw (k.other.dashes, k.long, k.short) refl;
}

pub trailing_value : (waiting : Waiting) (position : ℕ) (rows : List Row) (pending : Option (Text × List Text)) (word : Text) → IsValue waiting position rows pending true word
trailing_value waiting position rows pending word = record { met = refl; passes = refl }

module _ (position : ℕ) (rows : List Row) (pending : Option (Text × List Text)) where
  -- a word that is wrong by itself
  word_fails : (waiting : Waiting) (word : Text) → Fails (word_fault shape [] false waiting word (held rows pending)) → Fails (turn (state waiting position rows pending false) word)
  word_fails waiting word h =
      let met = word_met rules [] false waiting position word (held rows pending) in
      fails_first (word_fault shape [] false waiting word (held rows pending)) (step_fault shape position met.0 met.1) h

  unknown : (word : Text) → IsStray word → Fails (cond (bytes_eq word (codes "--")) [] (flag_word_fault rules false (long_of word) word (held rows pending)))
  unknown word k =
      let is : cond (bytes_eq word (codes "--")) [] (flag_word_fault rules false (long_of word) word (held rows pending)) ≡ UnknownArgument ∷ [] = rw k.other.dashes (k.fails rows pending) in
      λ e. some_kind (sym is ∙ e)
    where
      some_kind : Path Kinds (UnknownArgument ∷ []) [] → ⊥
      some_kind e = absurd cc

  pub stray_turn : (word : Text) → IsStray word → Fails (turn (state idle position rows pending false) word)
  stray_turn word k = word_fails idle word (unknown word k)

  pub stray_value : (id word : Text) → IsStray word → Fails (turn (state (option id) position rows pending false) word)
  stray_value id word k = word_fails (option id) word (unknown word k)

  -- what was pending goes first
  with_value : (word value : Text) → HasBudget word value → Fails (settle_fault rules false (held rows pending))
      → Fails (cond (bytes_eq word (codes "--")) [] (flag_word_fault rules false (long_of word) word (held rows pending)))
  with_value word value k h =
      let is : cond (bytes_eq word (codes "--")) [] (flag_word_fault rules false (long_of word) word (held rows pending))
      ≡ or_else (settle_fault rules false (held rows pending)) (use_fault false budget_rule (value ∷ []) (settled_rows rules pending rows)) = rw (k.other.dashes, k.long) refl in
      subst Fails (sym is) (fails_first (settle_fault rules false (held rows pending)) (use_fault false budget_rule (value ∷ []) (settled_rows rules pending rows)) h)

  pub value_turn_fails : (word value : Text) → HasBudget word value → Fails (settle_fault rules false (held rows pending)) → Fails (turn (state idle position rows pending false) word)
  value_turn_fails word value k h = word_fails idle word (with_value word value k h)

  pub value_value_fails : (id word value : Text) → HasBudget word value → Fails (settle_fault rules false (held rows pending)) → Fails (turn (state (option id) position rows pending false) word)
  value_value_fails id word value k h = word_fails (option id) word (with_value word value k h)

  pub wants_turn_fails : Fails (settle_fault rules false (held rows pending)) → Fails (turn (state idle position rows pending false) (codes "--budget"))
  wants_turn_fails h = word_fails idle (codes "--budget") h

  pub wants_value_fails : (id : Text) → Fails (settle_fault rules false (held rows pending)) → Fails (turn (state (option id) position rows pending false) (codes "--budget"))
  wants_value_fails id h = word_fails (option id) (codes "--budget") h

  -- `--` changes nothing but that operands follow
  pub dashes_turn : (waiting : Waiting) → turn (state waiting position rows pending false) (codes "--") ≡ []
  dashes_turn idle = refl
  dashes_turn (option id) = refl
  dashes_turn positional = refl

  pub dashes_after : (waiting : Waiting) → after (state waiting position rows pending false) (codes "--") ≡ state waiting position rows pending true
  unfolding walked
  dashes_after idle = refl
  dashes_after (option id) = refl
  dashes_after positional = refl

-- ---- a budget that stands wrong

module _ (rows : List Row) (values : List Text) (wrong : Fails (settle_fault rules false (held rows (Some (codes "budget", values))))) where
  -- a positional settles it first
  pub operand_fails : (operands : List Text) (waiting : Waiting) (trailing : Bool) (word : Text)
      → IsValue waiting (place operands) rows (Some (codes "budget", values)) trailing word → Fails (turn (state waiting (place operands) rows (Some (codes "budget", values)) trailing) word)
  operand_fails [] waiting trailing word is = subst Fails (sym (value_turn waiting 1 rows (Some (codes "budget", values)) trailing word is)) wrong
  operand_fails (c ∷ []) waiting trailing word is = subst Fails (sym (value_turn waiting 2 rows (Some (codes "budget", values)) trailing word is)) wrong
  operand_fails (c ∷ f ∷ []) waiting trailing word is = subst Fails (sym (value_turn waiting 3 rows (Some (codes "budget", values)) trailing word is)) wrong
  operand_fails (c ∷ f ∷ s ∷ more) waiting trailing word is =
      subst Fails (sym (value_turn waiting 4 rows (Some (codes "budget", values)) trailing word is)) (λ e. absurd cc)

  -- no words behind `--` mend it
  pub trailing_fails : (operands words : List Text) (waiting : Waiting) → Fails (run (state waiting (place operands) rows (Some (codes "budget", values)) true) words)
  trailing_fails operands [] waiting = subst Fails (sym (run_ends (state waiting (place operands) rows (Some (codes "budget", values)) true))) wrong
  trailing_fails operands (word ∷ words) waiting =
      turn_fails (state waiting (place operands) rows (Some (codes "budget", values)) true) word words
      (operand_fails operands waiting true word (trailing_value waiting (place operands) rows (Some (codes "budget", values)) word))

  -- `--` doesn't either
  pub dashes_fail : (operands words : List Text) (waiting : Waiting) → Fails (run (state waiting (place operands) rows (Some (codes "budget", values)) false) (codes "--" ∷ words))
  dashes_fail operands words waiting =
      run_fails (state waiting (place operands) rows (Some (codes "budget", values)) false) (state waiting (place operands) rows (Some (codes "budget", values)) true) (codes "--") words
      (dashes_turn (place operands) rows (Some (codes "budget", values)) waiting) (dashes_after (place operands) rows (Some (codes "budget", values)) waiting)
      (trailing_fails operands words waiting)

  by_kind : (operands words : List Text) (word : Text) → Kind word → Fails (run (state idle (place operands) rows (Some (codes "budget", values)) false) (word ∷ words))
  by_kind operands words word (plain k) =
      turn_fails (state idle (place operands) rows (Some (codes "budget", values)) false) word words
      (operand_fails operands idle false word (plain_value (place operands) rows (Some (codes "budget", values)) word k))
  by_kind operands words word (dashes e) =
      subst (λ (w : Text). Fails (run (state idle (place operands) rows (Some (codes "budget", values)) false) (w ∷ words))) (sym e) (dashes_fail operands words idle)
  by_kind operands words word (wants e) =
      subst (λ (w : Text). Fails (run (state idle (place operands) rows (Some (codes "budget", values)) false) (w ∷ words))) (sym e)
      (turn_fails (state idle (place operands) rows (Some (codes "budget", values)) false) (codes "--budget") words (wants_turn_fails (place operands) rows (Some (codes "budget", values)) wrong))
  by_kind operands words word (has value k) =
      turn_fails (state idle (place operands) rows (Some (codes "budget", values)) false) word words (value_turn_fails (place operands) rows (Some (codes "budget", values)) word value k wrong)
  by_kind operands words word (strays k) =
      turn_fails (state idle (place operands) rows (Some (codes "budget", values)) false) word words (stray_turn (place operands) rows (Some (codes "budget", values)) word k)

  -- no words mend it
  pub stays_wrong : (operands words : List Text) → AreTexts words → Fails (run (state idle (place operands) rows (Some (codes "budget", values)) false) words)
  stays_wrong operands [] texts = subst Fails (sym (run_ends (state idle (place operands) rows (Some (codes "budget", values)) false))) wrong
  stays_wrong operands (word ∷ words) texts = by_kind operands words word (kind word texts.0)
