-- One word after the other: what the parser's walk does, and what it has found so far.
use Rattle.std.proofs.Common.{◌≡◌, ◌∙◌, ℕ, Bool, cond, true, false, ◌&&◌, ◌||◌, ◌≤◌, ◌⊎◌, inl, inr, List, [], ◌∷◌, ◌++◌, length, Option, Some, None, is_some, find, fold, refl, sym, ap, subst, codes, arith}
use Rattle.clap.specs.Faults.{settle_fault, step_fault, turn_fault, walk_fault, word_fault}
use Rattle.clap.specs.Kinds.{Kinds, or_else}
use Rattle.clap.specs.Walk.{Held, Row, Step, Text, Walk, after_step, has_row, idle, settled, settled_rows, value, Waiting, is_pending, pushed, walked, word_met}
use Rattle.clap.specs.declared.error.kind.ErrorKind.TheVariants.{ArgumentConflict}
use Rattle.xn_command.proofs.App.{command_rule, first_rule, second_rule, rules, shape}
use Rattle.xn_command.proofs.Rows.{Holds, has_is, is_row, placed, with_command, with_first, with_second}
use Rattle.xn_command.proofs.Words.{held}

-- the kinds of error are some
abbrev pub Fails : Kinds → Type 0
Fails kinds = kinds ≡ [] → ⊥

pub fails_first : (a b : Kinds) → Fails a → Fails (or_else a b)
fails_first [] b h = λ e. h refl
fails_first (k ∷ ks) b h = λ e. absurd cc

pub fails_then : (a b : Kinds) → Fails b → Fails (or_else a b)
fails_then [] b h = h
fails_then (k ∷ ks) b h = λ e. absurd cc

pub or_else_assoc : (a b c : Kinds) → or_else (or_else a b) c ≡ or_else a (or_else b c)
or_else_assoc [] b c = refl
or_else_assoc (k ∷ ks) b c = refl

-- ---- the walk

-- between two words
abbrev pub state : Waiting → ℕ → List Row → Option (Text × List Text) → Bool → Walk
state waiting position rows pending trailing = record { held = held rows pending; waiting = waiting; position = position; is_trailing = trailing; stopped = None }

-- the place of the next operand
abbrev pub place : List Text → ℕ
place [] = 1
place (c ∷ []) = 2
place (c ∷ f ∷ []) = 3
place (c ∷ f ∷ s ∷ more) = 4

-- why the words fail from here on
abbrev pub run : Walk → List Text → Kinds
run w words = or_else (walk_fault shape [] w words) (settle_fault rules false (fold (walked rules []) w words).held)

-- the rows after the words
abbrev pub last : Walk → List Text → List Row
last w words = (settled rules (fold (walked rules []) w words).held).rows

abbrev pub turn : Walk → Text → Kinds
turn w word = turn_fault shape [] w word

abbrev pub after : Walk → Text → Walk
after w word = walked rules [] w word

pub run_step : (w : Walk) (word : Text) (words : List Text) → run w (word ∷ words) ≡ or_else (turn w word) (run (after w word) words)
unfolding walk_fault
run_step w word words =
    or_else_assoc (turn w word) (walk_fault shape [] (after w word) words) (settle_fault rules false (fold (walked rules []) (after w word) words).held)

-- ---- what was found so far

pub record Stands (operands budgets : List Text) (rows : List Row) (pending : Option (Text × List Text)) : Type 0 where
  pub sound : settle_fault rules false (held rows pending) ≡ []
  pub holds : Holds operands budgets (settled_rows rules pending rows)
  pub few : length operands ≤ 3
  pub once : length budgets ≤ 1

-- the word passes, and leads to what was found with it
pub record Went (operands budgets : List Text) (w : Walk) (word : Text) (position : ℕ) (trailing : Bool) : Type 0 where
  pub rows : List Row
  pub pending : Option (Text × List Text)
  pub passes : turn w word ≡ []
  pub is : after w word ≡ state idle position rows pending trailing
  pub stands : Stands operands budgets rows pending

-- an id that has no row may be used
pub unused : (id : Text) (rows : List Row) → find (is_row id) rows ≡ None → has_row id rows ≡ false
unused id rows none = has_is id rows ∙ ap (λ o. is_some o) none

pub fresh : (id : Text) (rows : List Row) → has_row id rows ≡ false → or_else (cond (has_row id rows && true) (ArgumentConflict ∷ []) []) [] ≡ []
fresh id rows none = rw none refl

pub and_false : {X : Type 0} (b : Bool) (x y : X) → cond (b && false) x y ≡ y
and_false true x y = refl
and_false false x y = refl

pub or_false : (b : Bool) → (b || false) ≡ b
or_false true = refl
or_false false = refl

-- ---- a word that goes to a positional

-- the walk takes the word as a value, and nothing is wrong with the word itself
pub record IsValue (waiting : Waiting) (position : ℕ) (rows : List Row) (pending : Option (Text × List Text)) (trailing : Bool) (word : Text) : Type 0 where
  pub met : word_met rules [] trailing waiting position word (held rows pending) ≡ (held rows pending, value)
  pub passes : word_fault shape [] trailing waiting word (held rows pending) ≡ []

module _ (waiting : Waiting) (position : ℕ) (rows : List Row) (pending : Option (Text × List Text)) (trailing : Bool) (word : Text) (is : IsValue waiting position rows pending trailing word) where
  pub value_turn : turn (state waiting position rows pending trailing) word ≡ step_fault shape position (held rows pending) value
  value_turn = λ i. or_else (is.passes i) (step_fault shape position (is.met i).0 (is.met i).1)

  pub value_after : after (state waiting position rows pending trailing) word ≡ after_step rules word (state waiting position rows pending trailing) (held rows pending) value
  unfolding walked
  value_after = ap (λ (q : Held × Step). after_step rules word (state waiting position rows pending trailing) q.0 q.1) is.met

module _ (budgets : List Text) (rows : List Row) (pending : Option (Text × List Text)) (trailing : Bool) (word : Text) where
  command_went : Stands [] budgets rows pending → IsValue idle 1 rows pending trailing word → Went (word ∷ []) budgets (state idle 1 rows pending trailing) word 2 trailing
  command_went s is =
      let now = settled_rows rules pending rows in
      let none = unused (codes "command") now s.holds.command in
      record {
        rows = now;
        pending = Some (codes "command", word ∷ []);
        passes = value_turn idle 1 rows pending trailing word is ∙ and_false (is_pending command_rule pending) [] (settle_fault rules false (held rows pending)) ∙ s.sound;
        is = value_after idle 1 rows pending trailing word is
            ∙ (λ i. record { held = pushed (codes "command") word (and_false (is_pending command_rule pending) (held rows pending) (settled rules (held rows pending)) i); waiting = idle; position = 2; is_trailing = or_false trailing i; stopped = None });
        stands = record {
          sound = fresh (codes "command") now none;
          holds = subst (Holds (word ∷ []) budgets) (sym (placed (codes "command") word now none)) (with_command word budgets now s.holds);
          few = omega arith;
          once = s.once;
        };
      }

  first_went : (c : Text) → Stands (c ∷ []) budgets rows pending → IsValue idle 2 rows pending trailing word → Went (c ∷ word ∷ []) budgets (state idle 2 rows pending trailing) word 3 trailing
  first_went c s is =
      let now = settled_rows rules pending rows in
      let none = unused (codes "first") now s.holds.first in
      record {
        rows = now;
        pending = Some (codes "first", word ∷ []);
        passes = value_turn idle 2 rows pending trailing word is ∙ and_false (is_pending first_rule pending) [] (settle_fault rules false (held rows pending)) ∙ s.sound;
        is = value_after idle 2 rows pending trailing word is
            ∙ (λ i. record { held = pushed (codes "first") word (and_false (is_pending first_rule pending) (held rows pending) (settled rules (held rows pending)) i); waiting = idle; position = 3; is_trailing = or_false trailing i; stopped = None });
        stands = record {
          sound = fresh (codes "first") now none;
          holds = subst (Holds (c ∷ word ∷ []) budgets) (sym (placed (codes "first") word now none)) (with_first c word budgets now s.holds);
          few = omega arith;
          once = s.once;
        };
      }

  second_went : (c f : Text) → Stands (c ∷ f ∷ []) budgets rows pending → IsValue idle 3 rows pending trailing word → Went (c ∷ f ∷ word ∷ []) budgets (state idle 3 rows pending trailing) word 4 trailing
  second_went c f s is =
      let now = settled_rows rules pending rows in
      let none = unused (codes "second") now s.holds.second in
      record {
        rows = now;
        pending = Some (codes "second", word ∷ []);
        passes = value_turn idle 3 rows pending trailing word is ∙ and_false (is_pending second_rule pending) [] (settle_fault rules false (held rows pending)) ∙ s.sound;
        is = value_after idle 3 rows pending trailing word is
            ∙ (λ i. record { held = pushed (codes "second") word (and_false (is_pending second_rule pending) (held rows pending) (settled rules (held rows pending)) i); waiting = idle; position = 4; is_trailing = or_false trailing i; stopped = None });
        stands = record {
          sound = fresh (codes "second") now none;
          holds = subst (Holds (c ∷ f ∷ word ∷ []) budgets) (sym (placed (codes "second") word now none)) (with_second c f word budgets now s.holds);
          few = omega arith;
          once = s.once;
        };
      }

-- an operand is the next positional, or one too many
pub operand_step : (operands budgets : List Text) (rows : List Row) (pending : Option (Text × List Text)) (trailing : Bool) (word : Text)
    → Stands operands budgets rows pending → IsValue idle (place operands) rows pending trailing word
    → Went (operands ++ word ∷ []) budgets (state idle (place operands) rows pending trailing) word (place (operands ++ word ∷ [])) trailing
    ⊎ (Fails (turn (state idle (place operands) rows pending trailing) word) × (length operands ≡ 3))
operand_step [] budgets rows pending trailing word s is = inl (command_went budgets rows pending trailing word s is)
operand_step (c ∷ []) budgets rows pending trailing word s is = inl (first_went budgets rows pending trailing word c s is)
operand_step (c ∷ f ∷ []) budgets rows pending trailing word s is = inl (second_went budgets rows pending trailing word c f s is)
operand_step (c ∷ f ∷ d ∷ []) budgets rows pending trailing word s is = inr (subst Fails (sym (value_turn idle 4 rows pending trailing word is)) (λ e. absurd cc), refl)
operand_step (c ∷ f ∷ d ∷ x ∷ more) budgets rows pending trailing word s is = absurd (omega (arith, s.few))
