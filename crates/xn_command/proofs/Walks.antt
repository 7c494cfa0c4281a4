-- What the parser's walk over all the words finds.
use Rattle.std.proofs.Common.{◌≡◌, ◌∙◌, ℕ, Bool, cond, true, false, ◌&&◌, ◌<◌, ◌≤◌, ◌⊎◌, inl, inr, List, [], ◌∷◌, ◌++◌, length, map, Option, Some, None, is_some, refl, sym, ap, subst, codes, arith, append_assoc, append-nil}
use Rattle.std.specs.List.{list_all, list_any}
use Rattle.std.proofs.lemmas.Bool.{or_left, or_right}
use Rattle.std.proofs.lemmas.List.{length-append}
use Rattle.clap.specs.Faults.{settle_fault}
use Rattle.clap.specs.Kinds.{Kinds, or_else}
use Rattle.clap.specs.Walk.{Row, Text, Walk, has_row, idle, option, settled_rows, used, walked}
use Rattle.clap.specs.declared.error.kind.ErrorKind.TheVariants.{ArgumentConflict}
use Rattle.xn_command.specs.Items.{Item, budget, budgets_of, is_dashed, is_useful, item_of, items_of, operand, operands_of, stray, unvalued}
use Rattle.xn_command.proofs.App.{budget_rule, rules}
use Rattle.xn_command.proofs.Budgets.{AreTexts, dashes_after, dashes_fail, dashes_turn, plain_value, run_ends, run_fails, stays_wrong, stray_turn, stray_value, trailing_value, turn_fails, turn_leads, value_value_fails, wants_value_fails}
use Rattle.xn_command.proofs.Rows.{Holds, has_is, placed, with_budget}
use Rattle.xn_command.proofs.Steps.{Fails, fails_first, fails_then, Stands, after, fresh, last, operand_step, place, run, state, turn, unused}
use Rattle.xn_command.proofs.Words.{HasBudget, IsOther, IsPlain, IsStray, Kind, dashes, has, held, kind, plain, strays, wants}

-- ---- what comes out

-- some rule for words that the parser keeps is broken
abbrev pub Bad : List Text → List Text → Bool → Type 0
Bad operands budgets useful = (useful ≡ false) ⊎ ((3 < length operands) ⊎ ((1 < length budgets) ⊎ (list_any is_dashed budgets ≡ true)))

pub record Good (fault : Kinds) (rows : List Row) (operands budgets : List Text) (useful : Bool) : Type 0 where
  pub none : fault ≡ []
  pub useful_is : useful ≡ true
  pub few : length operands ≤ 3
  pub once : length budgets ≤ 1
  pub holds : Holds operands budgets rows

abbrev pub Outcome : Kinds → List Row → List Text → List Text → Bool → Type 0
Outcome fault rows operands budgets useful = Good fault rows operands budgets useful ⊎ (Fails fault × Bad operands budgets useful)

-- the outcome of a walk over these words
abbrev pub Comes : Walk → List Text → List Text → List Text → Bool → Type 0
Comes w words operands budgets useful = Outcome (run w words) (last w words) operands budgets useful

onward : (w to : Walk) (word : Text) (words operands budgets : List Text) (useful : Bool) → turn w word ≡ [] → after w word ≡ to → Comes to words operands budgets useful
    → Comes w (word ∷ words) operands budgets useful
onward w to word words operands budgets useful passes leads comes =
    let fault : run to words ≡ run w (word ∷ words) = sym (turn_leads w to word words passes leads) in
    let rows : last to words ≡ last w (word ∷ words) = ap (λ v. last v words) (sym leads) in
    subst (λ k. Outcome k (last w (word ∷ words)) operands budgets useful) fault (subst (λ r. Outcome (run to words) r operands budgets useful) rows comes)

-- the outcome with the same operands and budgets, told in another way
retold : (w : Walk) (words a b c d : List Text) (useful said : Bool) → a ≡ b → c ≡ d → useful ≡ said → Comes w words a c useful → Comes w words b d said
retold w words a b c d useful said same_operands same_budgets same_useful comes =
    subst (λ (o : List Text). Comes w words o d said) same_operands (subst (λ (x : List Text). Comes w words a x said) same_budgets (subst (λ (u : Bool). Comes w words a c u) same_useful comes))

ended : (operands budgets : List Text) (rows : List Row) (pending : Option (Text × List Text)) (trailing : Bool) → Stands operands budgets rows pending
    → Comes (state idle (place operands) rows pending trailing) [] operands budgets true
ended operands budgets rows pending trailing s = inl (record {
  none = run_ends (state idle (place operands) rows pending trailing) ∙ s.sound;
  useful_is = refl;
  few = s.few;
  once = s.once;
  holds = s.holds;
})

-- ---- behind `--`

too_many : (operands more : List Text) (word : Text) → length operands ≡ 3 → 3 < length (operands ++ word ∷ more)
too_many operands more word three = omega (arith, length-append operands (word ∷ more))

pub behind : (words operands budgets : List Text) (rows : List Row) (pending : Option (Text × List Text)) → Stands operands budgets rows pending
    → Comes (state idle (place operands) rows pending true) words (operands ++ words) budgets true
behind [] operands budgets rows pending s =
    retold (state idle (place operands) rows pending true) [] operands (operands ++ []) budgets budgets true true (sym (append-nil operands)) refl refl (ended operands budgets rows pending true s)
behind (word ∷ words) operands budgets rows pending s =
    elim (operand_step operands budgets rows pending true word s (trailing_value idle (place operands) rows pending word)) [
      | inl w ↦
          retold (state idle (place operands) rows pending true) (word ∷ words) (operands ++ word ∷ [] ++ words) (operands ++ word ∷ words) budgets budgets true true (append_assoc operands (word ∷ []) words) refl refl
          (onward (state idle (place operands) rows pending true) (state idle (place (operands ++ word ∷ [])) w.rows w.pending true) word words (operands ++ word ∷ [] ++ words) budgets true w.passes w.is
          (behind words (operands ++ word ∷ []) budgets w.rows w.pending w.stands))
      | inr fails ↦ inr (turn_fails (state idle (place operands) rows pending true) word words fails.0, inr (inl (too_many operands words word fails.1)))
    ]

-- ---- what the items of words are

items_other : (word : Text) (words : List Text) → IsOther word → items_of (word ∷ words) ≡ item_of word ∷ items_of words
unfolding items_of
items_other word [] k = rw (k.dashes, k.wants) refl
items_other word (next ∷ words) k = rw (k.dashes, k.wants) refl

items_behind : (words : List Text) → items_of (codes "--" ∷ words) ≡ map operand words
unfolding items_of
items_behind [] = refl
items_behind (word ∷ words) = refl

items_unvalued : items_of (codes "--budget" ∷ []) ≡ unvalued ∷ []
unfolding items_of
items_unvalued = refl

items_budget : (value : Text) (words : List Text) → items_of (codes "--budget" ∷ value ∷ words) ≡ budget value ∷ items_of words
unfolding items_of
items_budget value words = refl

operands_behind : (words : List Text) → operands_of (map operand words) ≡ words
unfolding operands_of
operands_behind [] = refl
operands_behind (word ∷ words) = ap (λ ws. word ∷ ws) (operands_behind words)

budgets_behind : (words : List Text) → budgets_of (map operand words) ≡ []
unfolding budgets_of
budgets_behind [] = refl
budgets_behind (word ∷ words) = budgets_behind words

useful_behind : (words : List Text) → list_all is_useful (map operand words) ≡ true
useful_behind [] = refl
useful_behind (word ∷ words) = useful_behind words

-- ---- one word before the others

-- the outcome that these items lead to
abbrev pub ComesBy : Walk → List Text → List Text → List Text → List Item → Type 0
ComesBy w words operands budgets items = Comes w words (operands ++ operands_of items) (budgets ++ budgets_of items) (list_all is_useful items)

-- from wherever the walk stands, the words lead to what their items are
abbrev pub Reads : List Text → Type 0
Reads words =
    (operands budgets : List Text) (rows : List Row) (pending : Option (Text × List Text)) → Stands operands budgets rows pending
    → ComesBy (state idle (place operands) rows pending false) words operands budgets (items_of words)

by_items : (w : Walk) (words operands budgets : List Text) (items : List Item) → items_of words ≡ items → ComesBy w words operands budgets items → ComesBy w words operands budgets (items_of words)
by_items w words operands budgets items e comes = subst (λ (is : List Item). ComesBy w words operands budgets is) (sym e) comes

plain_reads : (word : Text) (words : List Text) → IsPlain word → Reads words → Reads (word ∷ words)
unfolding operands_of budgets_of
plain_reads word words k rest operands budgets rows pending s =
    let from = state idle (place operands) rows pending false in
    let more = operands_of (items_of words) in
    by_items from (word ∷ words) operands budgets (operand word ∷ items_of words) (items_other word words k.other ∙ ap (λ (i : Item). i ∷ items_of words) k.item)
    (elim (operand_step operands budgets rows pending false word s (plain_value (place operands) rows pending word k)) [
      | inl w ↦
          retold from (word ∷ words) (operands ++ word ∷ [] ++ more) (operands ++ word ∷ more) (budgets ++ budgets_of (items_of words)) (budgets ++ budgets_of (items_of words)) (list_all is_useful (items_of words)) (list_all is_useful (items_of words))
          (append_assoc operands (word ∷ []) more) refl refl
          (onward from (state idle (place (operands ++ word ∷ [])) w.rows w.pending false) word words (operands ++ word ∷ [] ++ more) (budgets ++ budgets_of (items_of words)) (list_all is_useful (items_of words)) w.passes w.is
          (rest (operands ++ word ∷ []) budgets w.rows w.pending w.stands))
      | inr fails ↦ inr (turn_fails from word words fails.0, inr (inl (too_many operands more word fails.1)))
    ])

stray_reads : (word : Text) (words : List Text) → IsStray word → Reads (word ∷ words)
stray_reads word words k operands budgets rows pending s =
    let from = state idle (place operands) rows pending false in
    by_items from (word ∷ words) operands budgets (stray ∷ items_of words) (items_other word words k.other ∙ ap (λ (i : Item). i ∷ items_of words) k.item)
    (inr (turn_fails from word words (stray_turn (place operands) rows pending word k), inl refl))

dashes_reads : (words : List Text) → Reads (codes "--" ∷ words)
dashes_reads words operands budgets rows pending s =
    let from = state idle (place operands) rows pending false in
    let to = state idle (place operands) rows pending true in
    by_items from (codes "--" ∷ words) operands budgets (map operand words) (items_behind words)
    (retold from (codes "--" ∷ words) (operands ++ words) (operands ++ operands_of (map operand words)) budgets (budgets ++ budgets_of (map operand words)) true (list_all is_useful (map operand words))
    (ap (λ (ws : List Text). operands ++ ws) (sym (operands_behind words))) (sym (append-nil budgets) ∙ ap (λ (bs : List Text). budgets ++ bs) (sym (budgets_behind words))) (sym (useful_behind words))
    (onward from to (codes "--") words (operands ++ words) budgets true (dashes_turn (place operands) rows pending idle) (dashes_after (place operands) rows pending idle) (behind words operands budgets rows pending s)))

-- ---- budgets

-- how a budget fails that has a row
abbrev pub again : List Row → Kinds
again rows = or_else (cond (has_row (codes "budget") rows && true) (ArgumentConflict ∷ []) []) []

no_kind : {k : Kinds} → k ≡ ArgumentConflict ∷ [] → Fails k
no_kind is = λ e. some_kind (sym is ∙ e)
  where
    some_kind : Path Kinds (ArgumentConflict ∷ []) [] → ⊥
    some_kind e = absurd cc

second_fails : (operands : List Text) (b : Text) (more : List Text) (rows : List Row) → Holds operands (b ∷ more) rows → Fails (again rows)
second_fails operands b more rows h =
    let there : has_row (codes "budget") rows ≡ true = has_is (codes "budget") rows ∙ ap (λ o. is_some o) h.budget in
    let is : again rows ≡ ArgumentConflict ∷ [] = rw there refl in
    no_kind is

twice : (b value : Text) (more others : List Text) → 1 < length (b ∷ more ++ value ∷ others)
twice b value more others = omega (arith, length-append more (value ∷ others))

module _ (word value : Text) (k : HasBudget word value) (position : ℕ) (rows : List Row) (pending : Option (Text × List Text)) where
  has_turn : turn (state idle position rows pending false) word ≡ or_else (or_else (settle_fault rules false (held rows pending)) (again (settled_rows rules pending rows))) []
  has_turn = rw (k.other.dashes, k.long) refl

  has_after : after (state idle position rows pending false) word ≡ state idle position (used budget_rule (value ∷ []) (settled_rows rules pending rows)) None false
  unfolding walked
  has_after = rw (k.other.dashes, k.long) refl

with_first_budget : (operands : List Text) (rows : List Row) (value : Text) → Holds operands [] rows → Holds operands (value ∷ []) (used budget_rule (value ∷ []) rows)
with_first_budget operands rows value h =
    subst (Holds operands (value ∷ [])) (sym (placed (codes "budget") value rows (unused (codes "budget") rows h.budget))) (with_budget value operands rows h)

has_reads : (word value : Text) (words : List Text) → HasBudget word value → Reads words → Reads (word ∷ words)
unfolding operands_of budgets_of
has_reads word value words k rest operands [] rows pending s =
    let from = state idle (place operands) rows pending false in
    let now = settled_rows rules pending rows in
    let to = state idle (place operands) (used budget_rule (value ∷ []) now) None false in
    let none = fresh (codes "budget") now (unused (codes "budget") now s.holds.budget) in
    by_items from (word ∷ words) operands [] (budget value ∷ items_of words) (items_other word words k.other ∙ ap (λ (i : Item). i ∷ items_of words) k.item)
    (onward from to word words (operands ++ operands_of (items_of words)) (value ∷ budgets_of (items_of words)) (list_all is_useful (items_of words))
    (has_turn word value k (place operands) rows pending ∙ (λ i. or_else (or_else (s.sound i) (none i)) [])) (has_after word value k (place operands) rows pending)
    (rest operands (value ∷ []) (used budget_rule (value ∷ []) now) None (record {
      sound = refl;
      holds = with_first_budget operands now value s.holds;
      few = s.few;
      once = omega arith;
    })))
has_reads word value words k rest operands (b ∷ more) rows pending s =
    let from = state idle (place operands) rows pending false in
    let now = settled_rows rules pending rows in
    let settle = settle_fault rules false (held rows pending) in
    by_items from (word ∷ words) operands (b ∷ more) (budget value ∷ items_of words) (items_other word words k.other ∙ ap (λ (i : Item). i ∷ items_of words) k.item)
    (inr (
      turn_fails from word words (subst Fails (sym (has_turn word value k (place operands) rows pending)) (fails_first (or_else settle (again now)) [] (fails_then settle (again now) (second_fails operands b more now s.holds)))),
      inr (inr (inl (twice b value more (budgets_of (items_of words))))),
    ))

-- `--budget` waits for its value
abbrev pub waiting_for : ℕ → List Row → Walk
waiting_for position rows = state (option (codes "budget")) position rows (Some (codes "budget", [])) false

no_value : (rows : List Row) → Fails (settle_fault rules false (held rows (Some (codes "budget", []))))
no_value rows = λ e. absurd cc

module _ (position : ℕ) (rows : List Row) where
  wants_turn : (pending : Option (Text × List Text)) → settle_fault rules false (held rows pending) ≡ [] → turn (state idle position rows pending false) (codes "--budget") ≡ []
  wants_turn pending sound = ap (λ k. or_else k []) sound

  wants_after : (pending : Option (Text × List Text)) → after (state idle position rows pending false) (codes "--budget") ≡ waiting_for position (settled_rows rules pending rows)
  unfolding walked
  wants_after pending = refl

  value_turn : (word : Text) → IsPlain word → turn (waiting_for position rows) word ≡ []
  value_turn word k = rw (k.other.dashes, k.long, k.short) refl

  value_after : (word : Text) → IsPlain word → after (waiting_for position rows) word ≡ state idle position rows (Some (codes "budget", word ∷ [])) false
  unfolding walked
  value_after word k = rw (k.other.dashes, k.long, k.short) refl

unvalued_reads : Reads (codes "--budget" ∷ [])
unvalued_reads operands budgets rows pending s =
    let from = state idle (place operands) rows pending false in
    let now = settled_rows rules pending rows in
    let to = waiting_for (place operands) now in
    by_items from (codes "--budget" ∷ []) operands budgets (unvalued ∷ []) items_unvalued
    (inr (
      run_fails from to (codes "--budget") [] (wants_turn (place operands) rows pending s.sound) (wants_after (place operands) rows pending) (subst Fails (sym (run_ends to)) (no_value now)),
      inl refl,
    ))

is_among : (word : Text) (budgets more : List Text) → is_dashed word ≡ true → list_any is_dashed (budgets ++ word ∷ more) ≡ true
is_among word [] more e = or_left (is_dashed word) (list_any is_dashed more) e
is_among word (b ∷ budgets) more e = or_right (is_dashed b) (list_any is_dashed (budgets ++ word ∷ more)) (is_among word budgets more e)

-- a value that begins with `-` isn't taken
dashed_reads : (word : Text) (words : List Text) → is_dashed word ≡ true → ((position : ℕ) (rows : List Row) → Fails (run (waiting_for position rows) (word ∷ words)))
    → (operands budgets : List Text) (rows : List Row) (pending : Option (Text × List Text)) → Stands operands budgets rows pending
    → ComesBy (state idle (place operands) rows pending false) (codes "--budget" ∷ word ∷ words) operands budgets (budget word ∷ items_of words)
unfolding operands_of budgets_of
dashed_reads word words dashed fails operands budgets rows pending s =
    inr (
      run_fails (state idle (place operands) rows pending false) (waiting_for (place operands) (settled_rows rules pending rows)) (codes "--budget") (word ∷ words)
          (wants_turn (place operands) rows pending s.sound) (wants_after (place operands) rows pending) (fails (place operands) (settled_rows rules pending rows)),
      inr (inr (inr (is_among word budgets (budgets_of (items_of words)) dashed))),
    )

-- a value that doesn't is, where it is the first
plain_budget_reads : (word : Text) (words : List Text) → AreTexts words → IsPlain word → Reads words
    → (operands budgets : List Text) (rows : List Row) (pending : Option (Text × List Text)) → Stands operands budgets rows pending
    → ComesBy (state idle (place operands) rows pending false) (codes "--budget" ∷ word ∷ words) operands budgets (budget word ∷ items_of words)
unfolding operands_of budgets_of
plain_budget_reads word words texts k rest operands [] rows pending s =
    let from = state idle (place operands) rows pending false in
    let now = settled_rows rules pending rows in
    let to = state idle (place operands) now (Some (codes "budget", word ∷ [])) false in
    let more = operands ++ operands_of (items_of words) in
    let values = word ∷ budgets_of (items_of words) in
    let useful = list_all is_useful (items_of words) in
    onward from (waiting_for (place operands) now) (codes "--budget") (word ∷ words) more values useful (wants_turn (place operands) rows pending s.sound) (wants_after (place operands) rows pending)
    (onward (waiting_for (place operands) now) to word words more values useful (value_turn (place operands) now word k) (value_after (place operands) now word k)
    (rest operands (word ∷ []) now (Some (codes "budget", word ∷ [])) (record {
      sound = fresh (codes "budget") now (unused (codes "budget") now s.holds.budget);
      holds = with_first_budget operands now word s.holds;
      few = s.few;
      once = omega arith;
    })))
plain_budget_reads word words texts k rest operands (b ∷ more) rows pending s =
    let from = state idle (place operands) rows pending false in
    let now = settled_rows rules pending rows in
    let to = state idle (place operands) now (Some (codes "budget", word ∷ [])) false in
    let wrong : Fails (settle_fault rules false (held now (Some (codes "budget", word ∷ [])))) = second_fails operands b more now s.holds in
    inr (
      run_fails from (waiting_for (place operands) now) (codes "--budget") (word ∷ words) (wants_turn (place operands) rows pending s.sound) (wants_after (place operands) rows pending)
          (run_fails (waiting_for (place operands) now) to word words (value_turn (place operands) now word k) (value_after (place operands) now word k) (stays_wrong now (word ∷ []) wrong operands words texts)),
      inr (inr (inl (twice b word more (budgets_of (items_of words))))),
    )

-- `--` isn't taken as one either
dashes_value_reads : (words operands budgets : List Text) (rows : List Row) (pending : Option (Text × List Text)) → Stands operands budgets rows pending
    → ComesBy (state idle (place operands) rows pending false) (codes "--budget" ∷ codes "--" ∷ words) operands budgets (budget (codes "--") ∷ items_of words)
unfolding operands_of budgets_of
dashes_value_reads words operands budgets rows pending s =
    let now = settled_rows rules pending rows in
    inr (
      run_fails (state idle (place operands) rows pending false) (waiting_for (place operands) now) (codes "--budget") (codes "--" ∷ words) (wants_turn (place operands) rows pending s.sound) (wants_after (place operands) rows pending)
          (dashes_fail now [] (no_value now) operands words (option (codes "budget"))),
      inr (inr (inr (is_among (codes "--") budgets (budgets_of (items_of words)) refl))),
    )

module _ (words : List Text) (texts : AreTexts words) (rest : Reads words) where
  valued_by : (word : Text) → Kind word → (operands budgets : List Text) (rows : List Row) (pending : Option (Text × List Text)) → Stands operands budgets rows pending
      → ComesBy (state idle (place operands) rows pending false) (codes "--budget" ∷ word ∷ words) operands budgets (budget word ∷ items_of words)
  valued_by word (plain k) operands budgets rows pending s = plain_budget_reads word words texts k rest operands budgets rows pending s
  valued_by word (dashes e) operands budgets rows pending s =
      subst (λ (w : Text). ComesBy (state idle (place operands) rows pending false) (codes "--budget" ∷ w ∷ words) operands budgets (budget w ∷ items_of words)) (sym e)
      (dashes_value_reads words operands budgets rows pending s)
  valued_by word (wants e) operands budgets rows pending s =
      subst (λ (w : Text). ComesBy (state idle (place operands) rows pending false) (codes "--budget" ∷ w ∷ words) operands budgets (budget w ∷ items_of words)) (sym e)
      (dashed_reads (codes "--budget") words refl (λ position rows. turn_fails (waiting_for position rows) (codes "--budget") words (wants_value_fails position rows (Some (codes "budget", [])) (codes "budget") (no_value rows))) operands budgets rows pending s)
  valued_by word (has value k) operands budgets rows pending s =
      dashed_reads word words k.dashed (λ position rows. turn_fails (waiting_for position rows) word words (value_value_fails position rows (Some (codes "budget", [])) (codes "budget") word value k (no_value rows))) operands budgets rows pending s
  valued_by word (strays k) operands budgets rows pending s =
      dashed_reads word words k.dashed (λ position rows. turn_fails (waiting_for position rows) word words (stray_value position rows (Some (codes "budget", [])) (codes "budget") word k)) operands budgets rows pending s

  wants_reads : (word : Text) → Kind word → Reads (codes "--budget" ∷ word ∷ words)
  wants_reads word k operands budgets rows pending s =
      by_items (state idle (place operands) rows pending false) (codes "--budget" ∷ word ∷ words) operands budgets (budget word ∷ items_of words) (items_budget word words) (valued_by word k operands budgets rows pending s)

-- ---- all words

-- what comes of the words after the first two
abbrev pub ReadsAfter : List Text → Type 0
ReadsAfter [] = Unit {0}
ReadsAfter (next ∷ words) = Reads words

wants_first : (words : List Text) → AreTexts words → ReadsAfter words → Reads (codes "--budget" ∷ words)
wants_first [] texts after_next = unvalued_reads
wants_first (next ∷ words) texts after_next = wants_reads words texts.1 after_next next (kind next texts.0)

first_reads : (word : Text) (words : List Text) → Kind word → AreTexts words → Reads words → ReadsAfter words → Reads (word ∷ words)
first_reads word words (plain k) texts rest after_next = plain_reads word words k rest
first_reads word words (dashes e) texts rest after_next = subst (λ (w : Text). Reads (w ∷ words)) (sym e) (dashes_reads words)
first_reads word words (wants e) texts rest after_next = subst (λ (w : Text). Reads (w ∷ words)) (sym e) (wants_first words texts after_next)
first_reads word words (has value k) texts rest after_next = has_reads word value words k rest
first_reads word words (strays k) texts rest after_next = stray_reads word words k

none_reads : Reads []
unfolding items_of operands_of budgets_of
none_reads operands budgets rows pending s =
    retold (state idle (place operands) rows pending false) [] operands (operands ++ []) budgets (budgets ++ []) true true (sym (append-nil operands)) (sym (append-nil budgets)) refl
    (ended operands budgets rows pending false s)

pub reads : (words : List Text) → AreTexts words → Reads words
reads [] texts = none_reads
reads (word ∷ []) texts = first_reads word [] (kind word texts.0) texts.1 none_reads tt
reads (word ∷ next ∷ words) texts = first_reads word (next ∷ words) (kind word texts.0) texts.1 (reads (next ∷ words) texts.1) (reads words texts.1.1)

-- nothing is found before the first word
nothing : Stands [] [] [] None
nothing = record {
  sound = refl;
  holds = record { command = refl; first = refl; second = refl; budget = refl };
  few = omega arith;
  once = omega arith;
}

pub comes : (words : List Text) → AreTexts words → ComesBy (state idle 1 [] None false) words [] [] (items_of words)
comes words texts = reads words texts [] [] [] None nothing
