-- What the parser's promise for simple commands says of the words.
use Rattle.std.proofs.Common.{◌≡◌, ◌∙◌, Bool, cond, true, false, ◌||◌, ◌⊎◌, inl, inr, List, [], ◌∷◌, drop, map, Option, None, find, fold, option_map, slice_get, Result, Ok, Err, IfOk, refl, sym, ap, subst, codes, string_bytes, String, true≢false, arith}
use Rattle.std.specs.List.{list_all, list_any}
use Rattle.std.specs.Option.{option_map_or}
use Rattle.std.specs.declared.alloc.Global.{Global}
use Rattle.std.proofs.lemmas.Str.{IsUtf8-string_bytes}
use Rattle.clap.specs.Facts.{explicit_source}
use Rattle.clap.specs.Faults.{built_fault, check_fault, default_fault, defaults_fault, fault_of, settle_fault, walk_fault}
use Rattle.clap.specs.Kinds.{FailsBy, HasKind, IsAmong, Kinds, or_else}
use Rattle.clap.specs.Matches.{first_value, found_of}
use Rattle.clap.specs.Simple.{App, HasMatchesOf, matches_of, names_of}
use Rattle.clap.specs.Takes.{is_given}
use Rattle.clap.specs.Values.{kind_of}
use Rattle.clap.specs.Walk.{Row, Rule, Text, Walk, first_of, has_row, idle, nothing_held, rows_after, rows_of, walked, with_default}
use Rattle.clap.specs.declared.error.Error.{Error}
use Rattle.clap.specs.declared.error.kind.ErrorKind.{ErrorKind}
use Rattle.clap.specs.declared.error.kind.ErrorKind.TheVariants.{MissingRequiredArgument, OutOfMemory}
use Rattle.clap.specs.declared.parser.matches.ArgMatches.{ArgMatches}
use Rattle.clap.proofs.FaultLemmas.{leaf_fault}
use Rattle.clap.proofs.WalkLemmas.{first_value-rows}
use Rattle.xn_command.specs.Items.{Item, after_name, budgets_of, is_dashed, is_useful, items_of, operands_of}
use Rattle.xn_command.specs.Parsed.{Finds, ParsesWords}
use Rattle.xn_command.specs.Request.{request_by, request_of}
use Rattle.xn_command.proofs.App.{app, built_is, budget_rule, command_rule, first_rule, rules, second_rule, shape, simple}
use Rattle.xn_command.proofs.Budgets.{AreTexts}
use Rattle.xn_command.proofs.Nothing.{dashed_is_none, few_ask_nothing, many_ask_nothing, nothing_by, twice_ask_nothing, unspelled_ask_nothing}
use Rattle.xn_command.proofs.Rows.{Holds, is_row, row, value_of}
use Rattle.xn_command.proofs.Steps.{last, or_else_assoc, or_false, run, state}
use Rattle.xn_command.proofs.Walks.{Bad, comes}

-- ---- what a broken rule means

bad_asks_nothing : (items : List Item) → Bad (operands_of items) (budgets_of items) (list_all is_useful items) → request_by items ≡ None
bad_asks_nothing items bad = elim bad [
  | inl useless ↦ rw useless refl
  | inr wrong ↦ elim wrong [
    | inl many ↦ nothing_by items (operands_of items) (budgets_of items) refl refl (many_ask_nothing (operands_of items) (budgets_of items) many)
    | inr budgets ↦ elim budgets [
      | inl twice ↦ nothing_by items (operands_of items) (budgets_of items) refl refl (twice_ask_nothing (operands_of items) (budgets_of items) twice)
      | inr dashed ↦ given (budgets_of items) refl dashed
    ]
  ]
]
  where
    given : (budgets : List Text) → budgets_of items ≡ budgets → list_any is_dashed budgets ≡ true → request_by items ≡ None
    given [] e dashed = absurd (true≢false (sym dashed))
    given (b ∷ []) e dashed =
        nothing_by items (operands_of items) (b ∷ []) refl e (unspelled_ask_nothing (operands_of items) b [] (dashed_is_none b (sym (or_false (is_dashed b)) ∙ dashed)))
    given (a ∷ b ∷ more) e dashed = nothing_by items (operands_of items) (a ∷ b ∷ more) refl e (twice_ask_nothing (operands_of items) (a ∷ b ∷ more) (omega arith))

-- ---- what the parser asks behind the last word

or_true : {X : Type 0} (b : Bool) (x y : X) → cond (b || true) x y ≡ x
or_true true x y = refl
or_true false x y = refl

both_same : {X : Type 0} (b : Bool) (x : X) → cond b x x ≡ x
both_same true x = refl
both_same false x = refl

without_default : (a : Rule) (rest : List Rule) (rows : List Row) → default_fault rows a ≡ [] → with_default rows a ≡ rows → defaults_fault rows rest ≡ [] → defaults_fault rows (a ∷ rest) ≡ []
unfolding defaults_fault
without_default a rest rows none same others = (λ i. or_else (none i) (defaults_fault (same i) rest)) ∙ others

no_defaults : (rows : List Row) → defaults_fault rows rules ≡ []
unfolding defaults_fault
no_defaults rows =
    without_default command_rule (first_rule ∷ second_rule ∷ budget_rule ∷ []) rows (or_true (has_row (codes "command") rows) [] _) (both_same (has_row (codes "command") rows) rows)
    (without_default first_rule (second_rule ∷ budget_rule ∷ []) rows (or_true (has_row (codes "first") rows) [] _) (both_same (has_row (codes "first") rows) rows)
    (without_default second_rule (budget_rule ∷ []) rows (or_true (has_row (codes "second") rows) [] _) (both_same (has_row (codes "second") rows) rows)
    (without_default budget_rule [] rows (or_true (has_row (codes "budget") rows) [] _) (both_same (has_row (codes "budget") rows) rows) refl)))

unchanged : (rows : List Row) → fold with_default rows rules ≡ rows
unchanged rows =
    ap (λ r. fold with_default r (first_rule ∷ second_rule ∷ budget_rule ∷ [])) (both_same (has_row (codes "command") rows) rows)
    ∙ ap (λ r. fold with_default r (second_rule ∷ budget_rule ∷ [])) (both_same (has_row (codes "first") rows) rows)
    ∙ ap (λ r. fold with_default r (budget_rule ∷ [])) (both_same (has_row (codes "second") rows) rows)
    ∙ both_same (has_row (codes "budget") rows) rows

-- the two operands that are required are there
check_passes : (c f : Text) (more budgets : List Text) (rows : List Row) → Holds (c ∷ f ∷ more) budgets rows → check_fault shape rows false ≡ []
check_passes c f more budgets rows h =
    let command : is_given (codes "command") rows ≡ true = ap (λ o. option_map_or (λ (r : Row). explicit_source r.source) o false) h.command in
    let first : is_given (codes "first") rows ≡ true = ap (λ o. option_map_or (λ (r : Row). explicit_source r.source) o false) h.first in
    rw (command, first) refl

-- ---- the whole parse

abbrev start : Walk
start = state idle 1 [] None false

-- why the parse of these words fails
level_is : (words : List Text) → built_fault (record { top = shape; subs = [] }) nothing_held words ≡ or_else (run start words) (or_else (defaults_fault (last start words) rules) (check_fault shape (fold with_default (last start words) rules) false))
level_is words =
    leaf_fault (record { top = shape; subs = [] }) nothing_held words refl
    ∙ sym (or_else_assoc (walk_fault shape [] start words) (settle_fault rules false (fold (walked rules []) start words).held)
    (or_else (defaults_fault (last start words) rules) (check_fault shape (fold with_default (last start words) rules) false)))

fault_is : (words : List Text) → fault_of app words ≡ or_else (run start (drop 1 words)) (check_fault shape (last start (drop 1 words)) false)
fault_is words =
    let rest = drop 1 words in
    ap (λ a. built_fault a nothing_held rest) built_is ∙ level_is rest
    ∙ (λ i. or_else (run start rest) (or_else (no_defaults (last start rest) i) (check_fault shape (unchanged (last start rest) i) false)))

rows_are : (words : List Text) → matches_of app words ≡ last start (drop 1 words)
rows_are words = ap (λ (a : App). rows_after a.top.rules (names_of a) (drop 1 words)) built_is ∙ unchanged (last start (drop 1 words))

front_none : (a b : Kinds) → or_else a b ≡ [] → a ≡ []
front_none [] b e = refl
front_none (k ∷ ks) b e = absurd cc

-- the parse of the words after the program's name
module _ (program : Text) (words : List Text) (texts : AreTexts words) where
  abbrev all : List Text
  all = program ∷ words

  abbrev items : List Item
  items = items_of words

  found : (m : ArgMatches) → rows_of (found_of m) ≡ matches_of app all → (id : Text) (value : Option Text) → find (is_row id) (last start words) ≡ option_map (row id) value → first_value (found_of m) id ≡ value
  found m same id value there =
      first_value-rows (found_of m) id ∙ ap (first_of id) (same ∙ rows_are all) ∙ value_of id (last start words) value there

  finds : (m : ArgMatches) → fault_of app all ≡ [] → rows_of (found_of m) ≡ matches_of app all → Finds items m
  finds m none same = elim (comes words texts) [
    | inl good ↦ record {
      useful = good.useful_is;
      operands = good.few;
      budgets = good.once;
      command = found m same (codes "command") (slice_get (operands_of items) 0) good.holds.command;
      first = found m same (codes "first") (slice_get (operands_of items) 1) good.holds.first;
      second = found m same (codes "second") (slice_get (operands_of items) 2) good.holds.second;
      budget = found m same (codes "budget") (slice_get (budgets_of items) 0) good.holds.budget;
    }
    | inr bad ↦ absurd (bad.0 (front_none (run start words) (check_fault shape (last start words) false) (sym (fault_is all) ∙ none)))
  ]

  -- where all words are kept and yet the parse fails, an operand is missing
  missing : (k : ErrorKind) (operands budgets : List Text) → operands_of items ≡ operands → budgets_of items ≡ budgets → Holds operands budgets (last start words) → run start words ≡ [] → IsAmong k (fault_of app all) → request_by items ≡ None
  missing k [] budgets eo eb holds none among = nothing_by items [] budgets eo eb (few_ask_nothing [] budgets (omega arith))
  missing k (c ∷ []) budgets eo eb holds none among = nothing_by items (c ∷ []) budgets eo eb (few_ask_nothing (c ∷ []) budgets (omega arith))
  missing k (c ∷ f ∷ more) budgets eo eb holds none among =
      let passes : fault_of app all ≡ [] = fault_is all ∙ (λ i. or_else (none i) (check_passes c f more budgets (last start words) holds i)) in
      absurd (subst (IsAmong k) passes among)

  refused : (e : Error) → HasKind (fault_of app all) e → (kind_of e ≡ OutOfMemory) ⊎ (request_by items ≡ None)
  refused e has = elim has [
    | inl memory ↦ inl memory
    | inr among ↦ inr (elim (comes words texts) [
      | inl good ↦ missing (kind_of e) (operands_of items) (budgets_of items) refl refl good.holds good.none among
      | inr bad ↦ bad_asks_nothing items bad.1
    ])
  ]

-- without the program's name the command is missing
no_words : fault_of app [] ≡ [] → ⊥
unfolding walk_fault
no_words none =
    let is : MissingRequiredArgument ∷ [] ≡ fault_of app [] = sym (fault_is []) in
    some_kind (is ∙ none)
  where
    some_kind : Path Kinds (MissingRequiredArgument ∷ []) [] → ⊥
    some_kind e = absurd cc

none_asked : request_of [] ≡ None
unfolding items_of operands_of
none_asked = refl

pub parsed : (words : List Text) → AreTexts (after_name words) → (r : Result ArgMatches Error) → FailsBy (fault_of app words) r → IfOk r (HasMatchesOf app words) → ParsesWords words r
parsed [] texts (Ok m) fails matches = absurd (no_words fails)
parsed [] texts (Err e) fails matches = inr none_asked
parsed (program ∷ words) texts (Ok m) fails matches = finds program words texts m fails (matches simple).0
parsed (program ∷ words) texts (Err e) fails matches = refused program words texts e fails

-- the bytes of strings are texts
pub are_texts : (words : List (String Global)) → AreTexts (map string_bytes words)
are_texts [] = tt
are_texts (word ∷ words) = (IsUtf8-string_bytes word, are_texts words)

pub are_after : (words : List Text) → AreTexts words → AreTexts (after_name words)
are_after [] texts = tt
are_after (program ∷ words) texts = texts.1
