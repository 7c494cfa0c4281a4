-- Rows of the parser, of which each has one value.
use Rattle.std.proofs.Common.{◌≡◌, ◌∙◌, Bool, cond, true, false, ◌||◌, List, [], ◌∷◌, ◌++◌, Option, Some, None, is_some, find, option_map, option_and_then, slice_get, refl, ap, bytes_eq, append-nil, codes, true≢false}
use Rattle.clap.specs.Walk.{Row, Text, at_row, first_of, has_row, more_values, with_values, without}
use Rattle.clap.specs.declared.builder.value_parser.Reading.TheVariants.{AsWritten}
use Rattle.clap.specs.declared.parser.matches.ValueSource.TheVariants.{CommandLine}

-- an id with one value from the words
abbrev pub row : Text → Text → Row
row id value = record { id = id; values = value ∷ []; count = None; source = Some CommandLine; reading = AsWritten }

abbrev pub is_row : Text → Row → Bool
is_row id r = bytes_eq r.id id

-- a row of another id changes nothing
pub find_other : (id : Text) (rows : List Row) (r : Row) → is_row id r ≡ false → find (is_row id) (rows ++ r ∷ []) ≡ find (is_row id) rows
find_other id [] r other = rw other refl
find_other id (x ∷ rows) r other = ap (λ o. cond (is_row id x) (Some x) o) (find_other id rows r other)

new_by : (b : Bool) (x r : Row) (o p : Option Row) → cond b (Some x) o ≡ None → (o ≡ None → p ≡ Some r) → cond b (Some x) p ≡ Some r
new_by true x r o p none h = absurd cc
new_by false x r o p none h = h none

-- the first row of an id is found
pub find_new : (id : Text) (rows : List Row) (r : Row) → find (is_row id) rows ≡ None → is_row id r ≡ true → find (is_row id) (rows ++ r ∷ []) ≡ Some r
find_new id [] r none own = rw own refl
find_new id (x ∷ rows) r none own =
    new_by (is_row id x) x r (find (is_row id) rows) (find (is_row id) (rows ++ r ∷ [])) none (λ none. find_new id rows r none own)

has_by : (b a : Bool) (x : Row) (o : Option Row) → a ≡ is_some o → (b || a) ≡ is_some (cond b (Some x) o)
has_by true a x o e = refl
has_by false a x o e = e

pub has_is : (id : Text) (rows : List Row) → has_row id rows ≡ is_some (find (is_row id) rows)
has_is id [] = refl
has_is id (x ∷ rows) = has_by (is_row id x) (has_row id rows) x (find (is_row id) rows) (has_is id rows)

at_by : (b a : Bool) (r : Row) (front same rest : List Row) → (b || a) ≡ false → (a ≡ false → same ≡ rest) → cond b front (r ∷ same) ≡ r ∷ rest
at_by true a r front same rest none h = absurd (true≢false none)
at_by false a r front same rest none h = ap (λ rows. r ∷ rows) (h none)

at_missing : (id : Text) (change : Row → List Row) (missing rows : List Row) → has_row id rows ≡ false → at_row id change missing rows ≡ rows ++ missing
at_missing id change missing [] none = refl
at_missing id change missing (r ∷ rows) none =
    at_by (is_row id r) (has_row id rows) r (change r ++ rows) (at_row id change missing rows) (rows ++ missing) none (at_missing id change missing rows)

-- the first use of an id puts its row behind the others
pub placed : (id value : Text) (rows : List Row) → has_row id rows ≡ false → with_values id AsWritten CommandLine (value ∷ []) (without id rows) ≡ rows ++ row id value ∷ []
placed id value rows none =
    let same : without id rows ≡ rows = at_missing id (λ _. []) [] rows none ∙ append-nil rows in
    ap (with_values id AsWritten CommandLine (value ∷ [])) same ∙ at_missing id (more_values CommandLine (value ∷ [])) (row id value ∷ []) rows none

-- operands and budgets stand in the rows
pub record Holds (operands budgets : List Text) (rows : List Row) : Type 0 where
  pub command : find (is_row (codes "command")) rows ≡ option_map (row (codes "command")) (slice_get operands 0)
  pub first : find (is_row (codes "first")) rows ≡ option_map (row (codes "first")) (slice_get operands 1)
  pub second : find (is_row (codes "second")) rows ≡ option_map (row (codes "second")) (slice_get operands 2)
  pub budget : find (is_row (codes "budget")) rows ≡ option_map (row (codes "budget")) (slice_get budgets 0)

pub with_command : (word : Text) (budgets : List Text) (rows : List Row) → Holds [] budgets rows → Holds (word ∷ []) budgets (rows ++ row (codes "command") word ∷ [])
with_command word budgets rows h = record {
  command = find_new (codes "command") rows (row (codes "command") word) h.command refl;
  first = find_other (codes "first") rows (row (codes "command") word) refl ∙ h.first;
  second = find_other (codes "second") rows (row (codes "command") word) refl ∙ h.second;
  budget = find_other (codes "budget") rows (row (codes "command") word) refl ∙ h.budget;
}

pub with_first : (c word : Text) (budgets : List Text) (rows : List Row) → Holds (c ∷ []) budgets rows → Holds (c ∷ word ∷ []) budgets (rows ++ row (codes "first") word ∷ [])
with_first c word budgets rows h = record {
  command = find_other (codes "command") rows (row (codes "first") word) refl ∙ h.command;
  first = find_new (codes "first") rows (row (codes "first") word) h.first refl;
  second = find_other (codes "second") rows (row (codes "first") word) refl ∙ h.second;
  budget = find_other (codes "budget") rows (row (codes "first") word) refl ∙ h.budget;
}

pub with_second : (c f word : Text) (budgets : List Text) (rows : List Row) → Holds (c ∷ f ∷ []) budgets rows → Holds (c ∷ f ∷ word ∷ []) budgets (rows ++ row (codes "second") word ∷ [])
with_second c f word budgets rows h = record {
  command = find_other (codes "command") rows (row (codes "second") word) refl ∙ h.command;
  first = find_other (codes "first") rows (row (codes "second") word) refl ∙ h.first;
  second = find_new (codes "second") rows (row (codes "second") word) h.second refl;
  budget = find_other (codes "budget") rows (row (codes "second") word) refl ∙ h.budget;
}

pub with_budget : (value : Text) (operands : List Text) (rows : List Row) → Holds operands [] rows → Holds operands (value ∷ []) (rows ++ row (codes "budget") value ∷ [])
with_budget value operands rows h = record {
  command = find_other (codes "command") rows (row (codes "budget") value) refl ∙ h.command;
  first = find_other (codes "first") rows (row (codes "budget") value) refl ∙ h.first;
  second = find_other (codes "second") rows (row (codes "budget") value) refl ∙ h.second;
  budget = find_new (codes "budget") rows (row (codes "budget") value) h.budget refl;
}

-- the value of an id that stands in the rows
pub value_of : (id : Text) (rows : List Row) (value : Option Text) → find (is_row id) rows ≡ option_map (row id) value → first_of id rows ≡ value
value_of id rows None e = ap (option_and_then (λ r. slice_get r.values 0)) e
value_of id rows (Some v) e = ap (option_and_then (λ r. slice_get r.values 0)) e
