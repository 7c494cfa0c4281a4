-- What the parse of a list of words finds.
use Rattle.std.specs.Prelude.{◌≡◌, ◌⊎◌, ◌≤◌, ℕ, List, None, Result, Ok, Err, length, slice_get, true, codes}
use Rattle.std.specs.List.{list_all}
use Rattle.clap.specs.Words.{first_value, found_of, kind_of}
use Rattle.clap.specs.declared.error.Error.{Error}
use Rattle.clap.specs.declared.error.kind.ErrorKind.TheVariants.{OutOfMemory}
use Rattle.clap.specs.declared.parser.matches.ArgMatches.{ArgMatches}
use Rattle.xn_command.specs.Items.{Item, after_name, budgets_of, is_useful, items_of, operands_of}
use Rattle.xn_command.specs.Request.{request_of}

-- each word is of use, and these are all operands and budgets
pub record Finds (items : List Item) (m : ArgMatches) : Type 0 where
  pub useful : list_all is_useful items ≡ true
  pub operands : length (operands_of items) ≤ 3
  pub budgets : length (budgets_of items) ≤ 1
  pub command : first_value (found_of m) (codes "command") ≡ slice_get (operands_of items) 0
  pub first : first_value (found_of m) (codes "first") ≡ slice_get (operands_of items) 1
  pub second : first_value (found_of m) (codes "second") ≡ slice_get (operands_of items) 2
  pub budget : first_value (found_of m) (codes "budget") ≡ slice_get (budgets_of items) 0

-- operands and budgets are found, or memory ran out, or the words ask for nothing
abbrev pub ParsesWords : List (List ℕ) → Result ArgMatches Error → Type 0
ParsesWords words (Ok m) = Finds (items_of (after_name words)) m
ParsesWords words (Err e) = (kind_of e ≡ OutOfMemory) ⊎ (request_of words ≡ None)
