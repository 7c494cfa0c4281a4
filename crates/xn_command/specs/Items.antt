-- What each word of a command line is.
use Rattle.std.specs.Prelude.{◌==◌, nat_eq, ℕ, Bool, true, false, List, [], ◌∷◌, map, drop, if◌then◌else◌, codes}
use Rattle.std.specs.List.{starts_with}
use Rattle.std.specs.Str.{bytes_eq}

-- a word, or `--budget` and the word after it
pub data Item : Type 0 where
  operand : List ℕ → Item
  -- the value of a budget
  budget : List ℕ → Item
  -- `--budget` as the last word
  unvalued : Item
  -- another word that begins with `-`
  stray : Item

-- whether a word begins with `-` and isn't `-` alone
abbrev pub is_dashed : List ℕ → Bool
is_dashed [] = false
is_dashed (x ∷ []) = false
is_dashed (x ∷ y ∷ word) = x == 45

-- what a word is that is neither `--` nor `--budget`
abbrev pub item_of : List ℕ → Item
item_of word =
    if starts_with nat_eq word (codes "--budget=") then budget (drop 9 word)
    else if is_dashed word then stray else operand word

-- what a word is that no other word follows
abbrev pub last_items_of : List ℕ → List Item
last_items_of word =
    if bytes_eq word (codes "--") then []
    else if bytes_eq word (codes "--budget") then unvalued ∷ [] else item_of word ∷ []

-- the words after the program's name
abbrev pub after_name : List (List ℕ) → List (List ℕ)
after_name [] = []
after_name (program ∷ words) = words

-- what the words after the program's name are: the first `--` that is no budget ends the options, and is no operand
unfoldable pub items_of : List (List ℕ) → List Item
items_of [] = []
items_of (word ∷ []) = last_items_of word
items_of (word ∷ next ∷ words) =
    if bytes_eq word (codes "--") then map operand (next ∷ words)
    else if bytes_eq word (codes "--budget") then budget next ∷ items_of words
    else item_of word ∷ items_of (next ∷ words)

-- the operands in their order
unfoldable pub operands_of : List Item → List (List ℕ)
operands_of [] = []
operands_of (operand word ∷ items) = word ∷ operands_of items
operands_of (budget value ∷ items) = operands_of items
operands_of (unvalued ∷ items) = operands_of items
operands_of (stray ∷ items) = operands_of items

-- the values of the budgets in their order
unfoldable pub budgets_of : List Item → List (List ℕ)
budgets_of [] = []
budgets_of (operand word ∷ items) = budgets_of items
budgets_of (budget value ∷ items) = value ∷ budgets_of items
budgets_of (unvalued ∷ items) = budgets_of items
budgets_of (stray ∷ items) = budgets_of items

-- whether a word is of use
abbrev pub is_useful : Item → Bool
is_useful (operand word) = true
is_useful (budget value) = true
is_useful unvalued = false
is_useful stray = false
