-- Why words ask for nothing, refusal by refusal.
use Rattle.std.specs.Prelude.{◌≡◌, ◌↔◌, ◌<◌, ◌⊎◌, ℕ, List, Some, None, Contains, codes, length, slice_get}
use Rattle.xn_command.specs.Items.{Item, after_name, budgets_of, items_of, operands_of, stray, unvalued}
use Rattle.xn_command.specs.Request.{budget_of, nodes_of, request_of}

-- the command is the first operand
abbrev pub HasCommand : List Item → List ℕ → Type 0
HasCommand items command = slice_get (operands_of items) 0 ≡ Some command

-- commands that take a graph and an answer
abbrev pub TakesTwo : List Item → Type 0
TakesTwo items = HasCommand items (codes "check") ⊎ HasCommand items (codes "draw")

-- commands that take a budget
abbrev pub TakesBudget : List Item → Type 0
TakesBudget items = HasCommand items (codes "solve") ⊎ HasCommand items (codes "sample")

-- commands that take one file, or a number of nodes
abbrev pub TakesOne : List Item → Type 0
TakesOne items = TakesBudget items ⊎ HasCommand items (codes "examine")

-- commands that take no budget
abbrev pub TakesNoBudget : List Item → Type 0
TakesNoBudget items = HasCommand items (codes "examine") ⊎ TakesTwo items

-- the operand after the command is this word
abbrev pub HasFirst : List Item → List ℕ → Type 0
HasFirst items word = slice_get (operands_of items) 1 ≡ Some word

-- the value of the first budget is this word
abbrev pub HasBudgetWord : List Item → List ℕ → Type 0
HasBudgetWord items word = slice_get (budgets_of items) 0 ≡ Some word

-- what is wrong with words that are these items
pub data IsRefused (items : List Item) : Type 0 where
  -- a word that begins with `-` stands where it is no operand, and is no budget
  stray_word : Contains items stray → IsRefused items
  -- the last word is `--budget`
  no_value : Contains items unvalued → IsRefused items
  -- a budget is given twice
  two_budgets : 1 < length (budgets_of items) → IsRefused items
  -- there are not two or three operands
  few_operands : length (operands_of items) < 2 → IsRefused items
  many_operands : 3 < length (operands_of items) → IsRefused items
  -- the first operand is no command
  no_command : ¬ (TakesOne items ⊎ TakesTwo items) → IsRefused items
  -- a second operand is given to a command that takes one
  second_given : TakesOne items → length (operands_of items) ≡ 3 → IsRefused items
  -- or it is missing
  second_missing : TakesTwo items → length (operands_of items) ≡ 2 → IsRefused items
  -- a budget is given to a command that takes none
  budget_given : TakesNoBudget items → 0 < length (budgets_of items) → IsRefused items
  -- a budget isn't a number from 0 to 200,000
  no_budget : (word : List ℕ) → HasBudgetWord items word → budget_of word ≡ None → IsRefused items
  -- the number of nodes for a sample isn't a number from 3 to 400
  no_nodes : (word : List ℕ) → HasCommand items (codes "sample") → HasFirst items word → nodes_of word ≡ None → IsRefused items

-- words ask for nothing exactly where one of these is wrong with them
abbrev pub RefusedExactly : Type 0
RefusedExactly = (words : List (List ℕ)) → (request_of words ≡ None) ↔ IsRefused (items_of (after_name words))
