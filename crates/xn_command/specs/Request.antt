-- What a list of words asks for.
use Rattle.std.specs.Prelude.{ℕ, ◌&&◌, List, [], ◌∷◌, Option, Some, None, if◌then◌else◌, codes, nat_le, ◌^◌}
use Rattle.std.specs.List.{list_all}
use Rattle.std.specs.Str.{bytes_eq}
use Rattle.xn_text.specs.Number.{word_number}
use Rattle.xn_text.specs.declared.numbers.WordNumber.{WordNumber}
use Rattle.xn_text.specs.declared.numbers.WordNumber.TheVariants.{Is, Large, Not}
use Rattle.xn_command.specs.Items.{Item, after_name, budgets_of, is_useful, items_of, operands_of}

-- what is asked for, with the names of the files
pub data Request : Type 0 where
  -- to search a graph, with so many tree nodes at most
  solve : List ℕ → ℕ → Request
  -- to search the sample graph of so many nodes, with so many tree nodes at most
  sample : ℕ → ℕ → Request
  -- to judge an answer for a graph
  check : List ℕ → List ℕ → Request
  -- to test the drawing of an answer
  examine : List ℕ → Request
  -- to show the drawing of an answer for a graph
  draw : List ℕ → List ℕ → Request

-- the budget where none is given, and the greatest
abbrev pub usual_budget : ℕ
usual_budget = 10000

abbrev pub most_budget : ℕ
most_budget = 200000

-- a number that is a budget
abbrev pub budget_from : WordNumber → Option ℕ
budget_from (Is n) = if nat_le n most_budget then Some n else None
budget_from Large = None
budget_from Not = None

-- the budget that a word spells, from 0 to 200,000
abbrev pub budget_of : List ℕ → Option ℕ
budget_of word = budget_from (word_number (2 ^ 64) word)

-- the fewest and the most nodes of a sample graph
abbrev pub fewest_nodes : ℕ
fewest_nodes = 3

abbrev pub most_nodes : ℕ
most_nodes = 400

-- a number that is a sample graph's number of nodes
abbrev pub nodes_from : WordNumber → Option ℕ
nodes_from (Is n) = if nat_le fewest_nodes n && nat_le n most_nodes then Some n else None
nodes_from Large = None
nodes_from Not = None

-- the number of nodes that a word spells, from 3 to 400
abbrev pub nodes_of : List ℕ → Option ℕ
nodes_of word = nodes_from (word_number (2 ^ 64) word)

-- to search a sample graph, where there is a number of nodes
abbrev pub sampled_by : Option ℕ → ℕ → Option Request
sampled_by None budget = None
sampled_by (Some nodes) budget = Some (sample nodes budget)

-- what a command asks for with one operand after it, within a budget
abbrev pub within : List ℕ → List ℕ → ℕ → Option Request
within command first budget =
    if bytes_eq command (codes "solve") then Some (solve first budget)
    else if bytes_eq command (codes "sample") then sampled_by (nodes_of first) budget else None

-- the same, where there is a budget
abbrev pub within_by : List ℕ → List ℕ → Option ℕ → Option Request
within_by command first None = None
within_by command first (Some budget) = within command first budget

-- what a command asks for with one operand after it
abbrev pub with_one : List ℕ → List ℕ → Option Request
with_one command first = if bytes_eq command (codes "examine") then Some (examine first) else within command first usual_budget

-- what a command asks for with one operand after it and a budget
abbrev pub with_budget : List ℕ → List ℕ → List ℕ → Option Request
with_budget command first budget = within_by command first (budget_of budget)

-- what a command asks for with two operands after it
abbrev pub with_two : List ℕ → List ℕ → List ℕ → Option Request
with_two command first second =
    if bytes_eq command (codes "check") then Some (check first second)
    else if bytes_eq command (codes "draw") then Some (draw first second) else None

-- what operands and budgets ask for: a command that has one of these numbers of operands, and a budget only where one is taken
abbrev pub asked_by : List (List ℕ) → List (List ℕ) → Option Request
asked_by (command ∷ first ∷ []) [] = with_one command first
asked_by (command ∷ first ∷ []) (budget ∷ []) = with_budget command first budget
asked_by (command ∷ first ∷ second ∷ []) [] = with_two command first second
asked_by operands budgets = None

-- what words ask for that are these items
abbrev pub request_by : List Item → Option Request
request_by items = if list_all is_useful items then asked_by (operands_of items) (budgets_of items) else None

-- what a list of words asks for, of which the first is the program's name
abbrev pub request_of : List (List ℕ) → Option Request
request_of words = request_by (items_of (after_name words))
