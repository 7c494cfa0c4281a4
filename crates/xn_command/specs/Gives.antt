-- What is answered to a list of words.
use Rattle.std.specs.Prelude.{◌≡◌, ◌≤◌, ⊤, List, map, String, Option, Some, None, Result, Ok, Err}
use Rattle.std.specs.String.{string_bytes}
use Rattle.std.specs.declared.alloc.Global.{Global}
use Rattle.xn_command.specs.declared.command.Command as out
use Rattle.xn_command.specs.declared.command.Command.TheVariants.{Check, Draw, Examine, Sample, Solve}
use Rattle.xn_command.specs.declared.command.WordsErr.{WordsErr}
use Rattle.xn_command.specs.declared.command.WordsErr.TheVariants.{Refused, Memory}
use Rattle.xn_command.specs.Request.{Request, check, draw, examine, fewest_nodes, most_budget, most_nodes, request_of, sample, solve}

-- what a command asks for
abbrev pub request_of_command : out.Command → Request
request_of_command (Solve graph budget) = solve (string_bytes graph) budget
request_of_command (Sample nodes budget) = sample nodes budget
request_of_command (Check graph answer) = check (string_bytes graph) (string_bytes answer)
request_of_command (Examine answer) = examine (string_bytes answer)
request_of_command (Draw graph answer) = draw (string_bytes graph) (string_bytes answer)

-- the budget of a command is no more than the greatest, and there is a sample graph of so many nodes
abbrev pub IsWithinLimits : out.Command → Type 0
IsWithinLimits (Solve graph budget) = budget ≤ most_budget
IsWithinLimits (Sample nodes budget) = (fewest_nodes ≤ nodes) × (nodes ≤ most_nodes) × (budget ≤ most_budget)
IsWithinLimits (Check graph answer) = ⊤
IsWithinLimits (Examine answer) = ⊤
IsWithinLimits (Draw graph answer) = ⊤

-- what words ask for, of which the first is the program's name
abbrev pub words_request : List (String Global) → Option Request
words_request words = request_of (map string_bytes words)

-- the command asks for this, or nothing is asked for, unless memory ran out
abbrev pub GivesRequest : Option Request → Result out.Command WordsErr → Type 0
GivesRequest asked (Ok command) = asked ≡ Some (request_of_command command)
GivesRequest asked (Err Refused) = asked ≡ None
GivesRequest asked (Err Memory) = Unit {0}

-- the command asks for what the words ask for, or they ask for nothing, unless memory ran out
abbrev pub GivesCommand : List (String Global) → Result out.Command WordsErr → Type 0
GivesCommand words result = GivesRequest (words_request words) result
