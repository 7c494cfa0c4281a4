-- The command by which the words are read, as the parser sees it.
use Rattle.std.proofs.Common.{◌≡◌, true, List, [], ◌∷◌, Some, refl, codes}
use Rattle.clap.specs.Faults.{is_simple_and_free}
use Rattle.clap.specs.Simple.{App, Shape, built, is_simple, new_app, new_rule, new_shape, on_top, with_rule}
use Rattle.clap.specs.Walk.{Rule}
use Rattle.clap.specs.declared.builder.action.ArgAction.TheVariants.{Set}
use Rattle.clap.specs.declared.builder.value_parser.ValueParser.TheVariants as vp
use Rattle.clap.proofs.OnLiterals.{clap_on_literals}

-- the arguments as they are given
abbrev pub given_command : Rule
given_command = record (new_rule (codes "command")) { required = true }

abbrev pub given_first : Rule
given_first = record (new_rule (codes "first")) { required = true }

abbrev pub given_second : Rule
given_second = new_rule (codes "second")

abbrev pub given_budget : Rule
given_budget = record (new_rule (codes "budget")) { long = Some (codes "budget"); action = Some Set }

-- the command as it is given
abbrev pub start : App
start = on_top (λ s. record s { disable_help_flag = true }) (new_app (codes "xnum"))

abbrev pub app : App
app = with_rule (with_rule (with_rule (with_rule start given_command) given_first) given_second) given_budget

-- an argument as it is built
abbrev pub filled_rule : Rule → Rule
filled_rule a = record a { action = Some Set; parser = Some vp.String; range = Some (record { start_inclusive = 1; end_inclusive = 1 }) }

abbrev pub command_rule : Rule
command_rule = record (filled_rule given_command) { index = Some 1 }

abbrev pub first_rule : Rule
first_rule = record (filled_rule given_first) { index = Some 2 }

abbrev pub second_rule : Rule
second_rule = record (filled_rule given_second) { index = Some 3 }

abbrev pub budget_rule : Rule
budget_rule = filled_rule given_budget

abbrev pub rules : List Rule
rules = command_rule ∷ first_rule ∷ second_rule ∷ budget_rule ∷ []

abbrev pub shape : Shape
shape = record (new_shape (codes "xnum")) {
  rules = rules;
  disable_help_flag = true;
  disable_help_subcommand = true;
  is_built = true;
}

pub built_is : built app ≡ record { top = shape; subs = [] }
unfolding clap_on_literals
built_is = refl

pub simple : is_simple app ≡ true
unfolding clap_on_literals
simple = refl

pub free : is_simple_and_free app ≡ true
unfolding clap_on_literals
free = refl
