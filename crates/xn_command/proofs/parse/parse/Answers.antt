use Rattle.std.proofs.Common.{◌≡◌, ◌∙◌, rules, map, ap₂, subst, true, List, string_bytes, IfOk}
use Rattle.clap.specs.Faults.{fault_of, is_simple_and_free}
use Rattle.clap.specs.Kinds.{FailsBy}
use Rattle.clap.specs.Simple.{App, HasMatchesOf, app_of, with_rule}
use Rattle.clap.specs.Walk.{Text, rule_of}
use Rattle.xn_command.proofs.App.{app, free, given_budget, given_command, given_first, given_second, start}
use Rattle.xn_command.proofs.Parsed.{are_after, are_texts, parsed}
use Rattle.xn_command.proofs.parse.parse.Goals as goal

pub returns : goal.returns
returns c =
    let command_is : rule_of c.required-command.result ≡ given_command = search rules in
    let first_is : rule_of c.required-first.result ≡ given_first = search rules in
    let second_is : rule_of c.required-second.result ≡ given_second = search rules in
    let budget_is : rule_of c.action-budget.result ≡ given_budget = search rules in
    let start_is : app_of c.disable_help_flag.result ≡ start = search rules in
    let program_is : app_of c.in_ok-program.program ≡ app =
    c.in_ok-program.ensures.shape (search rules)
    ∙ ap₂ with_rule (c.in_ok-arg-3.ensures.shape (search rules)
    ∙ ap₂ with_rule (c.in_ok-arg-2.ensures.shape (search rules)
    ∙ ap₂ with_rule (c.in_ok-arg.ensures.shape (search rules) ∙ ap₂ with_rule start_is command_is) first_is) second_is) budget_is in
    let words : List Text = map string_bytes c.args.words.now in
    let result = c.try_get_matches_from.result in
    let kinds : FailsBy (fault_of app words) result =
    subst (λ (a : App). is_simple_and_free a ≡ true → FailsBy (fault_of a words) result) program_is c.try_get_matches_from.ensures.kinds free in
    let matches : IfOk result (HasMatchesOf app words) = subst (λ (a : App). IfOk result (HasMatchesOf a words)) program_is c.try_get_matches_from.ensures.matches in
    parsed words (are_after words (are_texts c.args.words.now)) result kinds matches
