use Rattle.std.proofs.Common.{◌≡◌, rules, map, subst, sym, List, Option, Some, None, string_bytes, codes}
use Rattle.clap.specs.Matches.{first_value, found_of}
use Rattle.clap.specs.Walk.{Text}
use Rattle.xn_command.specs.Gives.{GivesRequest}
use Rattle.xn_command.specs.Items.{after_name, items_of}
use Rattle.xn_command.specs.Parsed.{Finds}
use Rattle.xn_command.specs.Request.{Request}
use Rattle.xn_command.proofs.Asked.{budgeted, with_both, with_first, with_second}
use Rattle.xn_command.proofs.command.read_words.Goals as goal

pub returns-in-None-None-clause-gives : goal.returns-in-None-None-clause-gives
returns-in-None-None-clause-gives c =
    let words : List Text = map string_bytes c.args.words.now in
    let finds : Finds (items_of (after_name words)) c.in-Ok.matches = search rules in
    let command : first_value (found_of c.in-Ok.matches) (codes "command") ≡ Some c.in-Some.command.now = search rules in
    let first : first_value (found_of c.in-Ok.matches) (codes "first") ≡ Some c.in-Some-get_str.first.now = search rules in
    let second : first_value (found_of c.in-Ok.matches) (codes "second") ≡ None = search rules in
    let budget : first_value (found_of c.in-Ok.matches) (codes "budget") ≡ None = search rules in
    let asked = with_first words c.in-Ok.matches finds c.in-Some.command.now c.in-Some-get_str.first.now command first second budget in
    subst (λ (r : Option Request). GivesRequest r c.with_one.result) (sym asked) c.with_one.ensures.gives

pub returns-in-None-Some-clause-gives : goal.returns-in-None-Some-clause-gives
returns-in-None-Some-clause-gives c =
    let words : List Text = map string_bytes c.args.words.now in
    let finds : Finds (items_of (after_name words)) c.in-Ok.matches = search rules in
    let command : first_value (found_of c.in-Ok.matches) (codes "command") ≡ Some c.in-Some.command.now = search rules in
    let first : first_value (found_of c.in-Ok.matches) (codes "first") ≡ Some c.in-Some-get_str.first.now = search rules in
    let second : first_value (found_of c.in-Ok.matches) (codes "second") ≡ None = search rules in
    let budget : first_value (found_of c.in-Ok.matches) (codes "budget") ≡ Some c.in-None-Some.word.now = search rules in
    let asked = budgeted words c.in-Ok.matches finds c.in-Some.command.now c.in-Some-get_str.first.now command first c.in-None-Some.word.now second budget in
    subst (λ (r : Option Request). GivesRequest r c.with_budget.result) (sym asked) c.with_budget.ensures.gives

pub returns-in-Some-None-clause-gives : goal.returns-in-Some-None-clause-gives
returns-in-Some-None-clause-gives c =
    let words : List Text = map string_bytes c.args.words.now in
    let finds : Finds (items_of (after_name words)) c.in-Ok.matches = search rules in
    let command : first_value (found_of c.in-Ok.matches) (codes "command") ≡ Some c.in-Some.command.now = search rules in
    let first : first_value (found_of c.in-Ok.matches) (codes "first") ≡ Some c.in-Some-get_str.first.now = search rules in
    let second : first_value (found_of c.in-Ok.matches) (codes "second") ≡ Some c.in-Some-None.second.now = search rules in
    let budget : first_value (found_of c.in-Ok.matches) (codes "budget") ≡ None = search rules in
    let asked = with_second words c.in-Ok.matches finds c.in-Some.command.now c.in-Some-get_str.first.now command first c.in-Some-None.second.now second budget in
    subst (λ (r : Option Request). GivesRequest r c.with_two.result) (sym asked) c.with_two.ensures.gives

pub returns-clause-gives : goal.returns-clause-gives
returns-clause-gives c =
    let words : List Text = map string_bytes c.args.words.now in
    let finds : Finds (items_of (after_name words)) c.in-Ok.matches = search rules in
    let command : first_value (found_of c.in-Ok.matches) (codes "command") ≡ Some c.in-Some.command.now = search rules in
    let first : first_value (found_of c.in-Ok.matches) (codes "first") ≡ Some c.in-Some-get_str.first.now = search rules in
    let second : first_value (found_of c.in-Ok.matches) (codes "second") ≡ Some c.in-Some-Some.field-0-0.now = search rules in
    let budget : first_value (found_of c.in-Ok.matches) (codes "budget") ≡ Some c.in-Some-Some.field-0-1.now = search rules in
    with_both words c.in-Ok.matches finds c.in-Some.command.now c.in-Some-get_str.first.now command first c.in-Some-Some.field-0-0.now c.in-Some-Some.field-0-1.now second budget
