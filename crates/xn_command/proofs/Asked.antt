-- What is asked for, by what the parse found.
use Rattle.std.proofs.Common.{◌≡◌, ◌∙◌, true, ◌≤◌, List, [], ◌∷◌, length, Some, None, slice_get, refl, sym, ap, ap₂, codes, arith}
use Rattle.std.specs.List.{list_all}
use Rattle.clap.specs.Matches.{first_value, found_of}
use Rattle.clap.specs.Walk.{Text}
use Rattle.clap.specs.declared.parser.matches.ArgMatches.{ArgMatches}
use Rattle.xn_command.specs.Items.{Item, after_name, budgets_of, is_useful, items_of, operands_of}
use Rattle.xn_command.specs.Parsed.{Finds}
use Rattle.xn_command.specs.Request.{asked_by, request_by, request_of, with_budget, with_one, with_two}

useful_ask : (items : List Item) (operands budgets : List Text) → list_all is_useful items ≡ true → operands_of items ≡ operands → budgets_of items ≡ budgets → request_by items ≡ asked_by operands budgets
useful_ask items operands budgets useful eo eb =
    let asked : request_by items ≡ asked_by (operands_of items) (budgets_of items) = rw useful refl in
    asked ∙ ap₂ asked_by eo eb

no_budgets : (budgets : List Text) → slice_get budgets 0 ≡ None → budgets ≡ []
no_budgets [] none = refl
no_budgets (b ∷ more) none = absurd cc

one_budget : (budgets : List Text) (b : Text) → length budgets ≤ 1 → slice_get budgets 0 ≡ Some b → budgets ≡ b ∷ []
one_budget [] b once some = absurd cc
one_budget (x ∷ []) b once some =
    let is : x ≡ b = cc in
    ap (λ (w : Text). w ∷ []) is
one_budget (x ∷ y ∷ more) b once some = absurd (omega arith)

-- the operands are these
one_operand : (operands : List Text) (c f : Text) → slice_get operands 0 ≡ Some c → slice_get operands 1 ≡ Some f → slice_get operands 2 ≡ None → operands ≡ c ∷ f ∷ []
one_operand [] c f command first second = absurd cc
one_operand (x ∷ []) c f command first second = absurd cc
one_operand (x ∷ y ∷ []) c f command first second =
    let command_is : x ≡ c = cc in
    let first_is : y ≡ f = cc in
    λ i. command_is i ∷ first_is i ∷ []
one_operand (x ∷ y ∷ z ∷ more) c f command first second = absurd cc

two_operands : (operands : List Text) (c f s : Text) → length operands ≤ 3 → slice_get operands 0 ≡ Some c → slice_get operands 1 ≡ Some f → slice_get operands 2 ≡ Some s → operands ≡ c ∷ f ∷ s ∷ []
two_operands [] c f s few command first second = absurd cc
two_operands (x ∷ []) c f s few command first second = absurd cc
two_operands (x ∷ y ∷ []) c f s few command first second = absurd cc
two_operands (x ∷ y ∷ z ∷ []) c f s few command first second =
    let command_is : x ≡ c = cc in
    let first_is : y ≡ f = cc in
    let second_is : z ≡ s = cc in
    λ i. command_is i ∷ first_is i ∷ second_is i ∷ []
two_operands (x ∷ y ∷ z ∷ u ∷ more) c f s few command first second = absurd (omega arith)

module _ (words : List Text) (m : ArgMatches) (finds : Finds (items_of (after_name words)) m) where
  abbrev items : List Item
  items = items_of (after_name words)

  module _ (c f : Text) (command : first_value (found_of m) (codes "command") ≡ Some c) (first : first_value (found_of m) (codes "first") ≡ Some f) where
    one : first_value (found_of m) (codes "second") ≡ None → operands_of items ≡ c ∷ f ∷ []
    one none = one_operand (operands_of items) c f (sym finds.command ∙ command) (sym finds.first ∙ first) (sym finds.second ∙ none)

    two : (s : Text) → first_value (found_of m) (codes "second") ≡ Some s → operands_of items ≡ c ∷ f ∷ s ∷ []
    two s second = two_operands (operands_of items) c f s finds.operands (sym finds.command ∙ command) (sym finds.first ∙ first) (sym finds.second ∙ second)

    without_budget : first_value (found_of m) (codes "budget") ≡ None → budgets_of items ≡ []
    without_budget none = no_budgets (budgets_of items) (sym finds.budget ∙ none)

    a_budget : (b : Text) → first_value (found_of m) (codes "budget") ≡ Some b → budgets_of items ≡ b ∷ []
    a_budget b some = one_budget (budgets_of items) b finds.budgets (sym finds.budget ∙ some)

    pub with_first : first_value (found_of m) (codes "second") ≡ None → first_value (found_of m) (codes "budget") ≡ None → request_of words ≡ with_one c f
    with_first second budget = useful_ask items (c ∷ f ∷ []) [] finds.useful (one second) (without_budget budget)

    pub budgeted : (b : Text) → first_value (found_of m) (codes "second") ≡ None → first_value (found_of m) (codes "budget") ≡ Some b → request_of words ≡ with_budget c f b
    budgeted b second budget = useful_ask items (c ∷ f ∷ []) (b ∷ []) finds.useful (one second) (a_budget b budget)

    pub with_second : (s : Text) → first_value (found_of m) (codes "second") ≡ Some s → first_value (found_of m) (codes "budget") ≡ None → request_of words ≡ with_two c f s
    with_second s second budget = useful_ask items (c ∷ f ∷ s ∷ []) [] finds.useful (two s second) (without_budget budget)

    pub with_both : (s b : Text) → first_value (found_of m) (codes "second") ≡ Some s → first_value (found_of m) (codes "budget") ≡ Some b → request_of words ≡ None
    with_both s b second budget = useful_ask items (c ∷ f ∷ s ∷ []) (b ∷ []) finds.useful (two s second) (a_budget b budget)
