-- Operands and budgets that ask for nothing.
use Rattle.std.proofs.Common.{◌≡◌, ◌∙◌, ℕ, Bool, cond, true, false, not, ◌&&◌, ◌||◌, ◌<◌, ◌==◌, nat_lt, ◌^◌, List, [], ◌∷◌, length, None, refl, sym, ap, ap₂, subst, true≢false, arith}
use Rattle.std.specs.List.{list_all}
use Rattle.std.proofs.lemmas.Bool.{eqb-true}
use Rattle.clap.specs.Walk.{Text}
use Rattle.xn_text.specs.Number.{is_number, number_value}
use Rattle.xn_text.specs.declared.numbers.WordNumber.TheVariants.{Is, Large, Not}
use Rattle.xn_command.specs.Items.{Item, budgets_of, is_dashed, is_useful, operands_of}
use Rattle.xn_command.specs.Request.{asked_by, budget_from, budget_of, request_by, with_budget, within_by}

pub nothing_by : (items : List Item) → (a b : List Text) → operands_of items ≡ a → budgets_of items ≡ b → asked_by a b ≡ None → request_by items ≡ None
nothing_by items a b operands budgets none = go (list_all is_useful items) (ap₂ asked_by operands budgets ∙ none)
  where
    go : (u : Bool) → asked_by (operands_of items) (budgets_of items) ≡ None → cond u (asked_by (operands_of items) (budgets_of items)) None ≡ None
    go true e = e
    go false e = refl

pub many_ask_nothing : (operands budgets : List Text) → 3 < length operands → asked_by operands budgets ≡ None
many_ask_nothing [] budgets many = absurd (omega arith)
many_ask_nothing (c ∷ []) budgets many = absurd (omega arith)
many_ask_nothing (c ∷ f ∷ []) budgets many = absurd (omega arith)
many_ask_nothing (c ∷ f ∷ s ∷ []) budgets many = absurd (omega arith)
many_ask_nothing (c ∷ f ∷ s ∷ x ∷ more) budgets many = refl

pub few_ask_nothing : (operands budgets : List Text) → length operands < 2 → asked_by operands budgets ≡ None
few_ask_nothing [] budgets few = refl
few_ask_nothing (c ∷ []) budgets few = refl
few_ask_nothing (c ∷ f ∷ more) budgets few = absurd (omega arith)

-- two budgets
pub twice_ask_nothing : (operands budgets : List Text) → 1 < length budgets → asked_by operands budgets ≡ None
twice_ask_nothing operands [] twice = absurd (omega arith)
twice_ask_nothing operands (a ∷ []) twice = absurd (omega arith)
twice_ask_nothing [] (a ∷ b ∷ more) twice = refl
twice_ask_nothing (c ∷ []) (a ∷ b ∷ more) twice = refl
twice_ask_nothing (c ∷ f ∷ []) (a ∷ b ∷ more) twice = refl
twice_ask_nothing (c ∷ f ∷ s ∷ []) (a ∷ b ∷ more) twice = refl
twice_ask_nothing (c ∷ f ∷ s ∷ x ∷ others) (a ∷ b ∷ more) twice = refl

-- a budget that isn't one
pub unspelled : (c f word : Text) → budget_of word ≡ None → with_budget c f word ≡ None
unspelled c f word none = ap (within_by c f) none

pub unspelled_ask_nothing : (operands : List Text) (word : Text) (more : List Text) → budget_of word ≡ None → asked_by operands (word ∷ more) ≡ None
unspelled_ask_nothing [] word more none = refl
unspelled_ask_nothing (c ∷ []) word more none = refl
unspelled_ask_nothing (c ∷ f ∷ []) word [] none = unspelled c f word none
unspelled_ask_nothing (c ∷ f ∷ []) word (b ∷ more) none = refl
unspelled_ask_nothing (c ∷ f ∷ s ∷ []) word more none = refl
unspelled_ask_nothing (c ∷ f ∷ s ∷ x ∷ others) word more none = refl

-- a number doesn't begin with `-`
pub dashed_is_none : (word : Text) → is_dashed word ≡ true → budget_of word ≡ None
dashed_is_none [] dashed = absurd (true≢false (sym dashed))
dashed_is_none (x ∷ []) dashed = absurd (true≢false (sym dashed))
dashed_is_none (x ∷ y ∷ text) dashed = subst (λ (b : ℕ). budget_of (b ∷ y ∷ text) ≡ None) (sym (eqb-true x 45 dashed)) (by_dash y text)
  where
    middle : (a c : Bool) → (a && false && c) ≡ false
    middle true c = refl
    middle false c = refl

    by_dash : (y : ℕ) (text : Text) → budget_of (45 ∷ y ∷ text) ≡ None
    by_dash y text =
        let word : Text = 45 ∷ y ∷ text in
        let no_number : is_number word ≡ false = middle (not (length word == 0)) (not (45 == 48) || length word == 1) in
        ap (λ (b : Bool). budget_from (cond b (cond (nat_lt (number_value word) (2 ^ 64)) (Is (number_value word)) Large) Not)) no_number
