-- Words ask for nothing exactly where something is wrong with them.
use Rattle.std.proofs.Common.{◌≡◌, ◌∙◌, ℕ, true, false, zero, suc, ◌<◌, ◌⊎◌, inl, inr, List, [], ◌∷◌, length, Option, Some, None, Contains, slice_get, refl, sym, ap, subst, bytes_eq, codes, true≢false, arith}
use Rattle.std.specs.List.{list_all}
use Rattle.std.proofs.lemmas.Bool.{and_right, cases_Bool}
use Rattle.std.proofs.lemmas.Slice.Eq.{bytes_eq-Decides}
use Rattle.clap.specs.Walk.{Text}
use Rattle.xn_command.specs.Items.{Item, after_name, budget, budgets_of, is_useful, items_of, operand, operands_of, stray, unvalued}
use Rattle.xn_command.specs.Refusals.{HasCommand, HasFirst, IsRefused, RefusedExactly, TakesNoBudget, TakesOne, TakesTwo, budget_given, few_operands, many_operands, no_budget, no_command, no_nodes, no_value, second_given, second_missing, stray_word, two_budgets}
use Rattle.xn_command.specs.Request.{asked_by, budget_of, nodes_of, request_by, sampled_by, usual_budget, with_budget, with_one, with_two, within_by}
use Rattle.xn_command.proofs.Nothing.{few_ask_nothing, many_ask_nothing, nothing_by, twice_ask_nothing, unspelled_ask_nothing}

-- ---- which command it is

same : (a b : Text) → bytes_eq a b ≡ true → a ≡ b
same a b e = (bytes_eq-Decides a b).0 e

differs : (a b : Text) → bytes_eq a b ≡ false → a ≡ b → ⊥
differs a b other e = true≢false (sym ((bytes_eq-Decides a b).1 e) ∙ other)

-- none of the commands
record IsOther (c : Text) : Type 0 where
  solve : bytes_eq c (codes "solve") ≡ false
  sample : bytes_eq c (codes "sample") ≡ false
  examine : bytes_eq c (codes "examine") ≡ false
  check : bytes_eq c (codes "check") ≡ false
  draw : bytes_eq c (codes "draw") ≡ false

data Which (c : Text) : Type 0 where
  solves : c ≡ codes "solve" → Which c
  samples : c ≡ codes "sample" → Which c
  examines : c ≡ codes "examine" → Which c
  checks : c ≡ codes "check" → Which c
  draws : c ≡ codes "draw" → Which c
  others : IsOther c → Which c

which : (c : Text) → Which c
which c = elim (cases_Bool (bytes_eq c (codes "solve"))) [
  | inl is ↦ solves (same c (codes "solve") is)
  | inr not_solve ↦ elim (cases_Bool (bytes_eq c (codes "sample"))) [
    | inl is ↦ samples (same c (codes "sample") is)
    | inr not_sample ↦ elim (cases_Bool (bytes_eq c (codes "examine"))) [
      | inl is ↦ examines (same c (codes "examine") is)
      | inr not_examine ↦ elim (cases_Bool (bytes_eq c (codes "check"))) [
        | inl is ↦ checks (same c (codes "check") is)
        | inr not_check ↦ elim (cases_Bool (bytes_eq c (codes "draw"))) [
          | inl is ↦ draws (same c (codes "draw") is)
          | inr not_draw ↦ others (record { solve = not_solve; sample = not_sample; examine = not_examine; check = not_check; draw = not_draw })
        ]
      ]
    ]
  ]
]

-- the first operand is one command alone
one_command : (items : List Item) (c this : Text) → HasCommand items c → HasCommand items this → c ≡ this
one_command items c this has given =
    let is : Some c ≡ Some this = sym has ∙ given in
    let equal : c ≡ this = cc in
    equal

unknown : (items : List Item) (c : Text) → HasCommand items c → IsOther c → ¬ (TakesOne items ⊎ TakesTwo items)
unknown items c has other (inl (inl (inl this))) = differs c (codes "solve") other.solve (one_command items c (codes "solve") has this)
unknown items c has other (inl (inl (inr this))) = differs c (codes "sample") other.sample (one_command items c (codes "sample") has this)
unknown items c has other (inl (inr this)) = differs c (codes "examine") other.examine (one_command items c (codes "examine") has this)
unknown items c has other (inr (inl this)) = differs c (codes "check") other.check (one_command items c (codes "check") has this)
unknown items c has other (inr (inr this)) = differs c (codes "draw") other.draw (one_command items c (codes "draw") has this)

-- ---- what a command asks for

with_one_other : (c f : Text) → IsOther c → with_one c f ≡ None
with_one_other c f other = rw (other.examine, other.solve, other.sample) refl

-- a budget for a command that takes none
within_other : (c f : Text) (budget : Option ℕ) → bytes_eq c (codes "solve") ≡ false → bytes_eq c (codes "sample") ≡ false → within_by c f budget ≡ None
within_other c f None not_solve not_sample = refl
within_other c f (Some n) not_solve not_sample = rw (not_solve, not_sample) refl

with_budget_other : (c f b : Text) → IsOther c → with_budget c f b ≡ None
with_budget_other c f b other = within_other c f (budget_of b) other.solve other.sample

with_two_other : (c f s : Text) → IsOther c → with_two c f s ≡ None
with_two_other c f s other = rw (other.check, other.draw) refl

solve_with_one : (f : Text) → with_one (codes "solve") f ≡ None → ⊥
solve_with_one f none = absurd cc

examine_with_one : (f : Text) → with_one (codes "examine") f ≡ None → ⊥
examine_with_one f none = absurd cc

check_with_two : (f s : Text) → with_two (codes "check") f s ≡ None → ⊥
check_with_two f s none = absurd cc

draw_with_two : (f s : Text) → with_two (codes "draw") f s ≡ None → ⊥
draw_with_two f s none = absurd cc

-- a budget that solves nothing is none
solved_none : (f : Text) (budget : Option ℕ) → within_by (codes "solve") f budget ≡ None → budget ≡ None
solved_none f None none = refl
solved_none f (Some n) none = absurd cc

-- and where nothing is sampled, there is no number of nodes or no budget
sampled_none : (nodes : Option ℕ) (most : ℕ) → sampled_by nodes most ≡ None → nodes ≡ None
sampled_none None most none = refl
sampled_none (Some n) most none = absurd cc

unsampled : (f : Text) (budget : Option ℕ) → within_by (codes "sample") f budget ≡ None → (budget ≡ None) ⊎ (nodes_of f ≡ None)
unsampled f None none = inl refl
unsampled f (Some n) none = inr (sampled_none (nodes_of f) n none)

no_sample : (f : Text) (budget : Option ℕ) → nodes_of f ≡ None → within_by (codes "sample") f budget ≡ None
no_sample f None none = refl
no_sample f (Some n) none = ap (λ (nodes : Option ℕ). sampled_by nodes n) none

-- ---- words that ask for nothing

later : (x y : Item) (items : List Item) → Contains items y → Contains (x ∷ items) y
later x y items c = (suc c.0, omega (arith, c.1), c.2)

useless : (items : List Item) → list_all is_useful items ≡ false → Contains items stray ⊎ Contains items unvalued
useless [] e = absurd (true≢false e)
useless (operand word ∷ items) e = elim (useless items e) [ inl c ↦ inl (later (operand word) stray items c) | inr c ↦ inr (later (operand word) unvalued items c) ]
useless (budget value ∷ items) e = elim (useless items e) [ inl c ↦ inl (later (budget value) stray items c) | inr c ↦ inr (later (budget value) unvalued items c) ]
useless (unvalued ∷ items) e = inr (0, omega arith, refl)
useless (stray ∷ items) e = inl (0, omega arith, refl)

module _ (items : List Item) where
  sized : (operands : List Text) → operands_of items ≡ operands → length (operands_of items) ≡ length operands
  sized operands e = ap (λ (l : List Text). length l) e

  module _ (c f : Text) where
    named : (more : List Text) (this : Text) → operands_of items ≡ c ∷ f ∷ more → c ≡ this → HasCommand items this
    named more this eo e = ap (λ (l : List Text). slice_get l 0) eo ∙ ap (λ (t : Text). Some t) e

    first_named : (more : List Text) → operands_of items ≡ c ∷ f ∷ more → HasFirst items f
    first_named more eo = ap (λ (l : List Text). slice_get l 1) eo

    none_named : (more : List Text) → operands_of items ≡ c ∷ f ∷ more → IsOther c → IsRefused items
    none_named more eo other = no_command (unknown items c (named more c eo refl) other)

    by_one : operands_of items ≡ c ∷ f ∷ [] → with_one c f ≡ None → Which c → IsRefused items
    by_one eo none (solves e) = absurd (solve_with_one f (subst (λ (t : Text). with_one t f ≡ None) e none))
    by_one eo none (samples e) =
        no_nodes f (named [] (codes "sample") eo e) (first_named [] eo) (sampled_none (nodes_of f) usual_budget (subst (λ (t : Text). with_one t f ≡ None) e none))
    by_one eo none (examines e) = absurd (examine_with_one f (subst (λ (t : Text). with_one t f ≡ None) e none))
    by_one eo none (checks e) = second_missing (inl (named [] (codes "check") eo e)) (sized (c ∷ f ∷ []) eo)
    by_one eo none (draws e) = second_missing (inr (named [] (codes "draw") eo e)) (sized (c ∷ f ∷ []) eo)
    by_one eo none (others other) = none_named [] eo other

    by_budget : (b : Text) → operands_of items ≡ c ∷ f ∷ [] → budgets_of items ≡ b ∷ [] → with_budget c f b ≡ None → 0 < length (budgets_of items) → Which c → IsRefused items
    by_budget b eo eb none some (solves e) =
        no_budget b (ap (λ (l : List Text). slice_get l 0) eb) (solved_none f (budget_of b) (subst (λ (t : Text). with_budget t f b ≡ None) e none))
    by_budget b eo eb none some (samples e) = elim (unsampled f (budget_of b) (subst (λ (t : Text). with_budget t f b ≡ None) e none)) [
      | inl no_number ↦ no_budget b (ap (λ (l : List Text). slice_get l 0) eb) no_number
      | inr no_number ↦ no_nodes f (named [] (codes "sample") eo e) (first_named [] eo) no_number
    ]
    by_budget b eo eb none some (examines e) = budget_given (inl (named [] (codes "examine") eo e)) some
    by_budget b eo eb none some (checks e) = budget_given (inr (inl (named [] (codes "check") eo e))) some
    by_budget b eo eb none some (draws e) = budget_given (inr (inr (named [] (codes "draw") eo e))) some
    by_budget b eo eb none some (others other) = none_named [] eo other

    by_two : (s : Text) → operands_of items ≡ c ∷ f ∷ s ∷ [] → with_two c f s ≡ None → Which c → IsRefused items
    by_two s eo none (solves e) = second_given (inl (inl (named (s ∷ []) (codes "solve") eo e))) (sized (c ∷ f ∷ s ∷ []) eo)
    by_two s eo none (samples e) = second_given (inl (inr (named (s ∷ []) (codes "sample") eo e))) (sized (c ∷ f ∷ s ∷ []) eo)
    by_two s eo none (examines e) = second_given (inr (named (s ∷ []) (codes "examine") eo e)) (sized (c ∷ f ∷ s ∷ []) eo)
    by_two s eo none (checks e) = absurd (check_with_two f s (subst (λ (t : Text). with_two t f s ≡ None) e none))
    by_two s eo none (draws e) = absurd (draw_with_two f s (subst (λ (t : Text). with_two t f s ≡ None) e none))
    by_two s eo none (others other) = none_named (s ∷ []) eo other

    by_both : (s : Text) → operands_of items ≡ c ∷ f ∷ s ∷ [] → 0 < length (budgets_of items) → Which c → IsRefused items
    by_both s eo some (solves e) = second_given (inl (inl (named (s ∷ []) (codes "solve") eo e))) (sized (c ∷ f ∷ s ∷ []) eo)
    by_both s eo some (samples e) = second_given (inl (inr (named (s ∷ []) (codes "sample") eo e))) (sized (c ∷ f ∷ s ∷ []) eo)
    by_both s eo some (examines e) = second_given (inr (named (s ∷ []) (codes "examine") eo e)) (sized (c ∷ f ∷ s ∷ []) eo)
    by_both s eo some (checks e) = budget_given (inr (inl (named (s ∷ []) (codes "check") eo e))) some
    by_both s eo some (draws e) = budget_given (inr (inr (named (s ∷ []) (codes "draw") eo e))) some
    by_both s eo some (others other) = none_named (s ∷ []) eo other

  refused_by : (operands budgets : List Text) → operands_of items ≡ operands → budgets_of items ≡ budgets → asked_by operands budgets ≡ None → IsRefused items
  refused_by [] budgets eo eb none = few_operands (omega (arith, sized [] eo))
  refused_by (c ∷ []) budgets eo eb none = few_operands (omega (arith, sized (c ∷ []) eo))
  refused_by (c ∷ f ∷ []) [] eo eb none = by_one c f eo none (which c)
  refused_by (c ∷ f ∷ []) (b ∷ []) eo eb none = by_budget c f b eo eb none (subst (λ (l : List Text). 0 < length l) (sym eb) (omega arith)) (which c)
  refused_by (c ∷ f ∷ []) (a ∷ b ∷ more) eo eb none = two_budgets (subst (λ (l : List Text). 1 < length l) (sym eb) (omega arith))
  refused_by (c ∷ f ∷ s ∷ []) [] eo eb none = by_two c f s eo none (which c)
  refused_by (c ∷ f ∷ s ∷ []) (b ∷ more) eo eb none = by_both c f s eo (subst (λ (l : List Text). 0 < length l) (sym eb) (omega arith)) (which c)
  refused_by (c ∷ f ∷ s ∷ x ∷ rest) budgets eo eb none = many_operands (omega (arith, sized (c ∷ f ∷ s ∷ x ∷ rest) eo))

  is_refused : request_by items ≡ None → IsRefused items
  is_refused none = elim (cases_Bool (list_all is_useful items)) [
    | inl useful ↦
        let asked : request_by items ≡ asked_by (operands_of items) (budgets_of items) = rw useful refl in
        refused_by (operands_of items) (budgets_of items) refl refl (sym asked ∙ none)
    | inr not_useful ↦ elim (useless items not_useful) [ inl c ↦ stray_word c | inr c ↦ no_value c ]
  ]

-- ---- what is wrong with words

contained : (items : List Item) (x : Item) → is_useful x ≡ false → Contains items x → list_all is_useful items ≡ false
contained [] x e c = absurd (omega (arith, c.1))
contained (i ∷ items) x e (zero, lt, at) = let here : is_useful i ≡ false = ap is_useful at ∙ e in rw here refl
contained (i ∷ items) x e (suc k, lt, at) = and_right (is_useful i) (list_all is_useful items) (contained items x e (k, omega arith, at))

module _ (items : List Item) where
  by_useless : list_all is_useful items ≡ false → request_by items ≡ None
  by_useless e = rw e refl

  -- operands and budgets show it
  by_asked : asked_by (operands_of items) (budgets_of items) ≡ None → request_by items ≡ None
  by_asked none = nothing_by items (operands_of items) (budgets_of items) refl refl none

  is_other : (c : Text) → HasCommand items c → ¬ (TakesOne items ⊎ TakesTwo items) → IsOther c
  is_other c has not_known = go (which c)
    where
      renamed : (this : Text) → c ≡ this → HasCommand items this
      renamed this e = has ∙ ap (λ (t : Text). Some t) e

      go : Which c → IsOther c
      go (solves e) = absurd (not_known (inl (inl (inl (renamed (codes "solve") e)))))
      go (samples e) = absurd (not_known (inl (inl (inr (renamed (codes "sample") e)))))
      go (examines e) = absurd (not_known (inl (inr (renamed (codes "examine") e))))
      go (checks e) = absurd (not_known (inr (inl (renamed (codes "check") e))))
      go (draws e) = absurd (not_known (inr (inr (renamed (codes "draw") e))))
      go (others other) = other

  by_unknown : (operands budgets : List Text) → operands_of items ≡ operands → ¬ (TakesOne items ⊎ TakesTwo items) → asked_by operands budgets ≡ None
  by_unknown [] budgets eo not_known = refl
  by_unknown (c ∷ []) budgets eo not_known = refl
  by_unknown (c ∷ f ∷ []) [] eo not_known = with_one_other c f (is_other c (ap (λ (l : List Text). slice_get l 0) eo) not_known)
  by_unknown (c ∷ f ∷ []) (b ∷ []) eo not_known = with_budget_other c f b (is_other c (ap (λ (l : List Text). slice_get l 0) eo) not_known)
  by_unknown (c ∷ f ∷ []) (a ∷ b ∷ more) eo not_known = refl
  by_unknown (c ∷ f ∷ s ∷ []) [] eo not_known = with_two_other c f s (is_other c (ap (λ (l : List Text). slice_get l 0) eo) not_known)
  by_unknown (c ∷ f ∷ s ∷ []) (b ∷ more) eo not_known = refl
  by_unknown (c ∷ f ∷ s ∷ x ∷ rest) budgets eo not_known = refl

  -- the command in front of other operands
  is_this : (c this : Text) (more : List Text) → operands_of items ≡ c ∷ more → HasCommand items this → c ≡ this
  is_this c this more eo has = one_command items c this (ap (λ (l : List Text). slice_get l 0) eo) has

  no_budget_for : (c f b this : Text) → operands_of items ≡ c ∷ f ∷ [] → HasCommand items this → bytes_eq this (codes "solve") ≡ false → bytes_eq this (codes "sample") ≡ false → with_budget c f b ≡ None
  no_budget_for c f b this eo has not_solve not_sample =
      ap (λ (t : Text). with_budget t f b) (is_this c this (f ∷ []) eo has) ∙ within_other this f (budget_of b) not_solve not_sample

  by_second : (operands budgets : List Text) → operands_of items ≡ operands → TakesOne items → length operands ≡ 3 → asked_by operands budgets ≡ None
  by_second [] budgets eo one three = refl
  by_second (c ∷ []) budgets eo one three = refl
  by_second (c ∷ f ∷ []) budgets eo one three = absurd (omega arith)
  by_second (c ∷ f ∷ s ∷ []) [] eo (inl (inr sample)) three = ap (λ (t : Text). with_two t f s) (is_this c (codes "sample") (f ∷ s ∷ []) eo sample)
  by_second (c ∷ f ∷ s ∷ []) [] eo (inl (inl solve)) three = ap (λ (t : Text). with_two t f s) (is_this c (codes "solve") (f ∷ s ∷ []) eo solve)
  by_second (c ∷ f ∷ s ∷ []) [] eo (inr examine) three = ap (λ (t : Text). with_two t f s) (is_this c (codes "examine") (f ∷ s ∷ []) eo examine)
  by_second (c ∷ f ∷ s ∷ []) (b ∷ more) eo one three = refl
  by_second (c ∷ f ∷ s ∷ x ∷ more) budgets eo one three = refl

  by_missing : (operands budgets : List Text) → operands_of items ≡ operands → TakesTwo items → length operands ≡ 2 → asked_by operands budgets ≡ None
  by_missing [] budgets eo two_files two = refl
  by_missing (c ∷ []) budgets eo two_files two = refl
  by_missing (c ∷ f ∷ []) [] eo (inl check) two = ap (λ (t : Text). with_one t f) (is_this c (codes "check") (f ∷ []) eo check)
  by_missing (c ∷ f ∷ []) [] eo (inr draw) two = ap (λ (t : Text). with_one t f) (is_this c (codes "draw") (f ∷ []) eo draw)
  by_missing (c ∷ f ∷ []) (b ∷ []) eo (inl check) two = no_budget_for c f b (codes "check") eo check refl refl
  by_missing (c ∷ f ∷ []) (b ∷ []) eo (inr draw) two = no_budget_for c f b (codes "draw") eo draw refl refl
  by_missing (c ∷ f ∷ []) (a ∷ b ∷ more) eo two_files two = refl
  by_missing (c ∷ f ∷ s ∷ more) budgets eo two_files two = absurd (omega arith)

  by_given : (operands budgets : List Text) → operands_of items ≡ operands → TakesNoBudget items → 0 < length budgets → asked_by operands budgets ≡ None
  by_given operands [] eo known some = absurd (omega arith)
  by_given operands (a ∷ b ∷ more) eo known some = twice_ask_nothing operands (a ∷ b ∷ more) (omega arith)
  by_given [] (b ∷ []) eo known some = refl
  by_given (c ∷ []) (b ∷ []) eo known some = refl
  by_given (c ∷ f ∷ []) (b ∷ []) eo (inl examine) some = no_budget_for c f b (codes "examine") eo examine refl refl
  by_given (c ∷ f ∷ []) (b ∷ []) eo (inr (inl check)) some = no_budget_for c f b (codes "check") eo check refl refl
  by_given (c ∷ f ∷ []) (b ∷ []) eo (inr (inr draw)) some = no_budget_for c f b (codes "draw") eo draw refl refl
  by_given (c ∷ f ∷ s ∷ []) (b ∷ []) eo known some = refl
  by_given (c ∷ f ∷ s ∷ x ∷ rest) (b ∷ []) eo known some = refl

  by_unspelled : (budgets : List Text) (word : Text) → slice_get budgets 0 ≡ Some word → budget_of word ≡ None → asked_by (operands_of items) budgets ≡ None
  by_unspelled [] word has none = absurd cc
  by_unspelled (b ∷ more) word has none =
      let is : word ≡ b = cc in
      unspelled_ask_nothing (operands_of items) b more (subst (λ (w : Text). budget_of w ≡ None) is none)

  by_nodes : (operands budgets : List Text) (word : Text) → operands_of items ≡ operands → HasCommand items (codes "sample") → slice_get operands 1 ≡ Some word → nodes_of word ≡ None → asked_by operands budgets ≡ None
  by_nodes [] budgets word eo sample first none = refl
  by_nodes (c ∷ []) budgets word eo sample first none = refl
  by_nodes (c ∷ f ∷ []) [] word eo sample first none =
      let is : f ≡ word = cc in
      ap (λ (t : Text). with_one t f) (is_this c (codes "sample") (f ∷ []) eo sample) ∙ ap (λ (nodes : Option ℕ). sampled_by nodes usual_budget) (ap nodes_of is ∙ none)
  by_nodes (c ∷ f ∷ []) (b ∷ []) word eo sample first none =
      let is : f ≡ word = cc in
      ap (λ (t : Text). with_budget t f b) (is_this c (codes "sample") (f ∷ []) eo sample) ∙ no_sample f (budget_of b) (ap nodes_of is ∙ none)
  by_nodes (c ∷ f ∷ []) (a ∷ b ∷ more) word eo sample first none = refl
  by_nodes (c ∷ f ∷ s ∷ []) [] word eo sample first none = ap (λ (t : Text). with_two t f s) (is_this c (codes "sample") (f ∷ s ∷ []) eo sample)
  by_nodes (c ∷ f ∷ s ∷ []) (b ∷ more) word eo sample first none = refl
  by_nodes (c ∷ f ∷ s ∷ x ∷ more) budgets word eo sample first none = refl

  asks_nothing : IsRefused items → request_by items ≡ None
  asks_nothing (stray_word c) = by_useless (contained items stray refl c)
  asks_nothing (no_value c) = by_useless (contained items unvalued refl c)
  asks_nothing (two_budgets more) = by_asked (twice_ask_nothing (operands_of items) (budgets_of items) more)
  asks_nothing (few_operands few) = by_asked (few_ask_nothing (operands_of items) (budgets_of items) few)
  asks_nothing (many_operands many) = by_asked (many_ask_nothing (operands_of items) (budgets_of items) many)
  asks_nothing (no_command not_known) = by_asked (by_unknown (operands_of items) (budgets_of items) refl not_known)
  asks_nothing (second_given one three) = by_asked (by_second (operands_of items) (budgets_of items) refl one three)
  asks_nothing (second_missing two_files two) = by_asked (by_missing (operands_of items) (budgets_of items) refl two_files two)
  asks_nothing (budget_given known some) = by_asked (by_given (operands_of items) (budgets_of items) refl known some)
  asks_nothing (no_budget word has none) = by_asked (by_unspelled (budgets_of items) word has none)
  asks_nothing (no_nodes word sample first none) = by_asked (by_nodes (operands_of items) (budgets_of items) word refl sample first none)

pub refused_exactly : RefusedExactly
refused_exactly words = (is_refused (items_of (after_name words)), asks_nothing (items_of (after_name words)))
