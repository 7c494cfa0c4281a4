-- The nodes of a round: a proof or the beginning of one, and how many they are.
use Rattle.std.proofs.Common.{◌≡◌, ℕ, zero, suc, ◌+◌, ◌-◌, ◌*◌, ◌≤◌, inl, inr, List, [], ◌∷◌, ◌++◌, length, refl, sym, ap, subst, arith}
use Rattle.std.specs.Prelude.{All}
use Rattle.std.proofs.lemmas.List.Elements.{All-append, All-cons, All-head, All-nil, All-tail}
use Rattle.std.proofs.lemmas.Bool.{cases_lt}
use Rattle.xn_model.specs.Graph.{Graph, pair_count_of}
use Rattle.xn_model.specs.Limit.{limit_up_to}
use Rattle.xn_model.specs.Lists.{total}
use Rattle.xn_kinds.specs.Laws.{ChildrenAreStates, EmptyIsState}
use Rattle.xn_kinds.specs.State.{State, IsState, empty_state}
use Rattle.xn_kinds.specs.Tree.{AreTrees, MayOpen, BeginTrees, children}
use Rattle.xn_kinds.specs.declared.rows.Row.{Row}
use Rattle.xn_kinds.specs.declared.trees.Node.{Node}
use Rattle.xn_effort.specs.Laws.{FinishedRoundsProve, OneMoreIsOpened, OpenRoundsBegin, OpeningLowers, PendingAreStates, RootIsLimit, RoundsAreLimited, RoundsEnd, ShownRoundsAreBelow, ShownRoundsAreWithin}
use Rattle.xn_effort.specs.Leads.{LeadOn, Searches}
use Rattle.xn_effort.specs.Potential.{ones_in, undecided_in, potential, unplaced_in}
use Rattle.xn_effort.proofs.Powers.{potential_positive}

-- ---- nodes that lead on

module _ (keeps : State → Node → Type 0) where
  leads_more : (nodes : List Node) (pending : List State) (s : State) (left : List State) (node : Node) → LeadOn keeps children pending nodes (s ∷ left) →
      keeps s node → LeadOn keeps children pending (nodes ++ node ∷ []) (children s node ++ left)
  leads_more [] pending s left node leads holds = subst (λ p. LeadOn keeps children p (node ∷ []) (children s node ++ left)) (sym leads) (holds, refl)
  leads_more (n ∷ nodes) [] s left node leads holds = absurd leads
  leads_more (n ∷ nodes) (x ∷ pending) s left node leads holds = (leads.0, leads_more nodes (children x n ++ pending) s left node leads.1 holds)

module _ (keeps less : State → Node → Type 0) (weaker : (s : State) (node : Node) → keeps s node → less s node) where
  pub leads_are_trees : (nodes : List Node) (pending : List State) → LeadOn keeps children pending nodes [] → AreTrees less children pending nodes
  leads_are_trees [] [] leads = tt
  leads_are_trees [] (s ∷ pending) leads = absurd cc
  leads_are_trees (node ∷ nodes) [] leads = absurd leads
  leads_are_trees (node ∷ nodes) (s ∷ pending) leads = (weaker s node leads.0, leads_are_trees nodes (children s node ++ pending) leads.1)

  pub leads_begin_trees : (nodes : List Node) (pending : List State) (s : State) (left : List State) → LeadOn keeps children pending nodes (s ∷ left) → BeginTrees less children pending nodes
  leads_begin_trees [] [] s left leads = absurd cc
  leads_begin_trees [] (x ∷ pending) s left leads = tt
  leads_begin_trees (node ∷ nodes) [] s left leads = absurd leads
  leads_begin_trees (node ∷ nodes) (x ∷ pending) s left leads = (weaker x node leads.0, leads_begin_trees nodes (children x node ++ pending) s left leads.1)

  pub leads_weaker : (nodes : List Node) (pending left : List State) → LeadOn keeps children pending nodes left → LeadOn less children pending nodes left
  leads_weaker [] pending left leads = leads
  leads_weaker (node ∷ nodes) [] left leads = absurd leads
  leads_weaker (node ∷ nodes) (s ∷ pending) left leads = (weaker s node leads.0, leads_weaker nodes (children s node ++ pending) left leads.1)

  pub trees_weaker : (nodes : List Node) (pending : List State) → AreTrees keeps children pending nodes → AreTrees less children pending nodes
  trees_weaker [] [] ends = tt
  trees_weaker [] (s ∷ pending) ends = absurd ends
  trees_weaker (node ∷ nodes) [] ends = absurd ends
  trees_weaker (node ∷ nodes) (s ∷ pending) ends = (weaker s node ends.0, trees_weaker nodes (children s node ++ pending) ends.1)

  pub beginnings_weaker : (nodes : List Node) (pending : List State) → BeginTrees keeps children pending nodes → BeginTrees less children pending nodes
  beginnings_weaker [] [] opens = absurd opens
  beginnings_weaker [] (s ∷ pending) opens = tt
  beginnings_weaker (node ∷ nodes) [] opens = absurd opens
  beginnings_weaker (node ∷ nodes) (s ∷ pending) opens = (weaker s node opens.0, beginnings_weaker nodes (children s node ++ pending) opens.1)

pub one_more_is_opened : OneMoreIsOpened
one_more_is_opened g t rows nodes s left node leads searches = leads_more (Searches g t rows) nodes (empty_state ∷ []) s left node leads searches

pub finished_rounds_prove : FinishedRoundsProve
finished_rounds_prove g t rows nodes leads = leads_are_trees (Searches g t rows) (MayOpen g t rows) (λ s node h. h.0) nodes (empty_state ∷ []) leads

pub open_rounds_begin : OpenRoundsBegin
open_rounds_begin g t rows nodes s left leads = leads_begin_trees (Searches g t rows) (MayOpen g t rows) (λ x node h. h.0) nodes (empty_state ∷ []) s left leads

-- ---- the states that are pending

module _ (step : ChildrenAreStates) (g : Graph) (t : ℕ) (rows : List Row) where
  all_states : (nodes : List Node) (pending left : List State) → All (IsState g) pending → LeadOn (Searches g t rows) children pending nodes left → All (IsState g) left
  all_states [] pending left states leads = subst (All (IsState g)) leads states
  all_states (node ∷ nodes) [] left states leads = absurd leads
  all_states (node ∷ nodes) (s ∷ pending) left states leads =
      all_states nodes (children s node ++ pending) left
      (All-append (IsState g) (children s node) pending (step g t rows s node (All-head (IsState g) s pending states) leads.0.0) (All-tail (IsState g) s pending states)) leads.1

  module _ (lowers : OpeningLowers) (positive : 1 ≤ t) where
    total-append : (xs ys : List State) → total (potential g t) (xs ++ ys) ≡ total (potential g t) xs + total (potential g t) ys
    total-append [] ys = omega arith
    total-append (x ∷ xs) ys = omega (arith, total-append xs ys)

    counted : (nodes : List Node) (pending left : List State) → All (IsState g) pending → LeadOn (Searches g t rows) children pending nodes left →
        length nodes + total (potential g t) left ≤ total (potential g t) pending
    counted [] pending left states leads = omega (arith, ap (total (potential g t)) leads)
    counted (node ∷ nodes) [] left states leads = absurd leads
    counted (node ∷ nodes) (s ∷ pending) left states leads =
        let here = All-head (IsState g) s pending states in
        let rest = counted nodes (children s node ++ pending) left
        (All-append (IsState g) (children s node) pending (step g t rows s node here leads.0.0) (All-tail (IsState g) s pending states)) leads.1 in
        omega (arith, rest, total-append (children s node) pending, lowers g t rows s node positive here leads.0)

    each_counts : (left : List State) → length left ≤ total (potential g t) left
    each_counts [] = omega arith
    each_counts (s ∷ left) =
        omega (arith, each_counts left, potential_positive t (undecided_in g s) (t - ones_in g s) (unplaced_in g s + 2 * (t - ones_in g s)) positive)

only_empty : EmptyIsState → (g : Graph) → All (IsState g) (empty_state ∷ [])
only_empty empty g = All-cons (IsState g) empty_state [] (empty g) (All-nil (IsState g))

pub pending_are_states : EmptyIsState → ChildrenAreStates → PendingAreStates
pending_are_states empty step g t rows nodes s left leads =
    All-head (IsState g) s left (all_states step g t rows nodes (empty_state ∷ []) (s ∷ left) (only_empty empty g) leads)

pub rounds_are_limited : EmptyIsState → ChildrenAreStates → RootIsLimit → OpeningLowers → RoundsAreLimited
rounds_are_limited empty step root lowers g t rows nodes left positive leads =
    omega (arith, counted step g t rows lowers positive nodes (empty_state ∷ []) left (only_empty empty g) leads, root g t)

pub rounds_end : EmptyIsState → ChildrenAreStates → RootIsLimit → OpeningLowers → RoundsEnd
rounds_end empty step root lowers g t rows nodes left positive leads =
    omega (arith, rounds_are_limited empty step root lowers g t rows nodes left positive leads, each_counts step g t rows lowers positive left)

-- ---- all rounds

limits_rise : (p j k : ℕ) → j ≤ k → limit_up_to p j ≤ limit_up_to p k
limits_rise p j zero few = let none : j ≡ 0 = omega (arith, few) in omega (arith, ap (limit_up_to p) none)
limits_rise p j (suc k) few = elim (cases_lt j (suc k)) [
  | inl less ↦ omega (arith, limits_rise p j k (omega (arith, less)))
  | inr more ↦ let same : j ≡ suc k = omega (arith, few, more) in omega (arith, ap (limit_up_to p) same)
]

pub shown_rounds_are_within : ShownRoundsAreWithin
shown_rounds_are_within g k n least few c drawn =
    omega (arith, few, limits_rise (pair_count_of g) (suc k) (suc c) (omega (arith, least c drawn)))

pub shown_rounds_are_below : ShownRoundsAreBelow
shown_rounds_are_below g k n least few c drawn =
    omega (arith, few, limits_rise (pair_count_of g) (suc k) (suc c) (omega (arith, least c drawn)))
