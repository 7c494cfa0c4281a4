-- One round more of a search, and its ends.
use Rattle.std.proofs.Common.{◌≡◌, ℕ, suc, ◌+◌, ◌-◌, ◌<◌, ◌≤◌, inl, inr, List, [], ◌∷◌, ◌++◌, length, refl, sym, ◌∙◌, ap, subst, arith, length-append}
use Rattle.std.specs.Prelude.{All, max, slice_index_or}
use Rattle.std.proofs.lemmas.Bool.{cases_eq}
use Rattle.std.proofs.lemmas.List.{get_or_append_left}
use Rattle.std.proofs.Math.Seq.{get_or-append_seam}
use Rattle.xn_model.specs.Drawing.{IsAtLeast, order_of}
use Rattle.xn_model.specs.Graph.{Graph, IsGraph, pair_count_of}
use Rattle.xn_model.specs.Limit.{limit_up_to}
use Rattle.xn_model.specs.Lists.{at, total}
use Rattle.xn_kinds.specs.Row.{RowHolds}
use Rattle.xn_kinds.specs.State.{State, empty_state}
use Rattle.xn_kinds.specs.Tree.{BeginsProof, Proves}
use Rattle.xn_kinds.specs.declared.rows.Row.{Row}
use Rattle.xn_kinds.specs.declared.trees.Node.{Node}
use Rattle.xn_effort.specs.Laws.{FinishedRoundsProve, MoreRowsKeepProofs, OpenRoundsBegin, RoundsEnd, ShownRoundsAreBelow, ShownRoundsAreWithin}
use Rattle.xn_effort.specs.Leads.{HasOpened}
use Rattle.xn_general.specs.Bounds.{SimpleDrawingsAreDrawings}
use Rattle.xn_sound.specs.Laws.{AcceptedProofsBound}
use Rattle.xn_search.specs.Choice.{GrowsTo, IsCountedDrawing}
use Rattle.xn_search.specs.Rounds.{EndsAs, IsOpen}
use Rattle.xn_search.specs.Search.{IsSearch, ProveInTurn}
use Rattle.xn_search.specs.declared.decisions.Drawn.{Drawn}
use Rattle.xn_search.specs.declared.round.End.{End}
use Rattle.xn_search.specs.declared.searches.Searched.{Searched}

-- the laws that a search stands on
pub record Known : Type 0 where
  pub prove : FinishedRoundsProve
  pub begin : OpenRoundsBegin
  pub end : RoundsEnd
  pub within : ShownRoundsAreWithin
  pub below : ShownRoundsAreBelow
  pub proofs : MoreRowsKeepProofs
  pub drawings : SimpleDrawingsAreDrawings
  pub bound : AcceptedProofsBound

-- the rounds before the next one
pub record Sofar (g : Graph) (budget lower spent : ℕ) (rows : List Row) (rounds : List (List Node)) : Type 0 where
  pub rows_hold : All (RowHolds g) rows
  pub few : length rows ≤ 800000 + spent
  pub count : length rounds ≡ lower
  pub rounds_prove : ProveInTurn g rows rounds
  pub least : IsAtLeast g lower
  pub spent_is : spent ≡ total length rounds
  pub limit : spent ≤ limit_up_to (pair_count_of g) lower
  pub in_budget : spent ≤ budget

pub nothing_yet : (g : Graph) (budget : ℕ) → Sofar g budget 0 0 [] []
nothing_yet g budget = record {
  rows_hold = λ i d small. absurd (omega (arith, small));
  few = omega arith;
  count = refl;
  rounds_prove = λ i small. absurd (omega (arith, small));
  least = λ c drawing. omega arith;
  spent_is = refl;
  limit = omega arith;
  in_budget = omega arith;
}

total-push : (rounds : List (List Node)) (nodes : List Node) → total length (rounds ++ nodes ∷ []) ≡ total length rounds + length nodes
total-push [] nodes = omega arith
total-push (r ∷ rounds) nodes = omega (arith, total-push rounds nodes)

module _ (known : Known) (g : Graph) (is_graph : IsGraph g) (budget lower spent : ℕ) (first rows : List Row) (rounds : List (List Node)) (so : Sofar g budget lower spent first rounds)
    (extends : GrowsTo first rows) (hold : All (RowHolds g) rows) where
  -- the rounds stand with more rows
  prove_still : ProveInTurn g rows rounds
  prove_still i small = subst (λ rs. Proves g (suc i) rs empty_state (slice_index_or rounds i [])) (sym extends.1)
      (known.proofs g (suc i) first extends.0 (slice_index_or rounds i []) empty_state (so.rounds_prove i small))

  -- a round that was opened costs no more than its limit
  module _ (nodes : List Node) (left : List State) (opened : HasOpened g (suc lower) rows nodes left) where
    round_limit : spent + (length nodes + length left) ≤ limit_up_to (pair_count_of g) (suc lower)
    round_limit = omega (arith, so.limit, known.end g (suc lower) rows nodes left (omega arith) opened)

  -- one round more
  module _ (nodes : List Node) (opened : HasOpened g (suc lower) rows nodes []) where
    in_turn : ProveInTurn g rows (rounds ++ nodes ∷ [])
    in_turn i small = elim (cases_eq i (length rounds)) [
      | inl last ↦
          let is : slice_index_or (rounds ++ nodes ∷ []) i [] ≡ nodes = ap (λ n. slice_index_or (rounds ++ nodes ∷ []) n []) last ∙ get_or-append_seam rounds nodes [] [] in
          let proves = known.prove g (suc lower) rows nodes opened in
          let here : suc lower ≡ suc i = omega (arith, last, so.count) in
          subst (λ ns. Proves g (suc i) rows empty_state ns) (sym is) (subst (λ k. Proves g k rows empty_state nodes) here proves)
      | inr before ↦
          let below : i < length rounds = omega (arith, small, before, length-append rounds (nodes ∷ [])) in
          let is : slice_index_or (rounds ++ nodes ∷ []) i [] ≡ slice_index_or rounds i [] = get_or_append_left rounds (nodes ∷ []) [] i below in
          subst (λ ns. Proves g (suc i) rows empty_state ns) (sym is) (prove_still i below)
    ]

    pub one_round_more : (cost : ℕ) → cost ≡ length nodes → spent + cost ≤ budget → length rows ≤ max (length first) 800000 + cost →
        Sofar g budget (suc lower) (spent + cost) rows (rounds ++ nodes ∷ [])
    one_round_more cost is enough few = record {
      rows_hold = hold;
      few = omega (arith, few, so.few);
      count = omega (arith, so.count, length-append rounds (nodes ∷ []));
      rounds_prove = in_turn;
      least = known.bound g (suc lower) rows nodes is_graph (record { rows_hold = hold; tree = known.prove g (suc lower) rows nodes opened });
      spent_is = omega (arith, is, so.spent_is, total-push rounds nodes);
      limit = omega (arith, is, round_limit nodes [] opened);
      in_budget = enough;
    }

  -- ---- the ends

  module _ (nodes : List Node) (open_round : IsOpen g (suc lower) rows nodes) where
    opened_limit : spent + suc (length nodes) ≤ limit_up_to (pair_count_of g) (suc lower)
    opened_limit = omega (arith, round_limit nodes (open_round.0 ∷ open_round.1) open_round.2)

    begins : BeginsProof g (suc lower) rows nodes
    begins = known.begin g (suc lower) rows nodes open_round.0 open_round.1 open_round.2

    -- the budget is spent
    pub spent_all : (drawn : Drawn) → IsCountedDrawing g drawn → lower < drawn.crossings → (cost : ℕ) → cost ≡ length nodes → cost ≡ budget - spent → length rows ≤ max (length first) 800000 + cost →
        (r : Searched) → r ≡ record { drawn = drawn; lower = lower; spent = spent + cost; rows = rows; rounds = rounds; unfinished = nodes } → IsSearch g budget r
    spent_all drawn is_drawn less cost is all few_more r made =
        let few_in_all : length rows ≤ 800000 + (spent + cost) = omega (arith, few_more, so.few) in
        let whole : spent + cost ≡ budget = omega (arith, all, so.in_budget) in
        let done : IsSearch g budget (record { drawn = drawn; lower = lower; spent = spent + cost; rows = rows; rounds = rounds; unfinished = nodes }) = record {
          drawn = is_drawn;
          at_most = omega (arith, less);
          least = so.least;
          rows_hold = hold;
          few_rows = few_in_all;
          count = so.count;
          rounds = prove_still;
          unfinished = begins;
          spent = inl (omega (arith, is, so.spent_is));
          in_budget = omega (arith, whole);
          within = known.within g lower (spent + cost) so.least (omega (arith, is, opened_limit));
          undecided = λ low. (whole, known.below g lower budget so.least (omega (arith, whole, is, opened_limit)));
        } in
        subst (IsSearch g budget) (sym made) done

    -- the last state has a drawing, with no more crossings than are proved
    pub found_one : (drawn : Drawn) → IsCountedDrawing g drawn → drawn.crossings < suc lower → (cost : ℕ) → cost ≡ suc (length nodes) → spent + cost ≤ budget → length rows ≤ max (length first) 800000 + cost →
        (r : Searched) → r ≡ record { drawn = drawn; lower = lower; spent = spent + cost; rows = rows; rounds = rounds; unfinished = nodes } → IsSearch g budget r
    found_one drawn is_drawn few cost is enough few_more r made =
        let few_in_all : length rows ≤ 800000 + (spent + cost) = omega (arith, few_more, so.few) in
        let proved : lower ≤ drawn.crossings = so.least drawn.crossings (known.drawings g drawn.crossings is_graph (order_of g drawn.drawing.orders, at drawn.drawing.next, is_drawn.drawing.drawing, sym is_drawn.count)) in
        let done : IsSearch g budget (record { drawn = drawn; lower = lower; spent = spent + cost; rows = rows; rounds = rounds; unfinished = nodes }) = record {
          drawn = is_drawn;
          at_most = proved;
          least = so.least;
          rows_hold = hold;
          few_rows = few_in_all;
          count = so.count;
          rounds = prove_still;
          unfinished = begins;
          spent = inr (omega (arith, is, so.spent_is), omega (arith, proved, few));
          in_budget = enough;
          within = known.within g lower (spent + cost) so.least (omega (arith, is, opened_limit));
          undecided = λ low. absurd (omega (arith, low, few));
        } in
        subst (IsSearch g budget) (sym made) done

-- all crossings of the drawing are proved
pub all_proved : Known → (g : Graph) (budget lower spent : ℕ) (rows : List Row) (rounds : List (List Node)) → Sofar g budget lower spent rows rounds →
    (drawn : Drawn) → IsCountedDrawing g drawn → lower ≡ drawn.crossings →
    (r : Searched) (none : List Node) → none ≡ [] → r ≡ record { drawn = drawn; lower = lower; spent = spent; rows = rows; rounds = rounds; unfinished = none } → IsSearch g budget r
all_proved known g budget lower spent rows rounds so drawn is_drawn all r none is_none made =
    let with : List Node → Searched = λ u. record { drawn = drawn; lower = lower; spent = spent; rows = rows; rounds = rounds; unfinished = u } in
    let done : IsSearch g budget (with []) = record {
      drawn = is_drawn;
      at_most = omega (arith, all);
      least = so.least;
      rows_hold = so.rows_hold;
      few_rows = so.few;
      count = so.count;
      rounds = so.rounds_prove;
      unfinished = tt;
      spent = inl (omega (arith, so.spent_is));
      in_budget = so.in_budget;
      within = known.within g lower spent so.least (omega (arith, so.limit));
      undecided = λ low. absurd (omega (arith, low, all));
    } in
    subst (IsSearch g budget) (sym (made ∙ ap with is_none)) done

-- before the first round nothing is spent
pub nothing_spent : (g : Graph) (budget lower spent : ℕ) (rows : List Row) (rounds : List (List Node)) → Sofar g budget lower spent rows rounds → lower ≡ 0 → spent ≡ 0
nothing_spent g budget lower spent rows rounds so none =
    let limit : limit_up_to (pair_count_of g) lower ≡ 0 = ap (limit_up_to (pair_count_of g)) none in
    omega (arith, so.limit, limit)

-- these laws together
pub knows : FinishedRoundsProve → OpenRoundsBegin → RoundsEnd → ShownRoundsAreWithin → ShownRoundsAreBelow → MoreRowsKeepProofs → SimpleDrawingsAreDrawings → AcceptedProofsBound → Known
knows prove begin end within below proofs drawings bound =
    record { prove = prove; begin = begin; end = end; within = within; below = below; proofs = proofs; drawings = drawings; bound = bound }

-- the end of a round, by the next number, for a tree of its nodes
pub ends_next : (g : Graph) (lower left : ℕ) (rows : List Row) (nodes tree : List Node) (cost : ℕ) (end is : End) → tree ≡ nodes → end ≡ is →
    EndsAs g (lower + 1) left rows nodes cost end → EndsAs g (suc lower) left rows tree cost is
ends_next g lower left rows nodes tree cost end is same_nodes same_end ends =
    let next : lower + 1 ≡ suc lower = omega arith in
    subst (λ t. EndsAs g t left rows tree cost is) next
    (subst (λ ns. EndsAs g (lower + 1) left rows ns cost is) (sym same_nodes) (subst (EndsAs g (lower + 1) left rows nodes cost) same_end ends))
