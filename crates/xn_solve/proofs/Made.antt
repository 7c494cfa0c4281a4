-- The answer made of what was found proves what it says.
use Rattle.std.proofs.Common.{◌≡◌, ℕ, ◌<◌, ◌≤◌, ◌^◌, inl, inr, refl, sym, subst, arith}
use Rattle.std.proofs.lemmas.Bool.{cases_lt}
use Rattle.xn_model.specs.Drawing.{HasDrawingWith, order_of}
use Rattle.xn_model.specs.Graph.{Graph, pair_count_of}
use Rattle.xn_model.specs.Limit.{node_limit}
use Rattle.xn_model.specs.Lists.{at}
use Rattle.xn_graph.specs.Limits.{IsLimitedGraph}
use Rattle.xn_kinds.specs.declared.answers.Answer.{Answer}
use Rattle.xn_general.specs.Bounds.{SimpleDrawingsAreDrawings}
use Rattle.xn_sound.specs.Laws.{AcceptedProofsBound}
use Rattle.xn_search.specs.Solved.{IsSolved, crossings_of}
use Rattle.xn_search.specs.declared.solved.Solved.{Solved}
use Rattle.xn_answers.specs.Proved.{IsLimitedAnswer, IsProved, ProvedAnswersAreWellFormed}
use Rattle.xn_solve.specs.Answers.{Bounds, DecidesFromLimit, HasWellFormedAnswers, answer_made}

not_below : (a b : ℕ) → a < b → b ≤ a → ⊥
not_below a b below above = omega (arith, below, above)

-- with any graph and any upper bound in it
abbrev answer_with : Graph → ℕ → ℕ → ℕ → Solved → Answer
answer_with g loops upper budget r = record (answer_made g loops budget r) { graph = g; upper = upper }

-- what holds of the answer made holds of one with a copy of the graph and the number of crossings
pub of_made : (P : Answer → Type 0) (g copy : Graph) (loops upper budget : ℕ) (r : Solved) → copy ≡ g → upper ≡ crossings_of g r →
    P (answer_made g loops budget r) → P (answer_with copy loops upper budget r)
of_made P g copy loops upper budget r copy_is upper_is holds =
    subst (λ (h : Graph). P (answer_with h loops upper budget r)) (sym copy_is) (subst (λ n. P (answer_with g loops n budget r)) (sym upper_is) holds)

module _ (g : Graph) (budget : ℕ) (r : Solved) (limited : IsLimitedGraph g) (small : budget ≤ 200000) (solved : IsSolved g budget r) where
  pub made_is_limited : (loops : ℕ) → loops < 2 ^ 64 → IsLimitedAnswer (answer_made g loops budget r)
  made_is_limited loops loops_small = record {
    graph = limited;
    loops = loops_small;
    few_rows = omega (arith, solved.few_rows, solved.in_budget, small);
    in_budget = solved.in_budget;
    budget = small;
  }

  pub made_is_proved : (loops : ℕ) → IsProved (answer_made g loops budget r)
  made_is_proved loops = record {
    drawing = solved.drawing;
    crossings = refl;
    accepted = solved.accepted;
  }

  pub made_well_formed : ProvedAnswersAreWellFormed → HasWellFormedAnswers g budget r
  made_well_formed proved loops loops_small = proved (answer_made g loops budget r) (made_is_limited loops loops_small) (made_is_proved loops)

  -- its drawing, as one of any kind
  drawn : SimpleDrawingsAreDrawings → HasDrawingWith g (crossings_of g r)
  drawn drawings = drawings g (crossings_of g r) limited.is_graph (order_of g r.drawing.orders, at r.drawing.next, solved.drawing.drawing, refl)

  pub bounds_both : SimpleDrawingsAreDrawings → AcceptedProofsBound → Bounds g r
  bounds_both drawings bound = (
    bound g r.lower r.rows r.tree limited.is_graph solved.accepted,
    (crossings_of g r, drawn drawings, omega arith),
  )

  pub decides_from_limit : SimpleDrawingsAreDrawings → AcceptedProofsBound → DecidesFromLimit g budget r
  decides_from_limit drawings bound k is limit =
      let least = is.at_most in
      let low : r.lower ≤ k = omega (arith, (bounds_both drawings bound).0 least.0 least.1, least.2) in
      let high : k ≤ crossings_of g r = is.least (crossings_of g r) (drawn drawings) in
      let has_k : least.0 ≡ k = omega (arith, is.least least.0 least.1, least.2) in
      elim (cases_lt r.lower (crossings_of g r)) [
        | inl less ↦
            let below = subst (λ c. budget < node_limit (pair_count_of g) c) has_k ((solved.undecided less).1 least.0 least.1) in
            absurd (not_below budget (node_limit (pair_count_of g) k) below limit)
        | inr met ↦ (omega (arith, low, high, met), omega (arith, low, high, met))
      ]
