-- The answer made of what was found.
use Rattle.std.specs.Prelude.{◌≡◌, ℕ, ◌^◌, ◌<◌, ◌≤◌}
use Rattle.xn_model.specs.Drawing.{IsAtLeast, IsAtMost, IsCrossingNumber}
use Rattle.xn_model.specs.Graph.{Graph, pair_count_of}
use Rattle.xn_model.specs.Limit.{node_limit}
use Rattle.xn_kinds.specs.declared.answers.Answer.{Answer}
use Rattle.xn_proof.specs.WellFormed.{WellFormed}
use Rattle.xn_search.specs.Solved.{crossings_of}
use Rattle.xn_search.specs.declared.solved.Solved.{Solved}

-- the graph, the loops and the budget, with what was found: the upper bound is the number of crossings of the drawing
abbrev pub answer_made : Graph → ℕ → ℕ → Solved → Answer
answer_made g loops budget r = record {
  graph = g;
  loops = loops;
  lower = r.lower;
  upper = crossings_of g r;
  spent = r.spent;
  budget = budget;
  drawing = r.drawing;
  rows = r.rows;
  tree = r.tree;
}

-- it has a spelling, whatever the number of loops is
abbrev pub HasWellFormedAnswers : Graph → ℕ → Solved → Type 0
HasWellFormedAnswers g budget r = (loops : ℕ) → loops < 2 ^ 64 → WellFormed (answer_made g loops budget r)

-- every drawing has as many crossings as are shown, and some drawing has as many as the one that was found
abbrev pub Bounds : Graph → Solved → Type 0
Bounds g r = IsAtLeast g r.lower × IsAtMost g (crossings_of g r)

-- where the budget is at least the node limit, both are the crossing number
abbrev pub DecidesFromLimit : Graph → ℕ → Solved → Type 0
DecidesFromLimit g budget r =
    (k : ℕ) → IsCrossingNumber g k → node_limit (pair_count_of g) k ≤ budget → (r.lower ≡ k) × (crossings_of g r ≡ k)
