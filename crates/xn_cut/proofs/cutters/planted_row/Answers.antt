use Rattle.std.proofs.Common.{◌∙◌, List, ℕ, subst}
use Rattle.xn_cut.specs.Planted.{AreShuffled, is_planted, takes}
use Rattle.xn_cut.proofs.Answered.{planted_answer}
use Rattle.xn_cut.proofs.Named.{cross_where}
use Rattle.xn_cut.proofs.cutters.planted_row.Goals as goal

pub row_of-requires-clause-orders : goal.row_of-requires-clause-orders
row_of-requires-clause-orders c =
    let orders = c.in_ok-orders.orders in
    let shuffled = subst (λ (ps : List (ℕ × ℕ)). AreShuffled ps orders) (c.as_slice.ensures.value ∙ c.in_ok-pairs.ensures) c.in_ok-orders.ensures.shuffled in
    (cross_where c.args.graph.now (takes c.args.rule) c.args.point.now orders c.requires.point c.in_ok-orders.ensures.fit shuffled).are_orders

pub returns : goal.returns
returns c =
    let orders = c.in_ok-orders.orders in
    let shuffled = subst (λ (ps : List (ℕ × ℕ)). AreShuffled ps orders) (c.as_slice.ensures.value ∙ c.in_ok-pairs.ensures) c.in_ok-orders.ensures.shuffled in
    planted_answer c.args.graph.now (is_planted (takes c.args.rule) c.args.point.now) orders
    (cross_where c.args.graph.now (takes c.args.rule) c.args.point.now orders c.requires.point c.in_ok-orders.ensures.fit shuffled) c.in_ok-found.found c.in_ok-found.ensures
