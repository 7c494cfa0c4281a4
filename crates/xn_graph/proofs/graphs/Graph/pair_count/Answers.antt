use Rattle.std.proofs.Common.{ℕ, ◌+◌, ◌-◌, ◌<◌, ◌≡◌, length, map, ap, arith, length-append}
use Rattle.std.specs.List.{range_with_len}
use Rattle.std.proofs.lemmas.List.{length-map}
use Rattle.xn_model.specs.Graph.{Graph, pairs_of}
use Rattle.xn_graph.specs.Pairs.{partners_of}
use Rattle.xn_graph.proofs.Pairs.{pairs-step, pair_count-le}
use Rattle.xn_graph.proofs.graphs.Graph.pair_count.Goals as goal

-- the pairs among the edges from e on are the later partners of e, and the pairs among the edges after e
count_left-step : (g : Graph) (e : ℕ) → e < length g.ends →
    length (pairs_of g.ends (range_with_len e (length g.ends - e))) ≡ length (partners_of g e) + length (pairs_of g.ends (range_with_len (e + 1) (length g.ends - (e + 1))))
count_left-step g e below =
    let rest = pairs_of g.ends (range_with_len (e + 1) (length g.ends - (e + 1))) in
    let pair : ℕ → ℕ × ℕ = λ f. (e, f) in
    omega (arith, ap length (pairs-step g e below), length-append (map pair (partners_of g e)) rest, length-map (partners_of g e) pair)

pub overflow_add-count : goal.overflow_add-count
overflow_add-count c =
    omega (arith, count_left-step c.args.self.now c.loop-e.e (omega arith), c.loop-e.invariant, pair_count-le c.args.self.now c.edges-e-end.ensures.limited.few_edges)

pub loop-e-preserved : goal.loop-e-preserved
loop-e-preserved c = omega (arith, count_left-step c.args.self.now c.loop-e.e (omega arith), c.loop-e.invariant)

pub returns-clause-few : goal.returns-clause-few
returns-clause-few c = omega (arith, c.loop-e.invariant, pair_count-le c.args.self.now c.edges-e-end.ensures.limited.few_edges)
