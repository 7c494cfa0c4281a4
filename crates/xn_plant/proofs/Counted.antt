-- As many crossings are planted among all edges as pairs are decided 1.
use Rattle.std.proofs.Common.{◌≡◌, ℕ, ◌<◌, ◌⊎◌, inl, inr, Bool, true, false, ◌&&◌, List, length, refl, sym, ap, arith}
use Rattle.std.specs.Prelude.{Some}
use Rattle.xn_model.specs.Graph.{Graph, each_two, edges_of, independent}
use Rattle.xn_model.specs.Lists.{has}
use Rattle.xn_model.specs.Orders.{IsEdgeList, crossing_count, order_at}
use Rattle.xn_model.proofs.Ranges.{edge_list}
use Rattle.xn_kinds.specs.State.{State, IsState}
use Rattle.xn_effort.specs.Potential.{is_one, ones_in}
use Rattle.xn_fewer.proofs.Rising.{rising-from_increasing}
use Rattle.xn_plant.specs.Listed.{planted_lists}
use Rattle.xn_plant.proofs.Lists.{count_both, two_all}
use Rattle.xn_plant.proofs.Planned.{crosses_order, one_is, order_crosses}

pub planted_count : (g : Graph) (s : State) → IsState g s → crossing_count g (order_at (edges_of g) (planted_lists s (edges_of g))) ≡ ones_in g s
planted_count g s state =
    count_both (λ p. has (ord p.0) p.1) (λ p. independent g.ends p.0 p.1) (λ p. is_one (s.decided p.0 p.1)) (each_two (edges_of g))
    (two_all (λ p. has (ord p.0) p.1 ≡ (independent g.ends p.0 p.1 && is_one (s.decided p.0 p.1))) (edges_of g)
    (rising-from_increasing (edges_of g) edges.rise) each)
  where
    edges : IsEdgeList (length g.ends) (edges_of g)
    edges = edge_list (length g.ends)

    ord : ℕ → List ℕ
    ord = order_at (edges_of g) (planted_lists s (edges_of g))

    same : (a b c : Bool) → (a ≡ true → (b ≡ true) × (c ≡ true)) → (b ≡ true → c ≡ true → a ≡ true) → a ≡ (b && c)
    same true true true there back = refl
    same true true false there back = sym (there refl).1
    same true false c there back = sym (there refl).0
    same false true true there back = back refl refl
    same false true false there back = refl
    same false false c there back = refl

    decided : (e f : ℕ) → e < f → (s.decided e f ≡ Some true) ⊎ (s.decided f e ≡ Some true) → s.decided e f ≡ Some true
    decided e f less (inl here) = here
    decided e f less (inr there) = absurd (omega (arith, less, state.rises f e true there))

    each : (e f : ℕ) → has (edges_of g) e ≡ true → has (edges_of g) f ≡ true → e < f →
        has (order_at (edges_of g) (planted_lists s (edges_of g)) e) f ≡ (independent g.ends e f && is_one (s.decided e f))
    each e f e_in f_in less =
        same _ (independent g.ends e f) (is_one (s.decided e f))
        (λ f_there.
        let is = decided e f less (order_crosses g s state (edges_of g) edges e f f_there).1 in
        (state.independent e f true is, ap is_one is))
        (λ apart one. crosses_order g s state (edges_of g) edges e f e_in f_in (inl (one_is (s.decided e f) one)))
