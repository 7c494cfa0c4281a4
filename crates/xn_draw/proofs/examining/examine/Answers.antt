use Rattle.std.proofs.Common.{◌≡◌, ℕ, ◌-◌, ◌∙◌, ap, arith, subst}
use Rattle.xn_model.specs.Drawing.{order_of}
use Rattle.xn_model.specs.Lists.{at}
use Rattle.xn_model.specs.Orders.{crossing_count}
use Rattle.xn_graph.specs.Counts.{IsBalanced, euler_of}
use Rattle.xn_graph.specs.declared.counts.Euler.{Euler}
use Rattle.xn_draw.specs.declared.results.Seen.{Seen}
use Rattle.xn_draw.proofs.FirstFlaws.{drawn}
use Rattle.xn_draw.proofs.examining.examine.Goals as goal

seen-same : (a b : ℕ) (x y : Euler) → a ≡ b → x ≡ y → (let first : Seen = record { crossings = a; euler = x } in let second : Seen = record { crossings = b; euler = y } in first ≡ second)
seen-same a b x y crossings euler =
    let with_crossings : ℕ → Seen = λ n. record { crossings = n; euler = x } in
    let with_euler : Euler → Seen = λ e. record { crossings = b; euler = e } in
    ap with_crossings crossings ∙ ap with_euler euler

pub returns-clause-ok : goal.returns-clause-ok
returns-clause-ok c =
    let g = c.args.graph.now in
    let d = c.args.drawing.now in
    let euler = c.in_ok-euler.ensures.counts ∙ ap (λ m. euler_of m.web (at m.next)) c.in_ok-map.ensures.map.1 in
    let flat = subst IsBalanced euler c.if-euler.false in
    let crossings : c.in_ok-euler.euler.v - c.from.result ≡ crossing_count g (order_of g d.orders) = omega (arith, ap (λ e. e.v) euler, c.from.ensures, c.nodes.ensures.value) in
    (drawn g d.orders d.next c.in_ok-check_crossings.ensures flat, seen-same _ _ _ _ crossings euler)
