use Rattle.std.proofs.Common.{◌∙◌, ap, arith, min, subst, sym, ℕ}
use Rattle.xn_euler.proofs.Rounds.{IsLeastAt, least_at}
use Rattle.xn_euler.proofs.resolution.least_dart.Goals as goal
use Rattle.xn_euler.proofs.resolution.least_dart.Goals.{After-min-3}

pub next-e-requires : goal.next-e-requires
next-e-requires c = omega (arith, c.in-Some.ensures.some.0, c.dart_of.ensures.map.fits)

found : (c : After-min-3) → IsLeastAt c.args.map.now c.args.v c.min-3.result
found c =
    let m = c.args.map.now in
    let e = c.next-e in
    let f = c.next-f in
    let P : ℕ → Type 0 = λ d. IsLeastAt m c.args.v d in
    let is = c.min-3.ensures ∙ ap (λ x. min x c.next.result) (c.min-2.ensures ∙ ap (λ x. min x f.result) c.min.ensures) in
    subst P (sym is)
    (least_at m c.dart_of.ensures.map c.args.v c.requires c.in-Some.d e.result f.result c.next.result c.in-Some.ensures.some e.ensures.value f.ensures.value c.next.ensures.value)

pub returns-clause-node : goal.returns-clause-node
returns-clause-node c = (found c).node

pub returns-clause-least : goal.returns-clause-least
returns-clause-least c = (found c).least
