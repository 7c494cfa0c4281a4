use Rattle.std.proofs.Common.{◌≡◌, List, [], ℕ, length, replicate, sym, ◌∙◌, ap, subst, arith}
use Rattle.xn_insert.specs.Calls.{DrawsKept}
use Rattle.xn_upper.specs.Upper.{empty_lists}
use Rattle.xn_upper.proofs.Bare.{drawn_kept}
use Rattle.xn_upper.proofs.flat_starts.started.Goals as goal

pub start-requires-clause-drawn : goal.start-requires-clause-drawn
start-requires-clause-drawn c =
    let g = c.args.graph.now in
    let kept = c.args.kept in
    let edges = kept.edges.items in
    let long : c.len.result ≡ length edges = omega (arith, c.len.ensures, kept.edges.ok.0) in
    let lists : c.in_ok-orders.orders ≡ empty_lists edges = c.in_ok-orders.ensures ∙ ap (λ (n : ℕ). let ls : List (List ℕ) = replicate n [] in ls) long in
    subst (λ (ls : List (List ℕ)). DrawsKept g c.deref.result.now ls kept.map) (sym lists)
    (subst (λ (es : List ℕ). DrawsKept g es (empty_lists edges) kept.map) (sym c.deref.ensures.value) (drawn_kept g kept.marks.items edges kept.map c.requires))
