use Rattle.std.proofs.Common.{◌+◌, List, ℕ, sym, subst, arith}
use Rattle.xn_model.specs.Lists.{at}
use Rattle.xn_model.proofs.Has.{has-at}
use Rattle.xn_simple.proofs.Turns.{OverFirst, over-more, passes_over_all}
use Rattle.xn_simple.proofs.turning.turns_by.Goals as goal

pub place_after-requires-clause-dart : goal.place_after-requires-clause-dart
place_after-requires-clause-dart c = c.requires.once.below c.loop-d.d-index (omega arith)

pub place_after-requires-clause-listed : goal.place_after-requires-clause-listed
place_after-requires-clause-listed c = has-at c.args.starts.now c.loop-d.d-index (omega arith)

pub loop-d-preserved : goal.loop-d-preserved
loop-d-preserved c =
    let next = at c.args.map.now.next in
    let starts = c.args.starts.now in
    let d = c.loop-d.d-index in
    let P : List ℕ → Type 0 = λ xs. OverFirst next starts xs (d + 1) in
    subst P (sym {A = List ℕ} c.in_ok-push.ensures.items)
    (over-more next starts c.loop-d.turns.items d c.place_after.result c.place_after.ensures.below c.place_after.ensures.first c.loop-d.invariant)

pub returns-clause-over : goal.returns-clause-over
returns-clause-over c = passes_over_all (at c.args.map.now.next) c.args.starts.now c.loop-d.turns.items c.loop-d.d-index (omega arith) c.loop-d.invariant
