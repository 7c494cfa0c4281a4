use Rattle.std.proofs.Common.{false, take, get_or, set, List, ℕ, sym, subst, arith}
use Rattle.std.proofs.lemmas.List.{take_more}
use Rattle.xn_kura.proofs.Marking.{Clears-one}
use Rattle.xn_kura.specs.Marks.{Clears}
use Rattle.xn_kura.proofs.marks.clear.Goals as goal

pub loop-x-preserved : goal.loop-x-preserved
loop-x-preserved c =
    let i = c.loop-x.x-index in
    let list = c.args.list.now in
    let x = get_or list i 0 in
    let x_in = c.requires i 0 c.loop-x-test.true in
    let P : List ℕ → Type 0 = λ xs. Clears c.args.marks.now xs (set c.loop-x.marks x false) in
    subst P (sym (take_more list i 0 c.loop-x-test.true))
    (Clears-one c.args.marks.now c.loop-x.marks (take i list) x c.loop-x.invariant (omega (arith, x_in, c.loop-x.auto.marks)))
