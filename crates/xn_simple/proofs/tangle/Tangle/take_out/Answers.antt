use Rattle.std.proofs.Common.{List, ℕ, set, ◌∙◌, ap, ap₂}
use Rattle.xn_simple.specs.LaidAgain.{all_but_edge}
use Rattle.xn_simple.specs.Tangle.{ListedTangle, lists_in}
use Rattle.xn_simple.proofs.Within.{vec_set}
use Rattle.xn_simple.proofs.tangle.Tangle.take_out.Goals as goal

pub returns : goal.returns
returns c =
    let old = c.args.self in
    let t = lists_in old in
    let e = c.args.e in
    let edges = c.in_ok-now.ensures ∙ ap (all_but_edge e) c.deref.ensures.value in
    let walks = vec_set old.walks.items e c.new.result ∙ ap (set t.walks e) c.new.ensures.items in
    let T : List ℕ → List (List ℕ) → ListedTangle =
    λ es ws. record { map = t.map; edges = es; walks = ws; four = t.four; owners = t.owners; places = t.places } in
    ap₂ T edges walks
