use Rattle.std.proofs.Common.{◌≡◌, ℕ, List, length, subst, arith}
use Rattle.xn_kura.proofs.Found.{six_elements, three_judged, three_missing, three_nodes, three_sides}
use Rattle.xn_kura.specs.Kinds.{AreSides}
use Rattle.xn_kura.proofs.kinds.find_three_three.Goals as goal
use Rattle.xn_kura.proofs.kinds.find_three_three.Goals.{then-len-ne3-via-then-len-ne3, then-len-ne3-via-else-len-ne3+then-len-ne3-2}

pub returns-then-len-ne6 : goal.returns-then-len-ne6
returns-then-len-ne6 c branch paths whole =
    let fits = three_nodes c.args.web.now branch paths whole c.in_ok-nodes.nodes.items c.in_ok-nodes.ensures in
    c.if-len-ne6.true (omega (arith, fits, c.len.ensures, c.in_ok-nodes.nodes.ok.0))

pub returns-then-len-ne3 : goal.returns-then-len-ne3
returns-then-len-ne3 c branch paths whole =
    let ends = c.args.web.now.ends in
    let nodes = c.in_ok-nodes.nodes.items in
    let near = c.in_ok-near.field-0.near in
    let far = c.in_ok-near.field-0.far in
    let P : List ℕ → Type 0 = λ xs. AreSides ends xs near.items far.items in
    let sides : AreSides ends nodes near.items far.items = subst P c.as_slice.ensures.value c.in_ok-near.ensures in
    let fits = three_sides c.args.web.now branch paths whole nodes c.in_ok-nodes.ensures near.items far.items sides in
    elim c.then-len-ne3.branch [
      | then-len-ne3-via-then-len-ne3 w ↦ w.if-len-ne3.true (omega (arith, fits.0, c.len-2.ensures, near.ok.0))
      | then-len-ne3-via-else-len-ne3+then-len-ne3-2 w ↦ w.if-len-ne3-2.true (omega (arith, fits.1, w.len-else-len-ne3.ensures, far.ok.0))
    ]

pub returns-in-None : goal.returns-in-None
returns-in-None c =
    let ends = c.args.web.now.ends in
    let nodes = c.in_ok-nodes.nodes.items in
    let near = c.in_ok-near.field-0.near in
    let far = c.in_ok-near.field-0.far in
    let P : List ℕ → Type 0 = λ xs. AreSides ends xs near.items far.items in
    let sides : AreSides ends nodes near.items far.items = subst P c.as_slice.ensures.value c.in_ok-near.ensures in
    let near_fits : length near.items ≡ 3 = omega (arith, c.len-2.ensures, c.if-len-ne3.false, near.ok.0) in
    let far_fits : length far.items ≡ 3 = omega (arith, c.len-else-len-ne3.ensures, c.if-len-ne3-2.false, far.ok.0) in
    let same = six_elements near.items far.items c.index.result.now c.index-2.result.now c.index-3.result.now c.index-4.result.now c.index-5.result.now c.index-6.result.now near_fits far_fits
    c.index.ensures c.index-2.ensures c.index-3.ensures c.index-4.ensures c.index-5.ensures c.index-6.ensures in
    three_missing c.args.web.now nodes near.items far.items _ c.in_ok-nodes.ensures sides same c.in_ok-paths_between.field-0 c.in_ok-paths_between.ensures c.in-None.is

pub returns : goal.returns
returns c =
    let ends = c.args.web.now.ends in
    let nodes = c.in_ok-nodes.nodes.items in
    let near = c.in_ok-near.field-0.near in
    let far = c.in_ok-near.field-0.far in
    let P : List ℕ → Type 0 = λ xs. AreSides ends xs near.items far.items in
    let sides : AreSides ends nodes near.items far.items = subst P c.as_slice.ensures.value c.in_ok-near.ensures in
    let near_fits : length near.items ≡ 3 = omega (arith, c.len-2.ensures, c.if-len-ne3.false, near.ok.0) in
    let far_fits : length far.items ≡ 3 = omega (arith, c.len-else-len-ne3.ensures, c.if-len-ne3-2.false, far.ok.0) in
    let same = six_elements near.items far.items c.index.result.now c.index-2.result.now c.index-3.result.now c.index-4.result.now c.index-5.result.now c.index-6.result.now near_fits far_fits
    c.index.ensures c.index-2.ensures c.index-3.ensures c.index-4.ensures c.index-5.ensures c.index-6.ensures in
    three_judged c.args.web.now nodes near.items far.items _ c.in_ok-nodes.ensures sides same c.in-Some.paths c.in_ok-paths_between.field-0 c.in_ok-paths_between.ensures c.in-Some.is
    c.judged.result c.judged.ensures
