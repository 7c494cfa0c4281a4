use Rattle.std.proofs.Common.{◌≡◌, ◌+◌, ◌<◌, suc, length, ◌∙◌, ap, arith}
use Rattle.std.proofs.lemmas.List.{get_or_read}
use Rattle.xn_model.specs.Lists.{at}
use Rattle.xn_simple.specs.Tangle.{lists_in}
use Rattle.xn_simple.proofs.Within.{leaving_in, vec_given, vec_read}
use Rattle.xn_simple.proofs.tangle.Tangle.leaving.Goals as goal

pub returns-clause-value : goal.returns-clause-value
returns-clause-value c =
    let vecs = c.args.self.now.walks.items in
    let walk = c.index.result.now.items in
    let is = vec_read vecs c.args.e c.index.result.now (vec_given vecs c.args.e (suc c.args.i) c.requires.place) c.index.ensures in
    let low : c.args.i + 1 < length walk = omega (arith, c.requires.place, ap length is) in
    let on : c.args.i + 1 ≡ suc c.args.i = omega arith in
    get_or_read walk (c.args.i + 1) c.index-2.result.now low c.index-2.ensures 0 ∙ ap (at walk) on ∙ ap (λ w. at w (suc c.args.i)) is

pub returns-clause-dart : goal.returns-clause-dart
returns-clause-dart c =
    let vecs = c.args.self.now.walks.items in
    let walk = c.index.result.now.items in
    let is = vec_read vecs c.args.e c.index.result.now (vec_given vecs c.args.e (suc c.args.i) c.requires.place) c.index.ensures in
    let low : c.args.i + 1 < length walk = omega (arith, c.requires.place, ap length is) in
    let on : c.args.i + 1 ≡ suc c.args.i = omega arith in
    let dart = get_or_read walk (c.args.i + 1) c.index-2.result.now low c.index-2.ensures 0 ∙ ap (at walk) on ∙ ap (λ w. at w (suc c.args.i)) is in
    let below = leaving_in (lists_in c.args.self.now) c.requires.tangle c.args.e c.args.i c.requires.place in
    omega (arith, dart, below)
