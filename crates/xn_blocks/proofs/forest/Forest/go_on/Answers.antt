use Rattle.std.proofs.Common.{◌≡◌, length, sym, ◌∙◌, ap, subst, arith}
use Rattle.std.proofs.lemmas.List.{get_or_read}
use Rattle.xn_model.specs.Lists.{at}
use Rattle.xn_graph.specs.Stars.{darts_of}
use Rattle.xn_blocks.specs.Growth.{GoesOnAt, lists_in}
use Rattle.xn_blocks.proofs.SearchSteps.{all_done, goes_up}
use Rattle.xn_blocks.proofs.forest.Forest.go_on.Goals as goal

pub returns-then-parent-v : goal.returns-then-parent-v
returns-then-parent-v c =
    let web = c.args.web.now in
    let v = c.args.v in
    let s = lists_in c.args.self.now in
    let here = c.requires.here in
    let size = ap length c.at-star.ensures ∙ ap (λ g. length (darts_of g.ends v)) c.requires.stars in
    let num : c.index.result.now ≡ at s.next v = get_or_read s.next v _ (omega (arith, here.here.0, here.found.nexts)) c.index.ensures 0 in
    let done : at s.next v ≡ length (darts_of web.ends v) = omega (arith, size, num, here.found.tried v here.here.0, c.if-tried-star.false) in
    let p : c.index-parent.result.now ≡ at s.parent v = get_or_read s.parent v _ (omega (arith, here.here.0, here.found.parents)) c.index-parent.ensures 0 in
    let root : at s.parent v ≡ v = sym p ∙ c.if-parent-v.true in
    record { found = here.found; done = all_done web s v here done root; keeps = λ u u_found. u_found }

pub returns-else-parent-v : goal.returns-else-parent-v
returns-else-parent-v c =
    let web = c.args.web.now in
    let v = c.args.v in
    let s = lists_in c.args.self.now in
    let here = c.requires.here in
    let size = ap length c.at-star.ensures ∙ ap (λ g. length (darts_of g.ends v)) c.requires.stars in
    let num : c.index.result.now ≡ at s.next v = get_or_read s.next v _ (omega (arith, here.here.0, here.found.nexts)) c.index.ensures 0 in
    let done : at s.next v ≡ length (darts_of web.ends v) = omega (arith, size, num, here.found.tried v here.here.0, c.if-tried-star.false) in
    let p : c.index-parent.result.now ≡ at s.parent v = get_or_read s.parent v _ (omega (arith, here.here.0, here.found.parents)) c.index-parent.ensures 0 in
    subst (λ z. GoesOnAt web s s v z) (sym p) (goes_up web s v here done (λ root. c.if-parent-v.false (p ∙ root)))
