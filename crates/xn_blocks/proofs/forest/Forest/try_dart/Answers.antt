use Rattle.std.proofs.Common.{◌≡◌, ◌<◌, ◌≤◌, inl, length, refl, sym, ◌∙◌, ap, subst, arith}
use Rattle.std.proofs.lemmas.List.{get_or_read}
use Rattle.xn_model.specs.Lists.{at}
use Rattle.xn_model.specs.Map.{reverse_of, tail_of}
use Rattle.xn_model.proofs.Darts.{reverse_below}
use Rattle.xn_graph.proofs.DartsOf.{darts_of-at}
use Rattle.xn_blocks.specs.Growth.{GoesOnAt, far_end_at, lists_in, with_dart}
use Rattle.xn_blocks.proofs.Growing.{few}
use Rattle.xn_blocks.proofs.SearchSteps.{few_darts, goes_down, goes_past}
use Rattle.xn_blocks.proofs.forest.Forest.try_dart.Goals as goal

pub tail-w-requires : goal.tail-w-requires
tail-w-requires c =
    let ends = c.args.web.now.ends in
    let d_in = (darts_of-at ends c.args.v (at c.args.self.now.next.items c.args.v) c.requires.more).0 in
    reverse_below (length ends) c.args.d (omega (arith, d_in, c.requires.dart))

pub count_dart-requires-clause-few : goal.count_dart-requires-clause-few
count_dart-requires-clause-few c = omega (arith, c.requires.more, few_darts c.args.web.now.ends c.args.v, c.nodes.ensures.limited.few_segments)

pub returns-then-index-nodes : goal.returns-then-index-nodes
returns-then-index-nodes c =
    let web = c.args.web.now in
    let v = c.args.v in
    let s = lists_in c.args.self.now in
    let w = c.tail-w.result in
    let w_is : w ≡ far_end_at web v (at s.next v) = c.tail-w.ensures.value ∙ ap (λ x. tail_of web.ends (reverse_of x)) c.requires.dart in
    let num : c.index.result.now ≡ at s.number w = get_or_read s.number w _ (omega (arith, c.tail-w.ensures.node, c.requires.here.found.numbers)) c.index.ensures 0 in
    let small : at s.number w < web.nodes = omega (arith, num, c.if-index-nodes.true, c.nodes.ensures.value) in
    let far = subst (λ z. (z < web.nodes) × (at s.number z < web.nodes)) w_is (c.tail-w.ensures.node, small) in
    subst (λ t. GoesOnAt web s t v v) (sym c.count_dart.ensures) (goes_past web s v c.requires.here c.requires.more far)

pub find-requires-clause-few : goal.find-requires-clause-few
find-requires-clause-few c =
    let web = c.args.web.now in
    let s = lists_in c.args.self.now in
    let w = c.tail-w.result in
    let num : c.index.result.now ≡ at s.number w = get_or_read s.number w _ (omega (arith, c.tail-w.ensures.node, c.requires.here.found.numbers)) c.index.ensures 0 in
    omega (arith, few web s c.requires.here.found w w c.tail-w.ensures.node (omega (arith, num, c.if-index-nodes.false, c.nodes.ensures.value)) (inl refl), c.nodes-2.ensures.value)

pub count_dart-requires-2-clause-few : goal.count_dart-requires-2-clause-few
count_dart-requires-2-clause-few c =
    omega (arith, c.requires.more, ap (λ t. at t.next c.args.v) c.in_ok-find.ensures, few_darts c.args.web.now.ends c.args.v, c.nodes.ensures.limited.few_segments)

pub returns : goal.returns
returns c =
    let web = c.args.web.now in
    let v = c.args.v in
    let s = lists_in c.args.self.now in
    let w = c.tail-w.result in
    let w_is : w ≡ far_end_at web v (at s.next v) = c.tail-w.ensures.value ∙ ap (λ x. tail_of web.ends (reverse_of x)) c.requires.dart in
    let num : c.index.result.now ≡ at s.number w = get_or_read s.number w _ (omega (arith, c.tail-w.ensures.node, c.requires.here.found.numbers)) c.index.ensures 0 in
    let new : web.nodes ≤ at s.number w = omega (arith, num, c.if-index-nodes.false, c.nodes.ensures.value) in
    let on = goes_down web s v c.requires.here w c.requires.more w_is c.tail-w.ensures.node new in
    subst (λ t. GoesOnAt web s t v w) (sym (c.count_dart-2.ensures ∙ ap (λ t. with_dart t v) c.in_ok-find.ensures)) on
