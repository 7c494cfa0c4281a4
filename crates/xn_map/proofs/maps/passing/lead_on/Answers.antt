use Rattle.std.proofs.Common.{◌∙◌, ap, arith}
use Rattle.xn_model.specs.Map.{reverse_of, tail_of}
use Rattle.xn_map.proofs.Passing.{leads_on, outlasts}
use Rattle.xn_map.proofs.maps.passing.lead_on.Goals as goal

pub remove_segment-requires-clause-first : goal.remove_segment-requires-clause-first
remove_segment-requires-clause-first c =
    let far_is = c.tail-far.ensures.value ∙ ap (λ w. tail_of w.ends (reverse_of c.args.q)) c.web.ensures in
    outlasts c.args.p c.args.q c.tail-far.result c.args.web.now c.move_dart.new.self c.requires.darts.0 c.requires.darts.1 c.requires.segments c.requires.one_node c.requires.only
    far_is c.move_dart.ensures.moved _ (omega arith)

pub remove_segment-requires-clause-second : goal.remove_segment-requires-clause-second
remove_segment-requires-clause-second c =
    let far_is = c.tail-far.ensures.value ∙ ap (λ w. tail_of w.ends (reverse_of c.args.q)) c.web.ensures in
    outlasts c.args.p c.args.q c.tail-far.result c.args.web.now c.move_dart.new.self c.requires.darts.0 c.requires.darts.1 c.requires.segments c.requires.one_node c.requires.only
    far_is c.move_dart.ensures.moved _ (omega arith)

pub returns : goal.returns
returns c =
    let far_is = c.tail-far.ensures.value ∙ ap (λ w. tail_of w.ends (reverse_of c.args.q)) c.web.ensures in
    leads_on c.args.p c.args.q c.tail-far.result c.args.web.now c.move_dart.new.self c.remove_segment.new.self c.requires.darts.1 far_is c.move_dart.ensures.moved c.remove_segment.ensures
