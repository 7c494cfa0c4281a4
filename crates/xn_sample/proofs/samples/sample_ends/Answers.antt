use Rattle.std.proofs.Common.{◌≡◌, ◌/◌, map, arith}
use Rattle.std.specs.List.{range_with_len}
use Rattle.xn_sample.specs.Sample.{rim_edge}
use Rattle.xn_sample.proofs.Edges.{all_chords, one_chord_more, one_rim_edge_more, state_after-chord, whole_rim}
use Rattle.xn_sample.proofs.samples.sample_ends.Goals as goal

pub loop-i-preserved : goal.loop-i-preserved
loop-i-preserved c = one_rim_edge_more c.args.nodes c.loop-i.i _ _ c.loop-i.invariant c.in_ok-push.ensures.items

pub loop-init : goal.loop-init
loop-init c =
    let all : c.loop-i.i ≡ c.args.nodes = omega arith in
    record { ends = whole_rim c.args.nodes c.loop-i.i _ all c.loop-i.invariant; draws = c.new-draws.ensures }

pub loop-preserved : goal.loop-preserved
loop-preserved c =
    let rim = map (rim_edge c.args.nodes) (range_with_len 0 c.args.nodes) in
    let now = c.loop.invariant.draws in
    record {
      ends = one_chord_more c.args.nodes c.loop.counter _ rim _ _ _ now c.next_chord.ensures.chord c.loop.invariant.ends c.in_ok-push-2.ensures.items;
      draws = state_after-chord c.args.nodes c.loop.counter _ _ now c.next_chord.ensures.state;
    }

pub returns : goal.returns
returns c =
    let all : c.loop.counter ≡ c.args.nodes / 2 = omega arith in
    all_chords c.args.nodes c.loop.counter _ all c.loop.invariant.ends
