use Rattle.std.proofs.Common.{◌≡◌, ℕ, ◌*◌, ◌<◌, ◌≤◌, length, subst, sym, ap, ◌∙◌, arith}
use Rattle.std.proofs.lemmas.Bool.{both_ways}
use Rattle.xn_model.specs.Graph.{Graph}
use Rattle.xn_model.specs.Lists.{at}
use Rattle.xn_model.specs.Map.{tail_of}
use Rattle.xn_dmp.specs.Sharing.{HasCorners}
use Rattle.xn_dmp.proofs.Around.{came_back, next_there, none_all, none_round, unmet_more, unmet_to, walked_more}
use Rattle.xn_dmp.proofs.sharing.common_face.Goals as goal

pub returns-then-d-first-clause-none : goal.returns-then-d-first-clause-none
returns-then-d-first-clause-none c = λ d d_at.
    let m = c.args.map.now in
    let next = at m.next in
    let first = c.args.first in
    let P : ℕ → Type 0 = λ x. HasCorners m x c.args.nodes.now in
    let so_far = c.loop.invariant in
    let k = c.loop.counter in
    let here : ¬ (P c.loop.d) = λ h. both_ways _ c.if-has_corners.false (c.has_corners.ensures.1 h) in
    let back = came_back next first c.loop.d c.next-d.result k so_far.walked c.next-d.ensures.value c.if-d-first.true in
    none_round m c.web.ensures.is_map P first d (omega (arith, c.requires.dart, c.web.ensures.is_map.fits)) d_at k back
    (unmet_to next P first c.loop.d k so_far.walked here so_far.unmet)

pub loop-preserved : goal.loop-preserved
loop-preserved c =
    let m = c.args.map.now in
    let next = at m.next in
    let first = c.args.first in
    let P : ℕ → Type 0 = λ x. HasCorners m x c.args.nodes.now in
    let so_far = c.loop.invariant in
    let k = c.loop.counter in
    let here : ¬ (P c.loop.d) = λ h. both_ways _ c.if-has_corners.false (c.has_corners.ensures.1 h) in
    record {
      here = next_there m c.web.ensures.is_map (tail_of m.web.ends first) c.loop.d c.next-d.result so_far.here c.next-d.ensures.value;
      walked = walked_more next first c.loop.d c.next-d.result k so_far.walked c.next-d.ensures.value;
      unmet = unmet_more next P first c.loop.d k so_far.walked here so_far.unmet;
    }

pub returns-clause-none : goal.returns-clause-none
returns-clause-none c = λ d d_at.
    let m = c.args.map.now in
    let P : ℕ → Type 0 = λ x. HasCorners m x c.args.nodes.now in
    none_all m c.web.ensures.is_map P c.args.first d (omega (arith, c.requires.dart, c.web.ensures.is_map.fits)) d_at
    (λ j low. c.loop.invariant.unmet j (omega (arith, low, c.loop-test.false, c.segments-end.ensures.value, ap (λ (w : Graph). length w.ends) c.web.ensures.value)))
