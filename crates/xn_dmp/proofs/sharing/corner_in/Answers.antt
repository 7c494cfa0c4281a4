use Rattle.std.proofs.Common.{◌≡◌, ℕ, ◌*◌, ◌<◌, ◌≤◌, length, subst, sym, ap, ◌∙◌, arith}
use Rattle.std.proofs.lemmas.Bool.{both_ways}
use Rattle.xn_model.specs.Graph.{Graph}
use Rattle.xn_model.specs.Lists.{at}
use Rattle.xn_model.specs.Map.{face_step}
use Rattle.xn_model.specs.Permutation.{Reaches}
use Rattle.xn_map.specs.Anchored.{IsDartOf}
use Rattle.xn_dmp.proofs.Around.{came_back, next_there, none_all, none_round, unmet_more, unmet_to, walked_more}
use Rattle.xn_dmp.proofs.sharing.corner_in.Goals as goal

pub returns-then-e-first-clause-none : goal.returns-then-e-first-clause-none
returns-then-e-first-clause-none c = λ corner.
    let m = c.args.map.now in
    let next = at m.next in
    let first = c.in_ok-first.first in
    let P : ℕ → Type 0 = λ x. Reaches (face_step next) (next c.args.d) (next x) in
    let so_far = c.loop.invariant in
    let k = c.loop.counter in
    let first_at = c.in_ok-first.ensures.some in
    let Q : ℕ → Type 0 = λ v. IsDartOf m.web.ends v corner.0 in
    let here : ¬ (P c.loop.e) = λ h. both_ways _ c.if-same_face.false (c.same_face.ensures.1 h) in
    let back = came_back next first c.loop.e c.next-e.result k so_far.walked c.next-e.ensures.value c.if-e-first.true in
    none_round m c.web.ensures.is_map P first corner.0 first_at.0 (subst Q (sym first_at.1) corner.1.0) k back
    (unmet_to next P first c.loop.e k so_far.walked here so_far.unmet) corner.1.1

pub loop-preserved : goal.loop-preserved
loop-preserved c =
    let m = c.args.map.now in
    let next = at m.next in
    let first = c.in_ok-first.first in
    let P : ℕ → Type 0 = λ x. Reaches (face_step next) (next c.args.d) (next x) in
    let so_far = c.loop.invariant in
    let k = c.loop.counter in
    let here : ¬ (P c.loop.e) = λ h. both_ways _ c.if-same_face.false (c.same_face.ensures.1 h) in
    record {
      here = next_there m c.web.ensures.is_map c.args.v c.loop.e c.next-e.result so_far.here c.next-e.ensures.value;
      walked = walked_more next first c.loop.e c.next-e.result k so_far.walked c.next-e.ensures.value;
      unmet = unmet_more next P first c.loop.e k so_far.walked here so_far.unmet;
    }

pub returns-clause-none : goal.returns-clause-none
returns-clause-none c = λ corner.
    let m = c.args.map.now in
    let next = at m.next in
    let first = c.in_ok-first.first in
    let P : ℕ → Type 0 = λ x. Reaches (face_step next) (next c.args.d) (next x) in
    let first_at = c.in_ok-first.ensures.some in
    let Q : ℕ → Type 0 = λ v. IsDartOf m.web.ends v corner.0 in
    none_all m c.web.ensures.is_map P first corner.0 first_at.0 (subst Q (sym first_at.1) corner.1.0)
    (λ j low. c.loop.invariant.unmet j (omega (arith, low, c.loop-test.false, c.segments-end.ensures.value, ap (λ (w : Graph). length w.ends) c.web.ensures.value))) corner.1.1
