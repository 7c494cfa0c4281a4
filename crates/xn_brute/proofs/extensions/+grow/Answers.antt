use Rattle.std.proofs.Common.{ℕ, ◌+◌, ◌*◌, ◌<◌, inl, inr, false, length, refl, sym, subst, arith, List}
use Rattle.std.proofs.lemmas.Bool.{both_ways, cases_eq}
use Rattle.std.proofs.lemmas.Result.{IfOk-weaker}
use Rattle.xn_model.specs.Insertion.{IsOldCorner, StandsAfter}
use Rattle.xn_model.specs.Lists.{at}
use Rattle.xn_model.specs.Map.{face_step}
use Rattle.xn_model.specs.Permutation.{Reaches}
use Rattle.xn_brute.specs.Growth.{CanGoOn}
use Rattle.xn_brute.proofs.Growing.{by_cut, corner_of_hang, cut_from, extends_none, first_of_cut, goes_on_cut, goes_on_hung, second_of_cut, some_way}
use Rattle.xn_brute.proofs.extensions.+grow.Goals as goal
use Rattle.xn_brute.proofs.extensions.+grow.Goals.{hangs-then-is_corner+in_ok-after+in_ok-goes_on+else-branch, hangs-else-is_corner}
use Rattle.xn_brute.proofs.extensions.+grow.Goals.{cuts-else-is_corner-via-then-is_corner+in_ok-cuts_from+else-branch, cuts-else-is_corner-via-else-is_corner}
use Rattle.xn_brute.proofs.extensions.+grow.Goals.{cuts_from-then-is_corner+then-in_one_face+in_ok-between+in_ok-after+in_ok-goes_on+else-branch, cuts_from-else-is_corner, cuts_from-else-is_corner-via-then-is_corner+else-in_one_face, cuts_from-else-is_corner-via-else-is_corner}

pub hangs-loop-c-preserved : goal.hangs-loop-c-preserved
hangs-loop-c-preserved t c = λ can low. elim (cases_eq can.1.corner c.loop-c.c) [
  | inr other ↦ c.loop-c.invariant can (omega (arith, low, other))
  | inl here ↦
      let growth = c.args.growth.now in
      let n = 2 * length growth.web.now.ends in
      elim c.if-is_corner.branch [
        | hangs-then-is_corner+in_ok-after+in_ok-goes_on+else-branch w ↦
            let stands = subst (λ x. StandsAfter n c.args.d x (at growth.next.now) can.0) here can.1.stands in
            let made = goes_on_hung growth c.requires.growing c.args.d c.loop-c.c can.0 w.in_ok-after.after.items w.in_ok-after.ensures.listing stands w.in_ok-after.ensures.stands can.2 in
            both_ways _ w.if-branch.false (w.in_ok-goes_on.ensures.1 (subst (λ (l : List ℕ). CanGoOn growth (at l)) (sym w.deref.ensures.value) made))
        | hangs-else-is_corner w ↦ both_ways _ w.if-is_corner.false (c.is_corner.ensures.1 (subst (IsOldCorner growth.web.now.ends growth.done.now c.args.d) here can.1.is_corner))
      ]
]

pub hangs-returns : goal.hangs-returns
hangs-returns t c = (
  λ no. absurd (both_ways false refl no),
  λ can. absurd (c.loop-c.invariant can (omega (arith, corner_of_hang c.args.growth.now c.requires.growing c.args.d c.args.e can, c.loop-c-test.false, c.segments-c-end.ensures.value))),
)

pub cuts-loop-c-preserved : goal.cuts-loop-c-preserved
cuts-loop-c-preserved t c = λ can low. elim (cases_eq can.1.first c.loop-c.c) [
  | inr other ↦ c.loop-c.invariant can (omega (arith, low, other))
  | inl here ↦
      let growth = c.args.growth.now in
      elim c.else-is_corner.branch [
        | cuts-else-is_corner-via-then-is_corner+in_ok-cuts_from+else-branch w ↦
            both_ways _ w.if-branch.false (w.in_ok-cuts_from.ensures.1 (cut_from growth c.requires can c.loop-c.c here))
        | cuts-else-is_corner-via-else-is_corner w ↦
            both_ways _ w.if-is_corner.false (c.is_corner.ensures.1 (subst (IsOldCorner growth.web.now.ends growth.done.now (2 * growth.segment)) here can.1.is_first))
      ]
]

pub cuts-returns : goal.cuts-returns
cuts-returns t c = (
  λ no. absurd (both_ways false refl no),
  λ can. absurd (c.loop-c.invariant can (omega (arith, first_of_cut c.args.growth.now c.requires can, c.loop-c-test.false, c.segments-c-end.ensures.value))),
)

pub cuts_from-loop-b-preserved : goal.cuts_from-loop-b-preserved
cuts_from-loop-b-preserved t c = λ can low. elim (cases_eq can.second c.loop-b.b) [
  | inr other ↦ c.loop-b.invariant can (omega (arith, low, other))
  | inl here ↦
      let growth = c.args.growth.now in
      let n = 2 * length growth.web.now.ends in
      let next = at growth.next.now in
      let second : ℕ = 2 * growth.segment + 1 in
      elim c.if-is_corner.branch [
        | cuts_from-then-is_corner+then-in_one_face+in_ok-between+in_ok-after+in_ok-goes_on+else-branch w ↦
            let low_b : c.loop-b.b < n = omega (arith, c.loop-b-test.true, c.segments-b-end.ensures.value) in
            let stands = subst (λ x. StandsAfter n second x can.between can.after) here can.second_stands in
            let half = w.in_ok-between.between.items in
            let full = subst (λ (l : List ℕ). StandsAfter n second c.loop-b.b (at l) (at w.in_ok-after.after.items)) w.deref.ensures.value w.in_ok-after.ensures.stands in
            let made =
            goes_on_cut growth c.requires.growing c.args.c c.loop-b.b can.between can.after half w.in_ok-after.after.items low_b w.in_ok-between.ensures.listing w.in_ok-after.ensures.listing can.first_stands w.in_ok-between.ensures.stands stands full can.goes_on in
            both_ways _ w.if-branch.false (w.in_ok-goes_on.ensures.1 (subst (λ (l : List ℕ). CanGoOn growth (at l)) (sym w.deref-then-in_one_face.ensures.value) made))
        | cuts_from-else-is_corner w ↦ elim w.else-is_corner.branch [
          | cuts_from-else-is_corner-via-then-is_corner+else-in_one_face v ↦
              both_ways _ v.if-in_one_face.false (v.in_one_face.ensures.1 (subst (λ x. Reaches (face_step next) (next c.args.c) (next x)) here can.one_face))
          | cuts_from-else-is_corner-via-else-is_corner v ↦
              both_ways _ v.if-is_corner.false (c.is_corner.ensures.1 (subst (IsOldCorner growth.web.now.ends growth.done.now second) here can.is_second))
        ]
      ]
]

pub cuts_from-returns : goal.cuts_from-returns
cuts_from-returns t c = (
  λ no. absurd (both_ways false refl no),
  λ can. absurd (c.loop-b.invariant can (omega (arith, second_of_cut c.args.growth.now c.requires.growing c.args.c can, c.loop-b-test.false, c.segments-b-end.ensures.value))),
)

pub extends-returns-in-empty : goal.extends-returns-in-empty
extends-returns-in-empty t c = (λ yes. extends_none c.args.web.now c.args.done.now c.args.rest.now (at c.args.next.now) c.in-empty.len_below, λ can. refl)

pub inserts-returns : goal.inserts-returns
inserts-returns t c =
    let growth = c.args.growth.now in
    IfOk-weaker c.cuts.result _ _ (λ yes ensures. (
      λ is. by_cut growth c.requires (ensures.0 is),
      λ can. elim (some_way growth c.requires can) [
        | inl first ↦ absurd (both_ways _ c.if-branch.false (c.in_ok-hangs.ensures.1 first))
        | inr rest ↦ elim rest [
          | inl second ↦ absurd (both_ways _ c.if-branch-2.false (c.in_ok-hangs-2.ensures.1 second))
          | inr cut ↦ ensures.1 cut
        ]
      ],
    )) c.cuts.ensures
