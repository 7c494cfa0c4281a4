use Rattle.std.proofs.Common.{◌≡◌, ℕ, ◌*◌, ◌<◌, List, [], ◌∷◌, length, sym, ap, subst, ◌∙◌, arith}
use Rattle.std.specs.Prelude.{Option, Some, None, IfNone}
use Rattle.xn_map.specs.Anchored.{IsDartOf}
use Rattle.xn_map.specs.declared.corners.Corner.TheVariants.{After, Lone}
use Rattle.xn_dmp.specs.Fragments.{IsCutOff}
use Rattle.xn_dmp.specs.Growing.{Grown, IsNext, MayPlace, grown_of}
use Rattle.xn_dmp.proofs.Choosing.{both_lone, cut_off, first_lone, none_lone, second_lone}
use Rattle.xn_dmp.proofs.growing.Growth.corners.Goals as goal

if_none : {T : Type 0} (o : Option T) (P : Type 0) → P → IfNone o P
if_none None P p = p
if_none (Some x) P p = tt

pub returns-in-None-None-clause-some : goal.returns-in-None-None-clause-some
returns-in-None-None-clause-some c =
    let inside = c.self.inside in
    let g = grown_of inside.web.now inside.map inside.placed.items inside.free.items in
    let P : Grown → Type 0 = λ x. IsNext x c.args.s in
    let Q : Grown → Type 0 = λ x. MayPlace x c.args.s (Lone c.end-u.result.0) (Lone c.end-u.result.1) in
    let next = subst P (sym c.self.view_is) c.requires in
    subst Q c.self.view_is (both_lone g c.self.invariant.1 c.dart_of.ensures.map c.args.s next c.end-u.result c.end-u.ensures.value c.end-u.ensures.nodes
    (rw c.in-None-None.is-0 at c.dart_of.ensures.none) (rw c.in-None-None.is-1 at c.dart_of-2.ensures.none))

pub returns-in-None-Some-clause-some : goal.returns-in-None-Some-clause-some
returns-in-None-Some-clause-some c =
    let inside = c.self.inside in
    let g = grown_of inside.web.now inside.map inside.placed.items inside.free.items in
    let P : Grown → Type 0 = λ x. IsNext x c.args.s in
    let Q : Grown → Type 0 = λ x. MayPlace x c.args.s (Lone c.end-u.result.0) (After c.in-None-Some.e) in
    let next = subst P (sym c.self.view_is) c.requires in
    subst Q c.self.view_is (first_lone g c.self.invariant.1 c.dart_of.ensures.map c.args.s next c.end-u.result c.end-u.ensures.value c.end-u.ensures.nodes c.in-None-Some.e
    (rw c.in-None-Some.is-0 at c.dart_of.ensures.none) (rw c.in-None-Some.is-1 at c.dart_of-2.ensures.some))

pub returns-in-Some-None-clause-some : goal.returns-in-Some-None-clause-some
returns-in-Some-None-clause-some c =
    let inside = c.self.inside in
    let g = grown_of inside.web.now inside.map inside.placed.items inside.free.items in
    let P : Grown → Type 0 = λ x. IsNext x c.args.s in
    let Q : Grown → Type 0 = λ x. MayPlace x c.args.s (After c.in-Some-None.d) (Lone c.end-u.result.1) in
    let next = subst P (sym c.self.view_is) c.requires in
    let dart : IsDartOf inside.map.web.ends c.end-u.result.0 c.in-Some-None.d = rw c.in-Some-None.is-0 at c.dart_of.ensures.some in
    subst Q c.self.view_is (second_lone g c.self.invariant.1 c.dart_of.ensures.map c.args.s next c.end-u.result c.end-u.ensures.value c.end-u.ensures.nodes c.in-Some-None.d
    dart (rw c.in-Some-None.is-1 at c.dart_of-2.ensures.none))

pub returns-in_ok-second-in-Some-Some-clause-some : goal.returns-in_ok-second-in-Some-Some-clause-some
returns-in_ok-second-in-Some-Some-clause-some c =
    let inside = c.self.inside in
    let g = grown_of inside.web.now inside.map inside.placed.items inside.free.items in
    let P : Grown → Type 0 = λ x. IsNext x c.args.s in
    let first = c.in_ok-first-in-Some-Some.first in
    let second = c.in_ok-second-in-Some-Some.second in
    let Q : Grown → Type 0 = λ x. MayPlace x c.args.s (After first) (After second) in
    let next = subst P (sym c.self.view_is) c.requires in
    let dart : IsDartOf inside.map.web.ends c.end-u.result.0 c.in-Some-Some.d = rw c.in-Some-Some.is-0 at c.dart_of.ensures.some in
    let R : ℕ → Type 0 = λ v. IsDartOf inside.map.web.ends v first in
    subst Q c.self.view_is (none_lone g c.self.invariant.1 c.dart_of.ensures.map c.args.s next c.end-u.result c.end-u.ensures.value c.end-u.ensures.nodes first second
    (subst R dart.1 c.in_ok-first-in-Some-Some.ensures.some.0) c.in_ok-second-in-Some-Some.ensures.some)

pub returns-in_err-first-in-Some-Some-clause-none : goal.returns-in_err-first-in-Some-Some-clause-none
returns-in_err-first-in-Some-Some-clause-none c =
    let inside = c.self.inside in
    let g = grown_of inside.web.now inside.map inside.placed.items inside.free.items in
    let P : Grown → Type 0 = λ x. IsNext x c.args.s in
    let Q : Grown → Type 0 = λ x. IsCutOff x c.args.s in
    let next = subst P (sym c.self.view_is) c.requires in
    let d_at : IsDartOf inside.map.web.ends c.end-u.result.0 c.in-Some-Some.d = rw c.in-Some-Some.is-0 at c.dart_of.ensures.some in
    let e_at : IsDartOf inside.map.web.ends c.end-u.result.1 c.in-Some-Some.field-0-1 = rw c.in-Some-Some.is-1 at c.dart_of-2.ensures.some in
    if_none c.from_residual.result (IsCutOff c.args.self.now c.args.s)
    (subst Q c.self.view_is (cut_off g c.self.invariant.1 c.dart_of.ensures.map c.args.s next c.end-u.result c.end-u.ensures.value c.end-u.ensures.nodes c.in-Some-Some.d
    c.in-Some-Some.field-0-1 d_at e_at c.in_err-first-in-Some-Some.ensures.none))

pub returns-in_err-second-in-Some-Some-clause-none : goal.returns-in_err-second-in-Some-Some-clause-none
returns-in_err-second-in-Some-Some-clause-none c = absurd (c.in_err-second-in-Some-Some.ensures.none (c.in_ok-first-in-Some-Some.ensures.some.1 0 (omega arith)))
