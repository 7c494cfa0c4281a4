use Rattle.std.proofs.Common.{◌++◌, ◌∷◌, [], drop, length, sym, ◌∙◌, ap, subst, arith, length-append}
use Rattle.std.proofs.lemmas.List.{length-take}
use Rattle.xn_simple.specs.Tangle.{lists_in}
use Rattle.xn_simple.proofs.Sharing.{independent_turned}
use Rattle.xn_simple.proofs.Untangled.{Untangling, none_left, none_open, step_taken}
use Rattle.xn_simple.proofs.tangle.Tangle.untangle.Goals as goal

pub loop-e-init : goal.loop-e-init
loop-e-init c =
    let g = c.args.graph.now in
    let t = lists_in c.args.self.now in
    record {
      untangling = subst (Untangling g t t) (sym (c.in_ok-open.ensures.items ∙ c.deref.ensures.value)) (none_open g t c.requires);
      met = omega (arith, c.in_ok-met.ensures.len, c.in_ok-met.met.ok.0, c.edges.ensures.value);
    }

pub loop-e-preserved-in-Continue-branch-5 : goal.loop-e-preserved-in-Continue-branch-5
loop-e-preserved-in-Continue-branch-5 c =
    let g = c.args.graph.now in
    let start = lists_in c.args.self.now in
    let t = lists_in c.loop-e.self in
    let new = lists_in c.take_step.new.self in
    let rest = c.pop.new.self.items in
    let e = c.in-Some.e in
    let f = c.in_ok-other.other in
    let met = c.find.new.met in
    let last = drop (length met) c.loop-e.met.items in
    let before = subst (Untangling g start t) c.in-Some.ensures.items c.loop-e.invariant.untangling in
    let step = c.in_ok-other.ensures g before.tangle c.in-Some-find.ensures.some in
    let stack = c.in_ok-push-2.ensures.items ∙ ap (λ xs. xs ++ f ∷ []) c.in_ok-push.ensures.items in
    record {
      untangling = subst (Untangling g start new) (sym stack) (step_taken g start t rest e before new f step);
      met = omega (arith, length-take c.loop-e.met.len (met ++ last), length-append met last, c.find.ensures.met, c.loop-e.met.ok.0, c.loop-e.invariant.met);
    }

pub loop-e-preserved : goal.loop-e-preserved
loop-e-preserved c =
    let g = c.args.graph.now in
    let start = lists_in c.args.self.now in
    let t = lists_in c.loop-e.self in
    let met = c.find.new.met in
    let last = drop (length met) c.loop-e.met.items in
    let before = subst (Untangling g start t) c.in-Some.ensures.items c.loop-e.invariant.untangling in
    record {
      untangling = none_left g start t c.pop.new.self.items c.in-Some.e before (independent_turned g.ends) c.in_default-find.ensures.none;
      met = omega (arith, length-take c.loop-e.met.len (met ++ last), length-append met last, c.find.ensures.met, c.loop-e.met.ok.0, c.loop-e.invariant.met);
    }
