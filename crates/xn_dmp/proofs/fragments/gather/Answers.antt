use Rattle.std.proofs.Common.{◌≡◌, ℕ, ◌/◌, ◌++◌, [], ◌∷◌, List, ap, subst, sym, ◌∙◌}
use Rattle.std.specs.Prelude.{Option}
use Rattle.xn_map.specs.Anchored.{IsDartOf}
use Rattle.xn_dmp.specs.Fragments.{Gathers}
use Rattle.xn_dmp.proofs.Finding.{IsAt, gathers_more, next_at}
use Rattle.xn_dmp.proofs.fragments.gather.Goals.{then-take+in_ok-push, else-take}
use Rattle.xn_dmp.proofs.fragments.gather.Goals as goal

pub loop-dart-preserved : goal.loop-dart-preserved
loop-dart-preserved c =
    let g = c.args.growth.now in
    let v = c.args.v in
    let d = c.in-Some.d in
    let first = c.args.segments.now.items in
    let P : Option ℕ → Type 0 = λ o. IsAt g.web.ends v o in
    let here : IsDartOf g.web.ends v d = subst P c.in-Some.is c.loop-dart.invariant.here in
    record {
      found = elim c.if-take.branch [
        | then-take+in_ok-push w ↦
            rw (w.segments-is, w.in_ok-push.ensures.items)
            (gathers_more g c.take.ensures.grown first c.loop-dart.segments.items d v w.if-take.ensures.free here c.requires.new c.requires.touches c.loop-dart.invariant.found)
        | else-take w ↦ rw w.segments-is c.loop-dart.invariant.found
      ];
      here = next_at g.web.ends v d c.earlier-dart.result here c.earlier-dart.ensures.same_node;
    }
