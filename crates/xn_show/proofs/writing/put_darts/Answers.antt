use Rattle.std.proofs.Common.{◌∷◌, [], ◌++◌, ◌∙◌, sym, ap}
use Rattle.xn_model.specs.Lists.{at}
use Rattle.xn_model.specs.Permutation.{walk}
use Rattle.xn_model.proofs.Decide.{length-walk}
use Rattle.xn_show.specs.Text.{spaced}
use Rattle.xn_show.proofs.Appended.{spaced_more}
use Rattle.xn_show.proofs.TurnSteps.{iterate_more, walk_more}
use Rattle.xn_show.proofs.writing.put_darts.Goals as goal

pub loop-i-preserved : goal.loop-i-preserved
loop-i-preserved c =
    let f = at c.args.next.now in
    let least = at c.args.star.now 0 in
    let old = c.loop-i.invariant in
    let i = c.loop-i.i in
    record {
      text = spaced_more (walk f i least) i c.loop-i.d c.args.to.now.items c.loop-i.to.items c.put_dart.new.to.items (length-walk f i least) old.text c.in_ok-put_dart.ensures
          ∙ ap (λ ds. c.args.to.now.items ++ spaced ds) (ap (λ e. walk f i least ++ e ∷ []) old.dart ∙ sym (walk_more f i least));
      dart = ap f old.dart ∙ iterate_more f i least;
      inside = λ more. c.requires.inside c.loop-i.d (old.inside c.loop-i-test.true);
    }
