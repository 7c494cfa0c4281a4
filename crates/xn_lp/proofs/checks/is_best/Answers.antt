use Rattle.std.proofs.Common.{◌≡◌, length, arith}
use Rattle.std.proofs.lemmas.Result.{IfOk-weaker}
use Rattle.std.specs.Prelude.{IsTrue}
use Rattle.xn_lp.specs.Box.{entry}
use Rattle.xn_lp.specs.Program.{IsBest}
use Rattle.xn_lp.proofs.Certificates.{best_is}
use Rattle.xn_lp.proofs.checks.is_best.Goals as goal

pub returns : goal.returns
returns c =
    let len_point : length c.args.point.now ≡ length c.args.lp.now.cost = omega arith in
    let len_duals : length c.args.duals.now ≡ length c.args.lp.now.rows = omega arith in
    IfOk-weaker c.is_best_scaled.result _
    (λ yes. IsTrue yes → (length c.args.point.now ≡ length c.args.lp.now.cost) × (length c.args.duals.now ≡ length c.args.lp.now.rows)
    × IsBest c.args.lp.now (entry c.args.point.now) (entry c.args.duals.now))
    (λ yes h t. (len_point, len_duals, best_is c.args.lp.now c.args.point.now c.args.duals.now _ _ _ _ c.requires len_point len_duals c.in_ok-point.ensures c.in_ok-duals.ensures (h t)))
    c.is_best_scaled.ensures
