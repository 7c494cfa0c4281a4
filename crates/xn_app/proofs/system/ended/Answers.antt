use Rattle.std.proofs.Common.{refl, rules}
use Rattle.xn_app.specs.Status.{IsSilent}
use Rattle.xn_app.proofs.Lines.{never_write}
use Rattle.xn_app.proofs.system.ended.Goals as goal

pub returns : goal.returns
returns g c =
    let silent : IsSilent c.in-Err.end = search rules in
    record {
      end = c.in-Err.end;
      code_is = c.tell-in-Err.ensures.code;
      says = c.tell-in-Err.ensures.says;
      write = λ writes. absurd (never_write c.in-Err.end silent writes);
      untouched = λ quiet. (refl, refl);
    }
