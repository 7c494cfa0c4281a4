use Rattle.std.proofs.Common.{ap, ◌∙◌}
use Rattle.xn_proof.specs.Forms.{Reached, is_end, start_state}
use Rattle.xn_proof.proofs.Ends.{ends_so}
use Rattle.xn_proof.proofs.forms.Forms.done.Goals as goal

pub returns-clause-stands : goal.returns-clause-stands
returns-clause-stands c = λ lines items stands. c.is_end.ensures ∙ ap (λ (s : Reached). is_end s.1) c.self.view_is ∙ ends_so start_state c.args.self.now lines items stands
