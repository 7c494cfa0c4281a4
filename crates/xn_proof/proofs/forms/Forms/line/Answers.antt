use Rattle.std.proofs.Common.{rules, ◌≡◌, Ok}
use Rattle.xn_proof.specs.Forms.{Reached, next_at, start_state}
use Rattle.xn_proof.proofs.Taken.{one_more_line}
use Rattle.xn_proof.proofs.forms.Forms.line.Goals as goal

pub returns-clause-stands : goal.returns-clause-stands
returns-clause-stands c =
    let t : Reached = (c.saturating_add-self-inside.result, c.in_ok-item.place) in
    let next : next_at c.args.self.now (c.args.bytes.now, c.args.ended) ≡ Ok (c.in_ok-item.item, t) = search rules in
    λ lines items stands. one_more_line start_state c.args.self.now t lines items (c.args.bytes.now, c.args.ended) c.in_ok-item.item stands next
