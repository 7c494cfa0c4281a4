use Rattle.xn_proof.proofs.Appended.{line_put}
use Rattle.xn_proof.proofs.writing.put_line.Goals as goal

pub returns : goal.returns
returns c = line_put c.args.key.now c.args.numbers.now c.args.to.now.items c.extend_from_slice.new.self.items c.put_numbers.new.to.items c.push.new.self.items c.in_ok-extend_from_slice.ensures.items c.in_ok-put_numbers.ensures c.in_ok-push.ensures.items
