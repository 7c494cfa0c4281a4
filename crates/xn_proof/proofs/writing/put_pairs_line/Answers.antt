use Rattle.xn_proof.specs.Spelling.{numbers_of}
use Rattle.xn_proof.proofs.Appended.{line_put_two}
use Rattle.xn_proof.proofs.writing.put_pairs_line.Goals as goal

pub returns : goal.returns
returns c = line_put_two c.args.key.now c.args.numbers.now (numbers_of c.args.pairs.now) c.args.to.now.items c.extend_from_slice.new.self.items c.put_numbers.new.to.items c.put_pairs.new.to.items c.push.new.self.items c.in_ok-extend_from_slice.ensures.items c.in_ok-put_numbers.ensures c.in_ok-put_pairs.ensures c.in_ok-push.ensures.items
