use Rattle.std.proofs.Common.{◌≡◌, [], ◌++◌, sym, ap, ◌∙◌, rules}
use Rattle.xn_check.specs.Judge.{rules_of, said_of}
use Rattle.xn_stream.proofs.Come.{found_line}
use Rattle.xn_stream.proofs.Taking.{is_nil}
use Rattle.xn_stream.proofs.parts.end_line.Goals as goal

pub returns-then-is_empty-clause-finds : goal.returns-then-is_empty-clause-finds
returns-then-is_empty-clause-finds c =
    let j = c.args.judge.now in
    let none : c.args.begun.now.items ≡ [] = is_nil c.args.begun.now.items (search rules) in
    λ text come.
    found_line (rules_of j) text c.args.bytes.now c.args.bytes.now j.at c.line.new.self.at (said_of j) (said_of c.line.new.self)
    c.args.begun.now.items c.args.begun.now.items c.line.result come c.requires.lacks (sym (ap (λ b. b ++ c.args.bytes.now) none)) none
    c.line.ensures.took

pub returns-clause-finds : goal.returns-clause-finds
returns-clause-finds c =
    let j = c.args.judge.now in
    λ text come.
    found_line (rules_of j) text c.args.bytes.now c.as_slice.result.now j.at c.line-result.new.self.at (said_of j) (said_of c.line-result.new.self)
    c.args.begun.now.items c.clear.new.self.items c.line-result.result come c.requires.lacks (c.as_slice.ensures.value ∙ c.in_ok-extend_from_slice.ensures.items) c.clear.ensures.items
    c.line-result.ensures.took
