use Rattle.std.proofs.Common.{ℕ, ◌<◌, arith}
use Rattle.std.specs.Prelude.{◌==◌}
use Rattle.xn_text.specs.Pieces.{words_of}
use Rattle.xn_text.proofs.Split.{split_at, split_none}
use Rattle.xn_proof.proofs.Words.{first_value, last_value, one_fewer}
use Rattle.xn_proof.proofs.numbers.Numbers.next.Goals as goal

pub invariant_of-self : goal.invariant_of-self
invariant_of-self c =
    one_fewer (words_of c.self.inside.words.now) c.self.inside.left _ _ c.self.invariant (split_at (λ (b : ℕ). b == 32) c.self.inside.words.now c.in-Some.at c.in-Some.ensures)

pub returns-in-Some-clause-some : goal.returns-in-Some-clause-some
returns-in-Some-clause-some c =
    let some : 0 < c.self.inside.left = omega arith in
    rw (← c.self.view_is, c.number_of.ensures) (first_value (words_of c.self.inside.words.now) c.self.inside.left _ _ some (split_at (λ (b : ℕ). b == 32) c.self.inside.words.now c.in-Some.at c.in-Some.ensures))

pub returns-in-None-clause-some : goal.returns-in-None-clause-some
returns-in-None-clause-some c =
    let some : 0 < c.self.inside.left = omega arith in
    rw (← c.self.view_is, c.number_of-in-None.ensures) (last_value (words_of c.self.inside.words.now) c.self.inside.left _ some c.self.invariant (split_none (λ (b : ℕ). b == 32) c.self.inside.words.now c.in-None.ensures))
