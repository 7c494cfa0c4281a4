use Rattle.std.proofs.Common.{ℕ, ◌∙◌, sym}
use Rattle.std.specs.Prelude.{◌==◌}
use Rattle.xn_text.specs.Pieces.{words_of}
use Rattle.xn_text.proofs.Split.{split_at, split_none}
use Rattle.xn_proof.proofs.Words.{keyed_alone, keyed_behind}
use Rattle.xn_proof.proofs.numbers.keyed_numbers.Goals as goal

pub returns-in-Some : goal.returns-in-Some
returns-in-Some c =
    let is = split_at (λ (b : ℕ). b == 32) c.args.line.now c.in-Some.at c.in-Some.ensures in
    let has = sym c.has_key.ensures ∙ c.if-not-has_key.false in
    rw (keyed_behind c.args.key.now c.args.number (words_of c.args.line.now) _ _ has is) c.all_numbers.ensures

pub returns-in-None : goal.returns-in-None
returns-in-None c =
    let has = sym c.has_key.ensures ∙ c.if-not-has_key.false in
    keyed_alone c.args.key.now c.args.number (words_of c.args.line.now) _ has (split_none (λ (b : ℕ). b == 32) c.args.line.now c.in-None.ensures)
