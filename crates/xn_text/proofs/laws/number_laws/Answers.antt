use Rattle.std.proofs.Common.{decimal, refl, arith}
use Rattle.xn_text.proofs.Digits.{is_spelled, spelled_is}
use Rattle.xn_text.proofs.Spellings.{spelling_lacks, one_spelling, one_signed_spelling}
use Rattle.xn_text.proofs.laws.number_laws.Goals as goal

pub returns-clause-read : goal.returns-clause-read
returns-clause-read c = λ bound n fits below. spelled_is bound (decimal n) n fits below refl

pub returns-clause-spelled : goal.returns-clause-spelled
returns-clause-spelled c = is_spelled

pub returns-clause-one : goal.returns-clause-one
returns-clause-one c = λ m n p q. one_spelling m n (omega arith) (omega arith)

pub returns-clause-one_signed : goal.returns-clause-one_signed
returns-clause-one_signed c = one_signed_spelling

pub returns-clause-word : goal.returns-clause-word
returns-clause-word c = λ n small. (spelling_lacks 10 n (omega arith) (omega arith), spelling_lacks 32 n (omega arith) (omega arith))
