use Rattle.std.proofs.Common.{◌≡◌, ◌<◌, ◌^◌, take}
use Rattle.xn_text.specs.Number.{number_value}
use Rattle.xn_text.proofs.numbers.number_up_to.Given as goal

abbrev pub invariant-loop-digit : goal.invariant-loop-digit
invariant-loop-digit l = record { is : l.value ≡ number_value (take l.digit-index l.word); small : l.value < 2 ^ 64 }
