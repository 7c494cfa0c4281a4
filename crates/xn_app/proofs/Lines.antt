-- The line that says why a run ended, and the exit code.
use Rattle.std.proofs.Common.{◌≡◌, ◌⊎◌, ℕ, inl, inr, List, Option, Result, Ok, Err, OnOk, OnErr, refl, subst, arith}
use Rattle.std.specs.Io.KnownBytes.{Appends}
use Rattle.xn_io.specs.Causes.{HasCause, Rose}
use Rattle.xn_io.specs.Sink.{TakesPart}
use Rattle.xn_app.specs.Status.{IsSilent, code_of}
use Rattle.xn_app.specs.declared.status.Status.{Status}
use Rattle.xn_app.specs.declared.status.Status.TheVariants.{Done, Refused, Words, Graph, Limit, Read, Undecided, Write, Memory}

-- bytes were written, or a front of them and the sink failed
pub said : {E : Type 0} (r : Result Unit E) (old new : Option (List ℕ)) (bytes : List ℕ) (before after : ℕ) →
    OnOk r (Appends old new bytes) → OnErr r (TakesPart old new bytes) → HasCause before after r →
    Appends old new bytes ⊎ (TakesPart old new bytes × Rose before after)
said (Ok u) old new bytes before after ok err cause = inl ok
said (Err e) old new bytes before after ok err cause = inr (err, cause.failed)

-- the code 0 is that of one end
pub zero_is_done : (end : Status) → 0 ≡ code_of end → end ≡ Done
zero_is_done Done zero = refl
zero_is_done (Refused flaw) zero = absurd (omega (arith, zero))
zero_is_done Words zero = absurd (omega (arith, zero))
zero_is_done (Graph e) zero = absurd (omega (arith, zero))
zero_is_done (Limit l) zero = absurd (omega (arith, zero))
zero_is_done (Undecided lower upper spent) zero = absurd (omega (arith, zero))
zero_is_done Read zero = absurd (omega (arith, zero))
zero_is_done Write zero = absurd (omega (arith, zero))
zero_is_done Memory zero = absurd (omega (arith, zero))

-- a silent end isn't that of a failed write
pub never_write : (end : Status) → IsSilent end → end ≡ Write → ⊥
never_write end silent writes = subst IsSilent writes silent
