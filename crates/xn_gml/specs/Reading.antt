-- Reading in steps, with the first refusal.
use Rattle.std.specs.Prelude.{◌≡◌, Result, Ok, Err}
use Rattle.xn_gml.specs.declared.errors.GmlErr.{GmlErr}
use Rattle.xn_gml.specs.declared.errors.GmlErr.TheVariants as errors

infixl 10 ◌>>=◌
abbrev pub ◌>>=◌ : {A B : Type 0} → Result A GmlErr → (A → Result B GmlErr) → Result B GmlErr
(Ok x) >>= f = f x
(Err e) >>= f = Err e

-- an error is want of memory, or what reading gives
abbrev pub Fails : {Y : Type 0} → GmlErr → Result Y GmlErr → Type 0
Fails errors.Memory read = Unit {0}
Fails e read = read ≡ Err e

-- what a function returned, seen by view, is what reading gives, unless memory ran out
abbrev pub Gives : {X Y : Type 0} → (X → Y) → Result X GmlErr → Result Y GmlErr → Type 0
Gives view (Ok x) read = read ≡ Ok (view x)
Gives view (Err e) read = Fails e read
