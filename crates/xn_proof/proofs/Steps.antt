-- Steps of reading that did not fail.
use Rattle.std.proofs.Common.{◌≡◌, zero, suc, Bool, true, false, cond, List, [], ◌∷◌, ◌++◌, Result, Ok, Err, refl, arith}
use Rattle.std.specs.List.{All}
use Rattle.xn_kinds.specs.declared.flaws.Flaw.{Flaw}
use Rattle.xn_proof.specs.Reading.{◌>>=◌}

-- the value of a step that did not fail
pub bind_ok : {A B : Type 0} (r : Result A Flaw) (f : A → Result B Flaw) (y : B) → (r >>= f) ≡ Ok y → (x : A) × (r ≡ Ok x) × (f x ≡ Ok y)
bind_ok (Ok x) f y e = (x, refl, e)
bind_ok (Err d) f y e = absurd cc

-- a test that did not fail
pub guard : {A : Type 0} (b : Bool) (d : Flaw) (r : Result A Flaw) (y : A) → cond b r (Err d) ≡ Ok y → (b ≡ true) × (r ≡ Ok y)
guard true d r y e = (refl, e)
guard false d r y e = absurd cc

-- a test that would have failed
pub pass : {A : Type 0} (b : Bool) (d : Flaw) (r : Result A Flaw) (y : A) → cond b (Err d) r ≡ Ok y → (b ≡ false) × (r ≡ Ok y)
pass true d r y e = absurd cc
pass false d r y e = (refl, e)

abbrev pub ok : {A : Type 0} → A → Result A Flaw
ok x = Ok x

pub ok_is : {A : Type 0} (x y : A) → ok x ≡ ok y → x ≡ y
ok_is x y e = cc

pub all_cons : {X : Type 0} (P : X → Type 0) (x : X) (xs : List X) → P x → All P xs → All P (x ∷ xs)
all_cons P x xs p ps zero d low = p
all_cons P x xs p ps (suc k) d low = ps k d (omega (arith, low))

pub all_first : {X : Type 0} (P : X → Type 0) (x : X) (xs : List X) → All P (x ∷ xs) → P x
all_first P x xs ps = ps 0 x (omega arith)

pub all_rest : {X : Type 0} (P : X → Type 0) (x : X) (xs : List X) → All P (x ∷ xs) → All P xs
all_rest P x xs ps k d low = ps (suc k) d (omega (arith, low))

pub all_none : {X : Type 0} (P : X → Type 0) → All P []
all_none P k d low = absurd (omega (arith, low))

-- one element more at the end
pub all_push : {X : Type 0} (P : X → Type 0) (xs : List X) (x : X) → All P xs → P x → All P (xs ++ x ∷ [])
all_push P [] x ps p = all_cons P x [] p (all_none P)
all_push P (y ∷ ys) x ps p = all_cons P y (ys ++ x ∷ []) (all_first P y ys ps) (all_push P ys x (all_rest P y ys ps) p)
