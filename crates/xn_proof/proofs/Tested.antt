-- Values that are tested one after the other, as a loop does, with none of them kept.
use Rattle.std.proofs.Common.{◌≡◌, ◌≢◌, ℕ, ◌-◌, ◌^◌, ◌≤◌, List, [], ◌∷◌, Option, Some, Result, Ok, Err, map, refl, arith}
use Rattle.std.proofs.lemmas.Bool.{lt-ltb}
use Rattle.xn_kinds.specs.declared.flaws.Flaw.{Flaw}
use Rattle.xn_text.specs.declared.numbers.WordNumber.{WordNumber}
use Rattle.xn_text.specs.declared.numbers.WordNumber.TheVariants.{Not, Large, Is}
use Rattle.xn_proof.specs.declared.flaw.AnswerErr.{AnswerErr}
use Rattle.xn_proof.specs.declared.flaw.AnswerErr.TheVariants as errors
use Rattle.xn_proof.specs.Ranges.{at_most, below, factor, large_of, parts_of, parts_at, small_of}
use Rattle.xn_proof.specs.Reading.{Fails, each_at, spelled, syntax, value_of}
use Rattle.xn_proof.proofs.Values.{at_most_is, below_is, factor_is}

-- what is read of the values that are left is read of all
abbrev pub Leads : {X Y : Type 0} → (List X → Result Y Flaw) → (List X → Y) → List X → List X → Type 0
Leads read view left all = (read left ≡ Ok (view left) → read all ≡ Ok (view all)) × ((e : Flaw) → read left ≡ Err e → read all ≡ Err e)

-- ---- each by itself

pub each_leads : {X Y : Type 0} (f : X → Result Y Flaw) (known : X → Y) (left : List X) (x : X) (rest all : List X) → left ≡ x ∷ rest → f x ≡ Ok (known x) → Leads (each_at f) (map known) left all → Leads (each_at f) (map known) rest all
unfolding each_at
each_leads f known left x rest all is here leads = (λ h. leads.0 (rw (is, here, h) refl), λ e h. leads.1 e (rw (is, here, h) refl))

pub each_fails : {X Y : Type 0} (f : X → Result Y Flaw) (known : X → Y) (e : AnswerErr) (left : List X) (x : X) (rest all : List X) → left ≡ x ∷ rest → Fails e (f x) → Leads (each_at f) (map known) left all → Fails e (each_at f all)
unfolding each_at
each_fails f known errors.Memory left x rest all is failed leads = tt
each_fails f known (errors.Refused flaw) left x rest all is failed leads = leads.1 flaw (rw (is, failed) refl)

pub each_ends : {X Y : Type 0} (f : X → Result Y Flaw) (known : X → Y) (left all : List X) → left ≡ [] → Leads (each_at f) (map known) left all → each_at f all ≡ Ok (map known all)
unfolding each_at
each_ends f known left all is leads = leads.0 (rw is refl)

-- a word that is a number
pub spelled_is : (i : ℕ) (r : WordNumber) → r ≢ Not → value_of i r ≡ Ok (spelled r)
spelled_is i (Is n) some = refl
spelled_is i Large some = refl
spelled_is i Not some = absurd (some refl)

-- a word that is none
pub not_spelled : (i : ℕ) (r : WordNumber) → r ≡ Not → value_of i r ≡ Err (syntax i)
not_spelled i r not = rw not refl

-- a number in its range is what is kept of it
pub small_is : (i : ℕ) (v : Option ℕ) (n : ℕ) → at_most i (2 ^ 32 - 1) v ≡ Ok n → at_most i (2 ^ 32 - 1) v ≡ Ok (small_of v)
small_is i v n e =
    let is = at_most_is i (2 ^ 32 - 1) v n e in
    let low = is.1 in
    let value : v ≡ Some n = is.0 in
    let kept : small_of (Some n) ≡ n = rw (lt-ltb n (2 ^ 32) (omega (arith, low))) refl in
    rw (e, value, kept) refl

-- ---- two by two

pub parts_lead : (rows i : ℕ) (left : List (Option ℕ)) (v w : Option ℕ) (rest all : List (Option ℕ)) (row multiplier : ℕ) → rows ≤ 2 ^ 32 → left ≡ v ∷ w ∷ rest → below i rows v ≡ Ok row → factor i w ≡ Ok multiplier
    → Leads (parts_at rows i) parts_of left all → Leads (parts_at rows i) parts_of rest all
unfolding parts_at
parts_lead rows i left v w rest all row multiplier few is first second leads =
    let row_is = below_is i rows v row first in
    let multiplier_is = factor_is i w multiplier second in
    let low = row_is.1 in
    let v_is : v ≡ Some row = row_is.0 in
    let w_is : w ≡ Some multiplier = multiplier_is.0 in
    let kept : small_of (Some row) ≡ row = rw (lt-ltb row (2 ^ 32) (omega (arith, few, low))) refl in
    let front : below i rows v ≡ Ok (small_of v) = rw (first, v_is, kept) refl in
    let back : factor i w ≡ Ok (large_of w) = rw (second, w_is) refl in
    (λ h. leads.0 (rw (is, front, back, h) refl), λ e h. leads.1 e (rw (is, front, back, h) refl))

pub parts_fail_first : (rows i : ℕ) (e : AnswerErr) (left : List (Option ℕ)) (v w : Option ℕ) (rest all : List (Option ℕ)) → left ≡ v ∷ w ∷ rest → Fails e (below i rows v)
    → Leads (parts_at rows i) parts_of left all → Fails e (parts_at rows i all)
unfolding parts_at
parts_fail_first rows i errors.Memory left v w rest all is failed leads = tt
parts_fail_first rows i (errors.Refused flaw) left v w rest all is failed leads = leads.1 flaw (rw (is, failed) refl)

pub parts_fail_second : (rows i : ℕ) (e : AnswerErr) (left : List (Option ℕ)) (v w : Option ℕ) (rest all : List (Option ℕ)) (row : ℕ) → left ≡ v ∷ w ∷ rest → below i rows v ≡ Ok row → Fails e (factor i w)
    → Leads (parts_at rows i) parts_of left all → Fails e (parts_at rows i all)
unfolding parts_at
parts_fail_second rows i errors.Memory left v w rest all row is first failed leads = tt
parts_fail_second rows i (errors.Refused flaw) left v w rest all row is first failed leads = leads.1 flaw (rw (is, first, failed) refl)

pub parts_odd : (rows i : ℕ) (left : List (Option ℕ)) (v : Option ℕ) (all : List (Option ℕ)) → left ≡ v ∷ [] → Leads (parts_at rows i) parts_of left all → parts_at rows i all ≡ Err (syntax i)
unfolding parts_at
parts_odd rows i left v all is leads = leads.1 (syntax i) (rw is refl)

pub parts_end : (rows i : ℕ) (left all : List (Option ℕ)) → left ≡ [] → Leads (parts_at rows i) parts_of left all → parts_at rows i all ≡ Ok (parts_of all)
unfolding parts_at
parts_end rows i left all is leads = leads.0 (rw is refl)
