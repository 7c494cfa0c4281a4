-- What digits spell, read from the left; and places of bytes.
use Rattle.std.proofs.Common.{◌≡◌, ℕ, ◌+◌, ◌-◌, ◌*◌, ◌^◌, ◌<◌, ◌≤◌, Bool, true, false, List, length, take, get_or, Some, None, position, unwrap_or, refl, sym, ap, ltb, nat_le, cond, slice_index, ◌==◌, ◌∙◌, rules, arith}
use Rattle.std.specs.Char.{is_ascii_digit, digit_value}
use Rattle.std.specs.List.{list_all, position_or_len}
use Rattle.std.specs.Str.Parse.{digits_value}
use Rattle.std.specs.Int.{IsInRange}
use Rattle.std.proofs.lemmas.Bool.{ltb-false, le-ltb}
use Rattle.std.proofs.lemmas.Bool.Decides.{nat_tests}
use Rattle.std.proofs.lemmas.Int.Digits.{digits_value_more}
use Rattle.std.proofs.lemmas.List.Sums.{prefix_len-le-length}
use Rattle.std.proofs.lemmas.Str.Parse.{IsNumeralModel, numerals_by_value, digits_value-take-le, digit_at}
use Rattle.xn_gml.specs.Runs.{unsigned, is_digits, signed, integer_of}

own : IsNumeralModel (λ ds. list_all is_ascii_digit ds ≡ true) (digits_value 10)
own = numerals_by_value _ (search rules)

digit_is : (c : ℕ) → IsInRange 48 57 c → digit_value c ≡ c - 48
digit_is c h = grind (arith, nat_tests)

-- one more digit
pub value_more : (ds : List ℕ) (i : ℕ) → list_all is_ascii_digit ds ≡ true → i < length ds → digits_value 10 (take (i + 1) ds) ≡ digits_value 10 (take i ds) * 10 + (get_or ds i 0 - 48)
value_more ds i digits h =
    digits_value_more 10 ds i h ∙ ap (λ (d : ℕ). digits_value 10 (take i ds) * 10 + d) (digit_is (get_or ds i 0) (digit_at ds i (own.to ds digits) h))

-- digits whose first ones reach the bound reach it
pub reaches : (ds : List ℕ) (i v : ℕ) → list_all is_ascii_digit ds ≡ true → i < length ds → v ≡ digits_value 10 (take i ds) → 2 ^ 64 ≤ v * 10 + (get_or ds i 0 - 48) → 2 ^ 64 ≤ digits_value 10 ds
reaches ds i v digits h is large =
    let more = value_more ds i digits h in
    let part : digits_value 10 (take (i + 1) ds) ≤ digits_value 10 ds = digits_value-take-le 10 ds (i + 1) (omega arith) in
    omega (arith, more, is, part, large)

place_by : (b : Bool) (m n : ℕ) → ltb m n ≡ b → m ≤ n → unwrap_or (cond b (Some m) None) n ≡ m
place_by true m n e h = refl
place_by false m n e h = omega (arith, ltb-false m n e)

-- the first place that passes, or the length
pub place_is : (p : ℕ → Bool) (xs : List ℕ) → unwrap_or (position p xs) (length xs) ≡ position_or_len p xs
place_is p xs = place_by (ltb (position_or_len p xs) (length xs)) (position_or_len p xs) (length xs) refl (prefix_len-le-length _ xs)

signed_large : (minus : Bool) (n : ℕ) → 2 ^ 64 ≤ n → signed minus n ≡ None
unfolding signed
signed_large true n h = let e : nat_le n (2 ^ 63) ≡ false = grind (arith, nat_tests) in rw e refl
signed_large false n h = rw (le-ltb n (2 ^ 63) (omega arith)) refl

-- digits whose value is too large are no integer of 64 bits
pub large_is : (run digits : List ℕ) → digits ≡ unsigned run → is_digits digits ≡ true → 2 ^ 64 ≤ digits_value 10 digits → None ≡ integer_of run
unfolding integer_of
large_is run digits e told h =
    let d : is_digits (unsigned run) ≡ true = ap is_digits (sym e) ∙ told in
    let v : 2 ^ 64 ≤ digits_value 10 (unsigned run) = omega (arith, h, ap (digits_value 10) e) in
    rw d (sym (signed_large (slice_index run 0 == 45) (digits_value 10 (unsigned run)) v))
