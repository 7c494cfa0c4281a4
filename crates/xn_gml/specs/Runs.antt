-- What a run of bytes is: a word, a number, or malformed.
use Rattle.std.specs.Prelude.{ℕ, ℤ, pos, ◌+◌, ◌^◌, ◌==◌, nat_lt, nat_le, Bool, not, ◌&&◌, ◌||◌, List, length, take, drop, slice_index, position, Option, None, Some, if◌then◌else◌, codes}
use Rattle.std.specs.Char.{is_ascii_alphabetic, is_ascii_digit}
use Rattle.std.specs.List.{list_all}
use Rattle.std.specs.Str.{bytes_eq}
use Rattle.std.specs.Str.Parse.{digits_value}
use Rattle.std.proofs.Common.{neg_ℤ}
use Rattle.xn_gml.specs.declared.token.Key.{Key}
use Rattle.xn_gml.specs.declared.token.Key.TheVariants as key
use Rattle.xn_gml.specs.declared.token.Kind.{Kind}
use Rattle.xn_gml.specs.declared.token.Kind.TheVariants.{Word, Number, Malformed}

-- a letter of ASCII or `_`
abbrev pub is_letter : ℕ → Bool
is_letter b = is_ascii_alphabetic b || b == 95

-- a letter, a digit or `_`
abbrev pub is_word_byte : ℕ → Bool
is_word_byte b = is_letter b || is_ascii_digit b

-- a letter or `_`, followed by letters, digits and `_`
unfoldable pub is_word : List ℕ → Bool
is_word run = not (length run == 0) && is_letter (slice_index run 0) && list_all is_word_byte run

-- the word among those that the reader knows
unfoldable pub key_of : List ℕ → Key
key_of word =
    if bytes_eq word (codes "graph") then key.Graph else
    (if bytes_eq word (codes "node") then key.Node else
    (if bytes_eq word (codes "edge") then key.Edge else
    (if bytes_eq word (codes "id") then key.Id else
    (if bytes_eq word (codes "source") then key.Source else
    (if bytes_eq word (codes "target") then key.Target else key.Other)))))

-- `+` or `-`
abbrev pub is_sign : ℕ → Bool
is_sign b = b == 43 || b == 45

-- what follows an optional sign
unfoldable pub unsigned : List ℕ → List ℕ
unsigned run = if is_sign (slice_index run 0) then drop 1 run else run

-- at least one digit, and nothing else
unfoldable pub is_digits : List ℕ → Bool
is_digits run = not (length run == 0) && list_all is_ascii_digit run

abbrev pub is_dot : ℕ → Bool
is_dot b = b == 46

-- digits, given the place of the first `.`: there may be one, and at least one digit stands beside it
abbrev pub is_decimal_by : List ℕ → Option ℕ → Bool
is_decimal_by run None = is_digits run
is_decimal_by run (Some n) =
    list_all is_ascii_digit (take n run) && list_all is_ascii_digit (drop (n + 1) run) && nat_lt 1 (length run)

-- digits, optionally `.` and digits, at least one digit in all
unfoldable pub is_decimal : List ℕ → Bool
is_decimal run = is_decimal_by run (position is_dot run)

-- `E` or `e`
abbrev pub is_e : ℕ → Bool
is_e b = b == 69 || b == 101

-- such digits, given the place of the first `E` or `e`: an optional sign and at least one digit follow it
abbrev pub is_scaled_by : List ℕ → Option ℕ → Bool
is_scaled_by run None = is_decimal run
is_scaled_by run (Some n) = is_decimal (take n run) && is_digits (unsigned (drop (n + 1) run))

-- such digits, optionally with an exponent
unfoldable pub is_scaled : List ℕ → Bool
is_scaled run = is_scaled_by run (position is_e run)

-- an optional sign and such digits
abbrev pub is_number : List ℕ → Bool
is_number run = is_scaled (unsigned run)

-- a sign and a value, where they fit 64 bits
unfoldable pub signed : Bool → ℕ → Option ℤ
signed minus n =
    if minus then (if nat_le n (2 ^ 63) then Some (neg_ℤ (pos n)) else None)
    else (if nat_lt n (2 ^ 63) then Some (pos n) else None)

-- the value of an optional sign and digits, where it fits 64 bits
unfoldable pub integer_of : List ℕ → Option ℤ
integer_of run =
    if is_digits (unsigned run) then signed (slice_index run 0 == 45) (digits_value 10 (unsigned run)) else None

-- what a run is
unfoldable pub kind_of_run : List ℕ → Kind
kind_of_run run =
    if is_word run then Word (key_of run) else (if is_number run then Number (integer_of run) else Malformed)
