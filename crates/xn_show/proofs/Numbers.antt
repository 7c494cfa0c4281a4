-- Spellings of numbers as runs and in strings.
use Rattle.std.proofs.Common.{◌≡◌, ℕ, ℤ, pos, negsuc, suc, ◌^◌, ◌<◌, ◌==◌, Bool, true, false, cond, ltb, List, [], ◌∷◌, ◌++◌, length, Option, Some, None, decimal, FitsSigned, refl, ap, ◌∙◌, subst, arith}
use Rattle.std.specs.Char.{is_ascii_digit}
use Rattle.std.specs.Fmt.{signed_decimal}
use Rattle.std.specs.Int.{IsInRange, w64}
use Rattle.std.specs.List.{list_all, AllByRecursion}
use Rattle.std.specs.Str.Parse.{AllDigits, digits_value}
use Rattle.std.proofs.lemmas.Bool.{lt-ltb, le-ltb, ne_eqb}
use Rattle.std.proofs.lemmas.Bool.Decides.{nat_tests}
use Rattle.std.proofs.lemmas.Fmt.{decimal_is_IsNumeral_wide}
use Rattle.std.proofs.lemmas.Str.Parse.{digit_from_value}
use Rattle.xn_gml.specs.declared.token.Kind.{Kind}
use Rattle.xn_gml.specs.declared.token.Kind.TheVariants.{Number}
use Rattle.xn_gml.specs.Rules.{NonePasses, IsStopped}
use Rattle.xn_gml.specs.Runs.{is_letter, is_word, is_sign, is_dot, is_e, unsigned, is_digits, is_decimal, is_scaled, is_number, signed, integer_of, kind_of_run}
use Rattle.xn_gml.specs.Tokens.{is_quote, ends_run}
use Rattle.xn_gml.proofs.TokenRules.{missing}
use Rattle.xn_show.specs.Text.{spaced}
use Rattle.xn_show.proofs.TokenKinds.{Reads, run_first}

-- an integer as a token
abbrev pub integer : ℕ → Kind
integer n = Number (Some (pos n))

-- each byte is a digit
abbrev pub Digits : List ℕ → Type 0
Digits [] = Unit {0}
Digits (b ∷ bs) = IsInRange 48 57 b × Digits bs

digits_from : (ds : List ℕ) → AllDigits 10 ds → Digits ds
digits_from [] all = tt
digits_from (d ∷ ds) all = (digit_from_value d all.0, digits_from ds all.1)

pub decimal_digits : (n : ℕ) → n < 10 ^ 64 → Digits (decimal n)
decimal_digits n small = digits_from (decimal n) (decimal_is_IsNumeral_wide n small).0.1

-- a test that no digit passes
lacks_digits : (test : ℕ → Bool) → ((b : ℕ) → IsInRange 48 57 b → test b ≡ false) → (ds : List ℕ) → Digits ds → NonePasses test ds
lacks_digits test none [] digits = tt
lacks_digits test none (d ∷ ds) digits = (none d digits.0, lacks_digits test none ds digits.1)

digit_no_quote : (b : ℕ) → IsInRange 48 57 b → is_quote b ≡ false
digit_no_quote b h = grind (arith, nat_tests)

digit_no_end : (b : ℕ) → IsInRange 48 57 b → ends_run b ≡ false
digit_no_end b h = grind (arith, nat_tests)

digit_no_hash : (b : ℕ) → IsInRange 48 57 b → (b == 35) ≡ false
digit_no_hash b h = grind (arith, nat_tests)

digit_no_letter : (b : ℕ) → IsInRange 48 57 b → is_letter b ≡ false
digit_no_letter b h = grind (arith, nat_tests)

digit_no_sign : (b : ℕ) → IsInRange 48 57 b → is_sign b ≡ false
digit_no_sign b h = grind (arith, nat_tests)

digit_no_dot : (b : ℕ) → IsInRange 48 57 b → is_dot b ≡ false
digit_no_dot b h = grind (arith, nat_tests)

digit_no_e : (b : ℕ) → IsInRange 48 57 b → is_e b ≡ false
digit_no_e b h = grind (arith, nat_tests)

digit_no_minus : (b : ℕ) → IsInRange 48 57 b → (b == 45) ≡ false
digit_no_minus b h = grind (arith, nat_tests)

digit_is : (b : ℕ) → IsInRange 48 57 b → is_ascii_digit b ≡ true
digit_is b h = grind (arith, nat_tests)

-- ---- what digits are

all_digits : (ds : List ℕ) → Digits ds → list_all is_ascii_digit ds ≡ true
all_digits [] digits = refl
all_digits (d ∷ ds) digits = rw (digit_is d digits.0, all_digits ds digits.1) refl

no_place : (n : ℕ) → cond (ltb n n) (Some n) None ≡ None
no_place n = rw (le-ltb n n (omega arith)) refl

module _ (d : ℕ) (ds : List ℕ) (digits : Digits (d ∷ ds)) where
  not_empty : (length (d ∷ ds) == 0) ≡ false
  not_empty = ne_eqb (length (d ∷ ds)) 0 (λ e. omega (arith, e))

  no_word : is_word (d ∷ ds) ≡ false
  unfolding is_word
  no_word = rw (not_empty, digit_no_letter d digits.0) refl

  unsigned_is : unsigned (d ∷ ds) ≡ d ∷ ds
  unfolding unsigned
  unsigned_is = rw (digit_no_sign d digits.0) refl

  digits_are : is_digits (d ∷ ds) ≡ true
  unfolding is_digits
  digits_are = rw (not_empty, all_digits (d ∷ ds) digits) refl

  decimal_are : is_decimal (d ∷ ds) ≡ true
  unfolding is_decimal
  decimal_are = rw (missing is_dot (d ∷ ds) (lacks_digits is_dot digit_no_dot (d ∷ ds) digits)) digits_are

  scaled_are : is_scaled (d ∷ ds) ≡ true
  unfolding is_scaled
  scaled_are = rw (missing is_e (d ∷ ds) (lacks_digits is_e digit_no_e (d ∷ ds) digits)) decimal_are

  -- digits are a number
  number_are : kind_of_run (d ∷ ds) ≡ Number (integer_of (d ∷ ds))
  unfolding kind_of_run
  number_are =
      let number : is_number (d ∷ ds) ≡ true = ap is_scaled unsigned_is ∙ scaled_are in
      rw (no_word, number) refl

  -- with their value
  integer_are : integer_of (d ∷ ds) ≡ signed false (digits_value 10 (d ∷ ds))
  unfolding integer_of
  integer_are = rw (unsigned_is, digits_are, digit_no_minus d digits.0) refl

signed_small : (n : ℕ) → n < 2 ^ 63 → signed false n ≡ Some (pos n)
unfolding signed
signed_small n small = rw (lt-ltb n (2 ^ 63) small) refl

integer_digits : (ds : List ℕ) → Digits ds → 0 < length ds → integer_of ds ≡ signed false (digits_value 10 ds)
integer_digits [] digits some = absurd (omega (arith, some))
integer_digits (d ∷ ds) digits some = integer_are d ds digits

-- a spelling is an integer
pub integer_decimal : (n : ℕ) → n < 2 ^ 63 → integer_of (decimal n) ≡ Some (pos n)
integer_decimal n small =
    let numeral = decimal_is_IsNumeral_wide n (omega arith) in
    integer_digits (decimal n) (decimal_digits n (omega arith)) numeral.0.0 ∙ ap (signed false) numeral.1 ∙ signed_small n small

module _ {rest end : List ℕ} {ls : List Kind} (after : Reads rest ls end) (stopped : IsStopped ends_run rest) where
  digits_first : (ds : List ℕ) → Digits ds → 0 < length ds → Reads (ds ++ rest) (Number (integer_of ds) ∷ ls) end
  digits_first [] digits some = absurd (omega (arith, some))
  digits_first (d ∷ ds) digits some =
      run_first after d ds (Number (integer_of (d ∷ ds))) (digit_no_hash d digits.0) (lacks_digits ends_run digit_no_end (d ∷ ds) digits) stopped (number_are d ds digits)

  -- a number before what ends it
  pub number_first : (n : ℕ) → n < 2 ^ 63 → Reads (decimal n ++ rest) (integer n ∷ ls) end
  number_first n small =
      let numeral = decimal_is_IsNumeral_wide n (omega arith) in
      let P : Option ℤ → Type 0 = λ z. Reads (decimal n ++ rest) (Number z ∷ ls) end in
      subst P (integer_decimal n small) (digits_first (decimal n) (decimal_digits n (omega arith)) numeral.0.0)

-- ---- strings

lacks-append : (test : ℕ → Bool) (xs ys : List ℕ) → NonePasses test xs → NonePasses test ys → NonePasses test (xs ++ ys)
lacks-append test [] ys first second = second
lacks-append test (x ∷ xs) ys first second = (first.0, lacks-append test xs ys first.1 second)

no_quote : (n : ℕ) → n < 10 ^ 64 → NonePasses is_quote (decimal n)
no_quote n small = lacks_digits is_quote digit_no_quote (decimal n) (decimal_digits n small)

-- a signed spelling has no quote
pub signed_no_quote : (z : ℤ) → FitsSigned w64 z → NonePasses is_quote (signed_decimal z)
signed_no_quote (pos n) fits = let small = fits.sfits in no_quote n (omega arith)
signed_no_quote (negsuc n) fits = let small = fits.sfits in (refl, no_quote (suc n) (omega arith))

-- numbers with spaces between them have no quote
pub spaced_no_quote : (ns : List ℕ) → AllByRecursion (λ n. n < 10 ^ 64) ns → NonePasses is_quote (spaced ns)
spaced_no_quote [] small = tt
spaced_no_quote (n ∷ []) small = no_quote n small.0
spaced_no_quote (n ∷ m ∷ ns) small = lacks-append is_quote (decimal n) (32 ∷ spaced (m ∷ ns)) (no_quote n small.0) (refl, spaced_no_quote (m ∷ ns) small.1)
