-- What digits spell, read from the left, and the one spelling of a number.
use Rattle.std.proofs.Common.{◌≡◌, ℕ, ◌+◌, ◌-◌, ◌*◌, ◌^◌, ◌<◌, ◌≤◌, Bool, true, false, List, length, take, get_or, decimal, refl, sym, ap, zero, suc, cond, ltb, ◌∙◌, subst, rules, arith}
use Rattle.std.specs.Char.{is_ascii_digit, digit_value}
use Rattle.std.specs.List.{list_all}
use Rattle.std.specs.Str.Parse.{digits_value}
use Rattle.std.specs.Int.{IsInRange}
use Rattle.std.proofs.lemmas.Bool.{lt-ltb, le-ltb, ltb-true}
use Rattle.std.proofs.lemmas.Bool.Decides.{nat_tests}
use Rattle.std.proofs.lemmas.Int.Digits.{digits_value_more}
use Rattle.std.proofs.lemmas.Str.Parse.{IsNumeralModel, numerals_by_value, digits_value-take-le, digit_at}
use Rattle.std.proofs.lemmas.Fmt.{decimal-digits_value, digits_decimal, digits_value-decimal, decimal_nonempty, first_decimal, decimal_digit}
use Rattle.xn_text.specs.Number.{IsNumber, is_number, number_value, word_number}
use Rattle.xn_text.specs.declared.numbers.WordNumber.TheVariants.{Not, Large, Is}

own : IsNumeralModel (λ ds. list_all is_ascii_digit ds ≡ true) (digits_value 10)
own = numerals_by_value _ (search rules)

pub digit_is : (c : ℕ) → IsInRange 48 57 c → digit_value c ≡ c - 48
digit_is c h = grind (arith, nat_tests)

pub is_number_tells : (word : List ℕ) → is_number word ≡ true → IsNumber word
is_number_tells word h = search rules

pub is_number_told : (word : List ℕ) → IsNumber word → is_number word ≡ true
is_number_told word h = search rules

-- one more digit
pub value_more : (word : List ℕ) (i : ℕ) → list_all is_ascii_digit word ≡ true → i < length word → number_value (take (i + 1) word) ≡ number_value (take i word) * 10 + (get_or word i 0 - 48)
value_more word i digits h =
    digits_value_more 10 word i h ∙ ap (λ (d : ℕ). number_value (take i word) * 10 + d) (digit_is (get_or word i 0) (digit_at word i (own.to word digits) h))

-- a word is large where its value reaches the bound
pub is_large : (word : List ℕ) (bound : ℕ) → is_number word ≡ true → bound ≤ number_value word → Large ≡ word_number bound word
is_large word bound told large = rw (told, le-ltb (number_value word) bound large) refl

-- a word whose first digits reach the bound is large
pub large_by : (word : List ℕ) (bound i v : ℕ) → is_number word ≡ true → i < length word → v ≡ number_value (take i word) → bound ≤ v * 10 + (get_or word i 0 - 48) → Large ≡ word_number bound word
large_by word bound i v told h is large =
    let more = value_more word i (is_number_tells word told).1 h in
    let part : number_value (take (i + 1) word) ≤ number_value word = digits_value-take-le 10 word (i + 1) (omega arith) in
    is_large word bound told (omega (arith, more, is, part, large))

pub is_by : (word : List ℕ) (bound : ℕ) → is_number word ≡ true → number_value word < bound → Is (number_value word) ≡ word_number bound word
is_by word bound told small = rw (told, lt-ltb (number_value word) bound small) refl

pub spells : (word : List ℕ) → IsNumber word → number_value word < 2 ^ 64 → decimal (number_value word) ≡ word
spells word h small = decimal-digits_value own word h.1 h.0 h.2 small

alone : (n : ℕ) → n < 2 ^ 64 → get_or (decimal n) 0 0 ≡ 48 → length (decimal n) ≡ 1
alone zero h e = ap length (decimal_digit 0 (omega arith))
alone (suc n) h e = absurd (omega (arith, first_decimal (suc n) (omega arith) h, e))

pub decimal_is_number : (n : ℕ) → n < 2 ^ 64 → IsNumber (decimal n)
decimal_is_number n h = (decimal_nonempty n h, digits_decimal own n h, alone n h)

pick : (a b : Bool) (v n : ℕ) → cond a (cond b (Is v) Large) Not ≡ Is n → (a ≡ true) × (b ≡ true) × (v ≡ n)
pick true true v n e = (refl, refl, (cc))
pick true false v n e = cc
pick false b v n e = cc

-- a word that is read as a number is its spelling, and the number is below the bound
pub is_spelled : (bound : ℕ) (word : List ℕ) (n : ℕ) → bound ≤ 2 ^ 64 → word_number bound word ≡ Is n → (word ≡ decimal n) × (n < bound)
is_spelled bound word n h e =
    let p = pick (is_number word) (ltb (number_value word) bound) (number_value word) n e in
    let small : number_value word < bound = ltb-true (number_value word) bound p.1 in
    (sym (spells word (is_number_tells word p.0) (omega (arith, small))) ∙ ap decimal p.2, omega (arith, small, p.2))

-- the spelling of a number below the bound is read as it
pub spelled_is : (bound : ℕ) (word : List ℕ) (n : ℕ) → bound ≤ 2 ^ 64 → n < bound → word ≡ decimal n → word_number bound word ≡ Is n
spelled_is bound word n h below e =
    let small : n < 2 ^ 64 = omega arith in
    let value : number_value word ≡ n = ap number_value e ∙ digits_value-decimal own n small in
    let told : is_number word ≡ true = is_number_told word (subst IsNumber (sym e) (decimal_is_number n small)) in
    sym (is_by word bound told (omega (arith, value, below))) ∙ ap Is value
