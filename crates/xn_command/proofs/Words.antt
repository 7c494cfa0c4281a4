-- What the parser makes of a word, by what the word is.
use Rattle.std.proofs.Common.{◌≡◌, ◌∙◌, ℕ, Bool, true, false, List, [], ◌∷◌, ◌++◌, length, get_or, take, drop, nat_eq, ◌==◌, ◌⊎◌, inl, inr, ap₂, Option, Some, None, slice_get, refl, sym, ap, subst, bytes_eq, codes, true≢false, IsUtf8, encode_utf8_all}
use Rattle.std.specs.List.{after_first, before_first, position_or_len, starts_with}
use Rattle.std.specs.Char.{encode_utf8}
use Rattle.std.specs.Str.{chars, is_utf8}
use Rattle.std.proofs.lemmas.Str.{is_utf8-from_IsUtf8}
use Rattle.std.proofs.lemmas.Bool.{cases_Bool, cases_lt, and_parts, eqb-true}
use Rattle.std.proofs.lemmas.List.{take_all, take-append-drop}
use Rattle.std.proofs.lemmas.List.Sums.{passes_at_first, split_at_first}
use Rattle.std.proofs.lemmas.Slice.Eq.{bytes_eq-Decides}
use Rattle.clap.specs.Faults.{bundle_step_fault, flag_word_fault, flags_fault}
use Rattle.clap.specs.Lexer.{long_of, short_of}
use Rattle.clap.specs.Walk.{Held, Row, Text}
use Rattle.clap.specs.declared.error.kind.ErrorKind.TheVariants.{UnknownArgument}
use Rattle.xn_command.specs.Items.{budget, is_dashed, item_of, operand, stray}
use Rattle.xn_command.proofs.App.{rules}

-- rows, and what waits for values
abbrev pub held : List Row → Option (Text × List Text) → Held
held rows pending = record { rows = rows; pending = pending; skip = 0 }

-- neither `--` nor `--budget`
pub record IsOther (word : Text) : Type 0 where
  pub dashes : bytes_eq word (codes "--") ≡ false
  pub wants : bytes_eq word (codes "--budget") ≡ false

pub record IsPlain (word : Text) : Type 0 where
  pub other : IsOther word
  pub long : long_of word ≡ None
  pub short : short_of word ≡ None
  pub item : item_of word ≡ operand word
  pub dashed : is_dashed word ≡ false

pub record HasBudget (word value : Text) : Type 0 where
  pub other : IsOther word
  pub long : long_of word ≡ Some (codes "budget", Some value)
  pub item : item_of word ≡ budget value
  pub dashed : is_dashed word ≡ true

pub record IsStray (word : Text) : Type 0 where
  pub other : IsOther word
  pub fails : (rows : List Row) (pending : Option (Text × List Text)) → flag_word_fault rules false (long_of word) word (held rows pending) ≡ UnknownArgument ∷ []
  pub item : item_of word ≡ stray
  pub dashed : is_dashed word ≡ true

pub data Kind (word : Text) : Type 0 where
  plain : IsPlain word → Kind word
  dashes : word ≡ codes "--" → Kind word
  wants : word ≡ codes "--budget" → Kind word
  has : (value : Text) → HasBudget word value → Kind word
  strays : IsStray word → Kind word

-- ---- `--budget` with its value behind `=`

abbrev is_equals : ℕ → Bool
is_equals b = b == 61

same_bytes : (a b : Text) → bytes_eq a b ≡ true → a ≡ b
same_bytes a b e = (bytes_eq-Decides a b).0 e

-- what stands before the first `=` is `budget` in two texts alone
budget_before : (text : Text) → bytes_eq (codes "budget") (before_first is_equals text) ≡ true → (text ≡ codes "budget") ⊎ ((value : Text) × (text ≡ codes "budget=" ++ value))
budget_before text same =
    let name : codes "budget" ≡ before_first is_equals text = same_bytes (codes "budget") (before_first is_equals text) same in
    elim (cases_lt (position_or_len is_equals text) (length text)) [
      | inl inside ↦
          let equals : get_or text (position_or_len is_equals text) 0 ≡ 61 = eqb-true _ _ (passes_at_first is_equals text 0 inside) in
          inr (after_first is_equals text, split_at_first is_equals text 0 inside ∙ ap₂ (λ (a : Text) (b : ℕ). a ++ (b ∷ after_first is_equals text)) (sym name) equals)
      | inr past ↦ inl (sym (take_all _ _ past) ∙ sym name)
    ]

has_budget : (value : Text) → HasBudget (codes "--budget=" ++ value) value
has_budget value = record {
  other = record { dashes = refl; wants = refl };
  long = refl;
  item = refl;
  dashed = refl;
}

with_front : (word : Text) → starts_with nat_eq word (codes "--budget=") ≡ true → word ≡ codes "--budget=" ++ drop 9 word
with_front word e = sym (take-append-drop 9 word) ∙ ap (λ (front : Text). front ++ drop 9 word) (sym (same_bytes (codes "--budget=") (take 9 word) e))

-- ---- what else begins with `-`

no_char : (word : Text) → is_utf8 word ≡ true → chars word ≡ 45 ∷ [] → word ≡ 45 ∷ []
unfolding is_utf8 encode_utf8
no_char word valid alone =
    let spelled : bytes_eq (encode_utf8_all (chars word)) word ≡ true = (and_parts _ _ valid).1 in
    sym (same_bytes (encode_utf8_all (45 ∷ [])) word (subst (λ (cs : List ℕ). bytes_eq (encode_utf8_all cs) word ≡ true) alone spelled))

first_of_chars : (y : ℕ) (text : Text) → is_utf8 (45 ∷ y ∷ text) ≡ true → (cs : List ℕ) → chars (y ∷ text) ≡ cs → (c : ℕ) × (slice_get cs 0 ≡ Some c)
unfolding chars
first_of_chars y text valid [] e =
    let alone : chars (45 ∷ y ∷ text) ≡ 45 ∷ [] = ap (λ (cs : List ℕ). 45 ∷ cs) e in
    absurd (two_bytes y text (no_char (45 ∷ y ∷ text) valid alone))
  where
    two_bytes : (y : ℕ) (text : Text) → 45 ∷ y ∷ text ≡ 45 ∷ [] → ⊥
    two_bytes y text e = absurd cc
first_of_chars y text valid (c ∷ cs) e = (c, refl)

-- no argument has a short name
bundle_fails : (y : ℕ) (text : Text) (c : ℕ) (h : Held) → slice_get (chars (y ∷ text)) 0 ≡ Some c → flags_fault rules false (length (y ∷ text)) (y ∷ text) 0 h ≡ UnknownArgument ∷ []
unfolding flags_fault
bundle_fails y text c h e = ap (λ o. bundle_step_fault rules false o (y ∷ text) 0 h (flags_fault rules false (length text))) e

short_stray : (y : ℕ) (text : Text) → IsUtf8 (45 ∷ y ∷ text) → IsOther (45 ∷ y ∷ text) → starts_with nat_eq (45 ∷ y ∷ text) (codes "--budget=") ≡ false → (y == 45) ≡ false → IsStray (45 ∷ y ∷ text)
short_stray y text utf8 other no_value single =
    let char = first_of_chars y text (is_utf8-from_IsUtf8 (45 ∷ y ∷ text) utf8) (chars (y ∷ text)) refl in
    let long : long_of (45 ∷ y ∷ text) ≡ None = rw single refl in
    let short : short_of (45 ∷ y ∷ text) ≡ Some (y ∷ text) = rw single refl in
    record {
      other = other;
      fails = λ rows pending. rw (long, short) (bundle_fails y text char.0 (held rows pending) char.1);
      item = rw no_value refl;
      dashed = refl;
    }

not_budget : (text : Text) → bytes_eq (45 ∷ 45 ∷ text) (codes "--budget") ≡ false → starts_with nat_eq (45 ∷ 45 ∷ text) (codes "--budget=") ≡ false → bytes_eq (codes "budget") (before_first is_equals text) ≡ false
not_budget text no_budget no_value = elim (cases_Bool (bytes_eq (codes "budget") (before_first is_equals text))) [
  | inl same ↦ elim (budget_before text same) [
    | inl whole ↦ absurd (true≢false (subst (λ (t : Text). bytes_eq (45 ∷ 45 ∷ t) (codes "--budget") ≡ false) whole no_budget))
    | inr value ↦ absurd (true≢false (subst (λ (t : Text). starts_with nat_eq (45 ∷ 45 ∷ t) (codes "--budget=") ≡ false) value.1 no_value))
  ]
  | inr other ↦ other
]

long_stray : (z : ℕ) (text : Text) → IsOther (45 ∷ 45 ∷ z ∷ text) → starts_with nat_eq (45 ∷ 45 ∷ z ∷ text) (codes "--budget=") ≡ false → IsStray (45 ∷ 45 ∷ z ∷ text)
long_stray z text other no_value =
    let unknown : bytes_eq (codes "budget") (before_first is_equals (z ∷ text)) ≡ false = not_budget (z ∷ text) other.wants no_value in
    record {
      other = other;
      fails = λ rows pending. rw unknown refl;
      item = rw no_value refl;
      dashed = refl;
    }

dashed_kind : (y : ℕ) (text : Text) → IsUtf8 (45 ∷ y ∷ text) → IsOther (45 ∷ y ∷ text) → starts_with nat_eq (45 ∷ y ∷ text) (codes "--budget=") ≡ false → Kind (45 ∷ y ∷ text)
dashed_kind y text utf8 other no_value = elim (cases_Bool (y == 45)) [
  | inl double ↦ subst (λ (b : ℕ). IsOther (45 ∷ b ∷ text) → starts_with nat_eq (45 ∷ b ∷ text) (codes "--budget=") ≡ false → Kind (45 ∷ b ∷ text)) (sym (eqb-true y 45 double)) (double_kind text) other no_value
  | inr single ↦ strays (short_stray y text utf8 other no_value single)
]
  where
    double_kind : (text : Text) → IsOther (45 ∷ 45 ∷ text) → starts_with nat_eq (45 ∷ 45 ∷ text) (codes "--budget=") ≡ false → Kind (45 ∷ 45 ∷ text)
    double_kind [] other no_value = absurd (true≢false other.dashes)
    double_kind (z ∷ text) other no_value = strays (long_stray z text other no_value)

-- ---- what doesn't

one_byte : (x : ℕ) → (long_of (x ∷ []) ≡ None) × (short_of (x ∷ []) ≡ None)
one_byte x = elim (cases_Bool (x == 45)) [
  | inl dash ↦ (rw dash refl, rw dash refl)
  | inr other ↦ (rw other refl, rw other refl)
]

other_kind : (word : Text) → IsUtf8 word → IsOther word → starts_with nat_eq word (codes "--budget=") ≡ false → Kind word
other_kind [] utf8 other no_value = plain (record { other = other; long = refl; short = refl; item = refl; dashed = refl })
other_kind (x ∷ []) utf8 other no_value = plain (record {
  other = other;
  long = (one_byte x).0;
  short = (one_byte x).1;
  item = rw no_value refl;
  dashed = refl;
})
other_kind (x ∷ y ∷ text) utf8 other no_value = elim (cases_Bool (x == 45)) [
  | inl dash ↦
      subst (λ (b : ℕ). IsUtf8 (b ∷ y ∷ text) → IsOther (b ∷ y ∷ text) → starts_with nat_eq (b ∷ y ∷ text) (codes "--budget=") ≡ false → Kind (b ∷ y ∷ text)) (sym (eqb-true x 45 dash)) (dashed_kind y text) utf8 other no_value
  | inr first ↦ plain (record {
    other = other;
    long = rw first refl;
    short = rw first refl;
    item = rw (no_value, first) refl;
    dashed = first;
  })
]

pub kind : (word : Text) → IsUtf8 word → Kind word
kind word utf8 = elim (cases_Bool (bytes_eq word (codes "--"))) [
  | inl same ↦ dashes (same_bytes word (codes "--") same)
  | inr no_dashes ↦ elim (cases_Bool (bytes_eq word (codes "--budget"))) [
    | inl same ↦ wants (same_bytes word (codes "--budget") same)
    | inr no_budget ↦ elim (cases_Bool (starts_with nat_eq word (codes "--budget="))) [
      | inl value ↦ has (drop 9 word) (subst (λ (w : Text). HasBudget w (drop 9 word)) (sym (with_front word value)) (has_budget (drop 9 word)))
      | inr no_value ↦ other_kind word utf8 (record { dashes = no_dashes; wants = no_budget }) no_value
    ]
  ]
]
