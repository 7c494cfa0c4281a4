-- What lines, words and spellings say of the bytes.
use Rattle.std.specs.Prelude.{◌≡◌, ℕ, ℤ, ◌+◌, ◌^◌, ◌<◌, ◌≤◌, true, false, List, [], ◌∷◌, ◌++◌, length, All, decimal, FitsSigned}
use Rattle.std.specs.Fmt.{signed_decimal}
use Rattle.std.specs.Int.{w128}
use Rattle.std.specs.List.{join_with_byte}
use Rattle.xn_text.specs.Pieces.{Lacks, TakesLine, words_of}
use Rattle.xn_text.specs.Number.{word_number}
use Rattle.xn_text.specs.declared.numbers.WordNumber.TheVariants.{Is}

-- a text whose first line is ended is that line, the byte 10 and what is left
abbrev pub EndedLineStands : Type 0
EndedLineStands =
    (old new : ℕ × List ℕ) (number : ℕ) (line : List ℕ) → TakesLine old new number line true →
    Lacks 10 line × (old.1 ≡ line ++ 10 ∷ new.1)

-- a text whose first line is not ended is that line
abbrev pub LastLineStands : Type 0
LastLineStands =
    (old new : ℕ × List ℕ) (number : ℕ) (line : List ℕ) → TakesLine old new number line false →
    Lacks 10 line × (old.1 ≡ line) × (new.1 ≡ [])

-- from a text that begins with a line and its end, this line is taken
abbrev pub EndedLineIsTaken : Type 0
EndedLineIsTaken =
    (number : ℕ) (line rest : List ℕ) → Lacks 10 line →
    TakesLine (number, line ++ 10 ∷ rest) (number + 1, rest) number line true

-- the words of a line have no space, and joined by spaces they are the line
abbrev pub WordsAreTheLine : Type 0
WordsAreTheLine =
    (line : List ℕ) → All (Lacks 32) (words_of line) × (join_with_byte 32 (words_of line) ≡ line)

-- words that are joined by spaces are the words of their line
abbrev pub JoinedWordsAreFound : Type 0
JoinedWordsAreFound =
    (words : List (List ℕ)) → 0 < length words → All (Lacks 32) words →
    words_of (join_with_byte 32 words) ≡ words

-- the spelling of a number is read as that number
abbrev pub SpellingIsRead : Type 0
SpellingIsRead = (bound n : ℕ) → bound ≤ 2 ^ 64 → n < bound → word_number bound (decimal n) ≡ Is n

-- a word that is read as a number is its spelling
abbrev pub ReadWordIsSpelled : Type 0
ReadWordIsSpelled =
    (bound : ℕ) (word : List ℕ) (n : ℕ) → bound ≤ 2 ^ 64 → word_number bound word ≡ Is n →
    (word ≡ decimal n) × (n < bound)

-- two numbers of 64 bits with one spelling are equal
abbrev pub OneSpelling : Type 0
OneSpelling = (m n : ℕ) → m < 2 ^ 64 → n < 2 ^ 64 → decimal m ≡ decimal n → m ≡ n

-- two whole numbers of 128 bits with one spelling are equal
abbrev pub OneSignedSpelling : Type 0
OneSignedSpelling =
    (y z : ℤ) → FitsSigned w128 y → FitsSigned w128 z → signed_decimal y ≡ signed_decimal z → y ≡ z

-- the spelling of a number has no space and no line end
abbrev pub SpellingIsOneWord : Type 0
SpellingIsOneWord = (n : ℕ) → n < 2 ^ 64 → Lacks 10 (decimal n) × Lacks 32 (decimal n)
