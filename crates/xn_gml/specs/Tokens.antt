-- The tokens of a text, with the offsets of their first bytes.
use Rattle.std.specs.Prelude.{ℕ, zero, suc, ◌+◌, ◌==◌, nat_eq, Bool, ◌||◌, List, [], ◌∷◌, length, drop, position, Option, None, Some, if◌then◌else◌}
use Rattle.std.specs.List.{position_or_len, before_first, starts_with}
use Rattle.xn_gml.specs.declared.token.Kind.{Kind}
use Rattle.xn_gml.specs.declared.token.Kind.TheVariants.{Open, Close, Quoted, Malformed}
use Rattle.xn_gml.specs.declared.token.Token.{Token}
use Rattle.xn_gml.specs.Runs.{kind_of_run}

-- space, tab, CR or LF
abbrev pub is_separator : ℕ → Bool
is_separator b = b == 32 || b == 9 || b == 13 || b == 10

-- LF or CR
abbrev pub is_line_end : ℕ → Bool
is_line_end b = b == 10 || b == 13

-- `"`
abbrev pub is_quote : ℕ → Bool
is_quote b = b == 34

-- a separator, a bracket or `"`
abbrev pub ends_run : ℕ → Bool
ends_run b = is_separator b || b == 91 || b == 93 || b == 34

abbrev pub token : ℕ → Kind → Token
token at kind = record { at = at; kind = kind }

-- a string, given the bytes after its `"` and the place of the next; where none comes, the text ends in it: malformed, at the text's end
abbrev pub quoted_by : ℕ → List ℕ → Option ℕ → Option Token × ℕ
quoted_by at after (Some n) = (Some (token at Quoted), n + 1)
quoted_by at after None = (Some (token (at + 1 + length after) Malformed), length after)

unfoldable pub quoted : ℕ → List ℕ → Option Token × ℕ
quoted at after = quoted_by at after (position is_quote after)

-- where a token would begin with byte b: the token, and how many bytes after b belong to it, or are skipped
unfoldable pub begins : ℕ → ℕ → List ℕ → Option Token × ℕ
begins at b after =
    if is_separator b then (None, 0) else
    (if b == 35 then (None, position_or_len is_line_end after) else
    (if b == 91 then (Some (token at Open), 0) else
    (if b == 93 then (Some (token at Close), 0) else
    (if b == 34 then quoted at after else
    (Some (token at (kind_of_run (b ∷ before_first ends_run after))), position_or_len ends_run after)))))

abbrev pub shown : Option Token → List Token → List Token
shown None tokens = tokens
shown (Some t) tokens = t ∷ tokens

-- the tokens of the bytes from an offset on, after so many bytes that are passed over
unfoldable pub tokens_from : ℕ → ℕ → List ℕ → List Token
tokens_from skip at [] = []
tokens_from (suc skip) at (b ∷ bytes) = tokens_from skip (at + 1) bytes
tokens_from zero at (b ∷ bytes) = shown (begins at b bytes).0 (tokens_from (begins at b bytes).1 (at + 1) bytes)

-- the tokens of a text, which may begin with a byte order mark
unfoldable pub tokens_of : List ℕ → List Token
tokens_of text =
    if starts_with nat_eq text (239 ∷ 187 ∷ 191 ∷ []) then tokens_from 0 3 (drop 3 text) else tokens_from 0 0 text
