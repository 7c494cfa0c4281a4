-- Tokens, step by step.
use Rattle.std.proofs.Common.{◌≡◌, ℕ, zero, suc, ◌+◌, ◌<◌, ◌≤◌, List, [], ◌∷◌, length, drop, get_or, Option, None, Some, refl, sym, ap, ◌∙◌, arith}
use Rattle.xn_gml.specs.declared.token.Token.{Token}
use Rattle.xn_gml.specs.Tokens.{begins, shown, tokens_from}

-- bytes that are passed over
pub passed : (skip at : ℕ) (bytes : List ℕ) → tokens_from skip at bytes ≡ tokens_from 0 (at + skip) (drop skip bytes)
unfolding tokens_from
passed zero at bytes = let e : at ≡ at + zero = omega arith in ap (λ (a : ℕ). tokens_from 0 a bytes) e
passed (suc skip) at [] = refl
passed (suc skip) at (b ∷ bytes) =
    let e : at + 1 + skip ≡ at + suc skip = omega arith in
    passed skip (at + 1) bytes ∙ ap (λ (a : ℕ). tokens_from 0 a (drop skip bytes)) e

-- what begins with the first byte, and then the tokens after it
pub step : (at : ℕ) (bytes : List ℕ) (r : Option Token × ℕ) → 0 < length bytes → r ≡ begins at (get_or bytes 0 0) (drop 1 bytes) →
    tokens_from 0 at bytes ≡ shown r.0 (tokens_from 0 (at + (1 + r.1)) (drop (1 + r.1) bytes))
unfolding tokens_from
step at [] r some e = absurd (omega arith)
step at (b ∷ bytes) r some e =
    let place : at + 1 + r.1 ≡ at + (1 + r.1) = omega arith in
    let next : 1 + r.1 ≡ suc r.1 = omega arith in
    ap (λ (f : Option Token × ℕ). shown f.0 (tokens_from f.1 (at + 1) bytes)) (sym e)
    ∙ ap (shown r.0) (passed r.1 (at + 1) bytes ∙ ap (λ (a : ℕ). tokens_from 0 a (drop r.1 bytes)) place
    ∙ ap (λ (k : ℕ). tokens_from 0 (at + (1 + r.1)) (drop k (b ∷ bytes))) (sym next))

-- where no token begins, the tokens are those after what is skipped
pub goes_on : (at : ℕ) (bytes rest : List ℕ) (r : Option Token × ℕ) → 0 < length bytes → r ≡ begins at (get_or bytes 0 0) (drop 1 bytes) → rest ≡ drop (1 + r.1) bytes → r.0 ≡ None →
    tokens_from 0 (at + (1 + r.1)) rest ≡ tokens_from 0 at bytes
goes_on at bytes rest r some e d none =
    rw d (sym (step at bytes r some e ∙ ap (λ (o : Option Token). shown o (tokens_from 0 (at + (1 + r.1)) (drop (1 + r.1) bytes))) none))

-- where one begins, it comes first
pub gives : (at : ℕ) (bytes rest : List ℕ) (r : Option Token × ℕ) (t : Token) → 0 < length bytes → r ≡ begins at (get_or bytes 0 0) (drop 1 bytes) → rest ≡ drop (1 + r.1) bytes → r.0 ≡ Some t →
    tokens_from 0 at bytes ≡ t ∷ tokens_from 0 (at + (1 + r.1)) rest
gives at bytes rest r t some e d is =
    rw d (step at bytes r some e ∙ ap (λ (o : Option Token). shown o (tokens_from 0 (at + (1 + r.1)) (drop (1 + r.1) bytes))) is)

-- no bytes have no tokens
pub no_tokens : (at : ℕ) (bytes : List ℕ) → length bytes ≡ 0 → tokens_from 0 at bytes ≡ []
unfolding tokens_from
no_tokens at [] e = refl
no_tokens at (b ∷ bytes) e = absurd (omega arith)

length_shown : (o : Option Token) (tokens : List Token) → length (shown o tokens) ≤ suc (length tokens)
length_shown None tokens = omega arith
length_shown (Some t) tokens = omega arith

-- there are no more tokens than bytes
pub tokens_le_bytes : (skip at : ℕ) (bytes : List ℕ) → length (tokens_from skip at bytes) ≤ length bytes
unfolding tokens_from
tokens_le_bytes skip at [] = omega arith
tokens_le_bytes (suc skip) at (b ∷ bytes) = omega (arith, tokens_le_bytes skip (at + 1) bytes)
tokens_le_bytes zero at (b ∷ bytes) =
    omega (arith, tokens_le_bytes (begins at b bytes).1 (at + 1) bytes, length_shown (begins at b bytes).0 (tokens_from (begins at b bytes).1 (at + 1) bytes))
