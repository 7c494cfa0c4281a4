-- Tokens that can begin a text, and the first that can't stand in its place.
use Rattle.std.specs.Prelude.{◌≡◌, ℕ, false, List, [], ◌∷◌, ◌++◌, Ok}
use Rattle.xn_gml.specs.declared.errors.GmlErr.{GmlErr}
use Rattle.xn_gml.specs.declared.errors.GmlErr.TheVariants.{Syntax, Deep}
use Rattle.xn_gml.specs.declared.token.Kind.TheVariants.{Open, Quoted}
use Rattle.xn_gml.specs.declared.token.Token.{Token}
use Rattle.xn_gml.specs.Grammar.{grammar_from}
use Rattle.xn_gml.specs.Tokens.{token}

-- with some tokens after them, the tokens keep the grammar
pub record CanBegin (tokens : List Token) : Type 0 where
  pub length : ℕ
  pub more : List Token
  pub kept : grammar_from length false 0 (tokens ++ more) ≡ Ok tt

-- a `[` stands where a value can
abbrev pub IsListTooDeep : List Token → Token → Type 0
IsListTooDeep front t = (t.kind ≡ Open) × CanBegin (front ++ token t.at Quoted ∷ [])

-- the refusal of a token after the front: Deep where it is a `[` in the place of a value, and Syntax else
abbrev pub Refuses : List Token → Token → GmlErr → Type 0
Refuses front t (Deep at) = (at ≡ t.at) × IsListTooDeep front t
Refuses front t (Syntax at) = (at ≡ t.at) × ¬ (IsListTooDeep front t)
Refuses front t e = ⊥

-- the tokens before t can begin a text, and with t they can't
pub record IsFirstFlaw (tokens : List Token) (e : GmlErr) : Type 0 where
  pub front : List Token
  pub t : Token
  pub rest : List Token
  pub whole : tokens ≡ front ++ t ∷ rest
  pub can : CanBegin front
  pub stops : ¬ (CanBegin (front ++ t ∷ []))
  pub cause : Refuses front t e

-- all tokens can begin a text, and its end comes too early
pub record EndsEarly (end : ℕ) (tokens : List Token) (e : GmlErr) : Type 0 where
  pub can : CanBegin tokens
  pub cause : e ≡ Syntax end
