-- The grammar, token by token.
use Rattle.std.proofs.Common.{◌≡◌, ℕ, ◌<◌, ◌≤◌, Bool, true, false, List, [], ◌∷◌, Ok, Err, refl}
use Rattle.std.proofs.lemmas.Bool.{lt-ltb, le-ltb}
use Rattle.xn_gml.specs.declared.errors.GmlErr.TheVariants.{Syntax, Deep}
use Rattle.xn_gml.specs.declared.token.Token.{Token}
use Rattle.xn_gml.specs.Grammar.{stands, awaits, opened, grammar_from}

module _ (end : ℕ) (awaited : Bool) (depth : ℕ) (t : Token) (tokens : List Token) where
  -- a token that can't stand there
  pub grammar_syntax : stands awaited depth t.kind ≡ false → grammar_from end awaited depth (t ∷ tokens) ≡ Err (Syntax t.at)
  unfolding grammar_from
  grammar_syntax stop = rw stop refl

  -- a list too many
  pub grammar_deep : stands awaited depth t.kind ≡ true → 64 < opened t.kind depth → grammar_from end awaited depth (t ∷ tokens) ≡ Err (Deep t.at)
  unfolding grammar_from
  grammar_deep stand deep = rw (stand, lt-ltb 64 (opened t.kind depth) deep) refl

  -- a token that can
  pub grammar_more : stands awaited depth t.kind ≡ true → opened t.kind depth ≤ 64 →
      grammar_from end awaited depth (t ∷ tokens) ≡ grammar_from end (awaits awaited t.kind) (opened t.kind depth) tokens
  unfolding grammar_from
  grammar_more stand few = rw (stand, le-ltb 64 (opened t.kind depth) few) refl

-- the text ends too early
pub grammar_waits : (end depth : ℕ) → grammar_from end true depth [] ≡ Err (Syntax end)
unfolding grammar_from
grammar_waits end depth = refl

pub grammar_open : (end : ℕ) (awaited : Bool) (depth : ℕ) → 0 < depth → grammar_from end awaited depth [] ≡ Err (Syntax end)
unfolding grammar_from
grammar_open end true depth some = refl
grammar_open end false depth some = rw (lt-ltb 0 depth some) refl

-- the text ends
pub grammar_done : (end depth : ℕ) → depth ≤ 0 → grammar_from end false depth [] ≡ Ok tt
unfolding grammar_from
grammar_done end depth none = rw (le-ltb 0 depth none) refl
