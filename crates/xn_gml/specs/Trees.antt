-- The pairs of a text as a tree, and its tokens in order.
use Rattle.std.specs.Prelude.{◌≡◌, ℕ, zero, suc, List, [], ◌∷◌, ◌++◌}
use Rattle.xn_gml.specs.declared.token.Kind.{Kind}
use Rattle.xn_gml.specs.declared.token.Kind.TheVariants.{Open, Close, Quoted, Word, Number, Malformed}
use Rattle.xn_gml.specs.declared.pair.Pair.{Pair}
use Rattle.xn_gml.specs.declared.token.Token.{Token}
use Rattle.xn_gml.specs.Lists.{paired}

-- no pair; or a key and a value that is no list, before other pairs; or a key, `[`, the pairs of a list and `]`, before other pairs
pub data Pairs : Type 0 where
  none : Pairs
  plain : (k value : Token) → Pairs → Pairs
  listed : (k first : Token) (inner : Pairs) (last : Token) → Pairs → Pairs

-- the tokens in order
abbrev pub tokens_in : Pairs → List Token
tokens_in none = []
tokens_in (plain k value others) = k ∷ value ∷ tokens_in others
tokens_in (listed k first inner last others) = k ∷ first ∷ (tokens_in inner ++ last ∷ tokens_in others)

-- a word
abbrev pub IsWord : Kind → Type 0
IsWord (Word key) = Unit {0}
IsWord Open = ⊥
IsWord Close = ⊥
IsWord Quoted = ⊥
IsWord (Number value) = ⊥
IsWord Malformed = ⊥

-- a number, a string or a word
abbrev pub IsPlain : Kind → Type 0
IsPlain (Word key) = Unit {0}
IsPlain Quoted = Unit {0}
IsPlain (Number value) = Unit {0}
IsPlain Open = ⊥
IsPlain Close = ⊥
IsPlain Malformed = ⊥

-- each key is a word, each value a number, a string, a word or a list of such pairs, and no list lies in so many others
abbrev pub ArePairs : ℕ → Pairs → Type 0
ArePairs depth none = Unit {0}
ArePairs depth (plain k value others) = IsWord k.kind × IsPlain value.kind × ArePairs depth others
ArePairs zero (listed k first inner last others) = ⊥
ArePairs (suc depth) (listed k first inner last others) =
    IsWord k.kind × (first.kind ≡ Open) × ArePairs depth inner × (last.kind ≡ Close) × ArePairs (suc depth) others

-- a list ends here: with the text, or with its `]`
abbrev pub EndsList : List Token → Type 0
EndsList [] = Unit {0}
EndsList (t ∷ tokens) = t.kind ≡ Close

-- the keys and values of the tree's first level, in order; the tokens after each value's first are given, for where it is a list
abbrev pub pairs_in : Pairs → List Token → List Pair
pairs_in none rest = []
pairs_in (plain k value others) rest = paired k.at k.kind value (tokens_in others ++ rest) (pairs_in others rest)
pairs_in (listed k first inner last others) rest =
    paired k.at k.kind first (tokens_in inner ++ last ∷ (tokens_in others ++ rest)) (pairs_in others rest)
