-- The pairs of a list, which is given by the tokens after its `[`.
use Rattle.std.specs.Prelude.{ℕ, zero, suc, ◌==◌, Bool, true, false, ◌&&◌, List, [], ◌∷◌, filter, Option, None, Some, if◌then◌else◌}
use Rattle.xn_gml.specs.declared.pair.Pair.{Pair}
use Rattle.xn_gml.specs.declared.token.Key.{Key}
use Rattle.xn_gml.specs.declared.token.Key.TheVariants as key
use Rattle.xn_gml.specs.declared.token.Kind.{Kind}
use Rattle.xn_gml.specs.declared.token.Kind.TheVariants.{Open, Word}
use Rattle.xn_gml.specs.declared.token.Token.{Token}
use Rattle.xn_gml.specs.Grammar.{opened}

-- the known words, numbered
abbrev pub key_number : Key → ℕ
key_number key.Graph = 0
key_number key.Node = 1
key_number key.Edge = 2
key_number key.Id = 3
key_number key.Source = 4
key_number key.Target = 5
key_number key.Other = 6

abbrev pub same_key : Key → Key → Bool
same_key a b = key_number a == key_number b

-- a pair before others, where its key is a word
abbrev pub paired : ℕ → Kind → Token → List Token → List Pair → List Pair
paired at (Word word) value list pairs = record { key = word; at = at; value = value; list = list } ∷ pairs
paired at kind value list pairs = []

-- the pairs up to the list's end, after so many inner lists are closed, whose tokens are passed over
unfoldable pub listed_pairs_from : ℕ → List Token → List Pair
listed_pairs_from inner [] = []
listed_pairs_from (suc inner) (t ∷ tokens) = listed_pairs_from (opened t.kind (suc inner)) tokens
listed_pairs_from zero (k ∷ []) = []
listed_pairs_from zero (k ∷ value ∷ tokens) = paired k.at k.kind value tokens (listed_pairs_from (opened value.kind 0) tokens)

-- the pairs of a list
abbrev pub listed_pairs : List Token → List Pair
listed_pairs tokens = listed_pairs_from 0 tokens

abbrev pub is_open : Kind → Bool
is_open Open = true
is_open kind = false

-- a pair with this key, whose value is a list
abbrev pub is_list_of : Key → Pair → Bool
is_list_of key p = same_key p.key key && is_open p.value.kind

-- the pairs of a list with this key whose value is a list
abbrev pub lists_of : Key → List Token → List Pair
lists_of key tokens = filter (is_list_of key) (listed_pairs tokens)

-- the value of the first of the pairs with this key
abbrev pub first_in : Key → List Pair → Option Token
first_in key [] = None
first_in key (p ∷ pairs) = if same_key p.key key then Some p.value else first_in key pairs

-- the first value of this key in a list
abbrev pub first_of : Key → List Token → Option Token
first_of key tokens = first_in key (listed_pairs tokens)
