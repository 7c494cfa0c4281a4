-- What the definitions mean.
use Rattle.std.specs.Prelude.{◌≡◌, ℕ, false, ◌⊎◌, List, ◌++◌, Ok, Err}
use Rattle.xn_gml.specs.declared.errors.GmlErr.{GmlErr}
use Rattle.xn_gml.specs.declared.token.Token.{Token}
use Rattle.xn_gml.specs.Fronts.{IsFirstFlaw, EndsEarly}
use Rattle.xn_gml.specs.Grammar.{grammar_from}
use Rattle.xn_gml.specs.Lists.{listed_pairs}
use Rattle.xn_gml.specs.Trees.{Pairs, ArePairs, EndsList, pairs_in, tokens_in}

-- tokens that each can stand in its place are those of a list of pairs, with no list in 64 others
abbrev pub GrammarIsOfPairs : Type 0
GrammarIsOfPairs =
    (end : ℕ) (tokens : List Token) → grammar_from end false 0 tokens ≡ Ok tt →
    (pairs : Pairs) × ArePairs 64 pairs × (tokens ≡ tokens_in pairs)

-- and those of such a list can
abbrev pub PairsAreOfGrammar : Type 0
PairsAreOfGrammar = (end : ℕ) (pairs : Pairs) → ArePairs 64 pairs → grammar_from end false 0 (tokens_in pairs) ≡ Ok tt

-- the pairs of a list are those of its tree, whatever comes after them: the end, or the list's `]`
abbrev pub PairsAreOfTree : Type 0
PairsAreOfTree =
    (room : ℕ) (pairs : Pairs) (rest : List Token) → ArePairs room pairs → EndsList rest →
    listed_pairs (tokens_in pairs ++ rest) ≡ pairs_in pairs rest

-- a refusal by the grammar is that of the first token that can't stand in its place, or the text ends too early
abbrev pub FlawIsFirst : Type 0
FlawIsFirst = (end : ℕ) (tokens : List Token) (e : GmlErr) → grammar_from end false 0 tokens ≡ Err e → IsFirstFlaw tokens e ⊎ EndsEarly end tokens e
