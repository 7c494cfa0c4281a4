-- The pairs of a list are those of its tree.
use Rattle.std.proofs.Common.{◌≡◌, ℕ, zero, suc, List, [], ◌∷◌, ◌++◌, refl, ap, ◌∙◌, append_assoc}
use Rattle.xn_gml.specs.declared.pair.Pair.{Pair}
use Rattle.xn_gml.specs.declared.token.Kind.{Kind}
use Rattle.xn_gml.specs.declared.token.Token.{Token}
use Rattle.xn_gml.specs.Grammar.{opened}
use Rattle.xn_gml.specs.Lists.{paired, listed_pairs_from}
use Rattle.xn_gml.specs.Trees.{Pairs, none, plain, listed, tokens_in, ArePairs, EndsList, pairs_in}
use Rattle.xn_gml.proofs.TreeLemmas.{word_leads, plain_leads, open_leads, close_leads}

-- a token inside a list
inside : (inner next : ℕ) (t : Token) (tokens : List Token) → opened t.kind (suc inner) ≡ next → listed_pairs_from (suc inner) (t ∷ tokens) ≡ listed_pairs_from next tokens
unfolding listed_pairs_from
inside inner next t tokens e = ap (λ (n : ℕ). listed_pairs_from n tokens) e

-- pairs inside a list are passed over
passed_pairs : (pairs : Pairs) (room inner : ℕ) (tokens : List Token) → ArePairs room pairs → listed_pairs_from (suc inner) (tokens_in pairs ++ tokens) ≡ listed_pairs_from (suc inner) tokens
passed_pairs none room inner tokens are = refl
passed_pairs (plain k value others) room inner tokens are =
    inside inner (suc inner) k _ (word_leads (suc inner) k.kind are.0).opened_is
    ∙ inside inner (suc inner) value _ (plain_leads (suc inner) value.kind are.1).opened_is
    ∙ passed_pairs others room inner tokens are.2
passed_pairs (listed k first inner_pairs last others) zero inner tokens are = absurd are
passed_pairs (listed k first inner_pairs last others) (suc room) inner tokens are =
    inside inner (suc inner) k _ (word_leads (suc inner) k.kind are.0).opened_is
    ∙ inside inner (suc (suc inner)) first _ (open_leads (suc inner) first.kind are.1).opened_is
    ∙ ap (listed_pairs_from (suc (suc inner))) (append_assoc (tokens_in inner_pairs) (last ∷ tokens_in others) tokens)
    ∙ passed_pairs inner_pairs room (suc inner) (last ∷ (tokens_in others ++ tokens)) are.2
    ∙ inside (suc inner) (suc inner) last _ (close_leads (suc inner) last.kind are.3).opened_is
    ∙ passed_pairs others (suc room) inner tokens are.4

-- a list's end has no pairs
end_has_none : (rest : List Token) → EndsList rest → listed_pairs_from 0 rest ≡ []
unfolding listed_pairs_from
end_has_none [] e = refl
end_has_none (t ∷ []) e = refl
end_has_none (t ∷ value ∷ tokens) e = ap (λ (kind : Kind). paired t.at kind value tokens (listed_pairs_from (opened value.kind 0) tokens)) e

-- a key and its value, before other pairs
first_pair : (k value : Token) (tokens : List Token) (next : ℕ) (pairs : List Pair) → opened value.kind 0 ≡ next → listed_pairs_from next tokens ≡ pairs →
    listed_pairs_from 0 (k ∷ value ∷ tokens) ≡ paired k.at k.kind value tokens pairs
unfolding listed_pairs_from
first_pair k value tokens next pairs e rest =
    ap (paired k.at k.kind value tokens) (ap (λ (n : ℕ). listed_pairs_from n tokens) e ∙ rest)

pub pairs_are_of_tree : (room : ℕ) (pairs : Pairs) (rest : List Token) → ArePairs room pairs → EndsList rest → listed_pairs_from 0 (tokens_in pairs ++ rest) ≡ pairs_in pairs rest
pairs_are_of_tree room none rest are ends = end_has_none rest ends
pairs_are_of_tree room (plain k value others) rest are ends =
    first_pair k value (tokens_in others ++ rest) 0 (pairs_in others rest) (plain_leads 0 value.kind are.1).opened_is (pairs_are_of_tree room others rest are.2 ends)
pairs_are_of_tree zero (listed k first inner last others) rest are ends = absurd are
pairs_are_of_tree (suc room) (listed k first inner last others) rest are ends =
    ap (λ (ts : List Token). listed_pairs_from 0 (k ∷ first ∷ ts)) (append_assoc (tokens_in inner) (last ∷ tokens_in others) rest)
    ∙ first_pair k first (tokens_in inner ++ last ∷ (tokens_in others ++ rest)) 1 (pairs_in others rest) (open_leads 0 first.kind are.1).opened_is
    (passed_pairs inner room 0 (last ∷ (tokens_in others ++ rest)) are.2
    ∙ inside 0 0 last (tokens_in others ++ rest) (close_leads 0 last.kind are.3).opened_is
    ∙ pairs_are_of_tree (suc room) others rest are.4 ends)
