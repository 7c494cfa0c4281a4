-- The pairs of a list, pair by pair.
use Rattle.std.proofs.Common.{◌≡◌, ℕ, zero, suc, ◌<◌, true, false, List, [], ◌∷◌, refl, sym, ap, ◌∙◌, arith}
use Rattle.xn_gml.specs.declared.pair.Pair.{Pair}
use Rattle.xn_gml.specs.declared.token.Key.{Key}
use Rattle.xn_gml.specs.declared.token.Kind.{Kind}
use Rattle.xn_gml.specs.declared.token.Kind.TheVariants.{Open, Close, Quoted, Word, Number, Malformed}
use Rattle.xn_gml.specs.declared.token.Token.{Token}
use Rattle.xn_gml.specs.Grammar.{opened}
use Rattle.xn_gml.specs.Lists.{is_open, paired, listed_pairs_from}

-- a token inside an inner list is passed over
pub passes : (inner : ℕ) (before after : List Token) (t : Token) → 0 < inner → before ≡ t ∷ after → listed_pairs_from (opened t.kind inner) after ≡ listed_pairs_from inner before
unfolding listed_pairs_from
passes zero before after t some e = absurd (omega arith)
passes (suc inner) before after t some e = sym (ap (listed_pairs_from (suc inner)) e)

opened_list : (kind : Kind) → is_open kind ≡ true → opened kind 0 ≡ 1
opened_list Open e = refl
opened_list Close e = cc
opened_list Quoted e = cc
opened_list (Word key) e = cc
opened_list (Number value) e = cc
opened_list Malformed e = cc

opened_none : (kind : Kind) → is_open kind ≡ false → opened kind 0 ≡ 0
opened_none Open e = cc
opened_none Close e = refl
opened_none Quoted e = refl
opened_none (Word key) e = refl
opened_none (Number value) e = refl
opened_none Malformed e = refl

module _ (tokens mid list : List Token) (k value : Token) (word : Key) (key_is : tokens ≡ k ∷ mid) (value_is : mid ≡ value ∷ list) (word_is : k.kind ≡ Word word) where
  -- a key and its value, before the pairs after them
  pub pair_first : listed_pairs_from 0 tokens ≡ record { key = word; at = k.at; value = value; list = list } ∷ listed_pairs_from (opened value.kind 0) list
  unfolding listed_pairs_from
  pair_first =
      ap (listed_pairs_from 0) (key_is ∙ ap (λ (m : List Token). k ∷ m) value_is)
      ∙ ap (λ (kind : Kind). paired k.at kind value list (listed_pairs_from (opened value.kind 0) list)) word_is

  -- where the value is a list, the pairs after it
  pub pair_list : (after : List Token) → is_open value.kind ≡ true → listed_pairs_from 0 after ≡ listed_pairs_from 1 list →
      listed_pairs_from 0 tokens ≡ record { key = word; at = k.at; value = value; list = list } ∷ listed_pairs_from 0 after
  pair_list after is_list e =
      pair_first ∙ ap (λ (pairs : List Pair). record { key = word; at = k.at; value = value; list = list } ∷ pairs)
      (ap (λ (n : ℕ). listed_pairs_from n list) (opened_list value.kind is_list) ∙ sym e)

  -- where it is none
  pub pair_plain : is_open value.kind ≡ false → listed_pairs_from 0 tokens ≡ record { key = word; at = k.at; value = value; list = list } ∷ listed_pairs_from 0 list
  pair_plain plain =
      pair_first ∙ ap (λ (pairs : List Pair). record { key = word; at = k.at; value = value; list = list } ∷ pairs)
      (ap (λ (n : ℕ). listed_pairs_from n list) (opened_none value.kind plain))

-- no tokens have no pairs
pub no_pairs : (inner outer : ℕ) (before after : List Token) → before ≡ [] → after ≡ [] → listed_pairs_from outer after ≡ listed_pairs_from inner before
unfolding listed_pairs_from
no_pairs inner outer before after e d = ap (listed_pairs_from outer) d ∙ sym (ap (listed_pairs_from inner) e)
