-- Tokens that keep the grammar are those of a tree of pairs.
use Rattle.std.proofs.Common.{◌≡◌, ℕ, zero, suc, ◌+◌, ◌≤◌, Bool, true, false, List, [], ◌∷◌, ◌++◌, length, Result, Ok, Err, refl, sym, ap, ◌∙◌, subst, append_assoc, append-nil, length-append, arith}
use Rattle.std.proofs.lemmas.Bool.{lt-ltb}
use Rattle.xn_gml.specs.declared.errors.GmlErr.{GmlErr}
use Rattle.xn_gml.specs.declared.token.Kind.{Kind}
use Rattle.xn_gml.specs.declared.token.Kind.TheVariants.{Open, Close, Quoted, Word, Number, Malformed}
use Rattle.xn_gml.specs.declared.token.Token.{Token}
use Rattle.xn_gml.specs.Grammar.{stands, awaits, opened, grammar_from}
use Rattle.xn_gml.specs.Trees.{Pairs, none, plain, listed, tokens_in, IsWord, IsPlain, ArePairs}
use Rattle.xn_gml.proofs.GrammarSteps.{grammar_syntax, grammar_deep, grammar_more, grammar_waits, grammar_open, grammar_done}

-- a token leads to this state
pub record Leads (awaited : Bool) (depth : ℕ) (kind : Kind) (after : Bool) (next : ℕ) : Type 0 where
  pub stand : stands awaited depth kind ≡ true
  pub awaits_is : awaits awaited kind ≡ after
  pub opened_is : opened kind depth ≡ next

pub word_leads : (depth : ℕ) (kind : Kind) → IsWord kind → Leads false depth kind true depth
word_leads depth (Word key) w = record { stand = refl; awaits_is = refl; opened_is = refl }
word_leads depth Open w = absurd w
word_leads depth Close w = absurd w
word_leads depth Quoted w = absurd w
word_leads depth (Number value) w = absurd w
word_leads depth Malformed w = absurd w

pub plain_leads : (depth : ℕ) (kind : Kind) → IsPlain kind → Leads true depth kind false depth
plain_leads depth (Word key) w = record { stand = refl; awaits_is = refl; opened_is = refl }
plain_leads depth Quoted w = record { stand = refl; awaits_is = refl; opened_is = refl }
plain_leads depth (Number value) w = record { stand = refl; awaits_is = refl; opened_is = refl }
plain_leads depth Open w = absurd w
plain_leads depth Close w = absurd w
plain_leads depth Malformed w = absurd w

pub open_leads : (depth : ℕ) (kind : Kind) → kind ≡ Open → Leads true depth kind false (suc depth)
open_leads depth Open e = record { stand = refl; awaits_is = refl; opened_is = omega arith }
open_leads depth Close e = cc
open_leads depth Quoted e = cc
open_leads depth (Word key) e = cc
open_leads depth (Number value) e = cc
open_leads depth Malformed e = cc

pub close_leads : (depth : ℕ) (kind : Kind) → kind ≡ Close → Leads false (suc depth) kind false depth
close_leads depth Close e = record { stand = lt-ltb 0 (suc depth) (omega arith); awaits_is = refl; opened_is = omega arith }
close_leads depth Open e = cc
close_leads depth Quoted e = cc
close_leads depth (Word key) e = cc
close_leads depth (Number value) e = cc
close_leads depth Malformed e = cc

module _ (end : ℕ) where
  -- the grammar goes on after such a token
  pub leads_on : (awaited after : Bool) (depth next : ℕ) (t : Token) (tokens : List Token) → Leads awaited depth t.kind after next → next ≤ 64 →
      grammar_from end awaited depth (t ∷ tokens) ≡ grammar_from end after next tokens
  leads_on awaited after depth next t tokens leads few =
      grammar_more end awaited depth t tokens leads.stand (omega (arith, leads.opened_is))
      ∙ ap (λ b. grammar_from end b (opened t.kind depth) tokens) leads.awaits_is ∙ ap (λ n. grammar_from end after n tokens) leads.opened_is

  -- the tokens of pairs are passed over
  pub passes_pairs : (pairs : Pairs) (depth room : ℕ) (tokens : List Token) → depth + room ≡ 64 → ArePairs room pairs →
      grammar_from end false depth (tokens_in pairs ++ tokens) ≡ grammar_from end false depth tokens
  passes_pairs none depth room tokens e are = refl
  passes_pairs (plain k value others) depth room tokens e are =
      leads_on false true depth depth k _ (word_leads depth k.kind are.0) (omega arith)
      ∙ leads_on true false depth depth value _ (plain_leads depth value.kind are.1) (omega arith)
      ∙ passes_pairs others depth room tokens e are.2
  passes_pairs (listed k first inner last others) depth zero tokens e are = absurd are
  passes_pairs (listed k first inner last others) depth (suc room) tokens e are =
      leads_on false true depth depth k _ (word_leads depth k.kind are.0) (omega arith)
      ∙ leads_on true false depth (suc depth) first _ (open_leads depth first.kind are.1) (omega arith)
      ∙ ap (grammar_from end false (suc depth)) (append_assoc (tokens_in inner) (last ∷ tokens_in others) tokens)
      ∙ passes_pairs inner (suc depth) room (last ∷ (tokens_in others ++ tokens)) (omega arith) are.2
      ∙ leads_on false false (suc depth) depth last _ (close_leads depth last.kind are.3) (omega arith)
      ∙ passes_pairs others depth (suc room) tokens e are.4

  -- what may follow the pairs of a list at this depth: the end, or `]` and what keeps the grammar
  abbrev pub Follows : ℕ → List Token → Type 0
  Follows zero [] = Unit {0}
  Follows zero (t ∷ tokens) = ⊥
  Follows (suc depth) [] = ⊥
  Follows (suc depth) (t ∷ tokens) = (t.kind ≡ Close) × (grammar_from end false depth tokens ≡ Ok tt)

  -- pairs stand first, and what may follow them comes next
  pub record Begins (depth room : ℕ) (tokens : List Token) : Type 0 where
    pub pairs : Pairs
    pub are : ArePairs room pairs
    pub rest : List Token
    pub whole : tokens ≡ tokens_in pairs ++ rest
    pub follows : Follows depth rest

  abbrev Again : ℕ → Type 0
  Again fuel = (depth room : ℕ) (tokens : List Token) → length tokens ≤ fuel → depth + room ≡ 64 → grammar_from end false depth tokens ≡ Ok tt → Begins depth room tokens

  refused : (e : GmlErr) (r : Result (Unit {0}) GmlErr) → r ≡ Err e → r ≡ Ok tt → ⊥
  refused e r stop ok = let same : Err e ≡ Ok tt = sym stop ∙ ok in cc

  module _ (fuel depth room : ℕ) (again : Again fuel) (k value : Token) (word : IsWord k.kind) (fits : depth + room ≡ 64) where
    -- the value is no list
    plain_first : (tokens : List Token) → length tokens ≤ fuel → IsPlain value.kind → grammar_from end true depth (value ∷ tokens) ≡ Ok tt → Begins depth room (k ∷ value ∷ tokens)
    plain_first tokens short is ok =
        let rest = again depth room tokens short fits (sym (leads_on true false depth depth value tokens (plain_leads depth value.kind is) (omega arith)) ∙ ok) in
        record {
          pairs = plain k value rest.pairs;
          are = (word, is, rest.are);
          rest = rest.rest;
          whole = ap (λ (ts : List Token). k ∷ value ∷ ts) rest.whole;
          follows = rest.follows;
        }

  module _ (fuel depth room : ℕ) (again : Again fuel) (k value : Token) (word : IsWord k.kind) (fits : depth + suc room ≡ 64) (is : value.kind ≡ Open) (inner : Pairs) (are : ArePairs room inner) where
    -- what comes after the pairs of the value, which is a list
    list_first : (tokens rest : List Token) → length tokens ≤ fuel → tokens ≡ tokens_in inner ++ rest → Follows (suc depth) rest → Begins depth (suc room) (k ∷ value ∷ tokens)
    list_first tokens [] short whole follows = absurd follows
    list_first tokens (last ∷ after) short whole follows =
        let others = again depth (suc room) after (omega (arith, short, ap length whole, length-append (tokens_in inner) (last ∷ after))) fits follows.1 in
        record {
          pairs = listed k value inner last others.pairs;
          are = (word, is, are, follows.0, others.are);
          rest = others.rest;
          whole = ap (λ (ts : List Token). k ∷ value ∷ ts) (whole ∙ ap (λ (ts : List Token). tokens_in inner ++ last ∷ ts) others.whole
              ∙ sym (append_assoc (tokens_in inner) (last ∷ tokens_in others.pairs) others.rest));
          follows = others.follows;
        }

  module _ (fuel depth : ℕ) (again : Again fuel) (k value : Token) (word : IsWord k.kind) (tokens : List Token) (short : length tokens ≤ fuel) (ok : grammar_from end true depth (value ∷ tokens) ≡ Ok tt) where
    -- the value is a list
    open_first : (room : ℕ) → depth + room ≡ 64 → value.kind ≡ Open → Begins depth room (k ∷ value ∷ tokens)
    open_first zero fits is =
        let leads = open_leads depth value.kind is in
        absurd (refused _ _ (grammar_deep end true depth value tokens leads.stand (omega (arith, leads.opened_is))) ok)
    open_first (suc room) fits is =
        let leads = open_leads depth value.kind is in
        let inner = again (suc depth) room tokens short (omega arith) (sym (leads_on true false depth (suc depth) value tokens leads (omega arith)) ∙ ok) in
        list_first fuel depth room again k value word fits is inner.pairs inner.are tokens inner.rest short inner.whole inner.follows

    value_first : (room : ℕ) (kind : Kind) → depth + room ≡ 64 → value.kind ≡ kind → Begins depth room (k ∷ value ∷ tokens)
    value_first room (Word key) fits is = plain_first fuel depth room again k value word fits tokens short (subst IsPlain (sym is) tt) ok
    value_first room Quoted fits is = plain_first fuel depth room again k value word fits tokens short (subst IsPlain (sym is) tt) ok
    value_first room (Number n) fits is = plain_first fuel depth room again k value word fits tokens short (subst IsPlain (sym is) tt) ok
    value_first room Open fits is = open_first room fits is
    value_first room Close fits is = absurd (refused _ _ (grammar_syntax end true depth value tokens (ap (stands true depth) is)) ok)
    value_first room Malformed fits is = absurd (refused _ _ (grammar_syntax end true depth value tokens (ap (stands true depth) is)) ok)

  -- a key stands first
  key_first : (fuel depth room : ℕ) (again : Again fuel) (k : Token) (tokens : List Token) → length tokens ≤ suc fuel → depth + room ≡ 64 → IsWord k.kind → grammar_from end false depth (k ∷ tokens) ≡ Ok tt → Begins depth room (k ∷ tokens)
  key_first fuel depth room again k [] short fits word ok =
      absurd (refused _ _ (leads_on false true depth depth k [] (word_leads depth k.kind word) (omega arith) ∙ grammar_waits end depth) ok)
  key_first fuel depth room again k (value ∷ tokens) short fits word ok =
      value_first fuel depth again k value word tokens (omega arith)
      (sym (leads_on false true depth depth k (value ∷ tokens) (word_leads depth k.kind word) (omega arith)) ∙ ok) room value.kind fits refl

  -- `]` stands first
  close_first : (depth room : ℕ) (t : Token) (tokens : List Token) → depth + room ≡ 64 → t.kind ≡ Close → grammar_from end false depth (t ∷ tokens) ≡ Ok tt → Begins depth room (t ∷ tokens)
  close_first zero room t tokens fits is ok = absurd (refused _ _ (grammar_syntax end false zero t tokens (ap (stands false zero) is)) ok)
  close_first (suc depth) room t tokens fits is ok = record {
    pairs = none;
    are = tt;
    rest = t ∷ tokens;
    whole = refl;
    follows = (is, sym (leads_on false false (suc depth) depth t tokens (close_leads depth t.kind is) (omega arith)) ∙ ok);
  }

  token_first : (fuel depth room : ℕ) (again : Again fuel) (t : Token) (tokens : List Token) (kind : Kind) → length tokens ≤ suc fuel → depth + room ≡ 64 → t.kind ≡ kind → grammar_from end false depth (t ∷ tokens) ≡ Ok tt → Begins depth room (t ∷ tokens)
  token_first fuel depth room again t tokens (Word key) short fits is ok = key_first fuel depth room again t tokens short fits (subst IsWord (sym is) tt) ok
  token_first fuel depth room again t tokens Close short fits is ok = close_first depth room t tokens fits is ok
  token_first fuel depth room again t tokens Open short fits is ok = absurd (refused _ _ (grammar_syntax end false depth t tokens (ap (stands false depth) is)) ok)
  token_first fuel depth room again t tokens Quoted short fits is ok = absurd (refused _ _ (grammar_syntax end false depth t tokens (ap (stands false depth) is)) ok)
  token_first fuel depth room again t tokens (Number n) short fits is ok = absurd (refused _ _ (grammar_syntax end false depth t tokens (ap (stands false depth) is)) ok)
  token_first fuel depth room again t tokens Malformed short fits is ok = absurd (refused _ _ (grammar_syntax end false depth t tokens (ap (stands false depth) is)) ok)

  -- tokens that keep the grammar begin with the pairs of a list
  pub splits : (fuel : ℕ) → Again fuel
  splits fuel zero room [] short fits ok = record { pairs = none; are = tt; rest = []; whole = refl; follows = tt }
  splits fuel (suc depth) room [] short fits ok = absurd (refused _ _ (grammar_open end false (suc depth) (omega arith)) ok)
  splits zero depth room (t ∷ tokens) short fits ok = absurd (omega arith)
  splits (suc fuel) depth room (t ∷ tokens) short fits ok = token_first fuel depth room (splits fuel) t tokens t.kind (omega arith) fits refl ok

-- at the top nothing follows the pairs
no_rest : (end : ℕ) (tokens : List Token) (pairs : Pairs) (rest : List Token) → tokens ≡ tokens_in pairs ++ rest → Follows end zero rest → tokens ≡ tokens_in pairs
no_rest end tokens pairs [] whole follows = whole ∙ append-nil (tokens_in pairs)
no_rest end tokens pairs (t ∷ rest) whole follows = absurd follows

pub grammar_is_of_pairs : (end : ℕ) (tokens : List Token) → grammar_from end false 0 tokens ≡ Ok tt → (pairs : Pairs) × ArePairs 64 pairs × (tokens ≡ tokens_in pairs)
grammar_is_of_pairs end tokens ok =
    let found = splits end (length tokens) 0 64 tokens (omega arith) (omega arith) ok in
    (found.pairs, found.are, no_rest end tokens found.pairs found.rest found.whole found.follows)

pub pairs_are_of_grammar : (end : ℕ) (pairs : Pairs) → ArePairs 64 pairs → grammar_from end false 0 (tokens_in pairs) ≡ Ok tt
pairs_are_of_grammar end pairs are =
    ap (grammar_from end false 0) (sym (append-nil (tokens_in pairs))) ∙ passes_pairs end pairs 0 64 [] (omega arith) are ∙ grammar_done end 0 (omega arith)
