-- The first token that can't stand in its place.
use Rattle.std.proofs.Common.{◌≡◌, ℕ, zero, suc, ◌<◌, ◌≤◌, Bool, true, false, ◌⊎◌, inl, inr, List, [], ◌∷◌, ◌++◌, Ok, Err, nat_lt, refl, sym, ap, subst, ◌∙◌, append_assoc, append-nil, arith}
use Rattle.std.proofs.lemmas.Bool.{ltb-true, ltb-false}
use Rattle.xn_gml.specs.declared.errors.GmlErr.{GmlErr}
use Rattle.xn_gml.specs.declared.errors.GmlErr.TheVariants.{Syntax, Deep}
use Rattle.xn_gml.specs.declared.token.Kind.{Kind}
use Rattle.xn_gml.specs.declared.token.Kind.TheVariants.{Open, Close, Quoted, Word, Number, Malformed}
use Rattle.xn_gml.specs.declared.token.Token.{Token}
use Rattle.xn_gml.specs.Fronts.{CanBegin, IsListTooDeep, Refuses, IsFirstFlaw, EndsEarly}
use Rattle.xn_gml.specs.Grammar.{stands, awaits, opened, grammar_from}
use Rattle.xn_gml.specs.Tokens.{token}
use Rattle.xn_gml.proofs.GrammarSteps.{grammar_syntax, grammar_deep, grammar_more, grammar_waits, grammar_open, grammar_done}
use Rattle.xn_gml.proofs.TreeLemmas.{Leads, plain_leads, close_leads, leads_on}

-- after the front a reader stands here
pub record Reaches (front : List Token) (awaited : Bool) (depth : ℕ) : Type 0 where
  pub few : depth ≤ 64
  pub goes_on : (end : ℕ) (tokens : List Token) → grammar_from end false 0 (front ++ tokens) ≡ grammar_from end awaited depth tokens

-- as many `]` as lists are open end a text
closed : (depth : ℕ) → depth ≤ 64 → (more : List Token) × (grammar_from 0 false depth more ≡ Ok tt)
closed zero few = ([], grammar_done 0 zero (omega arith))
closed (suc depth) few =
    let rest = closed depth (omega arith) in
    (token 0 Close ∷ rest.0, leads_on 0 false false (suc depth) depth (token 0 Close) rest.0 (close_leads depth Close refl) (omega arith) ∙ rest.1)

-- and where a value is awaited, a string before them
completed : (awaited : Bool) (depth : ℕ) → depth ≤ 64 → (more : List Token) × (grammar_from 0 awaited depth more ≡ Ok tt)
completed false depth few = closed depth few
completed true depth few =
    let rest = closed depth few in
    (token 0 Quoted ∷ rest.0, leads_on 0 true false depth depth (token 0 Quoted) rest.0 (plain_leads depth Quoted tt) few ∙ rest.1)

can_begin : (front : List Token) (awaited : Bool) (depth : ℕ) → Reaches front awaited depth → CanBegin front
can_begin front awaited depth reach =
    let rest = completed awaited depth reach.few in
    record { length = 0; more = rest.0; kept = reach.goes_on 0 rest.0 ∙ rest.1 }

module _ (front : List Token) (awaited : Bool) (depth : ℕ) (reach : Reaches front awaited depth) where
  after_one : (t : Token) (end : ℕ) (tokens : List Token) → grammar_from end false 0 ((front ++ t ∷ []) ++ tokens) ≡ grammar_from end awaited depth (t ∷ tokens)
  after_one t end tokens = ap (grammar_from end false 0) (append_assoc front (t ∷ []) tokens) ∙ reach.goes_on end (t ∷ tokens)

  -- one token more
  reach_more : (t : Token) (after : Bool) (next : ℕ) → Leads awaited depth t.kind after next → next ≤ 64 → Reaches (front ++ t ∷ []) after next
  reach_more t after next leads few = record {
    few = few;
    goes_on = λ end tokens. after_one t end tokens ∙ leads_on end awaited after depth next t tokens leads few;
  }

  -- a token that is refused whatever follows
  no_begin : (t : Token) (e : GmlErr) → ((end : ℕ) (tokens : List Token) → grammar_from end awaited depth (t ∷ tokens) ≡ Err e) → CanBegin (front ++ t ∷ []) → ⊥
  no_begin t e stop can =
      let same : Err e ≡ Ok tt = sym (after_one t can.length can.more ∙ stop can.length can.more) ∙ can.kept in cc

-- a `[` can't stand there: then no value can
no_value : (front : List Token) (awaited : Bool) (depth : ℕ) (t : Token) → Reaches front awaited depth → stands awaited depth t.kind ≡ false → ¬ (IsListTooDeep front t)
no_value front true depth t reach stop deep = let same : true ≡ false = sym (ap (stands true depth) deep.0) ∙ stop in cc
no_value front false depth t reach stop deep =
    no_begin front false depth reach (token t.at Quoted) (Syntax t.at) (λ end tokens. grammar_syntax end false depth (token t.at Quoted) tokens refl) deep.1

-- a list too many is a `[` in the place of a value
deep_is : (awaited : Bool) (depth : ℕ) (kind : Kind) → depth ≤ 64 → stands awaited depth kind ≡ true → 64 < opened kind depth → (kind ≡ Open) × (awaited ≡ true)
deep_is true depth Open few stand deep = (refl, refl)
deep_is false depth Open few stand deep = cc
deep_is awaited depth Close few stand deep = absurd (omega arith)
deep_is awaited depth Quoted few stand deep = absurd (omega arith)
deep_is awaited depth (Word key) few stand deep = absurd (omega arith)
deep_is awaited depth (Number value) few stand deep = absurd (omega arith)
deep_is awaited depth Malformed few stand deep = absurd (omega arith)

-- where a value is awaited, a string can stand
value_can : (front : List Token) (awaited : Bool) (depth at : ℕ) → Reaches front awaited depth → awaited ≡ true → CanBegin (front ++ token at Quoted ∷ [])
value_can front false depth at reach e = cc
value_can front true depth at reach e =
    can_begin (front ++ token at Quoted ∷ []) false depth (reach_more front true depth reach (token at Quoted) false depth (plain_leads depth Quoted tt) reach.few)

module _ (end : ℕ) (all front : List Token) (awaited : Bool) (depth : ℕ) (reach : Reaches front awaited depth) (e : GmlErr) where
  -- the text ends
  at_end : all ≡ front ++ [] → grammar_from end awaited depth [] ≡ Err e → EndsEarly end all e
  at_end whole flaw = record {
    can = subst CanBegin (sym (whole ∙ append-nil front)) (can_begin front awaited depth reach);
    cause = cause_of awaited depth flaw;
  }
    where
      cause_of : (a : Bool) (d : ℕ) → grammar_from end a d [] ≡ Err e → e ≡ Syntax end
      cause_of true d flaw = let same : Err (Syntax end) ≡ Err e = sym (grammar_waits end d) ∙ flaw in cc
      cause_of false zero flaw = let same : Ok tt ≡ Err e = sym (grammar_done end zero (omega arith)) ∙ flaw in cc
      cause_of false (suc d) flaw = let same : Err (Syntax end) ≡ Err e = sym (grammar_open end false (suc d) (omega arith)) ∙ flaw in cc

  module _ (t : Token) (tokens : List Token) (whole : all ≡ front ++ t ∷ tokens) (flaw : grammar_from end awaited depth (t ∷ tokens) ≡ Err e) where
    -- a token can't stand there
    at_syntax : stands awaited depth t.kind ≡ false → IsFirstFlaw all e
    at_syntax stop =
        let same : Err (Syntax t.at) ≡ Err e = sym (grammar_syntax end awaited depth t tokens stop) ∙ flaw in
        let is : Syntax t.at ≡ e = cc in
        record {
          front = front;
          t = t;
          rest = tokens;
          whole = whole;
          can = can_begin front awaited depth reach;
          stops = no_begin front awaited depth reach t (Syntax t.at) (λ n more. grammar_syntax n awaited depth t more stop);
          cause = subst (Refuses front t) is (refl, no_value front awaited depth t reach stop);
        }

    -- a list too many
    at_deep : stands awaited depth t.kind ≡ true → 64 < opened t.kind depth → IsFirstFlaw all e
    at_deep stand deep =
        let same : Err (Deep t.at) ≡ Err e = sym (grammar_deep end awaited depth t tokens stand deep) ∙ flaw in
        let is : Deep t.at ≡ e = cc in
        let place = deep_is awaited depth t.kind reach.few stand deep in
        record {
          front = front;
          t = t;
          rest = tokens;
          whole = whole;
          can = can_begin front awaited depth reach;
          stops = no_begin front awaited depth reach t (Deep t.at) (λ n more. grammar_deep n awaited depth t more stand deep);
          cause = subst (Refuses front t) is (refl, (place.0, value_can front awaited depth t.at reach place.1));
        }

-- one token, and then the later ones
module _ (end : ℕ) (all front : List Token) (awaited : Bool) (depth : ℕ) (reach : Reaches front awaited depth) (e : GmlErr) (t : Token) (tokens : List Token) (whole : all ≡ front ++ t ∷ tokens) (flaw : grammar_from end awaited depth (t ∷ tokens) ≡ Err e)
    (later : (front : List Token) (awaited : Bool) (depth : ℕ) → Reaches front awaited depth → all ≡ front ++ tokens → grammar_from end awaited depth tokens ≡ Err e → IsFirstFlaw all e ⊎ EndsEarly end all e) where
  at_more : stands awaited depth t.kind ≡ true → opened t.kind depth ≤ 64 → IsFirstFlaw all e ⊎ EndsEarly end all e
  at_more stand few =
      later (front ++ t ∷ []) (awaits awaited t.kind) (opened t.kind depth)
      (reach_more front awaited depth reach t (awaits awaited t.kind) (opened t.kind depth) (record { stand = stand; awaits_is = refl; opened_is = refl }) few)
      (whole ∙ sym (append_assoc front (t ∷ []) tokens)) (sym (grammar_more end awaited depth t tokens stand few) ∙ flaw)

  at_depth : (b : Bool) → nat_lt 64 (opened t.kind depth) ≡ b → stands awaited depth t.kind ≡ true → IsFirstFlaw all e ⊎ EndsEarly end all e
  at_depth true is stand = inl (at_deep end all front awaited depth reach e t tokens whole flaw stand (ltb-true 64 (opened t.kind depth) is))
  at_depth false is stand = at_more stand (ltb-false 64 (opened t.kind depth) is)

  at_token : (b : Bool) → stands awaited depth t.kind ≡ b → IsFirstFlaw all e ⊎ EndsEarly end all e
  at_token false is = inl (at_syntax end all front awaited depth reach e t tokens whole flaw is)
  at_token true is = at_depth (nat_lt 64 (opened t.kind depth)) refl is

flaw_from : (end : ℕ) (all : List Token) (e : GmlErr) (tokens front : List Token) (awaited : Bool) (depth : ℕ) → Reaches front awaited depth → all ≡ front ++ tokens →
    grammar_from end awaited depth tokens ≡ Err e → IsFirstFlaw all e ⊎ EndsEarly end all e
flaw_from end all e [] front awaited depth reach whole flaw = inr (at_end end all front awaited depth reach e whole flaw)
flaw_from end all e (t ∷ tokens) front awaited depth reach whole flaw =
    at_token end all front awaited depth reach e t tokens whole flaw (flaw_from end all e tokens) (stands awaited depth t.kind) refl

pub flaw_is_first : (end : ℕ) (tokens : List Token) (e : GmlErr) → grammar_from end false 0 tokens ≡ Err e → IsFirstFlaw tokens e ⊎ EndsEarly end tokens e
flaw_is_first end tokens e flaw =
    flaw_from end tokens e tokens [] false 0 (record { few = omega arith; goes_on = λ n ts. refl }) refl flaw
