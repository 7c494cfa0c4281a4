-- What tokens a text begins with, by their kinds.
use Rattle.std.proofs.Common.{◌≡◌, ℕ, zero, suc, ◌+◌, ◌==◌, true, false, Bool, cond, inl, inr, List, [], ◌∷◌, ◌++◌, length, refl, sym, ap, ◌∙◌, append_assoc}
use Rattle.std.proofs.lemmas.Bool.{both_ways, cases_Bool}
use Rattle.xn_gml.specs.declared.token.Kind.{Kind}
use Rattle.xn_gml.specs.declared.token.Kind.TheVariants.{Open, Close, Quoted}
use Rattle.xn_gml.specs.declared.token.Token.{Token}
use Rattle.xn_gml.specs.Rules.{NonePasses, IsStopped}
use Rattle.xn_gml.specs.Runs.{kind_of_run}
use Rattle.xn_gml.specs.Tokens.{is_separator, is_quote, ends_run, token, tokens_from}
use Rattle.xn_gml.proofs.TokenRules.{separator_is_passed, bracket_is_token, string_is_token, run_is_token}

-- tokens of these kinds, each with an offset
abbrev pub located : (ℕ → ℕ) → List Kind → List Token
located places [] = []
located places (k ∷ ks) = token (places 0) k ∷ located (λ i. places (suc i)) ks

-- from an offset on, the text begins with tokens of these kinds, before the rest
pub record ReadsFrom (text : List ℕ) (kinds : List Kind) (rest : List ℕ) (start : ℕ) : Type 0 where
  pub places : ℕ → ℕ
  pub stop : ℕ
  pub tokens : tokens_from 0 start text ≡ located places kinds ++ tokens_from 0 stop rest

-- wherever it stands, the text begins with tokens of these kinds, before the rest
abbrev pub Reads : List ℕ → List Kind → List ℕ → Type 0
Reads text kinds rest = (start : ℕ) → ReadsFrom text kinds rest start

-- ---- one after another

behind : ℕ → (ℕ → ℕ) → ℕ → ℕ
behind x f zero = x
behind x f (suc i) = f i

abbrev joined : List Kind → (ℕ → ℕ) → (ℕ → ℕ) → ℕ → ℕ
joined [] f g = g
joined (k ∷ ks) f g = behind (f 0) (joined ks (λ i. f (suc i)) g)

located-append : (ks ls : List Kind) (f g : ℕ → ℕ) → located (joined ks f g) (ks ++ ls) ≡ located f ks ++ located g ls
unfolding behind
located-append [] ls f g = refl
located-append (k ∷ ks) ls f g = ap (λ (ts : List Token). token (f 0) k ∷ ts) (located-append ks ls (λ i. f (suc i)) g)

reads_then : (text : List ℕ) (ks : List Kind) (middle : List ℕ) (ls : List Kind) (rest : List ℕ) → Reads text ks middle → Reads middle ls rest → Reads text (ks ++ ls) rest
reads_then text ks middle ls rest first second start =
    let one = first start in
    let two = second one.stop in
    record {
      places = joined ks one.places two.places;
      stop = two.stop;
      tokens = one.tokens ∙ ap (λ (ts : List Token). located one.places ks ++ ts) two.tokens
          ∙ sym (append_assoc (located one.places ks) (located two.places ls) (tokens_from 0 two.stop rest))
          ∙ ap (λ (ts : List Token). ts ++ tokens_from 0 two.stop rest) (sym (located-append ks ls one.places two.places));
    }

-- nothing is read
pub reads_none : (text : List ℕ) → Reads text [] text
reads_none text start = record { places = λ i. i; stop = start; tokens = refl }

-- ---- a token, and what is read after it

module _ {rest end : List ℕ} {ls : List Kind} (after : Reads rest ls end) where
  pub separator_first : (b : ℕ) → is_separator b ≡ true → Reads (b ∷ rest) ls end
  separator_first b h =
      let one : Reads (b ∷ rest) [] rest = λ start. record { places = λ i. i; stop = start + 1; tokens = separator_is_passed start b rest h } in
      reads_then (b ∷ rest) [] rest ls end one after

  pub open_first : Reads (91 ∷ rest) (Open ∷ ls) end
  open_first =
      let one : Reads (91 ∷ rest) (Open ∷ []) rest = λ start. record { places = λ i. start; stop = start + 1; tokens = (bracket_is_token start rest).0 } in
      reads_then (91 ∷ rest) (Open ∷ []) rest ls end one after

  pub close_first : Reads (93 ∷ rest) (Close ∷ ls) end
  close_first =
      let one : Reads (93 ∷ rest) (Close ∷ []) rest = λ start. record { places = λ i. start; stop = start + 1; tokens = (bracket_is_token start rest).1 } in
      reads_then (93 ∷ rest) (Close ∷ []) rest ls end one after

  pub string_first : (text : List ℕ) → NonePasses is_quote text → Reads (34 ∷ (text ++ 34 ∷ rest)) (Quoted ∷ ls) end
  string_first text lacks =
      let one : Reads (34 ∷ (text ++ 34 ∷ rest)) (Quoted ∷ []) rest = λ start.
      record { places = λ i. start; stop = start + 2 + length text; tokens = string_is_token start text rest lacks } in
      reads_then (34 ∷ (text ++ 34 ∷ rest)) (Quoted ∷ []) rest ls end one after

  pub run_first : (b : ℕ) (run : List ℕ) (kind : Kind) → (b == 35) ≡ false → NonePasses ends_run (b ∷ run) → IsStopped ends_run rest → kind_of_run (b ∷ run) ≡ kind → Reads (b ∷ (run ++ rest)) (kind ∷ ls) end
  run_first b run kind hash lacks stopped is =
      let one : Reads (b ∷ (run ++ rest)) (kind ∷ []) rest = λ start. record {
        places = λ i. start;
        stop = start + 1 + length run;
        tokens = run_is_token start b run rest hash lacks stopped ∙ ap (λ (k : Kind). token start k ∷ tokens_from 0 (start + 1 + length run) rest) is;
      } in
      reads_then (b ∷ (run ++ rest)) (kind ∷ []) rest ls end one after

-- ---- bytes that are written out

abbrev pub none_passes : (ℕ → Bool) → List ℕ → Bool
none_passes test [] = true
none_passes test (x ∷ xs) = cond (test x) false (none_passes test xs)

pub lacks_tested : (test : ℕ → Bool) (xs : List ℕ) → none_passes test xs ≡ true → NonePasses test xs
lacks_tested test [] h = tt
lacks_tested test (x ∷ xs) h = elim (cases_Bool (test x)) [
  | inl passes ↦ absurd (both_ways false refl (rw passes at h))
  | inr other ↦ (other, lacks_tested test xs (rw other at h))
]

-- a word with a space on each side
pub word_first : {rest end : List ℕ} {ls : List Kind} → Reads rest ls end → (b : ℕ) (run : List ℕ) (kind : Kind) → (b == 35) ≡ false → none_passes ends_run (b ∷ run) ≡ true → kind_of_run (b ∷ run) ≡ kind →
    Reads (32 ∷ b ∷ (run ++ 32 ∷ rest)) (kind ∷ ls) end
word_first after b run kind hash lacks is =
    separator_first (run_first (separator_first after 32 refl) b run kind hash (lacks_tested ends_run (b ∷ run) lacks) refl is) 32 refl
