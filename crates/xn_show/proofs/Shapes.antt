-- Tokens of these kinds as pairs, line by line.
use Rattle.std.proofs.Common.{◌≡◌, ℕ, pos, zero, suc, Bool, true, false, List, [], ◌∷◌, ◌++◌, drop, Ok, refl, sym, ap, ◌∙◌, subst, append_assoc}
use Rattle.std.specs.List.{flat_map}
use Rattle.xn_gml.specs.declared.pair.Pair.{Pair}
use Rattle.xn_gml.specs.declared.token.Key.{Key}
use Rattle.xn_gml.specs.declared.token.Key.TheVariants as key
use Rattle.xn_gml.specs.declared.token.Kind.{Kind}
use Rattle.xn_gml.specs.declared.token.Kind.TheVariants.{Open, Close}
use Rattle.xn_gml.specs.declared.token.Token.{Token}
use Rattle.xn_gml.specs.Grammar.{grammar_from}
use Rattle.xn_gml.specs.Lists.{lists_of, listed_pairs_from}
use Rattle.xn_gml.specs.Meaning.{integer_at, value_in}
use Rattle.xn_gml.specs.Tokens.{token}
use Rattle.xn_show.proofs.Lines.{node_kinds, segment_kinds}
use Rattle.xn_show.proofs.Numbers.{integer}
use Rattle.xn_show.proofs.TokenKinds.{located}

-- ---- lines that are passed over

-- offsets without the first ones
abbrev pub without_first : ℕ → (ℕ → ℕ) → ℕ → ℕ
without_first zero f = f
without_first (suc n) f = without_first n (λ i. f (suc i))

-- what is said of tokens is said of those after these kinds
abbrev pub Passes : {A : Type 0} → (List Token → A) → List Kind → Type 0
Passes says ks = (f : ℕ → ℕ) (ls : List Kind) → (g : ℕ → ℕ) × (says (located f (ks ++ ls)) ≡ says (located g ls))

pub passes_all : {A : Type 0} (says : List Token → A) (kinds : ℕ → List Kind) → ((x : ℕ) → Passes says (kinds x)) → (xs : List ℕ) → Passes says (flat_map kinds xs)
passes_all says kinds each [] f ls = (f, refl)
passes_all says kinds each (x ∷ xs) f ls =
    let one = each x f (flat_map kinds xs ++ ls) in
    let others = passes_all says kinds each xs one.0 ls in
    (others.0, ap (λ (ks : List Kind). says (located f ks)) (append_assoc (kinds x) (flat_map kinds xs) ls) ∙ one.1 ∙ others.1)

pub node_keeps : (end : ℕ) (input : Bool) (v : ℕ) → Passes (grammar_from end false 1) (node_kinds input v)
unfolding grammar_from
node_keeps end true v f ls = (without_first 11 f, refl)
node_keeps end false v f ls = (without_first 9 f, refl)

pub segment_keeps : (end s : ℕ) (ends : ℕ × ℕ) (e : ℕ) → Passes (grammar_from end false 1) (segment_kinds s ends e)
unfolding grammar_from
segment_keeps end s ends e f ls = (without_first 11 f, refl)

pub node_inside : (input : Bool) (v : ℕ) → Passes (listed_pairs_from 1) (node_kinds input v)
unfolding listed_pairs_from
node_inside true v f ls = (without_first 11 f, refl)
node_inside false v f ls = (without_first 9 f, refl)

pub segment_inside : (s : ℕ) (ends : ℕ × ℕ) (e : ℕ) → Passes (listed_pairs_from 1) (segment_kinds s ends e)
unfolding listed_pairs_from
segment_inside s ends e f ls = (without_first 11 f, refl)

pub node_is_no_edge : (input : Bool) (v : ℕ) → Passes (lists_of key.Edge) (node_kinds input v)
unfolding listed_pairs_from
node_is_no_edge true v f ls = (without_first 11 f, refl)
node_is_no_edge false v f ls = (without_first 9 f, refl)

pub segment_is_no_node : (s : ℕ) (ends : ℕ × ℕ) (e : ℕ) → Passes (lists_of key.Node) (segment_kinds s ends e)
unfolding listed_pairs_from
segment_is_no_node s ends e f ls = (without_first 11 f, refl)

-- ---- blocks

-- the first value of a key in a block is this integer
pub record HasInteger (k : Key) (p : Pair) (n : ℕ) : Type 0 where
  pub value : Token
  pub found : value_in k p ≡ Ok value
  pub is : integer_at value ≡ Ok (pos n)

-- the first and the second value in a block of an edge are these ends
abbrev pub HasEnds : Pair → ℕ × ℕ → Type 0
HasEnds p ends = HasInteger key.Source p ends.0 × HasInteger key.Target p ends.1

-- the first list with this key is a block, and others follow
pub record BlockFirst (k : Key) (f : ℕ → ℕ) (ks ls : List Kind) (P : Pair → Type 0) : Type 0 where
  pub block : Pair
  pub places : ℕ → ℕ
  pub is : lists_of k (located f (ks ++ ls)) ≡ block ∷ lists_of k (located places ls)
  pub has : P block

abbrev block_of : Key → (ℕ → ℕ) → List Kind → Pair
block_of k f ks = record { key = k; at = f 0; value = token (f 1) Open; list = located (without_first 2 f) (drop 2 ks) }

pub node_block : (input : Bool) (v : ℕ) (f : ℕ → ℕ) (ls : List Kind) → BlockFirst key.Node f (node_kinds input v) ls (λ p. HasInteger key.Id p v)
unfolding listed_pairs_from value_in integer_at
node_block true v f ls = record {
  block = block_of key.Node f (node_kinds true v ++ ls);
  places = without_first 11 f;
  is = refl;
  has = record { value = token (f 3) (integer v); found = refl; is = refl };
}
node_block false v f ls = record {
  block = block_of key.Node f (node_kinds false v ++ ls);
  places = without_first 9 f;
  is = refl;
  has = record { value = token (f 3) (integer v); found = refl; is = refl };
}

pub segment_block : (s : ℕ) (ends : ℕ × ℕ) (e : ℕ) (f : ℕ → ℕ) (ls : List Kind) → BlockFirst key.Edge f (segment_kinds s ends e) ls (λ p. HasEnds p ends)
unfolding listed_pairs_from value_in integer_at
segment_block s ends e f ls = record {
  block = block_of key.Edge f (segment_kinds s ends e ++ ls);
  places = without_first 11 f;
  is = refl;
  has = (record { value = token (f 5) (integer ends.0); found = refl; is = refl }, record { value = token (f 7) (integer ends.1); found = refl; is = refl });
}

-- each pair has what is said of the number at its place
abbrev pub EachPair : (ℕ → Pair → Type 0) → List ℕ → List Pair → Type 0
EachPair P [] [] = Unit {0}
EachPair P [] (p ∷ ps) = ⊥
EachPair P (x ∷ xs) [] = ⊥
EachPair P (x ∷ xs) (p ∷ ps) = P x p × EachPair P xs ps

pub each_block : (k : Key) (kinds : ℕ → List Kind) (P : ℕ → Pair → Type 0) → ((x : ℕ) (f : ℕ → ℕ) (ls : List Kind) → BlockFirst k f (kinds x) ls (P x)) →
    (xs : List ℕ) (f : ℕ → ℕ) (ls : List Kind) → ((g : ℕ → ℕ) → lists_of k (located g ls) ≡ []) → EachPair P xs (lists_of k (located f (flat_map kinds xs ++ ls)))
each_block k kinds P each [] f ls none = subst (EachPair P []) (sym (none f)) tt
each_block k kinds P each (x ∷ xs) f ls none =
    let one = each x f (flat_map kinds xs ++ ls) in
    subst (EachPair P (x ∷ xs)) (sym (ap (λ (ks : List Kind). lists_of k (located f ks)) (append_assoc (kinds x) (flat_map kinds xs) ls) ∙ one.is))
    (one.has, each_block k kinds P each xs one.places ls none)

-- ---- the ends of lists

pub close_keeps : (end : ℕ) (f : ℕ → ℕ) → grammar_from end false 1 (located f (Close ∷ [])) ≡ Ok tt
unfolding grammar_from
close_keeps end f = refl

pub close_inside : (f : ℕ → ℕ) → listed_pairs_from 1 (located f (Close ∷ [])) ≡ []
unfolding listed_pairs_from
close_inside f = refl

pub close_has_none : (k : Key) (f : ℕ → ℕ) → lists_of k (located f (Close ∷ [])) ≡ []
unfolding listed_pairs_from
close_has_none k f = refl
