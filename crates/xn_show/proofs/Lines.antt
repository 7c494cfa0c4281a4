-- The tokens of the lines, by their kinds.
use Rattle.std.proofs.Common.{◌≡◌, ℕ, ℤ, zero, suc, ◌+◌, ◌^◌, ◌<◌, Bool, true, false, cond, List, [], ◌∷◌, ◌++◌, decimal, codes, FitsSigned, refl, sym, ap, ◌∙◌, subst, append_assoc, arith}
use Rattle.std.specs.Fmt.{signed_decimal}
use Rattle.std.specs.Int.{w64}
use Rattle.std.specs.List.{AllByRecursion, flat_map, range_with_len}
use Rattle.xn_gml.specs.declared.token.Key.TheVariants as key
use Rattle.xn_gml.specs.declared.token.Kind.{Kind}
use Rattle.xn_gml.specs.declared.token.Kind.TheVariants.{Open, Close, Quoted, Word}
use Rattle.xn_gml.specs.Runs.{kind_of_run, is_word, key_of}
use Rattle.xn_gml.specs.Tokens.{is_quote}
use Rattle.xn_show.specs.Text.{crossing_text, input_text, segment_line, spaced, turn_text}
use Rattle.xn_show.proofs.Numbers.{integer, number_first, signed_no_quote, spaced_no_quote}
use Rattle.xn_show.proofs.TokenKinds.{Reads, close_first, lacks_tested, open_first, separator_first, string_first, word_first}

-- ---- words

pub graph_is : kind_of_run (codes "graph") ≡ Word key.Graph
unfolding kind_of_run is_word key_of
graph_is = refl

pub node_is : kind_of_run (codes "node") ≡ Word key.Node
unfolding kind_of_run is_word key_of
node_is = refl

pub edge_is : kind_of_run (codes "edge") ≡ Word key.Edge
unfolding kind_of_run is_word key_of
edge_is = refl

pub id_is : kind_of_run (codes "id") ≡ Word key.Id
unfolding kind_of_run is_word key_of
id_is = refl

pub source_is : kind_of_run (codes "source") ≡ Word key.Source
unfolding kind_of_run is_word key_of
source_is = refl

pub target_is : kind_of_run (codes "target") ≡ Word key.Target
unfolding kind_of_run is_word key_of
target_is = refl

pub directed_is : kind_of_run (codes "directed") ≡ Word key.Other
unfolding kind_of_run is_word key_of
directed_is = refl

label_is : kind_of_run (codes "label") ≡ Word key.Other
unfolding kind_of_run is_word key_of
label_is = refl

kind_is : kind_of_run (codes "kind") ≡ Word key.Other
unfolding kind_of_run is_word key_of
kind_is = refl

turn_is : kind_of_run (codes "turn") ≡ Word key.Other
unfolding kind_of_run is_word key_of
turn_is = refl

of_is : kind_of_run (codes "of") ≡ Word key.Other
unfolding kind_of_run is_word key_of
of_is = refl

-- ---- pieces, grouped anew

grow : (a b x c : List ℕ) → b ++ x ≡ c → (a ++ b) ++ x ≡ a ++ c
grow a b x c e = append_assoc a b x ∙ ap (λ (t : List ℕ). a ++ t) e

regroup_three : (a b c x : List ℕ) → (a ++ (b ++ c)) ++ x ≡ a ++ (b ++ (c ++ x))
regroup_three a b c x = grow a (b ++ c) x _ (append_assoc b c x)

regroup_six : (a b c d e f x : List ℕ) → (a ++ (b ++ (c ++ (d ++ (e ++ f))))) ++ x ≡ a ++ (b ++ (c ++ (d ++ (e ++ (f ++ x)))))
regroup_six a b c d e f x = grow a _ x _ (grow b _ x _ (grow c _ x _ (regroup_three d e f x)))

regroup_nine : (a b c d e f g h i x : List ℕ) → (a ++ (b ++ (c ++ (d ++ (e ++ (f ++ (g ++ (h ++ i)))))))) ++ x ≡ a ++ (b ++ (c ++ (d ++ (e ++ (f ++ (g ++ (h ++ (i ++ x))))))))
regroup_nine a b c d e f g h i x = grow a _ x _ (grow b _ x _ (grow c _ x _ (regroup_six d e f g h i x)))

-- ---- the line of a segment

abbrev pub segment_kinds : ℕ → ℕ × ℕ → ℕ → List Kind
segment_kinds s ends e =
    Word key.Edge ∷ Open ∷ Word key.Id ∷ integer s ∷ Word key.Source ∷ integer ends.0 ∷ Word key.Target ∷ integer ends.1 ∷ Word key.Other ∷ integer e ∷ Close ∷ []

module _ {rest end : List ℕ} {ls : List Kind} (after : Reads rest ls end) where
  -- the end of a line
  line_ends : Reads (codes " ]\n" ++ rest) (Close ∷ ls) end
  line_ends = separator_first (close_first (separator_first after 10 refl)) 32 refl

  pub segment_first : (s : ℕ) (ends : ℕ × ℕ) (e : ℕ) → s < 2 ^ 63 → ends.0 < 2 ^ 63 → ends.1 < 2 ^ 63 → e < 2 ^ 63 → Reads (segment_line s ends e ++ rest) (segment_kinds s ends e ++ ls) end
  segment_first s ends e s_small first_small second_small e_small =
      let P : List ℕ → Type 0 = λ t. Reads t (segment_kinds s ends e ++ ls) end in
      let of = word_first (number_first line_ends refl e e_small) 111 (codes "f") (Word key.Other) refl refl of_is in
      let target = word_first (number_first of refl ends.1 second_small) 116 (codes "arget") (Word key.Target) refl refl target_is in
      let source = word_first (number_first target refl ends.0 first_small) 115 (codes "ource") (Word key.Source) refl refl source_is in
      let id = word_first (number_first source refl s s_small) 105 (codes "d") (Word key.Id) refl refl id_is in
      subst P (sym (regroup_nine (codes "  edge [ id ") (decimal s) (codes " source ") (decimal ends.0) (codes " target ") (decimal ends.1) (codes " of ") (decimal e) (codes " ]\n") rest))
      (separator_first (word_first (open_first id) 101 (codes "dge") (Word key.Edge) refl refl edge_is) 32 refl)

-- ---- the line of a node

-- what is said of a node before its darts
abbrev pub kind_kinds : Bool → List Kind → List Kind
kind_kinds true ks = Word key.Other ∷ Quoted ∷ Word key.Other ∷ Quoted ∷ ks
kind_kinds false ks = Word key.Other ∷ Quoted ∷ ks

abbrev pub node_kinds : Bool → ℕ → List Kind
node_kinds input v = Word key.Node ∷ Open ∷ Word key.Id ∷ integer v ∷ kind_kinds input (Word key.Other ∷ Quoted ∷ Close ∷ [])

-- the text of it
abbrev kind_by : Bool → ℤ → List ℕ
kind_by input id = cond input (input_text id) crossing_text

abbrev pub line_by : Bool → ℤ → ℕ → List ℕ → List ℕ
line_by input id v ds = codes "  node [ id " ++ (decimal v ++ (kind_by input id ++ turn_text ds))

module _ {rest end : List ℕ} {ls : List Kind} (after : Reads rest ls end) (ds : List ℕ) (ds_small : AllByRecursion (λ n. n < 10 ^ 64) ds) where
  turn_first : Reads (codes " turn \"" ++ (spaced ds ++ (codes "\" ]\n" ++ rest))) (Word key.Other ∷ Quoted ∷ Close ∷ ls) end
  turn_first = word_first (string_first (line_ends after) (spaced ds) (spaced_no_quote ds ds_small)) 116 (codes "urn") (Word key.Other) refl refl turn_is

  crossing_first : Reads (crossing_text ++ (codes " turn \"" ++ (spaced ds ++ (codes "\" ]\n" ++ rest)))) (Word key.Other ∷ Quoted ∷ Word key.Other ∷ Quoted ∷ Close ∷ ls) end
  crossing_first = word_first (string_first turn_first (codes "crossing") (lacks_tested is_quote (codes "crossing") refl)) 107 (codes "ind") (Word key.Other) refl refl kind_is

  input_first : (id : ℤ) → FitsSigned w64 id →
      Reads (input_text id ++ (codes " turn \"" ++ (spaced ds ++ (codes "\" ]\n" ++ rest)))) (Word key.Other ∷ Quoted ∷ Word key.Other ∷ Quoted ∷ Word key.Other ∷ Quoted ∷ Close ∷ ls) end
  input_first id fits =
      let turn : List ℕ = codes " turn \"" ++ (spaced ds ++ (codes "\" ]\n" ++ rest)) in
      let P : List ℕ → Type 0 = λ t. Reads t (Word key.Other ∷ Quoted ∷ Word key.Other ∷ Quoted ∷ Word key.Other ∷ Quoted ∷ Close ∷ ls) end in
      let kind = word_first (string_first turn_first (codes "input") (lacks_tested is_quote (codes "input") refl)) 107 (codes "ind") (Word key.Other) refl refl kind_is in
      subst P (sym (regroup_three (codes " label \"") (signed_decimal id) (codes "\" kind \"input\"") turn))
      (word_first (string_first kind (signed_decimal id) (signed_no_quote id fits)) 108 (codes "abel") (Word key.Other) refl refl label_is)

  pub node_first : (input : Bool) (id : ℤ) (v : ℕ) → (input ≡ true → FitsSigned w64 id) → v < 2 ^ 63 → Reads (line_by input id v ds ++ rest) (node_kinds input v ++ ls) end
  node_first true id v fits small =
      let P : List ℕ → Type 0 = λ t. Reads t (node_kinds true v ++ ls) end in
      subst P (sym (regroup_six (codes "  node [ id ") (decimal v) (input_text id) (codes " turn \"") (spaced ds) (codes "\" ]\n") rest))
      (separator_first (word_first (open_first (word_first (number_first (input_first id (fits refl)) refl v small) 105 (codes "d") (Word key.Id) refl refl id_is)) 110 (codes "ode") (Word key.Node) refl refl node_is) 32 refl)
  node_first false id v fits small =
      let P : List ℕ → Type 0 = λ t. Reads t (node_kinds false v ++ ls) end in
      subst P (sym (regroup_six (codes "  node [ id ") (decimal v) crossing_text (codes " turn \"") (spaced ds) (codes "\" ]\n") rest))
      (separator_first (word_first (open_first (word_first (number_first crossing_first refl v small) 105 (codes "d") (Word key.Id) refl refl id_is)) 110 (codes "ode") (Word key.Node) refl refl node_is) 32 refl)

-- ---- lines one after another

pub lines_first : (line : ℕ → List ℕ) (kinds : ℕ → List Kind) (a n : ℕ) →
    ((x : ℕ) → x < a + n → (rest end : List ℕ) (ls : List Kind) → Reads rest ls end → Reads (line x ++ rest) (kinds x ++ ls) end) →
    (rest end : List ℕ) (ls : List Kind) → Reads rest ls end → Reads (flat_map line (range_with_len a n) ++ rest) (flat_map kinds (range_with_len a n) ++ ls) end
lines_first line kinds a zero each rest end ls after = after
lines_first line kinds a (suc n) each rest end ls after =
    let lines : List ℕ = flat_map line (range_with_len (a + 1) n) in
    let others : List Kind = flat_map kinds (range_with_len (a + 1) n) in
    let P : List ℕ → Type 0 = λ t. Reads t ((kinds a ++ others) ++ ls) end in
    let Q : List Kind → Type 0 = λ ks. Reads (line a ++ (lines ++ rest)) ks end in
    subst P (sym (append_assoc (line a) lines rest)) (subst Q (sym (append_assoc (kinds a) others ls))
    (each a (omega arith) (lines ++ rest) end (others ++ ls) (lines_first line kinds (a + 1) n (λ x low. each x (omega (arith, low))) rest end ls after)))
