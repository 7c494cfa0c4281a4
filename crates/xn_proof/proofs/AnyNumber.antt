-- What a line says doesn't depend on its number, which only a flaw tells: so lines say the same whatever their numbers are.
use Rattle.std.proofs.Common.{◌≡◌, ℕ, ◌+◌, ◌-◌, ◌^◌, ◌==◌, Bool, true, false, cond, ltb, List, [], ◌∷◌, length, map, min, Option, Some, None, Result, Ok, Err, refl, sym, ◌∙◌, codes}
use Rattle.std.specs.Str.{bytes_eq}
use Rattle.xn_kinds.specs.declared.flaws.Flaw.{Flaw}
use Rattle.xn_kinds.specs.declared.trees.Node.TheVariants.{Pair, Place as PlaceNode, Leaf}
use Rattle.xn_text.specs.Number.{word_number}
use Rattle.xn_text.specs.Pieces.{words_of}
use Rattle.xn_text.specs.declared.numbers.WordNumber.{WordNumber}
use Rattle.xn_text.specs.declared.numbers.WordNumber.TheVariants.{Not, Large, Is}
use Rattle.xn_proof.specs.Forms.{Line, alongs_from, edges_from, is_end, lines_at, node_item, overs_from, paths_from, rows_from, rule_at, start_item, start_paths, turns_from, up_to_end, words_at}
use Rattle.xn_proof.specs.Proofs.{end_of, extension_of, five_of, leaf_of, node_of, pair_of, place_of, start_of, three_of}
use Rattle.xn_proof.specs.Ranges.{at_most, below, counted, edge_form, edges_form, effort_form, factor, first_of, is_half, is_value, just_form, leaf_form, list_form, no_form, nodes_form, one_form, one_of, over_form, parts_at, two_form, two_of}
use Rattle.xn_proof.specs.Reading.{◌>>=◌, each_at, has_key, keyed, keyed_form, loop_flaw, out_of_range, syntax, trailing, value_at, value_of}
use Rattle.xn_proof.specs.declared.evidence.Start.TheVariants as start
use Rattle.xn_proof.specs.declared.item.Item.{Item}
use Rattle.xn_proof.specs.declared.item.Item.TheVariants as item
use Rattle.xn_proof.specs.declared.places.Place.{Place}
use Rattle.xn_proof.specs.declared.places.Place.TheVariants as place
use Rattle.xn_proof.proofs.LineByLine.{counted_on, kept, said, then_items}
use Rattle.xn_proof.proofs.Steps.{bind_ok}

-- what is read under one number is read under any
abbrev pub AnyNumber : {X : Type 0} → (ℕ → Result X Flaw) → Type 0
AnyNumber {X = X} f = (i j : ℕ) (x : X) → f i ≡ Ok x → f j ≡ Ok x

-- ---- steps

fixed : {X : Type 0} (r : Result X Flaw) → AnyNumber (λ i. r)
fixed r i j x e = e

fails : {X : Type 0} (flaw : ℕ → Flaw) → AnyNumber {X = X} (λ i. Err (flaw i))
fails flaw i j x e = absurd cc

choice : {X : Type 0} (b : Bool) (f g : ℕ → Result X Flaw) → AnyNumber f → AnyNumber g → AnyNumber (λ i. cond b (f i) (g i))
choice true f g first second = first
choice false f g first second = second

-- a test that must not fail, and one that must
ok_if : {X : Type 0} (b : Bool) (x : X) (flaw : ℕ → Flaw) → AnyNumber (λ i. cond b (Ok x) (Err (flaw i)))
ok_if b x flaw = choice b (λ i. Ok x) (λ i. Err (flaw i)) (fixed (Ok x)) (fails flaw)

ok_unless : {X : Type 0} (b : Bool) (x : X) (flaw : ℕ → Flaw) → AnyNumber (λ i. cond b (Err (flaw i)) (Ok x))
ok_unless b x flaw = choice b (λ i. Err (flaw i)) (λ i. Ok x) (fails flaw) (fixed (Ok x))

chained : {A B : Type 0} (f : ℕ → Result A Flaw) (g : ℕ → A → Result B Flaw) → AnyNumber f → ((a : A) → AnyNumber (λ i. g i a)) → AnyNumber (λ i. f i >>= g i)
chained f g first rest i j x e =
    let k = bind_ok (f i) (g i) x e in
    rw (first i j k.0 k.1) (rest k.0 i j x k.2)

made : {A B : Type 0} (f : ℕ → Result A Flaw) (h : A → B) → AnyNumber f → AnyNumber (λ i. f i >>= λ a. Ok (h a))
made f h first = chained f (λ i a. Ok (h a)) first (λ a. fixed (Ok (h a)))

each_any : {X Y : Type 0} (f : ℕ → X → Result Y Flaw) → ((x : X) → AnyNumber (λ i. f i x)) → (xs : List X) → AnyNumber (λ i. each_at (f i) xs)
unfolding each_at
each_any f all [] = fixed (Ok [])
each_any f all (x ∷ xs) =
    chained (λ i. f i x) (λ i y. each_at (f i) xs >>= λ ys. Ok (y ∷ ys)) (all x)
    (λ y. made (λ i. each_at (f i) xs) (λ ys. y ∷ ys) (each_any f all xs))

-- ---- values

at_most_any : (most : ℕ) (v : Option ℕ) → AnyNumber (λ i. at_most i most v)
at_most_any most None = fails out_of_range
at_most_any most (Some n) = ok_unless (ltb most n) n out_of_range

below_any : (bound : ℕ) (v : Option ℕ) → AnyNumber (λ i. below i bound v)
below_any bound None = fails out_of_range
below_any bound (Some n) = ok_if (ltb n bound) n out_of_range

factor_any : (v : Option ℕ) → AnyNumber (λ i. factor i v)
factor_any None = fails out_of_range
factor_any (Some n) =
    choice (ltb n 1) (λ i. Err (out_of_range i)) (λ i. cond (ltb n (2 ^ 63)) (Ok n) (Err (out_of_range i))) (fails out_of_range)
    (ok_if (ltb n (2 ^ 63)) n out_of_range)

value_any : (w : WordNumber) → AnyNumber (λ i. value_of i w)
value_any (Is n) = fixed (Ok (Some n))
value_any Large = fixed (Ok None)
value_any Not = fails syntax

first_any : (vs : List (Option ℕ)) → AnyNumber (λ i. first_of i vs)
first_any [] = fails syntax
first_any (v ∷ vs) = fixed (Ok (v, vs))

one_any : (vs : List (Option ℕ)) → AnyNumber (λ i. one_of i vs)
one_any [] = fails syntax
one_any (v ∷ []) = fixed (Ok v)
one_any (v ∷ w ∷ vs) = fails syntax

two_any : (vs : List (Option ℕ)) → AnyNumber (λ i. two_of i vs)
two_any [] = fails syntax
two_any (v ∷ []) = fails syntax
two_any (v ∷ w ∷ []) = fixed (Ok (v, w))
two_any (v ∷ w ∷ u ∷ vs) = fails syntax

small_any : (vs : List (Option ℕ)) → AnyNumber (λ i. each_at (at_most i (2 ^ 32 - 1)) vs)
small_any vs = each_any (λ i v. at_most i (2 ^ 32 - 1) v) (at_most_any (2 ^ 32 - 1)) vs

-- ---- forms

no_any : (vs : List (Option ℕ)) → AnyNumber (λ i. no_form i vs)
unfolding no_form
no_any [] = fixed (Ok tt)
no_any (v ∷ vs) = fails syntax

just_any : (n : ℕ) (vs : List (Option ℕ)) → AnyNumber (λ i. just_form n i vs)
unfolding just_form
just_any n vs =
    chained (λ i. one_of i vs) (λ i v. cond (is_value v n) (Ok tt) (Err (syntax i))) (one_any vs) (λ v. ok_if (is_value v n) tt syntax)

one_form_any : (most : ℕ) (vs : List (Option ℕ)) → AnyNumber (λ i. one_form most i vs)
unfolding one_form
one_form_any most vs = chained (λ i. one_of i vs) (λ i v. at_most i most v) (one_any vs) (at_most_any most)

two_form_any : (a b : ℕ) (vs : List (Option ℕ)) → AnyNumber (λ i. two_form a b i vs)
unfolding two_form
two_form_any a b vs =
    chained (λ i. two_of i vs) (λ i v. at_most i a v.0 >>= λ m. at_most i b v.1 >>= λ n. Ok (m, n)) (two_any vs) (λ v.
    chained (λ i. at_most i a v.0) (λ i m. at_most i b v.1 >>= λ n. Ok (m, n)) (at_most_any a v.0) (λ m.
    made (λ i. at_most i b v.1) (λ n. (m, n)) (at_most_any b v.1)))

edge_any : (nodes e : ℕ) (vs : List (Option ℕ)) → AnyNumber (λ i. edge_form nodes e i vs)
unfolding edge_form
edge_any nodes e vs =
    let last = λ (i m n : ℕ). cond (m == n) (Err (loop_flaw i e)) (Ok (m, n)) in
    chained (λ i. two_of i vs) (λ i v. below i nodes v.0 >>= λ m. below i nodes v.1 >>= λ n. last i m n) (two_any vs) (λ v.
    chained (λ i. below i nodes v.0) (λ i m. below i nodes v.1 >>= λ n. last i m n) (below_any nodes v.0) (λ m.
    chained (λ i. below i nodes v.1) (λ i n. last i m n) (below_any nodes v.1) (λ n. ok_unless (m == n) (m, n) (λ i. loop_flaw i e))))

effort_any : (vs : List (Option ℕ)) → AnyNumber (λ i. effort_form i vs)
unfolding effort_form
effort_any vs =
    chained (λ i. two_of i vs) (λ i v. at_most i 200000 v.1 >>= λ budget. at_most i budget v.0 >>= λ spent. Ok (spent, budget)) (two_any vs) (λ v.
    chained (λ i. at_most i 200000 v.1) (λ i budget. at_most i budget v.0 >>= λ spent. Ok (spent, budget)) (at_most_any 200000 v.1) (λ budget.
    made (λ i. at_most i budget v.0) (λ spent. (spent, budget)) (at_most_any budget v.0)))

counted_any : (most : ℕ) (vs : List (Option ℕ)) → AnyNumber (λ i. counted most i vs)
unfolding counted
counted_any most vs =
    let few = λ (i : ℕ) (v : Option ℕ × List (Option ℕ)). cond (ltb most (length v.1)) (Err (out_of_range i)) (Ok v.1) in
    chained (λ i. first_of i vs) (λ i v. cond (is_value v.0 (length v.1)) (few i v) (Err (syntax i))) (first_any vs) (λ v.
    choice (is_value v.0 (length v.1)) (λ i. few i v) (λ i. Err (syntax i)) (ok_unless (ltb most (length v.1)) v.1 out_of_range) (fails syntax))

list_any : (most : ℕ) (vs : List (Option ℕ)) → AnyNumber (λ i. list_form most i vs)
unfolding list_form
list_any most vs = chained (λ i. counted most i vs) (λ i rest. each_at (at_most i (2 ^ 32 - 1)) rest) (counted_any most vs) small_any

nodes_any : (count : ℕ) (vs : List (Option ℕ)) → AnyNumber (λ i. nodes_form count i vs)
unfolding nodes_form
nodes_any count vs = choice (length vs == count) (λ i. each_at (at_most i (2 ^ 32 - 1)) vs) (λ i. Err (syntax i)) (small_any vs) (fails syntax)

over_any : (vs : List (Option ℕ)) → AnyNumber (λ i. over_form i vs)
unfolding over_form
over_any vs =
    chained (λ i. first_of i vs) (λ i v. list_form 999 i v.1 >>= λ list. at_most i (2 ^ 32 - 1) v.0 >>= λ edge. Ok (edge, list)) (first_any vs) (λ v.
    chained (λ i. list_form 999 i v.1) (λ i list. at_most i (2 ^ 32 - 1) v.0 >>= λ edge. Ok (edge, list)) (list_any 999 v.1) (λ list.
    made (λ i. at_most i (2 ^ 32 - 1) v.0) (λ edge. (edge, list)) (at_most_any (2 ^ 32 - 1) v.0)))

edges_any : (m : ℕ) (vs : List (Option ℕ)) → AnyNumber (λ i. edges_form m i vs)
unfolding edges_form
edges_any m vs =
    chained (λ i. two_of i vs) (λ i v. below i m v.0 >>= λ e. below i m v.1 >>= λ f. Ok (e, f)) (two_any vs) (λ v.
    chained (λ i. below i m v.0) (λ i e. below i m v.1 >>= λ f. Ok (e, f)) (below_any m v.0) (λ e.
    made (λ i. below i m v.1) (λ f. (e, f)) (below_any m v.1)))

parts_any : (rows : ℕ) (vs : List (Option ℕ)) → AnyNumber (λ i. parts_at rows i vs)
unfolding parts_at
parts_any rows [] = fixed (Ok [])
parts_any rows (v ∷ []) = fails syntax
parts_any rows (v ∷ w ∷ vs) =
    chained (λ i. below i rows v) (λ i row. factor i w >>= λ m. parts_at rows i vs >>= λ rest. Ok ((row, m) ∷ rest)) (below_any rows v) (λ row.
    chained (λ i. factor i w) (λ i m. parts_at rows i vs >>= λ rest. Ok ((row, m) ∷ rest)) (factor_any w) (λ m.
    made (λ i. parts_at rows i vs) (λ rest. (row, m) ∷ rest) (parts_any rows vs)))

leaf_any : (rows : ℕ) (vs : List (Option ℕ)) → AnyNumber (λ i. leaf_form rows i vs)
unfolding leaf_form
leaf_any rows vs =
    let parts = λ (i : ℕ) (w : Option ℕ × List (Option ℕ)) (divisor : ℕ). parts_at rows i w.1 >>= λ parts. Ok (divisor, parts) in
    let divided = λ (i : ℕ) (v w : Option ℕ × List (Option ℕ)). at_most i (2 ^ 32 - 1) w.0 >>= λ count. factor i v.0 >>= parts i w in
    let tested = λ (i : ℕ) (v w : Option ℕ × List (Option ℕ)). cond (is_half w.0 (length w.1)) (divided i v w) (Err (syntax i)) in
    chained (λ i. first_of i vs) (λ i v. first_of i v.1 >>= tested i v) (first_any vs) (λ v.
    chained (λ i. first_of i v.1) (λ i w. tested i v w) (first_any v.1) (λ w.
    choice (is_half w.0 (length w.1)) (λ i. divided i v w) (λ i. Err (syntax i))
    (chained (λ i. at_most i (2 ^ 32 - 1) w.0) (λ i count. factor i v.0 >>= parts i w) (at_most_any (2 ^ 32 - 1) w.0) (λ count.
    chained (λ i. factor i v.0) (λ i divisor. parts i w divisor) (factor_any v.0) (λ divisor.
    made (λ i. parts_at rows i w.1) (λ ps. (divisor, ps)) (parts_any rows w.1))))
    (fails syntax)))

-- ---- lines

keyed_any : (key : List ℕ) (words : List (List ℕ)) → AnyNumber (λ i. keyed key i words)
unfolding keyed
keyed_any key [] = fails syntax
keyed_any key (word ∷ words) =
    choice (bytes_eq word key) (λ i. each_at (value_at i) words) (λ i. Err (syntax i))
    (each_any (λ i w. value_at i w) (λ w. value_any (word_number (2 ^ 64) w)) words) (fails syntax)

-- what is made of the numbers behind a key
form_any : {X Y : Type 0} (key : List ℕ) (form : ℕ → List (Option ℕ) → Result X Flaw) (h : X → Y) → ((vs : List (Option ℕ)) → AnyNumber (λ i. form i vs)) →
    (words : List (List ℕ)) → AnyNumber (λ i. keyed_form key form i words >>= λ x. Ok (h x))
form_any key form h any words =
    made (λ i. keyed_form key form i words) h (chained (λ i. keyed key i words) (λ i vs. form i vs) (keyed_any key words) any)

start_any : (words : List (List ℕ)) → AnyNumber (λ i. start_of i words)
unfolding start_of
start_any words =
    choice (has_key (codes "five") words) (λ i. five_of i words) (λ i. cond (has_key (codes "three") words) (three_of i words) (extension_of i words))
    (form_any (codes "five") (nodes_form 5) (λ branch. start.Five branch) (nodes_any 5) words)
    (choice (has_key (codes "three") words) (λ i. three_of i words) (λ i. extension_of i words)
    (form_any (codes "three") (nodes_form 6) (λ branch. start.ThreeThree branch) (nodes_any 6) words)
    (form_any (codes "extension") (list_form 1000000) (λ list. start.Extension list) (list_any 1000000) words))

node_any : (m rows : ℕ) (words : List (List ℕ)) → AnyNumber (λ i. node_of m rows i words)
unfolding node_of
node_any m rows words =
    let last = λ (i : ℕ). cond (has_key (codes "leaf") words) (leaf_of rows i words) (end_of i words) in
    choice (has_key (codes "pair") words) (λ i. pair_of m i words) (λ i. cond (has_key (codes "place") words) (place_of m i words) (last i))
    (form_any (codes "pair") (edges_form m) (λ p. Some (Pair p.0 p.1)) (edges_any m) words)
    (choice (has_key (codes "place") words) (λ i. place_of m i words) last
    (form_any (codes "place") (edges_form m) (λ p. Some (PlaceNode p.0 p.1)) (edges_any m) words)
    (choice (has_key (codes "leaf") words) (λ i. leaf_of rows i words) (λ i. end_of i words)
    (form_any (codes "leaf") (leaf_form rows) (λ l. Some (Leaf l.0 l.1)) (leaf_any rows) words)
    (form_any (codes "end") no_form (λ u. None) no_any words)))

words_any : (p : Place) (words : List (List ℕ)) → AnyNumber (λ i. words_at p i words)
words_any place.Header words = form_any (codes "crossing-answer") (just_form 1) (λ u. (item.Header 1, place.Graph)) (just_any 1) words
words_any place.Graph words =
    form_any (codes "graph") (two_form 1000 1000) (λ x. (item.Graph x.0 x.1, place.Loops x.0 x.1)) (two_form_any 1000 1000) words
words_any (place.Loops nodes m) words =
    form_any (codes "loops") (one_form (2 ^ 64 - 1)) (λ l. (item.Loops l, edges_from nodes 0 m)) (one_form_any (2 ^ 64 - 1)) words
words_any (place.Edge nodes e more) words =
    form_any (codes "edge") (edge_form nodes e) (λ x. (item.Edge x.0 x.1, edges_from nodes (e + 1) more)) (edge_any nodes e) words
words_any (place.Bounds m) words =
    form_any (codes "bounds") (two_form 499500 499500) (λ x. (item.Bounds x.0 x.1, place.Effort m)) (two_form_any 499500 499500) words
words_any (place.Effort m) words = form_any (codes "effort") effort_form (λ x. (item.Effort x.0 x.1, alongs_from m m m)) effort_any words
words_any (place.Along m segments more) words =
    form_any (codes "along") (list_form 999) (λ l. (item.Along l, alongs_from m (segments + length l) more)) (list_any 999) words
words_any (place.Turn m more) words =
    form_any (codes "turn") (two_form (2 ^ 32 - 1) (2 ^ 32 - 1)) (λ x. (item.Turn x.0 x.1, turns_from m more)) (two_form_any (2 ^ 32 - 1) (2 ^ 32 - 1)) words
words_any (place.Drawn m) words = form_any (codes "drawn") no_form (λ u. (item.Drawn, place.Rows m)) no_any words
words_any (place.Rows m) words = form_any (codes "rows") (one_form 1048576) (λ n. (item.Rows n, rows_from m n n)) (one_form_any 1048576) words
words_any (place.Row b) words = form_any (codes "row") (one_form b.edges) (λ n. (item.Row n, overs_from b n)) (one_form_any b.edges) words
words_any (place.Over b more) words = form_any (codes "over") over_form (λ x. (item.Over x.0 x.1, overs_from b more)) over_any words
words_any (place.Evidence b) words = made (λ i. start_of i words) (λ s. (start_item s, paths_from b (start_paths s))) (start_any words)
words_any (place.Path b more) words =
    form_any (codes "path") (list_form 1000000) (λ l. (item.Path l, paths_from b more)) (list_any 1000000) words
words_any (place.Tree m rows) words = form_any (codes "tree") no_form (λ u. (item.Tree, place.Node m rows)) no_any words
words_any (place.Node m rows) words = made (λ i. node_of m rows i words) (λ n. node_item m rows n) (node_any m rows words)
words_any place.Nothing words = fails trailing

rule_any : (p : Place) (line : Line) → AnyNumber (λ i. rule_at p i line)
rule_any p line =
    let words = λ (i : ℕ). words_at p i (words_of line.0) in
    choice (is_end p) (λ i. Err (trailing i)) (λ i. cond line.1 (words i) (Err (syntax i))) (fails trailing)
    (choice line.1 words (λ i. Err (syntax i)) (words_any p (words_of line.0)) (fails syntax))

-- ---- lines up to the end

-- those after a line that led on, which has its number n
first_apart : (n : ℕ) (lines : List Line) (w : Result (Item × Place) Flaw) →
    up_to_end ((w >>= counted_on n) >>= λ first. lines_at first.1 lines >>= then_items first.0)
    ≡ (w >>= λ x. up_to_end (lines_at (n, x.1) lines) >>= λ r. Ok (x.0 ∷ r))
first_apart n lines (Ok x) = kept x.0 (lines_at (n, x.1) lines)
first_apart n lines (Err e) = refl

-- a line that says the same, and lines after it that do
both_same : (w v : Result (Item × Place) Flaw) (f g : Place → Result (List Item) Flaw) (items : List Item) → ((x : Item × Place) → w ≡ Ok x → v ≡ Ok x) →
    ((p : Place) (r : List Item) → f p ≡ Ok r → g p ≡ Ok r) → (w >>= λ x. f x.1 >>= λ r. Ok (x.0 ∷ r)) ≡ Ok items →
    (v >>= λ x. g x.1 >>= λ r. Ok (x.0 ∷ r)) ≡ Ok items
both_same w v f g items first rest e =
    let a = bind_ok w (λ x. f x.1 >>= λ r. Ok (x.0 ∷ r)) items e in
    let b = bind_ok (f a.0.1) (λ r. Ok (a.0.0 ∷ r)) items a.2 in
    rw (first a.0 a.1, rest a.0.1 b.0 b.1) b.2

-- with the number of a state, which stays at 2^64 - 1, or with numbers that grow on
pub lines_any : (lines : List (ℕ × List ℕ × Bool)) (p : Place) (i j : ℕ) (items : List Item) → up_to_end (lines_at (i, p) (map (λ l. (l.1, l.2)) lines)) ≡ Ok items →
    said j p lines ≡ Ok items
lines_any [] p i j items e = ok_if (is_end p) [] syntax i j items e
lines_any (l ∷ lines) p i j items e =
    let others = map (λ l. (l.1, l.2)) lines in
    let n = min (i + 1) (2 ^ 64 - 1) in
    both_same (rule_at p i (l.1, l.2)) (rule_at p j (l.1, l.2)) (λ q. up_to_end (lines_at (n, q) others)) (λ q. said (j + 1) q lines) items
    (rule_any p (l.1, l.2) i j) (λ q r. lines_any lines q n (j + 1) r) (sym (first_apart n others (rule_at p i (l.1, l.2))) ∙ e)

pub said_any : (lines : List (ℕ × List ℕ × Bool)) (p : Place) (i j : ℕ) (items : List Item) → said j p lines ≡ Ok items →
    up_to_end (lines_at (i, p) (map (λ l. (l.1, l.2)) lines)) ≡ Ok items
said_any [] p i j items e = ok_if (is_end p) [] syntax j i items e
said_any (l ∷ lines) p i j items e =
    let others = map (λ l. (l.1, l.2)) lines in
    let n = min (i + 1) (2 ^ 64 - 1) in
    first_apart n others (rule_at p i (l.1, l.2))
    ∙ both_same (rule_at p j (l.1, l.2)) (rule_at p i (l.1, l.2)) (λ q. said (j + 1) q lines) (λ q. up_to_end (lines_at (n, q) others)) items
    (rule_any p (l.1, l.2) j i) (λ q r. said_any lines q n (j + 1) r) e
