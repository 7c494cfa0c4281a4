-- The lists of the edges of a graph, edge by edge.
use Rattle.std.proofs.Common.{◌≡◌, ℕ, zero, suc, ◌+◌, ◌<◌, true, false, eqb, List, [], ◌∷◌, ◌++◌, Bool, add-one, drop, drop-cons, length, map, get_or, inl, inr, refl, sym, ap, ◌∙◌, arith}
use Rattle.std.specs.List.{flat_map, range_with_len}
use Rattle.std.specs.Prelude.{filter}
use Rattle.std.proofs.lemmas.Bool.{cases_Bool, eq-eqb, ne_eqb}
use Rattle.std.proofs.lemmas.List.Elements.{filter-append}
use Rattle.std.proofs.lemmas.List.FromFn.{length-range_with_len, get_or-range_with_len}
use Rattle.xn_model.specs.Graph.{Graph, each_two, edges_of}
use Rattle.xn_model.specs.Lists.{has}
use Rattle.xn_model.specs.Orders.{order_at}

pub order_at-range : (a n : ℕ) (lists : List (List ℕ)) (e : ℕ) → e < n → order_at (range_with_len a n) lists (a + e) ≡ get_or lists e []
order_at-range a zero lists e low = absurd (omega arith)
order_at-range a (suc n) [] e low = refl
order_at-range a (suc n) (l ∷ ls) zero low = let here : eqb a (a + 0) ≡ true = eq-eqb _ _ (omega arith) in rw here refl
order_at-range a (suc n) (l ∷ ls) (suc e) low =
    let differ : eqb a (a + suc e) ≡ false = ne_eqb _ _ (λ same. omega (arith, same)) in
    let next : a + suc e ≡ (a + 1) + e = omega arith in
    rw differ (ap (order_at (range_with_len (a + 1) n) ls) next ∙ order_at-range (a + 1) n ls e (omega (arith, low)))

-- the list of an edge
pub order_of-at : (n : ℕ) (lists : List (List ℕ)) (e : ℕ) → e < n → order_at (range_with_len 0 n) lists e ≡ get_or lists e []
order_of-at n lists e low = let same : e ≡ 0 + e = omega arith in ap (order_at (range_with_len 0 n) lists) same ∙ order_at-range 0 n lists e low

-- the pairs of e that cross are those with an edge in its list
pub filter-crossings : (ord : ℕ → List ℕ) (e : ℕ) (es : List ℕ) → filter {X = ℕ × ℕ} (λ p. has (ord e) p.1) (map (λ f. (e, f)) es) ≡ filter {X = ℕ × ℕ} (λ p. has (ord p.0) p.1) (map (λ f. (e, f)) es)
filter-crossings ord e [] = refl
filter-crossings ord e (f ∷ es) = elim (cases_Bool (has (ord e) f)) [
  | inl crosses ↦ rw crosses (ap (λ ps. (e, f) ∷ ps) (filter-crossings ord e es))
  | inr apart ↦ rw apart (filter-crossings ord e es)
]

-- an entry of the list of all edges is an edge
pub edge_at : (g : Graph) (edges : List ℕ) (i : ℕ) → edges ≡ edges_of g → i < length edges → get_or edges i 0 < length g.ends
edge_at g edges i is low =
    let n = length g.ends in
    let inside : i < n = omega (arith, low, ap length is, length-range_with_len 0 n) in
    omega (arith, ap (λ l. get_or l i 0) is, get_or-range_with_len 0 n i 0 inside, inside)

pub crossings-drop : (ord : ℕ → List ℕ) (edges : List ℕ) (i : ℕ) → i < length edges →
    filter {X = ℕ × ℕ} (λ p. has (ord p.0) p.1) (each_two (drop i edges))
    ≡ filter {X = ℕ × ℕ} (λ p. has (ord (get_or edges i 0)) p.1) (map (λ f. (get_or edges i 0, f)) (drop (i + 1) edges)) ++ filter {X = ℕ × ℕ} (λ p. has (ord p.0) p.1) (each_two (drop (i + 1) edges))
crossings-drop ord edges i low =
    let e = get_or edges i 0 in
    let rest = drop (i + 1) edges in
    let crosses : ℕ × ℕ → Bool = λ p. has (ord p.0) p.1 in
    let whole : drop i edges ≡ e ∷ rest = rw (add-one, drop-cons edges i 0) refl in
    ap (λ l. filter crosses (each_two l)) whole ∙ filter-append crosses (map (λ f. (e, f)) rest) (each_two rest)
    ∙ ap (λ l. l ++ filter crosses (each_two rest)) (sym (filter-crossings ord e rest))

pub flat_map-drop : (f : ℕ → List (ℕ × ℕ)) (xs : List ℕ) (i : ℕ) → i < length xs → flat_map f (drop i xs) ≡ f (get_or xs i 0) ++ flat_map f (drop (i + 1) xs)
flat_map-drop f xs i low = rw (add-one, drop-cons xs i 0) refl
