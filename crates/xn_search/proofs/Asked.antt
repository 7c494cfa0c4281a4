-- Pairs and places of a row that are open in a state, and the leaf that takes a row.
use Rattle.std.proofs.Common.{◌≡◌, IsTrue, ◌↔◌, ℕ, zero, suc, ◌+◌, ◌<◌, ◌≤◌, ◌^◌, inl, inr, Bool, true, false, eqb, List, [], ◌∷◌, ◌++◌, length, map, refl, sym, ◌∙◌, ap, subst, arith, length-append}
use Rattle.std.specs.Prelude.{All, Option, Some, None, IsSome, filter, slice_index, slice_index_or}
use Rattle.std.specs.List.Sorted.{IsStrictlyIncreasing}
use Rattle.std.proofs.lemmas.Bool.{both_ways, cases_Bool, cases_lt, or_cases, eqb-true, eq-eqb, ne_eqb}
use Rattle.std.proofs.lemmas.List.Elements.{All-append, All-cons, All-head, All-map, All-nil, All-tail}
use Rattle.std.proofs.Math.Seq.{get_or-append_seam}
use Rattle.xn_model.specs.Graph.{Graph, Independent, each_two, independent}
use Rattle.xn_model.specs.Lists.{has}
use Rattle.xn_model.specs.Orders.{order_at}
use Rattle.xn_kinds.specs.Bound.{row_at}
use Rattle.xn_kinds.specs.Row.{RowHolds, orders_of}
use Rattle.xn_kinds.specs.State.{State, Crosses, IsState}
use Rattle.xn_kinds.specs.Tree.{MayOpen}
use Rattle.xn_kinds.specs.declared.rows.Row.{Row}
use Rattle.xn_kinds.specs.declared.trees.Node.TheVariants.{Leaf}
use Rattle.xn_effort.specs.LeafLaws.{IsForced, IsOfState, RowsClose, SettledRowsAreForced}
use Rattle.xn_search.specs.Branching.{HasNoOpenPair, HasNoOpenPlace, IsOpenPair}

-- ---- pairs by their places

same_element : (xs : List ℕ) (k d : ℕ) → k < length xs → slice_index_or xs k d ≡ slice_index xs k
same_element [] k d small = absurd (omega (arith, small))
same_element (x ∷ xs) zero d small = refl
same_element (x ∷ xs) (suc k) d small = same_element xs k d (omega (arith, small))

two_by_places : (P : ℕ × ℕ → Type 0) (xs : List ℕ) → ((i j : ℕ) → i < j → j < length xs → P (slice_index xs i, slice_index xs j)) → All P (each_two xs)
two_by_places P [] each = All-nil P
two_by_places P (x ∷ xs) each =
    All-append P (map (λ y. (x, y)) xs) (each_two xs)
    (All-map P (λ (y : ℕ). (x, y)) xs (λ k d small. subst (λ y. P (x, y)) (sym (same_element xs k d small)) (each 0 (suc k) (omega arith) (omega (arith, small)))))
    (two_by_places P xs (λ i j rises small. each (suc i) (suc j) (omega (arith, rises)) (omega (arith, small))))

filter_passes : (P : ℕ × ℕ → Type 0) (t : ℕ × ℕ → Bool) (ps : List (ℕ × ℕ)) → All (λ p. t p ≡ true → P p) ps → All P (filter t ps)
filter_passes P t [] all = All-nil P
filter_passes P t (p ∷ ps) all =
    let rest = filter_passes P t ps (All-tail (λ q. t q ≡ true → P q) p ps all) in
    elim (cases_Bool (t p)) [
      | inl kept ↦ rw kept (All-cons P p (filter t ps) (All-head (λ q. t q ≡ true → P q) p ps all kept) rest)
      | inr gone ↦ rw gone rest
    ]

-- no pair of two edges at these places is open
abbrev pub Settled : Graph → State → List ℕ → ℕ → ℕ → Type 0
Settled g s edges i j = Independent g.ends (slice_index edges i) (slice_index edges j) → IsSome (s.decided (slice_index edges i) (slice_index edges j))

pub none_open : (g : Graph) (s : State) (edges : List ℕ) → ((i j : ℕ) → i < j → j < length edges → Settled g s edges i j) → HasNoOpenPair g s edges
none_open g s edges each =
    filter_passes (λ p. IsSome (s.decided p.0 p.1)) (λ p. independent g.ends p.0 p.1) (each_two edges)
    (two_by_places (λ p. independent g.ends p.0 p.1 ≡ true → IsSome (s.decided p.0 p.1)) edges each)

-- an element at a later place is greater
pub rising_at : (xs : List ℕ) → IsStrictlyIncreasing xs → (i j : ℕ) → i < j → j < length xs → slice_index xs i < slice_index xs j
rising_at xs rise i zero less small = absurd (omega (arith, less))
rising_at xs rise i (suc j) less small =
    let next : slice_index xs j < slice_index xs (j + 1) = rise j (omega (arith, small)) in
    let same : slice_index xs (j + 1) ≡ slice_index xs (suc j) = ap (slice_index xs) (omega arith) in
    elim (cases_lt i j) [
      | inl before ↦ omega (arith, rising_at xs rise i j before (omega (arith, small)), next, same)
      | inr here ↦ let is : i ≡ j = omega (arith, less, here) in omega (arith, next, same, ap (slice_index xs) is)
    ]

some_unless : (o : Option Bool) → ((o ≡ None) → ⊥) → IsSome o
some_unless None none = absurd (none refl)
some_unless (Some x) none = refl

-- a pair that isn't open is decided, or its edges aren't independent
pub settled_unless : (g : Graph) (s : State) (e f : ℕ) → e < f → f < length g.ends → (b : Bool) → (IsTrue b ↔ IsOpenPair g s (e, f)) → b ≡ false →
    Independent g.ends e f → IsSome (s.decided e f)
settled_unless g s e f rises below true is no_ apart = absurd cc
settled_unless g s e f rises below false is no_ apart = some_unless (s.decided e f) (λ none. absurd (let told = is.1 (rises, below, apart, none) in cc))

-- ---- the lists of a row

tail_rises : (x : ℕ) (xs : List ℕ) → IsStrictlyIncreasing (x ∷ xs) → IsStrictlyIncreasing xs
tail_rises x xs rise = λ k small.
    let up : slice_index (x ∷ xs) (suc k) < slice_index (x ∷ xs) (suc k + 1) = rise (suc k) (omega (arith, small)) in
    let next : suc k + 1 ≡ suc (k + 1) = omega arith in
    let same : slice_index (x ∷ xs) (suc k + 1) ≡ slice_index (x ∷ xs) (suc (k + 1)) = ap (slice_index (x ∷ xs)) next in
    omega (arith, up, same)

-- the list of the edge at a place is the one at that place
order_at_place : (edges : List ℕ) (lists : List (List ℕ)) (i : ℕ) → IsStrictlyIncreasing edges → length lists ≡ length edges → i < length edges →
    order_at edges lists (slice_index edges i) ≡ slice_index_or lists i []
order_at_place [] lists i rise fit small = absurd (omega (arith, small))
order_at_place (x ∷ xs) [] i rise fit small = absurd (omega (arith, fit))
order_at_place (x ∷ xs) (l ∷ ls) zero rise fit small = rw (eq-eqb x x refl) refl
order_at_place (x ∷ xs) (l ∷ ls) (suc i) rise fit small =
    let low : slice_index (x ∷ xs) 0 < slice_index (x ∷ xs) (suc i) = rising_at (x ∷ xs) rise 0 (suc i) (omega arith) small in
    let past : eqb x (slice_index xs i) ≡ false = ne_eqb x (slice_index xs i) (λ same. omega (arith, low, same)) in
    rw past (order_at_place xs ls i (tail_rises x xs rise) (omega (arith, fit)) (omega (arith, small)))

-- an edge of the list stands at some place
place_of : (xs : List ℕ) (x : ℕ) → has xs x ≡ true → (i : ℕ) × (i < length xs) × (slice_index xs i ≡ x)
place_of [] x x_in = absurd (both_ways false refl x_in)
place_of (y ∷ ys) x x_in = elim (or_cases (eqb y x) (has ys x) x_in) [
  | inl here ↦ (0, omega arith, eqb-true y x here)
  | inr later ↦ let rest = place_of ys x later in (suc rest.0, omega (arith, rest.1), rest.2)
]

module _ (row : Row) (s : State) (rise : IsStrictlyIncreasing row.edges) (fit : length row.orders ≡ length row.edges) where
  module _ (i e : ℕ) (list : List ℕ) (small : i < length row.edges) (edge : e ≡ slice_index_or row.edges i e) (list_is : list ≡ slice_index_or row.orders i []) where
    edge_here : e ≡ slice_index row.edges i
    edge_here = edge ∙ same_element row.edges i e small

    list_here : orders_of row (slice_index row.edges i) ≡ list
    list_here = order_at_place row.edges row.orders i rise fit small ∙ sym list_is

    pub place_asked : IsOfState row s → (f : ℕ) → (has list f ≡ true) × (has (s.placed e) f ≡ false) → Crosses s e f × (has (s.placed e) f ≡ false)
    place_asked of_state f told =
        let in_row : has (orders_of row (slice_index row.edges i)) f ≡ true = ap (λ xs. has xs f) list_here ∙ told.0 in
        (subst (λ x. Crosses s x f) (sym edge_here) (of_state.crosses (slice_index row.edges i) f in_row), told.1)

    pub placed_here : (2 ≤ length list → (f : ℕ) → has list f ≡ true → has (s.placed e) f ≡ true) → (a f : ℕ) → a ≡ i →
        2 ≤ length (orders_of row (slice_index row.edges a)) → has (orders_of row (slice_index row.edges a)) f ≡ true → has (s.placed (slice_index row.edges a)) f ≡ true
    placed_here all a f here long f_in =
        let at_a : slice_index row.edges a ≡ slice_index row.edges i = ap (slice_index row.edges) here in
        let is : orders_of row (slice_index row.edges a) ≡ list = ap (orders_of row) at_a ∙ list_here in
        let placed = all (omega (arith, long, ap length is)) f (sym (ap (λ xs. has xs f) is) ∙ f_in) in
        ap (λ x. has (s.placed x) f) (at_a ∙ sym edge_here) ∙ placed

  pub no_place_open : ((a f : ℕ) → a < length row.edges → 2 ≤ length (orders_of row (slice_index row.edges a)) → has (orders_of row (slice_index row.edges a)) f ≡ true →
      has (s.placed (slice_index row.edges a)) f ≡ true) → HasNoOpenPlace row s
  no_place_open each e f e_in long f_in =
      let at_e = place_of row.edges e e_in in
      let is = at_e.2 in
      ap (λ x. has (s.placed x) f) (sym is) ∙ each at_e.0 f at_e.1 (omega (arith, long, ap (λ x. length (orders_of row x)) is)) (ap (λ x. has (orders_of row x) f) is ∙ f_in)

-- ---- the leaf that takes a row

module _ (closes : RowsClose) (forces : SettledRowsAreForced) (g : Graph) (k : ℕ) (s : State) (row : Row) (rows : List Row) where
  last_row : row_at (rows ++ row ∷ []) (length rows) ≡ row
  last_row = get_or-append_seam rows row [] _

  pub leaf_keeps : 1 ≤ k → k < 2 ^ 63 → IsState g s → RowHolds g row → IsOfState row s → HasNoOpenPair g s row.edges → HasNoOpenPlace row s →
      MayOpen g k (rows ++ row ∷ []) s (Leaf 1 ((length rows, k) ∷ []))
  leaf_keeps positive small is_state holds of_state pairs places =
      let forced : IsForced g row s = forces g row s is_state holds.orders of_state (record { pairs = pairs; places = places }) in
      closes g k (rows ++ row ∷ []) s (length rows) positive small (omega (arith, length-append rows (row ∷ []))) (subst (λ r. IsForced g r s) (sym last_row) forced)
