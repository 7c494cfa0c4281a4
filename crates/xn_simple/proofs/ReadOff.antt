-- What is read off walks, step by step: the numbers of edges, the lists along the walks, and the darts at which they start.
use Rattle.std.proofs.Common.{◌≡◌, ℕ, suc, ◌+◌, ◌-◌, ◌*◌, ◌^◌, ◌<◌, ◌≤◌, inl, inr, Bool, true, false, Option, Some, None, List, [], ◌∷◌, ◌++◌, length, get_or, drop, map, set, take, is_some, slice_index_or, refl, sym, ◌∙◌, ap, ap₂, arith, append_assoc, if◌then◌else◌}
use Rattle.std.specs.List.{flat_map, list_any}
use Rattle.std.proofs.lemmas.Bool.{and_parts, cases_eq, cases_order, cond-true}
use Rattle.std.proofs.lemmas.List.{append-nil, drop_all, get_or_read, get_or-set_other, get_or-set_same, map_more, take_all}
use Rattle.std.proofs.lemmas.List.Kept.{AllPairs-from_increasing}
use Rattle.xn_model.specs.Graph.{Graph}
use Rattle.xn_model.specs.Lists.{at, has, position_in}
use Rattle.xn_model.specs.Map.{reverse_of, tail_of}
use Rattle.xn_model.proofs.Has.{has-at}
use Rattle.xn_ring.proofs.Counting.{count-all, count_injects}
use Rattle.xn_orders.proofs.Listed.{flat_map-take_more}
use Rattle.xn_track.specs.Tidying.{is_other, other_at}
use Rattle.xn_track.proofs.OrdersAlong.{first_passing_is}
use Rattle.xn_track.proofs.Passes.{edge_in as edge_low, some_darts}
use Rattle.xn_general.proofs.InWeb.{at_position}
use Rattle.xn_simple.specs.Tangle.{ListedTangle, named, node_in, walk_in}
use Rattle.xn_simple.specs.Tidied.{is_crossed, starts_by_walks, starts_past}
use Rattle.xn_simple.specs.Turning.{AreDartsOnce}
use Rattle.xn_simple.specs.Untangling.{AreNumbers, IsUntangled, crossed_at, order_in, starts_in_walk}
use Rattle.xn_simple.proofs.DrawnBy.{tidy}
use Rattle.xn_simple.proofs.Read.{number_more, number_none, numbers_all, numbers_past, start_last, start_more, start_none, starts_first}

-- ---- small facts

-- different numbers below a bound are no more
pub few_apart : (n : ℕ) (xs : List ℕ) → ((i : ℕ) → i < length xs → at xs i < n) → ((i j : ℕ) → i < length xs → j < length xs → at xs i ≡ at xs j → i ≡ j) → length xs ≤ n
few_apart n xs below apart =
    let all = count-all (length xs) in
    let most = count-all n in
    let few = count_injects (length xs) n (λ k. true) (λ d. true) (λ k d. (k < length xs) × (at xs k ≡ d)) (λ k k_in h. (at xs k, below k k_in, refl, (k_in, refl)))
    (λ i j d i_in j_in one two. apart i j i_in j_in (one.1 ∙ sym two.1)) in
    omega (arith, all, most, few)

no_some : (f : ℕ) → Path (Option ℕ) (Some f) None → ⊥
no_some f same = cc

pub some_if : (b : Bool) (x f : ℕ) → Path (Option ℕ) (Some f) (if b then Some x else None) → (b ≡ true) × (f ≡ x)
some_if true x f same = (refl, same_some x f same)
  where
    same_some : (x f : ℕ) → Path (Option ℕ) (Some f) (Some x) → f ≡ x
    same_some x f same = cc
some_if false x f same = absurd (no_some f same)

pub none_if : (b : Bool) (x : ℕ) → Path (Option ℕ) None (if b then Some x else None) → b ≡ false
none_if true x same = absurd (no_some x (sym same))
none_if false x same = refl

pub is_some_if : (b : Bool) (x : ℕ) → is_some (if b then Some x else None) ≡ b
is_some_if true x = refl
is_some_if false x = refl

-- an element that is read from a list that is known
pub read_is : (xs ds : List ℕ) (k x : ℕ) → xs ≡ ds → k < length ds → x ≡ get_or xs k x → x ≡ at ds k
read_is xs ds k x is k_in read = let size = ap length is in get_or_read xs k x (omega (arith, k_in, size)) read 0 ∙ ap (λ l. at l k) is

-- ---- numbers

-- one more edge has its place
pub numbers_more : (edges numbers : List ℕ) (i : ℕ) → i < length edges → at edges i < length numbers →
    ((x y : ℕ) → x < length edges → y < length edges → at edges x ≡ at edges y → x ≡ y) → ((x : ℕ) → x < i → at numbers (at edges x) ≡ x) →
    (x : ℕ) → x < i + 1 → at (set numbers (at edges i) i) (at edges x) ≡ x
numbers_more edges numbers i i_in low apart before x x_in = elim (cases_eq x i) [
  | inl here ↦ ap (λ k. at (set numbers (at edges i) i) (at edges k)) here ∙ get_or-set_same numbers (at edges i) i 0 low ∙ sym here
  | inr other ↦
      let x_low : x < i = omega (arith, x_in, other) in
      get_or-set_other numbers (at edges i) (at edges x) i 0 (λ same. other (apart x i (omega (arith, x_low, i_in)) i_in same)) ∙ before x x_low
]

pub are_numbers : (count : ℕ) (edges numbers : List ℕ) → length numbers ≡ count → ((x y : ℕ) → x < length edges → y < length edges → at edges x ≡ at edges y → x ≡ y) →
    ((x : ℕ) → x < length edges → at numbers (at edges x) ≡ x) → AreNumbers count edges numbers
are_numbers count edges numbers fits apart held = record {
  fits = fits;
  held = λ e e_in. let p = at_position edges e e_in in ap (at numbers) (sym p.1) ∙ held (position_in edges e) p.0;
}

-- ---- walks

module _ (g : Graph) (t : ListedTangle) (done : IsUntangled g t) where
  abbrev ends : List (ℕ × ℕ)
  ends = t.map.web.ends

  abbrev walks : ℕ → List ℕ
  walks = walk_in t

  abbrev crossed : ℕ → ℕ → Bool
  crossed = is_crossed t.edges ends (named t) walks

  abbrev other : ℕ → ℕ → ℕ
  other = other_at t.edges ends walks

  -- edges that are in
  pub edge_below : (e : ℕ) → has t.edges e ≡ true → e < length g.ends
  edge_below = edge_low g t.edges done.tangle.loosened.more done.tangle.loosened.after (named t) walks done.tangle.is_graph done.tangle.loosened.track

  pub each_below : (i : ℕ) → i < length t.edges → at t.edges i < length g.ends
  each_below i i_in = edge_below (at t.edges i) (has-at t.edges i i_in)

  pub edges_apart : (i j : ℕ) → i < length t.edges → j < length t.edges → at t.edges i ≡ at t.edges j → i ≡ j
  edges_apart i j i_in j_in same = elim (cases_order i j) [
    | inl is ↦ is
    | inr (inl low) ↦ let less = rise i j 0 low j_in in absurd (omega (arith, less, same))
    | inr (inr high) ↦ let less = rise j i 0 high i_in in absurd (omega (arith, less, same))
  ]
    where
      rise : (i j d : ℕ) → i < j → j < length t.edges → slice_index_or t.edges i d < slice_index_or t.edges j d
      rise = AllPairs-from_increasing t.edges done.tangle.loosened.track.edge_list.rise

  -- a walk has a dart
  pub walk_long : (e : ℕ) → has t.edges e ≡ true → 0 < length (walks e)
  walk_long = some_darts g t.edges done.tangle.loosened.more done.tangle.loosened.after (named t) walks done.tangle.is_graph done.tangle.loosened.track

  -- an edge that is crossed is in
  pub crossed_in : (e v f : ℕ) → Some f ≡ crossed_at t e v → f < length g.ends
  crossed_in e v f same =
      let is = some_if (crossed e v) (other e v) f same in
      let met : (named t v ≡ true) × (list_any (is_other ends walks e v) t.edges ≡ true) = and_parts _ _ is.0 in
      let first = first_passing_is (is_other ends walks e v) t.edges met.1 in
      edge_below f (ap (has t.edges) is.1 ∙ first.0)

  -- whether one is crossed
  pub crossed_test : (e v : ℕ) (found : Option ℕ) → found ≡ crossed_at t e v → is_some found ≡ crossed e v
  crossed_test e v found same = ap is_some same ∙ is_some_if (crossed e v) (other e v)

  module _ (e : ℕ) (e_in : has t.edges e ≡ true) where
    abbrev walk : List ℕ
    walk = walk_in t e

    leaving : (i : ℕ) → 1 ≤ i → node_in t e (i - 1) ≡ tail_of ends (at walk i)
    leaving i low = let k : suc (i - 1) ≡ i = omega (arith, low) in ap (λ x. tail_of ends (at walk x)) k

    -- the numbers along it
    module _ (numbers : List ℕ) where
      abbrev past : List ℕ → List ℕ
      past = numbers_past ends (crossed e) (other e) (at numbers)

      pub list_begins : past (drop 1 walk) ≡ map (at numbers) (order_in t e)
      list_begins = sym (ap (map (at numbers)) (cond-true _ _ _ e_in) ∙ numbers_all ends (crossed e) (other e) (at numbers) walk (walk_long e e_in))

      pub list_some : (list all : List ℕ) (i f : ℕ) → 1 ≤ i → i < length walk → Some f ≡ crossed_at t e (node_in t e (i - 1)) → list ++ past (drop i walk) ≡ all →
          (list ++ at numbers f ∷ []) ++ past (drop (i + 1) walk) ≡ all
      list_some list all i f low i_in same before =
          let is = some_if (crossed e (node_in t e (i - 1))) (other e (node_in t e (i - 1))) f same in
          let here = leaving i low in
          ap (λ x. (list ++ at numbers x ∷ []) ++ past (drop (i + 1) walk)) (is.1 ∙ ap (other e) here)
          ∙ number_more ends (crossed e) (other e) (at numbers) list walk all i i_in (ap (crossed e) (sym here) ∙ is.0) before

      pub list_none : (list all : List ℕ) (i : ℕ) → 1 ≤ i → i < length walk → None ≡ crossed_at t e (node_in t e (i - 1)) → list ++ past (drop i walk) ≡ all →
          list ++ past (drop (i + 1) walk) ≡ all
      list_none list all i low i_in same before =
          number_none ends (crossed e) (other e) (at numbers) list walk all i i_in
          (ap (crossed e) (sym (leaving i low)) ∙ none_if (crossed e (node_in t e (i - 1))) (other e (node_in t e (i - 1))) same) before

      pub list_ends : (list all : List ℕ) (i : ℕ) → length walk ≤ i → list ++ past (drop i walk) ≡ all → list ≡ all
      list_ends list all i whole before = sym (append-nil list) ∙ ap (λ ds. list ++ past ds) (sym (drop_all i walk whole)) ∙ before

    -- the darts at its ends and crossings
    pub starts_begin : (so : List ℕ) → (so ++ at walk 0 ∷ []) ++ starts_past ends (crossed e) (at walk 0) (drop 1 walk) ≡ so ++ starts_in_walk t e
    starts_begin so =
        append_assoc so (at walk 0 ∷ []) (starts_past ends (crossed e) (at walk 0) (drop 1 walk))
        ∙ ap (λ xs. so ++ xs) (sym (starts_first ends (crossed e) (other e) (λ x. x) walk (walk_long e e_in)))

    pub starts_some : (so all : List ℕ) (i : ℕ) → 1 ≤ i → i < length walk → crossed e (node_in t e (i - 1)) ≡ true → so ++ starts_past ends (crossed e) (at walk (i - 1)) (drop i walk) ≡ all →
        ((so ++ reverse_of (at walk (i - 1)) ∷ []) ++ at walk i ∷ []) ++ starts_past ends (crossed e) (at walk (i + 1 - 1)) (drop (i + 1) walk) ≡ all
    starts_some so all i low i_in passes before =
        let k : i + 1 - 1 ≡ i = omega arith in
        ap (λ x. ((so ++ reverse_of (at walk (i - 1)) ∷ []) ++ at walk i ∷ []) ++ starts_past ends (crossed e) (at walk x) (drop (i + 1) walk)) k
        ∙ start_more ends (crossed e) (other e) (λ x. x) so walk all (at walk (i - 1)) i i_in (ap (crossed e) (sym (leaving i low)) ∙ passes) before

    pub starts_none : (so all : List ℕ) (i : ℕ) → 1 ≤ i → i < length walk → crossed e (node_in t e (i - 1)) ≡ false → so ++ starts_past ends (crossed e) (at walk (i - 1)) (drop i walk) ≡ all →
        so ++ starts_past ends (crossed e) (at walk (i + 1 - 1)) (drop (i + 1) walk) ≡ all
    starts_none so all i low i_in fails before =
        let k : i + 1 - 1 ≡ i = omega arith in
        ap (λ x. so ++ starts_past ends (crossed e) (at walk x) (drop (i + 1) walk)) k
        ∙ start_none ends (crossed e) (other e) (λ x. x) so walk all (at walk (i - 1)) i i_in (ap (crossed e) (sym (leaving i low)) ∙ fails) before

    pub starts_end : (so all : List ℕ) (i : ℕ) → length walk ≤ i → so ++ starts_past ends (crossed e) (at walk (i - 1)) (drop i walk) ≡ all → so ++ reverse_of (at walk (i - 1)) ∷ [] ≡ all
    starts_end so all i whole before = start_last ends (crossed e) (other e) (λ x. x) so walk all (at walk (i - 1)) i whole before

  -- ---- all edges

  abbrev starts : List ℕ
  starts = starts_by_walks t.edges ends (named t) walks

  pub darts_once : AreDartsOnce (length t.map.next) starts
  darts_once =
      let tidied = tidy g t done in
      let fits = done.tangle.is_map.fits in
      record { below = λ x x_in. let low = tidied.below x x_in in omega (arith, low, fits); apart = tidied.apart }

  pub few_starts : length t.map.web.ends ≤ 2 ^ 30 → length starts ≤ 2 ^ 31
  few_starts few =
      let tidied = tidy g t done in
      let low = few_apart (2 * length ends) starts tidied.below tidied.apart in
      omega (arith, low, few)

  -- those of one more edge
  pub rows_more : (numbers : List ℕ) (rows : List (List ℕ)) (row : List ℕ) (i : ℕ) → i < length t.edges → rows ≡ map (λ e. map (at numbers) (order_in t e)) (take i t.edges) →
      row ≡ map (at numbers) (order_in t (at t.edges i)) → rows ++ row ∷ [] ≡ map (λ e. map (at numbers) (order_in t e)) (take (i + 1) t.edges)
  rows_more numbers rows row i i_in before here =
      ap₂ (λ xs x. xs ++ x ∷ []) before here ∙ sym (map_more (λ e. map (at numbers) (order_in t e)) t.edges i 0 i_in)

  pub starts_more : (so now : List ℕ) (i : ℕ) → i < length t.edges → so ≡ flat_map (starts_in_walk t) (take i t.edges) →
      now ≡ so ++ starts_in_walk t (at t.edges i) → now ≡ flat_map (starts_in_walk t) (take (i + 1) t.edges)
  starts_more so now i i_in before here = here ∙ ap (λ xs. xs ++ starts_in_walk t (at t.edges i)) before ∙ sym (flat_map-take_more (starts_in_walk t) t.edges i 0 i_in)

  pub rows_all : (numbers : List ℕ) (rows : List (List ℕ)) (i : ℕ) → length t.edges ≤ i → rows ≡ map (λ e. map (at numbers) (order_in t e)) (take i t.edges) →
      rows ≡ map (λ e. map (at numbers) (order_in t e)) t.edges
  rows_all numbers rows i whole before = before ∙ ap (map (λ e. map (at numbers) (order_in t e))) (take_all i t.edges whole)

  pub starts_all : (so : List ℕ) (i : ℕ) → length t.edges ≤ i → so ≡ flat_map (starts_in_walk t) (take i t.edges) → so ≡ starts
  starts_all so i whole before = before ∙ ap (flat_map (starts_in_walk t)) (take_all i t.edges whole)
