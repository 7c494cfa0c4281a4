-- The sample graph keeps the limits of graphs.
use Rattle.std.proofs.Common.{◌≡◌, ◌≢◌, ◌∙◌, ℕ, ◌+◌, ◌*◌, ◌/◌, ◌%◌, ◌<◌, ◌≤◌, All, inl, inr, length, length-append, map, sym, ap, ap₂, subst, arith}
use Rattle.std.specs.List.{range_with_len}
use Rattle.std.proofs.Math.Nat.{div-le_self, mod-eq_of_lt, mod_self, mod-lt}
use Rattle.std.proofs.lemmas.Bool.{cases_eq, eq-eqb, ne_eqb}
use Rattle.std.proofs.lemmas.List.Elements.{All-append, All-from_get_or}
use Rattle.std.proofs.lemmas.List.FromFn.{get_or-map-range_with_len, length-map-range_with_len}
use Rattle.xn_graph.specs.Limits.{IsEdge, IsLimitedGraph}
use Rattle.xn_graph.proofs.Ends.{IsGraph-from_each}
use Rattle.xn_sample.specs.Sample.{chord, chord_between, drawn, rim_edge, sample_ends, sample_of}

-- the node after one of at least two nodes is another
next_apart : (n i : ℕ) → 2 ≤ n → i < n → i ≢ (i + 1) % n
next_apart n i two below = elim (cases_eq (i + 1) n) [
  | inl last ↦
      let zero_is : (i + 1) % n ≡ 0 = ap (λ m. m % n) last ∙ mod_self n in
      λ same. omega (arith, same, zero_is, last)
  | inr inner ↦
      let less : i + 1 < n = omega (arith, below, inner) in
      λ same. omega (arith, same, mod-eq_of_lt less)
]

-- an edge of the rim joins two different nodes
rim_joins : (n i : ℕ) → 2 ≤ n → i < n → IsEdge n (rim_edge n i)
rim_joins n i two below =
    let some : 0 < n = omega arith in
    (below, mod-lt (i + 1) some, next_apart n i two below)

-- and so does a chord
chord_joins : (n first second : ℕ) → 2 ≤ n → first < n → second < n → IsEdge n (chord_between n first second)
chord_joins n first second two first_in second_in = elim (cases_eq second first) [
  | inl same ↦ rw (eq-eqb second first same) (rim_joins n first two first_in)
  | inr other ↦ rw (ne_eqb second first other) (first_in, second_in, λ is. other (sym is))
]

-- what holds of f at each number below n
all_below : (P : ℕ × ℕ → Type 0) (f : ℕ → ℕ × ℕ) (n : ℕ) → ((i : ℕ) → i < n → P (f i)) → All P (map f (range_with_len 0 n))
all_below P f n each = All-from_get_or P (map f (range_with_len 0 n)) (0, 0) (λ i below.
    let small : i < n = omega (arith, below, length-map-range_with_len f 0 n) in
    subst P (sym (get_or-map-range_with_len f 0 n i i (0, 0) small (omega arith))) (each i small))

all_join : (n : ℕ) → 2 ≤ n → All (IsEdge n) (sample_ends n)
all_join n two =
    let some : 0 < n = omega arith in
    All-append (IsEdge n) (map (rim_edge n) (range_with_len 0 n)) (map (chord n) (range_with_len 0 (n / 2)))
    (all_below (IsEdge n) (rim_edge n) n (λ i below. rim_joins n i two below))
    (all_below (IsEdge n) (chord n) (n / 2) (λ k below. chord_joins n (drawn n (2 * k + 1)) (drawn n (2 * k + 2)) two (mod-lt _ some) (mod-lt _ some)))

-- n edges and half as many
length_is : (n : ℕ) → length (sample_ends n) ≡ n + n / 2
length_is n =
    length-append (map (rim_edge n) (range_with_len 0 n)) (map (chord n) (range_with_len 0 (n / 2)))
    ∙ ap₂ (λ (a b : ℕ). a + b) (length-map-range_with_len (rim_edge n) 0 n) (length-map-range_with_len (chord n) 0 (n / 2))

pub limited : (n : ℕ) → 3 ≤ n → n ≤ 400 → IsLimitedGraph (sample_of n)
limited n three few = record {
  is_graph = IsGraph-from_each n (sample_ends n) (λ e below. all_join n (omega (arith, three)) e (0, 0) below);
  few_nodes = omega (arith, few);
  few_edges = omega (arith, few, length_is n, div-le_self n 2);
}
