-- The edges of the sample graph, one after another.
use Rattle.std.proofs.Common.{◌≡◌, ◌∙◌, ℕ, suc, ◌+◌, ◌*◌, ◌/◌, ◌%◌, List, [], ◌∷◌, ◌++◌, map, ap, sym, append-nil, append_assoc, arith}
use Rattle.std.specs.List.{range_with_len}
use Rattle.std.proofs.lemmas.List.FromFn.{map-range_with_len_more}
use Rattle.xn_sample.specs.Sample.{chord, chord_after, chord_between, next_state, rim_edge, sample_ends, state_after}

one_more : (n k : ℕ) → state_after n (k + 1) ≡ next_state (state_after n k)
one_more n k =
    let is : k + 1 ≡ suc k = omega arith in
    ap (state_after n) is

two_more : (n k : ℕ) → state_after n (k + 2) ≡ next_state (next_state (state_after n k))
two_more n k =
    let is : k + 2 ≡ suc (suc k) = omega arith in
    ap (state_after n) is

-- a chord is drawn after the draws for those before it
chord_is : (n k : ℕ) → chord n k ≡ chord_after n (state_after n (2 * k))
chord_is n k = λ i. chord_between n (one_more n (2 * k) i % n) (two_more n (2 * k) i % n)

-- ---- the list, edge by edge

-- an edge of the rim more
pub one_rim_edge_more : (n i : ℕ) (ends new : List (ℕ × ℕ)) → ends ≡ map (rim_edge n) (range_with_len 0 i) → new ≡ ends ++ rim_edge n i ∷ [] →
    new ≡ map (rim_edge n) (range_with_len 0 (i + 1))
one_rim_edge_more n i ends new so_far more =
    more ∙ ap (λ l. l ++ rim_edge n i ∷ []) so_far ∙ sym (map-range_with_len_more (rim_edge n) 0 i i (omega arith))

-- the rim, and no chord yet
pub whole_rim : (n i : ℕ) (ends : List (ℕ × ℕ)) → i ≡ n → ends ≡ map (rim_edge n) (range_with_len 0 i) →
    ends ≡ map (rim_edge n) (range_with_len 0 n) ++ map (chord n) (range_with_len 0 0)
whole_rim n i ends all so_far =
    so_far ∙ ap (λ k. map (rim_edge n) (range_with_len 0 k)) all ∙ sym (append-nil (map (rim_edge n) (range_with_len 0 n)))

-- a chord more
pub one_chord_more : (n k s : ℕ) (rim ends new : List (ℕ × ℕ)) (pair : ℕ × ℕ) → s ≡ state_after n (2 * k) → pair ≡ chord_after n s →
    ends ≡ rim ++ map (chord n) (range_with_len 0 k) → new ≡ ends ++ pair ∷ [] → new ≡ rim ++ map (chord n) (range_with_len 0 (k + 1))
one_chord_more n k s rim ends new pair now is so_far more =
    let chords = map (chord n) (range_with_len 0 k) in
    more
    ∙ ap (λ l. l ++ pair ∷ []) so_far
    ∙ append_assoc rim chords (pair ∷ [])
    ∙ ap (λ p. rim ++ (chords ++ p ∷ [])) (is ∙ ap (chord_after n) now ∙ sym (chord_is n k))
    ∙ ap (λ l. rim ++ l) (sym (map-range_with_len_more (chord n) 0 k k (omega arith)))

-- the state after a chord
pub state_after-chord : (n k s new : ℕ) → s ≡ state_after n (2 * k) → new ≡ next_state (next_state s) → new ≡ state_after n (2 * (k + 1))
state_after-chord n k s new now more =
    let is : suc (suc (2 * k)) ≡ 2 * (k + 1) = omega arith in
    more ∙ ap (λ r. next_state (next_state r)) now ∙ ap (state_after n) is

-- all chords
pub all_chords : (n k : ℕ) (ends : List (ℕ × ℕ)) → k ≡ n / 2 → ends ≡ map (rim_edge n) (range_with_len 0 n) ++ map (chord n) (range_with_len 0 k) →
    ends ≡ sample_ends n
all_chords n k ends all so_far = so_far ∙ ap (λ j. map (rim_edge n) (range_with_len 0 n) ++ map (chord n) (range_with_len 0 j)) all
