-- The independent pairs, edge by edge, and how many they are.
use Rattle.std.proofs.Common.{◌≡◌, ℕ, suc, ◌+◌, ◌-◌, ◌*◌, ◌<◌, ◌≤◌, Bool, true, false, List, [], ◌∷◌, ◌++◌, length, map, ap, sym, ◌∙◌, refl, inl, inr, arith, append_assoc, length-append}
use Rattle.std.proofs.Math.Nat.{mul-le-mul_left}
use Rattle.std.specs.Prelude.{filter}
use Rattle.std.specs.List.{range_with_len}
use Rattle.std.proofs.lemmas.Bool.{cases_Bool, cond-true, cond-false}
use Rattle.std.proofs.lemmas.List.{length-map}
use Rattle.std.proofs.lemmas.List.Elements.{filter-append}
use Rattle.std.proofs.lemmas.List.FromFn.{length-range_with_len}
use Rattle.std.proofs.lemmas.List.Sums.{length-filter, count_by-le-length}
use Rattle.xn_model.specs.Graph.{Graph, each_two, edges_of, independent, pair_count_of, pairs_of}
use Rattle.xn_graph.specs.Pairs.{pairs_from}

-- the numbers from a on, below n, begin with a
pub range-first : (a n : ℕ) → a < n → range_with_len a (n - a) ≡ a ∷ range_with_len (a + 1) (n - (a + 1))
range-first a n below =
    let longer : n - a ≡ suc (n - (a + 1)) = omega arith in
    ap (range_with_len a) longer

-- a number that passes is appended, and the others are left
pub taken : {X : Type 0} (p : ℕ → Bool) (g : ℕ → X) (done : List X) (f n : ℕ) → f < n → p f ≡ true →
    done ++ map g (filter p (range_with_len f (n - f))) ≡ (done ++ g f ∷ []) ++ map g (filter p (range_with_len (f + 1) (n - (f + 1))))
taken p g done f n below passes =
    ap (λ fs. done ++ map g (filter p fs)) (range-first f n below)
    ∙ ap (λ fs. done ++ map g fs) (cond-true _ _ _ passes)
    ∙ sym (append_assoc done (g f ∷ []) _)

-- a number that does not pass is left out
pub passed_over : {X : Type 0} (p : ℕ → Bool) (g : ℕ → X) (done : List X) (f n : ℕ) → f < n → p f ≡ false →
    done ++ map g (filter p (range_with_len f (n - f))) ≡ done ++ map g (filter p (range_with_len (f + 1) (n - (f + 1))))
passed_over p g done f n below fails =
    ap (λ fs. done ++ map g (filter p fs)) (range-first f n below)
    ∙ ap (λ fs. done ++ map g fs) (cond-false _ _ _ fails)

-- the independent pairs among those of e
filter-pairs : (ends : List (ℕ × ℕ)) (e : ℕ) (fs : List ℕ) → filter (λ (p : ℕ × ℕ). independent ends p.0 p.1) (map (λ f. (e, f)) fs) ≡ map (λ f. (e, f)) (filter (independent ends e) fs)
filter-pairs ends e [] = refl
filter-pairs ends e (f ∷ fs) = elim (cases_Bool (independent ends e f)) [
  | inl yes_ ↦ cond-true _ _ _ yes_ ∙ ap (λ ps. (e, f) ∷ ps) (filter-pairs ends e fs) ∙ sym (ap (map (λ f. (e, f))) (cond-true _ _ _ yes_))
  | inr no_ ↦ cond-false _ _ _ no_ ∙ filter-pairs ends e fs ∙ sym (ap (map (λ f. (e, f))) (cond-false _ _ _ no_))
]

-- the pairs among the edges from e on are those of e, and then those among the edges after e
pub pairs-step : (g : Graph) (e : ℕ) → e < length g.ends →
    pairs_of g.ends (range_with_len e (length g.ends - e)) ≡ pairs_from g e ++ pairs_of g.ends (range_with_len (e + 1) (length g.ends - (e + 1)))
pairs-step g e below =
    let later = range_with_len (e + 1) (length g.ends - (e + 1)) in
    ap (pairs_of g.ends) (range-first e (length g.ends) below)
    ∙ filter-append _ (map (λ f. (e, f)) later) (each_two later)
    ∙ ap (λ ps. ps ++ pairs_of g.ends later) (filter-pairs g.ends e later)

-- a list of n has n * (n - 1) / 2 pairs
pub length-each_two : (es : List ℕ) → 2 * length (each_two es) + length es ≡ length es * length es
length-each_two [] = refl
length-each_two (e ∷ es) =
    let g : ℕ → ℕ × ℕ = λ f. (e, f) in
    omega (arith, length-each_two es, length-append (map g es) (each_two es), length-map es g)

-- at most 1,000 edges have at most 499,500 independent pairs
pub pair_count-le : (g : Graph) → length g.ends ≤ 1000 → pair_count_of g ≤ 499500
pair_count-le g few =
    let edges = edges_of g in
    let test : ℕ × ℕ → Bool = λ p. independent g.ends p.0 p.1 in
    let all : length edges ≤ 1000 = omega (arith, length-range_with_len 0 (length g.ends)) in
    omega (arith, length-filter test (each_two edges), count_by-le-length test (each_two edges), length-each_two edges, mul-le-mul_left (length edges) all)
