-- Reading the edges of a row, with a list for each.
use Rattle.std.proofs.Common.{◌≡◌, ℕ, suc, ◌-◌, ◌+◌, ◌≤◌, ◌<◌, List, [], ◌∷◌, ◌++◌, Result, Ok, Err, map, refl, sym, ap, ◌∙◌, append_assoc, arith}
use Rattle.std.proofs.lemmas.List.{append-nil}
use Rattle.xn_kinds.specs.declared.flaws.Flaw.{Flaw}
use Rattle.xn_proof.specs.declared.flaw.AnswerErr.{AnswerErr}
use Rattle.xn_proof.specs.declared.flaw.AnswerErr.TheVariants as errors
use Rattle.xn_proof.specs.Proofs.{over_at}
use Rattle.xn_proof.specs.Reading.{◌>>=◌, Fails, Left, many_at}

-- what was read before, and what is still read
abbrev pub with_overs : List ℕ → List (List ℕ) → Result (List (ℕ × List ℕ) × Left) Flaw → Result ((List ℕ × List (List ℕ)) × Left) Flaw
with_overs edges lists read = read >>= λ r. Ok ((edges ++ map (λ o. o.0) r.0, lists ++ map (λ o. o.1) r.0), r.1)

regroup : (edges : List ℕ) (lists : List (List ℕ)) (o : ℕ × List ℕ) (read : Result (List (ℕ × List ℕ) × Left) Flaw) →
    with_overs edges lists (read >>= λ r. Ok (o ∷ r.0, r.1)) ≡ with_overs (edges ++ o.0 ∷ []) (lists ++ o.1 ∷ []) read
regroup edges lists o (Ok r) =
    ap (λ es. Ok ((es, lists ++ o.1 ∷ map (λ p. p.1) r.0), r.1)) (sym (append_assoc edges (o.0 ∷ []) (map (λ p. p.0) r.0)))
    ∙ ap (λ ls. Ok (((edges ++ o.0 ∷ []) ++ map (λ p. p.0) r.0, ls), r.1)) (sym (append_assoc lists (o.1 ∷ []) (map (λ p. p.1) r.0)))
regroup edges lists o (Err f) = refl

pub overs_on : (edges : List ℕ) (lists : List (List ℕ)) (count j : ℕ) (s : Left) (o : ℕ × List ℕ) (after : Left) (total : Result ((List ℕ × List (List ℕ)) × Left) Flaw) → j < count → over_at j s ≡ Ok (o, after) →
    with_overs edges lists (many_at over_at j (count - j) s) ≡ total → with_overs (edges ++ o.0 ∷ []) (lists ++ o.1 ∷ []) (many_at over_at (j + 1) (count - (j + 1)) after) ≡ total
unfolding many_at
overs_on edges lists count j s o after total lt h so_far =
    let k : count - j ≡ suc (count - (j + 1)) = omega arith in
    let one : with_overs edges lists (many_at over_at j (count - j) s) ≡ with_overs (edges ++ o.0 ∷ []) (lists ++ o.1 ∷ []) (many_at over_at (j + 1) (count - (j + 1)) after) = rw (k, h) (regroup edges lists o (many_at over_at (j + 1) (count - (j + 1)) after)) in
    sym one ∙ so_far

pub overs_stop : (e : AnswerErr) (edges : List ℕ) (lists : List (List ℕ)) (count j : ℕ) (s : Left) (total : Result ((List ℕ × List (List ℕ)) × Left) Flaw) → j < count → Fails e (over_at j s) →
    with_overs edges lists (many_at over_at j (count - j) s) ≡ total → Fails e total
unfolding many_at
overs_stop errors.Memory edges lists count j s total lt h so_far = tt
overs_stop (errors.Refused f) edges lists count j s total lt h so_far =
    let k : count - j ≡ suc (count - (j + 1)) = omega arith in
    let one : with_overs edges lists (many_at over_at j (count - j) s) ≡ Err f = rw (k, h) refl in
    sym so_far ∙ one

pub overs_done : (edges : List ℕ) (lists : List (List ℕ)) (count j : ℕ) (s : Left) (total : Result ((List ℕ × List (List ℕ)) × Left) Flaw) → count ≤ j →
    with_overs edges lists (many_at over_at j (count - j) s) ≡ total → total ≡ Ok ((edges, lists), s)
unfolding many_at
overs_done edges lists count j s total le so_far =
    let k : count - j ≡ 0 = omega arith in
    let one : with_overs edges lists (many_at over_at j (count - j) s) ≡ Ok ((edges, lists), s) =
    rw k (ap (λ es. Ok ((es, lists ++ []), s)) (append-nil edges) ∙ ap (λ ls. Ok ((edges, ls), s)) (append-nil lists)) in
    sym so_far ∙ one
