-- The turns one after the other, as a loop lists them.
use Rattle.std.proofs.Common.{◌≡◌, ℕ, suc, ◌+◌, ◌<◌, List, [], ◌∷◌, ◌++◌, length, drop, get_or, sym, ap, add-one, ◌∙◌, append_assoc}
use Rattle.std.proofs.Math.Seq.{drop-cons}
use Rattle.xn_proof.specs.Fronts.{next_of}

-- what is listed, and what the turns from i on still give
abbrev pub listed_from : List ℕ → List (ℕ × ℕ) → ℕ → List ℕ
listed_from front turns i = front ++ next_of (drop i turns)

pub one_more : (front : List ℕ) (turns : List (ℕ × ℕ)) (i : ℕ) (total : List ℕ) → i < length turns → listed_from front turns i ≡ total →
    listed_from ((front ++ (get_or turns i (0, 0)).0 ∷ []) ++ (get_or turns i (0, 0)).1 ∷ []) turns (i + 1) ≡ total
one_more front turns i total low so_far =
    let k : drop i turns ≡ get_or turns i (0, 0) ∷ drop (suc i) turns = drop-cons turns i (0, 0) low in
    let t : ℕ × ℕ = get_or turns i (0, 0) in
    let rest : List ℕ = next_of (drop (suc i) turns) in
    let one : front ++ (t.0 ∷ t.1 ∷ rest) ≡ total = ap (λ (l : List (ℕ × ℕ)). front ++ next_of l) (sym k) ∙ so_far in
    rw (add-one i) (append_assoc (front ++ t.0 ∷ []) (t.1 ∷ []) rest ∙ append_assoc front (t.0 ∷ []) (t.1 ∷ rest) ∙ one)
