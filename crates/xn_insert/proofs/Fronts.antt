-- Lists of marked faces, and chains that are read back.
use Rattle.std.proofs.Common.{◌≡◌, ℕ, zero, suc, ◌+◌, ◌-◌, ◌*◌, ◌/◌, ◌%◌, ◌<◌, ◌≤◌, inl, inr, true, false, eqb, List, [], ◌∷◌, ◌++◌, length, take, refl, sym, ◌∙◌, ap, subst, arith, append_assoc}
use Rattle.std.specs.Prelude.{◌↔◌}
use Rattle.std.proofs.lemmas.Bool.{both_ways, cases_eq, eqb-true, or_cases}
use Rattle.std.proofs.lemmas.List.{take_more}
use Rattle.xn_model.specs.Lists.{at, has}
use Rattle.xn_model.specs.Map.{reverse_of}
use Rattle.xn_model.proofs.Darts.{reverse_below}
use Rattle.xn_model.proofs.Has.{has-append, has-first, has-left, has-right}
use Rattle.xn_insert.specs.Search.{ChainEnds, IsChain, IsMarked, Over}

only_one : (y x : ℕ) → has (y ∷ []) x ≡ true → y ≡ x
only_one y x h = elim (or_cases (eqb y x) false h) [ inl here ↦ eqb-true y x here | inr later ↦ absurd (both_ways false refl later) ]

-- ---- the marked faces below x are listed

module _ (marks front : List ℕ) (x : ℕ) (old : (y : ℕ) → (has front y ≡ true) ↔ ((y < x) × IsMarked marks marks y)) where
  pub lists_more : IsMarked marks marks x → (y : ℕ) → (has (front ++ x ∷ []) y ≡ true) ↔ ((y < x + 1) × IsMarked marks marks y)
  lists_more met y = (listed, lists)
    where
      listed : has (front ++ x ∷ []) y ≡ true → (y < x + 1) × IsMarked marks marks y
      listed h = elim (has-append front (x ∷ []) y h) [
        | inl was ↦ let o = (old y).0 was in (let low = o.0 in omega (arith, low), o.1)
        | inr new ↦ let same = only_one x y new in (omega (arith, same), subst (IsMarked marks marks) same met)
      ]

      lists : (y < x + 1) × IsMarked marks marks y → has (front ++ x ∷ []) y ≡ true
      lists f = elim (cases_eq y x) [
        | inl same ↦ subst (λ z. has (front ++ x ∷ []) z ≡ true) (sym same) (has-right front (x ∷ []) x (has-first x []))
        | inr other ↦ has-left front (x ∷ []) y ((old y).1 (let low = f.0 in omega (arith, low, other), f.1))
      ]

  pub lists_same : (IsMarked marks marks x → ⊥) → (y : ℕ) → (has front y ≡ true) ↔ ((y < x + 1) × IsMarked marks marks y)
  lists_same unmet y = (listed, lists)
    where
      listed : has front y ≡ true → (y < x + 1) × IsMarked marks marks y
      listed h = let o = (old y).0 h in (let low = o.0 in omega (arith, low), o.1)

      lists : (y < x + 1) × IsMarked marks marks y → has front y ≡ true
      lists f = elim (cases_eq y x) [
        | inl same ↦ absurd (unmet (subst (IsMarked marks marks) same f.1))
        | inr other ↦ (old y).1 (let low = f.0 in omega (arith, low, other), f.1)
      ]

-- none of the first faces of a list is marked
pub none_more : (marks front : List ℕ) (i : ℕ) → i < length front → ((y : ℕ) → has (take i front) y ≡ true → length marks ≤ at marks y) → length marks ≤ at marks (at front i) →
    (y : ℕ) → has (take (i + 1) front) y ≡ true → length marks ≤ at marks y
none_more marks front i i_in old here y h =
    let more : has (take i front ++ at front i ∷ []) y ≡ true = ap (λ l. has l y) (sym (take_more front i 0 i_in)) ∙ h in
    elim (has-append (take i front) (at front i ∷ []) y more) [
      | inl was ↦ old y was
      | inr new ↦ let e = ap (at marks) (only_one (at front i) y new) in omega (arith, e, here)
    ]

-- ---- chains

-- the face of a chain is one
pub chain_in : (names by : List ℕ) (k x : ℕ) → IsChain names by k x → x < length names
chain_in names by zero x chain = chain
chain_in names by (suc k) x chain = chain.0

-- the other side of a dart of an even number
pub reverse_in : (n d : ℕ) → n % 2 ≡ 0 → d < n → reverse_of d < n
reverse_in n d even d_in =
    let half : 2 * (n / 2) ≡ n = omega (arith, even) in
    let low = reverse_below (n / 2) d (omega (arith, d_in, half)) in
    omega (arith, low, half)

-- one step of a chain that is read back
module _ (names by : List ℕ) (steps counter face x : ℕ) (left : counter < steps) (chain : IsChain names by (steps - counter) x) where
  one_less : steps - counter ≡ suc (steps - (counter + 1))
  one_less = omega (arith, left)

  pub chain_step : (x < length names) × IsMarked names by x × (at names (at by x) ≡ x) × IsChain names by (steps - (counter + 1)) (at names (reverse_of (at by x)))
  chain_step = subst (λ k. IsChain names by k x) one_less chain

  pub over_step : (darts : List ℕ) → ((ds : List ℕ) (y : ℕ) → Over names x ds y → Over names face (darts ++ ds) y) →
      (ds : List ℕ) (y : ℕ) → Over names (at names (reverse_of (at by x))) ds y → Over names face ((darts ++ at by x ∷ []) ++ ds) y
  over_step darts old ds y over =
      subst (λ l. Over names face l y) (sym (append_assoc darts (at by x ∷ []) ds)) (old (at by x ∷ ds) y (chain_step.1, chain_step.2, over))

  pub ends_step : ((y : ℕ) → ChainEnds names by (steps - counter) x y → ChainEnds names by steps face y) →
      (y : ℕ) → ChainEnds names by (steps - (counter + 1)) (at names (reverse_of (at by x))) y → ChainEnds names by steps face y
  ends_step old y ends = old y (subst (λ k. ChainEnds names by k x y) (sym one_less) ends)
