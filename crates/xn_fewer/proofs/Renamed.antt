-- Nodes under other numbers, where only some of the web's nodes are used.
use Rattle.std.proofs.Common.{◌≡◌, ℕ, zero, suc, ◌+◌, ◌-◌, ◌<◌, ◌≤◌, inl, inr, List, [], ◌∷◌, map, refl, ap, ap₂, subst, arith}
use Rattle.std.proofs.lemmas.Bool.{cases_eq, cases_lt}
use Rattle.xn_model.specs.Graph.{EndsIn}
use Rattle.xn_fewer.specs.Flat.{HasFlat, both}
use Rattle.xn_fewer.proofs.Flats.{Permutes-exchanged, fewer_flat, named_flat}
use Rattle.xn_fewer.proofs.Lists.{cases_exchanged, exchanged, exchanged_apart, map-map}

-- names that are the numbers themselves
both-alike : (m : ℕ → ℕ) (nodes : ℕ) (ends : List (ℕ × ℕ)) → EndsIn nodes ends → ((v : ℕ) → v < nodes → m v ≡ v) → map (both m) ends ≡ ends
both-alike m nodes [] ends_in alike = refl
both-alike m nodes (p ∷ ends) ends_in alike =
    let here : both m p ≡ p = ap₂ (λ x y. (x, y)) (alike p.0 ends_in.0) (alike p.1 ends_in.1) in
    ap₂ (λ q qs. q ∷ qs) here (both-alike m nodes ends ends_in.2 alike)

-- two nodes change their numbers
exchanged_flat : (nodes : ℕ) (ends : List (ℕ × ℕ)) (m : ℕ → ℕ) (a b : ℕ) → a < nodes → b < nodes → HasFlat nodes (map (both m) ends) →
    HasFlat nodes (map (both (λ x. exchanged a b (m x))) ends)
exchanged_flat nodes ends m a b a_in b_in has =
    subst (HasFlat nodes) (map-map m (exchanged a b) ends) (named_flat nodes (map (both m) ends) (exchanged a b) (Permutes-exchanged nodes a b a_in b_in) has)

-- ---- all nodes that are used

-- the nodes below i have their own numbers, those below used have different ones
pub record AreNames (used nodes : ℕ) (m : ℕ → ℕ) (i : ℕ) : Type 0 where
  pub alike : (v : ℕ) → v < i → m v ≡ v
  pub below : (v : ℕ) → v < used → m v < nodes
  pub apart : (u v : ℕ) → u < used → v < used → m u ≡ m v → u ≡ v

-- node i gets its own number
names_on : (used nodes : ℕ) (m : ℕ → ℕ) (i : ℕ) → i < used → AreNames used nodes m i → (i < nodes) × AreNames used nodes (λ x. exchanged i (m i) (m x)) (suc i)
names_on used nodes m i i_in names =
    let high : i ≤ m i = elim (cases_lt (m i) i) [
      | inr enough ↦ enough
      | inl low ↦
          let own : m (m i) ≡ m i = names.alike (m i) low in
          let same : m i ≡ i = names.apart (m i) i (omega (arith, low, i_in)) i_in own in
          omega (arith, same)
    ] in
    let low : m i < nodes = names.below i i_in in
    let i_below : i < nodes = omega (arith, high, low) in (
      i_below,
      record {
        alike = λ v v_in. elim (cases_eq v i) [
          | inl here ↦ omega (arith, ap m here, here, cases_exchanged i (m i) (m v))
          | inr before ↦
              let v_low : v < i = omega (arith, v_in, before) in
              let own = names.alike v v_low in
              omega (arith, own, v_low, high, before, cases_exchanged i (m i) (m v), names.apart v i (omega (arith, v_low, i_in)) i_in)
        ];
        below = λ v v_in. let v_low = names.below v v_in in omega (arith, v_low, low, i_below, cases_exchanged i (m i) (m v));
        apart = λ u v u_in v_in same. names.apart u v u_in v_in (exchanged_apart i (m i) (m u) (m v) same);
      },
    )

own_names : (used nodes : ℕ) (ends : List (ℕ × ℕ)) → EndsIn used ends → (k i : ℕ) → i + k ≡ used → (m : ℕ → ℕ) → AreNames used nodes m i →
    HasFlat nodes (map (both m) ends) → (used ≤ nodes) × HasFlat nodes ends
own_names used nodes ends ends_in zero i all m names has =
    let alike : (v : ℕ) → v < used → m v ≡ v = λ v v_in. names.alike v (omega (arith, all, v_in)) in (
      elim (cases_lt nodes used) [
        | inr enough ↦ enough
        | inl few ↦ absurd (omega (arith, alike nodes few, names.below nodes few))
      ],
      subst (HasFlat nodes) (both-alike m used ends ends_in alike) has,
    )
own_names used nodes ends ends_in (suc k) i all m names has =
    let i_in : i < used = omega (arith, all) in
    let on = names_on used nodes m i i_in names in
    own_names used nodes ends ends_in k (suc i) (omega (arith, all)) (λ x. exchanged i (m i) (m x)) on.1
    (exchanged_flat nodes ends m i (m i) on.0 (names.below i i_in) has)

-- ---- the nodes beyond those that are used

-- the ends stay below a greater number
ends_wider : (used k : ℕ) (ends : List (ℕ × ℕ)) → EndsIn used ends → EndsIn (used + k) ends
ends_wider used k [] ends_in = tt
ends_wider used k (p ∷ ends) ends_in = (omega (arith, ends_in.0), omega (arith, ends_in.1), ends_wider used k ends ends_in.2)

pub fewer_nodes : (used k : ℕ) (ends : List (ℕ × ℕ)) → EndsIn used ends → HasFlat (used + k) ends → HasFlat used ends
fewer_nodes used zero ends ends_in has = let same : used + 0 ≡ used = omega arith in subst (λ n. HasFlat n ends) same has
fewer_nodes used (suc k) ends ends_in has =
    let one : used + suc k ≡ suc (used + k) = omega arith in
    fewer_nodes used k ends ends_in (fewer_flat (used + k) ends (ends_wider used k ends ends_in) (subst (λ n. HasFlat n ends) one has))

-- a web whose nodes have other numbers in a web with a flat map has one too
pub renamed_flat : (used nodes : ℕ) (ends : List (ℕ × ℕ)) (m : ℕ → ℕ) → EndsIn used ends → AreNames used nodes m 0 → HasFlat nodes (map (both m) ends) → HasFlat used ends
renamed_flat used nodes ends m ends_in names has =
    let own = own_names used nodes ends ends_in used 0 (omega arith) m names has in
    less own.0 own.1
  where
    less : used ≤ nodes → HasFlat nodes ends → HasFlat used ends
    less few flat =
        let same : nodes ≡ used + (nodes - used) = omega arith in
        fewer_nodes used (nodes - used) ends ends_in (subst (λ n. HasFlat n ends) same flat)
