-- Walks from one web to another, and the segments of a filtered web.
use Rattle.std.proofs.Common.{◌≡◌, ℕ, zero, suc, ◌*◌, ◌<◌, inl, inr, Bool, true, false, ◌⊎◌, List, [], ◌∷◌, length, refl, sym, ◌∙◌, ap, ap₂, subst, arith}
use Rattle.std.specs.Prelude.{filter}
use Rattle.std.proofs.lemmas.Bool.{both_ways, cases_Bool}
use Rattle.xn_model.specs.Graph.{ends_at}
use Rattle.xn_model.specs.Map.{Joined, WalksTo, reverse_of, tail_of}
use Rattle.xn_model.proofs.ComponentWalks.{joined_dart, joined_sym, joined_trans}
use Rattle.xn_model.proofs.Darts.{cases_dart, reverse-even, reverse-odd, tail-even, tail-odd}

-- ---- segments of a filtered web

-- segment s of the filtered web is a segment of the web that passes
abbrev pub Passed : (ℕ × ℕ → Bool) → List (ℕ × ℕ) → ℕ → Type 0
Passed t xs s = (r : ℕ) × (r < length xs) × (ends_at (filter t xs) s ≡ ends_at xs r) × (t (ends_at xs r) ≡ true)

first_kept : (t : ℕ × ℕ → Bool) (x : ℕ × ℕ) (xs : List (ℕ × ℕ)) → t x ≡ true → ((i : ℕ) → i < length (filter t xs) → Passed t xs i) →
    (i : ℕ) → i < length (x ∷ filter t xs) → Passed t (x ∷ xs) i
first_kept t x xs keeps rest zero i_in =
    let is : filter t (x ∷ xs) ≡ x ∷ filter t xs = rw keeps refl in
    (0, omega arith, ap (λ ys. ends_at ys 0) is, keeps)
first_kept t x xs keeps rest (suc i) i_in =
    let is : filter t (x ∷ xs) ≡ x ∷ filter t xs = rw keeps refl in
    let one = rest i (omega (arith, i_in)) in
    (suc one.0, omega (arith, one.1), ap (λ ys. ends_at ys (suc i)) is ∙ one.2, one.3)

pub filter_to : (t : ℕ × ℕ → Bool) (xs : List (ℕ × ℕ)) (s : ℕ) → s < length (filter t xs) → Passed t xs s
filter_to t [] s s_in = absurd (omega arith)
filter_to t (x ∷ xs) s s_in = elim (cases_Bool (t x)) [
  | inl keeps ↦
      let is : filter t (x ∷ xs) ≡ x ∷ filter t xs = rw keeps refl in
      first_kept t x xs keeps (λ i i_in. filter_to t xs i i_in) s (subst (λ ys. s < length ys) is s_in)
  | inr drops ↦
      let is : filter t (x ∷ xs) ≡ filter t xs = rw drops refl in
      let rest = filter_to t xs s (subst (λ ys. s < length ys) is s_in) in
      (suc rest.0, omega (arith, rest.1), ap (λ ys. ends_at ys s) is ∙ rest.2, rest.3)
]

pub filter_from : (t : ℕ × ℕ → Bool) (xs : List (ℕ × ℕ)) (r : ℕ) → r < length xs → t (ends_at xs r) ≡ true →
    (s : ℕ) × (s < length (filter t xs)) × (ends_at (filter t xs) s ≡ ends_at xs r)
filter_from t [] r r_in passes = absurd (omega arith)
filter_from t (x ∷ xs) zero r_in passes =
    let is : filter t (x ∷ xs) ≡ x ∷ filter t xs = rw passes refl in
    (0, subst (λ ys. 0 < length ys) (sym is) (omega arith), ap (λ ys. ends_at ys 0) is)
filter_from t (x ∷ xs) (suc r) r_in passes =
    let rest = filter_from t xs r (omega (arith, r_in)) passes in
    elim (cases_Bool (t x)) [
      | inl keeps ↦
          let is : filter t (x ∷ xs) ≡ x ∷ filter t xs = rw keeps refl in
          (suc rest.0, subst (λ ys. suc rest.0 < length ys) (sym is) (omega (arith, rest.1)), ap (λ ys. ends_at ys (suc rest.0)) is ∙ rest.2)
      | inr drops ↦
          let is : filter t (x ∷ xs) ≡ filter t xs = rw drops refl in
          (rest.0, subst (λ ys. rest.0 < length ys) (sym is) rest.1, ap (λ ys. ends_at ys rest.0) is ∙ rest.2)
    ]

-- ---- walks

-- a segment joins its ends
pub joined_ends : (ends : List (ℕ × ℕ)) (s : ℕ) → s < length ends → Joined ends (ends_at ends s).0 (ends_at ends s).1
joined_ends ends s s_in =
    let P : ℕ → Type 0 = λ u. Joined ends u (ends_at ends s).1 in
    let Q : ℕ → Type 0 = λ v. Joined ends (tail_of ends (2 * s)) v in
    subst P (tail-even ends s) (subst Q (ap (tail_of ends) (reverse-even s) ∙ tail-odd ends s) (joined_dart ends (2 * s) (omega arith)))

-- nothing to walk
pub joined_same : (ends : List (ℕ × ℕ)) (u v : ℕ) → u ≡ v → Joined ends u v
joined_same ends u v same = ([], same)

-- each node has places in another web that are joined there, and so are some places of the ends of each segment
module _ (R : ℕ → ℕ → Type 0) (xs ys : List (ℕ × ℕ)) (one_place : (u a b : ℕ) → R u a → R u b → Joined ys a b)
    (segments : (s : ℕ) → s < length xs → (a : ℕ) × (b : ℕ) × R (ends_at xs s).0 a × R (ends_at xs s).1 b × Joined ys a b) where
  walk_over : (u v a b : ℕ) (darts : List ℕ) → WalksTo xs u darts v → R u a → R v b → Joined ys a b
  walk_over u v a b [] walk at_u at_v = one_place u a b at_u (let P : ℕ → Type 0 = λ x. R x b in subst P (sym walk) at_v)
  walk_over u v a b (d ∷ darts) walk at_u at_v =
      let c = cases_dart d in
      let s_in : c.0 < length xs = omega (arith, c.1, walk.0) in
      let places = segments c.0 s_in in
      let p = places.0 in
      let q = places.1 in
      elim c.1 [
        | inl even ↦
            let u_is : (ends_at xs c.0).0 ≡ u = sym (tail-even xs c.0) ∙ ap (tail_of xs) (sym even) ∙ walk.1 in
            let h_is : (ends_at xs c.0).1 ≡ tail_of xs (reverse_of d) = sym (tail-odd xs c.0) ∙ ap (tail_of xs) (sym (ap reverse_of even ∙ reverse-even c.0)) in
            let P : ℕ → Type 0 = λ x. R x p in
            let Q : ℕ → Type 0 = λ x. R x q in
            joined_trans ys a p b (one_place u a p at_u (subst P u_is places.2))
            (joined_trans ys p q b places.4 (walk_over (tail_of xs (reverse_of d)) v q b darts walk.2 (subst Q h_is places.3) at_v))
        | inr odd ↦
            let u_is : (ends_at xs c.0).1 ≡ u = sym (tail-odd xs c.0) ∙ ap (tail_of xs) (sym odd) ∙ walk.1 in
            let h_is : (ends_at xs c.0).0 ≡ tail_of xs (reverse_of d) = sym (tail-even xs c.0) ∙ ap (tail_of xs) (sym (ap reverse_of odd ∙ reverse-odd c.0)) in
            let P : ℕ → Type 0 = λ x. R x p in
            let Q : ℕ → Type 0 = λ x. R x q in
            joined_trans ys a q b (one_place u a q at_u (subst Q u_is places.3))
            (joined_trans ys q p b (joined_sym ys p q places.4) (walk_over (tail_of xs (reverse_of d)) v p b darts walk.2 (subst P h_is places.2) at_v))
      ]

  pub joined_over : (u v a b : ℕ) → Joined xs u v → R u a → R v b → Joined ys a b
  joined_over u v a b there at_u at_v = walk_over u v a b there.0 there.1 at_u at_v

-- a walk is one of a web that joins the ends of each segment
pub joined_within : (xs ys : List (ℕ × ℕ)) → ((s : ℕ) → s < length xs → Joined ys (ends_at xs s).0 (ends_at xs s).1) → (u v : ℕ) → Joined xs u v → Joined ys u v
joined_within xs ys each u v there =
    joined_over (λ x a. x ≡ a) xs ys (λ x a b at_a at_b. joined_same ys a b (sym at_a ∙ at_b)) (λ s s_in. ((ends_at xs s).0, (ends_at xs s).1, refl, refl, each s s_in)) u v u v there refl refl

-- a segment on which a walk leaves the nodes that pass
abbrev pub Leaves : List (ℕ × ℕ) → (ℕ → Bool) → Type 0
Leaves ends K = (s : ℕ) × (s < length ends) × (c : ℕ) × (w : ℕ) × (K c ≡ true) × (K w ≡ false) × ((ends_at ends s ≡ (c, w)) ⊎ (ends_at ends s ≡ (w, c)))

leaves : (ends : List (ℕ × ℕ)) (K : ℕ → Bool) (u w : ℕ) (darts : List ℕ) → WalksTo ends u darts w → K u ≡ true → K w ≡ false → Leaves ends K
leaves ends K u w [] walk inside outside = absurd (both_ways _ outside (ap K (sym walk) ∙ inside))
leaves ends K u w (d ∷ darts) walk inside outside =
    let h = tail_of ends (reverse_of d) in
    let c = cases_dart d in
    let s_in : c.0 < length ends = omega (arith, c.1, walk.0) in
    elim (cases_Bool (K h)) [
      | inl on ↦ leaves ends K h w darts walk.2 on outside
      | inr off ↦ (
        c.0,
        s_in,
        u,
        h,
        inside,
        off,
        elim c.1 [
          | inl even ↦
              let first : (ends_at ends c.0).0 ≡ u = sym (tail-even ends c.0) ∙ ap (tail_of ends) (sym even) ∙ walk.1 in
              let second : (ends_at ends c.0).1 ≡ h = sym (tail-odd ends c.0) ∙ ap (tail_of ends) (sym (ap reverse_of even ∙ reverse-even c.0)) in
              inl (ap₂ (λ a b. (a, b)) first second)
          | inr odd ↦
              let second : (ends_at ends c.0).1 ≡ u = sym (tail-odd ends c.0) ∙ ap (tail_of ends) (sym odd) ∙ walk.1 in
              let first : (ends_at ends c.0).0 ≡ h = sym (tail-even ends c.0) ∙ ap (tail_of ends) (sym (ap reverse_of odd ∙ reverse-odd c.0)) in
              inr (ap₂ (λ a b. (a, b)) first second)
        ],
      )
    ]

pub walk_leaves : (ends : List (ℕ × ℕ)) (K : ℕ → Bool) (u w : ℕ) → Joined ends u w → K u ≡ true → K w ≡ false → Leaves ends K
walk_leaves ends K u w there inside outside = leaves ends K u w there.0 there.1 inside outside

-- a walk whose segments, where they have an end that passes, are joined in another web and have both ends that pass
module _ (xs ys : List (ℕ × ℕ)) (P : ℕ → Type 0)
    (forth : (s : ℕ) → s < length xs → P (ends_at xs s).0 → P (ends_at xs s).1 × Joined ys (ends_at xs s).0 (ends_at xs s).1)
    (back : (s : ℕ) → s < length xs → P (ends_at xs s).1 → P (ends_at xs s).0 × Joined ys (ends_at xs s).0 (ends_at xs s).1) where
  closed_walk : (u v : ℕ) (darts : List ℕ) → WalksTo xs u darts v → P u → Joined ys u v
  closed_walk u v [] walk at_u = ([], walk)
  closed_walk u v (d ∷ darts) walk at_u =
      let h = tail_of xs (reverse_of d) in
      let c = cases_dart d in
      let s_in : c.0 < length xs = omega (arith, c.1, walk.0) in
      elim c.1 [
        | inl even ↦
            let first : u ≡ (ends_at xs c.0).0 = sym walk.1 ∙ ap (tail_of xs) even ∙ tail-even xs c.0 in
            let second : (ends_at xs c.0).1 ≡ h = sym (tail-odd xs c.0) ∙ ap (tail_of xs) (sym (ap reverse_of even ∙ reverse-even c.0)) in
            let on = forth c.0 s_in (subst P first at_u) in
            let A : ℕ → Type 0 = λ a. Joined ys a h in
            let B : ℕ → Type 0 = λ b. Joined ys (ends_at xs c.0).0 b in
            joined_trans ys u h v (subst A (sym first) (subst B second on.1)) (closed_walk h v darts walk.2 (subst P second on.0))
        | inr odd ↦
            let first : u ≡ (ends_at xs c.0).1 = sym walk.1 ∙ ap (tail_of xs) odd ∙ tail-odd xs c.0 in
            let second : (ends_at xs c.0).0 ≡ h = sym (tail-even xs c.0) ∙ ap (tail_of xs) (sym (ap reverse_of odd ∙ reverse-odd c.0)) in
            let on = back c.0 s_in (subst P first at_u) in
            let A : ℕ → Type 0 = λ a. Joined ys a h in
            let B : ℕ → Type 0 = λ b. Joined ys (ends_at xs c.0).1 b in
            joined_trans ys u h v (subst A (sym first) (subst B second (joined_sym ys _ _ on.1))) (closed_walk h v darts walk.2 (subst P second on.0))
      ]

  pub joined_closed : (u v : ℕ) → Joined xs u v → P u → Joined ys u v
  joined_closed u v there at_u = closed_walk u v there.0 there.1 at_u
