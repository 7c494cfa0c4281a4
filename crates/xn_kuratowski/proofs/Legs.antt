-- Classes with a centre and legs to their neighbours are a subdivision.
use Rattle.std.proofs.Common.{◌≡◌, ◌≢◌, ℕ, suc, ◌+◌, ◌-◌, ◌<◌, ◌≤◌, ◌⊎◌, inl, inr, cond, leb, List, length, refl, sym, ◌∙◌, ap, subst, arith}
use Rattle.std.proofs.lemmas.Bool.{cases_eq, cases_lt, cond-true, cond-false, le-leb, lt-leb}
use Rattle.xn_model.specs.Evidence.{IsPathSystem}
use Rattle.xn_model.specs.Graph.{Graph, ends_at}
use Rattle.xn_fewer.specs.Flat.{SameEnds}
use Rattle.xn_kuratowski.proofs.Choices.{are_same, are_same-from, are_same-to, find, find_is}
use Rattle.xn_kuratowski.proofs.Rim.{Adjacent}
use Rattle.xn_kuratowski.proofs.Strands.{AreStrands, branches, is_subdivision, length-listed, paths}

-- a centre and m legs within class i, which meet at the centre alone
pub record IsStar (ends : List (ℕ × ℕ)) (class : ℕ → ℕ) (i m centre : ℕ) (long stop : ℕ → ℕ) (leg : ℕ → ℕ → ℕ) : Type 0 where
  pub within : (s k : ℕ) → s < m → k ≤ long s → class (leg s k) ≡ i
  pub starts : (s : ℕ) → s < m → leg s 0 ≡ centre
  pub stops : (s : ℕ) → s < m → leg s (long s) ≡ stop s
  pub steps : (s k : ℕ) → s < m → k < long s → Adjacent ends (leg s k) (leg s (suc k))
  pub once : (s t k j : ℕ) → s < m → t < m → k ≤ long s → j ≤ long t → leg s k ≡ leg t j → ((k ≡ 0) × (j ≡ 0)) ⊎ ((s ≡ t) × (k ≡ j))
  pub inside : class centre ≡ i

-- the classes i and o are a pair
abbrev pub Paired : List (ℕ × ℕ) → ℕ → ℕ → Type 0
Paired pairs i o = (q : ℕ) × (q < length pairs) × SameEnds (ends_at pairs q) (i, o)

-- what is known of a list of pairs
pub record ArePairs (count m : ℕ) (pairs : List (ℕ × ℕ)) (slot : ℕ → ℕ → ℕ) : Type 0 where
  pub pairs_in : (q : ℕ) → q < length pairs → ((ends_at pairs q).0 < count) × ((ends_at pairs q).1 < count) × ((ends_at pairs q).0 ≢ (ends_at pairs q).1)
  pub pairs_once : (q r : ℕ) → q < length pairs → r < length pairs → SameEnds (ends_at pairs q) (ends_at pairs r) → q ≡ r
  pub slot_in : (i o : ℕ) → Paired pairs i o → slot i o < m
  pub slot_once : (i o o' : ℕ) → Paired pairs i o → Paired pairs i o' → slot i o ≡ slot i o' → o ≡ o'

module _ (web : Graph) (count m : ℕ) (pairs : List (ℕ × ℕ)) (slot : ℕ → ℕ → ℕ) (class : ℕ → ℕ) (are : ArePairs count m pairs slot) (centre : ℕ → ℕ) (long stop : ℕ → ℕ → ℕ) (leg : ℕ → ℕ → ℕ → ℕ)
    (stars : (i : ℕ) → i < count → IsStar web.ends class i m (centre i) (long i) (stop i) (leg i)) (centre_in : (i : ℕ) → i < count → centre i < web.nodes)
    (joins : (q : ℕ) → q < length pairs → Adjacent web.ends (stop (ends_at pairs q).0 (slot (ends_at pairs q).0 (ends_at pairs q).1))
    (stop (ends_at pairs q).1 (slot (ends_at pairs q).1 (ends_at pairs q).0))) where
  abbrev A : ℕ → ℕ
  A q = (ends_at pairs q).0

  abbrev B : ℕ → ℕ
  B q = (ends_at pairs q).1

  -- the slots of the two classes of a pair
  abbrev sa : ℕ → ℕ
  sa q = slot (A q) (B q)

  abbrev sb : ℕ → ℕ
  sb q = slot (B q) (A q)

  abbrev la : ℕ → ℕ
  la q = long (A q) (sa q)

  abbrev lb : ℕ → ℕ
  lb q = long (B q) (sb q)

  paired_a : (q : ℕ) → q < length pairs → Paired pairs (A q) (B q)
  paired_a q q_in = (q, q_in, inl (refl, refl))

  paired_b : (q : ℕ) → q < length pairs → Paired pairs (B q) (A q)
  paired_b q q_in = (q, q_in, inr (refl, refl))

  abbrev total : ℕ → ℕ
  total q = la q + 1 + lb q

  abbrev node : ℕ → ℕ → ℕ
  node q k = cond (leb k (la q)) (leg (A q) (sa q) k) (leg (B q) (sb q) (total q - k))

  node_low : (q k : ℕ) → k ≤ la q → node q k ≡ leg (A q) (sa q) k
  node_low q k low = cond-true _ _ _ (le-leb k (la q) low)

  node_high : (q k : ℕ) → la q < k → node q k ≡ leg (B q) (sb q) (total q - k)
  node_high q k high = cond-false _ _ _ (lt-leb k (la q) high)

  star_a : (q : ℕ) → q < length pairs → IsStar web.ends class (A q) m (centre (A q)) (long (A q)) (stop (A q)) (leg (A q))
  star_a q q_in = stars (A q) (are.pairs_in q q_in).0

  star_b : (q : ℕ) → q < length pairs → IsStar web.ends class (B q) m (centre (B q)) (long (B q)) (stop (B q)) (leg (B q))
  star_b q q_in = stars (B q) (are.pairs_in q q_in).1

  sa_in : (q : ℕ) → q < length pairs → sa q < m
  sa_in q q_in = are.slot_in (A q) (B q) (paired_a q q_in)

  sb_in : (q : ℕ) → q < length pairs → sb q < m
  sb_in q q_in = are.slot_in (B q) (A q) (paired_b q q_in)

  adjacent_back : (u v : ℕ) → Adjacent web.ends u v → Adjacent web.ends v u
  adjacent_back u v a = (a.0, a.1, elim a.2 [ inl e ↦ inr e | inr e ↦ inl e ])

  next_to : (q k : ℕ) → q < length pairs → k < total q → Adjacent web.ends (node q k) (node q (suc k))
  next_to q k q_in k_in =
      let P : ℕ → ℕ → Type 0 = λ u v. Adjacent web.ends u v in
      elim (cases_lt k (la q)) [
        | inl low ↦
            subst (λ u. P u (node q (suc k))) (sym (node_low q k (omega (arith, low)))) (subst (λ v. P (leg (A q) (sa q) k) v) (sym (node_low q (suc k) (omega (arith, low))))
            ((star_a q q_in).steps (sa q) k (sa_in q q_in) low))
        | inr high ↦ elim (cases_eq k (la q)) [
          | inl here ↦
              let first : node q k ≡ stop (A q) (sa q) = node_low q k (omega (arith, here)) ∙ ap (leg (A q) (sa q)) here ∙ (star_a q q_in).stops (sa q) (sa_in q q_in) in
              let back : total q - suc k ≡ lb q = omega (arith, here) in
              let second : node q (suc k) ≡ stop (B q) (sb q) = node_high q (suc k) (omega (arith, here)) ∙ ap (leg (B q) (sb q)) back ∙ (star_b q q_in).stops (sb q) (sb_in q q_in) in
              subst (λ u. P u (node q (suc k))) (sym first) (subst (λ v. P (stop (A q) (sa q)) v) (sym second) (joins q q_in))
          | inr past ↦
              let j = total q - suc k in
              let on : total q - k ≡ suc j = omega (arith, k_in) in
              let first : node q k ≡ leg (B q) (sb q) (suc j) = node_high q k (omega (arith, high, past)) ∙ ap (leg (B q) (sb q)) on in
              let second : node q (suc k) ≡ leg (B q) (sb q) j = node_high q (suc k) (omega (arith, high)) in
              subst (λ u. P u (node q (suc k))) (sym first) (subst (λ v. P (leg (B q) (sb q) (suc j)) v) (sym second)
              (adjacent_back _ _ ((star_b q q_in).steps (sb q) j (sb_in q q_in) (omega (arith, high, past, k_in)))))
        ]
      ]

  abbrev segment : ℕ → ℕ → ℕ
  segment q k = find (length web.ends) (λ t. are_same (ends_at web.ends t) (node q k, node q (suc k)))

  step_is : (q k : ℕ) → q < length pairs → k < total q → (segment q k < length web.ends) × SameEnds (ends_at web.ends (segment q k)) (node q k, node q (suc k))
  step_is q k q_in k_in =
      let a = next_to q k q_in k_in in
      let same : SameEnds (ends_at web.ends a.0) (node q k, node q (suc k)) = elim a.2 [
        | inl e ↦ inl (ap (λ p. p.0) e, ap (λ p. p.1) e)
        | inr e ↦ inr (ap (λ p. p.0) e, ap (λ p. p.1) e)
      ] in
      let found = find_is (length web.ends) (λ t. are_same (ends_at web.ends t) (node q k, node q (suc k))) a.0 a.1 (are_same-from _ _ same) in
      (found.0, are_same-to _ _ found.1)

  -- an inner node is one of a leg, past its centre
  abbrev Inner : ℕ → ℕ → Type 0
  Inner q k = ((0 < k) × (k ≤ la q) × (node q k ≡ leg (A q) (sa q) k)) ⊎ ((la q < k) × (0 < total q - k) × (total q - k ≤ lb q) × (node q k ≡ leg (B q) (sb q) (total q - k)))

  inner : (q k : ℕ) → 0 < k → k < total q → Inner q k
  inner q k some k_in = elim (cases_lt (la q) k) [
    | inl high ↦ inr (high, omega (arith, k_in), omega (arith, high), node_high q k high)
    | inr low ↦ inl (some, low, node_low q k low)
  ]

  -- legs that meet past their centres are one
  one_leg : (i o o' a b : ℕ) → i < count → Paired pairs i o → Paired pairs i o' → a ≤ long i (slot i o) → b ≤ long i (slot i o') → 0 < a → leg i (slot i o) a ≡ leg i (slot i o') b → (o ≡ o') × (a ≡ b)
  one_leg i o o' a b i_in p p' a_low b_low some same = elim ((stars i i_in).once (slot i o) (slot i o') a b (are.slot_in i o p) (are.slot_in i o' p') a_low b_low same) [
    | inl at_centre ↦ absurd (omega (arith, at_centre.0, some))
    | inr one ↦ (are.slot_once i o o' p p' one.0, one.1)
  ]

  class_a : (q k : ℕ) → q < length pairs → k ≤ la q → class (leg (A q) (sa q) k) ≡ A q
  class_a q k q_in low = (star_a q q_in).within (sa q) k (sa_in q q_in) low

  class_b : (q k : ℕ) → q < length pairs → k ≤ lb q → class (leg (B q) (sb q) k) ≡ B q
  class_b q k q_in low = (star_b q q_in).within (sb q) k (sb_in q q_in) low

  inner_once : (q r k j : ℕ) → q < length pairs → r < length pairs → 0 < k → k < total q → 0 < j → j < total r → node q k ≡ node r j → (q ≡ r) × (k ≡ j)
  inner_once q r k j q_in r_in k_some k_in j_some j_in same =
      let p = are.pairs_in q q_in in
      let finish : q ≡ r → ((k ≤ la q) × (j ≤ la r) × (k ≡ j)) ⊎ ((la q < k) × (la r < j) × (total q - k ≡ total r - j)) → (q ≡ r) × (k ≡ j) = λ q_r which.
      let lengths : total q ≡ total r = ap total q_r in
      (q_r, elim which [ inl low ↦ low.2 | inr high ↦ omega (arith, high, lengths, k_in, j_in) ]) in
      elim (inner q k k_some k_in) [
        | inl k_a ↦ elim (inner r j j_some j_in) [
          | inl j_a ↦
              let meets = sym k_a.2 ∙ same ∙ j_a.2 in
              let classes : A q ≡ A r = sym (class_a q k q_in k_a.1) ∙ ap class meets ∙ class_a r j r_in j_a.1 in
              let P : ℕ → Type 0 = λ i. Paired pairs i (B r) × (j ≤ long i (slot i (B r))) × (leg (A q) (sa q) k ≡ leg i (slot i (B r)) j) in
              let moved = subst P (sym classes) (paired_a r r_in, j_a.1, meets) in
              let one = one_leg (A q) (B q) (B r) k j p.0 (paired_a q q_in) moved.0 k_a.1 moved.1 k_some moved.2 in
              finish (are.pairs_once q r q_in r_in (inl (classes, one.0))) (inl (k_a.1, j_a.1, one.1))
          | inr j_b ↦
              let meets = sym k_a.2 ∙ same ∙ j_b.3 in
              let classes : A q ≡ B r = sym (class_a q k q_in k_a.1) ∙ ap class meets ∙ class_b r (total r - j) r_in j_b.2 in
              let P : ℕ → Type 0 = λ i. Paired pairs i (A r) × (total r - j ≤ long i (slot i (A r))) × (leg (A q) (sa q) k ≡ leg i (slot i (A r)) (total r - j)) in
              let moved = subst P (sym classes) (paired_b r r_in, j_b.2, meets) in
              let one = one_leg (A q) (B q) (A r) k (total r - j) p.0 (paired_a q q_in) moved.0 k_a.1 moved.1 k_some moved.2 in
              let q_r = are.pairs_once q r q_in r_in (inr (classes, one.0)) in
              absurd (p.2 (classes ∙ sym (ap B q_r)))
        ]
        | inr k_b ↦ elim (inner r j j_some j_in) [
          | inl j_a ↦
              let meets = sym k_b.3 ∙ same ∙ j_a.2 in
              let classes : B q ≡ A r = sym (class_b q (total q - k) q_in k_b.2) ∙ ap class meets ∙ class_a r j r_in j_a.1 in
              let P : ℕ → Type 0 = λ i. Paired pairs i (B r) × (j ≤ long i (slot i (B r))) × (leg (B q) (sb q) (total q - k) ≡ leg i (slot i (B r)) j) in
              let moved = subst P (sym classes) (paired_a r r_in, j_a.1, meets) in
              let one = one_leg (B q) (A q) (B r) (total q - k) j p.1 (paired_b q q_in) moved.0 k_b.2 moved.1 k_b.1 moved.2 in
              let q_r = are.pairs_once q r q_in r_in (inr (one.0, classes)) in
              absurd (p.2 (ap A q_r ∙ sym classes))
          | inr j_b ↦
              let meets = sym k_b.3 ∙ same ∙ j_b.3 in
              let classes : B q ≡ B r = sym (class_b q (total q - k) q_in k_b.2) ∙ ap class meets ∙ class_b r (total r - j) r_in j_b.2 in
              let P : ℕ → Type 0 = λ i. Paired pairs i (A r) × (total r - j ≤ long i (slot i (A r))) × (leg (B q) (sb q) (total q - k) ≡ leg i (slot i (A r)) (total r - j)) in
              let moved = subst P (sym classes) (paired_b r r_in, j_b.2, meets) in
              let one = one_leg (B q) (A q) (A r) (total q - k) (total r - j) p.1 (paired_b q q_in) moved.0 k_b.2 moved.1 k_b.1 moved.2 in
              finish (are.pairs_once q r q_in r_in (inl (one.0, classes))) (inr (k_b.0, j_b.0, one.1))
        ]
      ]

  inner_apart : (q k i : ℕ) → q < length pairs → 0 < k → k < total q → i < count → node q k ≢ centre i
  inner_apart q k i q_in k_some k_in i_in same =
      let p = are.pairs_in q q_in in
      elim (inner q k k_some k_in) [
        | inl a ↦
            let star = star_a q q_in in
            let classes : A q ≡ i = sym (class_a q k q_in a.1) ∙ ap class (sym a.2 ∙ same) ∙ (stars i i_in).inside in
            let at_0 : leg (A q) (sa q) k ≡ leg (A q) (sa q) 0 = sym a.2 ∙ same ∙ ap centre (sym classes) ∙ sym (star.starts (sa q) (sa_in q q_in)) in
            elim (star.once (sa q) (sa q) k 0 (sa_in q q_in) (sa_in q q_in) a.1 (omega arith) at_0) [ inl z ↦ omega (arith, z.0, k_some) | inr z ↦ omega (arith, z.1, k_some) ]
        | inr b ↦
            let star = star_b q q_in in
            let classes : B q ≡ i = sym (class_b q (total q - k) q_in b.2) ∙ ap class (sym b.3 ∙ same) ∙ (stars i i_in).inside in
            let at_0 : leg (B q) (sb q) (total q - k) ≡ leg (B q) (sb q) 0 = sym b.3 ∙ same ∙ ap centre (sym classes) ∙ sym (star.starts (sb q) (sb_in q q_in)) in
            elim (star.once (sb q) (sb q) (total q - k) 0 (sb_in q q_in) (sb_in q q_in) b.2 (omega arith) at_0) [ inl z ↦ omega (arith, z.0, b.1) | inr z ↦ omega (arith, z.1, b.1) ]
      ]

  are_strands : AreStrands web count pairs centre total node segment
  are_strands = record {
    some = λ q q_in. omega arith;
    steps = λ q q_in k k_in. step_is q k q_in k_in;
    starts = λ q q_in. node_low q 0 (omega arith) ∙ (star_a q q_in).starts (sa q) (sa_in q q_in);
    stops = λ q q_in.
        let z : total q - total q ≡ 0 = omega arith in
        node_high q (total q) (omega arith) ∙ ap (leg (B q) (sb q)) z ∙ (star_b q q_in).starts (sb q) (sb_in q q_in);
    inner_once = inner_once;
    inner_apart = inner_apart;
    branch_once = λ i j i_in j_in same. sym (stars i i_in).inside ∙ ap class same ∙ (stars j j_in).inside;
    branch_in = centre_in;
    pairs_in = are.pairs_in;
    pairs_once = are.pairs_once;
  }

  pub legs_subdivide : (branch : List ℕ) × (ps : List (List ℕ)) × (length branch ≡ count) × IsPathSystem web pairs branch ps
  legs_subdivide = (
    branches web count pairs centre total node segment are_strands,
    paths web count pairs centre total node segment are_strands,
    length-listed count centre,
    is_subdivision web count pairs centre total node segment are_strands,
  )
