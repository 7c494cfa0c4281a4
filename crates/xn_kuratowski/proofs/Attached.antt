-- The segments between the classes of a minor, and stars in all classes: a subdivision.
use Rattle.std.proofs.Common.{◌≡◌, ◌≢◌, ℕ, zero, suc, ◌+◌, ◌-◌, ◌<◌, ◌≤◌, ◌⊎◌, inl, inr, Bool, true, false, not, ◌&&◌, ◌||◌, cond, eqb, leb, ltb, List, [], ◌∷◌, length, refl, sym, ◌∙◌, ap, ap₂, subst, arith}
use Rattle.std.proofs.lemmas.Bool.{and_parts, both_ways, cases_eq, cases_lt, cond-true, cond-false, eq-eqb, leb-true, lt-ltb, ltb-true, le-ltb, ne_eqb, not-true, or_cases, or_left, or_right}
use Rattle.xn_model.specs.Evidence.{IsPathSystem, IsThreeThree, five_pairs, three_pairs}
use Rattle.xn_model.specs.Graph.{EndsIn, Graph, ends_at}
use Rattle.xn_genus.proofs.Kept.{EndsIn_at}
use Rattle.xn_fewer.specs.Flat.{SameEnds}
use Rattle.xn_kura.proofs.Pairs.{all_below, all_below_at}
use Rattle.xn_kuratowski.specs.Minor.{IsMinor}
use Rattle.xn_kuratowski.proofs.Choices.{AreDifferent, are_same, are_same-from, are_same-to, different_cons, find, find_is, same_sym, same_trans}
use Rattle.xn_kuratowski.proofs.Legs.{ArePairs, IsStar, Paired, legs_subdivide}
use Rattle.xn_kuratowski.proofs.Rim.{Adjacent}
use Rattle.xn_kuratowski.proofs.Tripods.{three_star}

-- ---- tests that compute

abbrev pub any_same : ℕ × ℕ → List (ℕ × ℕ) → Bool
any_same p [] = false
any_same p (q ∷ ps) = are_same q p || any_same p ps

pub any_same-to : (p : ℕ × ℕ) (ps : List (ℕ × ℕ)) → any_same p ps ≡ true → (i : ℕ) × (i < length ps) × SameEnds (ends_at ps i) p
any_same-to p [] h = absurd (both_ways false refl h)
any_same-to p (q ∷ ps) h = elim (or_cases (are_same q p) (any_same p ps) h) [
  | inl here ↦ (0, omega arith, are_same-to q p here)
  | inr later ↦ let found = any_same-to p ps later in (suc found.0, omega (arith, found.1), found.2)
]

any_same-from : (p : ℕ × ℕ) (ps : List (ℕ × ℕ)) (i : ℕ) → i < length ps → SameEnds (ends_at ps i) p → any_same p ps ≡ true
any_same-from p [] i i_in same = absurd (omega (arith, i_in))
any_same-from p (q ∷ ps) zero i_in same = or_left _ _ (are_same-from q p same)
any_same-from p (q ∷ ps) (suc i) i_in same = or_right (are_same q p) _ (any_same-from p ps i (omega (arith, i_in)) same)

abbrev all_different : List (ℕ × ℕ) → Bool
all_different [] = true
all_different (p ∷ ps) = not (any_same p ps) && all_different ps

all_different-to : (ps : List (ℕ × ℕ)) → all_different ps ≡ true → AreDifferent ps
all_different-to [] h i j i_in j_in same = absurd (omega (arith, i_in))
all_different-to (p ∷ ps) h i j i_in j_in same =
    let two : (not (any_same p ps) ≡ true) × (all_different ps ≡ true) = and_parts _ _ h in
    different_cons p ps (λ i i_in same. both_ways _ (not-true _ two.0) (any_same-from p ps i i_in (same_sym _ _ same))) (all_different-to ps two.1) i j i_in j_in same

abbrev each_pair : (ℕ × ℕ → Bool) → List (ℕ × ℕ) → Bool
each_pair t [] = true
each_pair t (p ∷ ps) = t p && each_pair t ps

each_pair-to : (t : ℕ × ℕ → Bool) (ps : List (ℕ × ℕ)) → each_pair t ps ≡ true → (q : ℕ) → q < length ps → t (ends_at ps q) ≡ true
each_pair-to t [] h q q_in = absurd (omega (arith, q_in))
each_pair-to t (p ∷ ps) h zero q_in = let two : (t p ≡ true) × (each_pair t ps ≡ true) = and_parts _ _ h in two.0
each_pair-to t (p ∷ ps) h (suc q) q_in = let two : (t p ≡ true) × (each_pair t ps ≡ true) = and_parts _ _ h in each_pair-to t ps two.1 q (omega (arith, q_in))

-- ---- three against three, and five

abbrev three_slot : ℕ → ℕ → ℕ
three_slot i o = cond (ltb o 3) o (o - 3)

abbrev pub three_other : ℕ → ℕ → ℕ
three_other i s = cond (ltb i 3) (s + 3) s

abbrev pub five_slot : ℕ → ℕ → ℕ
five_slot i o = cond (ltb o i) o (o - 1)

abbrev pub five_other : ℕ → ℕ → ℕ
five_other i s = cond (ltb s i) s (s + 1)

cases_three_slot : (o : ℕ) → ((o < 3) × (three_slot 0 o ≡ o)) ⊎ ((3 ≤ o) × (three_slot 0 o ≡ o - 3))
cases_three_slot o = elim (cases_lt o 3) [ inl low ↦ inl (low, cond-true _ _ _ (lt-ltb o 3 low)) | inr high ↦ inr (high, cond-false _ _ _ (le-ltb o 3 high)) ]

cases_five_slot : (i o : ℕ) → ((o < i) × (five_slot i o ≡ o)) ⊎ ((i ≤ o) × (five_slot i o ≡ o - 1))
cases_five_slot i o = elim (cases_lt o i) [ inl low ↦ inl (low, cond-true _ _ _ (lt-ltb o i low)) | inr high ↦ inr (high, cond-false _ _ _ (le-ltb o i high)) ]

three_test : (q : ℕ) → q < length three_pairs → ((ends_at three_pairs q).0 < 3) × (3 ≤ (ends_at three_pairs q).1) × ((ends_at three_pairs q).1 < 6)
three_test q q_in =
    let t : ℕ × ℕ → Bool = λ p. ltb p.0 3 && (leb 3 p.1 && ltb p.1 6) in
    let h = each_pair-to t three_pairs refl q q_in in
    let p = ends_at three_pairs q in
    let one : (ltb p.0 3 ≡ true) × ((leb 3 p.1 && ltb p.1 6) ≡ true) = and_parts _ _ h in
    let two : (leb 3 p.1 ≡ true) × (ltb p.1 6 ≡ true) = and_parts _ _ one.1 in
    (ltb-true _ _ one.0, leb-true _ _ two.0, ltb-true _ _ two.1)

five_test : (q : ℕ) → q < length five_pairs → ((ends_at five_pairs q).0 < (ends_at five_pairs q).1) × ((ends_at five_pairs q).1 < 5)
five_test q q_in =
    let t : ℕ × ℕ → Bool = λ p. ltb p.0 p.1 && ltb p.1 5 in
    let h = each_pair-to t five_pairs refl q q_in in
    let p = ends_at five_pairs q in
    let one : (ltb p.0 p.1 ≡ true) × (ltb p.1 5 ≡ true) = and_parts _ _ h in
    (ltb-true _ _ one.0, ltb-true _ _ one.1)

three_sides : (i o : ℕ) → Paired three_pairs i o → ((i < 3) × (3 ≤ o) × (o < 6)) ⊎ ((3 ≤ i) × (i < 6) × (o < 3))
three_sides i o p =
    let q = three_test p.0 p.1 in
    elim p.2 [
      | inl same ↦ inl (omega (arith, q.0, same.0), omega (arith, q.1, same.1), omega (arith, q.2, same.1))
      | inr turned ↦ inr (omega (arith, q.1, turned.1), omega (arith, q.2, turned.1), omega (arith, q.0, turned.0))
    ]

five_sides : (i o : ℕ) → Paired five_pairs i o → (i < 5) × (o < 5) × (i ≢ o)
five_sides i o p =
    let q = five_test p.0 p.1 in
    elim p.2 [
      | inl same ↦ (omega (arith, q.0, q.1, same.0), omega (arith, q.1, same.1), λ e. omega (arith, e, q.0, same.0, same.1))
      | inr turned ↦ (omega (arith, q.1, turned.1), omega (arith, q.0, q.1, turned.0), λ e. omega (arith, e, q.0, turned.0, turned.1))
    ]

three_are_pairs : ArePairs 6 3 three_pairs three_slot
three_are_pairs = record {
  pairs_in = λ q q_in. let t = three_test q q_in in (omega (arith, t.0), t.2, λ e. omega (arith, e, t.0, t.1));
  pairs_once = all_different-to three_pairs refl;
  slot_in = λ i o p. omega (arith, three_sides i o p, cases_three_slot o);
  slot_once = λ i o o' p p' same. omega (arith, three_sides i o p, three_sides i o' p', cases_three_slot o, cases_three_slot o', same);
}

pub five_are_pairs : ArePairs 5 4 five_pairs five_slot
five_are_pairs = record {
  pairs_in = λ q q_in. let t = five_test q q_in in (omega (arith, t.0, t.1), t.1, λ e. omega (arith, e, t.0));
  pairs_once = all_different-to five_pairs refl;
  slot_in = λ i o p. let s = five_sides i o p in omega (arith, s.0, s.1, s.2, cases_five_slot i o);
  slot_once = λ i o o' p p' same.
      let s = five_sides i o p in
      let t = five_sides i o' p' in
      omega (arith, s.1, s.2, t.1, t.2, cases_five_slot i o, cases_five_slot i o', same);
}

three_paired : (i s : ℕ) → i < 6 → s < 3 → Paired three_pairs i (three_other i s)
three_paired i s i_in s_in =
    any_same-to (i, three_other i s) three_pairs
    (all_below_at 3 (λ t. any_same (i, three_other i t) three_pairs) (all_below_at 6 (λ j. all_below 3 (λ t. any_same (j, three_other j t) three_pairs)) refl i i_in) s s_in)

pub five_paired : (i s : ℕ) → i < 5 → s < 4 → Paired five_pairs i (five_other i s)
five_paired i s i_in s_in =
    any_same-to (i, five_other i s) five_pairs
    (all_below_at 4 (λ t. any_same (i, five_other i t) five_pairs) (all_below_at 5 (λ j. all_below 4 (λ t. any_same (j, five_other j t) five_pairs)) refl i i_in) s s_in)

three_back : (i o : ℕ) → Paired three_pairs i o → three_other i (three_slot i o) ≡ o
three_back i o p = elim (three_sides i o p) [
  | inl one ↦ cond-true _ _ _ (lt-ltb i 3 one.0) ∙ omega (arith, one.1, cases_three_slot o)
  | inr two ↦ cond-false _ _ _ (le-ltb i 3 two.0) ∙ omega (arith, two.2, cases_three_slot o)
]

pub five_back : (i o : ℕ) → Paired five_pairs i o → five_other i (five_slot i o) ≡ o
five_back i o p =
    let s = five_sides i o p in
    elim (cases_five_slot i o) [
      | inl low ↦ cond-true _ _ _ (lt-ltb (five_slot i o) i (omega (arith, low))) ∙ low.1
      | inr high ↦ cond-false _ _ _ (le-ltb (five_slot i o) i (omega (arith, high, s.2))) ∙ omega (arith, high, s.2)
    ]

-- ---- the ends of the segments between classes

module _ (web : Graph) (ends_in : EndsIn web.nodes web.ends) (count : ℕ) (pairs : List (ℕ × ℕ)) (class : ℕ → ℕ) (is : IsMinor web.ends count pairs class)
    (pairs_in : (q : ℕ) → q < length pairs → ((ends_at pairs q).0 < count) × ((ends_at pairs q).1 < count) × ((ends_at pairs q).0 ≢ (ends_at pairs q).1))
    (pairs_once : (q r : ℕ) → q < length pairs → r < length pairs → SameEnds (ends_at pairs q) (ends_at pairs r) → q ≡ r) where
  abbrev joins : ℕ → ℕ → Bool
  joins q s = are_same (class (ends_at web.ends s).0, class (ends_at web.ends s).1) (ends_at pairs q)

  abbrev bridge : ℕ → ℕ
  bridge q = find (length web.ends) (joins q)

  bridge_is : (q : ℕ) → q < length pairs → (bridge q < length web.ends) × SameEnds (class (ends_at web.ends (bridge q)).0, class (ends_at web.ends (bridge q)).1) (ends_at pairs q)
  bridge_is q q_in =
      let a = is.adjoin q (0, 0) q_in in
      let same : SameEnds (class (ends_at web.ends a.0).0, class (ends_at web.ends a.0).1) (ends_at pairs q) = elim a.2 [ inl e ↦ inl e | inr e ↦ inr e ] in
      let found = find_is (length web.ends) (joins q) a.0 a.1 (are_same-from _ _ same) in
      (found.0, are_same-to _ _ found.1)

  -- the end of a bridge in class i, and the other
  abbrev near_end : ℕ → ℕ → ℕ
  near_end q i = cond (eqb (class (ends_at web.ends (bridge q)).0) i) (ends_at web.ends (bridge q)).0 (ends_at web.ends (bridge q)).1

  near_is : (q i o : ℕ) → q < length pairs → SameEnds (ends_at pairs q) (i, o) → (class (near_end q i) ≡ i) × Adjacent web.ends (near_end q i) (near_end q o)
  near_is q i o q_in same =
      let b = bridge_is q q_in in
      let s = bridge q in
      let p = ends_at web.ends s in
      let classes = same_trans _ _ _ b.1 same in
      let apart : i ≢ o = λ e. let t = (pairs_in q q_in).2 in elim same [ inl one ↦ t (one.0 ∙ e ∙ sym one.1) | inr two ↦ t (two.0 ∙ sym e ∙ sym two.1) ] in
      elim classes [
        | inl straight ↦
            let n_i : near_end q i ≡ p.0 = cond-true _ _ _ (eq-eqb _ _ straight.0) in
            let n_o : near_end q o ≡ p.1 = cond-false _ _ _ (ne_eqb _ _ (λ e. apart (sym straight.0 ∙ e))) in
            (ap class n_i ∙ straight.0, (s, b.0, inl (ap₂ (λ u v. (u, v)) (sym n_i) (sym n_o))))
        | inr turned ↦
            let n_i : near_end q i ≡ p.1 = cond-false _ _ _ (ne_eqb _ _ (λ e. apart (sym e ∙ turned.0))) in
            let n_o : near_end q o ≡ p.0 = cond-true _ _ _ (eq-eqb _ _ turned.0) in
            (ap class n_i ∙ turned.1, (s, b.0, inr (ap₂ (λ u v. (u, v)) (sym n_o) (sym n_i))))
      ]

  -- the node of class i beside class o
  abbrev index : ℕ → ℕ → ℕ
  index i o = find (length pairs) (λ q. are_same (ends_at pairs q) (i, o))

  abbrev pub gate : ℕ → ℕ → ℕ
  gate i o = near_end (index i o) i

  index_is : (i o q : ℕ) → q < length pairs → SameEnds (ends_at pairs q) (i, o) → index i o ≡ q
  index_is i o q q_in same =
      let found = find_is (length pairs) (λ r. are_same (ends_at pairs r) (i, o)) q q_in (are_same-from _ _ same) in
      pairs_once (index i o) q found.0 q_in (same_trans _ _ _ (are_same-to _ _ found.1) (same_sym _ _ same))

  pub gate_is : (i o : ℕ) → Paired pairs i o → (class (gate i o) ≡ i) × Adjacent web.ends (gate i o) (gate o i)
  gate_is i o p =
      let turned : SameEnds (ends_at pairs p.0) (o, i) = elim p.2 [ inl same ↦ inr same | inr other ↦ inl other ] in
      let one = index_is i o p.0 p.1 p.2 in
      let two = index_is o i p.0 p.1 turned in
      let n = near_is p.0 i o p.1 p.2 in
      let P : ℕ → Type 0 = λ r. Adjacent web.ends (near_end r i) (near_end (index o i) o) in
      let Q : ℕ → Type 0 = λ r. Adjacent web.ends (near_end p.0 i) (near_end r o) in
      (ap (λ r. class (near_end r i)) one ∙ n.0, subst P (sym one) (subst Q (sym two) n.1))

  adjacent_in : (u v : ℕ) → Adjacent web.ends u v → u < web.nodes
  adjacent_in u v a =
      let low = EndsIn_at web.nodes web.ends ends_in a.0 a.1 in
      elim a.2 [ inl e ↦ subst (λ z. z < web.nodes) (ap (λ p. p.0) e) low.0 | inr e ↦ subst (λ z. z < web.nodes) (ap (λ p. p.1) e) low.1 ]

  -- a star in each class
  module _ (m : ℕ) (slot other : ℕ → ℕ → ℕ) (are : ArePairs count m pairs slot) (m_some : 0 < m) (paired : (i s : ℕ) → i < count → s < m → Paired pairs i (other i s))
      (undone : (i o : ℕ) → Paired pairs i o → other i (slot i o) ≡ o)
      (stars : (i : ℕ) → i < count →
      (centre : ℕ) × (long stop : ℕ → ℕ) × (leg : ℕ → ℕ → ℕ) × IsStar web.ends class i m centre long stop leg × ((s : ℕ) → s < m → stop s ≡ gate i (other i s))) where
    abbrev Star : ℕ → Type 0
    Star i = (i < count) ⊎ (count ≤ i)

    centre_of : (i : ℕ) → Star i → ℕ
    centre_of i (inl low) = (stars i low).0
    centre_of i (inr high) = 0

    long_of : (i : ℕ) → Star i → ℕ → ℕ
    long_of i (inl low) = (stars i low).1
    long_of i (inr high) = λ s. 0

    stop_of : (i : ℕ) → Star i → ℕ → ℕ
    stop_of i (inl low) = (stars i low).2
    stop_of i (inr high) = λ s. 0

    leg_of : (i : ℕ) → Star i → ℕ → ℕ → ℕ
    leg_of i (inl low) = (stars i low).3
    leg_of i (inr high) = λ s k. 0

    star_of : (i : ℕ) (x : Star i) → i < count → IsStar web.ends class i m (centre_of i x) (long_of i x) (stop_of i x) (leg_of i x)
    unfolding centre_of long_of stop_of leg_of
    star_of i (inl low) i_in = (stars i low).4
    star_of i (inr high) i_in = absurd (omega (arith, high, i_in))

    stop_is : (i : ℕ) (x : Star i) → i < count → (s : ℕ) → s < m → stop_of i x s ≡ gate i (other i s)
    unfolding stop_of
    stop_is i (inl low) i_in = (stars i low).5
    stop_is i (inr high) i_in = absurd (omega (arith, high, i_in))

    abbrev x : (i : ℕ) → Star i
    x i = cases_lt i count

    pub stars_subdivide : (branch : List ℕ) × (ps : List (List ℕ)) × (length branch ≡ count) × IsPathSystem web pairs branch ps
    stars_subdivide =
        legs_subdivide web count m pairs slot class are (λ i. centre_of i (x i)) (λ i. long_of i (x i)) (λ i. stop_of i (x i)) (λ i. leg_of i (x i)) (λ i i_in. star_of i (x i) i_in)
        (λ i i_in.
        let star = star_of i (x i) i_in in
        let gate_in = adjacent_in _ _ (gate_is i (other i 0) (paired i 0 i_in m_some)).1 in
        elim (cases_eq (long_of i (x i) 0) 0) [
          | inl none ↦
              let same : gate i (other i 0) ≡ centre_of i (x i) = sym (stop_is i (x i) i_in 0 m_some) ∙ sym (star.stops 0 m_some) ∙ ap (leg_of i (x i) 0) none ∙ star.starts 0 m_some in
              subst (λ z. z < web.nodes) same gate_in
          | inr some ↦
              let step = adjacent_in _ _ (star.steps 0 0 m_some (omega (arith, some))) in
              subst (λ z. z < web.nodes) (star.starts 0 m_some) step
        ])
        (λ q q_in.
        let A = (ends_at pairs q).0 in
        let B = (ends_at pairs q).1 in
        let t = pairs_in q q_in in
        let pa : Paired pairs A B = (q, q_in, inl (refl, refl)) in
        let pb : Paired pairs B A = (q, q_in, inr (refl, refl)) in
        let sa : stop_of A (x A) (slot A B) ≡ gate A B = stop_is A (x A) t.0 (slot A B) (are.slot_in A B pa) ∙ ap (gate A) (undone A B pa) in
        let sb : stop_of B (x B) (slot B A) ≡ gate B A = stop_is B (x B) t.1 (slot B A) (are.slot_in B A pb) ∙ ap (gate B) (undone B A pb) in
        let P : ℕ → Type 0 = λ u. Adjacent web.ends u (stop_of B (x B) (slot B A)) in
        let Q : ℕ → Type 0 = λ v. Adjacent web.ends (gate A B) v in
        subst P (sym sa) (subst Q (sym sb) (gate_is A B pa).1))

-- ---- three against three

pub three_evidence : (web : Graph) → EndsIn web.nodes web.ends → (class : ℕ → ℕ) → IsMinor web.ends 6 three_pairs class → (branch : List ℕ) × (ps : List (List ℕ)) × IsThreeThree web branch ps
three_evidence web ends_in class is =
    let are = three_are_pairs in
    let g = gate web ends_in 6 three_pairs class is are.pairs_in are.pairs_once in
    let at = gate_is web ends_in 6 three_pairs class is are.pairs_in are.pairs_once in
    let found = stars_subdivide web ends_in 6 three_pairs class is are.pairs_in are.pairs_once 3 three_slot three_other are (omega arith) three_paired three_back (λ i i_in.
    let t : (s : ℕ) → ℕ = λ s. g i (three_other i s) in
    let own : (s : ℕ) → s < 3 → class (t s) ≡ i = λ s s_in. (at i (three_other i s) (three_paired i s i_in s_in)).0 in
    let one : (0 < 3) × (1 < 3) × (2 < 3) = (omega arith, omega arith, omega arith) in
    let star = three_star web.ends class i (t 0) (t 1) (t 2) (own 0 one.0) (own 2 one.2) (is.joined i (t 0) (t 1) i_in (own 0 one.0) (own 1 one.1))
    (is.joined i (t 2) (t 0) i_in (own 2 one.2) (own 0 one.0)) in
    (star.0, star.1, star.2, star.3, star.4, three_stops star.2 t star.5 star.6 star.7)) in
    (found.0, found.1, (found.2, found.3))
  where
    three_stops : (stop t : ℕ → ℕ) → stop 0 ≡ t 0 → stop 1 ≡ t 1 → stop 2 ≡ t 2 → (s : ℕ) → s < 3 → stop s ≡ t s
    three_stops stop t zero_is one_is two_is zero s_in = zero_is
    three_stops stop t zero_is one_is two_is (suc zero) s_in = one_is
    three_stops stop t zero_is one_is two_is (suc (suc zero)) s_in = two_is
    three_stops stop t zero_is one_is two_is (suc (suc (suc s))) s_in = absurd (omega (arith, s_in))
