-- Sequences of nodes between branch nodes, which meet nowhere else, are a subdivision.
use Rattle.std.proofs.Common.{◌≡◌, ◌≢◌, ℕ, zero, suc, ◌-◌, ◌<◌, ◌≤◌, ◌⊎◌, inl, inr, true, false, eqb, List, [], ◌∷◌, ◌++◌, length, refl, sym, ◌∙◌, ap, subst, arith}
use Rattle.std.specs.List.{AllByRecursion, IsDistinct, concat}
use Rattle.std.specs.Prelude.{nat_eq, slice_index, slice_index_or}
use Rattle.std.proofs.lemmas.Bool.{both_ways, cases_eq, cond-true, cond-false, eq-eqb, eqb-true, eqb-false, ne_eqb, or_cases, or_left, or_right}
use Rattle.xn_model.specs.Evidence.{IsPathSystem, LeadAll, LeadsTo, all_inner, far_end, inner_nodes}
use Rattle.xn_model.specs.Graph.{Graph, ends_at, touches}
use Rattle.xn_model.specs.Lists.{has}
use Rattle.xn_fewer.specs.Flat.{SameEnds}
use Rattle.xn_model.proofs.Has.{has-append}
use Rattle.xn_kuratowski.proofs.Choices.{same_sym, same_trans}

-- the list of f 0, f 1, up to n
abbrev pub listed : {X : Type 0} → ℕ → (ℕ → X) → List X
listed zero f = []
listed (suc n) f = f 0 ∷ listed n (λ i. f (suc i))

pub length-listed : {X : Type 0} (n : ℕ) (f : ℕ → X) → length (listed n f) ≡ n
length-listed zero f = refl
length-listed (suc n) f = ap suc (length-listed n (λ i. f (suc i)))

pub at_listed : (n : ℕ) (f : ℕ → ℕ) (i d : ℕ) → i < n → slice_index_or (listed n f) i d ≡ f i
at_listed zero f i d i_in = absurd (omega (arith, i_in))
at_listed (suc n) f zero d i_in = refl
at_listed (suc n) f (suc i) d i_in = at_listed n (λ j. f (suc j)) i d (omega (arith, i_in))

pub has_listed : (n : ℕ) (f : ℕ → ℕ) (z : ℕ) → has (listed n f) z ≡ true → (i : ℕ) × (i < n) × (f i ≡ z)
has_listed zero f z h = absurd (both_ways false refl h)
has_listed (suc n) f z h = elim (or_cases (eqb (f 0) z) (has (listed n (λ i. f (suc i))) z) h) [
  | inl here ↦ (0, omega arith, eqb-true _ _ here)
  | inr later ↦ let found = has_listed n (λ i. f (suc i)) z later in (suc found.0, omega (arith, found.1), found.2)
]

-- ---- lists without repeats

all_not_from : (x : ℕ) (xs : List ℕ) → ((z : ℕ) → has xs z ≡ true → x ≢ z) → AllByRecursion (λ y. nat_eq x y ≡ false) xs
all_not_from x [] none = tt
all_not_from x (y ∷ xs) none = (ne_eqb x y (none y (or_left (eqb y y) (has xs y) (eq-eqb y y refl))), all_not_from x xs (λ z h. none z (or_right (eqb y z) (has xs z) h)))

pub distinct_cons : (x : ℕ) (xs : List ℕ) → ((z : ℕ) → has xs z ≡ true → x ≢ z) → IsDistinct nat_eq xs → IsDistinct nat_eq (x ∷ xs)
unfolding IsDistinct
distinct_cons x xs none distinct = (all_not_from x xs none, distinct)

pub distinct_none : IsDistinct nat_eq []
unfolding IsDistinct
distinct_none = tt

pub distinct_head : (x : ℕ) (xs : List ℕ) → IsDistinct nat_eq (x ∷ xs) → (z : ℕ) → has xs z ≡ true → x ≢ z
unfolding IsDistinct
distinct_head x xs distinct z h = go xs distinct.0 z h
  where
    go : (ys : List ℕ) → AllByRecursion (λ y. nat_eq x y ≡ false) ys → (z : ℕ) → has ys z ≡ true → x ≢ z
    go [] all z h same = both_ways false refl h
    go (y ∷ ys) all z h same = elim (or_cases (eqb y z) (has ys z) h) [
      | inl here ↦ eqb-false x y all.0 (same ∙ sym (eqb-true y z here))
      | inr later ↦ go ys all.1 z later same
    ]

pub distinct_tail : (x : ℕ) (xs : List ℕ) → IsDistinct nat_eq (x ∷ xs) → IsDistinct nat_eq xs
unfolding IsDistinct
distinct_tail x xs distinct = distinct.1

pub distinct_append : (xs ys : List ℕ) → IsDistinct nat_eq xs → IsDistinct nat_eq ys → ((z : ℕ) → has xs z ≡ true → has ys z ≡ true → ⊥) → IsDistinct nat_eq (xs ++ ys)
distinct_append [] ys one two apart = two
distinct_append (x ∷ xs) ys one two apart =
    distinct_cons x (xs ++ ys) (λ z h same. elim (has-append xs ys z h) [
      | inl a ↦ distinct_head x xs one z a same
      | inr b ↦ apart z (or_left (eqb x z) (has xs z) (eq-eqb x z same)) b
    ]) (distinct_append xs ys (distinct_tail x xs one) two (λ z a b. apart z (or_right (eqb x z) (has xs z) a) b))

pub distinct_listed : (n : ℕ) (f : ℕ → ℕ) → ((i j : ℕ) → i < n → j < n → f i ≡ f j → i ≡ j) → IsDistinct nat_eq (listed n f)
distinct_listed zero f once = distinct_none
distinct_listed (suc n) f once =
    distinct_cons (f 0) (listed n (λ i. f (suc i))) (λ z h same.
    let found = has_listed n (λ i. f (suc i)) z h in
    let e = once 0 (suc found.0) (omega arith) (omega (arith, found.1)) (same ∙ sym found.2) in
    omega (arith, e))
    (distinct_listed n (λ i. f (suc i)) (λ i j i_in j_in same. let e = once (suc i) (suc j) (omega (arith, i_in)) (omega (arith, j_in)) same in omega (arith, e)))

-- several lists, one after another
has_concat : (m : ℕ) (lists : ℕ → List ℕ) (z : ℕ) → has (concat (listed m lists)) z ≡ true → (q : ℕ) × (q < m) × (has (lists q) z ≡ true)
has_concat zero lists z h = absurd (both_ways false refl h)
has_concat (suc m) lists z h = elim (has-append (lists 0) (concat (listed m (λ q. lists (suc q)))) z h) [
  | inl here ↦ (0, omega arith, here)
  | inr later ↦ let found = has_concat m (λ q. lists (suc q)) z later in (suc found.0, omega (arith, found.1), found.2)
]

distinct_concat : (m : ℕ) (lists : ℕ → List ℕ) → ((q : ℕ) → q < m → IsDistinct nat_eq (lists q)) →
    ((q r z : ℕ) → q < m → r < m → has (lists q) z ≡ true → has (lists r) z ≡ true → q ≡ r) → IsDistinct nat_eq (concat (listed m lists))
distinct_concat zero lists each apart = distinct_none
distinct_concat (suc m) lists each apart =
    distinct_append (lists 0) (concat (listed m (λ q. lists (suc q)))) (each 0 (omega arith))
    (distinct_concat m (λ q. lists (suc q)) (λ q q_in. each (suc q) (omega (arith, q_in)))
    (λ q r z q_in r_in a b. let e = apart (suc q) (suc r) z (omega (arith, q_in)) (omega (arith, r_in)) a b in omega (arith, e)))
    (λ z a b. let found = has_concat m (λ q. lists (suc q)) z b in let e = apart 0 (suc found.0) z (omega arith) (omega (arith, found.1)) a found.2 in omega (arith, e))

-- ---- one strand

far_is : (p : ℕ × ℕ) (u w : ℕ) → SameEnds p (u, w) → (touches p u ≡ true) × (far_end p u ≡ w)
far_is p u w (inl same) = (or_left (eqb p.0 u) (eqb p.1 u) (eq-eqb p.0 u same.0), cond-true _ _ _ (eq-eqb p.0 u same.0) ∙ same.1)
far_is p u w (inr turned) = (
  or_right (eqb p.0 u) (eqb p.1 u) (eq-eqb p.1 u turned.1),
  elim (cases_eq p.0 u) [
    | inl loop ↦ cond-true _ _ _ (eq-eqb p.0 u loop) ∙ turned.1 ∙ sym loop ∙ turned.0
    | inr other ↦ cond-false _ _ _ (ne_eqb p.0 u other) ∙ turned.0
  ],
)

abbrev pub AreSteps : List (ℕ × ℕ) → ℕ → (ℕ → ℕ) → (ℕ → ℕ) → Type 0
AreSteps ends l nodes segments = (k : ℕ) → k < l → (segments k < length ends) × SameEnds (ends_at ends (segments k)) (nodes k, nodes (suc k))

leads : (ends : List (ℕ × ℕ)) (l : ℕ) (nodes segments : ℕ → ℕ) → AreSteps ends l nodes segments → LeadsTo ends (nodes 0) (listed l segments) (nodes l)
leads ends zero nodes segments steps = refl
leads ends (suc l) nodes segments steps =
    let one = steps 0 (omega arith) in
    let far = far_is (ends_at ends (segments 0)) (nodes 0) (nodes 1) one.1 in
    let P : ℕ → Type 0 = λ w. LeadsTo ends w (listed l (λ k. segments (suc k))) (nodes (suc l)) in
    (one.0, far.0, subst P (sym far.1) (leads ends l (λ k. nodes (suc k)) (λ k. segments (suc k)) (λ k k_in. steps (suc k) (omega (arith, k_in)))))

inner_of : (ends : List (ℕ × ℕ)) (l : ℕ) (nodes segments : ℕ → ℕ) → AreSteps ends (suc l) nodes segments → inner_nodes ends (nodes 0) (listed (suc l) segments) ≡ listed l (λ k. nodes (suc k))
inner_of ends zero nodes segments steps = refl
inner_of ends (suc l) nodes segments steps =
    let one = steps 0 (omega arith) in
    let far = far_is (ends_at ends (segments 0)) (nodes 0) (nodes 1) one.1 in
    let P : ℕ → List ℕ = λ w. w ∷ inner_nodes ends w (listed (suc l) (λ k. segments (suc k))) in
    ap P far.1 ∙ ap (λ zs. nodes 1 ∷ zs) (inner_of ends l (λ k. nodes (suc k)) (λ k. segments (suc k)) (λ k k_in. steps (suc k) (omega (arith, k_in))))

-- ---- all strands

lead_all : (ends : List (ℕ × ℕ)) (branch : List ℕ) (pairs : List (ℕ × ℕ)) (paths : ℕ → List ℕ) →
    ((q : ℕ) → q < length pairs → LeadsTo ends (slice_index branch (ends_at pairs q).0) (paths q) (slice_index branch (ends_at pairs q).1)) → LeadAll ends branch pairs (listed (length pairs) paths)
lead_all ends branch [] paths each = tt
lead_all ends branch (p ∷ pairs) paths each = (each 0 (omega arith), lead_all ends branch pairs (λ q. paths (suc q)) (λ q q_in. each (suc q) (omega (arith, q_in))))

has_inner : (ends : List (ℕ × ℕ)) (branch : List ℕ) (pairs : List (ℕ × ℕ)) (paths : ℕ → List ℕ) (z : ℕ) → has (all_inner ends branch pairs (listed (length pairs) paths)) z ≡ true →
    (q : ℕ) × (q < length pairs) × (has (inner_nodes ends (slice_index branch (ends_at pairs q).0) (paths q)) z ≡ true)
has_inner ends branch [] paths z h = absurd (both_ways false refl h)
has_inner ends branch (p ∷ pairs) paths z h = elim (has-append (inner_nodes ends (slice_index branch p.0) (paths 0)) _ z h) [
  | inl here ↦ (0, omega arith, here)
  | inr later ↦ let found = has_inner ends branch pairs (λ q. paths (suc q)) z later in (suc found.0, omega (arith, found.1), found.2)
]

distinct_inner : (ends : List (ℕ × ℕ)) (branch : List ℕ) (pairs : List (ℕ × ℕ)) (paths : ℕ → List ℕ) →
    ((q : ℕ) → q < length pairs → IsDistinct nat_eq (inner_nodes ends (slice_index branch (ends_at pairs q).0) (paths q))) →
    ((q r z : ℕ) → q < length pairs → r < length pairs → has (inner_nodes ends (slice_index branch (ends_at pairs q).0) (paths q)) z ≡ true →
    has (inner_nodes ends (slice_index branch (ends_at pairs r).0) (paths r)) z ≡ true → q ≡ r) →
    IsDistinct nat_eq (all_inner ends branch pairs (listed (length pairs) paths))
distinct_inner ends branch [] paths each apart = distinct_none
distinct_inner ends branch (p ∷ pairs) paths each apart =
    distinct_append (inner_nodes ends (slice_index branch p.0) (paths 0)) _ (each 0 (omega arith))
    (distinct_inner ends branch pairs (λ q. paths (suc q)) (λ q q_in. each (suc q) (omega (arith, q_in)))
    (λ q r z q_in r_in a b. let e = apart (suc q) (suc r) z (omega (arith, q_in)) (omega (arith, r_in)) a b in omega (arith, e)))
    (λ z a b. let found = has_inner ends branch pairs (λ q. paths (suc q)) z b in let e = apart 0 (suc found.0) z (omega arith) (omega (arith, found.1)) a found.2 in omega (arith, e))

-- strand q leads from the branch node of the one class of pair q to that of the other, and inner nodes are met once
pub record AreStrands (web : Graph) (count : ℕ) (pairs : List (ℕ × ℕ)) (branch long : ℕ → ℕ) (nodes segments : ℕ → ℕ → ℕ) : Type 0 where
  pub some : (q : ℕ) → q < length pairs → 0 < long q
  pub steps : (q : ℕ) → q < length pairs → AreSteps web.ends (long q) (nodes q) (segments q)
  pub starts : (q : ℕ) → q < length pairs → nodes q 0 ≡ branch (ends_at pairs q).0
  pub stops : (q : ℕ) → q < length pairs → nodes q (long q) ≡ branch (ends_at pairs q).1
  pub inner_once : (q r k j : ℕ) → q < length pairs → r < length pairs → 0 < k → k < long q → 0 < j → j < long r → nodes q k ≡ nodes r j → (q ≡ r) × (k ≡ j)
  pub inner_apart : (q k i : ℕ) → q < length pairs → 0 < k → k < long q → i < count → nodes q k ≢ branch i
  pub branch_once : (i j : ℕ) → i < count → j < count → branch i ≡ branch j → i ≡ j
  pub branch_in : (i : ℕ) → i < count → branch i < web.nodes
  pub pairs_in : (q : ℕ) → q < length pairs → ((ends_at pairs q).0 < count) × ((ends_at pairs q).1 < count) × ((ends_at pairs q).0 ≢ (ends_at pairs q).1)
  pub pairs_once : (q r : ℕ) → q < length pairs → r < length pairs → SameEnds (ends_at pairs q) (ends_at pairs r) → q ≡ r

module _ (web : Graph) (count : ℕ) (pairs : List (ℕ × ℕ)) (branch long : ℕ → ℕ) (nodes segments : ℕ → ℕ → ℕ) (are : AreStrands web count pairs branch long nodes segments) where
  abbrev pub branches : List ℕ
  branches = listed count branch

  abbrev path : ℕ → List ℕ
  path q = listed (long q) (segments q)

  abbrev pub paths : List (List ℕ)
  paths = listed (length pairs) path

  branch_at : (i : ℕ) → i < count → slice_index branches i ≡ branch i
  branch_at i i_in = at_listed count branch i 0 i_in

  start_is : (q : ℕ) → q < length pairs → slice_index branches (ends_at pairs q).0 ≡ nodes q 0
  start_is q q_in = branch_at _ (are.pairs_in q q_in).0 ∙ sym (are.starts q q_in)

  stop_is : (q : ℕ) → q < length pairs → slice_index branches (ends_at pairs q).1 ≡ nodes q (long q)
  stop_is q q_in = branch_at _ (are.pairs_in q q_in).1 ∙ sym (are.stops q q_in)

  -- a node of a strand is a branch node at its ends, or inner
  place : (q k : ℕ) → q < length pairs → k ≤ long q →
      (((k ≡ 0) × (nodes q k ≡ branch (ends_at pairs q).0)) ⊎ ((k ≡ long q) × (nodes q k ≡ branch (ends_at pairs q).1))) ⊎ ((0 < k) × (k < long q))
  place q k q_in low = elim (cases_eq k 0) [
    | inl none ↦ inl (inl (none, ap (nodes q) none ∙ are.starts q q_in))
    | inr some ↦ elim (cases_eq k (long q)) [
      | inl last ↦ inl (inr (last, ap (nodes q) last ∙ are.stops q q_in))
      | inr inner ↦ inr (omega (arith, some), omega (arith, low, inner))
    ]
  ]

  -- two strands meet at branch nodes, one meets each node once
  meets : (q r k j : ℕ) → q < length pairs → r < length pairs → k ≤ long q → j ≤ long r → nodes q k ≡ nodes r j →
      ((q ≡ r) × (k ≡ j)) ⊎ (((k ≡ 0) ⊎ (k ≡ long q)) × ((j ≡ 0) ⊎ (j ≡ long r)))
  meets q r k j q_in r_in k_low j_low same = elim (place q k q_in k_low) [
    | inr k_inner ↦ elim (place r j r_in j_low) [
      | inr j_inner ↦ inl (are.inner_once q r k j q_in r_in k_inner.0 k_inner.1 j_inner.0 j_inner.1 same)
      | inl j_end ↦ absurd (elim j_end [
        | inl first ↦ are.inner_apart q k _ q_in k_inner.0 k_inner.1 (are.pairs_in r r_in).0 (same ∙ first.1)
        | inr last ↦ are.inner_apart q k _ q_in k_inner.0 k_inner.1 (are.pairs_in r r_in).1 (same ∙ last.1)
      ])
    ]
    | inl k_end ↦ elim (place r j r_in j_low) [
      | inr j_inner ↦ absurd (elim k_end [
        | inl first ↦ are.inner_apart r j _ r_in j_inner.0 j_inner.1 (are.pairs_in q q_in).0 (sym same ∙ first.1)
        | inr last ↦ are.inner_apart r j _ r_in j_inner.0 j_inner.1 (are.pairs_in q q_in).1 (sym same ∙ last.1)
      ])
      | inl j_end ↦ inr (elim k_end [ inl a ↦ inl a.0 | inr a ↦ inr a.0 ], elim j_end [ inl a ↦ inl a.0 | inr a ↦ inr a.0 ])
    ]
  ]

  own_once : (q k j : ℕ) → q < length pairs → k ≤ long q → j ≤ long q → nodes q k ≡ nodes q j → k ≡ j
  own_once q k j q_in k_low j_low same = elim (place q k q_in k_low) [
    | inr k_inner ↦ elim (meets q q k j q_in q_in k_low j_low same) [
      | inl one ↦ one.1
      | inr ends ↦ absurd (omega (arith, ends.0, k_inner.0, k_inner.1))
    ]
    | inl k_end ↦ elim (place q j q_in j_low) [
      | inr j_inner ↦ elim (meets q q k j q_in q_in k_low j_low same) [
        | inl one ↦ one.1
        | inr ends ↦ absurd (omega (arith, ends.1, j_inner.0, j_inner.1))
      ]
      | inl j_end ↦
          let p = are.pairs_in q q_in in
          elim k_end [
            | inl k_first ↦ elim j_end [
              | inl j_first ↦ omega (arith, k_first.0, j_first.0)
              | inr j_last ↦ absurd (p.2 (are.branch_once _ _ p.0 p.1 (sym k_first.1 ∙ same ∙ j_last.1)))
            ]
            | inr k_last ↦ elim j_end [
              | inl j_first ↦ absurd (p.2 (are.branch_once _ _ p.0 p.1 (sym j_first.1 ∙ sym same ∙ k_last.1)))
              | inr j_last ↦ omega (arith, k_last.0, j_last.0)
            ]
          ]
    ]
  ]

  -- so no segment is used twice
  segments_once : (q r k j : ℕ) → q < length pairs → r < length pairs → k < long q → j < long r → segments q k ≡ segments r j → (q ≡ r) × (k ≡ j)
  segments_once q r k j q_in r_in k_in j_in same =
      let one = are.steps q q_in k k_in in
      let two = are.steps r r_in j j_in in
      let P : ℕ → Type 0 = λ s. SameEnds (ends_at web.ends s) (nodes q k, nodes q (suc k)) in
      let alike : SameEnds (nodes q k, nodes q (suc k)) (nodes r j, nodes r (suc j)) = same_trans _ _ _ (same_sym _ _ (subst P same one.1)) two.1 in
      elim (cases_eq q r) [
        | inl q_r ↦
            let Q : ℕ → Type 0 = λ t. (j < long t) × SameEnds (nodes q k, nodes q (suc k)) (nodes t j, nodes t (suc j)) in
            let here = subst Q (sym q_r) (j_in, alike) in (
              q_r,
              elim here.1 [
                | inl straight ↦ own_once q k j q_in (omega (arith, k_in)) (omega (arith, here.0)) straight.0
                | inr turned ↦
                    let a = own_once q k (suc j) q_in (omega (arith, k_in)) (omega (arith, here.0)) turned.0 in
                    let b = own_once q (suc k) j q_in (omega (arith, k_in)) (omega (arith, here.0)) turned.1 in
                    absurd (omega (arith, a, b))
              ],
            )
        | inr other ↦
            let ends_only : (a b : ℕ) → a ≤ long q → b ≤ long r → nodes q a ≡ nodes r b →
            ((a ≡ 0) ⊎ (a ≡ long q)) × ((b ≡ 0) ⊎ (b ≡ long r)) = λ a b a_low b_low met. elim (meets q r a b q_in r_in a_low b_low met) [
              | inl equal ↦ absurd (other equal.0)
              | inr ends ↦ ends
            ] in
            let pair : (k ≡ 0) × (long q ≡ 1) × (j ≡ 0) × (long r ≡ 1) = elim alike [
              | inl straight ↦
                  let a = ends_only k j (omega (arith, k_in)) (omega (arith, j_in)) straight.0 in
                  let b = ends_only (suc k) (suc j) (omega (arith, k_in)) (omega (arith, j_in)) straight.1 in
                  (omega (arith, a.0, b.0, k_in), omega (arith, a.0, b.0, k_in), omega (arith, a.1, b.1, j_in), omega (arith, a.1, b.1, j_in))
              | inr turned ↦
                  let a = ends_only k (suc j) (omega (arith, k_in)) (omega (arith, j_in)) turned.0 in
                  let b = ends_only (suc k) j (omega (arith, k_in)) (omega (arith, j_in)) turned.1 in
                  (omega (arith, a.0, b.0, k_in), omega (arith, a.0, b.0, k_in), omega (arith, a.1, b.1, j_in), omega (arith, a.1, b.1, j_in))
            ] in
            let q_first : nodes q k ≡ branch (ends_at pairs q).0 = ap (nodes q) pair.0 ∙ are.starts q q_in in
            let q_last : nodes q (suc k) ≡ branch (ends_at pairs q).1 = ap (nodes q) (let z : suc k ≡ long q = omega (arith, pair.0, pair.1) in z) ∙ are.stops q q_in in
            let r_first : nodes r j ≡ branch (ends_at pairs r).0 = ap (nodes r) pair.2 ∙ are.starts r r_in in
            let r_last : nodes r (suc j) ≡ branch (ends_at pairs r).1 = ap (nodes r) (let z : suc j ≡ long r = omega (arith, pair.2, pair.3) in z) ∙ are.stops r r_in in
            let p = are.pairs_in q q_in in
            let t = are.pairs_in r r_in in
            let classes : SameEnds (ends_at pairs q) (ends_at pairs r) = elim alike [
              | inl straight ↦ inl (are.branch_once _ _ p.0 t.0 (sym q_first ∙ straight.0 ∙ r_first), are.branch_once _ _ p.1 t.1 (sym q_last ∙ straight.1 ∙ r_last))
              | inr turned ↦ inr (are.branch_once _ _ p.0 t.1 (sym q_first ∙ turned.0 ∙ r_last), are.branch_once _ _ p.1 t.0 (sym q_last ∙ turned.1 ∙ r_first))
            ] in
            absurd (other (are.pairs_once q r q_in r_in classes))
      ]

  inner_is : (q : ℕ) → q < length pairs → inner_nodes web.ends (slice_index branches (ends_at pairs q).0) (path q) ≡ listed (long q - 1) (λ k. nodes q (suc k))
  inner_is q q_in =
      let some = are.some q q_in in
      let one : long q ≡ suc (long q - 1) = omega (arith, some) in
      let P : ℕ → Type 0 = λ l. AreSteps web.ends l (nodes q) (segments q) in
      ap (λ w. inner_nodes web.ends w (path q)) (start_is q q_in) ∙ ap (λ l. inner_nodes web.ends (nodes q 0) (listed l (segments q))) one
      ∙ inner_of web.ends (long q - 1) (nodes q) (segments q) (subst P one (are.steps q q_in))

  inner_to : (q z : ℕ) → q < length pairs → has (inner_nodes web.ends (slice_index branches (ends_at pairs q).0) (path q)) z ≡ true → (k : ℕ) × (0 < k) × (k < long q) × (nodes q k ≡ z)
  inner_to q z q_in h =
      let P : List ℕ → Type 0 = λ xs. has xs z ≡ true in
      let found = has_listed (long q - 1) (λ k. nodes q (suc k)) z (subst P (inner_is q q_in) h) in
      (suc found.0, omega arith, omega (arith, found.1), found.2)

  pub is_subdivision : IsPathSystem web pairs branches paths
  is_subdivision = record {
    below = λ k d k_in.
        let k_low : k < count = omega (arith, k_in, length-listed count branch) in
        let P : ℕ → Type 0 = λ v. v < web.nodes in
        subst P (sym (at_listed count branch k d k_low)) (are.branch_in k k_low);
    lead = lead_all web.ends branches pairs path (λ q q_in.
        let P : ℕ → Type 0 = λ u. LeadsTo web.ends u (path q) (slice_index branches (ends_at pairs q).1) in
        let Q : ℕ → Type 0 = λ v. LeadsTo web.ends (nodes q 0) (path q) v in
        subst P (sym (start_is q q_in)) (subst Q (sym (stop_is q q_in)) (leads web.ends (long q) (nodes q) (segments q) (are.steps q q_in))));
    once = distinct_concat (length pairs) path
        (λ q q_in. distinct_listed (long q) (segments q) (λ k j k_in j_in same. (segments_once q q k j q_in q_in k_in j_in same).1))
        (λ q r z q_in r_in a b.
        let one = has_listed (long q) (segments q) z a in
        let two = has_listed (long r) (segments r) z b in
        (segments_once q r one.0 two.0 q_in r_in one.1 two.1 (one.2 ∙ sym two.2)).0);
    no_node_twice = distinct_append branches (all_inner web.ends branches pairs paths)
        (distinct_listed count branch (λ i j i_in j_in same. are.branch_once i j i_in j_in same))
        (distinct_inner web.ends branches pairs path
        (λ q q_in.
        let P : List ℕ → Type 0 = λ xs. IsDistinct nat_eq xs in
        subst P (sym (inner_is q q_in)) (distinct_listed (long q - 1) (λ k. nodes q (suc k)) (λ k j k_in j_in same.
        let e = (are.inner_once q q (suc k) (suc j) q_in q_in (omega arith) (omega (arith, k_in)) (omega arith) (omega (arith, j_in)) same).1 in omega (arith, e))))
        (λ q r z q_in r_in a b.
        let one = inner_to q z q_in a in
        let two = inner_to r z r_in b in
        (are.inner_once q r one.0 two.0 q_in r_in one.1 one.2 two.1 two.2 (one.3 ∙ sym two.3)).0))
        (λ z a b.
        let i = has_listed count branch z a in
        let q = has_inner web.ends branches pairs path z b in
        let k = inner_to q.0 z q.1 q.2 in
        are.inner_apart q.0 k.0 i.0 q.1 k.1 k.2 i.1 (k.3 ∙ sym i.2));
  }
