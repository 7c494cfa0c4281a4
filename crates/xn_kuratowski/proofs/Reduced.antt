-- Webs with a lone node or with two segments beside each other: what is proved of smaller webs serves them.
use Rattle.std.proofs.Common.{◌≡◌, ◌≢◌, ℕ, zero, suc, ◌-◌, ◌<◌, ◌≤◌, ◌⊎◌, inl, inr, true, cond, eqb, ltb, List, [], ◌∷◌, ◌++◌, length, refl, sym, ◌∙◌, ap, subst, arith, length-append}
use Rattle.std.proofs.lemmas.Bool.{cases_eq, cases_lt, cond-true, cond-false, eq-eqb, eqb-true, ne_eqb, lt-ltb, le-ltb, or_cases}
use Rattle.xn_model.specs.Graph.{EndsIn, HasNoLoop, ends_at, touches}
use Rattle.xn_genus.proofs.Compress.{EndsIn_from}
use Rattle.xn_genus.proofs.Kept.{EndsIn_at}
use Rattle.xn_fewer.specs.Flat.{IsSelection, SameEnds, called, merged}
use Rattle.xn_fewer.proofs.Flats.{lone_comes_flat, parallel_flat, some_flat}
use Rattle.xn_fewer.proofs.Lists.{at_both, at_front, at_last, cases_called, length-both, lone_ends}
use Rattle.xn_kuratowski.specs.Core.{left_without}
use Rattle.xn_kuratowski.specs.Reduction.{LoneNodesGo, ParallelsGo}
use Rattle.xn_kuratowski.proofs.Minors.{minor_among, minors_without_node}

pub lone_nodes_go : LoneNodesGo
lone_nodes_go zero v ends ends_in no_loop holds v_in alone = absurd (omega (arith, v_in))
lone_nodes_go (suc rest) v ends ends_in no_loop holds v_in alone =
    let left = merged v rest ends in
    let size = length-both (called v rest) ends in
    let fresh : (s : ℕ) → s < length ends → ((ends_at ends s).0 ≢ v) × ((ends_at ends s).1 ≢ v) = λ s s_in. lone_ends ends v alone s s_in in
    let left_in : EndsIn rest left = EndsIn_from rest left (λ s s_in.
    let s_low : s < length ends = omega (arith, s_in, size) in
    let low = EndsIn_at (suc rest) ends ends_in s s_low in
    let off = fresh s s_low in
    let e = at_both (called v rest) ends s s_low in
    let P : ℕ × ℕ → Type 0 = λ p. (p.0 < rest) × (p.1 < rest) in
    let inside : ((called v rest (ends_at ends s).0) < rest) × ((called v rest (ends_at ends s).1) < rest) = (
      omega (arith, low.0, off.0, v_in, cases_called v rest (ends_at ends s).0),
      omega (arith, low.1, off.1, v_in, cases_called v rest (ends_at ends s).1),
    ) in
    subst P (sym e) inside) in
    let left_none : HasNoLoop left = λ s s_in same.
    let s_low : s < length ends = omega (arith, s_in, size) in
    let e = at_both (called v rest) ends s s_low in
    let off = fresh s s_low in
    let names : called v rest (ends_at ends s).0 ≡ called v rest (ends_at ends s).1 = ap (λ p. p.0) (sym e) ∙ same ∙ ap (λ p. p.1) e in
    no_loop s s_low (omega (arith, names, off.0, off.1, cases_called v rest (ends_at ends s).0, cases_called v rest (ends_at ends s).1)) in
    elim (holds rest left left_in left_none (omega (arith, size))) [
      | inl flat ↦ inl (lone_comes_flat rest v ends (omega (arith, v_in)) ends_in alone flat)
      | inr minor ↦ inr (minors_without_node rest v ends (omega (arith, v_in)) alone ends_in minor)
    ]

-- ---- a list without one of its segments

pub length-left : (t : ℕ) (ends : List (ℕ × ℕ)) → t < length ends → length ends ≡ suc (length (left_without t ends))
length-left t [] t_in = absurd (omega (arith, t_in))
length-left zero (p ∷ ends) t_in = refl
length-left (suc t) (p ∷ ends) t_in = ap suc (length-left t ends (omega (arith, t_in)))

pub at_left_low : (t : ℕ) (ends : List (ℕ × ℕ)) (i : ℕ) → i < t → i < length ends → ends_at (left_without t ends) i ≡ ends_at ends i
at_left_low t [] i low i_in = absurd (omega (arith, i_in))
at_left_low zero (p ∷ ends) i low i_in = absurd (omega (arith, low))
at_left_low (suc t) (p ∷ ends) zero low i_in = refl
at_left_low (suc t) (p ∷ ends) (suc i) low i_in = at_left_low t ends i (omega (arith, low)) (omega (arith, i_in))

pub at_left_high : (t : ℕ) (ends : List (ℕ × ℕ)) (i : ℕ) → t ≤ i → t < length ends → ends_at (left_without t ends) i ≡ ends_at ends (suc i)
at_left_high t [] i high t_in = absurd (omega (arith, t_in))
at_left_high zero (p ∷ ends) i high t_in = refl
at_left_high (suc t) (p ∷ ends) zero high t_in = absurd (omega (arith, high))
at_left_high (suc t) (p ∷ ends) (suc i) high t_in = at_left_high t ends i (omega (arith, high)) (omega (arith, t_in))

-- the old place of a segment that is left
abbrev pub place_before : ℕ → ℕ → ℕ
place_before t i = cond (ltb i t) i (suc i)

pub cases_before : (t i : ℕ) → ((i < t) × (place_before t i ≡ i)) ⊎ ((t ≤ i) × (place_before t i ≡ suc i))
cases_before t i = elim (cases_lt i t) [
  | inl low ↦ inl (low, cond-true _ _ _ (lt-ltb i t low))
  | inr high ↦ inr (high, cond-false _ _ _ (le-ltb i t high))
]

pub at_left : (t : ℕ) (ends : List (ℕ × ℕ)) (i : ℕ) → t < length ends → i < length (left_without t ends) → ends_at (left_without t ends) i ≡ ends_at ends (place_before t i)
at_left t ends i t_in i_in = elim (cases_before t i) [
  | inl low ↦ at_left_low t ends i low.0 (omega (arith, low.0, t_in)) ∙ ap (ends_at ends) (sym low.1)
  | inr high ↦ at_left_high t ends i high.0 t_in ∙ ap (ends_at ends) (sym high.1)
]

pub left_choice : (t : ℕ) (ends : List (ℕ × ℕ)) → t < length ends → IsSelection ends (left_without t ends) (place_before t)
left_choice t ends t_in = record {
  below = λ i i_in. omega (arith, i_in, length-left t ends t_in, cases_before t i);
  apart = λ i j i_in j_in same. omega (arith, same, cases_before t i, cases_before t j);
  same = λ i i_in. let e = at_left t ends i t_in i_in in inl (ap (λ p. p.0) e, ap (λ p. p.1) e);
}

-- ---- parallel segments

same_from_touches : (p q : ℕ × ℕ) → q.0 ≢ q.1 → touches p q.0 ≡ true → touches p q.1 ≡ true → SameEnds q p
same_from_touches p q other first second = elim (or_cases (eqb p.0 q.0) (eqb p.1 q.0) first) [
  | inl a ↦ elim (or_cases (eqb p.0 q.1) (eqb p.1 q.1) second) [
    | inl b ↦ absurd (other (sym (eqb-true p.0 q.0 a) ∙ eqb-true p.0 q.1 b))
    | inr b ↦ inl (sym (eqb-true p.0 q.0 a), sym (eqb-true p.1 q.1 b))
  ]
  | inr a ↦ elim (or_cases (eqb p.0 q.1) (eqb p.1 q.1) second) [
    | inl b ↦ inr (sym (eqb-true p.1 q.0 a), sym (eqb-true p.0 q.1 b))
    | inr b ↦ absurd (other (sym (eqb-true p.1 q.0 a) ∙ eqb-true p.1 q.1 b))
  ]
]

pub parallels_go : ParallelsGo
parallels_go nodes s t ends ends_in no_loop holds s_in t_in other first second =
    let left = left_without t ends in
    let size = length-left t ends t_in in
    let choice = left_choice t ends t_in in
    let left_in : EndsIn nodes left = EndsIn_from nodes left (λ i i_in.
    let P : ℕ × ℕ → Type 0 = λ p. (p.0 < nodes) × (p.1 < nodes) in
    subst P (sym (at_left t ends i t_in i_in)) (EndsIn_at nodes ends ends_in (place_before t i) (choice.below i i_in))) in
    let left_none : HasNoLoop left = λ i i_in same.
    let e = at_left t ends i t_in i_in in
    no_loop (place_before t i) (choice.below i i_in) (ap (λ p. p.0) (sym e) ∙ same ∙ ap (λ p. p.1) e) in
    elim (holds nodes left left_in left_none (omega (arith, size))) [
      | inr minor ↦ inr (minor_among left ends (λ i i_in. (place_before t i, choice.below i i_in, choice.same i i_in)) minor)
      | inl flat ↦
          -- the place of s
          let k = cond (ltb s t) s (s - 1) in
          let k_cases : ((s < t) × (k ≡ s)) ⊎ ((t < s) × (k ≡ s - 1)) = elim (cases_lt s t) [
            | inl low ↦ inl (low, cond-true _ _ _ (lt-ltb s t low))
            | inr high ↦ inr (omega (arith, high, other), cond-false _ _ _ (le-ltb s t high))
          ] in
          let k_in : k < length left = omega (arith, k_cases, size, s_in, t_in) in
          let k_at : ends_at left k ≡ ends_at ends s = at_left t ends k t_in k_in ∙ ap (ends_at ends) (omega (arith, k_cases, cases_before t k)) in
          let more = left ++ ends_at left k ∷ [] in
          let more_size = length-append left (ends_at left k ∷ []) in
          let σ = λ (i : ℕ). cond (ltb i t) i (cond (eqb i t) (length left) (i - 1)) in
          let cases : (i : ℕ) → ((i < t) × (σ i ≡ i)) ⊎ (((i ≡ t) × (σ i ≡ length left)) ⊎ ((t < i) × (σ i ≡ i - 1))) = λ i. elim (cases_lt i t) [
            | inl low ↦ inl (low, cond-true _ _ _ (lt-ltb i t low))
            | inr high ↦ elim (cases_eq i t) [
              | inl here ↦ inr (inl (here, cond-false _ _ _ (le-ltb i t high) ∙ cond-true _ _ _ (eq-eqb i t here)))
              | inr past ↦ inr (inr (omega (arith, high, past), cond-false _ _ _ (le-ltb i t high) ∙ cond-false _ _ _ (ne_eqb i t past)))
            ]
          ] in
          let parallel = parallel_flat nodes k left k_in (left_none k k_in) flat in
          inl (some_flat nodes more ends σ (record {
            below = λ i i_in. omega (arith, cases i, i_in, more_size, size, t_in);
            apart = λ i j i_in j_in same. omega (arith, cases i, cases j, same, i_in, j_in, size);
            same = λ i i_in. elim (cases i) [
              | inl low ↦
                  let e : ends_at ends i ≡ ends_at more (σ i) =
                  sym (at_left_low t ends i low.0 i_in) ∙ sym (at_front left (ends_at left k ∷ []) i (omega (arith, low.0, t_in, size))) ∙ ap (ends_at more) (sym low.1) in
                  inl (ap (λ p. p.0) e, ap (λ p. p.1) e)
              | inr (inl here) ↦
                  let e : ends_at ends s ≡ ends_at more (σ i) = sym k_at ∙ sym (at_last left (ends_at left k)) ∙ ap (ends_at more) (sym here.1) in
                  let P : ℕ × ℕ → Type 0 = λ p. SameEnds (ends_at ends i) p in
                  let Q : ℕ → Type 0 = λ j. SameEnds (ends_at ends j) (ends_at ends s) in
                  subst P e (subst Q (sym here.0) (same_from_touches (ends_at ends s) (ends_at ends t) (no_loop t t_in) first second))
              | inr (inr back) ↦
                  let j = i - 1 in
                  let on : suc j ≡ i = omega (arith, back.0) in
                  let e : ends_at ends i ≡ ends_at more (σ i) =
                  ap (ends_at ends) (sym on) ∙ sym (at_left_high t ends j (omega (arith, back.0)) t_in) ∙ sym (at_front left (ends_at left k ∷ []) j (omega (arith, i_in, size, back.0)))
                  ∙ ap (ends_at more) (sym back.1) in
                  inl (ap (λ p. p.0) e, ap (λ p. p.1) e)
            ];
          }) parallel)
    ]
