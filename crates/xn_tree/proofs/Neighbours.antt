-- How the sums over neighbours change where one order changes.
use Rattle.std.proofs.Common.{◌≡◌, ℕ, zero, suc, ◌+◌, ◌-◌, ◌<◌, ◌≤◌, inl, inr, Bool, true, false, ◌&&◌, ◌||◌, eqb, List, [], ◌∷◌, length, drop, get_or, take, refl, sym, ap, ◌∙◌, arith}
use Rattle.std.specs.Prelude.{nat_eq}
use Rattle.std.specs.List.{AllByRecursion, IsDistinct}
use Rattle.std.proofs.lemmas.Bool.{and_from, and_left, and_parts, and_right, both_ways, cases_Bool, eq-eqb, eqb-true, le-ltb, lt-ltb, or_from, or_left, or_right}
use Rattle.std.proofs.lemmas.Map.Keys.{IsDistinct-head, IsDistinct-tail}
use Rattle.xn_model.specs.Lists.{has, total}
use Rattle.xn_kinds.specs.Row.{Values, literal}
use Rattle.xn_tree.specs.Leaf.{meets, turn_term, turns_along}
use Rattle.xn_tree.specs.Least.{with_before}
use Rattle.xn_tree.proofs.Kept.{eqb-flip}

eqb-same : (a : ℕ) → eqb a a ≡ true
eqb-same a = eq-eqb a a refl

module _ (v : Values) (e a b n : ℕ) where
  -- an order on another edge, and that of other edges, is as before
  literal-edge : (x f g : ℕ) → eqb x e ≡ false → literal (with_before v e a b n) x f g ≡ literal v x f g
  literal-edge x f g other = rw other refl

  literal-other : (f g : ℕ) → (eqb f a && eqb g b) ≡ false → (eqb g a && eqb f b) ≡ false → literal (with_before v e a b n) e f g ≡ literal v e f g
  literal-other f g here there = rw (eqb-same e, here, there) refl

  pub turns-edge : (x : ℕ) (fs : List ℕ) → eqb x e ≡ false → turns_along (with_before v e a b n) x fs ≡ turns_along v x fs
  turns-edge x [] other = refl
  turns-edge x (f ∷ []) other = refl
  turns-edge x (f ∷ g ∷ fs) other = rw (literal-edge x f g other, turns-edge x (g ∷ fs) other) refl

  -- as are the orders in a list without one of the two edges
  not_both : (p q r t : Bool) → ((p || q) && (r || t)) ≡ false → (q && t) ≡ false
  not_both p true r true h = absurd (both_ways true (sym (and_from (p || true) (r || true) (or_right p true refl) (or_right r true refl)) ∙ h) refl)
  not_both p true r false h = refl
  not_both p false r t h = refl

  pub turns-out : (fs : List ℕ) → (has fs a && has fs b) ≡ false → turns_along (with_before v e a b n) e fs ≡ turns_along v e fs
  turns-out [] out = refl
  turns-out (f ∷ []) out = refl
  turns-out (f ∷ g ∷ fs) out =
      let here : (eqb f a && eqb g b) ≡ false = elim (cases_Bool (eqb f a && eqb g b)) [
        | inl both ↦
            let parts : (eqb f a ≡ true) × (eqb g b ≡ true) = and_parts _ _ both in
            absurd (both_ways (has (f ∷ g ∷ fs) a && has (f ∷ g ∷ fs) b) out
            (and_from (has (f ∷ g ∷ fs) a) (has (f ∷ g ∷ fs) b) (or_left (eqb f a) (has (g ∷ fs) a) parts.0)
            (or_right (eqb f b) (has (g ∷ fs) b) (or_left (eqb g b) (has fs b) parts.1))))
        | inr other ↦ other
      ] in
      let there : (eqb g a && eqb f b) ≡ false = elim (cases_Bool (eqb g a && eqb f b)) [
        | inl both ↦
            let parts : (eqb g a ≡ true) × (eqb f b ≡ true) = and_parts _ _ both in
            absurd (both_ways (has (f ∷ g ∷ fs) a && has (f ∷ g ∷ fs) b) out
            (and_from (has (f ∷ g ∷ fs) a) (has (f ∷ g ∷ fs) b) (or_right (eqb f a) (has (g ∷ fs) a) (or_left (eqb g a) (has fs a) parts.0))
            (or_left (eqb f b) (has (g ∷ fs) b) parts.1)))
        | inr other ↦ other
      ] in
      rw (literal-other f g here there, turns-out (g ∷ fs) (not_both (eqb f a) (has (g ∷ fs) a) (eqb f b) (has (g ∷ fs) b) out)) refl

-- neighbours stand in the list
meets-out : (fs : List ℕ) (a b : ℕ) → (has fs a && has fs b) ≡ false → meets fs a b ≡ false
meets-out [] a b out = refl
meets-out (f ∷ []) a b out = refl
meets-out (f ∷ g ∷ fs) a b out = or_from (eqb f a && eqb g b) (meets (g ∷ fs) a b)
    (elim (cases_Bool (eqb f a && eqb g b)) [
      | inl both ↦
          let parts : (eqb f a ≡ true) × (eqb g b ≡ true) = and_parts _ _ both in
          absurd (both_ways (has (f ∷ g ∷ fs) a && has (f ∷ g ∷ fs) b) out
          (and_from (has (f ∷ g ∷ fs) a) (has (f ∷ g ∷ fs) b) (or_left (eqb f a) (has (g ∷ fs) a) parts.0)
          (or_right (eqb f b) (has (g ∷ fs) b) (or_left (eqb g b) (has fs b) parts.1))))
      | inr other ↦ other
    ])
    (meets-out (g ∷ fs) a b (not_both' (eqb f a) (has (g ∷ fs) a) (eqb f b) (has (g ∷ fs) b) out))
  where
    not_both' : (p q r t : Bool) → ((p || q) && (r || t)) ≡ false → (q && t) ≡ false
    not_both' p true r true h = absurd (both_ways true (sym (and_from (p || true) (r || true) (or_right p true refl) (or_right r true refl)) ∙ h) refl)
    not_both' p true r false h = refl
    not_both' p false r t h = refl

-- an element that has no repeats
pub head_out : (x : ℕ) (xs : List ℕ) → IsDistinct nat_eq (x ∷ xs) → has xs x ≡ false
head_out x xs distinct = go xs (IsDistinct-head nat_eq x xs distinct)
  where
    go : (ys : List ℕ) → AllByRecursion (λ y. nat_eq x y ≡ false) ys → has ys x ≡ false
    go [] each = refl
    go (y ∷ ys) each = or_from (eqb y x) (has ys x) (eqb-flip y x ∙ each.0) (go ys each.1)

join_ahead : (p q t u x n : ℕ) → p ≡ n → q ≡ x → t ≡ u → 1 - p + t + (1 - x) ≡ 1 - q + u + (1 - n)
join_ahead p q t u x n now then rest = omega (arith, now, then, rest)

join_behind : (p q t u x n : ℕ) → p ≡ 1 - n → q ≡ 1 - x → t ≡ u → n ≤ 1 → x ≤ 1 → 1 - p + t + x ≡ 1 - q + u + n
join_behind p q t u x n now then rest small was_small = omega (arith, now, then, rest, small, was_small)

join_other : (p q t u x n : ℕ) → p ≡ q → t + x ≡ u + n → 1 - p + t + x ≡ 1 - q + u + n
join_other p q t u x n same rest = omega (arith, same, rest)

-- where one order changes, the sum over a list changes as that order's term does
module _ (v : Values) (e a b n : ℕ) (rises : a < b) (small : n ≤ 1) (was_small : v.before e a b ≤ 1) where
  ahead : literal (with_before v e a b n) e a b ≡ n
  ahead = rw (lt-ltb a b rises, eqb-same e, eqb-same a, eqb-same b) refl

  behind : literal (with_before v e a b n) e b a ≡ 1 - n
  behind = rw (le-ltb b a (omega (arith, rises)), eqb-same e, eqb-same a, eqb-same b) refl

  was_ahead : literal v e a b ≡ v.before e a b
  was_ahead = rw (lt-ltb a b rises) refl

  was_behind : literal v e b a ≡ 1 - v.before e a b
  was_behind = rw (le-ltb b a (omega (arith, rises))) refl

  joined : (fs : List ℕ) {x y : ℕ} → turn_term fs a b (v.before e a b) ≡ x → turn_term fs a b n ≡ y →
      turns_along (with_before v e a b n) e fs + x ≡ turns_along v e fs + y →
      turns_along (with_before v e a b n) e fs + turn_term fs a b (v.before e a b) ≡ turns_along v e fs + turn_term fs a b n
  joined fs was now sums =
      ap (λ t. turns_along (with_before v e a b n) e fs + t) was ∙ sums ∙ sym (ap (λ t. turns_along v e fs + t) now)

  pub turns-moved : (fs : List ℕ) → IsDistinct nat_eq fs →
      turns_along (with_before v e a b n) e fs + turn_term fs a b (v.before e a b) ≡ turns_along v e fs + turn_term fs a b n
  turns-moved [] distinct = refl
  turns-moved (f ∷ []) distinct = refl
  turns-moved (f ∷ g ∷ fs) distinct =
      let once = head_out f (g ∷ fs) distinct in
      elim (cases_Bool (eqb f a && eqb g b)) [
        | inl here ↦
            let parts : (eqb f a ≡ true) × (eqb g b ≡ true) = and_parts _ _ here in
            let fa = eqb-true f a parts.0 in
            let gb = eqb-true g b parts.1 in
            let out : has (g ∷ fs) a ≡ false = ap (has (g ∷ fs)) (sym fa) ∙ once in
            let rest = turns-out v e a b n (g ∷ fs) (and_left (has (g ∷ fs) a) (has (g ∷ fs) b) out) in
            let now : literal (with_before v e a b n) e f g ≡ n = ap (λ x. literal (with_before v e a b n) e x g) fa ∙ ap (literal (with_before v e a b n) e a) gb ∙ ahead in
            let then : literal v e f g ≡ v.before e a b = ap (λ x. literal v e x g) fa ∙ ap (literal v e a) gb ∙ was_ahead in
            let term : (x : ℕ) → turn_term (f ∷ g ∷ fs) a b x ≡ 1 - x = λ x. rw here refl in
            joined (f ∷ g ∷ fs) (term (v.before e a b)) (term n) (join_ahead _ _ _ _ (v.before e a b) n now then rest)
        | inr other ↦ elim (cases_Bool (eqb f b && eqb g a)) [
          | inl here ↦
              let parts : (eqb f b ≡ true) × (eqb g a ≡ true) = and_parts _ _ here in
              let fb = eqb-true f b parts.0 in
              let ga = eqb-true g a parts.1 in
              let out : has (g ∷ fs) b ≡ false = ap (has (g ∷ fs)) (sym fb) ∙ once in
              let gone = and_right (has (g ∷ fs) a) (has (g ∷ fs) b) out in
              let rest = turns-out v e a b n (g ∷ fs) gone in
              let none = meets-out (g ∷ fs) a b gone in
              let now : literal (with_before v e a b n) e f g ≡ 1 - n = ap (λ x. literal (with_before v e a b n) e x g) fb ∙ ap (literal (with_before v e a b n) e b) ga ∙ behind in
              let then : literal v e f g ≡ 1 - v.before e a b = ap (λ x. literal v e x g) fb ∙ ap (literal v e b) ga ∙ was_behind in
              let term : (x : ℕ) → turn_term (f ∷ g ∷ fs) a b x ≡ x = λ x. rw (other, none, here) refl in
              joined (f ∷ g ∷ fs) (term (v.before e a b)) (term n) (join_behind _ _ _ _ (v.before e a b) n now then rest small was_small)
          | inr neither ↦
              let swapped : (eqb g a && eqb f b) ≡ false = and_flip (eqb f b) (eqb g a) neither in
              let same = literal-other v e a b n f g other swapped in
              let term : (x : ℕ) → turn_term (f ∷ g ∷ fs) a b x ≡ turn_term (g ∷ fs) a b x = λ x. rw (other, neither) refl in
              joined (f ∷ g ∷ fs) (term (v.before e a b)) (term n)
              (join_other _ _ _ _ _ _ same (turns-moved (g ∷ fs) (IsDistinct-tail nat_eq f (g ∷ fs) distinct)))
        ]
      ]
    where
      and_flip : (p q : Bool) → (p && q) ≡ false → (q && p) ≡ false
      and_flip true true h = h
      and_flip true false h = refl
      and_flip false true h = refl
      and_flip false false h = refl

-- ---- a list, two neighbours at a time

pub meets-next : (fs : List ℕ) (k f g : ℕ) → k + 1 < length fs → (eqb (get_or fs k 0) f && eqb (get_or fs (suc k) 0) g) ≡ false →
    meets (drop (suc k) fs) f g ≡ meets (drop k fs) f g
meets-next [] k f g low other = absurd (omega (arith, low))
meets-next (x ∷ []) k f g low other = absurd (omega (arith, low))
meets-next (x ∷ y ∷ fs) zero f g low other = rw other refl
meets-next (x ∷ y ∷ fs) (suc k) f g low other = meets-next (y ∷ fs) k f g (omega (arith, low)) other

pub meets-found : (fs : List ℕ) (k f g : ℕ) → k + 1 < length fs → (eqb (get_or fs k 0) f && eqb (get_or fs (suc k) 0) g) ≡ true → meets (drop k fs) f g ≡ true
meets-found [] k f g low here = absurd (omega (arith, low))
meets-found (x ∷ []) k f g low here = absurd (omega (arith, low))
meets-found (x ∷ y ∷ fs) zero f g low here = rw here refl
meets-found (x ∷ y ∷ fs) (suc k) f g low here = meets-found (y ∷ fs) k f g (omega (arith, low)) here

pub meets-short : (fs : List ℕ) (f g : ℕ) → length fs ≤ 1 → meets fs f g ≡ false
meets-short [] f g short = refl
meets-short (x ∷ []) f g short = refl
meets-short (x ∷ y ∷ fs) f g short = absurd (omega (arith, short))

pub turns-short : (v : Values) (e j : ℕ) (fs : List ℕ) → j ≤ 1 → turns_along v e (take j fs) ≡ 0
turns-short v e zero fs short = refl
turns-short v e (suc zero) [] short = refl
turns-short v e (suc zero) (x ∷ fs) short = refl
turns-short v e (suc (suc j)) fs short = absurd (omega (arith, short))

pub turns-more : (v : Values) (e k : ℕ) (fs : List ℕ) → k + 1 < length fs →
    turns_along v e (take (suc (suc k)) fs) ≡ turns_along v e (take (suc k) fs) + (1 - literal v e (get_or fs k 0) (get_or fs (suc k) 0))
turns-more v e k [] low = absurd (omega (arith, low))
turns-more v e k (x ∷ []) low = absurd (omega (arith, low))
turns-more v e zero (x ∷ y ∷ fs) low = omega arith
turns-more v e (suc k) (x ∷ y ∷ fs) low = omega (arith, turns-more v e k (y ∷ fs) (omega (arith, low)))

pub total-take : {A : Type 0} (h : A → ℕ) (xs : List A) (i : ℕ) (d : A) → i < length xs → total h (take (suc i) xs) ≡ total h (take i xs) + h (get_or xs i d)
total-take h [] i d low = absurd (omega (arith, low))
total-take h (x ∷ xs) zero d low = omega arith
total-take h (x ∷ xs) (suc i) d low = omega (arith, total-take h xs i d (omega (arith, low)))
