-- Marks along all paths, and what they show of repeats.
use Rattle.std.proofs.Common.{◌≡◌, ℕ, zero, suc, ◌+◌, ◌<◌, true, eqb, get_or, take, drop, List, [], ◌∷◌, ◌++◌, length, refl, sym, ◌∙◌, ap, subst, arith, append_assoc, Bool}
use Rattle.std.specs.Prelude.{Option, None, Some, IfNone, IfSome, All}
use Rattle.std.specs.List.{IsDistinct, concat}
use Rattle.std.proofs.lemmas.Bool.{or_left, eq-eqb}
use Rattle.std.proofs.lemmas.List.{append-nil, take_more}
use Rattle.std.proofs.lemmas.List.Elements.{All-from_get_or}
use Rattle.std.proofs.lemmas.List.Folds.{concat-append}
use Rattle.xn_model.specs.Evidence.{all_inner, inner_nodes}
use Rattle.xn_model.specs.Lists.{has}
use Rattle.xn_model.proofs.Has.{has-at}
use Rattle.xn_kura.proofs.Distinct.{distinct-apart}
use Rattle.xn_kura.proofs.Marking.{MarksMore-trans, StopsAt-between, distinct-from_marks, repeat-from_marks}
use Rattle.xn_kura.proofs.Walking.{around}
use Rattle.xn_kura.specs.Flaws.{IsFirstRepeat, begins_at, path_at}
use Rattle.xn_kura.specs.Marks.{MarksExactly, MarksMore, MarksWithin, StopsAt}

pub All-from_has : (P : ℕ → Type 0) (xs : List ℕ) → ((x : ℕ) → has xs x ≡ true → P x) → All P xs
All-from_has P xs each = All-from_get_or P xs 0 (λ i i_in. each (get_or xs i 0) (has-at xs i i_in))

-- ---- the paths so far

pub concat_more : (paths : List (List ℕ)) (q : ℕ) → q < length paths → concat (take (q + 1) paths) ≡ concat (take q paths) ++ path_at paths q
concat_more paths q q_in =
    ap concat (take_more paths q [] q_in) ∙ concat-append (take q paths) (path_at paths q ∷ []) ∙ ap (λ xs. concat (take q paths) ++ xs) (append-nil (path_at paths q))

pub concat_around : (paths : List (List ℕ)) (q : ℕ) → q < length paths → concat paths ≡ concat (take q paths) ++ path_at paths q ++ concat (drop (q + 1) paths)
concat_around paths q q_in =
    ap concat (around paths q [] q_in) ∙ concat-append (take q paths) (path_at paths q ∷ drop (q + 1) paths)
    ∙ sym (append_assoc (concat (take q paths)) (path_at paths q) (concat (drop (q + 1) paths)))

module _ (ends : List (ℕ × ℕ)) (branch : List ℕ) where
  pub inner_more : (pairs : List (ℕ × ℕ)) (paths : List (List ℕ)) (q : ℕ) → q < length pairs → q < length paths →
      all_inner ends branch (take (q + 1) pairs) (take (q + 1) paths) ≡ all_inner ends branch (take q pairs) (take q paths) ++ inner_nodes ends (begins_at pairs branch q) (path_at paths q)
  inner_more pairs paths q q_in q_in2 = let next : suc q ≡ q + 1 = omega arith in ap (λ n. all_inner ends branch (take n pairs) (take n paths)) (sym next) ∙ go pairs paths q q_in q_in2
    where
      go : (pairs : List (ℕ × ℕ)) (paths : List (List ℕ)) (q : ℕ) → q < length pairs → q < length paths →
          all_inner ends branch (take (suc q) pairs) (take (suc q) paths) ≡ all_inner ends branch (take q pairs) (take q paths) ++ inner_nodes ends (begins_at pairs branch q) (path_at paths q)
      go [] paths q q_in q_in2 = absurd (omega (arith, q_in))
      go (p ∷ pairs) [] q q_in q_in2 = absurd (omega (arith, q_in2))
      go (p ∷ pairs) (path ∷ paths) zero q_in q_in2 = append-nil (inner_nodes ends (begins_at (p ∷ pairs) branch 0) path)
      go (p ∷ pairs) (path ∷ paths) (suc q) q_in q_in2 =
          let front = inner_nodes ends (begins_at (p ∷ pairs) branch 0) path in
          ap (λ xs. front ++ xs) (go pairs paths q (omega (arith, q_in)) (omega (arith, q_in2)))
          ∙ sym (append_assoc front (all_inner ends branch (take q pairs) (take q paths)) (inner_nodes ends (begins_at pairs branch q) (path_at paths q)))

  pub inner_around : (pairs : List (ℕ × ℕ)) (paths : List (List ℕ)) (q : ℕ) → q < length pairs → q < length paths →
      all_inner ends branch pairs paths
      ≡ all_inner ends branch (take q pairs) (take q paths) ++ inner_nodes ends (begins_at pairs branch q) (path_at paths q) ++ all_inner ends branch (drop (suc q) pairs) (drop (suc q) paths)
  inner_around [] paths q q_in q_in2 = absurd (omega (arith, q_in))
  inner_around (p ∷ pairs) [] q q_in q_in2 = absurd (omega (arith, q_in2))
  inner_around (p ∷ pairs) (path ∷ paths) zero q_in q_in2 = refl
  inner_around (p ∷ pairs) (path ∷ paths) (suc q) q_in q_in2 =
      let front = inner_nodes ends (begins_at (p ∷ pairs) branch 0) path in
      let before = all_inner ends branch (take q pairs) (take q paths) in
      let mid = inner_nodes ends (begins_at pairs branch q) (path_at paths q) in
      let after = all_inner ends branch (drop (suc q) pairs) (drop (suc q) paths) in
      ap (λ xs. front ++ xs) (inner_around pairs paths q (omega (arith, q_in)) (omega (arith, q_in2)))
      ∙ sym (append_assoc front (before ++ mid) after) ∙ ap (λ xs. xs ++ after) (sym (append_assoc front before mid))

-- ---- what an answer of the marking shows

-- a list without repeats is marked to its end
pub marks_all : (a b : List Bool) (xs : List ℕ) (r : Option ℕ) → MarksExactly [] a → IsDistinct eqb xs → IfNone r (MarksMore a xs b) → IfSome r (λ x. StopsAt a xs x b) → MarksMore a xs b
marks_all a b xs None none distinct more stops = more
marks_all a b xs (Some x) none distinct more stops =
    let found = repeat-from_marks a b xs x none stops in
    let split = found.0 in
    let P : List ℕ → Type 0 = λ zs. IsDistinct eqb zs in
    absurd (distinct-apart split.0 (x ∷ split.1) (subst P split.2 distinct) x split.4 (or_left (eqb x x) (has split.1 x) (eq-eqb x x refl)))

pub marks_on : (a b c : List Bool) (xs ys : List ℕ) (r : Option ℕ) → MarksMore a xs b → IfNone r (MarksMore b ys c) → IfSome r (λ x. StopsAt b ys x c) →
    IfNone r (MarksMore a (xs ++ ys) c) × IfSome r (λ x. StopsAt a (xs ++ ys) x c)
marks_on a b c xs ys None first more stops = (MarksMore-trans a b c xs ys first more, tt)
marks_on a b c xs ys (Some x) first more stops = (tt, StopsAt-between a b c (xs ++ ys) xs ys [] x (sym (append-nil (xs ++ ys))) first stops)

pub shown_by_marks : (a b : List Bool) (xs : List ℕ) (r : Option ℕ) → MarksExactly [] a → IfNone r (MarksMore a xs b) → IfSome r (λ x. StopsAt a xs x b) →
    IfNone r (IsDistinct eqb xs) × IfSome r (IsFirstRepeat xs) × MarksWithin xs b
shown_by_marks a b xs None none more stops = let found = distinct-from_marks a b xs none more in (found.0, tt, found.1)
shown_by_marks a b xs (Some x) none more stops = let found = repeat-from_marks a b xs x none stops in (tt, found.0, found.1)
