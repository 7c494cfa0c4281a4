-- One step of each loop over the lists.
use Rattle.std.proofs.Common.{◌≡◌, ℕ, suc, ◌+◌, ◌-◌, ◌*◌, ◌<◌, ◌≤◌, inl, inr, true, false, List, [], ◌∷◌, ◌++◌, length, get_or, drop, refl, sym, ◌∙◌, ap, ap₂, subst, arith, append_assoc, drop-cons, drop_of_length-le, length-append}
use Rattle.std.proofs.lemmas.Bool.{cases_eq, cond-true, cond-false}
use Rattle.std.proofs.lemmas.List.{get_or_append_left}
use Rattle.std.proofs.Math.Seq.{get_or-append_seam}
use Rattle.xn_model.specs.Lists.{at, total}
use Rattle.xn_simple.specs.Crossed.{crossed_from, crossed_lists, runs_straight, starts_after, starts_along, starts_of}
use Rattle.xn_simple.specs.Turning.{AreStarts, HoldPlaces}

one_more : (k : ℕ) → suc k ≡ k + 1
one_more k = omega arith

-- ---- the lists that are left

pub lists_left : (lists : List (List ℕ)) (e : ℕ) → e < length lists →
    (length (drop e lists) ≡ suc (length (drop (e + 1) lists))) × (total length (drop e lists) ≡ length (get_or lists e []) + total length (drop (e + 1) lists))
lists_left lists e e_in =
    let P : List (List ℕ) → Type 0 = λ ls. (length ls ≡ suc (length (drop (e + 1) lists))) × (total length ls ≡ length (get_or lists e []) + total length (drop (e + 1) lists)) in
    let Q : ℕ → Type 0 = λ k. P (get_or lists e [] ∷ drop k lists) in
    subst P (sym (drop-cons lists e [] e_in)) (subst Q (sym (one_more e)) (refl, refl))

module _ (next : ℕ → ℕ) where
  -- ---- those that cross

  crossed_at : (list : List ℕ) (s i : ℕ) → i < length list → crossed_from next s (drop i list) ≡ crossed_from next s (get_or list i 0 ∷ drop (i + 1) list)
  crossed_at list s i i_in = ap (crossed_from next s) (drop-cons list i 0 i_in) ∙ ap (λ k. crossed_from next s (get_or list i 0 ∷ drop k list)) (one_more i)

  pub crossed-yes : (done list : List ℕ) (s i : ℕ) (all : List ℕ) → i < length list → runs_straight next s ≡ true → done ++ crossed_from next s (drop i list) ≡ all →
      (done ++ get_or list i 0 ∷ []) ++ crossed_from next (s + 1) (drop (i + 1) list) ≡ all
  crossed-yes done list s i all i_in straight before =
      append_assoc done (get_or list i 0 ∷ []) (crossed_from next (s + 1) (drop (i + 1) list))
      ∙ ap (λ k. done ++ get_or list i 0 ∷ crossed_from next k (drop (i + 1) list)) (sym (one_more s))
      ∙ ap (λ xs. done ++ xs) (sym (crossed_at list s i i_in ∙ cond-true _ _ _ straight)) ∙ before

  pub crossed-no : (done list : List ℕ) (s i : ℕ) (all : List ℕ) → i < length list → runs_straight next s ≡ false → done ++ crossed_from next s (drop i list) ≡ all →
      done ++ crossed_from next (s + 1) (drop (i + 1) list) ≡ all
  crossed-no done list s i all i_in touches before =
      ap (λ k. done ++ crossed_from next k (drop (i + 1) list)) (sym (one_more s))
      ∙ ap (λ xs. done ++ xs) (sym (crossed_at list s i i_in ∙ cond-false _ _ _ touches)) ∙ before

  pub crossed-more : (done lists : List (List ℕ)) (l : List ℕ) (first e : ℕ) (all : List (List ℕ)) → e < length lists → l ≡ get_or lists e [] →
      done ++ crossed_lists next first (drop e lists) ≡ all →
      (done ++ crossed_from next first l ∷ []) ++ crossed_lists next (first + (length l + 1)) (drop (e + 1) lists) ≡ all
  crossed-more done lists l first e all e_in is before =
      let here : crossed_lists next first (drop e lists) ≡ crossed_from next first l ∷ crossed_lists next (first + (length l + 1)) (drop (e + 1) lists) =
      ap (crossed_lists next first) (drop-cons lists e [] e_in)
      ∙ ap (λ x. crossed_from next first x ∷ crossed_lists next (first + suc (length x)) (drop (suc e) lists)) (sym is)
      ∙ ap₂ (λ k j. crossed_from next first l ∷ crossed_lists next (first + k) (drop j lists)) (one_more (length l)) (one_more e) in
      append_assoc done (crossed_from next first l ∷ []) (crossed_lists next (first + (length l + 1)) (drop (e + 1) lists))
      ∙ ap (λ xs. done ++ xs) (sym here) ∙ before

  -- ---- the darts along the edges

  pub starts-begin : (done list : List ℕ) (first : ℕ) → (done ++ (2 * first) ∷ []) ++ starts_after next first (drop (first - first) list) ≡ done ++ starts_along next first list
  starts-begin done list first =
      let none : first - first ≡ 0 = omega arith in
      append_assoc done ((2 * first) ∷ []) (starts_after next first (drop (first - first) list))
      ∙ ap (λ k. done ++ (2 * first) ∷ starts_after next first (drop k list)) none

  starts_at : (list : List ℕ) (first s : ℕ) → first ≤ s → s < first + length list →
      starts_after next s (drop (s - first) list) ≡ starts_after next s (get_or list (s - first) 0 ∷ drop (s + 1 - first) list)
  starts_at list first s low high =
      let on : suc (s - first) ≡ s + 1 - first = omega (arith, low) in
      ap (starts_after next s) (drop-cons list (s - first) 0 (omega (arith, low, high))) ∙ ap (λ k. starts_after next s (get_or list (s - first) 0 ∷ drop k list)) on

  pub starts-yes : (done list : List ℕ) (first s : ℕ) (all : List ℕ) → first ≤ s → s < first + length list → runs_straight next s ≡ true →
      done ++ starts_after next s (drop (s - first) list) ≡ all →
      ((done ++ (2 * s + 1) ∷ []) ++ (2 * s + 2) ∷ []) ++ starts_after next (s + 1) (drop (s + 1 - first) list) ≡ all
  starts-yes done list first s all low high straight before =
      let rest = starts_after next (s + 1) (drop (s + 1 - first) list) in
      let two : 2 * s + 2 ≡ 2 * suc s = omega arith in
      append_assoc (done ++ (2 * s + 1) ∷ []) ((2 * s + 2) ∷ []) rest ∙ append_assoc done ((2 * s + 1) ∷ []) ((2 * s + 2) ∷ rest)
      ∙ ap₂ (λ z k. done ++ (2 * s + 1) ∷ z ∷ starts_after next k (drop (s + 1 - first) list)) two (sym (one_more s))
      ∙ ap (λ xs. done ++ xs) (sym (starts_at list first s low high ∙ cond-true _ _ _ straight)) ∙ before

  pub starts-no : (done list : List ℕ) (first s : ℕ) (all : List ℕ) → first ≤ s → s < first + length list → runs_straight next s ≡ false →
      done ++ starts_after next s (drop (s - first) list) ≡ all → done ++ starts_after next (s + 1) (drop (s + 1 - first) list) ≡ all
  starts-no done list first s all low high touches before =
      ap (λ k. done ++ starts_after next k (drop (s + 1 - first) list)) (sym (one_more s))
      ∙ ap (λ xs. done ++ xs) (sym (starts_at list first s low high ∙ cond-false _ _ _ touches)) ∙ before

  pub starts-end : (done list : List ℕ) (first s : ℕ) (all : List ℕ) → s ≡ first + length list → done ++ starts_after next s (drop (s - first) list) ≡ all →
      done ++ (2 * (first + length list) + 1) ∷ [] ≡ all
  starts-end done list first s all last before =
      ap (λ k. done ++ (2 * k + 1) ∷ []) (sym last)
      ∙ ap (λ xs. done ++ starts_after next s xs) (sym (drop_of_length-le list {i = s - first} (omega (arith, last)))) ∙ before

  pub starts-more : (done : List ℕ) (lists : List (List ℕ)) (l : List ℕ) (first e : ℕ) (all : List ℕ) → e < length lists → l ≡ get_or lists e [] →
      done ++ starts_of next first (drop e lists) ≡ all →
      (done ++ starts_along next first l) ++ starts_of next (first + (length l + 1)) (drop (e + 1) lists) ≡ all
  starts-more done lists l first e all e_in is before =
      let here : starts_of next first (drop e lists) ≡ starts_along next first l ++ starts_of next (first + (length l + 1)) (drop (e + 1) lists) =
      ap (starts_of next first) (drop-cons lists e [] e_in)
      ∙ ap (λ x. starts_along next first x ++ starts_of next (first + suc (length x)) (drop (suc e) lists)) (sym is)
      ∙ ap₂ (λ k j. starts_along next first l ++ starts_of next (first + k) (drop j lists)) (one_more (length l)) (one_more e) in
      append_assoc done (starts_along next first l) (starts_of next (first + (length l + 1)) (drop (e + 1) lists))
      ∙ ap (λ xs. done ++ xs) (sym here) ∙ before

  -- ---- the turns

  -- the turns of the first darts
  pub record TurnsFirst (starts turns : List ℕ) (d : ℕ) : Type 0 where
    pub size : length turns ≡ d
    pub below : (x : ℕ) → x < d → at turns x < length starts
    pub leads : (x : ℕ) → x < d → at starts (at turns x) ≡ next (at starts x)

  pub turns-more : (count : ℕ) (starts turns places : List ℕ) (d n : ℕ) → AreStarts count next starts → HoldPlaces starts places → d < length starts →
      n ≡ next (get_or starts d 0) → TurnsFirst starts turns d → TurnsFirst starts (turns ++ get_or places n 0 ∷ []) (d + 1)
  turns-more count starts turns places d n are held d_in n_is old =
      let size = old.size in
      let y = are.closed d d_in in
      let new = turns ++ get_or places n 0 ∷ [] in
      let v_is : get_or places n 0 ≡ y.0 = ap (at places) (n_is ∙ sym y.2) ∙ held y.0 y.1 in
      let last : at new d ≡ y.0 = ap (at new) (sym size) ∙ get_or-append_seam turns (get_or places n 0) [] 0 ∙ v_is in
      let before : (x : ℕ) → x < d → at new x ≡ at turns x = λ x low. get_or_append_left turns (get_or places n 0 ∷ []) 0 x (omega (arith, low, size)) in
      record {
        size = let sum = length-append turns (get_or places n 0 ∷ []) in omega (arith, sum, size);
        below = λ x low. elim (cases_eq x d) [
          | inl is ↦ let here = ap (at new) is ∙ last in omega (arith, here, y.1)
          | inr other ↦ let here = before x (omega (arith, low, other)) in let fact = old.below x (omega (arith, low, other)) in omega (arith, here, fact)
        ];
        leads = λ x low. elim (cases_eq x d) [
          | inl is ↦ ap (at starts) (ap (at new) is ∙ last) ∙ y.2 ∙ ap (λ k. next (at starts k)) (sym is)
          | inr other ↦ ap (at starts) (before x (omega (arith, low, other))) ∙ old.leads x (omega (arith, low, other))
        ];
      }
