-- A search in depth, as it grows by a node.
use Rattle.std.proofs.Common.{◌≡◌, ◌≢◌, ℕ, zero, suc, ◌+◌, ◌<◌, ◌≤◌, ◌⊎◌, inl, inr, true, eqb, List, [], ◌∷◌, length, refl, sym, ◌∙◌, ap, subst, arith}
use Rattle.std.specs.List.{list_any}
use Rattle.std.proofs.lemmas.Bool.{cases_eq, cases_lt, eq-eqb, or_left, or_right}
use Rattle.std.proofs.lemmas.List.{get_or-set_other, get_or-set_same, get_or_append_left, get_or_at, length-append, length-set}
use Rattle.std.proofs.lemmas.Map.Steps.{le-length_from_below}
use Rattle.xn_model.specs.Graph.{Graph}
use Rattle.xn_model.specs.Lists.{at}
use Rattle.xn_model.specs.Permutation.{iterate}
use Rattle.xn_model.proofs.Decide.{iterate-step}
use Rattle.xn_blocks.specs.Search.{Above, IsLinked}
use Rattle.xn_blocks.specs.Growth.{AllDone, AreFound, IsAt, IsDone, IsFound, KeepsFound, Lists, far_end_at, with_node}

any_at : (xs : List ℕ) (i q : ℕ) → i < length xs → at xs i ≡ q → list_any (eqb q) xs ≡ true
any_at [] i q below is = absurd (omega (arith, below))
any_at (x ∷ xs) zero q below is = or_left (eqb q x) (list_any (eqb q) xs) (eq-eqb q x (sym is))
any_at (x ∷ xs) (suc i) q below is = or_right (eqb q x) (list_any (eqb q) xs) (any_at xs i q (omega (arith, below)) is)

-- ---- one more node

module _ (web : Graph) (s : Lists) (found : AreFound web s) (w p : ℕ) (w_in : w < web.nodes) (new : web.nodes ≤ at s.number w)
    (fits : (p ≡ w) ⊎ (IsFound web s p × IsLinked web.ends w p)) where
  abbrev t : Lists
  t = with_node s w p

  abbrev n : ℕ
  n = length s.order

  number_new : at t.number w ≡ n
  number_new = get_or-set_same s.number w n 0 (omega (arith, w_in, found.numbers))

  number_old : (v : ℕ) → v ≢ w → at t.number v ≡ at s.number v
  number_old v other = get_or-set_other s.number w v n 0 other

  parent_new : at t.parent w ≡ p
  parent_new = get_or-set_same s.parent w p 0 (omega (arith, w_in, found.parents))

  parent_old : (v : ℕ) → v ≢ w → at t.parent v ≡ at s.parent v
  parent_old v other = get_or-set_other s.parent w v p 0 other

  order_new : at t.order n ≡ w
  order_new = get_or_at s.order w [] 0 n refl

  order_old : (i : ℕ) → i < n → at t.order i ≡ at s.order i
  order_old i low = get_or_append_left s.order (w ∷ []) 0 i low

  longer : length t.order ≡ n + 1
  longer = length-append s.order (w ∷ [])

  apart : (v : ℕ) → IsFound web s v → v ≢ w
  apart v v_found same = omega (arith, v_found.1, new, ap (at s.number) same)

  -- there is room for it
  pub few : n < web.nodes
  few =
      let size : length t.number ≡ web.nodes = length-set s.number w n ∙ found.numbers in
      let all : (q : ℕ) → q < suc n → list_any (eqb q) t.number ≡ true = λ q low. elim (cases_lt q n) [
        | inl old ↦
            let place = found.placed q old in
            let u = at s.order q in
            let other : u ≢ w = λ same. omega (arith, few_old q old, ap (at s.number) same, new, place.1) in
            any_at t.number u q (omega (arith, place.0, size)) (number_old u other ∙ place.1)
        | inr last ↦
            let here : n ≡ q = omega arith in
            any_at t.number w q (omega (arith, w_in, size)) (number_new ∙ here)
      ] in
      omega (arith, le-length_from_below t.number (suc n) all, size)
    where
      few_old : (q : ℕ) → q < n → q < web.nodes
      few_old q low =
          let all : (r : ℕ) → r < n → list_any (eqb r) s.number ≡ true = λ r r_low.
          let place = found.placed r r_low in
          any_at s.number (at s.order r) r (omega (arith, place.0, found.numbers)) place.1 in
          omega (arith, low, le-length_from_below s.number n all, found.numbers)

  new_found : IsFound web t w
  new_found = (w_in, omega (arith, number_new, few))

  still_found : (v : ℕ) → IsFound web s v → IsFound web t v
  still_found v v_found = (v_found.0, omega (arith, v_found.1, number_old v (apart v v_found)))

  was_found : (v : ℕ) → IsFound web t v → v ≢ w → IsFound web s v
  was_found v v_found other = (v_found.0, omega (arith, v_found.1, number_old v other))

  iterate_old : (k v : ℕ) → IsFound web s v → (iterate (at t.parent) k v ≡ iterate (at s.parent) k v) × IsFound web s (iterate (at s.parent) k v)
  iterate_old zero v v_found = (refl, v_found)
  iterate_old (suc k) v v_found =
      let before = iterate_old k v v_found in
      let c = iterate (at s.parent) k v in
      (ap (at t.parent) before.0 ∙ parent_old c (apart c before.1), found.parent_found c before.1)

  above_old : (a v : ℕ) → IsFound web s v → Above (at s.parent) a v → Above (at t.parent) a v
  above_old a v v_found up = (up.0, (iterate_old up.0 v v_found).0 ∙ up.1)

  p_found : IsFound web t p
  p_found = elim fits [
    | inl same ↦ subst (λ z. IsFound web t z) (sym same) new_found
    | inr other ↦ still_found p other.0
  ]

  pub found_more : AreFound web t
  found_more = record {
    parents = length-set s.parent w p ∙ found.parents;
    numbers = length-set s.number w n ∙ found.numbers;
    nexts = found.nexts;
    placed = λ i low. elim (cases_lt i n) [
      | inl old ↦
          let place = found.placed i old in
          let u = at s.order i in
          let other : u ≢ w = λ same. omega (arith, old, few, ap (at s.number) same, new, place.1) in
          let is = order_old i old in
          (omega (arith, place.0, is), ap (at t.number) is ∙ number_old u other ∙ place.1)
      | inr last ↦
          let here : i ≡ n = omega (arith, low, longer) in
          let is : at t.order i ≡ w = ap (at t.order) here ∙ order_new in
          (omega (arith, is, w_in), ap (at t.number) is ∙ number_new ∙ sym here)
    ];
    listed = λ v v_found. elim (cases_eq v w) [
      | inl same ↦
          let num : at t.number v ≡ n = ap (at t.number) same ∙ number_new in
          (omega (arith, num, longer), ap (at t.order) num ∙ order_new ∙ sym same)
      | inr other ↦
          let old = found.listed v (was_found v v_found other) in
          let num = number_old v other in
          (omega (arith, num, old.0, longer), ap (at t.order) num ∙ order_old (at s.number v) old.0 ∙ old.1)
    ];
    parent_found = λ v v_found. elim (cases_eq v w) [
      | inl same ↦ subst (λ z. IsFound web t z) (sym (ap (at t.parent) same ∙ parent_new)) p_found
      | inr other ↦ subst (λ z. IsFound web t z) (sym (parent_old v other)) (still_found (at s.parent v) (found.parent_found v (was_found v v_found other)))
    ];
    linked = λ v v_found up. elim (cases_eq v w) [
      | inl same ↦
          let is : at t.parent v ≡ p = ap (at t.parent) same ∙ parent_new in
          elim fits [
            | inl root ↦ absurd (up (is ∙ root ∙ sym same))
            | inr link ↦ subst (λ z. IsLinked web.ends v z) (sym is) (subst (λ z. IsLinked web.ends z p) (sym same) link.1)
          ]
      | inr other ↦
          let is = parent_old v other in
          subst (λ z. IsLinked web.ends v z) (sym is) (found.linked v (was_found v v_found other) (λ root. up (is ∙ root)))
    ];
    earlier = λ v v_found up. elim (cases_eq v w) [
      | inl same ↦
          let is : at t.parent v ≡ p = ap (at t.parent) same ∙ parent_new in
          elim fits [
            | inl root ↦ absurd (up (is ∙ root ∙ sym same))
            | inr link ↦ omega (arith, (found.listed p link.0).0, ap (at t.number) is, number_old p (apart p link.0), ap (at t.number) same, number_new)
          ]
      | inr other ↦
          let is = parent_old v other in
          let old = was_found v v_found other in
          let u = at s.parent v in
          omega (arith, found.earlier v old (λ root. up (is ∙ root)), ap (at t.number) is, number_old u (apart u (found.parent_found v old)), number_old v other)
    ];
    tried = found.tried;
    untried = λ v v_in far. elim (cases_eq v w) [
      | inl same ↦ absurd (omega (arith, far, ap (at t.number) same, number_new, few))
      | inr other ↦ found.untried v v_in (omega (arith, far, number_old v other))
    ];
    compared = λ v i v_found low. elim (cases_eq v w) [
      | inl same ↦ absurd (omega (arith, low, ap (at s.next) same, found.untried w w_in new))
      | inr other ↦
          let old = was_found v v_found other in
          let u = far_end_at web v i in
          let both = found.compared v i old low in
          (still_found u both.0, elim both.1 [ inl up ↦ inl (above_old v u both.0 up) | inr up ↦ inr (above_old u v old up) ])
    ];
  }

  -- the search stands at the new node, if it was over before
  pub at_root : AllDone web s → IsAt web t w
  at_root done = record {
    found = found_more;
    here = new_found;
    rest = λ u u_found. elim (cases_eq u w) [
      | inl same ↦ inr (0, sym same)
      | inr other ↦ inl (done u (was_found u u_found other))
    ];
  }

  -- or stood at its parent
  pub at_child : IsFound web s p → ((u : ℕ) → IsFound web s u → IsDone web s u ⊎ Above (at s.parent) u p) → IsAt web t w
  at_child here rest = record {
    found = found_more;
    here = new_found;
    rest = λ u u_found. elim (cases_eq u w) [
      | inl same ↦ inr (0, sym same)
      | inr other ↦ elim (rest u (was_found u u_found other)) [
        | inl done ↦ inl done
        | inr up ↦
            let above = above_old u p here up in
            inr (suc above.0, sym (iterate-step (at t.parent) above.0 w) ∙ ap (iterate (at t.parent) above.0) parent_new ∙ above.1)
      ]
    ];
  }

  pub keeps_found : KeepsFound web s t
  keeps_found = still_found

  pub found_now : IsFound web t w
  found_now = new_found

  pub parent_now : at t.parent w ≡ p
  parent_now = parent_new
