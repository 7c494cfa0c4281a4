-- The lists of all edges, and the darts along them, by the numbers of the first segments.
use Rattle.std.proofs.Common.{◌≡◌, ◌≢◌, ℕ, suc, ◌+◌, inl, inr, true, false, List, [], ◌∷◌, ◌++◌, length, refl, sym, ◌∙◌, ap, ap₂, arith}
use Rattle.std.specs.List.{IsDistinct, flat_map}
use Rattle.std.specs.Prelude.{nat_eq}
use Rattle.std.proofs.lemmas.Bool.{both_ways, cases_Bool, cases_eq, cond-true, cond-false, eq-eqb, ne_eqb}
use Rattle.std.proofs.lemmas.List.FromFn.{length-range_with_len}
use Rattle.xn_model.specs.Drawing.{order_of}
use Rattle.xn_model.specs.Graph.{Graph, edges_of}
use Rattle.xn_model.specs.Lists.{has}
use Rattle.xn_model.specs.Orders.{order_at}
use Rattle.xn_model.specs.Web.{first_segment}
use Rattle.xn_model.proofs.Ranges.{edge_list, order_at_outside}
use Rattle.xn_fewer.proofs.Has.{has-first, has-later}
use Rattle.xn_fewer.proofs.Rising.{distinct-rising, rising-from_increasing}
use Rattle.xn_track.proofs.Blocks.{later_in}
use Rattle.xn_track.proofs.Places.{all_not}
use Rattle.xn_simple.specs.Crossed.{crossed_from, crossed_lists, crossed_order, starts_along, starts_of}
use Rattle.xn_simple.specs.Untouched.{starts_in}

pub flat_map-same : (f h : ℕ → List ℕ) (xs : List ℕ) → ((x : ℕ) → has xs x ≡ true → f x ≡ h x) → flat_map f xs ≡ flat_map h xs
flat_map-same f h [] same = refl
flat_map-same f h (x ∷ xs) same = ap₂ (λ a b. a ++ b) (same x (has-first x xs)) (flat_map-same f h xs (λ y y_in. same y (has-later x xs y y_in)))

module _ (next : ℕ → ℕ) where
  pub crossed_lists-length : (s : ℕ) (ls : List (List ℕ)) → length (crossed_lists next s ls) ≡ length ls
  crossed_lists-length s [] = refl
  crossed_lists-length s (l ∷ ls) = ap suc (crossed_lists-length (s + suc (length l)) ls)

  module _ (ord : ℕ → List ℕ) where
    -- the lists are those of the edges
    abbrev pub AreTheirs : List ℕ → List (List ℕ) → Type 0
    AreTheirs xs ls = (x : ℕ) → has xs x ≡ true → order_at xs ls x ≡ ord x

    first_is : (x : ℕ) (xs : List ℕ) (l : List ℕ) (ls : List (List ℕ)) → AreTheirs (x ∷ xs) (l ∷ ls) → l ≡ ord x
    first_is x xs l ls theirs = sym (cond-true _ _ _ (eq-eqb x x refl)) ∙ theirs x (has-first x xs)

    rest_are : (x : ℕ) (xs : List ℕ) (l : List ℕ) (ls : List (List ℕ)) → IsDistinct nat_eq (x ∷ xs) → AreTheirs (x ∷ xs) (l ∷ ls) → AreTheirs xs ls
    unfolding IsDistinct
    rest_are x xs l ls distinct theirs y y_in = sym (cond-false _ _ _ (ne_eqb x y (all_not x xs distinct.0 y y_in))) ∙ theirs y (has-later x xs y y_in)

    past_first : (x : ℕ) (xs : List ℕ) (l : List ℕ) (e s : ℕ) → l ≡ ord x → x ≢ e → s + suc (length l) + first_segment xs ord e ≡ s + first_segment (x ∷ xs) ord e
    past_first x xs l e s is past =
        let on : first_segment (x ∷ xs) ord e ≡ suc (length (ord x)) + first_segment xs ord e = cond-false _ _ _ (ne_eqb x e past) in
        omega (arith, on, ap length is)

    at_first : (x : ℕ) (xs : List ℕ) (e s : ℕ) → x ≡ e → s ≡ s + first_segment (x ∷ xs) ord e
    at_first x xs e s here = let none : first_segment (x ∷ xs) ord e ≡ 0 = cond-true _ _ _ (eq-eqb x e here) in omega (arith, none)

    lists_at : (xs : List ℕ) (ls : List (List ℕ)) → IsDistinct nat_eq xs → length ls ≡ length xs → AreTheirs xs ls → (s e : ℕ) → has xs e ≡ true →
        order_at xs (crossed_lists next s ls) e ≡ crossed_from next (s + first_segment xs ord e) (ord e)
    unfolding IsDistinct
    lists_at [] ls distinct fits theirs s e e_in = absurd (both_ways false refl e_in)
    lists_at (x ∷ xs) [] distinct fits theirs s e e_in = absurd (omega (arith, fits))
    lists_at (x ∷ xs) (l ∷ ls) distinct fits theirs s e e_in =
        let is = first_is x xs l ls theirs in
        elim (cases_eq x e) [
          | inl here ↦ cond-true _ _ _ (eq-eqb x e here) ∙ ap (crossed_from next s) (is ∙ ap ord here) ∙ ap (λ k. crossed_from next k (ord e)) (at_first x xs e s here)
          | inr past ↦
              cond-false _ _ _ (ne_eqb x e past) ∙ lists_at xs ls distinct.1 (omega (arith, fits)) (rest_are x xs l ls distinct theirs) (s + suc (length l)) e (later_in x xs e e_in past)
              ∙ ap (λ k. crossed_from next k (ord e)) (past_first x xs l e s is past)
        ]

    starts_are : (xs : List ℕ) (ls : List (List ℕ)) → IsDistinct nat_eq xs → length ls ≡ length xs → AreTheirs xs ls → (s : ℕ) →
        starts_of next s ls ≡ flat_map (λ e. starts_along next (s + first_segment xs ord e) (ord e)) xs
    unfolding IsDistinct
    starts_are [] [] distinct fits theirs s = refl
    starts_are [] (l ∷ ls) distinct fits theirs s = absurd (omega (arith, fits))
    starts_are (x ∷ xs) [] distinct fits theirs s = absurd (omega (arith, fits))
    starts_are (x ∷ xs) (l ∷ ls) distinct fits theirs s =
        let is = first_is x xs l ls theirs in
        ap₂ (λ a b. a ++ b)
        (ap (starts_along next s) is ∙ ap (λ k. starts_along next k (ord x)) (at_first x xs x s refl))
        (starts_are xs ls distinct.1 (omega (arith, fits)) (rest_are x xs l ls distinct theirs) (s + suc (length l))
        ∙ flat_map-same _ _ xs (λ e e_in. ap (λ k. starts_along next k (ord e)) (past_first x xs l e s is (all_not x xs distinct.0 e e_in))))

module _ (g : Graph) (lists : List (List ℕ)) (fits : length lists ≡ length g.ends) (next : ℕ → ℕ) where
  edges_distinct : IsDistinct nat_eq (edges_of g)
  edges_distinct = distinct-rising (edges_of g) (rising-from_increasing (edges_of g) (edge_list (length g.ends)).rise)

  edges_fit : length lists ≡ length (edges_of g)
  edges_fit = fits ∙ sym (length-range_with_len 0 (length g.ends))

  pub crossed_lists-order : (e : ℕ) → order_of g (crossed_lists next 0 lists) e ≡ crossed_order (edges_of g) (order_of g lists) next e
  crossed_lists-order e = elim (cases_Bool (has (edges_of g) e)) [
    | inl e_in ↦
        let all : 0 + first_segment (edges_of g) (order_of g lists) e ≡ first_segment (edges_of g) (order_of g lists) e = omega arith in
        lists_at next (order_of g lists) (edges_of g) lists edges_distinct edges_fit (λ x x_in. refl) 0 e e_in ∙ ap (λ k. crossed_from next k (order_of g lists e)) all
    | inr out ↦
        order_at_outside (edges_of g) (crossed_lists next 0 lists) e out
        ∙ sym (ap (crossed_from next (first_segment (edges_of g) (order_of g lists) e)) (order_at_outside (edges_of g) lists e out))
  ]

  pub starts_of-is : starts_of next 0 lists ≡ starts_in (edges_of g) (order_of g lists) next
  starts_of-is =
      starts_are next (order_of g lists) (edges_of g) lists edges_distinct edges_fit (λ x x_in. refl) 0
      ∙ flat_map-same _ _ (edges_of g) (λ e e_in.
      let all : 0 + first_segment (edges_of g) (order_of g lists) e ≡ first_segment (edges_of g) (order_of g lists) e = omega arith in
      ap (λ k. starts_along next k (order_of g lists e)) all)
