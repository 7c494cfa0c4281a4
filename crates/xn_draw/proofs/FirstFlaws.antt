-- Edges that first touch by the places in the lists are the first that touch.
use Rattle.std.proofs.Common.{◌≡◌, ℕ, zero, suc, ◌+◌, ◌*◌, ◌<◌, ◌≤◌, inl, inr, false, true, eqb, List, [], ◌∷◌, length, refl, sym, ◌∙◌, ap, subst, arith, ◌⊎◌}
use Rattle.std.proofs.lemmas.Bool.{cases_eq, eq-eqb}
use Rattle.std.proofs.lemmas.Map.Keys.{IsDistinct-tail, apart_from_distinct}
use Rattle.xn_model.specs.Drawing.{CrossesAt, IsListedDrawing, drawn_web, order_of}
use Rattle.xn_model.specs.Map.{MeetsEuler}
use Rattle.xn_model.specs.Graph.{Graph, edges_of}
use Rattle.xn_model.specs.Lists.{at, has, position_in}
use Rattle.xn_model.specs.Web.{first_segment}
use Rattle.std.specs.List.{IsDistinct, range_with_len}
use Rattle.std.specs.Prelude.{nat_eq}
use Rattle.xn_orders.specs.Entries.{list_of}
use Rattle.xn_orders.proofs.AllEdges.{order_of-at, order_of-same}
use Rattle.xn_orders.proofs.Numbered.{has-get_or}
use Rattle.xn_model.proofs.Has.{place_of}
use Rattle.xn_draw.specs.Flaws.{HasCrossings, HasMap, IsFirstTouch, IsTouch}
use Rattle.xn_draw.specs.Touches.{NoTouch, TurnsOn, TouchesAt, TouchesFirst, first_of}
use Rattle.xn_draw.proofs.Totals.{segment_count}

position_in-at : (xs : List ℕ) (i : ℕ) → IsDistinct nat_eq xs → i < length xs → position_in xs (at xs i) ≡ i
position_in-at [] i distinct low = absurd (omega (arith, low))
position_in-at (x ∷ xs) zero distinct low = rw (eq-eqb x x refl) refl
position_in-at (x ∷ xs) (suc i) distinct low =
    let other : eqb x (at xs i) ≡ false = apart_from_distinct nat_eq (x ∷ xs) 0 (suc i) 0 distinct (omega arith) low in
    rw other (ap suc (position_in-at xs i (IsDistinct-tail nat_eq x xs distinct) (omega (arith, low))))

module _ (g : Graph) (lists : List (List ℕ)) (next : List ℕ) (has_map : HasMap g lists next) where
  fits : length lists ≡ length g.ends
  fits = has_map.has_orders.lengths.lists_fit

  -- the segment before a crossing, by the place in the list
  before_is : (e f i : ℕ) → i < length (list_of lists e) → at (list_of lists e) i ≡ f → first_segment (edges_of g) (order_of g lists) e + position_in (order_of g lists e) f ≡ first_of lists e + i
  before_is e f i low here =
      let same = order_of-at g lists fits e in
      let distinct = subst (IsDistinct nat_eq) same (has_map.has_orders.orders.no_repeats e) in
      let first = ap (λ ord. first_segment (edges_of g) ord e) (order_of-same g lists fits) ∙ ap (λ n. first_segment (range_with_len 0 n) (list_of lists) e) (sym fits) in
      let place = ap (λ l. position_in l f) same ∙ ap (position_in (list_of lists e)) (sym here) ∙ position_in-at (list_of lists e) i distinct low in
      omega (arith, first, place)

  place_in : (e f : ℕ) → has (order_of g lists e) f ≡ true → (i : ℕ) × (i < length (list_of lists e)) × (at (list_of lists e) i ≡ f)
  place_in e f h = place_of (list_of lists e) f (sym (ap (λ l. has l f) (order_of-at g lists fits e)) ∙ h)

  -- edges that touch nowhere cross
  pub all_cross : NoTouch lists (at next) → HasCrossings g lists next
  all_cross none = record { has_map = has_map; crosses = crosses_at }
    where
      crosses_at : (e f : ℕ) → e < f → has (order_of g lists e) f ≡ true → CrossesAt (edges_of g) (order_of g lists) (at next) e f
      crosses_at e f below h =
          let place = place_in e f h in
          let before = before_is e f place.0 place.1 place.2 in
          let s = first_of lists e + place.0 in
          elim (cases_eq (at next (at next (2 * s + 1))) (2 * (s + 1))) [
            | inl straight ↦ subst (TurnsOn (at next)) (sym before) straight
            | inr bent ↦ absurd (none e place.0 place.1 (omega (arith, below, place.2), bent))
          ]

  touch_at : (e f i : ℕ) → i < length (list_of lists e) → at (list_of lists e) i ≡ f → ¬ (CrossesAt (edges_of g) (order_of g lists) (at next) e f) → ¬ (TurnsOn (at next) (first_of lists e + i))
  touch_at e f i low here touch straight = touch (subst (TurnsOn (at next)) (sym (before_is e f i low here)) straight)

  -- the first touch by the places in the lists is the first
  pub first_touch : (e f : ℕ) → TouchesFirst lists (at next) e f → IsFirstTouch g lists next e f
  first_touch e f named =
      let i = named.0.0.0 in
      let low = named.0.0.1 in
      let touches = named.0.0.2 in
      let here = named.0.0.3 in
      record {
        here = (
          omega (arith, touches.0, here),
          ap (λ l. has l f) (order_of-at g lists fits e) ∙ sym (ap (has (list_of lists e)) here) ∙ has-get_or (list_of lists e) i 0 low,
          λ crosses. touches.1 (subst (TurnsOn (at next)) (before_is e f i low here) crosses),
        );
        before = none_before;
      }
    where
      none_before : (a b : ℕ) → ((a < e) ⊎ ((a ≡ e) × (b < f))) → ¬ (IsTouch g lists next a b)
      none_before a b earlier touch =
          let place = place_in a b touch.1 in
          let bent = touch_at a b place.0 place.1 place.2 touch.2 in
          let above : a < at (list_of lists a) place.0 = omega (arith, touch.0, place.2) in
          elim earlier [
            | inl smaller ↦ named.1 a smaller place.0 place.1 (above, bent)
            | inr same ↦
                let least : ℕ → Type 0 = λ x. (i : ℕ) → i < length (list_of lists x) → TouchesAt (list_of lists x) (at next) x (first_of lists x) i → f ≤ at (list_of lists x) i in
                let at_a = subst least (sym same.0) named.0.1 place.0 place.1 (above, bent) in
                absurd (omega (arith, at_a, place.2, same.1))
          ]

-- a drawing, once its map is flat
pub drawn : (g : Graph) (lists : List (List ℕ)) (next : List ℕ) → HasCrossings g lists next →
    MeetsEuler (drawn_web g lists).nodes (drawn_web g lists).ends (at next) → IsListedDrawing g lists next
drawn g lists next cross flat =
    let lengths = cross.has_map.has_orders.lengths in
    record {
      lists_fit = lengths.lists_fit;
      next_fits = omega (arith, lengths.next_fits, segment_count g lists lengths.lists_fit);
      drawing = record {
        orders = cross.has_map.has_orders.orders;
        is_flat_map = record { is_map = cross.has_map.is_map; flat = flat };
        crosses = cross.crosses;
      };
    }
