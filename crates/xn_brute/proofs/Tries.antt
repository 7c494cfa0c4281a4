-- The steps of the search for drawings.
use Rattle.std.proofs.Common.{◌≡◌, ℕ, ◌+◌, ◌-◌, ◌*◌, ◌<◌, ◌≤◌, ◌⊎◌, inl, inr, true, not, List, [], ◌∷◌, ◌++◌, length, get_or, sym, ap, ◌∙◌, subst, arith, length-append, append_assoc}
use Rattle.std.proofs.lemmas.Bool.{and_from, both_ways, cases_Bool, eq-eqb}
use Rattle.std.proofs.lemmas.List.{append-nil, get_or-append-add, get_or_append_left, nil_from_length}
use Rattle.xn_model.specs.Drawing.{IsListedDrawing, drawn_web, order_of}
use Rattle.xn_model.specs.Graph.{Graph}
use Rattle.xn_model.specs.Lists.{at, has, total}
use Rattle.xn_model.specs.Map.{tail_of}
use Rattle.xn_model.proofs.Has.{has-first, place_of}
use Rattle.xn_brute.specs.Found.{AreDrawn, CanCross, CanList, CanTurn, may_lead}
use Rattle.xn_brute.proofs.Drawn.{has-later, low_edge}
use Rattle.xn_brute.proofs.OrdersAt.{order_of-at}

-- ---- rotations

module _ (g : Graph) (lists : List (List ℕ)) (turns : List ℕ) where
  pub turn_none : IsListedDrawing g lists turns → CanTurn g lists turns
  turn_none drawing = record { rest = []; drawing = subst (IsListedDrawing g lists) (sym (append-nil turns)) drawing }

  pub turned_all : 2 * length (drawn_web g lists).ends ≤ length turns → CanTurn g lists turns → IsListedDrawing g lists turns
  turned_all full can =
      let none : can.rest ≡ [] = nil_from_length can.rest (omega (arith, full, can.drawing.next_fits, length-append turns can.rest)) in
      subst (IsListedDrawing g lists) (ap (λ l. turns ++ l) none ∙ append-nil turns) can.drawing

  pub turn_one : (d : ℕ) → CanTurn g lists (turns ++ d ∷ []) → CanTurn g lists turns
  turn_one d can = record { rest = d ∷ can.rest; drawing = subst (IsListedDrawing g lists) (append_assoc turns (d ∷ []) can.rest) can.drawing }

-- the next turn leads to d
pub record LeadsTo (g : Graph) (lists : List (List ℕ)) (turns : List ℕ) (d : ℕ) : Type 0 where
  pub below : d < 2 * length (drawn_web g lists).ends
  pub may : may_lead (drawn_web g lists).ends turns d ≡ true
  pub can : CanTurn g lists (turns ++ d ∷ [])

pub next_turn : (g : Graph) (lists : List (List ℕ)) (turns : List ℕ) → length turns < 2 * length (drawn_web g lists).ends → CanTurn g lists turns → (d : ℕ) × LeadsTo g lists turns d
next_turn g lists turns lacks can = go can.rest can.drawing where
  go : (rest : List ℕ) → IsListedDrawing g lists (turns ++ rest) → (d : ℕ) × LeadsTo g lists turns d
  go [] drawing = absurd (omega (arith, lacks, drawing.next_fits, length-append turns []))
  go (d ∷ rest) drawing =
      let web = drawn_web g lists in
      let n : ℕ = 2 * length web.ends in
      let place = length turns in
      let map_is = drawing.drawing.is_flat_map.is_map in
      let is : at (turns ++ d ∷ rest) place ≡ d =
      ap (λ i. at (turns ++ d ∷ rest) i) (let z : place ≡ place + 0 = omega arith in z) ∙ get_or-append-add turns (d ∷ rest) 0 0 in
      let stays : tail_of web.ends d ≡ tail_of web.ends place = ap (tail_of web.ends) (sym is) ∙ map_is.same_node place lacks in
      let new : not (has turns d) ≡ true = elim (cases_Bool (has turns d)) [
        | inr out ↦ ap not out
        | inl old ↦
            let p = place_of turns d old in
            let there : at (turns ++ d ∷ rest) p.0 ≡ d = get_or_append_left turns (d ∷ rest) 0 p.0 p.1 ∙ p.2 in
            let meets : p.0 ≡ place = map_is.permutes.apart p.0 place (omega (arith, p.1, lacks)) lacks (there ∙ sym is) in
            absurd (omega (arith, meets, p.1))
      ] in (
        d,
        record {
          below = omega (arith, is, map_is.permutes.below place lacks);
          may = and_from _ _ (eq-eqb _ _ stays) new;
          can = record { rest = rest; drawing = subst (IsListedDrawing g lists) (sym (append_assoc turns (d ∷ []) rest)) drawing };
        },
      )

-- ---- orders

module _ (g : Graph) (k left : ℕ) (lists : List (List ℕ)) where
  pub list_none : AreDrawn g k lists → CanList g k left lists
  list_none drawn = record { rest = []; few = omega arith; drawn = subst (AreDrawn g k) (sym (append-nil lists)) drawn }

  pub listed_all : length g.ends ≤ length lists → CanList g k left lists → AreDrawn g k lists
  listed_all full can =
      let none : can.rest ≡ [] = nil_from_length can.rest (omega (arith, full, can.drawn.drawing.lists_fit, length-append lists can.rest)) in
      subst (AreDrawn g k) (ap (λ (l : List (List ℕ)). lists ++ l) none ∙ append-nil lists) can.drawn

  pub list_from_cross : CanCross g k left lists [] → CanList g k left lists
  list_from_cross can = record { rest = can.more ∷ can.rest; few = can.few; drawn = can.drawn }

  pub cross_from_list : length lists < length g.ends → CanList g k left lists → CanCross g k left lists []
  cross_from_list lacks can = go can.rest can.few can.drawn where
    go : (rest : List (List ℕ)) → total length rest ≤ left → AreDrawn g k (lists ++ rest) → CanCross g k left lists []
    go [] few drawn = let none : List (List ℕ) = [] in absurd (omega (arith, lacks, drawn.drawing.lists_fit, length-append lists none))
    go (l ∷ rest) few drawn = record { more = l; rest = rest; few = few; drawn = drawn }

  pub cross_from_ended : (list : List ℕ) → CanList g k left (lists ++ list ∷ []) → CanCross g k left lists list
  cross_from_ended list can =
      let whole : lists ++ (list ++ []) ∷ can.rest ≡ (lists ++ list ∷ []) ++ can.rest =
      ap (λ (l : List ℕ). lists ++ l ∷ can.rest) (append-nil list) ∙ sym (append_assoc lists (list ∷ []) can.rest) in
      record { more = []; rest = can.rest; few = omega (arith, can.few); drawn = subst (AreDrawn g k) (sym whole) can.drawn }

  pub cross_from_one : (list : List ℕ) (f : ℕ) → 0 < left → CanCross g k (left - 1) lists (list ++ f ∷ []) → CanCross g k left lists list
  cross_from_one list f some can = record {
    more = f ∷ can.more;
    rest = can.rest;
    few = omega (arith, can.few, some);
    drawn = subst (λ (l : List ℕ). AreDrawn g k (lists ++ l ∷ can.rest)) (append_assoc list (f ∷ []) can.more) can.drawn;
  }

  -- the list ends here, or goes on with an edge
  pub record GoesOn (list : List ℕ) (f : ℕ) : Type 0 where
    pub below : f < length g.ends
    pub some : 0 < left
    pub can : CanCross g k (left - 1) lists (list ++ f ∷ [])

has-middle : (xs : List ℕ) (y : ℕ) (ys : List ℕ) → has (xs ++ y ∷ ys) y ≡ true
has-middle [] y ys = has-first y ys
has-middle (x ∷ xs) y ys = has-later x y (xs ++ y ∷ ys) (has-middle xs y ys)

pub ways_on : (g : Graph) (k left : ℕ) (lists : List (List ℕ)) (list : List ℕ) → length lists < length g.ends → CanCross g k left lists list →
    CanList g k left (lists ++ list ∷ []) ⊎ ((f : ℕ) × GoesOn g k left lists list f)
ways_on g k left lists list lacks can = go can.more can.few can.drawn where
  go : (more : List ℕ) → length more + total length can.rest ≤ left → AreDrawn g k (lists ++ (list ++ more) ∷ can.rest) → CanList g k left (lists ++ list ∷ []) ⊎ ((f : ℕ) × GoesOn g k left lists list f)
  go [] few drawn =
      let whole : lists ++ (list ++ []) ∷ can.rest ≡ (lists ++ list ∷ []) ++ can.rest =
      ap (λ (l : List ℕ). lists ++ l ∷ can.rest) (append-nil list) ∙ sym (append_assoc lists (list ∷ []) can.rest) in
      inl (record { rest = can.rest; few = omega (arith, few); drawn = subst (AreDrawn g k) whole drawn })
  go (f ∷ more) few drawn =
      let all = lists ++ (list ++ f ∷ more) ∷ can.rest in
      let e = length lists in
      let here : order_of g all e ≡ list ++ f ∷ more =
      order_of-at (length g.ends) all e lacks ∙ ap (λ i. get_or all i []) (let z : e ≡ e + 0 = omega arith in z) ∙ get_or-append-add lists ((list ++ f ∷ more) ∷ can.rest) 0 [] in
      let stands : has (order_of g all e) f ≡ true = ap (λ (l : List ℕ). has l f) here ∙ has-middle list f more in
      inr (
        f,
        record {
          below = low_edge g all f e (drawn.drawing.drawing.orders.both_ways e f stands);
          some = omega (arith, few);
          can = record {
            more = more;
            rest = can.rest;
            few = omega (arith, few);
            drawn = subst (λ (l : List ℕ). AreDrawn g k (lists ++ l ∷ can.rest)) (sym (append_assoc list (f ∷ []) more)) drawn;
          };
        },
      )
