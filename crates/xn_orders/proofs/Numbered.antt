-- Each crossing along an edge has a number.
use Rattle.std.proofs.Common.{◌≡◌, ℕ, zero, suc, ◌<◌, inl, inr, true, eqb, List, [], ◌∷◌, length, get_or, not, refl, ◌∙◌, ap, arith}
use Rattle.std.specs.Prelude.{All}
use Rattle.std.proofs.lemmas.Bool.{and_parts, both_ways, cases_lt, cond-true, cond-false, eq-eqb, le-ltb, lt-ltb, or_left, or_right}
use Rattle.xn_model.specs.Graph.{Independent, ends_at, independent, touches}
use Rattle.xn_model.specs.Lists.{has}
use Rattle.xn_model.specs.Orders.{IsOrders, crossings_of}
use Rattle.xn_orders.specs.Crossed.{AreMutual, crosses_in}
use Rattle.xn_orders.proofs.CrossingLists.{is_crossing}

-- an entry stands in its list
pub has-get_or : (xs : List ℕ) (k d : ℕ) → k < length xs → has xs (get_or xs k d) ≡ true
has-get_or [] k d low = absurd (omega (arith, low))
has-get_or (x ∷ xs) zero d low = or_left (eqb x x) (has xs x) (eq-eqb x x refl)
has-get_or (x ∷ xs) (suc k) d low = or_right (eqb x (get_or xs k d)) (has xs (get_or xs k d)) (has-get_or xs k d (omega (arith, low)))

-- no edge is independent of itself
pub not_itself : (ends : List (ℕ × ℕ)) (e f : ℕ) → Independent ends e f → e ≡ f → ⊥
not_itself ends e f apart same =
    let p = ends_at ends e in
    let meets : touches p p.0 ≡ true = or_left (eqb p.0 p.0) (eqb p.1 p.0) (eq-eqb p.0 p.0 refl) in
    let itself : independent ends e e ≡ true = ap (independent ends e) same ∙ apart in
    let both : (not (touches p p.0) ≡ true) × (not (touches p p.1) ≡ true) = and_parts _ _ itself in
    both_ways _ (ap not meets) both.0

module _ (ends : List (ℕ × ℕ)) (edges : List ℕ) (ord : ℕ → List ℕ) (orders : IsOrders ends edges ord) where
  pub mutual_of : AreMutual edges ord
  mutual_of = record {
    rise = orders.edge_list.rise;
    within = orders.within;
    no_repeats = orders.no_repeats;
    both_ways = orders.both_ways;
  }

  pub crosses_in-entry : (e f : ℕ) → has (ord e) f ≡ true → crosses_in (crossings_of edges ord) e f ≡ true
  crosses_in-entry e f crosses = elim (cases_lt e f) [
    | inl below ↦ cond-true _ _ _ (lt-ltb e f below) ∙ is_crossing edges ord mutual_of e f below crosses
    | inr above ↦
        let other = not_itself ends e f (orders.independent e f crosses) in
        let below : f < e = omega (arith, above, other) in
        cond-false _ _ _ (le-ltb e f above) ∙ is_crossing edges ord mutual_of f e below (orders.both_ways e f crosses)
  ]

  -- the crossings along an edge are numbered
  pub all_numbered : (e : ℕ) → All (λ f. crosses_in (crossings_of edges ord) e f ≡ true) (ord e)
  all_numbered e k d low = crosses_in-entry e (get_or (ord e) k d) (has-get_or (ord e) k d low)
