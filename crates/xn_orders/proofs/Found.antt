-- Lists of which no entry is wrong are orders.
use Rattle.std.proofs.Common.{◌≡◌, ℕ, ◌<◌, inl, inr, true, false, List, length, get_or, sym, ◌∙◌, ap, arith}
use Rattle.std.specs.Prelude.{nat_eq}
use Rattle.std.proofs.lemmas.Bool.{both_ways, cases_Bool, ne_eqb, true_from_ne_false}
use Rattle.std.proofs.lemmas.List.{get_or_default}
use Rattle.std.proofs.lemmas.Map.Keys.{IsDistinct-from_apart}
use Rattle.xn_model.specs.Graph.{Independent, independent}
use Rattle.xn_model.specs.Lists.{at, has}
use Rattle.xn_model.specs.Orders.{IsEdgeList, IsOrders, order_at}
use Rattle.xn_model.proofs.Has.{place_of}
use Rattle.xn_orders.specs.Entries.{IsDependent, IsStray, NoEntry}
use Rattle.xn_orders.proofs.Entered.{edge_below, listed}

-- entries that aren't stray are listed, so they are edges
pub entry_below : (count : ℕ) (edges : List ℕ) (ord : ℕ → List ℕ) → IsEdgeList count edges → NoEntry ord (IsStray edges ord) → (e i : ℕ) → i < length (ord e) → at (ord e) i < count
entry_below count edges ord list none e i low = elim (cases_Bool (has edges (at (ord e) i))) [
  | inl is ↦ edge_below count edges list (at (ord e) i) is
  | inr foreign ↦ absurd (none e i low (inl foreign))
]

module _ (ends : List (ℕ × ℕ)) (edges : List ℕ) (lists : List (List ℕ)) where
  abbrev ord : ℕ → List ℕ
  ord = order_at edges lists

  -- lists of which no entry is stray or dependent are orders
  pub orders_from_entries : IsEdgeList (length ends) edges → NoEntry ord (IsStray edges ord) → NoEntry ord (IsDependent ends ord) → IsOrders ends edges ord
  orders_from_entries list in_order apart = record {
    edge_list = list;
    within = listed edges lists;
    no_repeats = λ e. IsDistinct-from_apart nat_eq (ord e) (distinct_at e);
    independent = λ e f h. apart_at e f (place_of (ord e) f h);
    both_ways = λ e f h. both_at e f (place_of (ord e) f h);
  }
    where
      distinct_at : (e i j d : ℕ) → i < j → j < length (ord e) → nat_eq (get_or (ord e) i d) (get_or (ord e) j d) ≡ false
      distinct_at e i j d low high =
          let first = get_or_default (ord e) i d 0 (omega (arith, low, high)) in
          let second = get_or_default (ord e) j d 0 high in
          ne_eqb _ _ (λ same. in_order e j high (inr (inl (i, low, sym first ∙ same ∙ second))))

      apart_at : (e f : ℕ) → ((i : ℕ) × (i < length (ord e)) × (at (ord e) i ≡ f)) → Independent ends e f
      apart_at e f place = elim (cases_Bool (independent ends e f)) [
        | inl independent_ ↦ independent_
        | inr dependent_ ↦ absurd (apart e place.0 place.1 (λ h. both_ways _ dependent_ (ap (independent ends e) (sym place.2) ∙ h)))
      ]

      both_at : (e f : ℕ) → ((i : ℕ) × (i < length (ord e)) × (at (ord e) i ≡ f)) → has (ord f) e ≡ true
      both_at e f place =
          true_from_ne_false _ (λ missing. in_order e place.0 place.1 (inr (inr (ap (λ x. has (ord x) e) place.2 ∙ missing))))
