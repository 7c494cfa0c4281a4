-- Lists of a list of edges are orders over them, or have one first flaw.
use Rattle.std.proofs.Common.{◌≡◌, ℕ, ◌<◌, ◌⊎◌, inl, inr, List, length, refl, sym, ◌∙◌, ap, subst}
use Rattle.std.specs.Prelude.{MatchOption, Option, nat_eq}
use Rattle.std.proofs.lemmas.Bool.{both_ways, cases_Bool, cases_eq, cases_order, eq-eqb}
use Rattle.std.proofs.lemmas.Map.Keys.{apart_from_distinct}
use Rattle.xn_model.specs.First.{IsFirst}
use Rattle.xn_model.specs.Graph.{independent}
use Rattle.xn_model.specs.Lists.{at, has}
use Rattle.xn_model.specs.Orders.{IsEdgeList, IsOrders, order_at}
use Rattle.xn_orders.specs.Entries.{IsDependent, IsFirstOf, IsOrdersFlaw, IsStray, NamesFirst, NoEntry, NoEntryOf}
use Rattle.xn_orders.specs.declared.flaws.OrdersFlaw.{OrdersFlaw}
use Rattle.xn_orders.specs.declared.flaws.OrdersFlaw.TheVariants.{Stray, Dependent}
use Rattle.xn_orders.proofs.Entered.{edge_below, listed}
use Rattle.xn_orders.proofs.First.{Decided, first_same, first_so}
use Rattle.xn_orders.proofs.Found.{orders_from_entries}
use Rattle.xn_orders.proofs.Numbered.{has-get_or}

-- ---- the first wrong entry

module _ (ord : ℕ → List ℕ) (Wrong : ℕ → ℕ → Type 0) (decide : (e i : ℕ) → Decided (Wrong e i)) where
  -- the list of e has a first wrong entry
  abbrev HasWrong : ℕ → Type 0
  HasWrong e = (i : ℕ) × (i < length (ord e)) × IsFirst (Wrong e) i

  entry_cases : (e : ℕ) → HasWrong e ⊎ NoEntryOf ord Wrong e
  entry_cases e = first_so (Wrong e) (length (ord e)) (λ i low. decide e i)

  none_of : (e : ℕ) → ¬ (HasWrong e) → NoEntryOf ord Wrong e
  none_of e away = elim (entry_cases e) [ inl found ↦ absurd (away found) | inr none ↦ none ]

  decide_wrong : (e : ℕ) → Decided (HasWrong e)
  decide_wrong e = elim (entry_cases e) [ inl found ↦ inl found | inr none ↦ inr (λ found. none found.0 found.1 found.2.here) ]

  pub first_entry : (n : ℕ) → ((e : ℕ) × (f : ℕ) × NamesFirst ord Wrong e f) ⊎ ((e : ℕ) → e < n → NoEntryOf ord Wrong e)
  first_entry n = elim (first_so HasWrong n (λ e low. decide_wrong e)) [
    | inl found ↦
        let e = found.0 in
        let here = found.2.here in
        inl (e, at (ord e) here.0, ((here.0, here.1, here.2, refl), λ d below. none_of d (found.2.before d below)))
    | inr none ↦ inr (λ e low. none_of e (none e low))
  ]

decide_stray : (edges : List ℕ) (ord : ℕ → List ℕ) (e i : ℕ) → Decided (IsStray edges ord e i)
decide_stray edges ord e i =
    let f = at (ord e) i in
    elim (cases_Bool (has edges f)) [
      | inr foreign ↦ inl (inl foreign)
      | inl known ↦ elim (first_so (λ j. at (ord e) j ≡ f) i (λ j below. cases_eq (at (ord e) j) f)) [
        | inl twice ↦ inl (inr (inl (twice.0, twice.1, twice.2.here)))
        | inr once ↦ elim (cases_Bool (has (ord f) e)) [
          | inr missing ↦ inl (inr (inr missing))
          | inl back ↦ inr (λ wrong. elim wrong [
            | inl foreign ↦ both_ways _ foreign known
            | inr (inl twice) ↦ once twice.0 twice.1 twice.2
            | inr (inr missing) ↦ both_ways _ missing back
          ])
        ]
      ]
    ]

decide_dependent : (ends : List (ℕ × ℕ)) (ord : ℕ → List ℕ) (e i : ℕ) → Decided (IsDependent ends ord e i)
decide_dependent ends ord e i = elim (cases_Bool (independent ends e (at (ord e) i))) [
  | inl apart ↦ inr (λ dependent_. dependent_ apart)
  | inr near ↦ inl (λ apart. both_ways _ near apart)
]

module _ (ends : List (ℕ × ℕ)) (edges : List ℕ) (lists : List (List ℕ)) (list : IsEdgeList (length ends) edges) where
  abbrev ord : ℕ → List ℕ
  ord = order_at edges lists

  -- only edges have entries
  none_past : (Wrong : ℕ → ℕ → Type 0) → ((e : ℕ) → e < length ends → NoEntryOf ord Wrong e) → NoEntry ord Wrong
  none_past Wrong right e i low wrong =
      let is = listed edges lists e (at (ord e) i) (has-get_or (ord e) i 0 low) in
      right e (edge_below (length ends) edges list e is) i low wrong

  abbrev Ended : Type 0
  Ended = IsOrders ends edges ord ⊎ ((x : OrdersFlaw) × IsOrdersFlaw ends edges ord x)

  from_order : NoEntry ord (IsStray edges ord) → Ended
  from_order right = elim (first_entry ord (IsDependent ends ord) (decide_dependent ends ord) (length ends)) [
    | inl named ↦ inr (Dependent named.0 named.1, (right, named.2))
    | inr none ↦ inl (orders_from_entries ends edges lists list right (none_past (IsDependent ends ord) none))
  ]

  pub orders_or_flaw : Ended
  orders_or_flaw = elim (first_entry ord (IsStray edges ord) (decide_stray edges ord) (length ends)) [
    | inl named ↦ inr (Stray named.0 named.1, named.2)
    | inr none ↦ from_order (none_past (IsStray edges ord) none)
  ]

-- what was found of a copy of the edges
pub found_of_copy : (ends : List (ℕ × ℕ)) (lists : List (List ℕ)) (copy edges : List ℕ) → copy ≡ edges → (flaw known : Option OrdersFlaw) → flaw ≡ known →
    MatchOption flaw (IsOrders ends copy (order_at copy lists)) (IsOrdersFlaw ends copy (order_at copy lists)) →
    MatchOption known (IsOrders ends edges (order_at edges lists)) (IsOrdersFlaw ends edges (order_at edges lists))
found_of_copy ends lists copy edges same flaw known is found =
    let P : List ℕ → Type 0 = λ es. MatchOption flaw (IsOrders ends es (order_at es lists)) (IsOrdersFlaw ends es (order_at es lists)) in
    let Q : Option OrdersFlaw → Type 0 = λ x. MatchOption x (IsOrders ends edges (order_at edges lists)) (IsOrdersFlaw ends edges (order_at edges lists)) in
    subst Q is (subst P same found)

-- ---- orders have no flaw

-- a first wrong entry is one
pub wrong_entry : (ord : ℕ → List ℕ) (Wrong : ℕ → ℕ → Type 0) (e f : ℕ) → NamesFirst ord Wrong e f → NoEntry ord Wrong → ⊥
wrong_entry ord Wrong e f named none = let first = named.0 in none e first.0 first.1 first.2.here

module _ (ends : List (ℕ × ℕ)) (edges : List ℕ) (ord : ℕ → List ℕ) where
  pub no_stray : IsOrders ends edges ord → NoEntry ord (IsStray edges ord)
  no_stray orders e i low wrong =
      let f = at (ord e) i in
      let back = orders.both_ways e f (has-get_or (ord e) i 0 low) in
      elim wrong [
        | inl foreign ↦ both_ways _ foreign (orders.within f e back)
        | inr (inl twice) ↦ both_ways _ (apart_from_distinct nat_eq (ord e) twice.0 i 0 (orders.no_repeats e) twice.1 low) (eq-eqb _ _ twice.2)
        | inr (inr missing) ↦ both_ways _ missing back
      ]

  pub no_dependent : IsOrders ends edges ord → NoEntry ord (IsDependent ends ord)
  no_dependent orders e i low dependent_ = dependent_ (orders.independent e (at (ord e) i) (has-get_or (ord e) i 0 low))

  pub no_orders_flaw : (x : OrdersFlaw) → IsOrders ends edges ord → ¬ (IsOrdersFlaw ends edges ord x)
  no_orders_flaw (Stray e f) orders flaw = wrong_entry ord (IsStray edges ord) e f flaw (no_stray orders)
  no_orders_flaw (Dependent e f) orders flaw = wrong_entry ord (IsDependent ends ord) e f flaw.1 (no_dependent orders)

-- ---- two flaws are one

-- the first of a list is one
pub first_of_same : (xs : List ℕ) (Wrong : ℕ → Type 0) (x y : ℕ) → IsFirstOf xs Wrong x → IsFirstOf xs Wrong y → x ≡ y
first_of_same xs Wrong x y a b = sym a.3 ∙ ap (at xs) (first_same Wrong a.0 b.0 a.2 b.2) ∙ b.3

names_same : (ord : ℕ → List ℕ) (Wrong : ℕ → ℕ → Type 0) (e f a b : ℕ) → NamesFirst ord Wrong e f → NamesFirst ord Wrong a b → (e ≡ a) × (f ≡ b)
names_same ord Wrong e f a b first second = elim (cases_order e a) [
  | inl same ↦
      let named : ℕ → Type 0 = λ x. NamesFirst ord Wrong x b in
      let here = subst named (sym same) second in
      (same, first_of_same (ord e) (Wrong e) f b first.0 here.0)
  | inr (inl below) ↦ absurd (second.1 e below first.0.0 first.0.1 first.0.2.here)
  | inr (inr above) ↦ absurd (first.1 a above second.0.0 second.0.1 second.0.2.here)
]

-- one pair of edges, told in one way
pub pair_same : {X : Type 0} (K : ℕ → ℕ → X) (e f a b : ℕ) → (e ≡ a) × (f ≡ b) → K e f ≡ K a b
pair_same K e f a b both = ap (λ x. K x f) both.0 ∙ ap (K a) both.1

-- two flaws of one kind that name the first wrong entry are one
pub named_same : {X : Type 0} (K : ℕ → ℕ → X) (ord : ℕ → List ℕ) (Wrong : ℕ → ℕ → Type 0) (e f a b : ℕ) → NamesFirst ord Wrong e f → NamesFirst ord Wrong a b → K e f ≡ K a b
named_same K ord Wrong e f a b first second = pair_same K e f a b (names_same ord Wrong e f a b first second)

pub one_orders_flaw : (ends : List (ℕ × ℕ)) (edges : List ℕ) (ord : ℕ → List ℕ) (x y : OrdersFlaw) → IsOrdersFlaw ends edges ord x → IsOrdersFlaw ends edges ord y → x ≡ y
one_orders_flaw ends edges ord (Stray e f) (Stray a b) p q = named_same Stray ord (IsStray edges ord) e f a b p q
one_orders_flaw ends edges ord (Stray e f) (Dependent a b) p q = absurd (wrong_entry ord (IsStray edges ord) e f p q.0)
one_orders_flaw ends edges ord (Dependent e f) (Stray a b) p q = absurd (wrong_entry ord (IsStray edges ord) a b q p.0)
one_orders_flaw ends edges ord (Dependent e f) (Dependent a b) p q = named_same Dependent ord (IsDependent ends ord) e f a b p.1 q.1
