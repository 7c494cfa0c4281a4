-- Lists and turns are a drawing, or have a flaw: each test of a drawing has an end.
use Rattle.std.proofs.Common.{◌≡◌, ℕ, ◌+◌, ◌*◌, ◌<◌, ◌⊎◌, inl, inr, true, List, length, refl, subst, arith}
use Rattle.std.proofs.lemmas.Bool.{both_ways, cases_Bool, cases_eq, cases_lt}
use Rattle.xn_model.specs.Drawing.{CrossesAt, IsListedDrawing, drawn_web, order_of}
use Rattle.xn_model.specs.First.{IsFirst}
use Rattle.xn_model.specs.Graph.{Graph, EndsIn, IsGraph, edges_of}
use Rattle.xn_model.specs.Lists.{at, has, position_in, total}
use Rattle.xn_model.specs.Map.{IsMap, tail_of}
use Rattle.xn_model.specs.Permutation.{Reaches}
use Rattle.xn_model.specs.Web.{first_segment}
use Rattle.xn_model.proofs.Ranges.{edge_list}
use Rattle.xn_graph.specs.Counts.{euler_of}
use Rattle.xn_kinds.specs.declared.flaws.DrawFlaw.{DrawFlaw}
use Rattle.xn_kinds.specs.declared.flaws.DrawFlaw.TheVariants.{Length, Order, Dependent, Rotation, Touch, Genus}
use Rattle.xn_ring.proofs.Orbits.{cases_reaches}
use Rattle.xn_map.specs.Rotation.{IsAstray, IsRotationFlaw, LeadsRight, LeadsWrong}
use Rattle.xn_map.proofs.Rotations.{IsMap-from_right, Permutes-from_right, least_dart}
use Rattle.xn_orders.specs.Entries.{IsOrdersFlaw}
use Rattle.xn_orders.specs.declared.flaws.OrdersFlaw.{OrdersFlaw}
use Rattle.xn_orders.specs.declared.flaws.OrdersFlaw.TheVariants.{Dependent as DependentEntry, Stray}
use Rattle.xn_orders.proofs.Entered.{edge_below, listed}
use Rattle.xn_orders.proofs.First.{Decided, first_same, first_so}
use Rattle.xn_orders.proofs.Flawed.{orders_or_flaw}
use Rattle.xn_orders.proofs.Limits.{web_ends}
use Rattle.xn_draw.specs.Flaws.{HasCrossings, HasLengths, HasMap, HasOrders, IsFirstTouch, IsFlaw, IsTouch}
use Rattle.xn_draw.proofs.FirstFlaws.{drawn}

-- ---- the rotation

decide_wrong_turn : (ends : List (ℕ × ℕ)) (next : ℕ → ℕ) (d : ℕ) → Decided (LeadsWrong ends next d)
decide_wrong_turn ends next d = elim (cases_lt (next d) (2 * length ends)) [
  | inr high ↦ inl (inl high)
  | inl low ↦ elim (cases_eq (tail_of ends (next d)) (tail_of ends d)) [
    | inr elsewhere ↦ inl (inr (inl elsewhere))
    | inl same ↦ elim (first_so (λ e. next e ≡ next d) d (λ e below. cases_eq (next e) (next d))) [
      | inl taken ↦ inl (inr (inr (taken.0, taken.1, taken.2.here)))
      | inr free ↦ inr (right low same free)
    ]
  ]
]
  where
    right : next d < 2 * length ends → tail_of ends (next d) ≡ tail_of ends d → ((e : ℕ) → e < d → ¬ (next e ≡ next d)) → LeadsWrong ends next d → ⊥
    right low same free wrong = elim wrong [
      | inl high ↦ omega (arith, low, high)
      | inr other ↦ elim other [ inl elsewhere ↦ elsewhere same | inr taken ↦ free taken.0 taken.1 taken.2 ]
    ]

decide_apart : (ends : List (ℕ × ℕ)) (next : ℕ → ℕ) → LeadsRight ends next → (d : ℕ) → d < 2 * length ends → Decided (IsAstray ends next d)
decide_apart ends next right d low =
    let least = least_dart ends d in
    let c = least.0 in
    elim (cases_reaches (2 * length ends) next (Permutes-from_right ends next right) c d (omega (arith, least.1, low))) [
      | inr away ↦ inl (c, least.2, away)
      | inl there ↦ inr (λ apart.
          let same = first_same (λ e. tail_of ends e ≡ tail_of ends d) c apart.0 least.2 apart.1 in
          apart.2 (subst (λ x. Reaches next x d) same there))
    ]

rotation_cases : (nodes : ℕ) (ends : List (ℕ × ℕ)) (next : ℕ → ℕ) → EndsIn nodes ends → IsMap nodes ends next ⊎ ((d : ℕ) × IsRotationFlaw ends next d)
rotation_cases nodes ends next ends_in = elim (first_so (LeadsWrong ends next) (2 * length ends) (λ d low. decide_wrong_turn ends next d)) [
  | inl wrong ↦ inr (wrong.0, (wrong.1, inl wrong.2))
  | inr right ↦ elim (first_so (IsAstray ends next) (2 * length ends) (decide_apart ends next right)) [
    | inl apart ↦ inr (apart.0, (apart.1, inr (right, apart.2)))
    | inr together ↦ inl (IsMap-from_right nodes ends next ends_in right together)
  ]
]

-- ---- touches

-- an edge with an entry is one of the graph
edge_of_entry : (g : Graph) (lists : List (List ℕ)) (e f : ℕ) → has (order_of g lists e) f ≡ true → e < length g.ends
edge_of_entry g lists e f h = edge_below (length g.ends) (edges_of g) (edge_list (length g.ends)) e (listed (edges_of g) lists e f h)

module _ (g : Graph) (lists : List (List ℕ)) (next : List ℕ) (has_map : HasMap g lists next) where
  decide_touch : (e f : ℕ) → Decided (IsTouch g lists next e f)
  decide_touch e f =
      let before = first_segment (edges_of g) (order_of g lists) e + position_in (order_of g lists e) f in
      elim (cases_lt e f) [
        | inr above ↦ inr (λ touch. omega (arith, above, touch.0))
        | inl below ↦ elim (cases_Bool (has (order_of g lists e) f)) [
          | inr away ↦ inr (λ touch. both_ways _ away touch.1)
          | inl meets ↦ elim (cases_eq (at next (at next (2 * before + 1))) (2 * (before + 1))) [
            | inl crosses ↦ inr (λ touch. touch.2 crosses)
            | inr touches ↦ inl (below, meets, touches)
          ]
        ]
      ]

  -- e touches a first later edge
  abbrev TouchesSome : ℕ → Type 0
  TouchesSome e = (f : ℕ) × (f < length g.ends) × IsFirst (IsTouch g lists next e) f

  touch_cases : (e : ℕ) → TouchesSome e ⊎ ((f : ℕ) → f < length g.ends → ¬ (IsTouch g lists next e f))
  touch_cases e = first_so (IsTouch g lists next e) (length g.ends) (λ f low. decide_touch e f)

  -- what e meets is an edge, and so is e
  met_in : (e f : ℕ) → has (order_of g lists e) f ≡ true → (e < length g.ends) × (f < length g.ends)
  met_in e f meets =
      (edge_of_entry g lists e f meets, edge_of_entry g lists f e (has_map.has_orders.orders.both_ways e f meets))

  touches_none : (e : ℕ) → ¬ (TouchesSome e) → (f : ℕ) → ¬ (IsTouch g lists next e f)
  touches_none e away f touch = elim (touch_cases e) [ inl found ↦ away found | inr none ↦ none f (met_in e f touch.1).1 touch ]

  decide_some : (e : ℕ) → Decided (TouchesSome e)
  decide_some e = elim (touch_cases e) [ inl found ↦ inl found | inr none ↦ inr (λ found. none found.0 found.1 found.2.here) ]

  pub touch_or_crossings : ((e : ℕ) × (f : ℕ) × IsFirstTouch g lists next e f) ⊎ HasCrossings g lists next
  touch_or_crossings = elim (first_so TouchesSome (length g.ends) (λ e low. decide_some e)) [
    | inl found ↦ inl (found.0, found.2.here.0, first_of_all found.0 found.2)
    | inr none ↦ inr (record { has_map = has_map; crosses = cross_at none })
  ]
    where
      first_of_all : (e : ℕ) (first : IsFirst TouchesSome e) → IsFirstTouch g lists next e first.here.0
      first_of_all e first = record {
        here = first.here.2.here;
        before = λ a b earlier touch. elim earlier [
          | inl smaller ↦ touches_none a (first.before a smaller) b touch
          | inr same ↦ first.here.2.before b same.1 (subst (λ x. IsTouch g lists next x b) same.0 touch)
        ];
      }

      cross_at : ((e : ℕ) → e < length g.ends → ¬ (TouchesSome e)) → (e f : ℕ) → e < f → has (order_of g lists e) f ≡ true → CrossesAt (edges_of g) (order_of g lists) (at next) e f
      cross_at none e f below meets =
          let before = first_segment (edges_of g) (order_of g lists) e + position_in (order_of g lists e) f in
          elim (cases_eq (at next (at next (2 * before + 1))) (2 * (before + 1))) [
            | inl crosses ↦ crosses
            | inr touches ↦ absurd (touches_none e (none e (met_in e f meets).0) f (below, meets, touches))
          ]

-- ---- all tests in order

module _ (g : Graph) (lists : List (List ℕ)) (next : List ℕ) (is_graph : IsGraph g) where
  -- a drawing, or a flaw
  abbrev Ends : Type 0
  Ends = IsListedDrawing g lists next ⊎ ((x : DrawFlaw) × IsFlaw g lists next x)

  from_crossings : HasCrossings g lists next → Ends
  from_crossings found =
      let counts = euler_of (drawn_web g lists) (at next) in
      elim (cases_eq (counts.v + counts.f) (2 * counts.c + counts.e)) [
        | inl flat ↦ inl (drawn g lists next found flat)
        | inr other ↦ inr (Genus counts, (found, refl, other))
      ]

  from_map : HasMap g lists next → Ends
  from_map found = elim (touch_or_crossings g lists next found) [
    | inl touch ↦ inr (Touch touch.0 touch.1, (found, touch.2))
    | inr cross ↦ from_crossings cross
  ]

  from_orders : HasOrders g lists next → Ends
  from_orders found =
      let web = drawn_web g lists in
      elim (rotation_cases web.nodes web.ends (at next) (web_ends g (edges_of g) (order_of g lists) is_graph found.orders)) [
        | inl is_map ↦ from_map (record { has_orders = found; is_map = is_map })
        | inr flaw ↦ inr (Rotation flaw.0, (found, flaw.1))
      ]

  from_lists : HasLengths g lists next → (x : OrdersFlaw) → IsOrdersFlaw g.ends (edges_of g) (order_of g lists) x → Ends
  from_lists found (Stray e f) flaw = inr (Order e f, (found, flaw))
  from_lists found (DependentEntry e f) flaw = inr (Dependent e f, (record { lengths = found; order = flaw.0 }, flaw.1))

  from_lengths : HasLengths g lists next → Ends
  from_lengths found = elim (orders_or_flaw g.ends (edges_of g) lists (edge_list (length g.ends))) [
    | inl orders ↦ from_orders (record { lengths = found; orders = orders })
    | inr flaw ↦ from_lists found flaw.0 flaw.1
  ]

  pub drawn_or_flawed : Ends
  drawn_or_flawed = elim (cases_eq (length lists) (length g.ends)) [
    | inr other ↦ inr (Length, λ found. other found.lists_fit)
    | inl lists_fit ↦ elim (cases_eq (length next) (2 * (length g.ends + total length lists))) [
      | inr other ↦ inr (Length, λ found. other found.next_fits)
      | inl next_fits ↦ from_lengths (record { lists_fit = lists_fit; next_fits = next_fits })
    ]
  ]
