-- A flaw excludes all later ones, and a drawing has none.
use Rattle.std.proofs.Common.{◌≡◌, ℕ, inl, inr, List, refl, sym, ◌∙◌, ap, subst, arith}
use Rattle.std.proofs.lemmas.Bool.{cases_order}
use Rattle.xn_model.specs.Drawing.{IsListedDrawing, drawn_web, order_of}
use Rattle.xn_model.specs.Graph.{Graph, edges_of}
use Rattle.xn_model.specs.Lists.{at}
use Rattle.xn_graph.specs.Counts.{IsBalanced}
use Rattle.xn_graph.specs.declared.counts.Euler.{Euler}
use Rattle.xn_kinds.specs.declared.flaws.DrawFlaw.{DrawFlaw}
use Rattle.xn_kinds.specs.declared.flaws.DrawFlaw.TheVariants.{Length, Order, Dependent, Rotation, Touch, Genus}
use Rattle.xn_map.specs.Rotation.{IsRotationFlaw}
use Rattle.xn_map.proofs.Rotations.{flaws_are_no_maps}
use Rattle.xn_orders.specs.Entries.{IsDependent, IsStray}
use Rattle.xn_orders.proofs.First.{first_same}
use Rattle.xn_orders.proofs.Flawed.{named_same, no_dependent, no_stray, pair_same, wrong_entry}
use Rattle.xn_draw.specs.Flaws.{HasCrossings, HasMap, HasOrder, HasOrders, IsFirstTouch, IsFlaw}
use Rattle.xn_draw.proofs.Totals.{segment_count}

-- ---- each stage is reached through those before it

module _ (g : Graph) (lists : List (List ℕ)) (next : List ℕ) where
  pub order_from_orders : HasOrders g lists next → HasOrder g lists next
  order_from_orders found = record { lengths = found.lengths; order = no_stray g.ends (edges_of g) (order_of g lists) found.orders }

  pub crossings_from_drawing : IsListedDrawing g lists next → HasCrossings g lists next
  crossings_from_drawing d = record {
    has_map = record {
      has_orders = record {
        lengths = record { lists_fit = d.lists_fit; next_fits = omega (arith, d.next_fits, segment_count g lists d.lists_fit) };
        orders = d.drawing.orders;
      };
      is_map = d.drawing.is_flat_map.is_map;
    };
    crosses = d.drawing.crosses;
  }

  -- ---- a flaw fails its stage

  not_order : (e f : ℕ) → IsFlaw g lists next (Order e f) → HasOrder g lists next → ⊥
  not_order e f flaw found = wrong_entry (order_of g lists) (IsStray (edges_of g) (order_of g lists)) e f flaw.1 found.order

  not_dependent : (e f : ℕ) → IsFlaw g lists next (Dependent e f) → HasOrders g lists next → ⊥
  not_dependent e f flaw found =
      wrong_entry (order_of g lists) (IsDependent g.ends (order_of g lists)) e f flaw.1 (no_dependent g.ends (edges_of g) (order_of g lists) found.orders)

  not_rotation : (d : ℕ) → IsFlaw g lists next (Rotation d) → HasMap g lists next → ⊥
  not_rotation d flaw found = flaws_are_no_maps (drawn_web g lists).nodes (drawn_web g lists).ends (at next) d flaw.1 found.is_map

  not_touch : (e f : ℕ) → IsFlaw g lists next (Touch e f) → HasCrossings g lists next → ⊥
  not_touch e f flaw found = let here = flaw.1.here in here.2 (found.crosses e f here.0 here.1)

  not_genus : (counts : Euler) → IsFlaw g lists next (Genus counts) → IsListedDrawing g lists next → ⊥
  not_genus counts flaw d = flaw.2 (subst IsBalanced (sym flaw.1) d.drawing.is_flat_map.flat)

  -- a drawing has no flaw
  pub no_flaw : IsListedDrawing g lists next → (x : DrawFlaw) → ¬ (IsFlaw g lists next x)
  no_flaw d Length flaw = flaw (crossings_from_drawing d).has_map.has_orders.lengths
  no_flaw d (Order e f) flaw = not_order e f flaw (order_from_orders (crossings_from_drawing d).has_map.has_orders)
  no_flaw d (Dependent e f) flaw = not_dependent e f flaw (crossings_from_drawing d).has_map.has_orders
  no_flaw d (Rotation e) flaw = not_rotation e flaw (crossings_from_drawing d).has_map
  no_flaw d (Touch e f) flaw = not_touch e f flaw (crossings_from_drawing d)
  no_flaw d (Genus counts) flaw = not_genus counts flaw d

-- ---- two flaws of one kind are one

rotation_same : (ends : List (ℕ × ℕ)) (next : ℕ → ℕ) (d c : ℕ) → IsRotationFlaw ends next d → IsRotationFlaw ends next c → d ≡ c
rotation_same ends next d c first second = elim first.1 [
  | inl wrong ↦ elim second.1 [ inl wrong_too ↦ first_same _ d c wrong wrong_too | inr apart ↦ absurd (apart.0 d first.0 wrong.here) ]
  | inr apart ↦ elim second.1 [ inl wrong ↦ absurd (apart.0 c second.0 wrong.here) | inr apart_too ↦ first_same _ d c apart.1 apart_too.1 ]
]

touch_same : (g : Graph) (lists : List (List ℕ)) (next : List ℕ) (e f a b : ℕ) → IsFirstTouch g lists next e f → IsFirstTouch g lists next a b → (e ≡ a) × (f ≡ b)
touch_same g lists next e f a b first second = elim (cases_order e a) [
  | inl same ↦ elim (cases_order f b) [
    | inl same_too ↦ (same, same_too)
    | inr other ↦ elim other [ inl below ↦ absurd (second.before e f (inr (same, below)) first.here) | inr above ↦ absurd (first.before a b (inr (sym same, above)) second.here) ]
  ]
  | inr other ↦ elim other [ inl below ↦ absurd (second.before e f (inl below) first.here) | inr above ↦ absurd (first.before a b (inl above) second.here) ]
]

-- there is at most one flaw
pub one_flaw : (g : Graph) (lists : List (List ℕ)) (next : List ℕ) (x y : DrawFlaw) → IsFlaw g lists next x → IsFlaw g lists next y → x ≡ y
one_flaw g lists next Length Length p q = refl
one_flaw g lists next Length (Order a b) p q = absurd (p q.0)
one_flaw g lists next Length (Dependent a b) p q = absurd (p q.0.lengths)
one_flaw g lists next Length (Rotation d) p q = absurd (p q.0.lengths)
one_flaw g lists next Length (Touch a b) p q = absurd (p q.0.has_orders.lengths)
one_flaw g lists next Length (Genus counts) p q = absurd (p q.0.has_map.has_orders.lengths)
one_flaw g lists next (Order e f) Length p q = absurd (q p.0)
one_flaw g lists next (Order e f) (Order a b) p q = named_same Order _ _ e f a b p.1 q.1
one_flaw g lists next (Order e f) (Dependent a b) p q = absurd (not_order g lists next e f p q.0)
one_flaw g lists next (Order e f) (Rotation d) p q = absurd (not_order g lists next e f p (order_from_orders g lists next q.0))
one_flaw g lists next (Order e f) (Touch a b) p q = absurd (not_order g lists next e f p (order_from_orders g lists next q.0.has_orders))
one_flaw g lists next (Order e f) (Genus counts) p q = absurd (not_order g lists next e f p (order_from_orders g lists next q.0.has_map.has_orders))
one_flaw g lists next (Dependent e f) Length p q = absurd (q p.0.lengths)
one_flaw g lists next (Dependent e f) (Order a b) p q = absurd (not_order g lists next a b q p.0)
one_flaw g lists next (Dependent e f) (Dependent a b) p q = named_same Dependent _ _ e f a b p.1 q.1
one_flaw g lists next (Dependent e f) (Rotation d) p q = absurd (not_dependent g lists next e f p q.0)
one_flaw g lists next (Dependent e f) (Touch a b) p q = absurd (not_dependent g lists next e f p q.0.has_orders)
one_flaw g lists next (Dependent e f) (Genus counts) p q = absurd (not_dependent g lists next e f p q.0.has_map.has_orders)
one_flaw g lists next (Rotation d) Length p q = absurd (q p.0.lengths)
one_flaw g lists next (Rotation d) (Order a b) p q = absurd (not_order g lists next a b q (order_from_orders g lists next p.0))
one_flaw g lists next (Rotation d) (Dependent a b) p q = absurd (not_dependent g lists next a b q p.0)
one_flaw g lists next (Rotation d) (Rotation c) p q = ap Rotation (rotation_same (drawn_web g lists).ends (at next) d c p.1 q.1)
one_flaw g lists next (Rotation d) (Touch a b) p q = absurd (not_rotation g lists next d p q.0)
one_flaw g lists next (Rotation d) (Genus counts) p q = absurd (not_rotation g lists next d p q.0.has_map)
one_flaw g lists next (Touch e f) Length p q = absurd (q p.0.has_orders.lengths)
one_flaw g lists next (Touch e f) (Order a b) p q = absurd (not_order g lists next a b q (order_from_orders g lists next p.0.has_orders))
one_flaw g lists next (Touch e f) (Dependent a b) p q = absurd (not_dependent g lists next a b q p.0.has_orders)
one_flaw g lists next (Touch e f) (Rotation d) p q = absurd (not_rotation g lists next d q p.0)
one_flaw g lists next (Touch e f) (Touch a b) p q = pair_same Touch e f a b (touch_same g lists next e f a b p.1 q.1)
one_flaw g lists next (Touch e f) (Genus counts) p q = absurd (not_touch g lists next e f p q.0)
one_flaw g lists next (Genus counts) Length p q = absurd (q p.0.has_map.has_orders.lengths)
one_flaw g lists next (Genus counts) (Order a b) p q = absurd (not_order g lists next a b q (order_from_orders g lists next p.0.has_map.has_orders))
one_flaw g lists next (Genus counts) (Dependent a b) p q = absurd (not_dependent g lists next a b q p.0.has_map.has_orders)
one_flaw g lists next (Genus counts) (Rotation d) p q = absurd (not_rotation g lists next d q p.0.has_map)
one_flaw g lists next (Genus counts) (Touch a b) p q = absurd (not_touch g lists next a b q p.0)
one_flaw g lists next (Genus counts) (Genus other) p q = ap Genus (p.1 ∙ sym q.1)
