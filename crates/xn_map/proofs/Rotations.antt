-- Lists of successors that turn round each node.
use Rattle.std.proofs.Common.{◌≡◌, ℕ, zero, suc, ◌+◌, ◌*◌, ◌<◌, ◌≤◌, inl, inr, Bool, true, false, List, Option, None, Some, eqb, length, length-set, set, refl, sym, ◌∙◌, ap, below_more, arith}
use Rattle.std.specs.Prelude.{MatchOption}
use Rattle.std.proofs.lemmas.Bool.{both_ways, cases_eq, cases_lt, eq-eqb, eqb-true, false_from_ne_true}
use Rattle.xn_model.specs.Graph.{EndsIn}
use Rattle.xn_model.specs.Map.{IsMap, tail_of}
use Rattle.xn_model.specs.Permutation.{Permutes, Reaches, iterate}
use Rattle.xn_ring.proofs.Orbits.{cases_reaches, first_below, reaches_back, reaches_trans}
use Rattle.xn_model.specs.First.{IsFirst}
use Rattle.xn_map.specs.Marks.{MarksCycle, MarksCyclesBelow, is_marked}
use Rattle.xn_map.specs.Rotation.{AreTogether, FlawsAreNoMaps, IsAstray, IsRotationFlaw, LeadsRight, LeadsWrong, MarksTargets, MarksTails}
use Rattle.xn_map.proofs.Marking.{cycle_marked, is_marked-set, marked_before}

-- one more target
pub MarksTargets-more : (n : ℕ) (next : ℕ → ℕ) (d : ℕ) (marks : List Bool) → next d < length marks → MarksTargets n next d marks → MarksTargets n next (d + 1) (set marks (next d) true)
MarksTargets-more n next d marks to_in before x x_in = elim (is_marked-set marks (next d) x to_in) [
  | inl here ↦ (λ m. (d, omega arith, sym here.0), λ found. here.1)
  | inr there ↦ (
    λ m. let found = (before x x_in).0 (sym there.1 ∙ m) in (found.0, omega (arith, found.1), found.2),
    λ found. there.1 ∙ (before x x_in).1 (elim (cases_eq found.0 d) [
      | inl last ↦ absurd (there.0 (sym found.2 ∙ ap next last))
      | inr earlier ↦ (found.0, omega (arith, found.1), found.2)
    ]),
  )
]

-- a dart that isn't led wrong is led to a dart
pub led_in : (ends : List (ℕ × ℕ)) (next : ℕ → ℕ) (d : ℕ) → ¬ (LeadsWrong ends next d) → next d < 2 * length ends
led_in ends next d right = elim (cases_lt (next d) (2 * length ends)) [
  | inl below ↦ below
  | inr far ↦ absurd (right (inl far))
]

-- successors that lead no dart wrong are a permutation
pub Permutes-from_right : (ends : List (ℕ × ℕ)) (next : ℕ → ℕ) → LeadsRight ends next → Permutes (2 * length ends) next
Permutes-from_right ends next right = record {
  below = λ d d_in. led_in ends next d (right d d_in);
  apart = λ d e d_in e_in same. elim (cases_lt d e) [
    | inl earlier ↦ absurd (right e e_in (inr (inr (d, earlier, same))))
    | inr not_earlier ↦ elim (cases_eq d e) [
      | inl equal ↦ equal
      | inr other ↦ absurd (right d d_in (inr (inr (e, omega arith, sym same))))
    ]
  ];
}

-- the first number below k that is so, by a test
first_of : (p : ℕ → Bool) (k : ℕ) → p k ≡ true → (c : ℕ) × (c ≤ k) × (p c ≡ true) × ((m : ℕ) → m < c → p m ≡ false)
first_of p k passes = elim (first_below (suc k) p) [
  | inl found ↦ (found.0, omega (arith, found.1), found.2, found.3)
  | inr none ↦ absurd (both_ways _ (none k (omega arith)) passes)
]

-- the least dart at the node of d
pub least_dart : (ends : List (ℕ × ℕ)) (d : ℕ) → (c : ℕ) × (c ≤ d) × IsFirst (λ e. tail_of ends e ≡ tail_of ends d) c
least_dart ends d =
    let found = first_of (λ e. eqb (tail_of ends e) (tail_of ends d)) d (eq-eqb _ _ refl) in (
      found.0,
      found.1,
      record {
        here = eqb-true _ _ found.2;
        before = λ m below same. both_ways _ (found.3 m below) (eq-eqb _ _ same);
      },
    )

-- one more dart's node
pub MarksTails-more : (ends : List (ℕ × ℕ)) (d : ℕ) (marks : List Bool) → tail_of ends d < length marks → MarksTails ends d marks → MarksTails ends (d + 1) (set marks (tail_of ends d) true)
MarksTails-more ends d marks to_in before v v_in =
    let v_old : v < length marks = omega (arith, length-set marks (tail_of ends d) true) in
    elim (is_marked-set marks (tail_of ends d) v to_in) [
      | inl here ↦ (λ m. (d, omega arith, sym here.0), λ found. here.1)
      | inr there ↦ (
        λ m. let found = (before v v_old).0 (sym there.1 ∙ m) in (found.0, omega (arith, found.1), found.2),
        λ found. there.1 ∙ (before v v_old).1 (elim (cases_eq found.0 d) [
          | inl last ↦ absurd (there.0 (sym found.2 ∙ ap (tail_of ends) last))
          | inr earlier ↦ (found.0, omega (arith, found.1), found.2)
        ]),
      )
    ]

-- a dart at a marked node marks no more
pub MarksTails-same : (ends : List (ℕ × ℕ)) (d : ℕ) (marks : List Bool) → tail_of ends d < length marks → is_marked marks (tail_of ends d) ≡ true → MarksTails ends d marks → MarksTails ends (d + 1) marks
MarksTails-same ends d marks to_in was before v v_in = (
  λ m. let found = (before v v_in).0 m in (found.0, omega (arith, found.1), found.2),
  λ found. (before v v_in).1 (elim (cases_eq found.0 d) [
    | inl last ↦ let first = (before (tail_of ends d) to_in).0 was in (first.0, first.1, first.2 ∙ ap (tail_of ends) (sym last) ∙ found.2)
    | inr earlier ↦ (found.0, omega (arith, found.1), found.2)
  ]),
)

-- a walk stays at its node
pub walk_stays : (ends : List (ℕ × ℕ)) (next : ℕ → ℕ) → LeadsRight ends next → (k d : ℕ) → d < 2 * length ends → (iterate next k d < 2 * length ends) × (tail_of ends (iterate next k d) ≡ tail_of ends d)
walk_stays ends next right zero d d_in = (d_in, refl)
walk_stays ends next right (suc k) d d_in =
    let before = walk_stays ends next right k d d_in in
    let e = iterate next k d in
    let led = right e before.0 in (
      led_in ends next e led,
      elim (cases_eq (tail_of ends (next e)) (tail_of ends e)) [
        | inl same ↦ same ∙ before.1
        | inr other ↦ absurd (led (inr (inl other)))
      ],
    )

-- the marked darts and nodes, and the darts that are together, once the darts below d were looked at
pub record Together (ends : List (ℕ × ℕ)) (next : ℕ → ℕ) (d : ℕ) (begun met : List Bool) : Type 0 where
  pub nodes : MarksTails ends d begun
  pub darts : MarksCyclesBelow (2 * length ends) next d met
  pub none : (e : ℕ) → e < d → ¬ (IsAstray ends next e)

module _ (ends : List (ℕ × ℕ)) (next : ℕ → ℕ) (right : LeadsRight ends next) (d : ℕ) (d_in : d < 2 * length ends) (begun met : List Bool) (before : Together ends next d begun met) (node_in : tail_of ends d < length begun) where
  -- a dart in the ring of a smaller one is at its node
  ring_begun : (c : ℕ) → c < d → Reaches next c d → is_marked begun (tail_of ends d) ≡ true
  ring_begun c below there =
      let at_d = walk_stays ends next right there.0 c (omega arith) in
      (before.nodes (tail_of ends d) node_in).1 (c, below, sym at_d.1 ∙ ap (tail_of ends) there.1)

  -- the first dart of a node isn't marked
  pub fresh_dart : is_marked begun (tail_of ends d) ≡ false → is_marked met d ≡ false
  fresh_dart fresh = false_from_ne_true _ (λ m. let found = (before.darts d d_in).0 m in both_ways _ fresh (ring_begun found.0 found.1 found.2))

  -- nor is it apart
  not_apart_first : is_marked begun (tail_of ends d) ≡ false → ¬ (IsAstray ends next d)
  not_apart_first fresh apart = elim (cases_lt apart.0 d) [
    | inl below ↦ both_ways _ fresh ((before.nodes (tail_of ends d) node_in).1 (apart.0, below, apart.1.here))
    | inr high ↦ elim (cases_eq apart.0 d) [
      | inl same ↦ apart.2 (0, same)
      | inr other ↦ apart.1.before d (omega arith) refl
    ]
  ]

  -- a marked dart isn't apart
  not_apart_met : is_marked met d ≡ true → ¬ (IsAstray ends next d)
  not_apart_met m apart =
      let found = (before.darts d d_in).0 m in
      let c = found.0 in
      let c_in : c < 2 * length ends = omega (arith, found.1) in
      let at_d = walk_stays ends next right found.2.0 c c_in in
      let same_node : tail_of ends c ≡ tail_of ends d = sym at_d.1 ∙ ap (tail_of ends) found.2.1 in
      before.none c found.1 (
        apart.0,
        record { here = apart.1.here ∙ sym same_node; before = λ e below same. apart.1.before e below (same ∙ same_node) },
        λ there. apart.2 (reaches_trans next apart.0 c d there found.2),
      )

  pub Together-first : (new : List Bool) → is_marked begun (tail_of ends d) ≡ false → MarksCycle (2 * length ends) next d met new →
      Together ends next (d + 1) (set begun (tail_of ends d) true) new
  Together-first new fresh marked = record {
    nodes = MarksTails-more ends d begun node_in before.nodes;
    darts = cycle_marked (2 * length ends) next (Permutes-from_right ends next right) d met before.darts new marked;
    none = below_more (λ e. ¬ (IsAstray ends next e)) d before.none (not_apart_first fresh);
  }

  pub Together-met : is_marked begun (tail_of ends d) ≡ true → is_marked met d ≡ true → Together ends next (d + 1) begun met
  Together-met was m = record {
    nodes = MarksTails-same ends d begun node_in was before.nodes;
    darts = marked_before (2 * length ends) next (Permutes-from_right ends next right) d met before.darts d_in m;
    none = below_more (λ e. ¬ (IsAstray ends next e)) d before.none (not_apart_met m);
  }

  -- a dart of a node that has begun is apart where it isn't marked
  pub IsFirst-apart : is_marked begun (tail_of ends d) ≡ true → is_marked met d ≡ false → IsFirst (IsAstray ends next) d
  IsFirst-apart was unmet =
      let earlier = (before.nodes (tail_of ends d) node_in).0 was in
      let least = least_dart ends d in
      let c_below : least.0 < d = elim (cases_lt earlier.0 least.0) [
        | inl low ↦ absurd (least.2.before earlier.0 low earlier.2)
        | inr high ↦ omega (arith, earlier.1)
      ] in
      record {
        here = (least.0, least.2, λ there. both_ways _ unmet ((before.darts d d_in).1 (least.0, c_below, there)));
        before = before.none;
      }

-- what turns round each node, once through all its darts
pub IsMap-from_right : (nodes : ℕ) (ends : List (ℕ × ℕ)) (next : ℕ → ℕ) → EndsIn nodes ends → LeadsRight ends next → AreTogether ends next → IsMap nodes ends next
IsMap-from_right nodes ends next ends_in right together =
    let n = 2 * length ends in
    let permutes = Permutes-from_right ends next right in
    record {
      ends_in = ends_in;
      permutes = permutes;
      same_node = λ d d_in. (walk_stays ends next right 1 d d_in).1;
      one_ring = λ d e d_in e_in same.
          let least = least_dart ends d in
          let c = least.0 in
          let to_d = reached c d d_in least.2 in
          let to_e = reached c e e_in (record { here = least.2.here ∙ same; before = λ m below other. least.2.before m below (other ∙ sym same) }) in
          reaches_trans next d c e (reaches_back n next permutes c d (omega (arith, least.1)) to_d) to_e;
    }
  where
    c_in : (c d : ℕ) → d < 2 * length ends → IsFirst (λ e. tail_of ends e ≡ tail_of ends d) c → c < 2 * length ends
    c_in c d d_in first = elim (cases_lt d c) [ inl high ↦ absurd (first.before d high refl) | inr low ↦ omega arith ]

    reached : (c d : ℕ) → d < 2 * length ends → IsFirst (λ e. tail_of ends e ≡ tail_of ends d) c → Reaches next c d
    reached c d d_in first = elim (cases_reaches (2 * length ends) next (Permutes-from_right ends next right) c d (c_in c d d_in first)) [
      | inl there ↦ there
      | inr away ↦ absurd (together d d_in (c, first, away))
    ]

-- successors that lead no dart wrong are a map, or have a flaw
pub flaw_or_map : (nodes : ℕ) (ends : List (ℕ × ℕ)) (next : ℕ → ℕ) (n : ℕ) (flaw : Option ℕ) → n ≡ 2 * length ends → EndsIn nodes ends → LeadsRight ends next →
    MatchOption flaw (AreTogether ends next) (λ d. (d < n) × IsFirst (IsAstray ends next) d) → MatchOption flaw (IsMap nodes ends next) (IsRotationFlaw ends next)
flaw_or_map nodes ends next n None darts ends_in right together = IsMap-from_right nodes ends next ends_in right together
flaw_or_map nodes ends next n (Some d) darts ends_in right apart = (omega (arith, apart.0, darts), inr (right, apart.1))

pub flaws_are_no_maps : FlawsAreNoMaps
flaws_are_no_maps nodes ends next d flaw map = elim flaw.1 [
  | inl wrong ↦ elim wrong.here [
    | inl far ↦ omega (arith, far, map.permutes.below d flaw.0)
    | inr (inl away) ↦ away (map.same_node d flaw.0)
    | inr (inr taken) ↦
        let same = map.permutes.apart taken.0 d (omega (arith, taken.1, flaw.0)) flaw.0 taken.2 in
        omega (arith, same, taken.1)
  ]
  | inr apart ↦
      let c = apart.1.here.0 in
      let first = apart.1.here.1 in
      let c_in : c < 2 * length ends = elim (cases_lt d c) [ inl high ↦ absurd (first.before d high refl) | inr low ↦ omega (arith, low, flaw.0) ] in
      apart.1.here.2 (map.one_ring c d c_in flaw.0 first.here)
]
