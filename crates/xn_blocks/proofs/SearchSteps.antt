-- The steps of a search in depth, and its end.
use Rattle.std.proofs.Common.{◌≡◌, ◌≢◌, ℕ, zero, suc, ◌+◌, ◌-◌, ◌*◌, ◌<◌, ◌≤◌, ◌⊎◌, inl, inr, List, length, refl, sym, ◌∙◌, ap, subst, arith, mul-le-mul_left}
use Rattle.std.specs.Prelude.{Option, None, Some}
use Rattle.std.proofs.lemmas.Bool.{cases_eq}
use Rattle.std.proofs.lemmas.List.{get_or-set_other, get_or-set_same, length-set}
use Rattle.xn_model.specs.Graph.{EndsIn, Graph}
use Rattle.xn_model.specs.Lists.{at}
use Rattle.xn_model.specs.Map.{reverse_of, tail_of}
use Rattle.xn_graph.specs.Stars.{darts_of}
use Rattle.xn_model.proofs.Darts.{reverse-reverse, reverse_below}
use Rattle.xn_genus.proofs.Compress.{tail_in}
use Rattle.xn_genus.proofs.Counts.{stays_alone}
use Rattle.xn_graph.proofs.DartsOf.{darts_before-le, darts_before-next, darts_of-at, darts_of-place}
use Rattle.xn_blocks.specs.Search.{Above, AreComparable, IsLinked, IsSearchForest}
use Rattle.xn_blocks.proofs.Climbs.{both_above, first_step}
use Rattle.xn_blocks.specs.Growth.{AllDone, AreFound, Exploring, GoesOn, GoesOnAt, HasNone, IsAt, IsDone, IsFound, Lists, far_end_at, sum_below, with_dart, with_node}
use Rattle.xn_blocks.proofs.Growing.{at_child, found_now, keeps_found, parent_now}

-- ---- what is left

sum_same : (n : ℕ) (f g : ℕ → ℕ) → ((u : ℕ) → u < n → f u ≡ g u) → sum_below n f ≡ sum_below n g
sum_same zero f g same = refl
sum_same (suc n) f g same = omega (arith, sum_same n f g (λ u low. same u (omega (arith, low))), same n (omega arith))

sum_less : (n v : ℕ) (f g : ℕ → ℕ) → v < n → ((u : ℕ) → u < n → u ≢ v → f u ≡ g u) → f v < g v → sum_below n f < sum_below n g
sum_less zero v f g v_in same less = absurd (omega (arith, v_in))
sum_less (suc n) v f g v_in same less = elim (cases_eq n v) [
  | inl here ↦
      let rest = sum_same n f g (λ u low. same u (omega (arith, low)) (λ e. omega (arith, e, here, low))) in
      omega (arith, rest, less, ap f here, ap g here)
  | inr other ↦
      let rest = sum_less n v f g (omega (arith, v_in, other)) (λ u low ne. same u (omega (arith, low)) ne) less in
      omega (arith, rest, same n (omega arith) other)
]

less_work : (m a b x y : ℕ) → a < b → x ≤ m → (m + 1) * a + x < (m + 1) * b + y
less_work m a b x y less small =
    let one : a + 1 ≤ b = omega arith in
    omega (arith, mul-le-mul_left (m + 1) one, small)

-- ---- one more dart

module _ (web : Graph) (s : Lists) (c : ℕ) (at_c : IsAt web s c) (v : ℕ) (here : IsFound web s v) (up : Above (at s.parent) v c)
    (more : at s.next v < length (darts_of web.ends v)) (far_found : IsFound web s (far_end_at web v (at s.next v))) where
  abbrev r : Lists
  r = with_dart s v

  abbrev i : ℕ
  i = at s.next v

  abbrev w : ℕ
  w = far_end_at web v i

  abbrev d : ℕ
  d = at (darts_of web.ends v) i

  next_here : at r.next v ≡ i + 1
  next_here = get_or-set_same s.next v (i + 1) 0 (omega (arith, here.0, at_c.found.nexts))

  next_other : (u : ℕ) → u ≢ v → at r.next u ≡ at s.next u
  next_other u other = get_or-set_other s.next v u (i + 1) 0 other

  far_comparable : AreComparable (at s.parent) v w
  far_comparable = elim (at_c.rest w far_found) [
    | inr w_up ↦ both_above (at s.parent) v w c up w_up
    | inl done ↦
        let is = darts_of-at web.ends v i more in
        let place = darts_of-place web.ends w (reverse_of d) (reverse_below (length web.ends) d is.0) refl in
        let back : far_end_at web w place.0 ≡ v = ap (λ x. tail_of web.ends (reverse_of x)) place.2 ∙ ap (tail_of web.ends) (reverse-reverse d) ∙ is.1 in
        let both = at_c.found.compared w place.0 far_found (omega (arith, place.1, done)) in
        elim both.1 [
          | inl w_up ↦ inr (subst (λ z. Above (at s.parent) w z) back w_up)
          | inr v_up ↦ inl (subst (λ z. Above (at s.parent) z w) back v_up)
        ]
  ]

  found_still : AreFound web r
  found_still = record {
    parents = at_c.found.parents;
    numbers = at_c.found.numbers;
    nexts = length-set s.next v (i + 1) ∙ at_c.found.nexts;
    placed = at_c.found.placed;
    listed = at_c.found.listed;
    parent_found = at_c.found.parent_found;
    linked = at_c.found.linked;
    earlier = at_c.found.earlier;
    tried = λ u u_in. elim (cases_eq u v) [
      | inl same ↦ omega (arith, more, ap (at r.next) same, next_here, ap (λ z. length (darts_of web.ends z)) same)
      | inr other ↦ omega (arith, next_other u other, at_c.found.tried u u_in)
    ];
    untried = λ u u_in far. elim (cases_eq u v) [
      | inl same ↦ absurd (omega (arith, far, ap (at s.number) same, here.1))
      | inr other ↦ next_other u other ∙ at_c.found.untried u u_in far
    ];
    compared = λ u j u_found low. elim (cases_eq u v) [
      | inr other ↦ at_c.found.compared u j u_found (omega (arith, low, next_other u other))
      | inl same ↦ elim (cases_eq j i) [
        | inr before ↦ at_c.found.compared u j u_found (omega (arith, low, ap (at r.next) same, next_here, before, ap (at s.next) same))
        | inl last ↦
            let P : ℕ → ℕ → Type 0 = λ z k. IsFound web s (far_end_at web z k) × AreComparable (at s.parent) z (far_end_at web z k) in
            subst (λ z. P z j) (sym same) (subst (λ k. P v k) (sym last) (far_found, far_comparable))
      ]
    ];
  }

  pub still_at : IsAt web r c
  still_at = record {
    found = found_still;
    here = at_c.here;
    rest = λ u u_found. elim (cases_eq u v) [
      | inl same ↦ inr (subst (λ z. Above (at s.parent) z c) (sym same) up)
      | inr other ↦ elim (at_c.rest u u_found) [
        | inl done ↦ inl (next_other u other ∙ done)
        | inr above ↦ inr above
      ]
    ];
  }

  pub less_left : (x y : ℕ) → x ≤ web.nodes →
      (web.nodes + 1) * sum_below web.nodes (λ u. length (darts_of web.ends u) - at r.next u) + x < (web.nodes + 1) * sum_below web.nodes (λ u. length (darts_of web.ends u) - at s.next u) + y
  less_left x y small =
      let f : ℕ → ℕ = λ u. length (darts_of web.ends u) - at r.next u in
      let g : ℕ → ℕ = λ u. length (darts_of web.ends u) - at s.next u in
      less_work web.nodes (sum_below web.nodes f) (sum_below web.nodes g) x y
      (sum_less web.nodes v f g here.0 (λ u low other. ap (λ z. length (darts_of web.ends u) - z) (next_other u other)) (omega (arith, next_here, more))) small

-- ---- the steps of the search

module _ (web : Graph) (s : Lists) (v : ℕ) (at_v : IsAt web s v) where
  -- a dart to a found node
  pub goes_past : at s.next v < length (darts_of web.ends v) → IsFound web s (far_end_at web v (at s.next v)) → GoesOnAt web s (with_dart s v) v v
  goes_past more far_found = record {
    at_w = still_at web s v at_v v at_v.here (0, refl) more far_found;
    keeps = λ u u_found. u_found;
    less = less_left web s v at_v v at_v.here (0, refl) more far_found (at s.number v) (at s.number v) (omega (arith, at_v.here.1));
  }

  -- a dart to a new node
  pub goes_down : (w : ℕ) → at s.next v < length (darts_of web.ends v) → w ≡ far_end_at web v (at s.next v) → w < web.nodes → web.nodes ≤ at s.number w
      → GoesOnAt web s (with_dart (with_node s w v) v) v w
  goes_down w more is w_in new =
      let i = at s.next v in
      let d = at (darts_of web.ends v) i in
      let dart = darts_of-at web.ends v i more in
      let link : IsLinked web.ends w v = (
        reverse_of d,
        record {
          inside = reverse_below (length web.ends) d dart.0;
          from = sym is;
          to = ap (tail_of web.ends) (reverse-reverse d) ∙ dart.1;
        },
      ) in
      let fits : (v ≡ w) ⊎ (IsFound web s v × IsLinked web.ends w v) = inr (at_v.here, link) in
      let t = with_node s w v in
      let at_w = at_child web s at_v.found w v w_in new fits at_v.here at_v.rest in
      let v_found = keeps_found web s at_v.found w v w_in new fits v at_v.here in
      let w_found = found_now web s at_v.found w v w_in new fits in
      let up : Above (at t.parent) v w = (1, parent_now web s at_v.found w v w_in new fits) in
      let far_found = subst (λ z. IsFound web t z) is w_found in
      record {
        at_w = still_at web t w at_w v v_found up more far_found;
        keeps = keeps_found web s at_v.found w v w_in new fits;
        less = less_left web t w at_w v v_found up more far_found (at t.number w) (at s.number v) (omega (arith, w_found.1));
      }

  -- back to the parent
  pub goes_up : IsDone web s v → at s.parent v ≢ v → GoesOnAt web s s v (at s.parent v)
  goes_up done other = record {
    at_w = record {
      found = at_v.found;
      here = at_v.found.parent_found v at_v.here;
      rest = λ u u_found. elim (at_v.rest u u_found) [
        | inl u_done ↦ inl u_done
        | inr up ↦ elim (first_step (at s.parent) u v up.0 up.1) [
          | inl same ↦ inl (subst (λ z. IsDone web s z) same done)
          | inr further ↦ inr further
        ]
      ];
    };
    keeps = λ u u_found. u_found;
    less = omega (arith, at_v.found.earlier v at_v.here other);
  }

  -- the end
  pub all_done : IsDone web s v → at s.parent v ≡ v → AllDone web s
  all_done done root u u_found = elim (at_v.rest u u_found) [
    | inl u_done ↦ u_done
    | inr up ↦ subst (λ z. IsDone web s z) (sym (stays_alone (at s.parent) v root up.0) ∙ up.1) done
  ]

-- a node has at most as many darts as there are
pub few_darts : (ends : List (ℕ × ℕ)) (v : ℕ) → length (darts_of ends v) ≤ 2 * length ends
few_darts ends v = omega (arith, darts_before-le ends (v + 1), darts_before-next ends v)

-- the search from a root, one step on
pub explored : (web : Graph) (s now t : Lists) (root v : ℕ) (o : Option ℕ) → Exploring web s now root (Some v) → GoesOn web now t v o → Exploring web s t root o
explored web s now t root v None before on = record {
  over = record { found = on.found; done = on.done; keeps = λ u u_found. on.keeps u (before.1.keeps u u_found) };
  root_found = on.keeps root before.1.root_found;
}
explored web s now t root v (Some w) before on = (
  on.at_w,
  record {
    keeps = λ u u_found. on.keeps u (before.1.keeps u u_found);
    root_found = on.keeps root before.1.root_found;
  },
)

-- the nodes below the root, and the root
pub all_and : (web : Graph) (s : Lists) (root : ℕ) → ((v : ℕ) → v < root → IsFound web s v) → IsFound web s root → (v : ℕ) → v < root + 1 → IsFound web s v
all_and web s root all here v low = elim (cases_eq v root) [
  | inl same ↦ subst (λ z. IsFound web s z) (sym same) here
  | inr before ↦ all v (omega (arith, low, before))
]

-- before the first search
pub none_found : (web : Graph) (s : Lists) → HasNone web s → (v : ℕ) → IsFound web s v → ⊥
none_found web s none v found = omega (arith, found.1, none.none v found.0)

-- where all nodes are found and done, it is a forest of a search
pub forest_from : (web : Graph) (s : Lists) → EndsIn web.nodes web.ends → AreFound web s → AllDone web s → ((v : ℕ) → v < web.nodes → IsFound web s v) → IsSearchForest web (at s.parent) (at s.number)
forest_from web s ends_in found done all = record {
  within = λ v v_in. (found.parent_found v (all v v_in)).0;
  linked = λ v v_in. found.linked v (all v v_in);
  earlier = λ v v_in. found.earlier v (all v v_in);
  comparable = λ d d_in.
      let v = tail_of web.ends d in
      let v_found = all v (tail_in web.nodes web.ends ends_in d d_in) in
      let place = darts_of-place web.ends v d d_in refl in
      let is : far_end_at web v place.0 ≡ tail_of web.ends (reverse_of d) = ap (λ x. tail_of web.ends (reverse_of x)) place.2 in
      subst (λ z. AreComparable (at s.parent) v z) is (found.compared v place.0 v_found (omega (arith, place.1, done v v_found))).1;
}
