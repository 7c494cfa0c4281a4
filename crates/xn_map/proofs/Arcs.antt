-- Arcs of a ring, whose darts move to another node one after another.
use Rattle.std.proofs.Common.{◌≡◌, ◌≢◌, ℕ, zero, suc, ◌*◌, ◌<◌, ◌≤◌, ◌⊎◌, inl, inr, List, length, refl, sym, ◌∙◌, ap, arith}
use Rattle.std.proofs.lemmas.Bool.{cases_eq, cond-true, cond-false, eq-eqb, ne_eqb}
use Rattle.xn_model.specs.Graph.{Graph}
use Rattle.xn_model.specs.Lists.{position_in}
use Rattle.xn_model.specs.Map.{IsMap, tail_of}
use Rattle.xn_model.specs.Permutation.{Permutes, Reaches, iterate, walk}
use Rattle.xn_surgery.specs.Splitting.{InArc}
use Rattle.xn_model.proofs.Decide.{iterate-step}
use Rattle.xn_map.specs.Anchored.{IsDartOf, StaysBehind}
use Rattle.xn_map.specs.Cutting.{MovesArc, MovesDart}
use Rattle.xn_map.specs.Passing.{MovesNode}
use Rattle.xn_ring.proofs.Orbits.{comes_back, iterate_below, within}

-- a number that is met within k steps is met no later on a longer walk
same_position : (f : ℕ → ℕ) (k d b i : ℕ) → i < k → iterate f i d ≡ b → position_in (walk f (suc k) d) b ≡ position_in (walk f k d) b
same_position f zero d b i i_in there = absurd (omega arith)
same_position f (suc k) d b zero i_in there = cond-true _ _ _ (eq-eqb d b there) ∙ sym (cond-true _ _ _ (eq-eqb d b there))
same_position f (suc k) d b (suc i) i_in there = elim (cases_eq d b) [
  | inl here ↦ cond-true _ _ _ (eq-eqb d b here) ∙ sym (cond-true _ _ _ (eq-eqb d b here))
  | inr other ↦
      cond-false _ _ _ (ne_eqb d b other) ∙ ap suc (same_position f k (f d) b i (omega arith) (iterate-step f i d ∙ there)) ∙ sym (cond-false _ _ _ (ne_eqb d b other))
]

-- each step comes nearer to b
pub nearer : (n : ℕ) (f : ℕ → ℕ) → Permutes n f → (d b : ℕ) → d < n → Reaches f d b → d ≢ b → position_in (walk f n (f d)) b < position_in (walk f n d) b
nearer zero f permutes d b d_in there other = absurd (omega arith)
nearer (suc k) f permutes d b d_in there other =
    let early = within (suc k) f permutes d d_in there.0 in
    let step : position_in (walk f (suc k) d) b ≡ suc (position_in (walk f k (f d)) b) = cond-false _ _ _ (ne_eqb d b other) in
    let same : position_in (walk f (suc k) (f d)) b ≡ position_in (walk f k (f d)) b = met early.0 early.1 (early.2 ∙ there.1) in
    omega (arith, step, same)
  where
    met : (j : ℕ) → j < suc k → iterate f j d ≡ b → position_in (walk f (suc k) (f d)) b ≡ position_in (walk f k (f d)) b
    met zero j_in here = absurd (other here)
    met (suc j) j_in here = same_position f k (f d) b j (omega arith) (iterate-step f j d ∙ here)

-- the darts from a up to the one before d have moved to v, and b is none of them
pub record ArcSoFar (next : ℕ → ℕ) (a b v d : ℕ) (old new : Graph) : Type 0 where
  pub same_nodes : new.nodes ≡ old.nodes
  pub same_length : length new.ends ≡ length old.ends
  pub comes : Reaches next d b
  pub steps : ℕ
  pub walked : iterate next steps a ≡ d
  pub unmet : (l : ℕ) → l < steps → iterate next l a ≢ b
  pub moved : (l : ℕ) → l < steps → tail_of new.ends (iterate next l a) ≡ v
  pub stayed : (x : ℕ) → x < 2 * length old.ends → ((l : ℕ) → l < steps → iterate next l a ≢ x) → tail_of new.ends x ≡ tail_of old.ends x

pub arc_more : (next : ℕ → ℕ) (a b v d e : ℕ) (old mid new : Graph) → ((l : ℕ) → iterate next l a < 2 * length old.ends) → ArcSoFar next a b v d old mid →
    d ≢ b → MovesDart d v mid new → e ≡ next d → ArcSoFar next a b v e old new
arc_more next a b v d e old mid new below so_far other move e_is =
    let old_in : (x : ℕ) → x < 2 * length old.ends → x < 2 * length mid.ends = λ x x_in. omega (arith, x_in, so_far.same_length) in
    record {
      same_nodes = move.same_nodes ∙ so_far.same_nodes;
      same_length = move.same_length ∙ so_far.same_length;
      comes = onward so_far.comes.0 so_far.comes.1;
      steps = suc so_far.steps;
      walked = ap next so_far.walked ∙ sym e_is;
      unmet = λ l l_in same. elim (cases_eq l so_far.steps) [
        | inl last ↦ other (sym so_far.walked ∙ ap (λ i. iterate next i a) (sym last) ∙ same)
        | inr earlier ↦ so_far.unmet l (omega arith) same
      ];
      moved = λ l l_in.
          let x = iterate next l a in
          move.tails x (old_in x (below l)) ∙ elim (cases_eq x d) [
            | inl here ↦ cond-true _ _ _ (eq-eqb x d here)
            | inr away ↦
                let earlier : l ≢ so_far.steps = λ last. away (ap (λ i. iterate next i a) last ∙ so_far.walked) in
                cond-false _ _ _ (ne_eqb x d away) ∙ so_far.moved l (omega arith)
          ];
      stayed = λ x x_in apart.
          move.tails x (old_in x x_in) ∙ cond-false _ _ _ (ne_eqb x d (λ here. apart so_far.steps (omega arith) (so_far.walked ∙ sym here)))
          ∙ so_far.stayed x x_in (λ l l_in. apart l (omega arith));
    }
  where
    onward : (k : ℕ) → iterate next k d ≡ b → Reaches next e b
    onward zero here = absurd (other here)
    onward (suc k) there = (k, ap (iterate next k) e_is ∙ iterate-step next k d ∙ there)

-- a walk along a rotation stays at one node
pub tail_walk : (n : ℕ) (ends : List (ℕ × ℕ)) (next : ℕ → ℕ) → Permutes n next → ((d : ℕ) → d < n → tail_of ends (next d) ≡ tail_of ends d) → (d : ℕ) → d < n →
    (k : ℕ) → tail_of ends (iterate next k d) ≡ tail_of ends d
tail_walk n ends next permutes stays d d_in zero = refl
tail_walk n ends next permutes stays d d_in (suc k) =
    stays (iterate next k d) (iterate_below n next permutes k d d_in) ∙ tail_walk n ends next permutes stays d d_in k

-- b stays where the darts of the arc were
pub stays_behind : (n : ℕ) (next : ℕ → ℕ) (a b v d : ℕ) (old mid : Graph) → n ≡ 2 * length old.ends → Permutes n next → ((e : ℕ) → e < n → tail_of old.ends (next e) ≡ tail_of old.ends e) →
    d < n → ArcSoFar next a b v d old mid → d ≢ b → StaysBehind mid.ends d v b
stays_behind n next a b v d old mid size permutes stays d_in so_far other = elim (cases_eq (tail_of mid.ends d) v) [
  | inl there ↦ inl there
  | inr away ↦
      let b_in : b < n = omega (arith, so_far.comes.1, iterate_below n next permutes so_far.comes.0 d d_in) in
      let d_old : d < 2 * length old.ends = omega (arith, d_in, size) in
      let b_old : b < 2 * length old.ends = omega (arith, b_in, size) in
      let d_stays = so_far.stayed d d_old (λ l l_in same. away (ap (tail_of mid.ends) (sym same) ∙ so_far.moved l l_in)) in
      let b_stays = so_far.stayed b b_old (λ l l_in same. so_far.unmet l l_in same) in
      let one : tail_of old.ends b ≡ tail_of old.ends d = ap (tail_of old.ends) (sym so_far.comes.1) ∙ tail_walk n old.ends next permutes stays d d_in so_far.comes.0 in
      inr (inl ((omega (arith, b_old, so_far.same_length), b_stays ∙ one ∙ sym d_stays), λ same. other (sym same)))
]

-- the ring of a is a and the arc from the next dart back to a
in_ring : (next : ℕ → ℕ) (a : ℕ) (k x : ℕ) → iterate next k a ≡ x → (x ≡ a) ⊎ InArc next (next a) a x
in_ring next a zero x there = inl (sym there)
in_ring next a (suc k) x there = elim (cases_eq x a) [
  | inl here ↦ inl here
  | inr other ↦ inr (elim (in_ring next a k (iterate next k a) refl) [
    | inl first ↦
        let one : next a ≡ x = ap next (sym first) ∙ there in
        (0, one, λ l low. passes_none l low (λ same. other (sym one ∙ same)))
    | inr later ↦ (suc later.0, ap next later.1 ∙ there, λ l low. passes_more l later.0 low later.2 (λ same. other (sym there ∙ ap next (sym later.1) ∙ same)))
  ])
]
  where
    passes_none : (l : ℕ) → l ≤ 0 → next a ≢ a → iterate next l (next a) ≢ a
    passes_none zero low other = other
    passes_none (suc l) low other = absurd (omega (arith, low))

    passes_more : (l i : ℕ) → l ≤ suc i → ((j : ℕ) → j ≤ i → iterate next j (next a) ≢ a) → next (iterate next i (next a)) ≢ a → iterate next l (next a) ≢ a
    passes_more l i low passes other = elim (cases_eq l (suc i)) [
      | inl last ↦ λ same. other (ap (λ j. iterate next j (next a)) (sym last) ∙ same)
      | inr earlier ↦ passes l (omega (arith, low, earlier))
    ]

module _ (nodes : ℕ) (old mid : Graph) (next : ℕ → ℕ) (a u v : ℕ) (map : IsMap nodes old.ends next) (at_u : IsDartOf old.ends u a) (arc : MovesArc next (next a) a v old mid) where
  a_stays : tail_of mid.ends a ≡ tail_of old.ends a
  a_stays = arc.stayed a at_u.0 (λ there. there.2 there.0 (omega arith) there.1)

  turned : (x : ℕ) → x < 2 * length old.ends → tail_of old.ends x ≡ u → (x ≡ a) ⊎ InArc next (next a) a x
  turned x x_in here = let walk = map.one_ring a x at_u.0 x_in (at_u.1 ∙ sym here) in in_ring next a walk.0 x walk.1

  -- once the arc has moved a is alone at its node
  pub last_behind : StaysBehind mid.ends a v a
  last_behind = elim (cases_eq (tail_of mid.ends a) v) [
    | inl there ↦ inl there
    | inr away ↦ inr (inr (λ x is.
        let x_in : x < 2 * length old.ends = omega (arith, is.0, arc.same_length) in
        let apart : InArc next (next a) a x → ⊥ = λ there. away (sym is.1 ∙ arc.moved x x_in there) in
        elim (turned x x_in (sym (arc.stayed x x_in apart) ∙ is.1 ∙ a_stays ∙ at_u.1)) [ inl same ↦ same | inr there ↦ absurd (apart there) ]))
  ]

  pub node_moved : (new : Graph) → MovesDart a v mid new → MovesNode u v old new
  node_moved new move = record {
    same_nodes = move.same_nodes ∙ arc.same_nodes;
    same_length = move.same_length ∙ arc.same_length;
    tails = λ x x_in.
        let x_mid : x < 2 * length mid.ends = omega (arith, x_in, arc.same_length) in
        let n = 2 * length old.ends in
        elim (cases_eq (tail_of old.ends x) u) [
          | inl here ↦ elim (cases_eq x a) [
            | inl same ↦ move.tails x x_mid ∙ cond-true _ _ _ (eq-eqb x a same) ∙ sym (cond-true _ _ _ (eq-eqb _ u here))
            | inr other ↦ elim (turned x x_in here) [
              | inl same ↦ absurd (other same)
              | inr there ↦ move.tails x x_mid ∙ cond-false _ _ _ (ne_eqb x a other) ∙ arc.moved x x_in there ∙ sym (cond-true _ _ _ (eq-eqb _ u here))
            ]
          ]
          | inr away ↦
              let other : x ≢ a = λ same. away (ap (tail_of old.ends) same ∙ at_u.1) in
              let apart : InArc next (next a) a x → ⊥ = λ there.
              away (ap (tail_of old.ends) (sym there.1)
              ∙ tail_walk n old.ends next map.permutes map.same_node (next a) (map.permutes.below a at_u.0) there.0 ∙ map.same_node a at_u.0 ∙ at_u.1) in
              move.tails x x_mid ∙ cond-false _ _ _ (ne_eqb x a other) ∙ arc.stayed x x_in apart ∙ sym (cond-false _ _ _ (ne_eqb _ u away))
        ];
  }

-- from the dart after a the walk comes to a
pub comes_round : (n : ℕ) (next : ℕ → ℕ) → Permutes n next → (a : ℕ) → a < n → Reaches next (next a) a
comes_round n next permutes a a_in = let back = comes_back n next permutes a a_in in (back.0, iterate-step next back.0 a ∙ back.2)
