-- Segments in one block have later ends of one class.
use Rattle.std.proofs.Common.{◌≡◌, ◌≢◌, ℕ, zero, suc, ◌*◌, ◌/◌, ◌<◌, ◌≤◌, ◌⊎◌, inl, inr, List, [], ◌∷◌, length, refl, sym, ◌∙◌, ap, subst, arith}
use Rattle.std.proofs.lemmas.Bool.{cases_eq}
use Rattle.xn_model.specs.Cycles.{AreInOneBlock, ShareCycle}
use Rattle.xn_model.specs.Graph.{Graph, ends_at}
use Rattle.xn_model.specs.Map.{WalksTo, reverse_of, tail_of}
use Rattle.xn_model.specs.Permutation.{iterate}
use Rattle.xn_model.proofs.Darts.{reverse-reverse, reverse_below}
use Rattle.xn_ring.proofs.Orbits.{reaches_step, reaches_trans}
use Rattle.xn_model.proofs.Decide.{iterate-step}
use Rattle.xn_genus.proofs.Compress.{half_reverse}
use Rattle.xn_blocks.specs.Search.{Above, later_end}
use Rattle.xn_blocks.proofs.Members.{In, in_here, in_later}
use Rattle.xn_blocks.proofs.Paths.{trail}
use Rattle.xn_blocks.proofs.Arcs.{head, start_in}
use Rattle.xn_blocks.proofs.Neighbours.{AreNeighbours}
use Rattle.xn_blocks.proofs.AlongCycles.{carried}
use Rattle.xn_blocks.proofs.CycleRounds.{round_of_shared}
use Rattle.xn_blocks.proofs.Climbs.{both_above, child_towards, decide_above, first_step}
use Rattle.xn_blocks.proofs.Searched.{IsSearched}
use Rattle.xn_blocks.proofs.Searched as all

module _ (web : Graph) (parent number class : ℕ → ℕ) (known : IsSearched web parent number class) where
  abbrev ends : List (ℕ × ℕ)
  ends = web.ends

  abbrev Up : ℕ → ℕ → Type 0
  Up a v = Above parent a v

  abbrev key : ℕ → ℕ
  key s = class (later_end number (ends_at ends s))

  node_in : (d : ℕ) → d < 2 * length ends → tail_of ends d < web.nodes
  node_in = all.node_in web parent number class known

  head_in : (d : ℕ) → d < 2 * length ends → head ends d < web.nodes
  head_in = all.head_in web parent number class known

  less : (a v : ℕ) → v < web.nodes → Up a v → a ≢ v → number a < number v
  less = all.less web parent number class known

  most : (a v : ℕ) → v < web.nodes → Up a v → number a ≤ number v
  most = all.most web parent number class known

  up_in : (a v : ℕ) → v < web.nodes → Up a v → a < web.nodes
  up_in = all.up_in web parent number class known

  no_loops : (d : ℕ) → d < 2 * length ends → tail_of ends d ≢ head ends d
  no_loops = all.no_loops web parent number class known

  later_is_tail : (d : ℕ) → d < 2 * length ends → number (head ends d) < number (tail_of ends d) → later_end number (ends_at ends (d / 2)) ≡ tail_of ends d
  later_is_tail = all.later_is_tail web parent number class known

  later_is_head : (d : ℕ) → d < 2 * length ends → number (tail_of ends d) < number (head ends d) → later_end number (ends_at ends (d / 2)) ≡ head ends d
  later_is_head = all.later_is_head web parent number class known

  -- ---- segments in one block have later ends of one class

  -- the class k of the child of w that x is below, or of w where x isn't below it
  HasGate : ℕ → ℕ → ℕ → Type 0
  HasGate w x k = ((c : ℕ) × (parent c ≡ w) × (c ≢ w) × Up c x × (class c ≡ k)) ⊎ ((Up w x → ⊥) × (class w ≡ k))

  child_less : (w c : ℕ) → c < web.nodes → parent c ≡ w → c ≢ w → number w < number c
  child_less w c c_in up other = omega (arith, known.forest.earlier c c_in (λ same. other (sym same ∙ up)), ap number up)

  passing : (w c d : ℕ) → c < web.nodes → parent c ≡ w → c ≢ w → d < 2 * length ends → Up c (tail_of ends d) → number (head ends d) < number w → class c ≡ class w
  passing w c d c_in up other d_in below before =
      known.classes.joined c c_in (λ same. other (sym same ∙ up)) (record { dart = d; inside = d_in; below = below; before = omega (arith, before, ap number up) }) ∙ ap class up

  -- over a dart that doesn't meet w the gate stays
  gate_step : (w k d : ℕ) → d < 2 * length ends → tail_of ends d ≢ w → head ends d ≢ w → w < web.nodes → HasGate w (tail_of ends d) k → HasGate w (head ends d) k
  unfolding HasGate
  gate_step w k d d_in x_other y_other w_in gate =
      let x = tail_of ends d in
      let y = head ends d in
      let x_in = node_in d d_in in
      let y_in = head_in d d_in in
      elim gate [
        | inl (c, up, other, below, is) ↦ elim (known.forest.comparable d d_in) [
          | inl x_up ↦ inl (c, up, other, reaches_trans parent y x c x_up below, is)
          | inr y_up ↦ elim (both_above parent c y x below y_up) [
            | inl here ↦ inl (c, up, other, here, is)
            | inr y_c ↦ elim (first_step parent y c y_c.0 y_c.1) [
              | inl same ↦ inl (c, up, other, (0, sym same), is)
              | inr further ↦
                  let over : Up y w = subst (λ z. Up y z) up further in
                  let low = less y w w_in over y_other in
                  inr ((λ w_y. absurd (omega (arith, low, most w y y_in w_y))), sym (passing w c d (up_in c x x_in below) up other d_in below low) ∙ is)
            ]
          ]
        ]
        | inr (apart, is) ↦ elim (known.forest.comparable d d_in) [
          | inl x_up ↦ elim (decide_above web parent number known.forest (number y) w y y_in (omega arith)) [
            | inr none ↦ inr (none, is)
            | inl w_y ↦
                let child = child_towards parent w y w_y.0 w_y.1 y_other in
                let c = child.0 in
                let r = reverse_of d in
                let back : head ends r ≡ x = ap (tail_of ends) (reverse-reverse d) in
                elim (both_above parent w x y w_y x_up) [
                  | inl below ↦ absurd (apart below)
                  | inr over ↦
                      let low = less x w w_in over x_other in
                      inl (
                        c,
                        child.1,
                        child.2,
                        child.3,
                        passing w c r (up_in c y y_in child.3) child.1 child.2 (reverse_below (length ends) d d_in) child.3 (omega (arith, low, ap number back)) ∙ is,
                      )
                ]
          ]
          | inr y_up ↦ inr ((λ w_y. apart (reaches_trans parent x y w y_up w_y)), is)
        ]
      ]

  gate_walk : (w k x : ℕ) (ds : List ℕ) (y : ℕ) → w < web.nodes → WalksTo ends x ds y → (In w (trail ends ds y) → ⊥) → HasGate w x k → HasGate w y k
  gate_walk w k x [] y w_in walk free gate = subst (λ z. HasGate w z k) walk gate
  gate_walk w k x (d ∷ ds) y w_in walk free gate =
      let t = tail_of ends d in
      let h = head ends d in
      let rest_free : In w (trail ends ds y) → ⊥ = λ there. free (in_later w t (trail ends ds y) there) in
      let t_other : t ≢ w = λ same. free (in_here w t (trail ends ds y) (sym same)) in
      let h_other : h ≢ w = λ same. rest_free (subst (λ z. In z (trail ends ds y)) same (start_in ends h ds y walk.2)) in
      gate_walk w k h ds y w_in walk.2 rest_free (gate_step w k d walk.0 t_other h_other w_in (subst (λ z. HasGate w z k) (sym walk.1) gate))

  -- down from a child of w to a node with a dart to w all nodes have one class
  chain : (w c e k z : ℕ) → c < web.nodes → parent c ≡ w → c ≢ w → e < 2 * length ends → head ends e ≡ w → z < web.nodes → iterate parent k z ≡ c → Up z (tail_of ends e) → class z ≡ class c
  chain w c e zero z c_in up other e_in to z_in is below = ap class is
  chain w c e (suc k) z c_in up other e_in to z_in is below =
      let p = parent z in
      let p_in = known.forest.within z z_in in
      let is' : iterate parent k p ≡ c = iterate-step parent k z ∙ is in
      let rest = chain w c e k p c_in up other e_in to p_in is' (reaches_step parent (tail_of ends e) z below) in
      elim (cases_eq p z) [
        | inl root ↦ ap class (sym root) ∙ rest
        | inr above ↦
            known.classes.joined z z_in above (record {
              dart = e;
              inside = e_in;
              below = below;
              before = omega (arith, ap number to, child_less w c c_in up other, most c p p_in (k, is'));
            }) ∙ rest
      ]

  module _ (d : ℕ) (d_in : d < 2 * length ends) where
    abbrev w : ℕ
    w = tail_of ends d

    abbrev y : ℕ
    y = head ends d

    w_in : w < web.nodes
    w_in = node_in d d_in

    y_in : y < web.nodes
    y_in = head_in d d_in

    y_other : y ≢ w
    y_other same = no_loops d d_in (sym same)

    key_above : Up w y → key (d / 2) ≡ class y
    key_above up = ap class (later_is_head d d_in (less w y y_in up (no_loops d d_in)))

    key_below : Up y w → key (d / 2) ≡ class w
    key_below up = ap class (later_is_tail d d_in (less y w w_in up y_other))

    down : (c : ℕ) → parent c ≡ w → c ≢ w → Up c y → class y ≡ class c
    down c up other below =
        let r = reverse_of d in
        chain w c r below.0 y (up_in c y y_in below) up other (reverse_below (length ends) d d_in) (ap (tail_of ends) (reverse-reverse d)) y_in below.1 (0, refl)

    gate_of : HasGate w y (key (d / 2))
    unfolding HasGate
    gate_of = elim (known.forest.comparable d d_in) [
      | inl up ↦
          let child = child_towards parent w y up.0 up.1 y_other in
          inl (child.0, child.1, child.2, child.3, sym (down child.0 child.1 child.2 child.3) ∙ sym (key_above up))
      | inr up ↦ inr ((λ w_y. absurd (omega (arith, less w y y_in w_y (no_loops d d_in), less y w w_in up y_other))), sym (key_below up))
    ]

    key_of_gate : (k : ℕ) → HasGate w y k → k ≡ key (d / 2)
    unfolding HasGate
    key_of_gate k gate = elim gate [
      | inl (c, up, other, below, is) ↦ elim (known.forest.comparable d d_in) [
        | inl above ↦ sym is ∙ sym (down c up other below) ∙ sym (key_above above)
        | inr above ↦ absurd (omega (arith, child_less w c (up_in c y y_in below) up other, most c y y_in below, most y w w_in above))
      ]
      | inr (apart, is) ↦ elim (known.forest.comparable d d_in) [
        | inl above ↦ absurd (apart above)
        | inr above ↦ sym is ∙ sym (key_below above)
      ]
    ]

  neighbours_agree : (d e : ℕ) → AreNeighbours ends d e → key (d / 2) ≡ key (e / 2)
  neighbours_agree d e near =
      let w = tail_of ends d in
      let start = subst (λ z. HasGate z (head ends e) (key (e / 2))) near.one_node (gate_of e near.t_in) in
      let end = gate_walk w (key (e / 2)) (head ends e) near.between (head ends d) (node_in d near.s_in) near.way.walks near.away start in
      sym (key_of_gate d near.s_in (key (e / 2)) end)

  pub key_from_block : (s t : ℕ) → AreInOneBlock ends s t → key s ≡ key t
  key_from_block s t one = elim one [
    | inl same ↦ ap key same
    | inr shared ↦
        let half : (x : ℕ) → (2 * x) / 2 ≡ x = λ x. omega arith in
        let shared' = subst (λ z. ShareCycle ends ((2 * s) / 2) z) (sym (half t)) (subst (λ z. ShareCycle ends z t) (sym (half s)) shared) in
        let on = round_of_shared ends no_loops (2 * s) (2 * t) shared' in
        let Q : ℕ → Type 0 = λ d. key s ≡ key (d / 2) in
        let there : Q (2 * t) = carried ends no_loops Q (λ d held. held ∙ ap key (sym (half_reverse d))) (λ d e near held. held ∙ neighbours_agree d e near) (2 * s) (2 * t) on (ap key (sym (half s))) in
        there ∙ ap key (half t)
  ]
