-- Segments whose later ends have one class are in one block.
use Rattle.std.proofs.Common.{◌≡◌, ◌≢◌, ℕ, zero, suc, ◌*◌, ◌/◌, ◌<◌, ◌≤◌, ◌⊎◌, inl, inr, List, length, sym, ◌∙◌, ap, subst, arith}
use Rattle.xn_model.specs.Cycles.{AreInOneBlock}
use Rattle.xn_model.specs.Graph.{Graph, ends_at}
use Rattle.xn_model.specs.Map.{reverse_of, tail_of}
use Rattle.xn_model.proofs.Darts.{reverse-reverse, reverse_below}
use Rattle.xn_ring.proofs.Orbits.{reaches_step}
use Rattle.xn_genus.proofs.Counts.{stays_alone}
use Rattle.xn_genus.proofs.Compress.{half_reverse}
use Rattle.xn_blocks.specs.Search.{Above, PassesParent, later_end}
use Rattle.xn_blocks.proofs.Arcs.{head}
use Rattle.xn_blocks.proofs.CycleRounds.{in_one_block_sym, in_one_block_trans}
use Rattle.xn_blocks.proofs.Climbs.{GoesRound, both_above, goes_along, goes_back, goes_on, in_block_at}
use Rattle.xn_blocks.proofs.Searched.{IsSearched}
use Rattle.xn_blocks.proofs.Searched as all

module _ (web : Graph) (parent number class : ℕ → ℕ) (known : IsSearched web parent number class) where
  abbrev ends : List (ℕ × ℕ)
  ends = web.ends

  abbrev Up : ℕ → ℕ → Type 0
  Up a v = Above parent a v

  abbrev key : ℕ → ℕ
  key s = class (later_end number (ends_at ends s))

  node_in : (d : ℕ) → d < 2 * length ends → tail_of ends d < web.nodes
  node_in = all.node_in web parent number class known

  head_in : (d : ℕ) → d < 2 * length ends → head ends d < web.nodes
  head_in = all.head_in web parent number class known

  less : (a v : ℕ) → v < web.nodes → Up a v → a ≢ v → number a < number v
  less = all.less web parent number class known

  most : (a v : ℕ) → v < web.nodes → Up a v → number a ≤ number v
  most = all.most web parent number class known

  up_in : (a v : ℕ) → v < web.nodes → Up a v → a < web.nodes
  up_in = all.up_in web parent number class known

  no_loops : (d : ℕ) → d < 2 * length ends → tail_of ends d ≢ head ends d
  no_loops = all.no_loops web parent number class known

  later_is_tail : (d : ℕ) → d < 2 * length ends → number (head ends d) < number (tail_of ends d) → later_end number (ends_at ends (d / 2)) ≡ tail_of ends d
  later_is_tail = all.later_is_tail web parent number class known

  later_is_head : (d : ℕ) → d < 2 * length ends → number (tail_of ends d) < number (head ends d) → later_end number (ends_at ends (d / 2)) ≡ head ends d
  later_is_head = all.later_is_head web parent number class known

  way : (w x y : ℕ) → x < web.nodes → Up y x → ((z : ℕ) → Up z x → Up y z → z ≢ w) → GoesRound ends w x y
  way = all.way web parent number class known

  -- the dart leads from its segment's later end up to the other
  record HangsAt (v d : ℕ) : Type 0 where
    inside : d < 2 * length ends
    from : tail_of ends d ≡ v
    up : Up (head ends d) v

  head_less : (v d : ℕ) → HangsAt v d → number (head ends d) < number v
  head_less v d hangs =
      let P : ℕ → Type 0 = λ z. z < web.nodes in
      less (head ends d) v (subst P hangs.from (node_in d hangs.inside)) hangs.up (λ same. no_loops d hangs.inside (hangs.from ∙ sym same))

  -- each segment has a dart that hangs at its later end
  hanging : (s : ℕ) → s < length ends → (d : ℕ) × (d / 2 ≡ s) × HangsAt (later_end number (ends_at ends s)) d
  hanging s s_in =
      let d = 2 * s in
      let r = reverse_of d in
      let d_in : d < 2 * length ends = omega arith in
      let half : d / 2 ≡ s = omega arith in
      let back : head ends r ≡ tail_of ends d = ap (tail_of ends) (reverse-reverse d) in
      let L : ℕ → ℕ = λ i. later_end number (ends_at ends i) in
      let r_in = reverse_below (length ends) d d_in in
      elim (known.forest.comparable d d_in) [
        | inl tail_up ↦
            let low = less (tail_of ends d) (head ends d) (head_in d d_in) tail_up (no_loops d d_in) in
            let e : head ends d ≡ L s = sym (later_is_head d d_in low) ∙ ap L half in
            (r, half_reverse d ∙ half, record { inside = r_in; from = e; up = subst (λ z. Up z (L s)) (sym back) (subst (λ z. Up (tail_of ends d) z) e tail_up) })
        | inr head_up ↦
            let low = less (head ends d) (tail_of ends d) (node_in d d_in) head_up (λ same. no_loops d d_in (sym same)) in
            let e : tail_of ends d ≡ L s = sym (later_is_tail d d_in low) ∙ ap L half in
            (d, half, record { inside = d_in; from = e; up = subst (λ z. Up (head ends d) z) e head_up })
      ]

  -- ---- segments whose later ends have one class are in one block

  together : (d e : ℕ) → d < 2 * length ends → e < 2 * length ends → tail_of ends e ≡ tail_of ends d → GoesRound ends (tail_of ends d) (head ends e) (head ends d) → AreInOneBlock ends (d / 2) (e / 2)
  together = in_block_at ends known.no_loop

  -- up from a to b, both above v
  between_above : (v x y : ℕ) → x < web.nodes → y < web.nodes → number x < number v → number y < number v → Up x y ⊎ Up y x → GoesRound ends v x y
  between_above v x y x_in y_in x_low y_low either = elim either [
    | inl x_up ↦ goes_back ends v y x (way v y x y_in x_up (λ z z_up _ same. absurd (omega (arith, most z y y_in z_up, y_low, ap number same))))
    | inr y_up ↦ way v x y x_in y_up (λ z z_up _ same. absurd (omega (arith, most z x x_in z_up, x_low, ap number same)))
  ]

  one_later_end : (v d e : ℕ) → HangsAt v d → HangsAt v e → AreInOneBlock ends (d / 2) (e / 2)
  one_later_end v d e one two =
      let P : ℕ → Type 0 = λ z. GoesRound ends z (head ends e) (head ends d) in
      together d e one.inside two.inside (two.from ∙ sym one.from)
      (subst P (sym one.from) (between_above v (head ends e) (head ends d) (head_in e two.inside) (head_in d one.inside) (head_less v e two) (head_less v d one)
      (both_above parent (head ends e) (head ends d) v two.up one.up)))

  -- the dart to the parent
  record UpDart (v : ℕ) : Type 0 where
    dart : ℕ
    hangs : HangsAt v dart
    to : head ends dart ≡ parent v

  up_dart : (v : ℕ) → v < web.nodes → parent v ≢ v → UpDart v
  up_dart v v_in up =
      let link = known.forest.linked v v_in up in
      record { dart = link.0; hangs = record { inside = link.1.inside; from = link.1.from; up = (1, sym link.1.to) }; to = link.1.to }

  module _ (v : ℕ) (v_in : v < web.nodes) (up : parent v ≢ v) (passes : PassesParent web parent number v) where
    abbrev p : ℕ
    p = parent v

    abbrev j : ℕ
    j = passes.dart

    abbrev x : ℕ
    x = tail_of ends j

    abbrev h : ℕ
    h = head ends j

    p_in : p < web.nodes
    p_in = known.forest.within v v_in

    p_less : number p < number v
    p_less = known.forest.earlier v v_in up

    x_in : x < web.nodes
    x_in = node_in j passes.inside

    h_in : h < web.nodes
    h_in = head_in j passes.inside

    v_most : number v ≤ number x
    v_most = most v x x_in passes.below

    h_above_x : Up h x
    h_above_x = elim (known.forest.comparable j passes.inside) [
      | inl x_up ↦ absurd (omega (arith, most x h h_in x_up, v_most, p_less, passes.before))
      | inr h_up ↦ h_up
    ]

    h_above_p : Up h p
    h_above_p = elim (both_above parent h p x h_above_x (reaches_step parent x v passes.below)) [
      | inl here ↦ here
      | inr p_up ↦ absurd (omega (arith, most p h h_in p_up, passes.before))
    ]

    p_hangs : parent p ≢ p
    p_hangs root =
        let same : h ≡ p = sym h_above_p.1 ∙ stays_alone parent p root h_above_p.0 in
        omega (arith, passes.before, ap number same)

    -- from v down to the dart, over p, and to the head of a dart up from p
    round_p : (e : ℕ) → HangsAt p e → GoesRound ends p v (head ends e)
    round_p e hangs =
        let down = goes_back ends p x v (way p x v x_in passes.below (λ z z_up v_up same. absurd (omega (arith, ap number same, p_less, most v z (up_in z x x_in z_up) v_up)))) in
        let x_other : x ≢ p = λ same. absurd (omega (arith, ap number same, p_less, v_most)) in
        let h_other : h ≢ p = λ same. absurd (omega (arith, ap number same, passes.before)) in
        let over = goes_along ends p j passes.inside x_other h_other in
        goes_on ends p v x (head ends e) down (goes_on ends p x h (head ends e) over
        (between_above p h (head ends e) h_in (head_in e hangs.inside) passes.before (head_less p e hangs) (both_above parent h (head ends e) p h_above_p hangs.up)))

    joins_parent : (d e : ℕ) → HangsAt v d → HangsAt p e → AreInOneBlock ends (d / 2) (e / 2)
    joins_parent d e one two =
        let mine = up_dart v v_in up in
        let l = mine.dart in
        let r = reverse_of l in
        let r_in = reverse_below (length ends) l mine.hangs.inside in
        let back : head ends r ≡ v = ap (tail_of ends) (reverse-reverse l) ∙ mine.hangs.from in
        let P : ℕ → ℕ → Type 0 = λ w z. GoesRound ends w z (head ends e) in
        let round : GoesRound ends (tail_of ends e) (head ends r) (head ends e) = subst (P (tail_of ends e)) (sym back) (subst (λ w. P w v) (sym two.from) (round_p e two)) in
        let e_r = together e r two.inside r_in (mine.to ∙ sym two.from) round in
        let Q : ℕ → Type 0 = λ z. AreInOneBlock ends z (e / 2) in
        let l_e : AreInOneBlock ends (l / 2) (e / 2) = subst Q (half_reverse l) (in_one_block_sym ends (e / 2) (r / 2) e_r) in
        in_one_block_trans ends known.no_loop (d / 2) (l / 2) (e / 2) (one_later_end v d l one mine.hangs) l_e

  -- the segments up from v are in one block with those up from k
  record HangTogether (v k : ℕ) : Type 0 where
    node : k < web.nodes
    hangs : parent k ≢ k
    all : (d e : ℕ) → HangsAt v d → HangsAt k e → AreInOneBlock ends (d / 2) (e / 2)

  with_class : (m v : ℕ) → v < web.nodes → number v ≤ m → parent v ≢ v → HangTogether v (class v)
  with_class zero v v_in low up = absurd (omega (arith, low, known.forest.earlier v v_in up))
  with_class (suc m) v v_in low up = elim (known.classes.cases v v_in) [
    | inl own ↦ subst (λ k. HangTogether v k) (sym own) (record { node = v_in; hangs = up; all = one_later_end v })
    | inr joined ↦
        let p = parent v in
        let p_in = known.forest.within v v_in in
        let p_up = p_hangs v v_in up joined.1 in
        let rest = with_class m p p_in (omega (arith, low, known.forest.earlier v v_in up)) p_up in
        let mine = up_dart p p_in p_up in
        subst (λ k. HangTogether v k) (sym joined.2) (record {
          node = rest.node;
          hangs = rest.hangs;
          all = λ d e one two. in_one_block_trans ends known.no_loop (d / 2) (mine.dart / 2) (e / 2) (joins_parent v v_in up joined.1 d mine.dart one mine.hangs) (rest.all mine.dart e mine.hangs two);
        })
  ]

  pub block_from_key : (s t : ℕ) → s < length ends → t < length ends → key s ≡ key t → AreInOneBlock ends s t
  block_from_key s t s_in t_in same =
      let one = hanging s s_in in
      let two = hanging t t_in in
      let v = later_end number (ends_at ends s) in
      let w = later_end number (ends_at ends t) in
      let first = of_class v one.0 one.2 in
      let second = subst (λ k. HangTogether w k) (sym same) (of_class w two.0 two.2) in
      let mine = up_dart (class v) first.node first.hangs in
      let x = first.all one.0 mine.dart one.2 mine.hangs in
      let y = second.all two.0 mine.dart two.2 mine.hangs in
      let all = in_one_block_trans ends known.no_loop (one.0 / 2) (mine.dart / 2) (two.0 / 2) x (in_one_block_sym ends (two.0 / 2) (mine.dart / 2) y) in
      subst (λ z. AreInOneBlock ends s z) two.1 (subst (λ z. AreInOneBlock ends z (two.0 / 2)) one.1 all)
    where
      of_class : (v d : ℕ) → HangsAt v d → HangTogether v (class v)
      of_class v d hangs =
          let v_in : v < web.nodes = subst (λ z. z < web.nodes) hangs.from (node_in d hangs.inside) in
          let up : parent v ≢ v = λ root. no_loops d hangs.inside (hangs.from ∙ sym (stays_alone parent v root hangs.up.0) ∙ hangs.up.1) in
          with_class (number v) v v_in (omega arith) up
