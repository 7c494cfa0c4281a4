-- What is known of a search that has come to its end, and the later ends of segments.
use Rattle.std.proofs.Common.{◌≡◌, ◌≢◌, ℕ, ◌*◌, ◌/◌, ◌<◌, ◌≤◌, inl, inr, List, length, sym, ◌∙◌, ap, subst, ltb, arith}
use Rattle.std.proofs.lemmas.Bool.{cond-true, cond-false, lt-ltb, le-ltb}
use Rattle.xn_model.specs.Graph.{EndsIn, Graph, HasNoLoop, ends_at}
use Rattle.xn_model.specs.Map.{reverse_of, tail_of}
use Rattle.xn_model.proofs.Darts.{cases_dart, reverse-even, reverse-odd, reverse-reverse, reverse_below, tail-even, tail-odd}
use Rattle.xn_genus.proofs.Compress.{half_reverse, tail_in}
use Rattle.xn_blocks.specs.Search.{Above, AreNodeClasses, IsSearchForest, later_end}
use Rattle.xn_blocks.proofs.Arcs.{head}
use Rattle.xn_blocks.proofs.CycleRounds.{no_dart_loops}
use Rattle.xn_blocks.proofs.Climbs.{GoesRound, above_in, above_less, above_most, climb}

-- what is known of a search that has come to its end
pub record IsSearched (web : Graph) (parent number class : ℕ → ℕ) : Type 0 where
  pub ends_in : EndsIn web.nodes web.ends
  pub no_loop : HasNoLoop web.ends
  pub forest : IsSearchForest web parent number
  pub classes : AreNodeClasses web parent number class

module _ (web : Graph) (parent number class : ℕ → ℕ) (known : IsSearched web parent number class) where
  abbrev pub ends : List (ℕ × ℕ)
  ends = web.ends

  abbrev pub Up : ℕ → ℕ → Type 0
  Up a v = Above parent a v

  abbrev pub key : ℕ → ℕ
  key s = class (later_end number (ends_at ends s))

  pub node_in : (d : ℕ) → d < 2 * length ends → tail_of ends d < web.nodes
  node_in d d_in = tail_in web.nodes ends known.ends_in d d_in

  pub head_in : (d : ℕ) → d < 2 * length ends → head ends d < web.nodes
  head_in d d_in = node_in (reverse_of d) (reverse_below (length ends) d d_in)

  pub less : (a v : ℕ) → v < web.nodes → Up a v → a ≢ v → number a < number v
  less = above_less web parent number known.forest

  pub most : (a v : ℕ) → v < web.nodes → Up a v → number a ≤ number v
  most = above_most web parent number known.forest

  pub up_in : (a v : ℕ) → v < web.nodes → Up a v → a < web.nodes
  up_in a v v_in up = subst (λ z. z < web.nodes) up.1 (above_in web parent number known.forest up.0 v v_in)

  pub way : (w x y : ℕ) → x < web.nodes → Up y x → ((z : ℕ) → Up z x → Up y z → z ≢ w) → GoesRound ends w x y
  way w = climb web parent number known.forest w

  pub no_loops : (d : ℕ) → d < 2 * length ends → tail_of ends d ≢ head ends d
  no_loops = no_dart_loops ends known.no_loop

  -- ---- the later end

  pub later_second : (p : ℕ × ℕ) → number p.0 < number p.1 → later_end number p ≡ p.1
  later_second p low = cond-true (ltb (number p.0) (number p.1)) p.1 p.0 (lt-ltb (number p.0) (number p.1) low)

  pub later_first : (p : ℕ × ℕ) → number p.1 ≤ number p.0 → later_end number p ≡ p.0
  later_first p low = cond-false (ltb (number p.0) (number p.1)) p.1 p.0 (le-ltb (number p.0) (number p.1) low)

  -- the later end of a dart's segment is its tail where that hangs below its head
  pub later_is_tail : (d : ℕ) → d < 2 * length ends → number (head ends d) < number (tail_of ends d) → later_end number (ends_at ends (d / 2)) ≡ tail_of ends d
  later_is_tail d d_in low =
      let c = cases_dart d in
      let s = c.0 in
      let p = ends_at ends s in
      elim c.1 [
        | inl even ↦
            let half : d / 2 ≡ s = omega arith in
            let t : tail_of ends d ≡ p.0 = ap (tail_of ends) even ∙ tail-even ends s in
            let h : head ends d ≡ p.1 = ap (head ends) even ∙ ap (tail_of ends) (reverse-even s) ∙ tail-odd ends s in
            ap (λ i. later_end number (ends_at ends i)) half ∙ later_first p (omega (arith, low, ap number t, ap number h)) ∙ sym t
        | inr odd ↦
            let half : d / 2 ≡ s = omega arith in
            let t : tail_of ends d ≡ p.1 = ap (tail_of ends) odd ∙ tail-odd ends s in
            let h : head ends d ≡ p.0 = ap (head ends) odd ∙ ap (tail_of ends) (reverse-odd s) ∙ tail-even ends s in
            ap (λ i. later_end number (ends_at ends i)) half ∙ later_second p (omega (arith, low, ap number t, ap number h)) ∙ sym t
      ]

  pub later_is_head : (d : ℕ) → d < 2 * length ends → number (tail_of ends d) < number (head ends d) → later_end number (ends_at ends (d / 2)) ≡ head ends d
  later_is_head d d_in low =
      let r = reverse_of d in
      let back : head ends r ≡ tail_of ends d = ap (tail_of ends) (reverse-reverse d) in
      ap (λ i. later_end number (ends_at ends i)) (sym (half_reverse d)) ∙ later_is_tail r (reverse_below (length ends) d d_in) (omega (arith, low, ap number back))
