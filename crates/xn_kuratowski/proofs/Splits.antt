-- A node can be split between any two of its darts; a node without which the others are joined is met once by each face of a flat map.
use Rattle.std.proofs.Common.{◌≡◌, ◌≢◌, ℕ, zero, suc, ◌+◌, ◌*◌, ◌<◌, inl, inr, Bool, true, false, cond, eqb, List, [], ◌∷◌, length, refl, sym, ◌∙◌, ap, subst, arith}
use Rattle.std.proofs.lemmas.Bool.{cases_eq, cases_lt, cond-true, cond-false, eq-eqb, eqb-true, eqb-false, false_from_ne_true, not-true, or_parts}
use Rattle.xn_model.specs.Graph.{Graph, HasNoLoop, ends_at, touches}
use Rattle.xn_model.specs.Map.{IsFlat, IsMap, Joined, face_step, is_lone, reverse_of, tail_of}
use Rattle.xn_model.specs.Permutation.{Reaches, iterate}
use Rattle.xn_model.proofs.ComponentWalks.{joined_dart, joined_sym, joined_trans}
use Rattle.xn_model.proofs.Darts.{cases_dart, reverse-even, reverse-odd, reverse_below, tail-even, tail-odd}
use Rattle.xn_ring.proofs.Orbits.{first_below, within}
use Rattle.xn_genus.proofs.Euler.{euler}
use Rattle.xn_genus.proofs.Lone.{no_dart_if_lone}
use Rattle.xn_genus.proofs.Tests.{some_below, some_below-from, some_below-to}
use Rattle.xn_surgery.specs.Splitting.{InArc, IsSplit}
use Rattle.xn_surgery.proofs.Split.{keeps_components, map_split, splits_a_face}
use Rattle.xn_fewer.proofs.Walks.{filter_to, joined_within}
use Rattle.xn_kuratowski.specs.Reduction.{away, is_clear}
use Rattle.xn_kuratowski.proofs.Rim.{FacesMeetANodeOnce}

-- ---- the web with these tails

abbrev pub web_with : ℕ → (ℕ → ℕ) → List (ℕ × ℕ)
web_with zero f = []
web_with (suc m) f = (f 0, f 1) ∷ web_with m (λ d. f (suc (suc d)))

pub length-web_with : (m : ℕ) (f : ℕ → ℕ) → length (web_with m f) ≡ m
length-web_with zero f = refl
length-web_with (suc m) f = ap suc (length-web_with m (λ d. f (suc (suc d))))

ends-web_with : (m : ℕ) (f : ℕ → ℕ) (s : ℕ) → s < m → ends_at (web_with m f) s ≡ (f (2 * s), f (2 * s + 1))
ends-web_with zero f s s_in = absurd (omega (arith, s_in))
ends-web_with (suc m) f zero s_in = refl
ends-web_with (suc m) f (suc s) s_in =
    let even : suc (suc (2 * s)) ≡ 2 * suc s = omega arith in
    let odd : suc (suc (2 * s + 1)) ≡ 2 * suc s + 1 = omega arith in
    ends-web_with m (λ d. f (suc (suc d))) s (omega (arith, s_in)) ∙ ap (λ d. (f d, f (suc (suc (2 * s + 1))))) even ∙ ap (λ d. (f (2 * suc s), f d)) odd

pub tail-web_with : (m : ℕ) (f : ℕ → ℕ) (d : ℕ) → d < 2 * m → tail_of (web_with m f) d ≡ f d
tail-web_with m f d d_in =
    let c = cases_dart d in
    let is = ends-web_with m f c.0 (omega (arith, c.1, d_in)) in
    elim c.1 [
      | inl even ↦ ap (tail_of (web_with m f)) even ∙ tail-even (web_with m f) c.0 ∙ ap (λ p. p.0) is ∙ ap f (sym even)
      | inr odd ↦ ap (tail_of (web_with m f)) odd ∙ tail-odd (web_with m f) c.0 ∙ ap (λ p. p.1) is ∙ ap f (sym odd)
    ]

-- ---- a split

module _ (nodes a b : ℕ) (ends : List (ℕ × ℕ)) (next : ℕ → ℕ) (map : IsMap nodes ends next) (a_in : a < 2 * length ends) (b_in : b < 2 * length ends) (differ : a ≢ b)
    (one_node : tail_of ends a ≡ tail_of ends b) where
  abbrev n : ℕ
  n = 2 * length ends

  -- the first time that the walk from a comes to b
  pub first : (j : ℕ) × (iterate next j a ≡ b) × ((i : ℕ) → i < j → iterate next i a ≢ b)
  first =
      let there = map.one_ring a b a_in b_in one_node in
      let near = within n next map.permutes a a_in there.0 in
      elim (first_below n (λ k. eqb (iterate next k a) b)) [
        | inl found ↦ (found.0, eqb-true _ _ found.2, λ i early. eqb-false _ _ (found.3 i early))
        | inr none ↦ absurd (eqb-false _ _ (none near.0 near.1) (near.2 ∙ there.1))
      ]

  abbrev pub in_arc : ℕ → Bool
  in_arc d = some_below first.0 (λ i. eqb (iterate next i a) d)

  in_arc_from : (d : ℕ) → InArc next a b d → in_arc d ≡ true
  in_arc_from d arc = some_below-from first.0 (λ i. eqb (iterate next i a) d) arc.0 (elim (cases_lt arc.0 first.0) [
    | inl low ↦ low
    | inr high ↦ absurd (arc.2 first.0 high first.1)
  ]) (eq-eqb _ _ arc.1)

  in_arc_to : (d : ℕ) → in_arc d ≡ true → InArc next a b d
  in_arc_to d h =
      let found = some_below-to first.0 (λ i. eqb (iterate next i a) d) h in
      (found.0, eqb-true _ _ found.2, λ l low. first.2 l (omega (arith, low, found.1)))

  abbrev pub split_web : List (ℕ × ℕ)
  split_web = web_with (length ends) (λ d. cond (in_arc d) nodes (tail_of ends d))

  abbrev pub split_turn : ℕ → ℕ
  split_turn d = cond (eqb (next d) a) b (cond (eqb (next d) b) a (next d))

  pub splits : IsSplit nodes ends next a b split_web split_turn
  splits = record {
    first_in = a_in;
    second_in = b_in;
    differ = differ;
    one_node = one_node;
    all = length-web_with (length ends) _;
    moved = λ d d_in arc. tail-web_with (length ends) _ d d_in ∙ cond-true _ _ _ (in_arc_from d arc);
    stayed = λ d d_in no. tail-web_with (length ends) _ d d_in ∙ cond-false _ _ _ (false_from_ne_true _ (λ h. no (in_arc_to d h)));
    turns = λ d d_in. refl;
  }

-- darts of an arc are of its node
pub arc_tail : (nodes a b : ℕ) (ends : List (ℕ × ℕ)) (next : ℕ → ℕ) → IsMap nodes ends next → a < 2 * length ends → (d : ℕ) → InArc next a b d → tail_of ends d ≡ tail_of ends a
arc_tail nodes a b ends next map a_in d arc = ap (tail_of ends) (sym arc.1) ∙ (along arc.0).1
  where
    along : (k : ℕ) → (iterate next k a < 2 * length ends) × (tail_of ends (iterate next k a) ≡ tail_of ends a)
    along zero = (a_in, refl)
    along (suc k) = let one = along k in (map.permutes.below _ one.0, map.same_node _ one.0 ∙ one.1)

-- ---- a segment that doesn't touch x

pub clear_ends : (x : ℕ) (p : ℕ × ℕ) → is_clear (x ∷ []) p ≡ true → (p.0 ≢ x) × (p.1 ≢ x)
clear_ends x p h =
    let one : (touches p x ≡ false) × (false ≡ false) = or_parts (touches p x) false (not-true _ h) in
    let two : (eqb p.0 x ≡ false) × (eqb p.1 x ≡ false) = or_parts (eqb p.0 x) (eqb p.1 x) one.0 in
    (eqb-false _ _ two.0, eqb-false _ _ two.1)

no_loop_dart : (ends : List (ℕ × ℕ)) → HasNoLoop ends → (d : ℕ) → d < 2 * length ends → tail_of ends (reverse_of d) ≢ tail_of ends d
no_loop_dart ends none d d_in same =
    let c = cases_dart d in
    let s_in : c.0 < length ends = omega (arith, c.1, d_in) in
    elim c.1 [
      | inl even ↦
          none c.0 s_in (sym (tail-even ends c.0) ∙ ap (tail_of ends) (sym even) ∙ sym same ∙ ap (tail_of ends) (ap reverse_of even ∙ reverse-even c.0) ∙ tail-odd ends c.0)
      | inr odd ↦
          none c.0 s_in (sym (tail-even ends c.0) ∙ ap (tail_of ends) (sym (ap reverse_of odd ∙ reverse-odd c.0)) ∙ same ∙ ap (tail_of ends) odd ∙ tail-odd ends c.0)
    ]

-- ---- a face meets the node once

module _ (web : Graph) (next : ℕ → ℕ) (is : IsFlat web next) (no_loop : HasNoLoop web.ends) (x : ℕ)
    (others : (u v : ℕ) → u ≢ x → v ≢ x → is_lone web.ends u ≡ false → is_lone web.ends v ≡ false → Joined (away (x ∷ []) web.ends) u v)
    (d e : ℕ) (d_in : d < 2 * length web.ends) (e_in : e < 2 * length web.ends) (d_at : tail_of web.ends d ≡ x) (e_at : tail_of web.ends e ≡ x) (differ : d ≢ e)
    (face : Reaches (face_step next) d e) where
  abbrev nodes : ℕ
  nodes = web.nodes

  abbrev ends : List (ℕ × ℕ)
  ends = web.ends

  cut : IsSplit nodes ends next d e (split_web nodes d e ends next is.is_map d_in e_in differ (d_at ∙ sym e_at)) (split_turn nodes d e ends next is.is_map d_in e_in differ (d_at ∙ sym e_at))
  cut = splits nodes d e ends next is.is_map d_in e_in differ (d_at ∙ sym e_at)

  abbrev split : List (ℕ × ℕ)
  split = split_web nodes d e ends next is.is_map d_in e_in differ (d_at ∙ sym e_at)

  abbrev turn : ℕ → ℕ
  turn = split_turn nodes d e ends next is.is_map d_in e_in differ (d_at ∙ sym e_at)

  -- a dart elsewhere keeps its tail
  kept : (c : ℕ) → c < 2 * length ends → tail_of ends c ≢ x → tail_of split c ≡ tail_of ends c
  kept c c_in other = cut.stayed c c_in (λ arc. other (arc_tail nodes d e ends next is.is_map d_in c arc ∙ d_at))

  abbrev wide : (c : ℕ) → Type 0
  wide c = c < 2 * length split

  widen : (c : ℕ) → c < 2 * length ends → c < 2 * length split
  widen c c_in = omega (arith, c_in, cut.all)

  segment : (s : ℕ) → s < length (away (x ∷ []) ends) → Joined split (ends_at (away (x ∷ []) ends) s).0 (ends_at (away (x ∷ []) ends) s).1
  segment s s_in =
      let found = filter_to (is_clear (x ∷ [])) ends s s_in in
      let r = found.0 in
      let clear = clear_ends x (ends_at ends r) found.3 in
      let first_in : 2 * r < 2 * length ends = omega (arith, found.1) in
      let second_in : 2 * r + 1 < 2 * length ends = omega (arith, found.1) in
      let first : tail_of split (2 * r) ≡ (ends_at ends r).0 = kept (2 * r) first_in (λ at. clear.0 (sym (tail-even ends r) ∙ at)) ∙ tail-even ends r in
      let second : tail_of split (reverse_of (2 * r)) ≡ (ends_at ends r).1 =
      ap (tail_of split) (reverse-even r) ∙ kept (2 * r + 1) second_in (λ at. clear.1 (sym (tail-odd ends r) ∙ at)) ∙ tail-odd ends r in
      let P : ℕ → Type 0 = λ u. Joined split u (tail_of split (reverse_of (2 * r))) in
      let Q : ℕ → Type 0 = λ v. Joined split (ends_at (away (x ∷ []) ends) s).0 v in
      subst Q (second ∙ ap (λ p. p.1) (sym found.2)) (subst P (first ∙ ap (λ p. p.0) (sym found.2)) (joined_dart split (2 * r) (widen (2 * r) first_in)))

  -- the other end of a dart at x
  abbrev far : ℕ → ℕ
  far c = tail_of ends (reverse_of c)

  far_other : (c : ℕ) → c < 2 * length ends → tail_of ends c ≡ x → far c ≢ x
  far_other c c_in at same = no_loop_dart ends no_loop c c_in (same ∙ sym at)

  far_used : (c : ℕ) → c < 2 * length ends → is_lone ends (far c) ≡ false
  far_used c c_in = false_from_ne_true _ (λ alone. no_dart_if_lone ends (far c) alone (reverse_of c) (reverse_below (length ends) c c_in) refl)

  to_far : (c : ℕ) → c < 2 * length ends → tail_of ends c ≡ x → Joined split (tail_of split c) (far c)
  to_far c c_in at =
      let Q : ℕ → Type 0 = λ v. Joined split (tail_of split c) v in
      subst Q (kept (reverse_of c) (reverse_below (length ends) c c_in) (far_other c c_in at)) (joined_dart split c (widen c c_in))

  still_joined : Joined split (tail_of ends d) nodes
  still_joined =
      let d_now : tail_of split d ≡ nodes = cut.moved d d_in (0, refl, λ l low same. differ (ap (λ k. iterate next k d) (let z : 0 ≡ l = omega (arith, low) in z) ∙ same)) in
      let e_now : tail_of split e ≡ tail_of ends d = cut.stayed e e_in (λ arc. arc.2 arc.0 (omega arith) arc.1) ∙ e_at ∙ sym d_at in
      let between = joined_within (away (x ∷ []) ends) split segment (far e) (far d) (others (far e) (far d) (far_other e e_in e_at) (far_other d d_in d_at) (far_used e e_in) (far_used d d_in)) in
      let from_e = joined_trans split (tail_of split e) (far e) (far d) (to_far e e_in e_at) between in
      let whole = joined_trans split (tail_of split e) (far d) (tail_of split d) from_e (joined_sym split (tail_of split d) (far d) (to_far d d_in d_at)) in
      let P : ℕ → Type 0 = λ u. Joined split u (tail_of split d) in
      let Q : ℕ → Type 0 = λ v. Joined split (tail_of ends d) v in
      subst Q d_now (subst P e_now whole)

  impossible : ⊥
  impossible =
      let faces = splits_a_face nodes d e ends split next turn is.is_map cut face in
      let components = keeps_components nodes d e ends split next turn is.is_map cut still_joined in
      let bound = euler (suc nodes) split turn (map_split nodes d e ends split next turn is.is_map cut) in
      omega (arith, is.flat, faces, components, bound, cut.all)

pub faces_meet_once : FacesMeetANodeOnce
faces_meet_once web next is no_loop x others d e d_in e_in d_at e_at face = elim (cases_eq d e) [
  | inl same ↦ same
  | inr differ ↦ absurd (impossible web next is no_loop x others d e d_in e_in d_at e_at differ face)
]
