-- Two maps of the same nodes, laid over each other.
use Rattle.std.proofs.Common.{◌≡◌, ℕ, zero, suc, ◌+◌, ◌-◌, ◌*◌, ◌<◌, ◌≤◌, ◌⊎◌, inl, inr, Bool, true, false, not, ◌&&◌, ◌||◌, List, [], ◌∷◌, ◌++◌, length, refl, sym, ◌∙◌, ap, subst, arith, length-append}
use Rattle.std.specs.List.{list_any}
use Rattle.std.proofs.lemmas.Bool.{and_from, both_ways, cases_eq, cases_lt, false_from_ne_true, not-true, not_from_false}
use Rattle.std.proofs.lemmas.List.Folds.{list_any-append}
use Rattle.xn_model.specs.Graph.{EndsIn, ends_at, touches}
use Rattle.xn_model.specs.Lists.{one_if}
use Rattle.xn_model.specs.Map.{MeetsEuler, IsMap, component_count, face_count, face_step, is_lone, reverse_of, tail_of}
use Rattle.xn_model.specs.Permutation.{IsSplice, Permutes, Reaches, count_below, cycle_count}
use Rattle.xn_ring.specs.Parts.{HasCyclesOfBoth, IsBeside}
use Rattle.xn_surgery.specs.Overlay.{IsOverlay, ShareNothing, ShareOnly}
use Rattle.xn_model.proofs.Darts.{EndsIn-both, reverse_below, tail-even, tail-odd}
use Rattle.xn_ring.proofs.Counting.{count-differs, count-none, count-same}
use Rattle.xn_ring.proofs.Halves.{has_cycles_of_both}
use Rattle.xn_ring.proofs.Orbits.{reaches_back, reaches_trans}
use Rattle.xn_ring.proofs.Splice.{Permutes-splice, cycle_count-joined, joined, kept_to}
use Rattle.xn_genus.proofs.Compress.{tail_in}
use Rattle.xn_genus.proofs.Counts.{IsSplice-face, Permutes-face}
use Rattle.xn_genus.proofs.Lone.{no_dart_if_lone}
use Rattle.xn_surgery.proofs.OverlayComponents.{EndsPass, components_add, reverse-beyond, tail-left, tail-right}

-- how the nodes without darts add up
lone_add : (n : ℕ) (p q : ℕ → Bool) → count_below n p + count_below n q + count_below n (λ v. not (p v) && not (q v)) ≡ count_below n (λ v. p v && q v) + n
lone_add zero p q = refl
lone_add (suc n) p q = omega (arith, lone_add n p q, one (p n) (q n))
  where
    one : (x y : Bool) → one_if x + one_if y + one_if (not x && not y) ≡ one_if (x && y) + 1
    one true true = refl
    one true false = refl
    one false true = refl
    one false false = refl

not_both : (x y : Bool) → (x ≡ true) ⊎ (y ≡ true) → (not x && not y) ≡ false
not_both true y h = refl
not_both false true h = refl
not_both false false h = elim h [ inl wrong ↦ absurd (both_ways false refl wrong) | inr wrong ↦ absurd (both_ways false refl wrong) ]

split_low : (k d : ℕ) → k ≤ d → (e : ℕ) × (d ≡ k + e)
split_low k d high = (d - k, omega (arith, high))

module _ (nodes : ℕ) (first second : List (ℕ × ℕ)) (f g beside : ℕ → ℕ) (one : IsMap nodes first f) (two : IsMap nodes second g)
    (is : IsBeside (2 * length first) (2 * length second) f g beside) where
  abbrev n : ℕ
  n = 2 * length first

  abbrev k : ℕ
  k = 2 * length second

  abbrev both : List (ℕ × ℕ)
  both = first ++ second

  abbrev tail : ℕ → ℕ
  tail = tail_of both

  size : 2 * length both ≡ n + k
  size = omega (arith, length-append first second)

  tail_low : (d : ℕ) → d < n → tail d ≡ tail_of first d
  tail_low = tail-left first second

  tail_high : (d : ℕ) → tail (n + d) ≡ tail_of second d
  tail_high = tail-right first second

  cases_half : (d : ℕ) → d < n + k → (d < n) ⊎ ((e : ℕ) × (e < k) × (d ≡ n + e))
  cases_half d d_in = elim (cases_lt d n) [
    | inl low ↦ inl low
    | inr high ↦ let e = split_low n d high in inr (e.0, omega (arith, e.1, d_in), e.1)
  ]

  rotations : HasCyclesOfBoth n k f g beside
  rotations = has_cycles_of_both n k f g beside one.permutes two.permutes is

  beside_stays : (d : ℕ) → d < n + k → tail (beside d) ≡ tail d
  beside_stays d d_in = elim (cases_half d d_in) [
    | inl low ↦ ap tail (is.low d low) ∙ tail_low (f d) (one.permutes.below d low) ∙ one.same_node d low ∙ sym (tail_low d low)
    | inr high ↦
        ap tail (ap beside high.2 ∙ is.high high.0 high.1) ∙ tail_high (g high.0) ∙ two.same_node high.0 high.1 ∙ sym (tail_high high.0) ∙ ap tail (sym high.2)
  ]

  both_in : EndsIn nodes both
  both_in = EndsIn-both nodes first second one.ends_in two.ends_in

  round_low : (d e : ℕ) → d < n → e < n → tail d ≡ tail e → Reaches beside d e
  round_low d e d_in e_in same =
      (rotations.low d e d_in e_in).1 (one.one_ring d e d_in e_in (sym (tail_low d d_in) ∙ same ∙ tail_low e e_in))

  round_high : (d e : ℕ) → d < k → e < k → tail (n + d) ≡ tail (n + e) → Reaches beside (n + d) (n + e)
  round_high d e d_in e_in same =
      (rotations.high d e d_in e_in).1 (two.one_ring d e d_in e_in (sym (tail_high d) ∙ same ∙ tail_high e))

  -- faces
  faces_beside : IsBeside n k (face_step f) (face_step g) (face_step beside)
  faces_beside = record {
    low = λ d d_in. is.low (reverse_of d) (reverse_below (length first) d d_in);
    high = λ d d_in. ap beside (reverse-beyond (length first) d) ∙ is.high (reverse_of d) (reverse_below (length second) d d_in);
  }

  faces : HasCyclesOfBoth n k (face_step f) (face_step g) (face_step beside)
  faces = has_cycles_of_both n k (face_step f) (face_step g) (face_step beside) (Permutes-face (length first) f one.permutes) (Permutes-face (length second) g two.permutes) faces_beside

  lone_both : count_below nodes (is_lone both) ≡ count_below nodes (λ v. is_lone first v && is_lone second v)
  lone_both = count-same nodes _ _ (λ v v_in. ap not (list_any-append (λ p. touches p v) first second) ∙ of_or (list_any (λ p. touches p v) first) (list_any (λ p. touches p v) second))
    where
      of_or : (x y : Bool) → not (x || y) ≡ (not x && not y)
      of_or true y = refl
      of_or false y = refl

  lone_sum : count_below nodes (is_lone first) + count_below nodes (is_lone second) + count_below nodes (λ v. not (is_lone first v) && not (is_lone second v)) ≡ count_below nodes (is_lone both) + nodes
  lone_sum = omega (arith, lone_add nodes (is_lone first) (is_lone second), lone_both)

  -- components
  busy_ends : (ys : List (ℕ × ℕ)) → ((s : ℕ) → s < length ys → (not (is_lone second (ends_at ys s).0) ≡ true) × (not (is_lone second (ends_at ys s).1) ≡ true)) → EndsPass (λ v. not (is_lone second v)) ys
  busy_ends [] each = tt
  busy_ends (p ∷ ys) each = let here = each 0 (omega arith) in (here.0, here.1, busy_ends ys (λ s below. each (suc s) (omega arith)))

  busy_tail : (d : ℕ) → d < k → not (is_lone second (tail_of second d)) ≡ true
  busy_tail d d_in = not_from_false _ (false_from_ne_true _ (λ alone. no_dart_if_lone second (tail_of second d) alone d d_in refl))

  components : (w : ℕ) → ShareOnly nodes first second w → component_count nodes both + nodes ≡ component_count nodes first + component_count nodes second
  components w share = components_add nodes w first one.ends_in (λ v. not (is_lone second v))
      (λ v v_in other busy. elim (share v v_in other) [ inl alone ↦ alone | inr alone ↦ absurd (both_ways _ (not-true _ busy) alone) ])
      second two.ends_in
      (busy_ends second (λ s s_in. (
        ap (λ v. not (is_lone second v)) (sym (tail-even second s)) ∙ busy_tail (2 * s) (omega (arith, s_in)),
        ap (λ v. not (is_lone second v)) (sym (tail-odd second s)) ∙ busy_tail (2 * s + 1) (omega (arith, s_in)),
      )))

  -- ---- no shared node
  module _ (share : ShareNothing nodes first second) where
    apart : (d e : ℕ) → d < n → e < k → tail d ≡ tail (n + e) → ⊥
    apart d e d_in e_in same =
        let v = tail_of first d in
        let at_v : tail_of second e ≡ v = sym (tail_high e) ∙ sym same ∙ tail_low d d_in in
        elim (share v (tail_in nodes first one.ends_in d d_in)) [
          | inl alone ↦ no_dart_if_lone first v alone d d_in refl
          | inr alone ↦ no_dart_if_lone second v alone e e_in at_v
        ]

    pub map_apart : IsMap nodes both beside
    map_apart = record {
      ends_in = both_in;
      permutes = let P : ℕ → Type 0 = λ m. Permutes m beside in subst P (sym size) rotations.permutes;
      same_node = λ d d_in. beside_stays d (omega (arith, d_in, size));
      one_ring = λ d e d_in e_in same. elim (cases_half d (omega (arith, d_in, size))) [
        | inl d_low ↦ elim (cases_half e (omega (arith, e_in, size))) [
          | inl e_low ↦ round_low d e d_low e_low same
          | inr e_high ↦ absurd (apart d e_high.0 d_low e_high.1 (same ∙ ap tail e_high.2))
        ]
        | inr d_high ↦ elim (cases_half e (omega (arith, e_in, size))) [
          | inl e_low ↦ absurd (apart e d_high.0 e_low d_high.1 (sym same ∙ ap tail d_high.2))
          | inr e_high ↦
              let P : ℕ → Type 0 = λ x. Reaches beside x e in
              let Q : ℕ → Type 0 = λ x. Reaches beside (n + d_high.0) x in
              subst P (sym d_high.2) (subst Q (sym e_high.2) (round_high d_high.0 e_high.0 d_high.1 e_high.1 (ap tail (sym d_high.2) ∙ same ∙ ap tail e_high.2)))
        ]
      ];
    }

    pub faces_apart : face_count nodes both beside + nodes ≡ face_count nodes first f + face_count nodes second g
    faces_apart =
        let none = count-none nodes (λ v. not (is_lone first v) && not (is_lone second v)) (λ v v_in. not_both (is_lone first v) (is_lone second v) (share v v_in)) in
        let cycles : cycle_count (2 * length both) (face_step beside) ≡ cycle_count (n + k) (face_step beside) = ap (λ m. cycle_count m (face_step beside)) size in
        omega (arith, faces.count, lone_sum, none, cycles)

  -- ---- one shared node
  module _ (a b : ℕ) (after : ℕ → ℕ) (a_in : a < n) (b_in : b < k) (one_node : tail_of first a ≡ tail_of second b)
      (share : ShareOnly nodes first second (tail_of first a)) (splice : IsSplice (n + k) a (n + b) beside after) where
    abbrev w : ℕ
    w = tail_of first a

    wide_a : a < n + k
    wide_a = omega (arith, a_in)

    wide_b : n + b < n + k
    wide_b = omega (arith, b_in)

    after_permutes : Permutes (n + k) after
    after_permutes = Permutes-splice (n + k) a (n + b) beside after rotations.permutes splice wide_a wide_b

    keep : (d e : ℕ) → d < n + k → Reaches beside d e → Reaches after d e
    keep d e d_in there = kept_to (n + k) a (n + b) beside after rotations.permutes after_permutes splice wide_a wide_b (rotations.across a b a_in b_in).0 d e d_in there

    a_to_b : Reaches after a (n + b)
    a_to_b = joined (n + k) a (n + b) beside after rotations.permutes after_permutes splice wide_a wide_b (rotations.across a b a_in b_in).0

    tail_a : tail a ≡ w
    tail_a = tail_low a a_in

    tail_b : tail (n + b) ≡ w
    tail_b = tail_high b ∙ sym one_node

    after_stays : (d : ℕ) → d < n + k → tail (after d) ≡ tail d
    after_stays d d_in = elim (cases_eq d a) [
      | inl at_a ↦ ap tail (ap after at_a ∙ splice.first) ∙ beside_stays (n + b) wide_b ∙ tail_b ∙ sym tail_a ∙ ap tail (sym at_a)
      | inr not_a ↦ elim (cases_eq d (n + b)) [
        | inl at_b ↦ ap tail (ap after at_b ∙ splice.second) ∙ beside_stays a wide_a ∙ tail_a ∙ sym tail_b ∙ ap tail (sym at_b)
        | inr not_b ↦ ap tail (splice.others d d_in not_a not_b) ∙ beside_stays d d_in
      ]
    ]

    -- a dart of the first and one of the second at one node
    meets : (d e : ℕ) → d < n → e < k → tail d ≡ tail (n + e) → Reaches after d (n + e)
    meets d e d_in e_in same =
        let v = tail_of first d in
        let at_v : tail_of second e ≡ v = sym (tail_high e) ∙ sym same ∙ tail_low d d_in in
        elim (cases_eq v w) [
          | inl here ↦
              let to_a = keep d a (omega (arith, d_in)) (round_low d a d_in a_in (tail_low d d_in ∙ here ∙ sym tail_a)) in
              let from_b = keep (n + b) (n + e) wide_b (round_high b e b_in e_in (tail_b ∙ sym here ∙ sym at_v ∙ sym (tail_high e))) in
              reaches_trans after d a (n + e) to_a (reaches_trans after a (n + b) (n + e) a_to_b from_b)
          | inr elsewhere ↦ elim (share v (tail_in nodes first one.ends_in d d_in) elsewhere) [
            | inl alone ↦ absurd (no_dart_if_lone first v alone d d_in refl)
            | inr alone ↦ absurd (no_dart_if_lone second v alone e e_in at_v)
          ]
        ]

    pub map_joined : IsMap nodes both after
    map_joined = record {
      ends_in = both_in;
      permutes = let P : ℕ → Type 0 = λ m. Permutes m after in subst P (sym size) after_permutes;
      same_node = λ d d_in. after_stays d (omega (arith, d_in, size));
      one_ring = λ d e d_in e_in same.
          let d_wide : d < n + k = omega (arith, d_in, size) in
          let e_wide : e < n + k = omega (arith, e_in, size) in
          elim (cases_half d d_wide) [
            | inl d_low ↦ elim (cases_half e e_wide) [
              | inl e_low ↦ keep d e d_wide (round_low d e d_low e_low same)
              | inr e_high ↦
                  let Q : ℕ → Type 0 = λ x. Reaches after d x in
                  subst Q (sym e_high.2) (meets d e_high.0 d_low e_high.1 (same ∙ ap tail e_high.2))
            ]
            | inr d_high ↦ elim (cases_half e e_wide) [
              | inl e_low ↦
                  let Q : ℕ → Type 0 = λ x. Reaches after e x in
                  reaches_back (n + k) after after_permutes e d e_wide (subst Q (sym d_high.2) (meets e d_high.0 e_low d_high.1 (sym same ∙ ap tail d_high.2)))
              | inr e_high ↦
                  let P : ℕ → Type 0 = λ x. Reaches beside x e in
                  let Q : ℕ → Type 0 = λ x. Reaches beside (n + d_high.0) x in
                  keep d e d_wide (subst P (sym d_high.2) (subst Q (sym e_high.2) (round_high d_high.0 e_high.0 d_high.1 e_high.1 (ap tail (sym d_high.2) ∙ same ∙ ap tail e_high.2))))
            ]
          ];
    }

    -- the one shared node
    shared_once : count_below nodes (λ v. not (is_lone first v) && not (is_lone second v)) ≡ 1
    shared_once =
        let w_in = tail_in nodes first one.ends_in a a_in in
        let here : (not (is_lone first w) && not (is_lone second w)) ≡ true = and_from _ _
        (not_from_false _ (false_from_ne_true _ (λ alone. no_dart_if_lone first w alone a a_in refl)))
        (not_from_false _ (false_from_ne_true _ (λ alone. no_dart_if_lone second w alone b b_in (sym one_node)))) in
        let one_more = count-differs nodes (λ v. not (is_lone first v) && not (is_lone second v)) (λ v. false) w w_in here refl
        (λ v v_in other. not_both (is_lone first v) (is_lone second v) (share v v_in other)) in
        let none = count-none nodes (λ v. false) (λ v v_in. refl) in
        omega (arith, one_more, none)

    abbrev m : ℕ
    m = length both

    face_splice : IsSplice (2 * m) (reverse_of a) (reverse_of (n + b)) (face_step beside) (face_step after)
    face_splice =
        let P : ℕ → Type 0 = λ x. IsSplice x a (n + b) beside after in
        IsSplice-face m a (n + b) beside after (subst P (sym size) splice)

    pub faces_joined : face_count nodes both after + nodes ≡ face_count nodes first f + face_count nodes second g
    faces_joined =
        let ra_in = reverse_below (length first) a a_in in
        let rb_in = reverse_below (length second) b b_in in
        let rb : reverse_of (n + b) ≡ n + reverse_of b = reverse-beyond (length first) b in
        let P : ℕ → Type 0 = λ x. Permutes x (face_step beside) in
        let Q : ℕ → Type 0 = λ x. Reaches (face_step beside) (reverse_of a) x in
        let count = cycle_count-joined (2 * m) (reverse_of a) (reverse_of (n + b)) (face_step beside) (face_step after) (subst P (sym size) faces.permutes) face_splice
        (omega (arith, ra_in, size)) (omega (arith, rb, rb_in, size)) (λ there. (faces.across (reverse_of a) (reverse_of b) ra_in rb_in).0 (subst Q rb there)) in
        let cycles : cycle_count (2 * m) (face_step beside) ≡ cycle_count (n + k) (face_step beside) = ap (λ x. cycle_count x (face_step beside)) size in
        omega (arith, count, faces.count, lone_sum, shared_once, cycles)

pub overlay_map : (nodes : ℕ) (first second : List (ℕ × ℕ)) (f g after : ℕ → ℕ) → IsMap nodes first f → IsMap nodes second g →
    IsOverlay nodes first second f g after → IsMap nodes (first ++ second) after
overlay_map nodes first second f g after one two (inl is) = map_apart nodes first second f g after one two is.turns is.share
overlay_map nodes first second f g after one two (inr is) =
    let at = is.2 in
    map_joined nodes first second f g at.beside one two at.two_maps is.0 is.1 after at.first_in at.second_in at.one_node at.share at.turns

pub overlay_faces : (nodes : ℕ) (first second : List (ℕ × ℕ)) (f g after : ℕ → ℕ) → IsMap nodes first f → IsMap nodes second g →
    IsOverlay nodes first second f g after → face_count nodes (first ++ second) after + nodes ≡ face_count nodes first f + face_count nodes second g
overlay_faces nodes first second f g after one two (inl is) = faces_apart nodes first second f g after one two is.turns is.share
overlay_faces nodes first second f g after one two (inr is) =
    let at = is.2 in
    faces_joined nodes first second f g at.beside one two at.two_maps is.0 is.1 after at.first_in at.second_in at.one_node at.share at.turns

pub overlay_components : (nodes : ℕ) (first second : List (ℕ × ℕ)) (f g after : ℕ → ℕ) → IsMap nodes first f → IsMap nodes second g →
    IsOverlay nodes first second f g after → component_count nodes (first ++ second) + nodes ≡ component_count nodes first + component_count nodes second
overlay_components nodes first second f g after one two (inl is) = components nodes first second f g after one two is.turns nodes (λ v v_in other. is.share v v_in)
overlay_components nodes first second f g after one two (inr is) =
    let at = is.2 in
    components nodes first second f g at.beside one two at.two_maps (tail_of first is.0) at.share

pub overlay_flat : (nodes : ℕ) (first second : List (ℕ × ℕ)) (f g after : ℕ → ℕ) → IsMap nodes first f → IsMap nodes second g →
    IsOverlay nodes first second f g after → MeetsEuler nodes first f → MeetsEuler nodes second g → MeetsEuler nodes (first ++ second) after
overlay_flat nodes first second f g after one two is flat_one flat_two =
    omega (arith, flat_one, flat_two, overlay_faces nodes first second f g after one two is, overlay_components nodes first second f g after one two is, length-append first second)
