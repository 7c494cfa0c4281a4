-- The components of two webs that share at most one node.
use Rattle.std.proofs.Common.{◌≡◌, ◌≢◌, ℕ, zero, suc, ◌+◌, ◌*◌, ◌<◌, ◌≤◌, ◌⊎◌, inl, inr, Bool, true, false, List, [], ◌∷◌, ◌++◌, length, refl, sym, ◌∙◌, ap, subst, arith, length-append}
use Rattle.std.proofs.lemmas.Bool.{both_ways, cases_Bool, cases_eq, cases_lt}
use Rattle.std.proofs.lemmas.List.{append_assoc, append-nil, get_or-append-add, get_or_append_left}
use Rattle.xn_model.specs.Graph.{EndsIn, ends_at}
use Rattle.xn_model.specs.Lists.{at}
use Rattle.xn_model.specs.Map.{Joined, WalksTo, component_count, component_labels, is_lone, reverse_of, tail_of}
use Rattle.xn_model.proofs.ComponentWalks.{joined_dart, joined_from_label, joined_trans, label_from_joined}
use Rattle.xn_model.proofs.Components.{EndsIn-front}
use Rattle.xn_model.proofs.Darts.{cases_dart, reverse-even, reverse-odd, reverse_below, tail-even, tail-odd}
use Rattle.xn_genus.proofs.Compress.{tail_in}
use Rattle.xn_genus.proofs.Counts.{no_segments}
use Rattle.xn_genus.proofs.Lone.{no_dart_if_lone}
use Rattle.xn_genus.proofs.Pushed.{component_count-push_apart, component_count-push_same}
pub use Rattle.xn_model.proofs.Darts.{EndsIn-both}

-- the tails of two lists of segments, one after the other
pub tail-left : (xs ys : List (ℕ × ℕ)) (d : ℕ) → d < 2 * length xs → tail_of (xs ++ ys) d ≡ tail_of xs d
tail-left xs ys d d_in =
    let c = cases_dart d in
    let same : ends_at (xs ++ ys) c.0 ≡ ends_at xs c.0 = get_or_append_left xs ys (0, 0) c.0 (omega (arith, c.1, d_in)) in
    elim c.1 [
      | inl even ↦ ap (tail_of (xs ++ ys)) even ∙ tail-even (xs ++ ys) c.0 ∙ ap (λ q. q.0) same ∙ sym (tail-even xs c.0) ∙ ap (tail_of xs) (sym even)
      | inr odd ↦ ap (tail_of (xs ++ ys)) odd ∙ tail-odd (xs ++ ys) c.0 ∙ ap (λ q. q.1) same ∙ sym (tail-odd xs c.0) ∙ ap (tail_of xs) (sym odd)
    ]

pub tail-right : (xs ys : List (ℕ × ℕ)) (d : ℕ) → tail_of (xs ++ ys) (2 * length xs + d) ≡ tail_of ys d
tail-right xs ys d =
    let c = cases_dart d in
    let same : ends_at (xs ++ ys) (length xs + c.0) ≡ ends_at ys c.0 = get_or-append-add xs ys c.0 (0, 0) in
    elim c.1 [
      | inl even ↦
          let far : 2 * length xs + d ≡ 2 * (length xs + c.0) = omega (arith, even) in
          ap (tail_of (xs ++ ys)) far ∙ tail-even (xs ++ ys) (length xs + c.0) ∙ ap (λ q. q.0) same ∙ sym (tail-even ys c.0) ∙ ap (tail_of ys) (sym even)
      | inr odd ↦
          let far : 2 * length xs + d ≡ 2 * (length xs + c.0) + 1 = omega (arith, odd) in
          ap (tail_of (xs ++ ys)) far ∙ tail-odd (xs ++ ys) (length xs + c.0) ∙ ap (λ q. q.1) same ∙ sym (tail-odd ys c.0) ∙ ap (tail_of ys) (sym odd)
    ]

pub reverse-beyond : (m d : ℕ) → reverse_of (2 * m + d) ≡ 2 * m + reverse_of d
reverse-beyond m d =
    let c = cases_dart d in
    elim c.1 [
      | inl even ↦
          let far : 2 * m + d ≡ 2 * (m + c.0) = omega (arith, even) in
          let there : reverse_of d ≡ 2 * c.0 + 1 = ap reverse_of even ∙ reverse-even c.0 in
          ap reverse_of far ∙ reverse-even (m + c.0) ∙ omega (arith, there)
      | inr odd ↦
          let far : 2 * m + d ≡ 2 * (m + c.0) + 1 = omega (arith, odd) in
          let there : reverse_of d ≡ 2 * c.0 = ap reverse_of odd ∙ reverse-odd c.0 in
          ap reverse_of far ∙ reverse-odd (m + c.0) ∙ omega (arith, there)
    ]

-- each end passes
abbrev pub EndsPass : (ℕ → Bool) → List (ℕ × ℕ) → Type 0
EndsPass busy [] = Unit {0}
EndsPass busy (p ∷ ys) = (busy p.0 ≡ true) × (busy p.1 ≡ true) × EndsPass busy ys

EndsPass_at : (busy : ℕ → Bool) (ys : List (ℕ × ℕ)) → EndsPass busy ys → (s : ℕ) → s < length ys → (busy (ends_at ys s).0 ≡ true) × (busy (ends_at ys s).1 ≡ true)
EndsPass_at busy [] h s below = absurd (omega arith)
EndsPass_at busy (p ∷ ys) h zero below = (h.0, h.1)
EndsPass_at busy (p ∷ ys) h (suc s) below = EndsPass_at busy ys h.2 s (omega arith)

tail_passes : (busy : ℕ → Bool) (ys : List (ℕ × ℕ)) → EndsPass busy ys → (d : ℕ) → d < 2 * length ys → busy (tail_of ys d) ≡ true
tail_passes busy ys h d d_in =
    let c = cases_dart d in
    let both = EndsPass_at busy ys h c.0 (omega (arith, c.1, d_in)) in
    elim c.1 [
      | inl even ↦ ap busy (ap (tail_of ys) even ∙ tail-even ys c.0) ∙ both.0
      | inr odd ↦ ap busy (ap (tail_of ys) odd ∙ tail-odd ys c.0) ∙ both.1
    ]

EndsPass-front : (busy : ℕ → Bool) (ys : List (ℕ × ℕ)) (p : ℕ × ℕ) → EndsPass busy (ys ++ p ∷ []) → EndsPass busy ys × (busy p.0 ≡ true) × (busy p.1 ≡ true)
EndsPass-front busy [] p h = (tt, h.0, h.1)
EndsPass-front busy (q ∷ ys) p h = let rest = EndsPass-front busy ys p h.2 in ((h.0, h.1, rest.0), rest.1, rest.2)

-- a walk of the later segments is one of all
joined_right : (xs ys : List (ℕ × ℕ)) (u v : ℕ) (darts : List ℕ) → WalksTo ys u darts v → Joined (xs ++ ys) u v
joined_right xs ys u v [] walk = ([], walk)
joined_right xs ys u v (d ∷ darts) walk =
    let len = length-append xs ys in
    let far = 2 * length xs + d in
    let head = tail_of ys (reverse_of d) in
    let one = joined_dart (xs ++ ys) far (omega (arith, walk.0, len)) in
    let P : ℕ → Type 0 = λ z. Joined (xs ++ ys) z (tail_of (xs ++ ys) (reverse_of far)) in
    let Q : ℕ → Type 0 = λ z. Joined (xs ++ ys) u z in
    let at_head : tail_of (xs ++ ys) (reverse_of far) ≡ head = ap (tail_of (xs ++ ys)) (reverse-beyond (length xs) d) ∙ tail-right xs ys (reverse_of d) in
    joined_trans (xs ++ ys) u head v (subst Q at_head (subst P (tail-right xs ys d ∙ walk.1) one)) (joined_right xs ys head v darts walk.2)

-- of the nodes that are busy, only w has darts of xs
module _ (nodes w : ℕ) (xs : List (ℕ × ℕ)) (xs_in : EndsIn nodes xs) (busy : ℕ → Bool) (share : (v : ℕ) → v < nodes → v ≢ w → busy v ≡ true → is_lone xs v ≡ true) where
  only_w : (d : ℕ) → d < 2 * length xs → busy (tail_of xs d) ≡ true → tail_of xs d ≡ w
  only_w d d_in h = elim (cases_eq (tail_of xs d) w) [
    | inl same ↦ same
    | inr other ↦ absurd (no_dart_if_lone xs (tail_of xs d) (share (tail_of xs d) (tail_in nodes xs xs_in d d_in) other h) d d_in refl)
  ]

  module _ (ys : List (ℕ × ℕ)) (passes : EndsPass busy ys) (u : ℕ) where
    -- where the walk stands: at a busy node that ys joins to u, or off them, having left at w
    abbrev Stands : ℕ → Type 0
    Stands c = ((busy c ≡ true) × Joined ys u c) ⊎ ((busy c ≡ false) × Joined ys u w)

    step_xs : (d : ℕ) → d < 2 * length xs → Stands (tail_of xs d) → Stands (tail_of xs (reverse_of d))
    step_xs d d_in stands =
        let r_in = reverse_below (length xs) d d_in in
        let to_w : Joined ys u w = elim stands [
          | inl here ↦ let P : ℕ → Type 0 = λ z. Joined ys u z in subst P (only_w d d_in here.0) here.1
          | inr off ↦ off.1
        ] in
        elim (cases_Bool (busy (tail_of xs (reverse_of d)))) [
          | inl yes_busy ↦ let P : ℕ → Type 0 = λ z. Joined ys u z in inl (yes_busy, subst P (sym (only_w (reverse_of d) r_in yes_busy)) to_w)
          | inr not_busy ↦ inr (not_busy, to_w)
        ]

    step_ys : (d : ℕ) → d < 2 * length ys → Stands (tail_of ys d) → Stands (tail_of ys (reverse_of d))
    step_ys d d_in stands = elim stands [
      | inl here ↦ inl (tail_passes busy ys passes (reverse_of d) (reverse_below (length ys) d d_in), joined_trans ys u (tail_of ys d) (tail_of ys (reverse_of d)) here.1 (joined_dart ys d d_in))
      | inr off ↦ absurd (both_ways _ off.0 (tail_passes busy ys passes d d_in))
    ]

    walk_stands : (c v : ℕ) (darts : List ℕ) → Stands c → WalksTo (xs ++ ys) c darts v → Stands v
    walk_stands c v [] stands walk = subst Stands walk stands
    walk_stands c v (d ∷ darts) stands walk =
        let len = length-append xs ys in
        walk_stands (tail_of (xs ++ ys) (reverse_of d)) v darts (elim (cases_lt d (2 * length xs)) [
          | inl low ↦
              let r_in = reverse_below (length xs) d low in
              subst Stands (sym (tail-left xs ys (reverse_of d) r_in)) (step_xs d low (subst Stands (sym walk.1 ∙ tail-left xs ys d low) stands))
          | inr high ↦
              let far = beyond d high in
              let e = far.0 in
              let e_in : e < 2 * length ys = omega (arith, far.1, walk.0, len) in
              let at : tail_of ys e ≡ c = sym (tail-right xs ys e) ∙ ap (tail_of (xs ++ ys)) (sym far.1) ∙ walk.1 in
              let head : tail_of (xs ++ ys) (reverse_of d) ≡ tail_of ys (reverse_of e) =
              ap (λ k. tail_of (xs ++ ys) (reverse_of k)) far.1 ∙ ap (tail_of (xs ++ ys)) (reverse-beyond (length xs) e) ∙ tail-right xs ys (reverse_of e) in
              subst Stands (sym head) (step_ys e e_in (subst Stands (sym at) stands))
        ]) walk.2
      where
        beyond : (d : ℕ) → 2 * length xs ≤ d → (e : ℕ) × (d ≡ 2 * length xs + e)
        beyond d high = split (2 * length xs) d high
          where
            split : (k d : ℕ) → k ≤ d → (e : ℕ) × (d ≡ k + e)
            split zero d high = (d, omega arith)
            split (suc k) zero high = absurd (omega arith)
            split (suc k) (suc d) high = let e = split k d (omega arith) in (e.0, omega (arith, e.1))

    joined_within : (v : ℕ) → busy u ≡ true → busy v ≡ true → Joined (xs ++ ys) u v → Joined ys u v
    joined_within v u_busy v_busy there = elim (walk_stands u v there.0 (inl (u_busy, ([], refl))) there.1) [
      | inl here ↦ here.1
      | inr off ↦ absurd (both_ways _ off.0 v_busy)
    ]

  abbrev Adds : List (ℕ × ℕ) → Type 0
  Adds ys = EndsIn nodes ys → EndsPass busy ys → component_count nodes (xs ++ ys) + nodes ≡ component_count nodes xs + component_count nodes ys

  adds_none : Adds []
  adds_none ys_in passes =
      let none = no_segments nodes in
      let same : component_count nodes (xs ++ []) ≡ component_count nodes xs = ap (component_count nodes) (append-nil xs) in
      omega (arith, none, same)

  adds_more : (ys : List (ℕ × ℕ)) (p : ℕ × ℕ) → Adds ys → Adds (ys ++ p ∷ [])
  adds_more ys p before ys_in passes =
      let front = EndsIn-front nodes ys p ys_in in
      let pass = EndsPass-front busy ys p passes in
      let old = before front.0 pass.0 in
      let both = EndsIn-both nodes xs ys xs_in front.0 in
      let assoc : component_count nodes (xs ++ (ys ++ p ∷ [])) ≡ component_count nodes ((xs ++ ys) ++ p ∷ []) = ap (component_count nodes) (sym (append_assoc xs ys (p ∷ []))) in
      elim (cases_eq (at (component_labels nodes ys) p.0) (at (component_labels nodes ys) p.1)) [
        | inl same ↦
            let there = joined_from_label nodes ys front.0 p.0 p.1 front.1 front.2 same in
            let wide = joined_right xs ys p.0 p.1 there.0 there.1 in
            let one = component_count-push_same nodes ys p front.0 front.1 front.2 same in
            let two = component_count-push_same nodes (xs ++ ys) p both front.1 front.2 (label_from_joined nodes (xs ++ ys) both p.0 p.1 wide) in
            omega (arith, old, one, two, assoc)
        | inr differ ↦
            let apart : at (component_labels nodes (xs ++ ys)) p.0 ≢ at (component_labels nodes (xs ++ ys)) p.1 = λ same.
            differ (label_from_joined nodes ys front.0 p.0 p.1 (joined_within ys pass.0 p.0 p.1 pass.1 pass.2 (joined_from_label nodes (xs ++ ys) both p.0 p.1 front.1 front.2 same))) in
            let one = component_count-push_apart nodes ys p front.0 front.1 front.2 differ in
            let two = component_count-push_apart nodes (xs ++ ys) p both front.1 front.2 apart in
            omega (arith, old, one, two, assoc)
      ]

  from_front : (done rest : List (ℕ × ℕ)) → Adds done → Adds (done ++ rest)
  from_front done [] here = subst Adds (sym (append-nil done)) here
  from_front done (p ∷ rest) here = subst Adds (append_assoc done (p ∷ []) rest) (from_front (done ++ p ∷ []) rest (adds_more done p here))

  pub components_add : (ys : List (ℕ × ℕ)) → EndsIn nodes ys → EndsPass busy ys → component_count nodes (xs ++ ys) + nodes ≡ component_count nodes xs + component_count nodes ys
  components_add ys = from_front [] ys adds_none
