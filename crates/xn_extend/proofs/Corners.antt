-- The corners of the segments that are in, by the numbers of the list.
use Rattle.std.proofs.Common.{◌≡◌, ◌≢◌, ◌==◌, ℕ, suc, ◌+◌, ◌*◌, ◌/◌, ◌%◌, ◌<◌, ◌≤◌, inl, inr, true, eqb, List, length, sym, ap, ◌∙◌, arith}
use Rattle.std.proofs.lemmas.Bool.{eq-eqb, eqb-true, or_cases}
use Rattle.std.proofs.lemmas.List.{length-map}
use Rattle.xn_model.specs.Graph.{HasNoLoop, ends_at, touches}
use Rattle.xn_model.specs.Insertion.{IsOldCorner, is_old}
use Rattle.xn_model.specs.Lists.{at}
use Rattle.xn_model.specs.Map.{tail_of}
use Rattle.xn_model.proofs.Darts.{tail-even, tail-odd, touches_tail}
use Rattle.xn_genus.specs.Part.{AreSegmentsApart, IsPart, dart_listed, ends_listed}
use Rattle.xn_genus.proofs.Listed.{part_listed}
use Rattle.xn_extend.proofs.Listing.{any_done, done_any, done_of}

module _ (ends : List (ℕ × ℕ)) (list : List ℕ) (apart : AreSegmentsApart ends list) where
  abbrev e : ℕ → ℕ
  e = dart_listed list

  abbrev listed : List (ℕ × ℕ)
  listed = ends_listed ends list

  pub size_listed : length listed ≡ length list
  size_listed = length-map list (ends_at ends)

  part : IsPart ends listed e
  part = part_listed ends list apart

  pub e_half : (j : ℕ) → e j / 2 ≡ at list (j / 2)
  e_half j = omega arith

  pub e_even : (t : ℕ) → e (2 * t) ≡ 2 * at list t
  e_even t =
      let half : (2 * t) / 2 ≡ t = omega arith in
      let bit : (2 * t) % 2 ≡ 0 = omega arith in
      omega (arith, bit, ap (at list) half)

  pub e_odd : (t : ℕ) → e (suc (2 * t)) ≡ 2 * at list t + 1
  e_odd t =
      let half : suc (2 * t) / 2 ≡ t = omega arith in
      let bit : suc (2 * t) % 2 ≡ 1 = omega arith in
      omega (arith, bit, ap (at list) half)

  -- the two darts of a listed segment are at two nodes
  pub two_nodes : HasNoLoop ends → (t : ℕ) → t < length list → tail_of listed (2 * t) ≢ tail_of listed (suc (2 * t))
  two_nodes no_loop t t_in same =
      let s = at list t in
      let first = part.tails (2 * t) (omega (arith, t_in, size_listed)) ∙ ap (tail_of ends) (e_even t) ∙ tail-even ends s in
      let second = part.tails (suc (2 * t)) (omega (arith, t_in, size_listed)) ∙ ap (tail_of ends) (e_odd t) ∙ tail-odd ends s in
      no_loop s (apart.segments_in t t_in) (sym first ∙ same ∙ second)

  module _ (t : ℕ) (within : t ≤ length list) where
    -- a node with a dart below 2t is old
    pub old_at : (j : ℕ) → j < 2 * t → is_old ends (done_of list t) (tail_of listed j) ≡ true
    old_at j below =
        let j_in : j < 2 * length listed = omega (arith, below, within, size_listed) in
        let here = touches_tail ends (e j) in
        let there : touches (ends_at ends (at list (j / 2))) (tail_of listed j) ≡ true =
        ap (λ s. touches (ends_at ends s) (tail_of listed j)) (sym (e_half j)) ∙ ap (touches (ends_at ends (e j / 2))) (part.tails j j_in) ∙ here in
        done_any (λ s. touches (ends_at ends s) (tail_of listed j)) list t (j / 2) (omega (arith, below)) there

    -- and an old node has one
    pub dart_at : (v : ℕ) → is_old ends (done_of list t) v ≡ true → (j : ℕ) × (j < 2 * t) × (tail_of listed j ≡ v)
    dart_at v old =
        let found = any_done (λ s. touches (ends_at ends s) v) list t old in
        let i = found.0 in
        let i_in : 2 * i + 1 < 2 * length listed = omega (arith, found.1, within, size_listed) in
        let p = ends_at ends (at list i) in
        elim (or_cases (eqb p.0 v) (eqb p.1 v) found.2) [
          | inl first ↦ (
            2 * i,
            omega (arith, found.1),
            part.tails (2 * i) (omega (arith, i_in)) ∙ ap (tail_of ends) (e_even i) ∙ tail-even ends (at list i) ∙ eqb-true _ _ first,
          )
          | inr second ↦ (
            suc (2 * i),
            omega (arith, found.1),
            part.tails (suc (2 * i)) (omega (arith, i_in)) ∙ ap (tail_of ends) (e_odd i) ∙ tail-odd ends (at list i) ∙ eqb-true _ _ second,
          )
        ]

    -- ---- corners

    pub listed_corner : (k c : ℕ) → k < 2 * length listed → IsOldCorner ends (done_of list t) (e k) c → (y : ℕ) × (y < 2 * t) × (e y ≡ c) × (tail_of listed y ≡ tail_of listed k)
    listed_corner k c k_in corner =
        let found = any_done (λ s. s == (c / 2)) list t corner.in_map in
        let i = found.0 in
        let y : ℕ = 2 * i + c % 2 in
        let y_in : y < 2 * t = omega (arith, found.1) in
        let half : y / 2 ≡ i = omega arith in
        let bit : y % 2 ≡ c % 2 = omega arith in
        let is : e y ≡ c = omega (arith, ap (at list) half, bit, eqb-true _ _ found.2) in
        let tails : tail_of listed y ≡ tail_of listed k =
        part.tails y (omega (arith, y_in, within, size_listed)) ∙ ap (tail_of ends) is ∙ corner.same_node ∙ sym (part.tails k k_in) in
        (y, y_in, is, tails)

    pub corner_listed : (k y : ℕ) → k < 2 * length listed → y < 2 * t → tail_of listed y ≡ tail_of listed k → IsOldCorner ends (done_of list t) (e k) (e y)
    corner_listed k y k_in y_in same = record {
      in_map = done_any (λ s. s == (e y / 2)) list t (y / 2) (omega (arith, y_in)) (eq-eqb _ _ (sym (e_half y)));
      same_node = sym (part.tails y (omega (arith, y_in, within, size_listed))) ∙ same ∙ part.tails k k_in;
    }
