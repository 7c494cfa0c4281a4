-- What one step of the search for flat insertions finds, or rules out.
use Rattle.std.proofs.Common.{◌≡◌, ℕ, take, drop, get_or, ◌-◌, ◌+◌, ◌*◌, ◌<◌, ◌⊎◌, ◌^◌, ◌≤◌, inl, inr, List, [], ◌∷◌, length, refl, sym, ap, ◌∙◌, subst, arith}
use Rattle.std.specs.List.{range_with_len}
use Rattle.std.proofs.lemmas.List.Elements.{All-cons, All-nil}
use Rattle.std.proofs.lemmas.List.{take_rest}
use Rattle.std.proofs.lemmas.List.FromFn.{length-range_with_len, get_or-range_with_len}
use Rattle.xn_model.specs.Graph.{Graph}
use Rattle.xn_model.specs.Insertion.{GrowsFromFirst, ReachesEnd, StandsAfter}
use Rattle.xn_model.specs.Lists.{at}
use Rattle.xn_model.specs.Map.{face_step}
use Rattle.xn_model.specs.Permutation.{Reaches}
use Rattle.xn_brute.specs.Growth.{CanCut, CanCutFrom, CanExtend, CanGoOn, CanHang, IsGrowing}
use Rattle.xn_brute.specs.Insertions.{AreSegments, IsListing}
use Rattle.xn_brute.specs.declared.extensions.Growth.{Growth}
use Rattle.xn_brute.proofs.SameTurns.{AreSame, corner_below, extends_same, stands_from_same, stands_same}

closed_list : (web : Graph) (next : List ℕ) → IsListing web next → (x : ℕ) → x < 2 * length web.ends → at next x < 2 * length web.ends
closed_list web next listing x low = let x_in : x < length next = omega (arith, low, listing.long) in listing.darts x 0 x_in

are_same : (web : Graph) (next : List ℕ) (f : ℕ → ℕ) → IsListing web next → ((x : ℕ) → x < 2 * length web.ends → f x ≡ at next x) → AreSame (2 * length web.ends) f (at next)
are_same web next f listing same = record { same = same; closed = closed_list web next listing }

module _ (growth : Growth) (growing : IsGrowing growth.web.now growth.done.now (growth.segment ∷ growth.later.now) growth.next.now) where
  with_segment : AreSegments growth.web.now (growth.segment ∷ growth.done.now)
  with_segment = All-cons (λ x. x < length growth.web.now.ends) growth.segment growth.done.now growing.follow.0 growing.segments

  -- what can go on with other turns can go on with the list that was made
  pub goes_on_hung : (d c : ℕ) (after : ℕ → ℕ) (made : List ℕ) → IsListing growth.web.now made →
      StandsAfter (2 * length growth.web.now.ends) d c (at growth.next.now) after →
      StandsAfter (2 * length growth.web.now.ends) d c (at growth.next.now) (at made) → CanGoOn growth after → CanGoOn growth (at made)
  goes_on_hung d c after made listing stands made_stands can =
      extends_same growth.web.now (growth.segment ∷ growth.done.now) with_segment after (at made)
      (are_same growth.web.now made after listing (stands_same _ d c (at growth.next.now) after (at made) stands made_stands)) growth.later.now can

  pub goes_on_cut : (c b : ℕ) (between after : ℕ → ℕ) (half made : List ℕ) → b < 2 * length growth.web.now.ends → IsListing growth.web.now half → IsListing growth.web.now made →
      StandsAfter (2 * length growth.web.now.ends) (2 * growth.segment) c (at growth.next.now) between →
      StandsAfter (2 * length growth.web.now.ends) (2 * growth.segment) c (at growth.next.now) (at half) →
      StandsAfter (2 * length growth.web.now.ends) (2 * growth.segment + 1) b between after →
      StandsAfter (2 * length growth.web.now.ends) (2 * growth.segment + 1) b (at half) (at made) → CanGoOn growth after → CanGoOn growth (at made)
  goes_on_cut c b between after half made b_low half_listing listing first half_first second made_second can =
      let web = growth.web.now in
      let halves = are_same web half between half_listing (stands_same _ (2 * growth.segment) c (at growth.next.now) between (at half) first half_first) in
      let from_half = stands_from_same _ (2 * growth.segment + 1) b between (at half) after halves b_low second in
      extends_same web (growth.segment ∷ growth.done.now) with_segment after (at made)
      (are_same web made after listing (stands_same _ (2 * growth.segment + 1) b (at half) after (at made) from_half made_second)) growth.later.now can

  pub corner_of_hang : (d e : ℕ) (can : CanHang growth d e) → can.1.corner < 2 * length growth.web.now.ends
  corner_of_hang d e can = corner_below growth.web.now growth.done.now growing.segments d can.1.corner can.1.is_corner

  pub first_of_cut : (can : CanCut growth) → can.1.first < 2 * length growth.web.now.ends
  first_of_cut can = corner_below growth.web.now growth.done.now growing.segments (2 * growth.segment) can.1.first can.1.is_first

  pub second_of_cut : (c : ℕ) (can : CanCutFrom growth c) → can.second < 2 * length growth.web.now.ends
  second_of_cut c can = corner_below growth.web.now growth.done.now growing.segments (2 * growth.segment + 1) can.second can.is_second

  pub cut_from : (can : CanCut growth) (c : ℕ) → can.1.first ≡ c → CanCutFrom growth c
  cut_from can c same = record {
    second = can.1.second;
    is_second = can.1.is_second;
    one_face = subst (λ x. Reaches (face_step (at growth.next.now)) (at growth.next.now x) (at growth.next.now can.1.second)) same can.1.one_face;
    between = can.1.between;
    after = can.0;
    first_stands = subst (λ x. StandsAfter (2 * length growth.web.now.ends) (2 * growth.segment) x (at growth.next.now) can.1.between) same can.1.first_stands;
    second_stands = can.1.second_stands;
    goes_on = can.2;
  }

  -- one of the three ways serves, or none
  pub some_way : CanExtend growth.web.now growth.done.now (growth.segment ∷ growth.later.now) (at growth.next.now) →
      CanHang growth (2 * growth.segment) (2 * growth.segment + 1) ⊎ (CanHang growth (2 * growth.segment + 1) (2 * growth.segment) ⊎ CanCut growth)
  some_way can = elim can.1.1 [
    | inl first ↦ inl (can.1.0, first, (can.0, can.1.2))
    | inr rest ↦ elim rest [
      | inl second ↦ inr (inl (can.1.0, second, (can.0, can.1.2)))
      | inr cuts ↦ inr (inr (can.1.0, cuts, (can.0, can.1.2)))
    ]
  ]

  pub by_cut : CanCut growth → CanExtend growth.web.now growth.done.now (growth.segment ∷ growth.later.now) (at growth.next.now)
  by_cut can = (can.2.0, (can.0, inr (inr can.1), can.2.1))

-- nothing is left
pub extends_none : (web : Graph) (done rest : List ℕ) (next : ℕ → ℕ) → length rest < 1 → CanExtend web done rest next
extends_none web done [] next none = (next, λ d low. refl)
extends_none web done (s ∷ rest) next none = absurd (omega arith)

-- ---- the first segment

only : (web : Graph) (s : ℕ) → s < length web.ends → AreSegments web (s ∷ [])
only web s low = All-cons (λ x. x < length web.ends) s [] low (All-nil (λ x. x < length web.ends))

first_listing : (web : Graph) → IsListing web (range_with_len 0 (2 * length web.ends))
first_listing web = record {
  long = length-range_with_len 0 (2 * length web.ends);
  darts = λ i d low.
      let long = length-range_with_len 0 (2 * length web.ends) in
      let here = get_or-range_with_len 0 (2 * length web.ends) i d (omega (arith, low, long)) in
      omega (arith, here, low, long);
}

at_first : (web : Graph) (x : ℕ) → x < 2 * length web.ends → x ≡ at (range_with_len 0 (2 * length web.ends)) x
at_first web x low = sym (get_or-range_with_len 0 (2 * length web.ends) x 0 low ∙ omega arith)

pub growing_first : (web : Graph) (s : ℕ) (rest next : List ℕ) → GrowsFromFirst web.ends (s ∷ rest) → length web.ends ≤ 2 ^ 30 → next ≡ range_with_len 0 (2 * length web.ends) → IsGrowing web (s ∷ []) rest next
growing_first web s rest next grows few is = record {
  follow = grows.1;
  segments = only web s grows.0;
  listing = subst (IsListing web) (sym is) (first_listing web);
  few = few;
}

pub reaches_from_first : (web : Graph) (s : ℕ) (rest next : List ℕ) → GrowsFromFirst web.ends (s ∷ rest) → next ≡ range_with_len 0 (2 * length web.ends) →
    CanExtend web (s ∷ []) rest (at next) → (last : ℕ → ℕ) × ReachesEnd web.ends (s ∷ rest) last
reaches_from_first web s rest next grows is can =
    let n = 2 * length web.ends in
    let first : CanExtend web (s ∷ []) rest (at (range_with_len 0 n)) = subst (λ l. CanExtend web (s ∷ []) rest (at l)) is can in
    extends_same web (s ∷ []) (only web s grows.0) (at (range_with_len 0 n)) (λ d. d)
    (record { same = λ x low. sym (at_first web x low); closed = λ x low. low }) rest first

pub first_from_reaches : (web : Graph) (s : ℕ) (rest next : List ℕ) → GrowsFromFirst web.ends (s ∷ rest) → next ≡ range_with_len 0 (2 * length web.ends) →
    (last : ℕ → ℕ) × ReachesEnd web.ends (s ∷ rest) last → CanExtend web (s ∷ []) rest (at next)
first_from_reaches web s rest next grows is can =
    let n = 2 * length web.ends in
    let first = extends_same web (s ∷ []) (only web s grows.0) (λ d. d) (at (range_with_len 0 n)) (are_same web (range_with_len 0 n) (λ d. d) (first_listing web) (at_first web)) rest can in
    subst (λ l. CanExtend web (s ∷ []) rest (at l)) (sym is) first

-- a list that isn't empty is its first element and the rest
pub first_and_rest : (list : List ℕ) → 1 ≤ length list → list ≡ get_or list 0 0 ∷ take (length list - 1) (drop 1 list)
first_and_rest [] some = absurd (omega arith)
first_and_rest (x ∷ xs) some = ap (λ l. x ∷ l) (sym (take_rest (x ∷ xs) 1))
