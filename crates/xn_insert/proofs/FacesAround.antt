-- The faces around a node, the dual web, and where nothing has a name yet.
use Rattle.std.proofs.Common.{◌≡◌, ◌≢◌, ℕ, ◌+◌, ◌*◌, ◌^◌, ◌<◌, ◌≤◌, inl, inr, List, [], ◌∷◌, ◌++◌, length, replicate, set, refl, sym, ◌∙◌, ap, subst, arith, length-append}
use Rattle.std.proofs.lemmas.Bool.{cases_eq}
use Rattle.std.proofs.lemmas.List.{get_or-replicate, get_or-set_other, get_or-set_same, length-replicate, length-set}
use Rattle.xn_model.specs.Lists.{at}
use Rattle.xn_model.specs.Map.{tail_of}
use Rattle.xn_model.proofs.Darts.{tail-even, tail-odd, tail-push, tail-push_even, tail-push_odd}
use Rattle.xn_genus.proofs.Compress.{EndsIn_from}
use Rattle.xn_graph.specs.Limits.{IsLimitedWeb, graph_of}
use Rattle.xn_map.specs.Listed.{IsListedMap, ListedMap}
use Rattle.xn_insert.specs.Routed.{AreDualEnds, IsCornerIn, IsDual, MarkCorners, NamesFaces}

module _ (m : ListedMap) (names : List ℕ) (v : ℕ) where
  pub corners_none : MarkCorners m names v 0 (replicate (length m.next) (length m.next))
  corners_none = record {
    size = length-replicate (length m.next) (length m.next);
    sound = λ x x_in. inl (get_or-replicate (length m.next) x (length m.next) 0 x_in);
    all = λ c low at_v. absurd (omega (arith, low));
  }

  module _ (is : IsListedMap m) (known : NamesFaces m names) (c : ℕ) (c_in : c < length m.next) (corners : List ℕ) (old : MarkCorners m names v c corners) where
    abbrev x : ℕ
    x = at names (at m.next c)

    x_in : x < length m.next
    x_in =
        let fits = is.fits in
        known.below (at m.next c) (let low = is.is_map.permutes.below c (omega (arith, c_in, fits)) in omega (arith, low, fits))

    pub corners_more : tail_of m.web.ends c ≡ v → MarkCorners m names v (c + 1) (set corners (at names (at m.next c)) c)
    corners_more at_v =
        let size = old.size in
        let low = x_in in
        let here : at (set corners x c) x ≡ c = get_or-set_same corners x c 0 (omega (arith, low, size)) in
        record {
          size = length-set corners x c ∙ size;
          sound = λ z z_in. elim (cases_eq z x) [
            | inl same ↦ inr (subst (λ k. IsCornerIn m names v k (at (set corners x c) k)) (sym same) (subst (IsCornerIn m names v x) (sym here) (c_in, at_v, refl)))
            | inr other ↦
                let still : at (set corners x c) z ≡ at corners z = get_or-set_other corners x z c 0 other in
                elim (old.sound z z_in) [ inl none ↦ inl (still ∙ none) | inr some ↦ inr (subst (IsCornerIn m names v z) (sym still) some) ]
          ];
          all = λ d d_low d_at. elim (cases_eq (at names (at m.next d)) x) [
            | inl same ↦ let e = ap (at (set corners x c)) same in omega (arith, e, here, c_in)
            | inr other ↦
                let before : d < c = elim (cases_eq d c) [ inl last ↦ absurd (other (ap (λ k. at names (at m.next k)) last)) | inr earlier ↦ omega (arith, d_low, earlier) ] in
                let still : at (set corners x c) (at names (at m.next d)) ≡ at corners (at names (at m.next d)) = get_or-set_other corners x (at names (at m.next d)) c 0 other in
                let was = old.all d before d_at in
                omega (arith, still, was)
          ];
        }

    pub corners_same : tail_of m.web.ends c ≢ v → MarkCorners m names v (c + 1) corners
    corners_same away = record {
      size = old.size;
      sound = old.sound;
      all = λ d d_low d_at. old.all d (elim (cases_eq d c) [ inl last ↦ absurd (away (ap (tail_of m.web.ends) (sym last) ∙ d_at)) | inr earlier ↦ omega (arith, d_low, earlier) ]) d_at;
    }

-- ---- the dual web

pub dual_more : (names : List ℕ) (s : ℕ) (ends : List (ℕ × ℕ)) → AreDualEnds names s ends → AreDualEnds names (s + 1) (ends ++ (at names (2 * s), at names (2 * s + 1)) ∷ [])
dual_more names s ends old =
    let p : ℕ × ℕ = (at names (2 * s), at names (2 * s + 1)) in
    let size = old.size in
    let long = length-append ends (p ∷ []) in
    record {
      size = omega (arith, long, size);
      tails = λ d d_low. elim (cases_eq d (2 * s)) [
        | inl first ↦
            let is : d ≡ 2 * length ends = omega (arith, first, size) in
            ap (tail_of (ends ++ p ∷ [])) is ∙ tail-push_even ends p ∙ ap (at names) (sym first)
        | inr not_first ↦ elim (cases_eq d (2 * s + 1)) [
          | inl second ↦
              let is : d ≡ 2 * length ends + 1 = omega (arith, second, size) in
              ap (tail_of (ends ++ p ∷ [])) is ∙ tail-push_odd ends p ∙ ap (at names) (sym second)
          | inr not_second ↦
              let low : d < 2 * s = omega (arith, d_low, not_first, not_second) in
              tail-push ends p d (omega (arith, low, size)) ∙ old.tails d low
        ]
      ];
    }

module _ (names : List ℕ) (half : ℕ) (even : 2 * half ≡ length names) (few : length names ≤ 2 ^ 30) (below : (d : ℕ) → d < length names → at names d < length names) (ends : List (ℕ × ℕ))
    (dual : AreDualEnds names half ends) where
  pub dual_limited : IsLimitedWeb (graph_of (length names) ends)
  dual_limited =
      let size = dual.size in
      let tail_low : (d : ℕ) → d < 2 * half → tail_of ends d < length names = λ d low. let t = dual.tails d low in let b = below d (omega (arith, low, even)) in omega (arith, t, b) in
      record {
        ends_in = EndsIn_from (length names) ends (λ s s_in.
            let first = tail_low (2 * s) (omega (arith, s_in, size)) in
            let second = tail_low (2 * s + 1) (omega (arith, s_in, size)) in
            let e = tail-even ends s in
            let o = tail-odd ends s in
            (omega (arith, first, e), omega (arith, second, o)));
        few_nodes = few;
        few_segments = omega (arith, few, even, size);
      }

  pub is_dual : IsDual names (graph_of (length names) ends)
  is_dual =
      let size = dual.size in
      record {
        nodes = refl;
        size = omega (arith, even, size);
        tails = λ d low. dual.tails d (omega (arith, low, even));
      }
