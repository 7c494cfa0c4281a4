-- The darts at a face of the dual web.
use Rattle.std.proofs.Common.{◌≡◌, ℕ, ◌<◌, ◌≤◌, List, length, sym, ◌∙◌, ap, arith}
use Rattle.xn_model.specs.Graph.{Graph}
use Rattle.xn_model.specs.Lists.{at}
use Rattle.xn_model.specs.Map.{reverse_of, tail_of}
use Rattle.xn_model.proofs.Darts.{reverse_below}
use Rattle.xn_graph.specs.Stars.{darts_of}
use Rattle.xn_graph.proofs.DartsOf.{darts_of-at, darts_of-place}
use Rattle.xn_insert.specs.Routed.{IsDual}

module _ (names : List ℕ) (web : Graph) (dual : IsDual names web) where
  pub dual_reverse : (d : ℕ) → d < length names → reverse_of d < length names
  dual_reverse d d_in =
      let size = dual.size in
      let low = reverse_below (length web.ends) d (omega (arith, d_in, size)) in
      omega (arith, low, size)

  module _ (x : ℕ) (darts : List ℕ) (are : darts ≡ darts_of web.ends x) where
    pub dual_dart : (j : ℕ) → j < length darts → (at darts j < length names) × (at names (at darts j) ≡ x)
    dual_dart j j_in =
        let size = dual.size in
        let place = darts_of-at web.ends x j (omega (arith, j_in, ap length are)) in
        let is = ap (λ l. at l j) are in
        let d_in : at darts j < length names = let low = place.0 in omega (arith, low, is, size) in
        (d_in, sym (dual.tails (at darts j) d_in) ∙ ap (tail_of web.ends) is ∙ place.1)

    pub dual_place : (j : ℕ) → length darts ≤ j → (d : ℕ) → d < length names → at names d ≡ x → (k : ℕ) × (k < j) × (at darts k ≡ d)
    dual_place j all d d_in named =
        let size = dual.size in
        let place = darts_of-place web.ends x d (omega (arith, d_in, size)) (dual.tails d d_in ∙ named) in
        (place.0, let low = place.1 in omega (arith, low, all, ap length are), ap (λ l. at l place.0) are ∙ place.2)
