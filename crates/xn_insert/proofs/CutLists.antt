-- The walks of all edges once their segments are cut, as lists.
use Rattle.std.proofs.Common.{◌≡◌, ℕ, ◌+◌, ◌<◌, inl, inr, List, [], ◌∷◌, ◌++◌, length, map, set, take, sym, ◌∙◌, ap, arith}
use Rattle.std.proofs.Math.ListN.{get_or-map}
use Rattle.std.proofs.lemmas.Bool.{cases_eq, cond-false, cond-true, eq-eqb, ne_eqb}
use Rattle.std.proofs.lemmas.List.{get_or-set_other, get_or-set_same, length-map, length-set, map-append, take_more}
use Rattle.xn_insert.specs.Cuts.{AreCut, cut_darts}
use Rattle.xn_insert.specs.ListedLoose.{walk_of}

-- one more walk
pub walks_cut-more : (cuts : List ℕ) (walks done : List (List ℕ)) (x : ℕ) (walk : List ℕ) → x < length walks → done ≡ map (cut_darts cuts) (take x walks) →
    walk ≡ cut_darts cuts (walk_of walks x) → done ++ walk ∷ [] ≡ map (cut_darts cuts) (take (x + 1) walks)
walks_cut-more cuts walks done x walk low so_far is =
    ap (λ l. l ++ walk ∷ []) so_far
    ∙ ap (λ w. map (cut_darts cuts) (take x walks) ++ w ∷ []) is
    ∙ sym (map-append (cut_darts cuts) (take x walks) (walk_of walks x ∷ []))
    ∙ ap (map (cut_darts cuts)) (sym (take_more walks x [] low))

-- all of them, with that of e
pub are_cut : (cuts : List ℕ) (e : ℕ) (own : List ℕ) (walks : List (List ℕ)) → e < length walks → AreCut cuts e own walks (set (map (cut_darts cuts) walks) e own)
are_cut cuts e own walks e_in =
    let cut = map (cut_darts cuts) walks in
    let size = length-map walks (cut_darts cuts) in
    record {
      size = length-set cut e own ∙ size;
      each = λ x. elim (cases_eq x e) [
        | inl same ↦ ap (walk_of (set cut e own)) same ∙ get_or-set_same cut e own [] (omega (arith, e_in, size)) ∙ sym (cond-true _ _ _ (eq-eqb x e same))
        | inr other ↦ get_or-set_other cut e x own [] other ∙ get_or-map (cut_darts cuts) walks x [] ∙ sym (cond-false _ _ _ (ne_eqb x e other))
      ];
    }
