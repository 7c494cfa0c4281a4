-- The edges of the segments.
use Rattle.std.proofs.Common.{◌≡◌, ℕ, zero, suc, ◌+◌, List, [], ◌∷◌, ◌++◌, length, replicate, refl, ap, ◌∙◌, length-append, arith}
use Rattle.std.specs.List.{flat_map, range_with_len}
use Rattle.xn_model.specs.Graph.{Graph}
use Rattle.xn_model.specs.Web.{segments_of}
use Rattle.xn_orders.proofs.Limits.{length-segments_of}
use Rattle.xn_show.specs.Text.{segment_edges}
use Rattle.xn_show.proofs.Appended.{each_more}

pub length-replicate : {X : Type 0} (n : ℕ) (x : X) → length (replicate n x) ≡ n
length-replicate zero x = refl
length-replicate (suc n) x = ap suc (length-replicate n x)

-- the edges of the segments of one edge more
pub edges_more : (ord : ℕ → List ℕ) (e : ℕ) (crossers mid new : List ℕ) → crossers ≡ ord e → mid ≡ segment_edges (range_with_len 0 e) ord → new ≡ mid ++ replicate (length crossers + 1) e →
    new ≡ segment_edges (range_with_len 0 (e + 1)) ord
edges_more ord e crossers mid new list_is so_far more =
    let one : length crossers + 1 ≡ suc (length (ord e)) = omega (arith, ap length list_is) in
    each_more (λ x. replicate (suc (length (ord x))) x) e [] mid new so_far (more ∙ ap (λ (n : ℕ). mid ++ replicate n e) one)

-- there is an edge for each segment
pub length-segment_edges : (g : Graph) (pairs : List (ℕ × ℕ)) (ord : ℕ → List ℕ) (es : List ℕ) → length (segment_edges es ord) ≡ length (flat_map (segments_of g pairs ord) es)
length-segment_edges g pairs ord [] = refl
length-segment_edges g pairs ord (e ∷ es) =
    omega (
      arith,
      length-append (replicate (suc (length (ord e))) e) (segment_edges es ord),
      length-append (segments_of g pairs ord e) (flat_map (segments_of g pairs ord) es),
      length-replicate (suc (length (ord e))) e,
      length-segments_of g pairs ord e,
      length-segment_edges g pairs ord es,
    )
