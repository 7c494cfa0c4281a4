-- The darts of a node stay among those that are listed, and the walk round it.
use Rattle.std.proofs.Common.{◌≡◌, ℕ, zero, suc, ◌+◌, ◌*◌, List, [], ◌∷◌, ◌++◌, length, refl, ap, ◌∙◌, arith}
use Rattle.xn_model.specs.Lists.{at}
use Rattle.xn_model.specs.Permutation.{iterate, walk}
use Rattle.xn_graph.specs.Stars.{darts_of}
use Rattle.xn_graph.proofs.DartsOf.{darts_of-at}
use Rattle.xn_model.proofs.Decide.{iterate-step}
use Rattle.xn_show.specs.Darts.{LeadsInside, StaysIn}

-- the darts of a node stay among those that are listed
pub stays_in : (ends : List (ℕ × ℕ)) (next star : List ℕ) (v : ℕ) → star ≡ darts_of ends v → LeadsInside next (2 * length ends) → StaysIn next star
stays_in ends next star v is leads = record {
  least = λ some.
      let there = darts_of-at ends v 0 (omega (arith, some, ap length is)) in
      omega (arith, there.0, ap (λ (l : List ℕ). at l 0) is, leads.long);
  inside = λ d d_in. (let below = leads.inside d (omega (arith, d_in, leads.long)) in omega (arith, below, leads.long));
}

-- ---- the walk round a node

walk_last : (f : ℕ → ℕ) (k d : ℕ) → walk f (suc k) d ≡ walk f k d ++ iterate f k d ∷ []
walk_last f zero d = refl
walk_last f (suc k) d = ap (λ (ds : List ℕ). d ∷ ds) (walk_last f k (f d) ∙ ap (λ (e : ℕ). walk f k (f d) ++ e ∷ []) (iterate-step f k d))

pub walk_more : (f : ℕ → ℕ) (k d : ℕ) → walk f (k + 1) d ≡ walk f k d ++ iterate f k d ∷ []
walk_more f k d = let on : k + 1 ≡ suc k = omega arith in ap (λ (n : ℕ). walk f n d) on ∙ walk_last f k d

pub iterate_more : (f : ℕ → ℕ) (k d : ℕ) → f (iterate f k d) ≡ iterate f (k + 1) d
iterate_more f k d = let on : suc k ≡ k + 1 = omega arith in ap (λ (n : ℕ). iterate f n d) on
