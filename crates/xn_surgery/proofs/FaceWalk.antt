-- A face lies in one component.
use Rattle.std.proofs.Common.{◌≡◌, ℕ, zero, suc, ◌*◌, ◌<◌, List, [], length, refl, sym, subst}
use Rattle.xn_model.specs.Map.{Joined, face_step, reverse_of, tail_of}
use Rattle.xn_model.specs.Permutation.{Permutes, Reaches, iterate}
use Rattle.xn_model.proofs.ComponentWalks.{joined_dart, joined_trans}
use Rattle.xn_model.proofs.Darts.{reverse_below}
use Rattle.xn_ring.proofs.Orbits.{iterate_below}
use Rattle.xn_genus.proofs.Counts.{Permutes-face}

module _ (ends : List (ℕ × ℕ)) (next : ℕ → ℕ) (permutes : Permutes (2 * length ends) next) (stays : (d : ℕ) → d < 2 * length ends → tail_of ends (next d) ≡ tail_of ends d) where
  -- a walk along a face is a walk of segments
  face_walk : (d : ℕ) → d < 2 * length ends → (k : ℕ) → Joined ends (tail_of ends d) (tail_of ends (iterate (face_step next) k d))
  face_walk d d_in zero = ([], refl)
  face_walk d d_in (suc k) =
      let x = iterate (face_step next) k d in
      let x_in = iterate_below (2 * length ends) (face_step next) (Permutes-face (length ends) next permutes) k d d_in in
      let step : tail_of ends (face_step next x) ≡ tail_of ends (reverse_of x) = stays (reverse_of x) (reverse_below (length ends) x x_in) in
      let P : ℕ → Type 0 = λ z. Joined ends (tail_of ends d) z in
      subst P (sym step) (joined_trans ends (tail_of ends d) (tail_of ends x) (tail_of ends (reverse_of x)) (face_walk d d_in k) (joined_dart ends x x_in))

  pub joined_along_face : (d e : ℕ) → d < 2 * length ends → Reaches (face_step next) d e → Joined ends (tail_of ends d) (tail_of ends e)
  joined_along_face d e d_in there = let P : ℕ → Type 0 = λ z. Joined ends (tail_of ends d) (tail_of ends z) in subst P there.1 (face_walk d d_in there.0)
