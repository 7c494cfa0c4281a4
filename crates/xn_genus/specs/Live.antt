-- Maps of some segments of a web, with the web's own numbers: every other dart is alone. They serve the proofs.
use Rattle.std.specs.Prelude.{◌≡◌, ℕ, zero, suc, ◌+◌, ◌*◌, ◌/◌, ◌<◌, Bool, true, false, List, [], ◌∷◌, length, if◌then◌else◌}
use Rattle.xn_model.specs.Map.{component_count, face_step, is_lone, tail_of}
use Rattle.xn_model.specs.Permutation.{Permutes, Reaches, count_below, cycle_count, without}

-- the segments that live keeps
abbrev pub kept : (ℕ → Bool) → List (ℕ × ℕ) → List (ℕ × ℕ)
kept live [] = []
kept live (p ∷ ends) = if live 0 then p ∷ kept (λ i. live (suc i)) ends else kept (λ i. live (suc i)) ends

-- a map of the live segments: every other dart is alone
pub record IsMapOn (ends : List (ℕ × ℕ)) (live : ℕ → Bool) (next : ℕ → ℕ) : Type 0 where
  pub permutes : Permutes (2 * length ends) next
  pub same_node : (d : ℕ) → d < 2 * length ends → tail_of ends (next d) ≡ tail_of ends d
  pub dead : (d : ℕ) → d < 2 * length ends → live (d / 2) ≡ false → next d ≡ d
  pub one_ring : (d e : ℕ) → d < 2 * length ends → e < 2 * length ends → live (d / 2) ≡ true → live (e / 2) ≡ true →
      tail_of ends d ≡ tail_of ends e → Reaches next d e

-- the faces of the live segments, and one face of two darts for each dead segment
abbrev pub faces_on : ℕ → List (ℕ × ℕ) → (ℕ → Bool) → (ℕ → ℕ) → ℕ
faces_on nodes ends live next = cycle_count (2 * length ends) (face_step next) + count_below nodes (is_lone (kept live ends))

-- genus zero on live segments: a dead one counts among the faces and among the segments
abbrev pub IsFlatOn : ℕ → List (ℕ × ℕ) → (ℕ → Bool) → (ℕ → ℕ) → Type 0
IsFlatOn nodes ends live next = nodes + faces_on nodes ends live next ≡ 2 * component_count nodes (kept live ends) + length ends

-- the rotation with both darts of a segment alone, and passed over
abbrev pub without_segment : ℕ → (ℕ → ℕ) → ℕ → ℕ
without_segment s next = without (2 * s + 1) (without (2 * s) next)

-- the rotation that passes over the segments below k that aren't kept
abbrev pub passing_over : (ℕ → Bool) → ℕ → (ℕ → ℕ) → ℕ → ℕ
passing_over keep zero next = next
passing_over keep (suc k) next = if keep k then passing_over keep k next else without_segment k (passing_over keep k next)
