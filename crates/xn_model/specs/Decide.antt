-- A test that computes whether turns are a map.
use Rattle.std.specs.Prelude.{ℕ, zero, suc, ◌*◌, ◌==◌, ◌&&◌, ◌||◌, not, Bool, true, List, [], ◌∷◌, length, nat_lt}
use Rattle.std.specs.List.{list_any}
use Rattle.xn_model.specs.Graph.{Graph}
use Rattle.xn_model.specs.Map.{tail_of}
use Rattle.xn_model.specs.Permutation.{walk}

-- each number below n passes
abbrev pub each_below : ℕ → (ℕ → Bool) → Bool
each_below zero p = true
each_below (suc n) p = p n && each_below n p

-- next of d is a dart at the same node, of no other dart, and leads to each dart there
abbrev pub turns_well : List (ℕ × ℕ) → (ℕ → ℕ) → ℕ → Bool
turns_well ends next d =
    let n = 2 * length ends in
    nat_lt (next d) n && ((tail_of ends (next d) == tail_of ends d)
    && each_below n (λ e. (not (next d == next e) || d == e) && (not (tail_of ends d == tail_of ends e) || list_any (λ x. x == e) (walk next n d))))

abbrev pub ends_are_in : ℕ → List (ℕ × ℕ) → Bool
ends_are_in nodes [] = true
ends_are_in nodes (p ∷ ends) = nat_lt p.0 nodes && (nat_lt p.1 nodes && ends_are_in nodes ends)

abbrev pub is_map : Graph → (ℕ → ℕ) → Bool
is_map web next = ends_are_in web.nodes web.ends && each_below (2 * length web.ends) (turns_well web.ends next)
