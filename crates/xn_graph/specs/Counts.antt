-- The Euler counts of a map.
use Rattle.std.specs.Prelude.{◌≡◌, ℕ, ◌+◌, ◌*◌, ◌↔◌, length}
use Rattle.xn_model.specs.Graph.{Graph}
use Rattle.xn_model.specs.Map.{MeetsEuler, component_count, face_count}
use Rattle.xn_graph.specs.declared.counts.Euler.{Euler}

-- the counts of the web with these turns
abbrev pub euler_of : Graph → (ℕ → ℕ) → Euler
euler_of web next = record {
  v = web.nodes;
  e = length web.ends;
  f = face_count web.nodes web.ends next;
  c = component_count web.nodes web.ends;
}

-- V - E + F = 2C, by addition
abbrev pub IsBalanced : Euler → Type 0
IsBalanced counts = counts.v + counts.f ≡ 2 * counts.c + counts.e

-- the counts of turns balance exactly where the turns are flat
abbrev pub BalancedWhereFlat : Type 0
BalancedWhereFlat = (web : Graph) (next : ℕ → ℕ) → IsBalanced (euler_of web next) ↔ MeetsEuler web.nodes web.ends next
