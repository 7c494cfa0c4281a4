-- Given states: what is decided of a simple drawing, and its box of values.
use Rattle.std.specs.Prelude.{◌≡◌, ℕ, ◌<◌, ◌≤◌, ◌⊎◌, ◌==◌, ◌&&◌, Bool, true, List, [], Option, Some, None, length, filter, insert, if◌then◌else◌, nat_eq}
use Rattle.std.specs.List.{IsDistinct}
use Rattle.xn_model.specs.Graph.{Graph, Independent}
use Rattle.xn_model.specs.Lists.{has, one_if, stands_before}
use Rattle.xn_kinds.specs.Row.{Values}

-- the decided pairs, true where they cross, and along each edge the placed edges in order
pub record State : Type 0 where
  pub decided : ℕ → ℕ → Option Bool
  pub placed : ℕ → List ℕ

-- nothing is decided
abbrev pub empty_state : State
empty_state = record { decided = λ e f. None; placed = λ e. [] }

-- the state with the pair decided
abbrev pub decide : State → ℕ → ℕ → Bool → State
decide s e f x = record s { decided = λ a b. if (a == e) && (b == f) then Some x else s.decided a b }

-- the state with f placed along e, at position i
abbrev pub place : State → ℕ → ℕ → ℕ → State
place s e f i = record s { placed = λ a. if a == e then insert (s.placed e) i f else s.placed a }

-- the pair of e and f, in either order, is decided 1
abbrev pub Crosses : State → ℕ → ℕ → Type 0
Crosses s e f = (s.decided e f ≡ Some true) ⊎ (s.decided f e ≡ Some true)

-- independent pairs are decided, and along each edge different edges are placed that cross it
pub record IsState (g : Graph) (s : State) : Type 0 where
  pub rises : (e f : ℕ) (x : Bool) → s.decided e f ≡ Some x → e < f
  pub below : (e f : ℕ) (x : Bool) → s.decided e f ≡ Some x → f < length g.ends
  pub independent : (e f : ℕ) (x : Bool) → s.decided e f ≡ Some x → Independent g.ends e f
  pub no_repeats : (e : ℕ) → IsDistinct nat_eq (s.placed e)
  pub crosses : (e f : ℕ) → has (s.placed e) f ≡ true → Crosses s e f

-- each decided pair crosses or not, as decided, and the placed edges stand along e in their order
pub record LiesIn (ord : ℕ → List ℕ) (s : State) : Type 0 where
  pub decided : (e f : ℕ) (x : Bool) → s.decided e f ≡ Some x → has (ord e) f ≡ x
  pub placed : (e : ℕ) → filter (has (s.placed e)) (ord e) ≡ s.placed e

-- each value is 0 or 1, and is the given one where the state gives it
pub record InBox (s : State) (v : Values) : Type 0 where
  pub crosses_small : (e f : ℕ) → v.crosses e f ≤ 1
  pub before_small : (e f g : ℕ) → v.before e f g ≤ 1
  pub decided : (e f : ℕ) (x : Bool) → s.decided e f ≡ Some x → v.crosses e f ≡ one_if x
  pub placed : (e f g : ℕ) → has (s.placed e) f ≡ true → has (s.placed e) g ≡ true → v.before e f g ≡ one_if (stands_before (s.placed e) f g)
