-- The values that a state gives, and one value where it gives none.
use Rattle.std.proofs.Common.{ℕ, ◌≤◌, Bool, refl, ap}
use Rattle.std.specs.Prelude.{Option, Some, None}
use Rattle.xn_model.specs.Lists.{one_if, stands_before}
use Rattle.xn_model.proofs.Tests.{one_if-le}
use Rattle.xn_kinds.specs.Row.{Values}
use Rattle.xn_kinds.specs.State.{State, InBox}

abbrev value_or : ℕ → Option Bool → ℕ
value_or z None = z
value_or z (Some x) = one_if x

value_or-le : (z : ℕ) → z ≤ 1 → (o : Option Bool) → value_or z o ≤ 1
value_or-le z small None = small
value_or-le z small (Some x) = one_if-le x

-- the given values, and z for each pair that isn't decided
abbrev pub given_or : ℕ → State → Values
given_or z s = record {
  crosses = λ e f. value_or z (s.decided e f);
  before = λ e f g. one_if (stands_before (s.placed e) f g);
}

pub given_in_box : (z : ℕ) → z ≤ 1 → (s : State) → InBox s (given_or z s)
given_in_box z small s = record {
  crosses_small = λ e f. value_or-le z small (s.decided e f);
  before_small = λ e f g. one_if-le _;
  decided = λ e f x is. ap (value_or z) is;
  placed = λ e f g f_in g_in. refl;
}
