-- The laws on states and boxes.
use Rattle.std.proofs.Common.{◌≡◌, ℕ, List, [], ◌∷◌, refl, sym, ap, ◌∙◌}
use Rattle.std.specs.Prelude.{filter}
use Rattle.xn_model.specs.Lists.{has, one_if, stands_before}
use Rattle.xn_model.proofs.Tests.{one_if-le}
use Rattle.xn_kinds.specs.Laws.{AllLieInEmpty, ValuesAreInTheBox}
use Rattle.xn_kinds.proofs.Stands.{stands_before-filter}

filter-none : (xs : List ℕ) → filter (has []) xs ≡ []
filter-none [] = refl
filter-none (x ∷ xs) = filter-none xs

pub all_lie_in_empty : AllLieInEmpty
all_lie_in_empty ord = record {
  decided = λ e f x is. cc;
  placed = λ e. filter-none (ord e);
}

pub values_are_in_the_box : ValuesAreInTheBox
values_are_in_the_box ord s lies = record {
  crosses_small = λ e f. one_if-le _;
  before_small = λ e f g. one_if-le _;
  decided = λ e f x is. ap one_if (lies.decided e f x is);
  placed = λ e f g f_in g_in.
      ap one_if (sym (stands_before-filter (has (s.placed e)) (ord e) f g f_in g_in) ∙ ap (λ xs. stands_before xs f g) (lies.placed e));
}
