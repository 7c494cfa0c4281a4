use Rattle.std.proofs.Common.{arith, rules, ◌≡◌, List, ◌∷◌, Bool, ap, false, true, subst, ◌∙◌, ◌≤ℤ◌, FitsSigned}
use Rattle.std.specs.Int.{w128}
use Rattle.std.proofs.lemmas.Int.{ints, to_z-of_z}
use Rattle.xn_kinds.specs.Bound.{leaf_value, IsLeastOver}
use Rattle.xn_kinds.specs.declared.trees.Var.{Var}
use Rattle.xn_brute.specs.Known.{known_in, state_of, FitsKnown}
use Rattle.xn_brute.proofs.Least.{least_at_one, least_at_zero, least_of_all}
use Rattle.xn_brute.proofs.Unknown.{tried_step, unknown_count, unknown_count-falls}
use Rattle.xn_brute.proofs.bounds.+least.Goals as goal

pub least-requires : goal.least-requires
least-requires t c = (
  (
      let s = state_of c.args.given.now in
      let same : unknown_count (known_in s c.deref.result.now) ≡ unknown_count (known_in s ((c.in-Err.x, false) ∷ c.args.tried.now)) =
      ap (λ list. unknown_count (known_in s list)) (c.deref.ensures.value ∙ c.in_ok-with-in-Err.ensures) in
      omega (arith, same, unknown_count-falls s c.args.tried.now c.in-Err.x false c.in-Err.ensures, c.decreases)
      ),
  search rules,
)

pub least-requires-in-Err : goal.least-requires-in-Err
least-requires-in-Err t c = (
  (
      let s = state_of c.args.given.now in
      let same : unknown_count (known_in s c.deref-in-Err.result.now) ≡ unknown_count (known_in s ((c.in-Err.x, true) ∷ c.args.tried.now)) =
      ap (λ list. unknown_count (known_in s list)) (c.deref-in-Err.ensures.value ∙ c.in_ok-with-in-Err-2.ensures) in
      omega (arith, same, unknown_count-falls s c.args.tried.now c.in-Err.x true c.in-Err.ensures, c.decreases)
      ),
  search rules,
)

pub returns-in-Ok : goal.returns-in-Ok
returns-in-Ok t c =
    let fits : FitsSigned w128 c.in-Ok.value = search rules in
    rw (to_z-of_z w128 c.in-Ok.value fits) (least_of_all _ _ _ c.in-Ok.ensures)

pub returns-then-zero-one : goal.returns-then-zero-one
returns-then-zero-one t c =
    let s = state_of c.args.given.now in
    let x = c.in-Err.x in
    let zero = c.in_ok-zero-in-Err.zero in
    let one = c.in_ok-one-in-Err.one in
    let zero_fits : FitsSigned w128 zero = search rules in
    let one_fits : FitsSigned w128 one = search rules in
    let f = leaf_value c.args.leaf.now.graph.now c.args.leaf.now.rows.now c.args.leaf.now.d c.args.leaf.now.parts.now in
    let at_zero : IsLeastOver (FitsKnown (known_in s ((x, false) ∷ c.args.tried.now))) f zero =
    subst (λ (list : List (Var × Bool)). IsLeastOver (FitsKnown (known_in s list)) f zero) (c.deref.ensures.value ∙ c.in_ok-with-in-Err.ensures) c.in_ok-zero-in-Err.ensures in
    let at_one : IsLeastOver (FitsKnown (known_in s ((x, true) ∷ c.args.tried.now))) f one =
    subst (λ (list : List (Var × Bool)). IsLeastOver (FitsKnown (known_in s list)) f one) (c.deref-in-Err.ensures.value ∙ c.in_ok-with-in-Err-2.ensures) c.in_ok-one-in-Err.ensures in
    let less : zero ≤ℤ one = grind (arith, ints, c.if-zero-one.true) in
    rw (to_z-of_z w128 zero zero_fits)
    (least_at_zero _ _ _ x (tried_step s c.args.tried.now x false) (tried_step s c.args.tried.now x true) c.in-Err.ensures.unknown f zero one at_zero at_one less)

pub returns-else-zero-one : goal.returns-else-zero-one
returns-else-zero-one t c =
    let s = state_of c.args.given.now in
    let x = c.in-Err.x in
    let zero = c.in_ok-zero-in-Err.zero in
    let one = c.in_ok-one-in-Err.one in
    let zero_fits : FitsSigned w128 zero = search rules in
    let one_fits : FitsSigned w128 one = search rules in
    let f = leaf_value c.args.leaf.now.graph.now c.args.leaf.now.rows.now c.args.leaf.now.d c.args.leaf.now.parts.now in
    let at_zero : IsLeastOver (FitsKnown (known_in s ((x, false) ∷ c.args.tried.now))) f zero =
    subst (λ (list : List (Var × Bool)). IsLeastOver (FitsKnown (known_in s list)) f zero) (c.deref.ensures.value ∙ c.in_ok-with-in-Err.ensures) c.in_ok-zero-in-Err.ensures in
    let at_one : IsLeastOver (FitsKnown (known_in s ((x, true) ∷ c.args.tried.now))) f one =
    subst (λ (list : List (Var × Bool)). IsLeastOver (FitsKnown (known_in s list)) f one) (c.deref-in-Err.ensures.value ∙ c.in_ok-with-in-Err-2.ensures) c.in_ok-one-in-Err.ensures in
    let less : one ≤ℤ zero = grind (arith, ints, c.if-zero-one.false) in
    rw (to_z-of_z w128 one one_fits)
    (least_at_one _ _ _ x (tried_step s c.args.tried.now x false) (tried_step s c.args.tried.now x true) c.in-Err.ensures.unknown f zero one at_zero at_one less)
