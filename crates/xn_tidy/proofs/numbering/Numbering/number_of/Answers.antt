use Rattle.std.proofs.Common.{◌≡◌, ◌<◌, ℕ, List, [], ◌∷◌, ◌++◌, ◌∙◌, ap, arith, length, subst, sym, get_or}
use Rattle.std.specs.Prelude.{Some, None, slice_set}
use Rattle.std.proofs.lemmas.List.{get_or_read}
use Rattle.xn_tidy.specs.Numbering.{AreNumbered, HasNumber, Named}
use Rattle.xn_tidy.proofs.Inverse.{few_numbers, known_number, next_number, still_inverse}
use Rattle.xn_tidy.proofs.numbering.Numbering.number_of.Goals as goal

pub returns-in-Some-clause-number : goal.returns-in-Some-clause-number
returns-in-Some-clause-number c =
    let numbers = c.self.inside.numbers.items in
    let order = c.self.inside.order.items in
    let small : c.args.i < length numbers = omega (arith, c.requires.below, ap (λ (v : Named). v.count) c.self.view_is) in
    let known : get_or numbers c.args.i None ≡ Some c.in-Some.n = sym (get_or_read numbers c.args.i _ small c.index.ensures None) ∙ c.in-Some.is in
    subst (λ (o : List ℕ). HasNumber o o c.args.i c.in-Some.n) (ap (λ (v : Named). v.order) c.self.view_is) (known_number numbers order c.self.invariant c.args.i c.in-Some.n known)

pub overflow_cast-n : goal.overflow_cast-n
overflow_cast-n c =
    let few = few_numbers c.self.inside.numbers.items c.self.inside.order.items c.self.invariant in
    omega (arith, few, c.len-n.ensures, c.self.inside.order.ok.0, c.requires.few, ap (λ (v : Named). v.count) c.self.view_is)

pub invariant_of-self-2 : goal.invariant_of-self-2
invariant_of-self-2 c =
    let numbers = c.self.inside.numbers.items in
    let order = c.self.inside.order.items in
    let small : c.args.i < length numbers = omega (arith, c.requires.below, ap (λ (v : Named). v.count) c.self.view_is) in
    let unknown : get_or numbers c.args.i None ≡ None = sym (get_or_read numbers c.args.i _ small c.index.ensures None) ∙ c.in_default.is in
    let number : c.len-n.result ≡ length order = omega (arith, c.len-n.ensures, c.self.inside.order.ok.0) in
    let inverse = still_inverse numbers order c.self.invariant c.args.i unknown small in
    subst (λ (n : ℕ). AreNumbered (slice_set numbers c.args.i (Some n)) c.push.new.self.items) (sym number)
    (subst (λ (o : List ℕ). AreNumbered (slice_set numbers c.args.i (Some (length order))) o) (sym c.in_ok-push.ensures.items) inverse)

pub returns-clause-number : goal.returns-clause-number
returns-clause-number c =
    let numbers = c.self.inside.numbers.items in
    let order = c.self.inside.order.items in
    let small : c.args.i < length numbers = omega (arith, c.requires.below, ap (λ (v : Named). v.count) c.self.view_is) in
    let unknown : get_or numbers c.args.i None ≡ None = sym (get_or_read numbers c.args.i _ small c.index.ensures None) ∙ c.in_default.is in
    let number : c.len-n.result ≡ length order = omega (arith, c.len-n.ensures, c.self.inside.order.ok.0) in
    let next = next_number numbers order c.self.invariant c.args.i unknown in
    subst (λ (o : List ℕ). HasNumber o c.push.new.self.items c.args.i c.len-n.result) (ap (λ (v : Named). v.order) c.self.view_is)
    (subst (λ (o : List ℕ). HasNumber order o c.args.i c.len-n.result) (sym c.in_ok-push.ensures.items)
    (subst (λ (n : ℕ). HasNumber order (order ++ c.args.i ∷ []) c.args.i n) (sym number) next))
