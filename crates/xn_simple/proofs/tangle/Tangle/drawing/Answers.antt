use Rattle.std.proofs.Common.{◌≡◌, ◌<◌, ℕ, List, length, refl, sym, ◌∙◌, ap, subst}
use Rattle.xn_model.specs.Lists.{at}
use Rattle.xn_simple.specs.Tangle.{lists_in}
use Rattle.xn_simple.specs.Untangling.{AreNumbers, IsReadBy}
use Rattle.xn_simple.proofs.DrawnBy.{drawn_by}
use Rattle.xn_simple.proofs.ReadOff.{edges_apart}
use Rattle.xn_simple.proofs.tangle.Tangle.drawing.Goals as goal

pub numbers_of-requires-clause-apart : goal.numbers_of-requires-clause-apart
numbers_of-requires-clause-apart c =
    let r = c.requires in
    subst (λ xs. (i j : ℕ) → i < length xs → j < length xs → at xs i ≡ at xs j → i ≡ j) (sym c.deref.ensures.value) (edges_apart r.0 (lists_in c.args.self.now) r.1)

pub read-requires : goal.read-requires
read-requires c =
    let r = c.requires in
    (r.0, r.1, ap length c.deref-2.ensures.value ∙ c.in_ok-numbers.ensures.fits ∙ sym r.2)

pub returns : goal.returns
returns c = λ g done.
    let t = lists_in c.args.self.now in
    let r = c.requires in
    let numbers = c.in_ok-numbers.numbers.items in
    let d = c.in_ok-drawing.drawing in
    let by = subst (λ (ns : List ℕ). IsReadBy t ns d) c.deref-2.ensures.value c.in_ok-drawing.ensures in
    let count : c.args.edges ≡ length g.ends = sym r.2 ∙ sym r.1.tangle.lists ∙ done.tangle.lists in
    let are = subst (λ n. AreNumbers n t.edges numbers) count (subst (λ es. AreNumbers c.args.edges es numbers) c.deref.ensures.value c.in_ok-numbers.ensures) in
    drawn_by g t done numbers are d.next by.size by.over d by.rows refl
