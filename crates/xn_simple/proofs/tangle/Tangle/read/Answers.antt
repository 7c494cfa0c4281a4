use Rattle.std.proofs.Common.{◌≡◌, ◌≤◌, ◌^◌, ℕ, List, length, sym, ◌∙◌, ap, subst, arith}
use Rattle.xn_model.specs.Lists.{at}
use Rattle.xn_genus.specs.Part.{PassesOver}
use Rattle.xn_simple.specs.Tangle.{lists_in}
use Rattle.xn_simple.specs.Turning.{AreDartsOnce}
use Rattle.xn_simple.specs.Untangling.{starts_in}
use Rattle.xn_simple.proofs.ReadOff.{darts_once, few_starts, rows_all, starts_all}
use Rattle.xn_simple.proofs.tangle.Tangle.read.Goals as goal

pub turns_along-requires-clause-few : goal.turns_along-requires-clause-few
turns_along-requires-clause-few c =
    let t = lists_in c.args.self.now in
    let r = c.requires in
    let whole : length t.edges ≤ c.loop-e.e-index = omega (arith, c.loop-e-test.false, ap length c.deref-e-items.ensures.value) in
    let is = c.deref.ensures.value ∙ starts_all r.0 t r.1 c.loop-e.starts.items c.loop-e.e-index whole c.loop-e.invariant.starts in
    let few = few_starts r.0 t r.1 (subst (λ w. length w.ends ≤ 2 ^ 30) c.web.ensures.value c.segments.ensures.limited.few_segments) in
    omega (arith, few, ap length is)

pub turns_along-requires-clause-once : goal.turns_along-requires-clause-once
turns_along-requires-clause-once c =
    let t = lists_in c.args.self.now in
    let r = c.requires in
    let whole : length t.edges ≤ c.loop-e.e-index = omega (arith, c.loop-e-test.false, ap length c.deref-e-items.ensures.value) in
    let is = c.deref.ensures.value ∙ starts_all r.0 t r.1 c.loop-e.starts.items c.loop-e.e-index whole c.loop-e.invariant.starts in
    subst (AreDartsOnce (length t.map.next)) (sym is) (darts_once r.0 t r.1)

pub returns : goal.returns
returns c =
    let t = lists_in c.args.self.now in
    let r = c.requires in
    let next = at t.map.next in
    let turns = c.in_ok-next.next.items in
    let whole : length t.edges ≤ c.loop-e.e-index = omega (arith, c.loop-e-test.false, ap length c.deref-e-items.ensures.value) in
    let is = c.deref.ensures.value ∙ starts_all r.0 t r.1 c.loop-e.starts.items c.loop-e.e-index whole c.loop-e.invariant.starts in
    let O : List ℕ → List ℕ → Type 0 = λ ns xs. (length ns ≡ length xs) × PassesOver (length xs) (at xs) next (at ns) in
    let over = subst (λ ns. O ns (starts_in t)) (sym c.new.ensures) (subst (O turns) is (c.in_ok-next.ensures.size, c.in_ok-next.ensures.over)) in
    record { rows = rows_all r.0 t r.1 c.args.numbers.now c.loop-e.orders c.loop-e.e-index whole c.loop-e.invariant.orders; size = over.0; over = over.1 }
