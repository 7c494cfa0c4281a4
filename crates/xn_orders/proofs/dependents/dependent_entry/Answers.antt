use Rattle.std.proofs.Common.{ℕ, ◌<◌, inl, inr, List, length, sym, ◌∙◌, subst, arith}
use Rattle.std.proofs.lemmas.Bool.{cases_eq}
use Rattle.xn_model.specs.Lists.{at}
use Rattle.xn_model.specs.Orders.{order_at}
use Rattle.xn_orders.specs.Entries.{IsClose, IsDependent, IsFirstOf, NoEntryOf, NoneOf}
use Rattle.xn_orders.proofs.Listed.{order_at-place}
use Rattle.xn_orders.proofs.Found.{entry_below}
use Rattle.xn_orders.proofs.Entered.{names_first, none_at_all}
use Rattle.xn_orders.proofs.dependents.dependent_entry.Goals as goal

pub close_in-requires-clause-below : goal.close_in-requires-clause-below
close_in-requires-clause-below c =
    let edges = c.args.edges.now in
    let lists = c.args.orders.now in
    let count = length c.args.graph.now.ends in
    let i = c.loop-i.i in
    let is = c.at.ensures ∙ sym (order_at-place edges lists i 0 c.requires.edges.rise c.requires.lists (omega (arith, c.loop-i-test.true))) in
    let P : List ℕ → Type 0 = λ l. (k : ℕ) → k < length l → at l k < count in
    subst P (sym is) (entry_below count edges (order_at edges lists) c.requires.edges c.requires.order (at edges i))

pub returns-in-Some : goal.returns-in-Some
returns-in-Some c =
    let edges = c.args.edges.now in
    let lists = c.args.orders.now in
    let ends = c.args.graph.now.ends in
    let i = c.loop-i.i in
    let f = c.in-Some.f in
    let within : i < length edges = omega (arith, c.loop-i-test.true) in
    let is = c.at.ensures ∙ sym (order_at-place edges lists i 0 c.requires.edges.rise c.requires.lists within) in
    let P : List ℕ → Type 0 = λ l. IsFirstOf l (IsClose ends (at edges i) l) f in
    names_first edges lists (IsDependent ends (order_at edges lists)) i f c.requires.edges.rise within c.loop-i.invariant (subst P is c.in-Some.ensures)

pub loop-i-preserved : goal.loop-i-preserved
loop-i-preserved c j j_in =
    let edges = c.args.edges.now in
    let lists = c.args.orders.now in
    let ends = c.args.graph.now.ends in
    let ord = order_at edges lists in
    let i = c.loop-i.i in
    let is = c.at.ensures ∙ sym (order_at-place edges lists i 0 c.requires.edges.rise c.requires.lists (omega (arith, c.loop-i-test.true))) in
    let P : List ℕ → Type 0 = λ l. NoneOf l (IsClose ends (at edges i) l) in
    let here : NoEntryOf ord (IsDependent ends ord) (at edges i) = subst P is c.in_default.ensures in
    let Q : ℕ → Type 0 = λ k. NoEntryOf ord (IsDependent ends ord) (at edges k) in
    elim (cases_eq j i) [
      | inl same ↦ subst Q (sym same) here
      | inr other ↦ c.loop-i.invariant j (omega (arith, j_in, other))
    ]

pub returns : goal.returns
returns c =
    let edges = c.args.edges.now in
    let lists = c.args.orders.now in
    none_at_all edges lists (IsDependent c.args.graph.now.ends (order_at edges lists)) (λ j low. c.loop-i.invariant j (omega (arith, low, c.loop-i-test.false)))
