use Rattle.std.proofs.Common.{◌≡◌, ◌≤◌, ◌++◌, ℕ, List, length, sym, subst, ap, ◌∙◌, arith}
use Rattle.xn_model.specs.Drawing.{IsListedDrawing, order_of}
use Rattle.xn_model.specs.Lists.{at}
use Rattle.xn_model.specs.Orders.{crossing_count}
use Rattle.xn_list.specs.Lists.{lists_of}
use Rattle.xn_simple.specs.Crossed.{crossed_lists, starts_of}
use Rattle.xn_genus.specs.Part.{PassesOver}
use Rattle.xn_simple.specs.Turning.{AreDartsOnce}
use Rattle.xn_simple.proofs.Answered.{are_starts, darts, drawn, few_starts, no_more, order_left}
use Rattle.xn_simple.proofs.Turns.{along_closed}
use Rattle.xn_simple.proofs.untouching.untouch.Goals as goal

pub push_crossed-requires-clause-darts : goal.push_crossed-requires-clause-darts
push_crossed-requires-clause-darts c = darts c.args.graph.now c.args.orders.now c.args.map c.edges.ensures.limited c.web.ensures.is_map c.requires

pub push_starts-requires-clause-darts : goal.push_starts-requires-clause-darts
push_starts-requires-clause-darts c = darts c.args.graph.now c.args.orders.now c.args.map c.edges.ensures.limited c.web.ensures.is_map c.requires

pub turns_along-requires-clause-few : goal.turns_along-requires-clause-few
turns_along-requires-clause-few c =
    let starts = starts_of (at c.args.map.next) 0 c.args.orders.now in
    let is = c.deref.ensures.value ∙ c.in_ok-push_starts.ensures ∙ ap (λ xs. xs ++ starts) c.in_ok-starts.ensures.items in
    let few = few_starts c.args.graph.now c.args.orders.now c.args.map c.edges.ensures.limited c.web.ensures.is_map c.requires in
    omega (arith, few, ap length is, c.web.ensures.is_map.fits, c.segments.ensures.limited.few_segments, ap (λ w. length w.ends) c.web.ensures.value)

pub turns_along-requires-clause-once : goal.turns_along-requires-clause-once
turns_along-requires-clause-once c =
    let next = at c.args.map.next in
    let starts = starts_of next 0 c.args.orders.now in
    let is = c.deref.ensures.value ∙ c.in_ok-push_starts.ensures ∙ ap (λ xs. xs ++ starts) c.in_ok-starts.ensures.items in
    let P : List ℕ → Type 0 = λ xs. AreDartsOnce (length c.args.map.next) xs in
    let are = are_starts c.args.graph.now c.args.orders.now c.args.map c.edges.ensures.limited c.web.ensures.is_map c.requires in
    subst P (sym is) (record { below = are.below; apart = are.apart })

pub returns-clause-drawing : goal.returns-clause-drawing
returns-clause-drawing c =
    let g = c.args.graph.now in
    let lists = c.args.orders.now in
    let next = at c.args.map.next in
    let turns = c.in_ok-next.next.items in
    let starts_are = c.deref.ensures.value ∙ c.in_ok-push_starts.ensures ∙ ap (λ xs. xs ++ starts_of next 0 lists) c.in_ok-starts.ensures.items in
    let lists_are = c.in_ok-push_crossed.ensures ∙ ap (λ ls. ls ++ crossed_lists next 0 lists) (c.new-crossed.ensures ∙ ap lists_of c.in_ok-with_capacity.ensures.items) in
    let O : List ℕ → Type 0 = λ xs. (length turns ≡ length xs) × PassesOver (length xs) (at xs) next (at turns) in
    let over = subst O starts_are (c.in_ok-next.ensures.size, c.in_ok-next.ensures.over) in
    let are = are_starts g lists c.args.map c.edges.ensures.limited c.web.ensures.is_map c.requires in
    let along = along_closed (length c.args.map.next) next (starts_of next 0 lists) turns are over.0 over.1 in
    let A : List (List ℕ) → Type 0 = λ ls. IsListedDrawing g ls turns in
    let B : List ℕ → Type 0 = λ xs. IsListedDrawing g c.push_crossed.new.crossed xs in
    subst B (sym c.new.ensures) (subst A (sym lists_are) (drawn g lists c.args.map c.edges.ensures.limited c.web.ensures.is_map c.requires turns along))

pub returns-clause-crossed : goal.returns-clause-crossed
returns-clause-crossed c =
    let g = c.args.graph.now in
    let lists = c.args.orders.now in
    let next = at c.args.map.next in
    let lists_are = c.in_ok-push_crossed.ensures ∙ ap (λ ls. ls ++ crossed_lists next 0 lists) (c.new-crossed.ensures ∙ ap lists_of c.in_ok-with_capacity.ensures.items) in
    λ e. ap (λ ls. order_of g ls e) lists_are ∙ order_left g lists c.args.map c.edges.ensures.limited c.web.ensures.is_map c.requires e

pub returns-clause-no_more : goal.returns-clause-no_more
returns-clause-no_more c =
    let g = c.args.graph.now in
    let lists = c.args.orders.now in
    let next = at c.args.map.next in
    let lists_are = c.in_ok-push_crossed.ensures ∙ ap (λ ls. ls ++ crossed_lists next 0 lists) (c.new-crossed.ensures ∙ ap lists_of c.in_ok-with_capacity.ensures.items) in
    let P : List (List ℕ) → Type 0 = λ ls. crossing_count g (order_of g ls) ≤ crossing_count g (order_of g lists) in
    subst P (sym lists_are) (no_more g lists c.args.map c.edges.ensures.limited c.web.ensures.is_map c.requires)
