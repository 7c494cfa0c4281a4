use Rattle.std.proofs.Common.{◌≡◌, ◌<◌, ◌^◌, ℕ, [], ◌∷◌, ◌∙◌, ap, arith, length, subst, sym, List}
use Rattle.std.specs.Prelude.{All}
use Rattle.std.proofs.lemmas.List.Elements.{All-push}
use Rattle.xn_kinds.specs.Row.{RowHolds}
use Rattle.xn_kinds.specs.Tree.{MayOpen}
use Rattle.xn_kinds.specs.declared.rows.Row.{Row}
use Rattle.xn_kinds.specs.declared.trees.Node.TheVariants.{Leaf}
use Rattle.xn_kura.specs.Flaws.{HasAKind}
use Rattle.xn_tree.specs.Given.{state_of}
use Rattle.xn_search.specs.Choice.{HaveKinds}
use Rattle.xn_search.proofs.Asked.{leaf_keeps}
use Rattle.xn_search.proofs.branching.take_row.Goals as goal

pub returns-clause-hold : goal.returns-clause-hold
returns-clause-hold c =
    subst (All (RowHolds c.args.claim.now.graph.now)) (sym c.in_ok-push.ensures.items) (All-push (RowHolds c.args.claim.now.graph.now) c.args.rows.now.items c.args.row c.requires.hold c.requires.row.holds)

pub returns-clause-kinds : goal.returns-clause-kinds
returns-clause-kinds c = λ kinds.
    subst HaveKinds (sym c.in_ok-push.ensures.items) (All-push (λ (row : Row). HasAKind row.evidence) c.args.rows.now.items c.args.row kinds c.requires.row.kind)

pub returns-clause-keeps : goal.returns-clause-keeps
returns-clause-keeps c =
    let g = c.args.claim.now.graph.now in
    let s = state_of c.args.given.now in
    let rows = c.args.rows.now.items in
    let number : c.len-number.result ≡ length rows = omega (arith, c.len-number.ensures, c.args.rows.now.ok.0) in
    let parts : c.new.result ≡ (length rows, c.args.claim.now.crossings) ∷ [] = c.new.ensures ∙ c.in_ok-parts.ensures.items ∙ ap (λ (p : ℕ × ℕ). p ∷ []) (c.part_of-part.ensures.part ∙ ap (λ (x : ℕ). (x, c.args.claim.now.crossings)) number) in
    let small : c.args.claim.now.crossings < 2 ^ 63 = omega (arith, c.part_of-part.ensures.small) in
    let keeps = leaf_keeps c.closing_leaves.ensures.rows c.closing_leaves.ensures.settled g c.args.claim.now.crossings s c.args.row rows c.requires.positive small c.requires.state c.requires.row.holds
    c.requires.row.of_state c.requires.pairs c.requires.places in
    subst (λ (ps : List (ℕ × ℕ)). MayOpen g c.args.claim.now.crossings c.push.new.self.items s (Leaf 1 ps)) (sym parts)
    (subst (λ (rs : List Row). MayOpen g c.args.claim.now.crossings rs s (Leaf 1 ((length rows, c.args.claim.now.crossings) ∷ []))) (sym c.in_ok-push.ensures.items) keeps)
