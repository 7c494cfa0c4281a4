use Rattle.std.proofs.Common.{◌≢◌, length, vec_items, sym, ◌∙◌, ap, arith}
use Rattle.std.proofs.lemmas.Bool.{eqb-false, eqb-true}
use Rattle.xn_list.specs.Lists.{lists_of}
use Rattle.xn_insert.specs.ListedLoose.{has_dart, walk_of}
use Rattle.xn_simple.proofs.Noted.{dart_of, dartless, list_there, walked_more, walked_none}
use Rattle.xn_simple.proofs.simplifying.edges_with_walks.Goals.{then-not-is_empty+in_ok-push, else-not-is_empty}
use Rattle.xn_simple.proofs.simplifying.edges_with_walks.Goals as goal

pub loop-e-preserved : goal.loop-e-preserved
loop-e-preserved c =
    let lists = c.args.lists.now in
    let e = c.loop-e.e in
    let v = c.index-lists-e.result in
    let is = list_there lists e v (omega arith) c.index-lists-e.is in
    elim c.if-not-is_empty.branch [
      | then-not-is_empty+in_ok-push w ↦
          let some : length v.items ≢ 0 = λ none. eqb-false _ _ (sym c.is_empty.ensures ∙ w.if-not-is_empty.true) (v.ok.0 ∙ none) in
          ap vec_items w.edges-is ∙ w.in_ok-push.ensures.items
          ∙ walked_more (λ x. has_dart (walk_of (lists_of lists) x)) e c.loop-e.edges.items (ap has_dart (sym is) ∙ dart_of v.items some) c.loop-e.invariant
      | else-not-is_empty w ↦
          let none = eqb-true _ _ (sym c.is_empty.ensures ∙ w.if-not-is_empty.false) in
          ap vec_items w.edges-is
          ∙ walked_none (λ x. has_dart (walk_of (lists_of lists) x)) e c.loop-e.edges.items (ap has_dart (sym is) ∙ dartless v.items (omega (arith, v.ok.0, none))) c.loop-e.invariant
    ]
