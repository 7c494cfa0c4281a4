use Rattle.std.proofs.Common.{List, ℕ, length, refl, sym, ◌∙◌, ap, subst}
use Rattle.xn_list.specs.Lists.{lists_of}
use Rattle.xn_insert.specs.ListedLoose.{loose_of}
use Rattle.xn_simple.specs.Tangle.{AreFurther, AreNotesOf, IsTangle, ListedTangle, WalksAreApart, edges_walked}
use Rattle.xn_simple.proofs.Begun.{apart, begun}
use Rattle.xn_simple.proofs.simplifying.tangle_of.Goals as goal

pub notes_of-requires : goal.notes_of-requires
notes_of-requires c =
    let g = c.args.graph.now in
    let map = c.args.map in
    let l = loose_of g.nodes map c.args.walks in
    let four = c.in_ok-four.four.items in
    let nodes = c.nodes.ensures.value ∙ ap (λ w. w.nodes) c.web.ensures.value in
    let further = subst (λ n. AreFurther n map.web.nodes four) c.nodes-first.ensures.value (subst (λ n. AreFurther c.nodes-first.result n four) nodes c.in_ok-four.ensures) in
    let are = apart g l c.requires four further c.nodes-first.ensures.limited.few_edges in
    let segments = c.segments.ensures.value ∙ ap (λ w. length w.ends) c.web-2.ensures.value in
    let walks = ap lists_of c.deref-2.ensures.value ∙ c.into_lists-lists.ensures in
    subst (λ n. WalksAreApart n (lists_of c.deref-2.result.now)) (sym segments) (subst (WalksAreApart (length map.web.ends)) (sym walks) are)

pub returns : goal.returns
returns c =
    let g = c.args.graph.now in
    let map = c.args.map in
    let l = loose_of g.nodes map c.args.walks in
    let four = c.in_ok-four.four.items in
    let owners = c.in_ok-notes.notes.owners.items in
    let places = c.in_ok-notes.notes.places.items in
    let nodes = c.nodes.ensures.value ∙ ap (λ w. w.nodes) c.web.ensures.value in
    let further = subst (λ n. AreFurther n map.web.nodes four) c.nodes-first.ensures.value (subst (λ n. AreFurther c.nodes-first.result n four) nodes c.in_ok-four.ensures) in
    let segments = c.segments.ensures.value ∙ ap (λ w. length w.ends) c.web-2.ensures.value in
    let walks = ap lists_of c.deref-2.ensures.value ∙ c.into_lists-lists.ensures in
    let notes =
    subst (λ ws. AreNotesOf (length map.web.ends) ws owners places) walks (subst (λ n. AreNotesOf n (lists_of c.deref-2.result.now) owners places) segments c.in_ok-notes.ensures) in
    let edges = c.in_ok-edges.ensures ∙ ap (λ vs. edges_walked (lists_of vs)) c.deref.ensures.value ∙ ap edges_walked c.into_lists-lists.ensures in
    let tangle = begun g l c.requires four further c.web.ensures.is_map owners places notes in
    let T : List ℕ → List (List ℕ) → ListedTangle = λ es ws. record { map = map; edges = es; walks = ws; four = four; owners = owners; places = places } in
    record {
      tangle =
          subst (λ es. IsTangle g (T es (lists_of c.into_lists-lists.result.items))) (sym edges)
          (subst (λ ws. IsTangle g (T (edges_walked c.args.walks) ws)) (sym c.into_lists-lists.ensures) tangle);
      same_map = refl;
      same_edges = edges;
    }
