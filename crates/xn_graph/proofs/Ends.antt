-- The ends of edges and segments, entry by entry.
use Rattle.std.proofs.Common.{◌≡◌, ℕ, zero, suc, ◌+◌, ◌-◌, ◌<◌, inl, inr, cond, eqb, List, [], ◌∷◌, ◌++◌, length, take, set, get_or, sym, ◌∙◌, ap, subst, arith}
use Rattle.std.specs.List.{swap_remove}
use Rattle.std.proofs.lemmas.Bool.{cases_eq, cond-true, cond-false, eq-eqb, ne_eqb}
use Rattle.std.proofs.lemmas.List.{get_or_default, get_or-take, get_or-set_same, get_or-set_other, length-set, length-take-le}
use Rattle.xn_model.specs.Graph.{Graph, EndsIn, IsGraph, ends_at}
use Rattle.xn_graph.specs.Limits.{HasNodes, IsEdge, graph_of}

-- each entry of ends within the nodes has its ends there
pub EndsIn-at : (nodes : ℕ) (ends : List (ℕ × ℕ)) → EndsIn nodes ends → (e : ℕ) → e < length ends → HasNodes nodes (ends_at ends e)
EndsIn-at nodes [] h e below = absurd (omega arith)
EndsIn-at nodes (p ∷ ends) h zero below = (h.0, h.1)
EndsIn-at nodes (p ∷ ends) h (suc e) below = EndsIn-at nodes ends h.2 e (omega arith)

-- ends are within the nodes where each entry is
pub EndsIn-from_each : (nodes : ℕ) (ends : List (ℕ × ℕ)) → ((e : ℕ) → e < length ends → HasNodes nodes (ends_at ends e)) → EndsIn nodes ends
EndsIn-from_each nodes [] each = tt
EndsIn-from_each nodes (p ∷ ends) each =
    let first = each 0 (omega arith) in
    (first.0, first.1, EndsIn-from_each nodes ends (λ e below. each (suc e) (omega arith)))

-- an edge of a graph joins two different nodes
pub IsEdge-at : (g : Graph) → IsGraph g → (e : ℕ) → e < length g.ends → IsEdge g.nodes (ends_at g.ends e)
IsEdge-at g is_graph e below =
    let ends = EndsIn-at g.nodes g.ends is_graph.ends_in e below in
    (ends.0, ends.1, is_graph.no_loop e below)

-- entries that each join two different nodes are a graph
pub IsGraph-from_each : (nodes : ℕ) (ends : List (ℕ × ℕ)) → ((e : ℕ) → e < length ends → IsEdge nodes (ends_at ends e)) → IsGraph (graph_of nodes ends)
IsGraph-from_each nodes ends each = record {
  ends_in = EndsIn-from_each nodes ends (λ e below. ((each e below).0, (each e below).1));
  no_loop = λ e below. (each e below).2;
}

-- a node more
pub EndsIn-more_nodes : (nodes : ℕ) (ends : List (ℕ × ℕ)) → EndsIn nodes ends → EndsIn (nodes + 1) ends
EndsIn-more_nodes nodes [] h = tt
EndsIn-more_nodes nodes (p ∷ ends) h = (omega (arith, h.0), omega (arith, h.1), EndsIn-more_nodes nodes ends h.2)

-- a segment more
pub EndsIn-push : (nodes : ℕ) (ends : List (ℕ × ℕ)) (p : ℕ × ℕ) → EndsIn nodes ends → HasNodes nodes p → EndsIn nodes (ends ++ p ∷ [])
EndsIn-push nodes [] p h new = (new.0, new.1, tt)
EndsIn-push nodes (q ∷ ends) p h new = (h.0, h.1, EndsIn-push nodes ends p h.2 new)

-- the default of a list that isn't empty is never read
pub swap_remove-default : (ends : List (ℕ × ℕ)) (s : ℕ) (d : ℕ × ℕ) → s < length ends → swap_remove ends s d ≡ swap_remove ends s (0, 0)
swap_remove-default ends s d s_in =
    ap (λ x. take (length ends - 1) (set ends s x)) (get_or_default ends (length ends - 1) d (0, 0) (omega (arith, s_in)))

-- a segment less, whose place the last one takes
pub length-swap_remove : (ends : List (ℕ × ℕ)) (s : ℕ) (d : ℕ × ℕ) → length (swap_remove ends s d) ≡ length ends - 1
length-swap_remove ends s d =
    let moved = set ends s (get_or ends (length ends - 1) d) in
    let same = length-set ends s (get_or ends (length ends - 1) d) in
    length-take-le (length ends - 1) moved (omega (arith, same))

pub ends_at-swap_remove : (ends : List (ℕ × ℕ)) (s : ℕ) → s < length ends → (i : ℕ) → i < length ends - 1 →
    ends_at (swap_remove ends s (0, 0)) i ≡ ends_at ends (cond (eqb i s) (length ends - 1) i)
ends_at-swap_remove ends s s_in i i_in =
    let last = get_or ends (length ends - 1) (0, 0) in
    get_or-take (length ends - 1) (set ends s last) i (0, 0) i_in ∙ elim (cases_eq i s) [
      | inl here ↦
          ap (λ j. ends_at (set ends s last) j) here ∙ get_or-set_same ends s last (0, 0) s_in ∙ ap (ends_at ends) (sym (cond-true _ _ _ (eq-eqb i s here)))
      | inr other ↦ get_or-set_other ends s i last (0, 0) other ∙ ap (ends_at ends) (sym (cond-false _ _ _ (ne_eqb i s other)))
    ]

pub EndsIn-swap_remove : (nodes : ℕ) (ends : List (ℕ × ℕ)) (s : ℕ) → s < length ends → EndsIn nodes ends → EndsIn nodes (swap_remove ends s (0, 0))
EndsIn-swap_remove nodes ends s s_in h = EndsIn-from_each nodes (swap_remove ends s (0, 0)) (λ i i_in.
    let low : i < length ends - 1 = omega (arith, i_in, length-swap_remove ends s (0, 0)) in
    let from = cond (eqb i s) (length ends - 1) i in
    let from_in : from < length ends = elim (cases_eq i s) [
      | inl here ↦ omega (arith, s_in, cond-true (eqb i s) (length ends - 1) i (eq-eqb i s here))
      | inr other ↦ omega (arith, low, cond-false (eqb i s) (length ends - 1) i (ne_eqb i s other))
    ] in
    let P : ℕ × ℕ → Type 0 = λ q. HasNodes nodes q in
    subst P (sym (ends_at-swap_remove ends s s_in i low)) (EndsIn-at nodes ends h from from_in))

-- other ends of one segment
pub EndsIn-set : (nodes : ℕ) (ends : List (ℕ × ℕ)) (s : ℕ) (p : ℕ × ℕ) → EndsIn nodes ends → HasNodes nodes p → EndsIn nodes (set ends s p)
EndsIn-set nodes [] s p h new = tt
EndsIn-set nodes (q ∷ ends) zero p h new = (new.0, new.1, h.2)
EndsIn-set nodes (q ∷ ends) (suc s) p h new = (h.0, h.1, EndsIn-set nodes ends s p h.2 new)
