-- What untouch answers is a drawing.
use Rattle.std.proofs.Common.{◌≡◌, ℕ, suc, ◌+◌, ◌*◌, ◌≤◌, inl, inr, List, [], ◌∷◌, length, sym, ◌∙◌, ap, subst, arith, length-append}
use Rattle.std.proofs.lemmas.Bool.{cases_Bool}
use Rattle.xn_model.specs.Drawing.{IsSimpleDrawing, IsListedDrawing, drawn_web, order_of}
use Rattle.xn_model.specs.Graph.{Graph, edges_of}
use Rattle.xn_model.specs.Lists.{at, total}
use Rattle.xn_model.specs.Orders.{crossing_count}
use Rattle.xn_model.specs.Web.{web_of}
use Rattle.xn_graph.specs.Limits.{IsLimitedGraph}
use Rattle.xn_map.specs.Listed.{IsListedMap, ListedMap}
use Rattle.xn_draw.proofs.Totals.{segment_count}
use Rattle.xn_simple.specs.Crossed.{crossed_from, crossed_lists, crossed_order, runs_straight, starts_along, starts_of}
use Rattle.xn_simple.specs.Turning.{AreStarts, TurnsAlong}
use Rattle.xn_simple.specs.Untouched.{IsUntouched, MayTouch, starts_in}
use Rattle.xn_simple.proofs.Drawn.{touching_edges_come_apart}
use Rattle.xn_simple.proofs.Listed.{crossed_lists-length, crossed_lists-order, starts_of-is}
use Rattle.xn_simple.proofs.Lists.{starts_after-length}

crossed_few : (next : ℕ → ℕ) (s : ℕ) (fs : List ℕ) → length (crossed_from next s fs) ≤ length fs
crossed_few next s [] = omega arith
crossed_few next s (f ∷ fs) =
    let rest = crossed_few next (suc s) fs in
    elim (cases_Bool (runs_straight next s)) [
      | inl crosses ↦ rw crosses (omega (arith, rest))
      | inr touches ↦ rw touches (omega (arith, rest))
    ]

starts_few : (next : ℕ → ℕ) (s : ℕ) (ls : List (List ℕ)) → length (starts_of next s ls) ≤ 2 * (length ls + total length ls)
starts_few next s [] = omega arith
starts_few next s (l ∷ ls) =
    let rest = starts_few next (s + suc (length l)) ls in
    let here = starts_after-length next s l in
    let few = crossed_few next s l in
    let sum = length-append (starts_along next s l) (starts_of next (s + suc (length l)) ls) in
    omega (arith, rest, here, few, sum)

module _ (g : Graph) (lists : List (List ℕ)) (map : ListedMap) (limited : IsLimitedGraph g) (listed : IsListedMap map) (may : MayTouch g lists map) where
  abbrev next : ℕ → ℕ
  next = at map.next

  abbrev left : List (List ℕ)
  left = crossed_lists next 0 lists

  fact : IsUntouched g (edges_of g) (order_of g lists) next
  fact = touching_edges_come_apart g (edges_of g) (order_of g lists) next limited.is_graph may.orders may.is_flat_map

  segments : length map.next ≡ 2 * length (drawn_web g lists).ends
  segments = listed.fits ∙ ap (λ w. 2 * length w.ends) may.web

  pub darts : length map.next ≡ 2 * (length lists + total length lists)
  darts = let count = segment_count g lists may.lists_fit in let fits = may.lists_fit in omega (arith, segments, count, fits)

  pub few_starts : length (starts_of next 0 lists) ≤ length map.next
  few_starts = let few = starts_few next 0 lists in omega (arith, few, darts)

  starts_are : starts_of next 0 lists ≡ starts_in (edges_of g) (order_of g lists) next
  starts_are = starts_of-is g lists may.lists_fit next

  pub are_starts : AreStarts (length map.next) next (starts_of next 0 lists)
  are_starts =
      let P : ℕ → Type 0 = λ count. AreStarts count next (starts_in (edges_of g) (order_of g lists) next) in
      let Q : List ℕ → Type 0 = λ starts. AreStarts (length map.next) next starts in
      subst Q (sym starts_are) (subst P (sym segments) fact.starts)

  order_is : crossed_order (edges_of g) (order_of g lists) next ≡ order_of g left
  order_is = λ i e. sym (crossed_lists-order g lists may.lists_fit next e) i

  module _ (turns : List ℕ) (along : TurnsAlong next (starts_of next 0 lists) turns) where
    pub drawn : IsListedDrawing g left turns
    drawn =
        let P : (ℕ → List ℕ) → Type 0 = λ ord. length (starts_in (edges_of g) (order_of g lists) next) ≡ 2 * length (web_of g (edges_of g) ord).ends in
        let T : List ℕ → Type 0 = λ starts. TurnsAlong next starts turns in
        let d = fact.drawing turns (subst T starts_are along) in
        record {
          lists_fit = crossed_lists-length next 0 lists ∙ may.lists_fit;
          next_fits = along.size ∙ ap length starts_are ∙ subst P order_is fact.size;
          drawing = subst (λ ord. IsSimpleDrawing g ord (at turns)) order_is (record { orders = d.orders; is_flat_map = d.is_flat_map; crosses = d.crosses });
        }

  pub no_more : crossing_count g (order_of g left) ≤ crossing_count g (order_of g lists)
  no_more = subst (λ ord. crossing_count g ord ≤ crossing_count g (order_of g lists)) order_is fact.no_more

  pub order_left : (e : ℕ) → order_of g left e ≡ crossed_order (edges_of g) (order_of g lists) next e
  order_left = crossed_lists-order g lists may.lists_fit next
