-- How many entries the lists have, and where the segments of an edge begin.
use Rattle.std.proofs.Common.{◌≡◌, ℕ, suc, ◌+◌, ◌-◌, ◌<◌, ◌≤◌, inl, inr, eqb, List, [], ◌∷◌, ◌++◌, length, get_or, take, drop, refl, sym, ◌∙◌, ap, arith, length-append}
use Rattle.std.specs.List.{flat_map, range_with_len}
use Rattle.std.proofs.lemmas.Bool.{cases_Bool, eqb-false, eqb-true}
use Rattle.std.proofs.lemmas.List.{take-append-drop, take_more}
use Rattle.std.proofs.lemmas.List.FromFn.{length-range_with_len}
use Rattle.xn_model.specs.Drawing.{drawn_web}
use Rattle.xn_model.specs.Graph.{Graph, edges_of}
use Rattle.xn_model.specs.Lists.{total}
use Rattle.xn_model.specs.Orders.{crossings_of}
use Rattle.xn_model.specs.Web.{first_segment, segments_of, web_of}
use Rattle.xn_orders.proofs.Limits.{length-segments_of}
use Rattle.xn_orders.specs.Entries.{list_of}
use Rattle.xn_orders.proofs.AllEdges.{order_of-same, past}
use Rattle.xn_draw.specs.Touches.{first_of}

-- ---- totals

total-append : (xs ys : List (List ℕ)) → total length (xs ++ ys) ≡ total length xs + total length ys
total-append [] ys = omega arith
total-append (x ∷ xs) ys = omega (arith, total-append xs ys)

pub total-take_more : (lists : List (List ℕ)) (i : ℕ) → i < length lists → total length (take (i + 1) lists) ≡ total length (take i lists) + length (list_of lists i)
total-take_more lists i low =
    let one : total length (list_of lists i ∷ []) ≡ length (list_of lists i) = omega arith in
    ap (total length) (take_more lists i [] low) ∙ total-append (take i lists) (list_of lists i ∷ []) ∙ ap (λ n. total length (take i lists) + n) one

pub total-take-le : (lists : List (List ℕ)) (i : ℕ) → total length (take i lists) ≤ total length lists
total-take-le lists i = omega (arith, total-append (take i lists) (drop i lists), ap (total length) (take-append-drop i lists))

-- ---- the segments

module _ (lists : List (List ℕ)) where
  -- the lists from a on are ls
  abbrev pub Follows : List (List ℕ) → ℕ → Type 0
  Follows ls a = (k : ℕ) → get_or lists (a + k) [] ≡ get_or ls k []

  pub follows_head : (l : List ℕ) (ls : List (List ℕ)) (a : ℕ) → Follows (l ∷ ls) a → list_of lists a ≡ l
  follows_head l ls a follows = let here : a + 0 ≡ a = omega arith in sym (ap (λ k. get_or lists k []) here) ∙ follows 0

  pub follows_tail : (l : List ℕ) (ls : List (List ℕ)) (a : ℕ) → Follows (l ∷ ls) a → Follows ls (a + 1)
  follows_tail l ls a follows k = let next : (a + 1) + k ≡ a + suc k = omega arith in ap (λ j. get_or lists j []) next ∙ follows (suc k)

  total-range : (ls : List (List ℕ)) (a : ℕ) → Follows ls a → total (λ e. length (list_of lists e)) (range_with_len a (length ls)) ≡ total length ls
  total-range [] a follows = refl
  total-range (l ∷ ls) a follows = omega (arith, ap length (follows_head l ls a follows), total-range ls (a + 1) (follows_tail l ls a follows))

  first_range : (ls : List (List ℕ)) (a e : ℕ) → Follows ls a → a ≤ e → e ≤ a + length ls →
      first_segment (range_with_len a (length ls)) (list_of lists) e ≡ (e - a) + total length (take (e - a) ls)
  first_range [] a e follows low high =
      let none : e - a ≡ 0 = omega (arith, high) in
      rw none refl
  first_range (l ∷ ls) a e follows low high = elim (cases_Bool (eqb a e)) [
    | inl here ↦
        let none : e - a ≡ 0 = omega (arith, eqb-true a e here) in
        rw (here, none) refl
    | inr other ↦
        let more = past e a low other in
        let differ = eqb-false a e other in
        let rest = first_range ls (a + 1) e (follows_tail l ls a follows) (omega (arith, low, differ)) (omega (arith, high)) in
        let head = ap length (follows_head l ls a follows) in
        rw (other, more) (omega (arith, rest, head))
  ]

follows_all : (lists : List (List ℕ)) → Follows lists lists 0
follows_all lists k = let same : 0 + k ≡ k = omega arith in ap (λ j. get_or lists j []) same

-- the segments of e begin after those of the smaller edges
pub first_of-is : (lists : List (List ℕ)) (e : ℕ) → e ≤ length lists → first_of lists e ≡ e + total length (take e lists)
first_of-is lists e low =
    let all : e - 0 ≡ e = omega arith in
    first_range lists lists 0 e (follows_all lists) (omega arith) (omega (arith, low)) ∙ ap (λ k. k + total length (take k lists)) all

length-segments : (g : Graph) (pairs : List (ℕ × ℕ)) (ord : ℕ → List ℕ) (es : List ℕ) →
    length (flat_map (segments_of g pairs ord) es) ≡ length es + total (λ e. length (ord e)) es
length-segments g pairs ord [] = omega arith
length-segments g pairs ord (e ∷ es) =
    omega (arith, length-append (segments_of g pairs ord e) (flat_map (segments_of g pairs ord) es), length-segments_of g pairs ord e, length-segments g pairs ord es)

-- there is one segment more for each edge than its list has entries
pub segment_count : (g : Graph) (lists : List (List ℕ)) → length lists ≡ length g.ends → length (drawn_web g lists).ends ≡ length g.ends + total length lists
segment_count g lists fits =
    let pairs_at : (ℕ → List ℕ) → ℕ = λ ord. length (web_of g (edges_of g) ord).ends in
    let as_listed = ap pairs_at (order_of-same g lists fits) in
    let range_at : ℕ → ℕ = λ n. total (λ e. length (list_of lists e)) (range_with_len 0 n) in
    let entries = ap range_at (sym fits) ∙ total-range lists lists 0 (follows_all lists) in
    omega (arith, as_listed, length-segments g (crossings_of (edges_of g) (list_of lists)) (list_of lists) (edges_of g), length-range_with_len 0 (length g.ends), entries)
