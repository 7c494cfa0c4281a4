-- Segments that are left out from the last to the first, as long as there is no flat map.
use Rattle.std.proofs.Common.{◌≡◌, ◌≢◌, ◌↔◌, ℕ, zero, suc, ◌+◌, ◌-◌, ◌<◌, ◌≤◌, inl, inr, Bool, true, false, eqb, map, List, [], ◌∷◌, ◌++◌, length, take, drop, refl, sym, ap, subst, ◌∙◌, arith}
use Rattle.std.specs.List.{range_with_len}
use Rattle.std.specs.Prelude.{if◌then◌else◌, filter, nat_lt}
use Rattle.std.proofs.lemmas.Bool.{both_ways, cases_eq, cases_lt, eq-eqb, le-ltb, lt-ltb, ne_eqb, or_left}
use Rattle.std.proofs.lemmas.List.{append-nil, append_assoc, get_or-take, get_or_append_left, get_or_default, length-append, length-map, length-take-le, map-append}
use Rattle.std.proofs.lemmas.List.{get_or-append_right}
use Rattle.std.proofs.lemmas.List.FromFn.{get_or-range_with_len, length-range_with_len}
use Rattle.std.proofs.Math.ListN.{get_or-map}
use Rattle.std.proofs.Math.Seq.{split_at}
use Rattle.xn_model.specs.Graph.{EndsIn, Graph, HasNoLoop, ends_at}
use Rattle.xn_model.specs.Lists.{at, has}
use Rattle.xn_genus.specs.Part.{AreSegmentsApart, ends_listed}
use Rattle.xn_graph.specs.Limits.{HasNodes}
use Rattle.xn_graph.proofs.Ends.{EndsIn-at, EndsIn-from_each}
use Rattle.xn_ring.proofs.Inverse.{range_with_len-more}
use Rattle.xn_extend.specs.Extended.{listed_web}
use Rattle.xn_components.proofs.AllListed.{all_web}
use Rattle.xn_components.proofs.Flooding.{has_at}
use Rattle.xn_components.proofs.LaidBelow.{no_loop_listed}
use Rattle.xn_fewer.specs.Flat.{HasFlat, IsSelection, SomeSegmentsStayFlat}
use Rattle.xn_kuratowski.specs.Core.{left_without}
use Rattle.xn_planar.specs.Leaving.{AreLeft, IsLeastFront, IsLeftOver, StaysWhereNeeded, from_front, without}
use Rattle.xn_planar.specs.Named.{RiseBelow}
use Rattle.xn_planar.specs.Planar.{HasNoFlatMap}
use Rattle.xn_planar.proofs.Rising.{apart_from_rise}

-- ---- lists

left_at : (xs : List (ℕ × ℕ)) (y : ℕ × ℕ) (ys : List (ℕ × ℕ)) → left_without (length xs) (xs ++ y ∷ ys) ≡ xs ++ ys
left_at [] y ys = refl
left_at (x ∷ xs) y ys = ap (λ zs. x ∷ zs) (left_at xs y ys)

left_listed : (f : ℕ → ℕ × ℕ) (list before after : List ℕ) (t k : ℕ) → list ≡ before ++ t ∷ after → length before ≡ k →
    left_without k (map f list) ≡ map f (before ++ after)
left_listed f list before after t k parts size =
    ap (λ xs. left_without k (map f xs)) parts ∙ ap (left_without k) (map-append f before (t ∷ after))
    ∙ ap (λ n. left_without n (map f before ++ f t ∷ map f after)) (sym (length-map before f ∙ size)) ∙ left_at (map f before) (f t) (map f after)
    ∙ sym (map-append f before after)

-- the later ones of a list
has_none : (t : ℕ) (list : List ℕ) → ((i : ℕ) → i < length list → t < at list i) → has list t ≡ false
has_none t [] above = refl
has_none t (x ∷ list) above =
    let far : x ≢ t = λ same. omega (arith, same, above 0 (omega arith)) in
    rw (ne_eqb x t far) (has_none t list (λ i i_in. above (suc i) (omega (arith, i_in))))

all_later : (t : ℕ) (list : List ℕ) → ((i : ℕ) → i < length list → t < at list i) → filter (nat_lt t) list ≡ list
all_later t [] above = refl
all_later t (x ∷ list) above =
    rw (lt-ltb t x (above 0 (omega arith))) (ap (λ xs. x ∷ xs) (all_later t list (λ i i_in. above (suc i) (omega (arith, i_in)))))

first_not_later : (t x : ℕ) (list : List ℕ) → x ≤ t → filter (nat_lt t) (x ∷ list) ≡ filter (nat_lt t) list
first_not_later t x list low = rw (le-ltb t x low) refl

later_from : (k : ℕ) (list : List ℕ) → ((i j : ℕ) → i < j → j < length list → at list i < at list j) → k < length list →
    filter (nat_lt (at list k)) list ≡ drop (suc k) list
later_from k [] rise k_in = absurd (omega (arith, k_in))
later_from zero (x ∷ list) rise k_in =
    first_not_later x x list (omega arith) ∙ all_later x list (λ i i_in. rise 0 (suc i) (omega arith) (omega (arith, i_in)))
later_from (suc k) (x ∷ list) rise k_in =
    let low : x < at list k = rise 0 (suc k) (omega arith) k_in in
    first_not_later (at list k) x list (omega (arith, low))
    ∙ later_from k list (λ i j before j_in. rise (suc i) (suc j) (omega (arith, before)) (omega (arith, j_in))) (omega (arith, k_in))

-- the first numbers before others
module _ (s : ℕ) (list : List ℕ) where
  front_size : length (from_front s list) ≡ s + length list
  front_size = length-append (range_with_len 0 s) list ∙ ap (λ n. n + length list) (length-range_with_len 0 s)

  front_low : (i : ℕ) → i < s → at (from_front s list) i ≡ i
  front_low i low =
      let size = length-range_with_len 0 s in
      let is = get_or-range_with_len 0 s i 0 low in
      omega (arith, get_or_append_left (range_with_len 0 s) list 0 i (omega (arith, low, size)), is)

  front_high : (i : ℕ) → at (from_front s list) (s + i) ≡ at list i
  front_high i =
      let after : s + i - s ≡ i = omega arith in
      get_or-append_right (range_with_len 0 s) list s (s + i) 0 (length-range_with_len 0 s) (omega arith) ∙ ap (at list) after

rise_front : (n s : ℕ) (list : List ℕ) → s ≤ n → RiseBelow list n → ((i : ℕ) → i < length list → s ≤ at list i) → RiseBelow (from_front s list) n
rise_front n s list within rises above = record {
  below = λ i i_in. elim (cases_lt i s) [
    | inl low ↦ omega (arith, front_low s list i low, low, within)
    | inr high ↦
        let k_in : i - s < length list = omega (arith, high, i_in, front_size s list) in
        let same : s + (i - s) ≡ i = omega (arith, high) in
        omega (arith, ap (at (from_front s list)) same, front_high s list (i - s), rises.below (i - s) k_in)
  ];
  rise = λ i j before j_in. elim (cases_lt j s) [
    | inl low ↦ omega (arith, front_low s list i (omega (arith, before, low)), front_low s list j low, before)
    | inr high ↦
        let l_in : j - s < length list = omega (arith, high, j_in, front_size s list) in
        let same_j : s + (j - s) ≡ j = omega (arith, high) in
        let at_j = ap (at (from_front s list)) same_j in
        elim (cases_lt i s) [
          | inl low ↦ omega (arith, front_low s list i low, low, at_j, front_high s list (j - s), above (j - s) l_in)
          | inr past ↦
              let same_i : s + (i - s) ≡ i = omega (arith, past) in
              let less : i - s < j - s = omega (arith, before, past) in
              omega (arith, ap (at (from_front s list)) same_i, at_j, front_high s list (i - s), front_high s list (j - s), rises.rise (i - s) (j - s) less l_in)
        ]
  ];
}

-- ---- some of the first segments before others

at_listed : (ends : List (ℕ × ℕ)) (list : List ℕ) (i : ℕ) → i < length list → ends_at (ends_listed ends list) i ≡ ends_at ends (at list i)
at_listed ends list i i_in =
    get_or_default (ends_listed ends list) i (0, 0) (ends_at ends 0) (omega (arith, i_in, length-map list (ends_at ends))) ∙ get_or-map (ends_at ends) list i 0

module _ (ends : List (ℕ × ℕ)) (before after : List ℕ) (t : ℕ)
    (low : (i : ℕ) → i < length before → at before i < t)
    (once : (i j : ℕ) → i < length before → j < length before → at before i ≡ at before j → i ≡ j) where
  abbrev b : ℕ
  b = length before

  abbrev place : ℕ → ℕ
  place i = if nat_lt i b then at before i else t + (i - b)

  place_low : (i : ℕ) → i < b → place i ≡ at before i
  place_low i i_in = rw (lt-ltb i b i_in) refl

  place_high : (i : ℕ) → b ≤ i → place i ≡ t + (i - b)
  place_high i high = rw (le-ltb i b high) refl

  size_part : length (ends_listed ends (before ++ after)) ≡ b + length after
  size_part = length-map (before ++ after) (ends_at ends) ∙ length-append before after

  size_whole : length (ends_listed ends (from_front t after)) ≡ t + length after
  size_whole = length-map (from_front t after) (ends_at ends) ∙ front_size t after

  at_place : (i : ℕ) → i < b + length after → at (before ++ after) i ≡ at (from_front t after) (place i)
  at_place i i_in = elim (cases_lt i b) [
    | inl early ↦
        get_or_append_left before after 0 i early ∙ sym (front_low t after (at before i) (low i early)) ∙ ap (at (from_front t after)) (sym (place_low i early))
    | inr late ↦
        get_or-append_right before after b i 0 refl late ∙ sym (front_high t after (i - b)) ∙ ap (at (from_front t after)) (sym (place_high i late))
  ]

  place_below : (i : ℕ) → i < b + length after → place i < t + length after
  place_below i i_in = elim (cases_lt i b) [
    | inl early ↦ omega (arith, place_low i early, low i early)
    | inr late ↦ omega (arith, place_high i late, late, i_in)
  ]

  place_apart : (i j : ℕ) → i < b + length after → j < b + length after → place i ≡ place j → i ≡ j
  place_apart i j i_in j_in same = elim (cases_lt i b) [
    | inl early ↦ elim (cases_lt j b) [
      | inl soon ↦ once i j early soon (sym (place_low i early) ∙ same ∙ place_low j soon)
      | inr late ↦ absurd (omega (arith, same, place_low i early, low i early, place_high j late))
    ]
    | inr past ↦ elim (cases_lt j b) [
      | inl soon ↦ absurd (omega (arith, same, place_low j soon, low j soon, place_high i past))
      | inr late ↦ omega (arith, same, place_high i past, place_high j late, past, late)
    ]
  ]

  selection : IsSelection (ends_listed ends (from_front t after)) (ends_listed ends (before ++ after)) place
  selection = record {
    below = λ i i_in. omega (arith, place_below i (omega (arith, i_in, size_part)), size_whole);
    apart = λ i j i_in j_in same. place_apart i j (omega (arith, i_in, size_part)) (omega (arith, j_in, size_part)) same;
    same = λ i i_in.
        let low_i : i < b + length after = omega (arith, i_in, size_part) in
        let size = length-append before after in
        let there : place i < length (from_front t after) = omega (arith, place_below i low_i, front_size t after) in
        let is = at_listed ends (before ++ after) i (omega (arith, low_i, size)) ∙ ap (ends_at ends) (at_place i low_i) ∙ sym (at_listed ends (from_front t after) (place i) there) in
        inl (ap (λ p. p.0) is, ap (λ p. p.1) is);
  }

  -- a flat map of the first t and the others gives one of some of the first and the others
  some_flat : (nodes : ℕ) → SomeSegmentsStayFlat → HasFlat nodes (ends_listed ends (from_front t after)) → HasFlat nodes (ends_listed ends (before ++ after))
  some_flat nodes some flat = some nodes (ends_listed ends (from_front t after)) (ends_listed ends (before ++ after)) place selection flat

-- so fewer first segments have a flat map with the others, where more do
front_flat : (nodes : ℕ) (ends : List (ℕ × ℕ)) (after : List ℕ) (r t : ℕ) → r ≤ t → SomeSegmentsStayFlat →
    HasFlat nodes (ends_listed ends (from_front t after)) → HasFlat nodes (ends_listed ends (from_front r after))
front_flat nodes ends after r t less some flat =
    let size = length-range_with_len 0 r in
    let is : (i : ℕ) → i < length (range_with_len 0 r) → at (range_with_len 0 r) i ≡ i = λ i i_in. omega (arith, get_or-range_with_len 0 r i 0 (omega (arith, i_in, size))) in
    let low : (i : ℕ) → i < length (range_with_len 0 r) → at (range_with_len 0 r) i < t = λ i i_in. omega (arith, is i i_in, i_in, size, less) in
    let once : (i j : ℕ) → i < length (range_with_len 0 r) → j < length (range_with_len 0 r) → at (range_with_len 0 r) i ≡ at (range_with_len 0 r) j → i ≡ j =
    λ i j i_in j_in same. sym (is i i_in) ∙ same ∙ is j j_in in
    some_flat ends (range_with_len 0 r) after t low once nodes some flat

-- ---- what is left

none_flat : (web : Graph) → HasNoFlatMap web → HasFlat web.nodes web.ends → ⊥
none_flat web none flat = none flat.next (record { is_map = flat.is_map; flat = flat.flat })

module _ (web : Graph) where
  abbrev n : ℕ
  n = length web.ends

  pub left_first : (s : ℕ) (kept : List ℕ) → s ≡ n → kept ≡ [] → HasNoFlatMap web → AreLeft web s kept
  left_first s (x ∷ kept) all empty none = absurd (omega (arith, ap length empty))
  left_first s [] all empty none = record {
    within = omega (arith, all);
    rises = bare;
    above = nothing;
    none = subst HasNoFlatMap (sym (all_web web (from_front s []) (from_front s []) apart lists full)) none;
    needed = λ t late t_in. absurd (omega (arith, all, late, t_in));
  }
    where
      nothing : (i : ℕ) → i < 0 → s ≤ at [] i
      nothing i i_in = absurd (omega (arith, i_in))

      bare : RiseBelow [] n
      bare = record { below = λ i i_in. absurd (omega (arith, i_in)); rise = λ i j before j_in. absurd (omega (arith, j_in)) }

      apart : AreSegmentsApart web.ends (from_front s [])
      apart = apart_from_rise web.ends (from_front s []) n (rise_front n s [] (omega (arith, all)) bare nothing) refl

      full : from_front s [] ≡ range_with_len 0 n
      full = append-nil (range_with_len 0 s) ∙ ap (range_with_len 0) all

      lists : (t : ℕ) → t < n → has (from_front s []) t ≡ true
      lists t low =
          let t_in : t < s = omega (arith, low, all) in
          subst (λ x. has (from_front s []) x ≡ true) (front_low s [] t t_in) (has_at (from_front s []) t (omega (arith, t_in, front_size s [])))

  module _ (s : ℕ) (kept : List ℕ) (now : AreLeft web s kept) where
    pub front_apart : (r : ℕ) → r ≤ s → AreSegmentsApart web.ends (from_front r kept)
    front_apart r less =
        let above : (i : ℕ) → i < length kept → r ≤ at kept i = λ i i_in. omega (arith, less, now.above i i_in) in
        apart_from_rise web.ends (from_front r kept) n (rise_front n r kept (omega (arith, less, now.within)) now.rises above) refl

    -- the segments from r on go
    pub left_down : (r : ℕ) → SomeSegmentsStayFlat → IsLeastFront web kept s r → AreLeft web r kept
    left_down r some front = record {
      within = omega (arith, front.within, now.within);
      rises = now.rises;
      above = λ i i_in. omega (arith, front.within, now.above i i_in);
      none = front.none;
      needed = λ t late t_in. elim (cases_lt t s) [
        | inl early ↦
            let above : (i : ℕ) → i < length kept → t < at kept i = λ i i_in. omega (arith, early, now.above i i_in) in
            let none : HasFlat web.nodes (ends_listed web.ends (without t kept)) → ⊥ = λ flat.
            let all_flat = subst (λ xs. HasFlat web.nodes (ends_listed web.ends (from_front t xs))) (all_later t kept above) flat in
            none_flat (listed_web web (from_front r kept)) front.none (front_flat web.nodes web.ends kept r t late some all_flat) in
            ((λ is. absurd (both_ways (has kept t) (has_none t kept above) is)), (λ flat. absurd (none flat)))
        | inr past ↦ now.needed t past t_in
      ];
    }

  -- the segment m stays
  pub left_more : (m : ℕ) (kept : List ℕ) → AreLeft web (suc m) kept → HasFlat web.nodes (ends_listed web.ends (from_front m kept)) → AreLeft web m (m ∷ kept)
  left_more m kept now flat = record {
    within = omega (arith, now.within);
    rises = record { below = below_more; rise = rise_more };
    above = above_more;
    none = subst (λ xs. HasNoFlatMap (listed_web web xs)) longer now.none;
    needed = needed_more;
  }
    where
      longer : from_front (suc m) kept ≡ from_front m (m ∷ kept)
      longer =
          let next : suc m ≡ m + 1 = omega arith in
          let same : 0 + m ≡ m = omega arith in
          let more : range_with_len 0 (m + 1) ≡ range_with_len 0 m ++ m ∷ [] = range_with_len-more 0 m ∙ ap (λ x. range_with_len 0 m ++ x ∷ []) same in
          ap (λ k. from_front k kept) next ∙ ap (λ xs. xs ++ kept) more ∙ append_assoc (range_with_len 0 m) (m ∷ []) kept

      below_more : (i : ℕ) → i < length (m ∷ kept) → at (m ∷ kept) i < n
      below_more zero i_in = omega (arith, now.within)
      below_more (suc i) i_in = now.rises.below i (omega (arith, i_in))

      rise_more : (i j : ℕ) → i < j → j < length (m ∷ kept) → at (m ∷ kept) i < at (m ∷ kept) j
      rise_more i zero before j_in = absurd (omega (arith, before))
      rise_more zero (suc j) before j_in = omega (arith, now.above j (omega (arith, j_in)))
      rise_more (suc i) (suc j) before j_in = now.rises.rise i j (omega (arith, before)) (omega (arith, j_in))

      above_more : (i : ℕ) → i < length (m ∷ kept) → m ≤ at (m ∷ kept) i
      above_more zero i_in = omega arith
      above_more (suc i) i_in = omega (arith, now.above i (omega (arith, i_in)))

      above_m : (i : ℕ) → i < length kept → m < at kept i
      above_m i i_in = omega (arith, now.above i i_in)

      -- what is later than m is all of the rest
      whole : without m (m ∷ kept) ≡ from_front m kept
      whole = ap (from_front m) (first_not_later m m kept (omega arith) ∙ all_later m kept above_m)

      Needed : ℕ → Bool → List ℕ → Type 0
      Needed t test xs = (test ≡ true) ↔ HasFlat web.nodes (ends_listed web.ends (from_front t xs))

      needed_more : StaysWhereNeeded web m (m ∷ kept)
      needed_more t late t_in = elim (cases_eq t m) [
        | inl same ↦
            let P : ℕ → Type 0 = λ x. (has (m ∷ kept) x ≡ true) ↔ HasFlat web.nodes (ends_listed web.ends (without x (m ∷ kept))) in
            let there : has (m ∷ kept) m ≡ true = or_left (eqb m m) (has kept m) (eq-eqb m m refl) in
            let is_flat = subst (λ xs. HasFlat web.nodes (ends_listed web.ends xs)) (sym whole) flat in
            subst P (sym same) ((λ _. is_flat), (λ _. there))
        | inr other ↦
            let past : suc m ≤ t = omega (arith, late, other) in
            let far : m ≢ t = λ is. omega (arith, is, past) in
            let same_has : has (m ∷ kept) t ≡ has kept t = rw (ne_eqb m t far) refl in
            let same_list : filter (nat_lt t) (m ∷ kept) ≡ filter (nat_lt t) kept = first_not_later t m kept late in
            subst (λ test. Needed t test (filter (nat_lt t) (m ∷ kept))) (sym same_has) (subst (Needed t (has kept t)) (sym same_list) (now.needed t past t_in))
      ]

module _ (web : Graph) (list : List ℕ) (left : AreLeft web 0 list) where
  list_apart : AreSegmentsApart web.ends list
  list_apart = apart_from_rise web.ends list (length web.ends) left.rises refl

  flat_less : SomeSegmentsStayFlat → (k : ℕ) → k < length list → HasFlat web.nodes (left_without k (ends_listed web.ends list))
  flat_less some k k_in =
      let before = take k list in
      let after = drop (suc k) list in
      let t = at list k in
      let parts : list ≡ before ++ t ∷ after = split_at list k 0 k_in in
      let long : length before ≡ k = length-take-le k list (omega (arith, k_in)) in
      let at_before : (i : ℕ) → i < k → at before i ≡ at list i = λ i i_in. get_or-take k list i 0 i_in in
      let low : (i : ℕ) → i < length before → at before i < t = λ i i_in.
      let i_low : i < k = omega (arith, i_in, long) in
      omega (arith, at_before i i_low, left.rises.rise i k i_low k_in) in
      let once : (i j : ℕ) → i < length before → j < length before → at before i ≡ at before j → i ≡ j = λ i j i_in j_in same.
      let i_low : i < k = omega (arith, i_in, long) in
      let j_low : j < k = omega (arith, j_in, long) in
      list_apart.apart i j (omega (arith, i_low, k_in)) (omega (arith, j_low, k_in)) (sym (at_before i i_low) ∙ same ∙ at_before j j_low) in
      let rest : without t list ≡ from_front t after = ap (from_front t) (later_from k list left.rises.rise k_in) in
      let is_flat = subst (λ xs. HasFlat web.nodes (ends_listed web.ends xs)) rest ((left.needed t (omega arith) (left.rises.below k k_in)).0 (has_at list k k_in)) in
      subst (HasFlat web.nodes) (sym (left_listed (ends_at web.ends) list before after t k parts long)) (some_flat web.ends before after t low once web.nodes some is_flat)

  -- none may be left out any more: a core
  pub core_left : EndsIn web.nodes web.ends → HasNoLoop web.ends → SomeSegmentsStayFlat → IsLeftOver web list
  core_left ends_in no_loop some =
      let size = length-map list (ends_at web.ends) in
      record {
        rises = left.rises;
        needed = left.needed;
        core = record {
          ends_in = EndsIn-from_each web.nodes (ends_listed web.ends list) (λ e e_in.
              let e_low : e < length list = omega (arith, e_in, size) in
              subst (HasNodes web.nodes) (sym (at_listed web.ends list e e_low)) (EndsIn-at web.nodes web.ends ends_in (at list e) (left.rises.below e e_low)));
          no_loop = no_loop_listed web list no_loop list_apart;
          not_flat = left.none;
          flat_without = λ k k_in. flat_less some k (omega (arith, k_in, size));
        };
      }
