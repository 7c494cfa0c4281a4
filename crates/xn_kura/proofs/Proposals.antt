-- What is proposed, step by step, and when paths use every segment.
use Rattle.std.proofs.Common.{◌≡◌, ◌≢◌, ℕ, ◌+◌, ◌<◌, ◌≤◌, inl, inr, true, false, eqb, get_or, take, drop, List, [], ◌∷◌, ◌++◌, length, refl, sym, ◌∙◌, ap, subst, arith, length-append}
use Rattle.std.specs.Prelude.{Option, Vec, None, Some}
use Rattle.std.specs.Global.{Global}
use Rattle.std.specs.List.{IsDistinct, concat}
use Rattle.std.specs.Option.{is_some}
use Rattle.std.proofs.lemmas.Bool.{cases_eq, cases_lt, cases_Bool, both_ways, eqb-true, eq-eqb, false_from_ne_true, or_cases, or_left}
use Rattle.std.proofs.lemmas.List.{get_or_append_left, get_or_at, length-map, map-append, take_more}
use Rattle.xn_list.specs.Lists.{lists_of}
use Rattle.xn_model.specs.Lists.{has}
use Rattle.xn_ring.proofs.Counting.{count-all}
use Rattle.xn_model.proofs.Has.{has-append, has-left, has-right}
use Rattle.xn_kura.proofs.Distinct.{distinct-apart}
use Rattle.xn_kura.proofs.MarkedPaths.{concat_around, concat_more}
use Rattle.xn_kura.proofs.Marking.{distinct-push}
use Rattle.xn_kura.proofs.Tally.{count-le_cover, distinct-le}
use Rattle.xn_kura.proofs.Walking.{around}
use Rattle.xn_kura.specs.Flaws.{begins_at, goes_to, path_at}
use Rattle.xn_kura.specs.Kinds.{AreNodesWith, ArePartedBy}
use Rattle.xn_kura.specs.Straight.{IsStraightBetween, path_in}
use Rattle.xn_model.specs.Loose.{dart_count}

-- ---- one more element

has-last : (xs : List ℕ) (x y : ℕ) → has (xs ++ x ∷ []) y ≡ true → x ≢ y → has xs y ≡ true
has-last xs x y h apart = elim (has-append xs (x ∷ []) y h) [
  | inl before ↦ before
  | inr last ↦ elim (or_cases (eqb x y) false last) [
    | inl here ↦ absurd (apart (eqb-true x y here))
    | inr none ↦ absurd (both_ways false refl none)
  ]
]

has-here : (xs : List ℕ) (x : ℕ) → has (xs ++ x ∷ []) x ≡ true
has-here xs x = has-right xs (x ∷ []) x (or_left (eqb x x) false (eq-eqb x x refl))

-- ---- the nodes with a number of darts

pub nodes-start : (ends : List (ℕ × ℕ)) (count : ℕ) → AreNodesWith ends 0 count []
unfolding IsDistinct
nodes-start ends count = record {
  once = tt;
  are = λ v h. absurd (both_ways false refl h);
  all = λ v v_in is. absurd (omega (arith, v_in));
}

module _ (ends : List (ℕ × ℕ)) (v count : ℕ) (nodes : List ℕ) (are : AreNodesWith ends v count nodes) where
  pub nodes-push : dart_count ends v ≡ count → AreNodesWith ends (v + 1) count (nodes ++ v ∷ [])
  nodes-push is = record {
    once = distinct-push nodes v are.once (false_from_ne_true _ (λ h. let low = (are.are v h).0 in omega (arith, low)));
    are = λ w h. elim (cases_eq v w) [
      | inl same ↦ let P : ℕ → Type 0 = λ x. (x < v + 1) × (dart_count ends x ≡ count) in subst P same (omega arith, is)
      | inr other ↦ let before = are.are w (has-last nodes v w h other) in (omega (arith, before.0), before.1)
    ];
    all = λ w w_in counted. elim (cases_eq v w) [
      | inl same ↦ ap (has (nodes ++ v ∷ [])) (sym same) ∙ has-here nodes v
      | inr other ↦ has-left nodes (v ∷ []) w (are.all w (omega (arith, w_in, other)) counted)
    ];
  }

  pub nodes-skip : dart_count ends v ≢ count → AreNodesWith ends (v + 1) count nodes
  nodes-skip is_not = record {
    once = are.once;
    are = λ w h. let before = are.are w h in (omega (arith, before.0), before.1);
    all = λ w w_in counted. elim (cases_eq v w) [
      | inl same ↦ absurd (is_not (ap (dart_count ends) same ∙ counted))
      | inr other ↦ are.all w (omega (arith, w_in, other)) counted
    ];
  }

-- ---- the two sides

pub parted-start : (ends : List (ℕ × ℕ)) (u : ℕ) → ArePartedBy ends u [] [] []
unfolding IsDistinct
parted-start ends u = record {
  near_once = tt;
  far_once = tt;
  near_are = λ v h. absurd (both_ways false refl h);
  far_are = λ v h. absurd (both_ways false refl h);
  as_many = refl;
}

module _ (ends : List (ℕ × ℕ)) (u : ℕ) (nodes : List ℕ) (once : IsDistinct eqb nodes) (i : ℕ) (i_in : i < length nodes) (near far : List ℕ)
    (parted : ArePartedBy ends u (take i nodes) near far) where
  abbrev v : ℕ
  v = get_or nodes i 0

  more : take (i + 1) nodes ≡ take i nodes ++ v ∷ []
  more = take_more nodes i 0 i_in

  long : length (take (i + 1) nodes) ≡ length (take i nodes) + 1
  long = ap length more ∙ length-append (take i nodes) (v ∷ [])

  earlier : (w : ℕ) → has (take i nodes) w ≡ true → has (take (i + 1) nodes) w ≡ true
  earlier w h = ap (λ xs. has xs w) more ∙ has-left (take i nodes) (v ∷ []) w h

  here : has (take (i + 1) nodes) v ≡ true
  here = ap (λ xs. has xs v) more ∙ has-here (take i nodes) v

  new_one : (xs : List ℕ) → ((w : ℕ) → has xs w ≡ true → has (take i nodes) w ≡ true) → has xs v ≡ false
  new_one xs inside = false_from_ne_true _ (λ h.
      let P : List ℕ → Type 0 = λ zs. IsDistinct eqb zs in
      distinct-apart (take i nodes) _ (subst P (around nodes i 0 i_in) once) v (inside v h) (or_left (eqb v v) _ (eq-eqb v v refl)))

  pub parted-near : (found : Option (Vec ℕ Global)) → IsStraightBetween ends u v (path_in found) → is_some found ≡ false → ArePartedBy ends u (take (i + 1) nodes) (near ++ v ∷ []) far
  parted-near (Some path) between none = absurd (both_ways true none refl)
  parted-near None between none = record {
    near_once = distinct-push near v parted.near_once (new_one near (λ w h. (parted.near_are w h).0));
    far_once = parted.far_once;
    near_are = λ w h. elim (cases_eq v w) [
      | inl same ↦ let P : ℕ → Type 0 = λ x. (has (take (i + 1) nodes) x ≡ true) × IsStraightBetween ends u x None in subst P same (here, between)
      | inr other ↦ let before = parted.near_are w (has-last near v w h other) in (earlier w before.0, before.1)
    ];
    far_are = λ w h. let before = parted.far_are w h in (earlier w before.0, before.1);
    as_many = omega (arith, long, parted.as_many, length-append near (v ∷ []));
  }

  pub parted-far : (found : Option (Vec ℕ Global)) → IsStraightBetween ends u v (path_in found) → is_some found ≡ true → ArePartedBy ends u (take (i + 1) nodes) near (far ++ v ∷ [])
  parted-far None between some = absurd (both_ways false refl some)
  parted-far (Some path) between some = record {
    near_once = parted.near_once;
    far_once = distinct-push far v parted.far_once (new_one far (λ w h. (parted.far_are w h).0));
    near_are = λ w h. let before = parted.near_are w h in (earlier w before.0, before.1);
    far_are = λ w h. elim (cases_eq v w) [
      | inl same ↦
          let P : ℕ → Type 0 = λ x. (has (take (i + 1) nodes) x ≡ true) × ((p : List ℕ) × IsStraightBetween ends u x (Some p)) in
          subst P same (here, (path.items, between))
      | inr other ↦ let before = parted.far_are w (has-last far v w h other) in (earlier w before.0, before.1)
    ];
    as_many = omega (arith, long, parted.as_many, length-append far (v ∷ []));
  }

-- ---- the paths of the pairs

pub paths-push : (ends pairs : List (ℕ × ℕ)) (nodes : List ℕ) (lists : List (Vec ℕ Global)) (i : ℕ) (path : Vec ℕ Global) → length lists ≡ i →
    ((q : ℕ) → q < i → IsStraightBetween ends (begins_at pairs nodes q) (goes_to pairs nodes q) (Some (path_at (lists_of lists) q))) →
    (found : Option (Vec ℕ Global)) → IsStraightBetween ends (begins_at pairs nodes i) (goes_to pairs nodes i) (path_in found) → found ≡ Some path →
    (q : ℕ) → q < i + 1 → IsStraightBetween ends (begins_at pairs nodes q) (goes_to pairs nodes q) (Some (path_at (lists_of (lists ++ path ∷ [])) q))
paths-push ends pairs nodes lists i path fits_now each found between is q q_in =
    let joined : lists_of (lists ++ path ∷ []) ≡ lists_of lists ++ path.items ∷ [] = map-append _ lists (path ∷ []) in
    let fits : length (lists_of lists) ≡ i = length-map lists _ ∙ fits_now in
    let P : List ℕ → Type 0 = λ xs. IsStraightBetween ends (begins_at pairs nodes q) (goes_to pairs nodes q) (Some xs) in
    elim (cases_lt q i) [
      | inl before ↦ subst P (sym (ap (λ xs. path_at xs q) joined ∙ get_or_append_left (lists_of lists) (path.items ∷ []) [] q (omega (arith, before, fits)))) (each q before)
      | inr last ↦
          let same : i ≡ q = omega (arith, last, q_in) in
          let Q : ℕ → Type 0 = λ r. IsStraightBetween ends (begins_at pairs nodes r) (goes_to pairs nodes r) (Some path.items) in
          let R : Option (Vec ℕ Global) → Type 0 = λ o. IsStraightBetween ends (begins_at pairs nodes i) (goes_to pairs nodes i) (path_in o) in
          subst P (sym (ap (λ xs. path_at xs q) joined ∙ get_or_at (lists_of lists) path.items [] [] q (fits ∙ same))) (subst Q same (subst R is between))
    ]

-- ---- counting segments

pub segments_more : (paths : List (List ℕ)) (q : ℕ) → q < length paths → length (concat (take (q + 1) paths)) ≡ length (concat (take q paths)) + length (path_at paths q)
segments_more paths q q_in = ap length (concat_more paths q q_in) ∙ length-append (concat (take q paths)) (path_at paths q)

pub segments_within : (paths : List (List ℕ)) (q : ℕ) → q < length paths → length (concat (take q paths)) + length (path_at paths q) ≤ length (concat paths)
segments_within paths q q_in =
    let front = concat (take q paths) ++ path_at paths q in
    omega (arith, ap length (concat_around paths q q_in), length-append front (concat (drop (q + 1) paths)), length-append (concat (take q paths)) (path_at paths q))

module _ (n : ℕ) (xs : List ℕ) (once : IsDistinct eqb xs) (below : (x : ℕ) → has xs x ≡ true → x < n) where
  pub at_most_all : length xs ≤ n
  at_most_all = let few = distinct-le n (λ x. true) xs once (λ x h. (below x h, refl)) in omega (arith, few, count-all n)

  -- each number below n stands in the list where it is n long
  pub all_by_length : ((x : ℕ) → x < n → has xs x ≡ true) → n ≡ length xs
  all_by_length each =
      let many = count-le_cover n (λ x. true) xs (λ x x_in t. each x x_in) in
      omega (arith, many, count-all n, at_most_all)

  pub length_by_all : n ≡ length xs → (x : ℕ) → x < n → has xs x ≡ true
  length_by_all fits x x_in = elim (cases_Bool (has xs x)) [
    | inl is ↦ is
    | inr out_of ↦
        let few = distinct-le n (λ y. true) (xs ++ x ∷ []) (distinct-push xs x once out_of) (λ y h. elim (cases_eq x y) [
          | inl same ↦ let P : ℕ → Type 0 = λ z. (z < n) × (true ≡ true) in subst P same (x_in, refl)
          | inr other ↦ (below y (has-last xs x y h other), refl)
        ]) in
        absurd (omega (arith, few, count-all n, length-append xs (x ∷ []), fits))
  ]
