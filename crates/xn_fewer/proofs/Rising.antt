-- Lists that rise in some rank: two of them with the same elements are one.
use Rattle.std.proofs.Common.{◌≡◌, ◌≢◌, ℕ, suc, ◌<◌, ◌≤◌, inl, inr, Bool, true, false, eqb, List, [], ◌∷◌, length, refl, sym, ◌∙◌, ap, ap₂, arith}
use Rattle.std.specs.List.{AllByRecursion, AllPairs, IsDistinct}
use Rattle.std.specs.List.Sorted.{IsStrictlyIncreasing}
use Rattle.std.specs.Prelude.{filter, nat_eq, slice_index_or}
use Rattle.std.proofs.lemmas.Bool.{both_ways, cases_Bool, cases_eq, or_cases, cond-true, cond-false, eqb-false, eqb-true, eq-eqb, ne_eqb}
use Rattle.std.proofs.lemmas.List.Kept.{AllPairs-from_increasing}
use Rattle.xn_model.specs.Lists.{has, position_in}
use Rattle.xn_model.proofs.Has.{has-first, has-later}
pub use Rattle.xn_model.proofs.Has.{all_of, has-all}
use Rattle.xn_fewer.proofs.Has.{has-picked}

-- the rank rises along the list
abbrev pub Rises : (ℕ → ℕ) → List ℕ → Type 0
Rises rank [] = Unit {0}
Rises rank (x ∷ xs) = AllByRecursion (λ y. rank x < rank y) xs × Rises rank xs

-- the numbers themselves rise
abbrev pub Rising : List ℕ → Type 0
Rising xs = Rises (λ x. x) xs

pub all_made : (P : ℕ → Type 0) (xs : List ℕ) → ((y : ℕ) → has xs y ≡ true → P y) → AllByRecursion P xs
all_made P [] each = tt
all_made P (x ∷ xs) each = (each x (has-first x xs), all_made P xs (λ y h. each y (has-later x xs y h)))

-- ---- lists that rise

all_indexed : (P : ℕ → Type 0) (xs : List ℕ) → ((k : ℕ) → k < length xs → P (slice_index_or xs k 0)) → AllByRecursion P xs
all_indexed P [] each = tt
all_indexed P (x ∷ xs) each = (each 0 (omega arith), all_indexed P xs (λ k k_in. each (suc k) (omega arith)))

rising-from_pairs : (xs : List ℕ) → AllPairs (λ x y. x < y) xs → Rising xs
rising-from_pairs [] pairs = tt
rising-from_pairs (x ∷ xs) pairs = (
  all_indexed (λ y. x < y) xs (λ k k_in. pairs 0 (suc k) 0 (omega arith) (omega arith)),
  rising-from_pairs xs (λ i j d before j_in. pairs (suc i) (suc j) d (omega arith) (omega arith)),
)

pub rising-from_increasing : (xs : List ℕ) → IsStrictlyIncreasing xs → Rising xs
rising-from_increasing xs rise = rising-from_pairs xs (AllPairs-from_increasing xs rise)

pub distinct-rising : (xs : List ℕ) → Rising xs → IsDistinct nat_eq xs
unfolding IsDistinct
distinct-rising [] rises = tt
distinct-rising (x ∷ xs) rises =
    (all_made (λ y. nat_eq x y ≡ false) xs (λ y y_in. let low = all_of (λ z. x < z) xs rises.0 y y_in in ne_eqb x y (λ same. omega (arith, low, same))), distinct-rising xs rises.1)

pub rises-filter : (rank : ℕ → ℕ) (p : ℕ → Bool) (xs : List ℕ) → Rises rank xs → Rises rank (filter p xs)
rises-filter rank p [] rises = tt
rises-filter rank p (x ∷ xs) rises =
    let rest = rises-filter rank p xs rises.1 in
    elim (cases_Bool (p x)) [
      | inl passes ↦ rw passes (all_made (λ y. rank x < rank y) (filter p xs) (λ y h. all_of (λ q. rank x < rank q) xs rises.0 y (has-picked p xs y h).0), rest)
      | inr fails ↦ rw fails rest
    ]

-- an element of the list is no lower than the first
first_is_least : (rank : ℕ → ℕ) (x : ℕ) (xs : List ℕ) → Rises rank (x ∷ xs) → (z : ℕ) → has (x ∷ xs) z ≡ true → rank x ≤ rank z
first_is_least rank x xs rises z h = elim (or_cases (eqb x z) (has xs z) h) [
  | inl here ↦ let same : rank x ≡ rank z = ap rank (eqb-true x z here) in omega arith
  | inr later ↦ let low = all_of (λ q. rank x < rank q) xs rises.0 z later in omega arith
]

-- an element that isn't the first is a later one
later_if_above : (rank : ℕ → ℕ) (x : ℕ) (xs : List ℕ) (z : ℕ) → has (x ∷ xs) z ≡ true → rank x < rank z → has xs z ≡ true
later_if_above rank x xs z h above = elim (or_cases (eqb x z) (has xs z) h) [
  | inl here ↦ let same : rank x ≡ rank z = ap rank (eqb-true x z here) in absurd (omega arith)
  | inr later ↦ later
]

pub same_rising : (rank : ℕ → ℕ) (xs ys : List ℕ) → Rises rank xs → Rises rank ys →
    ((z : ℕ) → has xs z ≡ true → has ys z ≡ true) → ((z : ℕ) → has ys z ≡ true → has xs z ≡ true) → xs ≡ ys
same_rising rank [] [] one two there back = refl
same_rising rank [] (y ∷ ys) one two there back = absurd (both_ways false refl (back y (has-first y ys)))
same_rising rank (x ∷ xs) [] one two there back = absurd (both_ways false refl (there x (has-first x xs)))
same_rising rank (x ∷ xs) (y ∷ ys) one two there back =
    let low : rank x ≤ rank y = first_is_least rank x xs one y (back y (has-first y ys)) in
    let high : rank y ≤ rank x = first_is_least rank y ys two x (there x (has-first x xs)) in
    let heads : x ≡ y = elim (or_cases (eqb y x) (has ys x) (there x (has-first x xs))) [
      | inl here ↦ sym (eqb-true y x here)
      | inr later ↦ let above = all_of (λ q. rank y < rank q) ys two.0 x later in absurd (omega (arith, above, low))
    ] in
    ap₂ (λ h t. h ∷ t) heads (same_rising rank xs ys one.1 two.1
    (λ z z_in. let above = all_of (λ q. rank x < rank q) xs one.0 z z_in in later_if_above rank y ys z (there z (has-later x xs z z_in)) (omega (arith, above, high)))
    (λ z z_in. let above = all_of (λ q. rank y < rank q) ys two.0 z z_in in later_if_above rank x xs z (back z (has-later y ys z z_in)) (omega (arith, above, low))))

-- ---- positions

position_first : (x : ℕ) (xs : List ℕ) (y : ℕ) → x ≡ y → position_in (x ∷ xs) y ≡ 0
position_first x xs y here = cond-true _ _ _ (eq-eqb x y here)

position_later : (x : ℕ) (xs : List ℕ) (y : ℕ) → x ≢ y → position_in (x ∷ xs) y ≡ suc (position_in xs y)
position_later x xs y past = cond-false _ _ _ (ne_eqb x y past)

-- a list without repeats rises by its own positions
rises-shifted : (rank more : ℕ → ℕ) (xs : List ℕ) → ((x : ℕ) → has xs x ≡ true → more x ≡ suc (rank x)) → Rises rank xs → Rises more xs
rises-shifted rank more [] same rises = tt
rises-shifted rank more (x ∷ xs) same rises =
    let here = same x (has-first x xs) in (
      all_made (λ y. more x < more y) xs (λ y h. let low = all_of (λ q. rank x < rank q) xs rises.0 y h in omega (arith, low, here, same y (has-later x xs y h))),
      rises-shifted rank more xs (λ y h. same y (has-later x xs y h)) rises.1,
    )

pub own_order : (xs : List ℕ) → IsDistinct nat_eq xs → Rises (position_in xs) xs
unfolding IsDistinct
own_order [] distinct = tt
own_order (x ∷ xs) distinct =
    let past : (y : ℕ) → has xs y ≡ true → position_in (x ∷ xs) y ≡ suc (position_in xs y) = λ y h.
    position_later x xs y (eqb-false x y (all_of (λ q. eqb x q ≡ false) xs distinct.0 y h)) in
    let here = position_first x xs x refl in (
      all_made (λ y. position_in (x ∷ xs) x < position_in (x ∷ xs) y) xs (λ y h. omega (arith, here, past y h)),
      rises-shifted (position_in xs) (position_in (x ∷ xs)) xs past (own_order xs distinct.1),
    )

-- two elements at one position are one
pub same_position : (xs : List ℕ) (f g : ℕ) → has xs f ≡ true → has xs g ≡ true → position_in xs f ≡ position_in xs g → f ≡ g
same_position [] f g f_in g_in same = absurd (both_ways false refl f_in)
same_position (x ∷ xs) f g f_in g_in same =
    let rest : (y : ℕ) → x ≢ y → has (x ∷ xs) y ≡ true → has xs y ≡ true = λ y other h. elim (or_cases (eqb x y) (has xs y) h) [ inl e ↦ absurd (other (eqb-true x y e)) | inr more ↦ more ] in
    elim (cases_eq x f) [
      | inl f_here ↦ elim (cases_eq x g) [
        | inl g_here ↦ sym f_here ∙ g_here
        | inr g_past ↦ absurd (omega (arith, same, position_first x xs f f_here, position_later x xs g g_past))
      ]
      | inr f_past ↦ elim (cases_eq x g) [
        | inl g_here ↦ absurd (omega (arith, same, position_first x xs g g_here, position_later x xs f f_past))
        | inr g_past ↦ same_position xs f g (rest f f_past f_in) (rest g g_past g_in) (omega (arith, same, position_later x xs f f_past, position_later x xs g g_past))
      ]
    ]
