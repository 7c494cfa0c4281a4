-- What a tangle begins with, as it is filled in: the edges that have a walk, the marks and the notes.
use Rattle.std.proofs.Common.{◌≡◌, ◌≢◌, ℕ, zero, suc, ◌+◌, ◌*◌, ◌/◌, ◌<◌, ◌≤◌, inl, inr, Bool, true, false, Vec, List, [], ◌∷◌, ◌++◌, length, get_or, set, refl, sym, ◌∙◌, ap, subst, arith, vec_items}
use Rattle.std.specs.Global.{Global}
use Rattle.std.specs.List.{range_with_len}
use Rattle.std.specs.Prelude.{filter}
use Rattle.std.proofs.lemmas.Bool.{cases_eq, cases_lt, cond-true, cond-false}
use Rattle.std.proofs.lemmas.List.{append-nil, get_or-map, length-map, get_or-set_other, get_or-set_same}
use Rattle.std.proofs.lemmas.List.Elements.{filter-append}
use Rattle.xn_list.specs.Lists.{lists_of}
use Rattle.xn_model.specs.Lists.{at}
use Rattle.xn_model.proofs.Ranges.{range-push}
use Rattle.xn_map.specs.Marks.{is_marked}
use Rattle.xn_insert.specs.ListedLoose.{has_dart, walk_of}
use Rattle.xn_simple.specs.Tangle.{AreNotesOf, HoldNotes, IsNoted, WalksAreApart}
use Rattle.xn_simple.proofs.Placed.{notes_stay}

past_list : (lists : List (List ℕ)) (e : ℕ) → length lists ≤ e → walk_of lists e ≡ []
past_list [] e past = refl
past_list (w ∷ ws) zero past = absurd (omega (arith, past))
past_list (w ∷ ws) (suc e) past = past_list ws e (omega (arith, past))

-- a list of vectors at a place
pub list_there : (vectors : List (Vec ℕ Global)) (e : ℕ) (v : Vec ℕ Global) → e < length vectors → v ≡ get_or vectors e v → v.items ≡ walk_of (lists_of vectors) e
list_there vectors e v e_in is = ap vec_items is ∙ sym (get_or-map vec_items vectors e v [] e_in)

-- and where it has a dart
pub walk_read : (vectors : List (Vec ℕ Global)) (e i : ℕ) (v : Vec ℕ Global) → i < length (walk_of (lists_of vectors) e) → v ≡ get_or vectors e v → v.items ≡ walk_of (lists_of vectors) e
walk_read vectors e i v i_in is = elim (cases_lt e (length vectors)) [
  | inl low ↦ list_there vectors e v low is
  | inr past ↦
      let size = length-map vectors vec_items in
      let none = ap length (past_list (lists_of vectors) e (omega (arith, size, past))) in
      absurd (omega (arith, i_in, none))
]

pub dart_of : (ds : List ℕ) → length ds ≢ 0 → has_dart ds ≡ true
dart_of [] some = absurd (some refl)
dart_of (d ∷ ds) some = refl

pub dartless : (ds : List ℕ) → length ds ≡ 0 → has_dart ds ≡ false
dartless [] none = refl
dartless (d ∷ ds) none = absurd (omega (arith, none))

-- one more edge
pub walked_more : (p : ℕ → Bool) (n : ℕ) (edges : List ℕ) → p n ≡ true → edges ≡ filter p (range_with_len 0 n) → edges ++ n ∷ [] ≡ filter p (range_with_len 0 (n + 1))
walked_more p n edges passes before =
    ap (λ xs. xs ++ n ∷ []) before ∙ ap (λ xs. filter p (range_with_len 0 n) ++ xs) (sym (cond-true (p n) (n ∷ []) [] passes))
    ∙ sym (filter-append p (range_with_len 0 n) (n ∷ [])) ∙ ap (filter p) (sym (range-push n))

pub walked_none : (p : ℕ → Bool) (n : ℕ) (edges : List ℕ) → p n ≡ false → edges ≡ filter p (range_with_len 0 n) → edges ≡ filter p (range_with_len 0 (n + 1))
walked_none p n edges fails before =
    before ∙ sym (append-nil (filter p (range_with_len 0 n))) ∙ ap (λ xs. filter p (range_with_len 0 n) ++ xs) (sym (cond-false (p n) (n ∷ []) [] fails))
    ∙ sym (filter-append p (range_with_len 0 n) (n ∷ [])) ∙ ap (filter p) (sym (range-push n))

-- one more node loses its mark
pub low_more : (four : List Bool) (v : ℕ) → v < length four → ((x : ℕ) → x < v → is_marked four x ≡ false) → (x : ℕ) → x < v + 1 → is_marked (set four v false) x ≡ false
low_more four v v_in before x x_in = elim (cases_eq x v) [
  | inl here ↦ ap (is_marked (set four v false)) here ∙ get_or-set_same four v false false v_in
  | inr other ↦ get_or-set_other four v x false false other ∙ before x (omega (arith, x_in, other))
]

pub high_more : (four : List Bool) (v nodes : ℕ) → ((x : ℕ) → v ≤ x → x < nodes → is_marked four x ≡ true) → (x : ℕ) → v + 1 ≤ x → x < nodes → is_marked (set four v false) x ≡ true
high_more four v nodes before x high x_in = get_or-set_other four v x false false (λ same. omega (arith, high, same)) ∙ before x (omega (arith, high)) x_in

-- one more walk is noted
pub noted_more : (segments : ℕ) (lists : List (List ℕ)) → WalksAreApart segments lists → (e : ℕ) (walk owners places owners_now places_now : List ℕ) → walk ≡ walk_of lists e →
    IsNoted e walk owners places owners_now places_now → ((x : ℕ) → x < e → HoldNotes owners places x (walk_of lists x)) → (x : ℕ) → x < e + 1 → HoldNotes owners_now places_now x (walk_of lists x)
noted_more segments lists are e walk owners places owners_now places_now is noted before x x_in = elim (cases_eq x e) [
  | inl here ↦
      let walk_is : walk ≡ walk_of lists x = is ∙ ap (walk_of lists) (sym here) in
      subst (HoldNotes owners_now places_now x) walk_is (subst (λ k. HoldNotes owners_now places_now k walk) (sym here) noted.here)
  | inr other ↦
      notes_stay e x walk (walk_of lists x) owners places owners_now places_now noted
      (λ i j i_in j_in same. other (sym (are.apart e x i j (subst (λ w. i < length w) is i_in) j_in (ap (λ w. at w i / 2) (sym is) ∙ same)).0))
      (before x (omega (arith, x_in, other)))
]

pub all_noted : (segments : ℕ) (lists : List (List ℕ)) (owners places : List ℕ) (e : ℕ) → length lists ≤ e → length owners ≡ segments → length places ≡ segments →
    ((x : ℕ) → x < e → HoldNotes owners places x (walk_of lists x)) → AreNotesOf segments lists owners places
all_noted segments lists owners places e whole owners_fit places_fit before = record {
  owners_fit = owners_fit;
  places_fit = places_fit;
  held = λ x. elim (cases_lt x e) [
    | inl low ↦ before x low
    | inr past ↦ λ i i_in. let none = ap length (past_list lists x (omega (arith, whole, past))) in absurd (omega (arith, i_in, none))
  ];
}

-- a walk's darts and segments
pub walk_below : (segments : ℕ) (lists : List (List ℕ)) → WalksAreApart segments lists → (e : ℕ) (walk : List ℕ) → walk ≡ walk_of lists e → (i : ℕ) → i < length walk → at walk i < 2 * segments
walk_below segments lists are e walk is = subst (λ w. (i : ℕ) → i < length w → at w i < 2 * segments) (sym is) (are.below e)

pub walk_once : (segments : ℕ) (lists : List (List ℕ)) → WalksAreApart segments lists → (e : ℕ) (walk : List ℕ) → walk ≡ walk_of lists e →
    (i j : ℕ) → i < length walk → j < length walk → at walk i / 2 ≡ at walk j / 2 → i ≡ j
walk_once segments lists are e walk is =
    subst (λ w. (i j : ℕ) → i < length w → j < length w → at w i / 2 ≡ at w j / 2 → i ≡ j) (sym is) (λ i j i_in j_in same. (are.apart e e i j i_in j_in same).1)
