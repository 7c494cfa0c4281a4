-- What the lines of a text say one by one, beside what is read from the text.
use Rattle.std.proofs.Common.{◌≡◌, ℕ, zero, suc, ◌+◌, ◌-◌, ◌^◌, ◌≤◌, ◌<◌, Bool, true, false, cond, ltb, inl, inr, List, [], ◌∷◌, ◌++◌, Option, Result, Ok, Err, length, map, min, refl, sym, ap, ◌∙◌, append_assoc, arith}
use Rattle.std.proofs.lemmas.Bool.{cases_Bool, ltb-true, ltb-false}
use Rattle.std.proofs.lemmas.List.{append-nil}
use Rattle.std.proofs.lemmas.List.Splits.{slice_split_first, slice_split_none, length-slice_split}
use Rattle.std.proofs.lemmas.List.Sums.{fails_before_first}
use Rattle.std.proofs.Math.Nat.{min-eq_left}
use Rattle.std.specs.List.{after_first, before_first, flat_map, position_or_len, slice_split}
use Rattle.xn_kinds.specs.declared.flaws.Flaw.{Flaw}
use Rattle.xn_text.specs.Pieces.{is_line_end, lines_of, numbered_lines, unended_line, words_of}
use Rattle.xn_text.proofs.Split.{ended_line}
use Rattle.xn_proof.specs.declared.item.Item.{Item}
use Rattle.xn_proof.specs.declared.places.Place.{Place}
use Rattle.xn_proof.specs.Forms.{Reached, is_end, lines_at, rule_at, up_to_end, words_at}
use Rattle.xn_proof.specs.Reading.{◌>>=◌, Left, form_at, keyed, keyed_form, line_at, many_at, numbers_at, syntax}
use Rattle.xn_proof.proofs.Steps.{bind_ok, ok_is}

-- ---- chains of steps

-- each continuation gives the same after a step that did not fail
pub chain : {A B C : Type 0} (r : Result A Flaw) (f : A → Result C Flaw) (g : A → Result B Flaw) (k : B → Result C Flaw) → ((x : A) → r ≡ Ok x → f x ≡ (g x >>= k)) → (r >>= f) ≡ ((r >>= g) >>= k)
chain (Ok x) f g k same = same x refl
chain (Err e) f g k same = refl

-- ---- what the lines that are left say

abbrev pub said : ℕ → Place → List (ℕ × List ℕ × Bool) → Result (List Item) Flaw
said i p [] = cond (is_end p) (Ok []) (Err (syntax i))
said i p (l ∷ lines) = rule_at p i (l.1, l.2) >>= λ x. said (i + 1) x.1 lines >>= λ r. Ok (x.0 ∷ r)

-- what was said before, and what is left
abbrev pub from : List Item → Left → Place → Result (List Item) Flaw
from front s p = said s.0 p (lines_of s) >>= λ r. Ok (front ++ r)

-- the lines from a place on say what is read, and then those from the next place on go on
abbrev pub Says : {X : Type 0} → Place → (Left → Result (X × Left) Flaw) → (X → Place) → (X → List Item) → Type 0
Says p read next say = (front : List Item) (s : Left) → from front s p ≡ (read s >>= λ x. from (front ++ say x.0) x.1 (next x.0))

-- ---- one line

pub ended : (i : ℕ) (text : List ℕ) → ltb (position_or_len is_line_end text) (length text) ≡ true → lines_of (i, text) ≡ (i, before_first is_line_end text, true) ∷ lines_of (i + 1, after_first is_line_end text)
ended i text is =
    let rest = after_first is_line_end text in
    ap (numbered_lines i) (slice_split_first is_line_end text 0 (ltb-true (position_or_len is_line_end text) (length text) is))
    ∙ ended_line i (before_first is_line_end text) (slice_split is_line_end rest) (omega (arith, length-slice_split is_line_end rest))

pub unended : (i : ℕ) (text : List ℕ) → ltb (position_or_len is_line_end text) (length text) ≡ false → lines_of (i, text) ≡ unended_line i text
unended i text is =
    let le : length text ≤ position_or_len is_line_end text = ltb-false (position_or_len is_line_end text) (length text) is in
    ap (numbered_lines i) (slice_split_none is_line_end text (λ k d h. fails_before_first is_line_end text k d (omega arith)))

last_fails : (i : ℕ) (p : Place) (text : List ℕ) → is_end p ≡ false → said i p (unended_line i text) ≡ Err (syntax i)
last_fails i p [] live = rw live refl
last_fails i p (b ∷ text) live = rw live refl

pushed_rest : (front : List Item) (x : Item) (read : Result (List Item) Flaw) → ((read >>= λ r. Ok (x ∷ r)) >>= λ r. Ok (front ++ r)) ≡ (read >>= λ r. Ok ((front ++ x ∷ []) ++ r))
pushed_rest front x (Ok r) = ap (λ l. Ok l) (sym (append_assoc front (x ∷ []) r))
pushed_rest front x (Err e) = refl

pushed : (front : List Item) (t : Left) (w : Result (Item × Place) Flaw) → ((w >>= λ x. said t.0 x.1 (lines_of t) >>= λ r. Ok (x.0 ∷ r)) >>= λ r. Ok (front ++ r)) ≡ (w >>= λ x. from (front ++ x.0 ∷ []) t x.1)
pushed front t (Ok x) = pushed_rest front x.0 (said t.0 x.1 (lines_of t))
pushed front t (Err e) = refl

-- the words of an ended line are judged
ended_rule : (p : Place) (i : ℕ) (bytes : List ℕ) → is_end p ≡ false → rule_at p i (bytes, true) ≡ words_at p i (words_of bytes)
ended_rule p i bytes live = rw live refl

-- what is said from a place on, by the next line
pub line_says : (p : Place) → is_end p ≡ false → (front : List Item) (s : Left) → from front s p ≡ (line_at s >>= λ l. words_at p l.0.0 (words_of l.0.1) >>= λ x. from (front ++ x.0 ∷ []) l.1 x.1)
line_says p live front s =
    let at = position_or_len is_line_end s.1 in
    let before = before_first is_line_end s.1 in
    let t : Left = (s.0 + 1, after_first is_line_end s.1) in
    let K : (ℕ × List ℕ) × Left → Result (List Item) Flaw = λ l. words_at p l.0.0 (words_of l.0.1) >>= λ x. from (front ++ x.0 ∷ []) l.1 x.1 in
    elim (cases_Bool (ltb at (length s.1))) [
      | inl is ↦
          ap (λ (ls : List (ℕ × List ℕ × Bool)). said s.0 p ls >>= λ r. Ok (front ++ r)) (ended s.0 s.1 is)
          ∙ ap (λ (w : Result (Item × Place) Flaw). (w >>= λ x. said t.0 x.1 (lines_of t) >>= λ r. Ok (x.0 ∷ r)) >>= λ r. Ok (front ++ r)) (ended_rule p s.0 before live)
          ∙ pushed front t (words_at p s.0 (words_of before))
          ∙ sym (ap (λ (b : Bool). (cond b (Ok ((s.0, before), t)) (Err (syntax s.0))) >>= K) is)
      | inr is ↦
          ap (λ (ls : List (ℕ × List ℕ × Bool)). said s.0 p ls >>= λ r. Ok (front ++ r)) (unended s.0 s.1 is)
          ∙ ap (λ (r : Result (List Item) Flaw). r >>= λ r. Ok (front ++ r)) (last_fails s.0 p s.1 live)
          ∙ sym (ap (λ (b : Bool). (cond b (Ok ((s.0, before), t)) (Err (syntax s.0))) >>= K) is)
    ]

-- what a form gave, as an item and the next place
abbrev pub as_item : {X : Type 0} → (X → Item) → (X → Place) → X → Result (Item × Place) Flaw
as_item say next x = Ok (say x, next x)

-- what a form gave, and what is left
abbrev pub with_left : {X : Type 0} → Left → X → Result (X × Left) Flaw
with_left t x = Ok (x, t)

form_step : {X : Type 0} (f : Result X Flaw) (say : X → Item) (next : X → Place) (front : List Item) (t : Left) →
    ((f >>= as_item say next) >>= λ x. from (front ++ x.0 ∷ []) t x.1) ≡ ((f >>= with_left t) >>= λ x. from (front ++ say x.0 ∷ []) x.1 (next x.0))
form_step (Ok x) say next front t = refl
form_step (Err e) say next front t = refl

-- the numbers of a line under its number
abbrev pub numbered : (ℕ × List ℕ) × Left → List (Option ℕ) → Result ((ℕ × List (Option ℕ)) × Left) Flaw
numbered l values = Ok ((l.0.0, values), l.1)

abbrev pub formed : {X : Type 0} → (ℕ → List (Option ℕ) → Result X Flaw) → (ℕ × List (Option ℕ)) × Left → Result (X × Left) Flaw
formed form l = form l.0.0 l.0.1 >>= with_left l.1

keyed_step : {X : Type 0} (k : Result (List (Option ℕ)) Flaw) (l : (ℕ × List ℕ) × Left) (form : ℕ → List (Option ℕ) → Result X Flaw) (say : X → Item) (next : X → Place) (front : List Item) →
    (((k >>= form l.0.0) >>= as_item say next) >>= λ x. from (front ++ x.0 ∷ []) l.1 x.1)
    ≡ (((k >>= numbered l) >>= formed form) >>= λ x. from (front ++ say x.0 ∷ []) x.1 (next x.0))
keyed_step (Ok v) l form say next front = form_step (form l.0.0 v) say next front l.1
keyed_step (Err e) l form say next front = refl

line_step : {X : Type 0} (p : Place) (key : List ℕ) (form : ℕ → List (Option ℕ) → Result X Flaw) (say : X → Item) (next : X → Place) →
    ((i : ℕ) (words : List (List ℕ)) → words_at p i words ≡ (keyed_form key form i words >>= as_item say next)) → (front : List Item) (r : Result ((ℕ × List ℕ) × Left) Flaw) →
    (r >>= λ l. words_at p l.0.0 (words_of l.0.1) >>= λ x. from (front ++ x.0 ∷ []) l.1 x.1)
    ≡ (((r >>= λ l. keyed key l.0.0 (words_of l.0.1) >>= numbered l) >>= formed form) >>= λ x. from (front ++ say x.0 ∷ []) x.1 (next x.0))
line_step p key form say next rule front (Ok l) =
    ap (λ (w : Result (Item × Place) Flaw). w >>= λ x. from (front ++ x.0 ∷ []) l.1 x.1) (rule l.0.0 (words_of l.0.1))
    ∙ keyed_step (keyed key l.0.0 (words_of l.0.1)) l form say next front
line_step p key form say next rule front (Err e) = refl

-- a line of a form
pub form_says : {X : Type 0} (p : Place) (key : List ℕ) (form : ℕ → List (Option ℕ) → Result X Flaw) (say : X → Item) (next : X → Place) → is_end p ≡ false →
    ((i : ℕ) (words : List (List ℕ)) → words_at p i words ≡ (keyed_form key form i words >>= as_item say next)) → Says p (form_at key form) next (λ x. say x ∷ [])
unfolding form_at numbers_at
form_says p key form say next live rule front s = line_says p live front s ∙ line_step p key form say next rule front (line_at s)

-- ---- many lines

abbrev pub fold_on : {X : Type 0} → (ℕ → X → ℕ) → ℕ → List X → ℕ
fold_on on t [] = t
fold_on on t (x ∷ xs) = fold_on on (on t x) xs

-- one in front of others
abbrev pub in_front : {X : Type 0} → X → List X × Left → Result (List X × Left) Flaw
in_front x others = Ok (x ∷ others.0, others.1)

regroup : {X : Type 0} (say : X → List Item) (on : ℕ → X → ℕ) (at : ℕ → ℕ → ℕ → Place) (j t : ℕ) (front : List Item) (x : X) (m : Result (List X × Left) Flaw) →
    (m >>= λ xs. from ((front ++ say x) ++ flat_map say xs.0) xs.1 (at (fold_on (λ n y. n + 1) (j + 1) xs.0) (fold_on on (on t x) xs.0) 0))
    ≡ ((m >>= in_front x) >>= λ xs. from (front ++ flat_map say xs.0) xs.1 (at (fold_on (λ n y. n + 1) j xs.0) (fold_on on t xs.0) 0))
regroup say on at j t front x (Ok o) = ap (λ (l : List Item). from l o.1 (at (fold_on (λ n y. n + 1) (j + 1) o.0) (fold_on on (on t x) o.0) 0)) (append_assoc front (say x) (flat_map say o.0))
regroup say on at j t front x (Err e) = refl

-- so many, of which the first has the number j, where t is what was counted before
pub many_says : {X : Type 0} (item : ℕ → Left → Result (X × Left) Flaw) (say : X → List Item) (on : ℕ → X → ℕ) (at : ℕ → ℕ → ℕ → Place) →
    ((j t k : ℕ) → Says (at j t (suc k)) (item j) (λ x. at (j + 1) (on t x) k) say) →
    (j t k : ℕ) → Says (at j t k) (many_at item j k) (λ xs. at (fold_on (λ n x. n + 1) j xs) (fold_on on t xs) 0) (λ xs. flat_map say xs)
unfolding many_at
many_says item say on at step j t zero front s = ap (λ (l : List Item). from l s (at j t 0)) (sym (append-nil front))
many_says {X = X} item say on at step j t (suc k) front s =
    let K : List X × Left → Result (List Item) Flaw = λ xs. from (front ++ flat_map say xs.0) xs.1 (at (fold_on (λ n x. n + 1) j xs.0) (fold_on on t xs.0) 0) in
    step j t k front s
    ∙ chain (item j s) (λ x. from (front ++ say x.0) x.1 (at (j + 1) (on t x.0) k)) (λ first. many_at item (j + 1) k first.1 >>= in_front first.0) K
    (λ x is. many_says item say on at step (j + 1) (on t x.0) k (front ++ say x.0) x.1 ∙ regroup say on at j t front x.0 (many_at item (j + 1) k x.1))

pub fold_counts : {X : Type 0} (j : ℕ) (xs : List X) → fold_on (λ n x. n + 1) j xs ≡ j + length xs
fold_counts j [] = omega arith
fold_counts j (x ∷ xs) = omega (arith, fold_counts (j + 1) xs)

pub many_length : {X : Type 0} (item : ℕ → Left → Result (X × Left) Flaw) (j k : ℕ) (s : Left) (xs : List X) (t : Left) → many_at item j k s ≡ Ok (xs, t) → length xs ≡ k
unfolding many_at
many_length {X = X} item j zero s xs t is = sym (ap (λ (p : List X × Left). length p.0) (ok_is ([], s) (xs, t) is))
many_length {X = X} item j (suc k) s xs t is =
    let a = bind_ok (item j s) (λ first. many_at item (j + 1) k first.1 >>= in_front first.0) (xs, t) is in
    let b = bind_ok (many_at item (j + 1) k a.0.1) (in_front a.0.0) (xs, t) a.2 in
    let e : length (a.0.0 ∷ b.0.0) ≡ length xs = ap (λ (p : List X × Left). length p.0) (ok_is (a.0.0 ∷ b.0.0, b.0.1) (xs, t) b.2) in
    omega (arith, e, many_length item (j + 1) k a.0.1 b.0.0 b.0.1 b.1)

pub flat_map_is : {X : Type 0} (say : X → Item) (xs : List X) → flat_map (λ x. say x ∷ []) xs ≡ map say xs
flat_map_is say [] = refl
flat_map_is say (x ∷ xs) = ap (λ (l : List Item). say x ∷ l) (flat_map_is say xs)

same_after : {A B : Type 0} (r : Result A Flaw) (f g : A → Result B Flaw) → ((x : A) → f x ≡ g x) → (r >>= f) ≡ (r >>= g)
same_after (Ok x) f g same = same x
same_after (Err e) f g same = refl

-- the same where each is one line
pub many_lines_say : {X : Type 0} (item : ℕ → Left → Result (X × Left) Flaw) (say : X → Item) (on : ℕ → X → ℕ) (at : ℕ → ℕ → ℕ → Place) →
    ((j t k : ℕ) → Says (at j t (suc k)) (item j) (λ x. at (j + 1) (on t x) k) (λ x. say x ∷ [])) →
    (j t k : ℕ) → Says (at j t k) (many_at item j k) (λ xs. at (fold_on (λ n x. n + 1) j xs) (fold_on on t xs) 0) (λ xs. map say xs)
many_lines_say item say on at step j t k front s =
    many_says item (λ x. say x ∷ []) on at step j t k front s
    ∙ same_after (many_at item j k s) _ _ (λ xs. ap (λ (l : List Item). from (front ++ l) xs.1 (at (fold_on (λ n x. n + 1) j xs.0) (fold_on on t xs.0) 0)) (flat_map_is say xs.0))

-- ---- the number of the next line stays at 2^64 - 1, which no text of fewer lines comes to

-- an item in front of others
abbrev pub then_items : Item → List Item × Reached → Result (List Item × Reached) Flaw
then_items x o = Ok (x ∷ o.0, o.1)

kept_by : (x : Item) (o : List Item × Reached) (b : Bool) → cond b (Ok (x ∷ o.0)) (Err (syntax o.1.0)) ≡ (cond b (Ok o.0) (Err (syntax o.1.0)) >>= λ items. Ok (x ∷ items))
kept_by x o true = refl
kept_by x o false = refl

pub kept : (x : Item) (read : Result (List Item × Reached) Flaw) → up_to_end (read >>= then_items x) ≡ (up_to_end read >>= λ items. Ok (x ∷ items))
kept x (Ok o) = kept_by x o (is_end o.1.1)
kept x (Err e) = refl

abbrev pub counted_on : ℕ → Item × Place → Result (Item × Reached) Flaw
counted_on n x = Ok (x.0, (n, x.1))

agree : (i : ℕ) (lines : List (ℕ × List ℕ × Bool)) → min (i + 1) (2 ^ 64 - 1) ≡ i + 1 →
    ((p : Place) → up_to_end (lines_at (i + 1, p) (map (λ l. (l.1, l.2)) lines)) ≡ said (i + 1) p lines) → (w : Result (Item × Place) Flaw) →
    up_to_end ((w >>= counted_on (min (i + 1) (2 ^ 64 - 1))) >>= λ first. lines_at first.1 (map (λ l. (l.1, l.2)) lines) >>= then_items first.0)
    ≡ (w >>= λ x. said (i + 1) x.1 lines >>= λ r. Ok (x.0 ∷ r))
agree i lines small others (Ok x) =
    kept x.0 (lines_at (min (i + 1) (2 ^ 64 - 1), x.1) (map (λ l. (l.1, l.2)) lines))
    ∙ ap (λ (n : ℕ). up_to_end (lines_at (n, x.1) (map (λ l. (l.1, l.2)) lines)) >>= λ r. Ok (x.0 ∷ r)) small
    ∙ ap (λ (r : Result (List Item) Flaw). r >>= λ r. Ok (x.0 ∷ r)) (others x.1)
agree i lines small others (Err e) = refl

low : (i n : ℕ) → i + suc n < 2 ^ 64 → i + 1 ≤ 2 ^ 64 - 1
low i n few = omega arith

-- one by one with the number of a state, or with numbers that grow on
pub numbers_agree : (i : ℕ) (p : Place) (lines : List (ℕ × List ℕ × Bool)) → i + length lines < 2 ^ 64 → up_to_end (lines_at (i, p) (map (λ l. (l.1, l.2)) lines)) ≡ said i p lines
numbers_agree i p [] few = refl
numbers_agree i p (l ∷ lines) few =
    agree i lines (min-eq_left (low i (length lines) few)) (λ q. numbers_agree (i + 1) q lines (omega (arith, few))) (rule_at p i (l.1, l.2))
