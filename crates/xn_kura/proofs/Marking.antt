-- Marks that come and go along lists.
use Rattle.std.proofs.Common.{◌≡◌, ◌≢◌, ℕ, ◌<◌, ◌⊎◌, inl, inr, Bool, true, false, ◌||◌, eqb, set, List, [], ◌∷◌, ◌++◌, length, refl, sym, ◌∙◌, ap, subst, append_assoc}
use Rattle.std.specs.List.{AllByRecursion, IsDistinct}
use Rattle.std.proofs.lemmas.Bool.{cases_eq, both_ways, false_from_ne_true, or_cases, eqb-true, eq-eqb, ne_eqb}
use Rattle.std.proofs.lemmas.List.{append-nil, get_or-set_same, get_or-set_other}
use Rattle.std.proofs.lemmas.List.Folds.{list_any-append}
use Rattle.xn_model.specs.Lists.{has}
use Rattle.xn_model.proofs.Has.{has-left}
use Rattle.xn_kura.specs.Flaws.{IsFirstRepeat}
use Rattle.xn_kura.specs.Marks.{Clears, MarksExactly, MarksMore, MarksWithin, StopsAt, is_marked}

pub distinct-push : (xs : List ℕ) (x : ℕ) → IsDistinct eqb xs → has xs x ≡ false → IsDistinct eqb (xs ++ x ∷ [])
unfolding IsDistinct
distinct-push [] x d out = (tt, tt)
distinct-push (y ∷ xs) x d out =
    let parts : (eqb y x ≡ false) × (has xs x ≡ false) = neither (eqb y x) (has xs x) out in
    (pushed xs d.0 parts.0, distinct-push xs x d.1 parts.1)
  where
    neither : (a b : Bool) → (a || b) ≡ false → (a ≡ false) × (b ≡ false)
    neither true b h = absurd (both_ways true h refl)
    neither false b h = (refl, h)

    pushed : (zs : List ℕ) → AllByRecursion (λ z. eqb y z ≡ false) zs → eqb y x ≡ false → AllByRecursion (λ z. eqb y z ≡ false) (zs ++ x ∷ [])
    pushed [] all last = (last, tt)
    pushed (z ∷ zs) all last = (all.0, pushed zs all.1 last)

-- one mark more, or less
is_marked-set : (marks : List Bool) (x : ℕ) (b : Bool) → x < length marks → (y : ℕ) →
    ((y ≡ x) × (is_marked (set marks x b) y ≡ b)) ⊎ ((y ≢ x) × (is_marked (set marks x b) y ≡ is_marked marks y))
is_marked-set marks x b x_in y = elim (cases_eq y x) [
  | inl same ↦ inl (same, ap (is_marked (set marks x b)) same ∙ get_or-set_same marks x b false x_in)
  | inr other ↦ inr (other, get_or-set_other marks x y b false other)
]

pub MarksMore-none : (old : List Bool) → MarksMore old [] old
MarksMore-none old done exactly distinct =
    let P : List ℕ → Type 0 = λ xs. MarksExactly xs old × IsDistinct eqb xs in
    subst P (sym (append-nil done)) (exactly, distinct)

pub MarksMore-trans : (a b c : List Bool) (xs ys : List ℕ) → MarksMore a xs b → MarksMore b ys c → MarksMore a (xs ++ ys) c
MarksMore-trans a b c xs ys first second done exactly distinct =
    let one = first done exactly distinct in
    let P : List ℕ → Type 0 = λ zs. MarksExactly zs c × IsDistinct eqb zs in
    subst P (append_assoc done xs ys) (second (done ++ xs) one.0 one.1)

-- a number that isn't marked yet
pub MarksMore-one : (old marks : List Bool) (xs : List ℕ) (x : ℕ) → MarksMore old xs marks → is_marked marks x ≡ false → x < length marks →
    MarksMore old (xs ++ x ∷ []) (set marks x true)
MarksMore-one old marks xs x more fresh x_in = MarksMore-trans old marks (set marks x true) xs (x ∷ []) more one
  where
    last_true : (a b : Bool) → b ≡ true → (a || (b || false)) ≡ true
    last_true true b h = refl
    last_true false true h = refl
    last_true false false h = h

    last_false : (a b : Bool) → b ≡ false → (a || (b || false)) ≡ a
    last_false true b h = refl
    last_false false true h = h
    last_false false false h = refl

    one : MarksMore marks (x ∷ []) (set marks x true)
    one done exactly distinct = (
      λ y.
          let is : has (done ++ x ∷ []) y ≡ (has done y || (eqb x y || false)) = list_any-append (λ z. eqb z y) done (x ∷ []) in
          elim (is_marked-set marks x true x_in y) [
            | inl here ↦ here.1 ∙ sym (is ∙ last_true (has done y) (eqb x y) (eq-eqb x y (sym here.0)))
            | inr there ↦ there.1 ∙ exactly y ∙ sym (is ∙ last_false (has done y) (eqb x y) (ne_eqb x y (λ e. there.0 (sym e))))
          ],
      distinct-push done x distinct (sym (exactly x) ∙ fresh),
    )

pub StopsAt-met : (old marks : List Bool) (xs before after : List ℕ) (x : ℕ) → MarksMore old before marks → is_marked marks x ≡ true → xs ≡ before ++ x ∷ after → StopsAt old xs x marks
StopsAt-met old marks xs before after x more met split = (before, after, split, more, λ done exactly distinct. sym ((more done exactly distinct).0 x) ∙ met)

-- after what is marked without a stop, and before more
pub StopsAt-between : (a b c : List Bool) (whole xs ys zs : List ℕ) (x : ℕ) → whole ≡ xs ++ ys ++ zs → MarksMore a xs b → StopsAt b ys x c → StopsAt a whole x c
StopsAt-between a b c whole xs ys zs x split more stops =
    let before = stops.0 in
    let after = stops.1 in
    let parts : whole ≡ (xs ++ before) ++ x ∷ (after ++ zs) =
    split ∙ ap (λ us. xs ++ us ++ zs) stops.2 ∙ append_assoc xs (before ++ x ∷ after) zs ∙ ap (λ us. xs ++ us) (append_assoc before (x ∷ after) zs) ∙ sym (append_assoc xs before (x ∷ (after ++ zs))) in (
      xs ++ before,
      after ++ zs,
      parts,
      MarksMore-trans a b c xs before more stops.3,
      λ done exactly distinct.
          let one = more done exactly distinct in
          ap (λ us. has us x) (sym (append_assoc done xs before)) ∙ stops.4 (done ++ xs) one.0 one.1,
    )

-- ---- what is found where nothing was marked before

pub distinct-from_marks : (old new : List Bool) (xs : List ℕ) → MarksExactly [] old → MarksMore old xs new → IsDistinct eqb xs × MarksWithin xs new
unfolding IsDistinct
distinct-from_marks old new xs none more =
    let found = more [] none tt in
    (found.1, λ x met. sym (found.0 x) ∙ met)

pub repeat-from_marks : (old new : List Bool) (xs : List ℕ) (x : ℕ) → MarksExactly [] old → StopsAt old xs x new → IsFirstRepeat xs x × MarksWithin xs new
unfolding IsDistinct
repeat-from_marks old new xs x none stops =
    let found = stops.3 [] none tt in
    let within : MarksWithin xs new = λ y met. ap (λ us. has us y) stops.2 ∙ has-left stops.0 (x ∷ stops.1) y (sym (found.0 y) ∙ met) in
    ((stops.0, stops.1, stops.2, found.1, stops.4 [] none tt), within)

-- ---- marks taken away

pub Clears-trans : (a b c : List Bool) (xs ys : List ℕ) → Clears a xs b → Clears b ys c → Clears a (xs ++ ys) c
Clears-trans a b c xs ys first second rest within =
    let P : List ℕ → Type 0 = λ zs. MarksWithin zs a in
    second rest (first (ys ++ rest) (subst P (append_assoc xs ys rest) within))

pub Clears-one : (old marks : List Bool) (xs : List ℕ) (x : ℕ) → Clears old xs marks → x < length marks → Clears old (xs ++ x ∷ []) (set marks x false)
Clears-one old marks xs x clears x_in = Clears-trans old marks (set marks x false) xs (x ∷ []) clears one
  where
    one : Clears marks (x ∷ []) (set marks x false)
    one rest within y met = elim (is_marked-set marks x false x_in y) [
      | inl here ↦ absurd (both_ways false refl (sym here.1 ∙ met))
      | inr there ↦ elim (or_cases (eqb x y) (has rest y) (within y (sym there.1 ∙ met))) [
        | inl same ↦ absurd (there.0 (sym (eqb-true x y same)))
        | inr later ↦ later
      ]
    ]

-- no mark is left
pub unmarked : (old new : List Bool) (xs : List ℕ) → MarksWithin xs old → Clears old xs new → MarksExactly [] new
unmarked old new xs within clears x =
    let P : List ℕ → Type 0 = λ zs. MarksWithin zs old in
    false_from_ne_true _ (λ met. both_ways false refl (clears [] (subst P (sym (append-nil xs)) within) x met))
