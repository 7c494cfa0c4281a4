use Rattle.std.proofs.Common.{◌≡◌, ◌≢◌, ℕ, ◌<◌, ◌≤◌, inl, inr, true, List, [], ◌∷◌, length, refl, sym, ◌∙◌, ap, subst, arith}
use Rattle.std.proofs.lemmas.Bool.{eqb-false, eqb-true}
use Rattle.xn_model.specs.Lists.{at, has}
use Rattle.xn_insert.specs.Search.{IsMarked, IsRound, IsSearched}
use Rattle.xn_insert.proofs.Duals.{dual_reverse}
use Rattle.xn_insert.proofs.Fronts.{chain_in}
use Rattle.xn_insert.proofs.Rounds.{found, none_found, searched_begun, searched_more}
use Rattle.xn_insert.proofs.searching.nearest.Goals as goal

no_items : (xs : List ℕ) → length xs ≡ 0 → xs ≡ []
no_items [] none = refl
no_items (x ∷ xs) none = absurd (omega (arith, none))

-- the faces of the front are faces
front_in : (names goals starts by front : List ℕ) (r : ℕ) → IsSearched names goals starts by front r → (x : ℕ) → has front x ≡ true → x < length names
front_in names goals starts by front r now x h = chain_in names by r x (now.front_leads x h).0

pub loop-x-init : goal.loop-x-init
loop-x-init c =
    let names = c.args.names.now in
    let back = dual_reverse names c.args.stars.now c.requires.dual in
    searched_begun names c.requires.below back c.args.by.now c.args.starts.now c.in_ok-front.front.items c.requires.goals c.requires.marks c.in_ok-front.ensures

pub first_marked-requires : goal.first_marked-requires
first_marked-requires c = λ x h.
    let names = c.args.names.now in
    let listed = sym (ap (λ l. has l x) c.deref.ensures.value) ∙ h in
    let x_in = front_in names c.args.by.now c.args.starts.now c.loop-x.by c.loop-x.front.items c.loop-x.rounds c.loop-x.invariant x listed in
    omega (arith, x_in, c.requires.starts)

pub returns-in-Some : goal.returns-in-Some
returns-in-Some c =
    let names = c.args.names.now in
    let starts = c.args.starts.now in
    let back = dual_reverse names c.args.stars.now c.requires.dual in
    let x = c.in-Some.x in
    let there = c.in-Some.ensures in
    let listed = sym (ap (λ l. has l x) c.deref.ensures.value) ∙ there.0 in
    let marked : IsMarked names starts x = let low = there.1 in omega (arith, low, c.requires.starts) in
    found names c.requires.below back c.args.by.now starts c.loop-x.by c.loop-x.front.items c.loop-x.rounds c.loop-x.invariant x listed marked

pub returns-then-is_empty : goal.returns-then-is_empty
returns-then-is_empty c =
    let names = c.args.names.now in
    let back = dual_reverse names c.args.stars.now c.requires.dual in
    let empty = eqb-true _ _ (sym c.is_empty.ensures ∙ c.if-is_empty.true) in
    let none = no_items c.loop-x.front.items (omega (arith, empty, c.loop-x.front.ok.0)) in
    none_found names c.requires.below back c.args.by.now c.args.starts.now c.loop-x.by c.loop-x.front.items c.loop-x.rounds c.loop-x.invariant none

pub next_front-requires-clause-front : goal.next_front-requires-clause-front
next_front-requires-clause-front c = λ x h.
    let names = c.args.names.now in
    let listed = sym (ap (λ l. has l x) c.deref-in-loop-x.ensures.value) ∙ h in
    front_in names c.args.by.now c.args.starts.now c.loop-x.by c.loop-x.front.items c.loop-x.rounds c.loop-x.invariant x listed

pub loop-x-preserved : goal.loop-x-preserved
loop-x-preserved c =
    let names = c.args.names.now in
    let starts = c.args.starts.now in
    let back = dual_reverse names c.args.stars.now c.requires.dual in
    let front = c.loop-x.front.items in
    let no_start : (x : ℕ) → has front x ≡ true → length names ≤ at starts x = λ x h.
    let high = c.in_default.ensures x (ap (λ l. has l x) c.deref.ensures.value ∙ h) in omega (arith, high, c.requires.starts) in
    let round = subst (λ l. IsRound names c.loop-x.by l (length l) [] 0 c.next_front.new.by c.in_ok-front-2.front.items) c.deref-in-loop-x.ensures.value c.in_ok-front-2.ensures in
    let not_over : front ≢ [] = λ none. eqb-false _ _ (sym c.is_empty.ensures ∙ c.if-is_empty.false) (omega (arith, ap length none, c.loop-x.front.ok.0)) in
    searched_more names c.requires.below back c.args.by.now starts c.loop-x.by front c.loop-x.rounds c.loop-x.invariant
    c.next_front.new.by c.in_ok-front-2.front.items no_start not_over round

pub loop-x-smaller : goal.loop-x-smaller
loop-x-smaller c =
    let names = c.args.names.now in
    let front = c.loop-x.front.items in
    let round = subst (λ l. IsRound names c.loop-x.by l (length l) [] 0 c.next_front.new.by c.in_ok-front-2.front.items) c.deref-in-loop-x.ensures.value c.in_ok-front-2.ensures in
    let some : length front ≢ 0 = λ none. eqb-false _ _ (sym c.is_empty.ensures ∙ c.if-is_empty.false) (omega (arith, none, c.loop-x.front.ok.0)) in
    omega (arith, round.fewer, some)

pub overflow_add-rounds : goal.overflow_add-rounds
overflow_add-rounds c =
    let front = c.loop-x.front.items in
    let some : length front ≢ 0 = λ none. eqb-false _ _ (sym c.is_empty.ensures ∙ c.if-is_empty.false) (omega (arith, none, c.loop-x.front.ok.0)) in
    elim c.loop-x.invariant.few [
      | inl none ↦ absurd (some (ap length none))
      | inr few ↦ omega (arith, few, c.requires.few)
    ]
