-- A text of which each line keeps its rules: what its lines say, one after the other.
use Rattle.std.proofs.Common.{◌≡◌, ℕ, inl, inr, Bool, true, false, cond, List, [], ◌∷◌, ◌++◌, Result, Ok, Err, refl, sym, subst, ap, ◌∙◌}
use Rattle.xn_kinds.specs.declared.flaws.Flaw.{Flaw}
use Rattle.xn_proof.specs.Forms.{Line, Reached, is_end, lines_at, next_at, up_to_end}
use Rattle.xn_proof.specs.Reading.{◌>>=◌, syntax}
use Rattle.xn_proof.proofs.Steps.{ok_is}
use Rattle.xn_proof.specs.declared.item.Item.{Item}
use Rattle.xn_check.specs.Judging.{AtEnd, Judges, OnLine, Rules}

module _ {S A : Type 0} (rules : Rules S A) where
  -- each means what it must by those before it
  abbrev pub AllAgree : S → List Item → Type 0
  AllAgree s [] = Unit {0}
  AllAgree s (x ∷ xs) = rules.agrees s x × AllAgree (rules.more s x) xs

  -- what is said after them
  abbrev pub all_said : S → List Item → S
  all_said s [] = s
  all_said s (x ∷ xs) = all_said (rules.more s x) xs

  pub agree_head : (s : S) (x : Item) (xs : List Item) → AllAgree s (x ∷ xs) → rules.agrees s x
  agree_head s x xs all = all.0

  pub agree_tail : (s : S) (x : Item) (xs : List Item) → AllAgree s (x ∷ xs) → AllAgree (rules.more s x) xs
  agree_tail s x xs all = all.1

  pub agree_join : (s : S) (xs ys : List Item) → AllAgree s xs → AllAgree (all_said s xs) ys → AllAgree s (xs ++ ys)
  agree_join s [] ys first second = second
  agree_join s (x ∷ xs) ys first second = (first.0, agree_join (rules.more s x) xs ys first.1 second)

  pub agree_first : (s : S) (xs ys : List Item) → AllAgree s (xs ++ ys) → AllAgree s xs
  agree_first s [] ys all = tt
  agree_first s (x ∷ xs) ys all = (all.0, agree_first (rules.more s x) xs ys all.1)

  pub agree_rest : (s : S) (xs ys : List Item) → AllAgree s (xs ++ ys) → AllAgree (all_said s xs) ys
  agree_rest s [] ys all = all
  agree_rest s (x ∷ xs) ys all = agree_rest (rules.more s x) xs ys all.1

  pub said_join : (s : S) (xs ys : List Item) → all_said s (xs ++ ys) ≡ all_said (all_said s xs) ys
  said_join s [] ys = refl
  said_join s (x ∷ xs) ys = said_join (rules.more s x) xs ys

  -- ---- lines

  -- the items of lines that lead from a state and what was said to the end, with this answer
  pub record Reads (at : Reached) (s : S) (lines : List Line) (answer : A) : Type 0 where
    pub items : List Item
    pub read : up_to_end (lines_at at lines) ≡ Ok items
    pub agree : AllAgree s items
    pub answer_is : answer ≡ rules.answer (all_said s items)

  at_end : (b : Bool) (number : ℕ) (s : S) (a : A) → AtEnd rules b number s (Ok a) → (b ≡ true) × (a ≡ rules.answer s)
  at_end true number s a e = (refl, cc)
  at_end false number s a e = absurd cc

  on_line : (s : S) (number : ℕ) (r : Result (Item × Reached) Flaw) (Rest : Reached → S → Type 0) (a : A) →
      OnLine rules s number r Rest (Ok a) → (next : Item × Reached) × (r ≡ Ok next) × rules.agrees s next.0 × Rest next.1 (rules.more s next.0)
  on_line s number (Err flaw) Rest a e = absurd cc
  on_line s number (Ok next) Rest a e = elim e [
    | inl both ↦ (next, refl, both.0, both.1)
    | inr fails ↦ absurd (let other = fails.2 in cc)
  ]

-- an item in front of what the lines after it say
in_front : (x : Item) (o : List Item × Reached) (items : List Item) → cond (is_end o.1.1) (Ok o.0) (Err (syntax o.1.0)) ≡ Ok items →
    cond (is_end o.1.1) (Ok (x ∷ o.0)) (Err (syntax o.1.0)) ≡ Ok (x ∷ items)
in_front x o items e = by (is_end o.1.1) e
  where
    by : (b : Bool) → cond b (Ok o.0) (Err (syntax o.1.0)) ≡ Ok items → cond b (Ok (x ∷ o.0)) (Err (syntax o.1.0)) ≡ Ok (x ∷ items)
    by true h = ap (λ (l : List Item). Ok (x ∷ l)) (ok_is o.0 items h)
    by false h = absurd cc

more_read : (x : Item) (r : Result (List Item × Reached) Flaw) (items : List Item) → up_to_end r ≡ Ok items →
    up_to_end (r >>= λ o. Ok (x ∷ o.0, o.1)) ≡ Ok (x ∷ items)
more_read x (Ok o) items e = in_front x o items e
more_read x (Err d) items e = absurd cc

-- the same taken apart
pub record ReadsOn (at : Reached) (line : Line) (lines : List Line) (items : List Item) : Type 0 where
  pub next : Item × Reached
  pub first : next_at at line ≡ Ok next
  pub others : List Item
  pub items_are : items ≡ next.0 ∷ others
  pub rest : up_to_end (lines_at next.1 lines) ≡ Ok others

out_front : (x : Item) (o : List Item × Reached) (items : List Item) → cond (is_end o.1.1) (Ok (x ∷ o.0)) (Err (syntax o.1.0)) ≡ Ok items →
    (items ≡ x ∷ o.0) × (cond (is_end o.1.1) (Ok o.0) (Err (syntax o.1.0)) ≡ Ok o.0)
out_front x o items e = by (is_end o.1.1) e
  where
    by : (b : Bool) → cond b (Ok (x ∷ o.0)) (Err (syntax o.1.0)) ≡ Ok items → (items ≡ x ∷ o.0) × (cond b (Ok o.0) (Err (syntax o.1.0)) ≡ Ok o.0)
    by true h = (sym (ok_is (x ∷ o.0) items h), refl)
    by false h = absurd cc

rest_read : (at : Reached) (line : Line) (lines : List Line) (items : List Item) (next : Item × Reached) → next_at at line ≡ Ok next →
    (r : Result (List Item × Reached) Flaw) → lines_at next.1 lines ≡ r → up_to_end (r >>= λ o. Ok (next.0 ∷ o.0, o.1)) ≡ Ok items → ReadsOn at line lines items
rest_read at line lines items next first (Err d) is e = absurd cc
rest_read at line lines items next first (Ok o) is e =
    let apart = out_front next.0 o items e in
    record { next = next; first = first; others = o.0; items_are = apart.0; rest = ap up_to_end is ∙ apart.1 }

pub reads_on : (at : Reached) (line : Line) (lines : List Line) (items : List Item) → up_to_end (lines_at at (line ∷ lines)) ≡ Ok items → ReadsOn at line lines items
reads_on at line lines items e = by (next_at at line) refl e
  where
    by : (r : Result (Item × Reached) Flaw) → next_at at line ≡ r →
        up_to_end (r >>= λ first. lines_at first.1 lines >>= λ others. Ok (first.0 ∷ others.0, others.1)) ≡ Ok items → ReadsOn at line lines items
    by (Err d) is h = absurd cc
    by (Ok next) is h = rest_read at line lines items next is (lines_at next.1 lines) refl h

-- no line is left
none_read : (at : Reached) (items : List Item) → up_to_end (lines_at at []) ≡ Ok items → (is_end at.1 ≡ true) × (items ≡ [])
none_read at items e = by (is_end at.1) e
  where
    by : (b : Bool) → cond b (Ok []) (Err (syntax at.0)) ≡ Ok items → (b ≡ true) × (items ≡ [])
    by true h = (refl, sym (ok_is [] items h))
    by false h = absurd cc

module _ {S A : Type 0} (rules : Rules S A) where
  pub reads : (lines : List Line) (at : Reached) (s : S) (a : A) → Judges rules at s lines (Ok a) → Reads rules at s lines a
  reads [] at s a j =
      let last = at_end rules (is_end at.1) at.0 s a j in
      record { items = []; read = ap (λ (b : Bool). cond b (Ok []) (Err (syntax at.0))) last.0; agree = tt; answer_is = last.1 }
  reads (line ∷ lines) at s a j =
      let first = on_line rules s at.0 (next_at at line) (λ later said. Judges rules later said lines (Ok a)) a j in
      let rest = reads lines first.0.1 (rules.more s first.0.0) a first.3 in
      record {
        items = first.0.0 ∷ rest.items;
        read =
            ap (λ (r : Result (Item × Reached) Flaw). up_to_end (r >>= λ x. lines_at x.1 lines >>= λ o. Ok (x.0 ∷ o.0, o.1))) first.1
            ∙ more_read first.0.0 (lines_at first.0.1 lines) rest.items rest.read;
        agree = (first.2, rest.agree);
        answer_is = rest.answer_is;
      }

  pub judges : (lines : List Line) (at : Reached) (s : S) (items : List Item) → up_to_end (lines_at at lines) ≡ Ok items → AllAgree rules s items →
      Judges rules at s lines (Ok (rules.answer (all_said rules s items)))
  judges [] at s items e agree =
      let last = none_read at items e in
      subst (λ (xs : List Item). AtEnd rules (is_end at.1) at.0 s (Ok (rules.answer (all_said rules s xs)))) (sym last.1)
      (subst (λ (b : Bool). AtEnd rules b at.0 s (Ok (rules.answer s))) (sym last.0) refl)
  judges (line ∷ lines) at s items e agree =
      let on = reads_on at line lines items e in
      let all = subst (AllAgree rules s) on.items_are agree in
      let rest = judges lines on.next.1 (rules.more s on.next.0) on.others on.rest all.1 in
      let Rest = λ (o : Result A Flaw) (later : Reached) (said : S). Judges rules later said lines o in
      let o : Result A Flaw = Ok (rules.answer (all_said rules (rules.more s on.next.0) on.others)) in
      let judged = subst (λ (r : Result (Item × Reached) Flaw). OnLine rules s at.0 r (Rest o) o) (sym on.first) (inl (all.0, rest)) in
      subst (λ (xs : List Item). Judges rules at s (line ∷ lines) (Ok (rules.answer (all_said rules s xs)))) (sym on.items_are) judged
