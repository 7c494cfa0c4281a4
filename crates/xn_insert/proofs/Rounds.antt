-- Rounds of a search: what is found is nearest.
use Rattle.std.proofs.Common.{◌≡◌, ◌≢◌, ℕ, zero, suc, ◌+◌, ◌<◌, ◌≤◌, ◌⊎◌, inl, inr, Bool, true, false, eqb, List, [], ◌∷◌, ◌++◌, length, set, take, refl, sym, ◌∙◌, ap, subst, arith, length-append}
use Rattle.std.proofs.lemmas.Bool.{both_ways, cases_eq, cases_lt, eq-eqb, eqb-true, ne_eqb, or_cases}
use Rattle.std.proofs.lemmas.List.{get_or-set_other, get_or-set_same, length-set, take_all, take_more}
use Rattle.xn_model.specs.Lists.{at, has, one_if, total}
use Rattle.xn_model.specs.Map.{reverse_of}
use Rattle.xn_model.proofs.Darts.{reverse-reverse}
use Rattle.xn_fewer.proofs.Has.{has-append, has-first, has-left, has-right}
use Rattle.xn_insert.specs.Search.{ChainEnds, IsChain, IsFound, IsMarked, IsNear, IsPassed, IsRound, IsSearched, LeadsBy, ListsMarked, NoneFound, unmet}

-- ---- counts

pub total-set : (f : ℕ → ℕ) (xs : List ℕ) (i y : ℕ) → i < length xs → total f (set xs i y) + f (at xs i) ≡ total f xs + f y
total-set f [] i y low = absurd (omega arith)
total-set f (x ∷ xs) zero y low = omega arith
total-set f (x ∷ xs) (suc i) y low = let rest = total-set f xs i y (omega (arith, low)) in omega (arith, rest)

unmet-most : (n : ℕ) (by : List ℕ) → unmet n by ≤ length by
unmet-most n [] = omega arith
unmet-most n (c ∷ cs) =
    let rest = unmet-most n cs in
    let one : one_if (eqb c n) ≤ 1 = bit (eqb c n) in
    omega (arith, rest, one)
  where
    bit : (b : Bool) → one_if b ≤ 1
    bit true = omega arith
    bit false = omega arith

pub not_listed : (x : ℕ) → has [] x ≡ true → ⊥
not_listed x h = both_ways false refl h

module _ (names : List ℕ) (below : (d : ℕ) → d < length names → at names d < length names) (rev_in : (d : ℕ) → d < length names → reverse_of d < length names) where
  abbrev n : ℕ
  n = length names

  abbrev beyond : ℕ → ℕ
  beyond d = at names (reverse_of d)

  back_in : (d : ℕ) → d < n → beyond d < n
  back_in d d_in = below (reverse_of d) (rev_in d d_in)

  module _ (goals starts : List ℕ) where
    -- ---- at first

    pub searched_begun : (front : List ℕ) → length goals ≡ n → ((x : ℕ) → x < n → at goals x ≤ n) → ListsMarked goals front → IsSearched names goals starts goals front 0
    searched_begun front size bound lists = record {
      size = size;
      bound = bound;
      front_leads = λ x h.
          let f = (lists x).0 h in
          (omega (arith, f.0, size), λ y same. (subst (IsMarked names goals) same (let low = f.1 in omega (arith, low, size)), refl));
      near = near_goals;
      passed = λ x x_in met. inl ((lists x).1 (omega (arith, x_in, size), let low = met in omega (arith, low, size)));
      early = λ k x low near. absurd (omega (arith, low));
      few = inr (let most = unmet-most n goals in omega (arith, most, size));
    }
      where
        near_goals : (k x : ℕ) → k ≤ 0 → IsNear names goals k x → IsMarked names goals x
        near_goals zero x low near = near.1
        near_goals (suc k) x low near = absurd (omega (arith, low))

    near_in : (k x : ℕ) → IsNear names goals k x → x < n
    near_in zero x near = near.0
    near_in (suc k) x near = let low = below near.0 near.1 in let is = near.2 in omega (arith, low, is)

    -- ---- one round more

    module _ (by front : List ℕ) (r : ℕ) (old : IsSearched names goals starts by front r) where
      -- where no start is in the front, the faces that are met are passed once their neighbours are
      pub found : (x : ℕ) → has front x ≡ true → IsMarked names starts x → IsFound names goals starts by x r
      found x h start = record {
        inside = chain_in r x (old.front_leads x h).0;
        start = start;
        leads = old.front_leads x h;
        least = λ k y near at_start. elim (cases_lt k r) [
          | inl early ↦ let p = (old.early k y early near).0 in absurd (omega (arith, p, at_start))
          | inr late ↦ late
        ];
        few = elim old.few [ inl none ↦ absurd (not_listed x (ap (λ l. has l x) (sym none) ∙ h)) | inr few ↦ omega (arith, few) ];
      }
        where
          chain_in : (k z : ℕ) → IsChain names by k z → z < n
          chain_in zero z chain = chain
          chain_in (suc k) z chain = chain.0

      pub none_found : front ≡ [] → NoneFound names goals starts
      none_found none k x near = (all_passed k x near).0
        where
          met_passed : (z : ℕ) → z < n → IsMarked names by z → IsPassed names starts by z
          met_passed z z_in met = elim (old.passed z z_in met) [ inl h ↦ absurd (not_listed z (ap (λ l. has l z) (sym none) ∙ h)) | inr passed ↦ passed ]

          all_passed : (j z : ℕ) → IsNear names goals j z → IsPassed names starts by z
          all_passed zero z goal = met_passed z goal.0 (old.near 0 z (omega arith) goal)
          all_passed (suc j) z goal =
              let d = goal.0 in
              let next = all_passed j (beyond d) goal.3 in
              let met = next.1 (reverse_of d) (rev_in d goal.1) refl in
              met_passed z (near_in (suc j) z goal) (subst (IsMarked names by) (ap (at names) (reverse-reverse d) ∙ goal.2) met)

      module _ (by' next : List ℕ) (no_start : (x : ℕ) → has front x ≡ true → n ≤ at starts x) (not_over : front ≢ []) (round : IsRound names by front (length front) [] 0 by' next) where
        met_on : (x : ℕ) → IsMarked names by x → IsMarked names by' x
        met_on x met = let same = round.kept x met in omega (arith, same, met)

        passed_on : (x : ℕ) → IsPassed names starts by x → IsPassed names starts by' x
        passed_on x passed = (passed.0, λ d d_in named. met_on (beyond d) (passed.1 d d_in named))

        passed_met : (x : ℕ) → x < n → IsMarked names by x → IsPassed names starts by' x
        passed_met x x_in met = elim (old.passed x x_in met) [
          | inl h ↦ (no_start x h, round.over x (ap (λ l. has l x) (take_all (length front) front (omega arith)) ∙ h))
          | inr passed ↦ passed_on x passed
        ]

        chain_on : (k x : ℕ) → IsChain names by k x → IsChain names by' k x × ((y : ℕ) → ChainEnds names by' k x y → ChainEnds names by k x y)
        chain_on zero x chain = (chain, λ y same. same)
        chain_on (suc k) x chain =
            let same = round.kept x chain.1 in
            let rest = chain_on k (beyond (at by x)) chain.3 in
            let P : ℕ → Type 0 = λ d. IsChain names by' k (beyond d) in
            let Q : ℕ → Type 0 = λ d. (y : ℕ) → ChainEnds names by' k (beyond d) y → ChainEnds names by k (beyond (at by x)) y in
            ((chain.0, met_on x chain.1, ap (at names) same ∙ chain.2, subst P (sym same) rest.0), subst Q (sym same) rest.1)

        leads_on : (k x : ℕ) → LeadsBy names goals by k x → LeadsBy names goals by' k x
        leads_on k x leads =
            let c = chain_on k x leads.0 in (
              c.0,
              λ y ends.
                  let e = leads.1 y (c.1 y ends) in
                  let goal = e.0 in
                  let same = e.1 in
                  (goal, round.kept y (omega (arith, same, goal)) ∙ same),
            )

        leads_next : (x : ℕ) → has next x ≡ true → LeadsBy names goals by' (suc r) x
        leads_next x h =
            let f = round.fresh x h in
            let d = at by' x in
            let rest = leads_on r (beyond d) (old.front_leads (beyond d) f.4) in
            ((f.0, f.2, f.3, rest.0), rest.1)

        near_next : (k x : ℕ) → k ≤ suc r → IsNear names goals k x → IsMarked names by' x
        near_next zero x low near = met_on x (old.near 0 x (omega arith) near)
        near_next (suc k) x low near =
            let d = near.0 in
            let f_met = old.near k (beyond d) (omega (arith, low)) near.3 in
            let passed = passed_met (beyond d) (back_in d near.1) f_met in
            subst (IsMarked names by') (ap (at names) (reverse-reverse d) ∙ near.2) (passed.1 (reverse_of d) (rev_in d near.1) refl)

        few_next : (next ≡ []) ⊎ (suc r + unmet n by' ≤ n)
        few_next = elim old.few [
          | inl none ↦ absurd (not_over none)
          | inr few ↦ of_length next round.fewer few
        ]
          where
            of_length : (xs : List ℕ) → unmet n by' + length xs ≤ unmet n by → r + unmet n by ≤ n → (xs ≡ []) ⊎ (suc r + unmet n by' ≤ n)
            of_length [] fewer few = inl refl
            of_length (x ∷ xs) fewer few = inr (omega (arith, fewer, few))

        next_searched : IsSearched names goals starts by' next (suc r)
        next_searched = record {
          size = round.size;
          bound = round.bound;
          front_leads = leads_next;
          near = near_next;
          passed = λ x x_in met. elim (round.only x x_in met) [ inl was ↦ inr (passed_met x x_in was) | inr new ↦ inl new ];
          early = λ k x low near. passed_met x (near_in k x near) (old.near k x (omega (arith, low)) near);
          few = few_next;
        }

        pub searched_more : IsSearched names goals starts by' next (r + 1)
        searched_more = let on : suc r ≡ r + 1 = omega arith in subst (IsSearched names goals starts by' next) on next_searched

  -- ---- within a round

  module _ (old front : List ℕ) (old_bound : (x : ℕ) → x < n → at old x ≤ n) where
    pub round_begun : length old ≡ n → IsRound names old front 0 [] 0 old []
    round_begun size = record {
      size = size;
      bound = old_bound;
      kept = λ x met. refl;
      fresh = λ x h. absurd (not_listed x h);
      only = λ x x_in met. inl met;
      over = λ x h. absurd (not_listed x h);
      along = λ k low. absurd (omega (arith, low));
      fewer = omega arith;
    }

    pub face_begun : (i : ℕ) (some darts by next : List ℕ) (j : ℕ) → IsRound names old front i some j by next → IsRound names old front i darts 0 by next
    face_begun i some darts by next j round = record {
      size = round.size;
      bound = round.bound;
      kept = round.kept;
      fresh = round.fresh;
      only = round.only;
      over = round.over;
      along = λ k low. absurd (omega (arith, low));
      fewer = round.fewer;
    }

    -- a dart whose other side is met already
    pub dart_met : (i : ℕ) (darts by next : List ℕ) (j d : ℕ) → IsRound names old front i darts j by next → at darts j ≡ d → d < n → at by (beyond d) ≢ n →
        IsRound names old front i darts (j + 1) by next
    dart_met i darts by next j d round is d_in not_new = record {
      size = round.size;
      bound = round.bound;
      kept = round.kept;
      fresh = round.fresh;
      only = round.only;
      over = round.over;
      along = λ k low. elim (cases_eq k j) [
        | inl last ↦
            let most = round.bound (beyond d) (back_in d d_in) in
            subst (λ c. IsMarked names by (beyond c)) (sym (ap (at darts) last ∙ is)) (omega (arith, most, not_new))
        | inr other ↦ round.along k (omega (arith, low, other))
      ];
      fewer = round.fewer;
    }

    -- a dart whose other side is new
    pub dart_new : (i : ℕ) (darts by next : List ℕ) (j d : ℕ) → IsRound names old front i darts j by next → at darts j ≡ d → d < n → has front (at names d) ≡ true → at by (beyond d) ≡ n →
        IsRound names old front i darts (j + 1) (set by (beyond d) (reverse_of d)) (next ++ beyond d ∷ [])
    dart_new i darts by next j d round is d_in in_front new =
        let y = beyond d in
        let y_in = back_in d d_in in
        let size = round.size in
        let r_in = rev_in d d_in in
        let here : at (set by y (reverse_of d)) y ≡ reverse_of d = get_or-set_same by y (reverse_of d) 0 (omega (arith, y_in, size)) in
        let there : (x : ℕ) → x ≢ y → at (set by y (reverse_of d)) x ≡ at by x = λ x other. get_or-set_other by y x (reverse_of d) 0 other in
        let met_still : (x : ℕ) → IsMarked names by x → IsMarked names (set by y (reverse_of d)) x = λ x met.
        let same = there x (λ at_y. let e = ap (at by) at_y in omega (arith, e, new, met)) in omega (arith, same, met) in
        let front_of_y : has front (at names (reverse_of (reverse_of d))) ≡ true = ap (λ c. has front (at names c)) (reverse-reverse d) ∙ in_front in
        record {
          size = length-set by y (reverse_of d) ∙ size;
          bound = λ x x_in. elim (cases_eq x y) [
            | inl at_y ↦ let e = ap (at (set by y (reverse_of d))) at_y in omega (arith, e, here, r_in)
            | inr other ↦ let same = there x other in let most = round.bound x x_in in omega (arith, same, most)
          ];
          kept = λ x met. elim (cases_eq x y) [
            | inl at_y ↦ let was = round.kept x met in let e = ap (at by) at_y in absurd (omega (arith, was, e, new, met))
            | inr other ↦ there x other ∙ round.kept x met
          ];
          fresh = λ x h. elim (cases_eq x y) [
            | inl at_y ↦
                let was_new : at old y ≡ n = elim (cases_lt (at old y) n) [
                  | inl met ↦ let same = round.kept y met in absurd (omega (arith, same, new, met))
                  | inr high ↦ let most = old_bound y y_in in omega (arith, high, most)
                ] in
                let P : ℕ → Type 0 = λ z. (z < n) × (at old z ≡ n) × IsMarked names (set by y (reverse_of d)) z × (at names (at (set by y (reverse_of d)) z) ≡ z)
                × (has front (at names (reverse_of (at (set by y (reverse_of d)) z))) ≡ true) in
                subst P (sym at_y) (y_in, was_new, (omega (arith, here, r_in)), ap (at names) here, ap (λ c. has front (at names (reverse_of c))) here ∙ front_of_y)
            | inr other ↦
                let was : has next x ≡ true = elim (has-append next (y ∷ []) x h) [ inl a ↦ a | inr b ↦ absurd (other (sym (only_one y x b))) ] in
                let f = round.fresh x was in
                let same = there x other in
                (f.0, f.1, met_still x f.2, ap (at names) same ∙ f.3, ap (λ c. has front (at names (reverse_of c))) same ∙ f.4)
          ];
          only = λ x x_in met. elim (cases_eq x y) [
            | inl at_y ↦ inr (subst (λ z. has (next ++ y ∷ []) z ≡ true) (sym at_y) (has-right next (y ∷ []) y (has-first y [])))
            | inr other ↦ elim (round.only x x_in (let same = there x other in omega (arith, same, met))) [ inl was ↦ inl was | inr listed ↦ inr (has-left next (y ∷ []) x listed) ]
          ];
          over = λ x h c c_in named. met_still (beyond c) (round.over x h c c_in named);
          along = λ k low. elim (cases_eq k j) [
            | inl last ↦ subst (λ c. IsMarked names (set by y (reverse_of d)) (beyond c)) (sym (ap (at darts) last ∙ is)) (omega (arith, here, r_in))
            | inr other ↦ met_still (beyond (at darts k)) (round.along k (omega (arith, low, other)))
          ];
          fewer =
              let sum = total-set (λ c. one_if (eqb c n)) by y (reverse_of d) (omega (arith, y_in, size)) in
              let one : one_if (eqb (at by y) n) ≡ 1 = ap one_if (eq-eqb (at by y) n new) in
              let none : one_if (eqb (reverse_of d) n) ≡ 0 = ap one_if (ne_eqb (reverse_of d) n (λ same. omega (arith, same, r_in))) in
              let long = length-append next (y ∷ []) in
              let fewer = round.fewer in
              omega (arith, sum, one, none, long, fewer);
        }
      where
        only_one : (y x : ℕ) → has (y ∷ []) x ≡ true → y ≡ x
        only_one y x h = elim (or_cases (eqb y x) false h) [ inl here ↦ eqb-true y x here | inr later ↦ absurd (not_listed x later) ]

    -- all darts of the next face are passed
    pub face_done : (i x : ℕ) (darts by next : List ℕ) (j : ℕ) → IsRound names old front i darts j by next → i < length front → at front i ≡ x →
        ((d : ℕ) → d < n → at names d ≡ x → (k : ℕ) × (k < j) × (at darts k ≡ d)) → IsRound names old front (i + 1) [] 0 by next
    face_done i x darts by next j round i_in is all = record {
      size = round.size;
      bound = round.bound;
      kept = round.kept;
      fresh = round.fresh;
      only = round.only;
      over = λ z h.
          let more : has (take i front ++ at front i ∷ []) z ≡ true = ap (λ l. has l z) (sym (take_more front i 0 i_in)) ∙ h in
          elim (has-append (take i front) (at front i ∷ []) z more) [
            | inl was ↦ round.over z was
            | inr new ↦ λ d d_in named.
                let at_x : at front i ≡ z = elim (or_cases (eqb (at front i) z) false new) [ inl here ↦ eqb-true (at front i) z here | inr later ↦ absurd (both_ways false refl later) ] in
                let place = all d d_in (named ∙ sym at_x ∙ is) in
                subst (λ c. IsMarked names by (beyond c)) place.2 (round.along place.0 place.1)
          ];
      along = λ k low. absurd (omega (arith, low));
      fewer = round.fewer;
    }
