-- Steps are found along a walk, or it meets all others as it may.
use Rattle.std.proofs.Common.{◌≡◌, ◌≢◌, ℕ, suc, ◌<◌, ◌≤◌, inl, inr, Bool, false, Option, Some, None, List, length, max, min, set, refl, sym, ◌∙◌, ap, subst, arith}
use Rattle.std.proofs.lemmas.Bool.{both_ways, cases_eq, cases_lt}
use Rattle.std.proofs.lemmas.List.{get_or-set_other, get_or-set_same, length-set}
use Rattle.xn_model.specs.Graph.{Graph, Independent}
use Rattle.xn_model.specs.Lists.{at}
use Rattle.xn_track.specs.Steps.{end_from}
use Rattle.xn_simple.specs.Tangle.{IsOther, ListedTangle, MeetAt, named, node_in, pass_of, walk_in}
use Rattle.xn_simple.specs.Untangling.{GoesOnWith, HasMetBefore, IsStep, MeetWell, MeetsSoFar}
use Rattle.xn_simple.specs.declared.finding.Step.{Step}
use Rattle.xn_simple.specs.declared.finding.Step.TheVariants.{Beginnings, Closed, Middles}
use Rattle.xn_simple.specs.declared.tangle.Pass.{Pass}

some_same : (p q : Pass) → Path (Option Pass) (Some p) (Some q) → p ≡ q
some_same p q same = cc

none_some : (p : Pass) → Path (Option Pass) None (Some p) → ⊥
none_some p same = cc

no_step : (step : Step) → Path (Option Step) None (Some step) → ⊥
no_step step same = cc

step_same : (p q : Step) → Path (Option Step) (Some p) (Some q) → p ≡ q
step_same p q same = cc

-- the same pass, seen from the other walk
pub met_turned : (t : ListedTangle) (e i f j : ℕ) → MeetAt t e i f j → MeetAt t f j e i
met_turned t e i f j m = record { one_in = m.two_in; two_in = m.one_in; one_node = sym m.one_node; holds = ap (named t) (sym m.one_node) ∙ m.holds }

pub well_turned : (g : Graph) (t : ListedTangle) (e f : ℕ) → ((a b : ℕ) → Independent g.ends a b → Independent g.ends b a) → MeetWell g t e f → MeetWell g t f e
well_turned g t e f turn well = record {
  itself = λ i j m same. sym (well.itself j i (met_turned t f i e j m) (sym same));
  apart = λ i j m differ. turn e f (well.apart j i (met_turned t f i e j m) (λ same. differ (sym same)));
  one = λ i j k l m n differ. m.one_node ∙ well.one j i l k (met_turned t f i e j m) (met_turned t f k e l n) (λ same. differ (sym same)) ∙ sym n.one_node;
}

module _ (g : Graph) (t : ListedTangle) (e : ℕ) where
  pub none_met : (met : List ℕ) → length met ≡ length g.ends → MeetsSoFar g t e 1 met
  none_met met fits = record {
    fits = fits;
    itself = λ k j low m. absurd (omega (arith, low));
    apart = λ k f j low differ m. absurd (omega (arith, low));
    noted = λ k f j low differ m. absurd (omega (arith, low));
  }

  pub meets_well : (i : ℕ) (met : List ℕ) → length (walk_in t e) ≤ i → MeetsSoFar g t e i met → (f : ℕ) → MeetWell g t e f
  meets_well i met whole so f = record {
    itself = λ k j m same. so.itself k j (let low = m.one_in in omega (arith, low, whole)) (subst (λ h. MeetAt t e k h j) (sym same) m);
    apart = λ k j m differ. so.apart k f j (let low = m.one_in in omega (arith, low, whole)) differ m;
    one = λ k j h l m n differ.
        let one = so.noted k f j (let low = m.one_in in omega (arith, low, whole)) differ m in
        let two = so.noted h f l (let low = n.one_in in omega (arith, low, whole)) differ n in
        ap (node_in t e) (sym one ∙ two);
  }

  -- one more place, of which this much is known
  more_met : (i : ℕ) (met now : List ℕ) → MeetsSoFar g t e (suc i) met → length now ≡ length g.ends → ((j : ℕ) → MeetAt t e i e j → i ≡ j) →
      ((f j : ℕ) → e ≢ f → MeetAt t e i f j → Independent g.ends e f × (at now f ≡ i)) →
      ((k f j : ℕ) → k < i → e ≢ f → MeetAt t e k f j → at now f ≡ at met f) → MeetsSoFar g t e (suc (suc i)) now
  more_met i met now so fits own others kept = record {
    fits = fits;
    itself = λ k j low m. elim (cases_eq k i) [
      | inl here ↦ here ∙ own j (subst (λ x. MeetAt t e x e j) here m)
      | inr before ↦ so.itself k j (omega (arith, low, before)) m
    ];
    apart = λ k f j low differ m. elim (cases_eq k i) [
      | inl here ↦ (others f j differ (subst (λ x. MeetAt t e x f j) here m)).0
      | inr before ↦ so.apart k f j (omega (arith, low, before)) differ m
    ];
    noted = λ k f j low differ m. elim (cases_eq k i) [
      | inl here ↦ (others f j differ (subst (λ x. MeetAt t e x f j) here m)).1 ∙ sym here
      | inr before ↦ kept k f j (omega (arith, low, before)) differ m ∙ so.noted k f j (omega (arith, low, before)) differ m
    ];
  }

  -- nothing may cross there
  pub not_named : (i : ℕ) (met : List ℕ) → named t (node_in t e i) ≡ false → MeetsSoFar g t e (suc i) met → MeetsSoFar g t e (suc (suc i)) met
  not_named i met fails so = more_met i met met so so.fits (λ j m. absurd (both_ways _ fails m.holds)) (λ f j differ m. absurd (both_ways _ fails m.holds)) (λ k f j low differ m. refl)

  module _ (i : ℕ) (met : List ℕ) (so : MeetsSoFar g t e (suc i) met) where
    -- nothing else passes there
    pub no_other : IsOther t e i None → GoesOnWith g t e i met None
    no_other other = record {
      fits = so.fits;
      some = λ step is. absurd (no_step step is);
      none = λ is. more_met i met met so so.fits
          (λ j m. elim (other.only e j m) [ inl same ↦ sym same.1 | inr some ↦ absurd (none_some (pass_of e j) some) ])
          (λ f j differ m. elim (other.only f j m) [ inl same ↦ absurd (differ (sym same.0)) | inr some ↦ absurd (none_some (pass_of f j) some) ])
          (λ k f j low differ m. refl);
    }

    module _ (p : Pass) (other : IsOther t e i (Some p)) where
      a_step : (now : List ℕ) (step : Step) → length now ≡ length g.ends → IsStep g t e step → GoesOnWith g t e i now (Some step)
      a_step now step fits is_step = record {
        fits = fits;
        some = λ found is. subst (IsStep g t e) (step_same step found is) is_step;
        none = λ is. absurd (no_step step (sym is));
      }

      meets : MeetAt t e i p.edge p.place
      meets = other.meets p refl

      pub closes : p.edge ≡ e → GoesOnWith g t e i met (Some (Closed (min i p.place) (max i p.place)))
      closes same = a_step met (Closed (min i p.place) (max i p.place)) so.fits (elim (cases_lt i p.place) [
        | inl low ↦
            let one : min i p.place ≡ i = omega (arith, low) in
            let two : max i p.place ≡ p.place = omega (arith, low) in
            subst (λ x. (x < max i p.place) × MeetAt t e x e (max i p.place)) (sym one) (subst (λ y. (i < y) × MeetAt t e i e y) (sym two) (low, itself))
        | inr high ↦
            let less : p.place < i = let apart = other.differs p refl same in omega (arith, high, apart) in
            let one : min i p.place ≡ p.place = omega (arith, less) in
            let two : max i p.place ≡ i = omega (arith, less) in
            subst (λ x. (x < max i p.place) × MeetAt t e x e (max i p.place)) (sym one) (subst (λ y. (p.place < y) × MeetAt t e p.place e y) (sym two) (less, met_turned t e i e p.place itself))
      ])
        where
          itself : MeetAt t e i e p.place
          itself = subst (λ h. MeetAt t e i h p.place) same meets

      module _ (differ : e ≢ p.edge) where
        pub begins : (s u : Bool) → end_from g.ends e s ≡ end_from g.ends p.edge u → GoesOnWith g t e i met (Some (Beginnings i p s u))
        begins s u from = a_step met (Beginnings i p s u) so.fits (differ, meets, from)

        now_fits : length (set met p.edge i) ≡ length g.ends
        now_fits = length-set met p.edge i ∙ so.fits

        pub twice : (first : ℕ) (before : Pass) → (first < i) × (before.edge ≡ p.edge) × MeetAt t e first p.edge before.place →
            GoesOnWith g t e i (set met p.edge i) (Some (Middles first i before p))
        twice first before has = a_step (set met p.edge i) (Middles first i before p) now_fits (
          has.1,
          record {
            differ = λ same. differ (same ∙ has.1);
            order = has.0;
            first = subst (λ h. MeetAt t e first h before.place) (sym has.1) has.2;
            second = subst (λ h. MeetAt t e i h p.place) (sym has.1) meets;
            apart = λ same. elim (other.only e first (record { one_in = meets.one_in; two_in = has.2.one_in; one_node = sym same; holds = meets.holds })) [
              | inl own ↦ let low = has.0 in omega (arith, low, own.1)
              | inr some ↦ differ (sym (ap (λ q. q.edge) (some_same p (pass_of e first) some)))
            ];
          },
        )

        pub once : Independent g.ends e p.edge → p.edge < length g.ends → HasMetBefore t e (at met p.edge) i p.edge None → GoesOnWith g t e i (set met p.edge i) None
        once free f_in before = record {
          fits = now_fits;
          some = λ step is. absurd (no_step step is);
          none = λ is. more_met i met (set met p.edge i) so now_fits
              (λ j m. elim (other.only e j m) [ inl same ↦ sym same.1 | inr some ↦ absurd (differ (sym (ap (λ q. q.edge) (some_same p (pass_of e j) some)))) ])
              (λ f j other_edge m. elim (other.only f j m) [
                | inl same ↦ absurd (other_edge (sym same.0))
                | inr some ↦
                    let is_f : p.edge ≡ f = ap (λ q. q.edge) (some_same p (pass_of f j) some) in
                    let size = so.fits in
                    (subst (λ h. Independent g.ends e h) is_f free, ap (at (set met p.edge i)) (sym is_f) ∙ get_or-set_same met p.edge i 0 (omega (arith, f_in, size)))
              ])
              (λ k f j low other_edge m. elim (cases_eq f p.edge) [
                | inl same ↦
                    let here : at met p.edge ≡ k = ap (at met) (sym same) ∙ so.noted k f j (omega (arith, low)) other_edge m in
                    let m_there : MeetAt t e (at met p.edge) p.edge j = subst (λ x. MeetAt t e x p.edge j) (sym here) (subst (λ h. MeetAt t e k h j) same m) in
                    absurd (differ (before.none refl j (omega (arith, here, low)) m_there))
                | inr apart ↦ get_or-set_other met p.edge f i 0 apart
              ]);
        }

  -- ---- whether f was met before

  module _ (first i f : ℕ) where
    pub never_before : i ≤ first → HasMetBefore t e first i f None
    never_before past = record { some = λ p is. absurd (none_some p is); none = λ is j low m. absurd (omega (arith, past, low)) }

    pub never_named : named t (node_in t e first) ≡ false → HasMetBefore t e first i f None
    never_named fails = record { some = λ p is. absurd (none_some p is); none = λ is j low m. absurd (both_ways _ fails m.holds) }

    pub never_passed : IsOther t e first None → HasMetBefore t e first i f None
    never_passed other = record {
      some = λ p is. absurd (none_some p is);
      none = λ is j low m. elim (other.only f j m) [ inl same ↦ sym same.0 | inr some ↦ absurd (none_some (pass_of f j) some) ];
    }

    pub another_met : (p : Pass) → IsOther t e first (Some p) → p.edge ≢ f → HasMetBefore t e first i f None
    another_met p other apart = record {
      some = λ q is. absurd (none_some q is);
      none = λ is j low m. elim (other.only f j m) [ inl same ↦ sym same.0 | inr some ↦ absurd (apart (ap (λ q. q.edge) (some_same p (pass_of f j) some))) ];
    }

    pub met_there : (p : Pass) → first < i → IsOther t e first (Some p) → p.edge ≡ f → HasMetBefore t e first i f (Some p)
    met_there p low other same = record {
      some = λ q is.
          let one = some_same p q is in
          subst (λ x. (first < i) × (x.edge ≡ f) × MeetAt t e first f x.place) one (low, same, subst (λ h. MeetAt t e first h p.place) same (other.meets p refl));
      none = λ is. absurd (none_some p (sym is));
    }
