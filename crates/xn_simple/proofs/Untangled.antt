-- Steps are taken until no walk gives one: edges whose walks changed are looked at again.
use Rattle.std.proofs.Common.{◌≡◌, ◌≢◌, ℕ, suc, ◌+◌, ◌*◌, ◌<◌, inl, inr, true, false, ◌||◌, List, [], ◌∷◌, ◌++◌, length, refl, sym, ◌∙◌, ap, subst, arith, length-append}
use Rattle.std.proofs.lemmas.Bool.{both_ways, cases_Bool, cases_eq, ne_eqb}
use Rattle.xn_model.specs.Graph.{Graph, Independent}
use Rattle.xn_model.specs.Lists.{has}
use Rattle.xn_model.proofs.Has.{has-append, has-first, has-left, has-right}
use Rattle.xn_track.specs.Steps.{node_after}
use Rattle.xn_simple.specs.Tangle.{IsTangle, ListedTangle, MeetAt, named, node_in, walk_in}
use Rattle.xn_simple.specs.Untangling.{IsUntangled, KeepsMap, Leaves, MeetWell, named_count}
use Rattle.xn_simple.proofs.Found.{well_turned}
use Rattle.xn_simple.proofs.Tangled.{edge_in}

-- on the way: walks meet well whose edges aren't to be looked at
pub record Untangling (g : Graph) (start t : ListedTangle) (open_edges : List ℕ) : Type 0 where
  pub keeps : KeepsMap start t
  pub tangle : IsTangle g t
  pub within : (x : ℕ) → has open_edges x ≡ true → has t.edges x ≡ true
  pub well : (e f : ℕ) → has open_edges e ≡ false → has open_edges f ≡ false → MeetWell g t e f

-- the work that is left
abbrev pub work : ListedTangle → List ℕ → ℕ
work t open_edges = 2 * named_count t + length open_edges

out_of : (xs ys : List ℕ) (x : ℕ) → has (xs ++ ys) x ≡ false → (has xs x ≡ false) × (has ys x ≡ false)
out_of xs ys x out = (
  elim (cases_Bool (has xs x)) [ inr no_x ↦ no_x | inl is ↦ absurd (both_ways _ out (has-left xs ys x is)) ],
  elim (cases_Bool (has ys x)) [ inr no_x ↦ no_x | inl is ↦ absurd (both_ways _ out (has-right xs ys x is)) ],
)

not_last : (e x : ℕ) → has (e ∷ []) x ≡ false → x ≢ e
not_last e x out same = both_ways _ out (ap (has (e ∷ [])) same ∙ has-first e [])

not_in : (xs : List ℕ) (e x : ℕ) → has xs x ≡ false → x ≢ e → has (xs ++ e ∷ []) x ≡ false
not_in xs e x out other = elim (cases_Bool (has (xs ++ e ∷ []) x)) [
  | inr no_x ↦ no_x
  | inl is ↦ absurd (elim (has-append xs (e ∷ []) x is) [ inl left ↦ both_ways _ out left | inr last ↦ only e x other last ])
]
  where
    only : (e x : ℕ) → x ≢ e → has (e ∷ []) x ≡ true → ⊥
    only e x other last = both_ways _ (one_out e x other) last
      where
        one_out : (e x : ℕ) → x ≢ e → has (e ∷ []) x ≡ false
        one_out e x other = ap (λ b. b || false) (ne_eqb e x (λ same. other (sym same)))

-- edges without a walk meet none
pub none_open : (g : Graph) (t : ListedTangle) → IsTangle g t → Untangling g t t t.edges
none_open g t tangle = record {
  keeps = record { same_map = refl; same_edges = refl };
  tangle = tangle;
  within = λ x is. is;
  well = λ e f e_out f_out.
      let never : (i j : ℕ) → MeetAt t e i f j → ⊥ = λ i j m. both_ways _ e_out (edge_in g t tangle e (suc i) m.one_in) in
      record { itself = λ i j m same. absurd (never i j m); apart = λ i j m differ. absurd (never i j m); one = λ i j k l m n differ. absurd (never i j m) };
}

-- walks that stay meet as well as before, where nothing more is named
pub well_kept : (g : Graph) (old new : ListedTangle) (e f : ℕ) → new.map ≡ old.map → walk_in new e ≡ walk_in old e → walk_in new f ≡ walk_in old f →
    ((v : ℕ) → named new v ≡ true → named old v ≡ true) → MeetWell g old e f → MeetWell g new e f
well_kept g old new e f same_map same_e same_f fewer well = record {
  itself = λ i j m same. well.itself i j (was i j m) same;
  apart = λ i j m differ. well.apart i j (was i j m) differ;
  one = λ i j k l m n differ. at_e i ∙ well.one i j k l (was i j m) (was k l n) differ ∙ sym (at_e k);
}
  where
    at_e : (i : ℕ) → node_in new e i ≡ node_in old e i
    at_e i = ap (λ w. node_after new.map.web.ends w i) same_e ∙ ap (λ m. node_after m.web.ends (walk_in old e) i) same_map

    at_f : (i : ℕ) → node_in new f i ≡ node_in old f i
    at_f i = ap (λ w. node_after new.map.web.ends w i) same_f ∙ ap (λ m. node_after m.web.ends (walk_in old f) i) same_map

    was : (i j : ℕ) → MeetAt new e i f j → MeetAt old e i f j
    was i j m =
        let one = ap length same_e in
        let two = ap length same_f in
        let one_in = m.one_in in
        let two_in = m.two_in in
        record {
          one_in = omega (arith, one, one_in);
          two_in = omega (arith, two, two_in);
          one_node = sym (at_e i) ∙ m.one_node ∙ at_f j;
          holds = ap (named old) (sym (at_e i)) ∙ fewer (node_in new e i) m.holds;
        }

module _ (g : Graph) (start t : ListedTangle) (rest : List ℕ) (e : ℕ) (before : Untangling g start t (rest ++ e ∷ [])) where
  pub last_in : has t.edges e ≡ true
  last_in = before.within e (has-right rest (e ∷ []) e (has-first e []))

  -- the walk of e gives no step
  pub none_left : ((a b : ℕ) → Independent g.ends a b → Independent g.ends b a) → ((f : ℕ) → MeetWell g t e f) → Untangling g start t rest
  none_left turn well = record {
    keeps = before.keeps;
    tangle = before.tangle;
    within = λ x is. before.within x (has-left rest (e ∷ []) x is);
    well = λ a b a_out b_out. elim (cases_eq a e) [
      | inl a_is ↦ subst (λ k. MeetWell g t k b) (sym a_is) (well b)
      | inr a_not ↦ elim (cases_eq b e) [
        | inl b_is ↦ subst (λ k. MeetWell g t a k) (sym b_is) (well_turned g t e a turn (well a))
        | inr b_not ↦ before.well a b (not_in rest e a a_out a_not) (not_in rest e b b_out b_not)
      ]
    ];
  }

  pub less_left : work t rest < work t (rest ++ e ∷ [])
  less_left = let size = length-append rest (e ∷ []) in omega (arith, size)

  -- a step of it was taken
  module _ (new : ListedTangle) (f : ℕ) (step : Leaves g t new e f) where
    pub step_taken : Untangling g start new ((rest ++ e ∷ []) ++ f ∷ [])
    step_taken = record {
      keeps = record { same_map = step.keeps.same_map ∙ before.keeps.same_map; same_edges = step.keeps.same_edges ∙ before.keeps.same_edges };
      tangle = step.tangle;
      within = λ x is.
          let there : has t.edges x ≡ true = elim (has-append (rest ++ e ∷ []) (f ∷ []) x is) [
            | inl old ↦ before.within x old
            | inr last ↦ elim (cases_eq x f) [
              | inl same ↦ ap (has t.edges) same ∙ step.other_in
              | inr other ↦ absurd (both_ways _ (alone f x other) last)
            ]
          ] in
          ap (λ l. has l x) step.keeps.same_edges ∙ there;
      well = λ a b a_out b_out.
          let a_parts = out_of (rest ++ e ∷ []) (f ∷ []) a a_out in
          let b_parts = out_of (rest ++ e ∷ []) (f ∷ []) b b_out in
          let a_e = not_last e a (out_of rest (e ∷ []) a a_parts.0).1 in
          let b_e = not_last e b (out_of rest (e ∷ []) b b_parts.0).1 in
          well_kept g t new a b step.keeps.same_map (step.others a a_e (not_last f a a_parts.1)) (step.others b b_e (not_last f b b_parts.1)) step.fewer
          (before.well a b a_parts.0 b_parts.0);
    }
      where
        alone : (f x : ℕ) → x ≢ f → has (f ∷ []) x ≡ false
        alone f x other = ap (λ b. b || false) (ne_eqb f x (λ same. other (sym same)))

    pub less_named : work new ((rest ++ e ∷ []) ++ f ∷ []) < work t (rest ++ e ∷ [])
    less_named =
        let one = length-append (rest ++ e ∷ []) (f ∷ []) in
        let few = step.count in
        omega (arith, one, few)

-- nothing is to be looked at any more
pub all_well : (g : Graph) (start t : ListedTangle) → Untangling g start t [] → KeepsMap start t × IsUntangled g t
all_well g start t last = (last.keeps, record { tangle = last.tangle; meet = λ e f. last.well e f refl refl })
