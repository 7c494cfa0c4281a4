-- What is read off walks that no step is left for: the edges that they cross, and the darts at their ends and crossings.
use Rattle.std.proofs.Common.{◌≡◌, ◌≢◌, ℕ, suc, ◌+◌, ◌<◌, ◌≤◌, inl, inr, Bool, true, false, not, ◌&&◌, eqb, Option, Some, None, List, [], ◌∷◌, ◌++◌, length, get_or, drop, map, refl, sym, ◌∙◌, ap, subst, arith, append_assoc, drop-cons, drop_of_length-le}
use Rattle.std.specs.Prelude.{filter}
use Rattle.std.proofs.lemmas.Bool.{and_from, and_parts, cases_Bool, cond-true, cond-false, eqb-false, ne_eqb, not-true}
use Rattle.xn_model.specs.Graph.{Graph}
use Rattle.xn_model.specs.Lists.{at, has}
use Rattle.xn_model.specs.Map.{reverse_of, tail_of}
use Rattle.xn_model.proofs.Has.{any_from, any_to, has-at, place_of}
use Rattle.xn_track.specs.Tidying.{is_met, is_other, other_at}
use Rattle.xn_track.specs.Track.{passed}
use Rattle.xn_track.proofs.OrdersAlong.{first_passing_is}
use Rattle.xn_track.proofs.Passes.{passed-length, passed_at}
use Rattle.xn_simple.specs.Tangle.{IsOther, ListedTangle, MeetAt, named, node_in, pass_of, walk_in}
use Rattle.xn_simple.specs.Tidied.{MeetSimplyAt, is_crossed, starts_past, walk_starts}
use Rattle.xn_simple.specs.Untangling.{IsUntangled, crossed_at}
use Rattle.xn_simple.specs.declared.tangle.Pass.{Pass}
use Rattle.xn_simple.proofs.Tangled.{edge_in}

some_same : (p q : Pass) → Path (Option Pass) (Some p) (Some q) → p ≡ q
some_same p q same = cc

none_some : (p : Pass) → Path (Option Pass) None (Some p) → ⊥
none_some p same = cc

pub passed_in : (ends : List (ℕ × ℕ)) (ds : List ℕ) (i : ℕ) → i < length (passed ends ds) → suc i < length ds
passed_in ends [] i i_in = absurd (omega (arith, i_in))
passed_in ends (d ∷ ds) i i_in = let size = passed-length ends (d ∷ ds) (omega arith) in omega (arith, size, i_in)

module _ (g : Graph) (t : ListedTangle) (done : IsUntangled g t) where
  abbrev ends : List (ℕ × ℕ)
  ends = t.map.web.ends

  abbrev edges : List ℕ
  edges = t.edges

  abbrev walks : ℕ → List ℕ
  walks = walk_in t

  abbrev crossed : ℕ → ℕ → Bool
  crossed = is_crossed edges ends (named t) walks

  -- a walk passes the nodes that it has passed
  pub record Passing (f v : ℕ) : Type 0 where
    pub place : ℕ
    pub place_in : suc place < length (walks f)
    pub here : node_in t f place ≡ v

  pub passing : (f v : ℕ) → has (passed ends (walks f)) v ≡ true → Passing f v
  passing f v h =
      let p = place_of (passed ends (walks f)) v h in
      let low = passed_in ends (walks f) p.0 p.1 in
      record { place = p.0; place_in = low; here = sym (passed_at ends (walks f) p.0 low) ∙ p.2 }

  pub is_passed : (f j : ℕ) → suc j < length (walks f) → has (passed ends (walks f)) (node_in t f j) ≡ true
  is_passed f j j_in =
      let size = passed-length ends (walks f) (omega (arith, j_in)) in
      subst (λ v. has (passed ends (walks f)) v ≡ true) (passed_at ends (walks f) j j_in) (has-at (passed ends (walks f)) j (omega (arith, j_in, size)))

  meet_of : (e f v : ℕ) → named t v ≡ true → (p : Passing e v) → (q : Passing f v) → MeetAt t e p.place f q.place
  meet_of e f v holds p q = record { one_in = p.place_in; two_in = q.place_in; one_node = p.here ∙ sym q.here; holds = ap (named t) p.here ∙ holds }

  -- they meet simply
  pub meet_simply : MeetSimplyAt g edges ends (named t) walks
  meet_simply = record {
    itself = λ e i j e_in i_in j_in holds same.
        let i_low = passed_in ends (walks e) i i_in in
        let j_low = passed_in ends (walks e) j j_in in
        let i_is = passed_at ends (walks e) i i_low in
        let j_is = passed_at ends (walks e) j j_low in
        (done.meet e e).itself i j (record { one_in = i_low; two_in = j_low; one_node = sym i_is ∙ same ∙ j_is; holds = ap (named t) (sym i_is) ∙ holds }) refl;
    apart = λ e f v e_in f_in differ holds one two.
        let p = passing e v one in
        let q = passing f v two in
        (done.meet e f).apart p.place q.place (meet_of e f v holds p q) differ;
    one = λ e f u v e_in f_in differ four_u four_v a b c d.
        let p = passing e u a in
        let q = passing f u b in
        let r = passing e v c in
        let s = passing f v d in
        sym p.here ∙ (done.meet e f).one p.place q.place r.place s.place (meet_of e f u four_u p q) (meet_of e f v four_v r s) differ ∙ r.here;
  }

  -- ---- what a walk crosses at a place

  module _ (e i : ℕ) (i_in : suc i < length (walks e)) where
    abbrev v : ℕ
    v = node_in t e i

    pub crosses_none : named t v ≡ false → crossed_at t e v ≡ None
    crosses_none fails = cond-false _ _ _ (ap (λ b. b && is_met edges ends walks e v) fails)

    module _ (holds : named t v ≡ true) where
      -- another walk that meets the node does so at the other pass
      meets : (f : ℕ) → f ≢ e → has (passed ends (walks f)) v ≡ true → (j : ℕ) × MeetAt t e i f j
      meets f differ h = let q = passing f v h in (q.place, record { one_in = i_in; two_in = q.place_in; one_node = sym q.here; holds = holds })

      parts : (f : ℕ) → is_other ends walks e v f ≡ true → (f ≢ e) × (has (passed ends (walks f)) v ≡ true)
      parts f h =
          let both : (not (eqb f e) ≡ true) × (has (passed ends (walks f)) v ≡ true) = and_parts _ _ h in
          (eqb-false f e (not-true _ both.0), both.1)

      pub crosses_no_other : IsOther t e i None → crossed_at t e v ≡ None
      crosses_no_other other = elim (cases_Bool (is_met edges ends walks e v)) [
        | inr fails ↦ cond-false _ _ _ (ap (λ b. named t v && b) fails ∙ never (named t v))
        | inl met ↦
            let f = any_to (is_other ends walks e v) edges met in
            let is = parts f.0 f.2 in
            let m = meets f.0 is.0 is.1 in
            absurd (elim (other.only f.0 m.0 m.1) [ inl same ↦ is.0 same.0 | inr some ↦ none_some (pass_of f.0 m.0) some ])
      ]
        where
          never : (b : Bool) → (b && false) ≡ false
          never true = refl
          never false = refl

      pub crosses_other : (p : Pass) → IsOther t e i (Some p) → crossed_at t e v ≡ Some p.edge
      crosses_other p other =
          let m = other.meets p refl in
          let differ : p.edge ≢ e = λ same. other.differs p refl same (sym ((done.meet e p.edge).itself i p.place m (sym same))) in
          let f_in = edge_in g t done.tangle p.edge (suc p.place) m.two_in in
          let there : has (passed ends (walks p.edge)) v ≡ true = subst (λ w. has (passed ends (walks p.edge)) w ≡ true) (sym m.one_node) (is_passed p.edge p.place m.two_in) in
          let met : is_met edges ends walks e v ≡ true = any_from (is_other ends walks e v) edges p.edge f_in (and_from _ _ (ap not (ne_eqb p.edge e differ)) there) in
          let first = first_passing_is (is_other ends walks e v) edges met in
          let is = parts (other_at edges ends walks e v) first.1 in
          let n = meets (other_at edges ends walks e v) is.0 is.1 in
          let same : p.edge ≡ other_at edges ends walks e v = elim (other.only (other_at edges ends walks e v) n.0 n.1) [
            | inl own ↦ absurd (is.0 own.0)
            | inr some ↦ ap (λ q. q.edge) (some_same p (pass_of (other_at edges ends walks e v) n.0) some)
          ] in
          cond-true _ _ _ (and_from _ _ holds met) ∙ ap Some (sym same)

-- ---- one step along a walk

module _ (ends : List (ℕ × ℕ)) (test : ℕ → Bool) (name number : ℕ → ℕ) where
  -- the numbers of the edges at the darts that are left
  abbrev pub numbers_past : List ℕ → List ℕ
  numbers_past ds = map number (map name (filter test (map (tail_of ends) ds)))

  drop_at : (walk : List ℕ) (i : ℕ) → i < length walk → drop i walk ≡ get_or walk i 0 ∷ drop (i + 1) walk
  drop_at walk i i_in = let e : suc i ≡ i + 1 = omega arith in drop-cons walk i 0 i_in ∙ ap (λ k. get_or walk i 0 ∷ drop k walk) e

  pub number_more : (done walk all : List ℕ) (i : ℕ) → i < length walk → test (tail_of ends (at walk i)) ≡ true → done ++ numbers_past (drop i walk) ≡ all →
      (done ++ number (name (tail_of ends (at walk i))) ∷ []) ++ numbers_past (drop (i + 1) walk) ≡ all
  number_more done walk all i i_in passes before =
      let d = at walk i in
      let here : numbers_past (drop i walk) ≡ number (name (tail_of ends d)) ∷ numbers_past (drop (i + 1) walk) =
      ap numbers_past (drop_at walk i i_in) ∙ ap (λ xs. map number (map name xs)) (cond-true _ _ _ passes) in
      append_assoc done (number (name (tail_of ends d)) ∷ []) (numbers_past (drop (i + 1) walk)) ∙ ap (λ xs. done ++ xs) (sym here) ∙ before

  pub number_none : (done walk all : List ℕ) (i : ℕ) → i < length walk → test (tail_of ends (at walk i)) ≡ false → done ++ numbers_past (drop i walk) ≡ all →
      done ++ numbers_past (drop (i + 1) walk) ≡ all
  number_none done walk all i i_in fails before =
      let here : numbers_past (drop i walk) ≡ numbers_past (drop (i + 1) walk) = ap numbers_past (drop_at walk i i_in) ∙ ap (λ xs. map number (map name xs)) (cond-false _ _ _ fails) in
      ap (λ xs. done ++ xs) (sym here) ∙ before

  pub start_more : (done walk all : List ℕ) (d i : ℕ) → i < length walk → test (tail_of ends (at walk i)) ≡ true → done ++ starts_past ends test d (drop i walk) ≡ all →
      ((done ++ reverse_of d ∷ []) ++ at walk i ∷ []) ++ starts_past ends test (at walk i) (drop (i + 1) walk) ≡ all
  start_more done walk all d i i_in passes before =
      let rest = starts_past ends test (at walk i) (drop (i + 1) walk) in
      let here : starts_past ends test d (drop i walk) ≡ reverse_of d ∷ at walk i ∷ rest = ap (starts_past ends test d) (drop_at walk i i_in) ∙ cond-true _ _ _ passes in
      append_assoc (done ++ reverse_of d ∷ []) (at walk i ∷ []) rest ∙ append_assoc done (reverse_of d ∷ []) (at walk i ∷ rest) ∙ ap (λ xs. done ++ xs) (sym here) ∙ before

  pub start_none : (done walk all : List ℕ) (d i : ℕ) → i < length walk → test (tail_of ends (at walk i)) ≡ false → done ++ starts_past ends test d (drop i walk) ≡ all →
      done ++ starts_past ends test (at walk i) (drop (i + 1) walk) ≡ all
  start_none done walk all d i i_in fails before =
      ap (λ xs. done ++ xs) (sym (ap (starts_past ends test d) (drop_at walk i i_in) ∙ cond-false _ _ _ fails)) ∙ before

  pub start_last : (done walk all : List ℕ) (d i : ℕ) → length walk ≤ i → done ++ starts_past ends test d (drop i walk) ≡ all → done ++ reverse_of d ∷ [] ≡ all
  start_last done walk all d i past before = ap (λ xs. done ++ starts_past ends test d xs) (sym (drop_of_length-le walk {i = i} past)) ∙ before

  -- a walk that has a dart
  pub starts_first : (walk : List ℕ) → 0 < length walk → walk_starts ends test walk ≡ at walk 0 ∷ starts_past ends test (at walk 0) (drop 1 walk)
  starts_first [] some = absurd (omega (arith, some))
  starts_first (d ∷ ds) some = refl

  pub numbers_all : (walk : List ℕ) → 0 < length walk → map number (map name (filter test (passed ends walk))) ≡ numbers_past (drop 1 walk)
  numbers_all [] some = absurd (omega (arith, some))
  numbers_all (d ∷ ds) some = refl
