-- The orders along walks that meet simply, and the nodes of their crossings.
use Rattle.std.proofs.Common.{◌≡◌, ◌≢◌, ℕ, ◌+◌, ◌<◌, ◌⊎◌, inl, inr, Bool, true, false, not, eqb, List, [], ◌∷◌, length, map, refl, sym, ◌∙◌, ap, subst, arith}
use Rattle.std.specs.List.{IsDistinct, list_any}
use Rattle.std.specs.Prelude.{filter, nat_eq}
use Rattle.std.proofs.lemmas.Bool.{and_from, and_parts, both_ways, cases_Bool, cases_eq, cond-true, cond-false, eqb-false, ne_eqb, not-true}
use Rattle.xn_model.specs.Graph.{Graph, IsGraph}
use Rattle.xn_model.specs.Lists.{at, has}
use Rattle.xn_model.specs.Orders.{IsOrders}
use Rattle.xn_fewer.proofs.Crossings.{IsCross}
use Rattle.xn_fewer.proofs.Has.{has-kept, has-map, has-picked}
use Rattle.xn_fewer.proofs.Rising.{Rising, all_made, rising-from_increasing}
use Rattle.xn_model.proofs.Has.{all_not, any_from, has-first, has-later, place_of}
use Rattle.xn_track.specs.Tidying.{first_passing, is_met, is_other, order_along, other_at}
use Rattle.xn_track.specs.Track.{IsTrack, MeetSimply, passed}
use Rattle.xn_track.proofs.Blocks.{blocks_apart}
use Rattle.xn_track.proofs.Places.{has-mapped}
use Rattle.xn_track.proofs.Passes.{Gap, begin, size_is, two_gaps}

pub first_passing_is : (p : ℕ → Bool) (xs : List ℕ) → list_any p xs ≡ true → (has xs (first_passing p xs) ≡ true) × (p (first_passing p xs) ≡ true)
first_passing_is p [] h = absurd (both_ways false refl h)
first_passing_is p (x ∷ xs) h =
    let P : ℕ → Type 0 = λ z. (has (x ∷ xs) z ≡ true) × (p z ≡ true) in
    elim (cases_Bool (p x)) [
      | inl passes ↦
          let is : first_passing p (x ∷ xs) ≡ x = cond-true _ _ _ passes in
          subst P (sym is) (has-first x xs, passes)
      | inr fails ↦
          let rest = first_passing_is p xs (rw fails at h) in
          let is : first_passing p (x ∷ xs) ≡ first_passing p xs = cond-false _ _ _ fails in
          subst P (sym is) (has-later x xs (first_passing p xs) rest.0, rest.1)
    ]

-- a map that keeps what passes apart leaves no repeats
pub distinct-map : (f : ℕ → ℕ) (p : ℕ → Bool) (xs : List ℕ) → IsDistinct nat_eq xs →
    ((x y : ℕ) → has xs x ≡ true → has xs y ≡ true → p x ≡ true → p y ≡ true → f x ≡ f y → x ≡ y) → IsDistinct nat_eq (map f (filter p xs))
unfolding IsDistinct
distinct-map f p [] distinct apart = tt
distinct-map f p (x ∷ xs) distinct apart =
    let rest = distinct-map f p xs distinct.1 (λ y z y_in z_in. apart y z (has-later x xs y y_in) (has-later x xs z z_in)) in
    elim (cases_Bool (p x)) [
      | inr fails ↦ rw fails rest
      | inl passes ↦ rw passes (
        all_made (λ y. nat_eq (f x) y ≡ false) (map f (filter p xs)) (λ y y_in. ne_eqb (f x) y (λ same.
            let z = has-map f (filter p xs) y y_in in
            let picked = has-picked p xs z.0 z.1 in
            all_not x xs distinct.0 z.0 picked.0 (apart x z.0 (has-first x xs) (has-later x xs z.0 picked.0) passes picked.1 (same ∙ sym z.2)))),
        rest,
      )
    ]

module _ (g : Graph) (edges : List ℕ) (web : Graph) (next : ℕ → ℕ) (four : ℕ → Bool) (walks : ℕ → List ℕ) (is_graph : IsGraph g)
    (track : IsTrack g edges web next four walks) (meet : MeetSimply g edges web.ends walks) where
  abbrev pub nodes_of : ℕ → List ℕ
  nodes_of e = passed web.ends (walks e)

  abbrev pub met : ℕ → ℕ → Bool
  met = is_met edges web.ends walks

  abbrev pub other : ℕ → ℕ → ℕ
  other = other_at edges web.ends walks

  abbrev pub ord : ℕ → List ℕ
  ord = order_along edges web.ends walks

  abbrev pub Seam : ℕ → ℕ → Type 0
  Seam = Gap g edges web next four walks is_graph track

  abbrev start : ℕ → ℕ
  start = begin g edges web next four walks is_graph track

  pub make_gap : (e i v : ℕ) → has edges e ≡ true → i < length (nodes_of e) → at (nodes_of e) i ≡ v → Seam (start e + i) v
  make_gap e i v e_in i_in same = record { edge = e; edge_is = e_in; i = i; i_in = i_in; x_is = refl; node = same }

  pub starts_apart : (e f i j : ℕ) → has edges e ≡ true → has edges f ≡ true → e ≢ f → i < length (nodes_of e) → j < length (nodes_of f) → start e + i ≢ start f + j
  starts_apart e f i j e_in f_in differ i_in j_in same =
      let one = size_is g edges web next four walks is_graph track e e_in in
      let two = size_is g edges web next four walks is_graph track f f_in in
      differ (blocks_apart walks edges e f i j e_in f_in (omega (arith, i_in, one)) (omega (arith, j_in, two)) same)

  -- two walks that meet v
  pub record BothMeet (e f v : ℕ) : Type 0 where
    pub e_in : has edges e ≡ true
    pub f_in : has edges f ≡ true
    pub differ : e ≢ f
    pub one : has (nodes_of e) v ≡ true
    pub two : has (nodes_of f) v ≡ true

  pub turned : (e f v : ℕ) → BothMeet e f v → BothMeet f e v
  turned e f v m = record { e_in = m.f_in; f_in = m.e_in; differ = λ same. m.differ (sym same); one = m.two; two = m.one }

  pub two_seams : (e f v : ℕ) → BothMeet e f v → (x : ℕ) × (y : ℕ) × Seam x v × Seam y v × (x ≢ y)
  two_seams e f v m =
      let i = place_of (nodes_of e) v m.one in
      let j = place_of (nodes_of f) v m.two in
      (start e + i.0, start f + j.0, make_gap e i.0 v m.e_in i.1 i.2, make_gap f j.0 v m.f_in j.1 j.2, starts_apart e f i.0 j.0 m.e_in m.f_in m.differ i.1 j.1)

  -- no third walk does
  pub no_third : (e f h v : ℕ) → BothMeet e f v → has edges h ≡ true → has (nodes_of h) v ≡ true → (h ≡ e) ⊎ (h ≡ f)
  no_third e f h v m h_in at_v = elim (cases_eq h e) [
    | inl same ↦ inl same
    | inr not_e ↦ elim (cases_eq h f) [
      | inl same ↦ inr same
      | inr not_f ↦
          let i = place_of (nodes_of e) v m.one in
          let j = place_of (nodes_of f) v m.two in
          let k = place_of (nodes_of h) v at_v in
          let apart = starts_apart e f i.0 j.0 m.e_in m.f_in m.differ i.1 j.1 in
          let two = two_gaps g edges web next four walks is_graph track (start e + i.0) (start f + j.0) v
          (make_gap e i.0 v m.e_in i.1 i.2) (make_gap f j.0 v m.f_in j.1 j.2) apart in
          absurd (elim (two.only (start h + k.0) (make_gap h k.0 v h_in k.1 k.2)) [
            | inl same ↦ starts_apart h e k.0 i.0 h_in m.e_in not_e k.1 i.1 same
            | inr same ↦ starts_apart h f k.0 j.0 h_in m.f_in not_f k.1 j.1 same
          ])
    ]
  ]

  pub met_from : (e f v : ℕ) → BothMeet e f v → met e v ≡ true
  met_from e f v m = any_from (is_other web.ends walks e v) edges f m.f_in (and_from _ _ (ap not (ne_eqb f e (λ same. m.differ (sym same)))) m.two)

  pub other_meets : (e v : ℕ) → has edges e ≡ true → has (nodes_of e) v ≡ true → met e v ≡ true → BothMeet e (other e v) v
  other_meets e v e_in at_v h =
      let found = first_passing_is (is_other web.ends walks e v) edges h in
      let parts : (not (eqb (other e v) e) ≡ true) × (has (nodes_of (other e v)) v ≡ true) = and_parts _ _ found.1 in
      record { e_in = e_in; f_in = found.0; differ = λ same. eqb-false _ _ (not-true _ parts.0) (sym same); one = at_v; two = parts.1 }

  pub other_is : (e f v : ℕ) → BothMeet e f v → other e v ≡ f
  other_is e f v m =
      let o = other_meets e v m.e_in m.one (met_from e f v m) in
      elim (no_third e f (other e v) v m o.f_in o.two) [ inl same ↦ absurd (o.differ (sym same)) | inr same ↦ same ]

  pub ord_is : (e : ℕ) → has edges e ≡ true → ord e ≡ map (other e) (filter (met e) (nodes_of e))
  ord_is e e_in = cond-true _ _ _ e_in

  pub in_ord : (e f : ℕ) → has (ord e) f ≡ true → (v : ℕ) × BothMeet e f v
  in_ord e f h = elim (cases_Bool (has edges e)) [
    | inr out ↦ let none : ord e ≡ [] = cond-false _ _ _ out in absurd (both_ways false refl (ap (λ xs. has xs f) (sym none) ∙ h))
    | inl e_in ↦
        let v = has-map (other e) (filter (met e) (nodes_of e)) f (ap (λ xs. has xs f) (sym (ord_is e e_in)) ∙ h) in
        let picked = has-picked (met e) (nodes_of e) v.0 v.1 in
        let P : ℕ → Type 0 = λ x. BothMeet e x v.0 in
        (v.0, subst P v.2 (other_meets e v.0 e_in picked.0 picked.1))
  ]

  pub to_ord : (e f v : ℕ) → BothMeet e f v → has (ord e) f ≡ true
  to_ord e f v m =
      let kept = has-kept (met e) (nodes_of e) v m.one (met_from e f v m) in
      let there = has-mapped (other e) (filter (met e) (nodes_of e)) v kept in
      ap (λ xs. has xs f) (ord_is e m.e_in) ∙ subst (λ x. has (map (other e) (filter (met e) (nodes_of e))) x ≡ true) (other_is e f v m) there

  no_repeats : (e : ℕ) → IsDistinct nat_eq (ord e)
  unfolding IsDistinct
  no_repeats e = elim (cases_Bool (has edges e)) [
    | inr out ↦ let none : ord e ≡ [] = cond-false _ _ _ out in subst (λ xs. IsDistinct nat_eq xs) (sym none) tt
    | inl e_in ↦ subst (λ xs. IsDistinct nat_eq xs) (sym (ord_is e e_in)) (distinct-map (other e) (met e) (nodes_of e) (meet.itself e e_in)
        (λ u v u_in v_in u_met v_met same.
        let m = other_meets e u e_in u_in u_met in
        let o = other_meets e v e_in v_in v_met in
        let P : ℕ → Type 0 = λ x. has (nodes_of x) v ≡ true in
        meet.one e (other e u) u v e_in m.f_in m.differ u_in m.two v_in (subst P (sym same) o.two)))
  ]

  pub orders : IsOrders g.ends edges ord
  orders = record {
    edge_list = track.edge_list;
    within = λ e f h. (in_ord e f h).1.e_in;
    no_repeats = no_repeats;
    independent = λ e f h. let m = in_ord e f h in meet.apart e f m.0 m.1.e_in m.1.f_in m.1.differ m.1.one m.1.two;
    both_ways = λ e f h. let m = in_ord e f h in to_ord f e m.0 (turned e f m.0 m.1);
  }

  pub rising : Rising edges
  rising = rising-from_increasing edges track.edge_list.rise

  abbrev pub Cross : ℕ → ℕ → Type 0
  Cross e f = IsCross g.nodes edges rising ord orders.both_ways e f

  pub cross_from : (e f v : ℕ) → BothMeet e f v → Cross e f
  cross_from e f v m = record { e_in = m.e_in; f_in = m.f_in; crosses = to_ord e f v m; differ = m.differ }

  -- the node at which two walks meet
  abbrev pub meeting : ℕ → ℕ → ℕ
  meeting e f = first_passing (has (nodes_of f)) (nodes_of e)

  pub meeting_is : (e f v : ℕ) → BothMeet e f v → meeting e f ≡ v
  meeting_is e f v m =
      let found = first_passing_is (has (nodes_of f)) (nodes_of e) (any_from (has (nodes_of f)) (nodes_of e) v m.one m.two) in
      meet.one e f (meeting e f) v m.e_in m.f_in m.differ found.0 found.1 m.one m.two

  pub meeting_both : (e f : ℕ) → Cross e f → BothMeet e f (meeting e f)
  meeting_both e f c =
      let m = in_ord e f c.crosses in
      let P : ℕ → Type 0 = λ x. BothMeet e f x in
      subst P (sym (meeting_is e f m.0 m.1)) m.1
