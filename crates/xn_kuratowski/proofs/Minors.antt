-- Minors of what is left or comes are minors of the web.
use Rattle.std.proofs.Common.{◌≡◌, ℕ, ◌<◌, inl, inr, true, eqb, List, [], ◌∷◌, ◌++◌, length, map, refl, sym, ◌∙◌, ap, subst, arith, length-append}
use Rattle.std.proofs.lemmas.Bool.{eq-eqb, eqb-true, and_parts, and_from}
use Rattle.xn_model.specs.Graph.{ends_at}
use Rattle.xn_model.specs.Map.{Joined}
use Rattle.xn_model.proofs.ComponentWalks.{joined_sym}
use Rattle.xn_fewer.specs.Flat.{SameEnds, both, called}
use Rattle.xn_fewer.proofs.Lists.{as_called, at_both, at_front, at_last, both-same, called-at, called-other, cases_called, exchanged, exchanged_apart, length-both, lone_ends}
use Rattle.xn_fewer.proofs.Walks.{filter_from, filter_to, joined_ends, joined_over, joined_same, joined_within}
use Rattle.xn_kuratowski.specs.Minor.{Adjoin, HasMinor, IsMinor, inside, is_inside}
use Rattle.xn_kuratowski.proofs.MinorSteps.{MinorsOfAContraction, MinorsOfSomeSegments, MinorsUnderOtherNames, MinorsWithoutANode}

-- ---- segments within a class

pub is_within : (class : ℕ → ℕ) (i : ℕ) (p : ℕ × ℕ) → is_inside class i p ≡ true → (class p.0 ≡ i) × (class p.1 ≡ i)
is_within class i p h =
    let two : (eqb (class p.0) i ≡ true) × (eqb (class p.1) i ≡ true) = and_parts _ _ h in
    (eqb-true _ _ two.0, eqb-true _ _ two.1)

pub joined_inside : (ends : List (ℕ × ℕ)) (class : ℕ → ℕ) (i t : ℕ) → t < length ends → class (ends_at ends t).0 ≡ i → class (ends_at ends t).1 ≡ i →
    Joined (inside class i ends) (ends_at ends t).0 (ends_at ends t).1
joined_inside ends class i t t_in first second =
    let found = filter_from (is_inside class i) ends t t_in (and_from _ _ (eq-eqb _ _ first) (eq-eqb _ _ second)) in
    let P : ℕ × ℕ → Type 0 = λ p. Joined (inside class i ends) p.0 p.1 in
    subst P found.2 (joined_ends (inside class i ends) found.0 found.1)

-- ---- from web to web

-- segment s joins the classes that some segment of the other web joins
abbrev pub IsMatched : List (ℕ × ℕ) → (ℕ → ℕ) → (ℕ → ℕ) → ℕ × ℕ → Type 0
IsMatched ys old new p =
    (t : ℕ) × (t < length ys) × SameEnds (new (ends_at ys t).0, new (ends_at ys t).1) (old p.0, old p.1)

pub minor_over : (xs ys : List (ℕ × ℕ)) (count : ℕ) (pairs : List (ℕ × ℕ)) (old new : ℕ → ℕ) →
    ((i u v : ℕ) → i < count → new u ≡ i → new v ≡ i → Joined (inside new i ys) u v) → ((s : ℕ) → s < length xs → IsMatched ys old new (ends_at xs s)) →
    IsMinor xs count pairs old → IsMinor ys count pairs new
minor_over xs ys count pairs old new joined matched is = record {
  joined = joined;
  adjoin = λ k d k_in. adjoin (is.adjoin k d k_in);
}
  where
    adjoin : {p : ℕ × ℕ} → Adjoin xs old p.0 p.1 → Adjoin ys new p.0 p.1
    adjoin {p} found =
        let there = matched found.0 found.1 in (
          there.0,
          there.1,
          elim found.2 [
            | inl straight ↦ elim there.2 [
              | inl same ↦ inl (same.0 ∙ straight.0, same.1 ∙ straight.1)
              | inr turned ↦ inr (turned.0 ∙ straight.1, turned.1 ∙ straight.0)
            ]
            | inr across ↦ elim there.2 [
              | inl same ↦ inr (same.0 ∙ across.0, same.1 ∙ across.1)
              | inr turned ↦ inl (turned.0 ∙ across.1, turned.1 ∙ across.0)
            ]
          ],
        )

-- each kind of minor goes over
pub has_minor_over : (xs ys : List (ℕ × ℕ)) → ((count : ℕ) (pairs : List (ℕ × ℕ)) (class : ℕ → ℕ) → IsMinor xs count pairs class → (new : ℕ → ℕ) × IsMinor ys count pairs new) →
    HasMinor xs → HasMinor ys
has_minor_over xs ys over (inl five) = inl (over _ _ five.0 five.1)
has_minor_over xs ys over (inr three) = inr (over _ _ three.0 three.1)

-- ---- some segments

-- each segment of the part is one of the web
pub minor_among : (part ends : List (ℕ × ℕ)) → ((s : ℕ) → s < length part → (t : ℕ) × (t < length ends) × SameEnds (ends_at part s) (ends_at ends t)) → HasMinor part → HasMinor ends
minor_among part ends among has =
    has_minor_over part ends (λ count pairs class is. (
      class,
      minor_over part ends count pairs class class
          (λ i u v i_in at_u at_v. joined_within (inside class i part) (inside class i ends) (λ s s_in. segment class i s s_in) u v (is.joined i u v i_in at_u at_v))
          (λ s s_in. let same = among s s_in in (same.0, same.1, matched class (ends_at part s) (ends_at ends same.0) same.2)) is,
    )) has
  where
    matched : (class : ℕ → ℕ) (p q : ℕ × ℕ) → SameEnds p q → SameEnds (class q.0, class q.1) (class p.0, class p.1)
    matched class p q (inl same) = inl (ap class (sym same.0), ap class (sym same.1))
    matched class p q (inr turned) = inr (ap class (sym turned.1), ap class (sym turned.0))

    joined : (class : ℕ → ℕ) (i t : ℕ) (p : ℕ × ℕ) → t < length ends → (class p.0 ≡ i) × (class p.1 ≡ i) → SameEnds p (ends_at ends t) → Joined (inside class i ends) p.0 p.1
    joined class i t p t_in at_i (inl same) =
        let there = joined_inside ends class i t t_in (ap class (sym same.0) ∙ at_i.0) (ap class (sym same.1) ∙ at_i.1) in
        let P : ℕ → Type 0 = λ u. Joined (inside class i ends) u p.1 in
        let Q : ℕ → Type 0 = λ v. Joined (inside class i ends) (ends_at ends t).0 v in
        subst P (sym same.0) (subst Q (sym same.1) there)
    joined class i t p t_in at_i (inr turned) =
        let there = joined_inside ends class i t t_in (ap class (sym turned.1) ∙ at_i.1) (ap class (sym turned.0) ∙ at_i.0) in
        let P : ℕ → Type 0 = λ u. Joined (inside class i ends) u p.0 in
        let Q : ℕ → Type 0 = λ v. Joined (inside class i ends) (ends_at ends t).0 v in
        joined_sym (inside class i ends) p.1 p.0 (subst P (sym turned.1) (subst Q (sym turned.0) there))

    segment : (class : ℕ → ℕ) (i s : ℕ) → s < length (inside class i part) → Joined (inside class i ends) (ends_at (inside class i part) s).0 (ends_at (inside class i part) s).1
    segment class i s s_in =
        let found = filter_to (is_inside class i) part s s_in in
        let same = among found.0 found.1 in
        let P : ℕ × ℕ → Type 0 = λ p. Joined (inside class i ends) p.0 p.1 in
        subst P (sym found.2) (joined class i same.0 (ends_at part found.0) same.1 (is_within class i _ found.3) same.2)

pub minors_of_some : MinorsOfSomeSegments
minors_of_some ends part σ is has = minor_among part ends (λ s s_in. (σ s, is.below s s_in, is.same s s_in)) has

-- ---- other names

-- the web has the names m, and places that have one name are joined
module _ (ends more : List (ℕ × ℕ)) (m : ℕ → ℕ) (kept : (s : ℕ) → s < length ends → (s < length more) × (ends_at more s ≡ ends_at ends s))
    (places : (class : ℕ → ℕ) (i a b : ℕ) → m a ≡ m b → class (m a) ≡ i → Joined (inside (λ v. class (m v)) i more) a b) where
  named_minor : HasMinor (map (both m) ends) → HasMinor more
  named_minor has =
      let xs = map (both m) ends in
      has_minor_over xs more (λ count pairs class is. (
        (λ v. class (m v)),
        minor_over xs more count pairs class (λ v. class (m v))
            (λ i u v i_in at_u at_v.
            let R : ℕ → ℕ → Type 0 = λ w a. (m a ≡ w) × (class w ≡ i) in
            joined_over R (inside class i xs) (inside (λ w. class (m w)) i more) (λ w a b at_a at_b. places class i a b (at_a.0 ∙ sym at_b.0) (ap class at_a.0 ∙ at_a.1))
            (λ s s_in. segment class i s s_in) (m u) (m v) u v (is.joined i (m u) (m v) i_in at_u at_v) (refl, at_u) (refl, at_v))
            (λ s s_in.
            let s_low : s < length ends = omega (arith, s_in, length-both m ends) in
            let there = kept s s_low in
            let name = at_both m ends s s_low in
            (s, there.0, inl (ap (λ p. class (m p.0)) there.1 ∙ ap (λ p. class p.0) (sym name), ap (λ p. class (m p.1)) there.1 ∙ ap (λ p. class p.1) (sym name)))) is,
      )) has
    where
      segment : (class : ℕ → ℕ) (i s : ℕ) → s < length (inside class i (map (both m) ends)) →
          (a : ℕ) × (b : ℕ) × ((m a ≡ (ends_at (inside class i (map (both m) ends)) s).0) × (class (ends_at (inside class i (map (both m) ends)) s).0 ≡ i))
          × ((m b ≡ (ends_at (inside class i (map (both m) ends)) s).1) × (class (ends_at (inside class i (map (both m) ends)) s).1 ≡ i))
          × Joined (inside (λ w. class (m w)) i more) a b
      segment class i s s_in =
          let found = filter_to (is_inside class i) (map (both m) ends) s s_in in
          let r_low : found.0 < length ends = omega (arith, found.1, length-both m ends) in
          let there = kept found.0 r_low in
          let name = at_both m ends found.0 r_low in
          let at_i = is_within class i _ found.3 in
          let first : m (ends_at more found.0).0 ≡ (ends_at (map (both m) ends) found.0).0 = ap (λ p. m p.0) there.1 ∙ ap (λ p. p.0) (sym name) in
          let second : m (ends_at more found.0).1 ≡ (ends_at (map (both m) ends) found.0).1 = ap (λ p. m p.1) there.1 ∙ ap (λ p. p.1) (sym name) in (
            (ends_at more found.0).0,
            (ends_at more found.0).1,
            (first ∙ ap (λ p. p.0) (sym found.2), ap (λ p. class p.0) found.2 ∙ at_i.0),
            (second ∙ ap (λ p. p.1) (sym found.2), ap (λ p. class p.1) found.2 ∙ at_i.1),
            joined_inside more (λ w. class (m w)) i found.0 there.0 (ap class first ∙ at_i.0) (ap class second ∙ at_i.1),
          )

pub minors_under_names : MinorsUnderOtherNames
minors_under_names ends m apart has =
    named_minor ends ends m (λ s s_in. (s_in, refl)) (λ class i a b same at_i. joined_same (inside (λ v. class (m v)) i ends) a b (apart a b same)) has

-- ---- a segment contracted

pub minors_of_contraction : MinorsOfAContraction
minors_of_contraction x y ends other has =
    named_minor ends (ends ++ (x, y) ∷ []) (called x y) (λ s s_in. (omega (arith, s_in, length-append ends ((x, y) ∷ [])), at_front ends ((x, y) ∷ []) s s_in)) places has
  where
    across : (class : ℕ → ℕ) (i : ℕ) → class x ≡ i → Joined (inside (λ v. class (called x y v)) i (ends ++ (x, y) ∷ [])) x y
    across class i at_x =
        let more = ends ++ (x, y) ∷ [] in
        let last = at_last ends (x, y) in
        let P : ℕ × ℕ → Type 0 = λ p. Joined (inside (λ v. class (called x y v)) i more) p.0 p.1 in
        subst P last (joined_inside more (λ v. class (called x y v)) i (length ends) (omega (arith, length-append ends ((x, y) ∷ [])))
        (ap (λ p. class (called x y p.0)) last ∙ ap class (called-other x y x other) ∙ at_x) (ap (λ p. class (called x y p.1)) last ∙ ap class (called-at x y y refl) ∙ at_x))

    places : (class : ℕ → ℕ) (i a b : ℕ) → called x y a ≡ called x y b → class (called x y a) ≡ i → Joined (inside (λ v. class (called x y v)) i (ends ++ (x, y) ∷ [])) a b
    places class i a b same at_i =
        let web = inside (λ v. class (called x y v)) i (ends ++ (x, y) ∷ []) in
        elim (cases_called x y a) [
          | inl here ↦ elim (cases_called x y b) [
            | inl there ↦ joined_same web a b (here.0 ∙ sym there.0)
            | inr there ↦
                let b_is : x ≡ b = sym here.1 ∙ same ∙ there.1 in
                let P : ℕ → Type 0 = λ w. Joined web w b in
                let Q : ℕ → Type 0 = λ w. Joined web y w in
                subst P (sym here.0) (subst Q b_is (joined_sym web x y (across class i (ap class (sym here.1) ∙ at_i))))
          ]
          | inr here ↦ elim (cases_called x y b) [
            | inr there ↦ joined_same web a b (sym here.1 ∙ same ∙ there.1)
            | inl there ↦
                let a_is : a ≡ x = sym here.1 ∙ same ∙ there.1 in
                let P : ℕ → Type 0 = λ w. Joined web w b in
                let Q : ℕ → Type 0 = λ w. Joined web x w in
                subst P (sym a_is) (subst Q (sym there.0) (across class i (ap class (sym a_is ∙ sym here.1) ∙ at_i)))
          ]
        ]

-- ---- a lone node gone

pub minors_without_node : MinorsWithoutANode
minors_without_node rest v ends low alone ends_in has =
    let same = both-same (called v rest) (exchanged v rest) ends (λ s s_in. let no = lone_ends ends v alone s s_in in (as_called v rest _ no.0, as_called v rest _ no.1)) in
    minors_under_names ends (exchanged v rest) (exchanged_apart v rest) (subst HasMinor same has)
