-- The next listed dart round a node.
use Rattle.std.proofs.Common.{◌≡◌, ◌≢◌, ℕ, zero, suc, ◌+◌, ◌*◌, ◌<◌, inl, inr, true, false, eqb, ltb, ◌&&◌, List, [], ◌∷◌, ◌++◌, length, refl, sym, ◌∙◌, ap, subst, arith, length-append}
use Rattle.std.proofs.lemmas.Bool.{and_from, and_parts, both_ways, cases_eq, eq-eqb, eqb-true, lt-ltb, ltb-true}
use Rattle.std.proofs.lemmas.List.{get_or_append_left}
use Rattle.std.proofs.Math.Seq.{get_or-append_seam}
use Rattle.xn_model.specs.Lists.{at, has, position_in}
use Rattle.xn_model.specs.Map.{tail_of}
use Rattle.xn_model.specs.Permutation.{Permutes, iterate, walk}
use Rattle.xn_model.proofs.Has.{has-at, place_of}
use Rattle.xn_model.proofs.Tests.{same_tests}
use Rattle.xn_genus.specs.Part.{ComesFirst, PassesOver}
use Rattle.xn_map.specs.Listed.{IsListedMap, ListedMap}
use Rattle.xn_map.proofs.Arcs.{nearer}
use Rattle.xn_simple.specs.Turning.{AreStarts, HoldPlaces, TurnsAlong}

-- a dart is listed where it stands at its noted place
pub listed_is : (starts places : List ℕ) (d : ℕ) → HoldPlaces starts places → (ltb (at places d) (length starts) && eqb (at starts (at places d)) d) ≡ has starts d
listed_is starts places d held = same_tests (ltb (at places d) (length starts) && eqb (at starts (at places d)) d) (has starts d)
    (λ h.
    let parts : (ltb (at places d) (length starts) ≡ true) × (eqb (at starts (at places d)) d ≡ true) = and_parts _ _ h in
    subst (λ x. has starts x ≡ true) (eqb-true _ _ parts.1) (has-at starts (at places d) (ltb-true _ _ parts.0)))
    (λ h.
    let p = place_of starts d h in
    let at_it : at places d ≡ p.0 = ap (at places) (sym p.2) ∙ held p.0 p.1 in
    and_from _ _ (lt-ltb _ _ (let low = p.1 in omega (arith, low, at_it))) (eq-eqb _ _ (ap (at starts) at_it ∙ p.2)))

-- one that is not listed is none of them
pub not_listed : (starts : List ℕ) (e : ℕ) → has starts e ≡ false → (j : ℕ) → j < length starts → e ≢ at starts j
not_listed starts e out j j_in same = both_ways _ out (ap (has starts) same ∙ has-at starts j j_in)

-- ---- on the way round a node

-- the walk from d came to e, and met no listed dart before
pub record IsOnTheWay (m : ListedMap) (starts : List ℕ) (d e : ℕ) : Type 0 where
  pub dart : e < length m.next
  pub tail : tail_of m.web.ends e ≡ tail_of m.web.ends d
  pub steps : ℕ
  pub there : e ≡ iterate (at m.next) (suc steps) d
  pub between : (i j : ℕ) → i < steps → j < length starts → iterate (at m.next) (suc i) d ≢ at starts j

module _ (m : ListedMap) (is : IsListedMap m) (starts : List ℕ) (d : ℕ) (d_in : d < length m.next) where
  in_web : (e : ℕ) → e < length m.next → e < 2 * length m.web.ends
  in_web e e_in = let fits = is.fits in omega (arith, e_in, fits)

  pub way_begins : (e : ℕ) → e ≡ at m.next d → e < length m.next → IsOnTheWay m starts d e
  way_begins e e_is e_in = record {
    dart = e_in;
    tail = ap (tail_of m.web.ends) e_is ∙ is.is_map.same_node d (in_web d d_in);
    steps = 0;
    there = e_is;
    between = λ i j i_in j_in. absurd (omega (arith, i_in));
  }

  pub way_on : (e f : ℕ) → IsOnTheWay m starts d e → has starts e ≡ false → f ≡ at m.next e → f < length m.next → IsOnTheWay m starts d f
  way_on e f way out f_is f_in = record {
    dart = f_in;
    tail = ap (tail_of m.web.ends) f_is ∙ is.is_map.same_node e (in_web e way.dart) ∙ way.tail;
    steps = suc way.steps;
    there = f_is ∙ ap (at m.next) way.there;
    between = λ i j i_in j_in same. elim (cases_eq i way.steps) [
      | inl last ↦ not_listed starts e out j j_in (way.there ∙ ap (λ k. iterate (at m.next) (suc k) d) (sym last) ∙ same)
      | inr before ↦ way.between i j (omega (arith, i_in, before)) j_in same
    ];
  }

  -- each step comes nearer to d
  pub way_nearer : (e f : ℕ) → has starts d ≡ true → IsOnTheWay m starts d e → has starts e ≡ false → f ≡ at m.next e →
      position_in (walk (at m.next) (length m.next) f) d < position_in (walk (at m.next) (length m.next) e) d
  way_nearer e f listed way out f_is =
      let n = length m.next in
      let P : ℕ → Type 0 = λ k. Permutes k (at m.next) in
      let Q : ℕ → Type 0 = λ x. position_in (walk (at m.next) n x) d < position_in (walk (at m.next) n e) d in
      let back = is.is_map.one_ring e d (in_web e way.dart) (in_web d d_in) way.tail in
      subst Q (sym f_is)
      (nearer n (at m.next) (subst P (sym is.fits) is.is_map.permutes) e d way.dart back (λ same. both_ways _ out (ap (has starts) same ∙ listed)))

  -- and a listed dart is the first
  pub way_ends : (places : List ℕ) (e : ℕ) → HoldPlaces starts places → IsOnTheWay m starts d e → has starts e ≡ true →
      (at places e < length starts) × ComesFirst (length starts) (at starts) (at m.next) d (at starts (at places e))
  way_ends places e held way listed =
      let p = place_of starts e listed in
      let place : at places e ≡ p.0 = ap (at places) (sym p.2) ∙ held p.0 p.1 in (
        let low = p.1 in omega (arith, low, place),
        record {
          steps = way.steps;
          there = sym way.there ∙ sym p.2 ∙ ap (at starts) (sym place);
          between = way.between;
        },
      )

-- the turns of the first darts pass over all others
pub record OverFirst (next : ℕ → ℕ) (starts turns : List ℕ) (d : ℕ) : Type 0 where
  pub size : length turns ≡ d
  pub below : (x : ℕ) → x < d → at turns x < length starts
  pub first : (x : ℕ) → x < d → ComesFirst (length starts) (at starts) next (at starts x) (at starts (at turns x))

pub over-more : (next : ℕ → ℕ) (starts turns : List ℕ) (d y : ℕ) → y < length starts → ComesFirst (length starts) (at starts) next (at starts d) (at starts y) →
    OverFirst next starts turns d → OverFirst next starts (turns ++ y ∷ []) (d + 1)
over-more next starts turns d y y_in here old =
    let size = old.size in
    let new = turns ++ y ∷ [] in
    let last : at new d ≡ y = ap (at new) (sym size) ∙ get_or-append_seam turns y [] 0 in
    let before : (x : ℕ) → x < d → at new x ≡ at turns x = λ x low. get_or_append_left turns (y ∷ []) 0 x (omega (arith, low, size)) in
    let F : ℕ → ℕ → Type 0 = λ x z. ComesFirst (length starts) (at starts) next (at starts x) (at starts z) in
    record {
      size = let sum = length-append turns (y ∷ []) in omega (arith, sum, size);
      below = λ x low. elim (cases_eq x d) [
        | inl is ↦ let at_x = ap (at new) is ∙ last in omega (arith, at_x, y_in)
        | inr other ↦ let at_x = before x (omega (arith, low, other)) in let fact = old.below x (omega (arith, low, other)) in omega (arith, at_x, fact)
      ];
      first = λ x low. elim (cases_eq x d) [
        | inl is ↦ subst (λ z. F x z) (sym (ap (at new) is ∙ last)) (subst (λ z. F z y) (sym is) here)
        | inr other ↦ subst (λ z. F x z) (sym (before x (omega (arith, low, other)))) (old.first x (omega (arith, low, other)))
      ];
    }

pub passes_over_all : (next : ℕ → ℕ) (starts turns : List ℕ) (d : ℕ) → d ≡ length starts → OverFirst next starts turns d → PassesOver (length starts) (at starts) next (at turns)
passes_over_all next starts turns d whole over = record {
  below = λ x low. over.below x (omega (arith, low, whole));
  first = λ x low. over.first x (omega (arith, low, whole));
}

-- where after each comes one of them none is passed over
pub along_closed : (count : ℕ) (next : ℕ → ℕ) (starts turns : List ℕ) → AreStarts count next starts → length turns ≡ length starts →
    PassesOver (length starts) (at starts) next (at turns) → TurnsAlong next starts turns
along_closed count next starts turns are size over = record {
  size = size;
  below = over.below;
  leads = λ x low. to x low (over.first x low).steps refl;
}
  where
    to : (x : ℕ) (low : x < length starts) (k : ℕ) → (over.first x low).steps ≡ k → at starts (at turns x) ≡ next (at starts x)
    to x low zero is = sym (ap (λ n. iterate next (suc n) (at starts x)) (sym is) ∙ (over.first x low).there)
    to x low (suc k) is =
        let y = are.closed x low in
        absurd ((over.first x low).between 0 y.0 (omega (arith, is)) y.1 (sym y.2))
