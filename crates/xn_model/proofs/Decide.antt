-- A rotation that passes the test is a map.
use Rattle.std.proofs.Common.{◌≡◌, ℕ, zero, suc, ◌*◌, ◌<◌, inl, inr, Bool, true, false, not, ◌&&◌, ◌||◌, eqb, List, [], ◌∷◌, length, refl, sym, ◌∙◌, ap, arith}
use Rattle.std.specs.Prelude.{nat_lt, ◌==◌}
use Rattle.std.specs.List.{list_any}
use Rattle.std.proofs.lemmas.Bool.{both_ways, or_cases, eqb-true, eq-eqb, cases_lt, ltb-true}
use Rattle.xn_model.specs.Permutation.{Reaches, iterate, walk}
use Rattle.xn_model.specs.Graph.{Graph, EndsIn}
use Rattle.xn_model.specs.Map.{IsMap, tail_of}
use Rattle.xn_model.specs.Decide.{each_below, ends_are_in, is_map, turns_well}

and_both : (a b : Bool) → (a && b) ≡ true → (a ≡ true) × (b ≡ true)
and_both true b h = (refl, h)
and_both false b h = absurd (both_ways false refl h)

implied : (a b : Bool) → (not a || b) ≡ true → a ≡ true → b ≡ true
implied true b h a_is = h
implied false b h a_is = absurd (both_ways false refl a_is)

each_at : (p : ℕ → Bool) (n : ℕ) → each_below n p ≡ true → (d : ℕ) → d < n → p d ≡ true
each_at p zero h d low = absurd (omega (arith, low))
each_at p (suc n) h d low =
    let both = and_both (p n) (each_below n p) h in
    elim (cases_lt d n) [ inl less ↦ each_at p n both.1 d less | inr more ↦ let same : n ≡ d = omega (arith, low, more) in ap p (sym same) ∙ both.0 ]

-- one step first, or one step last
pub iterate-step : (f : ℕ → ℕ) (k d : ℕ) → iterate f k (f d) ≡ f (iterate f k d)
iterate-step f zero d = refl
iterate-step f (suc k) d = ap f (iterate-step f k d)

pub length-walk : (f : ℕ → ℕ) (k d : ℕ) → length (walk f k d) ≡ k
length-walk f zero d = refl
length-walk f (suc k) d = ap suc (length-walk f k (f d))

reach : (f : ℕ → ℕ) (n d e : ℕ) → list_any (λ x. x == e) (walk f n d) ≡ true → Reaches f d e
reach f zero d e h = absurd (both_ways false refl h)
reach f (suc n) d e h = elim (or_cases (eqb d e) (list_any (λ x. x == e) (walk f n (f d))) h) [
  | inl here ↦ (0, eqb-true d e here)
  | inr later ↦ let r = reach f n (f d) e later in (suc r.0, sym (iterate-step f r.0 d) ∙ r.1)
]

lt_of : (a b : ℕ) → nat_lt a b ≡ true → a < b
lt_of a b h = ltb-true a b h

in_of_test : (nodes : ℕ) (ends : List (ℕ × ℕ)) → ends_are_in nodes ends ≡ true → EndsIn nodes ends
in_of_test nodes [] h = tt
in_of_test nodes (p ∷ ends) h =
    let first = and_both (nat_lt p.0 nodes) (nat_lt p.1 nodes && ends_are_in nodes ends) h in
    let second = and_both (nat_lt p.1 nodes) (ends_are_in nodes ends) first.1 in
    (lt_of _ _ first.0, lt_of _ _ second.0, in_of_test nodes ends second.1)

pub map_of_test : (web : Graph) (next : ℕ → ℕ) → is_map web next ≡ true → IsMap web.nodes web.ends next
map_of_test web next tested = record {
  ends_in = in_of_test web.nodes web.ends (and_both (ends_are_in web.nodes web.ends) (each_below (2 * length web.ends) (turns_well web.ends next)) tested).0;
  permutes = record {
    below = λ d low. lt_of _ _ (and_both _ _ (at_d d low)).0;
    apart = λ d e d_low e_low same. eqb-true d e (implied _ _ (and_both _ _ (at_both d e d_low e_low)).0 (eq-eqb _ _ same));
  };
  same_node = λ d low. eqb-true _ _ (and_both _ _ (and_both _ _ (at_d d low)).1).0;
  one_ring = λ d e d_low e_low same. reach next _ d e (implied _ _ (and_both _ _ (at_both d e d_low e_low)).1 (eq-eqb _ _ same));
}
  where
    ends : List (ℕ × ℕ)
    ends = web.ends

    h : each_below (2 * length ends) (turns_well ends next) ≡ true
    h = (and_both (ends_are_in web.nodes web.ends) (each_below (2 * length web.ends) (turns_well web.ends next)) tested).1

    at_d : (d : ℕ) → d < 2 * length ends → turns_well ends next d ≡ true
    at_d d low = each_at (turns_well ends next) _ h d low

    at_both : (d e : ℕ) → d < 2 * length ends → e < 2 * length ends → ((not (next d == next e) || d == e) && (not (tail_of ends d == tail_of ends e) || list_any (λ x. x == e) (walk next (2 * length ends) d))) ≡ true
    at_both d e d_low e_low =
        let n = 2 * length ends in
        let p : ℕ → Bool = λ x. (not (next d == next x) || d == x) && (not (tail_of ends d == tail_of ends x) || list_any (λ y. y == x) (walk next n d)) in
        let parts = and_both (nat_lt (next d) n) ((tail_of ends (next d) == tail_of ends d) && each_below n p) (at_d d d_low) in
        let rest = and_both (tail_of ends (next d) == tail_of ends d) (each_below n p) parts.1 in
        each_at p n rest.1 e e_low
