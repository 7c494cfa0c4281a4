-- The map of the first segment.
use Rattle.std.proofs.Common.{◌≡◌, ℕ, ◌+◌, ◌*◌, ◌<◌, inl, inr, false, eqb, List, [], ◌∷◌, length, refl, sym, ◌∙◌, ap, arith}
use Rattle.std.proofs.lemmas.Bool.{both_ways, eqb-true, or_cases}
use Rattle.xn_extend.proofs.Inserted.{new_end}
use Rattle.xn_extend.proofs.Old.{IsGrown}
use Rattle.xn_extend.proofs.Pair.{ArePair-darts}
use Rattle.xn_extend.proofs.Round.{IsMapOn-pair, IsRoundOn-map, IsRoundOn-new, and_dart, dart_of}
use Rattle.xn_extend.proofs.UpTo.{IsFlatUpTo}
use Rattle.xn_genus.proofs.Counts.{no_segments}
use Rattle.xn_genus.proofs.Euler.{cycle_count-reverse, kept-none}
use Rattle.xn_genus.specs.Live.{kept}
use Rattle.xn_model.specs.Graph.{EndsIn, HasNoLoop}
use Rattle.xn_model.specs.Lists.{has}
use Rattle.xn_model.specs.Map.{component_count, is_lone, tail_of}
use Rattle.xn_model.specs.Permutation.{count_below}
use Rattle.xn_ring.proofs.Counting.{count-all}

-- no segment is in
none_is_flat : (nodes : ℕ) (ends : List (ℕ × ℕ)) → IsFlatUpTo nodes ends [] (λ d. d)
none_is_flat nodes ends =
    let nothing = kept-none (has []) ends (λ i i_in. refl) in
    let cycles = cycle_count-reverse (length ends) in
    let lone : count_below nodes (is_lone (kept (has []) ends)) ≡ nodes = ap (λ xs. count_below nodes (is_lone xs)) nothing ∙ count-all nodes in
    let components : component_count nodes (kept (has []) ends) ≡ nodes = ap (component_count nodes) nothing ∙ no_segments nodes in
    record {
      live = has [];
      live_is = λ i. refl;
      map = record {
        permutes = record { below = λ d d_in. d_in; apart = λ d e d_in e_in same. same };
        same_node = λ d d_in. refl;
        dead = λ d d_in h. refl;
        one_ring = λ d e d_in e_in d_live e_live tails. absurd (both_ways false refl d_live);
      };
      flat = omega (arith, cycles, lone, components);
    }

pub IsFlatUpTo-first : (nodes : ℕ) (ends : List (ℕ × ℕ)) → EndsIn nodes ends → HasNoLoop ends → (s : ℕ) → s < length ends → IsFlatUpTo nodes ends (s ∷ []) (λ d. d)
IsFlatUpTo-first nodes ends ends_in no_loop s s_in =
    let d = 2 * s in
    let e = 2 * s + 1 in
    let pair = ArePair-darts ends s s_in (no_loop s s_in) in
    let start = none_is_flat nodes ends in
    let grown : IsGrown ends [] = record { are_in = λ j none. absurd (both_ways false refl none); tied = λ m along. (0, λ v none. absurd (both_ways false refl none)) } in
    let empty = IsRoundOn-map ends start.live [] (λ x. x) start.map start.live_is in
    let one = IsRoundOn-new ends (dart_of []) (λ x. x) empty d (λ x none. absurd (both_ways false refl none)) in
    let two = IsRoundOn-new ends (and_dart d (dart_of [])) (λ x. x) one e (λ x passes same. elim (or_cases (eqb x d) false passes) [
      | inl at_d ↦ pair.two_nodes (ap (tail_of ends) (sym (eqb-true x d at_d)) ∙ same)
      | inr none ↦ both_ways false refl none
    ]) in
    new_end nodes ends ends_in no_loop [] grown s s_in refl (λ x. x) start (λ x. x) (IsMapOn-pair ends [] s d e (λ x. x) pair two) (λ x x_in not_d not_e. inl refl) (inl refl)
