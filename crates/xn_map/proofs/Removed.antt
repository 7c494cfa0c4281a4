-- What remove_edge leaves.
use Rattle.std.proofs.Common.{◌≡◌, ◌≢◌, ℕ, suc, ◌+◌, ◌-◌, ◌*◌, ◌/◌, ◌<◌, inl, inr, cond, eqb, List, length, refl, sym, ◌∙◌, ap, subst, arith, take}
use Rattle.std.specs.List.{swap_remove}
use Rattle.std.proofs.lemmas.Bool.{cases_eq}
use Rattle.std.proofs.lemmas.List.{get_or-take, length-take-le}
use Rattle.xn_model.specs.Graph.{Graph, ends_at}
use Rattle.xn_model.specs.Lists.{at}
use Rattle.xn_model.specs.Map.{IsMap, reverse_of, tail_of}
use Rattle.xn_model.specs.Permutation.{Permutes, Reaches, without}
use Rattle.xn_graph.specs.Limits.{graph_of}
use Rattle.xn_genus.specs.Deletion.{IsDeletion, dart_before}
use Rattle.xn_genus.specs.Live.{without_segment}
use Rattle.xn_model.proofs.Darts.{reverse_other}
use Rattle.xn_map.specs.Anchored.{IsDartOf, OutlastsAt}
use Rattle.xn_map.specs.Changes.{Deletes, IsFilled, IsOut, TakesDartOut}
use Rattle.xn_map.specs.Listed.{IsListedMap, ListedMap, map_of}
use Rattle.xn_ring.proofs.Agreeing.{Permutes-agrees}
use Rattle.xn_ring.proofs.Without.{Permutes-without, without-at, without-other}
use Rattle.xn_genus.proofs.Delete.{map_left}
use Rattle.xn_graph.proofs.Ends.{ends_at-swap_remove, length-swap_remove}
use Rattle.xn_surgery.proofs.Insert.{without-agree}
use Rattle.xn_genus.proofs.Compress.{half_reverse}
use Rattle.xn_map.proofs.Fill.{dart_before_in}
use Rattle.xn_map.proofs.Passing.{ring_of_two, sides}

module _ (m : ListedMap) (listed : IsListedMap m) (s last : ℕ) (s_in : s < length m.web.ends) (last_is : suc last ≡ length m.web.ends)
    (once twice : List ℕ) (one : TakesDartOut (2 * s) m.next once) (two : TakesDartOut (2 * s + 1) once twice) where
  abbrev n : ℕ
  n = 2 * length m.web.ends

  first_in : 2 * s < n
  first_in = omega (arith, s_in)

  second_in : 2 * s + 1 < n
  second_in = omega (arith, s_in)

  once_is : (d : ℕ) → d < n → at once d ≡ without (2 * s) (at m.next) d
  once_is d d_in = one.1 d (omega (arith, d_in, listed.fits))

  pub twice_is : (d : ℕ) → d < n → at twice d ≡ without_segment s (at m.next) d
  twice_is d d_in =
      two.1 d (omega (arith, d_in, listed.fits, one.0))
      ∙ without-agree (2 * s + 1) (without (2 * s) (at m.next)) (at once) d (once_is d d_in) (once_is (2 * s + 1) second_in)

  pub is_out : IsOut s last twice
  is_out =
      let size : length twice ≡ n = two.0 ∙ one.0 ∙ listed.fits in
      let P : ℕ → Type 0 = λ k. Permutes k (at twice) in
      let once_first : without (2 * s) (at m.next) (2 * s) ≡ 2 * s = without-at (2 * s) (at m.next) in
      let first = Permutes-without n (2 * s) (at m.next) listed.is_map.permutes first_in in
      let second = Permutes-without n (2 * s + 1) (without (2 * s) (at m.next)) first second_in in
      record {
        is_there = omega (arith, s_in, last_is);
        size = omega (arith, size, last_is);
        permutes = subst P (sym size) (Permutes-agrees n (without_segment s (at m.next)) (at twice) second twice_is);
        first_alone = twice_is (2 * s) first_in
            ∙ without-other (2 * s + 1) (without (2 * s) (at m.next)) (2 * s) (λ same. omega (arith, same)) (λ same. omega (arith, same, once_first)) ∙ once_first;
        second_alone = twice_is (2 * s + 1) second_in ∙ without-at (2 * s + 1) (without (2 * s) (at m.next));
      }

  module _ (filled next : List ℕ) (fill : IsFilled s last twice filled) (next_is : next ≡ take (length filled - 2) filled)
      (web : Graph) (web_is : web ≡ graph_of m.web.nodes (swap_remove m.web.ends s (0, 0))) where
    left_is : last ≡ length web.ends
    left_is = let left = ap (λ w. length w.ends) web_is ∙ length-swap_remove m.web.ends s (0, 0) in omega (arith, left, last_is)

    filled_size : length filled ≡ 2 * last + 2
    filled_size = fill.same_length ∙ is_out.size

    next_at : (d : ℕ) → d < 2 * last → at next d ≡ at filled d
    next_at d d_in = ap (λ xs. at xs d) next_is ∙ get_or-take (length filled - 2) filled d 0 (omega (arith, d_in, filled_size))

    before_in : (d : ℕ) → d < 2 * last → dart_before s last d < n
    before_in d d_in = let low = dart_before_in s last d d_in in omega (arith, low, last_is)

    deletion : IsDeletion m.web.ends (at m.next) s web.ends (at next)
    deletion = record {
      is_there = s_in;
      fewer = omega (arith, left_is, last_is);
      ends_left = λ i i_in.
          let low : i < length m.web.ends - 1 = omega (arith, i_in, left_is, last_is) in
          let top : length m.web.ends - 1 ≡ length web.ends = omega (arith, left_is, last_is) in
          ap (λ w. ends_at w.ends i) web_is ∙ ends_at-swap_remove m.web.ends s s_in i low ∙ ap (λ k. ends_at m.web.ends (cond (eqb i s) k i)) top;
      below = λ d d_in. let small = fill.below d (omega (arith, d_in, left_is)) in omega (arith, next_at d (omega (arith, d_in, left_is)), small, left_is);
      turns = λ d d_in.
          let d_low : d < 2 * last = omega (arith, d_in, left_is) in
          let P : ℕ → Type 0 = λ k. dart_before s k (at next d) ≡ without_segment s (at m.next) (dart_before s k d) in
          subst P left_is (ap (dart_before s last) (next_at d d_low) ∙ fill.turns d d_low ∙ twice_is (dart_before s last d) (before_in d d_low));
    }

    pub deletes : Deletes m s (map_of web next)
    deletes = (ap (λ w. w.nodes) web_is, deletion)

    pub removed_listed : IsListedMap (map_of web next)
    removed_listed =
        let P : ℕ → Type 0 = λ k. IsMap k web.ends (at next) in
        record {
          fits = ap length next_is ∙ length-take-le (length filled - 2) filled (omega (arith, filled_size)) ∙ omega (arith, filled_size, left_is);
          is_map = subst P (sym (ap (λ w. w.nodes) web_is)) (map_left m.web.nodes s m.web.ends web.ends (at m.next) (at next) listed.is_map deletion);
        }

-- the dart after d, or after its reverse, outlasts the segment of d where any dart does
module _ (m : ListedMap) (listed : IsListedMap m) (d : ℕ) (d_in : d < length m.next) where
  d_low : d < 2 * length m.web.ends
  d_low = omega (arith, d_in, listed.fits)

  mates : (x : ℕ) → IsDartOf m.web.ends (tail_of m.web.ends d) x → Reaches (at m.next) d x
  mates x is = listed.is_map.one_ring d x d_low is.0 (sym is.1)

  pub outlasts_near : at m.next d ≢ reverse_of d → OutlastsAt m.web.ends (d / 2) d (at m.next d)
  outlasts_near other = elim (cases_eq (at m.next d / 2) (d / 2)) [
    | inl half ↦ elim (sides d (at m.next d) half) [
      | inl alone ↦ inr (λ x is.
          let walk = mates x is in
          elim (ring_of_two (at m.next) d d alone alone walk.0) [ inl one ↦ ap (λ z. z / 2) (sym walk.1 ∙ one) | inr two ↦ ap (λ z. z / 2) (sym walk.1 ∙ two) ])
      | inr turned ↦ absurd (other turned)
    ]
    | inr away ↦ inl ((listed.is_map.permutes.below d d_low, listed.is_map.same_node d d_low), away)
  ]

  pub outlasts_far : at m.next d ≡ reverse_of d → OutlastsAt m.web.ends (d / 2) d (at m.next (at m.next d))
  outlasts_far turned =
      let f = at m.next in
      let next_in = listed.is_map.permutes.below d d_low in
      elim (cases_eq (f (f d) / 2) (d / 2)) [
        | inl half ↦ elim (sides d (f (f d)) half) [
          | inl back ↦ inr (λ x is.
              let walk = mates x is in
              elim (ring_of_two f d (f d) refl back walk.0) [
                | inl one ↦ ap (λ z. z / 2) (sym walk.1 ∙ one)
                | inr two ↦ ap (λ z. z / 2) (sym walk.1 ∙ two ∙ turned) ∙ half_reverse d
              ])
          | inr twice ↦
              let same : d ≡ f d = listed.is_map.permutes.apart d (f d) d_low next_in (turned ∙ sym twice) in
              absurd (reverse_other d (sym turned ∙ sym same))
        ]
        | inr away ↦ inl ((listed.is_map.permutes.below (f d) next_in, listed.is_map.same_node (f d) next_in ∙ listed.is_map.same_node d d_low), away)
      ]
