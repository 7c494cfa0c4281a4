-- A cycle as a list of darts is a dart with a path back.
use Rattle.std.proofs.Common.{◌≡◌, ◌≢◌, ℕ, ◌*◌, ◌/◌, ◌<◌, ◌≤◌, ◌⊎◌, inl, inr, eqb, List, [], ◌∷◌, length, refl, sym, ◌∙◌, ap, subst, arith}
use Rattle.std.specs.List.{IsDistinct}
use Rattle.std.proofs.lemmas.Map.Keys.{IsDistinct-tail}
use Rattle.xn_model.specs.Cycles.{AreInOneBlock, IsCycle, ShareCycle, segments_along}
use Rattle.xn_model.specs.Graph.{HasNoLoop}
use Rattle.xn_model.specs.Map.{reverse_of, tail_of}
use Rattle.xn_model.proofs.Darts.{cases_dart, reverse-even, reverse-odd, reverse-reverse, tail-even, tail-odd}
use Rattle.xn_genus.proofs.Compress.{half_reverse}
use Rattle.xn_blocks.proofs.Members.{In, in_here, in_later, in_cases, in_none, distinct_more, first_apart}
use Rattle.xn_blocks.proofs.Paths.{trail, IsPath}
use Rattle.xn_blocks.proofs.Arcs.{Uses, end_apart, head, none_distinct, one_distinct, tails, tails_in, trail_cases}
use Rattle.xn_blocks.proofs.Rounds.{dart_nodes}
use Rattle.xn_blocks.proofs.Step.{IsRound, OnRound}
use Rattle.xn_blocks.proofs.AlongCycles.{rounds_join}

-- ---- darts and segments

-- the darts of one segment are a dart and its reverse
pub half_cases : (e d : ℕ) → e / 2 ≡ d / 2 → (e ≡ d) ⊎ (e ≡ reverse_of d)
half_cases e d same =
    let a = cases_dart e in
    let c = cases_dart d in
    elim a.1 [
      | inl e_even ↦ elim c.1 [
        | inl d_even ↦ inl (omega arith)
        | inr d_odd ↦ inr (omega (arith, ap reverse_of d_odd, reverse-odd c.0))
      ]
      | inr e_odd ↦ elim c.1 [
        | inl d_even ↦ inr (omega (arith, ap reverse_of d_even, reverse-even c.0))
        | inr d_odd ↦ inl (omega arith)
      ]
    ]

pub in_halves : (e : ℕ) (ds : List ℕ) → In e ds → In (e / 2) (segments_along ds)
in_halves e [] there = absurd (in_none e there)
in_halves e (d ∷ ds) there = elim (in_cases e d ds there) [
  | inl here ↦ in_here (e / 2) (d / 2) (segments_along ds) (ap (λ x. x / 2) here)
  | inr later ↦ in_later (e / 2) (d / 2) (segments_along ds) (in_halves e ds later)
]

pub from_halves : (s : ℕ) (ds : List ℕ) → In s (segments_along ds) → (e : ℕ) × In e ds × (e / 2 ≡ s)
from_halves s [] there = absurd (in_none s there)
from_halves s (d ∷ ds) there = elim (in_cases s (d / 2) (segments_along ds) there) [
  | inl here ↦ (d, in_here d d ds refl, sym here)
  | inr later ↦ let rest = from_halves s ds later in (rest.0, in_later rest.0 d ds rest.1, rest.2)
]

-- a list uses the segment of e exactly where the segment is one of its darts'
pub uses_from_halves : (ends : List (ℕ × ℕ)) (e : ℕ) (ds : List ℕ) → In (e / 2) (segments_along ds) → Uses ends e ds
uses_from_halves ends e ds there =
    let found = from_halves (e / 2) ds there in
    let P : ℕ → Type 0 = λ z. In z ds in
    elim (half_cases found.0 e found.2) [
      | inl same ↦ inl (subst P same found.1)
      | inr turned ↦ inr (subst P turned found.1)
    ]

pub halves_from_uses : (ends : List (ℕ × ℕ)) (e : ℕ) (ds : List ℕ) → Uses ends e ds → In (e / 2) (segments_along ds)
halves_from_uses ends e ds used = elim used [
  | inl there ↦ in_halves e ds there
  | inr there ↦ let P : ℕ → Type 0 = λ z. In z (segments_along ds) in subst P (half_reverse e) (in_halves (reverse_of e) ds there)
]

-- no dart of a web without loops ends where it begins
pub no_dart_loops : (ends : List (ℕ × ℕ)) → HasNoLoop ends → (d : ℕ) → d < 2 * length ends → tail_of ends d ≢ head ends d
no_dart_loops ends no_loop d d_in same =
    let c = cases_dart d in
    let s = c.0 in
    elim c.1 [
      | inl even ↦ no_loop s (omega arith) (sym (tail-even ends s) ∙ ap (tail_of ends) (sym even) ∙ same ∙ ap (head ends) even ∙ ap (tail_of ends) (reverse-even s) ∙ tail-odd ends s)
      | inr odd ↦
          no_loop s (omega arith) (sym (tail-even ends s) ∙ ap (tail_of ends) (sym (reverse-odd s)) ∙ ap (head ends) (sym odd) ∙ sym same ∙ ap (tail_of ends) odd ∙ tail-odd ends s)
    ]

module _ (ends : List (ℕ × ℕ)) where
  trail_distinct : (ds : List ℕ) (v : ℕ) → IsDistinct eqb (tails ends ds) → (In v (tails ends ds) → ⊥) → IsDistinct eqb (trail ends ds v)
  trail_distinct [] v distinct free = one_distinct v
  trail_distinct (d ∷ ds) v distinct free =
      let t = tail_of ends d in
      distinct_more t (trail ends ds v) (λ there. elim (trail_cases ends t ds v there) [
        | inl inside ↦ first_apart t (tails ends ds) distinct inside
        | inr last ↦ free (in_here v t (tails ends ds) (sym last))
      ]) (trail_distinct ds v (IsDistinct-tail eqb _ _ distinct) (λ there. free (in_later v t (tails ends ds) there)))

  tails_distinct : (ds : List ℕ) (v : ℕ) → IsDistinct eqb (trail ends ds v) → IsDistinct eqb (tails ends ds)
  tails_distinct [] v distinct = none_distinct
  tails_distinct (d ∷ ds) v distinct =
      let t = tail_of ends d in
      distinct_more t (tails ends ds) (λ there. first_apart t (trail ends ds v) distinct (tails_in ends t ds v there)) (tails_distinct ds v (IsDistinct-tail eqb _ _ distinct))

  -- a path meets no segment twice
  path_segments : (u : ℕ) (ds : List ℕ) (v : ℕ) → IsPath ends u ds v → IsDistinct eqb (segments_along ds)
  path_segments u [] v path = none_distinct
  path_segments u (d ∷ ds) v path =
      let t = tail_of ends d in
      let rest : IsPath ends (head ends d) ds v = record { walks = path.walks.2; distinct = IsDistinct-tail eqb _ _ path.distinct } in
      let free : In t (trail ends ds v) → ⊥ = first_apart t (trail ends ds v) path.distinct in
      let P : ℕ → Type 0 = λ z. In z (trail ends ds v) in
      distinct_more (d / 2) (segments_along ds) (λ there. elim (uses_from_halves ends d ds there) [
        | inl one ↦ free (tails_in ends t ds v (dart_nodes ends (head ends d) ds v d rest.walks one).0)
        | inr two ↦ free (subst P (ap (tail_of ends) (reverse-reverse d)) (dart_nodes ends (head ends d) ds v (reverse_of d) rest.walks two).1)
      ]) (path_segments (head ends d) ds v rest)

module _ (ends : List (ℕ × ℕ)) (no_loops : (d : ℕ) → d < 2 * length ends → tail_of ends d ≢ head ends d) where
  -- the cycle of a list of darts
  pub round_of_cycle : (darts : List ℕ) → IsCycle ends darts → (d : ℕ) × (ds : List ℕ) × (darts ≡ d ∷ ds) × IsRound ends no_loops d ds
  round_of_cycle [] cycle = absurd (omega (arith, cycle.two))
  round_of_cycle (d ∷ ds) cycle =
      let t = tail_of ends d in (
        d,
        ds,
        refl,
        record {
          d_in = cycle.closed.0;
          path = record {
            walks = cycle.closed.2;
            distinct = trail_distinct ends ds t (IsDistinct-tail eqb _ _ cycle.nodes_once) (first_apart t (tails ends ds) cycle.nodes_once);
          };
          free = λ used. first_apart (d / 2) (segments_along ds) cycle.segments_once (halves_from_uses ends d ds used);
        },
      )

  pub cycle_of_round : (d : ℕ) (ds : List ℕ) → IsRound ends no_loops d ds → IsCycle ends (d ∷ ds)
  cycle_of_round d ds round =
      let t = tail_of ends d in
      record {
        two = at_least_two ds round.path;
        closed = (round.d_in, refl, round.path.walks);
        segments_once = distinct_more (d / 2) (segments_along ds) (λ there. round.free (uses_from_halves ends d ds there)) (path_segments ends (head ends d) ds t round.path);
        nodes_once = distinct_more t (tails ends ds) (end_apart ends ds t round.path.distinct) (tails_distinct ends ds t round.path.distinct);
      }
    where
      at_least_two : (es : List ℕ) → IsPath ends (head ends d) es (tail_of ends d) → 2 ≤ length (d ∷ es)
      at_least_two [] path = absurd (no_loops d round.d_in (sym path.walks))
      at_least_two (e ∷ es) path = omega arith

  -- some cycle has the segments of both darts
  pub round_of_shared : (e f : ℕ) → ShareCycle ends (e / 2) (f / 2) → OnRound ends no_loops e f
  round_of_shared e f shared =
      let darts = shared.0 in
      let found = round_of_cycle darts shared.1 in
      let P : List ℕ → Type 0 = λ zs. In (e / 2) (segments_along zs) in
      let Q : List ℕ → Type 0 = λ zs. In (f / 2) (segments_along zs) in
      record {
        first = found.0;
        others = found.1;
        round = found.3;
        has_one = uses_from_halves ends e (found.0 ∷ found.1) (subst P found.2 shared.2);
        has_two = uses_from_halves ends f (found.0 ∷ found.1) (subst Q found.2 shared.3);
      }

  pub shared_of_round : (e f : ℕ) → OnRound ends no_loops e f → ShareCycle ends (e / 2) (f / 2)
  shared_of_round e f on =
      let all = on.first ∷ on.others in
      (all, cycle_of_round on.first on.others on.round, halves_from_uses ends e all on.has_one, halves_from_uses ends f all on.has_two)

  -- a cycle through r and s and one through s and t give one through r and t
  pub shared_join : (r s t : ℕ) → ShareCycle ends r s → ShareCycle ends s t → ShareCycle ends r t
  shared_join r s t one two =
      let half : (x : ℕ) → (2 * x) / 2 ≡ x = λ x. omega arith in
      let from : (x y : ℕ) → ShareCycle ends x y → OnRound ends no_loops (2 * x) (2 * y) = λ x y shared.
      let P : ℕ → Type 0 = λ z. ShareCycle ends z y in
      let Q : ℕ → Type 0 = λ z. ShareCycle ends ((2 * x) / 2) z in
      round_of_shared (2 * x) (2 * y) (subst Q (sym (half y)) (subst P (sym (half x)) shared)) in
      let joined = shared_of_round (2 * r) (2 * t) (rounds_join ends no_loops (2 * r) (2 * s) (2 * t) (from r s one) (from s t two)) in
      let P : ℕ → Type 0 = λ z. ShareCycle ends z ((2 * t) / 2) in
      let Q : ℕ → Type 0 = λ z. ShareCycle ends r z in
      subst Q (half t) (subst P (half r) joined)

pub in_one_block_sym : (ends : List (ℕ × ℕ)) (s t : ℕ) → AreInOneBlock ends s t → AreInOneBlock ends t s
in_one_block_sym ends s t one = elim one [
  | inl same ↦ inl (sym same)
  | inr shared ↦ inr (shared.0, shared.1, shared.3, shared.2)
]

pub in_one_block_trans : (ends : List (ℕ × ℕ)) → HasNoLoop ends → (r s t : ℕ) → AreInOneBlock ends r s → AreInOneBlock ends s t → AreInOneBlock ends r t
in_one_block_trans ends no_loop r s t one two = elim one [
  | inl same ↦ let P : ℕ → Type 0 = λ z. AreInOneBlock ends z t in subst P (sym same) two
  | inr shared ↦ elim two [
    | inl same ↦ let P : ℕ → Type 0 = λ z. AreInOneBlock ends r z in subst P same (inr shared)
    | inr other ↦ inr (shared_join ends (no_dart_loops ends no_loop) r s t shared other)
  ]
]
