-- Two segments at a node whose far ends are joined without it lie on one cycle, and each dart of a cycle has such a neighbour.
use Rattle.std.proofs.Common.{◌≡◌, ◌≢◌, ℕ, ◌*◌, ◌<◌, inl, inr, List, [], ◌∷◌, ◌++◌, length, refl, sym, ◌∙◌, ap, subst}
use Rattle.std.proofs.lemmas.Bool.{cases_eq}
use Rattle.xn_model.specs.Map.{reverse_of, tail_of}
use Rattle.xn_model.proofs.Darts.{reverse-reverse, reverse_below, reverse_apart}
use Rattle.xn_blocks.proofs.Members.{In, in_here, in_later, in_cases, in_none, in_back, in_parts, distinct_more, first_apart}
use Rattle.xn_blocks.proofs.Paths.{trail, IsPath}
use Rattle.xn_blocks.proofs.Arcs.{head, tails, tails_in, end_apart, rest_path, path_join, path_one, path_none}
use Rattle.xn_blocks.proofs.Rounds.{dart_nodes}
use Rattle.xn_blocks.proofs.Step.{IsRound, OnRound}

-- s and t are darts of two segments at one node, and a path without that node joins their heads
pub record AreNeighbours (ends : List (ℕ × ℕ)) (s t : ℕ) : Type 0 where
  pub s_in : s < 2 * length ends
  pub t_in : t < 2 * length ends
  pub one_node : tail_of ends t ≡ tail_of ends s
  pub differ : t ≢ s
  pub differ_turned : t ≢ reverse_of s
  pub between : List ℕ
  pub way : IsPath ends (head ends t) between (head ends s)
  pub away : In (tail_of ends s) (trail ends between (head ends s)) → ⊥

module _ (ends : List (ℕ × ℕ)) (no_loops : (d : ℕ) → d < 2 * length ends → tail_of ends d ≢ head ends d) where
  -- the last dart of a path
  pub last_dart : (u : ℕ) (ds : List ℕ) (v : ℕ) → IsPath ends u ds v → u ≢ v
      → (fs : List ℕ) × (e : ℕ) × (ds ≡ fs ++ e ∷ []) × IsPath ends u fs (tail_of ends e) × (head ends e ≡ v) × (e < 2 * length ends) × ((y : ℕ) → In y (trail ends fs (tail_of ends e)) → In y (tails ends ds))
  last_dart u [] v path other = absurd (other path.walks)
  last_dart u (d ∷ ds) v path other =
      let t = tail_of ends d in
      elim (cases_eq (head ends d) v) [
        | inl at_v ↦
            let P : ℕ → Type 0 = λ z. IsPath ends z [] t in
            let none : ds ≡ [] = ended ds (rest_path ends u d ds v path) at_v in (
              [],
              d,
              ap (λ zs. d ∷ zs) none,
              subst P path.walks.1 (path_none ends t),
              at_v,
              path.walks.0,
              λ y there. elim (in_cases y t [] there) [ inl here ↦ in_here y t (tails ends ds) here | inr nil ↦ absurd (in_none y nil) ],
            )
        | inr not_v ↦
            let rest = last_dart (head ends d) ds v (rest_path ends u d ds v path) not_v in
            let fs = rest.0 in
            let e = rest.1 in (
              d ∷ fs,
              e,
              ap (λ zs. d ∷ zs) rest.2,
              record {
                walks = (path.walks.0, path.walks.1, rest.3.walks);
                distinct = distinct_more t (trail ends fs (tail_of ends e)) (λ there. first_apart t (trail ends ds v) path.distinct (tails_in ends t ds v (rest.6 t there))) rest.3.distinct;
              },
              rest.4,
              rest.5,
              λ y there. elim (in_cases y t (trail ends fs (tail_of ends e)) there) [
                | inl here ↦ in_here y t (tails ends ds) here
                | inr later ↦ in_later y t (tails ends ds) (rest.6 y later)
              ],
            )
      ]
    where
      -- a path that ends where it begins is empty
      ended : (zs : List ℕ) → IsPath ends (head ends d) zs v → head ends d ≡ v → zs ≡ []
      ended [] walk same = refl
      ended (z ∷ zs) walk same =
          let P : ℕ → Type 0 = λ x. In x (tails ends (z ∷ zs)) in
          absurd (end_apart ends (z ∷ zs) v walk.distinct (subst P (walk.walks.1 ∙ same) (in_here (tail_of ends z) (tail_of ends z) (tails ends zs) refl)))

  -- neighbours lie on one cycle
  pub round_of_neighbours : (s t : ℕ) → AreNeighbours ends s t → OnRound ends no_loops s t
  round_of_neighbours s t near =
      let w = tail_of ends s in
      let q = reverse_of s in
      let qs = near.between in
      let q_in = reverse_below (length ends) s near.s_in in
      let turned : head ends q ≡ w = ap (tail_of ends) (reverse-reverse s) in
      let last : IsPath ends (head ends s) (q ∷ []) w = let P : ℕ → Type 0 = λ z. IsPath ends (head ends s) (q ∷ []) z in subst P turned (path_one ends q q_in (no_loops q q_in)) in
      let whole = path_join ends (head ends t) qs (head ends s) (q ∷ []) w near.way last (λ y front back. elim (in_cases y (head ends s) (w ∷ []) back) [
        | inl at_head ↦ let P : ℕ → Type 0 = λ z. In z (tails ends qs) in end_apart ends qs (head ends s) near.way.distinct (subst P at_head front)
        | inr later ↦ elim (in_cases y w [] later) [
          | inl at_w ↦ let P : ℕ → Type 0 = λ z. In z (trail ends qs (head ends s)) in near.away (subst P at_w (tails_in ends y qs (head ends s) front))
          | inr none ↦ in_none y none
        ]
      ]) in
      let P : ℕ → Type 0 = λ z. IsPath ends (head ends t) (qs ++ q ∷ []) z in
      let Q : ℕ → Type 0 = λ z. In z (trail ends qs (head ends s)) in
      record {
        first = t;
        others = qs ++ q ∷ [];
        round = record {
          d_in = near.t_in;
          path = subst P (sym near.one_node) whole;
          free = λ used. elim used [
            | inl there ↦ elim (in_parts t qs (q ∷ []) there) [
              | inl front ↦ near.away (subst Q near.one_node (tails_in ends (tail_of ends t) qs (head ends s) (dart_nodes ends (head ends t) qs (head ends s) t near.way.walks front).0))
              | inr back ↦ elim (in_cases t q [] back) [ inl same ↦ near.differ_turned same | inr none ↦ in_none t none ]
            ]
            | inr there ↦ elim (in_parts (reverse_of t) qs (q ∷ []) there) [
              | inl front ↦
                  let home : head ends (reverse_of t) ≡ w = ap (tail_of ends) (reverse-reverse t) ∙ near.one_node in
                  near.away (subst Q home (dart_nodes ends (head ends t) qs (head ends s) (reverse_of t) near.way.walks front).1)
              | inr back ↦ elim (in_cases (reverse_of t) q [] back) [ inl same ↦ near.differ (reverse_apart t s same) | inr none ↦ in_none (reverse_of t) none ]
            ]
          ];
        };
        has_one = inr (in_later q t (qs ++ q ∷ []) (in_back q qs (q ∷ []) (in_here q q [] refl)));
        has_two = inl (in_here t t (qs ++ q ∷ []) refl);
      }

  -- the dart before t on a cycle, turned, is a neighbour of t
  pub neighbour_before : (t : ℕ) (ds : List ℕ) → IsRound ends no_loops t ds → (s : ℕ) × AreNeighbours ends s t × (fs : List ℕ) × (ds ≡ fs ++ reverse_of s ∷ [])
  neighbour_before t ds round =
      let last = last_dart (head ends t) ds (tail_of ends t) round.path (λ e. no_loops t round.d_in (sym e)) in
      let fs = last.0 in
      let e = last.1 in
      let s = reverse_of e in
      let back : reverse_of s ≡ e = reverse-reverse e in
      let e_on : In e ds = let P : List ℕ → Type 0 = λ zs. In e zs in subst P (sym last.2) (in_back e fs (e ∷ []) (in_here e e [] refl)) in
      let In_ds : ℕ → Type 0 = λ z. In z ds in
      let far : tail_of ends e ≡ head ends s = ap (tail_of ends) (sym back) in
      let P : ℕ → Type 0 = λ z. IsPath ends (head ends t) fs z in (
        s,
        record {
          s_in = reverse_below (length ends) e last.5;
          t_in = round.d_in;
          one_node = sym last.4;
          differ = λ same. round.free (inr (subst In_ds (sym back ∙ ap reverse_of (sym same)) e_on));
          differ_turned = λ same. round.free (inl (subst In_ds (sym (same ∙ back)) e_on));
          between = fs;
          way = subst P far last.3;
          away = λ there.
              let Q : ℕ → Type 0 = λ z. In (tail_of ends s) (trail ends fs z) in
              let R : ℕ → Type 0 = λ z. In z (tails ends ds) in
              end_apart ends ds (tail_of ends t) round.path.distinct (subst R last.4 (last.6 (tail_of ends s) (subst Q (sym far) there)));
        },
        fs,
        (let R : ℕ → Type 0 = λ z. ds ≡ fs ++ z ∷ [] in subst R (sym back) last.2),
      )
