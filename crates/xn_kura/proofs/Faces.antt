-- Each face of a subdivision meets three branch nodes, and four where the pairs go from one side to the other.
use Rattle.std.proofs.Common.{◌≡◌, ◌≢◌, ℕ, zero, suc, ◌+◌, ◌*◌, ◌/◌, ◌<◌, ◌≤◌, ◌⊎◌, inl, inr, Bool, true, false, not, ◌&&◌, eqb, List, [], ◌∷◌, ◌++◌, length, refl, sym, ◌∙◌, ap, subst, arith, length-append}
use Rattle.std.specs.List.{IsDistinct, concat}
use Rattle.std.specs.Prelude.{slice_index}
use Rattle.std.proofs.lemmas.List.Elements.{All-from_recursion}
use Rattle.std.proofs.lemmas.Bool.{cases_eq, both_ways, and_from, and_parts, or_left, or_right, eq-eqb, ne_eqb, false_from_ne_true}
use Rattle.xn_model.specs.Evidence.{LeadAll, LeadsTo, all_inner, far_end, inner_nodes}
use Rattle.xn_model.specs.Graph.{ends_at}
use Rattle.xn_model.specs.Lists.{has, one_if}
use Rattle.xn_model.specs.Map.{face_step, reverse_of, tail_of}
use Rattle.xn_model.specs.Permutation.{Reaches, count_below}
use Rattle.xn_model.proofs.Darts.{reverse-reverse}
use Rattle.xn_ring.proofs.Orbits.{reaches_step, reaches_trans}
use Rattle.xn_ring.specs.Parts.{HoldsMarks}
use Rattle.xn_genus.specs.Live.{IsMapOn}
use Rattle.xn_model.proofs.Has.{has-at, has-left, has-right}
use Rattle.xn_kura.proofs.Distinct.{distinct-apart, distinct-count, distinct-left, distinct-right, positions_apart}
use Rattle.xn_kura.proofs.Pairs.{ArePairs}
use Rattle.xn_kura.proofs.Path.{comes, dart_cases, dart_on, from_any, goes, last_of, last_tail, out_facts, start_of}
use Rattle.xn_kura.proofs.Tally.{count-le_count_if, count-le_cover, count_if}
use Rattle.xn_kura.proofs.Turns.{next_live, next_moves, turns_along}
use Rattle.xn_kura.proofs.UsedPaths.{all_darts, count_all, has-all_darts, has-concat, inner_at, lead_at, one_path, path_distinct, path_of}
use Rattle.xn_kura.specs.Flaws.{path_at}

module _ (ends : List (ℕ × ℕ)) (branch : List ℕ) (pairs : List (ℕ × ℕ)) (paths : List (List ℕ)) (are : ArePairs (length branch) pairs)
    (lead : LeadAll ends branch pairs paths) (once : IsDistinct eqb (concat paths)) (nodes_once : IsDistinct eqb (branch ++ all_inner ends branch pairs paths))
    (next : ℕ → ℕ) (map : IsMapOn ends (has (concat paths)) next) where
  abbrev b : ℕ → ℕ
  b i = slice_index branch i

  abbrev n : ℕ
  n = 2 * length ends

  abbrev live : ℕ → Bool
  live s = has (concat paths) s

  abbrev J : ℕ → ℕ × ℕ
  J q = ends_at pairs q

  abbrev face : ℕ → ℕ
  face = face_step next

  few_at_inner : (w : ℕ) → has (all_inner ends branch pairs paths) w ≡ true → count_below n (λ z. live (z / 2) && eqb (tail_of ends z) w) ≤ 2
  few_at_inner w inner =
      let no_branch : has branch w ≡ false = false_from_ne_true _ (λ t. distinct-apart branch _ nodes_once w t inner) in
      let cover = count-le_count_if n (λ z. live (z / 2) && eqb (tail_of ends z) w) (all_darts ends branch pairs paths) (λ z z_in t. has-all_darts ends branch pairs paths lead z (and_left_part _ _ t)) in
      let fewer = count_if-le (λ z. live (z / 2)) (λ z. eqb (tail_of ends z) w) (all_darts ends branch pairs paths) in
      let all = count_all ends branch w no_branch pairs paths are.inside lead in
      let one = distinct-count (all_inner ends branch pairs paths) w (distinct-right branch _ nodes_once) in
      omega (arith, cover, fewer, all, one)
    where
      and_left_part : (x y : Bool) → (x && y) ≡ true → x ≡ true
      and_left_part true y h = refl
      and_left_part false y h = h

      count_if-le : (p q : ℕ → Bool) (xs : List ℕ) → count_if (λ z. p z && q z) xs ≤ count_if q xs
      count_if-le p q [] = omega arith
      count_if-le p q (x ∷ xs) =
          let top : one_if (p x && q x) ≤ one_if (q x) = bits (p x) (q x) in
          omega (arith, top, count_if-le p q xs)
        where
          bits : (x y : Bool) → one_if (x && y) ≤ one_if y
          bits true y = omega arith
          bits false y = omega arith

  b_apart : (i j : ℕ) → i < length branch → j < length branch → b i ≡ b j → i ≡ j
  b_apart = positions_apart branch (distinct-left branch _ nodes_once)

  -- a live dart of a path at branch node v
  record IsEnd (path : List ℕ) (e v : ℕ) : Type 0 where
    below : e < n
    segment : has path (e / 2) ≡ true
    at : tail_of ends e ≡ b v

  -- what a path from branch node i to branch node j does in the map
  record Strand (i j : ℕ) (path : List ℕ) : Type 0 where
    first : IsEnd path (start_of ends (b i) path) i
    last : IsEnd path (reverse_of (last_of ends (b i) path)) j
    there : Reaches face (start_of ends (b i) path) (last_of ends (b i) path)
    back : Reaches face (reverse_of (last_of ends (b i) path)) (reverse_of (start_of ends (b i) path))
    any : (z : ℕ) → has path (z / 2) ≡ true → Reaches face z (last_of ends (b i) path) ⊎ Reaches face z (reverse_of (start_of ends (b i) path))
    cases : (z : ℕ) → has path (z / 2) ≡ true → (z ≡ start_of ends (b i) path) ⊎ ((z ≡ reverse_of (last_of ends (b i) path)) ⊎ (has (inner_nodes ends (b i) path) (tail_of ends z) ≡ true))

  -- the last dart of a path, and its segment
  last_facts : (u v s : ℕ) (path : List ℕ) → LeadsTo ends u (s ∷ path) v →
      (reverse_of (last_of ends u (s ∷ path)) < n) × (has (s ∷ path) (reverse_of (last_of ends u (s ∷ path)) / 2) ≡ true)
  last_facts u v s [] leads =
      let facts = out_facts ends u s leads.1 in
      (omega (arith, facts.5, leads.0), or_left _ _ (eq-eqb _ _ (sym facts.3)))
  last_facts u v s (t ∷ path) leads =
      let rest = last_facts (far_end (ends_at ends s) u) v t path leads.2 in
      (rest.0, or_right (eqb s (reverse_of (last_of ends (far_end (ends_at ends s) u) (t ∷ path)) / 2)) _ rest.1)

  strand_of : (i j : ℕ) (path : List ℕ) → LeadsTo ends (b i) path (b j) → b i ≢ b j → IsDistinct eqb path → ((t : ℕ) → has path t ≡ true → live t ≡ true) →
      ((w : ℕ) → has (inner_nodes ends (b i) path) w ≡ true → has (all_inner ends branch pairs paths) w ≡ true) → Strand i j path
  strand_of i j [] leads differ distinct lives inner = absurd (differ leads)
  strand_of i j (s ∷ path) leads differ distinct lives inner =
      let facts = out_facts ends (b i) s leads.1 in
      let turns = turns_along ends live next map (b i) (b j) s path leads distinct lives (λ w w_in. few_at_inner w (inner w w_in)) in
      let end = last_facts (b i) (b j) s path leads in
      record {
        first = record { below = omega (arith, facts.4, leads.0); segment = or_left _ _ (eq-eqb _ _ (sym facts.2)); at = facts.0 };
        last = record { below = end.0; segment = end.1; at = last_tail ends (b i) (b j) s path leads };
        there = goes ends next (b i) s path turns;
        back = comes ends next (b i) s path turns;
        any = λ z h. from_any ends next (b i) s path turns z (dart_on ends (b i) (b j) (s ∷ path) leads z h);
        cases = λ z h. dart_cases ends (b i) (b j) s path leads z (dart_on ends (b i) (b j) (s ∷ path) leads z h);
      }

  -- the darts at the two ends of path q
  abbrev F : ℕ → ℕ
  F q = start_of ends (b (J q).0) (path_at paths q)

  abbrev G : ℕ → ℕ
  G q = reverse_of (last_of ends (b (J q).0) (path_at paths q))

  strand : (q : ℕ) → q < length pairs → Strand (J q).0 (J q).1 (path_at paths q)
  strand q q_in =
      let ins = are.inside q q_in in
      strand_of (J q).0 (J q).1 (path_at paths q) (lead_at ends branch pairs paths lead q q_in)
      (λ e. are.loopless q q_in (b_apart _ _ ins.0 ins.1 e)) (path_distinct paths once q) (λ t h. has-concat paths q t h) (inner_at ends branch pairs paths lead q q_in)

  -- e leaves branch node i along path q, and e' leaves its other end j
  record IsStart (q i j e e' : ℕ) : Type 0 where
    q_in : q < length pairs
    way : ((i ≡ (J q).0) × (j ≡ (J q).1) × (e ≡ F q) × (e' ≡ G q)) ⊎ ((i ≡ (J q).1) × (j ≡ (J q).0) × (e ≡ G q) × (e' ≡ F q))

  record Facts (q i j e e' : ℕ) : Type 0 where
    here : IsEnd (path_at paths q) e i
    far : IsEnd (path_at paths q) e' j
    goes_to : Reaches face e (reverse_of e')
    i_in : i < length branch
    j_in : j < length branch

  facts_of : (q i j e e' : ℕ) → IsStart q i j e e' → Facts q i j e e'
  facts_of q i j e e' start =
      let s = strand q start.q_in in
      let ins = are.inside q start.q_in in
      elim start.way [
        | inl w ↦ record {
          here = end_at (path_at paths q) _ _ _ _ (sym w.2) (sym w.0) s.first;
          far = end_at (path_at paths q) _ _ _ _ (sym w.3) (sym w.1) s.last;
          goes_to = reaches_at _ _ _ _ (sym w.2) (ap reverse_of (sym w.3)) (s.there.0, s.there.1 ∙ sym (reverse-reverse _));
          i_in = omega (arith, w.0, ins.0);
          j_in = omega (arith, w.1, ins.1);
        }
        | inr w ↦ record {
          here = end_at (path_at paths q) _ _ _ _ (sym w.2) (sym w.0) s.last;
          far = end_at (path_at paths q) _ _ _ _ (sym w.3) (sym w.1) s.first;
          goes_to = reaches_at _ _ _ _ (sym w.2) (ap reverse_of (sym w.3)) s.back;
          i_in = omega (arith, w.0, ins.1);
          j_in = omega (arith, w.1, ins.0);
        }
      ]
    where
      end_at : (path : List ℕ) (e e' v v' : ℕ) → e ≡ e' → v ≡ v' → IsEnd path e v → IsEnd path e' v'
      end_at path e e' v v' same_e same_v h =
          let P : ℕ → Type 0 = λ x. IsEnd path x v in
          let Q : ℕ → Type 0 = λ x. IsEnd path e' x in
          subst Q same_v (subst P same_e h)

      reaches_at : (x x' y y' : ℕ) → x ≡ x' → y ≡ y' → Reaches face x y → Reaches face x' y'
      reaches_at x x' y y' same_x same_y h =
          let P : ℕ → Type 0 = λ z. Reaches face z y in
          let Q : ℕ → Type 0 = λ z. Reaches face x' z in
          subst Q same_y (subst P same_x h)

  -- a live dart at a branch node begins a path
  find_start : (z j : ℕ) → z < n → live (z / 2) ≡ true → tail_of ends z ≡ b j → j < length branch → (q k e' : ℕ) × IsStart q j k z e'
  find_start z j z_in z_live z_at j_in =
      let found = path_of ends branch pairs paths lead z z_live in
      let q = found.0 in
      let s = strand q found.1 in
      let ins = are.inside q found.1 in
      elim (s.cases z found.2) [
        | inl is_first ↦
            let same : j ≡ (J q).0 = b_apart j (J q).0 j_in ins.0 (sym z_at ∙ ap (tail_of ends) is_first ∙ s.first.at) in
            (q, (J q).1, G q, record { q_in = found.1; way = inl (same, refl, is_first, refl) })
        | inr (inl is_last) ↦
            let same : j ≡ (J q).1 = b_apart j (J q).1 j_in ins.1 (sym z_at ∙ ap (tail_of ends) is_last ∙ s.last.at) in
            (q, (J q).0, F q, record { q_in = found.1; way = inr (same, refl, is_last, refl) })
        | inr (inr inside) ↦
            absurd (distinct-apart branch _ nodes_once (tail_of ends z) (ap (has branch) z_at ∙ has-at branch j j_in) (inner_at ends branch pairs paths lead q found.1 _ inside))
      ]

  end_of : (r j : ℕ) → r < length pairs → (j ≡ (J r).0) ⊎ (j ≡ (J r).1) → (x : ℕ) × IsEnd (path_at paths r) x j
  end_of r j r_in (inl e) = (F r, let P : ℕ → Type 0 = λ v. IsEnd (path_at paths r) (F r) v in subst P (sym e) (strand r r_in).first)
  end_of r j r_in (inr e) = (G r, let P : ℕ → Type 0 = λ v. IsEnd (path_at paths r) (G r) v in subst P (sym e) (strand r r_in).last)

  -- after a path the face goes along another, to a third branch node
  after : (q i j e e' : ℕ) → IsStart q i j e e' → (r k e2 : ℕ) × IsStart r j k (next e') e2 × Reaches face e (next e') × (i ≢ k) × (j ≢ k) × (i ≢ j)
  after q i j e e' start =
      let f = facts_of q i j e e' start in
      let e_live = has-concat paths q (e' / 2) f.far.segment in
      let y = next e' in
      let y_in = map.permutes.below e' f.far.below in
      let y_at : tail_of ends y ≡ b j = map.same_node e' f.far.below ∙ f.far.at in
      let found = find_start y j y_in (next_live ends live next map e' f.far.below e_live) y_at f.j_in in
      let r = found.0 in
      let k = found.1 in
      let second = found.3 in
      let step : Reaches face e y = let on = reaches_step face e (reverse_of e') f.goes_to in (on.0, on.1 ∙ ap next (reverse-reverse e')) in
      let own : (i ≢ j) × ((j ≡ (J q).0) ⊎ (j ≡ (J q).1)) = elim start.way [
        | inl w ↦ ((λ e. are.loopless q start.q_in (sym w.0 ∙ e ∙ w.1)), inr w.1)
        | inr w ↦ ((λ e. are.loopless q start.q_in (sym w.1 ∙ sym e ∙ w.0)), inl w.1)
      ] in
      let more = are.other q j start.q_in own.1 in
      let third = end_of more.0 j more.1 more.3 in
      let third_live = has-concat paths more.0 (third.0 / 2) third.1.segment in
      let apart : e' ≢ third.0 = λ same. more.2 (one_path paths once more.0 q (third.0 / 2) third.1.segment (ap (λ x. has (path_at paths q) (x / 2)) (sym same) ∙ f.far.segment)) in
      let moves : y ≢ e' = next_moves ends live next map e' third.0 f.far.below third.1.below e_live third_live (f.far.at ∙ sym third.1.at) apart in
      let j_not_k : j ≢ k = elim second.way [
        | inl w ↦ λ e. are.loopless r second.q_in (sym w.0 ∙ e ∙ w.1)
        | inr w ↦ λ e. are.loopless r second.q_in (sym w.1 ∙ sym e ∙ w.0)
      ] in
      let i_not_k : i ≢ k = λ same. moves (returns q i j e e' start r k y found.2 second same own.0) in
      (r, k, found.2, second, step, i_not_k, j_not_k, own.0)
    where
      returns : (q i j e e' : ℕ) → IsStart q i j e e' → (r k y e2 : ℕ) → IsStart r j k y e2 → i ≡ k → i ≢ j → y ≡ e'
      returns q i j e e' start r k y e2 second same differ =
          elim start.way [
            | inl w ↦ elim second.way [
              | inl v ↦
                  let one : r ≡ q = are.single r q second.q_in start.q_in (inr (sym v.0 ∙ w.1, sym v.1 ∙ sym same ∙ w.0)) in
                  absurd (differ (w.0 ∙ ap (λ x. (J x).0) (sym one) ∙ sym v.0))
              | inr v ↦
                  let one : r ≡ q = are.single r q second.q_in start.q_in (inl (sym v.1 ∙ sym same ∙ w.0, sym v.0 ∙ w.1)) in
                  v.2 ∙ ap G one ∙ sym w.3
            ]
            | inr w ↦ elim second.way [
              | inl v ↦
                  let one : r ≡ q = are.single r q second.q_in start.q_in (inl (sym v.0 ∙ w.1, sym v.1 ∙ sym same ∙ w.0)) in
                  v.2 ∙ ap F one ∙ sym w.3
              | inr v ↦
                  let one : r ≡ q = are.single r q second.q_in start.q_in (inr (sym v.1 ∙ sym same ∙ w.0, sym v.0 ∙ w.1)) in
                  absurd (differ (w.0 ∙ ap (λ x. (J x).1) (sym one) ∙ sym v.0))
            ]
          ]

  abbrev pub marked : ℕ → Bool
  marked z = live (z / 2) && has branch (tail_of ends z)

  marked_start : (d q i j e e' : ℕ) → IsStart q i j e e' → Reaches face d e → (e < n) × (marked e ≡ true) × Reaches face d e
  marked_start d q i j e e' start there =
      let f = facts_of q i j e e' start in
      (f.here.below, and_from _ _ (has-concat paths q _ f.here.segment) (ap (has branch) f.here.at ∙ has-at branch i f.i_in), there)

  starts_apart : (q i j e e' r k l x x' : ℕ) → IsStart q i j e e' → IsStart r k l x x' → i ≢ k → e ≢ x
  starts_apart q i j e e' r k l x x' one two differ same =
      let f = facts_of q i j e e' one in
      let g = facts_of r k l x x' two in
      differ (b_apart i k f.i_in g.i_in (sym f.here.at ∙ ap (tail_of ends) same ∙ g.here.at))

  abbrev HasMarks : ℕ → ℕ → Type 0
  HasMarks m d = HoldsMarks n m marked (λ t. t) face d

  abbrev IsMark : ℕ → ℕ → Type 0
  IsMark d t = (t < n) × (marked t ≡ true) × Reaches face d t

  -- three marked darts
  three : (d q i j e e' : ℕ) → IsStart q i j e e' → Reaches face d e → HasMarks 3 d
  unfolding IsDistinct
  three d q i j e e' start there =
      let second = after q i j e e' start in
      let to_second = reaches_trans face d e (next e') there second.4 in
      let third = after second.0 j second.1 (next e') second.2 second.3 in
      let to_third = reaches_trans face d (next e') (next second.2) to_second third.4 in
      record {
        marks = e ∷ next e' ∷ next second.2 ∷ [];
        enough = refl;
        different = (
          (
            ne_eqb _ _ (starts_apart q i j e e' second.0 j second.1 (next e') second.2 start second.3 second.7),
            (ne_eqb _ _ (starts_apart q i j e e' third.0 second.1 third.1 (next second.2) third.2 start third.3 second.5), tt),
          ),
          ((ne_eqb _ _ (starts_apart second.0 j second.1 (next e') second.2 third.0 second.1 third.1 (next second.2) third.2 second.3 third.3 second.6), tt), (tt, tt)),
        );
        there = All-from_recursion (IsMark d) (e ∷ next e' ∷ next second.2 ∷ []) (
          marked_start d q i j e e' start there,
          (
            marked_start d second.0 j second.1 (next e') second.2 second.3 to_second,
            (marked_start d third.0 second.1 third.1 (next second.2) third.2 third.3 to_third, tt),
          ),
        );
      }

  -- the face of a live dart comes to the start of a path
  some_start : (d : ℕ) → d < n → live (d / 2) ≡ true → (q i j e e' : ℕ) × IsStart q i j e e' × Reaches face d e
  some_start d d_in d_live =
      let found = path_of ends branch pairs paths lead d d_live in
      let q = found.0 in
      let s = strand q found.1 in
      let ins = are.inside q found.1 in
      elim (s.any d found.2) [
        | inl to_last ↦
            let on = reaches_step face d _ to_last in
            at_start d (G q) (J q).1 s.last.below (has-concat paths q _ s.last.segment) s.last.at ins.1 on
        | inr to_first ↦
            let on = reaches_step face d _ to_first in
            at_start d (F q) (J q).0 s.first.below (has-concat paths q _ s.first.segment) s.first.at ins.0 (on.0, on.1 ∙ ap next (reverse-reverse (F q)))
      ]
    where
      at_start : (d x v : ℕ) → x < n → live (x / 2) ≡ true → tail_of ends x ≡ b v → v < length branch → Reaches face d (next x) → (q i j e e' : ℕ) × IsStart q i j e e' × Reaches face d e
      at_start d x v x_in x_live x_at v_in there =
          let found2 = find_start (next x) v (map.permutes.below x x_in) (next_live ends live next map x x_in x_live) (map.same_node x x_in ∙ x_at) v_in in
          (found2.0, v, found2.1, next x, found2.2, found2.3, there)

  pub three_in_each : (d : ℕ) → d < n → live (d / 2) ≡ true → HasMarks 3 d
  three_in_each d d_in d_live = let s = some_start d d_in d_live in three d s.0 s.1 s.2 s.3 s.4 s.5 s.6

  -- where the pairs go from one side to the other, four
  module _ (side : ℕ → Bool) (crosses : (q : ℕ) → q < length pairs → side (J q).1 ≡ not (side (J q).0)) where
    start_crosses : (q i j e e' : ℕ) → IsStart q i j e e' → side j ≡ not (side i)
    start_crosses q i j e e' start = elim start.way [
      | inl w ↦ ap side w.1 ∙ crosses q start.q_in ∙ ap (λ x. not (side x)) (sym w.0)
      | inr w ↦ ap side w.1 ∙ sym (not-not (side (J q).0)) ∙ ap not (sym (crosses q start.q_in)) ∙ ap (λ x. not (side x)) (sym w.0)
    ]
      where
        not-not : (x : Bool) → not (not x) ≡ x
        not-not true = refl
        not-not false = refl

    four : (d q i j e e' : ℕ) → IsStart q i j e e' → Reaches face d e → HasMarks 4 d
    unfolding IsDistinct
    four d q i j e e' start there =
        let second = after q i j e e' start in
        let r = second.0 in
        let k = second.1 in
        let f = next e' in
        let f' = second.2 in
        let to_second = reaches_trans face d e f there second.4 in
        let third = after r j k f f' second.3 in
        let t = third.0 in
        let l = third.1 in
        let g = next f' in
        let g' = third.2 in
        let to_third = reaches_trans face d f g to_second third.4 in
        let fourth = after t k l g g' third.3 in
        let h = next g' in
        let to_fourth = reaches_trans face d g h to_third fourth.4 in
        let i_not_l : i ≢ l = λ same. odd_walk (side i) (side j) (side k) (side l)
        (start_crosses q i j e e' start) (start_crosses r j k f f' second.3) (start_crosses t k l g g' third.3) (ap side same) in
        record {
          marks = e ∷ f ∷ g ∷ h ∷ [];
          enough = refl;
          different = (
            (
              ne_eqb _ _ (starts_apart q i j e e' r j k f f' start second.3 second.7),
              (
                ne_eqb _ _ (starts_apart q i j e e' t k l g g' start third.3 second.5),
                (ne_eqb _ _ (starts_apart q i j e e' fourth.0 l fourth.1 h fourth.2 start fourth.3 i_not_l), tt),
              ),
            ),
            (
              (
                ne_eqb _ _ (starts_apart r j k f f' t k l g g' second.3 third.3 second.6),
                (ne_eqb _ _ (starts_apart r j k f f' fourth.0 l fourth.1 h fourth.2 second.3 fourth.3 third.5), tt),
              ),
              ((ne_eqb _ _ (starts_apart t k l g g' fourth.0 l fourth.1 h fourth.2 third.3 fourth.3 third.6), tt), (tt, tt)),
            ),
          );
          there = All-from_recursion (IsMark d) (e ∷ f ∷ g ∷ h ∷ []) (
            marked_start d q i j e e' start there,
            (
              marked_start d r j k f f' second.3 to_second,
              (marked_start d t k l g g' third.3 to_third, (marked_start d fourth.0 l fourth.1 h fourth.2 fourth.3 to_fourth, tt)),
            ),
          );
        }
      where
        odd_walk : (a b c d : Bool) → b ≡ not a → c ≡ not b → d ≡ not c → a ≡ d → ⊥
        odd_walk true b c d one two three same = both_ways d (three ∙ ap not (two ∙ ap not one)) (sym same)
        odd_walk false b c d one two three same = both_ways d (sym same) (three ∙ ap not (two ∙ ap not one))

    pub four_in_each : (d : ℕ) → d < n → live (d / 2) ≡ true → HasMarks 4 d
    four_in_each d d_in d_live = let s = some_start d d_in d_live in four d s.0 s.1 s.2 s.3 s.4 s.5 s.6

  -- the two ends of the first k paths
  abbrev starts_list : ℕ → List ℕ
  starts_list zero = []
  starts_list (suc k) = F k ∷ G k ∷ starts_list k

  in_list : (k q : ℕ) → q < k → (has (starts_list k) (F q) ≡ true) × (has (starts_list k) (G q) ≡ true)
  in_list zero q q_in = absurd (omega arith)
  in_list (suc k) q q_in = elim (cases_eq k q) [
    | inl here ↦ (or_left (eqb (F k) (F q)) _ (eq-eqb _ _ (ap F here)), or_right (eqb (F k) (G q)) _ (or_left (eqb (G k) (G q)) (has (starts_list k) (G q)) (eq-eqb _ _ (ap G here))))
    | inr below ↦
        let rest = in_list k q (omega arith) in
        (or_right (eqb (F k) (F q)) _ (or_right (eqb (G k) (F q)) (has (starts_list k) (F q)) rest.0), or_right (eqb (F k) (G q)) _ (or_right (eqb (G k) (G q)) (has (starts_list k) (G q)) rest.1))
  ]

  length-starts : (k : ℕ) → length (starts_list k) ≡ 2 * k
  length-starts zero = refl
  length-starts (suc k) = omega (arith, length-starts k)

  pub marked_few : count_below n marked ≤ 2 * length pairs
  marked_few = omega (
    arith,
    length-starts (length pairs),
    count-le_cover n marked (starts_list (length pairs)) (λ z z_in t.
        let parts : (live (z / 2) ≡ true) × (has branch (tail_of ends z) ≡ true) = and_parts _ _ t in
        let found = path_of ends branch pairs paths lead z parts.0 in
        let s = strand found.0 found.1 in
        let both = in_list (length pairs) found.0 found.1 in
        elim (s.cases z found.2) [
          | inl first ↦ ap (has (starts_list (length pairs))) first ∙ both.0
          | inr (inl last) ↦ ap (has (starts_list (length pairs))) last ∙ both.1
          | inr (inr inside) ↦ absurd (distinct-apart branch _ nodes_once (tail_of ends z) parts.1 (inner_at ends branch pairs paths lead found.0 found.1 _ inside))
        ]),
  )

  -- the node of a live dart is a branch node or an inner one
  pub live_node : (z : ℕ) → live (z / 2) ≡ true → has (branch ++ all_inner ends branch pairs paths) (tail_of ends z) ≡ true
  live_node z z_live =
      let found = path_of ends branch pairs paths lead z z_live in
      let s = strand found.0 found.1 in
      let ins = are.inside found.0 found.1 in
      elim (s.cases z found.2) [
        | inl first ↦ has-left branch _ _ (ap (λ x. has branch (tail_of ends x)) first ∙ ap (has branch) s.first.at ∙ has-at branch _ ins.0)
        | inr (inl last) ↦ has-left branch _ _ (ap (λ x. has branch (tail_of ends x)) last ∙ ap (has branch) s.last.at ∙ has-at branch _ ins.1)
        | inr (inr inside) ↦ has-right branch _ _ (inner_at ends branch pairs paths lead found.0 found.1 _ inside)
      ]

  -- a live dart, where there is a path
  pub some_live : 0 < length pairs → (z : ℕ) × (z < n) × (live (z / 2) ≡ true)
  some_live some = let s = strand 0 some in (F 0, s.first.below, has-concat paths 0 _ s.first.segment)

  -- as many inner nodes as segments, but one a path
  pub inner_length : length (all_inner ends branch pairs paths) + length pairs ≡ length (concat paths)
  inner_length = go pairs paths lead (λ q q_in. let ins = are.inside q q_in in λ e. are.loopless q q_in (b_apart _ _ ins.0 ins.1 e))
    where
      one : (u s : ℕ) (path : List ℕ) → length (inner_nodes ends u (s ∷ path)) ≡ length path
      one u s [] = refl
      one u s (t ∷ path) = ap suc (one (far_end (ends_at ends s) u) t path)

      go : (pairs : List (ℕ × ℕ)) (paths : List (List ℕ)) → LeadAll ends branch pairs paths → ((q : ℕ) → q < length pairs → b (ends_at pairs q).0 ≢ b (ends_at pairs q).1) →
          length (all_inner ends branch pairs paths) + length pairs ≡ length (concat paths)
      go [] [] lead differ = refl
      go [] (path ∷ paths) lead differ = absurd lead
      go (p ∷ pairs) [] lead differ = absurd lead
      go (p ∷ pairs) ([] ∷ paths) lead differ = absurd (differ 0 (omega arith) lead.0)
      go (p ∷ pairs) ((s ∷ path) ∷ paths) lead differ =
          let rest = go pairs paths lead.1 (λ q q_in. differ (suc q) (omega arith)) in
          omega (
            arith,
            rest,
            one (b p.0) s path,
            length-append (inner_nodes ends (b p.0) (s ∷ path)) (all_inner ends branch pairs paths),
            length-append (s ∷ path) (concat paths),
          )
