-- Where the paths of a subdivision use every segment, the straight paths that leave its branch nodes are those paths, perhaps turned round.
use Rattle.std.proofs.Common.{◌≡◌, ◌≢◌, ℕ, ◌+◌, ◌*◌, ◌/◌, ◌<◌, ◌⊎◌, inl, inr, true, false, eqb, List, [], ◌∷◌, ◌++◌, length, reverse, refl, sym, ◌∙◌, ap, subst, arith}
use Rattle.std.specs.Prelude.{None, Some, slice_index}
use Rattle.std.specs.List.{IsDistinct}
use Rattle.std.proofs.lemmas.Bool.{cases_Bool, both_ways, cond-false, cond-true, eqb-true, eq-eqb, false_from_ne_true, ne_eqb, or_left, or_right}
use Rattle.std.proofs.lemmas.List.{length-reverse}
use Rattle.xn_model.specs.Evidence.{IsPathSystem, LeadsTo, all_inner, far_end, inner_nodes}
use Rattle.xn_model.specs.Graph.{Graph, ends_at}
use Rattle.xn_model.specs.Lists.{has}
use Rattle.xn_model.specs.Map.{reverse_of, tail_of}
use Rattle.xn_model.specs.Permutation.{Permutes}
use Rattle.xn_model.proofs.Darts.{reverse-even, reverse-odd}
use Rattle.xn_ring.proofs.Orbits.{source_of}
use Rattle.xn_model.proofs.Has.{has-at}
use Rattle.xn_kura.proofs.Branches.{place_of}
use Rattle.xn_kura.proofs.Choice.{IsPairOf, chosen_for, distinct_within, is_chosen}
use Rattle.xn_kura.proofs.Degrees.{branch_degree, degree_in, inner_degree, other_degree}
use Rattle.xn_kura.proofs.Distinct.{distinct-apart, distinct-left, positions_apart}
use Rattle.xn_kura.proofs.Pairs.{ArePairs}
use Rattle.xn_kura.proofs.Path.{dart_cases, dart_on, last_of, last_tail, out, out_facts}
use Rattle.xn_kura.proofs.Turned.{distinct-reverse, has-reverse, has-reversed, in_concat, inner-turned, length-lead, reverse-cons, subdivision_of_some, turned}
use Rattle.xn_kura.proofs.UsedPaths.{has-concat, inner_at, lead_at, path_distinct, path_of}
use Rattle.xn_kura.specs.Flaws.{begins_at, goes_to, path_at}
use Rattle.xn_kura.specs.Kinds.{AreNodesWith, ArePathsFor, UsesAll}
use Rattle.xn_kura.specs.Laws.{AreSomePaths, IsPathOrTurned}
use Rattle.xn_kura.specs.Straight.{IsStraight, IsStraightBetween, IsStraightBy, dart_from}
use Rattle.xn_model.specs.Loose.{dart_count}

-- ---- the first and the last dart of a path

module _ (ends : List (ℕ × ℕ)) where
  front : (v s : ℕ) (xs : List ℕ) → 0 < length xs → dart_from ends v (xs ++ s ∷ []) ≡ dart_from ends v xs
  front v s [] some = absurd (omega (arith, some))
  front v s (x ∷ xs) some = refl

  -- a path turned round begins with the reverse of its last dart
  last_back : (u v s : ℕ) (path : List ℕ) → LeadsTo ends u (s ∷ path) v → u ≢ v → has (inner_nodes ends u (s ∷ path)) v ≡ false →
      dart_from ends v (reverse (s ∷ path)) ≡ reverse_of (last_of ends u (s ∷ path))
  last_back u v s [] leads apart out_of = elim (cases_Bool (eqb (ends_at ends s).0 u)) [
    | inl first ↦
        let is : out ends u s ≡ 2 * s = cond-true _ _ _ first in
        let other : (ends_at ends s).0 ≢ v = λ e. apart (sym (eqb-true _ _ first) ∙ e) in
        cond-false _ _ _ (ne_eqb _ _ other) ∙ sym (ap reverse_of is ∙ reverse-even s)
    | inr second ↦
        let is : out ends u s ≡ 2 * s + 1 = cond-false _ _ _ second in
        let far : far_end (ends_at ends s) u ≡ (ends_at ends s).0 = cond-false _ _ _ second in
        cond-true _ _ _ (eq-eqb _ _ (sym far ∙ leads.2)) ∙ sym (ap reverse_of is ∙ reverse-odd s)
  ]
  last_back u v s (t ∷ path) leads apart out_of =
      let w = far_end (ends_at ends s) u in
      let rest = inner_nodes ends w (t ∷ path) in
      let w_apart : w ≢ v = λ e. both_ways _ out_of (or_left (eqb w v) (has rest v) (eq-eqb w v e)) in
      let rest_out : has rest v ≡ false = false_from_ne_true _ (λ h. both_ways _ out_of (or_right (eqb w v) (has rest v) h)) in
      let long : 0 < length (reverse (t ∷ path)) = omega (arith, length-reverse (t ∷ path)) in
      ap (dart_from ends v) (reverse-cons s (t ∷ path)) ∙ front v s (reverse (t ∷ path)) long ∙ last_back w v t path leads.2 w_apart rest_out

  -- a dart of a path that leaves no inner node begins it, or begins it turned round
  begun_by : (u v : ℕ) (path : List ℕ) → LeadsTo ends u path v → u ≢ v → has (inner_nodes ends u path) v ≡ false →
      (d : ℕ) → has path (d / 2) ≡ true → has (inner_nodes ends u path) (tail_of ends d) ≡ false →
      ((u ≡ tail_of ends d) × (dart_from ends u path ≡ d)) ⊎ ((v ≡ tail_of ends d) × (dart_from ends v (reverse path) ≡ d))
  begun_by u v [] leads apart out_of d h no_inner = absurd (both_ways false refl h)
  begun_by u v (s ∷ path) leads apart out_of d h no_inner = elim (dart_cases ends u v s path leads d (dart_on ends u v (s ∷ path) leads d h)) [
    | inl first ↦ inl (sym (ap (tail_of ends) first ∙ (out_facts ends u s leads.1).0), sym first)
    | inr (inl last) ↦ inr (sym (ap (tail_of ends) last ∙ last_tail ends u v s path leads), last_back u v s path leads apart out_of ∙ sym last)
    | inr (inr inside) ↦ absurd (both_ways _ no_inner inside)
  ]

  not_empty : (u v : ℕ) (path : List ℕ) → LeadsTo ends u path v → u ≢ v → 0 < length path
  not_empty u v [] leads apart = absurd (apart leads)
  not_empty u v (s ∷ path) leads apart = omega arith

-- ---- a subdivision that uses the whole web

-- the paths are a subdivision that uses each segment, and each branch node is in k of the pairs
pub record Covers (web : Graph) (pairs : List (ℕ × ℕ)) (branch : List ℕ) (paths : List (List ℕ)) (k : ℕ) : Type 0 where
  pub are : ArePairs (length branch) pairs
  pub is : IsPathSystem web pairs branch paths
  pub used : UsesAll web paths
  pub degrees : (i : ℕ) → i < length branch → degree_in pairs i ≡ k
  pub no_two : k ≢ 2
  pub some : 0 < k

module _ (web : Graph) (pairs : List (ℕ × ℕ)) (branch : List ℕ) (paths : List (List ℕ)) (k : ℕ) (covers : Covers web pairs branch paths k) where
  abbrev ends : List (ℕ × ℕ)
  ends = web.ends

  abbrev b : ℕ → ℕ
  b i = slice_index branch i

  abbrev u_at : ℕ → ℕ
  u_at q = begins_at pairs branch q

  abbrev v_at : ℕ → ℕ
  v_at q = goes_to pairs branch q

  abbrev inner_of : ℕ → List ℕ
  inner_of q = inner_nodes ends (u_at q) (path_at paths q)

  branch_once : IsDistinct eqb branch
  branch_once = distinct-left branch _ covers.is.no_node_twice

  leads : (q : ℕ) → q < length pairs → LeadsTo ends (u_at q) (path_at paths q) (v_at q)
  leads q q_in = lead_at ends branch pairs paths covers.is.lead q q_in

  two_ends : (q : ℕ) → q < length pairs → u_at q ≢ v_at q
  two_ends q q_in same =
      let ins = covers.are.inside q q_in in
      covers.are.loopless q q_in (positions_apart branch branch_once (ends_at pairs q).0 (ends_at pairs q).1 ins.0 ins.1 same)

  inside : (q : ℕ) → q < length pairs → (w : ℕ) → has (inner_of q) w ≡ true → has (all_inner ends branch pairs paths) w ≡ true
  inside q q_in w h = inner_at ends branch pairs paths covers.is.lead q q_in w h

  no_inner : (q : ℕ) → q < length pairs → (i : ℕ) → i < length branch → has (inner_of q) (b i) ≡ false
  no_inner q q_in i i_in = false_from_ne_true _ (λ h. distinct-apart branch _ covers.is.no_node_twice (b i) (has-at branch i i_in) (inside q q_in (b i) h))

  degree_at : (i : ℕ) → i < length branch → dart_count ends (b i) ≡ k
  degree_at i i_in = branch_degree web pairs branch paths covers.are covers.is covers.used i i_in ∙ covers.degrees i i_in

  stops_at : (i : ℕ) → i < length branch → dart_count ends (b i) ≢ 2
  stops_at i i_in two = covers.no_two (sym (degree_at i i_in) ∙ two)

  through : (q : ℕ) → q < length pairs → (w : ℕ) → has (inner_of q) w ≡ true → dart_count ends w ≡ 2
  through q q_in w h = inner_degree web pairs branch paths covers.are covers.is covers.used w (inside q q_in w h)

  -- each path is straight, either way
  straight : (q : ℕ) → q < length pairs → IsStraight ends (u_at q) (path_at paths q) (v_at q)
  straight q q_in = record {
    some = not_empty ends (u_at q) (v_at q) (path_at paths q) (leads q q_in) (two_ends q q_in);
    leads = leads q q_in;
    once = path_distinct paths covers.is.once q;
    through = through q q_in;
    stops = stops_at (ends_at pairs q).1 (covers.are.inside q q_in).1;
  }

  straight_back : (q : ℕ) → q < length pairs → IsStraight ends (v_at q) (reverse (path_at paths q)) (u_at q)
  straight_back q q_in =
      let u = u_at q in
      let v = v_at q in
      let path = path_at paths q in
      record {
        some = omega (arith, (straight q q_in).some, length-reverse path);
        leads = turned ends u v path (leads q q_in);
        once = distinct-reverse path (path_distinct paths covers.is.once q);
        through = λ w h. through q q_in w (has-reverse (inner_of q) w (ap (λ xs. has xs w) (sym (inner-turned ends u v path (leads q q_in))) ∙ h));
        stops = stops_at (ends_at pairs q).0 (covers.are.inside q q_in).0;
      }

  -- a dart at a branch node begins one of the paths, or one of them turned round
  begun : (d i : ℕ) → d < 2 * length ends → i < length branch → tail_of ends d ≡ b i →
      (q : ℕ) × (q < length pairs) × (((u_at q ≡ b i) × (dart_from ends (u_at q) (path_at paths q) ≡ d)) ⊎ ((v_at q ≡ b i) × (dart_from ends (v_at q) (reverse (path_at paths q)) ≡ d)))
  begun d i d_in i_in at_b =
      let found = path_of ends branch pairs paths covers.is.lead d (covers.used (d / 2) (omega (arith, d_in))) in
      let q = found.0 in
      let ins = covers.are.inside q found.1 in (
        q,
        found.1,
        elim (begun_by ends (u_at q) (v_at q) (path_at paths q) (leads q found.1) (two_ends q found.1) (no_inner q found.1 (ends_at pairs q).1 ins.1) d found.2
            (ap (has (inner_of q)) at_b ∙ no_inner q found.1 i i_in)) [
              | inl h ↦ inl (h.0 ∙ at_b, h.1)
              | inr h ↦ inr (h.0 ∙ at_b, h.1)
            ],
      )

  -- a straight path that is found from a branch node is one of the paths, or one of them turned round
  found_is : (i v : ℕ) (path : List ℕ) → i < length branch → IsStraightBetween ends (b i) v (Some path) →
      (q : ℕ) × ((q < length pairs) × IsPathOrTurned (u_at q) (path_at paths q) (v_at q) (b i) path v)
  found_is i v path i_in found =
      let d = found.0 in
      let by : IsStraightBy ends (b i) v d (Some path) = found.2 in
      let start = begun d i found.1 i_in by.0 in
      let q = start.0 in (
        q,
        (
          start.1,
          elim start.2 [
            | inl h ↦
                let P : ℕ → Type 0 = λ u. IsStraight ends u (path_at paths q) (v_at q) in
                let is = by.1 (path_at paths q) (v_at q) (subst P h.0 (straight q start.1)) (ap (λ u. dart_from ends u (path_at paths q)) (sym h.0) ∙ h.1) in
                inl (sym h.0, sym is.0, is.1)
            | inr h ↦
                let back = reverse (path_at paths q) in
                let P : ℕ → Type 0 = λ u. IsStraight ends u back (u_at q) in
                let is = by.1 back (u_at q) (subst P h.0 (straight_back q start.1)) (ap (λ u. dart_from ends u back) (sym h.0) ∙ h.1) in
                inr (sym h.0, sym is.0, is.1)
          ],
        ),
      )

  -- a branch node of the pair r leads straight to the other
  pub found_some : (a c r : ℕ) → r < length pairs → IsPairOf (ends_at pairs r) a c → IsStraightBetween ends (b a) (b c) None → ⊥
  found_some a c r r_in (inl h) none =
      let P : ℕ → Type 0 = λ u. IsStraight ends u (path_at paths r) (v_at r) in
      let Q : ℕ → Type 0 = λ v. IsStraight ends (b a) (path_at paths r) v in
      none (path_at paths r) (subst Q (ap b h.1) (subst P (ap b h.0) (straight r r_in)))
  found_some a c r r_in (inr h) none =
      let back = reverse (path_at paths r) in
      let P : ℕ → Type 0 = λ u. IsStraight ends u back (u_at r) in
      let Q : ℕ → Type 0 = λ v. IsStraight ends (b a) back v in
      none back (subst Q (ap b h.1) (subst P (ap b h.0) (straight_back r r_in)))

  -- and a straight path is found between two of a pair alone
  pub found_pair : (a c : ℕ) (path : List ℕ) → a < length branch → c < length branch → IsStraightBetween ends (b a) (b c) (Some path) →
      (r : ℕ) × (r < length pairs) × IsPairOf (ends_at pairs r) a c
  found_pair a c path a_in c_in found =
      let is = found_is a (b c) path a_in found in
      let r = is.0 in
      let r_in : r < length pairs = is.1.0 in
      let ins = covers.are.inside r r_in in
      let same : (i j : ℕ) → i < length branch → j < length branch → b i ≡ b j → i ≡ j = positions_apart branch branch_once in (
        r,
        r_in,
        elim is.1.1 [
          | inl h ↦ inl (same (ends_at pairs r).0 a ins.0 a_in (sym h.0), same (ends_at pairs r).1 c ins.1 c_in (sym h.1))
          | inr h ↦ inr (same (ends_at pairs r).1 a ins.1 a_in (sym h.0), same (ends_at pairs r).0 c ins.0 c_in (sym h.1))
        ],
      )

  -- ---- the nodes with k darts are the branch nodes

  module _ (nodes : List ℕ) (are_nodes : AreNodesWith ends web.nodes k nodes) where
    pub among : (v : ℕ) → has nodes v ≡ true → has branch v ≡ true
    among v v_has = elim (cases_Bool (has branch v)) [
      | inl is ↦ is
      | inr not_one ↦ elim (cases_Bool (has (all_inner ends branch pairs paths) v)) [
        | inl inner ↦
            let two = inner_degree web pairs branch paths covers.are covers.is covers.used v inner in
            absurd (covers.no_two (sym (are_nodes.are v v_has).1 ∙ two))
        | inr neither ↦
            let none = other_degree web pairs branch paths covers.are covers.is covers.used v neither not_one in
            let is = (are_nodes.are v v_has).1 in
            absurd (omega (arith, none, is, covers.some))
      ]
    ]

    branch_in : (i : ℕ) → i < length branch → b i < web.nodes
    branch_in i i_in = covers.is.below i 0 i_in

    pub as_many : length nodes ≡ length branch
    as_many =
        let few = distinct_within web.nodes nodes branch are_nodes.once (λ v h. (are_nodes.are v h).0) among in
        let many = distinct_within web.nodes branch nodes branch_once
        (λ v h. let p = place_of branch v h in let low = branch_in p.0 p.1 in omega (arith, low, p.2))
        (λ v h. let p = place_of branch v h in ap (has nodes) (sym p.2) ∙ are_nodes.all (b p.0) (branch_in p.0 p.1) (degree_at p.0 p.1)) in
        omega (arith, few, many)

  -- ---- the paths that are found

  module _ (chosen : List (ℕ × ℕ)) (nodes : List ℕ) (turns : List (List ℕ)) (chosen_are : ArePairs (length nodes) chosen) (as_many : length chosen ≡ length pairs)
      (once : IsDistinct eqb nodes) (among : (v : ℕ) → has nodes v ≡ true → has branch v ≡ true) (found : ArePathsFor ends chosen nodes (Some turns)) where
    abbrev x_at : ℕ → ℕ
    x_at q = begins_at chosen nodes q

    abbrev y_at : ℕ → ℕ
    y_at q = goes_to chosen nodes q

    -- the path r is the one that is found for the chosen pair q
    abbrev IsSource : ℕ → ℕ → Type 0
    IsSource q r = (r < length pairs) × IsPathOrTurned (u_at r) (path_at paths r) (v_at r) (x_at q) (path_at turns q) (y_at q)

    source : (q : ℕ) → q < length chosen → (r : ℕ) × IsSource q r
    source q q_in =
        let ins = chosen_are.inside q q_in in
        let p = place_of branch (x_at q) (among (x_at q) (has-at nodes (ends_at chosen q).0 ins.0)) in
        let P : ℕ → Type 0 = λ u. (r : ℕ) × ((r < length pairs) × IsPathOrTurned (u_at r) (path_at paths r) (v_at r) u (path_at turns q) (y_at q)) in
        let Q : ℕ → Type 0 = λ u. IsStraightBetween ends u (y_at q) (Some (path_at turns q)) in
        subst P p.2 (found_is p.0 (y_at q) (path_at turns q) p.1 (subst Q (sym p.2) (found.1 q q_in)))

    from : ℕ → ℕ
    from = chosen_for (length chosen) IsSource source

    from_is : (q : ℕ) → q < length chosen → IsSource q (from q)
    unfolding from
    from_is q q_in = is_chosen (length chosen) IsSource source q q_in

    -- two chosen pairs have the same two nodes where they are from one path
    same_nodes : (u v : ℕ) (path : List ℕ) (q r : ℕ) → IsPathOrTurned u path v (x_at q) (path_at turns q) (y_at q) → IsPathOrTurned u path v (x_at r) (path_at turns r) (y_at r) →
        ((x_at q ≡ x_at r) × (y_at q ≡ y_at r)) ⊎ ((x_at q ≡ y_at r) × (y_at q ≡ x_at r))
    same_nodes u v path q r (inl a) (inl c) = inl (a.0 ∙ sym c.0, a.1 ∙ sym c.1)
    same_nodes u v path q r (inl a) (inr c) = inr (a.0 ∙ sym c.1, a.1 ∙ sym c.0)
    same_nodes u v path q r (inr a) (inl c) = inr (a.0 ∙ sym c.1, a.1 ∙ sym c.0)
    same_nodes u v path q r (inr a) (inr c) = inl (a.0 ∙ sym c.0, a.1 ∙ sym c.1)

    from_apart : (q r : ℕ) → q < length chosen → r < length chosen → from q ≡ from r → q ≡ r
    from_apart q r q_in r_in same =
        let P : ℕ → Type 0 = λ z. IsSource q z in
        let a : IsSource q (from r) = subst P same (from_is q q_in) in
        let c = from_is r r_in in
        let z = from r in
        let qi = chosen_are.inside q q_in in
        let ri = chosen_are.inside r r_in in
        let place : (i j : ℕ) → i < length nodes → j < length nodes → slice_index nodes i ≡ slice_index nodes j → i ≡ j = positions_apart nodes once in
        chosen_are.single q r q_in r_in (elim (same_nodes (u_at z) (v_at z) (path_at paths z) q r a.1 c.1) [
          | inl h ↦ inl (place (ends_at chosen q).0 (ends_at chosen r).0 qi.0 ri.0 h.0, place (ends_at chosen q).1 (ends_at chosen r).1 qi.1 ri.1 h.1)
          | inr h ↦ inr (place (ends_at chosen q).0 (ends_at chosen r).1 qi.0 ri.1 h.0, place (ends_at chosen q).1 (ends_at chosen r).0 qi.1 ri.0 h.1)
        ])

    some_paths : AreSomePaths pairs branch paths chosen nodes turns from
    some_paths = record {
      as_many = found.0;
      below = λ q q_in. (from_is q q_in).0;
      apart = from_apart;
      same = λ q q_in. (from_is q q_in).1;
      nodes_once = once;
      among = among;
    }

    pub found_holds : IsPathSystem web chosen nodes turns
    found_holds = subdivision_of_some web pairs chosen branch nodes paths turns from covers.is some_paths

    turn_has : (q r s : ℕ) → IsPathOrTurned (u_at r) (path_at paths r) (v_at r) (x_at q) (path_at turns q) (y_at q) → has (path_at paths r) s ≡ true → has (path_at turns q) s ≡ true
    turn_has q r s (inl h) t = ap (λ xs. has xs s) h.2 ∙ t
    turn_has q r s (inr h) t = ap (λ xs. has xs s) h.2 ∙ has-reversed (path_at paths r) s t

    pub found_uses : UsesAll web turns
    found_uses s s_in =
        let path = in_concat paths s (covers.used s s_in) in
        let r_in : path.0 < length chosen = omega (arith, path.1, length-lead ends branch pairs paths covers.is.lead, as_many) in
        let permutes : Permutes (length chosen) from = record {
          below = λ q q_in. let low = (from_is q q_in).0 in omega (arith, low, as_many);
          apart = from_apart;
        } in
        let q = source_of (length chosen) from permutes path.0 r_in in
        let is : IsSource q.0 (from q.0) = from_is q.0 q.1 in
        has-concat turns q.0 s (turn_has q.0 (from q.0) s is.1 (ap (λ z. has (path_at paths z) s) q.2 ∙ path.2))
