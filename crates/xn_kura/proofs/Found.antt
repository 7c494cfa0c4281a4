-- Where some evidence uses the whole web, the one that is proposed is found, holds and uses the whole web too.
use Rattle.std.proofs.Common.{◌≡◌, ◌≢◌, ℕ, ◌<◌, ◌≤◌, ◌⊎◌, inl, inr, Bool, true, false, not, ◌&&◌, ◌||◌, eqb, get_or, ltb, List, [], ◌∷◌, ◌++◌, length, refl, sym, ◌∙◌, ap, subst, arith, length-append}
use Rattle.std.specs.Prelude.{Option, Result, None, Some, Ok, Err, IfOk, IsTrue, ◌↔◌, slice_index}
use Rattle.std.specs.declared.alloc.AllocError.{AllocError}
use Rattle.std.specs.List.{IsDistinct, concat}
use Rattle.std.proofs.lemmas.Bool.{cases_lt, and_parts, both_ways, eq-eqb, eqb-true, lt-ltb, ltb-true, not-true, not_from_false, or_cases, false_from_ne_true}
use Rattle.xn_model.specs.Evidence.{IsFive, IsThreeThree, five_pairs, three_pairs}
use Rattle.xn_model.specs.Graph.{Graph, ends_at}
use Rattle.xn_model.specs.Lists.{at, has}
use Rattle.xn_model.specs.Permutation.{count_below}
use Rattle.xn_kinds.specs.Row.{EvidenceHolds}
use Rattle.xn_kinds.specs.declared.rows.Evidence.{Evidence}
use Rattle.xn_kinds.specs.declared.rows.Evidence.TheVariants.{Five, ThreeThree}
use Rattle.xn_model.proofs.Has.{has-append, has-at}
use Rattle.xn_kura.proofs.Branches.{place_of}
use Rattle.xn_kura.proofs.Choice.{distinct_within, has-values, in_first, in_second, joins, joins-some, length-values, some-joins, values_at}
use Rattle.xn_kura.proofs.Degrees.{degree_in}
use Rattle.xn_kura.proofs.Distinct.{positions_apart}
use Rattle.xn_kura.proofs.Pairs.{ArePairs, all_below, all_below_at, pairs_by_test}
use Rattle.xn_kura.proofs.Proposals.{all_by_length, length_by_all}
use Rattle.xn_kura.proofs.Turned.{distinct-append}
use Rattle.xn_kura.proofs.UsedPaths.{used_in}
use Rattle.xn_kura.proofs.Whole.{Covers, among, as_many, found_holds, found_pair, found_some, found_uses}
use Rattle.xn_kura.specs.Kinds.{AreNodesWith, ArePathsFor, AreSides, IsFoundFive, IsFoundThree, IsJudged, IsWhole, UsesAll, paths_of}
use Rattle.xn_kura.specs.Straight.{IsStraightBetween}

-- a straight path is found between two branch nodes that a pair joins
no_path_missing : (web : Graph) (pairs : List (ℕ × ℕ)) (branch : List ℕ) (paths : List (List ℕ)) (k : ℕ) → Covers web pairs branch paths k → (x y : ℕ) → has branch x ≡ true → has branch y ≡ true →
    ((a c : ℕ) → a < length branch → c < length branch → slice_index branch a ≡ x → slice_index branch c ≡ y → joins pairs a c ≡ true) → IsStraightBetween web.ends x y None → ⊥
no_path_missing web pairs branch paths k covers x y x_in y_in joined none =
    let a = place_of branch x x_in in
    let c = place_of branch y y_in in
    let r = joins-some pairs a.0 c.0 (joined a.0 c.0 a.1 c.1 a.2 c.2) in
    let P : ℕ → Type 0 = λ u. IsStraightBetween web.ends u y None in
    let Q : ℕ → Type 0 = λ v. IsStraightBetween web.ends (slice_index branch a.0) v None in
    found_some web pairs branch paths k covers a.0 c.0 r.0 r.1 r.2 (subst Q (sym c.2) (subst P (sym a.2) none))

-- ---- five branch nodes

module _ (web : Graph) (branch : List ℕ) (paths : List (List ℕ)) (whole : IsWhole web (Five branch paths)) where
  five_covers : Covers web five_pairs branch paths 4
  five_covers =
      let P : ℕ → Type 0 = λ count. ArePairs count five_pairs in
      record {
        are = subst P (sym whole.holds.0) (pairs_by_test 5 five_pairs refl);
        is = whole.holds.1;
        used = whole.all;
        degrees = λ i i_in. eqb-true _ _ (all_below_at 5 (λ j. eqb (degree_in five_pairs j) 4) refl i (omega (arith, i_in, whole.holds.0)));
        no_two = λ e. omega (arith, e);
        some = omega arith;
      }

  module _ (nodes : List ℕ) (are : AreNodesWith web.ends web.nodes 4 nodes) where
    pub five_nodes : length nodes ≡ 5
    five_nodes = as_many web five_pairs branch paths 4 five_covers nodes are ∙ whole.holds.0

    five_among : (v : ℕ) → has nodes v ≡ true → has branch v ≡ true
    five_among = among web five_pairs branch paths 4 five_covers nodes are

    five_are : ArePairs (length nodes) five_pairs
    five_are = let P : ℕ → Type 0 = λ count. ArePairs count five_pairs in subst P (sym five_nodes) (pairs_by_test 5 five_pairs refl)

    -- each two different branch nodes are joined
    five_joined : (a c : ℕ) → a < 5 → c < 5 → a ≢ c → joins five_pairs a c ≡ true
    five_joined a c a_in c_in apart =
        let row = all_below_at 5 (λ x. all_below 5 (λ y. eqb x y || joins five_pairs x y)) refl a a_in in
        elim (or_cases (eqb a c) (joins five_pairs a c) (all_below_at 5 (λ y. eqb a y || joins five_pairs a y) row c c_in)) [
          | inl same ↦ absurd (apart (eqb-true a c same))
          | inr is ↦ is
        ]

    pub five_paths : ArePathsFor web.ends five_pairs nodes None → ⊥
    five_paths found =
        let q = found.0 in
        let ins = five_are.inside q found.1 in
        let i = (ends_at five_pairs q).0 in
        let j = (ends_at five_pairs q).1 in
        no_path_missing web five_pairs branch paths 4 five_covers (slice_index nodes i) (slice_index nodes j) (five_among _ (has-at nodes i ins.0)) (five_among _ (has-at nodes j ins.1))
        (λ a c a_in c_in at_x at_y. five_joined a c (omega (arith, a_in, whole.holds.0)) (omega (arith, c_in, whole.holds.0)) (λ same.
        five_are.loopless q found.1 (positions_apart nodes are.once i j ins.0 ins.1 (sym at_x ∙ ap (slice_index branch) same ∙ at_y))))
        found.2

    pub five_whole : (turns : List (List ℕ)) → ArePathsFor web.ends five_pairs nodes (Some turns) → IsWhole web (Five nodes turns)
    five_whole turns found = record {
      kind = (five_nodes, found.0);
      holds = (five_nodes, found_holds web five_pairs branch paths 4 five_covers five_pairs nodes turns five_are refl are.once five_among found);
      all = found_uses web five_pairs branch paths 4 five_covers five_pairs nodes turns five_are refl are.once five_among found;
    }

-- ---- three branch nodes against three

module _ (web : Graph) (branch : List ℕ) (paths : List (List ℕ)) (whole : IsWhole web (ThreeThree branch paths)) where
  abbrev b : ℕ → ℕ
  b i = slice_index branch i

  three_covers : Covers web three_pairs branch paths 3
  three_covers =
      let P : ℕ → Type 0 = λ count. ArePairs count three_pairs in
      record {
        are = subst P (sym whole.holds.0) (pairs_by_test 6 three_pairs refl);
        is = whole.holds.1;
        used = whole.all;
        degrees = λ i i_in. eqb-true _ _ (all_below_at 6 (λ j. eqb (degree_in three_pairs j) 3) refl i (omega (arith, i_in, whole.holds.0)));
        no_two = λ e. omega (arith, e);
        some = omega arith;
      }

  module _ (nodes : List ℕ) (are : AreNodesWith web.ends web.nodes 3 nodes) where
    pub three_nodes : length nodes ≡ 6
    three_nodes = as_many web three_pairs branch paths 3 three_covers nodes are ∙ whole.holds.0

    three_among : (v : ℕ) → has nodes v ≡ true → has branch v ≡ true
    three_among = among web three_pairs branch paths 3 three_covers nodes are

    module _ (near far : List ℕ) (sides : AreSides web.ends nodes near far) where
      -- the place of the node by which the sides are told
      home : (o : ℕ) × (o < length branch) × (b o ≡ at nodes 0)
      home = place_of branch (at nodes 0) (three_among _ (has-at nodes 0 (omega (arith, three_nodes))))

      abbrev o : ℕ
      o = home.0

      home_in : o < 6
      home_in = omega (arith, home.1, whole.holds.0)

      near_not : (a : ℕ) → has near (b a) ≡ true → joins three_pairs o a ≡ false
      near_not a h = false_from_ne_true _ (λ joined.
          let r = joins-some three_pairs o a joined in
          let P : ℕ → Type 0 = λ u. IsStraightBetween web.ends u (b a) None in
          found_some web three_pairs branch paths 3 three_covers o a r.0 r.1 r.2 (subst P (sym home.2) (sides.near_are (b a) h).1))

      far_joined : (c : ℕ) → c < length branch → has far (b c) ≡ true → joins three_pairs o c ≡ true
      far_joined c c_in h =
          let there = (sides.far_are (b c) h).1 in
          let P : ℕ → Type 0 = λ u. IsStraightBetween web.ends u (b c) (Some there.0) in
          let r = found_pair web three_pairs branch paths 3 three_covers o c there.0 home.1 c_in (subst P (sym home.2) there.1) in
          some-joins three_pairs o c r.0 r.1 r.2

      -- three are joined to each branch node, and three are not
      counts : (count_below 6 (λ a. not (joins three_pairs o a)) ≡ 3) × (count_below 6 (λ a. joins three_pairs o a) ≡ 3)
      counts =
          let row = all_below_at 6 (λ x. eqb (count_below 6 (λ a. not (joins three_pairs x a))) 3 && eqb (count_below 6 (λ a. joins three_pairs x a)) 3) refl o home_in in
          let parts : (eqb (count_below 6 (λ a. not (joins three_pairs o a))) 3 ≡ true) × (eqb (count_below 6 (λ a. joins three_pairs o a)) 3 ≡ true) = and_parts _ _ row in
          (eqb-true _ _ parts.0, eqb-true _ _ parts.1)

      few : (xs : List ℕ) (p : ℕ → Bool) → IsDistinct eqb xs → ((v : ℕ) → has xs v ≡ true → has nodes v ≡ true) →
          ((a : ℕ) → a < length branch → has xs (b a) ≡ true → p a ≡ true) → length xs ≤ count_below 6 p
      few xs p once inside passes =
          let within = distinct_within web.nodes xs (values_at b 6 p) once (λ v h. (are.are v (inside v h)).0) (λ v h.
          let a = place_of branch v (three_among v (inside v h)) in
          let pass = passes a.0 a.1 (ap (has xs) a.2 ∙ h) in
          ap (has (values_at b 6 p)) (sym a.2) ∙ has-values b 6 p a.0 (omega (arith, a.1, whole.holds.0)) pass) in
          omega (arith, within, length-values b 6 p)

      pub three_sides : (length near ≡ 3) × (length far ≡ 3)
      three_sides =
          let few_near = few near (λ a. not (joins three_pairs o a)) sides.near_once (λ v h. (sides.near_are v h).0) (λ a a_in h. not_from_false _ (near_not a h)) in
          let few_far = few far (λ a. joins three_pairs o a) sides.far_once (λ v h. (sides.far_are v h).0) far_joined in
          (omega (arith, few_near, few_far, counts, sides.as_many, three_nodes), omega (arith, few_near, few_far, counts, sides.as_many, three_nodes))

      both_long : length (near ++ far) ≡ 6
      both_long = omega (arith, length-append near far, three_sides)

      both_among : (v : ℕ) → has (near ++ far) v ≡ true → has branch v ≡ true
      both_among v h = elim (has-append near far v h) [
        | inl one ↦ three_among v (sides.near_are v one).0
        | inr two ↦ three_among v (sides.far_are v two).0
      ]

      both_once : IsDistinct eqb (near ++ far)
      both_once = distinct-append near far sides.near_once sides.far_once (λ v one two.
          let a = place_of branch v (three_among v (sides.near_are v one).0) in
          both_ways _ (near_not a.0 (ap (has near) a.2 ∙ one)) (far_joined a.0 a.1 (ap (has far) a.2 ∙ two)))

      both_are : ArePairs (length (near ++ far)) three_pairs
      both_are = let P : ℕ → Type 0 = λ count. ArePairs count three_pairs in subst P (sym both_long) (pairs_by_test 6 three_pairs refl)

      -- what a node is joined to, each node that it is not joined to is joined to
      across : (a c : ℕ) → a < 6 → c < 6 → joins three_pairs o a ≡ false → joins three_pairs o c ≡ true → joins three_pairs a c ≡ true
      across a c a_in c_in apart joined =
          let all = all_below_at 6 (λ x. all_below 6 (λ y. all_below 6 (λ z. joins three_pairs x y || (not (joins three_pairs x z) || joins three_pairs y z)))) refl o home_in in
          let row = all_below_at 6 (λ y. all_below 6 (λ z. joins three_pairs o y || (not (joins three_pairs o z) || joins three_pairs y z))) all a a_in in
          elim (or_cases (joins three_pairs o a) (not (joins three_pairs o c) || joins three_pairs a c)
          (all_below_at 6 (λ z. joins three_pairs o a || (not (joins three_pairs o z) || joins three_pairs a z)) row c c_in)) [
            | inl one ↦ absurd (both_ways _ apart one)
            | inr rest ↦ elim (or_cases (not (joins three_pairs o c)) (joins three_pairs a c) rest) [
              | inl two ↦ absurd (both_ways _ (not-true _ two) joined)
              | inr is ↦ is
            ]
          ]

      -- each pair is of a node of the first three and one of the others
      sorted : (q : ℕ) → q < 9 → ((ends_at three_pairs q).0 < 3) × ((ends_at three_pairs q).1 < 3 → ⊥)
      sorted q q_in =
          let row = all_below_at 9 (λ x. ltb (ends_at three_pairs x).0 3 && not (ltb (ends_at three_pairs x).1 3)) refl q q_in in
          let parts : (ltb (ends_at three_pairs q).0 3 ≡ true) × (not (ltb (ends_at three_pairs q).1 3) ≡ true) = and_parts _ _ row in
          (ltb-true _ _ parts.0, λ low. both_ways _ (not-true _ parts.1) (lt-ltb _ _ low))

      pub three_paths : ArePathsFor web.ends three_pairs (near ++ far) None → ⊥
      three_paths found =
          let q = found.0 in
          let i = (ends_at three_pairs q).0 in
          let j = (ends_at three_pairs q).1 in
          let ins = both_are.inside q found.1 in
          let s = sorted q found.1 in
          let x_near = in_first near far i (omega (arith, s.0, three_sides)) in
          let past : 3 ≤ j = elim (cases_lt j 3) [ inl low ↦ absurd (s.1 low) | inr high ↦ high ] in
          let y_far = in_second near far j (omega (arith, past, three_sides)) (omega (arith, ins.1, length-append near far)) in
          no_path_missing web three_pairs branch paths 3 three_covers (slice_index (near ++ far) i) (slice_index (near ++ far) j)
          (three_among _ (sides.near_are _ x_near).0) (three_among _ (sides.far_are _ y_far).0)
          (λ a c a_in c_in at_x at_y. across a c (omega (arith, a_in, whole.holds.0)) (omega (arith, c_in, whole.holds.0))
          (near_not a (ap (has near) at_x ∙ x_near)) (far_joined c c_in (ap (has far) at_y ∙ y_far)))
          found.2

      pub three_whole : (turns : List (List ℕ)) → ArePathsFor web.ends three_pairs (near ++ far) (Some turns) → IsWhole web (ThreeThree (near ++ far) turns)
      three_whole turns found = record {
        kind = (both_long, found.0);
        holds = (both_long, found_holds web three_pairs branch paths 3 three_covers three_pairs (near ++ far) turns both_are refl both_once both_among found);
        all = found_uses web three_pairs branch paths 3 three_covers three_pairs (near ++ far) turns both_are refl both_once both_among found;
      }

-- ---- what is answered

-- a list, element by element
pub five_elements : (xs : List ℕ) (a c d e f : ℕ) → length xs ≡ 5 → a ≡ get_or xs 0 a → c ≡ get_or xs 1 c → d ≡ get_or xs 2 d → e ≡ get_or xs 3 e → f ≡ get_or xs 4 f →
    a ∷ c ∷ d ∷ e ∷ f ∷ [] ≡ xs
five_elements [] a c d e f fits p q r s t = absurd (omega (arith, fits))
five_elements (x0 ∷ []) a c d e f fits p q r s t = absurd (omega (arith, fits))
five_elements (x0 ∷ x1 ∷ []) a c d e f fits p q r s t = absurd (omega (arith, fits))
five_elements (x0 ∷ x1 ∷ x2 ∷ []) a c d e f fits p q r s t = absurd (omega (arith, fits))
five_elements (x0 ∷ x1 ∷ x2 ∷ x3 ∷ []) a c d e f fits p q r s t = absurd (omega (arith, fits))
five_elements (x0 ∷ x1 ∷ x2 ∷ x3 ∷ x4 ∷ []) a c d e f fits p q r s t = cc
five_elements (x0 ∷ x1 ∷ x2 ∷ x3 ∷ x4 ∷ x5 ∷ xs) a c d e f fits p q r s t = absurd (omega (arith, fits))

three_elements : (xs : List ℕ) (a c d : ℕ) → length xs ≡ 3 → a ≡ get_or xs 0 a → c ≡ get_or xs 1 c → d ≡ get_or xs 2 d → a ∷ c ∷ d ∷ [] ≡ xs
three_elements [] a c d fits p q r = absurd (omega (arith, fits))
three_elements (x0 ∷ []) a c d fits p q r = absurd (omega (arith, fits))
three_elements (x0 ∷ x1 ∷ []) a c d fits p q r = absurd (omega (arith, fits))
three_elements (x0 ∷ x1 ∷ x2 ∷ []) a c d fits p q r = cc
three_elements (x0 ∷ x1 ∷ x2 ∷ x3 ∷ xs) a c d fits p q r = absurd (omega (arith, fits))

pub six_elements : (xs ys : List ℕ) (a c d e f g : ℕ) → length xs ≡ 3 → length ys ≡ 3 → a ≡ get_or xs 0 a → c ≡ get_or xs 1 c → d ≡ get_or xs 2 d →
    e ≡ get_or ys 0 e → f ≡ get_or ys 1 f → g ≡ get_or ys 2 g → a ∷ c ∷ d ∷ e ∷ f ∷ g ∷ [] ≡ xs ++ ys
six_elements xs ys a c d e f g xs_fit ys_fit p q r s t u =
    ap (λ zs. a ∷ c ∷ d ∷ zs) (three_elements ys e f g ys_fit s t u) ∙ ap (λ zs. zs ++ ys) (three_elements xs a c d xs_fit p q r)

-- no path is missing where some Five uses the whole web
pub five_missing : (web : Graph) (nodes list : List ℕ) → AreNodesWith web.ends web.nodes 4 nodes → list ≡ nodes → (found : Option (List (List ℕ))) → ArePathsFor web.ends five_pairs list found → found ≡ None →
    IsFoundFive web None
five_missing web nodes list are same found between none branch paths whole =
    let P : Option (List (List ℕ)) → Type 0 = λ o. ArePathsFor web.ends five_pairs list o in
    let Q : List ℕ → Type 0 = λ xs. ArePathsFor web.ends five_pairs xs None in
    five_paths web branch paths whole nodes are (subst Q same (subst P none between))

pub five_judged : (web : Graph) (nodes list : List ℕ) → AreNodesWith web.ends web.nodes 4 nodes → list ≡ nodes → (turns : List (List ℕ)) (found : Option (List (List ℕ))) →
    ArePathsFor web.ends five_pairs list found → found ≡ Some turns → (r : Result (Option Evidence) AllocError) → IfOk r (IsJudged web (Five list turns)) → IfOk r (IsFoundFive web)
five_judged web nodes list are same turns found between is (Err e) judged = tt
five_judged web nodes list are same turns found between is (Ok (Some e)) judged = judged
five_judged web nodes list are same turns found between is (Ok None) judged = λ branch paths whole.
    let P : Option (List (List ℕ)) → Type 0 = λ o. ArePathsFor web.ends five_pairs list o in
    let Q : List ℕ → Type 0 = λ xs. ArePathsFor web.ends five_pairs xs (Some turns) in
    let R : List ℕ → Type 0 = λ xs. IsWhole web (Five xs turns) in
    judged (subst R (sym same) (five_whole web branch paths whole nodes are turns (subst Q same (subst P is between))))

-- the same of a ThreeThree
pub three_missing : (web : Graph) (nodes near far list : List ℕ) → AreNodesWith web.ends web.nodes 3 nodes → AreSides web.ends nodes near far → list ≡ near ++ far →
    (found : Option (List (List ℕ))) → ArePathsFor web.ends three_pairs list found → found ≡ None → IsFoundThree web None
three_missing web nodes near far list are sides same found between none branch paths whole =
    let P : Option (List (List ℕ)) → Type 0 = λ o. ArePathsFor web.ends three_pairs list o in
    let Q : List ℕ → Type 0 = λ xs. ArePathsFor web.ends three_pairs xs None in
    three_paths web branch paths whole nodes are near far sides (subst Q same (subst P none between))

pub three_judged : (web : Graph) (nodes near far list : List ℕ) → AreNodesWith web.ends web.nodes 3 nodes → AreSides web.ends nodes near far → list ≡ near ++ far →
    (turns : List (List ℕ)) (found : Option (List (List ℕ))) → ArePathsFor web.ends three_pairs list found → found ≡ Some turns →
    (r : Result (Option Evidence) AllocError) → IfOk r (IsJudged web (ThreeThree list turns)) → IfOk r (IsFoundThree web)
three_judged web nodes near far list are sides same turns found between is (Err e) judged = tt
three_judged web nodes near far list are sides same turns found between is (Ok (Some e)) judged = judged
three_judged web nodes near far list are sides same turns found between is (Ok None) judged = λ branch paths whole.
    let P : Option (List (List ℕ)) → Type 0 = λ o. ArePathsFor web.ends three_pairs list o in
    let Q : List ℕ → Type 0 = λ xs. ArePathsFor web.ends three_pairs xs (Some turns) in
    let R : List ℕ → Type 0 = λ xs. IsWhole web (ThreeThree xs turns) in
    judged (subst R (sym same) (three_whole web branch paths whole nodes are near far sides turns (subst Q same (subst P is between))))

-- ---- whether the paths use every segment

-- these are the paths of the evidence, no segment is in them twice, and each is one of the web
pub record ArePathsIn (web : Graph) (evidence : Evidence) (paths : List (List ℕ)) : Type 0 where
  pub same : paths_of evidence ≡ paths
  pub once : IsDistinct eqb (concat paths)
  pub below : (s : ℕ) → has (concat paths) s ≡ true → s < length web.ends

pub paths_in_evidence : (web : Graph) (evidence : Evidence) (paths : List (List ℕ)) → EvidenceHolds web evidence →
    ((branch : List ℕ) × (evidence ≡ Five branch paths)) ⊎ ((branch : List ℕ) × (evidence ≡ ThreeThree branch paths)) → ArePathsIn web evidence paths
paths_in_evidence web evidence paths holds (inl h) =
    let P : Evidence → Type 0 = λ e. EvidenceHolds web e in
    let is : IsFive web h.0 paths = subst P h.1 holds in
    record { same = ap paths_of h.1; once = is.1.once; below = used_in web.ends h.0 five_pairs paths is.1.lead }
paths_in_evidence web evidence paths holds (inr h) =
    let P : Evidence → Type 0 = λ e. EvidenceHolds web e in
    let is : IsThreeThree web h.0 paths = subst P h.1 holds in
    record { same = ap paths_of h.1; once = is.1.once; below = used_in web.ends h.0 three_pairs paths is.1.lead }

pub uses_exactly : (web : Graph) (evidence : Evidence) (paths : List (List ℕ)) → ArePathsIn web evidence paths → (m n : ℕ) → m ≡ length web.ends → n ≡ length (concat paths) →
    IsTrue (eqb m n) ↔ UsesAll web (paths_of evidence)
uses_exactly web evidence paths are m n m_is n_is =
    let P : List (List ℕ) → Type 0 = λ ps. UsesAll web ps in (
      λ t. subst P (sym are.same) (length_by_all (length web.ends) (concat paths) are.once are.below (sym m_is ∙ eqb-true m n t ∙ n_is)),
      λ all. eq-eqb m n (m_is ∙ all_by_length (length web.ends) (concat paths) are.once are.below (subst P are.same all) ∙ sym n_is),
    )
