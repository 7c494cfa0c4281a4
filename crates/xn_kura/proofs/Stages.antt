-- The first flaw of an evidence: there is one at most, and none where the evidence holds.
use Rattle.std.proofs.Common.{◌≡◌, ℕ, suc, ◌<◌, ◌⊎◌, inl, inr, true, false, eqb, List, [], ◌∷◌, ◌++◌, length, refl, sym, ◌∙◌, ap, subst, arith}
use Rattle.std.specs.Prelude.{Result, Ok, Err, IfErr, IsErrOf, IsOk, OnOk, ◌↔◌}
use Rattle.std.specs.List.{IsDistinct, concat}
use Rattle.std.proofs.lemmas.Bool.{cases_order, both_ways, or_left, eq-eqb}
use Rattle.xn_model.specs.Evidence.{IsPathSystem, LeadAll, LeadsTo, all_inner, far_end, five_pairs, three_pairs}
use Rattle.xn_model.specs.Graph.{Graph, ends_at}
use Rattle.xn_model.specs.Lists.{has}
use Rattle.xn_kinds.specs.declared.flaws.EvidenceFlaw.{EvidenceFlaw}
use Rattle.xn_kinds.specs.declared.flaws.EvidenceFlaw.TheVariants.{Branch, Broken, Ends, Twice, Inner}
use Rattle.xn_kinds.specs.declared.flaws.EvidenceFlaw.TheVariants.{List as ListFlaw}
use Rattle.xn_kinds.specs.Row.{EvidenceHolds}
use Rattle.xn_kinds.specs.declared.rows.Evidence.{Evidence}
use Rattle.xn_kinds.specs.declared.rows.Evidence.TheVariants.{Five, ThreeThree}
use Rattle.xn_kura.proofs.Branches.{branches_from}
use Rattle.xn_kura.proofs.Distinct.{distinct-apart, distinct-left}
use Rattle.xn_kura.proofs.UsedPaths.{lead_at}
use Rattle.xn_kura.specs.Flaws.{AreBranches, HasAKind, IsFirstEvidenceFlaw, IsFirstFlawOf, IsFirstRepeat, IsFirstWrong, LeadBefore, begins_at, goes_to, path_at}

-- a walk ends at one node
pub same_end : (ends : List (ℕ × ℕ)) (u v w : ℕ) (path : List ℕ) → LeadsTo ends u path v → LeadsTo ends u path w → v ≡ w
same_end ends u v w [] one two = sym one ∙ two
same_end ends u v w (s ∷ path) one two = same_end ends (far_end (ends_at ends s) u) v w path one.2 two.2

-- ---- repeats

no_repeat : (xs : List ℕ) (x : ℕ) → IsDistinct eqb xs → IsFirstRepeat xs x → ⊥
no_repeat xs x distinct repeat =
    let P : List ℕ → Type 0 = λ zs. IsDistinct eqb zs in
    distinct-apart repeat.0 (x ∷ repeat.1) (subst P repeat.2 distinct) x repeat.4 (or_left (eqb x x) (has repeat.1 x) (eq-eqb x x refl))

-- where two lists begin alike, the shorter front is a part of the longer, or they are one
fronts : (one two : List ℕ) (x y : ℕ) (rest others : List ℕ) → one ++ x ∷ rest ≡ two ++ y ∷ others →
    (x ≡ y) ⊎ (((zs : List ℕ) × (two ≡ one ++ x ∷ zs)) ⊎ ((zs : List ℕ) × (one ≡ two ++ y ∷ zs)))
fronts [] [] x y rest others same = inl (head_is same)
  where
    head_is : {a b : ℕ} {xs ys : List ℕ} → a ∷ xs ≡ b ∷ ys → a ≡ b
    head_is e = cc
fronts [] (b ∷ two) x y rest others same = inr (inl (two, cons_is x b two rest (two ++ y ∷ others) same))
  where
    cons_is : (a b : ℕ) (two xs ys : List ℕ) → a ∷ xs ≡ b ∷ ys → b ∷ two ≡ a ∷ two
    cons_is a b two xs ys e = cc
fronts (a ∷ one) [] x y rest others same = inr (inr (one, cons_is a y one (one ++ x ∷ rest) others same))
  where
    cons_is : (a b : ℕ) (one xs ys : List ℕ) → a ∷ xs ≡ b ∷ ys → a ∷ one ≡ b ∷ one
    cons_is a b one xs ys e = cc
fronts (a ∷ one) (b ∷ two) x y rest others same =
    let parts = cons_parts a b (one ++ x ∷ rest) (two ++ y ∷ others) same in
    elim (fronts one two x y rest others parts.1) [
      | inl is ↦ inl is
      | inr (inl longer) ↦ inr (inl (longer.0, ap (λ c. c ∷ two) (sym parts.0) ∙ ap (λ zs. a ∷ zs) longer.1))
      | inr (inr shorter) ↦ inr (inr (shorter.0, ap (λ c. c ∷ one) parts.0 ∙ ap (λ zs. b ∷ zs) shorter.1))
    ]
  where
    cons_parts : (a b : ℕ) (xs ys : List ℕ) → a ∷ xs ≡ b ∷ ys → (a ≡ b) × (xs ≡ ys)
    cons_parts a b xs ys e = (cc, cc)

-- what stands in a list without repeats stands nowhere after itself
not_again : (one zs : List ℕ) (x : ℕ) → IsDistinct eqb (one ++ x ∷ zs) → has one x ≡ true → ⊥
not_again one zs x distinct met = distinct-apart one (x ∷ zs) distinct x met (or_left (eqb x x) (has zs x) (eq-eqb x x refl))

one_repeat : (xs : List ℕ) (x y : ℕ) → IsFirstRepeat xs x → IsFirstRepeat xs y → x ≡ y
one_repeat xs x y a b =
    let P : List ℕ → Type 0 = λ zs. IsDistinct eqb zs in
    elim (fronts a.0 b.0 x y a.1 b.1 (sym a.2 ∙ b.2)) [
      | inl same ↦ same
      | inr (inl longer) ↦ absurd (not_again a.0 longer.0 x (subst P longer.1 b.3) a.4)
      | inr (inr shorter) ↦ absurd (not_again b.0 shorter.0 y (subst P shorter.1 a.3) b.4)
    ]

-- ---- paths

pub lead_all : (ends : List (ℕ × ℕ)) (branch : List ℕ) (pairs : List (ℕ × ℕ)) (paths : List (List ℕ)) → length paths ≡ length pairs → LeadBefore ends pairs branch paths (length pairs) → LeadAll ends branch pairs paths
lead_all ends branch [] [] same before = tt
lead_all ends branch [] (path ∷ paths) same before = absurd (omega (arith, same))
lead_all ends branch (p ∷ pairs) [] same before = absurd (omega (arith, same))
lead_all ends branch (p ∷ pairs) (path ∷ paths) same before = (before 0 (omega arith), lead_all ends branch pairs paths (omega (arith, same)) (λ i i_in. before (suc i) (omega (arith, i_in))))

module _ (web : Graph) (pairs : List (ℕ × ℕ)) (branch : List ℕ) (paths : List (List ℕ)) where
  abbrev Flaw : EvidenceFlaw → Type 0
  Flaw = IsFirstEvidenceFlaw web pairs branch paths

  abbrev Leads : ℕ → Type 0
  Leads q = LeadsTo web.ends (begins_at pairs branch q) (path_at paths q) (goes_to pairs branch q)

  -- the path at place q is the first that doesn't lead
  abbrev IsFirstAstray : ℕ → Type 0
  IsFirstAstray q = (q < length pairs) × LeadBefore web.ends pairs branch paths q × (Leads q → ⊥)

  broken : (q : ℕ) → Flaw (Broken q) → IsFirstAstray q
  broken q flaw = (flaw.1, flaw.2, flaw.3 (goes_to pairs branch q))

  elsewhere : (q : ℕ) → Flaw (Ends q) → IsFirstAstray q
  elsewhere q flaw = (flaw.1, flaw.2, λ leads. flaw.3.2 (same_end web.ends _ _ _ (path_at paths q) flaw.3.1 leads))

  one_astray : (q r : ℕ) → IsFirstAstray q → IsFirstAstray r → q ≡ r
  one_astray q r a b = elim (cases_order q r) [
    | inl same ↦ same
    | inr (inl below) ↦ absurd (a.2 (b.1 q below))
    | inr (inr above) ↦ absurd (b.2 (a.1 r above))
  ]

  not_all : (q : ℕ) → IsFirstAstray q → LeadAll web.ends branch pairs paths → ⊥
  not_all q astray lead = astray.2 (lead_at web.ends branch pairs paths lead q astray.0)

  not_right : (i : ℕ) → IsFirstWrong web.nodes branch i → AreBranches web.nodes branch → ⊥
  not_right i wrong are = both_ways _ (are i wrong.0) wrong.1

  one_wrong : (i j : ℕ) → IsFirstWrong web.nodes branch i → IsFirstWrong web.nodes branch j → i ≡ j
  one_wrong i j a b = elim (cases_order i j) [
    | inl same ↦ same
    | inr (inl below) ↦ absurd (both_ways _ (b.2 i below) a.1)
    | inr (inr above) ↦ absurd (both_ways _ (a.2 j above) b.1)
  ]

  -- not in one path both
  not_both : (q : ℕ) → Flaw (Broken q) → Flaw (Ends q) → ⊥
  not_both q a b = a.3 b.3.0 b.3.1

  pub one_flaw : (f g : EvidenceFlaw) → Flaw f → Flaw g → f ≡ g
  one_flaw (Branch i) (Branch j) a b = ap Branch (one_wrong i j a b)
  one_flaw (Branch i) (Broken r) a b = absurd (not_right i a b.0)
  one_flaw (Branch i) (Ends r) a b = absurd (not_right i a b.0)
  one_flaw (Branch i) (Twice t) a b = absurd (not_right i a b.0)
  one_flaw (Branch i) (Inner w) a b = absurd (not_right i a b.0)
  one_flaw (Broken q) (Branch j) a b = absurd (not_right j b a.0)
  one_flaw (Broken q) (Broken r) a b = ap Broken (one_astray q r (broken q a) (broken r b))
  one_flaw (Broken q) (Ends r) a b =
      let same = one_astray q r (broken q a) (elsewhere r b) in
      let P : ℕ → Type 0 = λ x. Flaw (Broken x) in
      absurd (not_both r (subst P same a) b)
  one_flaw (Broken q) (Twice t) a b = absurd (not_all q (broken q a) b.1)
  one_flaw (Broken q) (Inner w) a b = absurd (not_all q (broken q a) b.1)
  one_flaw (Ends q) (Branch j) a b = absurd (not_right j b a.0)
  one_flaw (Ends q) (Broken r) a b =
      let same = one_astray q r (elsewhere q a) (broken r b) in
      let P : ℕ → Type 0 = λ x. Flaw (Ends x) in
      absurd (not_both r b (subst P same a))
  one_flaw (Ends q) (Ends r) a b = ap Ends (one_astray q r (elsewhere q a) (elsewhere r b))
  one_flaw (Ends q) (Twice t) a b = absurd (not_all q (elsewhere q a) b.1)
  one_flaw (Ends q) (Inner w) a b = absurd (not_all q (elsewhere q a) b.1)
  one_flaw (Twice s) (Branch j) a b = absurd (not_right j b a.0)
  one_flaw (Twice s) (Broken r) a b = absurd (not_all r (broken r b) a.1)
  one_flaw (Twice s) (Ends r) a b = absurd (not_all r (elsewhere r b) a.1)
  one_flaw (Twice s) (Twice t) a b = ap Twice (one_repeat (concat paths) s t a.2 b.2)
  one_flaw (Twice s) (Inner w) a b = absurd (no_repeat (concat paths) s b.2 a.2)
  one_flaw (Inner v) (Branch j) a b = absurd (not_right j b a.0)
  one_flaw (Inner v) (Broken r) a b = absurd (not_all r (broken r b) a.1)
  one_flaw (Inner v) (Ends r) a b = absurd (not_all r (elsewhere r b) a.1)
  one_flaw (Inner v) (Twice t) a b = absurd (no_repeat (concat paths) t a.2 b.2)
  one_flaw (Inner v) (Inner w) a b = ap Inner (one_repeat (branch ++ all_inner web.ends branch pairs paths) v w a.3 b.3)
  one_flaw (ListFlaw i) g a b = absurd a
  one_flaw f (ListFlaw j) a b = absurd b

  pub no_flaw : (f : EvidenceFlaw) → Flaw f → IsPathSystem web pairs branch paths → ⊥
  no_flaw (Branch i) flaw is = not_right i flaw (branches_from web.nodes branch is.below (distinct-left branch _ is.no_node_twice))
  no_flaw (Broken q) flaw is = not_all q (broken q flaw) is.lead
  no_flaw (Ends q) flaw is = not_all q (elsewhere q flaw) is.lead
  no_flaw (Twice s) flaw is = no_repeat (concat paths) s is.once flaw.2
  no_flaw (Inner v) flaw is = no_repeat (branch ++ all_inner web.ends branch pairs paths) v is.no_node_twice flaw.3
  no_flaw (ListFlaw i) flaw is = flaw

  -- an answer that is a flaw only where that is the first, and none only where the evidence holds, is exact
  pub exact : (r : Result (Unit {0}) EvidenceFlaw) → OnOk r (IsPathSystem web pairs branch paths) → IfErr r Flaw →
      (IsOk r ↔ IsPathSystem web pairs branch paths) × ((f : EvidenceFlaw) → IsErrOf r f ↔ Flaw f)
  exact (Ok u) ok err = ((λ t. ok, λ is. refl), λ f. (λ e. absurd (cc), λ flaw. absurd (no_flaw f flaw ok)))
  exact (Err g) ok err = (
    (λ t. absurd (both_ways false refl t), λ is. absurd (no_flaw g err is)),
    λ f. (
      λ e. let P : Result (Unit {0}) EvidenceFlaw → Type 0 = λ r. IfErr r Flaw in subst P e err,
      λ flaw. ap Err (one_flaw g f err flaw),
    ),
  )

-- what it is to be exact for an evidence
abbrev pub IsExact : Graph → Result (Unit {0}) EvidenceFlaw → Evidence → Type 0
IsExact web r evidence = (IsOk r ↔ EvidenceHolds web evidence) × ((f : EvidenceFlaw) → IsErrOf r f ↔ IsFirstFlawOf web evidence f)

pub exact_five : (web : Graph) (evidence : Evidence) (branch : List ℕ) (paths : List (List ℕ)) (r : Result (Unit {0}) EvidenceFlaw) → evidence ≡ Five branch paths → HasAKind evidence →
    OnOk r (IsPathSystem web five_pairs branch paths) → IfErr r (IsFirstEvidenceFlaw web five_pairs branch paths) → IsExact web r evidence
exact_five web evidence branch paths r is kind ok err =
    let five : HasAKind (Five branch paths) = subst HasAKind is kind in
    let all = exact web five_pairs branch paths r ok err in
    subst (IsExact web r) (sym is) ((λ t. (five.0, all.0.0 t), λ holds. all.0.1 holds.1), all.1)

pub exact_three_three : (web : Graph) (evidence : Evidence) (branch : List ℕ) (paths : List (List ℕ)) (r : Result (Unit {0}) EvidenceFlaw) → evidence ≡ ThreeThree branch paths → HasAKind evidence →
    OnOk r (IsPathSystem web three_pairs branch paths) → IfErr r (IsFirstEvidenceFlaw web three_pairs branch paths) → IsExact web r evidence
exact_three_three web evidence branch paths r is kind ok err =
    let six : HasAKind (ThreeThree branch paths) = subst HasAKind is kind in
    let all = exact web three_pairs branch paths r ok err in
    subst (IsExact web r) (sym is) ((λ t. (six.0, all.0.0 t), λ holds. all.0.1 holds.1), all.1)
