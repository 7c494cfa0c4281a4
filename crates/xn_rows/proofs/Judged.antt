-- An evidence holds, or has a flaw: each test of it has an end.
use Rattle.std.proofs.Common.{◌≡◌, ℕ, ◌<◌, ◌⊎◌, inl, inr, Bool, true, false, not, ◌||◌, eqb, get_or, List, [], ◌∷◌, ◌++◌, length, append_assoc, refl, sym, subst, arith}
use Rattle.std.specs.Prelude.{All, nat_eq, slice_index}
use Rattle.std.specs.List.{AllByRecursion, IsDistinct, concat}
use Rattle.std.proofs.lemmas.Bool.{both_ways, cases_Bool, cases_eq, cases_lt, false_from_ne_true, ltb-true}
use Rattle.std.proofs.lemmas.List.{append-nil, get_or_default}
use Rattle.xn_model.specs.Evidence.{IsPathSystem, LeadsTo, all_inner, far_end}
use Rattle.xn_model.specs.Graph.{Graph, ends_at, touches}
use Rattle.xn_model.specs.Insertion.{GrowsFromFirst}
use Rattle.xn_model.specs.Lists.{at, has}
use Rattle.xn_kinds.specs.declared.flaws.EvidenceFlaw.{EvidenceFlaw}
use Rattle.xn_kinds.specs.declared.flaws.EvidenceFlaw.TheVariants.{Branch, Broken, Ends, Twice, Inner}
use Rattle.xn_orders.proofs.First.{Decided, first_so}
use Rattle.xn_extend.specs.ListFlaw.{IsListFlaw, IsMisfit, share_node}
use Rattle.xn_extend.proofs.Listing.{grows_from_fit}
use Rattle.xn_kura.specs.Flaws.{AreBranches, IsBroken, IsFirstEvidenceFlaw, IsFirstRepeat, LeadBefore, begins_at, goes_to, path_at, wrong_branch}
use Rattle.xn_kura.proofs.Stages.{lead_all, same_end}

decide_true : (b : Bool) → Decided (b ≡ true)
decide_true b = elim (cases_Bool b) [ inl is ↦ inl is | inr away ↦ inr (λ is. both_ways _ away is) ]

-- ---- repeats

distinct-push : (xs : List ℕ) (x : ℕ) → IsDistinct nat_eq xs → has xs x ≡ false → IsDistinct nat_eq (xs ++ x ∷ [])
unfolding IsDistinct
distinct-push [] x d out = (tt, tt)
distinct-push (y ∷ xs) x d out =
    let parts : (eqb y x ≡ false) × (has xs x ≡ false) = neither (eqb y x) (has xs x) out in
    (pushed xs d.0 parts.0, distinct-push xs x d.1 parts.1)
  where
    neither : (a b : Bool) → (a || b) ≡ false → (a ≡ false) × (b ≡ false)
    neither true b h = absurd (both_ways true h refl)
    neither false b h = (refl, h)

    pushed : (zs : List ℕ) → AllByRecursion (λ z. eqb y z ≡ false) zs → eqb y x ≡ false → AllByRecursion (λ z. eqb y z ≡ false) (zs ++ x ∷ [])
    pushed [] all last = (last, tt)
    pushed (z ∷ zs) all last = (all.0, pushed zs all.1 last)

-- a list has no repeats, or a first one
abbrev HasRepeatOrNone : List ℕ → Type 0
HasRepeatOrNone xs = IsDistinct nat_eq xs ⊎ ((x : ℕ) × IsFirstRepeat xs x)

repeats_after : (before rest : List ℕ) → IsDistinct nat_eq before → HasRepeatOrNone (before ++ rest)
repeats_after before [] distinct = inl (subst (IsDistinct nat_eq) (sym (append-nil before)) distinct)
repeats_after before (x ∷ rest) distinct = elim (cases_Bool (has before x)) [
  | inl met ↦ inr (x, (before, rest, refl, distinct, met))
  | inr new ↦ subst HasRepeatOrNone (append_assoc before (x ∷ []) rest) (repeats_after (before ++ x ∷ []) rest (distinct-push before x distinct new))
]

none_distinct : IsDistinct nat_eq []
unfolding IsDistinct
none_distinct = tt

repeats : (xs : List ℕ) → HasRepeatOrNone xs
repeats xs = repeats_after [] xs none_distinct

-- ---- walks

walk_or_broken : (ends : List (ℕ × ℕ)) (u : ℕ) (path : List ℕ) → ((v : ℕ) × LeadsTo ends u path v) ⊎ IsBroken ends u path
walk_or_broken ends u [] = inl (u, refl)
walk_or_broken ends u (s ∷ path) = elim (cases_lt s (length ends)) [
  | inr high ↦ inr (λ v leads. omega (arith, high, leads.0))
  | inl low ↦ elim (cases_Bool (touches (ends_at ends s) u)) [
    | inr away ↦ inr (λ v leads. both_ways _ away leads.1)
    | inl meets ↦ elim (walk_or_broken ends (far_end (ends_at ends s) u) path) [
      | inl found ↦ inl (found.0, (low, meets, found.1))
      | inr broken ↦ inr (λ v leads. broken v leads.2)
    ]
  ]
]

-- ---- branch nodes and paths

neither_wrong : (a b : Bool) → (not a || b) ≡ false → a ≡ true
neither_wrong true b h = refl
neither_wrong false b h = absurd (both_ways true h refl)

branches_below : (nodes : ℕ) (branch : List ℕ) → AreBranches nodes branch → All (λ v. v < nodes) branch
branches_below nodes branch are i d low =
    let v = slice_index branch i in
    let same : get_or branch i d ≡ v = get_or_default branch i d 0 low in
    let below = ltb-true v nodes (neither_wrong _ _ (are i low)) in
    omega (arith, same, below)

module _ (web : Graph) (pairs : List (ℕ × ℕ)) (branch : List ℕ) (paths : List (List ℕ)) (fits : length paths ≡ length pairs) where
  -- the paths are a subdivision, or have a first flaw
  abbrev Ended : Type 0
  Ended = IsPathSystem web pairs branch paths ⊎ ((x : EvidenceFlaw) × IsFirstEvidenceFlaw web pairs branch paths x)

  abbrev Leads : ℕ → Type 0
  Leads q = LeadsTo web.ends (begins_at pairs branch q) (path_at paths q) (goes_to pairs branch q)

  decide_leads : (q : ℕ) → Decided (Leads q)
  decide_leads q =
      let u = begins_at pairs branch q in
      let v = goes_to pairs branch q in
      elim (walk_or_broken web.ends u (path_at paths q)) [
        | inr broken ↦ inr (broken v)
        | inl found ↦ elim (cases_eq found.0 v) [
          | inl same ↦ inl (subst (LeadsTo web.ends u (path_at paths q)) same found.1)
          | inr other ↦ inr (λ leads. other (same_end web.ends u found.0 v (path_at paths q) found.1 leads))
        ]
      ]

  leads_where_not_astray : (q : ℕ) → ((Leads q → ⊥) → ⊥) → Leads q
  leads_where_not_astray q right = elim (decide_leads q) [ inl leads ↦ leads | inr astray ↦ absurd (right astray) ]

  decide_astray : (q : ℕ) → Decided (Leads q → ⊥)
  decide_astray q = elim (decide_leads q) [ inl leads ↦ inr (λ astray. astray leads) | inr astray ↦ inl astray ]

  from_paths : AreBranches web.nodes branch → LeadBefore web.ends pairs branch paths (length pairs) → Ended
  from_paths are before =
      let lead = lead_all web.ends branch pairs paths fits before in
      elim (repeats (concat paths)) [
        | inr twice ↦ inr (Twice twice.0, (are, lead, twice.1))
        | inl once ↦ elim (repeats (branch ++ all_inner web.ends branch pairs paths)) [
          | inr met ↦ inr (Inner met.0, (are, lead, once, met.1))
          | inl apart ↦ inl (record { below = branches_below web.nodes branch are; lead = lead; once = once; no_node_twice = apart })
        ]
      ]

  from_branches : AreBranches web.nodes branch → Ended
  from_branches are = elim (first_so (λ q. Leads q → ⊥) (length pairs) (λ q low. decide_astray q)) [
    | inr none ↦ from_paths are (λ q low. leads_where_not_astray q (none q low))
    | inl found ↦
        let q = found.0 in
        let before : LeadBefore web.ends pairs branch paths q = λ i low. leads_where_not_astray i (found.2.before i low) in
        elim (walk_or_broken web.ends (begins_at pairs branch q) (path_at paths q)) [
          | inr broken ↦ inr (Broken q, (are, found.1, before, broken))
          | inl walk ↦
              let P : ℕ → Type 0 = LeadsTo web.ends (begins_at pairs branch q) (path_at paths q) in
              inr (Ends q, (are, found.1, before, (walk.0, walk.1, λ same. found.2.here (subst P same walk.1))))
        ]
  ]

  pub subdivision_or_flaw : Ended
  subdivision_or_flaw = elim (first_so (λ i. wrong_branch web.nodes branch i ≡ true) (length branch) (λ i low. decide_true (wrong_branch web.nodes branch i))) [
    | inl found ↦ inr (Branch found.0, (found.1, found.2.here, λ j below. false_from_ne_true _ (found.2.before j below)))
    | inr none ↦ from_branches (λ i low. false_from_ne_true _ (none i low))
  ]

-- ---- lists of segments

decide_misfit : (ends : List (ℕ × ℕ)) (list : List ℕ) (p : ℕ) → Decided (IsMisfit ends list p)
decide_misfit ends list p = elim (cases_lt (at list p) (length ends)) [
  | inr high ↦ inl (inl high)
  | inl low ↦ elim (first_so (λ i. at list i ≡ at list p) p (λ i below. cases_eq (at list i) (at list p))) [
    | inl twice ↦ inl (inr (inl (twice.0, twice.1, twice.2.here)))
    | inr once ↦ elim (cases_lt 0 p) [
      | inr first ↦ inr (λ wrong. elim wrong [
        | inl high ↦ omega (arith, low, high)
        | inr (inl twice) ↦ once twice.0 twice.1 twice.2
        | inr (inr alone) ↦ omega (arith, first, alone.0)
      ])
      | inl later ↦ elim (first_so (λ i. share_node ends (at list i) (at list p) ≡ true) p (λ i below. decide_true (share_node ends (at list i) (at list p)))) [
        | inl shared ↦ inr (λ wrong. elim wrong [
          | inl high ↦ omega (arith, low, high)
          | inr (inl twice) ↦ once twice.0 twice.1 twice.2
          | inr (inr alone) ↦ alone.1 (shared.0, shared.1, shared.2.here)
        ])
        | inr none ↦ inl (inr (inr (later, λ shared. none shared.0 shared.1 shared.2)))
      ]
    ]
  ]
]

-- a list grows, or has a flaw
pub grows_or_flaw : (ends : List (ℕ × ℕ)) (list : List ℕ) → GrowsFromFirst ends list ⊎ ((place : ℕ) × IsListFlaw ends list place)
grows_or_flaw ends list = elim (cases_lt 0 (length list)) [
  | inr empty ↦ inr (0, inl (omega (arith, empty), refl))
  | inl some ↦ elim (first_so (IsMisfit ends list) (length list) (λ p low. decide_misfit ends list p)) [
    | inl found ↦ inr (found.0, inr (found.1, found.2))
    | inr fit ↦ inl (grows_from_fit ends list some fit)
  ]
]
