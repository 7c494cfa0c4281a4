-- The paths of a subdivision: their segments, their darts and their inner nodes.
use Rattle.std.proofs.Common.{◌≡◌, ℕ, zero, suc, ◌*◌, ◌/◌, ◌<◌, inl, inr, true, false, eqb, List, [], ◌∷◌, ◌++◌, length, refl, sym, ◌∙◌, ap, arith}
use Rattle.std.specs.List.{IsDistinct, concat}
use Rattle.std.specs.Prelude.{slice_index}
use Rattle.std.proofs.lemmas.Bool.{both_ways, or_cases, eqb-true, ne_eqb}
use Rattle.xn_model.specs.Evidence.{LeadAll, LeadsTo, all_inner, far_end, inner_nodes}
use Rattle.xn_model.specs.Graph.{ends_at}
use Rattle.xn_model.specs.Lists.{has, one_if}
use Rattle.xn_model.specs.Map.{tail_of}
use Rattle.xn_model.proofs.Has.{has-append, has-at, has-left, has-right}
use Rattle.xn_kura.proofs.Distinct.{distinct-apart, distinct-left, distinct-right}
use Rattle.xn_kura.proofs.Path.{count_at, dart_on, darts}
use Rattle.xn_kura.proofs.Tally.{count_if, count_if-append}
use Rattle.xn_kura.specs.Flaws.{path_at}

-- a segment of a path is used, and by one path alone
pub has-concat : (paths : List (List ℕ)) (q s : ℕ) → has (path_at paths q) s ≡ true → has (concat paths) s ≡ true
has-concat [] q s h = absurd (both_ways false refl h)
has-concat (path ∷ paths) zero s h = has-left path (concat paths) s h
has-concat (path ∷ paths) (suc q) s h = has-right path (concat paths) s (has-concat paths q s h)

pub one_path : (paths : List (List ℕ)) → IsDistinct eqb (concat paths) → (q r s : ℕ) → has (path_at paths q) s ≡ true → has (path_at paths r) s ≡ true → q ≡ r
one_path [] d q r s a b = absurd (both_ways false refl a)
one_path (path ∷ paths) d zero zero s a b = refl
one_path (path ∷ paths) d zero (suc r) s a b = absurd (distinct-apart path (concat paths) d s a (has-concat paths r s b))
one_path (path ∷ paths) d (suc q) zero s a b = absurd (distinct-apart path (concat paths) d s b (has-concat paths q s a))
one_path (path ∷ paths) d (suc q) (suc r) s a b = ap suc (one_path paths (distinct-right path (concat paths) d) q r s a b)

pub path_distinct : (paths : List (List ℕ)) → IsDistinct eqb (concat paths) → (q : ℕ) → IsDistinct eqb (path_at paths q)
unfolding IsDistinct
path_distinct [] d q = tt
path_distinct (path ∷ paths) d zero = distinct-left path (concat paths) d
path_distinct (path ∷ paths) d (suc q) = path_distinct paths (distinct-right path (concat paths) d) q

module _ (ends : List (ℕ × ℕ)) (branch : List ℕ) where
  abbrev b : ℕ → ℕ
  b i = slice_index branch i

  unfoldable pub all_darts : List (ℕ × ℕ) → List (List ℕ) → List ℕ
  all_darts [] paths = []
  all_darts (p ∷ pairs) [] = []
  all_darts (p ∷ pairs) (path ∷ paths) = darts ends (b p.0) path ++ all_darts pairs paths

  pub lead_at : (pairs : List (ℕ × ℕ)) (paths : List (List ℕ)) → LeadAll ends branch pairs paths → (q : ℕ) → q < length pairs → LeadsTo ends (b (ends_at pairs q).0) (path_at paths q) (b (ends_at pairs q).1)
  lead_at [] [] lead q q_in = absurd (omega arith)
  lead_at [] (path ∷ paths) lead q q_in = absurd lead
  lead_at (p ∷ pairs) [] lead q q_in = absurd lead
  lead_at (p ∷ pairs) (path ∷ paths) lead zero q_in = lead.0
  lead_at (p ∷ pairs) (path ∷ paths) lead (suc q) q_in = lead_at pairs paths lead.1 q (omega arith)

  pub inner_at : (pairs : List (ℕ × ℕ)) (paths : List (List ℕ)) → LeadAll ends branch pairs paths → (q : ℕ) → q < length pairs → (w : ℕ) →
      has (inner_nodes ends (b (ends_at pairs q).0) (path_at paths q)) w ≡ true → has (all_inner ends branch pairs paths) w ≡ true
  inner_at [] [] lead q q_in w h = absurd (omega arith)
  inner_at [] (path ∷ paths) lead q q_in w h = absurd lead
  inner_at (p ∷ pairs) [] lead q q_in w h = absurd lead
  inner_at (p ∷ pairs) (path ∷ paths) lead zero q_in w h = has-left _ (all_inner ends branch pairs paths) w h
  inner_at (p ∷ pairs) (path ∷ paths) lead (suc q) q_in w h = has-right (inner_nodes ends (b p.0) path) _ w (inner_at pairs paths lead.1 q (omega arith) w h)

  -- a dart of a used segment is one of a path
  pub path_of : (pairs : List (ℕ × ℕ)) (paths : List (List ℕ)) → LeadAll ends branch pairs paths → (z : ℕ) → has (concat paths) (z / 2) ≡ true →
      (q : ℕ) × (q < length pairs) × (has (path_at paths q) (z / 2) ≡ true)
  path_of [] [] lead z h = absurd (both_ways false refl h)
  path_of [] (path ∷ paths) lead z h = absurd lead
  path_of (p ∷ pairs) [] lead z h = absurd lead
  path_of (p ∷ pairs) (path ∷ paths) lead z h = elim (has-append path (concat paths) (z / 2) h) [
    | inl here ↦ (0, omega arith, here)
    | inr later ↦ let found = path_of pairs paths lead.1 z later in (suc found.0, omega (arith, found.1), found.2)
  ]

  pub has-all_darts : (pairs : List (ℕ × ℕ)) (paths : List (List ℕ)) → LeadAll ends branch pairs paths → (z : ℕ) → has (concat paths) (z / 2) ≡ true → has (all_darts pairs paths) z ≡ true
  unfolding all_darts
  has-all_darts [] [] lead z h = absurd (both_ways false refl h)
  has-all_darts [] (path ∷ paths) lead z h = absurd lead
  has-all_darts (p ∷ pairs) [] lead z h = absurd lead
  has-all_darts (p ∷ pairs) (path ∷ paths) lead z h = elim (has-append path (concat paths) (z / 2) h) [
    | inl here ↦ has-left _ (all_darts pairs paths) z (dart_on ends (b p.0) (b p.1) path lead.0 z here)
    | inr later ↦ has-right (darts ends (b p.0) path) _ z (has-all_darts pairs paths lead.1 z later)
  ]

  -- each pair names branch nodes
  abbrev pub PairsIn : List (ℕ × ℕ) → Type 0
  PairsIn pairs = (q : ℕ) → q < length pairs → ((ends_at pairs q).0 < length branch) × ((ends_at pairs q).1 < length branch)

  -- how many darts leave a node that is no branch node
  pub count_all : (w : ℕ) → has branch w ≡ false → (pairs : List (ℕ × ℕ)) (paths : List (List ℕ)) → PairsIn pairs → LeadAll ends branch pairs paths →
      count_if (λ z. eqb (tail_of ends z) w) (all_darts pairs paths) ≡ 2 * count_if (λ x. eqb x w) (all_inner ends branch pairs paths)
  unfolding all_darts
  count_all w no_branch [] [] pairs_in lead = refl
  count_all w no_branch [] (path ∷ paths) pairs_in lead = absurd lead
  count_all w no_branch (p ∷ pairs) [] pairs_in lead = absurd lead
  count_all w no_branch (p ∷ pairs) (path ∷ paths) pairs_in lead =
      let rest = count_all w no_branch pairs paths (λ q q_in. pairs_in (suc q) (omega arith)) lead.1 in
      let away : (i : ℕ) → i < length branch → one_if (eqb (b i) w) ≡ 0 = λ i i_in. ap one_if (ne_eqb _ _ (λ e. both_ways _ no_branch (ap (has branch) (sym e) ∙ has-at branch i i_in))) in
      let ins = pairs_in 0 (omega arith) in
      omega (
        arith,
        rest,
        here path lead.0 (away p.0 ins.0) (away p.1 ins.1),
        count_if-append (λ z. eqb (tail_of ends z) w) (darts ends (b p.0) path) (all_darts pairs paths),
        count_if-append (λ x. eqb x w) (inner_nodes ends (b p.0) path) (all_inner ends branch pairs paths),
      )
    where
      here : (path : List ℕ) → LeadsTo ends (b p.0) path (b p.1) → one_if (eqb (b p.0) w) ≡ 0 → one_if (eqb (b p.1) w) ≡ 0 →
          count_if (λ z. eqb (tail_of ends z) w) (darts ends (b p.0) path) ≡ 2 * count_if (λ x. eqb x w) (inner_nodes ends (b p.0) path)
      here [] leads one two = refl
      here (s ∷ path) leads one two = omega (arith, one, two, count_at ends w (b p.0) (b p.1) s path leads)

  -- a used segment is one of the web
  pub used_in : (pairs : List (ℕ × ℕ)) (paths : List (List ℕ)) → LeadAll ends branch pairs paths → (s : ℕ) → has (concat paths) s ≡ true → s < length ends
  used_in [] [] lead s h = absurd (both_ways false refl h)
  used_in [] (path ∷ paths) lead s h = absurd lead
  used_in (p ∷ pairs) [] lead s h = absurd lead
  used_in (p ∷ pairs) (path ∷ paths) lead s h = elim (has-append path (concat paths) s h) [
    | inl here ↦ along (b p.0) (b p.1) path lead.0 s here
    | inr later ↦ used_in pairs paths lead.1 s later
  ]
    where
      along : (u v : ℕ) (path : List ℕ) → LeadsTo ends u path v → (s : ℕ) → has path s ≡ true → s < length ends
      along u v [] leads s h = absurd (both_ways false refl h)
      along u v (t ∷ path) leads s h = elim (or_cases (eqb t s) (has path s) h) [
        | inl here ↦ let same : t ≡ s = eqb-true t s here in omega (arith, leads.0, same)
        | inr later ↦ along (far_end (ends_at ends t) u) v path leads.2 s later
      ]
