-- Maps and walks that have all that a loose drawing has are one, and those that have a flaw are none.
use Rattle.std.proofs.Common.{◌≡◌, ℕ, zero, suc, ◌-◌, ◌<◌, ◌≤◌, inl, inr, true, false, List, [], ◌∷◌, length, refl, sym, ◌∙◌, ap, subst, arith}
use Rattle.std.specs.List.{flat_map, range_with_len}
use Rattle.std.proofs.lemmas.Bool.{both_ways, cases_Bool, cases_eq, cases_lt, cases_order}
use Rattle.xn_model.specs.Graph.{Graph, IsGraph, edges_of, ends_at}
use Rattle.xn_model.specs.Lists.{at, has}
use Rattle.xn_model.specs.Loose.{GoesStraight, IsLoose, times_walked}
use Rattle.xn_model.specs.Map.{MeetsEuler, WalksTo, reverse_of, tail_of}
use Rattle.xn_model.proofs.Ranges.{edge_list}
use Rattle.xn_genus.proofs.Compress.{tail_in}
use Rattle.xn_graph.specs.Counts.{IsBalanced}
use Rattle.xn_map.specs.Listed.{IsListedMap, ListedMap}
use Rattle.xn_track.proofs.Passes.{walk_in}
use Rattle.xn_insert.specs.Judged.{FlawedIsNotDrawn, HasSizes, HasTurns, IsBent, IsCrossing, IsDrawnLoosely, IsFirstFailing, IsMade, IsWalkedOnce, LeadsWell, OneLooseFlaw, darts_walked}
use Rattle.xn_insert.specs.ListedLoose.{edges_in, has_dart, loose_of, walk_of}
use Rattle.xn_insert.specs.declared.flaws.LooseFlaw.TheVariants.{Size, Ends, Walked, Turn, Genus}
use Rattle.xn_insert.proofs.Started.{all_in, below_range, has-range}

-- ---- straight walks by their places

straight_at : (n : ℕ) (ends : List (ℕ × ℕ)) (next : ℕ → ℕ) (ds : List ℕ) → GoesStraight n ends next ds → (i : ℕ) → suc i < length ds →
    (n ≤ tail_of ends (at ds (suc i))) × (next (next (reverse_of (at ds i))) ≡ at ds (suc i))
straight_at n ends next [] goes i i_in = absurd (omega (arith, i_in))
straight_at n ends next (d ∷ []) goes i i_in = absurd (omega (arith, i_in))
straight_at n ends next (d ∷ e ∷ ds) goes zero i_in = (goes.0, goes.1)
straight_at n ends next (d ∷ e ∷ ds) goes (suc i) i_in = straight_at n ends next (e ∷ ds) goes.2 i (omega (arith, i_in))

straight_by : (n : ℕ) (ends : List (ℕ × ℕ)) (next : ℕ → ℕ) (ds : List ℕ) →
    ((i : ℕ) → suc i < length ds → (n ≤ tail_of ends (at ds (suc i))) × (next (next (reverse_of (at ds i))) ≡ at ds (suc i))) → GoesStraight n ends next ds
straight_by n ends next [] each = tt
straight_by n ends next (d ∷ []) each = tt
straight_by n ends next (d ∷ e ∷ ds) each =
    let here = each 0 (omega arith) in
    (here.0, here.1, straight_by n ends next (e ∷ ds) (λ i i_in. each (suc i) (omega (arith, i_in))))

no_walk : (walks : List (List ℕ)) (e : ℕ) → length walks ≤ e → walk_of walks e ≡ []
no_walk [] e past = refl
no_walk (w ∷ walks) zero past = absurd (omega (arith, past))
no_walk (w ∷ walks) (suc e) past = no_walk walks e (omega (arith, past))

no_darts : (ds : List ℕ) → has_dart ds ≡ false → ds ≡ []
no_darts [] none = refl
no_darts (d ∷ ds) none = absurd (both_ways _ none refl)

-- the darts of all walks are those of the walks of all edges
same_darts : (g : Graph) (walks : List (List ℕ)) → length walks ≡ length g.ends → darts_walked walks ≡ flat_map (walk_of walks) (edges_of g)
same_darts g walks size = ap (λ n. flat_map (walk_of walks) (range_with_len 0 n)) size

-- ---- what has no flaw

module _ (g : Graph) (m : ListedMap) (walks : List (List ℕ)) (is_graph : IsGraph g) (listed : IsListedMap m) (turns : HasTurns g m walks) where
  abbrev size : length walks ≡ length g.ends
  size = turns.walked.has_walks.sizes.one_each

  abbrev lead : (e : ℕ) → e < length g.ends → LeadsWell g m walks e
  lead = turns.walked.has_walks.lead

  edge_low : (e : ℕ) → has (edges_of g) e ≡ true → e < length g.ends
  edge_low e h = let low = below_range 0 (length g.ends) e h in omega (arith, low)

  -- a walk that bent would bend at a crossing
  straight : (e : ℕ) → e < length g.ends → GoesStraight g.nodes m.web.ends (at m.next) (walk_of walks e)
  straight e e_in = straight_by g.nodes m.web.ends (at m.next) (walk_of walks e) (λ i i_in.
      let v = tail_of m.web.ends (at (walk_of walks e) (suc i)) in
      let high = (lead e e_in).1 i i_in in
      let v_in : v < m.web.nodes =
      tail_in m.web.nodes m.web.ends listed.is_map.ends_in (at (walk_of walks e) (suc i)) (walk_in m.web.ends _ _ (walk_of walks e) (lead e e_in).0 (suc i) i_in) in (
        high,
        elim (cases_eq (at m.next (at m.next (reverse_of (at (walk_of walks e) i)))) (at (walk_of walks e) (suc i))) [
          | inl same ↦ same
          | inr bends ↦ absurd ((turns.crossings v high v_in).1 (e, i, record { goes_on = i_in; there = refl; bends = bends }))
        ],
      ))

  pub drawn : MeetsEuler m.web.nodes m.web.ends (at m.next) → IsDrawnLoosely g m walks
  drawn flat = record {
    lists = size;
    further = m.web.nodes - g.nodes;
    drawing = record {
      is_graph = is_graph;
      edge_list = edge_list (length g.ends);
      nodes = let more = turns.walked.has_walks.sizes.nodes_in in omega (arith, more);
      is_flat_map = record { is_map = listed.is_map; flat = flat };
      lead = λ e h. (lead e (edge_low e h)).0;
      straight = λ e h. straight e (edge_low e h);
      once = λ s s_in. ap (times_walked s) (sym (same_darts g walks size)) ∙ turns.walked.once s s_in;
      four = λ v low high. (turns.crossings v low high).0;
    };
  }

  -- each edge has a walk, since its ends differ
  walked : (e : ℕ) → e < length g.ends → has_dart (walk_of walks e) ≡ true
  walked e e_in = elim (cases_Bool (has_dart (walk_of walks e))) [
    | inl some ↦ some
    | inr none ↦
        absurd (is_graph.no_loop e e_in (subst (λ ds. WalksTo m.web.ends (ends_at g.ends e).0 ds (ends_at g.ends e).1) (no_darts (walk_of walks e) none) (lead e e_in).0))
  ]

  pub made : MeetsEuler m.web.nodes m.web.ends (at m.next) → IsMade g m walks (loose_of g.nodes m walks)
  made flat =
      let l = loose_of g.nodes m walks in
      let whole : edges_in l ≡ edges_of g = all_in l (λ e low. walked e (omega (arith, low, size))) ∙ ap (range_with_len 0) size in
      let is = drawn flat in
      record {
        made = refl;
        drawn = is;
        loose = record {
          nodes = refl;
          lists = size;
          further = is.further;
          loose = subst (λ es. IsLoose g es is.further m.web (at m.next) (walk_of walks)) (sym whole) is.drawing;
        };
        all_in = whole;
      }

-- ---- what is a loose drawing has no flaw

module _ (g : Graph) (m : ListedMap) (walks : List (List ℕ)) (is : IsDrawnLoosely g m walks) where
  sizes : HasSizes g m walks
  sizes = record { one_each = is.lists; nodes_in = let more = is.drawing.nodes in omega (arith, more) }

  edge_in : (e : ℕ) → e < length g.ends → has (edges_of g) e ≡ true
  edge_in e low = has-range 0 (length g.ends) e (omega arith) (omega (arith, low))

  leads : (e : ℕ) → e < length g.ends → LeadsWell g m walks e
  leads e low = (
    is.drawing.lead e (edge_in e low),
    λ i i_in. (straight_at g.nodes m.web.ends (at m.next) (walk_of walks e) (is.drawing.straight e (edge_in e low)) i i_in).0,
  )

  once : (s : ℕ) → s < length m.web.ends → IsWalkedOnce walks s
  once s s_in = ap (times_walked s) (same_darts g walks is.lists) ∙ is.drawing.once s s_in

  not_bent : (v : ℕ) → ¬ (IsBent m walks v)
  not_bent v b =
      let e = b.0 in
      let i = b.1 in
      let at_it = b.2 in
      elim (cases_lt e (length walks)) [
        | inl low ↦
            let size = is.lists in
            at_it.bends (straight_at g.nodes m.web.ends (at m.next) (walk_of walks e) (is.drawing.straight e (edge_in e (omega (arith, low, size)))) i at_it.goes_on).1
        | inr past ↦
            let none = ap length (no_walk walks e (omega (arith, past))) in
            let some = at_it.goes_on in
            omega (arith, none, some)
      ]

  crossing : (v : ℕ) → g.nodes ≤ v → v < m.web.nodes → IsCrossing m walks v
  crossing v low high = (is.drawing.four v low high, not_bent v)

pub flawed_is_not_drawn : FlawedIsNotDrawn
flawed_is_not_drawn g m walks Size flaw is = flaw (sizes g m walks is)
flawed_is_not_drawn g m walks (Ends e) flaw is = flaw.2.fails (leads g m walks is e flaw.1)
flawed_is_not_drawn g m walks (Walked s) flaw is = flaw.2.fails (once g m walks is s flaw.1)
flawed_is_not_drawn g m walks (Turn v) flaw is = flaw.2.fails (crossing g m walks is v flaw.2.from flaw.1)
flawed_is_not_drawn g m walks (Genus counts) flaw is = flaw.2 (subst IsBalanced (sym flaw.1) is.drawing.is_flat_map.flat)

-- ---- one flaw

first_one : (low : ℕ) (P : ℕ → Type 0) (n k : ℕ) → IsFirstFailing low P n → IsFirstFailing low P k → n ≡ k
first_one low P n k a b = elim (cases_order n k) [
  | inl same ↦ same
  | inr (inl less) ↦ absurd (a.fails (b.before n a.from less))
  | inr (inr more) ↦ absurd (b.fails (a.before k b.from more))
]

pub one_loose_flaw : OneLooseFlaw
one_loose_flaw g m walks Size Size a b = refl
one_loose_flaw g m walks Size (Ends e) a b = absurd (a b.0)
one_loose_flaw g m walks Size (Walked s) a b = absurd (a b.0.sizes)
one_loose_flaw g m walks Size (Turn v) a b = absurd (a b.0.has_walks.sizes)
one_loose_flaw g m walks Size (Genus counts) a b = absurd (a b.0.walked.has_walks.sizes)
one_loose_flaw g m walks (Ends e) Size a b = absurd (b a.0)
one_loose_flaw g m walks (Ends e) (Ends f) a b = ap (λ n. Ends n) (first_one 0 (LeadsWell g m walks) e f a.2 b.2)
one_loose_flaw g m walks (Ends e) (Walked s) a b = absurd (a.2.fails (b.0.lead e a.1))
one_loose_flaw g m walks (Ends e) (Turn v) a b = absurd (a.2.fails (b.0.has_walks.lead e a.1))
one_loose_flaw g m walks (Ends e) (Genus counts) a b = absurd (a.2.fails (b.0.walked.has_walks.lead e a.1))
one_loose_flaw g m walks (Walked s) Size a b = absurd (b a.0.sizes)
one_loose_flaw g m walks (Walked s) (Ends e) a b = absurd (b.2.fails (a.0.lead e b.1))
one_loose_flaw g m walks (Walked s) (Walked t) a b = ap (λ n. Walked n) (first_one 0 (IsWalkedOnce walks) s t a.2 b.2)
one_loose_flaw g m walks (Walked s) (Turn v) a b = absurd (a.2.fails (b.0.once s a.1))
one_loose_flaw g m walks (Walked s) (Genus counts) a b = absurd (a.2.fails (b.0.walked.once s a.1))
one_loose_flaw g m walks (Turn v) Size a b = absurd (b a.0.has_walks.sizes)
one_loose_flaw g m walks (Turn v) (Ends e) a b = absurd (b.2.fails (a.0.has_walks.lead e b.1))
one_loose_flaw g m walks (Turn v) (Walked s) a b = absurd (b.2.fails (a.0.once s b.1))
one_loose_flaw g m walks (Turn v) (Turn w) a b = ap (λ n. Turn n) (first_one g.nodes (IsCrossing m walks) v w a.2 b.2)
one_loose_flaw g m walks (Turn v) (Genus counts) a b = absurd (a.2.fails (b.0.crossings v a.2.from a.1))
one_loose_flaw g m walks (Genus counts) Size a b = absurd (b a.0.walked.has_walks.sizes)
one_loose_flaw g m walks (Genus counts) (Ends e) a b = absurd (b.2.fails (a.0.walked.has_walks.lead e b.1))
one_loose_flaw g m walks (Genus counts) (Walked s) a b = absurd (b.2.fails (a.0.walked.once s b.1))
one_loose_flaw g m walks (Genus counts) (Turn v) a b = absurd (b.2.fails (a.0.crossings v b.2.from b.1))
one_loose_flaw g m walks (Genus counts) (Genus others) a b = ap (λ c. Genus c) (a.1 ∙ sym b.1)
