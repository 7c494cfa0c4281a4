-- Low points, and the classes that they give.
use Rattle.std.proofs.Common.{◌≡◌, ◌≢◌, ℕ, zero, suc, ◌+◌, ◌*◌, ◌<◌, ◌≤◌, ◌⊎◌, inl, inr, List, length, min, set, refl, sym, ◌∙◌, ap, subst, ltb, arith}
use Rattle.std.proofs.lemmas.Bool.{cases_eq, cases_lt, cond-false, cond-true, le-ltb, lt-ltb}
use Rattle.std.proofs.lemmas.List.{get_or-set_other, get_or-set_same, length-set}
use Rattle.xn_model.specs.Graph.{EndsIn, Graph, HasNoLoop, ends_at}
use Rattle.xn_model.specs.Lists.{at}
use Rattle.xn_model.specs.Map.{reverse_of, tail_of}
use Rattle.xn_model.specs.Permutation.{iterate}
use Rattle.xn_ring.proofs.Orbits.{reaches_step, reaches_trans}
use Rattle.xn_genus.proofs.Compress.{tail_in}
use Rattle.xn_graph.proofs.Ends.{EndsIn-at}
use Rattle.xn_blocks.specs.Growth.{IsWhole, Lists}
use Rattle.xn_blocks.specs.Lows.{AreAllClassed, AreClassed, AreHandedUp, AreLowPoints, AreNoted, GoesDownTo, HaveClasses, IsClassAt, IsSomeWhole, NameBlocks, lowered}
use Rattle.xn_blocks.specs.Search.{Above, AreNodeClasses, later_end}
use Rattle.xn_blocks.proofs.Climbs.{above_most}
use Rattle.xn_blocks.proofs.SearchSteps.{forest_from}
use Rattle.xn_blocks.proofs.Gates.{key_from_block}
use Rattle.xn_blocks.proofs.NodeClasses.{block_from_key}
use Rattle.xn_blocks.proofs.Searched.{IsSearched}

-- ---- what a search gives

module _ (web : Graph) (s : Lists) (whole : IsWhole web s) where
  pub nodes_are : web.nodes ≡ length s.parent
  nodes_are = sym whole.found.parents

  pub parent_in : (v : ℕ) → v < web.nodes → at s.parent v < web.nodes
  parent_in v v_in = (whole.found.parent_found v (whole.all v v_in)).0

  pub placed_in : (v : ℕ) → v < web.nodes → at s.number v < length s.order
  placed_in v v_in = (whole.found.listed v (whole.all v v_in)).0

  pub one_place : (u i : ℕ) → u < web.nodes → i < length s.order → at s.number u ≡ i → u ≡ at s.order i
  one_place u i u_in low same = sym (whole.found.listed u (whole.all u u_in)).1 ∙ ap (at s.order) same

  pub parent_most : (v : ℕ) → v < web.nodes → at s.number (at s.parent v) ≤ at s.number v
  parent_most v v_in = elim (cases_eq (at s.parent v) v) [
    | inl root ↦ omega (arith, ap (at s.number) root)
    | inr up ↦ omega (arith, whole.found.earlier v (whole.all v v_in) up)
  ]

-- ---- a note at one node

module _ (low : List ℕ) (v x : ℕ) (v_in : v < length low) where
  abbrev new : List ℕ
  new = lowered low v x

  pub lowered_size : length new ≡ length low
  lowered_size = length-set low v (min (at low v) x)

  pub lowered_here : at new v ≡ min (at low v) x
  lowered_here = get_or-set_same low v (min (at low v) x) 0 v_in

  pub lowered_other : (u : ℕ) → u ≢ v → at new u ≡ at low u
  lowered_other u other = get_or-set_other low v u (min (at low v) x) 0 other

  pub lowered_less : (u : ℕ) → at new u ≤ at low u
  lowered_less u = elim (cases_eq u v) [
    | inl same ↦ omega (arith, ap (at new) same, lowered_here, ap (at low) same)
    | inr other ↦ omega (arith, lowered_other u other)
  ]

  -- it is the old note, or the new number
  pub lowered_cases : (u : ℕ) → (at new u ≡ at low u) ⊎ ((u ≡ v) × (at new u ≡ x))
  lowered_cases u = elim (cases_eq u v) [
    | inr other ↦ inl (lowered_other u other)
    | inl same ↦ elim (cases_lt x (at low v)) [
      | inl less ↦ inr (same, omega (arith, ap (at new) same, lowered_here))
      | inr most ↦ inl (omega (arith, ap (at new) same, lowered_here, ap (at low) same))
    ]
  ]

-- the first d darts, and one more
pub noted_more : (web : Graph) (s : Lists) → EndsIn web.nodes web.ends → (d x : ℕ) (low : List ℕ) → d < 2 * length web.ends → x ≡ at s.number (tail_of web.ends (reverse_of d))
    → AreNoted web s d low → AreNoted web s (d + 1) (lowered low (tail_of web.ends d) x)
noted_more web s ends_in d x low d_in is noted =
    let t = tail_of web.ends d in
    let t_in : t < length low = omega (arith, tail_in web.nodes web.ends ends_in d d_in, noted.size) in
    let new = lowered low t x in
    record {
      size = lowered_size low t x t_in ∙ noted.size;
      met = λ v v_in. elim (lowered_cases low t x t_in v) [
        | inl old ↦ subst (λ l. (at s.number v ≤ l) ⊎ GoesDownTo web s v l) (sym old) (noted.met v v_in)
        | inr here ↦ inr (record { dart = d; inside = d_in; below = (0, sym here.0); low = omega (arith, here.1, is) })
      ];
      near = λ e low_e. elim (cases_eq e d) [
        | inl same ↦ omega (arith, ap (λ z. at new (tail_of web.ends z)) same, lowered_here low t x t_in, is, ap (λ z. at s.number (tail_of web.ends (reverse_of z))) same)
        | inr before ↦ omega (arith, lowered_less low t x t_in (tail_of web.ends e), noted.near e (omega (arith, low_e, before)))
      ];
    }

pub handed_at_first : (s : Lists) → IsSomeWhole s → (low : List ℕ) → length low ≡ length s.parent → AreHandedUp s 0 low low
handed_at_first s (web, whole) low size = record {
  size = refl;
  less = λ v v_in. omega arith;
  from = λ v v_in. (v, v_in, (0, refl), refl);
  handed = λ v v_in far. absurd (omega (arith, far, placed_in web s whole v (omega (arith, v_in, size, nodes_are web s whole))));
}

-- the last k nodes, and one more
pub handed_more : (s : Lists) → IsSomeWhole s → (k i : ℕ) (old low : List ℕ) → length old ≡ length s.parent → i + 1 + k ≡ length s.order → AreHandedUp s k old low
    → AreHandedUp s (k + 1) old (lowered low (at s.parent (at s.order i)) (at low (at s.order i)))
handed_more s (web, whole) k i old low size place handed =
    let v = at s.order i in
    let p = at s.parent v in
    let x = at low v in
    let n = web.nodes in
    let all : length old ≡ n = size ∙ sym (nodes_are web s whole) in
    let here = whole.found.placed i (omega (arith, place)) in
    let v_in : v < n = here.0 in
    let p_in : p < length low = omega (arith, parent_in web s whole v v_in, handed.size, all) in
    let new = lowered low p x in
    record {
      size = lowered_size low p x p_in ∙ handed.size;
      less = λ u u_in. omega (arith, lowered_less low p x p_in u, handed.less u u_in);
      from = λ u u_in. elim (lowered_cases low p x p_in u) [
        | inl same ↦ let before = handed.from u u_in in (before.0, before.1, before.2, same ∙ before.3)
        | inr now ↦
            let before = handed.from v (omega (arith, v_in, all)) in
            let up : Above (at s.parent) u before.0 = subst (λ z. Above (at s.parent) z before.0) (sym now.0) (reaches_step (at s.parent) before.0 v before.2) in
            (before.0, before.1, up, now.1 ∙ before.3)
      ];
      handed = λ u u_in low_u. elim (cases_eq u v) [
        | inl same ↦
            let at_p : at new (at s.parent u) ≡ min (at low p) x = ap (λ z. at new (at s.parent z)) same ∙ lowered_here low p x p_in in
            elim (lowered_cases low p x p_in u) [
              | inl kept ↦ omega (arith, at_p, kept, ap (at low) same)
              | inr root ↦ omega (arith, at_p, root.1)
            ]
        | inr other ↦
            let u_n : u < n = omega (arith, u_in, all) in
            let later : i < at s.number u = elim (cases_eq (at s.number u) i) [
              | inl is ↦ absurd (other (one_place web s whole u i u_n (omega (arith, place)) is))
              | inr apart ↦ omega (arith, low_u, place, apart)
            ] in
            let u_p : u ≢ p = λ same. omega (arith, later, ap (at s.number) same, parent_most web s whole v v_in, here.1) in
            omega (arith, lowered_less low p x p_in (at s.parent u), handed.handed u u_in (omega (arith, later, place)), lowered_other low p x p_in u u_p)
      ];
    }

-- once all nodes have handed up
pub low_points : (web : Graph) (s : Lists) → EndsIn web.nodes web.ends → IsWhole web s → (old new : List ℕ) → AreNoted web s (2 * length web.ends) old → AreHandedUp s (length s.order) old new
    → AreLowPoints web s new
low_points web s ends_in whole old new noted handed =
    let forest = forest_from web s ends_in whole.found whole.done whole.all in
    record {
      size = handed.size ∙ noted.size;
      met = λ v v_in.
          let v_old : v < length old = omega (arith, v_in, noted.size) in
          let from = handed.from v v_old in
          let u_in : from.0 < web.nodes = omega (arith, from.1, noted.size) in
          let most = above_most web (at s.parent) (at s.number) forest v from.0 u_in from.2 in
          elim (noted.met from.0 u_in) [
            | inl far ↦ inl (omega (arith, far, most, from.3))
            | inr goes ↦ inr (record {
              dart = goes.dart;
              inside = goes.inside;
              below = reaches_trans (at s.parent) (tail_of web.ends goes.dart) from.0 v goes.below from.2;
              low = omega (arith, goes.low, from.3);
            })
          ];
      least = λ v d v_in d_in up.
          let t = tail_of web.ends d in
          let t_in : t < web.nodes = tail_in web.nodes web.ends ends_in d d_in in
          omega (arith, (falls up.0 t t_in).1, ap (at new) up.1, handed.less t (omega (arith, t_in, noted.size)), noted.near d d_in);
    }
  where
    falls : (j x : ℕ) → x < web.nodes → (iterate (at s.parent) j x < web.nodes) × (at new (iterate (at s.parent) j x) ≤ at new x)
    falls zero x x_in = (x_in, omega arith)
    falls (suc j) x x_in =
        let before = falls j x x_in in
        let c = iterate (at s.parent) j x in
        (parent_in web s whole c before.0, omega (arith, before.1, handed.handed c (omega (arith, before.0, noted.size)) (omega arith)))

-- ---- classes

-- the first i nodes, and one more
pub classed_more : (s : Lists) → IsSomeWhole s → (low class : List ℕ) (i k : ℕ) → i < length s.order → AreClassed s low i class → IsClassAt s low class (at s.order i) k
    → AreClassed s low (i + 1) (set class (at s.order i) k)
classed_more s (web, whole) low class i k i_in classed is =
    let v = at s.order i in
    let here = whole.found.placed i i_in in
    let n = nodes_are web s whole in
    let v_in : v < length class = omega (arith, here.0, n, classed.size) in
    let new = set class v k in
    let at_v : at new v ≡ k = get_or-set_same class v k 0 v_in in
    let other : (u : ℕ) → u ≢ v → at new u ≡ at class u = λ u ne. get_or-set_other class v u k 0 ne in
    let small : k < length s.parent = elim is [
      | inl joined ↦ omega (arith, joined.2, classed.below (at s.parent v) (omega (arith, parent_in web s whole v here.0, n)))
      | inr own ↦ omega (arith, own.1, here.0, n)
    ] in
    let keep : (u j : ℕ) → u < length s.parent → at s.number u ≤ i → IsClassAt s low class u j → IsClassAt s low new u j = λ u j u_in low_u old. elim old [
      | inr own ↦ inr own
      | inl joined ↦
          let up = joined.0 in
          let p = at s.parent u in
          let u_n : u < web.nodes = omega (arith, u_in, n) in
          let p_v : p ≢ v = λ same. omega (arith, whole.found.earlier u (whole.all u u_n) up, ap (at s.number) same, here.1, low_u) in
          inl (up, joined.1, joined.2 ∙ sym (other p p_v))
    ] in
    record {
      size = length-set class v k ∙ classed.size;
      below = λ u u_in. elim (cases_eq u v) [
        | inl same ↦ omega (arith, ap (at new) same, at_v, small)
        | inr ne ↦ omega (arith, other u ne, classed.below u u_in)
      ];
      classed = λ u u_in low_u. elim (cases_eq u v) [
        | inl same ↦
            let now = keep v k (omega (arith, here.0, n)) (omega (arith, here.1)) is in
            subst (λ z. IsClassAt s low new z (at new z)) (sym same) (subst (λ j. IsClassAt s low new v j) (sym at_v) now)
        | inr ne ↦
            let before : at s.number u < i = elim (cases_eq (at s.number u) i) [
              | inl last ↦ absurd (ne (one_place web s whole u i (omega (arith, u_in, n)) i_in last))
              | inr apart ↦ omega (arith, low_u, apart)
            ] in
            subst (λ j. IsClassAt s low new u j) (sym (other u ne)) (keep u (at class u) u_in (omega (arith, before)) (classed.classed u u_in before))
      ];
    }

later_cases : (number : ℕ → ℕ) (p : ℕ × ℕ) → (later_end number p ≡ p.0) ⊎ (later_end number p ≡ p.1)
later_cases number p = elim (cases_lt (number p.0) (number p.1)) [
  | inl less ↦ inr (cond-true (ltb (number p.0) (number p.1)) p.1 p.0 (lt-ltb (number p.0) (number p.1) less))
  | inr most ↦ inl (cond-false (ltb (number p.0) (number p.1)) p.1 p.0 (le-ltb (number p.0) (number p.1) most))
]

-- the keys of segments name their blocks
pub keys_name : (web : Graph) (s : Lists) → EndsIn web.nodes web.ends → HasNoLoop web.ends → IsWhole web s → (low class keys : List ℕ) → AreLowPoints web s low → AreAllClassed s low class
    → HaveClasses web s.number class (length web.ends) keys → NameBlocks web keys
keys_name web s ends_in no_loop whole low class keys lows classed have =
    let n = nodes_are web s whole in
    let forest = forest_from web s ends_in whole.found whole.done whole.all in
    let is : (v : ℕ) → v < web.nodes → IsClassAt s low class v (at class v) = λ v v_in. classed.classed v (omega (arith, v_in, n)) (placed_in web s whole v v_in) in
    let classes : AreNodeClasses web (at s.parent) (at s.number) (at class) = record {
      joined = λ v v_in up passes. elim (is v v_in) [
        | inl joined ↦ joined.2
        | inr own ↦ elim own.0 [
          | inl root ↦ absurd (up root)
          | inr far ↦ absurd (omega (arith, far, lows.least v passes.dart v_in passes.inside passes.below, passes.before))
        ]
      ];
      cases = λ v v_in. elim (is v v_in) [
        | inr own ↦ inl own.1
        | inl joined ↦ inr (
          joined.0,
          (elim (lows.met v v_in) [
            | inl far ↦ absurd (omega (arith, far, joined.1, parent_most web s whole v v_in))
            | inr goes ↦ record { dart = goes.dart; inside = goes.inside; below = goes.below; before = omega (arith, goes.low, joined.1) }
          ]),
          joined.2,
        )
      ];
    } in
    let known : IsSearched web (at s.parent) (at s.number) (at class) = record { ends_in = ends_in; no_loop = no_loop; forest = forest; classes = classes } in
    let later_in : (t : ℕ) → t < length web.ends → later_end (at s.number) (ends_at web.ends t) < web.nodes = λ t t_in.
    let both = EndsIn-at web.nodes web.ends ends_in t t_in in
    elim (later_cases (at s.number) (ends_at web.ends t)) [
      | inl first ↦ omega (arith, first, both.0)
      | inr second ↦ omega (arith, second, both.1)
    ] in
    record {
      size = have.size;
      below = λ t t_in. omega (arith, have.key t t_in, classed.below (later_end (at s.number) (ends_at web.ends t)) (omega (arith, later_in t t_in, n)), n);
      one_block = λ t u t_in u_in. (
        (λ same. block_from_key web (at s.parent) (at s.number) (at class) known t u t_in u_in (sym (have.key t t_in) ∙ same ∙ have.key u u_in)),
        (λ one. have.key t t_in ∙ key_from_block web (at s.parent) (at s.number) (at class) known t u one ∙ sym (have.key u u_in)),
      );
    }
