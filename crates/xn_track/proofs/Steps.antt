-- The three steps on tracks.
use Rattle.std.proofs.Common.{◌≡◌, ◌≢◌, ℕ, suc, ◌+◌, ◌-◌, ◌*◌, ◌<◌, ◌≤◌, inl, inr, Bool, true, false, not, List, [], ◌++◌, length, take, drop, refl, sym, ◌∙◌, ap, subst, arith, length-append}
use Rattle.std.specs.List.{IsDistinct}
use Rattle.std.specs.Prelude.{nat_eq}
use Rattle.std.proofs.lemmas.Bool.{cases_eq, cond-true, cond-false, eq-eqb, ne_eqb}
use Rattle.std.proofs.lemmas.List.{get_or-drop, length-drop}
use Rattle.xn_model.specs.Graph.{Graph, IsGraph, ends_at}
use Rattle.xn_model.specs.Lists.{at, has, total}
use Rattle.xn_model.specs.Loose.{times_walked}
use Rattle.xn_model.specs.Map.{WalksTo, reverse_of, tail_of}
use Rattle.xn_track.specs.Relinking.{IsRelinked, PassesTo, MayBeRelinked}
use Rattle.xn_track.specs.Steps.{BeginningsAreExchanged, ClosedPartsAreCutOff, IsStep, MiddlesAreExchanged, crossing_over, end_from, node_after, reverse_walk, turned_walk, with_walk}
use Rattle.xn_track.specs.Track.{GoesOn, IsGround, IsTrack, straight_on}
use Rattle.xn_track.proofs.Blocks.{at_after}
use Rattle.xn_track.proofs.CrossOver.{cross_may, cross_one, cross_rest, cross_times, cross_two}
use Rattle.xn_track.proofs.CutOff.{cut_may, cut_path, cut_rest, cut_times}
use Rattle.xn_track.proofs.Exchange.{take-size}
use Rattle.xn_track.proofs.Passes.{distinct_edges, ends_below, some_darts}
use Rattle.xn_track.proofs.Paths.{Path, from_path, path_ends_in, path_in, path_reverse, path_seam, times-turned, to_path}
use Rattle.xn_track.proofs.Relink.{leads_back}
use Rattle.xn_track.proofs.Tally.{times-flat_map, total-exchange, total-le, total-one, total-three, total-two}

-- a walk of e, or the other way
pub record EdgePath (g : Graph) (web : Graph) (next : ℕ → ℕ) (four : ℕ → Bool) (e : ℕ) (t : Bool) (ds : List ℕ) : Type 0 where
  pub from : ℕ
  pub to : ℕ
  pub path : Path (length web.ends) (PassesTo g.nodes web next four) from ds to
  pub at_from : tail_of web.ends from ≡ end_from g.ends e t
  pub at_to : tail_of web.ends to ≡ end_from g.ends e (not t)

-- the same walk, turned back
pub as_walk : (g : Graph) (web : Graph) (next : ℕ → ℕ) (four : ℕ → Bool) → IsGround g.nodes web next four → (e : ℕ) (t : Bool) (ds : List ℕ) → EdgePath g web next four e t ds →
    WalksTo web.ends (ends_at g.ends e).0 (turned_walk t ds) (ends_at g.ends e).1 × GoesOn g.nodes web.ends (straight_on web.ends four next) (turned_walk t ds)
as_walk g web next four ground e false ds p =
    let walk = from_path g.nodes web next four p.from p.to ds p.path in
    let P : ℕ → Type 0 = λ u. WalksTo web.ends u ds (ends_at g.ends e).1 in
    let Q : ℕ → Type 0 = λ v. WalksTo web.ends (tail_of web.ends p.from) ds v in
    (subst P p.at_from (subst Q p.at_to walk.0), walk.1)
as_walk g web next four ground e true ds p =
    let back = path_reverse (length web.ends) (PassesTo g.nodes web next four) (leads_back g.nodes web next four ground) p.from p.to ds p.path in
    let walk = from_path g.nodes web next four p.to p.from (reverse_walk ds) back in
    let P : ℕ → Type 0 = λ u. WalksTo web.ends u (reverse_walk ds) (ends_at g.ends e).1 in
    let Q : ℕ → Type 0 = λ v. WalksTo web.ends (tail_of web.ends p.to) (reverse_walk ds) v in
    (subst P p.at_to (subst Q p.at_from walk.0), walk.1)

put_here : (walks : ℕ → List ℕ) (e : ℕ) (ds : List ℕ) (f : ℕ) → f ≡ e → with_walk walks e ds f ≡ ds
put_here walks e ds f same = cond-true _ _ _ (eq-eqb f e same)

put_there : (walks : ℕ → List ℕ) (e : ℕ) (ds : List ℕ) (f : ℕ) → f ≢ e → with_walk walks e ds f ≡ walks f
put_there walks e ds f other = cond-false _ _ _ (ne_eqb f e other)

module _ (g : Graph) (edges : List ℕ) (web : Graph) (next : ℕ → ℕ) (four : ℕ → Bool) (walks : ℕ → List ℕ) (is_graph : IsGraph g)
    (track : IsTrack g edges web next four walks) where
  abbrev W : List (ℕ × ℕ)
  W = web.ends

  pub edge_path : (e : ℕ) → has edges e ≡ true → (t : Bool) → EdgePath g web next four e t (turned_walk t (walks e))
  edge_path e e_in false =
      let p = to_path g.nodes web next four _ _ (walks e) (track.lead e e_in) (track.straight e e_in) (some_darts g edges web next four walks is_graph track e e_in) in
      record { from = at (walks e) 0; to = p.0; path = p.1; at_from = p.2; at_to = p.3 }
  edge_path e e_in true =
      let p = to_path g.nodes web next four _ _ (walks e) (track.lead e e_in) (track.straight e e_in) (some_darts g edges web next four walks is_graph track e e_in) in
      record {
        from = p.0;
        to = at (walks e) 0;
        path = path_reverse (length web.ends) (PassesTo g.nodes web next four) (leads_back g.nodes web next four track.ground) (at (walks e) 0) p.0 (walks e) p.1;
        at_from = p.3;
        at_to = p.2;
      }

  pub end_low : (e : ℕ) → has edges e ≡ true → (t : Bool) → end_from g.ends e t < g.nodes
  end_low e e_in false = (ends_below g edges web next four walks is_graph track e e_in).0
  end_low e e_in true = (ends_below g edges web next four walks is_graph track e e_in).1

  distinct : IsDistinct nat_eq edges
  distinct = distinct_edges g edges web next four walks is_graph track

  few : (s : ℕ) → total (λ e. times_walked s (walks e)) edges ≤ 1
  few s = let sum = times-flat_map s walks edges in let once = track.once s in omega (arith, sum, once)

  -- ---- a closed part goes

  module _ (e i j : ℕ) (e_in : has edges e ≡ true) (low : i < j) (j_in : suc j < length (walks e)) (meet : node_after web.ends (walks e) i ≡ node_after web.ends (walks e) j) where
    own_path : EdgePath g web next four e false (walks e)
    own_path = edge_path e e_in false

    alone : (s : ℕ) → times_walked s (walks e) + times_walked s [] ≤ 1
    alone s = let one = total-one (λ x. times_walked s (walks x)) edges e distinct e_in in let all = few s in omega (arith, one, all)

    beside : (f : ℕ) → has edges f ≡ true → f ≢ e → (s : ℕ) → times_walked s (walks e) + times_walked s (walks f) ≤ 1
    beside f f_in other s = let two = total-two (λ x. times_walked s (walks x)) edges e f distinct e_in f_in (λ same. other (sym same)) in let all = few s in omega (arith, two, all)

    abbrev shorter : List ℕ
    shorter = take (suc i) (walks e) ++ drop (suc j) (walks e)

    abbrev after_cut : ℕ → List ℕ
    after_cut = with_walk walks e shorter

    pub closed_part_goes : IsStep g edges web next four (reverse_of (at (walks e) i)) (reverse_of (at (walks e) j)) after_cut
    closed_part_goes = record {
      may = cut_may g.nodes web next four track.ground own_path.from own_path.to (walks e) [] own_path.path alone i j low j_in meet;
      leaves = λ more after fewer is.
          let kept : (d : ℕ) → d < 2 * length web.ends → tail_of web.ends d < g.nodes → tail_of more.ends d ≡ tail_of web.ends d =
          λ d d_in at_low. is.tails d d_in (λ same. let high = node_high (reverse_of (at (walks e) i)) (cut_may g.nodes web next four track.ground own_path.from own_path.to (walks e) [] own_path.path alone i j low j_in meet) in omega (arith, high, same, at_low)) in
          let walk : (f : ℕ) → has edges f ≡ true →
          WalksTo more.ends (ends_at g.ends f).0 (after_cut f) (ends_at g.ends f).1 × GoesOn g.nodes more.ends (straight_on more.ends fewer after) (after_cut f) =
          λ f f_in. elim (cases_eq f e) [
            | inl same ↦
                let ends = path_ends_in (length web.ends) (PassesTo g.nodes web next four) own_path.from own_path.to (walks e) own_path.path in
                let p : EdgePath g more after fewer e false shorter = record {
                  from = own_path.from;
                  to = own_path.to;
                  path = cut_path g.nodes web next four track.ground own_path.from own_path.to (walks e) [] own_path.path alone i j low j_in meet more after fewer is;
                  at_from = kept own_path.from ends.0 (let a = end_low e e_in false in omega (arith, a, own_path.at_from)) ∙ own_path.at_from;
                  at_to = kept own_path.to ends.1 (let a = end_low e e_in true in omega (arith, a, own_path.at_to)) ∙ own_path.at_to;
                } in
                let w = as_walk g more after fewer is.ground e false shorter p in
                let P : ℕ → List ℕ → Type 0 = λ x ds. WalksTo more.ends (ends_at g.ends x).0 ds (ends_at g.ends x).1 × GoesOn g.nodes more.ends (straight_on more.ends fewer after) ds in
                subst (λ ds. P f ds) (sym (put_here walks e shorter f same)) (subst (λ x. P x shorter) (sym same) w)
            | inr other ↦
                let f_path = edge_path f f_in false in
                let ends = path_ends_in (length web.ends) (PassesTo g.nodes web next four) f_path.from f_path.to (walks f) f_path.path in
                let p : EdgePath g more after fewer f false (walks f) = record {
                  from = f_path.from;
                  to = f_path.to;
                  path = cut_rest g.nodes web next four track.ground own_path.from own_path.to (walks e) (walks f) own_path.path (beside f f_in other) i j low j_in meet more after fewer is f_path.from f_path.to f_path.path;
                  at_from = kept f_path.from ends.0 (let a = end_low f f_in false in omega (arith, a, f_path.at_from)) ∙ f_path.at_from;
                  at_to = kept f_path.to ends.1 (let a = end_low f f_in true in omega (arith, a, f_path.at_to)) ∙ f_path.at_to;
                } in
                let w = as_walk g more after fewer is.ground f false (walks f) p in
                let P : List ℕ → Type 0 = λ ds. WalksTo more.ends (ends_at g.ends f).0 ds (ends_at g.ends f).1 × GoesOn g.nodes more.ends (straight_on more.ends fewer after) ds in
                subst P (sym (put_there walks e shorter f other)) w
          ] in
          record {
            edge_list = track.edge_list;
            ground = is.ground;
            lead = λ f f_in. (walk f f_in).0;
            straight = λ f f_in. (walk f f_in).1;
            once = λ s.
                let sum = times-flat_map s after_cut edges in
                let all = few s in
                let less = total-le (λ x. times_walked s (after_cut x)) (λ x. times_walked s (walks x)) edges (λ x x_in. elim (cases_eq x e) [
                  | inl same ↦
                      let here : times_walked s (after_cut x) ≡ times_walked s shorter = ap (times_walked s) (put_here walks e shorter x same) in
                      let old : times_walked s (walks x) ≡ times_walked s (walks e) = ap (λ y. times_walked s (walks y)) same in
                      let cut = cut_times s i j (walks e) low in
                      omega (arith, here, old, cut)
                  | inr other ↦ let here : times_walked s (after_cut x) ≡ times_walked s (walks x) = ap (times_walked s) (put_there walks e shorter x other) in omega (arith, here)
                ]) in
                omega (arith, sum, all, less);
          };
    }
      where
        node_high : (a : ℕ) → MayBeRelinked web next four a (reverse_of (at (walks e) j)) → g.nodes ≤ tail_of web.ends a
        node_high a m = (track.ground.further (tail_of web.ends a) m.holds).0

pub closed_parts_are_cut_off : ClosedPartsAreCutOff
closed_parts_are_cut_off g edges web next four walks is_graph track e i j e_in low j_in meet = closed_part_goes g edges web next four walks is_graph track e i j e_in low j_in meet

-- ---- two walks change

-- the walk of each edge, where two of them are changed and the rest stays
pub record TwoChanged (g : Graph) (edges : List ℕ) (e f : ℕ) (s t : Bool) (one two : List ℕ) (walks : ℕ → List ℕ) (more : Graph) (after : ℕ → ℕ) (fewer : ℕ → Bool) : Type 0 where
  pub ground : IsGround g.nodes more after fewer
  pub first : EdgePath g more after fewer e s one
  pub second : EdgePath g more after fewer f t two
  pub others : (h : ℕ) → has edges h ≡ true → h ≢ e → h ≢ f → EdgePath g more after fewer h false (walks h)

module _ (g : Graph) (edges : List ℕ) (web : Graph) (next : ℕ → ℕ) (four : ℕ → Bool) (walks : ℕ → List ℕ) (is_graph : IsGraph g)
    (track : IsTrack g edges web next four walks) (e f : ℕ) (s t : Bool) (e_in : has edges e ≡ true) (f_in : has edges f ≡ true) (differ : e ≢ f)
    (one two : List ℕ) where
  abbrev changed : ℕ → List ℕ
  changed = with_walk (with_walk walks e (turned_walk s one)) f (turned_walk t two)

  at_f : (h : ℕ) → h ≡ f → changed h ≡ turned_walk t two
  at_f h same = put_here (with_walk walks e (turned_walk s one)) f (turned_walk t two) h same

  at_e : (h : ℕ) → h ≡ e → changed h ≡ turned_walk s one
  at_e h same = put_there (with_walk walks e (turned_walk s one)) f (turned_walk t two) h (λ again. differ (sym same ∙ again)) ∙ put_here walks e (turned_walk s one) h same

  elsewhere : (h : ℕ) → h ≢ e → h ≢ f → changed h ≡ walks h
  elsewhere h not_e not_f = put_there (with_walk walks e (turned_walk s one)) f (turned_walk t two) h not_f ∙ put_there walks e (turned_walk s one) h not_e

  pub track_from : (more : Graph) (after : ℕ → ℕ) (fewer : ℕ → Bool) → TwoChanged g edges e f s t one two walks more after fewer →
      ((z : ℕ) → times_walked z one + times_walked z two ≡ times_walked z (walks e) + times_walked z (walks f)) → IsTrack g edges more after fewer changed
  track_from more after fewer c sums =
      let P : ℕ → List ℕ → Type 0 = λ x ds. WalksTo more.ends (ends_at g.ends x).0 ds (ends_at g.ends x).1 × GoesOn g.nodes more.ends (straight_on more.ends fewer after) ds in
      let walk : (h : ℕ) → has edges h ≡ true → P h (changed h) = λ h h_in. elim (cases_eq h f) [
        | inl same ↦ subst (λ ds. P h ds) (sym (at_f h same)) (subst (λ x. P x (turned_walk t two)) (sym same) (as_walk g more after fewer c.ground f t two c.second))
        | inr not_f ↦ elim (cases_eq h e) [
          | inl same ↦ subst (λ ds. P h ds) (sym (at_e h same)) (subst (λ x. P x (turned_walk s one)) (sym same) (as_walk g more after fewer c.ground e s one c.first))
          | inr not_e ↦ subst (λ ds. P h ds) (sym (elsewhere h not_e not_f)) (as_walk g more after fewer c.ground h false (walks h) (c.others h h_in not_e not_f))
        ]
      ] in
      record {
        edge_list = track.edge_list;
        ground = c.ground;
        lead = λ h h_in. (walk h h_in).0;
        straight = λ h h_in. (walk h h_in).1;
        once = λ z.
            let sum = times-flat_map z changed edges in
            let all = few g edges web next four walks is_graph track z in
            let new_e : times_walked z (changed e) ≡ times_walked z one = ap (times_walked z) (at_e e refl) ∙ times-turned z s one in
            let new_f : times_walked z (changed f) ≡ times_walked z two = ap (times_walked z) (at_f f refl) ∙ times-turned z t two in
            let both = sums z in
            let less = total-exchange (λ x. times_walked z (walks x)) (λ x. times_walked z (changed x)) edges e f (distinct g edges web next four walks is_graph track) e_in f_in differ
            (omega (arith, new_e, new_f, both)) (λ x not_e not_f. ap (times_walked z) (elsewhere x not_e not_f)) in
            omega (arith, sum, all, less);
      }

-- ---- walks from one end

module _ (g : Graph) (edges : List ℕ) (web : Graph) (next : ℕ → ℕ) (four : ℕ → Bool) (walks : ℕ → List ℕ) (is_graph : IsGraph g)
    (track : IsTrack g edges web next four walks) (e f : ℕ) (s t : Bool) (e_in : has edges e ≡ true) (f_in : has edges f ≡ true) (differ : e ≢ f) where
  abbrev one : List ℕ
  one = turned_walk s (walks e)

  abbrev two : List ℕ
  two = turned_walk t (walks f)

  pub path_of_one : EdgePath g web next four e s one
  path_of_one = edge_path g edges web next four walks is_graph track e e_in s

  pub path_of_two : EdgePath g web next four f t two
  path_of_two = edge_path g edges web next four walks is_graph track f f_in t

  pub alone_two : (z : ℕ) → times_walked z one + times_walked z two + times_walked z [] ≤ 1
  alone_two z =
      let both = total-two (λ x. times_walked z (walks x)) edges e f (distinct g edges web next four walks is_graph track) e_in f_in differ in
      let all = few g edges web next four walks is_graph track z in
      let a = times-turned z s (walks e) in
      let b = times-turned z t (walks f) in
      omega (arith, both, all, a, b)

  pub beside_two : (h : ℕ) → has edges h ≡ true → h ≢ e → h ≢ f → (z : ℕ) → times_walked z one + times_walked z two + times_walked z (walks h) ≤ 1
  beside_two h h_in not_e not_f z =
      let three = total-three (λ x. times_walked z (walks x)) edges e f h (distinct g edges web next four walks is_graph track) e_in f_in h_in differ not_e not_f in
      let all = few g edges web next four walks is_graph track z in
      let a = times-turned z s (walks e) in
      let b = times-turned z t (walks f) in
      omega (arith, three, all, a, b)

  pub same_sum : (z i j : ℕ) → times_walked z (crossing_over two j one i) + times_walked z (crossing_over one i two j) ≡ times_walked z (walks e) + times_walked z (walks f)
  same_sum z i j =
      let sum = cross_times z j i two one in
      let a = times-turned z s (walks e) in
      let b = times-turned z t (walks f) in
      omega (arith, sum, a, b)

-- the tail of an end stays over a relinking
pub end_kept : (nodes : ℕ) (web : Graph) (next : ℕ → ℕ) (four : ℕ → Bool) → IsGround nodes web next four → (a b : ℕ) → MayBeRelinked web next four a b →
    (more : Graph) (after : ℕ → ℕ) (fewer : ℕ → Bool) → IsRelinked nodes web next four a b more after fewer →
    (d u : ℕ) → d < 2 * length web.ends → tail_of web.ends d ≡ u → u < nodes → tail_of more.ends d ≡ u
end_kept nodes web next four ground a b may more after fewer is d u d_in at low =
    is.tails d d_in (λ same. let high = (ground.further (tail_of web.ends a) may.holds).0 in omega (arith, high, same, at, low)) ∙ at

pub beginnings_are_exchanged : BeginningsAreExchanged
beginnings_are_exchanged g edges web next four walks is_graph track e f i j s t e_in f_in differ one_end i_in j_in meet =
    let one = turned_walk s (walks e) in
    let two = turned_walk t (walks f) in
    let p = path_of_one g edges web next four walks is_graph track e f s t e_in f_in differ in
    let q = path_of_two g edges web next four walks is_graph track e f s t e_in f_in differ in
    let once = alone_two g edges web next four walks is_graph track e f s t e_in f_in differ in
    let E = length web.ends in
    let L = PassesTo g.nodes web next four in
    let p_in = path_ends_in E L p.from p.to one p.path in
    let q_in = path_ends_in E L q.from q.to two q.path in
    let low : (x : ℕ) → has edges x ≡ true → (r : Bool) → end_from g.ends x r < g.nodes = end_low g edges web next four walks is_graph track in
    let may = cross_may g.nodes web next four track.ground p.from p.to q.from q.to one two [] p.path q.path once i j i_in j_in meet in
    record {
      may = may;
      leaves = λ more after fewer is.
          let kept : (d u : ℕ) → d < 2 * length web.ends → tail_of web.ends d ≡ u → u < g.nodes → tail_of more.ends d ≡ u =
          end_kept g.nodes web next four track.ground (reverse_of (at one i)) (reverse_of (at two j)) may more after fewer is in
          track_from g edges web next four walks is_graph track e f s t e_in f_in differ (crossing_over two j one i) (crossing_over one i two j) more after fewer (record {
            ground = is.ground;
            first = record {
              from = q.from;
              to = p.to;
              path = cross_two g.nodes web next four track.ground p.from p.to q.from q.to one two [] p.path q.path once i j i_in j_in meet more after fewer is;
              at_from = kept q.from (end_from g.ends e s) q_in.0 (q.at_from ∙ sym one_end) (low e e_in s);
              at_to = kept p.to (end_from g.ends e (not s)) p_in.1 p.at_to (low e e_in (not s));
            };
            second = record {
              from = p.from;
              to = q.to;
              path = cross_one g.nodes web next four track.ground p.from p.to q.from q.to one two [] p.path q.path once i j i_in j_in meet more after fewer is;
              at_from = kept p.from (end_from g.ends f t) p_in.0 (p.at_from ∙ one_end) (low f f_in t);
              at_to = kept q.to (end_from g.ends f (not t)) q_in.1 q.at_to (low f f_in (not t));
            };
            others = λ h h_in not_e not_f.
                let r = edge_path g edges web next four walks is_graph track h h_in false in
                let r_in = path_ends_in E L r.from r.to (walks h) r.path in
                record {
                  from = r.from;
                  to = r.to;
                  path = cross_rest g.nodes web next four track.ground p.from p.to q.from q.to one two (walks h) p.path q.path
                      (beside_two g edges web next four walks is_graph track e f s t e_in f_in differ h h_in not_e not_f) i j i_in j_in meet more after fewer is r.from r.to r.path;
                  at_from = kept r.from (end_from g.ends h false) r_in.0 r.at_from (low h h_in false);
                  at_to = kept r.to (end_from g.ends h true) r_in.1 r.at_to (low h h_in true);
                };
          }) (λ z. same_sum g edges web next four walks is_graph track e f s t e_in f_in differ z i j);
    }

-- ---- walks that meet twice

-- the dart after the second node, and that before it, in a walk that has crossed over at the first
over_at : (one two : List ℕ) (i j l : ℕ) → suc i < length one → j < l → suc l < length two →
    (suc (i + (l - j)) < length (crossing_over one i two j)) × (at (crossing_over one i two j) (suc (i + (l - j))) ≡ at two (suc l)) × (at (crossing_over one i two j) (i + (l - j)) ≡ at two l)
over_at one two i j l i_in low l_in =
    let front = take (suc i) one in
    let rest = drop (suc j) two in
    let size = take-size (suc i) one (omega (arith, i_in)) in
    let long = length-append front rest in
    let rest_long = length-drop (suc j) two in
    let m = l - j in
    let one_more : suc (i + m) ≡ length front + m = omega (arith, size) in
    let here : i + m ≡ length front + (m - 1) = omega (arith, size, low) in
    let up : suc j + m ≡ suc l = omega (arith, low) in
    let down : suc j + (m - 1) ≡ l = omega (arith, low) in (
      omega (arith, long, rest_long, size, low, l_in),
      ap (at (front ++ rest)) one_more ∙ at_after front rest m 0 ∙ get_or-drop (suc j) two m 0 ∙ ap (at two) up,
      ap (at (front ++ rest)) here ∙ at_after front rest (m - 1) 0 ∙ get_or-drop (suc j) two (m - 1) 0 ∙ ap (at two) down,
    )

pub middles_are_exchanged : MiddlesAreExchanged
middles_are_exchanged g edges web next four walks is_graph track e f i j k l t e_in f_in differ i_low k_in j_low l_in meet meet_too apart =
    let s : Bool = false in
    let one = walks e in
    let two = turned_walk t (walks f) in
    let first = crossing_over one i two j in
    let second = crossing_over two j one i in
    let x = i + (l - j) in
    let y = j + (k - i) in
    let i_in : suc i < length one = omega (arith, i_low, k_in) in
    let j_in : suc j < length two = omega (arith, j_low, l_in) in
    let first_at = over_at one two i j l i_in j_low l_in in
    let second_at = over_at two one j i k j_in i_low k_in in
    let p = path_of_one g edges web next four walks is_graph track e f s t e_in f_in differ in
    let q = path_of_two g edges web next four walks is_graph track e f s t e_in f_in differ in
    let once = alone_two g edges web next four walks is_graph track e f s t e_in f_in differ in
    let E = length web.ends in
    let L = PassesTo g.nodes web next four in
    let p_in = path_ends_in E L p.from p.to one p.path in
    let q_in = path_ends_in E L q.from q.to two q.path in
    let low : (z : ℕ) → has edges z ≡ true → (r : Bool) → end_from g.ends z r < g.nodes = end_low g edges web next four walks is_graph track in
    let may = cross_may g.nodes web next four track.ground p.from p.to q.from q.to one two [] p.path q.path once i j i_in j_in meet in
    let path_one = cross_one g.nodes web next four track.ground p.from p.to q.from q.to one two [] p.path q.path once i j i_in j_in meet in
    let path_two = cross_two g.nodes web next four track.ground p.from p.to q.from q.to one two [] p.path q.path once i j i_in j_in meet in
    let times_same : (z : ℕ) → times_walked z first + times_walked z second ≡ times_walked z one + times_walked z two = λ z. cross_times z i j one two in
    let once_then : (rest : List ℕ) → ((z : ℕ) → times_walked z one + times_walked z two + times_walked z rest ≤ 1) → (z : ℕ) → times_walked z first + times_walked z second + times_walked z rest ≤ 1 =
    λ rest few_it z. let a = few_it z in let b = times_same z in omega (arith, a, b) in
    -- the second node has its number still
    let node_kept : (more : Graph) (after : ℕ → ℕ) (fewer : ℕ → Bool) → IsRelinked g.nodes web next four (reverse_of (at one i)) (reverse_of (at two j)) more after fewer →
    node_after more.ends first x ≡ node_after more.ends second y =
    λ more after fewer is.
    let tail_a : tail_of web.ends (reverse_of (at one i)) ≡ node_after web.ends one i = seam_tail g web next four p.from p.to one p.path i i_in in
    let one_in : at one (suc k) < 2 * length web.ends = path_in E L p.from p.to one p.path (suc k) k_in in
    let two_in : at two (suc l) < 2 * length web.ends = path_in E L q.from q.to two q.path (suc l) l_in in
    ap (tail_of more.ends) first_at.1 ∙ is.tails (at two (suc l)) two_in (λ same. apart (sym tail_a ∙ sym same ∙ sym meet_too))
    ∙ sym meet_too ∙ sym (is.tails (at one (suc k)) one_in (λ same. apart (sym tail_a ∙ sym same)))
    ∙ sym (ap (tail_of more.ends) second_at.1) in
    let may_then : (more : Graph) (after : ℕ → ℕ) (fewer : ℕ → Bool) → IsRelinked g.nodes web next four (reverse_of (at one i)) (reverse_of (at two j)) more after fewer →
    MayBeRelinked more after fewer (reverse_of (at first x)) (reverse_of (at second y)) =
    λ more after fewer is.
    cross_may g.nodes more after fewer is.ground p.from q.to q.from p.to first second [] (path_one more after fewer is) (path_two more after fewer is)
    (once_then [] once) x y first_at.0 second_at.0 (node_kept more after fewer is) in
    record {
      may = may;
      may_then = may_then;
      leaves = λ more most after last fewer fewest is then.
          let kept : (d u : ℕ) → d < 2 * length web.ends → tail_of web.ends d ≡ u → u < g.nodes → tail_of most.ends d ≡ u = λ d u d_in at_u u_low.
          end_kept g.nodes more after fewer is.ground (reverse_of (at first x)) (reverse_of (at second y)) (may_then more after fewer is) most last fewest then d u
          (let all = is.split.all in omega (arith, all, d_in))
          (end_kept g.nodes web next four track.ground (reverse_of (at one i)) (reverse_of (at two j)) may more after fewer is d u d_in at_u u_low) u_low in
          let again = node_kept more after fewer is in
          track_from g edges web next four walks is_graph track e f s t e_in f_in differ (crossing_over first x second y) (crossing_over second y first x) most last fewest (record {
            ground = then.ground;
            first = record {
              from = p.from;
              to = p.to;
              path = cross_one g.nodes more after fewer is.ground p.from q.to q.from p.to first second [] (path_one more after fewer is) (path_two more after fewer is)
                  (once_then [] once) x y first_at.0 second_at.0 again most last fewest then;
              at_from = kept p.from (end_from g.ends e s) p_in.0 p.at_from (low e e_in s);
              at_to = kept p.to (end_from g.ends e (not s)) p_in.1 p.at_to (low e e_in (not s));
            };
            second = record {
              from = q.from;
              to = q.to;
              path = cross_two g.nodes more after fewer is.ground p.from q.to q.from p.to first second [] (path_one more after fewer is) (path_two more after fewer is)
                  (once_then [] once) x y first_at.0 second_at.0 again most last fewest then;
              at_from = kept q.from (end_from g.ends f t) q_in.0 q.at_from (low f f_in t);
              at_to = kept q.to (end_from g.ends f (not t)) q_in.1 q.at_to (low f f_in (not t));
            };
            others = λ h h_in not_e not_f.
                let r = edge_path g edges web next four walks is_graph track h h_in false in
                let r_in = path_ends_in E L r.from r.to (walks h) r.path in
                let beside = beside_two g edges web next four walks is_graph track e f s t e_in f_in differ h h_in not_e not_f in
                let path_h = cross_rest g.nodes web next four track.ground p.from p.to q.from q.to one two (walks h) p.path q.path beside i j i_in j_in meet more after fewer is r.from r.to r.path in
                record {
                  from = r.from;
                  to = r.to;
                  path = cross_rest g.nodes more after fewer is.ground p.from q.to q.from p.to first second (walks h) (path_one more after fewer is) (path_two more after fewer is)
                      (once_then (walks h) beside) x y first_at.0 second_at.0 again most last fewest then r.from r.to path_h;
                  at_from = kept r.from (end_from g.ends h false) r_in.0 r.at_from (low h h_in false);
                  at_to = kept r.to (end_from g.ends h true) r_in.1 r.at_to (low h h_in true);
                };
          }) (λ z.
          let a = cross_times z x y first second in
          let b = times_same z in
          let c = times-turned z t (walks f) in
          omega (arith, a, b, c));
    }
  where
    seam_tail : (g : Graph) (web : Graph) (next : ℕ → ℕ) (four : ℕ → Bool) (a z : ℕ) (ds : List ℕ) → Path (length web.ends) (PassesTo g.nodes web next four) a ds z → (i : ℕ) → suc i < length ds →
        tail_of web.ends (reverse_of (at ds i)) ≡ node_after web.ends ds i
    seam_tail g web next four a z ds path i i_in = sym (path_seam (length web.ends) (PassesTo g.nodes web next four) a z ds path i i_in).one_node
