-- From which corner to which a segment may go.
use Rattle.std.proofs.Common.{◌≡◌, ◌≢◌, ℕ, ◌+◌, ◌*◌, ◌<◌, ◌≤◌, inl, inr, ◌||◌, Bool, true, false, List, [], ◌∷◌, length, refl, sym, ap, subst, ◌∙◌, arith}
use Rattle.std.proofs.lemmas.Bool.{both_ways, cases_lt, or_cases}
use Rattle.xn_model.specs.Graph.{Graph, ends_at}
use Rattle.xn_model.specs.Insertion.{is_old}
use Rattle.xn_model.specs.Lists.{at}
use Rattle.xn_model.specs.Map.{face_step, tail_of}
use Rattle.xn_model.specs.Permutation.{Reaches}
use Rattle.xn_graph.specs.Limits.{HasNodes}
use Rattle.xn_genus.proofs.Nodes.{lone_from}
use Rattle.xn_map.specs.Anchored.{HasNoDart, IsDartOf}
use Rattle.xn_map.specs.Listed.{IsListedMap}
use Rattle.xn_map.specs.declared.corners.Corner.{Corner}
use Rattle.xn_map.specs.declared.corners.Corner.TheVariants.{After, Lone}
use Rattle.xn_dmp.specs.Fragments.{IsCutOff}
use Rattle.xn_dmp.specs.Growing.{Grown, IsCornerAt, IsGrown, IsNext, MayPlace}
use Rattle.xn_dmp.specs.Sharing.{HasCornerAt, IsCornerIn, NoFaceFrom}
use Rattle.xn_dmp.proofs.Placing.{new_if_no_dart, old_if_dart}

module _ (g : Grown) (grown : IsGrown g) (is : IsListedMap g.map) (s : ℕ) (next : IsNext g s) (ends : ℕ × ℕ) (ends_are : ends ≡ ends_at g.web.ends s) (nodes : HasNodes g.web.nodes ends) where
  abbrev u : ℕ
  u = ends.0

  abbrev v : ℕ
  v = ends.1

  u_is : u ≡ (ends_at g.web.ends s).0
  u_is = ap (λ (p : ℕ × ℕ). p.0) ends_are

  v_is : v ≡ (ends_at g.web.ends s).1
  v_is = ap (λ (p : ℕ × ℕ). p.1) ends_are

  lone_there : (w x : ℕ) → w < g.web.nodes → w ≡ x → HasNoDart g.map.web.ends w → IsCornerAt g.map (Lone w) x
  lone_there w x w_in is_x none = ((omega (arith, w_in, ap (λ (web : Graph). web.nodes) grown.flat.web_is), lone_from g.map.web.ends w none), is_x)

  dart_there : (d w x : ℕ) → w ≡ x → IsDartOf g.map.web.ends w d → IsCornerAt g.map (After d) x
  dart_there d w x is_x dart = (omega (arith, dart.0, is.fits), dart.1 ∙ is_x)

  pub both_lone : HasNoDart g.map.web.ends u → HasNoDart g.map.web.ends v → MayPlace g s (Lone u) (Lone v)
  both_lone u_none v_none = record {
    free = next.free;
    first_at = lone_there u (ends_at g.web.ends s).0 nodes.0 u_is u_none;
    second_at = lone_there v (ends_at g.web.ends s).1 nodes.1 v_is v_none;
    join = elim (cases_lt 0 (length g.placed)) [
      | inr none ↦ omega (arith, none)
      | inl some ↦ elim (or_cases (is_old g.web.ends g.placed (ends_at g.web.ends s).0) (is_old g.web.ends g.placed (ends_at g.web.ends s).1) (next.hangs some)) [
        | inl first ↦ absurd (both_ways _ (new_if_no_dart g grown u u_none) (ap (is_old g.web.ends g.placed) u_is ∙ first))
        | inr second ↦ absurd (both_ways _ (new_if_no_dart g grown v v_none) (ap (is_old g.web.ends g.placed) v_is ∙ second))
      ]
    ];
  }

  pub second_lone : (d : ℕ) → IsDartOf g.map.web.ends u d → HasNoDart g.map.web.ends v → MayPlace g s (After d) (Lone v)
  second_lone d dart v_none = record {
    free = next.free;
    first_at = dart_there d u (ends_at g.web.ends s).0 u_is dart;
    second_at = lone_there v (ends_at g.web.ends s).1 nodes.1 v_is v_none;
    join = tt;
  }

  pub first_lone : (e : ℕ) → HasNoDart g.map.web.ends u → IsDartOf g.map.web.ends v e → MayPlace g s (Lone u) (After e)
  first_lone e u_none dart = record {
    free = next.free;
    first_at = lone_there u (ends_at g.web.ends s).0 nodes.0 u_is u_none;
    second_at = dart_there e v (ends_at g.web.ends s).1 v_is dart;
    join = tt;
  }

  pub none_lone : (d e : ℕ) → IsDartOf g.map.web.ends u d → IsCornerIn g.map d v e → MayPlace g s (After d) (After e)
  none_lone d e d_at e_at = record {
    free = next.free;
    first_at = dart_there d u (ends_at g.web.ends s).0 u_is d_at;
    second_at = dart_there e v (ends_at g.web.ends s).1 v_is e_at.0;
    join = e_at.1;
  }

  pub cut_off : (d e : ℕ) → IsDartOf g.map.web.ends u d → IsDartOf g.map.web.ends v e → NoFaceFrom g.map (tail_of g.map.web.ends d) (v ∷ []) → IsCutOff g s
  cut_off d e d_at e_at none =
      let P : ℕ → Type 0 = λ x. NoFaceFrom g.map x (v ∷ []) in
      let Q : ℕ → Type 0 = λ x. NoFaceFrom g.map x ((ends_at g.web.ends s).1 ∷ []) in
      let R : ℕ → Type 0 = λ y. NoFaceFrom g.map u (y ∷ []) in
      record {
        first_old = ap (is_old g.web.ends g.placed) (sym u_is) ∙ old_if_dart g grown u d d_at;
        second_old = ap (is_old g.web.ends g.placed) (sym v_is) ∙ old_if_dart g grown v e e_at;
        no_face = subst Q u_is (subst R v_is (subst P d_at.1 none));
      }
