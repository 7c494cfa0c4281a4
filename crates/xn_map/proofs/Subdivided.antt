-- What it leaves to put a new node on a segment.
use Rattle.std.proofs.Common.{◌≡◌, ◌≢◌, ℕ, suc, ◌+◌, ◌*◌, ◌/◌, ◌%◌, ◌<◌, inl, inr, List, [], ◌∷◌, ◌++◌, length, set, refl, sym, ◌∙◌, ap, subst, arith, length-append}
use Rattle.std.specs.List.{range_with_len}
use Rattle.std.proofs.lemmas.Bool.{cases_eq, cond-true, cond-false, eq-eqb, ne_eqb}
use Rattle.std.proofs.lemmas.List.{get_or_append_left, get_or_at, get_or-set_other, get_or-set_same, length-set, set-append_left}
use Rattle.xn_model.specs.Graph.{Graph, ends_at}
use Rattle.xn_model.specs.Lists.{at}
use Rattle.xn_model.specs.Map.{MeetsEuler, IsMap}
use Rattle.xn_model.specs.Permutation.{IsSplice, Permutes}
use Rattle.xn_graph.specs.Limits.{graph_of}
use Rattle.xn_surgery.specs.Subdivision.{IsSubdivision, dart_now}
use Rattle.xn_map.specs.Anchored.{ends_moved}
use Rattle.xn_map.specs.Changes.{StaysFlat, TakesPlace, new_name}
use Rattle.xn_map.specs.Dividing.{Subdivides, divided}
use Rattle.xn_map.specs.Listed.{IsListedMap, ListedMap, map_of}
use Rattle.xn_ring.proofs.Inverse.{at-append_range, length-append_range}
use Rattle.xn_surgery.proofs.Subdivide.{components_more, faces_more, map_more}

-- a node and a segment more, and the second end of s is moved
pub web_divided : (web : Graph) (s v w : ℕ) (wider longer new : Graph) → s < length web.ends → v ≡ (ends_at web.ends s).1 → w ≡ web.nodes →
    wider ≡ graph_of (web.nodes + 1) web.ends → longer ≡ graph_of wider.nodes (wider.ends ++ (w, v) ∷ []) →
    new ≡ graph_of longer.nodes (set longer.ends ((2 * s + 1) / 2) (ends_moved (2 * s + 1) w (ends_at longer.ends ((2 * s + 1) / 2)))) → new ≡ divided web s
web_divided web s v w wider longer new s_in v_is w_is wider_is longer_is new_is =
    let half : (2 * s + 1) / 2 ≡ s = omega arith in
    let odd : (2 * s + 1) % 2 ≢ 0 = λ h. omega (arith, h) in
    let moved : ends_moved (2 * s + 1) w (ends_at longer.ends s) ≡ ((ends_at longer.ends s).0, w) = cond-false _ _ _ (ne_eqb _ _ odd) in
    let P : ℕ → Type 0 = λ k. new ≡ graph_of longer.nodes (set longer.ends k (ends_moved (2 * s + 1) w (ends_at longer.ends k))) in
    let Q : ℕ × ℕ → Type 0 = λ p. new ≡ graph_of longer.nodes (set longer.ends s p) in
    let at_s : Q ((ends_at longer.ends s).0, w) = subst Q moved (subst P half new_is) in
    let q : ℕ × ℕ = (web.nodes, (ends_at web.ends s).1) in
    let wide : wider.nodes ≡ web.nodes + 1 = ap (λ g. g.nodes) wider_is in
    let pair : (w, v) ≡ q = rw (w_is, v_is) refl in
    let long : longer ≡ graph_of (web.nodes + 1) (web.ends ++ q ∷ []) =
    longer_is ∙ ap (λ k. graph_of k (wider.ends ++ (w, v) ∷ [])) wide ∙ ap (λ g. graph_of (web.nodes + 1) (g.ends ++ (w, v) ∷ [])) wider_is
    ∙ ap (λ p. graph_of (web.nodes + 1) (web.ends ++ p ∷ [])) pair in
    let first : new ≡ graph_of (web.nodes + 1) (set (web.ends ++ q ∷ []) s ((ends_at (web.ends ++ q ∷ []) s).0, w)) =
    at_s ∙ ap (λ g. graph_of g.nodes (set g.ends s ((ends_at g.ends s).0, w))) long in
    let written : List (ℕ × ℕ) = set (web.ends ++ q ∷ []) s ((ends_at web.ends s).0, web.nodes) in
    let second : graph_of (web.nodes + 1) (set (web.ends ++ q ∷ []) s ((ends_at (web.ends ++ q ∷ []) s).0, w)) ≡ graph_of (web.nodes + 1) written =
    ap (λ p. graph_of (web.nodes + 1) (set (web.ends ++ q ∷ []) s (p.0, w))) (get_or_append_left web.ends (q ∷ []) (0, 0) s s_in)
    ∙ ap (λ k. graph_of (web.nodes + 1) (set (web.ends ++ q ∷ []) s ((ends_at web.ends s).0, k))) w_is in
    let third : graph_of (web.nodes + 1) written ≡ divided web s =
    ap (graph_of (web.nodes + 1)) (set-append_left web.ends (q ∷ []) s ((ends_at web.ends s).0, web.nodes) s_in) in
    first ∙ (second ∙ third)

-- darts that are added, each alone, leave a permutation
pub grown_permutes : (next grown : List ℕ) → grown ≡ next ++ range_with_len (length next) 2 → Permutes (length next) (at next) → Permutes (length grown) (at grown)
grown_permutes next grown grown_is permutes =
    let size : length grown ≡ length next + 2 = ap length grown_is ∙ length-append_range next 2 in
    let wide = next ++ range_with_len (length next) 2 in
    let same : (d : ℕ) → at grown d ≡ at wide d = λ d. ap (λ xs. at xs d) grown_is in
    record {
      below = λ d d_in. elim (at-append_range next 2 d (omega (arith, d_in, size))) [
        | inl old ↦ omega (arith, same d, old.1, permutes.below d old.0, size)
        | inr new ↦ omega (arith, same d, new.1, d_in)
      ];
      apart = λ d e d_in e_in one. elim (at-append_range next 2 d (omega (arith, d_in, size))) [
        | inl d_old ↦ elim (at-append_range next 2 e (omega (arith, e_in, size))) [
          | inl e_old ↦ permutes.apart d e d_old.0 e_old.0 (sym d_old.1 ∙ sym (same d) ∙ one ∙ same e ∙ e_old.1)
          | inr e_new ↦ absurd (omega (arith, same d, same e, one, d_old.1, e_new.1, e_new.0, permutes.below d d_old.0))
        ]
        | inr d_new ↦ elim (at-append_range next 2 e (omega (arith, e_in, size))) [
          | inl e_old ↦ absurd (omega (arith, same d, same e, one, d_new.1, e_old.1, d_new.0, permutes.below e e_old.0))
          | inr e_new ↦ omega (arith, same d, same e, one, d_new.1, e_new.1)
        ]
      ];
    }

module _ (m : ListedMap) (listed : IsListedMap m) (s : ℕ) (s_in : s < length m.web.ends) (web : Graph) (web_is : web ≡ divided m.web s)
    (grown half next : List ℕ) (grown_is : grown ≡ m.next ++ range_with_len (length m.next) 2)
    (placed : TakesPlace (2 * s + 1) (2 * length m.web.ends + 1) grown half) (same_length : length next ≡ length half)
    (paired : IsSplice (length half) (2 * s + 1) (2 * length m.web.ends) (at half) (at next)) where
  abbrev count : ℕ
  count = length m.web.ends

  abbrev x : ℕ
  x = 2 * s + 1

  abbrev y : ℕ
  y = 2 * count

  abbrev z : ℕ
  z = 2 * count + 1

  grown_size : length grown ≡ 2 * suc count
  grown_size = omega (arith, ap length grown_is, length-append_range m.next 2, listed.fits)

  half_size : length half ≡ 2 * suc count
  half_size = placed.0 ∙ grown_size

  grown_old : (d : ℕ) → d < y → at grown d ≡ at m.next d
  grown_old d d_in = elim (at-append_range m.next 2 d (omega (arith, d_in, listed.fits))) [
    | inl old ↦ ap (λ xs. at xs d) grown_is ∙ old.1
    | inr new ↦ absurd (omega (arith, new.0, d_in, listed.fits))
  ]

  grown_y : at grown y ≡ y
  grown_y = elim (at-append_range m.next 2 y (omega (arith, listed.fits))) [
    | inl old ↦ absurd (omega (arith, old.0, listed.fits))
    | inr new ↦ ap (λ xs. at xs y) grown_is ∙ new.1
  ]

  -- once z has the place of x
  half_x : at half x ≡ x
  half_x = placed.1 x (omega (arith, grown_size, s_in)) ∙ cond-true _ _ _ (eq-eqb x x refl)

  half_z : at half z ≡ new_name x z (at m.next x)
  half_z =
      placed.1 z (omega (arith, grown_size)) ∙ cond-false _ _ _ (ne_eqb z x (λ same. omega (arith, same, s_in)))
      ∙ ap (λ w. new_name x z (at grown w)) (cond-true _ _ _ (eq-eqb z z refl)) ∙ ap (new_name x z) (grown_old x (omega (arith, s_in)))

  half_other : (d : ℕ) → d < 2 * suc count → d ≢ x → d ≢ z → at half d ≡ new_name x z (at grown d)
  half_other d d_in not_x not_z =
      placed.1 d (omega (arith, d_in, grown_size)) ∙ cond-false _ _ _ (ne_eqb d x not_x) ∙ ap (λ w. new_name x z (at grown w)) (cond-false _ _ _ (ne_eqb d z not_z))

  half_y : at half y ≡ y
  half_y =
      half_other y (omega arith) (λ same. omega (arith, same, s_in)) (λ same. omega (arith, same)) ∙ ap (new_name x z) grown_y
      ∙ cond-false _ _ _ (ne_eqb y x (λ same. omega (arith, same, s_in)))

  turns : (d : ℕ) → d < y → at next (dart_now s count d) ≡ dart_now s count (at m.next d)
  turns d d_in = elim (cases_eq d x) [
    | inl here ↦
        let now : dart_now s count d ≡ z = cond-true _ _ _ (eq-eqb d x here) in
        ap (at next) now ∙ paired.others z (omega (arith, half_size)) (λ same. omega (arith, same, s_in)) (λ same. omega (arith, same)) ∙ half_z
        ∙ ap (λ w. new_name x z (at m.next w)) (sym here)
    | inr other ↦
        let now : dart_now s count d ≡ d = cond-false _ _ _ (ne_eqb d x other) in
        ap (at next) now ∙ paired.others d (omega (arith, half_size, d_in)) other (λ same. omega (arith, same, d_in))
        ∙ half_other d (omega (arith, d_in)) other (λ same. omega (arith, same, d_in)) ∙ ap (new_name x z) (grown_old d d_in)
  ]

  abbrev p : ℕ × ℕ
  p = ((ends_at m.web.ends s).0, m.web.nodes)

  abbrev q : ℕ × ℕ
  q = (m.web.nodes, (ends_at m.web.ends s).1)

  abbrev kept : List (ℕ × ℕ)
  kept = set m.web.ends s p

  kept_size : length kept ≡ count
  kept_size = length-set m.web.ends s p

  subdivided : IsSubdivision m.web.nodes m.web.ends (at m.next) s web.ends (at next)
  subdivided = record {
    is_there = s_in;
    longer = let long = ap (λ w. length w.ends) web_is ∙ length-append kept (q ∷ []) in omega (arith, long, kept_size);
    ends_kept = λ i i_in other.
        ap (λ w. ends_at w.ends i) web_is ∙ get_or_append_left kept (q ∷ []) (0, 0) i (omega (arith, i_in, kept_size)) ∙ get_or-set_other m.web.ends s i p (0, 0) other;
    first_part = ap (λ w. ends_at w.ends s) web_is ∙ get_or_append_left kept (q ∷ []) (0, 0) s (omega (arith, s_in, kept_size)) ∙ get_or-set_same m.web.ends s p (0, 0) s_in;
    last_part = ap (λ w. ends_at w.ends count) web_is ∙ get_or_at kept q [] (0, 0) count kept_size;
    turns = turns;
    turns_new = paired.first ∙ half_y;
    turns_back = paired.second ∙ half_x;
  }

  more : suc m.web.nodes ≡ web.nodes
  more = let wide = ap (λ w. w.nodes) web_is in omega (arith, wide)

  subdivides : Subdivides m s (map_of web next)
  subdivides = (ap (λ w. w.nodes) web_is, subdivided)

  subdivided_listed : IsListedMap (map_of web next)
  subdivided_listed =
      let P : ℕ → Type 0 = λ k. IsMap k web.ends (at next) in
      record {
        fits = omega (arith, same_length, half_size, subdivided.longer);
        is_map = subst P more (map_more m.web.nodes s m.web.ends web.ends (at m.next) (at next) listed.is_map subdivided);
      }

  subdivided_flat : StaysFlat m (map_of web next)
  subdivided_flat flat =
      let faces = faces_more m.web.nodes s m.web.ends web.ends (at m.next) (at next) listed.is_map subdivided in
      let components = components_more m.web.nodes s m.web.ends web.ends (at m.next) (at next) listed.is_map subdivided in
      let wide : MeetsEuler (suc m.web.nodes) web.ends (at next) = omega (arith, flat, faces, components, subdivided.longer) in
      let P : ℕ → Type 0 = λ k. MeetsEuler k web.ends (at next) in
      subst P more wide

-- what subdivide leaves of the map now
pub record NodeAdded (now : ListedMap) (s : ℕ) (new : ListedMap) : Type 0 where
  pub subdivides : Subdivides now s new
  pub listed : IsListedMap new
  pub flat : StaysFlat now new

pub node_added : (old now : ListedMap) → old ≡ now → IsListedMap old → (s last : ℕ) → s < length now.web.ends → last ≡ length old.web.ends → (web : Graph) → web ≡ divided old.web s →
    (grown half next : List ℕ) → grown ≡ old.next ++ range_with_len (length old.next) 2 → TakesPlace (2 * s + 1) (2 * last + 1) grown half →
    length next ≡ length half → IsSplice (length half) (2 * s + 1) (2 * last) (at half) (at next) → NodeAdded now s (map_of web next)
node_added old now view listed s last s_in last_is web web_is grown half next grown_is placed same_length paired =
    let E : ListedMap → Type 0 = λ m. NodeAdded m s (map_of web next) in
    let S : ListedMap → Type 0 = λ m. s < length m.web.ends in
    let T : ℕ → Type 0 = λ k. TakesPlace (2 * s + 1) (2 * k + 1) grown half in
    let P : ℕ → Type 0 = λ k. IsSplice (length half) (2 * s + 1) (2 * k) (at half) (at next) in
    let s_old = subst S (sym view) s_in in
    let place = subst T last_is placed in
    let pair = subst P last_is paired in
    subst E view record {
      subdivides = subdivides old listed s s_old web web_is grown half next grown_is place same_length pair;
      listed = subdivided_listed old listed s s_old web web_is grown half next grown_is place same_length pair;
      flat = subdivided_flat old listed s s_old web web_is grown half next grown_is place same_length pair;
    }
