-- What the calls that change a map leave is a map, and flat.
use Rattle.std.proofs.Common.{◌≡◌, ◌≢◌, ℕ, suc, ◌+◌, ◌-◌, ◌*◌, ◌<◌, ◌≤◌, ◌⊎◌, inl, inr, List, [], ◌∷◌, ◌++◌, length, sym, ◌∙◌, ap, subst, arith, length-append}
use Rattle.std.specs.List.{range_with_len}
use Rattle.xn_model.specs.Graph.{Graph}
use Rattle.xn_model.specs.Lists.{at}
use Rattle.xn_model.specs.Map.{MeetsEuler, IsMap, Joined}
use Rattle.xn_graph.specs.Limits.{graph_of}
use Rattle.xn_surgery.specs.Corners as laws
use Rattle.xn_surgery.specs.Insertion.{IsInsertion}
use Rattle.xn_map.specs.Changes.{Inserts, Stands, StaysFlat, corner_of, node_of}
use Rattle.xn_map.specs.Corners.{InOneFace, IsCorner}
use Rattle.xn_map.specs.Listed.{IsListedMap, ListedMap, map_of}
use Rattle.xn_map.specs.declared.corners.Corner.{Corner}
use Rattle.xn_map.specs.declared.corners.Corner.TheVariants.{After, Lone}
use Rattle.xn_genus.proofs.Nodes.{components_more, lone_more, map_more as node_map}
use Rattle.xn_ring.proofs.Inverse.{at-append_range, length-append_range}
use Rattle.xn_surgery.proofs.Insert.{map_more}
use Rattle.xn_surgery.proofs.InsertFlat.{insertion_flat}
use Rattle.xn_surgery.proofs.Stand.{AtDart, stand-agree}

-- corners in the words of the laws
law_corner : (m : ListedMap) → IsListedMap m → (c : Corner) → IsCorner m c → laws.IsCornerOf m.web.nodes m.web.ends (corner_of c)
law_corner m listed (After d) h = omega (arith, h, listed.fits)
law_corner m listed (Lone v) h = h

law_face : (next : ℕ → ℕ) (a b : Corner) → InOneFace next a b → laws.InOneFace next (corner_of a) (corner_of b)
law_face next (After d) (After e) h = h
law_face next (After d) (Lone v) h = absurd h
law_face next (Lone u) (After e) h = absurd h
law_face next (Lone u) (Lone v) h = h

-- a fact on old darts holds of the dart of a corner
at_dart : (m : ListedMap) → IsListedMap m → (c : Corner) → IsCorner m c → (f g : ℕ → ℕ) → ((d : ℕ) → d < 2 * length m.web.ends → f d ≡ g d) → AtDart (corner_of c) (λ d. f d ≡ g d)
at_dart m listed (After d) h f g same = same d (omega (arith, h, listed.fits))
at_dart m listed (Lone v) h f g same = tt

module _ (m : ListedMap) (listed : IsListedMap m) (a b : Corner) (a_in : IsCorner m a) (b_in : IsCorner m b) (two_nodes : node_of m a ≢ node_of m b)
    (web : Graph) (grown half next : List ℕ) (u v : ℕ) (u_is : u ≡ node_of m a) (v_is : v ≡ node_of m b)
    (web_is : web ≡ graph_of m.web.nodes (m.web.ends ++ (u, v) ∷ [])) (grown_is : grown ≡ m.next ++ range_with_len (length m.next) 2)
    (second : Stands b (2 * length m.web.ends + 1) grown half) (first : Stands a (2 * length m.web.ends) half next) where
  abbrev count : ℕ
  count = length m.web.ends

  abbrev x : ℕ
  x = 2 * count

  abbrev y : ℕ
  y = 2 * count + 1

  grown_size : length grown ≡ 2 * suc count
  grown_size =
      let two = length-append_range m.next 2 in
      omega (arith, ap length grown_is, two, listed.fits)

  grown_old : (d : ℕ) → d < x → at grown d ≡ at m.next d
  grown_old d d_in = elim (at-append_range m.next 2 d (omega (arith, d_in, listed.fits))) [
    | inl old ↦ ap (λ xs. at xs d) grown_is ∙ old.1
    | inr new ↦ absurd (omega (arith, new.0, d_in, listed.fits))
  ]

  abbrev law_a : laws.Corner
  law_a = corner_of a

  abbrev law_b : laws.Corner
  law_b = corner_of b

  half_is : (d : ℕ) → d < 2 * suc count → d ≢ x → at half d ≡ laws.stand_at law_b y (at m.next) d
  half_is d d_in not_x =
      second.1 d (omega (arith, d_in, grown_size))
      ∙ stand-agree law_b y (at grown) (at m.next) d (at_dart m listed b b_in (at grown) (at m.next) grown_old)
      (λ not_y. grown_old d (omega (arith, d_in, not_x, not_y)))

  next_is : (d : ℕ) → d < 2 * suc count → at next d ≡ laws.stand_at law_a x (laws.stand_at law_b y (at m.next)) d
  next_is d d_in =
      first.1 d (omega (arith, d_in, grown_size, second.0))
      ∙ stand-agree law_a x (at half) (laws.stand_at law_b y (at m.next)) d
      (at_dart m listed a a_in (at half) (laws.stand_at law_b y (at m.next)) (λ e e_in. half_is e (omega (arith, e_in)) (λ same. omega (arith, same, e_in))))
      (λ not_x. half_is d d_in not_x)

  inserted : IsInsertion m.web.nodes m.web.ends (at m.next) law_a law_b web.ends (at next)
  inserted = record {
    first = law_corner m listed a a_in;
    second = law_corner m listed b b_in;
    two_nodes = two_nodes;
    ends_more =
        ap (λ w. w.ends) web_is ∙ ap (λ z. m.web.ends ++ (z, v) ∷ []) u_is ∙ ap (λ z. m.web.ends ++ (node_of m a, z) ∷ []) v_is;
    turns = next_is;
  }

  pub inserts : Inserts m a b (map_of web next)
  inserts = (ap (λ w. w.nodes) web_is, inserted)

  pub inserted_listed : IsListedMap (map_of web next)
  inserted_listed =
      let P : ℕ → Type 0 = λ k. IsMap k web.ends (at next) in
      record {
        fits = omega (arith, first.0, second.0, grown_size, ap (λ w. length w.ends) web_is, length-append m.web.ends ((u, v) ∷ []));
        is_map = subst P (sym (ap (λ w. w.nodes) web_is)) (map_more m.web.nodes m.web.ends web.ends law_a law_b (at m.next) (at next) listed.is_map inserted);
      }

  pub inserted_flat : (InOneFace (at m.next) a b ⊎ (Joined m.web.ends (node_of m a) (node_of m b) → ⊥)) → StaysFlat m (map_of web next)
  inserted_flat one_face flat =
      let P : ℕ → Type 0 = λ k. MeetsEuler k web.ends (at next) in
      subst P (sym (ap (λ w. w.nodes) web_is))
      (insertion_flat m.web.nodes m.web.ends web.ends law_a law_b (at m.next) (at next) listed.is_map inserted
      (elim one_face [ inl same ↦ inl (law_face (at m.next) a b same) | inr apart ↦ inr apart ]) flat)

-- a node more
pub added_listed : (web : Graph) (next : List ℕ) → IsListedMap (map_of web next) → IsListedMap (map_of (graph_of (web.nodes + 1) web.ends) next)
added_listed web next listed =
    let P : ℕ → Type 0 = λ k. IsMap k web.ends (at next) in
    let more : suc web.nodes ≡ web.nodes + 1 = omega arith in
    record { fits = listed.fits; is_map = subst P more (node_map web.nodes web.ends listed.is_map.ends_in (at next) listed.is_map) }

pub added_flat : (web : Graph) (next : List ℕ) → IsListedMap (map_of web next) → StaysFlat (map_of web next) (map_of (graph_of (web.nodes + 1) web.ends) next)
added_flat web next listed flat =
    let P : ℕ → Type 0 = λ k. MeetsEuler k web.ends (at next) in
    let more : suc web.nodes ≡ web.nodes + 1 = omega arith in
    let ends_in = listed.is_map.ends_in in
    let wide : MeetsEuler (suc web.nodes) web.ends (at next) = omega (arith, flat, lone_more web.nodes web.ends ends_in, components_more web.nodes web.ends ends_in) in
    subst P more wide

-- the two new darts are alone
pub grown_alone : (next grown : List ℕ) → grown ≡ next ++ range_with_len (length next) 2 → (d : ℕ) → length grown - 2 ≤ d → d < length grown → at grown d ≡ d
grown_alone next grown grown_is d high d_in =
    let size = ap length grown_is ∙ length-append_range next 2 in
    elim (at-append_range next 2 d (omega (arith, d_in, size))) [
      | inl old ↦ absurd (omega (arith, old.0, high, size))
      | inr new ↦ ap (λ xs. at xs d) grown_is ∙ new.1
    ]

-- what add_edge leaves of the map now
pub record EdgeAdded (now : ListedMap) (a b : Corner) (new : ListedMap) : Type 0 where
  pub inserts : Inserts now a b new
  pub listed : IsListedMap new
  pub flat : StaysFlat now new

pub edge_added : (old now : ListedMap) → old ≡ now → IsListedMap old → (a b : Corner) → IsCorner now a → IsCorner now b → node_of now a ≢ node_of now b →
    (InOneFace (at now.next) a b ⊎ (Joined now.web.ends (node_of now a) (node_of now b) → ⊥)) →
    (web : Graph) (grown half next : List ℕ) (u v : ℕ) → u ≡ node_of now a → v ≡ node_of now b →
    web ≡ graph_of old.web.nodes (old.web.ends ++ (u, v) ∷ []) → grown ≡ old.next ++ range_with_len (length old.next) 2 →
    (s : ℕ) → s ≡ length old.web.ends → Stands b (2 * s + 1) grown half → Stands a (2 * s) half next → EdgeAdded now a b (map_of web next)
edge_added old now view listed a b a_in b_in two_nodes one_face web grown half next u v u_is v_is web_is grown_is s s_is stands_b stands_a =
    let C : (c : Corner) → ListedMap → Type 0 = λ c m. IsCorner m c in
    let N : ListedMap → Type 0 = λ m. node_of m a ≢ node_of m b in
    let F : ListedMap → Type 0 = λ m. InOneFace (at m.next) a b ⊎ (Joined m.web.ends (node_of m a) (node_of m b) → ⊥) in
    let E : ListedMap → Type 0 = λ m. EdgeAdded m a b (map_of web next) in
    let S : ℕ → Type 0 = λ k. Stands b (2 * k + 1) grown half in
    let T : ℕ → Type 0 = λ k. Stands a (2 * k) half next in
    let second = subst S s_is stands_b in
    let first = subst T s_is stands_a in
    let u_old = u_is ∙ ap (λ m. node_of m a) (sym view) in
    let v_old = v_is ∙ ap (λ m. node_of m b) (sym view) in
    let a_old = subst (C a) (sym view) a_in in
    let b_old = subst (C b) (sym view) b_in in
    let two_old = subst N (sym view) two_nodes in
    let face_old = subst F (sym view) one_face in
    subst E view record {
      inserts = inserts old listed a b a_old b_old two_old web grown half next u v u_old v_old web_is grown_is second first;
      listed = inserted_listed old listed a b a_old b_old two_old web grown half next u v u_old v_old web_is grown_is second first;
      flat = inserted_flat old listed a b a_old b_old two_old web grown half next u v u_old v_old web_is grown_is second first face_old;
    }
