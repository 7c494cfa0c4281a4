-- Where code looks into a tangle: walks, darts and marks that it reads, and which pass it finds by a note.
use Rattle.std.proofs.Common.{◌≡◌, ℕ, zero, suc, ◌/◌, ◌<◌, ◌≤◌, inl, inr, Bool, true, Option, Some, None, Vec, List, [], ◌∷◌, length, get_or, set, sym, ◌∙◌, ap, subst, arith}
use Rattle.std.specs.Prelude.{vec_items}
use Rattle.std.specs.Global.{Global}
use Rattle.std.proofs.lemmas.List.{get_or-map, length-map, map-set}
use Rattle.xn_model.specs.Graph.{Graph}
use Rattle.xn_model.specs.Lists.{at, has}
use Rattle.xn_model.specs.Map.{tail_of}
use Rattle.xn_model.proofs.Darts.{reverse_other}
use Rattle.xn_model.proofs.Has.{has-all}
use Rattle.xn_list.specs.Lists.{lists_of}
use Rattle.xn_map.specs.Marks.{is_marked}
use Rattle.xn_insert.specs.ListedLoose.{walk_of}
use Rattle.xn_simple.specs.Tangle.{GoesOver, IsNotedAt, IsPassIn, IsPassOver, IsSomeTangle, IsTangle, ListedTangle, PassesAt, named, node_in, pass_of, walk_in}
use Rattle.xn_simple.specs.declared.tangle.Pass.{Pass}
use Rattle.xn_simple.proofs.Tangled.{dart_in, edge_in, noted}

-- ---- walks

-- a walk with a dart is one of the lists
pub walk_given : (walks : List (List ℕ)) (e i : ℕ) → i < length (walk_of walks e) → e < length walks
walk_given [] e i i_in = absurd (omega (arith, i_in))
walk_given (w ∷ walks) zero i i_in = omega arith
walk_given (w ∷ walks) (suc e) i i_in = let rest = walk_given walks e i i_in in omega (arith, rest)

module _ (vecs : List (Vec ℕ Global)) where
  pub vec_given : (e i : ℕ) → i < length (walk_of (lists_of vecs) e) → e < length vecs
  vec_given e i i_in = let low = walk_given (lists_of vecs) e i i_in in let size = length-map vecs (vec_items {Z = Global}) in omega (arith, low, size)

  pub vec_read : (e : ℕ) (x : Vec ℕ Global) → e < length vecs → x ≡ get_or vecs e x → x.items ≡ walk_of (lists_of vecs) e
  vec_read e x e_in is = ap vec_items is ∙ sym (get_or-map vec_items vecs e x [] e_in)

  pub vec_set : (e : ℕ) (w : Vec ℕ Global) → lists_of (set vecs e w) ≡ set (lists_of vecs) e w.items
  vec_set e w = map-set vec_items vecs e w

-- ---- what is read of a tangle

module _ (t : ListedTangle) (some : IsSomeTangle t) (e i : ℕ) (place : suc i < length (walk_in t e)) where
  -- the dart by which the walk of e leaves
  pub leaving_in : at (walk_in t e) (suc i) < length t.map.next
  leaving_in =
      let low = dart_in some.0 t some.1 e (suc i) place in
      let fits = some.1.is_map.fits in
      omega (arith, low, fits)

  pub named_read : (d v : ℕ) (b : Bool) → d ≡ at (walk_in t e) (suc i) → v ≡ tail_of t.map.web.ends d → b ≡ is_marked t.four v → b ≡ named t (node_in t e i)
  named_read d v b d_is v_is b_is = b_is ∙ ap (is_marked t.four) (v_is ∙ ap (tail_of t.map.web.ends) d_is)

-- the darts of a walk are darts of the map
pub darts_below : (t : ListedTangle) → IsSomeTangle t → (e : ℕ) (walk : List ℕ) → walk ≡ walk_in t e → (i : ℕ) → i < length walk → at walk i < length t.map.next
darts_below t some e walk is i i_in =
    let low = dart_in some.0 t some.1 e i (let size = ap length is in omega (arith, i_in, size)) in
    let fits = some.1.is_map.fits in
    let same = ap (λ w. at w i) is in
    omega (arith, low, fits, same)

-- a dart has a note
pub note_in : (t : ListedTangle) → IsSomeTangle t → (d : ℕ) → d < length t.map.next → (d / 2 < length t.owners) × (d / 2 < length t.places)
note_in t some d d_in =
    let fits = some.1.is_map.fits in
    let owners = some.1.owners_fit in
    let places = some.1.places_fit in
    (omega (arith, d_in, fits, owners), omega (arith, d_in, fits, places))

-- an edge with a dart is one of the graph
pub edge_below : (g : Graph) (t : ListedTangle) → IsTangle g t → (e : ℕ) → has t.edges e ≡ true → e < length g.ends
edge_below g t tangle e e_in = has-all (λ f. f < length g.ends) t.edges tangle.loosened.track.edge_list.below e e_in

pub walked_below : (g : Graph) (t : ListedTangle) → IsTangle g t → (e i : ℕ) → i < length (walk_in t e) → e < length g.ends
walked_below g t tangle e i i_in = edge_below g t tangle e (edge_in g t tangle e i i_in)

-- its walk is one of the lists
pub edge_given : (g : Graph) (t : ListedTangle) → IsTangle g t → (vecs : List (Vec ℕ Global)) → t.walks ≡ lists_of vecs → (e : ℕ) → has t.edges e ≡ true → e < length vecs
edge_given g t tangle vecs walks e e_in =
    let low = edge_below g t tangle e e_in in
    let lists = tangle.lists in
    let size = ap length walks ∙ length-map vecs (vec_items {Z = Global}) in
    omega (arith, low, lists, size)

-- ---- the pass in one walk

no_place : (j : ℕ) → Path (Option ℕ) None (Some j) → ⊥
no_place j same = cc

place_same : (i j : ℕ) → Path (Option ℕ) (Some i) (Some j) → i ≡ j
place_same i j same = cc

-- the place from which the walk goes over d
pub one_before : (walk : List ℕ) (noted d : ℕ) → at walk noted ≡ d → 0 < noted → (j : ℕ) → IsNotedAt walk j d noted → noted ≡ suc j
one_before walk noted d here some j (inl is) = is.1
one_before walk noted d here some j (inr is) = absurd (reverse_other d (sym is.0 ∙ ap (at walk) (sym is.1) ∙ here))

pub none_before : (walk : List ℕ) (noted d : ℕ) → (at walk noted ≡ d → noted ≡ 0) → (j : ℕ) → IsNotedAt walk j d noted → noted ≡ j
none_before walk noted d not_here j (inl is) = let first = not_here (ap (at walk) is.1 ∙ is.0) in let one = is.1 in absurd (omega (arith, first, one))
none_before walk noted d not_here j (inr is) = is.1

module _ (ends : List (ℕ × ℕ)) (walk : List ℕ) (noted d : ℕ) where
  pub pass_past : length walk ≤ noted → IsPassIn ends walk noted d None
  pass_past past = record { sound = λ j found. absurd (no_place j found); all = λ j passes at_noted. absurd (none j passes.0 at_noted) }
    where
      none : (j : ℕ) → suc j < length walk → IsNotedAt walk j d noted → ⊥
      none j low (inl is) = let one = is.1 in omega (arith, one, low, past)
      none j low (inr is) = let one = is.1 in omega (arith, one, low, past)

  module _ (place : ℕ) (is : (j : ℕ) → IsNotedAt walk j d noted → place ≡ j) where
    pub pass_there : PassesAt ends walk place (tail_of ends d) → IsPassIn ends walk noted d (Some place)
    pass_there here = record {
      sound = λ j found. subst (λ k. PassesAt ends walk k (tail_of ends d)) (place_same place j found) here;
      all = λ j passes at_noted. ap (λ k. Some k) (is j at_noted);
    }

    pub pass_nowhere : (PassesAt ends walk place (tail_of ends d) → ⊥) → IsPassIn ends walk noted d None
    pass_nowhere misses = record {
      sound = λ j found. absurd (no_place j found);
      all = λ j passes at_noted. absurd (misses (subst (λ k. PassesAt ends walk k (tail_of ends d)) (sym (is j at_noted)) passes));
    }

-- ---- the pass over a dart

none_some : (p : Pass) → Path (Option Pass) None (Some p) → ⊥
none_some p same = cc

some_same : (p q : Pass) → Path (Option Pass) (Some p) (Some q) → p ≡ q
some_same p q same = cc

module _ (t : ListedTangle) (some : IsSomeTangle t) (d : ℕ) where
  -- the noted edge has no walk
  pub over_past : length t.walks ≤ at t.owners (d / 2) → IsPassOver t d None
  over_past past = record {
    sound = λ p found. absurd (none_some p found);
    all = λ f j passes goes.
        let n = noted some.0 t some.1 f j d passes.0 goes in
        let low = walk_given t.walks f (suc j) passes.0 in
        let owner = n.0 in
        absurd (omega (arith, low, owner, past));
  }

  module _ (edge place : ℕ) (edge_is : edge ≡ at t.owners (d / 2)) (place_is : place ≡ at t.places (d / 2)) (found : Option ℕ)
      (inside : IsPassIn t.map.web.ends (walk_in t edge) place d found) where
    -- a pass over d is the found one
    over_all : (f j : ℕ) → PassesAt t.map.web.ends (walk_in t f) j (tail_of t.map.web.ends d) → GoesOver (walk_in t f) j d → (f ≡ edge) × (found ≡ Some j)
    over_all f j passes goes =
        let n = noted some.0 t some.1 f j d passes.0 goes in
        let same : f ≡ edge = sym n.0 ∙ sym edge_is in
        let P : ℕ → Type 0 = λ h. PassesAt t.map.web.ends (walk_in t h) j (tail_of t.map.web.ends d) in
        let N : ℕ → Type 0 = λ h. IsNotedAt (walk_in t h) j d place in
        let M : ℕ → Type 0 = λ k. IsNotedAt (walk_in t f) j d k in
        (same, inside.all j (subst P same passes) (subst N same (subst M (sym place_is) n.1)))

    pub over_none : found ≡ None → IsPassOver t d None
    over_none is = record {
      sound = λ p none. absurd (none_some p none);
      all = λ f j passes goes. absurd (no_place j (sym is ∙ (over_all f j passes goes).1));
    }

    pub over_some : (i : ℕ) → found ≡ Some i → IsPassOver t d (Some (pass_of edge i))
    over_some i is = record {
      sound = λ p one. subst (λ q. PassesAt t.map.web.ends (walk_in t q.edge) q.place (tail_of t.map.web.ends d)) (some_same (pass_of edge i) p one) (inside.sound i is);
      all = λ f j passes goes.
          let there = over_all f j passes goes in
          let one : i ≡ j = place_same i j (sym is ∙ there.1) in
          ap (λ h. Some (pass_of h i)) (sym there.0) ∙ ap (λ k. Some (pass_of f k)) one;
    }
