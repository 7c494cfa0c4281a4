-- A walk is put in the place of another one: the walks, the notes and the marks then.
use Rattle.std.proofs.Common.{◌≡◌, ◌≢◌, ℕ, suc, ◌+◌, ◌/◌, ◌<◌, ◌≤◌, inl, inr, Bool, true, false, not, ◌&&◌, eqb, List, [], length, set, refl, sym, ◌∙◌, ap, subst, arith}
use Rattle.std.proofs.lemmas.Bool.{and_parts, both_ways, cases_eq, cond-true, cond-false, eq-eqb, ne_eqb}
use Rattle.std.proofs.lemmas.List.{get_or-set_other, get_or-set_same, length-set}
use Rattle.xn_model.specs.Graph.{Graph}
use Rattle.xn_model.specs.Lists.{at, has}
use Rattle.xn_model.specs.Loose.{WalksOnly}
use Rattle.xn_model.specs.Permutation.{count_below}
use Rattle.xn_ring.proofs.Counting.{count-differs}
use Rattle.xn_map.specs.Listed.{IsListedMap}
use Rattle.xn_map.specs.Marks.{is_marked}
use Rattle.xn_track.specs.Steps.{with_walk}
use Rattle.xn_insert.specs.ListedLoose.{walk_of}
use Rattle.xn_simple.specs.Loosened.{IsLoosened, all_but}
use Rattle.xn_simple.specs.Tangle.{HoldNotes, IsNoted, IsWalkPut, IsTangle, ListedTangle, named, walk_in}

-- ---- as functions

pub walks-put : (walks : List (List ℕ)) (e : ℕ) (walk : List ℕ) → e < length walks → walk_of (set walks e walk) ≡ with_walk (walk_of walks) e walk
walks-put walks e walk e_in = λ i f. each f i
  where
    each : (f : ℕ) → walk_of (set walks e walk) f ≡ with_walk (walk_of walks) e walk f
    each f = elim (cases_eq f e) [
      | inl here ↦ ap (walk_of (set walks e walk)) here ∙ get_or-set_same walks e walk [] e_in ∙ sym (cond-true _ _ _ (eq-eqb f e here))
      | inr there ↦ get_or-set_other walks e f walk [] there ∙ sym (cond-false _ _ _ (ne_eqb f e there))
    ]

pub marks-unset : (four : List Bool) (v : ℕ) → v < length four → is_marked (set four v false) ≡ all_but (is_marked four) v
marks-unset four v v_in = λ i w. each w i
  where
    never : (b : Bool) → (b && false) ≡ false
    never true = refl
    never false = refl

    always : (b : Bool) → (b && true) ≡ b
    always true = refl
    always false = refl

    each : (w : ℕ) → is_marked (set four v false) w ≡ all_but (is_marked four) v w
    each w = elim (cases_eq w v) [
      | inl here ↦
          ap (is_marked (set four v false)) here ∙ get_or-set_same four v false false v_in
          ∙ sym (ap (λ b. is_marked four w && not b) (eq-eqb w v here) ∙ never (is_marked four w))
      | inr there ↦
          get_or-set_other four v w false false there
          ∙ sym (ap (λ b. is_marked four w && not b) (ne_eqb w v there) ∙ always (is_marked four w))
    ]

-- ---- notes

-- the first i darts of the walk are noted, and other segments as before
pub record IsNotedTo (e : ℕ) (walk : List ℕ) (i : ℕ) (owners places owners_now places_now : List ℕ) : Type 0 where
  pub owners_fit : length owners_now ≡ length owners
  pub places_fit : length places_now ≡ length places
  pub here : (x : ℕ) → x < i → (at owners_now (at walk x / 2) ≡ e) × (at places_now (at walk x / 2) ≡ x)
  pub others : (s : ℕ) → ((x : ℕ) → x < i → at walk x / 2 ≢ s) → (at owners_now s ≡ at owners s) × (at places_now s ≡ at places s)

pub noted-none : (e : ℕ) (walk owners places : List ℕ) → IsNotedTo e walk 0 owners places owners places
noted-none e walk owners places = record {
  owners_fit = refl;
  places_fit = refl;
  here = λ x x_in. absurd (omega (arith, x_in));
  others = λ s out. (refl, refl);
}

module _ (e : ℕ) (walk : List ℕ) (i : ℕ) (owners places owners_now places_now : List ℕ) (old : IsNotedTo e walk i owners places owners_now places_now) where
  pub noted-more : (s : ℕ) → s ≡ at walk i / 2 → i < length walk → s < length owners → length places ≡ length owners →
      ((x y : ℕ) → x < length walk → y < length walk → at walk x / 2 ≡ at walk y / 2 → x ≡ y) →
      IsNotedTo e walk (i + 1) owners places (set owners_now s e) (set places_now s i)
  noted-more s s_is i_in s_in even apart =
      let o_in : s < length owners_now = let fit = old.owners_fit in omega (arith, s_in, fit) in
      let p_in : s < length places_now = let fit = old.places_fit in omega (arith, s_in, fit, even) in
      record {
        owners_fit = length-set owners_now s e ∙ old.owners_fit;
        places_fit = length-set places_now s i ∙ old.places_fit;
        here = λ x x_in. elim (cases_eq x i) [
          | inl last ↦
              let same : at walk x / 2 ≡ s = ap (λ y. at walk y / 2) last ∙ sym s_is in (
                ap (at (set owners_now s e)) same ∙ get_or-set_same owners_now s e 0 o_in,
                ap (at (set places_now s i)) same ∙ get_or-set_same places_now s i 0 p_in ∙ sym last,
              )
          | inr other ↦
              let low : x < i = omega (arith, x_in, other) in
              let away : at walk x / 2 ≢ s = λ same. other (apart x i (omega (arith, low, i_in)) i_in (same ∙ s_is)) in
              let h = old.here x low in
              (get_or-set_other owners_now s (at walk x / 2) e 0 away ∙ h.0, get_or-set_other places_now s (at walk x / 2) i 0 away ∙ h.1)
        ];
        others = λ r out.
            let away : r ≢ s = λ same. out i (omega arith) (sym s_is ∙ sym same) in
            let h = old.others r (λ x low. out x (omega (arith, low))) in
            (get_or-set_other owners_now s r e 0 away ∙ h.0, get_or-set_other places_now s r i 0 away ∙ h.1);
      }

  pub noted-all : i ≡ length walk → IsNoted e walk owners places owners_now places_now
  noted-all whole = record {
    owners_fit = old.owners_fit;
    places_fit = old.places_fit;
    here = λ x x_in. old.here x (omega (arith, x_in, whole));
    others = λ s out. old.others s (λ x low. out x (omega (arith, low, whole)));
  }

-- what is noted stays noted where the new walk has other segments
pub notes_stay : (e f : ℕ) (walk old owners places owners_now places_now : List ℕ) → IsNoted e walk owners places owners_now places_now →
    ((i j : ℕ) → i < length walk → j < length old → at walk i / 2 ≢ at old j / 2) → HoldNotes owners places f old → HoldNotes owners_now places_now f old
notes_stay e f walk old owners places owners_now places_now noted apart held j j_in =
    let same = noted.others (at old j / 2) (λ i i_in. apart i j i_in j_in) in
    let h = held j j_in in
    (same.0 ∙ h.0, same.1 ∙ h.1)

-- ---- one walk is changed

module _ (g : Graph) (old : ListedTangle) (tangle : IsTangle g old) (e : ℕ) (walk : List ℕ) (new : ListedTangle) (put : IsWalkPut e walk old new) (e_in : e < length old.walks) where
  pub walk_put : walk_in new ≡ with_walk (walk_in old) e walk
  walk_put = ap walk_of put.walks ∙ walks-put old.walks e walk e_in

  pub lists_put : length new.walks ≡ length old.walks
  lists_put = ap length put.walks ∙ length-set old.walks e walk

-- ---- after a step

-- a tangle over the same map, whose walks are those of the step
pub tangle_now : (g : Graph) (old new : ListedTangle) → IsTangle g old → new.map ≡ old.map → new.edges ≡ old.edges → length new.walks ≡ length old.walks →
    length new.four ≡ length old.four → length new.owners ≡ length old.owners → length new.places ≡ length old.places →
    IsLoosened g old.edges old.map.web (at old.map.next) (named new) (walk_in new) → WalksOnly old.edges (walk_in new) →
    ((h : ℕ) → HoldNotes new.owners new.places h (walk_in new h)) → IsTangle g new
tangle_now g old new tangle same_map same_edges lists marks owners places loosened only notes =
    let W : ℕ → Type 0 = λ k. length new.owners ≡ k in
    record {
      is_graph = tangle.is_graph;
      is_map = subst IsListedMap (sym same_map) tangle.is_map;
      nodes_in = subst (λ m. g.nodes ≤ m.web.nodes) (sym same_map) tangle.nodes_in;
      lists = lists ∙ tangle.lists;
      marks = marks ∙ tangle.marks ∙ ap (λ m. m.web.nodes) (sym same_map);
      owners_fit = owners ∙ tangle.owners_fit ∙ ap (λ m. length m.web.ends) (sym same_map);
      places_fit = places ∙ tangle.places_fit ∙ ap (λ m. length m.web.ends) (sym same_map);
      loosened = subst (λ m. IsLoosened g new.edges m.web (at m.next) (named new) (walk_in new)) (sym same_map)
          (subst (λ edges. IsLoosened g edges old.map.web (at old.map.next) (named new) (walk_in new)) (sym same_edges) loosened);
      only = subst (λ edges. WalksOnly edges (walk_in new)) (sym same_edges) only;
      notes = notes;
    }

-- one node less is named
pub one_less : (n : ℕ) (four : ℕ → Bool) (v : ℕ) → v < n → four v ≡ true → suc (count_below n (all_but four v)) ≡ count_below n four
one_less n four v v_in holds = let few = count-differs n four (all_but four v) v v_in holds here far in omega (arith, few)
  where
    never : (b : Bool) → (b && false) ≡ false
    never true = refl
    never false = refl

    always : (b : Bool) → (b && true) ≡ b
    always true = refl
    always false = refl

    here : all_but four v v ≡ false
    here = ap (λ b. four v && not b) (eq-eqb v v refl) ∙ never (four v)

    far : (w : ℕ) → w < n → w ≢ v → four w ≡ all_but four v w
    far w w_in other = sym (ap (λ b. four w && not b) (ne_eqb w v other) ∙ always (four w))

pub still_named : (four : ℕ → Bool) (v w : ℕ) → all_but four v w ≡ true → four w ≡ true
still_named four v w h = (and_parts (four w) (not (eqb w v)) h).0

-- ---- the walks of one edge or two are changed

-- the others are as before
pub put_others : (walks : ℕ → List ℕ) (e f : ℕ) (one two : List ℕ) (h : ℕ) → h ≢ e → h ≢ f → with_walk (with_walk walks e one) f two h ≡ walks h
put_others walks e f one two h not_e not_f = cond-false _ _ _ (ne_eqb h f not_f) ∙ cond-false _ _ _ (ne_eqb h e not_e)

-- a walk of an edge that is in is put
pub only_put : (edges : List ℕ) (walks : ℕ → List ℕ) (e : ℕ) (walk : List ℕ) → has edges e ≡ true → WalksOnly edges walks → WalksOnly edges (with_walk walks e walk)
only_put edges walks e walk e_in only h out = elim (cases_eq h e) [
  | inl here ↦ absurd (both_ways _ out (ap (has edges) here ∙ e_in))
  | inr other ↦ cond-false _ _ _ (ne_eqb h e other) ∙ only h out
]

-- each walk is noted once one is put
pub notes_put : (e : ℕ) (walk : List ℕ) (old new : ListedTangle) → IsWalkPut e walk old new → e < length old.walks →
    ((h i j : ℕ) → h ≢ e → i < length walk → j < length (walk_in old h) → at walk i / 2 ≢ at (walk_in old h) j / 2) →
    ((h : ℕ) → h ≢ e → HoldNotes old.owners old.places h (walk_in old h)) → (h : ℕ) → HoldNotes new.owners new.places h (walk_in new h)
notes_put e walk old new put e_in apart held h =
    let H : List ℕ → Type 0 = HoldNotes new.owners new.places h in
    let walks = ap walk_of put.walks ∙ walks-put old.walks e walk e_in in
    elim (cases_eq h e) [
      | inl here ↦
          let is : walk_in new h ≡ walk = ap (λ w. w h) walks ∙ cond-true _ _ _ (eq-eqb h e here) in
          subst H (sym is) (subst (λ k. HoldNotes new.owners new.places k walk) (sym here) put.noted.here)
      | inr other ↦
          let is : walk_in new h ≡ walk_in old h = ap (λ w. w h) walks ∙ cond-false _ _ _ (ne_eqb h e other) in
          subst H (sym is) (notes_stay e h walk (walk_in old h) old.owners old.places new.owners new.places put.noted (λ i j i_in j_in. apart h i j other i_in j_in) (held h other))
    ]
