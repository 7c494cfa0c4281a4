-- An edge is taken out of a tangle: the others are a tangle as before.
use Rattle.std.proofs.Common.{◌≡◌, ◌≢◌, ℕ, ◌+◌, ◌<◌, ◌≤◌, inl, inr, Bool, true, false, not, ◌&&◌, eqb, List, [], ◌∷◌, ◌++◌, length, take, get_or, sym, ◌∙◌, ap, subst, arith}
use Rattle.std.specs.Prelude.{filter}
use Rattle.std.proofs.lemmas.Bool.{and_parts, both_ways, cases_Bool, cases_eq, cond-false, cond-true, eq-eqb, ne_eqb}
use Rattle.std.proofs.lemmas.List.{append-nil, get_or-set_other, get_or-set_same, length-set, take_more}
use Rattle.std.proofs.lemmas.List.Elements.{All-filter, filter-append}
use Rattle.std.proofs.lemmas.List.Kept.{IsStrictlyIncreasing-filter}
use Rattle.xn_model.specs.Graph.{Graph, ends_at}
use Rattle.xn_model.specs.Lists.{has, total}
use Rattle.xn_model.specs.Loose.{WalksOnly, times_walked}
use Rattle.xn_model.specs.Map.{WalksTo}
use Rattle.xn_model.proofs.Has.{has-filter}
use Rattle.xn_track.specs.Track.{GoesOn, IsTrack, straight_on}
use Rattle.xn_track.proofs.Tally.{times-flat_map}
use Rattle.xn_simple.specs.LaidAgain.{all_but_edge, taken_out}
use Rattle.xn_simple.specs.Tangle.{HoldNotes, IsTangle, ListedTangle, named, walk_in}

-- the sum over those that pass a test is no more
total_fewer : (f h : ℕ → ℕ) (p : ℕ → Bool) (xs : List ℕ) → ((x : ℕ) → p x ≡ true → f x ≡ h x) → total f (filter p xs) ≤ total h xs
total_fewer f h p [] same = omega arith
total_fewer f h p (x ∷ xs) same =
    let rest = total_fewer f h p xs same in
    elim (cases_Bool (p x)) [
      | inl passes ↦
          let sum = ap (total f) (cond-true (p x) (x ∷ filter p xs) (filter p xs) passes) in
          let here = same x passes in
          omega (arith, sum, here, rest)
      | inr fails ↦
          let sum = ap (total f) (cond-false (p x) (x ∷ filter p xs) (filter p xs) fails) in
          omega (arith, sum, rest)
    ]

-- ---- the edges but one

abbrev differs : ℕ → ℕ → Bool
differs e x = not (eqb x e)

-- an edge that is left was in, and is another
left_in : (e x : ℕ) (edges : List ℕ) → has (all_but_edge e edges) x ≡ true → (has edges x ≡ true) × (x ≢ e)
left_in e x edges there =
    let parts = and_parts (differs e x) (has edges x) (sym (has-filter (differs e) edges x) ∙ there) in
    (parts.1, λ same. both_ways (differs e x) (ap not (eq-eqb x e same)) parts.0)

out_before : (e x : ℕ) (edges : List ℕ) → x ≢ e → has (all_but_edge e edges) x ≡ false → has edges x ≡ false
out_before e x edges apart out = sym (has-filter (differs e) edges x ∙ ap (λ b. not b && has edges x) (ne_eqb x e apart)) ∙ out

-- one element more
pub but_more : (e x : ℕ) (rest xs : List ℕ) (i : ℕ) → i < length xs → x ≡ get_or xs i 0 → x ≢ e → rest ≡ all_but_edge e (take i xs) → rest ++ x ∷ [] ≡ all_but_edge e (take (i + 1) xs)
but_more e x rest xs i low is apart before =
    ap (λ l. l ++ x ∷ []) before
    ∙ sym (ap (all_but_edge e) (take_more xs i 0 low ∙ ap (λ y. take i xs ++ y ∷ []) (sym is)) ∙ filter-append (differs e) (take i xs) (x ∷ [])
    ∙ ap (λ l. all_but_edge e (take i xs) ++ l) (cond-true (differs e x) (x ∷ []) [] (ap not (ne_eqb x e apart))))

pub but_same : (e x : ℕ) (rest xs : List ℕ) (i : ℕ) → i < length xs → x ≡ get_or xs i 0 → x ≡ e → rest ≡ all_but_edge e (take i xs) → rest ≡ all_but_edge e (take (i + 1) xs)
but_same e x rest xs i low is same before =
    before
    ∙ sym (ap (all_but_edge e) (take_more xs i 0 low ∙ ap (λ y. take i xs ++ y ∷ []) (sym is)) ∙ filter-append (differs e) (take i xs) (x ∷ [])
    ∙ ap (λ l. all_but_edge e (take i xs) ++ l) (cond-false (differs e x) (x ∷ []) [] (ap not (eq-eqb x e same))) ∙ append-nil (all_but_edge e (take i xs)))

-- ---- the tangle

module _ (g : Graph) (t : ListedTangle) (e : ℕ) (tangle : IsTangle g t) (e_in : e < length t.walks) where
  abbrev rest : ListedTangle
  rest = taken_out t e

  own : walk_in rest e ≡ []
  own = get_or-set_same t.walks e [] [] e_in

  other : (x : ℕ) → x ≢ e → walk_in rest x ≡ walk_in t x
  other x apart = get_or-set_other t.walks e x [] [] apart

  track : IsTrack g rest.edges tangle.loosened.more tangle.loosened.after (named t) (walk_in rest)
  track =
      let was = tangle.loosened.track in
      let more = tangle.loosened.more in
      record {
        edge_list = record {
          rise = IsStrictlyIncreasing-filter (differs e) t.edges was.edge_list.rise;
          below = All-filter (differs e) (λ x. x < length g.ends) t.edges was.edge_list.below;
        };
        ground = was.ground;
        lead = λ x there.
            let p = left_in e x t.edges there in
            subst (λ ds. WalksTo more.ends (ends_at g.ends x).0 ds (ends_at g.ends x).1) (sym (other x p.1)) (was.lead x p.0);
        straight = λ x there.
            let p = left_in e x t.edges there in
            subst (λ ds. GoesOn g.nodes more.ends (straight_on more.ends (named t) tangle.loosened.after) ds) (sym (other x p.1)) (was.straight x p.0);
        once = λ s.
            let now = times-flat_map s (walk_in rest) rest.edges in
            let before = times-flat_map s (walk_in t) t.edges in
            let fewer = total_fewer (λ x. times_walked s (walk_in rest x)) (λ x. times_walked s (walk_in t x)) (differs e) t.edges (λ x passes.
            ap (times_walked s) (other x (λ same. both_ways (differs e x) (ap not (eq-eqb x e same)) passes))) in
            let most = was.once s in
            omega (arith, now, before, fewer, most);
      }

  only : WalksOnly rest.edges (walk_in rest)
  only x out = elim (cases_eq x e) [
    | inl same ↦ ap (walk_in rest) same ∙ own
    | inr apart ↦ other x apart ∙ tangle.only x (out_before e x t.edges apart out)
  ]

  notes : (x : ℕ) → HoldNotes rest.owners rest.places x (walk_in rest x)
  notes x = elim (cases_eq x e) [
    | inl same ↦ subst (HoldNotes t.owners t.places x) (sym (ap (walk_in rest) same ∙ own)) (λ i low. absurd (omega (arith, low)))
    | inr apart ↦ subst (HoldNotes t.owners t.places x) (sym (other x apart)) (tangle.notes x)
  ]

  pub tangle_left : IsTangle g rest
  tangle_left = record {
    is_graph = tangle.is_graph;
    is_map = tangle.is_map;
    nodes_in = tangle.nodes_in;
    lists = length-set t.walks e [] ∙ tangle.lists;
    marks = tangle.marks;
    owners_fit = tangle.owners_fit;
    places_fit = tangle.places_fit;
    loosened = record { more = tangle.loosened.more; after = tangle.loosened.after; comes = tangle.loosened.comes; track = track };
    only = only;
    notes = notes;
  }
