-- A step is taken: nodes are unmarked, and the walks of one edge or two are put.
use Rattle.std.proofs.Common.{◌≡◌, ◌≢◌, ℕ, ◌*◌, ◌/◌, ◌<◌, inl, inr, Bool, true, false, List, length, refl, sym, ◌∙◌, ap, subst, arith}
use Rattle.std.proofs.lemmas.Bool.{cases_eq, cond-true, cond-false, eq-eqb, ne_eqb}
use Rattle.std.proofs.lemmas.List.{length-set}
use Rattle.xn_model.specs.Graph.{Graph}
use Rattle.xn_model.specs.Lists.{at, has}
use Rattle.xn_model.specs.Loose.{WalksOnly}
use Rattle.xn_model.specs.Permutation.{count_below}
use Rattle.xn_map.specs.Marks.{is_marked}
use Rattle.xn_track.specs.Steps.{with_walk}
use Rattle.xn_track.proofs.Passes.{edge_in as edge_low, walk_in as dart_of_walk}
use Rattle.xn_insert.specs.ListedLoose.{walk_of}
use Rattle.xn_simple.specs.Loosened.{IsLoosened, all_but}
use Rattle.xn_simple.specs.Tangle.{HoldNotes, IsWalkPut, IsTangle, ListedTangle, named, unmarked, walk_in}
use Rattle.xn_simple.specs.Untangling.{Leaves, named_count}
use Rattle.xn_simple.proofs.Placed.{marks-unset, notes_put, one_less, only_put, put_others, still_named, tangle_now, walks-put}
use Rattle.xn_simple.proofs.Tangled.{once_apart}

-- ---- nodes are unmarked

-- the same but for the marks, of which there are fewer
pub record Unmarks (old mid : ListedTangle) : Type 0 where
  pub same_map : mid.map ≡ old.map
  pub same_edges : mid.edges ≡ old.edges
  pub same_walks : mid.walks ≡ old.walks
  pub same_owners : mid.owners ≡ old.owners
  pub same_places : mid.places ≡ old.places
  pub marks : length mid.four ≡ length old.four
  pub fewer : (v : ℕ) → named mid v ≡ true → named old v ≡ true
  pub count : named_count mid < named_count old

pub named_unset : (t : ListedTangle) (v : ℕ) → v < length t.four → named (unmarked t v) ≡ all_but (named t) v
named_unset t v v_in = marks-unset t.four v v_in

pub unmarks : (old : ListedTangle) (v : ℕ) → length old.four ≡ old.map.web.nodes → v < length old.four → named old v ≡ true → Unmarks old (unmarked old v)
unmarks old v fits v_in holds =
    let is = named_unset old v v_in in
    record {
      same_map = refl;
      same_edges = refl;
      same_walks = refl;
      same_owners = refl;
      same_places = refl;
      marks = length-set old.four v false;
      fewer = λ w h. still_named (named old) v w (ap (λ four. four w) (sym is) ∙ h);
      count =
          let less = one_less old.map.web.nodes (named old) v (omega (arith, v_in, fits)) holds in
          let same : count_below old.map.web.nodes (named (unmarked old v)) ≡ count_below old.map.web.nodes (all_but (named old) v) = ap (count_below old.map.web.nodes) is in
          omega (arith, less, same);
    }

pub unmarks_again : (old mid last : ListedTangle) → Unmarks old mid → Unmarks mid last → Unmarks old last
unmarks_again old mid last one two = record {
  same_map = two.same_map ∙ one.same_map;
  same_edges = two.same_edges ∙ one.same_edges;
  same_walks = two.same_walks ∙ one.same_walks;
  same_owners = two.same_owners ∙ one.same_owners;
  same_places = two.same_places ∙ one.same_places;
  marks = two.marks ∙ one.marks;
  fewer = λ v h. one.fewer v (two.fewer v h);
  count = let a = one.count in let b = two.count in omega (arith, a, b);
}

module _ (g : Graph) (old : ListedTangle) (tangle : IsTangle g old) where
  -- a named node has a mark
  pub mark_in : (v : ℕ) → named old v ≡ true → v < length old.four
  mark_in v holds = let low = tangle.loosened.comes.old v holds in let fits = tangle.marks in omega (arith, low, fits)

  pub list_in : (e : ℕ) → has old.edges e ≡ true → e < length old.walks
  list_in e e_in =
      let low = edge_low g old.edges tangle.loosened.more tangle.loosened.after (named old) (walk_in old) tangle.is_graph tangle.loosened.track e e_in in
      let fits = tangle.lists in
      omega (arith, low, fits)

  -- ---- what a walk of a track over the same web may be put with

  module _ (four : ℕ → Bool) (walks : ℕ → List ℕ) (law : IsLoosened g old.edges old.map.web (at old.map.next) four walks) (only : WalksOnly old.edges walks) where
    pub law_apart : (e f i j : ℕ) → i < length (walks e) → j < length (walks f) → at (walks e) i / 2 ≡ at (walks f) j / 2 → (e ≡ f) × (i ≡ j)
    law_apart = once_apart old.edges walks law.track.once only

    pub law_in : (e i : ℕ) → has old.edges e ≡ true → i < length (walks e) → at (walks e) i < 2 * length old.owners
    law_in e i e_in i_in =
        let low = dart_of_walk law.more.ends _ _ (walks e) (law.track.lead e e_in) i i_in in
        let size = law.comes.size in
        let fits = tangle.owners_fit in
        omega (arith, low, size, fits)

  -- ---- two walks are put

  module _ (e f : ℕ) (one two : List ℕ) (e_in : has old.edges e ≡ true) (f_in : has old.edges f ≡ true) (differ : e ≢ f)
      (mid : ListedTangle) (less : Unmarks old mid)
      (law : IsLoosened g old.edges old.map.web (at old.map.next) (named mid) (with_walk (with_walk (walk_in old) e one) f two)) where
    abbrev walks : ℕ → List ℕ
    walks = with_walk (with_walk (walk_in old) e one) f two

    only : WalksOnly old.edges walks
    only = only_put old.edges (with_walk (walk_in old) e one) f two f_in (only_put old.edges (walk_in old) e one e_in tangle.only)

    is_two : walks f ≡ two
    is_two = cond-true _ _ _ (eq-eqb f f refl)

    is_one : walks e ≡ one
    is_one = cond-false _ _ _ (ne_eqb e f differ) ∙ cond-true _ _ _ (eq-eqb e e refl)

    is_other : (h : ℕ) → h ≢ e → h ≢ f → walks h ≡ walk_in old h
    is_other h not_e not_f = put_others (walk_in old) e f one two h not_e not_f

    -- so far as lists
    apart_lists : (h k : ℕ) (xs ys : List ℕ) → walks h ≡ xs → walks k ≡ ys → (i j : ℕ) → i < length xs → j < length ys → at xs i / 2 ≡ at ys j / 2 → (h ≡ k) × (i ≡ j)
    apart_lists h k xs ys h_is k_is =
        let A : List ℕ → List ℕ → Type 0 = λ us ws. (i j : ℕ) → i < length us → j < length ws → at us i / 2 ≡ at ws j / 2 → (h ≡ k) × (i ≡ j) in
        subst (λ us. A us ys) h_is (subst (λ ws. A (walks h) ws) k_is (law_apart (named mid) walks law only h k))

    pub one_apart : (i j : ℕ) → i < length one → j < length one → at one i / 2 ≡ at one j / 2 → i ≡ j
    one_apart i j i_in j_in same = (apart_lists e e one one is_one is_one i j i_in j_in same).1

    pub two_apart : (i j : ℕ) → i < length two → j < length two → at two i / 2 ≡ at two j / 2 → i ≡ j
    two_apart i j i_in j_in same = (apart_lists f f two two is_two is_two i j i_in j_in same).1

    pub one_low : (i : ℕ) → i < length one → at one i < 2 * length old.owners
    one_low = subst (λ xs. (i : ℕ) → i < length xs → at xs i < 2 * length old.owners) is_one (λ i. law_in (named mid) walks law only e i e_in)

    pub two_low : (i : ℕ) → i < length two → at two i < 2 * length old.owners
    two_low = subst (λ xs. (i : ℕ) → i < length xs → at xs i < 2 * length old.owners) is_two (λ i. law_in (named mid) walks law only f i f_in)

    module _ (half new : ListedTangle) (put : IsWalkPut e one mid half) (put_two : IsWalkPut f two half new) where
      e_low : e < length mid.walks
      e_low = let low = list_in e e_in in let same = ap length less.same_walks in omega (arith, low, same)

      walks_half : walk_in half ≡ with_walk (walk_in old) e one
      walks_half = ap walk_of put.walks ∙ walks-put mid.walks e one e_low ∙ ap (λ ws. with_walk (walk_of ws) e one) less.same_walks

      f_low : f < length half.walks
      f_low =
          let low = list_in f f_in in
          let same = ap length less.same_walks in
          let here = ap length put.walks ∙ length-set mid.walks e one in
          omega (arith, low, same, here)

      walks_new : walk_in new ≡ walks
      walks_new = ap walk_of put_two.walks ∙ walks-put half.walks f two f_low ∙ ap (λ w. with_walk w f two) walks_half

      half_is : (h : ℕ) → h ≢ f → walk_in half h ≡ walks h
      half_is h not_f = ap (λ w. w h) walks_half ∙ sym (cond-false _ _ _ (ne_eqb h f not_f))

      held_half : (h : ℕ) → h ≢ f → HoldNotes half.owners half.places h (walk_in half h)
      held_half h not_f = elim (cases_eq h e) [
        | inl here ↦
            let H : List ℕ → Type 0 = HoldNotes half.owners half.places h in
            let is : walk_in half h ≡ one = half_is h not_f ∙ ap walks here ∙ is_one in
            subst H (sym is) (subst (λ k. HoldNotes half.owners half.places k one) (sym here) put.noted.here)
        | inr not_e ↦
            let is : walk_in half h ≡ walk_in old h = half_is h not_f ∙ is_other h not_e not_f in
            subst (HoldNotes half.owners half.places h) (sym is) (λ j j_in.
            let apart : (i : ℕ) → i < length one → at one i / 2 ≢ at (walk_in old h) j / 2 =
            λ i i_in same. not_e (sym (apart_lists e h one (walk_in old h) is_one (is_other h not_e not_f) i j i_in j_in same).0) in
            let same = put.noted.others (at (walk_in old h) j / 2) apart in
            let held = tangle.notes h j j_in in
            let owner = ap (λ l. at l (at (walk_in old h) j / 2)) less.same_owners in
            let place = ap (λ l. at l (at (walk_in old h) j / 2)) less.same_places in
            (same.0 ∙ owner ∙ held.0, same.1 ∙ place ∙ held.1))
      ]

      held_new : (h : ℕ) → HoldNotes new.owners new.places h (walk_in new h)
      held_new = notes_put f two half new put_two f_low
          (λ h i j not_f i_in j_in same. not_f (sym (apart_lists f h two (walk_in half h) is_two (sym (half_is h not_f)) i j i_in j_in same).0))
          held_half

      pub leaves_two : Leaves g old new e f
      leaves_two =
          let same_map = put_two.same_map ∙ put.same_map ∙ less.same_map in
          let same_edges = put_two.same_edges ∙ put.same_edges ∙ less.same_edges in
          let marks = put_two.same_marks ∙ put.same_marks in
          let names : named new ≡ named mid = ap is_marked marks in
          record {
            keeps = record { same_map = same_map; same_edges = same_edges };
            tangle = tangle_now g old new tangle same_map same_edges
                (ap length put_two.walks ∙ length-set half.walks f two ∙ ap length put.walks ∙ length-set mid.walks e one ∙ ap length less.same_walks)
                (ap length marks ∙ less.marks)
                (put_two.noted.owners_fit ∙ put.noted.owners_fit ∙ ap length less.same_owners)
                (put_two.noted.places_fit ∙ put.noted.places_fit ∙ ap length less.same_places)
                (subst (λ w. IsLoosened g old.edges old.map.web (at old.map.next) (named new) w) (sym walks_new)
                (subst (λ four. IsLoosened g old.edges old.map.web (at old.map.next) four walks) (sym names) law))
                (subst (WalksOnly old.edges) (sym walks_new) only)
                held_new;
            other_in = f_in;
            others = λ h not_e not_f. ap (λ w. w h) walks_new ∙ is_other h not_e not_f;
            fewer = λ v h. less.fewer v (ap (λ four. four v) (sym names) ∙ h);
            count =
                let low = less.count in
                let nodes = ap (λ m. m.web.nodes) (put_two.same_map ∙ put.same_map) in
                let same : named_count new ≡ named_count mid = ap (λ m. count_below m.web.nodes (named new)) (put_two.same_map ∙ put.same_map) ∙ ap (count_below mid.map.web.nodes) names in
                omega (arith, low, same);
          }

  -- ---- one walk is put

  module _ (e : ℕ) (one : List ℕ) (e_in : has old.edges e ≡ true) (mid : ListedTangle) (less : Unmarks old mid)
      (law : IsLoosened g old.edges old.map.web (at old.map.next) (named mid) (with_walk (walk_in old) e one)) where
    own_only : WalksOnly old.edges (with_walk (walk_in old) e one)
    own_only = only_put old.edges (walk_in old) e one e_in tangle.only

    own_is : with_walk (walk_in old) e one e ≡ one
    own_is = cond-true _ _ _ (eq-eqb e e refl)

    own_lists : (h : ℕ) (xs : List ℕ) → with_walk (walk_in old) e one h ≡ xs → (i j : ℕ) → i < length one → j < length xs → at one i / 2 ≡ at xs j / 2 → (e ≡ h) × (i ≡ j)
    own_lists h xs h_is =
        let A : List ℕ → List ℕ → Type 0 = λ us ws. (i j : ℕ) → i < length us → j < length ws → at us i / 2 ≡ at ws j / 2 → (e ≡ h) × (i ≡ j) in
        subst (λ us. A us xs) own_is (subst (λ ws. A (with_walk (walk_in old) e one e) ws) h_is (law_apart (named mid) (with_walk (walk_in old) e one) law own_only e h))

    pub own_apart : (i j : ℕ) → i < length one → j < length one → at one i / 2 ≡ at one j / 2 → i ≡ j
    own_apart i j i_in j_in same = (own_lists e one own_is i j i_in j_in same).1

    pub own_low : (i : ℕ) → i < length one → at one i < 2 * length old.owners
    own_low = subst (λ xs. (i : ℕ) → i < length xs → at xs i < 2 * length old.owners) own_is (λ i. law_in (named mid) (with_walk (walk_in old) e one) law own_only e i e_in)

    module _ (new : ListedTangle) (put : IsWalkPut e one mid new) where
      walks_now : walk_in new ≡ with_walk (walk_in old) e one
      walks_now =
          let low = list_in e e_in in
          let same = ap length less.same_walks in
          ap walk_of put.walks ∙ walks-put mid.walks e one (omega (arith, low, same)) ∙ ap (λ ws. with_walk (walk_of ws) e one) less.same_walks

      there : (h : ℕ) → h ≢ e → with_walk (walk_in old) e one h ≡ walk_in old h
      there h not_e = cond-false _ _ _ (ne_eqb h e not_e)

      pub leaves_one : Leaves g old new e e
      leaves_one =
          let same_map = put.same_map ∙ less.same_map in
          let same_edges = put.same_edges ∙ less.same_edges in
          let names : named new ≡ named mid = ap is_marked put.same_marks in
          let low = list_in e e_in in
          let same = ap length less.same_walks in
          let M : (h : ℕ) → walk_in mid h ≡ walk_in old h = λ h. ap (λ ws. walk_of ws h) less.same_walks in
          record {
            keeps = record { same_map = same_map; same_edges = same_edges };
            tangle = tangle_now g old new tangle same_map same_edges
                (ap length put.walks ∙ length-set mid.walks e one ∙ ap length less.same_walks)
                (ap length put.same_marks ∙ less.marks)
                (put.noted.owners_fit ∙ ap length less.same_owners)
                (put.noted.places_fit ∙ ap length less.same_places)
                (subst (λ w. IsLoosened g old.edges old.map.web (at old.map.next) (named new) w) (sym walks_now)
                (subst (λ four. IsLoosened g old.edges old.map.web (at old.map.next) four (with_walk (walk_in old) e one)) (sym names) law))
                (subst (WalksOnly old.edges) (sym walks_now) own_only)
                (notes_put e one mid new put (omega (arith, low, same))
                (λ h i j not_e i_in j_in equal. not_e (sym (own_lists h (walk_in mid h) (there h not_e ∙ sym (M h)) i j i_in j_in equal).0))
                (λ h not_e. subst (HoldNotes mid.owners mid.places h) (sym (M h))
                (subst (λ owners. HoldNotes owners mid.places h (walk_in old h)) (sym less.same_owners)
                (subst (λ places. HoldNotes old.owners places h (walk_in old h)) (sym less.same_places) (tangle.notes h)))));
            other_in = e_in;
            others = λ h not_e not_f. ap (λ w. w h) walks_now ∙ there h not_e;
            fewer = λ v h. less.fewer v (ap (λ four. four v) (sym names) ∙ h);
            count =
                let few = less.count in
                let same_count : named_count new ≡ named_count mid = ap (λ m. count_below m.web.nodes (named new)) put.same_map ∙ ap (count_below mid.map.web.nodes) names in
                omega (arith, few, same_count);
          }
