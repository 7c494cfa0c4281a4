-- A step as it is taken in memory: nodes are unmarked first, and then the walks are put.
use Rattle.std.proofs.Common.{◌≡◌, ◌≢◌, ℕ, suc, ◌+◌, ◌-◌, ◌*◌, ◌/◌, ◌<◌, ◌≤◌, Bool, true, false, not, List, [], ◌∷◌, ◌++◌, length, get_or, take, drop, refl, sym, ◌∙◌, ap, ap₂, subst, arith, length-append}
use Rattle.std.proofs.lemmas.Bool.{and_from, ne_eqb}
use Rattle.std.proofs.lemmas.List.{drop_all, drop_more, get_or_read, length-drop, length-set, length-take-le, take_rest}
use Rattle.xn_model.specs.Graph.{Graph}
use Rattle.xn_model.specs.Lists.{at, has}
use Rattle.xn_model.specs.Map.{reverse_of}
use Rattle.xn_model.proofs.Darts.{reverse_below}
use Rattle.xn_track.specs.Steps.{crossing_over, node_after, reverse_walk, turned_walk, with_walk}
use Rattle.xn_track.proofs.Paths.{at-reverse_walk, length-reverse_walk}
use Rattle.xn_simple.specs.Loosened.{IsLoosened, all_but}
use Rattle.xn_simple.specs.Tangle.{IsTangle, IsWalkPut, ListedTangle, MeetAt, named, node_in, unmarked, walk_in}
use Rattle.xn_simple.specs.Untangling.{AreExchanged, IsStep, Leaves, MeetTwice, place_turned}
use Rattle.xn_simple.specs.declared.finding.Step.TheVariants.{Beginnings}
use Rattle.xn_simple.specs.declared.tangle.Pass.{Pass}
use Rattle.xn_simple.proofs.Taken.{Unmarks, leaves_one, leaves_two, list_in, mark_in, named_unset, one_apart, one_low, own_apart, own_low, two_apart, two_low, unmarks, unmarks_again}
use Rattle.xn_simple.proofs.Tangled.{dart_in, edge_in}
use Rattle.xn_simple.proofs.Turned.{beginnings_law, closed_law, middles_law, pass_turned, turned_order}

-- ---- lists

pub crossing_parts : (one two : List ℕ) (i j : ℕ) → take (i + 1) one ++ take (length two - (j + 1)) (drop (j + 1) two) ≡ crossing_over one i two j
crossing_parts one two i j =
    let e : i + 1 ≡ suc i = omega arith in
    let f : j + 1 ≡ suc j = omega arith in
    ap₂ (λ xs ys. xs ++ ys) (ap (λ k. take k one) e) (take_rest two (j + 1) ∙ ap (λ k. drop k two) f)

pub length-crossing : (one two : List ℕ) (i j : ℕ) → i < length one → length (crossing_over one i two j) ≡ suc i + (length two - suc j)
length-crossing one two i j i_in =
    let sum = length-append (take (suc i) one) (drop (suc j) two) in
    let left = length-take-le (suc i) one (omega (arith, i_in)) in
    let right = length-drop (suc j) two in
    omega (arith, sum, left, right)

pub reversed_none : (walk : List ℕ) → [] ≡ reverse_walk (drop (length walk - 0) walk)
reversed_none walk = ap reverse_walk (sym (drop_all (length walk - 0) walk (omega arith)))

pub reversed_more : (darts walk : List ℕ) (i : ℕ) → i < length walk → darts ≡ reverse_walk (drop (length walk - i) walk) →
    darts ++ reverse_of (at walk (length walk - 1 - i)) ∷ [] ≡ reverse_walk (drop (length walk - (i + 1)) walk)
reversed_more darts walk i i_in before =
    let k = length walk - 1 - i in
    let next : length walk - i ≡ k + 1 = omega (arith, i_in) in
    let here : k ≡ length walk - (i + 1) = omega (arith, i_in) in
    ap (λ xs. xs ++ reverse_of (at walk k) ∷ []) (before ∙ ap (λ n. reverse_walk (drop n walk)) next)
    ∙ ap reverse_walk (sym (drop_more walk k 0 (omega (arith, i_in))))
    ∙ ap (λ n. reverse_walk (drop n walk)) here

pub reversed_all : (darts walk : List ℕ) (i : ℕ) → length walk ≤ i → darts ≡ reverse_walk (drop (length walk - i) walk) → darts ≡ reverse_walk walk
reversed_all darts walk i whole before = let none : length walk - i ≡ 0 = omega (arith, whole) in before ∙ ap (λ n. reverse_walk (drop n walk)) none

pub crossing_same : (one xs two ys : List ℕ) (i k j l : ℕ) → one ≡ xs → i ≡ k → two ≡ ys → j ≡ l → crossing_over one i two j ≡ crossing_over xs k ys l
crossing_same one xs two ys i k j l one_is i_is two_is j_is =
    ap₂ (λ us ws. us ++ ws) (ap₂ (λ n us. take (suc n) us) i_is one_is) (ap₂ (λ n ws. drop (suc n) ws) j_is two_is)

-- a dart that is read from a list that is known
pub read_at : (xs ds : List ℕ) (k i x : ℕ) → xs ≡ ds → k ≡ i → suc i < length ds → x ≡ get_or xs (k + 1) x → x ≡ at ds (suc i)
read_at xs ds k i x is k_is i_in read =
    let size = ap length is in
    let next : k + 1 ≡ suc i = omega (arith, k_is) in
    get_or_read xs (k + 1) x (omega (arith, i_in, size, k_is)) read 0 ∙ ap (λ l. at l (k + 1)) is ∙ ap (at ds) next

-- the places at which two walks change over again are in them
pub places_in : (one two : List ℕ) (i k j l : ℕ) → i < k → k < length one → j < l → l < length two →
    (i + (l - j) < length (crossing_over one i two j)) × (j + (k - i) < length (crossing_over two j one i))
places_in one two i k j l low k_in order l_in =
    let first = length-crossing one two i j (omega (arith, k_in, low)) in
    let second = length-crossing two one j i (omega (arith, order, l_in)) in
    (omega (arith, first, order, l_in), omega (arith, second, low, k_in))

-- the same of walks that are equal
pub exchanged_as : (one xs two ys : List ℕ) (i k j jj l ll : ℕ) (walk back : List ℕ) → one ≡ xs → two ≡ ys → j ≡ jj → l ≡ ll → AreExchanged one i k two j l walk back → AreExchanged xs i k ys jj ll walk back
exchanged_as one xs two ys i k j jj l ll walk back one_is two_is j_is l_is are =
    subst (λ us. AreExchanged us i k ys jj ll walk back) one_is
    (subst (λ ws. AreExchanged one i k ws jj ll walk back) two_is
    (subst (λ n. AreExchanged one i k two n ll walk back) j_is (subst (λ n. AreExchanged one i k two j n walk back) l_is are)))

-- what putting a walk asks for
pub record MayPut (e : ℕ) (walk : List ℕ) (t : ListedTangle) : Type 0 where
  pub edge : e < length t.walks
  pub owners : (i : ℕ) → i < length walk → at walk i < 2 * length t.owners
  pub places : length t.places ≡ length t.owners
  pub apart : (i j : ℕ) → i < length walk → j < length walk → at walk i / 2 ≡ at walk j / 2 → i ≡ j

-- two walks may be put, one after the other, and then the step is taken
pub record MayPutTwo (g : Graph) (old : ListedTangle) (e f : ℕ) (one two : List ℕ) (mid : ListedTangle) : Type 0 where
  pub first : MayPut e one mid
  pub second : (half : ListedTangle) → IsWalkPut e one mid half → MayPut f two half
  pub leaves : (half new : ListedTangle) → IsWalkPut e one mid half → IsWalkPut f two half new → Leaves g old new e f

pub may_two_are : (g : Graph) (old : ListedTangle) (e f : ℕ) (one two one_now two_now : List ℕ) (mid : ListedTangle) → one_now ≡ one → two_now ≡ two →
    MayPutTwo g old e f one two mid → MayPutTwo g old e f one_now two_now mid
may_two_are g old e f one two one_now two_now mid one_is two_is may =
    subst (λ w. MayPutTwo g old e f w two_now mid) (sym one_is) (subst (λ w. MayPutTwo g old e f one w mid) (sym two_is) may)

-- what unmarking leaves
pub record Unmarked (old : ListedTangle) (four : ℕ → Bool) (mid : ListedTangle) : Type 0 where
  pub less : Unmarks old mid
  pub names : named mid ≡ four

module _ (g : Graph) (old : ListedTangle) (tangle : IsTangle g old) where
  -- darts that are read
  pub dart_at : (e i : ℕ) → suc i < length (walk_in old e) → (xs : List ℕ) → xs ≡ walk_in old e → (x : ℕ) → x ≡ get_or xs (i + 1) x → x ≡ at (walk_in old e) (suc i)
  dart_at e i i_in xs is x read = read_at xs (walk_in old e) i i x is refl i_in read

  pub dart_low : (e i : ℕ) → i < length (walk_in old e) → at (walk_in old e) i < length old.map.next
  dart_low e i i_in = let low = dart_in g old tangle e i i_in in let fits = tangle.is_map.fits in omega (arith, low, fits)

  pub turned_low : (turn : Bool) (e k : ℕ) → k < length (turned_walk turn (walk_in old e)) → at (turned_walk turn (walk_in old e)) k < length old.map.next
  turned_low false e k k_in = dart_low e k k_in
  turned_low true e k k_in =
      let ds = walk_in old e in
      let long = length-reverse_walk ds in
      let m = length ds - 1 - k in
      let low = reverse_below (length old.map.web.ends) (at ds m) (dart_in g old tangle e m (omega (arith, k_in, long))) in
      let is = at-reverse_walk ds k m (omega (arith, k_in, long)) in
      let fits = tangle.is_map.fits in
      omega (arith, low, is, fits)

  pub unmarked_one : (v : ℕ) → named old v ≡ true → (mid : ListedTangle) → mid ≡ unmarked old v → Unmarked old (all_but (named old) v) mid
  unmarked_one v holds mid is =
      let v_in = mark_in g old tangle v holds in
      record { less = subst (Unmarks old) (sym is) (unmarks old v tangle.marks v_in holds); names = ap named is ∙ named_unset old v v_in }

  -- the second node still has a mark once the first is unmarked
  pub second_in : (u v : ℕ) → named old v ≡ true → (mid : ListedTangle) → mid ≡ unmarked old u → v < length mid.four
  second_in u v holds mid is =
      let v_in = mark_in g old tangle v holds in
      let size = ap (λ t. length t.four) is ∙ length-set old.four u false in
      omega (arith, v_in, size)

  pub unmarked_two : (u v : ℕ) → named old u ≡ true → named old v ≡ true → u ≢ v → (mid last : ListedTangle) → mid ≡ unmarked old u → last ≡ unmarked mid v →
      Unmarked old (all_but (all_but (named old) u) v) last
  unmarked_two u v holds_u holds_v apart mid last is then_is =
      let one = unmarked_one u holds_u mid is in
      let v_in = second_in u v holds_v mid is in
      let nodes : length mid.four ≡ mid.map.web.nodes = one.less.marks ∙ tangle.marks ∙ ap (λ m. m.web.nodes) (sym one.less.same_map) in
      let still : named mid v ≡ true = ap (λ four. four v) one.names ∙ and_from _ _ holds_v (ap not (ne_eqb v u (λ same. apart (sym same)))) in
      record {
        less = unmarks_again old mid last one.less (subst (Unmarks mid) (sym then_is) (unmarks mid v nodes v_in still));
        names = ap named then_is ∙ named_unset mid v v_in ∙ ap (λ four. all_but four v) one.names;
      }

  -- ---- one walk

  module _ (e i j : ℕ) (step : (i < j) × MeetAt old e i e j) (mid : ListedTangle) (is : mid ≡ unmarked old (node_in old e i)) where
    abbrev shorter : List ℕ
    shorter = crossing_over (walk_in old e) i (walk_in old e) j

    e_in : has old.edges e ≡ true
    e_in = edge_in g old tangle e (suc i) step.1.one_in

    cut : Unmarked old (all_but (named old) (node_in old e i)) mid
    cut = unmarked_one (node_in old e i) step.1.holds mid is

    law : IsLoosened g old.edges old.map.web (at old.map.next) (named mid) (with_walk (walk_in old) e shorter)
    law =
        subst (λ four. IsLoosened g old.edges old.map.web (at old.map.next) four (with_walk (walk_in old) e shorter)) (sym cut.names)
        (closed_law g old tangle e i j step.0 step.1)

    pub cut_may : MayPut e shorter mid
    cut_may =
        let less = cut.less in
        record {
          edge = let low = list_in g old tangle e e_in in let same = ap length less.same_walks in omega (arith, low, same);
          owners = λ k k_in. let low = own_low g old tangle e shorter e_in mid less law k k_in in let same = ap length less.same_owners in omega (arith, low, same);
          places = ap length less.same_places ∙ tangle.places_fit ∙ sym tangle.owners_fit ∙ sym (ap length less.same_owners);
          apart = own_apart g old tangle e shorter e_in mid less law;
        }

    pub cut_leaves : (new : ListedTangle) → IsWalkPut e shorter mid new → Leaves g old new e e
    cut_leaves new put = leaves_one g old tangle e shorter e_in mid cut.less law new put

  -- ---- two walks

  may_put_two : (e f : ℕ) (one two : List ℕ) → has old.edges e ≡ true → has old.edges f ≡ true → e ≢ f → (mid : ListedTangle) → Unmarks old mid →
      IsLoosened g old.edges old.map.web (at old.map.next) (named mid) (with_walk (with_walk (walk_in old) e one) f two) → MayPutTwo g old e f one two mid
  may_put_two e f one two e_in f_in differ mid less law = record {
    first = record {
      edge = let low = list_in g old tangle e e_in in let same = ap length less.same_walks in omega (arith, low, same);
      owners = λ k k_in. let low = one_low g old tangle e f one two e_in f_in differ mid less law k k_in in let same = ap length less.same_owners in omega (arith, low, same);
      places = ap length less.same_places ∙ tangle.places_fit ∙ sym tangle.owners_fit ∙ sym (ap length less.same_owners);
      apart = one_apart g old tangle e f one two e_in f_in differ mid less law;
    };
    second = λ half put.
        let owners = put.noted.owners_fit ∙ ap length less.same_owners in
        record {
          edge =
              let low = list_in g old tangle f f_in in
              let same = ap length put.walks ∙ length-set mid.walks e one ∙ ap length less.same_walks in
              omega (arith, low, same);
          owners = λ k k_in. let low = two_low g old tangle e f one two e_in f_in differ mid less law k k_in in omega (arith, low, owners);
          places = put.noted.places_fit ∙ ap length less.same_places ∙ tangle.places_fit ∙ sym tangle.owners_fit ∙ sym owners;
          apart = two_apart g old tangle e f one two e_in f_in differ mid less law;
        };
    leaves = λ half new put put_two. leaves_two g old tangle e f one two e_in f_in differ mid less law half new put put_two;
  }

  -- beginnings
  module _ (e i : ℕ) (p : Pass) (s u : Bool) (step : IsStep g old e (Beginnings i p s u)) where
    abbrev first : List ℕ
    first = turned_walk s (walk_in old e)

    abbrev second : List ℕ
    second = turned_walk u (walk_in old p.edge)

    abbrev first_place : ℕ
    first_place = place_turned s (length (walk_in old e)) i

    abbrev second_place : ℕ
    second_place = place_turned u (length (walk_in old p.edge)) p.place

    pub begins_first : (suc first_place < length first) × (node_after old.map.web.ends first first_place ≡ node_in old e i)
    begins_first = let q = pass_turned g old tangle s e i (node_in old e i) step.1.one_in step.1.holds refl in (q.in_it, q.node)

    pub begins_second : suc second_place < length second
    begins_second = (pass_turned g old tangle u p.edge p.place (node_in old e i) step.1.two_in step.1.holds (sym step.1.one_node)).in_it

    pub begins_two : (mid : ListedTangle) → mid ≡ unmarked old (node_in old e i) →
        MayPutTwo g old e p.edge (turned_walk s (crossing_over second second_place first first_place)) (turned_walk u (crossing_over first first_place second second_place)) mid
    begins_two mid is =
        let one : List ℕ = turned_walk s (crossing_over second second_place first first_place) in
        let two : List ℕ = turned_walk u (crossing_over first first_place second second_place) in
        let c = unmarked_one (node_in old e i) step.1.holds mid is in
        may_put_two e p.edge one two (edge_in g old tangle e (suc i) step.1.one_in) (edge_in g old tangle p.edge (suc p.place) step.1.two_in) step.0 mid c.less
        (subst (λ four. IsLoosened g old.edges old.map.web (at old.map.next) four (with_walk (with_walk (walk_in old) e one) p.edge two)) (sym c.names)
        (beginnings_law g old tangle e i p.edge p.place s u step.0 step.1 step.2))

  -- middles
  module _ (e i k f j l : ℕ) (turn : Bool) (twice : MeetTwice old e i k f j l) (back : turn ≡ true → l < j) (forth : turn ≡ false → j ≤ l) where
    abbrev walk_one : List ℕ
    walk_one = walk_in old e

    abbrev walk_two : List ℕ
    walk_two = turned_walk turn (walk_in old f)

    abbrev j_now : ℕ
    j_now = place_turned turn (length (walk_in old f)) j

    abbrev l_now : ℕ
    l_now = place_turned turn (length (walk_in old f)) l

    abbrev over_one : List ℕ
    over_one = crossing_over walk_one i walk_two j_now

    abbrev over_two : List ℕ
    over_two = crossing_over walk_two j_now walk_one i

    -- the places of the two passes differ
    forward : turn ≡ false → j < l
    forward is =
        let low = forth is in
        let apart : j ≢ l = λ same. twice.apart (twice.first.one_node ∙ ap (node_in old f) same ∙ sym twice.second.one_node) in
        omega (arith, low, apart)

    pub middles_order : (j_now < l_now) × (suc l_now < length walk_two)
    middles_order = (
      turned_order g old tangle turn (length (walk_in old f)) j l twice.first.two_in twice.second.two_in back forward,
      (pass_turned g old tangle turn f l (node_in old e k) twice.second.two_in twice.second.holds (sym twice.second.one_node)).in_it,
    )

    pub middles_two : (half mid : ListedTangle) → half ≡ unmarked old (node_in old e i) → mid ≡ unmarked half (node_in old e k) →
        MayPutTwo g old e f (crossing_over over_one (i + (l_now - j_now)) over_two (j_now + (k - i)))
        (turned_walk turn (crossing_over over_two (j_now + (k - i)) over_one (i + (l_now - j_now)))) mid
    middles_two half mid is then_is =
        let one : List ℕ = crossing_over over_one (i + (l_now - j_now)) over_two (j_now + (k - i)) in
        let two : List ℕ = turned_walk turn (crossing_over over_two (j_now + (k - i)) over_one (i + (l_now - j_now))) in
        let c = unmarked_two (node_in old e i) (node_in old e k) twice.first.holds twice.second.holds twice.apart half mid is then_is in
        may_put_two e f one two (edge_in g old tangle e (suc i) twice.first.one_in) (edge_in g old tangle f (suc j) twice.first.two_in) twice.differ mid c.less
        (subst (λ four. IsLoosened g old.edges old.map.web (at old.map.next) four (with_walk (with_walk (walk_in old) e one) f two)) (sym c.names)
        (middles_law g old tangle e i k f j l turn twice back forward))
