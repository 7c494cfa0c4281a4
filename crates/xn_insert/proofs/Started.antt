-- The walks of the kept edges as lists, and the loose drawing that they give.
use Rattle.std.proofs.Common.{◌≡◌, ◌≢◌, ℕ, zero, suc, ◌+◌, ◌*◌, ◌^◌, ◌<◌, ◌≤◌, inl, inr, Bool, true, false, ◌||◌, cond, eqb, List, [], ◌∷◌, ◌++◌, length, map, replicate, set, take, refl, sym, ◌∙◌, ap, subst, arith, length-append}
use Rattle.std.specs.List.{AllByRecursion, IsDistinct, flat_map, range_with_len}
use Rattle.std.specs.Prelude.{filter, nat_eq}
use Rattle.std.proofs.lemmas.Bool.{both_ways, cases_Bool, cases_eq, cond-true, cond-false, eq-eqb, eqb-true, ne_eqb, or_cases}
use Rattle.std.proofs.lemmas.List.{get_or-set_other, get_or-set_same, length-replicate, length-set, take_all, take_more}
use Rattle.xn_model.specs.Graph.{Graph, IsGraph, ends_at}
use Rattle.xn_model.specs.Lists.{at, has, total}
use Rattle.xn_model.specs.Loose.{GoesStraight, IsLoose, MeetsOnce, times_walked}
use Rattle.xn_model.specs.Map.{WalksTo}
use Rattle.xn_model.specs.Orders.{IsEdgeList, IsOrders, crossings_of, order_at}
use Rattle.xn_model.proofs.Ranges.{edge_list}
use Rattle.xn_model.specs.Web.{first_segment, segments_of, web_of}
use Rattle.xn_graph.specs.Limits.{IsLimitedGraph}
use Rattle.xn_orders.proofs.Limits.{length-segments_of, web_limited}
use Rattle.xn_fewer.proofs.Has.{has-first, has-kept, has-later, has-picked, has-right}
use Rattle.xn_fewer.proofs.Rising.{Rising, distinct-rising, has-all, rises-filter, rising-from_increasing, same_rising}
use Rattle.xn_map.specs.Listed.{ListedMap}
use Rattle.xn_track.proofs.Places.{all_not, has-at}
use Rattle.xn_loose.specs.Inserting.{EachMeetsOnce}
use Rattle.xn_general.specs.Webs.{darts_from, walk_in_web}
use Rattle.xn_general.proofs.Webs.{drawings_are_loose}
use Rattle.xn_insert.specs.Calls.{DrawsKept, IsStarted}
use Rattle.xn_insert.specs.ListedLoose.{ListedLoose, edges_in, has_dart, loose_of, walk_of}
use Rattle.xn_insert.specs.Starting.{AreWalksInWeb, AreWalksUpTo, segments_along, walk_listed}
use Rattle.xn_insert.proofs.Walked.{walks_meet_once}

-- ---- the first darts of segments

pub doubled : (s k : ℕ) → map (λ x. 2 * x) (range_with_len s (suc k)) ≡ darts_from s k
doubled s zero = refl
doubled s (suc k) =
    let on : s + 1 ≡ suc s = omega arith in
    ap (λ l. 2 * s ∷ l) (ap (λ t. map (λ x. 2 * x) (range_with_len t (suc k))) on ∙ doubled (suc s) k)

pub range_more : (a k : ℕ) → range_with_len a (k + 1) ≡ range_with_len a k ++ (a + k) ∷ []
range_more a k = (let e : k + 1 ≡ suc k = omega arith in ap (range_with_len a) e) ∙ by_steps a k
  where
    by_steps : (b j : ℕ) → range_with_len b (suc j) ≡ range_with_len b j ++ (b + j) ∷ []
    by_steps b zero = let e : b ≡ b + 0 = omega arith in ap (λ x. x ∷ []) e
    by_steps b (suc j) = let e : b + 1 + j ≡ b + suc j = omega arith in ap (λ l. b ∷ l) (by_steps (b + 1) j ∙ ap (λ x. range_with_len (b + 1) j ++ x ∷ []) e)

-- ---- how many segments come first

pub total-take : (f : ℕ → ℕ) (xs : List ℕ) (i : ℕ) → i < length xs → total f (take (suc i) xs) ≡ total f (take i xs) + f (at xs i)
total-take f [] i low = absurd (omega arith)
total-take f (x ∷ xs) zero low = omega arith
total-take f (x ∷ xs) (suc i) low = let rest = total-take f xs i (omega (arith, low)) in omega (arith, rest)

total-take-le : (f : ℕ → ℕ) (xs : List ℕ) (i : ℕ) → total f (take i xs) ≤ total f xs
total-take-le f [] zero = omega arith
total-take-le f [] (suc i) = omega arith
total-take-le f (x ∷ xs) zero = omega arith
total-take-le f (x ∷ xs) (suc i) = let rest = total-take-le f xs i in omega (arith, rest)

first_at : (ord : ℕ → List ℕ) (edges : List ℕ) (i : ℕ) → IsDistinct nat_eq edges → i < length edges → first_segment edges ord (at edges i) ≡ segments_along ord (take i edges)
unfolding IsDistinct
first_at ord [] i distinct low = absurd (omega arith)
first_at ord (x ∷ xs) zero distinct low = cond-true _ _ _ (eq-eqb x x refl)
first_at ord (x ∷ xs) (suc i) distinct low =
    let other : x ≢ at xs i = all_not x xs distinct.0 (at xs i) (has-at xs i (omega (arith, low))) in
    cond-false _ _ _ (ne_eqb x (at xs i) other) ∙ ap (λ k. suc (length (ord x)) + k) (first_at ord xs i distinct.1 (omega (arith, low)))

segments-length : (g : Graph) (pairs : List (ℕ × ℕ)) (ord : ℕ → List ℕ) (edges : List ℕ) → length (flat_map (segments_of g pairs ord) edges) ≡ segments_along ord edges
segments-length g pairs ord [] = refl
segments-length g pairs ord (e ∷ es) =
    let sum = length-append (segments_of g pairs ord e) (flat_map (segments_of g pairs ord) es) in
    let one = length-segments_of g pairs ord e in
    let rest = segments-length g pairs ord es in
    omega (arith, sum, one, rest)

module _ (g : Graph) (kept : List ℕ) (ord : ℕ → List ℕ) (limited : IsLimitedGraph g) (orders : IsOrders g.ends kept ord) where
  distinct : IsDistinct nat_eq kept
  distinct = distinct-rising kept (rising-from_increasing kept orders.edge_list.rise)

  pub kept_in : (i : ℕ) → i < length kept → at kept i < length g.ends
  kept_in i low = has-all (λ k. k < length g.ends) kept orders.edge_list.below (at kept i) (has-at kept i low)

  -- the segments up to those of one more edge are few
  pub few_segments : (i : ℕ) → i < length kept → segments_along ord (take i kept) + suc (length (ord (at kept i))) ≤ 2 ^ 30
  few_segments i low =
      let web = web_limited g kept ord limited orders in
      let size = segments-length g (crossings_of kept ord) ord kept in
      let step = total-take (λ e. suc (length (ord e))) kept i low in
      let most = total-take-le (λ e. suc (length (ord e))) kept (suc i) in
      let few = web.few_segments in
      omega (arith, few, size, step, most)

  -- one more edge
  pub walks_more : (i first more : ℕ) (walks : List (List ℕ)) → AreWalksUpTo g kept ord i first walks → i < length kept → more ≡ length (ord (at kept i)) →
      AreWalksUpTo g kept ord (i + 1) (first + (more + 1)) (set walks (at kept i) (darts_from first more))
  walks_more i first more walks old low more_is =
      let e = at kept i in
      let ds = darts_from first more in
      let next_i : i + 1 ≡ suc i = omega arith in
      let taken : take (i + 1) kept ≡ take i kept ++ e ∷ [] = take_more kept i 0 low in
      let own : ds ≡ walk_in_web kept ord e = ap (λ s. darts_from s more) (old.next ∙ sym (first_at ord kept i distinct low)) ∙ ap (darts_from (first_segment kept ord e)) more_is in
      record {
        size = length-set walks e ds ∙ old.size;
        next =
            let step = total-take (λ x. suc (length (ord x))) kept i low in
            let sum = ap (λ k. total (λ x. suc (length (ord x))) (take k kept)) next_i in
            let was = old.next in
            omega (arith, step, sum, was, more_is);
        each = λ x. elim (cases_eq x e) [
          | inl is ↦
              let there : has (take (i + 1) kept) e ≡ true = ap (λ l. has l e) taken ∙ has-right (take i kept) (e ∷ []) e (has-first e []) in
              let e_in = kept_in i low in
              let size = old.size in
              ap (walk_of (set walks e ds)) is ∙ get_or-set_same walks e ds [] (omega (arith, e_in, size)) ∙ own ∙ sym (cond-true _ _ _ there) ∙ ap (walk_listed kept ord (take (i + 1) kept)) (sym is)
          | inr other ↦
              let same : has (take (i + 1) kept) x ≡ has (take i kept) x = ap (λ l. has l x) taken ∙ has_other (take i kept) e x (λ f. other (sym f)) in
              get_or-set_other walks e x ds [] other ∙ old.each x ∙ ap (λ b. cond b (walk_in_web kept ord x) []) (sym same)
        ];
      }
    where
      has_other : (xs : List ℕ) (y x : ℕ) → y ≢ x → has (xs ++ y ∷ []) x ≡ has xs x
      has_other [] y x other = rw (ne_eqb y x other) refl
      has_other (z ∷ zs) y x other = ap (λ b. eqb z x || b) (has_other zs y x other)

  empty_at : (n x : ℕ) → walk_of (replicate n []) x ≡ []
  empty_at zero x = refl
  empty_at (suc n) zero = refl
  empty_at (suc n) (suc x) = empty_at n x

  pub none_yet : AreWalksUpTo g kept ord 0 0 (replicate (length g.ends) [])
  none_yet = record {
    size = length-replicate (length g.ends) [];
    next = refl;
    each = λ x. empty_at (length g.ends) x;
  }

  pub all_walks : (first : ℕ) (walks : List (List ℕ)) (i : ℕ) → length kept ≤ i → AreWalksUpTo g kept ord i first walks → AreWalksInWeb g kept ord walks
  all_walks first walks i past done = record {
    size = done.size;
    each = λ x. done.each x ∙ ap (λ l. walk_listed kept ord l x) (take_all i kept past);
  }

-- ---- the loose drawing

has_dart-from : (s k : ℕ) → has_dart (darts_from s k) ≡ true
has_dart-from s zero = refl
has_dart-from s (suc k) = refl

-- only the walks of the listed edges matter
same_blocks : (f h : ℕ → List ℕ) (edges : List ℕ) → ((x : ℕ) → has edges x ≡ true → f x ≡ h x) → flat_map f edges ≡ flat_map h edges
same_blocks f h [] same = refl
same_blocks f h (x ∷ xs) same = ap (λ l. l ++ flat_map f xs) (same x (has-first x xs)) ∙ ap (λ l. h x ++ l) (same_blocks f h xs (λ y y_in. same y (has-later x xs y y_in)))

pub loose_by_walks : (g : Graph) (edges : List ℕ) (further : ℕ) (web : Graph) (next : ℕ → ℕ) (walks other : ℕ → List ℕ) → ((x : ℕ) → has edges x ≡ true → walks x ≡ other x) →
    IsLoose g edges further web next walks → IsLoose g edges further web next other
loose_by_walks g edges further web next walks other same loose = record {
  is_graph = loose.is_graph;
  edge_list = loose.edge_list;
  nodes = loose.nodes;
  is_flat_map = loose.is_flat_map;
  lead = λ e e_in. subst (λ ds. WalksTo web.ends (ends_at g.ends e).0 ds (ends_at g.ends e).1) (same e e_in) (loose.lead e e_in);
  straight = λ e e_in. subst (GoesStraight g.nodes web.ends next) (same e e_in) (loose.straight e e_in);
  once = λ s s_in. ap (times_walked s) (sym (same_blocks walks other edges same)) ∙ loose.once s s_in;
  four = loose.four;
}

-- ---- the edges that have a walk

rising_range : (a n : ℕ) → Rising (range_with_len a n)
rising_range a zero = tt
rising_range a (suc n) = (later (a + 1) n (omega arith), rising_range (a + 1) n)
  where
    later : (b k : ℕ) → a < b → AllByRecursion (λ y. a < y) (range_with_len b k)
    later b zero low = tt
    later b (suc k) low = (low, later (b + 1) k (omega (arith, low)))

pub has-range : (a n x : ℕ) → a ≤ x → x < a + n → has (range_with_len a n) x ≡ true
has-range a zero x low high = absurd (omega (arith, low, high))
has-range a (suc n) x low high = elim (cases_eq a x) [
  | inl is ↦ subst (λ y. has (range_with_len a (suc n)) y ≡ true) is (has-first a (range_with_len (a + 1) n))
  | inr other ↦ has-later a (range_with_len (a + 1) n) x (has-range (a + 1) n x (omega (arith, low, other)) (omega (arith, high)))
]

pub below_range : (a n x : ℕ) → has (range_with_len a n) x ≡ true → x < a + n
below_range a zero x h = absurd (both_ways false refl h)
below_range a (suc n) x h = elim (or_cases (eqb a x) (has (range_with_len (a + 1) n) x) h) [
  | inl here ↦ let is : a ≡ x = eqb-true a x here in omega (arith, is)
  | inr later ↦ let low = below_range (a + 1) n x later in omega (arith, low)
]

-- a rising list of numbers below n is that of those of which a test holds
pub edges_by_test : (n : ℕ) (t : ℕ → Bool) (edges : List ℕ) → IsEdgeList n edges → ((x : ℕ) → x < n → t x ≡ has edges x) → filter t (range_with_len 0 n) ≡ edges
edges_by_test n t edges list same =
    same_rising (λ x. x) (filter t (range_with_len 0 n)) edges (rises-filter (λ x. x) t (range_with_len 0 n) (rising_range 0 n)) (rising-from_increasing edges list.rise)
    (λ x x_in. let p = has-picked t (range_with_len 0 n) x x_in in sym (same x (let low = below_range 0 n x p.0 in omega (arith, low))) ∙ p.1)
    (λ x x_in.
    let low : x < n = has-all (λ k. k < n) edges list.below x x_in in
    has-kept t (range_with_len 0 n) x (has-range 0 n x (omega arith) (omega (arith, low))) (same x low ∙ x_in))

pub started : (g : Graph) (kept : List ℕ) (lists : List (List ℕ)) (map : ListedMap) (walks : List (List ℕ)) → IsGraph g → IsEdgeList (length g.ends) kept → DrawsKept g kept lists map →
    AreWalksInWeb g kept (order_at kept lists) walks → IsStarted g kept map (loose_of g.nodes map walks)
started g kept lists map walks is_graph list draws are =
    let ord = order_at kept lists in
    let l = loose_of g.nodes map walks in
    let own : (x : ℕ) → has kept x ≡ true → walk_in_web kept ord x ≡ walk_of walks x = λ x x_in. sym (are.each x ∙ cond-true _ _ _ x_in) in
    let same : (x : ℕ) → has_dart (walk_of walks x) ≡ has kept x = λ x. elim (cases_Bool (has kept x)) [
      | inl x_in ↦ ap has_dart (are.each x ∙ cond-true _ _ _ x_in) ∙ has_dart-from (first_segment kept ord x) (length (ord x)) ∙ sym x_in
      | inr out ↦ ap has_dart (are.each x ∙ cond-false _ _ _ out) ∙ sym out
    ] in
    let in_it : edges_in l ≡ kept = ap (λ m. filter (λ e. has_dart (walk_of walks e)) (range_with_len 0 m)) are.size ∙ edges_by_test (length g.ends) (λ e. has_dart (walk_of walks e)) kept list (λ x low. same x) in
    let loose = loose_by_walks g kept (length (crossings_of kept ord)) (web_of g kept ord) (at map.next) (walk_in_web kept ord) (walk_of walks) own (drawings_are_loose g kept ord (at map.next) is_graph draws.drawing) in
    let once : EachMeetsOnce kept (web_of g kept ord).ends (walk_of walks) =
    λ x x_in. subst (MeetsOnce (web_of g kept ord).ends) (own x x_in) (walks_meet_once g kept ord is_graph draws.drawing.orders x x_in) in
    record {
      same_map = refl;
      kept_are_in = in_it;
      loose = record {
        nodes = refl;
        lists = are.size;
        further = length (crossings_of kept ord);
        loose =
            subst (λ es. IsLoose g es (length (crossings_of kept ord)) map.web (at map.next) (walk_of walks)) (sym in_it)
            (subst (λ w. IsLoose g kept (length (crossings_of kept ord)) w (at map.next) (walk_of walks)) (sym draws.web) loose);
      };
      once = subst (λ es. EachMeetsOnce es map.web.ends (walk_of walks)) (sym in_it) (subst (λ w. EachMeetsOnce kept w.ends (walk_of walks)) (sym draws.web) once);
    }

-- ---- whether all are in

-- an edge with an empty list isn't in
pub empty_out : (l : ListedLoose) (e : ℕ) → e < length l.walks → length (walk_of l.walks e) ≡ 0 → edges_in l ≡ range_with_len 0 (length l.walks) → ⊥
empty_out l e low none all =
    let n = length l.walks in
    let there : has (edges_in l) e ≡ true = ap (λ xs. has xs e) all ∙ has-range 0 n e (omega arith) (omega (arith, low)) in
    no_dart (walk_of l.walks e) none (has-picked (λ x. has_dart (walk_of l.walks x)) (range_with_len 0 n) e there).1
  where
    no_dart : (ds : List ℕ) → length ds ≡ 0 → has_dart ds ≡ true → ⊥
    no_dart [] none some = both_ways false refl some
    no_dart (d ∷ ds) none some = omega (arith, none)

pub all_in : (l : ListedLoose) → ((x : ℕ) → x < length l.walks → has_dart (walk_of l.walks x) ≡ true) → edges_in l ≡ range_with_len 0 (length l.walks)
all_in l each =
    let n = length l.walks in
    edges_by_test n (λ x. has_dart (walk_of l.walks x)) (range_with_len 0 n) (edge_list n) (λ x low. each x low ∙ sym (has-range 0 n x (omega arith) (omega (arith, low))))

-- a list with an element has a dart
pub some_dart : (ds : List ℕ) → length ds ≢ 0 → has_dart ds ≡ true
some_dart [] some = absurd (some refl)
some_dart (d ∷ ds) some = refl
