-- The passes of a walk that is turned.
use Rattle.std.proofs.Common.{◌≡◌, ◌≢◌, ℕ, suc, ◌+◌, ◌-◌, ◌<◌, Bool, true, false, List, length, refl, sym, ◌∙◌, ap, arith}
use Rattle.xn_model.specs.Graph.{Graph}
use Rattle.xn_model.specs.Lists.{at}
use Rattle.xn_model.specs.Map.{tail_of}
use Rattle.xn_track.specs.Steps.{crossing_over, end_from, node_after, turned_walk, with_walk}
use Rattle.xn_track.proofs.Paths.{at-reverse_walk, length-reverse_walk}
use Rattle.xn_simple.specs.Loosened.{IsLoosened, all_but}
use Rattle.xn_simple.specs.Tangle.{IsTangle, ListedTangle, MeetAt, named, node_in, walk_in}
use Rattle.xn_simple.specs.Untangling.{MeetTwice, place_turned}
use Rattle.xn_simple.proofs.Loosened.{beginnings_change, closed_parts_go, middles_change}
use Rattle.xn_simple.proofs.Tangled.{arrives, edge_in}

pub length-turned : (t : Bool) (ds : List ℕ) → length (turned_walk t ds) ≡ length ds
length-turned true ds = length-reverse_walk ds
length-turned false ds = refl

module _ (g : Graph) (t : ListedTangle) (tangle : IsTangle g t) where
  abbrev ends : List (ℕ × ℕ)
  ends = t.map.web.ends

  -- a pass of a named node is one of the turned walk
  pub record PassTurned (turn : Bool) (e i v : ℕ) : Type 0 where
    pub in_it : suc (place_turned turn (length (walk_in t e)) i) < length (turned_walk turn (walk_in t e))
    pub node : node_after ends (turned_walk turn (walk_in t e)) (place_turned turn (length (walk_in t e)) i) ≡ v

  pub pass_turned : (turn : Bool) (e i v : ℕ) → suc i < length (walk_in t e) → named t v ≡ true → node_in t e i ≡ v → PassTurned turn e i v
  pass_turned false e i v i_in holds at_v = record { in_it = i_in; node = at_v }
  pass_turned true e i v i_in holds at_v =
      let ds = walk_in t e in
      let long = length-reverse_walk ds in
      let dart = at-reverse_walk ds (suc (length ds - 2 - i)) i (omega (arith, i_in)) in
      record { in_it = omega (arith, long, i_in); node = ap (tail_of ends) dart ∙ (arrives g t tangle e i v i_in holds at_v).here }

  -- where two passes come in the other order on the turned walk
  pub turned_order : (turn : Bool) (long j l : ℕ) → suc j < long → suc l < long → (turn ≡ true → l < j) → (turn ≡ false → j < l) → place_turned turn long j < place_turned turn long l
  turned_order true long j l j_in l_in back forth = let low = back refl in omega (arith, j_in, l_in, low)
  turned_order false long j l j_in l_in back forth = forth refl

  -- ---- the laws, of a tangle

  pub closed_law : (e i j : ℕ) → i < j → MeetAt t e i e j →
      IsLoosened g t.edges t.map.web (at t.map.next) (all_but (named t) (node_in t e i)) (with_walk (walk_in t) e (crossing_over (walk_in t e) i (walk_in t e) j))
  closed_law e i j low m =
      closed_parts_go g t.edges t.map.web (at t.map.next) (named t) (walk_in t) tangle.is_graph tangle.loosened e i j (node_in t e i)
      (edge_in g t tangle e (suc i) m.one_in) low m.two_in m.holds refl (sym m.one_node)

  module _ (e i f j : ℕ) (s u : Bool) (differ : e ≢ f) (m : MeetAt t e i f j) (from : end_from g.ends e s ≡ end_from g.ends f u) where
    abbrev first : List ℕ
    first = turned_walk s (walk_in t e)

    abbrev second : List ℕ
    second = turned_walk u (walk_in t f)

    abbrev first_place : ℕ
    first_place = place_turned s (length (walk_in t e)) i

    abbrev second_place : ℕ
    second_place = place_turned u (length (walk_in t f)) j

    pub beginnings_law : IsLoosened g t.edges t.map.web (at t.map.next) (all_but (named t) (node_in t e i))
        (with_walk (with_walk (walk_in t) e (turned_walk s (crossing_over second second_place first first_place))) f (turned_walk u (crossing_over first first_place second second_place)))
    beginnings_law =
        let p = pass_turned s e i (node_in t e i) m.one_in m.holds refl in
        let q = pass_turned u f j (node_in t e i) m.two_in m.holds (sym m.one_node) in
        beginnings_change g t.edges t.map.web (at t.map.next) (named t) (walk_in t) tangle.is_graph tangle.loosened e f first_place second_place (node_in t e i) s u
        (edge_in g t tangle e (suc i) m.one_in) (edge_in g t tangle f (suc j) m.two_in) differ from p.in_it q.in_it m.holds p.node q.node

  module _ (e i k f j l : ℕ) (turn : Bool) (twice : MeetTwice t e i k f j l) (back : turn ≡ true → l < j) (forth : turn ≡ false → j < l) where
    abbrev one : List ℕ
    one = walk_in t e

    abbrev two : List ℕ
    two = turned_walk turn (walk_in t f)

    abbrev j_now : ℕ
    j_now = place_turned turn (length (walk_in t f)) j

    abbrev l_now : ℕ
    l_now = place_turned turn (length (walk_in t f)) l

    abbrev over_one : List ℕ
    over_one = crossing_over one i two j_now

    abbrev over_two : List ℕ
    over_two = crossing_over two j_now one i

    pub middles_law : IsLoosened g t.edges t.map.web (at t.map.next) (all_but (all_but (named t) (node_in t e i)) (node_in t e k))
        (with_walk (with_walk (walk_in t) e (crossing_over over_one (i + (l_now - j_now)) over_two (j_now + (k - i))))
        f (turned_walk turn (crossing_over over_two (j_now + (k - i)) over_one (i + (l_now - j_now)))))
    middles_law =
        let m = twice.first in
        let n = twice.second in
        let p = pass_turned turn f j (node_in t e i) m.two_in m.holds (sym m.one_node) in
        let q = pass_turned turn f l (node_in t e k) n.two_in n.holds (sym n.one_node) in
        let order = turned_order turn (length (walk_in t f)) j l m.two_in n.two_in back forth in
        middles_change g t.edges t.map.web (at t.map.next) (named t) (walk_in t) tangle.is_graph tangle.loosened e f i j_now k l_now (node_in t e i) (node_in t e k) turn
        (edge_in g t tangle e (suc i) m.one_in) (edge_in g t tangle f (suc j) m.two_in) twice.differ twice.order n.one_in order q.in_it m.holds n.holds twice.apart refl p.node refl q.node

    -- the places of the two passes differ
    pub places_apart : j ≢ l
    places_apart same = twice.apart (twice.first.one_node ∙ ap (node_in t f) same ∙ sym twice.second.one_node)
