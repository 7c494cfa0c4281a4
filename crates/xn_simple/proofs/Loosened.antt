-- The steps by which walks meet less, over a map that stays as it is.
use Rattle.std.proofs.Common.{◌≡◌, ℕ, suc, ◌+◌, ◌-◌, ◌*◌, ◌<◌, inl, inr, Bool, true, false, List, length, take, drop, refl, sym, ◌∙◌, ap, subst, arith, length-drop}
use Rattle.xn_model.specs.Graph.{Graph, IsGraph}
use Rattle.xn_model.specs.Lists.{at, has}
use Rattle.xn_model.specs.Map.{reverse_of, tail_of}
use Rattle.xn_track.specs.Relinking.{IsRelinked, MayBeRelinked, PassesTo}
use Rattle.xn_track.specs.Steps.{crossing_over, turned_walk}
use Rattle.xn_track.specs.Track.{IsGround}
use Rattle.xn_track.proofs.Blocks.{at_after}
use Rattle.xn_track.proofs.Exchange.{stands_all, stands_drop, take-size}
use Rattle.xn_track.proofs.Paths.{path_seam}
use Rattle.xn_track.proofs.Relink.{comes_apart, every_split_relinks, is_split, split_ends, split_turns}
use Rattle.xn_track.proofs.Steps.{beginnings_are_exchanged, closed_parts_are_cut_off, edge_path, middles_are_exchanged}
use Rattle.xn_simple.specs.Loosened.{BeginningsChange, ClosedPartsGo, ComesFrom, IsLoosened, MiddlesChange, all_but}
use Rattle.xn_simple.proofs.Apart.{is_kept, named_from}

-- relinked at v the map still comes from the old one
pub relinked : (n : ℕ) (web : Graph) (next : ℕ → ℕ) (more : Graph) (after : ℕ → ℕ) (four : ℕ → Bool) → IsGround n more after four → ComesFrom n web next more after four →
    (a b v : ℕ) → MayBeRelinked more after four a b → tail_of more.ends a ≡ v →
    (last : Graph) × (turn : ℕ → ℕ) × IsRelinked n more after four a b last turn (all_but four v) × ComesFrom n web next last turn (all_but four v)
relinked n web next more after four ground k a b v may at_a =
    let T : ℕ → Type 0 = λ u. (last : Graph) × (turn : ℕ → ℕ) × IsRelinked n more after four a b last turn (all_but four u) × ComesFrom n web next last turn (all_but four u) in
    let at = comes_apart n more after four ground a b may in
    subst T at_a (elim at.1 [
      | inl here ↦ (
        record { nodes = suc more.nodes; ends = split_ends n more after four ground a may.a_in may.holds },
        split_turns n more after four ground a may.a_in may.holds,
        every_split_relinks n more after four ground a b may a (inl (refl, here.1)) _ _ (is_split n more after four ground a may.a_in may.holds),
        is_kept n web next more after four ground a may.a_in may.holds k,
      )
      | inr here ↦
          let holds : four (tail_of more.ends b) ≡ true = ap four (sym may.one_node) ∙ may.holds in
          let C : ℕ → Type 0 = λ u. ComesFrom n web next (record { nodes = suc more.nodes; ends = split_ends n more after four ground b may.b_in holds })
          (split_turns n more after four ground b may.b_in holds) (all_but four u) in (
            record { nodes = suc more.nodes; ends = split_ends n more after four ground b may.b_in holds },
            split_turns n more after four ground b may.b_in holds,
            every_split_relinks n more after four ground a b may b (inr (refl, here.1)) _ _ (is_split n more after four ground b may.b_in holds),
            subst C (sym may.one_node) (is_kept n web next more after four ground b may.b_in holds k),
          )
    ])

-- the walk one up to its dart i, and then two after its dart j: there stands the dart l of two
at_crossing_over : (one two : List ℕ) (i j l : ℕ) → suc i < length one → j < l → suc l < length two → at (crossing_over one i two j) (i + (l - j)) ≡ at two l
at_crossing_over one two i j l i_in low l_in =
    let m = l - suc j in
    let size = take-size (suc i) one (omega (arith, i_in)) in
    let place : i + (l - j) ≡ length (take (suc i) one) + m = omega (arith, size, low) in
    let rest = stands_drop two 0 two (suc j) (omega (arith, low, l_in)) (stands_all two) in
    let m_in : m < length (drop (suc j) two) = let fits = rest.fits in in_drop two j l low l_in in
    let last : 0 + suc j + m ≡ l = omega (arith, low) in
    ap (at (crossing_over one i two j)) place ∙ at_after (take (suc i) one) (drop (suc j) two) m 0 ∙ sym (rest.same m m_in) ∙ ap (at two) last
  where
    in_drop : (two : List ℕ) (j l : ℕ) → j < l → suc l < length two → l - suc j < length (drop (suc j) two)
    in_drop two j l low l_in = let size = length-drop (suc j) two in omega (arith, size, low, l_in)

module _ (g : Graph) (edges : List ℕ) (web : Graph) (next : ℕ → ℕ) (four : ℕ → Bool) (walks : ℕ → List ℕ) (is_graph : IsGraph g)
    (state : IsLoosened g edges web next four walks) where
  abbrev more : Graph
  more = state.more

  abbrev after : ℕ → ℕ
  after = state.after

  -- where a walk passes a named node, both darts stand there
  stands : (e i v : ℕ) (s : Bool) → has edges e ≡ true → suc i < length (turned_walk s (walks e)) → four v ≡ true → tail_of web.ends (at (turned_walk s (walks e)) (suc i)) ≡ v →
      (tail_of more.ends (at (turned_walk s (walks e)) (suc i)) ≡ v) × (tail_of more.ends (reverse_of (at (turned_walk s (walks e)) i)) ≡ v)
  stands e i v s e_in i_in holds at_v =
      let p = edge_path g edges more after four walks is_graph state.track e e_in s in
      let seam : PassesTo g.nodes more after four (reverse_of (at (turned_walk s (walks e)) i)) (at (turned_walk s (walks e)) (suc i)) =
      path_seam (length more.ends) (PassesTo g.nodes more after four) p.from p.to (turned_walk s (walks e)) p.path i i_in in
      let d_in : at (turned_walk s (walks e)) (suc i) < 2 * length web.ends = let low = seam.y_in in let size = state.comes.size in omega (arith, low, size) in
      let here = named_from g.nodes web next more after four state.comes (at (turned_walk s (walks e)) (suc i)) v d_in holds at_v in
      (here, sym seam.one_node ∙ here)

pub closed_parts_go : ClosedPartsGo
closed_parts_go g edges web next four walks is_graph state e i j v e_in low j_in holds at_i at_j =
    let one = stands g edges web next four walks is_graph state e i v false e_in (omega (arith, low, j_in)) holds at_i in
    let two = stands g edges web next four walks is_graph state e j v false e_in j_in holds at_j in
    let step = closed_parts_are_cut_off g edges state.more state.after four walks is_graph state.track e i j e_in low j_in (one.0 ∙ sym two.0) in
    let r = relinked g.nodes web next state.more state.after four state.track.ground state.comes (reverse_of (at (walks e) i)) (reverse_of (at (walks e) j)) v step.may one.1 in
    record { more = r.0; after = r.1; comes = r.3; track = step.leaves r.0 r.1 (all_but four v) r.2 }

pub beginnings_change : BeginningsChange
beginnings_change g edges web next four walks is_graph state e f i j v s t e_in f_in differ from i_in j_in holds at_i at_j =
    let one = stands g edges web next four walks is_graph state e i v s e_in i_in holds at_i in
    let two = stands g edges web next four walks is_graph state f j v t f_in j_in holds at_j in
    let step = beginnings_are_exchanged g edges state.more state.after four walks is_graph state.track e f i j s t e_in f_in differ from i_in j_in (one.0 ∙ sym two.0) in
    let r = relinked g.nodes web next state.more state.after four state.track.ground state.comes (reverse_of (at (turned_walk s (walks e)) i)) (reverse_of (at (turned_walk t (walks f)) j)) v step.may one.1 in
    record { more = r.0; after = r.1; comes = r.3; track = step.leaves r.0 r.1 (all_but four v) r.2 }

pub middles_change : MiddlesChange
middles_change g edges web next four walks is_graph state e f i j k l u v t e_in f_in differ ik k_in jl l_in four_u four_v apart at_i at_j at_k at_l =
    let one = walks e in
    let two = turned_walk t (walks f) in
    let i_in : suc i < length one = omega (arith, ik, k_in) in
    let j_in : suc j < length two = omega (arith, jl, l_in) in
    let s_i = stands g edges web next four walks is_graph state e i u false e_in i_in four_u at_i in
    let s_j = stands g edges web next four walks is_graph state f j u t f_in j_in four_u at_j in
    let s_k = stands g edges web next four walks is_graph state e k v false e_in k_in four_v at_k in
    let s_l = stands g edges web next four walks is_graph state f l v t f_in l_in four_v at_l in
    let first = crossing_over one i two j in
    let second = crossing_over two j one i in
    let step = middles_are_exchanged g edges state.more state.after four walks is_graph state.track e f i j k l t e_in f_in differ ik k_in jl l_in
    (s_i.0 ∙ sym s_j.0) (s_k.0 ∙ sym s_l.0) (λ same. apart (sym s_i.0 ∙ same ∙ s_k.0)) in
    let r = relinked g.nodes web next state.more state.after four state.track.ground state.comes (reverse_of (at one i)) (reverse_of (at two j)) u step.may s_i.1 in
    let c = reverse_of (at first (i + (l - j))) in
    let then = step.may_then r.0 r.1 (all_but four u) r.2 in
    let c_is : c ≡ reverse_of (at two l) = ap reverse_of (at_crossing_over one two i j l i_in jl l_in) in
    let at_c : tail_of state.more.ends c ≡ v = ap (tail_of state.more.ends) c_is ∙ s_l.1 in
    let c_in : c < 2 * length state.more.ends = let low = then.a_in in let size = r.3.size in let old = state.comes.size in omega (arith, low, size, old) in
    let at_c_now : tail_of r.0.ends c ≡ v = r.2.tails c c_in (λ same. apart (sym s_i.1 ∙ sym same ∙ at_c)) ∙ at_c in
    let q = relinked g.nodes web next r.0 r.1 (all_but four u) r.2.ground r.3 c (reverse_of (at second (j + (k - i)))) v then at_c_now in
    record {
      more = q.0;
      after = q.1;
      comes = q.3;
      track = step.leaves r.0 q.0 r.1 q.1 (all_but four u) (all_but (all_but four u) v) r.2 q.2;
    }
