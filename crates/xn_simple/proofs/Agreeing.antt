-- Rotations that agree on the darts.
use Rattle.std.proofs.Common.{◌≡◌, ℕ, ◌+◌, ◌*◌, ◌<◌, List, length, ◌∙◌, ap, arith}
use Rattle.xn_model.specs.Graph.{Graph, IsGraph}
use Rattle.xn_model.specs.Lists.{position_in}
use Rattle.xn_model.specs.Map.{IsFlat, face_step, reverse_of, tail_of}
use Rattle.xn_model.specs.Web.{first_segment, web_of}
use Rattle.xn_model.proofs.Darts.{reverse_below}
use Rattle.xn_genus.proofs.Counts.{Permutes-face, cycle_count-congr}
use Rattle.xn_ring.proofs.Agreeing.{Permutes-agrees, iterate-agrees}
use Rattle.xn_track.specs.Tidying.{IsDrawingOfEdges}
use Rattle.xn_general.proofs.InWeb.{at_position}
use Rattle.xn_general.proofs.Webs.{seg_at}

pub flat-agrees : (web : Graph) (f h : ℕ → ℕ) → IsFlat web f → ((d : ℕ) → d < 2 * length web.ends → h d ≡ f d) → IsFlat web h
flat-agrees web f h flat same =
    let n = 2 * length web.ends in
    let m = flat.is_map in
    let faces = cycle_count-congr n (face_step f) (face_step h) (Permutes-face (length web.ends) f m.permutes) (λ d d_in. same (reverse_of d) (reverse_below (length web.ends) d d_in)) in
    record {
      is_map = record {
        ends_in = m.ends_in;
        permutes = Permutes-agrees n f h m.permutes same;
        same_node = λ d d_in. ap (tail_of web.ends) (same d d_in) ∙ m.same_node d d_in;
        one_ring = λ d e d_in e_in one. let r = m.one_ring d e d_in e_in one in (r.0, iterate-agrees n f h m.permutes same d r.0 d_in ∙ r.1);
      };
      flat = let euler = flat.flat in omega (arith, faces, euler);
    }

pub drawing-agrees : (g : Graph) (edges : List ℕ) (ord : ℕ → List ℕ) (f h : ℕ → ℕ) → IsGraph g → IsDrawingOfEdges g edges ord f →
    ((d : ℕ) → d < 2 * length (web_of g edges ord).ends → h d ≡ f d) → IsDrawingOfEdges g edges ord h
drawing-agrees g edges ord f h is_graph drawn same = record {
  orders = drawn.orders;
  is_flat_map = flat-agrees (web_of g edges ord) f h drawn.is_flat_map same;
  crosses = λ a b low h_b.
      let before = first_segment edges ord a + position_in (ord a) b in
      let p = at_position (ord a) b h_b in
      let s = seg_at g edges ord f is_graph drawn.orders drawn.is_flat_map a (position_in (ord a) b) (drawn.orders.within a b h_b) (omega (arith, p.0)) in
      let d_in : 2 * before + 1 < 2 * length (web_of g edges ord).ends = omega (arith, s.0) in
      same (h (2 * before + 1)) (omega (arith, same (2 * before + 1) d_in, drawn.is_flat_map.is_map.permutes.below (2 * before + 1) d_in))
      ∙ ap f (same (2 * before + 1) d_in) ∙ drawn.crosses a b low h_b;
}
