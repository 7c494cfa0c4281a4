use Rattle.std.proofs.Common.{◌≡◌, ◌-◌, length, inl, ap, arith}
use Rattle.xn_insert.proofs.Stepping.{corners}
use Rattle.xn_insert.proofs.growing.step_over.Goals as goal

pub add_edge-requires : goal.add_edge-requires
add_edge-requires c =
    let old = c.args.map.now in
    let divided = c.in_ok-subdivide.ensures.ok in
    let last = c.segments-last.result - 1 in
    let size = ap (λ w. length w.ends) c.web.ensures.value in
    let longer = divided.1.longer in
    let last_is : last ≡ length old.web.ends = omega (arith, c.segments-last.ensures.value, size, longer) in
    let here =
    corners old c.requires.map c.requires.flat c.args.c c.args.d c.requires.c_in c.requires.d_in c.requires.one_face c.subdivide.new.self divided last c.moved.result c.back_of.result
    last_is c.moved.ensures c.back_of.ensures c.web.ensures.is_map in
    let few = c.requires.few_segments in
    record { few = omega (arith, longer, few); a_in = here.first; b_in = here.second; two_nodes = here.two_nodes; one_face = inl here.one_face }

pub returns : goal.returns
returns c =
    let old = c.args.map.now in
    let divided = c.in_ok-subdivide.ensures.ok in
    let last = c.segments-last.result - 1 in
    let last_is : last ≡ length old.web.ends = omega (arith, c.segments-last.ensures.value, ap (λ w. length w.ends) c.web.ensures.value, divided.1.longer) in
    let here =
    corners old c.requires.map c.requires.flat c.args.c c.args.d c.requires.c_in c.requires.d_in c.requires.one_face c.subdivide.new.self divided last c.moved.result c.back_of.result
    last_is c.moved.ensures c.back_of.ensures c.web.ensures.is_map in
    here.steps c.add_edge.new.self c.in_ok-add_edge.ensures.ok
