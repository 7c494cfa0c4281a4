use Rattle.xn_dmp.proofs.Stuck.{jam_here}
use Rattle.xn_dmp.proofs.embedding.jam_of.Goals as goal

pub returns : goal.returns
returns c =
    rw (c.new.ensures, c.new-2.ensures, c.into_parts-map.ensures.placed, c.into_parts-map.ensures.map)
    (jam_here c.args.growth c.into_parts-map.ensures.grown c.args.fragment.items c.requires)
