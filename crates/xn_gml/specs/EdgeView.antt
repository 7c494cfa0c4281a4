-- Edges without where they lie in memory.
use Rattle.xn_gml.specs.declared.edges.Edges as declared
use Rattle.xn_gml.specs.Meaning.{Edges}

abbrev pub edges_kept : declared.Edges → Edges
edges_kept edges = record { ends = edges.ends.items; loops = edges.loops }
