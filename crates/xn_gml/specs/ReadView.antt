-- What was read, without where it lies in memory.
use Rattle.xn_gml.specs.declared.reader.Read.{Read}
use Rattle.xn_gml.specs.Meaning.{Found}

abbrev pub found_in : Read → Found
found_in r = record { graph = r.graph; ids = r.ids.entries; loops = r.loops }
