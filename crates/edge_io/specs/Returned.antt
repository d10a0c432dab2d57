-- The connections that were given back, in order.
use Rattle.std.specs.Prelude.{List, [], ◌∷◌, ◌++◌}
use Rattle.edge_io.specs.declared.mem_ears.Link.{Link}
use Rattle.edge_io.specs.declared.mem_ears.Link.TheVariants.{End, More}
use Rattle.edge_io.specs.Connections.{Ending}
use Rattle.edge_io.specs.MemoryEars.{ending_of}

-- the newest stands first in memory
abbrev pub returned_of : Link → List Ending
returned_of End = []
returned_of (More source sink below) = below.value ++ ending_of (record { source = source; sink = sink }) ∷ []
