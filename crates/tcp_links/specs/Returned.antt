-- The links that were given back, in order.
use Rattle.std.specs.Prelude.{List, [], ◌∷◌, ◌++◌}
use Rattle.tcp_links.specs.declared.mem_links.Chain.{Chain}
use Rattle.tcp_links.specs.declared.mem_links.Chain.TheVariants.{End, More}
use Rattle.tcp_links.specs.Links.{Ending}
use Rattle.tcp_links.specs.MemoryLinks.{ending_of}

-- the newest stands first in memory
abbrev pub returned_of : Chain → List Ending
returned_of End = []
returned_of (More link below) = below.value ++ ending_of link ∷ []
