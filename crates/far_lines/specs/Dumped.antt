-- What a dump over one link came to.
use Rattle.std.specs.Prelude.{◌≡◌, ◌<◌, ℕ, List, Option, IfSome}
use Rattle.std.specs.Io.KnownBytes.{append_known}
use Rattle.edge_io.specs.Connections.{AddsOne}
use Rattle.edge_io.specs.Exchanges.{Exchange}
use Rattle.tcp_links.specs.Links.{Ending}
use Rattle.place.specs.Place.{IsPlace, Names, PlaceView}
use Rattle.record_dump.specs.Dumps.{Dumps, at_first}
use Rattle.record_dump.specs.declared.ends.DumpEnd.{DumpEnd}
use Rattle.record_dump.specs.declared.ends.DumpEnd.TheVariants as ends

-- The links made one link and took it back. Its exchanges, where they tell them, and the bytes that were written are those of a dump of
-- these objects that came to this end, and it failed where that is the end.
pub record Dumped (n : Names) (linked_before linked : Option (List Ending)) (before written : Option (List ℕ)) (d : DumpEnd) : Type 0 where
  pub ending : Ending
  pub back : AddsOne linked_before linked ending
  pub exchanges : List Exchange
  pub bytes : List ℕ
  pub made : IfSome ending.exchanges (λ es. es ≡ exchanges)
  pub wrote : written ≡ append_known before bytes
  pub dumps : Dumps n at_first exchanges bytes d
  pub broke : d ≡ ends.LinkFault → 0 < ending.faults

-- the same of the place whose address a text is
pub record DumpedAt (url : List ℕ) (linked_before linked : Option (List Ending)) (before written : Option (List ℕ)) (d : DumpEnd) : Type 0 where
  pub place : PlaceView
  pub is : IsPlace url place
  pub dumped : Dumped place.names linked_before linked before written d
