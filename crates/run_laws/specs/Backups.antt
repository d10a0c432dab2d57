-- What a line of `dump` and one of `load` came to that are done.
use Rattle.std.specs.Prelude.{◌≡◌, ℕ, List, IfSome}
use Rattle.std.specs.Io.KnownBytes.{append_known, prepend_known, IsAtEnd}
use Rattle.edge_io.specs.Connections.{AddsOne}
use Rattle.edge_io.specs.Exchanges.{Exchange}
use Rattle.tcp_links.specs.Links.{Ending}
use Rattle.place.specs.Place.{IsPlace, PlaceView}
use Rattle.record_dump.specs.Told.{IsPosted, IsWhole}
use Rattle.far_lines.specs.Loaded.{count_lines}
use Rattle.kubeconv_cmd.specs.World.{World, flushed, input, left, linked, linked_before, written, written_before}

-- The exchanges of the one link, where they are told, are one whole list of the objects of the place, each page asked for with the token of
-- the one before. What was written, and handed on, is the line of each object, in order.
pub record DumpedWhole {F S K E A L I O : Type 0} (w : World F S K E A L I O) (url : List ℕ) : Type 0 where
  pub place : PlaceView
  pub is : IsPlace url place
  pub ending : Ending
  pub back : AddsOne (linked_before w) (linked w) ending
  pub exchanges : List Exchange
  pub made : IfSome ending.exchanges (λ es. es ≡ exchanges)
  pub bytes : List ℕ
  pub count : ℕ
  pub whole : IsWhole place.names exchanges bytes count
  pub wrote : written w ≡ append_known (written_before w) bytes
  pub handed_on : flushed w ≡ written w

-- The input was read to its end. The exchanges of the one link, where they are told, are one post for each of its lines, in order: so many
-- were created, and so many were there already. Both numbers were written, and handed on.
pub record LoadedWhole {F S K E A L I O : Type 0} (w : World F S K E A L I O) (url : List ℕ) : Type 0 where
  pub place : PlaceView
  pub is : IsPlace url place
  pub ending : Ending
  pub back : AddsOne (linked_before w) (linked w) ending
  pub exchanges : List Exchange
  pub made : IfSome ending.exchanges (λ es. es ≡ exchanges)
  pub bytes : List ℕ
  pub read : input w ≡ prepend_known bytes (left w)
  pub end : IsAtEnd (left w)
  pub created : ℕ
  pub present : ℕ
  pub posted : IsPosted place.names bytes exchanges created present
  pub wrote : written w ≡ append_known (written_before w) (count_lines created present)
  pub handed_on : flushed w ≡ written w
