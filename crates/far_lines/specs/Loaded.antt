-- What a restoring over one link came to, and what is written of it.
use Rattle.std.specs.Prelude.{◌≡◌, ◌<◌, ◌++◌, ⊤, ℕ, List, Option, IfSome, codes, decimal}
use Rattle.std.specs.Io.KnownBytes.{append_known, prepend_known}
use Rattle.edge_io.specs.Connections.{AddsOne}
use Rattle.edge_io.specs.Exchanges.{Exchange}
use Rattle.edge_io.specs.Sends.{AddsSome}
use Rattle.tcp_links.specs.Links.{Ending}
use Rattle.place.specs.Place.{IsPlace, Names, PlaceView}
use Rattle.record_dump.specs.Restores.{Restores, none_yet}
use Rattle.record_dump.specs.declared.ends.RestoreEnd.{RestoreEnd}
use Rattle.record_dump.specs.declared.ends.RestoreEnd.TheVariants as ends
use Rattle.far_lines.specs.declared.end.LoadEnd.{LoadEnd}
use Rattle.far_lines.specs.declared.end.LoadEnd.TheVariants.{Restored, WriteFault}

-- The links made one link and took it back. The bytes that were read and its exchanges, where they tell them, are those of a restoring
-- of these objects that came to this end, and it failed where that is the end.
pub record Loaded (n : Names) (linked_before linked : Option (List Ending)) (input left : Option (List ℕ)) (d : RestoreEnd) : Type 0 where
  pub ending : Ending
  pub back : AddsOne linked_before linked ending
  pub exchanges : List Exchange
  pub bytes : List ℕ
  pub made : IfSome ending.exchanges (λ es. es ≡ exchanges)
  pub read : input ≡ prepend_known bytes left
  pub restores : Restores n none_yet bytes exchanges d
  pub broke : d ≡ ends.LinkFault → 0 < ending.faults

-- the same of the place whose address a text is
pub record LoadedAt (url : List ℕ) (linked_before linked : Option (List Ending)) (input left : Option (List ℕ)) (d : RestoreEnd) : Type 0 where
  pub place : PlaceView
  pub is : IsPlace url place
  pub loaded : Loaded place.names linked_before linked input left d

-- ---- the text of the two numbers

abbrev pub count_line : List ℕ → ℕ → List ℕ
count_line word n = word ++ (decimal n ++ codes "\n")

unfoldable pub count_lines : ℕ → ℕ → List ℕ
count_lines created present = count_line (codes "created ") created ++ count_line (codes "present ") present

-- ---- how a line ends that loads

-- what its restoring came to
abbrev pub restored_to : LoadEnd → RestoreEnd
restored_to (Restored d) = d
restored_to (WriteFault created present) = ends.Done created present

-- what was written of a restoring: the two numbers where it is done
abbrev pub WroteOf : Option (List ℕ) → Option (List ℕ) → Option (List ℕ) → LoadEnd → Type 0
WroteOf before written flushed (Restored (ends.Done created present)) = (written ≡ append_known before (count_lines created present)) × (flushed ≡ written)
WroteOf before written flushed (Restored ends.LinkFault) = ⊤
WroteOf before written flushed (Restored ends.ReadFault) = ⊤
WroteOf before written flushed (Restored (ends.BadLine i)) = ⊤
WroteOf before written flushed (Restored (ends.Cut i)) = ⊤
WroteOf before written flushed (Restored ends.TooMany) = ⊤
WroteOf before written flushed (Restored (ends.Answer i c)) = ⊤
WroteOf before written flushed (Restored ends.NoMemory) = ⊤
WroteOf before written flushed (WriteFault created present) = AddsSome before written (count_lines created present)

-- where it isn't done, P holds
abbrev pub IfUndone : Type 0 → RestoreEnd → Type 0
IfUndone P (ends.Done created present) = ⊤
IfUndone P ends.LinkFault = P
IfUndone P ends.ReadFault = P
IfUndone P (ends.BadLine i) = P
IfUndone P (ends.Cut i) = P
IfUndone P ends.TooMany = P
IfUndone P (ends.Answer i c) = P
IfUndone P ends.NoMemory = P

-- where the output failed, P holds
abbrev pub IfUnwritten : Type 0 → LoadEnd → Type 0
IfUnwritten P (Restored d) = ⊤
IfUnwritten P (WriteFault created present) = P
