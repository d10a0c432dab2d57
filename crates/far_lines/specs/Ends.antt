-- How a line ends that migrates objects, and what was done and written then.
use Rattle.std.specs.Prelude.{◌≡◌, ◌<◌, ◌==◌, ℕ, List, Option, if◌then◌else◌}
use Rattle.std.specs.Io.KnownBytes.{append_known}
use Rattle.edge_io.specs.Sends.{AddsSome}
use Rattle.tcp_links.specs.Links.{Ending}
use Rattle.place.specs.Place.{IsPlace, Names, PlaceView}
use Rattle.far_migrate.specs.Counts.{Counts, fault_of}
use Rattle.far_migrate.specs.Puts.{all, failed}
use Rattle.far_migrate.specs.declared.tally.FarFault.{FarFault}
use Rattle.far_migrate.specs.declared.tally.FarFault.TheVariants as faults
use Rattle.far_lines.specs.Migrated.{Migrated, tally_lines}
use Rattle.far_lines.specs.declared.end.MigrateEnd.{MigrateEnd}
use Rattle.far_lines.specs.declared.end.MigrateEnd.TheVariants.{Done, Contested, BadPlace, LinkFault, Answer, Restarted, WriteFault, NoMemory}

-- the whole tally was written and handed on
pub record Wrote (t : Counts) (before written flushed : Option (List ℕ)) : Type 0 where
  pub wrote : written ≡ append_known before (tally_lines t)
  pub handed_on : flushed ≡ written

-- what was written of a tally
abbrev pub Told : Counts → Option (List ℕ) → Option (List ℕ) → Option (List ℕ) → MigrateEnd → Type 0
Told t before written flushed Done = (t.contested ≡ 0) × Wrote t before written flushed
Told t before written flushed Contested = (0 < t.contested) × Wrote t before written flushed
Told t before written flushed BadPlace = ⊥
Told t before written flushed LinkFault = ⊥
Told t before written flushed (Answer code) = ⊥
Told t before written flushed Restarted = ⊥
Told t before written flushed WriteFault = AddsSome before written (tally_lines t)
Told t before written flushed NoMemory = Unit {0}

-- where the output failed, P holds
abbrev pub OnUnwritten : Type 0 → MigrateEnd → Type 0
OnUnwritten P Done = Unit {0}
OnUnwritten P Contested = Unit {0}
OnUnwritten P BadPlace = Unit {0}
OnUnwritten P LinkFault = Unit {0}
OnUnwritten P (Answer code) = Unit {0}
OnUnwritten P Restarted = Unit {0}
OnUnwritten P WriteFault = P
OnUnwritten P NoMemory = Unit {0}

-- where nothing is told of a tally, P holds
abbrev pub IfSilent : Type 0 → MigrateEnd → Type 0
IfSilent P Done = Unit {0}
IfSilent P Contested = Unit {0}
IfSilent P BadPlace = P
IfSilent P LinkFault = P
IfSilent P (Answer code) = P
IfSilent P Restarted = P
IfSilent P WriteFault = Unit {0}
IfSilent P NoMemory = P

abbrev pub settled_end : ℕ → MigrateEnd
settled_end contested = if contested == 0 then Done else Contested

abbrev pub fault_end : FarFault → MigrateEnd
fault_end faults.LinkFault = LinkFault
fault_end (faults.Answer code) = Answer code
fault_end faults.Restarted = Restarted
fault_end faults.NoMemory = NoMemory

-- what the objects of a place came to over one link, and what was written of it
pub data Came (n : Names) (linked_before linked : Option (List Ending)) (before written flushed : Option (List ℕ)) (e : MigrateEnd) : Type 0 where
  -- they were put back
  put_back : (t : Counts) → Migrated n linked_before linked (all t) → Told t before written flushed e → Came n linked_before linked before written flushed e
  -- there is no tally
  broke : (fault : FarFault) → e ≡ fault_end fault → Migrated n linked_before linked (failed (fault_of fault)) → Came n linked_before linked before written flushed e
  -- there was no memory for a link
  unmade : e ≡ NoMemory → linked ≡ linked_before → Came n linked_before linked before written flushed e

-- the same of the place whose address a text is
pub data CameOf (url : List ℕ) (linked_before linked : Option (List Ending)) (before written flushed : Option (List ℕ)) (e : MigrateEnd) : Type 0 where
  at_place : (p : PlaceView) → IsPlace url p → Came p.names linked_before linked before written flushed e → CameOf url linked_before linked before written flushed e
  -- it is the address of none
  placeless : e ≡ BadPlace → ((p : PlaceView) → IsPlace url p → ⊥) → linked ≡ linked_before → CameOf url linked_before linked before written flushed e
  -- there was no memory to read it
  unread : e ≡ NoMemory → linked ≡ linked_before → CameOf url linked_before linked before written flushed e
