-- What a run of a line comes to that works on a server from outside.
use Rattle.std.specs.Prelude.{◌≡◌, ◌⊎◌, ⊤, ℕ, List}
use Rattle.std.specs.Io.KnownBytes.{IsAtEnd}
use Rattle.place.specs.Place.{IsPlace, OnBadPlace, PlaceView}
use Rattle.place.specs.declared.PlaceFault.{PlaceFault}
use Rattle.record_dump.specs.Dumps.{OnBrokenOff, OnDone, OnFaults as OnDumpFaults}
use Rattle.record_dump.specs.Restores.{OnEnd, OnFaults as OnRestoreFaults}
use Rattle.record_dump.specs.declared.ends.DumpEnd.{DumpEnd}
use Rattle.far_lines.specs.Ends.{CameOf, IfSilent, OnUnwritten}
use Rattle.far_lines.specs.Dumped.{DumpedAt}
use Rattle.far_lines.specs.Loaded.{IfUndone, IfUnwritten, LoadedAt, WroteOf, restored_to}
use Rattle.far_lines.specs.declared.end.MigrateEnd.{MigrateEnd}
use Rattle.far_lines.specs.declared.end.LoadEnd.{LoadEnd}
use Rattle.kubeconv_cmd.specs.World.{World, input, left, written_before, written, flushed, linked_before, linked, InputFails, InputStays, OutputFails, OutputStays, Says}
use Rattle.kubeconv_cmd.specs.Status.{Told, status_told, line_told, place_told, migration_told, dump_told, load_told}

-- what is told is the status, and its line
pub record IsTold {F S K E A L I O : Type 0} (w : World F S K E A L I O) (told : Told) (status : ℕ) : Type 0 where
  pub status_is : status ≡ status_told told
  pub says : Says w (line_told told)

-- The migration of the objects at the place of the address came to this end over the one link that was made and given back, or no link was made.
pub record MigrateOutcome {F S K E A L I O : Type 0} (w : World F S K E A L I O) (url : List ℕ) (status : ℕ) : Type 0 where
  pub end : MigrateEnd
  pub is_told : IsTold w (migration_told end) status
  pub came : CameOf url (linked_before w) (linked w) (written_before w) (written w) (flushed w) end
  pub cause : OnUnwritten (OutputFails w) end
  pub silent : IfSilent (OutputStays w) end

-- no place was had, and no link was made
pub record Unplaced {F S K E A L I O : Type 0} (w : World F S K E A L I O) (url : List ℕ) (status : ℕ) : Type 0 where
  pub fault : PlaceFault
  pub is_told : IsTold w (place_told fault) status
  pub none : OnBadPlace ((p : PlaceView) → IsPlace url p → ⊥) fault
  pub unlinked : linked w ≡ linked_before w
  pub untouched : InputStays w
  pub silent : OutputStays w

-- The dump over the one link came to this end: its objects were written as lines.
pub data DumpOutcome {F S K E A L I O : Type 0} (w : World F S K E A L I O) (url : List ℕ) (status : ℕ) : Type 0 where
  dumped : (d : DumpEnd) → IsTold w (dump_told d) status → DumpedAt url (linked_before w) (linked w) (written_before w) (written w) d
      → OnDumpFaults ⊤ (OutputFails w) d → OnDone (flushed w ≡ written w) d → OnBrokenOff (OutputStays w ⊎ (flushed w ≡ written w)) d → DumpOutcome w url status
  undumped : Unplaced w url status → DumpOutcome w url status

-- Lines of the input were posted over the one link to this end, and then the two numbers were written.
pub data LoadOutcome {F S K E A L I O : Type 0} (w : World F S K E A L I O) (url : List ℕ) (status : ℕ) : Type 0 where
  restored : (e : LoadEnd) → IsTold w (load_told e) status → LoadedAt url (linked_before w) (linked w) (input w) (left w) (restored_to e)
      → OnRestoreFaults ⊤ (InputFails w) (restored_to e) → OnEnd (IsAtEnd (left w)) (restored_to e) → IfUnwritten (OutputFails w) e
      → WroteOf (written_before w) (written w) (flushed w) e → IfUndone (OutputStays w) (restored_to e) → LoadOutcome w url status
  unloaded : Unplaced w url status → LoadOutcome w url status
