-- The ends of a core's calls, in the words of the history.
use Rattle.std.specs.Prelude.{ℕ}
use Rattle.migrate_core.specs.declared.ends.StartEnd.{StartEnd}
use Rattle.migrate_core.specs.declared.ends.StartEnd.TheVariants as start
use Rattle.api_calls.specs.Versions.{versions_of}
use Rattle.api_calls.specs.Ends as ends
use Rattle.api_calls.specs.Ends.{WriteEnd, done, kept, same, unserved, present, gone, newer, forbidden, storage_moved, full}
use Rattle.api_core.specs.declared.ends.CreateEnd.{CreateEnd}
use Rattle.api_core.specs.declared.ends.CreateEnd.TheVariants as create
use Rattle.api_core.specs.declared.ends.ReplaceEnd.{ReplaceEnd}
use Rattle.api_core.specs.declared.ends.ReplaceEnd.TheVariants as replace
use Rattle.api_core.specs.declared.ends.DeleteEnd.{DeleteEnd}
use Rattle.api_core.specs.declared.ends.DeleteEnd.TheVariants as delete
use Rattle.api_core.specs.declared.ends.ReleaseEnd.{ReleaseEnd}
use Rattle.api_core.specs.declared.ends.ReleaseEnd.TheVariants as release
use Rattle.api_core.specs.declared.ends.SetEnd.{SetEnd}
use Rattle.api_core.specs.declared.ends.SetEnd.TheVariants as set
use Rattle.api_core.specs.declared.ends.TrimEnd.{TrimEnd}
use Rattle.api_core.specs.declared.ends.TrimEnd.TheVariants as trim
use Rattle.api_core.specs.declared.ends.TurnEnd.{TurnEnd}
use Rattle.api_core.specs.declared.ends.TurnEnd.TheVariants as turn

-- an object that is created was born by the same entry
abbrev pub create_end : CreateEnd → WriteEnd
create_end (create.Done rv) = done rv rv
create_end create.Unserved = unserved
create_end create.AlreadyExists = present
create_end (create.StorageMoved now) = storage_moved now
create_end (create.Full room) = full room

abbrev pub replace_end : ReplaceEnd → WriteEnd
replace_end (replace.Done rv born) = done rv born
replace_end replace.Unserved = unserved
replace_end replace.Gone = gone
replace_end (replace.Moved n) = newer n
replace_end (replace.StorageMoved now) = storage_moved now
replace_end (replace.Full room) = full room

abbrev pub delete_end : DeleteEnd → WriteEnd
delete_end (delete.Done rv born) = done rv born
delete_end (delete.Kept rv born) = kept rv born
delete_end delete.Unserved = unserved
delete_end delete.NotFound = gone
delete_end (delete.Moved n) = newer n
delete_end (delete.StorageMoved now) = storage_moved now

abbrev pub release_end : ReleaseEnd → WriteEnd
release_end (release.Done rv born) = done rv born
release_end release.Unserved = unserved
release_end release.Gone = gone
release_end (release.Moved n) = newer n

abbrev pub set_end : SetEnd → ends.SetEnd
set_end (set.Done rv stored) = ends.set (versions_of stored)
set_end (set.Unchanged stored) = ends.unchanged (versions_of stored)

abbrev pub trim_end : TrimEnd → ends.TrimEnd
trim_end (trim.Done rv flags stored) = ends.trimmed flags (versions_of stored)
trim_end (trim.Unchanged flags stored) = ends.untrimmed flags (versions_of stored)
trim_end (trim.Unknown v) = ends.unknown v
trim_end (trim.StillStored v key) = ends.still_stored v key

abbrev pub start_end : StartEnd → ends.StartEnd
start_end (start.Done target) = ends.started target
start_end start.AlreadyExists = ends.taken
start_end (start.Running name) = ends.busy name
start_end (start.Full room) = ends.no_room room

abbrev pub turn_end : TurnEnd → ends.TurnEnd
turn_end turn.Idle = ends.idle
turn_end turn.Claimed = ends.claimed
turn_end (turn.Prepare key rv) = ends.prepare key rv
turn_end (turn.Touched rv) = ends.touched rv
turn_end turn.Moved = ends.missed
turn_end turn.RangeDone = ends.range_done
turn_end (turn.Finished rv) = ends.finished rv

-- the revision after a write: what is entered has the next number
abbrev pub revision_after : WriteEnd → ℕ → ℕ
revision_after (done rv born) r = rv
revision_after (kept rv born) r = rv
revision_after (same rv born) r = r
revision_after unserved r = r
revision_after present r = r
revision_after gone r = r
revision_after (newer n) r = r
revision_after forbidden r = r
revision_after (storage_moved now) r = r
revision_after (full room) r = r
