-- What each call makes of a core's view, whatever the values of a definition mean: a call that is refused, and one that enters nothing, leaves it as it was, and one that enters an item changes what that item names.
use Rattle.std.specs.Prelude.{ℕ, ◌+◌, Bool, true, false, List, Option, None, Some, map, nat_eq, if◌then◌else◌}
use Rattle.kube_meta.specs.Key.{KeyView}
use Rattle.record_store.specs.Moves.{with_new, removed}
use Rattle.migrate_core.specs.Moves as moves
use Rattle.migrate_core.specs.declared.ends.StartEnd.{StartEnd}
use Rattle.migrate_core.specs.declared.ends.StartEnd.TheVariants as start
use Rattle.api_calls.specs.Versions.{versions_of}
use Rattle.api_calls.specs.declared.flags.Flags.{Flags}
use Rattle.api_core.specs.declared.ends.CreateEnd.{CreateEnd}
use Rattle.api_core.specs.declared.ends.CreateEnd.TheVariants as create
use Rattle.api_core.specs.declared.ends.ReplaceEnd.{ReplaceEnd}
use Rattle.api_core.specs.declared.ends.ReplaceEnd.TheVariants as replace
use Rattle.api_core.specs.declared.ends.DeleteEnd.{DeleteEnd}
use Rattle.api_core.specs.declared.ends.DeleteEnd.TheVariants as delete
use Rattle.api_core.specs.declared.ends.ReleaseEnd.{ReleaseEnd}
use Rattle.api_core.specs.declared.ends.ReleaseEnd.TheVariants as release
use Rattle.api_core.specs.declared.ends.SetEnd.{SetEnd}
use Rattle.api_core.specs.declared.ends.SetEnd.TheVariants as set
use Rattle.api_core.specs.declared.ends.TrimEnd.{TrimEnd}
use Rattle.api_core.specs.declared.ends.TrimEnd.TheVariants as trim
use Rattle.api_core.specs.declared.ends.TurnEnd.{TurnEnd}
use Rattle.api_core.specs.declared.ends.TurnEnd.TheVariants as turn
use Rattle.api_core.specs.declared.seen.Prepared.{Prepared}
use Rattle.api_core.specs.Prepared.{record_for}
use Rattle.api_core.specs.Steps.{item_row}
use Rattle.api_core.specs.View.{CoreView}

-- ---- one record

-- what was prepared stands under its key, by the entry of a number; every other record stays
abbrev pub with_record : ℕ → Prepared → CoreView → CoreView
with_record rv new c = record c { revision = rv; store = with_new rv (record_for new) c.store }

-- no record stands under a key any more
abbrev pub without_record : ℕ → KeyView → CoreView → CoreView
without_record rv k c = record c { revision = rv; store = removed rv k c.store }

abbrev pub with_ready : ℕ → Option Prepared → CoreView → CoreView
with_ready rv None c = c
with_ready rv (Some new) c = with_record rv new c

-- ---- commits

abbrev pub after_create : CreateEnd → Prepared → CoreView → CoreView
after_create (create.Done rv) new c = with_record rv new c
after_create create.Unserved new c = c
after_create create.AlreadyExists new c = c
after_create (create.StorageMoved now) new c = c
after_create (create.Full room) new c = c

abbrev pub after_replace : ReplaceEnd → Prepared → CoreView → CoreView
after_replace (replace.Done rv born) new c = with_record rv new c
after_replace replace.Unserved new c = c
after_replace replace.Gone new c = c
after_replace (replace.Moved newer) new c = c
after_replace (replace.StorageMoved now) new c = c
after_replace (replace.Full room) new c = c

abbrev pub after_delete : DeleteEnd → KeyView → Option Prepared → CoreView → CoreView
after_delete (delete.Done rv born) k ready c = without_record rv k c
after_delete (delete.Kept rv born) k ready c = with_ready rv ready c
after_delete delete.Unserved k ready c = c
after_delete delete.NotFound k ready c = c
after_delete (delete.Moved newer) k ready c = c
after_delete (delete.StorageMoved now) k ready c = c

abbrev pub after_release : ReleaseEnd → KeyView → CoreView → CoreView
after_release (release.Done rv born) k c = without_record rv k c
after_release release.Unserved k c = c
after_release release.Gone k c = c
after_release (release.Moved newer) k c = c

-- ---- settings: no record changes

abbrev pub after_set : SetEnd → Flags → CoreView → CoreView
after_set (set.Done rv stored) f c = record c {
  flags = f;
  stored = versions_of stored;
  revision = rv;
  migrations = if nat_eq f.storage c.flags.storage then c.migrations else moves.after_fail c.migrations;
}
after_set (set.Unchanged stored) f c = c

abbrev pub after_trim : TrimEnd → CoreView → CoreView
after_trim (trim.Done rv flags stored) c = record c { stored = versions_of stored; revision = rv }
after_trim (trim.Unchanged flags stored) c = c
after_trim (trim.Unknown v) c = c
after_trim (trim.StillStored v key) c = c

abbrev pub after_start : StartEnd → List ℕ → CoreView → CoreView
after_start (start.Done target) name c = record c { revision = c.revision + 1; migrations = moves.after_start (start.Done target) name c.migrations }
after_start start.AlreadyExists name c = c
after_start (start.Running other) name c = c
after_start (start.Full room) name c = c

-- ---- workers: no record changes but the one that is touched

abbrev pub touched : ℕ → Option ℕ → Option Prepared → CoreView → CoreView
touched rv claim None c = c
touched rv claim (Some new) c = record (with_record rv new c) { migrations = moves.after_pass (moves.work_of claim c.migrations) new.key c.migrations }

-- the claim is the one that the worker had
abbrev pub after_turn : TurnEnd → Option ℕ → Option Prepared → CoreView → CoreView
after_turn turn.Idle claim ready c = c
after_turn turn.Claimed claim ready c = record c { migrations = moves.after_claim (map item_row c.store.items) c.migrations }
after_turn (turn.Prepare k rv) claim ready c = c
after_turn (turn.Touched rv) claim ready c = touched rv claim ready c
after_turn turn.Moved claim ready c = c
after_turn turn.RangeDone claim ready c = record c { migrations = moves.after_advance (moves.work_of claim c.migrations) (map item_row c.store.items) c.migrations }
after_turn (turn.Finished rv) claim ready c = record c { revision = rv; migrations = moves.after_mark c.migrations }

-- whether the claim was held, and the claim
abbrev pub after_give_back : Bool → Option ℕ → CoreView → CoreView
after_give_back false claim c = c
after_give_back true claim c = record c { migrations = moves.after_give_back (moves.work_of claim c.migrations) c.migrations }
