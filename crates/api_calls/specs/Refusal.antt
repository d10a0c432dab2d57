-- What a refusal is seen as: its cause, with the texts in it as bytes.
use Rattle.std.specs.Prelude.{ℕ, List, Option}
use Rattle.kube_meta.specs.Key.{KeyView}
use Rattle.kube_meta.specs.declared.limits.Room.{Room}
use Rattle.api_calls.specs.Cause.{CauseView, cause_of, WhyView, why_of}
use Rattle.api_calls.specs.declared.refusal.Refusal.{Refusal}
use Rattle.api_calls.specs.declared.refusal.Refusal.TheVariants.{NotFound, NoResource, AlreadyExists, Conflict, Invalid, BadRequest, Expired, Full, MigrationRunning, StillStored, Converter, NoMemory}
use Rattle.api_calls.specs.declared.refusal.Subject.{Subject}

-- what a document is about: the kind, a point and the group, and the name
pub record SubjectView : Type 0 where
  pub kind_group : List ℕ
  pub name : List ℕ

abbrev pub subject_of : Subject → SubjectView
subject_of s = record { kind_group = s.kind_group.bytes; name = s.name.bytes }

pub data RefusalView : Type 0 where
  -- no object has the name
  not_found : List ℕ → RefusalView
  -- the version isn't known or isn't served, or nothing has the path
  no_resource : RefusalView
  -- an object has the name already
  already_exists : List ℕ → RefusalView
  -- the object of this name stands at another resource version
  conflict : List ℕ → ℕ → RefusalView
  -- a document breaks a rule
  invalid : SubjectView → CauseView → RefusalView
  bad_request : WhyView → RefusalView
  -- the continue token is older than this resource version
  expired : ℕ → RefusalView
  full : Room → RefusalView
  -- the migration of this name is running
  migration_running : List ℕ → RefusalView
  -- the version is the storage version, or an object is still stored at it
  still_stored : List ℕ → Option KeyView → RefusalView
  converter : RefusalView
  no_memory : RefusalView

abbrev pub refusal_of : Refusal → RefusalView
refusal_of (NotFound name) = not_found name.bytes
refusal_of NoResource = no_resource
refusal_of (AlreadyExists name) = already_exists name.bytes
refusal_of (Conflict name newer) = conflict name.bytes newer
refusal_of (Invalid subject cause) = invalid (subject_of subject) (cause_of cause)
refusal_of (BadRequest why) = bad_request (why_of why)
refusal_of (Expired floor) = expired floor
refusal_of (Full room) = full room
refusal_of (MigrationRunning name) = migration_running name.bytes
refusal_of (StillStored version key) = still_stored version.bytes key
refusal_of Converter = converter
refusal_of NoMemory = no_memory
