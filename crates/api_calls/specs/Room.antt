-- What there is too little room for. Weights are in chunks of 256 bytes.
use Rattle.std.specs.Prelude.{ℕ, List, Option, None, Some, length, nat_lt, if◌then◌else◌}
use Rattle.kube_meta.specs.Plan.{Migration}
use Rattle.kube_meta.specs.declared.limits.Limits.{Limits}
use Rattle.kube_meta.specs.declared.limits.Room.{Room}
use Rattle.kube_meta.specs.declared.limits.RoomKind.TheVariants.{Migrations}
use Rattle.kube_meta.specs.Room as room
use Rattle.api_calls.specs.Objects.{Stored, live}

-- the chunks that are free, where the object of this weight goes
abbrev pub free_chunks : Limits → List Stored → ℕ → ℕ
free_chunks limits es going = room.free_chunks limits (live es) going

-- the lack of room for an object of a weight, where one of another weight goes
abbrev pub lacking_chunks : Limits → List Stored → ℕ → ℕ → Option Room
lacking_chunks limits es going w = room.lacking_chunks limits (live es) going w

-- the lack of room for one more object; the number of objects is tried first
abbrev pub lacking : Limits → List Stored → ℕ → Option Room
lacking limits es w = room.lacking limits (length es) (live es) w

-- the lack of room for one more migration
abbrev pub lacking_migrations : Limits → List Migration → Option Room
lacking_migrations limits ms =
    if nat_lt (length ms) limits.migrations then None else Some (record { what = Migrations; need = 1; free = 0 })
