-- What there is too little room for. Weights are in chunks of 256 bytes; those that stand weigh `used` together.
use Rattle.std.specs.Prelude.{ℕ, ◌+◌, ◌-◌, Option, None, Some, nat_lt, if◌then◌else◌}
use Rattle.kube_meta.specs.declared.limits.Limits.{Limits}
use Rattle.kube_meta.specs.declared.limits.Room.{Room}
use Rattle.kube_meta.specs.declared.limits.RoomKind.TheVariants.{Objects, Chunks}

-- the chunks that are free, where what has this weight goes
abbrev pub free_chunks : Limits → ℕ → ℕ → ℕ
free_chunks limits used going = limits.chunks - used + going

-- the lack of room for a weight, where another weight goes
abbrev pub lacking_chunks : Limits → ℕ → ℕ → ℕ → Option Room
lacking_chunks limits used going weight =
    if nat_lt (free_chunks limits used going) weight then Some (record { what = Chunks; need = weight; free = free_chunks limits used going }) else None

-- the lack of room for one more, where so many stand; the number of objects is tried first
abbrev pub lacking : Limits → ℕ → ℕ → ℕ → Option Room
lacking limits count used weight =
    if nat_lt count limits.objects then lacking_chunks limits used 0 weight else Some (record { what = Objects; need = 1; free = 0 })
