-- What a write answers, and what there is too little room for. Weights are in chunks of 256 bytes.
use Rattle.std.specs.Prelude.{◌≡◌, ℕ, Bool, true, false, Option, None, Some, length, nat_eq, if◌then◌else◌}
use Rattle.kube_meta.specs.Window.{weights}
use Rattle.kube_meta.specs.declared.limits.Room.{Room}
use Rattle.kube_meta.specs.Room as room
use Rattle.record_store.specs.View.{Item, StoreView, item_weight}
use Rattle.record_store.specs.declared.answer.PutEnd.{PutEnd}
use Rattle.record_store.specs.declared.answer.PutEnd.TheVariants.{Done, Present, Gone, Moved, Full}

-- the chunks that are free, where a record of this weight goes
abbrev pub free_chunks : StoreView → ℕ → ℕ
free_chunks s going = room.free_chunks s.limits (weights item_weight s.items) going

abbrev pub lacking_chunks : StoreView → ℕ → ℕ → Option Room
lacking_chunks s going weight = room.lacking_chunks s.limits (weights item_weight s.items) going weight

-- the number of objects is tried first
abbrev pub lacking : StoreView → ℕ → Option Room
lacking s weight = room.lacking s.limits (length s.items) (weights item_weight s.items) weight

abbrev pub unless_full : Option Room → PutEnd
unless_full None = Done
unless_full (Some room) = Full room

-- of a write that asks for absence, or for a number, where this stands
abbrev pub put_end : Option ℕ → ℕ → Option Item → StoreView → PutEnd
put_end None weight None s = unless_full (lacking s weight)
put_end None weight (Some x) s = Present
put_end (Some number) weight None s = Gone
put_end (Some number) weight (Some x) s = if nat_eq x.rv number then unless_full (lacking_chunks s x.weight weight) else Moved x.rv

-- of a touch
abbrev pub touch_end : ℕ → Option Item → PutEnd
touch_end number None = Gone
touch_end number (Some x) = if nat_eq x.rv number then Done else Moved x.rv

abbrev pub is_done : PutEnd → Bool
is_done Done = true
is_done Present = false
is_done Gone = false
is_done (Moved newer) = false
is_done (Full room) = false

-- nothing is lacking for a weight, where this stands
abbrev pub HasRoom : ℕ → Option Item → StoreView → Type 0
HasRoom weight None s = lacking s weight ≡ None
HasRoom weight (Some x) s = lacking_chunks s x.weight weight ≡ None
