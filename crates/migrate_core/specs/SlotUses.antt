-- What the fields of a slot are seen as.
use Rattle.kube_meta.specs.Plan.{Span, Slot, Free, Held, Loose}
use Rattle.migrate_core.specs.declared.slot.SlotUse.{SlotUse}
use Rattle.migrate_core.specs.declared.slot.SlotUse.TheVariants.{Free as Unused, Held as HeldBy, Loose as GivenBack}

abbrev pub slot_of : SlotUse → Span → Slot
slot_of Unused r = Free
slot_of (HeldBy c) r = Held c r
slot_of GivenBack r = Loose r
