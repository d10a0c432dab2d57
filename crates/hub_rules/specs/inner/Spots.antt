-- What a spot and a reason of the program are, and how a fault is told by an answer.
use Rattle.hub_rules.specs.Refusal as refusal
use Rattle.hub_rules.specs.declared.spot.Why.{Why}
use Rattle.hub_rules.specs.declared.spot.Why.TheVariants.{NameTwice, NameMissing, SchemaDiffers, UnpairedDefault, RequiredLost, RangeLost}

abbrev pub why : Why → refusal.Why
why NameTwice = refusal.name_twice
why NameMissing = refusal.name_missing
why SchemaDiffers = refusal.schema_differs
why UnpairedDefault = refusal.unpaired_default
why RequiredLost = refusal.required_lost
why RangeLost = refusal.range_lost
