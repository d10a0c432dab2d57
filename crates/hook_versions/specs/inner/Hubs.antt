-- For private clauses: what is told of a name that no version has.
use Rattle.std.specs.Prelude.{◌≡◌, ⊤}
use Rattle.crd_loading.specs.Blame.{blame}
use Rattle.crd_loading.specs.declared.loading.LoadFault.{LoadFault}
use Rattle.crd_loading.specs.declared.loading.LoadFault.TheVariants.{Refused, NoMemory}
use Rattle.crd_loading.specs.declared.loading.Which.TheVariants.{Crd, Rules}
use Rattle.hook_versions.specs.Loads.{no_hub}

abbrev pub SaysNoHub : LoadFault → Type 0
SaysNoHub NoMemory = ⊤
SaysNoHub (Refused Crd path word) = blame path.bytes word.bytes ≡ no_hub
SaysNoHub (Refused Rules path word) = ⊥
