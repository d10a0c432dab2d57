-- An object with the resource version and the uid that its document is to show, where it is to show them.
use Rattle.std.specs.Prelude.{ℕ, List, Option}
use Rattle.kube_meta.specs.View.{ObjectView}

abbrev pub with_given : Option (List ℕ) → Option (List ℕ) → ObjectView → ObjectView
with_given number uid x = record x { meta = record x.meta { resource_version = number; uid = uid } }
