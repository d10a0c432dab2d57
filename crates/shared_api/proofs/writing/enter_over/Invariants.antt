use Rattle.kube_meta.specs.View.{object_of}
use Rattle.api_calls.specs.Item.{entry, Replace}
use Rattle.shared_api.proofs.writing.enter_over.Given as goal

abbrev pub ghosts-finish : goal.ghosts-finish
ghosts-finish g a = record { item = entry (Replace a.about.now.0.value.key a.about.now.2 (object_of a.about.now.1.value) a.about.now.0.value.weight) }
