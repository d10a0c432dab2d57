use Rattle.kube_meta.specs.View.{object_of}
use Rattle.api_calls.specs.Item.{entry, Create}
use Rattle.shared_api.proofs.writing.enter_new.Given as goal

abbrev pub ghosts-finish : goal.ghosts-finish
ghosts-finish g a = record { item = entry (Create a.about.now.0.value.key (object_of a.about.now.1.value) a.about.now.0.value.weight) }
