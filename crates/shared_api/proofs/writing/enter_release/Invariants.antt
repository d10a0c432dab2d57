use Rattle.api_calls.specs.Item.{entry, Release}
use Rattle.shared_api.proofs.writing.enter_release.Given as goal

abbrev pub ghosts-finish : goal.ghosts-finish
ghosts-finish g a = record { item = entry (Release a.about.now.0.value a.about.now.1) }
